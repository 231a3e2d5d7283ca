-- The steps leave no input out, as far as a contract and the grammar leave none out.
use Rattle.std.proofs.Common.{◌≡◌, ℕ, ◌<◌, true, List, [], ◌∷◌, length, refl, sym, subst, ap, arith, inl, inr}
use Rattle.std.specs.Prelude.{Option, Some, None, IsSomeAnd, ◌⊎◌}
use Rattle.lv_io.specs.Causes.{Rose}
use Rattle.lv_io.specs.Files.{Files, HoldsFile, IsAbsent, IsLonger}
use Rattle.lv_io.specs.Outside.{ShelfState, Goes}
use Rattle.lv_ast.specs.Folds.{reading_of, counted}
use Rattle.lv_ast.specs.Folds as folds
use Rattle.lv_ast.specs.Sources.{source_text}
use Rattle.lv_contract.specs.declared.need.Need.{Need}
use Rattle.lv_lexer.specs.declared.error.DirectiveError.TheVariants as directive
use Rattle.lv_steps.specs.declared.ended.Unread.{Unread}
use Rattle.lv_steps.specs.declared.ended.Unread.TheVariants as u
use Rattle.lv_steps.specs.declared.ended.Ended.TheVariants as t
use Rattle.lv_steps.specs.declared.files.Limits.{Limits}
use Rattle.lv_steps.specs.Files.{IsRead, AreRead, IsUnread, IsNext}
use Rattle.lv_steps.specs.Texts.{Lexed}
use Rattle.lv_steps.specs.Chain.{folds, reads_source, reads_contract_file, reads_files, joins, reads_text, reads_design, says, reads_contract, reads_input}
use Rattle.lv_steps.specs.Total.{is_own, IsAnswered, IsTotal, GrammarAnswers, StepsAreTotal}
use Rattle.lv_steps.proofs.Lexing.{lt_or_le, lexes_total}
use Rattle.lv_steps.proofs.Reading.{unread_later}
use Rattle.lv_steps.proofs.Total.{total_then, total_keeping}

-- ---- directives

stop-answer : (x : Lexed) (s : folds.Stop) → (reading_of x.text x.list).stop ≡ Some s → IsAnswered folds x
stop-answer x (folds.UnknownMacro p) e = inr (t.Directives (directive.UnknownMacro p), e, refl)
stop-answer x (folds.Unbalanced p) e = inr (t.Directives (directive.Unbalanced p), e, refl)
stop-answer x (folds.Malformed p) e = inr (t.Directives (directive.Malformed p), e, refl)
stop-answer x (folds.Depth p) e = inr (t.Directives (directive.Depth p), e, refl)

count-answer : (x : Lexed) → (reading_of x.text x.list).stop ≡ None → IsAnswered folds x
count-answer x e = elim (lt_or_le 500000 (counted (reading_of x.text x.list))) [
  | inl many ↦ inr (t.Directives (directive.TooMany 500001), (refl, many), refl)
  | inr few ↦ inl (record { text = x.text; list = (reading_of x.text x.list).tokens }, record { same = refl; unstopped = e; few = few; left = refl })
]

folds_total : IsTotal folds
folds_total x =
    elim ((reading_of x.text x.list).stop) as (λ o. (reading_of x.text x.list).stop ≡ o → IsAnswered folds x) [
      | None ↦ λ e. count-answer x e
      | Some s ↦ λ e. stop-answer x s e
    ] refl

-- ---- from the text to the source

source_total : GrammarAnswers → IsTotal reads_source
source_total grammar text = elim (lexes_total text) [
  | inl h ↦ elim (folds_total h.0) [
    | inl k ↦ elim (grammar text h.0 k.0 h.1 k.1) [
      | inl z ↦ inl (z.0, (h.0, h.1, (k.0, k.1, z.1)))
      | inr r ↦ inr (r.0, inr (h.0, h.1, inr (k.0, k.1, r.1)), r.2)
    ]
    | inr r ↦ inr (r.0, inr (h.0, h.1, inl r.1), r.2)
  ]
  | inr r ↦ inr (r.0, inl r.1, r.2)
]

module _ (limits : Limits) (need : Need) (before after : ShelfState) (files : Files) (told : before.files ≡ Some files)
    (missed : Rose before.misses after.misses) (long : Rose before.overlong after.overlong) where
  -- ---- one file

  -- its bytes, or why they aren't read
  abbrev FileAnswer : (List ℕ → Type 0) → List ℕ → Type 0
  FileAnswer P name = ((bytes : List ℕ) × IsRead limits.file before.files name bytes) ⊎ ((x : Unread) × IsUnread limits.file P before after x × (is_own (t.File x) ≡ true))

  abbrev Named : List ℕ → List ℕ → Type 0
  Named name z = z ≡ name

  held : (name bytes : List ℕ) → files name ≡ Some bytes → FileAnswer (Named name) name
  held name bytes e = elim (lt_or_le limits.file (length bytes)) [
    | inl l ↦
        let longer : IsSomeAnd (files name) (λ bytes. limits.file < length bytes) = subst (λ (o : Option (List ℕ)). IsSomeAnd o (λ bytes. limits.file < length bytes)) (sym e) l in
        inr (u.TooLong name, (refl, long, subst (λ o. IsLonger name limits.file o) (sym told) longer), refl)
    | inr l ↦ inl (bytes, record { held = subst (λ o. HoldsFile name bytes o) (sym told) e; short = l })
  ]

  file : (name : List ℕ) → FileAnswer (Named name) name
  file name =
      elim (files name) as (λ o. files name ≡ o → FileAnswer (Named name) name) [
        | None ↦ λ e. inr (u.Missing name, (refl, missed, subst (λ o. IsAbsent name o) (sym told) e), refl)
        | Some bytes ↦ λ e. held name bytes e
      ] refl

  file_total : IsTotal (reads_contract_file limits before after)
  file_total name = elim (file name) [ inl h ↦ inl h | inr r ↦ inr (t.File r.0, r.1, r.2) ]

  -- ---- all files

  abbrev Next : List (List ℕ) → List ℕ → Type 0
  Next names = IsNext limits.file before.files names

  stays : Goes before before
  stays = record { files = refl; faults = omega arith; misses = omega arith; overlong = omega arith }

  first-next : (name : List ℕ) (names : List (List ℕ)) (z : List ℕ) → z ≡ name → Next (name ∷ names) z
  first-next name names z e = record { front = []; rest = names; stands = ap (λ y. y ∷ names) (sym e); parts = []; read = tt }

  later-next : (name bytes : List ℕ) (names : List (List ℕ)) → IsRead limits.file before.files name bytes → (z : List ℕ) → Next names z → Next (name ∷ names) z
  later-next name bytes names h z n = record { front = name ∷ n.front; rest = n.rest; stands = ap (λ ns. name ∷ ns) n.stands; parts = bytes ∷ n.parts; read = (h, n.read) }

  abbrev FilesAnswer : List (List ℕ) → Type 0
  FilesAnswer names =
      ((parts : List (List ℕ)) × AreRead limits.file before.files names parts) ⊎ ((x : Unread) × IsUnread limits.file (Next names) before after x × (is_own (t.File x) ≡ true))

  all : (names : List (List ℕ)) → FilesAnswer names
  all [] = inl ([], tt)
  all (name ∷ names) = elim (file name) [
    | inr r ↦ inr (r.0, unread_later limits.file (Named name) (Next (name ∷ names)) before before after r.0 stays (first-next name names) r.1, r.2)
    | inl h ↦ elim (all names) [
      | inl k ↦ inl (h.0 ∷ k.0, (h.1, k.1))
      | inr r ↦ inr (r.0, unread_later limits.file (Next names) (Next (name ∷ names)) before before after r.0 stays (later-next name h.0 names h.1) r.1, r.2)
    ]
  ]

  files_total : IsTotal (reads_files limits before after)
  files_total c = elim (all c.files) [ inl h ↦ inl h | inr r ↦ inr (t.File r.0, r.1, r.2) ]

  joins_total : IsTotal (joins limits before after)
  joins_total parts = elim (lt_or_le limits.text (length (source_text parts))) [
    | inl l ↦ inr (t.Source (length (source_text parts)), (refl, l), refl)
    | inr l ↦ inl (source_text parts, record { joined = refl; short = l })
  ]

  -- ---- all steps

  pub input_total : IsTotal (says need) → GrammarAnswers → IsTotal (reads_input limits need before after)
  input_total contracts grammar =
      total_keeping (reads_contract limits need before after) (reads_design limits before after)
      (total_then (reads_contract_file limits before after) (says need) file_total contracts)
      (total_then (reads_text limits before after) reads_source (total_then (reads_files limits before after) (joins limits before after) files_total joins_total) (source_total grammar))

pub total : StepsAreTotal
total limits need before after files told missed long contracts grammar = input_total limits need before after files told missed long contracts grammar
