-- The steps over files are exact, where files are told.
use Rattle.std.proofs.Common.{◌≡◌, ℕ, ◌<◌, ◌≤◌, true, List, [], ◌∷◌, ◌++◌, length, refl, sym, ◌∙◌, ap, subst, arith, inl, inr}
use Rattle.std.specs.Prelude.{Option, Some, None, IsSomeAnd}
use Rattle.toml.specs.Data.{Members}
use Rattle.lv_io.specs.Files.{Files, HoldsFile, IsAbsent, IsLonger}
use Rattle.lv_io.specs.Outside.{ShelfState}
use Rattle.lv_ast.specs.Sources.{source_text}
use Rattle.lv_contract.specs.declared.contract.Contract.{Contract}
use Rattle.lv_contract.specs.declared.error.ContractError.{ContractError}
use Rattle.lv_contract.specs.declared.key.Key.TheVariants as k
use Rattle.lv_contract.specs.declared.need.Need.{Need}
use Rattle.lv_contract.specs.Values.{texts_at}
use Rattle.lv_contract.specs.Says.{IsContractFile}
use Rattle.lv_steps.specs.declared.ended.Unread.TheVariants as u
use Rattle.lv_steps.specs.declared.ended.Ended.{Ended}
use Rattle.lv_steps.specs.declared.ended.Ended.TheVariants as t
use Rattle.lv_steps.specs.declared.files.Limits.{Limits}
use Rattle.lv_steps.specs.Step.{followed_by, keeping}
use Rattle.lv_steps.specs.Files.{IsRead, AreRead, AreUnread, IsNext, IsNoContract, IsJoined, IsUnjoined}
use Rattle.lv_steps.specs.Chain.{reads_source, reads_contract_file, reads_files, joins, reads_text, reads_design, says, reads_contract, reads_input}
use Rattle.lv_steps.specs.Exact.{IsExact, IsExcused, IsSameDesign, StepsAreExact, is_want}
use Rattle.lv_steps.proofs.Exact.{exact_then, exact_keeping}
use Rattle.lv_steps.proofs.Texts.{Wants, Is, source_exact}

none_some : {A : Type 0} (o : Option A) (x : A) → o ≡ None → o ≡ Some x → ⊥
none_some o x n s = cc

some_same : {A : Type 0} (x y : A) (o : Option A) → o ≡ Some x → o ≡ Some y → x ≡ y
some_same x y o e f = cc

abbrev SameFiles : Contract → Contract → Type 0
SameFiles c d = c.files ≡ d.files

-- ---- a contract

same_files : (need : Need) (bytes : List ℕ) (c d : Contract) → IsContractFile bytes need c → IsContractFile bytes need d → c.files ≡ d.files
same_files need bytes c d h g =
    let e : h.members ≡ g.members = some_same h.members g.members _ h.document.parsed g.document.parsed in
    h.contract.says.files ∙ ap (λ (ms : Members). texts_at k.Files ms) e ∙ sym g.contract.says.files

module _ (limits : Limits) (need : Need) (before after : ShelfState) (files : Files) (told : before.files ≡ Some files) where
  abbrev X : Ended → Type 0
  X e = IsExcused before after e

  says_apart : (x z : List ℕ) (c : Contract) (e : Ended) → x ≡ z → IsContractFile x need c → IsNoContract need z e → X e
  says_apart x z c (t.Contract err) same h r =
      inl (ap (λ (y : ContractError). is_want (t.Contract y)) (r.1 c (subst (λ w. IsContractFile w need c) same h)))
  says_apart x z c (t.Tokens y) same h r = absurd r
  says_apart x z c (t.File y) same h r = absurd r
  says_apart x z c (t.Source y) same h r = absurd r
  says_apart x z c (t.Directives y) same h r = absurd r
  says_apart x z c (t.Syntax y place) same h r = absurd r
  says_apart x z c t.NoMemory same h r = absurd r

  says_exact : IsExact (says need) X Is SameFiles
  says_exact = record {
    one = λ x z y w same h g. same_files need x y w h (subst (λ v. IsContractFile v need w) (sym same) g);
    apart = says_apart;
  }

  -- ---- files

  held_is : (limit : ℕ) (name bytes : List ℕ) → IsRead limit before.files name bytes → files name ≡ Some bytes
  held_is limit name bytes h = subst (λ o. HoldsFile name bytes o) told h.held

  -- the file's bytes are so few
  record Part (name : List ℕ) (limit : ℕ) : Type 0 where
    part : List ℕ
    is : files name ≡ Some part
    short : length part ≤ limit

  unread_excused : (limit : ℕ) (P : List ℕ → Type 0) → ((name : List ℕ) → P name → Part name limit) → (e : Ended) → AreUnread limit P before after e → X e
  unread_excused limit P held (t.File (u.Missing name)) h =
      let g : Part name limit = held name h.0 in
      let absent : files name ≡ None = subst (λ o. IsAbsent name o) told h.2 in
      absurd (none_some (files name) g.part absent g.is)
  unread_excused limit P held (t.File (u.TooLong name)) h =
      let g : Part name limit = held name h.0 in
      let short : length g.part ≤ limit = g.short in
      let longer : IsSomeAnd (files name) (λ bytes. limit < length bytes) = subst (λ o. IsLonger name limit o) told h.2 in
      let long : limit < length g.part = subst (λ (o : Option (List ℕ)). IsSomeAnd o (λ bytes. limit < length bytes)) g.is longer in
      absurd (omega (arith, short, long))
  unread_excused limit P held (t.File (u.Failed name)) h = inr (refl, h.1)
  unread_excused limit P held (t.File u.NoMemory) h = inl refl
  unread_excused limit P held (t.Contract y) h = absurd h
  unread_excused limit P held (t.Source y) h = absurd h
  unread_excused limit P held (t.Tokens y) h = absurd h
  unread_excused limit P held (t.Directives y) h = absurd h
  unread_excused limit P held (t.Syntax y place) h = absurd h
  unread_excused limit P held t.NoMemory h = absurd h

  part_of_read : (limit : ℕ) (name bytes : List ℕ) → IsRead limit before.files name bytes → Part name limit
  part_of_read limit name bytes h = record { part = bytes; is = held_is limit name bytes h; short = h.short }

  file_exact : IsExact (reads_contract_file limits before after) X Is Is
  file_exact = record {
    one = λ x z y w same h g. some_same y w (files x) (held_is limits.file x y h) (ap files same ∙ held_is limits.file z w g);
    apart = λ x z y e same h r.
        unread_excused limits.file (λ name. name ≡ z) (λ name is. subst (λ n. Part n limits.file) (same ∙ sym is) (part_of_read limits.file x y h)) e r;
  }

  same_parts : (limit : ℕ) (names xs ys : List (List ℕ)) → AreRead limit before.files names xs → AreRead limit before.files names ys → xs ≡ ys
  same_parts limit [] [] [] h g = refl
  same_parts limit [] [] (y ∷ ys) h g = absurd g
  same_parts limit [] (x ∷ xs) ys h g = absurd h
  same_parts limit (n ∷ names) [] ys h g = absurd h
  same_parts limit (n ∷ names) (x ∷ xs) [] h g = absurd g
  same_parts limit (n ∷ names) (x ∷ xs) (y ∷ ys) h g =
      let e : x ≡ y = some_same x y (files n) (held_is limit n x h.0) (held_is limit n y g.0) in
      let f : xs ≡ ys = same_parts limit names xs ys h.1 g.1 in
      cc

  part_at : (limit : ℕ) (front rest parts : List (List ℕ)) (name : List ℕ) → AreRead limit before.files (front ++ name ∷ rest) parts → Part name limit
  part_at limit [] rest [] name h = absurd h
  part_at limit [] rest (x ∷ xs) name h = part_of_read limit name x h.0
  part_at limit (n ∷ front) rest [] name h = absurd h
  part_at limit (n ∷ front) rest (x ∷ xs) name h = part_at limit front rest xs name h.1

  files_exact : IsExact (reads_files limits before after) X SameFiles Is
  files_exact = record {
    one = λ c d xs ys same h g. same_parts limits.file c.files xs ys h (subst (λ names. AreRead limits.file before.files names ys) (sym same) g);
    apart = λ c d xs e same h r.
        unread_excused limits.file (IsNext limits.file before.files d.files)
        (λ name n. part_at limits.file n.front n.rest xs name (subst (λ names. AreRead limits.file before.files names xs) (same ∙ n.stands) h)) e r;
  }

  -- ---- the joined text

  joins_apart : (x z : List (List ℕ)) (y : List ℕ) (e : Ended) → x ≡ z → IsJoined limits.text x y → IsUnjoined limits.text z e → X e
  joins_apart x z y (t.Source n) same h r =
      let short : length y ≤ limits.text = h.short in
      let e : n ≡ length y = r.0 ∙ ap length (ap source_text (sym same) ∙ sym h.joined) in
      let long : limits.text < n = r.1 in
      absurd (omega (arith, short, e, long))
  joins_apart x z y t.NoMemory same h r = inl refl
  joins_apart x z y (t.File v) same h r = absurd r
  joins_apart x z y (t.Contract v) same h r = absurd r
  joins_apart x z y (t.Tokens v) same h r = absurd r
  joins_apart x z y (t.Directives v) same h r = absurd r
  joins_apart x z y (t.Syntax v place) same h r = absurd r

  joins_exact : IsExact (joins limits before after) X Is Is
  joins_exact = record { one = λ x z y w same h g. h.joined ∙ ap source_text same ∙ sym g.joined; apart = joins_apart }

  -- ---- all steps

  excused : IsExact reads_source X Is Is
  excused = record { one = source_exact.one; apart = λ x z y e same h r. inl (source_exact.apart x z y e same h r) }

  design_exact : IsExact (reads_design limits before after) X SameFiles Is
  design_exact =
      exact_then (reads_text limits before after) reads_source X SameFiles Is Is
      (exact_then (reads_files limits before after) (joins limits before after) X SameFiles Is Is files_exact joins_exact) excused

  pub input_exact : IsExact (reads_input limits need before after) X Is IsSameDesign
  input_exact =
      exact_keeping (reads_contract limits need before after) (reads_design limits before after) X Is SameFiles Is
      (exact_then (reads_contract_file limits before after) (says need) X Is Is SameFiles file_exact says_exact) design_exact

pub exact : StepsAreExact
exact limits need before after files told = input_exact limits need before after files told
