-- The kind of a token by its first byte.
use Rattle.std.proofs.Common.{◌≡◌, ℕ, zero, suc, ◌+◌, ◌<◌, ◌≤◌, Bool, true, false, if◌then◌else◌, ◌==◌, List, [], ◌∷◌, length, take, Option, Some, None, refl, sym, ap, ◌∙◌, subst, arith}
use Rattle.std.specs.Prelude.{MatchOption}
use Rattle.std.specs.List.{list_all}
use Rattle.std.specs.Str.{bytes_eq}
use Rattle.lv_ast.specs.Names.{is_letter, is_keyword}
use Rattle.lv_ast.specs.Tokens.{kind_of, kind_if, is_word, is_digit, is_number_byte, is_mark, after_backslash, is_base_and_digits, without_sign}
use Rattle.lv_ast.specs.declared.tokens.Kind.{Kind}
use Rattle.lv_ast.specs.declared.tokens.Kind.TheVariants.{Name, Word, System, Tick, Number, Based, Mark, Line}
use Rattle.lv_lexer.specs.declared.bytes.Lead.{Lead}
use Rattle.lv_lexer.specs.declared.bytes.Lead.TheVariants.{Letter, Digit, Backslash, Dollar, Accent, Apostrophe, Newline, Other}
use Rattle.lv_lexer.specs.Fronts.{IsLongest, IsLongestOf, IsFound, IsNamed, front_length, lead_of}
use Rattle.lv_lexer.proofs.Longest.{NoneOf, class_longest, longest_of, none_of, kind_cons, kind_cons_none, if-false}

abbrev kind_by : Lead → ℕ → List ℕ → Option Kind
kind_by Letter c cs = kind_if (is_word (c ∷ cs)) (if is_keyword (c ∷ cs) then Word else Name)
kind_by Digit c cs = kind_if (list_all is_number_byte cs) Number
kind_by Backslash c cs = after_backslash cs
kind_by Dollar c cs = kind_if (is_word cs) System
kind_by Accent c cs = kind_if (is_word cs) Tick
kind_by Apostrophe c cs = kind_if (is_base_and_digits (without_sign cs)) Based
kind_by Newline c cs = kind_if (bytes_eq cs []) Line
kind_by Other c cs = kind_if (is_mark (c ∷ cs)) Mark

if-by : (b : Bool) (k r : Option Kind) (l m : Lead) (c : ℕ) (cs : List ℕ) → k ≡ kind_by l c cs → r ≡ kind_by m c cs → (if b then k else r) ≡ kind_by (if b then l else m) c cs
if-by true k r l m c cs h j = h
if-by false k r l m c cs h j = j

by-lead : (c : ℕ) (cs : List ℕ) → kind_of (c ∷ cs) ≡ kind_by (lead_of c) c cs
unfolding kind_of
by-lead c cs =
    if-by (is_letter c) _ _ Letter _ c cs refl
    (if-by (is_digit c) _ _ Digit _ c cs refl
    (if-by (c == 92) _ _ Backslash _ c cs refl
    (if-by (c == 36) _ _ Dollar _ c cs refl
    (if-by (c == 96) _ _ Accent _ c cs refl
    (if-by (c == 39) _ _ Apostrophe _ c cs refl
    (if-by (c == 10) _ _ Newline Other c cs refl refl))))))

at : (c : ℕ) (cs : List ℕ) (l : Lead) → lead_of c ≡ l → kind_of (c ∷ cs) ≡ kind_by l c cs
at c cs l h = by-lead c cs ∙ ap (λ m. kind_by m c cs) h

pub no_kind : kind_of [] ≡ None
unfolding kind_of
no_kind = refl

word-none : is_word [] ≡ false
unfolding is_word
word-none = refl

-- ---- a token whose bytes but the first pass a test

module _ (c : ℕ) (cs s : List ℕ) (shape : s ≡ (c ∷ cs)) where
  module _ (inner : List ℕ → Bool) (k : Kind) (same : (xs : List ℕ) → kind_of (c ∷ xs) ≡ kind_if (inner xs) k) where
    pub behind_found : (n : ℕ) → IsLongest inner cs n → IsLongestOf kind_of s k (1 + n)
    behind_found n h = kind_cons kind_of (λ xs. kind_if (inner xs) k) c cs same s shape k n (longest_of (λ xs. kind_if (inner xs) k) inner cs n k (λ _. k) (λ _. refl) refl h)

    pub behind_none : ((m : ℕ) → inner (take m cs) ≡ false) → NoneOf kind_of s
    behind_none h = kind_cons_none kind_of (λ xs. kind_if (inner xs) k) c cs same s shape no_kind (none_of (λ xs. kind_if (inner xs) k) inner cs (λ _. k) (λ _. refl) h)

  pub system_found : lead_of c ≡ Dollar → (n : ℕ) → IsLongest is_word cs n → IsLongestOf kind_of s System (1 + n)
  system_found h = behind_found is_word System (λ xs. at c xs Dollar h)

  pub system_none : lead_of c ≡ Dollar → ((m : ℕ) → is_word (take m cs) ≡ false) → NoneOf kind_of s
  system_none h = behind_none is_word System (λ xs. at c xs Dollar h)

  pub tick_found : lead_of c ≡ Accent → (n : ℕ) → IsLongest is_word cs n → IsLongestOf kind_of s Tick (1 + n)
  tick_found h = behind_found is_word Tick (λ xs. at c xs Accent h)

  pub tick_none : lead_of c ≡ Accent → ((m : ℕ) → is_word (take m cs) ≡ false) → NoneOf kind_of s
  tick_none h = behind_none is_word Tick (λ xs. at c xs Accent h)

  pub based_found : lead_of c ≡ Apostrophe → (n : ℕ) → IsLongest (λ xs. is_base_and_digits (without_sign xs)) cs n → IsLongestOf kind_of s Based (1 + n)
  based_found h = behind_found (λ xs. is_base_and_digits (without_sign xs)) Based (λ xs. at c xs Apostrophe h)

  pub based_none : lead_of c ≡ Apostrophe → ((m : ℕ) → is_base_and_digits (without_sign (take m cs)) ≡ false) → NoneOf kind_of s
  based_none h = behind_none (λ xs. is_base_and_digits (without_sign xs)) Based (λ xs. at c xs Apostrophe h)

  pub number_found : lead_of c ≡ Digit → (n : ℕ) → n ≡ front_length is_number_byte cs → IsLongestOf kind_of s Number (1 + n)
  number_found h n k = behind_found (list_all is_number_byte) Number (λ xs. at c xs Digit h) n (subst (IsLongest (list_all is_number_byte) cs) (sym k) (class_longest is_number_byte cs))

  some-fails : (xs : List ℕ) (m : ℕ) → 0 < m → m ≤ length xs → bytes_eq (take m xs) [] ≡ false
  some-fails xs zero a b = absurd (omega (arith, a))
  some-fails [] (suc m) a b = absurd (omega (arith, b))
  some-fails (x ∷ xs) (suc m) a b = refl

  pub line_found : lead_of c ≡ Newline → IsLongestOf kind_of s Line 1
  line_found h =
      behind_found (λ xs. bytes_eq xs []) Line (λ xs. at c xs Newline h) 0 (record { within = omega arith; passes = refl; longest = some-fails cs })

  pub backslash_found : lead_of c ≡ Backslash → (k : Kind) (n : ℕ) → IsLongestOf after_backslash cs k n → IsLongestOf kind_of s k (1 + n)
  backslash_found h = kind_cons kind_of after_backslash c cs (λ xs. at c xs Backslash h) s shape

  pub backslash_none : lead_of c ≡ Backslash → NoneOf after_backslash cs → NoneOf kind_of s
  backslash_none h = kind_cons_none kind_of after_backslash c cs (λ xs. at c xs Backslash h) s shape no_kind

  -- ---- a token whose bytes with the first pass a test

  module _ (test : List ℕ → Bool) (k : List ℕ → Kind) (empty : test [] ≡ false) (same : (xs : List ℕ) → kind_of (c ∷ xs) ≡ kind_if (test (c ∷ xs)) (k (c ∷ xs))) where
    whole-at : (m : ℕ) → kind_of (take m (c ∷ cs)) ≡ kind_if (test (take m (c ∷ cs))) (k (take m (c ∷ cs)))
    whole-at zero = no_kind ∙ sym (if-false (k []) (test []) empty)
    whole-at (suc m) = same (take m cs)

    whole : (m : ℕ) → kind_of (take m s) ≡ kind_if (test (take m s)) (k (take m s))
    whole = subst (λ l. (m : ℕ) → kind_of (take m l) ≡ kind_if (test (take m l)) (k (take m l))) (sym shape) whole-at

    pub with_found : (j : Kind) (n : ℕ) → k (take n s) ≡ j → IsLongest test s n → IsLongestOf kind_of s j n
    with_found j n e h = longest_of kind_of test s n j (λ m. k (take m s)) whole e h

    pub with_none : ((m : ℕ) → test (take m s) ≡ false) → NoneOf kind_of s
    with_none h = none_of kind_of test s (λ m. k (take m s)) whole h

  mark-empty : is_mark [] ≡ false
  unfolding is_mark
  mark-empty = refl

  pub mark_found : lead_of c ≡ Other → (n : ℕ) → IsLongest is_mark s n → IsLongestOf kind_of s Mark n
  mark_found h n = with_found is_mark (λ _. Mark) mark-empty (λ xs. at c xs Other h) Mark n refl

  pub no_mark : lead_of c ≡ Other → ((m : ℕ) → is_mark (take m s) ≡ false) → NoneOf kind_of s
  no_mark h = with_none is_mark (λ _. Mark) mark-empty (λ xs. at c xs Other h)

  pub named_found : lead_of c ≡ Letter → (k : Kind) (n : ℕ) → IsNamed s k n → IsLongestOf kind_of s k n
  named_found h k n i = with_found is_word (λ xs. if is_keyword xs then Word else Name) word-none (λ xs. at c xs Letter h) k n (sym i.kind) i.longest

  pub no_name : lead_of c ≡ Letter → ((m : ℕ) → is_word (take m s) ≡ false) → NoneOf kind_of s
  no_name h = with_none is_word (λ xs. if is_keyword xs then Word else Name) word-none (λ xs. at c xs Letter h)

  -- a name or a keyword, or none
  pub letter_found : lead_of c ≡ Letter → (r : Option (Kind × ℕ)) → MatchOption r ((m : ℕ) → is_word (take m s) ≡ false) (λ found. IsNamed s found.0 found.1) → IsFound kind_of s r
  letter_found h None i = no_name h i
  letter_found h (Some found) i = named_found h found.0 found.1 i
