-- Shapes are told apart.
use Rattle.std.proofs.Common.{◌≡◌, ℕ, List, [], Bool, true, false, ◌||◌, bytes_eq, ◌≤◌, ◌⊎◌, inl, inr, arith, refl, sym, ◌∙◌, ap}
use Rattle.std.proofs.lemmas.Slice.Eq.{bytes_eq-Decides}
use Rattle.std.proofs.lemmas.Bool.{eqb-true}
use Rattle.lv_ast.specs.TokenLists.{kind_number}
use Rattle.lv_ast.specs.declared.tokens.Kind.{Kind}
use Rattle.lv_ast.specs.declared.tokens.Kind.TheVariants as k
use Rattle.lv_grammars.specs.Facts.{IsBase}
use Rattle.lv_grammars.proofs.Lists.{and_left, and_right, true_false}
use Rattle.lv_grammar.specs.Lexemes.{Lexeme}
use Rattle.lv_grammar.specs.Shapes.{Shape, word, mark, name, fits, same, base}

pub same_bytes : (xs ys : List ℕ) → bytes_eq xs ys ≡ true → xs ≡ ys
same_bytes xs ys e = (bytes_eq-Decides xs ys).0 e

pub is_same : (xs ys : List ℕ) → xs ≡ ys → bytes_eq xs ys ≡ true
is_same xs ys e = (bytes_eq-Decides xs ys).1 e

apart_bytes : (s r xs : List ℕ) → bytes_eq s r ≡ false → bytes_eq s xs ≡ true → bytes_eq r xs ≡ true → ⊥
apart_bytes s r xs e f g = true_false _ (is_same s r (same_bytes s xs f ∙ sym (same_bytes r xs g))) e

either_way : (a b : Bool) → a || b ≡ true → (a ≡ true) ⊎ (b ≡ true)
either_way true b e = inl refl
either_way false b e = inr e

pub word_number : (s : List ℕ) (t : Lexeme) → fits (word s) t ≡ true → kind_number t.kind ≡ 2
word_number s t f = sym (eqb-true 2 (kind_number t.kind) (and_left _ _ f))

pub mark_number : (s : List ℕ) (t : Lexeme) → fits (mark s) t ≡ true → kind_number t.kind ≡ 7
mark_number s t f = sym (eqb-true 7 (kind_number t.kind) (and_left _ _ f))

pub name_number : (t : Lexeme) → fits name t ≡ true → kind_number t.kind ≤ 1
name_number t f =
    elim (either_way _ _ f) [
      | inl e ↦ (let h : 0 ≡ kind_number t.kind = eqb-true 0 (kind_number t.kind) e in omega arith)
      | inr e ↦ (let h : 1 ≡ kind_number t.kind = eqb-true 1 (kind_number t.kind) e in omega arith)
    ]

word_mark : (s r : List ℕ) (t : Lexeme) → fits (word s) t ≡ true → fits (mark r) t ≡ true → ⊥
word_mark s r t f g = omega (arith, word_number s t f, mark_number r t g)

word_name : (s : List ℕ) (t : Lexeme) → fits (word s) t ≡ true → fits name t ≡ true → ⊥
word_name s t f g = omega (arith, word_number s t f, name_number t g)

mark_name : (s : List ℕ) (t : Lexeme) → fits (mark s) t ≡ true → fits name t ≡ true → ⊥
mark_name s t f g = omega (arith, mark_number s t f, name_number t g)

pub apart : (p q : Shape) (t : Lexeme) → same p q ≡ false → fits p t ≡ true → fits q t ≡ true → ⊥
apart (word s) (word r) t e f g = apart_bytes s r t.bytes e (and_right _ _ f) (and_right _ _ g)
apart (word s) (mark r) t e f g = word_mark s r t f g
apart (word s) name t e f g = word_name s t f g
apart (mark s) (word r) t e f g = word_mark r s t g f
apart (mark s) (mark r) t e f g = apart_bytes s r t.bytes e (and_right _ _ f) (and_right _ _ g)
apart (mark s) name t e f g = mark_name s t f g
apart name (word r) t e f g = word_name r t g f
apart name (mark r) t e f g = mark_name r t g f
apart name name t e f g = true_false _ refl e

one : (p q : Shape) → same p q ≡ true → p ≡ q
one (word s) (word r) e = ap word (same_bytes s r e)
one (word s) (mark r) e = true_false _ e refl
one (word s) name e = true_false _ e refl
one (mark s) (word r) e = true_false _ e refl
one (mark s) (mark r) e = ap mark (same_bytes s r e)
one (mark s) name e = true_false _ e refl
one name (word r) e = true_false _ e refl
one name (mark r) e = true_false _ e refl
one name name e = refl

abbrev some_token : Kind → List ℕ → Lexeme
some_token kind bytes = record { kind = kind; bytes = bytes; start = 0; end = 0 }

witness : (p : Shape) → (t : Lexeme) × (fits p t ≡ true)
witness (word s) = (some_token k.Word s, is_same s s refl)
witness (mark s) = (some_token k.Mark s, is_same s s refl)
witness name = (some_token k.Name [], refl)

pub shaped : IsBase base
shaped = record { apart = apart; one = one; witness = witness }
