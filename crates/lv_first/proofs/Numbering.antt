-- Valuations of names and assignments of numbered variables stand for one another.
use Rattle.std.proofs.Common.{◌≡◌, ℕ, zero, suc, ◌<◌, ◌≤◌, ◌⊎◌, inl, inr, Bool, true, false, ◌||◌, if◌then◌else◌, nat_eq, List, [], ◌∷◌, length, refl, sym, ◌∙◌, ap, subst, arith}
use Rattle.std.specs.Prelude.{Some, slice_get, bytes_eq}
use Rattle.std.specs.List.{IsDistinct, AllByRecursion}
use Rattle.std.proofs.lemmas.Slice.Eq.{bytes_eq-Decides}
use Rattle.std.proofs.lemmas.Map.Keys.{IsDistinct-head, IsDistinct-tail}
use Rattle.std.proofs.lemmas.List.Elements.{All-nil, All-cons, All-head, All-tail}
use Rattle.lv_bits.specs.Values.{bit}
use Rattle.lv_ast.specs.Names.{Name}
use Rattle.lv_source.specs.Names.{Valuation}
use Rattle.lv_first.specs.FirstForm.{is_in}
use Rattle.lv_first.specs.Formulas.{Assignment}
use Rattle.lv_first.specs.Signals.{env_of, val_of, AreBits}
use Rattle.lv_first.proofs.Truths.{funext}

pub same_bytes : (x : Name) → bytes_eq x x ≡ true
same_bytes x = (bytes_eq-Decides x x).1 refl

pub bytes_same : (x y : Name) → bytes_eq x y ≡ true → x ≡ y
bytes_same x y h = (bytes_eq-Decides x y).0 h

pub bit-below_two : (b : Bool) → bit b < 2
bit-below_two true = omega arith
bit-below_two false = omega arith

pub bit-of_one : (n : ℕ) → n < 2 → bit (nat_eq n 1) ≡ n
bit-of_one zero h = refl
bit-of_one (suc zero) h = refl
bit-of_one (suc (suc n)) h = absurd (omega arith)

pub one-of_bit : (b : Bool) → nat_eq (bit b) 1 ≡ b
one-of_bit true = refl
one-of_bit false = refl

pub env-past : (ss : List Name) (v : Valuation) (k : ℕ) → length ss ≤ k → env_of ss v k ≡ false
env-past [] v k h = refl
env-past (s ∷ ss) v zero h = absurd (omega arith)
env-past (s ∷ ss) v (suc k) h = env-past ss v k (omega arith)

pub env-at : (ss : List Name) (v : Valuation) (k : ℕ) (s : Name) → slice_get ss k ≡ Some s → env_of ss v k ≡ nat_eq (v s) 1
env-at [] v k s h = absurd (cc)
env-at (t ∷ ss) v zero s h = let e : t ≡ s = cc in ap (λ z. nat_eq (v z) 1) e
env-at (t ∷ ss) v (suc k) s h = env-at ss v k s h

pub bits-at : (ss : List Name) (v : Valuation) → AreBits ss v → (k : ℕ) (s : Name) → slice_get ss k ≡ Some s → v s < 2
bits-at [] v all k s h = absurd (cc)
bits-at (t ∷ ss) v all zero s h = let e : t ≡ s = cc in subst (λ z. v z < 2) e (All-head (λ s. v s < 2) t ss all)
bits-at (t ∷ ss) v all (suc k) s h = bits-at ss v (All-tail (λ s. v s < 2) t ss all) k s h

-- a signal's value is its variable's bit
pub env-bit : (ss : List Name) (v : Valuation) → AreBits ss v → (k : ℕ) (s : Name) → slice_get ss k ≡ Some s → bit (env_of ss v k) ≡ v s
env-bit ss v all k s h = ap bit (env-at ss v k s h) ∙ bit-of_one (v s) (bits-at ss v all k s h)

pub val-below_two : (ss : List Name) (env : Assignment) (x : Name) → val_of ss env x < 2
val-below_two [] env x = omega arith
val-below_two (s ∷ ss) env x =
    elim (bytes_eq x s) as (λ b. (if b then bit (env zero) else val_of ss (λ k. env (suc k)) x) < 2) [
      | true ↦ bit-below_two (env zero)
      | false ↦ val-below_two ss (λ k. env (suc k)) x
    ]

pub val-bits : (ss ts : List Name) (env : Assignment) → AreBits ts (val_of ss env)
val-bits ss [] env = All-nil _
val-bits ss (t ∷ ts) env = All-cons (λ s. val_of ss env s < 2) t ts (val-below_two ss env t) (val-bits ss ts env)

pub or_parts : (a b : Bool) → (a || b) ≡ false → (a ≡ false) × (b ≡ false)
or_parts true b h = absurd (cc)
or_parts false b h = (refl, h)

pub val-else : (ss : List Name) (env : Assignment) (x : Name) → is_in ss x ≡ false → val_of ss env x ≡ 0
val-else [] env x h = refl
val-else (s ∷ ss) env x h =
    let parts = or_parts (bytes_eq x s) (is_in ss x) h in
    ap (λ b. if b then bit (env zero) else val_of ss (λ k. env (suc k)) x) parts.0 ∙ val-else ss (λ k. env (suc k)) x parts.1

pub distinct-later : (s : Name) (ss : List Name) → AllByRecursion (λ y. bytes_eq s y ≡ false) ss → (k : ℕ) (t : Name) → slice_get ss k ≡ Some t → bytes_eq s t ≡ false
distinct-later s [] all k t h = absurd (cc)
distinct-later s (x ∷ ss) all zero t h = let e : x ≡ t = cc in subst (λ z. bytes_eq s z ≡ false) e all.0
distinct-later s (x ∷ ss) all (suc k) t h = distinct-later s ss all.1 k t h

flipped : (x y : Name) → bytes_eq x y ≡ false → bytes_eq y x ≡ false
flipped x y h = (elim (bytes_eq y x) as (λ b. bytes_eq y x ≡ b → b ≡ false) [
  | true ↦ λ e. absurd (let f : bytes_eq x y ≡ true = ap (bytes_eq x) (bytes_same y x e) ∙ same_bytes x in cc)
  | false ↦ λ e. refl
]) refl

pub val-at : (ss : List Name) (env : Assignment) → IsDistinct bytes_eq ss → (k : ℕ) (s : Name) → slice_get ss k ≡ Some s → val_of ss env s ≡ bit (env k)
val-at [] env d k s h = absurd (cc)
val-at (t ∷ ss) env d zero s h =
    let e : t ≡ s = cc in
    subst (λ z. val_of (t ∷ ss) env z ≡ bit (env zero)) e (ap (λ b. if b then bit (env zero) else val_of ss (λ k. env (suc k)) t) (same_bytes t))
val-at (t ∷ ss) env d (suc k) s h =
    ap (λ b. if b then bit (env zero) else val_of ss (λ k. env (suc k)) s) (flipped t s (distinct-later t ss (IsDistinct-head bytes_eq t ss d) k s h)) ∙
    val-at ss (λ k. env (suc k)) (IsDistinct-tail bytes_eq t ss d) k s h

pub at_or_past : (ss : List Name) (k : ℕ) → ((s : Name) × (slice_get ss k ≡ Some s)) ⊎ (length ss ≤ k)
at_or_past [] k = inr (omega arith)
at_or_past (s ∷ ss) zero = inl (s, refl)
at_or_past (s ∷ ss) (suc k) = elim (at_or_past ss k) [ inl h ↦ inl h | inr h ↦ inr (omega arith) ]

pub env-returns : (ss : List Name) (env : Assignment) → IsDistinct bytes_eq ss → ((k : ℕ) → length ss ≤ k → env k ≡ false) → env_of ss (val_of ss env) ≡ env
env-returns ss env d above = funext (env_of ss (val_of ss env)) env (λ k. elim (at_or_past ss k) [
  | inl (s, h) ↦ env-at ss (val_of ss env) k s h ∙ ap (λ n. nat_eq n 1) (val-at ss env d k s h) ∙ one-of_bit (env k)
  | inr h ↦ env-past ss (val_of ss env) k h ∙ sym (above k h)
])
