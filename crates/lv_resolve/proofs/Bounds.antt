-- Numbers as bounds, counts and widths.
use Rattle.std.proofs.Common.{◌≡◌, ℕ, ◌≤◌, Bool, true, false, ◌&&◌, ap, ◌∙◌, sym, subst, refl, arith, inl, inr, Some, None, Option, []}
use Rattle.std.specs.Prelude.{nat_le}
use Rattle.std.proofs.lemmas.Bool.Decides.{nat_tests}
use Rattle.lv_source.specs.NodeRules.{is_in_order}
use Rattle.lv_const.proofs.Numbers.{split}
use Rattle.lv_scopes.specs.declared.number.Number.{Number}
use Rattle.lv_flat.specs.declared.expr.FlatSelect.TheVariants as s
use Rattle.lv_resolve.specs.declared.picks.Head.{Head}
use Rattle.lv_resolve.specs.declared.picks.Pick.{Pick}
use Rattle.lv_resolve.specs.Picks.{bound_of, is_low, IsPart, IsTaken, is_part, part_width, head_bounds}

abbrev value_or : Option ℕ → ℕ
value_or None = 0
value_or (Some n) = n

pub bound-value : (n : Number) (k : ℕ) → bound_of n ≡ Some k → k ≡ n.word.value
bound-value n k h = elim (split (is_low n && nat_le n.word.value 65535)) [
  | inl e ↦ let m : bound_of n ≡ Some n.word.value = rw e refl in sym (ap value_or (sym m ∙ h))
  | inr e ↦ let m : bound_of n ≡ None = rw e refl in let q : None ≡ Some k = sym m ∙ h in cc
]

bound-some : (n : Number) (k : ℕ) → bound_of n ≡ Some k → bound_of n ≡ Some n.word.value
bound-some n k h = h ∙ ap Some (bound-value n k h)

le-true : (a b : ℕ) → a ≤ b → nat_le a b ≡ true
le-true a b h = grind (arith, nat_tests)

pub and-both : (a b : Bool) → a ≡ true → b ≡ true → a && b ≡ true
and-both true b h k = k
and-both false b h k = cc

pub part-right : (h : Head) (l r : Number) (a b w : ℕ) (p : Pick) → bound_of l ≡ Some a → bound_of r ≡ Some b → w ≡ part_width a b → w ≤ 128 →
    is_in_order (head_bounds h) a b ≡ true → IsTaken p (s.Part a b) w true [] → IsPart h l r p
part-right h l r a b w p e f u m o t =
    let i : a ≡ l.word.value = bound-value l a e in
    let j : b ≡ r.word.value = bound-value r b f in record {
      left = bound-some l a e;
      right = bound-some r b f;
      fits = subst (λ x. is_part h x r.word.value ≡ true) i (subst (λ x. is_part h a x ≡ true) j (and-both _ _ o (le-true _ _ (omega (arith, u, m)))));
      taken = subst (λ x. IsTaken p (s.Part x r.word.value) (part_width x r.word.value) true []) i
          (subst (λ x. IsTaken p (s.Part a x) (part_width a x) true []) j (subst (λ x. IsTaken p (s.Part a b) x true []) u t));
    }
