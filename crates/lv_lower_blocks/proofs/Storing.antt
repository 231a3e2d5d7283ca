-- A value that is written to the names of a target, from left to right, and the value of an assignment.
use Rattle.std.proofs.Common.{◌≡◌, ℕ, ◌+◌, ◌<◌, ◌≤◌, ◌/◌, ◌%◌, ◌^◌, zero, suc, max, Bool, List, [], ◌∷◌, length, map, drop, drop-cons, add-one, get_or, refl, sym, ◌∙◌, ap, subst, arith}
use Rattle.std.specs.Prelude.{sum_by}
use Rattle.std.proofs.lemmas.List.Sums.{sum-map, sum_by-cons, sum_by-take-drop}
use Rattle.std.proofs.lemmas.List.Elements.{All-get_or}
use Rattle.lv_netlist.specs.Net.{Net}
use Rattle.lv_source.specs.Names.{Valuation}
use Rattle.lv_source.specs.Places.{Place, write}
use Rattle.lv_source.specs.Values.{Meaning}
use Rattle.lv_source.specs.Effect.{places, bits_in, write_all, assigned}
use Rattle.lv_flat.specs.Cells.{Cell}
use Rattle.lv_flat.specs.Signals.{Signals}
use Rattle.lv_flat.specs.Judged.{meaning}
use Rattle.lv_flat.specs.Executing.{pieces}
use Rattle.lv_flat.specs.declared.expr.FlatExpr.{FlatExpr}
use Rattle.lv_flat.specs.declared.stmt.FlatTarget.{FlatTarget}
use Rattle.lv_values.specs.declared.value.Value.{Value}
use Rattle.lv_values.specs.Worlds.{World, Obeys, Gives, number}
use Rattle.lv_values.proofs.Growth.{grows-refl, grows-trans, obeys-before}
use Rattle.lv_lower_exprs.specs.Tables.{IsTable, Shows, Means}
use Rattle.lv_lower_exprs.proofs.Meant.{means-same, means-one}
use Rattle.lv_lower_exprs.proofs.Widths.{bits_fixed}
use Rattle.lv_lower_blocks.specs.declared.aims.Aim.{Aim}
use Rattle.lv_lower_blocks.specs.Aimed.{aim_place, aim_width, aims_width, target_bits, IsAim, AreAims, Aims, Puts, Writes, Written, Prepares}
use Rattle.lv_lower_blocks.specs.Running.{Stores, Assigns}
use Rattle.lv_lower_blocks.proofs.Spans.{aim-count}
use Rattle.lv_lower_blocks.proofs.Aiming.{aims-later}

pub aims-count : (w : World) (S : Signals) (as' : List Aim) → bits_in (map (aim_place w S) as') ≡ aims_width S as'
aims-count w S [] = refl
aims-count w S (a ∷ as') =
    let f = λ (p : Place). length p.bits in
    let ps : List Place = map (aim_place w S) as' in
    sum-map f (aim_place w S a ∷ ps) ∙ (sum_by-cons f (aim_place w S a) ps ∙ (ap (λ n. n + sum_by f ps) (aim-count w S a) ∙
    (ap (λ n. aim_width S a + n) (sym (sum-map f ps) ∙ aims-count w S as') ∙ sym (sum_by-cons (aim_width S) a as'))))

pub drop-past : {A : Type 0} (xs : List A) (i : ℕ) → length xs ≤ i → drop i xs ≡ []
drop-past [] zero h = refl
drop-past [] (suc i) h = refl
drop-past (x ∷ xs) zero h = absurd (omega arith)
drop-past (x ∷ xs) (suc i) h = drop-past xs i (omega arith)

module _ (S : Signals) (as' : List Aim) (i : ℕ) (a : Aim) (lt : i < length as') (e : a ≡ get_or as' i a) where
  pub drop-next : drop i as' ≡ a ∷ drop (i + 1) as'
  drop-next = rw add-one (drop-cons as' i a lt ∙ ap (λ (z : Aim). z ∷ drop (suc i) as') (sym e))

  pub left-next : aims_width S (drop i as') ≡ aim_width S a + aims_width S (drop (i + 1) as')
  left-next = ap (aims_width S) drop-next ∙ sum_by-cons (aim_width S) a (drop (i + 1) as')

  pub left-most : aims_width S (drop i as') ≤ aims_width S as'
  left-most = let h = sum_by-take-drop (aim_width S) as' i in omega (arith, h)

  pub aim-good : (net : Net) → AreAims net S as' → IsAim net S a
  aim-good net h = subst (λ (z : Aim). IsAim net S z) (sym e) (All-get_or (IsAim net S) as' i a lt h)

low : (x w : ℕ) → x / 2 ^ 0 % 2 ^ w ≡ x % 2 ^ w
low x w = let one_is : x / 2 ^ 0 ≡ x = omega arith in rw one_is refl

module _ {cells : List Cell} where
  pub written-none : {net : Net} {t : List ℕ} (S : Signals) (as' : List Aim) (x : Value) → IsTable net cells t → Written net net S cells t t as' 0 x
  written-none {net} S as' x h = record { grows = grows-refl net; table = h; is = λ w v o s. (v, s, refl) }

  -- one aim more
  pub written-more : {old mid last new : Net} {t u z : List ℕ} {y : Value} (S : Signals) (as' : List Aim) (i : ℕ) (a : Aim) (x q : Value) (left n j : ℕ) → q ≡ x → i < length as' →
      a ≡ get_or as' i a → j ≡ i + 1 →
      left ≡ aims_width S (drop (i + 1) as') → n ≡ aim_width S a → Written old mid S cells t u as' i x → Gives mid last y n (λ w. number w q / 2 ^ left % 2 ^ n) → Puts last new S cells u z a y →
      Written old new S cells t z as' j x
  written-more {old} {mid} {last} {new} {t} {u} {z} {y} S as' i a x q left n j same lt e k l m r g p = record {
    grows = grows-trans old mid new r.grows (grows-trans mid last new g.grows p.grows);
    table = p.table;
    is = λ w v o s.
        let o1 : Obeys last w = obeys-before last new w p.grows o in
        let o0 : Obeys mid w = obeys-before mid last w g.grows o1 in
        let before = r.is w v o0 s in
        let v1 : Valuation = before.0 in
        let place : Place = aim_place w S a in
        let rest : List Place = map (aim_place w S) (drop (i + 1) as') in
        let b : left ≡ bits_in rest = l ∙ sym (aims-count w S (drop (i + 1) as')) in
        let c : n ≡ length place.bits = m ∙ sym (aim-count w S a) in
        let value : number w y ≡ number w x / 2 ^ bits_in rest % 2 ^ length place.bits =
        g.is w o1 ∙ (ap (λ (d : Value). number w d / 2 ^ left % 2 ^ n) same ∙ (ap (λ d. number w x / 2 ^ d % 2 ^ n) b ∙ ap (λ d. number w x / 2 ^ bits_in rest % 2 ^ d) c)) in (
          write v1 place (number w y),
          p.is w v1 o before.1,
          before.2 ∙ (ap (λ bs. write_all v1 (map (aim_place w S) bs) (number w x)) (drop-next S as' i a lt e) ∙
              (ap (λ d. write_all (write v1 place d) rest (number w x)) (sym value) ∙
              ap (λ d. write_all (write v1 place (number w y)) (map (aim_place w S) (drop d as')) (number w x)) (sym k))),
        );
  }

  pub written-all : {old new : Net} {t u : List ℕ} {i : ℕ} {x : Value} (S : Signals) (as' : List Aim) → length as' ≤ i → Written old new S cells t u as' i x → Writes old new S cells t u as' x
  written-all {u = u} {i = i} {x = x} S as' h r = record {
    grows = r.grows;
    table = r.table;
    is = λ w v o s.
        let q = r.is w v o s in
        let e : write_all v (map (aim_place w S) as') (number w x) ≡ q.0 = q.2 ∙ ap (λ bs. write_all q.0 (map (aim_place w S) bs) (number w x)) (drop-past as' i h) in
        subst (λ (d : Valuation). Shows w cells u d) (sym e) q.1;
  }

  -- ---- the value of an assignment

  pub means-assigned : {old mid new : Net} {table : List ℕ} {x y : Value} (m : Meaning) (width wide : ℕ) (of : ℕ × Bool) → of ≡ (m.width, m.signed) → wide ≡ max width of.0 →
      Means old mid x cells table wide (λ v. m.value wide of.1 v) → Gives mid new y width (λ w. number w x / 2 ^ 0 % 2 ^ width) → Means old new y cells table width (λ v. assigned v width m)
  means-assigned m width wide of e h a g =
      let k : wide ≡ max width m.width = h ∙ ap (λ (p : ℕ × Bool). max width p.0) e in
      means-same (means-one (λ n. n / 2 ^ 0 % 2 ^ width) a g) refl (λ v.
      low (m.value wide of.1 v) width ∙ (ap (λ (n : ℕ). m.value n of.1 v % 2 ^ width) k ∙ ap (λ (p : ℕ × Bool). m.value (max width m.width) p.1 v % 2 ^ width) e))

  pub prepares : {old mid new : Net} {table : List ℕ} {x : Value} {as' : List Aim} (S : Signals) (target : FlatTarget) (e : FlatExpr) (width : ℕ) → width ≡ aims_width S as' →
      Aims old mid S cells table (pieces S target) [] as' →
      Means mid new x cells table width (λ v. assigned v width (meaning S e)) → Prepares old new S cells table target e as' x
  prepares {old} {mid} {new} {as' = as'} S target e width h a m =
      let n : width ≡ target_bits S target = h ∙ (let z = a.width in omega (arith, z)) in
      record {
        grows = grows-trans old mid new a.grows m.grows;
        good = aims-later as' m.grows a.good;
        x_in = m.in_new;
        width = m.width ∙ h;
        aims = λ w v o s. a.is w v (obeys-before mid new w m.grows o) s;
        is = λ w v o s. m.is w v o s ∙ ap (λ k. assigned v k (meaning S e)) (n ∙ sym (bits_fixed v (pieces S target)));
      }

  pub stores : {old mid new : Net} {t u : List ℕ} {x : Value} {as' : List Aim} (S : Signals) (target : FlatTarget) → Aims old mid S cells t (pieces S target) [] as' →
      Writes mid new S cells t u as' x →
      Stores old new S cells t u target x
  stores {old} {mid} {new} {t} {u} {x} {as'} S target a r = record {
    grows = grows-trans old mid new a.grows r.grows;
    table = r.table;
    is = λ w v o s. subst (λ (ps : List Place). Shows w cells u (write_all v ps (number w x))) (a.is w v (obeys-before mid new w r.grows o) s) (r.is w v o s);
  }

  pub assigns : {old mid new : Net} {t u : List ℕ} {x : Value} {as' : List Aim} (S : Signals) (target : FlatTarget) (e : FlatExpr) → Prepares old mid S cells t target e as' x →
      Writes mid new S cells t u as' x →
      Assigns old new S cells t u target e
  assigns {old} {mid} {new} {t} {u} {x} {as'} S target e a r = record {
    grows = grows-trans old mid new a.grows r.grows;
    table = r.table;
    is = λ w v o s.
        let o0 = obeys-before mid new w r.grows o in
        subst (λ (n : ℕ). Shows w cells u (write_all v (places v (pieces S target)) n)) (a.is w v o0 s)
        (subst (λ (ps : List Place). Shows w cells u (write_all v ps (number w x))) (a.aims w v o0 s) (r.is w v o s));
  }
