-- The arms of a `case` over tables.
use Rattle.std.proofs.Common.{◌≡◌, ℕ, ◌+◌, ◌<◌, ◌==◌, zero, suc, Bool, true, false, not, ◌&&◌, List, [], ◌∷◌, length, map, drop, drop-cons, add-one, get_or, refl, sym, ◌∙◌, ap, subst, arith}
use Rattle.std.specs.Prelude.{if◌then◌else◌, flat_map}
use Rattle.std.specs.List.{list_any, list_all}
use Rattle.lv_bits.specs.Values.{bit}
use Rattle.lv_netlist.specs.Net.{Net}
use Rattle.lv_source.specs.Names.{Valuation}
use Rattle.lv_source.specs.Effect.{State, Label, Arm, Width, applied, fits_label, selected_of, common_of, arm_labels, taken_of}
use Rattle.lv_flat.specs.declared.expr.FlatExpr.{FlatExpr}
use Rattle.lv_flat.specs.declared.stmt.FlatArm.{FlatArm}
use Rattle.lv_flat.specs.declared.stmt.FlatStmt.{FlatStmt}
use Rattle.lv_flat.specs.declared.stmt.FlatStmt.TheVariants as b
use Rattle.lv_flat.specs.Signals.{Signals}
use Rattle.lv_flat.specs.Cells.{Cell}
use Rattle.lv_flat.specs.Judged.{reading, is_good}
use Rattle.lv_flat.specs.Executing.{Effect}
use Rattle.lv_flat.specs.Good.{good_stmt}
use Rattle.lv_flat.proofs.GoodParts.{good-Case}
use Rattle.lv_values.specs.declared.value.Value.{Value}
use Rattle.lv_values.specs.Worlds.{World, Obeys, number}
use Rattle.lv_values.proofs.Growth.{grows-refl, grows-trans, obeys-before}
use Rattle.lv_lower_exprs.specs.Tables.{IsTable, Shows, Means}
use Rattle.lv_lower_exprs.proofs.Meant.{table-later}
use Rattle.lv_lower_exprs.proofs.Parts.{and-left, and-right}
use Rattle.lv_lower_blocks.specs.Rewritten.{MayBeTable}
use Rattle.lv_lower_blocks.specs.Aimed.{IsZero}
use Rattle.lv_lower_blocks.specs.Running.{Runs, keeps_writes}
use Rattle.lv_lower_blocks.specs.Cased.{labels_of, Fits, first_fit, last_default, arms_read, Chosen, arms_do, ArmsRun, good_arm_of}
use Rattle.lv_lower_blocks.proofs.Merging.{may-be-later}
use Rattle.lv_lower_blocks.proofs.Keeping.{keeps-Case}
use Rattle.lv_lower_blocks.proofs.Runnings.{if-out}
use Rattle.lv_lower_blocks.proofs.Casing.{taken-is, arm-labels}

bit-not : (u : Bool) → not (bit u == 0) ≡ u
bit-not true = refl
bit-not false = refl

if-apply : (u : Bool) (f g : State → State) (s : State) → (if u then f else g) s ≡ (if u then f s else g s)
if-apply true f g s = refl
if-apply false f g s = refl

-- the first arm of those that are left
pub arms-next : (S : Signals) (wild : Bool) (c : Width) (arms : List FlatArm) (i : ℕ) (a : FlatArm) → i < length arms → a ≡ get_or arms i a → (x : ℕ) (s q : State) →
    (if list_any (fits_label s.valuation wild c x) (labels_of S a) then keeps_writes S a.body s else arms_do S wild c (drop (i + 1) arms) x s q) ≡ arms_do S wild c (drop i arms) x s q
arms-next S wild c arms i a lt e x s q =
    let d : drop i arms ≡ a ∷ drop (i + 1) arms = rw add-one (drop-cons arms i a lt ∙ ap (λ (z : FlatArm). z ∷ drop (suc i) arms) (sym e)) in
    sym (if-apply (list_any (fits_label s.valuation wild c x) (labels_of S a)) (keeps_writes S a.body) (first_fit (fits_label s.valuation wild c x) (arms_read S (drop (i + 1) arms)) (λ st. q)) s) ∙
    sym (ap (λ (z : List FlatArm). arms_do S wild c z x s q) d)

first-at : (fits : Label → Bool) (arms : List (Arm Effect)) (d : Effect) (s : State) → first_fit fits arms (λ st. d s) s ≡ first_fit fits arms d s
first-at fits [] d s = refl
first-at fits (a ∷ arms) d s =
    let u : Bool = list_any fits a.labels in
    if-apply u a.body (first_fit fits arms (λ st. d s)) s ∙ (ap (λ (z : State). if u then a.body s else z) (first-at fits arms d s) ∙ sym (if-apply u a.body (first_fit fits arms d) s))

-- what a `case` does
pub case-keeps : (S : Signals) (x : FlatStmt) (wild : Bool) (e : FlatExpr) (arms : List FlatArm) (c : Width) → x ≡ b.Case wild e arms →
    c ≡ common_of (reading S e) (arm_labels (arms_read S arms)) → (s : State) →
    arms_do S wild c arms (selected_of (reading S e) c s.valuation) s (last_default (arms_read S arms) (λ (z : State). z) s) ≡ keeps_writes S x s
case-keeps S x wild e arms c h i s =
    let fits : Label → Bool = fits_label s.valuation wild c (selected_of (reading S e) c s.valuation) in
    first-at fits (arms_read S arms) (last_default (arms_read S arms) (λ (z : State). z)) s ∙
    (sym (ap (λ (f : Effect). f s) (taken-is fits (arms_read S arms) (λ (z : State). z))) ∙
    (ap (λ (c : Width). taken_of (fits_label s.valuation wild c (selected_of (reading S e) c s.valuation)) (arms_read S arms) (λ (z : State). z) s) i ∙
    sym (ap (λ (y : FlatStmt). keeps_writes S y s) h ∙ keeps-Case S wild e arms s)))

pub case-all : (S : Signals) (x : FlatStmt) (wild : Bool) (e f : FlatExpr) (arms bs : List FlatArm) (c : Width) → x ≡ b.Case wild e arms → f ≡ e → bs ≡ arms →
    c ≡ common_of (reading S f) (flat_map (labels_of S) bs) → (s : State) →
    arms_do S wild c bs (selected_of (reading S f) c s.valuation) s (last_default (arms_read S bs) (λ (z : State). z) s) ≡ keeps_writes S x s
case-all S x wild e f arms bs c h i j k s =
    let m : c ≡ common_of (reading S e) (arm_labels (arms_read S arms)) =
    k ∙ (ap (λ (z : FlatExpr). common_of (reading S z) (flat_map (labels_of S) bs)) i ∙ (ap (λ (z : List FlatArm). common_of (reading S e) (flat_map (labels_of S) z)) j ∙
    ap (common_of (reading S e)) (sym (arm-labels S arms)))) in
    ap (λ (z : FlatExpr). arms_do S wild c bs (selected_of (reading S z) c s.valuation) s (last_default (arms_read S bs) (λ (z : State). z) s)) i ∙
    (ap (λ (z : List FlatArm). arms_do S wild c z (selected_of (reading S e) c s.valuation) s (last_default (arms_read S z) (λ (z : State). z) s)) j ∙ case-keeps S x wild e arms c h m s)

module _ (S : Signals) where
  arms-good : (arms : List FlatArm) → list_all (λ (y : Bool). y) (map (λ (a : FlatArm). list_all (is_good S) a.labels && good_stmt S a.body) arms) ≡ list_all (good_arm_of S) arms
  arms-good [] = refl
  arms-good (a ∷ as') = ap (λ u. good_arm_of S a && u) (arms-good as')

  pub case-good : (x : FlatStmt) (wild : Bool) (e : FlatExpr) (arms : List FlatArm) → x ≡ b.Case wild e arms → good_stmt S x ≡ true → (is_good S e ≡ true) × (list_all (good_arm_of S) arms ≡ true)
  case-good x wild e arms h g =
      let k : (is_good S e && list_all (good_arm_of S) arms) ≡ true = sym (ap (good_stmt S) h ∙ (good-Case S wild e arms ∙ ap (λ u. is_good S e && u) (arms-good arms))) ∙ g in
      (and-left (is_good S e) (list_all (good_arm_of S) arms) k, and-right (is_good S e) (list_all (good_arm_of S) arms) k)

  arm-at : (arms : List FlatArm) (i : ℕ) (d : FlatArm) → i < length arms → list_all (good_arm_of S) arms ≡ true → good_arm_of S (get_or arms i d) ≡ true
  arm-at [] i d lt h = absurd (omega arith)
  arm-at (x ∷ xs) zero d lt h = and-left (good_arm_of S x) (list_all (good_arm_of S) xs) h
  arm-at (x ∷ xs) (suc i) d lt h = arm-at xs i d (omega arith) (and-right (good_arm_of S x) (list_all (good_arm_of S) xs) h)

  pub arm-good : (arms : List FlatArm) (i : ℕ) (a : FlatArm) → i < length arms → a ≡ get_or arms i a → list_all (good_arm_of S) arms ≡ true →
      (list_all (is_good S) a.labels ≡ true) × (good_stmt S a.body ≡ true)
  arm-good arms i a lt e h =
      let g : good_arm_of S a ≡ true = ap (good_arm_of S) e ∙ arm-at arms i a lt h in
      (and-left (list_all (is_good S) a.labels) (good_stmt S a.body) g, and-right (list_all (is_good S) a.labels) (good_stmt S a.body) g)

module _ {cells : List Cell} where
  pub arms-none : {net : Net} {now done bn bd : List ℕ} (selector : Value) → IsTable net cells bn → length bd ≡ length done → MayBeTable net cells bd →
      ArmsRun net net cells now done bn bd bn bd selector (λ x s q. q)
  arms-none {net} selector h e m = record { grows = grows-refl net; table = h; count = e; rest = m; shows = λ w s q o x y. y; leaves = λ w s q u o x l y z. z }

  pub arms-same : {old new : Net} {now done bn bd rn rd : List ℕ} {selector : Value} {G H : ℕ → State → State → State} → ArmsRun old new cells now done bn bd rn rd selector G →
      ((x : ℕ) (s q : State) → G x s q ≡ H x s q) →
      ArmsRun old new cells now done bn bd rn rd selector H
  arms-same {rn = rn} {rd = rd} {selector = selector} r e = record {
    grows = r.grows;
    table = r.table;
    count = r.count;
    rest = r.rest;
    shows = λ w s q o x y. subst (λ (z : State). Shows w cells rn z.valuation) (e (number w selector) s q) (r.shows w s q o x y);
    leaves = λ w s q u o x l y z. subst (λ (k : State). Shows w cells rd (applied u k.pending)) (e (number w selector) s q) (r.leaves w s q u o x l y z);
  }

  -- an arm before, where it may fit
  pub arms-more : {b0 b1 b2 b3 b4 : Net} {now done bn bd yn yd xn xd rn rd : List ℕ} {t selector : Value} {G : ℕ → State → State → State} {g : State → State} {F : ℕ → Valuation → Bool} →
      ArmsRun b0 b1 cells now done bn bd yn yd selector G → Fits b1 b2 cells now t selector F → Runs b2 b3 cells now done xn xd g → Chosen b3 b4 cells xn xd yn yd rn rd t →
      ArmsRun b0 b4 cells now done bn bd rn rd selector (λ x s q. if F x s.valuation then g s else G x s q)
  arms-more {b0} {b1} {b2} {b3} {b4} {rn = rn} {rd = rd} {t = t} {selector = selector} {G = G} {g = g} {F = F} a f r k =
      let fit : (w : World) (s : State) → Obeys b2 w → Shows w cells _ s.valuation → not (number w t == 0) ≡ F (number w selector) s.valuation =
      λ w s o x. ap (λ n. not (n == 0)) (f.is w s.valuation o x) ∙ bit-not (F (number w selector) s.valuation) in
      record {
        grows = grows-trans b0 b1 b4 a.grows (grows-trans b1 b2 b4 f.grows (grows-trans b2 b3 b4 r.grows k.grows));
        table = k.table;
        count = k.count ∙ r.count;
        rest = k.rest;
        shows = λ w s q o x y.
            let o3 = obeys-before b3 b4 w k.grows o in
            let o2 = obeys-before b2 b3 w r.grows o3 in
            let o1 = obeys-before b1 b2 w f.grows o2 in
            let G' : State = G (number w selector) s q in
            subst (λ (v : Valuation). Shows w cells rn v) (ap (λ (u : Bool). if u then (g s).valuation else G'.valuation) (fit w s o2 x) ∙
            if-out (F (number w selector) s.valuation) (λ z. z.valuation) (g s) G')
            (k.shows w (g s).valuation G'.valuation o (r.shows w s o3 x) (a.shows w s q o1 x y));
        leaves = λ w s q u o x l y z.
            let o3 = obeys-before b3 b4 w k.grows o in
            let o2 = obeys-before b2 b3 w r.grows o3 in
            let o1 = obeys-before b1 b2 w f.grows o2 in
            let G' : State = G (number w selector) s q in
            subst (λ (v : Valuation). Shows w cells rd v)
            (ap (λ (n : Bool). if n then applied u (g s).pending else applied u G'.pending) (fit w s o2 x) ∙ if-out (F (number w selector) s.valuation) (λ n. applied u n.pending) (g s) G')
            (k.leaves w (applied u (g s).pending) (applied u G'.pending) o (omega (arith, r.count, l)) (r.leaves w s u o3 x l y) (a.leaves w s q u o1 x l y z));
      }

  -- an arm that is known not to fit
  pub arms-skip : {b0 b1 b2 : Net} {now done bn bd yn yd : List ℕ} {t selector : Value} {G : ℕ → State → State → State} {F : ℕ → Valuation → Bool} (g : State → State) →
      ArmsRun b0 b1 cells now done bn bd yn yd selector G → Fits b1 b2 cells now t selector F → IsZero t →
      ArmsRun b0 b2 cells now done bn bd yn yd selector (λ x s q. if F x s.valuation then g s else G x s q)
  arms-skip {b0} {b1} {b2} {yn = yn} {yd = yd} {t = t} {selector = selector} {G = G} {F = F} g a f z =
      let miss : (w : World) (s q : State) → Obeys b2 w → Shows w cells _ s.valuation → G (number w selector) s q ≡ (if F (number w selector) s.valuation then g s else G (number w selector) s q) =
      λ w s q o x.
      let n : F (number w selector) s.valuation ≡ false = sym (bit-not (F (number w selector) s.valuation)) ∙ ap (λ n. not (n == 0)) (sym (f.is w s.valuation o x) ∙ z.is w) in
      sym (ap (λ (u : Bool). if u then g s else G (number w selector) s q) n) in
      record {
        grows = grows-trans b0 b1 b2 a.grows f.grows;
        table = table-later f.grows a.table;
        count = a.count;
        rest = may-be-later f.grows a.rest;
        shows = λ w s q o x y. subst (λ (k : State). Shows w cells yn k.valuation) (miss w s q o x) (a.shows w s q (obeys-before b1 b2 w f.grows o) x y);
        leaves = λ w s q u o x l y k. subst (λ (k : State). Shows w cells yd (applied u k.pending)) (miss w s q o x) (a.leaves w s q u (obeys-before b1 b2 w f.grows o) x l y k);
      }

  -- all of it
  pub runs-case : {b0 b1 b2 b3 : Net} {now done bn bd rn rd : List ℕ} {selector : Value} {W : ℕ} {f : Valuation → ℕ} {D : State → State} {G : ℕ → State → State → State} →
      Means b0 b1 selector cells now W f →
      Runs b1 b2 cells now done bn bd D → ArmsRun b2 b3 cells now done bn bd rn rd selector G → Runs b0 b3 cells now done rn rd (λ s. G (f s.valuation) s (D s))
  runs-case {b0} {b1} {b2} {b3} {rn = rn} {rd = rd} {f = f} {D = D} {G = G} m r a = record {
    grows = grows-trans b0 b1 b3 m.grows (grows-trans b1 b2 b3 r.grows a.grows);
    table = a.table;
    count = a.count;
    rest = a.rest;
    shows = λ w s o x.
        let o2 = obeys-before b2 b3 w a.grows o in
        let o1 = obeys-before b1 b2 w r.grows o2 in
        subst (λ (n : ℕ). Shows w cells rn (G n s (D s)).valuation) (m.is w s.valuation o1 x) (a.shows w s (D s) o x (r.shows w s o2 x));
    leaves = λ w s u o x l y.
        let o2 = obeys-before b2 b3 w a.grows o in
        let o1 = obeys-before b1 b2 w r.grows o2 in
        subst (λ (n : ℕ). Shows w cells rd (applied u (G n s (D s)).pending)) (m.is w s.valuation o1 x) (a.leaves w s (D s) u o x l y (r.leaves w s u o2 x l y));
  }
