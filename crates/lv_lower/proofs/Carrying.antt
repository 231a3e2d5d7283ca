-- One more part of an order.
use Rattle.std.proofs.Common.{◌≡◌, ℕ, zero, suc, ◌+◌, ◌<◌, true, false, ◌&&◌, not, List, [], ◌∷◌, ◌++◌, length, map, take, refl, sym, ap, ◌∙◌, arith, subst, get_or, Some}
use Rattle.std.specs.Prelude.{slice_get}
use Rattle.std.specs.List.{list_any, list_all}
use Rattle.std.proofs.lemmas.List.{take_more}
use Rattle.lv_source.specs.Names.{Valuation}
use Rattle.lv_source.specs.Flow.{Event}
use Rattle.lv_source.specs.Views.{View, Seen, seen_of, is_edge, is_combinational}
use Rattle.lv_source.proofs.Tests.{and-left, and-right, and-both, or-none_left, or-none_right, not-false}
use Rattle.lv_source.proofs.Facts.{some_same, at_below}
use Rattle.lv_netlist.specs.Net.{Net}
use Rattle.lv_flat.specs.declared.part.FlatBody.{FlatBody}
use Rattle.lv_flat.specs.declared.part.FlatBody.TheVariants as b
use Rattle.lv_flat.specs.declared.part.FlatPart.{FlatPart}
use Rattle.lv_flat.specs.Cells.{all_cells}
use Rattle.lv_flat.specs.Flows.{flow}
use Rattle.lv_flat.specs.Signals.{Signals}
use Rattle.lv_flat.specs.Good.{good_body, are_good}
use Rattle.lv_flat.specs.FlatViews.{after, flat_view, flat_views}
use Rattle.lv_values.proofs.Growth.{grows-refl, grows-trans, obeys-before}
use Rattle.lv_lower_exprs.specs.Tables.{IsTable, Shows}
use Rattle.lv_settles.specs.Orders.{IsOrder, after_one, carried}
use Rattle.lv_settles.specs.Rules.{AreRight, signals_in}
use Rattle.lv_settles.proofs.FlatParts.{IsClear, clear_at}
use Rattle.lv_lower.specs.Carrying.{is_plain, Leaves, Carries}

carried-join : (vs : List View) (xs ys : List ℕ) (v : Valuation) → carried vs (xs ++ ys) v ≡ carried vs ys (carried vs xs v)
carried-join vs [] ys v = refl
carried-join vs (x ∷ xs) ys v = carried-join vs xs ys (after_one (slice_get vs x) v)

pub get-at : {A : Type 0} (xs : List A) (i : ℕ) (x : A) → i < length xs → x ≡ get_or xs i x → slice_get xs i ≡ Some x
get-at [] i x h e = absurd (omega arith)
get-at (y ∷ ys) zero x h e = ap Some (sym e)
get-at (y ∷ ys) (suc i) x h e = get-at ys i x (omega arith) e

pub view-at : (S : Signals) (ps : List FlatPart) (k : ℕ) (p : FlatPart) → slice_get ps k ≡ Some p → slice_get (flat_views S ps) k ≡ Some (flat_view S p)
view-at S [] k p e = cc
view-at S (x ∷ xs) zero p e = ap (λ z. Some (flat_view S z)) (some_same x p e)
view-at S (x ∷ xs) (suc k) p e = view-at S xs k p e

views-count : (S : Signals) (ps : List FlatPart) → length (flat_views S ps) ≡ length ps
views-count S [] = refl
views-count S (p ∷ ps) = ap suc (views-count S ps)

pub good-at : (S : Signals) (ps : List FlatPart) (k : ℕ) (p : FlatPart) → are_good S ps ≡ true → slice_get ps k ≡ Some p → good_body S p.body ≡ true
good-at S [] k p h e = cc
good-at S (x ∷ xs) zero p h e = ap (λ (z : FlatPart). good_body S z.body) (sym (some_same x p e)) ∙ and-left (good_body S x.body) (are_good S xs) h
good-at S (x ∷ xs) (suc k) p h e = good-at S xs k p (and-right (good_body S x.body) (are_good S xs) h) e

all-once : (es : List Event) → list_any (λ (e : Seen). true && not e.at_once) (map seen_of es) ≡ false → list_all (λ (e : Event). e.at_once) es ≡ true
all-once [] h = refl
all-once (e ∷ es) h =
    and-both e.at_once (list_all (λ (e : Event). e.at_once) es) (not-false e.at_once (or-none_left (not e.at_once) (list_any (λ (e : Seen). true && not e.at_once) (map seen_of es)) h))
    (all-once es (or-none_right (not e.at_once) (list_any (λ (e : Seen). true && not e.at_once) (map seen_of es)) h))

plain-by : (S : Signals) (p : FlatPart) (body : FlatBody) → p.body ≡ body → is_edge (flat_view S p).way ≡ false → IsClear (flat_view S p) → is_plain S body ≡ true
plain-by S p (b.Assign t x) e w c = refl
plain-by S p (b.Combinational s) e w c =
    all-once (flow S s).events (subst (λ (y : FlatBody). list_any (λ (e : Seen). is_combinational (flat_view S (record p { body = y })).way && not e.at_once) (flat_view S
    (record p { body = y })).events ≡ false) e c.once)
plain-by S p (b.Clocked k s) e w c = absurd (let t : true ≡ false = subst (λ (y : FlatBody). is_edge (flat_view S (record p { body = y })).way ≡ false) e w in cc)

module _ (S : Signals) (ps : List FlatPart) (order : List ℕ) (right : AreRight (signals_in S) (flat_views S ps)) (o : IsOrder (flat_views S ps) order) where
  -- the part with the number at a place of the order
  pub order-below : (i k : ℕ) → i < length order → k ≡ get_or order i k → k < length ps
  order-below i k h e =
      let r : (p : View) × (slice_get (flat_views S ps) k ≡ Some p) × (is_edge p.way ≡ false) = o.parts i k (get-at order i k h e) in
      let c : length (flat_views S ps) ≡ length ps = views-count S ps in
      let l : k < length (flat_views S ps) = at_below (flat_views S ps) k r.0 r.1 in
      omega arith

  pub order-plain : (i k : ℕ) (p : FlatPart) → i < length order → k ≡ get_or order i k → slice_get ps k ≡ Some p → is_plain S p.body ≡ true
  order-plain i k p h e g =
      let r : (q : View) × (slice_get (flat_views S ps) k ≡ Some q) × (is_edge q.way ≡ false) = o.parts i k (get-at order i k h e) in
      let v : slice_get (flat_views S ps) k ≡ Some (flat_view S p) = view-at S ps k p g in
      plain-by S p p.body refl (ap (λ (z : View). is_edge z.way) (some_same (flat_view S p) r.0 (sym v ∙ r.1)) ∙ r.2) (clear_at (signals_in S) (flat_views S ps) right k (flat_view S p) v)

pub carries-none : (S : Signals) (vs : List View) (net : Net) (table : List ℕ) → IsTable net (all_cells S) table → Carries net net S vs table table []
carries-none S vs net table t = record { grows = grows-refl net; table = t; is = λ w v o h. h }

pub carries-more : (S : Signals) (ps : List FlatPart) (order : List ℕ) (i k : ℕ) (p : FlatPart) (old mid new : Net) (before between after' : List ℕ) → i < length order → k ≡ get_or order i k →
    slice_get ps k ≡ Some p → Carries old mid S (flat_views S ps) before between (take i order) → Leaves mid new S between after' p.body →
    Carries old new S (flat_views S ps) before after' (take (i + 1) order)
carries-more S ps order i k p old mid new before between after' h e g c l = record {
  grows = grows-trans old mid new c.grows l.grows;
  table = l.table;
  is = λ w v o s.
      (let u : Valuation = carried (flat_views S ps) (take i order) v in
      let one : carried (flat_views S ps) (k ∷ []) u ≡ after S p.body u = ap (λ z. after_one z u) (view-at S ps k p g) in
      let all : carried (flat_views S ps) (take (i + 1) order) v ≡ after S p.body u =
      ap (λ z. carried (flat_views S ps) z v) (take_more order i k h ∙ ap (λ z. take i order ++ z ∷ []) (sym e)) ∙ (carried-join (flat_views S ps) (take i order) (k ∷ []) v ∙ one) in
      subst (λ (z : Valuation). Shows w (all_cells S) after' z) (sym all) (l.is w u o (c.is w v (obeys-before mid new w l.grows o) s)));
}
