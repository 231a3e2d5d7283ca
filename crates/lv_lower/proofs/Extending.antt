-- The extents of combinational blocks, part by part.
use Rattle.std.proofs.Common.{◌≡◌, ℕ, ◌+◌, ◌<◌, Bool, true, false, not, ◌&&◌, List, [], ◌∷◌, ◌++◌, length, map, take, refl, sym, ap, ◌∙◌, subst, get_or, Some}
use Rattle.std.specs.Prelude.{filter, cond, slice_get}
use Rattle.std.specs.List.{list_any}
use Rattle.std.proofs.lemmas.List.{take_more, append-nil}
use Rattle.lv_source.specs.Names.{Declared, is_variable_sort}
use Rattle.lv_source.specs.Places.{whole}
use Rattle.lv_source.specs.Summary.{leaves_latch, exposes_own}
use Rattle.lv_source.specs.Views.{View, is_combinational, view_driven, is_register_view}
use Rattle.lv_source.proofs.Bridges.{map-join}
use Rattle.lv_flat.specs.declared.part.FlatBody.{FlatBody}
use Rattle.lv_flat.specs.declared.part.FlatBody.TheVariants as b
use Rattle.lv_flat.specs.declared.part.FlatPart.{FlatPart}
use Rattle.lv_flat.specs.declared.stmt.FlatName.{FlatName}
use Rattle.lv_flat.specs.declared.stmt.FlatStmt.{FlatStmt}
use Rattle.lv_flat.specs.declared.stmt.FlatTarget.{FlatTarget}
use Rattle.lv_flat.specs.declared.expr.FlatExpr.{FlatExpr}
use Rattle.lv_flat.specs.FlatViews.{way_of, flat_view, flat_views}
use Rattle.lv_flat.specs.Signals.{Signals}
use Rattle.lv_extents.specs.declared.extent.Extent.{Extent}
use Rattle.lv_extents.specs.Extents.{Each, IsExtent, AreExtents}
use Rattle.lv_extents.specs.Blocks.{IsBlock}
use Rattle.lv_settles.specs.Rules.{AreRight, signals_in}
use Rattle.lv_settles.proofs.FlatParts.{IsClear, clear_at}
use Rattle.lv_lower.specs.Blocks.{combinational_views, IsSound, Extends}
use Rattle.lv_lower.proofs.Carrying.{view-at}

each_append : {A B : Type 0} (R : A → B → Type 0) (xs zs : List A) (ys ws : List B) → Each R xs ys → Each R zs ws → Each R (xs ++ zs) (ys ++ ws)
each_append R [] zs [] ws h k = k
each_append R [] zs (y ∷ ys) ws h k = absurd h
each_append R (x ∷ xs) zs [] ws h k = absurd h
each_append R (x ∷ xs) zs (y ∷ ys) ws h k = (h.0, each_append R xs zs ys ws h.1 k)

filter_join : {A : Type 0} (q : A → Bool) (xs ys : List A) → filter q (xs ++ ys) ≡ filter q xs ++ filter q ys
filter_join q [] ys = refl
filter_join q (x ∷ xs) ys = elim (q x) as (λ c. cond c (x ∷ filter q (xs ++ ys)) (filter q (xs ++ ys)) ≡ cond c (x ∷ filter q xs) (filter q xs) ++ filter q ys) [
  | true ↦ ap (λ zs. x ∷ zs) (filter_join q xs ys)
  | false ↦ filter_join q xs ys
]

filter_twice : {A : Type 0} (q : A → Bool) (xs : List A) → filter q (filter q xs) ≡ filter q xs
filter_twice q [] = refl
filter_twice q (x ∷ xs) = elim (q x) as (λ c. q x ≡ c → filter q (cond c (x ∷ filter q xs) (filter q xs)) ≡ cond c (x ∷ filter q xs) (filter q xs)) [
  | true ↦ λ e. ap (λ c. cond c (x ∷ filter q (filter q xs)) (filter q (filter q xs))) e ∙ ap (λ zs. x ∷ zs) (filter_twice q xs)
  | false ↦ λ e. filter_twice q xs
] refl

module _ (S : Signals) where
  abbrev chosen_view : FlatPart → Bool → List View
  chosen_view p c = cond c (flat_view S p ∷ []) []

  pub extends-block : (p : FlatPart) (s : FlatStmt) (x : Extent) (before after' : List Extent) → p.body ≡ b.Combinational s → IsExtent S (flat_view S p) x → after' ≡ before ++ x ∷ [] →
      Extends S (combinational_views S (p ∷ [])) before after'
  extends-block p s x before after' e h i = record {
    more = x ∷ [];
    is = i;
    extents = subst (λ c. AreExtents S (chosen_view p c) (x ∷ [])) (sym (ap (λ (y : FlatBody). is_combinational (way_of S y)) e)) (h, tt);
  }

  extends-nothing : (p : FlatPart) (before after' : List Extent) → is_combinational (way_of S p.body) ≡ false → after' ≡ before → Extends S (combinational_views S (p ∷ [])) before after'
  extends-nothing p before after' e i = record {
    more = [];
    is = i ∙ sym (append-nil before);
    extents = subst (λ c. AreExtents S (chosen_view p c) []) (sym e) tt;
  }

  pub extends-assign : (p : FlatPart) (t : FlatTarget) (x : FlatExpr) (before : List Extent) → p.body ≡ b.Assign t x → Extends S (combinational_views S (p ∷ [])) before before
  extends-assign p t x before e = extends-nothing p before before (ap (λ (y : FlatBody). is_combinational (way_of S y)) e) refl

  pub extends-clocked : (p : FlatPart) (c : FlatName) (s : FlatStmt) (before : List Extent) → p.body ≡ b.Clocked c s → Extends S (combinational_views S (p ∷ [])) before before
  extends-clocked p c s before e = extends-nothing p before before (ap (λ (y : FlatBody). is_combinational (way_of S y)) e) refl

  pub block-is : (body : FlatBody) (s : FlatStmt) → body ≡ b.Combinational s → IsBlock body s
  block-is body s e = subst (λ (y : FlatBody). IsBlock y s) (sym e) refl

  -- one more part
  pub extents-more : (ps : List FlatPart) (i : ℕ) (p : FlatPart) (before after' : List Extent) → i < length ps → p ≡ get_or ps i p → AreExtents S (combinational_views S (take i ps)) before →
      Extends S (combinational_views S (p ∷ [])) before after' → AreExtents S (combinational_views S (take (i + 1) ps)) after'
  extents-more ps i p before after' h e x y =
      let views : combinational_views S (take (i + 1) ps) ≡ combinational_views S (take i ps) ++ combinational_views S (p ∷ []) =
      ap (combinational_views S) (take_more ps i p h ∙ ap (λ z. take i ps ++ z ∷ []) (sym e)) ∙
      (ap (filter (λ (v : View). is_combinational v.way)) (map-join (flat_view S) (take i ps) (p ∷ [])) ∙
      filter_join (λ (v : View). is_combinational v.way) (flat_views S (take i ps)) (flat_views S (p ∷ []))) in
      subst (λ vs. AreExtents S vs after') (sym views)
      (subst (AreExtents S (combinational_views S (take i ps) ++ combinational_views S (p ∷ []))) (sym y.is)
      (each_append (IsExtent S) (combinational_views S (take i ps)) (combinational_views S (p ∷ [])) before y.more x y.extents))

  -- registers are told by combinational parts alone
  pub registers-by : (ps : List FlatPart) → map (is_register_view (combinational_views S ps)) S ≡ map (is_register_view (flat_views S ps)) S
  registers-by ps = ap (λ (ws : List View). map (λ (x : Declared). is_variable_sort x.sort && not (list_any (view_driven ws) (whole x))) S)
      (filter_twice (λ (v : View). is_combinational v.way) (flat_views S ps))

  -- ---- blocks that break no rule

  sound-by : (p : FlatPart) (body : FlatBody) → p.body ≡ body → IsClear (flat_view S p) → IsSound S body
  sound-by p (b.Assign t x) e c = tt
  sound-by p (b.Combinational s) e c = (
    subst (λ (y : FlatBody). (is_combinational (flat_view S (record p { body = y })).way && leaves_latch (flat_view S (record p { body = y })).paths) ≡ false) e c.latch,
    subst (λ (y : FlatBody). (is_combinational (flat_view S (record p { body = y })).way && exposes_own (flat_view S (record p { body = y })).paths) ≡ false) e c.first,
  )
  sound-by p (b.Clocked k s) e c = tt

  pub sound-at : (ps : List FlatPart) → AreRight (signals_in S) (flat_views S ps) → (k : ℕ) (p : FlatPart) → slice_get ps k ≡ Some p → IsSound S p.body
  sound-at ps right k p e = sound-by p p.body refl (clear_at (signals_in S) (flat_views S ps) right k (flat_view S p) (view-at S ps k p e))
