-- Faults of nodes as what is told of an item.
use Rattle.std.proofs.Common.{◌≡◌, ℕ, Bool, true, ◌&&◌, List, [], ◌∷◌, ◌++◌, map, refl, sym, ap, ◌∙◌, inl, inr}
use Rattle.std.specs.Prelude.{flat_map}
use Rattle.std.specs.List.{Contains, list_all}
use Rattle.std.proofs.lemmas.List.{map-append}
use Rattle.std.proofs.lemmas.List.Elements.{Contains-append_cases}
use Rattle.lv_source.specs.Names.{Here}
use Rattle.lv_source.specs.Faults.{site_faults}
use Rattle.lv_source.specs.Legal.{Kind, UnknownName, NotConstant, ZeroDivisor, Range, ClockUse}
use Rattle.lv_source.specs.Sites.{Site, Spot, spots}
use Rattle.lv_source.specs.PartSites.{clocks_in}
use Rattle.lv_source.proofs.ClockNames.{flat-flat}
use Rattle.lv_const.proofs.Refusals.{gathered}
use Rattle.lv_resolve.specs.declared.error.ResolveError.{ResolveError}
use Rattle.lv_resolve.specs.declared.error.ResolveError.TheVariants as y
use Rattle.lv_resolve.specs.Resolved.{AreFaultless, IsToldOf}
use Rattle.lv_resolve.proofs.Covers.{nowhere-in, in-same}
use Rattle.lv_resolve.proofs.FixedLaws.{spotted}
use Rattle.lv_resolve.proofs.Nodes.{and-left, and-right}
use Rattle.lv_resolve.proofs.Zeros.{all-empty, single}
use Rattle.lv_parts.specs.declared.error.PartsError.{PartsError}
use Rattle.lv_parts.specs.Errors.{of_node, IsToldBy}
use Rattle.lv_parts.specs.Made.{AreAll, HasOne}
use Rattle.lv_parts.specs.Nets.{node_faults}

-- ---- lists

pub spots-joined : {A : Type 0} (here : Here) (g : A → List Site) (xs : List A) → spots here (flat_map g xs) ≡ flat_map (λ x. spots here (g x)) xs
spots-joined here g [] = refl
spots-joined here g (x ∷ xs) =
    map-append (λ (s : Site). (let p : Spot = record { early = here.early; site = s } in p)) (g x) (flat_map g xs) ∙
    ap (λ (ps : List Spot). spots here (g x) ++ ps) (spots-joined here g xs)

pub passes : {A : Type 0} (test : A → Bool) (xs : List A) → list_all test xs ≡ true → AreAll (λ x. test x ≡ true) xs
passes test [] h = record { each = λ x c. absurd (nowhere-in x c) }
passes test (z ∷ xs) h = record {
  each = λ x c. elim (Contains-append_cases (z ∷ []) xs x c) [
    | inl k ↦ ap test (sym (single z x k)) ∙ and-left (test z) (list_all test xs) h
    | inr k ↦ (passes test xs (and-right (test z) (list_all test xs) h)).each x k
  ];
}

-- ---- nodes

pub node-told : (here : Here) (sites : List Site) (z : ResolveError) → IsToldOf (spots here sites) z → IsToldBy (node_faults here sites) ⊥ (of_node z)
node-told here sites (y.UnknownName p) h = h
node-told here sites (y.NotConstant p) h = h
node-told here sites (y.ZeroDivisor p) h = h
node-told here sites (y.Range p) h = h
node-told here sites y.NoMemory h = tt

pub clocks-of : (here : Here) (sites : List Site) (cs : List ℕ) → flat_map (site_faults ClockUse) (spots here sites) ≡ cs → cs ≡ clocks_in sites
clocks-of here sites cs e = sym e ∙ spotted here (site_faults ClockUse) sites

-- ---- the nodes of each element

module _ {A : Type 0} (here : Here) (sites : A → List Site) (xs : List A) where
  nodes-joined : (kind : Kind) → node_faults here (flat_map sites xs) kind ≡ flat_map (λ x. node_faults here (sites x) kind) xs
  nodes-joined kind = ap (flat_map (site_faults kind)) (spots-joined here sites xs) ∙ flat-flat (site_faults kind) (λ x. spots here (sites x)) xs

  pub node-among : (x : A) (kind : Kind) (p : ℕ) → Contains xs x → Contains (node_faults here (sites x) kind) p → Contains (node_faults here (flat_map sites xs) kind) p
  node-among x kind p c h = in-same _ _ p (sym (nodes-joined kind)) (gathered (λ z. node_faults here (sites z) kind) xs x p c h)

  pub all-faultless : AreAll (λ x. AreFaultless (spots here (sites x))) xs → AreFaultless (spots here (flat_map sites xs))
  all-faultless h = record {
    unknown = nodes-joined UnknownName ∙ all-empty (λ x. node_faults here (sites x) UnknownName) xs (λ x c. (h.each x c).unknown);
    unfixed = nodes-joined NotConstant ∙ all-empty (λ x. node_faults here (sites x) NotConstant) xs (λ x c. (h.each x c).unfixed);
    zero = nodes-joined ZeroDivisor ∙ all-empty (λ x. node_faults here (sites x) ZeroDivisor) xs (λ x c. (h.each x c).zero);
    range = nodes-joined Range ∙ all-empty (λ x. node_faults here (sites x) Range) xs (λ x c. (h.each x c).range);
  }
