-- The parts of connections, one behind the other.
use Rattle.std.proofs.Common.{◌≡◌, inl, inr, ℕ, zero, suc, ◌+◌, ◌<◌, arith, Bool, true, ◌&&◌, List, [], ◌∷◌, ◌++◌, map, length, get_or, take, append_assoc, refl, sym, ap, ◌∙◌, subst, Option, Ok}
use Rattle.std.specs.Prelude.{flat_map, Contains}
use Rattle.std.specs.List.{list_all}
use Rattle.std.proofs.lemmas.Grind.{flat_map-append}
use Rattle.std.proofs.lemmas.List.{append-nil, map-append}
use Rattle.std.proofs.lemmas.List.Folds.{list_all-append}
use Rattle.std.proofs.lemmas.List.Elements.{Contains-append_left, Contains-append_right}
use Rattle.lv_source.specs.Names.{Here}
use Rattle.lv_source.specs.Scopes.{Scope, Link}
use Rattle.lv_source.specs.ScopeRules.{no_target}
use Rattle.lv_source.specs.Sites.{Site, Spot, spots}
use Rattle.lv_source.specs.PartSites.{link_sites}
use Rattle.lv_source.specs.Parts.{Part, option_list}
use Rattle.lv_source.specs.Parts as parts
use Rattle.lv_source.specs.Views.{View, view_of}
use Rattle.lv_source.specs.Faults.{site_faults}
use Rattle.lv_source.specs.Legal.{UnknownName, NotConstant, ZeroDivisor, Range}
use Rattle.lv_source.proofs.Refused.{In, in_contains}
use Rattle.lv_source.proofs.Tests.{and-left, and-right, and-both}
use Rattle.lv_source.proofs.Bridges.{two, map-join}
use Rattle.lv_const.proofs.Told.{none-joined, both-empty}
use Rattle.lv_flat.specs.declared.part.FlatPart.{FlatPart}
use Rattle.lv_flat.specs.Signals.{Signals}
use Rattle.lv_flat.specs.FlatViews.{flat_view}
use Rattle.lv_flat.specs.Good.{good_body}
use Rattle.lv_links.specs.declared.linked.Linked.{Linked}
use Rattle.lv_links.specs.Linking.{link_of, all_links}
use Rattle.lv_links.proofs.Lists.{taken, snoc}
use Rattle.lv_resolve.specs.Resolved.{AreFaultless, IsToldOf}
use Rattle.lv_sinks.specs.Connected.{LinkAnswer, IsNoLinkPart, has_link_operands}
use Rattle.lv_sinks.specs.declared.error.PartError.{PartError}
use Rattle.lv_sinks.specs.declared.error.PartError.TheVariants as p
use Rattle.lv_resolve.specs.declared.error.ResolveError.{ResolveError}
use Rattle.lv_resolve.specs.declared.error.ResolveError.TheVariants as y
use Rattle.lv_faults.specs.declared.fault.Fault.TheVariants as f
use Rattle.lv_faults.specs.declared.fault.ScopeError.{ScopeError}
use Rattle.lv_faults.specs.declared.fault.ScopeError.TheVariants as e
use Rattle.lv_faults.specs.Faults.{of_node}
use Rattle.lv_connections.specs.Joined.{IsFaultOf, IsJoinFault, IsJoined, AreJoined, of_part}

-- ---- faults

pub spots-join : (here : Here) (xs ys : List Site) → spots here (xs ++ ys) ≡ spots here xs ++ spots here ys
spots-join here xs ys = map-join (λ (x : Site). let z : Spot = record { early = here.early; site = x } in z) xs ys

pub faultless-both : (xs ys : List Spot) → AreFaultless xs → AreFaultless ys → AreFaultless (xs ++ ys)
faultless-both xs ys h k = record {
  unknown = none-joined (site_faults UnknownName) xs ys h.unknown k.unknown;
  unfixed = none-joined (site_faults NotConstant) xs ys h.unfixed k.unfixed;
  zero = none-joined (site_faults ZeroDivisor) xs ys h.zero k.zero;
  range = none-joined (site_faults Range) xs ys h.range k.range;
}

-- what is told of some is told of more
pub fault-within : (xs us : List Spot) (ps qs : List ℕ) → ((g : Spot → List ℕ) (place : ℕ) → Contains (flat_map g xs) place → Contains (flat_map g us) place) →
    ((place : ℕ) → Contains ps place → Contains qs place) → (z : ScopeError) → IsFaultOf xs ps z → IsFaultOf us qs z
fault-within xs us ps qs n m (e.Fault (f.UnknownModule place)) h = h
fault-within xs us ps qs n m (e.Fault (f.UnknownName place)) h = n (site_faults UnknownName) place h
fault-within xs us ps qs n m (e.Fault (f.Duplicate place)) h = h
fault-within xs us ps qs n m (e.Fault (f.NotConstant place)) h = n (site_faults NotConstant) place h
fault-within xs us ps qs n m (e.Fault (f.ZeroDivisor place)) h = n (site_faults ZeroDivisor) place h
fault-within xs us ps qs n m (e.Fault (f.Range place)) h = n (site_faults Range) place h
fault-within xs us ps qs n m (e.Fault (f.Recursion place)) h = h
fault-within xs us ps qs n m (e.Fault (f.Port place)) h = m place h
fault-within xs us ps qs n m e.NoMemory h = h

node-fault : (xs : List Spot) (ps : List ℕ) (z : ResolveError) → IsToldOf xs z → IsFaultOf xs ps (of_node z)
node-fault xs ps (y.UnknownName place) h = h
node-fault xs ps (y.NotConstant place) h = h
node-fault xs ps (y.ZeroDivisor place) h = h
node-fault xs ps (y.Range place) h = h
node-fault xs ps y.NoMemory h = h

pub part-fault : (here : Here) (s child : Scope) (q : Link) (z : PartError) → IsNoLinkPart here s child q z →
    IsFaultOf (spots here (link_sites s.names child q)) (no_target s.names child q) (of_part z)
part-fault here s child q (p.NoTarget place) h = h
part-fault here s child q (p.Fault z) h = node-fault (spots here (link_sites s.names child q)) (no_target s.names child q) z h
part-fault here s child q p.NoMemory h = h

-- ---- one of some

pub in-at : (ls : List Linked) (i : ℕ) (x : Linked) → i < length ls → x ≡ get_or ls i x → In (link_of x) (all_links ls)
in-at [] i x l g = absurd (omega (arith, l))
in-at (z ∷ ls) zero x l g = inl (ap link_of (sym g))
in-at (z ∷ ls) (suc i) x l g = inr (in-at ls i x (omega (arith, l)) g)

places-there : (g : Link → List ℕ) (ls : List Link) (q : Link) (place : ℕ) → In q ls → Contains (g q) place → Contains (flat_map g ls) place
places-there g [] q place (w) c = absurd w
places-there g (l ∷ ls) q place (inl w) c = Contains-append_left (g l) (flat_map g ls) place (subst (λ k. Contains (g k) place) (sym w) c)
places-there g (l ∷ ls) q place (inr w) c = Contains-append_right (g l) (flat_map g ls) place (places-there g ls q place w c)

module _ (here : Here) (g : Spot → List ℕ) (h : Link → List Site) where
  nodes-split : (l : Link) (ls : List Link) → flat_map g (spots here (flat_map h (l ∷ ls))) ≡ flat_map g (spots here (h l)) ++ flat_map g (spots here (flat_map h ls))
  nodes-split l ls = ap (flat_map g) (spots-join here (h l) (flat_map h ls)) ∙ flat_map-append g (spots here (h l)) (spots here (flat_map h ls))

  nodes-there : (ls : List Link) (q : Link) (place : ℕ) → In q ls → Contains (flat_map g (spots here (h q))) place → Contains (flat_map g (spots here (flat_map h ls))) place
  nodes-there [] q place w c = absurd w
  nodes-there (l ∷ ls) q place (inl w) c = subst (λ ns. Contains ns place) (sym (nodes-split l ls))
      (Contains-append_left (flat_map g (spots here (h l))) (flat_map g (spots here (flat_map h ls))) place (subst (λ k. Contains (flat_map g (spots here (h k))) place) (sym w) c))
  nodes-there (l ∷ ls) q place (inr w) c = subst (λ ns. Contains ns place) (sym (nodes-split l ls))
      (Contains-append_right (flat_map g (spots here (h l))) (flat_map g (spots here (flat_map h ls))) place (nodes-there ls q place w c))

pub fault-there : (here : Here) (s child : Scope) (ls : List Link) (q : Link) → In q ls → (z : ScopeError) →
    IsFaultOf (spots here (link_sites s.names child q)) (no_target s.names child q) z → IsJoinFault here s child ls z
fault-there here s child ls q w z h = fault-within (spots here (link_sites s.names child q)) (spots here (flat_map (link_sites s.names child) ls))
    (no_target s.names child q) (flat_map (no_target s.names child) ls)
    (λ g place c. nodes-there here g (link_sites s.names child) ls q place w c) (λ place c. places-there (no_target s.names child) ls q place w c) z h

-- ---- parts

module _ (S : Signals) (here : Here) (s child : Scope) where
  pub no-parts : (old : List FlatPart) → AreJoined S here s child [] old old
  no-parts old = record {
    more = [];
    adds = sym (append-nil old);
    views = refl;
    good = λ o n. refl;
    faultless = record { unknown = refl; unfixed = refl; zero = refl; range = refl };
    targets = refl;
  }

  pub one-part : (q : Link) (part : Option FlatPart) → LinkAnswer S here s child q (Ok part) → (old new : List FlatPart) → new ≡ old ++ option_list part → IsJoined S here s child q old new
  one-part q part a old new h = record { part = part; adds = h; is = a.right }

  abbrev good : FlatPart → Bool
  good x = good_body S x.body

  pub more-parts : (ls : List Link) (q : Link) (old mid new : List FlatPart) → AreJoined S here s child ls old mid → IsJoined S here s child q mid new →
      AreJoined S here s child (ls ++ q ∷ []) old new
  more-parts ls q old mid new a b = record {
    more = a.more ++ option_list b.part;
    adds = b.adds ∙ (ap (λ zs. zs ++ option_list b.part) a.adds ∙ append_assoc old a.more (option_list b.part));
    views = map-append (flat_view S) a.more (option_list b.part) ∙
        (two (λ (us vs : List View). us ++ vs) _ _ _ _ a.views b.is.view ∙
        (sym (map-append view_of (flat_map (parts.link_part s child) ls) (parts.link_part s child q)) ∙ ap (map view_of) (sym (snoc (parts.link_part s child) ls q))));
    good = λ o n.
        let os : (list_all has_link_operands ls && list_all has_link_operands (q ∷ [])) ≡ true = sym (list_all-append has_link_operands ls (q ∷ [])) ∙ o in
        list_all-append good a.more (option_list b.part) ∙
        and-both _ _ (a.good (and-left _ _ os) (λ k c. n k (Contains-append_left ls (q ∷ []) k c)))
        (b.is.good (and-left _ _ (and-right _ _ os)) (n q (Contains-append_right ls (q ∷ []) q (in_contains q (q ∷ []) (inl refl)))));
    faultless = subst AreFaultless (sym (ap (spots here) (snoc (link_sites s.names child) ls q) ∙ spots-join here (flat_map (link_sites s.names child) ls) (link_sites s.names child q)))
        (faultless-both (spots here (flat_map (link_sites s.names child) ls)) (spots here (link_sites s.names child q)) a.faultless b.is.faultless);
    targets = snoc (no_target s.names child) ls q ∙ both-empty _ _ a.targets b.is.target;
  }

pub links-taken : (ls : List Linked) (i : ℕ) (x : Linked) → i < length ls → x ≡ get_or ls i x → all_links (take (i + 1) ls) ≡ all_links (take i ls) ++ link_of x ∷ []
links-taken ls i x l g = ap all_links (taken ls i x l g) ∙ map-append link_of (take i ls) (x ∷ [])
