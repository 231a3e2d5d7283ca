-- The scopes of a design are those that a walk comes to, and what it has counted so far is no more than all.
use Rattle.std.proofs.Common.{◌≡◌, ◌↔◌, inl, inr, ℕ, zero, suc, ◌+◌, ◌<◌, ◌≤◌, arith, List, [], ◌∷◌, ◌++◌, map, length, append_assoc, refl, sym, ap, ◌∙◌, subst, Some}
use Rattle.std.specs.Prelude.{bytes_eq, flat_map, sum}
use Rattle.std.proofs.lemmas.List.{length-append}
use Rattle.std.proofs.lemmas.Grind.{flat_map-append}
use Rattle.std.proofs.lemmas.List.Sums.{sum_by-cons}
use Rattle.lv_ast.specs.declared.item.Item.{Item}
use Rattle.lv_ast.specs.declared.item.Module.{Module}
use Rattle.lv_ast.specs.declared.item.Source.{Source}
use Rattle.lv_source.specs.Scopes.{Scope, module_named, children, scopes_within}
use Rattle.lv_source.specs.Parts.{Design, depth, top_scope, scopes_from, scopes_of, parts, scope_parts, item_parts}
use Rattle.lv_source.specs.Limits.{Size, nodes_alone, scope_size, item_size, items_size, params_nodes, ports_nodes}
use Rattle.lv_source.specs.Preorder.{AreScopes, none, next, scopes_size, AreSome, AreSomeItems}
use Rattle.lv_source.proofs.Refused.{In}
use Rattle.lv_source.proofs.Bridges.{map-join}
use Rattle.lv_source.proofs.Shaped.{found_in}
use Rattle.lv_source.proofs.Nesting.{height, lower, top_lower}

-- ---- scopes

module _ (source : Source) where
  IsBelow : ℕ → List Scope → Type 0
  IsBelow n ss = (s : Scope) → In s ss → height source s < n

  AllWalks : ℕ → Type 0
  AllWalks n = (ss rest us : List Scope) → IsBelow n ss → AreScopes source rest us → AreScopes source (ss ++ rest) (flat_map (scopes_within n source) ss ++ us)

  one_more : (n : ℕ) → AllWalks n → AllWalks (suc n)
  unfolding AllWalks IsBelow
  one_more n f [] rest us h a = a
  one_more n f (s ∷ ss) rest us h a =
      let below : (c : Scope) → In c (children source s) → height source c < n = (λ c i. (let x : height source c < height source s = lower source s c i in let y : height source s < suc n = h s (inl refl) in omega arith)) in
      let others : AreScopes source (ss ++ rest) (flat_map (scopes_within (suc n) source) ss ++ us) = one_more n f ss rest us (λ c i. h c (inr i)) a in
      let here : _ = f (children source s) (ss ++ rest) (flat_map (scopes_within (suc n) source) ss ++ us) below others in
      next (subst (AreScopes source (children source s ++ (ss ++ rest)))
      (sym (append_assoc (flat_map (scopes_within n source) (children source s)) (flat_map (scopes_within (suc n) source) ss) us)) here)

  never : AllWalks zero
  unfolding AllWalks IsBelow
  never [] rest us h a = a
  never (s ∷ ss) rest us h a = absurd (let x : height source s < 0 = h s (inl refl) in omega arith)

  walks : (n : ℕ) → AllWalks n
  walks zero = never
  walks (suc n) = one_more n (walks n)

  same_walk : (ss us vs : List Scope) → AreScopes source ss us → AreScopes source ss vs → us ≡ vs
  same_walk _ _ _ none none = refl
  same_walk (s ∷ ss) _ _ (next a) (next b) = ap (λ zs. s ∷ zs) (same_walk (children source s ++ ss) _ _ a b)

  pub waiting_fewer : (ss us : List Scope) → AreScopes source ss us → length ss ≤ length us
  waiting_fewer _ _ none = omega arith
  waiting_fewer (s ∷ ss) (_ ∷ us) (next a) =
      let e : length (children source s ++ ss) ≡ length (children source s) + length ss = length-append (children source s) ss in
      let f : length (children source s ++ ss) ≤ length us = waiting_fewer (children source s ++ ss) us a in
      omega arith

no_more : {A : Type 0} (xs : List A) → (xs ++ []) ++ [] ≡ xs
no_more [] = refl
no_more (x ∷ xs) = ap (λ zs. x ∷ zs) (no_more xs)

from_named : (d : Design) (m : Module) → module_named d.source d.top ≡ Some m → scopes_of d ≡ scopes_within (suc (depth d.source)) d.source (top_scope d m)
unfolding scopes_of
from_named d m e = ap (scopes_from d) e

top_walk : (d : Design) (m : Module) → module_named d.source d.top ≡ Some m → AreScopes d.source (top_scope d m ∷ []) (scopes_of d)
unfolding AllWalks IsBelow
top_walk d m e =
    let n : ℕ = suc (depth d.source) in
    let low : height d.source (top_scope d m) < n = top_lower d m (found_in (λ m. bytes_eq m.name.name d.top) d.source.modules m e) in
    let w : AreScopes d.source (top_scope d m ∷ []) ((scopes_within n d.source (top_scope d m) ++ []) ++ []) =
    walks d.source n (top_scope d m ∷ []) [] [] (λ s i. elim i [ inl q ↦ subst (λ (z : Scope). height d.source z < n) q low | inr q ↦ absurd q ]) none in
    subst (AreScopes d.source (top_scope d m ∷ [])) (no_more (scopes_within n d.source (top_scope d m)) ∙ sym (from_named d m e)) w

-- a walk from the top comes to the scopes of the design, and to nothing else
pub walk_is : (d : Design) (m : Module) (us : List Scope) → module_named d.source d.top ≡ Some m → AreScopes d.source (top_scope d m ∷ []) us ↔ us ≡ scopes_of d
walk_is d m us e = (
  (λ a. same_walk d.source (top_scope d m ∷ []) us (scopes_of d) a (top_walk d m e)),
  (λ q. subst (AreScopes d.source (top_scope d m ∷ [])) (sym q) (top_walk d m e)),
)

-- ---- counts

sum_join : {A : Type 0} (f : A → ℕ) (xs ys : List A) → sum (map f (xs ++ ys)) ≡ sum (map f xs) + sum (map f ys)
sum_join f [] ys = (let e : sum (map f ys) ≡ 0 + sum (map f ys) = omega arith in e)
sum_join f (x ∷ xs) ys =
    let a : sum (f x ∷ map f (xs ++ ys)) ≡ f x + sum (map f (xs ++ ys)) = sum_by-cons (λ k. k) (f x) (map f (xs ++ ys)) in
    let b : sum (f x ∷ map f xs) ≡ f x + sum (map f xs) = sum_by-cons (λ k. k) (f x) (map f xs) in
    let e : sum (map f (xs ++ ys)) ≡ sum (map f xs) + sum (map f ys) = sum_join f xs ys in
    omega arith

sizes_join : {A : Type 0} (g : Size → ℕ) (f : A → Size) (xs ys : List A) → sum (map g (map f (xs ++ ys))) ≡ sum (map g (map f xs)) + sum (map g (map f ys))
sizes_join g f xs ys = ap (λ zs. sum (map g zs)) (map-join f xs ys) ∙ sum_join g (map f xs) (map f ys)

sizes_first : (g : Size → ℕ) (z : Size) (zs : List Size) → sum (map g (z ∷ zs)) ≡ g z + sum (map g zs)
sizes_first g z zs = sum_by-cons (λ k. k) (g z) (map g zs)

-- the counts of a scope grow with its items
items_grow : (g : Size → ℕ) (z : Size) (f : Item → Size) (xs ys : List Item) → sum (map g (z ∷ map f xs)) ≤ sum (map g (z ∷ map f (xs ++ ys)))
items_grow g z f xs ys =
    let a : sum (map g (z ∷ map f xs)) ≡ g z + sum (map g (map f xs)) = sizes_first g z (map f xs) in
    let b : sum (map g (z ∷ map f (xs ++ ys))) ≡ g z + sum (map g (map f (xs ++ ys))) = sizes_first g z (map f (xs ++ ys)) in
    let c : sum (map g (map f (xs ++ ys))) ≡ sum (map g (map f xs)) + sum (map g (map f ys)) = sizes_join g f xs ys in
    omega arith

scopes_grow : (g : Size → ℕ) (ss us : List Scope) → sum (map g (map scope_size ss)) ≤ sum (map g (map scope_size (ss ++ us)))
scopes_grow g ss us = (let c : sum (map g (map scope_size (ss ++ us))) ≡ sum (map g (map scope_size ss)) + sum (map g (map scope_size us)) = sizes_join g scope_size ss us in omega arith)

parts_grow : {A B : Type 0} (f : A → List B) (xs ys : List A) → length (flat_map f (xs ++ ys)) ≡ length (flat_map f xs) + length (flat_map f ys)
parts_grow f xs ys = ap length (flat_map-append f xs ys) ∙ length-append (flat_map f xs) (flat_map f ys)

pub of_done : (d : Design) (done waiting us : List Scope) → done ++ us ≡ scopes_of d → AreScopes d.source waiting us → AreSome d done waiting
unfolding parts
of_done d done waiting us e a = record {
  scopes = (let x : length (done ++ us) ≡ length done + length us = length-append done us in let y : length waiting ≤ length us = waiting_fewer d.source waiting us a in
      let z : length (done ++ us) ≡ length (scopes_of d) = ap length e in omega arith);
  turns = subst (λ (zs : List Scope). (scopes_size done).turns ≤ sum (map (λ (s : Size). s.turns) (map scope_size zs))) e (scopes_grow (λ s. s.turns) done us);
  nodes = subst (λ (zs : List Scope). (scopes_size done).nodes ≤ sum (map (λ (s : Size). s.nodes) (map scope_size zs))) e (scopes_grow (λ s. s.nodes) done us);
  parts = subst (λ (zs : List Scope). length (flat_map (scope_parts d.source) done) ≤ length (flat_map (scope_parts d.source) zs)) e
      (let x : length (flat_map (scope_parts d.source) (done ++ us)) ≡ length (flat_map (scope_parts d.source) done) + length (flat_map (scope_parts d.source) us) = parts_grow (scope_parts d.source) done us in omega arith);
}

size_with : (g : Size → ℕ) (z : Size) (f : Item → Size) (xs ys items : List Item) → xs ++ ys ≡ items → sum (map g (z ∷ map f xs)) ≤ sum (map g (z ∷ map f items))
size_with g z f xs ys items e = subst (λ (zs : List Item). sum (map g (z ∷ map f xs)) ≤ sum (map g (z ∷ map f zs))) e (items_grow g z f xs ys)

-- n is what is counted of the next scope so far
scope_with : (g : Size → ℕ) (done us all : List Scope) (s : Scope) (n : ℕ) → n ≤ g (scope_size s) → done ++ s ∷ us ≡ all → sum (map g (map scope_size done)) + n ≤ sum (map g (map scope_size all))
scope_with g done us all s n h e =
    subst (λ (zs : List Scope). sum (map g (map scope_size done)) + n ≤ sum (map g (map scope_size zs))) e
    (let a : sum (map g (map scope_size (done ++ s ∷ us))) ≡ sum (map g (map scope_size done)) + sum (map g (map scope_size (s ∷ us))) = sizes_join g scope_size done (s ∷ us) in
    let b : sum (map g (map scope_size (s ∷ us))) ≡ g (scope_size s) + sum (map g (map scope_size us)) = sizes_first g (scope_size s) (map scope_size us) in
    omega arith)

header_size : Scope → Size
header_size s = nodes_alone (sum (map params_nodes s.params) + ports_nodes s.ports)

pub of_first : (d : Design) (done us : List Scope) (s : Scope) (xs ys : List Item) → done ++ s ∷ us ≡ scopes_of d → xs ++ ys ≡ s.items → AreSomeItems d done s xs
unfolding parts header_size
of_first d done us s xs ys e f = record {
  turns = scope_with (λ z. z.turns) done us (scopes_of d) s (items_size s xs).turns (size_with (λ z. z.turns) (header_size s) (item_size s) xs ys s.items f) e;
  nodes = scope_with (λ z. z.nodes) done us (scopes_of d) s (items_size s xs).nodes (size_with (λ z. z.nodes) (header_size s) (item_size s) xs ys s.items f) e;
  parts = subst (λ (zs : List Scope). length (flat_map (scope_parts d.source) done) + length (flat_map (item_parts d.source s) xs) ≤ length (flat_map (scope_parts d.source) zs)) e
      (let a : length (flat_map (scope_parts d.source) (done ++ s ∷ us)) ≡ length (flat_map (scope_parts d.source) done) + length (flat_map (scope_parts d.source) (s ∷ us)) = parts_grow (scope_parts d.source) done (s ∷ us) in
      let b : length (scope_parts d.source s ++ flat_map (scope_parts d.source) us) ≡ length (scope_parts d.source s) + length (flat_map (scope_parts d.source) us) =
      length-append (scope_parts d.source s) (flat_map (scope_parts d.source) us) in
      let c : length (flat_map (item_parts d.source s) (xs ++ ys)) ≡ length (flat_map (item_parts d.source s) xs) + length (flat_map (item_parts d.source s) ys) = parts_grow (item_parts d.source s) xs ys in
      let g : length (flat_map (item_parts d.source s) (xs ++ ys)) ≡ length (scope_parts d.source s) = ap (λ zs. length (flat_map (item_parts d.source s) zs)) f in
      omega arith);
}
