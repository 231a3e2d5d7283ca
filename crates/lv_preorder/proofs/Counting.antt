-- What is counted where a scope is reached.
use Rattle.std.proofs.Common.{◌≡◌, ℕ, ◌+◌, ◌≤◌, arith, List, [], ◌∷◌, ◌++◌, map, length, refl, sym, ap, ◌∙◌, subst, Some}
use Rattle.std.specs.Prelude.{flat_map, Contains}
use Rattle.std.proofs.lemmas.Grind.{flat_map-append}
use Rattle.std.proofs.lemmas.List.Elements.{Contains-append_right}
use Rattle.lv_ast.specs.declared.item.Item.{Item}
use Rattle.lv_ast.specs.declared.item.Module.{Module}
use Rattle.lv_source.specs.Scopes.{Scope, children, children_by, counted_items, module_named}
use Rattle.lv_source.specs.Parts.{Design, scopes_of, top_scope}
use Rattle.lv_source.specs.Preorder.{AreScopes, AreSomeItems}
use Rattle.lv_source.proofs.Walks.{walk_is, waiting_fewer, of_first}
use Rattle.lv_preorder.specs.Counted.{IsReached}
use Rattle.lv_preorder.specs.Origins.{Below, scope_below, built, IsTracked}
use Rattle.lv_preorder.proofs.Walking.{Next, next-is}

pub next-reached : (d : Design) (top : Scope) (bs ws : List Below) (b : Below) → IsTracked d top bs (b ∷ ws) →
    IsReached d (built top bs) (scope_below top (built top bs) b) (map (scope_below top (built top bs)) ws)
next-reached d top bs ws b t =
    let n : Next d.source (scope_below top (built top bs) b) (map (scope_below top (built top bs)) ws) t.rest =
    next-is d.source (scope_below top (built top bs) b) (map (scope_below top (built top bs)) ws) t.rest t.walk in
    record { others = n.us; all = ap (λ xs. built top bs ++ xs) (sym n.is) ∙ t.all; walk = n.walk }

pub top-reached : (d : Design) (m : Module) → module_named d.source d.top ≡ Some m → IsReached d [] (top_scope d m) []
top-reached d m e =
    let w : AreScopes d.source (top_scope d m ∷ []) (scopes_of d) = (walk_is d m (scopes_of d) e).1 refl in
    let n : Next d.source (top_scope d m) [] (scopes_of d) = next-is d.source (top_scope d m) [] (scopes_of d) w in
    record { others = n.us; all = sym n.is; walk = n.walk }

length-both : {A : Type 0} (xs ys : List A) → length (xs ++ ys) ≡ length xs + length ys
length-both [] ys = omega arith
length-both (x ∷ xs) ys = let h : length (xs ++ ys) ≡ length xs + length ys = length-both xs ys in omega arith

pub scopes-counted : (d : Design) (done waiting : List Scope) (s : Scope) (xs ys : List (ℕ × Item)) → IsReached d done s waiting → xs ++ ys ≡ counted_items s →
    length done + length waiting + length (flat_map (children_by d.source s) xs) + 1 ≤ length (scopes_of d)
scopes-counted d done waiting s xs ys r e =
    let fewer : length (children d.source s ++ waiting) ≤ length r.others = waiting_fewer d.source (children d.source s ++ waiting) r.others r.walk in
    let both : length (children d.source s ++ waiting) ≡ length (children d.source s) + length waiting = length-both (children d.source s) waiting in
    let all : length (scopes_of d) ≡ length done + length (s ∷ r.others) = ap length (sym r.all) ∙ length-both done (s ∷ r.others) in
    let kids : length (children d.source s) ≡ length (flat_map (children_by d.source s) xs) + length (flat_map (children_by d.source s) ys) =
    ap (λ zs. length (flat_map (children_by d.source s) zs)) (sym e) ∙ ap length (flat_map-append (children_by d.source s) xs ys) ∙
    length-both (flat_map (children_by d.source s) xs) (flat_map (children_by d.source s) ys) in
    omega arith

pub items-counted : (d : Design) (done waiting : List Scope) (s : Scope) (xs ys : List Item) → IsReached d done s waiting → xs ++ ys ≡ s.items → AreSomeItems d done s xs
items-counted d done waiting s xs ys r e = of_first d done r.others s xs ys r.all e

pub reached-there : (d : Design) (done waiting : List Scope) (s : Scope) → IsReached d done s waiting → Contains (scopes_of d) s
reached-there d done waiting s r = subst (λ xs. Contains xs s) r.all (Contains-append_right done (s ∷ r.others) s (0, omega arith, refl))
