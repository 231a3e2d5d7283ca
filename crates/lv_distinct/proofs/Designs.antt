-- The signals of a design that breaks none of these rules share no cell.
use Rattle.std.proofs.Common.{◌≡◌, inl, inr, ℕ, suc, ◌+◌, ◌<◌, ◌≤◌, ◌^◌, arith, true, List, [], ◌∷◌, map, refl, sym, ap, ◌∙◌, subst, Option, Some, None}
use Rattle.std.specs.Prelude.{bytes_eq, flat_map, filter, sum}
use Rattle.std.proofs.lemmas.List.Sums.{sum_by-cons}
use Rattle.std.proofs.lemmas.Bool.{ltb-true}
use Rattle.lv_ast.specs.declared.item.Item.{Item}
use Rattle.lv_ast.specs.declared.item.Module.{Module}
use Rattle.lv_ast.specs.PlainNames.{plain_module, HasPlainNames}
use Rattle.lv_source.specs.Names.{Bounds, Declared, high}
use Rattle.lv_source.specs.Scopes.{Scope, module_named}
use Rattle.lv_source.specs.Parts.{Design, scope_signals, signals_of, declared_of, is_signal, scopes_from, scopes_of, depth, top_scope}
use Rattle.lv_source.specs.Limits.{Size, nodes_alone, params_nodes, ports_nodes, item_size, scope_size, design_size, IsWithinLimits}
use Rattle.lv_source.specs.ScopeRules.{duplicates}
use Rattle.lv_source.specs.Legal.{places_of, modules_again, Duplicate}
use Rattle.lv_source.proofs.Refused.{In}
use Rattle.lv_source.proofs.FaultLaws.{append-right, scopes_clean}
use Rattle.lv_source.proofs.Shaped.{module_shaped, all_shaped, all_in, found_in}
use Rattle.lv_source.proofs.Given.{mapped_in}
use Rattle.lv_source.proofs.Distinct.{signals_differ}
use Rattle.lv_source.proofs.Listed.{signals_listed}
use Rattle.lv_source.proofs.Apart.{Apart, in-filter}
use Rattle.lv_flat.specs.Cells.{Cell, all_cells, AreDistinct}
use Rattle.lv_flat.specs.declared.signal.Signal.{Signal}
use Rattle.lv_flat.specs.Signals.{declared_all}
use Rattle.lv_distinct.specs.Small.{is_small, has_small_array, are_small}
use Rattle.lv_source.proofs.Tests.{and-left, and-right}
use Rattle.lv_distinct.proofs.Cells.{CellsDiffer, signals_distinct, only_signals}

in_sum : (ns : List ℕ) (n : ℕ) → In n ns → n ≤ sum ns
in_sum [] n h = absurd h
in_sum (m ∷ ms) n (inl e) = let c : sum (m ∷ ms) ≡ m + sum ms = sum_by-cons (λ k. k) m ms in omega arith
in_sum (m ∷ ms) n (inr h) = let c : sum (m ∷ ms) ≡ m + sum ms = sum_by-cons (λ k. k) m ms in let f : n ≤ sum ms = in_sum ms n h in omega arith

scope_turns : (s : Scope) (x : Item) → In x s.items → (item_size s x).turns ≤ (scope_size s).turns
scope_turns s x h =
    in_sum (map (λ (z : Size). z.turns) (nodes_alone (sum (map params_nodes s.params) + ports_nodes s.ports) ∷ map (item_size s) s.items)) (item_size s x).turns
    (inr (mapped_in (λ (z : Size). z.turns) (item_size s x) (map (item_size s) s.items) (mapped_in (item_size s) x s.items h)))

-- no loop of a scope goes beyond the limit
loops_end : (d : Design) → IsWithinLimits d → (s : Scope) → In s (scopes_of d) → (x : Item) → In x s.items → (item_size s x).turns ≤ 1000000
loops_end d limits s h x k =
    let a : (item_size s x).turns ≤ (scope_size s).turns = scope_turns s x k in
    let b : (scope_size s).turns ≤ (design_size d).turns =
    in_sum (map (λ (z : Size). z.turns) (map scope_size (scopes_of d))) (scope_size s).turns
    (mapped_in (λ (z : Size). z.turns) (scope_size s) (map scope_size (scopes_of d)) (mapped_in scope_size s (scopes_of d) h)) in
    let c : (design_size d).turns ≤ 1000000 = limits.turns in
    omega arith

from_top : (d : Design) → HasPlainNames d.source → (o : Option Module) → ((m : Module) → o ≡ Some m → plain_module m ≡ true) →
    ((u : Scope) → In u (scopes_from d o) → (duplicates u ≡ []) × ((x : Item) → In x u.items → (item_size u x).turns ≤ 1000000)) →
    Apart CellsDiffer (flat_map scope_signals (scopes_from d o))
from_top d plain None f e = tt
from_top d plain (Some m) f e =
    signals_differ d.source (suc (depth d.source)) (top_scope d m)
    (λ u i. (all_shaped d.source plain (suc (depth d.source)) (top_scope d m) (module_shaped [] true [] [] (λ constants. d.clock ∷ []) m (f m refl)) u i, (e u i).0, (e u i).1))

signals_apart : (d : Design) → HasPlainNames d.source → IsWithinLimits d → places_of d Duplicate ≡ [] → Apart CellsDiffer (signals_of d)
unfolding scopes_of signals_of places_of
signals_apart d plain limits none =
    from_top d plain (module_named d.source d.top)
    (λ m k. all_in plain_module d.source.modules m plain.plain (found_in (λ m. bytes_eq m.name.name d.top) d.source.modules m k))
    (λ u k. (scopes_clean duplicates (scopes_of d) (append-right (modules_again d.source.modules) _ none) u k, loops_end d limits u k))

in_signals : (x : Declared) (ds : List Declared) → In x (filter is_signal ds) → In x ds
in_signals x ds h = (in-filter is_signal x ds h).0

-- a list of bounds below 2 to 64
pub HasSmall : List Declared → Type 0
HasSmall ds = (x : Declared) → In x ds → (b : Bounds) → x.array ≡ Some b → high b < 2 ^ 64

pub design_distinct : (d : Design) → HasPlainNames d.source → IsWithinLimits d → places_of d Duplicate ≡ [] → HasSmall (declared_of d) → AreDistinct (all_cells (declared_of d))
unfolding HasSmall
design_distinct d plain limits none small =
    subst (λ (cs : List Cell). AreDistinct cs) (ap all_cells (signals_listed d) ∙ only_signals (declared_of d))
    (signals_distinct (signals_of d) (λ x i. small x (in_signals x (declared_of d) (subst (λ (ds : List Declared). In x ds) (signals_listed d) i)))
    (signals_apart d plain limits none))

-- ---- from the signals of the code

small_bounds : (b : Bounds) → is_small (Some b) ≡ true → high b < 2 ^ 64
small_bounds b h = ltb-true (high b) (2 ^ 64) h

small_in : (ss : List Signal) → are_small ss ≡ true → HasSmall (declared_all ss)
unfolding HasSmall
small_in [] h x i b e = absurd i
small_in (s ∷ ss) h x (inl i) b e = small_bounds b (ap is_small (sym e ∙ ap (λ (d : Declared). d.array) (sym i)) ∙ and-left (has_small_array s) (are_small ss) h)
small_in (s ∷ ss) h x (inr i) b e = small_in ss (and-right (has_small_array s) (are_small ss) h) x i b e

pub code_distinct : (ss : List Signal) (d : Design) → are_small ss ≡ true → HasPlainNames d.source → IsWithinLimits d → places_of d Duplicate ≡ [] → declared_all ss ≡ declared_of d →
    AreDistinct (all_cells (declared_all ss))
code_distinct ss d small plain limits none same =
    subst (λ (ds : List Declared). AreDistinct (all_cells ds)) (sym same)
    (design_distinct d plain limits none (subst HasSmall same (small_in ss small)))
