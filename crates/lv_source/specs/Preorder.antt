-- The scopes of a design one by one, and what is counted on the way.
use Rattle.std.specs.Prelude.{◌+◌, ◌≤◌, List, [], ◌∷◌, ◌++◌, map, length, flat_map}
use Rattle.lv_ast.specs.declared.item.Item.{Item}
use Rattle.lv_ast.specs.declared.item.Source.{Source}
use Rattle.lv_source.specs.Scopes.{Scope, children}
use Rattle.lv_source.specs.Parts.{Design, parts, scopes_of, scope_parts, item_parts}
use Rattle.lv_source.specs.Limits.{Size, sum_sizes, scope_size, items_size, design_size}

-- the scopes that wait, each followed by those below it
pub data AreScopes (source : Source) : List Scope → List Scope → Type 0 where
  none : AreScopes source [] []
  next : {s : Scope} {waiting us : List Scope} → AreScopes source (children source s ++ waiting) us → AreScopes source (s ∷ waiting) (s ∷ us)

abbrev pub scopes_size : List Scope → Size
scopes_size ss = sum_sizes (map scope_size ss)

-- scopes that are done, and those that wait behind them, are no more than all
pub record AreSome (d : Design) (done waiting : List Scope) : Type 0 where
  pub scopes : length done + length waiting ≤ length (scopes_of d)
  pub turns : (scopes_size done).turns ≤ (design_size d).turns
  pub nodes : (scopes_size done).nodes ≤ (design_size d).nodes
  pub parts : length (flat_map (scope_parts d.source) done) ≤ length (parts d)

-- nor are they with the first items of the next scope
pub record AreSomeItems (d : Design) (done : List Scope) (s : Scope) (items : List Item) : Type 0 where
  pub turns : (scopes_size done).turns + (items_size s items).turns ≤ (design_size d).turns
  pub nodes : (scopes_size done).nodes + (items_size s items).nodes ≤ (design_size d).nodes
  pub parts : length (flat_map (scope_parts d.source) done) + length (flat_map (item_parts d.source s) items) ≤ length (parts d)
