-- What the items of a scope come to.
use Rattle.std.specs.Prelude.{◌≡◌, ℕ, suc, ◌+◌, ◌<◌, ◌≤◌, List, [], ◌++◌, map, length, take, flat_map, slice_get, Some, Contains, ⊤}
use Rattle.lv_ast.specs.declared.stmt.Ident.{Ident}
use Rattle.lv_ast.specs.declared.item.Conn.{Conn}
use Rattle.lv_ast.specs.declared.item.Inst.{Inst}
use Rattle.lv_ast.specs.declared.item.Item.{Item}
use Rattle.lv_ast.specs.declared.item.Item.TheVariants as i
use Rattle.lv_ast.specs.declared.item.Source.{Source}
use Rattle.lv_source.specs.Limits.{item_size}
use Rattle.lv_source.specs.Scopes.{Scope, children, children_by, counted_items, module_named, links}
use Rattle.lv_source.specs.ScopeRules.{unknown_module_in, unknown_in_item, recursion_in, extra_settings, twice_linked, settable_of}
use Rattle.lv_sizes.specs.Totals.{total}
use Rattle.lv_children.specs.Children.{Seen, seen, child_scope}
use Rattle.lv_preorder.specs.Origins.{AllIn}
use Rattle.lv_preorder.specs.Origins as origin
use Rattle.lv_faults.specs.Faults.{IsItemFault, IsFaultlessItem}
use Rattle.lv_faults.specs.declared.fault.ScopeError.TheVariants as t
use Rattle.lv_survey.specs.declared.below.Below.{Below}
use Rattle.lv_survey.specs.declared.found.Survey.{Survey}
use Rattle.lv_survey.specs.declared.error.SurveyError.{SurveyError}
use Rattle.lv_survey.specs.declared.error.SurveyError.TheVariants as e

-- ---- what stands below

-- what stands below a scope, without references
abbrev pub below_of : Below → origin.Below
below_of b = record { parent = b.parent; before = b.before; child = seen b.child }

abbrev pub all_below : List Below → List origin.Below
all_below bs = map below_of bs

-- a child below the scope with this number, behind so many declarations
abbrev pub put_below : ℕ → ℕ → Seen → origin.Below
put_below number k x = record { parent = number; before = k; child = x }

-- the scope that it is, in this one
abbrev pub scope_in : Scope → origin.Below → Scope
scope_in s b = child_scope s b.before b.child

-- all in the scope with this number and no more than may come, with an end for each item; no more turns and nodes than before
pub record IsListed (number room n turns nodes : ℕ) (r : Survey) : Type 0 where
  pub inside : AllIn number (all_below r.children.items)
  pub few : length r.children.items ≤ room
  pub ends : length r.ends.items ≡ n
  pub turns_few : r.turns ≤ turns
  pub nodes_few : r.nodes ≤ nodes

-- ---- what is known of an item

-- of instances: their module is known and stands not around them, and each setting has its parameter once
pub record IsKnownInstance (source : Source) (s : Scope) (kind : Ident) (settings : List Conn) (insts : List Inst) : Type 0 where
  pub known : unknown_module_in source s.names (i.Instance kind settings insts) ≡ []
  pub named : unknown_in_item source s.names (i.Instance kind settings insts) ≡ []
  pub apart : recursion_in source s s.names (i.Instance kind settings insts) ≡ []
  pub few : extra_settings s.names (settable_of (module_named source kind.name)) settings ≡ []
  pub once : twice_linked s.names (links (settable_of (module_named source kind.name)) settings) ≡ []

abbrev pub IsSurveyedItem : Source → Scope → ℕ × Item → Type 0
IsSurveyedItem source s (k, i.Instance kind settings insts) = IsKnownInstance source s kind settings insts
IsSurveyedItem source s (k, i.Loop' index start test again next label n items) =
    IsFaultlessItem source s (k, i.Loop' index start test again next label n items)
IsSurveyedItem source s _ = ⊤

-- ---- what is answered of the scope

-- how many scopes stand below by these items
abbrev pub count_by_items : Source → Scope → List (ℕ × Item) → ℕ
count_by_items source s xs = length (flat_map (children_by source s) xs)

-- these are its children, up to and with each item so many; turns and nodes are taken off what was left of them
pub record IsSurveyed (turns nodes : ℕ) (source : Source) (s : Scope) (r : Survey) : Type 0 where
  pub scopes : map (scope_in s) (all_below r.children.items) ≡ children source s
  pub count : length r.ends.items ≡ length (counted_items s)
  pub ends : (j : ℕ) → j < length (counted_items s) → slice_get r.ends.items j ≡ Some (count_by_items source s (take (suc j) (counted_items s)))
  pub turns_left : r.turns + (total (item_size s) s.items).turns ≡ turns
  pub nodes_left : r.nodes + (total (item_size s) s.items).nodes ≡ nodes
  pub each : (x : ℕ × Item) → Contains (counted_items s) x → IsSurveyedItem source s x

-- a fault of one of its items, or some of its first items have more turns, nodes or scopes than are left
abbrev pub IsRefused : ℕ → ℕ → ℕ → Source → Scope → SurveyError → Type 0
IsRefused room turns nodes source s (e.Fault a) = (x : ℕ × Item) × Contains (counted_items s) x × IsItemFault source s x (t.Fault a)
IsRefused room turns nodes source s e.Instances =
    (xs : List (ℕ × Item)) × (ys : List (ℕ × Item)) × (xs ++ ys ≡ counted_items s) × (room < count_by_items source s xs)
IsRefused room turns nodes source s e.Turns = (xs : List Item) × (ys : List Item) × (xs ++ ys ≡ s.items) × (turns < (total (item_size s) xs).turns)
IsRefused room turns nodes source s e.Nodes = (xs : List Item) × (ys : List Item) × (xs ++ ys ≡ s.items) × (nodes < (total (item_size s) xs).nodes)
IsRefused room turns nodes source s e.NoMemory = ⊤
