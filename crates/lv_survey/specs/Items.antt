-- For the proof: what one item comes to, and the items so far.
use Rattle.std.specs.Prelude.{◌≡◌, ℕ, suc, ◌+◌, ◌<◌, ◌≤◌, List, [], ◌∷◌, ◌++◌, map, length, take, flat_map, slice_get, slice_index, Some, Contains, Result, IfOk, IfErr, ⊤}
use Rattle.lv_ast.specs.declared.item.Item.{Item}
use Rattle.lv_ast.specs.declared.item.Source.{Source}
use Rattle.lv_source.specs.Limits.{Size, item_size}
use Rattle.lv_source.specs.Names.{Here}
use Rattle.lv_source.specs.Scopes.{Scope, here_at, children_by}
use Rattle.lv_const.specs.declared.consts.Entry.{Entry}
use Rattle.lv_sizes.specs.Totals.{total}
use Rattle.lv_sizes.specs.declared.size.Size as left
use Rattle.lv_children.specs.Children.{child_scope, all_seen, AddsScopes}
use Rattle.lv_children.specs.declared.child.Child.{Child}
use Rattle.lv_declared.specs.declared.listed.Counted.{Counted}
use Rattle.lv_preorder.specs.Origins.{AllIn}
use Rattle.lv_preorder.specs.Origins as origin
use Rattle.lv_faults.specs.Faults.{IsItemFault}
use Rattle.lv_faults.specs.declared.fault.ScopeError.TheVariants as t
use Rattle.lv_survey.specs.declared.found.Survey.{Survey}
use Rattle.lv_survey.specs.declared.error.SurveyError.{SurveyError}
use Rattle.lv_survey.specs.declared.error.SurveyError.TheVariants as e
use Rattle.lv_survey.specs.Surveys.{all_below, put_below, scope_in, count_by_items, IsSurveyedItem}

-- ---- sizes

pub record IsSizeLeft (s : Scope) (item : Item) (turns nodes : ℕ) (z : left.Size) : Type 0 where
  pub turns_left : z.turns + (item_size s item).turns ≡ turns
  pub nodes_left : z.nodes + (item_size s item).nodes ≡ nodes

-- a fault of the item, or more turns or nodes than are left
abbrev pub IsTooLarge : ℕ → ℕ → Source → Scope → ℕ × Item → SurveyError → Type 0
IsTooLarge turns nodes source s x (e.Fault a) = IsItemFault source s x (t.Fault a)
IsTooLarge turns nodes source s x e.Instances = ⊥
IsTooLarge turns nodes source s x e.Turns = turns < (item_size s x.1).turns
IsTooLarge turns nodes source s x e.Nodes = nodes < (item_size s x.1).nodes
IsTooLarge turns nodes source s x e.NoMemory = ⊤

-- a fault of the item, or more scopes than may come
abbrev pub AreNoKids : ℕ → Source → Scope → ℕ × Item → SurveyError → Type 0
AreNoKids most source s x (e.Fault a) = IsItemFault source s x (t.Fault a)
AreNoKids most source s x e.Instances = most < length (children_by source s x)
AreNoKids most source s x e.Turns = ⊥
AreNoKids most source s x e.Nodes = ⊥
AreNoKids most source s x e.NoMemory = ⊤

-- of each scope with this item at such a place
pub record SizeAnswer (here : Here) (x : ℕ × Item) (turns nodes : ℕ) (r : Result left.Size SurveyError) : Type 0 where
  pub right : (s : Scope) → here_at s x.0 ≡ here → IfOk r (IsSizeLeft s x.1 turns nodes)
  pub wrong : (source : Source) (s : Scope) → here_at s x.0 ≡ here → IfErr r (IsTooLarge turns nodes source s x)

-- ---- scopes

pub record AddsKids (source : Source) (s : Scope) (x : ℕ × Item) (old new : List Child) : Type 0 where
  pub scopes : AddsScopes s x.0 old new (children_by source s x)
  pub surveyed : IsSurveyedItem source s x

pub record AreKids (source : Source) (s : Scope) (x : ℕ × Item) (kids : List Child) : Type 0 where
  pub scopes : map (child_scope s x.0) (all_seen kids) ≡ children_by source s x
  pub surveyed : IsSurveyedItem source s x

-- ---- an item more

-- these, with an end for them, and so much is left
pub record Puts (number k : ℕ) (kids : List Child) (z : left.Size) (old new : Survey) : Type 0 where
  pub children : all_below new.children.items ≡ all_below old.children.items ++ map (put_below number k) (all_seen kids)
  pub ends : new.ends.items ≡ old.ends.items ++ length new.children.items ∷ []
  pub turns : new.turns ≡ z.turns
  pub nodes : new.nodes ≡ z.nodes

-- more in the scope with this number
pub record Grows (number room : ℕ) (old new : Survey) : Type 0 where
  pub more : List origin.Below
  pub children : all_below new.children.items ≡ all_below old.children.items ++ more
  pub inside : AllIn number more
  pub few : length old.children.items ≤ room → length new.children.items ≤ room
  pub ends : length new.ends.items ≡ length old.ends.items + 1
  pub turns_few : new.turns ≤ old.turns
  pub nodes_few : new.nodes ≤ old.nodes

pub record IsGrown (source : Source) (s : Scope) (x : ℕ × Item) (old new : Survey) : Type 0 where
  pub scopes : map (scope_in s) (all_below new.children.items) ≡ map (scope_in s) (all_below old.children.items) ++ children_by source s x
  pub ends : new.ends.items ≡ old.ends.items ++ length new.children.items ∷ []
  pub turns_left : new.turns + (item_size s x.1).turns ≡ old.turns
  pub nodes_left : new.nodes + (item_size s x.1).nodes ≡ old.nodes
  pub surveyed : IsSurveyedItem source s x

-- more than is left
abbrev pub IsNotGrown : ℕ → Source → Scope → ℕ × Item → Survey → SurveyError → Type 0
IsNotGrown room source s x old (e.Fault a) = IsItemFault source s x (t.Fault a)
IsNotGrown room source s x old e.Instances = room < length old.children.items + length (children_by source s x)
IsNotGrown room source s x old e.Turns = old.turns < (item_size s x.1).turns
IsNotGrown room source s x old e.Nodes = old.nodes < (item_size s x.1).nodes
IsNotGrown room source s x old e.NoMemory = ⊤

-- ---- the items so far

abbrev pub sizes_of : Scope → List (ℕ × Item) → Size
sizes_of s xs = total (item_size s) (map (λ x. x.1) xs)

pub record IsSoFar (turns nodes : ℕ) (source : Source) (s : Scope) (xs : List (ℕ × Item)) (r : Survey) : Type 0 where
  pub scopes : map (scope_in s) (all_below r.children.items) ≡ flat_map (children_by source s) xs
  pub count : length r.ends.items ≡ length xs
  pub ends : (j : ℕ) → j < length xs → slice_get r.ends.items j ≡ Some (count_by_items source s (take (suc j) xs))
  pub turns_left : r.turns + (sizes_of s xs).turns ≡ turns
  pub nodes_left : r.nodes + (sizes_of s xs).nodes ≡ nodes
  pub each : (x : ℕ × Item) → Contains xs x → IsSurveyedItem source s x

-- the constants so far are the first ones, and no more than are declared before each item to come
pub record IsAhead (entries : List Entry) (counts : List ℕ) (items : List Counted) (n : ℕ) (early : List Entry) : Type 0 where
  pub first : early ≡ take (length early) entries
  pub less : (k : ℕ) (c : Counted) → n ≤ k → slice_get items k ≡ Some c → length early ≤ slice_index counts c.before
