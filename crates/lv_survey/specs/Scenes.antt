-- The scopes of which something is answered: by the modules that stand around, the names there and the constants.
use Rattle.std.specs.Prelude.{◌≡◌, ℕ, Bool, List, map, take, slice_index, Option, Contains}
use Rattle.std.specs.Borrow.{Bor}
use Rattle.lv_ast.specs.declared.expr.Path.{Path}
use Rattle.lv_ast.specs.declared.item.Item.{Item}
use Rattle.lv_ast.specs.declared.item.Module.{Module}
use Rattle.lv_ast.specs.declared.item.Source.{Source}
use Rattle.lv_ast.specs.Names.{Name}
use Rattle.lv_source.specs.Scopes.{Scope, here_at, counted_items}
use Rattle.lv_const.specs.declared.consts.Entry.{Entry}
use Rattle.lv_flat.specs.Signals.{Signals}
use Rattle.lv_resolve.specs.Indices.{IsAt}
use Rattle.lv_children.specs.Children.{IsWithin, names_in}
use Rattle.lv_declared.specs.declared.listed.Counted.{Counted}
use Rattle.lv_declared.specs.Listing.{counted}

-- what stays the same: the modules, the names of those that stand around, the signals, how names are found, and all constants
pub record Scene : Type 0 where
  pub modules : List Module
  pub around : List Name
  pub signals : Signals
  pub find : Path → Option ℕ
  pub indices : Name → Option Bool
  pub all : List Entry

abbrev pub scene : List Module → List (Bor Name) → Signals → (Path → Option ℕ) → (Name → Option Bool) → List Entry → Scene
scene modules around signals find indices all =
    record { modules = modules; around = names_in around; signals = signals; find = find; indices = indices; all = all }

-- these are its names and constants where so many of its declarations stand before
abbrev pub IsPlace : Scene → List Entry → Scope → ℕ → Type 0
IsPlace c early s k = IsAt c.signals c.find c.indices c.all early (here_at s k)

-- how many entries come first where so many declarations stand before
abbrev pub entries_before : List Entry → List ℕ → ℕ → List Entry
entries_before entries counts k = take (slice_index counts k) entries

-- a scope with these items, and with these constants at each of them
pub record IsScopeHere (c : Scene) (entries : List Entry) (counts : List ℕ) (items : List Counted) (source : Source) (s : Scope) : Type 0 where
  pub within : IsWithin c.modules c.around source s
  pub listed : counted_items s ≡ map counted items
  pub places : (x : ℕ × Item) → Contains (counted_items s) x → IsPlace c (entries_before entries counts x.0) s x.0

-- in each such scope
pub record InScope (c : Scene) (entries : List Entry) (counts : List ℕ) (items : List Counted) (Holds : Source → Scope → Type 0) : Type 0 where
  pub at : (source : Source) (s : Scope) → IsScopeHere c entries counts items source s → Holds source s

-- ---- for the proof: at one item

pub record AtItem (c : Scene) (early : List Entry) (k : ℕ) (Holds : Source → Scope → Type 0) : Type 0 where
  pub at : (source : Source) (s : Scope) → IsWithin c.modules c.around source s → IsPlace c early s k → Holds source s
