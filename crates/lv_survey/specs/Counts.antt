-- How many entries of a scope come first where so many of its declarations stand before.
use Rattle.std.specs.Prelude.{◌≡◌, ℕ, suc, ◌+◌, ◌<◌, ◌≤◌, List, map, length, take, slice_index, slice_get, Some}
use Rattle.lv_ast.specs.declared.item.Item.{Item}
use Rattle.lv_source.specs.Declarations.{Declaration}
use Rattle.lv_source.specs.Scopes.{counted_from}
use Rattle.lv_const.specs.declared.consts.Entry.{Entry}
use Rattle.lv_symbols.specs.Making.{parameters_in}
use Rattle.lv_declared.specs.declared.listed.Counted.{Counted}
use Rattle.lv_declared.specs.Listing.{counted}

-- for each number of declarations: those before the parameters, and one for each parameter before
pub record AreEntryCounts (base : ℕ) (ds : List Declaration) (counts : List ℕ) : Type 0 where
  pub each : (k : ℕ) → k ≤ length ds → slice_get counts k ≡ Some (base + parameters_in (take k ds))
  pub all : length counts ≡ suc (length ds)

-- they rise, none is more than there are entries, and there is one for each of these items, which are counted one after another
pub record AreCounts (entries : List Entry) (counts : List ℕ) (items : List Counted) : Type 0 where
  pub few : (k : ℕ) → k < length counts → slice_index counts k ≤ length entries
  pub rise : (j k : ℕ) → j ≤ k → k < length counts → slice_index counts j ≤ slice_index counts k
  pub known : (k : ℕ) (c : Counted) → slice_get items k ≡ Some c → c.before < length counts
  pub header : ℕ
  pub texts : List Item
  pub listed : map counted items ≡ counted_from header texts
