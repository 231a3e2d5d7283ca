use Rattle.std.proofs.Common.{◌≡◌, drop}
use Rattle.std.specs.List.{list_all}
use Rattle.toml.specs.View.{table_view}
use Rattle.lv_contract.specs.Keys.{keys_of}
use Rattle.lv_contract.specs.Values.{keeps_row}
use Rattle.lv_contract.proofs.check.check_values.Given as goal

abbrev pub invariant-loop-key : goal.invariant-loop-key
invariant-loop-key l =
    (l.key-items ≡ keys_of l.level)
    × (list_all (keeps_row l.need (table_view l.table)) (drop l.key-index l.key-items) ≡ list_all (keeps_row l.need (table_view l.table)) l.key-items)
