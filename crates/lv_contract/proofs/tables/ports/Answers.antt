use Rattle.std.proofs.Common.{◌≡◌, true, sym, subst}
use Rattle.toml.specs.View.{table_view}
use Rattle.lv_contract.specs.Values.{all_items, is_table}
use Rattle.lv_contract.proofs.Faults.{tables_if}
use Rattle.lv_contract.proofs.Ports.{second_each, second_few, first_fits}
use Rattle.lv_contract.proofs.tables.ports.Goals as goal

pub all_ports-requires : goal.all_ports-requires
all_ports-requires c =
    let ms = table_view c.args.table.now in
    record {
      tables = subst (λ ds. all_items is_table ds ≡ true) (sym c.array-values.ensures) (tables_if c.args.format ms c.requires.tables c.if-format-eq2.true);
      each = second_each c.args.format ms _ c.array-values.ensures c.if-format-eq2.true c.requires;
      few = second_few c.args.format ms c.array-values.result.now c.array-values.ensures c.if-format-eq2.true c.requires;
    }

pub first_port-requires : goal.first_port-requires
first_port-requires c = first_fits c.args.format (table_view c.args.table.now) c.if-format-eq2.false c.requires
