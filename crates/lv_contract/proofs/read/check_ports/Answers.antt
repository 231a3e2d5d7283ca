use Rattle.std.proofs.Common.{◌≡◌, ℕ, Some, true, map, ap, sym, ◌∙◌, subst, refl}
use Rattle.toml.specs.Data.{Members}
use Rattle.toml.specs.View.{table_view}
use Rattle.lv_contract.specs.declared.key.Level.TheVariants as level
use Rattle.lv_contract.specs.Values.{keeps, tables_in}
use Rattle.lv_contract.specs.Ranges.{are_same}
use Rattle.lv_contract.specs.Shapes.{contract_count}
use Rattle.lv_contract.specs.Parts.{port_in}
use Rattle.lv_contract.specs.Checks.{HasPortPartFault}
use Rattle.lv_contract.proofs.Faults.{port_part_fault, unequal}
use Rattle.lv_contract.proofs.read.check_ports.Goals as goal

pub returns-in-Err : goal.returns-in-Err
returns-in-Err c =
    port_part_fault c.args.need 2 (table_view c.args.table.now) c.in-Err.error c.requires refl
    (subst (λ ds. HasPortPartFault c.args.need ds c.in-Err.error) c.array-values.ensures c.in-Err.ensures)

pub returns-then-even : goal.returns-then-even
returns-then-even c = record {
  each = subst (λ ds. (i : ℕ) (port : Members) → port_in i ds ≡ Some port → keeps c.args.need level.Port port ≡ true) c.array-values.ensures c.in-Ok.ensures;
  same = ap (λ ds. are_same (map contract_count (tables_in ds))) (sym c.array-values.ensures) ∙ (sym c.have_one_count-even.ensures ∙ c.if-even.true);
}

pub returns : goal.returns
returns c =
    unequal c.args.need (table_view c.args.table.now) c.refuse_ports.result c.requires
    (ap (λ ds. are_same (map contract_count (tables_in ds))) (sym c.array-values.ensures) ∙ (sym c.have_one_count-even.ensures ∙ c.if-even.false)) c.refuse_ports.ensures
