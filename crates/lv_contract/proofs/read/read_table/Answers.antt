use Rattle.std.proofs.Common.{Some, inl, sym, ap, ◌∙◌}
use Rattle.toml.specs.View.{table_view}
use Rattle.lv_contract.proofs.Kept.{format_read, top_fits, parts_keep}
use Rattle.lv_contract.proofs.read.read_table.Goals as goal

pub returns-in-Err : goal.returns-in-Err
returns-in-Err c = inl (c.in-Err.ensures 0)

pub check_all-requires : goal.check_all-requires
check_all-requires c = format_read c.args.need (table_view c.args.table.now) c.in-Ok.ensures ∙ ap Some (sym c.number-format.ensures)

pub contract_of-requires : goal.contract_of-requires
contract_of-requires c =
    let ms = table_view c.args.table.now in
    let format = format_read c.args.need ms c.in-Ok.ensures ∙ ap Some (sym c.number-format.ensures) in
    record { format = format; fit = top_fits c.args.need c.number-format.result ms format c.in-Ok-check_all.ensures }

pub returns-in-Ok-contract_of : goal.returns-in-Ok-contract_of
returns-in-Ok-contract_of c =
    let ms = table_view c.args.table.now in
    let format = format_read c.args.need ms c.in-Ok.ensures ∙ ap Some (sym c.number-format.ensures) in
    let h = c.in-Ok-contract_of.ensures in
    record {
      format = format ∙ ap Some (sym h.format);
      keeps = parts_keep c.args.need c.number-format.result ms format c.in-Ok-check_all.ensures;
      says = h.says;
    }

pub returns-in-Err-contract_of : goal.returns-in-Err-contract_of
returns-in-Err-contract_of c = c.in-Err-contract_of.ensures.refused c.args.need
