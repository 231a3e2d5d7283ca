use Rattle.std.proofs.Common.{subst}
use Rattle.toml.specs.View.{table_view}
use Rattle.lv_contract.specs.Parts.{IsPartFault}
use Rattle.lv_contract.proofs.Faults.{top_fault}
use Rattle.lv_contract.proofs.read.check_all.Goals as goal

pub returns-in-Err : goal.returns-in-Err
returns-in-Err c =
    let ms = table_view c.args.table.now in
    top_fault c.args.need c.args.format ms c.in-Err.error c.requires
    (subst (λ level. IsPartFault c.args.need level 0 ms c.in-Err.error) c.top_level-level.ensures (c.in-Err.ensures 0))
