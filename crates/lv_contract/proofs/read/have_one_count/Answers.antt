use Rattle.std.proofs.Common.{sym, ◌∙◌}
use Rattle.lv_contract.proofs.Ports.{same_counts}
use Rattle.lv_contract.proofs.read.have_one_count.Goals as goal

pub returns : goal.returns
returns c =
    c.have_count.ensures
    ∙ same_counts c.args.values.now c.behind_first-rest.result.now c.index-values-0.result c.contract_count-count.result c.if-values-eq0.false (sym c.index-values-0.is) c.contract_count-count.ensures c.behind_first-rest.ensures
