use Rattle.std.proofs.Common.{get_or, inr}
use Rattle.lv_contract.specs.declared.key.Key.TheVariants as k
use Rattle.lv_contract.proofs.Elements.{contains_at}
use Rattle.lv_contract.proofs.check.check_values.Goals as goal

pub returns-in-Err : goal.returns-in-Err
returns-in-Err c = λ n.
    let keys = c.keys-key-items.result.now in
    let at = c.loop-key.key-index in
    inr (get_or keys at k.Format, contains_at keys _ at k.Format c.loop-key.invariant.0 c.loop-key-test.true, c.in-Err.ensures n)
