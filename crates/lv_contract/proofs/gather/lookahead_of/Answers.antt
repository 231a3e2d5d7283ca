use Rattle.std.proofs.Common.{◌≡◌, ◌≤◌, true, sym, subst, arith}
use Rattle.lv_contract.specs.declared.key.Key.TheVariants as k
use Rattle.lv_contract.specs.Ranges.{in_range}
use Rattle.lv_contract.proofs.Counts.{few_lookahead}
use Rattle.lv_contract.proofs.gather.lookahead_of.Goals as goal

pub overflow_cast-result : goal.overflow_cast-result
overflow_cast-result c =
    let few : c.number-lookahead.result ≤ 32 = few_lookahead c.number-lookahead.result (subst (λ n. in_range k.Lookahead n ≡ true) (sym c.number-lookahead.ensures) c.requires) in
    omega (arith, few)
