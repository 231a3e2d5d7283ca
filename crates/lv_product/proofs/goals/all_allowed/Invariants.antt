use Rattle.std.proofs.Common.{take}
use Rattle.std.specs.List.{list_all}
use Rattle.lv_unroll.specs.Wires.{GivesTest}
use Rattle.lv_unroll.specs.Unrolls.{words_in}
use Rattle.lv_product.specs.Values.{is_met}
use Rattle.lv_product.proofs.goals.all_allowed.Given as goal

abbrev pub invariant-loop-k : goal.invariant-loop-k
invariant-loop-k l = GivesTest l.fn.b l.b l.all (λ ws. list_all (λ t. list_all (is_met (words_in l.fn.b ws t)) l.assume) (take l.k l.tables))
