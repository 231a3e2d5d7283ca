use Rattle.std.proofs.Common.{sym, ◌∙◌, arith}
use Rattle.std.proofs.lemmas.Bool.{true≢false, le-ltb}
use Rattle.lv_source.proofs.Tests.{not-true}
use Rattle.lv_schedule.proofs.Shares.{whole_is}
use Rattle.lv_schedule.proofs.rows.is_whole.Goals as goal
use Rattle.lv_schedule.proofs.rows.is_whole.Goals.{then-r-count, else-r-count}

pub returns-then-covers : goal.returns-then-covers
returns-then-covers c = λ t D part alone a o. elim c.if-r-count.branch [
  | then-r-count w ↦ whole_is D part alone c.args.own.now c.args.r c.in-None.is (w.covers.ensures (sym w.value-is ∙ c.if-covers.true) D a) o a.narrow
      (c.meets.ensures.apart (not-true c.meets.result t)) c.args.count (omega arith)
  | else-r-count w ↦ absurd (true≢false (sym c.if-covers.true ∙ (w.value-is ∙ le-ltb c.args.r.signal c.args.count (omega arith))))
]
