use Rattle.std.proofs.Common.{◌≡◌, ◌<◌, false, length, refl, arith}
use Rattle.std.specs.List.{list_any}
use Rattle.std.proofs.lemmas.Option.{slice_get_read}
use Rattle.lv_flat.specs.Signals.{declared_all}
use Rattle.lv_rules.specs.Reads.{is_blocking_part}
use Rattle.lv_rules.proofs.Sharers.{before_at_none, before_at_more, before_at_all}
use Rattle.lv_rules.proofs.blocking.first_of.Goals as goal

pub loop-part-init : goal.loop-part-init
loop-part-init c = before_at_none (λ k x. list_any (is_blocking_part (declared_all c.args.signals.now) c.args.late.now c.args.readers.now k x) x.steps ≡ false) c.args.extents.now

pub returns-in-Some : goal.returns-in-Some
returns-in-Some c =
    let l : c.loop-part.part < length c.args.extents.now = omega arith in
    record {
      x = c.index-extents-part.result;
      there = slice_get_read c.args.extents.now (length c.args.extents.now)
          c.loop-part.part c.index-extents-part.result refl l c.index-extents-part.is;
      found = c.in-Some.ensures;
    }

pub loop-part-preserved : goal.loop-part-preserved
loop-part-preserved c =
    let l : c.loop-part.part < length c.args.extents.now = omega arith in
    before_at_more (λ k x. list_any (is_blocking_part (declared_all c.args.signals.now) c.args.late.now c.args.readers.now k x) x.steps ≡ false)
    c.args.extents.now c.loop-part.part c.index-extents-part.result l c.index-extents-part.is c.in-None.ensures c.loop-part.invariant

pub returns : goal.returns
returns c = before_at_all (λ k x. list_any (is_blocking_part (declared_all c.args.signals.now) c.args.late.now c.args.readers.now k x) x.steps ≡ false)
    c.args.extents.now c.loop-part.part (omega arith) c.loop-part.invariant
