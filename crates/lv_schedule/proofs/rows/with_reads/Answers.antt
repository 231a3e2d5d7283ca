use Rattle.std.proofs.Common.{◌<◌, None, length, get_or, arith}
use Rattle.std.proofs.lemmas.List.{get_or_default}
use Rattle.lv_spans.specs.declared.span.Span.{Span}
use Rattle.lv_schedule.proofs.Edges.{adds_none, adds_more}
use Rattle.lv_schedule.proofs.rows.with_reads.Goals as goal

pub loop-r-init : goal.loop-r-init
loop-r-init c = adds_none c.args.extents.now c.args.count c.args.reader.part c.args.reader.alone c.args.row.items

pub loop-r-preserved : goal.loop-r-preserved
loop-r-preserved c =
    let l : c.loop-r.r-index < length c.args.reads.now = omega arith in
    let none : Span = record { signal = 0; element = None; mask = 0 } in
    let r : Span = get_or c.args.reads.now c.loop-r.r-index none in
    adds_more c.args.extents.now c.args.count c.args.reader.part c.args.reader.alone c.args.reads.now c.loop-r.r-index r c.args.row.items c.loop-r.made.items
    c.in_ok-made.made.items l (get_or_default c.args.reads.now c.loop-r.r-index none r l) c.loop-r.invariant c.in_ok-made.ensures
