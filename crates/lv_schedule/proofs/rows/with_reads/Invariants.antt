use Rattle.std.proofs.Common.{take}
use Rattle.lv_schedule.specs.Tables.{AddsSpans}
use Rattle.lv_schedule.proofs.rows.with_reads.Given as goal

abbrev pub invariant-loop-r : goal.invariant-loop-r
invariant-loop-r l = AddsSpans l.extents l.count l.reader.part l.reader.alone (take l.r-index l.reads) l.fn.row.items l.made.items
