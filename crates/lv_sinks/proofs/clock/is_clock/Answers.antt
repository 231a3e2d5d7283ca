use Rattle.std.proofs.Common.{◌&&◌, ap, sym, ◌∙◌}
use Rattle.lv_source.specs.Names.{known, is_clock_sort}
use Rattle.lv_sinks.proofs.ClockLaws.{clock-Name, empty-is}
use Rattle.lv_sinks.proofs.clock.is_clock.Goals as goal

pub returns-then-is_empty : goal.returns-then-is_empty
returns-then-is_empty g c = record {
  at = λ here ok.
      c.names_clock.ensures.at here ok ∙
      (sym (ap (λ b. b && is_clock_sort (known (here.names c.in-Name.path)).sort) (sym (empty-is c.in-Name.selects c.is_empty.result c.is_empty.ensures) ∙ c.if-is_empty.true)) ∙
      clock-Name here.names c.args.expr.now c.in-Name.path c.in-Name.selects c.in-Name.is);
}

pub returns-else-is_empty : goal.returns-else-is_empty
returns-else-is_empty g c = record {
  at = λ here ok.
      c.if-is_empty.false ∙
      (sym (ap (λ b. b && is_clock_sort (known (here.names c.in-Name.path)).sort) (sym (empty-is c.in-Name.selects c.is_empty.result c.is_empty.ensures) ∙ c.if-is_empty.false)) ∙
      clock-Name here.names c.args.expr.now c.in-Name.path c.in-Name.selects c.in-Name.is);
}
