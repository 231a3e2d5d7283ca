use Rattle.std.proofs.Common.{arith}
use Rattle.lv_sinks.proofs.ShapeLaws.{shape-Name, shape-Cat, shape-other, shapes-none, shapes-more, shapes-all}
use Rattle.lv_sinks.proofs.shape.+shapes.Goals as goal

pub is_sink-returns-in-Name : goal.is_sink-returns-in-Name
is_sink-returns-in-Name t c = λ names. shape-Name names c.args.expr.now _ _ c.in-Name.is

pub is_sink-returns-in-Cat : goal.is_sink-returns-in-Cat
is_sink-returns-in-Cat t c = λ names. shape-Cat names c.args.expr.now c.in-Cat.parts _ c.are_sinks.result c.in-Cat.is c.as_slice.ensures (c.are_sinks.ensures names)

pub is_sink-returns-in_default : goal.is_sink-returns-in_default
is_sink-returns-in_default t c = λ names. shape-other names c.args.expr.now c.in_default.not-Name c.in_default.not-Cat

pub are_sinks-returns-then-not-is_sink : goal.are_sinks-returns-then-not-is_sink
are_sinks-returns-then-not-is_sink t c = λ names.
    shapes-none names c.args.exprs.now c.loop-expr.expr-index c.expr-item.result c.is_sink.result c.loop-expr-test.true c.expr-item.is (c.is_sink.ensures names) c.if-not-is_sink.true

pub are_sinks-loop-expr-preserved : goal.are_sinks-loop-expr-preserved
are_sinks-loop-expr-preserved t c = λ names.
    shapes-more names c.args.exprs.now c.loop-expr.expr-index c.expr-item.result c.is_sink.result c.loop-expr-test.true c.expr-item.is (c.is_sink.ensures names) c.if-not-is_sink.false
    (c.loop-expr.invariant names)

pub are_sinks-returns : goal.are_sinks-returns
are_sinks-returns t c = λ names. shapes-all names c.args.exprs.now c.loop-expr.expr-index (omega arith) (c.loop-expr.invariant names)
