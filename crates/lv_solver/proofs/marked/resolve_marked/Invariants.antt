use Rattle.lv_solver.specs.Resolving.{IsDerived}
use Rattle.lv_solver.proofs.marked.resolve_marked.Given as goal

abbrev pub invariant-loop-turn : goal.invariant-loop-turn
invariant-loop-turn l = IsDerived l.trail l.seen l.hints.items
