use Rattle.std.proofs.Common.{◌≡◌, ◌+◌, ◌*◌, true, false, take, max, map}
use Rattle.std.specs.Prelude.{flat_map}
use Rattle.std.specs.List.{list_all}
use Rattle.lv_ast.specs.Names.{alone}
use Rattle.lv_source.specs.Effect.{with_index}
use Rattle.lv_source.specs.ScopeRules.{is_index_of}
use Rattle.lv_source.specs.Standing.{standing, at_turn}
use Rattle.lv_flat.specs.Signals.{declared_all}
use Rattle.lv_flat.proofs.SourceDoings.{source_done}
use Rattle.lv_resolve.specs.Indices.{Throughout}
use Rattle.lv_resolve_stmts.specs.Statements.{has_stmt_operands}
use Rattle.lv_resolve_stmts.specs.Cases.{HasArms}
use Rattle.lv_resolve_stmts.specs.Joins.{HasStmts}
use Rattle.lv_resolve_stmts.proofs.stmt.+stmts.Given as goal

abbrev pub invariant-stmts-loop-stmt : goal.invariant-stmts-loop-stmt
invariant-stmts-loop-stmt g l =
    (l.all ≡ l.fn.all) × (l.early ≡ l.fn.early) ×
    Throughout (declared_all l.signals) (g.B.Bindings.numbers l.bindings) (g.B.Indices.indices l.bindings) l.fn.all l.fn.early (λ here.
    HasStmts (declared_all l.signals) (flat_map (standing here) (take l.stmt-index l.list)) (map (source_done here.names) (take l.stmt-index l.list))
    (list_all has_stmt_operands (take l.stmt-index l.list)) l.found)

abbrev pub invariant-arms-loop-arm : goal.invariant-arms-loop-arm
invariant-arms-loop-arm g l =
    (l.all ≡ l.fn.all) × (l.early ≡ l.fn.early) ×
    Throughout (declared_all l.signals) (g.B.Bindings.numbers l.bindings) (g.B.Indices.indices l.bindings) l.fn.all l.fn.early (λ here.
    HasArms (declared_all l.signals) here l.kind.width l.kind.signed (take l.arm-index l.list) l.found)

abbrev pub invariant-turns-loop-value : goal.invariant-turns-loop-value
invariant-turns-loop-value g l =
    (l.all ≡ l.fn.all) × (l.early ≡ l.fn.early) ×
    Throughout (declared_all l.signals) (g.B.Bindings.numbers l.bindings) (g.B.Indices.indices l.bindings) l.fn.all l.fn.early (λ here.
    is_index_of false (here.names (alone l.index)) ≡ true →
    HasStmts (declared_all l.signals) (flat_map (λ k. standing (at_turn here l.index k) l.body) (take l.value-index l.values))
    (map (λ k. source_done (with_index here.names l.index k) l.body) (take l.value-index l.values))
    (list_all (λ k. has_stmt_operands l.body) (take l.value-index l.values)) l.found)

abbrev pub decreases-resolve_stmt : goal.decreases-resolve_stmt
decreases-resolve_stmt g l = 8 * goal.size-resolve_stmt g l

abbrev pub decreases-one_branch : goal.decreases-one_branch
decreases-one_branch g l = 8 * goal.size-one_branch g l + 1

abbrev pub decreases-two_branches : goal.decreases-two_branches
decreases-two_branches g l = 8 * max (goal.size-two_branches g l) (goal.size-two_branches g (record l { a = l.b })) + 1

abbrev pub decreases-stmts : goal.decreases-stmts
decreases-stmts g l = 8 * goal.size-stmts g l + 1

abbrev pub decreases-case : goal.decreases-case
decreases-case g l = 8 * goal.size-case g l + 2

abbrev pub decreases-arms : goal.decreases-arms
decreases-arms g l = 8 * goal.size-arms g l + 1

abbrev pub decreases-looped : goal.decreases-looped
decreases-looped g l = 8 * goal.size-looped g l + 3

abbrev pub decreases-turns : goal.decreases-turns
decreases-turns g l = 8 * goal.size-turns g l + 2

abbrev pub decreases-turn : goal.decreases-turn
decreases-turn g l = 8 * goal.size-turn g l + 1
