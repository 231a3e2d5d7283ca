use Rattle.std.proofs.Common.{◌≡◌, ◌+◌, ◌*◌, ◌≤◌, true, false, drop, max}
use Rattle.lv_source.specs.Effect.{with_index}
use Rattle.lv_source.specs.Limits.{stmt_size}
use Rattle.lv_source.specs.ScopeRules.{is_index_of}
use Rattle.lv_ast.specs.Names.{alone}
use Rattle.lv_flat.specs.Signals.{declared_all}
use Rattle.lv_resolve.specs.Indices.{Throughout}
use Rattle.lv_sizes.specs.Totals.{total, arm_size}
use Rattle.lv_sizes.proofs.LeftLaws.{IsSoFar}
use Rattle.lv_sizes.proofs.stmts.+stmts.Given as goal

abbrev pub invariant-spend_stmts-loop-stmt : goal.invariant-spend_stmts-loop-stmt
invariant-spend_stmts-loop-stmt g l =
    (l.all ≡ l.fn.all) × (l.early ≡ l.fn.early) × (l.rest.turns ≤ l.fn.left.turns) ×
    Throughout (declared_all l.signals) (g.B.Bindings.numbers l.bindings) (g.B.Indices.indices l.bindings) l.fn.all l.fn.early
    (λ here. IsSoFar (total (stmt_size here.names) l.stmts) (total (stmt_size here.names) (drop l.stmt-index l.stmts)) l.fn.left l.rest)

abbrev pub invariant-spend_arms-loop-arm : goal.invariant-spend_arms-loop-arm
invariant-spend_arms-loop-arm g l =
    (l.all ≡ l.fn.all) × (l.early ≡ l.fn.early) × (l.rest.turns ≤ l.fn.left.turns) ×
    Throughout (declared_all l.signals) (g.B.Bindings.numbers l.bindings) (g.B.Indices.indices l.bindings) l.fn.all l.fn.early
    (λ here. IsSoFar (total (arm_size here.names) l.arms) (total (arm_size here.names) (drop l.arm-index l.arms)) l.fn.left l.rest)

abbrev pub invariant-spend_turns-loop-turn : goal.invariant-spend_turns-loop-turn
invariant-spend_turns-loop-turn g l =
    (l.all ≡ l.fn.all) × (l.early ≡ l.fn.early) × (l.rest.turns ≤ l.fn.left.turns) ×
    Throughout (declared_all l.signals) (g.B.Bindings.numbers l.bindings) (g.B.Indices.indices l.bindings) l.fn.all l.fn.early
    (λ here. is_index_of false (here.names (alone l.index.name)) ≡ true →
    IsSoFar (total (λ k. stmt_size (with_index here.names l.index.name k) l.body) l.turns)
    (total (λ k. stmt_size (with_index here.names l.index.name k) l.body) (drop l.turn-index l.turns)) l.fn.left l.rest)

abbrev pub decreases-spend_stmt : goal.decreases-spend_stmt
decreases-spend_stmt g l = 8 * goal.size-spend_stmt g l

abbrev pub decreases-spend_both : goal.decreases-spend_both
decreases-spend_both g l = 8 * max (goal.size-spend_both g l) (goal.size-spend_both g (record l { a = l.b })) + 1

abbrev pub decreases-spend_stmts : goal.decreases-spend_stmts
decreases-spend_stmts g l = 8 * goal.size-spend_stmts g l + 1

abbrev pub decreases-spend_arms : goal.decreases-spend_arms
decreases-spend_arms g l = 8 * goal.size-spend_arms g l + 2

abbrev pub decreases-spend_arm : goal.decreases-spend_arm
decreases-spend_arm g l = 8 * goal.size-spend_arm g l + 1

abbrev pub decreases-spend_loop : goal.decreases-spend_loop
decreases-spend_loop g l = 8 * goal.size-spend_loop g l + 3

abbrev pub decreases-spend_turns : goal.decreases-spend_turns
decreases-spend_turns g l = 8 * goal.size-spend_turns g l + 2

abbrev pub decreases-spend_turn : goal.decreases-spend_turn
decreases-spend_turn g l = 8 * goal.size-spend_turn g l + 1
