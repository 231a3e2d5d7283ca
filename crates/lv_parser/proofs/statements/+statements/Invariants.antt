use Rattle.std.proofs.Common.{◌≡◌, ℕ, ◌+◌, ◌-◌, ◌*◌, ◌≤◌, ◌<◌, length, codes}
use Rattle.lv_grammars.specs.Grammar.{call}
use Rattle.lv_grammars.specs.Spelling.{Limit, most}
use Rattle.lv_grammar.specs.Shapes as shapes
use Rattle.lv_parser.specs.Paths.{Taken}
use Rattle.lv_parser.proofs.StatementPaths.{Armed}
use Rattle.lv_parser.proofs.statements.+statements.Given as goal

abbrev pub decreases-stmt : goal.decreases-stmt
decreases-stmt l = 6 * l.left

abbrev pub decreases-inner_stmt : goal.decreases-inner_stmt
decreases-inner_stmt l = 6 * l.left + 1

abbrev pub decreases-turns : goal.decreases-turns
decreases-turns l = 6 * l.left + 2

abbrev pub decreases-stmts_to_end : goal.decreases-stmts_to_end
decreases-stmts_to_end l = 6 * l.left + 1

abbrev pub decreases-branches : goal.decreases-branches
decreases-branches l = 6 * l.left + 2

abbrev pub decreases-default_arm : goal.decreases-default_arm
decreases-default_arm l = 6 * l.left + 1

abbrev pub decreases-labelled_arm : goal.decreases-labelled_arm
decreases-labelled_arm l = 6 * l.left + 1

abbrev pub decreases-block : goal.decreases-block
decreases-block l = 6 * l.left + 2

abbrev pub decreases-choice : goal.decreases-choice
decreases-choice l = 6 * l.left + 3

abbrev pub decreases-arm : goal.decreases-arm
decreases-arm l = 6 * l.left + 2

abbrev pub decreases-arms : goal.decreases-arms
decreases-arms l = 6 * l.left + 3

abbrev pub decreases-cases : goal.decreases-cases
decreases-cases l = 6 * l.left + 4

abbrev pub decreases-stmt_body : goal.decreases-stmt_body
decreases-stmt_body l = 6 * l.left + 5

abbrev pub invariant-stmts_to_end-entries : goal.invariant-stmts_to_end-entries
invariant-stmts_to_end-entries l =
    ((d : ℕ → Limit) → d 0 ≡ most 200 → d 1 ≡ most l.left → Taken l.tokens.text l.tokens.list d (call shapes.stmt) (shapes.word (codes "end")) l.fn.at l.end l.list) × (l.fn.at ≤ l.end) × (l.end ≤ length l.tokens.list)

abbrev pub decreases-stmts_to_end-entries : goal.decreases-stmts_to_end-entries
decreases-stmts_to_end-entries l = length l.tokens.list - l.end

abbrev pub invariant-arms-entries : goal.invariant-arms-entries
invariant-arms-entries l =
    ((d : ℕ → Limit) → d 0 ≡ most 200 → d 1 ≡ most l.left → Armed l.tokens.text l.tokens.list d l.wild l.fn.at l.end l.list) × (l.fn.at < l.end) × (l.end ≤ length l.tokens.list)

abbrev pub decreases-arms-entries : goal.decreases-arms-entries
decreases-arms-entries l = length l.tokens.list - l.end
