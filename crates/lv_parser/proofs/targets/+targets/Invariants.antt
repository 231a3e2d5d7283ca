use Rattle.std.proofs.Common.{◌≡◌, ℕ, ◌+◌, ◌-◌, ◌*◌, ◌≤◌, ◌<◌, length}
use Rattle.lv_grammars.specs.Spelling.{Limit, most}
use Rattle.lv_grammar.specs.Rules as rules
use Rattle.lv_parser.specs.Paths.{Listed}
use Rattle.lv_parser.proofs.targets.+targets.Given as goal

abbrev pub decreases-target : goal.decreases-target
decreases-target l = 3 * l.left

abbrev pub decreases-targets : goal.decreases-targets
decreases-targets l = 3 * l.left + 1

abbrev pub decreases-joined : goal.decreases-joined
decreases-joined l = 3 * l.left + 2

abbrev pub invariant-targets-entries : goal.invariant-targets-entries
invariant-targets-entries l =
    ((d : ℕ → Limit) → d 0 ≡ most l.left → Listed l.tokens.text l.tokens.list d rules.target_tree l.fn.at l.end l.list) × (l.fn.at < l.end) × (l.end ≤ length l.tokens.list)

abbrev pub decreases-targets-entries : goal.decreases-targets-entries
decreases-targets-entries l = length l.tokens.list - l.end
