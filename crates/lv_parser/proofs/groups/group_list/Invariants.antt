use Rattle.std.proofs.Common.{ℕ, ◌-◌, ◌≤◌, ◌<◌, length}
use Rattle.lv_grammars.specs.Spelling.{Limit}
use Rattle.lv_grammar.specs.Rules as rules
use Rattle.lv_parser.specs.Steps.{params_parts}
use Rattle.lv_parser.specs.Grouping.{Grouped}
use Rattle.lv_parser.proofs.groups.group_list.Given as goal

abbrev pub invariant-entries : goal.invariant-entries
invariant-entries l =
    ((d : ℕ → Limit) → Grouped l.tokens.text l.tokens.list d rules.params_of params_parts rules.params_header rules.setting l.fn.at l.end l.done l.last) × (l.fn.at < l.end) × (l.end ≤ length l.tokens.list)

abbrev pub decreases-entries : goal.decreases-entries
decreases-entries l = length l.tokens.list - l.end
