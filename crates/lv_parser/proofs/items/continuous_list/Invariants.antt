use Rattle.std.proofs.Common.{ℕ, ◌≡◌, ◌-◌, ◌≤◌, ◌<◌, length}
use Rattle.lv_grammars.specs.Spelling.{Limit, most}
use Rattle.lv_grammar.specs.Rules as rules
use Rattle.lv_parser.specs.Paths.{Listed}
use Rattle.lv_parser.proofs.items.continuous_list.Given as goal

abbrev pub invariant-entries : goal.invariant-entries
invariant-entries l =
    ((d : ℕ → Limit) → d 0 ≡ most 200 → Listed l.tokens.text l.tokens.list d rules.continuous l.fn.at l.end l.list) × (l.fn.at < l.end) × (l.end ≤ length l.tokens.list)

abbrev pub decreases-entries : goal.decreases-entries
decreases-entries l = length l.tokens.list - l.end
