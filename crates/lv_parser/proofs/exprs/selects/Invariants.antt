use Rattle.std.proofs.Common.{ℕ, ◌-◌, ◌≤◌, length}
use Rattle.lv_grammars.specs.Spelling.{Limit}
use Rattle.lv_grammar.specs.Rules as rules
use Rattle.lv_parser.specs.Paths.{Counted}
use Rattle.lv_parser.proofs.exprs.selects.Given as goal

abbrev pub invariant-entries : goal.invariant-entries
invariant-entries l =
    ((d : ℕ → Limit) → Counted l.tokens.text l.tokens.list d rules.selected l.fn.at l.end l.list) × (l.fn.at ≤ l.end) × (l.end ≤ length l.tokens.list)

abbrev pub decreases-entries : goal.decreases-entries
decreases-entries l = length l.tokens.list - l.end
