use Rattle.std.proofs.Common.{ℕ, ◌-◌, ◌≤◌, ◌<◌, length}
use Rattle.lv_grammars.specs.Spelling.{Limit}
use Rattle.lv_parser.specs.Paths.{Listed}
use Rattle.lv_parser.proofs.lists.list.Given as goal

abbrev pub invariant-turns : goal.invariant-turns
invariant-turns g l =
    ((d : ℕ → Limit) → Listed l.tokens.text l.tokens.list d (g.E.Entries.grammar l.fn.entries) l.fn.at l.end l.list) × (l.fn.at < l.end) × (l.end ≤ length l.tokens.list)

abbrev pub decreases-turns : goal.decreases-turns
decreases-turns g l = length l.tokens.list - l.end
