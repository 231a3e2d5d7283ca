use Rattle.std.proofs.Common.{◌-◌, ◌≤◌, length}
use Rattle.lv_parser.specs.Sources.{Sourced}
use Rattle.lv_parser.proofs.modules.read_source.Given as goal

abbrev pub invariant-entries : goal.invariant-entries
invariant-entries l = Sourced l.tokens.text l.tokens.list l.end l.modules × (l.end ≤ length l.tokens.list)

abbrev pub decreases-entries : goal.decreases-entries
decreases-entries l = length l.tokens.list - l.end
