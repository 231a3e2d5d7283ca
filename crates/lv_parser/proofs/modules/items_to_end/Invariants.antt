use Rattle.std.proofs.Common.{◌≡◌, ℕ, ◌-◌, ◌≤◌, length, codes}
use Rattle.lv_grammars.specs.Grammar.{call}
use Rattle.lv_grammars.specs.Spelling.{Limit, most}
use Rattle.lv_grammar.specs.Shapes as shapes
use Rattle.lv_parser.specs.Paths.{Taken}
use Rattle.lv_parser.proofs.modules.items_to_end.Given as goal

abbrev pub invariant-entries : goal.invariant-entries
invariant-entries l =
    ((d : ℕ → Limit) → d 0 ≡ most 200 → d 1 ≡ most 200 → d 2 ≡ most 200 → Taken l.tokens.text l.tokens.list d (call shapes.item) (shapes.word (codes "endmodule")) l.fn.at l.end l.list) ×
    (l.fn.at ≤ l.end) × (l.end ≤ length l.tokens.list)

abbrev pub decreases-entries : goal.decreases-entries
decreases-entries l = length l.tokens.list - l.end
