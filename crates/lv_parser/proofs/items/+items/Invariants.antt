use Rattle.std.proofs.Common.{◌≡◌, ℕ, ◌+◌, ◌-◌, ◌*◌, ◌≤◌, length}
use Rattle.lv_grammars.specs.Grammar.{call}
use Rattle.lv_grammars.specs.Spelling.{Limit, most}
use Rattle.lv_grammar.specs.Shapes as shapes
use Rattle.lv_grammar.specs.Rules as rules
use Rattle.lv_parser.specs.Paths.{Taken}
use Rattle.lv_parser.proofs.items.+items.Given as goal

abbrev pub decreases-block_item : goal.decreases-block_item
decreases-block_item l = 5 * l.left

abbrev pub decreases-block_items : goal.decreases-block_items
decreases-block_items l = 5 * l.left + 1

abbrev pub decreases-named_block : goal.decreases-named_block
decreases-named_block l = 5 * l.left + 2

abbrev pub decreases-generate_loop : goal.decreases-generate_loop
decreases-generate_loop l = 5 * l.left + 3

abbrev pub decreases-block_item_body : goal.decreases-block_item_body
decreases-block_item_body l = 5 * l.left + 4

abbrev pub invariant-block_items-entries : goal.invariant-block_items-entries
invariant-block_items-entries l =
    ((d : ℕ → Limit) → d 0 ≡ most 200 → d 1 ≡ most 200 → d 2 ≡ most l.left →
    Taken l.tokens.text l.tokens.list d (call shapes.block_item) (shapes.word (rules.block_end l.looped)) l.fn.at l.end l.list) ×
    (l.fn.at ≤ l.end) × (l.end ≤ length l.tokens.list)

abbrev pub decreases-block_items-entries : goal.decreases-block_items-entries
decreases-block_items-entries l = length l.tokens.list - l.end
