use Rattle.std.proofs.Common.{◌≡◌, ◌+◌, ◌*◌, List, drop}
use Rattle.lv_ast.specs.Folds.{Macro, followed, in_order, expansion}
use Rattle.lv_lexer.specs.Readings.{done}
use Rattle.lv_lexer.specs.Tables.{Keeps}
use Rattle.lv_lexer.proofs.folds.+expansion.Given as goal

abbrev pub decreases-expand : goal.decreases-expand
decreases-expand l = 2 * l.nested

abbrev pub decreases-expand_body : goal.decreases-expand_body
decreases-expand_body l = 2 * l.nested + 1

-- what is read so far, and the rest of the body
abbrev pub invariant-expand_body-loop-token : goal.invariant-expand_body-loop-token
invariant-expand_body-loop-token l = (ms : List Macro) → Keeps l.macros ms → followed (done l.fn.out) (in_order (expansion l.text ms l.nested) l.body) ≡ followed (done l.out) (in_order (expansion l.text ms l.nested) (drop l.token-index l.body))
