use Rattle.std.proofs.Common.{◌%◌, ◌^◌, ◌∙◌, ap}
use Rattle.lv_ast.specs.Tokens.{digits_number, free_digit}
use Rattle.lv_exprs.proofs.literal.based_literal.Goals as goal

pub returns : goal.returns
returns c =
    let wild = c.digits_number-2.ensures ∙ ap (λ n. digits_number (free_digit c.args.base) c.args.base n c.args.digits.now % 2 ^ 128) c.above.ensures in
    λ i. record { place = c.args.place; signed = c.args.signed; value = c.digits_number.ensures i; wild = wild i }
