use Rattle.std.proofs.Common.{ap, sym, ◌∙◌, ◌&&◌}
use Rattle.lv_lexer.proofs.Literals.{based_parts}
use Rattle.lv_lexer.proofs.literal.based_fits.Goals as goal

pub returns-then-value : goal.returns-then-value
returns-then-value c =
    sym (ap (λ v. v && c.part_fits-free.result) c.if-value.true)
    ∙ based_parts c.args.bytes.now _ _ _ _ c.based_base-base.ensures c.based_digits-digits.ensures c.part_fits-value.ensures c.part_fits-free.ensures

pub returns-else-value : goal.returns-else-value
returns-else-value c =
    c.if-value.false ∙ sym (ap (λ v. v && c.part_fits-free.result) c.if-value.false)
    ∙ based_parts c.args.bytes.now _ _ _ _ c.based_base-base.ensures c.based_digits-digits.ensures c.part_fits-value.ensures c.part_fits-free.ensures
