use Rattle.std.proofs.Common.{map, not}
use Rattle.lv_bits.specs.Values.{unary_of}
use Rattle.lv_bits.specs.declared.op.Op.TheVariants.{Not}
use Rattle.lv_circuits.specs.Words.{edge_bits, word_of}
use Rattle.lv_circuits.proofs.RowLaws.{as_word, not_length, not_value}
use Rattle.lv_circuits.proofs.rows.not_word.Goals as goal

pub returns : goal.returns
returns c = as_word c.args.and.now c.args.and.now c.in_ok-es.es (λ v. map not (edge_bits v c.args.a.now)) (λ v. unary_of Not (word_of v c.args.a.now)) c.in_ok-es.ensures.bits (λ v h. not_length v c.args.a.now) (λ v h. not_value v c.args.a.now)
