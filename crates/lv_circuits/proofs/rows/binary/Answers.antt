use Rattle.std.proofs.Common.{◌∙◌, sym}
use Rattle.lv_circuits.proofs.RowJoins.{even_from, apart_from}
use Rattle.lv_circuits.proofs.rows.binary.Goals as goal

pub apart-requires-clause-apart : goal.apart-requires-clause-apart
apart-requires-clause-apart c = apart_from c.args.op (sym c.is_apart.ensures ∙ c.if-is_apart.true)

pub even-requires-clause-even : goal.even-requires-clause-even
even-requires-clause-even c = even_from c.args.op c.requires.two (sym c.is_apart.ensures ∙ c.if-is_apart.false)

pub even-requires-clause-words : goal.even-requires-clause-words
even-requires-clause-words c = record {
  a = c.requires.a;
  b = c.requires.b;
  same = c.requires.same (sym c.is_apart.ensures ∙ c.if-is_apart.false);
  some = c.requires.some;
}
