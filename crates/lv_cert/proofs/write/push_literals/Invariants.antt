use Rattle.std.proofs.Common.{◌≡◌, ◌++◌, drop}
use Rattle.lv_cert.specs.Words.{spell}
use Rattle.lv_cert.specs.Sections.{literal_words}
use Rattle.lv_cert.proofs.write.push_literals.Given as goal

abbrev pub invariant-loop-lit : goal.invariant-loop-lit
invariant-loop-lit l = l.out.items ++ spell (literal_words (drop l.lit-index l.lits)) ≡ l.fn.out.items ++ spell (literal_words l.lits)
