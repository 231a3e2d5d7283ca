use Rattle.std.proofs.Common.{◌≡◌, ◌++◌, drop}
use Rattle.lv_cert.specs.Words.{spell}
use Rattle.lv_cert.specs.Sections.{spaced}
use Rattle.lv_cert.proofs.write.push_hints.Given as goal

abbrev pub invariant-loop-hint : goal.invariant-loop-hint
invariant-loop-hint l = l.out.items ++ spell (spaced (drop l.hint-index l.hints)) ≡ l.fn.out.items ++ spell (spaced l.hints)
