use Rattle.std.proofs.Common.{◌≡◌, ◌+◌, ◌-◌, ◌≤◌, take, drop, length, decimal, None, subst, arith, length-drop}
use Rattle.lv_clauses.proofs.Lists.{take-whole}
use Rattle.lv_cert.specs.Parts.{IsReadOr}
use Rattle.lv_cert.proofs.LiteralWords.{negative_none}
use Rattle.lv_cert.proofs.queries.negative_of.Goals as goal

pub returns-in-None : goal.returns-in-None
returns-in-None c = λ a f e.
    let n : length (drop 1 c.args.letters.now) ≡ length c.args.letters.now - 1 = length-drop 1 c.args.letters.now in
    let same : take (length c.args.letters.now - 1) (drop 1 c.args.letters.now) ≡ drop 1 c.args.letters.now = take-whole (drop 1 c.args.letters.now) (length c.args.letters.now - 1) (omega (arith, n)) in
    negative_none c.args.letters.now c.args.low c.args.vars c.requires.some c.requires.minus
    (subst (λ r. IsReadOr (λ n. (c.args.low + 1 ≤ n) × (n ≤ c.args.vars)) decimal r None) same c.in-None.ensures) a f e
