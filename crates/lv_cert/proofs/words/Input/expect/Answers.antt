use Rattle.std.proofs.Common.{sym, ap, arith, rules}
use Rattle.lv_cert.specs.Words.{word}
use Rattle.lv_cert.proofs.Reading.{fails_nothing, fails_word, fails_last}
use Rattle.lv_cert.proofs.words.Input.expect.Goals as goal

pub returns-in_default : goal.returns-in_default
returns-in_default c = fails_nothing (λ _. Unit {0}) (λ _. c.args.letters.now) c.args.last (tt, tt) c.args.self.now c.line-line.result c.in_default.ensures c.line-line.ensures

pub returns-then-found-last : goal.returns-then-found-last
returns-then-found-last c = fails_last (λ _. Unit {0}) (λ _. c.args.letters.now) c.args.last (tt, tt) c.args.self.now c.next_word.new.self c.line-line.result c.in-Some.found.letters.now c.in-Some.found.last c.in-Some.ensures c.line-line.ensures
    (search (rules, c.if-found-last.true))

pub returns-else-is_same : goal.returns-else-is_same
returns-else-is_same c = fails_word (λ _. Unit {0}) (λ _. c.args.letters.now) c.args.last (tt, tt) c.args.self.now c.next_word.new.self c.line-line.result (word c.in-Some.found.letters.now c.in-Some.found.last) c.in-Some.ensures c.line-line.ensures
    (λ a f e. (let t = c.is_same.ensures.1 (ap (λ w. w.letters) (sym e)) in grind (arith, t)))
