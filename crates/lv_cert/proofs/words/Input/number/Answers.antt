use Rattle.std.proofs.Common.{◌≤◌, decimal, arith, rules}
use Rattle.lv_cert.proofs.Reading.{fails_nothing, fails_last, fails_letters}
use Rattle.lv_cert.proofs.words.Input.number.Goals as goal

pub returns-in_default : goal.returns-in_default
returns-in_default c = fails_nothing (λ n. (c.args.low ≤ n) × (n ≤ c.args.high)) decimal c.args.last (c.args.low, (omega arith, c.requires)) c.args.self.now c.line-line.result c.in_default.ensures c.line-line.ensures

pub returns-then-found-last : goal.returns-then-found-last
returns-then-found-last c = fails_last (λ n. (c.args.low ≤ n) × (n ≤ c.args.high)) decimal c.args.last (c.args.low, (omega arith, c.requires)) c.args.self.now c.next_word.new.self c.line-line.result c.in-Some.found.letters.now c.in-Some.found.last c.in-Some.ensures c.line-line.ensures
    (search (rules, c.if-found-last.true))

pub returns-in-None : goal.returns-in-None
returns-in-None c = fails_letters (λ n. (c.args.low ≤ n) × (n ≤ c.args.high)) decimal c.args.last (c.args.low, (omega arith, c.requires)) c.args.self.now c.next_word.new.self c.line-line.result c.in-Some.found.letters.now c.in-Some.found.last c.in-Some.ensures c.line-line.ensures c.in-None.ensures
