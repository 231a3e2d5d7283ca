use Rattle.std.proofs.Common.{◌≡◌, ◌≤◌, ◌<◌, false, ap, arith}
use Rattle.lv_cert.specs.Sections.{next_var}
use Rattle.lv_cert.proofs.Reading.{turn_nothing, turn_word}
use Rattle.lv_cert.specs.Lines.{literal}
use Rattle.lv_cert.proofs.queries.read_literal.Goals as goal

pub returns-in_default : goal.returns-in_default
returns-in_default c = turn_nothing (λ s l. (s < l.var) × (l.var ≤ c.args.vars)) literal next_var c.args.last c.args.low c.args.input.now c.line-line.result c.in_default.ensures c.line-line.ensures

pub returns-then-found : goal.returns-then-found
returns-then-found c = turn_word (λ s l. (s < l.var) × (l.var ≤ c.args.vars)) literal next_var c.args.last c.args.low c.args.input.now c.next_word.new.self c.line-line.result c.in-Some.found.letters.now c.in-Some.found.last c.in-Some.ensures c.line-line.ensures
    (λ e. (let t = c.is_zero.ensures.1 (ap (λ w. w.letters) e, ap (λ w. w.last) e) in grind (arith, t)))
    (λ a f e. (let t : false ≡ c.in-Some.found.last = ap (λ w. w.last) e in grind (arith, t)))

pub returns-in-None : goal.returns-in-None
returns-in-None c = turn_word (λ s l. (s < l.var) × (l.var ≤ c.args.vars)) literal next_var c.args.last c.args.low c.args.input.now c.next_word.new.self c.line-line.result c.in-Some.found.letters.now c.in-Some.found.last c.in-Some.ensures c.line-line.ensures
    (λ e. (let t = c.is_zero.ensures.1 (ap (λ w. w.letters) e, ap (λ w. w.last) e) in grind (arith, t)))
    (λ a f e. c.in-None.ensures a f (ap (λ w. w.letters) e))
