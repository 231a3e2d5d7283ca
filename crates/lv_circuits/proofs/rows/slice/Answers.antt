use Rattle.std.proofs.Common.{◌≡◌, ◌+◌, ◌-◌, ℕ, take, drop, arith, ◌∙◌, ap}
use Rattle.lv_circuits.proofs.More.{slice_word}
use Rattle.lv_circuits.proofs.rows.slice.Goals as goal

pub returns : goal.returns
returns c =
    let n : c.args.low + c.args.width - c.args.low ≡ c.args.width = omega arith in
    slice_word c.args.and.now c.args.a.now c.in_ok-es.es c.args.low c.args.width (c.in_ok-es.ensures ∙ ap (λ (k : ℕ). take k (drop c.args.low c.args.a.now)) n) c.requires.inside c.requires.a
