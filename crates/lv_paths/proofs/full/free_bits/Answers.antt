use Rattle.std.proofs.Common.{rules, ℕ, Bool, bit_or, ap, ◌∙◌, arith}
use Rattle.lv_bits.specs.Values.{extended}
use Rattle.lv_flat.specs.Signals.{declared_all}
use Rattle.lv_lower_exprs.proofs.Parts.{good-width}
use Rattle.lv_paths.proofs.Labels.{free-of-literal, free-of-other, not-literal}
use Rattle.lv_paths.proofs.full.free_bits.Goals as goal

pub extend-requires-clause-some : goal.extend-requires-clause-some
extend-requires-clause-some c =
    let w = ap (λ (p : ℕ × Bool). p.0) c.own-of.ensures in
    omega (arith, (good-width (declared_all c.args.signals.now) c.args.label.now c.requires.good).0, w)

pub returns-in-Lit : goal.returns-in-Lit
returns-in-Lit c =
    let S = declared_all c.args.signals.now in
    ap (λ (x : ℕ). bit_or x c.extend.result) c.low_bits-low.ensures ∙
    (ap (bit_or _) (c.extend.ensures ∙ ap (λ (x : ℕ). extended c.args.c.signed c.own-of.result.0 c.args.c.width x) c.low_bits.ensures) ∙
    free-of-literal S c.args.label.now c.in-Lit.l c.args.wild c.args.c.signed c.args.c.width c.own-of.result.0 (search (rules, c.if-not-wild.false)) c.in-Lit.is
    (ap (λ (p : ℕ × Bool). p.0) c.own-of.ensures))

pub returns-in_default : goal.returns-in_default
returns-in_default c =
    let S = declared_all c.args.signals.now in
    free-of-other S c.args.label.now c.args.wild c.args.c.signed c.args.c.width (not-literal S c.args.label.now c.in_default.not-Lit)
