use Rattle.std.proofs.Common.{rules, ℕ, Bool, ap, arith}
use Rattle.lv_flat.specs.Signals.{declared_all}
use Rattle.lv_lower_exprs.proofs.Parts.{good-width}
use Rattle.lv_lower_blocks.proofs.Casing.{free-lit, free-none, not-literal}
use Rattle.lv_lower_blocks.proofs.cases.free.Goals as goal

pub zeros-requires-clause-some : goal.zeros-requires-clause-some
zeros-requires-clause-some c = omega (arith, (good-width (declared_all c.args.signals.now) c.args.label.now c.requires.good).0, c.requires.wide)

pub cut-requires-clause-some : goal.cut-requires-clause-some
cut-requires-clause-some c = omega (arith, (good-width (declared_all c.args.signals.now) c.args.label.now c.requires.good).0, c.requires.wide)

pub cut-requires-in-Lit-clause-some : goal.cut-requires-in-Lit-clause-some
cut-requires-in-Lit-clause-some c =
    let w = ap (λ (p : ℕ × Bool). p.0) c.own-of.ensures in
    omega (arith, (good-width (declared_all c.args.signals.now) c.args.label.now c.requires.good).0, w)

pub zeros-requires-in_default : goal.zeros-requires-in_default
zeros-requires-in_default c = record {
  some = omega (arith, (good-width (declared_all c.args.signals.now) c.args.label.now c.requires.good).0, c.requires.wide);
  most = c.requires.most;
}

pub returns-in_ok-r-in-Lit : goal.returns-in_ok-r-in-Lit
returns-in_ok-r-in-Lit c =
    let S = declared_all c.args.signals.now in
    free-lit S c.args.label.now c.in-Lit.l c.args.wild c.args.c.now.signed c.args.c.now.width c.own-of.result.0 c.new.result
    c.in_ok-low-in-Lit.ensures.is c.in_ok-x-in-Lit.ensures.is c.in_ok-y-in-Lit.ensures.is
    c.in_ok-r-in-Lit.ensures.is c.same.ensures (ap (λ w. w.value) c.new.ensures) (ap (λ (p : ℕ × Bool). p.0) c.own-of.ensures) (search (rules, c.if-not-wild.false)) c.in-Lit.is

pub returns-in_default : goal.returns-in_default
returns-in_default c =
    let S = declared_all c.args.signals.now in
    let g = (good-width S c.args.label.now c.requires.good).0 in
    free-none c.args.b.now c.zeros-in_default.result S c.args.label.now c.args.wild c.args.c.now.signed c.args.c.now.width (omega (arith, g, c.requires.wide)) c.zeros-in_default.ensures
    (not-literal S c.args.label.now c.in_default.not-Lit)
