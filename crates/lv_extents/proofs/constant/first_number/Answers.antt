use Rattle.std.proofs.Common.{◌≡◌, ◌-◌, true, sym, subst, ap, ◌∙◌, arith, pos}
use Rattle.std.specs.Prelude.{◌-ℤ◌}
use Rattle.lv_source.specs.Values.{nowhere, number_of}
use Rattle.lv_flat.specs.declared.expr.FlatExpr.{FlatExpr}
use Rattle.lv_flat.specs.Signals.{declared_all}
use Rattle.lv_flat.specs.Judged.{is_good, reading, meaning}
use Rattle.lv_lower_exprs.proofs.Naming.{count-Down, lowest-Bit, lowest-Part, lowest-Up, lowest-Down, good-Bit, good-Up, good-Down, constant-Bit, constant-Up, constant-Down, minus-none}
use Rattle.lv_extents.proofs.constant.first_number.Goals as goal

pub overflow_sub-count : goal.overflow_sub-count
overflow_sub-count c =
    let n = count-Down (declared_all c.args.signals.now) c.args.s.now c.in-Down.e c.in-Down.count c.in-Down.is in
    let h = c.requires.some in
    omega (arith, n, h)

pub index_number-requires-in-Down-clause-near : goal.index_number-requires-in-Down-clause-near
index_number-requires-in-Down-clause-near c =
    let n = count-Down (declared_all c.args.signals.now) c.args.s.now c.in-Down.e c.in-Down.count c.in-Down.is in
    let h = c.requires.most in
    omega (arith, n, h)

pub returns-in-Part : goal.returns-in-Part
returns-in-Part c =
    ap pos (c.from.ensures ∙ c.min-low.ensures) ∙ lowest-Part (declared_all c.args.signals.now) c.args.s.now c.in-Part.left c.in-Part.right nowhere c.in-Part.is

pub index_number-requires-clause-good : goal.index_number-requires-clause-good
index_number-requires-clause-good c =
    subst (λ (z : FlatExpr). is_good (declared_all c.args.signals.now) z ≡ true) (sym c.get.ensures)
    (good-Bit (declared_all c.args.signals.now) c.args.s.now c.in-Bit.e c.in-Bit.is c.requires.good)

pub index_number-requires-clause-constant : goal.index_number-requires-clause-constant
index_number-requires-clause-constant c =
    subst (λ (z : FlatExpr). (reading (declared_all c.args.signals.now) z).constant ≡ true) (sym c.get.ensures)
    (constant-Bit (declared_all c.args.signals.now) c.args.s.now c.in-Bit.e c.in-Bit.is c.requires.constant)

pub index_number-requires-in-Up-clause-good : goal.index_number-requires-in-Up-clause-good
index_number-requires-in-Up-clause-good c =
    subst (λ (z : FlatExpr). is_good (declared_all c.args.signals.now) z ≡ true) (sym c.get-in-Up.ensures)
    (good-Up (declared_all c.args.signals.now) c.args.s.now c.in-Up.e c.in-Up.field-1 c.in-Up.is c.requires.good)

pub index_number-requires-in-Up-clause-constant : goal.index_number-requires-in-Up-clause-constant
index_number-requires-in-Up-clause-constant c =
    subst (λ (z : FlatExpr). (reading (declared_all c.args.signals.now) z).constant ≡ true) (sym c.get-in-Up.ensures)
    (constant-Up (declared_all c.args.signals.now) c.args.s.now c.in-Up.e c.in-Up.field-1 c.in-Up.is c.requires.constant)

pub index_number-requires-in-Down-clause-good : goal.index_number-requires-in-Down-clause-good
index_number-requires-in-Down-clause-good c =
    subst (λ (z : FlatExpr). is_good (declared_all c.args.signals.now) z ≡ true) (sym c.get-in-Down.ensures)
    (good-Down (declared_all c.args.signals.now) c.args.s.now c.in-Down.e c.in-Down.count c.in-Down.is c.requires.good)

pub index_number-requires-in-Down-clause-constant : goal.index_number-requires-in-Down-clause-constant
index_number-requires-in-Down-clause-constant c =
    subst (λ (z : FlatExpr). (reading (declared_all c.args.signals.now) z).constant ≡ true) (sym c.get-in-Down.ensures)
    (constant-Down (declared_all c.args.signals.now) c.args.s.now c.in-Down.e c.in-Down.count c.in-Down.is c.requires.constant)

pub returns-in_ok-z-in-Bit : goal.returns-in_ok-z-in-Bit
returns-in_ok-z-in-Bit c =
    let S = declared_all c.args.signals.now in
    c.in_ok-z-in-Bit.ensures ∙ (minus-none (number_of (meaning S c.get.result.now) nowhere) ∙ (ap (λ (z : FlatExpr). number_of (meaning S z) nowhere) c.get.ensures ∙
    lowest-Bit S c.args.s.now c.in-Bit.e nowhere c.in-Bit.is))

pub returns-in_ok-z-in-Up : goal.returns-in_ok-z-in-Up
returns-in_ok-z-in-Up c =
    let S = declared_all c.args.signals.now in
    c.in_ok-z-in-Up.ensures ∙ (minus-none (number_of (meaning S c.get-in-Up.result.now) nowhere) ∙ (ap (λ (z : FlatExpr). number_of (meaning S z) nowhere) c.get-in-Up.ensures ∙
    lowest-Up S c.args.s.now c.in-Up.e c.in-Up.field-1 nowhere c.in-Up.is))

pub returns-in_ok-z-in-Down : goal.returns-in_ok-z-in-Down
returns-in_ok-z-in-Down c =
    let S = declared_all c.args.signals.now in
    c.in_ok-z-in-Down.ensures ∙ (ap (λ (z : FlatExpr). number_of (meaning S z) nowhere -ℤ pos (c.in-Down.count - 1)) c.get-in-Down.ensures ∙
    lowest-Down S c.args.s.now c.in-Down.e c.in-Down.count nowhere c.in-Down.is)
