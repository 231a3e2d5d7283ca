use Rattle.std.proofs.Common.{◌≡◌, ℕ, ◌^◌, Bool, false, sym, ap, ◌∙◌, arith}
use Rattle.std.specs.List.{list_any}
use Rattle.lv_bits.specs.Values.{extended}
use Rattle.lv_paths.specs.Fits.{is_fit}
use Rattle.lv_paths.proofs.Labels.{all-range, not-range}
use Rattle.lv_paths.proofs.full.covers.Goals as goal

pub returns-then-not-is_fit : goal.returns-then-not-is_fit
returns-then-not-is_fit c =
    let P : ℕ → Bool = λ (y : ℕ). list_any (is_fit (extended c.args.signed c.args.from c.args.to y)) c.args.fits.now in
    let f : P c.loop-y.y ≡ false = ap (λ (z : ℕ). list_any (is_fit z) c.args.fits.now) (sym c.extend.ensures) ∙ (sym c.is_fit.ensures ∙ c.if-not-is_fit.true) in
    sym (not-range P (2 ^ c.args.from) 0 c.loop-y.y (omega arith) (omega arith) f)

pub returns : goal.returns
returns c =
    let P : ℕ → Bool = λ (y : ℕ). list_any (is_fit (extended c.args.signed c.args.from c.args.to y)) c.args.fits.now in
    sym (all-range P (2 ^ c.args.from) 0 (λ k a b. c.loop-y.invariant k (omega (arith, b))))
