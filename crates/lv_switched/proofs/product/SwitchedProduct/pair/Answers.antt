use Rattle.std.proofs.Common.{length, ◌∙◌, sym, ap, subst, arith}
use Rattle.lv_product.specs.Pairs.{IsPairOf}
use Rattle.lv_switched.specs.Switches.{SwitchedValue}
use Rattle.lv_switched.proofs.Places.{pair_within}
use Rattle.lv_switched.proofs.product.SwitchedProduct.pair.Goals as goal

pub returns : goal.returns
returns c =
    let s = c.self.inside in
    let count = c.requires.count ∙ (sym (ap (λ (p : SwitchedValue). length p.net.inputs) c.self.view_is) ∙ c.self.invariant) in
    subst (λ (p : SwitchedValue). IsPairOf p.registers p.inputs p.cycles c.args.words.now c.in_ok-pair.pair) c.self.view_is
    (pair_within s.registers s.inputs s.cycles _ c.args.words.now c.first-part.result.now c.in_ok-pair.pair c.first-part.ensures
    (omega (arith, count)) c.in_ok-pair.ensures)
