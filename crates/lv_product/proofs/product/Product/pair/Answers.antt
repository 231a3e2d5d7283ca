use Rattle.std.proofs.Common.{◌∙◌, length, sym, ap, subst}
use Rattle.lv_product.specs.Pairs.{ProductValue, IsPairOf}
use Rattle.lv_product.proofs.product.Product.pair.Goals as goal

pub pair_of-requires : goal.pair_of-requires
pair_of-requires c = c.requires.count ∙ (sym (ap (λ (p : ProductValue). length p.net.inputs) c.self.view_is) ∙ c.self.invariant)

pub returns : goal.returns
returns c = subst (λ (p : ProductValue). IsPairOf p.registers p.inputs p.cycles c.args.words.now c.in_ok-pair.pair) c.self.view_is c.in_ok-pair.ensures
