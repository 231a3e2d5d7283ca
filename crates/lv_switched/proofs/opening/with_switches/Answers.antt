use Rattle.std.proofs.Common.{◌≡◌, ℕ, List, ◌∙◌, ◌++◌, ◌∷◌, [], ap, sym, arith}
use Rattle.std.proofs.lemmas.List.{append-nil}
use Rattle.lv_netlist.specs.Queries.{repeated}
use Rattle.lv_product.proofs.Opened.{repeated_step}
use Rattle.lv_switched.proofs.Places.{ones_right}
use Rattle.lv_switched.proofs.opening.with_switches.Goals as goal

pub loop-k-init : goal.loop-k-init
loop-k-init c = sym (append-nil c.args.widths.items)

pub loop-k-preserved : goal.loop-k-preserved
loop-k-preserved c =
    repeated_step c.loop-k._k c.args.widths.items (1 ∷ []) c.loop-k.all.items c.push_reserved.new.self.items
    (c.push_reserved.ensures.items ∙ ap (λ (xs : List ℕ). xs ++ 1 ∷ []) c.reserve.ensures.items) c.loop-k.invariant

pub returns-clause-is : goal.returns-clause-is
returns-clause-is c =
    let done : c.loop-k._k ≡ c.args.count = omega arith in
    c.loop-k.invariant ∙ ap (λ (k : ℕ). c.args.widths.items ++ repeated k (1 ∷ [])) done

pub returns-clause-widths : goal.returns-clause-widths
returns-clause-widths c = ones_right c.loop-k._k c.args.widths.items c.loop-k.all.items c.loop-k.invariant c.requires
