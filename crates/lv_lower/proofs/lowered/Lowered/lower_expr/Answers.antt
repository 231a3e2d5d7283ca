use Rattle.std.proofs.Common.{◌≡◌, ◌≤◌, ◌∙◌, List, arith, ap, sym, subst}
use Rattle.lv_netlist.specs.Net.{Net}
use Rattle.lv_flat.specs.declared.signal.Signal.{Signal}
use Rattle.lv_flat.specs.Signals.{declared_all}
use Rattle.lv_flat.specs.Judged.{meaning}
use Rattle.lv_flat.proofs.Widths.{good-width, width-most}
use Rattle.lv_values.proofs.Growth.{grows-trans}
use Rattle.lv_lower.specs.Slots.{names_of}
use Rattle.lv_lower.specs.Lowered.{IsLowered}
use Rattle.lv_lower.proofs.Asking.{lowered-later}
use Rattle.lv_lower.proofs.lowered.Lowered.lower_expr.Goals as goal

pub value-requires-clause-most : goal.value-requires-clause-most
value-requires-clause-most c =
    let w : c.own-of.result.0 ≡ (meaning (names_of c.args.flat.now) c.args.e.now).width =
    ap (λ p. p.0) c.own-of.ensures ∙ ap (λ (ss : List Signal). (meaning (declared_all ss) c.args.e.now).width) c.as_slice-signals.ensures in
    let m : (meaning (names_of c.args.flat.now) c.args.e.now).width ≤ 128 = width-most _ (good-width (names_of c.args.flat.now) c.args.e.now c.requires.good) in
    omega (arith, w, m)

pub returns-clause-lowered : goal.returns-clause-lowered
returns-clause-lowered c = λ vs h.
    subst (λ (g : Net). IsLowered (names_of c.args.flat.now) vs g c.args.self.table.items c.args.self.first.items) (sym c.finish-graph.ensures)
    (lowered-later _ _ (grows-trans _ _ _ c.in_ok-x.ensures.is.grows c.in_ok-k.ensures.grows) (names_of c.args.flat.now) vs c.args.self.table.items c.args.self.first.items
    (subst (λ (g : Net). IsLowered (names_of c.args.flat.now) vs g c.args.self.table.items c.args.self.first.items) (sym c.reopen-b.ensures.same) h))
