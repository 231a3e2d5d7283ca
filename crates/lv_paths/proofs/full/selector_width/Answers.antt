use Rattle.std.proofs.Common.{ℕ, Bool, ap, sym, ◌∙◌, arith}
use Rattle.std.specs.Prelude.{if◌then◌else◌}
use Rattle.lv_flat.specs.Signals.{declared_all}
use Rattle.lv_flat.specs.Judged.{meaning}
use Rattle.lv_lower_exprs.proofs.Parts.{good-width}
use Rattle.lv_paths.proofs.full.selector_width.Goals as goal

pub returns-then-extends : goal.returns-then-extends
returns-then-extends c =
    let S = declared_all c.args.signals.now in
    let w = ap (λ (p : ℕ × Bool). p.0) c.own-of.ensures in
    let g = good-width S c.args.x.now c.requires.good in
    let t = c.if-extends.ensures S in
    record {
      is = w ∙ sym (ap (λ (u : Bool). if u then (meaning S c.args.x.now).width else c.args.c.width) t);
      some = omega (arith, w, g.0);
      wide = omega (arith, w, c.requires.wide);
    }

pub returns-else-extends : goal.returns-else-extends
returns-else-extends c =
    let S = declared_all c.args.signals.now in
    let g = good-width S c.args.x.now c.requires.good in
    let t = c.if-extends.ensures S in
    record {
      is = sym (ap (λ (u : Bool). if u then (meaning S c.args.x.now).width else c.args.c.width) t);
      some = omega (arith, g.0, c.requires.wide);
      wide = omega arith;
    }
