use Rattle.std.proofs.Common.{sym, ◌∙◌, ap, subst}
use Rattle.std.specs.Prelude.{bytes_eq}
use Rattle.lv_ast.specs.Names.{Name}
use Rattle.lv_ast.specs.declared.item.Watch.{Watch}
use Rattle.lv_ast.specs.declared.item.Watch.TheVariants as w
use Rattle.lv_first.specs.Signals.{IsClockedBy, edges}
use Rattle.lv_first.proofs.Numbering.{bytes_same, same_bytes}
use Rattle.lv_first.proofs.Others.{edge_name}
use Rattle.lv_first.proofs.next.is_clocked_by.Goals as goal

pub returns-in-Posedge : goal.returns-in-Posedge
returns-in-Posedge c = (
  λ e.
      let same = bytes_same c.in-Posedge.edge.name c.args.clock.now (sym c.eq.ensures ∙ e) in
      subst (λ (z : Watch). IsClockedBy z c.args.clock.now) (sym c.in-Posedge.is) (subst (λ (z : Name). IsClockedBy (w.Posedge c.in-Posedge.edge) z) same (edges c.in-Posedge.edge)),
  λ h.
      let same = edge_name c.args.clock.now c.args.watch.now c.in-Posedge.edge h c.in-Posedge.is in
      c.eq.ensures ∙ ap (bytes_eq c.in-Posedge.edge.name) (sym same) ∙ same_bytes c.in-Posedge.edge.name,
)
