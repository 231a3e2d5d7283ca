use Rattle.std.proofs.Common.{List, ap, ◌∙◌, sym, subst}
use Rattle.lv_ast.specs.declared.stmt.Ident.{Ident}
use Rattle.lv_ast.specs.declared.item.Conn.{Conn}
use Rattle.lv_source.specs.Declarations.{port_names}
use Rattle.lv_links.specs.Linking.{idents, IsLinkError}
use Rattle.lv_connections.specs.Joined.{IsPortFault}
use Rattle.lv_connections.proofs.WholeLaws.{link-fault}
use Rattle.lv_connections.proofs.whole.linked.Goals as goal

pub returns-in-Err-clause-wrong : goal.returns-in-Err-clause-wrong
returns-in-Err-clause-wrong c = subst (IsPortFault (port_names c.args.of.now.ports) c.args.inst.now.conns) (sym c.of_link.ensures)
    (link-fault (port_names c.args.of.now.ports) c.args.inst.now.conns c.in-Err.error
    (subst (λ (ns : List Ident). IsLinkError ns c.args.inst.now.conns c.in-Err.error) (ap idents c.deref.ensures.value ∙ c.in-Ok.ensures)
    (subst (λ (cs : List Conn). IsLinkError (idents c.deref.result.now) cs c.in-Err.error) c.as_slice.ensures c.in-Err.ensures.wrong)))
