use Rattle.std.proofs.Common.{Bool, Some, sym, ap, ◌∙◌}
use Rattle.std.specs.Prelude.{bytes_eq, is_some}
use Rattle.std.specs.List.{list_any}
use Rattle.lv_scopes.specs.NameLists.{listed}
use Rattle.lv_sinks.specs.declared.port.Port.{Port}
use Rattle.lv_bindings.specs.declared.table.Binding.{Binding}
use Rattle.lv_connections.specs.Joined.{port_by}
use Rattle.lv_connections.proofs.PortLaws.{is-listed}
use Rattle.lv_connections.proofs.connect.port_of.Goals as goal

pub returns-in-Some-Signal : goal.returns-in-Some-Signal
returns-in-Some-Signal c =
    ap (λ (b : Bool). let p : Port = record { signal = c.in-Some-Signal.signal; output = b } in Some p)
    (c.is_some.ensures ∙ (ap is_some c.find-in-Some-Signal.ensures ∙ is-listed (listed c.args.outputs.now) c.args.name.now)) ∙
    sym (ap (λ o. port_by o (list_any (bytes_eq c.args.name.now) (listed c.args.outputs.now)))
    (sym c.find.ensures ∙ (c.in-Some-Signal.is ∙ ap (λ (x : Binding). Some x) c.in-Some-Signal.field-0-is)))
