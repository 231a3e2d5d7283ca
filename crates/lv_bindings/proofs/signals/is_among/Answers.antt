use Rattle.std.proofs.Common.{sym, ◌∙◌}
use Rattle.lv_scopes.specs.NameLists.{listed}
use Rattle.lv_bindings.proofs.Lists.{among-none, among-some}
use Rattle.lv_bindings.proofs.signals.is_among.Goals as goal

pub returns-in-None : goal.returns-in-None
returns-in-None c = sym (among-none (listed c.args.names.now) c.args.name.now (sym c.find.ensures ∙ c.in-None.is))

pub returns-in-Some : goal.returns-in-Some
returns-in-Some c = sym (among-some (listed c.args.names.now) c.args.name.now c.in-Some.field-0 (sym c.find.ensures ∙ c.in-Some.is))
