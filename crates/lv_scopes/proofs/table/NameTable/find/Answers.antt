use Rattle.std.proofs.Common.{◌∙◌}
use Rattle.lv_scopes.proofs.TableLaws.{position_same}
use Rattle.lv_scopes.proofs.table.NameTable.find.Goals as goal

pub returns : goal.returns
returns c = c.get_index_of.ensures.index ∙ position_same (λ k. k.items) c.args.self.now.names.keys c.args.name.now
