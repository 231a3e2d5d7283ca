use Rattle.std.proofs.Common.{ap, ◌∙◌, not}
use Rattle.std.specs.Prelude.{bytes_eq}
use Rattle.std.specs.List.{list_any, position_or_len}
use Rattle.lv_scopes.specs.NameLists.{listed}
use Rattle.lv_scopes.proofs.TableLaws.{has_same, first_same, names_same}
use Rattle.lv_scopes.proofs.table.NameTable.add.Goals as goal

pub returns-clause-number : goal.returns-clause-number
returns-clause-number c =
    c.in-Ok-insert_full.ensures.index ∙ first_same (λ k. k.items) c.args.self.now.names.keys c.in-Ok.key.items ∙
    ap (λ n. position_or_len (bytes_eq n) (listed c.args.self.now)) c.in-Ok.ensures.items

pub returns-clause-added : goal.returns-clause-added
returns-clause-added c =
    c.in-Ok-insert_full.ensures.added ∙ ap not (has_same (λ k. k.items) c.args.self.now.names.keys c.in-Ok.key.items) ∙
    ap (λ n. not (list_any (bytes_eq n) (listed c.args.self.now))) c.in-Ok.ensures.items

pub returns-clause-names : goal.returns-clause-names
returns-clause-names c =
    names_same (λ k. k.items) c.args.self.now.names.keys c.insert_full.new.self.keys c.in-Ok.key c.args.name.now c.in-Ok.ensures.items
    c.in-Ok-insert_full.ensures.keys
