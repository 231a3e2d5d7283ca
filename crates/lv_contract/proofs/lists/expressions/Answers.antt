use Rattle.std.proofs.Common.{◌*◌, ap, subst}
use Rattle.toml.specs.View.{table_view}
use Rattle.lv_contract.specs.Values.{texts_in}
use Rattle.lv_contract.specs.Parts.{IsFaultAmong}
use Rattle.lv_contract.proofs.Spelling.{few_texts, expressions_fault}
use Rattle.lv_contract.proofs.lists.expressions.Goals as goal

pub all_named-requires : goal.all_named-requires
all_named-requires c =
    record {
      printable = rw (ap texts_in c.array-values.ensures) c.requires.fit.printable;
      fits = few_texts c.args.key c.array-values.result.now _ c.args.number c.array-values.ensures c.requires.kind c.requires.fit.counted c.requires.few;
    }

pub returns-in-Err : goal.returns-in-Err
returns-in-Err c =
    expressions_fault c.args.level c.args.number c.args.key (table_view c.args.table.now) c.in-Err.error c.requires.kind
    (subst (λ ds. IsFaultAmong c.args.level c.args.key (1024 * c.args.number) (texts_in ds) c.in-Err.error) c.array-values.ensures c.in-Err.ensures)
