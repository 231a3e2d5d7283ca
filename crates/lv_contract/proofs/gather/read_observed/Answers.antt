use Rattle.std.proofs.Common.{refl, subst}
use Rattle.toml.specs.View.{table_view}
use Rattle.lv_contract.specs.declared.key.Key.TheVariants as k
use Rattle.lv_contract.specs.Parts.{IsSpellingFault}
use Rattle.lv_contract.proofs.Faults.{common_fault, ports_fault, tables_if}
use Rattle.lv_contract.proofs.gather.read_observed.Goals as goal

pub returns-in-Err : goal.returns-in-Err
returns-in-Err c = λ need.
    let ms = table_view c.args.table.now in
    ports_fault need c.args.format ms c.in-Err.error c.requires.format (tables_if c.args.format ms c.requires.fit.ports.tables) c.in-Err.ensures

pub returns-in-Err-expressions : goal.returns-in-Err-expressions
returns-in-Err-expressions c = λ need.
    let ms = table_view c.args.table.now in
    let fault = subst (λ level. IsSpellingFault level 0 k.Attacker ms c.in-Err-expressions.error) c.top_level-level.ensures c.in-Err-expressions.ensures in
    common_fault need c.args.format ms 8 k.Attacker c.in-Err-expressions.error c.requires.format refl fault

pub returns-in-Err-expressions-2 : goal.returns-in-Err-expressions-2
returns-in-Err-expressions-2 c = λ need.
    let ms = table_view c.args.table.now in
    let fault = subst (λ level. IsSpellingFault level 0 k.Assume ms c.in-Err-expressions-2.error) c.top_level-level.ensures c.in-Err-expressions-2.ensures in
    common_fault need c.args.format ms 9 k.Assume c.in-Err-expressions-2.error c.requires.format refl fault
