use Rattle.toml.specs.View.{table_view}
use Rattle.lv_contract.specs.Says.{IsDocument, IsContractFile}
use Rattle.lv_contract.specs.Refusals.{IsRefusal}
use Rattle.lv_contract.proofs.Exact.{exact, refusal}
use Rattle.lv_contract.proofs.read.read_contract.Goals as goal

pub returns-in-Ok-read_table : goal.returns-in-Ok-read_table
returns-in-Ok-read_table c =
    let bytes = c.args.bytes.now in
    let ms = table_view c.in-Ok.table in
    let document : IsDocument bytes ms = record { utf8 = c.in-Ok.ensures.ok.0; parsed = c.in-Ok.ensures.ok.1 } in
    let file : IsContractFile bytes c.args.need c.in-Ok-read_table.contract = record { members = ms; document = document; contract = c.in-Ok-read_table.ensures } in
    record { contract = file; refused = tt; no_cause = λ e r. exact bytes c.args.need c.in-Ok-read_table.contract e file r; no_contract = tt }

pub returns-in-Ok : goal.returns-in-Ok
returns-in-Ok c =
    let bytes = c.args.bytes.now in
    let ms = table_view c.in-Ok.table in
    let error = c.in-Err-read_table.error in
    let document : IsDocument bytes ms = record { utf8 = c.in-Ok.ensures.ok.0; parsed = c.in-Ok.ensures.ok.1 } in
    let r : IsRefusal bytes c.args.need error = refusal bytes c.args.need ms error document c.in-Err-read_table.ensures in
    record { contract = tt; refused = r; no_cause = tt; no_contract = λ k h. exact bytes c.args.need k error h r }
