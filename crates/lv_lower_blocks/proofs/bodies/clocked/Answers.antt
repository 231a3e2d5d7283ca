use Rattle.std.proofs.Common.{ℕ, List, sym, ◌∙◌, subst}
use Rattle.lv_flat.specs.Cells.{all_cells}
use Rattle.lv_flat.specs.Signals.{declared_all}
use Rattle.lv_lower_exprs.specs.Tables.{IsTable}
use Rattle.lv_lower_blocks.specs.Running.{Runs, keeps_writes}
use Rattle.lv_lower_blocks.proofs.Runnings.{on_ok}
use Rattle.lv_lower_blocks.proofs.Bodying.{is-table, clocks}
use Rattle.lv_lower_blocks.proofs.bodies.clocked.Goals as goal

pub execute-requires-clause-now : goal.execute-requires-clause-now
execute-requires-clause-now c =
    let S = declared_all c.args.signals.now in
    subst (λ (z : List ℕ). IsTable c.args.b.now (all_cells S) z) (sym (c.as_mut_slice.ensures.value ∙ c.in_ok-seen.ensures)) c.requires.now

pub execute-requires-clause-done : goal.execute-requires-clause-done
execute-requires-clause-done c = is-table c.requires.done

pub returns : goal.returns
returns c =
    let S = declared_all c.args.signals.now in
    on_ok c.execute.result (λ r. clocks S c.args.s.now c.requires.done
    (subst (λ (z : List ℕ). Runs c.args.b.now c.execute.new.b (all_cells S) z c.args.done.now c.execute.new.now c.execute.new.done (λ st. keeps_writes S c.args.s.now st))
    (c.as_mut_slice.ensures.value ∙ c.in_ok-seen.ensures) r)) c.execute.ensures
