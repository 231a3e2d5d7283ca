use Rattle.lv_model.proofs.Meets.{met_from, met_by, base_grows}
use Rattle.lv_model.proofs.queries_are_met_by_runs.Goals as goal

pub returns : goal.returns
returns g c = let m = g.V.Watched.machine in record { met_from = met_from m; met_by = met_by m; base = base_grows m }
