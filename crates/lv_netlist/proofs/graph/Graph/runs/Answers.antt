use Rattle.std.proofs.Common.{List}
use Rattle.lv_model.proofs.Unrolled.{unrolled_runs, run_is_unrolled}
use Rattle.lv_bits.specs.Words.{Bits}
use Rattle.lv_model.specs.Stepper.{Stepper}
use Rattle.lv_netlist.specs.Net.{Net}
use Rattle.lv_netlist.specs.Stepping.{stepper_of}
use Rattle.lv_netlist.proofs.Words.{next_fits}
use Rattle.lv_netlist.proofs.graph.Graph.runs.Goals as goal

pub returns : goal.returns
returns c =
    let net : Net = c.args.self.now in
    let t : Stepper (List Bits) (List Bits) = stepper_of net in
    let keeps : (s i : List Bits) → t.IsState s → t.IsInput i → t.IsState (t.next s i) =
    λ s i hs hi. next_fits net s i hs.0 hs.1 hi.0 hi.1 c.len.ensures.net c.len.ensures.nexts in
    record { state = keeps; run = λ o. unrolled_runs t o keeps; only = λ o. run_is_unrolled t o }
