use Rattle.std.proofs.Common.{◌≡◌, ◌<◌, ◌+◌, ◌++◌, ◌∷◌, [], length, take, set, List, arith, add-one, sym, subst}
use Rattle.std.proofs.Math.Seq.{take-suc-set}
use Rattle.std.proofs.lemmas.List.{length-set}
use Rattle.lv_bits.specs.Words.{Bits}
use Rattle.lv_netlist.specs.Fits.{FitsNodes}
use Rattle.lv_sim.proofs.Settling.{values_step, fits_step}
use Rattle.lv_sim.proofs.sim.settle.Goals as goal

pub loop-k-preserved : goal.loop-k-preserved
loop-k-preserved c =
    let h : c.loop-k.k < length c.args.graph.now.nodes = omega arith in
    let within : c.loop-k.k < length c.loop-k.values = omega (arith, c.loop-k.invariant.room) in
    let p : take (c.loop-k.k + 1) (set c.loop-k.values c.loop-k.k c.node_word-word.result) ≡ take c.loop-k.k c.loop-k.values ++ c.node_word-word.result ∷ [] = rw add-one (take-suc-set c.loop-k.values c.loop-k.k c.node_word-word.result within) in
    record {
      done = values_step c.args.state.now c.args.inputs.now c.args.graph.now.nodes c.loop-k.k c.loop-k.values c.node_word-word.result h c.loop-k.invariant.room c.loop-k.invariant.done c.node_word-word.ensures.is;
      room = omega (arith, c.loop-k.invariant.room, length-set c.loop-k.values c.loop-k.k c.node_word-word.result);
      fits = subst (FitsNodes c.args.graph.now (c.loop-k.k + 1)) (sym p) (fits_step c.args.graph.now c.loop-k.k (take c.loop-k.k c.loop-k.values) c.node_word-word.result c.loop-k.invariant.fits c.node_word-word.ensures.width);
    }
