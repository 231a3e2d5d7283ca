use Rattle.std.proofs.Common.{◌≡◌, ◌<◌, ◌++◌, ◌∷◌, [], List, length, arith, ◌∙◌, ap}
use Rattle.lv_aig.specs.declared.edge.Edge.{Edge}
use Rattle.lv_blast.proofs.Blasting.{all_step}
use Rattle.lv_blast.proofs.blast.all_words.Goals as goal

pub loop-k-preserved : goal.loop-k-preserved
loop-k-preserved c =
    let h : c.loop-k.k < length c.args.graph.now.nodes = omega arith in
    let is : c.push_reserved.new.self.items ≡ c.loop-k.words.items ++ c.in_ok-es.es ∷ [] = c.push_reserved.ensures.items ∙ ap (λ (ws : List (List Edge)). ws ++ c.in_ok-es.es ∷ []) c.reserve.ensures.items in
    all_step c.args.graph.now c.args.and.now c.loop-k.and c.node_word.new.and c.loop-k.k c.args.inputs.now c.as_slice.result.now c.loop-k.words.items c.push_reserved.new.self.items c.in_ok-es.es
    c.as_slice.ensures.value is c.nodes.ensures.graph h (c.len-k-end.ensures.net.nodes c.loop-k.k h) c.requires.combinational c.requires.inputs c.loop-k.invariant c.in_ok-es.ensures
