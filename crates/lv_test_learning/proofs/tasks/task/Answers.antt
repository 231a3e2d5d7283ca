use Rattle.std.proofs.Common.{◌≡◌, ◌∙◌, ◌++◌, ◌∷◌, [], true, List, ℕ, Bool, All, length, sym, ap, subst, arith}
use Rattle.std.specs.List.{list_all}
use Rattle.lv_unroll.specs.declared.rows.Port.{Port}
use Rattle.lv_netlist.specs.Net.{Net}
use Rattle.lv_product.specs.declared.task.Candidate.{Candidate}
use Rattle.lv_product.specs.Tasks.{IsTask, IsStateNode, IsInputNode, IsCandidate}
use Rattle.lv_product.specs.Marks.{marked_at}
use Rattle.lv_test_learning.specs.Marked.{candidate_marked}
use Rattle.lv_test_learning.proofs.Judging.{Sound, SoundInputs, nodes_are, inputs_are, candidates_are, one_port, within_one}
use Rattle.lv_test_learning.proofs.tasks.task.Goals as goal

pub invariant_of-result : goal.invariant_of-result
invariant_of-result c =
    let net : Net = c.args.graph in
    let p : Port = record { retire = c.args.retire; contract = c.in_ok-shown.shown } in
    let ports : c.push_reserved.new.self.items ≡ p ∷ [] =
    c.push_reserved.ensures.items ∙ (ap (λ (l : List Port). l ++ p ∷ []) c.reserve.ensures.items ∙ ap (λ (l : List Port). l ++ p ∷ []) c.new-ports.ensures.items) in
    let m : List Bool = c.as_slice-m.result.now in
    let i : List Bool = c.as_slice-i.result.now in
    let equal : list_all (marked_at m) c.args.equal.now ≡ true = cc (c.are_marked.ensures, c.if-not-are_marked.false) in
    let each : list_all (marked_at m) c.args.each.now ≡ true = cc (c.are_marked-2.ensures, c.if-not-are_marked-2.false) in
    let read : list_all (candidate_marked m) c.args.candidates.now ≡ true = cc (c.read_marked.ensures, c.if-not-read_marked.false) in
    let assume : list_all (marked_at i) c.args.assume.now ≡ true = cc (c.are_marked-else-not-are_marked-2.ensures, c.if-not-are_marked-3.false) in
    let count : length m ≡ length net.nodes = ap length c.as_slice-m.ensures.value ∙ c.in_ok-marks.ensures.count in
    let sound : Sound net m = subst (Sound net) (sym c.as_slice-m.ensures.value) c.in_ok-marks.ensures.are in
    let icount : length i ≡ length net.nodes = ap length c.as_slice-i.ensures.value ∙ c.in_ok-inputs.ensures.count in
    let isound : SoundInputs net i = subst (SoundInputs net) (sym c.as_slice-i.ensures.value) c.in_ok-inputs.ensures.are in
    record {
      fits = record {
        some_ports = omega (arith, ap length ports);
        few_ports = omega (arith, ap length ports);
        ports_are = one_port net c.push_reserved.new.self.items p c.args.contract ports c.in_ok-shown.ensures.items (omega arith) (omega arith);
        attacker_is = within_one (length net.nodes) c.args.attacker c.in_ok-attacker.attacker.items c.in_ok-attacker.ensures.items (omega arith);
        assume_is = subst (All (IsInputNode net)) (sym c.in_ok-assume.ensures.items) (inputs_are net i icount isound c.args.assume.now assume);
        equal_is = subst (All (IsStateNode net)) (sym c.in_ok-equal.ensures.items) (nodes_are net m count sound c.args.equal.now equal);
        each_is = subst (All (IsStateNode net)) (sym c.in_ok-each.ensures.items) (nodes_are net m count sound c.args.each.now each);
        candidates_are = subst (All (IsCandidate net)) (sym c.in_ok-list.ensures.items) (candidates_are net m count sound c.args.candidates.now read);
        texts_are = c.in_ok-texts.ensures ∙ ap length (sym c.in_ok-list.ensures.items);
        near = omega arith;
      };
    }
