use Rattle.std.proofs.Common.{◌≡◌, ◌∙◌, ◌++◌, ◌∷◌, [], true, List, ℕ, All, length, sym, ap, subst, arith}
use Rattle.std.specs.List.{list_all}
use Rattle.lv_unroll.specs.declared.rows.Port.{Port}
use Rattle.lv_product.specs.declared.task.Candidate.{Candidate}
use Rattle.lv_product.specs.Tasks.{IsTask, IsStateNode, IsInputNode, IsCandidate}
use Rattle.lv_product.specs.Marks.{marked_at}
use Rattle.lv_test_products.specs.Marked.{candidate_marked}
use Rattle.lv_test_products.proofs.Judging.{Sound, nodes_are, candidates_are, one_port, within_one, all_none}
use Rattle.lv_test_products.proofs.tasks.task.Goals as goal

pub invariant_of-result : goal.invariant_of-result
invariant_of-result c =
    let p : Port = record { retire = c.args.retire; contract = c.in_ok-shown.shown } in
    let ports : c.push_reserved.new.self.items ≡ p ∷ [] =
    c.push_reserved.ensures.items ∙ (ap (λ (l : List Port). l ++ p ∷ []) c.reserve.ensures.items ∙ ap (λ (l : List Port). l ++ p ∷ []) c.new-ports.ensures.items) in
    let equal : list_all (marked_at c.as_slice-m.result.now) c.args.equal.now ≡ true = cc (c.are_marked.ensures, c.if-not-are_marked.false) in
    let read : list_all (candidate_marked c.as_slice-m.result.now) c.args.candidates.now ≡ true = cc (c.read_marked.ensures, c.if-not-read_marked.false) in
    record {
      fits = record {
        some_ports = omega (arith, ap length ports);
        few_ports = omega (arith, ap length ports);
        ports_are = one_port c.args.graph c.push_reserved.new.self.items p c.args.contract ports c.in_ok-shown.ensures.items (omega arith) (omega arith);
        attacker_is = within_one (length c.args.graph.nodes) c.args.attacker c.in_ok-attacker.attacker.items c.in_ok-attacker.ensures.items (omega arith);
        assume_is = all_none (IsInputNode c.args.graph) c.new.result.items c.new.ensures.items;
        equal_is = subst (All (IsStateNode c.args.graph)) (sym c.in_ok-equal.ensures.items) (nodes_are c.args.graph c.as_slice-m.result.now (ap length c.as_slice-m.ensures.value ∙ c.in_ok-marks.ensures.count) (subst (Sound c.args.graph) (sym c.as_slice-m.ensures.value) c.in_ok-marks.ensures.are) c.args.equal.now equal);
        each_is = all_none (IsStateNode c.args.graph) c.new-2.result.items c.new-2.ensures.items;
        candidates_are = subst (All (IsCandidate c.args.graph)) (sym c.in_ok-list.ensures.items) (candidates_are c.args.graph c.as_slice-m.result.now (ap length c.as_slice-m.ensures.value ∙ c.in_ok-marks.ensures.count) (subst (Sound c.args.graph) (sym c.as_slice-m.ensures.value) c.in_ok-marks.ensures.are) c.args.candidates.now read);
        texts_are = c.in_ok-texts.ensures ∙ ap length (sym c.in_ok-list.ensures.items);
        near = omega arith;
      };
    }
