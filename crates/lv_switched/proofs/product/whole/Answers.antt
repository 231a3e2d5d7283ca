use Rattle.std.proofs.Common.{ℕ, ◌+◌, ◌≡◌, List, length, sym, ◌∙◌, ap, subst}
use Rattle.std.specs.List.{AllByRecursion}
use Rattle.lv_netlist.specs.Net.{Net, register_width}
use Rattle.lv_unroll.specs.declared.copies.Nodes.{Nodes}
use Rattle.lv_unroll.specs.Unrolls.{Unrolls, IsCopy}
use Rattle.lv_unroll.proofs.Copying.{alike_kept}
use Rattle.lv_unroll.proofs.Growing.{extends_trans}
use Rattle.lv_product.specs.Queries.{asked, observers_of}
use Rattle.lv_product.proofs.Opened.{run_count}
use Rattle.lv_product.proofs.Telling.{copies_kept}
use Rattle.lv_product.proofs.Concluding.{cycles_are_kept}
use Rattle.lv_unroll.specs.Agreements.{GivesFact}
use Rattle.lv_product.specs.Meets.{CopiesMeet}
use Rattle.lv_switched.specs.Switches.{switched_on, AreSwitches, IsSwitchedGoalOf}
use Rattle.lv_switched.specs.Opened.{AreOpened}
use Rattle.lv_switched.proofs.Guarding.{switches_kept}
use Rattle.lv_switched.proofs.Places.{sliced, left_states, right_states, inputs_cycles, are_switches}
use Rattle.lv_switched.proofs.Concluded.{goal_is}
use Rattle.lv_switched.proofs.product.whole.Goals as goal

pub unroll-requires-clause-state : goal.unroll-requires-clause-state
unroll-requires-clause-state c =
    let graph = c.args.task.now.graph in
    let n : ℕ = c.args.cycles in
    let k : ℕ = length c.as_slice-cs.result.now in
    let f = c.in_ok-builder.field-0 in
    let l = c.as_slice-l.result.now in
    let r = c.as_slice-r.result.now in
    let i = c.as_slice-i.result.now in
    let o = sliced graph f.builder n k f.aligned f.left.items f.right.items l r f.inputs.items i c.as_slice-l.ensures.value c.as_slice-r.ensures.value
    c.as_slice-i.ensures.value c.in_ok-builder.ensures in
    left_states graph f.builder n k f.aligned l r i o

pub unroll-requires-clause-inputs : goal.unroll-requires-clause-inputs
unroll-requires-clause-inputs c =
    let graph = c.args.task.now.graph in
    let n : ℕ = c.args.cycles in
    let k : ℕ = length c.as_slice-cs.result.now in
    let f = c.in_ok-builder.field-0 in
    let l = c.as_slice-l.result.now in
    let r = c.as_slice-r.result.now in
    let i = c.as_slice-i.result.now in
    let o = sliced graph f.builder n k f.aligned f.left.items f.right.items l r f.inputs.items i c.as_slice-l.ensures.value c.as_slice-r.ensures.value
    c.as_slice-i.ensures.value c.in_ok-builder.ensures in
    inputs_cycles graph f.builder n k f.aligned l r i o

pub unroll-requires-2-clause-state : goal.unroll-requires-2-clause-state
unroll-requires-2-clause-state c =
    let graph = c.args.task.now.graph in
    let n : ℕ = c.args.cycles in
    let k : ℕ = length c.as_slice-cs.result.now in
    let f = c.in_ok-builder.field-0 in
    let l = c.as_slice-l.result.now in
    let r = c.as_slice-r.result.now in
    let i = c.as_slice-i.result.now in
    let o = sliced graph f.builder n k f.aligned f.left.items f.right.items l r f.inputs.items i c.as_slice-l.ensures.value c.as_slice-r.ensures.value
    c.as_slice-i.ensures.value c.in_ok-builder.ensures in
    alike_kept f.builder c.unroll.new.b (length graph.registers) (register_width graph) r c.in_ok-ls.ensures.extends
    (right_states graph f.builder n k f.aligned l r i o)

pub unroll-requires-2-clause-inputs : goal.unroll-requires-2-clause-inputs
unroll-requires-2-clause-inputs c =
    let graph = c.args.task.now.graph in
    let n : ℕ = c.args.cycles in
    let k : ℕ = length c.as_slice-cs.result.now in
    let f = c.in_ok-builder.field-0 in
    let l = c.as_slice-l.result.now in
    let r = c.as_slice-r.result.now in
    let i = c.as_slice-i.result.now in
    let o = sliced graph f.builder n k f.aligned f.left.items f.right.items l r f.inputs.items i c.as_slice-l.ensures.value c.as_slice-r.ensures.value
    c.as_slice-i.ensures.value c.in_ok-builder.ensures in
    cycles_are_kept f.builder c.unroll.new.b graph i c.in_ok-ls.ensures.extends (inputs_cycles graph f.builder n k f.aligned l r i o)

pub goal-requires-clause-left : goal.goal-requires-clause-left
goal-requires-clause-left c =
    let graph = c.args.task.now.graph in
    copies_kept c.unroll.new.b c.unroll-2.new.b graph c.as_slice-x.result.now c.in_ok-rs.ensures.extends
    (subst (AllByRecursion (IsCopy c.unroll.new.b graph)) (sym c.as_slice-x.ensures.value) c.in_ok-ls.ensures.copies)

pub goal-requires-clause-many : goal.goal-requires-clause-many
goal-requires-clause-many c =
    let graph = c.args.task.now.graph in
    let n : ℕ = c.args.cycles in
    let k : ℕ = length c.as_slice-cs.result.now in
    let f = c.in_ok-builder.field-0 in
    let l = c.as_slice-l.result.now in
    let r = c.as_slice-r.result.now in
    let i = c.as_slice-i.result.now in
    let o = sliced graph f.builder n k f.aligned f.left.items f.right.items l r f.inputs.items i c.as_slice-l.ensures.value c.as_slice-r.ensures.value
    c.as_slice-i.ensures.value c.in_ok-builder.ensures in
    ap length c.as_slice-x.ensures.value ∙ (c.in_ok-ls.ensures.many ∙ (run_count _ _ n i o.inputs_are ∙ c.requires.cycles))

pub goal-requires-clause-switches : goal.goal-requires-clause-switches
goal-requires-clause-switches c =
    let graph = c.args.task.now.graph in
    let n : ℕ = c.args.cycles in
    let k : ℕ = length c.as_slice-cs.result.now in
    let f = c.in_ok-builder.field-0 in
    let l = c.as_slice-l.result.now in
    let r = c.as_slice-r.result.now in
    let i = c.as_slice-i.result.now in
    let o = sliced graph f.builder n k f.aligned f.left.items f.right.items l r f.inputs.items i c.as_slice-l.ensures.value c.as_slice-r.ensures.value
    c.as_slice-i.ensures.value c.in_ok-builder.ensures in
    let all = c.args.task.now.candidates.items in
    let many : k ≡ length all = ap length c.as_slice-cs.ensures.value in
    switches_kept f.builder c.unroll-2.new.b (f.aligned + 1) (length all)
    (extends_trans f.builder c.unroll.new.b c.unroll-2.new.b c.in_ok-ls.ensures.extends c.in_ok-rs.ensures.extends)
    (subst (AreSwitches f.builder (f.aligned + 1)) many
    (subst (λ (p : ℕ). AreSwitches f.builder p k) (sym o.aligned_is) (are_switches graph f.builder n k f.aligned l r i o)))

pub returns : goal.returns
returns c =
    let graph = c.args.task.now.graph in
    let n : ℕ = c.args.cycles in
    let k : ℕ = length c.as_slice-cs.result.now in
    let f = c.in_ok-builder.field-0 in
    let l = c.as_slice-l.result.now in
    let r = c.as_slice-r.result.now in
    let i = c.as_slice-i.result.now in
    let o = sliced graph f.builder n k f.aligned f.left.items f.right.items l r f.inputs.items i c.as_slice-l.ensures.value c.as_slice-r.ensures.value
    c.as_slice-i.ensures.value c.in_ok-builder.ensures in
    let all = c.args.task.now.candidates.items in
    let many : k ≡ length all = ap length c.as_slice-cs.ensures.value in
    let task = c.args.task.now in
    let x = c.as_slice-x.result.now in
    let y = c.as_slice-y.result.now in
    subst (λ (net : Net). IsSwitchedGoalOf graph (observers_of task) task.lookahead (length all) (asked c.args.query) net c.in_ok-at.at) (sym c.finish-whole.ensures)
    (goal_is task c.args.query n (length all) c.requires.cycles c.runs.ensures.run f.builder c.unroll.new.b c.unroll-2.new.b c.goal.new.b f.aligned c.in_ok-at.at
    l r i x y (subst (λ (m : ℕ). AreOpened graph f.builder n m f.aligned l r i) many o)
    (subst (λ (ts : List Nodes). Unrolls graph f.builder c.unroll.new.b l i ts) (sym c.as_slice-x.ensures.value) c.in_ok-ls.ensures)
    (subst (λ (ts : List Nodes). Unrolls graph c.unroll.new.b c.unroll-2.new.b r i ts) (sym c.as_slice-y.ensures.value) c.in_ok-rs.ensures)
    (subst (λ (p : ℕ). GivesFact c.unroll-2.new.b c.goal.new.b c.in_ok-at.at
    (λ ws. CopiesMeet c.unroll-2.new.b task (switched_on p (length all) ws) c.args.query x y f.aligned ws)) o.aligned_is c.in_ok-at.ensures))
