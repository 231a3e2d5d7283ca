use Rattle.std.proofs.Common.{◌≡◌, ◌∙◌, ℕ, ◌<◌, List, true, length, take, inl, inr, ap, sym, subst, Option, Some}
use Rattle.std.specs.Prelude.{is_some, IfSome, slice_index}
use Rattle.lv_source.proofs.Tests.{decide}
use Rattle.lv_netlist.specs.declared.node.Typed.{Typed}
use Rattle.lv_netlist.specs.Net.{Net, node_at, width_at, register_of, with_next}
use Rattle.lv_lower.specs.declared.slot.Slot.{Slot}
use Rattle.lv_lower.specs.Started.{slot_at}
use Rattle.lv_lower.specs.Nexts.{is_held}
use Rattle.lv_lower.proofs.Starting.{registers_in, slot-item}
use Rattle.lv_lower.proofs.Nexting.{nexts-none, nexts-more, nexts-skip, here, register-here, registers-some, width-here, cell-count, cell-width}
use Rattle.lv_lower.proofs.nexts.set_nexts.Goals as goal

pub loop-k-init : goal.loop-k-init
loop-k-init c = nexts-none c.args.b.now

pub set_next-requires-clause-register : goal.set_next-requires-clause-register
set_next-requires-clause-register c = λ h.
    let nodes : c.loop-k.b.nodes ≡ c.args.b.now.nodes = ap (λ (n : Net). n.nodes) c.loop-k.invariant in
    let at : slot_at c.args.slots.now c.loop-k.k ≡ c.index-slots-k.result = slot-item c.args.slots.now c.loop-k.k c.index-slots-k.result c.loop-k-test.true c.index-slots-k.is in
    let held : is_held (slot_at c.args.slots.now c.loop-k.k).kind ≡ true = ap (λ (s : Slot). is_held s.kind) at ∙ h in (
      subst (λ (ns : List Typed). c.loop-k.k < length ns) (sym nodes) (here c.args.slots.now c.args.b.now c.requires.grown c.loop-k.k c.loop-k-test.true),
      ap (λ x. is_some (register_of x)) (ap (λ (ns : List Typed). (node_at ns c.loop-k.k).node) nodes ∙
          register-here c.args.slots.now c.args.b.now c.requires.grown c.loop-k.k c.loop-k-test.true held),
    )

pub set_next-requires-clause-same : goal.set_next-requires-clause-same
set_next-requires-clause-same c =
    let nodes : c.loop-k.b.nodes ≡ c.args.b.now.nodes = ap (λ (n : Net). n.nodes) c.loop-k.invariant in
    ap (λ (ns : List Typed). width_at ns c.loop-k.k) nodes ∙
    (width-here c.args.slots.now c.args.b.now c.requires.grown c.loop-k.k c.loop-k-test.true ∙
    sym (ap (λ (ns : List Typed). width_at ns (slice_index c.args.done.now c.loop-k.k)) nodes ∙
    (c.requires.table.widths c.loop-k.k (subst (λ n. c.loop-k.k < n) (sym (cell-count c.args.slots.now)) c.loop-k-test.true) ∙ cell-width c.args.slots.now c.loop-k.k)))

pub loop-k-preserved : goal.loop-k-preserved
loop-k-preserved c =
    let ss : List Slot = c.args.slots.now in
    let net : Net = c.args.b.now in
    let k : ℕ = c.loop-k.k in
    let nodes : c.loop-k.b.nodes ≡ net.nodes = ap (λ (n : Net). n.nodes) c.loop-k.invariant in
    let many : length c.args.done.now ≡ length ss = c.requires.table.count ∙ cell-count ss in
    let at : slot_at ss k ≡ c.index-slots-k.result = slot-item ss k c.index-slots-k.result c.loop-k-test.true c.index-slots-k.is in
    elim (decide (is_held c.index-slots-k.result.kind)) [
      | inl h ↦ (
          let held : is_held (slot_at ss k).kind ≡ true = ap (λ (s : Slot). is_held s.kind) at ∙ h in
          let number : register_of (node_at c.loop-k.b.nodes k).node ≡ Some (length (registers_in (take k ss))) =
          ap register_of (ap (λ (ns : List Typed). (node_at ns k).node) nodes ∙ register-here ss net c.requires.grown k c.loop-k-test.true held) in
          nexts-more net ss c.args.done.now k c.index-slots-k.result c.loop-k.b c.set_next.new.b c.loop-k-test.true many c.index-slots-k.is h
          (registers-some ss net c.requires.grown) c.loop-k.invariant
          (subst (λ (o : Option ℕ). IfSome o (λ i. c.set_next.new.b ≡ with_next c.loop-k.b i (slice_index c.args.done.now k))) number (c.set_next.ensures.held h)))
      | inr h ↦ c.set_next.ensures.free h ∙ nexts-skip net ss c.args.done.now k c.index-slots-k.result c.loop-k.b c.loop-k-test.true many c.index-slots-k.is h c.loop-k.invariant
    ]
