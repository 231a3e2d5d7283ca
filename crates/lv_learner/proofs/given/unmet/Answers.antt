use Rattle.std.proofs.Common.{◌≡◌, ℕ, List, ◌&&◌, sym, ◌∙◌, ap, subst, arith, length}
use Rattle.lv_bits.specs.Words.{Bits}
use Rattle.lv_cert.specs.declared.cert.Cert.{Cert}
use Rattle.lv_netlist.specs.Net.{Net}
use Rattle.lv_netlist.specs.Run.{values_of}
use Rattle.lv_netlist.specs.Fits.{FitsInputs, FitsState}
use Rattle.lv_netlist.specs.Queries.{register_widths, port_widths}
use Rattle.lv_product.specs.declared.task.Task.{Task}
use Rattle.lv_product.specs.Values.{is_met, is_same}
use Rattle.lv_learner.specs.Cuts.{cut, state_of, input_of}
use Rattle.lv_learner.specs.Confirming.{IsFirstFailing, first_of, IsStatesTest}
use Rattle.lv_learner.proofs.Words.{state_fits, input_fits}
use Rattle.lv_learner.proofs.Testing.{states_tested, input_tested}
use Rattle.lv_learner.proofs.given.unmet.Goals as goal

words_are : (ws : List ℕ) (slice made : List Bits) (given values : List ℕ) → slice ≡ made → made ≡ cut ws given → given ≡ values → slice ≡ cut ws values
words_are ws slice made given values e f g = e ∙ (f ∙ ap (cut ws) g)

settles : (net : Net) (v s i s' i' : List Bits) → v ≡ values_of net s i → s ≡ s' → i ≡ i' → v ≡ values_of net s' i'
settles net v s i s' i' e f g = e ∙ (ap (λ (x : List Bits). values_of net x i) f ∙ ap (values_of net s') g)

pub settled-requires-clause-state : goal.settled-requires-clause-state
settled-requires-clause-state c =
    let net : Net = c.args.task.now.graph in
    let e =
    words_are (register_widths net) c.as_slice-4.result.now c.in_ok-l.l.items c.as_slice.result.now c.args.cert.now.left.items
    c.as_slice-4.ensures.value c.in_ok-l.ensures c.as_slice.ensures.value in
    subst (FitsState net) (sym e) (state_fits net c.args.cert.now.left.items c.requires.left).0

pub settled-requires-clause-inputs : goal.settled-requires-clause-inputs
settled-requires-clause-inputs c =
    let net : Net = c.args.task.now.graph in
    let e =
    words_are (port_widths net) c.as_slice-5.result.now c.in_ok-i.i.items c.as_slice-3.result.now c.args.cert.now.input.items
    c.as_slice-5.ensures.value c.in_ok-i.ensures c.as_slice-3.ensures.value in
    subst (FitsInputs net) (sym e) (input_fits net c.args.cert.now.input.items c.requires.input).0

pub settled-requires-2-clause-state : goal.settled-requires-2-clause-state
settled-requires-2-clause-state c =
    let net : Net = c.args.task.now.graph in
    let e =
    words_are (register_widths net) c.as_slice-6.result.now c.in_ok-r.r.items c.as_slice-2.result.now c.args.cert.now.right.items
    c.as_slice-6.ensures.value c.in_ok-r.ensures c.as_slice-2.ensures.value in
    subst (FitsState net) (sym e) (state_fits net c.args.cert.now.right.items c.requires.right).0

pub settled-requires-2-clause-inputs : goal.settled-requires-2-clause-inputs
settled-requires-2-clause-inputs c =
    let net : Net = c.args.task.now.graph in
    let e =
    words_are (port_widths net) c.as_slice-7.result.now c.in_ok-i.i.items c.as_slice-3.result.now c.args.cert.now.input.items
    c.as_slice-7.ensures.value c.in_ok-i.ensures c.as_slice-3.ensures.value in
    subst (FitsInputs net) (sym e) (input_fits net c.args.cert.now.input.items c.requires.input).0

pub returns-clause-states : goal.returns-clause-states
returns-clause-states c =
    let task : Task = c.args.task.now in
    let cert : Cert = c.args.cert.now in
    let net : Net = task.graph in
    let lv : List Bits = c.in_ok-left.left.values in
    let rv : List Bits = c.in_ok-right.right.values in
    let l =
    words_are (register_widths net) c.as_slice-4.result.now c.in_ok-l.l.items c.as_slice.result.now cert.left.items
    c.as_slice-4.ensures.value c.in_ok-l.ensures c.as_slice.ensures.value in
    let r =
    words_are (register_widths net) c.as_slice-6.result.now c.in_ok-r.r.items c.as_slice-2.result.now cert.right.items
    c.as_slice-6.ensures.value c.in_ok-r.ensures c.as_slice-2.ensures.value in
    let i =
    words_are (port_widths net) c.as_slice-5.result.now c.in_ok-i.i.items c.as_slice-3.result.now cert.input.items
    c.as_slice-5.ensures.value c.in_ok-i.ensures c.as_slice-3.ensures.value in
    let j =
    words_are (port_widths net) c.as_slice-7.result.now c.in_ok-i.i.items c.as_slice-3.result.now cert.input.items
    c.as_slice-7.ensures.value c.in_ok-i.ensures c.as_slice-3.ensures.value in
    let el = settles net lv c.as_slice-4.result.now c.as_slice-5.result.now (state_of task cert.left.items) (input_of task cert.input.items) c.in_ok-left.ensures.values l i in
    let er = settles net rv c.as_slice-6.result.now c.as_slice-7.result.now (state_of task cert.right.items) (input_of task cert.input.items) c.in_ok-right.ensures.values r j in
    let a = c.first_differing-differing.result in
    let b = c.first_off-off.result in
    let ha : IsFirstFailing (is_same lv rv) task.equal.items a =
    subst (λ (xs : List ℕ). IsFirstFailing (is_same lv rv) xs a) c.as_slice-8.ensures.value c.first_differing-differing.ensures in
    let hb : IsFirstFailing (λ k. is_met lv k && is_met rv k) task.each.items b =
    subst (λ (xs : List ℕ). IsFirstFailing (λ k. is_met lv k && is_met rv k) xs b) c.as_slice-9.ensures.value c.first_off-off.ensures in
    let count : c.len.result ≡ length task.equal.items = omega (arith, c.len.ensures, task.equal.ok.0) in
    subst (IsStatesTest task cert) (sym (c.earlier-states.ensures ∙ ap (λ (n : ℕ). first_of a n b) count)) (states_tested task cert lv rv a b c.requires el er ha hb)

pub returns-clause-input : goal.returns-clause-input
returns-clause-input c =
    let task : Task = c.args.task.now in
    let cert : Cert = c.args.cert.now in
    let net : Net = task.graph in
    let lv : List Bits = c.in_ok-left.left.values in
    let rv : List Bits = c.in_ok-right.right.values in
    let l =
    words_are (register_widths net) c.as_slice-4.result.now c.in_ok-l.l.items c.as_slice.result.now cert.left.items
    c.as_slice-4.ensures.value c.in_ok-l.ensures c.as_slice.ensures.value in
    let r =
    words_are (register_widths net) c.as_slice-6.result.now c.in_ok-r.r.items c.as_slice-2.result.now cert.right.items
    c.as_slice-6.ensures.value c.in_ok-r.ensures c.as_slice-2.ensures.value in
    let i =
    words_are (port_widths net) c.as_slice-5.result.now c.in_ok-i.i.items c.as_slice-3.result.now cert.input.items
    c.as_slice-5.ensures.value c.in_ok-i.ensures c.as_slice-3.ensures.value in
    let j =
    words_are (port_widths net) c.as_slice-7.result.now c.in_ok-i.i.items c.as_slice-3.result.now cert.input.items
    c.as_slice-7.ensures.value c.in_ok-i.ensures c.as_slice-3.ensures.value in
    let el = settles net lv c.as_slice-4.result.now c.as_slice-5.result.now (state_of task cert.left.items) (input_of task cert.input.items) c.in_ok-left.ensures.values l i in
    let er = settles net rv c.as_slice-6.result.now c.as_slice-7.result.now (state_of task cert.right.items) (input_of task cert.input.items) c.in_ok-right.ensures.values r j in
    let a = c.first_off-input.result in
    let h : IsFirstFailing (λ k. is_met lv k && is_met rv k) task.assume.items a =
    subst (λ (xs : List ℕ). IsFirstFailing (λ k. is_met lv k && is_met rv k) xs a) c.as_slice-10.ensures.value c.first_off-input.ensures in
    input_tested task cert lv rv a c.requires el er h
