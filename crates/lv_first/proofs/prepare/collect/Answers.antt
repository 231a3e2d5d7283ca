use Rattle.std.proofs.Common.{◌≡◌, ◌++◌, ◌≤◌, List, length, false, sym, ◌∙◌, ap, subst, Some}
use Rattle.std.proofs.lemmas.Bool.{false≢true}
use Rattle.std.specs.Prelude.{slice_get, filter, not, bytes_eq}
use Rattle.std.specs.List.{IsDistinct}
use Rattle.lv_first.specs.FirstForm.{is_in, port_names, register_items}
use Rattle.lv_ast.specs.Names.{Name}
use Rattle.lv_first.proofs.Joins.{in-at}
use Rattle.lv_first.proofs.Prepared.{few_names}
use Rattle.lv_first.proofs.prepare.collect.Goals as goal

pub returns : goal.returns
returns c =
    let ports = c.args.ports.now in
    let clock = c.args.clock.now in
    let Rs = c.push_items.new.texts in
    let all = c.in_ok-all.all in
    let e = c.in_ok-all.ensures in
    let at : slice_get (port_names false ports) c.in-Some.field-0 ≡ Some clock = subst (λ z. slice_get z c.in-Some.field-0 ≡ Some clock) (c.as_slice.ensures ∙ e) c.in-Some.ensures in
    let apart : IsDistinct bytes_eq (c.as_slice-2.result.now ++ c.as_slice-3.result.now) = (c.in_ok-are_apart.ensures.0 c.if-not-branch.false).2 in
    record {
      registers_are = c.in_ok-push_items.ensures ∙ ap (λ z. z ++ register_items c.args.items.now) c.in_ok-registers.ensures;
      inputs_are = c.in_ok-inputs.ensures ∙ ap (filter (λ x. not (bytes_eq x clock))) (c.as_slice-4.ensures ∙ e);
      distinct = subst (λ z. IsDistinct bytes_eq (Rs ++ z)) (c.as_slice-3.ensures ∙ e) (subst (λ z. IsDistinct bytes_eq (z ++ c.as_slice-3.result.now)) c.as_slice-2.ensures apart);
      clock_is_input = in-at (port_names false ports) c.in-Some.field-0 clock at;
    }

pub returns-in_default : goal.returns-in_default
returns-in_default c = λ Rs Is h few.
    let e = c.in_ok-all.ensures in
    let none : is_in (port_names false c.args.ports.now) c.args.clock.now ≡ false = subst (λ z. is_in z c.args.clock.now ≡ false) (c.as_slice.ensures ∙ e) c.in_default.ensures in
    false≢true (sym none ∙ h.clock_is_input)

pub returns-then-not-branch : goal.returns-then-not-branch
returns-then-not-branch c = λ Rs Is h few.
    let ports = c.args.ports.now in
    let few' = few_names ports c.args.items.now c.args.clock.now Rs Is h few in
    let regs : c.as_slice-2.result.now ≡ Rs = c.as_slice-2.ensures ∙ c.in_ok-push_items.ensures ∙ ap (λ z. z ++ register_items c.args.items.now) c.in_ok-registers.ensures ∙ sym h.registers_are in
    let ins : c.as_slice-3.result.now ≡ port_names false ports = c.as_slice-3.ensures ∙ c.in_ok-all.ensures in
    let distinct : IsDistinct bytes_eq (c.as_slice-2.result.now ++ c.as_slice-3.result.now) =
    subst (λ z. IsDistinct bytes_eq (z ++ c.as_slice-3.result.now)) (sym regs) (subst (λ z. IsDistinct bytes_eq (Rs ++ z)) (sym ins) h.distinct) in
    false≢true (sym c.if-not-branch.true ∙ c.in_ok-are_apart.ensures.1
    (subst (λ (z : List Name). length z ≤ 32) (sym regs) few'.0, subst (λ (z : List Name). length z ≤ 32) (sym ins) few'.1, distinct))
