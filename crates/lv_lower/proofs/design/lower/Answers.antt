use Rattle.std.proofs.Common.{◌≡◌, ◌≤◌, Bool, List, ap, subst, ◌∙◌}
use Rattle.lv_flat.specs.declared.flat.Flat.{Flat}
use Rattle.lv_flat.specs.declared.signal.Signal.{Signal}
use Rattle.lv_flat.specs.Signals.{declared_all}
use Rattle.lv_lower.specs.Slots.{names_of, views_of}
use Rattle.lv_lower.specs.Bits.{bits_of, state_bits}
use Rattle.lv_lower.proofs.Counting.{bits-are}
use Rattle.lv_lower.proofs.design.lower.Goals as goal

pub returns-then-bits-gt65536 : goal.returns-then-bits-gt65536
returns-then-bits-gt65536 c =
    let f : Flat = c.args.flat.now in
    let e : c.state_bits-bits.result ≡ state_bits f =
    c.state_bits-bits.ensures ∙ (ap (λ (ss : List Signal). bits_of c.as_slice-2.result.now (declared_all ss)) c.as_slice.ensures ∙
    (ap (λ (fs : List Bool). bits_of fs (names_of f)) (c.as_slice-2.ensures.value ∙ c.in-Ok.ensures) ∙ bits-are (names_of f) (views_of f) f.distinct)) in
    (e, c.if-bits-gt65536.true)

pub returns-in-Ok-graph_of : goal.returns-in-Ok-graph_of
returns-in-Ok-graph_of c =
    let f : Flat = c.args.flat.now in
    let e : c.state_bits-bits.result ≡ state_bits f =
    c.state_bits-bits.ensures ∙ (ap (λ (ss : List Signal). bits_of c.as_slice-2.result.now (declared_all ss)) c.as_slice.ensures ∙
    (ap (λ (fs : List Bool). bits_of fs (names_of f)) (c.as_slice-2.ensures.value ∙ c.in-Ok.ensures) ∙ bits-are (names_of f) (views_of f) f.distinct)) in
    let l : c.state_bits-bits.result ≤ 65536 = c.if-bits-gt65536.false in
    (c.in-Ok-graph_of.ensures, subst (λ n. n ≤ 65536) e l)
