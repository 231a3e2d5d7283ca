use Rattle.std.proofs.Common.{ℕ, List, ◌-◌, ◌++◌, take, drop, length, ap, ◌∙◌}
use Rattle.std.proofs.lemmas.List.{take_rest}
use Rattle.lv_order.proofs.Rings.{ring-read}
use Rattle.lv_order.proofs.ring.ring.Goals as goal

pub returns : goal.returns
returns c =
    let p : ℕ = c.place_of.result in
    let q : ℕ = c.least-at.result in
    let r : List ℕ = take (length c.args.path.now - p) (drop p c.args.path.now) in
    ring-read c.args.path.now r p q c.args.v c.extend_from_slice-2.new.self.items
    (take_rest c.args.path.now p) c.place_of.ensures.at c.least-at.ensures.within c.least-at.ensures.least
    (c.in_ok-extend_from_slice-2.ensures.items ∙ ap (λ z. z ++ take q r)
    (c.in_ok-extend_from_slice.ensures.items ∙ (ap (λ z. z ++ take (length r - q) (drop q r)) c.new-list.ensures.items ∙ take_rest r q)))
