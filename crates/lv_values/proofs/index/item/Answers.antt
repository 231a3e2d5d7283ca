use Rattle.std.proofs.Common.{sym, ap, subst, ◌∙◌}
use Rattle.lv_source.specs.Names.{Bounds}
use Rattle.lv_source.specs.Places.{bits_from, read_bits, write_bits}
use Rattle.lv_values.specs.declared.index.Choices.{Choices}
use Rattle.lv_values.specs.Worlds.{Gives, width_of, number}
use Rattle.lv_values.specs.Windows.{integer, window_bits}
use Rattle.lv_values.specs.Picked.{item_width, item_value}
use Rattle.lv_values.proofs.Growth.{gives-is}
use Rattle.lv_values.proofs.index.item.Goals as goal

pub returns-in_ok-r-in-Read-clause-is : goal.returns-in_ok-r-in-Read-clause-is
returns-in_ok-r-in-Read-clause-is c =
    let at = c.window_of-at.result in
    subst (λ (x : Choices). Gives c.args.b.now c.read.new.b c.in_ok-r-in-Read.r (item_width x) (λ w. item_value w c.args.nodes.now x (integer c.args.z))) (sym c.in-Read.is)
    (gives-is c.in_ok-r-in-Read.ensures.is c.window_of-at.ensures.sum (λ w o.
    ap (λ v. read_bits (number w v) (window_bits at)) c.same.ensures ∙ ap (read_bits (number w c.in-Read.word)) (sym c.window_of-at.ensures.bits)))

pub returns-in_ok-r-in-Write-clause-is : goal.returns-in_ok-r-in-Write-clause-is
returns-in_ok-r-in-Write-clause-is c =
    let at = c.window_of-at-in-Write.result in
    let b : Bounds = record { left = c.in-Write.left; right = c.in-Write.right } in
    subst (λ (x : Choices). Gives c.args.b.now c.written.new.b c.in_ok-r-in-Write.r (item_width x) (λ w. item_value w c.args.nodes.now x (integer c.args.z))) (sym c.in-Write.is)
    (gives-is c.in_ok-r-in-Write.ensures (ap width_of c.same-in-Write.ensures) (λ w o.
    ap (λ v. write_bits (number w v) (window_bits at) (number w c.same-in-Write-2.result)) c.same-in-Write.ensures ∙
    (ap (λ v. write_bits (number w c.in-Write.word) (window_bits at) (number w v)) c.same-in-Write-2.ensures ∙
    (ap (λ ks. write_bits (number w c.in-Write.word) ks (number w c.in-Write.x)) (sym c.window_of-at-in-Write.ensures.bits) ∙
    ap (λ n. write_bits (number w c.in-Write.word) (bits_from b (integer c.args.z) n) (number w c.in-Write.x)) c.width.ensures))))
