use Rattle.std.proofs.Common.{◌≡◌, ◌&&◌, ◌||◌, rules, sym, subst}
use Rattle.lv_spans.specs.Sets.{Masks, has, is_set, is_under}
use Rattle.lv_spans.specs.Domain.{IsWithin}
use Rattle.lv_spans.proofs.Added.{bit-added, has-added, within-added}
use Rattle.lv_spans.proofs.Sharing.{touched-added}
use Rattle.lv_spans.proofs.sets.BitSet.add.Goals as goal

pub invariant_of-result : goal.invariant_of-result
invariant_of-result c =
    touched-added _ _ c.args.span.signal c.args.span.element c.args.span.mask
    (bit-added c.self.inside.masks.entries c.insert.new.self.entries c.args.span.signal c.args.span.element c.args.span.mask _ (search rules) c.in_ok-insert.ensures.updates.0)
    c.self.inside.touched c.insert-2.new.self _ (search rules) c.in_ok-insert-2.ensures.updates c.self.invariant

pub returns-clause-added : goal.returns-clause-added
returns-clause-added c = λ q i.
    subst (λ (m : Masks). has c.insert.new.self.entries q i ≡ (has m q i || (is_under c.args.span.signal c.args.span.element q && is_set c.args.span.mask i))) c.self.view_is
    (has-added c.self.inside.masks.entries c.insert.new.self.entries c.args.span.signal c.args.span.element c.args.span.mask _ (search rules) c.in_ok-insert.ensures.updates.0 q i)

pub returns-clause-within : goal.returns-clause-within
returns-clause-within c = λ S h p.
    within-added c.self.inside.masks.entries c.insert.new.self.entries c.args.span.signal c.args.span.element c.args.span.mask _ (search rules) c.in_ok-insert.ensures.updates.0 S
    (subst (λ (m : Masks). IsWithin S m) (sym c.self.view_is) h) p
