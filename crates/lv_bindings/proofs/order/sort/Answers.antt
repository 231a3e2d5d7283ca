use Rattle.std.proofs.Common.{rules}
use Rattle.std.proofs.lemmas.List.Sorted.{answers_always, IsNonDecreasingBy-from_sort_by_key}
use Rattle.lv_bindings.proofs.OrderLaws.{sorted}
use Rattle.lv_bindings.proofs.order.sort.Goals as goal

pub returns : goal.returns
returns c =
    sorted c.args.list.now.items c.sort_by_key.new.self.items
    (IsNonDecreasingBy-from_sort_by_key (λ p. p.place) _ c.in_ok-sort_by_key.ensures.sorted (λ a r q k. search rules))
    (c.sort_by_key.ensures.stable (λ p. p.place) (answers_always _ _ _ (λ f a r g h. search rules)))
