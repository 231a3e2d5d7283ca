use Rattle.std.proofs.Common.{◌≡◌, [], ◌∷◌, ◌++◌, ap, sym, subst, ◌∙◌}
use Rattle.lv_source.specs.Names.{is_signal_sort}
use Rattle.lv_flat.specs.Cells.{AreDistinct, all_cells}
use Rattle.lv_flat.specs.Signals.{declared, declared_all, bounds_of, sort_of}
use Rattle.lv_test_rules.proofs.Distinct.{one_cell}
use Rattle.lv_test_rules.proofs.judgements.names.Goals as goal

pub returns : goal.returns
returns c =
    subst (λ z. AreDistinct (all_cells (declared_all z)))
    (sym (c.in_ok-push-2.ensures.items ∙ ap (λ z. z ++ c.in_ok-clock.clock ∷ []) (c.in_ok-push.ensures.items ∙ ap (λ z. z ++ c.in_ok-net.net ∷ []) c.new-list.ensures.items)))
    (one_cell (declared c.in_ok-net.net) (declared c.in_ok-clock.clock) (ap bounds_of c.in_ok-net.ensures.array) (ap (λ s. is_signal_sort (sort_of s)) c.in_ok-clock.ensures.sort))
