use Rattle.std.proofs.Common.{◌≡◌, length}
use Rattle.lv_const.specs.Constants.{names_of}
use Rattle.lv_const.specs.Wherever.{Wherever}
use Rattle.lv_scopes.specs.Headers.{IsSoFar}
use Rattle.lv_scopes.proofs.turns.turns_of.Given as goal

abbrev pub invariant-loop : goal.invariant-loop
invariant-loop l =
    (length l.turns ≡ l.counter) × (l.consts ≡ l.fn.consts) ×
    Wherever (names_of l.fn.consts) (λ here. IsSoFar here l.index l.fn.start l.test l.next l.turns l.value)
