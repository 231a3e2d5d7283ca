use Rattle.std.proofs.Common.{◌≡◌, ℕ, List, true}
use Rattle.toml.specs.View.{members_view}
use Rattle.lv_contract.specs.Values.{knows_all, has_word}
use Rattle.lv_contract.proofs.check.check_keys.Given as goal

abbrev pub invariant-members : goal.invariant-members
invariant-members l =
    (goal.iterator-members).can_next l.key-iterator × (goal.iterator-members).is_finite l.key-iterator
    × (knows_all l.level (members_view l.key-iterator) ≡ knows_all l.level (members_view l.table.entries))
    × ((word : List ℕ) → has_word word (members_view l.key-iterator) ≡ true → has_word word (members_view l.table.entries) ≡ true)
