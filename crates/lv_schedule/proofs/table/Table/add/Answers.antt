use Rattle.std.proofs.Common.{◌≡◌, Some, ◌++◌, ◌∷◌, [], ap, ◌∙◌, rules}
use Rattle.lv_schedule.specs.Tables.{items_of}
use Rattle.lv_schedule.proofs.Keys.{put_back}
use Rattle.lv_schedule.proofs.table.Table.add.Goals as goal
use Rattle.lv_schedule.proofs.table.Table.add.Goals.{in-Some, in-None}

pub returns : goal.returns
returns c =
    let e : c.match-remove.list.items ≡ items_of c.remove.result = elim c.match-remove.branch [ in-Some w ↦ search rules | in-None w ↦ search rules ] in
    put_back c.args.self.lists.entries c.remove.new.self.entries c.insert.new.self.entries c.args.cell c.remove.result (Some c.push.new.self) c.args.d
    (ap items_of c.remove.ensures.value) (c.in_ok-push.ensures.items ∙ ap (λ z. z ++ c.args.d ∷ []) e) c.remove.ensures.updates.0 c.in_ok-insert.ensures.updates.0
