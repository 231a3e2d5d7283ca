use Rattle.std.proofs.Common.{◌≡◌, ◌++◌, ◌∷◌, [], sym}
use Rattle.lv_steps.specs.Files.{IsNext}
use Rattle.lv_steps.proofs.Reading.{gathered_as, unread_later, next_at, gathered_more, on_ok}
use Rattle.lv_steps.proofs.files.read_files.Goals as goal

pub returns-in-Err-clause-unread : goal.returns-in-Err-clause-unread
returns-in-Err-clause-unread g c =
    unread_later c.args.limit (λ z. z ≡ c.name-item.result) (IsNext c.args.limit (g.H.Shelf.state c.args.shelf.now).files c.args.names.now)
    (g.H.Shelf.state c.args.shelf.now) (g.H.Shelf.state c.loop-name.shelf) (g.H.Shelf.state c.read_file.new.shelf) c.in-Err.unread c.loop-name.invariant.goes
    (λ name e. next_at _ _ c.args.names.now c.loop-name.parts c.loop-name.name-index c.name-item.result c.loop-name-test.true c.name-item.is c.loop-name.invariant.held name e)
    c.in-Err.ensures.unread

pub loop-name-preserved : goal.loop-name-preserved
loop-name-preserved g c =
    let pushed : c.push.new.self ≡ c.loop-name.parts ++ c.in-Ok.bytes ∷ [] = on_ok c.push.result _ (sym c.if-is_err.ensures.value) c.push.ensures.ok in
    gathered_as _ _ _ _ _ _ (sym pushed)
    (gathered_more _ _ _ _ c.args.names.now c.loop-name.parts c.loop-name.name-index c.name-item.result c.in-Ok.bytes c.loop-name-test.true c.name-item.is c.loop-name.invariant c.in-Ok.ensures.read c.in-Ok.ensures.goes)
