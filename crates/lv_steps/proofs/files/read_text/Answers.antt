use Rattle.std.proofs.Common.{subst, inl}
use Rattle.std.specs.Prelude.{IfOk, IfErr}
use Rattle.lv_steps.specs.Files.{AreRead, IsNext, IsUnread, IsJoined, IsUnjoined}
use Rattle.lv_steps.proofs.Chained.{ok_pair, err_pair}
use Rattle.lv_steps.proofs.files.read_text.Goals as goal

pub returns-in-Err-clause-refused : goal.returns-in-Err-clause-refused
returns-in-Err-clause-refused g c =
    inl (subst (λ z. IsUnread c.args.limits.file (IsNext c.args.limits.file (g.H.Shelf.state c.args.shelf.now).files z) (g.H.Shelf.state c.args.shelf.now) (g.H.Shelf.state c.read_files.new.shelf) c.in-Err.unread) c.as_slice.ensures c.in-Err.ensures.unread)

pub returns-clause-text : goal.returns-clause-text
returns-clause-text g c =
    ok_pair c.joined.result c.in-Ok.parts _ _ (subst (λ z. AreRead c.args.limits.file (g.H.Shelf.state c.args.shelf.now).files z c.in-Ok.parts) c.as_slice.ensures c.in-Ok.ensures.read)
    (subst (λ z. IfOk c.joined.result (λ text. IsJoined c.args.limits.text z text.items)) c.as_slice-2.ensures c.joined.ensures.text)

pub returns-clause-refused : goal.returns-clause-refused
returns-clause-refused g c =
    err_pair c.joined.result c.in-Ok.parts _ _ _ (subst (λ z. AreRead c.args.limits.file (g.H.Shelf.state c.args.shelf.now).files z c.in-Ok.parts) c.as_slice.ensures c.in-Ok.ensures.read)
    (subst (λ z. IfErr c.joined.result (IsUnjoined c.args.limits.text z)) c.as_slice-2.ensures c.joined.ensures.refused)
