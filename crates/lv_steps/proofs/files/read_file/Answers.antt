use Rattle.lv_steps.proofs.files.read_file.Goals as goal

pub returns-in-Err-clause-unread : goal.returns-in-Err-clause-unread
returns-in-Err-clause-unread g c = c.unread.ensures c.args.limit (g.H.Shelf.state c.args.shelf.now) (g.H.Shelf.state c.read_bytes.new.shelf) c.in-Err.ensures.cause
