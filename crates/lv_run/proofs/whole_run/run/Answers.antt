use Rattle.lv_io.specs.Outside.{outside}
use Rattle.lv_run.specs.Promises.{Reports}
use Rattle.lv_run.proofs.Answering.{proof_of, unproved_of, printed_of, usage_of, usage_only_of, fault_of}
use Rattle.lv_run.proofs.Completing.{prints_of}
use Rattle.lv_run.proofs.whole_run.run.Goals as goal

pub returns-clause-usage : goal.returns-clause-usage
returns-clause-usage g c =
    usage_of c.args.words.now.list (g.H.Shelf.state c.args.shelf.now) (g.H.Shelf.state c.decide-answer.new.shelf)
    (g.S.Sink.state c.args.out.now) (g.S.Sink.state c.report.new.out) c.report.result.code
    (record { answer = c.decide-answer.result; answers = c.decide-answer.ensures.answer; reported = c.report.ensures })

pub returns-clause-usage_only : goal.returns-clause-usage_only
returns-clause-usage_only g c =
    usage_only_of c.args.words.now.list (g.H.Shelf.state c.args.shelf.now) (g.H.Shelf.state c.decide-answer.new.shelf)
    (g.S.Sink.state c.args.out.now) (g.S.Sink.state c.report.new.out) c.report.result.code
    (record { answer = c.decide-answer.result; answers = c.decide-answer.ensures.answer; reported = c.report.ensures })

pub returns-clause-fault : goal.returns-clause-fault
returns-clause-fault g c =
    fault_of c.args.words.now.list (g.H.Shelf.state c.args.shelf.now) (g.H.Shelf.state c.decide-answer.new.shelf)
    (g.S.Sink.state c.args.out.now) (g.S.Sink.state c.report.new.out) c.report.result.code
    (record { answer = c.decide-answer.result; answers = c.decide-answer.ensures.answer; reported = c.report.ensures })

pub returns-clause-unproved : goal.returns-clause-unproved
returns-clause-unproved g c =
    unproved_of c.args.words.now.list (g.H.Shelf.state c.args.shelf.now) (g.H.Shelf.state c.decide-answer.new.shelf)
    (g.S.Sink.state c.args.out.now) (g.S.Sink.state c.report.new.out) c.report.result.code
    (record { answer = c.decide-answer.result; answers = c.decide-answer.ensures.answer; reported = c.report.ensures })

pub returns-clause-printed : goal.returns-clause-printed
returns-clause-printed g c =
    printed_of c.args.words.now.list (g.H.Shelf.state c.args.shelf.now) (g.H.Shelf.state c.decide-answer.new.shelf)
    (g.S.Sink.state c.args.out.now) (g.S.Sink.state c.report.new.out) c.report.result.code
    (record { answer = c.decide-answer.result; answers = c.decide-answer.ensures.answer; reported = c.report.ensures })

pub returns-clause-headline : goal.returns-clause-headline
returns-clause-headline g c = λ file asks e.
    let h = proof_of c.args.words.now.list (g.H.Shelf.state c.args.shelf.now) (g.H.Shelf.state c.decide-answer.new.shelf)
    (g.S.Sink.state c.args.out.now) (g.S.Sink.state c.report.new.out) c.report.result.code
    (record { answer = c.decide-answer.result; answers = c.decide-answer.ensures.answer; reported = c.report.ensures }) file asks e in
    record { holds = h.holds; safe = h.safe }

pub returns-clause-kept : goal.returns-clause-kept
returns-clause-kept g c = λ file asks e.
    let h = proof_of c.args.words.now.list (g.H.Shelf.state c.args.shelf.now) (g.H.Shelf.state c.decide-answer.new.shelf)
    (g.S.Sink.state c.args.out.now) (g.S.Sink.state c.report.new.out) c.report.result.code
    (record { answer = c.decide-answer.result; answers = c.decide-answer.ensures.answer; reported = c.report.ensures }) file asks e in
    record { holds = h.holds; kept = h.kept }

pub returns-clause-prints : goal.returns-clause-prints
returns-clause-prints g c = λ files file contract source told asks input quiet.
    prints_of c.args.words.now.list (g.H.Shelf.state c.args.shelf.now) (g.H.Shelf.state c.decide-answer.new.shelf) files told file contract source asks input
    (g.S.Sink.state c.args.out.now) (g.S.Sink.state c.report.new.out) c.report.result.code
    (record { answer = c.decide-answer.result; answers = c.decide-answer.ensures.answer; reported = c.report.ensures }) quiet
