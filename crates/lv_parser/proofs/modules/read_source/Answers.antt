use Rattle.std.proofs.Common.{refl, arith}
use Rattle.lv_grammar.specs.Leaves.{limits}
use Rattle.lv_parser.proofs.Sources.{sourced, first_refused, source_more, source_stops, source_ends, exit_source}
use Rattle.lv_parser.proofs.modules.read_source.Goals as goal

pub returns-in_err-first : goal.returns-in_err-first
returns-in_err-first c =
    exit_source c.args.tokens.now.text c.args.tokens.now.list _ _ c.from_residual.ensures.1
    (first_refused c.args.tokens.now.text c.args.tokens.now.list (c.in_err-first.ensures.answer limits refl refl refl))

pub entries-init : goal.entries-init
entries-init c = (
  sourced c.args.tokens.now.text c.args.tokens.now.list c.new-modules.ensures c.in_ok-push.ensures (c.in_ok-first.ensures.answer limits refl refl refl),
  c.in_ok-first.ensures.ahead.1,
)

pub returns-in_err-more : goal.returns-in_err-more
returns-in_err-more c =
    exit_source c.args.tokens.now.text c.args.tokens.now.list _ _ c.from_residual-in_err-more.ensures.1
    (source_stops c.args.tokens.now.text c.args.tokens.now.list _ c.entries.invariant.0 (omega arith) (c.in_err-more.ensures.answer limits refl refl refl))

pub entries-preserved : goal.entries-preserved
entries-preserved c = (
  source_more c.args.tokens.now.text c.args.tokens.now.list c.entries.invariant.0 c.in_ok-push-2.ensures (c.in_ok-more.ensures.answer limits refl refl refl),
  c.in_ok-more.ensures.ahead.1,
)

pub returns : goal.returns
returns c = source_ends c.args.tokens.now.text c.args.tokens.now.list c.entries.invariant.0 (omega arith)
