use Rattle.std.proofs.Common.{inl, inr}
use Rattle.lv_steps.specs.Step.{followed_by}
use Rattle.lv_steps.specs.Texts.{Lexed, IsLexed, IsUnlexed, IsFolded, IsUnfolded}
use Rattle.lv_steps.specs.Chain.{folds, spells}
use Rattle.lv_steps.proofs.Chained.{ok_pair, err_pair}
use Rattle.lv_steps.proofs.design.source_of.Goals as goal

pub returns-in-Err-clause-refused : goal.returns-in-Err-clause-refused
returns-in-Err-clause-refused c = inl c.in-Err.ensures.refused

pub returns-in-Err-directives-clause-refused : goal.returns-in-Err-directives-clause-refused
returns-in-Err-directives-clause-refused c =
    let lexed : Lexed = record { text = c.in-Ok.tokens.text; list = c.in-Ok.tokens.list } in
    let passes : IsLexed c.args.text.now lexed = record { same = c.in-Ok.ensures.text; listed = c.in-Ok.ensures.list; whole = c.in-Ok.tokens.whole; few = c.in-Ok.ensures.few } in
    inr (lexed, passes, inl c.in-Err-directives.ensures.refused)

pub returns-clause-source : goal.returns-clause-source
returns-clause-source c =
    let lexed : Lexed = record { text = c.in-Ok.tokens.text; list = c.in-Ok.tokens.list } in
    let passes : IsLexed c.args.text.now lexed = record { same = c.in-Ok.ensures.text; listed = c.in-Ok.ensures.list; whole = c.in-Ok.tokens.whole; few = c.in-Ok.ensures.few } in
    let folded : Lexed = record { text = c.in-Ok-directives.folded.text; list = c.in-Ok-directives.folded.list } in
    let left : IsFolded lexed folded =
    record { same = c.in-Ok-directives.ensures.text; unstopped = c.in-Ok-directives.ensures.unstopped; few = c.in-Ok-directives.ensures.few; left = c.in-Ok-directives.ensures.list } in
    ok_pair c.spelled.result lexed (IsLexed c.args.text.now) (λ x s. (followed_by folds spells).Passes x s) passes
    (ok_pair c.spelled.result folded (IsFolded lexed) (λ x s. spells.Passes x s) left c.spelled.ensures.source)

pub returns-clause-refused : goal.returns-clause-refused
returns-clause-refused c =
    let lexed : Lexed = record { text = c.in-Ok.tokens.text; list = c.in-Ok.tokens.list } in
    let passes : IsLexed c.args.text.now lexed = record { same = c.in-Ok.ensures.text; listed = c.in-Ok.ensures.list; whole = c.in-Ok.tokens.whole; few = c.in-Ok.ensures.few } in
    let folded : Lexed = record { text = c.in-Ok-directives.folded.text; list = c.in-Ok-directives.folded.list } in
    let left : IsFolded lexed folded =
    record { same = c.in-Ok-directives.ensures.text; unstopped = c.in-Ok-directives.ensures.unstopped; few = c.in-Ok-directives.ensures.few; left = c.in-Ok-directives.ensures.list } in
    err_pair c.spelled.result lexed (IsLexed c.args.text.now) (IsUnlexed c.args.text.now) (λ x e. (followed_by folds spells).Refuses x e) passes
    (err_pair c.spelled.result folded (IsFolded lexed) (IsUnfolded lexed) (λ x e. spells.Refuses x e) left c.spelled.ensures.refused)
