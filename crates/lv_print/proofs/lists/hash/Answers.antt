use Rattle.std.proofs.Common.{arith, ap, sym, ◌∙◌, List, map}
use Rattle.std.specs.Prelude.{codes}
use Rattle.lv_print.specs.Written.{Written, mark, commas}
use Rattle.lv_print.specs.Expressions.{parens}
use Rattle.lv_print.specs.Paper.{with_tokens}
use Rattle.lv_print.proofs.Papers.{ok-same, with-none, with-more}
use Rattle.lv_print.proofs.SourceRules.{hash-none, hash-some}
use Rattle.lv_print.proofs.lists.hash.Goals as goal

pub returns-then-items-eq0 : goal.returns-then-items-eq0
returns-then-items-eq0 g c = sym (ap (with_tokens c.args.paper.now) (hash-none g.T.Print.tokens c.args.items.now (omega arith)) ∙ with-none c.args.paper.now)

pub returns : goal.returns
returns g c =
    let rest : List Written = parens (commas (map g.T.Print.tokens c.args.items.now)) in
    ok-same _ _ _ _ c.in_parens.ensures
    (ap (λ q. with_tokens q rest) c.in_ok-mark.ensures ∙
    sym (ap (with_tokens c.args.paper.now) (hash-some g.T.Print.tokens c.args.items.now (omega arith)) ∙ with-more c.args.paper.now (mark (codes "#")) rest))
