use Rattle.std.proofs.Common.{not, sym, ap, ◌∙◌}
use Rattle.lv_paths.proofs.Labels.{extends-Lit, extends-Const, extends-Signal, extends-Un, extends-Bin, extends-Div, extends-Rem, extends-Cond, extends-Cat, extends-Rep, extends-Cast}
use Rattle.lv_paths.proofs.full.extends.Goals as goal

pub returns-in-Un : goal.returns-in-Un
returns-in-Un c = λ S. extends-Un S c.args.e.now _ _ c.in-Un.is ∙ ap not (sym c.keeps_width.ensures)

pub returns-in-Bin : goal.returns-in-Bin
returns-in-Bin c = λ S. extends-Bin S c.args.e.now _ _ _ c.in-Bin.is ∙ ap not (sym c.keeps_width-in-Bin.ensures)

pub returns-in-Div : goal.returns-in-Div
returns-in-Div c = λ S. extends-Div S c.args.e.now _ _ c.in-Div.is

pub returns-in-Rem : goal.returns-in-Rem
returns-in-Rem c = λ S. extends-Rem S c.args.e.now _ _ c.in-Rem.is

pub returns-in-Cond : goal.returns-in-Cond
returns-in-Cond c = λ S. extends-Cond S c.args.e.now _ _ _ c.in-Cond.is

pub returns-in-Lit : goal.returns-in-Lit
returns-in-Lit c = λ S. extends-Lit S c.args.e.now _ c.in-Lit.is

pub returns-in-Const : goal.returns-in-Const
returns-in-Const c = λ S. extends-Const S c.args.e.now _ _ c.in-Const.is

pub returns-in-Signal : goal.returns-in-Signal
returns-in-Signal c = λ S. extends-Signal S c.args.e.now _ _ c.in-Signal.is

pub returns-in-Cat : goal.returns-in-Cat
returns-in-Cat c = λ S. extends-Cat S c.args.e.now _ c.in-Cat.is

pub returns-in-Rep : goal.returns-in-Rep
returns-in-Rep c = λ S. extends-Rep S c.args.e.now _ _ c.in-Rep.is

pub returns-in-Cast : goal.returns-in-Cast
returns-in-Cast c = λ S. extends-Cast S c.args.e.now _ _ c.in-Cast.is
