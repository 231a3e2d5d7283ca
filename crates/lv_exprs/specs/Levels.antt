-- How tightly operators bind (IEEE 1364-2005, table 5-4).
use Rattle.std.specs.Prelude.{ℕ, Bool, true, false}
use Rattle.lv_exprs.specs.declared.symbol.Sign.{Sign}
use Rattle.lv_exprs.specs.declared.symbol.Sign.TheVariants as g

-- between two operands, from the weakest; 0 for what can't stand there
abbrev pub level : Sign → ℕ
level g.BarBar = 2
level g.AmpAmp = 3
level g.Bar = 4
level g.Caret = 5
level g.TildeCaret = 5
level g.CaretTilde = 5
level g.Amp = 6
level g.EqualEqual = 7
level g.BangEqual = 7
level g.Less = 8
level g.LessEqual = 8
level g.Greater = 8
level g.GreaterEqual = 8
level g.LessLess = 9
level g.LessLessLess = 9
level g.GreaterGreater = 9
level g.GreaterGreaterGreater = 9
level g.Plus = 10
level g.Minus = 10
level g.Star = 11
level g.Slash = 11
level g.Percent = 11
level _ = 0

-- whether it may stand before an operand
abbrev pub leads : Sign → Bool
leads g.Plus = true
leads g.Minus = true
leads g.Tilde = true
leads g.Bang = true
leads g.Amp = true
leads g.Bar = true
leads g.Caret = true
leads g.TildeAmp = true
leads g.TildeBar = true
leads g.TildeCaret = true
leads g.CaretTilde = true
leads _ = false

-- how many nodes it makes before an operand: unary `+` none, `~&` a `!` and a reduction
abbrev pub weight : Sign → ℕ
weight g.Plus = 0
weight g.TildeAmp = 2
weight g.TildeBar = 2
weight g.TildeCaret = 2
weight g.CaretTilde = 2
weight _ = 1
