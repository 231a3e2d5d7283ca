-- What a token is to an expression, by its kind and bytes (IEEE 1364-2005, section 3).
use Rattle.std.specs.Prelude.{ℕ, ◌+◌, ◌-◌, ◌^◌, min, true, false, ◌&&◌, if◌then◌else◌, ◌==◌, List, [], ◌∷◌, map, slice_range, bytes_eq, codes}
use Rattle.lv_ast.specs.declared.tokens.Kind.{Kind}
use Rattle.lv_ast.specs.declared.tokens.Kind.TheVariants as k
use Rattle.lv_ast.specs.declared.tokens.Token.{Token}
use Rattle.lv_exprs.specs.declared.symbol.Sign.TheVariants as g
use Rattle.lv_exprs.specs.declared.symbol.Divider.TheVariants as d
use Rattle.lv_exprs.specs.declared.symbol.Symbol.{Symbol}
use Rattle.lv_exprs.specs.declared.symbol.Symbol.TheVariants as t
use Rattle.lv_exprs.specs.Literals.{number_of, based_of}

-- marks of one byte: ( ) [ ] { } , : . ? and operators
abbrev pub one_mark : ℕ → Symbol
one_mark a =
    if a == 40 then t.LeftParen
    else (if a == 41 then t.RightParen
    else (if a == 91 then t.LeftBracket
    else (if a == 93 then t.RightBracket
    else (if a == 123 then t.LeftBrace
    else (if a == 125 then t.RightBrace
    else (if a == 44 then t.Comma
    else (if a == 58 then t.Divider d.Colon
    else (if a == 46 then t.Dot
    else (if a == 63 then t.Question
    else t.Other)))))))))

-- + - * / % ~ ! & | ^ < >
abbrev pub one_sign : ℕ → Symbol
one_sign a =
    if a == 43 then t.Sign g.Plus
    else (if a == 45 then t.Sign g.Minus
    else (if a == 42 then t.Sign g.Star
    else (if a == 47 then t.Sign g.Slash
    else (if a == 37 then t.Sign g.Percent
    else (if a == 126 then t.Sign g.Tilde
    else (if a == 33 then t.Sign g.Bang
    else (if a == 38 then t.Sign g.Amp
    else (if a == 124 then t.Sign g.Bar
    else (if a == 94 then t.Sign g.Caret
    else (if a == 60 then t.Sign g.Less
    else (if a == 62 then t.Sign g.Greater
    else one_mark a)))))))))))

-- <= >= == != && || << >>
abbrev pub two_marks : ℕ → ℕ → Symbol
two_marks a b =
    if (a == 60) && (b == 61) then t.Sign g.LessEqual
    else (if (a == 62) && (b == 61) then t.Sign g.GreaterEqual
    else (if (a == 61) && (b == 61) then t.Sign g.EqualEqual
    else (if (a == 33) && (b == 61) then t.Sign g.BangEqual
    else (if (a == 38) && (b == 38) then t.Sign g.AmpAmp
    else (if (a == 124) && (b == 124) then t.Sign g.BarBar
    else (if (a == 60) && (b == 60) then t.Sign g.LessLess
    else (if (a == 62) && (b == 62) then t.Sign g.GreaterGreater
    else t.Other)))))))

-- ~& ~| ~^ ^~ +: -:
abbrev pub two_signs : ℕ → ℕ → Symbol
two_signs a b =
    if (a == 126) && (b == 38) then t.Sign g.TildeAmp
    else (if (a == 126) && (b == 124) then t.Sign g.TildeBar
    else (if (a == 126) && (b == 94) then t.Sign g.TildeCaret
    else (if (a == 94) && (b == 126) then t.Sign g.CaretTilde
    else (if (a == 43) && (b == 58) then t.Divider d.Up
    else (if (a == 45) && (b == 58) then t.Divider d.Down
    else two_marks a b)))))

-- <<< >>>
abbrev pub three_signs : ℕ → ℕ → ℕ → Symbol
three_signs a b c =
    if (a == 60) && (b == 60) && (c == 60) then t.Sign g.LessLessLess
    else (if (a == 62) && (b == 62) && (c == 62) then t.Sign g.GreaterGreaterGreater else t.Other)

abbrev pub mark_symbol : List ℕ → Symbol
mark_symbol (a ∷ []) = one_sign a
mark_symbol (a ∷ b ∷ []) = two_signs a b
mark_symbol (a ∷ b ∷ c ∷ []) = three_signs a b c
mark_symbol _ = t.Other

abbrev pub system_symbol : List ℕ → Symbol
system_symbol bytes =
    if bytes_eq bytes (codes "$signed") then t.Cast true else (if bytes_eq bytes (codes "$unsigned") then t.Cast false else t.Other)

-- the place behind a byte; a place is a number of 64 bits
abbrev pub behind : ℕ → ℕ
behind place = min (place + 1) (2 ^ 64 - 1)

-- the name of an escaped name is without its backslash; a keyword is no part of an expression
abbrev pub kind_symbol : Kind → List ℕ → ℕ → ℕ → Symbol
kind_symbol k.Name bytes start end = t.Name (record { place = start; start = start; end = end })
kind_symbol k.Escaped bytes start end = t.Name (record { place = start; start = behind start; end = end })
kind_symbol k.System bytes start end = system_symbol bytes
kind_symbol k.Number bytes start end = t.Number (number_of start bytes)
kind_symbol k.Based bytes start end = t.Based (based_of start bytes)
kind_symbol k.Mark bytes start end = mark_symbol bytes
kind_symbol _ bytes start end = t.Other

abbrev pub symbol : List ℕ → Token → Symbol
symbol text token = kind_symbol token.kind (slice_range text token.start token.end) token.start token.end

abbrev pub symbols : List ℕ → List Token → List Symbol
symbols text tokens = map (symbol text) tokens
