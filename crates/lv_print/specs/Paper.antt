-- A paper on which tokens are written one after another.
use Rattle.std.specs.Prelude.{ℕ, Bool, true, false, codes, if◌then◌else◌, List, [], ◌∷◌, ◌++◌}
use Rattle.lv_ast.specs.declared.tokens.Kind.{Kind}
use Rattle.lv_ast.specs.declared.tokens.Kind.TheVariants as k
use Rattle.lv_print.specs.declared.last.Last.{Last}
use Rattle.lv_print.specs.declared.last.Last.TheVariants as last
use Rattle.lv_print.specs.declared.paper.Paper.{Paper}
use Rattle.lv_print.specs.Written.{Written, mark, ends_line}

abbrev pub last_kind : Kind → Last
last_kind k.Number = last.Number
last_kind k.Escaped = last.Escaped
last_kind _ = last.Other

abbrev pub last_of : Written → Last
last_of w = if ends_line w then last.Line else last_kind w.kind

abbrev pub behind_number : Kind → List ℕ
behind_number k.Based = []
behind_number _ = 32 ∷ []

-- what stands between the last token and one of this kind
abbrev pub gap : Last → Kind → List ℕ
gap last.Start k = []
gap last.Number k = behind_number k
gap last.Escaped k = 32 ∷ []
gap last.Line k = 10 ∷ []
gap last.Other k = 32 ∷ []

-- what stands behind the last token at the end
abbrev pub end_gap : Last → List ℕ
end_gap last.Start = []
end_gap last.Number = []
end_gap last.Escaped = 32 ∷ []
end_gap last.Line = 10 ∷ []
end_gap last.Other = []

unfoldable pub put : Paper → Written → Paper
put p w = record { bytes = (p.bytes ++ gap p.last w.kind) ++ w.bytes; last = last_of w }

unfoldable pub with_tokens : Paper → List Written → Paper
with_tokens p [] = p
with_tokens p (w ∷ ws) = with_tokens (put p w) ws

-- a comma, but not before the first of a list
abbrev pub after_comma : Bool → Paper → Paper
after_comma true p = p
after_comma false p = put p (mark (codes ","))

abbrev pub empty : Paper
empty = record { bytes = []; last = last.Start }
