-- Tokens with their bytes in place of a slice, so that a grammar speaks of tokens over any text.
use Rattle.std.specs.Prelude.{ℕ, List, [], ◌∷◌, map}
use Rattle.lv_ast.specs.Tokens.{token_bytes, tail}
use Rattle.lv_ast.specs.declared.tokens.Kind.{Kind}
use Rattle.lv_ast.specs.declared.tokens.Kind.TheVariants as k
use Rattle.lv_ast.specs.declared.tokens.Token.{Token}
use Rattle.lv_ast.specs.declared.stmt.Ident.{Ident}

pub record Lexeme : Type 0 where
  pub kind : Kind
  pub bytes : List ℕ
  pub start : ℕ
  pub end : ℕ

abbrev pub lexeme : List ℕ → Token → Lexeme
lexeme text t = record { kind = t.kind; bytes = token_bytes text t; start = t.start; end = t.end }

abbrev pub lexemes : List ℕ → List Token → List Lexeme
lexemes text ts = map (lexeme text) ts

-- an escaped name is without its backslash
abbrev pub name_by : Kind → List ℕ → List ℕ
name_by k.Escaped bytes = tail bytes
name_by _ bytes = bytes

-- a name where it is declared or used
abbrev pub ident_of : Lexeme → Ident
ident_of t = record { name = name_by t.kind t.bytes; place = t.start }

-- the first of them
abbrev pub head : List Lexeme → Lexeme
head [] = record { kind = k.Line; bytes = []; start = 0; end = 0 }
head (t ∷ ts) = t

-- its place
abbrev pub place_of : List Lexeme → ℕ
place_of ts = (head ts).start
