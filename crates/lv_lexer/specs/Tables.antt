-- Macros by their names, as the table keeps them.
use Rattle.std.specs.Prelude.{◌≡◌, ℕ, List, Option, Some, None}
use Rattle.std.specs.Str.{bytes_eq}
use Rattle.std.specs.Map.{lookup}
use Rattle.lv_ast.specs.Folds.{Macro, body_of}
use Rattle.lv_ast.specs.declared.tokens.Token.{Token}
use Rattle.lv_lexer.specs.declared.macros.Macros.{Macros}

abbrev pub flat : {X : Type 0} → Option (Option X) → Option X
flat None = None
flat (Some x) = x

abbrev pub body_in : Macros → List ℕ → Option (List Token)
body_in m name = flat (lookup (λ k. bytes_eq name k.items) m.bodies.entries)

-- the table has these macros
abbrev pub Keeps : Macros → List Macro → Type 0
Keeps m ms = (name : List ℕ) → body_in m name ≡ body_of ms name
