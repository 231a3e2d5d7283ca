-- What it is that a text reads back: its tokens, which the directives leave as they are but for the ends of lines, spell a tree that
-- is the same but for places.
use Rattle.std.specs.Prelude.{◌≡◌, ℕ, ◌^◌, ◌<◌, List, length, None, Bool, IsTrue}
use Rattle.lv_ast.specs.TokenLists.{IsTokenListOf, are_tokens}
use Rattle.lv_ast.specs.Folds.{reading_of}
use Rattle.lv_ast.specs.declared.tokens.Token.{Token}
use Rattle.lv_ast.specs.declared.expr.Expr.{Expr}
use Rattle.lv_exprs.specs.Symbols.{symbols}
use Rattle.lv_exprs.specs.Forms.{Form, IsExpr}
use Rattle.lv_exprs.specs.Forms as forms
use Rattle.lv_exprs.specs.Trees.{tree}
use Rattle.lv_print.specs.Written.{text_of}
use Rattle.lv_print.specs.Expressions.{expr_tokens}
use Rattle.lv_ast.specs.declared.item.Source.{Source}
use Rattle.lv_grammars.specs.Spelling.{IsSpelled}
use Rattle.lv_grammar.specs.Lexemes.{lexemes}
use Rattle.lv_grammar.specs.Shapes.{base}
use Rattle.lv_grammar.specs.Leaves.{all}
use Rattle.lv_grammar.specs.Rules.{source_rule}
use Rattle.lv_print.specs.Sources.{source_tokens}
use Rattle.lv_print.specs.Unplaced as unplaced
use Rattle.lv_print.specs.UnplacedSources as unplaced_source

-- the directives make these tokens of the text's token list, and nothing stops them
pub record IsFoldedOf (text : List ℕ) (tokens : List Token) : Type 0 where
  pub all : List Token
  pub list : IsTokenListOf text all
  pub read : reading_of text all ≡ record { tokens = tokens; uses = 0; stop = None }

-- ---- expressions, with paths or without

-- some list of whole tokens spells it, in a text as memory holds it
pub record IsSpelledExpr (p : Bool) (x : Expr) : Type 0 where
  pub text : List ℕ
  pub tokens : List Token
  pub small : length text < 2 ^ 64
  pub whole : IsTrue (are_tokens text tokens)
  pub form : Form
  pub valid : IsExpr p form
  pub spells : forms.text form ≡ symbols text tokens
  pub tree : tree text form ≡ x

-- the text's tokens spell it
pub record ReadsBackExpr (p : Bool) (x : Expr) (text : List ℕ) : Type 0 where
  pub tokens : List Token
  pub folded : IsFoldedOf text tokens
  pub form : Form
  pub valid : IsExpr p form
  pub spells : forms.text form ≡ symbols text tokens
  pub same : unplaced.expr (tree text form) ≡ unplaced.expr x

-- the canonical text of an expression that some list of tokens spells reads back to it
abbrev pub ExprsReadBack : Type 0
ExprsReadBack = (p : Bool) (x : Expr) → IsSpelledExpr p x → length (text_of (expr_tokens x)) < 2 ^ 64 → ReadsBackExpr p x (text_of (expr_tokens x))

-- ---- whole sources

-- some list of whole tokens spells it, in a text as memory holds it
pub record IsSpelledSource (x : Source) : Type 0 where
  pub text : List ℕ
  pub tokens : List Token
  pub small : length text < 2 ^ 64
  pub whole : IsTrue (are_tokens text tokens)
  pub ending : Bool
  pub spelled : IsSpelled base (all text) source_rule (lexemes text tokens) ending x

-- the text's tokens spell it
pub record ReadsBackSource (x : Source) (text : List ℕ) : Type 0 where
  pub tokens : List Token
  pub folded : IsFoldedOf text tokens
  pub tree : Source
  pub ending : Bool
  pub spelled : IsSpelled base (all text) source_rule (lexemes text tokens) ending tree
  pub same : unplaced_source.source tree ≡ unplaced_source.source x

-- the canonical text of a source that some list of tokens spells reads back to it
abbrev pub SourcesReadBack : Type 0
SourcesReadBack = (x : Source) → IsSpelledSource x → length (text_of (source_tokens x)) < 2 ^ 64 → ReadsBackSource x (text_of (source_tokens x))
