-- What the grammar asks of a token, which languages other readers read for it, and the rules by which it nests.
use Rattle.std.specs.Prelude.{ℕ, List, [], ◌∷◌, Bool, true, false, ◌&&◌, ◌||◌, ◌==◌, bytes_eq, codes}
use Rattle.lv_ast.specs.TokenLists.{kind_number}
use Rattle.lv_ast.specs.declared.tokens.Kind.{Kind}
use Rattle.lv_ast.specs.declared.tokens.Kind.TheVariants as k
use Rattle.lv_ast.specs.declared.expr.Expr.{Expr}
use Rattle.lv_ast.specs.declared.stmt.Target.{Target}
use Rattle.lv_ast.specs.declared.stmt.Stmt.{Stmt}
use Rattle.lv_ast.specs.declared.item.Item.{Item}
use Rattle.lv_grammars.specs.Grammar.{Base}
use Rattle.lv_grammars.specs.Sets.{these, others, Table}
use Rattle.lv_grammar.specs.Lexemes.{Lexeme}

pub data Shape : Type 0 where
  -- the keyword of these bytes
  word : List ℕ → Shape
  -- the mark of these bytes
  mark : List ℕ → Shape
  -- a name, simple or escaped
  name : Shape

abbrev pub is_kind : Kind → Kind → Bool
is_kind k j = kind_number k == kind_number j

abbrev pub fits : Shape → Lexeme → Bool
fits (word s) t = is_kind k.Word t.kind && bytes_eq s t.bytes
fits (mark s) t = is_kind k.Mark t.kind && bytes_eq s t.bytes
fits name t = is_kind k.Name t.kind || is_kind k.Escaped t.kind

abbrev pub same : Shape → Shape → Bool
same (word s) (word r) = bytes_eq s r
same (mark s) (mark r) = bytes_eq s r
same name name = true
same _ _ = false

-- the first of them has this shape
abbrev pub stands : Shape → List Lexeme → Bool
stands p [] = false
stands p (t ∷ ts) = fits p t

-- ---- leaves: expressions

pub data Leaf : Type 0 where
  -- an expression that is no literal with free bits
  value : Leaf
  -- any expression
  label : Leaf

-- a tree, and the place of its first token
pub record Placed (A : Type 0) : Type 0 where
  pub tree : A
  pub place : ℕ

-- ---- rules

pub data Rule : Type 0 where
  target : Rule
  stmt : Rule
  -- an item of a module
  item : Rule
  -- an item of a generate block
  block_item : Rule

abbrev pub tree_of : Rule → Type 0
tree_of target = Placed Target
tree_of stmt = Stmt
tree_of item = Item
tree_of block_item = Item

-- targets, statements and items nest by counts of their own
abbrev pub count_of : Rule → ℕ
count_of target = 0
count_of stmt = 1
count_of item = 2
count_of block_item = 2

abbrev pub base : Base
base = record {
  Token = Lexeme;
  Shape = Shape;
  fits = fits;
  same = same;
  Leaf = Leaf;
  LeafTree = λ l. Placed Expr;
  Rule = Rule;
  RuleTree = tree_of;
  count = count_of;
}

-- ---- what trees begin with, and what may go on behind them

-- no expression begins with one of these
abbrev pub never_leads : List Shape
never_leads =
    mark (codes ")") ∷ mark (codes ";") ∷ mark (codes ",") ∷ mark (codes ":") ∷ mark (codes "]") ∷ mark (codes "}") ∷ mark (codes "=") ∷ mark (codes ".") ∷
    word (codes "default") ∷ word (codes "endcase") ∷ word (codes "else") ∷ []

-- no expression goes on with one of these
abbrev pub never_follows : List Shape
never_follows =
    mark (codes ")") ∷ mark (codes ";") ∷ mark (codes ",") ∷ mark (codes ":") ∷ mark (codes "+:") ∷ mark (codes "-:") ∷ mark (codes "]") ∷ mark (codes "}") ∷
    mark (codes "=") ∷ []

abbrev pub stmt_leads : List Shape
stmt_leads =
    mark (codes ";") ∷ word (codes "begin") ∷ word (codes "if") ∷ word (codes "case") ∷ word (codes "casez") ∷ word (codes "for") ∷ name ∷ mark (codes "{") ∷ []

abbrev pub block_item_leads : List Shape
block_item_leads =
    word (codes "wire") ∷ word (codes "reg") ∷ word (codes "integer") ∷ word (codes "genvar") ∷ word (codes "localparam") ∷ word (codes "assign") ∷
    word (codes "always") ∷ word (codes "for") ∷ name ∷ []

abbrev pub item_leads : List Shape
item_leads = word (codes "input") ∷ word (codes "output") ∷ word (codes "parameter") ∷ word (codes "generate") ∷ block_item_leads

abbrev pub rule_leads : Rule → List Shape
rule_leads target = name ∷ mark (codes "{") ∷ []
rule_leads stmt = stmt_leads
rule_leads item = item_leads
rule_leads block_item = block_item_leads

-- selects may go on behind a target; all else ends by its last token, but for an else
abbrev pub rule_follows : Rule → List Shape
rule_follows target = mark (codes "[") ∷ []
rule_follows stmt = []
rule_follows item = []
rule_follows block_item = []

abbrev pub table : Table base
table = record {
  leaf_first = λ l. others never_leads;
  leaf_next = λ l. others never_follows;
  rule_first = λ r. these (rule_leads r);
  rule_next = λ r. these (rule_follows r);
  tail_mark = word (codes "else");
}
