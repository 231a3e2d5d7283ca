-- How items are read.
use Rattle.std.proofs.Common.{◌≡◌, ℕ, suc, ◌-◌, ◌≤◌, ◌<◌, List, [], ◌∷◌, length, Bool, true, false, ◌||◌, cond, Result, refl, sym, ◌∙◌, ap, subst, arith, codes}
use Rattle.lv_ast.specs.declared.tokens.Token.{Token}
use Rattle.lv_ast.specs.declared.item.Item.{Item}
use Rattle.lv_exprs.specs.declared.error.SyntaxError.{SyntaxError}
use Rattle.lv_exprs.specs.declared.error.SyntaxError.TheVariants as error
use Rattle.lv_grammars.specs.Grammar.{Gram, call, until}
use Rattle.lv_grammars.specs.Spelling.{Limit, most, allows, lowered, inside}
use Rattle.lv_grammars.specs.Sets.{is_good, apart, these, first}
use Rattle.lv_grammar.specs.Lexemes.{Lexeme}
use Rattle.lv_grammar.specs.Shapes.{base, table, stands}
use Rattle.lv_grammar.specs.Shapes as shapes
use Rattle.lv_grammar.specs.Rules as rules
use Rattle.lv_parser.specs.Answers.{from, leads, IsRefused, AnswersItems}
use Rattle.lv_parser.specs.Paths.{Path}
use Rattle.lv_parser.proofs.Fronts.{leads_is}
use Rattle.lv_parser.proofs.Paths.{begin, through, refuse_last, other, absent}
use Rattle.lv_parser.proofs.Directions.{direction_other, direction_absent}
use Rattle.lv_parser.proofs.StatementPaths.{to_first, to_other, ruled, none_taken}

-- ---- how many may nest

suc_of : (n : ℕ) → 0 < n → n ≡ suc (n - 1)
suc_of n h = omega arith

pub item_within : (text : List ℕ) (tokens : List Token) (n : ℕ) (at : ℕ) (v : Result (Item × ℕ) SyntaxError) → 0 < n → AnswersItems (n - 1) text tokens rules.item_rule at v → AnswersItems n text tokens (call shapes.item) at v
item_within text tokens n at v h q = λ d e f g.
    let k : d 2 ≡ most (suc (n - 1)) = g ∙ ap most (suc_of n h) in
    ruled text tokens d shapes.item at (ap allows k) v (q (inside 2 d) e f (ap lowered k))

pub block_item_within : (text : List ℕ) (tokens : List Token) (n : ℕ) (at : ℕ) (v : Result (Item × ℕ) SyntaxError) → 0 < n → AnswersItems (n - 1) text tokens rules.block_item_rule at v → AnswersItems n text tokens (call shapes.block_item) at v
block_item_within text tokens n at v h q = λ d e f g.
    let k : d 2 ≡ most (suc (n - 1)) = g ∙ ap most (suc_of n h) in
    ruled text tokens d shapes.block_item at (ap allows k) v (q (inside 2 d) e f (ap lowered k))

-- ---- what begins an item of a block

abbrev word_stands : List ℕ → List Lexeme → Bool
word_stands s ts = stands (shapes.word s) ts

joined : (w r i g l a y f n : Bool) → ((w || r || i || g || l) || (a || y || f) || n) ≡ (w || (r || (i || (g || (l || (a || (y || (f || (n || false)))))))))
joined true r i g l a y f n = refl
joined false true i g l a y f n = refl
joined false false true g l a y f n = refl
joined false false false true l a y f n = refl
joined false false false false true a y f n = refl
joined false false false false false true y f n = refl
joined false false false false false false true f n = refl
joined false false false false false false false true n = refl
joined false false false false false false false false true = refl
joined false false false false false false false false false = refl

-- the tests in groups say whether one begins there
pub begins_by : (b : Bool) (ts : List Lexeme) →
    b ≡ ((word_stands (codes "wire") ts || word_stands (codes "reg") ts || word_stands (codes "integer") ts || word_stands (codes "genvar") ts || word_stands (codes "localparam") ts) ||
    (word_stands (codes "assign") ts || word_stands (codes "always") ts || word_stands (codes "for") ts) || stands shapes.name ts) → b ≡ leads shapes.block_item ts
begins_by b ts e =
    e ∙ joined (word_stands (codes "wire") ts) (word_stands (codes "reg") ts) (word_stands (codes "integer") ts) (word_stands (codes "genvar") ts) (word_stands (codes "localparam") ts) (word_stands (codes "assign") ts) (word_stands (codes "always") ts) (word_stands (codes "for") ts) (stands shapes.name ts) ∙
    sym (leads_is shapes.block_item ts)

-- ---- the items of a block, up to the keyword that ends it

pub block_good : (looped : Bool) → is_good base table (until (call shapes.block_item) (rules.word (rules.block_end looped))) ≡ true
block_good false = refl
block_good true = refl

pub block_apart : (looped : Bool) → apart base (these (shapes.word (rules.block_end looped) ∷ [])) (first base table (call shapes.block_item)) ≡ true
block_apart false = refl
block_apart true = refl

pub whole_good : (looped : Bool) → is_good base table (rules.block_items (rules.block_end looped)) ≡ true
whole_good false = refl
whole_good true = refl

-- none may nest: only the keyword that ends them may follow
pub block_items_none : {text : List ℕ} {tokens : List Token} {d : ℕ → Limit} (looped : Bool) (at : ℕ) (b : Bool) (e : SyntaxError) → d 2 ≡ most 0 → at ≤ length tokens →
    stands (shapes.word (rules.block_end looped)) (from text tokens at) ≡ false → b ≡ leads shapes.block_item (from text tokens at) → e ≡ cond b (error.Depth at) (error.Syntax at) →
    IsRefused text tokens d (rules.block_items (rules.block_end looped)) at e
block_items_none {text} {tokens} {d} looped at b e z w c l q =
    refuse_last (through (begin (rules.block_items (rules.block_end looped)) at (whole_good looped)))
    (subst (λ x. IsRefused text tokens d (until (call shapes.block_item) (rules.word (rules.block_end looped))) at x) (sym q)
    (none_taken shapes.block_item (shapes.word (rules.block_end looped)) 2 at (block_good looped) refl w (ap allows z) c b l))

-- ---- which item

abbrev from_for : Gram base Item
from_for = rules.or_else rules.generate_loop rules.instance

abbrev from_always : Gram base Item
from_always = rules.or_else rules.always from_for

abbrev from_assign : Gram base Item
from_assign = rules.or_else rules.assign from_always

abbrev from_localparam : Gram base Item
from_localparam = rules.or_else (rules.parameter true (codes "localparam")) from_assign

abbrev from_genvar : Gram base Item
from_genvar = rules.or_else (rules.index true (codes "genvar")) from_localparam

abbrev from_integer : Gram base Item
from_integer = rules.or_else (rules.index false (codes "integer")) from_genvar

abbrev from_reg : Gram base Item
from_reg = rules.or_else rules.reg from_integer

module _ {text : List ℕ} {tokens : List Token} {d : ℕ → Limit} (at : ℕ) where
  pub wire_first : stands (shapes.word (codes "wire")) (from text tokens at) ≡ true → Path text tokens d rules.block_item_rule at rules.wire at (λ y. y)
  wire_first e = to_first (begin rules.block_item_rule at refl) (other text tokens from_reg at (shapes.word (codes "wire")) refl e)

  pub not_wire : stands (shapes.word (codes "wire")) (from text tokens at) ≡ false → Path text tokens d rules.block_item_rule at from_reg at (λ y. y)
  not_wire e = to_other (begin rules.block_item_rule at refl) (absent text tokens rules.wire at (shapes.word (codes "wire")) refl e)

  pub reg_first : Path text tokens d rules.block_item_rule at from_reg at (λ y. y) → stands (shapes.word (codes "reg")) (from text tokens at) ≡ true → Path text tokens d rules.block_item_rule at rules.reg at (λ y. y)
  reg_first w e = to_first w (other text tokens from_integer at (shapes.word (codes "reg")) refl e)

  pub not_reg : Path text tokens d rules.block_item_rule at from_reg at (λ y. y) → stands (shapes.word (codes "reg")) (from text tokens at) ≡ false → Path text tokens d rules.block_item_rule at from_integer at (λ y. y)
  not_reg w e = to_other w (absent text tokens rules.reg at (shapes.word (codes "reg")) refl e)

  pub integer_first : Path text tokens d rules.block_item_rule at from_integer at (λ y. y) → stands (shapes.word (codes "integer")) (from text tokens at) ≡ true → Path text tokens d rules.block_item_rule at (rules.index false (codes "integer")) at (λ y. y)
  integer_first w e = to_first w (other text tokens from_genvar at (shapes.word (codes "integer")) refl e)

  pub not_integer : Path text tokens d rules.block_item_rule at from_integer at (λ y. y) → stands (shapes.word (codes "integer")) (from text tokens at) ≡ false → Path text tokens d rules.block_item_rule at from_genvar at (λ y. y)
  not_integer w e = to_other w (absent text tokens (rules.index false (codes "integer")) at (shapes.word (codes "integer")) refl e)

  pub genvar_first : Path text tokens d rules.block_item_rule at from_genvar at (λ y. y) → stands (shapes.word (codes "genvar")) (from text tokens at) ≡ true → Path text tokens d rules.block_item_rule at (rules.index true (codes "genvar")) at (λ y. y)
  genvar_first w e = to_first w (other text tokens from_localparam at (shapes.word (codes "genvar")) refl e)

  pub not_genvar : Path text tokens d rules.block_item_rule at from_genvar at (λ y. y) → stands (shapes.word (codes "genvar")) (from text tokens at) ≡ false → Path text tokens d rules.block_item_rule at from_localparam at (λ y. y)
  not_genvar w e = to_other w (absent text tokens (rules.index true (codes "genvar")) at (shapes.word (codes "genvar")) refl e)

  pub localparam_first : Path text tokens d rules.block_item_rule at from_localparam at (λ y. y) → stands (shapes.word (codes "localparam")) (from text tokens at) ≡ true → Path text tokens d rules.block_item_rule at (rules.parameter true (codes "localparam")) at (λ y. y)
  localparam_first w e = to_first w (other text tokens from_assign at (shapes.word (codes "localparam")) refl e)

  pub not_localparam : Path text tokens d rules.block_item_rule at from_localparam at (λ y. y) → stands (shapes.word (codes "localparam")) (from text tokens at) ≡ false → Path text tokens d rules.block_item_rule at from_assign at (λ y. y)
  not_localparam w e = to_other w (absent text tokens (rules.parameter true (codes "localparam")) at (shapes.word (codes "localparam")) refl e)

  pub assign_first : Path text tokens d rules.block_item_rule at from_assign at (λ y. y) → stands (shapes.word (codes "assign")) (from text tokens at) ≡ true → Path text tokens d rules.block_item_rule at rules.assign at (λ y. y)
  assign_first w e = to_first w (other text tokens from_always at (shapes.word (codes "assign")) refl e)

  pub not_assign : Path text tokens d rules.block_item_rule at from_assign at (λ y. y) → stands (shapes.word (codes "assign")) (from text tokens at) ≡ false → Path text tokens d rules.block_item_rule at from_always at (λ y. y)
  not_assign w e = to_other w (absent text tokens rules.assign at (shapes.word (codes "assign")) refl e)

  pub always_first : Path text tokens d rules.block_item_rule at from_always at (λ y. y) → stands (shapes.word (codes "always")) (from text tokens at) ≡ true → Path text tokens d rules.block_item_rule at rules.always at (λ y. y)
  always_first w e = to_first w (other text tokens from_for at (shapes.word (codes "always")) refl e)

  pub not_always : Path text tokens d rules.block_item_rule at from_always at (λ y. y) → stands (shapes.word (codes "always")) (from text tokens at) ≡ false → Path text tokens d rules.block_item_rule at from_for at (λ y. y)
  not_always w e = to_other w (absent text tokens rules.always at (shapes.word (codes "always")) refl e)

  pub for_first : Path text tokens d rules.block_item_rule at from_for at (λ y. y) → stands (shapes.word (codes "for")) (from text tokens at) ≡ true → Path text tokens d rules.block_item_rule at rules.generate_loop at (λ y. y)
  for_first w e = to_first w (other text tokens rules.instance at (shapes.word (codes "for")) refl e)

  pub not_for : Path text tokens d rules.block_item_rule at from_for at (λ y. y) → stands (shapes.word (codes "for")) (from text tokens at) ≡ false → Path text tokens d rules.block_item_rule at rules.instance at (λ y. y)
  not_for w e = to_other w (absent text tokens rules.generate_loop at (shapes.word (codes "for")) refl e)

-- ---- which item of a module

abbrev from_generate : Gram base Item
from_generate = rules.or_else rules.generate rules.block_item_rule

abbrev from_parameter : Gram base Item
from_parameter = rules.or_else (rules.parameter false (codes "parameter")) from_generate

module _ {text : List ℕ} {tokens : List Token} {d : ℕ → Limit} (at : ℕ) where
  pub port_first : (stands (shapes.word (codes "input")) (from text tokens at) || stands (shapes.word (codes "output")) (from text tokens at)) ≡ true → Path text tokens d rules.item_rule at rules.port at (λ y. y)
  port_first e = to_first (begin rules.item_rule at refl) (direction_other text tokens from_parameter at refl refl e)

  pub not_port : (stands (shapes.word (codes "input")) (from text tokens at) || stands (shapes.word (codes "output")) (from text tokens at)) ≡ false → Path text tokens d rules.item_rule at from_parameter at (λ y. y)
  not_port e = to_other (begin rules.item_rule at refl) (direction_absent text tokens rules.port at refl e)

  pub parameter_first : Path text tokens d rules.item_rule at from_parameter at (λ y. y) → stands (shapes.word (codes "parameter")) (from text tokens at) ≡ true →
      Path text tokens d rules.item_rule at (rules.parameter false (codes "parameter")) at (λ y. y)
  parameter_first w e = to_first w (other text tokens from_generate at (shapes.word (codes "parameter")) refl e)

  pub not_parameter : Path text tokens d rules.item_rule at from_parameter at (λ y. y) → stands (shapes.word (codes "parameter")) (from text tokens at) ≡ false → Path text tokens d rules.item_rule at from_generate at (λ y. y)
  not_parameter w e = to_other w (absent text tokens (rules.parameter false (codes "parameter")) at (shapes.word (codes "parameter")) refl e)

  pub generate_first : Path text tokens d rules.item_rule at from_generate at (λ y. y) → stands (shapes.word (codes "generate")) (from text tokens at) ≡ true → Path text tokens d rules.item_rule at rules.generate at (λ y. y)
  generate_first w e = to_first w (other text tokens rules.block_item_rule at (shapes.word (codes "generate")) refl e)

  pub not_generate : Path text tokens d rules.item_rule at from_generate at (λ y. y) → stands (shapes.word (codes "generate")) (from text tokens at) ≡ false → Path text tokens d rules.item_rule at rules.block_item_rule at (λ y. y)
  not_generate w e = to_other w (absent text tokens rules.generate at (shapes.word (codes "generate")) refl e)
