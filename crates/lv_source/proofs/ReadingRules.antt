-- Own width, own sign, value, constancy and reads of each kind of node, as rewriting rules.
use Rattle.std.proofs.Common.{◌≡◌, Bool, List, [], ◌∷◌, map}
use Rattle.lv_bits.specs.declared.op.Op.{Op}
use Rattle.lv_ast.specs.declared.expr.Literal.{Literal}
use Rattle.lv_ast.specs.declared.expr.Path.{Path}
use Rattle.lv_ast.specs.declared.expr.Expr.{Expr}
use Rattle.lv_ast.specs.declared.expr.Expr.TheVariants as e
use Rattle.lv_ast.specs.declared.expr.Expr.TheOpen.{Select-F}
use Rattle.lv_ast.specs.declared.expr.Select.{Select}
use Rattle.lv_ast.specs.declared.expr.Select.TheVariants as s
use Rattle.lv_source.specs.Names.{Names, known}
use Rattle.lv_source.specs.Values.{literal, unary, binary, chosen, concatenated, replicated, cast, divided, quotient, remainder}
use Rattle.lv_source.specs.Meaning.{Reading, Choice, reading, meanings, named, read_step, choice, read_expr, read_select}
use Rattle.lv_ast.proofs.ExprFolds as fold

module _ (names : Names) where
  pub read-Lit : (l : Literal) → read_expr names (e.Lit l) ≡ reading (literal l) []
  unfolding read_expr
  read-Lit l = fold.fold_expr-Lit Reading Choice (read_step names) choice l

  pub read-Name : (path : Path) (ss : List Select) → read_expr names (e.Name path ss) ≡ named (known (names path)) (map (read_select names) ss)
  unfolding read_expr read_select
  read-Name path ss = fold.fold_expr-Name Reading Choice (read_step names) choice path ss

  pub read-Un : (op : Op) (a : Expr) → read_expr names (e.Un op a) ≡ reading (unary op (read_expr names a).meaning) (read_expr names a ∷ [])
  unfolding read_expr
  read-Un op a = fold.fold_expr-Un Reading Choice (read_step names) choice op a

  pub read-Bin : (op : Op) (a b : Expr) →
      read_expr names (e.Bin op a b) ≡ reading (binary op (read_expr names a).meaning (read_expr names b).meaning) (read_expr names a ∷ read_expr names b ∷ [])
  unfolding read_expr
  read-Bin op a b = fold.fold_expr-Bin Reading Choice (read_step names) choice op a b

  pub read-Div : (a b : Expr) →
      read_expr names (e.Div a b) ≡ reading (divided quotient (read_expr names a).meaning (read_expr names b).meaning) (read_expr names a ∷ read_expr names b ∷ [])
  unfolding read_expr
  read-Div a b = fold.fold_expr-Div Reading Choice (read_step names) choice a b

  pub read-Rem : (a b : Expr) →
      read_expr names (e.Rem a b) ≡ reading (divided remainder (read_expr names a).meaning (read_expr names b).meaning) (read_expr names a ∷ read_expr names b ∷ [])
  unfolding read_expr
  read-Rem a b = fold.fold_expr-Rem Reading Choice (read_step names) choice a b

  pub read-Cond : (c a b : Expr) →
      read_expr names (e.Cond c a b) ≡
      reading (chosen (read_expr names c).meaning (read_expr names a).meaning (read_expr names b).meaning) (read_expr names c ∷ read_expr names a ∷ read_expr names b ∷ [])
  unfolding read_expr
  read-Cond c a b = fold.fold_expr-Cond Reading Choice (read_step names) choice c a b

  pub read-Cat : (es : List Expr) →
      read_expr names (e.Cat es) ≡ reading (concatenated (meanings (map (read_expr names) es))) (map (read_expr names) es)
  unfolding read_expr
  read-Cat es = fold.fold_expr-Cat Reading Choice (read_step names) choice es

  pub read-Rep : (n : Expr) (es : List Expr) →
      read_expr names (e.Rep n es) ≡
      reading (replicated (read_expr names n).meaning (meanings (map (read_expr names) es))) (read_expr names n ∷ map (read_expr names) es)
  unfolding read_expr
  read-Rep n es = fold.fold_expr-Rep Reading Choice (read_step names) choice n es

  pub read-Cast : (signed : Bool) (a : Expr) → read_expr names (e.Cast signed a) ≡ reading (cast signed (read_expr names a).meaning) (read_expr names a ∷ [])
  unfolding read_expr
  read-Cast signed a = fold.fold_expr-Cast Reading Choice (read_step names) choice signed a

  pub select-Bit : (a : Expr) → read_select names (s.Bit a) ≡ Select-F.Bit (read_expr names a)
  unfolding read_expr read_select
  select-Bit a = fold.fold_select-Bit Reading Choice (read_step names) choice a

  pub select-Part : (a b : Expr) → read_select names (s.Part a b) ≡ Select-F.Part (read_expr names a) (read_expr names b)
  unfolding read_expr read_select
  select-Part a b = fold.fold_select-Part Reading Choice (read_step names) choice a b

  pub select-Up : (a b : Expr) → read_select names (s.Up a b) ≡ Select-F.Up (read_expr names a) (read_expr names b)
  unfolding read_expr read_select
  select-Up a b = fold.fold_select-Up Reading Choice (read_step names) choice a b

  pub select-Down : (a b : Expr) → read_select names (s.Down a b) ≡ Select-F.Down (read_expr names a) (read_expr names b)
  unfolding read_expr read_select
  select-Down a b = fold.fold_select-Down Reading Choice (read_step names) choice a b

pub ruleset reading_rules = (
  read-Lit,
  read-Name,
  read-Un,
  read-Bin,
  read-Div,
  read-Rem,
  read-Cond,
  read-Cat,
  read-Rep,
  read-Cast,
  select-Bit,
  select-Part,
  select-Up,
  select-Down,
)
