-- What is answered of an expression of a contract.
use Rattle.std.specs.Prelude.{◌≡◌, true, List, [], Contains, ⊤}
use Rattle.lv_ast.specs.declared.expr.Expr.{Expr}
use Rattle.lv_source.specs.Meaning.{read_expr}
use Rattle.lv_flat.specs.declared.expr.FlatExpr.{FlatExpr}
use Rattle.lv_flat.specs.Signals.{Signals}
use Rattle.lv_flat.specs.Judged.{reading, is_good}
use Rattle.lv_resolve.specs.declared.error.ResolveError.{ResolveError}
use Rattle.lv_resolve.specs.declared.error.ResolveError.TheVariants as x
use Rattle.lv_resolve.specs.Forms.{has_operands}
use Rattle.lv_settles.specs.Rules.{signals_in}
use Rattle.lv_top_names.specs.TopNames.{names_in, unknown_in, not_constant_in, zero_divisor_in, out_of_range_in}

-- a flat tree with the reading of the expression, good where each operator has its operands; no node has a fault
pub record IsInTop (S : Signals) (e : Expr) (flat : FlatExpr) : Type 0 where
  pub same : reading S flat ≡ read_expr (names_in (signals_in S)) e
  pub good : has_operands e ≡ true → is_good S flat ≡ true
  pub unknown : unknown_in (signals_in S) e ≡ []
  pub unfixed : not_constant_in (signals_in S) e ≡ []
  pub zero : zero_divisor_in (signals_in S) e ≡ []
  pub range : out_of_range_in (signals_in S) e ≡ []

-- some node has this fault at this place; want of memory needs none
abbrev pub IsFaultInTop : Signals → Expr → ResolveError → Type 0
IsFaultInTop S e (x.UnknownName p) = Contains (unknown_in (signals_in S) e) p
IsFaultInTop S e (x.NotConstant p) = Contains (not_constant_in (signals_in S) e) p
IsFaultInTop S e (x.ZeroDivisor p) = Contains (zero_divisor_in (signals_in S) e) p
IsFaultInTop S e (x.Range p) = Contains (out_of_range_in (signals_in S) e) p
IsFaultInTop S e x.NoMemory = ⊤
