-- What a `case` asks for of an expression, by its first node.
use Rattle.std.proofs.Common.{◌≡◌, refl}
use Rattle.lv_ast.specs.declared.expr.Expr.{Expr}
use Rattle.lv_ast.specs.declared.expr.Expr.TheVariants as e
use Rattle.lv_source.specs.Names.{Names}
use Rattle.lv_source.specs.Effect.{literal_of}
use Rattle.lv_source.specs.Flow.{is_extended}
use Rattle.lv_source.specs.Sites.{walk}
use Rattle.lv_resolve.specs.Forms.{walk_literal, walk_extends}

pub literal-is : (names : Names) (x : Expr) → walk_literal (walk names x) ≡ literal_of x
unfolding walk
literal-is names (e.Lit l) = refl
literal-is names (e.Name' path n ss) = refl
literal-is names (e.Un' op n a) = refl
literal-is names (e.Bin' op n a m b) = refl
literal-is names (e.Div' n a m b) = refl
literal-is names (e.Rem' n a m b) = refl
literal-is names (e.Cond' n c m a k b) = refl
literal-is names (e.Cat' n es) = refl
literal-is names (e.Rep' n a m es) = refl
literal-is names (e.Cast' signed n a) = refl

pub extends-is : (names : Names) (x : Expr) → walk_extends (walk names x) ≡ is_extended x
unfolding walk
extends-is names (e.Lit l) = refl
extends-is names (e.Name' path n ss) = refl
extends-is names (e.Un' op n a) = refl
extends-is names (e.Bin' op n a m b) = refl
extends-is names (e.Div' n a m b) = refl
extends-is names (e.Rem' n a m b) = refl
extends-is names (e.Cond' n c m a k b) = refl
extends-is names (e.Cat' n es) = refl
extends-is names (e.Rep' n a m es) = refl
extends-is names (e.Cast' signed n a) = refl
