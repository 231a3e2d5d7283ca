-- What the two calls on constant expressions answer at a place, by the meaning of expressions there.
use Rattle.std.specs.Prelude.{◌≡◌, ℕ, ◌≤◌, max, Bool, true, Option, None, Result, IfOk, IfErr}
use Rattle.lv_bits.specs.Words.{Bits}
use Rattle.lv_ast.specs.declared.expr.Expr.{Expr}
use Rattle.lv_source.specs.Names.{Here, Valuation}
use Rattle.lv_source.specs.Meaning.{own_width, own_signed, value_of, is_constant}
use Rattle.lv_const.specs.declared.error.ConstError.{ConstError}
use Rattle.lv_source.specs.Sites.{Value, walk}
use Rattle.lv_const.specs.Answers.{Told, ToldOwn, Sound, Divides, Counted}

-- its own width and own type; each of its names is a constant that is declared before, nothing in it is out of range, and no count in it, nor a bound
-- or width of a part select, is divided by 0
pub record IsOwnOf (here : Here) (x : Expr) (w : ℕ) (s : Bool) : Type 0 where
  pub width : w ≡ own_width here.names x
  pub signed : s ≡ own_signed here.names x
  pub some : 1 ≤ w
  pub most : w ≤ 128
  pub constant : is_constant here.names x ≡ true
  pub sound : (fixed : Option ℕ) (W : ℕ) (T : Bool) → Sound here.early ((walk here.names x).sites Value fixed W T)
  pub counted : (W : ℕ) (T : Bool) → Counted ((walk here.names x).sites Value None W T)

-- a fault of a node, at whatever width and sign the expression is taken; a division by 0 only where it has to be constant
pub record IsOwnRefusal (here : Here) (x : Expr) (y : ConstError) : Type 0 where
  pub told : (fixed : Option ℕ) (W : ℕ) (T : Bool) → ToldOwn here.early ((walk here.names x).sites Value fixed W T) y

pub record IsOwnAnswer (here : Here) (x : Expr) (r : Result (ℕ × Bool) ConstError) : Type 0 where
  pub right : IfOk r (λ o. IsOwnOf here x o.0 o.1)
  pub wrong : IfErr r (IsOwnRefusal here x)

-- its value at that width and type under each valuation; nothing in it is divided by 0
pub record IsValueOf (here : Here) (x : Expr) (W : ℕ) (T : Bool) (word : Bits) : Type 0 where
  pub width : word.width ≡ W
  pub wide : own_width here.names x ≤ W
  pub value : (v : Valuation) → word.value ≡ value_of here.names x W T v
  pub divides : (fixed : Option ℕ) → Divides ((walk here.names x).sites Value fixed W T)

-- a fault of a node at that width and type, as an assignment of this width takes it
pub record IsValueRefusal (here : Here) (x : Expr) (W : ℕ) (T : Bool) (y : ConstError) : Type 0 where
  pub told : (fixed : Option ℕ) → Told here.early ((walk here.names x).sites Value fixed (max W (own_width here.names x)) T) y

pub record IsValueAnswer (here : Here) (x : Expr) (W : ℕ) (T : Bool) (r : Result Bits ConstError) : Type 0 where
  pub right : IfOk r (IsValueOf here x W T)
  pub wrong : IfErr r (IsValueRefusal here x W T)
