-- The value of a constant expression where it stands, at the greater of its own width and that of the side that takes it.
use Rattle.std.specs.Prelude.{◌≡◌, ℕ, max, Bool, true, List, Result, IfOk, IfErr}
use Rattle.lv_ast.specs.declared.expr.Expr.{Expr}
use Rattle.lv_ast.specs.declared.expr.Path.{Path}
use Rattle.lv_source.specs.Names.{Here, Valuation}
use Rattle.lv_source.specs.Meaning.{own_width, own_signed, value_of, is_constant}
use Rattle.lv_source.specs.Sites.{Site, expr_sites}
use Rattle.lv_const.specs.declared.error.ConstError.{ConstError}
use Rattle.lv_const.specs.Answers.{Told, Sound, Divides}
use Rattle.lv_scopes.specs.declared.number.Number.{Number}

-- no fault at any of these nodes: each name is a constant that is declared before, nothing is out of range, and nothing is divided by 0
pub record AreClean (early : Path → Bool) (sites : List Site) : Type 0 where
  pub sound : Sound early sites
  pub divides : Divides sites

pub record IsNumber (here : Here) (least : ℕ) (x : Expr) (n : Number) : Type 0 where
  pub width : n.word.width ≡ max least (own_width here.names x)
  pub signed : n.signed ≡ own_signed here.names x
  pub value : (v : Valuation) → n.word.value ≡ value_of here.names x n.word.width n.signed v
  pub constant : is_constant here.names x ≡ true
  pub clean : AreClean here.early (expr_sites true here.names least x)

pub record IsNumberAnswer (here : Here) (least : ℕ) (x : Expr) (r : Result Number ConstError) : Type 0 where
  pub right : IfOk r (IsNumber here least x)
  pub wrong : IfErr r (Told here.early (expr_sites true here.names least x))
