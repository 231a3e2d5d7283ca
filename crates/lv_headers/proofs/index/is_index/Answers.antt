use Rattle.std.proofs.Common.{◌≡◌, Bool, true, false, not, ◌&&◌, List, Option, Some, None, refl, ap, ◌∙◌, sym}
use Rattle.std.specs.Option.{is_some}
use Rattle.lv_ast.specs.Names.{Name, alone}
use Rattle.lv_source.specs.ScopeRules.{is_none}
use Rattle.lv_const.specs.declared.constant.Const.{Const}
use Rattle.lv_const.specs.declared.consts.Entry.{Entry}
use Rattle.lv_const.specs.Constants.{names_of, declared_of, value_in}
use Rattle.lv_const.proofs.Declared.{entries-say}
use Rattle.lv_resolve.specs.Indices.{is_genvar}
use Rattle.lv_headers.proofs.index.is_index.Goals as goal

none-declared : (name : Name) (o : Option Const) (b : Bool) → is_some o ≡ not b → b ≡ is_none (declared_of name o)
none-declared name None true h = refl
none-declared name None false h = cc
none-declared name (Some c) true h = cc
none-declared name (Some c) false h = refl

said : (es : List Entry) (name : Name) (o : Option Const) (b z : Bool) → o ≡ value_in es name → is_some o ≡ not b → z ≡ true →
    b ≡ (z && is_none (names_of es (alone name)))
said es name o b z e h k =
    none-declared name o b h ∙ (ap (λ v. is_none (declared_of name v)) e ∙ (ap is_none (sym (entries-say es (alone name))) ∙
    sym (ap (λ w. w && is_none (names_of es (alone name))) k)))

genvar-is : (genvar f : Bool) (o : Option Bool) → Some f ≡ o → f ≡ true → genvar ≡ true → is_genvar genvar o ≡ true
genvar-is genvar f o e h k = sym (ap (is_genvar genvar) e) ∙ (ap (λ z. is_genvar genvar (Some z)) h ∙ k)

integer-is : (genvar f : Bool) (o : Option Bool) → Some f ≡ o → f ≡ false → genvar ≡ false → is_genvar genvar o ≡ true
integer-is genvar f o e h k = sym (ap (is_genvar genvar) e) ∙ (ap (λ z. is_genvar genvar (Some z)) h ∙ ap not k)

pub returns-then-genvar : goal.returns-then-genvar
returns-then-genvar g c =
    said c.args.all.now c.args.name.now c.get.result c.is_none.result _ c.get.ensures c.is_none.ensures
    (genvar-is c.args.genvar c.in-Some-true.field-0 _ c.in-Some-true.ensures c.in-Some-true.field-0-test c.if-genvar.true)

pub returns-then-not-genvar : goal.returns-then-not-genvar
returns-then-not-genvar g c =
    said c.args.all.now c.args.name.now c.get-then-not-genvar.result c.is_none-then-not-genvar.result _ c.get-then-not-genvar.ensures c.is_none-then-not-genvar.ensures
    (integer-is c.args.genvar c.in-Some-false.field-0 _ c.in-Some-false.ensures c.in-Some-false.field-0-test c.if-not-genvar.true)
