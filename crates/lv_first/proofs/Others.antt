-- What is not of the form that is decided.
use Rattle.std.proofs.Common.{◌≡◌, ℕ, zero, suc, ◌<◌, Bool, true, false, List, [], ◌∷◌, length, get_or, refl, sym, ap, subst, arith}
use Rattle.std.specs.Prelude.{Option, Some, None, Result, Ok, Err, MatchOption, IfOk, All}
use Rattle.std.specs.List.{list_all}
use Rattle.std.proofs.lemmas.Bool.{false≢true}
use Rattle.std.proofs.lemmas.List.Elements.{All-head, All-tail}
use Rattle.lv_bits.specs.declared.op.Op.{Op}
use Rattle.lv_bits.specs.declared.op.Op.TheVariants as o
use Rattle.lv_ast.specs.declared.expr.Path.{Path}
use Rattle.lv_ast.specs.declared.expr.Select.{Select}
use Rattle.lv_ast.specs.declared.expr.Expr.{Expr}
use Rattle.lv_ast.specs.declared.expr.Expr.TheVariants as e
use Rattle.lv_ast.specs.declared.stmt.Ident.{Ident}
use Rattle.lv_ast.specs.declared.stmt.Stmt.{Stmt}
use Rattle.lv_ast.specs.declared.stmt.Stmt.TheVariants as b
use Rattle.lv_ast.specs.declared.item.Range.{Range}
use Rattle.lv_ast.specs.declared.item.RegName.{RegName}
use Rattle.lv_ast.specs.declared.item.Watch.{Watch}
use Rattle.lv_ast.specs.declared.item.Watch.TheVariants as w
use Rattle.lv_ast.specs.declared.item.Item.{Item}
use Rattle.lv_ast.specs.declared.item.Item.TheVariants as i
use Rattle.lv_ast.specs.Names.{Name}
use Rattle.lv_first.specs.FirstForm.{is_in, is_bitwise, is_bit_register, is_bit_declaration, IsBitExpr, name, inverse, joined, IsRegisterName, register, IsAssignment, assigns, IsBody, block, single, IsBitItem, declares, clocks}
use Rattle.lv_first.specs.Signals.{IsClockedBy, edges}
use Rattle.lv_first.proofs.Opened.{same_selects, same_operand, same_left, same_right, same_statements}

-- ---- answers that may be none

pub by_option : {A : Type 0} (N M : Type 0) (P Q : A → Type 0) → (N → M) → ((x : A) → P x → Q x) → (o : Option A) → MatchOption o N P → MatchOption o M Q
by_option N M P Q none each None h = none h
by_option N M P Q none each (Some x) h = each x h

pub by_ok_option : {A E : Type 0} (N M : Type 0) (P Q : A → Type 0) → (N → M) → ((x : A) → P x → Q x) → (r : Result (Option A) E) → IfOk r (λ o. MatchOption o N P) → IfOk r (λ o. MatchOption o M Q)
by_ok_option N M P Q none each (Ok o) h = by_option N M P Q none each o h
by_ok_option N M P Q none each (Err e) h = tt

pub is_none : {A : Type 0} (o : Option A) → ((x : A) → o ≡ Some x → ⊥) → o ≡ None
is_none None n = refl
is_none (Some x) n = absurd (n x refl)

pub by_ok : {A E : Type 0} (P Q : A → Type 0) → ((x : A) → P x → Q x) → (r : Result A E) → IfOk r P → IfOk r Q
by_ok P Q each (Ok x) h = each x h
by_ok P Q each (Err e) h = tt

-- ---- elements

pub all_at : {A : Type 0} (P : A → Type 0) (xs : List A) (k : ℕ) (x : A) → k < length xs → x ≡ get_or xs k x → All P xs → P x
all_at P [] k x within at all = absurd (omega arith)
all_at P (y ∷ xs) zero x within at all = subst P (sym at) (All-head P y xs all)
all_at P (y ∷ xs) (suc k) x within at all = all_at P xs k x (omega arith) at (All-tail P y xs all)

-- ---- expressions

pub not_bitwise : (op : Op) → (op ≡ o.And → ⊥) → (op ≡ o.Or → ⊥) → (op ≡ o.Xor → ⊥) → is_bitwise op ≡ true → ⊥
not_bitwise o.And a b c h = a refl
not_bitwise o.Or a b c h = b refl
not_bitwise o.Xor a b c h = c refl
not_bitwise _ a b c h = false≢true h

module _ (S : List Name) where
  pub unary_parts : (x : Expr) (op : Op) (a : Expr) → IsBitExpr S x → x ≡ e.Un op a → (op ≡ o.Not) × IsBitExpr S a
  unary_parts _ op a (name p plain known) h = absurd (cc)
  unary_parts _ op a (inverse d v) h =
      let same : d ≡ a = same_operand o.Not op d a h in
      let kind : op ≡ o.Not = cc in
      (kind, subst (IsBitExpr S) same v)
  unary_parts _ op a (joined p d c f u v) h = absurd (cc)

  pub binary_parts : (x : Expr) (op : Op) (a c : Expr) → IsBitExpr S x → x ≡ e.Bin op a c → (is_bitwise op ≡ true) × IsBitExpr S a × IsBitExpr S c
  binary_parts _ op a c (name p plain known) h = absurd (cc)
  binary_parts _ op a c (inverse d v) h = absurd (cc)
  binary_parts _ op a c (joined p d g f u v) h =
      let left : d ≡ a = same_left p op d g a c h in
      let right : g ≡ c = same_right p op d g a c h in
      let kind : p ≡ op = cc in
      (subst (λ (q : Op). is_bitwise q ≡ true) kind f, subst (IsBitExpr S) left u, subst (IsBitExpr S) right v)

pub register_parts : (Rs : List Name) (x : Expr) (path : Path) (selects : List Select) → IsRegisterName Rs x → x ≡ e.Name path selects → (selects ≡ []) × (path.steps ≡ []) × (is_in Rs path.name ≡ true)
register_parts Rs _ path selects (register p plain known) h =
    let same : p ≡ path = cc in
    let bare : selects ≡ [] = sym (same_selects p path [] selects h) in
    (bare, subst (λ (q : Path). q.steps ≡ []) same plain, subst (λ (q : Path). is_in Rs q.name ≡ true) same known)

-- ---- statements

module _ (Rs S : List Name) where
  pub block_body : (s : Stmt) (n : Option Ident) (body : List Stmt) → IsBody Rs S s → s ≡ b.Block n body → All (IsAssignment Rs S) body
  block_body _ n body (block ss all) h = let same : ss ≡ body = same_statements None n ss body h in subst (All (IsAssignment Rs S)) same all
  block_body _ n body (single s (assigns p y k plain known value)) h = absurd (cc)

  pub single_body : (s : Stmt) → ((n : Option Ident) (body : List Stmt) → s ≡ b.Block n body → ⊥) → IsBody Rs S s → IsAssignment Rs S s
  single_body _ n (block ss all) = absurd (n None ss refl)
  single_body _ n (single s h) = h

-- ---- items

pub declaration_parts : (signed : Bool) (range : Option Range) (names : List RegName) → is_bit_declaration signed range names ≡ true → (signed ≡ false) × (range ≡ None) × (list_all is_bit_register names ≡ true)
declaration_parts false None names h = (refl, refl, h)
declaration_parts false (Some r) names h = absurd (false≢true h)
declaration_parts true None names h = absurd (false≢true h)
declaration_parts true (Some r) names h = absurd (false≢true h)

module _ (clock : Name) (Rs S : List Name) where
  pub watch_of : (x : Item) (watch : Watch) (body : Stmt) (place : ℕ) → IsBitItem clock Rs S x → x ≡ i.Always watch body place → IsClockedBy watch clock
  watch_of _ watch body place (declares ds all) h = absurd (cc)
  watch_of _ watch body place (clocks edge s k same legal) h =
      let e : w.Posedge edge ≡ watch = cc in
      subst (λ (z : Watch). IsClockedBy z clock) e (subst (IsClockedBy (w.Posedge edge)) same (edges edge))

  pub body_of : (x : Item) (watch : Watch) (body : Stmt) (place : ℕ) → IsBitItem clock Rs S x → x ≡ i.Always watch body place → IsBody Rs S body
  body_of _ watch body place (declares ds all) h = absurd (cc)
  body_of _ watch body place (clocks edge s k same legal) h = let e : s ≡ body = cc in subst (IsBody Rs S) e legal

pub edge_name : (clock : Name) (watch : Watch) (edge : Ident) → IsClockedBy watch clock → watch ≡ w.Posedge edge → edge.name ≡ clock
edge_name _ _ edge (edges d) h = let same : edge ≡ d = cc in ap (λ (z : Ident). z.name) same
