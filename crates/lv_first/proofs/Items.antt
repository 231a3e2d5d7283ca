-- What the items of a module leave, one after another.
use Rattle.std.proofs.Common.{◌≡◌, ℕ, ◌+◌, ◌<◌, ◌≤◌, Bool, true, false, List, [], ◌∷◌, ◌++◌, length, take, drop, get_or, refl, sym, ◌∙◌, ap, subst, arith, length-append}
use Rattle.std.proofs.lemmas.List.{take_more, take-append-drop}
use Rattle.std.specs.Prelude.{Some, None, slice_get, bytes_eq}
use Rattle.std.specs.List.{IsDistinct, list_all}
use Rattle.std.proofs.lemmas.List.Elements.{All-nil, All-head, All-push}
use Rattle.std.proofs.lemmas.Grind.{flat_map-append}
use Rattle.std.proofs.lemmas.Map.Keys.{IsDistinct-head, IsDistinct-tail, IsDistinct-cons}
use Rattle.std.specs.List.{AllByRecursion}
use Rattle.lv_bits.specs.Values.{bit}
use Rattle.lv_ast.specs.declared.stmt.Stmt.{Stmt}
use Rattle.lv_ast.specs.declared.stmt.Stmt.TheVariants as b
use Rattle.lv_ast.specs.declared.item.RegName.{RegName}
use Rattle.lv_ast.specs.declared.item.Watch.{Watch}
use Rattle.lv_ast.specs.declared.item.Item.{Item}
use Rattle.lv_ast.specs.declared.item.Item.TheVariants as i
use Rattle.lv_ast.specs.Names.{Name}
use Rattle.lv_source.specs.Names.{Names}
use Rattle.lv_first.specs.declared.formula.Formula.{Formula}
use Rattle.lv_first.specs.declared.formula.Formula.TheVariants.{Variable}
use Rattle.lv_first.specs.FirstForm.{scope_of, after, body_in, clocked, is_bit_register, IsAssignment, IsBody, block, single, IsBitItem, declares, clocks}
use Rattle.lv_first.specs.Formulas.{truth, variable}
use Rattle.lv_first.specs.Signals.{env_of, AreNext, IsNext, IsBodyNext, IsClockedBy, edges, AreItemsNext}
use Rattle.lv_first.proofs.Truths.{truth-Variable}
use Rattle.lv_first.proofs.Numbering.{env-bit}
use Rattle.lv_first.proofs.Joins.{slice_get-left}
use Rattle.lv_first.proofs.Assigns.{left_block}

nothing_behind : {A : Type 0} (xs : List A) → xs ++ [] ≡ xs
nothing_behind [] = refl
nothing_behind (x ∷ xs) = ap (λ ys. x ∷ ys) (nothing_behind xs)

no_elements : {A : Type 0} (xs : List A) → length xs ≡ 0 → xs ≡ []
no_elements [] h = refl
no_elements (x ∷ xs) h = absurd (omega arith)

clocked-push : (items : List Item) (x : Item) → clocked (items ++ x ∷ []) ≡ clocked items ++ body_in x
clocked-push items x = flat_map-append body_in items (x ∷ []) ∙ ap (λ ys. clocked items ++ ys) (nothing_behind (body_in x))

-- what the items up to one leave no more than all
pub clocked_front : (items : List Item) (k : ℕ) (x : Item) → k < length items → x ≡ get_or items k x → length (clocked (take k items ++ x ∷ [])) ≤ length (clocked items)
clocked_front items k x within at =
    let e : take k items ++ x ∷ [] ≡ take (k + 1) items = ap (λ z. take k items ++ z ∷ []) at ∙ sym (take_more items k x within) in
    let whole : clocked items ≡ clocked (take (k + 1) items) ++ clocked (drop (k + 1) items) =
    ap clocked (sym (take-append-drop (k + 1) items)) ∙ flat_map-append body_in (take (k + 1) items) (drop (k + 1) items) in
    omega (arith, ap (λ z. length (clocked z)) e, ap length whole, length-append (clocked (take (k + 1) items)) (clocked (drop (k + 1) items)))

recursion_left : (P : Name → Type 0) (xs ys : List Name) → AllByRecursion P (xs ++ ys) → AllByRecursion P xs
recursion_left P [] ys all = tt
recursion_left P (x ∷ xs) ys all = (all.0, recursion_left P xs ys all.1)

variable_value : (f : Formula) (k : ℕ) (env : ℕ → Bool) → f ≡ Variable k → truth f env ≡ env k
unfolding variable
variable_value f k env e = ap (λ z. truth z env) e ∙ ap (λ t. t env) (truth-Variable k)

pub distinct_left : (xs ys : List Name) → IsDistinct bytes_eq (xs ++ ys) → IsDistinct bytes_eq xs
unfolding IsDistinct
distinct_left [] ys d = tt
distinct_left (x ∷ xs) ys d = IsDistinct-cons bytes_eq x xs (recursion_left (λ y. bytes_eq x y ≡ false) xs ys (IsDistinct-head bytes_eq x (xs ++ ys) d)) (distinct_left xs ys (IsDistinct-tail bytes_eq x (xs ++ ys) d))

module _ (Rs Is : List Name) where
  abbrev S : List Name
  S = Rs ++ Is

  abbrev names : Names
  names = scope_of Rs Is

  pub body_of_block : (body : List Stmt) (next : List Formula) → IsNext Rs Is body next → IsBodyNext Rs Is (b.Block None body) next
  body_of_block body next now = record { count = now.count; legal = block body now.assigns; values = now.values }

  pub body_of_one : (s : Stmt) (next : List Formula) → IsNext Rs Is (s ∷ []) next → IsBodyNext Rs Is s next
  body_of_one s next now = record {
    count = now.count;
    legal = single s (All-head (IsAssignment Rs S) s [] now.assigns);
    values = λ v bits k q f named found. sym (left_block Rs Is (s ∷ []) v q) ∙ now.values v bits k q f named found;
  }

  pub begun_next : (clock : Name) (items : List Item) (next : List Formula) → AreItemsNext clock Rs Is items false next → IsNext Rs Is [] next
  begun_next clock items next now =
      let none : clocked items ≡ [] = no_elements (clocked items) now.blocks in
      let values : AreNext Rs Is (after names []) next = subst (λ z. AreNext Rs Is (after names z) next) none now.values in
      record {
        distinct = now.distinct;
        count = now.count;
        assigns = All-nil _;
        values = λ v bits k q f named found. left_block Rs Is [] v q ∙ values v bits k q f named found;
      }

  pub items_with_register : (clock : Name) (items : List Item) (declared : List RegName) (found : Bool) (next : List Formula) →
      list_all is_bit_register declared ≡ true → AreItemsNext clock Rs Is items found next → AreItemsNext clock Rs Is (items ++ i.Reg false None declared ∷ []) found next
  items_with_register clock items declared found next h now =
      let e : clocked (items ++ i.Reg false None declared ∷ []) ≡ clocked items = clocked-push items (i.Reg false None declared) ∙ nothing_behind (clocked items) in
      record {
        distinct = now.distinct;
        count = now.count;
        legal = All-push (IsBitItem clock Rs S) items (i.Reg false None declared) now.legal (declares declared h);
        blocks = ap length e ∙ now.blocks;
        values = subst (λ z. AreNext Rs Is (after names z) next) (sym e) now.values;
      }

  with_edge : (clock : Name) (watch : Watch) (body : Stmt) (place : ℕ) → IsClockedBy watch clock → IsBody Rs S body → IsBitItem clock Rs S (i.Always watch body place)
  with_edge _ _ body place (edges edge) h = clocks edge body place refl h

  pub items_with_block : (clock : Name) (items : List Item) (watch : Watch) (body : Stmt) (place : ℕ) (next new : List Formula) →
      IsClockedBy watch clock → IsBodyNext Rs Is body new → AreItemsNext clock Rs Is items false next →
      AreItemsNext clock Rs Is (items ++ i.Always watch body place ∷ []) true new
  items_with_block clock items watch body place next new edge h now =
      let none : clocked items ≡ [] = no_elements (clocked items) now.blocks in
      let e : clocked (items ++ i.Always watch body place ∷ []) ≡ body ∷ [] = clocked-push items (i.Always watch body place) ∙ ap (λ z. z ++ body ∷ []) none in
      record {
        distinct = now.distinct;
        count = h.count;
        legal = All-push (IsBitItem clock Rs S) items (i.Always watch body place) now.legal (with_edge clock watch body place edge h.legal);
        blocks = ap length e;
        values = subst (λ z. AreNext Rs Is (after names z) new) (sym e) h.values;
      }

  pub items_begin : (clock : Name) (next : List Formula) → IsDistinct bytes_eq S → length next ≡ length Rs →
      ((k : ℕ) (f : Formula) → slice_get next k ≡ Some f → f ≡ Variable k) → AreItemsNext clock Rs Is [] false next
  items_begin clock next d count each = record {
    distinct = distinct_left Rs Is d;
    count = count;
    legal = All-nil _;
    blocks = refl;
    values = λ v bits k q f named found.
        sym (env-bit S v bits k q (slice_get-left Rs Is k q named)) ∙ ap bit (sym (variable_value f k (env_of S v) (each k f found)));
  }
