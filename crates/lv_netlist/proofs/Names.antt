-- Names in a list.
use Rattle.std.proofs.Common.{◌≡◌, ◌≢◌, ℕ, zero, suc, ◌<◌, Bool, true, false, true≢false, ◌||◌, List, [], ◌∷◌, length, refl, sym, ◌∙◌, ap, arith, get_or, IsFalse}
use Rattle.std.specs.Prelude.{◌↔◌}
use Rattle.std.specs.Str.{bytes_eq}
use Rattle.std.specs.List.{list_any}
use Rattle.std.proofs.lemmas.Bool.{false_from_ne_true}
use Rattle.std.proofs.lemmas.Slice.Eq.{bytes_eq-Decides}
use Rattle.lv_netlist.specs.Net.{Net, IsNew}

differ : (x y : List ℕ) → y ≢ x → bytes_eq x y ≡ false
differ x y ne = false_from_ne_true (bytes_eq x y) (λ t. ne (sym ((bytes_eq-Decides x y).0 t)))

neither : (a b : Bool) → (a || b) ≡ false → (a ≡ false) × (b ≡ false)
neither true b h = absurd (true≢false h)
neither false b h = (refl, h)

module _ {X : Type 0} where
  not_found : (es : List (List ℕ × X)) (name : List ℕ) (d : List ℕ × X) → list_any (λ e. bytes_eq name e.0) es ≡ false → (i : ℕ) → i < length es → (get_or es i d).0 ≢ name
  not_found [] name d none i lt same = absurd (omega arith)
  not_found (e ∷ es) name d none zero lt same =
      true≢false (sym ((bytes_eq-Decides name e.0).1 (sym same)) ∙ (neither (bytes_eq name e.0) (list_any (λ e. bytes_eq name e.0) es) none).0)
  not_found (e ∷ es) name d none (suc i) lt same =
      not_found es name d (neither (bytes_eq name e.0) (list_any (λ e. bytes_eq name e.0) es) none).1 i (omega arith) same

  absent : (es : List (List ℕ × X)) (name : List ℕ) (d : List ℕ × X) → ((i : ℕ) → i < length es → (get_or es i d).0 ≢ name) → list_any (λ e. bytes_eq name e.0) es ≡ false
  absent [] name d h = refl
  absent (e ∷ es) name d h =
      ap (λ (b : Bool). b || list_any (λ e. bytes_eq name e.0) es) (differ name e.0 (h 0 (omega arith))) ∙ absent es name d (λ i lt. h (suc i) (omega arith))

pub has_input : (net : Net) (name : List ℕ) (b : Bool) → b ≡ true → b ≡ list_any (λ e. bytes_eq name e.0) net.inputs → IsFalse b ↔ IsNew net name
has_input net name b t h = (λ e. absurd (true≢false (sym t ∙ e)), λ new. h ∙ absent net.inputs name _ new.among_inputs)

pub has_register :
    (net : Net) (name : List ℕ) (b : Bool) → false ≡ list_any (λ e. bytes_eq name e.0) net.inputs → b ≡ list_any (λ e. bytes_eq name e.0) net.registers →
    IsFalse b ↔ IsNew net name
has_register net name b h k = (
  λ e. record { among_inputs = not_found net.inputs name _ (sym h); among_registers = not_found net.registers name _ (sym k ∙ e) },
  λ new. k ∙ absent net.registers name _ new.among_registers,
)
