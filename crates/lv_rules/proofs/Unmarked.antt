-- Registers are the variables that no combinational block's extent marks.
use Rattle.std.proofs.Common.{◌≡◌, ℕ, ◌+◌, ◌<◌, ◌≤◌, Bool, true, false, not, ◌&&◌, List, [], ◌∷◌, ◌++◌, map, length, get_or, ap, sym, subst, ◌∙◌, inl, inr, arith, refl}
use Rattle.std.proofs.lemmas.Bool.{cases_eq}
use Rattle.std.proofs.lemmas.List.{length-map, length_push, get_or_push, get_or_append_left, get_or-map, ext_get_or}
use Rattle.lv_source.specs.Names.{Declared, Sort, Input, Net, Variable, Clock, Constant, Index, Other, no_declaration, is_signal_sort, is_variable_sort}
use Rattle.lv_source.specs.Places.{whole}
use Rattle.lv_source.specs.Views.{View, is_combinational, view_driven, is_register_view}
use Rattle.lv_source.proofs.Tests.{decide}
use Rattle.std.specs.Prelude.{filter}
use Rattle.std.specs.List.{list_any}
use Rattle.lv_flat.specs.Cells.{AreDistinct, all_cells}
use Rattle.lv_flat.specs.declared.signal.Signal.{Signal}
use Rattle.lv_flat.specs.Signals.{Signals, signal_at, declared, declared_all}
use Rattle.lv_extents.specs.declared.extent.Extent.{Extent}
use Rattle.lv_extents.specs.Extents.{AreExtents}
use Rattle.lv_rules.specs.declared.marks.Class.TheVariants.{Combinational}
use Rattle.lv_rules.specs.Drives.{is_marked, AreUnmarked}
use Rattle.lv_rules.proofs.Gaps.{combinational-is}
use Rattle.lv_rules.proofs.Twice.{IsTable}

-- the first n signals
pub record AreSome (S : Signals) (marks flags : List Bool) (n : ℕ) : Type 0 where
  pub size : length flags ≡ n
  pub each : (s : ℕ) → s < n → is_marked flags s ≡ (is_variable_sort (signal_at S s).sort && not (is_marked marks s))

pub some-more : (S : Signals) (marks flags new : List Bool) (n : ℕ) (flag : Bool) → new ≡ flags ++ flag ∷ [] → flag ≡ (is_variable_sort (signal_at S n).sort && not (is_marked marks n)) →
    AreSome S marks flags n → AreSome S marks new (n + 1)
some-more S marks flags new n flag e f h = record {
  size = ap length e ∙ (length_push flags flag ∙ ap (λ k. k + 1) h.size);
  each = λ s l. elim (cases_eq s n) [
    | inl g ↦ ap (λ z. get_or z s false) e ∙ (get_or_push flags flag false s (h.size ∙ sym g) ∙ (f ∙ ap (λ z. is_variable_sort (signal_at S z).sort && not (is_marked marks z)) (sym g)))
    | inr g ↦ (let m : s < n = omega arith in
        let k : s < length flags = let z : length flags ≡ n = h.size in omega arith in
        ap (λ z. get_or z s false) e ∙ (get_or_append_left flags (flag ∷ []) false s k ∙ h.each s m))
  ];
}

pub sort-here : (ss : List Signal) (k : ℕ) (x : Signal) → k < length ss → x ≡ get_or ss k x → (declared x).sort ≡ (signal_at (declared_all ss) k).sort
sort-here ss k x l e = ap (λ (d : Declared). d.sort) (ap declared e ∙ sym (get_or-map declared ss k x no_declaration l))

variable_signal : (s : Sort) → is_variable_sort s ≡ true → is_signal_sort s ≡ true
variable_signal Input h = cc
variable_signal Net h = cc
variable_signal Variable h = refl
variable_signal Clock h = cc
variable_signal (Constant x) h = cc
variable_signal (Index g) h = cc
variable_signal Other h = cc

register-by : (variable driven mark : Bool) → (variable ≡ true → driven ≡ mark) → (variable && not mark) ≡ (variable && not driven)
register-by false driven mark f = refl
register-by true driven mark f = ap not (sym (f refl))

pub registers-are : (S : Signals) (vs : List View) (xs : List Extent) (marks flags : List Bool) → AreDistinct (all_cells S) → AreExtents S vs xs → IsTable S xs Combinational marks →
    AreUnmarked S marks flags → flags ≡ map (is_register_view vs) S
registers-are S vs xs marks flags distinct h t u =
    ext_get_or false flags (map (is_register_view vs) S) (u.size ∙ sym (length-map S (is_register_view vs))) (λ s l.
    (let m : s < length S = (let z : length flags ≡ length S = u.size in omega arith) in
    let d : Declared = signal_at S s in
    u.each s m ∙ (register-by (is_variable_sort d.sort) (list_any (view_driven (filter (λ v. is_combinational v.way) vs)) (whole d)) (is_marked marks s)
    (λ v. combinational-is S vs xs marks s distinct h t (variable_signal d.sort v)) ∙ sym (get_or-map (is_register_view vs) S s no_declaration false m))))
