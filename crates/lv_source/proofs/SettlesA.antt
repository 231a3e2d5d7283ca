-- The register that toggles has a settled valuation for each state and input.
use Rattle.std.specs.Fmt.{digits}
use Rattle.lv_source.specs.Meaning.{read_expr, read_select}
use Rattle.lv_source.specs.Effect.{pieces, executes, turns, turns_from}
use Rattle.lv_source.specs.Flow.{flow}
use Rattle.lv_source.specs.Declarations.{labels}
use Rattle.lv_source.specs.Parts.{as_target, parts, scopes_of, signals_of}
use Rattle.lv_source.specs.Sites.{walk, walk_select, target_sites}
use Rattle.lv_source.specs.Standing.{standing}
use Rattle.std.proofs.Common.{◌≡◌, inl, inr, ℕ, zero, suc, ◌<◌, ◌^◌, true, false, ◌||◌, List, [], ◌∷◌, arith, ap, ◌∙◌, sym, Some}
use Rattle.std.specs.Prelude.{codes, bytes_eq, slice_get}
use Rattle.std.specs.List.{list_any}
use Rattle.lv_ast.specs.Names.{Name}
use Rattle.lv_source.specs.Names.{Declared, Valuation}
use Rattle.lv_source.specs.Places.{Bit, cells, has_bit}
use Rattle.lv_source.specs.Parts.{Part, signals_of, parts, drives, is_clocked, width_at, registers_of}
use Rattle.lv_source.specs.Settled.{HasApartSignals, IsSettled, SameOn, SameInputs}
use Rattle.lv_source.proofs.Tests.{same_name, or-split}
use Rattle.lv_source.proofs.Facts.{some_same}
use Rattle.lv_source.proofs.Exists.{exists}
use Rattle.lv_source.proofs.DesignA.{design}
use Rattle.lv_source.proofs.LegalA.{design_is_legal}
use Rattle.lv_source.specs.Legal.{places_of}

-- no name is both
abbrev first_or : ℕ → List ℕ → ℕ
first_or n [] = n
first_or n (x ∷ xs) = x

one_name : (m n name : Name) → (bytes_eq name m || false) ≡ true → (bytes_eq name n || false) ≡ true → m ≡ n
one_name m n name h k =
    let first : name ≡ m = elim (or-split (bytes_eq name m) false h) [ inl e ↦ same_name name m e | inr e ↦ cc ] in
    let second : name ≡ n = elim (or-split (bytes_eq name n) false k) [ inl e ↦ same_name name n e | inr e ↦ cc ] in
    sym first ∙ second

unlike : codes "d" ≡ codes "q" → ⊥
unlike h = let e : ◌≡◌ {A = ℕ} 100 113 = ap (first_or 0) h in omega arith

is_in : (x y : Declared) (name : Name) → Some x ≡ Some y → list_any (bytes_eq name) (cells y) ≡ true → list_any (bytes_eq name) (cells x) ≡ true
is_in x y name e h = ap (λ (z : Declared). list_any (bytes_eq name) (cells z)) (some_same x y e) ∙ h

apart : (i j : ℕ) (x y : Declared) (name : Name) → slice_get (signals_of design) i ≡ Some x → slice_get (signals_of design) j ≡ Some y →
    list_any (bytes_eq name) (cells x) ≡ true → list_any (bytes_eq name) (cells y) ≡ true → x ≡ y
unfolding read_expr read_select pieces executes turns turns_from flow labels as_target walk walk_select target_sites standing digits parts scopes_of signals_of places_of
apart zero zero x y name e f h k = sym (some_same _ x e) ∙ some_same _ y f
apart zero (suc zero) x y name e f h k = absurd (unlike (one_name (codes "d") (codes "q") name (is_in _ x name e h) (is_in _ y name f k)))
apart (suc zero) zero x y name e f h k = absurd (unlike (one_name (codes "d") (codes "q") name (is_in _ y name f k) (is_in _ x name e h)))
apart (suc zero) (suc zero) x y name e f h k = sym (some_same _ x e) ∙ some_same _ y f
apart (suc (suc i)) j x y name e f h k = cc
apart zero (suc (suc j)) x y name e f h k = cc
apart (suc zero) (suc (suc j)) x y name e f h k = cc

within : (k : ℕ) (p : Part) (b : Bit) → slice_get (parts design) k ≡ Some p → is_clocked p ≡ false → has_bit (drives p) b ≡ true → b.place < width_at design b.name
unfolding read_expr read_select pieces executes turns turns_from flow labels as_target walk walk_select target_sites standing digits parts scopes_of signals_of places_of
within zero p b e c h = absurd (let t : is_clocked p ≡ true = ap is_clocked (sym (some_same _ p e)) in cc)
within (suc k) p b e c h = cc

signals_apart : HasApartSignals design
signals_apart = record { apart = apart; within = within }

pub settles : (s : Valuation) → ((name : Name) → s name < 2 ^ width_at design name) → (v : Valuation) × IsSettled design v × SameOn (registers_of design) v s × SameInputs design v s
settles s fits = exists design design_is_legal signals_apart s fits
