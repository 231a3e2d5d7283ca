-- The place of a turn: its names by the constants with the index.
use Rattle.std.proofs.Common.{◌≡◌, ◌⊎◌, inl, inr, ℕ, Bool, true, false, ◌&&◌, not, List, refl, sym, ap, ◌∙◌, subst, Option, Some, None, if◌then◌else◌}
use Rattle.std.specs.Prelude.{bytes_eq, map, cond}
use Rattle.lv_ast.specs.declared.expr.Path.{Path}
use Rattle.lv_ast.specs.Names.{Name, has_no_steps, alone}
use Rattle.lv_source.specs.Names.{Names, Here, Declared, Sort, known, Input, Net, Variable, Clock, Constant, Index, Other, no_declaration}
use Rattle.lv_source.specs.Constants.{last_value}
use Rattle.lv_source.specs.Effect.{with_index}
use Rattle.lv_source.specs.Parts.{is_declared_sort}
use Rattle.lv_source.specs.ScopeRules.{is_none, is_index_of}
use Rattle.lv_source.specs.Standing.{at_turn}
use Rattle.lv_source.proofs.Tests.{same_name, and-left, and-right}
use Rattle.lv_const.specs.declared.consts.Entry.{Entry}
use Rattle.lv_const.specs.Constants.{names_of, declared_entry}
use Rattle.lv_const.specs.Wherever.{AreDeclared}
use Rattle.lv_const.proofs.Numbers.{split}
use Rattle.lv_scopes.proofs.TurnLaws.{turn_declared}
use Rattle.lv_flat.specs.Signals.{Signals, signal_at}
use Rattle.lv_resolve.specs.Places.{AreNames, with_all}
use Rattle.lv_resolve.specs.Indices.{AreIndices, IsAt, is_genvar}
use Rattle.lv_resolve.proofs.LateLaws.{AreBound, are-bound}

-- whether a path is this name alone
abbrev pub is_alone : Name → Path → Bool
is_alone index p = has_no_steps p && bytes_eq p.name index

-- what it is declared as there is no signal and no clock
pub record IsHidden (here : Here) (index : Name) : Type 0 where
  pub each : (p : Path) → is_alone index p ≡ true → is_declared_sort (known (here.names p)).sort ≡ false

module _ (S : Signals) (find : Path → Option ℕ) (all early : Names) (here : Here) (index : Name) (ok : AreBound S find all early here)
    (hidden : IsHidden here index) (k : ℕ) where
  found-there : (p : Path) (n : ℕ) → find p ≡ Some n → (at_turn here index k).names p ≡ Some (signal_at S n)
  found-there p n h = elim (split (is_alone index p)) [
    | inl b ↦
        let e : is_declared_sort (known (here.names p)).sort ≡ true = ap (λ o. is_declared_sort (known o).sort) (ok.found p n h) ∙ ok.declared p n h in
        let f : false ≡ true = sym (hidden.each p b) ∙ e in cc
    | inr b ↦ rw b (ok.found p n h)
  ]

  absent-there : (p : Path) → find p ≡ None → is_declared_sort (known ((at_turn here index k).names p)).sort ≡ false
  absent-there p h = elim (split (is_alone index p)) [
    | inl b ↦ rw b refl
    | inr b ↦ rw b (ok.absent p h)
  ]

  constants-there : AreDeclared (with_index all index k) (with_all (at_turn here index k))
  constants-there = record {
    same = λ p. elim (split (is_alone index p)) [
      | inl b ↦ rw b refl
      | inr b ↦ rw b (ok.constants.same p)
    ];
  }

  pub turn-bound : AreBound S find (with_index all index k) (with_index early index k) (at_turn here index k)
  turn-bound = record {
    found = found-there;
    declared = ok.declared;
    absent = absent-there;
    constants = constants-there;
    ahead = turn_declared early here index k ok.ahead;
  }

-- ---- an index outside of its own loop

undeclared : (genvar : Bool) (o : Option Declared) → is_index_of genvar o ≡ true → is_declared_sort (known o).sort ≡ false
undeclared genvar None h = refl
undeclared genvar (Some d) h = elim d.sort as (λ z. is_index_of genvar (Some (record d { sort = z })) ≡ true → is_declared_sort z ≡ false) [
  | Input ↦ λ k. cc
  | Net ↦ λ k. cc
  | Variable ↦ λ k. cc
  | Clock ↦ λ k. cc
  | Constant n ↦ λ k. refl
  | Index g ↦ λ k. refl
  | Other ↦ λ k. refl
] h

module _ (indices : Name → Option Bool) (all : List Entry) (here : Here) (ok : AreIndices indices all here) (index : Name) (genvar : Bool) where
  abbrev said : Name → Option Declared
  said n = last_value (map declared_entry all) n

  names-alone : (p : Path) → has_no_steps p ≡ true → names_of all p ≡ said p.name
  names-alone p h = ap (λ b. if b then said p.name else None) h

  same-index : (p : Path) → has_no_steps p ≡ true → p.name ≡ index → is_index_of genvar (here.names p) ≡ is_index_of genvar (here.names (alone index))
  same-index p h e =
      ok.same p genvar h ∙ ap (λ o. is_genvar genvar (indices p.name) && is_none o) (names-alone p h) ∙
      ap (λ n. is_genvar genvar (indices n) && is_none (said n)) e ∙ sym (ok.same (alone index) genvar refl)

  pub hidden-index : is_index_of genvar (here.names (alone index)) ≡ true → IsHidden here index
  hidden-index h = record {
    each = λ p b. undeclared genvar (here.names p)
        (same-index p (and-left (has_no_steps p) (bytes_eq p.name index) b)
        (same_name p.name index (and-right (has_no_steps p) (bytes_eq p.name index) b)) ∙ h);
  }

and-never : (b : Bool) → (b && false) ≡ false
and-never true = refl
and-never false = refl

abbrev index-declared : Name → ℕ → Declared
index-declared name value = record { path = name; bounds = record { left = 31; right = 0 }; ranged = true; signed = true; array = None; sort = Constant value }

-- the index is a constant in its turn, and the other names are what they were
picked : (b : Bool) (g : Bool) (d : Declared) (o n m : Option Declared) (z : Bool) → is_index_of g (Some d) ≡ false → m ≡ cond b (Some d) n →
    is_index_of g o ≡ (z && is_none n) → is_index_of g (cond b (Some d) o) ≡ (z && is_none m)
picked true g d o n m z h e k = h ∙ sym (ap (λ c. z && is_none c) e ∙ and-never z)
picked false g d o n m z h e k = k ∙ sym (ap (λ c. z && is_none c) e)

pub turn-indices : (indices : Name → Option Bool) (all new : List Entry) (here : Here) (index : Name) (k : ℕ) → AreIndices indices all here →
    names_of new ≡ with_index (names_of all) index k → AreIndices indices new (at_turn here index k)
turn-indices indices all new here index k ok e = record {
  same = λ p g h. picked (is_alone index p) g (index-declared index k) (here.names p) (names_of all p) (names_of new p) (is_genvar g (indices p.name)) refl
      (ap (λ f. f p) e) (ok.same p g h);
}

-- ---- the place

pub turn-at : (S : Signals) (find : Path → Option ℕ) (indices : Name → Option Bool) (all early : List Entry) (here : Here) (index : Name) (genvar : Bool) →
    is_index_of genvar (here.names (alone index)) ≡ true → IsAt S find indices all early here → (k : ℕ) (new_all new_early : List Entry) →
    names_of new_all ≡ with_index (names_of all) index k → names_of new_early ≡ with_index (names_of early) index k →
    IsAt S find indices new_all new_early (at_turn here index k)
turn-at S find indices all early here index genvar h ok k new_all new_early e f =
    let b : AreBound S find (with_index (names_of all) index k) (with_index (names_of early) index k) (at_turn here index k) =
    turn-bound S find (names_of all) (names_of early) here index (are-bound S find all early here ok.names) (hidden-index indices all here ok.indexed index genvar h) k in record {
      names = record {
        found = b.found;
        declared = b.declared;
        absent = b.absent;
        constants = subst (λ ns. AreDeclared ns (with_all (at_turn here index k))) (sym e) b.constants;
        ahead = subst (λ ns. AreDeclared ns (at_turn here index k)) (sym f) b.ahead;
      };
      indexed = turn-indices indices all new_all here index k ok.indexed e;
    }
