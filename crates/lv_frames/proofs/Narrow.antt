-- The widths of declarations without a fault.
use Rattle.std.proofs.Common.{◌≡◌, ℕ, ◌≤◌, arith, Bool, true, false, not, ◌&&◌, List, [], map, refl, sym, ap, ◌∙◌, subst, Option, Some, None}
use Rattle.std.specs.Prelude.{slice_get, nat_le}
use Rattle.std.specs.Option.{option_map}
use Rattle.std.proofs.lemmas.Bool.{leb-true}
use Rattle.std.proofs.lemmas.Option.{slice_get-map}
use Rattle.lv_ast.specs.declared.stmt.Ident.{Ident}
use Rattle.lv_ast.specs.declared.item.Range.{Range}
use Rattle.lv_source.specs.Names.{Names, size}
use Rattle.lv_source.specs.Declarations.{Thing, Direction, Wire, Reg, Parameter, Index, Instance, Label, Declaration}
use Rattle.lv_source.specs.Scopes.{range_bounds, bound_number}
use Rattle.lv_source.specs.ScopeRules.{place_if, is_range, range_fault}
use Rattle.lv_source.specs.NodeRules.{is_bound, is_width}
use Rattle.lv_source.proofs.Tests.{and-left, and-right}
use Rattle.lv_symbols.specs.declared.symbol.Symbol.{Symbol}
use Rattle.lv_symbols.specs.Making.{symbol_of}
use Rattle.lv_symbols.specs.Frames.{Frame, AreSoundIn}
use Rattle.lv_bindings.specs.Made.{IsNarrow, AreNarrow}

none_told : (b : Bool) (place : ℕ) → place_if (not b) place ≡ [] → b ≡ true
none_told true place h = refl
none_told false place h = cc

width_most : (w : ℕ) → is_width w ≡ true → w ≤ 128
width_most w h = leb-true w 128 (and-right (nat_le 1 w) (nat_le w 128) h)

some_is : (x y : Symbol) → Some x ≡ Some y → x ≡ y
some_is x y h = cc

module _ (names : Names) where
  range_most : (range : Option Range) → is_range names true range ≡ true → size (range_bounds names range) ≤ 128
  range_most None h = omega arith
  range_most (Some r) h =
      width_most (size (range_bounds names (Some r)))
      (and-right (is_bound (bound_number names r.left) && is_bound (bound_number names r.right)) (is_width (size (range_bounds names (Some r)))) h)

  thing_narrow : (n : Ident) (t : Thing) → range_fault names (record { name = n; thing = t }) ≡ [] → IsNarrow (symbol_of names (record { name = n; thing = t }))
  thing_narrow n (Direction o w s range) h = range_most range (none_told (is_range names true range) n.place h)
  thing_narrow n (Wire s range) h = range_most range (none_told (is_range names true range) n.place h)
  thing_narrow n (Reg s range array) h =
      range_most range (and-left (is_range names true range) (is_range names false array) (none_told (is_range names true range && is_range names false array) n.place h))
  thing_narrow n (Parameter l s r v) h = _
  thing_narrow n (Index g) h = _
  thing_narrow n Instance h = _
  thing_narrow n Label h = _

  narrow_if : (o : Option Declaration) (y : Symbol) → ((d : Declaration) → o ≡ Some d → range_fault names d ≡ []) →
      option_map (symbol_of names) o ≡ Some y → IsNarrow y
  narrow_if None y f h = cc
  narrow_if (Some d) y f h = subst IsNarrow (some_is (symbol_of names d) y h) (thing_narrow d.name d.thing (f d refl))

pub all_narrow : (f : Frame) (ds : List Declaration) (ys : List Symbol) → f.scope.declarations ≡ ds → ys ≡ map (symbol_of f.scope.names) ds →
    AreSoundIn f ds → AreNarrow ys
all_narrow f ds ys same is sound = record {
  each = λ k y h.
      narrow_if f.scope.names (slice_get ds k) y (λ d e. (sound.each k d e).own.allowed)
      (sym (ap (λ zs. slice_get zs k) is ∙ slice_get-map (symbol_of f.scope.names) ds k) ∙ h);
}
