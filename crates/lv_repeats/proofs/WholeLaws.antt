-- What is told of the declarations is told of each scope that has them.
use Rattle.std.proofs.Common.{◌≡◌, ℕ, List, [], map, length, sym, ap, ◌∙◌, subst, Some}
use Rattle.std.specs.Prelude.{slice_get, Contains, flat_map}
use Rattle.lv_ast.specs.Names.{Name}
use Rattle.lv_source.specs.Declarations.{Declaration}
use Rattle.lv_source.specs.Parts.{numbered_from}
use Rattle.lv_source.specs.Scopes.{Scope, is_among}
use Rattle.lv_source.specs.ScopeRules.{declared_again, listed_ports}
use Rattle.lv_source.specs.Declarations.{declared_as}
use Rattle.lv_source.proofs.Facts.{at_below}
use Rattle.lv_symbols.specs.declared.symbol.Symbol.{Symbol}
use Rattle.lv_symbols.specs.Making.{symbol_of}
use Rattle.lv_bindings.specs.Grouping.{Numbered}
use Rattle.lv_repeats.specs.Directions.{directions_of}
use Rattle.lv_repeats.specs.Pairs.{NoneAgain, IsAgain}
use Rattle.lv_repeats.specs.Whole.{IsWhole}
use Rattle.lv_repeats.proofs.Directed.{Among}
use Rattle.lv_repeats.proofs.Fitting.{Fits, fits, not_again, one_range_each, is_told}
use Rattle.lv_repeats.proofs.Numbered.{numbered_is}
use Rattle.lv_repeats.proofs.PortLaws.{directions_same}

module _ (s : Scope) (ys : List Symbol) (e : ys ≡ map (symbol_of s.names) s.declarations) (ns : List Name) (l : Among ns (listed_ports s.ports)) where
  told_here : (p : ℕ) → IsAgain ns s.declarations ys p → Contains (flat_map (declared_again s) (numbered_from 0 s.declarations)) p
  told_here p h = is_told s ys e ns h.declaration.name.name (l h.declaration.name.name) p h.told

  fits_here : NoneAgain ns s.declarations ys (length s.declarations) → (x : Numbered) → slice_get s.declarations x.0 ≡ Some x.1 →
      Fits s.names (is_among (listed_ports s.ports) x.1.name.name) (declared_as x.1.name.name s.declarations)
  fits_here h x k =
      subst (λ b. Fits s.names b (declared_as x.1.name.name s.declarations)) (l x.1.name.name)
      (fits s.names s.declarations ys e ns x.1.name.name (h.each x.0 x.1 (at_below s.declarations x.0 x.1 k) k))

  whole_here : NoneAgain ns s.declarations ys (length s.declarations) → directions_of s.ports s.declarations ≡ [] → IsWhole s
  whole_here h d = record {
    once = λ x c. (let k : slice_get s.declarations x.0 ≡ Some x.1 = numbered_is s.declarations x c in not_again s x k (fits_here h x k));
    ranges = λ x c. (let k : slice_get s.declarations x.0 ≡ Some x.1 = numbered_is s.declarations x c in one_range_each s x k (fits_here h x k));
    directions = directions_same s ∙ d;
  }

pub again_told : (s : Scope) (ds : List Declaration) (ys : List Symbol) (ns : List Name) (p : ℕ) → s.declarations ≡ ds → ys ≡ map (symbol_of s.names) s.declarations →
    Among ns (listed_ports s.ports) → IsAgain ns ds ys p → Contains (flat_map (declared_again s) (numbered_from 0 s.declarations)) p
again_told s ds ys ns p d e l h = told_here s ys e ns l p (subst (λ zs. IsAgain ns zs ys p) (sym d) h)

pub is_whole : (s : Scope) (ds : List Declaration) (ys : List Symbol) (ns : List Name) (n : ℕ) → s.declarations ≡ ds → ys ≡ map (symbol_of s.names) s.declarations →
    Among ns (listed_ports s.ports) → length ds ≡ n → NoneAgain ns ds ys n → directions_of s.ports ds ≡ [] → IsWhole s
is_whole s ds ys ns n d e l k h none =
    whole_here s ys e ns l
    (subst (λ m. NoneAgain ns s.declarations ys m) (sym (ap length d ∙ k)) (subst (λ zs. NoneAgain ns zs ys n) (sym d) h))
    (ap (directions_of s.ports) d ∙ none)
