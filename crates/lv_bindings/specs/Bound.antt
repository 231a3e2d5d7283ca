-- The scopes that the names, signals and symbols of a text belong to.
use Rattle.std.specs.Prelude.{◌≡◌, Bool, ◌&&◌, List, map}
use Rattle.lv_ast.specs.Names.{Name}
use Rattle.lv_source.specs.Declarations.{Declaration}
use Rattle.lv_source.specs.Scopes.{is_among, is_one_bit_input}
use Rattle.lv_symbols.specs.declared.symbol.Symbol.{Symbol}
use Rattle.lv_symbols.specs.Making.{symbol_of}
use Rattle.lv_symbols.specs.Frames.{Frame, IsScope, constants_in}
use Rattle.lv_bindings.specs.Order.{Outside}

-- the scope has this path and these declarations, it is the top or not, its clocks are those of its inputs of one bit to which a clock is
-- connected, and these are its symbols
pub record IsBound (o : Outside) (ds : List Declaration) (ys : List Symbol) (f : Frame) : Type 0 where
  pub scope : IsScope f
  pub declarations : f.scope.declarations ≡ ds
  pub path : f.scope.path ≡ o.path
  pub top : scope.top ≡ o.top
  pub clocks : (name : Name) → is_among scope.clocks name ≡ (is_one_bit_input (constants_in f) ds name && is_among o.connected name)
  pub symbols : ys ≡ map (symbol_of (constants_in f)) ds

-- in each such scope
pub record InBound (o : Outside) (ds : List Declaration) (ys : List Symbol) (Holds : Frame → Type 0) : Type 0 where
  pub at : (f : Frame) → IsBound o ds ys f → Holds f
