-- Scopes with their symbols and clocks.
use Rattle.std.proofs.Common.{◌≡◌, ℕ, Bool, true, false, ◌&&◌, ◌||◌, List, [], ◌∷◌, map, refl, sym, ap, ◌∙◌}
use Rattle.std.specs.Prelude.{bytes_eq, cond, filter}
use Rattle.lv_ast.specs.declared.stmt.Ident.{Ident}
use Rattle.lv_ast.specs.declared.item.Item.{Item}
use Rattle.lv_ast.specs.declared.item.Module.{Module}
use Rattle.lv_ast.specs.Names.{Name}
use Rattle.lv_source.specs.Names.{Names, Here}
use Rattle.lv_source.specs.Declarations.{of_items, of_module}
use Rattle.lv_source.specs.Scopes.{Override, is_among, is_one_bit_input}
use Rattle.lv_source.proofs.Tests.{same_name}
use Rattle.lv_symbols.specs.declared.symbol.Symbol.{Symbol}
use Rattle.lv_symbols.specs.Making.{symbol_of}
use Rattle.lv_symbols.specs.Frames.{Frame, IsScope, AreOnce, module_frame, turn_frame, constants_in}
use Rattle.lv_bindings.specs.Order.{Outside}
use Rattle.lv_bindings.specs.Bound.{IsBound}
use Rattle.lv_frames.proofs.Stands.{module_is, turn_is}

-- ---- names that are kept

none_of : (b : Bool) → false ≡ (b && false)
none_of true = refl
none_of false = refl

module _ (kept : Name → Bool) (name : Name) where
  -- one more, which is kept or not, and is the name or another
  one_more : (k e own : Bool) (x : Name) (xs : List Name) (all : Bool) → bytes_eq name x ≡ e → (e ≡ true → k ≡ own) →
      is_among xs name ≡ (own && all) → is_among (cond k (x ∷ xs) xs) name ≡ (own && (e || all))
  one_more true true true x xs all h f i = ap (λ b. b || is_among xs name) h
  one_more true true false x xs all h f i = let z : true ≡ false = f refl in cc
  one_more true false own x xs all h f i = ap (λ b. b || is_among xs name) h ∙ i
  one_more false true true x xs all h f i = let z : false ≡ true = f refl in cc
  one_more false true false x xs all h f i = i
  one_more false false own x xs all h f i = i

  kept_among : (xs : List Name) → is_among (filter kept xs) name ≡ (kept name && is_among xs name)
  kept_among [] = none_of (kept name)
  kept_among (x ∷ xs) =
      one_more (kept x) (bytes_eq name x) (kept name) x (filter kept xs) (is_among xs name) refl (λ e. ap kept (sym (same_name name x e))) (kept_among xs)

-- ---- scopes

pub module_bound : (o : Outside) (path : Name) (top : Bool) (around : List Name) (os : List Override) (clocks : Names → List Name) (m : Module)
    (outside : Here) (ys : List Symbol) → AreOnce (of_module m) → o.path ≡ path → o.top ≡ top →
    ((name : Name) → is_among (clocks (constants_in (module_frame path top around os clocks m outside))) name ≡ is_among o.connected name) →
    ys ≡ map (symbol_of (constants_in (module_frame path top around os clocks m outside))) (of_module m) →
    IsBound o (of_module m) ys (module_frame path top around os clocks m outside)
module_bound o path top around os clocks m outside ys once at is connected symbols =
    let c : Names = constants_in (module_frame path top around os clocks m outside) in
    record {
      scope = module_is path top around os clocks m outside once;
      declarations = refl;
      path = sym at;
      top = sym is;
      clocks = λ name.
          kept_among (is_one_bit_input c (of_module m)) name (clocks c) ∙
          ap (λ (b : Bool). is_one_bit_input c (of_module m) name && b) (connected name);
      symbols = symbols;
    }

pub turn_bound : (o : Outside) (f : Frame) (k : ℕ) (index label : Ident) (items : List Item) (value : ℕ) (ys : List Symbol) →
    IsScope f → AreOnce (of_items items) → o.path ≡ (turn_frame f k index label items value).scope.path → o.top ≡ false → o.connected ≡ [] →
    ys ≡ map (symbol_of (constants_in (turn_frame f k index label items value))) (of_items items) →
    IsBound o (of_items items) ys (turn_frame f k index label items value)
turn_bound o f k index label items value ys h once at is connected symbols =
    let c : Names = constants_in (turn_frame f k index label items value) in
    record {
      scope = turn_is f k index label items value h once;
      declarations = refl;
      path = sym at;
      top = sym is;
      clocks = λ name.
          none_of (is_one_bit_input c (of_items items) name) ∙
          ap (λ (ns : List Name). is_one_bit_input c (of_items items) name && is_among ns name) (sym connected);
      symbols = symbols;
    }
