-- The constants before the declarations of modules and turns.
use Rattle.std.proofs.Common.{◌≡◌, ℕ, Bool, true, false, if◌then◌else◌, List, [], ◌∷◌, ◌++◌, map, refl, sym, ap, ◌∙◌, Option, None}
use Rattle.lv_ast.specs.declared.expr.Path.{Path}
use Rattle.lv_ast.specs.declared.stmt.Ident.{Ident}
use Rattle.lv_ast.specs.declared.item.Item.{Item}
use Rattle.lv_ast.specs.declared.item.Module.{Module}
use Rattle.lv_ast.specs.Names.{Name, has_no_steps}
use Rattle.lv_source.specs.Names.{Names, Here, Declared}
use Rattle.lv_source.specs.Declarations.{Declaration, of_items, of_module, declared_as}
use Rattle.lv_source.specs.Scopes.{Override, stands_for, early_by, early_at, here_at}
use Rattle.lv_source.specs.Constants.{early_or_none, hidden, index_entry}
use Rattle.lv_const.specs.declared.consts.Entry.{Entry}
use Rattle.lv_const.specs.Constants.{names_of}
use Rattle.lv_const.specs.Wherever.{AreDeclared}
use Rattle.lv_symbols.specs.declared.givens.Givens.{Givens}
use Rattle.lv_symbols.specs.Giving.{AreOverrides}
use Rattle.lv_symbols.specs.Frames.{Frame, IsScope, AreOnce, IsFrame, module_frame, turn_frame, constants_in}
use Rattle.lv_entries.specs.Entries.{declared_entries}
use Rattle.lv_frames.proofs.Said.{said_by, names_said, stepped_said, said_join, hide_by, hidden_said}
use Rattle.lv_frames.proofs.Stands.{never, apart, scope_at, module_is, turn_is, index_said}

-- ---- a module

never_if : (b : Bool) (o : Option Declared) → b ≡ false → early_or_none b o ≡ None
never_if true o h = cc
never_if false o h = never o

none_before : (xs : List Declaration) → early_by xs [] false ≡ false
none_before [] = refl
none_before (x ∷ xs) = refl

-- a list of no entries says nothing
empty_said : (b : Bool) (o : Option Declared) → (if b then o else o) ≡ o
empty_said true o = refl
empty_said false o = refl

no_constants : (p : Path) → names_of [] p ≡ None
no_constants p = empty_said (has_no_steps p) None

pub module_framed : (path : Name) (top : Bool) (around : List Name) (os : List Override) (clocks : Names → List Name) (m : Module) (outside : Here)
    (there : List Entry) (g : Givens) → AreOnce (of_module m) → AreDeclared (names_of there) outside → AreOverrides outside.names g os →
    IsFrame [] there g (of_module m) (module_frame path top around os clocks m outside)
module_framed path top around os clocks m outside there g once declared givens =
    let f : Frame = module_frame path top around os clocks m outside in
    record {
      declarations = refl;
      scope = module_is path top around os clocks m outside once;
      before = record {
        same = λ p. no_constants p ∙ sym (never_if (early_at f.scope 0 p) (f.scope.names p) (none_before (declared_as p.name (of_module m))));
      };
      outside = declared;
      givens = givens;
    }

-- ---- a turn

hid_first : (xs : List Declaration) (early : Bool) (o : Option Declared) → hide_by (early_or_none early o) xs ≡ early_or_none (early_by xs [] early) o
hid_first [] early o = refl
hid_first (x ∷ xs) early o = sym (never o)

module _ (f : Frame) (k : ℕ) (index label : Ident) (items : List Item) (value : ℕ) (old es : List Entry)
    (at : AreDeclared (names_of es) (here_at f.scope k))
    (e : declared_entries old ≡ (declared_entries es ++ index_entry index.name value ∷ []) ++ map hidden (of_items items)) where
  abbrev t : Frame
  t = turn_frame f k index label items value

  abbrev ds : List Declaration
  ds = of_items items

  base_said : (p : Path) → has_no_steps p ≡ true → names_of old p ≡ early_or_none (early_at t.scope 0 p) (t.base p)
  base_said p s =
      names_said old p s ∙
      (ap (said_by p.name None) e ∙
      (said_join p.name None (declared_entries es ++ index_entry index.name value ∷ []) (map hidden ds) ∙
      (hidden_said p.name (said_by p.name None (declared_entries es ++ index_entry index.name value ∷ [])) ds ∙
      (ap (λ (v : Option Declared). hide_by v (declared_as p.name ds)) (index_said f.scope.names (early_at f.scope k) index.name value es p s (at.same p)) ∙
      hid_first (declared_as p.name ds) (t.scope.early p) (t.base p)))))

  -- a name that is declared has no constant yet, any other is that of the place of the loop
  first_alike : (p : Path) (xs : List Declaration) → declared_as p.name ds ≡ xs →
      early_or_none (early_by xs [] (t.scope.early p)) (t.base p) ≡
      early_or_none (early_by xs [] (t.scope.early p)) (stands_for (constants_in t) t.scope.path false false p xs)
  first_alike p [] u = ap (early_or_none (t.scope.early p)) (sym (apart [] t.base ds p u))
  first_alike p (d ∷ xs) u = never (t.base p) ∙ sym (never (stands_for (constants_in t) t.scope.path false false p (d ∷ xs)))

  by_steps : (b : Bool) (p : Path) → has_no_steps p ≡ b → names_of old p ≡ early_or_none (early_at t.scope 0 p) (t.scope.names p)
  by_steps true p s =
      base_said p s ∙
      (first_alike p (declared_as p.name ds) refl ∙
      sym (ap (early_or_none (early_at t.scope 0 p)) (scope_at (constants_in t) t.scope.path false [] ds p true s)))
  by_steps false p s =
      stepped_said old p s ∙ sym (ap (early_or_none (early_at t.scope 0 p)) (scope_at (constants_in t) t.scope.path false [] ds p false s))

  pub before_turn : AreDeclared (names_of old) (here_at t.scope 0)
  before_turn = record { same = λ p. by_steps (has_no_steps p) p refl }

pub turn_framed : (f : Frame) (k : ℕ) (index label : Ident) (items : List Item) (value : ℕ) (old es there : List Entry) (g : Givens) →
    IsScope f → AreOnce (of_items items) → AreDeclared (names_of es) (here_at f.scope k) →
    declared_entries old ≡ (declared_entries es ++ index_entry index.name value ∷ []) ++ map hidden (of_items items) →
    AreDeclared (names_of there) f.outside → AreOverrides f.outside.names g [] →
    IsFrame old there g (of_items items) (turn_frame f k index label items value)
turn_framed f k index label items value old es there g h once at e declared givens = record {
  declarations = refl;
  scope = turn_is f k index label items value h once;
  before = before_turn f k index label items value old es at e;
  outside = declared;
  givens = givens;
}
