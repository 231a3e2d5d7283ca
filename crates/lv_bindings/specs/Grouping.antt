-- The declarations of a scope by name.
use Rattle.std.specs.Prelude.{◌≡◌, ℕ, ◌<◌, Bool, true, false, not, ◌&&◌, ◌||◌, ◌==◌, List, [], ◌∷◌, map, length, bytes_eq, Option, Some, None, filter, find, slice_get}
use Rattle.std.specs.List.{list_any, position_or_len}
use Rattle.std.specs.Option.{option_map}
use Rattle.lv_ast.specs.Names.{Name}
use Rattle.lv_source.specs.Declarations.{Declaration}
use Rattle.lv_source.specs.Scopes.{is_direction, is_input, is_reg, is_parameter}
use Rattle.lv_source.specs.ScopeRules.{is_nil}
use Rattle.lv_source.specs.Parts.{numbered_from}
use Rattle.lv_scopes.specs.NameLists.{listed}
use Rattle.lv_bindings.specs.declared.group.Group.{Group}
use Rattle.lv_bindings.specs.declared.groups.Groups.{Groups}

-- a declaration with its number among those of the scope
abbrev pub Numbered : Type 0
Numbered = ℕ × Declaration

abbrev pub is_named : Name → Numbered → Bool
is_named name x = bytes_eq x.1.name.name name

-- the declarations of a name
abbrev pub named : List Declaration → Name → List Numbered
named ds name = filter (is_named name) (numbered_from 0 ds)

-- ---- groups

abbrev pub number_if : Bool → ℕ → Option ℕ
number_if true k = Some k
number_if false k = None

abbrev pub either : Option ℕ → Option ℕ → Option ℕ
either None o = o
either (Some k) o = Some k

abbrev pub head_number : List Numbered → Option ℕ
head_number [] = None
head_number (x ∷ xs) = Some x.0

abbrev pub has_two : List Numbered → Bool
has_two [] = false
has_two (x ∷ xs) = not (is_nil xs)

abbrev pub first_direction : List Numbered → Option ℕ
first_direction [] = None
first_direction (x ∷ xs) = either (number_if (is_direction x.1) x.0) (first_direction xs)

abbrev pub any_of : (Declaration → Bool) → List Numbered → Bool
any_of p xs = list_any (λ x. p x.1) xs

-- what there is to know of the declarations of a name
abbrev pub group_of : List Numbered → Option Group
group_of [] = None
group_of (x ∷ xs) = Some (record {
  first = x.0;
  second = head_number xs;
  third = has_two xs;
  direction = first_direction (x ∷ xs);
  input = any_of is_input (x ∷ xs);
  variable = any_of is_reg (x ∷ xs);
  parameter = any_of is_parameter (x ∷ xs);
})

abbrev pub group_for : List Declaration → Name → Option Group
group_for ds name = group_of (named ds name)

-- the number of the declaration at which a signal with these stands: the first with a direction, and where none has one the first
abbrev pub place : Group → ℕ
place g = elim g.direction [ None ↦ g.first | Some k ↦ k ]

-- ---- one by one

abbrev pub is_some : Option ℕ → Bool
is_some None = false
is_some (Some k) = true

abbrev pub single : Numbered → Group
single x = record {
  first = x.0;
  second = None;
  third = false;
  direction = number_if (is_direction x.1) x.0;
  input = is_input x.1;
  variable = is_reg x.1;
  parameter = is_parameter x.1;
}

abbrev pub grown : Group → Numbered → Group
grown g x = record {
  first = g.first;
  second = either g.second (Some x.0);
  third = is_some g.second;
  direction = either g.direction (number_if (is_direction x.1) x.0);
  input = g.input || is_input x.1;
  variable = g.variable || is_reg x.1;
  parameter = g.parameter || is_parameter x.1;
}

-- whether it is another declaration of a name that a parameter has
abbrev pub is_parameter_again : Option Group → ℕ → Bool
is_parameter_again None k = false
is_parameter_again (Some g) k = g.parameter && not (g.first == k)

-- ---- all of a scope

-- each name has a number, by which its declarations stand together, and each declaration has that of its name
pub record AreGrouped (ds : List Declaration) (g : Groups) : Type 0 where
  pub count : length g.groups.items ≡ length (listed g.names)
  pub groups : (name : Name) → slice_get g.groups.items (position_or_len (bytes_eq name) (listed g.names)) ≡ group_for ds name
  pub numbers : g.numbers.items ≡ map (λ d. position_or_len (bytes_eq d.name.name) (listed g.names)) ds
