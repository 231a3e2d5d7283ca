-- The constants of a scope as a list of entries: those around it, each declared name without a value, then the parameters.
use Rattle.std.specs.Prelude.{◌≡◌, ℕ, ◌+◌, if◌then◌else◌, List, [], ◌∷◌, map, length, take}
use Rattle.lv_source.specs.Declarations.{Declaration}
use Rattle.lv_source.specs.Scopes.{Scope, is_parameter}
use Rattle.lv_source.specs.Constants.{hidden, entry_constants, index_entry}
use Rattle.lv_source.specs.Constants as source
use Rattle.lv_const.specs.declared.consts.Entry.{Entry}
use Rattle.lv_const.specs.Constants.{declared_entry, value_in}
use Rattle.lv_symbols.specs.Making.{parameters_in}

abbrev pub declared_entries : List Entry → List source.Entry
declared_entries es = map declared_entry es

-- a parameter with the value that its name has among constants
abbrev pub value_entry : List Entry → Declaration → List Entry
value_entry cs d = if is_parameter d then record { name = d.name.name; value = value_in cs d.name.name } ∷ [] else []

-- these are the constants of a scope where so many of its declarations stand before
pub record AreEntries (around : List source.Entry) (s : Scope) (k : ℕ) (es : List Entry) : Type 0 where
  pub are : declared_entries es ≡ entry_constants around s k

-- how many of a scope's entries come before those of its parameters
abbrev pub entries_before : List source.Entry → Scope → ℕ
entries_before around s = length around + length s.declarations

-- how many stand before where so many declarations do
abbrev pub entries_at : List source.Entry → Scope → ℕ → ℕ
entries_at around s k = entries_before around s + parameters_in (take k s.declarations)

-- of the entries of a scope, those that are declared where so many declarations stand before
abbrev pub entries_until : List source.Entry → Scope → ℕ → List Entry → List Entry
entries_until around s k es = take (entries_at around s k) es
