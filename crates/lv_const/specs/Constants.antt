-- What the entries of a list of constants say of names.
use Rattle.std.specs.Prelude.{true, List, map, reverse, bytes_eq, Option, Some, None, find}
use Rattle.lv_ast.specs.Names.{Name}
use Rattle.lv_source.specs.Names.{Bounds, Names, Constant, Declared, Here}
use Rattle.lv_source.specs.Constants.{entry_names}
use Rattle.lv_source.specs.Constants as source
use Rattle.lv_const.specs.declared.constant.Const.{Const}
use Rattle.lv_const.specs.declared.consts.Entry.{Entry}

abbrev pub value_of_entry : Option Entry → Option Const
value_of_entry None = None
value_of_entry (Some e) = e.value

-- the value of the last entry with that name
abbrev pub value_in : List Entry → Name → Option Const
value_in es name = value_of_entry (find (λ e. bytes_eq e.name name) (reverse es))

abbrev pub bounds_of : Const → Bounds
bounds_of c = record { left = c.left; right = c.right }

-- a constant as a declaration of its name
abbrev pub constant_of : Name → Const → Declared
constant_of name c = record {
  path = name;
  bounds = bounds_of c;
  ranged = true;
  signed = c.signed;
  array = None;
  sort = Constant c.word.value;
}

abbrev pub declared_of : Name → Option Const → Option Declared
declared_of name None = None
declared_of name (Some c) = Some (constant_of name c)

-- an entry as one of a scope's constants
abbrev pub declared_entry : Entry → source.Entry
declared_entry e = record { name = e.name; value = declared_of e.name e.value }

-- the names that have a value
abbrev pub names_of : List Entry → Names
names_of es = entry_names (map declared_entry es)

-- they alone, as a place where all of them are declared before
abbrev pub entries_here : List Entry → Here
entries_here es = record { names = names_of es; early = λ p. true }
