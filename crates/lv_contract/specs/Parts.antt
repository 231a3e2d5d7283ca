-- The tables of a document, and what may be wrong in one of them.
use Rattle.std.specs.Prelude.{◌≡◌, ℕ, zero, suc, ◌+◌, ◌*◌, true, false, ◌==◌, List, ◌++◌, drop, Option, Some, None, option_and_then, if◌then◌else◌, Contains, ◌⊎◌, slice_get}
use Rattle.toml.specs.Data.{Data, Items, Members, as_table, get_item}
use Rattle.lv_contract.specs.declared.key.Key.{Key}
use Rattle.lv_contract.specs.declared.key.Key.TheVariants as k
use Rattle.lv_contract.specs.declared.key.Kind.{Kind}
use Rattle.lv_contract.specs.declared.key.Kind.TheVariants as kind
use Rattle.lv_contract.specs.declared.key.Level.{Level}
use Rattle.lv_contract.specs.declared.key.Level.TheVariants as l
use Rattle.lv_contract.specs.declared.need.Need.{Need}
use Rattle.lv_contract.specs.declared.error.ContractError.{ContractError}
use Rattle.lv_contract.specs.declared.error.ContractError.TheVariants as error
use Rattle.lv_contract.specs.Keys.{kind_of, keys_of, prefix_of, full_name, is_known, is_needed}
use Rattle.lv_contract.specs.Values.{value_at, number_of, text_of, items_of, items_at, texts_in, lists_in, tables_in, table_at, has_word, within, fits}
use Rattle.lv_contract.specs.Expressions.{IsNoExpression}
use Rattle.lv_contract.specs.Named.{pair_of}

-- ---- tables

-- the number at `format`, where it is 1 or 2
abbrev pub in_format : ℕ → Option ℕ
in_format n = if within 1 2 n then Some n else None

abbrev pub format_of : Members → Option ℕ
format_of ms = option_and_then in_format (option_and_then number_of (value_at k.Format ms))

abbrev pub port_in : ℕ → Items → Option Members
port_in n ds = option_and_then as_table (get_item n ds)

-- a table that is no port's has the number 0 alone
abbrev pub numbered_0 : ℕ → Option Members → Option Members
numbered_0 zero o = o
numbered_0 (suc n) o = None

-- the table of a level with its number, which is the port's where it is a port's; none where `format` is refused
abbrev pub part_in : ℕ → Level → ℕ → Members → Option Members
part_in format l.First n ms = numbered_0 n (if format == 1 then Some ms else None)
part_in format l.Second n ms = numbered_0 n (if format == 2 then Some ms else None)
part_in format l.Initial n ms = numbered_0 n (table_at k.Initial ms)
part_in format l.Candidates n ms = numbered_0 n (table_at k.Candidates ms)
part_in format l.Simulation n ms = numbered_0 n (table_at k.Simulation ms)
part_in format l.Port n ms = if format == 2 then port_in n (items_at k.Port ms) else None

abbrev pub part_of : Level → ℕ → Members → Option Members
part_of level n ms = option_and_then (λ format. part_in format level n ms) (format_of ms)

-- ---- expressions

-- the text stands at the entry of an array of arrays, in the one with number i
abbrev pub StandsIn : Kind → ℕ → List (List ℕ) → ℕ → List ℕ → Type 0
StandsIn kind.Pairs i list entry text =
    ((entry ≡ 2 * i) × (text ≡ (pair_of list).first)) ⊎ ((entry ≡ 2 * i + 1) × (text ≡ (pair_of list).second))
StandsIn kind.States i list entry text = (entry ≡ i) × (text ≡ (pair_of list).second)
StandsIn kind.Inputs i list entry text = (entry ≡ i) × Contains (drop 1 list) text
StandsIn _ i list entry text = ⊥

abbrev pub StandsInLists : Kind → Data → ℕ → List ℕ → Type 0
StandsInLists kind d entry text =
    (i : ℕ) × (list : List (List ℕ)) × (slice_get (lists_in (items_of d)) i ≡ Some list) × StandsIn kind i list entry text

-- the text stands at the entry of a value: in the table with number n a single one has n, and the entries of a list begin at 1,024 n
abbrev pub StandsAt : Kind → ℕ → Data → ℕ → List ℕ → Type 0
StandsAt kind.Expression n d entry text = (entry ≡ n) × (text ≡ text_of d)
StandsAt (kind.Expressions least) n d entry text = (i : ℕ) × (entry ≡ 1024 * n + i) × (slice_get (texts_in (items_of d)) i ≡ Some text)
StandsAt kind.Pairs n d entry text = StandsInLists kind.Pairs d entry text
StandsAt kind.States n d entry text = StandsInLists kind.States d entry text
StandsAt kind.Inputs n d entry text = StandsInLists kind.Inputs d entry text
StandsAt _ n d entry text = ⊥

-- ---- faults of a table

-- a key that no table of this level has
pub record IsUnknown (level : Level) (ms : Members) (name : List ℕ) : Type 0 where
  pub word : List ℕ
  pub told : name ≡ prefix_of level ++ word
  pub stands : has_word word ms ≡ true
  pub unknown : is_known level word ≡ false

-- a key that is absent where it is needed
pub record IsAbsent (need : Need) (level : Level) (key : Key) (ms : Members) (name : List ℕ) : Type 0 where
  pub told : name ≡ full_name level key
  pub needed : is_needed need key ≡ true
  pub absent : value_at key ms ≡ None

-- a value of another kind or out of its range
pub record IsBroken (level : Level) (key : Key) (ms : Members) (name : List ℕ) : Type 0 where
  pub told : name ≡ full_name level key
  pub value : Data
  pub stands : value_at key ms ≡ Some value
  pub broken : fits (kind_of key) value ≡ false

-- a text that is no expression
pub record IsUnspelled (level : Level) (n : ℕ) (key : Key) (ms : Members) (name : List ℕ) (entry byte : ℕ) : Type 0 where
  pub told : name ≡ full_name level key
  pub value : Data
  pub stands : value_at key ms ≡ Some value
  pub text : List ℕ
  pub at : StandsAt (kind_of key) n value entry text
  pub unread : IsNoExpression text byte

abbrev pub IsKeyFault : Need → Level → ℕ → Key → Members → ContractError → Type 0
IsKeyFault need level n key ms error.NoMemory = Unit {0}
IsKeyFault need level n key ms error.Toml = ⊥
IsKeyFault need level n key ms (error.Key name) = IsAbsent need level key ms name
IsKeyFault need level n key ms (error.Value name) = IsBroken level key ms name
IsKeyFault need level n key ms (error.Expr name entry byte) = IsUnspelled level n key ms name entry byte

abbrev pub IsUnknownFault : Level → Members → ContractError → Type 0
IsUnknownFault level ms error.NoMemory = Unit {0}
IsUnknownFault level ms (error.Key name) = IsUnknown level ms name
IsUnknownFault level ms _ = ⊥

-- a fault of the table: an unknown key, or a fault at one of its keys
abbrev pub IsPartFault : Need → Level → ℕ → Members → ContractError → Type 0
IsPartFault need level n ms e =
    IsUnknownFault level ms e ⊎ ((key : Key) × Contains (keys_of level) key × IsKeyFault need level n key ms e)

-- ---- faults at texts, once keys and values are checked

abbrev pub IsSpellingFault : Level → ℕ → Key → Members → ContractError → Type 0
IsSpellingFault level n key ms error.NoMemory = Unit {0}
IsSpellingFault level n key ms (error.Expr name entry byte) = IsUnspelled level n key ms name entry byte
IsSpellingFault level n key ms _ = ⊥

-- of some key of the table
abbrev pub HasSpellingFault : Level → ℕ → Members → ContractError → Type 0
HasSpellingFault level n ms e = (key : Key) × Contains (keys_of level) key × IsSpellingFault level n key ms e

-- of the table at a key
abbrev pub HasFaultInside : Key → Level → Members → ContractError → Type 0
HasFaultInside key level ms e = (part : Members) × (table_at key ms ≡ Some part) × HasSpellingFault level 0 part e

-- of one of the two keys of a port, at the top in format 1
abbrev pub HasPortKeyFault : Level → ℕ → Members → ContractError → Type 0
HasPortKeyFault level n ms e = IsSpellingFault level n k.Retire ms e ⊎ IsSpellingFault level n k.Contract ms e

-- of one of the tables of `port`
abbrev pub HasPortFault : List Members → ContractError → Type 0
HasPortFault ports e = (i : ℕ) × (port : Members) × (slice_get ports i ≡ Some port) × HasPortKeyFault l.Port i port e

abbrev pub HasPortsFault : ℕ → Members → ContractError → Type 0
HasPortsFault format ms e =
    ((format ≡ 2) × HasPortFault (tables_in (items_at k.Port ms)) e) ⊎ ((format ≡ 2 → ⊥) × HasPortKeyFault l.First 0 ms e)

-- at one text
abbrev pub IsTextFault : Level → Key → ℕ → List ℕ → ContractError → Type 0
IsTextFault level key entry text error.NoMemory = Unit {0}
IsTextFault level key entry text (error.Expr name at byte) = (name ≡ full_name level key) × (at ≡ entry) × IsNoExpression text byte
IsTextFault level key entry text _ = ⊥

-- at one of some texts, the first of which has that entry
abbrev pub IsFaultAmong : Level → Key → ℕ → List (List ℕ) → ContractError → Type 0
IsFaultAmong level key first texts error.NoMemory = Unit {0}
IsFaultAmong level key first texts (error.Expr name at byte) =
    (i : ℕ) × (text : List ℕ) × (slice_get texts i ≡ Some text) × (name ≡ full_name level key) × (at ≡ first + i) × IsNoExpression text byte
IsFaultAmong level key first texts _ = ⊥

-- in the array with number i of an array of arrays
abbrev pub IsEntryFault : Level → Key → ℕ → List (List ℕ) → ContractError → Type 0
IsEntryFault level key i list error.NoMemory = Unit {0}
IsEntryFault level key i list (error.Expr name at byte) =
    (name ≡ full_name level key) × ((text : List ℕ) × StandsIn (kind_of key) i list at text × IsNoExpression text byte)
IsEntryFault level key i list _ = ⊥

-- at one of some texts, all of them of one entry
abbrev pub IsFaultAtEntry : Level → Key → ℕ → List (List ℕ) → ContractError → Type 0
IsFaultAtEntry level key entry texts error.NoMemory = Unit {0}
IsFaultAtEntry level key entry texts (error.Expr name at byte) =
    (name ≡ full_name level key) × (at ≡ entry) × ((text : List ℕ) × Contains texts text × IsNoExpression text byte)
IsFaultAtEntry level key entry texts _ = ⊥
