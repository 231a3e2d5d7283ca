-- The keys of a contract file: of each its name, what its value is, and where it is needed.
use Rattle.std.specs.Prelude.{ℕ, Bool, true, false, List, [], ◌∷◌, ◌++◌, codes}
use Rattle.std.specs.List.{list_any}
use Rattle.std.specs.Str.{bytes_eq}
use Rattle.lv_contract.specs.declared.key.Key.{Key}
use Rattle.lv_contract.specs.declared.key.Key.TheVariants as k
use Rattle.lv_contract.specs.declared.key.Kind.{Kind}
use Rattle.lv_contract.specs.declared.key.Kind.TheVariants.{Number, Truth, Name, Files, Expression, Expressions, Pairs, States, Inputs, Table, Ports}
use Rattle.lv_contract.specs.declared.key.Level.{Level}
use Rattle.lv_contract.specs.declared.key.Level.TheVariants as l
use Rattle.lv_contract.specs.declared.need.Need.{Need}
use Rattle.lv_contract.specs.declared.need.Need.TheVariants as n

-- where a key may not be absent
pub data Needed : Type 0 where
  Never : Needed
  Always : Needed
  ToCheck : Needed
  ToSimulate : Needed

pub record Row : Type 0 where
  pub name : List ℕ
  pub kind : Kind
  pub needed : Needed

abbrev pub key_row : List ℕ → Kind → Needed → Row
key_row name kind needed = record { name = name; kind = kind; needed = needed }

-- the table of keys. `Number` has the least and the greatest number, `Expressions` the least count
abbrev pub row : Key → Row
row k.Format = key_row (codes "format") (Number 1 2) Always
row k.Files = key_row (codes "files") Files Always
row k.Top = key_row (codes "top") Name Always
row k.Clock = key_row (codes "clock") Name Always
row k.Lookahead = key_row (codes "lookahead") (Number 0 32) Always
row k.Budget = key_row (codes "budget") (Number 0 2000000) Never
row k.Certificate = key_row (codes "certificate") Name ToCheck
row k.Cycles = key_row (codes "cycles") (Number 0 64) Never
row k.Retire = key_row (codes "retire") Expression Always
row k.Contract = key_row (codes "contract") (Expressions 0) Never
row k.Attacker = key_row (codes "attacker") (Expressions 1) Always
row k.Assume = key_row (codes "assume") (Expressions 0) Never
row k.Port = key_row (codes "port") Ports Always
row k.Initial = key_row (codes "initial") Table Never
row k.Candidates = key_row (codes "candidates") Table Never
row k.Simulation = key_row (codes "sim") Table ToSimulate
row k.Equal = key_row (codes "equal") (Expressions 0) Never
row k.Each = key_row (codes "each") (Expressions 0) Never
row k.Registers = key_row (codes "registers") Truth Never
row k.When = key_row (codes "when") Pairs Never
row k.Aligned = key_row (codes "aligned") Truth Never
row k.SimulatedCycles = key_row (codes "cycles") (Number 1 10000) Always
row k.Show = key_row (codes "show") (Expressions 0) Always
row k.State = key_row (codes "state") States Never
row k.Input = key_row (codes "input") Inputs Never

abbrev pub name_of : Key → List ℕ
name_of key = (row key).name

abbrev pub kind_of : Key → Kind
kind_of key = (row key).kind

-- ---- the tables of the file

abbrev pub common_keys : List Key
common_keys =
    k.Format ∷ k.Files ∷ k.Top ∷ k.Clock ∷ k.Lookahead ∷ k.Budget ∷ k.Certificate ∷ k.Cycles ∷ k.Attacker ∷ k.Assume
    ∷ k.Initial ∷ k.Candidates ∷ k.Simulation ∷ []

-- the keys of each table: the whole file in format 1 and in format 2, the tables inside, and a table of `port`
abbrev pub keys_of : Level → List Key
keys_of l.First = k.Retire ∷ k.Contract ∷ common_keys
keys_of l.Second = common_keys ++ (k.Port ∷ [])
keys_of l.Initial = k.Equal ∷ k.Each ∷ []
keys_of l.Candidates = k.Registers ∷ k.Equal ∷ k.When ∷ k.Each ∷ k.Aligned ∷ []
keys_of l.Simulation = k.SimulatedCycles ∷ k.Show ∷ k.State ∷ k.Input ∷ []
keys_of l.Port = k.Retire ∷ k.Contract ∷ []

-- a key inside a table is told with the table's name and a point before it
abbrev pub prefix_of : Level → List ℕ
prefix_of l.First = []
prefix_of l.Second = []
prefix_of l.Initial = codes "initial."
prefix_of l.Candidates = codes "candidates."
prefix_of l.Simulation = codes "sim."
prefix_of l.Port = codes "port."

abbrev pub full_name : Level → Key → List ℕ
full_name level key = prefix_of level ++ name_of key

-- a word is the name of a key of the table
abbrev pub is_known : Level → List ℕ → Bool
is_known level word = list_any (λ key. bytes_eq (name_of key) word) (keys_of level)

-- ---- where a key is needed

abbrev pub is_needed_by : Needed → Need → Bool
is_needed_by Never need = false
is_needed_by Always need = true
is_needed_by ToCheck n.Certificate = true
is_needed_by ToCheck _ = false
is_needed_by ToSimulate n.Simulation = true
is_needed_by ToSimulate _ = false

abbrev pub is_needed : Need → Key → Bool
is_needed need key = is_needed_by (row key).needed need
