-- The form of design that is decided: one module of one-bit registers and inputs, with one clocked block.
use Rattle.std.specs.Prelude.{◌≡◌, ℕ, ◌+◌, ◌*◌, ◌<◌, ◌≤◌, Bool, true, false, not, ◌&&◌, if◌then◌else◌, List, [], ◌∷◌, ◌++◌, map, filter, length, bytes_eq, Option, Some, None, All}
use Rattle.std.specs.List.{list_any, list_all, flat_map, IsDistinct}
use Rattle.lv_bits.specs.declared.op.Op.{Op}
use Rattle.lv_bits.specs.declared.op.Op.TheVariants as o
use Rattle.lv_ast.specs.declared.expr.Path.{Path}
use Rattle.lv_ast.specs.declared.expr.Expr.{Expr}
use Rattle.lv_ast.specs.declared.expr.Expr.TheVariants as e
use Rattle.lv_ast.specs.declared.stmt.Target.TheVariants as t
use Rattle.lv_ast.specs.declared.stmt.Stmt.{Stmt}
use Rattle.lv_ast.specs.declared.stmt.Stmt.TheVariants as b
use Rattle.lv_ast.specs.declared.stmt.Ident.{Ident}
use Rattle.lv_ast.specs.declared.item.Range.{Range}
use Rattle.lv_ast.specs.declared.item.PortWord.{PortWord}
use Rattle.lv_ast.specs.declared.item.PortWord.TheVariants.{Absent, Reg}
use Rattle.lv_ast.specs.declared.item.Aport.{Aport}
use Rattle.lv_ast.specs.declared.item.Ports.{Ports}
use Rattle.lv_ast.specs.declared.item.Ports.TheVariants as p
use Rattle.lv_ast.specs.declared.item.RegName.{RegName}
use Rattle.lv_ast.specs.declared.item.Watch.TheVariants as w
use Rattle.lv_ast.specs.declared.item.Item.{Item}
use Rattle.lv_ast.specs.declared.item.Item.TheVariants as i
use Rattle.lv_ast.specs.declared.item.Module.{Module}
use Rattle.lv_ast.specs.Names.{Name, has_no_steps}
use Rattle.lv_source.specs.Names.{Names, Declared, Valuation, Sort, Input, Variable}
use Rattle.lv_source.specs.Meaning.{own}
use Rattle.lv_source.specs.Effect.{left_by}
use Rattle.lv_model.specs.Machine.{Machine}
use Rattle.lv_model.specs.Design.{Design, Observers, Candidate, Eq, Aligned, machine_of}
use Rattle.lv_first.specs.declared.observed.ObserverTrees.{ObserverTrees}

-- ---- what a module declares

abbrev pub ident_names : List Ident → List Name
ident_names ids = map (λ x. x.name) ids

abbrev pub same_direction : Bool → Bool → Bool
same_direction a b = if a then b else not b

-- the names of the ports of one direction
abbrev pub names_in : Bool → Aport → List Name
names_in output a = if same_direction a.output output then ident_names a.names else []

abbrev pub port_names : Bool → List Aport → List Name
port_names output ports = flat_map (names_in output) ports

abbrev pub port_list : Ports → List Aport
port_list (p.Declared ports) = ports
port_list _ = []

abbrev pub registers_in : Item → List Name
registers_in (i.Reg signed range names) = map (λ r. r.name.name) names
registers_in _ = []

abbrev pub register_items : List Item → List Name
register_items items = flat_map registers_in items

abbrev pub body_in : Item → List Stmt
body_in (i.Always watch body place) = body ∷ []
body_in _ = []

-- the statements of the clocked blocks
abbrev pub clocked : List Item → List Stmt
clocked items = flat_map body_in items

-- in the order of their places
abbrev pub registers_of : Module → List Name
registers_of m = port_names true (port_list m.ports) ++ register_items m.items

-- without the clock
abbrev pub inputs_of : Module → Name → List Name
inputs_of m clock = filter (λ x. not (bytes_eq x clock)) (port_names false (port_list m.ports))

-- ---- its machine

abbrev pub is_in : List Name → Name → Bool
is_in names x = list_any (bytes_eq x) names

abbrev pub one_bit : Sort → Name → Declared
one_bit sort name = record { path = name; bounds = record { left = 0; right = 0 }; ranged = false; signed = false; array = None; sort = sort }

-- what each name stands for
abbrev pub scope_of : List Name → List Name → Names
scope_of registers inputs path =
    if has_no_steps path then
    (if is_in registers path.name then Some (one_bit Variable path.name) else if is_in inputs path.name then Some (one_bit Input path.name) else None)
    else None

-- what the clocked blocks leave of a valuation; there is at most one
abbrev pub after : Names → List Stmt → Valuation → Valuation
after names [] v = v
after names (body ∷ bodies) v = left_by names body v

abbrev pub design_of : List Name → List Name → List Stmt → Design Valuation
design_of registers inputs bodies =
    record {
      IsSettled = λ v. All (λ x. v x < 2) (registers ++ inputs) × ((x : Name) → is_in (registers ++ inputs) x ≡ false → v x ≡ 0);
      Follows = λ v next. All (λ q. next q ≡ after (scope_of registers inputs) bodies v q) registers;
      SameInputs = λ l r. All (λ x. l x ≡ r x) inputs;
    }

abbrev pub observed : Names → List Expr → List (Valuation → ℕ)
observed names es = map (λ x. own names x) es

abbrev pub candidates_of : List Name → List (Candidate Valuation)
candidates_of registers = map (λ q. Eq (λ v. v q)) registers ++ Aligned ∷ []

abbrev pub observers_of : List Name → List Name → ObserverTrees → Observers Valuation
observers_of registers inputs c =
    let names : Names = scope_of registers inputs in
    record {
      ports = record { retire = own names c.retire; contract = observed names c.contract } ∷ [];
      attacker = observed names c.attacker;
      assume = [];
      equal = observed names c.equal;
      each = [];
      candidates = candidates_of registers;
    }

abbrev pub machine_of_parts : List Name → List Name → List Stmt → ObserverTrees → Machine Valuation
machine_of_parts registers inputs bodies c = machine_of (design_of registers inputs bodies) (observers_of registers inputs c)

-- the machine of a module, its clock and its observers
abbrev pub machine_of_module : Module → Name → ObserverTrees → Machine Valuation
machine_of_module m clock c = machine_of_parts (registers_of m) (inputs_of m clock) (clocked m.items) c

-- ---- legality, as far as this form goes

abbrev pub is_bitwise : Op → Bool
is_bitwise o.And = true
is_bitwise o.Or = true
is_bitwise o.Xor = true
is_bitwise _ = false

-- names of signals joined by `~`, `&`, `|` and `^`
pub data IsBitExpr (signals : List Name) : Expr → Type 0 where
  name : (path : Path) → path.steps ≡ [] → is_in signals path.name ≡ true → IsBitExpr signals (e.Name path [])
  inverse : (a : Expr) → IsBitExpr signals a → IsBitExpr signals (e.Un o.Not a)
  joined : (op : Op) (a b : Expr) → is_bitwise op ≡ true → IsBitExpr signals a → IsBitExpr signals b → IsBitExpr signals (e.Bin op a b)

-- the name of a register
pub data IsRegisterName (registers : List Name) : Expr → Type 0 where
  register : (path : Path) → path.steps ≡ [] → is_in registers path.name ≡ true → IsRegisterName registers (e.Name path [])

-- a nonblocking assignment to a register
pub data IsAssignment (registers signals : List Name) : Stmt → Type 0 where
  assigns : (path : Path) (x : Expr) (place : ℕ) → path.steps ≡ [] → is_in registers path.name ≡ true → IsBitExpr signals x → IsAssignment registers signals (b.Later (t.Name path []) x place)

pub data IsBody (registers signals : List Name) : Stmt → Type 0 where
  block : (body : List Stmt) → All (IsAssignment registers signals) body → IsBody registers signals (b.Block None body)
  single : (s : Stmt) → IsAssignment registers signals s → IsBody registers signals s

abbrev pub is_none : {A : Type 0} → Option A → Bool
is_none None = true
is_none (Some x) = false

-- an input alone, or an output that is a register
abbrev pub is_kind_of_port : Bool → PortWord → Bool
is_kind_of_port true Reg = true
is_kind_of_port false Absent = true
is_kind_of_port _ _ = false

abbrev pub is_bit_port : Aport → Bool
is_bit_port a = not a.signed && is_none a.range && is_kind_of_port a.output a.word

abbrev pub is_bit_register : RegName → Bool
is_bit_register r = is_none r.bounds

abbrev pub is_bit_declaration : Bool → Option Range → List RegName → Bool
is_bit_declaration signed range names = not signed && is_none range && list_all is_bit_register names

pub data IsBitItem (clock : Name) (registers signals : List Name) : Item → Type 0 where
  declares : (names : List RegName) → list_all is_bit_register names ≡ true → IsBitItem clock registers signals (i.Reg false None names)
  clocks : (edge : Ident) (body : Stmt) (place : ℕ) → edge.name ≡ clock → IsBody registers signals body → IsBitItem clock registers signals (i.Always (w.Posedge edge) body place)

-- no name is declared twice or unknown, the clock is an input and used as the clock alone, and targets are registers
pub record IsLegal (m : Module) (top clock : Name) : Type 0 where
  pub called : m.name.name ≡ top
  pub no_params : m.params ≡ []
  pub ports : m.ports ≡ p.Declared (port_list m.ports)
  pub one_bit : list_all is_bit_port (port_list m.ports) ≡ true
  pub items : All (IsBitItem clock (registers_of m) (registers_of m ++ inputs_of m clock)) m.items
  pub one_block : length (clocked m.items) ≤ 1
  pub clock_is_input : is_in (port_names false (port_list m.ports)) clock ≡ true
  pub distinct : IsDistinct bytes_eq (registers_of m ++ port_names false (port_list m.ports))

-- the expressions read signals alone, and those that an initial pair shares are registers
pub record AreObservers (registers inputs : List Name) (c : ObserverTrees) : Type 0 where
  pub retire : IsBitExpr (registers ++ inputs) c.retire
  pub contract : All (IsBitExpr (registers ++ inputs)) c.contract
  pub attacker : All (IsBitExpr (registers ++ inputs)) c.attacker
  pub equal : All (IsRegisterName registers) c.equal

-- the bits that a verdict depends on: each register in both copies, each input in two cycles, and whether the runs are aligned
abbrev pub free_bits : List Name → List Name → ℕ
free_bits registers inputs = 2 * length registers + 2 * length inputs + 1

-- a legal module of this form with its observers, and few free bits
pub record IsFirstForm (m : Module) (top clock : Name) (c : ObserverTrees) : Type 0 where
  pub legal : IsLegal m top clock
  pub observers : AreObservers (registers_of m) (inputs_of m clock) c
  pub few : free_bits (registers_of m) (inputs_of m clock) ≤ 16
