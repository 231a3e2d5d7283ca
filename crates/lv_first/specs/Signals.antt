-- The signals of a design as numbered variables: registers first, then inputs.
use Rattle.std.specs.Prelude.{◌≡◌, ℕ, zero, suc, ◌<◌, ◌≤◌, Bool, false, if◌then◌else◌, nat_eq, List, [], ◌∷◌, ◌++◌, length, bytes_eq, Some, None, All, slice_get, filter, not, true}
use Rattle.std.specs.List.{IsDistinct}
use Rattle.lv_bits.specs.Values.{bit}
use Rattle.lv_ast.specs.declared.expr.Expr.{Expr}
use Rattle.lv_ast.specs.declared.stmt.Stmt.{Stmt}
use Rattle.lv_bits.specs.declared.op.Op.{Op}
use Rattle.lv_bits.specs.declared.op.Op.TheVariants as o
use Rattle.lv_ast.specs.declared.expr.Path.{Path}
use Rattle.lv_ast.specs.declared.stmt.Stmt.TheVariants as b
use Rattle.lv_ast.specs.declared.stmt.Ident.{Ident}
use Rattle.lv_ast.specs.declared.item.Watch.{Watch}
use Rattle.lv_ast.specs.declared.item.Watch.TheVariants as w
use Rattle.lv_ast.specs.declared.item.Aport.{Aport}
use Rattle.lv_ast.specs.declared.item.Module.{Module}
use Rattle.lv_ast.specs.declared.item.Item.{Item}
use Rattle.lv_ast.specs.Names.{Name}
use Rattle.lv_source.specs.Names.{Names, Valuation, Sort, is_signal_sort}
use Rattle.lv_source.specs.Meaning.{meaning}
use Rattle.lv_source.specs.Effect.{left_by}
use Rattle.lv_first.specs.declared.observed.ObserverTrees.{ObserverTrees}
use Rattle.lv_first.specs.declared.problem.Problem.{Problem}
use Rattle.lv_first.specs.declared.prepare.Watched.{Watched}
use Rattle.lv_first.specs.FirstForm.{scope_of, one_bit, clocked, after, IsAssignment, IsBody, IsBitItem, IsRegisterName, AreObservers, free_bits, IsFirstForm, is_in, port_names, register_items, registers_of, inputs_of}
use Rattle.lv_first.specs.declared.formula.Formula.{Formula}
use Rattle.lv_first.specs.Formulas.{Assignment, Truth, truth, variable, both, either, differ}

abbrev pub env_of : List Name → Valuation → Assignment
env_of [] v k = false
env_of (s ∷ ss) v zero = nat_eq (v s) 1
env_of (s ∷ ss) v (suc k) = env_of ss v k

abbrev pub val_of : List Name → Assignment → Valuation
val_of [] env x = 0
val_of (s ∷ ss) env x = if bytes_eq x s then bit (env zero) else val_of ss (λ k. env (suc k)) x

-- each signal has one bit
abbrev pub AreBits : List Name → Valuation → Type 0
AreBits signals v = All (λ s. v s < 2) signals

-- the expression has one bit, without sign, with this truth
pub record IsBitOf (names : Names) (signals : List Name) (x : Expr) (t : Truth) : Type 0 where
  pub width : (meaning names x).width ≡ 1
  pub signed : (meaning names x).signed ≡ false
  pub value : (v : Valuation) → AreBits signals v → (meaning names x).value 1 false v ≡ bit (t (env_of signals v))

-- each formula has the truth of its expression
abbrev pub AreBitsOf : Names → List Name → List Expr → List Formula → Type 0
AreBitsOf names signals [] [] = Unit {0}
AreBitsOf names signals [] (f ∷ fs) = ⊥
AreBitsOf names signals (x ∷ xs) [] = ⊥
AreBitsOf names signals (x ∷ xs) (f ∷ fs) = IsBitOf names signals x (truth f) × AreBitsOf names signals xs fs

-- each expression is the variable of this number
abbrev pub AreVariablesOf : Names → List Name → List Expr → List ℕ → Type 0
AreVariablesOf names signals [] [] = Unit {0}
AreVariablesOf names signals [] (k ∷ ks) = ⊥
AreVariablesOf names signals (x ∷ xs) [] = ⊥
AreVariablesOf names signals (x ∷ xs) (k ∷ ks) = IsBitOf names signals x (variable k) × AreVariablesOf names signals xs ks

-- the path names the signal of this number
pub record IsSignal (registers inputs : List Name) (path : Path) (k : ℕ) : Type 0 where
  pub plain : path.steps ≡ []
  pub number : slice_get (registers ++ inputs) k ≡ Some path.name
  pub sort : (s : Sort) × (is_signal_sort s ≡ true) × (scope_of registers inputs path ≡ Some (one_bit s path.name))

-- the truth that an operator makes of two
pub data IsJoinedBy : Op → Truth → Truth → Truth → Type 0 where
  ands : (s t : Truth) → IsJoinedBy o.And s t (both s t)
  ors : (s t : Truth) → IsJoinedBy o.Or s t (either s t)
  xors : (s t : Truth) → IsJoinedBy o.Xor s t (differ s t)

-- each formula has the value of its register after these values
abbrev pub AreNext : List Name → List Name → (Valuation → Valuation) → List Formula → Type 0
AreNext registers inputs leaves next =
    (v : Valuation) → AreBits (registers ++ inputs) v → (k : ℕ) (q : Name) (f : Formula) → slice_get registers k ≡ Some q → slice_get next k ≡ Some f →
    leaves v q ≡ bit (truth f (env_of (registers ++ inputs) v))

-- these statements, one after another, leave these next values
pub record IsNext (registers inputs : List Name) (body : List Stmt) (next : List Formula) : Type 0 where
  pub distinct : IsDistinct bytes_eq registers
  pub count : length next ≡ length registers
  pub assigns : All (IsAssignment registers (registers ++ inputs)) body
  pub values : AreNext registers inputs (left_by (scope_of registers inputs) (b.Block None body)) next

-- so does a body
pub record IsBodyNext (registers inputs : List Name) (body : Stmt) (next : List Formula) : Type 0 where
  pub count : length next ≡ length registers
  pub legal : IsBody registers (registers ++ inputs) body
  pub values : AreNext registers inputs (left_by (scope_of registers inputs) body) next

-- a block waits for the rising edge of this clock
pub data IsClockedBy : Watch → Name → Type 0 where
  edges : (edge : Ident) → IsClockedBy (w.Posedge edge) edge.name

-- so do these items, of which one at most is a clocked block
pub record AreItemsNext (clock : Name) (registers inputs : List Name) (items : List Item) (found : Bool) (next : List Formula) : Type 0 where
  pub distinct : IsDistinct bytes_eq registers
  pub count : length next ≡ length registers
  pub legal : All (IsBitItem clock registers (registers ++ inputs)) items
  pub blocks : length (clocked items) ≡ bit found
  pub values : AreNext registers inputs (after (scope_of registers inputs) (clocked items)) next

-- the problem has the truths of the design and of its observers
pub record IsProblemOf (registers inputs : List Name) (bodies : List Stmt) (c : ObserverTrees) (p : Problem) : Type 0 where
  pub distinct : IsDistinct bytes_eq (registers ++ inputs)
  pub register_count : p.registers ≡ length registers
  pub input_count : p.inputs ≡ length inputs
  pub next : AreNext registers inputs (after (scope_of registers inputs) bodies) p.next
  pub retire : IsBitOf (scope_of registers inputs) (registers ++ inputs) c.retire (truth p.retire)
  pub contract : AreBitsOf (scope_of registers inputs) (registers ++ inputs) c.contract p.contract
  pub attacker : AreBitsOf (scope_of registers inputs) (registers ++ inputs) c.attacker p.attacker
  pub equal : AreVariablesOf (scope_of registers inputs) (registers ++ inputs) c.equal p.equal

-- the expression is the register of this number
pub record IsRegister (registers inputs : List Name) (x : Expr) (k : ℕ) : Type 0 where
  pub legal : IsRegisterName registers x
  pub meant : IsBitOf (scope_of registers inputs) (registers ++ inputs) x (variable k)

-- the signals of a module, and its names are distinct
pub record HasSignals (ports : List Aport) (items : List Item) (clock : Name) (registers inputs : List Name) : Type 0 where
  pub registers_are : registers ≡ port_names true ports ++ register_items items
  pub inputs_are : inputs ≡ filter (λ x. not (bytes_eq x clock)) (port_names false ports)
  pub distinct : IsDistinct bytes_eq (registers ++ port_names false ports)
  pub clock_is_input : is_in (port_names false ports) clock ≡ true

-- the items and the observers are of the form, and there are few free bits
pub record IsBitForm (clock : Name) (registers inputs : List Name) (items : List Item) (c : ObserverTrees) : Type 0 where
  pub legal : All (IsBitItem clock registers (registers ++ inputs)) items
  pub one_block : length (clocked items) ≤ 1
  pub observers : AreObservers registers inputs c
  pub few : free_bits registers inputs ≤ 16

-- the formulas of the observers, which are of the form
pub record IsWatched (registers inputs : List Name) (c : ObserverTrees) (w : Watched) : Type 0 where
  pub observers : AreObservers registers inputs c
  pub retire : IsBitOf (scope_of registers inputs) (registers ++ inputs) c.retire (truth w.retire)
  pub contract : AreBitsOf (scope_of registers inputs) (registers ++ inputs) c.contract w.contract
  pub attacker : AreBitsOf (scope_of registers inputs) (registers ++ inputs) c.attacker w.attacker
  pub equal : AreVariablesOf (scope_of registers inputs) (registers ++ inputs) c.equal w.equal

-- the problem of a design and its observers, which are of the form
pub record IsBuilt (clock : Name) (registers inputs : List Name) (items : List Item) (c : ObserverTrees) (p : Problem) : Type 0 where
  pub form : IsBitForm clock registers inputs items c
  pub problem : IsProblemOf registers inputs (clocked items) c p

-- the problem of a module with its observers, all of this form
pub record IsPrepared (m : Module) (top clock : Name) (c : ObserverTrees) (registers : List Name) (p : Problem) : Type 0 where
  pub form : IsFirstForm m top clock c
  pub registers_are : registers ≡ registers_of m
  pub problem : IsProblemOf (registers_of m) (inputs_of m clock) (clocked m.items) c p
