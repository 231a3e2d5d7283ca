-- The machine of a source with its contract.
use Rattle.std.specs.Prelude.{ℕ, Bool, false, if◌then◌else◌, List, [], ◌∷◌, ◌++◌, map, bytes_eq, find, flat_map, Contains, IsTrue, IsFalse}
use Rattle.lv_ast.specs.declared.expr.Expr.{Expr}
use Rattle.lv_model.specs.Machine.{Machine}
use Rattle.lv_model.specs.Design.{Observers, Candidate, Eq, When, Each, Aligned, machine_of}
use Rattle.lv_model.specs.Design.{Design as ModelDesign}
use Rattle.lv_ast.specs.Names.{path_text}
use Rattle.lv_source.specs.Names.{Names, Here, Declared, Valuation}
use Rattle.lv_source.specs.Places.{Bit, has_bit, whole}
use Rattle.lv_source.specs.Meaning.{read_expr, own}
use Rattle.lv_source.specs.Parts.{Design, Part, parts, signals_of, registers_of, is_clocked, drives, reads}
use Rattle.lv_source.specs.Sites.{Site, spots, expr_sites}
use Rattle.lv_source.specs.NodeRules.{unknown_name, not_constant, zero_divisor, out_of_range}
use Rattle.lv_source.specs.Settled.{IsSettled, Follows, SameInputs}

pub record PortExprs : Type 0 where
  pub retire : Expr
  pub contract : List Expr

pub record Contract : Type 0 where
  pub ports : List PortExprs
  pub attacker : List Expr
  pub assume : List Expr
  pub initial_equal : List Expr
  pub initial_each : List Expr
  pub registers : Bool
  pub equal : List Expr
  pub guarded : List (Expr × Expr)
  pub each : List Expr
  pub aligned : Bool

-- the names of all signals, by their paths from the top
abbrev pub top_names : Design → Names
top_names d p = find (λ x. bytes_eq x.path (path_text p)) (signals_of d)

abbrev pub observed : Design → Expr → Valuation → ℕ
observed d e v = own (top_names d) e v

abbrev pub register_candidates : Design → Bool → List (Candidate Valuation)
register_candidates d wanted = if wanted then map (λ name. Eq (λ v. v name)) (registers_of d) else []

abbrev pub aligned_candidates : Bool → List (Candidate Valuation)
aligned_candidates wanted = if wanted then Aligned ∷ [] else []

-- registers, `equal`, `when`, `each` and `aligned`, in this order
abbrev pub candidates : Design → Contract → List (Candidate Valuation)
candidates d c =
    register_candidates d c.registers ++ map (λ e. Eq (observed d e)) c.equal ++ map (λ g. When (observed d g.0) (observed d g.1)) c.guarded ++
    map (λ e. Each (observed d e)) c.each ++ aligned_candidates c.aligned

abbrev pub observers : Design → Contract → Observers Valuation
observers d c = record {
  ports = map (λ p. record { retire = observed d p.retire; contract = map (observed d) p.contract }) c.ports;
  attacker = map (observed d) c.attacker;
  assume = map (observed d) c.assume;
  equal = map (observed d) c.initial_equal;
  each = map (observed d) c.initial_each;
  candidates = candidates d c;
}

abbrev pub design_of : Design → ModelDesign Valuation
design_of d = record { IsSettled = IsSettled d; Follows = Follows d; SameInputs = SameInputs d }

abbrev pub machine : Design → Contract → Machine Valuation
machine d c = machine_of (design_of d) (observers d c)

-- ---- what an expression may read

-- the bit b is one of these, or some of these come from it through parts that aren't clocked
pub data Reaches (d : Design) (bs : List Bit) : Bit → Type 0 where
  direct : {b : Bit} → IsTrue (has_bit bs b) → Reaches d bs b
  through : {b c : Bit} (p : Part) → Contains (parts d) p → IsFalse (is_clocked p) → Reaches d bs c → IsTrue (has_bit (drives p) c) → IsTrue (has_bit (reads p) b) → Reaches d bs b

abbrev pub bits_read : Design → Expr → List Bit
bits_read d e = (read_expr (top_names d) e).reads

-- it depends on some signal of the list
abbrev pub DependsOn : Design → (Declared → Bool) → Expr → Type 0
DependsOn d is e = (x : Declared) × (b : Bit) × Contains (signals_of d) x × IsTrue (is x) × IsTrue (has_bit (whole x) b) × Reaches d (bits_read d e) b

-- ---- what may be wrong with an expression of the contract: its names are those of signals

-- no constant is among them
abbrev pub top_here : Design → Here
top_here d = record { names = top_names d; early = λ p. false }

abbrev pub observed_sites : Design → Expr → List Site
observed_sites d e = expr_sites false (top_names d) 0 e

abbrev pub unknown_in : Design → Expr → List ℕ
unknown_in d e = flat_map unknown_name (observed_sites d e)

abbrev pub not_constant_in : Design → Expr → List ℕ
not_constant_in d e = flat_map not_constant (spots (top_here d) (observed_sites d e))

abbrev pub zero_divisor_in : Design → Expr → List ℕ
zero_divisor_in d e = flat_map zero_divisor (observed_sites d e)

abbrev pub out_of_range_in : Design → Expr → List ℕ
out_of_range_in d e = flat_map out_of_range (observed_sites d e)
