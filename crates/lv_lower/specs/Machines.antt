-- The machine of the views of a design, and that of a graph whose observers are those of its valuations.
use Rattle.std.specs.Prelude.{◌≡◌, ℕ, List, map, All}
use Rattle.lv_ast.specs.Names.{Name}
use Rattle.lv_model.specs.Design.{Port, Candidate, Eq, When, Each, Aligned, Observers}
use Rattle.lv_model.specs.Design.{Design as ModelDesign}
use Rattle.lv_source.specs.Names.{Declared, Valuation}
use Rattle.lv_source.specs.Views.{View, IsViewSettled, ViewFollows}
use Rattle.lv_netlist.specs.Net.{Net}
use Rattle.lv_netlist.specs.Run.{values_of}
use Rattle.lv_netlist.specs.Stepping.{GraphCycle}
use Rattle.lv_flat.specs.Cells.{Cell}
use Rattle.lv_values.specs.Worlds.{World}
use Rattle.lv_settles.specs.Rules.{input_names}
use Rattle.lv_lower.specs.Started.{valuation_of}

abbrev pub view_design : List Declared → List View → ModelDesign Valuation
view_design ds vs = record {
  IsSettled = IsViewSettled ds vs;
  Follows = ViewFollows ds vs;
  SameInputs = λ l r. All (λ (name : Name). l name ≡ r name) (input_names ds);
}

-- the values of the nodes in a cycle
abbrev pub world_of : Net → GraphCycle → World
world_of net c = record { state = c.state; inputs = c.input; values = values_of net c.state c.input }

abbrev pub cycle_valuation : Net → List Cell → List ℕ → GraphCycle → Valuation
cycle_valuation net cells table c = valuation_of (world_of net c) cells table

-- ---- observers of what f gives

abbrev pub through_all : {V W : Type 0} → (W → V) → List (V → ℕ) → List (W → ℕ)
through_all f es = map (λ e w. e (f w)) es

abbrev pub port_through : {V W : Type 0} → (W → V) → Port V → Port W
port_through f p = record { retire = λ w. p.retire (f w); contract = through_all f p.contract }

abbrev pub candidate_through : {V W : Type 0} → (W → V) → Candidate V → Candidate W
candidate_through f (Eq e) = Eq (λ w. e (f w))
candidate_through f (When g e) = When (λ w. g (f w)) (λ w. e (f w))
candidate_through f (Each p) = Each (λ w. p (f w))
candidate_through f Aligned = Aligned

abbrev pub through : {V W : Type 0} → (W → V) → Observers V → Observers W
through f o = record {
  ports = map (port_through f) o.ports;
  attacker = through_all f o.attacker;
  assume = through_all f o.assume;
  equal = through_all f o.equal;
  each = through_all f o.each;
  candidates = map (candidate_through f) o.candidates;
}
