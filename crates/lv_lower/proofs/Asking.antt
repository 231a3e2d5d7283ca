-- A longer graph is still that of the design.
use Rattle.std.proofs.Common.{ℕ, ◌<◌, ◌≤◌, List, length, map, sym, ap, ◌∙◌, arith, subst}
use Rattle.lv_source.specs.Names.{Valuation}
use Rattle.lv_source.specs.Places.{Bit}
use Rattle.lv_source.specs.Views.{View, next_view_bit}
use Rattle.lv_netlist.specs.declared.node.Register.{Register}
use Rattle.lv_netlist.specs.Net.{Net, register_at, input_at}
use Rattle.lv_flat.specs.Cells.{Cell, all_cells}
use Rattle.lv_flat.specs.Signals.{Signals}
use Rattle.lv_values.specs.Worlds.{World, Grows}
use Rattle.lv_values.proofs.Growth.{obeys-before}
use Rattle.lv_lower_exprs.specs.Tables.{IsTable}
use Rattle.lv_lower.specs.Started.{valuation_of}
use Rattle.lv_lower.specs.Lowered.{IsLowered, IsGiven, IsNext, register_entry}

pub table-later : (old new : Net) (cs : List Cell) (table : List ℕ) → Grows old new → IsTable old cs table → IsTable new cs table
table-later old new cs table g t = record {
  count = t.count;
  within = λ i b. (let x : _ = t.within i b in let m : length old.nodes ≤ length new.nodes = g.more in omega arith);
  widths = λ i b. ap (λ n. n.width) (g.same _ (t.within i b)) ∙ t.widths i b;
}

module _ (old new : Net) (g : Grows old new) where
  given-later : (w : World) (v : Valuation) → IsGiven new w v → IsGiven old w v
  given-later w v h = record {
    inputs = λ i b. ap (λ xs. v (input_at xs i).0) (sym g.inputs) ∙ h.inputs i (subst (λ (xs : List (List ℕ × ℕ)). i < length xs) (sym g.inputs) b);
    registers = λ i b. ap (λ xs. v (register_at xs i).0) (sym g.registers) ∙ h.registers i (subst (λ (xs : List (List ℕ × Register)). i < length xs) (sym g.registers) b);
  }

  given-before : (w : World) (v : Valuation) → IsGiven old w v → IsGiven new w v
  given-before w v h = record {
    inputs = λ i b. ap (λ xs. v (input_at xs i).0) g.inputs ∙ h.inputs i (subst (λ (xs : List (List ℕ × ℕ)). i < length xs) g.inputs b);
    registers = λ i b. ap (λ xs. v (register_at xs i).0) g.registers ∙ h.registers i (subst (λ (xs : List (List ℕ × Register)). i < length xs) g.registers b);
  }

  next-later : (vs : List View) (w : World) (v : Valuation) (i : ℕ) → IsNext old vs w v i → IsNext new vs w v i
  next-later vs w v i h m j e b =
      h m j (ap (λ xs. (register_at xs i).1.next) (sym g.registers) ∙ e) (subst (λ (xs : List (List ℕ × Register)). j < (register_at xs i).1.width) g.registers b) ∙
      ap (λ xs. next_view_bit vs v (let b : Bit = record { name = (register_at xs i).0; place = j } in b)) (sym g.registers)

  pub lowered-later : (S : Signals) (vs : List View) (table first : List ℕ) → IsLowered S vs old table first → IsLowered S vs new table first
  lowered-later S vs table first h = record {
    table_is = table-later old new (all_cells S) table g h.table_is;
    first_is = h.first_is;
    inputs = g.inputs ∙ h.inputs;
    registers = ap (map register_entry) g.registers ∙ h.registers;
    settling = record {
      settles = λ w o. h.settling.settles w (obeys-before old new w g o);
      given = λ w o. given-before w _ (h.settling.given w (obeys-before old new w g o));
      shows = λ w v o s i. h.settling.shows w v (obeys-before old new w g o) s (given-later w v i);
    };
    next = λ w i o b. next-later vs w (valuation_of w (all_cells S) table) i (h.next w i (obeys-before old new w g o) (subst (λ (xs : List (List ℕ × Register)). i < length xs) g.registers b));
  }
