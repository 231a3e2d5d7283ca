-- The graph of a design, step by step.
use Rattle.std.proofs.Common.{◌≡◌, inl, inr, ℕ, ◌≤◌, true, false, List, [], ◌∷◌, length, sym, ap, ◌∙◌, subst, arith}
use Rattle.std.specs.Prelude.{filter, cond}
use Rattle.std.specs.List.{range_with_len}
use Rattle.lv_source.specs.Names.{Declared, width_of}
use Rattle.lv_source.specs.Parts.{is_signal}
use Rattle.lv_source.specs.Views.{View}
use Rattle.lv_source.proofs.Refused.{In}
use Rattle.lv_netlist.specs.Net.{Net, no_nodes, HasNexts}
use Rattle.lv_flat.specs.declared.part.FlatPart.{FlatPart}
use Rattle.lv_flat.specs.declared.signal.Signal.{Signal}
use Rattle.lv_flat.specs.Cells.{Cell, all_cells, AreDistinct}
use Rattle.lv_flat.specs.FlatViews.{flat_views}
use Rattle.lv_flat.specs.Signals.{Signals, declared, declared_all}
use Rattle.lv_flat.proofs.Widths.{declared-width}
use Rattle.lv_values.specs.Worlds.{Grows}
use Rattle.lv_values.proofs.Growth.{grows-refl, grows-trans, obeys-before}
use Rattle.lv_lower_exprs.specs.Tables.{IsTable, AreFirsts, Shows}
use Rattle.lv_settles.specs.Orders.{IsOrder}
use Rattle.lv_settles.specs.Rules.{AreRight, signals_in}
use Rattle.lv_settles.proofs.FlatParts.{lawful}
use Rattle.lv_overlays.specs.Writes.{all_writes_on}
use Rattle.lv_lower.specs.Slots.{all_slots, AreCounts}
use Rattle.lv_lower.specs.Started.{net_from, slot_at, AreSlots}
use Rattle.lv_lower.specs.Carrying.{Carries}
use Rattle.lv_lower.specs.Clocking.{Follows}
use Rattle.lv_lower.specs.Lowered.{IsLowered, IsCarried}
use Rattle.lv_lower.specs.Nexts.{with_nexts}
use Rattle.lv_lower.proofs.Asking.{table-later}
use Rattle.lv_lower.proofs.Beginning.{SlotOf, slot-of, cell-slot, cells-count, first-table}
use Rattle.lv_lower.proofs.Clocking.{leaves-next}
use Rattle.lv_lower.proofs.Concluding.{settling}
use Rattle.lv_lower.proofs.Finishing.{lowered, has_nexts}

-- ---- cells

record From (ss : List Signal) (d : Declared) : Type 0 where
  signal : Signal
  same : declared signal ≡ d

from-list : (ss : List Signal) (d : Declared) → In d (signals_in (declared_all ss)) → From ss d
from-list [] d i = absurd i
from-list (s ∷ ss) d i = elim (is_signal (declared s)) as (λ c. In d (cond c (declared s ∷ filter is_signal (declared_all ss)) (filter is_signal (declared_all ss))) → From (s ∷ ss) d) [
  | true ↦ λ k. elim k [
    | inl e ↦ record { signal = s; same = e }
    | inr r ↦ (let f : From ss d = from-list ss d r in record { signal = f.signal; same = f.same })
  ]
  | false ↦ λ k. (let f : From ss d = from-list ss d k in record { signal = f.signal; same = f.same })
] i

width-some : (d : Declared) → 1 ≤ width_of d
width-some d = omega arith

width-most : (s : Signal) → width_of (declared s) ≤ 128
width-most s = (let e : width_of (declared s) ≡ s.width = declared-width s in let m : s.width ≤ 128 = s.most in omega arith)

pub are-slots : (ss : List Signal) (vs : List View) → AreDistinct (all_cells (declared_all ss)) → AreSlots (all_slots vs (declared_all ss))
are-slots ss vs distinct =
    let S : Signals = declared_all ss in
    let count : length (all_cells S) ≡ length (all_slots vs S) = cells-count vs S in
    record {
      some = λ k b. (let s : SlotOf S vs (slot_at (all_slots vs S) k) = slot-of S vs k b in
          let w : 1 ≤ width_of s.signal = width-some s.signal in let e : (slot_at (all_slots vs S) k).width ≡ width_of s.signal = s.width in omega arith);
      most = λ k b. (let s : SlotOf S vs (slot_at (all_slots vs S) k) = slot-of S vs k b in
          let f : From ss s.signal = from-list ss s.signal s.among in
          let w : width_of s.signal ≤ 128 = subst (λ (d : Declared). width_of d ≤ 128) f.same (width-most f.signal) in
          let e : (slot_at (all_slots vs S) k).width ≡ width_of s.signal = s.width in omega arith);
      distinct = λ i j a b e. distinct i j (omega arith) (omega arith)
          (ap (λ (c : Cell). c.name) (cell-slot vs S i) ∙ (e ∙ sym (ap (λ (c : Cell). c.name) (cell-slot vs S j))));
    }

pub are-firsts : (S : Signals) (first : List ℕ) → AreCounts S first → AreDistinct (all_cells S) → AreFirsts S first
are-firsts S first c distinct = record { count = c.count; is = c.is; distinct = distinct }

-- ---- the first graph and the settled table

pub start-table : (S : Signals) (vs : List View) (net : Net) (table : List ℕ) → AreDistinct (all_cells S) → net ≡ net_from no_nodes (all_slots vs S) →
    table ≡ range_with_len 0 (length (all_slots vs S)) → IsTable net (all_cells S) table
start-table S vs net table distinct e t =
    subst (λ (n : Net). IsTable n (all_cells S) table) (sym e) (subst (IsTable (net_from no_nodes (all_slots vs S)) (all_cells S)) (sym t)
    (first-table S vs (net_from no_nodes (all_slots vs S)) (grows-refl (net_from no_nodes (all_slots vs S))) distinct))

pub is-carried : (S : Signals) (vs : List View) (order : List ℕ) (old new : Net) (first table : List ℕ) → old ≡ net_from no_nodes (all_slots vs S) → first ≡ range_with_len 0 (length (all_slots vs S)) →
    Carries old new S vs first table order → IsCarried S vs order new table
is-carried S vs order old new first table e f c = record {
  grows = subst (λ (n : Net). Grows n new) e c.grows;
  table_is = c.table;
  leaves = λ w v o s. c.is w v o (subst (λ (t : List ℕ). Shows w (all_cells S) t v) (sym f) s);
}

carried-later : (S : Signals) (vs : List View) (order : List ℕ) (old new : Net) (table : List ℕ) → Grows old new → IsCarried S vs order old table → IsCarried S vs order new table
carried-later S vs order old new table g c = record {
  grows = grows-trans (net_from no_nodes (all_slots vs S)) old new c.grows g;
  table_is = table-later old new (all_cells S) table g c.table_is;
  leaves = λ w v o s. c.leaves w v (obeys-before old new w g o) s;
}

-- ---- the whole graph

module _ (S : Signals) (ps : List FlatPart) (order : List ℕ) (old new : Net) (table done : List ℕ) (distinct : AreDistinct (all_cells S))
    (right : AreRight (signals_in S) (flat_views S ps)) (carries : IsCarried S (flat_views S ps) order old table) (next : Follows old new S table done (λ v. all_writes_on S ps v v)) where
  abbrev vs : List View
  vs = flat_views S ps

  now : IsCarried S vs order new table
  now = carried-later S vs order old new table next.grows carries

  pub grown : Grows (net_from no_nodes (all_slots vs S)) new
  grown = now.grows

  pub has-nexts : HasNexts (with_nexts new (all_slots vs S) done)
  has-nexts = has_nexts S vs order new table done now next.table_is

  pub is-lowered : IsOrder vs order → (first : List ℕ) → AreFirsts S first → IsLowered S vs (with_nexts new (all_slots vs S) done) table first
  is-lowered o first firsts =
      lowered S vs order new table done now next.table_is first (settling S vs order new table distinct (lawful S distinct ps right) right o now) firsts
      (leaves-next old new S ps table done distinct right now.table_is next)
