-- The writes of a statement, and what it leaves of tables.
use Rattle.std.specs.Prelude.{◌≡◌, ◌⊎◌, ℕ, ◌≤◌, Bool, true, false, List, [], ◌∷◌, length, Option, Some, None, All, flat_map}
use Rattle.lv_netlist.specs.Net.{Net}
use Rattle.lv_source.specs.Names.{Valuation}
use Rattle.lv_source.specs.Places.{Bit, has_bit, place_bits}
use Rattle.lv_source.specs.Flow.{Event}
use Rattle.lv_flat.specs.Flows.{flow}
use Rattle.lv_source.specs.Effect.{Piece, State, Update, Arm, places, write_all, now_of, later_of, applied, left_of}
use Rattle.lv_source.specs.Meaning.{Reading}
use Rattle.lv_flat.specs.declared.part.FlatBody.TheVariants.{Assign}
use Rattle.lv_flat.specs.declared.expr.FlatExpr.{FlatExpr}
use Rattle.lv_flat.specs.declared.stmt.FlatTarget.{FlatTarget}
use Rattle.lv_flat.specs.declared.stmt.FlatStmt.{FlatStmt}
use Rattle.lv_flat.specs.declared.stmt.FlatStmt.TheOpen.{FlatStmt-F}
use Rattle.lv_flat.specs.Cells.{Cell}
use Rattle.lv_flat.specs.Signals.{Signals}
use Rattle.lv_flat.specs.Judged.{reading}
use Rattle.lv_flat.specs.Trees.{fold_stmt}
use Rattle.lv_flat.specs.Executing.{Effect, pieces, arm_step, effect_step, executes}
use Rattle.lv_flat.specs.FlatViews.{after}
use Rattle.lv_flat.specs.Good.{good_stmt}
use Rattle.lv_values.specs.declared.value.Value.{Value}
use Rattle.lv_values.specs.Worlds.{World, Obeys, Grows, number}
use Rattle.lv_lower_exprs.specs.Tables.{IsTable, Shows}
use Rattle.lv_lower_blocks.specs.Rewritten.{MayBeTable}

-- ---- writes

-- `=`, with its write kept as that of `<=`
abbrev pub kept_now : List Piece → Reading → State → State
kept_now target x s = record (later_of target x s) { valuation = (now_of target x s).valuation }

abbrev pub write_step : Signals → FlatStmt-F Effect (Arm Effect) → Effect
write_step S (FlatStmt-F.Now target x place) s = kept_now (pieces S target) (reading S x) s
write_step S x s = effect_step S x s

-- what a statement does, where the writes of `=` are kept among those of `<=`, in the order in which they are carried out
unfoldable pub keeps_writes : Signals → FlatStmt → Effect
keeps_writes S stmt s = fold_stmt Effect (Arm Effect) (write_step S) (arm_step S) stmt s

-- all writes of a block that begins with a valuation
abbrev pub writes_from : Signals → FlatStmt → Valuation → List Update
writes_from S stmt v = (keeps_writes S stmt (record { valuation = v; pending = [] })).pending

-- ---- tables

-- a table that showed a valuation shows what the target then holds
pub record Stores (old new : Net) (S : Signals) (cells : List Cell) (before after : List ℕ) (target : FlatTarget) (x : Value) : Type 0 where
  pub grows : Grows old new
  pub table : IsTable new cells after
  pub is : (w : World) (v : Valuation) → Obeys new w → Shows w cells before v → Shows w cells after (write_all v (places v (pieces S target)) (number w x))

-- a table that showed a valuation shows what the assignment leaves of it
pub record Assigns (old new : Net) (S : Signals) (cells : List Cell) (before after' : List ℕ) (target : FlatTarget) (e : FlatExpr) : Type 0 where
  pub grows : Grows old new
  pub table : IsTable new cells after'
  pub is : (w : World) (v : Valuation) → Obeys new w → Shows w cells before v → Shows w cells after' (after S (Assign target e) v)

-- `now` shows what reads see, and `done` what all writes leave of any valuation
pub record Runs (old new : Net) (cells : List Cell) (now done now' done' : List ℕ) (g : State → State) : Type 0 where
  pub grows : Grows old new
  pub table : IsTable new cells now'
  pub count : length done' ≡ length done
  pub rest : MayBeTable new cells done'
  pub shows : (w : World) (s : State) → Obeys new w → Shows w cells now s.valuation → Shows w cells now' (g s).valuation
  pub leaves : (w : World) (s : State) (u : Valuation) → Obeys new w → Shows w cells now s.valuation → 1 ≤ length done → Shows w cells done (applied u s.pending) →
      Shows w cells done' (applied u (g s).pending)

-- a statement that may not be there
abbrev pub good_or : Signals → Option FlatStmt → Bool
good_or S None = true
good_or S (Some s) = good_stmt S s

abbrev pub keeps_or : Signals → Option FlatStmt → State → State
keeps_or S None s = s
keeps_or S (Some t) s = keeps_writes S t s

abbrev pub keeps_all : Signals → List FlatStmt → State → State
keeps_all S [] s = s
keeps_all S (x ∷ xs) s = keeps_all S xs (keeps_writes S x s)

abbrev pub keeps_now : Signals → FlatTarget → FlatExpr → State → State
keeps_now S target e s = kept_now (pieces S target) (reading S e) s

abbrev pub keeps_later : Signals → FlatTarget → FlatExpr → State → State
keeps_later S target e s = later_of (pieces S target) (reading S e) s

-- a table that showed a valuation shows what the combinational block leaves of it
pub record Settles (old new : Net) (S : Signals) (cells : List Cell) (before after' : List ℕ) (s : FlatStmt) : Type 0 where
  pub grows : Grows old new
  pub table : IsTable new cells after'
  pub is : (w : World) (v : Valuation) → Obeys new w → Shows w cells before v → Shows w cells after' (left_of (executes S s) v)

-- `done` showed any valuation, and shows what the writes of the block leave of it where `now` shows what the block begins with
pub record Clocks (old new : Net) (S : Signals) (cells : List Cell) (now done done' : List ℕ) (s : FlatStmt) : Type 0 where
  pub grows : Grows old new
  pub table : IsTable new cells done'
  pub is : (w : World) (v u : Valuation) → Obeys new w → Shows w cells now v → Shows w cells done u → Shows w cells done' (applied u (writes_from S s v))

-- ---- bits

-- no `=` writes the bit
abbrev pub OnceSpares : Bit → Event → Type 0
OnceSpares b e = e.at_once ≡ true → (v : Valuation) → has_bit (flat_map place_bits (places v e.targets)) b ≡ false

-- no `<=` writes it
abbrev pub LaterSpares : Bit → Event → Type 0
LaterSpares b e = e.at_once ≡ false → (v : Valuation) → has_bit (flat_map place_bits (places v e.targets)) b ≡ false

-- not both write it
abbrev pub IsUnmixed : Signals → FlatStmt → Bit → Type 0
IsUnmixed S s b = All (OnceSpares b) (flow S s).events ⊎ All (LaterSpares b) (flow S s).events
