-- Paths through a block: the bits that it reads and writes, in order.
use Rattle.std.specs.Prelude.{ℕ, ◌^◌, Bool, true, false, not, ◌&&◌, ◌||◌, if◌then◌else◌, nat_le, List, [], ◌∷◌, ◌++◌, map, Option, Some, None, flat_map, filter}
use Rattle.std.specs.List.{list_any, list_all, range_with_len}
use Rattle.lv_bits.specs.Values.{extended, keeps_width}
use Rattle.lv_ast.specs.declared.expr.Expr.TheVariants as x
use Rattle.lv_ast.specs.declared.expr.Expr.{Expr}
use Rattle.lv_ast.specs.declared.stmt.Target.{Target}
use Rattle.lv_ast.specs.declared.stmt.Stmt.{Stmt}
use Rattle.lv_ast.specs.declared.stmt.Stmt.TheOpen.{Stmt-F}
use Rattle.lv_source.specs.Values.{nowhere}
use Rattle.lv_ast.specs.Trees.{fold_stmt}
use Rattle.lv_source.specs.Names.{Names, known}
use Rattle.lv_source.specs.Places.{Bit, has_bit}
use Rattle.lv_source.specs.Meaning.{Reading, read_expr, all_constant, bits_named, index_reads}
use Rattle.lv_source.specs.Effect.{Piece, pieces, Label, Arm, Width, common_of, fits_label, arm_labels, label_of, read_arm, is_met, ArmOf, arm_step, is_default, with_index, turns}

-- a step of a path: what it reads, and then the target that it writes, at once or after the block
pub record Event : Type 0 where
  pub reads : List Bit
  pub targets : List Piece
  pub at_once : Bool
  pub place : ℕ

abbrev pub writes_of : List Piece → List Bit
writes_of ps = flat_map (λ p. bits_named (known p.declared) p.choices) ps

-- the bits that it may write
abbrev pub event_writes : Event → List Bit
event_writes e = writes_of e.targets

-- those that it writes for sure
abbrev pub event_surely : Event → List Bit
event_surely e = writes_of (filter (λ p. all_constant p.choices) e.targets)

pub record Flow : Type 0 where
  -- all that stands in the block
  pub events : List Event
  -- the ways through it
  pub paths : List (List Event)

abbrev pub Flows : Type 0
Flows = Names → Flow

abbrev pub still : Flow
still = record { events = []; paths = [] ∷ [] }

abbrev pub one : Event → Flow
one e = record { events = e ∷ []; paths = (e ∷ []) ∷ [] }

abbrev pub then_flow : Flow → Flow → Flow
then_flow a b = record { events = a.events ++ b.events; paths = flat_map (λ p. map (λ q. p ++ q) b.paths) a.paths }

abbrev pub either_flow : Flow → Flow → Flow
either_flow a b = record { events = a.events ++ b.events; paths = a.paths ++ b.paths }

abbrev pub all_flows : List Flow → Flow
all_flows [] = still
all_flows (f ∷ fs) = then_flow f (all_flows fs)

abbrev pub looks : List Bit → Flow
looks bs = one (record { reads = bs; targets = []; at_once = true; place = 0 })

abbrev pub write_flow : Bool → List Piece → Reading → ℕ → Flow
write_flow at_once ps x place =
    one (record { reads = x.reads ++ flat_map (λ p. index_reads p.choices) ps; targets = ps; at_once = at_once; place = place })

abbrev pub writes : Bool → Names → Target → Expr → ℕ → Flow
writes at_once names t x place = write_flow at_once (pieces names t) (read_expr names x) place

abbrev pub flow_or : Option Flows → Flows
flow_or None names = still
flow_or (Some f) names = f names

-- the branch of a constant condition alone, though all of it stands there
abbrev pub branches : Reading → Bool → Flow → Flow → Flow
branches c holds a b =
    if c.constant then record { events = a.events ++ b.events; paths = if holds then a.paths else b.paths } else either_flow a b

-- a condition, and then one of the branches
abbrev pub if_flow : Reading → Flow → Flow → Flow
if_flow c a b = then_flow (looks c.reads) (branches c (is_met nowhere c) a b)

-- an expression that at a greater width is its own value, extended
abbrev pub is_extended : Expr → Bool
is_extended (x.Lit l) = true
is_extended (x.Name' path n ss) = true
is_extended (x.Cat' n es) = true
is_extended (x.Rep' n a m es) = true
is_extended (x.Cast' signed n a) = true
is_extended (x.Un' op n a) = not (keeps_width op)
is_extended (x.Bin' op n a m b) = not (keeps_width op)
is_extended _ = false

-- each value that the selector can have at the width of the `case` has a label that fits; that width counts where the selector may have a carry there
abbrev pub is_full_of : Bool → Bool → Reading → List Label → Bool
is_full_of wild own x labels =
    let c : Width = common_of x labels in
    let w : ℕ = if own then x.meaning.width else c.width in
    nat_le w 8 && list_all (λ l. l.reading.constant) labels &&
    list_all (λ y. list_any (fits_label nowhere wild c (extended c.signed w c.width y)) labels) (range_with_len 0 (if nat_le w 8 then 2 ^ w else 0))

abbrev pub is_full : Names → Bool → Expr → List Expr → Bool
is_full names wild e labels = is_full_of wild (is_extended e) (read_expr names e) (map (label_of names) labels)

abbrev pub no_match : Bool → Flow
no_match can = if can then still else record { events = []; paths = [] }

-- whether the selector at a greater width is its own value, extended; the selector and the arms
abbrev pub case_flow_of : Bool → Bool → Reading → List (Arm Flow) → Flow
case_flow_of wild own x arms =
    let labels : List Label = arm_labels arms in
    let default : Bool = list_any (λ a. is_default a.labels) arms in
    let start : Flow = no_match (not default && not (is_full_of wild own x labels)) in
    let looked : List Bit = x.reads ++ flat_map (λ l. l.reading.reads) labels in
    then_flow (looks looked) (record { events = flat_map (λ a. a.body.events) arms; paths = flat_map (λ a. a.body.paths) arms ++ start.paths })

abbrev pub case_flow : Bool → Expr → List (ArmOf Flows) → Flows
case_flow wild x arms names = case_flow_of wild (is_extended x) (read_expr names x) (map (read_arm names) arms)

abbrev pub flow_step : Stmt-F Flows (ArmOf Flows) → Flows
flow_step Stmt-F.Null names = still
flow_step (Stmt-F.Block name body) names = all_flows (map (λ f. f names) body)
flow_step (Stmt-F.If x then_ else_) names = if_flow (read_expr names x) (then_ names) (flow_or else_ names)
flow_step (Stmt-F.Case wild x arms) names = case_flow wild x arms names
flow_step (Stmt-F.Loop index start test again next body) names =
    all_flows (map (λ k. body (with_index names index.name k)) (turns names index.name start test next))
flow_step (Stmt-F.Now target x place) names = writes true names target x place
flow_step (Stmt-F.Later target x place) names = writes false names target x place

unfoldable pub flow : Names → Stmt → Flow
flow names s = fold_stmt Flows (ArmOf Flows) flow_step arm_step s names

abbrev pub block_writes : Flow → List Bit
block_writes f = flat_map event_writes f.events

abbrev pub block_reads : Flow → List Bit
block_reads f = flat_map (λ e. e.reads) f.events

-- the bits that a path assigns for sure
abbrev pub surely : List Event → List Bit
surely es = flat_map event_surely es

-- a path leaves a bit unassigned that the block drives
abbrev pub is_latch : Flow → Bool
is_latch f = list_any (λ p. list_any (λ b. not (has_bit (surely p) b)) (block_writes f)) f.paths

-- a path reads a bit that the block drives before it has assigned it
abbrev pub reads_first : List Bit → List Bit → List Event → Bool
reads_first driven done [] = false
reads_first driven done (e ∷ es) =
    list_any (λ b. has_bit driven b && not (has_bit done b)) e.reads || reads_first driven (event_surely e ++ done) es

abbrev pub is_read_first : Flow → Bool
is_read_first f = list_any (reads_first (block_writes f) []) f.paths
