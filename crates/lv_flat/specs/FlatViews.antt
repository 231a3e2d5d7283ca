-- The view of a flat part, as that of a part of the source.
use Rattle.std.specs.Prelude.{List, [], ◌++◌, map, flat_map}
use Rattle.lv_source.specs.Names.{Valuation}
use Rattle.lv_source.specs.Places.{Bit, Place}
use Rattle.lv_source.specs.Meaning.{index_reads}
use Rattle.lv_source.specs.Effect.{Piece, places, bits_in, write_all, assigned, left_of}
use Rattle.lv_source.specs.Flow.{Event, writes_of, block_writes, block_reads}
use Rattle.lv_source.specs.Summary.{Summary, nothing_done}
use Rattle.lv_source.specs.Views.{Way, Continuous, Combinational, Edge, View, aim_of, seen_of}
use Rattle.lv_flat.specs.declared.part.FlatBody.{FlatBody}
use Rattle.lv_flat.specs.declared.part.FlatBody.TheVariants as b
use Rattle.lv_flat.specs.declared.part.FlatPart.{FlatPart}
use Rattle.lv_flat.specs.Signals.{Signals, signal_at}
use Rattle.lv_flat.specs.Judged.{reading}
use Rattle.lv_flat.specs.Executing.{pieces, executes}
use Rattle.lv_flat.specs.Flows.{flow, summary}

abbrev pub way_of : Signals → FlatBody → Way
way_of S (b.Assign t x) = Continuous
way_of S (b.Combinational s) = Combinational
way_of S (b.Clocked e s) = Edge (signal_at S e.signal).sort e.place

abbrev pub drives : Signals → FlatBody → List Bit
drives S (b.Assign t x) = writes_of (pieces S t)
drives S (b.Combinational s) = block_writes (flow S s)
drives S (b.Clocked e s) = block_writes (flow S s)

abbrev pub reads : Signals → FlatBody → List Bit
reads S (b.Assign t x) = (reading S x).reads ++ flat_map (λ q. index_reads q.choices) (pieces S t)
reads S (b.Combinational s) = block_reads (flow S s)
reads S (b.Clocked e s) = block_reads (flow S s)

abbrev pub events : Signals → FlatBody → List Event
events S (b.Assign t x) = []
events S (b.Combinational s) = (flow S s).events
events S (b.Clocked e s) = (flow S s).events

abbrev pub targets : Signals → FlatBody → List Piece
targets S (b.Assign t x) = pieces S t
targets S (b.Combinational s) = flat_map (λ e. e.targets) (flow S s).events
targets S (b.Clocked e s) = flat_map (λ e. e.targets) (flow S s).events

abbrev pub paths_of : Signals → FlatBody → Summary
paths_of S (b.Assign t x) = nothing_done
paths_of S (b.Combinational s) = summary S s
paths_of S (b.Clocked e s) = summary S s

-- what is left of v where the part has been carried out on it
abbrev pub after : Signals → FlatBody → Valuation → Valuation
after S (b.Assign t x) v = let qs : List Place = places v (pieces S t) in write_all v qs (assigned v (bits_in qs) (reading S x).meaning)
after S (b.Combinational s) v = left_of (executes S s) v
after S (b.Clocked e s) v = left_of (executes S s) v

abbrev pub flat_view : Signals → FlatPart → View
flat_view S p = record {
  at = record { path = p.path; place = p.place };
  way = way_of S p.body;
  clocks = p.clocks;
  drives = drives S p.body;
  reads = reads S p.body;
  targets = map aim_of (targets S p.body);
  events = map seen_of (events S p.body);
  paths = paths_of S p.body;
  after = after S p.body;
}

abbrev pub flat_views : Signals → List FlatPart → List View
flat_views S ps = map (flat_view S) ps
