-- The steps of statements side by side.
use Rattle.lv_source.specs.Views.{Way}
use Rattle.lv_flat.specs.FlatViews.{way_of as views_way}
use Rattle.lv_flat.specs.declared.part.FlatBody.{FlatBody}
use Rattle.lv_flat.specs.declared.part.FlatBody.TheVariants as bodies
use Rattle.lv_flat.specs.declared.stmt.FlatStmt.{FlatStmt}
use Rattle.std.specs.Prelude.{◌≡◌, Bool, true, ◌&&◌, List, [], map, flat_map}
use Rattle.std.specs.List.{list_all}
use Rattle.lv_source.specs.Places.{Bit}
use Rattle.lv_source.specs.Flow.{Flow, Event}
use Rattle.lv_source.specs.Meaning.{Reading}
use Rattle.lv_source.specs.Views.{Seen}
use Rattle.lv_spans.specs.declared.span.Span.{Span}
use Rattle.lv_extents.specs.declared.extent.Aim.{Aim}
use Rattle.lv_extents.specs.declared.extent.Step.{Step}
use Rattle.lv_flat.specs.declared.stmt.FlatArm.{FlatArm}
use Rattle.lv_flat.specs.Signals.{Signals}
use Rattle.lv_flat.specs.Judged.{is_good, reading}
use Rattle.lv_flat.specs.Flows.{flow}
use Rattle.lv_flat.specs.Good.{good_stmt}

abbrev pub all_events : List Flow → List Event
all_events fs = flat_map (λ f. f.events) fs

abbrev pub arm_flow : Signals → FlatArm → Flow
arm_flow S a = flow S a.body

abbrev pub are_good_arms : Signals → List FlatArm → Bool
are_good_arms S arms = list_all (λ (x : Bool). x) (map (λ (a : FlatArm). list_all (is_good S) a.labels && good_stmt S a.body) arms)

-- what the labels of a `case` read
abbrev pub label_reads : Signals → List FlatArm → List Bit
label_reads S arms = flat_map (λ (a : FlatArm). flat_map (λ (r : Reading). r.reads) (map (reading S) a.labels)) arms

-- a step that reads alone
abbrev pub look_at : List Bit → Seen
look_at bits = record { reads = bits; targets = []; at_once = true; place = 0 }

abbrev pub aim_spans : List Aim → List Span
aim_spans as' = flat_map (λ (a : Aim). a.bits) as'

abbrev pub step_aim_spans : List Step → List Span
step_aim_spans ss = flat_map (λ (s : Step). aim_spans s.aims) ss

abbrev pub step_spans : List Step → List Span
step_spans ss = flat_map (λ (s : Step). s.reads) ss

abbrev pub flat_way : Signals → FlatBody → Way
flat_way S body = views_way S body

-- the statement of a block
abbrev pub IsBlock : FlatBody → FlatStmt → Type 0
IsBlock (bodies.Assign t x) s = ⊥
IsBlock (bodies.Combinational r) s = r ≡ s
IsBlock (bodies.Clocked name r) s = r ≡ s
