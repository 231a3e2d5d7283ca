-- What the view of a block tells of a statement, put together from what it tells of the parts.
use Rattle.std.proofs.Common.{◌≡◌, ℕ, Bool, true, false, List, [], ◌∷◌, ◌++◌, map, refl, sym, ap, ◌∙◌}
use Rattle.std.specs.Prelude.{flat_map, filter, if◌then◌else◌}
use mathlib.Core.Path.{fun_ext}
use Rattle.lv_source.specs.Names.{Valuation, Declared, known, is_signal_sort}
use Rattle.lv_source.specs.Values.{nowhere}
use Rattle.lv_source.specs.Places.{Bit, Place, place_of}
use Rattle.lv_source.specs.Meaning.{Reading, meant, all_constant, index_reads, bits_named}
use Rattle.lv_source.specs.Effect.{Piece, State, Label, Arm, arm_labels, aimed, piece_place, places, bits_in, write_all, assigned, case_of, one_by_one, if_of, is_met, now_of, later_of}
use Rattle.lv_source.specs.Flow.{Event, Flow, writes_of, either_flow, all_flows, if_flow, case_flow_of, write_flow}
use Rattle.lv_source.specs.Summary.{Summary, nothing_done, all_summaries, if_summary, case_summary_of, write_summary}
use Rattle.lv_source.specs.Views.{Aim, Seen, aim_of, seen_of}
use Rattle.lv_source.proofs.Bridges.{two, map-map, map-join, filter-map}
use Rattle.lv_source.proofs.CaseTrees.{flat-map}
use Rattle.lv_source.proofs.ClockNames.{flat-flat}
use Rattle.lv_flat.proofs.Selects.{AllAlike, constant_same, index_same, place_same, named_bits_same}

pub record Done : Type 0 where
  pub effect : State → State
  pub events : List Seen
  pub paths : Summary

-- a statement by its effect, its flow and its summary
abbrev pub done_by : (State → State) → Flow → Summary → Done
done_by f w m = record { effect = f; events = map seen_of w.events; paths = m }

-- what a target tells
pub record Goal : Type 0 where
  pub aims : List Aim
  pub places : Valuation → List Place
  pub reads : List Bit

abbrev pub goal_of : List Piece → Goal
goal_of ps = record { aims = map aim_of ps; places = λ v. places v ps; reads = flat_map (λ p. index_reads p.choices) ps }

-- ---- the parts of a statement

abbrev pub looked : List Bit → Seen
looked bs = record { reads = bs; targets = []; at_once = true; place = 0 }

abbrev pub done_null : Done
done_null = record { effect = λ s. s; events = []; paths = nothing_done }

abbrev pub done_all : List Done → Done
done_all ds = record { effect = one_by_one (map (λ d. d.effect) ds); events = flat_map (λ d. d.events) ds; paths = all_summaries (map (λ d. d.paths) ds) }

abbrev pub done_if : Reading → Done → Done → Done
done_if x a b = record { effect = if_of x a.effect b.effect; events = looked x.reads ∷ (a.events ++ b.events); paths = if_summary x a.paths b.paths }

abbrev pub over : {A B : Type 0} → (A → B) → Arm A → Arm B
over f a = record { labels = a.labels; body = f a.body }

abbrev pub done_case : Bool → Bool → Reading → List (Arm Done) → Done
done_case wild own x arms = record {
  effect = case_of wild x (map (over (λ d. d.effect)) arms);
  events = looked (x.reads ++ flat_map (λ l. l.reading.reads) (arm_labels arms)) ∷ flat_map (λ a. a.body.events) arms;
  paths = case_summary_of wild own x (map (over (λ d. d.paths)) arms);
}

abbrev pub done_event : Bool → Goal → Reading → ℕ → Seen
done_event at_once g x place = record { reads = x.reads ++ g.reads; targets = g.aims; at_once = at_once; place = place }

abbrev pub done_summary : Goal → Reading → Summary
done_summary g x = record { written = flat_map (λ a. a.bits) g.aims; sure = flat_map (λ a. a.bits) (filter (λ a. a.sure) g.aims); exposed = x.reads ++ g.reads }

abbrev pub done_now : Goal → Reading → ℕ → Done
done_now g x place = record {
  effect = λ s. (let ps : List Place = g.places s.valuation in record s { valuation = write_all s.valuation ps (assigned s.valuation (bits_in ps) x.meaning) });
  events = done_event true g x place ∷ [];
  paths = done_summary g x;
}

abbrev pub done_later : Goal → Reading → ℕ → Done
done_later g x place = record {
  effect = λ s. (let ps : List Place = g.places s.valuation in record s
      { pending = s.pending ++ record { places = ps; value = assigned s.valuation (bits_in ps) x.meaning } ∷ [] });
  events = done_event false g x place ∷ [];
  paths = done_summary g x;
}

-- ---- the functions of the source say so

pub three : (f g : State → State) (es es' : List Seen) (m n : Summary) → f ≡ g → es ≡ es' → m ≡ n →
    (let a : Done = record { effect = f; events = es; paths = m } in a) ≡ record { effect = g; events = es'; paths = n }
three f g es es' m n h k l =
    ap (λ (z : State → State). let a : Done = record { effect = z; events = es; paths = m } in a) h ∙
    two (λ (x : List Seen) (y : Summary). let a : Done = record { effect = g; events = x; paths = y } in a) _ _ _ _ k l

-- of each statement of a list
abbrev pub each_by : {A : Type 0} → (A → State → State) → (A → Flow) → (A → Summary) → A → Done
each_by f w m x = done_by (f x) (w x) (m x)

events_all : (ws : List Flow) → map seen_of (all_flows ws).events ≡ flat_map (λ (w : Flow). map seen_of w.events) ws
events_all [] = refl
events_all (w ∷ ws) = map-join seen_of w.events (all_flows ws).events ∙ ap (λ (zs : List Seen). map seen_of w.events ++ zs) (events_all ws)

pub all_by : {A : Type 0} (f : A → State → State) (w : A → Flow) (m : A → Summary) (xs : List A) →
    done_by (one_by_one (map f xs)) (all_flows (map w xs)) (all_summaries (map m xs)) ≡ done_all (map (each_by f w m) xs)
all_by f w m xs =
    three _ _ _ _ _ _
    (ap one_by_one (sym (map-map (λ (d : Done). d.effect) (each_by f w m) xs)))
    (events_all (map w xs) ∙ flat-map (λ (z : Flow). map seen_of z.events) w xs ∙ sym (flat-map (λ (d : Done). d.events) (each_by f w m) xs))
    (ap all_summaries (sym (map-map (λ (d : Done). d.paths) (each_by f w m) xs)))

picks : (c k : Bool) (a b : Flow) →
    (if c then (let r : Flow = record { events = a.events ++ b.events; paths = if k then a.paths else b.paths } in r) else either_flow a b).events ≡
    a.events ++ b.events
picks true k a b = refl
picks false k a b = refl

pub if_by : (x : Reading) (f g : State → State) (w u : Flow) (m n : Summary) →
    done_by (if_of x f g) (if_flow x w u) (if_summary x m n) ≡ done_if x (done_by f w m) (done_by g u n)
if_by x f g w u m n =
    three _ _ _ _ _ _ refl
    (ap (λ (zs : List Event). looked x.reads ∷ map seen_of zs) (picks x.constant (is_met nowhere x) w u) ∙
    ap (λ (zs : List Seen). looked x.reads ∷ zs) (map-join seen_of w.events u.events))
    refl

-- an arm, with what its statement is
abbrev pub arm_with : {B A : Type 0} → (B → List Label) → (B → A) → B → Arm A
arm_with labels f a = record { labels = labels a; body = f a }

labels_over : {B A : Type 0} (labels : B → List Label) (f : B → A) (arms : List B) → arm_labels (map (arm_with labels f) arms) ≡ flat_map labels arms
labels_over labels f arms = flat-map (λ (a : Arm _). a.labels) (arm_with labels f) arms

arm_events : {B : Type 0} (labels : B → List Label) (w : B → Flow) (arms : List B) →
    map seen_of (flat_map (λ (a : Arm Flow). a.body.events) (map (arm_with labels w) arms)) ≡ flat_map (λ (b : B). map seen_of (w b).events) arms
arm_events labels w [] = refl
arm_events labels w (b ∷ bs) = map-join seen_of (w b).events _ ∙ ap (λ (zs : List Seen). map seen_of (w b).events ++ zs) (arm_events labels w bs)

pub case_by : {B : Type 0} (labels : B → List Label) (f : B → State → State) (w : B → Flow) (m : B → Summary) (wild own : Bool) (x : Reading) (arms : List B) →
    done_by (case_of wild x (map (arm_with labels f) arms)) (case_flow_of wild own x (map (arm_with labels w) arms))
    (case_summary_of wild own x (map (arm_with labels m) arms)) ≡
    done_case wild own x (map (arm_with labels (each_by f w m)) arms)
case_by labels f w m wild own x arms =
    let each : _ → Done = each_by f w m in
    three _ _ _ _ _ _
    (ap (case_of wild x) (sym (map-map (over (λ (d : Done). d.effect)) (arm_with labels each) arms)))
    (two (λ (ls : List Label) (zs : List Seen). looked (x.reads ++ flat_map (λ (l : Label). l.reading.reads) ls) ∷ zs) _ _ _ _
    (labels_over labels w arms ∙ sym (labels_over labels each arms))
    (arm_events labels w arms ∙ sym (flat-map (λ (a : Arm Done). a.body.events) (arm_with labels each) arms)))
    (ap (case_summary_of wild own x) (sym (map-map (over (λ (d : Done). d.paths)) (arm_with labels each) arms)))

-- ---- writes

writes_aims : (ps : List Piece) → writes_of ps ≡ flat_map (λ (a : Aim). a.bits) (map aim_of ps)
writes_aims ps = sym (flat-map (λ (a : Aim). a.bits) aim_of ps)

surely_aims : (ps : List Piece) → writes_of (filter (λ (p : Piece). all_constant p.choices) ps) ≡ flat_map (λ (a : Aim). a.bits)
    (filter (λ (a : Aim). a.sure) (map aim_of ps))
surely_aims ps = writes_aims (filter (λ (p : Piece). all_constant p.choices) ps) ∙
    ap (flat_map (λ (a : Aim). a.bits)) (sym (filter-map (λ (a : Aim). a.sure) aim_of ps))

pub summary_by : (ps : List Piece) (x : Reading) → write_summary ps x ≡ done_summary (goal_of ps) x
summary_by ps x =
    two (λ (a b : List Bit). let s : Summary =
    record { written = a; sure = b; exposed = x.reads ++ flat_map (λ (p : Piece). index_reads p.choices) ps } in s) _ _ _ _
    (writes_aims ps) (surely_aims ps)

pub now_by : (ps : List Piece) (x : Reading) (place : ℕ) →
    done_by (now_of ps x) (write_flow true ps x place) (write_summary ps x) ≡ done_now (goal_of ps) x place
now_by ps x place = three _ _ _ _ _ _ refl refl (summary_by ps x)

pub later_by : (ps : List Piece) (x : Reading) (place : ℕ) →
    done_by (later_of ps x) (write_flow false ps x place) (write_summary ps x) ≡ done_later (goal_of ps) x place
later_by ps x place = three _ _ _ _ _ _ refl refl (summary_by ps x)

-- ---- targets

abbrev pub join_goals : List Goal → Goal
join_goals gs = record { aims = flat_map (λ g. g.aims) gs; places = λ v. flat_map (λ (g : Goal). g.places v) gs; reads = flat_map (λ g. g.reads) gs }

goals : (f g : List Aim) (p q : Valuation → List Place) (r s : List Bit) → f ≡ g → p ≡ q → r ≡ s →
    (let a : Goal = record { aims = f; places = p; reads = r } in a) ≡ record { aims = g; places = q; reads = s }
goals f g p q r s h k l =
    ap (λ (z : List Aim). let a : Goal = record { aims = z; places = p; reads = r } in a) h ∙
    two (λ (x : Valuation → List Place) (y : List Bit). let a : Goal = record { aims = g; places = x; reads = y } in a) _ _ _ _ k l

flat_over : {B : Type 0} (f : Piece → B) (pss : List (List Piece)) →
    map f (flat_map (λ (ps : List Piece). ps) pss) ≡ flat_map (λ (ps : List Piece). map f ps) pss
flat_over f [] = refl
flat_over f (ps ∷ pss) = map-join f ps _ ∙ ap (λ (zs : List _). map f ps ++ zs) (flat_over f pss)

-- the goal of a concatenation
pub goal_all : (pss : List (List Piece)) → goal_of (flat_map (λ (ps : List Piece). ps) pss) ≡ join_goals (map goal_of pss)
goal_all pss =
    goals _ _ _ _ _ _
    (flat_over aim_of pss ∙ sym (flat-map (λ (g : Goal). g.aims) goal_of pss))
    (fun_ext (λ v. flat_over (piece_place v) pss ∙ sym (flat-map (λ (g : Goal). g.places v) goal_of pss)))
    (flat-flat (λ (p : Piece). index_reads p.choices) (λ (ps : List Piece). ps) pss ∙ sym (flat-map (λ (g : Goal). g.reads) goal_of pss))

aim_same : (p q : Piece) → known p.declared ≡ known q.declared → p.path.place ≡ q.path.place → AllAlike p.choices q.choices → aim_of p ≡ aim_of q
aim_same p q h k l =
    two (λ (d : Declared) (n : ℕ). let a : Aim = record { sort = d.sort; bits = bits_named d p.choices; sure = all_constant p.choices; place = n } in a) _ _
    _ _ h k ∙
    two (λ (bs : List Bit) (b : Bool). let a : Aim = record { sort = (known q.declared).sort; bits = bs; sure = b; place = q.path.place } in a) _ _ _ _
    (named_bits_same (known q.declared) p.choices q.choices l) (constant_same p.choices q.choices l)

place_alike : (v : Valuation) (p q : Piece) → known p.declared ≡ known q.declared → AllAlike p.choices q.choices → piece_place v p ≡ piece_place v q
place_alike v p q h l =
    ap (λ (d : Declared). aimed (is_signal_sort d.sort) (place_of d (map meant p.choices) v)) h ∙
    ap (λ (z : Place). aimed (is_signal_sort (known q.declared).sort) z) (place_same (known q.declared) p.choices q.choices l v)

-- a name with selects that name the same bits
pub goal_one : (p q : Piece) → known p.declared ≡ known q.declared → p.path.place ≡ q.path.place → AllAlike p.choices q.choices →
    goal_of (p ∷ []) ≡ goal_of (q ∷ [])
goal_one p q h k l =
    goals _ _ _ _ _ _
    (ap (λ (a : Aim). a ∷ []) (aim_same p q h k l))
    (fun_ext (λ v. ap (λ (z : Place). z ∷ []) (place_alike v p q h l)))
    (ap (λ (bs : List Bit). bs ++ []) (index_same p.choices q.choices l))
