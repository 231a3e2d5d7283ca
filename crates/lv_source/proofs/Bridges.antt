-- Each rule on parts is the rule on their views; so are settled valuations, the next state and the bits of the registers.
use Rattle.std.proofs.Common.{◌≡◌, ◌↔◌, ℕ, zero, suc, Bool, true, false, ◌&&◌, ◌||◌, ◌==◌, not, List, [], ◌∷◌, ◌++◌, map, refl, sym, ap, ◌∙◌, subst, Option, Some, None}
use Rattle.std.specs.Prelude.{flat_map, filter, cond, find, take, drop, slice_get, All, if◌then◌else◌}
use Rattle.std.specs.List.{list_any, list_all}
use mathlib.Core.Path.{fun_ext}
use Rattle.std.proofs.lemmas.List.Elements.{All-nil, All-cons, All-head, All-tail}
use Rattle.lv_ast.specs.Names.{Name}
use Rattle.lv_source.specs.Names.{Declared, Valuation, is_variable_sort, is_input_sort, is_clock_sort, is_signal_sort}
use Rattle.lv_source.specs.Places.{Bit, has_bit, whole, cells, bits_below, bit_at}
use Rattle.lv_source.specs.Effect.{Piece}
use Rattle.lv_source.specs.Flow.{Event, event_writes}
use Rattle.lv_source.specs.Summary.{leaves_latch, exposes_own}
use Rattle.lv_source.specs.Parts.{Design, Part, Body, At, Assign, Comb, Clocked, parts, signals_of, drives, reads, is_clocked, is_comb, driven_by, read_by, is_register, is_wired, register_signals, width_from, numbered_from}
use Rattle.lv_source.specs.PartRules as r
use Rattle.lv_source.specs.ScopeRules.{same_sign}
use Rattle.lv_source.specs.Settled.{IsSettled, Follows, idle_bits, left_bit, next_bit, register_bits}
use Rattle.lv_source.specs.Legal.{WrongKind, Blocking, Nonblocking, TwoDrivers, Undriven, Latch, ReadFirst, places_of, at_parts}
use Rattle.lv_source.specs.Views as v
use Rattle.lv_source.specs.Views.{Aim, Seen, View, aim_of, seen_of, way_of, view_of, views_of}
use Rattle.lv_source.proofs.CaseTrees.{all-map, flat-map}
use Rattle.lv_source.proofs.Summaries.{latch_is, read_first_is}

-- ---- lists

pub two : {A B C : Type 0} (f : A → B → C) (x y : A) (u v : B) → x ≡ y → u ≡ v → f x u ≡ f y v
two f x y u v h k = ap (λ z. f z u) h ∙ ap (λ z. f y z) k

pub map-map : {A B C : Type 0} (g : B → C) (f : A → B) (xs : List A) → map g (map f xs) ≡ map (λ x. g (f x)) xs
map-map g f [] = refl
map-map g f (x ∷ xs) = ap (λ zs. g (f x) ∷ zs) (map-map g f xs)

filter_one : {A B : Type 0} (f : A → B) (x : A) (xs : List A) (k : Bool) → cond k (f x ∷ map f xs) (map f xs) ≡ map f (cond k (x ∷ xs) xs)
filter_one f x xs true = refl
filter_one f x xs false = refl

pub filter-map : {A B : Type 0} (q : B → Bool) (f : A → B) (xs : List A) → filter q (map f xs) ≡ map f (filter (λ x. q (f x)) xs)
filter-map q f [] = refl
filter-map q f (x ∷ xs) = ap (λ zs. cond (q (f x)) (f x ∷ zs) zs) (filter-map q f xs) ∙ filter_one f x (filter (λ x. q (f x)) xs) (q (f x))

take-map : {A B : Type 0} (f : A → B) (k : ℕ) (xs : List A) → take k (map f xs) ≡ map f (take k xs)
take-map f zero xs = refl
take-map f (suc k) [] = refl
take-map f (suc k) (x ∷ xs) = ap (λ zs. f x ∷ zs) (take-map f k xs)

drop-map : {A B : Type 0} (f : A → B) (k : ℕ) (xs : List A) → drop k (map f xs) ≡ map f (drop k xs)
drop-map f zero xs = refl
drop-map f (suc k) [] = refl
drop-map f (suc k) (x ∷ xs) = drop-map f k xs

pub map-join : {A B : Type 0} (f : A → B) (xs ys : List A) → map f (xs ++ ys) ≡ map f xs ++ map f ys
map-join f [] ys = refl
map-join f (x ∷ xs) ys = ap (λ zs. f x ∷ zs) (map-join f xs ys)

others-map : {A B : Type 0} (f : A → B) (k : ℕ) (xs : List A) → r.others k (map f xs) ≡ map f (r.others k xs)
others-map f k xs = two (λ (a b : List _). a ++ b) _ _ _ _ (take-map f k xs) (drop-map f (suc k) xs) ∙ sym (map-join f (take k xs) (drop (suc k) xs))

-- any of the mapped, by a test that is the same before
pub any-over : {A B : Type 0} (p : A → Bool) (q : B → Bool) (f : A → B) (xs : List A) → ((x : A) → p x ≡ q (f x)) → list_any p xs ≡ list_any q (map f xs)
any-over p q f [] h = refl
any-over p q f (x ∷ xs) h = two (λ a b. a || b) _ _ _ _ (h x) (any-over p q f xs h)

pub any-alike : {A : Type 0} (p q : A → Bool) (xs : List A) → ((x : A) → p x ≡ q x) → list_any p xs ≡ list_any q xs
any-alike p q [] h = refl
any-alike p q (x ∷ xs) h = two (λ a b. a || b) _ _ _ _ (h x) (any-alike p q xs h)

pub flat-over : {A B C : Type 0} (g : A → List C) (h : B → List C) (f : A → B) (xs : List A) → ((x : A) → g x ≡ h (f x)) → flat_map g xs ≡ flat_map h (map f xs)
flat-over g h f [] e = refl
flat-over g h f (x ∷ xs) e = two (λ (a b : List _). a ++ b) _ _ _ _ (e x) (flat-over g h f xs e)

pub filter-over : {A B : Type 0} (p : A → Bool) (q : B → Bool) (f : A → B) (xs : List A) → ((x : A) → p x ≡ q (f x)) → map f (filter p xs) ≡ filter q (map f xs)
filter-over p q f xs h = ap (λ (t : _ → Bool). map f (filter t xs)) (fun_ext h) ∙ sym (filter-map q f xs)

-- ---- parts and views

way_clocked : (b : Body) → (elim b [ Assign ps value ↦ false | Comb names s ↦ false | Clocked names c s ↦ true ]) ≡ v.is_edge (way_of b)
way_clocked (Assign ps value) = refl
way_clocked (Comb names s) = refl
way_clocked (Clocked names c s) = refl

way_comb : (b : Body) → (elim b [ Assign ps value ↦ false | Comb names s ↦ true | Clocked names c s ↦ false ]) ≡ v.is_combinational (way_of b)
way_comb (Assign ps value) = refl
way_comb (Comb names s) = refl
way_comb (Clocked names c s) = refl

way_block : (b : Body) → (elim b [ Assign ps value ↦ false | Comb names s ↦ true | Clocked names c s ↦ true ]) ≡ not (v.is_continuous (way_of b))
way_block (Assign ps value) = refl
way_block (Comb names s) = refl
way_block (Clocked names c s) = refl

clocked : (p : Part) → is_clocked p ≡ v.is_edge (view_of p).way
clocked p = way_clocked p.body

comb : (p : Part) → is_comb p ≡ v.is_combinational (view_of p).way
comb p = way_comb p.body

block : (p : Part) → r.is_block p ≡ not (v.is_continuous (view_of p).way)
block p = way_block p.body

aims : (p : Part) → r.target_places p ≡ v.aimed_at (view_of p)
aims p = ap (λ ats. p.at ∷ ats) (sym (map-map (λ (a : Aim). v.at_view (view_of p) a.place) aim_of (r.targets p)))

-- a rule at each part is a rule at each view
pub each : (f : ℕ → Part → List At) (g : ℕ → View → List At) (ps : List Part) (j : ℕ) → ((k : ℕ) (p : Part) → f k p ≡ g k (view_of p)) →
    flat_map (λ (kp : ℕ × Part). f kp.0 kp.1) (numbered_from j ps) ≡ flat_map (λ (kv : ℕ × View). g kv.0 kv.1) (numbered_from j (map view_of ps))
each f g [] j h = refl
each f g (p ∷ ps) j h = two (λ (a b : List At). a ++ b) _ _ _ _ (h j p) (each f g ps (suc j) h)

told : (a b : Bool) (x y : List At) → a ≡ b → x ≡ y → r.told_if a x ≡ r.told_if b y
told a b x y h k = two r.told_if _ _ _ _ h k

-- ---- WrongKind

wrong_aim : (k : Bool) (q : Piece) → (if k then r.is_no_reg else r.is_reg_piece) q ≡ (if k then is_signal_sort (aim_of q).sort && not (is_variable_sort (aim_of q).sort) else is_variable_sort (aim_of q).sort)
wrong_aim true q = refl
wrong_aim false q = refl

if_not : (k j : Bool) (a b : Bool) → k ≡ not j → (if k then a else b) ≡ (if j then b else a)
if_not true true a b h = absurd (cc)
if_not true false a b h = refl
if_not false true a b h = refl
if_not false false a b h = absurd (cc)

wrong : (d : Design) (p : Part) → r.is_wrong_kind d p ≡ v.is_wrong_view (signals_of d) (view_of p)
wrong d p = two (λ a b. a || b) _ _ _ _
    (any-over (if r.is_block p then r.is_no_reg else r.is_reg_piece) (v.is_wrong_aim (view_of p).way) aim_of (r.targets p)
    (λ q. wrong_aim (r.is_block p) q ∙ if_not (r.is_block p) (v.is_continuous (view_of p).way) _ _ (block p)))
    (any-alike _ _ (signals_of d) (λ x. ap (λ k. r.touches (drives p) x && not (same_sign k (is_variable_sort x.sort)) && not (is_input_sort x.sort)) (block p)))

pub bridge_wrong : (d : Design) → places_of d WrongKind ≡ v.wrong_views (signals_of d) (views_of d)
unfolding places_of
bridge_wrong d = each (λ k p. r.wrong_kinds d p) (λ k w. r.told_if (v.is_wrong_view (signals_of d) w) (v.aimed_at w)) (parts d) 0 (λ k p. told _ _ _ _ (wrong d p) (aims p))

-- ---- Nonblocking and Blocking

first_names : (qs : List Piece) → r.first_name qs ≡ v.first_aim (map aim_of qs)
first_names [] = refl
first_names (q ∷ qs) = refl

places_same : (p : Part) (e : Event) → r.event_places p e ≡ v.seen_places (view_of p) (seen_of e)
places_same p e = ap (λ ns. map (v.at_view (view_of p)) (e.place ∷ ns)) (first_names e.targets)

writes_same : (e : Event) → event_writes e ≡ v.seen_writes (seen_of e)
writes_same e = sym (flat-map (λ (a : Aim). a.bits) aim_of e.targets)

-- the events that a test takes, told at their places
events_same : (p : Part) (f : Event → Bool) (g : Seen → Bool) → ((e : Event) → f e ≡ g (seen_of e)) →
    flat_map (r.event_places p) (filter f (r.events p)) ≡ flat_map (v.seen_places (view_of p)) (filter g (view_of p).events)
events_same p f g h =
    flat-over (r.event_places p) (v.seen_places (view_of p)) seen_of (filter f (r.events p)) (places_same p) ∙
    ap (flat_map (v.seen_places (view_of p))) (filter-over f g seen_of (r.events p) h)

pub bridge_nonblocking : (d : Design) → places_of d Nonblocking ≡ v.nonblocking_views (views_of d)
unfolding places_of
bridge_nonblocking d = each (λ k p. r.nonblocking p) (λ k w. flat_map (v.seen_places w) (filter (λ e. v.is_combinational w.way && not e.at_once) w.events)) (parts d) 0
    (λ k p. events_same p (λ e. is_comb p && not e.at_once) (λ e. v.is_combinational (view_of p).way && not e.at_once) (λ e. ap (λ b. b && not e.at_once) (comb p)))

later_writes : (x : Declared) (q : Part) → list_any (λ (e : Event). not e.at_once && r.touches (event_writes e) x) (r.events q) ≡
    list_any (λ (e : Seen). not e.at_once && r.touches (v.seen_writes e) x) (view_of q).events
later_writes x q = any-over _ _ seen_of (r.events q) (λ e. ap (λ ws. not e.at_once && r.touches ws x) (writes_same e))

shared : (ps : List Part) (k : ℕ) (x : Declared) → r.is_shared ps k x ≡ v.is_shared_view (map view_of ps) k x
shared ps k x = two (λ a b. a || b) _ _ _ _
    (any-over _ (λ w. v.is_edge w.way && list_any (λ (e : Seen). not e.at_once && r.touches (v.seen_writes e) x) w.events) view_of ps
    (λ q. two (λ a b. a && b) _ _ _ _ (clocked q) (later_writes x q)))
    (any-over (λ q. r.touches (reads q) x) (λ w. r.touches w.reads x) view_of (r.others k ps) (λ q. refl) ∙ ap (list_any (λ w. r.touches w.reads x)) (sym (others-map view_of k ps)))

blocks : (d : Design) (ps : List Part) (k : ℕ) (e : Event) → r.is_blocking d ps k e ≡ v.is_blocking_seen (signals_of d) (map view_of ps) k (seen_of e)
blocks d ps k e = ap (λ b. e.at_once && b) (any-alike _ _ (signals_of d)
    (λ x. two (λ a b. (is_variable_sort x.sort && a) && b) _ _ _ _ (ap (λ ws. r.touches ws x) (writes_same e)) (shared ps k x)))

blocking_at : (d : Design) (ps : List Part) (k : ℕ) (p : Part) → r.blocking d ps k p ≡
    (if v.is_edge (view_of p).way then flat_map (v.seen_places (view_of p)) (filter (v.is_blocking_seen (signals_of d) (map view_of ps) k) (view_of p).events) else [])
blocking_at d ps k p = two (λ c (xs : List At). if c then xs else []) _ _ _ _ (clocked p)
    (events_same p (r.is_blocking d ps k) (v.is_blocking_seen (signals_of d) (map view_of ps) k) (blocks d ps k))

pub bridge_blocking : (d : Design) → places_of d Blocking ≡ v.blocking_views (signals_of d) (views_of d)
unfolding places_of
bridge_blocking d = each (λ k p. r.blocking d (parts d) k p)
    (λ k w. if v.is_edge w.way then flat_map (v.seen_places w) (filter (v.is_blocking_seen (signals_of d) (views_of d) k) w.events) else []) (parts d) 0
    (λ k p. blocking_at d (parts d) k p)

-- ---- TwoDrivers

driven : (ps : List Part) (b : Bit) → driven_by ps b ≡ v.view_driven (map view_of ps) b
driven ps b = any-over (λ p. has_bit (drives p) b) (λ w. has_bit w.drives b) view_of ps (λ p. refl)

readers : (ps : List Part) (b : Bit) → read_by ps b ≡ v.view_read (map view_of ps) b
readers ps b = any-over (λ p. has_bit (reads p) b) (λ w. has_bit w.reads b) view_of ps (λ p. refl)

other_drivers : (ps : List Part) (k : ℕ) (b : Bit) → driven_by (r.others k ps) b ≡ v.view_driven (r.others k (map view_of ps)) b
other_drivers ps k b = driven (r.others k ps) b ∙ ap (λ ws. v.view_driven ws b) (sym (others-map view_of k ps))

twice_by : (a : At) (cs : List ℕ) (b : Body) → r.is_twice_named (record { at = a; clocks = cs; body = b }) ≡ (v.is_continuous (way_of b) && r.has_twice (drives (record { at = a; clocks = cs; body = b })))
twice_by a cs (Assign ps value) = refl
twice_by a cs (Comb names s) = refl
twice_by a cs (Clocked names c s) = refl

twice : (p : Part) → r.is_twice_named p ≡ (v.is_continuous (view_of p).way && r.has_twice (view_of p).drives)
twice p = twice_by p.at p.clocks p.body

mixed : (ps : List Part) (p : Part) (x : Declared) → r.is_mixed ps p x ≡ v.is_mixed_view (map view_of ps) (view_of p) x
mixed ps p x = ap (λ c. (is_variable_sort x.sort && r.touches (drives p) x) && c)
    (any-over _ (λ w. r.touches w.drives x && not (same_sign (v.is_edge (view_of p).way) (v.is_edge w.way))) view_of ps
    (λ q. two (λ a b. r.touches (drives q) x && not (same_sign a b)) _ _ _ _ (clocked p) (clocked q)))

two_at : (d : Design) (ps : List Part) (k : ℕ) (p : Part) → r.is_two_drivers d ps k p ≡ v.is_two_view (signals_of d) (map view_of ps) k (view_of p)
two_at d ps k p =
    two (λ a b. ((a || b) || list_any (λ x. is_input_sort x.sort && r.touches (drives p) x) (signals_of d)) || list_any (r.is_mixed ps p) (signals_of d)) _ _ _ _
    (any-alike (driven_by (r.others k ps)) (v.view_driven (r.others k (map view_of ps))) (drives p) (other_drivers ps k)) (twice p) ∙
    ap (λ c. v.is_two_view_but (signals_of d) (map view_of ps) k (view_of p) || c) (any-alike (r.is_mixed ps p) (v.is_mixed_view (map view_of ps) (view_of p)) (signals_of d) (mixed ps p))

pub bridge_two : (d : Design) → places_of d TwoDrivers ≡ v.two_views (signals_of d) (views_of d)
unfolding places_of
bridge_two d = each (λ k p. r.two_drivers d (parts d) k p) (λ k w. r.told_if (v.is_two_view (signals_of d) (views_of d) k w) (v.aimed_at w)) (parts d) 0
    (λ k p. told _ _ _ _ (two_at d (parts d) k p) (aims p))

-- ---- Undriven

comb_parts : (ps : List Part) → map view_of (filter is_comb ps) ≡ filter (λ (w : View). v.is_combinational w.way) (map view_of ps)
comb_parts ps = filter-over is_comb (λ w. v.is_combinational w.way) view_of ps comb

register : (ps : List Part) (x : Declared) → is_register ps x ≡ v.is_register_view (map view_of ps) x
register ps x = ap (λ c. is_variable_sort x.sort && not c)
    (any-alike (driven_by (filter is_comb ps)) (v.view_driven (filter (λ (w : View). v.is_combinational w.way) (map view_of ps))) (whole x)
    (λ b. driven (filter is_comb ps) b ∙ ap (λ ws. v.view_driven ws b) (comb_parts ps)))

wired : (ps : List Part) (x : Declared) → is_wired ps x ≡ v.is_wired_view (map view_of ps) x
wired ps x = ap (λ c. not (is_input_sort x.sort) && not c) (register ps x)

undriven_at : (d : Design) (ps : List Part) (p : Part) → r.is_undriven d ps p ≡ v.is_undriven_view (signals_of d) (map view_of ps) (view_of p)
undriven_at d ps p = any-alike _ _ (signals_of d) (λ x. two (λ a b. a && b) _ _ _ _ (wired ps x)
    (any-alike _ _ (reads p) (λ b. ap (λ c. has_bit (whole x) b && not c) (driven ps b))))

pub bridge_undriven : (d : Design) → places_of d Undriven ≡ v.undriven_views (signals_of d) (views_of d)
unfolding places_of
bridge_undriven d = each (λ k p. r.undriven d (parts d) p) (λ k w. r.told_if (v.is_undriven_view (signals_of d) (views_of d) w) (w.at ∷ [])) (parts d) 0
    (λ k p. told _ _ _ _ (undriven_at d (parts d) p) refl)

-- ---- Latch and ReadFirst

latch_by : (a : At) (cs : List ℕ) (b : Body) → r.has_latch (record { at = a; clocks = cs; body = b }) ≡ (v.is_combinational (way_of b) && leaves_latch (v.paths_of b))
latch_by a cs (Assign ps value) = refl
latch_by a cs (Comb names s) = latch_is names s
latch_by a cs (Clocked names c s) = refl

first_by : (a : At) (cs : List ℕ) (b : Body) → r.reads_itself_first (record { at = a; clocks = cs; body = b }) ≡ (v.is_combinational (way_of b) && exposes_own (v.paths_of b))
first_by a cs (Assign ps value) = refl
first_by a cs (Comb names s) = read_first_is names s
first_by a cs (Clocked names c s) = refl

pub bridge_latch : (d : Design) → places_of d Latch ≡ v.latch_views (views_of d)
unfolding places_of
bridge_latch d = each (λ k p. r.latches p) (λ k w. r.told_if (v.is_combinational w.way && leaves_latch w.paths) (w.at ∷ [])) (parts d) 0
    (λ k p. told _ _ _ _ (latch_by p.at p.clocks p.body) refl)

pub bridge_first : (d : Design) → places_of d ReadFirst ≡ v.first_views (views_of d)
unfolding places_of
bridge_first d = each (λ k p. r.read_first p) (λ k w. r.told_if (v.is_combinational w.way && exposes_own w.paths) (w.at ∷ [])) (parts d) 0
    (λ k p. told _ _ _ _ (first_by p.at p.clocks p.body) refl)

-- ---- targets that aren't constant, and clocks that are targets or that no `posedge` may name

unfixed_by : (a : At) (cs : List ℕ) (b : Body) → r.is_unfixed (record { at = a; clocks = cs; body = b }) ≡ (v.is_continuous (way_of b) && not (list_all (λ (x : Aim). x.sure) (map aim_of (r.targets (record { at = a; clocks = cs; body = b })))))
unfixed_by a cs (Assign ps value) = ap not (all-map (λ (x : Aim). x.sure) aim_of ps)
unfixed_by a cs (Comb names s) = refl
unfixed_by a cs (Clocked names c s) = refl

pub bridge_unfixed : (d : Design) → at_parts d (λ ps k p. r.unfixed_targets p) ≡ v.unfixed_views (views_of d)
bridge_unfixed d = each (λ k p. r.unfixed_targets p) (λ k w. r.told_if (v.is_continuous w.way && not (list_all (λ (x : Aim). x.sure) w.targets)) (v.aimed_at w)) (parts d) 0
    (λ k p. told _ _ _ _ (unfixed_by p.at p.clocks p.body) (aims p))

edge_by : (a : At) (cs : List ℕ) (b : Body) → r.other_clocks (record { at = a; clocks = cs; body = b }) ≡ v.edge_places (view_of (record { at = a; clocks = cs; body = b }))
edge_by a cs (Assign ps value) = refl
edge_by a cs (Comb names s) = refl
edge_by a cs (Clocked names c s) = refl

clock_aims_same : (p : Part) → r.clock_targets p ≡ v.clock_aims (view_of p)
clock_aims_same p =
    sym (map-map (λ (a : Aim). v.at_view (view_of p) a.place) aim_of (filter r.is_clock_piece (r.targets p))) ∙
    ap (map (λ (a : Aim). v.at_view (view_of p) a.place)) (filter-over r.is_clock_piece (λ (a : Aim). is_clock_sort a.sort) aim_of (r.targets p) (λ q. refl))

pub bridge_clocks : (d : Design) → at_parts d (λ ps k p. r.other_clocks p ++ r.clock_targets p) ≡ v.clock_views (views_of d)
bridge_clocks d = each (λ k p. r.other_clocks p ++ r.clock_targets p) (λ k w. v.edge_places w ++ v.clock_aims w) (parts d) 0
    (λ k p. two (λ (a b : List At). a ++ b) _ _ _ _ (edge_by p.at p.clocks p.body) (clock_aims_same p))

-- ---- Cycle

feeding : (j k : ℕ) (p q : Part) → r.is_feeding j k p q ≡ v.is_view_feeding j k (view_of p) (view_of q)
feeding j k p q =
    two (λ a b. ((not a && not b) && not ((j == k) && is_comb p)) && list_any (has_bit (drives q)) (reads p)) _ _ _ _ (clocked p) (clocked q) ∙
    ap (λ c. ((not (v.is_edge (view_of p).way) && not (v.is_edge (view_of q).way)) && not ((j == k) && c)) && list_any (has_bit (drives q)) (reads p)) (comb p)

abbrev some_view : Option Part → Option View
some_view None = None
some_view (Some p) = Some (view_of p)

abbrev feed_parts : ℕ → ℕ → Option Part → Option Part → Bool
feed_parts j k None y = false
feed_parts j k (Some p) None = false
feed_parts j k (Some p) (Some q) = r.is_feeding j k p q

abbrev feed_views : ℕ → ℕ → Option View → Option View → Bool
feed_views j k None y = false
feed_views j k (Some p) None = false
feed_views j k (Some p) (Some q) = v.is_view_feeding j k p q

feed_two : (j k : ℕ) (x y : Option Part) → feed_parts j k x y ≡ feed_views j k (some_view x) (some_view y)
feed_two j k None y = refl
feed_two j k (Some p) None = refl
feed_two j k (Some p) (Some q) = feeding j k p q

parts_feed : (j k : ℕ) (x y : Option Part) → (elim x as (λ _. Bool) [ None ↦ false | Some p ↦ elim y as (λ _. Bool) [ None ↦ false | Some q ↦ r.is_feeding j k p q ] ]) ≡ feed_parts j k x y
parts_feed j k None y = refl
parts_feed j k (Some p) None = refl
parts_feed j k (Some p) (Some q) = refl

views_feed : (j k : ℕ) (x y : Option View) → (elim x as (λ _. Bool) [ None ↦ false | Some p ↦ elim y as (λ _. Bool) [ None ↦ false | Some q ↦ v.is_view_feeding j k p q ] ]) ≡ feed_views j k x y
views_feed j k None y = refl
views_feed j k (Some p) None = refl
views_feed j k (Some p) (Some q) = refl

get_view : (ps : List Part) (k : ℕ) → some_view (slice_get ps k) ≡ slice_get (map view_of ps) k
get_view [] k = refl
get_view (p ∷ ps) zero = refl
get_view (p ∷ ps) (suc k) = get_view ps k

feed : (ps : List Part) (j k : ℕ) → r.feeds ps j k ≡ v.view_feeds (map view_of ps) j k
feed ps j k =
    parts_feed j k (slice_get ps j) (slice_get ps k) ∙
    (feed_two j k (slice_get ps j) (slice_get ps k) ∙
    (two (feed_views j k) _ _ _ _ (get_view ps j) (get_view ps k) ∙ sym (views_feed j k (slice_get (map view_of ps) j) (slice_get (map view_of ps) k))))

chain : (ps : List Part) (first : ℕ) (ks : List ℕ) → r.is_chain ps first ks ≡ v.is_view_chain (map view_of ps) first ks
chain ps first [] = refl
chain ps first (k ∷ []) = feed ps k first
chain ps first (k ∷ j ∷ ks) = two (λ a b. a && b) _ _ _ _ (feed ps k j) (chain ps first (j ∷ ks))

pub bridge_cycle : (d : Design) (ks : List ℕ) → r.is_cycle (parts d) ks ≡ v.is_view_cycle (views_of d) ks
bridge_cycle d [] = refl
bridge_cycle d (k ∷ ks) = ap (λ c. r.are_distinct (k ∷ ks) && c) (chain (parts d) k (k ∷ ks))

-- ---- settled valuations

all_to : (P : View → Type 0) (xs : List Part) → All (λ p. P (view_of p)) xs → All P (map view_of xs)
all_to P [] h = All-nil P
all_to P (x ∷ xs) h = All-cons P (view_of x) (map view_of xs) (All-head (λ p. P (view_of p)) x xs h) (all_to P xs (All-tail (λ p. P (view_of p)) x xs h))

all_from : (P : View → Type 0) (xs : List Part) → All P (map view_of xs) → All (λ p. P (view_of p)) xs
all_from P [] h = All-nil (λ p. P (view_of p))
all_from P (x ∷ xs) h = All-cons (λ p. P (view_of p)) x xs (All-head P (view_of x) (map view_of xs) h) (all_from P xs (All-tail P (view_of x) (map view_of xs) h))

free_parts : (ps : List Part) → map view_of (filter (λ p. not (is_clocked p)) ps) ≡ filter (λ (w : View). not (v.is_edge w.way)) (map view_of ps)
free_parts ps = filter-over (λ p. not (is_clocked p)) (λ w. not (v.is_edge w.way)) view_of ps (λ p. ap not (clocked p))

idle_same : (d : Design) → idle_bits d ≡ v.idle_view_bits (signals_of d) (views_of d)
idle_same d =
    two (λ (q : Bit → Bool) (t : Declared → Bool). filter q (flat_map whole (filter t (signals_of d)))) _ _ _ _
    (fun_ext (λ b. two (λ x y. not x && not y) _ _ _ _ (driven (parts d) b) (readers (parts d) b))) (fun_ext (wired (parts d)))

abbrev Leaves : Valuation → View → Type 0
Leaves u w = (name : Name) → w.after u name ≡ u name

pub bridge_settled : (d : Design) (u : Valuation) → IsSettled d u ↔ v.IsViewSettled (signals_of d) (views_of d) u
bridge_settled d u = (
  (λ h. record {
    fits = h.fits;
    holds = subst (λ (ws : List View). All (Leaves u) ws) (free_parts (parts d)) (all_to (Leaves u) (filter (λ p. not (is_clocked p)) (parts d)) h.holds);
    idle = subst (λ (bs : List Bit). All (λ b. bit_at u b ≡ 0) bs) (idle_same d) h.idle;
  }),
  (λ h. record {
    fits = h.fits;
    holds = all_from (Leaves u) (filter (λ p. not (is_clocked p)) (parts d)) (subst (λ (ws : List View). All (Leaves u) ws) (sym (free_parts (parts d))) h.holds);
    idle = subst (λ (bs : List Bit). All (λ b. bit_at u b ≡ 0) bs) (sym (idle_same d)) h.idle;
  }),
)

-- ---- registers and the next state

pub bridge_register_bits : (d : Design) → register_bits d ≡ v.register_view_bits (signals_of d) (views_of d)
bridge_register_bits d =
    ap (λ (t : Declared → Bool). flat_map (λ name. bits_below (width_from (signals_of d) name) name) (flat_map cells (filter t (signals_of d)))) (fun_ext (register (parts d)))

find_one : (p : Part) (k : Bool) (x : Option Part) (y : Option View) → some_view x ≡ y → some_view (cond k (Some p) x) ≡ cond k (Some (view_of p)) y
find_one p true x y h = refl
find_one p false x y h = h

find_view : (q : View → Bool) (ps : List Part) → some_view (find (λ p. q (view_of p)) ps) ≡ find q (map view_of ps)
find_view q [] = refl
find_view q (p ∷ ps) = find_one p (q (view_of p)) (find (λ p. q (view_of p)) ps) (find q (map view_of ps)) (find_view q ps)

left_same : (u : Valuation) (b : Bit) (x : Option Part) → left_bit u b x ≡ v.left_view_bit u b (some_view x)
left_same u b None = refl
left_same u b (Some p) = refl

pub bridge_next : (d : Design) (u : Valuation) (b : Bit) → next_bit d u b ≡ v.next_view_bit (views_of d) u b
bridge_next d u b =
    ap (λ (t : Part → Bool). left_bit u b (find t (parts d))) (fun_ext (λ p. ap (λ c. c && has_bit (drives p) b) (clocked p))) ∙
    (left_same u b (find (λ p. v.is_edge (view_of p).way && has_bit (drives p) b) (parts d)) ∙
    ap (v.left_view_bit u b) (find_view (λ w. v.is_edge w.way && has_bit w.drives b) (parts d)))

pub bridge_follows : (d : Design) (u w : Valuation) → Follows d u w ↔ v.ViewFollows (signals_of d) (views_of d) u w
bridge_follows d u w = (
  (λ h. subst (λ (n : Bit → ℕ). All (λ b. bit_at w b ≡ n b) (v.register_view_bits (signals_of d) (views_of d))) (fun_ext (bridge_next d u))
      (subst (λ (bs : List Bit). All (λ b. bit_at w b ≡ next_bit d u b) bs) (bridge_register_bits d) h)),
  (λ h. subst (λ (n : Bit → ℕ). All (λ b. bit_at w b ≡ n b) (register_bits d)) (sym (fun_ext (bridge_next d u)))
      (subst (λ (bs : List Bit). All (λ b. bit_at w b ≡ v.next_view_bit (views_of d) u b) bs) (sym (bridge_register_bits d)) h)),
)

pub bridge_registers : (d : Design) → register_signals d ≡ v.view_registers (signals_of d) (views_of d)
bridge_registers d = ap (λ (t : Declared → Bool). filter t (signals_of d)) (fun_ext (register (parts d)))

pub viewed : (d : Design) → v.AreViewed d
viewed d = record {
  wrong = bridge_wrong d;
  blocking = bridge_blocking d;
  nonblocking = bridge_nonblocking d;
  two = bridge_two d;
  undriven = bridge_undriven d;
  latch = bridge_latch d;
  first = bridge_first d;
  unfixed = bridge_unfixed d;
  clocks = bridge_clocks d;
  cycle = bridge_cycle d;
  settled = bridge_settled d;
  follows = bridge_follows d;
  next = bridge_next d;
  registers = bridge_registers d;
  register_bits = bridge_register_bits d;
}
