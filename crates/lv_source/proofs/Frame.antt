-- A part leaves the bits that it doesn't drive as they are.
use Rattle.std.proofs.Common.{◌≡◌, inl, inr, ℕ, ◌/◌, ◌%◌, ◌^◌, ◌<◌, Bool, true, false, ◌||◌, ◌==◌, not, List, [], ◌∷◌, ◌++◌, map, length, append_assoc, refl, sym, ap, ◌∙◌, arith, Option, Some, None}
use Rattle.std.specs.Prelude.{flat_map, bytes_eq, if◌then◌else◌}
use Rattle.std.specs.List.{list_any}
use Rattle.std.proofs.lemmas.Bool.{eq-eqb}
use Rattle.lv_ast.specs.declared.expr.Expr.{Expr}
use Rattle.lv_ast.specs.declared.stmt.Target.{Target}
use Rattle.lv_ast.specs.declared.stmt.Stmt.{Stmt, Row_of-Stmt, end_of-Stmt, more_of-Stmt, Row_of-Arm, end_of-Arm, more_of-Arm, Held-Stmt-If-2, None', Some'}
use Rattle.lv_ast.specs.declared.stmt.Stmt.TheVariants as b
use Rattle.lv_ast.specs.declared.stmt.Stmt.TheOpen.{Stmt-F}
use Rattle.lv_ast.specs.Trees.{fold_stmt, fold_stmts, fold_one_stmt, fold_held, fold_arms}
use Rattle.lv_ast.specs.Names.{Name}
use Rattle.lv_source.specs.Names.{Names, Declared, Valuation, known, is_signal_sort}
use Rattle.lv_source.specs.Values.{nowhere}
use Rattle.lv_source.specs.Places.{Bit, Place, bit_at, has_bit, same_bit, some_bit, place_bits, place_of, set_bit, write_bits, write, whole}
use Rattle.lv_source.specs.Meaning.{Reading, Choice, read_expr, bits_named, all_constant, meant, constant_value}
use Rattle.lv_source.specs.Effect.{State, Effect, ArmOf, Piece, Update, pieces, aimed, piece_place, places, bits_in, write_all, assigned, effect_step, arm_step, executes, applied, left_by, in_order, each_turn, otherwise, is_set, is_default, with_index, turns}
use Rattle.lv_source.specs.Flow.{Event, event_writes, event_surely, writes_of, Flow, Flows, still, then_flow, all_flows, looks, branches, flow_or, flow_step, flow, block_writes}
use Rattle.lv_source.proofs.CaseTrees.{arm_taken, unchanged, case_is, flow_is}
use Rattle.lv_source.proofs.Each.{Each, Pairs}
use Rattle.lv_source.proofs.Tests.{or-left, or-none_left, or-none_right, any-split, any-left, any-right, and-both, decide, same_name, name-itself, not-false}
use Rattle.lv_source.proofs.Faithful.{FaithfulChoice, place_equal, choices_fixed}
use Rattle.lv_source.proofs.Within.{place_within, outside}
use Rattle.lv_source.proofs.Writes.{bit_of, set_other, apart, all_bits_of}
use Rattle.lv_source.proofs.Pieces.{FaithfulPiece, put, pieces_faithful}
use Rattle.lv_source.proofs.Runs.{Covered, NoneOf, none-left, none-right}
use Rattle.lv_source.proofs.Follows.{follows}

-- ---- writes

bits_kept : (name : Name) (j : ℕ) (bits : List (Option ℕ)) (x a : ℕ) → has_bit (flat_map (some_bit name) bits) (record { name = name; place = j }) ≡ false → bit_of (write_bits a bits x) j ≡ bit_of a j
bits_kept name j [] x a h = refl
bits_kept name j (None ∷ ks) x a h = bits_kept name j ks (x / 2) a h
bits_kept name j (Some k ∷ ks) x a h =
    let b : Bit = record { name = name; place = j } in
    let c : Bit = record { name = name; place = k } in
    let y : x % 2 < 2 = omega arith in
    let other : same_bit b c ≡ false = or-none_left (same_bit b c) (has_bit (flat_map (some_bit name) ks) b) h in
    bits_kept name j ks (x / 2) (set_bit a k (x % 2)) (or-none_right (same_bit b c) (has_bit (flat_map (some_bit name) ks) b) h) ∙
    elim (apart j k) [
      | inl e ↦ absurd (let t : same_bit b c ≡ true = and-both (j == k) (bytes_eq name name) (eq-eqb j k e) (name-itself name) in cc)
      | inr o ↦ set_other a k (x % 2) j y o
    ]

write_kept : (v : Valuation) (p : Place) (x : ℕ) (b : Bit) → has_bit (place_bits p) b ≡ false → bit_at (write v p x) b ≡ bit_at v b
write_kept v p x b h =
    elim (bytes_eq b.name p.name) as (λ c. bytes_eq b.name p.name ≡ c → bit_of (if c then write_bits (v b.name) p.bits x else v b.name) b.place ≡ bit_at v b) [
      | true ↦ λ e. bits_kept b.name b.place p.bits x (v b.name) (ap (λ n. has_bit (flat_map (some_bit n) p.bits) b) (same_name b.name p.name e) ∙ h)
      | false ↦ λ e. refl
    ] refl

writes_kept : (ps : List Place) (x : ℕ) (v : Valuation) (b : Bit) → has_bit (all_bits_of ps) b ≡ false → bit_at (write_all v ps x) b ≡ bit_at v b
writes_kept [] x v b h = refl
writes_kept (p ∷ ps) x v b h =
    let y : ℕ = x / 2 ^ bits_in ps % 2 ^ length p.bits in
    writes_kept ps x (write v p y) b (none-right (same_bit b) (place_bits p) (all_bits_of ps) h) ∙ write_kept v p y b (none-left (same_bit b) (place_bits p) (all_bits_of ps) h)

-- ---- targets

aimed_inside : (v : Valuation) (d : Declared) (cs : List Choice) → Each FaithfulChoice cs → (s k : Bool) → all_constant cs ≡ k → (b : Bit) →
    has_bit (place_bits (aimed s (place_of d (map meant cs) v))) b ≡ true → has_bit (if s then (if k then place_bits (place_of d (map meant cs) nowhere) else whole d) else []) b ≡ true
aimed_inside v d cs h true true e b x = ap (λ (p : Place). has_bit (place_bits p) b) (place_equal nowhere v d cs (choices_fixed nowhere v cs h e)) ∙ x
aimed_inside v d cs h true false e b x = place_within d (map meant cs) v b x
aimed_inside v d cs h false k e b x = absurd (outside (place_of d (map meant cs) v).bits b x)

places_inside : (v : Valuation) (ps : List Piece) → Each FaithfulPiece ps → (b : Bit) → has_bit (all_bits_of (places v ps)) b ≡ true → has_bit (writes_of ps) b ≡ true
places_inside v [] h b x = cc
places_inside v (p ∷ ps) h b x = elim (any-split (same_bit b) (place_bits (piece_place v p)) (all_bits_of (places v ps)) x) [
  | inl y ↦ any-left (same_bit b) (bits_named (known p.declared) p.choices) (writes_of ps)
      (aimed_inside v (known p.declared) p.choices h.0 (is_signal_sort (known p.declared).sort) (all_constant p.choices) refl b y)
  | inr y ↦ any-right (same_bit b) (bits_named (known p.declared) p.choices) (writes_of ps) (places_inside v ps h.1 b y)
]

pub put_kept : (ps : List Piece) (value : Reading) (v : Valuation) → Each FaithfulPiece ps → (b : Bit) → has_bit (writes_of ps) b ≡ false → bit_at (put ps value v) b ≡ bit_at v b
put_kept ps value v h b n = writes_kept (places v ps) (assigned v (bits_in (places v ps)) value.meaning) v b (elim (decide (has_bit (all_bits_of (places v ps)) b)) [
  | inl y ↦ absurd (let t : has_bit (writes_of ps) b ≡ true = places_inside v ps h b y in cc)
  | inr y ↦ y
])

-- ---- statements

pub record Keeps (g : State → State) (f : Flow) : Type 0 where
  pub kept : (b : Bit) → has_bit (block_writes f) b ≡ false → (s : State) → bit_at (g s).valuation b ≡ bit_at s.valuation b

abbrev Kept : Effect → Flows → Type 0
Kept e f = (names : Names) → Keeps (e names) (f names)

abbrev written : List Event → List Bit
written es = flat_map event_writes es

written-append : (xs ys : List Event) → written (xs ++ ys) ≡ written xs ++ written ys
written-append [] ys = refl
written-append (x ∷ xs) ys = ap (λ bs. event_writes x ++ bs) (written-append xs ys) ∙ sym (append_assoc (event_writes x) (written xs) (written ys))

written-left : (xs ys : List Event) (b : Bit) → has_bit (written (xs ++ ys)) b ≡ false → has_bit (written xs) b ≡ false
written-left xs ys b h = none-left (same_bit b) (written xs) (written ys) (ap (λ bs. has_bit bs b) (sym (written-append xs ys)) ∙ h)

written-right : (xs ys : List Event) (b : Bit) → has_bit (written (xs ++ ys)) b ≡ false → has_bit (written ys) b ≡ false
written-right xs ys b h = none-right (same_bit b) (written xs) (written ys) (ap (λ bs. has_bit bs b) (sym (written-append xs ys)) ∙ h)

still_keeps : Keeps (λ s. s) still
still_keeps = record { kept = λ b h s. refl }

then_keeps : (g h : State → State) (a c : Flow) → Keeps g a → Keeps h c → Keeps (λ s. h (g s)) (then_flow a c)
then_keeps g h a c f k = record { kept = λ b n s. k.kept b (written-right a.events c.events b n) (g s) ∙ f.kept b (written-left a.events c.events b n) s }

block_keeps : (es : List Effect) (fs : List Flows) → Pairs Kept es fs → (names : Names) → Keeps (λ s. in_order es names s) (all_flows (map (λ f. f names) fs))
block_keeps [] [] h names = still_keeps
block_keeps [] (f ∷ fs) h names = absurd h
block_keeps (e ∷ es) [] h names = absurd h
block_keeps (e ∷ es) (f ∷ fs) h names = then_keeps (e names) (λ s. in_order es names s) (f names) (all_flows (map (λ f. f names) fs)) (h.0 names) (block_keeps es fs h.1 names)

loop_keeps : (e : Effect) (f : Flows) → Kept e f → (at : ℕ → Names) (ks : List ℕ) → Keeps (λ s. each_turn at e ks s) (all_flows (map (λ k. f (at k)) ks))
loop_keeps e f h at [] = still_keeps
loop_keeps e f h at (k ∷ ks) = then_keeps (e (at k)) (λ s. each_turn at e ks s) (f (at k)) (all_flows (map (λ k. f (at k)) ks)) (h (at k)) (loop_keeps e f h at ks)

now_keeps : (names : Names) (target : Target) (x : Expr) (place : ℕ) → Keeps (effect_step (Stmt-F.Now target x place) names) (flow_step (Stmt-F.Now target x place) names)
now_keeps names target x place = record {
  kept = λ b h s.
      put_kept (pieces names target) (read_expr names x) s.valuation (pieces_faithful names target) b (none-left (same_bit b) (writes_of (pieces names target)) [] h);
}

later_keeps : (names : Names) (target : Target) (x : Expr) (place : ℕ) → Keeps (effect_step (Stmt-F.Later target x place) names) (flow_step (Stmt-F.Later target x place) names)
later_keeps names target x place = record { kept = λ b h s. refl }

abbrev MaybeKept : Option Effect → Option Flows → Type 0
MaybeKept None None = Unit {0}
MaybeKept (Some e) (Some f) = Kept e f
MaybeKept _ _ = ⊥

else_keeps : (e : Option Effect) (f : Option Flows) → MaybeKept e f → (names : Names) → Keeps (otherwise e names) (flow_or f names)
else_keeps None None h names = still_keeps
else_keeps None (Some f) h names = absurd h
else_keeps (Some e) None h names = absurd h
else_keeps (Some e) (Some f) h names = h names

either_keeps : (g h : State → State) (a c : Flow) → Keeps g a → Keeps h c → (x : Bool) (b : Bit) (s : State) → has_bit (written (a.events ++ c.events)) b ≡ false →
    bit_at (if x then g s else h s).valuation b ≡ bit_at s.valuation b
either_keeps g h a c f k true b s n = f.kept b (written-left a.events c.events b n) s
either_keeps g h a c f k false b s n = k.kept b (written-right a.events c.events b n) s

branch_events : (constant holds : Bool) (a c : Flow) →
    (if constant then (let x : Flow = record { events = a.events ++ c.events; paths = if holds then a.paths else c.paths } in x) else (let x : Flow = record { events = a.events ++ c.events; paths = a.paths ++ c.paths } in x)).events ≡ a.events ++ c.events
branch_events true holds a c = refl
branch_events false holds a c = refl

if_keeps : (x : Expr) (e : Effect) (f : Flows) (o : Option Effect) (g : Option Flows) → Kept e f → MaybeKept o g → Kept (effect_step (Stmt-F.If x e o)) (flow_step (Stmt-F.If x f g))
if_keeps x e f o g h k names =
    let c : Reading = read_expr names x in
    let holds : Bool = not (constant_value names x == 0) in
    record {
      kept = λ b n s. either_keeps (e names) (otherwise o names) (f names) (flow_or g names) (h names) (else_keeps o g k names) (is_set names s.valuation x) b s
          (ap (λ es. has_bit (written es) b) (sym (branch_events c.constant holds (f names) (flow_or g names))) ∙
          written-right (looks c.reads).events (branches c holds (f names) (flow_or g names)).events b n);
    }

abbrev arm_events : Names → List (ArmOf Flows) → List Event
arm_events names bs = flat_map (λ (a : ArmOf Flows). (a.body names).events) bs

abbrev KeptArm : ArmOf Effect → ArmOf Flows → Type 0
KeptArm a c = Kept a.body c.body

pick_keeps : (b : Bit) (s : State) (x y : Bool) (names : Names) (a d : Effect) (rest : Effect → Effect) → bit_at (a names s).valuation b ≡ bit_at s.valuation b →
    bit_at (rest a names s).valuation b ≡ bit_at s.valuation b → bit_at (rest d names s).valuation b ≡ bit_at s.valuation b →
    bit_at ((if x then a else rest (if y then a else d)) names s).valuation b ≡ bit_at s.valuation b
pick_keeps b s true y names a d rest h k l = h
pick_keeps b s false true names a d rest h k l = k
pick_keeps b s false false names a d rest h k l = l

taken_keeps : (names : Names) (fits : Expr → Bool) (es : List (ArmOf Effect)) (bs : List (ArmOf Flows)) → Pairs KeptArm es bs → (d : Effect) (b : Bit) (s : State) →
    has_bit (written (arm_events names bs)) b ≡ false → bit_at (d names s).valuation b ≡ bit_at s.valuation b → bit_at (arm_taken fits es d names s).valuation b ≡ bit_at s.valuation b
taken_keeps names fits [] [] h d b s n k = k
taken_keeps names fits [] (c ∷ cs) h d b s n k = absurd h
taken_keeps names fits (a ∷ es) [] h d b s n k = absurd h
taken_keeps names fits (a ∷ es) (c ∷ cs) h d b s n k =
    let here : bit_at (a.body names s).valuation b ≡ bit_at s.valuation b = (h.0 names).kept b (written-left (c.body names).events (arm_events names cs) b n) s in
    let rest : has_bit (written (arm_events names cs)) b ≡ false = written-right (c.body names).events (arm_events names cs) b n in
    pick_keeps b s (list_any fits a.labels) (is_default a.labels) names a.body d (arm_taken fits es) here
    (taken_keeps names fits es cs h.1 a.body b s rest here) (taken_keeps names fits es cs h.1 d b s rest k)

case_keeps : (wild : Bool) (x : Expr) (es : List (ArmOf Effect)) (bs : List (ArmOf Flows)) → Pairs KeptArm es bs → Kept (effect_step (Stmt-F.Case wild x es)) (flow_step (Stmt-F.Case wild x bs))
case_keeps wild x es bs h names = record {
  kept = λ b n s.
      ap (λ (t : State). bit_at t.valuation b) (case_is wild x es names s) ∙ taken_keeps names _ es bs h unchanged b s (ap (λ (f : Flow). has_bit (written f.events) b) (sym (flow_is wild x bs names)) ∙ n) refl;
}

abbrev EffectOf : Stmt → Effect
EffectOf s = fold_stmt Effect (ArmOf Effect) effect_step arm_step s

abbrev FlowOf : Stmt → Flows
FlowOf s = fold_stmt Flows (ArmOf Flows) flow_step arm_step s

mutual
  keeps_by : (s : Stmt) → Kept (EffectOf s) (FlowOf s)
  keeps_by b.Null = λ names. still_keeps
  keeps_by (b.Block' name n ss) = block_keeps _ _ (all_keep ss)
  keeps_by (b.If' c n s other) = if_keeps c _ _ _ _ (one_keeps s) (held_keeps other)
  keeps_by (b.Case' wild x n arms) = case_keeps wild x _ _ (arms_keep arms)
  keeps_by (b.Loop' index start test again next n s) =
      λ names. loop_keeps _ _ (one_keeps s) (with_index names index.name) (turns names index.name start test next)
  keeps_by (b.Now target x place) = λ names. now_keeps names target x place
  keeps_by (b.Later target x place) = λ names. later_keeps names target x place

  all_keep : {n : _} (r : Row_of-Stmt n) → Pairs Kept (fold_stmts Effect (ArmOf Effect) effect_step arm_step r) (fold_stmts Flows (ArmOf Flows) flow_step arm_step r)
  all_keep end_of-Stmt = tt
  all_keep (more_of-Stmt x xs) = (keeps_by x, all_keep xs)

  one_keeps : {n : _} (r : Row_of-Stmt n) → Kept (fold_one_stmt Effect (ArmOf Effect) effect_step arm_step r) (fold_one_stmt Flows (ArmOf Flows) flow_step arm_step r)
  one_keeps end_of-Stmt = λ names. still_keeps
  one_keeps (more_of-Stmt x xs) = keeps_by x

  held_keeps : (r : Held-Stmt-If-2) → MaybeKept (fold_held Effect (ArmOf Effect) effect_step arm_step r) (fold_held Flows (ArmOf Flows) flow_step arm_step r)
  held_keeps None' = tt
  held_keeps (Some' n s) = one_keeps s

  arms_keep : {n : _} (r : Row_of-Arm n) → Pairs KeptArm (fold_arms Effect (ArmOf Effect) effect_step arm_step r) (fold_arms Flows (ArmOf Flows) flow_step arm_step r)
  arms_keep end_of-Arm = tt
  arms_keep (more_of-Arm ls body xs) = (keeps_by body, arms_keep xs)

pub keeps : (names : Names) (s : Stmt) → Keeps (executes names s) (flow names s)
unfolding executes flow
keeps names s = keeps_by s names

-- ---- blocks without updates that are left for later

abbrev once : Event → Bool
once e = not e.at_once

covered_once : (A : Bit → Bool) → ((b : Bit) → A b ≡ true) → (p : List Event) → list_any once p ≡ false → Covered A p
covered_once A f [] h = tt
covered_once A f (e ∷ es) h = (
  (λ b x. f b),
  not-false e.at_once (or-none_left (once e) (list_any once es) h),
  covered_once (λ b. A b || has_bit (event_surely e) b) (λ b. or-left (A b) (has_bit (event_surely e) b) (f b)) es (or-none_right (once e) (list_any once es) h),
)

each_covered : (A : Bit → Bool) → ((b : Bit) → A b ≡ true) → (ps : List (List Event)) → Each (NoneOf once) ps → Each (Covered A) ps
each_covered A f [] h = tt
each_covered A f (p ∷ ps) h = (covered_once A f p h.0, each_covered A f ps h.1)

none_pending : (names : Names) (s : Stmt) → list_any once (flow names s).events ≡ false → (v : Valuation) → (executes names s (record { valuation = v; pending = [] })).pending ≡ []
none_pending names s h v =
    let s0 : State = record { valuation = v; pending = [] } in
    ((follows names s).run (λ b. true) s0 s0 (λ b x. refl) (each_covered (λ b. true) (λ b. refl) (flow names s).paths ((follows names s).inside once h))).1

pub block_kept : (names : Names) (s : Stmt) → list_any once (flow names s).events ≡ false → (v : Valuation) (b : Bit) → has_bit (block_writes (flow names s)) b ≡ false →
    bit_at (left_by names s v) b ≡ bit_at v b
block_kept names s h v b n =
    let s0 : State = record { valuation = v; pending = [] } in
    ap (λ (us : List Update). bit_at (applied (executes names s s0).valuation us) b) (none_pending names s h v) ∙ (keeps names s).kept b n s0
