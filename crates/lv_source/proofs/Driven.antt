-- Each bit that a part drives is a bit of a signal that the names of its scope give.
use Rattle.std.proofs.Common.{◌≡◌, inl, inr, ℕ, Bool, true, false, List, [], ◌∷◌, ◌++◌, map, refl, Option, Some, None}
use Rattle.std.specs.Prelude.{flat_map, bytes_eq, if◌then◌else◌, ◌&&◌}
use Rattle.lv_ast.specs.declared.expr.Path.{Path}
use Rattle.lv_ast.specs.declared.expr.Expr.{Expr}
use Rattle.lv_ast.specs.declared.expr.Expr.TheOpen.{Expr-F}
use Rattle.lv_ast.specs.declared.stmt.Target.{Target, Row_of-Target, end_of-Target, more_of-Target}
use Rattle.lv_ast.specs.declared.stmt.Target.TheVariants as t
use Rattle.lv_ast.specs.declared.stmt.Stmt.{Stmt, Row_of-Stmt, end_of-Stmt, more_of-Stmt, Row_of-Arm, end_of-Arm, more_of-Arm, Held-Stmt-If-2, None', Some'}
use Rattle.lv_ast.specs.declared.stmt.Stmt.TheVariants as b
use Rattle.lv_ast.specs.declared.stmt.Stmt.TheOpen.{Stmt-F}
use Rattle.lv_ast.specs.Trees.{fold_targets, fold_stmt, fold_stmts, fold_one_stmt, fold_held, fold_arms}
use Rattle.lv_ast.specs.Names.{Name, has_no_steps}
use Rattle.lv_source.specs.Names.{Names, Declared, known, is_signal_sort}
use Rattle.lv_source.specs.Values.{nowhere}
use Rattle.lv_source.specs.Places.{Bit, has_bit, same_bit, place_bits, place_of, whole}
use Rattle.lv_source.specs.Meaning.{Choice, all_constant, meant, bits_named, read_expr}
use Rattle.lv_source.specs.Effect.{Piece, pieces, piece_step, Arm, ArmOf, arm_step, read_arm, with_index, turns, is_met}
use Rattle.lv_source.specs.Flow.{Event, Flow, Flows, writes_of, event_writes, block_writes, all_flows, either_flow, flow_or, flow_step, flow}
use Rattle.lv_source.specs.Parts.{Sink, Body, Part, Assign, Comb, Clocked, sink_step, read_choice, join_targets, as_target, drives}
use Rattle.lv_source.proofs.Each.{Each, each-join}
use Rattle.lv_source.proofs.Tests.{any-split}
use Rattle.lv_source.proofs.Refused.{In}
use Rattle.lv_source.proofs.Induction.{Below, of_expr}
use Rattle.lv_source.proofs.Within.{place_within}

module _ (ss : List Declared) where
  -- each signal that the names give is one of these
  abbrev pub Knows : Names → Type 0
  Knows names = (p : Path) → is_signal_sort (known (names p)).sort ≡ true → In (known (names p)) ss

  -- a bit of one of these
  pub record IsOf (x : Bit) : Type 0 where
    pub signal : Declared
    pub among : In signal ss
    pub bit : has_bit (whole signal) x ≡ true

  abbrev pub KnownPiece : Piece → Type 0
  KnownPiece q = is_signal_sort (known q.declared).sort ≡ true → In (known q.declared) ss

  -- ---- bits of a piece

  named_by : (d : Declared) (cs : List Choice) (s k : Bool) (x : Bit) → has_bit (if s then (if k then place_bits (place_of d (map meant cs) nowhere) else whole d) else []) x ≡ true →
      (s ≡ true) × (has_bit (whole d) x ≡ true)
  named_by d cs true true x h = (refl, place_within d (map meant cs) nowhere x h)
  named_by d cs true false x h = (refl, h)
  named_by d cs false k x h = cc

  -- the bits of a piece are bits of its declaration
  pub named_in : (d : Declared) (cs : List Choice) (x : Bit) → has_bit (bits_named d cs) x ≡ true → (is_signal_sort d.sort ≡ true) × (has_bit (whole d) x ≡ true)
  named_in d cs x h = named_by d cs (is_signal_sort d.sort) (all_constant cs) x h

  piece_of : (q : Piece) → KnownPiece q → (x : Bit) → has_bit (bits_named (known q.declared) q.choices) x ≡ true → IsOf x
  piece_of q f x h =
      let r : (is_signal_sort (known q.declared).sort ≡ true) × (has_bit (whole (known q.declared)) x ≡ true) = named_in (known q.declared) q.choices x h in
      record { signal = known q.declared; among = f r.0; bit = r.1 }

  writes_known : (qs : List Piece) → Each KnownPiece qs → (x : Bit) → has_bit (writes_of qs) x ≡ true → IsOf x
  writes_known [] f x h = cc
  writes_known (q ∷ qs) f x h = elim (any-split (same_bit x) (bits_named (known q.declared) q.choices) (writes_of qs) h) [
    | inl k ↦ piece_of q f.0 x k
    | inr k ↦ writes_known qs f.1 x k
  ]

  -- ---- targets

  mutual
    unfolding pieces

    pub pieces_known : (names : Names) → Knows names → (t : Target) → Each KnownPiece (pieces names t)
    pieces_known names f (t.Name path ss) = (f path, tt)
    pieces_known names f (t.Cat' n ts) = all_known names f ts

    all_known : (names : Names) → Knows names → {n : _} (ts : Row_of-Target n) → Each KnownPiece (flat_map (λ ps. ps) (fold_targets (List Piece) (piece_step names) ts))
    all_known names f end_of-Target = tt
    all_known names f (more_of-Target t ts) =
        each-join KnownPiece (pieces names t) (flat_map (λ ps. ps) (fold_targets (List Piece) (piece_step names) ts)) (pieces_known names f t) (all_known names f ts)

  abbrev pub MaybeKnown : Option (List Piece) → Type 0
  MaybeKnown None = Unit {0}
  MaybeKnown (Some qs) = Each KnownPiece qs

  record KnownSink (s : Sink) : Type 0 where
    pub target : MaybeKnown s.target

  join_rest : (ps : List Piece) → Each KnownPiece ps → (o : Option (List Piece)) → MaybeKnown o → MaybeKnown (elim o [ None ↦ None | Some qs ↦ Some (ps ++ qs) ])
  join_rest ps h None k = tt
  join_rest ps h (Some qs) k = each-join KnownPiece ps qs h k

  join_first : (o r : Option (List Piece)) → MaybeKnown o → MaybeKnown r → MaybeKnown (elim o [ None ↦ None | Some ps ↦ elim r [ None ↦ None | Some qs ↦ Some (ps ++ qs) ] ])
  join_first None r h k = tt
  join_first (Some ps) r h k = join_rest ps h r k

  joined_known : (rs : List Sink) → Each KnownSink rs → MaybeKnown (join_targets rs)
  joined_known [] h = tt
  joined_known (r ∷ rs) h = join_first r.target (join_targets rs) h.0.target (joined_known rs h.1)

  abbrev Nothing : Choice → Type 0
  Nothing c = Unit {0}

  sink_known : (names : Names) → Knows names → (x : Expr-F Sink Choice) → Below KnownSink Nothing x → KnownSink (sink_step names x)
  sink_known names f (Expr-F.Lit l) h = record { target = tt }
  sink_known names f (Expr-F.Name path cs) h = record { target = (f path, tt) }
  sink_known names f (Expr-F.Un op a) h = record { target = tt }
  sink_known names f (Expr-F.Bin op a b) h = record { target = tt }
  sink_known names f (Expr-F.Div a b) h = record { target = tt }
  sink_known names f (Expr-F.Rem a b) h = record { target = tt }
  sink_known names f (Expr-F.Cond c a b) h = record { target = tt }
  sink_known names f (Expr-F.Cat rs) h = record { target = joined_known rs h }
  sink_known names f (Expr-F.Rep n rs) h = record { target = tt }
  sink_known names f (Expr-F.Cast signed a) h = record { target = tt }

  pub target_known : (names : Names) → Knows names → (e : Expr) → MaybeKnown (as_target names e)
  unfolding as_target
  target_known names f e = (of_expr Sink Choice (sink_step names) read_choice KnownSink Nothing (sink_known names f) (λ s h. tt) e).target

  -- ---- blocks

  pub index_by : (b : Bool) (x : Declared) (o : Option Declared) → is_signal_sort x.sort ≡ false → (is_signal_sort (known o).sort ≡ true → In (known o) ss) →
      is_signal_sort (known (if b then Some x else o)).sort ≡ true → In (known (if b then Some x else o)) ss
  index_by true x o n f h = cc
  index_by false x o n f h = f h

  pub index_known : (names : Names) (index : Name) (value : ℕ) → Knows names → Knows (with_index names index value)
  index_known names index value f p h = index_by (has_no_steps p && bytes_eq p.name index) _ (names p) refl (f p) h

  abbrev KnownEvents : List Event → Type 0
  KnownEvents es = Each (λ (e : Event). Each KnownPiece e.targets) es

  abbrev KnownFlow : Flows → Type 0
  KnownFlow f = (names : Names) → Knows names → KnownEvents (f names).events

  events_join : (xs ys : List Event) → KnownEvents xs → KnownEvents ys → KnownEvents (xs ++ ys)
  events_join xs ys h k = each-join (λ (e : Event). Each KnownPiece e.targets) xs ys h k

  block_known : (fs : List Flows) → Each KnownFlow fs → (names : Names) → Knows names → KnownEvents (all_flows (map (λ (f : Flows). f names) fs)).events
  block_known [] h names k = tt
  block_known (f ∷ fs) h names k = events_join (f names).events (all_flows (map (λ (f : Flows). f names) fs)).events (h.0 names k) (block_known fs h.1 names k)

  loop_known : (f : Flows) → KnownFlow f → (at : ℕ → Names) → ((k : ℕ) → Knows (at k)) → (ks : List ℕ) → KnownEvents (all_flows (map (λ k. f (at k)) ks)).events
  loop_known f h at g [] = tt
  loop_known f h at g (k ∷ ks) = events_join (f (at k)).events (all_flows (map (λ k. f (at k)) ks)).events (h (at k) (g k)) (loop_known f h at g ks)

  abbrev MaybeFlow : Option Flows → Type 0
  MaybeFlow None = Unit {0}
  MaybeFlow (Some f) = KnownFlow f

  else_known : (o : Option Flows) → MaybeFlow o → KnownFlow (flow_or o)
  else_known None h names k = tt
  else_known (Some f) h names k = h names k

  branch_known : (constant holds : Bool) (a c : Flow) → KnownEvents a.events → KnownEvents c.events →
      KnownEvents (if constant then (let x : Flow = record { events = a.events ++ c.events; paths = if holds then a.paths else c.paths } in x) else either_flow a c).events
  branch_known true holds a c h k = events_join a.events c.events h k
  branch_known false holds a c h k = events_join a.events c.events h k

  if_known : (x : Expr) (f : Flows) (o : Option Flows) → KnownFlow f → MaybeFlow o → KnownFlow (flow_step (Stmt-F.If x f o))
  if_known x f o h k names n =
      (tt, branch_known (read_expr names x).constant (is_met nowhere (read_expr names x)) (f names) (flow_or o names) (h names n) (else_known o k names n))

  arms_known : (as' : List (ArmOf Flows)) → Each (λ (a : ArmOf Flows). KnownFlow a.body) as' → (names : Names) → Knows names →
      KnownEvents (flat_map (λ (a : Arm Flow). a.body.events) (map (read_arm names) as'))
  arms_known [] h names k = tt
  arms_known (a ∷ as') h names k = events_join (a.body names).events (flat_map (λ (a : Arm Flow). a.body.events) (map (read_arm names) as')) (h.0 names k) (arms_known as' h.1 names k)

  case_known : (wild : Bool) (x : Expr) (as' : List (ArmOf Flows)) → Each (λ (a : ArmOf Flows). KnownFlow a.body) as' → KnownFlow (flow_step (Stmt-F.Case wild x as'))
  case_known wild x as' h names k = (tt, arms_known as' h names k)

  abbrev FlowOf : Stmt → Flows
  FlowOf s = fold_stmt Flows (ArmOf Flows) flow_step arm_step s

  mutual
    known_by : (s : Stmt) → KnownFlow (FlowOf s)
    known_by b.Null = λ names k. tt
    known_by (b.Block' name n rs) = block_known _ (rows_known rs)
    known_by (b.If' c n s other) = if_known c _ _ (one_known s) (held_known other)
    known_by (b.Case' wild x n arms) = case_known wild x _ (arm_rows_known arms)
    known_by (b.Loop' index start test again next n s) =
        λ names k. loop_known (fold_one_stmt Flows (ArmOf Flows) flow_step arm_step s) (one_known s) (with_index names index.name) (λ v. index_known names index.name v k) (turns names index.name start test next)
    known_by (b.Now target x place) = λ names k. (pieces_known names k target, tt)
    known_by (b.Later target x place) = λ names k. (pieces_known names k target, tt)

    rows_known : {n : _} (r : Row_of-Stmt n) → Each KnownFlow (fold_stmts Flows (ArmOf Flows) flow_step arm_step r)
    rows_known end_of-Stmt = tt
    rows_known (more_of-Stmt x xs) = (known_by x, rows_known xs)

    one_known : {n : _} (r : Row_of-Stmt n) → KnownFlow (fold_one_stmt Flows (ArmOf Flows) flow_step arm_step r)
    one_known end_of-Stmt = λ names k. tt
    one_known (more_of-Stmt x xs) = known_by x

    held_known : (r : Held-Stmt-If-2) → MaybeFlow (fold_held Flows (ArmOf Flows) flow_step arm_step r)
    held_known None' = tt
    held_known (Some' n s) = one_known s

    arm_rows_known : {n : _} (r : Row_of-Arm n) → Each (λ (a : ArmOf Flows). KnownFlow a.body) (fold_arms Flows (ArmOf Flows) flow_step arm_step r)
    arm_rows_known end_of-Arm = tt
    arm_rows_known (more_of-Arm ls body xs) = (known_by body, arm_rows_known xs)

  flow_known : (names : Names) → Knows names → (s : Stmt) → KnownEvents (flow names s).events
  unfolding flow
  flow_known names k s = known_by s names k

  events_of : (es : List Event) → KnownEvents es → (x : Bit) → has_bit (flat_map event_writes es) x ≡ true → IsOf x
  events_of [] f x h = cc
  events_of (e ∷ es) f x h = elim (any-split (same_bit x) (event_writes e) (flat_map event_writes es) h) [
    | inl k ↦ writes_known e.targets f.0 x k
    | inr k ↦ events_of es f.1 x k
  ]

  -- ---- parts

  abbrev pub KnownBody : Body → Type 0
  KnownBody (Assign ps value) = Each KnownPiece ps
  KnownBody (Comb names s) = Knows names
  KnownBody (Clocked names c s) = Knows names

  body_of : (y : Body) → KnownBody y → (x : Bit) →
      has_bit (elim y as (λ _. List Bit) [ Assign ps value ↦ writes_of ps | Comb names s ↦ block_writes (flow names s) | Clocked names c s ↦ block_writes (flow names s) ]) x ≡ true → IsOf x
  body_of (Assign ps value) f x h = writes_known ps f x h
  body_of (Comb names s) f x h = events_of (flow names s).events (flow_known names f s) x h
  body_of (Clocked names c s) f x h = events_of (flow names s).events (flow_known names f s) x h

  -- each bit that a part drives is one of a signal
  pub drives_known : (p : Part) → KnownBody p.body → (x : Bit) → has_bit (drives p) x ≡ true → IsOf x
  drives_known p f x h = body_of p.body f x h
