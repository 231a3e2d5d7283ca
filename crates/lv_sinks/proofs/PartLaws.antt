-- A connection as a part.
use Rattle.std.proofs.Common.{◌≡◌, ℕ, ◌+◌, ◌-◌, min, max, ◌≤◌, Bool, true, false, not, ◌&&◌, ◌||◌, if◌then◌else◌, List, [], ◌∷◌, ap, ◌∙◌, sym, subst, refl, flat_map, map, length, arith, Ok, Err, Result, None, Some, Option}
use Rattle.std.specs.Prelude.{nat_le, slice_get, Contains}
use Rattle.std.specs.List.{list_any, list_all}
use Rattle.lv_ast.specs.declared.expr.Expr.{Expr}
use Rattle.lv_ast.specs.declared.expr.Expr.TheVariants as tree
use Rattle.lv_ast.specs.declared.expr.Path.{Path}
use Rattle.lv_ast.specs.Names.{Name, alone}
use Rattle.lv_source.specs.Names.{Names, Here, Bounds, Declared, known, width_of, is_clock_sort}
use Rattle.lv_source.specs.Values.{nowhere}
use Rattle.lv_source.specs.Places.{bits_of, bit_selects, place_of}
use Rattle.lv_source.specs.Meaning.{named, read_expr}
use Rattle.lv_source.specs.Declarations.{declared_as}
use Rattle.lv_source.specs.Effect.{Piece, piece_place, bits_in}
use Rattle.lv_source.specs.NodeRules.{is_width, is_array_fault, is_select_fault, is_good_step, most_steps}
use Rattle.lv_source.specs.Scopes.{Scope, Link, is_output, is_clock}
use Rattle.lv_source.specs.ScopeRules.{conn_if, conn_places, no_target, is_none}
use Rattle.lv_source.specs.Sites.{Site, spots, sink_sites, expr_sites}
use Rattle.lv_source.specs.PartSites.{link_sites, clocks_in, port_width}
use Rattle.lv_source.specs.Parts.{Part, At, Assign, as_target, is_declared_sort, option_list, whole_piece, whole_value, output_part, link_body, part}
use Rattle.lv_source.specs.Parts as parts
use Rattle.lv_source.specs.Views.{view_of}
use Rattle.lv_source.specs.Faults.{site_faults}
use Rattle.lv_source.specs.Legal.{ClockUse}
use Rattle.lv_links.proofs.LinkLaws.{place-told}
use Rattle.lv_flat.specs.declared.expr.FlatExpr.{FlatExpr}
use Rattle.lv_flat.specs.declared.expr.FlatExpr.TheVariants as e
use Rattle.lv_flat.specs.declared.stmt.FlatTarget.{FlatTarget}
use Rattle.lv_flat.specs.declared.stmt.FlatTarget.TheVariants as t
use Rattle.lv_flat.specs.declared.part.FlatPart.{FlatPart}
use Rattle.lv_flat.specs.declared.part.FlatBody.TheVariants as b
use Rattle.lv_flat.specs.declared.signal.Signal.{Signal}
use Rattle.lv_flat.specs.Signals.{Signals, signal_at, declared, declared_all}
use Rattle.lv_const.specs.declared.consts.Entry.{Entry}
use Rattle.lv_resolve.specs.Places.{AreNames}
use Rattle.lv_flat.proofs.Widths.{declared-width}
use Rattle.lv_const.proofs.Told.{width_in}
use Rattle.lv_resolve.proofs.SelectArms.{the-signal}
use Rattle.lv_flat.specs.Judged.{reading, is_good, good_selects}
use Rattle.lv_flat.specs.FlatViews.{flat_view}
use Rattle.lv_flat.specs.Executing as flat
use Rattle.lv_flat.specs.Good.{good_target, good_body}
use Rattle.lv_flat.proofs.Bridge.{assign_alike, assign_view, source-Assign}
use Rattle.lv_flat.proofs.Doings.{Goal, goal_of, goal_one}
use Rattle.lv_flat.proofs.GoodParts.{good-target, targets-Signal}
use Rattle.lv_flat.proofs.Judgements.{judge-Signal}
use Rattle.lv_flat.proofs.Targets as targets
use Rattle.lv_resolve.specs.declared.resolved.Resolved.{Resolved}
use Rattle.lv_resolve.specs.declared.goal.ResolvedTarget.{ResolvedTarget}
use Rattle.lv_resolve.specs.Forms.{has_operands}
use Rattle.lv_resolve.specs.Resolved.{AreFaultless, IsToldOf, IsResolved}
use Rattle.lv_const.proofs.Leaves.{and-left, length-all_bits}
use Rattle.lv_resolve.specs.Targets.{bits_of_pieces}
use Rattle.lv_resolve.proofs.FixedLaws.{spotted}
use Rattle.lv_resolve.proofs.Nodes.{and-both}
use Rattle.lv_resolve.proofs.TargetLaws.{place-length, aimed-length, bits-cons}
use Rattle.lv_sinks.specs.declared.port.Port.{Port}
use Rattle.lv_sinks.specs.declared.error.PartError.{PartError}
use Rattle.lv_sinks.specs.declared.error.PartError.TheVariants as y
use Rattle.lv_sinks.specs.Sinks.{IsSunk}
use Rattle.lv_sinks.specs.Connected.{IsPort, LinkAnswer, port_piece, assignment, OutputAnswer, InputAnswer, has_link_operands, some_part}

-- ---- the whole of a signal

bits-None : {C : Type 0} (o : Option Bounds) → bit_selects {C = C} o [] ≡ []
bits-None None = refl
bits-None (Some b) = refl

few-for : (ranged : Bool) → (not (nat_le 0 (if ranged then 1 else 0)) || false) ≡ false
few-for true = refl
few-for false = refl

module _ (S : Signals) (k : ℕ) where
  abbrev pub d : Declared
  d = signal_at S k

  no-select_fault : is_select_fault d [] ≡ false
  no-select_fault =
      ap (λ rest. not (nat_le (length rest) (most_steps d)) || not (list_all (λ s. is_good_step d.bounds s) rest)) (bits-None d.array) ∙ few-for d.ranged

  whole-good : d.array ≡ None → good_selects d [] ≡ true
  whole-good h = and-both _ _ (ap (λ o. not (is_array_fault o [])) h) (and-both _ _ (ap not no-select_fault) refl)

  whole-width : length (bits_of d (bit_selects d.array []) nowhere) ≡ width_of d
  whole-width = ap (λ cs. length (bits_of d cs nowhere)) (bits-None d.array) ∙ length-all_bits (width_of d)

  pub value-reading : reading S (e.Signal k []) ≡ named d []
  value-reading = ap (λ j. j.reading) (judge-Signal S k [])

  pub value-good : is_declared_sort d.sort ≡ true → d.array ≡ None → is_width (width_of d) ≡ true → is_good S (e.Signal k []) ≡ true
  value-good a b c = ap (λ j. j.good) (judge-Signal S k []) ∙ and-both _ _ (ap is_width whole-width ∙ c) (and-both _ _ a (whole-good b))

  module _ (place : ℕ) where
    pub target-goal : goal_of (flat.pieces S (t.Signal (record { signal = k; place = place }) [])) ≡ goal_of (port_piece S k place ∷ [])
    target-goal = ap goal_of (targets.pieces-Signal S (record { signal = k; place = place }) [])

    piece-bits : bits_of_pieces (port_piece S k place ∷ []) ≡ width_of d
    piece-bits =
        let p : length (piece_place nowhere (port_piece S k place)).bits ≡ width_of d =
        aimed-length _ (place_of d [] nowhere) ∙ (place-length d nowhere d.array [] ∙ whole-width) in
        bits-cons (piece_place nowhere (port_piece S k place)) [] ∙ omega (arith, p)

    pub target-good : is_declared_sort d.sort ≡ true → d.array ≡ None → is_width (width_of d) ≡ true →
        good_target S (t.Signal (record { signal = k; place = place }) []) ≡ true
    target-good a b c = good-target S (t.Signal (record { signal = k; place = place }) []) ∙ and-both _ _
        (ap (λ (g : Goal). is_width (bits_in (g.places nowhere))) target-goal ∙ (ap is_width piece-bits ∙ c))
        (targets-Signal S (record { signal = k; place = place }) [] ∙ and-both _ _ a (whole-good b))

-- ---- assignments

clocks-of : (h : Here) (ss : List Site) (cs : List ℕ) → flat_map (site_faults ClockUse) (spots h ss) ≡ cs → cs ≡ clocks_in ss
clocks-of h ss cs e = sym e ∙ spotted h (site_faults ClockUse) ss

abbrev pub made : Name → ℕ → List ℕ → FlatTarget → FlatExpr → FlatPart
made path place cs target value = record { path = path; place = place; clocks = cs; body = b.Assign target value }

module _ (S : Signals) (h : Here) (path : Name) (k : ℕ) (x : Expr) (place : ℕ) where
  pub output-none : as_target h.names x ≡ None → OutputAnswer S h path k x place (Err (y.NoTarget place))
  output-none e = record { right = tt; wrong = (refl, e) }

  pub output-right : (r : ResolvedTarget) (target : FlatTarget) (cs : List ℕ) (value : FlatExpr) (p : FlatPart) → IsSunk S h x r → target ≡ r.target → cs ≡ r.clocks →
      value ≡ e.Signal k [] → p ≡ made path place cs target value → OutputAnswer S h path k x place (Ok p)
  output-right r target cs value p q a b c m = subst (λ z. OutputAnswer S h path k x place (Ok z)) (sym m) (record {
    right = record {
      view = (
        q.target.0,
        q.target.1,
        assign_alike S path place cs q.target.0 (named (signal_at S k) []) target value
            (ap (λ z. goal_of (flat.pieces S z)) a ∙ q.target.2) (ap (reading S) c ∙ value-reading S k) ∙
            ap (λ z. view_of (record { at = record { path = path; place = place }; clocks = z; body = Assign q.target.0 (named (signal_at S k) []) }))
            (clocks-of h (sink_sites h.names x) cs (q.clocks ∙ sym b)),
      );
      good = λ u v w n. and-both _ _ (ap (good_target S) a ∙ q.good u) (ap (is_good S) c ∙ value-good S k v w n);
      faultless = q.faultless;
    };
    wrong = tt;
  })

  pub input-right : (width : ℕ) (r : Resolved) (value : FlatExpr) (cs : List ℕ) (target : FlatTarget) (p : FlatPart) →
      IsResolved S h (spots h (expr_sites false h.names width x)) x r → value ≡ r.expr → cs ≡ r.clocks → target ≡ t.Signal (record { signal = k; place = place }) [] →
      p ≡ made path place cs target value → InputAnswer S h path k width x place (Ok p)
  input-right width r value cs target p q a b c m = subst (λ z. InputAnswer S h path k width x place (Ok z)) (sym m) (record {
    right = record {
      view =
          assign_alike S path place cs (port_piece S k place ∷ []) (read_expr h.names x) target value
          (ap (λ z. goal_of (flat.pieces S z)) c ∙ target-goal S k place) (ap (reading S) a ∙ q.same) ∙
          ap (λ z. view_of (record { at = record { path = path; place = place }; clocks = z; body = Assign (port_piece S k place ∷ []) (read_expr h.names x) }))
          (clocks-of h (expr_sites false h.names width x) cs (q.clocks ∙ sym b));
      good = λ u v w n. and-both _ _ (ap (good_target S) c ∙ target-good S k place v w n) (ap (is_good S) a ∙ q.good u);
      faultless = q.faultless;
    };
    wrong = tt;
  })

-- ---- connections

abbrev choose : {A : Type 0} → Bool → Bool → List A → List A → List A
choose c o xs ys = if c then [] else if o then xs else ys

choose-clock : {A : Type 0} (c o : Bool) (xs ys : List A) → c ≡ true → choose c o xs ys ≡ []
choose-clock c o xs ys h = ap (λ b. choose b o xs ys) h

choose-out : {A : Type 0} (c o : Bool) (xs ys : List A) → c ≡ false → o ≡ true → choose c o xs ys ≡ xs
choose-out c o xs ys h k = ap (λ b. choose b o xs ys) h ∙ ap (λ b. choose false b xs ys) k

choose-in : {A : Type 0} (c o : Bool) (xs ys : List A) → c ≡ false → o ≡ false → choose c o xs ys ≡ ys
choose-in c o xs ys h k = ap (λ b. choose b o xs ys) h ∙ ap (λ b. choose false b xs ys) k

-- the name of a clock is a target
clock-target : (names : Names) (x : Expr) → is_clock names x ≡ true → is_none (as_target names x) ≡ false
unfolding as_target
clock-target names (tree.Lit l) c = cc
clock-target names (tree.Name' path n ss) c = refl
clock-target names (tree.Un' op n a) c = cc
clock-target names (tree.Bin' op n a m b) c = cc
clock-target names (tree.Div' n a m b) c = cc
clock-target names (tree.Rem' n a m b) c = cc
clock-target names (tree.Cond' n a m b k c') c = cc
clock-target names (tree.Cat' n es) c = cc
clock-target names (tree.Rep' n a m es) c = cc
clock-target names (tree.Cast' signed n a) c = cc

and-false : (a b : Bool) → b ≡ false → a && b ≡ false
and-false true b h = h
and-false false b h = refl

nothing-told : (h : Here) → AreFaultless (spots h [])
nothing-told h = record { unknown = refl; unfixed = refl; zero = refl; range = refl }

module _ (S : Signals) (s child : Scope) (l : Link) (early : Path → Bool) where
  abbrev pub h : Here
  h = record { names = s.names; early = early }

  abbrev pub is_out : Bool
  is_out = list_any is_output (declared_as l.port child.declarations)

  abbrev pub to_clock : Expr → Bool
  to_clock x = is_clock s.names x && is_clock_sort (known (child.names (alone l.port))).sort

  abbrev parts_by : Option Expr → List Part
  parts_by o = elim o [ None ↦ [] | Some x ↦ link_body s child l x ]

  abbrev sites_by : Option Expr → List Site
  sites_by o = elim o [
    | None ↦ []
    | Some x ↦ choose (to_clock x) is_out (sink_sites s.names x) (expr_sites false s.names (port_width child l.port) x)
  ]

  abbrev told_by : Option Expr → List ℕ
  told_by o = elim o [ None ↦ [] | Some x ↦ conn_if (is_out && is_none (as_target s.names x)) s.names l.conn ]

  answer : (o : Option FlatPart) (ps : List Part) (ss : List Site) → parts.link_part s child l ≡ ps → link_sites s.names child l ≡ ss → no_target s.names child l ≡ [] →
      map (flat_view S) (option_list o) ≡ map view_of ps →
      (has_link_operands l ≡ true → (known (child.names (alone l.port))).array ≡ None → list_all (λ p. good_body S p.body) (option_list o) ≡ true) →
      AreFaultless (spots h ss) → LinkAnswer S h s child l (Ok o)
  answer o ps ss a b c v g f = record {
    right = record { view = v ∙ ap (map view_of) (sym a); good = g; faultless = subst (λ zs. AreFaultless (spots h zs)) (sym b) f; target = c };
    wrong = tt;
  }

  pub link-none : l.conn.value ≡ None → LinkAnswer S h s child l (Ok None)
  link-none v = answer None [] [] (ap parts_by v) (ap sites_by v) (ap told_by v) refl (λ a b. refl) (nothing-told h)

  module _ (x : Expr) (v : l.conn.value ≡ Some x) where
    operands : has_link_operands l ≡ has_operands x
    operands = ap (λ (o : Option Expr). elim o as (λ _. Bool) [ None ↦ true | Some x ↦ has_operands x ]) v

    pub link-clock : to_clock x ≡ true → LinkAnswer S h s child l (Ok None)
    link-clock c = answer None [] []
        (ap parts_by v ∙ choose-clock (to_clock x) is_out _ _ c) (ap sites_by v ∙ choose-clock (to_clock x) is_out _ _ c)
        (ap told_by v ∙ ap (λ b. conn_if b s.names l.conn) (and-false is_out _ (clock-target s.names x (and-left _ _ c)))) refl (λ a b. refl) (nothing-told h)

    module _ (port : Port) (p : IsPort S child l.port port) (c : to_clock x ≡ false) where
      abbrev pub port_signal : Declared
      port_signal = signal_at S port.signal

      array-is : (known (child.names (alone l.port))).array ≡ port_signal.array
      array-is = ap (λ o. (known o).array) p.there

      module _ (out : port.output ≡ true) where
        is-out : is_out ≡ true
        is-out = p.output ∙ out

        out-sites : link_sites s.names child l ≡ sink_sites s.names x
        out-sites = ap sites_by v ∙ choose-out (to_clock x) is_out _ _ c is-out

        pub link-output : (r : Result FlatPart PartError) (q : Result (Option FlatPart) PartError) → is_width (width_of port_signal) ≡ true →
            OutputAnswer S h s.path port.signal x l.conn.place r → q ≡ some_part r → LinkAnswer S h s child l q
        link-output (Ok z) q w a e =
            let g = a.right in
            let ps : List Piece = g.view.0 in
            subst (LinkAnswer S h s child l) (sym e) (answer (Some z)
            (assignment s.path l.conn.place (sink_sites s.names x) ps (named port_signal []) ∷ []) (sink_sites s.names x)
            (ap parts_by v ∙ (choose-out (to_clock x) is_out _ _ c is-out ∙
            (ap (output_part s l.conn.place (sink_sites s.names x) (whole_value child.names l.port)) g.view.1 ∙
            ap (λ o. assignment s.path l.conn.place (sink_sites s.names x) ps (named (known o) []) ∷ []) p.there)))
            out-sites
            (ap told_by v ∙ (ap (λ o. conn_if (is_out && is_none o) s.names l.conn) g.view.1 ∙ ap (λ b. conn_if b s.names l.conn) (and-false is_out false refl)))
            (ap (λ u. u ∷ []) g.view.2)
            (λ u m. and-both _ _ (g.good (sym operands ∙ u) p.sort (sym array-is ∙ m) w) refl)
            g.faultless)
        link-output (Err (y.NoTarget n)) q w a e = subst (LinkAnswer S h s child l) (sym e) (record {
          right = tt;
          wrong = subst (λ ns. Contains ns n) (sym (ap told_by v ∙ ap (λ b. conn_if b s.names l.conn) (and-both _ _ is-out (ap is_none a.wrong.1))))
              (subst (λ k. Contains (conn_places s.names l.conn) k) (sym a.wrong.0) (place-told s.names l.conn));
        })
        link-output (Err (y.Fault z)) q w a e = subst (LinkAnswer S h s child l) (sym e) (record {
          right = tt;
          wrong = subst (λ ss. IsToldOf (spots h ss) z) (sym out-sites) a.wrong;
        })
        link-output (Err y.NoMemory) q w a e = subst (LinkAnswer S h s child l) (sym e) (record { right = tt; wrong = tt })

      module _ (out : port.output ≡ false) (width : ℕ) (wide : width_of port_signal ≡ width) where
        not-out : is_out ≡ false
        not-out = p.output ∙ out

        in-width : port_width child l.port ≡ width
        in-width = ap (λ o. width_of (known o)) p.there ∙ wide

        in-sites : link_sites s.names child l ≡ expr_sites false s.names width x
        in-sites = ap sites_by v ∙ (choose-in (to_clock x) is_out _ _ c not-out ∙ ap (λ n. expr_sites false s.names n x) in-width)

        piece-same : goal_of (port_piece S port.signal l.conn.place ∷ []) ≡ goal_of (whole_piece child.names l.conn.place l.port ∷ [])
        piece-same = goal_one (port_piece S port.signal l.conn.place) (whole_piece child.names l.conn.place l.port) (sym (ap known p.there)) refl tt

        pub link-input : (r : Result FlatPart PartError) (q : Result (Option FlatPart) PartError) → is_width (width_of port_signal) ≡ true →
            InputAnswer S h s.path port.signal width x l.conn.place r → q ≡ some_part r → LinkAnswer S h s child l q
        link-input (Ok z) q w a e =
            let g = a.right in
            let at : At = record { path = s.path; place = l.conn.place } in
            let cs : List ℕ = clocks_in (expr_sites false s.names width x) in
            subst (LinkAnswer S h s child l) (sym e) (answer (Some z)
            (assignment s.path l.conn.place (expr_sites false s.names width x) (whole_piece child.names l.conn.place l.port ∷ []) (read_expr s.names x) ∷ [])
            (expr_sites false s.names width x)
            (ap parts_by v ∙ (choose-in (to_clock x) is_out _ _ c not-out ∙
            ap (λ n. assignment s.path l.conn.place (expr_sites false s.names n x) (whole_piece child.names l.conn.place l.port ∷ []) (read_expr s.names x) ∷ []) in-width))
            in-sites
            (ap told_by v ∙ ap (λ b. conn_if (b && is_none (as_target s.names x)) s.names l.conn) not-out)
            (ap (λ u. u ∷ []) (g.view ∙ (source-Assign at cs (port_piece S port.signal l.conn.place ∷ []) (read_expr s.names x) ∙
            (ap (λ k. assign_view at cs k (read_expr s.names x)) piece-same ∙
            sym (source-Assign at cs (whole_piece child.names l.conn.place l.port ∷ []) (read_expr s.names x))))))
            (λ u m. and-both _ _ (g.good (sym operands ∙ u) p.sort (sym array-is ∙ m) w) refl)
            g.faultless)
        link-input (Err (y.NoTarget n)) q w a e = absurd a.wrong
        link-input (Err (y.Fault z)) q w a e = subst (LinkAnswer S h s child l) (sym e) (record {
          right = tt;
          wrong = subst (λ ss. IsToldOf (spots h ss) z) (sym in-sites) a.wrong;
        })
        link-input (Err y.NoMemory) q w a e = subst (LinkAnswer S h s child l) (sym e) (record { right = tt; wrong = tt })

-- ---- the width of a signal

pub signal-width : (ss : List Signal) (k : ℕ) (z : Signal) → Some z ≡ slice_get ss k → width_of (signal_at (declared_all ss) k) ≡ z.width
signal-width ss k z m = ap width_of (the-signal ss k z m) ∙ declared-width z

one-most : (a b : ℕ) → 1 ≤ max a b - min a b + 1
one-most a b = omega arith

pub signal-fits : (ss : List Signal) (k : ℕ) (z : Signal) → Some z ≡ slice_get ss k → is_width (width_of (signal_at (declared_all ss) k)) ≡ true
signal-fits ss k z m =
    let n : 1 ≤ z.width = subst (λ n. 1 ≤ n) (declared-width z) (one-most z.left z.right) in
    ap is_width (signal-width ss k z m) ∙ width_in z.width n z.most

-- ---- where it stands

module _ (ss : List Signal) (find : Path → Option ℕ) (all early : List Entry) (near : Here) (ok : AreNames (declared_all ss) find all early near) (s child : Scope) (l : Link)
    (n : s.names ≡ near.names) where
  -- the names of the scope
  pub around : AreNames (declared_all ss) find all early (h (declared_all ss) s child l near.early)
  around = subst (λ names. AreNames (declared_all ss) find all early (record { names = names; early = near.early })) (sym n) ok

  pub clock-same : (x : Expr) (port : Port) (z : Signal) → IsPort (declared_all ss) child l.port port → Some z ≡ slice_get ss port.signal →
      (is_clock s.names x && is_clock_sort (declared z).sort) ≡ to_clock (declared_all ss) s child l near.early x
  clock-same x port z p m =
      ap (λ d. is_clock s.names x && is_clock_sort d.sort) (sym (the-signal ss port.signal z m)) ∙
      ap (λ o. is_clock s.names x && is_clock_sort (known o).sort) (sym p.there)

  pub nearer : (r : Result (Option FlatPart) PartError) → LinkAnswer (declared_all ss) (h (declared_all ss) s child l near.early) s child l r →
      LinkAnswer (declared_all ss) near s child l r
  nearer (Ok o) a = record { right = record { view = a.right.view; good = a.right.good; faultless = a.right.faultless; target = a.right.target }; wrong = tt }
  nearer (Err (y.NoTarget p)) a = record { right = tt; wrong = a.wrong }
  nearer (Err (y.Fault z)) a = record { right = tt; wrong = a.wrong }
  nearer (Err y.NoMemory) a = record { right = tt; wrong = tt }
