-- The extent of a part, from that of its targets and steps.
use Rattle.std.proofs.Common.{◌≡◌, Bool, true, false, List, [], ◌∷◌, ◌++◌, map, flat_map, refl, sym, ◌∙◌, ap, subst}
use Rattle.std.proofs.lemmas.List.{map-append}
use Rattle.lv_source.specs.Places.{Bit}
use Rattle.lv_source.specs.Meaning.{bits_named, index_reads}
use Rattle.lv_source.specs.Names.{known}
use Rattle.lv_source.specs.Effect.{Piece}
use Rattle.lv_source.specs.Flow.{Event, writes_of, event_writes}
use Rattle.lv_source.specs.Views as views
use Rattle.lv_source.specs.Views.{Seen, aim_of, seen_of}
use Rattle.lv_flat.specs.Signals.{Signals}
use Rattle.lv_spans.specs.Domain.{AreSpansOf}
use Rattle.lv_source.specs.Flow.{block_writes, block_reads}
use Rattle.lv_source.specs.Summary.{leaves_latch, exposes_own}
use Rattle.lv_source.specs.PartRules.{has_twice}
use Rattle.lv_source.specs.Views.{is_continuous}
use Rattle.lv_flat.specs.declared.expr.FlatExpr.{FlatExpr}
use Rattle.lv_flat.specs.declared.stmt.FlatTarget.{FlatTarget}
use Rattle.lv_flat.specs.declared.stmt.FlatStmt.{FlatStmt}
use Rattle.lv_flat.specs.declared.part.FlatBody.{FlatBody}
use Rattle.lv_flat.specs.declared.part.FlatBody.TheVariants as bodies
use Rattle.lv_flat.specs.declared.part.FlatPart.{FlatPart}
use Rattle.lv_flat.specs.Judged.{reading}
use Rattle.lv_flat.specs.Executing.{pieces}
use Rattle.lv_flat.specs.Flows.{flow, summary}
use Rattle.lv_flat.specs.FlatViews as flat
use Rattle.lv_flat.specs.FlatViews.{flat_view}
use Rattle.lv_extents.specs.declared.extent.Way.TheVariants.{Continuous}
use Rattle.lv_extents.specs.declared.extent.Extent.{Extent}
use Rattle.lv_extents.specs.declared.extent.Aim.{Aim}
use Rattle.lv_extents.specs.declared.extent.Step.{Step}
use Rattle.lv_extents.specs.Extents.{Each, way_of, all_aims, IsAim, IsStep, IsExtent}
use Rattle.lv_extents.specs.Blocks.{aim_spans, step_aim_spans, step_spans, IsBlock}
use Rattle.lv_extents.proofs.Spans.{none-of, both, append-nil}
use Rattle.lv_extents.proofs.Lists.{each-both}

module _ (S : Signals) where
  abbrev bits_of : List views.Aim → List Bit
  bits_of as' = flat_map (λ (a : views.Aim). a.bits) as'

  pub aims-spans : (as' : List views.Aim) (xs : List Aim) → Each (IsAim S) as' xs → AreSpansOf S (bits_of as') (aim_spans xs)
  aims-spans [] [] h = none-of S [] (λ b. refl)
  aims-spans [] (x ∷ xs) h = absurd h
  aims-spans (a ∷ as') [] h = absurd h
  aims-spans (a ∷ as') (x ∷ xs) h = both S a.bits (bits_of as') x.bits (aim_spans xs) h.0.bits (aims-spans as' xs h.1)

  steps-aim-spans : (es : List Seen) (xs : List Step) → Each (IsStep S) es xs → AreSpansOf S (flat_map (λ (e : Seen). bits_of e.targets) es) (step_aim_spans xs)
  steps-aim-spans [] [] h = none-of S [] (λ b. refl)
  steps-aim-spans [] (x ∷ xs) h = absurd h
  steps-aim-spans (e ∷ es) [] h = absurd h
  steps-aim-spans (e ∷ es) (x ∷ xs) h =
      both S (bits_of e.targets) (flat_map (λ (e : Seen). bits_of e.targets) es) (aim_spans x.aims) (step_aim_spans xs) (aims-spans e.targets x.aims h.0.aims) (steps-aim-spans es xs h.1)

  steps-spans : (es : List Seen) (xs : List Step) → Each (IsStep S) es xs → AreSpansOf S (flat_map (λ (e : Seen). e.reads) es) (step_spans xs)
  steps-spans [] [] h = none-of S [] (λ b. refl)
  steps-spans [] (x ∷ xs) h = absurd h
  steps-spans (e ∷ es) [] h = absurd h
  steps-spans (e ∷ es) (x ∷ xs) h = both S e.reads (flat_map (λ (e : Seen). e.reads) es) x.reads (step_spans xs) h.0.reads (steps-spans es xs h.1)

  steps-aims : (es : List Seen) (xs : List Step) → Each (IsStep S) es xs → Each (IsAim S) (flat_map (λ (e : Seen). e.targets) es) (flat_map (λ (s : Step). s.aims) xs)
  steps-aims [] [] h = tt
  steps-aims [] (x ∷ xs) h = absurd h
  steps-aims (e ∷ es) [] h = absurd h
  steps-aims (e ∷ es) (x ∷ xs) h = each-both (IsAim S) e.targets (flat_map (λ (e : Seen). e.targets) es) x.aims (flat_map (λ (s : Step). s.aims) xs) h.0.aims (steps-aims es xs h.1)

  -- ---- the same of what the view has

  writes-are : (ps : List Piece) → bits_of (map aim_of ps) ≡ writes_of ps
  writes-are [] = refl
  writes-are (p ∷ ps) = ap (λ bs. bits_named (known p.declared) p.choices ++ bs) (writes-are ps)

  seen-writes : (es : List Event) → flat_map (λ (e : Seen). bits_of e.targets) (map seen_of es) ≡ flat_map event_writes es
  seen-writes [] = refl
  seen-writes (e ∷ es) = ap (λ bs. bs ++ flat_map (λ (e : Seen). bits_of e.targets) (map seen_of es)) (writes-are e.targets) ∙ ap (λ bs. writes_of e.targets ++ bs) (seen-writes es)

  seen-reads : (es : List Event) → flat_map (λ (e : Seen). e.reads) (map seen_of es) ≡ flat_map (λ (e : Event). e.reads) es
  seen-reads [] = refl
  seen-reads (e ∷ es) = ap (λ bs. e.reads ++ bs) (seen-reads es)

  seen-targets : (es : List Event) → flat_map (λ (e : Seen). e.targets) (map seen_of es) ≡ map aim_of (flat_map (λ (e : Event). e.targets) es)
  seen-targets [] = refl
  seen-targets (e ∷ es) = ap (λ as'. map aim_of e.targets ++ as') (seen-targets es) ∙ sym (map-append aim_of e.targets (flat_map (λ (e : Event). e.targets) es))

  pub assign-drives : (ps : List Piece) (xs : List Aim) → Each (IsAim S) (map aim_of ps) xs → AreSpansOf S (writes_of ps) (aim_spans xs)
  assign-drives ps xs h = subst (λ bs. AreSpansOf S bs (aim_spans xs)) (writes-are ps) (aims-spans (map aim_of ps) xs h)

  pub block-drives : (es : List Event) (xs : List Step) → Each (IsStep S) (map seen_of es) xs → AreSpansOf S (flat_map event_writes es) (step_aim_spans xs)
  block-drives es xs h = subst (λ bs. AreSpansOf S bs (step_aim_spans xs)) (seen-writes es) (steps-aim-spans (map seen_of es) xs h)

  pub block-reads : (es : List Event) (xs : List Step) → Each (IsStep S) (map seen_of es) xs → AreSpansOf S (flat_map (λ (e : Event). e.reads) es) (step_spans xs)
  block-reads es xs h = subst (λ bs. AreSpansOf S bs (step_spans xs)) (seen-reads es) (steps-spans (map seen_of es) xs h)

  pub block-aims : (es : List Event) (xs : List Step) → Each (IsStep S) (map seen_of es) xs → Each (IsAim S) (map aim_of (flat_map (λ (e : Event). e.targets) es)) (flat_map (λ (s :
      Step). s.aims) xs)
  block-aims es xs h = subst (λ as'. Each (IsAim S) as' (flat_map (λ (s : Step). s.aims) xs)) (seen-targets es) (steps-aims (map seen_of es) xs h)

  -- ---- an assignment

  module _ (fp : FlatPart) (e : Extent) (path : e.path ≡ fp.path) (place : e.place ≡ fp.place) (clocks : e.clocks ≡ fp.clocks) where
    pub assign-extent : (t : FlatTarget) (x : FlatExpr) → fp.body ≡ bodies.Assign t x → e.way ≡ Continuous → AreSpansOf S (writes_of (pieces S t)) e.drives →
        AreSpansOf S ((reading S x).reads ++ flat_map (λ (p : Piece). index_reads p.choices) (pieces S t)) e.reads → Each (IsAim S) (map aim_of (pieces S t)) e.aims → e.steps ≡ [] →
        e.latch ≡ false → e.exposed ≡ false → e.twice ≡ has_twice (writes_of (pieces S t)) → IsExtent S (flat_view S fp) e
    assign-extent t x is way drives reads aims steps latch exposed twice = record {
      way = ap way_of way ∙ sym (ap (λ (bd : FlatBody). flat.way_of S bd) is);
      path = path;
      place = place;
      clocks = clocks;
      drives = subst (λ (bd : FlatBody). AreSpansOf S (flat.drives S bd) e.drives) (sym is) drives;
      reads = subst (λ (bd : FlatBody). AreSpansOf S (flat.reads S bd) e.reads) (sym is) reads;
      aims = subst (λ (bd : FlatBody). Each (IsAim S) (map aim_of (flat.targets S bd)) (all_aims e)) (sym is)
          (subst (λ (ss : List Step). Each (IsAim S) (map aim_of (pieces S t)) (e.aims ++ flat_map (λ (s : Step). s.aims) ss)) (sym steps)
          (subst (λ (as' : List Aim). Each (IsAim S) (map aim_of (pieces S t)) as') (sym (append-nil e.aims)) aims));
      steps = subst (λ (bd : FlatBody). Each (IsStep S) (map seen_of (flat.events S bd)) e.steps) (sym is) (subst (λ (ss : List Step). Each (IsStep S) [] ss) (sym steps) tt);
      latch = latch ∙ sym (ap (λ (bd : FlatBody). leaves_latch (flat.paths_of S bd)) is);
      exposed = exposed ∙ sym (ap (λ (bd : FlatBody). exposes_own (flat.paths_of S bd)) is);
      twice = λ h. twice ∙ sym (ap (λ (bd : FlatBody). has_twice (flat.drives S bd)) is);
    }

  -- ---- a block

  pub record Blocked (bd : FlatBody) (s : FlatStmt) : Type 0 where
    drives : flat.drives S bd ≡ block_writes (flow S s)
    reads : flat.reads S bd ≡ block_reads (flow S s)
    events : flat.events S bd ≡ (flow S s).events
    targets : flat.targets S bd ≡ flat_map (λ (e : Event). e.targets) (flow S s).events
    paths : flat.paths_of S bd ≡ summary S s
    other : is_continuous (flat.way_of S bd) ≡ false

  blocked : (bd : FlatBody) (s : FlatStmt) → IsBlock bd s → Blocked bd s
  blocked (bodies.Assign t x) s h = absurd h
  blocked (bodies.Combinational r) s h = record {
    drives = ap (λ (z : FlatStmt). block_writes (flow S z)) h;
    reads = ap (λ (z : FlatStmt). block_reads (flow S z)) h;
    events = ap (λ (z : FlatStmt). (flow S z).events) h;
    targets = ap (λ (z : FlatStmt). flat_map (λ (e : Event). e.targets) (flow S z).events) h;
    paths = ap (λ (z : FlatStmt). summary S z) h;
    other = refl;
  }
  blocked (bodies.Clocked name r) s h = record {
    drives = ap (λ (z : FlatStmt). block_writes (flow S z)) h;
    reads = ap (λ (z : FlatStmt). block_reads (flow S z)) h;
    events = ap (λ (z : FlatStmt). (flow S z).events) h;
    targets = ap (λ (z : FlatStmt). flat_map (λ (e : Event). e.targets) (flow S z).events) h;
    paths = ap (λ (z : FlatStmt). summary S z) h;
    other = refl;
  }

  module _ (fp : FlatPart) (e : Extent) (path : e.path ≡ fp.path) (place : e.place ≡ fp.place) (clocks : e.clocks ≡ fp.clocks) where
    pub block-extent : (s : FlatStmt) → IsBlock fp.body s → way_of e.way ≡ flat.way_of S fp.body → Each (IsStep S) (map seen_of (flow S s).events) e.steps →
        e.drives ≡ step_aim_spans e.steps → e.reads ≡ step_spans e.steps →
        e.aims ≡ [] → e.latch ≡ leaves_latch (summary S s) → e.exposed ≡ exposes_own (summary S s) → IsExtent S (flat_view S fp) e
    block-extent s is way steps drives reads aims latch exposed =
        let h = blocked fp.body s is in
        record {
          way = way;
          path = path;
          place = place;
          clocks = clocks;
          drives = subst (λ bs. AreSpansOf S bs e.drives) (sym h.drives) (subst (λ xs. AreSpansOf S (block_writes (flow S s)) xs) (sym drives) (block-drives (flow S s).events e.steps steps));
          reads = subst (λ bs. AreSpansOf S bs e.reads) (sym h.reads) (subst (λ xs. AreSpansOf S (block_reads (flow S s)) xs) (sym reads) (block-reads (flow S s).events e.steps steps));
          aims = subst (λ (ps : List Piece). Each (IsAim S) (map aim_of ps) (all_aims e)) (sym h.targets)
              (subst (λ (as' : List Aim). Each (IsAim S) (map aim_of (flat_map (λ (e : Event). e.targets) (flow S s).events)) (as' ++ flat_map (λ (s : Step). s.aims) e.steps)) (sym aims)
              (block-aims (flow S s).events e.steps steps));
          steps = subst (λ (es : List Event). Each (IsStep S) (map seen_of es) e.steps) (sym h.events) steps;
          latch = latch ∙ sym (ap leaves_latch h.paths);
          exposed = exposed ∙ sym (ap exposes_own h.paths);
          twice = λ k. absurd (clash (is_continuous (flat.way_of S fp.body)) k h.other);
        }
      where
        clash : (u : Bool) → u ≡ true → u ≡ false → ⊥
        clash true h k = cc
        clash false h k = cc

pub each-snoc : {A B : Type 0} (R : A → B → Type 0) (xs : List A) (ys : List B) (x : A) (y : B) → Each R xs ys → R x y → Each R (xs ++ x ∷ []) (ys ++ y ∷ [])
each-snoc R xs ys x y h k = each-both R xs (x ∷ []) ys (y ∷ []) h (k, tt)
