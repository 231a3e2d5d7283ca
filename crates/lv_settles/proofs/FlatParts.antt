-- A flat part does to the bits of a valuation what a part of the source does.
use Rattle.std.proofs.Common.{◌≡◌, inl, inr, ℕ, zero, suc, ◌+◌, ◌<◌, Bool, true, false, ◌&&◌, not, List, [], ◌∷◌, map, refl, sym, ap, ◌∙◌, arith, subst, Some}
use Rattle.std.specs.Prelude.{flat_map, filter, cond, slice_get, slice_index_or, bytes_eq}
use Rattle.std.specs.List.{list_any, list_all, range_with_len}
use Rattle.lv_ast.specs.Names.{Name}
use Rattle.lv_ast.specs.declared.stmt.Ident.{Ident}
use Rattle.lv_ast.specs.declared.stmt.Stmt.{Stmt}
use Rattle.lv_source.specs.Names.{Names, Declared, known, is_signal_sort, width_of, no_declaration}
use Rattle.lv_source.specs.Places.{Bit, has_bit, same_bit, cells, bits_below}
use Rattle.lv_source.specs.Meaning.{Reading, read_expr}
use Rattle.lv_source.specs.Effect as source
use Rattle.lv_source.specs.Effect.{Piece}
use Rattle.lv_source.specs.Flow.{Event}
use Rattle.lv_source.specs.Flow as flows
use Rattle.lv_source.specs.Parts.{At, Body, Part, Assign, Comb, Clocked, drives, is_signal, width_from}
use Rattle.lv_source.specs.PartRules as r
use Rattle.lv_source.specs.Summary.{leaves_latch, exposes_own}
use Rattle.lv_source.specs.Views.{View, Seen, Aim, view_of, aim_of, seen_of, seen_places, aimed_at, is_continuous, is_combinational}
use Rattle.lv_source.proofs.Tests.{or-split, any-split, any-map, same_bits}
use Rattle.lv_source.proofs.Refused.{In}
use Rattle.lv_source.proofs.CaseTrees.{all-map}
use Rattle.lv_source.proofs.Summaries.{latch_is, read_first_is}
use Rattle.lv_source.proofs.Settles.{block_settles}
use Rattle.lv_source.proofs.Frame.{put_kept, block_kept}
use Rattle.lv_source.proofs.Unique.{body_settles}
use Rattle.lv_source.proofs.Provenance.{FaithfulBody}
use Rattle.lv_source.proofs.Pieces.{pieces_faithful}
use Rattle.lv_source.proofs.Readings.{faithful}
use Rattle.lv_source.proofs.Facts.{some_same, numbered_at}
use Rattle.lv_source.proofs.Driven.{Knows, IsOf, KnownBody, pieces_known, drives_known}
use Rattle.lv_flat.specs.declared.part.FlatBody.{FlatBody}
use Rattle.lv_flat.specs.declared.part.FlatBody.TheVariants as b
use Rattle.lv_flat.specs.declared.part.FlatPart.{FlatPart}
use Rattle.lv_flat.specs.Cells.{all_cells, AreDistinct}
use Rattle.lv_flat.specs.Signals.{Signals, signal_at}
use Rattle.lv_flat.specs.FlatViews.{flat_view, flat_views}
use Rattle.lv_flat.proofs.Bridge.{assign_alike, combinational_alike, clocked_alike}
use Rattle.lv_settles.specs.Lawful.{IsLawful, AreLawful}
use Rattle.lv_settles.specs.Rules.{AreRight, signals_in}
use Rattle.lv_settles.proofs.Lists.{told_none, filtered_none, cells_named}
use Rattle.lv_settles.proofs.Cells.{same_signal, width_is}
use Rattle.lv_settles.proofs.FlatTrees.{numbered, has_tree}
use Rattle.lv_settles.proofs.FlatStatements.{has_target, has_stmt}

-- ---- what the rules say of one view

pub record IsClear (w : View) : Type 0 where
  pub latch : (is_combinational w.way && leaves_latch w.paths) ≡ false
  pub first : (is_combinational w.way && exposes_own w.paths) ≡ false
  pub once : list_any (λ (e : Seen). is_combinational w.way && not e.at_once) w.events ≡ false
  pub fixed : (is_continuous w.way && not (list_all (λ (a : Aim). a.sure) w.targets)) ≡ false

pub clear_at : (ds : List Declared) (vs : List View) → AreRight ds vs → (k : ℕ) (w : View) → slice_get vs k ≡ Some w → IsClear w
clear_at ds vs right k w e = record {
  latch = told_none _ w.at [] (numbered_at (λ kv. r.told_if (is_combinational kv.1.way && leaves_latch kv.1.paths) (kv.1.at ∷ [])) vs 0 right.latch k w e);
  first = told_none _ w.at [] (numbered_at (λ kv. r.told_if (is_combinational kv.1.way && exposes_own kv.1.paths) (kv.1.at ∷ [])) vs 0 right.first k w e);
  once = filtered_none (seen_places w) (λ (e : Seen). is_combinational w.way && not e.at_once) w.events (λ x h. cc)
      (numbered_at (λ kv. flat_map (seen_places kv.1) (filter (λ (e : Seen). is_combinational kv.1.way && not e.at_once) kv.1.events)) vs 0 right.nonblocking k w e);
  fixed = told_none _ w.at _ (numbered_at (λ kv. r.told_if (is_continuous kv.1.way && not (list_all (λ (a : Aim). a.sure) kv.1.targets)) (aimed_at kv.1)) vs 0 right.unfixed k w e);
}

-- ---- parts of the source

events_once : (es : List Event) → list_any (λ (e : Seen). not e.at_once) (map seen_of es) ≡ false → list_any (λ (e : Event). not e.at_once) es ≡ false
events_once es h = any-map (λ (e : Seen). not e.at_once) seen_of es ∙ h

module _ (ds : List Declared) (at : At) (clocks : List ℕ) where
  abbrev part : Body → Part
  part body = record { at = at; clocks = clocks; body = body }

  -- it drives bits of these signals
  abbrev Within : Body → Type 0
  Within body = (x : Bit) → has_bit (drives (part body)) x ≡ true → x.place < width_from ds x.name

  assign_lawful : (ps : List Piece) (value : Reading) → FaithfulBody (Assign ps value) → IsClear (view_of (part (Assign ps value))) → Within (Assign ps value) →
      IsLawful ds (view_of (part (Assign ps value)))
  assign_lawful ps value f c w = record {
    keeps = λ h v x n. put_kept ps value v f.0 x n;
    follows = λ h v u same x own. body_settles at clocks (Assign ps value) f refl refl refl refl
        (ap not (all-map (λ (a : Aim). a.sure) aim_of ps) ∙ c.fixed) v u same x own;
    within = w;
  }

  comb_lawful : (names : Names) (s : Stmt) → IsClear (view_of (part (Comb names s))) → Within (Comb names s) → IsLawful ds (view_of (part (Comb names s)))
  comb_lawful names s c w = record {
    keeps = λ h v x n. block_kept names s (events_once (flows.flow names s).events c.once) v x n;
    follows = λ h v u same x own. block_settles names s (latch_is names s ∙ c.latch) (read_first_is names s ∙ c.first) (events_once (flows.flow names s).events c.once) v u same x own;
    within = w;
  }

  clocked_lawful : (names : Names) (k : Ident) (s : Stmt) → Within (Clocked names k s) → IsLawful ds (view_of (part (Clocked names k s)))
  clocked_lawful names k s w = record { keeps = λ h. cc; follows = λ h. cc; within = w }

-- ---- the signals

in_filter : (x : Declared) (S : Signals) (k : ℕ) → slice_index_or S k no_declaration ≡ x → is_signal x ≡ true → In x (filter is_signal S)
in_filter x [] k e h = absurd (let t : is_signal no_declaration ≡ true = ap is_signal e ∙ h in cc)
in_filter x (d ∷ S) zero e h = subst (λ b. In x (cond b (d ∷ filter is_signal S) (filter is_signal S))) (sym (ap is_signal e ∙ h)) (inl e)
in_filter x (d ∷ S) (suc k) e h = elim (is_signal d) as (λ b. In x (cond b (d ∷ filter is_signal S) (filter is_signal S))) [
  | true ↦ inr (in_filter x S k e h)
  | false ↦ in_filter x S k e h
]

placed_below : (p : ℕ → Bool) (a n place : ℕ) → ((k : ℕ) → p k ≡ true → k ≡ place) → list_any p (range_with_len a n) ≡ true → place < a + n
placed_below p a zero place f h = cc
placed_below p a (suc n) place f h = elim (or-split (p a) (list_any p (range_with_len (a + 1) n)) h) [
  | inl e ↦ (let s : a ≡ place = f a e in omega arith)
  | inr e ↦ (let s : place < a + 1 + n = placed_below p (a + 1) n place f e in omega arith)
]

-- a bit of these names lies below the width
bits_placed : (width : ℕ) (ns : List Name) (x : Bit) → has_bit (flat_map (bits_below width) ns) x ≡ true → x.place < width
bits_placed width [] x h = cc
bits_placed width (n ∷ ns) x h = elim (any-split (same_bit x) (bits_below width n) (flat_map (bits_below width) ns) h) [
  | inr m ↦ bits_placed width ns x m
  | inl m ↦ (
      let f : ℕ → Bit = λ k. record { name = n; place = k } in
      let s : x.place < 0 + width =
      placed_below (λ k. same_bit x (f k)) 0 width x.place (λ k e. ap (λ (b : Bit). b.place) (sym (same_bits x (f k) e))) (any-map (same_bit x) f (range_with_len 0 width) ∙ m) in omega arith)
]

module _ (S : Signals) (distinct : AreDistinct (all_cells S)) where
  abbrev ds : List Declared
  ds = signals_in S

  knows_by : (name : Name) → is_signal_sort (known (numbered S (record { steps = []; name = name; place = 0 }))).sort ≡ true →
      In (known (numbered S (record { steps = []; name = name; place = 0 }))) ds
  knows_by [] h = cc
  knows_by (k ∷ []) h = in_filter (signal_at S k) S k refl h
  knows_by (k ∷ l ∷ []) h = cc
  knows_by (k ∷ l ∷ m ∷ []) h = cc
  knows_by (k ∷ l ∷ m ∷ n ∷ ks) h = cc

  knows : Knows ds (numbered S)
  knows p h = knows_by p.name h

  inside : (x : Bit) → IsOf ds x → x.place < width_from ds x.name
  inside x h =
      let name : list_any (bytes_eq x.name) (cells h.signal) ≡ true = cells_named (width_of h.signal) (cells h.signal) x h.bit in
      let width : width_from ds x.name ≡ width_of h.signal =
      width_is ds x.name h.signal h.among (λ y i c. same_signal S distinct y h.signal x.name i h.among c name) name in
      subst (λ n. x.place < n) (sym width) (bits_placed (width_of h.signal) (cells h.signal) x h.bit)

  within : (at : At) (clocks : List ℕ) (body : Body) → KnownBody ds body → Within ds at clocks body
  within at clocks body k x h = inside x (drives_known ds (record { at = at; clocks = clocks; body = body }) k x h)

  lawful_by : (p : FlatPart) (body : FlatBody) → p.body ≡ body → IsClear (flat_view S (record { path = p.path; place = p.place; clocks = p.clocks; body = body })) →
      IsLawful ds (flat_view S (record { path = p.path; place = p.place; clocks = p.clocks; body = body }))
  lawful_by p (b.Assign t x) e c =
      let a : At = record { path = p.path; place = p.place } in
      let target : _ = has_target S t in
      let ps : List Piece = source.pieces (numbered S) target.tree in
      let value : Reading = read_expr (numbered S) (has_tree S x).tree in
      let same : flat_view S (record { path = p.path; place = p.place; clocks = p.clocks; body = b.Assign t x }) ≡ view_of (record { at = a; clocks = p.clocks; body = Assign ps value }) =
      assign_alike S p.path p.place p.clocks ps value t x target.is (has_tree S x).is in
      subst (IsLawful ds) (sym same) (assign_lawful ds a p.clocks ps value (pieces_faithful (numbered S) target.tree, faithful (numbered S) (has_tree S x).tree) (subst IsClear same c)
      (within a p.clocks (Assign ps value) (pieces_known ds (numbered S) knows target.tree)))
  lawful_by p (b.Combinational s) e c =
      let a : At = record { path = p.path; place = p.place } in
      let t : _ = has_stmt S s in
      let same : flat_view S (record { path = p.path; place = p.place; clocks = p.clocks; body = b.Combinational s }) ≡ view_of (record {
        at = a;
        clocks = p.clocks;
        body = Comb
            (numbered S) t.tree;
      }) =
      combinational_alike S p.path p.place p.clocks (numbered S) t.tree s t.is in
      subst (IsLawful ds) (sym same) (comb_lawful ds a p.clocks (numbered S) t.tree (subst IsClear same c) (within a p.clocks (Comb (numbered S) t.tree) knows))
  lawful_by p (b.Clocked k s) e c =
      let a : At = record { path = p.path; place = p.place } in
      let t : _ = has_stmt S s in
      let clock : Ident = record { name = k.signal ∷ []; place = k.place } in
      let same : flat_view S (record { path = p.path; place = p.place; clocks = p.clocks; body = b.Clocked k s }) ≡ view_of (record {
        at = a;
        clocks = p.clocks;
        body = Clocked
            (numbered S) clock t.tree;
      }) =
      clocked_alike S p.path p.place p.clocks (numbered S) clock t.tree k s refl refl t.is in
      subst (IsLawful ds) (sym same) (clocked_lawful ds a p.clocks (numbered S) clock t.tree (within a p.clocks (Clocked (numbered S) clock t.tree) knows))

  viewed : (ps : List FlatPart) (k : ℕ) (w : View) → slice_get (flat_views S ps) k ≡ Some w → (p : FlatPart) × (flat_view S p ≡ w)
  viewed [] k w e = cc
  viewed (p ∷ ps) zero w e = (p, some_same (flat_view S p) w e)
  viewed (p ∷ ps) (suc k) w e = viewed ps k w e

  pub lawful : (ps : List FlatPart) → AreRight ds (flat_views S ps) → AreLawful ds (flat_views S ps)
  lawful ps right = record {
    each = λ k w e.
        (let p : (p : FlatPart) × (flat_view S p ≡ w) = viewed ps k w e in
        subst (IsLawful ds) p.1 (lawful_by p.0 p.0.body refl (subst IsClear (sym p.1) (clear_at ds (flat_views S ps) right k w e))));
  }
