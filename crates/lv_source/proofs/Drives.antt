-- Each bit that a part of a legal source with plain names drives is a bit of one of its signals, at the width of its name.
use Rattle.std.proofs.Common.{◌≡◌, inl, inr, ℕ, ◌+◌, ◌<◌, zero, suc, arith, Bool, true, false, ◌==◌, List, [], ◌∷◌, map, length, refl, sym, ap, ◌∙◌, subst, Option, Some, None}
use Rattle.std.specs.Prelude.{bytes_eq, flat_map, slice_get, if◌then◌else◌}
use Rattle.std.specs.List.{list_any, range_with_len}
use Rattle.std.proofs.lemmas.Bool.{eqb-true}
use Rattle.lv_ast.specs.declared.expr.Expr.{Expr}
use Rattle.lv_ast.specs.declared.stmt.Stmt.{Stmt}
use Rattle.lv_ast.specs.declared.item.Item.{Item}
use Rattle.lv_ast.specs.declared.item.Item.TheVariants as i
use Rattle.lv_ast.specs.declared.item.Conn.{Conn}
use Rattle.lv_ast.specs.declared.item.Continuous.{Continuous}
use Rattle.lv_ast.specs.declared.item.Inst.{Inst}
use Rattle.lv_ast.specs.declared.item.NetName.{NetName}
use Rattle.lv_ast.specs.declared.item.Source.{Source}
use Rattle.lv_ast.specs.declared.item.Watch.{Watch}
use Rattle.lv_ast.specs.declared.item.Watch.TheVariants as w
use Rattle.lv_ast.specs.Names.{Name}
use Rattle.lv_source.specs.Names.{Names, Declared, width_of}
use Rattle.lv_source.specs.Places.{Bit, has_bit, same_bit, whole, cells, bits_below}
use Rattle.lv_source.specs.Meaning.{Reading, read_expr}
use Rattle.lv_source.specs.Effect.{Piece, pieces}
use Rattle.lv_source.specs.Declarations.{of_item}
use Rattle.lv_source.specs.Scopes.{Scope, Link, module_named, instance_scopes, children, children_by, counted_from}
use Rattle.lv_source.specs.Sites.{Site, expr_sites, sink_sites}
use Rattle.lv_source.specs.PartSites.{port_width, assign_sites}
use Rattle.lv_source.specs.Parts.{Design, Part, Assign, part, net_part, output_part, link_body, link_part, instance_parts, whole_piece, always_body, item_parts, scope_parts, parts, scopes_of, signals_of, whole_value, as_target, links_to, option_list, width_from, width_at}
use Rattle.lv_source.specs.Legal.{IsLegal}
use Rattle.lv_ast.specs.PlainNames.{HasPlainNames}
use Rattle.lv_source.specs.Settled.{HasApartSignals}
use Rattle.lv_source.proofs.Tests.{and-left, and-right, any-split, or-left, or-right, or-split, same_name, name-itself}
use Rattle.lv_source.proofs.Refused.{In, in-split, in-left, in-right}
use Rattle.lv_source.proofs.FaultLaws.{in-flat}
use Rattle.lv_source.proofs.Trees.{HasCell, in-from}
use Rattle.lv_source.proofs.Kids.{mapped-from, index_in, in_index}
use Rattle.lv_source.proofs.Shaped.{signals_apart}
use Rattle.lv_source.proofs.Nesting.{closed}
use Rattle.lv_source.proofs.Driven.{Knows, IsOf, KnownBody, MaybeKnown, pieces_known, target_known, drives_known}
use Rattle.lv_source.proofs.Given.{scopes_known}

-- ---- each part has names of a scope of the design

module _ (ss : List Declared) where
  abbrev KnownPart : Part → Type 0
  KnownPart p = KnownBody ss p.body

  net_known : (s : Scope) (n : NetName) → Knows ss s.names → (o : Option Expr) → (p : Part) →
      In p (elim o [ None ↦ [] | Some x ↦ net_part s (record n { value = Some x }) ]) → KnownPart p
  net_known s n f None p h = absurd h
  net_known s n f (Some x) p (inl e) = subst KnownPart e (f _, tt)
  net_known s n f (Some x) p (inr e) = absurd e

  net_is : (s : Scope) (n : NetName) → net_part s n ≡ elim n.value [ None ↦ [] | Some x ↦ net_part s (record n { value = Some x }) ]
  net_is s n = elim n.value as (λ o. net_part s (record n { value = o }) ≡ elim o [ None ↦ [] | Some x ↦ net_part s (record n { value = Some x }) ]) [ None ↦ refl | Some x ↦ refl ]

  output_known : (s : Scope) (place : ℕ) (sites : List Site) (value : Reading) (o : Option (List Piece)) → MaybeKnown ss o → (p : Part) → In p (output_part s place sites value o) → KnownPart p
  output_known s place sites value None f p h = absurd h
  output_known s place sites value (Some ps) f p (inl e) = subst KnownPart e f
  output_known s place sites value (Some ps) f p (inr e) = absurd e

  alone_known : (q p : Part) → KnownPart q → In p (q ∷ []) → KnownPart p
  alone_known q p f (inl e) = subst KnownPart e f
  alone_known q p f (inr e) = absurd e

  pick : (p : Part) (a b : Bool) (xs ys : List Part) → In p (if a then [] else if b then xs else ys) → (In p xs → KnownPart p) → (In p ys → KnownPart p) → KnownPart p
  pick p true b xs ys h f g = absurd h
  pick p false true xs ys h f g = f h
  pick p false false xs ys h f g = g h

  link_by : (s child : Scope) (l : Link) → Knows ss s.names → Knows ss child.names → (o : Option Expr) (p : Part) → In p (elim o [ None ↦ [] | Some x ↦ link_body s child l x ]) → KnownPart p
  link_by s child l f g None p h = absurd h
  link_by s child l f g (Some x) p h =
      let into : Part = part s l.conn.place (expr_sites false s.names (port_width child l.port) x) (Assign (whole_piece child.names l.conn.place l.port ∷ []) (read_expr s.names x)) in
      pick p _ _ (output_part s l.conn.place (sink_sites s.names x) (whole_value child.names l.port) (as_target s.names x)) (into ∷ []) h
      (λ k. output_known s l.conn.place (sink_sites s.names x) (whole_value child.names l.port) (as_target s.names x) (target_known ss s.names f x) p k)
      (alone_known into p (g _, tt))

  always_known : (names : Names) (stmt : Stmt) (watch : Watch) → Knows ss names → KnownBody ss (always_body names stmt watch)
  always_known names stmt w.Star f = f
  always_known names stmt w.Closed f = f
  always_known names stmt (w.Posedge clock) f = f

  module _ (source : Source) (s : Scope) (f : Knows ss s.names) where
    instance_known : (settings : List Conn) (kind : Name) (inst : Inst) → ((c : Scope) → In c (instance_scopes s settings inst (module_named source kind)) → Knows ss c.names) →
        (p : Part) → In p (instance_parts source s kind settings inst) → KnownPart p
    instance_known settings kind inst g p h =
        let ls : List Link = links_to (option_list (module_named source kind)) inst in
        let c : (c : Scope) × In c (instance_scopes s settings inst (module_named source kind)) × In p (flat_map (link_part s c) ls) =
        in-from (λ child. flat_map (link_part s child) ls) p (instance_scopes s settings inst (module_named source kind)) h in
        let l : (l : Link) × In l ls × In p (link_part s c.0 l) = in-from (link_part s c.0) p ls c.2 in
        link_by s c.0 l.0 f (g c.0 c.1) l.0.conn.value p l.2

    item_known : (k : ℕ) (x : Item) → ((c : Scope) → In c (children_by source s (k, x)) → Knows ss c.names) → (p : Part) → In p (item_parts source s x) → KnownPart p
    item_known k (i.Wire signed range names) g p h =
        (let r : (n : NetName) × In n names × In p (net_part s n) = in-from (net_part s) p names h in
        net_known s r.0 f r.0.value p (subst (λ (xs : List Part). In p xs) (net_is s r.0) r.2))
    item_known k (i.Assign list) g p h =
        (let r : (a : Continuous) × In a list × (part s a.place (assign_sites s.names a) (Assign (pieces s.names a.target) (read_expr s.names a.value)) ≡ p) =
        mapped-from (λ (a : Continuous). part s a.place (assign_sites s.names a) (Assign (pieces s.names a.target) (read_expr s.names a.value))) p list h in
        subst KnownPart r.2 (pieces_known ss s.names f r.0.target))
    item_known k (i.Always watch stmt place) g p (inl e) = subst KnownPart e (always_known s.names stmt watch f)
    item_known k (i.Always watch stmt place) g p (inr e) = absurd e
    item_known k (i.Instance kind settings insts) g p h =
        (let r : (n : Inst) × In n insts × In p (instance_parts source s kind.name settings n) = in-from (instance_parts source s kind.name settings) p insts h in
        instance_known settings kind.name r.0 (λ c j. g c (in-flat (λ n. instance_scopes s settings n (module_named source kind.name)) r.0 c insts r.1 j)) p r.2)
    item_known k (i.Port a) g p h = absurd h
    item_known k (i.Reg signed range names) g p h = absurd h
    item_known k (i.Index genvar names) g p h = absurd h
    item_known k (i.Params local ps) g p h = absurd h
    item_known k (i.Generate' n items) g p h = absurd h
    item_known k (i.Loop' index start test again next label n items) g p h = absurd h

    items_known : (k : ℕ) (xs : List Item) → ((c : Scope) → In c (flat_map (children_by source s) (counted_from k xs)) → Knows ss c.names) → (p : Part) → In p (flat_map (item_parts source s) xs) → KnownPart p
    items_known k [] g p h = absurd h
    items_known k (x ∷ xs) g p h = elim (in-split p (item_parts source s x) (flat_map (item_parts source s) xs) h) [
      | inl a ↦ item_known k x (λ c j. g c (in-left c (children_by source s (k, x)) _ j)) p a
      | inr a ↦ items_known (k + length (of_item x)) xs (λ c j. g c (in-right c (children_by source s (k, x)) _ j)) p a
    ]

    part_known : ((c : Scope) → In c (children source s) → Knows ss c.names) → (p : Part) → In p (scope_parts source s) → KnownPart p
    part_known g p h = items_known s.header s.items g p h

-- the targets of each part are signals of the design
pub parts_known : (d : Design) (p : Part) → In p (parts d) → KnownBody (signals_of d) p.body
unfolding parts
parts_known d p h =
    let r : (s : Scope) × In s (scopes_of d) × In p (scope_parts d.source s) = in-from (scope_parts d.source) p (scopes_of d) h in
    part_known (signals_of d) d.source r.0 (scopes_known d r.0 r.1) (λ c j. scopes_known d c (closed d r.0 c r.1 j)) p r.2

-- ---- widths

below_lt : (width : ℕ) (n : Name) (x : Bit) (j : ℕ) → has_bit (map (λ k. record { name = n; place = k }) (range_with_len j width)) x ≡ true → x.place < j + width
below_lt zero n x j h = cc
below_lt (suc width) n x j h =
    let c : Bit = record { name = n; place = j } in
    elim (or-split (same_bit x c) (has_bit (map (λ k. record { name = n; place = k }) (range_with_len (j + 1) width)) x) h) [
      | inl e ↦ (let f : x.place ≡ j = eqb-true x.place j (and-left (x.place == j) (bytes_eq x.name n) e) in omega arith)
      | inr e ↦ (let f : x.place < j + 1 + width = below_lt width n x (j + 1) e in omega arith)
    ]

below_name : (ks : List ℕ) (n : Name) (x : Bit) → has_bit (map (λ k. record { name = n; place = k }) ks) x ≡ true → x.name ≡ n
below_name [] n x h = cc
below_name (k ∷ ks) n x h =
    let c : Bit = record { name = n; place = k } in
    elim (or-split (same_bit x c) (has_bit (map (λ k. record { name = n; place = k }) ks) x) h) [
      | inl e ↦ same_name x.name n (and-right (x.place == k) (bytes_eq x.name n) e)
      | inr e ↦ below_name ks n x e
    ]

cells_place : (width : ℕ) (names : List Name) (x : Bit) → has_bit (flat_map (bits_below width) names) x ≡ true → (list_any (bytes_eq x.name) names ≡ true) × (x.place < width)
cells_place width [] x h = cc
cells_place width (n ∷ ns) x h = elim (any-split (same_bit x) (bits_below width n) (flat_map (bits_below width) ns) h) [
  | inl m ↦ (
    or-left (bytes_eq x.name n) (list_any (bytes_eq x.name) ns) (ap (λ y. bytes_eq y n) (below_name (range_with_len 0 width) n x m) ∙ name-itself n),
    (let e : x.place < 0 + width = below_lt width n x 0 m in let f : x.place < width = omega arith in f),
  )
  | inr m ↦ (let r : (list_any (bytes_eq x.name) ns ≡ true) × (x.place < width) = cells_place width ns x m in (or-right (bytes_eq x.name n) (list_any (bytes_eq x.name) ns) r.0, r.1))
]

-- a bit of a signal is a bit of its cell
pub whole_place : (y : Declared) (x : Bit) → has_bit (whole y) x ≡ true → HasCell y x.name × (x.place < width_of y)
whole_place y x h = cells_place (width_of y) (cells y) x h

width_if : (b : Bool) (a c w : ℕ) → (b ≡ true → a ≡ w) → (b ≡ false → c ≡ w) → (if b then a else c) ≡ w
width_if true a c w f g = f refl
width_if false a c w f g = g refl

-- the width of a cell is that of its signal, where all signals with the cell are one
pub width_is : (ds : List Declared) (y : Declared) (name : Name) → In y ds → HasCell y name → ((z : Declared) → In z ds → HasCell z name → z ≡ y) → width_from ds name ≡ width_of y
width_is [] y name i c f = absurd i
width_is (z ∷ zs) y name (inl e) c f =
    width_if (list_any (bytes_eq name) (cells z)) (width_of z) (width_from zs name) (width_of y) (λ h. ap width_of e)
    (λ h. absurd (let k : list_any (bytes_eq name) (cells z) ≡ true = ap (λ (x : Declared). list_any (bytes_eq name) (cells x)) e ∙ c in let x : true ≡ false = sym k ∙ h in cc))
width_is (z ∷ zs) y name (inr i) c f =
    width_if (list_any (bytes_eq name) (cells z)) (width_of z) (width_from zs name) (width_of y) (λ h. ap width_of (f z (inl refl) h)) (λ h. width_is zs y name i c (λ x j k. f x (inr j) k))

-- ---- legal sources with plain names

module _ (d : Design) (legal : IsLegal d) (plain : HasPlainNames d.source) where
  pub cell_one : (x y : Declared) (name : Name) → In x (signals_of d) → In y (signals_of d) → HasCell x name → HasCell y name → x ≡ y
  cell_one x y name i j a b =
      (let k : (k : ℕ) × (slice_get (signals_of d) k ≡ Some x) = index_in x (signals_of d) i in
      let l : (k : ℕ) × (slice_get (signals_of d) k ≡ Some y) = index_in y (signals_of d) j in
      signals_apart d legal plain k.0 l.0 x y name k.1 l.1 a b)

  pub cell_width : (y : Declared) (name : Name) → In y (signals_of d) → HasCell y name → width_at d name ≡ width_of y
  cell_width y name i c = width_is (signals_of d) y name i c (λ z j k. cell_one z y name j i k c)

  pub bit_placed : (x : Bit) → IsOf (signals_of d) x → x.place < width_at d x.name
  bit_placed x h =
      (let r : HasCell h.signal x.name × (x.place < width_of h.signal) = whole_place h.signal x h.bit in
      subst (λ (n : ℕ). x.place < n) (sym (cell_width h.signal x.name h.among r.0)) r.1)

  -- its signals are apart, and its parts drive bits of them alone
  pub has_apart : HasApartSignals d
  has_apart = record {
    apart = signals_apart d legal plain;
    within = λ k p x e c h. bit_placed x (drives_known (signals_of d) p (parts_known d p (in_index p (parts d) k e)) x h);
  }
