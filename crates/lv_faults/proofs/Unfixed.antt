-- A design whose scopes have no fault has no continuous target with an index that isn't constant.
use Rattle.std.proofs.Common.{◌≡◌, inl, inr, ℕ, ◌+◌, Bool, true, false, not, List, [], ◌∷◌, length, refl, sym, ap, ◌∙◌, subst, Option, Some, None}
use Rattle.std.specs.Prelude.{flat_map, if◌then◌else◌, Contains}
use Rattle.lv_ast.specs.declared.expr.Expr.{Expr}
use Rattle.lv_ast.specs.declared.stmt.Stmt.{Stmt}
use Rattle.lv_ast.specs.declared.item.Item.{Item}
use Rattle.lv_ast.specs.declared.item.Item.TheVariants as i
use Rattle.lv_ast.specs.declared.item.Conn.{Conn}
use Rattle.lv_ast.specs.declared.item.Continuous.{Continuous}
use Rattle.lv_ast.specs.declared.item.Inst.{Inst}
use Rattle.lv_ast.specs.declared.item.Module.{Module}
use Rattle.lv_ast.specs.declared.item.NetName.{NetName}
use Rattle.lv_ast.specs.declared.item.Source.{Source}
use Rattle.lv_ast.specs.declared.item.Watch.{Watch}
use Rattle.lv_ast.specs.declared.item.Watch.TheVariants as w
use Rattle.lv_ast.specs.Names.{Name}
use Rattle.lv_source.specs.Meaning.{Reading, read_expr}
use Rattle.lv_source.specs.Effect.{Piece, pieces}
use Rattle.lv_source.specs.Declarations.{of_item, port_names}
use Rattle.lv_source.specs.Faults.{site_faults, other_faults, part_faults}
use Rattle.lv_source.specs.Legal.{Kind, UnknownModule, UnknownName, Duplicate, NotConstant, ZeroDivisor, Range, Recursion, Port, WrongKind, ClockUse, Blocking, Nonblocking, TwoDrivers, Undriven, Latch, ReadFirst, places_of, at_parts, modules_again}
use Rattle.lv_source.specs.PartRules.{is_unfixed, unfixed_targets, told_if, target_places}
use Rattle.lv_source.specs.PartSites.{port_width, assign_sites, link_sites, stmt_sites}
use Rattle.lv_source.specs.Parts.{Design, Part, Assign, part, net_part, output_part, link_part, instance_parts, whole_piece, whole_value, always_body, item_parts, scope_parts, parts, scopes_of, as_target, links_to, option_list, numbered_from}
use Rattle.lv_source.specs.Scopes.{Scope, Link, here_at, links, module_named, instance_scopes, counted_from, counted_items}
use Rattle.lv_source.specs.ScopeRules.{scope_spots, item_spots, item_sites, inst_sites, setting_sites, declaration_sites}
use Rattle.lv_source.specs.Sites.{Driven, Site, Spot, spots, expr_sites, sink_sites, target_sites}
use Rattle.lv_source.specs.Standing.{target_width}
use Rattle.lv_source.proofs.Bounds.{IsFixed, Fixed}
use Rattle.lv_source.proofs.FaultLaws.{in-flat, append-left, append-right}
use Rattle.lv_source.proofs.Given.{mapped_in}
use Rattle.lv_source.proofs.Kids.{mapped-from}
use Rattle.lv_source.proofs.Refused.{In, in_contains, in-left, in-right}
use Rattle.lv_source.proofs.Trees.{in-from}
use Rattle.lv_faults.specs.Designs.{IsToldByParts}
use Rattle.lv_faults.specs.Faults.{is_scope_kind, IsFaultless}
use Rattle.lv_faults.proofs.DesignFaults.{told_by_parts}
use Rattle.lv_faults.proofs.FixedReadings.{are_fixed, AreMaybeFixed, as_target_fixed, target_fixed}
use Rattle.lv_faults.proofs.ScopeFaults.{flat_empty}

none_in : {A B : Type 0} (f : A → List B) (xs : List A) (x : A) → flat_map f xs ≡ [] → In x xs → f x ≡ []
none_in f [] x h i = absurd i
none_in f (y ∷ ys) x h (inl k) = ap f (sym k) ∙ append-left (f y) (flat_map f ys) h
none_in f (y ∷ ys) x h (inr i) = none_in f ys x (append-right (f y) (flat_map f ys) h) i

counted_has : (x : Item) (xs : List Item) (j : ℕ) → In x xs → (k : ℕ) × In (k, x) (counted_from j xs)
counted_has x [] j h = absurd h
counted_has x (y ∷ ys) j (inl e) = (j, inl (ap (λ (z : Item). (j, z)) e))
counted_has x (y ∷ ys) j (inr h) = (let r : (k : ℕ) × In (k, x) (counted_from (j + length (of_item y)) ys) = counted_has x ys (j + length (of_item y)) h in (r.0, inr r.1))

-- ---- the nodes of an item

module _ (source : Source) (s : Scope) (clean : IsFaultless source s) where
  fixed_spot : (early : _) (y : Site) → In (record { early = early; site = y }) (scope_spots source s) → IsFixed y
  fixed_spot early y i = record {
    early = early;
    constant = none_in (site_faults NotConstant) (scope_spots source s) (record { early = early; site = y })
        (append-left _ (other_faults source NotConstant s) (clean.none NotConstant refl)) i;
    known_name = none_in (site_faults UnknownName) (scope_spots source s) (record { early = early; site = y })
        (append-left _ (other_faults source UnknownName s) (clean.none UnknownName refl)) i;
  }

  fixed_in : (kx : ℕ × Item) → In kx (counted_items s) → (y : Site) → In (record { early = (here_at s kx.0).early; site = y })
      (item_spots source s (here_at s kx.0) kx.1) → IsFixed y
  fixed_in kx i y j = fixed_spot (here_at s kx.0).early y
      (in-right (record { early = (here_at s kx.0).early; site = y })
      (flat_map (λ (kd : ℕ × _). spots (here_at s kd.0) (declaration_sites s.names kd.1)) (numbered_from 0 s.declarations)) _
      (in-flat (λ (kx : ℕ × Item). item_spots source s (here_at s kx.0) kx.1) kx (record { early = (here_at s kx.0).early; site = y }) (counted_items s) i j))

  fixed_sites_in : (k : ℕ) (x : Item) → In (k, x) (counted_items s) → item_spots source s (here_at s k) x ≡ spots (here_at s k) (item_sites source s s.names x) →
      Fixed (item_sites source s s.names x)
  fixed_sites_in k x i e y j = fixed_in (k, x) i y
      (subst (λ zs. In (record { early = (here_at s k).early; site = y }) zs) (sym e)
      (mapped_in (λ (y : Site). let p : Spot = record { early = (here_at s k).early; site = y } in p) y (item_sites source s s.names x) j))

  -- ---- each part

  abbrev IsFixedPart : Part → Type 0
  IsFixedPart p = is_unfixed p ≡ false

  assigns_fixed : (place : ℕ) (sites : List Site) (ps : List Piece) (value : Reading) → are_fixed ps ≡ true → IsFixedPart (part s place sites (Assign ps value))
  assigns_fixed place sites ps value h = ap not h

  net_fixed : (n : NetName) (o : Option Expr) (p : Part) → In p (elim o [ None ↦ [] | Some x ↦ net_part s (record n { value = Some x }) ]) → IsFixedPart p
  net_fixed n None p h = absurd h
  net_fixed n (Some x) p (inl e) = subst IsFixedPart e refl
  net_fixed n (Some x) p (inr e) = absurd e

  net_is : (n : NetName) → net_part s n ≡ elim n.value [ None ↦ [] | Some x ↦ net_part s (record n { value = Some x }) ]
  net_is n = elim n.value as (λ o. net_part s (record n { value = o }) ≡ elim o [ None ↦ [] | Some x ↦ net_part s (record n { value = Some x }) ]) [ None ↦ refl | Some x ↦ refl ]

  output_fixed : (place : ℕ) (sites : List Site) (value : Reading) (o : Option (List Piece)) → AreMaybeFixed o → (p : Part) → In p (output_part s place sites value o) →
      IsFixedPart p
  output_fixed place sites value None f p h = absurd h
  output_fixed place sites value (Some ps) f p (inl e) = subst IsFixedPart e (assigns_fixed place sites ps value f)
  output_fixed place sites value (Some ps) f p (inr e) = absurd e

  alone_fixed : (q p : Part) → IsFixedPart q → In p (q ∷ []) → IsFixedPart p
  alone_fixed q p f (inl e) = subst IsFixedPart e f
  alone_fixed q p f (inr e) = absurd e

  -- by the same tests as its nodes
  pick : (p : Part) (a b : Bool) (xs ys : List Part) (us vs : List Site) → In p (if a then [] else if b then xs else ys) → Fixed (if a then [] else if b then us else vs) →
      (Fixed us → In p xs → IsFixedPart p) → (In p ys → IsFixedPart p) → IsFixedPart p
  pick p true b xs ys us vs h k f g = absurd h
  pick p false true xs ys us vs h k f g = f k h
  pick p false false xs ys us vs h k f g = g h

  link_by : (child : Scope) (port : Name) (c : Conn) (o : Option Expr) (p : Part) →
      In p (link_part s child (record { port = port; conn = record c { value = o } })) →
      Fixed (link_sites s.names child (record { port = port; conn = record c { value = o } })) → IsFixedPart p
  link_by child port c None p h k = absurd h
  link_by child port c (Some x) p h k =
      let into : Part = part s c.place (expr_sites false s.names (port_width child port) x) (Assign (whole_piece child.names c.place port ∷ []) (read_expr s.names x)) in
      pick p _ _ (output_part s c.place (sink_sites s.names x) (whole_value child.names port) (as_target s.names x)) (into ∷ [])
      (sink_sites s.names x) (expr_sites false s.names (port_width child port) x) h k
      (λ u. output_fixed c.place (sink_sites s.names x) (whole_value child.names port) (as_target s.names x) (as_target_fixed s.names x Driven None refl u) p)
      (alone_fixed into p refl)

  link_fixed : (child : Scope) (l : Link) (p : Part) → In p (link_part s child l) → Fixed (link_sites s.names child l) → IsFixedPart p
  link_fixed child l p h k = link_by child l.port l.conn l.conn.value p h k

  always_fixed : (stmt : Stmt) (watch : Watch) (place : ℕ) (sites : List Site) → IsFixedPart (part s place sites (always_body s.names stmt watch))
  always_fixed stmt w.Star place sites = refl
  always_fixed stmt w.Closed place sites = refl
  always_fixed stmt (w.Posedge clock) place sites = refl

  abbrev parts_by : List Conn → Inst → Option Module → List Part
  parts_by settings inst o = flat_map (λ child. flat_map (link_part s child) (links_to (option_list o) inst)) (instance_scopes s settings inst o)

  instance_fixed : (settings : List Conn) (inst : Inst) (o : Option Module) → Fixed (inst_sites source s s.names settings inst o) → (p : Part) →
      In p (parts_by settings inst o) → IsFixedPart p
  instance_fixed settings inst None f p h = absurd h
  instance_fixed settings inst (Some m) f p h =
      let ls : List Link = links (port_names m.ports) inst.conns in
      let cs : List Scope = instance_scopes s settings inst (Some m) in
      let c : (c : Scope) × In c cs × In p (flat_map (link_part s c) ls) = in-from (λ child. flat_map (link_part s child) ls) p cs h in
      let l : (l : Link) × In l ls × In p (link_part s c.0 l) = in-from (link_part s c.0) p ls c.2 in
      link_fixed c.0 l.0 p l.2 (λ y j. f y (in-flat (λ child. flat_map (link_sites s.names child) ls) c.0 y cs c.1 (in-flat (link_sites s.names c.0) l.0 y ls l.1 j)))

  item_fixed : (k : ℕ) (x : Item) → In (k, x) (counted_items s) → (p : Part) → In p (item_parts source s x) → IsFixedPart p
  item_fixed k (i.Wire signed range names) j p h =
      (let r : (n : NetName) × In n names × In p (net_part s n) = in-from (net_part s) p names h in
      net_fixed r.0 r.0.value p (subst (λ (xs : List Part). In p xs) (net_is r.0) r.2))
  item_fixed k (i.Assign list) j p h =
      (let r : (a : Continuous) × In a list × (part s a.place (assign_sites s.names a) (Assign (pieces s.names a.target) (read_expr s.names a.value)) ≡ p) =
      mapped-from (λ (a : Continuous). part s a.place (assign_sites s.names a) (Assign (pieces s.names a.target) (read_expr s.names a.value))) p list h in
      let all : Fixed (item_sites source s s.names (i.Assign list)) = fixed_sites_in k (i.Assign list) j refl in
      subst IsFixedPart r.2 (assigns_fixed r.0.place (assign_sites s.names r.0) (pieces s.names r.0.target) (read_expr s.names r.0.value)
      (target_fixed s.names r.0.target (λ y n. all y
      (in-flat (assign_sites s.names) r.0 y list r.1 (in-left y (target_sites s.names Driven r.0.target)
      (expr_sites false s.names (target_width s.names r.0.target) r.0.value) n))))))
  item_fixed k (i.Always watch stmt place) j p (inl e) = subst IsFixedPart e (always_fixed stmt watch place (stmt_sites s.names stmt))
  item_fixed k (i.Always watch stmt place) j p (inr e) = absurd e
  item_fixed k (i.Instance kind settings insts) j p h =
      (let o : Option Module = module_named source kind.name in
      let r : (n : Inst) × In n insts × In p (instance_parts source s kind.name settings n) = in-from (instance_parts source s kind.name settings) p insts h in
      let all : Fixed (item_sites source s s.names (i.Instance kind settings insts)) = fixed_sites_in k (i.Instance kind settings insts) j refl in
      instance_fixed settings r.0 o (λ y n. all y (in-right y (setting_sites s s.names settings o) _
      (in-flat (λ inst. inst_sites source s s.names settings inst o) r.0 y insts r.1 n))) p r.2)
  item_fixed k (i.Port a) j p h = absurd h
  item_fixed k (i.Reg signed range names) j p h = absurd h
  item_fixed k (i.Index genvar names) j p h = absurd h
  item_fixed k (i.Params local ps) j p h = absurd h
  item_fixed k (i.Generate' n items) j p h = absurd h
  item_fixed k (i.Loop' index start test again next label n items) j p h = absurd h

  part_fixed : (p : Part) → In p (scope_parts source s) → IsFixedPart p
  part_fixed p h =
      let x : (x : Item) × In x s.items × In p (item_parts source s x) = in-from (item_parts source s) p s.items h in
      let k : (k : ℕ) × In (k, x.0) (counted_from s.header s.items) = counted_has x.0 s.items s.header x.1 in
      item_fixed k.0 x.0 k.1 p x.2

-- ---- all parts

parts_fixed : (d : Design) → ((s : Scope) → Contains (scopes_of d) s → IsFaultless d.source s) → (p : Part) → In p (parts d) → is_unfixed p ≡ false
unfolding parts
parts_fixed d each p h =
    let r : (s : Scope) × In s (scopes_of d) × In p (scope_parts d.source s) = in-from (scope_parts d.source) p (scopes_of d) h in
    part_fixed d.source r.0 (each r.0 (in_contains r.0 (scopes_of d) r.1)) p r.2

in_numbers : {A : Type 0} (kx : ℕ × A) (xs : List A) (j : ℕ) → In kx (numbered_from j xs) → In kx.1 xs
in_numbers kx [] j h = absurd h
in_numbers kx (x ∷ xs) j (inl e) = inl (ap (λ (kx : ℕ × _). kx.1) e)
in_numbers kx (x ∷ xs) j (inr h) = inr (in_numbers kx xs _ h)

pub no_unfixed : (d : Design) → ((s : Scope) → Contains (scopes_of d) s → IsFaultless d.source s) → at_parts d (part_faults d NotConstant) ≡ []
no_unfixed d each = flat_empty (λ (kp : ℕ × Part). unfixed_targets kp.1) (numbered_from 0 (parts d))
    (λ kp i. ap (λ b. told_if b (target_places kp.1)) (parts_fixed d each kp.1 (in_numbers kp (parts d) 0 i)))

-- nothing is told of the kinds that are told of scopes
pub all_clean : (d : Design) (m : Module) → module_named d.source d.top ≡ Some m → modules_again d.source.modules ≡ [] →
    ((s : Scope) → Contains (scopes_of d) s → IsFaultless d.source s) → (kind : Kind) → is_scope_kind kind ≡ true → places_of d kind ≡ []
all_clean d m known apart each kind h = by_kind kind h
  where
    told : IsToldByParts d
    told = told_by_parts d m known apart each

    by_kind : (kind : Kind) → is_scope_kind kind ≡ true → places_of d kind ≡ []
    by_kind UnknownModule h = told.alone UnknownModule refl
    by_kind UnknownName h = told.alone UnknownName refl
    by_kind Duplicate h = told.alone Duplicate refl
    by_kind NotConstant h = told.unfixed ∙ no_unfixed d each
    by_kind ZeroDivisor h = told.alone ZeroDivisor refl
    by_kind Range h = told.alone Range refl
    by_kind Recursion h = told.alone Recursion refl
    by_kind Port h = told.alone Port refl
    by_kind WrongKind h = cc
    by_kind ClockUse h = cc
    by_kind Blocking h = cc
    by_kind Nonblocking h = cc
    by_kind TwoDrivers h = cc
    by_kind Undriven h = cc
    by_kind Latch h = cc
    by_kind ReadFirst h = cc
