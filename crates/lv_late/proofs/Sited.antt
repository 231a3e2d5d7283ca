-- The nodes of a declaration, their names, and what is told of them.
use Rattle.std.proofs.Common.{◌≡◌, inl, inr, ℕ, suc, zero, ◌+◌, arith, Bool, true, false, List, [], ◌∷◌, ◌++◌, ap, ◌∙◌, sym, subst, refl, flat_map, map, Option, Some, None}
use Rattle.std.specs.Prelude.{slice_get}
use Rattle.std.specs.List.{Contains, All}
use Rattle.std.proofs.lemmas.Grind.{flat_map-append}
use Rattle.std.proofs.lemmas.List.Elements.{All-nil, All-append, Contains-append_left, Contains-append_right, Contains-append_cases}
use Rattle.lv_ast.specs.declared.expr.Path.{Path}
use Rattle.lv_ast.specs.declared.expr.Expr.{Expr}
use Rattle.lv_ast.specs.declared.item.Range.{Range}
use Rattle.lv_ast.specs.declared.stmt.Ident.{Ident}
use Rattle.lv_source.specs.Names.{Names, Here}
use Rattle.lv_source.specs.Declarations.{Thing, Direction, Wire, Reg, Parameter, Index, Instance, Label, Declaration}
use Rattle.lv_source.specs.Scopes.{Scope, here_at}
use Rattle.lv_source.specs.ScopeRules.{declaration_sites, range_sites, parameter_width, range_fault}
use Rattle.lv_source.specs.Sites.{Site, Spot, Value, expr_sites, spots}
use Rattle.lv_source.specs.Parts.{numbered_from}
use Rattle.lv_source.specs.Faults.{site_faults}
use Rattle.lv_source.specs.Legal as kind
use Rattle.lv_source.proofs.Bridges.{two}
use Rattle.lv_const.specs.declared.error.ConstError.{ConstError}
use Rattle.lv_const.specs.declared.error.ConstError.TheVariants as y
use Rattle.lv_const.specs.Faults.{all_faults}
use Rattle.lv_const.specs.Refusals.{IsFault}
use Rattle.lv_const.specs.Refusals as refused
use Rattle.lv_const.proofs.Refusals.{told-fault}
use Rattle.lv_const.proofs.Stands.{Stands, walk-stands}
use Rattle.lv_symbols.specs.Making.{own_faults}
use Rattle.lv_resolve.specs.declared.error.ResolveError.{ResolveError}
use Rattle.lv_resolve.specs.declared.error.ResolveError.TheVariants as x
use Rattle.lv_resolve.specs.Late.{paths_in}
use Rattle.lv_resolve.specs.Resolved.{IsToldOf}
use Rattle.lv_resolve.proofs.Steady.{path_of, site-paths}
use Rattle.lv_resolve.proofs.Zeros.{made}
use Rattle.lv_faults.specs.declared.fault.Fault.TheVariants as f
use Rattle.lv_faults.specs.declared.fault.ScopeError.TheVariants as e
use Rattle.lv_faults.specs.Faults.{of_node, IsDeclarationFault, declaration_rules}
use Rattle.lv_late.specs.Lates.{range_paths, declared_paths}
use Rattle.lv_late.specs.Standing.{IsDeclarationFaultIn, is_fault_of}

-- ---- the names of its nodes

module _ (names : Names) where
  paths-join : (us vs : List Site) (ps qs : List Path) → flat_map path_of us ≡ ps → flat_map path_of vs ≡ qs → flat_map path_of (us ++ vs) ≡ ps ++ qs
  paths-join us vs ps qs h k = flat_map-append path_of us vs ∙ two (λ (as1 bs1 : List Path). as1 ++ bs1) _ _ _ _ h k

  expr-paths : (width : ℕ) (v : Expr) → flat_map path_of (expr_sites true names width v) ≡ paths_in v
  expr-paths width v = site-paths names v Value _ _ _

  range-paths : (r : Option Range) → flat_map path_of (range_sites names r) ≡ range_paths r
  range-paths None = refl
  range-paths (Some r) = paths-join (expr_sites true names 0 r.left) (expr_sites true names 0 r.right) _ _ (expr-paths 0 r.left) (expr-paths 0 r.right)

  thing-paths : (n : Ident) (t : Thing) → flat_map path_of (declaration_sites names (record { name = n; thing = t })) ≡ declared_paths (record { name = n; thing = t })
  thing-paths n (Direction o w s r) = range-paths r
  thing-paths n (Wire s r) = range-paths r
  thing-paths n (Reg s r b) = paths-join (range_sites names r) (range_sites names b) _ _ (range-paths r) (range-paths b)
  thing-paths n (Parameter l s r v) =
      paths-join (range_sites names r) (expr_sites true names (parameter_width names r) v) _ _ (range-paths r) (expr-paths (parameter_width names r) v)
  thing-paths n (Index g) = refl
  thing-paths n Instance = refl
  thing-paths n Label = refl

  pub declared-paths : (d : Declaration) → flat_map path_of (declaration_sites names d) ≡ declared_paths d
  declared-paths d = thing-paths d.name d.thing

  abbrev AllStand : List Site → Type 0
  AllStand ss = All (Stands names) ss

  expr-stands : (width : ℕ) (v : Expr) → AllStand (expr_sites true names width v)
  expr-stands width v = walk-stands names v _ _ _

  range-stands : (r : Option Range) → AllStand (range_sites names r)
  range-stands None = All-nil (Stands names)
  range-stands (Some r) = All-append (Stands names) (expr_sites true names 0 r.left) (expr_sites true names 0 r.right) (expr-stands 0 r.left) (expr-stands 0 r.right)

  thing-stands : (n : Ident) (t : Thing) → AllStand (declaration_sites names (record { name = n; thing = t }))
  thing-stands n (Direction o w s r) = range-stands r
  thing-stands n (Wire s r) = range-stands r
  thing-stands n (Reg s r b) = All-append (Stands names) (range_sites names r) (range_sites names b) (range-stands r) (range-stands b)
  thing-stands n (Parameter l s r v) =
      All-append (Stands names) (range_sites names r) (expr_sites true names (parameter_width names r) v) (range-stands r) (expr-stands (parameter_width names r) v)
  thing-stands n (Index g) = All-nil (Stands names)
  thing-stands n Instance = All-nil (Stands names)
  thing-stands n Label = All-nil (Stands names)

  pub declared-stands : (d : Declaration) → AllStand (declaration_sites names d)
  declared-stands d = thing-stands d.name d.thing

-- ---- faults of nodes, by their kinds

module _ (here : Here) (ss : List Site) (stand : All (Stands here.names) ss) where
  of-range : (p : ℕ) → IsFault here (spots here ss) (y.Range p) → IsToldOf (spots here ss) (x.Range p)
  of-range p (refused.range h) = h

  of-zero : (p : ℕ) → IsFault here (spots here ss) (y.ZeroDivisor p) → IsToldOf (spots here ss) (x.ZeroDivisor p)
  of-zero p (refused.zero h) = h

  pub range-told : (p : ℕ) → Contains (flat_map (all_faults here.early) ss) (y.Range p) → IsToldOf (spots here ss) (x.Range p)
  range-told p h = of-range p (told-fault here ss (y.Range p) stand (record { found = h }))

  pub zero-told : (p : ℕ) → Contains (flat_map (all_faults here.early) ss) (y.ZeroDivisor p) → IsToldOf (spots here ss) (x.ZeroDivisor p)
  zero-told p h = of-zero p (told-fault here ss (y.ZeroDivisor p) stand (record { found = h }))

-- ---- of a declaration

abbrev range-or : ConstError → ℕ
range-or (y.Range p) = p
range-or (y.NoValue p) = p
range-or (y.ZeroDivisor p) = p

abbrev is-range : ConstError → Bool
is-range (y.Range p) = true
is-range _ = false

module _ (s : Scope) (k : ℕ) (d : Declaration) where
  abbrev kd : ℕ × Declaration
  kd = (k, d)

  abbrev here : Here
  here = here_at s k

  abbrev nodes : List Spot
  nodes = spots here (declaration_sites s.names d)

  abbrev not-allowed : List ConstError
  not-allowed = map y.Range (range_fault s.names d)

  abbrev in-nodes : List ConstError
  in-nodes = flat_map (all_faults here.early) (declaration_sites s.names d)

  -- a fault of one of its nodes
  pub node-fault : (q : ResolveError) → IsToldOf nodes q → IsDeclarationFault s kd (of_node q)
  node-fault (x.UnknownName p) h = Contains-append_left (flat_map (site_faults kind.UnknownName) nodes) (declaration_rules kind.UnknownName s kd) p h
  node-fault (x.NotConstant p) h = Contains-append_left (flat_map (site_faults kind.NotConstant) nodes) (declaration_rules kind.NotConstant s kd) p h
  node-fault (x.ZeroDivisor p) h = Contains-append_left (flat_map (site_faults kind.ZeroDivisor) nodes) (declaration_rules kind.ZeroDivisor s kd) p h
  node-fault (x.Range p) h = Contains-append_left (flat_map (site_faults kind.Range) nodes) (declaration_rules kind.Range s kd) p h
  node-fault x.NoMemory h = tt

  -- of which no other error than Range is told for its range
  pub no-range : (z : ConstError) → is-range z ≡ false → Contains (own_faults here d) z → Contains in-nodes z
  no-range z e h = elim (Contains-append_cases not-allowed in-nodes z h) [
    | inl c ↦ absurd (let m : true ≡ is-range z = ap is-range (made y.Range (range_fault s.names d) z c).same in let n : true ≡ false = m ∙ e in cc)
    | inr c ↦ c
  ]

  pub range-fault : (p : ℕ) → Contains (own_faults here d) (y.Range p) → IsDeclarationFault s kd (e.Fault (f.Range p))
  range-fault p h = elim (Contains-append_cases not-allowed in-nodes (y.Range p) h) [
    | inl c ↦
        let m = made y.Range (range_fault s.names d) (y.Range p) c in
        Contains-append_right (flat_map (site_faults kind.Range) nodes) (range_fault s.names d) p (subst (Contains (range_fault s.names d)) (ap range-or m.same) m.among)
    | inr c ↦ node-fault (x.Range p) (range-told here (declaration_sites s.names d) (declared-stands s.names d) p c)
  ]

  pub zero-fault : (p : ℕ) → Contains (own_faults here d) (y.ZeroDivisor p) → IsDeclarationFault s kd (e.Fault (f.ZeroDivisor p))
  zero-fault p h =
      node-fault (x.ZeroDivisor p) (zero-told here (declaration_sites s.names d) (declared-stands s.names d) p (no-range (y.ZeroDivisor p) refl h))

-- ---- by number

numbered-has : (j k : ℕ) (ds : List Declaration) (d : Declaration) → slice_get ds k ≡ Some d → Contains (numbered_from j ds) (j + k, d)
numbered-has j k [] d h = cc
numbered-has j zero (c ∷ ds) d h =
    let e : j + 0 ≡ j = omega arith in
    (0, omega arith, ap (λ z. let w : ℕ × Declaration = (j, z) in w) (let q : c ≡ d = cc in q) ∙ ap (λ z. let w : ℕ × Declaration = (z, d) in w) (sym e))
numbered-has j (suc k) (c ∷ ds) d h =
    let e : suc j + k ≡ j + suc k = omega arith in
    Contains-append_right ((j, c) ∷ []) (numbered_from (suc j) ds) (j + suc k, d)
    (subst (λ z. Contains (numbered_from (suc j) ds) (z, d)) e (numbered-has (suc j) k ds d h))

pub fault-in : (s : Scope) (k : ℕ) (d : Declaration) (z : _) → slice_get s.declarations k ≡ Some d → is_fault_of z ≡ true → IsDeclarationFault s (k, d) z →
    IsDeclarationFaultIn s z
fault-in s k d z i g h = record {
  at = (k, d);
  among = (let e : 0 + k ≡ k = omega arith in subst (λ n. Contains (numbered_from 0 s.declarations) (n, d)) e (numbered-has 0 k s.declarations d i));
  told = h;
  fault = g;
}
