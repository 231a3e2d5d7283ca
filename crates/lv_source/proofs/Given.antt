-- Each signal that the names of a scope of the design give is one of its signals.
use Rattle.std.proofs.Common.{◌≡◌, inl, inr, ℕ, ◌+◌, zero, suc, arith, Bool, true, false, ◌&&◌, ◌||◌, not, List, [], ◌∷◌, ◌++◌, map, refl, sym, ap, ◌∙◌, subst, Option, Some, None}
use Rattle.std.specs.Prelude.{bytes_eq, flat_map, filter, cond, take, nat_le, if◌then◌else◌}
use Rattle.std.specs.List.{list_any}
use Rattle.lv_ast.specs.declared.expr.Path.{Path}
use Rattle.lv_ast.specs.declared.stmt.Ident.{Ident}
use Rattle.lv_ast.specs.declared.item.Item.{Item}
use Rattle.lv_ast.specs.declared.item.Item.TheVariants as i
use Rattle.lv_ast.specs.declared.item.Conn.{Conn}
use Rattle.lv_ast.specs.declared.item.Inst.{Inst}
use Rattle.lv_ast.specs.declared.item.Module.{Module}
use Rattle.lv_ast.specs.declared.item.Source.{Source}
use Rattle.lv_ast.specs.Trees.{spread_all}
use Rattle.lv_ast.specs.Names.{Name, alone, has_no_steps}
use Rattle.lv_source.specs.Names.{Names, Declared, Sort, Other, known, with_name, is_signal_sort}
use Rattle.lv_source.specs.Names.{Index as Index_sort}
use Rattle.lv_source.specs.Effect.{with_index, turns}
use Rattle.lv_source.specs.Declarations.{Thing, Direction, Wire, Reg, Parameter, Index, Instance, Label, Declaration, of_module, port_names, declared_as}
use Rattle.lv_source.specs.Scopes.{Scope, Override, with_parameters, overridden, override_of, signal, other, stands_for, scope_names, sort_of, is_among, is_direction, module_scope, turn_scope, no_names, module_named, overrides, clock_by, links, instance_scope, instance_scopes, is_one_bit_input, children, children_by, counted_from, scopes_within}
use Rattle.lv_source.specs.Meaning.{is_nil}
use Rattle.lv_source.specs.Parts.{Design, numbered_from, is_first, declares_here, put_by_place, by_place, scope_signals, signals_of, scopes_from, scopes_of, depth, top_scope}
use Rattle.lv_source.proofs.Tests.{and-left, and-right, and-both, or-left, or-right, or-split, or-none_left, or-none_right, decide, same_name, name-itself}
use Rattle.lv_source.proofs.Refused.{In}
use Rattle.lv_source.proofs.FaultLaws.{in-flat}
use Rattle.lv_source.proofs.Trees.{in-from}
use Rattle.lv_source.proofs.Kids.{mapped-from, instance_if}
use Rattle.lv_source.proofs.Shaped.{over_fixed, filter_in}
use Rattle.lv_source.proofs.Driven.{Knows, index_by, index_known}

-- ---- the place of a signal among the declarations

put_new : (b : Bool) (x e : ℕ × Declared) (es : List (ℕ × Declared)) → In x (put_by_place x es) → In x (if b then x ∷ e ∷ es else e ∷ put_by_place x es)
put_new true x e es h = inl refl
put_new false x e es h = inr h

in_new : (x : ℕ × Declared) (es : List (ℕ × Declared)) → In x (put_by_place x es)
in_new x [] = inl refl
in_new x (e ∷ es) = put_new (nat_le x.0 e.0) x e es (in_new x es)

put_old : (b : Bool) (x y e : ℕ × Declared) (es : List (ℕ × Declared)) → In x (e ∷ es) → (In x es → In x (put_by_place y es)) → In x (if b then y ∷ e ∷ es else e ∷ put_by_place y es)
put_old true x y e es h f = inr h
put_old false x y e es (inl h) f = inl h
put_old false x y e es (inr h) f = inr (f h)

in_old : (x y : ℕ × Declared) (es : List (ℕ × Declared)) → In x es → In x (put_by_place y es)
in_old x y [] h = absurd h
in_old x y (e ∷ es) h = put_old (nat_le y.0 e.0) x y e es h (in_old x y es)

sorted_in : (x : ℕ × Declared) (ds : List (ℕ × Declared)) → In x ds → In x (by_place ds)
sorted_in x [] h = absurd h
sorted_in x (d ∷ ds) (inl e) = subst (λ (z : ℕ × Declared). In x (put_by_place z (by_place ds))) (sym e) (in_new x (by_place ds))
sorted_in x (d ∷ ds) (inr h) = in_old x d (by_place ds) (sorted_in x ds h)

pub mapped_in : {A B : Type 0} (f : A → B) (x : A) (xs : List A) → In x xs → In (f x) (map f xs)
mapped_in f x [] h = absurd h
mapped_in f x (y ∷ ys) (inl e) = inl (ap f e)
mapped_in f x (y ∷ ys) (inr h) = inr (mapped_in f x ys h)

-- the first one of which the test holds
record First (q : Declaration → Bool) (ds : List Declaration) : Type 0 where
  pub it : Declaration
  pub before : List Declaration
  pub after : List Declaration
  pub whole : ds ≡ before ++ it ∷ after
  pub none : list_any q before ≡ false
  pub holds : q it ≡ true

first_in : (q : Declaration → Bool) (ds : List Declaration) → list_any q ds ≡ true → First q ds
first_in q [] h = cc
first_in q (d ∷ ds) h = elim (decide (q d)) [
  | inl e ↦ record { it = d; before = []; after = ds; whole = refl; none = refl; holds = e }
  | inr e ↦ (let r : First q ds = first_in q ds (elim (or-split (q d) (list_any q ds) h) [ inl k ↦ absurd (let x : true ≡ false = sym k ∙ e in cc) | inr k ↦ k ]) in
      record { it = r.it; before = d ∷ r.before; after = r.after; whole = ap (λ xs. d ∷ xs) r.whole; none = ap (λ b. b || list_any q r.before) e ∙ r.none; holds = r.holds })
]

numbered_first : (before : List Declaration) (d : Declaration) (after : List Declaration) (j : ℕ) →
    (k : ℕ) × In (j + k, d) (numbered_from j (before ++ d ∷ after)) × (take k (before ++ d ∷ after) ≡ before)
numbered_first [] d after j = (0, inl (let e : j ≡ j + 0 = omega arith in ap (λ n. (n, d)) e), refl)
numbered_first (x ∷ xs) d after j =
    let r : (k : ℕ) × In (suc j + k, d) (numbered_from (suc j) (xs ++ d ∷ after)) × (take k (xs ++ d ∷ after) ≡ xs) = numbered_first xs d after (suc j) in
    let e : suc j + r.0 ≡ j + suc r.0 = omega arith in
    (suc r.0, inr (subst (λ n. In (n, d) (numbered_from (suc j) (xs ++ d ∷ after))) e r.1), ap (λ ys. x ∷ ys) r.2)

any_kept : (p t : Declaration → Bool) (ds : List Declaration) → list_any t (filter p ds) ≡ list_any (λ d. p d && t d) ds
any_kept p t [] = refl
any_kept p t (d ∷ ds) = elim (p d) as (λ c. list_any t (cond c (d ∷ filter p ds) (filter p ds)) ≡ (c && t d || list_any (λ d. p d && t d) ds)) [
  | true ↦ ap (λ b. t d || b) (any_kept p t ds)
  | false ↦ any_kept p t ds
]

none_kept : (p : Declaration → Bool) (ds : List Declaration) → list_any p ds ≡ false → is_nil (filter p ds) ≡ true
none_kept p [] h = refl
none_kept p (d ∷ ds) h = elim (p d) as (λ c. p d ≡ c → is_nil (cond c (d ∷ filter p ds) (filter p ds)) ≡ true) [
  | true ↦ λ e. absurd (let f : p d ≡ false = or-none_left (p d) (list_any p ds) h in let x : true ≡ false = sym e ∙ f in cc)
  | false ↦ λ e. none_kept p ds (or-none_right (p d) (list_any p ds) h)
] refl

pub any_in : (p : Declaration → Bool) (d : Declaration) (ds : List Declaration) → In d ds → p d ≡ true → list_any p ds ≡ true
any_in p d [] h e = absurd h
any_in p d (x ∷ xs) (inl k) e = or-left (p x) (list_any p xs) (ap p k ∙ e)
any_in p d (x ∷ xs) (inr h) e = or-right (p x) (list_any p xs) (any_in p d xs h e)

if_first : (b : Bool) (x y : Bool) → b ≡ true → x ≡ true → (if b then x else y) ≡ true
if_first true x y h k = k
if_first false x y h k = cc

if_second : (b : Bool) (x y : Bool) → b ≡ false → y ≡ true → (if b then x else y) ≡ true
if_second true x y h k = cc
if_second false x y h k = k

if_in : (b : Bool) (x : ℕ × Declared) → b ≡ true → In x (if b then x ∷ [] else [])
if_in true x h = inl refl
if_in false x h = cc

-- a declaration of the name with which its signal stands
record Leads (ds : List Declaration) (n : Name) : Type 0 where
  pub it : Declaration
  pub named : it.name.name ≡ n
  pub number : ℕ
  pub among : In (number, it) (numbered_from 0 ds)
  pub first : is_first (is_direction it) (declared_as n (take number ds)) (declared_as n ds) ≡ true

leads_by : (ds : List Declaration) (n : Name) (q : Declaration → Bool) (f : First q ds) → ((d : Declaration) → q d ≡ true → d.name.name ≡ n) →
    is_first (is_direction f.it) (declared_as n f.before) (declared_as n ds) ≡ true → Leads ds n
leads_by ds n q f named first =
    let r : (k : ℕ) × In (0 + k, f.it) (numbered_from 0 (f.before ++ f.it ∷ f.after)) × (take k (f.before ++ f.it ∷ f.after) ≡ f.before) = numbered_first f.before f.it f.after 0 in
    record {
      it = f.it;
      named = named f.it f.holds;
      number = 0 + r.0;
      among = subst (λ (xs : List Declaration). In (0 + r.0, f.it) (numbered_from 0 xs)) (sym f.whole) r.1;
      first =
          let z : 0 + r.0 ≡ r.0 = omega arith in
          let e : take (0 + r.0) ds ≡ f.before = ap (λ k. take k ds) z ∙ (ap (λ (xs : List Declaration). take r.0 xs) f.whole ∙ r.2) in
          ap (λ (xs : List Declaration). is_first (is_direction f.it) (declared_as n xs) (declared_as n ds)) e ∙ first;
    }

abbrev named_as : Name → Declaration → Bool
named_as n d = bytes_eq d.name.name n

leads : (ds : List Declaration) (n : Name) (d : Declaration) → In d ds → d.name.name ≡ n → Leads ds n
leads ds n d i e =
    elim (decide (list_any is_direction (declared_as n ds))) [
      | inl k ↦ (
          let q : Declaration → Bool = (λ x. named_as n x && is_direction x) in
          let f : First q ds = first_in q ds (sym (any_kept (named_as n) is_direction ds) ∙ k) in
          leads_by ds n q f (λ x h. same_name x.name.name n (and-left (named_as n x) (is_direction x) h))
          (if_first (list_any is_direction (declared_as n ds)) _ _ k (and-both (is_direction f.it) _ (and-right (named_as n f.it) (is_direction f.it) f.holds)
          (ap not (any_kept (named_as n) is_direction f.before ∙ f.none)))))
      | inr k ↦ (
          let f : First (named_as n) ds = first_in (named_as n) ds (any_in (named_as n) d ds i (ap (λ m. bytes_eq m n) e ∙ name-itself n)) in
          leads_by ds n (named_as n) f (λ x h. same_name x.name.name n h)
          (if_second (list_any is_direction (declared_as n ds)) _ _ k (none_kept (named_as n) f.before f.none)))
    ]

here_by : (is : Sort → Bool) (s : Scope) (l : Declaration) (k : ℕ) (n : Name) → l.name.name ≡ n → is (known (s.names (alone n))).sort ≡ true →
    is_first (is_direction l) (declared_as n (take k s.declarations)) (declared_as n s.declarations) ≡ true → In (l.name.place, known (s.names (alone l.name.name))) (declares_here is s (k, l))
here_by is s l k n e h f =
    let m : Name = l.name.name in
    if_in _ (l.name.place, known (s.names (alone m)))
    (and-both (is (known (s.names (alone m))).sort) _ (ap (λ (x : Name). is (known (s.names (alone x))).sort) e ∙ h)
    (ap (λ (x : Name). is_first (is_direction l) (declared_as x (take k s.declarations)) (declared_as x s.declarations)) e ∙ f))

-- the entries of a scope of these sorts
abbrev pub entries : (Sort → Bool) → Scope → List Declared
entries is s = map (λ (kx : ℕ × Declared). kx.1) (by_place (flat_map (declares_here is s) (numbered_from 0 s.declarations)))

-- a declared name of such a sort is one of them
pub own_in : (is : Sort → Bool) (s : Scope) (n : Name) (d : Declaration) → In d s.declarations → d.name.name ≡ n → is (known (s.names (alone n))).sort ≡ true →
    In (known (s.names (alone n))) (entries is s)
own_in is s n d i e h =
    let l : Leads s.declarations n = leads s.declarations n d i e in
    let x : ℕ × Declared = (l.it.name.place, known (s.names (alone l.it.name.name))) in
    let all : List (ℕ × Declared) = flat_map (declares_here is s) (numbered_from 0 s.declarations) in
    let stands : In x all = in-flat (declares_here is s) (l.number, l.it) x (numbered_from 0 s.declarations) l.among (here_by is s l.it l.number n l.named h l.first) in
    subst (λ (m : Name). In (known (s.names (alone m))) (entries is s)) l.named (mapped_in (λ (kx : ℕ × Declared). kx.1) x (by_place all) (sorted_in x all stands))

-- ---- the names of a scope

module _ (ss : List Declared) where
  abbrev Fine : Option Declared → Type 0
  Fine o = is_signal_sort (known o).sort ≡ true → In (known o) ss

  abbrev next_names : List Override → Names → Ident → Thing → Names
  next_names os names n t = elim t as (λ _. Names) [
    | Parameter local signed range value ↦ with_name names n.name (Some (overridden names n signed range value (override_of local os n.name)))
    | Direction o w s r ↦ names
    | Wire s r ↦ names
    | Reg s r b ↦ names
    | Index g ↦ names
    | Instance ↦ names
    | Label ↦ names
  ]

  next_known : (os : List Override) (names : Names) (n : Ident) (t : Thing) → Knows ss names → Knows ss (next_names os names n t)
  next_known os names n (Parameter local signed range value) f p h =
      index_by ss (has_no_steps p && bytes_eq p.name n.name) (overridden names n signed range value (override_of local os n.name)) (names p) (over_fixed names n signed range value (override_of local os n.name)) (f p) h
  next_known os names n (Direction o w s r) f p h = f p h
  next_known os names n (Wire s r) f p h = f p h
  next_known os names n (Reg s r b) f p h = f p h
  next_known os names n (Index g) f p h = f p h
  next_known os names n Instance f p h = f p h
  next_known os names n Label f p h = f p h

  params_known : (os : List Override) (names : Names) (ds : List Declaration) → Knows ss names → Knows ss (with_parameters os names ds)
  params_known os names [] f = f
  params_known os names (d ∷ ds) f = params_known os (next_names os names d.name d.thing) ds (next_known os names d.name d.thing f)

  -- what a declaration stands for
  abbrev stood : Names → Name → Ident → Sort → Path → Thing → Option Declared
  stood names path n sort p t = elim t as (λ _. Option Declared) [
    | Direction o w signed range ↦ Some (signal names path n.name sort signed range None)
    | Wire signed range ↦ Some (signal names path n.name sort signed range None)
    | Reg signed range array ↦ Some (signal names path n.name sort signed range array)
    | Parameter l s r v ↦ names p
    | Index g ↦ Some (other (Index_sort g))
    | Instance ↦ Some (other Other)
    | Label ↦ Some (other Other)
  ]

  stood_fine : (names : Names) (path : Name) (n : Ident) (sort : Sort) (p q : Path) (t : Thing) → Fine (names p) → Fine (stood names path n sort q t) → Fine (stood names path n sort p t)
  stood_fine names path n sort p q (Direction o w s r) f g h = g h
  stood_fine names path n sort p q (Wire s r) f g h = g h
  stood_fine names path n sort p q (Reg s r b) f g h = g h
  stood_fine names path n sort p q (Parameter l s r v) f g h = f h
  stood_fine names path n sort p q (Index g) f k h = k h
  stood_fine names path n sort p q Instance f g h = g h
  stood_fine names path n sort p q Label f g h = g h

  -- with the declarations of a name, at a path and at the name alone
  stands_fine : (names : Names) (path : Name) (top clock : Bool) (p q : Path) (xs : List Declaration) → Fine (names p) → ((d : Declaration) → In d xs → Fine (stands_for names path top clock q xs)) →
      Fine (stands_for names path top clock p xs)
  stands_fine names path top clock p q [] f g = f
  stands_fine names path top clock p q (d ∷ ds) f g = stood_fine names path d.name (sort_of top clock (d ∷ ds)) p q d.thing f (g d (inl refl))

  -- a scope of which names and constants are made this way
  record IsFormed (s : Scope) : Type 0 where
    pub base : Names
    pub settings : List Override
    pub top : Bool
    pub clocks : List Name
    pub names : s.names ≡ scope_names (with_parameters settings base s.declarations) s.path top clocks s.declarations
    pub known_base : Knows ss base

  steps_fine : (b : Bool) (o : Option Declared) → (b ≡ true → Fine o) → Fine (if b then o else None)
  steps_fine true o f h = f refl h
  steps_fine false o f h = cc

  formed_known : (s : Scope) → IsFormed s → ((x : Declared) → In x (scope_signals s) → In x ss) → Knows ss s.names
  formed_known s f own p =
      let constants : Names = with_parameters f.settings f.base s.declarations in
      let xs : List Declaration = declared_as p.name s.declarations in
      let at : (q : Path) → s.names q ≡ scope_names constants s.path f.top f.clocks s.declarations q = (λ q. ap (λ (ns : Names). ns q) f.names) in
      let alone_is : s.names (alone p.name) ≡ stands_for constants s.path f.top (is_among f.clocks p.name) (alone p.name) xs = at (alone p.name) in
      let alone_fine : (d : Declaration) → In d xs → Fine (stands_for constants s.path f.top (is_among f.clocks p.name) (alone p.name) xs) =
      (λ d i. subst (λ (o : Option Declared). Fine o) alone_is
      (λ h. own (known (s.names (alone p.name))) (own_in is_signal_sort s p.name d (filter_in p.name s.declarations d i).0 (filter_in p.name s.declarations d i).1 h))) in
      subst (λ (o : Option Declared). Fine o) (sym (at p))
      (steps_fine (has_no_steps p) (stands_for constants s.path f.top (is_among f.clocks p.name) p xs)
      (λ e. stands_fine constants s.path f.top (is_among f.clocks p.name) p (alone p.name) xs (params_known f.settings f.base s.declarations f.known_base p) alone_fine))

  none_known : Knows ss no_names
  none_known p h = cc

  module_formed : (path : Name) (top : Bool) (around : List Name) (os : List Override) (clocks : Names → List Name) (m : Module) → IsFormed (module_scope path top around os clocks m)
  module_formed path top around os clocks m = record {
    base = no_names;
    settings = os;
    top = top;
    clocks = filter (is_one_bit_input (with_parameters os no_names (of_module m)) (of_module m)) (clocks (with_parameters os no_names (of_module m)));
    names = refl;
    known_base = none_known;
  }

  module _ (source : Source) (s : Scope) (f : Knows ss s.names) where
    inst_formed : (settings : List Conn) (inst : Inst) (o : Option Module) (c : Scope) → In c (instance_scopes s settings inst o) → IsFormed c
    inst_formed settings inst None c h = absurd h
    inst_formed settings inst (Some m) c h =
        subst (λ (z : Scope). IsFormed z) (instance_if (is_among s.around m.name.name) (instance_scope s settings inst m) c h)
        (module_formed (instance_scope s settings inst m).path false s.around (overrides s.names settings m) (λ constants. flat_map (clock_by s.names) (links (port_names m.ports) inst.conns)) m)

    turn_formed : (k : ℕ) (index label : Ident) (items : List Item) (ks : List ℕ) (c : Scope) → In c (map (turn_scope s k index label items) ks) → IsFormed c
    turn_formed k index label items ks c h =
        let r : (v : ℕ) × In v ks × (turn_scope s k index label items v ≡ c) = mapped-from (turn_scope s k index label items) c ks h in
        subst (λ (z : Scope). IsFormed z) r.2
        (record { base = with_index s.names index.name r.0; settings = []; top = false; clocks = []; names = refl; known_base = index_known ss s.names index.name r.0 f })

    item_formed : (k : ℕ) (x : Item) (c : Scope) → In c (children_by source s (k, x)) → IsFormed c
    item_formed k (i.Instance kind settings insts) c h =
        (let r : (n : Inst) × In n insts × In c (instance_scopes s settings n (module_named source kind.name)) = in-from (λ n. instance_scopes s settings n (module_named source kind.name)) c insts h in
        inst_formed settings r.0 (module_named source kind.name) c r.2)
    item_formed k (i.Loop' index start test again next label n items) c h = turn_formed k index label (spread_all items) (turns s.names index.name start test next) c h
    item_formed k (i.Port a) c h = absurd h
    item_formed k (i.Wire signed range names) c h = absurd h
    item_formed k (i.Reg signed range names) c h = absurd h
    item_formed k (i.Index genvar names) c h = absurd h
    item_formed k (i.Params local ps) c h = absurd h
    item_formed k (i.Assign list) c h = absurd h
    item_formed k (i.Always watch stmt place) c h = absurd h
    item_formed k (i.Generate' n items) c h = absurd h

    children_formed : (c : Scope) → In c (children source s) → IsFormed c
    children_formed c h =
        (let r : (kx : ℕ × Item) × In kx (counted_from s.header s.items) × In c (children_by source s kx) = in-from (children_by source s) c (counted_from s.header s.items) h in
        item_formed r.0.0 r.0.1 c r.2)

  root_of : (source : Source) (n : ℕ) (c u : Scope) → In u (scopes_within n source c) → In c (scopes_within n source c)
  root_of source zero c u h = absurd h
  root_of source (suc n) c u h = inl refl

  within_known : (source : Source) (n : ℕ) (s : Scope) → Knows ss s.names → ((u : Scope) → In u (scopes_within n source s) → (x : Declared) → In x (scope_signals u) → In x ss) →
      (u : Scope) → In u (scopes_within n source s) → Knows ss u.names
  within_known source zero s f own u h = absurd h
  within_known source (suc n) s f own u (inl e) = subst (λ (z : Scope). Knows ss z.names) e f
  within_known source (suc n) s f own u (inr h) =
      let r : (c : Scope) × In c (children source s) × In u (scopes_within n source c) = in-from (scopes_within n source) u (children source s) h in
      let inside : (v : Scope) → In v (scopes_within n source r.0) → (x : Declared) → In x (scope_signals v) → In x ss =
      (λ v i. own v (inr (in-flat (scopes_within n source) r.0 v (children source s) r.1 i))) in
      within_known source n r.0 (formed_known r.0 (children_formed source s f r.0 r.1) (inside r.0 (root_of source n r.0 u r.2))) inside u r.2

from_known : (d : Design) (ss : List Declared) (o : Option Module) → ((u : Scope) → In u (scopes_from d o) → (x : Declared) → In x (scope_signals u) → In x ss) →
    (u : Scope) → In u (scopes_from d o) → Knows ss u.names
from_known d ss None own u h = absurd h
from_known d ss (Some m) own u h =
    within_known ss d.source (suc (depth d.source)) (top_scope d m)
    (formed_known ss (top_scope d m) (module_formed ss [] true [] [] (λ constants. d.clock ∷ []) m) (own (top_scope d m) (inl refl))) own u h

-- each signal that the names of a scope of the design give is one of its signals
pub scopes_known : (d : Design) (u : Scope) → In u (scopes_of d) → Knows (signals_of d) u.names
unfolding scopes_of signals_of
scopes_known d u h =
    from_known d (signals_of d) (module_named d.source d.top) (λ v i x j. in-flat scope_signals v x (scopes_of d) i j) u h
