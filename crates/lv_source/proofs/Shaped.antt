-- Each scope of a source with plain names is told by its names: its signals stand below its path, by the names of its declarations.
use Rattle.std.proofs.Common.{◌≡◌, ◌⊎◌, inl, inr, ℕ, ◌+◌, zero, suc, Bool, true, false, ◌&&◌, List, [], ◌∷◌, ◌++◌, map, length, refl, sym, ap, ◌∙◌, subst, Option, Some, None}
use Rattle.std.specs.Prelude.{bytes_eq, flat_map, filter, cond, find, nat_le, if◌then◌else◌, slice_get}
use Rattle.std.specs.List.{list_all}
use Rattle.lv_ast.specs.declared.expr.Path.{Path}
use Rattle.lv_ast.specs.declared.expr.Expr.{Expr}
use Rattle.lv_ast.specs.declared.stmt.Ident.{Ident}
use Rattle.lv_ast.specs.declared.item.Item.{Item, Row_of-Item, end_of-Item, more_of-Item}
use Rattle.lv_ast.specs.declared.item.Item.TheVariants as i
use Rattle.lv_ast.specs.declared.item.Module.{Module}
use Rattle.lv_ast.specs.declared.item.Range.{Range}
use Rattle.lv_ast.specs.declared.item.Source.{Source}
use Rattle.lv_ast.specs.Trees.{spread, spread_all, fold_stmts, fold_one_stmt, fold_held, fold_arms}
use Rattle.lv_ast.specs.Names.{Name, alone, spelled, below}
use Rattle.lv_source.specs.Names.{Names, Declared, Sort, Other, known, with_name, is_signal_sort, is_clock_sort}
use Rattle.lv_source.specs.Names.{Index as Index_sort}
use Rattle.lv_source.specs.Declarations.{Thing, Direction, Wire, Reg, Parameter, Index, Instance, Label, Declaration, of_item, of_items, of_module, module_items, of_params, of_port, of_ports, port_names, declared_as, label_of, labels_or, label_step, labels}
use Rattle.lv_source.specs.Scopes.{Scope, Override, with_parameters, overridden, override_of, signal, other, stands_for, scope_names, sort_of, is_among, is_parameter, module_scope, turn_scope, no_names, module_named, overrides, clock_by, links, instance_scope, instance_scopes, is_one_bit_input, children, children_by, counted_from, scopes_within}
use Rattle.lv_source.specs.Parts.{numbered_from, is_declared_sort, stands_here, put_by_place, by_place, scope_signals, Design, scopes_of, scopes_from, signals_of, depth, top_scope}
use Rattle.lv_ast.specs.PlainNames.{has_space, is_plain, plain_label, plain_step, plain_arm, plain_stmt, plain_or, plain_params, plain_ports, plain_item, plain_items, plain_module, HasPlainNames}
use Rattle.lv_source.proofs.Tests.{and-left, and-right, and-both, or-left, same_name, name-itself, not-true}
use Rattle.lv_source.proofs.Refused.{In, in-right, in-split}
use Rattle.lv_source.proofs.Paths.{IsPlain}
use Rattle.lv_source.specs.ScopeRules.{duplicates}
use Rattle.lv_source.proofs.Trees.{in-from, IsTold, HasCell, tree_apart}
use Rattle.lv_source.proofs.Facts.{some_same}
use Rattle.lv_source.proofs.FaultLaws.{append-right, scopes_clean}
use Rattle.lv_source.specs.Legal.{IsLegal, Duplicate, modules_again, places_of}
use Rattle.lv_source.specs.Effect.{ArmOf, arm_step, with_index, turns}
use Rattle.lv_ast.specs.declared.item.Aport.{Aport}
use Rattle.lv_ast.specs.declared.item.Conn.{Conn}
use Rattle.lv_ast.specs.declared.item.NetName.{NetName}
use Rattle.lv_ast.specs.declared.item.Params.{Params}
use Rattle.lv_ast.specs.declared.item.Ports.{Ports}
use Rattle.lv_ast.specs.declared.item.Ports.TheVariants as p
use Rattle.lv_ast.specs.declared.item.RegName.{RegName}
use Rattle.lv_ast.specs.declared.item.Setting.{Setting}
use Rattle.lv_ast.specs.declared.stmt.Stmt.{Stmt, Row_of-Stmt, end_of-Stmt, more_of-Stmt, Row_of-Arm, end_of-Arm, more_of-Arm, Held-Stmt-If-2, None', Some'}
use Rattle.lv_ast.specs.declared.stmt.Stmt.TheVariants as b
use Rattle.lv_ast.specs.declared.item.Inst.{Inst}
use Rattle.lv_source.proofs.Kids.{Once, once, once-right, named_any, Headed, items_headed, items_differ, instance_if, mapped-from, in_index}

pub record IsShaped (s : Scope) : Type 0 where
  pub constants : Names
  pub top : Bool
  pub clocks : List Name
  pub names : s.names ≡ scope_names constants s.path top clocks s.declarations
  -- a parameter is no signal and no clock
  pub fixed : (m : Name) (d : Declaration) → In d s.declarations → d.name.name ≡ m → is_parameter d ≡ true → is_declared_sort (known (constants (alone m))).sort ≡ false
  pub plain : (d : Declaration) → In d s.declarations → IsPlain d.name.name
  pub items : (x : Item) → In x s.items → plain_item x ≡ true
  pub front : List Declaration
  pub whole : s.declarations ≡ front ++ of_items s.items

-- ---- own signals

put_if : (b : Bool) (x d e : ℕ × Declared) (es : List (ℕ × Declared)) → In x (if b then d ∷ e ∷ es else e ∷ put_by_place d es) → (In x (put_by_place d es) → (d ≡ x) ⊎ In x es) → (d ≡ x) ⊎ In x (e ∷ es)
put_if true x d e es (inl k) f = inl k
put_if true x d e es (inr k) f = inr k
put_if false x d e es (inl k) f = inr (inl k)
put_if false x d e es (inr k) f = elim (f k) [ inl j ↦ inl j | inr j ↦ inr (inr j) ]

pub in_put : (x d : ℕ × Declared) (ds : List (ℕ × Declared)) → In x (put_by_place d ds) → (d ≡ x) ⊎ In x ds
in_put x d [] (inl e) = inl e
in_put x d [] (inr h) = absurd h
in_put x d (e ∷ es) h = put_if (nat_le d.0 e.0) x d e es h (in_put x d es)

pub in_sorted : (x : ℕ × Declared) (ds : List (ℕ × Declared)) → In x (by_place ds) → In x ds
in_sorted x [] h = absurd h
in_sorted x (d ∷ ds) h = elim (in_put x d (by_place ds) h) [ inl e ↦ inl e | inr k ↦ inr (in_sorted x ds k) ]

pub in_numbered : (kx : ℕ × Declaration) (xs : List Declaration) (j : ℕ) → In kx (numbered_from j xs) → In kx.1 xs
in_numbered kx [] j h = absurd h
in_numbered kx (x ∷ xs) j (inl e) = inl (ap (λ (z : ℕ × Declaration). z.1) e)
in_numbered kx (x ∷ xs) j (inr h) = inr (in_numbered kx xs (suc j) h)

pub in_if : (b : Bool) (d x : ℕ × Declared) → In x (if b then d ∷ [] else []) → (b ≡ true) × (d ≡ x)
in_if true d x (inl e) = (refl, e)
in_if true d x (inr e) = absurd e
in_if false d x h = absurd h

abbrev is_param : Thing → Bool
is_param t = elim t [ Direction o w s r ↦ false | Wire s r ↦ false | Reg s r b ↦ false | Parameter l s r v ↦ true | Index g ↦ false | Instance ↦ false | Label ↦ false ]

abbrev NotDeclared : Option Declared → Type 0
NotDeclared d = is_declared_sort (known d).sort ≡ false

clash : (b : Bool) → b ≡ true → b ≡ false → ⊥
clash b h k = cc

stands_thing : (names : Names) (path : Name) (p : Path) (n : Ident) (sort : Sort) (t : Thing) → (is_param t ≡ true → NotDeclared (names p)) →
    is_declared_sort (known (elim t as (λ _. Option Declared) [
      | Direction o w signed range ↦ Some (signal names path n.name sort signed range None)
      | Wire signed range ↦ Some (signal names path n.name sort signed range None)
      | Reg signed range array ↦ Some (signal names path n.name sort signed range array)
      | Parameter l s r v ↦ names p
      | Index g ↦ Some (other (Index_sort g))
      | Instance ↦ Some (other Other)
      | Label ↦ Some (other Other)
    ])).sort ≡ true →
    (known (elim t as (λ _. Option Declared) [
      | Direction o w signed range ↦ Some (signal names path n.name sort signed range None)
      | Wire signed range ↦ Some (signal names path n.name sort signed range None)
      | Reg signed range array ↦ Some (signal names path n.name sort signed range array)
      | Parameter l s r v ↦ names p
      | Index g ↦ Some (other (Index_sort g))
      | Instance ↦ Some (other Other)
      | Label ↦ Some (other Other)
    ])).path ≡ below path (spelled n.name)
stands_thing names path p n sort (Direction o w s r) f h = refl
stands_thing names path p n sort (Wire s r) f h = refl
stands_thing names path p n sort (Reg s r b) f h = refl
stands_thing names path p n sort (Parameter l s r v) f h = absurd (clash _ h (f refl))
stands_thing names path p n sort (Index g) f h = cc
stands_thing names path p n sort Instance f h = cc
stands_thing names path p n sort Label f h = cc

stands_path : (names : Names) (path m : Name) (top clock : Bool) (xs : List Declaration) → ((d : Declaration) → In d xs → d.name.name ≡ m) → ((d : Declaration) → In d xs → is_parameter d ≡ true → NotDeclared (names (alone m))) →
    (d : Declaration) → In d xs → is_declared_sort (known (stands_for names path top clock (alone m) xs)).sort ≡ true → (known (stands_for names path top clock (alone m) xs)).path ≡ below path (spelled m)
stands_path names path m top clock [] n f d i h = absurd i
stands_path names path m top clock (x ∷ xs) n f d i h =
    stands_thing names path (alone m) x.name (sort_of top clock (x ∷ xs)) x.thing (f x (inl refl)) h ∙ ap (λ k. below path (spelled k)) (n x (inl refl))

in_cond : (b : Bool) (x d : Declaration) (xs : List Declaration) → In d (cond b (x ∷ xs) xs) → ((b ≡ true) × (x ≡ d)) ⊎ In d xs
in_cond true x d xs (inl e) = inl (refl, e)
in_cond true x d xs (inr h) = inr h
in_cond false x d xs h = inr h

pub filter_in : (n : Name) (ds : List Declaration) (d : Declaration) → In d (declared_as n ds) → In d ds × (d.name.name ≡ n)
filter_in n [] d h = absurd h
filter_in n (x ∷ xs) d h = elim (in_cond (bytes_eq x.name.name n) x d (declared_as n xs) h) [
  | inl e ↦ (inl e.1, ap (λ (z : Declaration). z.name.name) (sym e.1) ∙ same_name x.name.name n e.0)
  | inr k ↦ (let r : In d xs × (d.name.name ≡ n) = filter_in n xs d k in (inr r.0, r.1))
]

-- a signal or clock that a declaration stands for has its name below the path of the scope
pub own_path : (s : Scope) → IsShaped s → (d : Declaration) → In d s.declarations → is_declared_sort (known (s.names (alone d.name.name))).sort ≡ true →
    (known (s.names (alone d.name.name))).path ≡ below s.path (spelled d.name.name)
own_path s h d among sort =
    let m : Name = d.name.name in
    let names : s.names (alone m) ≡ stands_for h.constants s.path h.top (is_among h.clocks m) (alone m) (declared_as m s.declarations) = ap (λ (ns : Names). ns (alone m)) h.names in
    let path : (known (stands_for h.constants s.path h.top (is_among h.clocks m) (alone m) (declared_as m s.declarations))).path ≡ below s.path (spelled m) =
    stands_path h.constants s.path m h.top (is_among h.clocks m) (declared_as m s.declarations) (λ e j. (filter_in m s.declarations e j).1)
    (λ e j p. h.fixed m e (filter_in m s.declarations e j).0 (filter_in m s.declarations e j).1 p) d (named_any m s.declarations d among refl)
    (ap (λ (o : Option Declared). is_declared_sort (known o).sort) (sym names) ∙ sort) in
    ap (λ (o : Option Declared). (known o).path) names ∙ path

pub own_signals : (s : Scope) → IsShaped s → (x : Declared) → In x (scope_signals s) → (m : Name) × IsPlain m × (x ≡ known (s.names (alone m))) × (x.path ≡ below s.path (spelled m))
own_signals s h x i =
    let sorted : List (ℕ × Declared) = by_place (flat_map (stands_here s) (numbered_from 0 s.declarations)) in
    let px : (p : ℕ × Declared) × In p sorted × (p.1 ≡ x) = mapped-from (λ (p : ℕ × Declared). p.1) x sorted i in
    let at : (kx : ℕ × Declaration) × In kx (numbered_from 0 s.declarations) × In px.0 (stands_here s kx) = in-from (stands_here s) px.0 (numbered_from 0 s.declarations) (in_sorted px.0 _ px.1) in
    let d : Declaration = at.0.1 in
    let m : Name = d.name.name in
    let among : In d s.declarations = in_numbered at.0 s.declarations 0 at.1 in
    let here : (_ ≡ true) × ((d.name.place, known (s.names (alone m))) ≡ px.0) = in_if _ (d.name.place, known (s.names (alone m))) px.0 at.2 in
    let is : (_ ≡ true) × (known (s.names (alone m)) ≡ x) = (here.0, ap (λ (p : ℕ × Declared). p.1) here.1 ∙ px.2) in
    let sort : is_signal_sort (known (s.names (alone m))).sort ≡ true = and-left (is_signal_sort (known (s.names (alone m))).sort) _ is.0 in
    (m, h.plain d among, sym is.1, ap (λ (z : Declared). z.path) (sym is.1) ∙ own_path s h d among (or-left (is_signal_sort (known (s.names (alone m))).sort) (is_clock_sort (known (s.names (alone m))).sort) sort))

-- a scope with a shape and no Duplicate is told by its names
pub told : (source : Source) (s : Scope) → IsShaped s → duplicates s ≡ [] → IsTold source s
told source s h e =
    let once_here : Once (of_items s.items) = once-right h.front (of_items s.items) (subst Once h.whole (once s e)) in
    let plain_here : (d : Declaration) → In d (of_items s.items) → IsPlain d.name.name =
    (λ d i. h.plain d (subst (λ (ds : List Declaration). In d ds) (sym h.whole) (in-right d h.front (of_items s.items) i))) in
    record {
      own = own_signals s h;
      kids = λ c i. (let k : Headed s (of_items s.items) c = items_headed source s s.header s.items c i in (k.from.name.name, k.index, plain_here k.from k.among, k.is_index, k.path));
      differ = λ c e i j q. items_differ source s s.header s.items c e once_here plain_here i j q;
    }

-- ---- parameters

pub over_fixed : (here : Names) (n : Ident) (signed : Bool) (range : Option Range) (value : Expr) (o : Option Override) → is_signal_sort (overridden here n signed range value o).sort ≡ false
over_fixed here n signed None value None = refl
over_fixed here n signed (Some r) value None = refl
over_fixed here n signed None value (Some o) = refl
over_fixed here n signed (Some r) value (Some o) = refl

over_undeclared : (here : Names) (n : Ident) (signed : Bool) (range : Option Range) (value : Expr) (o : Option Override) → is_declared_sort (overridden here n signed range value o).sort ≡ false
over_undeclared here n signed None value None = refl
over_undeclared here n signed (Some r) value None = refl
over_undeclared here n signed None value (Some o) = refl
over_undeclared here n signed (Some r) value (Some o) = refl

with_fixed : (b : Bool) (x : Declared) (y : Option Declared) → is_declared_sort x.sort ≡ false → NotDeclared y → NotDeclared (if b then Some x else y)
with_fixed true x y h k = h
with_fixed false x y h k = k

abbrev next_names : List Override → Names → Ident → Thing → Names
next_names os names n t = elim t as (λ _. Names) [
  | Parameter local signed range value ↦ with_name names n.name (Some (overridden names n signed range value (override_of local os n.name)))
  | Direction o w s r ↦ names
  | Wire s r ↦ names
  | Reg s r b ↦ names
  | Index g ↦ names
  | Instance ↦ names
  | Label ↦ names
]

next_fixed : (os : List Override) (names : Names) (n : Ident) (t : Thing) (m : Name) → NotDeclared (names (alone m)) → NotDeclared (next_names os names n t (alone m))
next_fixed os names n (Parameter local signed range value) m h = with_fixed (bytes_eq m n.name) _ (names (alone m)) (over_undeclared names n signed range value (override_of local os n.name)) h
next_fixed os names n (Direction o w s r) m h = h
next_fixed os names n (Wire s r) m h = h
next_fixed os names n (Reg s r b) m h = h
next_fixed os names n (Index g) m h = h
next_fixed os names n Instance m h = h
next_fixed os names n Label m h = h

set_fixed : (b : Bool) (x : Declared) (y : Option Declared) → b ≡ true → is_declared_sort x.sort ≡ false → NotDeclared (if b then Some x else y)
set_fixed true x y e h = h
set_fixed false x y e h = cc

next_set : (os : List Override) (names : Names) (n : Ident) (t : Thing) (m : Name) → n.name ≡ m → is_param t ≡ true → NotDeclared (next_names os names n t (alone m))
next_set os names n (Parameter local signed range value) m e h =
    set_fixed (bytes_eq m n.name) _ (names (alone m)) (ap (bytes_eq m) e ∙ name-itself m) (over_undeclared names n signed range value (override_of local os n.name))
next_set os names n (Direction o w s r) m e h = cc
next_set os names n (Wire s r) m e h = cc
next_set os names n (Reg s r b) m e h = cc
next_set os names n (Index g) m e h = cc
next_set os names n Instance m e h = cc
next_set os names n Label m e h = cc

kept_fixed : (os : List Override) (names : Names) (ds : List Declaration) (m : Name) → NotDeclared (names (alone m)) → NotDeclared (with_parameters os names ds (alone m))
kept_fixed os names [] m h = h
kept_fixed os names (d ∷ ds) m h = kept_fixed os (next_names os names d.name d.thing) ds m (next_fixed os names d.name d.thing m h)

params_fixed : (os : List Override) (names : Names) (ds : List Declaration) (m : Name) (d : Declaration) → In d ds → d.name.name ≡ m → is_parameter d ≡ true → NotDeclared (with_parameters os names ds (alone m))
params_fixed os names [] m d i e h = absurd i
params_fixed os names (x ∷ xs) m d (inl k) e h = kept_fixed os (next_names os names x.name x.thing) xs m
    (next_set os names x.name x.thing m (ap (λ (z : Declaration). z.name.name) k ∙ e) (ap is_parameter k ∙ h))
params_fixed os names (x ∷ xs) m d (inr k) e h = params_fixed os (next_names os names x.name x.thing) xs m d k e h

-- ---- plain names

pub all_in : {A : Type 0} (p : A → Bool) (xs : List A) (x : A) → list_all p xs ≡ true → In x xs → p x ≡ true
all_in p [] x h i = absurd i
all_in p (y ∷ ys) x h (inl e) = ap p (sym e) ∙ and-left (p y) (list_all p ys) h
all_in p (y ∷ ys) x h (inr i) = all_in p ys x (and-right (p y) (list_all p ys) h) i

plain_decl : (n : Ident) → is_plain n ≡ true → IsPlain n.name
plain_decl n h = not-true (has_space n.name) h

mutual
  plain_spread : (x y : Item) → plain_item x ≡ true → In y (spread x) → plain_item y ≡ true
  plain_spread (i.Generate' n items) y h k = plain_all items y h k
  plain_spread (i.Loop' index start test again next label n items) y h (inl e) = ap plain_item (sym e) ∙ h
  plain_spread (i.Loop' index start test again next label n items) y h (inr e) = absurd e
  plain_spread (i.Port a) y h (inl e) = ap plain_item (sym e) ∙ h
  plain_spread (i.Port a) y h (inr e) = absurd e
  plain_spread (i.Wire signed range names) y h (inl e) = ap plain_item (sym e) ∙ h
  plain_spread (i.Wire signed range names) y h (inr e) = absurd e
  plain_spread (i.Reg signed range names) y h (inl e) = ap plain_item (sym e) ∙ h
  plain_spread (i.Reg signed range names) y h (inr e) = absurd e
  plain_spread (i.Index genvar names) y h (inl e) = ap plain_item (sym e) ∙ h
  plain_spread (i.Index genvar names) y h (inr e) = absurd e
  plain_spread (i.Params local ps) y h (inl e) = ap plain_item (sym e) ∙ h
  plain_spread (i.Params local ps) y h (inr e) = absurd e
  plain_spread (i.Assign list) y h (inl e) = ap plain_item (sym e) ∙ h
  plain_spread (i.Assign list) y h (inr e) = absurd e
  plain_spread (i.Always watch stmt place) y h (inl e) = ap plain_item (sym e) ∙ h
  plain_spread (i.Always watch stmt place) y h (inr e) = absurd e
  plain_spread (i.Instance kind settings insts) y h (inl e) = ap plain_item (sym e) ∙ h
  plain_spread (i.Instance kind settings insts) y h (inr e) = absurd e

  plain_all : {n : _} (r : Row_of-Item n) (y : Item) → plain_items r ≡ true → In y (spread_all r) → plain_item y ≡ true
  plain_all end_of-Item y h k = absurd k
  plain_all (more_of-Item x xs) y h k = elim (in-split y (spread x) (spread_all xs) k) [
    | inl a ↦ plain_spread x y (and-left (plain_item x) (plain_items xs) h) a
    | inr a ↦ plain_all xs y (and-right (plain_item x) (plain_items xs) h) a
  ]

mapped_plain : {A : Type 0} (f : A → Declaration) (q : A → Bool) → ((x : A) → q x ≡ true → is_plain (f x).name ≡ true) → (xs : List A) → list_all q xs ≡ true → (d : Declaration) → In d (map f xs) →
    is_plain d.name ≡ true
mapped_plain f q g xs h d k =
    let r : (x : _) × In x xs × (f x ≡ d) = mapped-from f d xs k in
    ap (λ (z : Declaration). is_plain z.name) (sym r.2) ∙ g r.0 (all_in q xs r.0 h r.1)

all-join : {A : Type 0} (p : A → Bool) (xs ys : List A) → list_all p xs ≡ true → list_all p ys ≡ true → list_all p (xs ++ ys) ≡ true
all-join p [] ys h k = k
all-join p (x ∷ xs) ys h k = and-both (p x) (list_all p (xs ++ ys)) (and-left (p x) (list_all p xs) h) (all-join p xs ys (and-right (p x) (list_all p xs) h) k)

label_plain : (o : Option Ident) → plain_label o ≡ true → list_all is_plain (label_of o) ≡ true
label_plain None h = refl
label_plain (Some n) h = and-both (is_plain n) true h refl

mutual
  unfolding plain_stmt labels

  labels_plain : (s : Stmt) → plain_stmt s ≡ true → list_all is_plain (labels s) ≡ true
  labels_plain b.Null h = refl
  labels_plain (b.Block' name n rs) h =
      all-join is_plain (label_of name) _ (label_plain name (and-left (plain_label name) _ h)) (rows_plain rs (and-right (plain_label name) _ h))
  labels_plain (b.If' c n s other) h =
      all-join is_plain (fold_one_stmt (List Ident) (ArmOf (List Ident)) label_step arm_step s) (labels_or (fold_held (List Ident) (ArmOf (List Ident)) label_step arm_step other)) (one_plain s (and-left (fold_one_stmt Bool Bool plain_step plain_arm s) _ h)) (held_plain other (and-right (fold_one_stmt Bool Bool plain_step plain_arm s) _ h))
  labels_plain (b.Case' wild x n arms) h = arms_plain arms h
  labels_plain (b.Loop' index start test again next n s) h = one_plain s h
  labels_plain (b.Now target x place) h = refl
  labels_plain (b.Later target x place) h = refl

  rows_plain : {n : _} (r : Row_of-Stmt n) → list_all (λ b. b) (fold_stmts Bool Bool plain_step plain_arm r) ≡ true →
      list_all is_plain (flat_map (λ xs. xs) (fold_stmts (List Ident) (ArmOf (List Ident)) label_step arm_step r)) ≡ true
  rows_plain end_of-Stmt h = refl
  rows_plain (more_of-Stmt x xs) h = all-join is_plain (labels x) _ (labels_plain x (and-left (plain_stmt x) _ h)) (rows_plain xs (and-right (plain_stmt x) _ h))

  one_plain : {n : _} (r : Row_of-Stmt n) → fold_one_stmt Bool Bool plain_step plain_arm r ≡ true → list_all is_plain (fold_one_stmt (List Ident) (ArmOf (List Ident)) label_step arm_step r) ≡ true
  one_plain end_of-Stmt h = refl
  one_plain (more_of-Stmt x xs) h = labels_plain x h

  held_plain : (r : Held-Stmt-If-2) → plain_or (fold_held Bool Bool plain_step plain_arm r) ≡ true →
      list_all is_plain (labels_or (fold_held (List Ident) (ArmOf (List Ident)) label_step arm_step r)) ≡ true
  held_plain None' h = refl
  held_plain (Some' n s) h = one_plain s h

  arms_plain : {n : _} (r : Row_of-Arm n) → list_all (λ b. b) (fold_arms Bool Bool plain_step plain_arm r) ≡ true →
      list_all is_plain (flat_map (λ (a : ArmOf (List Ident)). a.body) (fold_arms (List Ident) (ArmOf (List Ident)) label_step arm_step r)) ≡ true
  arms_plain end_of-Arm h = refl
  arms_plain (more_of-Arm ls body xs) h = all-join is_plain (labels body) _ (labels_plain body (and-left (plain_stmt body) _ h)) (arms_plain xs (and-right (plain_stmt body) _ h))

item_plain : (x : Item) (d : Declaration) → plain_item x ≡ true → In d (of_item x) → is_plain d.name ≡ true
item_plain (i.Generate' n items) d h k = absurd k
item_plain (i.Loop' index start test again next label n items) d h (inl e) = ap (λ (z : Declaration). is_plain z.name) (sym e) ∙ and-left (is_plain label) (plain_items items) h
item_plain (i.Loop' index start test again next label n items) d h (inr e) = absurd e
item_plain (i.Port a) d h k = mapped_plain _ is_plain (λ x e. e) a.names h d k
item_plain (i.Wire signed range names) d h k = mapped_plain _ (λ (n : NetName). is_plain n.name) (λ x e. e) names h d k
item_plain (i.Reg signed range names) d h k = mapped_plain _ (λ (n : RegName). is_plain n.name) (λ x e. e) names h d k
item_plain (i.Index genvar names) d h k = mapped_plain _ is_plain (λ x e. e) names h d k
item_plain (i.Params local ps) d h k = mapped_plain _ (λ (s : Setting). is_plain s.name) (λ x e. e) ps.list h d k
item_plain (i.Assign list) d h k = absurd k
item_plain (i.Always watch stmt place) d h k = mapped_plain _ is_plain (λ x e. e) (labels stmt) (labels_plain stmt h) d k
item_plain (i.Instance kind settings insts) d h k = mapped_plain _ (λ (n : Inst). is_plain n.name) (λ x e. e) insts h d k

ports_plain : (ps : Ports) (d : Declaration) → plain_ports ps ≡ true → In d (of_ports ps) → is_plain d.name ≡ true
ports_plain (p.Declared ports) d h k =
    (let r : (a : Aport) × In a ports × In d (of_port a) = in-from of_port d ports k in mapped_plain _ is_plain (λ x e. e) r.0.names (all_in (λ (a : Aport). list_all is_plain a.names) ports r.0 h r.1) d r.2)
ports_plain p.Absent d h k = absurd k
ports_plain p.Empty d h k = absurd k
ports_plain (p.Names names) d h k = absurd k

params_plain : (xs : List Params) (d : Declaration) → list_all plain_params xs ≡ true → In d (flat_map (of_params false) xs) → is_plain d.name ≡ true
params_plain xs d h k =
    (let r : (a : Params) × In a xs × In d (of_params false a) = in-from (of_params false) d xs k in mapped_plain _ (λ (s : Setting). is_plain s.name) (λ x e. e) r.0.list (all_in plain_params xs r.0 h r.1) d r.2)

items_plain : (xs : List Item) → ((x : Item) → In x xs → plain_item x ≡ true) → (d : Declaration) → In d (of_items xs) → IsPlain d.name.name
items_plain xs h d k = (let r : (x : Item) × In x xs × In d (of_item x) = in-from of_item d xs k in plain_decl d.name (item_plain r.0 d (h r.0 r.1) r.2))

-- ---- the shape of each scope

pub module_shaped : (path : Name) (top : Bool) (around : List Name) (os : List Override) (clocks : Names → List Name) (m : Module) → plain_module m ≡ true → IsShaped (module_scope path top around os clocks m)
module_shaped path top around os clocks m h =
    let ds : List Declaration = of_module m in
    let constants : Names = with_parameters os no_names ds in
    let head : List Declaration = flat_map (of_params false) m.params ++ of_ports m.ports in
    let headers : (list_all plain_params m.params && plain_ports m.ports) ≡ true = and-left (list_all plain_params m.params && plain_ports m.ports) (list_all plain_item m.items) h in
    let heads : (d : Declaration) → In d head → is_plain d.name ≡ true =
    (λ d k. elim (in-split d (flat_map (of_params false) m.params) (of_ports m.ports) k) [
      | inl a ↦ params_plain m.params d (and-left (list_all plain_params m.params) (plain_ports m.ports) headers) a
      | inr a ↦ ports_plain m.ports d (and-right (list_all plain_params m.params) (plain_ports m.ports) headers) a
    ]) in
    let items : (x : Item) → In x (module_items m) → plain_item x ≡ true =
    (λ x k. (let r : (z : Item) × In z m.items × In x (spread z) = in-from spread x m.items k in
    plain_spread r.0 x (all_in plain_item m.items r.0 (and-right (list_all plain_params m.params && plain_ports m.ports) (list_all plain_item m.items) h) r.1) r.2)) in
    record {
      constants = constants;
      top = top;
      clocks = filter (is_one_bit_input constants ds) (clocks constants);
      names = refl;
      fixed = λ n d i e p. params_fixed os no_names ds n d i e p;
      plain = λ d i. elim (in-split d head (of_items (module_items m)) i) [ inl a ↦ plain_decl d.name (heads d a) | inr a ↦ items_plain (module_items m) items d a ];
      items = items;
      front = head;
      whole = refl;
    }

pub turn_shaped : (s : Scope) (k : ℕ) (index label : Ident) (items : List Item) (v : ℕ) → ((x : Item) → In x items → plain_item x ≡ true) → IsShaped (turn_scope s k index label items v)
turn_shaped s k index label items v h = record {
  constants = with_parameters [] (with_index s.names index.name v) (of_items items);
  top = false;
  clocks = [];
  names = refl;
  fixed = λ n d i e p. params_fixed [] (with_index s.names index.name v) (of_items items) n d i e p;
  plain = items_plain items h;
  items = h;
  front = [];
  whole = refl;
}

found_if : (b : Bool) (x : Module) (xs : List Module) (m : Module) (r : Option Module) → cond b (Some x) r ≡ Some m → (r ≡ Some m → In m xs) → In m (x ∷ xs)
found_if true x xs m r h f = inl (some_same x m h)
found_if false x xs m r h f = inr (f h)

pub found_in : (q : Module → Bool) (ms : List Module) (m : Module) → find q ms ≡ Some m → In m ms
found_in q [] m h = cc
found_in q (x ∷ xs) m h = found_if (q x) x xs m (find q xs) h (found_in q xs m)

module _ (source : Source) (plain : HasPlainNames source) (s : Scope) where
  inst_shaped : (settings : List Conn) (inst : Inst) (o : Option Module) → ((m : Module) → o ≡ Some m → plain_module m ≡ true) → (c : Scope) → In c (instance_scopes s settings inst o) → IsShaped c
  inst_shaped settings inst None f c h = absurd h
  inst_shaped settings inst (Some m) f c h =
      subst IsShaped (instance_if (is_among s.around m.name.name) (instance_scope s settings inst m) c h)
      (module_shaped (below s.path (spelled inst.name.name)) false s.around (overrides s.names settings m) (λ constants. flat_map (clock_by s.names) (links (port_names m.ports) inst.conns)) m (f m refl))

  named_plain : (name : Name) (m : Module) → module_named source name ≡ Some m → plain_module m ≡ true
  named_plain name m e = all_in plain_module source.modules m plain.plain (found_in (λ m. bytes_eq m.name.name name) source.modules m e)

  child_shaped : (k : ℕ) (x : Item) (c : Scope) → plain_item x ≡ true → In c (children_by source s (k, x)) → IsShaped c
  child_shaped k (i.Instance kind settings insts) c p h =
      (let r : (n : Inst) × In n insts × In c (instance_scopes s settings n (module_named source kind.name)) = in-from (λ n. instance_scopes s settings n (module_named source kind.name)) c insts h in
      inst_shaped settings r.0 (module_named source kind.name) (named_plain kind.name) c r.2)
  child_shaped k (i.Loop' index start test again next label n items) c p h =
      (let r : (v : ℕ) × In v (turns s.names index.name start test next) × (turn_scope s k index label (spread_all items) v ≡ c) =
      mapped-from (turn_scope s k index label (spread_all items)) c (turns s.names index.name start test next) h in
      subst IsShaped r.2 (turn_shaped s k index label (spread_all items) r.0 (λ y j. plain_all items y (and-right (is_plain label) (plain_items items) p) j)))
  child_shaped k (i.Port a) c p h = absurd h
  child_shaped k (i.Wire signed range names) c p h = absurd h
  child_shaped k (i.Reg signed range names) c p h = absurd h
  child_shaped k (i.Index genvar names) c p h = absurd h
  child_shaped k (i.Params local ps) c p h = absurd h
  child_shaped k (i.Assign list) c p h = absurd h
  child_shaped k (i.Always watch stmt place) c p h = absurd h
  child_shaped k (i.Generate' n items) c p h = absurd h

  children_from : (k : ℕ) (xs : List Item) (c : Scope) → ((x : Item) → In x xs → plain_item x ≡ true) → In c (flat_map (children_by source s) (counted_from k xs)) → IsShaped c
  children_from k [] c f h = absurd h
  children_from k (x ∷ xs) c f h = elim (in-split c (children_by source s (k, x)) _ h) [
    | inl a ↦ child_shaped k x c (f x (inl refl)) a
    | inr a ↦ children_from (k + length (of_item x)) xs c (λ y j. f y (inr j)) a
  ]

  pub children_shaped : IsShaped s → (c : Scope) → In c (children source s) → IsShaped c
  children_shaped h c i = children_from s.header s.items c h.items i

pub all_shaped : (source : Source) → HasPlainNames source → (n : ℕ) (s : Scope) → IsShaped s → (u : Scope) → In u (scopes_within n source s) → IsShaped u
all_shaped source plain zero s h u i = absurd i
all_shaped source plain (suc n) s h u (inl e) = subst IsShaped e h
all_shaped source plain (suc n) s h u (inr i) =
    (let r : (c : Scope) × In c (children source s) × In u (scopes_within n source c) = in-from (scopes_within n source) u (children source s) i in
    all_shaped source plain n r.0 (children_shaped source plain s h r.0 r.1) u r.2)

-- ---- the signals of a legal source

within_apart : (source : Source) → HasPlainNames source → (n : ℕ) (s : Scope) → IsShaped s → ((u : Scope) → In u (scopes_within n source s) → duplicates u ≡ []) →
    (x y : Declared) (name : Name) → In x (flat_map scope_signals (scopes_within n source s)) → In y (flat_map scope_signals (scopes_within n source s)) → HasCell x name → HasCell y name → x ≡ y
within_apart source plain n s h e x y name i j a b =
    let u : (u : Scope) × In u (scopes_within n source s) × In x (scope_signals u) = in-from scope_signals x (scopes_within n source s) i in
    let v : (u : Scope) × In u (scopes_within n source s) × In y (scope_signals u) = in-from scope_signals y (scopes_within n source s) j in
    tree_apart source n s u.0 v.0 x y name (λ w k. told source w (all_shaped source plain n s h w k) (e w k)) u.1 v.1 u.2 v.2 a b

from_apart : (d : Design) → HasPlainNames d.source → (o : Option Module) → ((m : Module) → o ≡ Some m → plain_module m ≡ true) → ((u : Scope) → In u (scopes_from d o) → duplicates u ≡ []) →
    (x y : Declared) (name : Name) → In x (flat_map scope_signals (scopes_from d o)) → In y (flat_map scope_signals (scopes_from d o)) → HasCell x name → HasCell y name → x ≡ y
from_apart d plain None f e x y name i j a b = absurd i
from_apart d plain (Some m) f e x y name i j a b =
    within_apart d.source plain (suc (depth d.source)) (top_scope d m) (module_shaped [] true [] [] (λ constants. d.clock ∷ []) m (f m refl)) e x y name i j a b

-- no two signals of a legal source with plain names have a cell of one name
pub signals_apart : (d : Design) → IsLegal d → HasPlainNames d.source → (i j : ℕ) (x y : Declared) (name : Name) → slice_get (signals_of d) i ≡ Some x → slice_get (signals_of d) j ≡ Some y →
    HasCell x name → HasCell y name → x ≡ y
unfolding places_of signals_of scopes_of
signals_apart d legal plain i j x y name e f a b =
    from_apart d plain (module_named d.source d.top)
    (λ m k. all_in plain_module d.source.modules m plain.plain (found_in (λ m. bytes_eq m.name.name d.top) d.source.modules m k))
    (λ u k. scopes_clean duplicates (scopes_of d) (append-right (modules_again d.source.modules) _ (legal.nothing Duplicate)) u k)
    x y name (in_index x (signals_of d) i e) (in_index y (signals_of d) j f) a b
