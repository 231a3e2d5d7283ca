-- The top has its clock exactly where its path is among the declared clocks.
use Rattle.std.proofs.Common.{◌≡◌, inl, inr, ℕ, Bool, true, false, ◌&&◌, List, [], ◌∷◌, refl, sym, ap, ◌∙◌, Option, Some, None}
use Rattle.std.specs.Prelude.{bytes_eq, flat_map, cond, if◌then◌else◌}
use Rattle.std.specs.List.{list_any}
use Rattle.lv_ast.specs.declared.expr.Path.{Path}
use Rattle.lv_ast.specs.declared.stmt.Ident.{Ident}
use Rattle.lv_ast.specs.declared.item.Module.{Module}
use Rattle.lv_ast.specs.declared.expr.Expr.{Expr}
use Rattle.lv_ast.specs.declared.item.Range.{Range}
use Rattle.lv_ast.specs.Names.{Name, alone}
use Rattle.lv_source.specs.Names.{Names, Declared, Clock, Variable, Input, Net, Other, known, with_name, is_signal_sort, is_clock_sort}
use Rattle.lv_source.specs.Names.{Index as Index_sort}
use Rattle.lv_source.specs.Declarations.{Thing, Direction, Wire, Reg, Parameter, Index, Instance, Label, Declaration, of_module, declared_as}
use Rattle.lv_source.specs.Scopes.{Scope, Override, with_parameters, overridden, override_of, signal, other, stands_for, sort_of, is_reg, is_input, is_one_bit_input, no_names}
use Rattle.lv_source.specs.Parts.{Design, numbered_from, declares_here, is_declared_sort, by_place, scope_declared, top_scope}
use Rattle.lv_source.proofs.Tests.{and-left, or-left, or-right, or-split, same_name}
use Rattle.lv_source.proofs.Refused.{In}
use Rattle.lv_source.proofs.Trees.{in-from}
use Rattle.lv_source.proofs.Kids.{mapped-from}
use Rattle.lv_source.proofs.Shaped.{in_sorted, in_numbered, in_if, filter_in}
use Rattle.lv_source.proofs.Given.{own_in}

-- ---- lists and tests

pub any_to : (q : Declared → Bool) (x : Declared) (xs : List Declared) → In x xs → q x ≡ true → list_any q xs ≡ true
any_to q x [] h e = absurd h
any_to q x (y ∷ ys) (inl k) e = or-left (q y) (list_any q ys) (ap q k ∙ e)
any_to q x (y ∷ ys) (inr h) e = or-right (q y) (list_any q ys) (any_to q x ys h e)

pub any_from : (q : Declared → Bool) (xs : List Declared) → list_any q xs ≡ true → (x : Declared) × In x xs × (q x ≡ true)
any_from q [] h = cc
any_from q (x ∷ xs) h = elim (or-split (q x) (list_any q xs) h) [
  | inl e ↦ (x, inl refl, e)
  | inr e ↦ (let r : (x : Declared) × In x xs × (q x ≡ true) = any_from q xs e in (r.0, inr r.1, r.2))
]

pub same_test : (a b : Bool) → (a ≡ true → b ≡ true) → (b ≡ true → a ≡ true) → a ≡ b
same_test true true f g = refl
same_test true false f g = sym (f refl)
same_test false true f g = g refl
same_test false false f g = refl

among_filter : (q : Name → Bool) (b : Bool) (c n : Name) → list_any (bytes_eq n) (cond b (c ∷ []) []) ≡ true → n ≡ c
among_filter q true c n h = elim (or-split (bytes_eq n c) false h) [ inl e ↦ same_name n c e | inr e ↦ cc ]
among_filter q false c n h = cc

-- ---- which names are clocks

abbrev NoClock : Option Declared → Type 0
NoClock o = is_clock_sort (known o).sort ≡ false

differ : (b : Bool) → b ≡ true → b ≡ false → ⊥
differ b h k = cc

over_unclocked : (here : Names) (n : Ident) (signed : Bool) (range : Option Range) (value : Expr) (o : Option Override) → is_clock_sort (overridden here n signed range value o).sort ≡ false
over_unclocked here n signed None value None = refl
over_unclocked here n signed (Some r) value None = refl
over_unclocked here n signed None value (Some o) = refl
over_unclocked here n signed (Some r) value (Some o) = refl

with_unclocked : (b : Bool) (x : Declared) (y : Option Declared) → is_clock_sort x.sort ≡ false → NoClock y → NoClock (if b then Some x else y)
with_unclocked true x y h k = h
with_unclocked false x y h k = k

abbrev next_names : List Override → Names → Ident → Thing → Names
next_names os names n t = elim t as (λ _. Names) [
  | Parameter local signed range value ↦ with_name names n.name (Some (overridden names n signed range value (override_of local os n.name)))
  | Direction o w s r ↦ names
  | Wire s r ↦ names
  | Reg s r b ↦ names
  | Index g ↦ names
  | Instance ↦ names
  | Label ↦ names
]

next_unclocked : (os : List Override) (names : Names) (n : Ident) (t : Thing) (m : Name) → NoClock (names (alone m)) → NoClock (next_names os names n t (alone m))
next_unclocked os names n (Parameter local signed range value) m h = with_unclocked (bytes_eq m n.name) _ (names (alone m)) (over_unclocked names n signed range value (override_of local os n.name)) h
next_unclocked os names n (Direction o w s r) m h = h
next_unclocked os names n (Wire s r) m h = h
next_unclocked os names n (Reg s r b) m h = h
next_unclocked os names n (Index g) m h = h
next_unclocked os names n Instance m h = h
next_unclocked os names n Label m h = h

params_unclocked : (os : List Override) (names : Names) (ds : List Declaration) (m : Name) → NoClock (names (alone m)) → NoClock (with_parameters os names ds (alone m))
params_unclocked os names [] m h = h
params_unclocked os names (d ∷ ds) m h = params_unclocked os (next_names os names d.name d.thing) ds m (next_unclocked os names d.name d.thing m h)

plain_sort : (a b : Bool) → is_clock_sort (if a then Variable else if b then Input else Net) ≡ true → ⊥
plain_sort true b h = cc
plain_sort false true h = cc
plain_sort false false h = cc

sort_clock : (clock a b : Bool) → is_clock_sort (if clock then Clock else if a then Variable else if b then Input else Net) ≡ true → clock ≡ true
sort_clock true a b h = refl
sort_clock false a b h = absurd (plain_sort a b h)

thing_clock : (names : Names) (path : Name) (p : Path) (n : Ident) (top clock : Bool) (ds : List Declaration) (t : Thing) → NoClock (names p) →
    is_clock_sort (known (elim t as (λ _. Option Declared) [
      | Direction o w signed range ↦ Some (signal names path n.name (sort_of top clock ds) signed range None)
      | Wire signed range ↦ Some (signal names path n.name (sort_of top clock ds) signed range None)
      | Reg signed range array ↦ Some (signal names path n.name (sort_of top clock ds) signed range array)
      | Parameter l s r v ↦ names p
      | Index g ↦ Some (other (Index_sort g))
      | Instance ↦ Some (other Other)
      | Label ↦ Some (other Other)
    ])).sort ≡ true → clock ≡ true
thing_clock names path p n top clock ds (Direction o w s r) f h = sort_clock clock (list_any is_reg ds) (top && list_any is_input ds) h
thing_clock names path p n top clock ds (Wire s r) f h = sort_clock clock (list_any is_reg ds) (top && list_any is_input ds) h
thing_clock names path p n top clock ds (Reg s r b) f h = sort_clock clock (list_any is_reg ds) (top && list_any is_input ds) h
thing_clock names path p n top clock ds (Parameter l s r v) f h = absurd (differ _ h f)
thing_clock names path p n top clock ds (Index g) f h = cc
thing_clock names path p n top clock ds Instance f h = cc
thing_clock names path p n top clock ds Label f h = cc

-- a clock is among the names that are clocks, and declared
stands_clock : (names : Names) (path : Name) (top clock : Bool) (p : Path) (xs : List Declaration) → NoClock (names p) → is_clock_sort (known (stands_for names path top clock p xs)).sort ≡ true →
    (clock ≡ true) × (d : Declaration) × In d xs
stands_clock names path top clock p [] f h = absurd (differ _ h f)
stands_clock names path top clock p (d ∷ ds) f h = (thing_clock names path p d.name top clock (d ∷ ds) d.thing f h, d, inl refl)

-- ---- the entries of a scope

pub record IsEntry (s : Scope) (x : Declared) : Type 0 where
  pub it : Declaration
  pub among : In it s.declarations
  pub is : known (s.names (alone it.name.name)) ≡ x
  pub sort : is_declared_sort (known (s.names (alone it.name.name))).sort ≡ true

pub entry_of : (s : Scope) (x : Declared) → In x (scope_declared s) → IsEntry s x
entry_of s x i =
    let sorted : List (ℕ × Declared) = by_place (flat_map (declares_here is_declared_sort s) (numbered_from 0 s.declarations)) in
    let px : (p : ℕ × Declared) × In p sorted × (p.1 ≡ x) = mapped-from (λ (p : ℕ × Declared). p.1) x sorted i in
    let at : (kx : ℕ × Declaration) × In kx (numbered_from 0 s.declarations) × In px.0 (declares_here is_declared_sort s kx) =
    in-from (declares_here is_declared_sort s) px.0 (numbered_from 0 s.declarations) (in_sorted px.0 _ px.1) in
    let d : Declaration = at.0.1 in
    let here : (_ ≡ true) × ((d.name.place, known (s.names (alone d.name.name))) ≡ px.0) = in_if _ (d.name.place, known (s.names (alone d.name.name))) px.0 at.2 in
    record {
      it = d;
      among = in_numbered at.0 s.declarations 0 at.1;
      is = ap (λ (p : ℕ × Declared). p.1) here.1 ∙ px.2;
      sort = and-left (is_declared_sort (known (s.names (alone d.name.name))).sort) _ here.0;
    }

-- ---- the clock of the top

abbrev pub clock_here : Declared → Bool
clock_here x = is_clock_sort x.sort

module _ (d : Design) (m : Module) where
  abbrev pub top : Scope
  top = top_scope d m

  abbrev constants : Names
  constants = with_parameters [] no_names (of_module m)

  abbrev pub clock : Declared
  clock = known (top.names (alone d.clock))

  pub named_clock : (n : Name) → is_clock_sort (known (top.names (alone n))).sort ≡ true → (n ≡ d.clock) × (c : Declaration) × In c (declared_as n (of_module m))
  named_clock n h =
      let r : (_ ≡ true) × (c : Declaration) × In c (declared_as n (of_module m)) =
      stands_clock constants [] true _ (alone n) (declared_as n (of_module m)) (params_unclocked [] no_names (of_module m) n refl) h in
      (among_filter (is_one_bit_input constants (of_module m)) (is_one_bit_input constants (of_module m) d.clock) d.clock n r.0, r.1, r.2)

  -- it stands among the entries of the top
  pub clock_stands : is_clock_sort clock.sort ≡ true → In clock (scope_declared top)
  clock_stands h =
      let r : (d.clock ≡ d.clock) × (c : Declaration) × In c (declared_as d.clock (of_module m)) = named_clock d.clock h in
      let at : In r.1 (of_module m) × (r.1.name.name ≡ d.clock) = filter_in d.clock (of_module m) r.1 r.2 in
      own_in is_declared_sort top d.clock r.1 at.0 at.1 (or-right (is_signal_sort clock.sort) (is_clock_sort clock.sort) h)

  -- and is the only clock there
  pub clock_only : (x : Declared) → In x (scope_declared top) → is_clock_sort x.sort ≡ true → clock ≡ x
  clock_only x i h =
      let e : IsEntry top x = entry_of top x i in
      let n : (e.it.name.name ≡ d.clock) × (c : Declaration) × In c (declared_as e.it.name.name (of_module m)) = named_clock e.it.name.name (ap clock_here e.is ∙ h) in
      ap (λ (n : Name). known (top.names (alone n))) (sym n.0) ∙ e.is

  pub top_declares : is_clock_sort (known ((top_scope d m).names (alone d.clock))).sort ≡ list_any (λ x. is_clock_sort x.sort) (scope_declared (top_scope d m))
  top_declares = same_test _ _ (λ h. any_to clock_here clock (scope_declared top) (clock_stands h) h)
      (λ h. (let r : (x : Declared) × In x (scope_declared top) × (clock_here x ≡ true) = any_from clock_here (scope_declared top) h in ap clock_here (clock_only r.0 r.1 r.2) ∙ r.2))
