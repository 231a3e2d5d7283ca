-- What the names of a scope stand for is what its table says.
use Rattle.std.proofs.Common.{◌≡◌, ◌⊎◌, inl, inr, ℕ, zero, suc, ◌+◌, ◌<◌, ◌≤◌, arith, Bool, true, false, ◌&&◌, ◌||◌, ◌==◌, List, [], ◌∷◌, ◌++◌, map, length, refl, sym, ap, ◌∙◌, subst, Option, Some, None}
use Rattle.std.specs.Prelude.{bytes_eq, slice_get, flat_map, nat_le, if◌then◌else◌}
use Rattle.std.specs.List.{list_any, position}
use Rattle.std.specs.Option.{option_map}
use Rattle.std.proofs.lemmas.Option.{slice_get-map, slice_get_past, slice_get_within}
use Rattle.std.proofs.lemmas.Bool.{eq-eqb}
use Rattle.std.proofs.lemmas.List.{length-map}
use Rattle.lv_bindings.proofs.GroupLaws.{no_group}
use Rattle.lv_ast.specs.declared.stmt.Ident.{Ident}
use Rattle.lv_ast.specs.Names.{Name, alone}
use Rattle.lv_source.specs.Names.{Names, Declared}
use Rattle.lv_source.specs.Names.{Index as IndexSort, Other as OtherSort}
use Rattle.lv_source.specs.Declarations.{Thing, Direction, Wire, Reg, Parameter, Index, Instance, Label, Declaration, declared_as}
use Rattle.lv_source.specs.Parts.{numbered_from, is_declared_sort}
use Rattle.lv_source.specs.Scopes.{is_parameter, stands_for, other}
use Rattle.lv_source.proofs.Tests.{decide, same_name, name-itself}
use Rattle.lv_source.proofs.Bridges.{map-map}
use Rattle.lv_scopes.specs.NameLists.{listed}
use Rattle.lv_flat.specs.Signals.{declared}
use Rattle.lv_symbols.specs.declared.symbol.Symbol.{Symbol}
use Rattle.lv_symbols.specs.declared.symbol.Symbol.TheVariants as y
use Rattle.lv_symbols.specs.Making.{symbol_of}
use Rattle.lv_symbols.specs.Frames.{Frame, constants_in}
use Rattle.lv_bindings.specs.declared.group.Group.{Group}
use Rattle.lv_bindings.specs.declared.groups.Groups.{Groups}
use Rattle.lv_bindings.specs.declared.table.Binding.{Binding}
use Rattle.lv_bindings.specs.declared.table.Binding.TheVariants as b
use Rattle.lv_bindings.specs.declared.scope.Named.{Named}
use Rattle.lv_bindings.specs.Grouping.{Numbered, AreGrouped, named, group_of, group_for, place}
use Rattle.lv_bindings.specs.Order.{Outside, Seen, seen, signal_by, signal_with, seen_if, standing_at, all_standing, put_in_seen, in_order_seen, group_standing}
use Rattle.lv_bindings.specs.Tables.{bound_by, bound_in, plain_binding, plain_bindings, assigned, IsNamed}
use Rattle.lv_bindings.specs.Bound.{IsBound, InBound}
use Rattle.lv_bindings.specs.Standing.{IsSignal, Says, IsTable}
use Rattle.lv_bindings.proofs.Lists.{number_in, number-some, number-none, number-there, number-one, numbered-get, got-or-past}
use Rattle.lv_bindings.proofs.NamedLaws.{HasFirst, has_first, numbered_is, plain}
use Rattle.lv_bindings.proofs.TableLaws.{HasNone, IsAssigned, assigned_at, length_assigned}
use Rattle.lv_bindings.proofs.FrameLaws.{Stood, bound_name, symbol_is, names_is}
use Rattle.lv_bindings.proofs.ScopeLaws.{group_there, signal_declared, kept_if, by_standing}
use Rattle.lv_bindings.proofs.FirstLaws.{IsDirected, directed_from, group_direction}

-- ---- elements

abbrev pub Has : List Seen → Seen → Type 0
Has zs z = (j : ℕ) × (slice_get zs j ≡ Some z)

later : (x : Seen) (zs : List Seen) (z : Seen) → Has zs z → Has (x ∷ zs) z
later x zs z h = (suc h.0, h.1)

over : (d e : Seen) (es : List Seen) (z : Seen) → Has (d ∷ es) z → Has (d ∷ e ∷ es) z
over d e es z (zero, h) = (0, h)
over d e es z (suc j, h) = (suc (suc j), h)

put_by : (c : Bool) (d e : Seen) (es : List Seen) (j : ℕ) (z : Seen) → ((i : ℕ) (w : Seen) → slice_get (put_in_seen d es) i ≡ Some w → Has (d ∷ es) w) →
    slice_get (if c then d ∷ e ∷ es else e ∷ put_in_seen d es) j ≡ Some z → Has (d ∷ e ∷ es) z
put_by true d e es j z f h = (j, h)
put_by false d e es zero z f h = (1, h)
put_by false d e es (suc j) z f h = over d e es z (f j z h)

put_has : (d : Seen) (es : List Seen) (j : ℕ) (z : Seen) → slice_get (put_in_seen d es) j ≡ Some z → Has (d ∷ es) z
put_has d [] j z h = (j, h)
put_has d (e ∷ es) j z h = put_by (nat_le d.place e.place) d e es j z (put_has d es) h

either_has : (x : Seen) (zs us : List Seen) (z : Seen) → Has (x ∷ zs) z → (Has zs z → Has us z) → Has (x ∷ us) z
either_has x zs us z (zero, h) f = (0, h)
either_has x zs us z (suc j, h) f = later x us z (f (j, h))

order_has : (zs : List Seen) (j : ℕ) (z : Seen) → slice_get (in_order_seen zs) j ≡ Some z → Has zs z
order_has [] j z h = (j, h)
order_has (x ∷ zs) j z h = either_has x (in_order_seen zs) zs z (put_has x (in_order_seen zs) j z h) (λ q. order_has zs q.0 z q.1)

swap : (d e : Seen) (es us : List Seen) (z : Seen) → Has (d ∷ e ∷ es) z → (Has (d ∷ es) z → Has us z) → Has (e ∷ us) z
swap d e es us z (zero, h) f = later e us z (f (0, h))
swap d e es us z (suc zero, h) f = (0, h)
swap d e es us z (suc (suc j), h) f = later e us z (f (suc j, h))

put_keeps : (d : Seen) (es : List Seen) (z : Seen) → Has (d ∷ es) z → Has (put_in_seen d es) z
put_keeps d [] z h = h
put_keeps d (e ∷ es) z h = elim (nat_le d.place e.place) as (λ c. Has (if c then d ∷ e ∷ es else e ∷ put_in_seen d es) z) [
  | true ↦ h
  | false ↦ swap d e es (put_in_seen d es) z h (put_keeps d es z)
]

order_keeps : (zs : List Seen) (z : Seen) → Has zs z → Has (in_order_seen zs) z
order_keeps [] z h = h
order_keeps (x ∷ zs) z h = put_keeps x (in_order_seen zs) z (either_has x zs (in_order_seen zs) z h (order_keeps zs z))

left_has : (xs ys : List Seen) (z : Seen) → Has xs z → Has (xs ++ ys) z
left_has [] ys z h = absurd (let e : None ≡ Some z = h.1 in cc)
left_has (x ∷ xs) ys z h = either_has x xs (xs ++ ys) z h (left_has xs ys z)

right_has : (xs ys : List Seen) (z : Seen) → Has ys z → Has (xs ++ ys) z
right_has [] ys z h = h
right_has (x ∷ xs) ys z h = later x (xs ++ ys) z (right_has xs ys z h)

split_has : (xs ys : List Seen) (z : Seen) → Has (xs ++ ys) z → (Has xs z) ⊎ (Has ys z)
split_has [] ys z h = inr h
split_has (x ∷ xs) ys z (zero, h) = inl (0, h)
split_has (x ∷ xs) ys z (suc j, h) = elim (split_has xs ys z (j, h)) [ inl q ↦ inl (later x xs z q) | inr q ↦ inr q ]

flat_has : (f : Numbered → List Seen) (xs : List Numbered) (k : ℕ) (x : Numbered) (z : Seen) → slice_get xs k ≡ Some x → Has (f x) z → Has (flat_map f xs) z
flat_has f [] k x z h c = absurd (cc)
flat_has f (w ∷ xs) zero x z h c = left_has (f w) (flat_map f xs) z (let e : x ≡ w = cc in subst (λ v. Has (f v) z) e c)
flat_has f (w ∷ xs) (suc k) x z h c = right_has (f w) (flat_map f xs) z (flat_has f xs k x z h c)

pub record IsFrom (f : Numbered → List Seen) (xs : List Numbered) (z : Seen) : Type 0 where
  pub at : ℕ
  pub from : Numbered
  pub is : slice_get xs at ≡ Some from
  pub has : Has (f from) z

further : (f : Numbered → List Seen) (w : Numbered) (xs : List Numbered) (z : Seen) → IsFrom f xs z → IsFrom f (w ∷ xs) z
further f w xs z h = record { at = suc h.at; from = h.from; is = h.is; has = h.has }

from_flat : (f : Numbered → List Seen) (xs : List Numbered) (z : Seen) → Has (flat_map f xs) z → IsFrom f xs z
from_flat f [] z h = absurd (let e : None ≡ Some z = h.1 in cc)
from_flat f (w ∷ xs) z h = elim (split_has (f w) (flat_map f xs) z h) [
  | inl q ↦ record { at = 0; from = w; is = refl; has = q }
  | inr q ↦ further f w xs z (from_flat f xs z q)
]

only_seen : (place number : ℕ) (o : Option Declared) (z : Seen) → Has (seen_if place number o) z → (o ≡ Some z.signal) × (number ≡ z.number)
only_seen place number None z h = absurd (let e : None ≡ Some z = h.1 in cc)
only_seen place number (Some d) z (zero, h) =
    (let q : record { place = place; number = number; signal = d } ≡ z = cc in (ap (λ (w : Seen). Some w.signal) q, ap (λ (w : Seen). w.number) q))
only_seen place number (Some d) z (suc j, h) = absurd (let e : None ≡ Some z = h in cc)

kept_some : (c : Bool) (x : Option Declared) (m : Declared) → kept_if c x ≡ Some m → x ≡ Some m
kept_some true x m h = h
kept_some false x m h = absurd (cc)

-- ---- a signal of the table

module _ (f : Frame) (o : Outside) (ys : List Symbol) (h : IsBound o f.scope.declarations ys f) (g : Groups) (r : AreGrouped f.scope.declarations g) where
  abbrev ds : List Declaration
  ds = f.scope.declarations

  abbrev names : List Name
  names = listed g.names

  of_name : (x : Numbered) (z : Seen) → slice_get ds x.0 ≡ Some x.1 → Has (standing_at names o ds ys x) z →
      (f.scope.names (alone x.1.name.name) ≡ Some z.signal) × (number_in names x.1.name.name ≡ z.number) × (is_declared_sort z.signal.sort ≡ true)
  of_name x z e q =
      let own = group_there ds x.0 x.1 e in
      let s : (signal_by o x.1.name.name ys (group_standing (group_for ds x.1.name.name) x.0) ≡ Some z.signal) × (number_in names x.1.name.name ≡ z.number) =
      only_seen x.1.name.place (number_in names x.1.name.name) _ z q in
      let m : signal_with o x.1.name.name own.0 (slice_get ys own.0.first) ≡ Some z.signal =
      kept_some (place own.0 == x.0) (signal_with o x.1.name.name own.0 (slice_get ys own.0.first)) z.signal
      (sym (ap (λ w. signal_by o x.1.name.name ys (group_standing w x.0)) own.1 ∙ by_standing o x.1.name.name ys own.0 (place own.0 == x.0)) ∙ s.0) in (
        subst (λ w. Stood w (f.scope.names (alone x.1.name.name))) m (bound_name f o ys h x.1.name.name own.0 own.1),
        s.1,
        signal_declared o x.1.name.name own.0 (slice_get ys own.0.first) z.signal m,
      )

  numbered_at : (k : ℕ) (x : Numbered) → slice_get (numbered_from 0 ds) k ≡ Some x → slice_get ds x.0 ≡ Some x.1
  numbered_at k x e =
      (let q : (x.0 ≡ 0 + k) × (slice_get ds k ≡ Some x.1) = numbered_is 0 ds k x e in
      let n : x.0 ≡ k = (let m : x.0 ≡ 0 + k = q.0 in omega arith) in ap (slice_get ds) n ∙ q.1)

  signal_of : (name : Name) (j : ℕ) (z : Seen) → number_in names name < length names → slice_get (in_order_seen (all_standing names o ds ys)) j ≡ Some z →
      z.number ≡ number_in names name → (f.scope.names (alone name) ≡ Some z.signal) × (is_declared_sort z.signal.sort ≡ true)
  signal_of name j z l e n =
      let w : IsFrom (standing_at names o ds ys) (numbered_from 0 ds) z =
      from_flat (standing_at names o ds ys) (numbered_from 0 ds) z (order_has (all_standing names o ds ys) j z e) in
      let q = of_name w.from z (numbered_at w.at w.from w.is) w.has in
      let same : name ≡ w.from.1.name.name = number-one names name w.from.1.name.name l (sym n ∙ sym q.1) in
      (ap (λ u. f.scope.names (alone u)) same ∙ q.0, q.2)

  -- where its group stands
  stands_there : (name : Name) (x : Group) (own : group_for ds name ≡ Some x) (q : Option ℕ) → x.direction ≡ q →
      (k : ℕ) × ((d : Declaration) × (slice_get ds k ≡ Some d) × (d.name.name ≡ name) × (place x ≡ k))
  stands_there name x own None e =
      (let t : HasFirst ds name x.first = has_first ds name x own in
      (x.first, (t.declaration, t.is, same_name t.declaration.name.name name t.name_is, ap (λ w. elim w [ None ↦ x.first | Some k ↦ k ]) e)))
  stands_there name x own (Some j) e =
      (let t : IsDirected ds name 0 j = directed_from 0 ds name j (group_direction (named ds name) x own ∙ e) in
      let n : j ≡ t.at = (let m : j ≡ 0 + t.at = t.number in omega arith) in
      (t.at, (t.declaration, t.is, same_name t.declaration.name.name name t.name_is, ap (λ w. elim w [ None ↦ x.first | Some k ↦ k ]) e ∙ n)))

  one_seen : (number p : ℕ) (q : Option Declared) (m : Declared) → q ≡ Some m → Has (seen_if p number q) (record { place = p; number = number; signal = m })
  one_seen number p q m e = subst (λ w. Has (seen_if p number w) (record { place = p; number = number; signal = m })) (sym e) (0, refl)

  is_there : (name : Name) (x : Group) (own : group_for ds name ≡ Some x) (m : Declared) → signal_with o name x (slice_get ys x.first) ≡ Some m →
      (z : Seen) × (Has (in_order_seen (all_standing names o ds ys)) z) × (z.number ≡ number_in names name)
  is_there name x own m s =
      let t = stands_there name x own x.direction refl in
      let k : ℕ = t.0 in
      let d : Declaration = t.1.0 in
      let own' : group_for ds d.name.name ≡ Some x = ap (group_for ds) t.1.2 ∙ own in
      let q : signal_by o d.name.name ys (group_standing (group_for ds d.name.name) k) ≡ Some m =
      ap (λ w. signal_by o d.name.name ys (group_standing w k)) own' ∙ by_standing o d.name.name ys x (place x == k) ∙
      ap (λ c. kept_if c (signal_with o d.name.name x (slice_get ys x.first))) (eq-eqb (place x) k t.1.3) ∙
      ap (λ n. signal_with o n x (slice_get ys x.first)) t.1.2 ∙ s in
      let z : Seen = record { place = d.name.place; number = number_in names d.name.name; signal = m } in (
        z,
        order_keeps (all_standing names o ds ys) z
            (flat_has (standing_at names o ds ys) (numbered_from 0 ds) k (k, d) z
            (let n : 0 + k ≡ k = omega arith in numbered-get 0 ds k d t.1.1 ∙ ap (λ i. Some (i, d)) n)
            (one_seen (number_in names d.name.name) d.name.place (signal_by o d.name.name ys (group_standing (group_for ds d.name.name) k)) m q)),
        ap (number_in names) t.1.2,
      )

  module _ (first : ℕ) (name : Name) where
    abbrev zs : List Seen
    zs = in_order_seen (all_standing names o ds ys)

    abbrev signals : List Declared
    signals = map (λ (z : Seen). z.signal) zs

    says_plain : (x : Group) (n : Ident) (t : Thing) (rest : List Declaration) (path : Name) (top clock : Bool) →
        ((m : Declared) → signal_with o name x (Some (symbol_of (constants_in f) (record { name = n; thing = t }))) ≡ Some m → ⊥) →
        f.scope.names (alone name) ≡ stands_for (constants_in f) path top clock (alone name) (record { name = n; thing = t } ∷ rest) →
        (is_parameter (record { name = n; thing = t }) ≡ true → list_any is_parameter (declared_as name ds) ≡ true) →
        Says first signals f name (Some (plain_binding (Some (symbol_of (constants_in f) (record { name = n; thing = t })))))
    says_plain x n (Direction w v s e) rest path top clock none st p = absurd (none _ refl)
    says_plain x n (Wire s e) rest path top clock none st p = absurd (none _ refl)
    says_plain x n (Reg s e a) rest path top clock none st p = absurd (none _ refl)
    says_plain x n (Parameter l s e v) rest path top clock none st p = p refl
    says_plain x n (Index i) rest path top clock none st p = st
    says_plain x n Instance rest path top clock none st p = st
    says_plain x n Label rest path top clock none st p = st

    says_unassigned : (x : Group) (own : group_for ds name ≡ Some x) → HasNone zs (number_in names name) →
        Says first signals f name (Some (plain_binding (slice_get ys x.first)))
    says_unassigned x own none =
        let t : HasFirst ds name x.first = has_first ds name x own in
        subst (λ w. Says first signals f name (Some (plain_binding w))) (sym (symbol_is f o ys h name x own))
        (says_plain x t.declaration.name t.declaration.thing t.rest f.scope.path h.scope.top _
        (λ m s. (let q = is_there name x own m (ap (signal_with o name x) (symbol_is f o ys h name x own) ∙ s) in none q.1.0 q.0 q.1.1 q.2))
        (names_is f o ys h name x own)
        (λ e. ap (list_any is_parameter) t.all ∙ ap (λ c. c || list_any is_parameter t.rest) e))

    says_assigned : (x : Binding) → number_in names name < length names → IsAssigned first zs (number_in names name) x → Says first signals f name (Some x)
    says_assigned x l a =
        let q = signal_of name a.place a.signal l a.is a.number in
        subst (λ w. Says first signals f name (Some w)) (sym a.bound) (
          a.signal.signal,
          q.0,
          record {
            at = a.place;
            number = refl;
            is = slice_get-map (λ (z : Seen). z.signal) zs a.place ∙ ap (option_map (λ (z : Seen). z.signal)) a.is;
            sort = q.1;
          },
        )

    group_found : (i : ℕ) → i ≡ number_in names name → (x : Group) → slice_get g.groups.items i ≡ Some x → group_for ds name ≡ Some x
    group_found i e x s = sym (r.groups name) ∙ ap (slice_get g.groups.items) (sym e) ∙ s

    says_by : (i : ℕ) (x : Binding) → i ≡ number_in names name → number_in names name < length names →
        slice_get (assigned first zs (plain_bindings ys g.groups.items)) i ≡ Some x → Says first signals f name (Some x)
    says_by i x e l s = elim (assigned_at first zs (plain_bindings ys g.groups.items) i x s) [
      | inl p ↦ elim (got-or-past g.groups.items i) [
        | inl q ↦
            (let own : group_for ds name ≡ Some q.0 = group_found i e q.0 q.1 in
            let b : Some (plain_binding (slice_get ys q.0.first)) ≡ Some x =
            sym (slice_get-map (λ (w : Group). plain_binding (slice_get ys w.first)) g.groups.items i ∙
            ap (option_map (λ (w : Group). plain_binding (slice_get ys w.first))) q.1) ∙ p.0 in
            subst (Says first signals f name) b (says_unassigned q.0 own (λ j z a n. p.1 j z a (n ∙ sym e))))
        | inr m ↦ absurd (let c : length g.groups.items ≡ length names = r.count in omega arith)
      ]
      | inr a ↦ says_assigned x l (subst (λ n. IsAssigned first zs n x) e a)
    ]

    no_declaration : length names ≤ number_in names name → declared_as name ds ≡ []
    no_declaration l =
        let own : group_for ds name ≡ None = sym (r.groups name) ∙
        slice_get_past g.groups.items (number_in names name) (let c : length g.groups.items ≡ length names = r.count in omega arith) in
        sym (plain ds name) ∙ ap (map (λ x. x.1)) (no_group (named ds name) own)

    pub says : (q : Option ℕ) → position (bytes_eq name) names ≡ q →
        Says first signals f name (bound_by (assigned first zs (plain_bindings ys g.groups.items)) q)
    says None e = no_declaration (number-none names name e)
    says (Some i) e = elim (got-or-past (assigned first zs (plain_bindings ys g.groups.items)) i) [
      | inl x ↦ subst (Says first signals f name) (sym x.1) (says_by i x.0 (number-some names name i e) (number-there names name i e) x.1)
      | inr l ↦ absurd (
          let c : length g.groups.items ≡ length names = r.count in
          let n : length (assigned first zs (plain_bindings ys g.groups.items)) ≡ length g.groups.items =
          length_assigned first zs (plain_bindings ys g.groups.items) ∙ length-map g.groups.items (λ (w : Group). plain_binding (slice_get ys w.first)) in
          let m : i ≡ number_in names name = number-some names name i e in
          let t : number_in names name < length names = number-there names name i e in omega arith)
    ]

table_of : (o : Outside) (ys : List Symbol) (g : Groups) (first : ℕ) (x : Named) (f : Frame) → IsBound o f.scope.declarations ys f → AreGrouped f.scope.declarations g →
    IsNamed (listed g.names) g.groups.items o f.scope.declarations ys first x → IsTable first (map (λ z. declared z.signal) x.signals.items) x.table f
table_of o ys g first x f h r n = record {
  says = λ name. subst (λ us. Says first us f name (bound_in x.table name))
      (ap (map (λ (z : Seen). z.signal)) (sym n.signals) ∙ map-map (λ (z : Seen). z.signal) seen x.signals.items)
      (subst (λ bs. Says first (map (λ (z : Seen). z.signal) (in_order_seen (all_standing (listed g.names) o f.scope.declarations ys))) f name
      (bound_by bs (position (bytes_eq name) (listed x.table.names))))
      (sym (n.bindings ∙ ap (λ zs. assigned first zs (plain_bindings ys g.groups.items)) n.signals))
      (says f o ys h g r first name (position (bytes_eq name) (listed x.table.names)) (ap (position (bytes_eq name)) (sym n.names))));
}

pub table_in : (o : Outside) (ds : List Declaration) (ys : List Symbol) (g : Groups) (first : ℕ) (x : Named) → AreGrouped ds g →
    IsNamed (listed g.names) g.groups.items o ds ys first x → InBound o ds ys (λ f. IsTable first (map (λ z. declared z.signal) x.signals.items) x.table f)
table_in o ds ys g first x r n = record {
  at = λ f h. subst (λ es. IsBound o es ys f → AreGrouped es g → IsNamed (listed g.names) g.groups.items o es ys first x →
      IsTable first (map (λ z. declared z.signal) x.signals.items) x.table f) h.declarations (table_of o ys g first x f) h r n;
}
