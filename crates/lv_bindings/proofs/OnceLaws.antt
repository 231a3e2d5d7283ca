-- Names of parameters that are declared once.
use Rattle.std.proofs.Common.{◌≡◌, ◌⊎◌, inl, inr, ℕ, zero, suc, ◌+◌, ◌<◌, ◌≤◌, arith, Bool, true, false, not, ◌&&◌, ◌||◌, ◌==◌, List, [], ◌∷◌, ◌++◌, map, length, take, refl, sym, ap, ◌∙◌, subst, Option, Some, None}
use Rattle.std.specs.Prelude.{bytes_eq, cond, slice_get, if◌then◌else◌, Contains, flat_map}
use Rattle.std.specs.List.{list_any}
use Rattle.std.proofs.lemmas.List.Elements.{Contains-append_left}
use Rattle.std.proofs.lemmas.Option.{slice_get_within}
use Rattle.std.proofs.lemmas.Bool.{eq-eqb, eqb-true}
use Rattle.lv_ast.specs.declared.expr.Expr.{Expr}
use Rattle.lv_ast.specs.declared.stmt.Ident.{Ident}
use Rattle.lv_ast.specs.declared.item.Range.{Range}
use Rattle.lv_ast.specs.declared.item.PortWord.TheVariants as w
use Rattle.lv_ast.specs.Names.{Name}
use Rattle.lv_source.specs.Names.{Names}
use Rattle.lv_source.specs.Declarations.{Thing, Direction, Wire, Reg, Parameter, Index, Instance, Label, Declaration, declared_as}
use Rattle.lv_source.specs.Parts.{numbered_from}
use Rattle.lv_source.specs.Scopes.{Scope, is_parameter, is_among}
use Rattle.lv_source.specs.ScopeRules.{is_nil, is_pair, completes, place_if, declared_again, duplicates, listed_ports, two_defaults, scope_standing}
use Rattle.lv_source.proofs.Tests.{and-left, and-right, not-true, not-false, same_name}
use Rattle.lv_const.proofs.Told.{here}
use Rattle.lv_symbols.specs.Frames.{AreOnce}
use Rattle.lv_bindings.specs.declared.group.Group.{Group}
use Rattle.lv_bindings.specs.Grouping.{Numbered, named, any_of, group_of, group_for, is_parameter_again}
use Rattle.lv_bindings.proofs.Lists.{numbered-get}
use Rattle.lv_bindings.proofs.NamedLaws.{contains_at, plain, HasFirst, has_first, first_or_later, nil_before, second}

-- ---- none is told

-- of the first declarations each that has the name of a parameter is the first of that name
abbrev pub OnceBelow : List Declaration → ℕ → Type 0
OnceBelow ds i = (k : ℕ) (d : Declaration) → k < i → slice_get ds k ≡ Some d → is_parameter_again (group_for ds d.name.name) k ≡ false

not_again : (o : Option Group) (g : Group) (k : ℕ) → is_parameter_again o k ≡ false → o ≡ Some g → g.parameter ≡ true → g.first ≡ k
not_again None g k h e p = absurd (cc)
not_again (Some a) g k h e p =
    (let q : a ≡ g = cc in
    let t : (a.parameter && not (a.first == k)) ≡ false = h in
    let u : a.parameter ≡ true = ap (λ (z : Group). z.parameter) q ∙ p in
    let v : not (a.first == k) ≡ false = sym (ap (λ b. b && not (a.first == k)) u) ∙ t in
    sym (ap (λ (z : Group). z.first) q) ∙ eqb-true a.first k (not-false (a.first == k) v))

pub any_plain : (p : Declaration → Bool) (xs : List Numbered) → list_any p (map (λ x. x.1) xs) ≡ any_of p xs
any_plain p [] = refl
any_plain p (x ∷ xs) = ap (λ b. p x.1 || b) (any_plain p xs)

once_in : (ds : List Declaration) (i : ℕ) → length ds ≤ i → OnceBelow ds i → (name : Name) (zs : List Numbered) → named ds name ≡ zs →
    list_any is_parameter (map (λ x. x.1) zs) ≡ true → length (map (λ x. x.1) zs) ≡ 1
once_in ds i l h name [] e t = absurd (cc)
once_in ds i l h name (x ∷ []) e t = refl
once_in ds i l h name (x ∷ y ∷ ys) e t = absurd (
    let s : (slice_get ds y.0 ≡ Some y.1) × (bytes_eq y.1.name.name name ≡ true) × (x.0 < y.0) = second ds name x y ys e in
    let own : group_for ds y.1.name.name ≡ group_of (x ∷ y ∷ ys) = ap (group_for ds) (same_name y.1.name.name name s.1) ∙ ap group_of e in
    let w : y.0 < length ds = slice_get_within ds y.0 y.1 s.0 in
    let q : x.0 ≡ y.0 = not_again _ _ y.0 (h y.0 y.1 (omega arith) s.0) own (sym (any_plain is_parameter (x ∷ y ∷ ys)) ∙ t) in
    let m : x.0 < y.0 = s.2 in
    omega arith)

pub are_once : (ds : List Declaration) (i : ℕ) → length ds ≤ i → OnceBelow ds i → AreOnce ds
are_once ds i l h name t =
    ap length (sym (plain ds name)) ∙ once_in ds i l h name (named ds name) refl (ap (list_any is_parameter) (plain ds name) ∙ t)

-- ---- one is told

abbrev with_thing : Ident → Thing → Declaration
with_thing n t = record { name = n; thing = t }

parameter_left : (names : Names) (n : Ident) (t u : Thing) → is_parameter (with_thing n t) ≡ true → completes names t u ≡ false
parameter_left names n (Parameter l s r v) u h = refl
parameter_left names n (Direction o w s r) u h = absurd (cc)
parameter_left names n (Wire s r) u h = absurd (cc)
parameter_left names n (Reg s r b) u h = absurd (cc)
parameter_left names n (Index g) u h = absurd (cc)
parameter_left names n Instance u h = absurd (cc)
parameter_left names n Label u h = absurd (cc)

to_parameter : (names : Names) (t : Thing) (l s : Bool) (r : Option Range) (v : Expr) → completes names t (Parameter l s r v) ≡ false
to_parameter names (Direction o w.Absent a b) l s r v = refl
to_parameter names (Direction o w.Wire a b) l s r v = refl
to_parameter names (Direction o w.Reg a b) l s r v = refl
to_parameter names (Wire a b) l s r v = refl
to_parameter names (Reg a b c) l s r v = refl
to_parameter names (Parameter a b c d) l s r v = refl
to_parameter names (Index g) l s r v = refl
to_parameter names Instance l s r v = refl
to_parameter names Label l s r v = refl

parameter_right : (names : Names) (n : Ident) (t u : Thing) → is_parameter (with_thing n u) ≡ true → completes names t u ≡ false
parameter_right names n t (Parameter l s r v) h = to_parameter names t l s r v
parameter_right names n t (Direction o w s r) h = absurd (cc)
parameter_right names n t (Wire s r) h = absurd (cc)
parameter_right names n t (Reg s r b) h = absurd (cc)
parameter_right names n t (Index g) h = absurd (cc)
parameter_right names n t Instance h = absurd (cc)
parameter_right names n t Label h = absurd (cc)

neither : (listed a b : Bool) → a ≡ false → b ≡ false → (listed && (a || b)) ≡ false
neither true a b h k = ap (λ z. z || b) h ∙ k
neither false a b h k = refl

or_last : (a b : Bool) → (a || (b || false)) ≡ true → (a ≡ true) ⊎ (b ≡ true)
or_last true b h = inl refl
or_last false true h = inr refl
or_last false false h = absurd (cc)

no_pair : (names : Names) (listed : Bool) (ds : List Declaration) → list_any is_parameter ds ≡ true → is_pair names listed ds ≡ false
no_pair names listed [] h = refl
no_pair names listed (a ∷ []) h = refl
no_pair names listed (a ∷ b ∷ []) h = elim (or_last (is_parameter a) (is_parameter b) h) [
  | inl e ↦ neither listed (completes names a.thing b.thing) (completes names b.thing a.thing) (parameter_left names a.name a.thing b.thing e)
      (parameter_right names a.name b.thing a.thing e)
  | inr e ↦ neither listed (completes names a.thing b.thing) (completes names b.thing a.thing) (parameter_right names b.name a.thing b.thing e)
      (parameter_left names b.name b.thing a.thing e)
]
no_pair names listed (a ∷ b ∷ c ∷ ds) h = refl

-- a later declaration of a name, which completes none
again_by : (pair nil : Bool) (place : ℕ) → pair ≡ false → nil ≡ false → Contains (if pair then [] else place_if (not nil) place) place
again_by true nil place h k = absurd (cc)
again_by false true place h k = absurd (cc)
again_by false false place h k = here place []

pub again_told : (s : Scope) (k : ℕ) (d : Declaration) → slice_get s.declarations k ≡ Some d →
    is_pair s.names (is_among (listed_ports s.ports) d.name.name) (declared_as d.name.name s.declarations) ≡ false →
    is_nil (declared_as d.name.name (take k s.declarations)) ≡ false →
    Contains (flat_map (declared_again s) (numbered_from 0 s.declarations)) d.name.place
again_told s k d h p n =
    contains_at (declared_again s) (numbered_from 0 s.declarations) k (0 + k, d) d.name.place (numbered-get 0 s.declarations k d h)
    (let e : 0 + k ≡ k = omega arith in
    again_by (is_pair s.names (is_among (listed_ports s.ports) d.name.name) (declared_as d.name.name s.declarations))
    (is_nil (declared_as d.name.name (take (0 + k) s.declarations))) d.name.place p
    (ap (λ z. is_nil (declared_as d.name.name (take z s.declarations))) e ∙ n))

any_parameter : (zs : List Numbered) (g : Group) → group_of zs ≡ Some g → any_of is_parameter zs ≡ g.parameter
any_parameter [] g h = absurd (cc)
any_parameter (x ∷ zs) g h =
    (let f : Option Group → Bool = λ o. elim o [ None ↦ any_of is_parameter (x ∷ zs) | Some a ↦ a.parameter ] in ap f h)

is_again : (o : Option Group) (k : ℕ) → is_parameter_again o k ≡ true → (g : Group) × (o ≡ Some g) × (g.parameter ≡ true) × (g.first ≡ k → ⊥)
is_again None k h = absurd (cc)
is_again (Some g) k h = (
  g,
  refl,
  and-left g.parameter (not (g.first == k)) h,
  λ e. (let a : (g.first == k) ≡ false = not-true (g.first == k) (and-right g.parameter (not (g.first == k)) h) in
      let b : (g.first == k) ≡ true = eq-eqb g.first k e in cc),
)

told_in : (s : Scope) (k : ℕ) (d : Declaration) → slice_get s.declarations k ≡ Some d → is_parameter_again (group_for s.declarations d.name.name) k ≡ true →
    Contains (duplicates s) d.name.place
told_in s k d h t =
    let r = is_again (group_for s.declarations d.name.name) k t in
    let a : list_any is_parameter (declared_as d.name.name s.declarations) ≡ true =
    ap (list_any is_parameter) (sym (plain s.declarations d.name.name)) ∙ any_plain is_parameter (named s.declarations d.name.name) ∙
    any_parameter (named s.declarations d.name.name) r.0 r.1 ∙ r.2 in
    let f : HasFirst s.declarations d.name.name r.0.first = has_first s.declarations d.name.name r.0 r.1 in
    let l : r.0.first < k = elim (first_or_later s.declarations k d r.0 h r.1) [ inl q ↦ absurd (r.3 q) | inr q ↦ q ] in
    Contains-append_left (flat_map (declared_again s) (numbered_from 0 s.declarations)) (flat_map two_defaults (scope_standing s)) d.name.place
    (again_told s k d h (no_pair s.names (is_among (listed_ports s.ports) d.name.name) (declared_as d.name.name s.declarations) a)
    (nil_before s.declarations d.name.name r.0.first k f.declaration f.is f.name_is l))

pub once_told : (s : Scope) (ds : List Declaration) (k : ℕ) (d : Declaration) → s.declarations ≡ ds → slice_get ds k ≡ Some d →
    is_parameter_again (group_for ds d.name.name) k ≡ true → Contains (duplicates s) d.name.place
once_told s ds k d e =
    subst (λ zs. slice_get zs k ≡ Some d → is_parameter_again (group_for zs d.name.name) k ≡ true → Contains (duplicates s) d.name.place) e (told_in s k d)
