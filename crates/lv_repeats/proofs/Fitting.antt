-- What the groups and symbols say of a name is what its declarations say.
use Rattle.std.proofs.Common.{◌≡◌, ◌⊎◌, inl, inr, ℕ, ◌<◌, arith, Bool, true, false, not, ◌&&◌, ◌||◌, ◌==◌, List, [], ◌∷◌, ◌++◌, map, length, take, refl, sym, ap, ◌∙◌, subst, Option, Some, None}
use Rattle.std.specs.Prelude.{slice_get, if◌then◌else◌, Contains, flat_map}
use Rattle.std.specs.Option.{option_map}
use Rattle.std.proofs.lemmas.Bool.{eq-eqb}
use Rattle.std.proofs.lemmas.Option.{slice_get-map}
use Rattle.lv_ast.specs.declared.stmt.Ident.{Ident}
use Rattle.lv_ast.specs.declared.item.Range.{Range}
use Rattle.lv_ast.specs.declared.item.PortWord.TheVariants as w
use Rattle.lv_ast.specs.Names.{Name}
use Rattle.lv_source.specs.Names.{Names}
use Rattle.lv_source.specs.Declarations.{Thing, Direction, Wire, Reg, Parameter, Index, Instance, Label, Declaration, declared_as}
use Rattle.lv_source.specs.Parts.{numbered_from}
use Rattle.lv_source.specs.Scopes.{Scope, is_among, is_ranged, range_bounds}
use Rattle.lv_source.specs.ScopeRules.{same_sign, same_range, completes, is_pair, is_nil, place_if, declared_again, listed_ports, other_range, two_ranges}
use Rattle.lv_source.proofs.Bridges.{two}
use Rattle.lv_source.proofs.Facts.{some_same}
use Rattle.lv_source.proofs.Kids.{named_any, in_index}
use Rattle.lv_source.proofs.Refused.{In}
use Rattle.lv_source.proofs.Tests.{and-right, or-split, same_name, name-itself}
use Rattle.lv_const.proofs.Told.{here}
use Rattle.lv_symbols.specs.declared.symbol.Symbol.{Symbol}
use Rattle.lv_symbols.specs.Making.{symbol_of}
use Rattle.lv_bindings.specs.Grouping.{Numbered, named, group_of, group_for}
use Rattle.lv_repeats.specs.Pairs.{one_range, completes_by, completes_of, completes_at, is_pair_at, again_by}
use Rattle.lv_repeats.proofs.Numbered.{plain, first_at, IsSecond, second_at, fewer, told_at}

abbrev pub thing : Ident → Thing → Declaration
thing n t = record { name = n; thing = t }

-- ---- two declarations, by their symbols

range_same : (names : Names) (r q : Option Range) →
    (same_sign (is_ranged r) (is_ranged q) && ((range_bounds names r).left == (range_bounds names q).left) && ((range_bounds names r).right == (range_bounds names q).right)) ≡
    same_range names r q
range_same names None None = refl
range_same names None (Some q) = refl
range_same names (Some r) None = refl
range_same names (Some r) (Some q) = refl

by_symbols : (names : Names) (n m : Ident) (t u : Thing) →
    completes_by (one_range (Some (symbol_of names (thing n t))) (Some (symbol_of names (thing m u)))) t u ≡ completes names t u
by_symbols names n m (Direction o w.Absent s r) (Wire v q) = ap (λ b. same_sign s v && b) (range_same names r q)
by_symbols names n m (Direction o w.Absent s r) (Reg v q None) = ap (λ b. o && same_sign s v && b) (range_same names r q)
by_symbols names n m (Direction o w.Absent s r) (Reg v q (Some a)) = refl
by_symbols names n m (Direction o w.Absent s r) (Direction p x v q) = refl
by_symbols names n m (Direction o w.Absent s r) (Parameter l v q x) = refl
by_symbols names n m (Direction o w.Absent s r) (Index g) = refl
by_symbols names n m (Direction o w.Absent s r) Instance = refl
by_symbols names n m (Direction o w.Absent s r) Label = refl
by_symbols names n m (Direction o w.Wire s r) u = refl
by_symbols names n m (Direction o w.Reg s r) u = refl
by_symbols names n m (Wire s r) u = refl
by_symbols names n m (Reg s r a) u = refl
by_symbols names n m (Parameter l s r v) u = refl
by_symbols names n m (Index g) u = refl
by_symbols names n m Instance u = refl
by_symbols names n m Label u = refl

symbol_at : (names : Names) (ds : List Declaration) (ys : List Symbol) (i : ℕ) (a : Declaration) → ys ≡ map (symbol_of names) ds →
    slice_get ds i ≡ Some a → slice_get ys i ≡ Some (symbol_of names a)
symbol_at names ds ys i a e h = ap (λ zs. slice_get zs i) e ∙ slice_get-map (symbol_of names) ds i ∙ ap (option_map (symbol_of names)) h

module _ (names : Names) (ds : List Declaration) (ys : List Symbol) (e : ys ≡ map (symbol_of names) ds) where
  completes_same : (i j : ℕ) (a b : Declaration) → slice_get ds i ≡ Some a → slice_get ds j ≡ Some b → completes_at ds ys i j ≡ completes names a.thing b.thing
  completes_same i j a b h k =
      two (λ (u v : Option Symbol). completes_of (one_range u v) (slice_get ds i) (slice_get ds j)) _ _ _ _
      (symbol_at names ds ys i a e h) (symbol_at names ds ys j b e k) ∙
      two (λ (u v : Option Declaration). completes_of (one_range (Some (symbol_of names a)) (Some (symbol_of names b))) u v) _ _ _ _ h k ∙
      by_symbols names a.name b.name a.thing b.thing

  pair_same : (listed : Bool) (x y : Numbered) (zs : List Numbered) → slice_get ds x.0 ≡ Some x.1 → slice_get ds y.0 ≡ Some y.1 →
      is_pair_at listed ds ys x.0 y.0 (not (is_nil zs)) ≡ is_pair names listed (map (λ z. z.1) (x ∷ y ∷ zs))
  pair_same listed x y [] h k =
      two (λ (u v : Bool). listed && (u || v)) _ _ _ _ (completes_same x.0 y.0 x.1 y.1 h k) (completes_same y.0 x.0 y.1 x.1 k h)
  pair_same listed x y (z ∷ zs) h k = refl

  -- with a second declaration
  again_is : (ns : List Name) (name : Name) (x y : Numbered) (zs : List Numbered) → named ds name ≡ x ∷ y ∷ zs →
      again_by ns ds ys name (group_for ds name) ≡
      (if is_pair names (is_among ns name) (map (λ z. z.1) (x ∷ y ∷ zs)) then None else Some y.1.name.place)
  again_is ns name x y zs h =
      let q : slice_get ds y.0 ≡ Some y.1 = (second_at ds name x y zs h).is in
      ap (λ us. again_by ns ds ys name (group_of us)) h ∙
      two (λ (b : Bool) (o : Option ℕ). if b then None else o) _ _ _ _ (pair_same (is_among ns name) x y zs (first_at ds name x (y ∷ zs) h) q)
      (ap (option_map (λ d. d.name.place)) q)

-- ---- none is told

-- one declaration, or two that are a pair
abbrev pub Fits : Names → Bool → List Declaration → Type 0
Fits names listed [] = Unit {0}
Fits names listed (a ∷ []) = Unit {0}
Fits names listed (a ∷ b ∷ cs) = is_pair names listed (a ∷ b ∷ cs) ≡ true

untold : (b : Bool) (p : ℕ) → (if b then None else Some p) ≡ None → b ≡ true
untold true p h = refl
untold false p h = absurd (cc)

told : (b : Bool) (p q : ℕ) → (if b then None else Some p) ≡ Some q → (b ≡ false) × (p ≡ q)
told true p q h = absurd (cc)
told false p q h = (refl, some_same p q h)

module _ (names : Names) (ds : List Declaration) (ys : List Symbol) (e : ys ≡ map (symbol_of names) ds) (ns : List Name) (name : Name) where
  fits_by : (zs : List Numbered) → named ds name ≡ zs → again_by ns ds ys name (group_for ds name) ≡ None → Fits names (is_among ns name) (map (λ z. z.1) zs)
  fits_by [] h k = tt
  fits_by (x ∷ []) h k = tt
  fits_by (x ∷ y ∷ zs) h k =
      untold (is_pair names (is_among ns name) (map (λ z. z.1) (x ∷ y ∷ zs))) y.1.name.place (sym (again_is names ds ys e ns name x y zs h) ∙ k)

  pub fits : again_by ns ds ys name (group_for ds name) ≡ None → Fits names (is_among ns name) (declared_as name ds)
  fits k = subst (Fits names (is_among ns name)) (plain ds name) (fits_by (named ds name) refl k)

-- ---- so nothing is said of it

nil_of : {A : Type 0} (xs : List A) → length xs < 1 → is_nil xs ≡ true
nil_of [] h = refl
nil_of (x ∷ xs) h = absurd (omega arith)

unsaid : (b nil : Bool) (p : ℕ) → (b ≡ true) ⊎ (nil ≡ true) → (if b then [] else place_if (not nil) p) ≡ []
unsaid true nil p h = refl
unsaid false true p h = refl
unsaid false false p (inl h) = absurd (cc)
unsaid false false p (inr h) = absurd (cc)

alone_or_pair : (names : Names) (listed : Bool) (all before : List Declaration) → Fits names listed all → length before < length all →
    (is_pair names listed all ≡ true) ⊎ (is_nil before ≡ true)
alone_or_pair names listed [] before h l = absurd (let m : length before < 0 = l in omega arith)
alone_or_pair names listed (a ∷ []) before h l = inr (nil_of before l)
alone_or_pair names listed (a ∷ b ∷ cs) before h l = inl h

pub not_again : (s : Scope) (x : Numbered) → slice_get s.declarations x.0 ≡ Some x.1 →
    Fits s.names (is_among (listed_ports s.ports) x.1.name.name) (declared_as x.1.name.name s.declarations) → declared_again s x ≡ []
not_again s x h f =
    let name : Name = x.1.name.name in
    let all : List Declaration = declared_as name s.declarations in
    let before : List Declaration = declared_as name (take x.0 s.declarations) in
    let listed : Bool = is_among (listed_ports s.ports) name in
    unsaid (is_pair s.names listed all) (is_nil before) x.1.name.place
    (alone_or_pair s.names listed all before f (fewer s.declarations name x.0 x.1 h (name-itself name)))

-- ---- two ranges

abbrev two_in : Names → List Declaration → Declaration → List ℕ
two_in names zs d = elim d.thing [
  | Wire sign r ↦ flat_map (other_range names r d) zs
  | Reg sign r a ↦ flat_map (other_range names r d) zs
  | Direction o word sign r ↦ flat_map (other_range names r d) zs
  | Parameter l sign r x ↦ []
  | Index g ↦ []
  | Instance ↦ []
  | Label ↦ []
]

range_itself : (names : Names) (r : Option Range) → same_range names r r ≡ true
range_itself names None = refl
range_itself names (Some r) =
    two (λ (a b : Bool). a && b) _ _ _ _ (eq-eqb (range_bounds names (Some r)).left (range_bounds names (Some r)).left refl)
    (eq-eqb (range_bounds names (Some r)).right (range_bounds names (Some r)).right refl)

if_same : (b : Bool) (xs : List ℕ) → b ≡ true → (if b then [] else xs) ≡ []
if_same true xs h = refl
if_same false xs h = absurd (cc)

one_alone : (names : Names) (n : Ident) (t : Thing) → two_in names (thing n t ∷ []) (thing n t) ≡ []
one_alone names n (Direction o x s r) = ap (λ zs. zs ++ []) (if_same (same_range names r r) (n.place ∷ n.place ∷ []) (range_itself names r))
one_alone names n (Wire s r) = refl
one_alone names n (Reg s r a) = refl
one_alone names n (Parameter l s r v) = refl
one_alone names n (Index g) = refl
one_alone names n Instance = refl
one_alone names n Label = refl

-- a pair in either order
abbrev NoRanges : Names → Declaration → Declaration → Type 0
NoRanges names a b = (two_in names (a ∷ b ∷ []) a ≡ []) × (two_in names (a ∷ b ∷ []) b ≡ []) × (two_in names (b ∷ a ∷ []) a ≡ []) × (two_in names (b ∷ a ∷ []) b ≡ [])

module _ (names : Names) (n m : Ident) (r q : Option Range) (e : same_range names r q ≡ true) where
  own : (if same_range names r r then [] else n.place ∷ n.place ∷ []) ++ [] ≡ []
  own = ap (λ zs. zs ++ []) (if_same (same_range names r r) (n.place ∷ n.place ∷ []) (range_itself names r))

  other : (if same_range names r q then [] else m.place ∷ n.place ∷ []) ++ [] ≡ []
  other = ap (λ zs. zs ++ []) (if_same (same_range names r q) (m.place ∷ n.place ∷ []) e)

pair_ranges : (names : Names) (n m : Ident) (t u : Thing) → completes names t u ≡ true → NoRanges names (thing n t) (thing m u)
pair_ranges names n m (Direction o w.Absent s r) (Wire v q) h =
    let e : same_range names r q ≡ true = and-right (same_sign s v) (same_range names r q) h in
    (own names n m r q e, other names n m r q e, own names n m r q e, other names n m r q e)
pair_ranges names n m (Direction o w.Absent s r) (Reg v q None) h =
    let e : same_range names r q ≡ true = and-right (o && same_sign s v) (same_range names r q) h in
    (own names n m r q e, other names n m r q e, own names n m r q e, other names n m r q e)
pair_ranges names n m (Direction o w.Absent s r) (Reg v q (Some a)) h = absurd (cc)
pair_ranges names n m (Direction o w.Absent s r) (Direction p x v q) h = absurd (cc)
pair_ranges names n m (Direction o w.Absent s r) (Parameter l v q x) h = absurd (cc)
pair_ranges names n m (Direction o w.Absent s r) (Index g) h = absurd (cc)
pair_ranges names n m (Direction o w.Absent s r) Instance h = absurd (cc)
pair_ranges names n m (Direction o w.Absent s r) Label h = absurd (cc)
pair_ranges names n m (Direction o w.Wire s r) u h = absurd (cc)
pair_ranges names n m (Direction o w.Reg s r) u h = absurd (cc)
pair_ranges names n m (Wire s r) u h = absurd (cc)
pair_ranges names n m (Reg s r a) u h = absurd (cc)
pair_ranges names n m (Parameter l s r v) u h = absurd (cc)
pair_ranges names n m (Index g) u h = absurd (cc)
pair_ranges names n m Instance u h = absurd (cc)
pair_ranges names n m Label u h = absurd (cc)

no_ranges : (names : Names) (listed : Bool) (zs : List Declaration) (d : Declaration) → Fits names listed zs → In d zs → two_in names zs d ≡ []
no_ranges names listed [] d f h = absurd h
no_ranges names listed (a ∷ []) d f (inl e) = subst (λ (z : Declaration). two_in names (a ∷ []) z ≡ []) e (one_alone names a.name a.thing)
no_ranges names listed (a ∷ []) d f (inr h) = absurd h
no_ranges names listed (a ∷ b ∷ []) d f (inl e) =
    subst (λ (z : Declaration). two_in names (a ∷ b ∷ []) z ≡ []) e (elim (or-split (completes names a.thing b.thing) (completes names b.thing a.thing)
    (and-right listed (completes names a.thing b.thing || completes names b.thing a.thing) f)) [
      | inl k ↦ (pair_ranges names a.name b.name a.thing b.thing k).0
      | inr k ↦ (pair_ranges names b.name a.name b.thing a.thing k).3
    ])
no_ranges names listed (a ∷ b ∷ []) d f (inr (inl e)) =
    subst (λ (z : Declaration). two_in names (a ∷ b ∷ []) z ≡ []) e (elim (or-split (completes names a.thing b.thing) (completes names b.thing a.thing)
    (and-right listed (completes names a.thing b.thing || completes names b.thing a.thing) f)) [
      | inl k ↦ (pair_ranges names a.name b.name a.thing b.thing k).1
      | inr k ↦ (pair_ranges names b.name a.name b.thing a.thing k).2
    ])
no_ranges names listed (a ∷ b ∷ []) d f (inr (inr h)) = absurd h
no_ranges names listed (a ∷ b ∷ c ∷ cs) d f h = absurd (cc)

pub one_range_each : (s : Scope) (x : Numbered) → slice_get s.declarations x.0 ≡ Some x.1 →
    Fits s.names (is_among (listed_ports s.ports) x.1.name.name) (declared_as x.1.name.name s.declarations) → two_ranges s x.1 ≡ []
one_range_each s x h f =
    no_ranges s.names (is_among (listed_ports s.ports) x.1.name.name) (declared_as x.1.name.name s.declarations) x.1 f
    (named_any x.1.name.name s.declarations x.1 (in_index x.1 s.declarations x.0 h) refl)

-- ---- one is told

said : (b nil : Bool) (p : ℕ) → b ≡ false → nil ≡ false → Contains (if b then [] else place_if (not nil) p) p
said true nil p h k = absurd (cc)
said false true p h k = absurd (cc)
said false false p h k = here p []

none_some : (p : ℕ) → None ≡ Some p → ⊥
none_some p h = cc

module _ (s : Scope) (ys : List Symbol) (e : ys ≡ map (symbol_of s.names) s.declarations) (ns : List Name) (name : Name)
    (l : is_among ns name ≡ is_among (listed_ports s.ports) name) where
  abbrev ds : List Declaration
  ds = s.declarations

  second_told : (x y : Numbered) (zs : List Numbered) (p : ℕ) → named ds name ≡ x ∷ y ∷ zs → again_by ns ds ys name (group_for ds name) ≡ Some p →
      Contains (flat_map (declared_again s) (numbered_from 0 ds)) p
  second_told x y zs p h k =
      let t = told (is_pair s.names (is_among ns name) (map (λ z. z.1) (x ∷ y ∷ zs))) y.1.name.place p (sym (again_is s.names ds ys e ns name x y zs h) ∙ k) in
      let q : IsSecond ds name y = second_at ds name x y zs h in
      let n : y.1.name.name ≡ name = same_name y.1.name.name name q.name_is in
      let pair : is_pair s.names (is_among (listed_ports s.ports) y.1.name.name) (declared_as y.1.name.name ds) ≡ false =
      ap (λ m. is_pair s.names (is_among (listed_ports s.ports) m) (declared_as m ds)) n ∙
      two (λ (b : Bool) (us : List Declaration). is_pair s.names b us) _ _ _ _ (sym l) (sym (plain ds name) ∙ ap (map (λ z. z.1)) h) ∙ t.0 in
      let before : is_nil (declared_as y.1.name.name (take y.0 ds)) ≡ false = ap (λ m. is_nil (declared_as m (take y.0 ds))) n ∙ q.before in
      subst (Contains (flat_map (declared_again s) (numbered_from 0 ds))) t.1
      (told_at (declared_again s) ds y.0 y.1 y.1.name.place q.is
      (said (is_pair s.names (is_among (listed_ports s.ports) y.1.name.name) (declared_as y.1.name.name ds))
      (is_nil (declared_as y.1.name.name (take y.0 ds))) y.1.name.place pair before))

  told_by : (zs : List Numbered) (p : ℕ) → named ds name ≡ zs → again_by ns ds ys name (group_for ds name) ≡ Some p →
      Contains (flat_map (declared_again s) (numbered_from 0 ds)) p
  told_by [] p h k = absurd (none_some p (sym (ap (λ us. again_by ns ds ys name (group_of us)) h) ∙ k))
  told_by (x ∷ []) p h k = absurd (none_some p (sym (ap (λ us. again_by ns ds ys name (group_of us)) h) ∙ k))
  told_by (x ∷ y ∷ zs) p h k = second_told x y zs p h k

  pub is_told : (p : ℕ) → again_by ns ds ys name (group_for ds name) ≡ Some p → Contains (flat_map (declared_again s) (numbered_from 0 ds)) p
  is_told p k = told_by (named ds name) p refl k
