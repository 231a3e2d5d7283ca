-- The ports of a module whose declarations are sound as a whole.
use Rattle.std.proofs.Common.{◌≡◌, inl, inr, ℕ, zero, suc, ◌+◌, arith, Bool, true, false, not, ◌&&◌, ◌||◌, List, [], ◌∷◌, ◌++◌, map, take, refl, sym, ap, ◌∙◌, subst, Option, Some, None}
use Rattle.std.specs.Prelude.{bytes_eq, cond, slice_get, if◌then◌else◌, Contains, flat_map}
use Rattle.std.specs.List.{list_any}
use Rattle.std.proofs.lemmas.List.Elements.{filter-append}
use Rattle.std.proofs.lemmas.List.Folds.{list_any-append}
use Rattle.lv_ast.specs.declared.expr.Path.{Path}
use Rattle.lv_ast.specs.declared.stmt.Ident.{Ident}
use Rattle.lv_ast.specs.declared.item.Aport.{Aport}
use Rattle.lv_ast.specs.declared.item.Module.{Module}
use Rattle.lv_ast.specs.declared.item.Ports.{Ports}
use Rattle.lv_ast.specs.declared.item.Ports.TheVariants as p
use Rattle.lv_ast.specs.declared.item.PortWord.TheVariants as w
use Rattle.lv_ast.specs.Names.{Name, alone}
use Rattle.lv_source.specs.Names.{Names, Declared, Input, Net, Variable, Clock}
use Rattle.lv_source.specs.Declarations.{Thing, Direction, Wire, Reg, Parameter, Index, Instance, Label, Declaration, declare, declared_as, of_port, of_ports, of_params, of_items, of_module, module_items, port_names}
use Rattle.lv_source.specs.Parts.{numbered_from, is_declared_sort}
use Rattle.lv_source.specs.Scopes.{Scope, is_among, is_direction, is_input, is_reg, stands_for, sort_of, signal}
use Rattle.lv_source.specs.ScopeRules.{completes, is_pair, is_nil, place_if, declared_again, listed_ports, port_directions}
use Rattle.lv_source.proofs.Bridges.{two}
use Rattle.lv_source.proofs.Facts.{some_same}
use Rattle.lv_source.proofs.Refused.{In, in_contains, contains_in, in-split}
use Rattle.lv_source.proofs.Tests.{and-right, or-left, or-right, or-split, same_name, name-itself}
use Rattle.lv_const.proofs.Told.{first-empty, second-empty}
use Rattle.lv_symbols.specs.Frames.{Frame, IsScope, constants_in}
use Rattle.lv_bindings.specs.Grouping.{Numbered, named}
use Rattle.lv_repeats.specs.Directions.{undirected_in, directions_of}
use Rattle.lv_repeats.specs.Whole.{IsWhole}
use Rattle.lv_repeats.proofs.Numbered.{plain, IsSecond, second_at}
use Rattle.lv_repeats.proofs.Fitting.{thing, Fits}

-- ---- one declaration, or two that are a pair

in_numbered : (i : ℕ) (ds : List Declaration) (k : ℕ) (d : Declaration) → slice_get ds k ≡ Some d → In (i + k, d) (numbered_from i ds)
in_numbered i [] k d h = absurd (cc)
in_numbered i (x ∷ ds) zero d h = inl (let n : i ≡ i + 0 = omega arith in two (λ (a : ℕ) (b : Declaration). (a, b)) _ _ _ _ n (some_same x d h))
in_numbered i (x ∷ ds) (suc k) d h =
    let n : suc i + k ≡ i + suc k = omega arith in
    inr (subst (λ j. In (j, d) (numbered_from (suc i) ds)) n (in_numbered (suc i) ds k d h))

pub numbered_has : (ds : List Declaration) (k : ℕ) (d : Declaration) → slice_get ds k ≡ Some d → Contains (numbered_from 0 ds) (k, d)
numbered_has ds k d h =
    let n : 0 + k ≡ k = omega arith in
    in_contains (k, d) (numbered_from 0 ds) (subst (λ j. In (j, d) (numbered_from 0 ds)) n (in_numbered 0 ds k d h))

paired : (b nil : Bool) (p : ℕ) → nil ≡ false → (if b then [] else place_if (not nil) p) ≡ [] → b ≡ true
paired true nil p n h = refl
paired false true p n h = absurd (cc)
paired false false p n h = absurd (cc)

module _ (s : Scope) (once : (x : Numbered) → Contains (numbered_from 0 s.declarations) x → declared_again s x ≡ []) (name : Name) where
  abbrev ds : List Declaration
  ds = s.declarations

  fits_from : (zs : List Numbered) → named ds name ≡ zs → Fits s.names (is_among (listed_ports s.ports) name) (map (λ z. z.1) zs)
  fits_from [] h = tt
  fits_from (x ∷ []) h = tt
  fits_from (x ∷ y ∷ zs) h =
      let q : IsSecond ds name y = second_at ds name x y zs h in
      let n : y.1.name.name ≡ name = same_name y.1.name.name name q.name_is in
      let before : is_nil (declared_as y.1.name.name (take y.0 ds)) ≡ false = ap (λ m. is_nil (declared_as m (take y.0 ds))) n ∙ q.before in
      let pair : is_pair s.names (is_among (listed_ports s.ports) y.1.name.name) (declared_as y.1.name.name ds) ≡ true =
      paired (is_pair s.names (is_among (listed_ports s.ports) y.1.name.name) (declared_as y.1.name.name ds))
      (is_nil (declared_as y.1.name.name (take y.0 ds))) y.1.name.place before (once (y.0, y.1) (numbered_has ds y.0 y.1 q.is)) in
      ap (λ us. is_pair s.names (is_among (listed_ports s.ports) name) us) (sym (ap (map (λ z. z.1)) h) ∙ plain ds name) ∙
      sym (ap (λ m. is_pair s.names (is_among (listed_ports s.ports) m) (declared_as m ds)) n) ∙ pair

  pub fits_once : Fits s.names (is_among (listed_ports s.ports) name) (declared_as name ds)
  fits_once = subst (Fits s.names (is_among (listed_ports s.ports) name)) (plain ds name) (fits_from (named ds name) refl)

-- ---- the first of them makes a signal

-- a direction, a net, or a variable that is no array
abbrev is_plain : Thing → Bool
is_plain (Direction o x s r) = true
is_plain (Wire s r) = true
is_plain (Reg s r None) = true
is_plain (Reg s r (Some a)) = false
is_plain (Parameter l s r v) = false
is_plain (Index g) = false
is_plain Instance = false
is_plain Label = false

direction_plain : (n : Ident) (t : Thing) → is_direction (thing n t) ≡ true → is_plain t ≡ true
direction_plain n (Direction o x s r) h = refl
direction_plain n (Wire s r) h = absurd (cc)
direction_plain n (Reg s r a) h = absurd (cc)
direction_plain n (Parameter l s r v) h = absurd (cc)
direction_plain n (Index g) h = absurd (cc)
direction_plain n Instance h = absurd (cc)
direction_plain n Label h = absurd (cc)

pair_plain : (names : Names) (t u : Thing) → completes names t u ≡ true → (is_plain t ≡ true) × (is_plain u ≡ true)
pair_plain names (Direction o w.Absent s r) (Wire v q) h = (refl, refl)
pair_plain names (Direction o w.Absent s r) (Reg v q None) h = (refl, refl)
pair_plain names (Direction o w.Absent s r) (Reg v q (Some a)) h = absurd (cc)
pair_plain names (Direction o w.Absent s r) (Direction p x v q) h = absurd (cc)
pair_plain names (Direction o w.Absent s r) (Parameter l v q x) h = absurd (cc)
pair_plain names (Direction o w.Absent s r) (Index g) h = absurd (cc)
pair_plain names (Direction o w.Absent s r) Instance h = absurd (cc)
pair_plain names (Direction o w.Absent s r) Label h = absurd (cc)
pair_plain names (Direction o w.Wire s r) u h = absurd (cc)
pair_plain names (Direction o w.Reg s r) u h = absurd (cc)
pair_plain names (Wire s r) u h = absurd (cc)
pair_plain names (Reg s r a) u h = absurd (cc)
pair_plain names (Parameter l s r v) u h = absurd (cc)
pair_plain names (Index g) u h = absurd (cc)
pair_plain names Instance u h = absurd (cc)
pair_plain names Label u h = absurd (cc)

record BeginsPlain (zs : List Declaration) : Type 0 where
  first : Declaration
  others : List Declaration
  all : zs ≡ first ∷ others
  plain_is : is_plain first.thing ≡ true

or_nothing : (a : Bool) → (a || false) ≡ true → a ≡ true
or_nothing true h = refl
or_nothing false h = h

begins_plain : (names : Names) (listed : Bool) (zs : List Declaration) → Fits names listed zs → list_any is_direction zs ≡ true → BeginsPlain zs
begins_plain names listed [] f h = absurd (cc)
begins_plain names listed (a ∷ []) f h =
    record { first = a; others = []; all = refl; plain_is = direction_plain a.name a.thing (or_nothing (is_direction a) h) }
begins_plain names listed (a ∷ b ∷ []) f h = record {
  first = a;
  others = b ∷ [];
  all = refl;
  plain_is = elim (or-split (completes names a.thing b.thing) (completes names b.thing a.thing)
      (and-right listed (completes names a.thing b.thing || completes names b.thing a.thing) f)) [
        | inl k ↦ (pair_plain names a.thing b.thing k).0
        | inr k ↦ (pair_plain names b.thing a.thing k).1
      ];
}
begins_plain names listed (a ∷ b ∷ c ∷ cs) f h = absurd (cc)

abbrev pub StandsAs : Option Declared → Type 0
StandsAs o = (d : Declared) × (o ≡ Some d) × (is_declared_sort d.sort ≡ true) × (d.array ≡ None)

sort_by : (a b c : Bool) → is_declared_sort (if a then Clock else if b then Variable else if c then Input else Net) ≡ true
sort_by true b c = refl
sort_by false true c = refl
sort_by false false true = refl
sort_by false false false = refl

module _ (names : Names) (path : Name) (top clock : Bool) (p : Path) where
  sort_is : (ds : List Declaration) → is_declared_sort (sort_of top clock ds) ≡ true
  sort_is ds = sort_by clock (list_any is_reg ds) (top && list_any is_input ds)

  stands : (n : Ident) (t : Thing) (ds : List Declaration) → is_plain t ≡ true → StandsAs (stands_for names path top clock p (thing n t ∷ ds))
  stands n (Direction o x s r) ds h =
      (signal names path n.name (sort_of top clock (thing n (Direction o x s r) ∷ ds)) s r None, refl, sort_is (thing n (Direction o x s r) ∷ ds), refl)
  stands n (Wire s r) ds h = (signal names path n.name (sort_of top clock (thing n (Wire s r) ∷ ds)) s r None, refl, sort_is (thing n (Wire s r) ∷ ds), refl)
  stands n (Reg s r None) ds h =
      (signal names path n.name (sort_of top clock (thing n (Reg s r None) ∷ ds)) s r None, refl, sort_is (thing n (Reg s r None) ∷ ds), refl)
  stands n (Reg s r (Some a)) ds h = absurd (cc)
  stands n (Parameter l s r v) ds h = absurd (cc)
  stands n (Index g) ds h = absurd (cc)
  stands n Instance ds h = absurd (cc)
  stands n Label ds h = absurd (cc)

  stands_all : (zs : List Declaration) → BeginsPlain zs → StandsAs (stands_for names path top clock p zs)
  stands_all zs h =
      subst (λ us. StandsAs (stands_for names path top clock p us)) (sym h.all) (stands h.first.name h.first.thing h.others h.plain_is)

-- ---- each port has a direction

abbrev has_direction : Name → List Declaration → Bool
has_direction name ds = list_any is_direction (declared_as name ds)

joined : (name : Name) (xs ys : List Declaration) → has_direction name (xs ++ ys) ≡ (has_direction name xs || has_direction name ys)
joined name xs ys =
    ap (list_any is_direction) (filter-append (λ x. bytes_eq x.name.name name) xs ys) ∙ list_any-append is_direction (declared_as name xs) (declared_as name ys)

in_front : (name : Name) (xs ys : List Declaration) → has_direction name xs ≡ true → has_direction name (xs ++ ys) ≡ true
in_front name xs ys h = joined name xs ys ∙ or-left (has_direction name xs) (has_direction name ys) h

behind : (name : Name) (xs ys : List Declaration) → has_direction name ys ≡ true → has_direction name (xs ++ ys) ≡ true
behind name xs ys h = joined name xs ys ∙ or-right (has_direction name xs) (has_direction name ys) h

kept_true : (d : Declaration) (xs : List Declaration) (b : Bool) → b ≡ true → is_direction d ≡ true → list_any is_direction (cond b (d ∷ xs) xs) ≡ true
kept_true d xs true h k = ap (λ z. z || list_any is_direction xs) k
kept_true d xs false h k = absurd (cc)

kept_rest : (d : Declaration) (xs : List Declaration) (b : Bool) → list_any is_direction xs ≡ true → list_any is_direction (cond b (d ∷ xs) xs) ≡ true
kept_rest d xs true h = or-right (is_direction d) (list_any is_direction xs) h
kept_rest d xs false h = h

module _ (t : Thing) (direction : (n : Ident) → is_direction (declare t n) ≡ true) (q : Ident) where
  of_names : (ns : List Ident) → In q ns → has_direction q.name (map (declare t) ns) ≡ true
  of_names [] h = absurd h
  of_names (n ∷ ns) (inl e) =
      kept_true (declare t n) (declared_as q.name (map (declare t) ns)) (bytes_eq n.name q.name)
      (ap (λ (z : Ident). bytes_eq z.name q.name) e ∙ name-itself q.name) (direction n)
  of_names (n ∷ ns) (inr h) = kept_rest (declare t n) (declared_as q.name (map (declare t) ns)) (bytes_eq n.name q.name) (of_names ns h)

of_declared : (q : Ident) (ports : List Aport) → In q (flat_map (λ a. a.names) ports) → has_direction q.name (flat_map of_port ports) ≡ true
of_declared q [] h = absurd h
of_declared q (a ∷ ports) h = elim (in-split q a.names (flat_map (λ a. a.names) ports) h) [
  | inl i ↦ in_front q.name (of_port a) (flat_map of_port ports) (of_names (Direction a.output a.word a.signed a.range) (λ n. refl) q a.names i)
  | inr i ↦ behind q.name (of_port a) (flat_map of_port ports) (of_declared q ports i)
]

none_in : {A B : Type 0} (f : A → List B) (xs : List A) (x : A) → flat_map f xs ≡ [] → In x xs → f x ≡ []
none_in f [] x h i = absurd i
none_in f (y ∷ ys) x h (inl e) = subst (λ z. f z ≡ []) e (first-empty (f y) (flat_map f ys) h)
none_in f (y ∷ ys) x h (inr i) = none_in f ys x (second-empty (f y) (flat_map f ys) h) i

not_told : (b : Bool) (p : ℕ) → place_if (not b) p ≡ [] → b ≡ true
not_told true p h = refl
not_told false p h = absurd (cc)

directed : (ports : Ports) (ds : List Declaration) (q : Ident) → directions_of ports ds ≡ [] →
    (has_direction q.name (of_ports ports) ≡ true → has_direction q.name ds ≡ true) → In q (port_names ports) → has_direction q.name ds ≡ true
directed (p.Names names) ds q h up i =
    not_told (has_direction q.name ds) q.place (none_in (undirected_in ds) names q (first-empty (flat_map (undirected_in ds) names) _ h) i)
directed (p.Declared ports) ds q h up i = up (of_declared q ports i)
directed p.Absent ds q h up i = absurd i
directed p.Empty ds q h up i = absurd i

in_module : (m : Module) (q : Ident) → has_direction q.name (of_ports m.ports) ≡ true → has_direction q.name (of_module m) ≡ true
in_module m q h =
    in_front q.name (flat_map (of_params false) m.params ++ of_ports m.ports) (of_items (module_items m))
    (behind q.name (flat_map (of_params false) m.params) (of_ports m.ports) h)

-- ---- so it stands for a signal

pub directions_same : (s : Scope) → port_directions s ≡ directions_of s.ports s.declarations
directions_same s = refl

pub port_stands : (f : Frame) (m : Module) (q : Ident) → IsScope f → IsWhole f.scope → f.scope.ports ≡ m.ports → f.scope.declarations ≡ of_module m →
    Contains (port_names m.ports) q → StandsAs (f.scope.names (alone q.name))
port_stands f m q h whole ports declarations has =
    let ds : List Declaration = f.scope.declarations in
    let none : directions_of m.ports ds ≡ [] = ap (λ z. directions_of z ds) (sym ports) ∙ sym (directions_same f.scope) ∙ whole.directions in
    let direction : has_direction q.name ds ≡ true =
    directed m.ports ds q none (λ k. ap (has_direction q.name) declarations ∙ in_module m q k) (contains_in q (port_names m.ports) has) in
    subst (λ (n : Names). StandsAs (n (alone q.name))) (sym h.names)
    (stands_all (constants_in f) f.scope.path h.top (is_among h.clocks q.name) (alone q.name) (declared_as q.name ds)
    (begins_plain f.scope.names (is_among (listed_ports f.scope.ports) q.name) (declared_as q.name ds) (fits_once f.scope whole.once q.name) direction))
