-- The declarations of a scope one by one.
use Rattle.std.proofs.Common.{◌≡◌, ◌⊎◌, inl, inr, ℕ, ◌+◌, ◌<◌, ◌≤◌, arith, Bool, true, false, List, [], ◌∷◌, ◌++◌, map, length, get_or, take, append_assoc, refl, sym, ap, ◌∙◌, subst, Option, Some, None}
use Rattle.std.specs.Prelude.{slice_get, find, bytes_eq, if◌then◌else◌}
use Rattle.std.specs.Option.{option_map}
use Rattle.std.proofs.lemmas.List.{take_more, take-map, take_all, take_at, length-append, length-map, get_or-map}
use Rattle.std.proofs.lemmas.Option.{slice_get-get_or, slice_get_within}
use Rattle.lv_ast.specs.declared.expr.Path.{Path}
use Rattle.lv_ast.specs.declared.expr.Expr.{Expr}
use Rattle.lv_ast.specs.declared.item.Range.{Range}
use Rattle.lv_ast.specs.declared.stmt.Ident.{Ident}
use Rattle.lv_source.specs.Names.{Names, Here, with_name}
use Rattle.lv_source.specs.Declarations.{Thing, Direction, Wire, Reg, Parameter, Index, Instance, Label, Declaration}
use Rattle.lv_source.specs.Scopes.{Override, is_parameter, parameter, overridden, override_of, early_at, here_at}
use Rattle.lv_source.specs.Constants.{early_or_none}
use Rattle.lv_source.proofs.Bridges.{two, map-join}
use Rattle.lv_source.proofs.Summaries.{append-none}
use Rattle.lv_const.specs.declared.consts.Entry.{Entry}
use Rattle.lv_const.specs.Constants.{names_of}
use Rattle.lv_const.specs.Wherever.{AreDeclared}
use Rattle.lv_declared.specs.declared.declaration.Declaration.{Declaration as Code}
use Rattle.lv_declared.specs.Listing.{declared}
use Rattle.lv_symbols.specs.declared.symbol.Symbol.{Symbol}
use Rattle.lv_symbols.specs.declared.symbol.SymbolError.{SymbolError}
use Rattle.lv_symbols.specs.declared.givens.Givens.{Givens}
use Rattle.lv_symbols.specs.Giving.{value_for, AreOverrides}
use Rattle.lv_symbols.specs.Making.{symbol_of, range_in, IsGivenClean, IsToldOf, parameters_in}
use Rattle.lv_symbols.specs.Answers.{as_override, given_in, names_behind, IsMade, IsNotMade}
use Rattle.lv_symbols.specs.Frames.{Frame, IsScope, IsFrame, InEach, constants_in, constants_behind, given_value, IsSoundIn, AreSoundIn, IsToldIn, ArePrefixes, IsPrefix, IsSoFar, AreSoFar}
use Rattle.lv_symbols.proofs.ScopeLaws.{next, so_far, scope_alike, kept_names, added_name, behind_more, overridden_constant}

-- ---- values that are given

module _ (g : Givens) (os : List Override) (there : Names) (h : AreOverrides there g os) where
  by_local : (local : Bool) (n : Ident) → (if local then None else value_for g n.name) ≡ option_map (λ o. o.value) (override_of local os n.name)
  by_local true n = refl
  by_local false n = h.values n.name

  given_thing : (n : Ident) (t : Thing) → given_in g (record { name = n; thing = t }) ≡ given_value os (record { name = n; thing = t })
  given_thing n (Parameter local signed range value) = by_local local n
  given_thing n (Direction o w s r) = refl
  given_thing n (Wire s r) = refl
  given_thing n (Reg s r b) = refl
  given_thing n (Index i) = refl
  given_thing n Instance = refl
  given_thing n Label = refl

  pub given_same : (d : Declaration) → given_in g d ≡ given_value os d
  given_same d = given_thing d.name d.thing

  module _ (here : Names) (n : Ident) (signed : Bool) (range : Option Range) (value : Expr) where
    over_found : (o : Option Override) (v : Option Expr) → v ≡ option_map (λ o. o.value) o → ((q : Override) → o ≡ Some q → q.there ≡ there) →
        overridden here n signed range value (as_override n.name there v) ≡ overridden here n signed range value o
    over_found None v e f = ap (λ z. overridden here n signed range value (as_override n.name there z)) e
    over_found (Some q) v e f =
        ap (λ z. overridden here n signed range value (as_override n.name there z)) e ∙ ap (λ z. parameter here n signed range z q.value) (sym (f q refl))

    over_same : (local : Bool) → overridden here n signed range value (as_override n.name there (if local then None else value_for g n.name)) ≡
        overridden here n signed range value (override_of local os n.name)
    over_same true = refl
    over_same false = over_found (find (λ o. bytes_eq o.name n.name) os) (value_for g n.name) (h.values n.name) (h.names n.name)

-- ---- where so many stand before

module _ (f : Frame) (h : IsScope f) (k : ℕ) (now : List Entry)
    (n : (p : Path) → names_of now p ≡ early_or_none (early_at f.scope k p) (constants_behind f (take k f.scope.declarations) p)) where
  pub at_behind : AreDeclared (names_of now) (record { names = constants_behind f (take k f.scope.declarations); early = early_at f.scope k })
  at_behind = record { same = n }

  pub at_constants : AreDeclared (names_of now) (record { names = constants_in f; early = early_at f.scope k })
  at_constants = record { same = λ p. n p ∙ sym (so_far f h k p) }

  pub at_place : AreDeclared (names_of now) (here_at f.scope k)
  at_place = record { same = λ p. n p ∙ sym (so_far f h k p) ∙ sym (scope_alike f h k p) }

sum_as : (a b c : ℕ) → a + (b + c) ≡ a + b + c
sum_as a b c = omega arith

zero_sum : (a : ℕ) → a ≡ 0 + a
zero_sum a = omega arith

in_parts : (xs : List Declaration) (d : Declaration) → parameters_in (xs ++ d ∷ []) ≡ parameters_in xs + parameters_in (d ∷ [])
in_parts [] d = zero_sum (parameters_in (d ∷ []))
in_parts (x ∷ xs) d =
    let e : parameters_in (xs ++ d ∷ []) ≡ parameters_in xs + parameters_in (d ∷ []) = in_parts xs d in
    ap (λ z. (if is_parameter x then 1 else 0) + z) e ∙
    sum_as (if is_parameter x then 1 else 0) (parameters_in xs) (parameters_in (d ∷ []))

-- ---- the first

no_first : (old there : List Entry) (g : Givens) (f : Frame) → IsFrame old there g f.scope.declarations f → IsSoFar old old f f.scope.declarations 0 []
no_first old there g f r = record {
  names = λ p. r.before.same p ∙ scope_alike f r.scope 0 p ∙ so_far f r.scope 0 p;
  symbols = refl;
  here = refl;
  sound = λ j d l e. absurd (omega arith);
  prefixes = λ j l.
      (let e : j ≡ 0 = omega arith in
      subst (λ i. IsPrefix old (length old + parameters_in (take i f.scope.declarations)) (here_at f.scope i)) (sym e)
      (record { first = old; rest = []; whole = sym (append-none old); count = (let u : length old ≡ length old + 0 = omega arith in u); declared = r.before }));
}

pub made_first : (old there : List Entry) (g : Givens) (ds : List Declaration) → AreSoFar old there g ds 0 old []
made_first old there g ds = record {
  longer = ([], sym (append-none old), refl);
  each = record {
    at = λ f r. subst (λ zs. IsFrame old there g zs f → IsSoFar old old f zs 0 []) r.declarations (no_first old there g f) r;
  };
}

-- ---- one more

below_or : (j k : ℕ) → j < k + 1 → (j < k) ⊎ (j ≡ k)
below_or j k h = grind arith

up_or : (j k : ℕ) → j ≤ k + 1 → (j ≤ k) ⊎ (j ≡ k + 1)
up_or j k h = grind arith

longer_prefix : (mid new : List Entry) (n : ℕ) (here : Here) → (es : List Entry) × (new ≡ mid ++ es) → IsPrefix mid n here → IsPrefix new n here
longer_prefix mid new n here a i = record {
  first = i.first;
  rest = i.rest ++ a.0;
  whole = a.1 ∙ ap (λ zs. zs ++ a.0) i.whole ∙ append_assoc i.first i.rest a.0;
  count = i.count;
  declared = i.declared;
}

module _ (old there : List Entry) (g : Givens) (f : Frame) (r : IsFrame old there g f.scope.declarations f) (k : ℕ) (d : Declaration)
    (t : take (k + 1) f.scope.declarations ≡ take k f.scope.declarations ++ d ∷ []) (i : slice_get f.scope.declarations k ≡ Some d)
    (mid : List Entry) (ys : List Symbol) (s : IsSoFar old mid f f.scope.declarations k ys) where
  abbrev behind : Names
  behind = constants_behind f (take k f.scope.declarations)

  thing_step : (n : Ident) (th : Thing) → take (k + 1) f.scope.declarations ≡ take k f.scope.declarations ++ record { name = n; thing = th } ∷ [] → (p : Path) →
      names_behind (names_of mid) behind f.outside.names (given_in g (record { name = n; thing = th })) (record { name = n; thing = th }) p ≡
      early_or_none (early_at f.scope (k + 1) p) (next f.overrides behind n th p)
  thing_step n (Parameter local signed range value) u p =
      ap (λ c. with_name (names_of mid) n.name (Some c) p) (over_same g f.overrides f.outside.names r.givens behind n signed range value local) ∙
      added_name f r.scope k (record { name = n; thing = Parameter local signed range value }) u (names_of mid) s.names
      (overridden behind n signed range value (override_of local f.overrides n.name))
      (overridden_constant behind n signed range value (override_of local f.overrides n.name)) refl p
  thing_step n (Direction o w a b) u p = kept_names f r.scope k (record { name = n; thing = Direction o w a b }) u (names_of mid) s.names refl p
  thing_step n (Wire a b) u p = kept_names f r.scope k (record { name = n; thing = Wire a b }) u (names_of mid) s.names refl p
  thing_step n (Reg a b c) u p = kept_names f r.scope k (record { name = n; thing = Reg a b c }) u (names_of mid) s.names refl p
  thing_step n (Index a) u p = kept_names f r.scope k (record { name = n; thing = Index a }) u (names_of mid) s.names refl p
  thing_step n Instance u p = kept_names f r.scope k (record { name = n; thing = Instance }) u (names_of mid) s.names refl p
  thing_step n Label u p = kept_names f r.scope k (record { name = n; thing = Label }) u (names_of mid) s.names refl p

  module _ (new : List Entry) (y : Symbol) (m : IsMade mid there new (given_in g d) d y) where
    names_more : (p : Path) → names_of new p ≡ early_or_none (early_at f.scope (k + 1) p) (constants_behind f (take (k + 1) f.scope.declarations) p)
    names_more p =
        ap (λ (z : Names). z p) ((m.named.at _ (at_behind f r.scope k mid s.names)).at f.outside r.outside) ∙ thing_step d.name d.thing t p ∙
        ap (λ (z : Names). early_or_none (early_at f.scope (k + 1) p) (z p)) (sym (behind_more f r.scope k d t))

    symbols_more : ys ++ y ∷ [] ≡ map (symbol_of (constants_in f)) (take (k + 1) f.scope.declarations)
    symbols_more =
        two (λ (us : List Symbol) (v : Symbol). us ++ v ∷ []) _ _ _ _ s.symbols (m.symbol.at _ (at_constants f r.scope k mid s.names)) ∙
        sym (map-join (symbol_of (constants_in f)) (take k f.scope.declarations) (d ∷ [])) ∙ ap (map (symbol_of (constants_in f))) (sym t)

    here_more : ys ++ y ∷ [] ≡ map (symbol_of f.scope.names) (take (k + 1) f.scope.declarations)
    here_more =
        two (λ (us : List Symbol) (v : Symbol). us ++ v ∷ []) _ _ _ _ s.here (m.symbol.at (here_at f.scope k) (at_place f r.scope k mid s.names)) ∙
        sym (map-join (symbol_of f.scope.names) (take k f.scope.declarations) (d ∷ [])) ∙ ap (map (symbol_of f.scope.names)) (sym t)

    sound_at : IsSoundIn f k d
    sound_at = record {
      own = m.sound.at (here_at f.scope k) (at_place f r.scope k mid s.names);
      given = subst (λ v. IsGivenClean (here_at f.scope k) f.outside (range_in d) v) (given_same g f.overrides f.outside.names r.givens d)
          ((m.given_sound.at (here_at f.scope k) (at_place f r.scope k mid s.names)).at f.outside r.outside);
    }

    sound_more : (j : ℕ) (e : Declaration) → (j < k) ⊎ (j ≡ k) → slice_get f.scope.declarations j ≡ Some e → IsSoundIn f j e
    sound_more j e (inl l) q = s.sound j e l q
    sound_more j e (inr l) q =
        let same : d ≡ e = (let a : slice_get f.scope.declarations k ≡ Some e = ap (slice_get f.scope.declarations) (sym l) ∙ q in cc) in
        subst (λ z. IsSoundIn f z e) (sym l) (subst (λ z. IsSoundIn f k z) same sound_at)

    prefix_more : (c : length new ≡ length old + parameters_in (take (k + 1) f.scope.declarations)) (j : ℕ) → (j ≤ k) ⊎ (j ≡ k + 1) →
        IsPrefix new (length old + parameters_in (take j f.scope.declarations)) (here_at f.scope j)
    prefix_more c j (inl l) =
        longer_prefix mid new (length old + parameters_in (take j f.scope.declarations)) (here_at f.scope j) (m.added.0, m.added.1) (s.prefixes j l)
    prefix_more c j (inr l) =
        subst (λ z. IsPrefix new (length old + parameters_in (take z f.scope.declarations)) (here_at f.scope z)) (sym l)
        (record { first = new; rest = []; whole = sym (append-none new); count = c; declared = at_place f r.scope (k + 1) new names_more })

    pub one_more : length new ≡ length old + parameters_in (take (k + 1) f.scope.declarations) → IsSoFar old new f f.scope.declarations (k + 1) (ys ++ y ∷ [])
    one_more c = record {
      names = names_more;
      symbols = symbols_more;
      here = here_more;
      sound = λ j e l q. sound_more j e (below_or j k l) q;
      prefixes = λ j l. prefix_more c j (up_or j k l);
    }

  pub one_told : (y : SymbolError) → IsNotMade mid there (given_in g d) d y → IsToldIn f f.scope.declarations y
  one_told y w = record {
    at = k;
    declaration = d;
    is = i;
    told = subst (λ v. IsToldOf (here_at f.scope k) f.outside v d y) (given_same g f.overrides f.outside.names r.givens d)
        ((w.told.at (here_at f.scope k) (at_place f r.scope k mid s.names)).at f.outside r.outside);
  }

-- ---- the loop

module _ (old there mid : List Entry) (g : Givens) (items : List Code) (k : ℕ) (c : Code) (ys : List Symbol)
    (h : AreSoFar old there g (map declared items) k mid ys) (within : k < length items) (is : c ≡ get_or items k c) where
  abbrev ds : List Declaration
  ds = map declared items

  found : slice_get ds k ≡ Some (declared c)
  found =
      slice_get-get_or ds k (declared c) (subst (λ z. k < z) (sym (length-map items declared)) within) ∙
      ap (λ z. Some z) (get_or-map declared items k c (declared c) within ∙ ap declared (sym is))

  taken : take (k + 1) ds ≡ take k ds ++ declared c ∷ []
  taken =
      take-map declared (k + 1) items ∙ ap (map declared) (take_more items k c within ∙ ap (λ z. take k items ++ z ∷ []) (sym is)) ∙
      map-join declared (take k items) (c ∷ []) ∙ ap (λ zs. zs ++ declared c ∷ []) (sym (take-map declared k items))

  pub made_more : (new : List Entry) (y : Symbol) → IsMade mid there new (given_in g (declared c)) (declared c) y →
      AreSoFar old there g ds (k + 1) new (ys ++ y ∷ [])
  made_more new y m =
      let n : length (h.longer.0 ++ m.added.0) ≡ parameters_in (take (k + 1) ds) =
      length-append h.longer.0 m.added.0 ∙ two (λ (u v : ℕ). u + v) _ _ _ _ h.longer.2 m.added.2 ∙ sym (in_parts (take k ds) (declared c)) ∙
      ap parameters_in (sym taken) in
      let w : new ≡ old ++ (h.longer.0 ++ m.added.0) =
      m.added.1 ∙ ap (λ zs. zs ++ m.added.0) h.longer.1 ∙ append_assoc old h.longer.0 m.added.0 in
      let l : length new ≡ length old + parameters_in (take (k + 1) ds) =
      ap length w ∙ length-append old (h.longer.0 ++ m.added.0) ∙ ap (λ z. length old + z) n in
      record {
        longer = (h.longer.0 ++ m.added.0, w, n);
        each = record {
          at = λ f r. subst (λ zs. IsFrame old there g zs f → take (k + 1) zs ≡ take k zs ++ declared c ∷ [] → slice_get zs k ≡ Some (declared c) →
              IsSoFar old mid f zs k ys → length new ≡ length old + parameters_in (take (k + 1) zs) → IsSoFar old new f zs (k + 1) (ys ++ y ∷ [])) r.declarations
              (λ q t i s e. one_more old there g f q k (declared c) t i mid ys s new y m e) r taken found (h.each.at f r) l;
        };
      }

  pub made_told : (y : SymbolError) → IsNotMade mid there (given_in g (declared c)) (declared c) y → InEach old there g ds (λ f. IsToldIn f ds y)
  made_told y w = record {
    at = λ f r. subst (λ zs. IsFrame old there g zs f → take (k + 1) zs ≡ take k zs ++ declared c ∷ [] → slice_get zs k ≡ Some (declared c) →
        IsSoFar old mid f zs k ys → IsToldIn f zs y) r.declarations
        (λ q t i s. one_told old there g f q k (declared c) t i mid ys s y w) r taken found (h.each.at f r);
  }

pub cut_back : (old there mid : List Entry) (g : Givens) (ds : List Declaration) (k n : ℕ) (ys : List Symbol) → AreSoFar old there g ds k mid ys →
    n ≡ length old → take n mid ≡ old
cut_back old there mid g ds k n ys h e = ap (take n) h.longer.1 ∙ take_at old h.longer.0 n (sym e)

pub cut_in : (old there mid : List Entry) (g : Givens) (ds : List Declaration) (k n : ℕ) (ys : List Symbol) → AreSoFar old there g ds k mid ys →
    n ≡ length old → n ≤ length mid
cut_in old there mid g ds k n ys h e =
    let l : length mid ≡ length old + length h.longer.0 = ap length h.longer.1 ∙ length-append old h.longer.0 in omega arith

-- ---- all

module _ (old there new : List Entry) (g : Givens) (items : List Code) (k : ℕ) (ys : List Symbol)
    (h : AreSoFar old there g (map declared items) k new ys) (whole : length items ≤ k) where
  abbrev all : List Declaration
  all = map declared items

  long : length all ≤ k
  long = (let e : length all ≡ length items = length-map items declared in omega arith)

  taken_all : take k all ≡ all
  taken_all = take_all k all long

  pub all_symbols : InEach old there g all (λ f. ys ≡ map (symbol_of (constants_in f)) all)
  all_symbols = record { at = λ f r. (h.each.at f r).symbols ∙ ap (map (symbol_of (constants_in f))) taken_all }

  pub all_here : InEach old there g all (λ f. ys ≡ map (symbol_of f.scope.names) all)
  all_here = record { at = λ f r. (h.each.at f r).here ∙ ap (map (symbol_of f.scope.names)) taken_all }

  pub all_sound : InEach old there g all (λ f. AreSoundIn f all)
  all_sound = record {
    at = λ f r. record {
      each = λ j d e. (h.each.at f r).sound j d (let l : j < length all = slice_get_within all j d e in let u : length all ≤ k = long in omega arith) e;
    };
  }

  pub all_prefixes : InEach old there g all (λ f. ArePrefixes old new f all)
  all_prefixes = record {
    at = λ f r. record {
      each = λ j l.
          (let p : IsPrefix new (length old + parameters_in (take j all)) (here_at f.scope j) =
          (h.each.at f r).prefixes j (let u : length all ≤ k = long in omega arith) in
          subst (λ es. AreDeclared (names_of es) (here_at f.scope j))
          (sym (ap (take (length old + parameters_in (take j all))) p.whole ∙ take_at p.first p.rest (length old + parameters_in (take j all)) p.count))
          p.declared);
    };
  }

  pub all_added : (es : List Entry) × (new ≡ old ++ es) × (length es ≡ parameters_in all)
  all_added = (h.longer.0, h.longer.1, h.longer.2 ∙ ap parameters_in taken_all)

  pub all_constants : InEach old there g all (λ f. AreDeclared (names_of new) (here_at f.scope (length items)))
  all_constants = record {
    at = λ f r.
        (let n : ℕ = length old + parameters_in all in
        let c : length new ≡ n = ap length h.longer.1 ∙ length-append old h.longer.0 ∙ ap (λ z. length old + z) (h.longer.2 ∙ ap parameters_in taken_all) in
        let e : length all ≡ length items = length-map items declared in
        let q : AreDeclared (names_of (take (length old + parameters_in (take (length all) all)) new)) (here_at f.scope (length all)) =
        (all_prefixes.at f r).each (length all) (let u : length all ≤ length all = omega arith in u) in
        let w : take (length old + parameters_in (take (length all) all)) new ≡ new =
        ap (λ zs. take (length old + parameters_in zs) new) (take_all (length all) all (let u : length all ≤ length all = omega arith in u)) ∙
        take_all n new (let u : length new ≡ n = c in omega arith) in
        subst (λ i. AreDeclared (names_of new) (here_at f.scope i)) e (subst (λ es. AreDeclared (names_of es) (here_at f.scope (length all))) w q));
  }
