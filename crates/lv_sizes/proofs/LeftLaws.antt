-- Answers on sizes, one after another.
use Rattle.std.proofs.Common.{◌≡◌, ◌⊎◌, inl, inr, ℕ, ◌+◌, ◌<◌, ◌≤◌, Bool, true, false, not, List, [], ◌∷◌, ◌++◌, map, length, get_or, drop, ap, ◌∙◌, sym, subst, refl, arith, add-one, drop-cons, flat_map, Result, Ok, Err, Option, Some, None}
use Rattle.std.specs.List.{Contains}
use Rattle.std.proofs.lemmas.List.{at_drop_all}
use Rattle.std.proofs.lemmas.List.Elements.{Contains-append_left, Contains-append_right}
use Rattle.lv_ast.specs.declared.expr.Expr.{Expr}
use Rattle.lv_ast.specs.declared.stmt.Ident.{Ident}
use Rattle.lv_ast.specs.declared.expr.Path.{Path}
use Rattle.lv_ast.specs.Names.{Name}
use Rattle.lv_source.specs.Names.{Names, Here}
use Rattle.lv_const.specs.declared.consts.Entry.{Entry}
use Rattle.lv_flat.specs.Signals.{Signals}
use Rattle.lv_resolve.specs.Indices.{IsAt}
use Rattle.lv_source.specs.Limits as limits
use Rattle.lv_source.specs.Sites.{Spot}
use Rattle.lv_source.specs.ScopeRules.{unknown_in_form}
use Rattle.lv_source.specs.Standing.{Standing, form_spots, one, Repeat, header_spots}
use Rattle.lv_const.proofs.Refusals.{found, Found, gathered}
use Rattle.lv_resolve.specs.declared.error.ResolveError.{ResolveError}
use Rattle.lv_headers.specs.Headers.{IsHeaderFault}
use Rattle.lv_headers.proofs.LateTurns.{raised, told-raised}
use Rattle.lv_sizes.specs.declared.error.SizeError.{SizeError}
use Rattle.lv_sizes.specs.declared.error.SizeError.TheVariants as e
use Rattle.lv_sizes.specs.declared.size.Size.{Size}
use Rattle.lv_sizes.specs.Totals.{plus, total}
use Rattle.lv_sizes.specs.Sizes.{IsStandingFault, IsTooMuch, Leaves, LeftAnswer}

-- ---- one after another

pub same-answer : (left : Size) (a b : limits.Size) (F : ResolveError → Type 0) (r : Result Size SizeError) → a ≡ b → LeftAnswer left a F r → LeftAnswer left b F r
same-answer left a b F r h k = subst (λ z. LeftAnswer left z F r) h k

over : (left : Size) (a b : limits.Size) (F G : ResolveError → Type 0) → ((y : ResolveError) → F y → G y) → a.turns ≤ b.turns → a.nodes ≤ b.nodes → (y : SizeError) →
    IsTooMuch left a F y → IsTooMuch left b G y
over left a b F G f t n (e.Fault y) h = f y h
over left a b F G f t n e.Turns h = omega arith
over left a b F G f t n e.Nodes h = omega arith

pub wider-answer : (left : Size) (a : limits.Size) (F G : ResolveError → Type 0) → ((y : ResolveError) → F y → G y) → (r : Result Size SizeError) →
    LeftAnswer left a F r → LeftAnswer left a G r
wider-answer left a F G f (Ok z) h = record { right = h.right; wrong = tt }
wider-answer left a F G f (Err y) h = record { right = tt; wrong = over left a a F G f (omega arith) (omega arith) y h.wrong }

pub first-answer : (left : Size) (a b : limits.Size) (F G : ResolveError → Type 0) → ((y : ResolveError) → F y → G y) → (y : SizeError) →
    LeftAnswer left a F (Err y) → LeftAnswer left (plus a b) G (Err y)
first-answer left a b F G f y h = record { right = tt; wrong = over left a (plus a b) F G f (omega arith) (omega arith) y h.wrong }

beyond : (left mid : Size) (a b : limits.Size) (F G : ResolveError → Type 0) → ((y : ResolveError) → F y → G y) → Leaves left a mid → (y : SizeError) →
    IsTooMuch mid b F y → IsTooMuch left (plus a b) G y
beyond left mid a b F G f l (e.Fault y) h = f y h
beyond left mid a b F G f l e.Turns h = omega (arith, l.turns)
beyond left mid a b F G f l e.Nodes h = omega (arith, l.nodes)

pub second-answer : (left mid : Size) (a b : limits.Size) (F G : ResolveError → Type 0) → ((y : ResolveError) → F y → G y) → (r : Result Size SizeError) →
    Leaves left a mid → LeftAnswer mid b F r → LeftAnswer left (plus a b) G r
second-answer left mid a b F G f (Ok z) l h = record {
  right = record { turns = omega (arith, l.turns, h.right.turns); nodes = omega (arith, l.nodes, h.right.nodes) };
  wrong = tt;
}
second-answer left mid a b F G f (Err y) l h = record { right = tt; wrong = beyond left mid a b F G f l y h.wrong }

-- nothing more
pub last-answer : (left mid : Size) (a : limits.Size) (F : ResolveError → Type 0) → Leaves left a mid → LeftAnswer left (plus a (limits.nodes_alone 0)) F (Ok mid)
last-answer left mid a F l = record { right = record { turns = omega (arith, l.turns); nodes = omega (arith, l.nodes) }; wrong = tt }

-- ---- along a list

pub record IsSoFar (all rest : limits.Size) (left now : Size) : Type 0 where
  pub turns : now.turns + all.turns ≡ left.turns + rest.turns
  pub nodes : now.nodes + all.nodes ≡ left.nodes + rest.nodes

pub so-far-none : (a : limits.Size) (left : Size) → IsSoFar a a left left
so-far-none a left = record { turns = refl; nodes = refl }

total-here : {A : Type 0} (f : A → limits.Size) (xs : List A) (i : ℕ) (x : A) → i < length xs → get_or xs i x ≡ x →
    total f (drop i xs) ≡ plus (f x) (total f (drop (i + 1) xs))
total-here f xs i x h k =
    let d : drop i xs ≡ get_or xs i x ∷ drop (i + 1) xs = rw add-one (drop-cons xs i x h) in
    ap (total f) (d ∙ ap (λ y. y ∷ drop (i + 1) xs) k)

module _ {A : Type 0} (f : A → limits.Size) (xs : List A) (i : ℕ) (left now : Size) (k : IsSoFar (total f xs) (total f (drop i xs)) left now) where
  module _ (x : A) (h : i < length xs) (g : get_or xs i x ≡ x) where
    abbrev after : limits.Size
    after = total f (drop (i + 1) xs)

    turns-here : now.turns + (total f xs).turns ≡ left.turns + ((f x).turns + after.turns)
    turns-here = k.turns ∙ ap (λ (z : limits.Size). left.turns + z.turns) (total-here f xs i x h g)

    nodes-here : now.nodes + (total f xs).nodes ≡ left.nodes + ((f x).nodes + after.nodes)
    nodes-here = k.nodes ∙ ap (λ (z : limits.Size). left.nodes + z.nodes) (total-here f xs i x h g)

    so-far-past : (F G : ResolveError → Type 0) → ((y : ResolveError) → F y → G y) → (y : SizeError) → IsTooMuch now (f x) F y → IsTooMuch left (total f xs) G y
    so-far-past F G u (e.Fault y) w = u y w
    so-far-past F G u e.Turns w = omega (arith, turns-here)
    so-far-past F G u e.Nodes w = omega (arith, nodes-here)

    pub so-far-over : (F G : ResolveError → Type 0) → ((y : ResolveError) → F y → G y) → (y : SizeError) → LeftAnswer now (f x) F (Err y) →
        LeftAnswer left (total f xs) G (Err y)
    so-far-over F G u y w = record { right = tt; wrong = so-far-past F G u y w.wrong }

    pub so-far-more : (rest : Size) → Leaves now (f x) rest → IsSoFar (total f xs) (total f (drop (i + 1) xs)) left rest
    so-far-more rest l = record { turns = omega (arith, turns-here, l.turns); nodes = omega (arith, nodes-here, l.nodes) }

  pub so-far-end : (F : ResolveError → Type 0) → length xs ≤ i → LeftAnswer left (total f xs) F (Ok now)
  so-far-end F h =
      let d : total f (drop i xs) ≡ limits.nodes_alone 0 = at_drop_all (total f) xs i h in
      let t : now.turns + (total f xs).turns ≡ left.turns + 0 = k.turns ∙ ap (λ (z : limits.Size). left.turns + z.turns) d in
      let n : now.nodes + (total f xs).nodes ≡ left.nodes + 0 = k.nodes ∙ ap (λ (z : limits.Size). left.nodes + z.nodes) d in
      record { right = record { turns = omega (arith, t); nodes = omega (arith, n) }; wrong = tt }

-- what is read of a list does not depend on what would be read past its end
pub read-same : (xs : List ℕ) (i : ℕ) → i < length xs → get_or xs i (get_or xs i 0) ≡ get_or xs i 0
read-same xs i h =
    let a = drop-cons xs i 0 h in
    let b = drop-cons xs i (get_or xs i 0) h in
    cc

-- ---- faults of parts

pub standing-raised : (xs ys : List Standing) → ((k : Standing) → Contains xs k → Contains ys k) → (y : ResolveError) → IsStandingFault xs y → IsStandingFault ys y
standing-raised xs ys among y (inl h) =
    inl (told-raised (flat_map (λ k. form_spots k.here k.form) xs) (flat_map (λ k. form_spots k.here k.form) ys)
    (λ s c. let g : Found (λ k. form_spots k.here k.form) xs s = found (λ k. form_spots k.here k.form) xs s c in
    gathered (λ k. form_spots k.here k.form) ys g.one s (among g.one g.among) g.holds) y h)
standing-raised xs ys among y (inr h) =
    inr (h.0, (let g : Found unknown_in_form xs h.0 = found unknown_in_form xs h.0 h.1 in gathered unknown_in_form ys g.one h.0 (among g.one g.among) g.holds), h.2)

-- of an element of a list
pub standing-each : {A : Type 0} (f : A → List Standing) (xs : List A) (i : ℕ) (x : A) → i < length xs → get_or xs i x ≡ x → (y : ResolveError) →
    IsStandingFault (f x) y → IsStandingFault (flat_map f xs) y
standing-each f xs i x h g y w = standing-raised (f x) (flat_map f xs) (λ k c. gathered f xs x k (i, h, g) c) y w

pub standing-first : (xs ys : List Standing) (y : ResolveError) → IsStandingFault xs y → IsStandingFault (xs ++ ys) y
standing-first xs ys y w = standing-raised xs (xs ++ ys) (λ k c. Contains-append_left xs ys k c) y w

pub standing-second : (xs ys : List Standing) (y : ResolveError) → IsStandingFault ys y → IsStandingFault (xs ++ ys) y
standing-second xs ys y w = standing-raised ys (xs ++ ys) (λ k c. Contains-append_right xs ys k c) y w

pub standing-same : (xs ys : List Standing) → xs ≡ ys → (y : ResolveError) → IsStandingFault ys y → IsStandingFault xs y
standing-same xs ys h y w = subst (λ zs. IsStandingFault zs y) (sym h) w

-- the header of a loop
pub standing-header : (here : Here) (index : Ident) (start test : Expr) (again : Ident) (next : Expr) (rest : List Standing) (y : ResolveError) →
    IsHeaderFault here false index start test again next y → IsStandingFault (one here (Repeat index start test again next) ++ rest) y
standing-header here index start test again next rest y (inl h) =
    inl (told-raised (header_spots here index start test next) (header_spots here index start test next ++ flat_map (λ k. form_spots k.here k.form) rest)
    (λ s c. Contains-append_left (header_spots here index start test next) (flat_map (λ k. form_spots k.here k.form) rest) s c) y h)
standing-header here index start test again next rest y (inr h) = inr (h.0, Contains-append_left _ (flat_map unknown_in_form rest) h.0 h.1, h.2)

-- ---- the place, where its constants are the same

pub moved-at : (S : Signals) (find : Path → Option ℕ) (indices : Name → Option Bool) (all early new_all new_early : List Entry) (here : Here) → new_all ≡ all →
    new_early ≡ early → IsAt S find indices all early here → IsAt S find indices new_all new_early here
moved-at S find indices all early new_all new_early here e f ok =
    subst (λ es. IsAt S find indices es new_early here) (sym e) (subst (λ es. IsAt S find indices all es here) (sym f) ok)

-- an error of a part
pub less-answer : (left : Size) (a b : limits.Size) (F G : ResolveError → Type 0) → ((y : ResolveError) → F y → G y) → a.turns ≤ b.turns → a.nodes ≤ b.nodes →
    (y : SizeError) → LeftAnswer left a F (Err y) → LeftAnswer left b G (Err y)
less-answer left a b F G f t n y h = record { right = tt; wrong = over left a b F G f t n y h.wrong }

pub no-fault : (G : ResolveError → Type 0) (y : ResolveError) → ⊥ → G y
no-fault G y h = absurd h
