-- A statement, executed on two valuations that share what it reads, takes one of its paths in both, and leaves them alike where that path writes for sure.
use Rattle.std.proofs.Common.{◌≡◌, inl, inr, Bool, true, false, ◌||◌, List, [], ◌∷◌, ◌++◌, map, refl, ap, ◌∙◌}
use Rattle.std.specs.Prelude.{flat_map, if◌then◌else◌}
use Rattle.std.specs.List.{list_any}
use Rattle.lv_source.specs.Names.{Valuation}
use Rattle.lv_source.specs.Places.{Bit, has_bit, same_bit}
use Rattle.lv_source.specs.Effect.{State}
use Rattle.lv_source.specs.Flow.{Event, event_surely, Flow, still, then_flow, either_flow, looks, surely}
use Rattle.lv_source.proofs.Each.{Each, Some', each-left, each-right, each-join, each-unmap, each-imp, some-left, some-right, some-map, some-imp}
use Rattle.lv_source.proofs.Tests.{or-split, or-left, or-right, or-none_left, or-none_right, any-split}
use Rattle.lv_source.proofs.Faithful.{Same}

-- ---- what is known along a path

abbrev pub grow : (Bit → Bool) → List Bit → Bit → Bool
grow A bs b = A b || has_bit bs b

abbrev pub ReadsIn : (Bit → Bool) → List Bit → Type 0
ReadsIn A bs = (b : Bit) → has_bit bs b ≡ true → A b ≡ true

-- each step reads what is known, and writes at once
abbrev pub Covered : (Bit → Bool) → List Event → Type 0
Covered A [] = Unit {0}
Covered A (e ∷ es) = ReadsIn A e.reads × (e.at_once ≡ true) × Covered (grow A (event_surely e)) es

-- what is known after it
abbrev pub After : (Bit → Bool) → List Event → Bit → Bool
After A [] = A
After A (e ∷ es) = After (grow A (event_surely e)) es

covered-left : (A : Bit → Bool) (p q : List Event) → Covered A (p ++ q) → Covered A p
covered-left A [] q h = tt
covered-left A (e ∷ es) q h = (h.0, h.1, covered-left (grow A (event_surely e)) es q h.2)

covered-right : (A : Bit → Bool) (p q : List Event) → Covered A (p ++ q) → Covered (After A p) q
covered-right A [] q h = h
covered-right A (e ∷ es) q h = covered-right (grow A (event_surely e)) es q h.2

after-join : (A : Bit → Bool) (p q : List Event) (v w : Valuation) → Same (After (After A p) q) v w → Same (After A (p ++ q)) v w
after-join A [] q v w h = h
after-join A (e ∷ es) q v w h = after-join (grow A (event_surely e)) es q v w h

pub after-kept : (A : Bit → Bool) (p : List Event) (b : Bit) → A b ≡ true → After A p b ≡ true
after-kept A [] b h = h
after-kept A (e ∷ es) b h = after-kept (grow A (event_surely e)) es b (or-left (A b) (has_bit (event_surely e) b) h)

pub after-surely : (A : Bit → Bool) (p : List Event) (b : Bit) → has_bit (surely p) b ≡ true → After A p b ≡ true
after-surely A [] b h = cc
after-surely A (e ∷ es) b h = elim (any-split (same_bit b) (event_surely e) (surely es) h) [
  | inl k ↦ after-kept (grow A (event_surely e)) es b (or-right (A b) (has_bit (event_surely e) b) k)
  | inr k ↦ after-surely (grow A (event_surely e)) es b k
]

-- ---- runs

-- some path is taken in both, and no update is left for later
abbrev pub Outcome : (Bit → Bool) → List (List Event) → State → State → State → State → Type 0
Outcome A ps s t s' t' = Some' (λ p. Same (After A p) s'.valuation t'.valuation) ps × (s'.pending ≡ s.pending) × (t'.pending ≡ t.pending)

abbrev pub Any : List Event → Type 0
Any p = Unit {0}

abbrev pub NoneOf : (Event → Bool) → List Event → Type 0
NoneOf q p = list_any q p ≡ false

pub record Runs (g : State → State) (f : Flow) : Type 0 where
  pub some : Some' Any f.paths
  -- what no step of it is, no step of a path is
  pub inside : (q : Event → Bool) → list_any q f.events ≡ false → Each (NoneOf q) f.paths
  pub run : (A : Bit → Bool) (s t : State) → Same A s.valuation t.valuation → Each (Covered A) f.paths → Outcome A f.paths s t (g s) (g t)

pub still-runs : Runs (λ s. s) still
still-runs = record { some = inl tt; inside = λ q h. (refl, tt); run = λ A s t same h. (inl same, refl, refl) }

-- ---- one after the other

abbrev product : List (List Event) → List (List Event) → List (List Event)
product ps qs = flat_map (λ p. map (λ q. p ++ q) qs) ps

any-none : {A : Type 0} (p : A → Bool) (xs ys : List A) → list_any p xs ≡ false → list_any p ys ≡ false → list_any p (xs ++ ys) ≡ false
any-none p [] ys h k = k
any-none p (x ∷ xs) ys h k =
    let first : p x ≡ false = or-none_left (p x) (list_any p xs) h in
    let rest : list_any p (xs ++ ys) ≡ false = any-none p xs ys (or-none_right (p x) (list_any p xs) h) k in
    ap (λ b. b || list_any p (xs ++ ys)) first ∙ rest

pub none-left : {A : Type 0} (p : A → Bool) (xs ys : List A) → list_any p (xs ++ ys) ≡ false → list_any p xs ≡ false
none-left p [] ys h = refl
none-left p (x ∷ xs) ys h =
    let first : p x ≡ false = or-none_left (p x) (list_any p (xs ++ ys)) h in
    ap (λ b. b || list_any p xs) first ∙ none-left p xs ys (or-none_right (p x) (list_any p (xs ++ ys)) h)

pub none-right : {A : Type 0} (p : A → Bool) (xs ys : List A) → list_any p (xs ++ ys) ≡ false → list_any p ys ≡ false
none-right p [] ys h = h
none-right p (x ∷ xs) ys h = none-right p xs ys (or-none_right (p x) (list_any p (xs ++ ys)) h)

some-product : (ps qs : List (List Event)) → Some' Any ps → Some' Any qs → Some' Any (product ps qs)
some-product [] qs h k = absurd h
some-product (p ∷ ps) qs h k = some-left Any (map (λ q. p ++ q) qs) (product ps qs) (some-map (λ q. p ++ q) Any qs k)

none-prefixed : (q : Event → Bool) (p : List Event) → list_any q p ≡ false → (qs : List (List Event)) → Each (NoneOf q) qs → Each (NoneOf q) (map (λ x. p ++ x) qs)
none-prefixed q p h [] k = tt
none-prefixed q p h (x ∷ xs) k = (any-none q p x h k.0, none-prefixed q p h xs k.1)

none-product : (q : Event → Bool) (ps qs : List (List Event)) → Each (NoneOf q) ps → Each (NoneOf q) qs → Each (NoneOf q) (product ps qs)
none-product q [] qs h k = tt
none-product q (p ∷ ps) qs h k = each-join (NoneOf q) (map (λ x. p ++ x) qs) (product ps qs) (none-prefixed q p h.0 qs k) (none-product q ps qs h.1 k)

first-covered : (A : Bit → Bool) (p : List Event) (qs : List (List Event)) → Some' Any qs → Each (λ q. Covered A (p ++ q)) qs → Covered A p
first-covered A p [] h k = absurd h
first-covered A p (q ∷ qs) h k = covered-left A p q k.0

firsts : (A : Bit → Bool) (ps qs : List (List Event)) → Some' Any qs → Each (Covered A) (product ps qs) → Each (Covered A) ps
firsts A [] qs h k = tt
firsts A (p ∷ ps) qs h k = (
  first-covered A p qs h (each-unmap (λ q. p ++ q) (Covered A) qs (each-left (Covered A) (map (λ q. p ++ q) qs) (product ps qs) k)),
  firsts A ps qs h (each-right (Covered A) (map (λ q. p ++ q) qs) (product ps qs) k),
)

seconds : (A : Bit → Bool) (P Q : List Event → Type 0) (R : Type 0) (ps qs : List (List Event)) → Each (Covered A) (product ps qs) → Some' P ps →
    ((p : List Event) → P p → Each (λ q. Covered A (p ++ q)) qs → Some' (λ q. Q (p ++ q)) qs × R) → Some' Q (product ps qs) × R
seconds A P Q R [] qs c h k = absurd h
seconds A P Q R (p ∷ ps) qs c (inl h) k =
    let here : Some' (λ q. Q (p ++ q)) qs × R = k p h (each-unmap (λ q. p ++ q) (Covered A) qs (each-left (Covered A) (map (λ q. p ++ q) qs) (product ps qs) c)) in
    (some-left Q (map (λ q. p ++ q) qs) (product ps qs) (some-map (λ q. p ++ q) Q qs here.0), here.1)
seconds A P Q R (p ∷ ps) qs c (inr h) k =
    let rest : Some' Q (product ps qs) × R = seconds A P Q R ps qs (each-right (Covered A) (map (λ q. p ++ q) qs) (product ps qs) c) h k in
    (some-right Q (map (λ q. p ++ q) qs) (product ps qs) rest.0, rest.1)

module _ (g h : State → State) (a b : Flow) (f : Runs g a) (k : Runs h b) where
  then-run : (A : Bit → Bool) (s t : State) → Same A s.valuation t.valuation → Each (Covered A) (product a.paths b.paths) → Outcome A (product a.paths b.paths) s t (h (g s)) (h (g t))
  then-run A s t same c =
      let first : Outcome A a.paths s t (g s) (g t) = f.run A s t same (firsts A a.paths b.paths k.some c) in
      let P : List Event → Type 0 = λ p. Same (After A p) (g s).valuation (g t).valuation in
      let Q : List Event → Type 0 = λ p. Same (After A p) (h (g s)).valuation (h (g t)).valuation in
      let R : Type 0 = ((h (g s)).pending ≡ (g s).pending) × ((h (g t)).pending ≡ (g t).pending) in
      let both : Some' Q (product a.paths b.paths) × R = seconds A P Q R a.paths b.paths c first.0 (λ p same cs.
      (let then_ : Outcome (After A p) b.paths (g s) (g t) (h (g s)) (h (g t)) =
      k.run (After A p) (g s) (g t) same (each-imp (λ q. Covered A (p ++ q)) (Covered (After A p)) b.paths (covered-right A p) cs) in (
        some-imp (λ q. Same (After (After A p) q) (h (g s)).valuation (h (g t)).valuation) (λ q. Q (p ++ q)) b.paths
            (λ q. after-join A p q (h (g s)).valuation (h (g t)).valuation) then_.0,
        (then_.1, then_.2),
      ))) in
      (both.0, both.1.0 ∙ first.1, both.1.1 ∙ first.2)

  pub then-runs : Runs (λ s. h (g s)) (then_flow a b)
  then-runs = record {
    some = some-product a.paths b.paths f.some k.some;
    inside = λ q n. none-product q a.paths b.paths (f.inside q (none-left q a.events b.events n)) (k.inside q (none-right q a.events b.events n));
    run = then-run;
  }

-- ---- after a look at some bits

module _ (bs : List Bit) (f : Flow) where
  abbrev e : Event
  e = record { reads = bs; targets = []; at_once = true; place = 0 }

  ungrown : (A : Bit → Bool) (b : Bit) → grow A [] b ≡ true → A b ≡ true
  ungrown A b h = elim (or-split (A b) false h) [ inl k ↦ k | inr k ↦ cc ]

  look-first : (A : Bit → Bool) (qs : List (List Event)) → Some' Any qs → Each (λ q. Covered A (e ∷ q)) qs → ReadsIn A bs
  look-first A [] h k = absurd h
  look-first A (q ∷ qs) h k = k.0.0

  pub look-runs : (g : State → State) → Some' Any f.paths → ((q : Event → Bool) → list_any q f.events ≡ false → Each (NoneOf q) f.paths) →
      ((A : Bit → Bool) (s t : State) → Same A s.valuation t.valuation → ReadsIn A bs → Each (Covered A) f.paths → Outcome A f.paths s t (g s) (g t)) →
      Runs g (then_flow (looks bs) f)
  look-runs g some inside run = record {
    some = some-product ((e ∷ []) ∷ []) f.paths (inl tt) some;
    inside = λ q n. none-product q ((e ∷ []) ∷ []) f.paths (none-left q (e ∷ []) f.events n, tt) (inside q (none-right q (e ∷ []) f.events n));
    run = λ A s t same c.
        (let cs : Each (λ q. Covered A (e ∷ q)) f.paths = each-unmap (λ q. e ∷ q) (Covered A) f.paths (each-left (Covered A) (map (λ q. e ∷ q) f.paths) [] c) in
        let reads : ReadsIn A bs = look-first A f.paths some cs in
        let out : Outcome (grow A []) f.paths s t (g s) (g t) =
        run (grow A []) s t (λ b h. same b (ungrown A b h)) (λ b h. or-left (A b) false (reads b h))
        (each-imp (λ q. Covered A (e ∷ q)) (Covered (grow A [])) f.paths (λ q h. h.2) cs) in
        (some-left _ (map (λ q. e ∷ q) f.paths) [] (some-map (λ q. e ∷ q) (λ p. Same (After A p) (g s).valuation (g t).valuation) f.paths out.0), out.1, out.2));
  }

-- ---- either branch

module _ (g h : State → State) (a b : Flow) (f : Runs g a) (k : Runs h b) where
  abbrev chosen_flow : Bool → Bool → Flow
  chosen_flow constant holds =
      if constant then (let x : Flow = record { events = a.events ++ b.events; paths = if holds then a.paths else b.paths } in x) else either_flow a b

  pub either-some : (constant holds : Bool) → Some' Any (chosen_flow constant holds).paths
  either-some true true = f.some
  either-some true false = k.some
  either-some false holds = some-left Any a.paths b.paths f.some

  pub either-inside : (constant holds : Bool) (q : Event → Bool) → list_any q (chosen_flow constant holds).events ≡ false → Each (NoneOf q) (chosen_flow constant holds).paths
  either-inside true true q n = f.inside q (none-left q a.events b.events n)
  either-inside true false q n = k.inside q (none-right q a.events b.events n)
  either-inside false holds q n = each-join (NoneOf q) a.paths b.paths (f.inside q (none-left q a.events b.events n)) (k.inside q (none-right q a.events b.events n))

  in-left : (A : Bit → Bool) (s t s' t' : State) → Outcome A a.paths s t s' t' → Outcome A (a.paths ++ b.paths) s t s' t'
  in-left A s t s' t' o = (some-left _ a.paths b.paths o.0, o.1, o.2)

  in-right : (A : Bit → Bool) (s t s' t' : State) → Outcome A b.paths s t s' t' → Outcome A (a.paths ++ b.paths) s t s' t'
  in-right A s t s' t' o = (some-right _ a.paths b.paths o.0, o.1, o.2)

  pub either-run : (constant holds x y : Bool) → x ≡ y → (constant ≡ true → x ≡ holds) → (A : Bit → Bool) (s t : State) → Same A s.valuation t.valuation →
      Each (Covered A) (chosen_flow constant holds).paths → Outcome A (chosen_flow constant holds).paths s t (if x then g s else h s) (if y then g t else h t)
  either-run true true true true e c A s t same cs = f.run A s t same cs
  either-run true true false false e c A s t same cs = absurd (let d : false ≡ true = c refl in cc)
  either-run true false true true e c A s t same cs = absurd (let d : true ≡ false = c refl in cc)
  either-run true false false false e c A s t same cs = k.run A s t same cs
  either-run false holds true true e c A s t same cs = in-left A s t (g s) (g t) (f.run A s t same (each-left (Covered A) a.paths b.paths cs))
  either-run false holds false false e c A s t same cs = in-right A s t (h s) (h t) (k.run A s t same (each-right (Covered A) a.paths b.paths cs))
  either-run constant holds true false e c A s t same cs = absurd (cc)
  either-run constant holds false true e c A s t same cs = absurd (cc)
