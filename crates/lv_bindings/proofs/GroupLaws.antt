-- The declarations of a scope by name, one by one.
use Rattle.std.proofs.Common.{◌≡◌, ◌⊎◌, inl, inr, ℕ, zero, suc, ◌+◌, ◌<◌, ◌≤◌, arith, Bool, true, false, not, ◌||◌, List, [], ◌∷◌, ◌++◌, map, length, refl, sym, ap, ◌∙◌, subst, Option, Some, None}
use Rattle.std.specs.Prelude.{bytes_eq, cond, slice_get, slice_set, filter, if◌then◌else◌, Result, OnOk}
use Rattle.std.proofs.Common.{Ok, Err}
use Rattle.std.specs.List.{list_any, position_or_len}
use Rattle.std.proofs.lemmas.Option.{slice_get_past, slice_get_within}
use Rattle.std.proofs.lemmas.List.{length-append, length-map}
use Rattle.lv_ast.specs.Names.{Name}
use Rattle.lv_source.specs.Declarations.{Declaration}
use Rattle.lv_source.specs.Parts.{numbered_from}
use Rattle.lv_source.specs.Scopes.{is_direction, is_input, is_reg, is_parameter}
use Rattle.lv_source.specs.ScopeRules.{is_nil}
use Rattle.lv_source.proofs.Tests.{decide, same_name, name-itself}
use Rattle.lv_source.proofs.Summaries.{any-join, append-none}
use Rattle.lv_source.proofs.Bridges.{map-join, two}
use Rattle.lv_scopes.specs.NameLists.{listed}
use Rattle.lv_scopes.specs.declared.table.NameTable.{NameTable}
use Rattle.lv_scopes.proofs.Indexed.{turned}
use Rattle.lv_bindings.specs.declared.group.Group.{Group}
use Rattle.lv_bindings.specs.declared.groups.Groups.{Groups}
use Rattle.lv_bindings.specs.Grouping.{Numbered, is_named, named, number_if, either, head_number, has_two, first_direction, any_of, group_of, group_for, is_some, single, grown, AreGrouped}
use Rattle.lv_bindings.proofs.Lists.{get-left, get-right, get-set_same, get-set_other, length-set, got-or-past, filter-join, map-alike, numbered-join, numbered-get, number_in, number-within, number-past, number-one, number-older, number-newer, number-of_one}

-- ---- one more in a group

either-none : (o : Option ℕ) → either o None ≡ o
either-none None = refl
either-none (Some k) = refl

either-either : (a b c : Option ℕ) → either a (either b c) ≡ either (either a b) c
either-either None b c = refl
either-either (Some k) b c = refl

or-false : (b : Bool) → (b || false) ≡ b
or-false true = refl
or-false false = refl

or-or : (a b c : Bool) → (a || (b || c)) ≡ (a || b || c)
or-or true b c = refl
or-or false b c = refl

second-more : (xs : List Numbered) (x : Numbered) → head_number (xs ++ x ∷ []) ≡ either (head_number xs) (Some x.0)
second-more [] x = refl
second-more (y ∷ xs) x = refl

third-more : (xs : List Numbered) (x : Numbered) → has_two (xs ++ x ∷ []) ≡ is_some (head_number xs)
third-more [] x = refl
third-more (y ∷ []) x = refl
third-more (y ∷ z ∷ xs) x = refl

direction-more : (xs : List Numbered) (x : Numbered) → first_direction (xs ++ x ∷ []) ≡ either (first_direction xs) (number_if (is_direction x.1) x.0)
direction-more [] x = either-none (number_if (is_direction x.1) x.0)
direction-more (y ∷ xs) x =
    ap (either (number_if (is_direction y.1) y.0)) (direction-more xs x) ∙
    either-either (number_if (is_direction y.1) y.0) (first_direction xs) (number_if (is_direction x.1) x.0)

any-more : (p : Declaration → Bool) (xs : List Numbered) (x : Numbered) → any_of p (xs ++ x ∷ []) ≡ (any_of p xs || p x.1)
any-more p xs x = any-join (λ y. p y.1) xs (x ∷ []) ∙ ap (λ b. any_of p xs || b) (or-false (p x.1))

abbrev group : ℕ → Option ℕ → Bool → Option ℕ → Bool → Bool → Bool → Option Group
group a b c d e f g = Some (record { first = a; second = b; third = c; direction = d; input = e; variable = f; parameter = g })

alike : (a : ℕ) (b b' : Option ℕ) (c c' : Bool) (d d' : Option ℕ) (e e' f f' g g' : Bool) → b ≡ b' → c ≡ c' → d ≡ d' → e ≡ e' → f ≡ f' → g ≡ g' →
    group a b c d e f g ≡ group a b' c' d' e' f' g'
alike a b b' c c' d d' e e' f f' g g' p q r s t u =
    ap (λ z. group a z c d e f g) p ∙ ap (λ z. group a b' z d e f g) q ∙ ap (λ z. group a b' c' z e f g) r ∙ ap (λ z. group a b' c' d' z f g) s ∙
    ap (λ z. group a b' c' d' e' z g) t ∙ ap (λ z. group a b' c' d' e' f' z) u

pub one_single : (x : Numbered) → group_of (x ∷ []) ≡ Some (single x)
one_single x = alike x.0 None None false false _ _ _ _ _ _ _ _ refl refl (either-none (number_if (is_direction x.1) x.0)) (or-false (is_input x.1))
    (or-false (is_reg x.1)) (or-false (is_parameter x.1))

any-first : (p : Declaration → Bool) (y : Numbered) (xs : List Numbered) (x : Numbered) → (p y.1 || any_of p (xs ++ x ∷ [])) ≡ (p y.1 || any_of p xs || p x.1)
any-first p y xs x = ap (λ b. p y.1 || b) (any-more p xs x) ∙ or-or (p y.1) (any_of p xs) (p x.1)

abbrev grown_if : Numbered → Option Group → Option Group
grown_if x None = None
grown_if x (Some a) = Some (grown a x)

more : (y : Numbered) (xs : List Numbered) (x : Numbered) → group_of (y ∷ xs ++ x ∷ []) ≡ grown_if x (group_of (y ∷ xs))
more y xs x = alike y.0 _ _ _ _ _ _ _ _ _ _ _ _ (second-more xs x) (third-more xs x) (direction-more (y ∷ xs) x) (any-first is_input y xs x)
    (any-first is_reg y xs x) (any-first is_parameter y xs x)

pub one_grown : (xs : List Numbered) (g : Group) (x : Numbered) → group_of xs ≡ Some g → group_of (xs ++ x ∷ []) ≡ Some (grown g x)
one_grown [] g x h = absurd (cc)
one_grown (y ∷ xs) g x h = subst (λ o. group_of (y ∷ xs ++ x ∷ []) ≡ grown_if x o) h (more y xs x)

-- ---- one more in a scope

pub named-more : (ds : List Declaration) (d : Declaration) (name : Name) →
    named (ds ++ d ∷ []) name ≡ named ds name ++ cond (bytes_eq d.name.name name) ((length ds, d) ∷ []) []
named-more ds d name =
    (let e : 0 + length ds ≡ length ds = omega arith in
    ap (filter (is_named name)) (numbered-join 0 ds (d ∷ []) ∙ ap (λ n. numbered_from 0 ds ++ (n, d) ∷ []) e) ∙
    filter-join (is_named name) (numbered_from 0 ds) ((length ds, d) ∷ []))

head_in : {A : Type 0} (y : A) (zs : List A) (b : Bool) → b ≡ true → cond b (y ∷ zs) zs ≡ [] → ⊥
head_in y zs true i j = cc
head_in y zs false i j = cc

tail_in : {A : Type 0} (y : A) (zs : List A) (b : Bool) → cond b (y ∷ zs) zs ≡ [] → zs ≡ []
tail_in y zs true j = absurd (cc)
tail_in y zs false j = j

not-empty : {A : Type 0} (p : A → Bool) (xs : List A) (k : ℕ) (x : A) → slice_get xs k ≡ Some x → p x ≡ true → filter p xs ≡ [] → ⊥
not-empty p [] k x h e z = cc
not-empty p (y ∷ xs) zero x h e z = head_in y (filter p xs) (p y) (ap p (let q : y ≡ x = cc in q) ∙ e) z
not-empty p (y ∷ xs) (suc k) x h e z = not-empty p xs k x h e (tail_in y (filter p xs) (p y) z)

pub no_group : (xs : List Numbered) → group_of xs ≡ None → xs ≡ []
no_group [] h = refl
no_group (x ∷ xs) h = absurd (cc)

pub declared_has : (ds : List Declaration) (k : ℕ) (d : Declaration) → slice_get ds k ≡ Some d → group_for ds d.name.name ≡ None → ⊥
declared_has ds k d h e =
    not-empty (is_named d.name.name) (numbered_from 0 ds) k (0 + k, d) (numbered-get 0 ds k d h) (name-itself d.name.name)
    (no_group (named ds d.name.name) e)

-- what is found has its group at a number within
pub within : (ds : List Declaration) (g : Groups) → AreGrouped ds g → (k : ℕ) (d : Declaration) → slice_get ds k ≡ Some d →
    number_in (listed g.names) d.name.name < length g.groups.items
within ds g h k d e = elim (got-or-past g.groups.items (number_in (listed g.names) d.name.name)) [
  | inl x ↦ slice_get_within g.groups.items (number_in (listed g.names) d.name.name) x.0 x.1
  | inr l ↦ absurd (declared_has ds k d e (sym (h.groups d.name.name) ∙ slice_get_past g.groups.items (number_in (listed g.names) d.name.name) l))
]

module _ (ds : List Declaration) (d : Declaration) (old new : Groups) (h : AreGrouped ds old) (number : ℕ)
    (n : number ≡ number_in (listed old.names) d.name.name)
    (numbers : new.numbers.items ≡ old.numbers.items ++ number ∷ []) where
  abbrev name : Name
  name = d.name.name

  abbrev xs : List Name
  xs = listed old.names

  abbrev x : Numbered
  x = (length ds, d)

  same_group : (m : Name) (b : Bool) → bytes_eq name m ≡ b → group_for (ds ++ d ∷ []) m ≡ group_of (named ds m ++ cond b (x ∷ []) [])
  same_group m b e = ap group_of (named-more ds d m) ∙ ap (λ c. group_of (named ds m ++ cond c (x ∷ []) [])) e

  other_group : (m : Name) → bytes_eq name m ≡ false → group_for (ds ++ d ∷ []) m ≡ group_for ds m
  other_group m e = same_group m false e ∙ ap group_of (append-none (named ds m))

  apart : (m : Name) → bytes_eq name m ≡ false → name ≡ m → ⊥
  apart m e s = (let t : bytes_eq name name ≡ true = name-itself name in let u : bytes_eq name name ≡ false = ap (bytes_eq name) s ∙ e in cc)

  all_numbers : (ys : List Name) → ((k : ℕ) (e : Declaration) → slice_get ds k ≡ Some e → number_in xs e.name.name ≡ number_in ys e.name.name) →
      number ≡ number_in ys name → new.numbers.items ≡ map (λ e. number_in ys e.name.name) (ds ++ d ∷ [])
  all_numbers ys f e =
      numbers ∙ two (λ (us : List ℕ) (v : ℕ). us ++ v ∷ []) _ _ _ _ (h.numbers ∙ map-alike (λ e. number_in xs e.name.name) (λ e. number_in ys e.name.name) ds f) e ∙
      sym (map-join (λ e. number_in ys e.name.name) ds (d ∷ []))

  -- a name that is there
  module _ (known : list_any (bytes_eq name) xs ≡ true) (names : listed new.names ≡ xs) (g : Group) (is : slice_get old.groups.items number ≡ Some g)
      (groups : new.groups.items ≡ slice_set old.groups.items number (grown g x)) where
    known_get : (m : Name) → slice_get new.groups.items (number_in xs m) ≡ group_for (ds ++ d ∷ []) m
    known_get m = elim (decide (bytes_eq name m)) [
      | inl e ↦
          (let s : name ≡ m = same_name name m e in
          let l : number < length old.groups.items = slice_get_within old.groups.items number g is in
          let i : number_in xs m ≡ number = ap (number_in xs) (sym s) ∙ sym n in
          let own : group_of (named ds m) ≡ Some g = sym (h.groups m) ∙ ap (slice_get old.groups.items) i ∙ is in
          ap (slice_get new.groups.items) i ∙ ap (λ gs. slice_get gs number) groups ∙ get-set_same old.groups.items number (grown g x) l ∙
          sym (same_group m true e ∙ one_grown (named ds m) g x own))
      | inr e ↦
          (let l : number_in xs name < length xs = number-within xs name known in
          ap (λ gs. slice_get gs (number_in xs m)) groups ∙
          get-set_other old.groups.items number (number_in xs m) (grown g x) (λ s. apart m e (number-one xs name m l (sym n ∙ s))) ∙ h.groups m ∙
          sym (other_group m e))
    ]

    pub known_more : AreGrouped (ds ++ d ∷ []) new
    known_more = record {
      count = ap length groups ∙ length-set old.groups.items number (grown g x) ∙ h.count ∙ ap length (sym names);
      groups = λ m. ap (λ (ys : List Name). slice_get new.groups.items (number_in ys m)) names ∙ known_get m;
      numbers = all_numbers (listed new.names) (λ k e i. ap (λ ys. number_in ys e.name.name) (sym names)) (n ∙ ap (λ ys. number_in ys name) (sym names));
    }

  -- a new name
  module _ (fresh : list_any (bytes_eq name) xs ≡ false) (names : listed new.names ≡ xs ++ name ∷ [])
      (groups : new.groups.items ≡ old.groups.items ++ single x ∷ []) where
    abbrev ys : List Name
    ys = xs ++ name ∷ []

    at_end : number ≡ length old.groups.items
    at_end = n ∙ number-past xs name fresh ∙ sym h.count

    no_own : named ds name ≡ []
    no_own = no_group (named ds name) (sym (h.groups name) ∙
        slice_get_past old.groups.items (number_in xs name) (let e : number ≡ length old.groups.items = at_end in let i : number ≡ number_in xs name = n in omega arith))

    last_get : slice_get (old.groups.items ++ single x ∷ []) (length old.groups.items) ≡ Some (single x)
    last_get = (let e : length old.groups.items ≡ length old.groups.items + 0 = omega arith in
        ap (slice_get (old.groups.items ++ single x ∷ [])) e ∙ get-right old.groups.items (single x ∷ []) 0)

    own_get : (m : Name) → bytes_eq name m ≡ true → slice_get (old.groups.items ++ single x ∷ []) (number_in ys m) ≡ group_for (ds ++ d ∷ []) m
    own_get m e =
        (let s : name ≡ m = same_name name m e in
        let i : number_in ys name ≡ length old.groups.items =
        (let a : number_in ys name ≡ length xs + number_in (name ∷ []) name = number-newer xs (name ∷ []) name fresh in
        let b : number_in (name ∷ []) name ≡ 0 = number-of_one name name true (name-itself name) in
        let c : length old.groups.items ≡ length xs = h.count in omega arith) in
        subst (λ z. slice_get (old.groups.items ++ single x ∷ []) (number_in ys z) ≡ group_for (ds ++ d ∷ []) z) s
        (ap (slice_get (old.groups.items ++ single x ∷ [])) i ∙ last_get ∙
        sym (same_group name true (name-itself name) ∙ ap (λ zs. group_of (zs ++ x ∷ [])) no_own ∙ one_single x)))

    other_get : (m : Name) → bytes_eq name m ≡ false → slice_get (old.groups.items ++ single x ∷ []) (number_in ys m) ≡ slice_get old.groups.items (number_in xs m)
    other_get m e = elim (decide (list_any (bytes_eq m) xs)) [
      | inl k ↦
          (let l : number_in xs m < length xs = number-within xs m k in
          let c : length old.groups.items ≡ length xs = h.count in
          ap (slice_get (old.groups.items ++ single x ∷ [])) (number-older xs (name ∷ []) m l) ∙
          get-left old.groups.items (single x ∷ []) (number_in xs m) (omega arith))
      | inr k ↦
          (let a : number_in ys m ≡ length xs + number_in (name ∷ []) m = number-newer xs (name ∷ []) m k in
          let b : number_in (name ∷ []) m ≡ 1 = number-of_one name m false (turned m name ∙ e) in
          let c : length old.groups.items ≡ length xs = h.count in
          let p : number_in xs m ≡ length xs = number-past xs m k in
          let w : length (old.groups.items ++ single x ∷ []) ≡ length old.groups.items + 1 = length-append old.groups.items (single x ∷ []) in
          slice_get_past (old.groups.items ++ single x ∷ []) (number_in ys m) (omega arith) ∙
          sym (slice_get_past old.groups.items (number_in xs m) (omega arith)))
    ]

    fresh_get : (m : Name) → slice_get (old.groups.items ++ single x ∷ []) (number_in ys m) ≡ group_for (ds ++ d ∷ []) m
    fresh_get m = elim (decide (bytes_eq name m)) [
      | inl e ↦ own_get m e
      | inr e ↦ other_get m e ∙ h.groups m ∙ sym (other_group m e)
    ]

    pub fresh_more : AreGrouped (ds ++ d ∷ []) new
    fresh_more = record {
      count = (let c : length old.groups.items ≡ length xs = h.count in
          let a : length new.groups.items ≡ length old.groups.items + 1 = ap length groups ∙ length-append old.groups.items (single x ∷ []) in
          let b : length (listed new.names) ≡ length xs + 1 = ap length names ∙ length-append xs (name ∷ []) in omega arith);
      groups = λ m. two (λ (gs : List Group) (zs : List Name). slice_get gs (number_in zs m)) _ _ _ _ groups names ∙ fresh_get m;
      numbers = all_numbers (listed new.names)
          (λ k e i. (let l : number_in xs e.name.name < length xs = subst (λ z. number_in xs e.name.name < z) h.count (within ds old h k e i) in
          sym (number-older xs (name ∷ []) e.name.name l) ∙ ap (λ zs. number_in zs e.name.name) (sym names)))
          (n ∙ number-past xs name fresh ∙
          sym (ap (λ zs. number_in zs name) names ∙ number-newer xs (name ∷ []) name fresh ∙ ap (λ z. length xs + z) (number-of_one name name true (name-itself name)) ∙
          (let z : length xs + 0 ≡ length xs = omega arith in z)));
    }

-- ---- one more, by what the calls say

pub ok_both : {A E : Type 0} (r : Result A E) (P Q R : Type 0) → (P → Q → R) → OnOk r P → OnOk r Q → OnOk r R
ok_both (Ok a) P Q R f h k = f h k
ok_both (Err e) P Q R f h k = tt

module _ (ds : List Declaration) (d : Declaration) (old new : Groups) (h : AreGrouped ds old) (number k : ℕ)
    (n : number ≡ number_in (listed old.names) d.name.name)
    (names : listed new.names ≡ (if list_any (bytes_eq d.name.name) (listed old.names) then listed old.names else listed old.names ++ d.name.name ∷ []))
    (numbers : new.numbers.items ≡ old.numbers.items ++ number ∷ []) (i : k ≡ length old.numbers.items) where
  counted : k ≡ length ds
  counted = i ∙ ap length h.numbers ∙ length-map ds (λ e. number_in (listed old.names) e.name.name)

  module _ (known : (g : Group) → slice_get old.groups.items number ≡ Some g → new.groups.items ≡ slice_set old.groups.items number (grown g (k, d)))
      (fresh : slice_get old.groups.items number ≡ None → new.groups.items ≡ old.groups.items ++ single (k, d) ∷ []) where
    pub more_grouped : AreGrouped (ds ++ d ∷ []) new
    more_grouped = elim (decide (list_any (bytes_eq d.name.name) (listed old.names))) [
      | inl e ↦ elim (got-or-past old.groups.items number) [
        | inl g ↦ known_more ds d old new h number n numbers e
            (names ∙ ap (λ b. if b then listed old.names else listed old.names ++ d.name.name ∷ []) e) g.0 g.1
            (subst (λ z. new.groups.items ≡ slice_set old.groups.items number (grown g.0 (z, d))) counted (known g.0 g.1))
        | inr l ↦ absurd (
            let w : number_in (listed old.names) d.name.name < length (listed old.names) = number-within (listed old.names) d.name.name e in
            let c : length old.groups.items ≡ length (listed old.names) = h.count in
            let q : number ≡ number_in (listed old.names) d.name.name = n in omega arith)
      ]
      | inr e ↦ fresh_more ds d old new h number n numbers e
          (names ∙ ap (λ b. if b then listed old.names else listed old.names ++ d.name.name ∷ []) e)
          (subst (λ z. new.groups.items ≡ old.groups.items ++ single (z, d) ∷ []) counted
          (fresh (slice_get_past old.groups.items number
          (let p : number_in (listed old.names) d.name.name ≡ length (listed old.names) = number-past (listed old.names) d.name.name e in
          let c : length old.groups.items ≡ length (listed old.names) = h.count in
          let q : number ≡ number_in (listed old.names) d.name.name = n in omega arith))))
    ]
