-- The signals of a design are those of its declared names that are no clocks, in the same order.
use Rattle.std.proofs.Common.{◌≡◌, ℕ, ◌≤◌, Bool, true, false, ◌&&◌, ◌||◌, List, [], ◌∷◌, ◌++◌, map, refl, sym, ap, ◌∙◌, arith}
use Rattle.std.specs.Prelude.{flat_map, filter, cond, nat_le, take, if◌then◌else◌}
use Rattle.std.proofs.lemmas.Bool.{leb-true, le-leb, leb-false}
use Rattle.lv_ast.specs.Names.{alone}
use Rattle.lv_source.specs.Names.{Declared, known, is_signal_sort, is_clock_sort}
use Rattle.lv_source.specs.Declarations.{Declaration, declared_as}
use Rattle.lv_source.specs.Scopes.{Scope, is_direction}
use Rattle.lv_source.specs.Parts.{Design, declares_here, stands_here, is_declared_sort, is_signal, is_first, put_by_place, by_place, scope_signals, scope_declared, signals_of, declared_of, scopes_of, numbered_from}
use Rattle.lv_source.proofs.Bridges.{filter-map}

-- ---- lists that are ordered by place

AllAbove : ℕ → List (ℕ × Declared) → Type 0
AllAbove n [] = Unit {0}
AllAbove n (x ∷ xs) = (nat_le n x.0 ≡ true) × AllAbove n xs

IsSorted : List (ℕ × Declared) → Type 0
IsSorted [] = Unit {0}
IsSorted (x ∷ xs) = AllAbove x.0 xs × IsSorted xs

le-both : (a b c : ℕ) → nat_le a b ≡ true → nat_le b c ≡ true → nat_le a c ≡ true
le-both a b c h k = (let x : a ≤ b = leb-true a b h in let y : b ≤ c = leb-true b c k in le-leb a c (omega arith))

le-other : (a b : ℕ) → nat_le a b ≡ false → nat_le b a ≡ true
le-other a b h = (let x : b ≤ a = (let y : _ = leb-false a b h in omega arith) in le-leb b a x)

above_less : (m n : ℕ) (xs : List (ℕ × Declared)) → nat_le m n ≡ true → AllAbove n xs → AllAbove m xs
unfolding AllAbove
above_less m n [] h k = tt
above_less m n (x ∷ xs) h k = (le-both m n x.0 h k.0, above_less m n xs h k.1)

put_above_if : (b : Bool) (n : ℕ) (d e : ℕ × Declared) (es rest : List (ℕ × Declared)) → nat_le n d.0 ≡ true → AllAbove n (e ∷ es) → AllAbove n rest → AllAbove n (if b then d ∷ e ∷ es else e ∷ rest)
unfolding AllAbove
put_above_if true n d e es rest h k r = (h, k)
put_above_if false n d e es rest h k r = (k.0, r)

put_above : (n : ℕ) (d : ℕ × Declared) (es : List (ℕ × Declared)) → nat_le n d.0 ≡ true → AllAbove n es → AllAbove n (put_by_place d es)
unfolding AllAbove
put_above n d [] h k = (h, tt)
put_above n d (e ∷ es) h k = put_above_if (nat_le d.0 e.0) n d e es (put_by_place d es) h k (put_above n d es h k.1)

put_sorted_if : (b : Bool) (d e : ℕ × Declared) (es rest : List (ℕ × Declared)) → nat_le d.0 e.0 ≡ b → IsSorted (e ∷ es) → AllAbove e.0 es → (nat_le e.0 d.0 ≡ true → AllAbove e.0 rest) → IsSorted rest →
    IsSorted (if b then d ∷ e ∷ es else e ∷ rest)
unfolding IsSorted AllAbove
put_sorted_if true d e es rest h s a f r = ((h, above_less d.0 e.0 es h a), s)
put_sorted_if false d e es rest h s a f r = (f (le-other d.0 e.0 h), r)

put_sorted : (d : ℕ × Declared) (es : List (ℕ × Declared)) → IsSorted es → IsSorted (put_by_place d es)
unfolding IsSorted AllAbove
put_sorted d [] s = (tt, tt)
put_sorted d (e ∷ es) s = put_sorted_if (nat_le d.0 e.0) d e es (put_by_place d es) refl s s.0 (λ h. put_above e.0 d es h s.0) (put_sorted d es s.1)

all_sorted : (ds : List (ℕ × Declared)) → IsSorted (by_place ds)
unfolding IsSorted
all_sorted [] = tt
all_sorted (d ∷ ds) = put_sorted d (by_place ds) (all_sorted ds)

-- ---- a filter of what is put in order

module _ (q : ℕ × Declared → Bool) where
  above_if : (b : Bool) (n : ℕ) (x : ℕ × Declared) (xs : List (ℕ × Declared)) → nat_le n x.0 ≡ true → AllAbove n xs → AllAbove n (cond b (x ∷ xs) xs)
  unfolding AllAbove
  above_if true n x xs h k = (h, k)
  above_if false n x xs h k = k

  above_filter : (n : ℕ) (xs : List (ℕ × Declared)) → AllAbove n xs → AllAbove n (filter q xs)
  unfolding AllAbove
  above_filter n [] h = tt
  above_filter n (x ∷ xs) h = above_if (q x) n x (filter q xs) h.0 (above_filter n xs h.1)

  if_yes : {A : Type 0} (b : Bool) (x y : A) → b ≡ true → (if b then x else y) ≡ x
  if_yes true x y h = refl
  if_yes false x y h = cc

  if_no : {A : Type 0} (b : Bool) (x y : A) → b ≡ false → (if b then x else y) ≡ y
  if_no true x y h = cc
  if_no false x y h = refl

  put_front : (d : ℕ × Declared) (xs : List (ℕ × Declared)) → AllAbove d.0 xs → put_by_place d xs ≡ d ∷ xs
  unfolding AllAbove
  put_front d [] h = refl
  put_front d (x ∷ xs) h = if_yes (nat_le d.0 x.0) _ _ h.0

  kept : (x : ℕ × Declared) (xs : List (ℕ × Declared)) → q x ≡ true → filter q (x ∷ xs) ≡ x ∷ filter q xs
  kept x xs h = ap (λ b. cond b (x ∷ filter q xs) (filter q xs)) h

  dropped : (x : ℕ × Declared) (xs : List (ℕ × Declared)) → q x ≡ false → filter q (x ∷ xs) ≡ filter q xs
  dropped x xs h = ap (λ b. cond b (x ∷ filter q xs) (filter q xs)) h

  put_kept_if : (d e : ℕ × Declared) (es rest : List (ℕ × Declared)) (b : Bool) → nat_le d.0 e.0 ≡ b → (c : Bool) → q e ≡ c → q d ≡ true → AllAbove e.0 es → filter q rest ≡ put_by_place d (filter q es) →
      filter q (if b then d ∷ e ∷ es else e ∷ rest) ≡ put_by_place d (filter q (e ∷ es))
  unfolding AllAbove
  put_kept_if d e es rest true h c k j a r =
      kept d (e ∷ es) j ∙ sym (put_front d (filter q (e ∷ es)) (above_filter d.0 (e ∷ es) (h, above_less d.0 e.0 es h a)))
  put_kept_if d e es rest false h true k j a r =
      kept e rest k ∙ (ap (λ zs. e ∷ zs) r ∙ (sym (if_no (nat_le d.0 e.0) (d ∷ e ∷ filter q es) (e ∷ put_by_place d (filter q es)) h) ∙ ap (put_by_place d) (sym (kept e es k))))
  put_kept_if d e es rest false h false k j a r = dropped e rest k ∙ (r ∙ ap (put_by_place d) (sym (dropped e es k)))

  put_kept : (d : ℕ × Declared) (es : List (ℕ × Declared)) → q d ≡ true → IsSorted es → filter q (put_by_place d es) ≡ put_by_place d (filter q es)
  unfolding IsSorted
  put_kept d [] h s = kept d [] h
  put_kept d (e ∷ es) h s = put_kept_if d e es (put_by_place d es) (nat_le d.0 e.0) refl (q e) refl h s.0 (put_kept d es h s.1)

  put_dropped_if : (d e : ℕ × Declared) (es rest : List (ℕ × Declared)) (b c : Bool) → q e ≡ c → q d ≡ false → filter q rest ≡ filter q es → filter q (if b then d ∷ e ∷ es else e ∷ rest) ≡ filter q (e ∷ es)
  put_dropped_if d e es rest true c k j r = dropped d (e ∷ es) j
  put_dropped_if d e es rest false true k j r = kept e rest k ∙ (ap (λ zs. e ∷ zs) r ∙ sym (kept e es k))
  put_dropped_if d e es rest false false k j r = dropped e rest k ∙ (r ∙ sym (dropped e es k))

  put_dropped : (d : ℕ × Declared) (es : List (ℕ × Declared)) → q d ≡ false → filter q (put_by_place d es) ≡ filter q es
  put_dropped d [] h = dropped d [] h
  put_dropped d (e ∷ es) h = put_dropped_if d e es (put_by_place d es) (nat_le d.0 e.0) (q e) refl h (put_dropped d es h)

  by_place_if : (d : ℕ × Declared) (ds : List (ℕ × Declared)) (b : Bool) → q d ≡ b → filter q (by_place ds) ≡ by_place (filter q ds) → filter q (put_by_place d (by_place ds)) ≡ by_place (filter q (d ∷ ds))
  by_place_if d ds true h r = put_kept d (by_place ds) h (all_sorted ds) ∙ (ap (put_by_place d) r ∙ ap by_place (sym (kept d ds h)))
  by_place_if d ds false h r = put_dropped d (by_place ds) h ∙ (r ∙ ap by_place (sym (dropped d ds h)))

  pub by_place_filter : (ds : List (ℕ × Declared)) → filter q (by_place ds) ≡ by_place (filter q ds)
  by_place_filter [] = refl
  by_place_filter (d ∷ ds) = by_place_if d ds (q d) refl (by_place_filter ds)

filter-join_if : {A : Type 0} (b : Bool) (x : A) (xs ys : List A) → cond b (x ∷ (xs ++ ys)) (xs ++ ys) ≡ cond b (x ∷ xs) xs ++ ys
filter-join_if true x xs ys = refl
filter-join_if false x xs ys = refl

filter-join : {A : Type 0} (q : A → Bool) (xs ys : List A) → filter q (xs ++ ys) ≡ filter q xs ++ filter q ys
filter-join q [] ys = refl
filter-join q (x ∷ xs) ys = ap (λ zs. cond (q x) (x ∷ zs) zs) (filter-join q xs ys) ∙ filter-join_if (q x) x (filter q xs) (filter q ys)

filter-flat : {A B : Type 0} (q : B → Bool) (f g : A → List B) (xs : List A) → ((x : A) → filter q (f x) ≡ g x) → filter q (flat_map f xs) ≡ flat_map g xs
filter-flat q f g [] h = refl
filter-flat q f g (x ∷ xs) h = filter-join q (f x) (flat_map f xs) ∙ (ap (λ zs. zs ++ filter q (flat_map f xs)) (h x) ∙ ap (λ zs. g x ++ zs) (filter-flat q f g xs h))

-- ---- signals

placed_signal : ℕ × Declared → Bool
placed_signal kx = is_signal kx.1

both_if : (x : ℕ × Declared) (a b c : Bool) → placed_signal x ≡ a → filter placed_signal (if (a || c) && b then x ∷ [] else []) ≡ (if a && b then x ∷ [] else [])
both_if x true true c h = ap (λ k. cond k (x ∷ []) []) h
both_if x true false c h = refl
both_if x false true true h = ap (λ k. cond k (x ∷ []) []) h
both_if x false true false h = refl
both_if x false false true h = refl
both_if x false false false h = refl

here_signals : (s : Scope) (kx : ℕ × Declaration) → filter placed_signal (declares_here is_declared_sort s kx) ≡ stands_here s kx
unfolding placed_signal
here_signals s kx =
    let x : Declared = known (s.names (alone kx.1.name.name)) in
    both_if (kx.1.name.place, x) (is_signal_sort x.sort)
    (is_first (is_direction kx.1) (declared_as kx.1.name.name (take kx.0 s.declarations)) (declared_as kx.1.name.name s.declarations)) (is_clock_sort x.sort) refl

scope_listed : (s : Scope) → filter is_signal (scope_declared s) ≡ scope_signals s
unfolding placed_signal
scope_listed s =
    let xs : List (ℕ × Declared) = flat_map (declares_here is_declared_sort s) (numbered_from 0 s.declarations) in
    filter-map is_signal (λ (kx : ℕ × Declared). kx.1) (by_place xs) ∙
    ap (map (λ (kx : ℕ × Declared). kx.1)) (by_place_filter placed_signal xs ∙
    ap by_place (filter-flat placed_signal (declares_here is_declared_sort s) (stands_here s) (numbered_from 0 s.declarations) (here_signals s)))

pub signals_listed : (d : Design) → signals_of d ≡ filter is_signal (declared_of d)
unfolding signals_of declared_of
signals_listed d = sym (filter-flat is_signal scope_declared scope_signals (scopes_of d) scope_listed)
