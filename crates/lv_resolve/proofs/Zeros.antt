-- Whether divisors are 0, from the answers on their widths and values.
use Rattle.std.proofs.Common.{◌≡◌, ℕ, zero, suc, ◌+◌, ◌≤◌, ◌<◌, max, Bool, true, false, ◌==◌, List, [], ◌∷◌, ◌++◌, ap, ◌∙◌, sym, subst, refl, flat_map, map, length, take, get_or, arith, inl, inr, Ok, Err, None}
use Rattle.std.specs.List.{Contains}
use Rattle.std.proofs.lemmas.Grind.{flat_map-append}
use Rattle.std.proofs.lemmas.List.{take_more}
use Rattle.std.proofs.lemmas.Bool.Decides.{nat_tests}
use Rattle.std.proofs.lemmas.List.Elements.{Contains-append_left, Contains-append_right, Contains-append_cases}
use Rattle.lv_bits.specs.Words.{Bits}
use Rattle.lv_ast.specs.declared.expr.Path.{Path}
use Rattle.lv_ast.specs.declared.expr.Expr.{Expr}
use Rattle.lv_ast.specs.declared.expr.Expr.TheOpen.{Expr-F}
use Rattle.lv_source.specs.Names.{Names, Here}
use Rattle.lv_source.specs.Values.{nowhere}
use Rattle.lv_source.specs.Meaning.{own_width}
use Rattle.lv_source.specs.Sites.{Site, Value, walk}
use Rattle.lv_source.specs.NodeRules.{zero_divisor, unknown_name, out_of_range}
use Rattle.lv_const.specs.declared.error.ConstError.{ConstError}
use Rattle.lv_const.specs.declared.error.ConstError.TheVariants as y
use Rattle.lv_const.specs.Faults.{no_value, unfixed, form_faults, told_faults, all_faults}
use Rattle.lv_const.specs.Answers.{Sound}
use Rattle.lv_const.specs.Answers as const
use Rattle.lv_const.specs.Public.{IsOwnRefusal, IsValueOf, IsValueRefusal}
use Rattle.lv_const.proofs.Refusals.{found, Found, gathered}
use Rattle.lv_const.proofs.Told.{told-too}
use Rattle.lv_const.proofs.WalkReads.{walk-reads}
use Rattle.lv_const.proofs.Numbers.{split}
use Rattle.lv_const.proofs.Lists.{take-whole}
use Rattle.lv_resolve.specs.Places.{with_all}
use Rattle.lv_resolve.specs.Forms.{Sites, flaws, unfixed_at, Told, zeros_at, IsDivisor, IsZeroed, AreClosed, Covered}
use Rattle.lv_resolve.specs.Joins.{zero_in}
use Rattle.lv_resolve.specs.declared.error.ResolveError.{ResolveError}
use Rattle.lv_resolve.specs.declared.error.ResolveError.TheVariants as x
use Rattle.lv_resolve.specs.declared.form.Divisor.{Divisor}
use Rattle.lv_resolve.proofs.Covers.{first-empty, second-empty, nowhere-in, in-same}

-- ---- lists

at-one : {A : Type 0} (a w : A) (i : ℕ) → i < 1 → get_or (a ∷ []) i w ≡ w → a ≡ w
at-one a w zero h k = k
at-one a w (suc i) h k = absurd (omega (arith, h))

pub single : {A : Type 0} (a w : A) → Contains (a ∷ []) w → a ≡ w
single a w h = at-one a w h.0 h.1 h.2

pub each-empty : {A B : Type 0} (f : A → List B) (xs : List A) (z : A) → flat_map f xs ≡ [] → Contains xs z → f z ≡ []
each-empty f [] z h c = absurd (nowhere-in z c)
each-empty f (a ∷ xs) z h c = elim (Contains-append_cases (a ∷ []) xs z c) [
  | inl k ↦ ap f (sym (single a z k)) ∙ first-empty (f a) (flat_map f xs) h
  | inr k ↦ each-empty f xs z (second-empty (f a) (flat_map f xs) h) k
]

pub all-empty : {A B : Type 0} (f : A → List B) (xs : List A) → ((z : A) → Contains xs z → f z ≡ []) → flat_map f xs ≡ []
all-empty f [] h = refl
all-empty f (a ∷ xs) h =
    ap (λ zs. zs ++ flat_map f xs) (h a (0, omega arith, refl)) ∙
    all-empty f xs (λ z c. h z (Contains-append_right (a ∷ []) xs z c))

-- a number that makes it
pub record Made {A : Type 0} (f : ℕ → A) (ns : List ℕ) (z : A) : Type 0 where
  pub number : ℕ
  pub among : Contains ns number
  pub same : f number ≡ z

pub made : {A : Type 0} (f : ℕ → A) (ns : List ℕ) (z : A) → Contains (map f ns) z → Made f ns z
made f [] z h = absurd (nowhere-in z h)
made f (n ∷ ns) z h = elim (Contains-append_cases (f n ∷ []) (map f ns) z h) [
  | inl k ↦ record { number = n; among = (0, omega arith, refl); same = single (f n) z k }
  | inr k ↦ let q : Made f ns z = made f ns z k in
      record { number = q.number; among = Contains-append_right (n ∷ []) ns q.number q.among; same = q.same }
]

-- ---- what is told of nodes that are sound

abbrev pub ZeroIs : ConstError → List ℕ → Type 0
ZeroIs (y.NoValue p) ns = ⊥
ZeroIs (y.Range p) ns = ⊥
ZeroIs (y.ZeroDivisor p) ns = Contains ns p

place_in : ConstError → ℕ
place_in (y.NoValue p) = p
place_in (y.Range p) = p
place_in (y.ZeroDivisor p) = p

zero-number : (n p : ℕ) → y.ZeroDivisor n ≡ y.ZeroDivisor p → n ≡ p
unfolding place_in
zero-number n p h = ap place_in h

two-maps : (ns rs : List ℕ) → ns ≡ [] → rs ≡ [] → map y.NoValue ns ++ map y.Range rs ≡ []
two-maps ns rs h k = ap (λ zs. map y.NoValue zs ++ map y.Range rs) h ∙ ap (map y.Range) k

zero-made : (ns : List ℕ) (w : ConstError) → Made y.ZeroDivisor ns w → ZeroIs w ns
zero-made ns (y.NoValue p) m = let k : y.ZeroDivisor m.number ≡ y.NoValue p = m.same in cc
zero-made ns (y.Range p) m = let k : y.ZeroDivisor m.number ≡ y.Range p = m.same in cc
zero-made ns (y.ZeroDivisor p) m = subst (Contains ns) (zero-number m.number p m.same) m.among

pub zero-is : (early : Path → Bool) (s : Site) (w : ConstError) → form_faults early s ≡ [] → Contains (all_faults early s) w → ZeroIs w (zero_divisor s)
zero-is early s w h c =
    let a : (no_value early s ++ unknown_name s) ++ unfixed s ≡ [] = first-empty ((no_value early s ++ unknown_name s) ++ unfixed s) (out_of_range s) h in
    let b : no_value early s ≡ [] = first-empty (no_value early s) (unknown_name s) (first-empty (no_value early s ++ unknown_name s) (unfixed s) a) in
    let d : out_of_range s ≡ [] = second-empty ((no_value early s ++ unknown_name s) ++ unfixed s) (out_of_range s) h in
    let e : told_faults early s ≡ [] = two-maps (no_value early s) (out_of_range s) b d in
    zero-made (zero_divisor s) w (made y.ZeroDivisor (zero_divisor s) w (in-same _ _ w (ap (λ zs. zs ++ map y.ZeroDivisor (zero_divisor s)) e) c))

module _ (early : Path → Bool) (sites : List Site) where
  gather-zero : (w : ConstError) (s : Site) → Contains sites s → ZeroIs w (zero_divisor s) → ZeroIs w (flat_map zero_divisor sites)
  gather-zero (y.NoValue p) s c h = h
  gather-zero (y.Range p) s c h = h
  gather-zero (y.ZeroDivisor p) s c h = gathered zero_divisor sites s p c h

  pub zero-told : (w : ConstError) → Sound early sites → const.Told early sites w → ZeroIs w (flat_map zero_divisor sites)
  zero-told w h t =
      let q : Found (all_faults early) sites w = found (all_faults early) sites w t.found in
      gather-zero w q.one q.among (zero-is early q.one w (each-empty (form_faults early) sites q.one h.none q.among) q.holds)

-- ---- a divisor

is-none : (n : ℕ) → (n == 0) ≡ true → n ≡ 0
is-none n h = grind (arith, nat_tests)

not-zero : (n : ℕ) → (n ≡ 0 → ⊥) → (n == 0) ≡ false
not-zero n h = elim (split (n == 0)) [
  | inl k ↦ absurd (h (is-none n k))
  | inr k ↦ k
]

pub width-of : (here : Here) (a b c : Expr) (own W V : ℕ) → a ≡ c → b ≡ c → own ≡ own_width here.names a → V ≡ max own W → V ≡ max (own_width here.names b) W
width-of here a b c own W V h k m n = n ∙ ap (λ i. max i W) (m ∙ ap (own_width here.names) (h ∙ sym k))

module _ (here : Here) (W : ℕ) (T : Bool) (d : Divisor) where
  abbrev inside : List Site
  inside = (walk here.names d.expr).sites Value None W T

  zeroed : (q : ResolveError) (w : ConstError) → q ≡ zero_in w → ZeroIs w (flat_map zero_divisor inside) → IsZeroed here.names W T (d ∷ []) q
  zeroed q (y.NoValue p) e h = absurd h
  zeroed q (y.Range p) e h = absurd h
  zeroed q (y.ZeroDivisor p) e h = subst (IsZeroed here.names W T (d ∷ [])) (sym e) (record {
    found = Contains-append_left (zeros_at here.names W T d) [] p (Contains-append_right _ (flat_map zero_divisor inside) p h);
  })

  pub own-zero : (z : Expr) (w : ConstError) (q : ResolveError) → z ≡ d.expr → IsDivisor here.names W d → IsOwnRefusal (with_all here) z w → q ≡ zero_in w →
      AreClosed here.names W T (d ∷ []) (Err q)
  own-zero z w q e h r k = record {
    right = tt;
    wrong = zeroed q w k (zero-told (λ p. true) inside w (h.sound W T)
        (subst (λ u. const.Told (λ p. true) ((walk here.names u).sites Value None W T) w) e (told-too (λ p. true) true _ w (r.told None W T))));
  }

  reached : (z : Expr) (V : ℕ) → z ≡ d.expr → IsDivisor here.names W d → V ≡ max (own_width here.names z) W → V ≡ W
  reached z V e h k =
      let a : (walk here.names d.expr).shown.reading.meaning.width ≤ W = h.narrow in
      let b : (walk here.names d.expr).shown.reading.meaning.width ≡ own_width here.names z =
      ap (λ r. r.meaning.width) (walk-reads here.names d.expr) ∙ ap (own_width here.names) (sym e) in
      omega (arith, a, b, k)

  pub value-zero : (z : Expr) (V : ℕ) (w : ConstError) (q : ResolveError) → z ≡ d.expr → IsDivisor here.names W d → V ≡ max (own_width here.names z) W →
      IsValueRefusal (with_all here) z V T w → q ≡ zero_in w → AreClosed here.names W T (d ∷ []) (Err q)
  value-zero z V w q e h m r k =
      let a : V ≡ W = reached z V e h m in
      let b : max V (own_width here.names z) ≡ W = omega (arith, a, m) in record {
        right = tt;
        wrong = zeroed q w k (zero-told (λ p. true) inside w (h.sound W T)
            (subst (λ u. const.Told (λ p. true) ((walk here.names u).sites Value None W T) w) e
            (subst (λ n. const.Told (λ p. true) ((walk here.names z).sites Value None n T) w) b (r.told None))));
      }

  value-there : (z : Expr) (V : ℕ) (word : Bits) → z ≡ d.expr → V ≡ W → IsValueOf (with_all here) z V T word →
      word.value ≡ (walk here.names d.expr).shown.reading.meaning.value W T nowhere
  value-there z V word e a v =
      v.value nowhere ∙ (ap (λ r. r.meaning.value V T nowhere) (sym (walk-reads here.names z)) ∙
      (ap (λ u. (walk here.names u).shown.reading.meaning.value V T nowhere) e ∙
      ap (λ n. (walk here.names d.expr).shown.reading.meaning.value n T nowhere) a))

  pub is-zero : (z : Expr) (V : ℕ) (word : Bits) → z ≡ d.expr → IsDivisor here.names W d → V ≡ max (own_width here.names z) W →
      IsValueOf (with_all here) z V T word → word.value ≡ 0 → AreClosed here.names W T (d ∷ []) (Err (x.ZeroDivisor d.place))
  is-zero z V word e h m v k =
      let a : V ≡ W = reached z V e h m in
      let b : (walk here.names d.expr).shown.reading.meaning.value W T nowhere ≡ 0 = sym (value-there z V word e a v) ∙ k in
      let c : zeros_at here.names W T d ≡ d.place ∷ flat_map zero_divisor inside = rw b refl in record {
        right = tt;
        wrong = record {
          found = Contains-append_left (zeros_at here.names W T d) [] d.place (in-same _ _ d.place (sym c) (0, omega arith, refl));
        };
      }

  pub is-whole : (z : Expr) (V : ℕ) (word : Bits) → z ≡ d.expr → IsDivisor here.names W d → V ≡ max (own_width here.names z) W →
      IsValueOf (with_all here) z V T word → (word.value ≡ 0 → ⊥) → AreClosed here.names W T (d ∷ []) (Ok tt)
  is-whole z V word e h m v n =
      let k : (word.value == 0) ≡ false = not-zero word.value n in
      let a : V ≡ W = reached z V e h m in
      let b : ((walk here.names d.expr).shown.reading.meaning.value W T nowhere == 0) ≡ false = ap (λ n. n == 0) (sym (value-there z V word e a v)) ∙ k in
      let c : flat_map zero_divisor inside ≡ [] = subst (λ n. flat_map zero_divisor ((walk here.names d.expr).sites Value None n T) ≡ []) a
      (subst (λ u. flat_map zero_divisor ((walk here.names u).sites Value None V T) ≡ []) e (v.divides None).none) in
      let m : zeros_at here.names W T d ≡ [] = rw b c in record {
        right = ap (λ zs. zs ++ []) m;
        wrong = tt;
      }

-- ---- divisors one by one

module _ (names : Names) (W : ℕ) (T : Bool) (ds : List Divisor) where
  pub zeros-more : (i : ℕ) (d : Divisor) → i < length ds → get_or ds i d ≡ d → flat_map (zeros_at names W T) (take i ds) ≡ [] →
      flat_map (zeros_at names W T) (d ∷ []) ≡ [] → flat_map (zeros_at names W T) (take (i + 1) ds) ≡ []
  zeros-more i d h e k m =
      ap (flat_map (zeros_at names W T)) (take_more ds i d h ∙ ap (λ u. take i ds ++ u ∷ []) e) ∙
      (flat_map-append (zeros_at names W T) (take i ds) (d ∷ []) ∙ (ap (λ zs. zs ++ flat_map (zeros_at names W T) (d ∷ [])) k ∙ m))

  pub zeros-all : (i : ℕ) → length ds ≤ i → flat_map (zeros_at names W T) (take i ds) ≡ [] → flat_map (zeros_at names W T) ds ≡ []
  zeros-all i h k = ap (flat_map (zeros_at names W T)) (sym (take-whole ds i h)) ∙ k

  one-zero : (d : Divisor) (p : ℕ) → Contains (flat_map (zeros_at names W T) (d ∷ [])) p → Contains (zeros_at names W T d) p
  one-zero d p h = elim (Contains-append_cases (zeros_at names W T d) [] p h) [
    | inl k ↦ k
    | inr k ↦ absurd (nowhere-in p k)
  ]

  pub zeros-wrong : (d : Divisor) (q : ResolveError) → Contains ds d → IsZeroed names W T (d ∷ []) q → IsZeroed names W T ds q
  zeros-wrong d (x.ZeroDivisor p) c h = record { found = gathered (zeros_at names W T) ds d p c (one-zero d p h.found) }
  zeros-wrong d (x.UnknownName p) c h = absurd h.found
  zeros-wrong d (x.NotConstant p) c h = absurd h.found
  zeros-wrong d (x.Range p) c h = absurd h.found
  zeros-wrong d x.NoMemory c h = absurd h.found

-- ---- nodes whose divisors are looked at

module _ (here : Here) where
  pub zeroed-told : (s : Sites) (n : ℕ) (cs : List ℕ) (ds : List Divisor) (W : ℕ) (T : Bool) (q : ResolveError) → Covered here s n cs ds →
      IsZeroed here.names W T ds q → Told here (s W T) q
  zeroed-told s n cs ds W T (x.ZeroDivisor p) h k = record { found = h.some W T p k.found }
  zeroed-told s n cs ds W T (x.UnknownName p) h k = absurd k.found
  zeroed-told s n cs ds W T (x.NotConstant p) h k = absurd k.found
  zeroed-told s n cs ds W T (x.Range p) h k = absurd k.found
  zeroed-told s n cs ds W T x.NoMemory h k = absurd k.found

-- ---- a constant expression is sound

fixed-part : (here : Here) (s : Site) → unfixed_at here s ≡ [] → unfixed s ≡ []
fixed-part here s h = elim s.node as (λ n. unfixed_at here (record s { node = n }) ≡ [] → unfixed (record s { node = n }) ≡ []) [
  | Expr-F.Lit l ↦ λ k. refl
  | Expr-F.Name path ss ↦ λ k. refl
  | Expr-F.Un op a ↦ λ k. refl
  | Expr-F.Bin op a b ↦ λ k. refl
  | Expr-F.Div a b ↦ λ k. k
  | Expr-F.Rem a b ↦ λ k. k
  | Expr-F.Cond c a b ↦ λ k. refl
  | Expr-F.Cat rs ↦ λ k. refl
  | Expr-F.Rep n rs ↦ λ k. refl
  | Expr-F.Cast signed a ↦ λ k. refl
] h

pub four-empty : (a b c d : List ℕ) → a ≡ [] → b ≡ [] → c ≡ [] → d ≡ [] → ((a ++ b) ++ c) ++ d ≡ []
four-empty a b c d h i j k = ap (λ z. ((z ++ b) ++ c) ++ d) h ∙ (ap (λ z. (z ++ c) ++ d) i ∙ (ap (λ z. z ++ d) j ∙ k))

sound-site : (here : Here) (s : Site) → flaws here s ≡ [] → no_value (λ p. true) s ≡ [] → form_faults (λ p. true) s ≡ []
sound-site here s h k =
    let a : unknown_name s ++ unfixed_at here s ≡ [] = first-empty (unknown_name s ++ unfixed_at here s) (out_of_range s) h in
    four-empty (no_value (λ p. true) s) (unknown_name s) (unfixed s) (out_of_range s) k (first-empty (unknown_name s) (unfixed_at here s) a)
    (fixed-part here s (second-empty (unknown_name s) (unfixed_at here s) a)) (second-empty (unknown_name s ++ unfixed_at here s) (out_of_range s) h)

pub sound-of : (here : Here) (sites : List Site) → flat_map (flaws here) sites ≡ [] → flat_map (no_value (λ p. true)) sites ≡ [] → Sound (λ p. true) sites
sound-of here sites h k = record {
  none = all-empty (form_faults (λ p. true)) sites
      (λ s c. sound-site here s (each-empty (flaws here) sites s h c) (each-empty (no_value (λ p. true)) sites s k c));
}
