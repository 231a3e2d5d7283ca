-- The own width and type of literals, names, concatenations and replications.
use Rattle.std.proofs.Common.{◌≡◌, ℕ, zero, suc, ◌+◌, ◌-◌, ◌*◌, ◌/◌, ◌%◌, ◌^◌, add_assoc, lit<, ◌≤◌, ◌<◌, Bool, true, false, ◌&&◌, List, [], ◌∷◌, ◌++◌, ap, ◌∙◌, sym, subst, refl, map, length, length-append, arith, Ok, Err, Result, Option, Some, None, not, ◌||◌, inl, inr, ◌⊎◌, ℤ, pos, ◌+ℤ◌}
use Rattle.std.specs.List.{list_all}
use Rattle.std.specs.Prelude.{nat_lt, if◌then◌else◌}
use Rattle.std.proofs.lemmas.List.Sums.{sum_by-cons}
use Rattle.std.proofs.lemmas.Bool.Decides.{nat_tests}
use Rattle.lv_bits.specs.Values.{signed_of, extended}
use Rattle.std.proofs.Math.Nat.{mod-eq_of_lt, pow-suc}
use Rattle.std.proofs.lemmas.Nat.{mod-pow-add, mod_below}
use Rattle.lv_ast.specs.declared.expr.Literal.{Literal}
use Rattle.lv_ast.specs.declared.expr.Path.{Path}
use Rattle.lv_ast.specs.declared.expr.Expr.{Expr}
use Rattle.lv_ast.specs.declared.expr.Expr.TheVariants as e
use Rattle.lv_ast.specs.declared.expr.Expr.TheOpen.{Expr-F}
use Rattle.lv_source.specs.Names.{Names, Bounds, size, width_of}
use Rattle.lv_source.specs.Values.{Meaning, widths, size_of, own_value, nowhere}
use Rattle.lv_source.specs.Places.{all_bits, read_bits, rising}
use Rattle.lv_source.specs.Meaning.{meanings}
use Rattle.lv_const.specs.declared.constant.Const.{Const}
use Rattle.lv_const.specs.declared.full.Full.{Full}
use Rattle.lv_const.specs.declared.error.ConstError.{ConstError}
use Rattle.lv_const.specs.declared.error.ConstError.TheVariants as x
use Rattle.lv_const.specs.Constants.{constant_of}
use Rattle.lv_source.specs.NodeRules.{is_width, is_literal_fault, is_positive, number, is_written, is_early}
use Rattle.lv_source.specs.Sites.{Walk, WalkStep, Role, Joined, walk, walk_step, below_sites, joined_role, is_driven, first_place, fixed_sites}
use Rattle.lv_const.specs.Answers.{ToldOf, HasOwn, HasNone, HasNoOwn, IsOwn, HasFull, IsFull, HaveWidths, AreWidths, read_role, total_width, joined_sites}
use Rattle.lv_const.specs.Joins.{joined_own, is_count, repeated_own, literal_own}
use Rattle.lv_const.proofs.Told.{formed-none, formed-node, formed-both, formed-count, told-first, told-second, told-range, told-name, width_in}
use Rattle.lv_const.proofs.Owns.{site_of, has, hasnt}
use Rattle.lv_const.proofs.Reached.{full-divided}
use Rattle.lv_const.proofs.Numbers.{split}
use Rattle.lv_const.proofs.Walks.{walk-Lit, walk-Cat, walk-Rep}

pub joins : (j : Bool) → joined_role (read_role j) ≡ Joined
joins true = refl
joins false = refl

pub undriven : (j : Bool) → is_driven (read_role j) ≡ false
undriven true = refl
undriven false = refl

pub unwritten : (j : Bool) → is_written (read_role j) ≡ false
unwritten true = refl
unwritten false = refl

pub and-left : (a b : Bool) → a && b ≡ true → a ≡ true
and-left true b h = refl
and-left false b h = h

pub and-right : (a b : Bool) → a && b ≡ true → b ≡ true
and-right true b h = h
and-right false b h = cc

pub not-false : (b : Bool) → not b ≡ true → b ≡ false
not-false true h = cc
not-false false h = refl

pub or-true : (b : Bool) → (b || true) ≡ true
or-true true = refl
or-true false = refl

pub wrong-or : (a b : Bool) → (a && not b) ≡ false → (not a || b) ≡ true
wrong-or true true h = refl
wrong-or true false h = cc
wrong-or false b h = refl

pub is-width_some : (w : ℕ) → is_width w ≡ true → 1 ≤ w
is-width_some w h = grind (arith, nat_tests)

pub is-width_most : (w : ℕ) → is_width w ≡ true → w ≤ 128
is-width_most w h = grind (arith, nat_tests)

and-true : (b : Bool) → b && true ≡ b
and-true true = refl
and-true false = refl

pub and-false : (b : Bool) → b && false ≡ false
and-false true = refl
and-false false = refl

pub count-positive : (signed : Bool) (w a : ℕ) → (nat_lt 0 a && not (signed && not (nat_lt a (2 ^ (w - 1))))) ≡ is_positive
    (if◌then◌else◌ signed (signed_of w a) (pos a))
count-positive false w a = and-true (nat_lt 0 a)
count-positive true w a = elim (split (nat_lt a (2 ^ (w - 1)))) [
  | inl h ↦ rw h (and-true (nat_lt 0 a))
  | inr h ↦ rw h (and-false (nat_lt 0 a))
]

-- ---- literals

module _ (early : Path → Bool) (names : Names) (joined : Bool) where
  pub lit-right : (l : Literal) → is_width (size_of l.size) ≡ true → is_literal_fault (read_role joined) l ≡ false →
      HasOwn early (walk_step names (Expr-F.Lit l)) joined (record { width = size_of l.size; signed = l.signed })
  lit-right l h k = record {
    width = refl;
    signed = refl;
    some = is-width_some (size_of l.size) h;
    most = is-width_most (size_of l.size) h;
    constant = refl;
    sound = λ fixed W T. formed-node early (site_of names (Expr-F.Lit l) (read_role joined) fixed W T) [] (rw (h, k) refl) (formed-none early);
  }

  pub lit-wrong : {valued : Bool} (l : Literal) → (is_width (size_of l.size) && not (is_literal_fault (read_role joined) l)) ≡ false →
      HasNone valued early (walk_step names (Expr-F.Lit l)) joined (x.Range l.place)
  lit-wrong l h = record {
    told = λ fixed W T. told-range early (site_of names (Expr-F.Lit l) (read_role joined) fixed W T) []
        (wrong-or (is_width (size_of l.size)) (is_literal_fault (read_role joined) l) h);
  }

  lit : (l : Literal) → IsOwn early (walk_step names (Expr-F.Lit l)) joined (literal_own l joined)
  lit l = elim (split (is_width (size_of l.size) && not (is_literal_fault (read_role joined) l))) [
    | inl h ↦ rw h (record { right = lit-right l (and-left _ _ h) (not-false _ (and-right _ _ h)); wrong = tt })
    | inr h ↦ rw h (record { right = tt; wrong = lit-wrong l h })
  ]

  pub own-Lit : (l : Literal) → IsOwn early (walk names (e.Lit l)) joined (literal_own l joined)
  own-Lit l = subst (λ z. IsOwn early z joined (literal_own l joined)) (sym (walk-Lit names l)) (lit l)

-- ---- names

twice-more : (a b n : ℕ) → 2 * (a + b * 2 ^ n) ≡ 2 * a + b * 2 ^ suc n
twice-more a b n = rw pow-suc (grind arith)

mod_one : (a : ℕ) → a % 2 ^ 0 ≡ 0
mod_one a = omega (arith, mod_below a 1 (lit< tt))

next-bit : (n a : ℕ) → a % 2 ^ n + a / 2 ^ n % 2 * 2 ^ n ≡ a % 2 ^ suc n
next-bit n a = let e : 1 + n ≡ suc n = omega arith in let h : a % 2 ^ suc n ≡ (a / 2 ^ n % 2) * 2 ^ n + a % 2 ^ n =
    subst (λ k. a % 2 ^ k ≡ (a / 2 ^ n % 2) * 2 ^ n + a % 2 ^ n) e (mod-pow-add a 1 n) in omega (arith, h)

pub length-all_bits : (n : ℕ) → length (all_bits n) ≡ n
length-all_bits zero = refl
length-all_bits (suc n) = length-append (all_bits n) (Some n ∷ []) ∙ omega (arith, length-all_bits n)

read-append : (a : ℕ) (ks : List (Option ℕ)) (k : ℕ) → read_bits a (ks ++ Some k ∷ []) ≡ read_bits a ks + a / 2 ^ k % 2 * 2 ^ length ks
read-append a [] k = omega arith
read-append a (None ∷ ks) k = ap (λ n. 2 * n) (read-append a ks k) ∙ twice-more (read_bits a ks) (a / 2 ^ k % 2) (length ks)
read-append a (Some j ∷ ks) k = ap (λ n. a / 2 ^ j % 2 + 2 * n) (read-append a ks k) ∙
    (ap (λ n. a / 2 ^ j % 2 + n) (twice-more (read_bits a ks) (a / 2 ^ k % 2) (length ks)) ∙
    sym (add_assoc (a / 2 ^ j % 2) (2 * read_bits a ks) (a / 2 ^ k % 2 * 2 ^ suc (length ks))))

read-all : (n a : ℕ) → read_bits a (all_bits n) ≡ a % 2 ^ n
read-all zero a = sym (mod_one a)
read-all (suc n) a = read-append a (all_bits n) n ∙ (ap (λ k. k + a / 2 ^ n % 2 * 2 ^ length (all_bits n)) (read-all n a) ∙
    (ap (λ k. a % 2 ^ n + a / 2 ^ n % 2 * 2 ^ k) (length-all_bits n) ∙ next-bit n a))

pub bare-value : (T : Bool) (b : Bounds) (w W a : ℕ) → size b ≡ w → a < 2 ^ w →
    extended T w W a ≡ extended T (length (all_bits (size b))) W (read_bits a (all_bits (size b)))
bare-value T b w W a e fits =
    let r : read_bits a (all_bits (size b)) ≡ a = read-all (size b) a ∙ (ap (λ k. a % 2 ^ k) e ∙ mod-eq_of_lt fits) in
    sym (ap (λ k. extended T (length (all_bits (size b))) W k) r ∙
    (ap (λ k. extended T k W a) (length-all_bits (size b)) ∙ ap (λ k. extended T k W a) e))

pub length-rising : (from : ℤ) (n : ℕ) → length (rising from n) ≡ n
length-rising from zero = refl
length-rising from (suc n) = ap suc (length-rising (from +ℤ pos 1) n)

module _ (early : Path → Bool) (names : Names) (joined : Bool) (path : Path) (c : Const)
    (known : names path ≡ Some (constant_of path.name c)) (ahead : early path ≡ true) where
  pub bare : 1 ≤ width_of (constant_of path.name c) → width_of (constant_of path.name c) ≤ 128 →
      HasOwn early (walk_step names (Expr-F.Name path [])) joined (record { width = width_of (constant_of path.name c); signed = c.signed })
  bare some most = record {
    width = rw known (sym (length-all_bits (width_of (constant_of path.name c))));
    signed = rw known refl;
    some = some;
    most = most;
    constant = rw known refl;
    sound = λ fixed W T. formed-node early (site_of names (Expr-F.Name path []) (read_role joined) fixed W T) []
        (rw (
          known,
          ahead,
          unwritten joined,
          length-all_bits (width_of (constant_of path.name c)),
          width_in (width_of (constant_of path.name c)) some most,
        ) refl) (formed-none early);
  }

module _ (early : Path → Bool) (names : Names) (path : Path) (ss : List WalkStep) (role : Role) (fixed : Option ℕ) (W : ℕ) (T : Bool) where
  pub unknown : {each : Bool} → is_early (early path) (names path) ≡ false →
      ToldOf each early (site_of names (Expr-F.Name path ss) role fixed W T ∷ below_sites (Expr-F.Name path ss) role fixed W T) (x.NoValue path.place)
  unknown h = told-name early (site_of names (Expr-F.Name path ss) role fixed W T) (below_sites (Expr-F.Name path ss) role fixed W T) path.place (rw h refl)

module _ (early : Path → Bool) where
  pub own-none : (names : Names) (joined : Bool) (path : Path) (ss : List WalkStep) → is_early (early path) (names path) ≡ false →
      HasNoOwn early (walk_step names (Expr-F.Name path ss)) joined (x.NoValue path.place)
  own-none names joined path ss h = record { told = λ fixed W T. unknown early names path ss (read_role joined) fixed W T h }

-- ---- concatenations and replications

pub shown-widths : (ws : List Walk) → widths (meanings (map (λ r. r.reading) (map (λ w. w.shown) ws))) ≡ total_width ws
shown-widths [] = refl
shown-widths (w ∷ ws) = sum_by-cons (λ (k : ℕ). k) w.shown.reading.meaning.width
    (map (λ m. m.width) (meanings (map (λ r. r.reading) (map (λ v. v.shown) ws)))) ∙
    ap (λ n. w.shown.reading.meaning.width + n) (shown-widths ws)

shown-constant : (ws : List Walk) → list_all (λ r. r.constant) (map (λ r. r.reading) (map (λ w. w.shown) ws)) ≡ list_all (λ w. w.shown.reading.constant) ws
shown-constant [] = refl
shown-constant (w ∷ ws) = ap (λ b. w.shown.reading.constant && b) (shown-constant ws)

module _ (early : Path → Bool) (names : Names) (joined : Bool) where
  pub cat-right : (ws : List Walk) (place total : ℕ) → HaveWidths early ws total → is_width total ≡ true →
      HasOwn early (walk_step names (Expr-F.Cat ws)) joined (record { width = total; signed = false })
  cat-right ws place total h k =
      has early names (Expr-F.Cat ws) joined (record { width = total; signed = false }) refl (h.width ∙ sym (shown-widths ws)) refl (is-width_some total k)
      (is-width_most total k)
      (shown-constant ws ∙ h.constant)
      (λ fixed W T. rw (joins joined) (h.sound fixed))

  cat-wide : (ws : List Walk) (total : ℕ) → HaveWidths early ws total → is_width total ≡ false →
      HasNoOwn early (walk_step names (Expr-F.Cat ws)) joined (x.Range (first_place (walk_step names (Expr-F.Cat ws)).shown))
  cat-wide ws total h k =
      let e : is_width (widths (meanings (map (λ r. r.reading) (map (λ w. w.shown) ws)))) ≡ false = ap is_width (shown-widths ws ∙ sym h.width) ∙ k in
      record {
        told = λ fixed W T. told-range early (site_of names (Expr-F.Cat ws) (read_role joined) fixed W T)
            (below_sites (Expr-F.Cat ws) (read_role joined) fixed W T) (rw e refl);
      }

  cat : (ws : List Walk) (r : Result ℕ ConstError) → AreWidths early ws r →
      IsOwn early (walk_step names (Expr-F.Cat ws)) joined (joined_own (first_place (walk_step names (Expr-F.Cat ws)).shown) r)
  cat ws (Err x) h = record { right = tt; wrong = hasnt early names (Expr-F.Cat ws) joined x (λ fixed W T. rw (joins joined) (h.wrong.told fixed)) }
  cat ws (Ok total) h = elim (split (is_width total)) [
    | inl k ↦ rw k (record { right = cat-right ws 0 total h.right k; wrong = tt })
    | inr k ↦ rw k (record { right = tt; wrong = cat-wide ws total h.right k })
  ]

  pub own-Cat : (es : List Expr) (r : Result ℕ ConstError) (place : ℕ) → place ≡ first_place (walk names (e.Cat es)).shown →
      AreWidths early (map (walk names) es) r →
      IsOwn early (walk names (e.Cat es)) joined (joined_own place r)
  own-Cat es r place at h = subst (λ q. IsOwn early (walk names (e.Cat es)) joined (joined_own q r)) (sym at)
      (subst (λ z. IsOwn early z joined (joined_own (first_place z.shown) r)) (sym (walk-Cat names es)) (cat (map (walk names) es) r h))

module _ (early : Path → Bool) where
  pub positive : (w : Walk) (f : Full) → HasFull early w false f → is_count f ≡ is_positive (number w.shown)
  positive w f h =
      let m : Meaning = w.shown.reading.meaning in
      count-positive f.signed f.word.width f.word.value ∙
      (ap (λ n. is_positive (if◌then◌else◌ f.signed (signed_of f.word.width n) (pos n))) (h.value.is nowhere) ∙
      (ap (λ k. is_positive (if◌then◌else◌ f.signed (signed_of k (m.value k f.signed nowhere)) (pos (m.value k f.signed nowhere)))) h.own.width ∙
      ap (λ b. is_positive (if◌then◌else◌ b (signed_of m.width (m.value m.width b nowhere)) (pos (m.value m.width b nowhere)))) h.own.signed))

  pub count-value : (w : Walk) (f : Full) → HasFull early w false f → f.word.value ≡ own_value w.shown.reading.meaning nowhere
  count-value w f h =
      let m : Meaning = w.shown.reading.meaning in
      h.value.is nowhere ∙ (ap (λ k. m.value k f.signed nowhere) h.own.width ∙ ap (λ b. m.value m.width b nowhere) h.own.signed)

module _ (early : Path → Bool) (names : Names) (joined : Bool) where
  pub rep-width : (n : Walk) (ws : List Walk) (f : Full) (total : ℕ) → HasFull early n false f → HaveWidths early ws total →
      f.word.value * total ≡ (walk_step names (Expr-F.Rep n ws)).shown.reading.meaning.width
  rep-width n ws f total h g = ap (λ k. k * total) (count-value early n f h) ∙
      ap (λ k. own_value n.shown.reading.meaning nowhere * k) (g.width ∙ sym (shown-widths ws))

  pub rep-right : (n : Walk) (ws : List Walk) (f : Full) (total : ℕ) → HasFull early n false f → HaveWidths early ws total → is_count f ≡ true →
      is_width (f.word.value * total) ≡ true →
      HasOwn early (walk_step names (Expr-F.Rep n ws)) joined (record { width = f.word.value * total; signed = false })
  rep-right n ws f total h g c k = record {
    width = rep-width n ws f total h g;
    signed = refl;
    some = is-width_some (f.word.value * total) k;
    most = is-width_most (f.word.value * total) k;
    constant = rw (h.own.constant) (shown-constant ws ∙ g.constant);
    sound = λ fixed W T. formed-node early (site_of names (Expr-F.Rep n ws) (read_role joined) fixed W T)
        (below_sites (Expr-F.Rep n ws) (read_role joined) fixed W T)
        (let e : is_width (walk_step names (Expr-F.Rep n ws)).shown.reading.meaning.width ≡ true = ap is_width (sym (rep-width n ws f total h g)) ∙ k in
        let p : is_positive (number n.shown) ≡ true = sym (positive early n f h) ∙ c in rw (e, p) refl)
        (formed-both early (fixed_sites n) (joined_sites fixed ws)
        (formed-count early (fixed_sites n) (first_place n.shown)
        (h.own.sound (Some (first_place n.shown)) n.shown.reading.meaning.width n.shown.reading.meaning.signed)
        (full-divided early n false f h false (Some (first_place n.shown)))) (g.sound fixed));
  }

  pub rep-wide : {valued : Bool} (n : Walk) (ws : List Walk) (f : Full) (total : ℕ) → HasFull early n false f → HaveWidths early ws total →
      (is_width (f.word.value * total) ≡ false) ⊎ (is_count f ≡ false) →
      HasNone valued early (walk_step names (Expr-F.Rep n ws)) joined (x.Range (first_place (walk_step names (Expr-F.Rep n ws)).shown))
  rep-wide n ws f total h g (inl k) =
      let e : is_width (walk_step names (Expr-F.Rep n ws)).shown.reading.meaning.width ≡ false = ap is_width (sym (rep-width n ws f total h g)) ∙ k in
      record {
        told = λ fixed W T. told-range early (site_of names (Expr-F.Rep n ws) (read_role joined) fixed W T)
            (below_sites (Expr-F.Rep n ws) (read_role joined) fixed W T) (rw e refl);
      }
  rep-wide n ws f total h g (inr c) =
      let p : is_positive (number n.shown) ≡ false = sym (positive early n f h) ∙ c in
      record {
        told = λ fixed W T. told-range early (site_of names (Expr-F.Rep n ws) (read_role joined) fixed W T)
            (below_sites (Expr-F.Rep n ws) (read_role joined) fixed W T) (rw p (or-true _));
      }

  rep : (n : Walk) (ws : List Walk) (r : Result Full ConstError) (q : Result ℕ ConstError) → IsFull early n false r → AreWidths early ws q →
      IsOwn early (walk_step names (Expr-F.Rep n ws)) joined (repeated_own (first_place (walk_step names (Expr-F.Rep n ws)).shown) r q)
  rep n ws (Err x) q h g = record {
    right = tt;
    wrong = hasnt early names (Expr-F.Rep n ws) joined x
        (λ fixed W T. told-first early (fixed_sites n) (joined_sites fixed ws) x (h.wrong.told (Some (first_place n.shown))));
  }
  rep n ws (Ok f) (Err x) h g = record {
    right = tt;
    wrong =
        hasnt early names (Expr-F.Rep n ws) joined x (λ fixed W T. told-second early (fixed_sites n) (joined_sites fixed ws) x (g.wrong.told fixed));
  }
  rep n ws (Ok f) (Ok total) h g = elim (split (is_count f)) [
    | inl c ↦ elim (split (is_width (f.word.value * total))) [
      | inl k ↦ rw (c, k) (record { right = rep-right n ws f total h.right g.right c k; wrong = tt })
      | inr k ↦ rw (c, k) (record { right = tt; wrong = rep-wide n ws f total h.right g.right (inl k) })
    ]
    | inr c ↦ rw c (record { right = tt; wrong = rep-wide n ws f total h.right g.right (inr c) })
  ]

  pub own-Rep : (n : Expr) (es : List Expr) (r : Result Full ConstError) (q : Result ℕ ConstError) (place : ℕ) →
      place ≡ first_place (walk names (e.Rep n es)).shown →
      IsFull early (walk names n) false r → AreWidths early (map (walk names) es) q → IsOwn early (walk names (e.Rep n es)) joined (repeated_own place r q)
  own-Rep n es r q place at h g = subst (λ p. IsOwn early (walk names (e.Rep n es)) joined (repeated_own p r q)) (sym at)
      (subst (λ z. IsOwn early z joined (repeated_own (first_place z.shown) r q)) (sym (walk-Rep names n es))
      (rep (walk names n) (map (walk names) es) r q h g))
