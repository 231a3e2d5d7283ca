-- Selects of a constant.
use Rattle.std.proofs.Common.{◌≡◌, ℕ, zero, suc, ◌+◌, ◌-◌, ◌*◌, ◌/◌, ◌%◌, ◌^◌, ◌≤◌, ◌<◌, max, min, Bool, true, false, ◌&&◌, List, [], ◌∷◌, ◌++◌, ap, ◌∙◌, sym, subst, refl, map, length, arith, Result, Ok, Err, Option, Some, None, cond, not, ◌||◌, inl, inr, ℤ, pos}
use Rattle.std.specs.Prelude.{nat_le, nat_lt, if◌then◌else◌, ◌-ℤ◌}
use Rattle.std.specs.List.{list_all}
use Rattle.std.proofs.lemmas.List.{length-reverse}
use Rattle.std.proofs.Math.Nat.{pow-suc}
use Rattle.std.proofs.lemmas.Bool.Decides.{nat_tests}
use Rattle.lv_bits.specs.Values.{signed_of, extended}
use Rattle.lv_ast.specs.declared.expr.Path.{Path}
use Rattle.lv_ast.specs.declared.expr.Expr.TheOpen.{Expr-F, Select-F}
use Rattle.lv_source.specs.Names.{Names, Bounds, Valuation}
use Rattle.lv_source.specs.Values.{Meaning, own_value, number_of, nowhere}
use Rattle.lv_source.specs.Places.{falls, rising, bit_place, bits_from, read_bits, count_of, lowest}
use Rattle.lv_source.specs.Meaning.{Choice, meant, parts_of}
use Rattle.lv_source.specs.Sites.{Value, Walk, WalkStep, walk_step, below_sites, step_sites, step_shown, step_choice, own_sites, fixed_sites, first_place, is_absent}
use Rattle.lv_source.specs.NodeRules.{is_width, is_bound, is_width_number, is_in_order, is_good_step, number}
use Rattle.lv_const.specs.declared.constant.Const.{Const}
use Rattle.lv_const.specs.declared.own.Own.{Own}
use Rattle.lv_const.specs.declared.full.Full.{Full}
use Rattle.lv_const.specs.declared.error.ConstError.{ConstError}
use Rattle.lv_const.specs.declared.error.ConstError.TheVariants as x
use Rattle.lv_const.specs.Constants.{bounds_of, constant_of}
use Rattle.lv_const.specs.Faults.{form_faults}
use Rattle.lv_const.specs.Answers.{ToldOf, SoundAt, Divides, HasOwn, HasNone, IsOwn, HasFull, HasNoFull, IsFull, HasPlain, IsPlain, read_role}
use Rattle.lv_const.specs.Joins.{Owned, Valued}
use Rattle.lv_const.specs.Picks.{bit_own, bits_own, part_own, run_own, upward, downward, bit_full, part_full, up_full, down_full, is_place, is_part, is_run, number_at, bits_at}
use Rattle.lv_const.proofs.Numbers.{split}
use Rattle.lv_const.proofs.Told.{formed-none, formed-node, formed-both, formed-count, told-too, told-range, told-below, told-first, told-second, width_in, divides-none, divides-both}
use Rattle.lv_const.proofs.Owns.{site_of, width_at, signed_at}
use Rattle.lv_const.proofs.Leaves.{length-rising, and-left, and-right, or-true, undriven, unwritten, is-width_some, is-width_most}
use Rattle.lv_const.proofs.Reached.{plain-node, full-own_value, full-divided}

abbrev chosen_step : WalkStep → Choice
chosen_step s = step_choice (step_shown s)

abbrev count_at : WalkStep → ℕ
count_at s = count_of (meant (chosen_step s))

module _ (early : Path → Bool) where
  -- ---- numbers of operands

  pub same-number : (w : Walk) (f : Full) → HasFull early w false f → (v : Valuation) → number_at f ≡ number_of w.shown.reading.meaning v
  same-number w f h v =
      let m : Meaning = w.shown.reading.meaning in
      ap (λ n. if◌then◌else◌ f.signed (signed_of f.word.width n) (pos n)) (full-own_value early w false f h v) ∙
      (ap (λ k. if◌then◌else◌ f.signed (signed_of k (own_value m v)) (pos (own_value m v))) h.own.width ∙
      ap (λ b. if◌then◌else◌ b (signed_of m.width (own_value m v)) (pos (own_value m v))) h.own.signed)

  same-value : (w : Walk) (f : Full) → HasFull early w false f → f.word.value ≡ own_value w.shown.reading.meaning nowhere
  same-value w f h = full-own_value early w false f h nowhere

and-true : (b : Bool) → b && true ≡ b
and-true true = refl
and-true false = refl

and-false : (b : Bool) → b && false ≡ false
and-false true = refl
and-false false = refl

place-bound : (signed : Bool) (w a : ℕ) → (nat_le a 65535 && not (signed && not (nat_lt a (2 ^ (w - 1))))) ≡ is_bound
    (if◌then◌else◌ signed (signed_of w a) (pos a))
place-bound false w a = and-true (nat_le a 65535)
place-bound true w a = elim (split (nat_lt a (2 ^ (w - 1)))) [
  | inl h ↦ rw h (and-true (nat_le a 65535))
  | inr h ↦ rw h (and-false (nat_le a 65535))
]

positive-too : (a : ℕ) (c : Bool) → is_width a && (nat_lt 0 a && c) ≡ is_width a && c
positive-too zero c = refl
positive-too (suc a) c = let e : nat_lt 0 (suc a) ≡ true = grind (arith, nat_tests) in rw e refl

run-width : (signed : Bool) (w a : ℕ) → (is_width a && (nat_lt 0 a && not (signed && not (nat_lt a (2 ^ (w - 1)))))) ≡ is_width_number
    (if◌then◌else◌ signed (signed_of w a) (pos a))
run-width false w a = positive-too a true ∙ and-true (is_width a)
run-width true w a = positive-too a (not (true && not (nat_lt a (2 ^ (w - 1))))) ∙ elim (split (nat_lt a (2 ^ (w - 1)))) [
  | inl h ↦ rw h (and-true (is_width a))
  | inr h ↦ rw h (and-false (is_width a))
]

module _ (early : Path → Bool) where
  -- a bound or a width, which is constant
  counted : {fixed : Option ℕ} (w : Walk) (f : Full) → HasFull early w false f → SoundAt fixed early (fixed_sites w)
  counted w f h = formed-count early (fixed_sites w) (first_place w.shown)
      (h.own.sound (Some (first_place w.shown)) w.shown.reading.meaning.width w.shown.reading.meaning.signed)
      (full-divided early w false f h false (Some (first_place w.shown)))

  uncounted : (each : Bool) (w : Walk) (y : ConstError) → HasNoFull early w false y → ToldOf each early (fixed_sites w) y
  uncounted each w y h = told-too early each (fixed_sites w) y (h.told (Some (first_place w.shown)))

  is-bound : (w : Walk) (f : Full) → HasFull early w false f → is_place f ≡ is_bound (number w.shown)
  is-bound w f h = place-bound f.signed f.word.width f.word.value ∙ ap is_bound (same-number early w f h nowhere)

  is-run : (w : Walk) (f : Full) → HasFull early w false f → is_run f ≡ is_width_number (number w.shown)
  is-run w f h = run-width f.signed f.word.width f.word.value ∙ ap is_width_number (same-number early w f h nowhere)

four : (a b c d p q r s : Bool) → a ≡ p → b ≡ q → c ≡ r → d ≡ s → (((a && b) && c) && d) ≡ (((p && q) && r) && s)
four a b c d p q r s h k m n = rw (h, k, m, n) refl

module _ (early : Path → Bool) where
  is-good : (b : Bounds) (l r : Walk) (f g : Full) → HasFull early l false f → HasFull early r false g →
      is_part b f g ≡ is_good_step b (step_shown (Select-F.Part l r))
  is-good b l r f g h k =
      let lv : f.word.value ≡ own_value l.shown.reading.meaning nowhere = same-value early l f h in
      let rv : g.word.value ≡ own_value r.shown.reading.meaning nowhere = same-value early r g k in
      four _ _ _ _ _ _ _ _ (is-bound early l f h) (is-bound early r g k)
      (ap (λ n. is_in_order b n g.word.value) lv ∙ ap (is_in_order b (own_value l.shown.reading.meaning nowhere)) rv)
      (ap (λ n. is_width (max n g.word.value - min n g.word.value + 1)) lv ∙
      ap (λ n. is_width (max (own_value l.shown.reading.meaning nowhere) n - min (own_value l.shown.reading.meaning nowhere) n + 1)) rv)

-- ---- the node of a constant with one select

length-map : {A B : Type 0} (f : A → B) (xs : List A) → length (map f xs) ≡ length xs
length-map f [] = refl
length-map f (x ∷ xs) = ap suc (length-map f xs)

length-from : (b : Bounds) (from : ℤ) (n : ℕ) → length (bits_from b from n) ≡ n
length-from b from n = length-map (bit_place b) _ ∙ elim (split (falls b)) [
  | inl h ↦ rw h (length-rising from n)
  | inr h ↦ rw h (length-reverse (rising from n) ∙ length-rising from n)
]

single-good : (a : Bool) → a ≡ true → (not true || not (a && true)) ≡ false
single-good a h = rw h refl

single-bad : (a : Bool) → a ≡ false → (not true || not (a && true)) ≡ true
single-bad a h = rw h refl

module _ (early : Path → Bool) (names : Names) (path : Path) (c : Const)
    (known : names path ≡ Some (constant_of path.name c)) (ahead : early path ≡ true) (s : WalkStep) where
  node : Expr-F Walk WalkStep
  node = Expr-F.Name path (s ∷ [])

  node-width : (walk_step names (Expr-F.Name path (s ∷ []))).shown.reading.meaning.width ≡ count_at s
  node-width = rw known (length-from (bounds_of c) (lowest (meant (chosen_step s)) nowhere) (count_at s))

  -- what its select tells
  record IsSound (joined : Bool) : Type 0 where
    good : is_good_step (bounds_of c) (step_shown s) ≡ true
    some : 1 ≤ count_at s
    most : count_at s ≤ 128
    constant : list_all (λ r. r.constant) (parts_of (chosen_step s)) ≡ true
    sound : (fixed : Option ℕ) → SoundAt fixed early (step_sites false fixed s)

  faultless : (joined : Bool) (fixed : Option ℕ) (W : ℕ) (T : Bool) → IsSound joined →
      form_faults early (site_of names (Expr-F.Name path (s ∷ [])) (read_role joined) fixed W T) ≡ []
  faultless joined fixed W T h =
      let w : is_width (walk_step names (Expr-F.Name path (s ∷ []))).shown.reading.meaning.width ≡ true = ap is_width node-width ∙
      width_in (count_at s) h.some h.most in
      rw w (rw (known, ahead, unwritten joined, h.good) refl)

  one-sites : (joined : Bool) (fixed : Option ℕ) (W : ℕ) (T : Bool) →
      below_sites (Expr-F.Name path (s ∷ [])) (read_role joined) fixed W T ≡ step_sites false fixed s ++ []
  one-sites joined fixed W T = ap (λ d. step_sites d fixed s ++ []) (undriven joined)

  one-constant : list_all (λ r. r.constant) (parts_of (chosen_step s)) ≡ true → (walk_step names (Expr-F.Name path (s ∷ []))).shown.reading.constant ≡ true
  one-constant h = rw known (rw h refl)

  pick-own : (joined : Bool) → IsSound joined → HasOwn early (walk_step names (Expr-F.Name path (s ∷ []))) joined
      (record { width = count_at s; signed = false })
  pick-own joined h = record {
    width = sym node-width;
    signed = rw known refl;
    some = h.some;
    most = h.most;
    constant = one-constant h.constant;
    sound = λ fixed W T. formed-node early (site_of names (Expr-F.Name path (s ∷ [])) (read_role joined) fixed W T)
        (below_sites (Expr-F.Name path (s ∷ [])) (read_role joined) fixed W T)
        (faultless joined fixed W T h)
        (subst (SoundAt fixed early) (sym (one-sites joined fixed W T)) (formed-both early (step_sites false fixed s) [] (h.sound fixed) (formed-none early)));
  }

  pick-bad : {valued : Bool} (joined : Bool) → is_good_step (bounds_of c) (step_shown s) ≡ false →
      HasNone valued early (walk_step names (Expr-F.Name path (s ∷ []))) joined (x.Range path.place)
  pick-bad joined h = record {
    told = λ fixed W T. told-range early (site_of names (Expr-F.Name path (s ∷ [])) (read_role joined) fixed W T)
        (below_sites (Expr-F.Name path (s ∷ [])) (read_role joined) fixed W T)
        (rw known (rw h (or-true _)));
  }

  pick-told : {valued : Bool} (joined : Bool) (y : ConstError) →
      ((fixed : Option ℕ) → ToldOf (valued && is_absent fixed) early (step_sites false fixed s) y) →
      HasNone valued early (walk_step names (Expr-F.Name path (s ∷ []))) joined y
  pick-told {valued} joined y h = record {
    told = λ fixed W T. told-below early (site_of names (Expr-F.Name path (s ∷ [])) (read_role joined) fixed W T)
        (below_sites (Expr-F.Name path (s ∷ [])) (read_role joined) fixed W T) y
        (subst (λ ss. ToldOf (valued && is_absent fixed) early ss y) (sym (one-sites joined fixed W T)) (told-first early (step_sites false fixed s) [] y (h fixed)));
  }

-- ---- own widths

two-true : (a b : Bool) → a ≡ true → b ≡ true → a && (b && true) ≡ true
two-true a b h k = rw (h, k)

module _ (early : Path → Bool) (names : Names) (path : Path) (c : Const)
    (known : names path ≡ Some (constant_of path.name c)) (ahead : early path ≡ true) (joined : Bool) where
  bit-sound : (a : Walk) (o : Own) → HasOwn early a false o → IsSound early names path c known ahead (Select-F.Bit a) joined
  bit-sound a o h = record {
    good = refl;
    some = omega arith;
    most = omega arith;
    constant = rw h.constant refl;
    sound =
        λ fixed. h.sound fixed (width_at a) (signed_at a);
  }

  pub own-bit : (a : Walk) (r : Owned) → IsOwn early a false r → IsOwn early (walk_step names (Expr-F.Name path (Select-F.Bit a ∷ []))) joined (bit_own r)
  own-bit a (Ok o) h = record { right = pick-own early names path c known ahead (Select-F.Bit a) joined (bit-sound a o h.right); wrong = tt }
  own-bit a (Err y) h = record {
    right = tt;
    wrong = pick-told early names path c known ahead (Select-F.Bit a) joined y
        (λ fixed. h.wrong.told fixed (width_at a) (signed_at a));
  }

  part-sound : (a b : Walk) (f g : Full) → HasFull early a false f → HasFull early b false g → is_part (bounds_of c) f g ≡ true →
      IsSound early names path c known ahead (Select-F.Part a b) joined
  part-sound a b f g h k e =
      let good : is_good_step (bounds_of c) (step_shown (Select-F.Part a b)) ≡ true = sym (is-good early (bounds_of c) a b f g h k) ∙ e in
      let w : is_width (count_at (Select-F.Part a b)) ≡ true = and-right _ _ good in record {
        good = good;
        some = is-width_some _ w;
        most = is-width_most _ w;
        constant = two-true _ _ h.own.constant k.own.constant;
        sound = λ fixed. formed-both early (fixed_sites a) (fixed_sites b) (counted early a f h) (counted early b g k);
      }

  part-count : (a b : Walk) (f g : Full) → HasFull early a false f → HasFull early b false g →
      count_at (Select-F.Part a b) ≡ max f.word.value g.word.value - min f.word.value g.word.value + 1
  part-count a b f g h k = sym (ap (λ n. max n g.word.value - min n g.word.value + 1) (same-value early a f h) ∙
      ap (λ n. max (own_value a.shown.reading.meaning nowhere) n - min (own_value a.shown.reading.meaning nowhere) n + 1) (same-value early b g k))

  part-told_first : {valued : Bool} (a b : Walk) (y : ConstError) → HasNoFull early a false y →
      HasNone valued early (walk_step names (Expr-F.Name path (Select-F.Part a b ∷ []))) joined y
  part-told_first {valued} a b y h = pick-told early names path c known ahead (Select-F.Part a b) joined y
      (λ fixed. told-first early (fixed_sites a) (fixed_sites b) y (uncounted early (valued && is_absent fixed) a y h))

  part-told_second : {valued : Bool} (a b : Walk) (y : ConstError) → HasNoFull early b false y →
      HasNone valued early (walk_step names (Expr-F.Name path (Select-F.Part a b ∷ []))) joined y
  part-told_second {valued} a b y h = pick-told early names path c known ahead (Select-F.Part a b) joined y
      (λ fixed. told-second early (fixed_sites a) (fixed_sites b) y (uncounted early (valued && is_absent fixed) b y h))

  part-bad : {valued : Bool} (a b : Walk) (f g : Full) → HasFull early a false f → HasFull early b false g → is_part (bounds_of c) f g ≡ false →
      HasNone valued early (walk_step names (Expr-F.Name path (Select-F.Part a b ∷ []))) joined (x.Range path.place)
  part-bad a b f g h k e = pick-bad early names path c known ahead (Select-F.Part a b) joined (sym (is-good early (bounds_of c) a b f g h k) ∙ e)

  pub own-part : (a b : Walk) (r q : Valued) → IsFull early a false r → IsFull early b false q →
      IsOwn early (walk_step names (Expr-F.Name path (Select-F.Part a b ∷ []))) joined (part_own c path.place r q)
  own-part a b (Err y) q h g = record { right = tt; wrong = part-told_first a b y h.wrong }
  own-part a b (Ok f) (Err y) h g = record { right = tt; wrong = part-told_second a b y g.wrong }
  own-part a b (Ok e) (Ok f) h g = elim (split (is_part (bounds_of c) e f)) [
    | inl k ↦ subst (λ t. IsOwn early (walk_step names (Expr-F.Name path (Select-F.Part a b ∷ []))) joined
        (bits_own (cond t (Ok (max e.word.value f.word.value - min e.word.value f.word.value + 1)) (Err (x.Range path.place))))) (sym k)
        (record {
          right = subst (λ n. HasOwn early (walk_step names (Expr-F.Name path (Select-F.Part a b ∷ []))) joined (record { width = n; signed = false }))
              (part-count a b e f h.right g.right)
              (pick-own early names path c known ahead (Select-F.Part a b) joined (part-sound a b e f h.right g.right k));
          wrong = tt;
        })
    | inr k ↦ subst (λ t. IsOwn early (walk_step names (Expr-F.Name path (Select-F.Part a b ∷ []))) joined
        (bits_own (cond t (Ok (max e.word.value f.word.value - min e.word.value f.word.value + 1)) (Err (x.Range path.place))))) (sym k)
        (record { right = tt; wrong = part-bad a b e f h.right g.right k })
  ]

-- ---- runs of a width, upward and downward

abbrev pub run_step : Bool → Walk → Walk → WalkStep
run_step true a b = Select-F.Up a b
run_step false a b = Select-F.Down a b

module _ (early : Path → Bool) (names : Names) (path : Path) (c : Const)
    (known : names path ≡ Some (constant_of path.name c)) (ahead : early path ≡ true) (joined : Bool) where
  run-good : (up : Bool) (a b : Walk) → is_good_step (bounds_of c) (step_shown (run_step up a b)) ≡ is_width_number (number b.shown)
  run-good true a b = refl
  run-good false a b = refl

  run-count : (up : Bool) (a b : Walk) (f : Full) → HasFull early b false f → f.word.value ≡ count_at (run_step up a b)
  run-count true a b f h = same-value early b f h
  run-count false a b f h = same-value early b f h

  run-constant : (up : Bool) (a b : Walk) → a.shown.reading.constant ≡ true → b.shown.reading.constant ≡ true →
      list_all (λ r. r.constant) (parts_of (chosen_step (run_step up a b))) ≡ true
  run-constant true a b h k = two-true _ _ h k
  run-constant false a b h k = two-true _ _ h k

  run-sites : (up : Bool) (a b : Walk) (fixed : Option ℕ) → step_sites false fixed (run_step up a b) ≡ own_sites Value fixed a ++ fixed_sites b
  run-sites true a b fixed = refl
  run-sites false a b fixed = refl

  run-sound : (up : Bool) (a b : Walk) (o : Own) (f : Full) → HasOwn early a false o → HasFull early b false f → is_run f ≡ true →
      IsSound early names path c known ahead (run_step up a b) joined
  run-sound up a b o f h k e = let w : is_width f.word.value ≡ true = and-left _ _ e in record {
    good = run-good up a b ∙ (sym (is-run early b f k) ∙ e);
    some = subst (λ n. 1 ≤ n) (run-count up a b f k) (is-width_some _ w);
    most = subst (λ n. n ≤ 128) (run-count up a b f k) (is-width_most _ w);
    constant = run-constant up a b h.constant k.own.constant;
    sound = λ fixed. subst (SoundAt fixed early) (sym (run-sites up a b fixed))
        (formed-both early _ (fixed_sites b) (h.sound fixed (width_at a) (signed_at a)) (counted early b f k));
  }

  run-told_first : {valued : Bool} (up : Bool) (a b : Walk) (y : ConstError) → ((fixed : Option ℕ) → ToldOf (valued && is_absent fixed) early (own_sites Value fixed a) y) →
      HasNone valued early (walk_step names (Expr-F.Name path (run_step up a b ∷ []))) joined y
  run-told_first {valued} up a b y h = pick-told early names path c known ahead (run_step up a b) joined y
      (λ fixed. subst (λ ss. ToldOf (valued && is_absent fixed) early ss y) (sym (run-sites up a b fixed)) (told-first early _ (fixed_sites b) y (h fixed)))

  run-told_second : {valued : Bool} (up : Bool) (a b : Walk) (y : ConstError) → HasNoFull early b false y →
      HasNone valued early (walk_step names (Expr-F.Name path (run_step up a b ∷ []))) joined y
  run-told_second {valued} up a b y h = pick-told early names path c known ahead (run_step up a b) joined y
      (λ fixed. subst (λ ss. ToldOf (valued && is_absent fixed) early ss y) (sym (run-sites up a b fixed)) (told-second early _ (fixed_sites b) y
      (uncounted early (valued && is_absent fixed) b y h)))

  run-bad : {valued : Bool} (up : Bool) (a b : Walk) (f : Full) → HasFull early b false f → is_run f ≡ false →
      HasNone valued early (walk_step names (Expr-F.Name path (run_step up a b ∷ []))) joined (x.Range path.place)
  run-bad up a b f k e = pick-bad early names path c known ahead (run_step up a b) joined (run-good up a b ∙ (sym (is-run early b f k) ∙ e))

  pub own-run : (up : Bool) (a b : Walk) (r : Owned) (q : Valued) → IsOwn early a false r → IsFull early b false q →
      IsOwn early (walk_step names (Expr-F.Name path (run_step up a b ∷ []))) joined (run_own path.place r q)
  own-run up a b (Err y) q h g = record { right = tt; wrong = run-told_first up a b y (λ fixed. h.wrong.told fixed (width_at a) (signed_at a)) }
  own-run up a b (Ok o) (Err y) h g = record { right = tt; wrong = run-told_second up a b y g.wrong }
  own-run up a b (Ok o) (Ok f) h g = elim (split (is_run f)) [
    | inl k ↦ subst (λ t. IsOwn early (walk_step names (Expr-F.Name path (run_step up a b ∷ []))) joined
        (bits_own (cond t (Ok f.word.value) (Err (x.Range path.place))))) (sym k)
        (record {
          right = subst (λ n. HasOwn early (walk_step names (Expr-F.Name path (run_step up a b ∷ []))) joined (record { width = n; signed = false }))
              (sym (run-count up a b f g.right))
              (pick-own early names path c known ahead (run_step up a b) joined (run-sound up a b o f h.right g.right k));
          wrong = tt;
        })
    | inr k ↦ subst (λ t. IsOwn early (walk_step names (Expr-F.Name path (run_step up a b ∷ []))) joined
        (bits_own (cond t (Ok f.word.value) (Err (x.Range path.place))))) (sym k)
        (record { right = tt; wrong = run-bad up a b f g.right k })
  ]

-- ---- values

twice-lt : (r n b : ℕ) → b ≤ 1 → r < 2 ^ n → b + 2 * r < 2 ^ suc n
twice-lt r n b h k = rw pow-suc (omega (arith, h, k))

read-lt : (a : ℕ) (ks : List (Option ℕ)) → read_bits a ks < 2 ^ length ks
read-lt a [] = omega arith
read-lt a (None ∷ ks) = omega (arith, twice-lt (read_bits a ks) (length ks) 0 (omega arith) (read-lt a ks))
read-lt a (Some k ∷ ks) = twice-lt (read_bits a ks) (length ks) (a / 2 ^ k % 2) (omega arith) (read-lt a ks)

module _ (early : Path → Bool) (names : Names) (path : Path) (c : Const)
    (known : names path ≡ Some (constant_of path.name c)) (ahead : early path ≡ true) (joined : Bool) where
  picked : (s : WalkStep) (from : ℤ) (n : ℕ) → IsSound early names path c known ahead s joined → count_at s ≡ n →
      ((v : Valuation) → from ≡ lowest (meant (chosen_step s)) v) →
      ((fixed : Option ℕ) → Divides (step_sites false fixed s)) → HasPlain early (walk_step names (Expr-F.Name path (s ∷ []))) joined (bits_at c from n)
  picked s from n h e l d = plain-node early names joined (Expr-F.Name path (s ∷ [])) (bits_at c from n) refl
      (subst (λ k. HasOwn early (walk_step names (Expr-F.Name path (s ∷ []))) joined (record { width = k; signed = false })) e
      (pick-own early names path c known ahead s joined h))
      (λ W T v. rw known (ap (λ k. extended T k W (read_bits c.word.value (bits_from (bounds_of c) (lowest (meant (chosen_step s)) v) (count_at s))))
      (length-from (bounds_of c) (lowest (meant (chosen_step s)) nowhere) (count_at s) ∙ e) ∙
      (ap (λ z. extended T n W (read_bits c.word.value (bits_from (bounds_of c) z (count_at s)))) (sym (l v)) ∙
      ap (λ k. extended T n W (read_bits c.word.value (bits_from (bounds_of c) from k))) e)))
      (subst (λ k. read_bits c.word.value (bits_from (bounds_of c) from n) < 2 ^ k) (length-from (bounds_of c) from n)
      (read-lt c.word.value (bits_from (bounds_of c) from n)))
      (λ j fixed W T. subst Divides (sym (one-sites early names path c known ahead s j fixed W T))
      (divides-both (step_sites false fixed s) [] (d fixed) divides-none))

  pub value-bit : (a : Walk) (r : Valued) → IsFull early a false r →
      IsPlain early (walk_step names (Expr-F.Name path (Select-F.Bit a ∷ []))) joined (bit_full c r)
  value-bit a (Ok f) h = record {
    right = picked (Select-F.Bit a) (number_at f) 1 (bit-sound early names path c known ahead joined a
        (record { width = f.word.width; signed = f.signed }) h.right.own) refl
        (λ v. same-number early a f h.right v) (λ fixed. full-divided early a false f h.right false fixed);
    wrong = tt;
  }
  value-bit a (Err y) h = record { right = tt; wrong = pick-told early names path c known ahead (Select-F.Bit a) joined y (λ fixed. h.wrong.told fixed) }

  part-low : (a b : Walk) (f g : Full) → HasFull early a false f → HasFull early b false g →
      pos (min f.word.value g.word.value) ≡ pos (min (own_value a.shown.reading.meaning nowhere) (own_value b.shown.reading.meaning nowhere))
  part-low a b f g h k = ap (λ n. pos (min n g.word.value)) (same-value early a f h) ∙
      ap (λ n. pos (min (own_value a.shown.reading.meaning nowhere) n)) (same-value early b g k)

  pub value-part : (a b : Walk) (r q : Valued) → IsFull early a false r → IsFull early b false q →
      IsPlain early (walk_step names (Expr-F.Name path (Select-F.Part a b ∷ []))) joined (part_full c path.place r q)
  value-part a b (Err y) q h g = record { right = tt; wrong = part-told_first early names path c known ahead joined a b y h.wrong }
  value-part a b (Ok f) (Err y) h g = record { right = tt; wrong = part-told_second early names path c known ahead joined a b y g.wrong }
  value-part a b (Ok e) (Ok f) h g = elim (split (is_part (bounds_of c) e f)) [
    | inl k ↦ subst (λ t. IsPlain early (walk_step names (Expr-F.Name path (Select-F.Part a b ∷ []))) joined
        (upward c (pos (min e.word.value f.word.value)) (cond t (Ok (max e.word.value f.word.value - min e.word.value f.word.value + 1))
        (Err (x.Range path.place))))) (sym k)
        (record {
          right = picked (Select-F.Part a b) (pos (min e.word.value f.word.value)) (max e.word.value f.word.value - min e.word.value f.word.value + 1)
              (part-sound early names path c known ahead joined a b e f h.right g.right k)
              (part-count early names path c known ahead joined a b e f h.right g.right) (λ v. part-low a b e f h.right g.right)
              (λ fixed. divides-both _ _ (full-divided early a false e h.right false (Some (first_place a.shown)))
              (full-divided early b false f g.right false (Some (first_place b.shown))));
          wrong = tt;
        })
    | inr k ↦ subst (λ t. IsPlain early (walk_step names (Expr-F.Name path (Select-F.Part a b ∷ []))) joined
        (upward c (pos (min e.word.value f.word.value)) (cond t (Ok (max e.word.value f.word.value - min e.word.value f.word.value + 1))
        (Err (x.Range path.place))))) (sym k)
        (record { right = tt; wrong = part-bad early names path c known ahead joined a b e f h.right g.right k })
  ]

  run-divides : (up : Bool) (a b : Walk) (e f : Full) → HasFull early a false e → HasFull early b false f → (fixed : Option ℕ) →
      Divides (step_sites false fixed (run_step up a b))
  run-divides up a b e f h k fixed = subst Divides (sym (run-sites early names path c known ahead joined up a b fixed))
      (divides-both _ _ (full-divided early a false e h false fixed) (full-divided early b false f k false (Some (first_place b.shown))))

  run-full : (up : Bool) (a b : Walk) (e f : Full) (from : ℤ) (u : Result ℕ ConstError → Valued) →
      u (Ok f.word.value) ≡ Ok (bits_at c from f.word.value) → u (Err (x.Range path.place)) ≡ Err (x.Range path.place) →
      HasFull early a false e → HasFull early b false f → ((v : Valuation) → from ≡ lowest (meant (chosen_step (run_step up a b))) v) →
      IsPlain early (walk_step names (Expr-F.Name path (run_step up a b ∷ []))) joined (u (cond (is_run f) (Ok f.word.value) (Err (x.Range path.place))))
  run-full up a b e f from u m n h k l = elim (split (is_run f)) [
    | inl t ↦ subst (λ t. IsPlain early (walk_step names (Expr-F.Name path (run_step up a b ∷ []))) joined
        (u (cond t (Ok f.word.value) (Err (x.Range path.place))))) (sym t)
        (subst (IsPlain early (walk_step names (Expr-F.Name path (run_step up a b ∷ []))) joined) (sym m) (record {
          right = picked (run_step up a b) from f.word.value
              (run-sound early names path c known ahead joined up a b (record { width = e.word.width; signed = e.signed }) f h.own k t)
              (sym (run-count early names path c known ahead joined up a b f k)) l (run-divides up a b e f h k);
          wrong = tt;
        }))
    | inr t ↦ subst (λ t. IsPlain early (walk_step names (Expr-F.Name path (run_step up a b ∷ []))) joined
        (u (cond t (Ok f.word.value) (Err (x.Range path.place))))) (sym t)
        (subst (IsPlain early (walk_step names (Expr-F.Name path (run_step up a b ∷ []))) joined) (sym n)
        (record { right = tt; wrong = run-bad early names path c known ahead joined up a b f k t }))
  ]

  pub value-up : (a b : Walk) (r q : Valued) → IsFull early a false r → IsFull early b false q →
      IsPlain early (walk_step names (Expr-F.Name path (Select-F.Up a b ∷ []))) joined (up_full c path.place r q)
  value-up a b (Err y) q h g = record { right = tt; wrong = run-told_first early names path c known ahead joined true a b y (λ fixed. h.wrong.told fixed) }
  value-up a b (Ok e) (Err y) h g = record { right = tt; wrong = run-told_second early names path c known ahead joined true a b y g.wrong }
  value-up a b (Ok e) (Ok f) h g = run-full true a b e f (number_at e) (λ r. upward c (number_at e) r) refl refl h.right g.right
      (λ v. same-number early a e h.right v)

  pub value-down : (a b : Walk) (r q : Valued) → IsFull early a false r → IsFull early b false q →
      IsPlain early (walk_step names (Expr-F.Name path (Select-F.Down a b ∷ []))) joined (down_full c path.place r q)
  value-down a b (Err y) q h g = record { right = tt; wrong = run-told_first early names path c known ahead joined false a b y (λ fixed. h.wrong.told fixed) }
  value-down a b (Ok e) (Err y) h g = record { right = tt; wrong = run-told_second early names path c known ahead joined false a b y g.wrong }
  value-down a b (Ok e) (Ok f) h g = run-full false a b e f (number_at e -ℤ pos (f.word.value - 1)) (λ r. downward c (number_at e) r) refl refl h.right g.right
      (λ v. ap (λ z. z -ℤ pos (f.word.value - 1)) (same-number early a e h.right v) ∙
      ap (λ n. number_of a.shown.reading.meaning v -ℤ pos (n - 1)) (same-value early b f g.right))
