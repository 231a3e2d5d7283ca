-- The operands of a concatenation, one after another.
use Rattle.std.proofs.Common.{◌≡◌, ℕ, zero, suc, ◌+◌, ◌*◌, ◌≤◌, ◌<◌, ◌^◌, Bool, true, false, ◌&&◌, List, [], ◌∷◌, ◌++◌, ap, ◌∙◌, sym, subst, refl, map, length, take, drop, get_or, arith, Option, Some, None, Ok, Err, Result, length-append, inl, inr}
use Rattle.std.specs.List.{list_all}
use Rattle.std.proofs.lemmas.Grind.{flat_map-append}
use Rattle.lv_const.specs.declared.own.Own.{Own}
use Rattle.lv_const.specs.declared.full.Full.{Full}
use Rattle.lv_const.specs.declared.error.ConstError.{ConstError}
use Rattle.lv_const.specs.declared.error.ConstError.TheVariants as x
use Rattle.lv_source.specs.Sites.{Walk, walk, Joined, own_sites}
use Rattle.lv_ast.specs.declared.expr.Expr.{Expr}
use Rattle.lv_source.specs.Names.{Names}
use Rattle.lv_const.specs.Answers.{ToldOf, SoundAt, HasOwn, HasNoOwn, HaveWidths, HaveNoWidths, HaveNoWords, total_width, joined_sites, HasFull, HasNoFull, HasNoReached, IsReached, HasJoint, HasNoJoint, inside, wide, Divides}
use Rattle.lv_const.proofs.Told.{formed-none, formed-both, told-first, told-second, divides-none, divides-both}
use Rattle.lv_const.proofs.Numbers.{split}
use Rattle.lv_const.specs.Joins.{Valued, appended, alone}
use Rattle.lv_bits.specs.Words.{Bits}
use Rattle.lv_bits.proofs.Shifts.{join_lt}
use Rattle.lv_source.specs.Values.{Meaning, joined, widths, own_value}
use Rattle.lv_source.specs.Names.{Valuation}
use Rattle.lv_source.specs.NodeRules.{is_width}
use Rattle.std.specs.Prelude.{nat_le}
use Rattle.std.proofs.lemmas.Nat.{pow-add}
use Rattle.std.proofs.lemmas.List.Sums.{sum_by-cons}
use Rattle.std.proofs.lemmas.Bool.Decides.{nat_tests}
use Rattle.lv_ast.specs.declared.expr.Path.{Path}
use Rattle.lv_const.proofs.Reached.{full-alone, full-own_value, full-divided}

total-snoc : (ws : List Walk) (w : Walk) → total_width (ws ++ w ∷ []) ≡ total_width ws + w.shown.reading.meaning.width
total-snoc [] w = omega arith
total-snoc (v ∷ ws) w = omega (arith, total-snoc ws w)

all-step : (a b c : Bool) → a && b ≡ true → (b ≡ true → c ≡ true) → a && c ≡ true
all-step true b c h f = f h
all-step false b c h f = h

all-snoc : (ws : List Walk) (w : Walk) → list_all (λ v. v.shown.reading.constant) ws ≡ true → w.shown.reading.constant ≡ true →
    list_all (λ v. v.shown.reading.constant) (ws ++ w ∷ []) ≡ true
all-snoc [] w h k = rw k
all-snoc (v ∷ ws) w h k = all-step v.shown.reading.constant (list_all (λ u. u.shown.reading.constant) ws)
    (list_all (λ u. u.shown.reading.constant) (ws ++ w ∷ [])) h (λ g. all-snoc ws w g k)

sites-snoc : (fixed : Option ℕ) (ws : List Walk) (w : Walk) → joined_sites fixed (ws ++ w ∷ []) ≡ joined_sites fixed ws ++ (own_sites Joined fixed w ++ [])
sites-snoc fixed ws w = flat_map-append (own_sites Joined fixed) ws (w ∷ [])

module _ (early : Path → Bool) where
  pub widths-none : HaveWidths early [] 0
  widths-none = record { width = refl; most = omega arith; constant = refl; sound = λ fixed. formed-none early }

  pub widths-more : (ws : List Walk) (w : Walk) (total : ℕ) (o : Own) → HaveWidths early ws total → HasOwn early w true o →
      HaveWidths early (ws ++ w ∷ []) (total + o.width)
  widths-more ws w total o h k = record {
    width = rw (h.width, k.width) (sym (total-snoc ws w));
    most = omega (arith, h.most, k.most, length-append ws (w ∷ []));
    constant = all-snoc ws w h.constant k.constant;
    sound = λ fixed. subst (SoundAt fixed early) (sym (sites-snoc fixed ws w))
        (formed-both early _ _ (h.sound fixed) (formed-both early _ [] (k.sound fixed w.shown.reading.meaning.width w.shown.reading.meaning.signed)
        (formed-none early)));
  }

  -- one of them, where it stands
  pub widths-wrong : (ws : List Walk) (i : ℕ) (w : Walk) (x : ConstError) → i < length ws → get_or ws i w ≡ w → HasNoOwn early w true x →
      HaveNoWidths early ws x
  widths-wrong [] i w x h e k = absurd (omega (arith, h))
  widths-wrong (v ∷ ws) zero w x h e k = record {
    told = λ fixed. told-first early _ _ x
        (subst (λ u. ToldOf false early (own_sites Joined fixed u) x) (sym e) (k.told fixed w.shown.reading.meaning.width w.shown.reading.meaning.signed));
  }
  widths-wrong (v ∷ ws) (suc i) w x h e k = let r : HaveNoWidths early ws x = widths-wrong ws i w x (omega (arith, h)) e k in
      record { told = λ fixed. told-second early _ _ x (r.told fixed) }

  pub widths-wrong_at : (names : Names) (es : List Expr) (i : ℕ) (z : Expr) (y : ConstError) → i < length es → get_or es i z ≡ z →
      HasNoOwn early (walk names z) true y → HaveNoWidths early (map (walk names) es) y
  widths-wrong_at names [] i z y h e k = absurd (omega (arith, h))
  widths-wrong_at names (v ∷ es) zero z y h e k = record {
    told =
        λ fixed. told-first early _ _ y (subst (λ u. ToldOf false early (own_sites Joined fixed (walk names u)) y) (sym e)
        (k.told fixed (walk names z).shown.reading.meaning.width (walk names z).shown.reading.meaning.signed));
  }
  widths-wrong_at names (v ∷ es) (suc i) z y h e k = let r : HaveNoWidths early (map (walk names) es) y =
      widths-wrong_at names es i z y (omega (arith, h)) e k in record { told = λ fixed. told-second early _ _ y (r.told fixed) }

-- ---- their words in one

abbrev pub meant_all : List Walk → List Meaning
meant_all ws = map (λ w. w.shown.reading.meaning) ws

width-all : (ws : List Walk) → widths (meant_all ws) ≡ total_width ws
width-all [] = refl
width-all (w ∷ ws) = sum_by-cons (λ (k : ℕ). k) w.shown.reading.meaning.width (map (λ m. m.width) (meant_all ws)) ∙
    ap (λ n. w.shown.reading.meaning.width + n) (width-all ws)

joined-grows : (a p q b j o : ℕ) → a * (p * q) + (j * q + o) ≡ (a * p + j) * q + o
joined-grows a p q b j o = grind arith

joined-snoc : (v : Valuation) (ws : List Walk) (w : Walk) →
    joined v (meant_all (ws ++ w ∷ [])) ≡ joined v (meant_all ws) * 2 ^ w.shown.reading.meaning.width + own_value w.shown.reading.meaning v
joined-snoc v [] w = omega arith
joined-snoc v (u ∷ ws) w =
    let a : ℕ = own_value u.shown.reading.meaning v in
    let k : ℕ = w.shown.reading.meaning.width in
    ap (λ n. a * 2 ^ n + joined v (meant_all (ws ++ w ∷ []))) (width-all (ws ++ w ∷ []) ∙ total-snoc ws w) ∙
    (ap (λ n. a * n + joined v (meant_all (ws ++ w ∷ []))) (pow-add 2 (total_width ws) k) ∙
    (ap (λ n. a * (2 ^ total_width ws * 2 ^ k) + n) (joined-snoc v ws w) ∙
    (joined-grows a (2 ^ total_width ws) (2 ^ k) 0 (joined v (meant_all ws)) (own_value w.shown.reading.meaning v) ∙
    ap (λ n. (a * 2 ^ n + joined v (meant_all ws)) * 2 ^ k + own_value w.shown.reading.meaning v) (sym (width-all ws)))))

-- those so far: none, or their word
pub data IsSoFar (early : Path → Bool) (ws : List Walk) : Option Bits → Type 0 where
  first : ws ≡ [] → IsSoFar early ws None
  more : {word : Bits} → HasJoint early ws word → IsSoFar early ws (Some word)

module _ (early : Path → Bool) where
  joint-one : (w : Walk) (f : Full) → HasFull early w true f → HasJoint early ([] ++ w ∷ []) f.word
  joint-one w f h = record {
    widths = subst (λ n. HaveWidths early (w ∷ []) n) (omega arith)
        (widths-more early [] w 0 (record { width = f.word.width; signed = f.signed }) (widths-none early) h.own);
    some = h.own.some;
    most = h.own.most;
    is = λ v. full-own_value early w true f h v ∙ sym (joined-snoc v [] w ∙ omega arith);
    fits = h.value.fits;
    divides = λ fixed. divides-both _ [] (full-divided early w true f h true fixed) divides-none;
  }

  joint-more : (ws : List Walk) (w : Walk) (word : Bits) (f : Full) → word.width + f.word.width ≤ 128 → HasJoint early ws word → HasFull early w true f →
      HasJoint early (ws ++ w ∷ []) (record { width = word.width + f.word.width; value = word.value * 2 ^ f.word.width + f.word.value })
  joint-more ws w word f k g h = record {
    widths = widths-more early ws w word.width (record { width = f.word.width; signed = f.signed }) g.widths h.own;
    some = omega (arith, g.some);
    most = k;
    is = λ v. ap (λ n. n * 2 ^ f.word.width + f.word.value) (g.is v) ∙
        (ap (λ n. joined v (meant_all ws) * 2 ^ n + f.word.value) h.own.width ∙
        (ap (λ n. joined v (meant_all ws) * 2 ^ w.shown.reading.meaning.width + n) (full-own_value early w true f h v) ∙ sym (joined-snoc v ws w)));
    fits = join_lt word.value f.word.value word.width f.word.width g.fits h.value.fits;
    divides = λ fixed. subst Divides (sym (sites-snoc fixed ws w))
        (divides-both _ _ (g.divides fixed) (divides-both _ [] (full-divided early w true f h true fixed) divides-none));
  }

le-true : (a b : ℕ) → nat_le a b ≡ true → a ≤ b
le-true a b h = grind (arith, nat_tests)

le-false : (a b : ℕ) → nat_le a b ≡ false → b < a
le-false a b h = grind (arith, nat_tests)

pub wide-width : (n : ℕ) → 128 < n → is_width n ≡ false
wide-width n h = grind (arith, nat_tests)

abbrev word_or : Bits → Result Bits ConstError → Bits
word_or d (Ok a) = a
word_or d (Err y) = d

abbrev wrong_or : ConstError → Result Bits ConstError → ConstError
wrong_or d (Ok a) = d
wrong_or d (Err y) = y

is-word : (a b : Bits) (q : Result Bits ConstError) → q ≡ Ok a → q ≡ Ok b → a ≡ b
is-word a b q h k = ap (word_or a) (sym h ∙ k)

is-wrong : (a b : ConstError) (q : Result Bits ConstError) → q ≡ Err a → q ≡ Err b → a ≡ b
is-wrong a b q h k = ap (wrong_or a) (sym h ∙ k)

not-both : (a : Bits) (b : ConstError) (q : Result Bits ConstError) → q ≡ Ok a → q ≡ Err b → ⊥
not-both a b q h k = cc

module _ (early : Path → Bool) where
  -- one more
  pub so-far_more : (ws : List Walk) (w : Walk) (place : ℕ) (joint : Option Bits) (r : Valued) (word : Bits) → IsSoFar early ws joint →
      IsReached early w true alone r →
      appended place joint r ≡ Ok word → IsSoFar early (ws ++ w ∷ []) (Some word)
  so-far_more ws w place joint (Err y) word h g e = absurd (not-both word y (Err y) e refl)
  so-far_more ws w place None (Ok f) word (first n) g e =
      subst (λ u. IsSoFar early (ws ++ w ∷ []) (Some u)) (is-word f.word word (Ok f.word) refl e)
      (subst (λ us. IsSoFar early (us ++ w ∷ []) (Some f.word)) (sym n) (more (joint-one early w f (full-alone early w true f g.right))))
  so-far_more ws w place (Some high) (Ok f) word (more j) g e = elim (split (nat_le (high.width + f.word.width) 128)) [
    | inl k ↦ subst (λ u. IsSoFar early (ws ++ w ∷ []) (Some u)) (is-word _ word (Ok _) refl (rw k at e))
        (more (joint-more early ws w high f (le-true _ _ k) j (full-alone early w true f g.right)))
    | inr k ↦ absurd (not-both word (x.Range place) (Err (x.Range place)) (rw k at e) refl)
  ]

total-both : (ws us : List Walk) → total_width (ws ++ us) ≡ total_width ws + total_width us
total-both [] us = omega arith
total-both (w ∷ ws) us = omega (arith, total-both ws us)

module _ (early : Path → Bool) where
  -- where one is refused
  pub so-far_wrong : (ws us : List Walk) (w : Walk) (place : ℕ) (joint : Option Bits) (r : Valued) (y : ConstError) → IsSoFar early ws joint →
      IsReached early w true alone r → appended place joint r ≡ Err y →
      ((z : ConstError) → HasNoReached early w true alone z → HaveNoWords early (ws ++ w ∷ us) z) → HasNoJoint early (ws ++ w ∷ us) place y
  so-far_wrong ws us w place joint (Err z) y h g e t = subst (HasNoJoint early (ws ++ w ∷ us) place) (is-wrong z y (Err z) refl e) (inside (t z g.wrong))
  so-far_wrong ws us w place None (Ok f) y (first n) g e t = absurd (not-both f.word y (Ok f.word) refl e)
  so-far_wrong ws us w place (Some high) (Ok f) y (more j) g e t = elim (split (nat_le (high.width + f.word.width) 128)) [
    | inl k ↦ absurd (not-both _ y (Ok _) refl (rw k at e))
    | inr k ↦ subst (HasNoJoint early (ws ++ w ∷ us) place) (is-wrong (x.Range place) y (Err (x.Range place)) refl (rw k at e))
        (wide (wide-width (total_width (ws ++ w ∷ us)) (let a : 128 < high.width + f.word.width = le-false _ _ k in
        let b : high.width ≡ total_width ws = j.widths.width in
        let c : f.word.width ≡ w.shown.reading.meaning.width = (full-alone early w true f g.right).own.width in
        let d : total_width (ws ++ w ∷ us) ≡ total_width ws + total_width (w ∷ us) = total-both ws (w ∷ us) in omega (arith, a, b, c, d))))
  ]

-- ---- by places

pub parted : (names : Names) (es : List Expr) (i : ℕ) (z : Expr) → i < length es → get_or es i z ≡ z →
    map (walk names) es ≡ map (walk names) (take i es) ++ walk names z ∷ map (walk names) (drop (i + 1) es)
parted names [] i z h e = absurd (omega (arith, h))
parted names (y ∷ es) zero z h e = ap (λ u. walk names u ∷ map (walk names) es) e
parted names (y ∷ es) (suc i) z h e =
    let k : suc i + 1 ≡ suc (i + 1) = omega arith in
    ap (λ us. walk names y ∷ us) (parted names es i z (omega (arith, h)) e) ∙
    ap (λ n. walk names y ∷ (map (walk names) (take i es) ++ walk names z ∷ map (walk names) (drop n (y ∷ es)))) (sym k)

module _ (early : Path → Bool) where
  pub one-wrong : (ws us : List Walk) (w : Walk) (y : ConstError) → HasNoFull early w true y → HaveNoWords early (ws ++ w ∷ us) y
  one-wrong [] us w y h = record { told = λ fixed. told-first early _ _ y (h.told fixed) }
  one-wrong (v ∷ ws) us w y h = let r : HaveNoWords early (ws ++ w ∷ us) y = one-wrong ws us w y h in
      record { told = λ fixed. told-second early _ _ y (r.told fixed) }

pub take-whole : {A : Type 0} (xs : List A) (i : ℕ) → length xs ≤ i → take i xs ≡ xs
take-whole [] zero h = refl
take-whole [] (suc i) h = refl
take-whole (x ∷ xs) zero h = absurd (omega (arith, h))
take-whole (x ∷ xs) (suc i) h = ap (λ ys. x ∷ ys) (take-whole xs i (omega (arith, h)))

module _ (early : Path → Bool) where
  pub so-far_all : (ws : List Walk) (word : Bits) → IsSoFar early ws (Some word) → HasJoint early ws word
  so-far_all ws word (more h) = h

no-width : (ws : List Walk) → ws ≡ [] → is_width (total_width ws) ≡ false
no-width ws h = ap (λ us. is_width (total_width us)) h

module _ (early : Path → Bool) where
  pub so-far_none : (ws : List Walk) (place : ℕ) → IsSoFar early ws None → HasNoJoint early ws place (x.Range place)
  so-far_none ws place (first h) = wide (no-width ws h)
