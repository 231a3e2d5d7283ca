-- The nodes that have values of their own: literals, whole constants, concatenations and replications.
use Rattle.std.proofs.Common.{◌≡◌, ℕ, zero, suc, ◌+◌, ◌*◌, ◌≤◌, ◌<◌, ◌^◌, ◌%◌, Some, Bool, true, false, ◌&&◌, List, [], ◌∷◌, ap, ◌∙◌, sym, subst, refl, map, arith, Ok, Err, Result, cond, not, inl, inr, ◌⊎◌, add-one}
use Rattle.std.specs.Prelude.{nat_lt, nat_le, length}
use Rattle.std.proofs.lemmas.Nat.{pow_pos, mod_below}
use Rattle.std.proofs.Math.Nat.{mul-le-mul_right}
use Rattle.std.proofs.lemmas.Bool.Decides.{nat_tests}
use Rattle.lv_bits.specs.Words.{Bits}
use Rattle.lv_bits.specs.Values.{extended}
use Rattle.lv_bits.proofs.Shifts.{join_lt}
use Rattle.lv_ast.specs.declared.expr.Literal.{Literal}
use Rattle.lv_ast.specs.declared.expr.Path.{Path}
use Rattle.lv_ast.specs.declared.expr.Expr.TheOpen.{Expr-F}
use Rattle.lv_source.specs.Names.{Names}
use Rattle.lv_source.specs.Values.{widths, joined, repeated, size_of}
use Rattle.lv_source.specs.Meaning.{meanings}
use Rattle.lv_source.specs.Sites.{Walk, WalkStep, walk_step, step_shown, below_sites, first_place, fixed_sites, is_absent}
use Rattle.lv_source.specs.NodeRules.{is_width, is_literal_fault, is_positive, number}
use Rattle.lv_const.specs.declared.constant.Const.{Const}
use Rattle.lv_const.specs.declared.full.Full.{Full}
use Rattle.lv_const.specs.declared.error.ConstError.{ConstError}
use Rattle.lv_const.specs.declared.error.ConstError.TheVariants as x
use Rattle.lv_const.specs.Constants.{bounds_of, constant_of}
use Rattle.lv_const.specs.Answers.{HasOwn, HasNone, HasNoPlain, IsOwn, HasFull, IsFull, HasPlain, IsPlain, HasJoint, HasNoJoint, IsJoint, inside, wide, total_width, joined_sites, read_role}
use Rattle.lv_const.specs.Joins.{Valued, literal_word, literal_full, joined_full, is_count, repeated_full}
use Rattle.lv_const.specs.Picks.{IsSized, whole_own, whole_full}
use Rattle.lv_const.proofs.Numbers.{split}
use Rattle.lv_const.proofs.Told.{divides-none, divides-both, told-range, told-first, told-second, told-too, width_in}
use Rattle.lv_const.proofs.Owns.{site_of, hasnt}
use Rattle.lv_const.proofs.Leaves as leaves
use Rattle.lv_const.proofs.Lists.{meant_all}
use Rattle.lv_const.proofs.Reached.{plain-node, full-divided}

-- ---- literals and whole constants

module _ (early : Path → Bool) (names : Names) (joined : Bool) where
  lit-right : (l : Literal) → is_width (size_of l.size) ≡ true → is_literal_fault (read_role joined) l ≡ false →
      HasPlain early (walk_step names (Expr-F.Lit l)) joined
      (record { word = record { width = size_of l.size; value = l.value % 2 ^ size_of l.size }; signed = l.signed })
  lit-right l h k = plain-node early names joined (Expr-F.Lit l)
      (record { word = record { width = size_of l.size; value = l.value % 2 ^ size_of l.size }; signed = l.signed }) refl
      (leaves.lit-right early names joined l h k) (λ W T v. refl) (mod_below l.value (2 ^ size_of l.size) (pow_pos (size_of l.size)))
      (λ j fixed W T. divides-none)

  pub lit : (l : Literal) → IsPlain early (walk_step names (Expr-F.Lit l)) joined (literal_full l joined)
  lit l = elim (split (is_width (size_of l.size) && not (is_literal_fault (read_role joined) l))) [
    | inl h ↦ subst (λ t. IsPlain early (walk_step names (Expr-F.Lit l)) joined
        (literal_word l (cond t (Ok (record { width = size_of l.size; signed = l.signed })) (Err (x.Range l.place)))))
        (sym h) (record { right = lit-right l (leaves.and-left _ _ h) (leaves.not-false _ (leaves.and-right _ _ h)); wrong = tt })
    | inr h ↦ subst (λ t. IsPlain early (walk_step names (Expr-F.Lit l)) joined
        (literal_word l (cond t (Ok (record { width = size_of l.size; signed = l.signed })) (Err (x.Range l.place)))))
        (sym h) (record { right = tt; wrong = leaves.lit-wrong early names joined l h })
  ]

module _ (early : Path → Bool) (names : Names) (path : Path) (c : Const)
    (known : names path ≡ Some (constant_of path.name c)) (ahead : early path ≡ true) (z : IsSized c) (joined : Bool) where
  whole-right : HasOwn early (walk_step names (Expr-F.Name path [])) joined (whole_own c)
  whole-right = subst (λ w. HasOwn early (walk_step names (Expr-F.Name path [])) joined (record { width = w; signed = c.signed })) z.spans
      (leaves.bare early names joined path c known ahead (subst (λ w. 1 ≤ w) (sym z.spans) z.some) (subst (λ w. w ≤ 128) (sym z.spans) z.most))

  pub own-whole : IsOwn early (walk_step names (Expr-F.Name path [])) joined (Ok (whole_own c))
  own-whole = record { right = whole-right; wrong = tt }

  pub full-whole : IsPlain early (walk_step names (Expr-F.Name path [])) joined (Ok (whole_full c))
  full-whole = record {
    right = plain-node early names joined (Expr-F.Name path []) (whole_full c) refl whole-right
        (λ W T v. rw known (sym (leaves.bare-value T (bounds_of c) c.word.width W c.word.value z.spans z.fits))) z.fits (λ j fixed W T. divides-none);
    wrong = tt;
  }

-- more selects than one
two-many : (n : ℕ) → nat_le (suc (suc n)) 1 ≡ false
two-many n = grind (arith, nat_tests)

module _ (early : Path → Bool) where
  pub many : {valued : Bool} (names : Names) (path : Path) (c : Const) (s t : WalkStep) (ss : List WalkStep) → names path ≡ Some (constant_of path.name c) → (joined : Bool) →
      HasNone valued early (walk_step names (Expr-F.Name path (s ∷ (t ∷ ss)))) joined (x.Range path.place)
  many names path c s t ss known joined = record {
    told = λ fixed W T. told-range early (site_of names (Expr-F.Name path (s ∷ (t ∷ ss))) (read_role joined) fixed W T)
        (below_sites (Expr-F.Name path (s ∷ (t ∷ ss))) (read_role joined) fixed W T)
        (rw (known, two-many (length (map step_shown ss))) (leaves.or-true _));
  }

-- ---- concatenations

shown-meanings : (ws : List Walk) → meanings (map (λ r. r.reading) (map (λ w. w.shown) ws)) ≡ meant_all ws
shown-meanings [] = refl
shown-meanings (w ∷ ws) = ap (λ ms. w.shown.reading.meaning ∷ ms) (shown-meanings ws)

module _ (early : Path → Bool) (names : Names) (joined_too : Bool) where
  cat-right : (ws : List Walk) (word : Bits) → HasJoint early ws word →
      HasPlain early (walk_step names (Expr-F.Cat ws)) joined_too (record { word = word; signed = false })
  cat-right ws word h = plain-node early names joined_too (Expr-F.Cat ws) (record { word = word; signed = false }) refl
      (leaves.cat-right early names joined_too ws 0 word.width h.widths (width_in word.width h.some h.most))
      (λ W T v. ap (λ n. extended T n W (joined v (meanings (map (λ r. r.reading) (map (λ w. w.shown) ws))))) (leaves.shown-widths ws ∙ sym h.widths.width) ∙
      ap (extended T word.width W) (ap (joined v) (shown-meanings ws) ∙ sym (h.is v)))
      h.fits (λ j fixed W T. rw (leaves.joins j) (h.divides fixed))

  cat-wide : (ws : List Walk) → is_width (total_width ws) ≡ false →
      HasNoPlain early (walk_step names (Expr-F.Cat ws)) joined_too (x.Range (first_place (walk_step names (Expr-F.Cat ws)).shown))
  cat-wide ws k =
      let e : is_width (widths (meanings (map (λ r. r.reading) (map (λ w. w.shown) ws)))) ≡ false = ap is_width (leaves.shown-widths ws) ∙ k in
      record {
        told = λ fixed W T. told-range early (site_of names (Expr-F.Cat ws) (read_role joined_too) fixed W T)
            (below_sites (Expr-F.Cat ws) (read_role joined_too) fixed W T) (rw e refl);
      }

  cat-wrong : (ws : List Walk) (y : ConstError) → HasNoJoint early ws (first_place (walk_step names (Expr-F.Cat ws)).shown) y →
      HasNoPlain early (walk_step names (Expr-F.Cat ws)) joined_too y
  cat-wrong ws y (inside h) = hasnt early names (Expr-F.Cat ws) joined_too y (λ fixed W T. rw (leaves.joins joined_too) (h.told fixed))
  cat-wrong ws y (wide k) = cat-wide ws k

  pub cat : (ws : List Walk) (q : Result Bits ConstError) → IsJoint early ws (first_place (walk_step names (Expr-F.Cat ws)).shown) q →
      IsPlain early (walk_step names (Expr-F.Cat ws)) joined_too (joined_full q)
  cat ws (Ok word) h = record { right = cat-right ws word h.right; wrong = tt }
  cat ws (Err y) h = record { right = tt; wrong = cat-wrong ws y h.wrong }

-- ---- replications

repeated-lt : (n w a : ℕ) → a < 2 ^ w → repeated n w a < 2 ^ (n * w)
repeated-lt zero w a h = pow_pos (zero * w)
repeated-lt (suc n) w a h = let e : n * w + w ≡ suc n * w = grind arith in
    subst (λ k. repeated n w a * 2 ^ w + a < 2 ^ k) e (join_lt (repeated n w a) a (n * w) w (repeated-lt n w a h) h)

out : (t : ℕ) → is_width (suc t) ≡ false → 128 < suc t
out t k = grind (arith, nat_tests)

over : (n : ℕ) → 128 < n → is_width n ≡ false
over n h = grind (arith, nat_tests)

at-most : (k n : ℕ) → k < n → suc k ≤ n
at-most k n h = omega (arith, h)

times-out : (f t : ℕ) → nat_lt 0 f ≡ true → is_width t ≡ false → is_width (f * t) ≡ false
times-out zero t h k = cc
times-out (suc f) zero h k = let e : suc f * zero ≡ 0 = grind arith in ap is_width e
times-out (suc f) (suc t) h k = let g : 128 < suc t = out t k in let e : suc f * suc t ≡ suc t + f * suc t = grind arith in ap is_width e ∙
    over (suc t + f * suc t) (omega (arith, g))

module _ (early : Path → Bool) (names : Names) (joined_too : Bool) where
  rep-right : (n : Walk) (ws : List Walk) (f : Full) (word : Bits) → HasFull early n false f → HasJoint early ws word → is_count f ≡ true →
      is_width (f.word.value * word.width) ≡ true →
      HasPlain early (walk_step names (Expr-F.Rep n ws)) joined_too
      (record { word = record { width = f.word.value * word.width; value = repeated f.word.value word.width word.value }; signed = false })
  rep-right n ws f word h g c k =
      let wide_all : widths (meanings (map (λ r. r.reading) (map (λ w. w.shown) ws))) ≡ word.width = leaves.shown-widths ws ∙ sym g.widths.width in
      plain-node early names joined_too (Expr-F.Rep n ws) (record {
        word =
            record { width = f.word.value * word.width; value = repeated f.word.value word.width word.value };
        signed = false;
      }) refl
      (leaves.rep-right early names joined_too n ws f word.width h g.widths c k)
      (λ W T v. ap (λ i. extended T (i * widths (meanings (map (λ r. r.reading) (map (λ w. w.shown) ws)))) W
      (repeated i (widths (meanings (map (λ r. r.reading) (map (λ w. w.shown) ws)))) (joined v (meanings (map (λ r. r.reading) (map (λ w. w.shown) ws))))))
      (sym (leaves.count-value early n f h)) ∙
      (ap (λ i. extended T (f.word.value * i) W (repeated f.word.value i (joined v (meanings (map (λ r. r.reading) (map (λ w. w.shown) ws)))))) wide_all ∙
      ap (λ i. extended T (f.word.value * word.width) W (repeated f.word.value word.width i)) (ap (joined v) (shown-meanings ws) ∙ sym (g.is v))))
      (repeated-lt f.word.value word.width word.value g.fits)
      (λ j fixed W T. divides-both (fixed_sites n) (joined_sites fixed ws) (full-divided early n false f h false (Some (first_place n.shown)))
      (g.divides fixed))

  rep-told : (n : Walk) (ws : List Walk) → (is_width (walk_step names (Expr-F.Rep n ws)).shown.reading.meaning.width ≡ false) ⊎
      (is_positive (number n.shown) ≡ false) →
      HasNoPlain early (walk_step names (Expr-F.Rep n ws)) joined_too (x.Range (first_place (walk_step names (Expr-F.Rep n ws)).shown))
  rep-told n ws (inl k) = record {
    told = λ fixed W T. told-range early (site_of names (Expr-F.Rep n ws) (read_role joined_too) fixed W T)
        (below_sites (Expr-F.Rep n ws) (read_role joined_too) fixed W T) (rw k refl);
  }
  rep-told n ws (inr k) = record {
    told = λ fixed W T. told-range early (site_of names (Expr-F.Rep n ws) (read_role joined_too) fixed W T)
        (below_sites (Expr-F.Rep n ws) (read_role joined_too) fixed W T) (rw k (leaves.or-true _));
  }

  rep-wide : (n : Walk) (ws : List Walk) (f : Full) → HasFull early n false f → is_width (total_width ws) ≡ false →
      HasNoPlain early (walk_step names (Expr-F.Rep n ws)) joined_too (x.Range (first_place (walk_step names (Expr-F.Rep n ws)).shown))
  rep-wide n ws f h k = elim (split (is_count f)) [
    | inl c ↦ rep-told n ws (inl (ap is_width (ap (λ i. i * widths (meanings (map (λ r. r.reading) (map (λ w. w.shown) ws))))
        (sym (leaves.count-value early n f h)) ∙
        ap (λ i. f.word.value * i) (leaves.shown-widths ws)) ∙
        times-out f.word.value (total_width ws) (leaves.and-left _ _ c) k))
    | inr c ↦ rep-told n ws (inr (sym (leaves.positive early n f h) ∙ c))
  ]

  rep-wrong : (n : Walk) (ws : List Walk) (f : Full) (y : ConstError) → HasFull early n false f →
      HasNoJoint early ws (first_place (walk_step names (Expr-F.Rep n ws)).shown) y →
      HasNoPlain early (walk_step names (Expr-F.Rep n ws)) joined_too y
  rep-wrong n ws f y h (inside g) = hasnt early names (Expr-F.Rep n ws) joined_too y
      (λ fixed W T. told-second early (fixed_sites n) (joined_sites fixed ws) y (g.told fixed))
  rep-wrong n ws f y h (wide k) = rep-wide n ws f h k

  rep-bad : (n : Walk) (ws : List Walk) (f : Full) (word : Bits) → HasFull early n false f → HasJoint early ws word →
      is_count f && is_width (f.word.value * word.width) ≡ false →
      HasNoPlain early (walk_step names (Expr-F.Rep n ws)) joined_too (x.Range (first_place (walk_step names (Expr-F.Rep n ws)).shown))
  rep-bad n ws f word h g e = elim (split (is_count f)) [
    | inl c ↦ leaves.rep-wide early names joined_too n ws f word.width h g.widths (inl (rw c at e))
    | inr c ↦ leaves.rep-wide early names joined_too n ws f word.width h g.widths (inr c)
  ]

  pub rep : (n : Walk) (ws : List Walk) (p : Valued) (q : Result Bits ConstError) → IsFull early n false p →
      IsJoint early ws (first_place (walk_step names (Expr-F.Rep n ws)).shown) q →
      IsPlain early (walk_step names (Expr-F.Rep n ws)) joined_too (repeated_full (first_place (walk_step names (Expr-F.Rep n ws)).shown) p q)
  rep n ws (Err y) q h g = record {
    right = tt;
    wrong = hasnt early names (Expr-F.Rep n ws) joined_too y
        (λ fixed W T. told-first early (fixed_sites n) (joined_sites fixed ws) y
        (told-too early (is_absent fixed) (fixed_sites n) y (h.wrong.told (Some (first_place n.shown)))));
  }
  rep n ws (Ok f) (Err y) h g = record { right = tt; wrong = rep-wrong n ws f y h.right g.wrong }
  rep n ws (Ok f) (Ok word) h g = elim (split (is_count f && is_width (f.word.value * word.width))) [
    | inl e ↦ subst (λ t. IsPlain early (walk_step names (Expr-F.Rep n ws)) joined_too
        (cond t (Ok (record { word = record { width = f.word.value * word.width; value = repeated f.word.value word.width word.value }; signed = false }))
        (Err (x.Range (first_place (walk_step names (Expr-F.Rep n ws)).shown))))) (sym e)
        (record { right = rep-right n ws f word h.right g.right (leaves.and-left _ _ e) (leaves.and-right _ _ e); wrong = tt })
    | inr e ↦ subst (λ t. IsPlain early (walk_step names (Expr-F.Rep n ws)) joined_too
        (cond t (Ok (record { word = record { width = f.word.value * word.width; value = repeated f.word.value word.width word.value }; signed = false }))
        (Err (x.Range (first_place (walk_step names (Expr-F.Rep n ws)).shown))))) (sym e)
        (record { right = tt; wrong = rep-bad n ws f word h.right g.right e })
  ]

-- ---- copies one after another

pub copies_fit : (k n w : ℕ) → k < n → n * w ≤ 128 → k * w + w ≤ 128
copies_fit k n w h m = let e : k * w + w ≡ suc k * w = grind arith in omega (arith, e, m, mul-le-mul_right w (at-most k n h))

pub copies_width : (k w : ℕ) → k * w + w ≡ (k + 1) * w
copies_width k w = grind arith

pub copies_more : (k w a : ℕ) → repeated k w a * 2 ^ w + a ≡ repeated (k + 1) w a
copies_more k w a = rw add-one refl

pub copies_one : (w a : ℕ) → a ≡ repeated 1 w a
copies_one w a = omega arith

pub ruleset copies_rules = (copies_fit, copies_width, copies_more, copies_one)
