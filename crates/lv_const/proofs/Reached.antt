-- The value of each kind of node, from those of its operands, at what reaches it.
use Rattle.std.proofs.Common.{◌≡◌, ℕ, ◌≤◌, ◌<◌, ◌^◌, ◌==◌, max, Bool, true, false, ◌&&◌, [], ◌∷◌, ◌++◌, ap, ◌∙◌, sym, subst, refl, arith, Ok, Err, Option, cond, inl, inr, append_assoc}
use Rattle.std.specs.Prelude.{IsFalse, IfOk, if◌then◌else◌}
use Rattle.lv_ast.specs.declared.expr.Path.{Path}
use Rattle.lv_bits.specs.declared.op.Op.{Op}
use Rattle.lv_bits.specs.Values.{keeps_width, is_apart, unary_value, binary_value, unary_of, binary_of, extended}
use Rattle.lv_bits.proofs.Fits.{unary_lt, binary_lt, extended_lt}
use Rattle.lv_ast.specs.declared.expr.Expr.TheOpen.{Expr-F}
use Rattle.lv_source.specs.Names.{Names, Valuation}
use Rattle.lv_source.specs.Values.{Meaning, own_value, quotient, remainder, nowhere}
use Rattle.lv_source.specs.Sites.{Site, Walk, WalkStep, Shown, Step, Value, walk_step, below_sites, node_shown, first_place, first_of, is_absent}
use Rattle.lv_const.specs.declared.own.Own.{Own}
use Rattle.lv_const.specs.declared.full.Full.{Full}
use Rattle.lv_const.specs.declared.full.Reach.{Reach}
use Rattle.lv_const.specs.declared.pair.Pair.{Pair}
use Rattle.lv_const.specs.declared.error.ConstError.{ConstError}
use Rattle.lv_const.specs.declared.error.ConstError.TheVariants as x
use Rattle.lv_source.specs.NodeRules.{zero_divisor}
use Rattle.lv_const.specs.Answers.{ToldOf, Divides, HasOwn, HasNoOwn, HasFull, HasNoFull, IsFull, HasValue, HasReached, HasNoReached, IsReached, HasPlain, IsPlain, HasPair, HasNoPair, IsPair, own_of_walk, pair_width, pair_signed, sites_at, read_role}
use Rattle.lv_const.specs.Joins.{Valued, Paired, alone, wide, typed, spread, held, placed, paired, greater, unary_kept, unary_bit, shifted, logical, arithmetic, compared, divided, remains, chosen, cast_full}
use Rattle.lv_const.proofs.Numbers.{split}
use Rattle.lv_const.proofs.Division.{quotient_lt, remainder_lt}
use Rattle.lv_const.proofs.Told.{divides-node, divides-both, told-below, told-first, told-second, told-too, told-zero}
use Rattle.lv_const.proofs.Owns as owns
use Rattle.lv_const.proofs.Owns.{site_of, width_at, signed_at}

abbrev pub is_division : Expr-F Shown Step → Bool
is_division (Expr-F.Div a b) = true
is_division (Expr-F.Rem a b) = true
is_division _ = false

undivided : (s : Site) → is_division s.node ≡ false → zero_divisor s ≡ []
undivided s p = elim s.node as (λ n. is_division n ≡ false → zero_divisor (record s { node = n }) ≡ []) [
  | Expr-F.Lit l ↦ λ q. refl
  | Expr-F.Name path ss ↦ λ q. refl
  | Expr-F.Un op a ↦ λ q. refl
  | Expr-F.Bin op a b ↦ λ q. refl
  | Expr-F.Div a b ↦ λ q. cc
  | Expr-F.Rem a b ↦ λ q. cc
  | Expr-F.Cond c a b ↦ λ q. refl
  | Expr-F.Cat rs ↦ λ q. refl
  | Expr-F.Rep n rs ↦ λ q. refl
  | Expr-F.Cast signed a ↦ λ q. refl
] p

-- ---- at its own width and sign

max-zero : (n : ℕ) → max n 0 ≡ n
max-zero n = omega arith

and-true : (b : Bool) → b && true ≡ b
and-true true = refl
and-true false = refl

module _ (early : Path → Bool) where
  own-is : (w : Walk) (joined : Bool) (W : ℕ) (T : Bool) → W ≡ width_at w → T ≡ signed_at w → HasOwn early w joined (own_of_walk w) →
      HasOwn early w joined (record { width = W; signed = T })
  own-is w joined W T e f h = subst (λ n. HasOwn early w joined (record { width = n; signed = T })) (sym e)
      (subst (λ b. HasOwn early w joined (record { width = width_at w; signed = b })) (sym f) h)

  pub own-self : (w : Walk) (joined : Bool) (o : Own) → HasOwn early w joined o → HasOwn early w joined (own_of_walk w)
  own-self w joined o h = record {
    width = refl;
    signed = refl;
    some = subst (λ n. 1 ≤ n) h.width h.some;
    most =
        subst (λ n. n ≤ 128) h.width h.most;
    constant = h.constant;
    sound = h.sound;
  }

  pub full-alone : (w : Walk) (joined : Bool) (f : Full) → HasReached early w joined alone f → HasFull early w joined f
  full-alone w joined f h = record {
    own = own-is w joined f.word.width f.signed (h.width ∙ max-zero (width_at w))
        (h.signed ∙ and-true (signed_at w)) h.own;
    value = h.value;
  }

  pub none-alone : (w : Walk) (joined : Bool) (y : ConstError) → HasNoReached early w joined alone y → HasNoFull early w joined y
  none-alone w joined y h = record {
    told = λ fixed. subst (λ n. ToldOf (is_absent fixed) early (sites_at w joined fixed n (signed_at w)) y) (max-zero (width_at w))
        (subst (λ b. ToldOf (is_absent fixed) early (sites_at w joined fixed (max (width_at w) 0) b) y) (and-true (signed_at w)) (h.told fixed));
  }

  pub is-full : (w : Walk) (joined : Bool) (r : Valued) → IsReached early w joined alone r → IsFull early w joined r
  is-full w joined (Ok f) h = record { right = full-alone w joined f h.right; wrong = tt }
  is-full w joined (Err y) h = record { right = tt; wrong = none-alone w joined y h.wrong }

  pub full-own_value : (w : Walk) (joined : Bool) (f : Full) → HasFull early w joined f → (v : Valuation) → f.word.value ≡ own_value w.shown.reading.meaning v
  full-own_value w joined f h v =
      let m : Meaning = w.shown.reading.meaning in
      h.value.is v ∙ (ap (λ k. m.value k f.signed v) h.own.width ∙ ap (λ b. m.value m.width b v) h.own.signed)

  pub full-divided : (w : Walk) (joined : Bool) (f : Full) → HasFull early w joined f → (j : Bool) (fixed : Option ℕ) →
      Divides (sites_at w j fixed (width_at w) (signed_at w))
  full-divided w joined f h j fixed = subst (λ b. Divides (sites_at w j fixed (width_at w) b)) h.own.signed
      (subst (λ k. Divides (sites_at w j fixed k f.signed)) h.own.width (h.value.divides j fixed))

-- ---- a node with a value of its own

above : (m n : ℕ) → m ≤ max m n
above m n = omega arith

below : (m n k : ℕ) → m ≤ k → n ≤ k → max m n ≤ k
below m n k h g = omega (arith, h, g)

module _ (early : Path → Bool) where
  place-right : (w : Walk) (joined : Bool) (reach : Reach) (f : Full) → reach.least ≤ 128 → HasPlain early w joined f →
      HasReached early w joined reach (record {
        word = record {
          width = wide reach f.word.width;
          value =
              extended (typed reach f.signed) f.word.width (wide reach f.word.width) f.word.value;
        };
        signed = typed reach f.signed;
      })
  place-right w joined reach f m h = record {
    own = own-self early w joined (record { width = f.word.width; signed = f.signed }) h.own;
    width = ap (λ n. max n reach.least) h.own.width;
    signed = ap (λ b. if reach.fixed then reach.signed else b && reach.signed) h.own.signed;
    most = below f.word.width reach.least 128 h.own.most m;
    value = record {
      is = λ v. sym (h.is (wide reach f.word.width) (typed reach f.signed) v);
      fits = extended_lt (typed reach f.signed) f.word.width (wide reach f.word.width) f.word.value (above f.word.width reach.least) h.fits;
      constant = h.own.constant;
      divides = λ j fixed. h.divides j fixed (wide reach f.word.width) (typed reach f.signed);
    };
  }

  pub at-place : (w : Walk) (joined : Bool) (reach : Reach) (r : Valued) → reach.least ≤ 128 → IsPlain early w joined r →
      IsReached early w joined reach (placed reach r)
  at-place w joined reach (Ok f) m h = record { right = place-right w joined reach f m h.right; wrong = tt }
  at-place w joined reach (Err y) m h = record { right = tt; wrong = record { told = λ fixed. h.wrong.told fixed _ _ } }

-- ---- two operands at one width

spread-width : (a b n : ℕ) → max b (max a n) ≡ max (max a b) n
spread-width a b n = omega arith

spread-sign : (fixed r a b : Bool) → (if fixed then (if fixed then r else a && r) else b && (if fixed then r else a && r)) ≡
    (if fixed then r else (a && b) && r)
spread-sign true r a b = refl
spread-sign false true true true = refl
spread-sign false true true false = refl
spread-sign false true false true = refl
spread-sign false true false false = refl
spread-sign false false true true = refl
spread-sign false false true false = refl
spread-sign false false false true = refl
spread-sign false false false false = refl

and-swap : (a b : Bool) → a && b ≡ b && a
and-swap true true = refl
and-swap true false = refl
and-swap false true = refl
and-swap false false = refl

pub pair-swap_width : (a b : Walk) (r : Reach) → pair_width b a r ≡ pair_width a b r
pair-swap_width a b r = omega arith

pub pair-swap_signed : (a b : Walk) (r : Reach) → pair_signed b a r ≡ pair_signed a b r
pair-swap_signed a b r = ap (λ c. if r.fixed then r.signed else c && r.signed) (and-swap (signed_at b) (signed_at a))

module _ (early : Path → Bool) (a b : Walk) (r : Reach) (o : Own) (h : HasOwn early a false o) where
  second-width : max (width_at b) (max o.width r.least) ≡ pair_width a b r
  second-width = ap (λ n. max (width_at b) (max n r.least)) h.width ∙ spread-width (width_at a) (width_at b) r.least

  second-signed : (if r.fixed then typed r o.signed else signed_at b && typed r o.signed) ≡ pair_signed a b r
  second-signed = ap (λ c. if r.fixed then typed r c else signed_at b && typed r c) h.signed ∙ spread-sign r.fixed r.signed (signed_at a) (signed_at b)

  -- the second with the width and sign of both
  pub second-reached : (f : Full) → HasReached early b false (spread r o) f → (f.word.width ≡ pair_width a b r) × (f.signed ≡ pair_signed a b r)
  second-reached f g = (g.width ∙ second-width, g.signed ∙ second-signed)

  pub second-told : (y : ConstError) → HasNoReached early b false (spread r o) y → (fixed : Option ℕ) →
      ToldOf (is_absent fixed) early (b.sites Value fixed (pair_width a b r) (pair_signed a b r)) y
  second-told y g fixed = subst (λ n. ToldOf (is_absent fixed) early (b.sites Value fixed n (pair_signed a b r)) y) second-width
      (subst (λ c. ToldOf (is_absent fixed) early (b.sites Value fixed (max (width_at b) (max o.width r.least)) c) y) second-signed (g.told fixed))

  held-width : (f : Full) → HasReached early b false (spread r o) f → max (width_at a) f.word.width ≡ f.word.width
  held-width f g = let e : f.word.width ≡ pair_width a b r = (second-reached f g).0 in omega (arith, e)

  pub first-told : (f : Full) (y : ConstError) → HasReached early b false (spread r o) f → HasNoReached early a false (held f) y → (fixed : Option ℕ) →
      ToldOf (is_absent fixed) early (a.sites Value fixed (pair_width a b r) (pair_signed a b r)) y
  first-told f y g k fixed =
      subst (λ n. ToldOf (is_absent fixed) early (a.sites Value fixed n (pair_signed a b r)) y) (held-width f g ∙ (second-reached f g).0)
      (subst (λ c. ToldOf (is_absent fixed) early (a.sites Value fixed (max (width_at a) f.word.width) c) y) (second-reached f g).1 (k.told fixed))

  pub both-reached : (f e : Full) → HasReached early b false (spread r o) f → HasReached early a false (held f) e →
      HasPair early a b r (record { left = e.word; right = f.word; signed = e.signed })
  both-reached f e g k = record {
    left_own = own-self early a false o h;
    right_own = g.own;
    width = k.width ∙ (held-width f g ∙ (second-reached f g).0);
    signed = k.signed ∙ (second-reached f g).1;
    same = k.width ∙ held-width f g;
    most = k.most;
    left = k.value;
    right = subst (λ n. HasValue b n e.signed f.word.value) (sym (k.width ∙ held-width f g))
        (subst (λ c. HasValue b f.word.width c f.word.value) (sym k.signed) g.value);
  }

module _ (early : Path → Bool) where
  flip-pair : (a b : Walk) (r : Reach) (f e : Full) → f.word.width ≡ e.word.width → f.signed ≡ e.signed →
      HasPair early b a r (record { left = e.word; right = f.word; signed = e.signed }) →
      HasPair early a b r (record { left = f.word; right = e.word; signed = f.signed })
  flip-pair a b r f e n c h = record {
    left_own = h.right_own;
    right_own = h.left_own;
    width = n ∙ (h.width ∙ pair-swap_width a b r);
    signed = c ∙ (h.signed ∙ pair-swap_signed a b r);
    same = n;
    most = subst (λ k. k ≤ 128) (sym n) h.most;
    left = subst (λ k. HasValue a k f.signed f.word.value) (sym n) (subst (λ d. HasValue a e.word.width d f.word.value) (sym c) h.right);
    right = subst (λ k. HasValue b k f.signed e.word.value) (sym n) (subst (λ d. HasValue b e.word.width d e.word.value) (sym c) h.left);
  }

  no-pair_first : (a b : Walk) (r : Reach) (y : ConstError) →
      ((fixed : Option ℕ) → ToldOf (is_absent fixed) early (a.sites Value fixed (pair_width a b r) (pair_signed a b r)) y) → HasNoPair early a b r y
  no-pair_first a b r y h = record { told = λ fixed. told-first early _ _ y (h fixed) }

  no-pair_second : (a b : Walk) (r : Reach) (y : ConstError) →
      ((fixed : Option ℕ) → ToldOf (is_absent fixed) early (b.sites Value fixed (pair_width a b r) (pair_signed a b r)) y) → HasNoPair early a b r y
  no-pair_second a b r y h = record { told = λ fixed. told-second early _ _ y (h fixed) }

  swap-told : (a b c : Walk) (r : Reach) (y : ConstError) → ((fixed : Option ℕ) → ToldOf (is_absent fixed) early (c.sites Value fixed (pair_width b a r) (pair_signed b a r)) y) →
      (fixed : Option ℕ) →
      ToldOf (is_absent fixed) early (c.sites Value fixed (pair_width a b r) (pair_signed a b r)) y
  swap-told a b c r y h fixed = subst (λ n. ToldOf (is_absent fixed) early (c.sites Value fixed n (pair_signed a b r)) y) (pair-swap_width a b r)
      (subst (λ d. ToldOf (is_absent fixed) early (c.sites Value fixed (pair_width b a r) d) y) (pair-swap_signed a b r) (h fixed))

  -- the left one is the lighter, and looked at first
  pub left-wrong : (a b : Walk) (r : Reach) (y : ConstError) → HasNoOwn early a false y → IsPair early a b r (Err y)
  left-wrong a b r y h = record {
    right = tt;
    wrong = no-pair_first a b r y (λ fixed. told-too early (is_absent fixed) _ y
        (h.told fixed (pair_width a b r) (pair_signed a b r)));
  }

  pub left-right_wrong : (a b : Walk) (r : Reach) (o : Own) (y : ConstError) → HasOwn early a false o → HasNoReached early b false (spread r o) y →
      IsPair early a b r (Err y)
  left-right_wrong a b r o y h g = record { right = tt; wrong = no-pair_second a b r y (second-told early a b r o h y g) }

  pub left-paired : (a b : Walk) (r : Reach) (o : Own) (f : Full) (e : Valued) → HasOwn early a false o → HasReached early b false (spread r o) f →
      IsReached early a false (held f) e → IsPair early a b r (paired e (Ok f))
  left-paired a b r o f (Ok e) h g k = record { right = both-reached early a b r o h f e g k.right; wrong = tt }
  left-paired a b r o f (Err y) h g k = record { right = tt; wrong = no-pair_first a b r y (first-told early a b r o h f y g k.wrong) }

  -- the right one is
  pub right-wrong : (a b : Walk) (r : Reach) (y : ConstError) → HasNoOwn early b false y → IsPair early a b r (Err y)
  right-wrong a b r y h = record {
    right = tt;
    wrong = no-pair_second a b r y (λ fixed. told-too early (is_absent fixed) _ y
        (h.told fixed (pair_width a b r) (pair_signed a b r)));
  }

  pub right-left_wrong : (a b : Walk) (r : Reach) (o : Own) (y : ConstError) → HasOwn early b false o → HasNoReached early a false (spread r o) y →
      IsPair early a b r (Err y)
  right-left_wrong a b r o y h g = record { right = tt; wrong = no-pair_first a b r y (swap-told a b a r y (second-told early b a r o h y g)) }

  pub right-paired : (a b : Walk) (r : Reach) (o : Own) (f : Full) (e : Valued) → HasOwn early b false o → HasReached early a false (spread r o) f →
      IsReached early b false (held f) e → IsPair early a b r (paired (Ok f) e)
  right-paired a b r o f (Ok e) h g k = record {
    right = flip-pair a b r f e (sym (k.right.width ∙ held-width early b a r o h f g)) (sym k.right.signed) (both-reached early b a r o h f e g k.right);
    wrong = tt;
  }
  right-paired a b r o f (Err y) h g k = record { right = tt; wrong = no-pair_second a b r y (swap-told a b b r y (first-told early b a r o h f y g k.wrong)) }

  pub pair-same : (a b : Walk) (r : Reach) (y : Paired) → IsPair early a b r y → IfOk y (λ p. p.left.width ≡ p.right.width)
  pair-same a b r (Ok p) h = h.right.same
  pair-same a b r (Err y) h = tt

-- ---- nodes

module _ (early : Path → Bool) where
  -- behind the sites of a test
  behind : (c a b : Walk) (fixed : Option ℕ) (V W : ℕ) (S T : Bool) (y : ConstError) → ToldOf (is_absent fixed) early (a.sites Value fixed W T ++ b.sites Value fixed W T) y →
      ToldOf (is_absent fixed) early ((c.sites Value fixed V S ++ a.sites Value fixed W T) ++ b.sites Value fixed W T) y
  behind c a b fixed V W S T y h = subst (λ ss. ToldOf (is_absent fixed) early ss y)
      (sym (append_assoc (c.sites Value fixed V S) (a.sites Value fixed W T) (b.sites Value fixed W T))) (told-second early _ _ y h)

module _ (early : Path → Bool) (names : Names) (joined : Bool) where
  has-value : (x : Expr-F Walk WalkStep) (W : ℕ) (T : Bool) (n : ℕ) → is_division (node_shown x) ≡ false →
      ((v : Valuation) → n ≡ (walk_step names x).shown.reading.meaning.value W T v) → n < 2 ^ W →
      (walk_step names x).shown.reading.constant ≡ true → ((j : Bool) (fixed : Option ℕ) → Divides (below_sites x (read_role j) fixed W T)) →
      HasValue (walk_step names x) W T n
  has-value x W T n p is fits constant divides = record {
    is = is;
    fits = fits;
    constant = constant;
    divides = λ j fixed. divides-node (site_of names x (read_role j) fixed W T) (below_sites x (read_role j) fixed W T)
        (undivided (site_of names x (read_role j) fixed W T) p) (divides j fixed);
  }

  pub plain-node : (x : Expr-F Walk WalkStep) (f : Full) → is_division (node_shown x) ≡ false →
      HasOwn early (walk_step names x) joined (record { width = f.word.width; signed = f.signed }) →
      ((W : ℕ) (T : Bool) (v : Valuation) → (walk_step names x).shown.reading.meaning.value W T v ≡ extended T f.word.width W f.word.value) →
      f.word.value < 2 ^ f.word.width →
      ((j : Bool) (fixed : Option ℕ) (W : ℕ) (T : Bool) → Divides (below_sites x (read_role j) fixed W T)) → HasPlain early (walk_step names x) joined f
  plain-node x f p own is fits divides = record {
    own = own;
    is = is;
    fits = fits;
    divides = λ j fixed W T. divides-node (site_of names x (read_role j) fixed W T) (below_sites x (read_role j) fixed W T)
        (undivided (site_of names x (read_role j) fixed W T) p)
        (divides j fixed W T);
  }

  pub no-plain : (x : Expr-F Walk WalkStep) (y : ConstError) →
      ((fixed : Option ℕ) (W : ℕ) (T : Bool) → ToldOf (is_absent fixed) early (below_sites x (read_role joined) fixed W T) y) →
      IsPlain early (walk_step names x) joined (Err y)
  no-plain x y h = record { right = tt; wrong = owns.hasnt early names x joined y h }

  no-reached : (x : Expr-F Walk WalkStep) (r : Reach) (y : ConstError) →
      ((fixed : Option ℕ) → ToldOf (is_absent fixed) early (below_sites x (read_role joined) fixed (max (width_at (walk_step names x)) r.least)
      (if r.fixed then r.signed else signed_at (walk_step names x) && r.signed)) y) →
      IsReached early (walk_step names x) joined r (Err y)
  no-reached x r y h = record { right = tt; wrong = record { told = λ fixed. told-below early (site_of names x (read_role joined) fixed _ _) _ y (h fixed) } }

  -- ---- one operand

  pub un-kept : (op : Op) (w : Walk) (r : Reach) (q : Valued) → keeps_width op ≡ true → IsReached early w false r q →
      IsReached early (walk_step names (Expr-F.Un op w)) joined r (unary_kept op q)
  un-kept op w r (Err y) k h = no-reached (Expr-F.Un op w) r y (λ fixed. rw k (h.wrong.told fixed))
  un-kept op w r (Ok f) k h = record {
    right = record {
      own = own-self early (walk_step names (Expr-F.Un op w)) joined (own_of_walk w) (owns.un-kept early names joined op w (own_of_walk w) k h.right.own);
      width = rw k h.right.width;
      signed = rw k h.right.signed;
      most = rw k h.right.most;
      value = subst (λ n. HasValue (walk_step names (Expr-F.Un op w)) n f.signed (unary_value op f.word.width f.word.value)) (rw k refl)
          (has-value (Expr-F.Un op w) f.word.width f.signed (unary_value op f.word.width f.word.value) refl
          (λ v. rw k (ap (unary_value op f.word.width) (h.right.value.is v)))
          (rw k at (unary_lt op f.word.width f.word.value h.right.value.fits)) (rw h.right.value.constant)
          (λ j fixed. rw k (h.right.value.divides false fixed)));
    };
    wrong = tt;
  }

  pub un-bit : (op : Op) (w : Walk) (q : Valued) → keeps_width op ≡ false → IsFull early w false q →
      IsPlain early (walk_step names (Expr-F.Un op w)) joined (unary_bit op q)
  un-bit op w (Err y) k h = no-plain (Expr-F.Un op w) y (λ fixed W T. rw k (h.wrong.told fixed))
  un-bit op w (Ok f) k h = record {
    right = plain-node (Expr-F.Un op w) (record { word = unary_of op f.word; signed = false }) refl
        (subst (λ n. HasOwn early (walk_step names (Expr-F.Un op w)) joined (record { width = n; signed = false })) (rw k refl)
        (owns.un-bit early names joined op w (record { width = f.word.width; signed = f.signed }) k h.right.own))
        (λ W T v. rw k (ap (extended T 1 W) (sym (ap (λ n. unary_value op n f.word.value) h.right.own.width ∙
        ap (unary_value op (width_at w)) (full-own_value early w false f h.right v)))))
        (unary_lt op f.word.width f.word.value h.right.value.fits) (λ j fixed W T. rw k (full-divided early w false f h.right false fixed));
    wrong = tt;
  }

  pub cast : (signed : Bool) (w : Walk) (q : Valued) → IsFull early w false q →
      IsPlain early (walk_step names (Expr-F.Cast signed w)) joined (cast_full signed q)
  cast signed w (Err y) h = no-plain (Expr-F.Cast signed w) y (λ fixed W T. h.wrong.told fixed)
  cast signed w (Ok f) h = record {
    right = plain-node (Expr-F.Cast signed w) (record { word = f.word; signed = signed }) refl
        (owns.cast-right early names joined signed w (record { width = f.word.width; signed = f.signed }) h.right.own)
        (λ W T v. sym (ap (λ n. extended T n W f.word.value) h.right.own.width ∙ ap (extended T (width_at w) W) (full-own_value early w false f h.right v)))
        h.right.value.fits (λ j fixed W T. full-divided early w false f h.right false fixed);
    wrong = tt;
  }

  -- ---- two operands

  two-constant : (a b : Bool) → a ≡ true → b ≡ true → a && (b && true) ≡ true
  two-constant a b h k = rw (h, k)

  clash : {b : Bool} → b ≡ true → IsFalse b → ⊥
  clash e h = cc

  pub bin-shift : (op : Op) (a b : Walk) (r : Reach) (p q : Valued) → keeps_width op ≡ true → is_apart op ≡ true → IsReached early a false r p →
      IsFull early b false q →
      IsReached early (walk_step names (Expr-F.Bin op a b)) joined r (shifted op p q)
  bin-shift op a b r (Err y) q k j h g = no-reached (Expr-F.Bin op a b) r y (λ fixed. rw (k, j) (told-first early _ _ y (h.wrong.told fixed)))
  bin-shift op a b r (Ok e) (Err y) k j h g = no-reached (Expr-F.Bin op a b) r y (λ fixed. rw (k, j) (told-second early _ _ y (g.wrong.told fixed)))
  bin-shift op a b r (Ok e) (Ok f) k j h g = record {
    right = record {
      own = own-self early (walk_step names (Expr-F.Bin op a b)) joined (own_of_walk a)
          (owns.bin-shift early names joined op a b (own_of_walk a) (record { width = f.word.width; signed = f.signed }) k j h.right.own g.right.own);
      width = rw (k, j) h.right.width;
      signed = rw (k, j) h.right.signed;
      most = rw k h.right.most;
      value = subst (λ n. HasValue (walk_step names (Expr-F.Bin op a b)) n e.signed (binary_value op e.signed e.word.width e.word.value f.word.value))
          (rw k refl)
          (has-value (Expr-F.Bin op a b) e.word.width e.signed (binary_value op e.signed e.word.width e.word.value f.word.value) refl
          (λ v. rw (k, j) (ap (λ i. binary_value op e.signed e.word.width i f.word.value) (h.right.value.is v) ∙
          ap (λ i. binary_value op e.signed e.word.width (a.shown.reading.meaning.value e.word.width e.signed v) i) (full-own_value early b false f g.right v)))
          (rw k at (binary_lt op e.signed e.word.width e.word.value f.word.value h.right.value.fits (λ c. absurd (clash j c))))
          (two-constant _ _ h.right.value.constant g.right.own.constant)
          (λ i fixed. rw (k, j) (divides-both _ _ (h.right.value.divides false fixed) (full-divided early b false f g.right false fixed))));
    };
    wrong = tt;
  }

  pub bin-logical : (op : Op) (a b : Walk) (p q : Valued) → keeps_width op ≡ false → is_apart op ≡ true → IsFull early a false p → IsFull early b false q →
      IsPlain early (walk_step names (Expr-F.Bin op a b)) joined (logical op p q)
  bin-logical op a b (Err y) q k j h g = no-plain (Expr-F.Bin op a b) y (λ fixed W T. rw (k, j) (told-first early _ _ y (h.wrong.told fixed)))
  bin-logical op a b (Ok e) (Err y) k j h g = no-plain (Expr-F.Bin op a b) y (λ fixed W T. rw (k, j) (told-second early _ _ y (g.wrong.told fixed)))
  bin-logical op a b (Ok e) (Ok f) k j h g = record {
    right = plain-node (Expr-F.Bin op a b) (record { word = binary_of op false e.word f.word; signed = false }) refl
        (subst (λ n. HasOwn early (walk_step names (Expr-F.Bin op a b)) joined (record { width = n; signed = false })) (rw k refl)
        (owns.bin-logical early names joined op a b (record { width = e.word.width; signed = e.signed })
        (record { width = f.word.width; signed = f.signed }) k j h.right.own g.right.own))
        (λ W T v. rw (k, j) (ap (extended T 1 W) (sym (ap (λ i. binary_value op false i e.word.value f.word.value) h.right.own.width ∙
        (ap (λ i. binary_value op false (width_at a) i f.word.value) (full-own_value early a false e h.right v) ∙
        ap (λ i. binary_value op false (width_at a) (own_value a.shown.reading.meaning v) i) (full-own_value early b false f g.right v))))))
        (binary_lt op false e.word.width e.word.value f.word.value h.right.value.fits (λ c. absurd (clash j c)))
        (λ i fixed W T. rw (k, j) (divides-both _ _ (full-divided early a false e h.right false fixed) (full-divided early b false f g.right false fixed)));
    wrong = tt;
  }

  pub bin-arithmetic : (op : Op) (a b : Walk) (r : Reach) (q : Paired) → keeps_width op ≡ true → is_apart op ≡ false → IsPair early a b r q →
      IsReached early (walk_step names (Expr-F.Bin op a b)) joined r (arithmetic op q)
  bin-arithmetic op a b r (Err y) k j h = no-reached (Expr-F.Bin op a b) r y (λ fixed. rw (k, j) (h.wrong.told fixed))
  bin-arithmetic op a b r (Ok p) k j h = record {
    right = record {
      own = own-self early (walk_step names (Expr-F.Bin op a b)) joined (greater (own_of_walk a) (own_of_walk b))
          (owns.bin-arithmetic early names joined op a b (own_of_walk a) (own_of_walk b) k j h.right.left_own h.right.right_own);
      width = rw (k, j) h.right.width;
      signed = rw (k, j) h.right.signed;
      most = rw k h.right.most;
      value = subst (λ n. HasValue (walk_step names (Expr-F.Bin op a b)) n p.signed (binary_value op p.signed p.left.width p.left.value p.right.value))
          (rw k refl)
          (has-value (Expr-F.Bin op a b) p.left.width p.signed (binary_value op p.signed p.left.width p.left.value p.right.value) refl
          (λ v. rw (k, j) (ap (λ i. binary_value op p.signed p.left.width i p.right.value) (h.right.left.is v) ∙
          ap (λ i. binary_value op p.signed p.left.width (a.shown.reading.meaning.value p.left.width p.signed v) i) (h.right.right.is v)))
          (rw k at (binary_lt op p.signed p.left.width p.left.value p.right.value h.right.left.fits (λ _. h.right.right.fits)))
          (two-constant _ _ h.right.left.constant h.right.right.constant)
          (λ i fixed. rw (k, j) (divides-both _ _ (h.right.left.divides false fixed) (h.right.right.divides false fixed))));
    };
    wrong = tt;
  }

  alone-width : (a b : Walk) → pair_width a b alone ≡ max (width_at a) (width_at b)
  alone-width a b = max-zero (max (width_at a) (width_at b))

  alone-signed : (a b : Walk) → pair_signed a b alone ≡ (signed_at a && signed_at b)
  alone-signed a b = and-true (signed_at a && signed_at b)

  greater-told : (a b : Walk) (y : ConstError) → HasNoPair early a b alone y → (fixed : Option ℕ) →
      ToldOf (is_absent fixed) early (a.sites Value fixed (max (width_at a) (width_at b)) (signed_at a && signed_at b) ++ b.sites Value fixed (max (width_at a) (width_at b))
      (signed_at a && signed_at b)) y
  greater-told a b y h fixed = subst (λ n. ToldOf (is_absent fixed) early (a.sites Value fixed n (signed_at a && signed_at b) ++ b.sites Value fixed n
      (signed_at a && signed_at b)) y) (alone-width a b)
      (subst (λ c. ToldOf (is_absent fixed) early (a.sites Value fixed (pair_width a b alone) c ++ b.sites Value fixed (pair_width a b alone) c) y) (alone-signed a b)
      (h.told fixed))

  greater-value : (a b c : Walk) (p : Pair) (n : ℕ) → HasPair early a b alone p → HasValue c p.left.width p.signed n →
      HasValue c (max (width_at a) (width_at b)) (signed_at a && signed_at b) n
  greater-value a b c p n h g = subst (λ k. HasValue c k (signed_at a && signed_at b) n) (h.width ∙ alone-width a b)
      (subst (λ s. HasValue c p.left.width s n) (h.signed ∙ alone-signed a b) g)

  greater-is : (op : Op) (a b : Walk) (p : Pair) → HasPair early a b alone p → (v : Valuation) →
      binary_value op p.signed p.left.width p.left.value p.right.value ≡
      binary_value op (signed_at a && signed_at b) (max (width_at a) (width_at b))
      (a.shown.reading.meaning.value (max (width_at a) (width_at b)) (signed_at a && signed_at b) v)
      (b.shown.reading.meaning.value (max (width_at a) (width_at b)) (signed_at a && signed_at b) v)
  greater-is op a b p h v =
      ap (λ s. binary_value op s p.left.width p.left.value p.right.value) (h.signed ∙ alone-signed a b) ∙
      (ap (λ n. binary_value op (signed_at a && signed_at b) n p.left.value p.right.value) (h.width ∙ alone-width a b) ∙
      (ap (λ i. binary_value op (signed_at a && signed_at b) (max (width_at a) (width_at b)) i p.right.value)
      ((greater-value a b a p p.left.value h h.left).is v) ∙
      ap (λ i. binary_value op (signed_at a && signed_at b) (max (width_at a) (width_at b))
      (a.shown.reading.meaning.value (max (width_at a) (width_at b)) (signed_at a && signed_at b) v) i) ((greater-value a b b p p.right.value h h.right).is v)))

  pub bin-compared : (op : Op) (a b : Walk) (q : Paired) → keeps_width op ≡ false → is_apart op ≡ false → IsPair early a b alone q →
      IsPlain early (walk_step names (Expr-F.Bin op a b)) joined (compared op q)
  bin-compared op a b (Err y) k j h = no-plain (Expr-F.Bin op a b) y (λ fixed W T. rw (k, j) (greater-told a b y h.wrong fixed))
  bin-compared op a b (Ok p) k j h = record {
    right = plain-node (Expr-F.Bin op a b) (record { word = binary_of op p.signed p.left p.right; signed = false }) refl
        (subst (λ n. HasOwn early (walk_step names (Expr-F.Bin op a b)) joined (record { width = n; signed = false })) (rw k refl)
        (owns.bin-compared early names joined op a b (own_of_walk a) (own_of_walk b) k j h.right.left_own h.right.right_own))
        (λ W T v. rw (k, j) (ap (extended T 1 W) (sym (greater-is op a b p h.right v))))
        (binary_lt op p.signed p.left.width p.left.value p.right.value h.right.left.fits (λ _. h.right.right.fits))
        (λ i fixed W T. rw (k, j) (divides-both _ _ ((greater-value a b a p p.left.value h.right h.right.left).divides false fixed)
        ((greater-value a b b p p.right.value h.right h.right.right).divides false fixed)));
    wrong = tt;
  }

  either-fits : (W : ℕ) (b : Bool) (p : Pair) → p.left.value < 2 ^ W → p.right.value < 2 ^ W → (cond b p.right p.left).value < 2 ^ W
  either-fits W true p h k = k
  either-fits W false p h k = h

  either-width : (b : Bool) (p : Pair) → p.left.width ≡ p.right.width → p.left.width ≡ (cond b p.right p.left).width
  either-width true p h = h
  either-width false p h = refl

  either-value : (b : Bool) (p : Pair) (m n : ℕ) → p.left.value ≡ m → p.right.value ≡ n → (cond b p.right p.left).value ≡ cond b n m
  either-value true p m n h k = k
  either-value false p m n h k = h

  pub choose : (c a b : Walk) (r : Reach) (s : Valued) (q : Paired) → IsFull early c false s → IsPair early a b r q →
      IsReached early (walk_step names (Expr-F.Cond c a b)) joined r (chosen s q)
  choose c a b r (Err y) q f h = no-reached (Expr-F.Cond c a b) r y (λ fixed. told-first early _ _ y (told-first early _ _ y (f.wrong.told fixed)))
  choose c a b r (Ok l) (Err y) f h = no-reached (Expr-F.Cond c a b) r y
      (λ fixed. behind early c a b fixed (width_at c) (pair_width a b r) (signed_at c) (pair_signed a b r) y (h.wrong.told fixed))
  choose c a b r (Ok l) (Ok p) f h =
      let e : p.left.width ≡ (cond (l.word.value == 0) p.right p.left).width = either-width (l.word.value == 0) p h.right.same in record {
        right = record {
          own = own-self early (walk_step names (Expr-F.Cond c a b)) joined (greater (own_of_walk a) (own_of_walk b))
              (owns.cond-right early names joined c a b (record { width = l.word.width; signed = l.signed }) (own_of_walk a)
              (own_of_walk b) f.right.own h.right.left_own h.right.right_own);
          width = sym e ∙ h.right.width;
          signed = h.right.signed;
          most = subst (λ n. n ≤ 128) e h.right.most;
          value = subst (λ n. HasValue (walk_step names (Expr-F.Cond c a b)) n p.signed (cond (l.word.value == 0) p.right p.left).value) e
              (has-value (Expr-F.Cond c a b) p.left.width p.signed (cond (l.word.value == 0) p.right p.left).value refl
              (λ v. either-value (l.word.value == 0) p (a.shown.reading.meaning.value p.left.width p.signed v)
              (b.shown.reading.meaning.value p.left.width p.signed v) (h.right.left.is v)
              (h.right.right.is v) ∙
              ap (λ i. cond (i == 0) (b.shown.reading.meaning.value p.left.width p.signed v) (a.shown.reading.meaning.value p.left.width p.signed v))
              (full-own_value early c false l f.right v))
              (either-fits p.left.width (l.word.value == 0) p h.right.left.fits h.right.right.fits)
              (rw (f.right.own.constant, h.right.left.constant, h.right.right.constant) refl)
              (λ j fixed. divides-both _ _ (divides-both _ _ (full-divided early c false l f.right false fixed) (h.right.left.divides false fixed))
              (h.right.right.divides false fixed)));
        };
        wrong = tt;
      }

  -- ---- division

  zero-site : (b : Walk) (W : ℕ) (T : Bool) (n : ℕ) (z : Bool) → HasValue b W T n → (n == 0) ≡ z →
      (b.shown.reading.constant && (b.shown.reading.meaning.value W T nowhere == 0)) ≡ z
  zero-site b W T n z g e = ap (λ i. b.shown.reading.constant && (i == 0)) (sym (g.is nowhere)) ∙ (rw g.constant e)

  divides-site : (x : Expr-F Walk WalkStep) (a b : Walk) (W : ℕ) (T : Bool) (m n : ℕ) →
      ((j : Bool) (fixed : Option ℕ) → zero_divisor (site_of names x (read_role j) fixed W T) ≡ []) →
      ((j : Bool) (fixed : Option ℕ) → below_sites x (read_role j) fixed W T ≡ a.sites Value fixed W T ++ b.sites Value fixed W T) → HasValue a W T m →
      HasValue b W T n →
      (j : Bool) (fixed : Option ℕ) →
      Divides (sites_at (walk_step names x) j fixed W T)
  divides-site x a b W T m n z e h g j fixed = divides-node (site_of names x (read_role j) fixed W T) (below_sites x (read_role j) fixed W T) (z j fixed)
      (subst Divides (sym (e j fixed)) (divides-both _ _ (h.divides false fixed) (g.divides false fixed)))

  div-value : (a b : Walk) (W : ℕ) (T : Bool) (m n : ℕ) → HasValue a W T m → HasValue b W T n → (n == 0) ≡ false →
      HasValue (walk_step names (Expr-F.Div a b)) W T (quotient T W m n)
  div-value a b W T m n h g z = record {
    is = λ v. ap (λ i. quotient T W i n) (h.is v) ∙ ap (λ i. quotient T W (a.shown.reading.meaning.value W T v) i) (g.is v);
    fits = quotient_lt T W m n z h.fits;
    constant = two-constant _ _ h.constant g.constant;
    divides = divides-site (Expr-F.Div a b) a b W T m n
        (λ j fixed. ap (λ c. cond c (first_of (a.shown.places ++ b.shown.places) ∷ first_place b.shown ∷ []) []) (zero-site b W T n false g z))
        (λ j fixed. refl) h g;
  }

  rem-value : (a b : Walk) (W : ℕ) (T : Bool) (m n : ℕ) → HasValue a W T m → HasValue b W T n → (n == 0) ≡ false →
      HasValue (walk_step names (Expr-F.Rem a b)) W T (remainder T W m n)
  rem-value a b W T m n h g z = record {
    is = λ v. ap (λ i. remainder T W i n) (h.is v) ∙ ap (λ i. remainder T W (a.shown.reading.meaning.value W T v) i) (g.is v);
    fits = remainder_lt T W m n z h.fits;
    constant = two-constant _ _ h.constant g.constant;
    divides = divides-site (Expr-F.Rem a b) a b W T m n
        (λ j fixed. ap (λ c. cond c (first_of (a.shown.places ++ b.shown.places) ∷ first_place b.shown ∷ []) []) (zero-site b W T n false g z))
        (λ j fixed. refl) h g;
  }

  div-zero : (a b : Walk) (r : Reach) (p : Pair) → HasPair early a b r p → (p.right.value == 0) ≡ true →
      IsReached early (walk_step names (Expr-F.Div a b)) joined r (Err (x.ZeroDivisor (first_place b.shown)))
  div-zero a b r p h z =
      let g : HasValue b (pair_width a b r) (pair_signed a b r) p.right.value =
      subst (λ n. HasValue b n (pair_signed a b r) p.right.value) h.width (subst (λ s. HasValue b p.left.width s p.right.value) h.signed h.right) in record {
        right = tt;
        wrong = record {
          told = λ fixed. told-zero early (site_of names (Expr-F.Div a b) (read_role joined) fixed (pair_width a b r) (pair_signed a b r))
              (below_sites (Expr-F.Div a b) (read_role joined) fixed (pair_width a b r) (pair_signed a b r))
              (first_of (a.shown.places ++ b.shown.places)) (first_place b.shown ∷ [])
              (ap (λ c. cond c (first_of (a.shown.places ++ b.shown.places) ∷ first_place b.shown ∷ []) [])
              (zero-site b (pair_width a b r) (pair_signed a b r) p.right.value true g z))
              (first_place b.shown) (1, omega arith, refl);
        };
      }

  rem-zero : (a b : Walk) (r : Reach) (p : Pair) → HasPair early a b r p → (p.right.value == 0) ≡ true →
      IsReached early (walk_step names (Expr-F.Rem a b)) joined r (Err (x.ZeroDivisor (first_place b.shown)))
  rem-zero a b r p h z =
      let g : HasValue b (pair_width a b r) (pair_signed a b r) p.right.value =
      subst (λ n. HasValue b n (pair_signed a b r) p.right.value) h.width (subst (λ s. HasValue b p.left.width s p.right.value) h.signed h.right) in record {
        right = tt;
        wrong = record {
          told = λ fixed. told-zero early (site_of names (Expr-F.Rem a b) (read_role joined) fixed (pair_width a b r) (pair_signed a b r))
              (below_sites (Expr-F.Rem a b) (read_role joined) fixed (pair_width a b r) (pair_signed a b r))
              (first_of (a.shown.places ++ b.shown.places)) (first_place b.shown ∷ [])
              (ap (λ c. cond c (first_of (a.shown.places ++ b.shown.places) ∷ first_place b.shown ∷ []) [])
              (zero-site b (pair_width a b r) (pair_signed a b r) p.right.value true g z))
              (first_place b.shown) (1, omega arith, refl);
        };
      }

  pub div : (a b : Walk) (r : Reach) (q : Paired) → IsPair early a b r q →
      IsReached early (walk_step names (Expr-F.Div a b)) joined r (divided (first_place b.shown) q)
  div a b r (Err y) h = no-reached (Expr-F.Div a b) r y (λ fixed. h.wrong.told fixed)
  div a b r (Ok p) h = elim (split (p.right.value == 0)) [
    | inl z ↦ subst (λ c. IsReached early (walk_step names (Expr-F.Div a b)) joined r
        (cond c (Err (x.ZeroDivisor (first_place b.shown))) (Ok
        (record { word = record { width = p.left.width; value = quotient p.signed p.left.width p.left.value p.right.value }; signed = p.signed })))) (sym z)
        (div-zero a b r p h.right z)
    | inr z ↦ subst (λ c. IsReached early (walk_step names (Expr-F.Div a b)) joined r
        (cond c (Err (x.ZeroDivisor (first_place b.shown))) (Ok
        (record { word = record { width = p.left.width; value = quotient p.signed p.left.width p.left.value p.right.value }; signed = p.signed })))) (sym z)
        (record {
          right = record {
            own = own-self early (walk_step names (Expr-F.Div a b)) joined (greater (own_of_walk a) (own_of_walk b))
                (owns.div-right early names joined a b (own_of_walk a) (own_of_walk b) h.right.left_own h.right.right_own);
            width = h.right.width;
            signed = h.right.signed;
            most = h.right.most;
            value = div-value a b p.left.width p.signed p.left.value p.right.value h.right.left h.right.right z;
          };
          wrong = tt;
        })
  ]

  pub rem : (a b : Walk) (r : Reach) (q : Paired) → IsPair early a b r q →
      IsReached early (walk_step names (Expr-F.Rem a b)) joined r (remains (first_place b.shown) q)
  rem a b r (Err y) h = no-reached (Expr-F.Rem a b) r y (λ fixed. h.wrong.told fixed)
  rem a b r (Ok p) h = elim (split (p.right.value == 0)) [
    | inl z ↦ subst (λ c. IsReached early (walk_step names (Expr-F.Rem a b)) joined r
        (cond c (Err (x.ZeroDivisor (first_place b.shown))) (Ok
        (record { word = record { width = p.left.width; value = remainder p.signed p.left.width p.left.value p.right.value }; signed = p.signed })))) (sym z)
        (rem-zero a b r p h.right z)
    | inr z ↦ subst (λ c. IsReached early (walk_step names (Expr-F.Rem a b)) joined r
        (cond c (Err (x.ZeroDivisor (first_place b.shown))) (Ok
        (record { word = record { width = p.left.width; value = remainder p.signed p.left.width p.left.value p.right.value }; signed = p.signed })))) (sym z)
        (record {
          right = record {
            own = own-self early (walk_step names (Expr-F.Rem a b)) joined (greater (own_of_walk a) (own_of_walk b))
                (owns.rem-right early names joined a b (own_of_walk a) (own_of_walk b) h.right.left_own h.right.right_own);
            width = h.right.width;
            signed = h.right.signed;
            most = h.right.most;
            value = rem-value a b p.left.width p.signed p.left.value p.right.value h.right.left h.right.right z;
          };
          wrong = tt;
        })
  ]
