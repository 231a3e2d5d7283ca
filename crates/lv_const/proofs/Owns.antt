-- The own width and type of each kind of node, from those of its operands.
use Rattle.std.proofs.Common.{◌≡◌, ℕ, ◌≤◌, max, Bool, true, false, ◌&&◌, [], ◌++◌, ap, ◌∙◌, sym, subst, refl, arith, Ok, Err, Option, cond, inl, inr}
use Rattle.lv_ast.specs.declared.expr.Path.{Path}
use Rattle.lv_bits.specs.declared.op.Op.{Op}
use Rattle.lv_bits.specs.Values.{keeps_width, is_apart}
use Rattle.lv_ast.specs.declared.expr.Expr.{Expr}
use Rattle.lv_ast.specs.declared.expr.Expr.TheVariants as e
use Rattle.lv_ast.specs.declared.expr.Expr.TheOpen.{Expr-F}
use Rattle.lv_source.specs.Names.{Names}
use Rattle.lv_const.specs.declared.own.Own.{Own}
use Rattle.lv_const.specs.declared.error.ConstError.{ConstError}
use Rattle.lv_source.specs.Sites.{Site, Walk, WalkStep, Shown, Step, Role, Value, walk, walk_step, is_absent, below_sites, node_shown, shown_of}
use Rattle.lv_const.specs.Faults.{unfixed, form_faults}
use Rattle.lv_const.specs.Answers.{ToldOf, SoundAt, HasOwn, HasNone, HasNoOwn, IsOwn, read_role}
use Rattle.lv_const.specs.Joins.{Owned, bit, greater, unary_own, binary_both, binary_own, greater_own, chosen_own, cast_own}
use Rattle.lv_source.specs.NodeRules.{is_width, unfixed_division, out_of_range}
use Rattle.lv_const.proofs.Numbers.{split}
use Rattle.lv_const.proofs.Told.{both-empty, formed-node, formed-both, told-below, told-first, told-second, width_in}
use Rattle.lv_const.proofs.Walks.{walk-Un, walk-Bin, walk-Div, walk-Rem, walk-Cond, walk-Cast}

abbrev pub is_plain : Expr-F Shown Step → Bool
is_plain (Expr-F.Lit l) = false
is_plain (Expr-F.Name path ss) = false
is_plain (Expr-F.Rep n rs) = false
is_plain _ = true

module _ (early : Path → Bool) where
  -- a node that only its width can make wrong
  plain-fits : (s : Site) → is_plain s.node ≡ true → unfixed s ≡ [] → is_width s.shown.reading.meaning.width ≡ true → form_faults early s ≡ []
  plain-fits s p u h = elim s.node as (λ n. is_plain n ≡ true → unfixed (record s { node = n }) ≡ [] → form_faults early (record s { node = n }) ≡ []) [
    | Expr-F.Lit l ↦ λ q f. cc
    | Expr-F.Name path ss ↦ λ q f. cc
    | Expr-F.Un op a ↦ λ q f. rw h
    | Expr-F.Bin op a b ↦ λ q f. rw h
    | Expr-F.Div a b ↦ λ q f. both-empty (unfixed_division a b) (out_of_range (record s { node = Expr-F.Div a b })) f (rw h)
    | Expr-F.Rem a b ↦ λ q f. both-empty (unfixed_division a b) (out_of_range (record s { node = Expr-F.Rem a b })) f (rw h)
    | Expr-F.Cond c a b ↦ λ q f. rw h
    | Expr-F.Cat rs ↦ λ q f. rw h
    | Expr-F.Rep n rs ↦ λ q f. cc
    | Expr-F.Cast signed a ↦ λ q f. rw h
  ] p u

abbrev pub site_of : Names → Expr-F Walk WalkStep → Role → Option ℕ → ℕ → Bool → Site
site_of names x role fixed W T = record {
  names = names;
  node = node_shown x;
  shown = shown_of names (node_shown x);
  role = role;
  fixed = fixed;
  width =
      W;
  signed = T;
}

-- a division of constants
both-constant : (a b : Bool) → a && (b && true) ≡ true → a && b ≡ true
both-constant true true h = refl
both-constant true false h = h
both-constant false b h = h

constant-division : (a b : Shown) → a.reading.constant && (b.reading.constant && true) ≡ true → unfixed_division a b ≡ []
constant-division a b h = rw (both-constant a.reading.constant b.reading.constant h) refl

pub steady : (names : Names) (x : Expr-F Walk WalkStep) (role : Role) (fixed : Option ℕ) (W : ℕ) (T : Bool) →
    (walk_step names x).shown.reading.constant ≡ true →
    unfixed (site_of names x role fixed W T) ≡ []
steady names (Expr-F.Lit l) role fixed W T h = refl
steady names (Expr-F.Name path ss) role fixed W T h = refl
steady names (Expr-F.Un op a) role fixed W T h = refl
steady names (Expr-F.Bin op a b) role fixed W T h = refl
steady names (Expr-F.Div a b) role fixed W T h = constant-division a.shown b.shown h
steady names (Expr-F.Rem a b) role fixed W T h = constant-division a.shown b.shown h
steady names (Expr-F.Cond c a b) role fixed W T h = refl
steady names (Expr-F.Cat rs) role fixed W T h = refl
steady names (Expr-F.Rep n rs) role fixed W T h = refl
steady names (Expr-F.Cast signed a) role fixed W T h = refl

module _ (early : Path → Bool) (names : Names) (x : Expr-F Walk WalkStep) (joined : Bool) where
  pub has : (o : Own) → is_plain (node_shown x) ≡ true → o.width ≡ (walk_step names x).shown.reading.meaning.width →
      o.signed ≡ (walk_step names x).shown.reading.meaning.signed →
      1 ≤ o.width → o.width ≤ 128 → (walk_step names x).shown.reading.constant ≡ true →
      ((fixed : Option ℕ) (W : ℕ) (T : Bool) → SoundAt fixed early (below_sites x (read_role joined) fixed W T)) → HasOwn early (walk_step names x) joined o
  has o p width signed some most constant sound = record {
    width = width;
    signed = signed;
    some = some;
    most = most;
    constant = constant;
    sound = λ fixed W T. formed-node early (site_of names x (read_role joined) fixed W T) (below_sites x (read_role joined) fixed W T)
        (plain-fits early (site_of names x (read_role joined) fixed W T) p (steady names x (read_role joined) fixed W T constant)
        (ap is_width (sym width) ∙ width_in o.width some most)) (sound fixed W T);
  }

  pub hasnt : {valued : Bool} (e : ConstError) →
      ((fixed : Option ℕ) (W : ℕ) (T : Bool) → ToldOf (valued && is_absent fixed) early (below_sites x (read_role joined) fixed W T) e) →
      HasNone valued early (walk_step names x) joined e
  hasnt e h = record {
    told = λ fixed W T. told-below early (site_of names x (read_role joined) fixed W T) (below_sites x (read_role joined) fixed W T) e
        (h fixed W T);
  }

abbrev pub width_at : Walk → ℕ
width_at w = w.shown.reading.meaning.width

abbrev pub signed_at : Walk → Bool
signed_at w = w.shown.reading.meaning.signed

module _ (early : Path → Bool) (names : Names) (joined : Bool) where
  pub un-kept : (op : Op) (w : Walk) (o : Own) → keeps_width op ≡ true → HasOwn early w false o → HasOwn early (walk_step names (Expr-F.Un op w)) joined o
  un-kept op w o k h = has early names (Expr-F.Un op w) joined o refl (rw k h.width) (rw k h.signed) h.some h.most (rw h.constant)
      (λ fixed W T. rw k (h.sound fixed W T))

  pub un-bit : (op : Op) (w : Walk) (o : Own) → keeps_width op ≡ false → HasOwn early w false o → HasOwn early (walk_step names (Expr-F.Un op w)) joined bit
  un-bit op w o k h = has early names (Expr-F.Un op w) joined bit refl (rw k refl) (rw k refl) (omega arith) (omega arith) (rw h.constant)
      (λ fixed W T. rw k (h.sound fixed (width_at w) (signed_at w)))

  un-right : (op : Op) (w : Walk) (o : Own) → HasOwn early w false o → HasOwn early (walk_step names (Expr-F.Un op w)) joined (cond (keeps_width op) o bit)
  un-right op w o h = elim (split (keeps_width op)) [
    | inl k ↦ subst (λ b. HasOwn early (walk_step names (Expr-F.Un op w)) joined (cond b o bit)) (sym k) (un-kept op w o k h)
    | inr k ↦ subst (λ b. HasOwn early (walk_step names (Expr-F.Un op w)) joined (cond b o bit)) (sym k) (un-bit op w o k h)
  ]

  un-wrong : (op : Op) (w : Walk) (x : ConstError) → HasNoOwn early w false x → HasNoOwn early (walk_step names (Expr-F.Un op w)) joined x
  un-wrong op w x h = hasnt early names (Expr-F.Un op w) joined x (λ fixed W T. elim (split (keeps_width op)) [
    | inl k ↦ rw k (h.told fixed W T)
    | inr k ↦ rw k (h.told fixed (width_at w) (signed_at w))
  ])

  un : (op : Op) (w : Walk) (r : Owned) → IsOwn early w false r → IsOwn early (walk_step names (Expr-F.Un op w)) joined (unary_own op r)
  un op w (Ok o) h = record { right = un-right op w o h.right; wrong = tt }
  un op w (Err x) h = record { right = tt; wrong = un-wrong op w x h.wrong }

  pub own-Un : (op : Op) (a : Expr) (r : Owned) → IsOwn early (walk names a) false r → IsOwn early (walk names (e.Un op a)) joined (unary_own op r)
  own-Un op a r h = subst (λ z. IsOwn early z joined (unary_own op r)) (sym (walk-Un names op a)) (un op (walk names a) r h)

  two-true : (a b : Bool) → a ≡ true → b ≡ true → a && (b && true) ≡ true
  two-true a b h k = rw (h, k)

  two-sound : (a b : Walk) (o p : Own) → HasOwn early a false o → HasOwn early b false p → (fixed : Option ℕ) (W : ℕ) (T : Bool) (V : ℕ) (S : Bool) →
      SoundAt fixed early (a.sites Value fixed W T ++ b.sites Value fixed V S)
  two-sound a b o p h k fixed W T V S = formed-both early (a.sites Value fixed W T) (b.sites Value fixed V S) (h.sound fixed W T) (k.sound fixed V S)

  -- at the greater width, and signed only if both are
  pub spread-width : (a b : Walk) (o p : Own) → HasOwn early a false o → HasOwn early b false p → max o.width p.width ≡ max (width_at a) (width_at b)
  spread-width a b o p h k = rw (h.width, k.width)

  pub spread-signed : (a b : Walk) (o p : Own) → HasOwn early a false o → HasOwn early b false p → (o.signed && p.signed) ≡ (signed_at a && signed_at b)
  spread-signed a b o p h k = rw (h.signed, k.signed)

  pub spread-some : (a b : Walk) (o p : Own) → HasOwn early a false o → HasOwn early b false p → 1 ≤ max o.width p.width
  spread-some a b o p h k = omega (arith, h.some)

  pub spread-most : (a b : Walk) (o p : Own) → HasOwn early a false o → HasOwn early b false p → max o.width p.width ≤ 128
  spread-most a b o p h k = omega (arith, h.most, k.most)

  pub bin-shift : (op : Op) (a b : Walk) (o p : Own) → keeps_width op ≡ true → is_apart op ≡ true → HasOwn early a false o → HasOwn early b false p →
      HasOwn early (walk_step names (Expr-F.Bin op a b)) joined o
  bin-shift op a b o p k j h g =
      has early names (Expr-F.Bin op a b) joined o refl (rw (k, j) h.width) (rw (k, j) h.signed) h.some h.most (two-true _ _ h.constant g.constant)
      (λ fixed W T. rw (k, j) (two-sound a b o p h g fixed W T (width_at b) (signed_at b)))

  pub bin-arithmetic : (op : Op) (a b : Walk) (o p : Own) → keeps_width op ≡ true → is_apart op ≡ false → HasOwn early a false o → HasOwn early b false p →
      HasOwn early (walk_step names (Expr-F.Bin op a b)) joined (greater o p)
  bin-arithmetic op a b o p k j h g =
      has early names (Expr-F.Bin op a b) joined (greater o p) refl (rw (k, j) (spread-width a b o p h g)) (rw (k, j) (spread-signed a b o p h g))
      (spread-some a b o p h g) (spread-most a b o p h g)
      (two-true _ _ h.constant g.constant) (λ fixed W T. rw (k, j) (two-sound a b o p h g fixed W T W T))

  pub bin-logical : (op : Op) (a b : Walk) (o p : Own) → keeps_width op ≡ false → is_apart op ≡ true → HasOwn early a false o → HasOwn early b false p →
      HasOwn early (walk_step names (Expr-F.Bin op a b)) joined bit
  bin-logical op a b o p k j h g =
      has early names (Expr-F.Bin op a b) joined bit refl (rw (k, j) refl) (rw (k, j) refl) (omega arith) (omega arith) (two-true _ _ h.constant g.constant)
      (λ fixed W T. rw (k, j) (two-sound a b o p h g fixed (width_at a) (signed_at a) (width_at b) (signed_at b)))

  pub bin-compared : (op : Op) (a b : Walk) (o p : Own) → keeps_width op ≡ false → is_apart op ≡ false → HasOwn early a false o → HasOwn early b false p →
      HasOwn early (walk_step names (Expr-F.Bin op a b)) joined bit
  bin-compared op a b o p k j h g =
      has early names (Expr-F.Bin op a b) joined bit refl (rw (k, j) refl) (rw (k, j) refl) (omega arith) (omega arith) (two-true _ _ h.constant g.constant)
      (λ fixed W T. rw (k, j) (two-sound a b o p h g fixed (max (width_at a) (width_at b)) (signed_at a && signed_at b) (max (width_at a) (width_at b))
      (signed_at a && signed_at b)))

  bin-right : (op : Op) (a b : Walk) (o p : Own) → HasOwn early a false o → HasOwn early b false p →
      HasOwn early (walk_step names (Expr-F.Bin op a b)) joined (binary_both op o p)
  bin-right op a b o p h g = elim (split (keeps_width op)) [
    | inl k ↦ elim (split (is_apart op)) [
      | inl j ↦ subst (λ z. HasOwn early (walk_step names (Expr-F.Bin op a b)) joined z) (sym (rw (k, j) refl)) (bin-shift op a b o p k j h g)
      | inr j ↦ subst (λ z. HasOwn early (walk_step names (Expr-F.Bin op a b)) joined z) (sym (rw (k, j) refl)) (bin-arithmetic op a b o p k j h g)
    ]
    | inr k ↦ elim (split (is_apart op)) [
      | inl j ↦ subst (λ z. HasOwn early (walk_step names (Expr-F.Bin op a b)) joined z) (sym (rw k refl)) (bin-logical op a b o p k j h g)
      | inr j ↦ subst (λ z. HasOwn early (walk_step names (Expr-F.Bin op a b)) joined z) (sym (rw k refl)) (bin-compared op a b o p k j h g)
    ]
  ]

  -- the operands' sites in each case
  bin-told : (op : Op) (a b : Walk) (x : ConstError) (fixed : Option ℕ) (W : ℕ) (T : Bool) →
      ((V : ℕ) (S : Bool) (U : ℕ) (R : Bool) → ToldOf false early (a.sites Value fixed V S ++ b.sites Value fixed U R) x) →
      ToldOf false early (below_sites (Expr-F.Bin op a b) (read_role joined) fixed W T) x
  bin-told op a b x fixed W T h = elim (split (keeps_width op)) [
    | inl k ↦ elim (split (is_apart op)) [
      | inl j ↦ rw (k, j) (h W T (width_at b) (signed_at b))
      | inr j ↦ rw (k, j) (h W T W T)
    ]
    | inr k ↦ elim (split (is_apart op)) [
      | inl j ↦ rw (k, j) (h (width_at a) (signed_at a) (width_at b) (signed_at b))
      | inr j ↦ rw (k, j) (h (max (width_at a) (width_at b)) (signed_at a && signed_at b) (max (width_at a) (width_at b)) (signed_at a && signed_at b))
    ]
  ]

  bin : (op : Op) (a b : Walk) (r q : Owned) → IsOwn early a false r → IsOwn early b false q →
      IsOwn early (walk_step names (Expr-F.Bin op a b)) joined (binary_own op r q)
  bin op a b (Err x) q h g = record {
    right = tt;
    wrong = hasnt early names (Expr-F.Bin op a b) joined x
        (λ fixed W T. bin-told op a b x fixed W T (λ V S U R. told-first early _ _ x (h.wrong.told fixed V S)));
  }
  bin op a b (Ok o) (Err x) h g = record {
    right = tt;
    wrong =
        hasnt early names (Expr-F.Bin op a b) joined x (λ fixed W T. bin-told op a b x fixed W T (λ V S U R. told-second early _ _ x (g.wrong.told fixed U R)));
  }
  bin op a b (Ok o) (Ok p) h g = record { right = bin-right op a b o p h.right g.right; wrong = tt }

  pub own-Bin : (op : Op) (a b : Expr) (r q : Owned) → IsOwn early (walk names a) false r → IsOwn early (walk names b) false q →
      IsOwn early (walk names (e.Bin op a b)) joined (binary_own op r q)
  own-Bin op a b r q h g = subst (λ z. IsOwn early z joined (binary_own op r q)) (sym (walk-Bin names op a b)) (bin op (walk names a) (walk names b) r q h g)

  pub div-right : (a b : Walk) (o p : Own) → HasOwn early a false o → HasOwn early b false p →
      HasOwn early (walk_step names (Expr-F.Div a b)) joined (greater o p)
  div-right a b o p h g =
      has early names (Expr-F.Div a b) joined (greater o p) refl (spread-width a b o p h g) (spread-signed a b o p h g) (spread-some a b o p h g)
      (spread-most a b o p h g)
      (two-true _ _ h.constant g.constant) (λ fixed W T. two-sound a b o p h g fixed W T W T)

  pub rem-right : (a b : Walk) (o p : Own) → HasOwn early a false o → HasOwn early b false p →
      HasOwn early (walk_step names (Expr-F.Rem a b)) joined (greater o p)
  rem-right a b o p h g =
      has early names (Expr-F.Rem a b) joined (greater o p) refl (spread-width a b o p h g) (spread-signed a b o p h g) (spread-some a b o p h g)
      (spread-most a b o p h g)
      (two-true _ _ h.constant g.constant) (λ fixed W T. two-sound a b o p h g fixed W T W T)

  div : (a b : Walk) (r q : Owned) → IsOwn early a false r → IsOwn early b false q → IsOwn early (walk_step names (Expr-F.Div a b)) joined (greater_own r q)
  div a b (Err x) q h g = record {
    right = tt;
    wrong = hasnt early names (Expr-F.Div a b) joined x
        (λ fixed W T. told-first early _ _ x (h.wrong.told fixed W T));
  }
  div a b (Ok o) (Err x) h g = record {
    right = tt;
    wrong = hasnt early names (Expr-F.Div a b) joined x
        (λ fixed W T. told-second early _ _ x (g.wrong.told fixed W T));
  }
  div a b (Ok o) (Ok p) h g = record { right = div-right a b o p h.right g.right; wrong = tt }

  rem : (a b : Walk) (r q : Owned) → IsOwn early a false r → IsOwn early b false q → IsOwn early (walk_step names (Expr-F.Rem a b)) joined (greater_own r q)
  rem a b (Err x) q h g = record {
    right = tt;
    wrong = hasnt early names (Expr-F.Rem a b) joined x
        (λ fixed W T. told-first early _ _ x (h.wrong.told fixed W T));
  }
  rem a b (Ok o) (Err x) h g = record {
    right = tt;
    wrong = hasnt early names (Expr-F.Rem a b) joined x
        (λ fixed W T. told-second early _ _ x (g.wrong.told fixed W T));
  }
  rem a b (Ok o) (Ok p) h g = record { right = rem-right a b o p h.right g.right; wrong = tt }

  pub own-Div : (a b : Expr) (r q : Owned) → IsOwn early (walk names a) false r → IsOwn early (walk names b) false q →
      IsOwn early (walk names (e.Div a b)) joined (greater_own r q)
  own-Div a b r q h g = subst (λ z. IsOwn early z joined (greater_own r q)) (sym (walk-Div names a b)) (div (walk names a) (walk names b) r q h g)

  pub own-Rem : (a b : Expr) (r q : Owned) → IsOwn early (walk names a) false r → IsOwn early (walk names b) false q →
      IsOwn early (walk names (e.Rem a b)) joined (greater_own r q)
  own-Rem a b r q h g = subst (λ z. IsOwn early z joined (greater_own r q)) (sym (walk-Rem names a b)) (rem (walk names a) (walk names b) r q h g)

  pub cond-right : (c a b : Walk) (l o p : Own) → HasOwn early c false l → HasOwn early a false o → HasOwn early b false p →
      HasOwn early (walk_step names (Expr-F.Cond c a b)) joined (greater o p)
  cond-right c a b l o p f h g =
      has early names (Expr-F.Cond c a b) joined (greater o p) refl (spread-width a b o p h g) (spread-signed a b o p h g) (spread-some a b o p h g)
      (spread-most a b o p h g)
      (rw (f.constant, h.constant, g.constant) refl)
      (λ fixed W T. formed-both early _ _ (formed-both early _ _ (f.sound fixed (width_at c) (signed_at c)) (h.sound fixed W T)) (g.sound fixed W T))

  choose : (c a b : Walk) (s r q : Owned) → IsOwn early c false s → IsOwn early a false r → IsOwn early b false q →
      IsOwn early (walk_step names (Expr-F.Cond c a b)) joined (chosen_own s r q)
  choose c a b (Err x) r q f h g = record {
    right = tt;
    wrong =
        hasnt early names (Expr-F.Cond c a b) joined x (λ fixed W T. told-first early _ _ x
        (told-first early _ _ x (f.wrong.told fixed (width_at c) (signed_at c))));
  }
  choose c a b (Ok l) (Err x) q f h g = record {
    right = tt;
    wrong =
        hasnt early names (Expr-F.Cond c a b) joined x (λ fixed W T. told-first early _ _ x (told-second early _ _ x (h.wrong.told fixed W T)));
  }
  choose c a b (Ok l) (Ok o) (Err x) f h g = record {
    right = tt;
    wrong =
        hasnt early names (Expr-F.Cond c a b) joined x (λ fixed W T. told-second early _ _ x (g.wrong.told fixed W T));
  }
  choose c a b (Ok l) (Ok o) (Ok p) f h g = record { right = cond-right c a b l o p f.right h.right g.right; wrong = tt }

  pub own-Cond : (c a b : Expr) (s r q : Owned) → IsOwn early (walk names c) false s → IsOwn early (walk names a) false r → IsOwn early (walk names b) false q →
      IsOwn early (walk names (e.Cond c a b)) joined (chosen_own s r q)
  own-Cond c a b s r q f h g = subst (λ z. IsOwn early z joined (chosen_own s r q)) (sym (walk-Cond names c a b))
      (choose (walk names c) (walk names a) (walk names b) s r q f h g)

  pub cast-right : (signed : Bool) (w : Walk) (o : Own) → HasOwn early w false o →
      HasOwn early (walk_step names (Expr-F.Cast signed w)) joined (record { width = o.width; signed = signed })
  cast-right signed w o h = has early names (Expr-F.Cast signed w) joined (record { width = o.width; signed = signed }) refl h.width refl h.some h.most
      (rw h.constant)
      (λ fixed W T. h.sound fixed (width_at w) (signed_at w))

  cast : (signed : Bool) (w : Walk) (r : Owned) → IsOwn early w false r → IsOwn early (walk_step names (Expr-F.Cast signed w)) joined (cast_own signed r)
  cast signed w (Ok o) h = record { right = cast-right signed w o h.right; wrong = tt }
  cast signed w (Err x) h = record {
    right = tt;
    wrong = hasnt early names (Expr-F.Cast signed w) joined x
        (λ fixed W T. h.wrong.told fixed (width_at w) (signed_at w));
  }

  pub own-Cast : (signed : Bool) (a : Expr) (r : Owned) → IsOwn early (walk names a) false r →
      IsOwn early (walk names (e.Cast signed a)) joined (cast_own signed r)
  own-Cast signed a r h = subst (λ z. IsOwn early z joined (cast_own signed r)) (sym (walk-Cast names signed a)) (cast signed (walk names a) r h)
