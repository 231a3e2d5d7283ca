-- What each arm of the functions over a tree has to show.
use Rattle.std.proofs.Common.{◌≡◌, ℕ, ◌+◌, ◌≤◌, ◌<◌, Bool, true, false, List, [], ◌∷◌, ◌++◌, ap, ◌∙◌, sym, subst, refl, map, length, take, drop, get_or, arith, Ok, Err, Result, Option, Some, None, max, zero, suc, ◌*◌}
use Rattle.std.proofs.lemmas.List.{take_more, map-append}
use Rattle.std.specs.Prelude.{IfOk}
use Rattle.lv_bits.specs.declared.op.Op.{Op}
use Rattle.lv_bits.specs.Words.{Bits}
use Rattle.lv_bits.specs.Values.{keeps_width, is_apart}
use Rattle.lv_ast.specs.declared.expr.Literal.{Literal}
use Rattle.lv_ast.specs.declared.expr.Path.{Path}
use Rattle.lv_ast.specs.declared.expr.Expr.{Expr}
use Rattle.lv_ast.specs.declared.expr.Expr.TheVariants as tree
use Rattle.lv_ast.specs.declared.expr.Expr.TheOpen.{Expr-F, Select-F}
use Rattle.lv_ast.specs.declared.expr.Select.{Select}
use Rattle.lv_ast.specs.declared.expr.Select.TheVariants as select
use Rattle.lv_source.specs.Names.{Names}
use Rattle.lv_source.specs.Sites.{Walk, WalkStep, walk, walk_select, walk_step, first_place}
use Rattle.lv_const.specs.declared.constant.Const.{Const}
use Rattle.lv_const.specs.declared.own.Own.{Own}
use Rattle.lv_const.specs.declared.full.Full.{Full}
use Rattle.lv_const.specs.declared.full.Reach.{Reach}
use Rattle.lv_const.specs.declared.error.ConstError.{ConstError}
use Rattle.lv_const.specs.declared.error.ConstError.TheVariants as x
use Rattle.lv_const.specs.Constants.{declared_of, constant_of}
use Rattle.lv_const.specs.Answers.{read_role, IsOwn, HasOwn, HasNone, HasNoOwn, IsFull, IsReached, HasReached, HasNoReached, IsPlain, IsPair, AreWidths, HaveWidths, IsJoint, HasNoJoint, IsOwnPick, IsFullPick}
use Rattle.lv_const.specs.Joins.{Valued, Owned, Paired, alone, spread, held, placed, paired, appended, greater_own, unary_own, binary_own, chosen_own, cast_own, joined_own, repeated_own, literal_own, literal_full, unary_kept, unary_bit, shifted, logical, arithmetic, compared, divided, remains, chosen, cast_full, joined_full, repeated_full}
use Rattle.lv_const.specs.Picks.{IsSized, whole_own, whole_full, bit_own, part_own, run_own, bit_full, part_full, up_full, down_full}
use Rattle.lv_source.specs.Constants.{early_or_none}
use Rattle.lv_const.proofs.Declared.{no-entry, entry-known, entry-early}
use Rattle.lv_const.proofs.Owns as owns
use Rattle.lv_const.proofs.Leaves as leaves
use Rattle.lv_const.proofs.Lists as lists
use Rattle.lv_const.proofs.Plains as plains
use Rattle.lv_const.proofs.Reached as reached
use Rattle.lv_const.proofs.Selects as selects
use Rattle.lv_const.proofs.Walks.{walk-Lit, walk-Name, walk-Un, walk-Bin, walk-Div, walk-Rem, walk-Cond, walk-Cat, walk-Rep, walk-Cast, select-Bit, select-Part, select-Up, select-Down}

abbrev width : Names → Expr → ℕ
width names z = (walk names z).shown.reading.meaning.width

by : {A : Type 0} (P : A → Type 0) (a b : A) → a ≡ b → P b → P a
by P a b e h = subst P (sym e) h

module _ (early : Path → Bool) (names : Names) (joined : Bool) where
  own : (z y : Expr) (q r : Owned) → z ≡ y → q ≡ r → IsOwn early (walk names y) joined r → IsOwn early (walk names z) joined q
  own z y q r e f h = by (λ u. IsOwn early (walk names u) joined q) z y e (by (λ u. IsOwn early (walk names y) joined u) q r f h)

  moved : (b a : Expr) (r : Owned) → b ≡ a → IsOwn early (walk names b) false r → IsOwn early (walk names a) false r
  moved b a r e h = subst (λ u. IsOwn early (walk names u) false r) e h

  pub at-Lit : (z : Expr) (i : Literal) (q : Owned) → z ≡ tree.Lit i → q ≡ literal_own i joined → IsOwn early (walk names z) joined q
  at-Lit z i q e f = own z (tree.Lit i) q (literal_own i joined) e f (leaves.own-Lit early names joined i)

  pub at-none : (z : Expr) (path : Path) (ss : List Select) → z ≡ tree.Name path ss → declared_of path.name None ≡ early_or_none (early path) (names path) →
      IsOwn early (walk names z) joined (Err (x.NoValue path.place))
  at-none z path ss e d = own z (tree.Name path ss) (Err (x.NoValue path.place)) (Err (x.NoValue path.place)) e refl
      (subst (λ w. IsOwn early w joined (Err (x.NoValue path.place))) (sym (walk-Name names path ss))
      (record { right = tt; wrong = leaves.own-none early names joined path (map (walk_select names) ss) (no-entry (early path) (names path) d) }))

  pub at-some : (z : Expr) (path : Path) (ss ts : List Select) (c : Const) (q : Owned) → z ≡ tree.Name path ss → ts ≡ ss →
      declared_of path.name (Some c) ≡ early_or_none (early path) (names path) →
      IsOwnPick early names path c (map (walk_select names) ts) q → IsOwn early (walk names z) joined q
  at-some z path ss ts c q e k d h = own z (tree.Name path ss) q q e refl
      (subst (λ w. IsOwn early w joined q) (sym (walk-Name names path ss))
      (subst (λ us. IsOwn early (walk_step names (Expr-F.Name path (map (walk_select names) us))) joined q) k
      (h.told (entry-known (early path) (names path) (constant_of path.name c) d) (entry-early (early path) (names path) (constant_of path.name c) d) joined)))

  pub at-Un : (z : Expr) (op : Op) (a b : Expr) (r q : Owned) → z ≡ tree.Un op a → b ≡ a → IsOwn early (walk names b) false r → q ≡ unary_own op r →
      IsOwn early (walk names z) joined q
  at-Un z op a b r q e k h f = own z (tree.Un op a) q (unary_own op r) e f (owns.own-Un early names joined op a r (moved b a r k h))

  pub at-Bin : (z : Expr) (op : Op) (a b c d : Expr) (r s q : Owned) → z ≡ tree.Bin op a b → c ≡ a → d ≡ b → IsOwn early (walk names c) false r →
      IsOwn early (walk names d) false s →
      q ≡ binary_own op r s → IsOwn early (walk names z) joined q
  at-Bin z op a b c d r s q e k m h g f = own z (tree.Bin op a b) q (binary_own op r s) e f
      (owns.own-Bin early names joined op a b r s (moved c a r k h) (moved d b s m g))

  pub at-Div : (z a b c d : Expr) (r s q : Owned) → z ≡ tree.Div a b → c ≡ a → d ≡ b → IsOwn early (walk names c) false r →
      IsOwn early (walk names d) false s → q ≡ greater_own r s → IsOwn early (walk names z) joined q
  at-Div z a b c d r s q e k m h g f = own z (tree.Div a b) q (greater_own r s) e f
      (owns.own-Div early names joined a b r s (moved c a r k h) (moved d b s m g))

  pub at-Rem : (z a b c d : Expr) (r s q : Owned) → z ≡ tree.Rem a b → c ≡ a → d ≡ b → IsOwn early (walk names c) false r →
      IsOwn early (walk names d) false s → q ≡ greater_own r s → IsOwn early (walk names z) joined q
  at-Rem z a b c d r s q e k m h g f = own z (tree.Rem a b) q (greater_own r s) e f
      (owns.own-Rem early names joined a b r s (moved c a r k h) (moved d b s m g))

  pub at-Cond : (z i a b j c d : Expr) (p r s q : Owned) → z ≡ tree.Cond i a b → j ≡ i → c ≡ a → d ≡ b → IsOwn early (walk names j) false p →
      IsOwn early (walk names c) false r → IsOwn early (walk names d) false s →
      q ≡ chosen_own p r s → IsOwn early (walk names z) joined q
  at-Cond z i a b j c d p r s q e n k m t h g f = own z (tree.Cond i a b) q (chosen_own p r s) e f
      (owns.own-Cond early names joined i a b p r s (moved j i p n t) (moved c a r k h) (moved d b s m g))

  pub at-Cast : (z : Expr) (signed : Bool) (a b : Expr) (r q : Owned) → z ≡ tree.Cast signed a → b ≡ a → IsOwn early (walk names b) false r →
      q ≡ cast_own signed r → IsOwn early (walk names z) joined q
  at-Cast z signed a b r q e k h f = own z (tree.Cast signed a) q (cast_own signed r) e f (owns.own-Cast early names joined signed a r (moved b a r k h))

  pub at-Cat : (z : Expr) (es fs : List Expr) (r : Result ℕ ConstError) (place : ℕ) (q : Owned) → z ≡ tree.Cat es → fs ≡ es →
      place ≡ first_place (walk names z).shown →
      AreWidths early (map (walk names) fs) r →
      q ≡ joined_own place r → IsOwn early (walk names z) joined q
  at-Cat z es fs r place q e k p h f = own z (tree.Cat es) q (joined_own place r) e f
      (leaves.own-Cat early names joined es r place (p ∙ ap (λ u. first_place (walk names u).shown) e)
      (subst (λ u. AreWidths early (map (walk names) u) r) k h))

  pub at-Rep : (z n : Expr) (es fs : List Expr) (c : Result Full ConstError) (r : Result ℕ ConstError) (place : ℕ) (q : Owned) → z ≡ tree.Rep n es → fs ≡ es →
      place ≡ first_place (walk names z).shown →
      IsFull early (walk names n) false c → AreWidths early (map (walk names) fs) r → q ≡ repeated_own place c r → IsOwn early (walk names z) joined q
  at-Rep z n es fs c r place q e k p g h f =
      own z (tree.Rep n es) q (repeated_own place c r) e f (leaves.own-Rep early names joined n es c r place
      (p ∙ ap (λ u. first_place (walk names u).shown) e) g
      (subst (λ u. AreWidths early (map (walk names) u) r) k h))

take-most : {A : Type 0} (i : ℕ) (xs : List A) → length (take i xs) ≤ i
take-most zero xs = omega arith
take-most (suc i) [] = omega arith
take-most (suc i) (x ∷ xs) = omega (arith, take-most i xs)

walks-most : (names : Names) (es : List Expr) → length (map (walk names) es) ≡ length es
walks-most names [] = refl
walks-most names (z ∷ es) = ap suc (walks-most names es)

module _ (early : Path → Bool) (names : Names) where
  pub widths-most : (es : List Expr) (i total : ℕ) → HaveWidths early (map (walk names) (take i es)) total → total ≤ 128 * i
  widths-most es i total h = omega (arith, h.most, walks-most names (take i es), take-most i es)

  pub at-widths_more : (es : List Expr) (i : ℕ) (z : Expr) (total : ℕ) (o : Own) → i < length es → get_or es i z ≡ z →
      HaveWidths early (map (walk names) (take i es)) total → HasOwn early (walk names z) true o →
      HaveWidths early (map (walk names) (take (i + 1) es)) (total + o.width)
  at-widths_more es i z total o h k g m =
      let t : take (i + 1) es ≡ take i es ++ z ∷ [] = take_more es i z h ∙ ap (λ u. take i es ++ u ∷ []) k in
      by (λ us. HaveWidths early us (total + o.width)) (map (walk names) (take (i + 1) es)) (map (walk names) (take i es) ++ walk names z ∷ [])
      (ap (map (walk names)) t ∙ map-append (walk names) (take i es) (z ∷ []))
      (lists.widths-more early (map (walk names) (take i es)) (walk names z) total o g m)

  pub at-widths_wrong : (es : List Expr) (i : ℕ) (z : Expr) (y : ConstError) → i < length es → get_or es i z ≡ z → HasNoOwn early (walk names z) true y →
      AreWidths early (map (walk names) es) (Err y)
  at-widths_wrong es i z y h k g = record { right = tt; wrong = lists.widths-wrong_at early names es i z y h k g }

-- ---- values

module _ (early : Path → Bool) (names : Names) (joined : Bool) (reach : Reach) where
  val : (z y : Expr) (n : Expr-F Walk WalkStep) (q r : Valued) → z ≡ y → walk names y ≡ walk_step names n → q ≡ r →
      IsReached early (walk_step names n) joined reach r →
      IsReached early (walk names z) joined reach q
  val z y n q r e w f h = by (λ u. IsReached early (walk names u) joined reach q) z y e
      (by (λ u. IsReached early u joined reach q) (walk names y) (walk_step names n) w (by (λ u. IsReached early (walk_step names n) joined reach u) q r f h))

  lay : (z y : Expr) (n : Expr-F Walk WalkStep) (q r s : Valued) → z ≡ y → walk names y ≡ walk_step names n → reach.least ≤ 128 → q ≡ placed reach r → r ≡ s →
      IsPlain early (walk_step names n) joined s → IsReached early (walk names z) joined reach q
  lay z y n q r s e w m f g h = val z y n q (placed reach s) e w (f ∙ ap (placed reach) g) (reached.at-place early (walk_step names n) joined reach s m h)

  pub value-Lit : (z : Expr) (l : Literal) (r q : Valued) → z ≡ tree.Lit l → reach.least ≤ 128 → r ≡ literal_full l joined → q ≡ placed reach r →
      IsReached early (walk names z) joined reach q
  value-Lit z l r q e m g f = lay z (tree.Lit l) (Expr-F.Lit l) q r (literal_full l joined) e (walk-Lit names l) m f g (plains.lit early names joined l)

  pub value-none : (z : Expr) (path : Path) (ss : List Select) → z ≡ tree.Name path ss →
      declared_of path.name None ≡ early_or_none (early path) (names path) → IsReached early (walk names z) joined reach (Err (x.NoValue path.place))
  value-none z path ss e d = val z (tree.Name path ss) (Expr-F.Name path (map (walk_select names) ss)) (Err (x.NoValue path.place))
      (Err (x.NoValue path.place)) e (walk-Name names path ss) refl
      (record {
        right = tt;
        wrong = record {
          told = λ fixed. leaves.unknown early names path (map (walk_select names) ss) (read_role joined) fixed _ _ (no-entry (early path) (names path) d);
        };
      })

  pub value-some : (z : Expr) (path : Path) (ss ts : List Select) (c : Const) (r q : Valued) → z ≡ tree.Name path ss → ts ≡ ss →
      declared_of path.name (Some c) ≡ early_or_none (early path) (names path) → reach.least ≤ 128 →
      IsFullPick early names path c (map (walk_select names) ts) r → q ≡ placed reach r → IsReached early (walk names z) joined reach q
  value-some z path ss ts c r q e k d m h f = lay z (tree.Name path ss) (Expr-F.Name path (map (walk_select names) ss)) q r r e
      (walk-Name names path ss) m f refl
      (subst (λ us. IsPlain early (walk_step names (Expr-F.Name path (map (walk_select names) us))) joined r) k
      (h.told (entry-known (early path) (names path) (constant_of path.name c) d) (entry-early (early path) (names path) (constant_of path.name c) d) joined))

  pub value-Un_kept : (z : Expr) (op : Op) (a b : Expr) (r q : Valued) → z ≡ tree.Un op a → b ≡ a → keeps_width op ≡ true →
      IsReached early (walk names b) false reach r → q ≡ unary_kept op r →
      IsReached early (walk names z) joined reach q
  value-Un_kept z op a b r q e k m h f = val z (tree.Un op a) (Expr-F.Un op (walk names a)) q (unary_kept op r) e (walk-Un names op a) f
      (reached.un-kept early names joined op (walk names a) reach r m (subst (λ u. IsReached early (walk names u) false reach r) k h))

  pub value-Un_bit : (z : Expr) (op : Op) (a : Expr) (r s q : Valued) → z ≡ tree.Un op a → reach.least ≤ 128 → keeps_width op ≡ false →
      IsFull early (walk names a) false r →
      s ≡ unary_bit op r → q ≡ placed reach s → IsReached early (walk names z) joined reach q
  value-Un_bit z op a r s q e m k h g f = lay z (tree.Un op a) (Expr-F.Un op (walk names a)) q s (unary_bit op r) e (walk-Un names op a) m f g
      (reached.un-bit early names joined op (walk names a) r k h)

  pub value-Cast : (z : Expr) (signed : Bool) (a : Expr) (r s q : Valued) → z ≡ tree.Cast signed a → reach.least ≤ 128 → IsFull early (walk names a) false r →
      s ≡ cast_full signed r →
      q ≡ placed reach s → IsReached early (walk names z) joined reach q
  value-Cast z signed a r s q e m h g f = lay z (tree.Cast signed a) (Expr-F.Cast signed (walk names a)) q s (cast_full signed r) e
      (walk-Cast names signed a) m f g
      (reached.cast early names joined signed (walk names a) r h)

  -- an operator with two operands
  bin : (op : Op) (a b : Expr) (q r : Valued) → q ≡ r →
      IsReached early (walk_step names (Expr-F.Bin op (walk names a) (walk names b))) joined reach r →
      IsReached early (walk_step names (Expr-F.Bin op (walk names a) (walk names b))) joined reach q
  bin op a b q r f h = by (λ u. IsReached early (walk_step names (Expr-F.Bin op (walk names a) (walk names b))) joined reach u) q r f h

  bin-lay : (op : Op) (a b : Expr) (q r s : Valued) → reach.least ≤ 128 → q ≡ placed reach r → r ≡ s →
      IsPlain early (walk_step names (Expr-F.Bin op (walk names a) (walk names b))) joined s →
      IsReached early (walk_step names (Expr-F.Bin op (walk names a) (walk names b))) joined reach q
  bin-lay op a b q r s m f g h = bin op a b q (placed reach s) (f ∙ ap (placed reach) g)
      (reached.at-place early (walk_step names (Expr-F.Bin op (walk names a) (walk names b))) joined reach s m h)

  pub value-Bin : (z : Expr) (op : Op) (a b : Expr) (q : Valued) → z ≡ tree.Bin op a b →
      IsReached early (walk_step names (Expr-F.Bin op (walk names a) (walk names b))) joined reach q → IsReached early (walk names z) joined reach q
  value-Bin z op a b q e h = val z (tree.Bin op a b) (Expr-F.Bin op (walk names a) (walk names b)) q q e (walk-Bin names op a b) refl h

  pub value-shift : (op : Op) (a b c : Expr) (r s q : Valued) → c ≡ a → keeps_width op ≡ true → is_apart op ≡ true →
      IsReached early (walk names c) false reach r → IsFull early (walk names b) false s →
      q ≡ shifted op r s → IsReached early (walk_step names (Expr-F.Bin op (walk names a) (walk names b))) joined reach q
  value-shift op a b c r s q k m j h g f = bin op a b q (shifted op r s) f
      (reached.bin-shift early names joined op (walk names a) (walk names b) reach r s m j (subst (λ u. IsReached early (walk names u) false reach r) k h) g)

  pub value-logical : (op : Op) (a b : Expr) (r s t q : Valued) → reach.least ≤ 128 → keeps_width op ≡ false → is_apart op ≡ true →
      IsFull early (walk names a) false r → IsFull early (walk names b) false s → t ≡ logical op r s → q ≡ placed reach t →
      IsReached early (walk_step names (Expr-F.Bin op (walk names a) (walk names b))) joined reach q
  value-logical op a b r s t q l m j h g i f = bin-lay op a b q t (logical op r s) l f i
      (reached.bin-logical early names joined op (walk names a) (walk names b) r s m j h g)

  pub value-arithmetic : (op : Op) (a b : Expr) (p : Paired) (q : Valued) → keeps_width op ≡ true → is_apart op ≡ false →
      IsPair early (walk names a) (walk names b) reach p → q ≡ arithmetic op p →
      IsReached early (walk_step names (Expr-F.Bin op (walk names a) (walk names b))) joined reach q
  value-arithmetic op a b p q m j h f = bin op a b q (arithmetic op p) f
      (reached.bin-arithmetic early names joined op (walk names a) (walk names b) reach p m j h)

  pub value-compared : (op : Op) (a b : Expr) (k : Reach) (p : Paired) (t q : Valued) → reach.least ≤ 128 → keeps_width op ≡ false →
      is_apart op ≡ false → k ≡ alone → IsPair early (walk names a) (walk names b) k p → t ≡ compared op p → q ≡ placed reach t →
      IsReached early (walk_step names (Expr-F.Bin op (walk names a) (walk names b))) joined reach q
  value-compared op a b k p t q l m j g h i f = bin-lay op a b q t (compared op p) l f i
      (reached.bin-compared early names joined op (walk names a) (walk names b) p m j (subst (λ u. IsPair early (walk names a) (walk names b) u p) g h))

  pub value-Div : (z a b d : Expr) (p : Paired) (q : Valued) (place : ℕ) → z ≡ tree.Div a b → IsPair early (walk names a) (walk names b) reach p →
      place ≡ first_place (walk names d).shown →
      d ≡ b → q ≡ divided place p → IsReached early (walk names z) joined reach q
  value-Div z a b d p q place e h g k f = val z (tree.Div a b) (Expr-F.Div (walk names a) (walk names b)) q (divided (first_place (walk names b).shown) p) e
      (walk-Div names a b)
      (f ∙ ap (λ n. divided n p) (g ∙ ap (λ u. first_place (walk names u).shown) k)) (reached.div early names joined (walk names a) (walk names b) reach p h)

  pub value-Rem : (z a b d : Expr) (p : Paired) (q : Valued) (place : ℕ) → z ≡ tree.Rem a b → IsPair early (walk names a) (walk names b) reach p →
      place ≡ first_place (walk names d).shown →
      d ≡ b → q ≡ remains place p → IsReached early (walk names z) joined reach q
  value-Rem z a b d p q place e h g k f = val z (tree.Rem a b) (Expr-F.Rem (walk names a) (walk names b)) q (remains (first_place (walk names b).shown) p) e
      (walk-Rem names a b)
      (f ∙ ap (λ n. remains n p) (g ∙ ap (λ u. first_place (walk names u).shown) k)) (reached.rem early names joined (walk names a) (walk names b) reach p h)

  pub value-Cond : (z i a b : Expr) (s : Valued) (p : Paired) (q : Valued) → z ≡ tree.Cond i a b → IsFull early (walk names i) false s →
      IsPair early (walk names a) (walk names b) reach p →
      q ≡ chosen s p → IsReached early (walk names z) joined reach q
  value-Cond z i a b s p q e g h f = val z (tree.Cond i a b) (Expr-F.Cond (walk names i) (walk names a) (walk names b)) q (chosen s p) e
      (walk-Cond names i a b) f
      (reached.choose early names joined (walk names i) (walk names a) (walk names b) reach s p g h)

  place-at : (z y : Expr) (n : Expr-F Walk WalkStep) (place : ℕ) → z ≡ y → walk names y ≡ walk_step names n → place ≡ first_place (walk names z).shown →
      place ≡ first_place (walk_step names n).shown
  place-at z y n place e w p = p ∙ (ap (λ u. first_place (walk names u).shown) e ∙ ap (λ u. first_place u.shown) w)

  joint-at : (es fs : List Expr) (place at : ℕ) (r : Result Bits ConstError) → fs ≡ es → place ≡ at → IsJoint early (map (walk names) fs) place r →
      IsJoint early (map (walk names) es) at r
  joint-at es fs place at r k p h = subst (λ n. IsJoint early (map (walk names) es) n r) p (subst (λ us. IsJoint early (map (walk names) us) place r) k h)

  pub value-Cat : (z : Expr) (es fs : List Expr) (place : ℕ) (r : Result Bits ConstError) (t q : Valued) → z ≡ tree.Cat es → reach.least ≤ 128 → fs ≡ es →
      place ≡ first_place (walk names z).shown → IsJoint early (map (walk names) fs) place r →
      t ≡ joined_full r → q ≡ placed reach t → IsReached early (walk names z) joined reach q
  value-Cat z es fs place r t q e m k p h i f = lay z (tree.Cat es) (Expr-F.Cat (map (walk names) es)) q t (joined_full r) e (walk-Cat names es) m f i
      (plains.cat early names joined (map (walk names) es) r
      (joint-at es fs place _ r k (place-at z (tree.Cat es) (Expr-F.Cat (map (walk names) es)) place e (walk-Cat names es) p) h))

  pub value-Rep : (z n : Expr) (es fs : List Expr) (place : ℕ) (s : Valued) (r : Result Bits ConstError) (t q : Valued) → z ≡ tree.Rep n es →
      reach.least ≤ 128 → fs ≡ es →
      place ≡ first_place (walk names z).shown → IsFull early (walk names n) false s →
      IsJoint early (map (walk names) fs) place r → t ≡ repeated_full place s r → q ≡ placed reach t → IsReached early (walk names z) joined reach q
  value-Rep z n es fs place s r t q e m k p g h i f =
      let at : place ≡ first_place (walk_step names (Expr-F.Rep (walk names n) (map (walk names) es))).shown =
      place-at z (tree.Rep n es) (Expr-F.Rep (walk names n) (map (walk names) es)) place e (walk-Rep names n es) p in
      lay z (tree.Rep n es) (Expr-F.Rep (walk names n) (map (walk names) es)) q t
      (repeated_full (first_place (walk_step names (Expr-F.Rep (walk names n) (map (walk names) es))).shown) s r) e (walk-Rep names n es) m f
      (i ∙ ap (λ u. repeated_full u s r) at) (plains.rep early names joined (walk names n) (map (walk names) es) s r g (joint-at es fs place _ r k at h))

module _ (early : Path → Bool) where
  pub at-full : (names : Names) (a b : Expr) (k : Reach) (r : Valued) → b ≡ a → k ≡ alone → IsReached early (walk names b) false k r →
      IsFull early (walk names a) false r
  at-full names a b k r e f h = subst (λ u. IsFull early (walk names u) false r) e
      (reached.is-full early (walk names b) false r (subst (λ u. IsReached early (walk names b) false u r) f h))

-- ---- pairs

pub spread-most : (m n : ℕ) → m ≤ 128 → n ≤ 128 → max m n ≤ 128
spread-most m n h k = omega (arith, h, k)

module _ (early : Path → Bool) (names : Names) (a b : Expr) (r : Reach) where
  pub left-wrong : (c : Expr) (y : ConstError) → c ≡ a → HasNoOwn early (walk names c) false y → IsPair early (walk names a) (walk names b) r (Err y)
  left-wrong c y k h = reached.left-wrong early (walk names a) (walk names b) r y (subst (λ u. HasNoOwn early (walk names u) false y) k h)

  pub left-right_wrong : (c d : Expr) (o : Own) (s : Reach) (y : ConstError) → c ≡ a → d ≡ b → s ≡ spread r o → HasOwn early (walk names c) false o →
      HasNoReached early (walk names d) false s y →
      IsPair early (walk names a) (walk names b) r (Err y)
  left-right_wrong c d o s y k m g h i = reached.left-right_wrong early (walk names a) (walk names b) r o y
      (subst (λ u. HasOwn early (walk names u) false o) k h)
      (subst (λ u. HasNoReached early (walk names u) false (spread r o) y) m (subst (λ t. HasNoReached early (walk names d) false t y) g i))

  pub left-paired : (c d e : Expr) (o : Own) (s t : Reach) (f g : Full) (v : Valued) (q : Paired) → c ≡ a → d ≡ b → e ≡ a → s ≡ spread r o → t ≡ held f →
      g ≡ f →
      HasOwn early (walk names c) false o → HasReached early (walk names d) false s f →
      IsReached early (walk names e) false t v → q ≡ paired v (Ok g) → IsPair early (walk names a) (walk names b) r q
  left-paired c d e o s t f g v q k m n i j y h l w z = by (λ u. IsPair early (walk names a) (walk names b) r u) q (paired v (Ok f))
      (z ∙ ap (λ u. paired v (Ok u)) y)
      (reached.left-paired early (walk names a) (walk names b) r o f v (subst (λ u. HasOwn early (walk names u) false o) k h)
      (subst (λ u. HasReached early (walk names u) false (spread r o) f) m (subst (λ u. HasReached early (walk names d) false u f) i l))
      (subst (λ u. IsReached early (walk names u) false (held f) v) n (subst (λ u. IsReached early (walk names e) false u v) j w)))

  pub right-wrong : (c : Expr) (y : ConstError) → c ≡ b → HasNoOwn early (walk names c) false y → IsPair early (walk names a) (walk names b) r (Err y)
  right-wrong c y k h = reached.right-wrong early (walk names a) (walk names b) r y (subst (λ u. HasNoOwn early (walk names u) false y) k h)

  pub right-left_wrong : (c d : Expr) (o : Own) (s : Reach) (y : ConstError) → c ≡ b → d ≡ a → s ≡ spread r o → HasOwn early (walk names c) false o →
      HasNoReached early (walk names d) false s y →
      IsPair early (walk names a) (walk names b) r (Err y)
  right-left_wrong c d o s y k m g h i = reached.right-left_wrong early (walk names a) (walk names b) r o y
      (subst (λ u. HasOwn early (walk names u) false o) k h)
      (subst (λ u. HasNoReached early (walk names u) false (spread r o) y) m (subst (λ t. HasNoReached early (walk names d) false t y) g i))

  pub right-paired : (c d e : Expr) (o : Own) (s t : Reach) (f g : Full) (v : Valued) (q : Paired) → c ≡ b → d ≡ a → e ≡ b → s ≡ spread r o → t ≡ held f →
      g ≡ f →
      HasOwn early (walk names c) false o → HasReached early (walk names d) false s f →
      IsReached early (walk names e) false t v → q ≡ paired (Ok g) v → IsPair early (walk names a) (walk names b) r q
  right-paired c d e o s t f g v q k m n i j y h l w z = by (λ u. IsPair early (walk names a) (walk names b) r u) q (paired (Ok f) v)
      (z ∙ ap (λ u. paired (Ok u) v) y)
      (reached.right-paired early (walk names a) (walk names b) r o f v (subst (λ u. HasOwn early (walk names u) false o) k h)
      (subst (λ u. HasReached early (walk names u) false (spread r o) f) m (subst (λ u. HasReached early (walk names d) false u f) i l))
      (subst (λ u. IsReached early (walk names u) false (held f) v) n (subst (λ u. IsReached early (walk names e) false u v) j w)))

module _ (early : Path → Bool) where
  pub pair-same : (names : Names) (a b : Expr) (r : Reach) (p : Paired) → IsPair early (walk names a) (walk names b) r p →
      IfOk p (λ q. q.left.width ≡ q.right.width)
  pair-same names a b r p h = reached.pair-same early (walk names a) (walk names b) r p h

-- ---- words of operands

module _ (early : Path → Bool) (names : Names) where
  pub joint_more : (es : List Expr) (i : ℕ) (z : Expr) (place : ℕ) (joint : Option Bits) (k : Reach) (r : Valued) (word : Bits) → i < length es →
      get_or es i z ≡ z →
      lists.IsSoFar early (map (walk names) (take i es)) joint → k ≡ alone →
      IsReached early (walk names z) true k r → appended place joint r ≡ Ok word → lists.IsSoFar early (map (walk names) (take (i + 1) es)) (Some word)
  joint_more es i z place joint k r word h g m n o f =
      let t : take (i + 1) es ≡ take i es ++ z ∷ [] = take_more es i z h ∙ ap (λ u. take i es ++ u ∷ []) g in
      by (λ us. lists.IsSoFar early us (Some word)) (map (walk names) (take (i + 1) es)) (map (walk names) (take i es) ++ walk names z ∷ [])
      (ap (map (walk names)) t ∙ map-append (walk names) (take i es) (z ∷ []))
      (lists.so-far_more early (map (walk names) (take i es)) (walk names z) place joint r word m (subst (λ u. IsReached early (walk names z) true u r) n o) f)

  pub joint_wrong : (es : List Expr) (i : ℕ) (z : Expr) (place : ℕ) (joint : Option Bits) (k : Reach) (r : Valued) (y : ConstError) → i < length es →
      get_or es i z ≡ z →
      lists.IsSoFar early (map (walk names) (take i es)) joint → k ≡ alone →
      IsReached early (walk names z) true k r → appended place joint r ≡ Err y → IsJoint early (map (walk names) es) place (Err y)
  joint_wrong es i z place joint k r y h g m n o f = record {
    right = tt;
    wrong = subst (λ us. HasNoJoint early us place y) (sym (lists.parted names es i z h g))
        (lists.so-far_wrong early (map (walk names) (take i es)) (map (walk names) (drop (i + 1) es)) (walk names z) place joint r y m
        (subst (λ u. IsReached early (walk names z) true u r) n o) f
        (λ w l. lists.one-wrong early (map (walk names) (take i es)) (map (walk names) (drop (i + 1) es)) (walk names z) w
        (reached.none-alone early (walk names z) true w l)));
  }

  pub joint_all : (es : List Expr) (i place : ℕ) (joint : Option Bits) (word : Bits) → length es ≤ i → joint ≡ Some word →
      lists.IsSoFar early (map (walk names) (take i es)) joint →
      IsJoint early (map (walk names) es) place (Ok word)
  joint_all es i place joint word h e m = record {
    right = lists.so-far_all early (map (walk names) es) word
        (subst (λ us. lists.IsSoFar early (map (walk names) us) (Some word)) (lists.take-whole es i h)
        (subst (lists.IsSoFar early (map (walk names) (take i es))) e m));
    wrong = tt;
  }

  pub joint_none : (es : List Expr) (i place : ℕ) (joint : Option Bits) → length es ≤ i → joint ≡ None →
      lists.IsSoFar early (map (walk names) (take i es)) joint →
      IsJoint early (map (walk names) es) place (Err (x.Range place))
  joint_none es i place joint h e m = record {
    right = tt;
    wrong =
        lists.so-far_none early (map (walk names) es) place (subst (λ us. lists.IsSoFar early (map (walk names) us) None) (lists.take-whole es i h)
        (subst (lists.IsSoFar early (map (walk names) (take i es))) e m));
  }

-- ---- selects

single : (ss : List Select) (s : Select) → length ss ≡ 1 → s ≡ get_or ss 0 s → ss ≡ s ∷ []
single [] s h e = absurd (omega (arith, h))
single (t ∷ []) s h e = ap (λ u. u ∷ []) (sym e)
single (t ∷ (u ∷ us)) s h e = absurd (omega (arith, h))

module _ (early : Path → Bool) (names : Names) (path : Path) (c : Const) where
  own-one : (ss : List Select) (s : Select) (w : WalkStep) (q : Owned) → length ss ≡ 1 → s ≡ get_or ss 0 s → walk_select names s ≡ w →
      (names path ≡ Some (constant_of path.name c) → early path ≡ true → (joined : Bool) →
      IsOwn early (walk_step names (Expr-F.Name path (w ∷ []))) joined q) → IsOwnPick early names path c (map (walk_select names) ss) q
  own-one ss s w q h e k f = record {
    told = λ known ahead joined. subst (λ ws. IsOwn early (walk_step names (Expr-F.Name path ws)) joined q)
        (sym (ap (map (walk_select names)) (single ss s h e) ∙ ap (λ u. u ∷ []) k)) (f known ahead joined);
  }

  full-one : (ss : List Select) (s : Select) (w : WalkStep) (q : Valued) → length ss ≡ 1 → s ≡ get_or ss 0 s → walk_select names s ≡ w →
      (names path ≡ Some (constant_of path.name c) → early path ≡ true → (joined : Bool) →
      IsPlain early (walk_step names (Expr-F.Name path (w ∷ []))) joined q) → IsFullPick early names path c (map (walk_select names) ss) q
  full-one ss s w q h e k f = record {
    told = λ known ahead joined. subst (λ ws. IsPlain early (walk_step names (Expr-F.Name path ws)) joined q)
        (sym (ap (map (walk_select names)) (single ss s h e) ∙ ap (λ u. u ∷ []) k)) (f known ahead joined);
  }

  no-steps : (ss : List Select) → length ss ≡ 0 → map (walk_select names) ss ≡ []
  no-steps [] h = refl
  no-steps (s ∷ ss) h = absurd (omega (arith, h))

  pub own-whole : (ss : List Select) (o : Own) → length ss ≡ 0 → o ≡ whole_own c → IsSized c → IsOwnPick early names path c (map (walk_select names) ss) (Ok o)
  own-whole ss o h e z = record {
    told = λ known ahead joined. subst (λ ws. IsOwn early (walk_step names (Expr-F.Name path ws)) joined (Ok o)) (sym (no-steps ss h))
        (subst (λ u. IsOwn early (walk_step names (Expr-F.Name path [])) joined (Ok u)) (sym e) (plains.own-whole early names path c known ahead z joined));
  }

  pub full-whole : (ss : List Select) (o : Full) → length ss ≡ 0 → o ≡ whole_full c → IsSized c →
      IsFullPick early names path c (map (walk_select names) ss) (Ok o)
  full-whole ss o h e z = record {
    told = λ known ahead joined. subst (λ ws. IsPlain early (walk_step names (Expr-F.Name path ws)) joined (Ok o)) (sym (no-steps ss h))
        (subst (λ u. IsPlain early (walk_step names (Expr-F.Name path [])) joined (Ok u)) (sym e) (plains.full-whole early names path c known ahead z joined));
  }

  many : {valued : Bool} (ss : List Select) → 2 ≤ length ss → names path ≡ Some (constant_of path.name c) → (joined : Bool) →
      HasNone valued early (walk_step names (Expr-F.Name path (map (walk_select names) ss))) joined (x.Range path.place)
  many [] h known joined = absurd (omega (arith, h))
  many (s ∷ []) h known joined = absurd (omega (arith, h))
  many (s ∷ (t ∷ ss)) h known joined = plains.many early names path c (walk_select names s) (walk_select names t) (map (walk_select names) ss) known joined

  pub own-many : (ss : List Select) → 2 ≤ length ss → IsOwnPick early names path c (map (walk_select names) ss) (Err (x.Range path.place))
  own-many ss h = record { told = λ known ahead joined. record { right = tt; wrong = many ss h known joined } }

  pub full-many : (ss : List Select) → 2 ≤ length ss → IsFullPick early names path c (map (walk_select names) ss) (Err (x.Range path.place))
  full-many ss h = record { told = λ known ahead joined. record { right = tt; wrong = many ss h known joined } }

  pub own-Bit : (ss : List Select) (s : Select) (a b : Expr) (r q : Owned) → length ss ≡ 1 → s ≡ get_or ss 0 s → s ≡ select.Bit a → b ≡ a →
      IsOwn early (walk names b) false r → q ≡ bit_own r →
      IsOwnPick early names path c (map (walk_select names) ss) q
  own-Bit ss s a b r q h e k m g f = own-one ss s (Select-F.Bit (walk names a)) q h e (ap (walk_select names) k ∙ select-Bit names a)
      (λ known ahead joined. by (λ u. IsOwn early (walk_step names (Expr-F.Name path (Select-F.Bit (walk names a) ∷ []))) joined u) q (bit_own r) f
      (selects.own-bit early names path c known ahead joined (walk names a) r (subst (λ u. IsOwn early (walk names u) false r) m g)))

  pub own-Part : (ss : List Select) (s : Select) (a b : Expr) (r t : Valued) (q : Owned) → length ss ≡ 1 → s ≡ get_or ss 0 s → s ≡ select.Part a b →
      IsFull early (walk names a) false r →
      IsFull early (walk names b) false t → q ≡ part_own c path.place r t →
      IsOwnPick early names path c (map (walk_select names) ss) q
  own-Part ss s a b r t q h e k g i f = own-one ss s (Select-F.Part (walk names a) (walk names b)) q h e (ap (walk_select names) k ∙ select-Part names a b)
      (λ known ahead joined. by (λ u. IsOwn early (walk_step names (Expr-F.Name path (Select-F.Part (walk names a) (walk names b) ∷ []))) joined u) q
      (part_own c path.place r t) f
      (selects.own-part early names path c known ahead joined (walk names a) (walk names b) r t g i))

  pub own-Up : (ss : List Select) (s : Select) (a b d : Expr) (r : Owned) (t : Valued) (q : Owned) → length ss ≡ 1 → s ≡ get_or ss 0 s → s ≡ select.Up a b →
      d ≡ a →
      IsOwn early (walk names d) false r → IsFull early (walk names b) false t → q ≡ run_own path.place r t →
      IsOwnPick early names path c (map (walk_select names) ss) q
  own-Up ss s a b d r t q h e k m g i f = own-one ss s (Select-F.Up (walk names a) (walk names b)) q h e (ap (walk_select names) k ∙ select-Up names a b)
      (λ known ahead joined. by (λ u. IsOwn early (walk_step names (Expr-F.Name path (Select-F.Up (walk names a) (walk names b) ∷ []))) joined u) q
      (run_own path.place r t) f
      (selects.own-run early names path c known ahead joined true (walk names a) (walk names b) r t (subst (λ u. IsOwn early (walk names u) false r) m g) i))

  pub own-Down : (ss : List Select) (s : Select) (a b d : Expr) (r : Owned) (t : Valued) (q : Owned) → length ss ≡ 1 → s ≡ get_or ss 0 s →
      s ≡ select.Down a b → d ≡ a →
      IsOwn early (walk names d) false r → IsFull early (walk names b) false t → q ≡ run_own path.place r t →
      IsOwnPick early names path c (map (walk_select names) ss) q
  own-Down ss s a b d r t q h e k m g i f = own-one ss s (Select-F.Down (walk names a) (walk names b)) q h e (ap (walk_select names) k ∙ select-Down names a b)
      (λ known ahead joined. by (λ u. IsOwn early (walk_step names (Expr-F.Name path (Select-F.Down (walk names a) (walk names b) ∷ []))) joined u) q
      (run_own path.place r t) f
      (selects.own-run early names path c known ahead joined false (walk names a) (walk names b) r t (subst (λ u. IsOwn early (walk names u) false r) m g) i))

  pub full-Bit : (ss : List Select) (s : Select) (a : Expr) (r q : Valued) → length ss ≡ 1 → s ≡ get_or ss 0 s → s ≡ select.Bit a →
      IsFull early (walk names a) false r → q ≡ bit_full c r →
      IsFullPick early names path c (map (walk_select names) ss) q
  full-Bit ss s a r q h e k g f = full-one ss s (Select-F.Bit (walk names a)) q h e (ap (walk_select names) k ∙ select-Bit names a)
      (λ known ahead joined. by (λ u. IsPlain early (walk_step names (Expr-F.Name path (Select-F.Bit (walk names a) ∷ []))) joined u) q (bit_full c r) f
      (selects.value-bit early names path c known ahead joined (walk names a) r g))

  pub full-Part : (ss : List Select) (s : Select) (a b : Expr) (r t q : Valued) → length ss ≡ 1 → s ≡ get_or ss 0 s → s ≡ select.Part a b →
      IsFull early (walk names a) false r →
      IsFull early (walk names b) false t → q ≡ part_full c path.place r t → IsFullPick early names path c (map (walk_select names) ss) q
  full-Part ss s a b r t q h e k g i f = full-one ss s (Select-F.Part (walk names a) (walk names b)) q h e (ap (walk_select names) k ∙ select-Part names a b)
      (λ known ahead joined. by (λ u. IsPlain early (walk_step names (Expr-F.Name path (Select-F.Part (walk names a) (walk names b) ∷ []))) joined u) q
      (part_full c path.place r t) f
      (selects.value-part early names path c known ahead joined (walk names a) (walk names b) r t g i))

  pub full-Up : (ss : List Select) (s : Select) (a b : Expr) (r t q : Valued) → length ss ≡ 1 → s ≡ get_or ss 0 s → s ≡ select.Up a b →
      IsFull early (walk names a) false r →
      IsFull early (walk names b) false t → q ≡ up_full c path.place r t → IsFullPick early names path c (map (walk_select names) ss) q
  full-Up ss s a b r t q h e k g i f = full-one ss s (Select-F.Up (walk names a) (walk names b)) q h e (ap (walk_select names) k ∙ select-Up names a b)
      (λ known ahead joined. by (λ u. IsPlain early (walk_step names (Expr-F.Name path (Select-F.Up (walk names a) (walk names b) ∷ []))) joined u) q
      (up_full c path.place r t) f
      (selects.value-up early names path c known ahead joined (walk names a) (walk names b) r t g i))

  pub full-Down : (ss : List Select) (s : Select) (a b : Expr) (r t q : Valued) → length ss ≡ 1 → s ≡ get_or ss 0 s → s ≡ select.Down a b →
      IsFull early (walk names a) false r →
      IsFull early (walk names b) false t → q ≡ down_full c path.place r t → IsFullPick early names path c (map (walk_select names) ss) q
  full-Down ss s a b r t q h e k g i f = full-one ss s (Select-F.Down (walk names a) (walk names b)) q h e (ap (walk_select names) k ∙ select-Down names a b)
      (λ known ahead joined. by (λ u. IsPlain early (walk_step names (Expr-F.Name path (Select-F.Down (walk names a) (walk names b) ∷ []))) joined u) q
      (down_full c path.place r t) f
      (selects.value-down early names path c known ahead joined (walk names a) (walk names b) r t g i))
