-- The answer on a constant expression where it stands, from those of the calls on its width and its value.
use Rattle.std.proofs.Common.{◌≡◌, ◌≤◌, ◌+◌, arith, ℕ, max, Bool, true, List, sym, ap, ◌∙◌, subst, Ok, Err, Some}
use Rattle.lv_bits.specs.Words.{Bits}
use Rattle.lv_ast.specs.declared.expr.Expr.{Expr}
use Rattle.lv_source.specs.Names.{Here}
use Rattle.lv_source.specs.Meaning.{own_width, value_of}
use Rattle.lv_source.specs.Sites.{Site, Value, walk, first_place}
use Rattle.lv_const.specs.declared.error.ConstError.{ConstError}
use Rattle.lv_const.specs.Answers.{Told, Divides}
use Rattle.lv_const.specs.Public.{IsOwnOf, IsOwnRefusal, IsValueOf, IsValueRefusal}
use Rattle.lv_const.proofs.Told.{told-too}
use Rattle.lv_const.proofs.WalkReads.{walk-reads}
use Rattle.lv_scopes.specs.Numbers.{IsNumberAnswer}

again : (l w n : ℕ) → w ≡ n → max (max l w) n ≡ max l w
again l w n h = omega (arith, h)

pub wide : (n m l r : ℕ) → m ≡ n → r ≡ max l m → n ≤ r
wide n m l r h e = omega (arith, h, e)

pub some : (m l r : ℕ) → 1 ≤ m → r ≡ max l m → 1 ≤ r
some m l r h e = omega (arith, h, e)

pub most : (m l r : ℕ) → m ≤ 128 → l ≤ 128 → r ≡ max l m → r ≤ 128
most m l r h k e = omega (arith, h, k, e)

pub inside : (l n w : ℕ) → w ≡ max l n → 0 + l ≤ w
inside l n w h = omega (arith, h)

module _ (here : Here) (x : Expr) (least w : ℕ) (s : Bool) (o : IsOwnOf here x w s) where
  reaches : max least w ≡ max least (walk here.names x).shown.reading.meaning.width
  reaches = ap (max least) (o.width ∙ sym (ap (λ r. r.meaning.width) (walk-reads here.names x)))

  types : s ≡ (walk here.names x).shown.reading.meaning.signed
  types = o.signed ∙ sym (ap (λ r. r.meaning.signed) (walk-reads here.names x))

  abbrev at : ℕ → Bool → List Site
  at n b = (walk here.names x).sites Value (Some (first_place (walk here.names x).shown)) n b

  pub number_right : (word : Bits) → IsValueOf here x (max least w) s word → IsNumberAnswer here least x (Ok (record { word = word; signed = s }))
  number_right word v = record {
    right = record {
      width = v.width ∙ ap (max least) o.width;
      signed = o.signed;
      value = λ u. v.value u ∙ ap (λ n. value_of here.names x n s u) (sym v.width);
      constant = o.constant;
      clean = record {
        sound = o.sound _ _ _;
        divides = subst (λ n. Divides (at n (walk here.names x).shown.reading.meaning.signed))
            reaches
            (subst (λ b. Divides (at (max least w) b)) types (v.divides _));
      };
    };
    wrong = tt;
  }

  pub number_wrong : (y : ConstError) → IsValueRefusal here x (max least w) s y → IsNumberAnswer here least x (Err y)
  number_wrong y v = record {
    right = tt;
    wrong = subst (λ n. Told here.early (at n (walk here.names x).shown.reading.meaning.signed) y)
        (again least w (own_width here.names x) o.width ∙ reaches)
        (subst (λ b. Told here.early (at (max (max least w) (own_width here.names x)) b) y)
        types (v.told _));
  }

pub number_none : (here : Here) (x : Expr) (least : ℕ) (y : ConstError) → IsOwnRefusal here x y → IsNumberAnswer here least x (Err y)
number_none here x least y o = record { right = tt; wrong = told-too here.early true _ y (o.told _ _ _) }
