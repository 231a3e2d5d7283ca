-- The answers of the public calls, from those of the functions that go over a tree.
use Rattle.std.proofs.Common.{◌≡◌, ℕ, max, arith, ◌≤◌, Bool, true, false, ap, ◌∙◌, sym, subst, refl, Ok, Err, None}
use Rattle.lv_ast.specs.declared.expr.Path.{Path}
use Rattle.lv_ast.specs.declared.expr.Expr.{Expr}
use Rattle.lv_source.specs.Names.{Names, Here}
use Rattle.lv_source.specs.Meaning.{own_width}
use Rattle.lv_const.specs.declared.own.Own.{Own}
use Rattle.lv_const.specs.declared.full.Full.{Full}
use Rattle.lv_const.specs.declared.error.ConstError.{ConstError}
use Rattle.lv_source.specs.Sites.{Value, walk, is_absent}
use Rattle.lv_const.specs.Answers.{Told, Divides, HasOwn, HasNoOwn, HasReached, HasNoReached}
use Rattle.lv_const.specs.Public.{IsOwnAnswer, IsValueAnswer}
use Rattle.lv_const.proofs.Told.{told-all}
use Rattle.lv_const.proofs.WalkReads.{walk-reads}

same-width : (names : Names) (x : Expr) → (walk names x).shown.reading.meaning.width ≡ own_width names x
same-width names x = ap (λ r. r.meaning.width) (walk-reads names x)

most : (m n : ℕ) → m ≤ n → max m n ≡ n
most m n h = omega (arith, h)

within : (m n w : ℕ) → w ≡ max m n → w ≡ n → m ≤ n
within m n w h k = omega (arith, h, k)

turned : (m n : ℕ) → max m n ≡ max n m
turned m n = omega arith

pub value_width : (early : Path → Bool) (names : Names) (x : Expr) (W : ℕ) (T : Bool) (f : Full) → own_width names x ≤ W →
    HasReached early (walk names x) false (record { least = W; signed = T; fixed = true }) f → f.word.width ≡ W
value_width early names x W T f m h = h.width ∙ (ap (λ n. max n W) (same-width names x) ∙ most (own_width names x) W m)

module _ (here : Here) (x : Expr) where
  pub own_right : (o : Own) → HasOwn here.early (walk here.names x) false o → IsOwnAnswer here x (Ok (o.width, o.signed))
  own_right o h = record {
    right = record {
      width = h.width ∙ same-width here.names x;
      signed = h.signed ∙ ap (λ r. r.meaning.signed) (walk-reads here.names x);
      some = h.some;
      most = h.most;
      constant = sym (ap (λ r. r.constant) (walk-reads here.names x)) ∙ h.constant;
      sound = λ fixed W T. (h.sound fixed W T).sound;
      counted = λ W T. (h.sound None W T).counted refl;
    };
    wrong = tt;
  }

  pub own_wrong : (y : ConstError) → HasNoOwn here.early (walk here.names x) false y → IsOwnAnswer here x (Err y)
  own_wrong y h = record { right = tt; wrong = record { told = h.told } }

  pub value_right : (W : ℕ) (T : Bool) (f : Full) → f.word.width ≡ W →
      HasReached here.early (walk here.names x) false (record { least = W; signed = T; fixed = true }) f →
      IsValueAnswer here x W T (Ok f.word)
  value_right W T f e h = record {
    right = record {
      width = e;
      wide = within (own_width here.names x) W f.word.width (h.width ∙ ap (λ n. max n W) (same-width here.names x)) e;
      value = λ v. h.value.is v ∙ (ap (λ n. (walk here.names x).shown.reading.meaning.value n f.signed v) e ∙
          (ap (λ b. (walk here.names x).shown.reading.meaning.value W b v) h.signed ∙ ap (λ r. r.meaning.value W T v) (walk-reads here.names x)));
      divides = λ fixed. subst (λ b. Divides ((walk here.names x).sites Value fixed W b)) h.signed
          (subst (λ n. Divides ((walk here.names x).sites Value fixed n f.signed)) e (h.value.divides false fixed));
    };
    wrong = tt;
  }

  pub value_wrong : (W : ℕ) (T : Bool) (y : ConstError) → HasNoReached here.early (walk here.names x) false
      (record { least = W; signed = T; fixed = true }) y → IsValueAnswer here x W T (Err y)
  value_wrong W T y h = record {
    right = tt;
    wrong = record {
      told = λ fixed. subst (λ n. Told here.early ((walk here.names x).sites Value fixed n T) y)
          (ap (λ n. max n W) (same-width here.names x) ∙ turned (own_width here.names x) W)
          (told-all here.early (is_absent fixed) _ y (h.told fixed));
    };
  }
