-- The answer on an expression where it stands, from that on its tree.
use Rattle.std.proofs.Common.{◌≡◌, ℕ, max, Bool, true, false, None, List, [], ◌++◌, ap, ◌∙◌, sym, subst, refl, flat_map, arith, Ok, Err, Result}
use Rattle.lv_ast.specs.declared.expr.Expr.{Expr}
use Rattle.lv_source.specs.Names.{Here}
use Rattle.lv_source.specs.Meaning.{Reading, own_width}
use Rattle.lv_source.specs.Sites.{Site, Spot, Value, Walk, walk, spots, expr_sites}
use Rattle.lv_source.specs.NodeRules.{unknown_name, zero_divisor, out_of_range}
use Rattle.lv_source.specs.Faults.{site_faults}
use Rattle.lv_source.specs.Legal.{UnknownName, NotConstant, ZeroDivisor, Range, ClockUse}
use Rattle.lv_const.proofs.WalkReads.{walk-reads}
use Rattle.lv_flat.specs.Signals.{Signals}
use Rattle.lv_flat.specs.Judged.{judge, reading, is_good}
use Rattle.lv_resolve.specs.declared.error.ResolveError.{ResolveError}
use Rattle.lv_resolve.specs.declared.error.ResolveError.TheVariants as x
use Rattle.lv_resolve.specs.declared.operand.Operand.{Operand}
use Rattle.lv_resolve.specs.declared.form.Divisor.{Divisor}
use Rattle.lv_resolve.specs.declared.form.Notes.{Notes}
use Rattle.lv_resolve.specs.declared.form.Form.{Form}
use Rattle.lv_resolve.specs.declared.resolved.Resolved.{Resolved}
use Rattle.lv_resolve.specs.declared.typed.OwnType.{OwnType}
use Rattle.lv_resolve.proofs.Tops.{literal-is, extends-is}
use Rattle.lv_resolve.specs.Forms.{Sites, flaws, unfixed_at, Tells, Told, AreDivisors, AreClosed, HasForm, HasNoForm, wide, read_sites, has_operands}
use Rattle.lv_resolve.specs.Resolved.{AreFaultless, IsToldOf, IsResolved, ResolveAnswer, HasReached, ReachedAnswer, sites_at, TakenAnswer, TypeAnswer}
use Rattle.lv_resolve.proofs.Covers.{first-empty, second-empty, in-same, wider}
use Rattle.lv_resolve.proofs.Zeros.{each-empty, all-empty, zeroed-told}
use Rattle.lv_resolve.proofs.FixedLaws.{spotted}
use Rattle.lv_resolve.proofs.Settles.{moved-divisors, moved-zeroed, moved-closed}

module _ (S : Signals) (here : Here) (sites : Sites) (w : Walk) (ok : Bool) (f : Form) (o : Operand) (n : Notes) (ds : List Divisor) (width W : ℕ) (T : Bool)
    (p : o ≡ f.operand) (q : n ≡ f.notes) (d : ds ≡ n.divisors) (u : W ≡ max width o.width) (h : HasForm S here sites (wide w) w ok f) where
  width-is : W ≡ max width (wide w)
  width-is = u ∙ ap (max width) (ap (λ z. z.width) p ∙ h.operand.width)

  divisors-are : ds ≡ f.notes.divisors
  divisors-are = d ∙ ap (λ z. z.divisors) q

  pub reaching : AreDivisors here.names W ds
  reaching = moved-divisors here W (max width (wide w)) ds f.notes.divisors width-is divisors-are
      (wider here.names (wide w) (max width (wide w)) f.notes.divisors (omega arith) h.cover.divisors)

  abbrev there : List Site
  there = sites (max width (wide w)) T

  pub reached-wrong : (e : ResolveError) → AreClosed here.names W T ds (Err e) → ReachedAnswer S here there w ok (Err e)
  reached-wrong e k = record {
    right = tt;
    wrong = zeroed-told here sites (wide w) f.notes.clocks f.notes.divisors (max width (wide w)) T e h.cover
        (moved-zeroed here W (max width (wide w)) T T ds f.notes.divisors e width-is refl divisors-are k.wrong);
  }

  pub reached-right : (r : Resolved) → AreClosed here.names W T ds (Ok tt) → r.expr ≡ o.expr → r.clocks ≡ n.clocks → ReachedAnswer S here there w ok (Ok r)
  reached-right r k a b = record {
    right = record {
      same = ap (reading S) (a ∙ ap (λ z. z.expr) p) ∙ h.operand.same;
      literal = ap (λ z. (judge S z).literal) (a ∙ ap (λ z. z.expr) p) ∙ h.operand.literal;
      extends = ap (λ z. (judge S z).extends) (a ∙ ap (λ z. z.expr) p) ∙ h.operand.extends;
      good = λ z. ap (is_good S) (a ∙ ap (λ z. z.expr) p) ∙ h.operand.good z;
      clean = h.cover.clean _ _;
      zero = h.cover.none _ _
          (moved-closed here W (max width (wide w)) T T ds f.notes.divisors width-is refl divisors-are k).right;
      clocks = h.cover.clocks _ _ ∙ sym (b ∙ ap (λ z. z.clocks) q);
    };
    wrong = tt;
  }

-- ---- as the definitions have it

none-each : (here : Here) (f : Site → List ℕ) (g : Spot → List ℕ) (ss : List Site) → ((s : Site) → g (record { early = here.early; site = s }) ≡ f s) →
    ((s : Site) → flaws here s ≡ [] → f s ≡ []) → flat_map (flaws here) ss ≡ [] → flat_map g (spots here ss) ≡ []
none-each here f g ss e k h = spotted here g ss ∙ all-empty (λ s. g (record { early = here.early; site = s })) ss
    (λ s c. e s ∙ k s (each-empty (flaws here) ss s h c))

module _ (here : Here) where
  no-name : (s : Site) → flaws here s ≡ [] → unknown_name s ≡ []
  no-name s h = first-empty (unknown_name s) (unfixed_at here s) (first-empty (unknown_name s ++ unfixed_at here s) (out_of_range s) h)

  no-unfixed : (s : Site) → flaws here s ≡ [] → unfixed_at here s ≡ []
  no-unfixed s h = second-empty (unknown_name s) (unfixed_at here s) (first-empty (unknown_name s ++ unfixed_at here s) (out_of_range s) h)

  no-range : (s : Site) → flaws here s ≡ [] → out_of_range s ≡ []
  no-range s h = second-empty (unknown_name s ++ unfixed_at here s) (out_of_range s) h

  pub faultless : (ss : List Site) → flat_map (flaws here) ss ≡ [] → flat_map zero_divisor ss ≡ [] → AreFaultless (spots here ss)
  faultless ss h k = record {
    unknown = none-each here unknown_name (site_faults UnknownName) ss (λ s. refl) no-name h;
    unfixed = none-each here (unfixed_at here) (site_faults NotConstant) ss (λ s. refl) no-unfixed h;
    zero = spotted here (site_faults ZeroDivisor) ss ∙ k;
    range = none-each here out_of_range (site_faults Range) ss (λ s. refl) no-range h;
  }

  pub told-of : (ss : List Site) (e : ResolveError) → Tells here ss e → IsToldOf (spots here ss) e
  told-of ss (x.UnknownName p) h = in-same _ _ p (sym (spotted here (site_faults UnknownName) ss)) h
  told-of ss (x.NotConstant p) h = in-same _ _ p (sym (spotted here (site_faults NotConstant) ss)) h
  told-of ss (x.ZeroDivisor p) h = in-same _ _ p (sym (spotted here (site_faults ZeroDivisor) ss)) h
  told-of ss (x.Range p) h = in-same _ _ p (sym (spotted here (site_faults Range) ss)) h
  told-of ss x.NoMemory h = h

  pub answer-none : (S : Signals) (width : ℕ) (z : Expr) (e : ResolveError) → HasNoForm here (read_sites false (walk here.names z)) e → ResolveAnswer S here width z (Err e)
  answer-none S width z e h = record { right = tt; wrong = told-of (expr_sites false here.names width z) e (h.told _ _).found }

  resolved : (S : Signals) (ss : List Site) (z : Expr) (r : Resolved) → HasReached S here ss (walk here.names z) (has_operands z) r → IsResolved S here (spots here ss) z r
  resolved S ss z r h = record {
    same = h.same ∙ walk-reads here.names z;
    literal = h.literal ∙ literal-is here.names z;
    extends = h.extends ∙ extends-is here.names z;
    good = h.good;
    faultless = faultless ss h.clean h.zero;
    clocks = spotted here (site_faults ClockUse) ss ∙ h.clocks;
  }

  -- at its own sign
  pub answer : (S : Signals) (width : ℕ) (z : Expr) (T : Bool) (r : Result Resolved ResolveError) → T ≡ (walk here.names z).shown.reading.meaning.signed →
      ReachedAnswer S here ((walk here.names z).sites Value None (max width (wide (walk here.names z))) T) (walk here.names z) (has_operands z) r → ResolveAnswer S here width z r
  answer S width z T (Ok r) e h = record {
    right = resolved S (expr_sites false here.names width z) z r
        (subst (λ t. HasReached S here ((walk here.names z).sites Value None (max width (wide (walk here.names z))) t) (walk here.names z) (has_operands z) r) e h.right);
    wrong = tt;
  }
  answer S width z T (Err y) e h = record {
    right = tt;
    wrong = told-of (expr_sites false here.names width z) y
        (subst (λ t. Told here ((walk here.names z).sites Value None (max width (wide (walk here.names z))) t) y) e h.wrong).found;
  }

  -- at any
  wide-is : (z : Expr) → wide (walk here.names z) ≡ own_width here.names z
  wide-is z = ap (λ (r : Reading). r.meaning.width) (walk-reads here.names z)

  pub taken : (S : Signals) (width : ℕ) (T : Bool) (z : Expr) (r : Result Resolved ResolveError) →
      ReachedAnswer S here ((walk here.names z).sites Value None (max width (wide (walk here.names z))) T) (walk here.names z) (has_operands z) r → TakenAnswer S here width T z r
  taken S width T z (Ok r) h = record {
    right = resolved S (sites_at here.names (max width (own_width here.names z)) T z) z r
        (subst (λ n. HasReached S here ((walk here.names z).sites Value None (max width n) T) (walk here.names z) (has_operands z) r) (wide-is z) h.right);
    wrong = tt;
  }
  taken S width T z (Err y) h = record {
    right = tt;
    wrong = told-of (sites_at here.names (max width (own_width here.names z)) T z) y
        (subst (λ n. Told here ((walk here.names z).sites Value None (max width n) T) y) (wide-is z) h.wrong).found;
  }

  pub taken-none : (S : Signals) (width : ℕ) (T : Bool) (z : Expr) (y : ResolveError) → HasNoForm here (read_sites false (walk here.names z)) y → TakenAnswer S here width T z (Err y)
  taken-none S width T z y h = record { right = tt; wrong = told-of (sites_at here.names (max width (own_width here.names z)) T z) y (h.told _ _).found }

  pub typed : (S : Signals) (s : Sites) (z : Expr) (ok : Bool) (f : Form) (t : OwnType) → HasForm S here s (wide (walk here.names z)) (walk here.names z) ok f →
      t.width ≡ f.operand.width → t.signed ≡ f.operand.signed → TypeAnswer here z (Ok t)
  typed S s z ok f t h a b = record {
    right = record {
      width = a ∙ (h.operand.width ∙ wide-is z);
      signed = b ∙ (h.operand.signed ∙ ap (λ (r : Reading). r.meaning.signed) (walk-reads here.names z));
    };
    wrong = tt;
  }

  pub untyped : (z : Expr) (y : ResolveError) → HasNoForm here (read_sites false (walk here.names z)) y → TypeAnswer here z (Err y)
  untyped z y h = record { right = tt; wrong = record { told = λ W T. told-of (sites_at here.names W T z) y (h.told W T).found } }
