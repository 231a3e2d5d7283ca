-- Concatenations, replications, divisions, choices and literals, from what is known of their operands.
use Rattle.std.proofs.Common.{◌≡◌, ℕ, ◌+◌, ◌*◌, ◌≤◌, ◌<◌, max, Bool, true, false, not, ◌&&◌, ◌||◌, ◌==◌, if◌then◌else◌, List, [], ◌∷◌, ◌++◌, ap, ◌∙◌, sym, subst, refl, flat_map, map, length, take, drop, get_or, arith, inl, inr, Ok, Err, Result, None, Some}
use Rattle.std.specs.Prelude.{IfOk, IfErr, nat_lt, pos}
use Rattle.lv_bits.specs.Values.{signed_of}
use Rattle.std.specs.List.{Contains, list_all}
use Rattle.std.proofs.lemmas.List.{take_more, map-append}
use Rattle.std.proofs.lemmas.Grind.{flat_map-append}
use Rattle.std.proofs.lemmas.List.Elements.{Contains-append_left, Contains-append_right, Contains-append_cases}
use Rattle.lv_ast.specs.declared.expr.Literal.{Literal}
use Rattle.lv_ast.specs.declared.expr.Expr.{Expr}
use Rattle.lv_ast.specs.declared.expr.Expr.TheOpen.{Expr-F}
use Rattle.lv_source.specs.Names.{Names, Here}
use Rattle.lv_source.specs.Values.{size_of, nowhere, own_value}
use Rattle.lv_source.specs.Meaning.{Reading}
use Rattle.lv_source.specs.Sites.{Site, Value, Joined, Walk, WalkStep, walk, walk_step, below_sites, own_sites, fixed_sites, first_of, first_place}
use Rattle.lv_source.specs.NodeRules.{is_width, is_literal_fault, is_positive, number, zero_division, clock_use, zero_divisor}
use Rattle.lv_source.proofs.Bridges.{two}
use Rattle.lv_const.specs.Answers.{read_role, total_width}
use Rattle.lv_const.proofs.Told.{both-empty}
use Rattle.lv_const.proofs.Numbers.{split}
use Rattle.lv_const.proofs.Owns.{site_of}
use Rattle.lv_const.proofs.Leaves.{joins, count-positive, shown-widths, wrong-or, not-false}
use Rattle.lv_const.proofs.Lists.{take-whole, parted}
use Rattle.lv_scopes.specs.declared.number.Number.{Number}
use Rattle.lv_flat.specs.declared.expr.FlatExpr.{FlatExpr}
use Rattle.lv_flat.specs.declared.expr.FlatExpr.TheVariants as e
use Rattle.lv_flat.specs.declared.expr.FlatExpr.TheOpen.{FlatExpr-F}
use Rattle.lv_flat.specs.Signals.{Signals}
use Rattle.lv_flat.specs.Judged.{judge, reading, is_good}
use Rattle.lv_flat.proofs.Judgements.{judge-Lit, judge-Div, judge-Rem, judge-Cond, judge-Cat, judge-Rep}
use Rattle.lv_flat.proofs.ReadAlike as alike
use Rattle.lv_resolve.specs.declared.error.ResolveError.{ResolveError}
use Rattle.lv_resolve.specs.declared.error.ResolveError.TheVariants as x
use Rattle.lv_resolve.specs.declared.form.Divisor.{Divisor}
use Rattle.lv_resolve.specs.declared.form.Form.{Form}
use Rattle.lv_resolve.specs.declared.form.Pair.{Pair}
use Rattle.lv_resolve.specs.declared.form.Parts.{Parts}
use Rattle.lv_resolve.specs.Forms.{flaws, Told, Covered, AreDivisors, IsDivisor, zeros_at, HasOperand, HasForm, HasNoForm, HasPair, HasParts, PartsAnswer, IsFixed, read_sites, operand_sites, wide, both_sites, both_width, joined_all, member_sites}
use Rattle.lv_resolve.specs.Picks.{copies_of, is_low}
use Rattle.lv_resolve.specs.Joins.{IsDivision, IsNoDivision, IsChoice, IsMore, IsConcatenation, IsTooWide, IsRepetition, IsCounted, IsUncounted, IsLiteral, IsNoLiteral, is_sound_literal}
use Rattle.lv_resolve.proofs.Covers.{Within, within-same, within-first, within-second, within-below, within-then, told-range, told-unfixed, IsQuiet, covered-nothing, covered-same, covered-both, covered-node, nowhere-in, in-same, first-empty, second-empty, both-divisors}
use Rattle.lv_resolve.proofs.Nodes.{and-both, and-left, and-right, and-true, good-by, has-operand, operand-width, memory-none, none-within, node-none, Answered}
use Rattle.lv_resolve.proofs.Zeros.{single, sound-of}
use Rattle.lv_resolve.proofs.Steady.{constant-steady}

module _ (S : Signals) (here : Here) (joined : Bool) where
  abbrev node : Expr-F Walk WalkStep → Walk
  node n = walk_step here.names n

  -- ---- literals

  lit-quiet : (l : Literal) → is_sound_literal l joined ≡ true → (W : ℕ) (T : Bool) → IsQuiet here (site_of here.names (Expr-F.Lit l) (read_role joined) None W T)
  lit-quiet l h W T =
      let a : is_width (size_of l.size) ≡ true = and-left (is_width (size_of l.size)) (not (is_literal_fault (read_role joined) l)) h in
      let b : is_literal_fault (read_role joined) l ≡ false = not-false _ (and-right (is_width (size_of l.size)) (not (is_literal_fault (read_role joined) l)) h) in
      record { clean = rw (a, b) refl; clock = refl; zero = refl }

  pub lit-answer : (l : Literal) (r : Result Form ResolveError) → IfOk r (IsLiteral l joined) → IfErr r (IsNoLiteral l joined) → Answered S here joined (Expr-F.Lit l) true r
  lit-answer l (Ok f) h k = record {
    right = record {
      operand = has-operand S (e.Lit l) (node (Expr-F.Lit l)) true _ _ _ f.operand h.tree (alike.alike-Lit S here.names l) refl refl refl
          (λ i m. good-by S (e.Lit l) (FlatExpr-F.Lit l) (judge-Lit S l) m refl) (FlatExpr-F.Lit l) (judge-Lit S l) refl refl;
      cover = covered-same here _ _ _ _ _ _ _ _ (λ W T. refl) (omega arith) (sym h.notes.clocks) (sym h.notes.divisors)
          (covered-node here (Expr-F.Lit l) (read_role joined) 0 [] [] (lit-quiet l h.sound) (covered-nothing here 0));
    };
    wrong = tt;
  }
  lit-answer l (Err y) h k = record {
    right = tt;
    wrong = subst (HasNoForm here (read_sites joined (node (Expr-F.Lit l)))) (sym k.1) (record {
      told = λ W T. told-range here (site_of here.names (Expr-F.Lit l) (read_role joined) None W T) [] l.place []
          (rw (wrong-or (is_width (size_of l.size)) (is_literal_fault (read_role joined) l) k.0) refl);
    });
  }

  -- ---- choices

  pub cond-answer : (c a b : Walk) (okc oka okb : Bool) (fc fa fb : Form) (r : Result Form ResolveError) → HasForm S here (operand_sites true c) 0 c okc fc →
      HasForm S here (operand_sites false a) (wide a) a oka fa → HasForm S here (operand_sites false b) (wide b) b okb fb → IfOk r (IsChoice fc fa fb) →
      IfErr r (λ y. y ≡ x.NoMemory) → Answered S here joined (Expr-F.Cond c a b) (okc && (oka && okb)) r
  cond-answer c a b okc oka okb fc fa fb (Err y) g h i j m = record { right = tt; wrong = memory-none here (read_sites joined (node (Expr-F.Cond c a b))) y m }
  cond-answer c a b okc oka okb fc fa fb (Ok f) g h i j m =
      let y : FlatExpr = e.Cond fc.operand.expr fa.operand.expr fb.operand.expr in
      let n : Walk = node (Expr-F.Cond c a b) in
      let ok : Bool = okc && (oka && okb) in
      let o : HasOperand S n ok f.operand =
      has-operand S y n ok _ _ _ f.operand j.tree
      (alike.alike-Cond S here.names fc.operand.expr fa.operand.expr fb.operand.expr c.shown.reading a.shown.reading b.shown.reading g.operand.same h.operand.same i.operand.same)
      (two (λ (p q : ℕ). max p q) _ _ _ _ h.operand.width i.operand.width) (two (λ (p q : Bool). p && q) _ _ _ _ h.operand.signed i.operand.signed)
      (two (λ (p q : Bool). p && q) _ _ _ _ g.operand.constant (two (λ (p q : Bool). p && q) _ _ _ _ h.operand.constant (i.operand.constant ∙ and-true b.shown.reading.constant)))
      (λ k m. good-by S y (FlatExpr-F.Cond (judge S fc.operand.expr) (judge S fa.operand.expr) (judge S fb.operand.expr))
      (judge-Cond S fc.operand.expr fa.operand.expr fb.operand.expr) m
      (and-both _ _ (g.operand.good (and-left okc (oka && okb) k)) (and-both _ _ (h.operand.good (and-left oka okb (and-right okc (oka && okb) k)))
      (i.operand.good (and-right oka okb (and-right okc (oka && okb) k))))))
      (FlatExpr-F.Cond (judge S fc.operand.expr) (judge S fa.operand.expr) (judge S fb.operand.expr))
      (judge-Cond S fc.operand.expr fa.operand.expr fb.operand.expr) refl refl in
      let fits : is_width (wide n) ≡ true = operand-width S n ok f.operand o in
      record {
        right = record {
          operand = o;
          cover = covered-same here _ _ _ _ _ _ _ _ (λ W T. refl) (omega arith) (sym j.notes.clocks) (sym j.notes.divisors)
              (covered-node here (Expr-F.Cond c a b) (read_role joined) (wide n) _ _ (λ W T. record { clean = rw fits refl; clock = refl; zero = refl })
              (covered-both here (λ W T. operand_sites true c W T ++ operand_sites false a W T) (operand_sites false b) (wide n) _ _ _ _
              (covered-both here (operand_sites true c) (operand_sites false a) (wide n) _ _ _ _
              (covered-same here _ _ _ _ _ _ _ _ (λ W T. refl) (omega arith) refl refl g.cover)
              (covered-same here _ _ _ _ _ _ _ _ (λ W T. refl) (omega arith) refl refl h.cover))
              (covered-same here _ _ _ _ _ _ _ _ (λ W T. refl) (omega arith) refl refl i.cover)));
        };
        wrong = tt;
      }

  pub cond-first : (c a b : Walk) (ok : Bool) (y : ResolveError) → HasNoForm here (operand_sites true c) y → Answered S here joined (Expr-F.Cond c a b) ok (Err y)
  cond-first c a b ok y h = record {
    right = tt;
    wrong = node-none here (Expr-F.Cond c a b) (read_role joined) (operand_sites true c) y
        (λ W T. within-then _ _ _ (within-first (operand_sites true c W T) (a.sites Value None W T)) (within-first _ (b.sites Value None W T))) h;
  }

  pub cond-second : (c a b : Walk) (ok : Bool) (y : ResolveError) → HasNoForm here (operand_sites false a) y → Answered S here joined (Expr-F.Cond c a b) ok (Err y)
  cond-second c a b ok y h = record {
    right = tt;
    wrong = node-none here (Expr-F.Cond c a b) (read_role joined) (operand_sites false a) y
        (λ W T. within-then _ _ _ (within-second (operand_sites true c W T) (a.sites Value None W T)) (within-first _ (b.sites Value None W T))) h;
  }

  pub cond-third : (c a b : Walk) (ok : Bool) (y : ResolveError) → HasNoForm here (operand_sites false b) y → Answered S here joined (Expr-F.Cond c a b) ok (Err y)
  cond-third c a b ok y h = record {
    right = tt;
    wrong = node-none here (Expr-F.Cond c a b) (read_role joined) (operand_sites false b) y
        (λ W T. within-second (operand_sites true c W T ++ a.sites Value None W T) (b.sites Value None W T)) h;
  }

-- ---- divisions

width-there : (n : ℕ) → is_width n ≡ true → n ≡ 0 → ⊥
width-there n h k = let z : false ≡ true = ap is_width (sym k) ∙ h in cc

zeros-last : (names : Names) (W : ℕ) (T : Bool) (ds : List Divisor) (d : Divisor) → flat_map (zeros_at names W T) (ds ++ d ∷ []) ≡
    flat_map (zeros_at names W T) ds ++ (zeros_at names W T d ++ [])
zeros-last names W T ds d = flat_map-append (zeros_at names W T) ds (d ∷ [])

not-taken : (b : Bool) (p : ℕ) → (if b then p ∷ [] else []) ≡ [] → b ≡ false
not-taken true p h = cc
not-taken false p h = refl

and-false : (b : Bool) → b && false ≡ false
and-false true = refl
and-false false = refl

zero-none : (a b : Walk) (W : ℕ) (T : Bool) → (b.shown.reading.meaning.value W T nowhere == 0) ≡ false → zero_division a.shown b.shown W T ≡ []
zero-none a b W T h = rw (h, and-false b.shown.reading.constant) refl

zero-here : (a b : Walk) (W : ℕ) (T : Bool) → b.shown.reading.constant ≡ true → (b.shown.reading.meaning.value W T nowhere == 0) ≡ true →
    zero_division a.shown b.shown W T ≡ first_of (a.shown.places ++ b.shown.places) ∷ first_place b.shown ∷ []
zero-here a b W T c h = rw (c, h) refl

taken-zero : (b : Bool) (p q : ℕ) → Contains (if b then p ∷ [] else []) q → (b ≡ true) × (p ≡ q)
taken-zero true p q h = (refl, single p q h)
taken-zero false p q h = absurd (nowhere-in q h)

-- the nodes of both operands and the division over them, with its divisor
module _ (here : Here) (a b : Walk) (bx : Expr) (place : ℕ) (site : ℕ → Bool → Site) (e : walk here.names bx ≡ b) (p : place ≡ first_place b.shown)
    (c : b.shown.reading.constant ≡ true) (z : (W : ℕ) (T : Bool) → zero_divisor (site W T) ≡ zero_division a.shown b.shown W T)
    (some : both_width a b ≡ 0 → ⊥) (q : (W : ℕ) (T : Bool) → flaws here (site W T) ≡ []) (k : (W : ℕ) (T : Bool) → clock_use (site W T) ≡ []) where
  abbrev divisor : Divisor
  divisor = record { expr = bx; place = place }

  module _ (cs : List ℕ) (ds : List Divisor) (h : Covered here (both_sites a b) (both_width a b) cs ds) where
    division-divisor : IsDivisor here.names (both_width a b) divisor
    division-divisor = record {
      narrow = omega (arith, ap wide e);
      sound = λ W T. sound-of here ((walk here.names bx).sites Value None W T)
          (subst (λ w. flat_map (flaws here) (w.sites Value None W T) ≡ []) (sym e)
          (second-empty (flat_map (flaws here) (a.sites Value None W T)) _ (sym (flat_map-append (flaws here) (a.sites Value None W T) (b.sites Value None W T)) ∙ h.clean W T)))
          (constant-steady here.names bx (ap (λ w. w.shown.reading.constant) e ∙ c) Value None W T);
    }

    one-divisor : AreDivisors here.names (both_width a b) (divisor ∷ [])
    one-divisor = record { each = λ d m. subst (IsDivisor here.names (both_width a b)) (single divisor d m) division-divisor }

    division-none : (W : ℕ) (T : Bool) → flat_map (zeros_at here.names W T) (ds ++ divisor ∷ []) ≡ [] → flat_map zero_divisor (site W T ∷ both_sites a b W T) ≡ []
    division-none W T m =
        let n : flat_map (zeros_at here.names W T) ds ++ (zeros_at here.names W T divisor ++ []) ≡ [] = sym (zeros-last here.names W T ds divisor) ∙ m in
        let i : zeros_at here.names W T divisor ≡ [] = first-empty (zeros_at here.names W T divisor) [] (second-empty (flat_map (zeros_at here.names W T) ds) _ n) in
        let j : ((walk here.names bx).shown.reading.meaning.value W T nowhere == 0) ≡ false =
        not-taken ((walk here.names bx).shown.reading.meaning.value W T nowhere == 0) place (first-empty _ _ i) in
        both-empty (zero_divisor (site W T)) (flat_map zero_divisor (both_sites a b W T))
        (z W T ∙ zero-none a b W T (ap (λ w. w.shown.reading.meaning.value W T nowhere == 0) (sym e) ∙ j))
        (h.none W T (first-empty (flat_map (zeros_at here.names W T) ds) _ n))

    in-divisor : (W : ℕ) (T : Bool) (r : ℕ) → Contains (zeros_at here.names W T divisor) r → Contains (flat_map zero_divisor (site W T ∷ both_sites a b W T)) r
    in-divisor W T r m = elim (Contains-append_cases (if (walk here.names bx).shown.reading.meaning.value W T nowhere == 0 then place ∷ [] else [])
        (flat_map zero_divisor ((walk here.names bx).sites Value None W T)) r m) [
          | inl n ↦
              let i = taken-zero ((walk here.names bx).shown.reading.meaning.value W T nowhere == 0) place r n in
              let j : zero_divisor (site W T) ≡ first_of (a.shown.places ++ b.shown.places) ∷ first_place b.shown ∷ [] =
              z W T ∙ zero-here a b W T c (ap (λ w. w.shown.reading.meaning.value W T nowhere == 0) (sym e) ∙ i.0) in
              Contains-append_left (zero_divisor (site W T)) (flat_map zero_divisor (both_sites a b W T)) r (in-same _ _ r (sym j) (1, omega arith, sym p ∙ i.1))
          | inr n ↦ (within-then _ _ _ (within-second (a.sites Value None W T) (b.sites Value None W T)) (within-below (site W T) (both_sites a b W T))).more
              zero_divisor r (subst (λ w. Contains (flat_map zero_divisor (w.sites Value None W T)) r) e n)
        ]

    division-some : (W : ℕ) (T : Bool) (r : ℕ) → Contains (flat_map (zeros_at here.names W T) (ds ++ divisor ∷ [])) r →
        Contains (flat_map zero_divisor (site W T ∷ both_sites a b W T)) r
    division-some W T r m = elim (Contains-append_cases (flat_map (zeros_at here.names W T) ds) (zeros_at here.names W T divisor ++ []) r
        (in-same _ _ r (zeros-last here.names W T ds divisor) m)) [
          | inl n ↦ Contains-append_right (zero_divisor (site W T)) (flat_map zero_divisor (both_sites a b W T)) r (h.some W T r n)
          | inr n ↦ elim (Contains-append_cases (zeros_at here.names W T divisor) [] r n) [
            | inl i ↦ in-divisor W T r i
            | inr i ↦ absurd (nowhere-in r i)
          ]
        ]

    pub covered-division : Covered here (λ W T. site W T ∷ both_sites a b W T) (both_width a b) cs (ds ++ divisor ∷ [])
    covered-division = record {
      clean = λ W T. both-empty (flaws here (site W T)) (flat_map (flaws here) (both_sites a b W T)) (q W T) (h.clean W T);
      clocks = λ W T. ap (λ zs. zs ++ flat_map clock_use (both_sites a b W T)) (k W T) ∙ h.clocks W T;
      divisors = both-divisors here.names (both_width a b) ds (divisor ∷ []) h.divisors one-divisor;
      waiting = λ m. absurd (some m);
      none = division-none;
      some = division-some;
    }

module _ (S : Signals) (here : Here) (joined : Bool) (a b : Walk) (oka okb : Bool) (bx : Expr) (place : ℕ) (ex : walk here.names bx ≡ b)
    (px : place ≡ first_place b.shown) (p : Pair) (h : HasPair S here (both_sites a b) (both_width a b) a b oka okb p) where
  fixed-operands : (f : Form) (rest : Bool) → IsDivision rest bx place p f → a.shown.reading.constant && b.shown.reading.constant ≡ true
  fixed-operands f rest i = and-both a.shown.reading.constant b.shown.reading.constant (sym h.left.constant ∙ i.left_fixed) (sym h.right.constant ∙ i.right_fixed)

  unfixed-operands : p.left.constant && p.right.constant ≡ false → a.shown.reading.constant && b.shown.reading.constant ≡ false
  unfixed-operands i = two (λ (j k : Bool). j && k) _ _ _ _ (sym h.left.constant) (sym h.right.constant) ∙ i

  all-true : a.shown.reading.constant && b.shown.reading.constant ≡ true → true ≡ a.shown.reading.constant && (b.shown.reading.constant && true)
  all-true i = sym (and-both a.shown.reading.constant (b.shown.reading.constant && true) (and-left _ _ i) (and-both b.shown.reading.constant true (and-right _ _ i) refl))

  good-fixed : (q : Bool) → (i : p.left.constant ≡ true) (j : p.right.constant ≡ true) → oka && okb ≡ true →
      is_good S p.left.expr && is_good S p.right.expr && ((reading S p.left.expr).constant && (reading S p.right.expr).constant) ≡ true
  good-fixed q i j k = and-both _ _ (and-both _ _ (h.left.good (and-left oka okb k)) (h.right.good (and-right oka okb k)))
      (and-both _ _ (ap (λ (r : Reading). r.constant) h.left.same ∙ (sym h.left.constant ∙ i)) (ap (λ (r : Reading). r.constant) h.right.same ∙ (sym h.right.constant ∙ j)))

  pub div-answer : (start : ℕ) (r : Result Form ResolveError) → start ≡ first_of (a.shown.places ++ b.shown.places) → IfOk r (IsDivision false bx place p) →
      IfErr r (IsNoDivision start p) → Answered S here joined (Expr-F.Div a b) (oka && okb) r
  div-answer start (Err y) s i m = elim m [
    | inl k ↦ record { right = tt; wrong = memory-none here (read_sites joined (walk_step here.names (Expr-F.Div a b))) y k }
    | inr k ↦ record {
      right = tt;
      wrong = subst (HasNoForm here (read_sites joined (walk_step here.names (Expr-F.Div a b)))) (sym k.1) (record {
        told = λ W T. told-unfixed here (site_of here.names (Expr-F.Div a b) (read_role joined) None W T) _ start [] (rw (unfixed-operands k.0, s) refl);
      });
    }
  ]
  div-answer start (Ok f) s i m =
      let y : FlatExpr = e.Div p.left.expr p.right.expr in
      let n : Walk = walk_step here.names (Expr-F.Div a b) in
      let c : a.shown.reading.constant && b.shown.reading.constant ≡ true = fixed-operands f false i in
      let o : HasOperand S n (oka && okb) f.operand =
      has-operand S y n (oka && okb) _ _ _ f.operand i.tree (alike.alike-Div S here.names p.left.expr p.right.expr a.shown.reading b.shown.reading h.left.same h.right.same)
      (two (λ (j k : ℕ). max j k) _ _ _ _ h.left.width h.right.width) (two (λ (j k : Bool). j && k) _ _ _ _ h.left.signed h.right.signed) (all-true c)
      (λ k m. good-by S y (FlatExpr-F.Div (judge S p.left.expr) (judge S p.right.expr)) (judge-Div S p.left.expr p.right.expr) m
      (good-fixed true i.left_fixed i.right_fixed k))
      (FlatExpr-F.Div (judge S p.left.expr) (judge S p.right.expr)) (judge-Div S p.left.expr p.right.expr) refl refl in
      let fits : is_width (wide n) ≡ true = operand-width S n (oka && okb) f.operand o in
      record {
        right = record {
          operand = o;
          cover = covered-same here _ _ _ _ _ _ _ _ (λ W T. refl) (omega arith) (sym i.notes.clocks) (sym i.notes.divisors)
              (covered-division here a b bx place (λ W T. site_of here.names (Expr-F.Div a b) (read_role joined) None W T) ex px (and-right _ _ c) (λ W T. refl) (λ m. width-there (wide n) fits m)
              (λ W T. rw (c, fits) refl) (λ W T. refl) p.notes.clocks p.notes.divisors h.cover);
        };
        wrong = tt;
      }

  pub rem-answer : (start : ℕ) (r : Result Form ResolveError) → start ≡ first_of (a.shown.places ++ b.shown.places) → IfOk r (IsDivision true bx place p) →
      IfErr r (IsNoDivision start p) → Answered S here joined (Expr-F.Rem a b) (oka && okb) r
  rem-answer start (Err y) s i m = elim m [
    | inl k ↦ record { right = tt; wrong = memory-none here (read_sites joined (walk_step here.names (Expr-F.Rem a b))) y k }
    | inr k ↦ record {
      right = tt;
      wrong = subst (HasNoForm here (read_sites joined (walk_step here.names (Expr-F.Rem a b)))) (sym k.1) (record {
        told = λ W T. told-unfixed here (site_of here.names (Expr-F.Rem a b) (read_role joined) None W T) _ start [] (rw (unfixed-operands k.0, s) refl);
      });
    }
  ]
  rem-answer start (Ok f) s i m =
      let y : FlatExpr = e.Rem p.left.expr p.right.expr in
      let n : Walk = walk_step here.names (Expr-F.Rem a b) in
      let c : a.shown.reading.constant && b.shown.reading.constant ≡ true = fixed-operands f true i in
      let o : HasOperand S n (oka && okb) f.operand =
      has-operand S y n (oka && okb) _ _ _ f.operand i.tree (alike.alike-Rem S here.names p.left.expr p.right.expr a.shown.reading b.shown.reading h.left.same h.right.same)
      (two (λ (j k : ℕ). max j k) _ _ _ _ h.left.width h.right.width) (two (λ (j k : Bool). j && k) _ _ _ _ h.left.signed h.right.signed) (all-true c)
      (λ k m. good-by S y (FlatExpr-F.Rem (judge S p.left.expr) (judge S p.right.expr)) (judge-Rem S p.left.expr p.right.expr) m
      (good-fixed true i.left_fixed i.right_fixed k))
      (FlatExpr-F.Rem (judge S p.left.expr) (judge S p.right.expr)) (judge-Rem S p.left.expr p.right.expr) refl refl in
      let fits : is_width (wide n) ≡ true = operand-width S n (oka && okb) f.operand o in
      record {
        right = record {
          operand = o;
          cover = covered-same here _ _ _ _ _ _ _ _ (λ W T. refl) (omega arith) (sym i.notes.clocks) (sym i.notes.divisors)
              (covered-division here a b bx place (λ W T. site_of here.names (Expr-F.Rem a b) (read_role joined) None W T) ex px (and-right _ _ c) (λ W T. refl) (λ m. width-there (wide n) fits m)
              (λ W T. rw (c, fits) refl) (λ W T. refl) p.notes.clocks p.notes.divisors h.cover);
        };
        wrong = tt;
      }

module _ (S : Signals) (here : Here) (joined : Bool) (a b : Walk) (ok : Bool) where
  pub div-none : (y : ResolveError) → HasNoForm here (both_sites a b) y → Answered S here joined (Expr-F.Div a b) ok (Err y)
  div-none y k = record { right = tt; wrong = node-none here (Expr-F.Div a b) (read_role joined) (both_sites a b) y (λ W T. within-same _ _ refl) k }

  pub rem-none : (y : ResolveError) → HasNoForm here (both_sites a b) y → Answered S here joined (Expr-F.Rem a b) ok (Err y)
  rem-none y k = record { right = tt; wrong = node-none here (Expr-F.Rem a b) (read_role joined) (both_sites a b) y (λ W T. within-same _ _ refl) k }

-- ---- the operands of a concatenation

total-snoc : (ws : List Walk) (w : Walk) → total_width (ws ++ w ∷ []) ≡ total_width ws + wide w
total-snoc [] w = omega arith
total-snoc (v ∷ ws) w = omega (arith, total-snoc ws w)

and-assoc : (a b c : Bool) → a && (b && c) ≡ (a && b) && c
and-assoc true b c = refl
and-assoc false b c = refl

pub all-snoc : {A : Type 0} (f : A → Bool) (xs : List A) (x : A) → list_all f (xs ++ x ∷ []) ≡ list_all f xs && f x
all-snoc f [] x = sym (and-true (f x))
all-snoc f (y ∷ xs) x = ap (λ b. f y && b) (all-snoc f xs x) ∙ and-assoc (f y) (list_all f xs) (f x)

append-nil : {A : Type 0} (xs : List A) → xs ++ [] ≡ xs
append-nil [] = refl
append-nil (x ∷ xs) = ap (λ ys. x ∷ ys) (append-nil xs)

module _ (S : Signals) (here : Here) where
  pub no-parts : (p : Parts) → p.exprs ≡ [] → p.total ≡ 0 → p.constant ≡ true → p.notes.clocks ≡ [] → p.notes.divisors ≡ [] → HasParts S here [] true p
  no-parts p a b c d f = record {
    same = ap (map (reading S)) a;
    good = λ k. ap (list_all (is_good S)) a;
    width = b;
    constant = c;
    cover = covered-same here (λ W T. []) (joined_all []) 0 0 [] p.notes.clocks [] p.notes.divisors (λ W T. refl) (omega arith) (sym d) (sym f) (covered-nothing here 0);
  }

  pub parts-more : (ws : List Walk) (w : Walk) (ok one : Bool) (p q : Parts) (f : Form) → HasParts S here ws ok p → HasForm S here (member_sites w) 0 w one f →
      IsMore p f q → HasParts S here (ws ++ w ∷ []) (ok && one) q
  parts-more ws w ok one p q f h k i = record {
    same = ap (map (reading S)) i.exprs ∙ (map-append (reading S) p.exprs (f.operand.expr ∷ []) ∙
        (two (λ (a b : List Reading). a ++ b) _ _ _ _ h.same (ap (λ r. r ∷ []) k.operand.same) ∙ sym (map-append (λ v. v.shown.reading) ws (w ∷ []))));
    good = λ m. ap (list_all (is_good S)) i.exprs ∙ (all-snoc (is_good S) p.exprs f.operand.expr ∙
        and-both _ _ (h.good (and-left ok one m)) (k.operand.good (and-right ok one m)));
    width = i.width ∙ (two (λ (a b : ℕ). a + b) _ _ _ _ h.width k.operand.width ∙ sym (total-snoc ws w));
    constant = i.fixed ∙ (two (λ (a b : Bool). a && b) _ _ _ _ h.constant k.operand.constant ∙ sym (all-snoc (λ v. v.shown.reading.constant) ws w));
    cover = covered-same here (λ W T. joined_all ws W T ++ (member_sites w W T ++ [])) (joined_all (ws ++ w ∷ [])) 0 0 (p.notes.clocks ++ (f.notes.clocks ++ []))
        q.notes.clocks (p.notes.divisors ++ (f.notes.divisors ++ [])) q.notes.divisors
        (λ W T. sym (flat_map-append (own_sites Joined None) ws (w ∷ []))) (omega arith)
        (ap (λ z. p.notes.clocks ++ z) (append-nil f.notes.clocks) ∙ sym i.notes.clocks) (ap (λ z. p.notes.divisors ++ z) (append-nil f.notes.divisors) ∙ sym i.notes.divisors)
        (covered-both here (joined_all ws) (λ W T. member_sites w W T ++ []) 0 p.notes.clocks (f.notes.clocks ++ []) p.notes.divisors (f.notes.divisors ++ []) h.cover
        (covered-both here (member_sites w) (λ W T. []) 0 f.notes.clocks [] f.notes.divisors [] k.cover (covered-nothing here 0)));
  }

  -- one of them, where it stands
  within-all : (ws us : List Walk) (w : Walk) (W : ℕ) (T : Bool) → Within (member_sites w W T) (joined_all (ws ++ w ∷ us) W T)
  within-all [] us w W T = within-first (member_sites w W T) (joined_all us W T)
  within-all (v ∷ ws) us w W T = within-then _ _ _ (within-all ws us w W T) (within-second (member_sites v W T) (joined_all (ws ++ w ∷ us) W T))

  pub parts-none : (ws us : List Walk) (w : Walk) (ok : Bool) (y : ResolveError) → HasNoForm here (member_sites w) y → PartsAnswer S here (ws ++ w ∷ us) ok (Err y)
  parts-none ws us w ok y h = record {
    right = tt;
    wrong = none-within here (member_sites w) (joined_all (ws ++ w ∷ us)) y (λ W T. within-all ws us w W T) h;
  }

  module _ (es : List Expr) (i : ℕ) (z : Expr) (h : i < length es) (g : get_or es i z ≡ z) where
    taken : take (i + 1) es ≡ take i es ++ z ∷ []
    taken = take_more es i z h ∙ ap (λ u. take i es ++ u ∷ []) g

    pub at-more : (f : Expr → Bool) (p q : Parts) (m : Form) → HasParts S here (map (walk here.names) (take i es)) (list_all f (take i es)) p →
        HasForm S here (member_sites (walk here.names z)) 0 (walk here.names z) (f z) m → IsMore p m q →
        HasParts S here (map (walk here.names) (take (i + 1) es)) (list_all f (take (i + 1) es)) q
    at-more f p q m k n j = subst (λ ts. HasParts S here (map (walk here.names) ts) (list_all f ts) q) (sym taken)
        (subst (λ b. HasParts S here (map (walk here.names) (take i es ++ z ∷ [])) b q) (sym (all-snoc f (take i es) z))
        (subst (λ ws. HasParts S here ws (list_all f (take i es) && f z) q) (sym (map-append (walk here.names) (take i es) (z ∷ [])))
        (parts-more (map (walk here.names) (take i es)) (walk here.names z) (list_all f (take i es)) (f z) p q m k n j)))

    pub at-none : (ok : Bool) (y : ResolveError) → HasNoForm here (member_sites (walk here.names z)) y → PartsAnswer S here (map (walk here.names) es) ok (Err y)
    at-none ok y k = subst (λ ws. PartsAnswer S here ws ok (Err y)) (sym (parted here.names es i z h g))
        (parts-none (map (walk here.names) (take i es)) (map (walk here.names) (drop (i + 1) es)) (walk here.names z) ok y k)

    pub at-memory : (ok : Bool) (y : ResolveError) → y ≡ x.NoMemory → PartsAnswer S here (map (walk here.names) es) ok (Err y)
    at-memory ok y k = record { right = tt; wrong = memory-none here (joined_all (map (walk here.names) es)) y k }

  pub at-all : (f : Expr → Bool) (es : List Expr) (i : ℕ) (p : Parts) → length es ≤ i → HasParts S here (map (walk here.names) (take i es)) (list_all f (take i es)) p →
      PartsAnswer S here (map (walk here.names) es) (list_all f es) (Ok p)
  at-all f es i p h k = record {
    right = subst (λ ts. HasParts S here (map (walk here.names) ts) (list_all f ts) p) (take-whole es i h) k;
    wrong = tt;
  }

-- ---- concatenations and replications

module _ (S : Signals) (here : Here) (joined : Bool) where
  shown-constant : (ws : List Walk) → list_all (λ w. w.shown.reading.constant) ws ≡ list_all (λ r. r.constant) (map (λ r. r.reading) (map (λ w. w.shown) ws))
  shown-constant [] = refl
  shown-constant (w ∷ ws) = ap (λ b. w.shown.reading.constant && b) (shown-constant ws)

  shown-readings : (ws : List Walk) → map (λ w. w.shown.reading) ws ≡ map (λ r. r.reading) (map (λ w. w.shown) ws)
  shown-readings [] = refl
  shown-readings (w ∷ ws) = ap (λ rs. w.shown.reading ∷ rs) (shown-readings ws)

  judged-good : (es : List FlatExpr) → list_all (is_good S) es ≡ list_all (λ r. r.good) (map (judge S) es)
  judged-good [] = refl
  judged-good (z ∷ es) = ap (λ b. is_good S z && b) (judged-good es)

  cat-sites : (ws : List Walk) (W : ℕ) (T : Bool) → joined_all ws W T ≡ below_sites (Expr-F.Cat ws) (read_role joined) None W T
  cat-sites ws W T = ap (λ r. flat_map (own_sites r None) ws) (sym (joins joined))

  pub cat-answer : (ws : List Walk) (ok : Bool) (p : Parts) (place : ℕ) (r : Result Form ResolveError) → place ≡ first_place (walk_step here.names (Expr-F.Cat ws)).shown →
      HasParts S here ws ok p → IfOk r (IsConcatenation p) → IfErr r (IsTooWide p.total place) → Answered S here joined (Expr-F.Cat ws) ok r
  cat-answer ws ok p place (Err y) s h i m = record {
    right = tt;
    wrong = subst (HasNoForm here (read_sites joined (walk_step here.names (Expr-F.Cat ws)))) (sym m.1) (record {
      told = λ W T. told-range here (site_of here.names (Expr-F.Cat ws) (read_role joined) None W T) _ place []
          (rw (ap is_width (shown-widths ws ∙ sym h.width) ∙ m.0) (ap (λ n. n ∷ []) (sym s)));
    });
  }
  cat-answer ws ok p place (Ok f) s h i m =
      let y : FlatExpr = e.Cat p.exprs in
      let n : Walk = walk_step here.names (Expr-F.Cat ws) in
      let o : HasOperand S n ok f.operand =
      has-operand S y n ok _ _ _ f.operand i.tree (alike.alike-Cat S here.names p.exprs _ (h.same ∙ shown-readings ws))
      (h.width ∙ sym (shown-widths ws)) refl (h.constant ∙ shown-constant ws)
      (λ k m. good-by S y (FlatExpr-F.Cat (map (judge S) p.exprs)) (judge-Cat S p.exprs) m (sym (judged-good p.exprs) ∙ h.good k))
      (FlatExpr-F.Cat (map (judge S) p.exprs)) (judge-Cat S p.exprs) refl refl in
      let fits : is_width (wide n) ≡ true = operand-width S n ok f.operand o in
      record {
        right = record {
          operand = o;
          cover = covered-same here _ _ _ _ _ _ _ _ (λ W T. refl) (omega arith) (sym i.notes.clocks) (sym i.notes.divisors)
              (covered-node here (Expr-F.Cat ws) (read_role joined) 0 p.notes.clocks p.notes.divisors (λ W T. record { clean = rw fits refl; clock = refl; zero = refl })
              (covered-same here _ _ _ _ _ _ _ _ (cat-sites ws) (omega arith) refl refl h.cover));
        };
        wrong = tt;
      }

  pub cat-none : (ws : List Walk) (ok : Bool) (y : ResolveError) → HasNoForm here (joined_all ws) y → Answered S here joined (Expr-F.Cat ws) ok (Err y)
  cat-none ws ok y h = record {
    right = tt;
    wrong = node-none here (Expr-F.Cat ws) (read_role joined) (joined_all ws) y (λ W T. within-same _ _ (cat-sites ws W T)) h;
  }

-- ---- copies

positive-order : (a b : Bool) → a && b ≡ b && a
positive-order true true = refl
positive-order true false = refl
positive-order false true = refl
positive-order false false = refl

or-true : (b : Bool) → b || true ≡ true
or-true true = refl
or-true false = refl

module _ (S : Signals) (here : Here) (joined : Bool) (n : Walk) (num : Number) (h : IsFixed here n num) where
  is-positive : is_low num && nat_lt 0 num.word.value ≡ is_positive (number n.shown)
  is-positive =
      positive-order (is_low num) (nat_lt 0 num.word.value) ∙ (count-positive num.signed num.word.width num.word.value ∙
      (ap (λ k. is_positive (if num.signed then signed_of num.word.width k else pos k)) h.value ∙
      (ap (λ k. is_positive (if num.signed then signed_of k (own_value n.shown.reading.meaning nowhere) else pos (own_value n.shown.reading.meaning nowhere))) h.width ∙
      ap (λ b. is_positive (if b then signed_of n.shown.reading.meaning.width (own_value n.shown.reading.meaning nowhere) else pos (own_value n.shown.reading.meaning nowhere))) h.signed)))

  some-copies : is_low num && nat_lt 0 num.word.value ≡ true → copies_of num ≡ Some num.word.value
  some-copies b = rw b refl

  none-copies : is_low num && nat_lt 0 num.word.value ≡ false → copies_of num ≡ None
  none-copies b = rw b refl

  module _ (ws : List Walk) (ok : Bool) (p : Parts) (g : HasParts S here ws ok p) where
    abbrev top : Walk
    top = walk_step here.names (Expr-F.Rep n ws)

    rep-wide : wide top ≡ num.word.value * p.total
    rep-wide = two (λ (a b : ℕ). a * b) _ _ _ _ (sym h.value) (shown-widths ws ∙ sym g.width)

    rep-sites : (W : ℕ) (T : Bool) → fixed_sites n ++ joined_all ws W T ≡ below_sites (Expr-F.Rep n ws) (read_role joined) None W T
    rep-sites W T = refl

    rep-right : (f : Form) → is_low num && nat_lt 0 num.word.value ≡ true → IsRepetition num.word.value p f → HasForm S here (read_sites joined top) (wide top) top ok f
    rep-right f b i =
        let y : FlatExpr = e.Rep num.word.value p.exprs in
        let o : HasOperand S top ok f.operand =
        has-operand S y top ok _ _ _ f.operand i.tree
        (alike.alike-Rep S here.names num.word.value p.exprs n.shown.reading _ (record { value = sym h.value; constant = h.constant; reads = h.reads })
        (g.same ∙ shown-readings S here joined ws))
        (sym rep-wide) refl (g.constant ∙ (shown-constant S here joined ws ∙ sym (ap (λ k. k && list_all (λ r. r.constant) (map (λ r. r.reading) (map (λ w. w.shown) ws))) h.constant)))
        (λ k m. good-by S y (FlatExpr-F.Rep num.word.value (map (judge S) p.exprs)) (judge-Rep S num.word.value p.exprs) m
        (sym (judged-good S here joined p.exprs) ∙ g.good k))
        (FlatExpr-F.Rep num.word.value (map (judge S) p.exprs)) (judge-Rep S num.word.value p.exprs) refl refl in
        let fits : is_width (wide top) ≡ true = operand-width S top ok f.operand o in
        let positive : is_positive (number n.shown) ≡ true = sym is-positive ∙ b in
        record {
          operand = o;
          cover = covered-same here _ _ _ _ _ _ _ _ (λ W T. refl) (omega arith) (sym i.notes.clocks) (sym i.notes.divisors)
              (covered-node here (Expr-F.Rep n ws) (read_role joined) 0 p.notes.clocks p.notes.divisors
              (λ W T. record { clean = rw (fits, positive) refl; clock = refl; zero = refl })
              (covered-both here (λ W T. fixed_sites n) (joined_all ws) 0 [] p.notes.clocks [] p.notes.divisors h.cover g.cover));
        }

    rep-told : (place : ℕ) → place ≡ first_place top.shown → not (is_width (wide top)) || not (is_positive (number n.shown)) ≡ true →
        HasNoForm here (read_sites joined top) (x.Range place)
    rep-told place s k = record {
      told = λ W T. told-range here (site_of here.names (Expr-F.Rep n ws) (read_role joined) None W T) _ place []
          (ap (λ b. if b then first_place top.shown ∷ [] else []) k ∙ ap (λ m. m ∷ []) (sym s));
    }

    pub rep-answer : (place : ℕ) (r : Result Form ResolveError) → place ≡ first_place top.shown → IfOk r (IsCounted (copies_of num) p) →
        IfErr r (IsUncounted (copies_of num) p.total place) → Answered S here joined (Expr-F.Rep n ws) ok r
    rep-answer place (Ok f) s i m = elim (split (is_low num && nat_lt 0 num.word.value)) [
      | inl b ↦ record { right = rep-right f b (subst (λ o. IsCounted o p f) (some-copies b) i); wrong = tt }
      | inr b ↦ absurd (subst (λ o. IsCounted o p f) (none-copies b) i)
    ]
    rep-answer place (Err y) s i m = elim (split (is_low num && nat_lt 0 num.word.value)) [
      | inl b ↦ let q : IsUncounted (Some num.word.value) p.total place y = subst (λ o. IsUncounted o p.total place y) (some-copies b) m in
          record {
            right = tt;
            wrong = subst (HasNoForm here (read_sites joined top)) (sym q.1)
                (rep-told place s (ap (λ b. not b || not (is_positive (number n.shown))) (ap is_width rep-wide ∙ q.0)));
          }
      | inr b ↦ let q : IsUncounted None p.total place y = subst (λ o. IsUncounted o p.total place y) (none-copies b) m in
          record {
            right = tt;
            wrong = subst (HasNoForm here (read_sites joined top)) (sym q)
                (rep-told place s (ap (λ b. not (is_width (wide top)) || not b) (sym is-positive ∙ b) ∙ or-true (not (is_width (wide top)))));
          }
    ]

module _ (S : Signals) (here : Here) (joined : Bool) (n : Walk) (ws : List Walk) (ok : Bool) (y : ResolveError) where
  pub rep-first : Told here (fixed_sites n) y → Answered S here joined (Expr-F.Rep n ws) ok (Err y)
  rep-first h = record {
    right = tt;
    wrong = node-none here (Expr-F.Rep n ws) (read_role joined) (λ W T. fixed_sites n) y (λ W T. within-first (fixed_sites n) (joined_all ws W T))
        (record { told = λ W T. h });
  }

  pub rep-second : HasNoForm here (joined_all ws) y → Answered S here joined (Expr-F.Rep n ws) ok (Err y)
  rep-second h = record {
    right = tt;
    wrong = node-none here (Expr-F.Rep n ws) (read_role joined) (joined_all ws) y (λ W T. within-second (fixed_sites n) (joined_all ws W T)) h;
  }
