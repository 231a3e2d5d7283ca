-- Names with all their selects.
use Rattle.std.proofs.Common.{◌≡◌, ℕ, suc, Bool, true, false, not, ◌&&◌, ◌||◌, if◌then◌else◌, List, [], ◌∷◌, ◌++◌, ap, ◌∙◌, sym, subst, refl, flat_map, map, length, arith, inl, inr, Ok, Err, Result, None, Some, Option}
use Rattle.std.specs.Prelude.{IfOk, IfErr, nat_le}
use Rattle.std.specs.List.{list_all}
use Rattle.std.proofs.lemmas.Bool.Decides.{nat_tests}
use Rattle.std.proofs.lemmas.List.Elements.{Contains-append_right}
use Rattle.lv_const.proofs.Told.{both-empty}
use Rattle.lv_ast.specs.declared.expr.Path.{Path}
use Rattle.lv_ast.specs.declared.expr.Expr.TheOpen.{Expr-F, Select-F}
use Rattle.lv_source.specs.Names.{Here, Bounds, Declared, width_of, size, is_constant_sort, is_clock_sort}
use Rattle.lv_source.specs.Names.{known as known_of}
use Rattle.lv_source.specs.Values.{nowhere}
use Rattle.lv_source.specs.Places.{bits_of, bit_selects, all_bits}
use Rattle.lv_source.specs.Meaning.{meant, is_nil, named}
use Rattle.lv_source.specs.Sites.{Site, Step, Walk, WalkStep, walk_step, step_shown, step_sites, below_sites}
use Rattle.lv_source.specs.NodeRules.{is_width, is_array_fault, is_select_fault, is_good_step, is_bit_step, can_be_read, is_unreadable, unknown_name, out_of_range, clock_use, clock_in, zero_divisor}
use Rattle.lv_source.specs.Parts.{is_declared_sort}
use Rattle.lv_source.proofs.Bridges.{two}
use Rattle.lv_const.specs.declared.constant.Const.{Const}
use Rattle.lv_const.specs.Constants.{constant_of}
use Rattle.lv_const.specs.Answers.{read_role}
use Rattle.lv_const.proofs.Owns.{site_of}
use Rattle.lv_const.proofs.Leaves.{length-all_bits, undriven, unwritten, or-true}
use Rattle.lv_flat.specs.declared.expr.FlatExpr.{FlatExpr}
use Rattle.lv_flat.specs.declared.expr.FlatExpr.TheVariants as e
use Rattle.lv_flat.specs.declared.expr.FlatExpr.TheOpen.{FlatExpr-F}
use Rattle.lv_flat.specs.declared.expr.FlatSelect.TheVariants as s
use Rattle.lv_flat.specs.Signals.{Signals, signal_at}
use Rattle.lv_flat.specs.Judged.{Judged, JudgedSelect, judge, judge_step, layer_literal, layer_extends, judge_select, choices, step_of, is_good, meaning, reading, good_selects}
use Rattle.lv_flat.proofs.Judgements.{judge_select-Bit, judge-Const, judge-Signal}
use Rattle.lv_flat.proofs.ReadAlike as alike
use Rattle.lv_flat.proofs.Selects.{Alike, AllAlike}
use Rattle.lv_resolve.specs.declared.error.ResolveError.{ResolveError}
use Rattle.lv_resolve.specs.declared.error.ResolveError.TheVariants as x
use Rattle.lv_resolve.specs.declared.form.Form.{Form}
use Rattle.lv_resolve.specs.declared.picks.Head.{Head}
use Rattle.lv_resolve.specs.declared.picks.Pick.{Pick}
use Rattle.lv_resolve.specs.declared.picks.Picks.{Picks}
use Rattle.lv_resolve.specs.Forms.{Sites, Told, Covered, flaws, HasOperand, HasForm, HasNoForm, FormAnswer, NameAnswer, read_sites, operand_sites, wide}
use Rattle.lv_resolve.specs.Picks.{IsHead, HasPick, HasNoPick, HasPicks, HasNoPicks, PicksAnswer, IsWhole, IsPicked, IsElement, IsElementBits, IsNamed, head_bounds, is_there, pick_sites, picks_sites, chosen_of, inside, array, select}
use Rattle.lv_resolve.proofs.Covers.{within-first, within-second, within-below, within-then, within-same, told-within, no-memory, told-range, told-name, covered-nothing, covered-same, covered-both}
use Rattle.lv_resolve.proofs.Nodes.{and-left, and-right, and-both, good-by, has-operand, operand-width, memory-none}
use Rattle.lv_resolve.proofs.PickLaws.{append-nil, and-one}
use Rattle.lv_resolve.proofs.Lengths.{from_length}
use Rattle.lv_resolve.proofs.LateLaws.{readable}

none-there : (o : Option Bounds) → is_there o ≡ false → o ≡ None
none-there None h = refl
none-there (Some b) h = cc

zero-le : (n : ℕ) → nat_le 0 n ≡ true
zero-le n = grind (arith, nat_tests)

all-width : (d : Declared) (h : Head) → d.bounds ≡ head_bounds h → length (all_bits (width_of d)) ≡ h.width
all-width d h e = length-all_bits (width_of d) ∙ (ap size e ∙ h.wide)

-- more selects than a name takes
none-taken : (a : ℕ) → nat_le (suc a) 0 ≡ false
none-taken a = grind (arith, nat_tests)

one-taken : (a : ℕ) → nat_le (suc (suc a)) 1 ≡ false
one-taken a = grind (arith, nat_tests)

some-taken : (b : Bool) (a : ℕ) → nat_le (suc (suc a)) (if b then 1 else 0) ≡ false
some-taken true a = one-taken a
some-taken false a = none-taken (suc a)

first-taken : nat_le 1 1 ≡ true
first-taken = refl

module _ (S : Signals) (here : Here) (d : Declared) (h : Head) (hd : IsHead d h) (at : ℕ) where
  -- ---- no array

  module _ (na : d.array ≡ None) where
    none-array : is_array_fault d.array [] ≡ false
    none-array = rw na refl

    none-select : is_select_fault d [] ≡ false
    none-select = rw (na, zero-le) refl

    none-width : length (all_bits (width_of d)) ≡ length (bits_of d (bit_selects d.array (map meant (chosen_of []))) nowhere)
    none-width = rw na refl

    none-signed : d.signed ≡ (is_nil (bit_selects d.array (map meant (chosen_of []))) && d.signed)
    none-signed = rw na refl

    pub whole-answer : (p : Picks) → IsWhole h p → PicksAnswer S here d true [] at (Ok p)
    whole-answer p i = record {
      right = record {
        alike = subst (λ fs. AllAlike (choices (map (judge_select S) fs)) []) (sym i.selects) tt;
        good = λ k. ap (λ fs. list_all (λ c. c.good) (map (judge_select S) fs)) i.selects;
        array = rw na refl;
        select = rw (na, zero-le) refl;
        flat_array = ap (λ fs. is_array_fault d.array (map step_of (choices (map (judge_select S) fs)))) i.selects ∙ none-array;
        flat_select = ap (λ fs. is_select_fault d (map step_of (choices (map (judge_select S) fs)))) i.selects ∙ none-select;
        width = i.width ∙ (sym (all-width d h hd.bounds) ∙ none-width);
        signed = i.signed ∙ (sym hd.signed ∙ none-signed);
        constant = i.constant ∙ (sym hd.constant ∙ and-one (is_constant_sort d.sort));
        cover = covered-same here (λ W T. []) (picks_sites []) 0 0 [] p.clocks [] [] (λ W T. refl) (omega arith) (sym i.clocks) refl (covered-nothing here 0);
      };
      wrong = tt;
    }

    pub unranged : (w : WalkStep) (ws : List WalkStep) (ok : Bool) → d.ranged ≡ false → PicksAnswer S here d ok (w ∷ ws) at (Err (x.Range at))
    unranged w ws ok r = record { right = tt; wrong = select (rw (na, r, none-taken (length (map step_shown ws))) refl) refl }

    pub many : (w v : WalkStep) (ws : List WalkStep) (ok : Bool) → PicksAnswer S here d ok (w ∷ v ∷ ws) at (Err (x.Range at))
    many w v ws ok = record { right = tt; wrong = select (rw (na, some-taken d.ranged (length (map step_shown ws))) refl) refl }

    pub one-answer : (w : WalkStep) (ok : Bool) (k : Pick) (r : Result Picks ResolveError) → d.ranged ≡ true → HasPick S here (head_bounds h) ok w k →
        IfOk r (IsPicked h k) → IfErr r (λ y. y ≡ x.NoMemory) → PicksAnswer S here d (ok && true) (w ∷ []) at r
    one-answer w ok k (Err y) ra g i m = record { right = tt; wrong = inside (subst (Told here _) (sym m) (no-memory here _)) }
    one-answer w ok k (Ok p) ra g i m =
        let fits : is_good_step d.bounds (step_shown w) ≡ true = ap (λ b. is_good_step b (step_shown w)) hd.bounds ∙ g.fits in
        let flat : is_good_step d.bounds (step_of (judge_select S k.select).choice) ≡ true = ap (λ b. is_good_step b (step_of (judge_select S k.select).choice)) hd.bounds ∙ g.flat_fits in
        let one_array : is_array_fault d.array (step_of (judge_select S k.select).choice ∷ []) ≡ false = rw na refl in
        let one_select : is_select_fault d (step_of (judge_select S k.select).choice ∷ []) ≡ false = rw (na, ra, flat) refl in
        let one_width : k.width ≡ length (bits_of d (bit_selects d.array (map meant (chosen_of (w ∷ [])))) nowhere) = rw na (g.width ∙ sym (from_length d.bounds _ _)) in
        record {
          right = record {
            alike = subst (λ fs. AllAlike (choices (map (judge_select S) fs)) (chosen_of (w ∷ []))) (sym i.selects) (g.alike, tt);
            good = λ z. ap (λ fs. list_all (λ c. c.good) (map (judge_select S) fs)) i.selects ∙ and-both _ true (g.good (and-left ok true z)) refl;
            array = rw na refl;
            select = rw (na, ra, fits) refl;
            flat_array = ap (λ fs. is_array_fault d.array (map step_of (choices (map (judge_select S) fs)))) i.selects ∙ one_array;
            flat_select = ap (λ fs. is_select_fault d (map step_of (choices (map (judge_select S) fs)))) i.selects ∙ one_select;
            width = i.width ∙ one_width;
            signed = i.signed ∙ rw na refl;
            constant = i.constant ∙ two (λ (a b : Bool). a && b) _ _ _ _ (sym hd.constant) (g.constant ∙ and-one _);
            cover = covered-same here (λ W T. pick_sites w W T ++ []) (picks_sites (w ∷ [])) 0 0 (k.clocks ++ []) p.clocks [] [] (λ W T. refl) (omega arith)
                (append-nil k.clocks ∙ sym i.clocks) refl (covered-both here (pick_sites w) (λ W T. []) 0 k.clocks [] [] [] g.cover (covered-nothing here 0));
          };
          wrong = tt;
        }

    pub one-none : (w : WalkStep) (ok : Bool) (y : ResolveError) → d.ranged ≡ true → HasNoPick here (head_bounds h) w at y → PicksAnswer S here d (ok && true) (w ∷ []) at (Err y)
    one-none w ok y ra g = elim g [
      | inl t ↦ record { right = tt; wrong = inside (told-within here _ _ y (within-first (step_sites false None w) []) t) }
      | inr t ↦
          let bad : is_good_step d.bounds (step_shown w) ≡ false = ap (λ b. is_good_step b (step_shown w)) hd.bounds ∙ t.0 in
          record { right = tt; wrong = select (rw (na, ra, bad) refl) t.1 }
    ]

  -- ---- an array

  module _ (b : Bounds) (ar : d.array ≡ Some b) where
    pub nothing : (ok : Bool) → PicksAnswer S here d ok [] at (Err (x.UnknownName at))
    nothing ok = record { right = tt; wrong = array (rw ar refl) refl }

    pub no-element : (w : WalkStep) (ws : List WalkStep) (ok : Bool) → is_bit_step (step_shown w) ≡ false → PicksAnswer S here d ok (w ∷ ws) at (Err (x.UnknownName at))
    no-element w ws ok k = record { right = tt; wrong = array (rw (ar, k) refl) refl }

    module _ (w : Walk) where
      pub element-unranged : (v : WalkStep) (ws : List WalkStep) (ok : Bool) → d.ranged ≡ false →
          PicksAnswer S here d ok (Select-F.Bit w ∷ v ∷ ws) at (Err (x.Range at))
      element-unranged v ws ok r = record { right = tt; wrong = select (rw (ar, r, none-taken (length (map step_shown ws))) refl) refl }

      pub element-many : (u v : WalkStep) (ws : List WalkStep) (ok : Bool) → PicksAnswer S here d ok (Select-F.Bit w ∷ u ∷ v ∷ ws) at (Err (x.Range at))
      element-many u v ws ok = record { right = tt; wrong = select (rw (ar, some-taken d.ranged (length (map step_shown ws))) refl) refl }

      pub index-none : (ws : List WalkStep) (ok : Bool) (y : ResolveError) → HasNoForm here (operand_sites true w) y → PicksAnswer S here d ok (Select-F.Bit w ∷ ws) at (Err y)
      index-none ws ok y g = record {
        right = tt;
        wrong = inside (told-within here _ _ y (within-first (operand_sites true w 0 true) (flat_map (step_sites false None) ws)) (g.told 0 true));
      }

      module _ (one : Bool) (f : Form) (g : HasForm S here (operand_sites true w) 0 w one f) where
        index-alike : Alike (judge_select S (s.Bit f.operand.expr)).choice (Select-F.Bit w.shown.reading)
        index-alike = alike.alike-Bit S f.operand.expr w.shown.reading g.operand.same

        index-bit : is_bit_step (step_of (judge_select S (s.Bit f.operand.expr)).choice) ≡ true
        index-bit = ap (λ (z : JudgedSelect). is_bit_step (step_of z.choice)) (judge_select-Bit S f.operand.expr)

        index-good : one ≡ true → (judge_select S (s.Bit f.operand.expr)).good ≡ true
        index-good z = ap (λ (j : JudgedSelect). j.good) (judge_select-Bit S f.operand.expr) ∙ g.operand.good z

        pub element-answer : (r : Result Picks ResolveError) → IfOk r (IsElement h f) → IfErr r (λ y. y ≡ x.NoMemory) →
            PicksAnswer S here d (one && true) (Select-F.Bit w ∷ []) at r
        element-answer (Err y) i m = record { right = tt; wrong = inside (subst (Told here _) (sym m) (no-memory here _)) }
        element-answer (Ok p) i m =
            let one_array : is_array_fault d.array (step_of (judge_select S (s.Bit f.operand.expr)).choice ∷ []) ≡ false = rw (ar, index-bit) refl in
            let one_select : is_select_fault d (step_of (judge_select S (s.Bit f.operand.expr)).choice ∷ []) ≡ false = rw (ar, zero-le) refl in
            let one_width : h.width ≡ length (bits_of d (bit_selects d.array (map meant (chosen_of (Select-F.Bit w ∷ [])))) nowhere) = rw ar (sym (all-width d h hd.bounds)) in
            let one_signed : h.signed ≡ (is_nil (bit_selects d.array (map meant (chosen_of (Select-F.Bit w ∷ [])))) && d.signed) = rw ar (sym hd.signed) in
            record {
              right = record {
                alike = subst (λ fs. AllAlike (choices (map (judge_select S) fs)) (chosen_of (Select-F.Bit w ∷ []))) (sym i.selects) (index-alike, tt);
                good = λ z. ap (λ fs. list_all (λ c. c.good) (map (judge_select S) fs)) i.selects ∙ and-both _ true (index-good (and-left one true z)) refl;
                array = rw ar refl;
                select = rw (ar, zero-le) refl;
                flat_array = ap (λ fs. is_array_fault d.array (map step_of (choices (map (judge_select S) fs)))) i.selects ∙ one_array;
                flat_select = ap (λ fs. is_select_fault d (map step_of (choices (map (judge_select S) fs)))) i.selects ∙ one_select;
                width = i.width ∙ one_width;
                signed = i.signed ∙ one_signed;
                constant = i.constant ∙ two (λ (a c : Bool). a && c) _ _ _ _ (sym hd.constant) (g.operand.constant ∙ (and-one _ ∙ and-one _));
                cover = covered-same here (λ W T. operand_sites true w W T ++ []) (picks_sites (Select-F.Bit w ∷ [])) 0 0 (f.notes.clocks ++ []) p.clocks (f.notes.divisors ++ []) [] (λ W T. refl)
                    (omega arith)
                    (append-nil f.notes.clocks ∙ sym i.clocks) (append-nil f.notes.divisors ∙ g.cover.waiting refl)
                    (covered-both here (operand_sites true w) (λ W T. []) 0 f.notes.clocks [] f.notes.divisors [] g.cover (covered-nothing here 0));
              };
              wrong = tt;
            }

        pub bits-none : (v : WalkStep) (ok : Bool) (y : ResolveError) → d.ranged ≡ true → HasNoPick here (head_bounds h) v at y →
            PicksAnswer S here d ok (Select-F.Bit w ∷ v ∷ []) at (Err y)
        bits-none v ok y ra q = elim q [
          | inl t ↦ record {
            right = tt;
            wrong = inside (told-within here _ _ y (within-then _ _ _ (within-first (step_sites false None v) [])
                (within-second (operand_sites true w 0 true) (step_sites false None v ++ []))) t);
          }
          | inr t ↦
              let bad : is_good_step d.bounds (step_shown v) ≡ false = ap (λ u. is_good_step u (step_shown v)) hd.bounds ∙ t.0 in
              record { right = tt; wrong = select (rw (ar, ra, bad) refl) t.1 }
        ]

        pub bits-answer : (v : WalkStep) (ok : Bool) (k : Pick) (r : Result Picks ResolveError) → d.ranged ≡ true → HasPick S here (head_bounds h) ok v k →
            IfOk r (IsElementBits h f k) → IfErr r (λ y. y ≡ x.NoMemory) → PicksAnswer S here d (one && (ok && true)) (Select-F.Bit w ∷ v ∷ []) at r
        bits-answer v ok k (Err y) ra q i m = record { right = tt; wrong = inside (subst (Told here _) (sym m) (no-memory here _)) }
        bits-answer v ok k (Ok p) ra q i m =
            let fits : is_good_step d.bounds (step_shown v) ≡ true = ap (λ u. is_good_step u (step_shown v)) hd.bounds ∙ q.fits in
            let flat : is_good_step d.bounds (step_of (judge_select S k.select).choice) ≡ true = ap (λ u. is_good_step u (step_of (judge_select S k.select).choice)) hd.bounds ∙ q.flat_fits in
            let one_array : is_array_fault d.array (step_of (judge_select S (s.Bit f.operand.expr)).choice ∷ step_of (judge_select S k.select).choice ∷ []) ≡ false = rw (ar, index-bit) refl in
            let one_select : is_select_fault d (step_of (judge_select S (s.Bit f.operand.expr)).choice ∷ step_of (judge_select S k.select).choice ∷ []) ≡ false = rw (ar, ra, flat) refl in
            let one_width : k.width ≡ length (bits_of d (bit_selects d.array (map meant (chosen_of (Select-F.Bit w ∷ v ∷ [])))) nowhere) = rw ar (q.width ∙ sym (from_length d.bounds _ _)) in
            record {
              right = record {
                alike = subst (λ fs. AllAlike (choices (map (judge_select S) fs)) (chosen_of (Select-F.Bit w ∷ v ∷ []))) (sym i.selects) (index-alike, (q.alike, tt));
                good = λ z. ap (λ fs. list_all (λ c. c.good) (map (judge_select S) fs)) i.selects ∙
                    and-both _ _ (index-good (and-left one (ok && true) z)) (and-both _ true (q.good (and-left ok true (and-right one (ok && true) z))) refl);
                array = rw ar refl;
                select = rw (ar, ra, fits) refl;
                flat_array = ap (λ fs. is_array_fault d.array (map step_of (choices (map (judge_select S) fs)))) i.selects ∙ one_array;
                flat_select = ap (λ fs. is_select_fault d (map step_of (choices (map (judge_select S) fs)))) i.selects ∙ one_select;
                width = i.width ∙ one_width;
                signed = i.signed ∙ rw ar refl;
                constant = i.constant ∙ two (λ (a c : Bool). a && c) _ _ _ _ (sym hd.constant)
                    (two (λ (a c : Bool). a && c) _ _ _ _ (g.operand.constant ∙ and-one _) (q.constant ∙ and-one _));
                cover = covered-same here (λ W T. operand_sites true w W T ++ (pick_sites v W T ++ [])) (picks_sites (Select-F.Bit w ∷ v ∷ [])) 0 0
                    (f.notes.clocks ++ (k.clocks ++ [])) p.clocks (f.notes.divisors ++ []) [] (λ W T. refl) (omega arith)
                    (ap (λ cs. f.notes.clocks ++ cs) (append-nil k.clocks) ∙ sym i.clocks) (append-nil f.notes.divisors ∙ g.cover.waiting refl)
                    (covered-both here (operand_sites true w) (λ W T. pick_sites v W T ++ []) 0 f.notes.clocks (k.clocks ++ []) f.notes.divisors [] g.cover
                    (covered-both here (pick_sites v) (λ W T. []) 0 k.clocks [] [] [] q.cover (covered-nothing here 0)));
              };
              wrong = tt;
            }

-- ---- names

unreadable-name : (z : Site) (path : Path) (ss : List Step) (o : Option Declared) → z.node ≡ Expr-F.Name path ss → z.names path ≡ o → is_unreadable o ≡ true →
    unknown_name z ≡ path.place ∷ []
unreadable-name z path ss None n q h = rw (n, q) refl
unreadable-name z path ss (Some d) n q h = rw (n, q, h) refl

-- a node without a fault, which may be a clock, and those below it
covered-clock : (here : Here) (site : ℕ → Bool → Site) (s : Sites) (n : ℕ) (c cs : List ℕ) → ((W : ℕ) (T : Bool) → flaws here (site W T) ≡ []) →
    ((W : ℕ) (T : Bool) → clock_use (site W T) ≡ c) → ((W : ℕ) (T : Bool) → zero_divisor (site W T) ≡ []) → Covered here s n cs [] →
    Covered here (λ W T. site W T ∷ s W T) n (c ++ cs) []
covered-clock here site s n c cs q k z h = record {
  clean = λ W T. both-empty (flaws here (site W T)) (flat_map (flaws here) (s W T)) (q W T) (h.clean W T);
  clocks = λ W T. two (λ (a b : List ℕ). a ++ b) _ _ _ _ (k W T) (h.clocks W T);
  divisors = h.divisors;
  waiting = h.waiting;
  none = λ W T m. both-empty (zero_divisor (site W T)) (flat_map zero_divisor (s W T)) (z W T) (h.none W T m);
  some = λ W T p m. Contains-append_right (zero_divisor (site W T)) (flat_map zero_divisor (s W T)) p (h.some W T p m);
}

module _ (S : Signals) (here : Here) (path : Path) (ws : List WalkStep) (ok joined : Bool) where
  abbrev top : Walk
  top = walk_step here.names (Expr-F.Name path ws)

  name-below : (W : ℕ) (T : Bool) → flat_map (step_sites false None) ws ≡ below_sites (Expr-F.Name path ws) (read_role joined) None W T
  name-below W T = ap (λ b. flat_map (step_sites b None) ws) (sym (undriven joined))

  -- no declaration that can be read
  pub name-unknown : is_unreadable (here.names path) ≡ true → FormAnswer S here (read_sites joined top) (wide top) top ok (Err (x.UnknownName path.place))
  name-unknown h = record {
    right = tt;
    wrong = record {
      told = λ W T. told-name here (site_of here.names (Expr-F.Name path ws) (read_role joined) None W T) _ path.place []
          (unreadable-name (site_of here.names (Expr-F.Name path ws) (read_role joined) None W T) path (map step_shown ws) (here.names path) refl refl h);
    };
  }

  module _ (d : Declared) (known : here.names path ≡ Some d) (readable : can_be_read d.sort ≡ true) where
    told-array : is_array_fault d.array (map step_shown ws) ≡ true → (W : ℕ) (T : Bool) →
        unknown_name (site_of here.names (Expr-F.Name path ws) (read_role joined) None W T) ≡ path.place ∷ []
    told-array h W T = rw (known, readable, h) refl

    told-select : is_select_fault d (map step_shown ws) ≡ true → (W : ℕ) (T : Bool) →
        out_of_range (site_of here.names (Expr-F.Name path ws) (read_role joined) None W T) ≡ path.place ∷ []
    told-select h W T = ap (λ b. if b then path.place ∷ [] else [])
        (ap (λ o. not (is_width (named (known_of o) (chosen_of ws)).meaning.width) || is_select_fault (known_of o) (map step_shown ws)) known ∙
        (ap (λ b. not (is_width (named d (chosen_of ws)).meaning.width) || b) h ∙ or-true (not (is_width (named d (chosen_of ws)).meaning.width))))

    pub name-wrong : (y : ResolveError) → HasNoPicks here d ws path.place y → FormAnswer S here (read_sites joined top) (wide top) top ok (Err y)
    name-wrong y (inside t) = record {
      right = tt;
      wrong = record {
        told = λ W T. told-within here _ _ y (within-then _ _ _ (within-same _ _ (name-below W T))
            (within-below (site_of here.names (Expr-F.Name path ws) (read_role joined) None W T) (below_sites (Expr-F.Name path ws) (read_role joined) None W T))) t;
      };
    }
    name-wrong y (array h e) = record {
      right = tt;
      wrong = subst (HasNoForm here (read_sites joined top)) (sym e) (record { told = λ W T. told-name here _ _ path.place [] (told-array h W T) });
    }
    name-wrong y (select h e) = record {
      right = tt;
      wrong = subst (HasNoForm here (read_sites joined top)) (sym e) (record { told = λ W T. told-range here _ _ path.place [] (told-select h W T) });
    }

    module _ (p : Picks) (h : HasPicks S here d ok ws p) (f : Form) (y : FlatExpr) (cs : List ℕ) (i : IsNamed y cs p f)
        (same : reading S y ≡ top.shown.reading) (good : ok ≡ true → is_width (meaning S y).width ≡ true → is_good S y ≡ true)
        (clock : clock_in None (Some d) path.place ≡ cs) (l : FlatExpr-F Judged JudgedSelect) (j : judge S y ≡ judge_step S l)
        (literal : layer_literal l ≡ None) (extends : layer_extends l ≡ true) where
      o : HasOperand S top ok f.operand
      o = has-operand S y top ok _ _ _ f.operand i.tree same (rw known h.width) (rw known h.signed) (rw known h.constant) good l j literal extends

      name-fits : is_width (wide top) ≡ true
      name-fits = operand-width S top ok f.operand o

      name-clean : (W : ℕ) (T : Bool) → flaws here (site_of here.names (Expr-F.Name path ws) (read_role joined) None W T) ≡ []
      name-clean W T =
          let fit : is_width (named d (chosen_of ws)).meaning.width ≡ true = ap (λ q. is_width (named (known_of q) (chosen_of ws)).meaning.width) (sym known) ∙ name-fits in
          rw (known, readable, h.array, h.select, unwritten joined, fit) refl

      name-clock : (W : ℕ) (T : Bool) → clock_use (site_of here.names (Expr-F.Name path ws) (read_role joined) None W T) ≡ cs
      name-clock W T = ap (λ q. clock_in None q path.place) known ∙ clock

      pub name-right : HasForm S here (read_sites joined top) (wide top) top ok f
      name-right = record {
        operand = o;
        cover = covered-same here _ _ _ _ _ _ _ _ (λ W T. refl) (omega arith) (sym i.notes.clocks) (sym i.notes.divisors)
            (covered-clock here (λ W T. site_of here.names (Expr-F.Name path ws) (read_role joined) None W T) (λ W T. below_sites (Expr-F.Name path ws) (read_role joined) None W T)
            0 cs p.clocks name-clean name-clock (λ W T. refl)
            (covered-same here _ _ _ _ _ _ _ _ name-below (omega arith) refl refl h.cover));
      }

-- ---- signals and constants

module _ (S : Signals) (here : Here) (path : Path) (ws : List WalkStep) (ok : Bool) (p : Picks) where
  pub selects-good : (d : Declared) → HasPicks S here d ok ws p → ok ≡ true → good_selects d (map (judge_select S) p.selects) ≡ true
  selects-good d h k = and-both _ _ (ap not h.flat_array) (and-both _ _ (ap not h.flat_select) (h.good k))

  pub signal-answer : (k : ℕ) (r : Result Form ResolveError) → here.names path ≡ Some (signal_at S k) → is_declared_sort (signal_at S k).sort ≡ true →
      HasPicks S here (signal_at S k) ok ws p → IfOk r (IsNamed (e.Signal k p.selects) (if is_clock_sort (signal_at S k).sort then path.place ∷ [] else []) p) →
      IfErr r (λ y. y ≡ x.NoMemory) → NameAnswer S here path ws ok r
  signal-answer k (Err y) known sort h i m = record {
    told = λ joined. record { right = tt; wrong = memory-none here (read_sites joined (walk_step here.names (Expr-F.Name path ws))) y m };
  }
  signal-answer k (Ok f) known sort h i m = record {
    told = λ joined. record {
      right = name-right S here path ws ok joined (signal_at S k) known (readable (signal_at S k).sort sort) p h f (e.Signal k p.selects)
          (if is_clock_sort (signal_at S k).sort then path.place ∷ [] else []) i
          (alike.alike-Signal S here.names k p.selects path (chosen_of ws) (ap known_of known) h.alike)
          (λ z q. good-by S (e.Signal k p.selects) (FlatExpr-F.Signal k (map (judge_select S) p.selects)) (judge-Signal S k p.selects) q
          (and-both _ _ sort (selects-good (signal_at S k) h z))) refl
          (FlatExpr-F.Signal k (map (judge_select S) p.selects)) (judge-Signal S k p.selects) refl refl;
      wrong = tt;
    };
  }

  pub const-answer : (c : Const) (f : Form) → here.names path ≡ Some (constant_of path.name c) → HasPicks S here (constant_of path.name c) ok ws p →
      IsNamed (e.Const c p.selects) [] p f → NameAnswer S here path ws ok (Ok f)
  const-answer c f known h i = record {
    told = λ joined. record {
      right = name-right S here path ws ok joined (constant_of path.name c) known refl p h f (e.Const c p.selects) [] i
          (alike.alike-Const S here.names c p.selects path path.name (chosen_of ws) (ap known_of known) h.alike)
          (λ z q. good-by S (e.Const c p.selects) (FlatExpr-F.Const c (map (judge_select S) p.selects)) (judge-Const S c p.selects) q
          (selects-good (constant_of path.name c) h z)) refl
          (FlatExpr-F.Const c (map (judge_select S) p.selects)) (judge-Const S c p.selects) refl refl;
      wrong = tt;
    };
  }

module _ (S : Signals) (here : Here) (path : Path) (ws : List WalkStep) (ok : Bool) where
  pub picks-wrong : (d : Declared) (y : ResolveError) → here.names path ≡ Some d → can_be_read d.sort ≡ true → HasNoPicks here d ws path.place y →
      NameAnswer S here path ws ok (Err y)
  picks-wrong d y known sort h = record { told = λ joined. name-wrong S here path ws ok joined d known sort y h }

  pub unknown : is_unreadable (here.names path) ≡ true → NameAnswer S here path ws ok (Err (x.UnknownName path.place))
  unknown h = record { told = λ joined. name-unknown S here path ws ok joined h }
