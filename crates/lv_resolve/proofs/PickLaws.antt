-- Selects: what is answered of each form, and of all that a name has.
use Rattle.std.proofs.Common.{◌≡◌, ℕ, ◌-◌, ◌^◌, ◌≤◌, Bool, true, false, not, ◌&&◌, if◌then◌else◌, List, [], ◌∷◌, ◌++◌, ap, ◌∙◌, sym, subst, refl, arith, inl, inr, Ok, Err, Result, None, Some, Option}
use Rattle.std.specs.Prelude.{IfOk, IfErr, nat_le, nat_lt, pos}
use Rattle.std.proofs.lemmas.Bool.Decides.{nat_tests}
use Rattle.lv_bits.specs.Values.{signed_of}
use Rattle.lv_ast.specs.declared.expr.Expr.TheOpen.{Select-F}
use Rattle.lv_source.specs.Names.{Here, Bounds}
use Rattle.lv_source.specs.Values.{nowhere, own_value}
use Rattle.lv_source.specs.Meaning.{Choice}
use Rattle.lv_source.specs.Sites.{Walk, WalkStep, step_shown, step_sites, fixed_sites}
use Rattle.lv_source.specs.NodeRules.{is_width, is_bound, is_width_number, is_in_order, is_good_step, number}
use Rattle.lv_source.proofs.Bridges.{two}
use Rattle.lv_const.specs.Signs.{is_negative}
use Rattle.lv_const.proofs.Numbers.{split}
use Rattle.lv_scopes.specs.declared.number.Number.{Number}
use Rattle.lv_flat.specs.declared.expr.FlatSelect.{FlatSelect}
use Rattle.lv_flat.specs.declared.expr.FlatSelect.TheVariants as s
use Rattle.lv_flat.specs.Signals.{Signals}
use Rattle.lv_flat.specs.Judged.{JudgedSelect, judge_select, step_of}
use Rattle.lv_flat.proofs.Judgements.{judge_select-Bit, judge_select-Part, judge_select-Up, judge_select-Down}
use Rattle.lv_flat.proofs.ReadAlike as alike
use Rattle.lv_flat.proofs.Selects.{Alike}
use Rattle.lv_resolve.specs.declared.error.ResolveError.{ResolveError}
use Rattle.lv_resolve.specs.declared.error.ResolveError.TheVariants as x
use Rattle.lv_resolve.specs.declared.form.Form.{Form}
use Rattle.lv_resolve.specs.declared.picks.Head.{Head}
use Rattle.lv_resolve.specs.declared.picks.Pick.{Pick}
use Rattle.lv_resolve.specs.Forms.{Told, Covered, HasForm, IsFixed, operand_sites}
use Rattle.lv_resolve.specs.Picks.{IsBit, IsPart, IsNoPart, IsRun, IsNoRun, PickAnswer, bound_of, is_low, is_part, is_part_by, is_run, part_width, head_bounds, pick_sites}
use Rattle.lv_resolve.proofs.Bounds.{bound-value, and-both}
use Rattle.lv_resolve.proofs.Covers.{no-memory, covered-same, covered-both}
use Rattle.lv_resolve.proofs.Nodes.{and-left, and-right}

-- ---- numbers

low-signed : (b : Bool) (w a : ℕ) → not (is_negative b w a) ≡ true → (if b then signed_of w a else pos a) ≡ pos a
low-signed false w a h = refl
low-signed true w a h = elim (split (nat_lt a (2 ^ (w - 1)))) [
  | inl k ↦ rw k refl
  | inr k ↦ let z : false ≡ true = rw k at h in cc
]

high-signed : (b : Bool) (w a : ℕ) → not (is_negative b w a) ≡ false → is_bound (if b then signed_of w a else pos a) ≡ false
high-signed false w a h = cc
high-signed true w a h = elim (split (nat_lt a (2 ^ (w - 1)))) [
  | inl k ↦ let z : true ≡ false = rw k at h in cc
  | inr k ↦ rw k refl
]

high-wide : (b : Bool) (w a : ℕ) → not (is_negative b w a) ≡ false → is_width_number (if b then signed_of w a else pos a) ≡ false
high-wide false w a h = cc
high-wide true w a h = elim (split (nat_lt a (2 ^ (w - 1)))) [
  | inl k ↦ let z : true ≡ false = rw k at h in cc
  | inr k ↦ rw k refl
]

bound-le : (num : Number) → bound_of num ≡ Some num.word.value → nat_le num.word.value 65535 ≡ true
bound-le num h = elim (split (is_low num && nat_le num.word.value 65535)) [
  | inl e ↦ and-right (is_low num) (nat_le num.word.value 65535) e
  | inr e ↦ let m : bound_of num ≡ None = rw e refl in let q : None ≡ Some num.word.value = sym m ∙ h in cc
]

no-bound : (num : Number) → is_low num ≡ false → bound_of num ≡ Some num.word.value → ⊥
no-bound num k h = elim (split (is_low num && nat_le num.word.value 65535)) [
  | inl e ↦ let q : true ≡ false = sym (and-left (is_low num) (nat_le num.word.value 65535) e) ∙ k in cc
  | inr e ↦ let m : bound_of num ≡ None = rw e refl in let q : None ≡ Some num.word.value = sym m ∙ h in cc
]

bound-over : (num : Number) → is_low num ≡ true → bound_of num ≡ None → nat_le num.word.value 65535 ≡ false
bound-over num k h = elim (split (nat_le num.word.value 65535)) [
  | inl e ↦ let t : is_low num && nat_le num.word.value 65535 ≡ true = and-both (is_low num) (nat_le num.word.value 65535) k e in
      let m : bound_of num ≡ Some num.word.value = rw t refl in let q : Some num.word.value ≡ None = sym m ∙ h in cc
  | inr e ↦ e
]

and-true-left : (a b : Bool) → a ≡ true → b ≡ a && b
and-true-left true b h = refl
and-true-left false b h = cc

one-le : (n : ℕ) → 1 ≤ n → nat_le 1 n ≡ true
one-le n h = grind (arith, nat_tests)

pub and-one : (a : Bool) → a ≡ a && true
and-one true = refl
and-one false = refl

module _ (here : Here) (n : Walk) (num : Number) (h : IsFixed here n num) where
  number-of : number n.shown ≡ (if num.signed then signed_of num.word.width num.word.value else pos num.word.value)
  number-of = sym (
      ap (λ k. if num.signed then signed_of num.word.width k else pos k) h.value ∙
      (ap (λ k. if num.signed then signed_of k (own_value n.shown.reading.meaning nowhere) else pos (own_value n.shown.reading.meaning nowhere)) h.width ∙
      ap (λ b. if b then signed_of n.shown.reading.meaning.width (own_value n.shown.reading.meaning nowhere) else pos (own_value n.shown.reading.meaning nowhere)) h.signed))

  low-number : is_low num ≡ true → number n.shown ≡ pos num.word.value
  low-number b = number-of ∙ low-signed num.signed num.word.width num.word.value b

  high-bound : is_low num ≡ false → is_bound (number n.shown) ≡ false
  high-bound b = ap is_bound number-of ∙ high-signed num.signed num.word.width num.word.value b

  high-width : is_low num ≡ false → is_width_number (number n.shown) ≡ false
  high-width b = ap is_width_number number-of ∙ high-wide num.signed num.word.width num.word.value b

  -- a bound, and what the definition says of it
  bound-good : bound_of num ≡ Some num.word.value → is_bound (number n.shown) ≡ true
  bound-good b = elim (split (is_low num)) [
    | inl k ↦ ap is_bound (low-number k) ∙ bound-le num b
    | inr k ↦ absurd (no-bound num k b)
  ]

  bound-bad : bound_of num ≡ None → is_bound (number n.shown) ≡ false
  bound-bad b = elim (split (is_low num)) [
    | inl k ↦ ap is_bound (low-number k) ∙ bound-over num k b
    | inr k ↦ high-bound k
  ]

  run-good : is_run num ≡ true → is_width_number (number n.shown) ≡ true
  run-good b = ap is_width_number (low-number (and-left (is_low num) (is_width num.word.value) b)) ∙ and-right (is_low num) (is_width num.word.value) b

  run-bad : is_run num ≡ false → is_width_number (number n.shown) ≡ false
  run-bad b = elim (split (is_low num)) [
    | inl k ↦ ap is_width_number (low-number k) ∙ (and-true-left (is_low num) (is_width num.word.value) k ∙ b)
    | inr k ↦ high-width k
  ]

-- ---- one select

pub append-nil : {A : Type 0} (xs : List A) → xs ++ [] ≡ xs
append-nil [] = refl
append-nil (x ∷ xs) = ap (λ ys. x ∷ ys) (append-nil xs)

width-from : (n : ℕ) → 1 ≤ n → nat_le n 128 ≡ true → is_width n ≡ true
width-from n h k = and-both (nat_le 1 n) (nat_le n 128) (one-le n h) k

false-second : (a b c d : Bool) → b ≡ false → ((a && b) && c) && d ≡ false
false-second true b c d h = rw h refl
false-second false b c d h = refl

part-none : (a o : Bool) (n : ℕ) (p w : Bool) → 1 ≤ n → o && nat_le n 128 ≡ false → p ≡ o → w ≡ is_width n → (a && p) && w ≡ false
part-none false o n p w u h i j = refl
part-none true false n p w u h i j = rw i refl
part-none true true n p w u h i j = rw (i, j, h) (grind (arith, nat_tests, u))

module _ (S : Signals) (here : Here) (h : Head) where
  abbrev b : Bounds
  b = head_bounds h

  judged-alike : (f : FlatSelect) (j : JudgedSelect) (c : Choice) → judge_select S f ≡ j → Alike j.choice c → Alike (judge_select S f).choice c
  judged-alike f j c e k = subst (λ z. Alike z.choice c) (sym e) k

  pub bit-answer : (w : Walk) (ok : Bool) (at : ℕ) (i : Form) (r : Result Pick ResolveError) → HasForm S here (operand_sites true w) 0 w ok i → IfOk r (IsBit i) →
      IfErr r (λ y. y ≡ x.NoMemory) → PickAnswer S here b ok (Select-F.Bit w) at r
  bit-answer w ok at i (Err y) g k m = record { right = tt; wrong = inl (subst (Told here (step_sites false None (Select-F.Bit w))) (sym m) (no-memory here _)) }
  bit-answer w ok at i (Ok p) g k m = record {
    right = record {
      alike = subst (λ z. Alike (judge_select S z).choice (Select-F.Bit w.shown.reading)) (sym k.tree) (alike.alike-Bit S i.operand.expr w.shown.reading g.operand.same);
      good = λ q. ap (λ z. (judge_select S z).good) k.tree ∙ (ap (λ (z : JudgedSelect). z.good) (judge_select-Bit S i.operand.expr) ∙ g.operand.good q);
      fits = refl;
      flat_fits = ap (λ z. is_good_step b (step_of (judge_select S z).choice)) k.tree ∙ ap (λ (z : JudgedSelect). is_good_step b (step_of z.choice)) (judge_select-Bit S i.operand.expr);
      width = k.wide;
      constant = k.fixed ∙ (g.operand.constant ∙ and-one w.shown.reading.constant);
      cover = covered-same here (operand_sites true w) (pick_sites (Select-F.Bit w)) 0 0 i.notes.clocks p.clocks i.notes.divisors [] (λ W T. refl) (omega arith)
          (sym k.noted) (g.cover.waiting refl) g.cover;
    };
    wrong = tt;
  }

  part-left : (l r : Number) → (p : Pick) → IsPart h l r p → is_in_order b l.word.value r.word.value ≡ true
  part-left l r p k = and-left (is_in_order b l.word.value r.word.value) (nat_le (part_width l.word.value r.word.value) 128) k.fits

  part-most : (l r : Number) → (p : Pick) → IsPart h l r p → is_width (part_width l.word.value r.word.value) ≡ true
  part-most l r p k = width-from (part_width l.word.value r.word.value) (omega arith)
      (and-right (is_in_order b l.word.value r.word.value) (nat_le (part_width l.word.value r.word.value) 128) k.fits)

  module _ (wl wr : Walk) (l r : Number) (ok : Bool) (at : ℕ) (gl : IsFixed here wl l) (gr : IsFixed here wr r) where
    abbrev there : WalkStep
    there = Select-F.Part wl wr

    part-cover : Covered here (pick_sites there) 0 [] []
    part-cover = covered-both here (λ W T. fixed_sites wl) (λ W T. fixed_sites wr) 0 [] [] [] [] gl.cover gr.cover

    part-good : (p : Pick) → IsPart h l r p → is_good_step b (step_shown there) ≡ true
    part-good p k = and-both _ _ (and-both _ _ (and-both _ _ (bound-good here wl l gl k.left) (bound-good here wr r gr k.right))
        (two (λ (x y : ℕ). is_in_order b x y) _ _ _ _ (sym gl.value) (sym gr.value) ∙ part-left l r p k))
        (two (λ (x y : ℕ). is_width (part_width x y)) _ _ _ _ (sym gl.value) (sym gr.value) ∙ part-most l r p k)

    part-flat : (p : Pick) → IsPart h l r p → is_good_step b (step_of (judge_select S (s.Part l.word.value r.word.value)).choice) ≡ true
    part-flat p k = ap (λ (z : JudgedSelect). is_good_step b (step_of z.choice)) (judge_select-Part S l.word.value r.word.value) ∙
        and-both _ _ (and-both _ _ (and-both _ _ (bound-le l k.left) (bound-le r k.right)) (part-left l r p k)) (part-most l r p k)

    part-by : (o q : Option ℕ) → bound_of l ≡ o → bound_of r ≡ q → is_part_by h o q ≡ false → is_good_step b (step_shown there) ≡ false
    part-by None q e f k = rw (bound-bad here wl l gl e) refl
    part-by (Some m) None e f k = false-second (is_bound (number wl.shown)) (is_bound (number wr.shown)) _ _ (bound-bad here wr r gr f)
    part-by (Some m) (Some n) e f k =
        let i : is_part h l.word.value r.word.value ≡ false = two (λ (x y : ℕ). is_part h x y) _ _ _ _ (sym (bound-value l m e)) (sym (bound-value r n f)) ∙ k in
        part-none (is_bound (number wl.shown) && is_bound (number wr.shown)) (is_in_order b l.word.value r.word.value)
        (part_width l.word.value r.word.value) _ _ (omega arith) i
        (two (λ (x y : ℕ). is_in_order b x y) _ _ _ _ (sym gl.value) (sym gr.value)) (two (λ (x y : ℕ). is_width (part_width x y)) _ _ _ _ (sym gl.value) (sym gr.value))

    part-bad : is_part_by h (bound_of l) (bound_of r) ≡ false → is_good_step b (step_shown there) ≡ false
    part-bad k = part-by (bound_of l) (bound_of r) refl refl k

    pub part-answer : (q : Result Pick ResolveError) → IfOk q (IsPart h l r) → IfErr q (IsNoPart h l r at) → PickAnswer S here b ok there at q
    part-answer (Err y) k m = record { right = tt; wrong = inr (part-bad m.0, m.1) }
    part-answer (Ok p) k m = record {
      right = record {
        alike = subst (λ z. Alike (judge_select S z).choice (Select-F.Part wl.shown.reading wr.shown.reading)) (sym k.taken.tree)
            (alike.alike-Part S l.word.value r.word.value wl.shown.reading wr.shown.reading (record { value = sym gl.value; constant = gl.constant; reads = gl.reads })
            (record { value = sym gr.value; constant = gr.constant; reads = gr.reads }));
        good = λ z. ap (λ u. (judge_select S u).good) k.taken.tree ∙ ap (λ (u : JudgedSelect). u.good) (judge_select-Part S l.word.value r.word.value);
        fits = part-good p k;
        flat_fits = ap (λ z. is_good_step b (step_of (judge_select S z).choice)) k.taken.tree ∙ part-flat p k;
        width = k.taken.wide ∙ two (λ (x y : ℕ). part_width x y) _ _ _ _ gl.value gr.value;
        constant = k.taken.fixed ∙ sym (and-both wl.shown.reading.constant (wr.shown.reading.constant && true) gl.constant (and-both wr.shown.reading.constant true gr.constant refl));
        cover = covered-same here (pick_sites there) (pick_sites there) 0 0 [] p.clocks [] [] (λ W T. refl) (omega arith) (sym k.taken.noted) refl part-cover;
      };
      wrong = tt;
    }

  -- ---- runs

  abbrev pub run_step : Bool → Walk → Walk → WalkStep
  run_step up i n = if up then Select-F.Up i n else Select-F.Down i n

  module _ (wi wn : Walk) (n : Number) (ok : Bool) (at : ℕ) (i : Form) (gi : HasForm S here (operand_sites true wi) 0 wi ok i) (gn : IsFixed here wn n) where
    run-cover : Covered here (λ W T. operand_sites true wi W T ++ fixed_sites wn) 0 (i.notes.clocks ++ []) []
    run-cover = covered-same here (λ W T. operand_sites true wi W T ++ fixed_sites wn) (λ W T. operand_sites true wi W T ++ fixed_sites wn) 0 0
        (i.notes.clocks ++ []) (i.notes.clocks ++ []) (i.notes.divisors ++ []) [] (λ W T. refl) (omega arith) refl (ap (λ ds. ds ++ []) (gi.cover.waiting refl))
        (covered-both here (operand_sites true wi) (λ W T. fixed_sites wn) 0 i.notes.clocks [] i.notes.divisors [] gi.cover gn.cover)

    pub up-answer : (q : Result Pick ResolveError) → IfOk q (IsRun true i n) → IfErr q (IsNoRun n at) → PickAnswer S here b ok (Select-F.Up wi wn) at q
    up-answer (Err y) k m = elim m [
      | inl e ↦ record { right = tt; wrong = inl (subst (Told here (step_sites false None (Select-F.Up wi wn))) (sym e) (no-memory here _)) }
      | inr e ↦ record { right = tt; wrong = inr (run-bad here wn n gn e.0, e.1) }
    ]
    up-answer (Ok p) k m = record {
      right = record {
        alike = subst (λ z. Alike (judge_select S z).choice (Select-F.Up wi.shown.reading wn.shown.reading)) (sym k.taken.tree)
            (alike.alike-Up S i.operand.expr n.word.value wi.shown.reading wn.shown.reading gi.operand.same (record { value = sym gn.value; constant = gn.constant; reads = gn.reads }));
        good = λ z. ap (λ u. (judge_select S u).good) k.taken.tree ∙ (ap (λ (u : JudgedSelect). u.good) (judge_select-Up S i.operand.expr n.word.value) ∙ gi.operand.good z);
        fits = run-good here wn n gn k.fits;
        flat_fits = ap (λ z. is_good_step b (step_of (judge_select S z).choice)) k.taken.tree ∙
            (ap (λ (z : JudgedSelect). is_good_step b (step_of z.choice)) (judge_select-Up S i.operand.expr n.word.value) ∙ and-right (is_low n) (is_width n.word.value) k.fits);
        width = k.taken.wide ∙ gn.value;
        constant = k.taken.fixed ∙ (gi.operand.constant ∙ (and-one wi.shown.reading.constant ∙
            ap (λ z. wi.shown.reading.constant && z) (sym (and-both wn.shown.reading.constant true gn.constant refl))));
        cover = covered-same here (λ W T. operand_sites true wi W T ++ fixed_sites wn) (pick_sites (Select-F.Up wi wn)) 0 0 (i.notes.clocks ++ []) p.clocks [] [] (λ W T. refl)
            (omega arith) (append-nil i.notes.clocks ∙ sym k.taken.noted) refl run-cover;
      };
      wrong = tt;
    }

    pub down-answer : (q : Result Pick ResolveError) → IfOk q (IsRun false i n) → IfErr q (IsNoRun n at) → PickAnswer S here b ok (Select-F.Down wi wn) at q
    down-answer (Err y) k m = elim m [
      | inl e ↦ record { right = tt; wrong = inl (subst (Told here (step_sites false None (Select-F.Down wi wn))) (sym e) (no-memory here _)) }
      | inr e ↦ record { right = tt; wrong = inr (run-bad here wn n gn e.0, e.1) }
    ]
    down-answer (Ok p) k m = record {
      right = record {
        alike = subst (λ z. Alike (judge_select S z).choice (Select-F.Down wi.shown.reading wn.shown.reading)) (sym k.taken.tree)
            (alike.alike-Down S i.operand.expr n.word.value wi.shown.reading wn.shown.reading gi.operand.same (record { value = sym gn.value; constant = gn.constant; reads = gn.reads }));
        good = λ z. ap (λ u. (judge_select S u).good) k.taken.tree ∙ (ap (λ (u : JudgedSelect). u.good) (judge_select-Down S i.operand.expr n.word.value) ∙ gi.operand.good z);
        fits = run-good here wn n gn k.fits;
        flat_fits = ap (λ z. is_good_step b (step_of (judge_select S z).choice)) k.taken.tree ∙
            (ap (λ (z : JudgedSelect). is_good_step b (step_of z.choice)) (judge_select-Down S i.operand.expr n.word.value) ∙ and-right (is_low n) (is_width n.word.value) k.fits);
        width = k.taken.wide ∙ gn.value;
        constant = k.taken.fixed ∙ (gi.operand.constant ∙ (and-one wi.shown.reading.constant ∙
            ap (λ z. wi.shown.reading.constant && z) (sym (and-both wn.shown.reading.constant true gn.constant refl))));
        cover = covered-same here (λ W T. operand_sites true wi W T ++ fixed_sites wn) (pick_sites (Select-F.Down wi wn)) 0 0 (i.notes.clocks ++ []) p.clocks [] [] (λ W T. refl)
            (omega arith) (append-nil i.notes.clocks ∙ sym k.taken.noted) refl run-cover;
      };
      wrong = tt;
    }
