-- What an expression reads, by the form of the tree.
use Rattle.std.proofs.Common.{◌≡◌, ℕ, zero, suc, Bool, true, false, ◌&&◌, List, [], ◌∷◌, ◌++◌, map, flat_map, take, length, get_or, ◌<◌, ◌+◌, refl, sym, ◌∙◌, ap, subst, arith}
use Rattle.std.specs.List.{list_all}
use Rattle.std.proofs.Math.Seq.{take-suc}
use Rattle.std.proofs.lemmas.Grind.{flat_map-append}
use Rattle.lv_bits.specs.declared.op.Op.{Op}
use Rattle.lv_ast.specs.declared.expr.Literal.{Literal}
use Rattle.lv_source.specs.Names.{is_constant_sort}
use Rattle.lv_source.specs.Places.{Bit}
use Rattle.lv_source.specs.Meaning.{Reading, Choice, bits_named, index_reads, all_constant, parts_of}
use Rattle.lv_source.specs.Parts.{is_declared_sort}
use Rattle.lv_const.specs.declared.constant.Const.{Const}
use Rattle.lv_flat.specs.declared.expr.FlatExpr.{FlatExpr}
use Rattle.lv_flat.specs.declared.expr.FlatExpr.TheVariants as e
use Rattle.lv_flat.specs.declared.expr.FlatExpr.TheOpen.{FlatExpr-F}
use Rattle.lv_flat.specs.declared.expr.FlatSelect.{FlatSelect}
use Rattle.lv_flat.specs.declared.expr.FlatSelect.TheVariants as s
use Rattle.lv_flat.specs.Signals.{Signals, signal_at}
use Rattle.lv_flat.specs.Judged.{Judged, JudgedSelect, judge, judge_step, judge_select, reading, readings, is_good, good_selects, layer_good}
use Rattle.lv_source.specs.NodeRules.{is_width}
use Rattle.lv_source.proofs.Tests.{and-left, and-right}
use Rattle.lv_lower_exprs.specs.Named.{is_good_select, are_good_selects}
use Rattle.lv_flat.proofs.Judgements.{judge-Lit, judge-Const, judge-Signal, judge-Un, judge-Bin, judge-Div, judge-Rem, judge-Cond, judge-Cat, judge-Rep, judge-Cast, judge_select-Bit, judge_select-Part, judge_select-Up, judge_select-Down}
use Rattle.lv_spans.specs.declared.span.Span.{Span}
use Rattle.lv_lower_exprs.proofs.Naming.{never-constant}
use Rattle.lv_extents.specs.Adds.{Adds, taken}
use Rattle.lv_extents.proofs.Spans.{append-nil}

pub record Same (r : Reading) (c : Bool) (bs : List Bit) : Type 0 where
  pub constant : r.constant ≡ c
  pub reads : r.reads ≡ bs

and-true : (a : Bool) → (a && true) ≡ a
and-true true = refl
and-true false = refl

all-readings : (S : Signals) (es : List FlatExpr) → readings (map (judge S) es) ≡ map (reading S) es
all-readings S [] = refl
all-readings S (x ∷ xs) = ap (λ ys. reading S x ∷ ys) (all-readings S xs)

module _ (S : Signals) where
  abbrev R : FlatExpr → Reading
  R x = reading S x

  moved : (x y : FlatExpr) (j : Judged) (c : Bool) (bs : List Bit) → x ≡ y → judge S y ≡ j → j.reading.constant ≡ c → j.reading.reads ≡ bs → Same (R x) c bs
  moved x y j c bs e f k r =
      let g : R x ≡ j.reading = ap R e ∙ ap (λ (i : Judged). i.reading) f in
      record { constant = ap (λ (q : Reading). q.constant) g ∙ k; reads = ap (λ (q : Reading). q.reads) g ∙ r }

  pub lit-same : (x : FlatExpr) (l : Literal) → x ≡ e.Lit l → Same (R x) true []
  lit-same x l h = moved x (e.Lit l) _ true [] h (judge-Lit S l) refl refl

  pub const-same : (x : FlatExpr) (c : Const) (ss : List FlatSelect) → x ≡ e.Const c ss → Same (R x) (all_constant (taken S ss)) (index_reads (taken S ss))
  const-same x c ss h = moved x (e.Const c ss) _ _ _ h (judge-Const S c ss) refl refl

  no-constant : (k : ℕ) (ss : List FlatSelect) → is_declared_sort (signal_at S k).sort ≡ true → (u : Bool) → is_constant_sort (signal_at S k).sort ≡ u → (u && all_constant (taken S ss)) ≡ false
  no-constant k ss g true f = absurd (never-constant (signal_at S k).sort g f)
  no-constant k ss g false f = refl

  pub signal-same : (x : FlatExpr) (k : ℕ) (ss : List FlatSelect) → x ≡ e.Signal k ss → is_declared_sort (signal_at S k).sort ≡ true →
      Same (R x) false (bits_named (signal_at S k) (taken S ss) ++ index_reads (taken S ss))
  signal-same x k ss h g = moved x (e.Signal k ss) _ _ _ h (judge-Signal S k ss) (no-constant k ss g (is_constant_sort (signal_at S k).sort) refl) refl

  pub un-same : (x : FlatExpr) (op : Op) (a : FlatExpr) → x ≡ e.Un op a → Same (R x) (R a).constant (R a).reads
  un-same x op a h = moved x (e.Un op a) _ _ _ h (judge-Un S op a) (and-true (R a).constant) (append-nil (R a).reads)

  pub cast-same : (x : FlatExpr) (signed : Bool) (a : FlatExpr) → x ≡ e.Cast signed a → Same (R x) (R a).constant (R a).reads
  cast-same x signed a h = moved x (e.Cast signed a) _ _ _ h (judge-Cast S signed a) (and-true (R a).constant) (append-nil (R a).reads)

  pub bin-same : (x : FlatExpr) (op : Op) (a b : FlatExpr) → x ≡ e.Bin op a b → Same (R x) ((R a).constant && (R b).constant) ((R a).reads ++ (R b).reads)
  bin-same x op a b h = moved x (e.Bin op a b) _ _ _ h (judge-Bin S op a b) (ap (λ u. (R a).constant && u) (and-true (R b).constant)) (ap (λ bs. (R a).reads ++ bs) (append-nil (R b).reads))

  pub div-same : (x a b : FlatExpr) → x ≡ e.Div a b → Same (R x) ((R a).constant && (R b).constant) ((R a).reads ++ (R b).reads)
  div-same x a b h = moved x (e.Div a b) _ _ _ h (judge-Div S a b) (ap (λ u. (R a).constant && u) (and-true (R b).constant)) (ap (λ bs. (R a).reads ++ bs) (append-nil (R b).reads))

  pub rem-same : (x a b : FlatExpr) → x ≡ e.Rem a b → Same (R x) ((R a).constant && (R b).constant) ((R a).reads ++ (R b).reads)
  rem-same x a b h = moved x (e.Rem a b) _ _ _ h (judge-Rem S a b) (ap (λ u. (R a).constant && u) (and-true (R b).constant)) (ap (λ bs. (R a).reads ++ bs) (append-nil (R b).reads))

  pub cond-same : (x c a b : FlatExpr) → x ≡ e.Cond c a b → Same (R x) ((R c).constant && ((R a).constant && (R b).constant)) ((R c).reads ++ ((R a).reads ++ (R b).reads))
  cond-same x c a b h =
      moved x (e.Cond c a b) _ _ _ h (judge-Cond S c a b) (ap (λ u. (R c).constant && ((R a).constant && u)) (and-true (R b).constant))
      (ap (λ bs. (R c).reads ++ ((R a).reads ++ bs)) (append-nil (R b).reads))

  abbrev pub all_reads : List FlatExpr → List Bit
  all_reads es = flat_map (λ (r : Reading). r.reads) (map R es)

  abbrev pub are_constant : List FlatExpr → Bool
  are_constant es = list_all (λ (r : Reading). r.constant) (map R es)

  pub cat-same : (x : FlatExpr) (es : List FlatExpr) → x ≡ e.Cat es → Same (R x) (are_constant es) (all_reads es)
  cat-same x es h =
      moved x (e.Cat es) _ _ _ h (judge-Cat S es) (ap (list_all (λ (r : Reading). r.constant)) (all-readings S es)) (ap (flat_map (λ (r : Reading). r.reads)) (all-readings S es))

  pub rep-same : (x : FlatExpr) (n : ℕ) (es : List FlatExpr) → x ≡ e.Rep n es → Same (R x) (are_constant es) (all_reads es)
  rep-same x n es h =
      moved x (e.Rep n es) _ _ _ h (judge-Rep S n es) (ap (list_all (λ (r : Reading). r.constant)) (all-readings S es)) (ap (flat_map (λ (r : Reading). r.reads)) (all-readings S es))

  -- ---- selects

  abbrev pub select_reads : FlatSelect → List Bit
  select_reads x = flat_map (λ (r : Reading). r.reads) (parts_of (judge_select S x).choice)

  abbrev pub select_constant : FlatSelect → Bool
  select_constant x = list_all (λ (r : Reading). r.constant) (parts_of (judge_select S x).choice)

  pub record SameSelect (x : FlatSelect) (c : Bool) (bs : List Bit) : Type 0 where
    pub constant : select_constant x ≡ c
    pub reads : select_reads x ≡ bs

  select-moved : (x y : FlatSelect) (j : JudgedSelect) (c : Bool) (bs : List Bit) → x ≡ y → judge_select S y ≡ j →
      list_all (λ (r : Reading). r.constant) (parts_of j.choice) ≡ c → flat_map (λ (r : Reading). r.reads) (parts_of j.choice) ≡ bs → SameSelect x c bs
  select-moved x y j c bs e f k r =
      let g : judge_select S x ≡ j = ap (judge_select S) e ∙ f in
      record {
        constant = ap (λ (q : JudgedSelect). list_all (λ (r : Reading). r.constant) (parts_of q.choice)) g ∙ k;
        reads = ap (λ (q : JudgedSelect). flat_map (λ (r : Reading). r.reads) (parts_of q.choice)) g ∙ r;
      }

  pub bit-same : (x : FlatSelect) (a : FlatExpr) → x ≡ s.Bit a → SameSelect x (R a).constant (R a).reads
  bit-same x a h = select-moved x (s.Bit a) _ _ _ h (judge_select-Bit S a) (and-true (R a).constant) (append-nil (R a).reads)

  pub part-same : (x : FlatSelect) (l r : ℕ) → x ≡ s.Part l r → SameSelect x true []
  part-same x l r h = select-moved x (s.Part l r) _ _ _ h (judge_select-Part S l r) refl refl

  pub up-same : (x : FlatSelect) (a : FlatExpr) (n : ℕ) → x ≡ s.Up a n → SameSelect x (R a).constant (R a).reads
  up-same x a n h = select-moved x (s.Up a n) _ _ _ h (judge_select-Up S a n) (and-true (R a).constant) (append-nil (R a).reads)

  pub down-same : (x : FlatSelect) (a : FlatExpr) (n : ℕ) → x ≡ s.Down a n → SameSelect x (R a).constant (R a).reads
  down-same x a n h = select-moved x (s.Down a n) _ _ _ h (judge_select-Down S a n) (and-true (R a).constant) (append-nil (R a).reads)

  -- ---- in loops

  pub adds-as : (x y : List Span) (m n : List Bit) → m ≡ n → Adds S x y n → Adds S x y m
  adds-as x y m n h a = subst (λ (b : List Bit). Adds S x y b) (sym h) a

  all-snoc : {A : Type 0} (p : A → Bool) (xs : List A) (x : A) → list_all p (xs ++ x ∷ []) ≡ (list_all p xs && p x)
  all-snoc p [] x = and-true (p x)
  all-snoc p (y ∷ ys) x = ap (λ u. p y && u) (all-snoc p ys x) ∙ assoc (p y) (list_all p ys) (p x)
    where
      assoc : (a b c : Bool) → (a && (b && c)) ≡ ((a && b) && c)
      assoc true b c = refl
      assoc false b c = refl

  map-snoc : {A B : Type 0} (f : A → B) (xs : List A) (x : A) → map f (xs ++ x ∷ []) ≡ map f xs ++ f x ∷ []
  map-snoc f [] x = refl
  map-snoc f (y ∷ ys) x = ap (λ zs. f y ∷ zs) (map-snoc f ys x)

  taken-more : {A : Type 0} (xs : List A) (i : ℕ) (x : A) → i < length xs → x ≡ get_or xs i x → take (i + 1) xs ≡ take i xs ++ x ∷ []
  taken-more xs i x lt h = let n : i + 1 ≡ suc i = omega arith in ap (λ k. take k xs) n ∙ (take-suc xs i x lt ∙ ap (λ y. take i xs ++ y ∷ []) (sym h))

  pub reads-more : (es : List FlatExpr) (i : ℕ) (x : FlatExpr) → i < length es → x ≡ get_or es i x → all_reads (take (i + 1) es) ≡ all_reads (take i es) ++ (R x).reads
  reads-more es i x lt h =
      ap all_reads (taken-more es i x lt h) ∙ (ap (flat_map (λ (r : Reading). r.reads)) (map-snoc R (take i es) x) ∙
      (flat_map-append (λ (r : Reading). r.reads) (map R (take i es)) (R x ∷ []) ∙ ap (λ bs. all_reads (take i es) ++ bs) (append-nil (R x).reads)))

  pub constant-more : (es : List FlatExpr) (i : ℕ) (x : FlatExpr) → i < length es → x ≡ get_or es i x → are_constant (take (i + 1) es) ≡ (are_constant (take i es) && (R x).constant)
  constant-more es i x lt h =
      ap are_constant (taken-more es i x lt h) ∙ (ap (list_all (λ (r : Reading). r.constant)) (map-snoc R (take i es) x) ∙ all-snoc (λ (r : Reading). r.constant) (map R (take i es)) (R x))

  abbrev J : FlatSelect → JudgedSelect
  J x = judge_select S x

  pub index-more : (ss : List FlatSelect) (i : ℕ) (x : FlatSelect) → i < length ss → x ≡ get_or ss i x →
      index_reads (taken S (take (i + 1) ss)) ≡ index_reads (taken S (take i ss)) ++ select_reads x
  index-more ss i x lt h =
      ap (λ xs. index_reads (taken S xs)) (taken-more ss i x lt h) ∙ (ap (λ cs. index_reads (map (λ (c : JudgedSelect). c.choice) cs)) (map-snoc J (take i ss) x) ∙
      (ap index_reads (map-snoc (λ (c : JudgedSelect). c.choice) (map J (take i ss)) (J x)) ∙
      (flat_map-append (λ (c : Choice). flat_map (λ (r : Reading). r.reads) (parts_of c)) (taken S (take i ss)) ((J x).choice ∷ []) ∙ ap (λ bs. index_reads (taken S (take i ss)) ++ bs)
      (append-nil (select_reads x)))))

  pub index-constant-more : (ss : List FlatSelect) (i : ℕ) (x : FlatSelect) → i < length ss → x ≡ get_or ss i x →
      all_constant (taken S (take (i + 1) ss)) ≡ (all_constant (taken S (take i ss)) && select_constant x)
  index-constant-more ss i x lt h =
      ap (λ xs. all_constant (taken S xs)) (taken-more ss i x lt h) ∙ (ap (λ cs. all_constant (map (λ (c : JudgedSelect). c.choice) cs)) (map-snoc J (take i ss) x) ∙
      (ap all_constant (map-snoc (λ (c : JudgedSelect). c.choice) (map J (take i ss)) (J x)) ∙
      all-snoc (λ (c : Choice). list_all (λ (r : Reading). r.constant) (parts_of c)) (taken S (take i ss)) (J x).choice))

  pub signal-selects : (x : FlatExpr) → is_good S x ≡ true → (k : ℕ) (ss : List FlatSelect) → x ≡ e.Signal k ss → good_selects (signal_at S k) (map (judge_select S) ss) ≡ true
  signal-selects x g k ss h =
      let j : judge S x ≡ judge_step S (FlatExpr-F.Signal k (map (judge_select S) ss)) = ap (judge S) h ∙ judge-Signal S k ss in
      let l = good-layer-of (FlatExpr-F.Signal k (map (judge_select S) ss)) (sym (ap (λ (i : Judged). i.good) j) ∙ g) in
      and-right (is_declared_sort (signal_at S k).sort) (good_selects (signal_at S k) (map (judge_select S) ss)) l
    where
      good-layer-of : (y : FlatExpr-F Judged JudgedSelect) → (judge_step S y).good ≡ true → layer_good S y ≡ true
      good-layer-of y h = and-right (is_width (judge_step S y).reading.meaning.width) (layer_good S y) h

  pub good-select-at : (ss : List FlatSelect) (i : ℕ) (x : FlatSelect) → i < length ss → x ≡ get_or ss i x → are_good_selects S ss ≡ true → is_good_select S x ≡ true
  good-select-at [] i x lt h g = absurd (omega (arith, lt))
  good-select-at (y ∷ ys) zero x lt h g = ap (is_good_select S) h ∙ and-left (is_good_select S y) (are_good_selects S ys) g
  good-select-at (y ∷ ys) (suc i) x lt h g = good-select-at ys i x (omega (arith, lt)) h (and-right (is_good_select S y) (are_good_selects S ys) g)

pub both-constant : {x y b c r : Bool} → x ≡ b → y ≡ c → r ≡ (b && c) → (x && y) ≡ r
both-constant {y = y} {b = b} h k e = ap (λ u. u && y) h ∙ (ap (λ u. b && u) k ∙ sym e)

pub all-three : {x y z a b c r : Bool} → x ≡ a → y ≡ b → z ≡ c → r ≡ (a && (b && c)) → (x && (y && z)) ≡ r
all-three h k l e = both-constant h (both-constant k l refl) e
