-- The tree and the notes of each kind of node, from those of its operands.
use Rattle.std.proofs.Common.{◌≡◌, ℕ, ◌≤◌, max, Bool, true, false, not, ◌&&◌, if◌then◌else◌, ◌++◌, ap, ◌∙◌, sym, subst, refl, arith, inl, inr, Ok, Err, Result, None}
use Rattle.std.specs.Prelude.{IfOk, IfErr}
use Rattle.lv_bits.specs.declared.op.Op.{Op}
use Rattle.lv_bits.specs.Values.{keeps_width, is_apart, is_unary}
use Rattle.lv_ast.specs.declared.expr.Expr.TheOpen.{Expr-F}
use Rattle.lv_source.specs.Names.{Here}
use Rattle.lv_source.specs.Values.{Meaning, unary, binary}
use Rattle.lv_source.specs.Meaning.{Reading}
use Rattle.lv_source.specs.Sites.{Role, Value, Walk, WalkStep, walk_step, below_sites, own_sites}
use Rattle.lv_source.specs.NodeRules.{is_width}
use Rattle.lv_source.proofs.Bridges.{two}
use Rattle.lv_const.specs.Answers.{read_role}
use Rattle.lv_const.proofs.Told.{width_in}
use Rattle.lv_const.proofs.Numbers.{split}
use Rattle.lv_const.proofs.Owns.{site_of}
use Rattle.lv_flat.specs.declared.expr.FlatExpr.{FlatExpr}
use Rattle.lv_flat.specs.declared.expr.FlatExpr.TheVariants as e
use Rattle.lv_flat.specs.declared.expr.FlatExpr.TheOpen.{FlatExpr-F}
use Rattle.lv_flat.specs.Signals.{Signals}
use Rattle.lv_flat.specs.Judged.{Judged, JudgedSelect, judge, judge_step, reading, meaning, is_good, layer_good, layer_literal, layer_extends}
use Rattle.lv_flat.proofs.Judgements.{judge-Un, judge-Bin, judge-Cast}
use Rattle.lv_flat.proofs.ReadAlike as alike
use Rattle.lv_resolve.specs.declared.error.ResolveError.{ResolveError}
use Rattle.lv_resolve.specs.declared.error.ResolveError.TheVariants as x
use Rattle.lv_resolve.specs.declared.operand.Operand.{Operand}
use Rattle.lv_resolve.specs.declared.form.Form.{Form}
use Rattle.lv_resolve.specs.declared.form.Pair.{Pair}
use Rattle.lv_resolve.specs.Forms.{Sites, HasOperand, HasForm, HasNoForm, FormAnswer, HasPair, PairAnswer, read_sites, operand_sites, operand_least, wide, first_least, pair_sites, pair_least, walk_literal, walk_extends}
use Rattle.lv_resolve.specs.Joins.{IsTree, IsUnary, IsBinary, IsPair, IsCast, binary_width, binary_signed}
use Rattle.lv_resolve.proofs.Covers.{Within, within-same, within-first, within-second, within-below, within-then, told-within, no-memory, covered-same, covered-both, covered-node}

-- ---- tests

pub and-both : (a b : Bool) → a ≡ true → b ≡ true → a && b ≡ true
and-both true b h k = k
and-both false b h k = cc

pub and-left : (a b : Bool) → a && b ≡ true → a ≡ true
and-left true b h = refl
and-left false b h = h

pub and-right : (a b : Bool) → a && b ≡ true → b ≡ true
and-right true b h = h
and-right false b h = cc

pub and-true : (b : Bool) → b ≡ b && true
and-true true = refl
and-true false = refl

flip : {A : Type 0} (b : Bool) (p q : A) → (if not b then p else q) ≡ (if b then q else p)
flip true p q = refl
flip false p q = refl

-- ---- widths and signs

un-width : (op : Op) (m : Meaning) (n : ℕ) → n ≡ m.width → (if keeps_width op then n else 1) ≡ (unary op m).width
un-width op m n h = elim (split (keeps_width op)) [
  | inl k ↦ rw k h
  | inr k ↦ rw k refl
]

un-signed : (op : Op) (m : Meaning) (b : Bool) → b ≡ m.signed → (if keeps_width op then b else false) ≡ (unary op m).signed
un-signed op m b h = elim (split (keeps_width op)) [
  | inl k ↦ rw k h
  | inr k ↦ rw k refl
]

bin-width : (op : Op) (a b : Meaning) (n m : ℕ) → n ≡ a.width → m ≡ b.width → binary_width op n m ≡ (binary op a b).width
bin-width op a b n m h i = elim (split (keeps_width op)) [
  | inl k ↦ elim (split (is_apart op)) [
    | inl j ↦ rw (k, j) h
    | inr j ↦ rw (k, j) (two (λ (y z : ℕ). max y z) _ _ _ _ h i)
  ]
  | inr k ↦ elim (split (is_apart op)) [
    | inl j ↦ rw (k, j) refl
    | inr j ↦ rw (k, j) refl
  ]
]

bin-signed : (op : Op) (a b : Meaning) (n m : Bool) → n ≡ a.signed → m ≡ b.signed → binary_signed op n m ≡ (binary op a b).signed
bin-signed op a b n m h i = elim (split (keeps_width op)) [
  | inl k ↦ elim (split (is_apart op)) [
    | inl j ↦ rw (k, j) h
    | inr j ↦ rw (k, j) (two (λ (y z : Bool). y && z) _ _ _ _ h i)
  ]
  | inr k ↦ elim (split (is_apart op)) [
    | inl j ↦ rw (k, j) refl
    | inr j ↦ rw (k, j) refl
  ]
]

-- ---- trees

module _ (S : Signals) where
  pub good-by : (y : FlatExpr) (l : FlatExpr-F Judged JudgedSelect) → judge S y ≡ judge_step S l → is_width (meaning S y).width ≡ true →
      layer_good S l ≡ true → is_good S y ≡ true
  good-by y l q h k =
      ap (λ (j : Judged). j.good) q ∙
      and-both (is_width (judge_step S l).reading.meaning.width) (layer_good S l) (ap (λ (j : Judged). is_width j.reading.meaning.width) (sym q) ∙ h) k

  pub has-operand : (y : FlatExpr) (w : Walk) (ok : Bool) (n : ℕ) (s k : Bool) (o : Operand) → IsTree o y n s k → reading S y ≡ w.shown.reading →
      n ≡ wide w → s ≡ w.shown.reading.meaning.signed → k ≡ w.shown.reading.constant →
      (ok ≡ true → is_width (meaning S y).width ≡ true → is_good S y ≡ true) → (l : FlatExpr-F Judged JudgedSelect) → judge S y ≡ judge_step S l →
      layer_literal l ≡ walk_literal w → layer_extends l ≡ walk_extends w → HasOperand S w ok o
  has-operand y w ok n s k o t r a b c g l j p q = record {
    same = ap (reading S) t.tree ∙ r;
    good = λ h. subst (λ z. is_good S z ≡ true) (sym t.tree)
        (g h (ap (λ (z : Reading). is_width z.meaning.width) r ∙ (ap is_width (sym (t.wide ∙ a)) ∙ width_in o.width o.some o.most)));
    width = t.wide ∙ a;
    signed = t.typed ∙ b;
    constant = t.fixed ∙ c;
    literal = ap (λ z. (judge S z).literal) t.tree ∙ (ap (λ (v : Judged). v.literal) j ∙ p);
    extends = ap (λ z. (judge S z).extends) t.tree ∙ (ap (λ (v : Judged). v.extends) j ∙ q);
  }

  pub operand-width : (w : Walk) (ok : Bool) (o : Operand) → HasOperand S w ok o → is_width (wide w) ≡ true
  operand-width w ok o h = ap is_width (sym h.width) ∙ width_in o.width o.some o.most

-- ---- errors

module _ (here : Here) where
  pub memory-none : (s : Sites) (y : ResolveError) → y ≡ x.NoMemory → HasNoForm here s y
  memory-none s y h = subst (HasNoForm here s) (sym h) (record { told = λ W T. no-memory here (s W T) })

  pub none-within : (s t : Sites) (y : ResolveError) → ((W : ℕ) (T : Bool) → Within (s W T) (t W T)) → HasNoForm here s y → HasNoForm here t y
  none-within s t y h k = record { told = λ W T. told-within here (s W T) (t W T) y (h W T) (k.told W T) }

  pub node-none : (n : Expr-F Walk WalkStep) (role : Role) (s : Sites) (y : ResolveError) →
      ((W : ℕ) (T : Bool) → Within (s W T) (below_sites n role None W T)) → HasNoForm here s y →
      HasNoForm here (λ W T. (walk_step here.names n).sites role None W T) y
  node-none n role s y h k =
      none-within s (λ W T. (walk_step here.names n).sites role None W T) y
      (λ W T. within-then _ _ _ (h W T) (within-below (site_of here.names n role None W T) (below_sites n role None W T))) k

module _ (S : Signals) (here : Here) (joined : Bool) where
  abbrev node : Expr-F Walk WalkStep → Walk
  node n = walk_step here.names n

  abbrev pub Answered : Expr-F Walk WalkStep → Bool → Result Form ResolveError → Type 0
  Answered n ok r = FormAnswer S here (read_sites joined (node n)) (wide (node n)) (node n) ok r

  -- ---- one operand

  un-sites : (op : Op) (w : Walk) (W : ℕ) (T : Bool) → operand_sites (not (keeps_width op)) w W T ≡ below_sites (Expr-F.Un op w) (read_role joined) None W T
  un-sites op w W T = flip (keeps_width op) (own_sites Value None w) (w.sites Value None W T)

  un-least : (op : Op) (w : Walk) → operand_least (not (keeps_width op)) w ≤ wide (node (Expr-F.Un op w))
  un-least op w = elim (split (keeps_width op)) [
    | inl k ↦ rw k (omega arith)
    | inr k ↦ rw k (omega arith)
  ]

  un-node : (op : Op) (w : Walk) (ok : Bool) (a f : Form) → HasForm S here (operand_sites (not (keeps_width op)) w) (operand_least (not (keeps_width op)) w) w ok a →
      IsUnary op a f → HasForm S here (read_sites joined (node (Expr-F.Un op w))) (wide (node (Expr-F.Un op w))) (node (Expr-F.Un op w)) (is_unary op && ok) f
  un-node op w ok a f h i =
      let y : FlatExpr = e.Un op a.operand.expr in
      let o : HasOperand S (node (Expr-F.Un op w)) (is_unary op && ok) f.operand =
      has-operand S y (node (Expr-F.Un op w)) (is_unary op && ok) _ _ _ f.operand i.tree
      (alike.alike-Un S here.names op a.operand.expr w.shown.reading h.operand.same)
      (un-width op w.shown.reading.meaning a.operand.width h.operand.width) (un-signed op w.shown.reading.meaning a.operand.signed h.operand.signed)
      (h.operand.constant ∙ and-true w.shown.reading.constant)
      (λ k m. good-by S y (FlatExpr-F.Un op (judge S a.operand.expr)) (judge-Un S op a.operand.expr) m
      (and-both (is_unary op) (is_good S a.operand.expr) (and-left (is_unary op) ok k) (h.operand.good (and-right (is_unary op) ok k))))
      (FlatExpr-F.Un op (judge S a.operand.expr)) (judge-Un S op a.operand.expr) refl refl in
      let fits : is_width (wide (node (Expr-F.Un op w))) ≡ true = operand-width S (node (Expr-F.Un op w)) (is_unary op && ok) f.operand o in
      record {
        operand = o;
        cover = covered-same here _ _ _ _ _ _ _ _ (λ W T. refl) (omega arith) (sym i.notes.clocks) (sym i.notes.divisors)
            (covered-node here (Expr-F.Un op w) (read_role joined) (wide (node (Expr-F.Un op w))) a.notes.clocks a.notes.divisors
            (λ W T. record { clean = rw fits refl; clock = refl; zero = refl })
            (covered-same here _ _ _ _ _ _ _ _ (un-sites op w) (un-least op w) refl refl h.cover));
      }

  pub un-answer : (op : Op) (w : Walk) (ok : Bool) (a : Form) (r : Result Form ResolveError) →
      HasForm S here (operand_sites (not (keeps_width op)) w) (operand_least (not (keeps_width op)) w) w ok a → IfOk r (IsUnary op a) →
      IfErr r (λ y. y ≡ x.NoMemory) → Answered (Expr-F.Un op w) (is_unary op && ok) r
  un-answer op w ok a (Ok f) h i m = record { right = un-node op w ok a f h i; wrong = tt }
  un-answer op w ok a (Err y) h i m = record { right = tt; wrong = memory-none here (read_sites joined (node (Expr-F.Un op w))) y m }

  pub un-none : (op : Op) (w : Walk) (ok : Bool) (y : ResolveError) → HasNoForm here (operand_sites (not (keeps_width op)) w) y →
      Answered (Expr-F.Un op w) ok (Err y)
  un-none op w ok y h = record {
    right = tt;
    wrong = node-none here (Expr-F.Un op w) (read_role joined) (operand_sites (not (keeps_width op)) w) y (λ W T. within-same _ _ (un-sites op w W T)) h;
  }

  pub cast-answer : (signed : Bool) (w : Walk) (ok : Bool) (a : Form) (r : Result Form ResolveError) →
      HasForm S here (operand_sites true w) 0 w ok a → IfOk r (IsCast signed a) →
      IfErr r (λ y. y ≡ x.NoMemory) → Answered (Expr-F.Cast signed w) ok r
  cast-answer signed w ok a (Err y) h i m = record { right = tt; wrong = memory-none here (read_sites joined (node (Expr-F.Cast signed w))) y m }
  cast-answer signed w ok a (Ok f) h i m =
      let y : FlatExpr = e.Cast signed a.operand.expr in
      let o : HasOperand S (node (Expr-F.Cast signed w)) ok f.operand =
      has-operand S y (node (Expr-F.Cast signed w)) ok _ _ _ f.operand i.tree
      (alike.alike-Cast S here.names signed a.operand.expr w.shown.reading h.operand.same) h.operand.width refl
      (h.operand.constant ∙ and-true w.shown.reading.constant)
      (λ k m. good-by S y (FlatExpr-F.Cast signed (judge S a.operand.expr)) (judge-Cast S signed a.operand.expr) m (h.operand.good k))
      (FlatExpr-F.Cast signed (judge S a.operand.expr)) (judge-Cast S signed a.operand.expr) refl refl in
      let fits : is_width (wide (node (Expr-F.Cast signed w))) ≡ true = operand-width S (node (Expr-F.Cast signed w)) ok f.operand o in
      record {
        right = record {
          operand = o;
          cover = covered-same here _ _ _ _ _ _ _ _ (λ W T. refl) (omega arith) (sym i.notes.clocks) (sym i.notes.divisors)
              (covered-node here (Expr-F.Cast signed w) (read_role joined) 0 a.notes.clocks a.notes.divisors
              (λ W T. record { clean = rw fits refl; clock = refl; zero = refl }) h.cover);
        };
        wrong = tt;
      }

  pub cast-none : (signed : Bool) (w : Walk) (ok : Bool) (y : ResolveError) → HasNoForm here (operand_sites true w) y → Answered (Expr-F.Cast signed w) ok (Err y)
  cast-none signed w ok y h = record {
    right = tt;
    wrong = node-none here (Expr-F.Cast signed w) (read_role joined) (operand_sites true w) y (λ W T. within-same _ _ refl) h;
  }

  -- ---- two operands

  bin-sites : (op : Op) (a b : Walk) (W : ℕ) (T : Bool) → pair_sites op a b W T ≡ below_sites (Expr-F.Bin op a b) (read_role joined) None W T
  bin-sites op a b W T = elim (split (keeps_width op)) [
    | inl k ↦ elim (split (is_apart op)) [
      | inl j ↦ rw (k, j) refl
      | inr j ↦ rw (k, j) refl
    ]
    | inr k ↦ elim (split (is_apart op)) [
      | inl j ↦ rw (k, j) refl
      | inr j ↦ rw (k, j) refl
    ]
  ]

  bin-least : (op : Op) (a b : Walk) → pair_least op a b ≤ wide (node (Expr-F.Bin op a b))
  bin-least op a b = elim (split (keeps_width op)) [
    | inl k ↦ elim (split (is_apart op)) [
      | inl j ↦ rw (k, j) (omega arith)
      | inr j ↦ rw (k, j) (omega arith)
    ]
    | inr k ↦ rw k (omega arith)
  ]

  pub bin-answer : (op : Op) (a b : Walk) (oka okb : Bool) (p : Pair) (r : Result Form ResolveError) →
      HasPair S here (pair_sites op a b) (pair_least op a b) a b oka okb p → IfOk r (IsBinary op p) → IfErr r (λ y. y ≡ x.NoMemory) →
      Answered (Expr-F.Bin op a b) (not (is_unary op) && (oka && okb)) r
  bin-answer op a b oka okb p (Err y) h i m = record { right = tt; wrong = memory-none here (read_sites joined (node (Expr-F.Bin op a b))) y m }
  bin-answer op a b oka okb p (Ok f) h i m =
      let y : FlatExpr = e.Bin op p.left.expr p.right.expr in
      let n : Walk = node (Expr-F.Bin op a b) in
      let ok : Bool = not (is_unary op) && (oka && okb) in
      let o : HasOperand S n ok f.operand =
      has-operand S y n ok _ _ _ f.operand i.tree
      (alike.alike-Bin S here.names op p.left.expr p.right.expr a.shown.reading b.shown.reading h.left.same h.right.same)
      (bin-width op a.shown.reading.meaning b.shown.reading.meaning p.left.width p.right.width h.left.width h.right.width)
      (bin-signed op a.shown.reading.meaning b.shown.reading.meaning p.left.signed p.right.signed h.left.signed h.right.signed)
      (two (λ (j k : Bool). j && k) _ _ _ _ h.left.constant (h.right.constant ∙ and-true b.shown.reading.constant))
      (λ k m. good-by S y (FlatExpr-F.Bin op (judge S p.left.expr) (judge S p.right.expr)) (judge-Bin S op p.left.expr p.right.expr) m
      (and-both (not (is_unary op)) _ (and-left (not (is_unary op)) (oka && okb) k)
      (and-both (is_good S p.left.expr) (is_good S p.right.expr) (h.left.good (and-left oka okb (and-right (not (is_unary op)) (oka && okb) k)))
      (h.right.good (and-right oka okb (and-right (not (is_unary op)) (oka && okb) k))))))
      (FlatExpr-F.Bin op (judge S p.left.expr) (judge S p.right.expr)) (judge-Bin S op p.left.expr p.right.expr) refl refl in
      let fits : is_width (wide n) ≡ true = operand-width S n ok f.operand o in
      record {
        right = record {
          operand = o;
          cover = covered-same here _ _ _ _ _ _ _ _ (λ W T. refl) (omega arith) (sym i.notes.clocks) (sym i.notes.divisors)
              (covered-node here (Expr-F.Bin op a b) (read_role joined) (wide n) p.notes.clocks p.notes.divisors
              (λ W T. record { clean = rw fits refl; clock = refl; zero = refl })
              (covered-same here _ _ _ _ _ _ _ _ (bin-sites op a b) (bin-least op a b) refl refl h.cover));
        };
        wrong = tt;
      }

  pub bin-none : (op : Op) (a b : Walk) (ok : Bool) (y : ResolveError) → HasNoForm here (pair_sites op a b) y → Answered (Expr-F.Bin op a b) ok (Err y)
  bin-none op a b ok y h = record {
    right = tt;
    wrong = node-none here (Expr-F.Bin op a b) (read_role joined) (pair_sites op a b) y (λ W T. within-same _ _ (bin-sites op a b W T)) h;
  }

-- ---- two together

module _ (S : Signals) (here : Here) where
  pair-both : (s t : Sites) (n m l : ℕ) (a b : Walk) (oka okb : Bool) (f g : Form) (p : Pair) → n ≤ l → m ≤ l → HasForm S here s n a oka f →
      HasForm S here t m b okb g → IsPair f g p → HasPair S here (λ W T. s W T ++ t W T) l a b oka okb p
  pair-both s t n m l a b oka okb f g p u v h k i = record {
    left = subst (HasOperand S a oka) (sym i.left) h.operand;
    right = subst (HasOperand S b okb) (sym i.right) k.operand;
    cover = covered-same here _ _ _ _ _ _ _ _ (λ W T. refl) (omega arith) (sym i.notes.clocks) (sym i.notes.divisors)
        (covered-both here s t l f.notes.clocks g.notes.clocks f.notes.divisors g.notes.divisors
        (covered-same here s s n l f.notes.clocks f.notes.clocks f.notes.divisors f.notes.divisors (λ W T. refl) u refl refl h.cover)
        (covered-same here t t m l g.notes.clocks g.notes.clocks g.notes.divisors g.notes.divisors (λ W T. refl) v refl refl k.cover));
  }

  pub pair-answer : (s t : Sites) (n m l : ℕ) (a b : Walk) (oka okb : Bool) (f g : Form) (r : Result Pair ResolveError) → n ≤ l → m ≤ l →
      HasForm S here s n a oka f → HasForm S here t m b okb g → IfOk r (IsPair f g) → IfErr r (λ y. y ≡ x.NoMemory) →
      PairAnswer S here (λ W T. s W T ++ t W T) l a b oka okb r
  pair-answer s t n m l a b oka okb f g (Ok p) u v h k i j = record { right = pair-both s t n m l a b oka okb f g p u v h k i; wrong = tt }
  pair-answer s t n m l a b oka okb f g (Err y) u v h k i j = record { right = tt; wrong = memory-none here (λ W T. s W T ++ t W T) y j }

  pub pair-first : (s t : Sites) (l : ℕ) (a b : Walk) (oka okb : Bool) (y : ResolveError) → HasNoForm here s y →
      PairAnswer S here (λ W T. s W T ++ t W T) l a b oka okb (Err y)
  pair-first s t l a b oka okb y h = record { right = tt; wrong = none-within here s (λ W T. s W T ++ t W T) y (λ W T. within-first (s W T) (t W T)) h }

  pub pair-second : (s t : Sites) (l : ℕ) (a b : Walk) (oka okb : Bool) (y : ResolveError) → HasNoForm here t y →
      PairAnswer S here (λ W T. s W T ++ t W T) l a b oka okb (Err y)
  pair-second s t l a b oka okb y h = record { right = tt; wrong = none-within here t (λ W T. s W T ++ t W T) y (λ W T. within-second (s W T) (t W T)) h }

  pub left-least : (op : Op) (a b : Walk) → operand_least (is_apart op && not (keeps_width op)) a ≤ first_least op a b
  left-least op a b = elim (split (keeps_width op)) [
    | inl k ↦ elim (split (is_apart op)) [
      | inl j ↦ rw (k, j) (omega arith)
      | inr j ↦ rw (k, j) (omega arith)
    ]
    | inr k ↦ elim (split (is_apart op)) [
      | inl j ↦ rw (k, j) (omega arith)
      | inr j ↦ rw (k, j) (omega arith)
    ]
  ]

  pub right-least : (op : Op) (a b : Walk) → operand_least (is_apart op) b ≤ first_least op a b
  right-least op a b = elim (split (is_apart op)) [
    | inl j ↦ rw j (omega arith)
    | inr j ↦ rw j (omega arith)
  ]
