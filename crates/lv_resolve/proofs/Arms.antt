-- What each arm of the functions over a tree has to show.
use Rattle.std.proofs.Common.{◌≡◌, ℕ, Bool, true, false, not, ◌&&◌, ◌||◌, if◌then◌else◌, List, ◌++◌, ap, ◌∙◌, sym, subst, refl, map, arith, Err, Result, None, Option}
use Rattle.std.specs.Prelude.{IfOk, IfErr}
use Rattle.std.specs.List.{list_all}
use Rattle.lv_bits.specs.declared.op.Op.{Op}
use Rattle.lv_bits.specs.Values.{keeps_width, is_apart, is_unary}
use Rattle.lv_ast.specs.declared.expr.Literal.{Literal}
use Rattle.lv_ast.specs.declared.expr.Path.{Path}
use Rattle.lv_ast.specs.declared.expr.Expr.{Expr}
use Rattle.lv_ast.specs.declared.expr.Expr.TheVariants as tree
use Rattle.lv_ast.specs.declared.expr.Expr.TheOpen.{Expr-F}
use Rattle.lv_ast.specs.declared.expr.Select.{Select}
use Rattle.lv_source.specs.Names.{Here}
use Rattle.lv_source.specs.Sites.{Value, Walk, WalkStep, walk, walk_select, walk_step, first_place, fixed_sites}
use Rattle.lv_const.proofs.Walks.{walk-Lit, walk-Name, walk-Un, walk-Bin, walk-Div, walk-Rem, walk-Cond, walk-Cat, walk-Rep, walk-Cast}
use Rattle.lv_const.proofs.SamePlaces.{same-first}
use Rattle.lv_scopes.specs.declared.number.Number.{Number}
use Rattle.lv_flat.specs.Signals.{Signals}
use Rattle.lv_flat.specs.Judged.{no_names}
use Rattle.lv_resolve.specs.declared.error.ResolveError.{ResolveError}
use Rattle.lv_resolve.specs.declared.error.ResolveError.TheVariants as x
use Rattle.lv_resolve.specs.declared.form.Form.{Form}
use Rattle.lv_resolve.specs.declared.form.Pair.{Pair}
use Rattle.lv_resolve.specs.declared.form.Parts.{Parts}
use Rattle.lv_resolve.specs.Forms.{Told, HasForm, HasNoForm, FormAnswer, HasPair, PairAnswer, HasParts, IsFixed, NameAnswer, read_sites, operand_sites, operand_least, member_sites, settled_sites, wide, both_sites, both_width, both_signed, first_sites, first_least, pair_sites, pair_least, joined_all, has_operands, has_select_operands}
use Rattle.lv_resolve.specs.Joins.{IsUnary, IsBinary, IsDivision, IsNoDivision, IsChoice, IsCast, IsPair, IsConcatenation, IsTooWide, IsCounted, IsUncounted, IsLiteral, IsNoLiteral}
use Rattle.lv_resolve.specs.Picks.{copies_of}
use Rattle.lv_resolve.proofs.Nodes as nodes
use Rattle.lv_resolve.proofs.Nodes.{Answered, none-within}
use Rattle.lv_resolve.proofs.Covers.{within-first, within-second, told-within}
use Rattle.lv_resolve.proofs.PartLaws as parts
use Rattle.lv_resolve.proofs.OperandLaws.{ok-Lit, ok-Name, ok-Un, ok-Bin, ok-Div, ok-Rem, ok-Cond, ok-Cat, ok-Rep, ok-Cast}

module _ (S : Signals) (here : Here) (joined : Bool) where
  abbrev w : Expr → Walk
  w z = walk here.names z

  abbrev pub Formed : Expr → Result Form ResolveError → Type 0
  Formed z r = FormAnswer S here (read_sites joined (w z)) (wide (w z)) (w z) (has_operands z) r

  arm : (z y : Expr) (n : Expr-F Walk WalkStep) (ok : Bool) (r : Result Form ResolveError) → z ≡ y → w y ≡ walk_step here.names n → has_operands y ≡ ok →
      Answered S here joined n ok r → Formed z r
  arm z y n ok r e k o h = subst (λ u. Formed u r) (sym e)
      (subst (λ v. FormAnswer S here (read_sites joined v) (wide v) v (has_operands y) r) (sym k)
      (subst (λ b. FormAnswer S here (read_sites joined (walk_step here.names n)) (wide (walk_step here.names n)) (walk_step here.names n) b r) (sym o) h))

  moved : (a b : Expr) (p q : Bool) (f : Form) → a ≡ b → p ≡ q → HasForm S here (operand_sites p (w a)) (operand_least p (w a)) (w a) (has_operands a) f →
      HasForm S here (operand_sites q (w b)) (operand_least q (w b)) (w b) (has_operands b) f
  moved a b p q f e k h = subst (λ u. HasForm S here (operand_sites u (w b)) (operand_least u (w b)) (w b) (has_operands b) f) k
      (subst (λ u. HasForm S here (operand_sites p (w u)) (operand_least p (w u)) (w u) (has_operands u) f) e h)

  moved-none : (a : Expr) (p q : Bool) (y : ResolveError) → p ≡ q → HasNoForm here (operand_sites p (w a)) y → HasNoForm here (operand_sites q (w a)) y
  moved-none a p q y k h = subst (λ u. HasNoForm here (operand_sites u (w a)) y) k h

  pub at-Lit : (z : Expr) (l : Literal) (r : Result Form ResolveError) → z ≡ tree.Lit l → IfOk r (IsLiteral l joined) → IfErr r (IsNoLiteral l joined) → Formed z r
  at-Lit z l r e h k = arm z (tree.Lit l) (Expr-F.Lit l) true r e (walk-Lit here.names l) (ok-Lit l) (parts.lit-answer S here joined l r h k)

  pub at-Name : (z : Expr) (p : Path) (ss ts : List Select) (r : Result Form ResolveError) → z ≡ tree.Name p ss → ts ≡ ss →
      NameAnswer S here p (map (walk_select here.names) ts) (list_all has_select_operands ts) r → Formed z r
  at-Name z p ss ts r e k h = arm z (tree.Name p ss) (Expr-F.Name p (map (walk_select here.names) ss)) (list_all has_select_operands ss) r e (walk-Name here.names p ss)
      (ok-Name p ss) ((subst (λ us. NameAnswer S here p (map (walk_select here.names) us) (list_all has_select_operands us) r) k h).told joined)

  pub at-Un : (z : Expr) (op : Op) (a : Expr) (p : Bool) (f : Form) (r : Result Form ResolveError) → z ≡ tree.Un op a → p ≡ not (keeps_width op) →
      HasForm S here (operand_sites p (w a)) (operand_least p (w a)) (w a) (has_operands a) f → IfOk r (IsUnary op f) → IfErr r (λ y. y ≡ x.NoMemory) → Formed z r
  at-Un z op a p f r e k h i m = arm z (tree.Un op a) (Expr-F.Un op (w a)) (is_unary op && has_operands a) r e (walk-Un here.names op a) (ok-Un op a)
      (nodes.un-answer S here joined op (w a) (has_operands a) f r (moved a a p (not (keeps_width op)) f refl k h) i m)

  pub un-none : (z : Expr) (op : Op) (a : Expr) (p : Bool) (y : ResolveError) → z ≡ tree.Un op a → p ≡ not (keeps_width op) →
      HasNoForm here (operand_sites p (w a)) y → Formed z (Err y)
  un-none z op a p y e k h = arm z (tree.Un op a) (Expr-F.Un op (w a)) (is_unary op && has_operands a) (Err y) e (walk-Un here.names op a) (ok-Un op a)
      (nodes.un-none S here joined op (w a) (is_unary op && has_operands a) y (moved-none a p (not (keeps_width op)) y k h))

  pub at-Cast : (z : Expr) (signed : Bool) (a : Expr) (f : Form) (r : Result Form ResolveError) → z ≡ tree.Cast signed a →
      HasForm S here (operand_sites true (w a)) 0 (w a) (has_operands a) f → IfOk r (IsCast signed f) → IfErr r (λ y. y ≡ x.NoMemory) → Formed z r
  at-Cast z signed a f r e h i m = arm z (tree.Cast signed a) (Expr-F.Cast signed (w a)) (has_operands a) r e (walk-Cast here.names signed a) (ok-Cast signed a)
      (nodes.cast-answer S here joined signed (w a) (has_operands a) f r h i m)

  pub cast-none : (z : Expr) (signed : Bool) (a : Expr) (y : ResolveError) → z ≡ tree.Cast signed a → HasNoForm here (operand_sites true (w a)) y → Formed z (Err y)
  cast-none z signed a y e h = arm z (tree.Cast signed a) (Expr-F.Cast signed (w a)) (has_operands a) (Err y) e (walk-Cast here.names signed a) (ok-Cast signed a)
      (nodes.cast-none S here joined signed (w a) (has_operands a) y h)

  pub at-Bin : (z : Expr) (op : Op) (a b : Expr) (p : Pair) (r : Result Form ResolveError) → z ≡ tree.Bin op a b →
      HasPair S here (pair_sites op (w a) (w b)) (pair_least op (w a) (w b)) (w a) (w b) (has_operands a) (has_operands b) p → IfOk r (IsBinary op p) →
      IfErr r (λ y. y ≡ x.NoMemory) → Formed z r
  at-Bin z op a b p r e h i m = arm z (tree.Bin op a b) (Expr-F.Bin op (w a) (w b)) (not (is_unary op) && (has_operands a && has_operands b)) r e
      (walk-Bin here.names op a b) (ok-Bin op a b) (nodes.bin-answer S here joined op (w a) (w b) (has_operands a) (has_operands b) p r h i m)

  pub bin-none : (z : Expr) (op : Op) (a b : Expr) (y : ResolveError) → z ≡ tree.Bin op a b → HasNoForm here (pair_sites op (w a) (w b)) y → Formed z (Err y)
  bin-none z op a b y e h = arm z (tree.Bin op a b) (Expr-F.Bin op (w a) (w b)) (not (is_unary op) && (has_operands a && has_operands b)) (Err y) e
      (walk-Bin here.names op a b) (ok-Bin op a b) (nodes.bin-none S here joined op (w a) (w b) (not (is_unary op) && (has_operands a && has_operands b)) y h)

  -- where a division begins, and its divisor
  begins : (z : Expr) (y : Expr) (n : Expr-F Walk WalkStep) (place : ℕ) → z ≡ y → w y ≡ walk_step here.names n → place ≡ first_place (walk no_names z).shown →
      place ≡ first_place (walk_step here.names n).shown
  begins z y n place e k p = p ∙ (same-first no_names here.names z ∙ (ap (λ u. first_place (w u).shown) e ∙ ap (λ v. first_place v.shown) k))

  pub at-Div : (z a b c d : Expr) (start place : ℕ) (p : Pair) (r : Result Form ResolveError) → z ≡ tree.Div a b → c ≡ b → d ≡ b →
      start ≡ first_place (walk no_names z).shown → place ≡ first_place (walk no_names d).shown →
      HasPair S here (both_sites (w a) (w b)) (both_width (w a) (w b)) (w a) (w b) (has_operands a) (has_operands b) p → IfOk r (IsDivision false c place p) →
      IfErr r (IsNoDivision start p) → Formed z r
  at-Div z a b c d start place p r e f g s t h i m = arm z (tree.Div a b) (Expr-F.Div (w a) (w b)) (has_operands a && has_operands b) r e (walk-Div here.names a b) (ok-Div a b)
      (parts.div-answer S here joined (w a) (w b) (has_operands a) (has_operands b) c place (ap w f)
      (t ∙ (same-first no_names here.names d ∙ ap (λ u. first_place (w u).shown) g)) p h start r
      (begins z (tree.Div a b) (Expr-F.Div (w a) (w b)) start e (walk-Div here.names a b) s) i m)

  pub at-Rem : (z a b c d : Expr) (start place : ℕ) (p : Pair) (r : Result Form ResolveError) → z ≡ tree.Rem a b → c ≡ b → d ≡ b →
      start ≡ first_place (walk no_names z).shown → place ≡ first_place (walk no_names d).shown →
      HasPair S here (both_sites (w a) (w b)) (both_width (w a) (w b)) (w a) (w b) (has_operands a) (has_operands b) p → IfOk r (IsDivision true c place p) →
      IfErr r (IsNoDivision start p) → Formed z r
  at-Rem z a b c d start place p r e f g s t h i m = arm z (tree.Rem a b) (Expr-F.Rem (w a) (w b)) (has_operands a && has_operands b) r e (walk-Rem here.names a b) (ok-Rem a b)
      (parts.rem-answer S here joined (w a) (w b) (has_operands a) (has_operands b) c place (ap w f)
      (t ∙ (same-first no_names here.names d ∙ ap (λ u. first_place (w u).shown) g)) p h start r
      (begins z (tree.Rem a b) (Expr-F.Rem (w a) (w b)) start e (walk-Rem here.names a b) s) i m)

  pub div-none : (z a b : Expr) (y : ResolveError) → z ≡ tree.Div a b → HasNoForm here (both_sites (w a) (w b)) y → Formed z (Err y)
  div-none z a b y e h = arm z (tree.Div a b) (Expr-F.Div (w a) (w b)) (has_operands a && has_operands b) (Err y) e (walk-Div here.names a b) (ok-Div a b)
      (parts.div-none S here joined (w a) (w b) (has_operands a && has_operands b) y h)

  pub rem-none : (z a b : Expr) (y : ResolveError) → z ≡ tree.Rem a b → HasNoForm here (both_sites (w a) (w b)) y → Formed z (Err y)
  rem-none z a b y e h = arm z (tree.Rem a b) (Expr-F.Rem (w a) (w b)) (has_operands a && has_operands b) (Err y) e (walk-Rem here.names a b) (ok-Rem a b)
      (parts.rem-none S here joined (w a) (w b) (has_operands a && has_operands b) y h)

  pub at-Cond : (z c a b : Expr) (fc fa fb : Form) (r : Result Form ResolveError) → z ≡ tree.Cond c a b →
      HasForm S here (operand_sites true (w c)) 0 (w c) (has_operands c) fc → HasForm S here (operand_sites false (w a)) (wide (w a)) (w a) (has_operands a) fa →
      HasForm S here (operand_sites false (w b)) (wide (w b)) (w b) (has_operands b) fb → IfOk r (IsChoice fc fa fb) → IfErr r (λ y. y ≡ x.NoMemory) → Formed z r
  at-Cond z c a b fc fa fb r e g h i j m = arm z (tree.Cond c a b) (Expr-F.Cond (w c) (w a) (w b)) (has_operands c && (has_operands a && has_operands b)) r e
      (walk-Cond here.names c a b) (ok-Cond c a b)
      (parts.cond-answer S here joined (w c) (w a) (w b) (has_operands c) (has_operands a) (has_operands b) fc fa fb r g h i j m)

  cond-arm : (z c a b : Expr) (y : ResolveError) → z ≡ tree.Cond c a b → Answered S here joined (Expr-F.Cond (w c) (w a) (w b))
      (has_operands c && (has_operands a && has_operands b)) (Err y) → Formed z (Err y)
  cond-arm z c a b y e h = arm z (tree.Cond c a b) (Expr-F.Cond (w c) (w a) (w b)) (has_operands c && (has_operands a && has_operands b)) (Err y) e
      (walk-Cond here.names c a b) (ok-Cond c a b) h

  pub cond-first : (z c a b : Expr) (y : ResolveError) → z ≡ tree.Cond c a b → HasNoForm here (operand_sites true (w c)) y → Formed z (Err y)
  cond-first z c a b y e h = cond-arm z c a b y e (parts.cond-first S here joined (w c) (w a) (w b) _ y h)

  pub cond-second : (z c a b : Expr) (y : ResolveError) → z ≡ tree.Cond c a b → HasNoForm here (operand_sites false (w a)) y → Formed z (Err y)
  cond-second z c a b y e h = cond-arm z c a b y e (parts.cond-second S here joined (w c) (w a) (w b) _ y h)

  pub cond-third : (z c a b : Expr) (y : ResolveError) → z ≡ tree.Cond c a b → HasNoForm here (operand_sites false (w b)) y → Formed z (Err y)
  cond-third z c a b y e h = cond-arm z c a b y e (parts.cond-third S here joined (w c) (w a) (w b) _ y h)

  members : (es fs : List Expr) (p : Parts) → fs ≡ es → HasParts S here (map w fs) (list_all has_operands fs) p → HasParts S here (map w es) (list_all has_operands es) p
  members es fs p e h = subst (λ us. HasParts S here (map w us) (list_all has_operands us) p) e h

  pub at-Cat : (z : Expr) (es fs : List Expr) (p : Parts) (place : ℕ) (r : Result Form ResolveError) → z ≡ tree.Cat es → fs ≡ es →
      place ≡ first_place (walk no_names z).shown → HasParts S here (map w fs) (list_all has_operands fs) p → IfOk r (IsConcatenation p) →
      IfErr r (IsTooWide p.total place) → Formed z r
  at-Cat z es fs p place r e k s h i m = arm z (tree.Cat es) (Expr-F.Cat (map w es)) (list_all has_operands es) r e (walk-Cat here.names es) (ok-Cat es)
      (parts.cat-answer S here joined (map w es) (list_all has_operands es) p place r (begins z (tree.Cat es) (Expr-F.Cat (map w es)) place e (walk-Cat here.names es) s)
      (members es fs p k h) i m)

  pub cat-none : (z : Expr) (es fs : List Expr) (y : ResolveError) → z ≡ tree.Cat es → fs ≡ es → HasNoForm here (joined_all (map w fs)) y → Formed z (Err y)
  cat-none z es fs y e k h = arm z (tree.Cat es) (Expr-F.Cat (map w es)) (list_all has_operands es) (Err y) e (walk-Cat here.names es) (ok-Cat es)
      (parts.cat-none S here joined (map w es) (list_all has_operands es) y (subst (λ us. HasNoForm here (joined_all (map w us)) y) k h))

  pub at-Rep : (z n m : Expr) (es fs : List Expr) (num : Number) (o : Option ℕ) (p : Parts) (place : ℕ) (r : Result Form ResolveError) → z ≡ tree.Rep n es → m ≡ n → fs ≡ es →
      place ≡ first_place (walk no_names z).shown → IsFixed here (w m) num → HasParts S here (map w fs) (list_all has_operands fs) p → o ≡ copies_of num →
      IfOk r (IsCounted o p) → IfErr r (IsUncounted o p.total place) → Formed z r
  at-Rep z n m es fs num o p place r e f k s g h c i j = arm z (tree.Rep n es) (Expr-F.Rep (w n) (map w es)) (list_all has_operands es) r e (walk-Rep here.names n es) (ok-Rep n es)
      (parts.rep-answer S here joined (w n) num (subst (λ u. IsFixed here (w u) num) f g) (map w es) (list_all has_operands es) p (members es fs p k h) place r
      (begins z (tree.Rep n es) (Expr-F.Rep (w n) (map w es)) place e (walk-Rep here.names n es) s)
      (subst (λ q. IfOk r (IsCounted q p)) c i) (subst (λ q. IfErr r (IsUncounted q p.total place)) c j))

  pub rep-first : (z n m : Expr) (es : List Expr) (y : ResolveError) → z ≡ tree.Rep n es → m ≡ n → Told here (fixed_sites (w m)) y → Formed z (Err y)
  rep-first z n m es y e f h = arm z (tree.Rep n es) (Expr-F.Rep (w n) (map w es)) (list_all has_operands es) (Err y) e (walk-Rep here.names n es) (ok-Rep n es)
      (parts.rep-first S here joined (w n) (map w es) (list_all has_operands es) y (subst (λ u. Told here (fixed_sites (w u)) y) f h))

  pub rep-second : (z n : Expr) (es fs : List Expr) (y : ResolveError) → z ≡ tree.Rep n es → fs ≡ es → HasNoForm here (joined_all (map w fs)) y → Formed z (Err y)
  rep-second z n es fs y e k h = arm z (tree.Rep n es) (Expr-F.Rep (w n) (map w es)) (list_all has_operands es) (Err y) e (walk-Rep here.names n es) (ok-Rep n es)
      (parts.rep-second S here joined (w n) (map w es) (list_all has_operands es) y (subst (λ us. HasNoForm here (joined_all (map w us)) y) k h))

-- ---- operands

module _ (S : Signals) (here : Here) (z y : Expr) (e : z ≡ y) where
  pub operand-kept : (r : Result Form ResolveError) → FormAnswer S here (read_sites false (walk here.names z)) (wide (walk here.names z)) (walk here.names z) (has_operands z) r →
      FormAnswer S here (operand_sites false (walk here.names y)) (operand_least false (walk here.names y)) (walk here.names y) (has_operands y) r
  operand-kept r h = subst (λ u. FormAnswer S here (read_sites false (walk here.names u)) (wide (walk here.names u)) (walk here.names u) (has_operands u) r) e h

  pub operand-settled : (r : Result Form ResolveError) → FormAnswer S here (settled_sites (read_sites false (walk here.names z)) (walk here.names z)) 0 (walk here.names z) (has_operands z) r →
      FormAnswer S here (operand_sites true (walk here.names y)) (operand_least true (walk here.names y)) (walk here.names y) (has_operands y) r
  operand-settled r h = subst (λ u. FormAnswer S here (settled_sites (read_sites false (walk here.names u)) (walk here.names u)) 0 (walk here.names u) (has_operands u) r) e h

  -- told at its own width and sign, as at what reaches it
  pub operand-none : (full : Bool) (q : ResolveError) → HasNoForm here (read_sites false (walk here.names z)) q →
      FormAnswer S here (operand_sites full (walk here.names y)) (operand_least full (walk here.names y)) (walk here.names y) (has_operands y) (Err q)
  operand-none true q h = record {
    right = tt;
    wrong = record { told = λ W T. (subst (λ u. HasNoForm here (read_sites false (walk here.names u)) q) e h).told _ _ };
  }
  operand-none false q h = record { right = tt; wrong = subst (λ u. HasNoForm here (read_sites false (walk here.names u)) q) e h }

  pub at-full : (full : Bool) → full ≡ true → (r : Result Form ResolveError) →
      FormAnswer S here (settled_sites (read_sites false (walk here.names z)) (walk here.names z)) 0 (walk here.names z) (has_operands z) r →
      FormAnswer S here (operand_sites full (walk here.names y)) (operand_least full (walk here.names y)) (walk here.names y) (has_operands y) r
  at-full full k r h = subst (λ b. FormAnswer S here (operand_sites b (walk here.names y)) (operand_least b (walk here.names y)) (walk here.names y) (has_operands y) r) (sym k)
      (operand-settled r h)

  pub at-kept : (full : Bool) → full ≡ false → (r : Result Form ResolveError) →
      FormAnswer S here (read_sites false (walk here.names z)) (wide (walk here.names z)) (walk here.names z) (has_operands z) r →
      FormAnswer S here (operand_sites full (walk here.names y)) (operand_least full (walk here.names y)) (walk here.names y) (has_operands y) r
  at-kept full k r h = subst (λ b. FormAnswer S here (operand_sites b (walk here.names y)) (operand_least b (walk here.names y)) (walk here.names y) (has_operands y) r) (sym k)
      (operand-kept r h)

module _ (S : Signals) (here : Here) (z : Expr) where
  pub member-none : (q : ResolveError) → HasNoForm here (read_sites true (walk here.names z)) q →
      FormAnswer S here (member_sites (walk here.names z)) 0 (walk here.names z) (has_operands z) (Err q)
  member-none q h = record { right = tt; wrong = record { told = λ W T. h.told _ _ } }

-- ---- pairs

-- the same with the tests as variables
first-by : (here : Here) (k j : Bool) (u v : Walk) (y : ResolveError) → HasNoForm here (operand_sites (j && not k) u) y →
    HasNoForm here (λ W T. if k || j then operand_sites (j && not k) u W T ++ operand_sites j v W T else both_sites u v (both_width u v) (both_signed u v)) y
first-by here true true u v y h = none-within here _ _ y (λ W T. within-first (operand_sites false u W T) (operand_sites true v W T)) h
first-by here true false u v y h = none-within here _ _ y (λ W T. within-first (operand_sites false u W T) (operand_sites false v W T)) h
first-by here false true u v y h = none-within here _ _ y (λ W T. within-first (operand_sites true u W T) (operand_sites true v W T)) h
first-by here false false u v y h = record {
  told = λ W T. told-within here _ _ y (within-first (u.sites Value None (both_width u v) (both_signed u v)) (v.sites Value None (both_width u v) (both_signed u v)))
      (h.told (both_width u v) (both_signed u v));
}

second-by : (here : Here) (k j : Bool) (u v : Walk) (y : ResolveError) → HasNoForm here (operand_sites j v) y →
    HasNoForm here (λ W T. if k || j then operand_sites (j && not k) u W T ++ operand_sites j v W T else both_sites u v (both_width u v) (both_signed u v)) y
second-by here true true u v y h = none-within here _ _ y (λ W T. within-second (operand_sites false u W T) (operand_sites true v W T)) h
second-by here true false u v y h = none-within here _ _ y (λ W T. within-second (operand_sites false u W T) (operand_sites false v W T)) h
second-by here false true u v y h = none-within here _ _ y (λ W T. within-second (operand_sites true u W T) (operand_sites true v W T)) h
second-by here false false u v y h = record {
  told = λ W T. told-within here _ _ y (within-second (u.sites Value None (both_width u v) (both_signed u v)) (v.sites Value None (both_width u v) (both_signed u v)))
      (h.told (both_width u v) (both_signed u v));
}

module _ (S : Signals) (here : Here) (a b : Expr) where
  abbrev pub Both : Result Pair ResolveError → Type 0
  Both r = PairAnswer S here (both_sites (walk here.names a) (walk here.names b)) (both_width (walk here.names a) (walk here.names b)) (walk here.names a)
      (walk here.names b) (has_operands a) (has_operands b) r

  pub both-answer : (f g : Form) (r : Result Pair ResolveError) → HasForm S here (operand_sites false (walk here.names a)) (wide (walk here.names a)) (walk here.names a) (has_operands a) f →
      HasForm S here (operand_sites false (walk here.names b)) (wide (walk here.names b)) (walk here.names b) (has_operands b) g → IfOk r (IsPair f g) →
      IfErr r (λ y. y ≡ x.NoMemory) → Both r
  both-answer f g r h k i m = nodes.pair-answer S here (operand_sites false (walk here.names a)) (operand_sites false (walk here.names b)) (wide (walk here.names a))
      (wide (walk here.names b)) (both_width (walk here.names a) (walk here.names b)) (walk here.names a) (walk here.names b) (has_operands a) (has_operands b) f g r
      (omega arith) (omega arith) h k i m

  pub both-first : (y : ResolveError) → HasNoForm here (operand_sites false (walk here.names a)) y → Both (Err y)
  both-first y h = nodes.pair-first S here (operand_sites false (walk here.names a)) (operand_sites false (walk here.names b)) _ (walk here.names a) (walk here.names b) _ _ y h

  pub both-second : (y : ResolveError) → HasNoForm here (operand_sites false (walk here.names b)) y → Both (Err y)
  both-second y h = nodes.pair-second S here (operand_sites false (walk here.names a)) (operand_sites false (walk here.names b)) _ (walk here.names a) (walk here.names b) _ _ y h

  module _ (op : Op) (p q : Bool) (e : p ≡ (is_apart op && not (keeps_width op))) (f : q ≡ is_apart op) where
    abbrev u : Walk
    u = walk here.names a

    abbrev v : Walk
    v = walk here.names b

    pub first-answer : (fa fb : Form) (r : Result Pair ResolveError) → HasForm S here (operand_sites p u) (operand_least p u) u (has_operands a) fa →
        HasForm S here (operand_sites q v) (operand_least q v) v (has_operands b) fb → IfOk r (IsPair fa fb) → IfErr r (λ y. y ≡ x.NoMemory) →
        PairAnswer S here (first_sites op u v) (first_least op u v) u v (has_operands a) (has_operands b) r
    first-answer fa fb r h k i m = nodes.pair-answer S here (operand_sites (is_apart op && not (keeps_width op)) u) (operand_sites (is_apart op) v)
        (operand_least (is_apart op && not (keeps_width op)) u) (operand_least (is_apart op) v) (first_least op u v) u v (has_operands a) (has_operands b) fa fb r
        (nodes.left-least S here op u v) (nodes.right-least S here op u v)
        (subst (λ z. HasForm S here (operand_sites z u) (operand_least z u) u (has_operands a) fa) e h)
        (subst (λ z. HasForm S here (operand_sites z v) (operand_least z v) v (has_operands b) fb) f k) i m

    pub first-left : (y : ResolveError) → HasNoForm here (operand_sites p u) y → PairAnswer S here (pair_sites op u v) (pair_least op u v) u v (has_operands a) (has_operands b) (Err y)
    first-left y h = record { right = tt; wrong = first-by here (keeps_width op) (is_apart op) u v y (subst (λ z. HasNoForm here (operand_sites z u) y) e h) }

    pub first-right : (y : ResolveError) → HasNoForm here (operand_sites q v) y → PairAnswer S here (pair_sites op u v) (pair_least op u v) u v (has_operands a) (has_operands b) (Err y)
    first-right y h = record { right = tt; wrong = second-by here (keeps_width op) (is_apart op) u v y (subst (λ z. HasNoForm here (operand_sites z v) y) f h) }

    pub first-memory : (y : ResolveError) → y ≡ x.NoMemory → PairAnswer S here (pair_sites op u v) (pair_least op u v) u v (has_operands a) (has_operands b) (Err y)
    first-memory y h = record { right = tt; wrong = nodes.memory-none here (pair_sites op u v) y h }

-- ---- members

module _ (S : Signals) (here : Here) where
  pub member-settled : (z : Expr) (r : Result Form ResolveError) →
      FormAnswer S here (settled_sites (read_sites true (walk here.names z)) (walk here.names z)) 0 (walk here.names z) (has_operands z) r →
      FormAnswer S here (member_sites (walk here.names z)) 0 (walk here.names z) (has_operands z) r
  member-settled z r h = h
