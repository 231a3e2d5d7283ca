-- What each arm on selects and names has to show.
use Rattle.std.proofs.Common.{inl, ◌≡◌, ℕ, zero, suc, Bool, true, false, ◌&&◌, List, [], ◌∷◌, ap, ◌∙◌, sym, subst, refl, map, length, get_or, arith, Ok, Err, Result, None, Some, Option}
use Rattle.std.specs.Prelude.{IfOk, IfErr, slice_get, if◌then◌else◌}
use Rattle.std.specs.List.{list_all}
use Rattle.lv_ast.specs.declared.expr.Path.{Path}
use Rattle.lv_ast.specs.declared.expr.Expr.{Expr}
use Rattle.lv_ast.specs.declared.expr.Expr.TheOpen.{Select-F}
use Rattle.lv_ast.specs.declared.expr.Select.{Select}
use Rattle.lv_ast.specs.declared.expr.Select.TheVariants as select
use Rattle.lv_source.specs.Names.{Here, Declared, Bounds, is_clock_sort}
use Rattle.lv_source.specs.NodeRules.{is_bit_step}
use Rattle.lv_source.specs.Parts.{is_declared_sort}
use Rattle.lv_source.specs.Sites.{Walk, WalkStep, walk, walk_select, fixed_sites, step_shown}
use Rattle.lv_const.specs.declared.consts.Entry.{Entry}
use Rattle.lv_const.specs.declared.constant.Const.{Const}
use Rattle.lv_const.specs.Constants.{names_of, declared_of, constant_of}
use Rattle.lv_const.proofs.Declared.{entry-known}
use Rattle.lv_const.proofs.Walks.{select-Bit, select-Part, select-Up, select-Down}
use Rattle.lv_scopes.specs.declared.number.Number.{Number}
use Rattle.lv_flat.specs.declared.signal.Signal.{Signal}
use Rattle.lv_flat.specs.declared.expr.FlatExpr.TheVariants as e
use Rattle.lv_flat.specs.Signals.{Signals, declared, declared_all, signal_at, sort_of}
use Rattle.lv_resolve.specs.declared.error.ResolveError.{ResolveError}
use Rattle.lv_resolve.specs.declared.error.ResolveError.TheVariants as x
use Rattle.lv_resolve.specs.declared.form.Form.{Form}
use Rattle.lv_resolve.specs.declared.picks.Head.{Head}
use Rattle.lv_resolve.specs.declared.picks.Pick.{Pick}
use Rattle.lv_resolve.specs.declared.picks.Picks.{Picks}
use Rattle.lv_resolve.specs.Places.{AreNames}
use Rattle.lv_resolve.specs.Forms.{Told, HasForm, HasNoForm, NameAnswer, IsFixed, operand_sites, has_operands, has_select_operands}
use Rattle.lv_resolve.specs.Picks.{IsHead, IsBit, IsPart, IsNoPart, IsRun, IsNoRun, HasPick, HasNoPick, PickAnswer, HasPicks, PicksAnswer, IsWhole, IsPicked, IsElement, IsElementBits, IsNamed, head_bounds, is_there}
use Rattle.lv_resolve.proofs.Covers.{told-within, within-first, within-second}
use Rattle.lv_resolve.proofs.LateLaws.{readable, unread-none, none-constant}
use Rattle.lv_resolve.proofs.PickLaws as pick
use Rattle.lv_resolve.proofs.NameLaws as name
use Rattle.lv_resolve.proofs.OperandLaws.{ok-Bit, ok-Part, ok-Up, ok-Down}

-- ---- lists by their length

nil-list : {A : Type 0} (ss : List A) → length ss ≡ 0 → ss ≡ []
nil-list [] h = refl
nil-list (s ∷ ss) h = absurd (omega (arith, h))

one-list : {A : Type 0} (ss : List A) (s : A) → length ss ≡ 1 → s ≡ get_or ss 0 s → ss ≡ s ∷ []
one-list [] s h e = absurd (omega (arith, h))
one-list (t ∷ []) s h e = ap (λ u. u ∷ []) (sym e)
one-list (t ∷ (u ∷ us)) s h e = absurd (omega (arith, h))

two-list : {A : Type 0} (ss : List A) (s t : A) → length ss ≡ 2 → s ≡ get_or ss 0 s → t ≡ get_or ss 1 t → ss ≡ s ∷ t ∷ []
two-list [] s t h e f = absurd (omega (arith, h))
two-list (a ∷ []) s t h e f = absurd (omega (arith, h))
two-list (a ∷ (b ∷ [])) s t h e f = ap (λ u. u ∷ b ∷ []) (sym e) ∙ ap (λ u. s ∷ u ∷ []) (sym f)
two-list (a ∷ (b ∷ (c ∷ us))) s t h e f = absurd (omega (arith, h))

record Starts {A : Type 0} (ss : List A) (s : A) : Type 0 where
  rest : List A
  same : ss ≡ s ∷ rest

starts : {A : Type 0} (ss : List A) (s : A) → (length ss ≡ 0 → ⊥) → s ≡ get_or ss 0 s → Starts ss s
starts [] s h e = absurd (h refl)
starts (t ∷ ts) s h e = record { rest = ts; same = ap (λ u. u ∷ ts) (sym e) }

record IsArray (o : Option Bounds) : Type 0 where
  bounds : Bounds
  same : o ≡ Some bounds

is-array : (o : Option Bounds) → is_there o ≡ true → IsArray o
is-array None h = cc
is-array (Some b) h = record { bounds = b; same = refl }

no-array : (o : Option Bounds) → is_there o ≡ false → o ≡ None
no-array None h = refl
no-array (Some b) h = cc

-- ---- one select

module _ (S : Signals) (here : Here) (h : Head) (at : ℕ) where
  abbrev pub PickOf : Select → Result Pick ResolveError → Type 0
  PickOf s r = PickAnswer S here (head_bounds h) (has_select_operands s) (walk_select here.names s) at r

  arm : (s t : Select) (w : WalkStep) (ok : Bool) (r : Result Pick ResolveError) → s ≡ t → walk_select here.names t ≡ w → has_select_operands t ≡ ok →
      PickAnswer S here (head_bounds h) ok w at r → PickOf s r
  arm s t w ok r e k o g = subst (λ u. PickOf u r) (sym e) (subst (λ v. PickAnswer S here (head_bounds h) (has_select_operands t) v at r) (sym k)
      (subst (λ b. PickAnswer S here (head_bounds h) b w at r) (sym o) g))

  pub at-Bit : (s : Select) (a : Expr) (i : Form) (r : Result Pick ResolveError) → s ≡ select.Bit a →
      HasForm S here (operand_sites true (walk here.names a)) 0 (walk here.names a) (has_operands a) i → IfOk r (IsBit i) → IfErr r (λ y. y ≡ x.NoMemory) → PickOf s r
  at-Bit s a i r e g k m = arm s (select.Bit a) (Select-F.Bit (walk here.names a)) (has_operands a) r e (select-Bit here.names a) (ok-Bit a)
      (pick.bit-answer S here h (walk here.names a) (has_operands a) at i r g k m)

  pub bit-none : (s : Select) (a : Expr) (y : ResolveError) → s ≡ select.Bit a → HasNoForm here (operand_sites true (walk here.names a)) y → PickOf s (Err y)
  bit-none s a y e g = arm s (select.Bit a) (Select-F.Bit (walk here.names a)) (has_operands a) (Err y) e (select-Bit here.names a) (ok-Bit a)
      (record { right = tt; wrong = inl (g.told 0 true) })

  pub at-Part : (s : Select) (a b c d : Expr) (l k : Number) (r : Result Pick ResolveError) → s ≡ select.Part a b → c ≡ a → d ≡ b → IsFixed here (walk here.names c) l →
      IsFixed here (walk here.names d) k → IfOk r (IsPart h l k) → IfErr r (IsNoPart h l k at) → PickOf s r
  at-Part s a b c d l k r e i j g f o m = arm s (select.Part a b) (Select-F.Part (walk here.names a) (walk here.names b)) true r e (select-Part here.names a b) (ok-Part a b)
      (pick.part-answer S here h (walk here.names a) (walk here.names b) l k true at (subst (λ u. IsFixed here (walk here.names u) l) i g)
      (subst (λ u. IsFixed here (walk here.names u) k) j f) r o m)

  pub part-first : (s : Select) (a b c : Expr) (y : ResolveError) → s ≡ select.Part a b → c ≡ a → Told here (fixed_sites (walk here.names c)) y → PickOf s (Err y)
  part-first s a b c y e i g = arm s (select.Part a b) (Select-F.Part (walk here.names a) (walk here.names b)) true (Err y) e (select-Part here.names a b) (ok-Part a b)
      (record {
        right = tt;
        wrong = inl (told-within here _ _ y (within-first (fixed_sites (walk here.names a)) (fixed_sites (walk here.names b)))
            (subst (λ u. Told here (fixed_sites (walk here.names u)) y) i g));
      })

  pub part-second : (s : Select) (a b d : Expr) (y : ResolveError) → s ≡ select.Part a b → d ≡ b → Told here (fixed_sites (walk here.names d)) y → PickOf s (Err y)
  part-second s a b d y e i g = arm s (select.Part a b) (Select-F.Part (walk here.names a) (walk here.names b)) true (Err y) e (select-Part here.names a b) (ok-Part a b)
      (record {
        right = tt;
        wrong = inl (told-within here _ _ y (within-second (fixed_sites (walk here.names a)) (fixed_sites (walk here.names b)))
            (subst (λ u. Told here (fixed_sites (walk here.names u)) y) i g));
      })

  pub at-Up : (s : Select) (a b d : Expr) (n : Number) (i : Form) (r : Result Pick ResolveError) → s ≡ select.Up a b → d ≡ b →
      HasForm S here (operand_sites true (walk here.names a)) 0 (walk here.names a) (has_operands a) i → IsFixed here (walk here.names d) n → IfOk r (IsRun true i n) →
      IfErr r (IsNoRun n at) → PickOf s r
  at-Up s a b d n i r e j g f o m = arm s (select.Up a b) (Select-F.Up (walk here.names a) (walk here.names b)) (has_operands a) r e (select-Up here.names a b) (ok-Up a b)
      (pick.up-answer S here h (walk here.names a) (walk here.names b) n (has_operands a) at i g (subst (λ u. IsFixed here (walk here.names u) n) j f) r o m)

  pub at-Down : (s : Select) (a b d : Expr) (n : Number) (i : Form) (r : Result Pick ResolveError) → s ≡ select.Down a b → d ≡ b →
      HasForm S here (operand_sites true (walk here.names a)) 0 (walk here.names a) (has_operands a) i → IsFixed here (walk here.names d) n → IfOk r (IsRun false i n) →
      IfErr r (IsNoRun n at) → PickOf s r
  at-Down s a b d n i r e j g f o m = arm s (select.Down a b) (Select-F.Down (walk here.names a) (walk here.names b)) (has_operands a) r e (select-Down here.names a b) (ok-Down a b)
      (pick.down-answer S here h (walk here.names a) (walk here.names b) n (has_operands a) at i g (subst (λ u. IsFixed here (walk here.names u) n) j f) r o m)

  pub up-first : (s : Select) (a b : Expr) (y : ResolveError) → s ≡ select.Up a b → HasNoForm here (operand_sites true (walk here.names a)) y → PickOf s (Err y)
  up-first s a b y e g = arm s (select.Up a b) (Select-F.Up (walk here.names a) (walk here.names b)) (has_operands a) (Err y) e (select-Up here.names a b) (ok-Up a b)
      (record { right = tt; wrong = inl (told-within here _ _ y (within-first (operand_sites true (walk here.names a) 0 true) (fixed_sites (walk here.names b))) (g.told 0 true)) })

  pub up-second : (s : Select) (a b d : Expr) (y : ResolveError) → s ≡ select.Up a b → d ≡ b → Told here (fixed_sites (walk here.names d)) y → PickOf s (Err y)
  up-second s a b d y e i g = arm s (select.Up a b) (Select-F.Up (walk here.names a) (walk here.names b)) (has_operands a) (Err y) e (select-Up here.names a b) (ok-Up a b)
      (record {
        right = tt;
        wrong = inl (told-within here _ _ y (within-second (operand_sites true (walk here.names a) 0 true) (fixed_sites (walk here.names b)))
            (subst (λ u. Told here (fixed_sites (walk here.names u)) y) i g));
      })

  pub down-first : (s : Select) (a b : Expr) (y : ResolveError) → s ≡ select.Down a b → HasNoForm here (operand_sites true (walk here.names a)) y → PickOf s (Err y)
  down-first s a b y e g = arm s (select.Down a b) (Select-F.Down (walk here.names a) (walk here.names b)) (has_operands a) (Err y) e (select-Down here.names a b) (ok-Down a b)
      (record { right = tt; wrong = inl (told-within here _ _ y (within-first (operand_sites true (walk here.names a) 0 true) (fixed_sites (walk here.names b))) (g.told 0 true)) })

  pub down-second : (s : Select) (a b d : Expr) (y : ResolveError) → s ≡ select.Down a b → d ≡ b → Told here (fixed_sites (walk here.names d)) y → PickOf s (Err y)
  down-second s a b d y e i g = arm s (select.Down a b) (Select-F.Down (walk here.names a) (walk here.names b)) (has_operands a) (Err y) e (select-Down here.names a b) (ok-Down a b)
      (record {
        right = tt;
        wrong = inl (told-within here _ _ y (within-second (operand_sites true (walk here.names a) 0 true) (fixed_sites (walk here.names b)))
            (subst (λ u. Told here (fixed_sites (walk here.names u)) y) i g));
      })

-- ---- all selects of a name

module _ (S : Signals) (here : Here) (d : Declared) (h : Head) (hd : IsHead d h) (at : ℕ) where
  abbrev pub Picked : List Select → Result Picks ResolveError → Type 0
  Picked ss r = PicksAnswer S here d (list_all has_select_operands ss) (map (walk_select here.names) ss) at r

  as-list : (ss ts : List Select) (r : Result Picks ResolveError) → ss ≡ ts → Picked ts r → Picked ss r
  as-list ss ts r k g = subst (λ us. Picked us r) (sym k) g

  ranged-is : (b : Bool) → h.ranged ≡ b → d.ranged ≡ b
  ranged-is b k = hd.ranged ∙ k

  module _ (plain : h.array ≡ false) where
    none : d.array ≡ None
    none = no-array d.array (hd.array ∙ plain)

    pub at-whole : (ss : List Select) (p : Picks) → length ss ≡ 0 → IsWhole h p → Picked ss (Ok p)
    at-whole ss p k i = as-list ss [] (Ok p) (nil-list ss k) (name.whole-answer S here d h hd at none p i)

    pub at-many : (ss : List Select) → (length ss ≡ 0 → ⊥) → (length ss ≡ 1 → ⊥) → Picked ss (Err (x.Range at))
    at-many [] k m = absurd (k refl)
    at-many (s ∷ []) k m = absurd (m refl)
    at-many (s ∷ (t ∷ us)) k m = name.many S here d h hd at none (walk_select here.names s) (walk_select here.names t) (map (walk_select here.names) us) _

    pub at-unranged : (ss : List Select) → (length ss ≡ 0 → ⊥) → h.ranged ≡ false → Picked ss (Err (x.Range at))
    at-unranged [] k m = absurd (k refl)
    at-unranged (s ∷ ss) k m = name.unranged S here d h hd at none (walk_select here.names s) (map (walk_select here.names) ss) _ (ranged-is false m)

    pub at-one : (ss : List Select) (s : Select) (k : Pick) (r : Result Picks ResolveError) → length ss ≡ 1 → s ≡ get_or ss 0 s → h.ranged ≡ true →
        HasPick S here (head_bounds h) (has_select_operands s) (walk_select here.names s) k → IfOk r (IsPicked h k) → IfErr r (λ y. y ≡ x.NoMemory) → Picked ss r
    at-one ss s k r l e ra g i m = as-list ss (s ∷ []) r (one-list ss s l e)
        (name.one-answer S here d h hd at none (walk_select here.names s) (has_select_operands s) k r (ranged-is true ra) g i m)

    pub at-one_none : (ss : List Select) (s : Select) (y : ResolveError) → length ss ≡ 1 → s ≡ get_or ss 0 s → h.ranged ≡ true →
        HasNoPick here (head_bounds h) (walk_select here.names s) at y → Picked ss (Err y)
    at-one_none ss s y l e ra g = as-list ss (s ∷ []) (Err y) (one-list ss s l e)
        (name.one-none S here d h hd at none (walk_select here.names s) (has_select_operands s) y (ranged-is true ra) g)

  module _ (arr : h.array ≡ true) where
    found : IsArray d.array
    found = is-array d.array (hd.array ∙ arr)

    pub array-none : (ss : List Select) → length ss ≡ 0 → Picked ss (Err (x.UnknownName at))
    array-none ss k = as-list ss [] (Err (x.UnknownName at)) (nil-list ss k) (name.nothing S here d h hd at found.bounds found.same true)

    array-other : (ss : List Select) (s : Select) → (length ss ≡ 0 → ⊥) → s ≡ get_or ss 0 s → is_bit_step (step_shown (walk_select here.names s)) ≡ false →
        Picked ss (Err (x.UnknownName at))
    array-other ss s k e n = let q : Starts ss s = starts ss s k e in as-list ss (s ∷ q.rest) (Err (x.UnknownName at)) q.same
        (name.no-element S here d h hd at found.bounds found.same (walk_select here.names s) (map (walk_select here.names) q.rest) _ n)

    pub array-part : (ss : List Select) (s : Select) (a b : Expr) → (length ss ≡ 0 → ⊥) → s ≡ get_or ss 0 s → s ≡ select.Part a b → Picked ss (Err (x.UnknownName at))
    array-part ss s a b k e f = array-other ss s k e (ap (λ u. is_bit_step (step_shown (walk_select here.names u))) f ∙ ap (λ v. is_bit_step (step_shown v)) (select-Part here.names a b))

    pub array-up : (ss : List Select) (s : Select) (a b : Expr) → (length ss ≡ 0 → ⊥) → s ≡ get_or ss 0 s → s ≡ select.Up a b → Picked ss (Err (x.UnknownName at))
    array-up ss s a b k e f = array-other ss s k e (ap (λ u. is_bit_step (step_shown (walk_select here.names u))) f ∙ ap (λ v. is_bit_step (step_shown v)) (select-Up here.names a b))

    pub array-down : (ss : List Select) (s : Select) (a b : Expr) → (length ss ≡ 0 → ⊥) → s ≡ get_or ss 0 s → s ≡ select.Down a b → Picked ss (Err (x.UnknownName at))
    array-down ss s a b k e f = array-other ss s k e (ap (λ u. is_bit_step (step_shown (walk_select here.names u))) f ∙ ap (λ v. is_bit_step (step_shown v)) (select-Down here.names a b))

    module _ (a : Expr) where
      abbrev w : Walk
      w = walk here.names a

      -- a list that begins with the select of an element
      begun : (s : Select) (ts : List Select) (ok : Bool) (r : Result Picks ResolveError) → s ≡ select.Bit a →
          PicksAnswer S here d (has_operands a && list_all has_select_operands ts) (Select-F.Bit w ∷ map (walk_select here.names) ts) at r → Picked (s ∷ ts) r
      begun s ts ok r e g = subst (λ u. Picked (u ∷ ts) r) (sym e)
          (subst (λ v. PicksAnswer S here d (has_select_operands (select.Bit a) && list_all has_select_operands ts) (v ∷ map (walk_select here.names) ts) at r) (sym (select-Bit here.names a))
          (subst (λ b. PicksAnswer S here d (b && list_all has_select_operands ts) (Select-F.Bit w ∷ map (walk_select here.names) ts) at r) (sym (ok-Bit a)) g))

      pub array-index_none : (ss : List Select) (s : Select) (y : ResolveError) → (length ss ≡ 0 → ⊥) → s ≡ get_or ss 0 s → s ≡ select.Bit a →
          HasNoForm here (operand_sites true w) y → Picked ss (Err y)
      array-index_none ss s y k e f g = let q : Starts ss s = starts ss s k e in as-list ss (s ∷ q.rest) (Err y) q.same
          (begun s q.rest true (Err y) f (name.index-none S here d h hd at found.bounds found.same w (map (walk_select here.names) q.rest) _ y g))

      pub array-element : (ss : List Select) (s : Select) (i : Form) (r : Result Picks ResolveError) → length ss ≡ 1 → s ≡ get_or ss 0 s → s ≡ select.Bit a →
          HasForm S here (operand_sites true w) 0 w (has_operands a) i → IfOk r (IsElement h i) → IfErr r (λ y. y ≡ x.NoMemory) → Picked ss r
      array-element ss s i r l e f g o m = as-list ss (s ∷ []) r (one-list ss s l e)
          (begun s [] true r f (name.element-answer S here d h hd at found.bounds found.same w (has_operands a) i g r o m))

      pub array-many : (ss : List Select) (s : Select) → (length ss ≡ 0 → ⊥) → (length ss ≡ 1 → ⊥) → (length ss ≡ 2 → ⊥) → s ≡ get_or ss 0 s → s ≡ select.Bit a →
          Picked ss (Err (x.Range at))
      array-many [] s k l m e f = absurd (k refl)
      array-many (t ∷ []) s k l m e f = absurd (l refl)
      array-many (t ∷ (u ∷ [])) s k l m e f = absurd (m refl)
      array-many (t ∷ (u ∷ (v ∷ vs))) s k l m e f = begun t (u ∷ (v ∷ vs)) true (Err (x.Range at)) (sym e ∙ f)
          (name.element-many S here d h hd at found.bounds found.same w (walk_select here.names u) (walk_select here.names v) (map (walk_select here.names) vs) _)

      pub array-unranged : (ss : List Select) (s : Select) → (length ss ≡ 0 → ⊥) → (length ss ≡ 1 → ⊥) → s ≡ get_or ss 0 s → s ≡ select.Bit a → h.ranged ≡ false →
          Picked ss (Err (x.Range at))
      array-unranged [] s k l e f m = absurd (k refl)
      array-unranged (t ∷ []) s k l e f m = absurd (l refl)
      array-unranged (t ∷ (u ∷ us)) s k l e f m = begun t (u ∷ us) true (Err (x.Range at)) (sym e ∙ f)
          (name.element-unranged S here d h hd at found.bounds found.same w (walk_select here.names u) (map (walk_select here.names) us) _ (ranged-is false m))

      pub array-bits_none : (ss : List Select) (s t : Select) (i : Form) (y : ResolveError) → length ss ≡ 2 → s ≡ get_or ss 0 s → t ≡ get_or ss 1 t → s ≡ select.Bit a →
          h.ranged ≡ true → HasForm S here (operand_sites true w) 0 w (has_operands a) i → HasNoPick here (head_bounds h) (walk_select here.names t) at y → Picked ss (Err y)
      array-bits_none ss s t i y l e u f ra g o = as-list ss (s ∷ t ∷ []) (Err y) (two-list ss s t l e u)
          (begun s (t ∷ []) true (Err y) f
          (name.bits-none S here d h hd at found.bounds found.same w (has_operands a) i g (walk_select here.names t) _ y (ranged-is true ra) o))

      pub array-bits : (ss : List Select) (s t : Select) (i : Form) (k : Pick) (r : Result Picks ResolveError) → length ss ≡ 2 → s ≡ get_or ss 0 s → t ≡ get_or ss 1 t →
          s ≡ select.Bit a → h.ranged ≡ true → HasForm S here (operand_sites true w) 0 w (has_operands a) i →
          HasPick S here (head_bounds h) (has_select_operands t) (walk_select here.names t) k → IfOk r (IsElementBits h i k) → IfErr r (λ y. y ≡ x.NoMemory) → Picked ss r
      array-bits ss s t i k r l e u f ra g o z m = as-list ss (s ∷ t ∷ []) r (two-list ss s t l e u)
          (begun s (t ∷ []) true r f
          (name.bits-answer S here d h hd at found.bounds found.same w (has_operands a) i g (walk_select here.names t) (has_select_operands t) k r (ranged-is true ra) o z m))

-- ---- names

pub no-signal : (ss : List Signal) (k : ℕ) → None ≡ slice_get ss k → is_declared_sort (signal_at (declared_all ss) k).sort ≡ true → ⊥
no-signal [] k h d = cc
no-signal (s ∷ ss) zero h d = cc
no-signal (s ∷ ss) (suc k) h d = no-signal ss k h d

abbrev pub signal_or : Signal → Option Signal → Signal
signal_or s None = s
signal_or s (Some t) = t

pub the-signal : (ss : List Signal) (k : ℕ) (s : Signal) → Some s ≡ slice_get ss k → signal_at (declared_all ss) k ≡ declared s
the-signal [] k s h = cc
the-signal (t ∷ ss) zero s h = ap (λ o. declared (signal_or s o)) (sym h)
the-signal (t ∷ ss) (suc k) s h = the-signal ss k s h

module _ (ss : List Signal) (find : Path → Option ℕ) (all early : List Entry) (here : Here) (ok : AreNames (declared_all ss) find all early here) (path : Path)
    (ts : List Select) where
  abbrev S : Signals
  S = declared_all ss

  abbrev pub Named : Result Form ResolveError → Type 0
  Named r = NameAnswer S here path (map (walk_select here.names) ts) (list_all has_select_operands ts) r

  pub no-number : (k : ℕ) (r : Result Form ResolveError) → Some k ≡ find path → None ≡ slice_get ss k → Named r
  no-number k r f h = absurd (no-signal ss k h (ok.declared path k (sym f)))

  module _ (k : ℕ) (s : Signal) (f : Some k ≡ find path) (h : Some s ≡ slice_get ss k) where
    same-signal : signal_at S k ≡ declared s
    same-signal = the-signal ss k s h

    pub signal-none : (hd : Head) (y : ResolveError) → IsHead (declared s) hd →
        ((d : Declared) → IsHead d hd → PicksAnswer S here d (list_all has_select_operands ts) (map (walk_select here.names) ts) path.place (Err y)) → Named (Err y)
    signal-none hd y i g = name.picks-wrong S here path (map (walk_select here.names) ts) (list_all has_select_operands ts) (declared s) y
        (ok.found path k (sym f) ∙ ap Some same-signal) (readable (declared s).sort (ap (λ d. is_declared_sort d.sort) (sym same-signal) ∙ ok.declared path k (sym f)))
        (g (declared s) i).wrong

    pub signal-right : (hd : Head) (p : Picks) (r : Result Form ResolveError) → IsHead (declared s) hd →
        ((d : Declared) → IsHead d hd → PicksAnswer S here d (list_all has_select_operands ts) (map (walk_select here.names) ts) path.place (Ok p)) →
        IfOk r (IsNamed (e.Signal k p.selects) (if is_clock_sort (sort_of s.sort) then path.place ∷ [] else []) p) → IfErr r (λ y. y ≡ x.NoMemory) → Named r
    signal-right hd p r i g o m = name.signal-answer S here path (map (walk_select here.names) ts) (list_all has_select_operands ts) p k r (ok.found path k (sym f))
        (ok.declared path k (sym f)) (subst (λ d. HasPicks S here d (list_all has_select_operands ts) (map (walk_select here.names) ts) p) (sym same-signal) (g (declared s) i).right)
        (subst (λ d. IfOk r (IsNamed (e.Signal k p.selects) (if is_clock_sort d.sort then path.place ∷ [] else []) p)) (sym same-signal) o) m

  -- ---- no signal

  module _ (f : None ≡ find path) where
    pub no-constant : declared_of path.name None ≡ names_of all path → Named (Err (x.UnknownName path.place))
    no-constant c = name.unknown S here path (map (walk_select here.names) ts) (list_all has_select_operands ts)
        (unread-none (here.names path) (ok.absent path (sym f)) (none-constant (here.names path) (c ∙ ok.constants.same path)))

    module _ (c : Const) (k : declared_of path.name (Some c) ≡ names_of all path) where
      there : here.names path ≡ Some (constant_of path.name c)
      there = entry-known true (here.names path) (constant_of path.name c) (k ∙ ok.constants.same path)

      pub constant-none : (hd : Head) (y : ResolveError) → IsHead (constant_of path.name c) hd →
          ((d : Declared) → IsHead d hd → PicksAnswer S here d (list_all has_select_operands ts) (map (walk_select here.names) ts) path.place (Err y)) → Named (Err y)
      constant-none hd y i g = name.picks-wrong S here path (map (walk_select here.names) ts) (list_all has_select_operands ts) (constant_of path.name c) y there refl
          (g (constant_of path.name c) i).wrong

      pub constant-right : (hd : Head) (p : Picks) (n : Form) → IsHead (constant_of path.name c) hd →
          ((d : Declared) → IsHead d hd → PicksAnswer S here d (list_all has_select_operands ts) (map (walk_select here.names) ts) path.place (Ok p)) →
          IsNamed (e.Const c p.selects) [] p n → Named (Ok n)
      constant-right hd p n i g o = name.const-answer S here path (map (walk_select here.names) ts) (list_all has_select_operands ts) p c n there
          (g (constant_of path.name c) i).right o
