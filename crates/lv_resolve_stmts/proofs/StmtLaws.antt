-- Statements from what their parts are answered to be.
use Rattle.std.proofs.Common.{◌≡◌, ℕ, ◌+◌, ◌<◌, ◌≤◌, Bool, true, false, ◌&&◌, List, [], ◌∷◌, ◌++◌, ap, ◌∙◌, sym, subst, refl, map, flat_map, length, take, drop, get_or, Ok, Err, Result, Option, None, Some}
use Rattle.std.specs.Prelude.{IfOk, IfErr}
use Rattle.std.specs.List.{Contains, list_all}
use Rattle.std.proofs.lemmas.Grind.{flat_map-append}
use Rattle.std.proofs.lemmas.List.{take_more, map-append}
use Rattle.std.proofs.lemmas.List.{append_assoc}
use Rattle.lv_ast.specs.declared.expr.Expr.{Expr}
use Rattle.lv_ast.specs.declared.stmt.Ident.{Ident}
use Rattle.lv_ast.specs.declared.stmt.Target.{Target}
use Rattle.lv_ast.specs.declared.stmt.Stmt.{Stmt}
use Rattle.lv_ast.specs.declared.stmt.Stmt.TheVariants as b
use Rattle.lv_source.specs.Names.{Here}
use Rattle.lv_source.specs.Meaning.{Reading, read_expr}
use Rattle.lv_source.specs.Effect.{pieces}
use Rattle.lv_source.specs.Faults.{site_faults}
use Rattle.lv_source.specs.Legal.{UnknownName, NotConstant, ZeroDivisor, Range}
use Rattle.lv_source.specs.ScopeRules.{unknown_in_form, range_in_form}
use Rattle.lv_source.specs.Sites.{Spot, spots, expr_sites}
use Rattle.lv_source.specs.Standing.{Standing, Empty, Test, Assign, one, standing, form_spots}
use Rattle.lv_source.proofs.Bridges.{two}
use Rattle.lv_const.proofs.Lists.{take-whole}
use Rattle.lv_flat.specs.declared.stmt.FlatStmt.TheVariants as flat
use Rattle.lv_flat.specs.Signals.{Signals}
use Rattle.lv_flat.specs.Judged.{is_good}
use Rattle.lv_flat.specs.Good.{good_stmt}
use Rattle.lv_flat.proofs.Doings.{Done, goal_of, done_null, done_all, done_if}
use Rattle.lv_flat.proofs.FlatDoings.{flat_done, flat-Null, flat-Block, flat-If, flat-If_else}
use Rattle.lv_flat.proofs.GoodParts.{good-Block, good-If, good-If_else}
use Rattle.lv_flat.proofs.SourceDoings.{source_done, source-Null, source-Block, source-If, source-If_else, source-Loop, source-Now, source-Later}
use Rattle.lv_resolve.specs.declared.error.ResolveError.{ResolveError}
use Rattle.lv_resolve.specs.declared.error.ResolveError.TheVariants as y
use Rattle.lv_resolve.specs.declared.resolved.Resolved.{Resolved}
use Rattle.lv_resolve.specs.Forms.{has_operands}
use Rattle.lv_resolve.specs.Targets.{has_target_operands}
use Rattle.lv_resolve.specs.Resolved.{IsToldOf, IsResolved}
use Rattle.lv_resolve.proofs.Nodes.{and-left, and-right, and-both}
use Rattle.lv_resolve.proofs.TargetLaws.{parted}
use Rattle.std.proofs.lemmas.List.Elements.{Contains-append_left, Contains-append_right}
use Rattle.lv_resolve_stmts.specs.declared.error.StmtError.{StmtError}
use Rattle.lv_resolve_stmts.specs.declared.error.StmtError.TheVariants as x
use Rattle.lv_resolve_stmts.specs.declared.resolved.ResolvedStmt.{ResolvedStmt}
use Rattle.lv_resolve_stmts.specs.declared.resolved.Stmts.{Stmts}
use Rattle.lv_resolve_stmts.specs.Statements.{IsSound, AreSound, IsFaultOf, HasStmt, StmtAnswer, clocks_at, has_stmt_operands, of_node, memory}
use Rattle.lv_resolve_stmts.specs.Joins.{AreMore, IsIf, IsIfElse, HasStmts, StmtsAnswer, done_write, loop_standing, loop_done}
use Rattle.lv_resolve_stmts.proofs.Stands.{stands-Null, stands-Block, stands-If, stands-If_else, stands-Loop, stands-Now, stands-Later, ok-Null, ok-Block, ok-If, ok-If_else, ok-Loop, ok-Now, ok-Later}
use Rattle.lv_resolve_stmts.proofs.Lists.{sound-none, sound-one, sound-both, within, fault-left, fault-right, fault-one, append-nil, all-mapped, all-joined}

module _ (S : Signals) where
  -- ---- one after another

  module _ {A : Type 0} (stand : A → List Standing) (done : A → Done) (ok : A → Bool) where
    abbrev pub Has : List A → Stmts → Type 0
    Has xs f = HasStmts S (flat_map stand xs) (map done xs) (list_all ok xs) f

    pub has-none : (f : Stmts) → f.stmts ≡ [] → f.clocks ≡ [] → Has [] f
    has-none f e k = record { same = ap (map (flat_done S)) e; good = λ q. ap (list_all (good_stmt S)) e; sound = sound-none; clocks = sym k }

    all-first : (xs ys : List A) → list_all ok (xs ++ ys) ≡ true → list_all ok xs ≡ true
    all-first [] ys h = refl
    all-first (z ∷ xs) ys h = and-both (ok z) (list_all ok xs) (and-left (ok z) (list_all ok (xs ++ ys)) h) (all-first xs ys (and-right (ok z) (list_all ok (xs ++ ys)) h))

    all-second : (xs ys : List A) → list_all ok (xs ++ ys) ≡ true → list_all ok ys ≡ true
    all-second [] ys h = h
    all-second (z ∷ xs) ys h = all-second xs ys (and-right (ok z) (list_all ok (xs ++ ys)) h)

    has-snoc : (xs : List A) (z : A) (f g : Stmts) (r : ResolvedStmt) → Has xs f → HasStmt S (stand z) (done z) (ok z) r → AreMore f r g → Has (xs ++ z ∷ []) g
    has-snoc xs z f g r h k m =
        let same-flat : flat_map stand (xs ++ z ∷ []) ≡ flat_map stand xs ++ stand z =
        flat_map-append stand xs (z ∷ []) ∙ ap (λ ks. flat_map stand xs ++ ks) (append-nil (stand z)) in
        record {
          same = ap (map (flat_done S)) m.stmts ∙ (map-append (flat_done S) f.stmts (r.stmt ∷ []) ∙
              (two (λ (p q : List Done). p ++ q) _ _ _ _ h.same (ap (λ d. d ∷ []) k.same) ∙ sym (map-append done xs (z ∷ []))));
          good = λ q. ap (list_all (good_stmt S)) m.stmts ∙ all-joined (good_stmt S) f.stmts (r.stmt ∷ []) (h.good (all-first xs (z ∷ []) q))
              (and-both (good_stmt S r.stmt) true (k.good (and-left (ok z) true (all-second xs (z ∷ []) q))) refl);
          sound = subst AreSound (sym same-flat) (sound-both (flat_map stand xs) (stand z) h.sound k.sound);
          clocks = ap (flat_map clocks_at) same-flat ∙ (flat_map-append clocks_at (flat_map stand xs) (stand z) ∙
              (two (λ (p q : List ℕ). p ++ q) _ _ _ _ h.clocks k.clocks ∙ sym m.clocks));
        }

    module _ (xs : List A) (i : ℕ) (z : A) (h : i < length xs) (g : get_or xs i z ≡ z) where
      pub has-more : (f e : Stmts) (r : ResolvedStmt) → Has (take i xs) f → HasStmt S (stand z) (done z) (ok z) r → AreMore f r e → Has (take (i + 1) xs) e
      has-more f e r a k m = subst (λ us. Has us e) (sym (take_more xs i z h ∙ ap (λ u. take i xs ++ u ∷ []) g)) (has-snoc (take i xs) z f e r a k m)

      stands-in : (us vs : List A) (k : Standing) → Contains (stand z) k → Contains (flat_map stand (us ++ z ∷ vs)) k
      stands-in [] vs k c = Contains-append_left (stand z) (flat_map stand vs) k c
      stands-in (u ∷ us) vs k c = Contains-append_right (stand u) (flat_map stand (us ++ z ∷ vs)) k (stands-in us vs k c)

      pub at-none : (e : StmtError) → IsFaultOf (stand z) e → StmtsAnswer S (flat_map stand xs) (map done xs) (list_all ok xs) (Err e)
      at-none e k = record {
        right = tt;
        wrong = within (stand z) (flat_map stand xs) e
            (λ m c. subst (λ us. Contains (flat_map stand us) m) (sym (parted xs i z h g)) (stands-in (take i xs) (drop (i + 1) xs) m c)) k;
      }

    pub has-all : (xs : List A) (i : ℕ) (f : Stmts) → length xs ≤ i → Has (take i xs) f → StmtsAnswer S (flat_map stand xs) (map done xs) (list_all ok xs) (Ok f)
    has-all xs i f h k = record { right = subst (λ us. Has us f) (take-whole xs i h) k; wrong = tt }

  pub no-room : (ks : List Standing) (ds : List Done) (ok : Bool) (e : StmtError) → e ≡ x.NoMemory → StmtsAnswer S ks ds ok (Err e)
  no-room ks ds ok e h = record { right = tt; wrong = memory h }

  -- ---- a block, or the turns of a loop

  pub block-has : (k : Standing) (ks : List Standing) (ds : List Done) (ok : Bool) (f : Stmts) (r : ResolvedStmt) → IsSound k → clocks_at k ≡ [] → HasStmts S ks ds ok f →
      r.stmt ≡ flat.Block f.stmts → r.clocks ≡ f.clocks → HasStmt S (k ∷ ks) (done_all ds) ok r
  block-has k ks ds ok f r s n h e c = record {
    same = ap (flat_done S) e ∙ (flat-Block S f.stmts ∙ ap done_all h.same);
    good = λ q. ap (good_stmt S) e ∙ (good-Block S f.stmts ∙ (all-mapped (good_stmt S) f.stmts ∙ h.good q));
    sound = sound-both (k ∷ []) ks (sound-one k s) h.sound;
    clocks = ap (λ z. z ++ flat_map clocks_at ks) n ∙ (h.clocks ∙ sym c);
  }

  -- ---- branches

  abbrev pub test_at : Here → Expr → Standing
  test_at here c = record { here = here; form = Test c }

  test-sound : (here : Here) (c : Expr) (t : Resolved) → IsResolved S here (spots here (expr_sites false here.names 0 c)) c t → IsSound (test_at here c)
  test-sound here c t h = record { nodes = h.faultless; names = refl; ranges = refl; defaults = refl }

  pub if-has : (here : Here) (c : Expr) (ks : List Standing) (d : Done) (ok : Bool) (t : Resolved) (a r : ResolvedStmt) →
      IsResolved S here (spots here (expr_sites false here.names 0 c)) c t → HasStmt S ks d ok a → IsIf t a r →
      HasStmt S (one here (Test c) ++ ks) (done_if (read_expr here.names c) d done_null) (has_operands c && ok) r
  if-has here c ks d ok t a r h k i = record {
    same = ap (flat_done S) i.stmt ∙ (flat-If S t.expr a.stmt ∙ two (λ (x : Reading) (e : Done). done_if x e done_null) _ _ _ _ h.same k.same);
    good = λ q. ap (good_stmt S) i.stmt ∙ (good-If S t.expr a.stmt ∙ and-both (is_good S t.expr) (good_stmt S a.stmt && true) (h.good (and-left (has_operands c) ok q))
        (and-both (good_stmt S a.stmt) true (k.good (and-right (has_operands c) ok q)) refl));
    sound = sound-both (one here (Test c)) ks (sound-one (test_at here c) (test-sound here c t h)) k.sound;
    clocks = two (λ (p q : List ℕ). p ++ q) _ _ _ _ h.clocks k.clocks ∙ sym i.clocks;
  }

  pub if-answer : (here : Here) (c : Expr) (ks : List Standing) (d : Done) (ok : Bool) (t : Resolved) (a : ResolvedStmt) (r : Result ResolvedStmt StmtError) →
      IsResolved S here (spots here (expr_sites false here.names 0 c)) c t → HasStmt S ks d ok a → IfOk r (IsIf t a) → IfErr r (λ e. e ≡ x.NoMemory) →
      StmtAnswer S (one here (Test c) ++ ks) (done_if (read_expr here.names c) d done_null) (has_operands c && ok) r
  if-answer here c ks d ok t a (Ok r) h k i m = record { right = if-has here c ks d ok t a r h k i; wrong = tt }
  if-answer here c ks d ok t a (Err e) h k i m = record { right = tt; wrong = memory m }

  pub else-has : (here : Here) (c : Expr) (ks ms : List Standing) (d e : Done) (ok okay : Bool) (t : Resolved) (a o r : ResolvedStmt) →
      IsResolved S here (spots here (expr_sites false here.names 0 c)) c t → HasStmt S ks d ok a → HasStmt S ms e okay o → IsIfElse t a o r →
      HasStmt S (one here (Test c) ++ (ks ++ ms)) (done_if (read_expr here.names c) d e) (has_operands c && (ok && okay)) r
  else-has here c ks ms d e ok okay t a o r h k l i = record {
    same = ap (flat_done S) i.stmt ∙ (flat-If_else S t.expr a.stmt o.stmt ∙ (ap (λ (x : Reading). done_if x (flat_done S a.stmt) (flat_done S o.stmt)) h.same ∙
        two (λ (p q : Done). done_if (read_expr here.names c) p q) _ _ _ _ k.same l.same));
    good = λ q. ap (good_stmt S) i.stmt ∙ (good-If_else S t.expr a.stmt o.stmt ∙ and-both (is_good S t.expr) (good_stmt S a.stmt && good_stmt S o.stmt)
        (h.good (and-left (has_operands c) (ok && okay) q)) (and-both (good_stmt S a.stmt) (good_stmt S o.stmt)
        (k.good (and-left ok okay (and-right (has_operands c) (ok && okay) q))) (l.good (and-right ok okay (and-right (has_operands c) (ok && okay) q)))));
    sound = sound-both (one here (Test c)) (ks ++ ms) (sound-one (test_at here c) (test-sound here c t h)) (sound-both ks ms k.sound l.sound);
    clocks = two (λ (p q : List ℕ). p ++ q) _ _ _ _ h.clocks (flat_map-append clocks_at ks ms ∙ two (λ (p q : List ℕ). p ++ q) _ _ _ _ k.clocks l.clocks) ∙
        (sym (append_assoc t.clocks a.clocks o.clocks) ∙ sym i.clocks);
  }

  pub else-answer : (here : Here) (c : Expr) (ks ms : List Standing) (d e : Done) (ok okay : Bool) (t : Resolved) (a o : ResolvedStmt) (r : Result ResolvedStmt StmtError) →
      IsResolved S here (spots here (expr_sites false here.names 0 c)) c t → HasStmt S ks d ok a → HasStmt S ms e okay o → IfOk r (IsIfElse t a o) → IfErr r (λ y. y ≡ x.NoMemory) →
      StmtAnswer S (one here (Test c) ++ (ks ++ ms)) (done_if (read_expr here.names c) d e) (has_operands c && (ok && okay)) r
  else-answer here c ks ms d e ok okay t a o (Ok r) h k l i m = record { right = else-has here c ks ms d e ok okay t a o r h k l i; wrong = tt }
  else-answer here c ks ms d e ok okay t a o (Err y) h k l i m = record { right = tt; wrong = memory m }

-- ---- errors of nodes

pub node-fault : (k : Standing) (xs : List Spot) (e : ResolveError) → ((f : Spot → List ℕ) (p : ℕ) → Contains (flat_map f xs) p → Contains (flat_map f (form_spots k.here k.form)) p) →
    IsToldOf xs e → IsFaultOf (k ∷ []) (of_node e)
node-fault k xs (y.UnknownName p) w h = fault-one k (x.UnknownName p)
    (Contains-append_left (flat_map (site_faults UnknownName) (form_spots k.here k.form)) (unknown_in_form k) p (w (site_faults UnknownName) p h))
node-fault k xs (y.NotConstant p) w h = fault-one k (x.NotConstant p) (w (site_faults NotConstant) p h)
node-fault k xs (y.ZeroDivisor p) w h = fault-one k (x.ZeroDivisor p) (w (site_faults ZeroDivisor) p h)
node-fault k xs (y.Range p) w h = fault-one k (x.Range p)
    (Contains-append_left (flat_map (site_faults Range) (form_spots k.here k.form)) (range_in_form k) p (w (site_faults Range) p h))
node-fault k xs y.NoMemory w h = memory refl

module _ (S : Signals) (here : Here) where
  pub test-none : (c : Expr) (ks : List Standing) (d : Done) (ok : Bool) (e : ResolveError) → IsToldOf (spots here (expr_sites false here.names 0 c)) e →
      StmtAnswer S (one here (Test c) ++ ks) d ok (Err (of_node e))
  test-none c ks d ok e h = record {
    right = tt;
    wrong = fault-left (one here (Test c)) ks (of_node e) (node-fault (record { here = here; form = Test c }) (spots here (expr_sites false here.names 0 c)) e (λ f p k. k) h);
  }

  pub below-none : (k : Standing) (ks : List Standing) (d : Done) (ok : Bool) (e : StmtError) → IsFaultOf ks e → StmtAnswer S (k ∷ ks) d ok (Err e)
  below-none k ks d ok e h = record { right = tt; wrong = fault-right (k ∷ []) ks e h }

  pub first-none : (k : Standing) (ks ms : List Standing) (d : Done) (ok : Bool) (e : StmtError) → IsFaultOf ks e → StmtAnswer S (k ∷ (ks ++ ms)) d ok (Err e)
  first-none k ks ms d ok e h = record { right = tt; wrong = fault-right (k ∷ []) (ks ++ ms) e (fault-left ks ms e h) }

  pub second-none : (k : Standing) (ks ms : List Standing) (d : Done) (ok : Bool) (e : StmtError) → IsFaultOf ms e → StmtAnswer S (k ∷ (ks ++ ms)) d ok (Err e)
  second-none k ks ms d ok e h = record { right = tt; wrong = fault-right (k ∷ []) (ks ++ ms) e (fault-right ks ms e h) }

  -- ---- by the form of the statement

  abbrev pub Answered : Stmt → Result ResolvedStmt StmtError → Type 0
  Answered z r = StmtAnswer S (standing here z) (source_done here.names z) (has_stmt_operands z) r

  arm : (z s : Stmt) (ks : List Standing) (d : Done) (ok : Bool) (r : Result ResolvedStmt StmtError) → z ≡ s → standing here s ≡ ks → source_done here.names s ≡ d →
      has_stmt_operands s ≡ ok → StmtAnswer S ks d ok r → Answered z r
  arm z s ks d ok r e f g o h = subst (λ u. Answered u r) (sym e) (subst (λ v. StmtAnswer S v (source_done here.names s) (has_stmt_operands s) r) (sym f)
      (subst (λ v. StmtAnswer S ks v (has_stmt_operands s) r) (sym g) (subst (λ v. StmtAnswer S ks d v r) (sym o) h)))

  good-Null : good_stmt S flat.Null ≡ true
  unfolding good_stmt
  good-Null = refl

  empty-sound : IsSound (record { here = here; form = Empty })
  empty-sound = record { nodes = record { unknown = refl; unfixed = refl; zero = refl; range = refl }; names = refl; ranges = refl; defaults = refl }

  pub at-Null : (z : Stmt) (r : ResolvedStmt) → z ≡ b.Null → r.stmt ≡ flat.Null → r.clocks ≡ [] → Answered z (Ok r)
  at-Null z r e s c = arm z b.Null (one here Empty) done_null true (Ok r) e (stands-Null here) (source-Null here.names) ok-Null (record {
    right = record {
      same = ap (flat_done S) s ∙ flat-Null S;
      good = λ q. ap (good_stmt S) s ∙ good-Null;
      sound = sound-one (record { here = here; form = Empty }) empty-sound;
      clocks = sym c;
    };
    wrong = tt;
  })

  pub at-Block : (z : Stmt) (name : Option Ident) (body list : List Stmt) (f : Stmts) (r : ResolvedStmt) → z ≡ b.Block name body → list ≡ body →
      HasStmts S (flat_map (standing here) list) (map (source_done here.names) list) (list_all has_stmt_operands list) f → r.stmt ≡ flat.Block f.stmts → r.clocks ≡ f.clocks →
      Answered z (Ok r)
  at-Block z name body list f r e l h s c = arm z (b.Block name body) _ _ _ (Ok r) e (stands-Block here name body) (source-Block here.names name body) (ok-Block name body) (record {
    right = block-has S (record { here = here; form = Empty }) _ _ _ f r empty-sound refl
        (subst (λ us. HasStmts S (flat_map (standing here) us) (map (source_done here.names) us) (list_all has_stmt_operands us) f) l h) s c;
    wrong = tt;
  })

  pub block-none : (z : Stmt) (name : Option Ident) (body list : List Stmt) (e : StmtError) → z ≡ b.Block name body → list ≡ body → IsFaultOf (flat_map (standing here) list) e →
      Answered z (Err e)
  block-none z name body list y e l h = arm z (b.Block name body) _ _ _ (Err y) e (stands-Block here name body) (source-Block here.names name body) (ok-Block name body)
      (below-none (record { here = here; form = Empty }) (flat_map (standing here) body) _ _ y (subst (λ us. IsFaultOf (flat_map (standing here) us) y) l h))

  pub at-If : (z : Stmt) (c d : Expr) (s t : Stmt) (r : Result ResolvedStmt StmtError) → z ≡ b.If c s None → d ≡ c → t ≡ s →
      StmtAnswer S (one here (Test d) ++ standing here t) (done_if (read_expr here.names d) (source_done here.names t) done_null) (has_operands d && has_stmt_operands t) r → Answered z r
  at-If z c d s t r e f g h = arm z (b.If c s None) _ _ _ r e (stands-If here c s) (source-If here.names c s) (ok-If c s)
      (subst (λ v. StmtAnswer S (one here (Test c) ++ standing here v) (done_if (read_expr here.names c) (source_done here.names v) done_null) (has_operands c && has_stmt_operands v) r) g
      (subst (λ u. StmtAnswer S (one here (Test u) ++ standing here t) (done_if (read_expr here.names u) (source_done here.names t) done_null) (has_operands u && has_stmt_operands t) r) f h))

  abbrev Both : Expr → Stmt → Stmt → Result ResolvedStmt StmtError → Type 0
  Both c s t r = StmtAnswer S (one here (Test c) ++ (standing here s ++ standing here t)) (done_if (read_expr here.names c) (source_done here.names s) (source_done here.names t))
      (has_operands c && (has_stmt_operands s && has_stmt_operands t)) r

  pub at-If_else : (z : Stmt) (c d : Expr) (s t u v : Stmt) (r : Result ResolvedStmt StmtError) → z ≡ b.If c s (Some t) → d ≡ c → u ≡ s → v ≡ t → Both d u v r → Answered z r
  at-If_else z c d s t u v r e f g k h = arm z (b.If c s (Some t)) _ _ _ r e (stands-If_else here c s t) (source-If_else here.names c s t) (ok-If_else c s t)
      (subst (λ w. Both c s w r) k (subst (λ w. Both c w v r) g (subst (λ w. Both w u v r) f h)))

  pub at-Loop : (z : Stmt) (index : Ident) (start test : Expr) (again : Ident) (next : Expr) (s : Stmt) (p q n : Expr) (t : Stmt) (r : Result ResolvedStmt StmtError) →
      z ≡ b.Loop index start test again next s → p ≡ start → q ≡ test → n ≡ next → t ≡ s →
      StmtAnswer S (loop_standing here index p q again n t) (loop_done here.names index p q n t) (has_stmt_operands t) r → Answered z r
  at-Loop z index start test again next s p q n t r e f g k l h = arm z (b.Loop index start test again next s) _ _ _ r e
      (stands-Loop here index start test again next s) (source-Loop here.names index start test again next s) (ok-Loop index start test again next s)
      (subst (λ w. StmtAnswer S (loop_standing here index start test again next w) (loop_done here.names index start test next w) (has_stmt_operands w) r) l
      (subst (λ w. StmtAnswer S (loop_standing here index start test again w t) (loop_done here.names index start test w t) (has_stmt_operands t) r) k
      (subst (λ w. StmtAnswer S (loop_standing here index start w again n t) (loop_done here.names index start w n t) (has_stmt_operands t) r) g
      (subst (λ w. StmtAnswer S (loop_standing here index w q again n t) (loop_done here.names index w q n t) (has_stmt_operands t) r) f h))))

  pub at-Now : (z : Stmt) (t : Target) (c d : Expr) (at : ℕ) (r : Result ResolvedStmt StmtError) → z ≡ b.Now t c at → d ≡ c →
      StmtAnswer S (one here (Assign true t d)) (done_write true (goal_of (pieces here.names t)) (read_expr here.names d) at) (has_target_operands t && has_operands d) r → Answered z r
  at-Now z t c d at r e f h = arm z (b.Now t c at) _ _ _ r e (stands-Now here t c at) (source-Now here.names t c at) (ok-Now t c at)
      (subst (λ u. StmtAnswer S (one here (Assign true t u)) (done_write true (goal_of (pieces here.names t)) (read_expr here.names u) at) (has_target_operands t && has_operands u) r) f h)

  pub at-Later : (z : Stmt) (t : Target) (c d : Expr) (at : ℕ) (r : Result ResolvedStmt StmtError) → z ≡ b.Later t c at → d ≡ c →
      StmtAnswer S (one here (Assign false t d)) (done_write false (goal_of (pieces here.names t)) (read_expr here.names d) at) (has_target_operands t && has_operands d) r → Answered z r
  at-Later z t c d at r e f h = arm z (b.Later t c at) _ _ _ r e (stands-Later here t c at) (source-Later here.names t c at) (ok-Later t c at)
      (subst (λ u. StmtAnswer S (one here (Assign false t u)) (done_write false (goal_of (pieces here.names t)) (read_expr here.names u) at) (has_target_operands t && has_operands u) r) f h)
