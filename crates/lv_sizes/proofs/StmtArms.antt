-- The answer on a statement, from those on its parts.
use Rattle.std.proofs.Common.{◌≡◌, ℕ, suc, ◌+◌, ◌≤◌, Bool, true, false, List, [], ◌∷◌, ◌++◌, map, length, ap, ◌∙◌, sym, subst, refl, arith, flat_map, Result, Ok, Err, Option, Some, None}
use Rattle.lv_ast.specs.declared.expr.Expr.{Expr}
use Rattle.lv_ast.specs.declared.stmt.Arm.{Arm}
use Rattle.lv_ast.specs.declared.stmt.Ident.{Ident}
use Rattle.lv_ast.specs.declared.stmt.Stmt.{Stmt}
use Rattle.lv_ast.specs.declared.stmt.Stmt.TheVariants as b
use Rattle.lv_ast.specs.declared.stmt.Target.{Target}
use Rattle.lv_ast.specs.Names.{alone}
use Rattle.lv_source.specs.Names.{Here}
use Rattle.lv_source.specs.Effect.{with_index}
use Rattle.lv_source.specs.Effect.{turns as loop_turns}
use Rattle.lv_source.specs.Limits.{nodes_alone, expr_nodes, target_nodes, stmt_size}
use Rattle.lv_source.specs.Limits as limits
use Rattle.lv_source.specs.ScopeRules.{is_index_of}
use Rattle.lv_source.specs.Standing.{Standing, standing, one, at_turn, Empty, Test, Choose, Repeat}
use Rattle.lv_resolve.specs.declared.error.ResolveError.{ResolveError}
use Rattle.lv_sizes.specs.declared.error.SizeError.{SizeError}
use Rattle.lv_sizes.specs.declared.size.Size.{Size}
use Rattle.lv_sizes.specs.Totals.{plus, total, arm_size, loop_head}
use Rattle.lv_sizes.specs.Sizes.{IsStandingFault, Leaves, LeftAnswer, TurnsAnswer, LoopLeftAnswer}
use Rattle.lv_sizes.proofs.LeftLaws.{same-answer, wider-answer, less-answer, second-answer, no-fault, standing-second, standing-same}
use Rattle.lv_sizes.proofs.Totals as size

module _ (here : Here) (st : Stmt) (left : Size) where
  abbrev Answer : Result Size SizeError → Type 0
  Answer r = LeftAnswer left (stmt_size here.names st) (IsStandingFault (standing here st)) r

  by-form : (sz : limits.Size) (ks : List Standing) (r : Result Size SizeError) → stmt_size here.names st ≡ sz → standing here st ≡ ks →
      LeftAnswer left sz (IsStandingFault ks) r → Answer r
  by-form sz ks r e h a =
      same-answer left sz (stmt_size here.names st) (IsStandingFault (standing here st)) r (sym e)
      (wider-answer left sz (IsStandingFault ks) (IsStandingFault (standing here st)) (λ y k. standing-same (standing here st) ks h y k) r a)

  -- nodes alone
  by-nodes : (n : ℕ) (r : Result Size SizeError) → stmt_size here.names st ≡ nodes_alone n → LeftAnswer left (nodes_alone n) (λ y. ⊥) r → Answer r
  by-nodes n r e a =
      same-answer left (nodes_alone n) (stmt_size here.names st) (IsStandingFault (standing here st)) r (sym e)
      (wider-answer left (nodes_alone n) (λ y. ⊥) (IsStandingFault (standing here st)) (no-fault (IsStandingFault (standing here st))) r a)

  pub arm-Null : (r : Result Size SizeError) → st ≡ b.Null → LeftAnswer left (nodes_alone 1) (λ y. ⊥) r → Answer r
  arm-Null r h a = by-nodes 1 r (ap (stmt_size here.names) h ∙ size.size-Null here.names) a

  pub arm-Now : (target : Target) (x v : Expr) (place : ℕ) (r : Result Size SizeError) → st ≡ b.Now target x place → v ≡ x →
      LeftAnswer left (nodes_alone (suc (target_nodes target + expr_nodes v))) (λ y. ⊥) r → Answer r
  arm-Now target x v place r h k a =
      by-nodes (suc (target_nodes target + expr_nodes v)) r
      (ap (stmt_size here.names) (h ∙ ap (λ z. b.Now target z place) (sym k)) ∙ size.size-Now here.names target v place) a

  pub arm-Later : (target : Target) (x v : Expr) (place : ℕ) (r : Result Size SizeError) → st ≡ b.Later target x place → v ≡ x →
      LeftAnswer left (nodes_alone (suc (target_nodes target + expr_nodes v))) (λ y. ⊥) r → Answer r
  arm-Later target x v place r h k a =
      by-nodes (suc (target_nodes target + expr_nodes v)) r
      (ap (stmt_size here.names) (h ∙ ap (λ z. b.Later target z place) (sym k)) ∙ size.size-Later here.names target v place) a

  -- an error at its own nodes
  by-none : (n : ℕ) (rest : limits.Size) (y : SizeError) → stmt_size here.names st ≡ plus (nodes_alone n) rest → LeftAnswer left (nodes_alone n) (λ y. ⊥) (Err y) → Answer (Err y)
  by-none n rest y e a =
      same-answer left (plus (nodes_alone n) rest) (stmt_size here.names st) (IsStandingFault (standing here st)) (Err y) (sym e)
      (less-answer left (nodes_alone n) (plus (nodes_alone n) rest) (λ y. ⊥) (IsStandingFault (standing here st)) (no-fault (IsStandingFault (standing here st)))
      (omega arith) (omega arith) y a)

  -- its own nodes, and then its parts
  by-parts : (n : ℕ) (part : limits.Size) (form : Standing) (ks : List Standing) (rest : Size) (r : Result Size SizeError) →
      stmt_size here.names st ≡ plus (nodes_alone n) part → standing here st ≡ (form ∷ []) ++ ks → Leaves left (nodes_alone n) rest →
      LeftAnswer rest part (IsStandingFault ks) r → Answer r
  by-parts n part form ks rest r e h l a =
      by-form (plus (nodes_alone n) part) ((form ∷ []) ++ ks) r e h
      (second-answer left rest (nodes_alone n) part (IsStandingFault ks) (IsStandingFault ((form ∷ []) ++ ks)) (λ y k. standing-second (form ∷ []) ks y k) r l a)

  module _ (name : Option Ident) (body zs : List Stmt) (h : st ≡ b.Block name body) where
    pub none-Block : (y : SizeError) → LeftAnswer left (nodes_alone 1) (λ y. ⊥) (Err y) → Answer (Err y)
    none-Block y a = by-none 1 (total (stmt_size here.names) body) y (ap (stmt_size here.names) h ∙ size.size-Block here.names name body) a

    pub arm-Block : zs ≡ body → (rest : Size) (r : Result Size SizeError) → Leaves left (nodes_alone 1) rest →
        LeftAnswer rest (total (stmt_size here.names) zs) (IsStandingFault (flat_map (standing here) zs)) r → Answer r
    arm-Block k rest r l a =
        let e : st ≡ b.Block name zs = h ∙ ap (b.Block name) (sym k) in
        by-parts 1 (total (stmt_size here.names) zs) (record { here = here; form = Empty }) (flat_map (standing here) zs) rest r
        (ap (stmt_size here.names) e ∙ size.size-Block here.names name zs) (ap (standing here) e ∙ size.standing-Block here name zs) l a

  module _ (test x : Expr) (then_ : Stmt) (o : Option Stmt) (h : st ≡ b.If test then_ o) (k : x ≡ test) where
    module _ (m : o ≡ None) where
      none-is : (s : Stmt) → s ≡ then_ → st ≡ b.If x s None
      none-is s n = h ∙ (ap (λ z. b.If z then_ o) (sym k) ∙ (ap (λ z. b.If x z o) (sym n) ∙ ap (b.If x s) m))

      pub none-If : (y : SizeError) → LeftAnswer left (nodes_alone (suc (expr_nodes x))) (λ y. ⊥) (Err y) → Answer (Err y)
      none-If y a = by-none (suc (expr_nodes x)) (stmt_size here.names then_) y (ap (stmt_size here.names) (none-is then_ refl) ∙ size.size-If here.names x then_) a

      pub arm-If : (s : Stmt) → s ≡ then_ → (rest : Size) (r : Result Size SizeError) → Leaves left (nodes_alone (suc (expr_nodes x))) rest →
          LeftAnswer rest (stmt_size here.names s) (IsStandingFault (standing here s)) r → Answer r
      arm-If s n rest r l a =
          by-parts (suc (expr_nodes x)) (stmt_size here.names s) (record { here = here; form = Test x }) (standing here s) rest r
          (ap (stmt_size here.names) (none-is s n) ∙ size.size-If here.names x s) (ap (standing here) (none-is s n) ∙ size.standing-If here x s) l a

    module _ (other : Stmt) (m : o ≡ Some other) where
      some-is : (s t : Stmt) → s ≡ then_ → t ≡ other → st ≡ b.If x s (Some t)
      some-is s t n p =
          h ∙ (ap (λ z. b.If z then_ o) (sym k) ∙ (ap (λ z. b.If x z o) (sym n) ∙ (ap (b.If x s) m ∙ ap (λ z. b.If x s (Some z)) (sym p))))

      pub none-If_else : (y : SizeError) → LeftAnswer left (nodes_alone (suc (expr_nodes x))) (λ y. ⊥) (Err y) → Answer (Err y)
      none-If_else y a =
          by-none (suc (expr_nodes x)) (plus (stmt_size here.names then_) (stmt_size here.names other)) y
          (ap (stmt_size here.names) (some-is then_ other refl refl) ∙ size.size-If_else here.names x then_ other) a

      pub arm-If_else : (s t : Stmt) → s ≡ then_ → t ≡ other → (rest : Size) (r : Result Size SizeError) → Leaves left (nodes_alone (suc (expr_nodes x))) rest →
          LeftAnswer rest (plus (stmt_size here.names s) (stmt_size here.names t)) (IsStandingFault (standing here s ++ standing here t)) r → Answer r
      arm-If_else s t n p rest r l a =
          by-parts (suc (expr_nodes x)) (plus (stmt_size here.names s) (stmt_size here.names t)) (record { here = here; form = Test x })
          (standing here s ++ standing here t) rest r
          (ap (stmt_size here.names) (some-is s t n p) ∙ size.size-If_else here.names x s t)
          (ap (standing here) (some-is s t n p) ∙ size.standing-If_else here x s t) l a

  pub none-of_If : (test x : Expr) (then_ : Stmt) (o : Option Stmt) → st ≡ b.If test then_ o → x ≡ test → (y : SizeError) →
      LeftAnswer left (nodes_alone (suc (expr_nodes x))) (λ y. ⊥) (Err y) → Answer (Err y)
  none-of_If test x then_ None h k y a = none-If test x then_ None h k refl y a
  none-of_If test x then_ (Some t) h k y a = none-If_else test x then_ (Some t) h k t refl y a

  module _ (wild : Bool) (selector x : Expr) (arms : List Arm) (h : st ≡ b.Case wild selector arms) (k : x ≡ selector) where
    case-is : (zs : List Arm) → zs ≡ arms → st ≡ b.Case wild x zs
    case-is zs n = h ∙ (ap (λ z. b.Case wild z arms) (sym k) ∙ ap (b.Case wild x) (sym n))

    pub none-Case : (y : SizeError) → LeftAnswer left (nodes_alone (suc (expr_nodes x))) (λ y. ⊥) (Err y) → Answer (Err y)
    none-Case y a =
        by-none (suc (expr_nodes x)) (total (arm_size here.names) arms) y (ap (stmt_size here.names) (case-is arms refl) ∙ size.size-Case here.names wild x arms) a

    pub arm-Case : (zs : List Arm) → zs ≡ arms → (rest : Size) (r : Result Size SizeError) → Leaves left (nodes_alone (suc (expr_nodes x))) rest →
        LeftAnswer rest (total (arm_size here.names) zs) (IsStandingFault (flat_map (λ a. standing here a.body) zs)) r → Answer r
    arm-Case zs n rest r l a =
        by-parts (suc (expr_nodes x)) (total (arm_size here.names) zs) _ (flat_map (λ a. standing here a.body) zs) rest r
        (ap (stmt_size here.names) (case-is zs n) ∙ size.size-Case here.names wild x zs) (ap (standing here) (case-is zs n) ∙ size.standing-Case here wild x zs) l a

  pub arm-Loop : (index again : Ident) (start test next x z w : Expr) (body s : Stmt) (r : Result Size SizeError) → st ≡ b.Loop index start test again next body →
      s ≡ body → x ≡ start → z ≡ test → w ≡ next → LoopLeftAnswer here index x z again w s left r → Answer r
  arm-Loop index again start test next x z w body s r h p q u v a =
      let e : st ≡ b.Loop index x z again w s =
      h ∙ (ap (λ m. b.Loop index m test again next body) (sym q) ∙ (ap (λ m. b.Loop index x m again next body) (sym u) ∙
      (ap (λ m. b.Loop index x z again m body) (sym v) ∙ ap (b.Loop index x z again w) (sym p)))) in
      by-form
      (plus (loop_head here.names index x z w) (total (λ k. stmt_size (with_index here.names index.name k) s) (loop_turns here.names index.name x z w)))
      (one here (Repeat index x z again w) ++ flat_map (λ k. standing (at_turn here index.name k) s) (loop_turns here.names index.name x z w)) r
      (ap (stmt_size here.names) e ∙ size.size-Loop here.names index x z again w s) (ap (standing here) e ∙ size.standing-Loop here index x z again w s) a.told

-- ---- a loop

module _ (here : Here) (index : Ident) (start test : Expr) (again : Ident) (next : Expr) (body : Stmt) (left : Size) where
  abbrev turns-of : List ℕ
  turns-of = loop_turns here.names index.name start test next

  abbrev in-turns : List Standing
  in-turns = flat_map (λ k. standing (at_turn here index.name k) body) turns-of

  pub none-loop : (y : SizeError) → LeftAnswer left (nodes_alone (suc (expr_nodes start + expr_nodes test + expr_nodes next))) (λ y. ⊥) (Err y) →
      LoopLeftAnswer here index start test again next body left (Err y)
  none-loop y a = record {
    told = less-answer left (nodes_alone (suc (expr_nodes start + expr_nodes test + expr_nodes next)))
        (plus (loop_head here.names index start test next) (total (λ k. stmt_size (with_index here.names index.name k) body) turns-of)) (λ y. ⊥)
        (IsStandingFault (one here (Repeat index start test again next) ++ in-turns))
        (no-fault (IsStandingFault (one here (Repeat index start test again next) ++ in-turns))) (omega arith) (omega arith) y a;
  }

  pub arm-turns : (mid rest : Size) (ks : List ℕ) (len : ℕ) (r : Result Size SizeError) → ks ≡ turns-of → len ≡ length ks → rest.turns + len ≡ mid.turns →
      rest.nodes ≡ mid.nodes → Leaves left (nodes_alone (suc (expr_nodes start + expr_nodes test + expr_nodes next))) mid →
      is_index_of false (here.names (alone index.name)) ≡ true → TurnsAnswer here index body ks rest r →
      LoopLeftAnswer here index start test again next body left r
  arm-turns mid rest ks len r e m t n l i a =
      let z : length ks ≡ length turns-of = ap length e in
      let u = subst (λ ks. TurnsAnswer here index body ks rest r) e a in record {
        told = second-answer left rest (loop_head here.names index start test next)
            (total (λ k. stmt_size (with_index here.names index.name k) body) turns-of) (IsStandingFault in-turns)
            (IsStandingFault (one here (Repeat index start test again next) ++ in-turns))
            (λ y k. standing-second (one here (Repeat index start test again next)) in-turns y k) r
            (record { turns = omega (arith, l.turns); nodes = omega (arith, l.nodes) }) (u.told i);
      }
