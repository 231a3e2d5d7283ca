-- Loops from what their headers and turns are answered to be.
use Rattle.std.proofs.Common.{◌≡◌, inl, inr, ℕ, ◌<◌, Bool, true, false, ◌&&◌, List, [], ◌∷◌, ◌++◌, ap, ◌∙◌, sym, subst, refl, map, flat_map, length, Ok, Err, Result, Option, Some, arith, get_or, drop-cons}
use Rattle.std.specs.Prelude.{nat_lt}
use Rattle.std.specs.List.{list_all}
use Rattle.std.proofs.lemmas.Bool.Decides.{nat_tests}
use Rattle.std.proofs.lemmas.List.Elements.{Contains-append_right, All-contains}
use Rattle.lv_ast.specs.declared.expr.Expr.{Expr}
use Rattle.lv_ast.specs.declared.expr.Path.{Path}
use Rattle.lv_ast.specs.declared.expr.Expr.TheOpen.{Expr-F}
use Rattle.lv_ast.specs.declared.stmt.Ident.{Ident}
use Rattle.lv_ast.specs.declared.stmt.Stmt.{Stmt}
use Rattle.lv_ast.specs.Names.{Name}
use Rattle.lv_source.specs.Names.{Names, Here}
use Rattle.lv_source.specs.Effect.{turns, with_index, index_value}
use Rattle.lv_source.specs.Faults.{site_faults}
use Rattle.lv_source.specs.Legal.{UnknownName, ClockUse}
use Rattle.lv_source.specs.NodeRules.{clock_use, clock_in}
use Rattle.lv_source.specs.ScopeRules.{header_names}
use Rattle.lv_source.specs.Sites.{Shown, Step, Site, Spot, walk, first_place, spots, expr_sites}
use Rattle.lv_source.specs.Standing.{Standing, Repeat, standing, at_turn, header_spots}
use Rattle.lv_const.specs.declared.consts.Entry.{Entry}
use Rattle.lv_const.proofs.Told.{none-joined}
use Rattle.lv_const.proofs.Stands.{Stands, walk-stands}
use Rattle.lv_flat.specs.declared.stmt.FlatStmt.TheVariants as flat
use Rattle.lv_flat.specs.Signals.{Signals}
use Rattle.lv_flat.proofs.Doings.{Done}
use Rattle.lv_flat.proofs.SourceDoings.{source_done}
use Rattle.lv_headers.specs.declared.error.HeaderError.{HeaderError}
use Rattle.lv_headers.specs.declared.error.HeaderError.TheVariants as h
use Rattle.lv_headers.specs.Headers.{IsHeader, IsNoHeader}
use Rattle.lv_resolve.specs.Indices.{IsAt}
use Rattle.lv_resolve.proofs.FixedLaws.{spotted}
use Rattle.lv_resolve.proofs.Zeros.{all-empty}
use Rattle.lv_resolve_stmts.specs.declared.error.StmtError.{StmtError}
use Rattle.lv_resolve_stmts.specs.declared.error.StmtError.TheVariants as x
use Rattle.lv_resolve_stmts.specs.declared.resolved.ResolvedStmt.{ResolvedStmt}
use Rattle.lv_resolve_stmts.specs.declared.resolved.Stmts.{Stmts}
use Rattle.lv_resolve_stmts.specs.Statements.{StmtAnswer, IsFaultOf, of_node, of_header, has_stmt_operands}
use Rattle.lv_resolve_stmts.specs.Joins.{HasStmts, loop_standing, loop_done}
use Rattle.lv_resolve_stmts.proofs.Lists.{fault-left, fault-right, fault-one}
use Rattle.lv_resolve_stmts.proofs.StmtLaws.{node-fault, block-has}

-- ---- a constant position has no clock use

abbrev use_by : Option ℕ → Names → Expr-F Shown Step → List ℕ
use_by o names node = elim node [ Expr-F.Name path ss ↦ clock_in o (names path) path.place | _ ↦ [] ]

fixed-use : (first : ℕ) (names : Names) (node : Expr-F Shown Step) → use_by (Some first) names node ≡ []
fixed-use first names (Expr-F.Lit l) = refl
fixed-use first names (Expr-F.Name path ss) = refl
fixed-use first names (Expr-F.Un op a) = refl
fixed-use first names (Expr-F.Bin op a b) = refl
fixed-use first names (Expr-F.Div a b) = refl
fixed-use first names (Expr-F.Rem a b) = refl
fixed-use first names (Expr-F.Cond c a b) = refl
fixed-use first names (Expr-F.Cat rs) = refl
fixed-use first names (Expr-F.Rep n rs) = refl
fixed-use first names (Expr-F.Cast signed a) = refl

quiet-site : (names : Names) (s : Site) → Stands names s → clock_use s ≡ []
quiet-site names s q = ap (λ o. use_by o s.names s.node) q.fixed ∙ fixed-use q.first s.names s.node

quiet-expr : (here : Here) (n : ℕ) (e : Expr) → flat_map (site_faults ClockUse) (spots here (expr_sites true here.names n e)) ≡ []
quiet-expr here n e = spotted here (site_faults ClockUse) (expr_sites true here.names n e) ∙
    all-empty clock_use (expr_sites true here.names n e) (λ s c. quiet-site here.names s
    (All-contains (Stands here.names) (expr_sites true here.names n e) s (walk-stands here.names e (first_place (walk here.names e).shown) _ _) c))

quiet-each : {A : Type 0} (f : A → List Spot) (xs : List A) → ((a : A) → flat_map (site_faults ClockUse) (f a) ≡ []) → flat_map (site_faults ClockUse) (flat_map f xs) ≡ []
quiet-each f [] q = refl
quiet-each f (a ∷ xs) q = none-joined (site_faults ClockUse) (f a) (flat_map f xs) (q a) (quiet-each f xs q)

pub quiet-header : (here : Here) (index : Ident) (start test next : Expr) → flat_map (site_faults ClockUse) (header_spots here index start test next) ≡ []
quiet-header here index start test next =
    let ks : List ℕ = turns here.names index.name start test next in
    let at : ℕ → Here = at_turn here index.name in
    let first : List Spot = spots here (expr_sites true here.names 32 start) in
    let values : List ℕ = index_value here.names start ∷ map (λ k. index_value (at k).names next) ks in
    let tests : List Spot = flat_map (λ k. spots (at k) (expr_sites true (at k).names 0 test)) values in
    let nexts : List Spot = flat_map (λ k. spots (at k) (expr_sites true (at k).names 32 next)) ks in
    none-joined (site_faults ClockUse) (first ++ tests) nexts
    (none-joined (site_faults ClockUse) first tests (quiet-expr here 32 start)
    (quiet-each (λ k. spots (at k) (expr_sites true (at k).names 0 test)) values (λ k. quiet-expr (at k) 0 test)))
    (quiet-each (λ k. spots (at k) (expr_sites true (at k).names 32 next)) ks (λ k. quiet-expr (at k) 32 next))

-- ---- places

pub moved-at : (S : Signals) (find : Path → Option ℕ) (indices : Name → Option Bool) (all early new_all new_early : List Entry) (here : Here) → new_all ≡ all →
    new_early ≡ early → IsAt S find indices all early here → IsAt S find indices new_all new_early here
moved-at S find indices all early new_all new_early here e f ok =
    subst (λ es. IsAt S find indices es new_early here) (sym e) (subst (λ es. IsAt S find indices all es here) (sym f) ok)

pub read-same : (xs : List ℕ) (i : ℕ) → i < length xs → get_or xs i (get_or xs i 0) ≡ get_or xs i 0
read-same xs i h =
    let a = drop-cons xs i 0 h in
    let b = drop-cons xs i (get_or xs i 0) h in
    cc

-- ---- loops

over : (n : ℕ) → 1000000 < n → nat_lt 1000000 n ≡ true
over n h = grind (arith, nat_tests)

module _ (S : Signals) (here : Here) (index : Ident) (start test : Expr) (again : Ident) (next : Expr) (s : Stmt) where
  abbrev k : Standing
  k = record { here = here; form = Repeat index start test again next }

  abbrev rest : List Standing
  rest = flat_map (λ n. standing (at_turn here index.name n) s) (turns here.names index.name start test next)

  abbrev pub Looped : Result ResolvedStmt StmtError → Type 0
  Looped r = StmtAnswer S (loop_standing here index start test again next s) (loop_done here.names index start test next s) (has_stmt_operands s) r

  header-fault : (e : HeaderError) → IsNoHeader here false index start test again next 1000000 e → IsFaultOf (k ∷ []) (of_header e)
  header-fault h.Limit w = fault-one k x.Limit (over _ w)
  header-fault (h.Fault y) (inl w) = node-fault k (header_spots here index start test next) y (λ f p c. c) w
  header-fault (h.Fault y) (inr w) = subst (λ v. IsFaultOf (k ∷ []) (of_node v)) (sym w.2) (fault-one k (x.UnknownName w.0)
      (Contains-append_right (flat_map (site_faults UnknownName) (header_spots here index start test next)) (header_names false here.names index again) w.0 w.1))

  pub header-none : (e : HeaderError) → IsNoHeader here false index start test again next 1000000 e → Looped (Err (of_header e))
  header-none e w = record { right = tt; wrong = fault-left (k ∷ []) rest (of_header e) (header-fault e w) }

  module _ (ks : List ℕ) (g : IsHeader here false index start test again next 1000000 ks) (vs : List ℕ) (same : vs ≡ ks) where
    are : vs ≡ turns here.names index.name start test next
    are = same ∙ g.turns

    pub turns-none : (e : StmtError) → IsFaultOf (flat_map (λ n. standing (at_turn here index.name n) s) vs) e → Looped (Err e)
    turns-none e w = record {
      right = tt;
      wrong = fault-right (k ∷ []) rest e (subst (λ us. IsFaultOf (flat_map (λ n. standing (at_turn here index.name n) s) us) e) are w);
    }

    pub turns-done : (f : Stmts) (r : ResolvedStmt) → HasStmts S (flat_map (λ n. standing (at_turn here index.name n) s) vs)
        (map (λ n. source_done (with_index here.names index.name n) s) vs) (has_stmt_operands s) f → r.stmt ≡ flat.Block f.stmts → r.clocks ≡ f.clocks → Looped (Ok r)
    turns-done f r w e c = record {
      right = block-has S k rest (map (λ n. source_done (with_index here.names index.name n) s) (turns here.names index.name start test next)) (has_stmt_operands s) f r
          (record { nodes = g.faultless; names = g.named; ranges = refl; defaults = refl }) (quiet-header here index start test next)
          (subst (λ us. HasStmts S (flat_map (λ n. standing (at_turn here index.name n) s) us) (map (λ n. source_done (with_index here.names index.name n) s) us) (has_stmt_operands s) f) are w) e c;
      wrong = tt;
    }

-- once for all turns
always : (b : Bool) (vs : List ℕ) → b ≡ true → list_all (λ (n : ℕ). b) vs ≡ true
always b [] q = refl
always b (v ∷ vs) q = ap (λ u. u && list_all (λ (n : ℕ). b) vs) q ∙ always b vs q

pub turns-has : (S : Signals) (ks : List Standing) (ds : List Done) (ok : Bool) (vs : List ℕ) (f : Stmts) → HasStmts S ks ds (list_all (λ (n : ℕ). ok) vs) f → HasStmts S ks ds ok f
turns-has S ks ds ok vs f w = record { same = w.same; good = λ q. w.good (always ok vs q); sound = w.sound; clocks = w.clocks }
