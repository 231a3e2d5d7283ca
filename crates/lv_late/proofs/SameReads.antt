-- An expression reads the same where its names stand for the same.
use Rattle.std.proofs.Common.{◌≡◌, List, ◌∷◌, ◌++◌, ap, ◌∙◌, refl, flat_map, Option}
use Rattle.lv_ast.specs.declared.expr.Path.{Path}
use Rattle.lv_ast.specs.declared.expr.Expr.{Expr, Row_of-Expr, end_of-Expr, more_of-Expr, Row_of-Select, end_of-Select, more_of-Select}
use Rattle.lv_ast.specs.declared.expr.Expr.TheVariants as e
use Rattle.lv_ast.specs.declared.expr.Expr.TheOpen.{Expr-F, Select-F}
use Rattle.lv_ast.specs.declared.expr.Select.{Select}
use Rattle.lv_ast.specs.declared.expr.Select.TheVariants as s
use Rattle.lv_ast.specs.Trees.{fold_exprs, fold_one, fold_select, fold_selects}
use Rattle.lv_source.specs.Names.{Names, Declared, known}
use Rattle.lv_source.specs.Meaning.{Reading, Choice, read_expr, read_step, named, choice}
use Rattle.lv_source.proofs.Bridges.{two}
use Rattle.lv_source.proofs.Each.{Each, each-left, each-right}
use Rattle.lv_resolve.specs.Late.{path_step, path_choice, paths_in}

module _ (M N : Names) where
  abbrev pub Alike : Path → Type 0
  Alike p = M p ≡ N p

  abbrev pub AllAlike : List Path → Type 0
  AllAlike ps = Each Alike ps

  abbrev paths_of_one : {n : _} → Row_of-Expr n → List Path
  paths_of_one r = fold_one (List Path) (List Path) path_step path_choice r

  abbrev paths_of_all : {n : _} → Row_of-Expr n → List Path
  paths_of_all r = flat_map (λ ps. ps) (fold_exprs (List Path) (List Path) path_step path_choice r)

  abbrev reading_of_one : Names → {n : _} → Row_of-Expr n → Reading
  reading_of_one names r = fold_one Reading Choice (read_step names) choice r

  abbrev readings : Names → {n : _} → Row_of-Expr n → List Reading
  readings names r = fold_exprs Reading Choice (read_step names) choice r

  abbrev SameOne : {n : _} → Row_of-Expr n → Type 0
  SameOne r = reading_of_one M r ≡ reading_of_one N r

  pair : {C : Type 0} (f : Reading → Reading → C) {n m : _} (a : Row_of-Expr n) (b : Row_of-Expr m) → SameOne a → SameOne b →
      f (reading_of_one M a) (reading_of_one M b) ≡ f (reading_of_one N a) (reading_of_one N b)
  pair f a b h k = two f (reading_of_one M a) (reading_of_one N a) (reading_of_one M b) (reading_of_one N b) h k

  mutual
    unfolding paths_in read_expr

    pub same-reads : (x : Expr) → AllAlike (paths_in x) → read_expr M x ≡ read_expr N x
    same-reads (e.Lit l) h = refl
    same-reads (e.Name' path n ss) h = two (λ (o : Option Declared) (cs : List Choice). named (known o) cs) (M path) (N path) _ _ h.0 (same-selects ss h.1)
    same-reads (e.Un' op n a) h = ap (λ (r : Reading). read_step N (Expr-F.Un op r)) (same-one a h)
    same-reads (e.Bin' op n a m b) h =
        pair (λ (r q : Reading). read_step N (Expr-F.Bin op r q)) a b (same-one a (each-left Alike (paths_of_one a) (paths_of_one b) h))
        (same-one b (each-right Alike (paths_of_one a) (paths_of_one b) h))
    same-reads (e.Div' n a m b) h =
        pair (λ (r q : Reading). read_step N (Expr-F.Div r q)) a b (same-one a (each-left Alike (paths_of_one a) (paths_of_one b) h))
        (same-one b (each-right Alike (paths_of_one a) (paths_of_one b) h))
    same-reads (e.Rem' n a m b) h =
        pair (λ (r q : Reading). read_step N (Expr-F.Rem r q)) a b (same-one a (each-left Alike (paths_of_one a) (paths_of_one b) h))
        (same-one b (each-right Alike (paths_of_one a) (paths_of_one b) h))
    same-reads (e.Cond' n c m a k b) h =
        let front : AllAlike (paths_of_one c ++ paths_of_one a) = each-left Alike (paths_of_one c ++ paths_of_one a) (paths_of_one b) h in
        ap (λ (r : Reading). read_step N (Expr-F.Cond r (reading_of_one M a) (reading_of_one M b)))
        (same-one c (each-left Alike (paths_of_one c) (paths_of_one a) front)) ∙
        pair (λ (r q : Reading). read_step N (Expr-F.Cond (reading_of_one N c) r q)) a b (same-one a (each-right Alike (paths_of_one c) (paths_of_one a) front))
        (same-one b (each-right Alike (paths_of_one c ++ paths_of_one a) (paths_of_one b) h))
    same-reads (e.Cat' n es) h = ap (λ (rs : List Reading). read_step N (Expr-F.Cat rs)) (same-all es h)
    same-reads (e.Rep' n a m es) h =
        two (λ (r : Reading) (rs : List Reading). read_step N (Expr-F.Rep r rs)) (reading_of_one M a) (reading_of_one N a) (readings M es) (readings N es)
        (same-one a (each-left Alike (paths_of_one a) (paths_of_all es) h)) (same-all es (each-right Alike (paths_of_one a) (paths_of_all es) h))
    same-reads (e.Cast' signed n a) h = ap (λ (r : Reading). read_step N (Expr-F.Cast signed r)) (same-one a h)

    same-one : {n : _} (r : Row_of-Expr n) → AllAlike (paths_of_one r) → SameOne r
    same-one end_of-Expr h = refl
    same-one (more_of-Expr x xs) h = same-reads x h

    same-all : {n : _} (r : Row_of-Expr n) → AllAlike (paths_of_all r) → readings M r ≡ readings N r
    same-all end_of-Expr h = refl
    same-all (more_of-Expr x xs) h =
        two (λ (y : Reading) (ys : List Reading). y ∷ ys) (read_expr M x) (read_expr N x) (readings M xs) (readings N xs)
        (same-reads x (each-left Alike (paths_in x) (paths_of_all xs) h)) (same-all xs (each-right Alike (paths_in x) (paths_of_all xs) h))

    same-select : (x : Select) → AllAlike (fold_select (List Path) (List Path) path_step path_choice x) →
        fold_select Reading Choice (read_step M) choice x ≡ fold_select Reading Choice (read_step N) choice x
    same-select (s.Bit' n a) h = ap (λ (r : Reading). let c : Choice = Select-F.Bit r in c) (same-one a h)
    same-select (s.Part' n a m b) h =
        pair {C = Choice} (λ (r q : Reading). Select-F.Part r q) a b (same-one a (each-left Alike (paths_of_one a) (paths_of_one b) h))
        (same-one b (each-right Alike (paths_of_one a) (paths_of_one b) h))
    same-select (s.Up' n a m b) h =
        pair {C = Choice} (λ (r q : Reading). Select-F.Up r q) a b (same-one a (each-left Alike (paths_of_one a) (paths_of_one b) h))
        (same-one b (each-right Alike (paths_of_one a) (paths_of_one b) h))
    same-select (s.Down' n a m b) h =
        pair {C = Choice} (λ (r q : Reading). Select-F.Down r q) a b (same-one a (each-left Alike (paths_of_one a) (paths_of_one b) h))
        (same-one b (each-right Alike (paths_of_one a) (paths_of_one b) h))

    same-selects : {n : _} (r : Row_of-Select n) → AllAlike (flat_map (λ ps. ps) (fold_selects (List Path) (List Path) path_step path_choice r)) →
        fold_selects Reading Choice (read_step M) choice r ≡ fold_selects Reading Choice (read_step N) choice r
    same-selects end_of-Select h = refl
    same-selects (more_of-Select x xs) h =
        two (λ (c : Choice) (cs : List Choice). c ∷ cs) _ _ _ _
        (same-select x (each-left Alike (fold_select (List Path) (List Path) path_step path_choice x) _ h))
        (same-selects xs (each-right Alike (fold_select (List Path) (List Path) path_step path_choice x) _ h))
