-- A constant expression reads no bits and has constants for names; and the names of an expression are those of its nodes.
use Rattle.std.proofs.Common.{◌≡◌, ℕ, Bool, true, false, ◌&&◌, if◌then◌else◌, List, [], ◌∷◌, ◌++◌, ap, ◌∙◌, sym, refl, flat_map, map, Option, None, Some}
use Rattle.std.specs.List.{list_all}
use Rattle.std.proofs.lemmas.Grind.{flat_map-append}
use Rattle.lv_bits.specs.Values.{keeps_width, is_apart}
use Rattle.lv_bits.specs.declared.op.Op.{Op}
use Rattle.lv_ast.specs.declared.expr.Path.{Path}
use Rattle.lv_ast.specs.declared.expr.Expr.{Expr, Row_of-Expr, end_of-Expr, more_of-Expr, Row_of-Select, end_of-Select, more_of-Select}
use Rattle.lv_ast.specs.declared.expr.Expr.TheVariants as e
use Rattle.lv_ast.specs.declared.expr.Expr.TheOpen.{Expr-F, Select-F}
use Rattle.lv_ast.specs.declared.expr.Select.{Select}
use Rattle.lv_ast.specs.declared.expr.Select.TheVariants as s
use Rattle.lv_ast.specs.Trees.{fold_expr, fold_exprs, fold_one, fold_select, fold_selects}
use Rattle.lv_source.specs.Names.{Names, Declared, Sort, Input, Net, Variable, Clock, Constant, Index, Other, known, is_constant_sort, is_signal_sort}
use Rattle.lv_source.specs.Places.{Bit}
use Rattle.lv_source.specs.Meaning.{Choice, parts_of, bits_named, index_reads, all_constant}
use Rattle.lv_source.specs.Sites.{Site, Role, Value, Joined, Walk, WalkStep, walk_step, walk_select_step, walk, own_sites, fixed_sites, index_sites, step_sites, below_sites, is_driven, joined_role, first_place, step_shown, step_choice}
use Rattle.lv_source.specs.NodeRules.{is_early}
use Rattle.lv_source.proofs.Bridges.{two}
use Rattle.lv_const.specs.Faults.{no_value}
use Rattle.lv_const.proofs.Owns.{site_of}
use Rattle.lv_resolve.specs.Late.{path_step, path_choice, paths_in}

-- the name that a node is
abbrev pub path_of : Site → List Path
path_of z = elim z.node [ Expr-F.Name path ss ↦ path ∷ [] | _ ↦ [] ]

abbrev pub no_constant : Site → List ℕ
no_constant z = no_value (λ p. true) z

-- ---- what a function gives of all nodes

record GivesAt {A : Type 0} (f : Site → List A) (w : Walk) (r : List A) : Type 0 where
  at : (role : Role) (fixed : Option ℕ) (W : ℕ) (T : Bool) → flat_map f (w.sites role fixed W T) ≡ r

record StepGives {A : Type 0} (f : Site → List A) (w : WalkStep) (r : List A) : Type 0 where
  at : (constant : Bool) (fixed : Option ℕ) → flat_map f (step_sites constant fixed w) ≡ r

module _ {A : Type 0} (f : Site → List A) where
  joined : (xs ys : List Site) (r q : List A) → flat_map f xs ≡ r → flat_map f ys ≡ q → flat_map f (xs ++ ys) ≡ r ++ q
  joined xs ys r q h k = flat_map-append f xs ys ∙ two (λ (a b : List A). a ++ b) _ _ _ _ h k

  either : (b : Bool) (xs ys : List Site) (r : List A) → flat_map f xs ≡ r → flat_map f ys ≡ r → flat_map f (if b then xs else ys) ≡ r
  either true xs ys r h k = h
  either false xs ys r h k = k

  own : (w : Walk) (r : List A) → GivesAt f w r → (role : Role) (fixed : Option ℕ) → flat_map f (own_sites role fixed w) ≡ r
  own w r h role fixed = h.at role fixed w.shown.reading.meaning.width w.shown.reading.meaning.signed

  index : (constant : Bool) (w : Walk) (r : List A) → GivesAt f w r → (fixed : Option ℕ) → flat_map f (index_sites constant fixed w) ≡ r
  index constant w r h fixed = either constant (fixed_sites w) (own_sites Value fixed w) r (own w r h Value (Some (first_place w.shown))) (own w r h Value fixed)

  step-bit : (a : Walk) (r : List A) → GivesAt f a r → StepGives f (Select-F.Bit a) r
  step-bit a r h = record { at = λ constant fixed. index constant a r h fixed }

  step-part : (a b : Walk) (r q : List A) → GivesAt f a r → GivesAt f b q → StepGives f (Select-F.Part a b) (r ++ q)
  step-part a b r q h k = record {
    at = λ constant fixed. joined (fixed_sites a) (fixed_sites b) r q (own a r h Value (Some (first_place a.shown))) (own b q k Value (Some (first_place b.shown)));
  }

  step-up : (a b : Walk) (r q : List A) → GivesAt f a r → GivesAt f b q → StepGives f (Select-F.Up a b) (r ++ q)
  step-up a b r q h k = record {
    at = λ constant fixed. joined (index_sites constant fixed a) (fixed_sites b) r q (index constant a r h fixed) (own b q k Value (Some (first_place b.shown)));
  }

  step-down : (a b : Walk) (r q : List A) → GivesAt f a r → GivesAt f b q → StepGives f (Select-F.Down a b) (r ++ q)
  step-down a b r q h k = record {
    at = λ constant fixed. joined (index_sites constant fixed a) (fixed_sites b) r q (index constant a r h fixed) (own b q k Value (Some (first_place b.shown)));
  }

module _ (names : Names) {A : Type 0} (f : Site → List A) where
  node : (n : Expr-F Walk WalkStep) (o r : List A) → ((role : Role) (fixed : Option ℕ) (W : ℕ) (T : Bool) → f (site_of names n role fixed W T) ≡ o) →
      ((role : Role) (fixed : Option ℕ) (W : ℕ) (T : Bool) → flat_map f (below_sites n role fixed W T) ≡ r) → GivesAt f (walk_step names n) (o ++ r)
  node n o r h k = record { at = λ role fixed W T. two (λ (a b : List A). a ++ b) _ _ _ _ (h role fixed W T) (k role fixed W T) }

  at-un : (op : Op) (a : Walk) (r : List A) → ((role : Role) (fixed : Option ℕ) (W : ℕ) (T : Bool) → f (site_of names (Expr-F.Un op a) role fixed W T) ≡ []) →
      GivesAt f a r → GivesAt f (walk_step names (Expr-F.Un op a)) r
  at-un op a r o h = node (Expr-F.Un op a) [] r o (λ role fixed W T. either f (keeps_width op) _ _ r (h.at Value fixed W T) (own f a r h Value fixed))

  at-bin : (op : Op) (a b : Walk) (r q : List A) → ((role : Role) (fixed : Option ℕ) (W : ℕ) (T : Bool) → f (site_of names (Expr-F.Bin op a b) role fixed W T) ≡ []) →
      GivesAt f a r → GivesAt f b q → GivesAt f (walk_step names (Expr-F.Bin op a b)) (r ++ q)
  at-bin op a b r q o h k = node (Expr-F.Bin op a b) [] (r ++ q) o (λ role fixed W T. either f (keeps_width op) _ _ (r ++ q)
      (joined f _ _ r q (h.at Value fixed W T) (either f (is_apart op) _ _ q (own f b q k Value fixed) (k.at Value fixed W T)))
      (either f (is_apart op) _ _ (r ++ q) (joined f _ _ r q (own f a r h Value fixed) (own f b q k Value fixed))
      (joined f _ _ r q (h.at Value fixed _ _) (k.at Value fixed _ _))))

  at-div : (a b : Walk) (r q : List A) → ((role : Role) (fixed : Option ℕ) (W : ℕ) (T : Bool) → f (site_of names (Expr-F.Div a b) role fixed W T) ≡ []) →
      GivesAt f a r → GivesAt f b q → GivesAt f (walk_step names (Expr-F.Div a b)) (r ++ q)
  at-div a b r q o h k = node (Expr-F.Div a b) [] (r ++ q) o (λ role fixed W T. joined f _ _ r q (h.at Value fixed W T) (k.at Value fixed W T))

  at-rem : (a b : Walk) (r q : List A) → ((role : Role) (fixed : Option ℕ) (W : ℕ) (T : Bool) → f (site_of names (Expr-F.Rem a b) role fixed W T) ≡ []) →
      GivesAt f a r → GivesAt f b q → GivesAt f (walk_step names (Expr-F.Rem a b)) (r ++ q)
  at-rem a b r q o h k = node (Expr-F.Rem a b) [] (r ++ q) o (λ role fixed W T. joined f _ _ r q (h.at Value fixed W T) (k.at Value fixed W T))

  at-cond : (c a b : Walk) (p r q : List A) → ((role : Role) (fixed : Option ℕ) (W : ℕ) (T : Bool) → f (site_of names (Expr-F.Cond c a b) role fixed W T) ≡ []) →
      GivesAt f c p → GivesAt f a r → GivesAt f b q → GivesAt f (walk_step names (Expr-F.Cond c a b)) ((p ++ r) ++ q)
  at-cond c a b p r q o g h k = node (Expr-F.Cond c a b) [] ((p ++ r) ++ q) o
      (λ role fixed W T. joined f _ _ (p ++ r) q (joined f _ _ p r (own f c p g Value fixed) (h.at Value fixed W T)) (k.at Value fixed W T))

  at-cast : (signed : Bool) (a : Walk) (r : List A) → ((role : Role) (fixed : Option ℕ) (W : ℕ) (T : Bool) → f (site_of names (Expr-F.Cast signed a) role fixed W T) ≡ []) →
      GivesAt f a r → GivesAt f (walk_step names (Expr-F.Cast signed a)) r
  at-cast signed a r o h = node (Expr-F.Cast signed a) [] r o (λ role fixed W T. own f a r h Value fixed)

-- ---- tests

and-left : (a b : Bool) → a && b ≡ true → a ≡ true
and-left true b h = refl
and-left false b h = h

and-right : (a b : Bool) → a && b ≡ true → b ≡ true
and-right true b h = h
and-right false b h = cc

no-signal : (x : Sort) → is_constant_sort x ≡ true → is_signal_sort x ≡ false
no-signal Input h = cc
no-signal Net h = cc
no-signal Variable h = cc
no-signal Clock h = refl
no-signal (Constant n) h = refl
no-signal (Index g) h = refl
no-signal Other h = refl

-- ---- by the tree

record Kept (w : Walk) (ps : List Path) : Type 0 where
  reads : w.shown.reading.constant ≡ true → w.shown.reading.reads ≡ []
  steady : w.shown.reading.constant ≡ true → GivesAt no_constant w []
  paths : GivesAt path_of w ps

record StepKept (w : WalkStep) (ps : List Path) : Type 0 where
  reads : list_all (λ r. r.constant) (parts_of (step_choice (step_shown w))) ≡ true → flat_map (λ r. r.reads) (parts_of (step_choice (step_shown w))) ≡ []
  steady : list_all (λ r. r.constant) (parts_of (step_choice (step_shown w))) ≡ true → StepGives no_constant w []
  paths : StepGives path_of w ps

record AllKept (ws : List Walk) (ps : List Path) : Type 0 where
  reads : list_all (λ r. r.constant) (map (λ r. r.reading) (map (λ w. w.shown) ws)) ≡ true → flat_map (λ r. r.reads) (map (λ r. r.reading) (map (λ w. w.shown) ws)) ≡ []
  steady : list_all (λ r. r.constant) (map (λ r. r.reading) (map (λ w. w.shown) ws)) ≡ true → (role : Role) (fixed : Option ℕ) →
      flat_map no_constant (flat_map (own_sites role fixed) ws) ≡ []
  paths : (role : Role) (fixed : Option ℕ) → flat_map path_of (flat_map (own_sites role fixed) ws) ≡ ps

record StepsKept (ws : List WalkStep) (ps : List Path) : Type 0 where
  reads : all_constant (map step_choice (map step_shown ws)) ≡ true → index_reads (map step_choice (map step_shown ws)) ≡ []
  steady : all_constant (map step_choice (map step_shown ws)) ≡ true → (constant : Bool) (fixed : Option ℕ) →
      flat_map no_constant (flat_map (step_sites constant fixed) ws) ≡ []
  paths : (constant : Bool) (fixed : Option ℕ) → flat_map path_of (flat_map (step_sites constant fixed) ws) ≡ ps

two-empty : {X : Type 0} (xs ys : List X) → xs ≡ [] → ys ≡ [] → xs ++ (ys ++ []) ≡ []
two-empty xs ys h k = ap (λ zs. zs ++ (ys ++ [])) h ∙ ap (λ zs. zs ++ []) k

one-empty : {X : Type 0} (xs : List X) → xs ≡ [] → xs ++ [] ≡ []
one-empty xs h = ap (λ zs. zs ++ []) h

part-left : (a b : Bool) → a && (b && true) ≡ true → a ≡ true
part-left a b h = and-left a (b && true) h

part-right : (a b : Bool) → a && (b && true) ≡ true → b ≡ true
part-right a b h = and-left b true (and-right a (b && true) h)

module _ (names : Names) where
  kept-two : (n : Expr-F Walk WalkStep) (a b : Walk) (p q : List Path) → Kept a p → Kept b q →
      ((walk_step names n).shown.reading.constant ≡ a.shown.reading.constant && (b.shown.reading.constant && true)) →
      ((walk_step names n).shown.reading.reads ≡ a.shown.reading.reads ++ (b.shown.reading.reads ++ [])) →
      (GivesAt no_constant a [] → GivesAt no_constant b [] → GivesAt no_constant (walk_step names n) []) →
      (GivesAt path_of a p → GivesAt path_of b q → GivesAt path_of (walk_step names n) (p ++ q)) → Kept (walk_step names n) (p ++ q)
  kept-two n a b p q h k c r s t = record {
    reads = λ z. r ∙ two-empty a.shown.reading.reads b.shown.reading.reads (h.reads (part-left a.shown.reading.constant b.shown.reading.constant (sym c ∙ z)))
        (k.reads (part-right a.shown.reading.constant b.shown.reading.constant (sym c ∙ z)));
    steady = λ z. s (h.steady (part-left a.shown.reading.constant b.shown.reading.constant (sym c ∙ z)))
        (k.steady (part-right a.shown.reading.constant b.shown.reading.constant (sym c ∙ z)));
    paths = t h.paths k.paths;
  }

  kept-one : (n : Expr-F Walk WalkStep) (a : Walk) (p : List Path) → Kept a p →
      ((walk_step names n).shown.reading.constant ≡ a.shown.reading.constant && true) → ((walk_step names n).shown.reading.reads ≡ a.shown.reading.reads ++ []) →
      (GivesAt no_constant a [] → GivesAt no_constant (walk_step names n) []) →
      (GivesAt path_of a p → GivesAt path_of (walk_step names n) p) → Kept (walk_step names n) p
  kept-one n a p h c r s t = record {
    reads = λ z. r ∙ one-empty a.shown.reading.reads (h.reads (and-left a.shown.reading.constant true (sym c ∙ z)));
    steady = λ z. s (h.steady (and-left a.shown.reading.constant true (sym c ∙ z)));
    paths = t h.paths;
  }

  kept-cond : (c a b : Walk) (o p q : List Path) → Kept c o → Kept a p → Kept b q → Kept (walk_step names (Expr-F.Cond c a b)) ((o ++ p) ++ q)
  kept-cond c a b o p q g h k = record {
    reads = λ z. ap (λ zs. zs ++ (a.shown.reading.reads ++ (b.shown.reading.reads ++ []))) (g.reads (and-left c.shown.reading.constant _ z)) ∙
        two-empty a.shown.reading.reads b.shown.reading.reads
        (h.reads (part-left a.shown.reading.constant b.shown.reading.constant (and-right c.shown.reading.constant _ z)))
        (k.reads (part-right a.shown.reading.constant b.shown.reading.constant (and-right c.shown.reading.constant _ z)));
    steady = λ z. at-cond names no_constant c a b [] [] [] (λ role fixed W T. refl) (g.steady (and-left c.shown.reading.constant _ z))
        (h.steady (part-left a.shown.reading.constant b.shown.reading.constant (and-right c.shown.reading.constant _ z)))
        (k.steady (part-right a.shown.reading.constant b.shown.reading.constant (and-right c.shown.reading.constant _ z)));
    paths = at-cond names path_of c a b o p q (λ role fixed W T. refl) g.paths h.paths k.paths;
  }

  kept-cat : (ws : List Walk) (ps : List Path) → AllKept ws ps → Kept (walk_step names (Expr-F.Cat ws)) ps
  kept-cat ws ps h = record {
    reads = λ z. h.reads z;
    steady = λ z. node names no_constant (Expr-F.Cat ws) [] [] (λ role fixed W T. refl) (λ role fixed W T. h.steady z (joined_role role) fixed);
    paths = node names path_of (Expr-F.Cat ws) [] ps (λ role fixed W T. refl) (λ role fixed W T. h.paths (joined_role role) fixed);
  }

  kept-rep : (n : Walk) (ws : List Walk) (o ps : List Path) → Kept n o → AllKept ws ps → Kept (walk_step names (Expr-F.Rep n ws)) (o ++ ps)
  kept-rep n ws o ps g h = record {
    reads = λ z. ap (λ zs. zs ++ flat_map (λ r. r.reads) (map (λ r. r.reading) (map (λ w. w.shown) ws))) (g.reads (and-left n.shown.reading.constant _ z)) ∙
        h.reads (and-right n.shown.reading.constant _ z);
    steady = λ z. node names no_constant (Expr-F.Rep n ws) [] [] (λ role fixed W T. refl) (λ role fixed W T. joined no_constant (fixed_sites n) (flat_map (own_sites Joined fixed) ws) [] []
        (own no_constant n [] (g.steady (and-left n.shown.reading.constant _ z)) Value (Some (first_place n.shown)))
        (h.steady (and-right n.shown.reading.constant _ z) Joined fixed));
    paths = node names path_of (Expr-F.Rep n ws) [] (o ++ ps) (λ role fixed W T. refl) (λ role fixed W T. joined path_of (fixed_sites n) (flat_map (own_sites Joined fixed) ws) o ps
        (own path_of n o g.paths Value (Some (first_place n.shown))) (h.paths Joined fixed));
  }

  constant-bits : (o : Option Declared) (cs : List Choice) → is_constant_sort (known o).sort ≡ true → bits_named (known o) cs ≡ []
  constant-bits o cs h = rw (no-signal (known o).sort h) refl

  named-steady : (o : Option Declared) (n : ℕ) → is_constant_sort (known o).sort ≡ true → (if is_early true o then [] else n ∷ []) ≡ []
  named-steady None n h = cc
  named-steady (Some d) n h = rw h refl

  kept-name : (path : Path) (ws : List WalkStep) (ps : List Path) → StepsKept ws ps → Kept (walk_step names (Expr-F.Name path ws)) (path ∷ ps)
  kept-name path ws ps h = record {
    reads = λ z. ap (λ zs. zs ++ index_reads (map step_choice (map step_shown ws)))
        (constant-bits (names path) (map step_choice (map step_shown ws)) (and-left (is_constant_sort (known (names path)).sort) _ z)) ∙
        h.reads (and-right (is_constant_sort (known (names path)).sort) _ z);
    steady = λ z. node names no_constant (Expr-F.Name path ws) [] []
        (λ role fixed W T. named-steady (names path) path.place (and-left (is_constant_sort (known (names path)).sort) _ z))
        (λ role fixed W T. h.steady (and-right (is_constant_sort (known (names path)).sort) _ z) (is_driven role) fixed);
    paths = node names path_of (Expr-F.Name path ws) (path ∷ []) ps (λ role fixed W T. refl) (λ role fixed W T. h.paths (is_driven role) fixed);
  }

  kept-un : (op : Op) (a : Walk) (p : List Path) → Kept a p → Kept (walk_step names (Expr-F.Un op a)) p
  kept-un op a p g = kept-one (Expr-F.Un op a) a p g refl refl (λ h. at-un names no_constant op a [] (λ role fixed W T. refl) h)
      (λ h. at-un names path_of op a p (λ role fixed W T. refl) h)

  kept-cast : (signed : Bool) (a : Walk) (p : List Path) → Kept a p → Kept (walk_step names (Expr-F.Cast signed a)) p
  kept-cast signed a p g = kept-one (Expr-F.Cast signed a) a p g refl refl (λ h. at-cast names no_constant signed a [] (λ role fixed W T. refl) h)
      (λ h. at-cast names path_of signed a p (λ role fixed W T. refl) h)

  kept-bin : (op : Op) (a b : Walk) (p q : List Path) → Kept a p → Kept b q → Kept (walk_step names (Expr-F.Bin op a b)) (p ++ q)
  kept-bin op a b p q g i = kept-two (Expr-F.Bin op a b) a b p q g i refl refl (λ h k. at-bin names no_constant op a b [] [] (λ role fixed W T. refl) h k)
      (λ h k. at-bin names path_of op a b p q (λ role fixed W T. refl) h k)

  kept-div : (a b : Walk) (p q : List Path) → Kept a p → Kept b q → Kept (walk_step names (Expr-F.Div a b)) (p ++ q)
  kept-div a b p q g i = kept-two (Expr-F.Div a b) a b p q g i refl refl (λ h k. at-div names no_constant a b [] [] (λ role fixed W T. refl) h k)
      (λ h k. at-div names path_of a b p q (λ role fixed W T. refl) h k)

  kept-rem : (a b : Walk) (p q : List Path) → Kept a p → Kept b q → Kept (walk_step names (Expr-F.Rem a b)) (p ++ q)
  kept-rem a b p q g i = kept-two (Expr-F.Rem a b) a b p q g i refl refl (λ h k. at-rem names no_constant a b [] [] (λ role fixed W T. refl) h k)
      (λ h k. at-rem names path_of a b p q (λ role fixed W T. refl) h k)

  kept-more : (w : Walk) (ws : List Walk) (p ps : List Path) → Kept w p → AllKept ws ps → AllKept (w ∷ ws) (p ++ ps)
  kept-more w ws p ps h k = record {
    reads = λ z. two (λ (a b : List Bit). a ++ b) _ _ _ _ (h.reads (and-left w.shown.reading.constant _ z)) (k.reads (and-right w.shown.reading.constant _ z));
    steady = λ z role fixed. joined no_constant (own_sites role fixed w) (flat_map (own_sites role fixed) ws) [] []
        (own no_constant w [] (h.steady (and-left w.shown.reading.constant _ z)) role fixed) (k.steady (and-right w.shown.reading.constant _ z) role fixed);
    paths = λ role fixed. joined path_of (own_sites role fixed w) (flat_map (own_sites role fixed) ws) p ps (own path_of w p h.paths role fixed) (k.paths role fixed);
  }

  steps-more : (w : WalkStep) (ws : List WalkStep) (p ps : List Path) → StepKept w p → StepsKept ws ps → StepsKept (w ∷ ws) (p ++ ps)
  steps-more w ws p ps h k = record {
    reads = λ z. two (λ (a b : List Bit). a ++ b) _ _ _ _ (h.reads (and-left (list_all (λ r. r.constant) (parts_of (step_choice (step_shown w)))) _ z))
        (k.reads (and-right (list_all (λ r. r.constant) (parts_of (step_choice (step_shown w)))) _ z));
    steady = λ z constant fixed. joined no_constant (step_sites constant fixed w) (flat_map (step_sites constant fixed) ws) [] []
        ((h.steady (and-left (list_all (λ r. r.constant) (parts_of (step_choice (step_shown w)))) _ z)).at constant fixed)
        (k.steady (and-right (list_all (λ r. r.constant) (parts_of (step_choice (step_shown w)))) _ z) constant fixed);
    paths = λ constant fixed. joined path_of (step_sites constant fixed w) (flat_map (step_sites constant fixed) ws) p ps (h.paths.at constant fixed) (k.paths constant fixed);
  }

  kept-bit : (a : Walk) (p : List Path) → Kept a p → StepKept (Select-F.Bit a) p
  kept-bit a p h = record {
    reads = λ z. one-empty a.shown.reading.reads (h.reads (and-left a.shown.reading.constant true z));
    steady = λ z. step-bit no_constant a [] (h.steady (and-left a.shown.reading.constant true z));
    paths = step-bit path_of a p h.paths;
  }

  kept-part : (a b : Walk) (p q : List Path) → Kept a p → Kept b q → StepKept (Select-F.Part a b) (p ++ q)
  kept-part a b p q h k = record {
    reads = λ z. two-empty a.shown.reading.reads b.shown.reading.reads (h.reads (part-left a.shown.reading.constant b.shown.reading.constant z))
        (k.reads (part-right a.shown.reading.constant b.shown.reading.constant z));
    steady = λ z. step-part no_constant a b [] [] (h.steady (part-left a.shown.reading.constant b.shown.reading.constant z))
        (k.steady (part-right a.shown.reading.constant b.shown.reading.constant z));
    paths = step-part path_of a b p q h.paths k.paths;
  }

  kept-up : (a b : Walk) (p q : List Path) → Kept a p → Kept b q → StepKept (Select-F.Up a b) (p ++ q)
  kept-up a b p q h k = record {
    reads = λ z. two-empty a.shown.reading.reads b.shown.reading.reads (h.reads (part-left a.shown.reading.constant b.shown.reading.constant z))
        (k.reads (part-right a.shown.reading.constant b.shown.reading.constant z));
    steady = λ z. step-up no_constant a b [] [] (h.steady (part-left a.shown.reading.constant b.shown.reading.constant z))
        (k.steady (part-right a.shown.reading.constant b.shown.reading.constant z));
    paths = step-up path_of a b p q h.paths k.paths;
  }

  kept-down : (a b : Walk) (p q : List Path) → Kept a p → Kept b q → StepKept (Select-F.Down a b) (p ++ q)
  kept-down a b p q h k = record {
    reads = λ z. two-empty a.shown.reading.reads b.shown.reading.reads (h.reads (part-left a.shown.reading.constant b.shown.reading.constant z))
        (k.reads (part-right a.shown.reading.constant b.shown.reading.constant z));
    steady = λ z. step-down no_constant a b [] [] (h.steady (part-left a.shown.reading.constant b.shown.reading.constant z))
        (k.steady (part-right a.shown.reading.constant b.shown.reading.constant z));
    paths = step-down path_of a b p q h.paths k.paths;
  }

  mutual
    fold-kept : (z : Expr) → Kept (fold_expr Walk WalkStep (walk_step names) walk_select_step z) (fold_expr (List Path) (List Path) path_step path_choice z)
    fold-kept (e.Lit l) = record {
      reads = λ z. refl;
      steady = λ z. node names no_constant (Expr-F.Lit l) [] [] (λ role fixed W T. refl) (λ role fixed W T. refl);
      paths = node names path_of (Expr-F.Lit l) [] [] (λ role fixed W T. refl) (λ role fixed W T. refl);
    }
    fold-kept (e.Name' path n ss) = kept-name path _ _ (fold-steps ss)
    fold-kept (e.Un' op n a) = kept-un op _ _ (fold-one a)
    fold-kept (e.Bin' op n a m b) = kept-bin op _ _ _ _ (fold-one a) (fold-one b)
    fold-kept (e.Div' n a m b) = kept-div _ _ _ _ (fold-one a) (fold-one b)
    fold-kept (e.Rem' n a m b) = kept-rem _ _ _ _ (fold-one a) (fold-one b)
    fold-kept (e.Cond' n c m a k b) = kept-cond _ _ _ _ _ _ (fold-one c) (fold-one a) (fold-one b)
    fold-kept (e.Cat' n es) = kept-cat _ _ (fold-all es)
    fold-kept (e.Rep' n a m es) = kept-rep _ _ _ _ (fold-one a) (fold-all es)
    fold-kept (e.Cast' signed n a) = kept-cast signed _ _ (fold-one a)

    fold-one : {n : _} (r : Row_of-Expr n) → Kept (fold_one Walk WalkStep (walk_step names) walk_select_step r) (fold_one (List Path) (List Path) path_step path_choice r)
    fold-one end_of-Expr = kept-cat [] [] (record { reads = λ z. refl; steady = λ z role fixed. refl; paths = λ role fixed. refl })
    fold-one (more_of-Expr x xs) = fold-kept x

    fold-all : {n : _} (r : Row_of-Expr n) → AllKept (fold_exprs Walk WalkStep (walk_step names) walk_select_step r)
        (flat_map (λ ps. ps) (fold_exprs (List Path) (List Path) path_step path_choice r))
    fold-all end_of-Expr = record { reads = λ z. refl; steady = λ z role fixed. refl; paths = λ role fixed. refl }
    fold-all (more_of-Expr x xs) = kept-more _ _ _ _ (fold-kept x) (fold-all xs)

    fold-step : (z : Select) → StepKept (fold_select Walk WalkStep (walk_step names) walk_select_step z) (fold_select (List Path) (List Path) path_step path_choice z)
    fold-step (s.Bit' n a) = kept-bit _ _ (fold-one a)
    fold-step (s.Part' n a m b) = kept-part _ _ _ _ (fold-one a) (fold-one b)
    fold-step (s.Up' n a m b) = kept-up _ _ _ _ (fold-one a) (fold-one b)
    fold-step (s.Down' n a m b) = kept-down _ _ _ _ (fold-one a) (fold-one b)

    fold-steps : {n : _} (r : Row_of-Select n) → StepsKept (fold_selects Walk WalkStep (walk_step names) walk_select_step r)
        (flat_map (λ ps. ps) (fold_selects (List Path) (List Path) path_step path_choice r))
    fold-steps end_of-Select = record { reads = λ z. refl; steady = λ z constant fixed. refl; paths = λ constant fixed. refl }
    fold-steps (more_of-Select x xs) = steps-more _ _ _ _ (fold-step x) (fold-steps xs)

  pub constant-reads : (z : Expr) → (walk names z).shown.reading.constant ≡ true → (walk names z).shown.reading.reads ≡ []
  unfolding walk
  constant-reads z h = (fold-kept z).reads h

  pub constant-steady : (z : Expr) → (walk names z).shown.reading.constant ≡ true → (role : Role) (fixed : Option ℕ) (W : ℕ) (T : Bool) →
      flat_map no_constant ((walk names z).sites role fixed W T) ≡ []
  unfolding walk
  constant-steady z h role fixed W T = ((fold-kept z).steady h).at role fixed W T

  pub site-paths : (z : Expr) (role : Role) (fixed : Option ℕ) (W : ℕ) (T : Bool) → flat_map path_of ((walk names z).sites role fixed W T) ≡ paths_in z
  unfolding walk paths_in
  site-paths z role fixed W T = ((fold-kept z).paths).at role fixed W T
