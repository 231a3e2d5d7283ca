-- Which expressions are targets.
use Rattle.std.proofs.Common.{◌≡◌, ℕ, ◌+◌, ◌<◌, ◌≤◌, Bool, true, false, not, List, ap, ◌∙◌, sym, refl, length, get_or, take, drop, Option, Some, None}
use Rattle.lv_ast.specs.declared.expr.Path.{Path}
use Rattle.lv_ast.specs.declared.expr.Select.{Select}
use Rattle.lv_ast.specs.declared.expr.Expr.{Expr}
use Rattle.lv_ast.specs.declared.expr.Expr.TheVariants as tree
use Rattle.lv_source.specs.Names.{Names}
use Rattle.lv_source.specs.Effect.{Piece}
use Rattle.lv_source.specs.Parts.{as_target}
use Rattle.lv_source.specs.ScopeRules.{is_none}
use Rattle.lv_const.proofs.Lists.{take-whole}
use Rattle.lv_links.proofs.Lists.{taken, parted}
use Rattle.lv_sinks.specs.Sinks.{all_targets}
use Rattle.lv_sinks.proofs.SinkReads.{sink-Name, sink-Cat, sink-other}
use Rattle.lv_sinks.proofs.SinkLaws.{targets-snoc, targets-none}

abbrev some : {A : Type 0} → Option A → Bool
some o = not (is_none o)

none-of : {A : Type 0} (o : Option A) (b : Bool) → b ≡ some o → b ≡ false → o ≡ None
none-of None b h k = refl
none-of (Some z) b h k = absurd (let e : true ≡ false = sym h ∙ k in cc)

some-of : {A : Type 0} (o : Option A) (b : Bool) → b ≡ some o → b ≡ true → (z : A) × (o ≡ Some z)
some-of None b h k = absurd (let e : false ≡ true = sym h ∙ k in cc)
some-of (Some z) b h k = (z, refl)

there : {A : Type 0} (o : Option A) → is_none o ≡ false → (z : A) × (o ≡ Some z)
there None h = absurd (cc)
there (Some z) h = (z, refl)

pub is-there : {A : Type 0} (o : Option A) (b : Bool) → b ≡ some o → b ≡ true → is_none o ≡ false
is-there None b h k = absurd (let e : false ≡ true = sym h ∙ k in cc)
is-there (Some z) b h k = refl

pub is-absent : {A : Type 0} (o : Option A) (b : Bool) → b ≡ some o → b ≡ false → o ≡ None
is-absent o b h k = none-of o b h k

module _ (names : Names) where
  pub shape-Name : (z : Expr) (path : Path) (ss : List Select) → z ≡ tree.Name path ss → true ≡ some (as_target names z)
  shape-Name z path ss e = sym (ap (λ o. some o) (ap (as_target names) e ∙ sink-Name names path ss))

  pub shape-Cat : (z : Expr) (es us : List Expr) (b : Bool) → z ≡ tree.Cat es → us ≡ es → b ≡ some (all_targets names us) → b ≡ some (as_target names z)
  shape-Cat z es us b e k h = h ∙ sym (ap (λ o. some o) (ap (as_target names) e ∙ (sink-Cat names es ∙ ap (all_targets names) (sym k))))

  pub shape-other : (z : Expr) → ((path : Path) (ss : List Select) → z ≡ tree.Name path ss → ⊥) → ((es : List Expr) → z ≡ tree.Cat es → ⊥) → false ≡ some (as_target names z)
  shape-other z h k = sym (ap (λ o. some o) (sink-other names z h k))

  module _ (es : List Expr) (i : ℕ) (z : Expr) (b : Bool) (h : i < length es) (e : z ≡ get_or es i z) (k : b ≡ some (as_target names z)) where
    pub shapes-none : b ≡ false → false ≡ some (all_targets names es)
    shapes-none m = sym (ap (λ o. some o) (ap (all_targets names) (parted es i z h e) ∙ targets-none names (take i es) (drop (i + 1) es) z (none-of (as_target names z) b k m)))

    pub shapes-more : b ≡ true → is_none (all_targets names (take i es)) ≡ false → is_none (all_targets names (take (i + 1) es)) ≡ false
    shapes-more m n =
        let p : (ps : List Piece) × (all_targets names (take i es) ≡ Some ps) = there (all_targets names (take i es)) n in
        let q : (qs : List Piece) × (as_target names z ≡ Some qs) = some-of (as_target names z) b k m in
        ap (λ o. is_none o) (ap (all_targets names) (taken es i z h e) ∙ targets-snoc names (take i es) z p.0 q.0 p.1 q.1)

  pub shapes-all : (es : List Expr) (i : ℕ) → length es ≤ i → is_none (all_targets names (take i es)) ≡ false → true ≡ some (all_targets names es)
  shapes-all es i h k = sym (ap not (ap (λ us. is_none (all_targets names us)) (sym (take-whole es i h)) ∙ k))
