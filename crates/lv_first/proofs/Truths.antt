-- The truth of each form of a formula, and how truths simplify.
use Rattle.std.proofs.Common.{◌≡◌, ℕ, ◌+◌, ◌<◌, Bool, true, false, not, ◌&&◌, ◌||◌, if◌then◌else◌, ◌==◌, refl, sym, ◌∙◌, ap, arith}
use Rattle.lv_first.specs.declared.formula.Formula.{Formula, roll-Formula, map-Formula, fold-roll-Formula}
use Rattle.lv_first.specs.declared.formula.Formula.TheVariants as f
use Rattle.lv_first.specs.declared.formula.Formula.TheVariants.{rolls-Constant, rolls-Variable, rolls-Not, rolls-And, rolls-Or, rolls-Xor}
use Rattle.lv_first.specs.declared.formula.Formula.TheOpen.{Formula-F}
use Rattle.lv_first.specs.Formulas.{Truth, same_bit, constant, variable, negated, both, either, differ, alike, implied, truth_step, truth, copy_of, fixing, in_copy}

pub funext : {A : Type 0} (s t : A → Bool) → ((x : A) → s x ≡ t x) → s ≡ t
funext s t h = λ i x. h x i

truth_roll : (x : Formula-F Formula) → truth (roll-Formula x) ≡ truth_step (map-Formula Formula Truth truth x)
unfolding truth
truth_roll x = fold-roll-Formula Truth truth_step x

pub truth-Constant : (b : Bool) → truth (f.Constant b) ≡ constant b
truth-Constant b = ap truth (sym (rolls-Constant b)) ∙ truth_roll (Formula-F.Constant b)

pub truth-Variable : (k : ℕ) → truth (f.Variable k) ≡ variable k
truth-Variable k = ap truth (sym (rolls-Variable k)) ∙ truth_roll (Formula-F.Variable k)

pub truth-Not : (a : Formula) → truth (f.Not a) ≡ negated (truth a)
truth-Not a = ap truth (sym (rolls-Not a)) ∙ truth_roll (Formula-F.Not a)

pub truth-And : (a b : Formula) → truth (f.And a b) ≡ both (truth a) (truth b)
truth-And a b = ap truth (sym (rolls-And a b)) ∙ truth_roll (Formula-F.And a b)

pub truth-Or : (a b : Formula) → truth (f.Or a b) ≡ either (truth a) (truth b)
truth-Or a b = ap truth (sym (rolls-Or a b)) ∙ truth_roll (Formula-F.Or a b)

pub truth-Xor : (a b : Formula) → truth (f.Xor a b) ≡ differ (truth a) (truth b)
truth-Xor a b = ap truth (sym (rolls-Xor a b)) ∙ truth_roll (Formula-F.Xor a b)

pub negated-constant : (b : Bool) → negated (constant b) ≡ constant (not b)
unfolding negated constant
negated-constant b = refl

pub both-true : (t : Truth) → both (constant true) t ≡ t
unfolding both constant
both-true t = refl

pub both-false : (t : Truth) → both (constant false) t ≡ constant false
unfolding both constant
both-false t = refl

and_true : (b : Bool) → (b && true) ≡ b
and_true true = refl
and_true false = refl

and_false : (b : Bool) → (b && false) ≡ false
and_false true = refl
and_false false = refl

or_true : (b : Bool) → (b || true) ≡ true
or_true true = refl
or_true false = refl

or_false : (b : Bool) → (b || false) ≡ b
or_false true = refl
or_false false = refl

pub both-by_true : (t : Truth) → both t (constant true) ≡ t
unfolding both constant
both-by_true t = funext (λ env. t env && true) t (λ env. and_true (t env))

pub both-by_false : (t : Truth) → both t (constant false) ≡ constant false
unfolding both constant
both-by_false t = funext (λ env. t env && false) (λ env. false) (λ env. and_false (t env))

pub either-true : (t : Truth) → either (constant true) t ≡ constant true
unfolding either constant
either-true t = refl

pub either-false : (t : Truth) → either (constant false) t ≡ t
unfolding either constant
either-false t = refl

pub either-by_true : (t : Truth) → either t (constant true) ≡ constant true
unfolding either constant
either-by_true t = funext (λ env. t env || true) (λ env. true) (λ env. or_true (t env))

pub either-by_false : (t : Truth) → either t (constant false) ≡ t
unfolding either constant
either-by_false t = funext (λ env. t env || false) t (λ env. or_false (t env))

not_not : (b : Bool) → not (not b) ≡ b
not_not true = refl
not_not false = refl

pub differ-true : (t : Truth) → differ (constant true) t ≡ negated t
unfolding differ constant negated
differ-true t = refl

pub differ-false : (t : Truth) → differ (constant false) t ≡ t
unfolding differ constant
differ-false t = funext (λ env. not (not (t env))) t (λ env. not_not (t env))

same_true : (b : Bool) → not (same_bit b true) ≡ not b
same_true true = refl
same_true false = refl

same_false : (b : Bool) → not (same_bit b false) ≡ b
same_false true = refl
same_false false = refl

pub differ-by_true : (t : Truth) → differ t (constant true) ≡ negated t
unfolding differ constant negated
differ-by_true t = funext (λ env. not (same_bit (t env) true)) (λ env. not (t env)) (λ env. same_true (t env))

pub differ-by_false : (t : Truth) → differ t (constant false) ≡ t
unfolding differ constant
differ-by_false t = funext (λ env. not (same_bit (t env) false)) t (λ env. same_false (t env))

pub negated-differ : (s t : Truth) → negated (differ s t) ≡ alike s t
unfolding negated differ alike
negated-differ s t = funext (λ env. not (not (same_bit (s env) (t env)))) (λ env. same_bit (s env) (t env)) (λ env. not_not (same_bit (s env) (t env)))

pub either-negated : (s t : Truth) → either (negated s) t ≡ implied s t
unfolding either negated implied
either-negated s t = refl

pub fixing-constant : (k : ℕ) (b c : Bool) → fixing k b (constant c) ≡ constant c
unfolding fixing constant
fixing-constant k b c = refl

pub fixing-negated : (k : ℕ) (b : Bool) (t : Truth) → fixing k b (negated t) ≡ negated (fixing k b t)
unfolding fixing negated
fixing-negated k b t = refl

pub fixing-both : (k : ℕ) (b : Bool) (s t : Truth) → fixing k b (both s t) ≡ both (fixing k b s) (fixing k b t)
unfolding fixing both
fixing-both k b s t = refl

pub fixing-either : (k : ℕ) (b : Bool) (s t : Truth) → fixing k b (either s t) ≡ either (fixing k b s) (fixing k b t)
unfolding fixing either
fixing-either k b s t = refl

pub fixing-differ : (k : ℕ) (b : Bool) (s t : Truth) → fixing k b (differ s t) ≡ differ (fixing k b s) (fixing k b t)
unfolding fixing differ
fixing-differ k b s t = refl

pub copy-constant : (r i by : ℕ) (c : Bool) → in_copy r i by (constant c) ≡ constant c
unfolding in_copy constant
copy-constant r i by c = refl

pub copy-negated : (r i by : ℕ) (t : Truth) → in_copy r i by (negated t) ≡ negated (in_copy r i by t)
unfolding in_copy negated
copy-negated r i by t = refl

pub copy-both : (r i by : ℕ) (s t : Truth) → in_copy r i by (both s t) ≡ both (in_copy r i by s) (in_copy r i by t)
unfolding in_copy both
copy-both r i by s t = refl

pub copy-either : (r i by : ℕ) (s t : Truth) → in_copy r i by (either s t) ≡ either (in_copy r i by s) (in_copy r i by t)
unfolding in_copy either
copy-either r i by s t = refl

pub copy-differ : (r i by : ℕ) (s t : Truth) → in_copy r i by (differ s t) ≡ differ (in_copy r i by s) (in_copy r i by t)
unfolding in_copy differ
copy-differ r i by s t = refl

pub fixing-same : (k j : ℕ) (b : Bool) → j ≡ k → fixing k b (variable j) ≡ constant b
unfolding fixing variable constant
fixing-same k j b e = funext (λ env. if j == k then b else env j) (λ env. b) (λ env. grind (arith, e))

pub fixing-other : (k j : ℕ) (b : Bool) → (j ≡ k → ⊥) → fixing k b (variable j) ≡ variable j
unfolding fixing variable
fixing-other k j b n = funext (λ env. if j == k then b else env j) (λ env. env j) (λ env. grind (arith, n))

pub copy-register : (r i by k : ℕ) → k < r → in_copy r i by (variable k) ≡ variable (k + by)
unfolding in_copy variable
copy-register r i by k h = funext (λ env. copy_of r i by env k) (λ env. env (k + by)) (λ env. grind (arith, h))

pub copy-input : (r i by k : ℕ) → (k < r → ⊥) → k < r + i → in_copy r i by (variable k) ≡ variable k
unfolding in_copy variable
copy-input r i by k n h = funext (λ env. copy_of r i by env k) (λ env. env k) (λ env. grind (arith, n, h))

pub copy-nothing : (r i by k : ℕ) → (k < r → ⊥) → (k < r + i → ⊥) → in_copy r i by (variable k) ≡ constant false
unfolding in_copy variable constant
copy-nothing r i by k n h = funext (λ env. copy_of r i by env k) (λ env. false) (λ env. grind (arith, n, h))

pub ruleset truths = (
  truth-Constant,
  truth-Variable,
  truth-Not,
  truth-And,
  truth-Or,
  truth-Xor,
  negated-constant,
  both-true,
  both-false,
  both-by_true,
  both-by_false,
  either-true,
  either-false,
  either-by_true,
  either-by_false,
  differ-true,
  differ-false,
  differ-by_true,
  differ-by_false,
  negated-differ,
  either-negated,
  fixing-constant,
  fixing-negated,
  fixing-both,
  fixing-either,
  fixing-differ,
  fixing-same,
  fixing-other,
  copy-constant,
  copy-negated,
  copy-both,
  copy-either,
  copy-differ,
  copy-register,
  copy-input,
  copy-nothing,
)
