-- The machine of a design and that of its problem are one.
use Rattle.std.proofs.Common.{◌≡◌, ℕ, zero, suc, ◌+◌, ◌≤◌, inl, inr, Bool, true, nat_eq, List, [], ◌∷◌, ◌++◌, length, map, refl, sym, ◌∙◌, ap, subst, arith, length-append, ◌-◌, get_or}
use Rattle.std.specs.Prelude.{Some, None, slice_get, All, ◌↔◌, if◌then◌else◌}
use Rattle.std.proofs.lemmas.Bool.{cases_lt}
use Rattle.std.proofs.lemmas.List.Elements.{All-nil, All-cons, All-head, All-tail}
use Rattle.std.proofs.lemmas.Option.{slice_get_within, slice_get-get_or, slice_get_past}
use Rattle.lv_bits.specs.Values.{bit}
use Rattle.lv_ast.specs.declared.expr.Expr.{Expr}
use Rattle.lv_ast.specs.declared.stmt.Stmt.{Stmt}
use Rattle.lv_ast.specs.Names.{Name}
use Rattle.lv_source.specs.Names.{Names, Valuation}
use Rattle.lv_source.specs.Meaning.{own}
use Rattle.lv_model.specs.Machine.{Machine}
use Rattle.lv_model.specs.Design.{values, Eq, Aligned, MaybeHolds}
use Rattle.lv_first.specs.declared.formula.Formula.{Formula}
use Rattle.lv_first.specs.declared.formula.Formula.TheVariants.{Constant}
use Rattle.lv_first.specs.declared.observed.ObserverTrees.{ObserverTrees}
use Rattle.lv_first.specs.declared.problem.Problem.{Problem}
use Rattle.lv_first.specs.FirstForm as source
use Rattle.lv_first.specs.FirstForm.{scope_of, observed, after, machine_of_parts, is_in}
use Rattle.lv_first.specs.Formulas.{Assignment, truth, variable}
use Rattle.lv_first.specs.Problems as problem
use Rattle.lv_first.specs.Problems.{number, numbers, register, machine_of_problem}
use Rattle.lv_first.specs.Signals.{env_of, val_of, AreBits, IsBitOf, AreBitsOf, AreVariablesOf, IsProblemOf}
use Rattle.lv_first.proofs.Numbering.{env-past, env-at, env-bit, val-bits, val-else, env-returns, at_or_past}
use Rattle.lv_first.proofs.Meanings.{own-bit}
use Rattle.lv_first.proofs.Alike.{from_bits}
use Rattle.lv_first.proofs.Candidates.{candidates-count, candidate-of_register, candidate-last}
use Rattle.lv_first.proofs.Mirrors.{Mirrors}

-- ---- lists of names

left_part : (xs ys : List Name) (k : ℕ) (x : Name) → slice_get xs k ≡ Some x → slice_get (xs ++ ys) k ≡ Some x
left_part [] ys k x h = absurd (cc)
left_part (y ∷ xs) ys zero x h = h
left_part (y ∷ xs) ys (suc k) x h = left_part xs ys k x h

right_part : (xs ys : List Name) (k : ℕ) (x : Name) → slice_get ys k ≡ Some x → slice_get (xs ++ ys) (length xs + k) ≡ Some x
right_part [] ys k x h = let e : 0 + k ≡ k = omega arith in subst (λ j. slice_get ys j ≡ Some x) (sym e) h
right_part (y ∷ xs) ys k x h = let e : suc (length xs) + k ≡ suc (length xs + k) = omega arith in subst (λ j. slice_get (y ∷ xs ++ ys) j ≡ Some x) (sym e) (right_part xs ys k x h)

right_of : (xs ys : List Name) (k : ℕ) (x : Name) → length xs ≤ k → slice_get (xs ++ ys) k ≡ Some x → slice_get ys (k - length xs) ≡ Some x
right_of [] ys k x le h = let e : k - 0 ≡ k = omega arith in subst (λ j. slice_get ys j ≡ Some x) (sym e) h
right_of (y ∷ xs) ys zero x le h = absurd (omega arith)
right_of (y ∷ xs) ys (suc k) x le h = let e : suc k - suc (length xs) ≡ k - length xs = omega arith in subst (λ j. slice_get ys j ≡ Some x) (sym e) (right_of xs ys k x (omega arith) h)

source_register : (Rs : List Name) (k : ℕ) (q : Name) → slice_get Rs k ≡ Some q → slice_get (source.candidates_of Rs) k ≡ Some (Eq (λ v. v q))
source_register [] k q h = absurd (cc)
source_register (r ∷ Rs) zero q h = let e : r ≡ q = cc in ap (λ z. Some (Eq (λ (v : Valuation). v z))) e
source_register (r ∷ Rs) (suc k) q h = source_register Rs k q h

source_last : (Rs : List Name) → slice_get (source.candidates_of Rs) (length Rs) ≡ Some Aligned
source_last [] = refl
source_last (r ∷ Rs) = source_last Rs

source_count : (Rs : List Name) → length (source.candidates_of Rs) ≡ suc (length Rs)
source_count [] = refl
source_count (r ∷ Rs) = ap suc (source_count Rs)

-- what each name of a list meets, by number
pub all_numbered : (P : Name → Type 0) (xs : List Name) → ((k : ℕ) (x : Name) → slice_get xs k ≡ Some x → P x) → All P xs
all_numbered P [] each = All-nil P
all_numbered P (x ∷ xs) each = All-cons P x xs (each zero x refl) (all_numbered P xs (λ k y h. each (suc k) y h))

pub numbered_all : (P : Name → Type 0) (xs : List Name) → All P xs → (k : ℕ) (x : Name) → slice_get xs k ≡ Some x → P x
numbered_all P [] all k x h = absurd (cc)
numbered_all P (y ∷ xs) all zero x h = let e : y ≡ x = cc in subst P e (All-head P y xs all)
numbered_all P (y ∷ xs) all (suc k) x h = numbered_all P xs (All-tail P y xs all) k x h

module _ (Rs Is : List Name) (bodies : List Stmt) (c : ObserverTrees) (p : Problem) (h : IsProblemOf Rs Is bodies c p) where
  abbrev S : List Name
  S = Rs ++ Is

  abbrev names : Names
  names = scope_of Rs Is

  abbrev m : Machine Valuation
  m = machine_of_parts Rs Is bodies c

  abbrev n : Machine Assignment
  n = machine_of_problem p

  abbrev to : Valuation → Assignment
  to v = env_of S v

  abbrev from : Assignment → Valuation
  from env = val_of S env

  size : length S ≡ p.registers + p.inputs
  size = omega (arith, length-append Rs Is, h.register_count, h.input_count)

  settled : (v : Valuation) → m.IsSettled v → n.IsSettled (to v)
  settled v s = record { below = λ k less. absurd (omega arith); above = λ k more. env-past S v k (omega (arith, size)) }

  back : (w : Assignment) → n.IsSettled w → m.IsSettled (from w)
  back w s = (val-bits S S w, λ x other. val-else S w x other)

  returns : (w : Assignment) → n.IsSettled w → to (from w) ≡ w
  returns w s = env-returns S w h.distinct (λ k more. s.above k (omega (arith, size)))

  register_at : (v : Valuation) → AreBits S v → (k : ℕ) (q : Name) → slice_get Rs k ≡ Some q → bit (to v k) ≡ v q
  register_at v bits k q at = env-bit S v bits k q (left_part Rs Is k q at)

  follows : (v w : Valuation) → m.IsSettled v → m.IsSettled w → m.Follows v w ↔ n.Follows (to v) (to w)
  follows v w sv sw = (
    λ f k g at. elim (at_or_past Rs k) [
      | inl (q, named) ↦
          from_bits (to w k) (truth g (to v))
          (register_at w sw.0 k q named ∙ numbered_all (λ q. w q ≡ after names bodies v q) Rs f k q named ∙ h.next v sv.0 k q g named at)
      | inr past ↦ absurd (let less = slice_get_within p.next k g at in omega (arith, less, h.register_count, p.matched))
    ],
    λ f. all_numbered (λ q. w q ≡ after names bodies v q) Rs (λ k q named.
        let g : Formula = get_or p.next k (Constant true) in
        let at : slice_get p.next k ≡ Some g = slice_get-get_or p.next k (Constant true) (omega (arith, slice_get_within Rs k q named, h.register_count, p.matched)) in
        sym (register_at w sw.0 k q named) ∙ ap bit (f k g at) ∙ sym (h.next v sv.0 k q g named at)),
  )

  inputs_same : (l r : Valuation) → m.IsSettled l → m.IsSettled r → m.SameInputs l r ↔ n.SameInputs (to l) (to r)
  inputs_same l r sl sr = (
    λ f k above. elim (at_or_past S k) [
      | inl (x, named) ↦
          env-at S l k x named ∙ ap (λ z. nat_eq z 1) (numbered_all (λ x. l x ≡ r x) Is f (k - length Rs) x (right_of Rs Is k x (omega (arith, h.register_count)) named)) ∙
          sym (env-at S r k x named)
      | inr past ↦ env-past S l k past ∙ sym (env-past S r k past)
    ],
    λ f. all_numbered (λ x. l x ≡ r x) Is (λ k x named.
        let at : slice_get S (length Rs + k) ≡ Some x = right_part Rs Is k x named in
        sym (env-bit S l sl.0 (length Rs + k) x at) ∙ ap bit (f (length Rs + k) (omega (arith, h.register_count))) ∙ env-bit S r sr.0 (length Rs + k) x at),
  )

  observed_same : (xs : List Expr) (fs : List Formula) → AreBitsOf names S xs fs → (v : Valuation) → AreBits S v → values (observed names xs) v ≡ values (numbers fs) (to v)
  observed_same [] [] a v bits = refl
  observed_same [] (f ∷ fs) a v bits = absurd a
  observed_same (x ∷ xs) [] a v bits = absurd a
  observed_same (x ∷ xs) (f ∷ fs) a v bits =
      let first : own names x v ≡ bit (truth f (to v)) = own-bit names S x (truth f) a.0 v bits in
      let rest : values (observed names xs) v ≡ values (numbers fs) (to v) = observed_same xs fs a.1 v bits in
      cc

  variable_value : (x : Expr) (k : ℕ) → IsBitOf names S x (variable k) → (v : Valuation) → AreBits S v → own names x v ≡ register k (to v)
  unfolding variable
  variable_value x k a v bits = own-bit names S x (variable k) a v bits

  equal_same : (xs : List Expr) (ks : List ℕ) → AreVariablesOf names S xs ks → (l r : Valuation) → AreBits S l → AreBits S r →
      All (λ e. e l ≡ e r) (observed names xs) ↔ All (λ e. e (to l) ≡ e (to r)) (map register ks)
  equal_same [] [] a l r bl br = (λ all. All-nil _, λ all. All-nil _)
  equal_same [] (k ∷ ks) a l r bl br = absurd a
  equal_same (x ∷ xs) [] a l r bl br = absurd a
  equal_same (x ∷ xs) (k ∷ ks) a l r bl br =
      let rest = equal_same xs ks a.1 l r bl br in
      let el : own names x l ≡ register k (to l) = variable_value x k a.0 l bl in
      let er : own names x r ≡ register k (to r) = variable_value x k a.0 r br in (
        λ all. All-cons (λ e. e (to l) ≡ e (to r)) (register k) (map register ks)
            (sym el ∙ All-head (λ e. e l ≡ e r) (λ v. own names x v) (observed names xs) all ∙ er) (rest.0 (All-tail (λ e. e l ≡ e r) (λ v. own names x v) (observed names xs) all)),
        λ all. All-cons (λ e. e l ≡ e r) (λ v. own names x v) (observed names xs)
            (el ∙ All-head (λ e. e (to l) ≡ e (to r)) (register k) (map register ks) all ∙ sym er) (rest.1 (All-tail (λ e. e (to l) ≡ e (to r)) (register k) (map register ks) all)),
      )

  initial_same : (l r : Valuation) → m.IsSettled l → m.IsSettled r → m.IsInitialPair l r ↔ n.IsInitialPair (to l) (to r)
  initial_same l r sl sr =
      let e = equal_same c.equal p.equal h.equal l r sl.0 sr.0 in
      (λ i. (e.0 i.0, All-nil _), λ i. (e.1 i.0, All-nil _))

  row_same : (v : Valuation) → m.IsSettled v → n.row (to v) ≡ m.row v
  row_same v s =
      let retire : own names c.retire v ≡ bit (truth p.retire (to v)) = own-bit names S c.retire (truth p.retire) h.retire v s.0 in
      let shown : values (observed names c.contract) v ≡ values (numbers p.contract) (to v) = observed_same c.contract p.contract h.contract v s.0 in
      ap (λ x. (if nat_eq x 0 then [] else values (numbers p.contract) (to v) ∷ []) ++ []) (sym retire) ∙
      ap (λ ys. (if nat_eq (own names c.retire v) 0 then [] else ys ∷ []) ++ []) (sym shown)

  count_same : n.candidates ≡ m.candidates
  count_same = omega (arith, candidates-count p.registers, source_count Rs, h.register_count)

  holds_same : (k : ℕ) (l r : Valuation) (a : Bool) → m.IsSettled l → m.IsSettled r → m.Holds k l r a ↔ n.Holds k (to l) (to r) a
  holds_same k l r a sl sr = elim (at_or_past Rs k) [
    | inl (q, named) ↦
        let s = source_register Rs k q named in
        let t = candidate-of_register p.registers k (omega (arith, slice_get_within Rs k q named, h.register_count)) in
        let el = register_at l sl.0 k q named in
        let er = register_at r sr.0 k q named in (
          λ x. subst (λ z. MaybeHolds z (to l) (to r) a) (sym t) (el ∙ subst (λ z. MaybeHolds z l r a) s x ∙ sym er),
          λ x. subst (λ z. MaybeHolds z l r a) (sym s) (sym el ∙ subst (λ z. MaybeHolds z (to l) (to r) a) t x ∙ er),
        )
    | inr past ↦ elim (cases_lt (length Rs) k) [
      | inl more ↦
          let s : slice_get (source.candidates_of Rs) k ≡ None = slice_get_past (source.candidates_of Rs) k (omega (arith, source_count Rs)) in
          let t : slice_get (problem.candidates_of p.registers) k ≡ None = slice_get_past (problem.candidates_of p.registers) k (omega (arith, candidates-count p.registers, h.register_count)) in
          (λ x. absurd (subst (λ z. MaybeHolds z l r a) s x), λ x. absurd (subst (λ z. MaybeHolds z (to l) (to r) a) t x))
      | inr less ↦
          let e : length Rs ≡ k = omega arith in
          let f : p.registers ≡ k = omega (arith, h.register_count) in
          let s = subst (λ j. slice_get (source.candidates_of Rs) j ≡ Some Aligned) e (source_last Rs) in
          let t = subst (λ j. slice_get (problem.candidates_of p.registers) j ≡ Some Aligned) f (candidate-last p.registers) in
          (λ x. subst (λ z. MaybeHolds z (to l) (to r) a) (sym t) (subst (λ z. MaybeHolds z l r a) s x), λ x. subst (λ z. MaybeHolds z l r a) (sym s) (subst (λ z. MaybeHolds z (to l) (to r) a) t x))
    ]
  ]

  pub mirrors : Mirrors m n (λ v. env_of S v) (λ env. val_of S env)
  mirrors = record {
    settled = settled;
    back = back;
    returns = returns;
    follows = follows;
    same_inputs = inputs_same;
    allowed = λ v s. (λ a. All-nil _, λ a. All-nil _);
    initial = initial_same;
    row = row_same;
    attacker = λ v s. sym (observed_same c.attacker p.attacker h.attacker v s.0);
    candidates = count_same;
    holds = holds_same;
  }
