-- The whole of a certificate and its lines.
use Rattle.std.proofs.Common.{◌≡◌, ℕ, ◌+◌, true, false, List, [], ◌∷◌, ◌++◌, map, length, codes, decimal, refl, sym, ap, ◌∙◌, subst, append_assoc, arith}
use Rattle.lv_clauses.specs.Literals.{Lit}
use Rattle.lv_clauses.specs.Sets.{SetValue}
use Rattle.lv_clauses.specs.Derivations.{Step}
use Rattle.lv_cert.specs.Words.{Word, word, words_of}
use Rattle.lv_cert.specs.Values.{Values, Sets}
use Rattle.lv_cert.specs.Lines.{Line, keep_line, pair_lines, input_line, clause_line, step_lines, query_lines, kept_lines, first_lines, inputs_lines, lines_of}
use Rattle.lv_cert.specs.Grammar.{AreSteps, IsQuery, IsFor}
use Rattle.lv_cert.specs.Parts.{turns_fit, turns_words}
use Rattle.lv_cert.specs.Sections.{same, kept_part, pair_part, first_part, input_part, inputs_part, step_part, one_more, query_part}
use Rattle.lv_cert.specs.Whole.{QueryValue, FirstValue, CertValue, step_of, set_in, lines_in, values_in, sets_in, cert_part}
use Rattle.lv_cert.specs.declared.cert.Shape.{Shape}
use Rattle.lv_cert.proofs.Texts.{words_of-append, AreFilled, are_filled-append}
use Rattle.lv_cert.proofs.Sectioning.{keeps_out, keeps_in, keeps_few, pairs_out, pairs_in, inputs_out, inputs_in, clauses_out, clauses_in, steps_out, steps_in}

length-map : {A B : Type 0} (f : A → B) (xs : List A) → length (map f xs) ≡ length xs
length-map f [] = refl
length-map f (x ∷ xs) = let h : length (map f xs) ≡ length xs = length-map f xs in omega (arith, h)

-- ---- what stands in a part is what its lines say

kept-words : (count : ℕ) (a : ℕ × List ℕ) → (kept_part count).fits a → (kept_part count).words a ≡ words_of (kept_lines a.1)
kept-words count a f =
    let k = keeps_out count a.0 0 a.1 f.0.1 f.1 in
    λ i. word (codes "kept") false ∷ word (decimal (sym k.0 i)) true ∷ k.2 i

first-words : (count : ℕ) (a : FirstValue) → (first_part count).fits a → (first_part count).words a ≡ words_of (first_lines (map (λ p. p.0) a.1) (map (λ p. p.1) a.1))
first-words count a f =
    let k = pairs_out count a.1 f.1 in
    let e : a.0 ≡ length (map (λ p. p.0) a.1) = omega (arith, f.0, k.0, length-map (λ p. p.0) a.1) in
    λ i. word (codes "first") false ∷ word (decimal (e i)) true ∷ k.3 i

inputs-words : (count : ℕ) (a : ℕ × List ℕ) → (inputs_part count).fits a → (inputs_part count).words a ≡ words_of (inputs_lines a.1)
inputs-words count a f =
    let k = inputs_out count a.1 f.1 in
    let e : a.0 ≡ length a.1 = omega (arith, f.0, k.0) in
    λ i. word (codes "inputs") false ∷ word (decimal (e i)) true ∷ k.2 i

query-words : (name : List ℕ) (a : QueryValue) → (query_part name).fits a → (query_part name).words a ≡ words_of (query_lines name (set_in a) (lines_in a))
query-words name a f =
    let c = clauses_out a.0 a.1.0 a.1.1.0 f.1.1.0 in
    let s = steps_out a.0 a.1.1.1.0 (a.1.0 + 1) a.1.1.1.1 f.1.1.1.1 in
    let n : a.1.0 ≡ length a.1.1.0 = sym c.0 in
    let m : a.1.1.1.0 ≡ length (lines_in a) = sym s.0 ∙ sym (length-map step_of a.1.1.1.1) in
    let behind : words_of (map clause_line a.1.1.0 ++ (codes "lines" ∷ decimal (length (lines_in a)) ∷ []) ∷ step_lines (length a.1.1.0 + 1) (lines_in a)) ≡
    words_of (map clause_line a.1.1.0) ++ words_of ((codes "lines" ∷ decimal (length (lines_in a)) ∷ []) ∷ step_lines (length a.1.1.0 + 1) (lines_in a)) =
    words_of-append (map clause_line a.1.1.0) ((codes "lines" ∷ decimal (length (lines_in a)) ∷ []) ∷ step_lines (length a.1.1.0 + 1) (lines_in a)) in
    let steps-words : turns_words (step_part a.0) one_more a.1.1.1.0 (a.1.0 + 1) a.1.1.1.1 ≡ words_of (step_lines (length a.1.1.0 + 1) (lines_in a)) =
    s.2 ∙ ap (λ k. words_of (step_lines (k + 1) (lines_in a))) n in
    (λ i. word (codes "query") false ∷ word name true ∷ word (codes "p") false ∷ word (codes "cnf") false ∷ word (decimal a.0) false ∷ word (decimal (n i)) true ∷
    (c.2 i ++ word (codes "lines") false ∷ word (decimal (m i)) true ∷ steps-words i)) ∙
    ap (λ ws. word (codes "query") false ∷ word name true ∷ word (codes "p") false ∷ word (codes "cnf") false ∷ word (decimal a.0) false ∷ word (decimal (length a.1.1.0)) true ∷ ws) (sym behind)

query-is : (name : List ℕ) (a : QueryValue) → (query_part name).fits a → IsQuery (set_in a) (lines_in a)
query-is name a f =
    let c = clauses_out a.0 a.1.0 a.1.1.0 f.1.1.0 in
    let s = steps_out a.0 a.1.1.1.0 (a.1.0 + 1) a.1.1.1.1 f.1.1.1.1 in
    record {
      vars = omega (arith, f.0.1);
      count = omega (arith, f.1.0.1, c.0);
      clauses = c.1;
      total = omega (arith, f.1.1.1.0.1, s.0, length-map step_of a.1.1.1.1);
      steps = subst (λ k. AreSteps a.0 (k + 1) (lines_in a)) (sym c.0) s.1;
    }

-- the words of all lines
pub cert_words : (shape : Shape) (a : CertValue) → (cert_part shape).fits a → (cert_part shape).words a ≡ words_of (lines_of (values_in a) (sets_in a))
cert_words shape a f =
    let v = values_in a in
    let k : List Line = kept_lines v.kept in
    let g : List Line = first_lines v.left v.right in
    let n : List Line = inputs_lines v.input in
    let b : List Line = query_lines (codes "base") (set_in a.1.0.0) (lines_in a.1.0.0) in
    let s : List Line = query_lines (codes "step") (set_in a.1.0.1.0) (lines_in a.1.0.1.0) in
    let m : List Line = query_lines (codes "imply") (set_in a.1.0.1.1) (lines_in a.1.0.1.1) in
    let z : List Line = (codes "end" ∷ []) ∷ [] in
    let parts : words_of (k ++ (g ++ (n ++ (b ++ (s ++ (m ++ z)))))) ≡ words_of k ++ (words_of g ++ (words_of n ++ (words_of b ++ (words_of s ++ (words_of m ++ words_of z))))) =
    words_of-append k (g ++ (n ++ (b ++ (s ++ (m ++ z))))) ∙ ap (λ w. words_of k ++ w) (words_of-append g (n ++ (b ++ (s ++ (m ++ z)))) ∙ ap (λ w. words_of g ++ w) (
    words_of-append n (b ++ (s ++ (m ++ z))) ∙ ap (λ w. words_of n ++ w) (words_of-append b (s ++ (m ++ z)) ∙ ap (λ w. words_of b ++ w) (
    words_of-append s (m ++ z) ∙ ap (λ w. words_of s ++ w) (words_of-append m z))))) in
    let fl = f.0 in
    let fp = f.1.0 in
    (λ i. word (codes "leave-certificate") false ∷ word (codes "1") true ∷
    ((kept-words shape.candidates a.0.0 fl.0 i ++ (first-words shape.registers a.0.1.0 fl.1.0 i ++ inputs-words shape.inputs a.0.1.1 fl.1.1 i)) ++
    ((query-words (codes "base") a.1.0.0 fp.0 i ++ (query-words (codes "step") a.1.0.1.0 fp.1.0 i ++ query-words (codes "imply") a.1.0.1.1 fp.1.1 i)) ++ word (codes "end") true ∷ []))) ∙
    ap (λ w. word (codes "leave-certificate") false ∷ word (codes "1") true ∷ w)
    (regroup (words_of k) (words_of g) (words_of n) (words_of b) (words_of s) (words_of m) (words_of z) ∙ sym parts)
  where
    regroup : (k g n b s m z : List Word) → (k ++ (g ++ n)) ++ ((b ++ (s ++ m)) ++ z) ≡ k ++ (g ++ (n ++ (b ++ (s ++ (m ++ z)))))
    regroup k g n b s m z = simp append_assoc

pub cert_for : (shape : Shape) (a : CertValue) → (cert_part shape).fits a → IsFor shape (values_in a) (sets_in a)
cert_for shape a f =
    let k = keeps_out shape.candidates a.0.0.0 0 a.0.0.1 f.0.0.0.1 f.0.0.1 in
    let p = pairs_out shape.registers a.0.1.0.1 f.0.1.0.1 in
    let n = inputs_out shape.inputs a.0.1.1.1 f.0.1.1.1 in
    record {
      kept = k.1;
      left_count = length-map (λ p. p.0) a.0.1.0.1 ∙ p.0;
      left = p.1;
      right_count = length-map (λ p. p.1) a.0.1.0.1 ∙ p.0;
      right = p.2;
      input_count = n.0;
      input = n.1;
      base = query-is (codes "base") a.1.0.0 f.1.0.0;
      step = query-is (codes "step") a.1.0.1.0 f.1.0.1.0;
      imply = query-is (codes "imply") a.1.0.1.1 f.1.0.1.1;
    }

-- ---- what lines say stands in a part

query-in : (name : List ℕ) (set : SetValue) (lines : List Step) → IsQuery set lines →
    (a : QueryValue) × (query_part name).fits a × (set_in a ≡ set) × (lines_in a ≡ lines)
query-in name set lines q =
    let s = steps_in set.vars (length set.clauses + 1) lines q.steps in (
      (set.vars, (length set.clauses, (set.clauses, (length lines, s.0)))),
      ((omega arith, omega (arith, q.vars)), ((omega arith, omega (arith, q.count)), (clauses_in set.vars set.clauses q.clauses, ((omega arith, omega (arith, q.total)), s.2)))),
      refl,
      s.1,
    )

pub cert_in : (shape : Shape) (v : Values) (sets : Sets) → IsFor shape v sets →
    (a : CertValue) × (cert_part shape).fits a × (values_in a ≡ v) × (sets_in a ≡ sets)
cert_in shape v sets h =
    let p = pairs_in v.left v.right (h.left_count ∙ sym h.right_count) h.left h.right in
    let b = query-in (codes "base") sets.base v.base h.base in
    let s = query-in (codes "step") sets.step v.step h.step in
    let m = query-in (codes "imply") sets.imply v.imply h.imply in (
      (((length v.kept, v.kept), ((shape.registers, p.0), (shape.inputs, v.input))), ((b.0, (s.0, m.0)), tt)),
      (
        (
          ((omega arith, keeps_few shape.candidates v.kept h.kept), keeps_in shape.candidates 0 v.kept h.kept),
          (
            ((omega arith, omega arith), subst (λ c. (turns_fit pair_part same c 0 p.0)) h.left_count p.3),
            ((omega arith, omega arith), subst (λ c. (turns_fit input_part same c 0 v.input)) h.input_count (inputs_in v.input h.input)),
          ),
        ),
        ((b.1, (s.1, m.1)), tt),
      ),
      (λ i. record { kept = v.kept; left = p.1 i; right = p.2 i; input = v.input; base = b.3 i; step = s.3 i; imply = m.3 i }),
      (λ i. record { base = b.2 i; step = s.2 i; imply = m.2 i }),
    )

-- a certificate's words are those of its values
pub words_in : (shape : Shape) (v : Values) (sets : Sets) → IsFor shape v sets →
    (a : CertValue) × (cert_part shape).fits a × (values_in a ≡ v) × ((cert_part shape).words a ≡ words_of (lines_of v sets))
words_in shape v sets h =
    let a = cert_in shape v sets h in
    (a.0, a.1, a.2, cert_words shape a.0 a.1 ∙ (λ i. words_of (lines_of (a.2 i) (a.3 i))))

-- ---- no line is without words

map-filled : {A : Type 0} (f : A → Line) (xs : List A) → ((x : A) → AreFilled (f x ∷ [])) → AreFilled (map f xs)
map-filled f [] h = tt
map-filled f (x ∷ xs) h = are_filled-append (f x ∷ []) (map f xs) (h x) (map-filled f xs h)

pairs-filled : (ls rs : List ℕ) → AreFilled (pair_lines ls rs)
pairs-filled [] rs = tt
pairs-filled (l ∷ ls) [] = tt
pairs-filled (l ∷ ls) (r ∷ rs) = pairs-filled ls rs

clause-filled : (c : List Lit) → AreFilled (clause_line c ∷ [])
clause-filled [] = tt
clause-filled (l ∷ c) = tt

steps-filled : (id : ℕ) (lines : List Step) → AreFilled (step_lines id lines)
steps-filled id [] = tt
steps-filled id (s ∷ lines) = steps-filled (id + 1) lines

query-filled : (name : List ℕ) (set : SetValue) (lines : List Step) → AreFilled (query_lines name set lines)
query-filled name set lines = are_filled-append (map clause_line set.clauses) ((codes "lines" ∷ decimal (length lines) ∷ []) ∷ step_lines (length set.clauses + 1) lines)
    (map-filled clause_line set.clauses clause-filled) (steps-filled (length set.clauses + 1) lines)

pub filled : (v : Values) (sets : Sets) → AreFilled (lines_of v sets)
filled v sets =
    are_filled-append (kept_lines v.kept) _ (map-filled keep_line v.kept (λ n. tt)) (
    are_filled-append (first_lines v.left v.right) _ (pairs-filled v.left v.right) (
    are_filled-append (inputs_lines v.input) _ (map-filled input_line v.input (λ n. tt)) (
    are_filled-append (query_lines (codes "base") sets.base v.base) _ (query-filled (codes "base") sets.base v.base) (
    are_filled-append (query_lines (codes "step") sets.step v.step) _ (query-filled (codes "step") sets.step v.step) (
    are_filled-append (query_lines (codes "imply") sets.imply v.imply) _ (query-filled (codes "imply") sets.imply v.imply) tt)))))
