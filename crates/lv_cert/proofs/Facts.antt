-- Each part's words tell its value, are clean, and can be there.
use Rattle.std.proofs.Common.{◌≡◌, ℕ, ◌+◌, ◌-◌, ◌^◌, ◌≤◌, ◌<◌, Bool, true, false, not, ◌&&◌, List, [], ◌∷◌, codes, decimal, refl, sym, ap, ◌∙◌, subst, arith}
use Rattle.std.proofs.lemmas.Fmt.{decimal_is_IsNumeral_wide, decimal_digit}
use Rattle.std.specs.List.{list_all}
use Rattle.std.specs.Str.Parse.{digits_value}
use Rattle.lv_cert.specs.Inputs.{is_end}
use Rattle.lv_clauses.specs.Literals.{Lit}
use Rattle.lv_cert.specs.Words.{word}
use Rattle.lv_cert.specs.Lines.{literal}
use Rattle.lv_cert.specs.Parts.{Part, fixed, numeral, wide, over, after, turns}
use Rattle.lv_cert.specs.Sections.{keep_part, above, same, keeps, kept_rest, kept_part, pair_rest, pair_part, pairs, first_rest, first_part, input_part, inputs, inputs_rest, inputs_part, next_var, literals, clause_part, clauses, hint_part, hints, step_rest, step_part, one_more, steps, most, lines_rest, lines_part, clauses_rest, count_rest, set_rest, cnf_part, set_part, named_part, query_part}
use Rattle.lv_cert.specs.Whole.{states_part, lists_part, two_part, proofs_part, end_part, body_part, one_part, cert_part}
use Rattle.lv_cert.specs.declared.cert.Shape.{Shape}
use Rattle.lv_cert.proofs.Leading.{IsUnique, Has}
use Rattle.lv_cert.proofs.Combining.{unique_one, unique_fixed, unique_after, unique_both, unique_turns, unique_until, has_fixed, has_after, has_both, has_turns, has_until, IsApart}
use Rattle.lv_cert.proofs.Texts.{AreDigits, IsClean, IsCleanPart, decimal_digits, decimal_clean, clean_both, clean_turns, clean_until}

-- ---- numbers and literals

pub same_decimal : (m n : ℕ) → m < 2 ^ 128 → n < 2 ^ 128 → decimal m ≡ decimal n → m ≡ n
same_decimal m n p q e = sym (decimal_is_IsNumeral_wide m (omega arith)).1 ∙ ap (digits_value 10) e ∙ (decimal_is_IsNumeral_wide n (omega arith)).1

pub no_minus : (n : ℕ) (ds : List ℕ) → decimal n ≡ 45 ∷ ds → ⊥
no_minus n ds e = let d : AreDigits (45 ∷ ds) = subst AreDigits e (decimal_digits n) in omega (arith, d.0.0)

not-zero : (n : ℕ) → 1 ≤ n → n < 2 ^ 128 → decimal n ≡ codes "0" → ⊥
not-zero n p q e = let k : n ≡ 0 = same_decimal n 0 q (omega arith) (e ∙ sym (decimal_digit 0 (omega arith))) in omega (arith, k)

pub same_literal : (l m : Lit) → l.var < 2 ^ 128 → m.var < 2 ^ 128 → literal l ≡ literal m → l ≡ m
same_literal l m p q = by l.var m.var p q l.neg m.neg
  where
    by : (v w : ℕ) → v < 2 ^ 128 → w < 2 ^ 128 → (a b : Bool) → (let x : Lit = record { var = v; neg = a } in literal x) ≡ (let y : Lit = record { var = w; neg = b } in literal y) →
        (let x : Lit = record { var = v; neg = a } in x) ≡ record { var = w; neg = b }
    by v w p q true true e = let k : decimal v ≡ decimal w = cc in let s : v ≡ w = same_decimal v w p q k in λ i. record { var = s i; neg = true }
    by v w p q true false e = absurd (no_minus w (decimal v) (sym e))
    by v w p q false true e = absurd (no_minus v (decimal w) e)
    by v w p q false false e = let s : v ≡ w = same_decimal v w p q e in λ i. record { var = s i; neg = false }

abbrev first : List ℕ → ℕ
first [] = 0
first (c ∷ cs) = c

pub literal_not_zero : (l : Lit) → 1 ≤ l.var → l.var < 2 ^ 128 → literal l ≡ codes "0" → ⊥
literal_not_zero l p q = by l.var l.neg p q
  where
    by : (v : ℕ) (a : Bool) → 1 ≤ v → v < 2 ^ 128 → (let x : Lit = record { var = v; neg = a } in literal x) ≡ codes "0" → ⊥
    by v true p q e = let h : first (45 ∷ decimal v) ≡ first (48 ∷ []) = ap first e in omega (arith, h)
    by v false p q e = not-zero v p q e

literal-clean : (l : Lit) → IsClean (literal l)
literal-clean l = by l.var l.neg
  where
    by : (v : ℕ) (a : Bool) → IsClean (let x : Lit = record { var = v; neg = a } in literal x)
    by v true = (refl, decimal_clean v)
    by v false = decimal_clean v

pub unique_numeral : (low high : ℕ) (last : Bool) → high < 2 ^ 128 → IsUnique (numeral low high last)
unique_numeral low high last h = unique_one (λ n. (low ≤ n) × (n ≤ high)) decimal last (λ a b fa fb e. same_decimal a b (omega (arith, fa.1)) (omega (arith, fb.1)) e)

pub unique_wide : (last : Bool) → IsUnique (wide last)
unique_wide last = unique_one (λ n. n < 2 ^ 128) decimal last (λ a b fa fb e. same_decimal a b fa fb e)

pub unique_over : (low vars : ℕ) → vars < 2 ^ 128 → IsUnique (over low vars)
unique_over low vars h = unique_one (λ l. (low < l.var) × (l.var ≤ vars)) literal false (λ a b fa fb e. same_literal a b (omega (arith, fa.1)) (omega (arith, fb.1)) e)

pub apart_over : (low vars : ℕ) (last : Bool) → vars < 2 ^ 128 → IsApart (over low vars) last
apart_over low vars last h a r s fa e = let w : word (literal a) false ≡ word (codes "0") last = cc in literal_not_zero a (omega (arith, fa.0)) (omega (arith, fa.1)) (ap (λ x. x.letters) w)

pub apart_hint : (id s : ℕ) (last : Bool) → id < 2 ^ 128 → IsApart (hint_part id s) last
apart_hint id s last h a r t fa e = let w : word (decimal a) false ≡ word (codes "0") last = cc in not-zero a fa.0 (omega (arith, fa.1)) (ap (λ x. x.letters) w)

-- ---- the list

pub unique_keep : (count more low : ℕ) → count < 2 ^ 128 → IsUnique (keep_part count more low)
unique_keep count more low h = unique_after (codes "keep") false (numeral low (count - more - 1) true) (unique_numeral low (count - more - 1) true (omega arith))

pub unique_keeps : (count total low : ℕ) → count < 2 ^ 128 → IsUnique (turns (keep_part count) above total low)
unique_keeps count total low h = unique_turns (keep_part count) above (λ _ _. Unit {0}) (λ c s p u. unique_keep count (c - 1) s h) (λ c s a p u f. tt) total low tt

pub unique_kept : (count : ℕ) → count < 2 ^ 128 → IsUnique (kept_part count)
unique_kept count h = unique_after (codes "kept") false (kept_rest count) (unique_both (numeral 0 count true) (keeps count) (unique_numeral 0 count true h) (λ a f. unique_keeps count a 0 h))

pub has_keeps : (count total low : ℕ) → low + total ≤ count → Has (turns (keep_part count) above total low)
has_keeps count total low h = has_turns (keep_part count) above (λ c s. s + c ≤ count) (λ c s k. (s, (omega arith, omega (arith, k)), omega (arith, k))) total low h

pub has_kept : (count : ℕ) → Has (kept_part count)
has_kept count = has_after (codes "kept") false (kept_rest count) (has_both (numeral 0 count true) (keeps count) (0, (omega arith, omega arith)) (λ a f. has_keeps count a 0 (omega (arith, f.1))))

-- ---- states and inputs

pub unique_pair : (more s : ℕ) → IsUnique (pair_part more s)
unique_pair more s = unique_after (codes "pair") false pair_rest (unique_both (wide false) (λ _. wide true) (unique_wide false) (λ a f. unique_wide true))

pub has_wide : (last : Bool) → Has (wide last)
has_wide last = (0, omega arith)

pub has_pairs : (count : ℕ) → Has (pairs count)
has_pairs count = has_turns pair_part same (λ _ _. Unit {0}) (λ c s k. ((0, 0), (omega arith, omega arith), tt)) count 0 tt

pub unique_pairs : (count : ℕ) → IsUnique (pairs count)
unique_pairs count = unique_turns pair_part same (λ _ _. Unit {0}) (λ c s p u. unique_pair (c - 1) s) (λ c s a p u f. tt) count 0 tt

pub unique_first : (count : ℕ) → count < 2 ^ 128 → IsUnique (first_part count)
unique_first count h = unique_after (codes "first") false (first_rest count) (unique_both (numeral count count true) (λ _. pairs count) (unique_numeral count count true h) (λ a f. unique_pairs count))

pub has_first : (count : ℕ) → Has (first_part count)
has_first count = has_after (codes "first") false (first_rest count) (has_both (numeral count count true) (λ _. pairs count) (count, (omega arith, omega arith)) (λ a f. has_pairs count))

pub unique_input : (more s : ℕ) → IsUnique (input_part more s)
unique_input more s = unique_after (codes "input") false (wide true) (unique_wide true)

pub has_inputs : (count : ℕ) → Has (inputs count)
has_inputs count = has_turns input_part same (λ _ _. Unit {0}) (λ c s k. (0, omega arith, tt)) count 0 tt

pub unique_inputs : (count : ℕ) → IsUnique (inputs count)
unique_inputs count = unique_turns input_part same (λ _ _. Unit {0}) (λ c s p u. unique_input (c - 1) s) (λ c s a p u f. tt) count 0 tt

pub unique_inputs_part : (count : ℕ) → count < 2 ^ 128 → IsUnique (inputs_part count)
unique_inputs_part count h = unique_after (codes "inputs") false (inputs_rest count) (unique_both (numeral count count true) (λ _. inputs count) (unique_numeral count count true h) (λ a f. unique_inputs count))

pub has_inputs_part : (count : ℕ) → Has (inputs_part count)
has_inputs_part count = has_after (codes "inputs") false (inputs_rest count) (has_both (numeral count count true) (λ _. inputs count) (count, (omega arith, omega arith)) (λ a f. has_inputs count))

-- ---- clauses and lines

pub unique_literals : (vars : ℕ) (last : Bool) (low : ℕ) → vars < 2 ^ 128 → IsUnique (literals vars last low)
unique_literals vars last low h = unique_until (λ s. over s vars) next_var last (λ s. unique_over s vars h) (λ s. apart_over s vars last h) low

pub has_literals : (vars : ℕ) (last : Bool) (low : ℕ) → Has (literals vars last low)
has_literals vars last low = has_until (λ s. over s vars) next_var last low

pub unique_clauses : (vars count : ℕ) → vars < 2 ^ 128 → IsUnique (clauses vars count)
unique_clauses vars count h = unique_turns (clause_part vars) same (λ _ _. Unit {0}) (λ c s p u. unique_literals vars true 0 h) (λ c s a p u f. tt) count 0 tt

pub has_clauses : (vars count : ℕ) → Has (clauses vars count)
has_clauses vars count = has_turns (clause_part vars) same (λ _ _. Unit {0}) (λ c s k. ([], tt, tt)) count 0 tt

pub unique_hints : (id : ℕ) → id < 2 ^ 128 → IsUnique (hints id)
unique_hints id h = unique_until (hint_part id) same true (λ s. unique_numeral 1 (id - 1) false (omega arith)) (λ s. apart_hint id s true h) 0

pub has_hints : (id : ℕ) → Has (hints id)
has_hints id = has_until (hint_part id) same true 0

pub has_behind : (vars id : ℕ) → Has (step_rest vars id)
has_behind vars id = has_both (literals vars false 0) (λ c. hints id) (has_literals vars false 0) (λ a f. has_hints id)

pub has_step : (vars more id : ℕ) → Has (step_part vars more id)
has_step vars more id = has_both (numeral id id false) (λ n. step_rest vars id) (id, (omega arith, omega arith)) (λ a f. has_behind vars id)

pub unique_step : (vars more id : ℕ) → vars < 2 ^ 128 → id < 2 ^ 128 → IsUnique (step_part vars more id)
unique_step vars more id h k =
    unique_both (numeral id id false) (λ n. step_rest vars id) (unique_numeral id id false k)
    (λ a f. unique_both (literals vars false 0) (λ c. hints id) (unique_literals vars false 0 h) (λ b g. unique_hints id k))

pub unique_steps : (vars id count : ℕ) → vars < 2 ^ 128 → id + count < 2 ^ 128 → IsUnique (steps vars id count)
unique_steps vars id count h k = unique_turns (step_part vars) one_more (λ c s. s + c < 2 ^ 128) (λ c s p u. unique_step vars (c - 1) s h (omega (arith, u))) (λ c s a p u f. omega (arith, p, u)) count id k

pub has_steps : (vars id count : ℕ) → Has (steps vars id count)
has_steps vars id count = has_turns (step_part vars) one_more (λ _ _. Unit {0}) (λ c s k. let h = has_step vars c s in (h.0, h.1, tt)) count id tt

pub has_from : (vars id count : ℕ) → Has (turns (step_part vars) one_more count id)
has_from vars id count = has_steps vars id count

pub has_lines : (vars id : ℕ) → Has (lines_part vars id)
has_lines vars id = has_after (codes "lines") false (lines_rest vars id) (has_both (numeral 0 most true) (steps vars id) (0, (omega arith, omega arith)) (λ a f. has_steps vars id a))

pub unique_lines : (vars id : ℕ) → vars < 2 ^ 128 → id ≤ 2 ^ 63 → IsUnique (lines_part vars id)
unique_lines vars id h k = unique_after (codes "lines") false (lines_rest vars id)
    (unique_both (numeral 0 most true) (steps vars id) (unique_numeral 0 most true (omega arith)) (λ a f. unique_steps vars id a h (omega (arith, k, f.1))))

pub has_clauses_rest : (vars count : ℕ) → Has (clauses_rest vars count)
has_clauses_rest vars count = has_both (clauses vars count) (λ cs. lines_part vars (count + 1)) (has_clauses vars count) (λ a f. has_lines vars (count + 1))

pub has_count_rest : (vars : ℕ) → Has (count_rest vars)
has_count_rest vars = has_both (numeral 0 most true) (clauses_rest vars) (0, (omega arith, omega arith)) (λ a f. has_clauses_rest vars a)

pub has_set_rest : Has set_rest
has_set_rest = has_both (numeral 0 most false) count_rest (0, (omega arith, omega arith)) (λ a f. has_count_rest a)

pub has_query : (name : List ℕ) → Has (query_part name)
has_query name = has_set_rest

unique-set : IsUnique set_rest
unique-set =
    unique_both (numeral 0 most false) count_rest (unique_numeral 0 most false (omega arith)) (λ vars f.
    unique_both (numeral 0 most true) (clauses_rest vars) (unique_numeral 0 most true (omega arith)) (λ count g.
    unique_both (clauses vars count) (λ cs. lines_part vars (count + 1)) (unique_clauses vars count (omega (arith, f.1))) (λ cs k.
    unique_lines vars (count + 1) (omega (arith, f.1)) (omega (arith, g.1)))))

pub unique_query : (name : List ℕ) → IsUnique (query_part name)
unique_query name = unique_after (codes "query") false (named_part name) (unique_after name true set_part (unique_after (codes "p") false cnf_part (unique_after (codes "cnf") false set_rest unique-set)))

-- ---- the whole

-- the counts are those of a program
pub record IsSmall (shape : Shape) : Type 0 where
  pub candidates : shape.candidates < 2 ^ 64
  pub registers : shape.registers < 2 ^ 64
  pub inputs : shape.inputs < 2 ^ 64

pub has_states : (shape : Shape) → Has (states_part shape)
has_states shape = has_both (first_part shape.registers) (λ _. inputs_part shape.inputs) (has_first shape.registers) (λ a f. has_inputs_part shape.inputs)

pub has_lists : (shape : Shape) → Has (lists_part shape)
has_lists shape = has_both (kept_part shape.candidates) (λ _. states_part shape) (has_kept shape.candidates) (λ a f. has_states shape)

pub unique_lists : (shape : Shape) → IsSmall shape → IsUnique (lists_part shape)
unique_lists shape h =
    unique_both (kept_part shape.candidates) (λ _. states_part shape) (unique_kept shape.candidates (omega (arith, h.candidates))) (λ a f.
    unique_both (first_part shape.registers) (λ _. inputs_part shape.inputs) (unique_first shape.registers (omega (arith, h.registers))) (λ b g.
    unique_inputs_part shape.inputs (omega (arith, h.inputs))))

pub has_two : Has two_part
has_two = has_both (query_part (codes "step")) (λ _. query_part (codes "imply")) (has_query (codes "step")) (λ a f. has_query (codes "imply"))

pub has_proofs : Has proofs_part
has_proofs = has_both (query_part (codes "base")) (λ _. two_part) (has_query (codes "base")) (λ a f. has_two)

pub unique_proofs : IsUnique proofs_part
unique_proofs =
    unique_both (query_part (codes "base")) (λ _. two_part) (unique_query (codes "base")) (λ a f.
    unique_both (query_part (codes "step")) (λ _. query_part (codes "imply")) (unique_query (codes "step")) (λ b g. unique_query (codes "imply")))

pub has_end : Has end_part
has_end = has_both proofs_part (λ _. fixed (codes "end") true) has_proofs (λ a f. has_fixed (codes "end") true)

pub has_body : (shape : Shape) → Has (body_part shape)
has_body shape = has_both (lists_part shape) (λ _. end_part) (has_lists shape) (λ a f. has_end)

pub unique_cert : (shape : Shape) → IsSmall shape → IsUnique (cert_part shape)
unique_cert shape h =
    unique_after (codes "leave-certificate") false (one_part shape) (unique_after (codes "1") true (body_part shape)
    (unique_both (lists_part shape) (λ _. end_part) (unique_lists shape h) (λ a f.
    unique_both proofs_part (λ _. fixed (codes "end") true) unique_proofs (λ b g. unique_fixed (codes "end") true))))

-- ---- clean words

clean-numeral : (low high : ℕ) (last : Bool) → IsCleanPart (numeral low high last)
clean-numeral low high last n f = (decimal_clean n, tt)

clean-wide : (last : Bool) → IsCleanPart (wide last)
clean-wide last n f = (decimal_clean n, tt)

fixed-clean : {A : Type 0} (letters : List ℕ) (last : Bool) (p : Part A) → IsClean letters → IsCleanPart p → IsCleanPart (after letters last p)
fixed-clean letters last p h c a f = (h, c a f)

clean-literals : (vars : ℕ) (last : Bool) (low : ℕ) → IsCleanPart (literals vars last low)
clean-literals vars last low = clean_until (λ s. over s vars) next_var last (λ s a f. (literal-clean a, tt)) low

clean-steps : (vars id count : ℕ) → IsCleanPart (steps vars id count)
clean-steps vars id count = clean_turns (step_part vars) one_more (λ c s. clean_both (numeral s s false) (λ n. step_rest vars s) (clean-numeral s s false) (λ a f.
    clean_both (literals vars false 0) (λ k. hints s) (clean-literals vars false 0) (λ b g. clean_until (hint_part s) same true (λ t. clean-numeral 1 (s - 1) false) 0))) count id

not-end : (b : Bool) → not b ≡ true → b ≡ false
not-end true e = cc
not-end false e = refl

both-true : (a b : Bool) → (a && b) ≡ true → (a ≡ true) × (b ≡ true)
both-true true b e = (refl, e)
both-true false b e = cc

clean-of : (ls : List ℕ) → list_all (λ c. not (is_end c)) ls ≡ true → IsClean ls
clean-of [] e = tt
clean-of (c ∷ cs) e = let k = both-true (not (is_end c)) (list_all (λ d. not (is_end d)) cs) e in (not-end (is_end c) k.0, clean-of cs k.1)

clean-query : (name : List ℕ) → IsClean name → IsCleanPart (query_part name)
clean-query name h =
    fixed-clean (codes "query") false (named_part name) (clean-of (codes "query") refl) (fixed-clean name true set_part h (
    fixed-clean (codes "p") false cnf_part (clean-of (codes "p") refl) (fixed-clean (codes "cnf") false set_rest (clean-of (codes "cnf") refl) (
    clean_both (numeral 0 most false) count_rest (clean-numeral 0 most false) (λ vars f.
    clean_both (numeral 0 most true) (clauses_rest vars) (clean-numeral 0 most true) (λ count g.
    clean_both (clauses vars count) (λ cs. lines_part vars (count + 1)) (clean_turns (clause_part vars) same (λ c s. clean-literals vars true 0) count 0) (λ cs k.
    fixed-clean (codes "lines") false (lines_rest vars (count + 1)) (clean-of (codes "lines") refl) (
    clean_both (numeral 0 most true) (steps vars (count + 1)) (clean-numeral 0 most true) (λ n l. clean-steps vars (count + 1) n)))))))))

clean-kept : (count : ℕ) → IsCleanPart (kept_part count)
clean-kept count = fixed-clean (codes "kept") false (kept_rest count) (clean-of (codes "kept") refl) (clean_both (numeral 0 count true) (keeps count) (clean-numeral 0 count true) (λ a f.
    clean_turns (keep_part count) above (λ c s. fixed-clean (codes "keep") false (numeral s (count - c - 1) true) (clean-of (codes "keep") refl) (clean-numeral s (count - c - 1) true)) a 0))

clean-first : (count : ℕ) → IsCleanPart (first_part count)
clean-first count = fixed-clean (codes "first") false (first_rest count) (clean-of (codes "first") refl) (clean_both (numeral count count true) (λ _. pairs count) (clean-numeral count count true) (λ a f.
    clean_turns pair_part same (λ c s. fixed-clean (codes "pair") false pair_rest (clean-of (codes "pair") refl) (clean_both (wide false) (λ _. wide true) (clean-wide false) (λ b g. clean-wide true))) count 0))

clean-inputs : (count : ℕ) → IsCleanPart (inputs_part count)
clean-inputs count = fixed-clean (codes "inputs") false (inputs_rest count) (clean-of (codes "inputs") refl) (clean_both (numeral count count true) (λ _. inputs count) (clean-numeral count count true) (λ a f.
    clean_turns input_part same (λ c s. fixed-clean (codes "input") false (wide true) (clean-of (codes "input") refl) (clean-wide true)) count 0))

pub clean_cert : (shape : Shape) → IsCleanPart (cert_part shape)
clean_cert shape =
    fixed-clean (codes "leave-certificate") false (one_part shape) (clean-of (codes "leave-certificate") refl) (fixed-clean (codes "1") true (body_part shape) (clean-of (codes "1") refl) (
    clean_both (lists_part shape) (λ _. end_part) (clean_both (kept_part shape.candidates) (λ _. states_part shape) (clean-kept shape.candidates) (λ a f.
    clean_both (first_part shape.registers) (λ _. inputs_part shape.inputs) (clean-first shape.registers) (λ b g. clean-inputs shape.inputs))) (λ a f.
    clean_both proofs_part (λ _. fixed (codes "end") true) (clean_both (query_part (codes "base")) (λ _. two_part) (clean-query (codes "base") (clean-of (codes "base") refl)) (λ b g.
    clean_both (query_part (codes "step")) (λ _. query_part (codes "imply")) (clean-query (codes "step") (clean-of (codes "step") refl)) (λ c k.
    clean-query (codes "imply") (clean-of (codes "imply") refl)))) (λ b g.
    (λ c k. (clean-of (codes "end") refl, tt))))))
