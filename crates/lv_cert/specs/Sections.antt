-- The parts of a certificate.
use Rattle.std.specs.Prelude.{ℕ, ◌+◌, ◌-◌, ◌^◌, Bool, true, false, List, map, codes, decimal}
use Rattle.lv_clauses.specs.Literals.{Lit}
use Rattle.lv_cert.specs.Parts.{Part, numeral, wide, over, after, both, turns, until}
use Rattle.lv_cert.specs.Words.{Word, word}
use Rattle.lv_cert.specs.Lines.{literal}

-- a number of the list, with so many to come
abbrev pub keep_part : ℕ → ℕ → ℕ → Part ℕ
keep_part count more low = after (codes "keep") false (numeral low (count - more - 1) true)

abbrev pub above : ℕ → ℕ → ℕ
above s n = n + 1

abbrev pub same : {A : Type 0} → ℕ → A → ℕ
same s a = s

abbrev pub keeps : ℕ → ℕ → Part (List ℕ)
keeps count k = turns (keep_part count) above k 0

abbrev pub kept_rest : ℕ → Part (ℕ × List ℕ)
kept_rest count = both (numeral 0 count true) (keeps count)

abbrev pub kept_part : ℕ → Part (ℕ × List ℕ)
kept_part count = after (codes "kept") false (kept_rest count)

abbrev pub pair_rest : Part (ℕ × ℕ)
pair_rest = both (wide false) (λ _. wide true)

abbrev pub pair_part : ℕ → ℕ → Part (ℕ × ℕ)
pair_part more s = after (codes "pair") false pair_rest

abbrev pub pairs : ℕ → Part (List (ℕ × ℕ))
pairs count = turns pair_part same count 0

abbrev pub first_rest : ℕ → Part (ℕ × List (ℕ × ℕ))
first_rest count = both (numeral count count true) (λ n. pairs count)

abbrev pub first_part : ℕ → Part (ℕ × List (ℕ × ℕ))
first_part count = after (codes "first") false (first_rest count)

abbrev pub input_part : ℕ → ℕ → Part ℕ
input_part more s = after (codes "input") false (wide true)

abbrev pub inputs : ℕ → Part (List ℕ)
inputs count = turns input_part same count 0

abbrev pub inputs_rest : ℕ → Part (ℕ × List ℕ)
inputs_rest count = both (numeral count count true) (λ n. inputs count)

abbrev pub inputs_part : ℕ → Part (ℕ × List ℕ)
inputs_part count = after (codes "inputs") false (inputs_rest count)

-- literals up to the zero behind them
abbrev pub next_var : ℕ → Lit → ℕ
next_var s l = l.var

abbrev pub literals : ℕ → Bool → ℕ → Part (List Lit)
literals vars last low = until (λ s. over s vars) next_var last low

abbrev pub clause_part : ℕ → ℕ → ℕ → Part (List Lit)
clause_part vars more s = literals vars true 0

abbrev pub clauses : ℕ → ℕ → Part (List (List Lit))
clauses vars count = turns (clause_part vars) same count 0

abbrev pub hint_part : ℕ → ℕ → Part ℕ
hint_part id s = numeral 1 (id - 1) false

abbrev pub hints : ℕ → Part (List ℕ)
hints id = until (hint_part id) same true 0

-- a line of a derivation, whose number is the state
abbrev pub step_rest : ℕ → ℕ → Part (List Lit × List ℕ)
step_rest vars id = both (literals vars false 0) (λ c. hints id)

abbrev pub step_part : ℕ → ℕ → ℕ → Part (ℕ × (List Lit × List ℕ))
step_part vars more id = both (numeral id id false) (λ n. step_rest vars id)

abbrev pub one_more : {A : Type 0} → ℕ → A → ℕ
one_more id a = id + 1

abbrev pub steps : ℕ → ℕ → ℕ → Part (List (ℕ × (List Lit × List ℕ)))
steps vars id count = turns (step_part vars) one_more count id

-- the largest count of variables, clauses and lines
abbrev pub most : ℕ
most = 2 ^ 63 - 1

abbrev pub lines_rest : ℕ → ℕ → Part (ℕ × List (ℕ × (List Lit × List ℕ)))
lines_rest vars id = both (numeral 0 most true) (steps vars id)

abbrev pub lines_part : ℕ → ℕ → Part (ℕ × List (ℕ × (List Lit × List ℕ)))
lines_part vars id = after (codes "lines") false (lines_rest vars id)

-- a set behind the counts of variables and clauses, and the lines behind it
abbrev pub clauses_rest : ℕ → ℕ → Part (List (List Lit) × (ℕ × List (ℕ × (List Lit × List ℕ))))
clauses_rest vars count = both (clauses vars count) (λ cs. lines_part vars (count + 1))

abbrev pub count_rest : ℕ → Part (ℕ × (List (List Lit) × (ℕ × List (ℕ × (List Lit × List ℕ)))))
count_rest vars = both (numeral 0 most true) (clauses_rest vars)

abbrev pub set_rest : Part (ℕ × (ℕ × (List (List Lit) × (ℕ × List (ℕ × (List Lit × List ℕ))))))
set_rest = both (numeral 0 most false) count_rest

abbrev pub cnf_part : Part (ℕ × (ℕ × (List (List Lit) × (ℕ × List (ℕ × (List Lit × List ℕ))))))
cnf_part = after (codes "cnf") false set_rest

abbrev pub set_part : Part (ℕ × (ℕ × (List (List Lit) × (ℕ × List (ℕ × (List Lit × List ℕ))))))
set_part = after (codes "p") false cnf_part

abbrev pub named_part : List ℕ → Part (ℕ × (ℕ × (List (List Lit) × (ℕ × List (ℕ × (List Lit × List ℕ))))))
named_part name = after name true set_part

abbrev pub query_part : List ℕ → Part (ℕ × (ℕ × (List (List Lit) × (ℕ × List (ℕ × (List Lit × List ℕ))))))
query_part name = after (codes "query") false (named_part name)

-- numbers and literals with a space behind each
abbrev pub spaced : List ℕ → List Word
spaced ns = map (λ n. word (decimal n) false) ns

abbrev pub literal_words : List Lit → List Word
literal_words c = map (λ l. word (literal l) false) c
