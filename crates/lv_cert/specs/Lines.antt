-- The lines of a certificate, each a list of words.
use Rattle.std.specs.Prelude.{ℕ, ◌+◌, if◌then◌else◌, List, [], ◌∷◌, ◌++◌, map, length, codes, decimal}
use Rattle.lv_clauses.specs.Literals.{Lit}
use Rattle.lv_clauses.specs.Sets.{SetValue}
use Rattle.lv_clauses.specs.Derivations.{Step}
use Rattle.lv_cert.specs.Values.{Values, Sets}

abbrev pub Line : Type 0
Line = List (List ℕ)

-- a number of the list
abbrev pub keep_line : ℕ → Line
keep_line n = codes "keep" ∷ decimal n ∷ []

-- the values of one register in both states
abbrev pub pair_lines : List ℕ → List ℕ → List Line
pair_lines (l ∷ ls) (r ∷ rs) = (codes "pair" ∷ decimal l ∷ decimal r ∷ []) ∷ pair_lines ls rs
pair_lines _ _ = []

abbrev pub input_line : ℕ → Line
input_line v = codes "input" ∷ decimal v ∷ []

-- a literal and a clause, as in DIMACS
abbrev pub literal : Lit → List ℕ
literal l = if l.neg then 45 ∷ decimal l.var else decimal l.var

abbrev pub clause_line : List Lit → Line
clause_line c = map literal c ++ codes "0" ∷ []

-- a line of a derivation with its number, as in LRAT
abbrev pub step_line : ℕ → Step → Line
step_line id s = decimal id ∷ (clause_line s.clause ++ (map decimal s.hints ++ codes "0" ∷ []))

abbrev pub step_lines : ℕ → List Step → List Line
step_lines id [] = []
step_lines id (s ∷ ss) = step_line id s ∷ step_lines (id + 1) ss

abbrev pub set_lines : SetValue → List Line
set_lines set = (codes "p" ∷ codes "cnf" ∷ decimal set.vars ∷ decimal (length set.clauses) ∷ []) ∷ map clause_line set.clauses

-- a query's set, and the lines that refute it
abbrev pub query_lines : List ℕ → SetValue → List Step → List Line
query_lines name set lines =
    (codes "query" ∷ name ∷ []) ∷ (set_lines set ++ (codes "lines" ∷ decimal (length lines) ∷ []) ∷ step_lines (length set.clauses + 1) lines)

abbrev pub kept_lines : List ℕ → List Line
kept_lines kept = (codes "kept" ∷ decimal (length kept) ∷ []) ∷ map keep_line kept

abbrev pub first_lines : List ℕ → List ℕ → List Line
first_lines left right = (codes "first" ∷ decimal (length left) ∷ []) ∷ pair_lines left right

abbrev pub inputs_lines : List ℕ → List Line
inputs_lines input = (codes "inputs" ∷ decimal (length input) ∷ []) ∷ map input_line input

abbrev pub lines_of : Values → Sets → List Line
lines_of v sets =
    (codes "leave-certificate" ∷ codes "1" ∷ []) ∷ (kept_lines v.kept ++ (first_lines v.left v.right ++ (inputs_lines v.input ++
    (query_lines (codes "base") sets.base v.base ++ (query_lines (codes "step") sets.step v.step ++ (query_lines (codes "imply") sets.imply v.imply ++
    (codes "end" ∷ []) ∷ []))))))
