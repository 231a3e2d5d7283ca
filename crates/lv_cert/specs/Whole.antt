-- The whole of a certificate as parts, and what the reader's values show of them.
use Rattle.std.specs.Prelude.{◌≡◌, ℕ, false, true, List, map, codes}
use Rattle.lv_clauses.specs.Literals.{Lit}
use Rattle.lv_clauses.specs.Sets.{SetValue}
use Rattle.lv_clauses.specs.Derivations.{Step}
use Rattle.lv_cert.specs.Values.{Values, Sets, values_of}
use Rattle.lv_cert.specs.Parts.{Part, fixed, after, both}
use Rattle.lv_cert.specs.Sections.{kept_part, first_part, inputs_part, query_part}
use Rattle.lv_cert.specs.declared.cert.Cert.{Cert}
use Rattle.lv_cert.specs.declared.cert.Shape.{Shape}
use Rattle.lv_cert.specs.declared.read.Lists.{Lists}
use Rattle.lv_cert.specs.declared.read.Proofs.{Proofs}
use Rattle.lv_cert.specs.declared.read.States.{States}

-- the count of pairs, and they
abbrev pub FirstValue : Type 0
FirstValue = ℕ × List (ℕ × ℕ)

-- a line: its number, its literals and its hints
abbrev pub StepValue : Type 0
StepValue = ℕ × (List Lit × List ℕ)

-- a query: the counts of variables and clauses, the clauses, the count of lines, and they
abbrev pub QueryValue : Type 0
QueryValue = ℕ × (ℕ × (List (List Lit) × (ℕ × List StepValue)))

abbrev pub ListsValue : Type 0
ListsValue = (ℕ × List ℕ) × (FirstValue × (ℕ × List ℕ))

abbrev pub ProofsValue : Type 0
ProofsValue = QueryValue × (QueryValue × QueryValue)

abbrev pub CertValue : Type 0
CertValue = ListsValue × (ProofsValue × Unit {0})

abbrev pub states_part : Shape → Part (FirstValue × (ℕ × List ℕ))
states_part shape = both (first_part shape.registers) (λ _. inputs_part shape.inputs)

abbrev pub lists_part : Shape → Part ListsValue
lists_part shape = both (kept_part shape.candidates) (λ _. states_part shape)

abbrev pub two_part : Part (QueryValue × QueryValue)
two_part = both (query_part (codes "step")) (λ _. query_part (codes "imply"))

abbrev pub proofs_part : Part ProofsValue
proofs_part = both (query_part (codes "base")) (λ _. two_part)

abbrev pub end_part : Part (ProofsValue × Unit {0})
end_part = both proofs_part (λ _. fixed (codes "end") true)

abbrev pub body_part : Shape → Part CertValue
body_part shape = both (lists_part shape) (λ _. end_part)

abbrev pub one_part : Shape → Part CertValue
one_part shape = after (codes "1") true (body_part shape)

abbrev pub cert_part : Shape → Part CertValue
cert_part shape = after (codes "leave-certificate") false (one_part shape)

-- ---- what values show

abbrev pub ShowsPairs : States → List (ℕ × ℕ) → Type 0
ShowsPairs v a = (v.left.items ≡ map (λ p. p.0) a) × (v.right.items ≡ map (λ p. p.1) a)

abbrev pub step_of : StepValue → Step
step_of a = record { clause = a.1.0; hints = a.1.1 }

abbrev pub ShowsStep : Step → StepValue → Type 0
ShowsStep v a = v ≡ step_of a

abbrev pub ShowsSteps : List Step → List StepValue → Type 0
ShowsSteps v a = v ≡ map step_of a

abbrev pub lines_in : QueryValue → List Step
lines_in a = map step_of a.1.1.1.1

abbrev pub set_in : QueryValue → SetValue
set_in a = record { vars = a.0; clauses = a.1.1.0 }

abbrev pub ShowsQuery : List Step → QueryValue → Type 0
ShowsQuery v a = v ≡ lines_in a

abbrev pub ShowsLists : Lists → ListsValue → Type 0
ShowsLists v a = (v.kept.items ≡ a.0.1) × ShowsPairs v.states a.1.0.1 × (v.values.items ≡ a.1.1.1)

abbrev pub ShowsProofs : Proofs → ProofsValue → Type 0
ShowsProofs v a = (v.base ≡ lines_in a.0) × (v.step ≡ lines_in a.1.0) × (v.imply ≡ lines_in a.1.1)

abbrev pub values_in : CertValue → Values
values_in a = record {
  kept = a.0.0.1;
  left = map (λ p. p.0) a.0.1.0.1;
  right = map (λ p. p.1) a.0.1.0.1;
  input = a.0.1.1.1;
  base = lines_in a.1.0.0;
  step = lines_in a.1.0.1.0;
  imply = lines_in a.1.0.1.1;
}

abbrev pub sets_in : CertValue → Sets
sets_in a = record { base = set_in a.1.0.0; step = set_in a.1.0.1.0; imply = set_in a.1.0.1.1 }

abbrev pub ShowsCert : Cert → CertValue → Type 0
ShowsCert v a = values_of v ≡ values_in a
