-- Which bytes are a certificate, and which line of others is the first that doesn't fit.
use Rattle.std.specs.Prelude.{◌≡◌, ℕ, ◌+◌, ◌-◌, ◌^◌, ◌<◌, ◌≤◌, List, [], ◌∷◌, ◌++◌, take, length}
use Rattle.lv_clauses.specs.Literals.{Lit}
use Rattle.lv_clauses.specs.Sets.{SetValue}
use Rattle.lv_clauses.specs.Derivations.{Step}
use Rattle.lv_cert.specs.Words.{text_of}
use Rattle.lv_cert.specs.Values.{Values, Sets}
use Rattle.lv_cert.specs.Lines.{lines_of}
use Rattle.lv_cert.specs.declared.cert.Shape.{Shape}
use Rattle.lv_cert.specs.declared.error.CertError.{CertError}
use Rattle.lv_cert.specs.declared.error.CertError.TheVariants.{Line, NoMemory}

-- the numbers rise, from `low` on and below `count`
abbrev pub AreRising : ℕ → ℕ → List ℕ → Type 0
AreRising low count [] = Unit {0}
AreRising low count (n ∷ ns) = (low ≤ n) × (n < count) × AreRising (n + 1) count ns

-- values of at most 128 bits
abbrev pub AreWide : List ℕ → Type 0
AreWide [] = Unit {0}
AreWide (v ∷ vs) = (v < 2 ^ 128) × AreWide vs

-- the variables rise above `low`, up to `vars`
abbrev pub IsOver : ℕ → ℕ → List Lit → Type 0
IsOver low vars [] = Unit {0}
IsOver low vars (l ∷ ls) = (low < l.var) × (l.var ≤ vars) × IsOver l.var vars ls

abbrev pub AreOver : ℕ → List (List Lit) → Type 0
AreOver vars [] = Unit {0}
AreOver vars (c ∷ cs) = IsOver 0 vars c × AreOver vars cs

-- hints of the line with the number `id`
abbrev pub AreHints : ℕ → List ℕ → Type 0
AreHints id [] = Unit {0}
AreHints id (h ∷ hs) = (1 ≤ h) × (h < id) × AreHints id hs

-- lines with numbers from `id` on
abbrev pub AreSteps : ℕ → ℕ → List Step → Type 0
AreSteps vars id [] = Unit {0}
AreSteps vars id (s ∷ ss) = IsOver 0 vars s.clause × AreHints id s.hints × AreSteps vars (id + 1) ss

-- a set and lines on it that can be written
pub record IsQuery (set : SetValue) (lines : List Step) : Type 0 where
  pub vars : set.vars < 2 ^ 63
  pub count : length set.clauses < 2 ^ 63
  pub clauses : AreOver set.vars set.clauses
  pub total : length lines < 2 ^ 63
  pub steps : AreSteps set.vars (length set.clauses + 1) lines

-- what a certificate for the shape can say
pub record IsFor (shape : Shape) (v : Values) (sets : Sets) : Type 0 where
  pub kept : AreRising 0 shape.candidates v.kept
  pub left_count : length v.left ≡ shape.registers
  pub left : AreWide v.left
  pub right_count : length v.right ≡ shape.registers
  pub right : AreWide v.right
  pub input_count : length v.input ≡ shape.inputs
  pub input : AreWide v.input
  pub base : IsQuery sets.base v.base
  pub step : IsQuery sets.step v.step
  pub imply : IsQuery sets.imply v.imply

-- the bytes are a certificate for the shape, which says this
abbrev pub IsCertificate : Shape → Values → List ℕ → Type 0
IsCertificate shape v bytes = (sets : Sets) × IsFor shape v sets × (bytes ≡ text_of (lines_of v sets))

-- the first n lines of the bytes are those of some certificate for the shape
pub record Begins (shape : Shape) (bytes : List ℕ) (n : ℕ) : Type 0 where
  pub values : Values
  pub sets : Sets
  pub rest : List ℕ
  pub fits : IsFor shape values sets
  pub within : n ≤ length (lines_of values sets)
  pub is : bytes ≡ text_of (take n (lines_of values sets)) ++ rest

-- line n, from 1, is the first that doesn't fit or is missing
pub record IsFirstWrong (shape : Shape) (bytes : List ℕ) (n : ℕ) : Type 0 where
  pub some : 1 ≤ n
  pub before : Begins shape bytes (n - 1)
  pub here : Begins shape bytes n → ⊥
  pub whole : (v : Values) → IsCertificate shape v bytes → ⊥

abbrev pub IsRefusal : Shape → List ℕ → CertError → Type 0
IsRefusal shape bytes (Line n) = IsFirstWrong shape bytes n
IsRefusal shape bytes NoMemory = Unit {0}

-- a derivation that can be written beside its set
pub record IsWritable (set : SetValue) (lines : List Step) : Type 0 where
  pub vars : set.vars < 2 ^ 63
  pub total : length lines < 2 ^ 63
  pub steps : AreSteps set.vars (length set.clauses + 1) lines

-- what can be written
pub record CanBeWritten (v : Values) (sets : Sets) : Type 0 where
  pub states : length v.left ≡ length v.right
  pub base : IsWritable sets.base v.base
  pub step : IsWritable sets.step v.step
  pub imply : IsWritable sets.imply v.imply

-- the shape of a task with so many candidates, for which it is written
abbrev pub shape_of : ℕ → Values → Shape
shape_of candidates v = record { candidates = candidates; registers = length v.left; inputs = length v.input }
