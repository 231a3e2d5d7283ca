-- Parts of a text of words, and what it means to read one.
use Rattle.std.specs.Prelude.{◌≡◌, ℕ, ◌+◌, ◌-◌, ◌^◌, ◌<◌, ◌≤◌, Bool, false, if◌then◌else◌, List, [], ◌∷◌, ◌++◌, codes, decimal, Option, Some, None, Result, Ok, Err}
use Rattle.lv_clauses.specs.Literals.{Lit}
use Rattle.lv_cert.specs.Words.{Word, word}
use Rattle.lv_cert.specs.Lines.{literal}
use Rattle.lv_cert.specs.declared.error.CertError.{CertError}
use Rattle.lv_cert.specs.declared.error.CertError.TheVariants.{Line, NoMemory}

-- the values that can stand in a part, and their words
pub record Part (A : Type 0) : Type 1 where
  pub fits : A → Type 0
  pub words : A → List Word

-- one word
abbrev pub one : {A : Type 0} → (A → Type 0) → (A → List ℕ) → Bool → Part A
one fits letters last = record { fits = fits; words = λ a. word (letters a) last ∷ [] }

abbrev pub fixed : List ℕ → Bool → Part (Unit {0})
fixed letters last = one (λ _. Unit {0}) (λ _. letters) last

abbrev pub numeral : ℕ → ℕ → Bool → Part ℕ
numeral low high last = one (λ n. (low ≤ n) × (n ≤ high)) decimal last

abbrev pub wide : Bool → Part ℕ
wide last = one (λ n. n < 2 ^ 128) decimal last

-- a literal whose variable is above `low`
abbrev pub over : ℕ → ℕ → Part Lit
over low vars = one (λ l. (low < l.var) × (l.var ≤ vars)) literal false

-- a part behind a fixed word
abbrev pub after : {A : Type 0} → List ℕ → Bool → Part A → Part A
after letters last p = record { fits = p.fits; words = λ a. word letters last ∷ p.words a }

-- a part, and one that depends on what stands in it
abbrev pub both : {A B : Type 0} → Part A → (A → Part B) → Part (A × B)
both p q = record { fits = λ v. p.fits v.0 × (q v.0).fits v.1; words = λ v. p.words v.0 ++ (q v.0).words v.1 }

-- so many parts, each by how many are still to come behind it and by a number that each one leaves to the next
abbrev pub turns_fit : {A : Type 0} → (ℕ → ℕ → Part A) → (ℕ → A → ℕ) → ℕ → ℕ → List A → Type 0
turns_fit p next count s [] = count ≡ 0
turns_fit p next count s (a ∷ xs) = (1 ≤ count) × (p (count - 1) s).fits a × turns_fit p next (count - 1) (next s a) xs

abbrev pub turns_words : {A : Type 0} → (ℕ → ℕ → Part A) → (ℕ → A → ℕ) → ℕ → ℕ → List A → List Word
turns_words p next count s [] = []
turns_words p next count s (a ∷ xs) = (p (count - 1) s).words a ++ turns_words p next (count - 1) (next s a) xs

abbrev pub turns : {A : Type 0} → (ℕ → ℕ → Part A) → (ℕ → A → ℕ) → ℕ → ℕ → Part (List A)
turns p next count s = record { fits = turns_fit p next count s; words = turns_words p next count s }

-- words up to a zero
abbrev pub until_fit : {A : Type 0} → (ℕ → Part A) → (ℕ → A → ℕ) → ℕ → List A → Type 0
until_fit p next s [] = Unit {0}
until_fit p next s (a ∷ xs) = (p s).fits a × until_fit p next (next s a) xs

abbrev pub until_words : {A : Type 0} → (ℕ → Part A) → (ℕ → A → ℕ) → Bool → ℕ → List A → List Word
until_words p next last s [] = word (codes "0") last ∷ []
until_words p next last s (a ∷ xs) = (p s).words a ++ until_words p next last (next s a) xs

abbrev pub until : {A : Type 0} → (ℕ → Part A) → (ℕ → A → ℕ) → Bool → ℕ → Part (List A)
until p next last s = record { fits = until_fit p next s; words = until_words p next last s }

-- what is left of the input: its words, what stands behind the last of them, and the number of the line
pub record State : Type 0 where
  pub words : List Word
  pub rest : List ℕ
  pub line : ℕ

-- how many lines end with these words
abbrev pub line_count : List Word → ℕ
line_count [] = 0
line_count (w ∷ ws) = (if w.last then 1 else 0) + line_count ws

-- these words were read
pub record Moves (old new : State) (ws : List Word) : Type 0 where
  pub words : old.words ≡ ws ++ new.words
  pub rest : new.rest ≡ old.rest
  pub line : new.line ≡ old.line + line_count ws

-- these words begin the part, but no value has them and the next one, if there is a next one
pub record IsStuck {A : Type 0} (p : Part A) (words front : List Word) : Type 0 where
  pub value : A
  pub next : Word
  pub more : List Word
  pub rest : List Word
  pub fits : p.fits value
  pub begins : p.words value ≡ front ++ next ∷ more
  pub is : words ≡ front ++ rest
  pub ends : (x : Word) (behind : List Word) → rest ≡ x ∷ behind → (a : A) (others : List Word) → p.fits a → p.words a ≡ front ++ x ∷ others → ⊥

-- the part ends in the line that is told
abbrev pub Fails : {A : Type 0} → Part A → State → CertError → Type 0
Fails p old (Line n) = (front : List Word) × IsStuck p old.words front × (n ≡ old.line + line_count front)
Fails p old NoMemory = Unit {0}

-- a value of the part was read, as the result shows it, or the part ends in the line that is told
abbrev pub Reads : {A R : Type 0} → Part A → (R → A → Type 0) → State → State → Result R CertError → Type 0
Reads {A} p shows old new (Ok r) = (a : A) × shows r a × p.fits a × Moves old new (p.words a)
Reads p shows old new (Err e) = Fails p old e

-- the value that has these letters, or none
abbrev pub IsReadOr : {A : Type 0} → (A → Type 0) → (A → List ℕ) → List ℕ → Option A → Type 0
IsReadOr {A} fits letters ls None = (a : A) → fits a → letters a ≡ ls → ⊥
IsReadOr fits letters ls (Some a) = fits a × (letters a ≡ ls)

-- one value of those before the zero was read, or the zero, or the part ends in the line that is told
abbrev pub ReadsTurn : {A : Type 0} → Part (List A) → Part A → Bool → State → State → Result (Option A) CertError → Type 0
ReadsTurn g p last old new (Ok (Some a)) = p.fits a × Moves old new (p.words a)
ReadsTurn g p last old new (Ok None) = Moves old new (word (codes "0") last ∷ [])
ReadsTurn g p last old new (Err e) = Fails g old e
