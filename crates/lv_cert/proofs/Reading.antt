-- What a word that was found says of a part of one word.
use Rattle.std.proofs.Common.{◌≡◌, ℕ, Bool, false, List, [], ◌∷◌, codes, Some, None, sym, ap, ◌∙◌, subst, arith}
use Rattle.lv_cert.specs.Words.{Word, word}
use Rattle.lv_cert.specs.Parts.{Part, State, Moves, Fails, one, until, IsReadOr}
use Rattle.lv_cert.specs.declared.error.CertError.TheVariants.{Line}
use Rattle.lv_cert.proofs.Leading.{Has}
use Rattle.lv_cert.proofs.Combining.{stuck_one, stuck_until}

pub moves_as : {old new : State} (ls ks : List ℕ) (a b : Bool) → Moves old new (word ls a ∷ []) → ls ≡ ks → a ≡ b → Moves old new (word ks b ∷ [])
moves_as {old} {new} ls ks a b m e f = subst (λ w. Moves old new (w ∷ [])) (λ i. word (e i) (f i)) m

module _ {A : Type 0} (fits : A → Type 0) (letters : A → List ℕ) (last : Bool) (h : Has (one fits letters last)) where
  pub fails_nothing : (old : State) (line : ℕ) → old.words ≡ [] → line ≡ old.line → Fails (one fits letters last) old (Line line)
  fails_nothing old line e n = ([], stuck_one fits letters last old.words h (λ x behind w a f k. (let z2 : x ∷ behind ≡ [] = sym w ∙ e in cc)), omega (arith, n))

  pub fails_word : (old new : State) (line : ℕ) (x : Word) → Moves old new (x ∷ []) → line ≡ old.line → ((a : A) → fits a → word (letters a) last ≡ x → ⊥) → Fails (one fits letters last) old (Line line)
  fails_word old new line x m n bad = ([], stuck_one fits letters last old.words h (λ y behind w a f k. bad a f (let s : y ∷ behind ≡ x ∷ new.words = sym w ∙ m.words in let t : y ≡ x = cc in k ∙ t)), omega (arith, n))

  pub fails_last : (old new : State) (line : ℕ) (ls : List ℕ) (end : Bool) → Moves old new (word ls end ∷ []) → line ≡ old.line → (end ≡ last → ⊥) → Fails (one fits letters last) old (Line line)
  fails_last old new line ls end m n bad = fails_word old new line (word ls end) m n (λ a f e. bad (ap (λ w. w.last) (sym e)))

  pub fails_letters : (old new : State) (line : ℕ) (ls : List ℕ) (end : Bool) → Moves old new (word ls end ∷ []) → line ≡ old.line → IsReadOr fits letters ls None → Fails (one fits letters last) old (Line line)
  fails_letters old new line ls end m n bad = fails_word old new line (word ls end) m n (λ a f e. bad a f (ap (λ w. w.letters) e))

pub reads_found : {A : Type 0} (fits : A → Type 0) (letters : A → List ℕ) (last : Bool) (old new : State) (ls : List ℕ) (end : Bool) (a : A) →
    Moves old new (word ls end ∷ []) → end ≡ last → IsReadOr fits letters ls (Some a) → fits a × Moves old new (word (letters a) last ∷ [])
reads_found fits letters last old new ls end a m e r = (r.0, moves_as ls (letters a) end last m (sym r.1) e)

-- ---- up to a zero

module _ {A : Type 0} (fits : ℕ → A → Type 0) (letters : A → List ℕ) (next : ℕ → A → ℕ) (last : Bool) (s : ℕ) where
  pub turn_nothing : (old : State) (line : ℕ) → old.words ≡ [] → line ≡ old.line → Fails (until (λ k. one (fits k) letters false) next last s) old (Line line)
  turn_nothing old line e n = (
    [],
    stuck_until (λ k. one (fits k) letters false) next last s old.words (λ x behind w z. (let z2 : x ∷ behind ≡ [] = sym w ∙ e in cc)) (λ x behind w a r t f k. (let z2 : x ∷ behind ≡ [] = sym w ∙ e in cc)),
    omega (arith, n),
  )

  pub turn_word : (old new : State) (line : ℕ) (ls : List ℕ) (end : Bool) → Moves old new (word ls end ∷ []) → line ≡ old.line → (word ls end ≡ word (codes "0") last → ⊥) →
      ((a : A) → fits s a → word (letters a) false ≡ word ls end → ⊥) → Fails (until (λ k. one (fits k) letters false) next last s) old (Line line)
  turn_word old new line ls end m n zero bad = (
    [],
    stuck_until (λ k. one (fits k) letters false) next last s old.words
        (λ x behind w z. zero (let t : x ∷ behind ≡ word ls end ∷ new.words = sym w ∙ m.words in let u : x ≡ word ls end = cc in sym u ∙ z))
        (λ x behind w a r t f k. bad a f (let v : x ∷ behind ≡ word ls end ∷ new.words = sym w ∙ m.words in let u : x ≡ word ls end = cc in let y : word (letters a) false ≡ x = cc in y ∙ u)),
    omega (arith, n),
  )

-- the value that was read
pub got : {A : Type 0} (p : Part A) (n : A) (now new : State) → ((a : A) × (n ≡ a) × p.fits a × Moves now new (p.words a)) → p.fits n × Moves now new (p.words n)
got {A} p n now new h = let P : A → Type 0 = λ x. p.fits x × Moves now new (p.words x) in subst P (sym h.1) (h.2, h.3)
