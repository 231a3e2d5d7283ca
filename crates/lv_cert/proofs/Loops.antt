-- Parts that are read turn by turn.
use Rattle.std.proofs.Common.{◌≡◌, ℕ, ◌-◌, ◌≤◌, ◌<◌, Bool, List, [], ◌∷◌, ◌++◌, map, length, codes, Option, Some, None, Ok, refl, sym, ap, ◌∙◌, subst, append_assoc, arith}
use Rattle.std.proofs.lemmas.List.{append-nil}
use Rattle.lv_cert.specs.Words.{Word, word}
use Rattle.lv_cert.specs.Parts.{Part, State, Moves, Fails, ReadsTurn, turns, until}
use Rattle.lv_cert.specs.declared.error.CertError.{CertError}
use Rattle.lv_cert.proofs.Leading.{Leads, leads_none, leads_trans, moves_trans, IsUnique, Has, fails_on, fails_head}
use Rattle.lv_cert.proofs.Combining.{lead_turn, lead_until, heads_turn, IsApart}

pub leads_as : {A B : Type 0} (p : Part A) (q : Part B) (j k : B → A) (old now : State) → ((b : B) → j b ≡ k b) → Leads p q j old now → Leads p q k old now
leads_as p q j k old now h l = subst (λ f. Leads p q f old now) (λ i b. h b i) l

-- the part is whole where nothing is left of it
pub whole_with : {A B : Type 0} (g : Part A) (q : Part B) (join : B → A) (old now new : State) (b : B) (a : A) → Leads g q join old now → q.fits b → Moves now new (q.words b) → join b ≡ a → g.fits a × Moves old new (g.words a)
whole_with g q join old now new b a l f m e =
    (subst g.fits e (l.rests.fits b f), subst (Moves old new) (sym (l.rests.words b f) ∙ ap g.words e) (moves_trans l.moves m))

module _ {A : Type 0} (g : Part (List A)) (p : ℕ → ℕ → Part A) (next : ℕ → A → ℕ) (count s : ℕ) (done : List A) (old now : State) (l : Leads g (turns p next count s) (λ xs. done ++ xs) old now) where
  pub turns_on : (rest : ℕ) (a : A) (new : State) → 1 ≤ count → IsUnique (p (count - 1) s) → (p (count - 1) s).fits a → Moves now new ((p (count - 1) s).words a) → rest ≡ count - 1 →
      Leads g (turns p next rest (next s a)) (λ xs. (done ++ a ∷ []) ++ xs) old new
  turns_on rest a new some u f m e =
      let step : Leads (turns p next count s) (turns p next (count - 1) (next s a)) (λ xs. a ∷ xs) now new = lead_turn p next count s some u a f m in
      let all : Leads g (turns p next (count - 1) (next s a)) (λ xs. done ++ a ∷ xs) old new = leads_trans l step in
      let named : Leads g (turns p next (count - 1) (next s a)) (λ xs. (done ++ a ∷ []) ++ xs) old new =
      leads_as g (turns p next (count - 1) (next s a)) (λ xs. done ++ a ∷ xs) (λ xs. (done ++ a ∷ []) ++ xs) old new (λ xs. sym (append_assoc done (a ∷ []) xs)) all in
      subst (λ c. Leads g (turns p next c (next s a)) (λ xs. (done ++ a ∷ []) ++ xs) old new) (sym e) named

  pub turns_fail : (e : CertError) → 1 ≤ count → IsUnique (p (count - 1) s) → ((a : A) → (p (count - 1) s).fits a → Has (turns p next (count - 1) (next s a))) → Fails (p (count - 1) s) now e → Fails g old e
  turns_fail e some u h f = fails_on l e (fails_head now (heads_turn p next count s some h) u e f)

  pub turns_end : count ≡ 0 → g.fits done × Moves old now (g.words done)
  turns_end z = whole_with g (turns p next count s) (λ xs. done ++ xs) old now now [] done l z (record { words = refl; rest = refl; line = omega arith }) (append-nil done)

module _ {A : Type 0} (g : Part (List A)) (p : ℕ → Part A) (next : ℕ → A → ℕ) (last : Bool) (s : ℕ) (done : List A) (old now : State) (l : Leads g (until p next last s) (λ xs. done ++ xs) old now) where
  pub until_on : (a : A) (new : State) → IsUnique (p s) → IsApart (p s) last → (p s).fits a → Moves now new ((p s).words a) → Leads g (until p next last (next s a)) (λ xs. (done ++ a ∷ []) ++ xs) old new
  until_on a new u z f m =
      let step : Leads (until p next last s) (until p next last (next s a)) (λ xs. a ∷ xs) now new = lead_until p next last s u z a f m in
      let all : Leads g (until p next last (next s a)) (λ xs. done ++ a ∷ xs) old new = leads_trans l step in
      leads_as g (until p next last (next s a)) (λ xs. done ++ a ∷ xs) (λ xs. (done ++ a ∷ []) ++ xs) old new (λ xs. sym (append_assoc done (a ∷ []) xs)) all

  pub until_end : (new : State) → Moves now new (word (codes "0") last ∷ []) → g.fits done × Moves old new (g.words done)
  until_end new m = whole_with g (until p next last s) (λ xs. done ++ xs) old now new [] done l tt m (append-nil done)

pub turns_start : {A : Type 0} (p : ℕ → ℕ → Part A) (next : ℕ → A → ℕ) (count rest s : ℕ) (done : List A) (old : State) → rest ≡ count → done ≡ [] →
    Leads (turns p next count s) (turns p next rest s) (λ xs. done ++ xs) old old
turns_start {A} p next count rest s done old e d =
    let P : ℕ → List A → Type 0 = λ n xs. Leads (turns p next count s) (turns p next n s) (λ ys. xs ++ ys) old old in
    subst (λ xs. P rest xs) (sym d) (subst (λ n. P n []) (sym e) (leads_none (turns p next count s) old))

pub until_start : {A : Type 0} (p : ℕ → Part A) (next : ℕ → A → ℕ) (last : Bool) (s : ℕ) (done : List A) (old : State) → done ≡ [] →
    Leads (until p next last s) (until p next last s) (λ xs. done ++ xs) old old
until_start p next last s done old d = subst (λ xs. Leads (until p next last s) (until p next last s) (λ ys. xs ++ ys) old old) (sym d) (leads_none (until p next last s) old)

pub as_vec : {A : Type 0} (g q : Part (List A)) (done new : List A) (old now : State) → done ≡ new → Leads g q (λ xs. done ++ xs) old now → Leads g q (λ xs. new ++ xs) old now
as_vec g q done new old now e l = subst (λ d. Leads g q (λ xs. d ++ xs) old now) e l

pub turn_some : {A : Type 0} (g : Part (List A)) (p : Part A) (last : Bool) (old new : State) (o : Option A) (a : A) → o ≡ Some a → ReadsTurn g p last old new (Ok o) → p.fits a × Moves old new (p.words a)
turn_some g p last old new o a e h = subst (λ x. ReadsTurn g p last old new (Ok x)) e h

pub turn_none : {A : Type 0} (g : Part (List A)) (p : Part A) (last : Bool) (old new : State) (o : Option A) → o ≡ None → ReadsTurn g p last old new (Ok o) → Moves old new (word (codes "0") last ∷ [])
turn_none g p last old new o e h = subst (λ x. ReadsTurn g p last old new (Ok x)) e h

pub map_push : {A B : Type 0} (f : A → B) (xs : List A) (x : A) → map f (xs ++ x ∷ []) ≡ map f xs ++ f x ∷ []
map_push f [] x = refl
map_push f (y ∷ xs) x = ap (λ l. f y ∷ l) (map_push f xs x)

-- a word less is left
pub falls : (now new : State) (w : Word) → Moves now new (w ∷ []) → length new.words < length now.words
falls now new w m = let e : length now.words ≡ length (w ∷ new.words) = ap length m.words in omega (arith, e)
