-- What a step answers, and what the steps before it passed on.
use Rattle.std.proofs.Common.{◌≡◌, ℕ, List, ◌∷◌, ◌++◌, sym, subst, inl, inr}
use Rattle.std.specs.Prelude.{Result, Ok, Err, IfOk, IfErr, ◌⊎◌, Option}
use Rattle.lv_io.specs.Files.{Files}
use Rattle.lv_io.specs.Outside.{ShelfState, Goes}
use Rattle.lv_ast.specs.declared.item.Source.{Source}
use Rattle.lv_contract.specs.declared.contract.Contract.{Contract}
use Rattle.lv_steps.specs.declared.ended.Ended.{Ended}
use Rattle.lv_steps.specs.declared.ended.Ended.TheVariants as t
use Rattle.lv_steps.specs.declared.files.Limits.{Limits}
use Rattle.lv_steps.specs.Files.{AreRead, AreUnread, IsNext}
use Rattle.lv_steps.specs.Chain.{reads_design}
use Rattle.lv_steps.proofs.Reading.{unread_later}

pub ok_pair : {V E B : Type 0} (r : Result V E) (y : B) (F : B → Type 0) (G : B → V → Type 0) → F y → IfOk r (G y) → IfOk r (λ v. (z : B) × F z × G z v)
ok_pair (Ok v) y F G p h = (y, p, h)
ok_pair (Err e) y F G p h = tt

pub err_pair : {V E B : Type 0} (r : Result V E) (y : B) (F : B → Type 0) (R : E → Type 0) (G : B → E → Type 0) → F y → IfErr r (G y) → IfErr r (λ e. R e ⊎ ((z : B) × F z × G z e))
err_pair (Ok v) y F R G p h = tt
err_pair (Err e) y F R G p h = inr (y, p, h)

next_later : (limit : ℕ) (first middle : Option Files) (names : List (List ℕ)) (name : List ℕ) → middle ≡ first → IsNext limit middle names name → IsNext limit first names name
next_later limit first middle names name e h = subst (λ z. IsNext limit z names name) e h

files_later : (limit : ℕ) (first middle last : ShelfState) (names : List (List ℕ)) (e : Ended) → Goes first middle →
    AreUnread limit (IsNext limit middle.files names) middle last e → AreUnread limit (IsNext limit first.files names) first last e
files_later limit first middle last names (t.File u) goes h =
    unread_later limit (IsNext limit middle.files names) (IsNext limit first.files names) first middle last u goes (λ name n. next_later limit first.files middle.files names name goes.files n) h
files_later limit first middle last names (t.Contract x) goes h = absurd h
files_later limit first middle last names (t.Source x) goes h = absurd h
files_later limit first middle last names (t.Tokens x) goes h = absurd h
files_later limit first middle last names (t.Directives x) goes h = absurd h
files_later limit first middle last names (t.Syntax x place) goes h = absurd h
files_later limit first middle last names t.NoMemory goes h = absurd h

read_later : (limit : ℕ) (first middle : Option Files) (names parts : List (List ℕ)) → middle ≡ first → AreRead limit middle names parts → AreRead limit first names parts
read_later limit first middle names parts e h = subst (λ z. AreRead limit z names parts) e h

-- read after the contract
pub design_passes : (limits : Limits) (first middle last : ShelfState) (c : Contract) (s : Source) → Goes first middle →
    (reads_design limits middle last).Passes c s → (reads_design limits first last).Passes c s
design_passes limits first middle last c s goes h = (h.0, (h.1.0, read_later limits.file first.files middle.files c.files h.1.0 goes.files h.1.1, h.1.2), h.2)

pub design_refuses : (limits : Limits) (first middle last : ShelfState) (c : Contract) (e : Ended) → Goes first middle →
    (reads_design limits middle last).Refuses c e → (reads_design limits first last).Refuses c e
design_refuses limits first middle last c e goes (inl (inl u)) = inl (inl (files_later limits.file first middle last c.files e goes u))
design_refuses limits first middle last c e goes (inl (inr h)) = inl (inr (h.0, read_later limits.file first.files middle.files c.files h.0 goes.files h.1, h.2))
design_refuses limits first middle last c e goes (inr h) = inr (h.0, (h.1.0, read_later limits.file first.files middle.files c.files h.1.0 goes.files h.1.1, h.1.2), h.2)
