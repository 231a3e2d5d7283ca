use Rattle.std.proofs.Common.{◌≡◌, ℕ, true, false, List, [], ◌∷◌, ◌++◌, codes, decimal, ◌∙◌, Result, Ok, Err, OnOk}
use Rattle.lv_clauses.specs.Literals.{Lit}
use Rattle.lv_clauses.specs.Derivations.{Step}
use Rattle.lv_cert.specs.Words.{word, spelled, spell, text_of}
use Rattle.lv_cert.specs.Lines.{step_line}
use Rattle.lv_cert.specs.Sections.{literal_words, spaced}
use Rattle.lv_cert.proofs.Sectioning.{step_text}
use Rattle.lv_cert.proofs.write.push_step.Goals as goal

on_ok : {T E : Type 0} (r : Result T E) (P Q : Type 0) → (P → Q) → OnOk r P → OnOk r Q
on_ok (Ok x) P Q f h = f h
on_ok (Err e) P Q f h = tt

joined : (old one two new : List ℕ) (id : ℕ) (c : List Lit) (hs : List ℕ) (s : Step) → one ≡ old ++ spelled (word (decimal id) false) → two ≡ one ++ spell (literal_words c ++ word (codes "0") false ∷ []) → c ≡ s.clause → hs ≡ s.hints →
    new ≡ two ++ spell (spaced hs ++ word (codes "0") true ∷ []) → new ≡ old ++ text_of (step_line id s ∷ [])
joined old one two new id c hs s a b e f h =
    h ∙ (λ i. (b ∙ (λ j. a j ++ spell (literal_words (e j) ++ word (codes "0") false ∷ []))) i ++ spell (spaced (f i) ++ word (codes "0") true ∷ [])) ∙ step_text old id s

pub returns : goal.returns
returns c =
    on_ok c.push_hints.result _ _ (joined c.args.out.now.items c.push_number.new.out.items c.push_literals.new.out.items c.push_hints.new.out.items c.args.id c.lits.result.now c.hints.result.now c.args.line.now
    c.in_ok-push_number.ensures c.in_ok-push_literals.ensures (c.lits.ensures.value ∙ c.clause.ensures) c.hints.ensures) c.push_hints.ensures
