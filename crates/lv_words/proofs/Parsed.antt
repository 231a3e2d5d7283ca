-- What a parse by `clap` says of the line.
use Rattle.std.proofs.Common.{◌≡◌, [], List, ℕ, sym, ◌∙◌, ap, subst, inl, inr, codes}
use Rattle.std.specs.Prelude.{Option, Result, Ok, Err, IfOk, IfErr}
use Rattle.clap.specs.Words.{FailsBy, Kinds, IsAmong, kind_of, fault_of, matches_of, rows_of, first_of}
use Rattle.clap.specs.declared.error.Error.{Error}
use Rattle.clap.specs.declared.error.kind.ErrorKind.TheVariants as kind
use Rattle.clap.specs.declared.parser.matches.Found.{Found}
use Rattle.clap.proofs.WalkLemmas.{first_value-rows}
use Rattle.lv_words.specs.Lines.{command, IsTaken, HasLine}

pub fails_ok : {T : Type 0} (kinds : Kinds) (r : Result T Error) → FailsBy kinds r → IfOk r (λ m. kinds ≡ [])
fails_ok kinds (Ok x) h = h
fails_ok kinds (Err e) h = tt

pub fails_err : {T : Type 0} (kinds : Kinds) (r : Result T Error) → FailsBy kinds r → IfErr r (λ e. kinds ≡ [] → kind_of e ≡ kind.OutOfMemory)
fails_err kinds (Ok x) h = tt
fails_err kinds (Err e) (inl h) = λ none. h
fails_err kinds (Err e) (inr h) = λ none. absurd (subst (λ ks. IsAmong (kind_of e) ks) none h)

pub taken_of : (words : List (List ℕ)) (f : Found) → fault_of command words ≡ [] → rows_of f ≡ matches_of command words →
    (mode file : List ℕ) (out : Option (List ℕ)) → HasLine f mode file out → IsTaken words mode file out
taken_of words f taken rows mode file out h = record {
  taken = taken;
  mode_is = sym (first_value-rows f (codes "mode") ∙ ap (first_of (codes "mode")) rows) ∙ h.mode_is;
  file_is = sym (first_value-rows f (codes "file") ∙ ap (first_of (codes "file")) rows) ∙ h.file_is;
  out_is = sym (first_value-rows f (codes "out") ∙ ap (first_of (codes "out")) rows) ∙ h.out_is;
}

pub line_from : (words : List (List ℕ)) (f : Found) → rows_of f ≡ matches_of command words →
    (mode file : List ℕ) (out : Option (List ℕ)) → IsTaken words mode file out → HasLine f mode file out
line_from words f rows mode file out h = record {
  mode_is = first_value-rows f (codes "mode") ∙ ap (first_of (codes "mode")) rows ∙ h.mode_is;
  file_is = first_value-rows f (codes "file") ∙ ap (first_of (codes "file")) rows ∙ h.file_is;
  out_is = first_value-rows f (codes "out") ∙ ap (first_of (codes "out")) rows ∙ h.out_is;
}
