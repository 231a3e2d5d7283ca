-- The status of what ends a run, and why it is a fault.
use Rattle.std.proofs.Common.{◌≡◌, ℕ, Bool, true, false, List, refl, inl, inr, subst}
use Rattle.std.specs.Prelude.{◌⊎◌}
use Rattle.lv_io.specs.Causes.{Rose}
use Rattle.lv_io.specs.Outside.{ShelfState}
use Rattle.lv_contract.specs.declared.contract.Contract.{Contract}
use Rattle.lv_contract.specs.declared.error.ContractError.TheVariants as contract
use Rattle.lv_exprs.specs.declared.error.SyntaxError.TheVariants as syntax
use Rattle.lv_lexer.specs.declared.error.LexError.TheVariants as lex
use Rattle.lv_lexer.specs.declared.error.DirectiveError.TheVariants as directive
use Rattle.lv_steps.specs.declared.ended.Ended.{Ended}
use Rattle.lv_steps.specs.declared.ended.Ended.TheVariants as t
use Rattle.lv_steps.specs.declared.ended.Unread.{Unread}
use Rattle.lv_steps.specs.declared.ended.Unread.TheVariants as u
use Rattle.lv_steps.specs.Chain.{reads_source, reads_design}
use Rattle.lv_steps.specs.Exact.{is_want, is_fault}
use Rattle.lv_run.specs.Texts.{told_of_end}
use Rattle.lv_run.specs.Answers.{run_limits, IsEnd}

-- a refusal, a fault, or want of memory
pub data EndCode (e : Ended) : Type 0 where
  three : (told_of_end e).code ≡ 3 → is_want e ≡ false → is_fault e ≡ false → EndCode e
  six : (name : List ℕ) → e ≡ t.File (u.Failed name) → (told_of_end e).code ≡ 6 → is_want e ≡ false → EndCode e
  seven : (told_of_end e).code ≡ 7 → is_fault e ≡ false → EndCode e

pub end_code : (e : Ended) → EndCode e
end_code (t.File (u.Missing name)) = three refl refl refl
end_code (t.File (u.TooLong name)) = three refl refl refl
end_code (t.File (u.Failed name)) = six name refl refl refl
end_code (t.File u.NoMemory) = seven refl refl
end_code (t.Contract contract.Toml) = three refl refl refl
end_code (t.Contract (contract.Key key)) = three refl refl refl
end_code (t.Contract (contract.Value key)) = three refl refl refl
end_code (t.Contract (contract.Expr key entry byte)) = three refl refl refl
end_code (t.Contract contract.NoMemory) = seven refl refl
end_code (t.Source count) = three refl refl refl
end_code (t.Tokens (lex.BadByte p)) = three refl refl refl
end_code (t.Tokens (lex.BadLiteral p)) = three refl refl refl
end_code (t.Tokens (lex.Unclosed p)) = three refl refl refl
end_code (t.Tokens (lex.TooMany n)) = three refl refl refl
end_code (t.Tokens lex.NoMemory) = seven refl refl
end_code (t.Directives (directive.UnknownMacro p)) = three refl refl refl
end_code (t.Directives (directive.Unbalanced p)) = three refl refl refl
end_code (t.Directives (directive.Malformed p)) = three refl refl refl
end_code (t.Directives (directive.Depth p)) = three refl refl refl
end_code (t.Directives (directive.TooMany n)) = three refl refl refl
end_code (t.Directives directive.NoMemory) = seven refl refl
end_code (t.Syntax (syntax.Syntax k) place) = three refl refl refl
end_code (t.Syntax (syntax.Depth k) place) = three refl refl refl
end_code (t.Syntax syntax.NoMemory place) = seven refl refl
end_code t.NoMemory = seven refl refl

source_file : (text : List ℕ) (unread : Unread) → reads_source.Refuses text (t.File unread) → ⊥
source_file text unread (inl h) = h
source_file text unread (inr h) = elim h.2 [ inl x ↦ x | inr y ↦ y.2 ]

design_failed : (before after : ShelfState) (c : Contract) (name : List ℕ) → (reads_design run_limits before after).Refuses c (t.File (u.Failed name)) → Rose before.faults after.faults
design_failed before after c name (inl (inl h)) = h.1
design_failed before after c name (inl (inr h)) = absurd h.2
design_failed before after c name (inr h) = absurd (source_file h.0 (u.Failed name) h.2)

failed : (before after : ShelfState) (file name : List ℕ) → IsEnd before after file (t.File (u.Failed name)) → Rose before.faults after.faults
failed before after file name (inl (inl h)) = h.1
failed before after file name (inl (inr h)) = absurd h.2
failed before after file name (inr h) = design_failed before after h.0 name h.2

pub failed_as : (before after : ShelfState) (file name : List ℕ) (e : Ended) → e ≡ t.File (u.Failed name) → IsEnd before after file e → Rose before.faults after.faults
failed_as before after file name e is h = failed before after file name (subst (λ z. IsEnd before after file z) is h)
