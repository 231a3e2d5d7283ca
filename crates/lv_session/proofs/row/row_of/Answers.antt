use Rattle.std.proofs.Common.{ℕ, ◌≡◌, get_or, inl, inr, arith, sym, ◌∙◌, ap, subst}
use Rattle.std.proofs.lemmas.Bool.{cases_eq}
use Rattle.std.proofs.lemmas.Option.{slice_get_within, get_or_from_slice_get}
use Rattle.lv_session.specs.Keeping.{IsUse}
use Rattle.lv_session.proofs.Keeping.{use-more}
use Rattle.lv_session.proofs.row.row_of.Goals as goal

pub loop-hint-preserved : goal.loop-hint-preserved
loop-hint-preserved c =
    let hints = c.args.hints.now in
    let k : ℕ = c.loop-hint.hint-index in
    record {
      len = c.use_hint.ensures.len;
      uses = λ p h below at.
          elim (cases_eq p k) [
            | inl here ↦
                let is : get_or hints k 0 ≡ h = ap (λ z. get_or hints z 0) (sym here) ∙ get_or_from_slice_get hints p h 0 at in
                subst (λ z. IsUse c.args.n c.args.m c.args.rows.now z c.use_hint.new.row) is c.use_hint.ensures.hint
            | inr ne ↦ use-more c.args.n c.args.m c.args.rows.now h c.loop-hint.row c.use_hint.new.row c.use_hint.ensures.more (c.loop-hint.invariant.uses p h (omega (arith, ne)) at)
          ];
    }

pub returns-clause-uses : goal.returns-clause-uses
returns-clause-uses c = λ p h at. c.loop-hint.invariant.uses p h (omega (arith, slice_get_within c.args.hints.now p h at)) at
