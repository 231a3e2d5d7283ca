use Rattle.std.proofs.Common.{◌≡◌, refl, true, arith, sym, ◌∙◌}
use Rattle.std.specs.Prelude.{slice_get, length, Some}
use Rattle.std.proofs.lemmas.Bool.{true≢false}
use Rattle.std.proofs.lemmas.Option.{slice_get_read, slice_get_within}
use Rattle.lv_clauses.specs.Literals.{Lit}
use Rattle.lv_clauses.proofs.Lists.{get-taken}
use Rattle.lv_session.proofs.Keeping.{apart-step}
use Rattle.lv_session.proofs.session.are_apart.Goals as goal

pub loop-k-preserved : goal.loop-k-preserved
loop-k-preserved c =
    let lits = c.args.lits.now in
    let x : Lit = c.index-lits-k.result in
    let at : slice_get lits c.loop-k.k ≡ Some x = slice_get_read lits (length lits) c.loop-k.k x refl (omega arith) c.index-lits-k.is in
    apart-step lits c.loop-k.k x at
    (λ i a below at_a e.
    let yes : c.has_var.result ≡ true = c.has_var.ensures.1 (i, a, get-taken lits c.loop-k.k i below ∙ at_a, e ∙ sym c.var.ensures.is) in
    true≢false (sym yes ∙ c.if-has_var.false))
    c.loop-k.invariant

pub returns : goal.returns
returns c = (
  λ yes i j a b at_a at_b e.
      let lits = c.args.lits.now in
      c.loop-k.invariant i j a b (omega (arith, slice_get_within lits i a at_a)) (omega (arith, slice_get_within lits j b at_b)) at_a at_b e,
  λ apart. refl,
)
