use Rattle.std.proofs.Common.{◌≡◌, ℕ, ◌<◌, ◌++◌, ◌∷◌, [], List, take, get_or, length, replicate, refl, sym, ◌∙◌, ap, subst, arith}
use Rattle.std.specs.Prelude.{Some, slice_get}
use Rattle.std.proofs.lemmas.List.{take_more}
use Rattle.std.proofs.lemmas.Option.{get_or_from_slice_get}
use Rattle.lv_clauses.specs.Literals.{Lit, IsClause, IsWithin}
use Rattle.lv_trail.proofs.Adding.{are-clauses-push, fresh, number}
use Rattle.lv_trail.proofs.store.Store.new.Goals as goal

pub loop-id-preserved : goal.loop-id-preserved
loop-id-preserved c =
    let cs : List (List Lit) = c.args.set.now.clauses in
    let k : ℕ = c.loop-id.id in
    let d : List Lit = c.lits.result.now in
    let same : d ≡ c.clause.result.now = c.lits.ensures.value in
    let below : k < length cs = omega (arith, c.loop-id.invariant.count) in
    let at : slice_get cs k ≡ Some c.clause.result.now = number cs k ∙ c.clause.ensures.value in
    let is : get_or cs k [] ≡ d = get_or_from_slice_get cs k c.clause.result.now [] at ∙ sym same in
    rw c.in_ok-push.ensures.ok (record {
      copied = ap (λ z. z ++ d ∷ []) c.loop-id.invariant.copied ∙ (ap (λ z. take k cs ++ z ∷ []) (sym is) ∙ sym (take_more cs k [] below));
      count = c.loop-id.invariant.count;
      are = are-clauses-push c.vars-vars.result c.loop-id.clauses d c.loop-id.invariant.are (subst IsClause (sym same) c.clause.ensures.sorted) (subst (λ z. IsWithin z c.vars-vars.result) (sym same) (subst (λ z. IsWithin c.clause.result.now z) (sym c.vars-vars.ensures) c.clause.ensures.within));
    })

pub returns-clause-sound : goal.returns-clause-sound
returns-clause-sound c = fresh _ refl refl (c.in_ok-slots.ensures.items_if_clones_equal (λ y e. e) ∙ ap (λ z. replicate c.vars-vars.result z) c.no_entry-none.ensures) (c.in_ok-places.ensures.items_if_clones_equal (λ y e. e)) c.loop-id.invariant.are
