use Rattle.std.proofs.Common.{◌≡◌, ◌+◌, ◌≤◌, inl, inr, arith, true, false, List, map, length, get_or, Some, refl, sym, ap, ◌∙◌, subst}
use Rattle.std.specs.Prelude.{slice_get, Contains}
use Rattle.lv_source.specs.ScopeRules.{duplicates}
use Rattle.lv_declared.specs.declared.declaration.Declaration.{Declaration as Code}
use Rattle.std.proofs.lemmas.List.{length-map}
use Rattle.lv_source.specs.Declarations.{Declaration}
use Rattle.lv_declared.specs.Listing.{declared}
use Rattle.lv_bindings.specs.Grouping.{group_for, is_parameter_again}
use Rattle.lv_bindings.proofs.Lists.{read-at, below-next}
use Rattle.lv_bindings.proofs.OnceLaws.{are_once, once_told}
use Rattle.lv_bindings.proofs.unique.once.Goals as goal

pub returns-then-is_again-clause-some : goal.returns-then-is_again-clause-some
returns-then-is_again-clause-some c = λ s e.
    (let ds : List Declaration = map declared c.args.declarations.now in
    let d : Declaration = declared c.index-declarations-index.result in
    let r : slice_get ds c.loop-index.index ≡ Some d =
    read-at declared c.args.declarations.now c.loop-index.index c.index-declarations-index.result c.loop-index-test.true
    c.index-declarations-index.is in
    subst (λ (z : Code). Contains (duplicates s) z.name.now.place) c.index-declarations-index.is
    (once_told s ds c.loop-index.index d e r
    (ap (λ o. is_parameter_again o c.loop-index.index) (sym (c.at.ensures ds d c.requires r)) ∙ sym c.is_again.ensures ∙ c.if-is_again.true)))

pub loop-index-preserved : goal.loop-index-preserved
loop-index-preserved c = λ k d l r. elim (below-next k c.loop-index.index l) [
  | inl m ↦ c.loop-index.invariant k d m r
  | inr e ↦
      ap (is_parameter_again (group_for (map declared c.args.declarations.now) d.name.name)) e ∙
      ap (λ o. is_parameter_again o c.loop-index.index)
      (sym (c.at.ensures (map declared c.args.declarations.now) d c.requires (ap (slice_get (map declared c.args.declarations.now)) (sym e) ∙ r))) ∙
      sym c.is_again.ensures ∙ c.if-is_again.false
]

pub returns-clause-none : goal.returns-clause-none
returns-clause-none c = λ e.
    are_once (map declared c.args.declarations.now) c.loop-index.index
    (let n : length (map declared c.args.declarations.now) ≡ length c.args.declarations.now = length-map c.args.declarations.now declared in
    let l : length c.args.declarations.now ≤ c.loop-index.index = c.loop-index-test.false in omega arith) c.loop-index.invariant
