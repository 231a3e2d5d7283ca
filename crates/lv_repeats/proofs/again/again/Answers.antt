use Rattle.std.proofs.Common.{◌≡◌, inl, inr, List, Some, None, map, sym, ap, ◌∙◌, subst}
use Rattle.std.specs.Prelude.{slice_get}
use Rattle.lv_source.specs.Declarations.{Declaration}
use Rattle.lv_source.proofs.Facts.{some_same}
use Rattle.lv_scopes.specs.NameLists.{listed}
use Rattle.lv_declared.specs.declared.declaration.Declaration.{Declaration as Code}
use Rattle.lv_declared.specs.Listing.{declared}
use Rattle.lv_repeats.specs.Pairs.{again_by, again_in}
use Rattle.lv_repeats.proofs.Lists.{read_over, below_next}
use Rattle.lv_repeats.proofs.again.again.Goals as goal

pub returns-in-Some : goal.returns-in-Some
returns-in-Some c =
    let ds : List Declaration = map declared c.args.declarations.now in
    let d : Declaration = declared c.index-declarations-index.result in
    let r : slice_get ds c.loop-index.index ≡ Some d =
    read_over declared c.args.declarations.now c.loop-index.index c.index-declarations-index.result c.loop-index-test.true c.index-declarations-index.is in
    record {
      at = c.loop-index.index;
      declaration = d;
      is = r;
      told = ap (again_by (listed c.args.names.now) ds c.args.symbols.now d.name.name) (sym (c.at.ensures ds d c.requires r)) ∙
          ap (λ (z : Code). again_by (listed c.args.names.now) ds c.args.symbols.now z.name.now.name c.at.result) c.index-declarations-index.is ∙
          sym c.again_of.ensures ∙ c.in-Some.is;
    }

pub loop-index-preserved : goal.loop-index-preserved
loop-index-preserved c =
    let ds : List Declaration = map declared c.args.declarations.now in
    let d : Declaration = declared c.index-declarations-index.result in
    let r : slice_get ds c.loop-index.index ≡ Some d =
    read_over declared c.args.declarations.now c.loop-index.index c.index-declarations-index.result c.loop-index-test.true c.index-declarations-index.is in
    let none : again_in (listed c.args.names.now) ds c.args.symbols.now d ≡ None =
    ap (again_by (listed c.args.names.now) ds c.args.symbols.now d.name.name) (sym (c.at.ensures ds d c.requires r)) ∙
    ap (λ (z : Code). again_by (listed c.args.names.now) ds c.args.symbols.now z.name.now.name c.at.result) c.index-declarations-index.is ∙
    sym c.again_of.ensures ∙ c.in-None.is in
    record {
      each = λ k e l h. elim (below_next k c.loop-index.index l) [
        | inl m ↦ c.loop-index.invariant.each k e m h
        | inr q ↦ subst (λ z. again_in (listed c.args.names.now) ds c.args.symbols.now z ≡ None)
            (some_same d e (sym r ∙ ap (slice_get ds) (sym q) ∙ h)) none
      ];
    }
