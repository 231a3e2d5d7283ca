use Rattle.std.proofs.Common.{◌≡◌, List, Option, Some, map, sym, ap, ◌∙◌}
use Rattle.std.specs.Prelude.{slice_get}
use Rattle.std.specs.Option.{option_map}
use Rattle.lv_source.proofs.Bridges.{two}
use Rattle.lv_source.specs.Declarations.{Declaration}
use Rattle.lv_declared.specs.Listing.{declared}
use Rattle.lv_repeats.specs.Pairs.{one_range, completes_of, completes_by}
use Rattle.lv_repeats.proofs.pair.completes_other.Goals as goal

pub returns-in-Some-at : goal.returns-in-Some-at
returns-in-Some-at c =
    let ds : List Declaration = map declared c.args.declarations.now in
    let one : slice_get ds c.args.first ≡ Some (declared c.in-Some.one) = sym c.at.ensures ∙ ap (option_map declared) c.in-Some.is in
    let other : slice_get ds c.args.second ≡ Some (declared c.in-Some-at.other) = sym c.at-in-Some.ensures ∙ ap (option_map declared) c.in-Some-at.is in
    c.completes.ensures ∙
    ap (λ b. completes_by b (declared c.in-Some.one).thing (declared c.in-Some-at.other).thing) c.share_range-same.ensures ∙
    sym (two (λ (u v : Option Declaration). completes_of (one_range (slice_get c.args.symbols.now c.args.first) (slice_get c.args.symbols.now c.args.second)) u v)
    _ _ _ _ one other)
