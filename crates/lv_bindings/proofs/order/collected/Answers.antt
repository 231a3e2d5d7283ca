use Rattle.std.proofs.Common.{◌≡◌, ◌+◌, ℕ, List, ◌++◌, Some, map, take, sym, ap, ◌∙◌}
use Rattle.std.specs.Prelude.{flat_map}
use Rattle.lv_source.specs.Declarations.{Declaration}
use Rattle.lv_source.specs.Parts.{numbered_from}
use Rattle.lv_scopes.specs.NameLists.{listed}
use Rattle.lv_declared.specs.declared.declaration.Declaration.{Declaration as Code}
use Rattle.lv_declared.specs.Listing.{declared}
use Rattle.lv_bindings.specs.Grouping.{Numbered}
use Rattle.lv_bindings.specs.Order.{Seen, seen, standing_at, outside}
use Rattle.lv_bindings.proofs.Lists.{read-at, numbered-step}
use Rattle.lv_bindings.proofs.order.collected.Goals as goal

pub loop-index-preserved : goal.loop-index-preserved
loop-index-preserved c =
    let ds : List Declaration = map declared c.args.declarations.now in
    let k : ℕ = c.loop-index.index in
    let x : Code = c.index-declarations-index.result in
    let at : Numbered → List Seen = standing_at (listed c.args.groups.now.names) (outside c.args.around.now) ds c.args.symbols.now in
    let added : map seen c.add.new.list.items ≡ map seen c.loop-index.list.items ++ at (k, declared x) =
    c.in_ok-add.ensures ds c.requires.grouped (read-at declared c.args.declarations.now k x c.loop-index-test.true c.index-declarations-index.is) in
    added ∙ ap (λ zs. zs ++ at (k, declared x)) c.loop-index.invariant ∙
    sym (numbered-step declared at c.args.declarations.now k x c.loop-index-test.true c.index-declarations-index.is)
