use Rattle.std.proofs.Common.{◌≡◌, ◌+◌, ◌≤◌, List, map, length, sym, ap, ◌∙◌, arith}
use Rattle.lv_scopes.specs.NameLists.{listed}
use Rattle.lv_source.proofs.Bridges.{two}
use Rattle.lv_bindings.specs.declared.order.Standing.{Standing}
use Rattle.lv_bindings.specs.declared.group.Group.{Group}
use Rattle.lv_bindings.specs.Order.{outside, seen}
use Rattle.lv_bindings.specs.Tables.{assigned, plain_bindings}
use Rattle.lv_bindings.proofs.BoundLaws.{table_in}
use Rattle.lv_declared.specs.Listing.{all_declared}
use Rattle.lv_bindings.proofs.OrderLaws.{few}
use Rattle.lv_bindings.proofs.ScopeLaws.{signals_in}
use Rattle.lv_bindings.proofs.scope.name_scope.Goals as goal

pub bindings_of-requires : goal.bindings_of-requires
bindings_of-requires c =
    let l : length c.in_ok-signals.signals.items ≤ length c.args.declarations.now =
    few (listed c.args.groups.names) (outside c.args.around.now) c.args.declarations.now c.args.symbols.now c.in_ok-signals.signals.items c.in_ok-signals.ensures in
    let e : length c.as_slice-2.result.now ≡ length c.in_ok-signals.signals.items = ap length c.as_slice-2.ensures.value in
    let r = c.requires.numbers in
    omega (arith, l, e, r)

pub returns-clause-signals : goal.returns-clause-signals
returns-clause-signals c =
    signals_in (outside c.args.around.now) (all_declared c.args.declarations.now) c.args.symbols.now (listed c.args.groups.names) c.in_ok-signals.signals.items
    c.in_ok-signals.ensures

pub returns-clause-table : goal.returns-clause-table
returns-clause-table c =
    table_in (outside c.args.around.now) (all_declared c.args.declarations.now) c.args.symbols.now c.args.groups c.args.first
    (record { table = record { names = c.into_names.result; bindings = c.in_ok-bindings.bindings }; signals = c.in_ok-signals.signals }) c.requires.grouped (record {
      names = ap listed c.into_names.ensures;
      signals = c.in_ok-signals.ensures;
      bindings =
          c.in_ok-bindings.ensures ∙
          two (λ (us : List Standing) (gs : List Group). assigned c.args.first (map seen us) (plain_bindings c.args.symbols.now gs)) _ _ _ _
          c.as_slice-2.ensures.value c.as_slice.ensures.value;
    })
