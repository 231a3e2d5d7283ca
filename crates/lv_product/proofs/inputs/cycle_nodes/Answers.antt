use Rattle.std.proofs.Common.{◌≡◌, ◌∙◌, ◌++◌, ◌∷◌, [], List, ap, refl, arith}
use Rattle.lv_unroll.specs.declared.copies.Nodes.{Nodes}
use Rattle.lv_product.specs.Opening.{ranges, lists_of}
use Rattle.lv_product.proofs.Opened.{ranges_step, run_room, next_run, first_run}
use Rattle.lv_product.proofs.inputs.cycle_nodes.Goals as goal

pub loop-k-init : goal.loop-k-init
loop-k-init c = record { lists = ap lists_of c.new-nodes.ensures.items; at_is = first_run c.args.from c.args.count }

pub range-requires : goal.range-requires
range-requires c = run_room c.args.from c.args.count c.args.cycles c.loop-k._k c.loop-k.at c.requires c.loop-k.invariant.at_is (omega arith)

pub overflow_add-at : goal.overflow_add-at
overflow_add-at c = omega (arith, run_room c.args.from c.args.count c.args.cycles c.loop-k._k c.loop-k.at c.requires c.loop-k.invariant.at_is (omega arith))

pub loop-k-preserved : goal.loop-k-preserved
loop-k-preserved c =
    let one : Nodes = record { list = c.in_ok-list.list } in
    record {
      lists = ranges_step c.args.from c.args.count c.loop-k.at c.loop-k._k c.in_ok-list.list.items c.loop-k.nodes.items c.push_reserved.new.self.items one
          c.in_ok-list.ensures refl c.loop-k.invariant.at_is (c.push_reserved.ensures.items ∙
          ap (λ (xs : List Nodes). xs ++ one ∷ []) c.reserve.ensures.items) c.loop-k.invariant.lists;
      at_is = next_run c.args.from c.args.count c.loop-k._k c.loop-k.at c.loop-k.invariant.at_is;
    }

pub returns : goal.returns
returns c =
    let e : c.loop-k._k ≡ c.args.cycles = omega arith in
    c.loop-k.invariant.lists ∙ ap (ranges c.args.from c.args.count) e
