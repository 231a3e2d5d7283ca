use Rattle.std.proofs.Common.{ℕ, ◌+◌, ◌<◌, length, set, refl, sym, ap, subst, arith}
use Rattle.std.proofs.lemmas.Option.{slice_get-get_or}
use Rattle.lv_product.proofs.Shared.{sharing_step, sharing_kept, sharing_moved}
use Rattle.lv_product.proofs.sharing.shared.Goals as goal
use Rattle.lv_product.proofs.sharing.shared.Goals.{in-Some+in_ok-same+in_ok-all-2, in_default}

pub loop-k-preserved : goal.loop-k-preserved
loop-k-preserved c =
    elim c.match-equal_register.branch [
      | in-Some+in_ok-same+in_ok-all-2 w ↦
          sharing_moved c.args.graph.now c.args.b.now w.both.new.b c.match-equal_register.b c.args.candidates.now c.args.numbers.now c.args.left.now
          c.args.right.now
          (set c.loop-k.nodes.items w.in-Some.i w.at-x.result) c.match-equal_register.nodes.items (c.loop-k.k + 1) w.in_ok-all-2.all
          c.match-equal_register.all
          w.b-is (ap (λ v. v.items) w.nodes-is) w.all-is
          (sharing_step c.args.graph.now c.args.b.now c.loop-k.b w.equal.new.b w.both.new.b c.args.candidates.now c.args.numbers.now c.args.left.now
          c.args.right.now
          c.loop-k.nodes.items (set c.loop-k.nodes.items w.in-Some.i w.at-x.result) c.loop-k.k c.loop-k.all c.at-number.result w.in-Some.i w.at-x.result
          w.at-y.result w.in_ok-same.same w.in_ok-all-2.all _
          c.requires.left c.requires.right (omega arith) c.at-number.ensures
          (slice_get-get_or c.args.candidates.now c.at-number.result _ (subst (λ (j : ℕ). j < length c.args.candidates.now) (sym c.at-number.ensures)
          (c.requires.numbers c.loop-k.k 0 (omega arith))))
          w.in-Some.ensures w.at-x.ensures w.at-y.ensures refl c.loop-k.invariant w.in_ok-same.ensures w.in_ok-all-2.ensures)
      | in_default w ↦
          sharing_kept c.args.graph.now c.args.b.now c.loop-k.b c.match-equal_register.b c.args.candidates.now c.args.numbers.now c.args.left.now
          c.args.right.now c.loop-k.nodes.items c.match-equal_register.nodes.items c.loop-k.k c.loop-k.all c.match-equal_register.all
          w.b-is (ap (λ v. v.items) w.nodes-is) w.all-is c.loop-k.invariant
    ]
