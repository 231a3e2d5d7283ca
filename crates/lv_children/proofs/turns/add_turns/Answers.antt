use Rattle.std.proofs.Common.{◌≤◌, ℕ, true, List, length, ◌∙◌, subst}
use Rattle.lv_headers.specs.Headers.{IsHeader}
use Rattle.lv_children.proofs.Loops.{loop_scopes}
use Rattle.lv_children.proofs.turns.add_turns.Goals as goal

pub returns-clause-right : goal.returns-clause-right
returns-clause-right g c = record {
  at = λ here w.
      let h : IsHeader here true c.args.index.now c.args.start.now c.args.test.now c.args.again.now c.args.next.now c.args.most c.in-Ok.values =
      (c.in-Ok.ensures.right.at here w).right in
      record {
        scopes = λ source s k same.
            loop_scopes source s k c.args.index.now c.args.start.now c.args.test.now c.args.again.now c.args.next.now c.args.label.now c.args.items.now here.names same
            c.args.into.now.items c.add.new.into.items c.as_slice.result.now (c.as_slice.ensures ∙ h.turns) c.in-Ok-add.ensures;
        few = subst (λ (ks : List ℕ). length ks ≤ c.args.most) h.turns h.few;
        faultless = h.faultless;
        named = h.named;
      };
}
