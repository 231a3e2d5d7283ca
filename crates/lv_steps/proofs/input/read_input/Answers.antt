use Rattle.std.proofs.Common.{inl, inr}
use Rattle.lv_steps.proofs.Chained.{design_passes, design_refuses}
use Rattle.lv_steps.proofs.input.read_input.Goals as goal

pub returns-in-Err-clause-refused : goal.returns-in-Err-clause-refused
returns-in-Err-clause-refused g c = inl c.in-Err.ensures.refused

pub returns-in-Err-design_of-clause-refused : goal.returns-in-Err-design_of-clause-refused
returns-in-Err-design_of-clause-refused g c =
    inr (
      c.in-Ok.contract,
      c.in-Ok.ensures.contract,
      design_refuses c.args.limits (g.H.Shelf.state c.args.shelf.now) (g.H.Shelf.state c.contract_of.new.shelf) (g.H.Shelf.state c.design_of.new.shelf) c.in-Ok.contract c.in-Err-design_of.ended
          c.in-Ok.ensures.goes c.in-Err-design_of.ensures.refused,
    )
