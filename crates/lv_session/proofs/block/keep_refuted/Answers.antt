use Rattle.std.proofs.Common.{subst}
use Rattle.lv_session.specs.Session.{IsWider, IsBlocked}
use Rattle.lv_session.proofs.Keeping.{wider-both}
use Rattle.lv_session.proofs.Blocking.{blocked-part}
use Rattle.lv_session.proofs.block.keep_refuted.Goals as goal
use Rattle.lv_session.proofs.block.keep_refuted.Goals.{then-len-gt1+in_ok-is_blocked+then-not-branch+in_ok-short+in_default, else-len-gt1}

pub returns-in-Some-clause-blocked : goal.returns-in-Some-clause-blocked
returns-in-Some-clause-blocked c =
    let set = c.block.new.set in
    blocked-part c.args.assumed.now c.in_ok-core.core.lits.items set c.in_ok-core.ensures.core.part (subst (λ z. IsBlocked z set) c.deref-in-Some.ensures.value c.in_ok-block.ensures.blocked)

pub returns-clause-wider : goal.returns-clause-wider
returns-clause-wider c =
    let set = c.args.set.now in
    let learnt = c.learn.new.set in
    let new = c.block-2.new.set in
    elim c.if-len-gt1.branch [
      | then-len-gt1+in_ok-is_blocked+then-not-branch+in_ok-short+in_default w ↦
          let last = subst (λ z. IsWider z new) w.set-is c.block-2.ensures.wider in
          wider-both set learnt new c.learn.ensures.wider (wider-both learnt w.less.new.set new w.less.ensures.wider last)
      | else-len-gt1 w ↦ wider-both set learnt new c.learn.ensures.wider (subst (λ z. IsWider z new) w.set-is c.block-2.ensures.wider)
    ]

pub returns-in_err-block-clause-wider : goal.returns-in_err-block-clause-wider
returns-in_err-block-clause-wider c =
    let new = c.block.new.set in
    wider-both c.args.set.now c.learn.new.set new c.learn.ensures.wider (wider-both c.learn.new.set c.less.new.set new c.less.ensures.wider c.block.ensures.wider)

pub returns-in-Some-clause-wider : goal.returns-in-Some-clause-wider
returns-in-Some-clause-wider c =
    let new = c.block.new.set in
    wider-both c.args.set.now c.learn.new.set new c.learn.ensures.wider (wider-both c.learn.new.set c.less.new.set new c.less.ensures.wider c.block.ensures.wider)
