-- The arms of the functions that go over a tree.
use Rattle.std.proofs.Common.{sym, ◌∙◌, arith, refl, true}
use Rattle.lv_const.proofs.Lists.{first}
use Rattle.lv_const.specs.Constants.{names_of, entries_here}
use Rattle.lv_const.proofs.Arms as arm
use Rattle.lv_const.proofs.Declared.{entries-declared}
use Rattle.lv_const.proofs.SamePlaces.{same-first}
use Rattle.lv_const.proofs.expr.+constants.Goals as goal

pub own-returns-in-Lit : goal.own-returns-in-Lit
own-returns-in-Lit t c = record {
  at = λ here ok. arm.at-Lit here.early here.names c.args.joined _ _ _ c.in-Lit.is c.literal_own.ensures;
}

pub own-returns-in-None : goal.own-returns-in-None
own-returns-in-None t c = record {
  at = λ here ok. arm.at-none here.early here.names c.args.joined _ c.in-Name.path c.in-Name.selects c.in-Name.is (c.in-None.ensures ∙ ok.same c.in-Name.path);
}

pub own-returns-in-Some : goal.own-returns-in-Some
own-returns-in-Some t c = record {
  at = λ here ok. arm.at-some here.early here.names c.args.joined _ c.in-Name.path c.in-Name.selects _ c.in-Some.constant _ c.in-Name.is c.as_slice.ensures
      (c.in-Some.ensures ∙ ok.same c.in-Name.path) (c.own_pick.ensures.at here ok);
}

pub own-returns-in-Un : goal.own-returns-in-Un
own-returns-in-Un t c = record {
  at = λ here ok. arm.at-Un here.early here.names c.args.joined _ _ _ _ _ _ c.in-Un.is c.get.ensures (c.own.ensures.at here ok) c.unary_own.ensures;
}

pub own-returns-in-Bin : goal.own-returns-in-Bin
own-returns-in-Bin t c = record {
  at = λ here ok. arm.at-Bin here.early here.names c.args.joined _ _ _ _ _ _ _ _ _ c.in-Bin.is c.get-in-Bin.ensures c.get-in-Bin-2.ensures
      (c.own-left.ensures.at here ok) (c.own-in-Bin.ensures.at here ok) c.binary_own.ensures;
}

pub own-returns-in-Div : goal.own-returns-in-Div
own-returns-in-Div t c = record {
  at = λ here ok. arm.at-Div here.early here.names c.args.joined _ _ _ _ _ _ _ _ c.in-Div.is c.get-in-Div.ensures c.get-in-Div-2.ensures
      (c.own-left-in-Div.ensures.at here ok) (c.own-in-Div.ensures.at here ok) c.greater_own.ensures;
}

pub own-returns-in-Rem : goal.own-returns-in-Rem
own-returns-in-Rem t c = record {
  at = λ here ok. arm.at-Rem here.early here.names c.args.joined _ _ _ _ _ _ _ _ c.in-Rem.is c.get-in-Rem.ensures c.get-in-Rem-2.ensures
      (c.own-left-in-Rem.ensures.at here ok) (c.own-in-Rem.ensures.at here ok) c.greater_own-in-Rem.ensures;
}

pub own-returns-in-Cond : goal.own-returns-in-Cond
own-returns-in-Cond t c = record {
  at = λ here ok. arm.at-Cond here.early here.names c.args.joined _ _ _ _ _ _ _ _ _ _ _ c.in-Cond.is c.get-in-Cond.ensures c.get-in-Cond-2.ensures
      c.get-in-Cond-3.ensures (c.own-test.ensures.at here ok) (c.own-left-in-Cond.ensures.at here ok) (c.own-in-Cond.ensures.at here ok) c.chosen_own.ensures;
}

pub own-returns-in-Cat : goal.own-returns-in-Cat
own-returns-in-Cat t c = record {
  at = λ here ok. arm.at-Cat here.early here.names c.args.joined _ _ _ _ _ _ c.in-Cat.is c.as_slice-in-Cat.ensures
      (c.place_of.ensures ∙ same-first (names_of c.args.consts.now) here.names _) (c.widths.ensures.at here ok) c.joined_own.ensures;
}

pub own-returns-in-Rep : goal.own-returns-in-Rep
own-returns-in-Rep t c = record {
  at = λ here ok. arm.at-Rep here.early here.names c.args.joined _ _ _ _ _ _ _ _ c.in-Rep.is c.as_slice-in-Rep.ensures
      (c.place_of-place.ensures ∙ same-first (names_of c.args.consts.now) here.names _) (c.full-copies.ensures.at here ok)
      (c.widths-in-Rep.ensures.at here ok) c.repeated_own.ensures;
}

pub own-returns-in-Cast : goal.own-returns-in-Cast
own-returns-in-Cast t c = record {
  at = λ here ok. arm.at-Cast here.early here.names c.args.joined _ _ _ _ _ _ c.in-Cast.is c.get-in-Cast.ensures
      (c.own-in-Cast.ensures.at here ok) c.cast_own.ensures;
}

pub own_pick-returns-then-selects-eq0 : goal.own_pick-returns-then-selects-eq0
own_pick-returns-then-selects-eq0 t c = record {
  at = λ here ok. arm.own-whole here.early here.names c.args.path.now c.args.constant.now c.args.selects.now _
      (omega arith) c.whole_own.ensures.is c.whole_own.ensures.sized;
}

pub own_pick-returns-then-selects-ne1 : goal.own_pick-returns-then-selects-ne1
own_pick-returns-then-selects-ne1 t c = record {
  at = λ here ok. arm.own-many here.early here.names c.args.path.now c.args.constant.now c.args.selects.now (omega arith);
}

pub value_pick-returns-then-selects-eq0 : goal.value_pick-returns-then-selects-eq0
value_pick-returns-then-selects-eq0 t c = record {
  at = λ here ok. arm.full-whole here.early here.names c.args.path.now c.args.constant.now c.args.selects.now _
      (omega arith) c.whole_full.ensures.is c.whole_full.ensures.sized;
}

pub value_pick-returns-then-selects-ne1 : goal.value_pick-returns-then-selects-ne1
value_pick-returns-then-selects-ne1 t c = record {
  at = λ here ok. arm.full-many here.early here.names c.args.path.now c.args.constant.now c.args.selects.now (omega arith);
}

pub own_pick-returns-in-Bit : goal.own_pick-returns-in-Bit
own_pick-returns-in-Bit t c = record {
  at = λ here ok. arm.own-Bit here.early here.names c.args.path.now c.args.constant.now c.args.selects.now _ _ _ _ _
      (omega arith) c.index-selects-0.is c.in-Bit.is c.get.ensures (c.own.ensures.at here ok) c.bit_own.ensures;
}

pub own_pick-returns-in-Part : goal.own_pick-returns-in-Part
own_pick-returns-in-Part t c = record {
  at = λ here ok. arm.own-Part here.early here.names c.args.path.now c.args.constant.now c.args.selects.now _ _ _ _ _ _
      (omega arith) c.index-selects-0.is c.in-Part.is (c.full-left.ensures.at here ok) (c.full-right.ensures.at here ok) c.part_own.ensures;
}

pub own_pick-returns-in-Up : goal.own_pick-returns-in-Up
own_pick-returns-in-Up t c = record {
  at = λ here ok. arm.own-Up here.early here.names c.args.path.now c.args.constant.now c.args.selects.now _ _ _ _ _ _ _
      (omega arith) c.index-selects-0.is c.in-Up.is c.get-in-Up.ensures (c.own-from.ensures.at here ok) (c.full.ensures.at here ok) c.run_own.ensures;
}

pub own_pick-returns-in-Down : goal.own_pick-returns-in-Down
own_pick-returns-in-Down t c = record {
  at = λ here ok. arm.own-Down here.early here.names c.args.path.now c.args.constant.now c.args.selects.now _ _ _ _ _ _ _
      (omega arith) c.index-selects-0.is c.in-Down.is c.get-in-Down.ensures (c.own-from-in-Down.ensures.at here ok)
      (c.full-in-Down.ensures.at here ok) c.run_own-in-Down.ensures;
}

pub value_pick-returns-in-Bit : goal.value_pick-returns-in-Bit
value_pick-returns-in-Bit t c = record {
  at = λ here ok. arm.full-Bit here.early here.names c.args.path.now c.args.constant.now c.args.selects.now _ _ _ _
      (omega arith) c.index-selects-0.is c.in-Bit.is (c.full.ensures.at here ok) c.bit_full.ensures;
}

pub value_pick-returns-in-Part : goal.value_pick-returns-in-Part
value_pick-returns-in-Part t c = record {
  at = λ here ok. arm.full-Part here.early here.names c.args.path.now c.args.constant.now c.args.selects.now _ _ _ _ _ _
      (omega arith) c.index-selects-0.is c.in-Part.is (c.full-left.ensures.at here ok) (c.full-right.ensures.at here ok) c.part_full.ensures;
}

pub value_pick-returns-in-Up : goal.value_pick-returns-in-Up
value_pick-returns-in-Up t c = record {
  at = λ here ok. arm.full-Up here.early here.names c.args.path.now c.args.constant.now c.args.selects.now _ _ _ _ _ _
      (omega arith) c.index-selects-0.is c.in-Up.is (c.full-from.ensures.at here ok) (c.full-count.ensures.at here ok) c.up_full.ensures;
}

pub value_pick-returns-in-Down : goal.value_pick-returns-in-Down
value_pick-returns-in-Down t c = record {
  at = λ here ok. arm.full-Down here.early here.names c.args.path.now c.args.constant.now c.args.selects.now _ _ _ _ _ _
      (omega arith) c.index-selects-0.is c.in-Down.is (c.full-from-in-Down.ensures.at here ok) (c.full-count-in-Down.ensures.at here ok) c.down_full.ensures;
}

pub value-returns-in-Lit : goal.value-returns-in-Lit
value-returns-in-Lit t c = record {
  at = λ here ok. arm.value-Lit here.early here.names c.args.joined c.args.reach _ _ _ _ c.in-Lit.is c.requires c.literal_full.ensures c.placed.ensures;
}

pub value-returns-in-None : goal.value-returns-in-None
value-returns-in-None t c = record {
  at = λ here ok. arm.value-none here.early here.names c.args.joined c.args.reach _ c.in-Name.path c.in-Name.selects c.in-Name.is
      (c.in-None.ensures ∙ ok.same c.in-Name.path);
}

pub value-returns-in-Some : goal.value-returns-in-Some
value-returns-in-Some t c = record {
  at = λ here ok. arm.value-some here.early here.names c.args.joined c.args.reach _ c.in-Name.path c.in-Name.selects _ c.in-Some.constant _ _ c.in-Name.is
      c.as_slice.ensures (c.in-Some.ensures ∙ ok.same c.in-Name.path) c.requires (c.value_pick.ensures.at here ok) c.placed-in-Some.ensures;
}

pub value-returns-in-Cast : goal.value-returns-in-Cast
value-returns-in-Cast t c = record {
  at = λ here ok. arm.value-Cast here.early here.names c.args.joined c.args.reach _ _ _ _ _ _ c.in-Cast.is c.requires
      (c.full-in-Cast.ensures.at here ok) c.cast_full.ensures c.placed-in-Cast.ensures;
}

pub value-returns-then-keeps_width : goal.value-returns-then-keeps_width
value-returns-then-keeps_width t c = record {
  at = λ here ok. arm.value-Un_kept here.early here.names c.args.joined c.args.reach _ _ _ _ _ _ c.in-Un.is c.get.ensures
      (sym c.keeps_width.ensures ∙ c.if-keeps_width.true) (c.value.ensures.at here ok) c.unary_kept.ensures;
}

pub value-returns-else-keeps_width : goal.value-returns-else-keeps_width
value-returns-else-keeps_width t c = record {
  at = λ here ok. arm.value-Un_bit here.early here.names c.args.joined c.args.reach _ _ _ _ _ _ c.in-Un.is c.requires
      (sym c.keeps_width.ensures ∙ c.if-keeps_width.false) (c.full-part.ensures.at here ok) c.unary_bit.ensures c.placed-else-keeps_width.ensures;
}

pub value-returns-in-Bin : goal.value-returns-in-Bin
value-returns-in-Bin t c = record {
  at = λ here ok. arm.value-Bin here.early here.names c.args.joined c.args.reach _ _ _ _ _ c.in-Bin.is (c.binary.ensures.at here ok c.args.joined);
}

pub binary-returns-then-keeps_width : goal.binary-returns-then-keeps_width
binary-returns-then-keeps_width t c = record {
  at = λ here ok joined. arm.value-shift here.early here.names joined c.args.reach c.args.op c.args.a.now c.args.b.now _ _ _ _ c.get.ensures
      (sym c.keeps_width.ensures ∙ c.if-keeps_width.true) (sym c.is_apart.ensures ∙ c.if-is_apart.true)
      (c.value.ensures.at here ok) (c.full-right.ensures.at here ok) c.shifted.ensures;
}

pub binary-returns-else-keeps_width : goal.binary-returns-else-keeps_width
binary-returns-else-keeps_width t c = record {
  at = λ here ok joined. arm.value-logical here.early here.names joined c.args.reach c.args.op c.args.a.now c.args.b.now _ _ _ _ c.requires
      (sym c.keeps_width.ensures ∙ c.if-keeps_width.false) (sym c.is_apart.ensures ∙ c.if-is_apart.true) (c.full-left.ensures.at here ok)
      (c.full-right.ensures.at here ok) c.logical.ensures c.placed.ensures;
}

pub binary-returns-then-keeps_width-2 : goal.binary-returns-then-keeps_width-2
binary-returns-then-keeps_width-2 t c = record {
  at = λ here ok joined. arm.value-arithmetic here.early here.names joined c.args.reach c.args.op c.args.a.now c.args.b.now _ _
      (sym c.keeps_width-else-is_apart.ensures ∙ c.if-keeps_width-2.true) (sym c.is_apart.ensures ∙ c.if-is_apart.false)
      (c.pair.ensures.at here ok) c.arithmetic.ensures;
}

pub binary-returns-else-keeps_width-2 : goal.binary-returns-else-keeps_width-2
binary-returns-else-keeps_width-2 t c = record {
  at = λ here ok joined. arm.value-compared here.early here.names joined c.args.reach c.args.op c.args.a.now c.args.b.now _ _ _ _ c.requires
      (sym c.keeps_width-else-is_apart.ensures ∙ c.if-keeps_width-2.false) (sym c.is_apart.ensures ∙ c.if-is_apart.false) c.alone.ensures
      (c.pair-else-keeps_width-2.ensures.at here ok) c.compared.ensures c.placed-else-keeps_width-2.ensures;
}

pub value-returns-in-Div : goal.value-returns-in-Div
value-returns-in-Div t c = record {
  at = λ here ok. arm.value-Div here.early here.names c.args.joined c.args.reach _ _ _ _ _ _ _ c.in-Div.is (c.pair.ensures.at here ok)
      (c.place_of.ensures ∙ same-first (names_of c.args.consts.now) here.names _) c.get-in-Div.ensures c.divided.ensures;
}

pub value-returns-in-Rem : goal.value-returns-in-Rem
value-returns-in-Rem t c = record {
  at = λ here ok. arm.value-Rem here.early here.names c.args.joined c.args.reach _ _ _ _ _ _ _ c.in-Rem.is (c.pair-in-Rem.ensures.at here ok)
      (c.place_of-in-Rem.ensures ∙ same-first (names_of c.args.consts.now) here.names _) c.get-in-Rem.ensures c.remains.ensures;
}

pub value-returns-in-Cond : goal.value-returns-in-Cond
value-returns-in-Cond t c = record {
  at = λ here ok. arm.value-Cond here.early here.names c.args.joined c.args.reach _ _ _ _ _ _ _ c.in-Cond.is (c.full.ensures.at here ok)
      (c.pair-in-Cond.ensures.at here ok) c.chosen.ensures;
}

pub value-returns-in-Cat : goal.value-returns-in-Cat
value-returns-in-Cat t c = record {
  at = λ here ok. arm.value-Cat here.early here.names c.args.joined c.args.reach _ _ _ _ _ _ _ c.in-Cat.is c.requires c.as_slice-in-Cat.ensures
      (c.place_of-place.ensures ∙ same-first (names_of c.args.consts.now) here.names _)
      (c.values-word.ensures.at here ok) c.joined_full.ensures c.placed-in-Cat.ensures;
}

pub value-returns-in-Rep : goal.value-returns-in-Rep
value-returns-in-Rep t c = record {
  at = λ here ok. arm.value-Rep here.early here.names c.args.joined c.args.reach _ _ _ _ _ _ _ _ _ c.in-Rep.is c.requires c.as_slice-in-Rep.ensures
      (c.place_of-place-in-Rep.ensures ∙ same-first (names_of c.args.consts.now) here.names _) (c.full-copies.ensures.at here ok)
      (c.values-word-in-Rep.ensures.at here ok) c.repeated_full.ensures c.placed-in-Rep.ensures;
}

pub pair-returns-in-Err : goal.pair-returns-in-Err
pair-returns-in-Err t c = record {
  at = λ here ok. arm.left-wrong here.early here.names c.args.a.now c.args.b.now c.args.reach _ _ c.get-then-weight.ensures (c.in-Err.ensures.at here ok).wrong;
}

pub pair-returns-in-Err-value : goal.pair-returns-in-Err-value
pair-returns-in-Err-value t c = record {
  at = λ here ok. arm.left-right_wrong here.early here.names c.args.a.now c.args.b.now c.args.reach _ _ _ _ _ c.get-then-weight.ensures c.get-in-Ok.ensures
      c.spread.ensures.is (c.in-Ok.ensures.at here ok).right (c.in-Err-value.ensures.at here ok).wrong;
}

pub pair-returns-in-Ok-value : goal.pair-returns-in-Ok-value
pair-returns-in-Ok-value t c = record {
  at = λ here ok. arm.left-paired here.early here.names c.args.a.now c.args.b.now c.args.reach _ _ _ _ _ _ _ _ _ _ c.get-then-weight.ensures
      c.get-in-Ok.ensures c.get-in-Ok-value.ensures c.spread.ensures.is c.held-right.ensures.reach c.held-right.ensures.same (c.in-Ok.ensures.at here ok).right
      (c.in-Ok-value.ensures.at here ok).right (c.value-in-Ok-value.ensures.at here ok) c.paired.ensures;
}

pub pair-returns-in-Err-own : goal.pair-returns-in-Err-own
pair-returns-in-Err-own t c = record {
  at = λ here ok. arm.right-wrong here.early here.names c.args.a.now c.args.b.now c.args.reach _ _ c.get-else-weight.ensures
      (c.in-Err-own.ensures.at here ok).wrong;
}

pub pair-returns-in-Err-value-2 : goal.pair-returns-in-Err-value-2
pair-returns-in-Err-value-2 t c = record {
  at = λ here ok. arm.right-left_wrong here.early here.names c.args.a.now c.args.b.now c.args.reach _ _ _ _ _ c.get-else-weight.ensures
      c.get-in-Ok-own.ensures c.spread-in-Ok-own.ensures.is (c.in-Ok-own.ensures.at here ok).right (c.in-Err-value-2.ensures.at here ok).wrong;
}

pub pair-returns-in-Ok-value-2 : goal.pair-returns-in-Ok-value-2
pair-returns-in-Ok-value-2 t c = record {
  at = λ here ok. arm.right-paired here.early here.names c.args.a.now c.args.b.now c.args.reach _ _ _ _ _ _ _ _ _ _ c.get-else-weight.ensures
      c.get-in-Ok-own.ensures c.get-in-Ok-value-2.ensures c.spread-in-Ok-own.ensures.is c.held-left.ensures.reach c.held-left.ensures.same
      (c.in-Ok-own.ensures.at here ok).right (c.in-Ok-value-2.ensures.at here ok).right
      (c.value-in-Ok-value-2.ensures.at here ok) c.paired-in-Ok-value-2.ensures;
}

pub full-returns : goal.full-returns
full-returns t c = record {
  at = λ here ok. arm.at-full here.early here.names _ _ _ _ c.get.ensures c.alone.ensures (c.value.ensures.at here ok);
}

pub values-returns-in-Err : goal.values-returns-in-Err
values-returns-in-Err t c = record {
  at = λ here ok. arm.joint_wrong here.early here.names c.args.exprs.now c.loop-expr.expr-index c.expr-item.result c.args.place c.loop-expr.joint _ _ _
      c.loop-expr-test.true (sym c.expr-item.is) (c.loop-expr.invariant.at here ok) c.alone.ensures (c.value-operand.ensures.at here ok) (sym c.in-Err.ensures);
}

pub values-loop-expr-preserved : goal.values-loop-expr-preserved
values-loop-expr-preserved t c = record {
  at = λ here ok. arm.joint_more here.early here.names c.args.exprs.now c.loop-expr.expr-index c.expr-item.result c.args.place c.loop-expr.joint _ _ _
      c.loop-expr-test.true (sym c.expr-item.is) (c.loop-expr.invariant.at here ok) c.alone.ensures (c.value-operand.ensures.at here ok) (sym c.in-Ok.ensures);
}

pub values-returns-in-None : goal.values-returns-in-None
values-returns-in-None t c = record {
  at = λ here ok. arm.joint_none here.early here.names c.args.exprs.now c.loop-expr.expr-index c.args.place c.loop-expr.joint (omega arith) c.in-None.is
      (c.loop-expr.invariant.at here ok);
}

pub values-returns-in-Some : goal.values-returns-in-Some
values-returns-in-Some t c = record {
  at = λ here ok. arm.joint_all here.early here.names c.args.exprs.now c.loop-expr.expr-index c.args.place c.loop-expr.joint _ (omega arith) c.in-Some.is
      (c.loop-expr.invariant.at here ok);
}

pub values-loop-expr-init : goal.values-loop-expr-init
values-loop-expr-init t c = record {
  at = λ here ok. first refl;
}

pub widths-returns-in-Err : goal.widths-returns-in-Err
widths-returns-in-Err t c = record {
  at = λ here ok. arm.at-widths_wrong here.early here.names c.args.exprs.now c.loop-expr.expr-index c.expr-item.result _ c.loop-expr-test.true
      (sym c.expr-item.is) (c.in-Err.ensures.at here ok).wrong;
}

pub widths-loop-expr-preserved : goal.widths-loop-expr-preserved
widths-loop-expr-preserved t c = record {
  at = λ here ok. arm.at-widths_more here.early here.names c.args.exprs.now c.loop-expr.expr-index c.expr-item.result _ _ c.loop-expr-test.true
      (sym c.expr-item.is) (c.loop-expr.invariant.at here ok) (c.in-Ok.ensures.at here ok).right;
}

pub binary-arithmetic-requires : goal.binary-arithmetic-requires
binary-arithmetic-requires t c = arm.pair-same (λ p. true) (names_of c.args.consts.now) _ _ _ _
    (c.pair.ensures.at (entries_here c.args.consts.now) (entries-declared c.args.consts.now))

pub binary-compared-requires : goal.binary-compared-requires
binary-compared-requires t c = arm.pair-same (λ p. true) (names_of c.args.consts.now) _ _ _ _
    (c.pair-else-keeps_width-2.ensures.at (entries_here c.args.consts.now) (entries-declared c.args.consts.now))

pub value-divided-requires : goal.value-divided-requires
value-divided-requires t c = arm.pair-same (λ p. true) (names_of c.args.consts.now) _ _ _ _
    (c.pair.ensures.at (entries_here c.args.consts.now) (entries-declared c.args.consts.now))

pub value-remains-requires : goal.value-remains-requires
value-remains-requires t c = arm.pair-same (λ p. true) (names_of c.args.consts.now) _ _ _ _
    (c.pair-in-Rem.ensures.at (entries_here c.args.consts.now) (entries-declared c.args.consts.now))

pub pair-spread-requires : goal.pair-spread-requires
pair-spread-requires t c = arm.spread-most c.in-Ok.light.width c.args.reach.least
    (c.in-Ok.ensures.at (entries_here c.args.consts.now) (entries-declared c.args.consts.now)).right.most c.requires

pub pair-spread-requires-in-Ok-own : goal.pair-spread-requires-in-Ok-own
pair-spread-requires-in-Ok-own t c = arm.spread-most c.in-Ok-own.light.width c.args.reach.least
    (c.in-Ok-own.ensures.at (entries_here c.args.consts.now) (entries-declared c.args.consts.now)).right.most c.requires

pub widths-overflow_add-total : goal.widths-overflow_add-total
widths-overflow_add-total t c = omega (
  arith,
  arm.widths-most (λ p. true) (names_of c.args.consts.now) c.args.exprs.now c.loop-expr.expr-index c.loop-expr.total
      (c.loop-expr.invariant.at (entries_here c.args.consts.now) (entries-declared c.args.consts.now)),
  (c.in-Ok.ensures.at (entries_here c.args.consts.now) (entries-declared c.args.consts.now)).right.most,
)
