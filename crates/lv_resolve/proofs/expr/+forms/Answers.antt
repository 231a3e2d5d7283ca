-- The functions over a tree, arm by arm.
use Rattle.std.proofs.Common.{ap, sym, refl, not, arith, true, Ok}
use Rattle.lv_source.specs.Sites.{walk}
use Rattle.lv_flat.specs.Signals.{declared_all}
use Rattle.lv_resolve.specs.Forms.{has_operands, read_sites}
use Rattle.lv_resolve.proofs.Arms as arm
use Rattle.lv_resolve.proofs.PartLaws as parts
use Rattle.lv_resolve.proofs.SelectArms as picks
use Rattle.lv_resolve.proofs.expr.+forms.Goals as goal

pub form-returns-in-Lit : goal.form-returns-in-Lit
form-returns-in-Lit g t c = record {
  at = λ here ok. arm.at-Lit (declared_all c.args.place.now.signals.now) here c.args.joined c.args.expr.now c.in-Lit.literal c.literal_form.result c.in-Lit.is c.literal_form.ensures.ok
      c.literal_form.ensures.err;
}

pub form-returns-in-Name : goal.form-returns-in-Name
form-returns-in-Name g t c = record {
  at = λ here ok. arm.at-Name (declared_all c.args.place.now.signals.now) here c.args.joined c.args.expr.now c.in-Name.path c.in-Name.selects _ c.name.result c.in-Name.is c.as_slice.ensures
      (c.name.ensures.at here ok);
}

pub form-returns-in-Err : goal.form-returns-in-Err
form-returns-in-Err g t c = record {
  at = λ here ok. arm.un-none (declared_all c.args.place.now.signals.now) here c.args.joined c.args.expr.now c.in-Un.op c.in-Un.a _ c.in-Err.error c.in-Un.is (ap not c.keeps_width.ensures)
      (c.in-Err.ensures.at here ok).wrong;
}

pub form-returns-in-Ok : goal.form-returns-in-Ok
form-returns-in-Ok g t c = record {
  at = λ here ok. arm.at-Un (declared_all c.args.place.now.signals.now) here c.args.joined c.args.expr.now c.in-Un.op c.in-Un.a _ c.in-Ok.a c.unary.result c.in-Un.is (ap not c.keeps_width.ensures)
      (c.in-Ok.ensures.at here ok).right c.unary.ensures.ok c.unary.ensures.err;
}

pub form-returns-in-Err-operands : goal.form-returns-in-Err-operands
form-returns-in-Err-operands g t c = record {
  at = λ here ok. arm.bin-none (declared_all c.args.place.now.signals.now) here c.args.joined c.args.expr.now c.in-Bin.op c.in-Bin.a c.in-Bin.b c.in-Err-operands.error c.in-Bin.is
      (c.in-Err-operands.ensures.at here ok).wrong;
}

pub form-returns-in-Ok-operands : goal.form-returns-in-Ok-operands
form-returns-in-Ok-operands g t c = record {
  at = λ here ok. arm.at-Bin (declared_all c.args.place.now.signals.now) here c.args.joined c.args.expr.now c.in-Bin.op c.in-Bin.a c.in-Bin.b c.in-Ok-operands.pair c.binary.result c.in-Bin.is
      (c.in-Ok-operands.ensures.at here ok).right c.binary.ensures.ok c.binary.ensures.err;
}

pub form-returns-in-Err-both : goal.form-returns-in-Err-both
form-returns-in-Err-both g t c = record {
  at = λ here ok. arm.div-none (declared_all c.args.place.now.signals.now) here c.args.joined c.args.expr.now c.in-Div.a c.in-Div.b c.in-Err-both.error c.in-Div.is
      (c.in-Err-both.ensures.at here ok).wrong;
}

pub form-returns-in-Ok-both : goal.form-returns-in-Ok-both
form-returns-in-Ok-both g t c = record {
  at = λ here ok. arm.at-Div (declared_all c.args.place.now.signals.now) here c.args.joined c.args.expr.now c.in-Div.a c.in-Div.b c.get.result.now c.get-in-Ok-both.result.now
      c.place_of-start.result c.place_of.result c.in-Ok-both.pair c.division.result c.in-Div.is
      c.get.ensures c.get-in-Ok-both.ensures c.place_of-start.ensures c.place_of.ensures (c.in-Ok-both.ensures.at here ok).right c.division.ensures.ok c.division.ensures.err;
}

pub form-returns-in-Err-both-2 : goal.form-returns-in-Err-both-2
form-returns-in-Err-both-2 g t c = record {
  at = λ here ok. arm.rem-none (declared_all c.args.place.now.signals.now) here c.args.joined c.args.expr.now c.in-Rem.a c.in-Rem.b c.in-Err-both-2.error c.in-Rem.is
      (c.in-Err-both-2.ensures.at here ok).wrong;
}

pub form-returns-in-Ok-both-2 : goal.form-returns-in-Ok-both-2
form-returns-in-Ok-both-2 g t c = record {
  at = λ here ok. arm.at-Rem (declared_all c.args.place.now.signals.now) here c.args.joined c.args.expr.now c.in-Rem.a c.in-Rem.b c.get-in-Ok-both-2.result.now c.get-in-Ok-both-2-2.result.now
      c.place_of-start-in-Ok-both-2.result c.place_of-in-Ok-both-2.result c.in-Ok-both-2.pair c.division-in-Ok-both-2.result c.in-Rem.is
      c.get-in-Ok-both-2.ensures c.get-in-Ok-both-2-2.ensures c.place_of-start-in-Ok-both-2.ensures c.place_of-in-Ok-both-2.ensures
      (c.in-Ok-both-2.ensures.at here ok).right c.division-in-Ok-both-2.ensures.ok c.division-in-Ok-both-2.ensures.err;
}

pub form-returns-in-Err-operand : goal.form-returns-in-Err-operand
form-returns-in-Err-operand g t c = record {
  at = λ here ok. arm.cond-first (declared_all c.args.place.now.signals.now) here c.args.joined c.args.expr.now c.in-Cond.c c.in-Cond.a c.in-Cond.b c.in-Err-operand.error c.in-Cond.is
      (c.in-Err-operand.ensures.at here ok).wrong;
}

pub form-returns-in-Err-operand-2 : goal.form-returns-in-Err-operand-2
form-returns-in-Err-operand-2 g t c = record {
  at = λ here ok. arm.cond-second (declared_all c.args.place.now.signals.now) here c.args.joined c.args.expr.now c.in-Cond.c c.in-Cond.a c.in-Cond.b c.in-Err-operand-2.error c.in-Cond.is
      (c.in-Err-operand-2.ensures.at here ok).wrong;
}

pub form-returns-in-Err-operand-3 : goal.form-returns-in-Err-operand-3
form-returns-in-Err-operand-3 g t c = record {
  at = λ here ok. arm.cond-third (declared_all c.args.place.now.signals.now) here c.args.joined c.args.expr.now c.in-Cond.c c.in-Cond.a c.in-Cond.b c.in-Err-operand-3.error c.in-Cond.is
      (c.in-Err-operand-3.ensures.at here ok).wrong;
}

pub form-returns-in-Ok-operand-3 : goal.form-returns-in-Ok-operand-3
form-returns-in-Ok-operand-3 g t c = record {
  at = λ here ok. arm.at-Cond (declared_all c.args.place.now.signals.now) here c.args.joined c.args.expr.now c.in-Cond.c c.in-Cond.a c.in-Cond.b c.in-Ok-operand.c c.in-Ok-operand-2.a
      c.in-Ok-operand-3.b c.choice.result c.in-Cond.is
      (c.in-Ok-operand.ensures.at here ok).right (c.in-Ok-operand-2.ensures.at here ok).right (c.in-Ok-operand-3.ensures.at here ok).right c.choice.ensures.ok c.choice.ensures.err;
}

pub form-returns-in-Err-members : goal.form-returns-in-Err-members
form-returns-in-Err-members g t c = record {
  at = λ here ok. arm.cat-none (declared_all c.args.place.now.signals.now) here c.args.joined c.args.expr.now c.in-Cat.parts _ c.in-Err-members.error c.in-Cat.is c.as_slice-in-Cat.ensures
      (c.in-Err-members.ensures.at here ok).wrong;
}

pub form-returns-in-Ok-members : goal.form-returns-in-Ok-members
form-returns-in-Ok-members g t c = record {
  at = λ here ok. arm.at-Cat (declared_all c.args.place.now.signals.now) here c.args.joined c.args.expr.now c.in-Cat.parts _ c.in-Ok-members.parts c.place_of-in-Ok-members.result
      c.concatenation.result c.in-Cat.is c.as_slice-in-Cat.ensures
      c.place_of-in-Ok-members.ensures (c.in-Ok-members.ensures.at here ok).right c.concatenation.ensures.ok c.concatenation.ensures.err;
}

pub form-returns-in-Err-fixed : goal.form-returns-in-Err-fixed
form-returns-in-Err-fixed g t c = record {
  at = λ here ok. arm.rep-first (declared_all c.args.place.now.signals.now) here c.args.joined c.args.expr.now c.in-Rep.count c.get-in-Rep.result.now c.in-Rep.parts c.in-Err-fixed.error c.in-Rep.is
      c.get-in-Rep.ensures (c.in-Err-fixed.ensures.at here ok).wrong;
}

pub form-returns-in-Err-members-2 : goal.form-returns-in-Err-members-2
form-returns-in-Err-members-2 g t c = record {
  at = λ here ok. arm.rep-second (declared_all c.args.place.now.signals.now) here c.args.joined c.args.expr.now c.in-Rep.count c.in-Rep.parts _ c.in-Err-members-2.error c.in-Rep.is
      c.as_slice-in-Ok-fixed.ensures (c.in-Err-members-2.ensures.at here ok).wrong;
}

pub form-returns-in-Ok-members-2 : goal.form-returns-in-Ok-members-2
form-returns-in-Ok-members-2 g t c = record {
  at = λ here ok. arm.at-Rep (declared_all c.args.place.now.signals.now) here c.args.joined c.args.expr.now c.in-Rep.count c.get-in-Rep.result.now c.in-Rep.parts _ c.in-Ok-fixed.count
      c.copies.result c.in-Ok-members-2.parts
      c.place_of-start-in-Ok-members-2.result c.repetition.result c.in-Rep.is c.get-in-Rep.ensures c.as_slice-in-Ok-fixed.ensures c.place_of-start-in-Ok-members-2.ensures
      (c.in-Ok-fixed.ensures.at here ok).right (c.in-Ok-members-2.ensures.at here ok).right c.copies.ensures c.repetition.ensures.ok c.repetition.ensures.err;
}

pub form-returns-in-Err-operand-4 : goal.form-returns-in-Err-operand-4
form-returns-in-Err-operand-4 g t c = record {
  at = λ here ok. arm.cast-none (declared_all c.args.place.now.signals.now) here c.args.joined c.args.expr.now c.in-Cast.signed c.in-Cast.a c.in-Err-operand-4.error c.in-Cast.is
      (c.in-Err-operand-4.ensures.at here ok).wrong;
}

pub form-returns-in-Ok-operand-4 : goal.form-returns-in-Ok-operand-4
form-returns-in-Ok-operand-4 g t c = record {
  at = λ here ok. arm.at-Cast (declared_all c.args.place.now.signals.now) here c.args.joined c.args.expr.now c.in-Cast.signed c.in-Cast.a c.in-Ok-operand-4.a c.cast.result c.in-Cast.is
      (c.in-Ok-operand-4.ensures.at here ok).right c.cast.ensures.ok c.cast.ensures.err;
}

pub operand-returns-in-Err : goal.operand-returns-in-Err
operand-returns-in-Err g t c = record {
  at = λ here ok. arm.operand-none (declared_all c.args.place.now.signals.now) here _ c.args.expr.now c.get.ensures c.args.full c.in-Err.error (c.in-Err.ensures.at here ok).wrong;
}

pub operand-returns-then-full : goal.operand-returns-then-full
operand-returns-then-full g t c = record {
  at = λ here ok. arm.at-full (declared_all c.args.place.now.signals.now) here _ c.args.expr.now c.get.ensures c.args.full c.if-full.true c.settled.result
      (c.settled.ensures (declared_all c.args.place.now.signals.now) here _ _ _ ok.constants (c.in-Ok.ensures.at here ok).right);
}

pub operand-returns-else-full : goal.operand-returns-else-full
operand-returns-else-full g t c = record {
  at = λ here ok. arm.at-kept (declared_all c.args.place.now.signals.now) here _ c.args.expr.now c.get.ensures c.args.full c.if-full.false _ (c.in-Ok.ensures.at here ok);
}

pub member-returns-in-Err : goal.member-returns-in-Err
member-returns-in-Err g t c = record {
  at = λ here ok. arm.member-none (declared_all c.args.place.now.signals.now) here c.args.expr.now c.in-Err.error (c.in-Err.ensures.at here ok).wrong;
}

pub member-returns-in-Ok : goal.member-returns-in-Ok
member-returns-in-Ok g t c = record {
  at = λ here ok. c.settled.ensures (declared_all c.args.place.now.signals.now) here (read_sites true (walk here.names c.args.expr.now)) (walk here.names c.args.expr.now)
      (has_operands c.args.expr.now) ok.constants (c.in-Ok.ensures.at here ok).right;
}

pub both-returns-in-Err : goal.both-returns-in-Err
both-returns-in-Err g t c = record {
  at = λ here ok. arm.both-first (declared_all c.args.place.now.signals.now) here c.args.a.now c.args.b.now c.in-Err.error (c.in-Err.ensures.at here ok).wrong;
}

pub both-returns-in-Err-operand : goal.both-returns-in-Err-operand
both-returns-in-Err-operand g t c = record {
  at = λ here ok. arm.both-second (declared_all c.args.place.now.signals.now) here c.args.a.now c.args.b.now c.in-Err-operand.error (c.in-Err-operand.ensures.at here ok).wrong;
}

pub both-returns-in-Ok-operand : goal.both-returns-in-Ok-operand
both-returns-in-Ok-operand g t c = record {
  at = λ here ok. arm.both-answer (declared_all c.args.place.now.signals.now) here c.args.a.now c.args.b.now c.in-Ok.left c.in-Ok-operand.right c.pair.result (c.in-Ok.ensures.at here ok).right
      (c.in-Ok-operand.ensures.at here ok).right c.pair.ensures.ok c.pair.ensures.err;
}

pub operands-returns-in-Err : goal.operands-returns-in-Err
operands-returns-in-Err g t c = record {
  at = λ here ok. arm.first-left (declared_all c.args.place.now.signals.now) here c.args.a.now c.args.b.now c.args.op _ _ c.is_logical.ensures refl c.in-Err.error
      (c.in-Err.ensures.at here ok).wrong;
}

pub operands-returns-in-Err-operand : goal.operands-returns-in-Err-operand
operands-returns-in-Err-operand g t c = record {
  at = λ here ok. arm.first-right (declared_all c.args.place.now.signals.now) here c.args.a.now c.args.b.now c.args.op _ _ c.is_logical.ensures c.is_apart.ensures c.in-Err-operand.error
      (c.in-Err-operand.ensures.at here ok).wrong;
}

pub operands-returns-in-Err-pair : goal.operands-returns-in-Err-pair
operands-returns-in-Err-pair g t c = record {
  at = λ here ok. arm.first-memory (declared_all c.args.place.now.signals.now) here c.args.a.now c.args.b.now c.args.op _ _ c.is_logical.ensures c.is_apart.ensures c.in-Err-pair.error
      c.in-Err-pair.ensures.err;
}

pub operands-returns-in-Ok-pair : goal.operands-returns-in-Ok-pair
operands-returns-in-Ok-pair g t c = record {
  at = λ here ok. c.compared.ensures (declared_all c.args.place.now.signals.now) here (walk here.names c.args.a.now) (walk here.names c.args.b.now) (has_operands c.args.a.now)
      (has_operands c.args.b.now) ok.constants
      (arm.first-answer (declared_all c.args.place.now.signals.now) here c.args.a.now c.args.b.now c.args.op _ _ c.is_logical.ensures c.is_apart.ensures c.in-Ok.left c.in-Ok-operand.right
      (Ok c.in-Ok-pair.found) (c.in-Ok.ensures.at here ok).right (c.in-Ok-operand.ensures.at here ok).right c.in-Ok-pair.ensures.ok c.in-Ok-pair.ensures.err).right;
}

pub members-loop-expr-init : goal.members-loop-expr-init
members-loop-expr-init g t c = (
  omega (arith, c.no_parts-parts.ensures.total),
  record {
    at = λ here ok. parts.no-parts (declared_all c.args.place.now.signals.now) here c.no_parts-parts.result c.no_parts-parts.ensures.exprs c.no_parts-parts.ensures.total
        c.no_parts-parts.ensures.constant
        c.no_parts-parts.ensures.clocks c.no_parts-parts.ensures.divisors;
  },
)

pub members-returns-in-Err : goal.members-returns-in-Err
members-returns-in-Err g t c = record {
  at = λ here ok. parts.at-none (declared_all c.args.place.now.signals.now) here c.args.exprs.now c.loop-expr.expr-index c.expr-item.result c.loop-expr-test.true
      (sym c.expr-item.is) _ c.in-Err.error (c.in-Err.ensures.at here ok).wrong;
}

pub members-returns-in-Err-with_part : goal.members-returns-in-Err-with_part
members-returns-in-Err-with_part g t c = record {
  at = λ here ok. parts.at-memory (declared_all c.args.place.now.signals.now) here c.args.exprs.now c.loop-expr.expr-index c.expr-item.result c.loop-expr-test.true
      (sym c.expr-item.is) _ c.in-Err-with_part.error c.in-Err-with_part.ensures.err;
}

pub members-with_part-requires : goal.members-with_part-requires
members-with_part-requires g t c = omega (arith, c.loop-expr.invariant.0)

pub members-loop-expr-preserved : goal.members-loop-expr-preserved
members-loop-expr-preserved g t c = (
  omega (arith, c.loop-expr.invariant.0, c.in-Ok-with_part.ensures.ok.width, c.in-Ok.part.operand.most),
  record {
    at = λ here ok. parts.at-more (declared_all c.args.place.now.signals.now) here c.args.exprs.now c.loop-expr.expr-index c.expr-item.result c.loop-expr-test.true
        (sym c.expr-item.is) has_operands c.loop-expr.parts c.in-Ok-with_part.more c.in-Ok.part (c.loop-expr.invariant.1.at here ok)
        (c.in-Ok.ensures.at here ok).right c.in-Ok-with_part.ensures.ok;
  },
)

pub members-returns : goal.members-returns
members-returns g t c = record {
  at = λ here ok. parts.at-all (declared_all c.args.place.now.signals.now) here has_operands c.args.exprs.now c.loop-expr.expr-index c.loop-expr.parts (omega arith)
      (c.loop-expr.invariant.1.at here ok);
}

pub name-returns-in-None-signal_at : goal.name-returns-in-None-signal_at
name-returns-in-None-signal_at g t c = record {
  at = λ here ok. picks.no-number c.args.place.now.signals.now (g.B.Bindings.numbers c.args.place.now.bindings.now) c.args.place.now.all.now c.args.place.now.early.now here ok c.args.path.now
      c.args.selects.now c.in-Some.number _ c.in-Some.ensures c.in-None-signal_at.ensures;
}

pub name-returns-in-Err : goal.name-returns-in-Err
name-returns-in-Err g t c = record {
  at = λ here ok. picks.signal-none c.args.place.now.signals.now (g.B.Bindings.numbers c.args.place.now.bindings.now) c.args.place.now.all.now c.args.place.now.early.now here ok c.args.path.now
      c.args.selects.now c.in-Some.number c.in-Some-signal_at.signal.now c.in-Some.ensures c.in-Some-signal_at.ensures c.signal_head-head.result c.in-Err.error c.signal_head-head.ensures
      (c.in-Err.ensures.at here ok);
}

pub name-returns-in-Ok : goal.name-returns-in-Ok
name-returns-in-Ok g t c = record {
  at = λ here ok. picks.signal-right c.args.place.now.signals.now (g.B.Bindings.numbers c.args.place.now.bindings.now) c.args.place.now.all.now c.args.place.now.early.now here ok c.args.path.now
      c.args.selects.now c.in-Some.number c.in-Some-signal_at.signal.now c.in-Some.ensures c.in-Some-signal_at.ensures c.signal_head-head.result c.in-Ok.found c.signal_form.result
      c.signal_head-head.ensures (c.in-Ok.ensures.at here ok)
      c.signal_form.ensures.ok c.signal_form.ensures.err;
}

pub name-returns-in-None-constant : goal.name-returns-in-None-constant
name-returns-in-None-constant g t c = record {
  at = λ here ok. picks.no-constant c.args.place.now.signals.now (g.B.Bindings.numbers c.args.place.now.bindings.now) c.args.place.now.all.now c.args.place.now.early.now here ok c.args.path.now
      c.args.selects.now c.in-None.ensures c.in-None-constant.ensures;
}

pub name-returns-in-Err-picks : goal.name-returns-in-Err-picks
name-returns-in-Err-picks g t c = record {
  at = λ here ok. picks.constant-none c.args.place.now.signals.now (g.B.Bindings.numbers c.args.place.now.bindings.now) c.args.place.now.all.now c.args.place.now.early.now here ok c.args.path.now
      c.args.selects.now c.in-None.ensures c.in-Some-constant.constant c.in-Some-constant.ensures c.const_head-head.result c.in-Err-picks.error (c.const_head-head.ensures c.args.path.now.name)
      (c.in-Err-picks.ensures.at here ok);
}

pub name-returns-in-Ok-picks : goal.name-returns-in-Ok-picks
name-returns-in-Ok-picks g t c = record {
  at = λ here ok. picks.constant-right c.args.place.now.signals.now (g.B.Bindings.numbers c.args.place.now.bindings.now) c.args.place.now.all.now c.args.place.now.early.now here ok c.args.path.now
      c.args.selects.now c.in-None.ensures c.in-Some-constant.constant c.in-Some-constant.ensures c.const_head-head.result c.in-Ok-picks.found c.const_form.result
      (c.const_head-head.ensures c.args.path.now.name)
      (c.in-Ok-picks.ensures.at here ok) c.const_form.ensures;
}

pub picks-returns-then-head : goal.picks-returns-then-head
picks-returns-then-head g t c = record {
  at = λ here ok d hd. c.array_picks.ensures.at here ok d hd;
}

pub picks-returns-then-selects-eq0 : goal.picks-returns-then-selects-eq0
picks-returns-then-selects-eq0 g t c = record {
  at = λ here ok d hd. picks.at-whole (declared_all c.args.place.now.signals.now) here d c.args.head.now hd c.args.at c.if-head.false c.args.selects.now c.whole.result c.if-selects-eq0.true
      c.whole.ensures;
}

pub picks-returns-then-selects-ne1 : goal.picks-returns-then-selects-ne1
picks-returns-then-selects-ne1 g t c = record {
  at = λ here ok d hd. picks.at-many (declared_all c.args.place.now.signals.now) here d c.args.head.now hd c.args.at c.if-head.false c.args.selects.now c.if-selects-eq0.false c.if-selects-ne1.true;
}

pub picks-returns-then-not-head : goal.picks-returns-then-not-head
picks-returns-then-not-head g t c = record {
  at = λ here ok d hd. picks.at-unranged (declared_all c.args.place.now.signals.now) here d c.args.head.now hd c.args.at c.if-head.false c.args.selects.now c.if-selects-eq0.false c.if-not-head.true;
}

pub picks-returns-in-Err : goal.picks-returns-in-Err
picks-returns-in-Err g t c = record {
  at = λ here ok d hd. picks.at-one_none (declared_all c.args.place.now.signals.now) here d c.args.head.now hd c.args.at c.if-head.false c.args.selects.now c.index-selects-0.result c.in-Err.error
      c.if-selects-ne1.false c.index-selects-0.is c.if-not-head.false
      (c.in-Err.ensures.at here ok).wrong;
}

pub picks-returns-in-Ok : goal.picks-returns-in-Ok
picks-returns-in-Ok g t c = record {
  at = λ here ok d hd. picks.at-one (declared_all c.args.place.now.signals.now) here d c.args.head.now hd c.args.at c.if-head.false c.args.selects.now c.index-selects-0.result c.in-Ok.found
      c.picked.result c.if-selects-ne1.false c.index-selects-0.is c.if-not-head.false
      (c.in-Ok.ensures.at here ok).right c.picked.ensures.ok c.picked.ensures.err;
}

pub array_picks-returns-then-selects-eq0 : goal.array_picks-returns-then-selects-eq0
array_picks-returns-then-selects-eq0 g t c = record {
  at = λ here ok d hd. picks.array-none (declared_all c.args.place.now.signals.now) here d c.args.head.now hd c.args.at c.requires c.args.selects.now c.if-selects-eq0.true;
}

pub array_picks-returns-in-Part : goal.array_picks-returns-in-Part
array_picks-returns-in-Part g t c = record {
  at = λ here ok d hd. picks.array-part (declared_all c.args.place.now.signals.now) here d c.args.head.now hd c.args.at c.requires c.args.selects.now c.index-selects-0.result _ _
      c.if-selects-eq0.false c.index-selects-0.is c.in-Part.is;
}

pub array_picks-returns-in-Up : goal.array_picks-returns-in-Up
array_picks-returns-in-Up g t c = record {
  at = λ here ok d hd. picks.array-up (declared_all c.args.place.now.signals.now) here d c.args.head.now hd c.args.at c.requires c.args.selects.now c.index-selects-0.result _ _
      c.if-selects-eq0.false c.index-selects-0.is c.in-Up.is;
}

pub array_picks-returns-in-Down : goal.array_picks-returns-in-Down
array_picks-returns-in-Down g t c = record {
  at = λ here ok d hd. picks.array-down (declared_all c.args.place.now.signals.now) here d c.args.head.now hd c.args.at c.requires c.args.selects.now c.index-selects-0.result _ _
      c.if-selects-eq0.false c.index-selects-0.is c.in-Down.is;
}

pub array_picks-returns-in-Err : goal.array_picks-returns-in-Err
array_picks-returns-in-Err g t c = record {
  at = λ here ok d hd. picks.array-index_none (declared_all c.args.place.now.signals.now) here d c.args.head.now hd c.args.at c.requires c.in-Bit.index c.args.selects.now c.index-selects-0.result
      c.in-Err.error c.if-selects-eq0.false c.index-selects-0.is c.in-Bit.is (c.in-Err.ensures.at here ok).wrong;
}

pub array_picks-returns-in-Ok : goal.array_picks-returns-in-Ok
array_picks-returns-in-Ok g t c = record {
  at = λ here ok d hd. picks.array-element (declared_all c.args.place.now.signals.now) here d c.args.head.now hd c.args.at c.requires c.in-Bit.index c.args.selects.now c.index-selects-0.result
      c.in-Ok.index c.element.result c.if-selects-eq1.true c.index-selects-0.is c.in-Bit.is (c.in-Ok.ensures.at here ok).right c.element.ensures.ok c.element.ensures.err;
}

pub array_picks-returns-then-selects-ne2 : goal.array_picks-returns-then-selects-ne2
array_picks-returns-then-selects-ne2 g t c = record {
  at = λ here ok d hd. picks.array-many (declared_all c.args.place.now.signals.now) here d c.args.head.now hd c.args.at c.requires c.in-Bit.index c.args.selects.now c.index-selects-0.result
      c.if-selects-eq0.false c.if-selects-eq1.false c.if-selects-ne2.true c.index-selects-0.is c.in-Bit.is;
}

pub array_picks-returns-then-not-head : goal.array_picks-returns-then-not-head
array_picks-returns-then-not-head g t c = record {
  at = λ here ok d hd. picks.array-unranged (declared_all c.args.place.now.signals.now) here d c.args.head.now hd c.args.at c.requires c.in-Bit.index c.args.selects.now c.index-selects-0.result
      c.if-selects-eq0.false c.if-selects-eq1.false c.index-selects-0.is c.in-Bit.is c.if-not-head.true;
}

pub array_picks-returns-in-Err-operand : goal.array_picks-returns-in-Err-operand
array_picks-returns-in-Err-operand g t c = record {
  at = λ here ok d hd. picks.array-index_none (declared_all c.args.place.now.signals.now) here d c.args.head.now hd c.args.at c.requires c.in-Bit.index c.args.selects.now c.index-selects-0.result
      c.in-Err-operand.error c.if-selects-eq0.false c.index-selects-0.is c.in-Bit.is (c.in-Err-operand.ensures.at here ok).wrong;
}

pub array_picks-returns-in-Err-pick : goal.array_picks-returns-in-Err-pick
array_picks-returns-in-Err-pick g t c = record {
  at = λ here ok d hd. picks.array-bits_none (declared_all c.args.place.now.signals.now) here d c.args.head.now hd c.args.at c.requires c.in-Bit.index c.args.selects.now c.index-selects-0.result
      c.index-selects-1.result c.in-Ok-operand.index c.in-Err-pick.error c.if-selects-ne2.false c.index-selects-0.is c.index-selects-1.is c.in-Bit.is
      c.if-not-head.false (c.in-Ok-operand.ensures.at here ok).right (c.in-Err-pick.ensures.at here ok).wrong;
}

pub array_picks-returns-in-Ok-pick : goal.array_picks-returns-in-Ok-pick
array_picks-returns-in-Ok-pick g t c = record {
  at = λ here ok d hd. picks.array-bits (declared_all c.args.place.now.signals.now) here d c.args.head.now hd c.args.at c.requires c.in-Bit.index c.args.selects.now c.index-selects-0.result
      c.index-selects-1.result c.in-Ok-operand.index c.in-Ok-pick.found c.element_bits.result c.if-selects-ne2.false c.index-selects-0.is c.index-selects-1.is
      c.in-Bit.is c.if-not-head.false (c.in-Ok-operand.ensures.at here ok).right (c.in-Ok-pick.ensures.at here ok).right c.element_bits.ensures.ok c.element_bits.ensures.err;
}

pub pick-returns-in-Err : goal.pick-returns-in-Err
pick-returns-in-Err g t c = record {
  at = λ here ok. picks.bit-none (declared_all c.args.place.now.signals.now) here c.args.head.now c.args.at c.args.select.now c.in-Bit.a c.in-Err.error c.in-Bit.is
      (c.in-Err.ensures.at here ok).wrong;
}

pub pick-returns-in-Ok : goal.pick-returns-in-Ok
pick-returns-in-Ok g t c = record {
  at = λ here ok. picks.at-Bit (declared_all c.args.place.now.signals.now) here c.args.head.now c.args.at c.args.select.now c.in-Bit.a c.in-Ok.index c.bit_pick.result c.in-Bit.is
      (c.in-Ok.ensures.at here ok).right c.bit_pick.ensures.ok c.bit_pick.ensures.err;
}

pub pick-returns-in-Err-fixed : goal.pick-returns-in-Err-fixed
pick-returns-in-Err-fixed g t c = record {
  at = λ here ok. picks.part-first (declared_all c.args.place.now.signals.now) here c.args.head.now c.args.at c.args.select.now c.in-Part.a c.in-Part.b c.get.result.now c.in-Err-fixed.error
      c.in-Part.is c.get.ensures (c.in-Err-fixed.ensures.at here ok).wrong;
}

pub pick-returns-in-Err-fixed-2 : goal.pick-returns-in-Err-fixed-2
pick-returns-in-Err-fixed-2 g t c = record {
  at = λ here ok. picks.part-second (declared_all c.args.place.now.signals.now) here c.args.head.now c.args.at c.args.select.now c.in-Part.a c.in-Part.b c.get-in-Ok-fixed.result.now
      c.in-Err-fixed-2.error c.in-Part.is c.get-in-Ok-fixed.ensures (c.in-Err-fixed-2.ensures.at here ok).wrong;
}

pub pick-returns-in-Ok-fixed-2 : goal.pick-returns-in-Ok-fixed-2
pick-returns-in-Ok-fixed-2 g t c = record {
  at = λ here ok. picks.at-Part (declared_all c.args.place.now.signals.now) here c.args.head.now c.args.at c.args.select.now c.in-Part.a c.in-Part.b c.get.result.now c.get-in-Ok-fixed.result.now
      c.in-Ok-fixed.left c.in-Ok-fixed-2.right c.part_pick.result c.in-Part.is c.get.ensures
      c.get-in-Ok-fixed.ensures (c.in-Ok-fixed.ensures.at here ok).right (c.in-Ok-fixed-2.ensures.at here ok).right c.part_pick.ensures.ok c.part_pick.ensures.err;
}

pub pick-returns-in-Err-operand : goal.pick-returns-in-Err-operand
pick-returns-in-Err-operand g t c = record {
  at = λ here ok. picks.up-first (declared_all c.args.place.now.signals.now) here c.args.head.now c.args.at c.args.select.now c.in-Up.a c.in-Up.b c.in-Err-operand.error c.in-Up.is
      (c.in-Err-operand.ensures.at here ok).wrong;
}

pub pick-returns-in-Err-fixed-3 : goal.pick-returns-in-Err-fixed-3
pick-returns-in-Err-fixed-3 g t c = record {
  at = λ here ok. picks.up-second (declared_all c.args.place.now.signals.now) here c.args.head.now c.args.at c.args.select.now c.in-Up.a c.in-Up.b c.get-in-Ok-operand.result.now
      c.in-Err-fixed-3.error c.in-Up.is c.get-in-Ok-operand.ensures (c.in-Err-fixed-3.ensures.at here ok).wrong;
}

pub pick-returns-in-Ok-fixed-3 : goal.pick-returns-in-Ok-fixed-3
pick-returns-in-Ok-fixed-3 g t c = record {
  at = λ here ok. picks.at-Up (declared_all c.args.place.now.signals.now) here c.args.head.now c.args.at c.args.select.now c.in-Up.a c.in-Up.b c.get-in-Ok-operand.result.now c.in-Ok-fixed-3.count
      c.in-Ok-operand.index c.run_pick.result c.in-Up.is c.get-in-Ok-operand.ensures (c.in-Ok-operand.ensures.at here ok).right (c.in-Ok-fixed-3.ensures.at here ok).right
      c.run_pick.ensures.ok c.run_pick.ensures.err;
}

pub pick-returns-in-Err-operand-2 : goal.pick-returns-in-Err-operand-2
pick-returns-in-Err-operand-2 g t c = record {
  at = λ here ok. picks.down-first (declared_all c.args.place.now.signals.now) here c.args.head.now c.args.at c.args.select.now c.in-Down.a c.in-Down.b c.in-Err-operand-2.error c.in-Down.is
      (c.in-Err-operand-2.ensures.at here ok).wrong;
}

pub pick-returns-in-Err-fixed-4 : goal.pick-returns-in-Err-fixed-4
pick-returns-in-Err-fixed-4 g t c = record {
  at = λ here ok. picks.down-second (declared_all c.args.place.now.signals.now) here c.args.head.now c.args.at c.args.select.now c.in-Down.a c.in-Down.b c.get-in-Ok-operand-2.result.now
      c.in-Err-fixed-4.error c.in-Down.is c.get-in-Ok-operand-2.ensures (c.in-Err-fixed-4.ensures.at here ok).wrong;
}

pub pick-returns-in-Ok-fixed-4 : goal.pick-returns-in-Ok-fixed-4
pick-returns-in-Ok-fixed-4 g t c = record {
  at = λ here ok. picks.at-Down (declared_all c.args.place.now.signals.now) here c.args.head.now c.args.at c.args.select.now c.in-Down.a c.in-Down.b c.get-in-Ok-operand-2.result.now
      c.in-Ok-fixed-4.count c.in-Ok-operand-2.index c.run_pick-in-Ok-fixed-4.result c.in-Down.is c.get-in-Ok-operand-2.ensures (c.in-Ok-operand-2.ensures.at here ok).right
      (c.in-Ok-fixed-4.ensures.at here ok).right
      c.run_pick-in-Ok-fixed-4.ensures.ok c.run_pick-in-Ok-fixed-4.ensures.err;
}
