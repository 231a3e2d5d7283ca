use Rattle.std.proofs.Common.{◌≡◌, arith, subst}
use Rattle.std.specs.Prelude.{max}
use Rattle.lv_source.specs.Meaning.{own_width}
use Rattle.lv_const.specs.Public.{IsValueOf, IsValueRefusal}
use Rattle.lv_const.specs.Constants.{names_of, entries_here}
use Rattle.lv_const.proofs.Declared.{entries-declared}
use Rattle.lv_scopes.proofs.NumberLaws.{number_right, number_wrong, number_none, some, most, wide}
use Rattle.lv_scopes.proofs.number.number_of.Goals as goal

pub returns-in-Err : goal.returns-in-Err
returns-in-Err c = record { at = λ here ok. number_none here c.args.expr.now c.args.least c.in-Err.error (c.in-Err.ensures.at here ok).wrong }

pub returns-in-Err-value_of : goal.returns-in-Err-value_of
returns-in-Err-value_of c =
    let e : c.max.result ≡ max c.args.least c.in-Ok.own = omega arith in record {
      at = λ here ok. number_wrong here c.args.expr.now c.args.least c.in-Ok.own c.in-Ok.signed (c.in-Ok.ensures.at here ok).right c.in-Err-value_of.error
          (subst (λ w. IsValueRefusal here c.args.expr.now w c.in-Ok.signed c.in-Err-value_of.error) e (c.in-Err-value_of.ensures.at here ok).wrong);
    }

pub returns-in-Ok-value_of : goal.returns-in-Ok-value_of
returns-in-Ok-value_of c =
    let e : c.max.result ≡ max c.args.least c.in-Ok.own = omega arith in record {
      at = λ here ok. number_right here c.args.expr.now c.args.least c.in-Ok.own c.in-Ok.signed (c.in-Ok.ensures.at here ok).right c.in-Ok-value_of.word
          (subst (λ w. IsValueOf here c.args.expr.now w c.in-Ok.signed c.in-Ok-value_of.word) e (c.in-Ok-value_of.ensures.at here ok).right);
    }

pub value_of-requires-clause-some : goal.value_of-requires-clause-some
value_of-requires-clause-some c =
    let e : c.max.result ≡ max c.args.least c.in-Ok.own = omega arith in
    some c.in-Ok.own c.args.least c.max.result (c.in-Ok.ensures.at (entries_here c.args.consts.now) (entries-declared c.args.consts.now)).right.some e

pub value_of-requires-clause-most : goal.value_of-requires-clause-most
value_of-requires-clause-most c =
    let e : c.max.result ≡ max c.args.least c.in-Ok.own = omega arith in
    most c.in-Ok.own c.args.least c.max.result (c.in-Ok.ensures.at (entries_here c.args.consts.now) (entries-declared c.args.consts.now)).right.most
    c.requires e

pub value_of-requires-clause-wide : goal.value_of-requires-clause-wide
value_of-requires-clause-wide c =
    let e : c.max.result ≡ max c.args.least c.in-Ok.own = omega arith in
    wide (own_width (names_of c.args.consts.now) c.args.expr.now) c.in-Ok.own c.args.least c.max.result
    (c.in-Ok.ensures.at (entries_here c.args.consts.now) (entries-declared c.args.consts.now)).right.width e
