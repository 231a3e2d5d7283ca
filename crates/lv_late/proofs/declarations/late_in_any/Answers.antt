use Rattle.std.proofs.Common.{refl}
use Rattle.lv_late.specs.Lates.{told_of_declaration}
use Rattle.lv_late.specs.Outers.{said_of}
use Rattle.lv_late.proofs.LateFaults.{found-late, more-late}
use Rattle.std.proofs.Common.{arith}
use Rattle.std.proofs.lemmas.List.{length-map}
use Rattle.std.proofs.lemmas.Option.{slice_get_within}
use Rattle.lv_declared.specs.Listing.{declared, all_declared}
use Rattle.lv_late.proofs.declarations.late_in_any.Goals as goal

pub returns-in-Some : goal.returns-in-Some
returns-in-Some g c =
    found-late (said_of g.B.Bindings.numbers c.args.declarations.now c.args.base.now c.args.around) c.args.declarations.now refl c.loop-index.index c.in-Some.error
    c.loop-index-test.true c.in-Some.ensures

pub loop-index-preserved : goal.loop-index-preserved
loop-index-preserved g c =
    more-late c.args.declarations.now (told_of_declaration (said_of g.B.Bindings.numbers c.args.declarations.now c.args.base.now c.args.around)) c.loop-index.index
    c.loop-index-test.true c.late_at.result c.late_at.ensures c.in_default.is c.loop-index.invariant

pub returns : goal.returns
returns g c = record {
  each = λ k d h. c.loop-index.invariant k d
      (let l = slice_get_within (all_declared c.args.declarations.now) k d h in
      let e = length-map c.args.declarations.now declared in
      let t = c.loop-index-test.false in omega arith) h;
}
