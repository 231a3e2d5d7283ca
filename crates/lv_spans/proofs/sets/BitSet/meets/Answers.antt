use Rattle.std.proofs.Common.{rules, subst}
use Rattle.lv_spans.specs.Sets.{Masks}
use Rattle.lv_spans.specs.Touched.{AreTouched}
use Rattle.lv_spans.proofs.Sharing.{meet-one, apart-one, meet-all, apart-all}
use Rattle.lv_spans.proofs.sets.BitSet.meets.Goals as goal

pub returns-in-Some-clause-meet : goal.returns-in-Some-clause-meet
returns-in-Some-clause-meet c = λ h S w p. meet-one c.args.self.now c.args.span c.in-Some.field-0 c.mask.result c.in-Some.is (search rules) h S w p

pub returns-in-Some-clause-apart : goal.returns-in-Some-clause-apart
returns-in-Some-clause-apart c = λ h q i. apart-one c.args.self.now c.args.span c.in-Some.field-0 c.mask.result c.in-Some.is (search rules) h q i

pub returns-in-None-clause-meet : goal.returns-in-None-clause-meet
returns-in-None-clause-meet c = λ h S w p. meet-all c.args.self.now c.args.span c.self.inside.touched (subst (λ (m :
    Masks). AreTouched m c.self.inside.touched) c.self.view_is c.self.invariant) c.touched_mask.result c.in-None.is (search rules) h S w p

pub returns-in-None-clause-apart : goal.returns-in-None-clause-apart
returns-in-None-clause-apart c = λ h q i. apart-all c.args.self.now c.args.span c.self.inside.touched (subst (λ (m :
    Masks). AreTouched m c.self.inside.touched) c.self.view_is c.self.invariant) c.touched_mask.result c.in-None.is (search rules) h q i
