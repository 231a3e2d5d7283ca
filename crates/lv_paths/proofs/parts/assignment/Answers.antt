use Rattle.std.proofs.Common.{sym, ap, ◌∙◌}
use Rattle.lv_source.proofs.Tests.{and-left, and-right}
use Rattle.lv_flat.specs.Signals.{declared_all}
use Rattle.lv_flat.specs.Judged.{is_good}
use Rattle.lv_flat.specs.Good.{good_body, good_target}
use Rattle.lv_paths.proofs.parts.assignment.Goals as goal

pub names_twice-requires-clause-target : goal.names_twice-requires-clause-target
names_twice-requires-clause-target c =
    let S = declared_all c.args.signals.now in
    and-left (good_target S c.args.target.now) (is_good S c.args.value.now) (sym (ap (good_body S) c.requires.is) ∙ c.requires.good)

pub continuous-requires-clause-target : goal.continuous-requires-clause-target
continuous-requires-clause-target c =
    let S = declared_all c.args.signals.now in
    and-left (good_target S c.args.target.now) (is_good S c.args.value.now) (sym (ap (good_body S) c.requires.is) ∙ c.requires.good)

pub continuous-requires-clause-value : goal.continuous-requires-clause-value
continuous-requires-clause-value c =
    let S = declared_all c.args.signals.now in
    and-right (good_target S c.args.target.now) (is_good S c.args.value.now) (sym (ap (good_body S) c.requires.is) ∙ c.requires.good)
