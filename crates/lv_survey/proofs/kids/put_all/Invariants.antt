use Rattle.std.proofs.Common.{◌≡◌, ◌++◌, map, take}
use Rattle.lv_children.specs.Children.{all_seen}
use Rattle.lv_survey.specs.Surveys.{all_below, put_below}
use Rattle.lv_survey.proofs.kids.put_all.Given as goal

abbrev pub invariant-loop-child : goal.invariant-loop-child
invariant-loop-child l =
    all_below l.into.items ≡ all_below l.initial.into.items ++ map (put_below l.number l.before) (all_seen (take l.child-index l.kids))
