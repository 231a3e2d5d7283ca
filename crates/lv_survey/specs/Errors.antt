-- What is told of an item, as what is told of its scope.
use Rattle.lv_children.specs.declared.child.ChildError.{ChildError}
use Rattle.lv_children.specs.declared.child.ChildError.TheVariants as c
use Rattle.lv_faults.specs.declared.fault.Fault.TheVariants as f
use Rattle.lv_resolve.specs.declared.error.ResolveError.{ResolveError}
use Rattle.lv_resolve.specs.declared.error.ResolveError.TheVariants as y
use Rattle.lv_sizes.specs.declared.error.SizeError.{SizeError}
use Rattle.lv_sizes.specs.declared.error.SizeError.TheVariants as z
use Rattle.lv_survey.specs.declared.error.SurveyError.{SurveyError}
use Rattle.lv_survey.specs.declared.error.SurveyError.TheVariants as e

abbrev pub spec_of_node : ResolveError → SurveyError
spec_of_node (y.UnknownName p) = e.Fault (f.UnknownName p)
spec_of_node (y.NotConstant p) = e.Fault (f.NotConstant p)
spec_of_node (y.ZeroDivisor p) = e.Fault (f.ZeroDivisor p)
spec_of_node (y.Range p) = e.Fault (f.Range p)
spec_of_node y.NoMemory = e.NoMemory

abbrev pub spec_too_much : SizeError → SurveyError
spec_too_much (z.Fault x) = spec_of_node x
spec_too_much z.Turns = e.Turns
spec_too_much z.Nodes = e.Nodes

abbrev pub spec_told : ChildError → SurveyError
spec_told (c.UnknownModule p) = e.Fault (f.UnknownModule p)
spec_told (c.Recursion p) = e.Fault (f.Recursion p)
spec_told (c.UnknownSetting p) = e.Fault (f.UnknownName p)
spec_told (c.Port p) = e.Fault (f.Port p)
spec_told (c.Fault x) = spec_of_node x
spec_told c.Limit = e.Instances
