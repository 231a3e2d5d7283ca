use Rattle.std.proofs.Common.{◌≡◌, ℕ, ◌<◌, None, Some}
use Rattle.std.specs.Prelude.{slice_get}
use Rattle.lv_declared.specs.Listing.{all_declared}
use Rattle.lv_source.specs.Declarations.{Declaration}
use Rattle.lv_late.specs.Lates.{told_of_declaration}
use Rattle.lv_late.specs.Outers.{said_of}
use Rattle.lv_late.proofs.declarations.late_in_any.Given as goal

abbrev pub invariant-loop-index : goal.invariant-loop-index
invariant-loop-index g l =
    (k : ℕ) (d : Declaration) → k < l.index → slice_get (all_declared l.declarations) k ≡ Some d →
    told_of_declaration (said_of g.B.Bindings.numbers l.declarations l.base l.around) k d ≡ None
