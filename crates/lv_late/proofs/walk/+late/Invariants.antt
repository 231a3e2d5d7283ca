use Rattle.std.proofs.Common.{◌≡◌, drop, flat_map}
use Rattle.lv_resolve.specs.Late.{first_late, paths_in, paths_within}
use Rattle.lv_late.specs.Lates.{told_of_name}
use Rattle.lv_late.specs.Outers.{said_by}
use Rattle.lv_late.proofs.walk.+late.Given as goal

abbrev pub invariant-late_exprs-loop-expr : goal.invariant-late_exprs-loop-expr
invariant-late_exprs-loop-expr g l =
    let f = told_of_name (said_by g.B.Bindings.numbers l.names) l.names.before in
    first_late f (flat_map paths_in l.exprs) ≡ first_late f (flat_map paths_in (drop l.expr-index l.exprs))

abbrev pub invariant-late_selects-loop-select : goal.invariant-late_selects-loop-select
invariant-late_selects-loop-select g l =
    let f = told_of_name (said_by g.B.Bindings.numbers l.names) l.names.before in
    first_late f (flat_map paths_within l.selects) ≡ first_late f (flat_map paths_within (drop l.select-index l.selects))
