use Rattle.std.proofs.Common.{◌≡◌, drop, map}
use Rattle.lv_const.specs.Places.{head_of}
use Rattle.lv_source.specs.Sites.{walk}
use Rattle.lv_const.specs.Answers.{joined_places}
use Rattle.lv_flat.specs.Judged.{no_names}
use Rattle.lv_resolve.proofs.heads.+heads.Given as goal

abbrev pub invariant-first_of-loop-expr : goal.invariant-first_of-loop-expr
invariant-first_of-loop-expr l = head_of (joined_places (map (walk no_names) l.exprs)) ≡ head_of
    (joined_places (map (walk no_names) (drop l.expr-index l.exprs)))
