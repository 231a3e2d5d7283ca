-- The first name of a header that stands for no constant that is declared before.
use Rattle.std.specs.Prelude.{ℕ, Option}
use Rattle.lv_ast.specs.declared.expr.Path.{Path}
use Rattle.lv_ast.specs.declared.expr.Expr.{Expr}
use Rattle.lv_ast.specs.Names.{Name}
use Rattle.lv_source.specs.Names.{Names}
use Rattle.lv_source.specs.Effect.{with_index}
use Rattle.lv_resolve.specs.declared.error.ResolveError.{ResolveError}
use Rattle.lv_resolve.specs.Late.{late_of, or_else, first_late, paths_in}

-- in a turn; which one it is does not matter
abbrev pub late_in_turn : (Path → Option ℕ) → Names → Names → Name → ℕ → Path → Option ResolveError
late_in_turn find all early index value = late_of find (with_index all index value) (with_index early index value)

abbrev pub late_header : (Path → Option ℕ) → Names → Names → Name → Expr → Expr → Expr → Option ResolveError
late_header find all early index start test next =
    or_else (first_late (late_of find all early) (paths_in start))
    (or_else (first_late (late_in_turn find all early index 0) (paths_in test)) (first_late (late_in_turn find all early index 0) (paths_in next)))
