-- Faults of nodes and of statements, as what is told of an item.
use Rattle.std.specs.Prelude.{ℕ, List, Contains, ⊤}
use Rattle.lv_source.specs.Legal.{Kind}
use Rattle.lv_resolve.specs.declared.error.ResolveError.{ResolveError}
use Rattle.lv_resolve.specs.declared.error.ResolveError.TheVariants as y
use Rattle.lv_resolve_stmts.specs.declared.error.StmtError.{StmtError}
use Rattle.lv_resolve_stmts.specs.declared.error.StmtError.TheVariants as x
use Rattle.lv_faults.specs.declared.fault.Fault.TheVariants as f
use Rattle.lv_faults.specs.Faults.{kind_of, place_of}
use Rattle.lv_parts.specs.declared.error.PartsError.{PartsError}
use Rattle.lv_parts.specs.declared.error.PartsError.TheVariants as e

abbrev pub of_node : ResolveError → PartsError
of_node (y.UnknownName p) = e.Fault (f.UnknownName p)
of_node (y.NotConstant p) = e.Fault (f.NotConstant p)
of_node (y.ZeroDivisor p) = e.Fault (f.ZeroDivisor p)
of_node (y.Range p) = e.Fault (f.Range p)
of_node y.NoMemory = e.NoMemory

abbrev pub of_stmt : StmtError → PartsError
of_stmt (x.UnknownName p) = e.Fault (f.UnknownName p)
of_stmt (x.NotConstant p) = e.Fault (f.NotConstant p)
of_stmt (x.ZeroDivisor p) = e.Fault (f.ZeroDivisor p)
of_stmt (x.Range p) = e.Fault (f.Range p)
of_stmt (x.Duplicate p) = e.Fault (f.Duplicate p)
of_stmt x.Limit = e.Limit
of_stmt x.NoMemory = e.NoMemory

-- a fault that is told by its kind, a limit that is passed, or want of memory
abbrev pub IsToldBy : (Kind → List ℕ) → Type 0 → PartsError → Type 0
IsToldBy told Endless (e.Fault a) = Contains (told (kind_of a)) (place_of a)
IsToldBy told Endless e.Limit = Endless
IsToldBy told Endless e.NoMemory = ⊤
