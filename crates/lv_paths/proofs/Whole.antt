-- What is good of the statement of a part.
use Rattle.std.proofs.Common.{◌≡◌, true, subst}
use Rattle.lv_source.specs.Parts.{is_declared_sort}
use Rattle.lv_source.proofs.Tests.{and-right}
use Rattle.lv_flat.specs.declared.part.FlatBody.{FlatBody}
use Rattle.lv_flat.specs.declared.part.FlatBody.TheVariants as bodies
use Rattle.lv_flat.specs.declared.stmt.FlatStmt.{FlatStmt}
use Rattle.lv_flat.specs.Signals.{Signals, signal_at}
use Rattle.lv_flat.specs.Good.{good_body, good_stmt}
use Rattle.lv_extents.specs.Blocks.{IsBlock}

pub block-good : (S : Signals) (body : FlatBody) (s : FlatStmt) → IsBlock body s → good_body S body ≡ true → good_stmt S s ≡ true
block-good S (bodies.Assign t x) s h g = absurd h
block-good S (bodies.Combinational r) s h g = subst (λ (z : FlatStmt). good_stmt S z ≡ true) h g
block-good S (bodies.Clocked e r) s h g =
    subst (λ (z : FlatStmt). good_stmt S z ≡ true) h (and-right (is_declared_sort (signal_at S e.signal).sort) (good_stmt S r) g)
