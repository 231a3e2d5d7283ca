-- What the paths through a block have in common: the bits that some step writes, those that every path writes for sure, and those
-- that some path reads before it has written them for sure.
use Rattle.std.specs.Prelude.{Bool, not, ◌&&◌, if◌then◌else◌, List, [], ◌∷◌, ◌++◌, map, Option, Some, None, flat_map, filter}
use Rattle.std.specs.List.{list_any}
use Rattle.lv_ast.specs.declared.expr.Expr.{Expr}
use Rattle.lv_ast.specs.declared.stmt.Stmt.{Stmt}
use Rattle.lv_ast.specs.declared.stmt.Stmt.TheOpen.{Stmt-F}
use Rattle.lv_source.specs.Values.{nowhere}
use Rattle.lv_ast.specs.Trees.{fold_stmt}
use Rattle.lv_source.specs.Names.{Names}
use Rattle.lv_source.specs.Places.{Bit, has_bit}
use Rattle.lv_source.specs.Meaning.{Reading, read_expr, all_constant, index_reads}
use Rattle.lv_source.specs.Effect.{Piece, pieces, Label, Arm, arm_labels, read_arm, is_met, is_default, ArmOf, arm_step, with_index, turns}
use Rattle.lv_source.specs.Flow.{writes_of, is_extended, is_full_of}

pub record Summary : Type 0 where
  pub written : List Bit
  pub sure : List Bit
  pub exposed : List Bit

-- the bits of the second list that are not of the first
abbrev pub without : List Bit → List Bit → List Bit
without bs cs = filter (λ b. not (has_bit bs b)) cs

abbrev pub shared : List Bit → List Bit → List Bit
shared bs cs = filter (has_bit bs) cs

-- ---- over what is read of expressions

abbrev pub nothing_done : Summary
nothing_done = record { written = []; sure = []; exposed = [] }

abbrev pub looked_at : List Bit → Summary
looked_at bs = record { written = []; sure = []; exposed = bs }

abbrev pub then_summary : Summary → Summary → Summary
then_summary a b = record { written = a.written ++ b.written; sure = a.sure ++ b.sure; exposed = a.exposed ++ without a.sure b.exposed }

abbrev pub either_summary : Summary → Summary → Summary
either_summary a b = record { written = a.written ++ b.written; sure = shared a.sure b.sure; exposed = a.exposed ++ b.exposed }

abbrev pub all_summaries : List Summary → Summary
all_summaries [] = nothing_done
all_summaries (s ∷ ss) = then_summary s (all_summaries ss)

-- one of these; of none, where no path is, nothing is told
abbrev pub any_summary : List Summary → Summary
any_summary [] = nothing_done
any_summary (s ∷ []) = s
any_summary (s ∷ t ∷ ss) = either_summary s (any_summary (t ∷ ss))

abbrev pub write_summary : List Piece → Reading → Summary
write_summary ps x = record {
  written = writes_of ps;
  sure = writes_of (filter (λ p. all_constant p.choices) ps);
  exposed = x.reads ++ flat_map (λ p. index_reads p.choices) ps;
}

-- the branch of a constant condition alone, though all of it is written
abbrev pub branch_summary : Reading → Summary → Summary → Summary
branch_summary c a b =
    if c.constant then (if is_met nowhere c then record a { written = a.written ++ b.written } else record b { written = a.written ++ b.written })
    else either_summary a b

abbrev pub if_summary : Reading → Summary → Summary → Summary
if_summary c a b = then_summary (looked_at c.reads) (branch_summary c a b)

-- the way without a match
abbrev pub no_match_summary : Bool → List Summary
no_match_summary can = if can then nothing_done ∷ [] else []

abbrev pub case_summary_of : Bool → Bool → Reading → List (Arm Summary) → Summary
case_summary_of wild own x arms =
    let labels : List Label = arm_labels arms in
    let default : Bool = list_any (λ a. is_default a.labels) arms in
    then_summary (looked_at (x.reads ++ flat_map (λ l. l.reading.reads) labels))
    (any_summary (map (λ a. a.body) arms ++ no_match_summary (not default && not (is_full_of wild own x labels))))

-- ---- over trees

abbrev pub Summaries : Type 0
Summaries = Names → Summary

abbrev pub summary_or : Option Summaries → Summaries
summary_or None names = nothing_done
summary_or (Some f) names = f names

abbrev pub case_summary : Bool → Expr → List (ArmOf Summaries) → Summaries
case_summary wild x arms names = case_summary_of wild (is_extended x) (read_expr names x) (map (read_arm names) arms)

abbrev pub summary_step : Stmt-F Summaries (ArmOf Summaries) → Summaries
summary_step Stmt-F.Null names = nothing_done
summary_step (Stmt-F.Block name body) names = all_summaries (map (λ f. f names) body)
summary_step (Stmt-F.If x then_ else_) names = if_summary (read_expr names x) (then_ names) (summary_or else_ names)
summary_step (Stmt-F.Case wild x arms) names = case_summary wild x arms names
summary_step (Stmt-F.Loop index start test again next body) names =
    all_summaries (map (λ k. body (with_index names index.name k)) (turns names index.name start test next))
summary_step (Stmt-F.Now target x place) names = write_summary (pieces names target) (read_expr names x)
summary_step (Stmt-F.Later target x place) names = write_summary (pieces names target) (read_expr names x)

unfoldable pub summary : Names → Stmt → Summary
summary names s = fold_stmt Summaries (ArmOf Summaries) summary_step arm_step s names

-- ---- what it tells

-- a bit that is written is not written on every path
abbrev pub leaves_latch : Summary → Bool
leaves_latch s = list_any (λ b. not (has_bit s.sure b)) s.written

-- a bit that is written is read first on some path
abbrev pub exposes_own : Summary → Bool
exposes_own s = list_any (has_bit s.exposed) s.written
