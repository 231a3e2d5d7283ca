-- The pieces of a target, by the form of the tree.
use Rattle.std.proofs.Common.{◌≡◌, List, [], ◌∷◌, map, refl, Some}
use Rattle.std.specs.Prelude.{flat_map}
use Rattle.lv_source.specs.Effect.{Piece}
use Rattle.lv_flat.specs.declared.expr.FlatSelect.{FlatSelect}
use Rattle.lv_flat.specs.declared.stmt.FlatName.{FlatName}
use Rattle.lv_flat.specs.declared.stmt.FlatTarget.{FlatTarget}
use Rattle.lv_flat.specs.declared.stmt.FlatTarget.TheVariants as t
use Rattle.lv_flat.specs.Signals.{Signals, signal_at}
use Rattle.lv_flat.specs.Judged.{judge_select, choices}
use Rattle.lv_flat.specs.Executing.{path_at, piece_step, pieces}
use Rattle.lv_flat.proofs.StmtFolds as fold

abbrev pub piece_of : Signals → FlatName → List FlatSelect → Piece
piece_of S name ss = record { path = path_at name.place; declared = Some (signal_at S name.signal); choices = choices (map (judge_select S) ss) }

module _ (S : Signals) where
  pub pieces-Signal : (name : FlatName) (ss : List FlatSelect) → pieces S (t.Signal name ss) ≡ piece_of S name ss ∷ []
  unfolding pieces
  pieces-Signal name ss = refl

  pub pieces-Cat : (ts : List FlatTarget) → pieces S (t.Cat ts) ≡ flat_map (λ ps. ps) (map (pieces S) ts)
  unfolding pieces
  pieces-Cat ts = fold.fold_target-Cat (List Piece) (piece_step S) ts
