use Rattle.lv_frames.proofs.AllOfTurns.{turn_all}
use Rattle.lv_frames.proofs.frames.all_of_a_turn.Goals as goal

pub returns : goal.returns
returns c = λ s k index label items value outer before new j at e own. turn_all s k index label items value outer before new at e own j
