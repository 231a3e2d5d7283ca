use Rattle.std.proofs.Common.{◌≡◌, map, take}
use Rattle.lv_declared.specs.Listing.{counted}
use Rattle.lv_flat.specs.Signals.{declared_all}
use Rattle.lv_survey.specs.Scenes.{scene, InScope}
use Rattle.lv_survey.specs.Surveys.{IsListed}
use Rattle.lv_survey.specs.Items.{IsAhead, IsSoFar}
use Rattle.lv_survey.proofs.walk.survey.Given as goal

abbrev pub invariant-loop-item : goal.invariant-loop-item
invariant-loop-item g l = record {
  same : l.all ≡ l.fn.all;
  ahead : IsAhead l.entries l.counts l.items l.item-index l.early;
  list : IsListed l.number l.room l.item-index l.fn.turns l.fn.nodes l.found;
  each : InScope (scene l.modules l.around (declared_all l.signals) (g.B.Bindings.numbers l.bindings) (g.B.Indices.indices l.bindings) l.fn.all) l.entries l.counts l.items
      (λ source s. IsSoFar l.fn.turns l.fn.nodes source s (map counted (take l.item-index l.items)) l.found);
}
