use Rattle.std.proofs.Common.{◌≡◌, ◌+◌, map, length, take, drop, ap, ◌∙◌, sym, subst, refl}
use Rattle.std.specs.Prelude.{slice_index}
use Rattle.std.proofs.lemmas.List.{take_all}
use Rattle.std.proofs.lemmas.Option.{slice_get_read}
use Rattle.lv_declared.specs.Listing.{counted}
use Rattle.lv_flat.specs.Signals.{declared_all}
use Rattle.lv_source.specs.Scopes.{here_at}
use Rattle.lv_sizes.proofs.LeftLaws.{moved-at}
use Rattle.lv_survey.specs.Items.{IsAhead, IsSoFar}
use Rattle.lv_survey.specs.Scenes.{scene}
use Rattle.lv_survey.proofs.Walking.{so_far_more, refused, surveyed, listed_more, ahead_more, is_there, place_there, items_next, items_rest}
use Rattle.lv_survey.proofs.walk.survey.Goals as goal

pub loop-item-preserved : goal.loop-item-preserved
loop-item-preserved g c =
    let entries = c.args.entries.now in
    let counts = c.args.counts.now in
    let items = c.args.items.now in
    let i = c.loop-item.item-index in
    let x = c.item-item.result in
    let find = g.B.Bindings.numbers c.args.bindings.now in
    let indices = g.B.Indices.indices c.args.bindings.now in
    let there = scene c.args.modules.now c.args.around.now (declared_all c.args.signals.now) find indices c.args.all.now in
    let early : c.extend.new.early ≡ take (slice_index counts x.before) entries = is_there c.extend.result (sym c.is_err.ensures.value ∙ c.if-is_err.false) c.extend.ensures in
    record {
      same = c.in_default.ensures.all ∙ c.loop-item.invariant.same;
      ahead = subst (IsAhead entries counts items (i + 1)) (sym c.in_default.ensures.early)
          (ahead_more entries counts items c.requires.counts i x (slice_get_read items (length items) i x refl c.loop-item-test.true c.item-item.is) c.extend.new.early early);
      list = listed_more c.args.number c.args.room i c.args.turns c.args.nodes c.loop-item.found c.survey_item.new.found c.loop-item.invariant.list c.in_default.ensures.list;
      each = record {
        at = λ source s h. subst (λ zs. IsSoFar c.args.turns c.args.nodes source s zs c.survey_item.new.found)
            (sym (items_next there entries counts items source s h i x c.loop-item-test.true c.item-item.is))
            (so_far_more c.args.turns c.args.nodes source s (map counted (take i items)) (counted x) c.loop-item.found c.survey_item.new.found
            (c.loop-item.invariant.each.at source s h)
            (c.in_default.ensures.right.at source s h.within (moved-at (declared_all c.args.signals.now) find indices
            c.args.all.now c.extend.new.early c.loop-item.all c.extend.new.early (here_at s x.before) c.loop-item.invariant.same refl
            (place_there there entries counts items source s h i x c.loop-item-test.true c.item-item.is c.extend.new.early early))));
      };
    }

pub returns-in-Err-clause-wrong : goal.returns-in-Err-clause-wrong
returns-in-Err-clause-wrong g c =
    let entries = c.args.entries.now in
    let counts = c.args.counts.now in
    let items = c.args.items.now in
    let i = c.loop-item.item-index in
    let x = c.item-item.result in
    let find = g.B.Bindings.numbers c.args.bindings.now in
    let indices = g.B.Indices.indices c.args.bindings.now in
    let there = scene c.args.modules.now c.args.around.now (declared_all c.args.signals.now) find indices c.args.all.now in
    let early : c.extend.new.early ≡ take (slice_index counts x.before) entries =
    is_there c.extend.result (sym c.is_err.ensures.value ∙ c.if-is_err.false) c.extend.ensures in
    record {
      at = λ source s h. refused c.args.turns c.args.nodes source s (map counted (take i items)) (counted x) c.loop-item.found c.survey_item.new.found
          (c.loop-item.invariant.each.at source s h) c.args.room (map counted (drop (i + 1) items))
          (items_rest there entries counts items source s h i x c.loop-item-test.true c.item-item.is) c.in-Err.error
          (c.in-Err.ensures.wrong.at source s h.within (moved-at (declared_all c.args.signals.now) find indices
          c.args.all.now c.extend.new.early c.loop-item.all c.extend.new.early (here_at s x.before) c.loop-item.invariant.same refl
          (place_there there entries counts items source s h i x c.loop-item-test.true c.item-item.is c.extend.new.early early)));
    }

pub returns-clause-right : goal.returns-clause-right
returns-clause-right g c = record {
  at = λ source s h. surveyed c.args.turns c.args.nodes source s (map counted (take c.loop-item.item-index c.args.items.now)) c.loop-item.found
      (ap (map counted) (take_all c.loop-item.item-index c.args.items.now c.loop-item-test.false) ∙ sym h.listed) (c.loop-item.invariant.each.at source s h);
}
