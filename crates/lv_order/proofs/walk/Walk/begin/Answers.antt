use Rattle.std.proofs.lemmas.List.{length-map}
use Rattle.lv_order.specs.Graphs.{graph}
use Rattle.lv_order.proofs.Turns.{opened-turn, nothing-goes, state-read, new-state}
use Rattle.std.proofs.Common.{◌≡◌, ◌<◌, length, arith, sym, ◌∙◌}
use Rattle.lv_order.proofs.walk.Walk.begin.Goals as goal

pub returns-then-is_new : goal.returns-then-is_new
returns-then-is_new c =
    let l : c.args.self.now.root < length c.args.self.now.states.items =
    let z : length c.args.self.now.states.items ≡ length (graph c.args.edges.now) = c.requires.walk.size in omega (arith, length-map c.args.edges.now (λ r. r.items)) in
    opened-turn (graph c.args.edges.now) c.args.self.now c.open.new.self c.args.self.now.root c.requires.walk l
    (state-read c.args.self.now.states.items c.args.self.now.root c.index.result.now l c.index.ensures ∙ new-state c.index.result.now (sym c.is_new.ensures ∙ c.if-is_new.true))
    (nothing-goes (graph c.args.edges.now) c.args.self.now.path.items c.args.self.now.root c.requires.empty)
    c.in_ok-open.ensures.states c.in_ok-open.ensures.path c.in_ok-open.ensures.list c.in_ok-open.ensures.root
