use Rattle.std.proofs.Common.{◌++◌, List, ◌∙◌, ap}
use Rattle.lv_aig.specs.declared.edge.Edge.{Edge}
use Rattle.lv_circuits.proofs.More.{concat_word}
use Rattle.lv_circuits.proofs.rows.concat.Goals as goal

pub returns : goal.returns
returns c =
    concat_word c.args.and.now c.args.a.now c.args.b.now c.append.new.self (c.in_ok-append.ensures ∙ (ap (λ (x : List Edge). x ++ c.in_ok-high.high) c.in_ok-es.ensures ∙ ap (λ (x : List Edge). c.args.b.now ++ x) c.in_ok-high.ensures)) c.requires.a c.requires.b
