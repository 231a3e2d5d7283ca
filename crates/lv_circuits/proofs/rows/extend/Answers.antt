use Rattle.std.proofs.Common.{◌∙◌, ap, List, ◌++◌}
use Rattle.lv_aig.specs.declared.edge.Edge.{Edge}
use Rattle.lv_circuits.proofs.RowJoins.{gives_extension}
use Rattle.lv_circuits.proofs.rows.extend.Goals as goal

pub returns : goal.returns
returns c =
    gives_extension c.args.and.now c.args.signed c.args.a.now c.in_ok-high.high c.append.new.self c.fill_of-fill.result c.args.width c.fill_of-fill.ensures.within c.fill_of-fill.ensures.is c.in_ok-high.ensures
    (c.in_ok-append.ensures ∙ ap (λ (es : List Edge). es ++ c.in_ok-high.high) c.in_ok-es.ensures) c.requires.wide c.requires.a
