use Rattle.lv_circuits.proofs.More.{gives_choice}
use Rattle.lv_circuits.proofs.rows.mux_word.Goals as goal

pub returns : goal.returns
returns c = gives_choice c.args.and.now c.fold.new.and c.choose.new.and c.args.c.now c.args.a.now c.args.b.now c.in_ok-es.es c.in_ok-some.some c.requires.same c.in_ok-some.ensures c.in_ok-es.ensures.bits
