use Rattle.std.proofs.Common.{◌≡◌, Bool, true, length, sym, subst}
use Rattle.lv_bits.specs.Values.{is_less}
use Rattle.lv_aig.specs.Edges.{Gives}
use Rattle.lv_bits.specs.Digits.{number}
use Rattle.lv_circuits.specs.Words.{edge_bits}
use Rattle.lv_circuits.proofs.More.{gives_signed}
use Rattle.lv_circuits.proofs.rows.less.Goals as goal

pub returns : goal.returns
returns c =
    let t : c.args.signed ≡ true = cc in
    subst (λ (s : Bool). Gives c.args.and.now c.mux.new.and c.in_ok-e.e (λ v. is_less s (length c.args.a.now) (number (edge_bits v c.args.a.now)) (number (edge_bits v c.args.b.now)))) (sym t)
    (gives_signed c.args.and.now c.below.new.and c.gate.new.and c.mux.new.and c.args.a.now c.args.b.now c.edge-x.result c.edge-y.result c.in_ok-plain.plain c.in_ok-apart.apart c.in_ok-e.e c.requires.some c.requires.same c.edge-x.ensures c.edge-y.ensures c.in_ok-plain.ensures c.in_ok-apart.ensures c.in_ok-e.ensures)
