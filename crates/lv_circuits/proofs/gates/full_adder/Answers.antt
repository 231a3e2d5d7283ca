use Rattle.std.proofs.Common.{if◌then◌else◌}
use Rattle.lv_aig.specs.Edges.{edge_bit}
use Rattle.lv_circuits.specs.Words.{xor}
use Rattle.lv_circuits.proofs.Joins.{gives_sum, gives_earlier}
use Rattle.lv_circuits.proofs.gates.full_adder.Goals as goal

pub returns-clause-sum : goal.returns-clause-sum
returns-clause-sum c =
    gives_sum c.args.and.now c.differ.new.and c.differ-2.new.and c.carry_gate.new.and c.args.x c.args.y c.args.carry c.in_ok-apart.apart c.in_ok-sum.sum c.in_ok-carry.carry
    (λ v. if xor (edge_bit v c.args.x) (edge_bit v c.args.y) then edge_bit v c.args.carry else edge_bit v c.args.x) c.in_ok-apart.ensures c.in_ok-sum.ensures c.in_ok-carry.ensures

pub returns-clause-carry : goal.returns-clause-carry
returns-clause-carry c =
    gives_earlier c.args.and.now c.differ.new.and c.differ-2.new.and c.carry_gate.new.and c.in_ok-apart.apart c.in_ok-sum.sum c.in_ok-carry.carry
    (λ v. xor (edge_bit v c.args.x) (edge_bit v c.args.y)) (λ v. xor (edge_bit v c.in_ok-apart.apart) (edge_bit v c.args.carry))
    (λ v. if xor (edge_bit v c.args.x) (edge_bit v c.args.y) then edge_bit v c.args.carry else edge_bit v c.args.x) c.in_ok-apart.ensures c.in_ok-sum.ensures c.in_ok-carry.ensures
