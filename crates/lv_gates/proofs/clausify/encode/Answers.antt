use Rattle.std.proofs.Common.{◌≡◌, ◌++◌, length, arith}
use Rattle.std.proofs.lemmas.Grind.{common_steps}
use Rattle.std.proofs.lemmas.Bool.Decides.{nat_tests}
use Rattle.lv_gates.specs.Lists.{clauses_from, goal_clauses, goal_vars}
use Rattle.lv_gates.proofs.Meaning.{encodes, counts, few_vars}
use Rattle.lv_gates.proofs.clausify.encode.Goals as goal
use Rattle.lv_gates.proofs.clausify.encode.Goals.{then-goal-eq0, else-goal-eq0, then-constant, else-constant}

pub returns : goal.returns
returns c =
    let vars : c.add_goal.new.set.vars ≡ goal_vars (length c.args.graph.now) c.args.goal = grind (arith, common_steps, nat_tests) in
    let list : c.add_goal.new.set.clauses ≡ clauses_from 0 c.args.graph.now ++ goal_clauses c.add_goal.new.set.vars c.args.goal = grind (arith, common_steps) in
    let nodes : c.nodes-nodes.result ≡ length c.args.graph.now = c.nodes-nodes.ensures.is in
    record {
      encodes = encodes c.args.graph.now c.args.inputs c.args.goal c.add_goal.new.set c.nodes-nodes.ensures.graph c.requires.inputs vars list;
      gates = counts c.args.graph.now c.args.goal c.add_goal.new.set list;
      few = record { vars = omega (arith, vars, nodes, few_vars (length c.args.graph.now) c.args.goal, c.nodes-nodes.ensures.few); clauses = c.kept.ensures.few };
    }
