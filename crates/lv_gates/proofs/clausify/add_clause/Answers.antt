use Rattle.std.proofs.Common.{subst}
use Rattle.lv_clauses.specs.declared.clause.Added.{Added}
use Rattle.lv_clauses.specs.declared.clause.Added.TheVariants.{Tautology, Clause}
use Rattle.lv_clauses.specs.Added.{IsAdded}
use Rattle.lv_clauses.proofs.Sorted.{unpaired}
use Rattle.lv_gates.proofs.Adding.{within_from, added_is}
use Rattle.lv_gates.proofs.clausify.add_clause.Goals as goal

pub add-requires : goal.add-requires
add-requires c = within_from c.args.set.now.vars c.args.lits.now c.requires.below

pub unreachable-requires : goal.unreachable-requires
unreachable-requires c =
    let added : IsAdded c.args.set.now c.args.lits.now Tautology c.add.new.self = subst (λ (a : Added). IsAdded c.args.set.now c.args.lits.now a c.add.new.self) c.in-Tautology.is c.in_ok-add.ensures.ok in
    unpaired c.args.lits.now c.requires.rising added.0

pub returns : goal.returns
returns c =
    let added : IsAdded c.args.set.now c.args.lits.now Clause c.add.new.self = subst (λ (a : Added). IsAdded c.args.set.now c.args.lits.now a c.add.new.self) c.in-Clause.is c.in_ok-add.ensures.ok in
    added_is c.args.set.now c.add.new.self c.args.lits.now added.0 c.requires.rising added.1 c.clauses_are_sets.ensures added.2
