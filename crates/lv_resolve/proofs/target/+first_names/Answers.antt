use Rattle.std.proofs.Common.{sym, arith}
use Rattle.lv_resolve.proofs.TargetArms.{first-Name, first-Cat, first-found, first-next, first-all}
use Rattle.lv_resolve.proofs.target.+first_names.Goals as goal

pub first_name-returns-in-Name : goal.first_name-returns-in-Name
first_name-returns-in-Name t c = λ names role. first-Name names role c.args.target.now c.in-Name.path _ c.in-Name.is

pub first_name-returns-in-Cat : goal.first_name-returns-in-Cat
first_name-returns-in-Cat t c = λ names role. first-Cat names role c.args.target.now c.in-Cat.parts _ c.first_of.result c.in-Cat.is c.as_slice.ensures (c.first_of.ensures names role)

pub first_of-returns-in-Some : goal.first_of-returns-in-Some
first_of-returns-in-Some t c = λ names role. first-found names role c.args.targets.now c.loop-target.target-index c.target-item.result c.loop-target-test.true (sym c.target-item.is) (c.loop-target.invariant names role) c.in-Some.place (c.in-Some.ensures names role)

pub first_of-loop-target-preserved : goal.first_of-loop-target-preserved
first_of-loop-target-preserved t c = λ names role. first-next names role c.args.targets.now c.loop-target.target-index c.target-item.result c.loop-target-test.true (sym c.target-item.is) (c.loop-target.invariant names role) (c.in_default.ensures names role)

pub first_of-returns : goal.first_of-returns
first_of-returns t c = λ names role. first-all names role c.args.targets.now c.loop-target.target-index (omega arith) (c.loop-target.invariant names role)
