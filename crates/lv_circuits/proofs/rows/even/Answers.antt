use Rattle.lv_circuits.proofs.rows.even.Goals as goal

pub returns-in-And : goal.returns-in-And
returns-in-And c = rw c.in-And.is (c.and_word.ensures c.args.signed)

pub returns-in-Or : goal.returns-in-Or
returns-in-Or c = rw c.in-Or.is (c.or_word.ensures c.args.signed)

pub returns-in-Xor : goal.returns-in-Xor
returns-in-Xor c = rw c.in-Xor.is (c.xor_word.ensures c.args.signed)

pub returns-in-Xnor : goal.returns-in-Xnor
returns-in-Xnor c = rw c.in-Xnor.is (c.xnor_word.ensures c.args.signed)

pub returns-in-Add : goal.returns-in-Add
returns-in-Add c = rw c.in-Add.is (c.add_word.ensures c.args.signed)

pub returns-in-Sub : goal.returns-in-Sub
returns-in-Sub c = rw c.in-Sub.is (c.sub_word.ensures c.args.signed)

pub returns-in-Eq : goal.returns-in-Eq
returns-in-Eq c = rw c.in-Eq.is (c.equal.ensures c.args.signed)

pub returns-in-Ne : goal.returns-in-Ne
returns-in-Ne c = rw c.in-Ne.is (c.unequal.ensures c.args.signed)

pub returns-in-Lt : goal.returns-in-Lt
returns-in-Lt c = rw c.in-Lt.is c.is_below.ensures

pub returns-in-Le : goal.returns-in-Le
returns-in-Le c = rw c.in-Le.is c.at_most.ensures

pub returns-in-Gt : goal.returns-in-Gt
returns-in-Gt c = rw c.in-Gt.is c.is_above.ensures

pub returns-in-Ge : goal.returns-in-Ge
returns-in-Ge c = rw c.in-Ge.is c.at_least.ensures

pub returns-in-Mul : goal.returns-in-Mul
returns-in-Mul c = rw c.in-Mul.is (c.mul_word.ensures c.args.signed)
