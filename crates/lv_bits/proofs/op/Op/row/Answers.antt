use Rattle.std.proofs.Common.{◌≡◌, Some, refl, get_or}
use denote.Enum.Declared.{tag_of}
use Rattle.lv_bits.specs.contracts.op.Op as op_type
use Rattle.lv_bits.specs.declared.op.Op.{Op}
use Rattle.lv_bits.specs.declared.op.Op.TheVariants.{Neg, Not, LogNot, RedAnd, RedOr, RedXor, Add, Sub, Mul, Shl, Shr, Sar, Lt, Le, Gt, Ge, Eq, Ne, And, Or, Xor, Xnor, LogAnd, LogOr}
use Rattle.lv_bits.specs.declared.op.OpRow.{OpRow}
use Rattle.lv_bits.specs.declared.op.TheConstants.{OPS}
use Rattle.lv_bits.specs.Table.{bytes_of, found, operands_of}
use Rattle.lv_bits.proofs.op.Op.row.Goals as goal

abbrev row_at : Op → OpRow → OpRow
row_at op d = get_or OPS (tag_of op_type.the_type op) d

-- each row's spelling and count are found there first
row_is : (op : Op) (d : OpRow) → (found OPS (bytes_of (row_at op d).spelling) (row_at op d).operands ≡ Some op) × ((row_at op d).operands ≡ operands_of op)
row_is Neg d = (refl, refl)
row_is Not d = (refl, refl)
row_is LogNot d = (refl, refl)
row_is RedAnd d = (refl, refl)
row_is RedOr d = (refl, refl)
row_is RedXor d = (refl, refl)
row_is Add d = (refl, refl)
row_is Sub d = (refl, refl)
row_is Mul d = (refl, refl)
row_is Shl d = (refl, refl)
row_is Shr d = (refl, refl)
row_is Sar d = (refl, refl)
row_is Lt d = (refl, refl)
row_is Le d = (refl, refl)
row_is Gt d = (refl, refl)
row_is Ge d = (refl, refl)
row_is Eq d = (refl, refl)
row_is Ne d = (refl, refl)
row_is And d = (refl, refl)
row_is Or d = (refl, refl)
row_is Xor d = (refl, refl)
row_is Xnor d = (refl, refl)
row_is LogAnd d = (refl, refl)
row_is LogOr d = (refl, refl)

pub returns-clause-spelling : goal.returns-clause-spelling
returns-clause-spelling c = (row_is c.args.self _).0

pub returns-clause-operands : goal.returns-clause-operands
returns-clause-operands c = (row_is c.args.self _).1
