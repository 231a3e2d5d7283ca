-- The operators by their operands.
use Rattle.lv_bits.specs.declared.op.Op.{Op}
use Rattle.lv_bits.specs.declared.op.Op.TheVariants.{Add, Sub, Mul, Shl, Shr, Sar, Lt, Le, Gt, Ge, Eq, Ne, And, Or, Xor, Xnor, LogAnd, LogOr}

-- two operands of one width
abbrev pub IsEven : Op → Type 0
IsEven Add = Unit {0}
IsEven Sub = Unit {0}
IsEven Mul = Unit {0}
IsEven Lt = Unit {0}
IsEven Le = Unit {0}
IsEven Gt = Unit {0}
IsEven Ge = Unit {0}
IsEven Eq = Unit {0}
IsEven Ne = Unit {0}
IsEven And = Unit {0}
IsEven Or = Unit {0}
IsEven Xor = Unit {0}
IsEven Xnor = Unit {0}
IsEven _ = ⊥

-- two operands of widths of their own
abbrev pub IsApart : Op → Type 0
IsApart Shl = Unit {0}
IsApart Shr = Unit {0}
IsApart Sar = Unit {0}
IsApart LogAnd = Unit {0}
IsApart LogOr = Unit {0}
IsApart _ = ⊥
