-- How high what is open is, by the operand that it holds.
use Rattle.std.proofs.Common.{ℕ, ◌≤◌, List, [], ◌∷◌, arith}
use Rattle.lv_exprs.specs.Forms.{Form, bit, part, prefix, paren, pair}
use Rattle.lv_exprs.specs.Heights.{height}
use Rattle.lv_exprs.specs.Machine.{Open, o_prefix, o_paren}
use Rattle.lv_exprs.specs.Lows.{over, over_all}

pub height_pos : (x : Form) → 1 ≤ height x
height_pos (bit x i) = omega (arith, height_pos x)
height_pos (part r x i j) = omega (arith, height_pos x)
height_pos (prefix s x) = omega (arith, height_pos x)
height_pos (paren x) = height_pos x
height_pos (pair x y) = omega (arith, height_pos x)
height_pos _ = omega arith

pub over_up : (g : Open) (a b : ℕ) → a ≤ b → over g a ≤ over g b
over_up (o_prefix s) a b h = omega arith
over_up o_paren a b h = h
over_up _ a b h = omega arith

pub all_up : (s : List Open) (a b : ℕ) → a ≤ b → over_all s a ≤ over_all s b
all_up [] a b h = h
all_up (g ∷ s) a b h = all_up s (over g a) (over g b) (over_up g a b h)
