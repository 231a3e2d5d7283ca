-- The widths and signs that reach the operands of an operator (IEEE 1364-2005, sections 5.4 and 5.5).
use Rattle.std.specs.Prelude.{ℕ, max, Bool, false, ◌&&◌, if◌then◌else◌}
use Rattle.lv_bits.specs.declared.op.Op.{Op}
use Rattle.lv_bits.specs.Values.{is_apart, keeps_width, extended}

pub record Reach : Type 0 where
  pub left : ℕ
  pub left_signed : Bool
  pub right : ℕ
  pub right_signed : Bool
  -- how the operator takes its operands
  pub signed : Bool

-- where W and T reach the node, and the operands have these of their own
unfoldable pub reached : Op → ℕ → Bool → ℕ → Bool → ℕ → Bool → Reach
reached op W T w s x t =
    if keeps_width op then (if is_apart op then (let r : Reach = record { left = W; left_signed = T; right = x; right_signed = t; signed = T } in r)
    else record { left = W; left_signed = T; right = W; right_signed = T; signed = T })
    else (if is_apart op then record { left = w; left_signed = s; right = x; right_signed = t; signed = false }
    else record { left = max w x; left_signed = s && t; right = max w x; right_signed = s && t; signed = s && t })

unfoldable pub own_of_unary : Op → ℕ → Bool → ℕ × Bool
own_of_unary op w s = if keeps_width op then (w, s) else (1, false)

unfoldable pub own_of_binary : Op → ℕ → Bool → ℕ → Bool → ℕ × Bool
own_of_binary op w s x t = if keeps_width op then (if is_apart op then (w, s) else (max w x, s && t)) else (1, false)

-- where W and T reach an operator with one operand
unfoldable pub reached_by_one : Op → ℕ → Bool → ℕ → Bool → ℕ × Bool
reached_by_one op W T w s = if keeps_width op then (W, T) else (w, s)

-- an operator's value at the width and the sign that reach it
abbrev pub at_width : Op → Bool → ℕ → ℕ → ℕ
at_width op T W n = if keeps_width op then n else extended T 1 W n
