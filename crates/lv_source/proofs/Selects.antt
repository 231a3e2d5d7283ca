-- Each form of select, of a vector whose numbers fall and of one whose numbers rise, within its range and beyond.
use Rattle.std.specs.Prelude.{◌≡◌, ℕ, true, false, List, [], ◌∷◌, map, None, Some, codes, refl}
use Rattle.lv_bits.specs.declared.op.Op.TheVariants as o
use Rattle.lv_ast.specs.declared.expr.Expr.{Expr}
use Rattle.lv_ast.specs.declared.expr.Select.{Select}
use Rattle.lv_ast.specs.declared.expr.Select.TheVariants as s
use Rattle.lv_ast.specs.declared.stmt.Stmt.TheVariants as b
use Rattle.lv_ast.specs.Names.{Name}
use Rattle.lv_source.specs.Names.{Names, Declared, Variable, with_name}
use Rattle.lv_source.specs.Meaning.{read_expr, read_select, value_of}
use Rattle.lv_source.specs.Effect.{pieces, executes, left_by, turns, turns_from}
use Rattle.lv_ast.proofs.Build.{one, chosen, bit, slice, down, plain, un, sized, to_bits, valued}

-- f[7:0] falls and r[0:7] rises
abbrev vector : Name → ℕ → ℕ → Declared
vector n l r = record { path = n; bounds = record { left = l; right = r }; ranged = true; signed = false; array = None; sort = Variable }

abbrev both_ways : Names
both_ways = with_name (with_name (λ p. None) (codes "f") (Some (vector (codes "f") 7 0))) (codes "r") (Some (vector (codes "r") 0 7))

abbrev up : Expr → Expr → Select
up a w = s.Up' tt (one a) tt (one w)

-- 1011_0010 in both
abbrev held : List ℕ → ℕ
held = valued ((codes "f", 178) ∷ (codes "r", 178) ∷ [])

-- what these selects of f and of r read
abbrev reads : List Select → List (ℕ × ℕ)
reads ss = map (λ x. (value_of both_ways (chosen (codes "f") (x ∷ [])) 8 false held, value_of both_ways (chosen (codes "r") (x ∷ [])) 8 false held)) ss

-- [1], [0], and [9] and [-1], which neither has
bits_read : reads (bit (plain 1) ∷ bit (plain 0) ∷ bit (plain 9) ∷ bit (un o.Neg (plain 1)) ∷ []) ≡ (1, 0) ∷ (0, 1) ∷ (0, 0) ∷ (0, 0) ∷ []
unfolding read_expr
bits_read = refl

-- f[5:2], f[9:6] of which 9 and 8 read 0, r[2:5], and r[6:9]
parts_read : map (λ x. value_of both_ways x 8 false held) (chosen (codes "f") (slice (plain 5) (plain 2) ∷ []) ∷ chosen (codes "f") (slice (plain 9) (plain 6) ∷ []) ∷
    chosen (codes "r") (slice (plain 2) (plain 5) ∷ []) ∷ chosen (codes "r") (slice (plain 6) (plain 9) ∷ []) ∷ []) ≡ 12 ∷ 2 ∷ 12 ∷ 8 ∷ []
unfolding read_expr
parts_read = refl

-- [4 +: 3], and [6 +: 4] beyond the last number
up_read : reads (up (plain 4) (plain 3) ∷ up (plain 6) (plain 4) ∷ []) ≡ (3, 1) ∷ (2, 8) ∷ []
unfolding read_expr
up_read = refl

-- [6 -: 3], and [1 -: 4] below the first number
down_read : reads (down (plain 6) (plain 3) ∷ down (plain 1) (plain 4) ∷ []) ≡ (3, 1) ∷ (8, 2) ∷ []
unfolding read_expr
down_read = refl

-- what is left of f and of r where the select of it becomes all ones
abbrev writes : Select → ℕ × ℕ
writes x = (left_by both_ways (b.Now (to_bits (codes "f") (x ∷ [])) (sized 4 15) 0) held (codes "f"), left_by both_ways (b.Now (to_bits (codes "r") (x ∷ [])) (sized 4 15) 0) held (codes "r"))

written : map writes (bit (plain 0) ∷ bit (plain 9) ∷ up (plain 4) (plain 3) ∷ up (plain 6) (plain 4) ∷ down (plain 6) (plain 3) ∷ down (plain 1) (plain 4) ∷ []) ≡
    (179, 178) ∷ (178, 178) ∷ (242, 190) ∷ (242, 179) ∷ (242, 190) ∷ (179, 242) ∷ []
unfolding read_expr read_select pieces executes turns turns_from
written = refl
