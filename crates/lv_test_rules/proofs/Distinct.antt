-- A signal that is no array, and a clock, have one cell together.
use Rattle.std.proofs.Common.{◌≡◌, ℕ, ◌<◌, Bool, true, false, List, [], ◌∷◌, ◌++◌, map, Option, Some, None, subst, sym, arith}
use Rattle.std.specs.Prelude.{if◌then◌else◌}
use Rattle.lv_ast.specs.Names.{Name}
use Rattle.lv_source.specs.Names.{Bounds, Declared, width_of, is_signal_sort}
use Rattle.lv_source.specs.Places.{cells, cells_by}
use Rattle.lv_flat.specs.Cells.{Cell, cell_of, AreDistinct, all_cells}

never : true ≡ false → ⊥
never h = cc

not_some : (x : Bounds) → Some x ≡ None → ⊥
not_some x h = cc

short : (b c : Bool) (w : ℕ) (o : Option Bounds) (path : Name) (rest : List Name) (v : ℕ) → o ≡ None → c ≡ false
    → AreDistinct ((if b then map (cell_of w) (cells_by o path) else []) ++ ((if c then map (cell_of v) rest else []) ++ []))
short b true w o path rest v e f i j l m q = absurd (never f)
short b false w (Some x) path rest v e f i j l m q = absurd (not_some x e)
short true false w None path rest v e f i j l m q = omega arith
short false false w None path rest v e f i j l m q = absurd (omega arith)

pub one_cell : (d e : Declared) → d.array ≡ None → is_signal_sort e.sort ≡ false → AreDistinct (all_cells (d ∷ e ∷ []))
one_cell d e h k = short (is_signal_sort d.sort) (is_signal_sort e.sort) (width_of d) d.array d.path (cells e) (width_of e) h k
