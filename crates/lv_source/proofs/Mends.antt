-- Cases that earlier definitions missed, each with a small source and what is told of it.
use Rattle.std.specs.Fmt.{digits}
use Rattle.lv_source.specs.Meaning.{read_expr, read_select, value_of}
use Rattle.lv_source.specs.Effect.{pieces, executes, turns, turns_from}
use Rattle.lv_source.specs.Flow.{flow}
use Rattle.lv_source.specs.Declarations.{labels}
use Rattle.lv_source.specs.Parts.{as_target, parts, scopes_of, signals_of}
use Rattle.lv_source.specs.Sites.{walk, walk_select, target_sites}
use Rattle.lv_source.specs.Standing.{standing}
use Rattle.lv_source.specs.Limits.{design_size, expr_nodes, target_nodes, stmt_size}
use Rattle.std.specs.Prelude.{◌≡◌, ◌+◌, ℕ, true, false, List, [], ◌∷◌, map, Some, None, codes, refl}
use Rattle.lv_bits.specs.declared.op.Op.TheVariants as o
use Rattle.lv_ast.specs.declared.expr.Expr.{Expr, end_of-Expr, more_of-Expr}
use Rattle.lv_ast.specs.declared.expr.Expr.TheVariants as e
use Rattle.lv_ast.specs.declared.stmt.Target.TheVariants as t
use Rattle.lv_ast.specs.declared.stmt.Target.{end_of-Target, more_of-Target}
use Rattle.lv_ast.specs.declared.stmt.Stmt.TheVariants as b
use Rattle.lv_ast.specs.declared.item.Item.{Item}
use Rattle.lv_ast.specs.declared.item.Item.TheVariants as i
use Rattle.lv_ast.specs.declared.item.Module.{Module}
use Rattle.lv_ast.specs.declared.item.Ports.TheVariants as p
use Rattle.lv_ast.specs.declared.item.Watch.TheVariants as w
use Rattle.lv_ast.specs.Names.{alone}
use Rattle.lv_source.specs.Names.{Names, Sort, Constant, known}
use Rattle.lv_source.specs.Parts.{Design, scopes_of}
use Rattle.lv_source.specs.Legal.{UnknownName, ClockUse, ZeroDivisor, Duplicate, Port, Range, Nonblocking, places_of}
use Rattle.lv_ast.proofs.Build.{id, name, bin, cat, path, div, plain, sized, bits, input, output, output_reg, module_of, clk, always_star, linked}
use Rattle.lv_source.proofs.Build.{design_t, refused}

-- ---- a setting is taken at the width of its parameter

-- module s #(parameter [15:0] P = 1)(input clk); endmodule
abbrev wide : Module
wide = record {
  name = id (codes "s") 10;
  params = record { signed = false; range = Some (bits 15 0); list = record { name = id (codes "P") 20; value = plain 1 } ∷ [] } ∷ [];
  ports = p.Declared (input (codes "clk") 30 None ∷ []);
  items = [];
}

-- s #(.P(x)) u (.clk(clk));
abbrev with_p : Expr → Design
with_p x = design_t (module_of (codes "t") (clk ∷ [])
    (i.Instance (id (codes "s") 80) (linked (codes "P") x 82 ∷ []) (record { name = id (codes "u") 90; conns = linked (codes "clk") (name (codes "clk")) 91 ∷ [] } ∷ []) ∷ []) ∷ wide ∷ [])

-- 8'd8 / (8'd255 + 8'd1) is 0 at 16 bits; at its own 8 the divisor would be 0
abbrev eighth : Expr
eighth = div (sized 8 8) (bin o.Add (sized 8 255) (sized 8 1))

-- 8'd1 / (8'd100 / (8'd200 + 8'd100)): at 16 bits the divisor is 100 / 300
abbrev small : Expr
small = div (sized 8 1) (div (sized 8 100) (bin o.Add (sized 8 200) (sized 8 100)))

eighth_legal : refused (with_p eighth) ≡ []
unfolding read_expr read_select pieces executes turns turns_from flow labels as_target walk walk_select target_sites standing digits parts scopes_of signals_of places_of
eighth_legal = refl

eighth_is : map (λ s. (known (s.names (alone (codes "P")))).sort) (scopes_of (with_p eighth)) ≡ Sort.Other ∷ Constant 0 ∷ []
unfolding read_expr read_select pieces executes turns turns_from flow labels as_target walk walk_select target_sites standing digits parts scopes_of signals_of places_of
eighth_is = refl

small_told : refused (with_p small) ≡ (ZeroDivisor, 0) ∷ (ZeroDivisor, 0) ∷ []
unfolding read_expr read_select pieces executes turns turns_from flow labels as_target walk walk_select target_sites standing digits parts scopes_of signals_of places_of
small_told = refl

-- ---- a clock name is driven by a `wire` with a value

-- module N(clk, d, q); input clk; input d; output q; wire clk = d; ..
abbrev driven_clock : List ℕ → ℕ → List Item → Module
driven_clock n at items = record {
  name = id n at;
  params = [];
  ports = p.Names (id (codes "clk") (at + 1) ∷ id (codes "d") (at + 2) ∷ []);
  items = i.Port (input (codes "clk") (at + 3) None) ∷ i.Port (input (codes "d") (at + 4) None) ∷ items;
}

abbrev clock_is_d : ℕ → Item
clock_is_d place = i.Wire false None (record { name = id (codes "clk") place; value = Some (name (codes "d")) } ∷ [])

-- at the top, and in an instance whose port clk is a clock name
driven_told : map refused (
    design_t (driven_clock (codes "t") 10 (clock_is_d 40 ∷ []) ∷ []) ∷
    design_t (driven_clock (codes "t") 10 (i.Instance (id (codes "s") 80) [] (record {
      name = id (codes "u") 90;
      conns = linked (codes "clk") (name (codes "clk")) 91 ∷ linked (codes "d") (name (codes "d")) 92 ∷ [];
    } ∷ []) ∷ []) ∷ driven_clock (codes "s") 110 (clock_is_d 140 ∷ []) ∷ []) ∷ []) ≡
    ((ClockUse, 40) ∷ []) ∷ ((ClockUse, 140) ∷ []) ∷ []
unfolding read_expr read_select pieces executes turns turns_from flow labels as_target walk walk_select target_sites standing digits parts scopes_of signals_of places_of
driven_told = refl

-- ---- `posedge` before a parameter, a signal, and a name without a declaration

abbrev edge_of : List ℕ → Design
edge_of n = design_t (record {
  name = id (codes "t") 7;
  params = record { signed = false; range = None; list = record { name = id (codes "P") 20; value = plain 1 } ∷ [] } ∷ [];
  ports = p.Declared (clk ∷ input (codes "d") 30 None ∷ []);
  items = i.Always (w.Posedge (id n 60)) b.Null 50 ∷ [];
} ∷ [])

edges_told : map (λ n. refused (edge_of n)) (codes "P" ∷ codes "d" ∷ codes "z" ∷ codes "clk" ∷ []) ≡
    ((UnknownName, 60) ∷ (ClockUse, 50) ∷ (ClockUse, 60) ∷ []) ∷ ((ClockUse, 50) ∷ (ClockUse, 60) ∷ []) ∷ ((UnknownName, 60) ∷ (ClockUse, 50) ∷ (ClockUse, 60) ∷ []) ∷ [] ∷ []
unfolding read_expr read_select pieces executes turns turns_from flow labels as_target walk walk_select target_sites standing digits parts scopes_of signals_of places_of
edges_told = refl

-- ---- a range counts once for all names that it is for: wire [3:0] a, b;

abbrev two_wires : Design
two_wires = design_t (module_of (codes "t") (clk ∷ []) (i.Wire false (Some (bits 3 0)) (record { name = id (codes "a") 36; value = None } ∷ record { name = id (codes "b") 38; value = None } ∷ []) ∷ []) ∷ [])

two_nodes : (design_size two_wires).nodes ≡ 2
unfolding expr_nodes target_nodes stmt_size read_expr read_select pieces executes turns turns_from flow labels as_target walk walk_select target_sites standing digits parts scopes_of signals_of places_of
two_nodes = refl

-- ---- a result of one bit, a concatenation and a replication are extended by the sign that reaches them

abbrev no_names : Names
no_names p = None

abbrev equal_ones : Expr
equal_ones = bin o.Eq (sized 1 1) (sized 1 1)

abbrev joined_two : Expr
joined_two = cat (sized 2 2 ∷ [])

abbrev twice_one : Expr
twice_one = e.Rep' tt (more_of-Expr (plain 2) end_of-Expr) (tt ∷ []) (more_of-Expr (sized 1 1) end_of-Expr)

extended_by_sign : map {B = ℕ × ℕ} (λ x. (value_of no_names x 8 true (λ n. 0), value_of no_names x 8 false (λ n. 0))) (equal_ones ∷ joined_two ∷ twice_one ∷ []) ≡
    (255, 1) ∷ (254, 2) ∷ (255, 3) ∷ []
unfolding read_expr
extended_by_sign = refl

-- ---- an output that is connected to {a, 3}

-- module s(input clk, output y); assign y = 1'd1; endmodule
abbrev source_s : Module
source_s = module_of (codes "s") (input (codes "clk") 30 None ∷ output (codes "y") 31 (Some (bits 3 0)) ∷ []) (i.Assign (record { target = t.Name (path (codes "y") 33) []; value = sized 4 1; place = 33 } ∷ []) ∷ [])

abbrev joined_output : Expr → Design
joined_output x = design_t (module_of (codes "t") (clk ∷ output (codes "a") 60 None ∷ [])
    (i.Instance (id (codes "s") 80) [] (record { name = id (codes "v") 90; conns = linked (codes "clk") (name (codes "clk")) 91 ∷ linked (codes "y") x 92 ∷ [] } ∷ []) ∷ []) ∷ source_s ∷ [])

abbrev three_at : Expr
three_at = e.Lit (record { size = None; plain = true; signed = true; value = 3; wild = 0; place = 94 })

joined_told : map (λ x. refused (joined_output x)) (cat (name (codes "a") ∷ three_at ∷ []) ∷ three_at ∷ []) ≡
    ((Range, 94) ∷ (Port, 92) ∷ (Port, 92) ∷ (Port, 0) ∷ []) ∷ ((Port, 92) ∷ (Port, 92) ∷ (Port, 94) ∷ []) ∷ []
unfolding read_expr read_select pieces executes turns turns_from flow labels as_target walk walk_select target_sites standing digits parts scopes_of signals_of places_of
joined_told = refl

-- ---- two directions of two ranges: module t(a); input [3:0] a; input [7:0] a; endmodule

abbrev two_directions : Design
two_directions = design_t (record {
  name = id (codes "t") 7;
  params = [];
  ports = p.Names (id (codes "clk") 8 ∷ id (codes "a") 9 ∷ []);
  items = i.Port clk ∷ i.Port (input (codes "a") 20 (Some (bits 3 0))) ∷ i.Port (input (codes "a") 30 (Some (bits 7 0))) ∷ [];
} ∷ [])

directions_told : refused two_directions ≡ (Duplicate, 30) ∷ (Port, 20) ∷ (Port, 30) ∷ (Port, 30) ∷ (Port, 20) ∷ []
unfolding read_expr read_select pieces executes turns turns_from flow labels as_target walk walk_select target_sites standing digits parts scopes_of signals_of places_of
directions_told = refl

-- ---- `{a, b} <= x` in a combinational block is told at the brace or at a

abbrev braced : Design
braced = design_t (module_of (codes "t") (clk ∷ output_reg (codes "a") 30 None ∷ output_reg (codes "b") 31 None ∷ [])
    (always_star (b.Later (t.Cat' (tt ∷ tt ∷ []) (more_of-Target (t.Name (path (codes "a") 51) []) (more_of-Target (t.Name (path (codes "b") 54) []) end_of-Target))) (sized 2 1) 50) 42 ∷ []) ∷ [])

braced_told : refused braced ≡ (Nonblocking, 50) ∷ (Nonblocking, 51) ∷ []
unfolding read_expr read_select pieces executes turns turns_from flow labels as_target walk walk_select target_sites standing digits parts scopes_of signals_of places_of
braced_told = refl
