-- Constants, parameters, instances and generate loops.
use Rattle.std.specs.Fmt.{digits}
use Rattle.lv_source.specs.Meaning.{read_expr, read_select}
use Rattle.lv_source.specs.Effect.{pieces, executes, turns, turns_from}
use Rattle.lv_source.specs.Flow.{flow}
use Rattle.lv_source.specs.Declarations.{labels}
use Rattle.lv_source.specs.Parts.{as_target, parts, scopes_of, signals_of}
use Rattle.lv_source.specs.Sites.{walk, walk_select, target_sites}
use Rattle.lv_source.specs.Standing.{standing}
use Rattle.std.specs.Prelude.{◌≡◌, ℕ, true, false, [], ◌∷◌, map, Some, None, codes, refl}
use Rattle.lv_bits.specs.declared.op.Op.TheVariants as o
use Rattle.lv_ast.specs.declared.expr.Expr.{Expr, end_of-Expr, more_of-Expr}
use Rattle.lv_ast.specs.declared.expr.Expr.TheVariants as e
use Rattle.lv_ast.specs.declared.stmt.Stmt.TheVariants as b
use Rattle.lv_ast.specs.declared.item.Item.TheVariants as i
use Rattle.lv_ast.specs.declared.item.Module.{Module}
use Rattle.lv_ast.specs.declared.item.Params.{Params}
use Rattle.lv_ast.specs.declared.item.Ports.TheVariants as p
use Rattle.lv_source.specs.Names.{Names, width_of}
use Rattle.lv_source.specs.Meaning.{constant_value}
use Rattle.lv_source.specs.Parts.{Design, parts, scopes_of, signals_of, registers_of, inputs_of, after}
use Rattle.lv_ast.proofs.Build.{id, name, bin, un, to, bit, chosen, plain, bits, input, output, output_reg, module_of, clk, at_clock, wire, wire_with, valued, turns_of, linked, ordered, width}
use Rattle.lv_source.proofs.Build.{design_t, refused}
use Rattle.lv_source.specs.Legal.{places_of}

-- ---- division and constants

abbrev pub divided_by : Expr → Expr → Expr
divided_by a b = e.Div' tt (more_of-Expr a end_of-Expr) tt (more_of-Expr b end_of-Expr)

abbrev no_names : Names
no_names p = None

-- 7 / 2 - 1
seven_by_two : constant_value no_names (bin o.Sub (divided_by (plain 7) (plain 2)) (plain 1)) ≡ 2
unfolding read_expr read_select pieces executes turns turns_from flow labels as_target walk walk_select target_sites standing digits parts scopes_of signals_of places_of
seven_by_two = refl

-- (-7) / 2, towards zero
minus_seven_by_two : constant_value no_names (divided_by (un o.Neg (plain 7)) (plain 2)) ≡ 4294967293
unfolding read_expr read_select pieces executes turns turns_from flow labels as_target walk walk_select target_sites standing digits parts scopes_of signals_of places_of
minus_seven_by_two = refl

-- ---- a parameter that sets a width, and an instance that sets the parameter

abbrev pub parameter_n : ℕ → Params
parameter_n value = record { signed = false; range = None; list = record { name = id (codes "N") 20; value = plain value } ∷ [] }

-- module s #(parameter N = 4)(input clk, input [N-1:0] a, output reg [N-1:0] q); always @(posedge clk) q <= a; endmodule
abbrev pub module_s : Module
module_s = record {
  name = id (codes "s") 10;
  params = parameter_n 4 ∷ [];
  ports = p.Declared (input (codes "clk") 30 None ∷ input (codes "a") 31 (Some width) ∷ output_reg (codes "q") 32 (Some width) ∷ []);
  items = at_clock (b.Later (to (codes "q")) (name (codes "a")) 40) 35 ∷ [];
}

-- wire [7:0] w; s #(.N(8)) \u+ (.clk(clk), .a(x), .q(w)); s v (clk, x, y);
abbrev two_instances : Design
two_instances = design_t (
    module_of (codes "t") (clk ∷ input (codes "x") 60 (Some (bits 7 0)) ∷ output (codes "y") 61 (Some (bits 3 0)) ∷ []) (
    wire (codes "w") 70 (Some (bits 7 0)) ∷
    i.Instance (id (codes "s") 80) (linked (codes "N") (plain 8) 82 ∷ []) (record {
      name = id (codes "u+") 90;
      conns = linked (codes "clk") (name (codes "clk")) 91 ∷ linked (codes "a") (name (codes "x")) 92 ∷ linked (codes "q") (name (codes "w")) 93 ∷ [];
    } ∷ []) ∷
    i.Instance (id (codes "s") 100) [] (record {
      name = id (codes "v") 110;
      conns = ordered (name (codes "clk")) 111 ∷ ordered (name (codes "x")) 112 ∷ ordered (name (codes "y")) 113 ∷ [];
    } ∷ []) ∷ []) ∷
    module_s ∷ [])

paths : map (λ s. s.path) (scopes_of two_instances) ≡ [] ∷ codes "\\u+ " ∷ codes "v" ∷ []
unfolding read_expr read_select pieces executes turns turns_from flow labels as_target walk walk_select target_sites standing digits parts scopes_of signals_of places_of
paths = refl

registers_are : registers_of two_instances ≡ codes "\\u+ .q" ∷ codes "v.q" ∷ []
unfolding read_expr read_select pieces executes turns turns_from flow labels as_target walk walk_select target_sites standing digits parts scopes_of signals_of places_of
registers_are = refl

inputs_are : inputs_of two_instances ≡ codes "x" ∷ []
unfolding read_expr read_select pieces executes turns turns_from flow labels as_target walk walk_select target_sites standing digits parts scopes_of signals_of places_of
inputs_are = refl

widths_are : map (λ s. width_of s) (signals_of two_instances) ≡ 8 ∷ 4 ∷ 8 ∷ 8 ∷ 8 ∷ 4 ∷ 4 ∷ []
unfolding read_expr read_select pieces executes turns turns_from flow labels as_target walk walk_select target_sites standing digits parts scopes_of signals_of places_of
widths_are = refl

is_legal : refused two_instances ≡ []
unfolding read_expr read_select pieces executes turns turns_from flow labels as_target walk walk_select target_sites standing digits parts scopes_of signals_of places_of
is_legal = refl

places_are : map (λ p. p.at.place) (parts two_instances) ≡ 92 ∷ 93 ∷ 112 ∷ 113 ∷ 35 ∷ 35 ∷ []
unfolding read_expr read_select pieces executes turns turns_from flow labels as_target walk walk_select target_sites standing digits parts scopes_of signals_of places_of
places_are = refl

-- the connection of a drops the high bits
dropped : map (λ p. after p (valued ((codes "x", 255) ∷ [])) (codes "v.a")) (parts two_instances) ≡ 0 ∷ 0 ∷ 15 ∷ 0 ∷ 0 ∷ 0 ∷ []
unfolding read_expr read_select pieces executes turns turns_from flow labels as_target walk walk_select target_sites standing digits parts scopes_of signals_of places_of
dropped = refl

-- ---- a generate loop: for (g = 0; g < 2; g = g + 1) begin : lane wire w = x[g]; end

abbrev lanes : Design
lanes = design_t (module_of (codes "t") (clk ∷ input (codes "x") 60 (Some (bits 1 0)) ∷ []) (
    i.Index true (id (codes "g") 70 ∷ []) ∷
    turns_of (id (codes "g") 80) (plain 0) (bin o.Lt (name (codes "g")) (plain 2)) (id (codes "g") 85) (bin o.Add (name (codes "g")) (plain 1)) (id (codes "lane") 90)
    (wire_with (codes "w") 95 None (chosen (codes "x") (bit (name (codes "g")) ∷ [])) ∷ []) ∷ []) ∷ [])

lane_paths : map (λ s. s.path) (signals_of lanes) ≡ codes "x" ∷ codes "lane[0].w" ∷ codes "lane[1].w" ∷ []
unfolding read_expr read_select pieces executes turns turns_from flow labels as_target walk walk_select target_sites standing digits parts scopes_of signals_of places_of
lane_paths = refl

lane_values : map (λ p. after p (valued ((codes "x", 2) ∷ [])) (codes "lane[1].w")) (parts lanes) ≡ 0 ∷ 1 ∷ []
unfolding read_expr read_select pieces executes turns turns_from flow labels as_target walk walk_select target_sites standing digits parts scopes_of signals_of places_of
lane_values = refl

lanes_legal : refused lanes ≡ []
unfolding read_expr read_select pieces executes turns turns_from flow labels as_target walk walk_select target_sites standing digits parts scopes_of signals_of places_of
lanes_legal = refl
