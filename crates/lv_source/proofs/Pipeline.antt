-- A pipeline of two stages, with an observed output.
use Rattle.std.specs.Fmt.{digits}
use Rattle.lv_source.specs.Meaning.{read_expr, read_select}
use Rattle.lv_source.specs.Effect.{pieces, executes, turns, turns_from}
use Rattle.lv_source.specs.Flow.{flow}
use Rattle.lv_source.specs.Declarations.{labels}
use Rattle.lv_source.specs.Parts.{as_target, parts, scopes_of, signals_of}
use Rattle.lv_source.specs.Sites.{walk, walk_select, target_sites}
use Rattle.lv_source.specs.Standing.{standing}
use Rattle.std.specs.Prelude.{◌≡◌, ℕ, List, [], ◌∷◌, ◌++◌, Option, Some, None, codes, refl}
use Rattle.lv_bits.specs.declared.op.Op.TheVariants as o
use Rattle.lv_ast.specs.declared.stmt.Stmt.TheVariants as b
use Rattle.lv_ast.specs.declared.item.Item.{Item}
use Rattle.lv_ast.specs.declared.item.Item.TheVariants as i
use Rattle.lv_ast.specs.declared.item.Module.{Module}
use Rattle.lv_ast.specs.declared.item.Range.{Range}
use Rattle.lv_source.specs.Parts.{Design, registers_of, inputs_of}
use Rattle.lv_source.proofs.Build.{refused}
use Rattle.lv_ast.proofs.Build.{id, name, bin, to, sized, bits, block, input, output, output_reg, assign, module_of, at_clock, reg, wire, wire_with, linked, clk}
use Rattle.lv_source.specs.Legal.{places_of}

abbrev byte : Option Range
byte = Some (bits 7 0)

abbrev module_stage : Module
module_stage = module_of (codes "stage") (clk ∷ input (codes "iv") 30 None ∷ input (codes "ix") 40 byte ∷ output_reg (codes "ov") 50 None ∷ output_reg (codes "ox") 60 byte ∷ [])
    (at_clock (block (b.Later (to (codes "ov")) (name (codes "iv")) 80 ∷ b.Later (to (codes "ox")) (bin o.Add (name (codes "ix")) (sized 8 1)) 90 ∷ [])) 70 ∷ [])

-- one more stage, after those named v and x
abbrev stage : List ℕ → List ℕ → List ℕ → List Item
stage n v x =
    wire (codes "v" ++ n) 200 None ∷ wire (codes "x" ++ n) 210 byte ∷
    i.Instance (id (codes "stage") 220) [] (record {
      name = id (codes "u" ++ n) 230;
      conns =
          linked (codes "clk") (name (codes "clk")) 240 ∷ linked (codes "iv") (name v) 250 ∷ linked (codes "ix") (name x) 260 ∷
          linked (codes "ov") (name (codes "v" ++ n)) 270 ∷ linked (codes "ox") (name (codes "x" ++ n)) 280 ∷ [];
    } ∷ []) ∷ []

abbrev pipeline : Design
pipeline = record {
  source = record {
    modules =
        module_stage ∷
        module_of (codes "core") (clk ∷ input (codes "go") 130 None ∷ input (codes "d") 140 byte ∷ output (codes "done") 150 None ∷ output (codes "y") 160 byte ∷ []) (
        reg (codes "key") 170 byte None ∷ wire_with (codes "v0") 180 None (name (codes "go")) ∷ wire_with (codes "x0") 190 byte (bin o.Xor (name (codes "d")) (name (codes "key"))) ∷
        stage (codes "1") (codes "v0") (codes "x0") ++ stage (codes "2") (codes "v1") (codes "x1") ++
        assign (to (codes "done")) (name (codes "v2")) 300 ∷ assign (to (codes "y")) (name (codes "x2")) 310 ∷ []) ∷ [];
  };
  top = codes "core";
  clock = codes "clk";
}

registers_are : registers_of pipeline ≡ codes "key" ∷ codes "u1.ov" ∷ codes "u1.ox" ∷ codes "u2.ov" ∷ codes "u2.ox" ∷ []
unfolding read_expr read_select pieces executes turns turns_from flow labels as_target walk walk_select target_sites standing digits parts scopes_of signals_of places_of
registers_are = refl

inputs_are : inputs_of pipeline ≡ codes "go" ∷ codes "d" ∷ []
unfolding read_expr read_select pieces executes turns turns_from flow labels as_target walk walk_select target_sites standing digits parts scopes_of signals_of places_of
inputs_are = refl

rules_hold : refused pipeline ≡ []
unfolding read_expr read_select pieces executes turns turns_from flow labels as_target walk walk_select target_sites standing digits parts scopes_of signals_of places_of
rules_hold = refl
