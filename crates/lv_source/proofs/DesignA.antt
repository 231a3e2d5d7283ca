-- A register q that becomes q ^ d in each cycle.
use Rattle.std.specs.Fmt.{digits}
use Rattle.lv_source.specs.Meaning.{read_expr, read_select}
use Rattle.lv_source.specs.Effect.{pieces, executes, turns, turns_from}
use Rattle.lv_source.specs.Flow.{flow}
use Rattle.lv_source.specs.Declarations.{labels}
use Rattle.lv_source.specs.Parts.{as_target, parts, scopes_of, signals_of}
use Rattle.lv_source.specs.Sites.{walk, walk_select, target_sites}
use Rattle.lv_source.specs.Standing.{standing}
use Rattle.std.specs.Prelude.{◌≡◌, [], ◌∷◌, map, None, codes, refl}
use Rattle.lv_bits.specs.declared.op.Op.TheVariants as o
use Rattle.lv_ast.specs.declared.stmt.Stmt.TheVariants as b
use Rattle.lv_ast.specs.declared.item.Item.TheVariants as i
use Rattle.lv_ast.specs.declared.item.Watch.TheVariants as w
use Rattle.lv_ast.specs.declared.item.Ports.TheVariants as p
use Rattle.lv_ast.specs.declared.item.Module.{Module}
use Rattle.lv_source.specs.Parts.{Design, signals_of, registers_of, inputs_of, parts, drives, reads}
use Rattle.lv_source.specs.Settled.{idle_bits}
use Rattle.lv_ast.proofs.Build.{id, name, bin, to, input, output_reg}
use Rattle.lv_source.specs.Legal.{places_of}

abbrev pub module_t : Module
module_t = record {
  name = id (codes "t") 7;
  params = [];
  ports = p.Declared (input (codes "clk") 15 None ∷ input (codes "d") 26 None ∷ output_reg (codes "q") 40 None ∷ []);
  items = i.Always (w.Posedge (id (codes "clk") 64)) (b.Later (to (codes "q")) (bin o.Xor (name (codes "q")) (name (codes "d"))) 69) 47 ∷ [];
}

abbrev pub design : Design
design = record { source = record { modules = module_t ∷ [] }; top = codes "t"; clock = codes "clk" }

signals_are : map (λ s. s.path) (signals_of design) ≡ codes "d" ∷ codes "q" ∷ []
unfolding read_expr read_select pieces executes turns turns_from flow labels as_target walk walk_select target_sites standing digits parts scopes_of signals_of places_of
signals_are = refl

registers_are : registers_of design ≡ codes "q" ∷ []
unfolding read_expr read_select pieces executes turns turns_from flow labels as_target walk walk_select target_sites standing digits parts scopes_of signals_of places_of
registers_are = refl

inputs_are : inputs_of design ≡ codes "d" ∷ []
unfolding read_expr read_select pieces executes turns turns_from flow labels as_target walk walk_select target_sites standing digits parts scopes_of signals_of places_of
inputs_are = refl

drives_are : map drives (parts design) ≡ (record { name = codes "q"; place = 0 } ∷ []) ∷ []
unfolding read_expr read_select pieces executes turns turns_from flow labels as_target walk walk_select target_sites standing digits parts scopes_of signals_of places_of
drives_are = refl

reads_are : map reads (parts design) ≡ (record { name = codes "q"; place = 0 } ∷ record { name = codes "d"; place = 0 } ∷ []) ∷ []
unfolding read_expr read_select pieces executes turns turns_from flow labels as_target walk walk_select target_sites standing digits parts scopes_of signals_of places_of
reads_are = refl

none_is_idle : idle_bits design ≡ []
unfolding read_expr read_select pieces executes turns turns_from flow labels as_target walk walk_select target_sites standing digits parts scopes_of signals_of places_of
none_is_idle = refl
