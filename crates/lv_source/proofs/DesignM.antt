-- Two assignments that read each other: legal but for the circle.
use Rattle.std.specs.Fmt.{digits}
use Rattle.lv_source.specs.Meaning.{read_expr, read_select}
use Rattle.lv_source.specs.Effect.{pieces, executes, turns, turns_from}
use Rattle.lv_source.specs.Flow.{flow}
use Rattle.lv_source.specs.Declarations.{labels}
use Rattle.lv_source.specs.Parts.{as_target, parts, scopes_of, signals_of}
use Rattle.lv_source.specs.Sites.{walk, walk_select, target_sites}
use Rattle.lv_source.specs.Standing.{standing}
use Rattle.std.specs.Prelude.{◌≡◌, true, false, [], ◌∷◌, None, codes, refl}
use Rattle.lv_bits.specs.declared.op.Op.TheVariants as o
use Rattle.lv_ast.specs.declared.item.Item.TheVariants as i
use Rattle.lv_ast.specs.declared.item.Ports.TheVariants as p
use Rattle.lv_ast.specs.declared.item.Module.{Module}
use Rattle.lv_source.specs.Parts.{Design, parts}
use Rattle.lv_source.specs.PartRules.{is_cycle}
use Rattle.lv_source.proofs.Build.{refused}
use Rattle.lv_ast.proofs.Build.{id, name, un, to, input, assign}
use Rattle.lv_source.specs.Legal.{places_of}

abbrev pub module_t : Module
module_t = record {
  name = id (codes "t") 7;
  params = [];
  ports = p.Declared (input (codes "clk") 15 None ∷ []);
  items =
      i.Wire false None (record { name = id (codes "a") 28; value = None } ∷ []) ∷
      i.Wire false None (record { name = id (codes "b") 38; value = None } ∷ []) ∷
      assign (to (codes "a")) (un o.Not (name (codes "b"))) 50 ∷
      assign (to (codes "b")) (un o.Not (name (codes "a"))) 67 ∷ [];
}

abbrev pub design : Design
design = record { source = record { modules = module_t ∷ [] }; top = codes "t"; clock = codes "clk" }

nothing_else_refused : refused design ≡ []
unfolding read_expr read_select pieces executes turns turns_from flow labels as_target walk walk_select target_sites standing digits parts scopes_of signals_of places_of
nothing_else_refused = refl

is_circular : is_cycle (parts design) (0 ∷ 1 ∷ []) ≡ true
unfolding read_expr read_select pieces executes turns turns_from flow labels as_target walk walk_select target_sites standing digits parts scopes_of signals_of places_of
is_circular = refl

not_alone : is_cycle (parts design) (0 ∷ []) ≡ false
unfolding read_expr read_select pieces executes turns turns_from flow labels as_target walk walk_select target_sites standing digits parts scopes_of signals_of places_of
not_alone = refl
