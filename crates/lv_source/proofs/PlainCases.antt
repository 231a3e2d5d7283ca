-- Names with a space inside can make two signals one, and those that tokens spell can't.
use Rattle.std.specs.Fmt.{digits}
use Rattle.lv_source.specs.Meaning.{read_expr, read_select}
use Rattle.lv_source.specs.Effect.{pieces, executes, turns, turns_from}
use Rattle.lv_source.specs.Flow.{flow}
use Rattle.lv_source.specs.Declarations.{labels}
use Rattle.lv_source.specs.Parts.{as_target, parts, scopes_of, signals_of}
use Rattle.lv_source.specs.Sites.{walk, walk_select, target_sites}
use Rattle.lv_source.specs.Standing.{standing}
use Rattle.std.specs.Prelude.{◌≡◌, ℕ, true, false, List, [], ◌∷◌, map, None, codes, refl}
use Rattle.std.specs.List.{list_all}
use Rattle.lv_ast.specs.declared.item.Item.TheVariants as i
use Rattle.lv_source.specs.Parts.{Design, signals_of}
use Rattle.lv_ast.specs.PlainNames.{plain_module}
use Rattle.lv_ast.proofs.Build.{id, module_of, wire}
use Rattle.lv_source.proofs.Build.{design_t}
use Rattle.lv_source.specs.Legal.{places_of}

-- a wire of this name, beside an instance x+ with a wire q-
abbrev beside : List ℕ → Design
beside n = design_t (
    module_of (codes "t") [] (wire n 36 None ∷ i.Instance (id (codes "s") 80) [] (record { name = id (codes "x+") 90; conns = [] } ∷ []) ∷ []) ∷
    module_of (codes "s") [] (wire (codes "q-") 36 None ∷ []) ∷ [])

one_path : map (λ s. s.path) (signals_of (beside (codes "x+ .\\q-"))) ≡ codes "\\x+ .\\q- " ∷ codes "\\x+ .\\q- " ∷ []
unfolding read_expr read_select pieces executes turns turns_from flow labels as_target walk walk_select target_sites standing digits parts scopes_of signals_of places_of
one_path = refl

is_not_plain : map (λ n. list_all plain_module (beside n).source.modules) (codes "x+ .\\q-" ∷ codes "w" ∷ []) ≡ false ∷ true ∷ []
is_not_plain = refl
