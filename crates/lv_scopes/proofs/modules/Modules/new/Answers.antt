use Rattle.std.proofs.Common.{◌≡◌, ◌+◌, true, false, List, [], ◌∷◌, ◌++◌, map, take, drop, sym, ap, ◌∙◌, subst}
use Rattle.std.specs.Prelude.{bytes_eq, Contains}
use Rattle.std.specs.List.{list_any}
use Rattle.lv_ast.specs.declared.item.Module.{Module}
use Rattle.lv_source.specs.Legal.{at_top, modules_again}
use Rattle.lv_source.proofs.Bridges.{map-join}
use Rattle.lv_scopes.specs.Modules.{module_name}
use Rattle.lv_scopes.proofs.ByName.{has, again_more, again_told, keys_have, take_next, parted, absent, present, pushed}
use Rattle.lv_scopes.proofs.modules.Modules.new.Goals as goal

pub returns-then-not-added-clause-wrong : goal.returns-then-not-added-clause-wrong
returns-then-not-added-clause-wrong c =
    let n : Module = c.module-item.result in
    let ms : List Module = take c.loop-module.module-index c.args.modules.now in
    let b : list_any (λ k. bytes_eq c.in-Ok.name.items k.items) c.loop-module.names.keys ≡ true =
    present c.in-Ok-insert_full.added _ c.in-Ok-insert_full.ensures.added c.if-not-added.true in
    let t : has ms (module_name n) ≡ true =
    ap (has ms) (sym (c.in-Ok.ensures.items ∙ c.bytes.ensures)) ∙
    sym (keys_have (λ k. k.items) c.loop-module.names.keys ms c.in-Ok.name.items c.loop-module.invariant.0) ∙ b in
    subst (λ xs. Contains (modules_again xs) (at_top n.name.place))
    (sym (parted c.args.modules.now c.loop-module.module-index n c.loop-module-test.true c.module-item.is))
    (again_told ms n (drop (c.loop-module.module-index + 1) c.args.modules.now) t)

pub loop-module-preserved : goal.loop-module-preserved
loop-module-preserved c =
    let n : Module = c.module-item.result in
    let ms : List Module = take c.loop-module.module-index c.args.modules.now in
    let e : c.in-Ok.name.items ≡ module_name n = c.in-Ok.ensures.items ∙ c.bytes.ensures in
    let b : list_any (λ k. bytes_eq c.in-Ok.name.items k.items) c.loop-module.names.keys ≡ false =
    absent c.in-Ok-insert_full.added _ c.in-Ok-insert_full.ensures.added c.if-not-added.false in
    let t : has ms (module_name n) ≡ false =
    ap (has ms) (sym e) ∙ sym (keys_have (λ k. k.items) c.loop-module.names.keys ms c.in-Ok.name.items c.loop-module.invariant.0) ∙ b in
    let more : take (c.loop-module.module-index + 1) c.args.modules.now ≡ ms ++ n ∷ [] =
    take_next c.args.modules.now c.loop-module.module-index n c.loop-module-test.true c.module-item.is in (
      ap (map (λ k. k.items)) (pushed c.loop-module.names.keys c.insert_full.new.self.keys c.in-Ok.name _ b c.in-Ok-insert_full.ensures.keys) ∙
          map-join (λ k. k.items) c.loop-module.names.keys (c.in-Ok.name ∷ []) ∙
          ap (λ zs. zs ++ c.in-Ok.name.items ∷ []) c.loop-module.invariant.0 ∙ ap (λ z. map module_name ms ++ z ∷ []) e ∙
          sym (map-join module_name ms (n ∷ [])) ∙ sym (ap (map module_name) more),
      ap modules_again more ∙ again_more ms n c.loop-module.invariant.1 t,
    )
