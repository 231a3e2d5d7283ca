use Rattle.std.proofs.Common.{◌≡◌, [], map, take}
use Rattle.lv_source.specs.Legal.{modules_again}
use Rattle.lv_scopes.specs.Modules.{module_name}
use Rattle.lv_scopes.proofs.modules.Modules.new.Given as goal

abbrev pub invariant-loop-module : goal.invariant-loop-module
invariant-loop-module l = (map (λ k. k.items) l.names.keys ≡ map module_name (take l.module-index l.modules)) ×
    (modules_again (take l.module-index l.modules) ≡ [])
