use Rattle.std.proofs.Common.{◌≡◌, map, length, take}
use Rattle.lv_ast.specs.Names.{Name}
use Rattle.lv_scopes.specs.NameLists.{listed}
use Rattle.lv_symbols.specs.Giving.{value_beside}
use Rattle.lv_symbols.proofs.GivenLaws.{first_value}
use Rattle.lv_symbols.proofs.givens.Givens.new.Given as goal

abbrev pub invariant-loop-given : goal.invariant-loop-given
invariant-loop-given l = (length (listed l.names) ≡ length (map (λ v. v.now) l.values.items)) ×
    ((name : Name) → value_beside (listed l.names) (map (λ v. v.now) l.values.items) name ≡ first_value (take l.given-index l.list) name)
