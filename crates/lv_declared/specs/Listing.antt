-- The declarations that stand in a list, as those of `lv_source`.
use Rattle.std.specs.Prelude.{ℕ, List, map}
use Rattle.lv_ast.specs.declared.item.Item.{Item}
use Rattle.lv_source.specs.Declarations as s
use Rattle.lv_declared.specs.declared.declaration.Thing.{Thing}
use Rattle.lv_declared.specs.declared.declaration.Thing.TheVariants as t
use Rattle.lv_declared.specs.declared.declaration.Declaration.{Declaration}
use Rattle.lv_declared.specs.declared.listed.Counted.{Counted}

abbrev pub thing_of : Thing → s.Thing
thing_of (t.Direction output word signed range) = s.Direction output word signed range.now
thing_of (t.Wire signed range) = s.Wire signed range.now
thing_of (t.Reg signed range bounds) = s.Reg signed range.now bounds.now
thing_of (t.Parameter local signed range value) = s.Parameter local signed range.now value.now
thing_of (t.Index genvar) = s.Index genvar
thing_of t.Instance = s.Instance
thing_of t.Label = s.Label

abbrev pub declared : Declaration → s.Declaration
declared d = record { name = d.name.now; thing = thing_of d.thing }

abbrev pub all_declared : List Declaration → List s.Declaration
all_declared ds = map declared ds

-- an item with the count of the declarations that stand before it
abbrev pub counted : Counted → ℕ × Item
counted c = (c.before, c.item.now)
