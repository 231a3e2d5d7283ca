-- What can be read around a turn of a loop.
use Rattle.std.specs.Prelude.{ℕ, Bool, true, false, List, Option, Some, None}
use Rattle.std.specs.Borrow.{Bor}
use Rattle.lv_ast.specs.declared.expr.Path.{Path}
use Rattle.lv_source.specs.Names.{Declared}
use Rattle.lv_const.specs.Constants.{names_of}
use Rattle.lv_const.specs.declared.consts.Entry.{Entry}
use Rattle.lv_declared.specs.declared.declaration.Declaration.{Declaration as Code}
use Rattle.lv_declared.specs.Listing.{all_declared}
use Rattle.lv_late.specs.declared.names.Names.{Names}
use Rattle.lv_late.specs.Lates.{Said}
use Rattle.lv_late.specs.declared.outer.Outer.{Outer}

-- what is bound, or a constant
abbrev pub can_read : Option ℕ → Option Declared → Bool
can_read None None = false
can_read None (Some d) = true
can_read (Some k) all = true

-- around a module there is nothing
abbrev pub read_around : {B : Type 0} → (B → Path → Option ℕ) → Option (Bor (Outer B)) → Path → Bool
read_around find None p = false
read_around find (Some o) p = can_read (find o.now.bindings.now p) (names_of o.now.all.now p)

-- what the names of a scope say
abbrev pub said_by : {B : Type 0} → (B → Path → Option ℕ) → Names B → Said
said_by find n = record {
  declarations = all_declared n.declarations.now;
  base = names_of n.base.now;
  read = read_around find n.around;
}

abbrev pub said_of : {B : Type 0} → (B → Path → Option ℕ) → List Code → List Entry → Option (Bor (Outer B)) → Said
said_of find ds base around = record { declarations = all_declared ds; base = names_of base; read = read_around find around }
