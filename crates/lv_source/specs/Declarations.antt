-- The declarations of a module or of a generate block, in the order of the text (IEEE 1364-2005, section 12).
use Rattle.std.specs.Prelude.{Bool, false, List, [], ◌∷◌, ◌++◌, map, bytes_eq, Option, Some, None, flat_map, filter}
use Rattle.lv_ast.specs.declared.expr.Expr.{Expr}
use Rattle.lv_ast.specs.declared.stmt.Ident.{Ident}
use Rattle.lv_ast.specs.declared.stmt.Stmt.{Stmt}
use Rattle.lv_ast.specs.declared.stmt.Stmt.TheOpen.{Stmt-F}
use Rattle.lv_ast.specs.declared.item.Item.{Item}
use Rattle.lv_ast.specs.declared.item.Item.TheVariants as i
use Rattle.lv_ast.specs.declared.item.Range.{Range}
use Rattle.lv_ast.specs.declared.item.Params.{Params}
use Rattle.lv_ast.specs.declared.item.Aport.{Aport}
use Rattle.lv_ast.specs.declared.item.PortWord.{PortWord}
use Rattle.lv_ast.specs.declared.item.Ports.{Ports}
use Rattle.lv_ast.specs.declared.item.Ports.TheVariants as p
use Rattle.lv_ast.specs.declared.item.Module.{Module}
use Rattle.lv_ast.specs.Trees.{fold_stmt, spread}
use Rattle.lv_ast.specs.Names.{Name}
use Rattle.lv_source.specs.Effect.{ArmOf, arm_step}

pub data Thing : Type 0 where
  Direction : (output : Bool) → (word : PortWord) → (signed : Bool) → (range : Option Range) → Thing
  Wire : (signed : Bool) → (range : Option Range) → Thing
  Reg : (signed : Bool) → (range : Option Range) → (bounds : Option Range) → Thing
  Parameter : (local : Bool) → (signed : Bool) → (range : Option Range) → (value : Expr) → Thing
  Index : (genvar : Bool) → Thing
  Instance : Thing
  Label : Thing

pub record Declaration : Type 0 where
  pub name : Ident
  pub thing : Thing

abbrev pub declare : Thing → Ident → Declaration
declare thing name = record { name = name; thing = thing }

-- ---- the names of blocks in a statement

abbrev pub label_of : Option Ident → List Ident
label_of None = []
label_of (Some name) = name ∷ []

abbrev pub labels_or : Option (List Ident) → List Ident
labels_or None = []
labels_or (Some xs) = xs

abbrev pub label_step : Stmt-F (List Ident) (ArmOf (List Ident)) → List Ident
label_step (Stmt-F.Block name body) = label_of name ++ flat_map (λ xs. xs) body
label_step (Stmt-F.If x a b) = a ++ labels_or b
label_step (Stmt-F.Case wild x arms) = flat_map (λ a. a.body) arms
label_step (Stmt-F.Loop index start test again next body) = body
label_step _ = []

unfoldable pub labels : Stmt → List Ident
labels s = fold_stmt (List Ident) (ArmOf (List Ident)) label_step arm_step s

-- ---- declarations

abbrev pub of_port : Aport → List Declaration
of_port a = map (declare (Direction a.output a.word a.signed a.range)) a.names

abbrev pub of_params : Bool → Params → List Declaration
of_params local ps = map (λ s. declare (Parameter local ps.signed ps.range s.value) s.name) ps.list

abbrev pub of_item : Item → List Declaration
of_item (i.Port a) = of_port a
of_item (i.Wire signed range names) = map (λ n. declare (Wire signed range) n.name) names
of_item (i.Reg signed range names) = map (λ n. declare (Reg signed range n.bounds) n.name) names
of_item (i.Index genvar names) = map (declare (Index genvar)) names
of_item (i.Params local ps) = of_params local ps
of_item (i.Always watch s place) = map (declare Label) (labels s)
of_item (i.Instance kind settings insts) = map (λ n. declare Instance n.name) insts
of_item (i.Loop' index start test again next label n items) = declare Label label ∷ []
of_item _ = []

abbrev pub of_items : List Item → List Declaration
of_items items = flat_map of_item items

abbrev pub of_ports : Ports → List Declaration
of_ports (p.Declared ports) = flat_map of_port ports
of_ports _ = []

-- the items of a module, with those of `generate` in their place
abbrev pub module_items : Module → List Item
module_items m = flat_map spread m.items

abbrev pub of_module : Module → List Declaration
of_module m = flat_map (of_params false) m.params ++ of_ports m.ports ++ of_items (module_items m)

-- the ports of a module in order
abbrev pub port_names : Ports → List Ident
port_names (p.Names names) = names
port_names (p.Declared ports) = flat_map (λ a. a.names) ports
port_names _ = []

abbrev pub declared_as : Name → List Declaration → List Declaration
declared_as name ds = filter (λ d. bytes_eq d.name.name name) ds
