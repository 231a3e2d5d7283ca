-- Whole sources without their places: each place is 0.
use Rattle.std.specs.Prelude.{List, [], ◌∷◌, map, option_map}
use Rattle.lv_ast.specs.declared.stmt.Ident.{Ident}
use Rattle.lv_ast.specs.declared.stmt.Target.{Target}
use Rattle.lv_ast.specs.declared.stmt.Target.TheVariants as t
use Rattle.lv_ast.specs.declared.stmt.Target.TheOpen.{Target-F}
use Rattle.lv_ast.specs.declared.stmt.Arm.{Arm}
use Rattle.lv_ast.specs.declared.stmt.Stmt.{Stmt}
use Rattle.lv_ast.specs.declared.stmt.Stmt.TheVariants as b
use Rattle.lv_ast.specs.declared.stmt.Stmt.TheOpen.{Stmt-F, Arm-F}
use Rattle.lv_ast.specs.declared.item.Range.{Range}
use Rattle.lv_ast.specs.declared.item.Setting.{Setting}
use Rattle.lv_ast.specs.declared.item.Params.{Params}
use Rattle.lv_ast.specs.declared.item.Aport.{Aport}
use Rattle.lv_ast.specs.declared.item.Ports.{Ports}
use Rattle.lv_ast.specs.declared.item.Ports.TheVariants as ports
use Rattle.lv_ast.specs.declared.item.NetName.{NetName}
use Rattle.lv_ast.specs.declared.item.RegName.{RegName}
use Rattle.lv_ast.specs.declared.item.Continuous.{Continuous}
use Rattle.lv_ast.specs.declared.item.Watch.{Watch}
use Rattle.lv_ast.specs.declared.item.Watch.TheVariants as w
use Rattle.lv_ast.specs.declared.item.Conn.{Conn}
use Rattle.lv_ast.specs.declared.item.Inst.{Inst}
use Rattle.lv_ast.specs.declared.item.Item.{Item, Row_of-Item, end_of-Item, more_of-Item}
use Rattle.lv_ast.specs.declared.item.Item.TheVariants as i
use Rattle.lv_ast.specs.declared.item.Module.{Module}
use Rattle.lv_ast.specs.declared.item.Source.{Source}
use Rattle.lv_ast.specs.Trees.{fold_target, fold_stmt}
use Rattle.lv_print.specs.Unplaced.{path, expr, select}

abbrev pub ident : Ident → Ident
ident x = record x { place = 0 }

abbrev pub range : Range → Range
range r = record { left = expr r.left; right = expr r.right }

-- ---- targets and statements

abbrev pub target_step : Target-F Target → Target
target_step (Target-F.Name p ss) = t.Name (path p) (map select ss)
target_step (Target-F.Cat ts) = t.Cat ts

unfoldable pub target : Target → Target
target x = fold_target Target target_step x

abbrev pub stmt_step : Stmt-F Stmt Arm → Stmt
stmt_step Stmt-F.Null = b.Null
stmt_step (Stmt-F.Block label ss) = b.Block (option_map ident label) ss
stmt_step (Stmt-F.If c s other) = b.If (expr c) s other
stmt_step (Stmt-F.Case wild x arms) = b.Case wild (expr x) arms
stmt_step (Stmt-F.Loop index start test again next s) = b.Loop (ident index) (expr start) (expr test) (ident again) (expr next) s
stmt_step (Stmt-F.Now x y place) = b.Now (target x) (expr y) 0
stmt_step (Stmt-F.Later x y place) = b.Later (target x) (expr y) 0

abbrev pub arm_step : Arm-F Stmt Arm → Arm
arm_step a = record { labels = map expr a.labels; body = a.body }

unfoldable pub stmt : Stmt → Stmt
stmt s = fold_stmt Stmt Arm stmt_step arm_step s

abbrev pub arm : Arm → Arm
arm a = record { labels = map expr a.labels; body = stmt a.body }

-- ---- declarations and items

abbrev pub setting : Setting → Setting
setting s = record { name = ident s.name; value = expr s.value }

abbrev pub params : Params → Params
params p = record { signed = p.signed; range = option_map range p.range; list = map setting p.list }

abbrev pub port : Aport → Aport
port a = record { output = a.output; word = a.word; signed = a.signed; range = option_map range a.range; names = map ident a.names }

abbrev pub net : NetName → NetName
net n = record { name = ident n.name; value = option_map expr n.value }

abbrev pub reg : RegName → RegName
reg n = record { name = ident n.name; bounds = option_map range n.bounds }

abbrev pub continuous : Continuous → Continuous
continuous c = record { target = target c.target; value = expr c.value; place = 0 }

abbrev pub watch : Watch → Watch
watch w.Star = w.Star
watch w.Closed = w.Closed
watch (w.Posedge x) = w.Posedge (ident x)

abbrev pub conn : Conn → Conn
conn c = record { name = option_map ident c.name; value = option_map expr c.value; place = 0 }

abbrev pub inst : Inst → Inst
inst x = record { name = ident x.name; conns = map conn x.conns }

abbrev mutual
  pub item_fold : Item → Item
  item_fold (i.Port a) = i.Port (port a)
  item_fold (i.Wire signed r names) = i.Wire signed (option_map range r) (map net names)
  item_fold (i.Reg signed r names) = i.Reg signed (option_map range r) (map reg names)
  item_fold (i.Index genvar names) = i.Index genvar (map ident names)
  item_fold (i.Params local p) = i.Params local (params p)
  item_fold (i.Assign list) = i.Assign (map continuous list)
  item_fold (i.Always x s place) = i.Always (watch x) (stmt s) 0
  item_fold (i.Instance x settings list) = i.Instance (ident x) (map conn settings) (map inst list)
  item_fold (i.Generate' n items) = i.Generate (items_fold items)
  item_fold (i.Loop' index start test again next label n items) = i.Loop (ident index) (expr start) (expr test) (ident again) (expr next) (ident label) (items_fold items)

  pub items_fold : {n : _} → Row_of-Item n → List Item
  items_fold end_of-Item = []
  items_fold (more_of-Item x xs) = item_fold x ∷ items_fold xs

unfoldable pub item : Item → Item
item x = item_fold x

-- ---- modules

abbrev pub port_list : Ports → Ports
port_list ports.Absent = ports.Absent
port_list ports.Empty = ports.Empty
port_list (ports.Names xs) = ports.Names (map ident xs)
port_list (ports.Declared list) = ports.Declared (map port list)

abbrev pub module_tree : Module → Module
module_tree m = record { name = ident m.name; params = map params m.params; ports = port_list m.ports; items = map item m.items }

abbrev pub source : Source → Source
source s = record { modules = map module_tree s.modules }
