-- Sources whose declared names have no space inside, as all have that tokens spell.
use Rattle.std.specs.Prelude.{◌≡◌, Bool, true, not, ◌&&◌, ◌==◌, Option, Some, None}
use Rattle.std.specs.List.{list_any, list_all}
use Rattle.lv_ast.specs.declared.stmt.Ident.{Ident}
use Rattle.lv_ast.specs.declared.stmt.Stmt.{Stmt}
use Rattle.lv_ast.specs.declared.stmt.Stmt.TheOpen.{Stmt-F, Arm-F}
use Rattle.lv_ast.specs.declared.item.Item.{Item, Row_of-Item, end_of-Item, more_of-Item}
use Rattle.lv_ast.specs.declared.item.Item.TheVariants as i
use Rattle.lv_ast.specs.declared.item.Params.{Params}
use Rattle.lv_ast.specs.declared.item.Ports.{Ports}
use Rattle.lv_ast.specs.declared.item.Ports.TheVariants as p
use Rattle.lv_ast.specs.declared.item.Module.{Module}
use Rattle.lv_ast.specs.declared.item.Source.{Source}
use Rattle.lv_ast.specs.Names.{Name}
use Rattle.lv_ast.specs.Trees.{fold_stmt}

abbrev pub has_space : Name → Bool
has_space n = list_any (λ c. c == 32) n

abbrev pub is_plain : Ident → Bool
is_plain n = not (has_space n.name)

-- ---- the names of blocks in a statement

abbrev pub plain_label : Option Ident → Bool
plain_label None = true
plain_label (Some name) = is_plain name

abbrev pub plain_or : Option Bool → Bool
plain_or None = true
plain_or (Some b) = b

abbrev pub plain_step : Stmt-F Bool Bool → Bool
plain_step (Stmt-F.Block name body) = plain_label name && list_all (λ b. b) body
plain_step (Stmt-F.If x a b) = a && plain_or b
plain_step (Stmt-F.Case wild x arms) = list_all (λ b. b) arms
plain_step (Stmt-F.Loop index start test again next body) = body
plain_step _ = true

abbrev pub plain_arm : Arm-F Bool Bool → Bool
plain_arm a = a.body

unfoldable pub plain_stmt : Stmt → Bool
plain_stmt s = fold_stmt Bool Bool plain_step plain_arm s

-- ---- items and modules

abbrev pub plain_params : Params → Bool
plain_params ps = list_all (λ s. is_plain s.name) ps.list

abbrev pub plain_ports : Ports → Bool
plain_ports (p.Declared ports) = list_all (λ a. list_all is_plain a.names) ports
plain_ports _ = true

abbrev mutual
  pub plain_item : Item → Bool
  plain_item (i.Port a) = list_all is_plain a.names
  plain_item (i.Wire signed range names) = list_all (λ n. is_plain n.name) names
  plain_item (i.Reg signed range names) = list_all (λ n. is_plain n.name) names
  plain_item (i.Index genvar names) = list_all is_plain names
  plain_item (i.Params local ps) = plain_params ps
  plain_item (i.Assign list) = true
  plain_item (i.Always watch s place) = plain_stmt s
  plain_item (i.Instance kind settings insts) = list_all (λ n. is_plain n.name) insts
  plain_item (i.Generate' n items) = plain_items items
  plain_item (i.Loop' index start test again next label n items) = is_plain label && plain_items items

  pub plain_items : {n : _} → Row_of-Item n → Bool
  plain_items end_of-Item = true
  plain_items (more_of-Item x xs) = plain_item x && plain_items xs

abbrev pub plain_module : Module → Bool
plain_module m = list_all plain_params m.params && plain_ports m.ports && list_all plain_item m.items

pub record HasPlainNames (source : Source) : Type 0 where
  pub plain : list_all plain_module source.modules ≡ true
