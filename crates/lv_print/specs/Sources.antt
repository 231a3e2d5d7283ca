-- The tokens of a whole source, as the grammar has them (IEEE 1364-2005, annex A): each production's own words and marks.
use Rattle.std.specs.Prelude.{ℕ, Bool, if◌then◌else◌, List, [], ◌∷◌, ◌++◌, map, Option, Some, None, codes}
use Rattle.lv_ast.specs.declared.expr.Path.{Path}
use Rattle.lv_ast.specs.declared.expr.Select.{Select}
use Rattle.lv_ast.specs.declared.expr.Expr.{Expr}
use Rattle.lv_ast.specs.declared.stmt.Ident.{Ident}
use Rattle.lv_ast.specs.declared.stmt.Target.{Target}
use Rattle.lv_ast.specs.declared.stmt.Target.TheOpen.{Target-F}
use Rattle.lv_ast.specs.declared.stmt.Arm.{Arm}
use Rattle.lv_ast.specs.declared.stmt.Stmt.{Stmt}
use Rattle.lv_ast.specs.declared.stmt.Stmt.TheOpen.{Stmt-F, Arm-F}
use Rattle.lv_ast.specs.declared.item.Range.{Range}
use Rattle.lv_ast.specs.declared.item.Setting.{Setting}
use Rattle.lv_ast.specs.declared.item.Params.{Params}
use Rattle.lv_ast.specs.declared.item.PortWord.{PortWord}
use Rattle.lv_ast.specs.declared.item.PortWord.TheVariants as port_word
use Rattle.lv_ast.specs.declared.item.Aport.{Aport}
use Rattle.lv_ast.specs.declared.item.Ports.{Ports}
use Rattle.lv_ast.specs.declared.item.Ports.TheVariants as ports
use Rattle.lv_ast.specs.declared.item.NetName.{NetName}
use Rattle.lv_ast.specs.declared.item.RegName.{RegName}
use Rattle.lv_ast.specs.declared.item.Continuous.{Continuous}
use Rattle.lv_ast.specs.declared.item.Watch.{Watch}
use Rattle.lv_ast.specs.declared.item.Watch.TheVariants as watch
use Rattle.lv_ast.specs.declared.item.Conn.{Conn}
use Rattle.lv_ast.specs.declared.item.Inst.{Inst}
use Rattle.lv_ast.specs.declared.item.Item.{Item, Row_of-Item, end_of-Item, more_of-Item}
use Rattle.lv_ast.specs.declared.item.Item.TheVariants as i
use Rattle.lv_ast.specs.declared.item.Module.{Module}
use Rattle.lv_ast.specs.declared.item.Source.{Source}
use Rattle.lv_ast.specs.Trees.{fold_target, fold_stmt}
use Rattle.lv_print.specs.Written.{Written, mark, word, name, commas, joined}
use Rattle.lv_print.specs.Expressions.{parens, brackets, braces, path_tokens, expr_tokens, select_tokens}

abbrev pub comma : Written
comma = mark (codes ",")

abbrev pub equals : Written
equals = mark (codes "=")

abbrev pub colon : Written
colon = mark (codes ":")

abbrev pub semicolon : Written
semicolon = mark (codes ";")

abbrev pub end : List Written
end = semicolon ∷ []

abbrev pub ident_token : Ident → Written
ident_token x = name x.name

abbrev pub ident_tokens : Ident → List Written
ident_tokens x = ident_token x ∷ []

-- what isn't there has no tokens
abbrev pub perhaps : {A : Type 0} → (A → List Written) → Option A → List Written
perhaps f None = []
perhaps f (Some x) = f x

-- ---- targets (A.8.5)

abbrev pub named_tokens : Path → List Select → List Written
named_tokens path ss = path_tokens path ++ joined (map select_tokens ss)

abbrev pub target_step : Target-F (List Written) → List Written
target_step (Target-F.Name path ss) = named_tokens path ss
target_step (Target-F.Cat ts) = braces (commas ts)

unfoldable pub target_tokens : Target → List Written
target_tokens t = fold_target (List Written) target_step t

-- ---- declarations (A.2)

abbrev pub range_tokens : Range → List Written
range_tokens r = brackets (expr_tokens r.left ++ (colon ∷ expr_tokens r.right))

abbrev pub signed_tokens : Bool → List Written
signed_tokens signed = if signed then word (codes "signed") ∷ [] else []

abbrev pub header_tokens : Bool → Option Range → List Written
header_tokens signed range = signed_tokens signed ++ perhaps range_tokens range

abbrev pub setting_tokens : Setting → List Written
setting_tokens s = ident_token s.name ∷ equals ∷ expr_tokens s.value

abbrev pub params_tokens : Params → List Written
params_tokens p = header_tokens p.signed p.range ++ commas (map setting_tokens p.list)

abbrev pub direction : Bool → Written
direction output = if output then word (codes "output") else word (codes "input")

abbrev pub port_word_tokens : PortWord → List Written
port_word_tokens port_word.Absent = []
port_word_tokens port_word.Wire = word (codes "wire") ∷ []
port_word_tokens port_word.Reg = word (codes "reg") ∷ []

abbrev pub port_header : Aport → List Written
port_header a = (direction a.output ∷ port_word_tokens a.word) ++ header_tokens a.signed a.range

abbrev pub port_tokens : Aport → List Written
port_tokens a = port_header a ++ commas (map ident_tokens a.names)

abbrev pub value_tokens : Expr → List Written
value_tokens x = equals ∷ expr_tokens x

abbrev pub net_tokens : NetName → List Written
net_tokens n = ident_token n.name ∷ perhaps value_tokens n.value

abbrev pub reg_tokens : RegName → List Written
reg_tokens n = ident_token n.name ∷ perhaps range_tokens n.bounds

-- ---- statements (A.6)

abbrev pub loop_start : Ident → Expr → Expr → List Written
loop_start index start test =
    word (codes "for") ∷ mark (codes "(") ∷ ident_token index ∷ equals ∷ (expr_tokens start ++ (semicolon ∷ (expr_tokens test ++ end)))

abbrev pub loop_next : Ident → Expr → List Written
loop_next again next = ident_token again ∷ equals ∷ (expr_tokens next ++ (mark (codes ")") ∷ []))

abbrev pub loop_tokens : Ident → Expr → Expr → Ident → Expr → List Written
loop_tokens index start test again next = loop_start index start test ++ loop_next again next

abbrev pub label_tokens : Ident → List Written
label_tokens x = colon ∷ ident_token x ∷ []

abbrev pub else_tokens : List Written → List Written
else_tokens s = word (codes "else") ∷ s

abbrev pub case_word : Bool → Written
case_word wild = if wild then word (codes "casez") else word (codes "case")

abbrev pub assigned_tokens : List ℕ → Target → Expr → List Written
assigned_tokens arrow t x = target_tokens t ++ (mark arrow ∷ (expr_tokens x ++ end))

abbrev pub stmt_step : Stmt-F (List Written) (List Written) → List Written
stmt_step Stmt-F.Null = end
stmt_step (Stmt-F.Block label ss) = word (codes "begin") ∷ (perhaps label_tokens label ++ (joined ss ++ (word (codes "end") ∷ [])))
stmt_step (Stmt-F.If c s other) = word (codes "if") ∷ mark (codes "(") ∷ (expr_tokens c ++ (mark (codes ")") ∷ (s ++ perhaps else_tokens other)))
stmt_step (Stmt-F.Case wild x arms) = case_word wild ∷ mark (codes "(") ∷ (expr_tokens x ++ (mark (codes ")") ∷ (joined arms ++ (word (codes "endcase") ∷ []))))
stmt_step (Stmt-F.Loop index start test again next s) = loop_tokens index start test again next ++ s
stmt_step (Stmt-F.Now t x place) = assigned_tokens (codes "=") t x
stmt_step (Stmt-F.Later t x place) = assigned_tokens (codes "<=") t x

-- an arm without labels is the default, and has its colon
abbrev pub labels_tokens : List Expr → List Written
labels_tokens [] = word (codes "default") ∷ []
labels_tokens (x ∷ xs) = commas (map expr_tokens (x ∷ xs))

abbrev pub arm_step : Arm-F (List Written) (List Written) → List Written
arm_step a = labels_tokens a.labels ++ (colon ∷ a.body)

unfoldable pub stmt_tokens : Stmt → List Written
stmt_tokens s = fold_stmt (List Written) (List Written) stmt_step arm_step s

abbrev pub else_stmt : Stmt → List Written
else_stmt s = else_tokens (stmt_tokens s)

abbrev pub arm_tokens : Arm → List Written
arm_tokens a = labels_tokens a.labels ++ (colon ∷ stmt_tokens a.body)

-- ---- items (A.1.4, A.2.1, A.4 and A.6)

abbrev pub continuous_tokens : Continuous → List Written
continuous_tokens c = target_tokens c.target ++ value_tokens c.value

abbrev pub watch_tokens : Watch → List Written
watch_tokens watch.Star = mark (codes "*") ∷ []
watch_tokens watch.Closed = parens (mark (codes "*") ∷ [])
watch_tokens (watch.Posedge x) = parens (word (codes "posedge") ∷ ident_tokens x)

abbrev pub conn_of : Option Ident → List Written → List Written
conn_of None value = value
conn_of (Some x) value = mark (codes ".") ∷ ident_token x ∷ parens value

abbrev pub conn_tokens : Conn → List Written
conn_tokens c = conn_of c.name (perhaps expr_tokens c.value)

abbrev pub inst_tokens : Inst → List Written
inst_tokens x = ident_token x.name ∷ parens (commas (map conn_tokens x.conns))

-- a list in parentheses behind `#`, unless it is empty
abbrev pub hash : List (List Written) → List Written
hash [] = []
hash (x ∷ xs) = mark (codes "#") ∷ parens (commas (x ∷ xs))

abbrev pub index_word : Bool → Written
index_word genvar = if genvar then word (codes "genvar") else word (codes "integer")

abbrev pub params_word : Bool → Written
params_word local = if local then word (codes "localparam") else word (codes "parameter")

abbrev pub declared_tokens : Written → Bool → Option Range → List (List Written) → List Written
declared_tokens w signed range names = w ∷ (header_tokens signed range ++ (commas names ++ end))

abbrev pub block_tokens : Ident → List Written → List Written
block_tokens label items = word (codes "begin") ∷ colon ∷ ident_token label ∷ (items ++ (word (codes "end") ∷ []))

abbrev pub instance_tokens : Ident → List Conn → List Inst → List Written
instance_tokens x settings list = ident_token x ∷ (hash (map conn_tokens settings) ++ (commas (map inst_tokens list) ++ end))

abbrev mutual
  pub item_fold : Item → List Written
  item_fold (i.Port a) = port_tokens a ++ end
  item_fold (i.Wire signed range names) = declared_tokens (word (codes "wire")) signed range (map net_tokens names)
  item_fold (i.Reg signed range names) = declared_tokens (word (codes "reg")) signed range (map reg_tokens names)
  item_fold (i.Index genvar names) = index_word genvar ∷ (commas (map ident_tokens names) ++ end)
  item_fold (i.Params local p) = params_word local ∷ (params_tokens p ++ end)
  item_fold (i.Assign list) = word (codes "assign") ∷ (commas (map continuous_tokens list) ++ end)
  item_fold (i.Always w s place) = word (codes "always") ∷ mark (codes "@") ∷ (watch_tokens w ++ stmt_tokens s)
  item_fold (i.Instance x settings list) = instance_tokens x settings list
  item_fold (i.Generate' n items) = word (codes "generate") ∷ (joined (items_fold items) ++ (word (codes "endgenerate") ∷ []))
  item_fold (i.Loop' index start test again next label n items) = loop_tokens index start test again next ++ block_tokens label (joined (items_fold items))

  pub items_fold : {n : _} → Row_of-Item n → List (List Written)
  items_fold end_of-Item = []
  items_fold (more_of-Item x xs) = item_fold x ∷ items_fold xs

unfoldable pub item_tokens : Item → List Written
item_tokens x = item_fold x

-- ---- modules (A.1)

abbrev pub group_tokens : Params → List Written
group_tokens p = word (codes "parameter") ∷ params_tokens p

abbrev pub ports_tokens : Ports → List Written
ports_tokens ports.Absent = []
ports_tokens ports.Empty = parens []
ports_tokens (ports.Names xs) = parens (commas (map ident_tokens xs))
ports_tokens (ports.Declared list) = parens (commas (map port_tokens list))

abbrev pub module_head : Module → List Written
module_head m = word (codes "module") ∷ ident_token m.name ∷ (hash (map group_tokens m.params) ++ (ports_tokens m.ports ++ end))

abbrev pub module_tokens : Module → List Written
module_tokens m = module_head m ++ (joined (map item_tokens m.items) ++ (word (codes "endmodule") ∷ []))

abbrev pub source_tokens : Source → List Written
source_tokens s = joined (map module_tokens s.modules)
