-- The grammar of the source (IEEE 1364-2005, annex A, in the profile of this program): a definition for each production.
use Rattle.std.specs.Prelude.{ℕ, List, [], ◌∷◌, ◌++◌, map, Bool, true, false, Option, Some, None, is_some, option_map, codes}
use Rattle.lv_ast.specs.declared.expr.Path.{Path}
use Rattle.lv_ast.specs.declared.expr.Select.{Select}
use Rattle.lv_ast.specs.declared.expr.Select.TheVariants as select
use Rattle.lv_ast.specs.declared.expr.Expr.{Expr}
use Rattle.lv_ast.specs.declared.stmt.Ident.{Ident}
use Rattle.lv_ast.specs.declared.stmt.Target.{Target}
use Rattle.lv_ast.specs.declared.stmt.Target.TheVariants as target
use Rattle.lv_ast.specs.declared.stmt.Stmt.{Stmt}
use Rattle.lv_ast.specs.declared.stmt.Stmt.TheVariants as stmt
use Rattle.lv_ast.specs.declared.stmt.Arm.{Arm}
use Rattle.lv_ast.specs.declared.item.Range.{Range}
use Rattle.lv_ast.specs.declared.item.Setting.{Setting}
use Rattle.lv_ast.specs.declared.item.Params.{Params}
use Rattle.lv_ast.specs.declared.item.PortWord.{PortWord}
use Rattle.lv_ast.specs.declared.item.PortWord.TheVariants as port_word
use Rattle.lv_ast.specs.declared.item.Aport.{Aport}
use Rattle.lv_ast.specs.declared.item.Ports.{Ports}
use Rattle.lv_ast.specs.declared.item.Ports.TheVariants as ports
use Rattle.lv_ast.specs.declared.item.NetName.{NetName}
use Rattle.lv_ast.specs.declared.item.RegName.{RegName}
use Rattle.lv_ast.specs.declared.item.Continuous.{Continuous}
use Rattle.lv_ast.specs.declared.item.Watch.{Watch}
use Rattle.lv_ast.specs.declared.item.Watch.TheVariants as watch
use Rattle.lv_ast.specs.declared.item.Conn.{Conn}
use Rattle.lv_ast.specs.declared.item.Inst.{Inst}
use Rattle.lv_ast.specs.declared.item.Item.{Item}
use Rattle.lv_ast.specs.declared.item.Item.TheVariants as item
use Rattle.lv_ast.specs.declared.item.Module.{Module}
use Rattle.lv_ast.specs.declared.item.Source.{Source}
use Rattle.lv_grammar.specs.declared.parts.Span.{Span}
use Rattle.lv_grammar.specs.declared.parts.Span.TheVariants as span
use Rattle.lv_grammar.specs.declared.parts.Head.{Head}
use Rattle.lv_grammars.specs.Grammar.{Gram, OneOf, left, right, one, leaf, call, act, both, either, perhaps, many, until, tail}
use Rattle.lv_grammars.specs.Spelling.{Rules}
use Rattle.lv_grammar.specs.Lexemes.{Lexeme, ident_of}
use Rattle.lv_grammar.specs.Shapes.{Placed, Leaf, base}
use Rattle.lv_grammar.specs.Shapes as shapes

abbrev pub G : Type 0 → Type 1
G A = Gram base A

-- ---- tokens

abbrev pub word : List ℕ → G Lexeme
word s = one (shapes.word s)

abbrev pub mark : List ℕ → G Lexeme
mark s = one (shapes.mark s)

abbrev pub comma : G Lexeme
comma = mark (codes ",")

abbrev pub colon : G Lexeme
colon = mark (codes ":")

abbrev pub semicolon : G Lexeme
semicolon = mark (codes ";")

abbrev pub equals : G Lexeme
equals = mark (codes "=")

abbrev pub opens : G Lexeme
opens = mark (codes "(")

abbrev pub closes : G Lexeme
closes = mark (codes ")")

abbrev pub ident : G Ident
ident = act ident_of (one shapes.name)

abbrev pub behind : {A B : Type 0} → A × B → B
behind p = p.1

abbrev pub before : {A B : Type 0} → A × B → A
before p = p.0

abbrev pub one_of : {A B C : Type 0} → (A → C) → (B → C) → OneOf A B → C
one_of f g (left x) = f x
one_of f g (right y) = g y

abbrev pub same_tree : {A : Type 0} → A → A
same_tree x = x

abbrev pub or_else : {A : Type 0} → G A → G A → G A
or_else g h = act (one_of same_tree same_tree) (either g h)

-- ---- lists with commas

abbrev pub first_and_others : {A : Type 0} → A × List (Lexeme × A) → List A
first_and_others p = p.0 ∷ map behind p.1

abbrev pub list : {A : Type 0} → G A → G (List A)
list x = act first_and_others (both x (many (both comma x)))

-- entries with commas between them, of which each may begin a new group by a header
abbrev pub groups : {H X P : Type 0} → (H → List X → P) → H → List X → List (Lexeme × (Option H × X)) → List P
groups f h xs [] = f h xs ∷ []
groups f h xs (e ∷ es) = elim e.1.0 [ None ↦ groups f h (xs ++ (e.1.1 ∷ [])) es | Some g ↦ f h xs ∷ groups f g (e.1.1 ∷ []) es ]

abbrev pub all_groups : {H X P : Type 0} → (H → List X → P) → H × (X × List (Lexeme × (Option H × X))) → List P
all_groups f p = groups f p.0 (p.1.0 ∷ []) p.1.1

abbrev pub grouped : {H X P : Type 0} → (H → List X → P) → G H → G X → G (List P)
grouped f h x = act (all_groups f) (both h (both x (many (both comma (both (perhaps h) x)))))

-- ---- expressions

abbrev pub expr : Leaf → G (Placed Expr)
expr l = leaf l

abbrev pub tree : {A : Type 0} → Placed A → A
tree p = p.tree

abbrev pub value : G Expr
value = act tree (expr shapes.value)

-- ---- selects and targets (A.8.5)

abbrev pub bound_of : Lexeme × (Expr × Lexeme) → Expr
bound_of p = p.1.0

abbrev pub bound : List ℕ → G Expr
bound s = act bound_of (both (mark s) (both value (mark (codes "]"))))

abbrev pub span_by : OneOf Lexeme (OneOf Expr (OneOf Expr Expr)) → Span
span_by (left t) = span.Bit
span_by (right (left y)) = span.Part y
span_by (right (right (left y))) = span.Up y
span_by (right (right (right y))) = span.Down y

abbrev pub spans : G (OneOf Lexeme (OneOf Expr (OneOf Expr Expr)))
spans = either (mark (codes "]")) (either (bound (codes ":")) (either (bound (codes "+:")) (bound (codes "-:"))))

abbrev pub select_end : G Span
select_end = act span_by spans

abbrev pub select_by : Expr → Span → Select
select_by x span.Bit = select.Bit x
select_by x (span.Part y) = select.Part x y
select_by x (span.Up y) = select.Up x y
select_by x (span.Down y) = select.Down x y

abbrev pub select_of : Lexeme × (Expr × Span) → Select
select_of p = select_by p.1.0 p.1.1

abbrev pub selected : G Select
selected = act select_of (both (mark (codes "[")) (both value select_end))

abbrev pub path_of : Ident → Path
path_of i = record { steps = []; name = i.name; place = i.place }

abbrev pub named_of : Ident × List Select → Path × List Select
named_of p = (path_of p.0, p.1)

-- a name with its selects
abbrev pub named : G (Path × List Select)
named = act named_of (both ident (many selected))

abbrev pub named_target : Path × List Select → Placed Target
named_target p = record { tree = target.Name p.0 p.1; place = p.0.place }

abbrev pub target_tree : G Target
target_tree = act tree (call shapes.target)

abbrev pub targets : G (List Target)
targets = list target_tree

abbrev pub joined_target : Lexeme × (List Target × Lexeme) → Placed Target
joined_target p = record { tree = target.Cat p.1.0; place = p.0.start }

abbrev pub joined : G (Placed Target)
joined = act joined_target (both (mark (codes "{")) (both targets (mark (codes "}"))))

abbrev pub target_rule : G (Placed Target)
target_rule = or_else joined (act named_target named)

-- ---- declarations (A.2)

abbrev pub range_of : Lexeme × (Expr × (Lexeme × (Expr × Lexeme))) → Range
range_of p = record { left = p.1.0; right = p.1.1.1.0 }

abbrev pub range : G Range
range = act range_of (both (mark (codes "[")) (both value (both colon (both value (mark (codes "]"))))))

abbrev pub signed : G Bool
signed = act is_some (perhaps (word (codes "signed")))

abbrev pub setting_of : Ident × (Lexeme × Expr) → Setting
setting_of p = record { name = p.0; value = p.1.1 }

abbrev pub setting : G Setting
setting = act setting_of (both ident (both equals value))

-- what stands before the names of a declaration
abbrev pub Header : Type 0
Header = Bool × Option Range

abbrev pub header : G Header
header = both signed (perhaps range)

abbrev pub params_of : Header → List Setting → Params
params_of h xs = record { signed = h.0; range = h.1; list = xs }

abbrev pub params_by : Header × List Setting → Params
params_by p = params_of p.0 p.1

abbrev pub params : G Params
params = act params_by (both header (list setting))

abbrev pub PortHeader : Type 0
PortHeader = (Bool × PortWord) × Header

abbrev pub input_word : Option Lexeme → PortWord
input_word None = port_word.Absent
input_word (Some t) = port_word.Wire

abbrev pub output_word : Option (OneOf Lexeme Lexeme) → PortWord
output_word None = port_word.Absent
output_word (Some (left t)) = port_word.Wire
output_word (Some (right t)) = port_word.Reg

abbrev pub input_of : Lexeme × Option Lexeme → Bool × PortWord
input_of p = (false, input_word p.1)

abbrev pub output_of : Lexeme × Option (OneOf Lexeme Lexeme) → Bool × PortWord
output_of p = (true, output_word p.1)

abbrev pub input : G (Bool × PortWord)
input = act input_of (both (word (codes "input")) (perhaps (word (codes "wire"))))

abbrev pub output : G (Bool × PortWord)
output = act output_of (both (word (codes "output")) (perhaps (either (word (codes "wire")) (word (codes "reg")))))

abbrev pub direction : G (Bool × PortWord)
direction = or_else input output

abbrev pub port_header : G PortHeader
port_header = both direction header

abbrev pub aport_of : PortHeader → List Ident → Aport
aport_of h xs = record { output = h.0.0; word = h.0.1; signed = h.1.0; range = h.1.1; names = xs }

abbrev pub port_item : PortHeader × (List Ident × Lexeme) → Item
port_item p = item.Port (aport_of p.0 p.1.0)

abbrev pub port : G Item
port = act port_item (both port_header (both (list ident) semicolon))

abbrev pub net_name_of : Ident × Option (Lexeme × Expr) → NetName
net_name_of p = record { name = p.0; value = option_map behind p.1 }

abbrev pub net_name : G NetName
net_name = act net_name_of (both ident (perhaps (both equals value)))

abbrev pub wire_item : Lexeme × (Header × (List NetName × Lexeme)) → Item
wire_item p = item.Wire p.1.0.0 p.1.0.1 p.1.1.0

abbrev pub wire : G Item
wire = act wire_item (both (word (codes "wire")) (both header (both (list net_name) semicolon)))

abbrev pub reg_name_of : Ident × Option Range → RegName
reg_name_of p = record { name = p.0; bounds = p.1 }

abbrev pub reg_name : G RegName
reg_name = act reg_name_of (both ident (perhaps range))

abbrev pub reg_item : Lexeme × (Header × (List RegName × Lexeme)) → Item
reg_item p = item.Reg p.1.0.0 p.1.0.1 p.1.1.0

abbrev pub reg : G Item
reg = act reg_item (both (word (codes "reg")) (both header (both (list reg_name) semicolon)))

abbrev pub index_item : Bool → Lexeme × (List Ident × Lexeme) → Item
index_item genvar p = item.Index genvar p.1.0

abbrev pub index : Bool → List ℕ → G Item
index genvar s = act (index_item genvar) (both (word s) (both (list ident) semicolon))

abbrev pub params_item : Bool → Lexeme × (Params × Lexeme) → Item
params_item local p = item.Params local p.1.0

abbrev pub parameter : Bool → List ℕ → G Item
parameter local s = act (params_item local) (both (word s) (both params semicolon))

-- ---- statements (A.6)

abbrev pub start_of : Lexeme × (Lexeme × (Ident × (Lexeme × (Expr × (Lexeme × (Expr × Lexeme)))))) → Ident × Expr × Expr
start_of p = (p.1.1.0, p.1.1.1.1.0, p.1.1.1.1.1.1.0)

-- the head of a loop up to its test
abbrev pub loop_start : G (Ident × Expr × Expr)
loop_start = act start_of (both (word (codes "for")) (both opens (both ident (both equals (both value (both semicolon (both value semicolon)))))))

abbrev pub head_of : (Ident × Expr × Expr) × (Ident × (Lexeme × (Expr × Lexeme))) → Head
head_of p = record { index = p.0.0; start = p.0.1; test = p.0.2; again = p.1.0; next = p.1.1.1.0 }

abbrev pub loop_head : G Head
loop_head = act head_of (both loop_start (both ident (both equals (both value closes))))

abbrev pub loop_stmt : Head × Stmt → Stmt
loop_stmt p = stmt.Loop p.0.index p.0.start p.0.test p.0.again p.0.next p.1

abbrev pub loop : G Stmt
loop = act loop_stmt (both loop_head (call shapes.stmt))

abbrev pub null_stmt : Lexeme → Stmt
null_stmt t = stmt.Null

abbrev pub empty : G Stmt
empty = act null_stmt semicolon

abbrev pub block_name : G (Option Ident)
block_name = act (option_map behind) (perhaps (both colon ident))

abbrev pub stmts_to_end : G (List Stmt)
stmts_to_end = act before (until (call shapes.stmt) (word (codes "end")))

abbrev pub block_stmt : Lexeme × (Option Ident × List Stmt) → Stmt
block_stmt p = stmt.Block p.1.0 p.1.1

abbrev pub block : G Stmt
block = act block_stmt (both (word (codes "begin")) (both block_name stmts_to_end))

abbrev pub if_stmt : Lexeme × (Lexeme × (Expr × (Lexeme × (Stmt × Option Stmt)))) → Stmt
if_stmt p = stmt.If p.1.1.0 p.1.1.1.1.0 p.1.1.1.1.1

-- an else belongs to the nearest if
abbrev pub branches : G (Stmt × Option Stmt)
branches = tail shapes.stmt (shapes.word (codes "else")) (call shapes.stmt)

abbrev pub choice : G Stmt
choice = act if_stmt (both (word (codes "if")) (both opens (both value (both closes branches))))

-- the labels of a casez may have free bits
abbrev pub case_leaf : Bool → Leaf
case_leaf false = shapes.value
case_leaf true = shapes.label

abbrev pub label : Bool → G Expr
label wild = act tree (expr (case_leaf wild))

abbrev pub default_words : G (Lexeme × Option Lexeme)
default_words = both (word (codes "default")) (perhaps colon)

abbrev pub default_of : (Lexeme × Option Lexeme) × Stmt → Arm
default_of p = record { labels = []; body = p.1 }

abbrev pub default_arm : G Arm
default_arm = act default_of (both default_words (call shapes.stmt))

abbrev pub labelled_of : List Expr × (Lexeme × Stmt) → Arm
labelled_of p = record { labels = p.0; body = p.1.1 }

abbrev pub labelled_arm : Bool → G Arm
labelled_arm wild = act labelled_of (both (list (label wild)) (both colon (call shapes.stmt)))

abbrev pub arm : Bool → G Arm
arm wild = or_else default_arm (labelled_arm wild)

abbrev pub arms_of : Arm × (List Arm × Lexeme) → List Arm
arms_of p = p.0 ∷ p.1.0

abbrev pub arms : Bool → G (List Arm)
arms wild = act arms_of (both (arm wild) (until (arm wild) (word (codes "endcase"))))

abbrev pub case_word : Bool → List ℕ
case_word false = codes "case"
case_word true = codes "casez"

abbrev pub case_stmt : Bool → Lexeme × (Lexeme × (Expr × (Lexeme × List Arm))) → Stmt
case_stmt wild p = stmt.Case wild p.1.1.0 p.1.1.1.1

abbrev pub cases : Bool → G Stmt
cases wild = act (case_stmt wild) (both (word (case_word wild)) (both opens (both value (both closes (arms wild)))))

abbrev pub is_second : OneOf Lexeme Lexeme → Bool
is_second (left t) = false
is_second (right t) = true

-- whether an assignment is a nonblocking one
abbrev pub arrow : G Bool
arrow = act is_second (either equals (mark (codes "<=")))

abbrev pub assigned_by : Bool → Placed Target → Expr → Stmt
assigned_by false t x = stmt.Now t.tree x t.place
assigned_by true t x = stmt.Later t.tree x t.place

abbrev pub assigned : Placed Target × (Bool × (Expr × Lexeme)) → Stmt
assigned p = assigned_by p.1.0 p.0 p.1.1.0

abbrev pub assignment : G Stmt
assignment = act assigned (both (call shapes.target) (both arrow (both value semicolon)))

abbrev pub stmt_rule : G Stmt
stmt_rule =
    or_else empty (or_else block (or_else choice (or_else (cases false)
    (or_else (cases true) (or_else loop assignment)))))

-- ---- items (A.1.4, A.2.1, A.4 and A.6)

abbrev pub continuous_of : Placed Target × (Lexeme × Expr) → Continuous
continuous_of p = record { target = p.0.tree; value = p.1.1; place = p.0.place }

abbrev pub continuous : G Continuous
continuous = act continuous_of (both (call shapes.target) (both equals value))

abbrev pub assign_item : Lexeme × (List Continuous × Lexeme) → Item
assign_item p = item.Assign p.1.0

abbrev pub assign : G Item
assign = act assign_item (both (word (codes "assign")) (both (list continuous) semicolon))

abbrev pub star : G Lexeme
star = mark (codes "*")

abbrev pub closed_event : Lexeme × Lexeme → Watch
closed_event p = watch.Closed

abbrev pub closed_star : G Watch
closed_star = act closed_event (both star closes)

abbrev pub edge_event : Lexeme × (Ident × Lexeme) → Watch
edge_event p = watch.Posedge p.1.0

abbrev pub edge : G Watch
edge = act edge_event (both (word (codes "posedge")) (both ident closes))

abbrev pub event_inside : G Watch
event_inside = or_else closed_star edge

abbrev pub star_event : Lexeme → Watch
star_event t = watch.Star

abbrev pub event : G Watch
event = or_else (act star_event star) (act behind (both opens event_inside))

abbrev pub always_item : Lexeme × (Lexeme × (Watch × Stmt)) → Item
always_item p = item.Always p.1.1.0 p.1.1.1 p.0.start

abbrev pub always : G Item
always = act always_item (both (word (codes "always")) (both (mark (codes "@")) (both event (call shapes.stmt))))

abbrev pub ordered_of : Placed Expr → Conn
ordered_of p = record { name = None; value = Some p.tree; place = p.place }

abbrev pub conn_value : OneOf Lexeme (Expr × Lexeme) → Option Expr
conn_value (left t) = None
conn_value (right p) = Some p.0

abbrev pub conn_end : G (Option Expr)
conn_end = act conn_value (either closes (both value closes))

abbrev pub named_of_conn : Lexeme × (Ident × (Lexeme × Option Expr)) → Conn
named_of_conn p = record { name = Some p.1.0; value = p.1.1.1; place = p.0.start }

abbrev pub ordered_conn : G Conn
ordered_conn = act ordered_of (expr shapes.value)

abbrev pub named_conn : G Conn
named_conn = act named_of_conn (both (mark (codes ".")) (both ident (both opens conn_end)))

-- all ordered or all named
abbrev pub conns : G (List Conn)
conns = or_else (list named_conn) (list ordered_conn)

abbrev pub conns_or_none : OneOf Lexeme (List Conn × Lexeme) → List Conn
conns_or_none (left t) = []
conns_or_none (right p) = p.0

abbrev pub conns_to_end : G (List Conn)
conns_to_end = act conns_or_none (either closes (both conns closes))

abbrev pub inst_of : Ident × (Lexeme × List Conn) → Inst
inst_of p = record { name = p.0; conns = p.1.1 }

abbrev pub inst : G Inst
inst = act inst_of (both ident (both opens conns_to_end))

abbrev pub some_or_none : {A : Type 0} → Option (List A) → List A
some_or_none None = []
some_or_none (Some xs) = xs

abbrev pub in_parens : {A : Type 0} → Lexeme × (Lexeme × (A × Lexeme)) → A
in_parens p = p.1.1.0

-- a list in parentheses behind `#`
abbrev pub hash : {A : Type 0} → G A → G A
hash g = act in_parens (both (mark (codes "#")) (both opens (both g closes)))

-- the values of an instance's parameters
abbrev pub overrides : G (List Conn)
overrides = act some_or_none (perhaps (hash conns))

abbrev pub instance_item : Ident × (List Conn × (List Inst × Lexeme)) → Item
instance_item p = item.Instance p.0 p.1.0 p.1.1.0

abbrev pub instance : G Item
instance = act instance_item (both ident (both overrides (both (list inst) semicolon)))

-- what ends the items of a loop, and those of a region
abbrev pub block_end : Bool → List ℕ
block_end false = codes "endgenerate"
block_end true = codes "end"

abbrev pub block_items : List ℕ → G (List Item)
block_items s = act before (until (call shapes.block_item) (word s))

abbrev pub generate_item : Lexeme × List Item → Item
generate_item p = item.Generate p.1

abbrev pub generate : G Item
generate = act generate_item (both (word (codes "generate")) (block_items (block_end false)))

abbrev pub named_block_of : Lexeme × (Lexeme × (Ident × List Item)) → Ident × List Item
named_block_of p = p.1.1

abbrev pub named_block : G (Ident × List Item)
named_block = act named_block_of (both (word (codes "begin")) (both colon (both ident (block_items (block_end true)))))

abbrev pub loop_item : Head × (Ident × List Item) → Item
loop_item p = item.Loop p.0.index p.0.start p.0.test p.0.again p.0.next p.1.0 p.1.1

abbrev pub generate_loop : G Item
generate_loop = act loop_item (both loop_head named_block)

abbrev pub block_item_rule : G Item
block_item_rule =
    or_else wire (or_else reg (or_else (index false (codes "integer")) (or_else (index true (codes "genvar")) (or_else (parameter true (codes "localparam"))
    (or_else assign (or_else always (or_else generate_loop instance)))))))

abbrev pub item_rule : G Item
item_rule = or_else port (or_else (parameter false (codes "parameter")) (or_else generate block_item_rule))

-- ---- modules (A.1)

abbrev pub params_header : G Header
params_header = act behind (both (word (codes "parameter")) header)

abbrev pub group_list : G (List Params)
group_list = grouped params_of params_header setting

abbrev pub module_params : G (List Params)
module_params = act some_or_none (perhaps (hash group_list))

abbrev pub declared_ports : G (List Aport)
declared_ports = grouped aport_of port_header ident

abbrev pub port_list : G Ports
port_list = act (one_of ports.Declared ports.Names) (either declared_ports (list ident))

abbrev pub ports_or_empty : OneOf Lexeme (Ports × Lexeme) → Ports
ports_or_empty (left t) = ports.Empty
ports_or_empty (right p) = p.0

abbrev pub ports_to_end : G Ports
ports_to_end = act ports_or_empty (either closes (both port_list closes))

abbrev pub ports_or_absent : Option (Lexeme × Ports) → Ports
ports_or_absent None = ports.Absent
ports_or_absent (Some p) = p.1

abbrev pub module_ports : G Ports
module_ports = act ports_or_absent (perhaps (both opens ports_to_end))

abbrev pub items_to_end : G (List Item)
items_to_end = act before (until (call shapes.item) (word (codes "endmodule")))

abbrev pub module_of : Lexeme × (Ident × (List Params × (Ports × (Lexeme × List Item)))) → Module
module_of p = record { name = p.1.0; params = p.1.1.0; ports = p.1.1.1.0; items = p.1.1.1.1.1 }

abbrev pub module_rule : G Module
module_rule = act module_of (both (word (codes "module")) (both ident (both module_params (both module_ports (both semicolon items_to_end)))))

abbrev pub source_of : Module × List Module → Source
source_of p = record { modules = p.0 ∷ p.1 }

abbrev pub source_rule : G Source
source_rule = act source_of (both module_rule (many module_rule))

abbrev pub rules : Rules base
rules shapes.target = target_rule
rules shapes.stmt = stmt_rule
rules shapes.item = item_rule
rules shapes.block_item = block_item_rule
