-- Each production gives trees that declare plain names alone.
use Rattle.std.proofs.Common.{◌≡◌, inl, inr, ℕ, zero, suc, Bool, true, false, ◌&&◌, List, [], ◌∷◌, ◌++◌, refl, subst, Option, Some, None}
use Rattle.std.specs.Prelude.{option_map}
use Rattle.std.specs.List.{list_all}
use Rattle.lv_ast.specs.declared.expr.Expr.{Expr}
use Rattle.lv_ast.specs.declared.stmt.Ident.{Ident}
use Rattle.lv_ast.specs.declared.stmt.Arm.{Arm}
use Rattle.lv_ast.specs.declared.stmt.Stmt.{Stmt}
use Rattle.lv_ast.specs.declared.stmt.Target.{Target}
use Rattle.lv_ast.specs.declared.item.Aport.{Aport}
use Rattle.lv_ast.specs.declared.item.Inst.{Inst}
use Rattle.lv_ast.specs.declared.item.Item.{Item}
use Rattle.lv_ast.specs.declared.item.NetName.{NetName}
use Rattle.lv_ast.specs.declared.item.RegName.{RegName}
use Rattle.lv_ast.specs.declared.item.Params.{Params}
use Rattle.lv_ast.specs.declared.item.Ports.{Ports}
use Rattle.lv_ast.specs.declared.item.Ports.TheVariants as ports
use Rattle.lv_ast.specs.declared.item.Setting.{Setting}
use Rattle.lv_ast.specs.declared.item.Module.{Module}
use Rattle.lv_ast.specs.declared.item.Source.{Source}
use Rattle.lv_ast.specs.declared.tokens.Token.{Token}
use Rattle.lv_ast.specs.PlainNames.{is_plain, plain_label, plain_stmt, plain_params, plain_ports, plain_item, plain_module, HasPlainNames}
use Rattle.lv_ast.specs.TokenLists.{are_tokens}
use Rattle.lv_grammars.specs.Grammar.{OneOf, left, right, one, leaf, call, act, both, either, perhaps, many, until, tail}
use Rattle.lv_grammars.specs.Spelling.{Leaves, Calls, Limit, Level, Spells, inside, IsSpelled}
use Rattle.lv_grammar.specs.Lexemes.{Lexeme, lexemes}
use Rattle.lv_grammar.specs.Shapes.{Placed, Rule, tree_of, base}
use Rattle.lv_grammar.specs.Shapes as shapes
use Rattle.lv_grammar.specs.Rules as g
use Rattle.lv_plain.proofs.Names.{AllGood, all_good, and-both}
use Rattle.lv_plain.proofs.Trees.{all_of, null_plain, block_plain, if_plain, case_plain, loop_plain, now_plain, later_plain, generate_plain, for_plain}
use Rattle.lv_plain.proofs.Gives.{Each, Maybe, OneBoth, PlainTree, Gives, all_give, imp_gives, act_gives, call_gives, both_give, first_gives, second_gives, either_gives, or_gives, perhaps_gives, many_give, until_gives, tail_gives, ident_gives, list_gives, grouped_gives}

abbrev PlainStmt : Stmt → Type 0
PlainStmt s = plain_stmt s ≡ true

abbrev PlainItem : Item → Type 0
PlainItem x = plain_item x ≡ true

abbrev Plain : Ident → Type 0
Plain n = is_plain n ≡ true

label_plain : (o : Option (Lexeme × Ident)) → Maybe (λ (p : Lexeme × Ident). Plain p.1) o → plain_label (option_map g.behind o) ≡ true
label_plain None h = refl
label_plain (Some p) h = h

assigned_plain : (later : Bool) (t : Placed Target) (x : Expr) → PlainStmt (g.assigned_by later t x)
assigned_plain false t x = now_plain t.tree x t.place
assigned_plain true t x = later_plain t.tree x t.place

some_each : {A : Type 0} (P : A → Type 0) (o : Option (List A)) → Maybe (Each P) o → Each P (g.some_or_none o)
some_each P None h = tt
some_each P (Some xs) h = h

module _ (l : Leaves base) (c : Calls base) (called : (r : Rule) (ts : List Lexeme) (o : Bool) (x : tree_of r) → AllGood ts → c r ts o x → PlainTree r x) where
  abbrev Give : {A : Type 0} → g.G A → (A → Type 0) → Type 1
  Give g P = Gives l c called g P

  name_gives : Give g.ident Plain
  name_gives = ident_gives l c called

  -- ---- statements

  stmt_gives : Give (call shapes.stmt) PlainStmt
  stmt_gives = call_gives l c called shapes.stmt

  empty_gives : Give g.empty PlainStmt
  empty_gives = act_gives l c called g.null_stmt PlainStmt (all_give l c called g.semicolon (λ t. PlainStmt (g.null_stmt t)) (λ t. null_plain))

  block_name_gives : Give g.block_name (λ o. plain_label o ≡ true)
  block_name_gives = act_gives l c called _ (λ o. plain_label o ≡ true) (imp_gives l c called _ label_plain (perhaps_gives l c called (second_gives l c called g.colon name_gives)))

  stmts_give : Give g.stmts_to_end (Each PlainStmt)
  stmts_give = act_gives l c called g.before (Each PlainStmt) (until_gives l c called _ stmt_gives)

  block_gives : Give g.block PlainStmt
  block_gives = act_gives l c called g.block_stmt PlainStmt
      (imp_gives l c called _ (λ p h. block_plain p.1.0 p.1.1 h.0 h.1) (second_gives l c called (g.word _) (both_give l c called block_name_gives stmts_give)))

  choice_gives : Give g.choice PlainStmt
  choice_gives = act_gives l c called g.if_stmt PlainStmt
      (imp_gives l c called _ (λ p h. if_plain p.1.1.0 p.1.1.1.1.0 p.1.1.1.1.1 h.0 h.1)
      (second_gives l c called (g.word _) (second_gives l c called g.opens (second_gives l c called g.value (second_gives l c called g.closes (tail_gives l c called shapes.stmt _ stmt_gives))))))

  abbrev PlainArm : Arm → Type 0
  PlainArm a = PlainStmt a.body

  arm_gives : (wild : Bool) → Give (g.arm wild) PlainArm
  arm_gives wild = or_gives l c called (act_gives l c called g.default_of PlainArm (second_gives l c called g.default_words stmt_gives))
      (act_gives l c called g.labelled_of PlainArm (second_gives l c called _ (second_gives l c called g.colon stmt_gives)))

  arms_give : (wild : Bool) → Give (g.arms wild) (Each PlainArm)
  arms_give wild = act_gives l c called g.arms_of (Each PlainArm) (both_give l c called (arm_gives wild) (until_gives l c called _ (arm_gives wild)))

  case_gives : (wild : Bool) → Give (g.cases wild) PlainStmt
  case_gives wild = act_gives l c called (g.case_stmt wild) PlainStmt
      (imp_gives l c called _ (λ p h. case_plain wild p.1.1.0 p.1.1.1.1 h)
      (second_gives l c called (g.word _) (second_gives l c called g.opens (second_gives l c called g.value (second_gives l c called g.closes (arms_give wild))))))

  loop_gives : Give g.loop PlainStmt
  loop_gives = act_gives l c called g.loop_stmt PlainStmt
      (imp_gives l c called _ (λ p h. loop_plain p.0.index p.0.start p.0.test p.0.again p.0.next p.1 h) (second_gives l c called g.loop_head stmt_gives))

  assignment_gives : Give g.assignment PlainStmt
  assignment_gives = act_gives l c called g.assigned PlainStmt (all_give l c called _ _ (λ p. assigned_plain p.1.0 p.0 p.1.1.0))

  all_stmts : Give g.stmt_rule PlainStmt
  all_stmts = or_gives l c called empty_gives (or_gives l c called block_gives (or_gives l c called choice_gives (or_gives l c called (case_gives false)
      (or_gives l c called (case_gives true) (or_gives l c called loop_gives assignment_gives)))))

  -- ---- items

  port_gives : Give g.port PlainItem
  port_gives = act_gives l c called g.port_item PlainItem
      (imp_gives l c called _ (λ p h. all_of is_plain p.1.0 h) (second_gives l c called g.port_header (first_gives l c called g.semicolon (list_gives l c called name_gives))))

  wire_gives : Give g.wire PlainItem
  wire_gives = act_gives l c called g.wire_item PlainItem
      (imp_gives l c called _ (λ p h. all_of (λ (n : NetName). is_plain n.name) p.1.1.0 h)
      (second_gives l c called (g.word _) (second_gives l c called g.header (first_gives l c called g.semicolon
      (list_gives l c called (act_gives l c called g.net_name_of (λ (n : NetName). Plain n.name) (first_gives l c called _ name_gives)))))))

  reg_gives : Give g.reg PlainItem
  reg_gives = act_gives l c called g.reg_item PlainItem
      (imp_gives l c called _ (λ p h. all_of (λ (n : RegName). is_plain n.name) p.1.1.0 h)
      (second_gives l c called (g.word _) (second_gives l c called g.header (first_gives l c called g.semicolon
      (list_gives l c called (act_gives l c called g.reg_name_of (λ (n : RegName). Plain n.name) (first_gives l c called _ name_gives)))))))

  index_gives : (genvar : Bool) (s : List ℕ) → Give (g.index genvar s) PlainItem
  index_gives genvar s = act_gives l c called (g.index_item genvar) PlainItem
      (imp_gives l c called _ (λ p h. all_of is_plain p.1.0 h) (second_gives l c called (g.word s) (first_gives l c called g.semicolon (list_gives l c called name_gives))))

  setting_gives : Give g.setting (λ (s : Setting). Plain s.name)
  setting_gives = act_gives l c called g.setting_of (λ (s : Setting). Plain s.name) (first_gives l c called _ name_gives)

  abbrev PlainParams : Params → Type 0
  PlainParams ps = plain_params ps ≡ true

  params_give : Give g.params PlainParams
  params_give = act_gives l c called g.params_by PlainParams
      (imp_gives l c called _ (λ p h. all_of (λ (s : Setting). is_plain s.name) p.1 h) (second_gives l c called g.header (list_gives l c called setting_gives)))

  parameter_gives : (local : Bool) (s : List ℕ) → Give (g.parameter local s) PlainItem
  parameter_gives local s = act_gives l c called (g.params_item local) PlainItem (second_gives l c called (g.word s) (first_gives l c called g.semicolon params_give))

  assign_gives : Give g.assign PlainItem
  assign_gives = act_gives l c called g.assign_item PlainItem (all_give l c called _ _ (λ p. refl))

  always_gives : Give g.always PlainItem
  always_gives = act_gives l c called g.always_item PlainItem
      (second_gives l c called (g.word _) (second_gives l c called (g.mark _) (second_gives l c called g.event stmt_gives)))

  instance_gives : Give g.instance PlainItem
  instance_gives = act_gives l c called g.instance_item PlainItem
      (imp_gives l c called _ (λ p h. all_of (λ (n : Inst). is_plain n.name) p.1.1.0 h)
      (second_gives l c called g.ident (second_gives l c called g.overrides (first_gives l c called g.semicolon
      (list_gives l c called (act_gives l c called g.inst_of (λ (n : Inst). Plain n.name) (first_gives l c called _ name_gives)))))))

  block_items_give : (s : List ℕ) → Give (g.block_items s) (Each PlainItem)
  block_items_give s = act_gives l c called g.before (Each PlainItem) (until_gives l c called (g.word s) (call_gives l c called shapes.block_item))

  generate_gives : Give g.generate PlainItem
  generate_gives = act_gives l c called g.generate_item PlainItem
      (imp_gives l c called _ (λ p h. generate_plain p.1 h) (second_gives l c called (g.word _) (block_items_give (g.block_end false))))

  named_block_gives : Give g.named_block (λ p. Plain p.0 × Each PlainItem p.1)
  named_block_gives = act_gives l c called g.named_block_of (λ p. Plain p.0 × Each PlainItem p.1)
      (second_gives l c called (g.word _) (second_gives l c called g.colon (both_give l c called name_gives (block_items_give (g.block_end true)))))

  generate_loop_gives : Give g.generate_loop PlainItem
  generate_loop_gives = act_gives l c called g.loop_item PlainItem
      (imp_gives l c called _ (λ p h. for_plain p.0.index p.0.start p.0.test p.0.again p.0.next p.1.0 p.1.1 h.0 h.1) (second_gives l c called g.loop_head named_block_gives))

  block_items : Give g.block_item_rule PlainItem
  block_items =
      or_gives l c called wire_gives (or_gives l c called reg_gives (or_gives l c called (index_gives false _) (or_gives l c called (index_gives true _) (or_gives l c called (parameter_gives true _)
      (or_gives l c called assign_gives (or_gives l c called always_gives (or_gives l c called generate_loop_gives instance_gives)))))))

  all_items : Give g.item_rule PlainItem
  all_items = or_gives l c called port_gives (or_gives l c called (parameter_gives false _) (or_gives l c called generate_gives block_items))

  rule_gives : (r : Rule) → Give (g.rules r) (PlainTree r)
  rule_gives shapes.target = all_give l c called _ _ (λ x. tt)
  rule_gives shapes.stmt = all_stmts
  rule_gives shapes.item = all_items
  rule_gives shapes.block_item = block_items

  -- ---- modules

  abbrev PlainPort : Aport → Type 0
  PlainPort a = list_all is_plain a.names ≡ true

  hash_gives : {A : Type 0} {x : g.G A} {P : A → Type 0} → Give x P → Give (g.hash x) P
  hash_gives {P = P} x = act_gives l c called g.in_parens P (second_gives l c called (g.mark _) (second_gives l c called g.opens (first_gives l c called g.closes x)))

  module_params_give : Give g.module_params (Each PlainParams)
  module_params_give = act_gives l c called g.some_or_none (Each PlainParams) (imp_gives l c called _ (some_each PlainParams)
      (perhaps_gives l c called (hash_gives (grouped_gives l c called g.params_of g.params_header (λ (s : Setting). Plain s.name) PlainParams
      (λ h xs k. all_of (λ (s : Setting). is_plain s.name) xs k) setting_gives))))

  listed_by : (x : OneOf (List Aport) (List Ident)) → OneBoth (Each PlainPort) (λ ns. Unit {0}) x → plain_ports (g.one_of ports.Declared ports.Names x) ≡ true
  listed_by (left xs) h = all_of (λ (a : Aport). list_all is_plain a.names) xs h
  listed_by (right ns) h = refl

  port_list_gives : Give g.port_list (λ p. plain_ports p ≡ true)
  port_list_gives = act_gives l c called (g.one_of ports.Declared ports.Names) (λ p. plain_ports p ≡ true) (imp_gives l c called _ listed_by
      (either_gives l c called (grouped_gives l c called g.aport_of g.port_header Plain PlainPort (λ h xs k. all_of is_plain xs k) name_gives) (all_give l c called (g.list g.ident) (λ ns. Unit {0}) (λ ns. tt))))

  end_by : (x : OneOf Lexeme (Ports × Lexeme)) → OneBoth (λ t. Unit {0}) (λ (p : Ports × Lexeme). plain_ports p.0 ≡ true) x → plain_ports (g.ports_or_empty x) ≡ true
  end_by (left t) h = refl
  end_by (right p) h = h

  absent_by : (x : Option (Lexeme × Ports)) → Maybe (λ (p : Lexeme × Ports). plain_ports p.1 ≡ true) x → plain_ports (g.ports_or_absent x) ≡ true
  absent_by None h = refl
  absent_by (Some p) h = h

  ports_end_gives : Give g.ports_to_end (λ p. plain_ports p ≡ true)
  ports_end_gives = act_gives l c called g.ports_or_empty (λ p. plain_ports p ≡ true) (imp_gives l c called _ end_by
      (either_gives l c called (all_give l c called g.closes (λ t. Unit {0}) (λ t. tt)) (first_gives l c called g.closes port_list_gives)))

  module_ports_give : Give g.module_ports (λ p. plain_ports p ≡ true)
  module_ports_give = act_gives l c called g.ports_or_absent (λ p. plain_ports p ≡ true) (imp_gives l c called _ absent_by
      (perhaps_gives l c called (second_gives l c called g.opens ports_end_gives)))

  items_give : Give g.items_to_end (Each PlainItem)
  items_give = act_gives l c called g.before (Each PlainItem) (until_gives l c called _ (call_gives l c called shapes.item))

  abbrev PlainModule : Module → Type 0
  PlainModule m = plain_module m ≡ true

  module_by : (ps : List Params) (q : Ports) (xs : List Item) → Each PlainParams ps → plain_ports q ≡ true → Each PlainItem xs → (list_all plain_params ps && plain_ports q && list_all plain_item xs) ≡ true
  module_by ps q xs h k j = and-both (list_all plain_params ps && plain_ports q) (list_all plain_item xs) (and-both (list_all plain_params ps) (plain_ports q) (all_of plain_params ps h) k) (all_of plain_item xs j)

  module_gives : Give g.module_rule PlainModule
  module_gives = act_gives l c called g.module_of PlainModule
      (imp_gives l c called _ (λ p h. module_by p.1.1.0 p.1.1.1.0 p.1.1.1.1.1 h.0 h.1.0 h.1.1)
      (second_gives l c called (g.word _) (second_gives l c called g.ident (both_give l c called module_params_give
      (both_give l c called module_ports_give (second_gives l c called g.semicolon items_give))))))

  pub source_gives : Give g.source_rule HasPlainNames
  source_gives = act_gives l c called g.source_of HasPlainNames
      (imp_gives l c called _ (λ p h. record { plain = all_of plain_module (p.0 ∷ p.1) (h.0, h.1) }) (both_give l c called module_gives (many_give l c called module_gives)))

-- ---- rules, however deep they nest

level_plain : (l : Leaves base) (n : ℕ) (d : ℕ → Limit) (r : Rule) (ts : List Lexeme) (o : Bool) (x : tree_of r) → AllGood ts → Level base l g.rules n d r ts o x → PlainTree r x
level_plain l zero d r ts o x h s = absurd s
level_plain l (suc n) d r ts o x h s =
    (rule_gives l (Level base l g.rules n (inside (base.count r) d)) (λ q us p y j t. level_plain l n (inside (base.count r) d) q us p y j t) r).by ts o x h s.1

pub source_plain : (text : List ℕ) (ts : List Token) (l : Leaves base) (d : ℕ → Limit) (o : Bool) (source : Source) → are_tokens text ts ≡ true →
    IsSpelled base (record { rules = g.rules; leaves = l; limits = d }) g.source_rule (lexemes text ts) o source → HasPlainNames source
source_plain text ts l d o source h s =
    (source_gives l (λ r us p y. (n : ℕ) × Level base l g.rules n d r us p y) (λ r us p y j t. level_plain l t.0 d r us p y j t.1)).by (lexemes text ts) o source (all_good text ts h) s
