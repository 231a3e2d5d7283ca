-- Each production of the grammar prints: what is written of its trees spells them again, from what is so of its leaves and rules.
use Rattle.std.proofs.Common.{◌≡◌, ℕ, Bool, true, false, ◌&&◌, if◌then◌else◌, List, [], ◌∷◌, ◌++◌, map, Option, Some, None, refl, sym, ap, ◌∙◌, subst, append_assoc, append-nil, true≢false}
use Rattle.std.specs.Prelude.{option_map, is_some, codes}
use Rattle.lv_ast.specs.Tokens.{kind_of, is_word, is_mark, is_digit}
use Rattle.lv_ast.specs.declared.tokens.Kind.TheVariants as k
use Rattle.lv_ast.specs.declared.expr.Expr.{Expr}
use Rattle.lv_ast.specs.declared.stmt.Ident.{Ident}
use Rattle.lv_ast.specs.declared.item.Item.{Item}
use Rattle.lv_ast.specs.declared.stmt.Target.{Target}
use Rattle.lv_ast.specs.declared.stmt.Stmt.{Stmt}
use Rattle.lv_ast.specs.declared.item.Params.{Params}
use Rattle.lv_ast.specs.declared.item.PortWord.{PortWord}
use Rattle.lv_ast.specs.declared.item.Aport.{Aport}
use Rattle.lv_ast.specs.declared.item.Ports.{Ports}
use Rattle.lv_ast.specs.declared.item.Ports.TheVariants as ports
use Rattle.lv_ast.specs.declared.item.Watch.{Watch}
use Rattle.lv_ast.specs.declared.item.Conn.{Conn}
use Rattle.lv_grammars.specs.Grammar.{Gram, OneOf, left, right, one, leaf, call, act, both, either, perhaps, many, until}
use Rattle.lv_grammars.specs.Spelling.{Leaves, Calls, Spells}
use Rattle.lv_grammar.specs.Lexemes.{Lexeme}
use Rattle.lv_grammar.specs.Shapes.{Placed, base}
use Rattle.lv_grammar.specs.Shapes as shapes
use Rattle.lv_grammar.specs.Rules as rules
use Rattle.lv_print.specs.Written.{Written, mark, word, name, commas, joined, others}
use Rattle.lv_print.specs.Expressions.{parens, expr_tokens, select_tokens}
use Rattle.lv_print.specs.Sources as tokens
use Rattle.lv_print.specs.Unplaced as bare
use Rattle.lv_print.specs.UnplacedSources as bare_source
use Rattle.lv_print.proofs.Papers.{others-none, others-more, joined-none, joined-more}
use Rattle.lv_print.proofs.SourceRules as written
use Rattle.lv_print.proofs.UnplacedSourceRules as unplaced
use Rattle.lv_print.proofs.Prints.{plain, on_left_or_right, each_side, Prints, prints_word, prints_mark, prints_act, prints_where, prints_both, prints_either, prints_perhaps, prints_many, prints_until, prints_tail, prints_list, prints_list_as, prints_default, prints_ident}
use Rattle.lv_print.proofs.Inside.{placed_expr, placed_target, expr_printed, target_printed, span_end, bare_span, bound_tokens, head_tokens, bare_head, inside_watch, inside_ports, select_printed, select_bare, simple_path}

module _ (old : List ℕ) (L : Leaves base) (C : Calls base) (L' : List ℕ → Leaves base) (C' : List ℕ → Calls base) where
  abbrev P : {A : Type 0} → Gram base A → (A → List Written) → (A → A) → Type 0
  P g c u = Prints old L C L' C' g c u

  -- what is known of the leaves and the rules
  pub record Parts : Type 0 where
    pub value : P (leaf shapes.value) expr_printed placed_expr
    pub label : P (leaf shapes.label) expr_printed placed_expr
    pub target : P (call shapes.target) target_printed placed_target
    pub stmt : P (call shapes.stmt) tokens.stmt_tokens bare_source.stmt
    pub item : P (call shapes.item) tokens.item_tokens bare_source.item
    pub block_item : P (call shapes.block_item) tokens.item_tokens bare_source.item

  keyword : (w : List ℕ) → kind_of w ≡ Some k.Word → P (one (shapes.word w)) (λ t. word w ∷ []) plain
  keyword w h = prints_word old L C L' C' w h

  sign : (m : List ℕ) → kind_of m ≡ Some k.Mark → P (one (shapes.mark m)) (λ t. mark m ∷ []) plain
  sign m h = prints_mark old L C L' C' m h

  pair : {A B : Type 0} {g : Gram base A} {h : Gram base B} {c : A → List Written} {d : B → List Written} {u : A → A} {v : B → B} → P g c u → P h d v →
      P (both g h) (λ p. c p.0 ++ d p.1) (λ p. (u p.0, v p.1))
  pair {A} {B} {g} {h} {c} {d} {u} {v} i j = prints_both old L C L' C' g h c d u v i j

  acted : {A B : Type 0} (f : A → B) {g : Gram base A} {c : A → List Written} {u : A → A} (d : B → List Written) (v : B → B) → ((x : A) → d (f x) ≡ c x) → ((x : A) → v (f x) ≡ f (u x)) →
      P g c u → P (act f g) d v
  acted f {g} {c} {u} d v e n h = prints_act old L C L' C' f g c u d v e n h

  alike-c : {A : Type 0} (c : A → List Written) (x : OneOf A A) → c (rules.one_of rules.same_tree rules.same_tree x) ≡ on_left_or_right c c x
  alike-c c (left x) = refl
  alike-c c (right x) = refl

  alike-u : {A : Type 0} (u : A → A) (x : OneOf A A) → u (rules.one_of rules.same_tree rules.same_tree x) ≡ rules.one_of rules.same_tree rules.same_tree (each_side u u x)
  alike-u u (left x) = refl
  alike-u u (right x) = refl

  or : {A : Type 0} {g h : Gram base A} {c : A → List Written} {u : A → A} → P g c u → P h c u → P (rules.or_else g h) c u
  or {A} {g} {h} {c} {u} i j = acted (rules.one_of rules.same_tree rules.same_tree) c u (alike-c c) (alike-u u) (prints_either old L C L' C' g h c c u u i j)

  some : {A : Type 0} {g : Gram base A} {c : A → List Written} {u : A → A} → P g c u → P (perhaps g) (tokens.perhaps c) (option_map u)
  some {A} {g} {c} {u} i = prints_perhaps old L C L' C' g c u i

  any : {A : Type 0} {g : Gram base A} {c : A → List Written} {u : A → A} → P g c u → P (many g) (λ xs. joined (map c xs)) (map u)
  any {A} {g} {c} {u} i = prints_many old L C L' C' g c u i

  upto : {A B : Type 0} {g : Gram base A} {h : Gram base B} {c : A → List Written} {d : B → List Written} {u : A → A} {v : B → B} → P g c u → P h d v →
      P (until g h) (λ p. joined (map c p.0) ++ d p.1) (λ p. (map u p.0, v p.1))
  upto {A} {B} {g} {h} {c} {d} {u} {v} i j = prints_until old L C L' C' g h c d u v i j

  listed : {A : Type 0} {g : Gram base A} {c : A → List Written} {u : A → A} → P g c u → P (rules.list g) (λ xs. commas (map c xs)) (map u)
  listed {A} {g} {c} {u} i = prints_list old L C L' C' g c u i

  ident : P rules.ident tokens.ident_tokens bare_source.ident
  ident = prints_ident old L C L' C'

  module _ (parts : Parts) where
    comma : P rules.comma (λ t. mark (codes ",") ∷ []) plain
    unfolding kind_of is_mark is_digit
    comma = sign (codes ",") refl

    colon : P rules.colon (λ t. mark (codes ":") ∷ []) plain
    unfolding kind_of is_mark is_digit
    colon = sign (codes ":") refl

    semicolon : P rules.semicolon (λ t. mark (codes ";") ∷ []) plain
    unfolding kind_of is_mark is_digit
    semicolon = sign (codes ";") refl

    equals : P rules.equals (λ t. mark (codes "=") ∷ []) plain
    unfolding kind_of is_mark is_digit
    equals = sign (codes "=") refl

    opens : P rules.opens (λ t. mark (codes "(") ∷ []) plain
    unfolding kind_of is_mark is_digit
    opens = sign (codes "(") refl

    closes : P rules.closes (λ t. mark (codes ")") ∷ []) plain
    unfolding kind_of is_mark is_digit
    closes = sign (codes ")") refl

    ends-bracket : P (rules.mark (codes "]")) (λ t. mark (codes "]") ∷ []) plain
    unfolding kind_of is_mark is_digit
    ends-bracket = sign (codes "]") refl

    begins-bracket : P (rules.mark (codes "[")) (λ t. mark (codes "[") ∷ []) plain
    unfolding kind_of is_mark is_digit
    begins-bracket = sign (codes "[") refl

    value : P rules.value expr_tokens bare.expr
    value = acted rules.tree expr_tokens bare.expr (λ p. refl) (λ p. refl) parts.value

    -- ---- selects and targets

    bound : (m : List ℕ) → kind_of m ≡ Some k.Mark → P (rules.bound m) (bound_tokens m) bare.expr
    bound m h = acted rules.bound_of (bound_tokens m) bare.expr (λ p. refl) (λ p. refl) (pair (sign m h) (pair value ends-bracket))

    abbrev Ends : Type 0
    Ends = OneOf Lexeme (OneOf Expr (OneOf Expr Expr))

    abbrev ends_tokens : Ends → List Written
    ends_tokens x = on_left_or_right (λ (t : Lexeme). mark (codes "]") ∷ []) (on_left_or_right (bound_tokens (codes ":")) (on_left_or_right (bound_tokens (codes "+:")) (bound_tokens (codes "-:")))) x

    abbrev bare_ends : Ends → Ends
    bare_ends x = each_side plain (each_side bare.expr (each_side bare.expr bare.expr)) x

    span-printed : (x : Ends) → span_end (rules.span_by x) ≡ ends_tokens x
    span-printed (left t) = refl
    span-printed (right (left y)) = refl
    span-printed (right (right (left y))) = refl
    span-printed (right (right (right y))) = refl

    span-bare : (x : Ends) → bare_span (rules.span_by x) ≡ rules.span_by (bare_ends x)
    span-bare (left t) = refl
    span-bare (right (left y)) = refl
    span-bare (right (right (left y))) = refl
    span-bare (right (right (right y))) = refl

    select-end : P rules.select_end span_end bare_span
    unfolding kind_of is_mark is_digit
    select-end =
        acted rules.span_by span_end bare_span span-printed span-bare
        (prints_either old L C L' C' _ _ _ _ _ _ ends-bracket (prints_either old L C L' C' _ _ _ _ _ _ (bound (codes ":") refl)
        (prints_either old L C L' C' _ _ _ _ _ _ (bound (codes "+:") refl) (bound (codes "-:") refl))))

    selected : P rules.selected select_tokens bare.select
    selected = acted rules.select_of select_tokens bare.select (λ p. select_printed p.1.0 p.1.1) (λ p. select_bare p.1.0 p.1.1) (pair begins-bracket (pair value select-end))

    named : P rules.named (λ p. tokens.named_tokens p.0 p.1) (λ p. (bare.path p.0, map bare.select p.1))
    named = acted rules.named_of (λ p. tokens.named_tokens p.0 p.1) (λ p. (bare.path p.0, map bare.select p.1)) (λ p. ap (λ z. z ++ joined (map select_tokens p.1)) (simple_path p.0))
        (λ p. refl) (pair ident (any selected))

    target-tree : P rules.target_tree tokens.target_tokens bare_source.target
    target-tree = acted rules.tree tokens.target_tokens bare_source.target (λ p. refl) (λ p. refl) parts.target

    brace-pair : P (rules.mark (codes "{")) (λ t. mark (codes "{") ∷ []) plain
    unfolding kind_of is_mark is_digit
    brace-pair = sign (codes "{") refl

    brace-end : P (rules.mark (codes "}")) (λ t. mark (codes "}") ∷ []) plain
    unfolding kind_of is_mark is_digit
    brace-end = sign (codes "}") refl

    pub target_rule : P rules.target_rule target_printed placed_target
    target_rule =
        or
        (acted rules.joined_target target_printed placed_target (λ p. written.target-Cat p.1.0) (λ p i. record {
          tree = unplaced.target-Cat p.1.0 i;
          place = 0;
        }) (pair brace-pair (pair (listed target-tree) brace-end)))
        (acted rules.named_target target_printed placed_target (λ p. written.target-Name p.0 p.1) (λ p i. record { tree = unplaced.target-Name p.0 p.1 i; place = 0 }) named)

    -- ---- declarations

    range : P rules.range tokens.range_tokens bare_source.range
    range =
        acted rules.range_of tokens.range_tokens bare_source.range (λ p. ap (λ z. mark (codes "[") ∷ z) (append_assoc (expr_tokens p.1.0) (mark (codes ":") ∷ expr_tokens p.1.1.1.0)
        (mark (codes "]") ∷ []))) (λ p. refl)
        (pair begins-bracket (pair value (pair colon (pair value ends-bracket))))

    signed-printed : (x : Option Lexeme) → tokens.signed_tokens (is_some x) ≡ tokens.perhaps (λ t. word (codes "signed") ∷ []) x
    signed-printed None = refl
    signed-printed (Some t) = refl

    signed-bare : (x : Option Lexeme) → is_some x ≡ is_some (option_map plain x)
    signed-bare None = refl
    signed-bare (Some t) = refl

    signed : P rules.signed tokens.signed_tokens (λ b. b)
    unfolding kind_of is_word
    signed = acted is_some tokens.signed_tokens (λ b. b) signed-printed signed-bare (some (keyword (codes "signed") refl))

    header : P rules.header (λ p. tokens.header_tokens p.0 p.1) (λ p. (p.0, option_map bare_source.range p.1))
    header = pair signed (some range)

    setting : P rules.setting tokens.setting_tokens bare_source.setting
    setting = acted rules.setting_of tokens.setting_tokens bare_source.setting (λ p. refl) (λ p. refl) (pair ident (pair equals value))

    params : P rules.params tokens.params_tokens bare_source.params
    params = acted rules.params_by tokens.params_tokens bare_source.params (λ p. refl) (λ p. refl) (pair header (listed setting))

    abbrev direction_tokens : Bool × PortWord → List Written
    direction_tokens p = tokens.direction p.0 ∷ tokens.port_word_tokens p.1

    input-printed : (p : Lexeme × Option Lexeme) → direction_tokens (rules.input_of p) ≡ (word (codes "input") ∷ []) ++ tokens.perhaps (λ t. word (codes "wire") ∷ []) p.1
    input-printed (t, None) = refl
    input-printed (t, Some r) = refl

    input-bare : (p : Lexeme × Option Lexeme) → rules.input_of p ≡ rules.input_of (plain p.0, option_map plain p.1)
    input-bare (t, None) = refl
    input-bare (t, Some r) = refl

    output-printed : (p : Lexeme × Option (OneOf Lexeme Lexeme)) →
        direction_tokens (rules.output_of p) ≡ (word (codes "output") ∷ []) ++ tokens.perhaps (on_left_or_right (λ (t : Lexeme). word (codes "wire") ∷ [])
        (λ (t : Lexeme). word (codes "reg") ∷ [])) p.1
    output-printed (t, None) = refl
    output-printed (t, Some (left r)) = refl
    output-printed (t, Some (right r)) = refl

    output-bare : (p : Lexeme × Option (OneOf Lexeme Lexeme)) → rules.output_of p ≡ rules.output_of (plain p.0, option_map (each_side plain plain) p.1)
    output-bare (t, None) = refl
    output-bare (t, Some (left r)) = refl
    output-bare (t, Some (right r)) = refl

    direction : P rules.direction direction_tokens (λ p. p)
    unfolding kind_of is_word
    direction =
        or (acted rules.input_of direction_tokens (λ p. p) input-printed input-bare (pair (keyword (codes "input") refl) (some (keyword (codes "wire") refl))))
        (acted rules.output_of direction_tokens (λ p. p) output-printed output-bare
        (pair (keyword (codes "output") refl) (some (prints_either old L C L' C' _ _ _ _ _ _ (keyword (codes "wire") refl) (keyword (codes "reg") refl)))))

    abbrev port_header_tokens : rules.PortHeader → List Written
    port_header_tokens p = direction_tokens p.0 ++ tokens.header_tokens p.1.0 p.1.1

    abbrev bare_port_header : rules.PortHeader → rules.PortHeader
    bare_port_header p = (p.0, (p.1.0, option_map bare_source.range p.1.1))

    port-header : P rules.port_header port_header_tokens bare_port_header
    port-header = pair direction header

    port : P rules.port tokens.item_tokens bare_source.item
    unfolding bare_source.item
    port =
        acted rules.port_item tokens.item_tokens bare_source.item
        (λ p. written.item-Port (rules.aport_of p.0 p.1.0) ∙ append_assoc (port_header_tokens p.0) (commas (map tokens.ident_tokens p.1.0)) (mark (codes ";") ∷ [])) (λ p. refl)
        (pair port-header (pair (listed ident) semicolon))

    net-printed : (p : Ident × Option (Lexeme × Expr)) → tokens.net_tokens (rules.net_name_of p) ≡ tokens.ident_tokens p.0 ++ tokens.perhaps (λ (q : Lexeme × Expr). (mark (codes "=") ∷ [])
        ++ expr_tokens q.1) p.1
    net-printed (x, None) = refl
    net-printed (x, Some q) = refl

    net-bare : (p : Ident × Option (Lexeme × Expr)) → bare_source.net (rules.net_name_of p) ≡ rules.net_name_of (
      bare_source.ident p.0,
      option_map (λ (q : Lexeme × Expr). (
        plain q.0,
        bare.expr q.1,
      )) p.1,
    )
    net-bare (x, None) = refl
    net-bare (x, Some q) = refl

    net-name : P rules.net_name tokens.net_tokens bare_source.net
    net-name = acted rules.net_name_of tokens.net_tokens bare_source.net net-printed net-bare (pair ident (some (pair equals value)))

    wire : P rules.wire tokens.item_tokens bare_source.item
    unfolding kind_of is_word tokens.item_tokens bare_source.item
    wire = acted rules.wire_item tokens.item_tokens bare_source.item (λ p. refl) (λ p. refl) (pair (keyword (codes "wire") refl) (pair header (pair (listed net-name) semicolon)))

    reg-name : P rules.reg_name tokens.reg_tokens bare_source.reg
    reg-name = acted rules.reg_name_of tokens.reg_tokens bare_source.reg (λ p. refl) (λ p. refl) (pair ident (some range))

    reg : P rules.reg tokens.item_tokens bare_source.item
    unfolding kind_of is_word tokens.item_tokens bare_source.item
    reg = acted rules.reg_item tokens.item_tokens bare_source.item (λ p. refl) (λ p. refl) (pair (keyword (codes "reg") refl) (pair header (pair (listed reg-name) semicolon)))

    index : (b : Bool) (w : List ℕ) → tokens.index_word b ≡ word w → kind_of w ≡ Some k.Word → P (rules.index b w) tokens.item_tokens bare_source.item
    unfolding tokens.item_tokens bare_source.item
    index b w e h =
        acted (rules.index_item b) tokens.item_tokens bare_source.item (λ p. ap (λ z. z ∷ (commas (map tokens.ident_tokens p.1.0) ++ (mark (codes ";") ∷ []))) e) (λ p. refl)
        (pair (keyword w h) (pair (listed ident) semicolon))

    parameter : (b : Bool) (w : List ℕ) → tokens.params_word b ≡ word w → kind_of w ≡ Some k.Word → P (rules.parameter b w) tokens.item_tokens bare_source.item
    unfolding tokens.item_tokens bare_source.item
    parameter b w e h =
        acted (rules.params_item b) tokens.item_tokens bare_source.item (λ p. ap (λ z. z ∷ (tokens.params_tokens p.1.0 ++ (mark (codes ";") ∷ []))) e) (λ p. refl) (pair (keyword w h)
        (pair params semicolon))

    -- ---- statements

    loop-start : P rules.loop_start (λ p. tokens.loop_start p.0 p.1 p.2) (λ p. (bare_source.ident p.0, bare.expr p.1, bare.expr p.2))
    unfolding kind_of is_word
    loop-start =
        acted rules.start_of (λ p. tokens.loop_start p.0 p.1 p.2) (λ p. (bare_source.ident p.0, bare.expr p.1, bare.expr p.2)) (λ p. refl) (λ p. refl)
        (pair (keyword (codes "for") refl) (pair opens (pair ident (pair equals (pair value (pair semicolon (pair value semicolon)))))))

    loop-head : P rules.loop_head head_tokens bare_head
    loop-head = acted rules.head_of head_tokens bare_head (λ p. refl) (λ p. refl) (pair loop-start (pair ident (pair equals (pair value closes))))

    loop : P rules.loop tokens.stmt_tokens bare_source.stmt
    loop =
        acted rules.loop_stmt tokens.stmt_tokens bare_source.stmt (λ p. written.stmt-Loop p.0.index p.0.start p.0.test p.0.again p.0.next p.1)
        (λ p. unplaced.stmt-Loop p.0.index p.0.start p.0.test p.0.again p.0.next p.1)
        (pair loop-head parts.stmt)

    empty : P rules.empty tokens.stmt_tokens bare_source.stmt
    empty = acted rules.null_stmt tokens.stmt_tokens bare_source.stmt (λ t. written.stmt-Null) (λ t. unplaced.stmt-Null) semicolon

    label-printed : (x : Option (Lexeme × Ident)) → tokens.perhaps tokens.label_tokens (option_map rules.behind x) ≡ tokens.perhaps (λ (p : Lexeme × Ident). (mark (codes ":") ∷ []) ++
        tokens.ident_tokens p.1) x
    label-printed None = refl
    label-printed (Some p) = refl

    label-bare : (x : Option (Lexeme × Ident)) → option_map bare_source.ident (option_map rules.behind x) ≡ option_map rules.behind (option_map (λ (p : Lexeme × Ident). (
      plain p.0,
      bare_source.ident p.1,
    )) x)
    label-bare None = refl
    label-bare (Some p) = refl

    block-name : P rules.block_name (tokens.perhaps tokens.label_tokens) (option_map bare_source.ident)
    block-name = acted (option_map rules.behind) (tokens.perhaps tokens.label_tokens) (option_map bare_source.ident) label-printed label-bare (some (pair colon ident))

    stmts-to-end : P rules.stmts_to_end (λ ss. joined (map tokens.stmt_tokens ss) ++ (word (codes "end") ∷ [])) (map bare_source.stmt)
    unfolding kind_of is_word
    stmts-to-end = acted rules.before (λ ss. joined (map tokens.stmt_tokens ss) ++ (word (codes "end") ∷ [])) (map bare_source.stmt) (λ p. refl) (λ p. refl)
        (upto parts.stmt (keyword (codes "end") refl))

    block : P rules.block tokens.stmt_tokens bare_source.stmt
    unfolding kind_of is_word
    block = acted rules.block_stmt tokens.stmt_tokens bare_source.stmt (λ p. written.stmt-Block p.1.0 p.1.1) (λ p. unplaced.stmt-Block p.1.0 p.1.1) (pair (keyword (codes "begin") refl)
        (pair block-name stmts-to-end))

    branches : P rules.branches (λ p. tokens.stmt_tokens p.0 ++ tokens.perhaps (λ z. word (codes "else") ∷ tokens.stmt_tokens z) p.1) (λ p. (bare_source.stmt p.0, option_map bare_source.stmt p.1))
    unfolding kind_of is_word
    branches = prints_tail old L C L' C' shapes.stmt (codes "else") (call shapes.stmt) tokens.stmt_tokens tokens.stmt_tokens bare_source.stmt bare_source.stmt refl parts.stmt parts.stmt

    if-printed : (p : Lexeme × (Lexeme × (Expr × (Lexeme × (Stmt × Option Stmt))))) →
        tokens.stmt_tokens (rules.if_stmt p) ≡
        word (codes "if") ∷ mark (codes "(") ∷ (expr_tokens p.1.1.0 ++ (mark (codes ")") ∷ (tokens.stmt_tokens p.1.1.1.1.0 ++ tokens.perhaps (λ z. word (codes "else") ∷ tokens.stmt_tokens
        z) p.1.1.1.1.1)))
    if-printed (a, (b, (c, (d, (x, None))))) = written.stmt-If c x
    if-printed (a, (b, (c, (d, (x, Some y))))) = written.stmt-If_else c x y

    if-bare : (p : Lexeme × (Lexeme × (Expr × (Lexeme × (Stmt × Option Stmt))))) →
        bare_source.stmt (rules.if_stmt p) ≡ rules.if_stmt (plain p.0, (plain p.1.0, (bare.expr p.1.1.0, (plain p.1.1.1.0, (bare_source.stmt p.1.1.1.1.0, option_map bare_source.stmt p.1.1.1.1.1)))))
    if-bare (a, (b, (c, (d, (x, None))))) = unplaced.stmt-If c x
    if-bare (a, (b, (c, (d, (x, Some y))))) = unplaced.stmt-If_else c x y

    choice : P rules.choice tokens.stmt_tokens bare_source.stmt
    unfolding kind_of is_word
    choice = acted rules.if_stmt tokens.stmt_tokens bare_source.stmt if-printed if-bare (pair (keyword (codes "if") refl) (pair opens (pair value (pair closes branches))))

    label : (b : Bool) → P (rules.label b) expr_tokens bare.expr
    label false = acted rules.tree expr_tokens bare.expr (λ p. refl) (λ p. refl) parts.value
    label true = acted rules.tree expr_tokens bare.expr (λ p. refl) (λ p. refl) parts.label

    labels : (b : Bool) → P (rules.list (rules.label b)) tokens.labels_tokens (map bare.expr)
    labels b = prints_list_as old L C L' C' (rules.label b) expr_tokens bare.expr tokens.labels_tokens (λ x xs. refl) (label b)

    default-words : P rules.default_words (λ p. word (codes "default") ∷ mark (codes ":") ∷ []) (λ p. (plain p.0, None))
    unfolding kind_of is_word is_mark is_digit
    default-words = prints_default old L C L' C' refl refl

    default-arm : P rules.default_arm tokens.arm_tokens bare_source.arm
    default-arm = acted rules.default_of tokens.arm_tokens bare_source.arm (λ p. refl) (λ p. refl) (pair default-words parts.stmt)

    labelled-arm : (b : Bool) → P (rules.labelled_arm b) tokens.arm_tokens bare_source.arm
    labelled-arm b = acted rules.labelled_of tokens.arm_tokens bare_source.arm (λ p. refl) (λ p. refl) (pair (labels b) (pair colon parts.stmt))

    arm : (b : Bool) → P (rules.arm b) tokens.arm_tokens bare_source.arm
    arm b = or default-arm (labelled-arm b)

    arms : (b : Bool) → P (rules.arms b) (λ list. joined (map tokens.arm_tokens list) ++ (word (codes "endcase") ∷ [])) (map bare_source.arm)
    unfolding kind_of is_word
    arms b =
        acted rules.arms_of (λ list. joined (map tokens.arm_tokens list) ++ (word (codes "endcase") ∷ [])) (map bare_source.arm)
        (λ p. ap (λ z. z ++ (word (codes "endcase") ∷ [])) (joined-more (tokens.arm_tokens p.0) (map tokens.arm_tokens p.1.0)) ∙
        append_assoc (tokens.arm_tokens p.0) (joined (map tokens.arm_tokens p.1.0)) (word (codes "endcase") ∷ [])) (λ p. refl)
        (pair (arm b) (upto (arm b) (keyword (codes "endcase") refl)))

    cases : (b : Bool) → tokens.case_word b ≡ word (rules.case_word b) → kind_of (rules.case_word b) ≡ Some k.Word → P (rules.cases b) tokens.stmt_tokens bare_source.stmt
    cases b e h =
        acted (rules.case_stmt b) tokens.stmt_tokens bare_source.stmt
        (λ p. written.stmt-Case b p.1.1.0 p.1.1.1.1 ∙ ap (λ z. z ∷ mark (codes "(") ∷ (expr_tokens p.1.1.0 ++ (mark (codes ")") ∷ (joined (map tokens.arm_tokens p.1.1.1.1) ++ (word (codes
        "endcase") ∷ []))))) e)
        (λ p. unplaced.stmt-Case b p.1.1.0 p.1.1.1.1) (pair (keyword (rules.case_word b) h) (pair opens (pair value (pair closes (arms b)))))

    abbrev arrow_tokens : Bool → List Written
    arrow_tokens later = mark (if later then codes "<=" else codes "=") ∷ []

    arrow-printed : (x : OneOf Lexeme Lexeme) → arrow_tokens (rules.is_second x) ≡ on_left_or_right (λ (t : Lexeme). mark (codes "=") ∷ []) (λ (t : Lexeme). mark (codes "<=") ∷ []) x
    arrow-printed (left t) = refl
    arrow-printed (right t) = refl

    arrow-bare : (x : OneOf Lexeme Lexeme) → rules.is_second x ≡ rules.is_second (each_side plain plain x)
    arrow-bare (left t) = refl
    arrow-bare (right t) = refl

    arrow : P rules.arrow arrow_tokens (λ b. b)
    unfolding kind_of is_mark is_digit
    arrow = acted rules.is_second arrow_tokens (λ b. b) arrow-printed arrow-bare (prints_either old L C L' C' _ _ _ _ _ _ equals (sign (codes "<=") refl))

    assigned-printed : (b : Bool) (t : Placed Target) (x : Expr) →
        tokens.stmt_tokens (rules.assigned_by b t x) ≡ tokens.target_tokens t.tree ++ (arrow_tokens b ++ (expr_tokens x ++ (mark (codes ";") ∷ [])))
    assigned-printed false t x = written.stmt-Now t.tree x t.place
    assigned-printed true t x = written.stmt-Later t.tree x t.place

    assigned-bare : (b : Bool) (t : Placed Target) (x : Expr) → bare_source.stmt (rules.assigned_by b t x) ≡ rules.assigned_by b (placed_target t) (bare.expr x)
    assigned-bare false t x = unplaced.stmt-Now t.tree x t.place
    assigned-bare true t x = unplaced.stmt-Later t.tree x t.place

    assignment : P rules.assignment tokens.stmt_tokens bare_source.stmt
    assignment =
        acted rules.assigned tokens.stmt_tokens bare_source.stmt (λ p. assigned-printed p.1.0 p.0 p.1.1.0) (λ p. assigned-bare p.1.0 p.0 p.1.1.0)
        (pair parts.target (pair arrow (pair value semicolon)))

    pub stmt_rule : P rules.stmt_rule tokens.stmt_tokens bare_source.stmt
    unfolding kind_of is_word
    stmt_rule = or empty (or block (or choice (or (cases false refl refl) (or (cases true refl refl) (or loop assignment)))))

    -- ---- items

    continuous : P rules.continuous tokens.continuous_tokens bare_source.continuous
    continuous = acted rules.continuous_of tokens.continuous_tokens bare_source.continuous (λ p. refl) (λ p. refl) (pair parts.target (pair equals value))

    assign : P rules.assign tokens.item_tokens bare_source.item
    unfolding kind_of is_word tokens.item_tokens bare_source.item
    assign = acted rules.assign_item tokens.item_tokens bare_source.item (λ p. refl) (λ p. refl) (pair (keyword (codes "assign") refl) (pair (listed continuous) semicolon))

    star : P rules.star (λ t. mark (codes "*") ∷ []) plain
    unfolding kind_of is_mark is_digit
    star = sign (codes "*") refl

    event-inside : P rules.event_inside inside_watch bare_source.watch
    unfolding kind_of is_word
    event-inside =
        or (acted rules.closed_event inside_watch bare_source.watch (λ p. refl) (λ p. refl) (pair star closes))
        (acted rules.edge_event inside_watch bare_source.watch (λ p. refl) (λ p. refl) (pair (keyword (codes "posedge") refl) (pair ident closes)))

    -- what stands in parentheses is no star alone
    abbrev IsInside : Watch → Type 0
    IsInside x = tokens.watch_tokens x ≡ mark (codes "(") ∷ inside_watch x

    inside-by : (us : List Lexeme) (o : Bool) (y : OneOf Watch Watch) → Spells base L C (either rules.closed_star rules.edge) us o y → IsInside (rules.one_of rules.same_tree rules.same_tree y)
    inside-by us o (left y) h = subst IsInside h.2 refl
    inside-by us o (right y) h = subst IsInside h.2 refl

    inside-spelled : (us : List Lexeme) (o : Bool) (x : Watch) → Spells base L C rules.event_inside us o x → IsInside x
    inside-spelled us o x h = subst IsInside h.2 (inside-by us o h.0 h.1)

    behind-spelled : (us : List Lexeme) (o : Bool) (p : Lexeme × Watch) → Spells base L C (both rules.opens rules.event_inside) us o p → IsInside p.1
    behind-spelled us o p h = inside-spelled h.1 h.3 p.1 h.6

    event : P rules.event tokens.watch_tokens bare_source.watch
    event =
        or (acted rules.star_event tokens.watch_tokens bare_source.watch (λ t. refl) (λ t. refl) star)
        (prints_where old L C L' C' rules.behind (both rules.opens rules.event_inside) (λ p. (mark (codes "(") ∷ []) ++ inside_watch p.1)
        (λ p. (plain p.0, bare_source.watch p.1)) tokens.watch_tokens bare_source.watch
        behind-spelled (λ p. refl) (pair opens event-inside))

    always : P rules.always tokens.item_tokens bare_source.item
    unfolding kind_of is_word is_mark is_digit tokens.item_tokens bare_source.item
    always = acted rules.always_item tokens.item_tokens bare_source.item (λ p. refl) (λ p. refl) (pair (keyword (codes "always") refl) (pair (sign (codes "@") refl) (pair event parts.stmt)))

    ordered-conn : P rules.ordered_conn tokens.conn_tokens bare_source.conn
    ordered-conn = acted rules.ordered_of tokens.conn_tokens bare_source.conn (λ p. refl) (λ p. refl) parts.value

    abbrev conn_end_tokens : Option Expr → List Written
    conn_end_tokens x = tokens.perhaps expr_tokens x ++ (mark (codes ")") ∷ [])

    end-printed : (x : OneOf Lexeme (Expr × Lexeme)) → conn_end_tokens (rules.conn_value x) ≡ on_left_or_right (λ (t : Lexeme). mark (codes ")") ∷ [])
        (λ (p : Expr × Lexeme). expr_tokens p.0 ++ (mark (codes ")") ∷ [])) x
    end-printed (left t) = refl
    end-printed (right p) = refl

    end-bare : (x : OneOf Lexeme (Expr × Lexeme)) → option_map bare.expr (rules.conn_value x) ≡ rules.conn_value (each_side plain (λ (p : Expr × Lexeme). (bare.expr p.0, plain p.1)) x)
    end-bare (left t) = refl
    end-bare (right p) = refl

    conn-end : P rules.conn_end conn_end_tokens (option_map bare.expr)
    conn-end = acted rules.conn_value conn_end_tokens (option_map bare.expr) end-printed end-bare (prints_either old L C L' C' _ _ _ _ _ _ closes (pair value closes))

    named-conn : P rules.named_conn tokens.conn_tokens bare_source.conn
    unfolding kind_of is_mark is_digit
    named-conn = acted rules.named_of_conn tokens.conn_tokens bare_source.conn (λ p. refl) (λ p. refl) (pair (sign (codes ".") refl) (pair ident (pair opens conn-end)))

    conns : P rules.conns (λ list. commas (map tokens.conn_tokens list)) (map bare_source.conn)
    conns = or (listed named-conn) (listed ordered-conn)

    abbrev conns_end_tokens : List Conn → List Written
    conns_end_tokens list = commas (map tokens.conn_tokens list) ++ (mark (codes ")") ∷ [])

    conns-printed : (x : OneOf Lexeme (List Conn × Lexeme)) → conns_end_tokens (rules.conns_or_none x) ≡ on_left_or_right (λ (t : Lexeme). mark (codes ")") ∷ [])
        (λ (p : List Conn × Lexeme). commas (map tokens.conn_tokens p.0) ++ (mark (codes ")") ∷ [])) x
    conns-printed (left t) = refl
    conns-printed (right p) = refl

    conns-bare : (x : OneOf Lexeme (List Conn × Lexeme)) → map bare_source.conn (rules.conns_or_none x) ≡ rules.conns_or_none (each_side plain (λ (p : List Conn × Lexeme). (
      map
          bare_source.conn p.0,
      plain p.1,
    )) x)
    conns-bare (left t) = refl
    conns-bare (right p) = refl

    conns-to-end : P rules.conns_to_end conns_end_tokens (map bare_source.conn)
    conns-to-end = acted rules.conns_or_none conns_end_tokens (map bare_source.conn) conns-printed conns-bare (prints_either old L C L' C' _ _ _ _ _ _ closes (pair conns closes))

    inst : P rules.inst tokens.inst_tokens bare_source.inst
    inst = acted rules.inst_of tokens.inst_tokens bare_source.inst (λ p. refl) (λ p. refl) (pair ident (pair opens conns-to-end))

    hashed : {A : Type 0} (g : Gram base A) (c : A → List Written) (u : A → A) → P g c u → P (rules.hash g) (λ x. mark (codes "#") ∷ parens (c x)) u
    unfolding kind_of is_mark is_digit
    hashed g c u i = acted rules.in_parens (λ x. mark (codes "#") ∷ parens (c x)) u (λ p. refl) (λ p. refl) (pair (sign (codes "#") refl) (pair opens (pair i closes)))

    -- a list that is spelled is not empty
    pub record IsSome {A : Type 0} (xs : List A) : Type 0 where
      pub first : A
      pub others : List A
      pub is : xs ≡ first ∷ others

    list-some : {A : Type 0} (g : Gram base A) (us : List Lexeme) (o : Bool) (xs : List A) → Spells base L C (rules.list g) us o xs → IsSome xs
    list-some g us o xs h = record { first = h.0.0; others = map rules.behind h.0.1; is = sym h.2 }

    conns-by : (us : List Lexeme) (o : Bool) (y : OneOf (List Conn) (List Conn)) → Spells base L C (either (rules.list rules.named_conn) (rules.list rules.ordered_conn)) us o y →
        IsSome (rules.one_of rules.same_tree rules.same_tree y)
    conns-by us o (left y) h = list-some rules.named_conn us o y h
    conns-by us o (right y) h = list-some rules.ordered_conn us o y h

    conns-some : (us : List Lexeme) (o : Bool) (xs : List Conn) → Spells base L C rules.conns us o xs → IsSome xs
    conns-some us o xs h = subst IsSome h.2 (conns-by us o h.0 h.1)

    hash-spelled : {A : Type 0} (c : A → List Written) (xs : List A) → IsSome xs → tokens.hash (map c xs) ≡ mark (codes "#") ∷ parens (commas (map c xs))
    hash-spelled c xs h = ap (λ z. tokens.hash (map c z)) h.is ∙ ap (λ z. mark (codes "#") ∷ parens (commas (map c z))) (sym h.is)

    hash-some : {A : Type 0} (g : Gram base (List A)) → ((us : List Lexeme) (o : Bool) (xs : List A) → Spells base L C g us o xs → IsSome xs) →
        (us : List Lexeme) (o : Bool) (xs : List A) → Spells base L C (rules.hash g) us o xs → IsSome xs
    hash-some g f us o xs h = subst IsSome h.2 (f h.1.6.6.0 h.1.6.6.2 h.0.1.1.0 h.1.6.6.5)

    overrides-spelled : (us : List Lexeme) (o : Bool) (x : Option (List Conn)) → Spells base L C (perhaps (rules.hash rules.conns)) us o x →
        tokens.hash (map tokens.conn_tokens (rules.some_or_none x)) ≡ tokens.perhaps (λ list. mark (codes "#") ∷ parens (commas (map tokens.conn_tokens list))) x
    overrides-spelled us o None h = refl
    overrides-spelled us o (Some xs) h = hash-spelled tokens.conn_tokens xs (hash-some rules.conns conns-some us o xs h)

    some-bare : {A : Type 0} (u : A → A) (x : Option (List A)) → map u (rules.some_or_none x) ≡ rules.some_or_none (option_map (map u) x)
    some-bare u None = refl
    some-bare u (Some xs) = refl

    overrides : P rules.overrides (λ list. tokens.hash (map tokens.conn_tokens list)) (map bare_source.conn)
    overrides =
        prints_where old L C L' C' rules.some_or_none (perhaps (rules.hash rules.conns)) (tokens.perhaps (λ list. mark (codes "#") ∷ parens (commas (map tokens.conn_tokens list))))
        (option_map (map bare_source.conn))
        (λ list. tokens.hash (map tokens.conn_tokens list)) (map bare_source.conn) overrides-spelled (some-bare bare_source.conn)
        (some (hashed rules.conns (λ list. commas (map tokens.conn_tokens list)) (map bare_source.conn) conns))

    instance : P rules.instance tokens.item_tokens bare_source.item
    unfolding tokens.item_tokens bare_source.item
    instance = acted rules.instance_item tokens.item_tokens bare_source.item (λ p. refl) (λ p. refl) (pair ident (pair overrides (pair (listed inst) semicolon)))

    block-items : (w : List ℕ) → kind_of w ≡ Some k.Word → P (rules.block_items w) (λ xs. joined (map tokens.item_tokens xs) ++ (word w ∷ [])) (map bare_source.item)
    block-items w h = acted rules.before (λ xs. joined (map tokens.item_tokens xs) ++ (word w ∷ [])) (map bare_source.item) (λ p. refl) (λ p. refl) (upto parts.block_item (keyword w h))

    generate : P rules.generate tokens.item_tokens bare_source.item
    unfolding kind_of is_word
    generate = acted rules.generate_item tokens.item_tokens bare_source.item (λ p. written.item-Generate p.1) (λ p. unplaced.item-Generate p.1) (pair (keyword (codes "generate") refl)
        (block-items (codes "endgenerate") refl))

    abbrev named_tokens : Ident × List Item → List Written
    named_tokens b = (word (codes "begin") ∷ []) ++ ((mark (codes ":") ∷ []) ++ (tokens.ident_tokens b.0 ++ (joined (map tokens.item_tokens b.1) ++ (word (codes "end") ∷ []))))

    abbrev bare_named : Ident × List Item → Ident × List Item
    bare_named b = (bare_source.ident b.0, map bare_source.item b.1)

    named-block : P rules.named_block named_tokens bare_named
    unfolding kind_of is_word
    named-block = acted rules.named_block_of named_tokens bare_named (λ p. refl) (λ p. refl) (pair (keyword (codes "begin") refl) (pair colon (pair ident (block-items (codes "end") refl))))

    generate-loop : P rules.generate_loop tokens.item_tokens bare_source.item
    generate-loop =
        acted rules.loop_item tokens.item_tokens bare_source.item (λ p. written.item-Loop p.0.index p.0.start p.0.test p.0.again p.0.next p.1.0 p.1.1)
        (λ p. unplaced.item-Loop p.0.index p.0.start p.0.test p.0.again p.0.next p.1.0 p.1.1)
        (pair loop-head named-block)

    pub block_item_rule : P rules.block_item_rule tokens.item_tokens bare_source.item
    unfolding kind_of is_word
    block_item_rule =
        or wire (or reg (or (index false (codes "integer") refl refl) (or (index true (codes "genvar") refl refl) (or (parameter true (codes "localparam") refl refl)
        (or assign (or always (or generate-loop instance)))))))

    pub item_rule : P rules.item_rule tokens.item_tokens bare_source.item
    unfolding kind_of is_word
    item_rule = or port (or (parameter false (codes "parameter") refl refl) (or generate block_item_rule))

    -- ---- groups

    module _ {H X Q : Type 0} (f : H → List X → Q) (h : Gram base H) (x : Gram base X) (hc : H → List Written) (xc : X → List Written) (qc : Q → List Written) (hu : H → H) (xu : X → X) (qu : Q → Q)
        (of : (y : H) (ys : List X) → qc (f y ys) ≡ hc y ++ commas (map xc ys)) (un : (y : H) (ys : List X) → qu (f y ys) ≡ f (hu y) (map xu ys)) where
      abbrev Entry : Type 0
      Entry = Lexeme × (Option H × X)

      abbrev entry_tokens : Entry → List Written
      entry_tokens e = (mark (codes ",") ∷ []) ++ (tokens.perhaps hc e.1.0 ++ xc e.1.1)

      abbrev bare_entry : Entry → Entry
      bare_entry e = (plain e.0, (option_map hu e.1.0, xu e.1.1))

      groups-some : (y : H) (ys : List X) (es : List Entry) → IsSome (rules.groups f y ys es)
      groups-some y ys [] = record { first = f y ys; others = []; is = refl }
      groups-some y ys ((t, (None, z)) ∷ es) = groups-some y (ys ++ (z ∷ [])) es
      groups-some y ys ((t, (Some g, z)) ∷ es) = record { first = f y ys; others = rules.groups f g (z ∷ []) es; is = refl }

      others-of : (gs : List Q) → IsSome gs → others (map qc gs) ≡ mark (codes ",") ∷ commas (map qc gs)
      others-of gs i = ap (λ z. others (map qc z)) i.is ∙ others-more (qc i.first) (map qc i.others) ∙ ap (λ z. mark (codes ",") ∷ commas (map qc z)) (sym i.is)

      others-last : (xs : List (List Written)) (y : List Written) → others (xs ++ (y ∷ [])) ≡ others xs ++ (mark (codes ",") ∷ y)
      others-last [] y = others-more y [] ∙ ap (λ z. mark (codes ",") ∷ (y ++ z)) others-none ∙ ap (λ z. mark (codes ",") ∷ z) (append-nil y) ∙ ap (λ z. z ++ (mark (codes ",") ∷ y)) (sym others-none)
      others-last (a ∷ xs) y =
          others-more a (xs ++ (y ∷ [])) ∙ ap (λ z. mark (codes ",") ∷ (a ++ z)) (others-last xs y) ∙ ap (λ z. mark (codes ",") ∷ z) (sym (append_assoc a (others xs) (mark (codes ",") ∷ y))) ∙
          ap (λ z. z ++ (mark (codes ",") ∷ y)) (sym (others-more a xs))

      map-last : {A B : Type 0} (m : A → B) (xs : List A) (y : A) → map m (xs ++ (y ∷ [])) ≡ map m xs ++ (m y ∷ [])
      map-last m [] y = refl
      map-last m (a ∷ xs) y = ap (λ z. m a ∷ z) (map-last m xs y)

      commas-last : (a : X) (ys : List X) (z : X) → commas (map xc ((a ∷ ys) ++ (z ∷ []))) ≡ commas (map xc (a ∷ ys)) ++ (mark (codes ",") ∷ xc z)
      commas-last a ys z = ap (λ l. xc a ++ others l) (map-last xc ys z) ∙ ap (λ l. xc a ++ l) (others-last (map xc ys) (xc z)) ∙
          sym (append_assoc (xc a) (others (map xc ys)) (mark (codes ",") ∷ xc z))

      one-group : (q : List Written) → commas (q ∷ []) ≡ q
      one-group q = ap (λ z. q ++ z) others-none ∙ append-nil q

      groups-printed : (y : H) (a : X) (ys : List X) (es : List Entry) → commas (map qc (rules.groups f y (a ∷ ys) es)) ≡ (hc y ++ commas (map xc (a ∷ ys))) ++ joined (map entry_tokens es)
      groups-printed y a ys [] = one-group (qc (f y (a ∷ ys))) ∙ of y (a ∷ ys) ∙ sym (append-nil (hc y ++ commas (map xc (a ∷ ys)))) ∙
          ap (λ z. (hc y ++ commas (map xc (a ∷ ys))) ++ z) (sym joined-none)
      groups-printed y a ys ((t, (None, z)) ∷ es) =
          groups-printed y a (ys ++ (z ∷ [])) es ∙ ap (λ l. (hc y ++ l) ++ joined (map entry_tokens es)) (commas-last a ys z) ∙
          ap (λ l. l ++ joined (map entry_tokens es)) (sym (append_assoc (hc y) (commas (map xc (a ∷ ys))) (mark (codes ",") ∷ xc z))) ∙
          append_assoc (hc y ++ commas (map xc (a ∷ ys))) (mark (codes ",") ∷ xc z) (joined (map entry_tokens es)) ∙
          ap (λ l. (hc y ++ commas (map xc (a ∷ ys))) ++ l) (sym (joined-more (entry_tokens (t, (None, z))) (map entry_tokens es)))
      groups-printed y a ys ((t, (Some g, z)) ∷ es) =
          ap (λ l. l ++ others (map qc (rules.groups f g (z ∷ []) es))) (of y (a ∷ ys)) ∙
          ap (λ l. (hc y ++ commas (map xc (a ∷ ys))) ++ l)
          (others-of (rules.groups f g (z ∷ []) es) (groups-some g (z ∷ []) es) ∙
          ap (λ l. mark (codes ",") ∷ l) (groups-printed g z [] es ∙ ap (λ l. (hc g ++ l) ++ joined (map entry_tokens es)) (one-group (xc z))) ∙
          sym (joined-more (entry_tokens (t, (Some g, z))) (map entry_tokens es)))

      groups-bare : (y : H) (ys : List X) (es : List Entry) → map qu (rules.groups f y ys es) ≡ rules.groups f (hu y) (map xu ys) (map bare_entry es)
      groups-bare y ys [] = ap (λ z. z ∷ []) (un y ys)
      groups-bare y ys ((t, (None, z)) ∷ es) = groups-bare y (ys ++ (z ∷ [])) es ∙ ap (λ l. rules.groups f (hu y) l (map bare_entry es)) (map-last xu ys z)
      groups-bare y ys ((t, (Some g, z)) ∷ es) = ap (λ l. l ∷ map qu (rules.groups f g (z ∷ []) es)) (un y ys) ∙ ap (λ l. f (hu y) (map xu ys) ∷ l) (groups-bare g (z ∷ []) es)

      one-item : (a : X) → commas (map xc (a ∷ [])) ≡ xc a
      one-item a = one-group (xc a)

      pub grouped : P h hc hu → P x xc xu → P (rules.grouped f h x) (λ qs. commas (map qc qs)) (map qu)
      grouped i j =
          acted (rules.all_groups f) (λ qs. commas (map qc qs)) (map qu)
          (λ p. groups-printed p.0 p.1.0 [] p.1.1 ∙ ap (λ l. (hc p.0 ++ l) ++ joined (map entry_tokens p.1.1)) (one-item p.1.0) ∙ append_assoc (hc p.0) (xc p.1.0) (joined (map entry_tokens p.1.1)))
          (λ p. groups-bare p.0 (p.1.0 ∷ []) p.1.1) (pair i (pair j (any (pair comma (pair (some i) j)))))

      pub grouped_some : (us : List Lexeme) (o : Bool) (qs : List Q) → Spells base L C (rules.grouped f h x) us o qs → IsSome qs
      grouped_some us o qs s = subst IsSome s.2 (groups-some s.0.0 (s.0.1.0 ∷ []) s.0.1.1)

    -- ---- modules

    params-header : P rules.params_header (λ p. word (codes "parameter") ∷ tokens.header_tokens p.0 p.1) (λ p. (p.0, option_map bare_source.range p.1))
    unfolding kind_of is_word
    params-header = acted rules.behind (λ p. word (codes "parameter") ∷ tokens.header_tokens p.0 p.1) (λ p. (p.0, option_map bare_source.range p.1)) (λ p. refl) (λ p. refl)
        (pair (keyword (codes "parameter") refl) header)

    abbrev params_header_tokens : rules.Header → List Written
    params_header_tokens p = word (codes "parameter") ∷ tokens.header_tokens p.0 p.1

    abbrev bare_header : rules.Header → rules.Header
    bare_header p = (p.0, option_map bare_source.range p.1)

    group-list : P rules.group_list (λ list. commas (map tokens.group_tokens list)) (map bare_source.params)
    group-list =
        grouped rules.params_of rules.params_header rules.setting params_header_tokens tokens.setting_tokens tokens.group_tokens bare_header bare_source.setting bare_source.params (λ y ys.
        refl) (λ y ys. refl) params-header setting

    group-some : (us : List Lexeme) (o : Bool) (xs : List Params) → Spells base L C rules.group_list us o xs → IsSome xs
    group-some us o xs h =
        grouped_some rules.params_of rules.params_header rules.setting params_header_tokens tokens.setting_tokens tokens.group_tokens bare_header bare_source.setting bare_source.params (λ y
        ys. refl) (λ y ys. refl) us o xs h

    params-spelled : (us : List Lexeme) (o : Bool) (x : Option (List Params)) → Spells base L C (perhaps (rules.hash rules.group_list)) us o x →
        tokens.hash (map tokens.group_tokens (rules.some_or_none x)) ≡ tokens.perhaps (λ list. mark (codes "#") ∷ parens (commas (map tokens.group_tokens list))) x
    params-spelled us o None h = refl
    params-spelled us o (Some xs) h = hash-spelled tokens.group_tokens xs (hash-some rules.group_list group-some us o xs h)

    module-params : P rules.module_params (λ list. tokens.hash (map tokens.group_tokens list)) (map bare_source.params)
    module-params =
        prints_where old L C L' C' rules.some_or_none (perhaps (rules.hash rules.group_list)) (tokens.perhaps (λ list. mark (codes "#") ∷ parens (commas (map tokens.group_tokens list))))
        (option_map (map bare_source.params))
        (λ list. tokens.hash (map tokens.group_tokens list)) (map bare_source.params) params-spelled (some-bare bare_source.params)
        (some (hashed rules.group_list (λ list. commas (map tokens.group_tokens list)) (map bare_source.params) group-list))

    declared-ports : P rules.declared_ports (λ list. commas (map tokens.port_tokens list)) (map bare_source.port)
    declared-ports =
        grouped rules.aport_of rules.port_header rules.ident port_header_tokens tokens.ident_tokens tokens.port_tokens bare_port_header bare_source.ident bare_source.port (λ y ys. refl)
        (λ y ys. refl) port-header ident

    ports-printed : (x : OneOf (List Aport) (List Ident)) → inside_ports (rules.one_of ports.Declared ports.Names x) ≡ on_left_or_right (λ list. commas (map tokens.port_tokens list))
        (λ xs. commas (map tokens.ident_tokens xs)) x
    ports-printed (left list) = refl
    ports-printed (right xs) = refl

    ports-bare : (x : OneOf (List Aport) (List Ident)) → bare_source.port_list (rules.one_of ports.Declared ports.Names x) ≡ rules.one_of ports.Declared ports.Names (each_side (map
        bare_source.port) (map bare_source.ident) x)
    ports-bare (left list) = refl
    ports-bare (right xs) = refl

    port-list : P rules.port_list inside_ports bare_source.port_list
    port-list = acted (rules.one_of ports.Declared ports.Names) inside_ports bare_source.port_list ports-printed ports-bare (prints_either old L C L' C' _ _ _ _ _ _ declared-ports (listed ident))

    abbrev ports_end_tokens : Ports → List Written
    ports_end_tokens x = inside_ports x ++ (mark (codes ")") ∷ [])

    ports-end-printed : (x : OneOf Lexeme (Ports × Lexeme)) → ports_end_tokens (rules.ports_or_empty x) ≡ on_left_or_right (λ (t : Lexeme). mark (codes ")") ∷ [])
        (λ (p : Ports × Lexeme). inside_ports p.0 ++ (mark (codes ")") ∷ [])) x
    ports-end-printed (left t) = refl
    ports-end-printed (right p) = refl

    ports-end-bare : (x : OneOf Lexeme (Ports × Lexeme)) → bare_source.port_list (rules.ports_or_empty x) ≡ rules.ports_or_empty (each_side plain (λ (p : Ports × Lexeme).
        (bare_source.port_list p.0, plain p.1)) x)
    ports-end-bare (left t) = refl
    ports-end-bare (right p) = refl

    ports-to-end : P rules.ports_to_end ports_end_tokens bare_source.port_list
    ports-to-end = acted rules.ports_or_empty ports_end_tokens bare_source.port_list ports-end-printed ports-end-bare (prints_either old L C L' C' _ _ _ _ _ _ closes (pair port-list closes))

    -- a list in parentheses is there
    abbrev IsThere : Ports → Type 0
    IsThere x = tokens.ports_tokens x ≡ mark (codes "(") ∷ ports_end_tokens x

    list-there : (y : OneOf (List Aport) (List Ident)) → IsThere (rules.one_of ports.Declared ports.Names y)
    list-there (left list) = refl
    list-there (right xs) = refl

    end-there : (us : List Lexeme) (o : Bool) (y : OneOf Lexeme (Ports × Lexeme)) → Spells base L C (either rules.closes (both rules.port_list rules.closes)) us o y → IsThere (rules.ports_or_empty y)
    end-there us o (left t) h = refl
    end-there us o (right p) h = subst IsThere h.5.2 (list-there h.5.0)

    ports-there : (us : List Lexeme) (o : Bool) (x : Ports) → Spells base L C rules.ports_to_end us o x → IsThere x
    ports-there us o x h = subst IsThere h.2 (end-there us o h.0 h.1)

    ports-spelled : (us : List Lexeme) (o : Bool) (x : Option (Lexeme × Ports)) → Spells base L C (perhaps (both rules.opens rules.ports_to_end)) us o x →
        tokens.ports_tokens (rules.ports_or_absent x) ≡ tokens.perhaps (λ (p : Lexeme × Ports). (mark (codes "(") ∷ []) ++ ports_end_tokens p.1) x
    ports-spelled us o None h = refl
    ports-spelled us o (Some p) h = ports-there h.1 h.3 p.1 h.6

    absent-bare : (x : Option (Lexeme × Ports)) → bare_source.port_list (rules.ports_or_absent x) ≡ rules.ports_or_absent (option_map (λ (p : Lexeme × Ports). (
      plain p.0,
      bare_source.port_list p.1,
    )) x)
    absent-bare None = refl
    absent-bare (Some p) = refl

    module-ports : P rules.module_ports tokens.ports_tokens bare_source.port_list
    module-ports =
        prints_where old L C L' C' rules.ports_or_absent (perhaps (both rules.opens rules.ports_to_end)) (tokens.perhaps (λ (p : Lexeme × Ports). (mark (codes "(") ∷ []) ++ ports_end_tokens p.1))
        (option_map (λ (p : Lexeme × Ports). (plain p.0, bare_source.port_list p.1))) tokens.ports_tokens bare_source.port_list ports-spelled absent-bare (some (pair opens ports-to-end))

    items-to-end : P rules.items_to_end (λ xs. joined (map tokens.item_tokens xs) ++ (word (codes "endmodule") ∷ [])) (map bare_source.item)
    unfolding kind_of is_word
    items-to-end = acted rules.before (λ xs. joined (map tokens.item_tokens xs) ++ (word (codes "endmodule") ∷ [])) (map bare_source.item) (λ p. refl) (λ p. refl)
        (upto parts.item (keyword (codes "endmodule") refl))

    head-first : (a b c d : List Written) → (a ++ (b ++ c)) ++ d ≡ a ++ (b ++ (c ++ d))
    head-first a b c d = append_assoc a (b ++ c) d ∙ ap (λ z. a ++ z) (append_assoc b c d)

    module-rule : P rules.module_rule tokens.module_tokens bare_source.module_tree
    unfolding kind_of is_word
    module-rule =
        acted rules.module_of tokens.module_tokens bare_source.module_tree
        (λ p. ap (λ z. word (codes "module") ∷ name p.1.0.name ∷ z)
        (head-first (tokens.hash (map tokens.group_tokens p.1.1.0)) (tokens.ports_tokens p.1.1.1.0) (mark (codes ";") ∷ [])
        (joined (map tokens.item_tokens p.1.1.1.1.1) ++ (word (codes "endmodule") ∷ []))))
        (λ p. refl)
        (pair (keyword (codes "module") refl) (pair ident (pair module-params (pair module-ports (pair semicolon items-to-end)))))

    pub source_rule : P rules.source_rule tokens.source_tokens bare_source.source
    source_rule = acted rules.source_of tokens.source_tokens bare_source.source (λ p. joined-more (tokens.module_tokens p.0) (map tokens.module_tokens p.1)) (λ p. refl)
        (pair module-rule (any module-rule))

pub both_true : (a b : Bool) → (a && b) ≡ true → (a ≡ true) × (b ≡ true)
both_true true b h = (refl, h)
both_true false b h = absurd (true≢false (sym h))
