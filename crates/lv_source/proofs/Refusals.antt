-- Each kind of refusal, once held and once not, and the marginal cases of some.
use Rattle.std.specs.Fmt.{digits}
use Rattle.lv_source.specs.Meaning.{read_expr, read_select}
use Rattle.lv_source.specs.Effect.{pieces, executes, turns, turns_from}
use Rattle.lv_source.specs.Flow.{flow}
use Rattle.lv_source.specs.Declarations.{labels}
use Rattle.lv_source.specs.Parts.{as_target, parts, scopes_of, signals_of}
use Rattle.lv_source.specs.Sites.{walk, walk_select, target_sites}
use Rattle.lv_source.specs.Standing.{standing}
use Rattle.std.specs.Prelude.{◌≡◌, ℕ, true, false, List, [], ◌∷◌, map, Some, None, codes, refl, ◌+◌}
use Rattle.std.specs.List.{list_all}
use Rattle.lv_bits.specs.declared.op.Op.TheVariants as o
use Rattle.lv_ast.specs.declared.expr.Expr.{Expr, end_of-Select}
use Rattle.lv_ast.specs.declared.expr.Expr.TheVariants as e
use Rattle.lv_ast.specs.declared.stmt.Stmt.TheVariants as b
use Rattle.lv_ast.specs.declared.stmt.Stmt.{Stmt}
use Rattle.lv_ast.specs.declared.item.Item.{Item}
use Rattle.lv_ast.specs.declared.item.Item.TheVariants as i
use Rattle.lv_ast.specs.declared.item.Module.{Module}
use Rattle.lv_ast.specs.declared.item.Conn.{Conn}
use Rattle.lv_source.specs.Parts.{drives, Design, parts, registers_of}
use Rattle.lv_source.specs.Legal.{Kind, Blocking, Latch, UnknownModule, UnknownName, Duplicate, NotConstant, ZeroDivisor, Recursion, Port, WrongKind, ClockUse, Nonblocking, TwoDrivers, Undriven, ReadFirst, Range, places_of}
use Rattle.lv_source.specs.PartRules.{is_cycle}
use Rattle.lv_ast.proofs.Build.{id, name, bin, un, cat, to, to_bits, bit, slice, chosen, plain, sized, bits, block, input, output, assign, module_of, clk, always_star, at_clock, reg, wire, loop_of, linked, case_of}
use Rattle.lv_source.proofs.Build.{design_t, refused, told_at, is_empty}
use Rattle.lv_source.proofs.Hierarchy.{divided_by, parameter_n, module_s}

-- ---- small designs

abbrev plain_t : List Item → Design
plain_t xs = design_t (module_of (codes "t") (clk ∷ output (codes "y") 33 None ∷ []) xs ∷ [])

abbrev y_is : Expr → Item
y_is x = assign (to (codes "y")) x 40

abbrev wire_of : List ℕ → ℕ → Item
wire_of n top = wire n 36 (Some (bits top 0))

abbrev range_to : Expr → Item
range_to x = wire (codes "w") 36 (Some (record { left = x; right = plain 0 }))

abbrev z_at : Expr
z_at = e.Name' (record { steps = []; name = codes "z"; place = 44 }) [] end_of-Select

-- two modules, each with an instance of the other
abbrev holds_other : List ℕ → List ℕ → ℕ → Module
holds_other n m place = module_of n [] (i.Instance (id m place) [] (record { name = id (codes "u") 50; conns = [] } ∷ []) ∷ [])

abbrev empty : List ℕ → Module
empty n = module_of n [] []

-- an instance of s, with these connections
abbrev one_instance : List Conn → Design
one_instance conns = design_t (
    module_of (codes "t") (clk ∷ input (codes "x") 60 (Some (bits 7 0)) ∷ output (codes "y") 61 (Some (bits 3 0)) ∷ [])
    (i.Instance (id (codes "s") 100) [] (record { name = id (codes "v") 110; conns = conns } ∷ []) ∷ []) ∷ module_s ∷ [])

abbrev clocked_by : Conn
clocked_by = linked (codes "clk") (name (codes "clk")) 111

abbrev reg_r : Item
reg_r = reg (codes "r") 36 None None

abbrev set_r : Expr → Stmt
set_r x = b.Now (to (codes "r")) x 50

abbrev later_r : Expr → Stmt
later_r x = b.Later (to (codes "r")) x 50

abbrev one_bit : Expr
one_bit = sized 1 1

abbrev r_read : Item
r_read = y_is (name (codes "r"))

-- always @* case (r[1:0]) ..
abbrev labelled : List ℕ → Design
labelled ls = plain_t (wire_of (codes "c") 1 ∷ assign (to (codes "c")) (sized 2 0) 39 ∷ reg_r ∷
    always_star (case_of false (name (codes "c")) (map (λ l. (sized 2 l ∷ [], set_r one_bit)) ls)) 42 ∷ [])

-- a `case` with two defaults
abbrev defaults : List (List Expr × Stmt) → Design
defaults arms = plain_t (reg_r ∷ always_star (case_of false (name (codes "y")) arms) 42 ∷ y_is one_bit ∷ [])

-- ---- each kind

-- here the kind holds, at these places
abbrev held : List (Kind × Design)
held =
    (UnknownModule, design_t (holds_other (codes "t") (codes "s") 20 ∷ [])) ∷
    (UnknownName, plain_t (y_is z_at ∷ [])) ∷
    (Duplicate, plain_t (wire (codes "w") 36 None ∷ reg (codes "w") 46 None None ∷ [])) ∷
    (Duplicate, defaults (([], set_r one_bit) ∷ ([], set_r one_bit) ∷ [])) ∷
    (NotConstant, plain_t (wire (codes "a") 30 None ∷ range_to (name (codes "a")) ∷ [])) ∷
    (ZeroDivisor, plain_t (y_is (divided_by (plain 7) (plain 0)) ∷ [])) ∷
    (Range, plain_t (wire_of (codes "w") 128 ∷ [])) ∷
    (Recursion, design_t (holds_other (codes "t") (codes "s") 20 ∷ holds_other (codes "s") (codes "t") 30 ∷ [])) ∷
    (Port, one_instance (clocked_by ∷ linked (codes "b") (name (codes "x")) 112 ∷ [])) ∷
    (WrongKind, plain_t (reg_r ∷ assign (to (codes "r")) one_bit 40 ∷ [])) ∷
    (ClockUse, plain_t (y_is (name (codes "clk")) ∷ [])) ∷
    (Blocking, plain_t (reg_r ∷ at_clock (set_r one_bit) 42 ∷ r_read ∷ [])) ∷
    (Nonblocking, plain_t (reg_r ∷ always_star (later_r one_bit) 42 ∷ [])) ∷
    (TwoDrivers, plain_t (y_is one_bit ∷ assign (to (codes "y")) one_bit 50 ∷ [])) ∷
    (Undriven, plain_t (wire (codes "w") 36 None ∷ y_is (name (codes "w")) ∷ [])) ∷
    (Latch, labelled (0 ∷ 1 ∷ 2 ∷ [])) ∷
    (ReadFirst, plain_t (reg_r ∷ always_star (set_r (un o.Not (name (codes "r")))) 42 ∷ [])) ∷ []

held_at : map (λ r. told_at r.1 r.0) held ≡
    (20 ∷ []) ∷ (44 ∷ []) ∷ (46 ∷ []) ∷ (0 ∷ []) ∷ (0 ∷ 0 ∷ []) ∷ (0 ∷ 0 ∷ []) ∷ (36 ∷ []) ∷ (30 ∷ 50 ∷ []) ∷ (112 ∷ 112 ∷ 0 ∷ []) ∷ (40 ∷ 0 ∷ []) ∷ (0 ∷ []) ∷ (50 ∷ 0 ∷ []) ∷ (50 ∷ 0 ∷ []) ∷
    (40 ∷ 0 ∷ 50 ∷ 0 ∷ []) ∷ (40 ∷ []) ∷ (42 ∷ []) ∷ (42 ∷ []) ∷ []
unfolding read_expr read_select pieces executes turns turns_from flow labels as_target walk walk_select target_sites standing digits parts scopes_of signals_of places_of
held_at = refl

-- and here it doesn't
abbrev not_held : List (Kind × Design)
not_held =
    (UnknownModule, design_t (holds_other (codes "t") (codes "s") 20 ∷ empty (codes "s") ∷ [])) ∷
    (UnknownName, plain_t (wire (codes "z") 36 None ∷ y_is z_at ∷ [])) ∷
    (Duplicate, plain_t (wire (codes "w") 36 None ∷ reg (codes "v") 46 None None ∷ [])) ∷
    (Duplicate, defaults ((one_bit ∷ [], set_r one_bit) ∷ ([], set_r one_bit) ∷ [])) ∷
    (NotConstant, plain_t (i.Params true (parameter_n 3) ∷ range_to (name (codes "N")) ∷ [])) ∷
    (ZeroDivisor, plain_t (y_is (divided_by (plain 7) (plain 1)) ∷ [])) ∷
    (Range, plain_t (wire_of (codes "w") 127 ∷ [])) ∷
    (Recursion, design_t (holds_other (codes "t") (codes "s") 20 ∷ empty (codes "s") ∷ [])) ∷
    (Port, one_instance (clocked_by ∷ linked (codes "a") (name (codes "x")) 112 ∷ [])) ∷
    (WrongKind, plain_t (wire (codes "r") 36 None ∷ assign (to (codes "r")) one_bit 40 ∷ [])) ∷
    (ClockUse, plain_t (y_is one_bit ∷ [])) ∷
    (Blocking, plain_t (reg_r ∷ at_clock (set_r one_bit) 42 ∷ [])) ∷
    (Nonblocking, plain_t (reg_r ∷ always_star (set_r one_bit) 42 ∷ [])) ∷
    (TwoDrivers, plain_t (wire_of (codes "w") 1 ∷ assign (to_bits (codes "w") (bit (plain 0) ∷ [])) one_bit 40 ∷ assign (to_bits (codes "w") (bit (plain 1) ∷ [])) one_bit 50 ∷ [])) ∷
    (Undriven, plain_t (wire (codes "w") 36 None ∷ assign (to (codes "w")) one_bit 39 ∷ y_is (name (codes "w")) ∷ [])) ∷
    (Latch, labelled (0 ∷ 1 ∷ 2 ∷ 3 ∷ [])) ∷
    (ReadFirst, plain_t (reg_r ∷ always_star (block (set_r one_bit ∷ set_r (un o.Not (name (codes "r"))) ∷ [])) 42 ∷ [])) ∷ []

not_held_at : list_all is_empty (map (λ r. told_at r.1 r.0) not_held) ≡ true
unfolding read_expr read_select pieces executes turns turns_from flow labels as_target walk walk_select target_sites standing digits parts scopes_of signals_of places_of
not_held_at = refl

-- ---- more cases of some kinds

-- w[2:0] of wire [0:3] w; an unsized literal in a concatenation; a range that reads a parameter that comes later;
-- a port that is connected twice; an output that is connected to an expression that is no target, and one to a concatenation of names;
-- an instance without a clock; an index that isn't constant, in the target of a continuous assignment and in the connection of an output
abbrev more : List (Kind × Design)
more =
    (Range, plain_t (wire (codes "w") 36 (Some (bits 0 3)) ∷ y_is (chosen (codes "w") (slice (plain 2) (plain 0) ∷ [])) ∷ [])) ∷
    (Range, plain_t (y_is (cat (plain 1 ∷ [])) ∷ [])) ∷
    (NotConstant, plain_t (range_to (name (codes "N")) ∷ i.Params true (parameter_n 3) ∷ [])) ∷
    (Port, one_instance (clocked_by ∷ linked (codes "a") (name (codes "x")) 112 ∷ linked (codes "a") (name (codes "x")) 113 ∷ [])) ∷
    (Port, one_instance (clocked_by ∷ linked (codes "q") (bin o.Add (name (codes "x")) (name (codes "x"))) 112 ∷ [])) ∷
    (Port, one_instance (clocked_by ∷ linked (codes "q") (cat (chosen (codes "y") (slice (plain 1) (plain 0) ∷ []) ∷ chosen (codes "y") (slice (plain 3) (plain 2) ∷ []) ∷ [])) 112 ∷ [])) ∷
    (ClockUse, one_instance (linked (codes "a") (name (codes "x")) 111 ∷ [])) ∷
    (NotConstant, plain_t (wire_of (codes "w") 1 ∷ assign (to_bits (codes "w") (bit (name (codes "y")) ∷ [])) one_bit 40 ∷ [])) ∷
    (NotConstant, one_instance (clocked_by ∷ linked (codes "q") (chosen (codes "y") (bit (name (codes "x")) ∷ [])) 112 ∷ [])) ∷ []

more_at : map (λ r. told_at r.1 r.0) more ≡
    (0 ∷ []) ∷ (0 ∷ []) ∷ (0 ∷ 0 ∷ []) ∷ (113 ∷ 113 ∷ 0 ∷ []) ∷ (112 ∷ 112 ∷ 0 ∷ []) ∷ [] ∷ (35 ∷ 35 ∷ []) ∷ (0 ∷ 0 ∷ 40 ∷ 0 ∷ []) ∷ (0 ∷ 0 ∷ 112 ∷ 0 ∷ []) ∷ []
unfolding read_expr read_select pieces executes turns turns_from flow labels as_target walk walk_select target_sites standing digits parts scopes_of signals_of places_of
more_at = refl

-- ---- a circle, and none

abbrev in_order : Design
in_order = plain_t (wire_of (codes "w") 1 ∷ assign (to_bits (codes "w") (bit (plain 0) ∷ [])) one_bit 40 ∷
    assign (to_bits (codes "w") (bit (plain 1) ∷ [])) (un o.Not (chosen (codes "w") (bit (plain 0) ∷ []))) 50 ∷ [])

order_is_legal : refused in_order ≡ []
unfolding read_expr read_select pieces executes turns turns_from flow labels as_target walk walk_select target_sites standing digits parts scopes_of signals_of places_of
order_is_legal = refl

no_circle : is_cycle (parts in_order) (0 ∷ 1 ∷ []) ≡ false
unfolding read_expr read_select pieces executes turns turns_from flow labels as_target walk walk_select target_sites standing digits parts scopes_of signals_of places_of
no_circle = refl

-- ---- loop indices

abbrev indexed : Stmt → Design
indexed s = plain_t (i.Index false (id (codes "k") 30 ∷ []) ∷ reg (codes "r") 31 (Some (bits 3 0)) None ∷ at_clock s 35 ∷ [])

abbrev count_to : ℕ → ℕ → List ℕ → Stmt → Stmt
count_to place n again s = loop_of (id (codes "k") place) (plain 0) (bin o.Lt (name (codes "k")) (plain n)) (id again (place + 1)) (bin o.Add (name (codes "k")) (plain 1)) s

abbrev sets : Stmt
sets = b.Later (to_bits (codes "r") (bit (name (codes "k")) ∷ [])) one_bit 50

-- a loop whose index is a divisor in its test
abbrev divides : ℕ → Stmt
divides start = block (b.Null ∷ loop_of (id (codes "k") 60) (plain start) (bin o.Lt (divided_by (plain 8) (name (codes "k"))) (plain 0)) (id (codes "k") 61) (plain 1) b.Null ∷ [])

-- inside its loop; outside of it; a loop in itself; another second name; a divisor that is 0 at the first turn, and one that never is
loops_at : map (λ s. refused (indexed s))
    (count_to 40 4 (codes "k") sets ∷ sets ∷ count_to 40 1 (codes "k") (count_to 60 1 (codes "k") sets) ∷ count_to 40 4 (codes "j") sets ∷ divides 0 ∷ divides 1 ∷ []) ≡
    [] ∷ ((UnknownName, 0) ∷ []) ∷ ((UnknownName, 60) ∷ []) ∷ ((UnknownName, 41) ∷ []) ∷ ((ZeroDivisor, 0) ∷ (ZeroDivisor, 0) ∷ []) ∷ [] ∷ []
unfolding read_expr read_select pieces executes turns turns_from flow labels as_target walk walk_select target_sites standing digits parts scopes_of signals_of places_of
loops_at = refl

-- a loop that has no turn writes nothing
no_turn : registers_of (indexed (count_to 40 0 (codes "k") sets)) ≡ codes "r" ∷ []
unfolding read_expr read_select pieces executes turns turns_from flow labels as_target walk walk_select target_sites standing digits parts scopes_of signals_of places_of
no_turn = refl

nothing_driven : map drives (parts (indexed (count_to 40 0 (codes "k") sets))) ≡ [] ∷ []
unfolding read_expr read_select pieces executes turns turns_from flow labels as_target walk walk_select target_sites standing digits parts scopes_of signals_of places_of
nothing_driven = refl
