-- Small designs with blocks.
use Rattle.std.specs.Fmt.{digits}
use Rattle.lv_source.specs.Meaning.{read_expr, read_select}
use Rattle.lv_source.specs.Effect.{pieces, executes, turns, turns_from}
use Rattle.lv_source.specs.Flow.{flow}
use Rattle.lv_source.specs.Declarations.{labels}
use Rattle.lv_source.specs.Parts.{as_target, parts, scopes_of, signals_of}
use Rattle.lv_source.specs.Sites.{walk, walk_select, target_sites}
use Rattle.lv_source.specs.Standing.{standing}
use Rattle.std.specs.Prelude.{◌≡◌, ℕ, true, false, List, [], ◌∷◌, map, Some, None, codes, refl}
use Rattle.lv_bits.specs.declared.op.Op.TheVariants as o
use Rattle.lv_ast.specs.declared.expr.Expr.{Expr}
use Rattle.lv_ast.specs.declared.stmt.Stmt.{Stmt}
use Rattle.lv_ast.specs.declared.stmt.Stmt.TheVariants as b
use Rattle.lv_ast.specs.declared.item.Item.{Item}
use Rattle.lv_ast.specs.declared.item.Item.TheVariants as i
use Rattle.lv_ast.specs.declared.item.Ports.TheVariants as p
use Rattle.lv_source.specs.Names.{Valuation}
use Rattle.lv_source.specs.Parts.{Design, parts, registers_of, inputs_of, after}
use Rattle.lv_source.specs.Settled.{next_bit, idle_bits}
use Rattle.lv_source.specs.Legal.{Latch, Port, places_of}
use Rattle.lv_ast.proofs.Build.{id, name, bin, to, to_bits, bit, chosen, plain, sized, wild, bits, block, case_of, input, output, output_reg, assign, module_of, clk, always_star, at_clock, reg, wire, valued, loop_of, cat, down}
use Rattle.lv_source.proofs.Build.{design_t, refused, told_at}

-- ---- three labels for two bits

abbrev arm : ℕ → ℕ → List Expr × Stmt
arm label value = (sized 2 label ∷ [], b.Now (to (codes "y")) (sized 1 value) 70)

abbrev cases : List (List Expr × Stmt) → Design
cases arms = design_t (module_of (codes "t") (clk ∷ input (codes "a") 26 (Some (bits 1 0)) ∷ output_reg (codes "y") 40 None ∷ [])
    (always_star (case_of false (name (codes "a")) arms) 52 ∷ []) ∷ [])

three_latch : refused (cases (arm 0 0 ∷ arm 1 1 ∷ arm 2 1 ∷ [])) ≡ (Latch, 52) ∷ []
unfolding read_expr read_select pieces executes turns turns_from flow labels as_target walk walk_select target_sites standing digits parts scopes_of signals_of places_of
three_latch = refl

four_are_legal : refused (cases (arm 0 0 ∷ arm 1 1 ∷ arm 2 1 ∷ arm 3 0 ∷ [])) ≡ []
unfolding read_expr read_select pieces executes turns turns_from flow labels as_target walk walk_select target_sites standing digits parts scopes_of signals_of places_of
four_are_legal = refl

default_is_legal : refused (cases (arm 0 0 ∷ ([], b.Now (to (codes "y")) (sized 1 1) 80) ∷ [])) ≡ []
unfolding read_expr read_select pieces executes turns turns_from flow labels as_target walk walk_select target_sites standing digits parts scopes_of signals_of places_of
default_is_legal = refl

no_registers : registers_of (cases (arm 0 0 ∷ [])) ≡ []
unfolding read_expr read_select pieces executes turns turns_from flow labels as_target walk walk_select target_sites standing digits parts scopes_of signals_of places_of
no_registers = refl

-- the block gives y its value
taken : map (λ p. after p (valued ((codes "a", 2) ∷ [])) (codes "y")) (parts (cases (arm 0 0 ∷ arm 1 1 ∷ arm 2 1 ∷ arm 3 0 ∷ []))) ≡ 1 ∷ []
unfolding read_expr read_select pieces executes turns turns_from flow labels as_target walk walk_select target_sites standing digits parts scopes_of signals_of places_of
taken = refl

-- ---- casez, with a label that fits each value

abbrev free_arm : ℕ → ℕ → ℕ → List Expr × Stmt
free_arm label free value = (wild 4 label free ∷ [], b.Now (to (codes "y")) (sized 2 value) 70)

abbrev free_cases : Design
free_cases = design_t (module_of (codes "t") (clk ∷ input (codes "a") 26 (Some (bits 3 0)) ∷ output_reg (codes "y") 40 (Some (bits 1 0)) ∷ [])
    (always_star (case_of true (name (codes "a")) (free_arm 8 7 3 ∷ free_arm 4 3 2 ∷ free_arm 0 15 1 ∷ [])) 52 ∷ []) ∷ [])

free_is_legal : refused free_cases ≡ []
unfolding read_expr read_select pieces executes turns turns_from flow labels as_target walk walk_select target_sites standing digits parts scopes_of signals_of places_of
free_is_legal = refl

free_values : map (λ a. map (λ p. after p (valued ((codes "a", a) ∷ [])) (codes "y")) (parts free_cases)) (8 ∷ 5 ∷ 0 ∷ []) ≡ (3 ∷ []) ∷ (2 ∷ []) ∷ (1 ∷ []) ∷ []
unfolding read_expr read_select pieces executes turns turns_from flow labels as_target walk walk_select target_sites standing digits parts scopes_of signals_of places_of
free_values = refl

-- ---- a memory of four words

abbrev memory : Design
memory = design_t (module_of (codes "t") (clk ∷ input (codes "a") 26 (Some (bits 2 0)) ∷ input (codes "d") 36 (Some (bits 7 0)) ∷ output (codes "y") 46 (Some (bits 7 0)) ∷ [])
    (reg (codes "m") 60 (Some (bits 7 0)) (Some (bits 0 3)) ∷ assign (to (codes "y")) (chosen (codes "m") (bit (name (codes "a")) ∷ [])) 80 ∷
    at_clock (b.Later (to_bits (codes "m") (bit (name (codes "a")) ∷ [])) (name (codes "d")) 99) 90 ∷ []) ∷ [])

memory_registers : registers_of memory ≡ codes "m[0]" ∷ codes "m[1]" ∷ codes "m[2]" ∷ codes "m[3]" ∷ []
unfolding read_expr read_select pieces executes turns turns_from flow labels as_target walk walk_select target_sites standing digits parts scopes_of signals_of places_of
memory_registers = refl

memory_inputs : inputs_of memory ≡ codes "a" ∷ codes "d" ∷ []
unfolding read_expr read_select pieces executes turns turns_from flow labels as_target walk walk_select target_sites standing digits parts scopes_of signals_of places_of
memory_inputs = refl

memory_is_legal : refused memory ≡ []
unfolding read_expr read_select pieces executes turns turns_from flow labels as_target walk walk_select target_sites standing digits parts scopes_of signals_of places_of
memory_is_legal = refl

abbrev next_of : Design → Valuation → List ℕ → List ℕ → List ℕ
next_of d v name places = map (λ k. next_bit d v (record { name = name; place = k })) places

-- m[1] becomes 7
memory_next : next_of memory (valued ((codes "a", 1) ∷ (codes "d", 7) ∷ [])) (codes "m[1]") (0 ∷ 1 ∷ 2 ∷ 3 ∷ []) ≡ 1 ∷ 1 ∷ 1 ∷ 0 ∷ []
unfolding read_expr read_select pieces executes turns turns_from flow labels as_target walk walk_select target_sites standing digits parts scopes_of signals_of places_of
memory_next = refl

-- and keeps what it has where a is 5
memory_kept : next_of memory (valued ((codes "a", 5) ∷ (codes "d", 7) ∷ (codes "m[1]", 8) ∷ [])) (codes "m[1]") (0 ∷ 1 ∷ 2 ∷ 3 ∷ []) ≡ 0 ∷ 0 ∷ 0 ∷ 1 ∷ []
unfolding read_expr read_select pieces executes turns turns_from flow labels as_target walk walk_select target_sites standing digits parts scopes_of signals_of places_of
memory_kept = refl

memory_read : map (λ p. after p (valued ((codes "a", 1) ∷ (codes "m[1]", 9) ∷ [])) (codes "y")) (parts memory) ≡ 9 ∷ 0 ∷ []
unfolding read_expr read_select pieces executes turns turns_from flow labels as_target walk walk_select target_sites standing digits parts scopes_of signals_of places_of
memory_read = refl

-- ---- a clocked block with a variable of its own: u = a + 1; q <= u + u; u = 0

abbrev four : List ℕ → Expr
four n = name n

abbrev own_variable : List Item → Design
own_variable more = design_t (module_of (codes "t") (clk ∷ input (codes "a") 26 (Some (bits 3 0)) ∷ output_reg (codes "q") 40 (Some (bits 3 0)) ∷ output (codes "z") 44 None ∷ [])
    (reg (codes "u") 60 (Some (bits 3 0)) None ∷
    at_clock (block (b.Now (to (codes "u")) (bin o.Add (four (codes "a")) (sized 4 1)) 80 ∷
    b.Later (to (codes "q")) (bin o.Add (four (codes "u")) (four (codes "u"))) 90 ∷
    b.Now (to (codes "u")) (sized 4 0) 100 ∷ [])) 70 ∷ more) ∷ [])

own_is_legal : refused (own_variable []) ≡ []
unfolding read_expr read_select pieces executes turns turns_from flow labels as_target walk walk_select target_sites standing digits parts scopes_of signals_of places_of
own_is_legal = refl

own_next : next_of (own_variable []) (valued ((codes "a", 3) ∷ (codes "u", 5) ∷ [])) (codes "q") (0 ∷ 1 ∷ 2 ∷ 3 ∷ []) ≡ 0 ∷ 0 ∷ 0 ∷ 1 ∷ []
unfolding read_expr read_select pieces executes turns turns_from flow labels as_target walk walk_select target_sites standing digits parts scopes_of signals_of places_of
own_next = refl

own_left : next_of (own_variable []) (valued ((codes "a", 3) ∷ (codes "u", 5) ∷ [])) (codes "u") (0 ∷ 1 ∷ 2 ∷ 3 ∷ []) ≡ 0 ∷ 0 ∷ 0 ∷ 0 ∷ []
unfolding read_expr read_select pieces executes turns turns_from flow labels as_target walk walk_select target_sites standing digits parts scopes_of signals_of places_of
own_left = refl

-- read by another part
own_is_read : map (λ r. r.1) (refused (own_variable (assign (to (codes "z")) (chosen (codes "u") (bit (plain 0) ∷ [])) 120 ∷ []))) ≡ 80 ∷ 0 ∷ 100 ∷ 0 ∷ []
unfolding read_expr read_select pieces executes turns turns_from flow labels as_target walk walk_select target_sites standing digits parts scopes_of signals_of places_of
own_is_read = refl

-- ---- a loop in a block: y[k] = a[3 - k]

abbrev turned : Design
turned = design_t (module_of (codes "t") (clk ∷ input (codes "a") 26 (Some (bits 3 0)) ∷ output_reg (codes "y") 40 (Some (bits 3 0)) ∷ [])
    (i.Index false (id (codes "k") 50 ∷ []) ∷
    always_star (loop_of (id (codes "k") 60) (plain 0) (bin o.Lt (name (codes "k")) (plain 4)) (id (codes "k") 70) (bin o.Add (name (codes "k")) (plain 1))
    (b.Now (to_bits (codes "y") (bit (name (codes "k")) ∷ [])) (chosen (codes "a") (bit (bin o.Sub (plain 3) (name (codes "k"))) ∷ [])) 80)) 55 ∷ []) ∷ [])

turned_value : map (λ p. after p (valued ((codes "a", 1) ∷ [])) (codes "y")) (parts turned) ≡ 8 ∷ []
unfolding read_expr read_select pieces executes turns turns_from flow labels as_target walk walk_select target_sites standing digits parts scopes_of signals_of places_of
turned_value = refl

turned_is_legal : refused turned ≡ []
unfolding read_expr read_select pieces executes turns turns_from flow labels as_target walk walk_select target_sites standing digits parts scopes_of signals_of places_of
turned_is_legal = refl

-- ---- idle bits

idle : idle_bits (design_t (module_of (codes "t") (clk ∷ []) (wire (codes "w") 30 (Some (bits 1 0)) ∷ []) ∷ [])) ≡ record { name = codes "w"; place = 0 } ∷ record { name = codes "w"; place = 1 } ∷ []
unfolding read_expr read_select pieces executes turns turns_from flow labels as_target walk walk_select target_sites standing digits parts scopes_of signals_of places_of
idle = refl

-- ---- two registers that exchange their values

abbrev pair : Design
pair = design_t (module_of (codes "t") (clk ∷ output_reg (codes "a") 26 None ∷ output_reg (codes "b") 36 None ∷ [])
    (at_clock (block (b.Later (to (codes "a")) (name (codes "b")) 50 ∷ b.Later (to (codes "b")) (name (codes "a")) 60 ∷ [])) 40 ∷ []) ∷ [])

pair_is_legal : refused pair ≡ []
unfolding read_expr read_select pieces executes turns turns_from flow labels as_target walk walk_select target_sites standing digits parts scopes_of signals_of places_of
pair_is_legal = refl

pair_next : map (λ n. next_of pair (valued ((codes "a", 1) ∷ [])) n (0 ∷ [])) (codes "a" ∷ codes "b" ∷ []) ≡ (0 ∷ []) ∷ (1 ∷ []) ∷ []
unfolding read_expr read_select pieces executes turns turns_from flow labels as_target walk walk_select target_sites standing digits parts scopes_of signals_of places_of
pair_next = refl

-- ---- selects out of range read 0, and a write there has no effect: y = {x[5], x[1 -: 2], x[0]} of wire [1:0] x, and r[4] = 1

abbrev beyond : Design
beyond = design_t (module_of (codes "t") (clk ∷ input (codes "x") 26 (Some (bits 1 0)) ∷ output (codes "y") 36 (Some (bits 3 0)) ∷ output_reg (codes "r") 38 (Some (bits 3 0)) ∷ [])
    (assign (to (codes "y")) (cat (chosen (codes "x") (bit (plain 5) ∷ []) ∷ chosen (codes "x") (down (plain 1) (plain 2) ∷ []) ∷ chosen (codes "x") (bit (plain 0) ∷ []) ∷ [])) 40 ∷
    always_star (block (b.Now (to (codes "r")) (sized 4 2) 60 ∷ b.Now (to_bits (codes "r") (bit (plain 4) ∷ [])) (sized 1 1) 70 ∷ [])) 50 ∷ []) ∷ [])

beyond_is_legal : refused beyond ≡ []
unfolding read_expr read_select pieces executes turns turns_from flow labels as_target walk walk_select target_sites standing digits parts scopes_of signals_of places_of
beyond_is_legal = refl

beyond_reads : map (λ p. after p (valued ((codes "x", 3) ∷ [])) (codes "y")) (parts beyond) ≡ 7 ∷ 0 ∷ []
unfolding read_expr read_select pieces executes turns turns_from flow labels as_target walk walk_select target_sites standing digits parts scopes_of signals_of places_of
beyond_reads = refl

beyond_keeps : map (λ p. after p (valued []) (codes "r")) (parts beyond) ≡ 0 ∷ 2 ∷ []
unfolding read_expr read_select pieces executes turns turns_from flow labels as_target walk walk_select target_sites standing digits parts scopes_of signals_of places_of
beyond_keeps = refl

-- ---- ports that the header lists by name: each wants a direction among the items

abbrev listed : List Item → Design
listed xs = design_t (record { name = id (codes "t") 7; params = []; ports = p.Names (id (codes "clk") 9 ∷ id (codes "a") 14 ∷ id (codes "y") 17 ∷ []); items = xs } ∷ [])

abbrev directions : List Item
directions = i.Port clk ∷ i.Port (input (codes "a") 26 None) ∷ i.Port (output (codes "y") 36 None) ∷ assign (to (codes "y")) (name (codes "a")) 40 ∷ []

listed_is_legal : refused (listed directions) ≡ []
unfolding read_expr read_select pieces executes turns turns_from flow labels as_target walk walk_select target_sites standing digits parts scopes_of signals_of places_of
listed_is_legal = refl

listed_inputs : inputs_of (listed directions) ≡ codes "a" ∷ []
unfolding read_expr read_select pieces executes turns turns_from flow labels as_target walk walk_select target_sites standing digits parts scopes_of signals_of places_of
listed_inputs = refl

-- without its direction, and with a direction for a name that isn't listed
unlisted : map (λ xs. told_at (listed xs) Port) ((i.Port clk ∷ i.Port (output (codes "y") 36 None) ∷ []) ∷ (i.Port (input (codes "b") 44 None) ∷ directions) ∷ []) ≡ (14 ∷ []) ∷ (44 ∷ []) ∷ []
unfolding read_expr read_select pieces executes turns turns_from flow labels as_target walk walk_select target_sites standing digits parts scopes_of signals_of places_of
unlisted = refl
