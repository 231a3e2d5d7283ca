-- A `case` whose labels are full for the selector's own width, but not for the width of the `case`: where it was taken as full, two valuations were settled.
use Rattle.std.specs.Fmt.{digits}
use Rattle.lv_source.specs.Meaning.{read_expr, read_select}
use Rattle.lv_source.specs.Effect.{pieces, executes, turns, turns_from}
use Rattle.lv_source.specs.Flow.{flow}
use Rattle.lv_source.specs.Declarations.{labels}
use Rattle.lv_source.specs.Parts.{as_target, parts, scopes_of, signals_of}
use Rattle.lv_source.specs.Sites.{walk, walk_select, target_sites}
use Rattle.lv_source.specs.Standing.{standing}
use Rattle.std.specs.Prelude.{◌≡◌, ℕ, true, false, List, [], ◌∷◌, map, Some, None, codes, refl}
use Rattle.lv_bits.specs.declared.op.Op.TheVariants as o
use Rattle.lv_ast.specs.declared.expr.Expr.{Expr}
use Rattle.lv_ast.specs.declared.stmt.Stmt.{Stmt}
use Rattle.lv_ast.specs.declared.stmt.Stmt.TheVariants as b
use Rattle.lv_source.specs.Names.{Valuation}
use Rattle.lv_source.specs.Parts.{Design, parts, after}
use Rattle.lv_source.specs.Legal.{Latch, places_of}
use Rattle.lv_ast.proofs.Build.{name, bin, to, sized, bits, case_of, input, output_reg, module_of, clk, always_star, valued}
use Rattle.lv_source.proofs.Build.{design_t, refused}
use Rattle.std.proofs.Common.{◌<◌, ◌^◌, ◌||◌, Bool, false, arith, sym, subst}
use Rattle.std.specs.Prelude.{if◌then◌else◌, bytes_eq, ◌==◌}
use Rattle.std.specs.List.{list_all, list_any, range_with_len}
use Rattle.std.proofs.lemmas.List.Elements.{All-nil, All-from_recursion}
use Rattle.lv_source.specs.Settled.{IsSettled}
use Rattle.lv_source.specs.Parts.{Part, is_clocked}
use Rattle.lv_ast.specs.Names.{Name}
use Rattle.lv_source.specs.Places.{Bit, bit_at}
use Rattle.std.specs.Prelude.{filter, not}

-- always @* case (a + b) 4'd0: y = 0; .. 4'd3: y = 0; endcase, with a and b of two bits: the sum has more than two bits at the width of the labels
abbrev wide_arm : ℕ → List Expr × Stmt
wide_arm label = (sized 4 label ∷ [], b.Now (to (codes "y")) (sized 1 0) 70)

abbrev carried : Design
carried = design_t (module_of (codes "t") (clk ∷ input (codes "a") 26 (Some (bits 1 0)) ∷ input (codes "b") 28 (Some (bits 1 0)) ∷ output_reg (codes "y") 40 None ∷ [])
    (always_star (case_of false (bin o.Add (name (codes "a")) (name (codes "b"))) (wide_arm 0 ∷ wide_arm 1 ∷ wide_arm 2 ∷ wide_arm 3 ∷ [])) 52 ∷ []) ∷ [])

carried_is_refused : refused carried ≡ (Latch, 52) ∷ []
unfolding read_expr read_select pieces executes turns turns_from flow labels as_target walk walk_select target_sites standing digits parts scopes_of signals_of places_of
carried_is_refused = refl

-- for both values of y are settled where a and b are 3
keeps_zero : map (λ p. after p (valued ((codes "a", 3) ∷ (codes "b", 3) ∷ (codes "y", 0) ∷ [])) (codes "y")) (parts carried) ≡ 0 ∷ []
unfolding read_expr read_select pieces executes turns turns_from flow labels as_target walk walk_select target_sites standing digits parts scopes_of signals_of places_of
keeps_zero = refl

keeps_one : map (λ p. after p (valued ((codes "a", 3) ∷ (codes "b", 3) ∷ (codes "y", 1) ∷ [])) (codes "y")) (parts carried) ≡ 1 ∷ []
unfolding read_expr read_select pieces executes turns turns_from flow labels as_target walk walk_select target_sites standing digits parts scopes_of signals_of places_of
keeps_one = refl

-- each value of the selector's own width has a label that fits
full_before : list_all (λ y. list_any (λ l. y == l) (0 ∷ 1 ∷ 2 ∷ 3 ∷ [])) (range_with_len 0 (2 ^ 2)) ≡ true
full_before = refl

-- a and b are 3, and y is this
abbrev both : ℕ → Valuation
both y name = if bytes_eq name (codes "a") then 3 else if bytes_eq name (codes "b") then 3 else if bytes_eq name (codes "y") then y else 0

fitting : (y : ℕ) → y < 2 → (a b c : Bool) → (if a then 3 else if b then 3 else if c then y else 0) < 2 ^ (if a then 2 else if b then 2 else if c then 1 else 0)
fitting y h true b c = omega arith
fitting y h false true c = omega arith
fitting y h false false true = omega arith
fitting y h false false false = omega arith

or_false : (a b c : Bool) → ◌≡◌ {A = ℕ} (if a || false then 2 else if b || false then 2 else if c || false then 1 else 0) (if a then 2 else if b then 2 else if c then 1 else 0)
or_false true b c = refl
or_false false true c = refl
or_false false false true = refl
or_false false false false = refl

-- the block leaves both as they are
settled : (y : ℕ) → y < 2 → IsSettled carried (both y)
unfolding read_expr read_select pieces executes turns turns_from flow labels as_target walk walk_select target_sites standing digits parts scopes_of signals_of places_of
settled y h = record {
  fits = λ name. subst (λ (k : ℕ). both y name < 2 ^ k) (sym (or_false (bytes_eq name (codes "a")) (bytes_eq name (codes "b")) (bytes_eq name (codes "y"))))
      (fitting y h (bytes_eq name (codes "a")) (bytes_eq name (codes "b")) (bytes_eq name (codes "y")));
  holds = All-from_recursion (λ (p : Part). (name : Name) → after p (both y) name ≡ both y name) (filter (λ p. not (is_clocked p)) (parts carried)) ((λ name. refl), tt);
  idle = All-nil (λ (b : Bit). bit_at (both y) b ≡ 0);
}

zero_settled : IsSettled carried (both 0)
zero_settled = settled 0 (omega arith)

one_settled : IsSettled carried (both 1)
one_settled = settled 1 (omega arith)
