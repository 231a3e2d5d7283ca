-- Designs by hand.
use Rattle.std.specs.Prelude.{ℕ, Bool, true, false, List, [], ◌∷◌, map, codes}
use Rattle.lv_ast.specs.declared.item.Module.{Module}
use Rattle.lv_source.specs.Parts.{Design}
use Rattle.lv_source.specs.Legal.{Kind, refusals, places_of}

-- a design of these modules, with the top t and the clock clk
abbrev pub design_t : List Module → Design
design_t ms = record { source = record { modules = ms }; top = codes "t"; clock = codes "clk" }

-- the kinds that hold, with their places
abbrev pub refused : Design → List (Kind × ℕ)
refused d = map (λ r. (r.kind, r.at.place)) (refusals d)

-- the places of one kind
abbrev pub told_at : Design → Kind → List ℕ
told_at d kind = map (λ at. at.place) (places_of d kind)

abbrev pub is_empty : List ℕ → Bool
is_empty [] = true
is_empty (x ∷ xs) = false
