-- Design A is legal: nothing is refused, and no list of parts is a cycle.
use Rattle.std.specs.Fmt.{digits}
use Rattle.lv_source.specs.Meaning.{read_expr, read_select}
use Rattle.lv_source.specs.Effect.{pieces, executes, turns, turns_from}
use Rattle.lv_source.specs.Flow.{flow}
use Rattle.lv_source.specs.Declarations.{labels}
use Rattle.lv_source.specs.Parts.{as_target, parts, scopes_of, signals_of}
use Rattle.lv_source.specs.Sites.{walk, walk_select, target_sites}
use Rattle.lv_source.specs.Standing.{standing}
use Rattle.std.proofs.Common.{◌≡◌, ℕ, zero, suc, Bool, true, false, ◌&&◌, List, [], ◌∷◌, refl, ap, ◌∙◌, sym}
use Rattle.lv_source.specs.Parts.{parts}
use Rattle.lv_source.specs.Legal.{IsLegal, Kind, UnknownModule, UnknownName, Duplicate, NotConstant, ZeroDivisor, Range, Recursion, Port, WrongKind, ClockUse, Blocking, Nonblocking, TwoDrivers, Undriven, Latch, ReadFirst, places_of}
use Rattle.lv_source.specs.PartRules.{feeds, is_chain, is_cycle, are_distinct}
use Rattle.lv_source.proofs.DesignA.{design}

none_feeds : (j k : ℕ) → feeds (parts design) j k ≡ false
unfolding read_expr read_select pieces executes turns turns_from flow labels as_target walk walk_select target_sites standing digits parts scopes_of signals_of places_of
none_feeds zero zero = refl
none_feeds zero (suc k) = refl
none_feeds (suc j) k = refl

no_chain : (first k : ℕ) (ks : List ℕ) → is_chain (parts design) first (k ∷ ks) ≡ false
no_chain first k [] = none_feeds k first
no_chain first k (j ∷ ks) = ap (λ b. b && is_chain (parts design) first (j ∷ ks)) (none_feeds k j)

and_false : (b : Bool) → (b && false) ≡ false
unfolding read_expr read_select pieces executes turns turns_from flow labels as_target walk walk_select target_sites standing digits parts scopes_of signals_of places_of
and_false true = refl
and_false false = refl

not_cyclic : (ks : List ℕ) → is_cycle (parts design) ks ≡ false
not_cyclic [] = refl
not_cyclic (k ∷ ks) = ap (λ b. are_distinct (k ∷ ks) && b) (no_chain k k ks) ∙ and_false (are_distinct (k ∷ ks))

nothing : (kind : Kind) → places_of design kind ≡ []
unfolding read_expr read_select pieces executes turns turns_from flow labels as_target walk walk_select target_sites standing digits parts scopes_of signals_of places_of
nothing UnknownModule = refl
nothing UnknownName = refl
nothing Duplicate = refl
nothing NotConstant = refl
nothing ZeroDivisor = refl
nothing Range = refl
nothing Recursion = refl
nothing Port = refl
nothing WrongKind = refl
nothing ClockUse = refl
nothing Blocking = refl
nothing Nonblocking = refl
nothing TwoDrivers = refl
nothing Undriven = refl
nothing Latch = refl
nothing ReadFirst = refl

pub design_is_legal : IsLegal design
design_is_legal = record { nothing = nothing; no_cycle = λ ks h. (let e : false ≡ true = sym (not_cyclic ks) ∙ h in cc) }
