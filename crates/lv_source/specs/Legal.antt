-- The kinds of refusal, where each one holds, and when a source is legal.
use Rattle.std.specs.Prelude.{codes, ◌≡◌, ℕ, if◌then◌else◌, List, [], ◌∷◌, ◌++◌, map, bytes_eq, Some, None, flat_map, Contains, IsTrue}
use Rattle.lv_ast.specs.declared.item.Module.{Module}
use Rattle.lv_ast.specs.Names.{Name, spelled, alone}
use Rattle.lv_source.specs.Names.{known, is_clock_sort}
use Rattle.lv_source.specs.Scopes.{Scope, module_named}
use Rattle.lv_source.specs.Parts.{Design, Part, At, parts, scopes_of, top_scope, numbered_from}
use Rattle.lv_source.specs.ScopeRules as s
use Rattle.lv_source.specs.PartRules as p

pub data Kind : Type 0 where
  UnknownModule : Kind
  UnknownName : Kind
  Duplicate : Kind
  NotConstant : Kind
  ZeroDivisor : Kind
  Range : Kind
  Recursion : Kind
  Port : Kind
  WrongKind : Kind
  ClockUse : Kind
  Blocking : Kind
  Nonblocking : Kind
  TwoDrivers : Kind
  Undriven : Kind
  Latch : Kind
  ReadFirst : Kind

-- ---- places

-- in each scope
abbrev pub in_scopes : Design → (Scope → List ℕ) → List At
in_scopes d f = flat_map (λ s. map (λ place. record { path = s.path; place = place }) (f s)) (scopes_of d)

-- at each part
abbrev pub at_parts : Design → (List Part → ℕ → Part → List At) → List At
at_parts d f = let ps : List Part = parts d in flat_map (λ kp. f ps kp.0 kp.1) (numbered_from 0 ps)

abbrev pub at_top : ℕ → At
at_top place = record { path = []; place = place }

-- the top names no module
abbrev pub top_module : Design → List At
top_module d = elim (module_named d.source d.top) [ None ↦ at_top 0 ∷ [] | Some m ↦ [] ]

-- modules of one name
abbrev pub modules_again : List Module → List At
modules_again [] = []
modules_again (m ∷ ms) = flat_map (λ n. map at_top (s.place_if (bytes_eq n.name.name m.name.name) n.name.place)) ms ++ modules_again ms

-- the key `clock` names no one-bit input of the top
abbrev pub top_clock : Design → List At
top_clock d = elim (module_named d.source d.top) [
  | None ↦ []
  | Some m ↦ if is_clock_sort (known ((top_scope d m).names (alone d.clock))).sort then [] else at_top 0 ∷ []
]

-- ---- each kind

abbrev pub unknown_modules : Design → List At
unknown_modules d = top_module d ++ in_scopes d (s.unknown_modules d.source)

abbrev pub unknown_names : Design → List At
unknown_names d = in_scopes d (s.unknown_names d.source)

abbrev pub duplicates : Design → List At
duplicates d = modules_again d.source.modules ++ in_scopes d s.duplicates

abbrev pub not_constants : Design → List At
not_constants d = in_scopes d (s.not_constants d.source) ++ at_parts d (λ ps k q. p.unfixed_targets q)

abbrev pub zero_divisors : Design → List At
zero_divisors d = in_scopes d (s.zero_divisors d.source)

abbrev pub ranges : Design → List At
ranges d = in_scopes d (s.ranges d.source)

abbrev pub recursions : Design → List At
recursions d = in_scopes d (s.recursions d.source)

abbrev pub ports : Design → List At
ports d = in_scopes d (s.ports d.source)

abbrev pub wrong_kinds : Design → List At
wrong_kinds d = at_parts d (λ ps k q. p.wrong_kinds d q)

abbrev pub clock_uses : Design → List At
clock_uses d = top_clock d ++ in_scopes d (s.clock_uses d.source) ++ at_parts d (λ ps k q. p.other_clocks q ++ p.clock_targets q)

abbrev pub blocking : Design → List At
blocking d = at_parts d (p.blocking d)

abbrev pub nonblocking : Design → List At
nonblocking d = at_parts d (λ ps k q. p.nonblocking q)

abbrev pub two_drivers : Design → List At
two_drivers d = at_parts d (p.two_drivers d)

abbrev pub undriven : Design → List At
undriven d = at_parts d (λ ps k q. p.undriven d ps q)

abbrev pub latches : Design → List At
latches d = at_parts d (λ ps k q. p.latches q)

abbrev pub read_first : Design → List At
read_first d = at_parts d (λ ps k q. p.read_first q)

-- the paths and places of a kind
unfoldable pub places_of : Design → Kind → List At
places_of d UnknownModule = unknown_modules d
places_of d UnknownName = unknown_names d
places_of d Duplicate = duplicates d
places_of d NotConstant = not_constants d
places_of d ZeroDivisor = zero_divisors d
places_of d Range = ranges d
places_of d Recursion = recursions d
places_of d Port = ports d
places_of d WrongKind = wrong_kinds d
places_of d ClockUse = clock_uses d
places_of d Blocking = blocking d
places_of d Nonblocking = nonblocking d
places_of d TwoDrivers = two_drivers d
places_of d Undriven = undriven d
places_of d Latch = latches d
places_of d ReadFirst = read_first d

-- this kind holds at this path and place
pub record HoldsAt (d : Design) (kind : Kind) (at : At) : Type 0 where
  pub found : Contains (places_of d kind) at

abbrev pub kinds : List Kind
kinds =
    UnknownModule ∷ UnknownName ∷ Duplicate ∷ NotConstant ∷ ZeroDivisor ∷ Range ∷ Recursion ∷ Port ∷ WrongKind ∷ ClockUse ∷ Blocking ∷ Nonblocking ∷
    TwoDrivers ∷ Undriven ∷ Latch ∷ ReadFirst ∷ []

pub record Refusal : Type 0 where
  pub kind : Kind
  pub at : At

-- all that holds, kind by kind
abbrev pub refusals : Design → List Refusal
refusals d = flat_map (λ k. map (λ at. record { kind = k; at = at }) (places_of d k)) kinds

-- the path of a scope as a refusal tells it
abbrev pub told : Design → Name → Name
told d [] = spelled d.top
told d path = spelled d.top ++ codes "." ++ path

-- a list of distinct parts, none clocked, each reading a bit that the next drives, and the last one a bit of the first
abbrev pub HoldsCycle : Design → List ℕ → Type 0
HoldsCycle d ks = IsTrue (p.is_cycle (parts d) ks)

-- ---- legal sources

-- no kind holds anywhere, and no list of parts is a cycle
pub record IsLegal (d : Design) : Type 0 where
  pub nothing : (kind : Kind) → places_of d kind ≡ []
  pub no_cycle : (ks : List ℕ) → HoldsCycle d ks → ⊥
