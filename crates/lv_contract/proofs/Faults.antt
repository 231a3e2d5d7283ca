-- From a fault of a table to a fault of the document.
use Rattle.std.proofs.Common.{◌≡◌, ℕ, zero, suc, true, false, ◌==◌, if◌then◌else◌, List, [], ◌∷◌, ◌++◌, map, Contains, Some, None, unwrap_or, slice_get, ◌⊎◌, inl, inr, refl, sym, ap, ◌∙◌, subst}
use Rattle.std.proofs.lemmas.Option.{none-some}
use Rattle.toml.specs.Data.{Members, no_members}
use Rattle.lv_contract.specs.declared.key.Key.{Key}
use Rattle.lv_contract.specs.declared.key.Key.TheVariants as k
use Rattle.lv_contract.specs.declared.key.Level.{Level}
use Rattle.lv_contract.specs.declared.key.Level.TheVariants as l
use Rattle.lv_contract.specs.declared.need.Need.{Need}
use Rattle.lv_contract.specs.declared.error.ContractError.{ContractError}
use Rattle.lv_contract.specs.declared.error.ContractError.TheVariants as error
use Rattle.lv_contract.specs.Keys.{keys_of, common_keys}
use Rattle.lv_contract.specs.Values.{table_at, members_at, items_at, tables_in, all_items, is_table}
use Rattle.lv_contract.specs.Ranges.{are_same}
use Rattle.lv_contract.specs.Shapes.{contract_count, top_level}
use Rattle.lv_contract.specs.Parts.{port_in, format_of, part_in, IsKeyFault, IsPartFault, IsSpellingFault, HasSpellingFault, HasFaultInside, HasPortKeyFault, HasPortsFault}
use Rattle.lv_contract.specs.Checks.{HasPartFaultInside, HasPortPartFault, IsPortsRefusal}
use Rattle.lv_contract.specs.Refusals.{IsFault}
use Rattle.lv_contract.proofs.Elements.{contains_get}
use Rattle.lv_contract.proofs.Kept.{part_is, port_at_place, one_or_two}

-- ---- the table at a key

pub members_some : (key : Key) (ms inner : Members) → Some inner ≡ table_at key ms → inner ≡ members_at key ms
members_some key ms inner h = ap (λ o. unwrap_or o no_members) h

pub members_none : (key : Key) (ms : Members) → table_at key ms ≡ None → members_at key ms ≡ no_members
members_none key ms h = ap (λ o. unwrap_or o no_members) h

-- ---- faults

spelled : (need : Need) (level : Level) (n : ℕ) (key : Key) (ms : Members) (e : ContractError) → IsSpellingFault level n key ms e → IsKeyFault need level n key ms e
spelled need level n key ms error.NoMemory h = tt
spelled need level n key ms (error.Expr name at byte) h = h
spelled need level n key ms _ h = absurd h

pub part_fault : (need : Need) (format : ℕ) (level : Level) (n : ℕ) (ms part : Members) (e : ContractError) → format_of ms ≡ Some format → part_in format level n ms ≡ Some part → IsPartFault need level n part e → IsFault need ms e
part_fault need format level n ms part e f s h =
    inr (inl (record { level = level; n = n; part = part; is_part = part_is format level n ms f ∙ s; fault = h }))

pub spelling_fault : (need : Need) (format : ℕ) (level : Level) (n : ℕ) (ms part : Members) (e : ContractError) → format_of ms ≡ Some format → part_in format level n ms ≡ Some part → HasSpellingFault level n part e → IsFault need ms e
spelling_fault need format level n ms part e f s h = part_fault need format level n ms part e f s (inr (h.0, h.1, spelled need level n h.0 part e h.2))

pub initial_fault : (need : Need) (format : ℕ) (ms : Members) (e : ContractError) → format_of ms ≡ Some format → HasFaultInside k.Initial l.Initial ms e → IsFault need ms e
initial_fault need format ms e f h = spelling_fault need format l.Initial 0 ms h.0 e f h.1 h.2

pub candidates_fault : (need : Need) (format : ℕ) (ms : Members) (e : ContractError) → format_of ms ≡ Some format → HasFaultInside k.Candidates l.Candidates ms e → IsFault need ms e
candidates_fault need format ms e f h = spelling_fault need format l.Candidates 0 ms h.0 e f h.1 h.2

pub simulation_fault : (need : Need) (format : ℕ) (ms : Members) (e : ContractError) → format_of ms ≡ Some format → HasFaultInside k.Simulation l.Simulation ms e → IsFault need ms e
simulation_fault need format ms e f h = spelling_fault need format l.Simulation 0 ms h.0 e f h.1 h.2

pub initial_part_fault : (need : Need) (format : ℕ) (ms : Members) (e : ContractError) → format_of ms ≡ Some format → HasPartFaultInside need k.Initial l.Initial ms e → IsFault need ms e
initial_part_fault need format ms e f h = part_fault need format l.Initial 0 ms h.0 e f h.1 h.2

pub candidates_part_fault : (need : Need) (format : ℕ) (ms : Members) (e : ContractError) → format_of ms ≡ Some format → HasPartFaultInside need k.Candidates l.Candidates ms e → IsFault need ms e
candidates_part_fault need format ms e f h = part_fault need format l.Candidates 0 ms h.0 e f h.1 h.2

pub simulation_part_fault : (need : Need) (format : ℕ) (ms : Members) (e : ContractError) → format_of ms ≡ Some format → HasPartFaultInside need k.Simulation l.Simulation ms e → IsFault need ms e
simulation_part_fault need format ms e f h = part_fault need format l.Simulation 0 ms h.0 e f h.1 h.2

-- ---- the whole file

top-part : (format : ℕ) (ms : Members) → (format ≡ 1) ⊎ (format ≡ 2) → part_in format (top_level format) 0 ms ≡ Some ms
top-part format ms (inl e) = ap (λ f. part_in f (top_level f) 0 ms) e
top-part format ms (inr e) = ap (λ f. part_in f (top_level f) 0 ms) e

pub top_fault : (need : Need) (format : ℕ) (ms : Members) (e : ContractError) → format_of ms ≡ Some format → IsPartFault need (top_level format) 0 ms e → IsFault need ms e
top_fault need format ms e f h = part_fault need format (top_level format) 0 ms ms e f (top-part format ms (one_or_two ms format f)) h

get-append : {X : Type 0} (xs ys : List X) (i : ℕ) (x : X) → slice_get xs i ≡ Some x → slice_get (xs ++ ys) i ≡ Some x
get-append [] ys i x h = absurd (none-some x h)
get-append (y ∷ xs) ys zero x h = h
get-append (y ∷ xs) ys (suc i) x h = get-append xs ys i x h

common-key : (format : ℕ) (i : ℕ) (key : Key) → slice_get common_keys i ≡ Some key → Contains (keys_of (top_level format)) key
common-key format i key s =
    elim (format == 2) as (λ b. Contains (keys_of (if b then l.Second else l.First)) key) [
      | true ↦ contains_get (common_keys ++ (k.Port ∷ [])) i key key (get-append common_keys (k.Port ∷ []) i key s) refl
      | false ↦ contains_get (k.Retire ∷ k.Contract ∷ common_keys) (suc (suc i)) key key s refl
    ]

pub common_fault : (need : Need) (format : ℕ) (ms : Members) (i : ℕ) (key : Key) (e : ContractError) → format_of ms ≡ Some format → slice_get common_keys i ≡ Some key → IsSpellingFault (top_level format) 0 key ms e → IsFault need ms e
common_fault need format ms i key e f s h = top_fault need format ms e f (inr (key, common-key format i key s, spelled need (top_level format) 0 key ms e h))

-- ---- ports

port-key : (need : Need) (level : Level) (n : ℕ) (ms : Members) (e : ContractError) → Contains (keys_of level) k.Retire → Contains (keys_of level) k.Contract → HasPortKeyFault level n ms e → HasSpellingFault level n ms e
port-key need level n ms e r c (inl h) = (k.Retire, r, h)
port-key need level n ms e r c (inr h) = (k.Contract, c, h)

second-ports : (need : Need) (format : ℕ) (ms : Members) (e : ContractError) → format_of ms ≡ Some format → format ≡ 2 → (i : ℕ) (port : Members) → port_in i (items_at k.Port ms) ≡ Some port → IsPartFault need l.Port i port e → IsFault need ms e
second-ports need format ms e f two i port s h = part_fault need format l.Port i ms port e f (subst (λ g. part_in g l.Port i ms ≡ Some port) (sym two) s) h

first-port : (need : Need) (format : ℕ) (ms : Members) (e : ContractError) → format_of ms ≡ Some format → (format ≡ 1) ⊎ (format ≡ 2) → (format ≡ 2 → ⊥) → HasPortKeyFault l.First 0 ms e → IsFault need ms e
first-port need format ms e f (inl one) other h =
    spelling_fault need format l.First 0 ms ms e f (ap (λ g. part_in g l.First 0 ms) one)
    (port-key need l.First 0 ms e (contains_get (keys_of l.First) 0 k.Retire k.Retire refl refl) (contains_get (keys_of l.First) 1 k.Contract k.Contract refl refl) h)
first-port need format ms e f (inr two) other h = absurd (other two)

pub ports_fault : (need : Need) (format : ℕ) (ms : Members) (e : ContractError) → format_of ms ≡ Some format → (format ≡ 2 → all_items is_table (items_at k.Port ms) ≡ true) → HasPortsFault format ms e → IsFault need ms e
ports_fault need format ms e f t (inl h) =
    let port = h.1.1 in
    let fault = port-key need l.Port h.1.0 port e (contains_get (keys_of l.Port) 0 k.Retire k.Retire refl refl) (contains_get (keys_of l.Port) 1 k.Contract k.Contract refl refl) h.1.3 in
    second-ports need format ms e f h.0 h.1.0 port (port_at_place (items_at k.Port ms) h.1.0 port (t h.0) h.1.2)
    (inr (fault.0, fault.1, spelled need l.Port h.1.0 fault.0 port e fault.2))
ports_fault need format ms e f t (inr h) = first-port need format ms e f (one_or_two ms format f) h.0 h.1

pub port_part_fault : (need : Need) (format : ℕ) (ms : Members) (e : ContractError) → format_of ms ≡ Some format → format ≡ 2 → HasPortPartFault need (items_at k.Port ms) e → IsFault need ms e
port_part_fault need format ms e f two h = second-ports need format ms e f two h.0 h.1 h.2 h.3

pub tables_if : (format : ℕ) (ms : Members) → (if format == 2 then all_items is_table (items_at k.Port ms) else true) ≡ true → format ≡ 2 → all_items is_table (items_at k.Port ms) ≡ true
tables_if format ms h two = subst (λ f. (if f == 2 then all_items is_table (items_at k.Port ms) else true) ≡ true) two h

pub unequal : (need : Need) (ms : Members) (e : ContractError) → format_of ms ≡ Some 2 → are_same (map contract_count (tables_in (items_at k.Port ms))) ≡ false → IsPortsRefusal e → IsFault need ms e
unequal need ms error.NoMemory f h e = inl tt
unequal need ms (error.Value name) f h e = inr (inr (record { format = f; counts = h; error = ap error.Value e }))
unequal need ms _ f h e = absurd e

pub no_room : (need : Need) (ms : Members) → IsFault need ms error.NoMemory
no_room need ms = inl tt
