-- The tables of `port`, read one after another.
use Rattle.std.proofs.Common.{◌≡◌, ℕ, zero, suc, ◌+◌, ◌<◌, ◌≤◌, Bool, true, false, ◌==◌, nat_le, if◌then◌else◌, List, [], ◌∷◌, length, map, drop, get_or, Some, unwrap_or, slice_get, refl, sym, ap, ◌∙◌, subst, arith}
use Rattle.std.specs.List.{list_all}
use Rattle.std.proofs.lemmas.Bool.{eqb-true, and_parts, leb-true}
use Rattle.std.proofs.lemmas.List.{length-map}
use Rattle.std.proofs.lemmas.Option.{none-some}
use Rattle.toml.specs.Data.{Data, Items, Members, no_members, as_table}
use Rattle.toml.specs.View.{view, items_view}
use Rattle.toml.specs.declared.value.Value.{Value}
use Rattle.lv_contract.specs.declared.key.Key.TheVariants as k
use Rattle.lv_contract.specs.Values.{members_of, items_at, texts_in, tables_in}
use Rattle.lv_contract.specs.Ranges.{are_same, is_port_count}
use Rattle.lv_contract.specs.Shapes.{contract_count, PortFits, EachPortFits, PortsFit, port_tables}
use Rattle.lv_contract.specs.Parts.{port_in}
use Rattle.lv_contract.proofs.Views.{texts_in-view}

pub port_in-here : (vs : List Value) (i : ℕ) (v : Value) → i < length vs → get_or vs i v ≡ v → port_in i (items_view vs) ≡ as_table (view v)
port_in-here [] i v h e = absurd (omega arith)
port_in-here (w ∷ vs) zero v h e = ap (λ u. as_table (view u)) e
port_in-here (w ∷ vs) (suc i) v h e = port_in-here vs i v (omega arith) e

pub port_within : (vs : List Value) (i : ℕ) (port : Members) → port_in i (items_view vs) ≡ Some port → i < length vs
port_within [] i port h = absurd (none-some port h)
port_within (w ∷ vs) zero port h = omega arith
port_within (w ∷ vs) (suc i) port h = let l : i < length vs = port_within vs i port h in omega (arith, l)

below-or-here : (P : ℕ → Type 0) (n : ℕ) → ((i : ℕ) → i < n → P i) → P n → (i : ℕ) → i < n + 1 → P i
below-or-here P zero below here zero l = here
below-or-here P zero below here (suc i) l = absurd (omega (arith, l))
below-or-here P (suc n) below here zero l = below zero (omega arith)
below-or-here P (suc n) below here (suc i) l = below-or-here (λ m. P (suc m)) n (λ j h. below (suc j) (omega (arith, h))) here i (omega (arith, l))

pub more_ports : (P : Members → Type 0) (vs : List Value) (n : ℕ) (v : Value) → n < length vs → get_or vs n v ≡ v
    → ((i : ℕ) → i < n → (port : Members) → port_in i (items_view vs) ≡ Some port → P port) → ((port : Members) → as_table (view v) ≡ Some port → P port)
    → (i : ℕ) → i < n + 1 → (port : Members) → port_in i (items_view vs) ≡ Some port → P port
more_ports P vs n v l g below here =
    below-or-here (λ i. (port : Members) → port_in i (items_view vs) ≡ Some port → P port) n below (λ port s. here port (sym (port_in-here vs n v l g) ∙ s))

pub table_place : (vs : List Value) (i : ℕ) (v : Value) (t : Members) → i < length vs → get_or vs i v ≡ v → Some t ≡ as_table (view v) → slice_get (tables_in (items_view vs)) i ≡ Some t
table_place [] i v t h e s = absurd (omega arith)
table_place (w ∷ vs) zero v t h e s = ap (λ u. Some (members_of (view u))) e ∙ ap (λ o. Some (unwrap_or o no_members)) (sym s)
table_place (w ∷ vs) (suc i) v t h e s = table_place vs i v t (omega arith) e s

pub count_is : (entries : List Value) (port : Members) (d : Data) → items_view entries ≡ items_at k.Contract port → Some port ≡ as_table d → length entries ≡ contract_count (members_of d)
count_is entries port d e s =
    sym (length-map entries _) ∙ ap length (sym (texts_in-view entries)) ∙ ap (λ ds. length (texts_in ds)) e ∙ ap (λ o. contract_count (unwrap_or o no_members)) s

counted : (n : ℕ) (vs : List Value) → list_all (λ v. n == contract_count (members_of (view v))) vs ≡ list_all (λ m. n == m) (map contract_count (tables_in (items_view vs)))
counted n [] = refl
counted n (v ∷ vs) = rw (counted n vs)

pub same_counts : (vs rest : List Value) (v : Value) (n : ℕ) → (length vs ≡ 0 → ⊥) → get_or vs 0 v ≡ v → n ≡ contract_count (members_of (view v)) → rest ≡ drop 1 vs
    → list_all (λ u. n == contract_count (members_of (view u))) rest ≡ are_same (map contract_count (tables_in (items_view vs)))
same_counts [] rest v n some g c r = absurd (some refl)
same_counts (w ∷ vs) rest v n some g c r =
    ap (λ us. list_all (λ u. n == contract_count (members_of (view u))) us) r ∙ counted n vs
    ∙ ap (λ m. list_all (λ j. m == j) (map contract_count (tables_in (items_view vs)))) (c ∙ ap (λ u. contract_count (members_of (view u))) (sym g))

pub no_counts : (vs : List Value) → length vs ≡ 0 → true ≡ are_same (map contract_count (tables_in (items_view vs)))
no_counts [] h = refl
no_counts (v ∷ vs) h = absurd (omega (arith, h))

pub second_each : (format : ℕ) (ms : Members) (ds : Items) → ds ≡ items_at k.Port ms → format ≡ 2 → PortsFit format ms → EachPortFits (tables_in ds)
second_each format ms ds e two fit =
    subst (λ xs. EachPortFits (tables_in xs)) (sym e) (subst (λ f. EachPortFits (port_tables f ms)) two fit.each)

if-other : (b : Bool) (ms : Members) (ts : List Members) → (b ≡ true → ⊥) → EachPortFits (if b then ts else (ms ∷ [])) → PortFits ms
if-other true ms ts other h = absurd (other refl)
if-other false ms ts other h = h 0 ms refl

pub first_fits : (format : ℕ) (ms : Members) → (format ≡ 2 → ⊥) → PortsFit format ms → PortFits ms
first_fits format ms other fit = if-other (format == 2) ms (tables_in (items_at k.Port ms)) (λ h. other (eqb-true format 2 h)) fit.each

tables-length : (vs : List Value) → length (tables_in (items_view vs)) ≡ length vs
tables-length [] = refl
tables-length (v ∷ vs) = ap suc (tables-length vs)

pub second_few : (format : ℕ) (ms : Members) (vs : List Value) → items_view vs ≡ items_at k.Port ms → format ≡ 2 → PortsFit format ms → length vs ≤ 4
second_few format ms vs e two fit =
    let count : is_port_count 2 (length (port_tables 2 ms)) ≡ true = subst (λ f. is_port_count f (length (port_tables f ms)) ≡ true) two fit.count in
    let few : length (tables_in (items_at k.Port ms)) ≤ 4 = leb-true _ 4 (and_parts (nat_le 1 (length (tables_in (items_at k.Port ms)))) (nat_le (length (tables_in (items_at k.Port ms))) 4) count).1 in
    let same : length vs ≡ length (tables_in (items_at k.Port ms)) = sym (tables-length vs) ∙ ap (λ ds. length (tables_in ds)) e in
    omega (arith, few, same)
