-- A file that is a contract has no cause of a refusal.
use Rattle.std.proofs.Common.{◌≡◌, ℕ, zero, suc, ◌<◌, Bool, true, false, not, ◌||◌, if◌then◌else◌, List, [], ◌∷◌, ◌++◌, length, map, drop, get_or, Contains, Option, Some, None, option_and_then, unwrap_or, slice_get, ◌⊎◌, inl, inr, refl, sym, ap, ◌∙◌, subst, arith}
use Rattle.std.specs.List.{list_all, AllByRecursion}
use Rattle.std.specs.Str.{bytes_eq}
use Rattle.std.proofs.lemmas.Bool.{false≢true, and_parts}
use Rattle.std.proofs.lemmas.Option.{none-some}
use Rattle.std.proofs.lemmas.Slice.Eq.{bytes_eq-Decides}
use Rattle.std.proofs.Math.Logic.{∥∥₁_elim}
use Rattle.toml.specs.Data.{Data, Items, no_items, item, Members, no_members, member, as_array, as_str}
use Rattle.lv_ast.specs.declared.expr.Expr.{Expr}
use Rattle.lv_contract.specs.declared.key.Key.{Key}
use Rattle.lv_contract.specs.declared.key.Key.TheVariants as k
use Rattle.lv_contract.specs.declared.key.Level.{Level}
use Rattle.lv_contract.specs.declared.key.Level.TheVariants as l
use Rattle.lv_contract.specs.declared.need.Need.{Need}
use Rattle.lv_contract.specs.declared.named.Named.{Named}
use Rattle.lv_contract.specs.declared.named.Guarded.{Guarded}
use Rattle.lv_contract.specs.declared.named.PortText.{PortText}
use Rattle.lv_contract.specs.declared.named.SimState.{SimState}
use Rattle.lv_contract.specs.declared.named.SimInput.{SimInput}
use Rattle.lv_contract.specs.declared.contract.SimTable.{SimTable}
use Rattle.lv_contract.specs.declared.contract.Contract.{Contract}
use Rattle.lv_contract.specs.declared.error.ContractError.{ContractError}
use Rattle.lv_contract.specs.declared.error.ContractError.TheVariants as error
use Rattle.lv_contract.specs.Keys.{kind_of, keys_of, common_keys, is_known, is_needed}
use Rattle.lv_contract.specs.Values.{value_at, number_of, text_of, items_of, items_at, text_at, texts_at, lists_at, table_at, members_at, texts_in, lists_in, tables_in, has_word, knows_all, passes, within, fits_row, keeps_row}
use Rattle.lv_contract.specs.Ranges.{are_same}
use Rattle.lv_contract.specs.Shapes.{contract_count}
use Rattle.lv_contract.specs.Expressions.{IsExpression}
use Rattle.lv_contract.specs.Named.{texts, PortTexts, port_texts, Pair, pair_of, guarded_pair, state_pair, Inputs, inputs_of, input_texts, contract_counts}
use Rattle.lv_contract.specs.Parts.{port_in, in_format, part_in, part_of, StandsAt, IsUnknownFault, IsKeyFault, IsPartFault}
use Rattle.lv_contract.specs.Says.{port_at, ports_at, Says, SaysSimulation, SaysTable, IsDocument, IsContractIn, IsContractFile}
use Rattle.lv_contract.specs.Refusals.{IsFault, IsFaultOf, IsFaultInPart, HasUnequalPorts, IsRefusal}
use Rattle.lv_contract.proofs.Kept.{numbered, part_is, one_or_two}
use Rattle.lv_contract.proofs.Counts.{counts_ports, counts_tables}
use Rattle.lv_contract.proofs.Elements.{passes_at}

-- ---- texts that are expressions

abbrev Spelled : List ℕ → Type 0
Spelled text = ((x : Expr) → IsExpression text x → ⊥) → ⊥

named : (n : Named) → Spelled n.text
named n none = ∥∥₁_elim n.spelled (λ a _. absurd a) (λ h. none n.expr h)

named-as : (n : Named) (text : List ℕ) → n.text ≡ text → Spelled text
named-as n text e = subst Spelled e (named n)

some-is : {X : Type 0} (x y : X) → Some x ≡ Some y → x ≡ y
some-is x y h = cc

-- an element of a list whose view is another list's
record Got {X Y : Type 0} (f : X → Y) (xs : List X) (i : ℕ) (y : Y) : Type 0 where
  element : X
  is : f element ≡ y

got : {X Y : Type 0} (f : X → Y) (xs : List X) (i : ℕ) (y : Y) → slice_get (map f xs) i ≡ Some y → Got f xs i y
got f [] i y h = absurd (none-some y h)
got f (x ∷ xs) zero y h = record { element = x; is = some-is (f x) y h }
got f (x ∷ xs) (suc i) y h = let g = got f xs i y h in record { element = g.element; is = g.is }

get-map : {X Y : Type 0} (f : X → Y) (xs : List X) (i : ℕ) (x : X) → slice_get xs i ≡ Some x → slice_get (map f xs) i ≡ Some (f x)
get-map f [] i x h = absurd (none-some x h)
get-map f (y ∷ xs) zero x h = ap (λ z. Some (f z)) (some-is y x h)
get-map f (y ∷ xs) (suc i) x h = get-map f xs i x h

spelled-text : (xs : List Named) (ts : List (List ℕ)) (i : ℕ) (t : List ℕ) → texts xs ≡ ts → slice_get ts i ≡ Some t → Spelled t
spelled-text xs ts i t e h =
    let g = got (λ (x : Named). x.text) xs i t (ap (λ us. slice_get us i) e ∙ h) in
    named-as g.element t g.is

contains-get : {X : Type 0} (xs : List X) (k : ℕ) (x : X) → k < length xs → get_or xs k x ≡ x → slice_get xs k ≡ Some x
contains-get [] k x h e = absurd (omega arith)
contains-get (y ∷ xs) zero x h e = ap Some e
contains-get (y ∷ xs) (suc k) x h e = contains-get xs k x (omega arith) e

-- ---- keys of a table

-- each text at the key is an expression
abbrev AllSpelled : ℕ → Members → Key → Type 0
AllSpelled n ms key = (value : Data) (entry : ℕ) (text : List ℕ) → value_at key ms ≡ Some value → StandsAt (kind_of key) n value entry text → Spelled text

each-key : (P : Key → Type 0) (keys : List Key) (i : ℕ) (key : Key) → AllByRecursion P keys → slice_get keys i ≡ Some key → P key
each-key P [] i key h s = absurd (none-some key s)
each-key P (x ∷ keys) zero key h s = subst P (some-is x key s) h.0
each-key P (x ∷ keys) (suc i) key h s = each-key P keys i key h.1 s

listed-key : (P : Key → Type 0) (keys : List Key) (key : Key) → AllByRecursion P keys → Contains keys key → P key
listed-key P keys key h c = each-key P keys c.0 key h (contains-get keys c.0 key c.1 c.2)

texts-of : (o : Option Data) (value : Data) → o ≡ Some value → texts_in (items_of value) ≡ texts_in (unwrap_or (option_and_then as_array o) no_items)
texts-of o value e = sym (ap (λ p. texts_in (unwrap_or (option_and_then as_array p) no_items)) e)

lists-of : (o : Option Data) (value : Data) → o ≡ Some value → lists_in (items_of value) ≡ lists_in (unwrap_or (option_and_then as_array o) no_items)
lists-of o value e = sym (ap (λ p. lists_in (unwrap_or (option_and_then as_array p) no_items)) e)

expressions : (key : Key) (ms : Members) (xs : List Named) → texts xs ≡ texts_at key ms → (value : Data) (i : ℕ) (text : List ℕ) → value_at key ms ≡ Some value → slice_get (texts_in (items_of value)) i ≡ Some text → Spelled text
expressions key ms xs e value i text v s = spelled-text xs (texts_in (items_of value)) i text (e ∙ sym (texts-of (value_at key ms) value v)) s

expression : (key : Key) (ms : Members) (x : Named) → x.text ≡ text_at key ms → (value : Data) (text : List ℕ) → value_at key ms ≡ Some value → text ≡ text_of value → Spelled text
expression key ms x e value text v s =
    named-as x text (e ∙ (ap (λ o. unwrap_or (option_and_then as_str o) []) v ∙ sym s))

initial-spelled : (n : ℕ) (ms : Members) (equal each : List Named) → texts equal ≡ texts_at k.Equal ms → texts each ≡ texts_at k.Each ms → AllByRecursion (AllSpelled n ms) (keys_of l.Initial)
initial-spelled n ms equal each e f = (
  λ value entry text v s. expressions k.Equal ms equal e value s.0 text v s.2,
  (λ value entry text v s. expressions k.Each ms each f value s.0 text v s.2, tt),
)

-- ---- arrays of arrays

record SpelledPair (p : Pair) : Type 0 where
  first : Spelled p.first
  second : Spelled p.second

guarded-spelled : (xs : List Guarded) (ls : List (List (List ℕ))) (i : ℕ) (list : List (List ℕ)) → map guarded_pair xs ≡ map pair_of ls → slice_get ls i ≡ Some list → SpelledPair (pair_of list)
guarded-spelled xs ls i list e s =
    let g = got guarded_pair xs i (pair_of list) (ap (λ ps. slice_get ps i) e ∙ get-map pair_of ls i list s) in
    subst SpelledPair g.is (record { first = named g.element.guard; second = named g.element.expr })

state-spelled : (xs : List SimState) (ls : List (List (List ℕ))) (i : ℕ) (list : List (List ℕ)) → map state_pair xs ≡ map pair_of ls → slice_get ls i ≡ Some list → Spelled (pair_of list).second
state-spelled xs ls i list e s =
    let g = got state_pair xs i (pair_of list) (ap (λ ps. slice_get ps i) e ∙ get-map pair_of ls i list s) in
    subst (λ (p : Pair). Spelled p.second) g.is (named g.element.value)

contained-spelled : (xs : List Named) (ts : List (List ℕ)) (t : List ℕ) → texts xs ≡ ts → Contains ts t → Spelled t
contained-spelled xs ts t e c = spelled-text xs ts c.0 t e (contains-get ts c.0 t c.1 c.2)

input-spelled : (xs : List SimInput) (ls : List (List (List ℕ))) (i : ℕ) (list : List (List ℕ)) (t : List ℕ) → map input_texts xs ≡ map inputs_of ls → slice_get ls i ≡ Some list → Contains (drop 1 list) t → Spelled t
input-spelled xs ls i list t e s c =
    let g = got input_texts xs i (inputs_of list) (ap (λ ps. slice_get ps i) e ∙ get-map inputs_of ls i list s) in
    contained-spelled g.element.values (drop 1 list) t (ap (λ (p : Inputs). p.values) g.is) c

-- ---- each level

candidates-spelled : (n : ℕ) (ms : Members) (equal each : List Named) (guarded : List Guarded) → texts equal ≡ texts_at k.Equal ms → map guarded_pair guarded ≡ map pair_of (lists_at k.When ms) → texts each ≡ texts_at k.Each ms
    → AllByRecursion (AllSpelled n ms) (keys_of l.Candidates)
candidates-spelled n ms equal each guarded e w f = (
  λ value entry text v s. absurd s,
  (
    λ value entry text v s. expressions k.Equal ms equal e value s.0 text v s.2,
    (
      λ value entry text v s.
          let p = guarded-spelled guarded (lists_in (items_of value)) s.0 s.1 (w ∙ ap (map pair_of) (sym (lists-of (value_at k.When ms) value v))) s.2 in
          elim s.3 [ inl a ↦ subst Spelled (sym a.1) p.first | inr b ↦ subst Spelled (sym b.1) p.second ],
      (
        λ value entry text v s. expressions k.Each ms each f value s.0 text v s.2,
        (λ value entry text v s. absurd s, tt),
      ),
    ),
  ),
)

simulation-spelled : (n : ℕ) (ms : Members) (sim : SimTable) → SaysSimulation ms sim → AllByRecursion (AllSpelled n ms) (keys_of l.Simulation)
simulation-spelled n ms sim h = (
  λ value entry text v s. absurd s,
  (
    λ value entry text v s. expressions k.Show ms sim.show h.show value s.0 text v s.2,
    (
      λ value entry text v s.
          subst Spelled (sym s.3.1) (state-spelled sim.state (lists_in (items_of value)) s.0 s.1 (h.state ∙ ap (map pair_of) (sym (lists-of (value_at k.State ms) value v))) s.2),
      (
        λ value entry text v s.
            input-spelled sim.input (lists_in (items_of value)) s.0 s.1 text (h.input ∙ ap (map inputs_of) (sym (lists-of (value_at k.Input ms) value v))) s.2 s.3.1,
        tt,
      ),
    ),
  ),
)

retire-spelled : (n : ℕ) (ms : Members) (p : PortText) → port_texts p ≡ port_at ms → AllSpelled n ms k.Retire
retire-spelled n ms p e value entry text v s = expression k.Retire ms p.retire (ap (λ (q : PortTexts). q.retire) e) value text v s.1

entries-spelled : (n : ℕ) (ms : Members) (p : PortText) → port_texts p ≡ port_at ms → AllSpelled n ms k.Contract
entries-spelled n ms p e value entry text v s = expressions k.Contract ms p.contract (ap (λ (q : PortTexts). q.contract) e) value s.0 text v s.2

attacker-spelled : (n : ℕ) (ms : Members) (c : Contract) → Says ms c → AllSpelled n ms k.Attacker
attacker-spelled n ms c h value entry text v s = expressions k.Attacker ms c.attacker h.attacker value s.0 text v s.2

assume-spelled : (n : ℕ) (ms : Members) (c : Contract) → Says ms c → AllSpelled n ms k.Assume
assume-spelled n ms c h value entry text v s = expressions k.Assume ms c.assume h.assume value s.0 text v s.2

-- keys without expressions
plain : (n : ℕ) (ms : Members) (key : Key) → ((value : Data) (entry : ℕ) (text : List ℕ) → StandsAt (kind_of key) n value entry text → ⊥) → AllSpelled n ms key
plain n ms key h value entry text v s = absurd (h value entry text s)

behind-common : (n : ℕ) (ms : Members) (c : Contract) → Says ms c → (more : List Key) → AllByRecursion (AllSpelled n ms) more → AllByRecursion (AllSpelled n ms) (common_keys ++ more)
behind-common n ms c h more rest = (
  plain n ms k.Format (λ _ _ _ s. s),
  (
    plain n ms k.Files (λ _ _ _ s. s),
    (
      plain n ms k.Top (λ _ _ _ s. s),
      (
        plain n ms k.Clock (λ _ _ _ s. s),
        (
          plain n ms k.Lookahead (λ _ _ _ s. s),
          (
            plain n ms k.Budget (λ _ _ _ s. s),
            (
              plain n ms k.Certificate (λ _ _ _ s. s),
              (
                plain n ms k.Cycles (λ _ _ _ s. s),
                (
                  attacker-spelled n ms c h,
                  (
                    assume-spelled n ms c h,
                    (plain n ms k.Initial (λ _ _ _ s. s), (plain n ms k.Candidates (λ _ _ _ s. s), (plain n ms k.Simulation (λ _ _ _ s. s), rest))),
                  ),
                ),
              ),
            ),
          ),
        ),
      ),
    ),
  ),
)

-- ---- each table

table-says : (o : Option Members) (sim : Option SimTable) (part : Members) → o ≡ Some part → SaysTable o sim → (n : ℕ) → AllByRecursion (AllSpelled n part) (keys_of l.Simulation)
table-says None sim part e h n = absurd (none-some part e)
table-says (Some ms) None part e h n = absurd h
table-says (Some ms) (Some sim) part e h n = subst (λ p. AllByRecursion (AllSpelled n p) (keys_of l.Simulation)) (some-is ms part e) (simulation-spelled n ms sim h)

members-are : (key : Key) (ms part : Members) → table_at key ms ≡ Some part → members_at key ms ≡ part
members-are key ms part h = ap (λ o. unwrap_or o no_members) h

initial-part : (ms : Members) (c : Contract) → Says ms c → (n : ℕ) (part : Members) → table_at k.Initial ms ≡ Some part → AllByRecursion (AllSpelled n part) (keys_of l.Initial)
initial-part ms c h n part s = subst (λ p. AllByRecursion (AllSpelled n p) (keys_of l.Initial)) (members-are k.Initial ms part s) (initial-spelled n (members_at k.Initial ms) c.initial_equal c.initial_each h.initial_equal h.initial_each)

candidates-part : (ms : Members) (c : Contract) → Says ms c → (n : ℕ) (part : Members) → table_at k.Candidates ms ≡ Some part → AllByRecursion (AllSpelled n part) (keys_of l.Candidates)
candidates-part ms c h n part s =
    subst (λ p. AllByRecursion (AllSpelled n p) (keys_of l.Candidates)) (members-are k.Candidates ms part s)
    (candidates-spelled n (members_at k.Candidates ms) c.equal c.each c.guarded h.equal h.guarded h.each)

-- the table of a port
table-in : (ds : Items) (i : ℕ) (port : Members) → port_in i ds ≡ Some port → slice_get (tables_in ds) i ≡ Some port
table-in no_items i port h = absurd (none-some port h)
table-in (item d ds) zero port h = ap (λ o. Some (unwrap_or o no_members)) h
table-in (item d ds) (suc i) port h = table-in ds i port h

port-spelled : (n : ℕ) (ms : Members) (p : PortText) → port_texts p ≡ port_at ms → AllByRecursion (AllSpelled n ms) (keys_of l.Port)
port-spelled n ms p e = (retire-spelled n ms p e, (entries-spelled n ms p e, tt))

port-part : (ms : Members) (c : Contract) → map port_texts c.ports ≡ ports_at 2 ms → (n : ℕ) (part : Members) → port_in n (items_at k.Port ms) ≡ Some part → AllByRecursion (AllSpelled n part) (keys_of l.Port)
port-part ms c e n part s =
    let g = got port_texts c.ports n (port_at part) (ap (λ ps. slice_get ps n) e ∙ get-map port_at (tables_in (items_at k.Port ms)) n part (table-in (items_at k.Port ms) n part s)) in
    port-spelled n part g.element g.is

first-part : (ms : Members) (c : Contract) → Says ms c → map port_texts c.ports ≡ ports_at 1 ms → (n : ℕ) → AllByRecursion (AllSpelled n ms) (keys_of l.First)
first-part ms c h e n =
    let g = got port_texts c.ports 0 (port_at ms) (ap (λ ps. slice_get ps 0) e) in
    (retire-spelled n ms g.element g.is, (entries-spelled n ms g.element g.is, behind-common n ms c h [] tt))

second-part : (ms : Members) (c : Contract) → Says ms c → (n : ℕ) → AllByRecursion (AllSpelled n ms) (keys_of l.Second)
second-part ms c h n = behind-common n ms c h (k.Port ∷ []) (plain n ms k.Port (λ _ _ _ s. s), tt)

abbrev PartSpelled : Level → ℕ → Members → Type 0
PartSpelled level n part = AllByRecursion (AllSpelled n part) (keys_of level)

in-first : (ms : Members) (c : Contract) → Says ms c → map port_texts c.ports ≡ ports_at 1 ms → (level : Level) (n : ℕ) (part : Members) → part_in 1 level n ms ≡ Some part → PartSpelled level n part
in-first ms c h e l.First n part s = subst (PartSpelled l.First n) (some-is ms part (numbered n (Some ms) part s)) (first-part ms c h e n)
in-first ms c h e l.Second n part s = absurd (none-some part (numbered n None part s))
in-first ms c h e l.Initial n part s = initial-part ms c h n part (numbered n (table_at k.Initial ms) part s)
in-first ms c h e l.Candidates n part s = candidates-part ms c h n part (numbered n (table_at k.Candidates ms) part s)
in-first ms c h e l.Simulation n part s = table-says (table_at k.Simulation ms) c.sim part (numbered n (table_at k.Simulation ms) part s) h.sim n
in-first ms c h e l.Port n part s = absurd (none-some part s)

in-second : (ms : Members) (c : Contract) → Says ms c → map port_texts c.ports ≡ ports_at 2 ms → (level : Level) (n : ℕ) (part : Members) → part_in 2 level n ms ≡ Some part → PartSpelled level n part
in-second ms c h e l.First n part s = absurd (none-some part (numbered n None part s))
in-second ms c h e l.Second n part s = subst (PartSpelled l.Second n) (some-is ms part (numbered n (Some ms) part s)) (second-part ms c h n)
in-second ms c h e l.Initial n part s = initial-part ms c h n part (numbered n (table_at k.Initial ms) part s)
in-second ms c h e l.Candidates n part s = candidates-part ms c h n part (numbered n (table_at k.Candidates ms) part s)
in-second ms c h e l.Simulation n part s = table-says (table_at k.Simulation ms) c.sim part (numbered n (table_at k.Simulation ms) part s) h.sim n
in-second ms c h e l.Port n part s = port-part ms c e n part s

each-part : (ms : Members) (c : Contract) → Says ms c → (c.format ≡ 1) ⊎ (c.format ≡ 2) → (level : Level) (n : ℕ) (part : Members) → part_in c.format level n ms ≡ Some part → PartSpelled level n part
each-part ms c h (inl e) level n part s = in-first ms c h (h.ports ∙ ap (λ f. ports_at f ms) e) level n part (ap (λ f. part_in f level n ms) (sym e) ∙ s)
each-part ms c h (inr e) level n part s = in-second ms c h (h.ports ∙ ap (λ f. ports_at f ms) e) level n part (ap (λ f. part_in f level n ms) (sym e) ∙ s)

part-spelled : (need : Need) (ms : Members) (c : Contract) → IsContractIn need ms c → (level : Level) (n : ℕ) (part : Members) → part_of level n ms ≡ Some part → PartSpelled level n part
part-spelled need ms c h level n part s =
    each-part ms c h.says (one_or_two ms c.format h.format) level n part (sym (part_is c.format level n ms h.format) ∙ s)

-- ---- faults

absent : (b : Bool) → not b ≡ true → b ≡ true → ⊥
absent true n h = false≢true n
absent false n h = false≢true h

no-row : (need : Need) (level : Level) (n : ℕ) (key : Key) (part : Members) (e : ContractError) → keeps_row need part key ≡ true → AllSpelled n part key → IsKeyFault need level n key part e → e ≡ error.NoMemory
no-row need level n key part error.NoMemory h s f = refl
no-row need level n key part error.Toml h s f = absurd f
no-row need level n key part (error.Key name) h s f = absurd (absent (is_needed need key) (sym (ap (fits_row need key) f.absent) ∙ h) f.needed)
no-row need level n key part (error.Value name) h s f = absurd (false≢true (sym f.broken ∙ (sym (ap (fits_row need key) f.stands) ∙ h)))
no-row need level n key part (error.Expr name entry byte) h s f = absurd (s f.value entry f.text f.stands f.at f.unread.none)

word-known : (level : Level) (word : List ℕ) (ms : Members) → knows_all level ms ≡ true → has_word word ms ≡ true → is_known level word ≡ true
word-known level word no_members h w = absurd (false≢true w)
word-known level word (member key d ms) h w =
    let parts = and_parts (is_known level key) (knows_all level ms) h in
    elim (bytes_eq key word) as (λ b. bytes_eq key word ≡ b → (b || has_word word ms) ≡ true → is_known level word ≡ true) [
      | true ↦ λ e _. subst (λ q. is_known level q ≡ true) ((bytes_eq-Decides key word).0 e) parts.0
      | false ↦ λ _ v. word-known level word ms parts.1 v
    ] refl w

no-unknown : (level : Level) (part : Members) (e : ContractError) → knows_all level part ≡ true → IsUnknownFault level part e → e ≡ error.NoMemory
no-unknown level part error.NoMemory h f = refl
no-unknown level part (error.Key name) h f = absurd (false≢true (sym f.unknown ∙ word-known level f.word part h f.stands))
no-unknown level part _ h f = absurd f

no-part : (need : Need) (ms : Members) (c : Contract) (e : ContractError) → IsContractIn need ms c → IsFaultInPart need ms e → e ≡ error.NoMemory
no-part need ms c e h f =
    let kept = and_parts (knows_all f.level f.part) (list_all (keeps_row need f.part) (keys_of f.level)) (h.keeps f.level f.n f.part f.is_part) in
    elim f.fault [
      | inl u ↦ no-unknown f.level f.part e kept.0 u
      | inr r ↦
          no-row need f.level f.n r.0 f.part e (passes_at (keeps_row need f.part) (keys_of f.level) r.1.0 r.0 kept.1 (contains-get (keys_of f.level) r.1.0 r.0 r.1.1 r.1.2))
          (listed-key (AllSpelled f.n f.part) (keys_of f.level) r.0 (part-spelled need ms c h f.level f.n f.part f.is_part) r.1) r.2
    ]

format-number : (o : Option ℕ) (f : ℕ) → option_and_then in_format o ≡ Some f → passes (within 1 2) o ≡ true
format-number None f h = absurd (none-some f h)
format-number (Some n) f h =
    elim (within 1 2 n) as (λ b. within 1 2 n ≡ b → ◌≡◌ {A = Option ℕ} (if b then Some n else None) (Some f) → within 1 2 n ≡ true) [
      | true ↦ λ e _. e
      | false ↦ λ _ g. absurd (none-some f g)
    ] refl h

format-kept : (need : Need) (o : Option Data) (f : ℕ) → option_and_then in_format (option_and_then number_of o) ≡ Some f → fits_row need k.Format o ≡ true
format-kept need None f h = absurd (none-some f h)
format-kept need (Some d) f h = format-number (number_of d) f h

no-unequal : (need : Need) (ms : Members) (c : Contract) (e : ContractError) → IsContractIn need ms c → HasUnequalPorts ms e → ⊥
no-unequal need ms c e h f =
    let two : c.format ≡ 2 = some-is c.format 2 (sym h.format ∙ f.format) in
    let counts : contract_counts c.ports ≡ map contract_count (tables_in (items_at k.Port ms)) =
    counts_ports c.ports ∙ ap (map (λ (q : PortTexts). length q.contract)) (h.says.ports ∙ ap (λ g. ports_at g ms) two) ∙ counts_tables (tables_in (items_at k.Port ms)) in
    false≢true (sym f.counts ∙ (ap are_same (sym counts) ∙ c.port_shape))

no-fault : (need : Need) (ms : Members) (c : Contract) (e : ContractError) → IsContractIn need ms c → IsFault need ms e → e ≡ error.NoMemory
no-fault need ms c e h (inl f) = no-row need l.First 0 k.Format ms e (format-kept need (value_at k.Format ms) c.format h.format) (plain 0 ms k.Format (λ _ _ _ s. s)) f
no-fault need ms c e h (inr (inl f)) = no-part need ms c e h f
no-fault need ms c e h (inr (inr f)) = absurd (no-unequal need ms c e h f)

one-document : (bytes : List ℕ) (ms part : Members) → IsDocument bytes ms → IsDocument bytes part → ms ≡ part
one-document bytes ms part h i = some-is ms part (sym h.parsed ∙ i.parsed)

no-fault-of : (bytes : List ℕ) (need : Need) (c : Contract) (e : ContractError) → IsContractFile bytes need c → IsFaultOf bytes need e → e ≡ error.NoMemory
no-fault-of bytes need c e h f = no-fault need h.members c e h.contract (subst (λ ms. IsFault need ms e) (one-document bytes f.0 h.members f.1 h.document) f.2)

-- no cause but want of memory holds of a contract file
pub exact : (bytes : List ℕ) (need : Need) (c : Contract) (e : ContractError) → IsContractFile bytes need c → IsRefusal bytes need e → e ≡ error.NoMemory
exact bytes need c error.NoMemory h r = refl
exact bytes need c error.Toml h r = absurd (r h.members h.document)
exact bytes need c (error.Key name) h r = no-fault-of bytes need c (error.Key name) h r
exact bytes need c (error.Value name) h r = no-fault-of bytes need c (error.Value name) h r
exact bytes need c (error.Expr name entry byte) h r = no-fault-of bytes need c (error.Expr name entry byte) h r

value-is-not-toml : (name : List ℕ) → error.Toml ≡ error.Value name → ⊥
value-is-not-toml name h = cc

no-toml-key : (need : Need) (level : Level) (n : ℕ) (key : Key) (ms : Members) → IsKeyFault need level n key ms error.Toml → ⊥
no-toml-key need level n key ms f = f

no-toml-part : (need : Need) (level : Level) (n : ℕ) (ms : Members) → IsPartFault need level n ms error.Toml → ⊥
no-toml-part need level n ms (inl f) = f
no-toml-part need level n ms (inr f) = no-toml-key need level n f.0 ms f.2

no-toml : (need : Need) (ms : Members) → IsFault need ms error.Toml → ⊥
no-toml need ms (inl f) = no-toml-key need l.First 0 k.Format ms f
no-toml need ms (inr (inl f)) = no-toml-part need f.level f.n f.part f.fault
no-toml need ms (inr (inr f)) = value-is-not-toml _ f.error

-- a fault of the document is a cause of its refusal
pub refusal : (bytes : List ℕ) (need : Need) (ms : Members) (e : ContractError) → IsDocument bytes ms → IsFault need ms e → IsRefusal bytes need e
refusal bytes need ms error.NoMemory d f = tt
refusal bytes need ms error.Toml d f = absurd (no-toml need ms f)
refusal bytes need ms (error.Key name) d f = (ms, d, f)
refusal bytes need ms (error.Value name) d f = (ms, d, f)
refusal bytes need ms (error.Expr name entry byte) d f = (ms, d, f)
