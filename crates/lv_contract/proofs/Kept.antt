-- What a table that keeps its rows gives to read.
use Rattle.std.proofs.Common.{◌≡◌, ℕ, zero, suc, ◌≤◌, Bool, true, false, not, ◌&&◌, ◌||◌, ◌==◌, nat_le, if◌then◌else◌, List, [], ◌∷◌, ◌++◌, length, Option, Some, None, option_and_then, unwrap_or, is_some, slice_get, ◌⊎◌, inl, inr, refl, sym, ap, ◌∙◌, subst, arith}
use Rattle.std.specs.List.{list_all}
use Rattle.std.proofs.lemmas.Bool.{false≢true, and_parts, le-leb, leb-true}
use Rattle.std.proofs.lemmas.Option.{none-some}
use Rattle.toml.specs.Data.{Data, Items, no_items, item, Members, no_members, as_array, as_str, as_table}
use Rattle.lv_contract.specs.declared.key.Key.{Key}
use Rattle.lv_contract.specs.declared.key.Key.TheVariants as k
use Rattle.lv_contract.specs.declared.key.Level.{Level}
use Rattle.lv_contract.specs.declared.key.Level.TheVariants as l
use Rattle.lv_contract.specs.declared.need.Need.{Need}
use Rattle.lv_contract.specs.Keys.{kind_of, keys_of, common_keys, is_needed}
use Rattle.lv_contract.specs.Values.{value_at, number_of, items_of, items_at, string_at, number_at, texts_in, lists_in, tables_in, texts_at, lists_at, table_at, passes, within, is_printable, is_name, is_text, is_list, is_table, all_items, count, are_texts, are_lists, are_ports, has_lists, fits, fits_row, keeps_row, keeps, knows_all}
use Rattle.lv_contract.specs.Ranges.{in_range, in_count, is_name_or_none}
use Rattle.lv_contract.specs.Shapes.{TextsFit, ListsFit, PortFits, EachPortFits, InitialFits, CandidatesFit, SimulationFits, PortsFit, TopFits, top_level}
use Rattle.lv_contract.specs.Parts.{port_in, in_format, format_of, numbered_0, part_in, part_of}
use Rattle.lv_contract.specs.Checks.{Keeps}
use Rattle.lv_contract.proofs.Elements.{passes_at}

some-members : (x y : Members) → Some x ≡ Some y → x ≡ y
some-members x y h = cc

some-number : (x y : ℕ) → Some x ≡ Some y → x ≡ y
some-number x y h = cc

-- ---- tests

passes-or : {A : Type 0} (test : A → Bool) (o : Option A) (d : A) → passes test o ≡ true → test (unwrap_or o d) ≡ true
passes-or test None d h = absurd (false≢true h)
passes-or test (Some x) d h = h

or-not : (a b : Bool) → (a || b) ≡ true → not b ≡ true → a ≡ true
or-not true b h n = refl
or-not false true h n = absurd (false≢true n)
or-not false false h n = h

absent : (b : Bool) → not b ≡ true → b ≡ true → ⊥
absent true n h = false≢true n
absent false n h = false≢true h

within-zero : (least most n : ℕ) → within least most n ≡ true → within 0 most n ≡ true
within-zero least most n h = rw (le-leb 0 n (omega arith)) (and_parts (nat_le least n) (nat_le n most) h).1

both : (a b : Bool) → a ≡ true → b ≡ true → (a && b) ≡ true
both true b h i = i
both false b h i = h

-- ---- arrays of texts

texts-count : (ds : Items) → length (texts_in ds) ≡ count ds
texts-count no_items = refl
texts-count (item d ds) = let e : length (texts_in ds) ≡ count ds = texts-count ds in omega (arith, e)

texts-printable : (ds : Items) → all_items is_text ds ≡ true → list_all is_printable (texts_in ds) ≡ true
texts-printable no_items h = refl
texts-printable (item d ds) h =
    let parts = and_parts (is_text d) (all_items is_text ds) h in
    both _ _ (passes-or is_printable (as_str d) [] parts.0) (texts-printable ds parts.1)

record Listed (least most : ℕ) (ts : List (List ℕ)) : Type 0 where
  counted : within least most (length ts) ≡ true
  printable : list_all is_printable ts ≡ true

listed-items : (least most : ℕ) (o : Option Items) → passes (are_texts least most) o ≡ true → Listed least most (texts_in (unwrap_or o no_items))
listed-items least most None h = absurd (false≢true h)
listed-items least most (Some ds) h =
    let parts = and_parts (within least most (count ds)) (all_items is_text ds) h in
    record { counted = subst (λ n. within least most n ≡ true) (sym (texts-count ds)) parts.0; printable = texts-printable ds parts.1 }

listed : (least most : ℕ) (d : Data) → is_list least most d ≡ true → Listed least most (texts_in (items_of d))
listed least most d h = listed-items least most (as_array d) h

listed-at : (need : Need) (key : Key) (least most : ℕ) (o : Option Data) → ((d : Data) → fits (kind_of key) d ≡ is_list least most d) → (within least most 0 || is_needed need key) ≡ true → fits_row need key o ≡ true
    → Listed least most (texts_in (unwrap_or (option_and_then as_array o) no_items))
listed-at need key least most None f z h = record { counted = or-not (within least most 0) (is_needed need key) z h; printable = refl }
listed-at need key least most (Some d) f z h = listed least most d (sym (f d) ∙ h)

texts_fit : (need : Need) (key : Key) (ms : Members) (least most : ℕ) → ((d : Data) → fits (kind_of key) d ≡ is_list least most d) → ((n : ℕ) → in_count key n ≡ within least most n)
    → (within least most 0 || is_needed need key) ≡ true → keeps_row need ms key ≡ true → TextsFit key ms
texts_fit need key ms least most f c z h =
    let l = listed-at need key least most (value_at key ms) f z h in
    record { counted = c (length (texts_at key ms)) ∙ l.counted; printable = l.printable }

-- ---- arrays of arrays

lists-count : (ds : Items) → length (lists_in ds) ≡ count ds
lists-count no_items = refl
lists-count (item d ds) = let e : length (lists_in ds) ≡ count ds = lists-count ds in omega (arith, e)

lists-few : (least most : ℕ) (ds : Items) → all_items (is_list least most) ds ≡ true → list_all (λ list. within 0 most (length list)) (lists_in ds) ≡ true
lists-few least most no_items h = refl
lists-few least most (item d ds) h =
    let parts = and_parts (is_list least most d) (all_items (is_list least most) ds) h in
    both _ _ (within-zero least most _ (listed least most d parts.0).counted) (lists-few least most ds parts.1)

lists-printable : (least most : ℕ) (ds : Items) → all_items (is_list least most) ds ≡ true → list_all (list_all is_printable) (lists_in ds) ≡ true
lists-printable least most no_items h = refl
lists-printable least most (item d ds) h =
    let parts = and_parts (is_list least most d) (all_items (is_list least most) ds) h in
    both _ _ (listed least most d parts.0).printable (lists-printable least most ds parts.1)

record AreLists (most : ℕ) (lists : List (List (List ℕ))) : Type 0 where
  counted : within 0 1024 (length lists) ≡ true
  few : list_all (λ list. within 0 most (length list)) lists ≡ true
  printable : list_all (list_all is_printable) lists ≡ true

lists-items : (least most : ℕ) (o : Option Items) → passes (are_lists least most) o ≡ true → AreLists most (lists_in (unwrap_or o no_items))
lists-items least most None h = absurd (false≢true h)
lists-items least most (Some ds) h =
    let parts = and_parts (within 0 1024 (count ds)) (all_items (is_list least most) ds) h in
    record {
      counted = subst (λ n. within 0 1024 n ≡ true) (sym (lists-count ds)) parts.0;
      few = lists-few least most ds parts.1;
      printable = lists-printable least most ds parts.1;
    }

lists-at : (need : Need) (key : Key) (least most : ℕ) (o : Option Data) → ((d : Data) → fits (kind_of key) d ≡ has_lists least most d) → fits_row need key o ≡ true
    → AreLists most (lists_in (unwrap_or (option_and_then as_array o) no_items))
lists-at need key least most None f h = record { counted = refl; few = refl; printable = refl }
lists-at need key least most (Some d) f h = lists-items least most (as_array d) (sym (f d) ∙ h)

lists_fit : (need : Need) (key : Key) (ms : Members) (least most : ℕ) → ((d : Data) → fits (kind_of key) d ≡ has_lists least most d) → ((n : ℕ) → in_count key n ≡ within 0 1024 n)
    → keeps_row need ms key ≡ true → ListsFit most key ms
lists_fit need key ms least most f c h =
    let l = lists-at need key least most (value_at key ms) f h in
    record { counted = c (length (lists_at key ms)) ∙ l.counted; few = l.few; printable = l.printable }

-- ---- numbers and names

number-at : (need : Need) (key : Key) (test : ℕ → Bool) (o : Option Data) (default : ℕ) → ((d : Data) → fits (kind_of key) d ≡ passes test (number_of d)) → test default ≡ true → fits_row need key o ≡ true
    → test (unwrap_or (option_and_then number_of o) default) ≡ true
number-at need key test None default f z h = z
number-at need key test (Some d) default f z h = passes-or test (number_of d) default (sym (f d) ∙ h)

string-at : (need : Need) (key : Key) (test : List ℕ → Bool) (o : Option Data) → ((d : Data) → fits (kind_of key) d ≡ passes test (as_str d)) → is_needed need key ≡ true → fits_row need key o ≡ true
    → passes test (option_and_then as_str o) ≡ true
string-at need key test None f n h = absurd (absent (is_needed need key) h n)
string-at need key test (Some d) f n h = sym (f d) ∙ h

name-or-none : (o : Option (List ℕ)) → passes is_name o ≡ true → is_name_or_none o ≡ true
name-or-none None h = refl
name-or-none (Some t) h = h

string-or-none : (need : Need) (key : Key) (o : Option Data) → ((d : Data) → fits (kind_of key) d ≡ passes is_name (as_str d)) → fits_row need key o ≡ true → is_name_or_none (option_and_then as_str o) ≡ true
string-or-none need key None f h = refl
string-or-none need key (Some d) f h = name-or-none (as_str d) (sym (f d) ∙ h)

-- ---- rows

pub row : (need : Need) (level : Level) (ms : Members) (i : ℕ) (key : Key) → keeps need level ms ≡ true → slice_get (keys_of level) i ≡ Some key → keeps_row need ms key ≡ true
row need level ms i key h s = passes_at (keeps_row need ms) (keys_of level) i key (and_parts (knows_all level ms) (list_all (keeps_row need ms) (keys_of level)) h).1 s

get-append : {X : Type 0} (xs ys : List X) (i : ℕ) (x : X) → slice_get xs i ≡ Some x → slice_get (xs ++ ys) i ≡ Some x
get-append [] ys i x h = absurd (none-some x h)
get-append (y ∷ xs) ys zero x h = h
get-append (y ∷ xs) ys (suc i) x h = get-append xs ys i x h

common-row : (need : Need) (format : ℕ) (ms : Members) (i : ℕ) (key : Key) → keeps need (top_level format) ms ≡ true → slice_get common_keys i ≡ Some key → keeps_row need ms key ≡ true
common-row need format ms i key h s =
    elim (format == 2) as (λ b. keeps need (if b then l.Second else l.First) ms ≡ true → keeps_row need ms key ≡ true) [
      | true ↦ λ h. row need l.Second ms i key h (get-append common_keys (k.Port ∷ []) i key s)
      | false ↦ λ h. row need l.First ms (suc (suc i)) key h s
    ] h

-- ---- tables

pub port_fits : (need : Need) (ms : Members) → keeps_row need ms k.Retire ≡ true → keeps_row need ms k.Contract ≡ true → PortFits ms
port_fits need ms r c = record {
  retire = string-at need k.Retire is_printable (value_at k.Retire ms) (λ d. refl) refl r;
  contract = texts_fit need k.Contract ms 0 1024 (λ d. refl) (λ n. refl) refl c;
}

initial-fits : (need : Need) (ms : Members) → keeps need l.Initial ms ≡ true → InitialFits ms
initial-fits need ms h = record {
  equal = texts_fit need k.Equal ms 0 1024 (λ d. refl) (λ n. refl) refl (row need l.Initial ms 0 k.Equal h refl);
  each = texts_fit need k.Each ms 0 1024 (λ d. refl) (λ n. refl) refl (row need l.Initial ms 1 k.Each h refl);
}

candidates-fit : (need : Need) (ms : Members) → keeps need l.Candidates ms ≡ true → CandidatesFit ms
candidates-fit need ms h = record {
  equal = texts_fit need k.Equal ms 0 1024 (λ d. refl) (λ n. refl) refl (row need l.Candidates ms 1 k.Equal h refl);
  guarded = lists_fit need k.When ms 2 2 (λ d. refl) (λ n. refl) (row need l.Candidates ms 2 k.When h refl);
  each = texts_fit need k.Each ms 0 1024 (λ d. refl) (λ n. refl) refl (row need l.Candidates ms 3 k.Each h refl);
}

simulation-fits : (need : Need) (ms : Members) → keeps need l.Simulation ms ≡ true → SimulationFits ms
simulation-fits need ms h = record {
  cycles = number-at need k.SimulatedCycles (within 1 10000) (value_at k.SimulatedCycles ms) 1 (λ d. refl) refl (row need l.Simulation ms 0 k.SimulatedCycles h refl);
  show = texts_fit need k.Show ms 0 1024 (λ d. refl) (λ n. refl) refl (row need l.Simulation ms 1 k.Show h refl);
  state = lists_fit need k.State ms 2 2 (λ d. refl) (λ n. refl) (row need l.Simulation ms 2 k.State h refl);
  input = lists_fit need k.Input ms 1 10001 (λ d. refl) (λ n. refl) (row need l.Simulation ms 3 k.Input h refl);
}

-- tables that may be absent
initial-or-none : (need : Need) (o : Option Members) → ((part : Members) → o ≡ Some part → keeps need l.Initial part ≡ true) → InitialFits (unwrap_or o no_members)
initial-or-none need None h = record { equal = record { counted = refl; printable = refl }; each = record { counted = refl; printable = refl } }
initial-or-none need (Some part) h = initial-fits need part (h part refl)

candidates-or-none : (need : Need) (o : Option Members) → ((part : Members) → o ≡ Some part → keeps need l.Candidates part ≡ true) → CandidatesFit (unwrap_or o no_members)
candidates-or-none need None h = record {
  equal = record { counted = refl; printable = refl };
  guarded = record { counted = refl; few = refl; printable = refl };
  each = record { counted = refl; printable = refl };
}
candidates-or-none need (Some part) h = candidates-fit need part (h part refl)

-- ---- ports

tables-count : (ds : Items) → length (tables_in ds) ≡ count ds
tables-count no_items = refl
tables-count (item d ds) = let e : length (tables_in ds) ≡ count ds = tables-count ds in omega (arith, e)

record ArePorts (ds : Items) : Type 0 where
  counted : within 1 4 (length (tables_in ds)) ≡ true
  tables : all_items is_table ds ≡ true

ports-items : (o : Option Items) → passes are_ports o ≡ true → ArePorts (unwrap_or o no_items)
ports-items None h = absurd (false≢true h)
ports-items (Some ds) h =
    let parts = and_parts (within 1 4 (count ds)) (all_items is_table ds) h in
    record { counted = subst (λ n. within 1 4 n ≡ true) (sym (tables-count ds)) parts.0; tables = parts.1 }

ports-at : (need : Need) (o : Option Data) → fits_row need k.Port o ≡ true → ArePorts (unwrap_or (option_and_then as_array o) no_items)
ports-at need None h = absurd (false≢true h)
ports-at need (Some d) h = ports-items (as_array d) h

pub are_tables : (need : Need) (ms : Members) → keeps need l.Second ms ≡ true → all_items is_table (items_at k.Port ms) ≡ true
are_tables need ms h = (ports-at need (value_at k.Port ms) (row need l.Second ms 13 k.Port h refl)).tables

members-of : (o : Option Members) (port : Members) → is_some o ≡ true → Some (unwrap_or o no_members) ≡ Some port → o ≡ Some port
members-of None port t h = absurd (false≢true t)
members-of (Some ms) port t h = h

pub port_at_place : (ds : Items) (i : ℕ) (port : Members) → all_items is_table ds ≡ true → slice_get (tables_in ds) i ≡ Some port → port_in i ds ≡ Some port
port_at_place no_items i port t h = absurd (none-some port h)
port_at_place (item d ds) zero port t h = members-of (as_table d) port (and_parts (is_table d) (all_items is_table ds) t).0 h
port_at_place (item d ds) (suc i) port t h = port_at_place ds i port (and_parts (is_table d) (all_items is_table ds) t).1 h

one-port : (ms : Members) → PortFits ms → EachPortFits (ms ∷ [])
one-port ms p zero port s = subst PortFits (some-members ms port s) p
one-port ms p (suc i) port s = absurd (none-some port s)

ports-first : (need : Need) (ms : Members) → Keeps need 1 ms → PortsFit 1 ms
ports-first need ms h = record {
  tables = refl;
  count = refl;
  same = refl;
  each = one-port ms (port_fits need ms (row need l.First ms 0 k.Retire h.top refl) (row need l.First ms 1 k.Contract h.top refl));
}

ports-second : (need : Need) (ms : Members) → Keeps need 2 ms → PortsFit 2 ms
ports-second need ms h =
    let ports = ports-at need (value_at k.Port ms) (row need l.Second ms 13 k.Port h.top refl) in
    let keep = h.ports refl in
    record {
      tables = ports.tables;
      count = ports.counted;
      same = keep.same;
      each = λ i port s.
          let kept = keep.each i port (port_at_place (items_at k.Port ms) i port ports.tables s) in
          port_fits need port (row need l.Port port 0 k.Retire kept refl) (row need l.Port port 1 k.Contract kept refl);
    }

-- ---- formats

format-cases : (n : ℕ) → within 1 2 n ≡ true → (n ≡ 1) ⊎ (n ≡ 2)
format-cases zero h = absurd (false≢true h)
format-cases (suc zero) h = inl refl
format-cases (suc (suc zero)) h = inr refl
format-cases (suc (suc (suc n))) h = absurd (let l : suc (suc (suc n)) ≤ 2 = leb-true _ 2 (and_parts (nat_le 1 (suc (suc (suc n)))) (nat_le (suc (suc (suc n))) 2) h).1 in omega (arith, l))

format-if : (n f : ℕ) (b : Bool) → within 1 2 n ≡ b → ◌≡◌ {A = Option ℕ} (if b then Some n else None) (Some f) → within 1 2 f ≡ true
format-if n f true e h = subst (λ m. within 1 2 m ≡ true) (some-number n f h) e
format-if n f false e h = absurd (none-some f h)

format-in : (o : Option ℕ) (f : ℕ) → option_and_then in_format o ≡ Some f → within 1 2 f ≡ true
format-in None f h = absurd (none-some f h)
format-in (Some n) f h = format-if n f (within 1 2 n) refl h

pub format_range : (ms : Members) (f : ℕ) → format_of ms ≡ Some f → in_range k.Format f ≡ true
format_range ms f h = format-in (option_and_then number_of (value_at k.Format ms)) f h

pub one_or_two : (ms : Members) (f : ℕ) → format_of ms ≡ Some f → (f ≡ 1) ⊎ (f ≡ 2)
one_or_two ms f h = format-cases f (format-in (option_and_then number_of (value_at k.Format ms)) f h)

format-number : (o : Option ℕ) → passes (within 1 2) o ≡ true → option_and_then in_format o ≡ Some (unwrap_or o 1)
format-number None h = absurd (false≢true h)
format-number (Some n) h = rw h

format-value : (need : Need) (o : Option Data) → fits_row need k.Format o ≡ true → option_and_then in_format (option_and_then number_of o) ≡ Some (unwrap_or (option_and_then number_of o) 1)
format-value need None h = absurd (false≢true h)
format-value need (Some d) h = format-number (number_of d) h

pub format_read : (need : Need) (ms : Members) → keeps_row need ms k.Format ≡ true → format_of ms ≡ Some (number_at 1 k.Format ms)
format_read need ms h = format-value need (value_at k.Format ms) h

-- ---- the whole file

ports-fit : (need : Need) (format : ℕ) (ms : Members) → (format ≡ 1) ⊎ (format ≡ 2) → Keeps need format ms → PortsFit format ms
ports-fit need format ms (inl e) h = subst (λ f. PortsFit f ms) (sym e) (ports-first need ms (subst (λ f. Keeps need f ms) e h))
ports-fit need format ms (inr e) h = subst (λ f. PortsFit f ms) (sym e) (ports-second need ms (subst (λ f. Keeps need f ms) e h))

pub top_fits : (need : Need) (format : ℕ) (ms : Members) → format_of ms ≡ Some format → Keeps need format ms → TopFits format ms
top_fits need format ms f h =
    let at = common-row need format ms in
    record {
      files = texts_fit need k.Files ms 1 64 (λ d. refl) (λ n. refl) refl (at 1 k.Files h.top refl);
      top = passes-or is_name (string_at k.Top ms) [] (string-at need k.Top is_name (value_at k.Top ms) (λ d. refl) refl (at 2 k.Top h.top refl));
      clock = passes-or is_name (string_at k.Clock ms) [] (string-at need k.Clock is_name (value_at k.Clock ms) (λ d. refl) refl (at 3 k.Clock h.top refl));
      lookahead = number-at need k.Lookahead (within 0 32) (value_at k.Lookahead ms) 0 (λ d. refl) refl (at 4 k.Lookahead h.top refl);
      budget = number-at need k.Budget (within 0 2000000) (value_at k.Budget ms) 200000 (λ d. refl) refl (at 5 k.Budget h.top refl);
      certificate = string-or-none need k.Certificate (value_at k.Certificate ms) (λ d. refl) (at 6 k.Certificate h.top refl);
      cycles = number-at need k.Cycles (within 0 64) (value_at k.Cycles ms) 16 (λ d. refl) refl (at 7 k.Cycles h.top refl);
      ports = ports-fit need format ms (one_or_two ms format f) h;
      attacker = texts_fit need k.Attacker ms 1 1024 (λ d. refl) (λ n. refl) refl (at 8 k.Attacker h.top refl);
      assume = texts_fit need k.Assume ms 0 1024 (λ d. refl) (λ n. refl) refl (at 9 k.Assume h.top refl);
      initial = initial-or-none need (table_at k.Initial ms) h.initial;
      candidates = candidates-or-none need (table_at k.Candidates ms) h.candidates;
      sim = λ part s. simulation-fits need part (h.sim part s);
    }

-- ---- each table of the document keeps its rows

-- a table that has a number there is that table
pub numbered : (n : ℕ) (o : Option Members) (part : Members) → numbered_0 n o ≡ Some part → o ≡ Some part
numbered zero o part s = s
numbered (suc n) o part s = absurd (none-some part s)

part-first : (need : Need) (ms : Members) → Keeps need 1 ms → (level : Level) (n : ℕ) (part : Members) → part_in 1 level n ms ≡ Some part → keeps need level part ≡ true
part-first need ms h l.First n part s = subst (λ p. keeps need l.First p ≡ true) (some-members ms part (numbered n (Some ms) part s)) h.top
part-first need ms h l.Second n part s = absurd (none-some part (numbered n None part s))
part-first need ms h l.Initial n part s = h.initial part (numbered n (table_at k.Initial ms) part s)
part-first need ms h l.Candidates n part s = h.candidates part (numbered n (table_at k.Candidates ms) part s)
part-first need ms h l.Simulation n part s = h.sim part (numbered n (table_at k.Simulation ms) part s)
part-first need ms h l.Port n part s = absurd (none-some part s)

part-second : (need : Need) (ms : Members) → Keeps need 2 ms → (level : Level) (n : ℕ) (part : Members) → part_in 2 level n ms ≡ Some part → keeps need level part ≡ true
part-second need ms h l.First n part s = absurd (none-some part (numbered n None part s))
part-second need ms h l.Second n part s = subst (λ p. keeps need l.Second p ≡ true) (some-members ms part (numbered n (Some ms) part s)) h.top
part-second need ms h l.Initial n part s = h.initial part (numbered n (table_at k.Initial ms) part s)
part-second need ms h l.Candidates n part s = h.candidates part (numbered n (table_at k.Candidates ms) part s)
part-second need ms h l.Simulation n part s = h.sim part (numbered n (table_at k.Simulation ms) part s)
part-second need ms h l.Port n part s = (h.ports refl).each n part s

-- the table of a level, once the format is known
pub part_is : (format : ℕ) (level : Level) (n : ℕ) (ms : Members) → format_of ms ≡ Some format → part_of level n ms ≡ part_in format level n ms
part_is format level n ms f = ap (option_and_then (λ g. part_in g level n ms)) f

parts-in : (need : Need) (format : ℕ) (ms : Members) → (format ≡ 1) ⊎ (format ≡ 2) → Keeps need format ms → (level : Level) (n : ℕ) (part : Members) → part_in format level n ms ≡ Some part → keeps need level part ≡ true
parts-in need format ms (inl e) h level n part s = part-first need ms (subst (λ f. Keeps need f ms) e h) level n part (subst (λ f. part_in f level n ms ≡ Some part) e s)
parts-in need format ms (inr e) h level n part s = part-second need ms (subst (λ f. Keeps need f ms) e h) level n part (subst (λ f. part_in f level n ms ≡ Some part) e s)

pub parts_keep : (need : Need) (format : ℕ) (ms : Members) → format_of ms ≡ Some format → Keeps need format ms → (level : Level) (n : ℕ) (part : Members) → part_of level n ms ≡ Some part → keeps need level part ≡ true
parts_keep need format ms f h level n part s = parts-in need format ms (one_or_two ms format f) h level n part (sym (part_is format level n ms f) ∙ s)
