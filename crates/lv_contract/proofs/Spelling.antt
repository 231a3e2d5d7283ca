-- From a fault at one text to a fault of its key.
use Rattle.std.proofs.Common.{◌≡◌, ℕ, zero, suc, ◌+◌, ◌*◌, ◌^◌, ◌<◌, ◌≤◌, Bool, true, false, nat_le, drop, List, [], ◌∷◌, length, get_or, Contains, Option, Some, None, option_and_then, unwrap_or, slice_get, refl, sym, ap, ◌∙◌, subst, arith}
use Rattle.std.specs.List.{list_all}
use Rattle.std.proofs.lemmas.Bool.{false≢true, and_parts, le-leb, leb-true}
use Rattle.std.proofs.lemmas.List.{length-map}
use Rattle.std.proofs.lemmas.Option.{none-some}
use Rattle.toml.specs.Data.{Data, Items, no_items, Members, as_array, as_str}
use Rattle.toml.specs.View.{view, items_view}
use Rattle.toml.specs.declared.value.Value.{Value}
use Rattle.lv_contract.specs.declared.key.Key.{Key}
use Rattle.lv_contract.specs.declared.key.Kind.{Kind}
use Rattle.lv_contract.specs.declared.key.Kind.TheVariants as kind
use Rattle.lv_contract.specs.declared.key.Level.{Level}
use Rattle.lv_contract.specs.declared.error.ContractError.{ContractError}
use Rattle.lv_contract.specs.declared.error.ContractError.TheVariants as error
use Rattle.lv_contract.specs.Keys.{kind_of}
use Rattle.lv_contract.specs.Values.{value_at, text_of, items_of, text_at, string_at, texts_in, lists_in, texts_at, lists_at, text_in, passes, within, is_printable}
use Rattle.lv_contract.specs.Ranges.{fits_count, in_count}
use Rattle.lv_contract.specs.declared.key.Key.TheVariants as k
use Rattle.lv_contract.specs.declared.key.Level.TheVariants as l
use Rattle.lv_contract.specs.declared.named.Named.{Named}
use Rattle.lv_contract.specs.Named.{texts}
use Rattle.lv_contract.specs.Shapes.{is_expression, is_expressions}
use Rattle.lv_contract.specs.Parts.{StandsIn, StandsInLists, StandsAt, IsTextFault, IsFaultAmong, IsEntryFault, IsFaultAtEntry, IsSpellingFault}
use Rattle.lv_contract.proofs.Elements.{passes_at}

-- ---- one text

pub texts_at_place : (vs : List Value) (i : ℕ) (v : Value) → i < length vs → get_or vs i v ≡ v → slice_get (texts_in (items_view vs)) i ≡ Some (text_of (view v))
texts_at_place [] i v h e = absurd (omega arith)
texts_at_place (w ∷ vs) zero v h e = ap (λ u. Some (text_of (view u))) e
texts_at_place (w ∷ vs) (suc i) v h e = texts_at_place vs i v (omega arith) e

pub lists_at_place : (vs : List Value) (i : ℕ) (v : Value) → i < length vs → get_or vs i v ≡ v → slice_get (lists_in (items_view vs)) i ≡ Some (texts_in (items_of (view v)))
lists_at_place [] i v h e = absurd (omega arith)
lists_at_place (w ∷ vs) zero v h e = ap (λ u. Some (texts_in (items_of (view u)))) e
lists_at_place (w ∷ vs) (suc i) v h e = lists_at_place vs i v (omega arith) e

pub printable_text : (vs : List Value) (i : ℕ) (v : Value) (text : List ℕ) → list_all is_printable (texts_in (items_view vs)) ≡ true → i < length vs → get_or vs i v ≡ v → text ≡ text_of (view v) → is_printable text ≡ true
printable_text vs i v text p h e t = subst (λ s. is_printable s ≡ true) (sym t) (passes_at is_printable (texts_in (items_view vs)) i (text_of (view v)) p (texts_at_place vs i v h e))

pub printable_in : (i : ℕ) (ts : List (List ℕ)) → list_all is_printable ts ≡ true → is_printable (text_in i ts) ≡ true
printable_in i ts h = from-place (slice_get ts i) refl where
  from-place : (o : Option (List ℕ)) → slice_get ts i ≡ o → is_printable (unwrap_or o []) ≡ true
  from-place None e = refl
  from-place (Some t) e = passes_at is_printable ts i t h e

-- ---- faults

pub among : (level : Level) (key : Key) (first : ℕ) (texts : List (List ℕ)) (i : ℕ) (text : List ℕ) (e : ContractError) → slice_get texts i ≡ Some text → IsTextFault level key (first + i) text e → IsFaultAmong level key first texts e
among level key first texts i text error.NoMemory s h = tt
among level key first texts i text (error.Expr name at byte) s h = (i, text, s, h.0, h.1, h.2)
among level key first texts i text _ s h = absurd h

pub at_entry : (level : Level) (key : Key) (entry : ℕ) (texts : List (List ℕ)) (text : List ℕ) (e : ContractError) → Contains texts text → IsTextFault level key entry text e → IsFaultAtEntry level key entry texts e
at_entry level key entry texts text error.NoMemory s h = tt
at_entry level key entry texts text (error.Expr name at byte) s h = (h.0, h.1, (text, s, h.2))
at_entry level key entry texts text _ s h = absurd h

-- a text of an entry
pub in_list : (level : Level) (key : Key) (i : ℕ) (list : List (List ℕ)) (entry : ℕ) (text : List ℕ) (e : ContractError) → StandsIn (kind_of key) i list entry text → IsTextFault level key entry text e → IsEntryFault level key i list e
in_list level key i list entry text error.NoMemory s h = tt
in_list level key i list entry text (error.Expr name at byte) s h = (h.0, (text, subst (λ n. StandsIn (kind_of key) i list n text) (sym h.1) s, h.2))
in_list level key i list entry text _ s h = absurd h

-- ---- the value at a key

abbrev items_or_none : Option Data → Items
items_or_none o = unwrap_or (option_and_then as_array o) no_items

record HasItems (o : Option Data) : Type 0 where
  value : Data
  is : o ≡ Some value
  items : items_of value ≡ items_or_none o

has-texts : (o : Option Data) (i : ℕ) (t : List ℕ) → slice_get (texts_in (items_or_none o)) i ≡ Some t → HasItems o
has-texts None i t h = absurd (none-some t h)
has-texts (Some d) i t h = record { value = d; is = refl; items = refl }

has-lists : (o : Option Data) (i : ℕ) (t : List (List ℕ)) → slice_get (lists_in (items_or_none o)) i ≡ Some t → HasItems o
has-lists None i t h = absurd (none-some t h)
has-lists (Some d) i t h = record { value = d; is = refl; items = refl }

stands-expressions : (k : Kind) (n : ℕ) (d : Data) (entry i : ℕ) (text : List ℕ) → is_expressions k ≡ true → entry ≡ 1024 * n + i → slice_get (texts_in (items_of d)) i ≡ Some text → StandsAt k n d entry text
stands-expressions (kind.Expressions least) n d entry i text h e s = (i, e, s)
stands-expressions _ n d entry i text h e s = absurd (false≢true h)

pub expressions_fault : (level : Level) (n : ℕ) (key : Key) (ms : Members) (e : ContractError) → is_expressions (kind_of key) ≡ true → IsFaultAmong level key (1024 * n) (texts_at key ms) e → IsSpellingFault level n key ms e
expressions_fault level n key ms error.NoMemory k h = tt
expressions_fault level n key ms (error.Expr name at byte) k h =
    let v = has-texts (value_at key ms) h.0 h.1 h.2 in
    record {
      told = h.3;
      value = v.value;
      stands = v.is;
      text = h.1;
      at = stands-expressions (kind_of key) n v.value at h.0 h.1 k h.4 (subst (λ ds. slice_get (texts_in ds) h.0 ≡ Some h.1) (sym v.items) h.2);
      unread = h.5;
    }
expressions_fault level n key ms _ k h = absurd h

abbrev pub is_lists : Kind → Bool
is_lists kind.Pairs = true
is_lists kind.States = true
is_lists kind.Inputs = true
is_lists _ = false

stands-lists : (k : Kind) (d : Data) (entry : ℕ) (text : List ℕ) → is_lists k ≡ true → StandsInLists k d entry text → StandsAt k 0 d entry text
stands-lists kind.Pairs d entry text h s = s
stands-lists kind.States d entry text h s = s
stands-lists kind.Inputs d entry text h s = s
stands-lists _ d entry text h s = absurd (false≢true h)

pub lists_fault : (level : Level) (key : Key) (ms : Members) (i : ℕ) (list : List (List ℕ)) (e : ContractError) → is_lists (kind_of key) ≡ true → slice_get (lists_at key ms) i ≡ Some list → IsEntryFault level key i list e → IsSpellingFault level 0 key ms e
lists_fault level key ms i list error.NoMemory k s h = tt
lists_fault level key ms i list (error.Expr name at byte) k s h =
    let v = has-lists (value_at key ms) i list s in
    record {
      told = h.0;
      value = v.value;
      stands = v.is;
      text = h.1.0;
      at = stands-lists (kind_of key) v.value at h.1.0 k (i, list, subst (λ ds. slice_get (lists_in ds) i ≡ Some list) (sym v.items) s, h.1.1);
      unread = h.1.2;
    }
lists_fault level key ms i list _ k s h = absurd h

record HasText (o : Option Data) : Type 0 where
  value : Data
  is : o ≡ Some value
  text : unwrap_or (option_and_then as_str o) [] ≡ text_of value

has-text : (o : Option Data) → passes is_printable (option_and_then as_str o) ≡ true → HasText o
has-text None h = absurd (false≢true h)
has-text (Some d) h = record { value = d; is = refl; text = refl }

stands-expression : (k : Kind) (n : ℕ) (d : Data) (entry : ℕ) (text : List ℕ) → is_expression k ≡ true → entry ≡ n → text ≡ text_of d → StandsAt k n d entry text
stands-expression kind.Expression n d entry text h e s = (e, s)
stands-expression _ n d entry text h e s = absurd (false≢true h)

pub expression_fault : (level : Level) (n : ℕ) (key : Key) (ms : Members) (e : ContractError) → is_expression (kind_of key) ≡ true → passes is_printable (string_at key ms) ≡ true → IsTextFault level key n (text_at key ms) e → IsSpellingFault level n key ms e
expression_fault level n key ms error.NoMemory k p h = tt
expression_fault level n key ms (error.Expr name at byte) k p h =
    let v = has-text (value_at key ms) p in
    record { told = h.0; value = v.value; stands = v.is; text = text_at key ms; at = stands-expression (kind_of key) n v.value at (text_at key ms) k h.1 v.text; unread = h.2 }
expression_fault level n key ms _ k p h = absurd h

passes-unwrapped : (o : Option (List ℕ)) → passes is_printable o ≡ true → is_printable (unwrap_or o []) ≡ true
passes-unwrapped None h = absurd (false≢true h)
passes-unwrapped (Some t) h = h

pub printable_at : (key : Key) (ms : Members) → passes is_printable (string_at key ms) ≡ true → is_printable (text_at key ms) ≡ true
printable_at key ms h = passes-unwrapped (string_at key ms) h

-- ---- arrays of arrays

pub printable_part : (i : ℕ) (ds es : Items) (text : List ℕ) → ds ≡ es → list_all is_printable (texts_in es) ≡ true → text ≡ text_in i (texts_in ds) → is_printable text ≡ true
printable_part i ds es text e p t =
    subst (λ s. is_printable s ≡ true) (sym t) (printable_in i (texts_in ds) (subst (λ xs. list_all is_printable (texts_in xs) ≡ true) (sym e) p))

pub lists_place : (vs : List Value) (ds : Items) (i : ℕ) (v : Value) → items_view vs ≡ ds → i < length vs → get_or vs i v ≡ v → slice_get (lists_in ds) i ≡ Some (texts_in (items_of (view v)))
lists_place vs ds i v e h g = subst (λ xs. slice_get (lists_in xs) i ≡ Some (texts_in (items_of (view v)))) e (lists_at_place vs i v h g)

pub within_most : (least most n : ℕ) → within least most n ≡ true → n ≤ most
within_most least most n h = leb-true n most (and_parts (nat_le least n) (nat_le n most) h).1

lists-length : (vs : List Value) → length (lists_in (items_view vs)) ≡ length vs
lists-length [] = refl
lists-length (v ∷ vs) = ap suc (lists-length vs)

texts-length : (vs : List Value) → length (texts_in (items_view vs)) ≡ length vs
texts-length [] = refl
texts-length (v ∷ vs) = ap suc (texts-length vs)

pub place_few : (vs : List Value) (ds : Items) (i : ℕ) → items_view vs ≡ ds → within 0 1024 (length (lists_in ds)) ≡ true → i < length vs → i ≤ 1024
place_few vs ds i e w h =
    let n : length (lists_in ds) ≤ 1024 = within_most 0 1024 _ w in
    let m : length (lists_in ds) ≡ length vs = ap (λ xs. length (lists_in xs)) (sym e) ∙ lists-length vs in
    omega (arith, n, m, h)

few-expressions : (k : Kind) (n : ℕ) → is_expressions k ≡ true → fits_count k n ≡ true → n ≤ 1024
few-expressions (kind.Expressions least) n k h = within_most least 1024 n h
few-expressions _ n k h = absurd (false≢true k)

pub few_texts : (key : Key) (vs : List Value) (ds : Items) (n : ℕ) → items_view vs ≡ ds → is_expressions (kind_of key) ≡ true → in_count key (length (texts_in ds)) ≡ true → n ≤ 4 → 1024 * n + length vs < 2 ^ 64
few_texts key vs ds n e k h f =
    let m : length (texts_in ds) ≤ 1024 = few-expressions (kind_of key) _ k h in
    let s : length (texts_in ds) ≡ length vs = ap (λ xs. length (texts_in xs)) (sym e) ∙ texts-length vs in
    omega (arith, m, s, f)

-- ---- an input and its constants

pub rest_texts : (vs us : List Value) → us ≡ drop 1 vs → texts_in (items_view us) ≡ drop 1 (texts_in (items_view vs))
rest_texts [] us e = ap (λ xs. texts_in (items_view xs)) e
rest_texts (v ∷ vs) us e = ap (λ xs. texts_in (items_view xs)) e

rest-all : (ts : List (List ℕ)) → list_all is_printable ts ≡ true → list_all is_printable (drop 1 ts) ≡ true
rest-all [] h = refl
rest-all (t ∷ ts) h = (and_parts (is_printable t) (list_all is_printable ts) h).1

pub rest_printable : (vs us : List Value) (ds : Items) → items_view vs ≡ ds → us ≡ drop 1 vs → list_all is_printable (texts_in ds) ≡ true → list_all is_printable (texts_in (items_view us)) ≡ true
rest_printable vs us ds e r h =
    subst (λ ts. list_all is_printable ts ≡ true) (sym (rest_texts vs us r ∙ ap (λ xs. drop 1 (texts_in xs)) e)) (rest-all (texts_in ds) h)

rest-length : (ts : List (List ℕ)) → length ts ≤ 10001 → length (drop 1 ts) ≤ 10000
rest-length [] h = omega arith
rest-length (t ∷ ts) h = omega (arith, h)

pub rest_few : (vs us : List Value) (ds : Items) → items_view vs ≡ ds → us ≡ drop 1 vs → length (texts_in ds) ≤ 10001 → (xs : List Named) → texts xs ≡ texts_in (items_view us) → nat_le (length xs) 10000 ≡ true
rest_few vs us ds e r h xs t =
    let n : length (drop 1 (texts_in ds)) ≤ 10000 = rest-length (texts_in ds) h in
    let s : length (texts xs) ≡ length (drop 1 (texts_in ds)) = ap length (t ∙ rest_texts vs us r ∙ ap (λ ys. drop 1 (texts_in ys)) e) in
    le-leb _ _ (omega (arith, n, s, length-map xs (λ (x : Named). x.text)))

pub input_fault : (i : ℕ) (vs us : List Value) (ds : Items) (e : ContractError) → items_view vs ≡ ds → us ≡ drop 1 vs → IsFaultAtEntry l.Simulation k.Input i (texts_in (items_view us)) e → IsEntryFault l.Simulation k.Input i (texts_in ds) e
input_fault i vs us ds error.NoMemory e r h = tt
input_fault i vs us ds (error.Expr name at byte) e r h =
    let rest : texts_in (items_view us) ≡ drop 1 (texts_in ds) = rest_texts vs us r ∙ ap (λ xs. drop 1 (texts_in xs)) e in
    (h.0, (h.2.0, (h.1, subst (λ ts. Contains ts h.2.0) rest h.2.1), h.2.2))
input_fault i vs us ds _ e r h = absurd h

pub printable_list : (vs : List Value) (ds : Items) (i : ℕ) (v : Value) → list_all (list_all is_printable) (lists_in ds) ≡ true → items_view vs ≡ ds → i < length vs → v ≡ get_or vs i v → list_all is_printable (texts_in (items_of (view v))) ≡ true
printable_list vs ds i v p e h g = passes_at (list_all is_printable) (lists_in ds) i _ p (lists_place vs ds i v e h (sym g))

pub few_in : (vs : List Value) (ds : Items) (i : ℕ) (v : Value) → list_all (λ list. within 0 10001 (length list)) (lists_in ds) ≡ true → items_view vs ≡ ds → i < length vs → v ≡ get_or vs i v → length (texts_in (items_of (view v))) ≤ 10001
few_in vs ds i v p e h g = within_most 0 10001 _ (passes_at (λ list. within 0 10001 (length list)) (lists_in ds) i _ p (lists_place vs ds i v e h (sym g)))
