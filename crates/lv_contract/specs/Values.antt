-- What the value at a key is, by its kind, over the data that TOML gives a document.
use Rattle.std.specs.Prelude.{ℕ, ◌+◌, ℤ, pos, negsuc, Bool, true, false, not, ◌&&◌, ◌||◌, ◌==◌, nat_le, List, [], ◌∷◌, length, Option, Some, None, option_and_then, unwrap_or, is_some, slice_get}
use Rattle.std.specs.List.{list_all}
use Rattle.std.specs.Str.{bytes_eq}
use Rattle.toml.specs.Data.{Data, Items, no_items, item, Members, no_members, member, get_member, as_str, as_integer, as_bool, as_array, as_table}
use Rattle.lv_contract.specs.declared.key.Key.{Key}
use Rattle.lv_contract.specs.declared.key.Kind.{Kind}
use Rattle.lv_contract.specs.declared.key.Kind.TheVariants as kind
use Rattle.lv_contract.specs.declared.key.Level.{Level}
use Rattle.lv_contract.specs.declared.need.Need.{Need}
use Rattle.lv_contract.specs.Keys.{name_of, kind_of, keys_of, is_known, is_needed}

-- ---- what stands at a key

abbrev pub value_at : Key → Members → Option Data
value_at key ms = get_member (name_of key) ms

abbrev pub natural : ℤ → Option ℕ
natural (pos n) = Some n
natural (negsuc n) = None

abbrev pub number_of : Data → Option ℕ
number_of d = option_and_then natural (as_integer d)

abbrev pub text_of : Data → List ℕ
text_of d = unwrap_or (as_str d) []

abbrev pub items_of : Data → Items
items_of d = unwrap_or (as_array d) no_items

abbrev pub members_of : Data → Members
members_of d = unwrap_or (as_table d) no_members

abbrev pub texts_in : Items → List (List ℕ)
texts_in no_items = []
texts_in (item d ds) = text_of d ∷ texts_in ds

abbrev pub lists_in : Items → List (List (List ℕ))
lists_in no_items = []
lists_in (item d ds) = texts_in (items_of d) ∷ lists_in ds

-- the text at a place of a list, or none
abbrev pub text_in : ℕ → List (List ℕ) → List ℕ
text_in i list = unwrap_or (slice_get list i) []

abbrev pub tables_in : Items → List Members
tables_in no_items = []
tables_in (item d ds) = members_of d ∷ tables_in ds

-- the number at a key, or another where there is none
abbrev pub number_at : ℕ → Key → Members → ℕ
number_at default key ms = unwrap_or (option_and_then number_of (value_at key ms)) default

-- the truth value at a key, or false
abbrev pub truth_at : Key → Members → Bool
truth_at key ms = unwrap_or (option_and_then as_bool (value_at key ms)) false

-- the string at a key, if there is one
abbrev pub string_at : Key → Members → Option (List ℕ)
string_at key ms = option_and_then as_str (value_at key ms)

abbrev pub text_at : Key → Members → List ℕ
text_at key ms = unwrap_or (string_at key ms) []

abbrev pub items_at : Key → Members → Items
items_at key ms = unwrap_or (option_and_then as_array (value_at key ms)) no_items

-- the strings of the array at a key, and of its arrays
abbrev pub texts_at : Key → Members → List (List ℕ)
texts_at key ms = texts_in (items_at key ms)

abbrev pub lists_at : Key → Members → List (List (List ℕ))
lists_at key ms = lists_in (items_at key ms)

-- the table at a key, if there is one
abbrev pub table_at : Key → Members → Option Members
table_at key ms = option_and_then as_table (value_at key ms)

-- its members, none where there is no table
abbrev pub members_at : Key → Members → Members
members_at key ms = unwrap_or (table_at key ms) no_members

-- ---- kinds and ranges

abbrev pub passes : {A : Type 0} → (A → Bool) → Option A → Bool
passes test None = false
passes test (Some x) = test x

abbrev pub within : ℕ → ℕ → ℕ → Bool
within least most n = nat_le least n && nat_le n most

-- bytes 32 to 126
abbrev pub is_printable : List ℕ → Bool
is_printable text = list_all (within 32 126) text

abbrev pub is_name : List ℕ → Bool
is_name text = not (length text == 0) && is_printable text

abbrev pub is_text : Data → Bool
is_text d = passes is_printable (as_str d)

abbrev pub all_items : (Data → Bool) → Items → Bool
all_items test no_items = true
all_items test (item d ds) = test d && all_items test ds

abbrev pub count : Items → ℕ
count no_items = 0
count (item d ds) = count ds + 1

abbrev pub are_texts : ℕ → ℕ → Items → Bool
are_texts least most ds = within least most (count ds) && all_items is_text ds

abbrev pub is_list : ℕ → ℕ → Data → Bool
is_list least most d = passes (are_texts least most) (as_array d)

-- arrays of so many strings
abbrev pub are_lists : ℕ → ℕ → Items → Bool
are_lists least most ds = within 0 1024 (count ds) && all_items (is_list least most) ds

abbrev pub has_lists : ℕ → ℕ → Data → Bool
has_lists least most d = passes (are_lists least most) (as_array d)

abbrev pub is_table : Data → Bool
is_table d = is_some (as_table d)

abbrev pub are_ports : Items → Bool
are_ports ds = within 1 4 (count ds) && all_items is_table ds

-- a value is of a kind and in its range
abbrev pub fits : Kind → Data → Bool
fits (kind.Number least most) d = passes (within least most) (number_of d)
fits kind.Truth d = is_some (as_bool d)
fits kind.Name d = passes is_name (as_str d)
fits kind.Files d = is_list 1 64 d
fits kind.Expression d = is_text d
fits (kind.Expressions least) d = is_list least 1024 d
fits kind.Pairs d = has_lists 2 2 d
fits kind.States d = has_lists 2 2 d
fits kind.Inputs d = has_lists 1 10001 d
fits kind.Table d = is_table d
fits kind.Ports d = passes are_ports (as_array d)

-- ---- a table keeps its rows: it has no other keys, each needed one, and values that fit

abbrev pub has_word : List ℕ → Members → Bool
has_word word no_members = false
has_word word (member key d ms) = bytes_eq key word || has_word word ms

abbrev pub knows_all : Level → Members → Bool
knows_all level no_members = true
knows_all level (member key d ms) = is_known level key && knows_all level ms

abbrev pub fits_row : Need → Key → Option Data → Bool
fits_row need key None = not (is_needed need key)
fits_row need key (Some d) = fits (kind_of key) d

abbrev pub keeps_row : Need → Members → Key → Bool
keeps_row need ms key = fits_row need key (value_at key ms)

abbrev pub keeps : Need → Level → Members → Bool
keeps need level ms = knows_all level ms && list_all (keeps_row need ms) (keys_of level)
