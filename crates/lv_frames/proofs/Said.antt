-- What entries say of a name: the last one counts.
use Rattle.std.proofs.Common.{◌≡◌, Bool, true, false, ◌||◌, if◌then◌else◌, List, [], ◌∷◌, ◌++◌, map, refl, sym, ap, ◌∙◌, Option, Some, None}
use Rattle.std.specs.Prelude.{bytes_eq, flat_map, find, reverse, cond}
use Rattle.std.specs.List.{list_any}
use Rattle.std.specs.Option.{option_or}
use mathlib.Core.List.{reverse-cons}
use Rattle.std.proofs.lemmas.List.{map-append}
use Rattle.std.proofs.lemmas.List.Folds.{find-append}
use Rattle.lv_ast.specs.declared.expr.Path.{Path}
use Rattle.lv_ast.specs.Names.{Name, has_no_steps}
use Rattle.lv_source.specs.Names.{Declared}
use Rattle.lv_source.specs.Declarations.{Declaration, declared_as}
use Rattle.lv_source.specs.Scopes.{is_parameter}
use Rattle.lv_source.specs.Constants.{last_value, entry_value, hidden}
use Rattle.lv_source.specs.Constants as source
use Rattle.lv_source.proofs.Tests.{same_name}
use Rattle.lv_const.specs.declared.consts.Entry.{Entry}
use Rattle.lv_const.specs.Constants.{names_of, declared_entry, declared_of, value_in}
use Rattle.lv_entries.specs.Entries.{declared_entries, value_entry}

-- behind what has been said so far
abbrev pub said_by : Name → Option Declared → List source.Entry → Option Declared
said_by n v [] = v
said_by n v (e ∷ es) = said_by n (if bytes_eq e.name n then e.value else v) es

abbrev value_or : Option Declared → Option source.Entry → Option Declared
value_or v None = v
value_or v (Some e) = e.value

one_said : (b : Bool) (v : Option Declared) (e : source.Entry) → value_or v (cond b (Some e) None) ≡ (if b then e.value else v)
one_said true v e = refl
one_said false v e = refl

last_said : (n : Name) (v : Option Declared) (e : source.Entry) (o : Option source.Entry) →
    value_or v (option_or o (find (λ (x : source.Entry). bytes_eq x.name n) (e ∷ []))) ≡ value_or (if bytes_eq e.name n then e.value else v) o
last_said n v e None = one_said (bytes_eq e.name n) v e
last_said n v e (Some x) = refl

found_said : (n : Name) (v : Option Declared) (es : List source.Entry) → value_or v (find (λ (x : source.Entry). bytes_eq x.name n) (reverse es)) ≡ said_by n v es
found_said n v [] = refl
found_said n v (e ∷ es) =
    ap (λ (zs : List source.Entry). value_or v (find (λ (x : source.Entry). bytes_eq x.name n) zs)) (reverse-cons e es) ∙
    (ap (value_or v) (find-append (λ (x : source.Entry). bytes_eq x.name n) (reverse es) (e ∷ [])) ∙
    (last_said n v e (find (λ (x : source.Entry). bytes_eq x.name n) (reverse es)) ∙ found_said n (if bytes_eq e.name n then e.value else v) es))

value_same : (o : Option source.Entry) → entry_value o ≡ value_or None o
value_same None = refl
value_same (Some e) = refl

-- of a name alone
pub names_said : (es : List Entry) (p : Path) → has_no_steps p ≡ true → names_of es p ≡ said_by p.name None (declared_entries es)
names_said es p h =
    ap (λ (b : Bool). if b then last_value (declared_entries es) p.name else None) h ∙
    (value_same (find (λ (x : source.Entry). bytes_eq x.name p.name) (reverse (declared_entries es))) ∙ found_said p.name None (declared_entries es))

-- a name with steps has no entry
pub stepped_said : (es : List Entry) (p : Path) → has_no_steps p ≡ false → names_of es p ≡ None
stepped_said es p h = ap (λ (b : Bool). if b then last_value (declared_entries es) p.name else None) h

pub said_join : (n : Name) (v : Option Declared) (xs ys : List source.Entry) → said_by n v (xs ++ ys) ≡ said_by n (said_by n v xs) ys
said_join n v [] ys = refl
said_join n v (e ∷ xs) ys = said_join n (if bytes_eq e.name n then e.value else v) xs ys

-- ---- names that are declared

abbrev pub hide_by : Option Declared → List Declaration → Option Declared
hide_by v [] = v
hide_by v (d ∷ ds) = None

none_hid : (ds : List Declaration) → hide_by None ds ≡ None
none_hid [] = refl
none_hid (d ∷ ds) = refl

hide_if : (b : Bool) (v : Option Declared) (d : Declaration) (xs : List Declaration) → hide_by (if b then None else v) xs ≡ hide_by v (cond b (d ∷ xs) xs)
hide_if true v d xs = none_hid xs
hide_if false v d xs = refl

pub hidden_said : (n : Name) (v : Option Declared) (ds : List Declaration) → said_by n v (map hidden ds) ≡ hide_by v (declared_as n ds)
hidden_said n v [] = refl
hidden_said n v (d ∷ ds) = hidden_said n (if bytes_eq d.name.name n then None else v) ds ∙ hide_if (bytes_eq d.name.name n) v d (declared_as n ds)

-- ---- parameters

module _ (cs : List Entry) (n : Name) where
  -- an entry of a parameter of the name, behind others of the name
  one_if : (c b a : Bool) (v k x : Option Declared) → (b ≡ true → k ≡ x) →
      (if a then x else if c then (if b then k else v) else v) ≡ (if (if b then (c || a) else a) then x else v)
  one_if true true true v k x h = refl
  one_if true true false v k x h = h refl
  one_if true false true v k x h = refl
  one_if true false false v k x h = refl
  one_if false true true v k x h = refl
  one_if false true false v k x h = refl
  one_if false false true v k x h = refl
  one_if false false false v k x h = refl

  any_if : (b : Bool) (d : Declaration) (xs : List Declaration) →
      list_any is_parameter (cond b (d ∷ xs) xs) ≡ (if b then (is_parameter d || list_any is_parameter xs) else list_any is_parameter xs)
  any_if true d xs = refl
  any_if false d xs = refl

  entry_said : (c : Bool) (e : Entry) (v : Option Declared) →
      said_by n v (declared_entries (if c then e ∷ [] else [])) ≡ (if c then (if bytes_eq e.name n then declared_of e.name e.value else v) else v)
  entry_said true e v = refl
  entry_said false e v = refl

  abbrev own : Name → Option Declared
  own m = declared_of m (value_in cs m)

  pub values_said : (v : Option Declared) (ds : List Declaration) →
      said_by n v (declared_entries (flat_map (value_entry cs) ds)) ≡ (if list_any is_parameter (declared_as n ds) then own n else v)
  values_said v [] = refl
  values_said v (d ∷ ds) =
      let m : Name = d.name.name in
      let xs : List Declaration = declared_as n ds in
      let x : Option Declared = said_by n v (declared_entries (value_entry cs d)) in
      ap (said_by n v) (map-append declared_entry (value_entry cs d) (flat_map (value_entry cs) ds)) ∙
      (said_join n v (declared_entries (value_entry cs d)) (declared_entries (flat_map (value_entry cs) ds)) ∙
      (values_said x ds ∙
      (ap (λ (o : Option Declared). if list_any is_parameter xs then own n else o)
      (entry_said (is_parameter d) (record { name = m; value = value_in cs m }) v) ∙
      (one_if (is_parameter d) (bytes_eq m n) (list_any is_parameter xs) v (own m) (own n) (λ e. ap own (same_name m n e)) ∙
      ap (λ (b : Bool). if b then own n else v) (sym (any_if (bytes_eq m n) d xs))))))
