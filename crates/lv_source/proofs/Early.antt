-- The list of constants before a place says what the names there say.
use Rattle.std.proofs.Common.{◌≡◌, inl, inr, ℕ, zero, suc, Bool, true, false, ◌&&◌, ◌||◌, List, [], ◌∷◌, ◌++◌, map, refl, sym, ap, ◌∙◌, Option, Some, None}
use Rattle.std.specs.Prelude.{bytes_eq, flat_map, filter, find, reverse, cond, take, if◌then◌else◌}
use Rattle.std.specs.List.{list_any}
use Rattle.std.specs.Option.{option_or}
use mathlib.Core.List.{reverse-cons}
use Rattle.std.proofs.lemmas.List.Folds.{find-append}
use Rattle.lv_ast.specs.declared.expr.Path.{Path}
use Rattle.lv_ast.specs.declared.stmt.Ident.{Ident}
use Rattle.lv_ast.specs.declared.item.Item.{Item}
use Rattle.lv_ast.specs.declared.item.Module.{Module}
use Rattle.lv_ast.specs.Names.{Name, has_no_steps, alone}
use Rattle.lv_source.specs.Names.{Names, Declared, Sort, Constant, Other, is_constant_sort, with_name}
use Rattle.lv_source.specs.Names.{Index as Index_sort}
use Rattle.lv_source.specs.Effect.{with_index}
use Rattle.lv_source.specs.Declarations.{Thing, Direction, Wire, Reg, Parameter, Index, Instance, Label, Declaration, of_items, of_module, declared_as}
use Rattle.lv_source.specs.Scopes.{Scope, Override, is_parameter, no_names, with_parameters, overridden, override_of, signal, other, sort_of, is_among, is_one_bit_input, stands_for, scope_names, module_scope, turn_scope, early_by, early_at, here_at}
use Rattle.lv_source.specs.Constants.{Entry, last_value, entry_names, early_or_none, early_constants, hidden, parameter_entry, entry_constants, index_entry, Around, in_module, in_turn}
use Rattle.lv_source.proofs.Tests.{decide, same_name, name-itself}

-- ---- the last entry of a name

value_from : Name → Option Declared → List Entry → Option Declared
value_from n v [] = v
value_from n v (e ∷ es) = value_from n (if bytes_eq e.name n then e.value else v) es

abbrev entry_or : Option Declared → Option Entry → Option Declared
entry_or v None = v
entry_or v (Some e) = e.value

split_if : (b : Bool) (v : Option Declared) (e : Entry) → entry_or v (cond b (Some e) None) ≡ (if b then e.value else v)
split_if true v e = refl
split_if false v e = refl

split_last : (n : Name) (v : Option Declared) (e : Entry) (o : Option Entry) →
    entry_or v (option_or o (find (λ (x : Entry). bytes_eq x.name n) (e ∷ []))) ≡ entry_or (if bytes_eq e.name n then e.value else v) o
split_last n v e None = split_if (bytes_eq e.name n) v e
split_last n v e (Some x) = refl

last_from : (n : Name) (v : Option Declared) (es : List Entry) → entry_or v (find (λ (x : Entry). bytes_eq x.name n) (reverse es)) ≡ value_from n v es
unfolding value_from
last_from n v [] = refl
last_from n v (e ∷ es) =
    ap (λ (zs : List Entry). entry_or v (find (λ (x : Entry). bytes_eq x.name n) zs)) (reverse-cons e es) ∙
    (ap (entry_or v) (find-append (λ (x : Entry). bytes_eq x.name n) (reverse es) (e ∷ [])) ∙
    (split_last n v e (find (λ (x : Entry). bytes_eq x.name n) (reverse es)) ∙ last_from n (if bytes_eq e.name n then e.value else v) es))

same_or : (o : Option Entry) → elim o as (λ _. Option Declared) [ None ↦ None | Some e ↦ e.value ] ≡ entry_or None o
same_or None = refl
same_or (Some e) = refl

last_is : (n : Name) (es : List Entry) → last_value es n ≡ value_from n None es
last_is n es = same_or (find (λ (x : Entry). bytes_eq x.name n) (reverse es)) ∙ last_from n None es

from_join : (n : Name) (v : Option Declared) (xs ys : List Entry) → value_from n v (xs ++ ys) ≡ value_from n (value_from n v xs) ys
unfolding value_from
from_join n v [] ys = refl
from_join n v (e ∷ xs) ys = from_join n (if bytes_eq e.name n then e.value else v) xs ys

-- ---- the entries of a scope

abbrev hide : Option Declared → List Declaration → Option Declared
hide v [] = v
hide v (d ∷ ds) = None

hide_none : (ds : List Declaration) → hide None ds ≡ None
hide_none [] = refl
hide_none (d ∷ ds) = refl

hide_if : (b : Bool) (v : Option Declared) (d : Declaration) (xs : List Declaration) → hide (if b then None else v) xs ≡ hide v (cond b (d ∷ xs) xs)
hide_if true v d xs = hide_none xs
hide_if false v d xs = refl

hidden_from : (n : Name) (v : Option Declared) (ds : List Declaration) → value_from n v (map hidden ds) ≡ hide v (declared_as n ds)
unfolding value_from
hidden_from n v [] = refl
hidden_from n v (d ∷ ds) = hidden_from n (if bytes_eq d.name.name n then None else v) ds ∙ hide_if (bytes_eq d.name.name n) v d (declared_as n ds)

abbrev own_value : Scope → Name → Option Declared
own_value s n = early_or_none true (s.names (alone n))

module _ (s : Scope) (n : Name) where
  one_if : (c b a : Bool) (v k x : Option Declared) → (b ≡ true → k ≡ x) → (if a then x else if c then (if b then k else v) else v) ≡ (if (if b then (c || a) else a) then x else v)
  one_if true true true v k x h = refl
  one_if true true false v k x h = h refl
  one_if true false true v k x h = refl
  one_if true false false v k x h = refl
  one_if false true true v k x h = refl
  one_if false true false v k x h = refl
  one_if false false true v k x h = refl
  one_if false false false v k x h = refl

  any_if : (b : Bool) (d : Declaration) (xs : List Declaration) → list_any is_parameter (cond b (d ∷ xs) xs) ≡ (if b then (is_parameter d || list_any is_parameter xs) else list_any is_parameter xs)
  any_if true d xs = refl
  any_if false d xs = refl

  entry_from : (c : Bool) (m : Name) (v k : Option Declared) → value_from n v (if c then record { name = m; value = k } ∷ [] else []) ≡ (if c then (if bytes_eq m n then k else v) else v)
  unfolding value_from
  entry_from true m v k = refl
  entry_from false m v k = refl

  params_from : (v : Option Declared) (ds : List Declaration) →
      value_from n v (flat_map (parameter_entry s) ds) ≡ (if list_any is_parameter (declared_as n ds) then own_value s n else v)
  unfolding value_from
  params_from v [] = refl
  params_from v (d ∷ ds) =
      let m : Name = d.name.name in
      let xs : List Declaration = declared_as n ds in
      from_join n v (parameter_entry s d) (flat_map (parameter_entry s) ds) ∙
      (params_from (value_from n v (parameter_entry s d)) ds ∙
      (ap (λ (o : Option Declared). if list_any is_parameter xs then own_value s n else o) (entry_from (is_parameter d) m v (own_value s m)) ∙
      (one_if (is_parameter d) (bytes_eq m n) (list_any is_parameter xs) v (own_value s m) (own_value s n) (λ e. ap (own_value s) (same_name m n e)) ∙
      ap (λ (b : Bool). if b then own_value s n else v) (sym (any_if (bytes_eq m n) d xs)))))

take_if : (b : Bool) (d : Declaration) (xs ys : List Declaration) → cond b (d ∷ xs) xs ≡ [] → (xs ≡ [] → ys ≡ []) → cond b (d ∷ ys) ys ≡ []
take_if true d xs ys h f = cc
take_if false d xs ys h f = f h

none_taken : (n : Name) (ds : List Declaration) (k : ℕ) → declared_as n ds ≡ [] → declared_as n (take k ds) ≡ []
none_taken n [] zero h = refl
none_taken n [] (suc k) h = refl
none_taken n (d ∷ ds) zero h = refl
none_taken n (d ∷ ds) (suc k) h = take_if (bytes_eq d.name.name n) d (declared_as n ds) (declared_as n (take k ds)) h (none_taken n ds k)

-- ---- at a place

-- the names of a scope depend on the name alone, and those that it doesn't declare are constants as the entries say
record Fits (s : Scope) (es : List Entry) : Type 0 where
  pub stepped : (p : Path) → has_no_steps p ≡ false → s.names p ≡ None
  pub by_name : (p : Path) → has_no_steps p ≡ true → s.names p ≡ s.names (alone p.name)
  pub outer : (p : Path) → has_no_steps p ≡ true → declared_as p.name s.declarations ≡ [] → last_value es p.name ≡ early_constants (record { names = s.names; early = s.early }) p

never_early : (b : Bool) (o : Option Declared) → b ≡ false → early_or_none b o ≡ None
never_early true o h = cc
never_early false None h = refl
never_early false (Some d) h = elim (is_constant_sort d.sort) as (λ c. (if c && false then Some d else None) ≡ None) [ true ↦ refl | false ↦ refl ]

own_early : (a : Bool) (o : Option Declared) → (if a then early_or_none true o else None) ≡ early_or_none a o
own_early true o = refl
own_early false o = sym (never_early false o refl)

by_declared : (s : Scope) (es : List Entry) (k : ℕ) (p : Path) (xs : List Declaration) → declared_as p.name s.declarations ≡ xs → Fits s es → has_no_steps p ≡ true →
    (if list_any is_parameter (declared_as p.name (take k s.declarations)) then own_value s p.name else hide (value_from p.name None es) xs) ≡
    early_or_none (early_by xs (declared_as p.name (take k s.declarations)) (s.early p)) (s.names p)
by_declared s es k p [] e f h =
    ap (λ (ys : List Declaration). if list_any is_parameter ys then own_value s p.name else value_from p.name None es) (none_taken p.name s.declarations k e) ∙
    (sym (last_is p.name es) ∙ f.outer p h e)
by_declared s es k p (x ∷ xs) e f h =
    own_early (list_any is_parameter (declared_as p.name (take k s.declarations))) (s.names (alone p.name)) ∙
    ap (early_or_none (list_any is_parameter (declared_as p.name (take k s.declarations)))) (sym (f.by_name p h))

last_at : (s : Scope) (es : List Entry) (k : ℕ) (p : Path) → Fits s es → has_no_steps p ≡ true → last_value (entry_constants es s k) p.name ≡ early_constants (here_at s k) p
last_at s es k p f h =
    let n : Name = p.name in
    let hs : List Entry = map hidden s.declarations in
    let ps : List Entry = flat_map (parameter_entry s) (take k s.declarations) in
    last_is n (entry_constants es s k) ∙
    (from_join n None (es ++ hs) ps ∙
    (ap (λ (v : Option Declared). value_from n v ps) (from_join n None es hs ∙ hidden_from n (value_from n None es) s.declarations) ∙
    (params_from s n (hide (value_from n None es) (declared_as n s.declarations)) (take k s.declarations) ∙
    by_declared s es k p (declared_as n s.declarations) refl f h)))

steps_split : (s : Scope) (es : List Entry) (k : ℕ) (p : Path) → Fits s es → (b : Bool) → has_no_steps p ≡ b → (if b then last_value (entry_constants es s k) p.name else None) ≡ early_constants (here_at s k) p
steps_split s es k p f true h = last_at s es k p f h
steps_split s es k p f false h = ap (early_or_none ((here_at s k).early p)) (sym (f.stepped p h))

entries_fit : (s : Scope) (es : List Entry) (k : ℕ) → Fits s es → (p : Path) → entry_names (entry_constants es s k) p ≡ early_constants (here_at s k) p
entries_fit s es k f p = steps_split s es k p f (has_no_steps p) refl

-- ---- the names of modules and turns

ByName : Names → Type 0
ByName names = (p : Path) → has_no_steps p ≡ true → names p ≡ names (alone p.name)

with_by : (names : Names) (n : Name) (o : Option Declared) → ByName names → ByName (with_name names n o)
unfolding ByName
with_by names n o f p h =
    ap (λ (b : Bool). if b && bytes_eq p.name n then o else names p) h ∙ ap (λ (x : Option Declared). if bytes_eq p.name n then o else x) (f p h)

abbrev next_names : List Override → Names → Ident → Thing → Names
next_names os names n t = elim t as (λ _. Names) [
  | Parameter local signed range value ↦ with_name names n.name (Some (overridden names n signed range value (override_of local os n.name)))
  | Direction o w s r ↦ names
  | Wire s r ↦ names
  | Reg s r b ↦ names
  | Index g ↦ names
  | Instance ↦ names
  | Label ↦ names
]

next_by : (os : List Override) (names : Names) (n : Ident) (t : Thing) → ByName names → ByName (next_names os names n t)
next_by os names n (Parameter local signed range value) f = with_by names n.name _ f
next_by os names n (Direction o w s r) f = f
next_by os names n (Wire s r) f = f
next_by os names n (Reg s r b) f = f
next_by os names n (Index g) f = f
next_by os names n Instance f = f
next_by os names n Label f = f

params_by : (os : List Override) (names : Names) (ds : List Declaration) → ByName names → ByName (with_parameters os names ds)
params_by os names [] f = f
params_by os names (d ∷ ds) f = params_by os (next_names os names d.name d.thing) ds (next_by os names d.name d.thing f)

other_way : (m n : Name) → bytes_eq m n ≡ false → bytes_eq n m ≡ false
other_way m n h = elim (decide (bytes_eq n m)) [
  | inl e ↦ absurd (let k : bytes_eq m n ≡ true = ap (bytes_eq m) (same_name n m e) ∙ name-itself m in let x : true ≡ false = sym k ∙ h in cc)
  | inr e ↦ e
]

left_out : (b : Bool) (q : Bool) (o x : Option Declared) → b ≡ false → (if q && b then o else x) ≡ x
left_out true q o x h = cc
left_out false true o x h = refl
left_out false false o x h = refl

next_same : (os : List Override) (names : Names) (n : Ident) (t : Thing) (p : Path) → bytes_eq n.name p.name ≡ false → next_names os names n t p ≡ names p
next_same os names n (Parameter local signed range value) p h = left_out (bytes_eq p.name n.name) (has_no_steps p) _ (names p) (other_way n.name p.name h)
next_same os names n (Direction o w s r) p h = refl
next_same os names n (Wire s r) p h = refl
next_same os names n (Reg s r b) p h = refl
next_same os names n (Index g) p h = refl
next_same os names n Instance p h = refl
next_same os names n Label p h = refl

none_first : (b : Bool) (d : Declaration) (xs : List Declaration) → cond b (d ∷ xs) xs ≡ [] → (b ≡ false) × (xs ≡ [])
none_first true d xs h = cc
none_first false d xs h = (refl, h)

params_same : (os : List Override) (names : Names) (ds : List Declaration) (p : Path) → declared_as p.name ds ≡ [] → with_parameters os names ds p ≡ names p
params_same os names [] p h = refl
params_same os names (d ∷ ds) p h =
    let r : (bytes_eq d.name.name p.name ≡ false) × (declared_as p.name ds ≡ []) = none_first (bytes_eq d.name.name p.name) d (declared_as p.name ds) h in
    params_same os (next_names os names d.name d.thing) ds p r.1 ∙ next_same os names d.name d.thing p r.0

-- what a declaration stands for
abbrev stood : Names → Name → Ident → Sort → Path → Thing → Option Declared
stood names path n sort p t = elim t as (λ _. Option Declared) [
  | Direction o w signed range ↦ Some (signal names path n.name sort signed range None)
  | Wire signed range ↦ Some (signal names path n.name sort signed range None)
  | Reg signed range array ↦ Some (signal names path n.name sort signed range array)
  | Parameter l s r v ↦ names p
  | Index g ↦ Some (other (Index_sort g))
  | Instance ↦ Some (other Other)
  | Label ↦ Some (other Other)
]

stood_by : (names : Names) (path : Name) (n : Ident) (sort : Sort) (p q : Path) (t : Thing) → names p ≡ names q → stood names path n sort p t ≡ stood names path n sort q t
stood_by names path n sort p q (Direction o w s r) h = refl
stood_by names path n sort p q (Wire s r) h = refl
stood_by names path n sort p q (Reg s r b) h = refl
stood_by names path n sort p q (Parameter l s r v) h = h
stood_by names path n sort p q (Index g) h = refl
stood_by names path n sort p q Instance h = refl
stood_by names path n sort p q Label h = refl

stands_by : (names : Names) (path : Name) (top clock : Bool) (p q : Path) (xs : List Declaration) → names p ≡ names q → stands_for names path top clock p xs ≡ stands_for names path top clock q xs
stands_by names path top clock p q [] h = h
stands_by names path top clock p q (d ∷ xs) h = stood_by names path d.name (sort_of top clock (d ∷ xs)) p q d.thing h

module _ (names : Names) (path : Name) (top : Bool) (clocks : List Name) (ds : List Declaration) where
  stands_at : Path → Option Declared
  stands_at p = stands_for names path top (is_among clocks p.name) p (declared_as p.name ds)

  scope_stepped : (p : Path) → has_no_steps p ≡ false → scope_names names path top clocks ds p ≡ None
  unfolding stands_at
  scope_stepped p h = ap (λ (b : Bool). if b then stands_at p else None) h

  scope_at : (p : Path) → has_no_steps p ≡ true → scope_names names path top clocks ds p ≡ stands_at p
  unfolding stands_at
  scope_at p h = ap (λ (b : Bool). if b then stands_at p else None) h

  scope_by : ByName names → (p : Path) → has_no_steps p ≡ true → scope_names names path top clocks ds p ≡ scope_names names path top clocks ds (alone p.name)
  unfolding ByName stands_at
  scope_by f p h = scope_at p h ∙ stands_by names path top (is_among clocks p.name) p (alone p.name) (declared_as p.name ds) (f p h)

  scope_outer : (p : Path) → has_no_steps p ≡ true → declared_as p.name ds ≡ [] → scope_names names path top clocks ds p ≡ names p
  unfolding stands_at
  scope_outer p h e = scope_at p h ∙ ap (stands_for names path top (is_among clocks p.name) p) e

none_by : ByName no_names
unfolding ByName
none_by p h = refl

module_fits : (path : Name) (top : Bool) (around : List Name) (os : List Override) (clocks : Names → List Name) (m : Module) → Fits (module_scope path top around os clocks m) []
module_fits path top around os clocks m =
    let ds : List Declaration = of_module m in
    let constants : Names = with_parameters os no_names ds in
    let cs : List Name = filter (is_one_bit_input constants ds) (clocks constants) in
    record {
      stepped = scope_stepped constants path top cs ds;
      by_name = scope_by constants path top cs ds (params_by os no_names ds none_by);
      outer = λ p h e. ap (early_or_none false) (sym (scope_outer constants path top cs ds p h e ∙ params_same os no_names ds p e));
    }

index_by : (names : Names) (index : Name) (value : ℕ) → ByName names → ByName (with_index names index value)
index_by names index value f = with_by names index _ f

abbrev index_constant : Name → ℕ → Option Declared
index_constant index value = Some (record { path = index; bounds = record { left = 31; right = 0 }; ranged = true; signed = true; array = None; sort = Constant value })

index_is : (index : Name) (value : ℕ) → (index_entry index value).value ≡ index_constant index value
index_is index value = ap (λ (b : Bool). if b then index_constant index value else None) (name-itself index)

-- with the index before what stands around
index_if : (a b c : Bool) (it x o : Option Declared) (early : Bool) → a ≡ true → c ≡ b → it ≡ early_or_none true x →
    (if b then it else early_or_none early o) ≡ early_or_none (if a && c then true else early) (if a && c then x else o)
index_if true true true it x o early h e k = k
index_if true true false it x o early h e k = cc
index_if true false true it x o early h e k = cc
index_if true false false it x o early h e k = refl
index_if false b c it x o early h e k = cc

same_test : (m n : Name) → bytes_eq m n ≡ bytes_eq n m
same_test m n = elim (decide (bytes_eq n m)) [
  | inl e ↦ ap (bytes_eq m) (same_name n m e) ∙ (name-itself m ∙ sym e)
  | inr e ↦ other_way n m e ∙ sym e
]

turn_fits : (s : Scope) (es : List Entry) (k : ℕ) (index label : Ident) (items : List Item) (value : ℕ) → Fits s es →
    Fits (turn_scope s k index label items value) (entry_constants es s k ++ index_entry index.name value ∷ [])
unfolding ByName value_from
turn_fits s es k index label items value f =
    let child : Scope = turn_scope s k index label items value in
    let ds : List Declaration = of_items items in
    let base : Names = with_index s.names index.name value in
    let constants : Names = with_parameters [] base ds in
    let before : List Entry = entry_constants es s k in
    let it : Option Declared = with_index no_names index.name value (alone index.name) in
    record {
      stepped = scope_stepped constants child.path false [] ds;
      by_name = scope_by constants child.path false [] ds (params_by [] base ds (index_by s.names index.name value f.by_name));
      outer = λ p h e.
          last_is p.name (before ++ index_entry index.name value ∷ []) ∙
          (from_join p.name None before (index_entry index.name value ∷ []) ∙
          (ap (λ (v : Option Declared). if bytes_eq index.name p.name then it else v) (sym (last_is p.name before) ∙ last_at s es k p f h) ∙
          (index_if (has_no_steps p) (bytes_eq index.name p.name) (bytes_eq p.name index.name) it (index_constant index.name value) (s.names p) (early_at s k p) h
          (same_test p.name index.name) (index_is index.name value) ∙
          ap (early_or_none (child.early p)) (sym (scope_outer constants child.path false [] ds p h e ∙ params_same [] base ds p e)))));
    }

around_fits : (s : Scope) (es : List Entry) → Around s es → Fits s es
around_fits _ _ (in_module path top around os clocks m) = module_fits path top around os clocks m
around_fits _ _ (in_turn s es k index label items value a) = turn_fits s es k index label items value (around_fits s es a)

pub entries_say : (s : Scope) (es : List Entry) (k : ℕ) (p : Path) → Around s es → entry_names (entry_constants es s k) p ≡ early_constants (here_at s k) p
entries_say s es k p a = entries_fit s es k (around_fits s es a) p
