-- The constants of a scope where some of its declarations stand before.
use Rattle.std.proofs.Common.{◌≡◌, ◌⊎◌, inl, inr, ℕ, zero, suc, ◌+◌, Bool, true, false, ◌&&◌, ◌||◌, List, [], ◌∷◌, ◌++◌, length, take, drop, refl, sym, ap, ◌∙◌, subst, Option, Some, None}
use Rattle.std.specs.Prelude.{bytes_eq, cond, if◌then◌else◌}
use Rattle.std.specs.List.{list_any}
use Rattle.lv_ast.specs.declared.expr.Path.{Path}
use Rattle.lv_ast.specs.declared.expr.Expr.{Expr}
use Rattle.lv_ast.specs.declared.stmt.Ident.{Ident}
use Rattle.lv_ast.specs.declared.item.Range.{Range}
use Rattle.lv_ast.specs.Names.{Name, has_no_steps}
use Rattle.lv_source.specs.Names.{Names, Declared, Sort, Other, with_name, is_constant_sort}
use Rattle.lv_source.specs.Names.{Index as Index_sort}
use Rattle.lv_source.specs.Declarations.{Thing, Direction, Wire, Reg, Parameter, Index, Instance, Label, Declaration, declared_as}
use Rattle.lv_source.specs.Scopes.{Override, is_parameter, with_parameters, parameter, overridden, override_of, signal, other, sort_of, stands_for, scope_names, is_among, early_by, early_at}
use Rattle.lv_source.specs.Effect.{with_index}
use Rattle.lv_source.specs.Constants.{early_or_none}
use Rattle.lv_source.proofs.Tests.{decide, any-left, any-right}
use Rattle.lv_source.proofs.Summaries.{append-none}
use Rattle.lv_scopes.proofs.Indexed.{turned}
use Rattle.lv_symbols.specs.Frames.{Frame, IsScope, constants_in, constants_behind}

-- ---- lists

join_as : (n : Name) (xs ys : List Declaration) → declared_as n (xs ++ ys) ≡ declared_as n xs ++ declared_as n ys
join_as n [] ys = refl
join_as n (x ∷ xs) ys = elim (decide (bytes_eq x.name.name n)) [
  | inl e ↦ rw e (ap (λ zs. x ∷ zs) (join_as n xs ys))
  | inr e ↦ rw e (join_as n xs ys)
]

rejoin : {A : Type 0} (xs : List A) (i : ℕ) → take i xs ++ drop i xs ≡ xs
rejoin xs zero = refl
rejoin [] (suc i) = refl
rejoin (x ∷ xs) (suc i) = ap (λ zs. x ∷ zs) (rejoin xs i)

none_right : {A : Type 0} (xs ys : List A) → xs ++ ys ≡ [] → ys ≡ []
none_right [] ys h = h
none_right (x ∷ xs) ys h = cc

none_left : {A : Type 0} (xs ys : List A) → xs ++ ys ≡ [] → xs ≡ []
none_left [] ys h = refl
none_left (x ∷ xs) ys h = cc

no_items : {A : Type 0} (xs : List A) → length xs ≡ 0 → xs ≡ []
no_items [] h = refl
no_items (x ∷ xs) h = cc

less : (m n : ℕ) → suc m ≡ suc n → m ≡ n
less m n h = cc

-- one of the first, and only one in all: none behind
once_first : (xs ys : List Declaration) → list_any is_parameter xs ≡ true → length (xs ++ ys) ≡ 1 → ys ≡ []
once_first [] ys h k = cc
once_first (x ∷ xs) ys h k = none_right xs ys (no_items (xs ++ ys) (less (length (xs ++ ys)) 0 k))

-- ---- what is early

never : (o : Option Declared) → early_or_none false o ≡ None
never None = refl
never (Some d) = elim (is_constant_sort d.sort) as (λ c. (if c && false then Some d else None) ≡ None) [ true ↦ refl | false ↦ refl ]

nothing : (b : Bool) → early_or_none b None ≡ None
nothing b = refl

alike_if : (b : Bool) (o q : Option Declared) → (b ≡ true → o ≡ q) → early_or_none b o ≡ early_or_none b q
alike_if true o q f = ap (early_or_none true) (f refl)
alike_if false o q f = never o ∙ sym (never q)

alike_by : (xs ys : List Declaration) (around : Bool) (o q : Option Declared) → (xs ≡ [] → o ≡ q) → (list_any is_parameter ys ≡ true → o ≡ q) →
    early_or_none (early_by xs ys around) o ≡ early_or_none (early_by xs ys around) q
alike_by [] ys around o q f g = ap (early_or_none around) (f refl)
alike_by (x ∷ xs) ys around o q f g = alike_if (list_any is_parameter ys) o q g

-- ---- with parameters

abbrev pub next : List Override → Names → Ident → Thing → Names
next os names n t = elim t as (λ _. Names) [
  | Parameter local signed range value ↦ with_name names n.name (Some (overridden names n signed range value (override_of local os n.name)))
  | Direction o w s r ↦ names
  | Wire s r ↦ names
  | Reg s r b ↦ names
  | Index g ↦ names
  | Instance ↦ names
  | Label ↦ names
]

join_with : (os : List Override) (names : Names) (xs ys : List Declaration) →
    with_parameters os names (xs ++ ys) ≡ with_parameters os (with_parameters os names xs) ys
join_with os names [] ys = refl
join_with os names (x ∷ xs) ys = join_with os (next os names x.name x.thing) xs ys

left_out : (q b : Bool) (o x : Option Declared) → b ≡ false → (if q && b then o else x) ≡ x
left_out true true o x h = cc
left_out true false o x h = refl
left_out false b o x h = refl

next_apart : (os : List Override) (names : Names) (n : Ident) (t : Thing) (p : Path) → bytes_eq n.name p.name ≡ false → next os names n t p ≡ names p
next_apart os names n (Parameter local signed range value) p h = left_out (has_no_steps p) (bytes_eq p.name n.name) _ (names p) (turned p.name n.name ∙ h)
next_apart os names n (Direction o w s r) p h = refl
next_apart os names n (Wire s r) p h = refl
next_apart os names n (Reg s r b) p h = refl
next_apart os names n (Index g) p h = refl
next_apart os names n Instance p h = refl
next_apart os names n Label p h = refl

none_first : (b : Bool) (d : Declaration) (xs : List Declaration) → cond b (d ∷ xs) xs ≡ [] → (b ≡ false) × (xs ≡ [])
none_first true d xs h = cc
none_first false d xs h = (refl, h)

with_apart : (os : List Override) (names : Names) (ds : List Declaration) (p : Path) → declared_as p.name ds ≡ [] → with_parameters os names ds p ≡ names p
with_apart os names [] p h = refl
with_apart os names (d ∷ ds) p h =
    let r : (bytes_eq d.name.name p.name ≡ false) × (declared_as p.name ds ≡ []) = none_first (bytes_eq d.name.name p.name) d (declared_as p.name ds) h in
    with_apart os (next os names d.name d.thing) ds p r.1 ∙ next_apart os names d.name d.thing p r.0

no_steps_out : (q b : Bool) (o x : Option Declared) → q ≡ false → (if q && b then o else x) ≡ x
no_steps_out true b o x h = cc
no_steps_out false b o x h = refl

next_stepped : (os : List Override) (names : Names) (n : Ident) (t : Thing) (p : Path) → has_no_steps p ≡ false → next os names n t p ≡ names p
next_stepped os names n (Parameter local signed range value) p h = no_steps_out (has_no_steps p) (bytes_eq p.name n.name) _ (names p) h
next_stepped os names n (Direction o w s r) p h = refl
next_stepped os names n (Wire s r) p h = refl
next_stepped os names n (Reg s r b) p h = refl
next_stepped os names n (Index g) p h = refl
next_stepped os names n Instance p h = refl
next_stepped os names n Label p h = refl

with_stepped : (os : List Override) (names : Names) (ds : List Declaration) (p : Path) → has_no_steps p ≡ false → with_parameters os names ds p ≡ names p
with_stepped os names [] p h = refl
with_stepped os names (d ∷ ds) p h = with_stepped os (next os names d.name d.thing) ds p h ∙ next_stepped os names d.name d.thing p h

-- ---- names of a scope

abbrev thing_is : Thing → Bool
thing_is t = elim t as (λ _. Bool) [
  | Parameter l s r v ↦ true
  | Direction o w s r ↦ false
  | Wire s r ↦ false
  | Reg s r b ↦ false
  | Index g ↦ false
  | Instance ↦ false
  | Label ↦ false
]

abbrev stood : Names → Name → Ident → Sort → Path → Thing → Option Declared
stood names path n sort p t = elim t as (λ _. Option Declared) [
  | Direction o w signed range ↦ Some (signal names path n.name sort signed range None)
  | Wire signed range ↦ Some (signal names path n.name sort signed range None)
  | Reg signed range array ↦ Some (signal names path n.name sort signed range array)
  | Parameter l s r v ↦ names p
  | Index g ↦ Some (other (Index_sort g))
  | Instance ↦ Some (other Other)
  | Label ↦ Some (other Other)
]

module _ (names : Names) (path : Name) (n : Ident) (sort : Sort) (p : Path) (b : Bool) where
  apart_if : (o q : Option Declared) → (b ≡ true → false ≡ true) → early_or_none b o ≡ early_or_none b q
  apart_if o q f = alike_if b o q (λ t. absurd (let e : false ≡ true = f t in cc))

  stood_alike : (t : Thing) → (b ≡ true → thing_is t ≡ true) → early_or_none b (stood names path n sort p t) ≡ early_or_none b (names p)
  stood_alike (Parameter l s r v) f = refl
  stood_alike (Direction o w s r) f = apart_if (stood names path n sort p (Direction o w s r)) (names p) f
  stood_alike (Wire s r) f = apart_if (stood names path n sort p (Wire s r)) (names p) f
  stood_alike (Reg s r a) f = apart_if (stood names path n sort p (Reg s r a)) (names p) f
  stood_alike (Index g) f = apart_if (stood names path n sort p (Index g)) (names p) f
  stood_alike Instance f = apart_if (stood names path n sort p Instance) (names p) f
  stood_alike Label f = apart_if (stood names path n sort p Label) (names p) f

or_false : (b : Bool) → (b || false) ≡ true → b ≡ true
or_false true h = refl
or_false false h = h

-- the only declaration of a name is the parameter
only : (d : Declaration) (xs : List Declaration) → list_any is_parameter (d ∷ xs) ≡ true → length (d ∷ xs) ≡ 1 → is_parameter d ≡ true
only d xs h k =
    or_false (is_parameter d) (subst (λ zs. list_any is_parameter (d ∷ zs) ≡ true) (no_items xs (less (length xs) 0 k)) h)

stands_alike : (names : Names) (path : Name) (top clock : Bool) (p : Path) (xs ys : List Declaration) (around : Bool) →
    (list_any is_parameter ys ≡ true → list_any is_parameter xs ≡ true) → (list_any is_parameter xs ≡ true → length xs ≡ 1) →
    early_or_none (early_by xs ys around) (stands_for names path top clock p xs) ≡ early_or_none (early_by xs ys around) (names p)
stands_alike names path top clock p [] ys around f g = refl
stands_alike names path top clock p (d ∷ xs) ys around f g =
    stood_alike names path d.name (sort_of top clock (d ∷ xs)) p (list_any is_parameter ys) d.thing (λ t. only d xs (f t) (g (f t)))

-- ---- a scope

module _ (f : Frame) (h : IsScope f) (k : ℕ) (p : Path) where
  abbrev ds : List Declaration
  ds = f.scope.declarations

  abbrev all : List Declaration
  all = declared_as p.name ds

  abbrev before : List Declaration
  before = declared_as p.name (take k ds)

  abbrev behind : List Declaration
  behind = declared_as p.name (drop k ds)

  parts : all ≡ before ++ behind
  parts = ap (declared_as p.name) (sym (rejoin ds k)) ∙ join_as p.name (take k ds) (drop k ds)

  pub some_in : list_any is_parameter before ≡ true → list_any is_parameter all ≡ true
  some_in t = subst (λ zs. list_any is_parameter zs ≡ true) (sym parts) (any-left is_parameter before behind t)

  pub none_in : all ≡ [] → before ≡ []
  none_in e = none_left before behind (sym parts ∙ e)

  same_if : behind ≡ [] → constants_in f p ≡ constants_behind f (take k ds) p
  same_if e =
      ap (λ zs. with_parameters f.overrides f.base zs p) (sym (rejoin ds k)) ∙
      ap (λ (g : Names). g p) (join_with f.overrides f.base (take k ds) (drop k ds)) ∙
      with_apart f.overrides (constants_behind f (take k ds)) (drop k ds) p e

  -- where they are early, the constants of the scope are those so far
  pub so_far : early_or_none (early_at f.scope k p) (constants_in f p) ≡ early_or_none (early_at f.scope k p) (constants_behind f (take k ds) p)
  so_far =
      alike_by all before (f.scope.early p) (constants_in f p) (constants_behind f (take k ds) p) (λ e. same_if (none_right before behind (sym parts ∙ e)))
      (λ t. same_if (once_first before behind t (ap length (sym parts) ∙ h.once p.name (some_in t))))

  stepped : (zs : List Declaration) → has_no_steps p ≡ false → constants_behind f zs p ≡ None
  stepped zs e = with_stepped f.overrides f.base zs p e ∙ h.around p e

  abbrev stand : Option Declared
  stand = stands_for (constants_in f) f.scope.path h.top (is_among h.clocks p.name) p all

  by_steps : (b : Bool) → has_no_steps p ≡ b → early_or_none (early_at f.scope k p) (if b then stand else None) ≡ early_or_none (early_at f.scope k p) (constants_in f p)
  by_steps true e = stands_alike (constants_in f) f.scope.path h.top (is_among h.clocks p.name) p all before (f.scope.early p) some_in (h.once p.name)
  by_steps false e = ap (early_or_none (early_at f.scope k p)) (sym (stepped ds e))

  -- where they are early, the names of the scope are its constants
  pub scope_alike : early_or_none (early_at f.scope k p) (f.scope.names p) ≡ early_or_none (early_at f.scope k p) (constants_in f p)
  scope_alike = ap (λ (g : Names). early_or_none (early_at f.scope k p) (g p)) h.names ∙ by_steps (has_no_steps p) refl

-- ---- one more declaration

any_last : (xs : List Declaration) (d : Declaration) → is_parameter d ≡ false → list_any is_parameter (xs ++ d ∷ []) ≡ list_any is_parameter xs
any_last [] d h = ap (λ b. b || false) h
any_last (x ∷ xs) d h = ap (λ b. is_parameter x || b) (any_last xs d h)

last_if : (b : Bool) (xs : List Declaration) (d : Declaration) → (b ≡ false) ⊎ (is_parameter d ≡ false) →
    list_any is_parameter (xs ++ cond b (d ∷ []) []) ≡ list_any is_parameter xs
last_if false xs d h = ap (list_any is_parameter) (append-none xs)
last_if true xs d (inl h) = cc
last_if true xs d (inr h) = any_last xs d h

last_in : (b : Bool) (xs : List Declaration) (d : Declaration) → b ≡ true → is_parameter d ≡ true → list_any is_parameter (xs ++ cond b (d ∷ []) []) ≡ true
last_in true xs d e h = any-right is_parameter xs (d ∷ []) (ap (λ b. b || false) h)
last_in false xs d e h = cc

early_same : (xs ys zs : List Declaration) (around : Bool) → list_any is_parameter ys ≡ list_any is_parameter zs → early_by xs ys around ≡ early_by xs zs around
early_same [] ys zs around h = refl
early_same (x ∷ xs) ys zs around h = h

early_true : (xs ys : List Declaration) (around : Bool) → (xs ≡ [] → ys ≡ []) → list_any is_parameter ys ≡ true → early_by xs ys around ≡ true
early_true [] ys around f h = absurd (let e : list_any is_parameter [] ≡ true = subst (λ zs. list_any is_parameter zs ≡ true) (f refl) h in cc)
early_true (x ∷ xs) ys around f h = h

kept_if : (b : Bool) (o : Declared) → b ≡ true → is_constant_sort o.sort ≡ true → Some o ≡ early_or_none b (Some o)
kept_if true o e h = ap (λ (c : Bool). if c && true then Some o else None) (sym h)
kept_if false o e h = cc

parameter_constant : (here : Names) (n : Ident) (signed : Bool) (range : Option Range) (there : Names) (value : Expr) →
    is_constant_sort (parameter here n signed range there value).sort ≡ true
parameter_constant here n signed None there value = refl
parameter_constant here n signed (Some r) there value = refl

pub overridden_constant : (here : Names) (n : Ident) (signed : Bool) (range : Option Range) (value : Expr) (o : Option Override) →
    is_constant_sort (overridden here n signed range value o).sort ≡ true
overridden_constant here n signed range value None = parameter_constant here n signed range here value
overridden_constant here n signed range value (Some o) = parameter_constant here n signed range o.there o.value

module _ (f : Frame) (h : IsScope f) (k : ℕ) (d : Declaration) (t : take (k + 1) f.scope.declarations ≡ take k f.scope.declarations ++ d ∷ []) where
  abbrev xs : List Declaration
  xs = take k f.scope.declarations

  more_as : (name : Name) → declared_as name (take (k + 1) f.scope.declarations) ≡ declared_as name xs ++ cond (bytes_eq d.name.name name) (d ∷ []) []
  more_as name = ap (declared_as name) t ∙ join_as name xs (d ∷ [])

  pub early_kept : (p : Path) → (bytes_eq d.name.name p.name ≡ false) ⊎ (is_parameter d ≡ false) → early_at f.scope (k + 1) p ≡ early_at f.scope k p
  early_kept p e =
      early_same (declared_as p.name f.scope.declarations) (declared_as p.name (take (k + 1) f.scope.declarations)) (declared_as p.name xs) (f.scope.early p)
      (ap (list_any is_parameter) (more_as p.name) ∙ last_if (bytes_eq d.name.name p.name) (declared_as p.name xs) d e)

  early_now : (p : Path) → bytes_eq d.name.name p.name ≡ true → is_parameter d ≡ true → early_at f.scope (k + 1) p ≡ true
  early_now p e q =
      early_true (declared_as p.name f.scope.declarations) (declared_as p.name (take (k + 1) f.scope.declarations)) (f.scope.early p)
      (none_in f h (k + 1) p) (ap (list_any is_parameter) (more_as p.name) ∙ last_in (bytes_eq d.name.name p.name) (declared_as p.name xs) d e q)

  module _ (before : Names) (b : (p : Path) → before p ≡ early_or_none (early_at f.scope k p) (constants_behind f xs p)) where
    pub kept_names : is_parameter d ≡ false → (p : Path) → before p ≡ early_or_none (early_at f.scope (k + 1) p) (constants_behind f xs p)
    kept_names q p = b p ∙ ap (λ e. early_or_none e (constants_behind f xs p)) (sym (early_kept p (inr q)))

    split_name : (c : Declared) → is_constant_sort c.sort ≡ true → is_parameter d ≡ true → (p : Path) (s m : Bool) → has_no_steps p ≡ s → bytes_eq p.name d.name.name ≡ m →
        (if s && m then Some c else before p) ≡ early_or_none (early_at f.scope (k + 1) p) (if s && m then Some c else constants_behind f xs p)
    split_name c i q p true true u v = kept_if (early_at f.scope (k + 1) p) c (early_now p (turned d.name.name p.name ∙ v) q) i
    split_name c i q p true false u v =
        b p ∙ ap (λ e. early_or_none e (constants_behind f xs p)) (sym (early_kept p (inl (turned d.name.name p.name ∙ v))))
    split_name c i q p false m u v =
        b p ∙ ap (early_or_none (early_at f.scope k p)) (stepped f h k p xs u) ∙ sym (ap (early_or_none (early_at f.scope (k + 1) p)) (stepped f h k p xs u))

    pub added_name : (c : Declared) → is_constant_sort c.sort ≡ true → is_parameter d ≡ true → (p : Path) →
        with_name before d.name.name (Some c) p ≡ early_or_none (early_at f.scope (k + 1) p) (with_name (constants_behind f xs) d.name.name (Some c) p)
    added_name c i q p = split_name c i q p (has_no_steps p) (bytes_eq p.name d.name.name) refl refl

  pub behind_more : constants_behind f (take (k + 1) f.scope.declarations) ≡ next f.overrides (constants_behind f xs) d.name d.thing
  behind_more = ap (constants_behind f) t ∙ join_with f.overrides f.base xs (d ∷ [])

-- ---- a turn of a loop

names_stepped : (names : Names) (path : Name) (top : Bool) (clocks : List Name) (ds : List Declaration) (p : Path) → has_no_steps p ≡ false →
    scope_names names path top clocks ds p ≡ None
names_stepped names path top clocks ds p e = ap (λ b. if b then stands_for names path top (is_among clocks p.name) p (declared_as p.name ds) else None) e

pub index_stepped : (f : Frame) → IsScope f → (index : Name) (value : ℕ) (p : Path) → has_no_steps p ≡ false → with_index f.scope.names index value p ≡ None
index_stepped f h index value p e =
    no_steps_out (has_no_steps p) (bytes_eq p.name index) _ (f.scope.names p) e ∙ ap (λ (g : Names). g p) h.names ∙
    names_stepped (constants_in f) f.scope.path h.top h.clocks f.scope.declarations p e
