-- What the names of a scope stand for, by its declarations, and where so many of them stand before.
use Rattle.std.proofs.Common.{◌≡◌, ℕ, zero, suc, ◌+◌, Bool, true, false, ◌&&◌, ◌||◌, List, [], ◌∷◌, ◌++◌, length, take, drop, append_assoc, refl, sym, ap, ◌∙◌, subst, Option, Some, None, inl, inr}
use Rattle.std.specs.Prelude.{bytes_eq, cond, if◌then◌else◌, slice_get}
use Rattle.std.specs.List.{list_any}
use Rattle.std.proofs.lemmas.List.{take_more}
use Rattle.std.proofs.lemmas.Option.{slice_get_within, get_or_from_slice_get}
use Rattle.lv_ast.specs.declared.expr.Path.{Path}
use Rattle.lv_ast.specs.declared.expr.Expr.{Expr}
use Rattle.lv_ast.specs.declared.item.Range.{Range}
use Rattle.lv_ast.specs.declared.stmt.Ident.{Ident}
use Rattle.lv_ast.specs.Names.{Name, has_no_steps}
use Rattle.lv_source.specs.Names.{Names, Declared, is_constant_sort, with_name}
use Rattle.lv_source.specs.Declarations.{Thing, Direction, Wire, Reg, Parameter, Index, Instance, Label, Declaration, declared_as}
use Rattle.lv_source.specs.Scopes.{Override, is_parameter, with_parameters, parameter, overridden, override_of, stands_for, is_among, early_by, early_at}
use Rattle.lv_source.specs.NodeRules.{is_early}
use Rattle.lv_source.proofs.Tests.{decide, any-left, name-itself}
use Rattle.lv_const.proofs.Told.{second-empty}
use Rattle.lv_scopes.proofs.Indexed.{turned}
use Rattle.lv_symbols.specs.Frames.{Frame, IsScope, constants_in, constants_behind}

-- ---- lists

pub join-as : (n : Name) (xs ys : List Declaration) → declared_as n (xs ++ ys) ≡ declared_as n xs ++ declared_as n ys
join-as n [] ys = refl
join-as n (x ∷ xs) ys = elim (decide (bytes_eq x.name.name n)) [
  | inl e ↦ rw e (ap (λ zs. x ∷ zs) (join-as n xs ys))
  | inr e ↦ rw e (join-as n xs ys)
]

pub rejoin : {A : Type 0} (xs : List A) (i : ℕ) → take i xs ++ drop i xs ≡ xs
rejoin xs zero = refl
rejoin [] (suc i) = refl
rejoin (x ∷ xs) (suc i) = ap (λ zs. x ∷ zs) (rejoin xs i)

pub taken : {A : Type 0} (xs : List A) (k : ℕ) (x : A) → slice_get xs k ≡ Some x → take (k + 1) xs ≡ take k xs ++ x ∷ []
taken xs k x h = take_more xs k x (slice_get_within xs k x h) ∙ ap (λ z. take k xs ++ z ∷ []) (get_or_from_slice_get xs k x x h)

-- a list around one of its elements
pub around : {A : Type 0} (xs : List A) (k : ℕ) (x : A) → slice_get xs k ≡ Some x → xs ≡ take k xs ++ x ∷ drop (k + 1) xs
around xs k x h =
    sym (rejoin xs (k + 1)) ∙ (ap (λ zs. zs ++ drop (k + 1) xs) (taken xs k x h) ∙ append_assoc (take k xs) (x ∷ []) (drop (k + 1) xs))

no-items : {A : Type 0} (xs : List A) → suc (length xs) ≡ 1 → xs ≡ []
no-items [] h = refl
no-items (x ∷ xs) h = cc

-- one among the first, and only one in all: none behind
pub once-before : (xs ys : List Declaration) → list_any is_parameter xs ≡ true → length (xs ++ ys) ≡ 1 → ys ≡ []
once-before [] ys h k = cc
once-before (x ∷ xs) ys h k = second-empty xs ys (no-items (xs ++ ys) k)

none-around : {A : Type 0} (xs ys : List A) (x : A) → length (xs ++ x ∷ ys) ≡ 1 → ys ≡ []
none-around [] ys x h = no-items ys h
none-around (z ∷ xs) ys x h = absurd (let e : xs ++ x ∷ ys ≡ [] = no-items (xs ++ x ∷ ys) h in let q : x ∷ ys ≡ [] = second-empty xs (x ∷ ys) e in cc)

-- ---- with parameters

abbrev pub next : List Override → Names → Ident → Thing → Names
next os names n t = elim t as (λ _. Names) [
  | Parameter local signed range value ↦ with_name names n.name (Some (overridden names n signed range value (override_of local os n.name)))
  | Direction o w s r ↦ names
  | Wire s r ↦ names
  | Reg s r b ↦ names
  | Index g ↦ names
  | Instance ↦ names
  | Label ↦ names
]

join-with : (os : List Override) (names : Names) (xs ys : List Declaration) →
    with_parameters os names (xs ++ ys) ≡ with_parameters os (with_parameters os names xs) ys
join-with os names [] ys = refl
join-with os names (x ∷ xs) ys = join-with os (next os names x.name x.thing) xs ys

left-out : (q b : Bool) (o x : Option Declared) → b ≡ false → (if q && b then o else x) ≡ x
left-out true true o x h = cc
left-out true false o x h = refl
left-out false b o x h = refl

next-apart : (os : List Override) (names : Names) (n : Ident) (t : Thing) (p : Path) → bytes_eq n.name p.name ≡ false → next os names n t p ≡ names p
next-apart os names n (Parameter local signed range value) p h = left-out (has_no_steps p) (bytes_eq p.name n.name) _ (names p) (turned p.name n.name ∙ h)
next-apart os names n (Direction o w s r) p h = refl
next-apart os names n (Wire s r) p h = refl
next-apart os names n (Reg s r b) p h = refl
next-apart os names n (Index g) p h = refl
next-apart os names n Instance p h = refl
next-apart os names n Label p h = refl

none-first : (b : Bool) (d : Declaration) (xs : List Declaration) → cond b (d ∷ xs) xs ≡ [] → (b ≡ false) × (xs ≡ [])
none-first true d xs h = cc
none-first false d xs h = (refl, h)

pub with-apart : (os : List Override) (names : Names) (ds : List Declaration) (p : Path) → declared_as p.name ds ≡ [] → with_parameters os names ds p ≡ names p
with-apart os names [] p h = refl
with-apart os names (d ∷ ds) p h =
    let r : (bytes_eq d.name.name p.name ≡ false) × (declared_as p.name ds ≡ []) = none-first (bytes_eq d.name.name p.name) d (declared_as p.name ds) h in
    with-apart os (next os names d.name d.thing) ds p r.1 ∙ next-apart os names d.name d.thing p r.0

-- ---- a scope

or-none : (b : Bool) → (b || false) ≡ true → b ≡ true
or-none true h = refl
or-none false h = h

only-parameter : (d : Declaration) (xs : List Declaration) → xs ≡ [] → list_any is_parameter (d ∷ xs) ≡ true → is_parameter d ≡ true
only-parameter d xs e h = or-none (is_parameter d) (subst (λ zs. list_any is_parameter (d ∷ zs) ≡ true) e h)

stands-parameter : (names : Names) (path : Name) (top clock : Bool) (p : Path) (n : Ident) (t : Thing) (rest : List Declaration) →
    is_parameter (record { name = n; thing = t }) ≡ true → stands_for names path top clock p (record { name = n; thing = t } ∷ rest) ≡ names p
stands-parameter names path top clock p n (Parameter l s r v) rest h = refl
stands-parameter names path top clock p n (Direction o w s r) rest h = cc
stands-parameter names path top clock p n (Wire s r) rest h = cc
stands-parameter names path top clock p n (Reg s r b) rest h = cc
stands-parameter names path top clock p n (Index g) rest h = cc
stands-parameter names path top clock p n Instance rest h = cc
stands-parameter names path top clock p n Label rest h = cc

module _ (f : Frame) (h : IsScope f) (p : Path) where
  abbrev ds : List Declaration
  ds = f.scope.declarations

  abbrev pub stand : List Declaration → Option Declared
  stand xs = stands_for (constants_in f) f.scope.path h.top (is_among h.clocks p.name) p xs

  abbrev by-steps : Bool → Option Declared
  by-steps b = if b then stand (declared_as p.name ds) else None

  names-are : f.scope.names p ≡ by-steps (has_no_steps p)
  names-are = ap (λ (g : Names). g p) h.names

  pub with-steps : has_no_steps p ≡ false → f.scope.names p ≡ None
  with-steps e = names-are ∙ ap by-steps e

  pub without-steps : (xs : List Declaration) → declared_as p.name ds ≡ xs → has_no_steps p ≡ true → f.scope.names p ≡ stand xs
  without-steps xs k e = names-are ∙ (ap by-steps e ∙ ap stand k)

  pub undeclared-constant : declared_as p.name ds ≡ [] → constants_in f p ≡ f.base p
  undeclared-constant k = with-apart f.overrides f.base ds p k

  -- a name that it doesn't declare is that around it
  pub undeclared : declared_as p.name ds ≡ [] → has_no_steps p ≡ true → f.scope.names p ≡ f.base p
  undeclared k e = without-steps [] k e ∙ undeclared-constant k

  -- the only declaration of the name of a parameter
  pub parameter-alone : (d : Declaration) (xs : List Declaration) → declared_as p.name ds ≡ d ∷ xs → list_any is_parameter (d ∷ xs) ≡ true →
      (xs ≡ []) × (is_parameter d ≡ true)
  parameter-alone d xs k a =
      let l : length (declared_as p.name ds) ≡ 1 = h.once p.name (ap (list_any is_parameter) k ∙ a) in
      let e : xs ≡ [] = no-items xs (sym (ap length k) ∙ l) in
      (e, only-parameter d xs e a)

  pub stand-parameter : (d : Declaration) (xs : List Declaration) → is_parameter d ≡ true → stand (d ∷ xs) ≡ constants_in f p
  stand-parameter d xs a = stands-parameter (constants_in f) f.scope.path h.top (is_among h.clocks p.name) p d.name d.thing xs a

  module _ (k : ℕ) where
    abbrev before : List Declaration
    before = declared_as p.name (take k ds)

    abbrev after : List Declaration
    after = declared_as p.name (drop k ds)

    pub parts : declared_as p.name ds ≡ before ++ after
    parts = ap (declared_as p.name) (sym (rejoin ds k)) ∙ join-as p.name (take k ds) (drop k ds)

    behind-if : after ≡ [] → constants_behind f (take k ds) p ≡ constants_in f p
    behind-if e = sym (
        ap (λ zs. with_parameters f.overrides f.base zs p) (sym (rejoin ds k)) ∙
        (ap (λ (g : Names). g p) (join-with f.overrides f.base (take k ds) (drop k ds)) ∙
        with-apart f.overrides (constants_behind f (take k ds)) (drop k ds) p e))

    -- where a parameter of the name stands before
    pub any-before : list_any is_parameter before ≡ true → list_any is_parameter (declared_as p.name ds) ≡ true
    any-before a = ap (list_any is_parameter) parts ∙ any-left is_parameter before after a

    behind-before : list_any is_parameter before ≡ true → constants_behind f (take k ds) p ≡ constants_in f p
    behind-before a = behind-if (once-before before after a (sym (ap length parts) ∙ h.once p.name (any-before a)))

    abbrev Kept : List Declaration → Bool → Type 0
    Kept xs b = is_early (early_by xs before (f.scope.early p)) (by-steps b) ≡ true → constants_behind f (take k ds) p ≡ by-steps b

    early-any : (b : Bool) (o : Option Declared) → is_early b o ≡ true → b ≡ true
    early-any b None e = cc
    early-any true (Some d) e = refl
    early-any false (Some d) e = elim (is_constant_sort d.sort) as (λ c. (c && false) ≡ true → false ≡ true) [ true ↦ λ z. z | false ↦ λ z. z ] e

    by-list : (xs : List Declaration) → declared_as p.name ds ≡ xs → is_early (early_by xs before (f.scope.early p)) (stand xs) ≡ true →
        constants_behind f (take k ds) p ≡ stand xs
    by-list [] e a = behind-if (second-empty before after (sym parts ∙ e))
    by-list (d ∷ xs) e a =
        let b : list_any is_parameter before ≡ true = early-any (list_any is_parameter before) (stand (d ∷ xs)) a in
        behind-before b ∙ sym (stand-parameter d xs (parameter-alone d xs e (ap (list_any is_parameter) (sym e) ∙ any-before b)).1)

    by-cases : (b : Bool) → has_no_steps p ≡ b → is_early (early_at f.scope k p) (by-steps b) ≡ true → constants_behind f (take k ds) p ≡ by-steps b
    by-cases true e a = by-list (declared_as p.name ds) refl a
    by-cases false e a = cc

    -- a name that is early is the constant that it was where so many had been declared
    pub behind-alike : is_early (early_at f.scope k p) (f.scope.names p) ≡ true → constants_behind f (take k ds) p ≡ f.scope.names p
    behind-alike a = by-cases (has_no_steps p) refl (ap (is_early (early_at f.scope k p)) (sym names-are) ∙ a) ∙ sym names-are

-- ---- a parameter

parameter-constant : (here : Names) (n : Ident) (signed : Bool) (range : Option Range) (there : Names) (value : Expr) →
    is_constant_sort (parameter here n signed range there value).sort ≡ true
parameter-constant here n signed None there value = refl
parameter-constant here n signed (Some r) there value = refl

overridden-constant : (here : Names) (n : Ident) (signed : Bool) (range : Option Range) (value : Expr) (o : Option Override) →
    is_constant_sort (overridden here n signed range value o).sort ≡ true
overridden-constant here n signed range value None = parameter-constant here n signed range here value
overridden-constant here n signed range value (Some o) = parameter-constant here n signed range o.there o.value

module _ (f : Frame) (h : IsScope f) (k : ℕ) (n : Ident) (local signed : Bool) (range : Option Range) (value : Expr)
    (i : slice_get f.scope.declarations k ≡ Some (record { name = n; thing = Parameter local signed range value })) where
  abbrev d : Declaration
  d = record { name = n; thing = Parameter local signed range value }

  abbrev xs : List Declaration
  xs = take k f.scope.declarations

  abbrev ys : List Declaration
  ys = drop (k + 1) f.scope.declarations

  abbrev pub constant : Declared
  constant = overridden (constants_behind f xs) n signed range value (override_of local f.overrides n.name)

  whole : f.scope.declarations ≡ xs ++ d ∷ ys
  whole = around f.scope.declarations k d i

  itself : declared_as n.name (d ∷ ys) ≡ d ∷ declared_as n.name ys
  itself = ap (λ b. cond b (d ∷ declared_as n.name ys) (declared_as n.name ys)) (name-itself n.name)

  all-as : declared_as n.name f.scope.declarations ≡ declared_as n.name xs ++ d ∷ declared_as n.name ys
  all-as = ap (declared_as n.name) whole ∙ (join-as n.name xs (d ∷ ys) ∙ ap (λ zs. declared_as n.name xs ++ zs) itself)

  any-right : (us vs : List Declaration) → list_any is_parameter (us ++ d ∷ vs) ≡ true
  any-right [] vs = refl
  any-right (u ∷ us) vs = elim (is_parameter u) as (λ b. (b || list_any is_parameter (us ++ d ∷ vs)) ≡ true) [ true ↦ refl | false ↦ any-right us vs ]

  none-behind : declared_as n.name ys ≡ []
  none-behind =
      let a : list_any is_parameter (declared_as n.name f.scope.declarations) ≡ true =
      ap (list_any is_parameter) all-as ∙ any-right (declared_as n.name xs) (declared_as n.name ys) in
      none-around (declared_as n.name xs) (declared_as n.name ys) d (sym (ap length all-as) ∙ h.once n.name a)

  -- its constant has the value that an instance gives it, or its own
  pub constant-is : (q : Path) → has_no_steps q ≡ true → q.name ≡ n.name → constants_in f q ≡ Some constant
  constant-is q s e =
      let b : (has_no_steps q && bytes_eq q.name n.name) ≡ true = ap (λ c. c && bytes_eq q.name n.name) s ∙ (ap (λ z. bytes_eq z n.name) e ∙ name-itself n.name) in
      ap (λ zs. with_parameters f.overrides f.base zs q) whole ∙
      (ap (λ (g : Names). g q) (join-with f.overrides f.base xs (d ∷ ys)) ∙
      (with-apart f.overrides (next f.overrides (constants_behind f xs) n d.thing) ys q (ap (λ z. declared_as z ys) e ∙ none-behind) ∙
      ap (λ c. if c then Some constant else constants_behind f xs q) b))

  pub is-constant : is_constant_sort constant.sort ≡ true
  is-constant = overridden-constant (constants_behind f xs) n signed range value (override_of local f.overrides n.name)
