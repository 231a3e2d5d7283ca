-- What is answered of one declaration, from the answers on its ranges and values.
use Rattle.std.proofs.Common.{◌≡◌, ◌⊎◌, inl, inr, ℕ, ◌<◌, arith, Bool, true, false, not, ◌&&◌, List, [], ◌∷◌, ◌++◌, map, refl, sym, ap, ◌∙◌, subst, Option, Some, None, Ok, Err}
use Rattle.std.specs.Prelude.{flat_map, Result, IfOk, IfErr}
use Rattle.std.specs.List.{Contains}
use Rattle.std.proofs.lemmas.List.Elements.{Contains-append_left, Contains-append_right, Contains-append_cases}
use Rattle.lv_ast.specs.declared.expr.Path.{Path}
use Rattle.lv_ast.specs.declared.expr.Expr.{Expr}
use Rattle.lv_ast.specs.declared.item.PortWord.{PortWord}
use Rattle.lv_ast.specs.declared.item.Range.{Range}
use Rattle.lv_ast.specs.declared.stmt.Ident.{Ident}
use Rattle.lv_source.specs.Names.{Names, Here}
use Rattle.lv_source.specs.Declarations.{Direction, Wire, Reg, Parameter, Declaration}
use Rattle.lv_source.specs.Scopes.{is_ranged}
use Rattle.lv_source.specs.ScopeRules.{place_if, is_range, range_sites, range_fault, declaration_sites}
use Rattle.lv_source.specs.NodeRules.{zero_divisor}
use Rattle.lv_source.specs.Sites.{Site}
use Rattle.lv_source.proofs.Bridges.{two}
use Rattle.lv_source.proofs.Summaries.{flat-join, append-none}
use Rattle.lv_const.specs.declared.consts.Entry.{Entry}
use Rattle.lv_const.specs.declared.error.ConstError.{ConstError}
use Rattle.lv_const.specs.declared.error.ConstError.TheVariants as x
use Rattle.lv_const.specs.Constants.{names_of}
use Rattle.lv_const.specs.Faults.{all_faults, form_faults}
use Rattle.lv_const.specs.Wherever.{Wherever}
use Rattle.lv_const.proofs.Told.{both-empty, first-empty, second-empty, sound-both, divides-both}
use Rattle.lv_scopes.specs.Numbers.{AreClean}
use Rattle.lv_scopes.specs.Parameters.{IsSound, IsParameterFault, value_sites}
use Rattle.lv_symbols.specs.declared.symbol.Symbol.{Symbol}
use Rattle.lv_symbols.specs.declared.symbol.Symbol.TheVariants as y
use Rattle.lv_symbols.specs.declared.symbol.SymbolError.{SymbolError}
use Rattle.lv_symbols.specs.declared.symbol.SymbolError.TheVariants as e
use Rattle.lv_symbols.specs.Making.{signal_symbol, symbol_of, given_faults, IsSoundHere, IsToldOf, parameters_in}
use Rattle.lv_symbols.specs.Answers.{ranges_faults, AreBounds, AreBoundsTold, AreElements, both_allowed, both_sites, IsSignal, IsSignalTold, IsSignalAnswer, IsSet, IsNotSet, IsSetTold, value_faults, names_behind, IsMade, IsNotMade}

-- ---- what is clean has no faults

none_node : (a b c d z : List ℕ) → a ++ b ++ c ++ d ≡ [] → z ≡ [] → (map x.NoValue a ++ map x.Range d) ++ map x.ZeroDivisor z ≡ []
none_node a b c d z h k =
    let u : a ++ b ++ c ≡ [] = first-empty (a ++ b ++ c) d h in
    let v : a ≡ [] = first-empty a b (first-empty (a ++ b) c u) in
    both-empty (map x.NoValue a ++ map x.Range d) (map x.ZeroDivisor z)
    (both-empty (map x.NoValue a) (map x.Range d) (ap (map x.NoValue) v) (ap (map x.Range) (second-empty (a ++ b ++ c) d h))) (ap (map x.ZeroDivisor) k)

none_all : (early : Path → Bool) (sites : List Site) → flat_map (form_faults early) sites ≡ [] → flat_map zero_divisor sites ≡ [] →
    flat_map (all_faults early) sites ≡ []
none_all early [] h k = refl
none_all early (s ∷ ss) h k =
    both-empty (all_faults early s) (flat_map (all_faults early) ss)
    (none_node _ _ _ _ _ (first-empty (form_faults early s) (flat_map (form_faults early) ss) h) (first-empty (zero_divisor s) (flat_map zero_divisor ss) k))
    (none_all early ss (second-empty (form_faults early s) (flat_map (form_faults early) ss) h) (second-empty (zero_divisor s) (flat_map zero_divisor ss) k))

clean_both : (early : Path → Bool) (ss ts : List Site) → AreClean early ss → AreClean early ts → AreClean early (ss ++ ts)
clean_both early ss ts h k = record { sound = sound-both early ss ts h.sound k.sound; divides = divides-both ss ts h.divides k.divides }

-- ---- parameters

given_fault : (here outside : Here) (range : Option Range) (own value : Expr) (place : ℕ) (z : ConstError) → IsSound here here range own →
    IsParameterFault here outside range value place z → Contains (value_faults here outside range (Some value)) z
given_fault here outside range own value place z h k =
    let a : map x.Range (place_if (not (is_range here.names true range)) place) ≡ [] = ap (λ b. map x.Range (place_if (not b) place)) h.allowed in
    let b : flat_map (all_faults here.early) (range_sites here.names range) ≡ [] =
    none_all here.early (range_sites here.names range) h.range_clean.sound.none h.range_clean.divides.none in
    subst (λ zs. Contains (zs ++ flat_map (all_faults outside.early) (value_sites here outside range value)) z) b
    (subst (λ zs. Contains (zs ++ (flat_map (all_faults here.early) (range_sites here.names range) ++
    flat_map (all_faults outside.early) (value_sites here outside range value))) z) a k.told)

pub given_told : (here outside : Here) (range : Option Range) (own value : Expr) (place : ℕ) (z : ConstError) → IsSound here here range own →
    IsParameterFault here outside range value place z → Contains (value_faults here outside range (Some value)) z × IsSound here here range own
given_told here outside range own value place z h k = (given_fault here outside range own value place z h k, h)

pub set_made : (old there new : List Entry) (name : Ident) (local signed : Bool) (range : Option Range) (value : Expr) (given : Option Expr) →
    IsSet old there new name signed range value given →
    IsMade old there new given (record { name = name; thing = Parameter local signed range value }) y.Constant
set_made old there new name local signed range value given h = record {
  symbol = record { at = λ here near. refl };
  sound = record {
    at = λ here near. record {
      allowed = ap (λ b. place_if (not b) name.place) (h.sound.at here near).allowed;
      clean = clean_both here.early (range_sites here.names range) (value_sites here here range value) (h.sound.at here near).range_clean
          (h.sound.at here near).value_clean;
    };
  };
  given_sound = h.given_sound;
  named = h.named;
  added = (h.added.0 ∷ [], h.added.1, refl);
}

same_faults : (here outside : Here) (name : Ident) (local signed : Bool) (range : Option Range) (value : Expr) (given : Option Expr) →
    value_faults here outside range given ≡ given_faults here outside given (record { name = name; thing = Parameter local signed range value })
same_faults here outside name local signed range value None = refl
same_faults here outside name local signed range value (Some v) = refl

sound_as : (here : Here) (name : Ident) (local signed : Bool) (range : Option Range) (value : Expr) → IsSound here here range value →
    IsSoundHere here (record { name = name; thing = Parameter local signed range value })
sound_as here name local signed range value h = record {
  allowed = ap (λ b. place_if (not b) name.place) h.allowed;
  clean = clean_both here.early (range_sites here.names range) (value_sites here here range value) h.range_clean h.value_clean;
}

told_as : (here outside : Here) (name : Ident) (local signed : Bool) (range : Option Range) (value : Expr) (given : Option Expr) (z : SymbolError) →
    IsSetTold here outside range value given name.place z → IsToldOf here outside given (record { name = name; thing = Parameter local signed range value }) z
told_as here outside name local signed range value given (e.Own z) h =
    subst (λ zs. Contains (map x.Range (place_if (not (is_range here.names true range)) name.place) ++ zs) z)
    (sym (flat-join (all_faults here.early) (range_sites here.names range) (value_sites here here range value))) h
told_as here outside name local signed range value given (e.Given z) h =
    (subst (λ zs. Contains zs z) (same_faults here outside name local signed range value given) h.0, sound_as here name local signed range value h.1)
told_as here outside name local signed range value given e.NoMemory h = tt

pub set_told : (old there : List Entry) (name : Ident) (local signed : Bool) (range : Option Range) (value : Expr) (given : Option Expr) (z : SymbolError) →
    IsNotSet old there range value given name.place z →
    IsNotMade old there given (record { name = name; thing = Parameter local signed range value }) z
set_told old there name local signed range value given z h = record {
  told = record {
    at = λ here near. record { at = λ outside far. told_as here outside name local signed range value given z ((h.told.at here near).at outside far) };
  };
}

-- ---- signals

no_member : {X : Type 0} (z : X) → Contains [] z → true ≡ false
no_member z h = absurd (let k : h.0 < 0 = h.1 in omega arith)

first_not : (a b : Bool) (place : ℕ) (z : ConstError) → Contains (map x.Range (place_if (not a) place)) z → Contains (map x.Range (place_if (not (a && b)) place)) z
first_not true b place z h = absurd (let k : true ≡ false = no_member z h in cc)
first_not false b place z h = h

second_not : (a b : Bool) (place : ℕ) (z : ConstError) → Contains (map x.Range (place_if (not b) place)) z → Contains (map x.Range (place_if (not (a && b)) place)) z
second_not true b place z h = h
second_not false true place z h = absurd (let k : true ≡ false = no_member z h in cc)
second_not false false place z h = h

module _ (here : Here) (range array : Option Range) (place : ℕ) (z : ConstError) where
  abbrev a : Bool
  a = is_range here.names true range

  abbrev b : Bool
  b = is_range here.names false array

  abbrev rs : List Site
  rs = range_sites here.names range

  abbrev ts : List Site
  ts = range_sites here.names array

  abbrev told_of : List Site → List ConstError
  told_of ss = flat_map (all_faults here.early) ss

  abbrev not_allowed : Bool → List ConstError
  not_allowed c = map x.Range (place_if (not c) place)

  joined : Contains (told_of rs ++ told_of ts) z → Contains (not_allowed (a && b) ++ told_of (rs ++ ts)) z
  joined h = Contains-append_right (not_allowed (a && b)) (told_of (rs ++ ts)) z
      (subst (λ zs. Contains zs z) (sym (flat-join (all_faults here.early) rs ts)) h)

  first_split : Contains (not_allowed a) z ⊎ Contains (told_of rs) z → Contains (ranges_faults here (a && b) (rs ++ ts) place) z
  first_split (inl h) = Contains-append_left (not_allowed (a && b)) (told_of (rs ++ ts)) z (first_not a b place z h)
  first_split (inr h) = joined (Contains-append_left (told_of rs) (told_of ts) z h)

  second_split : Contains (not_allowed b) z ⊎ Contains (told_of ts) z → Contains (ranges_faults here (a && b) (rs ++ ts) place) z
  second_split (inl h) = Contains-append_left (not_allowed (a && b)) (told_of (rs ++ ts)) z (second_not a b place z h)
  second_split (inr h) = joined (Contains-append_right (told_of rs) (told_of ts) z h)

  pub range_told : (signed : Bool) → AreBoundsTold here true range place z → IsSignalAnswer here signed range array place (Err (e.Own z))
  range_told signed h = record { right = tt; wrong = first_split (Contains-append_cases (not_allowed a) (told_of rs) z h.told) }

  pub array_told : (signed : Bool) → AreBoundsTold here false array place z → IsSignalAnswer here signed range array place (Err (e.Own z))
  array_told signed h = record { right = tt; wrong = second_split (Contains-append_cases (not_allowed b) (told_of ts) z h.told) }

both_true : (a b : Bool) → a ≡ true → b ≡ true → (a && b) ≡ true
both_true true b h k = k
both_true false b h k = h

pub signal_made : (here : Here) (signed ranged : Bool) (range array : Option Range) (place : ℕ) (bits : ℕ × ℕ) (elements : Option (ℕ × ℕ)) →
    ranged ≡ is_ranged range → AreBounds here range bits → AreElements here array elements →
    IsSignalAnswer here signed range array place (Ok (y.Signal ranged signed bits elements))
signal_made here signed ranged range array place bits elements r h k = record {
  right = record {
    is = ap (λ c. y.Signal c signed bits elements) r ∙ two (λ (u : ℕ × ℕ) (v : Option (ℕ × ℕ)). y.Signal (is_ranged range) signed u v) _ _ _ _ h.are k.are;
    allowed = both_true (is_range here.names true range) (is_range here.names false array) h.allowed k.allowed;
    clean = clean_both here.early (range_sites here.names range) (range_sites here.names array) h.clean k.clean;
  };
  wrong = tt;
}

-- a declaration of a signal
pub record IsSignalOf (d : Declaration) (signed : Bool) (range array : Option Range) : Type 0 where
  pub symbol : (names : Names) → symbol_of names d ≡ signal_symbol names signed range array
  pub fault : (names : Names) → range_fault names d ≡ place_if (not (both_allowed names range array)) d.name.place
  pub sites : (names : Names) → declaration_sites names d ≡ both_sites names range array
  pub names : (before here there : Names) → names_behind before here there None d ≡ before
  pub count : parameters_in (d ∷ []) ≡ 0

module _ (old there : List Entry) (d : Declaration) (signed : Bool) (range array : Option Range) (t : IsSignalOf d signed range array) where
  made_at : (s : Symbol) → Wherever (names_of old) (λ here. IsSignal here signed range array s) → IsMade old there old None d s
  made_at s w = record {
    symbol = record { at = λ here near. (w.at here near).is ∙ sym (t.symbol here.names) };
    sound = record {
      at = λ here near. record {
        allowed = t.fault here.names ∙ ap (λ c. place_if (not c) d.name.place) (w.at here near).allowed;
        clean = subst (λ ss. AreClean here.early ss) (sym (t.sites here.names)) (w.at here near).clean;
      };
    };
    given_sound = record { at = λ here near. record { at = λ outside far. tt } };
    named = record { at = λ here near. record { at = λ outside far. sym (t.names (names_of old) here.names outside.names) } };
    added = ([], sym (append-none old), sym t.count);
  }

  told_of_it : (here outside : Here) (z : SymbolError) → IsSignalTold here range array d.name.place z → IsToldOf here outside None d z
  told_of_it here outside (e.Own z) h =
      subst (λ zs. Contains zs z) (two (λ us vs. map x.Range us ++ flat_map (all_faults here.early) vs) _ _ _ _ (sym (t.fault here.names))
      (sym (t.sites here.names))) h
  told_of_it here outside (e.Given z) h = absurd h
  told_of_it here outside e.NoMemory h = tt

  not_made_at : (z : SymbolError) → Wherever (names_of old) (λ here. IsSignalTold here range array d.name.place z) → IsNotMade old there None d z
  not_made_at z w = record { told = record { at = λ here near. record { at = λ outside far. told_of_it here outside z (w.at here near) } } }

  pub signal_right : (r : Result Symbol SymbolError) → Wherever (names_of old) (λ here. IsSignalAnswer here signed range array d.name.place r) →
      IfOk r (IsMade old there old None d)
  signal_right (Ok s) w = made_at s (record { at = λ here near. (w.at here near).right })
  signal_right (Err z) w = tt

  pub signal_wrong : (r : Result Symbol SymbolError) → Wherever (names_of old) (λ here. IsSignalAnswer here signed range array d.name.place r) →
      IfErr r (IsNotMade old there None d)
  signal_wrong (Ok s) w = tt
  signal_wrong (Err z) w = not_made_at z (record { at = λ here near. (w.at here near).wrong })

and_true : (a : Bool) → a ≡ (a && true)
and_true true = refl
and_true false = refl

pub is_direction_signal : (n : Ident) (output : Bool) (word : PortWord) (signed : Bool) (range : Option Range) →
    IsSignalOf (record { name = n; thing = Direction output word signed range }) signed range None
is_direction_signal n output word signed range = record {
  symbol = λ names. refl;
  fault = λ names. ap (λ c. place_if (not c) n.place) (and_true (is_range names true range));
  sites = λ names. sym (append-none (range_sites names range));
  names = λ before here there. refl;
  count = refl;
}

pub is_wire_signal : (n : Ident) (signed : Bool) (range : Option Range) → IsSignalOf (record { name = n; thing = Wire signed range }) signed range None
is_wire_signal n signed range = record {
  symbol = λ names. refl;
  fault = λ names. ap (λ c. place_if (not c) n.place) (and_true (is_range names true range));
  sites = λ names. sym (append-none (range_sites names range));
  names = λ before here there. refl;
  count = refl;
}

pub is_reg_signal : (n : Ident) (signed : Bool) (range array : Option Range) →
    IsSignalOf (record { name = n; thing = Reg signed range array }) signed range array
is_reg_signal n signed range array = record {
  symbol = λ names. refl;
  fault = λ names. refl;
  sites = λ names. refl;
  names = λ before here there. refl;
  count = refl;
}
