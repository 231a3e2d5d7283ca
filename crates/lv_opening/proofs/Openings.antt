-- What is known of a scope whose declarations have been read.
use Rattle.std.proofs.Common.{◌≡◌, inl, inr, ℕ, zero, suc, ◌+◌, ◌<◌, arith, true, List, [], ◌∷◌, ◌++◌, map, length, refl, sym, ap, ◌∙◌, subst, Option, Some, None}
use Rattle.std.specs.Prelude.{take, Ok, Err, Result, IfOk, IfErr, flat_map, slice_get, Contains}
use Rattle.std.specs.List.{list_any}
use Rattle.std.proofs.Math.Seq.{take-length}
use Rattle.std.proofs.lemmas.List.Elements.{Contains-append_left, Contains-append_right, Contains-append_cases}
use Rattle.lv_ast.specs.declared.item.Ports.{Ports}
use Rattle.lv_ast.specs.declared.item.Source.{Source}
use Rattle.lv_source.specs.Declarations.{Declaration, declared_as}
use Rattle.lv_source.specs.Faults.{site_faults}
use Rattle.lv_source.specs.Legal.{Kind, UnknownModule, UnknownName, Duplicate, NotConstant, ZeroDivisor, Range, Recursion, Port, WrongKind, ClockUse, Blocking, Nonblocking, TwoDrivers, Undriven, Latch, ReadFirst}
use Rattle.lv_source.specs.Parts.{numbered_from, scope_declared}
use Rattle.lv_source.specs.ScopeRules.{declaration_sites, declared_again, two_ranges, range_fault, port_directions, two_defaults, scope_standing, scope_spots, duplicates, at_items, ports_in_item, ports}
use Rattle.lv_source.specs.Scopes.{Scope, here_at, is_output}
use Rattle.lv_source.specs.Sites.{Spot, spots}
use Rattle.lv_const.specs.declared.consts.Entry.{Entry}
use Rattle.lv_const.specs.Constants.{names_of}
use Rattle.lv_const.specs.Wherever.{AreDeclared}
use Rattle.lv_flat.specs.Signals.{declared}
use Rattle.lv_symbols.specs.Frames.{Frame, IsFrame, AreOnce, AreSoundIn, constants_in, InEach, IsToldIn}
use Rattle.lv_symbols.specs.Making.{symbol_of}
use Rattle.lv_symbols.specs.declared.givens.Givens.{Givens}
use Rattle.lv_symbols.specs.declared.symbol.Symbol.{Symbol}
use Rattle.lv_symbols.specs.declared.symbol.SymbolError.{SymbolError}
use Rattle.lv_symbols.specs.declared.symbol.SymbolError.TheVariants as y
use Rattle.lv_bindings.specs.Made.{AreNarrow}
use Rattle.lv_bindings.specs.Order.{Outside}
use Rattle.lv_bindings.specs.Standing.{IsTable}
use Rattle.lv_entries.specs.Entries.{value_entry}
use Rattle.lv_frames.proofs.Narrow.{all_narrow}
use Rattle.lv_faults.specs.declared.fault.Fault.{Fault}
use Rattle.lv_faults.specs.declared.fault.Fault.TheVariants as f
use Rattle.lv_faults.specs.declared.fault.ScopeError.TheVariants as e
use Rattle.lv_faults.specs.Faults.{is_scope_kind, declaration_faults, IsFaultIn, AreFaultlessDeclarations}
use Rattle.lv_repeats.specs.Whole.{IsWhole, WholeAnswer}
use Rattle.lv_late.specs.Accepted.{IsFaultlessAt}
use Rattle.lv_late.proofs.CleanLaws.{clean-faultless}
use Rattle.lv_opening.specs.declared.opened.Opened.{Opened}
use Rattle.lv_opening.specs.declared.error.OpeningError.{OpeningError}
use Rattle.lv_opening.specs.declared.error.OpeningError.TheVariants as x
use Rattle.lv_opening.specs.Ready.{ReadAnswer, InReady, IsNotOpened, spec_of_symbol, IsReady, HasFrame, IsOpened, IsNamedScope, IsRead, IsReadScope, IsNoReadScope}

-- ---- nothing is told of declarations

abbrev no-fault : Spot → List ℕ
no-fault x = []

no-faults : (xs : List Spot) → flat_map no-fault xs ≡ []
no-faults [] = refl
no-faults (x ∷ xs) = no-faults xs

neither : (xs ys : List ℕ) → xs ≡ [] → ys ≡ [] → xs ++ ys ≡ []
neither xs ys h k = ap (λ us. us ++ ys) h ∙ k

pub record IsNumbered (ds : List Declaration) (j : ℕ) (x : ℕ × Declaration) : Type 0 where
  pub at : ℕ
  pub number : x.0 ≡ j + at
  pub is : slice_get ds at ≡ Some x.1

pub is-numbered : (ds : List Declaration) (j : ℕ) (x : ℕ × Declaration) → Contains (numbered_from j ds) x → IsNumbered ds j x
is-numbered [] j x c = absurd (let h : c.0 < 0 = c.1 in omega arith)
is-numbered (d ∷ ds) j x c = elim (Contains-append_cases ((j, d) ∷ []) (numbered_from (suc j) ds) x c) [
  | inl h ↦ (let q : (j, d) ≡ x = only (j, d) x h in record { at = 0; number = ap (λ (y : ℕ × Declaration). y.0) (sym q) ∙ (omega arith); is = ap (λ (y : ℕ × Declaration). Some y.1) q })
  | inr h ↦ (let n : IsNumbered ds (suc j) x = is-numbered ds (suc j) x h in record { at = suc n.at; number = n.number ∙ (omega arith); is = n.is })
] where
  only : (y x : ℕ × Declaration) → Contains (y ∷ []) x → y ≡ x
  only y x (zero, l, q) = q
  only y x (suc k, l, q) = absurd (let n : suc k < 1 = l in omega arith)

module _ (s : Scope) (x : ℕ × Declaration) (a : IsFaultlessAt s x.0 x.1) (once : declared_again s x ≡ []) (ranges : two_ranges s x.1 ≡ []) where
  abbrev nodes : List Spot
  nodes = spots (here_at s x.0) (declaration_sites s.names x.1)

  pub none-told : (kind : Kind) → is_scope_kind kind ≡ true → declaration_faults kind s x ≡ []
  none-told UnknownModule h = neither (flat_map (site_faults UnknownModule) nodes) [] (no-faults nodes) refl
  none-told UnknownName h = neither (flat_map (site_faults UnknownName) nodes) [] a.nodes.unknown refl
  none-told Duplicate h = neither (flat_map (site_faults Duplicate) nodes) (declared_again s x) (no-faults nodes) once
  none-told NotConstant h = neither (flat_map (site_faults NotConstant) nodes) [] a.nodes.unfixed refl
  none-told ZeroDivisor h = neither (flat_map (site_faults ZeroDivisor) nodes) [] a.nodes.zero refl
  none-told Range h = neither (flat_map (site_faults Range) nodes) (range_fault s.names x.1) a.nodes.range a.allowed
  none-told Recursion h = neither (flat_map (site_faults Recursion) nodes) [] (no-faults nodes) refl
  none-told Port h = neither (flat_map (site_faults Port) nodes) (two_ranges s x.1) (no-faults nodes) ranges
  none-told WrongKind h = cc
  none-told ClockUse h = cc
  none-told Blocking h = cc
  none-told Nonblocking h = cc
  none-told TwoDrivers h = cc
  none-told Undriven h = cc
  none-told Latch h = cc
  none-told ReadFirst h = cc

pub all-faultless : (s : Scope) → IsWhole s → ((k : ℕ) (d : Declaration) → slice_get s.declarations k ≡ Some d → IsFaultlessAt s k d) → AreFaultlessDeclarations s
all-faultless s w h = record {
  each = λ kind x k c. none-told s x (at-number x (is-numbered s.declarations 0 x c)) (w.once x c) (w.ranges x c) kind k;
  directions = w.directions;
} where
  at-number : (x : ℕ × Declaration) → IsNumbered s.declarations 0 x → IsFaultlessAt s x.0 x.1
  at-number x n = subst (λ k. IsFaultlessAt s k x.1) (let q : x.0 ≡ 0 + n.at = n.number in omega arith) (h n.at x.1 n.is)

sound-faultless : (f : Frame) (ds : List Declaration) (k : ℕ) (d : Declaration) → AreSoundIn f ds → slice_get ds k ≡ Some d → IsFaultlessAt f.scope k d
sound-faultless f ds k d h e = record {
  nodes = clean-faultless (here_at f.scope k) (declaration_sites f.scope.names d) (h.each k d e).own.clean;
  allowed = (h.each k d e).own.allowed;
}

-- ---- what is told of a scope as a whole

abbrev pub duplicate : ℕ → Fault
duplicate p = f.Duplicate p

pub duplicate-told : (source : Source) (s : Scope) (p : ℕ) → Contains (duplicates s) p → IsFaultIn source s (e.Fault (f.Duplicate p))
duplicate-told source s p h = Contains-append_right (flat_map (site_faults Duplicate) (scope_spots source s)) (duplicates s) p h

last-two : (xs ys zs : List ℕ) (p : ℕ) → Contains (ys ++ zs) p → Contains ((xs ++ ys) ++ zs) p
last-two xs ys zs p h = elim (Contains-append_cases ys zs p h) [
  | inl k ↦ Contains-append_left (xs ++ ys) zs p (Contains-append_right xs ys p k)
  | inr k ↦ Contains-append_right (xs ++ ys) zs p k
]

port-told : (source : Source) (s : Scope) (p : ℕ) → Contains (port_directions s ++ flat_map (two_ranges s) s.declarations) p → Contains (ports source s) p
port-told source s p h = last-two (at_items (ports_in_item source s) s) (port_directions s) (flat_map (two_ranges s) s.declarations) p h

pub whole-told : (s : Scope) (a : Fault) → WholeAnswer s (Some a) → (source : Source) → IsFaultIn source s (e.Fault a)
whole-told s (f.Duplicate p) h source = duplicate-told source s p
    (Contains-append_left (flat_map (declared_again s) (numbered_from 0 s.declarations)) (flat_map two_defaults (scope_standing s)) p h)
whole-told s (f.Port p) h source = Contains-append_right (flat_map (site_faults Port) (scope_spots source s)) (ports source s) p (port-told source s p h)
whole-told s (f.UnknownModule p) h source = absurd h
whole-told s (f.UnknownName p) h source = absurd h
whole-told s (f.NotConstant p) h source = absurd h
whole-told s (f.ZeroDivisor p) h source = absurd h
whole-told s (f.Range p) h source = absurd h
whole-told s (f.Recursion p) h source = absurd h

-- ---- a scope that is opened

module _ (o : Outside) (base there : List Entry) (g : Givens) (ds : List Declaration) (ports : Ports) (once : AreOnce ds) (ys : List Symbol) where
  pub is-read : (f : Frame) → IsReady o base there g ds ports f → ys ≡ map (symbol_of (constants_in f)) ds → ys ≡ map (symbol_of f.scope.names) ds →
      IsRead o ds ys ports f
  is-read f r h k = record { declarations = r.declarations; ports_are = r.ports_are; here = k; bound = r.bound once ys h }

  pub are-narrow : (z : HasFrame o base there g ds ports) → ((f : Frame) → IsFrame base there g ds f → ys ≡ map (symbol_of f.scope.names) ds) →
      ((f : Frame) → IsFrame base there g ds f → AreSoundIn f ds) → AreNarrow ys
  are-narrow z h k = let r : IsFrame base there g ds z.frame = z.ready.frame once in
      all_narrow z.frame ds ys z.ready.declarations (h z.frame r) (k z.frame r)

pub is-opened : (base consts there : List Entry) (g : Givens) (ds : List Declaration) (first : ℕ) (f : Frame) (r : Opened) → IsFrame base there g ds f →
    AreSoundIn f ds → AreDeclared (names_of consts) (here_at f.scope (length ds)) → IsReadScope base consts ds first f r →
    ((k : ℕ) (d : Declaration) → slice_get ds k ≡ Some d → IsFaultlessAt f.scope k d) → IsOpened base first f r
is-opened base consts there g ds first f r z sound last w h =
    let q : f.scope.declarations ≡ ds = z.declarations in
    record {
      scope = z.scope;
      signals = w.signals;
      table = w.table;
      new = consts;
      entries = w.entries ∙ ap (λ xs. base ++ flat_map (value_entry consts) xs) (sym q);
      constants = subst (λ xs. AreDeclared (names_of consts) (here_at f.scope (length xs))) (sym q) last;
      before = z.before;
      outputs = λ name. w.outputs name ∙ ap (λ xs. list_any is_output (declared_as name xs)) (sym q);
      whole = w.whole;
      sound = subst (AreSoundIn f) (sym q) sound;
      faultless = all-faultless f.scope w.whole (subst (λ xs. (k : ℕ) (d : Declaration) → slice_get xs k ≡ Some d → IsFaultlessAt f.scope k d) (sym q) h);
    }

pub is-read-scope : (o : Outside) (base consts : List Entry) (ds : List Declaration) (ys : List Symbol) (ports : Ports) (first : ℕ) (f : Frame) (r : Opened) →
    IsRead o ds ys ports f → IsNamedScope o base consts ds ys first r → IsWhole f.scope → IsReadScope base consts ds first f r
is-read-scope o base consts ds ys ports first f r z n w =
    let q : map (λ k. declared k.signal) r.signals.items ≡ scope_declared f.scope = n.signals.at f z.bound in
    record { signals = q; table = subst (λ xs. IsTable first xs r.table f) q (n.table.at f z.bound); entries = n.entries; outputs = n.outputs; whole = w }

-- ---- answers

module _ (o : Outside) (base consts : List Entry) (ds : List Declaration) (ys : List Symbol) (ports : Ports) (first : ℕ) where
  whole-at : (a : Option Fault) → ((s : Scope) → s.declarations ≡ ds → ys ≡ map (symbol_of s.names) s.declarations → s.ports ≡ ports → WholeAnswer s a) →
      (f : Frame) → IsRead o ds ys ports f → WholeAnswer f.scope a
  whole-at a h f z = h f.scope z.declarations (z.here ∙ ap (map (symbol_of f.scope.names)) (sym z.declarations)) z.ports_are

  pub read-wrong : (b : Option Fault) (a : Fault) → b ≡ Some a →
      ((s : Scope) → s.declarations ≡ ds → ys ≡ map (symbol_of s.names) s.declarations → s.ports ≡ ports → WholeAnswer s b) →
      ReadAnswer o base consts ds ys ports first (Err (x.Fault a))
  read-wrong b a e h = record { right = λ f z. tt; wrong = λ f z. whole-told f.scope a (subst (WholeAnswer f.scope) e (whole-at b h f z)) }

  pub read-right : (b : Option Fault) → b ≡ None →
      ((s : Scope) → s.declarations ≡ ds → ys ≡ map (symbol_of s.names) s.declarations → s.ports ≡ ports → WholeAnswer s b) →
      (r : Opened) → IsNamedScope o base consts ds ys first r → ReadAnswer o base consts ds ys ports first (Ok r)
  read-right b e h r n = record {
    right = λ f z. is-read-scope o base consts ds ys ports first f r z n (subst (WholeAnswer f.scope) e (whole-at b h f z));
    wrong = λ f z. tt;
  }

module _ (o : Outside) (base there : List Entry) (g : Givens) (ds : List Declaration) (ports : Ports) (first : ℕ) where
  pub twice : (p : ℕ) → ((s : Scope) → s.declarations ≡ ds → Contains (duplicates s) p) → InReady o base there g ds ports (λ f. IsNotOpened f (x.Fault (duplicate p)))
  twice p h = record { at = λ f r source. duplicate-told source f.scope p (h f.scope r.declarations) }

  not-opened : (z : SymbolError) (f : Frame) → IsToldIn f f.scope.declarations z → IsNotOpened f (spec_of_symbol z)
  not-opened (y.Own q) f t = t
  not-opened (y.Given q) f t = t
  not-opened y.NoMemory f t = tt

  pub told : AreOnce ds → (z : SymbolError) → InEach base there g ds (λ f. IsToldIn f ds z) → InReady o base there g ds ports (λ f. IsNotOpened f (spec_of_symbol z))
  told once z h = record { at = λ f r. not-opened z f (subst (λ xs. IsToldIn f xs z) (sym r.declarations) (h.at f (r.frame once))) }

  module _ (once : AreOnce ds) (consts : List Entry) (ys : List Symbol) (named : InEach base there g ds (λ f. ys ≡ map (symbol_of (constants_in f)) ds))
      (here : InEach base there g ds (λ f. ys ≡ map (symbol_of f.scope.names) ds)) (sound : InEach base there g ds (λ f. AreSoundIn f ds)) where
    pub narrow : HasFrame o base there g ds ports → AreNarrow ys
    narrow z = are-narrow o base there g ds ports once ys z here.at sound.at

    read-at : (f : Frame) → IsReady o base there g ds ports f → IsRead o ds ys ports f
    read-at f r = is-read o base there g ds ports once ys f r (named.at f (r.frame once)) (here.at f (r.frame once))

    pub opened : InEach base there g ds (λ f. AreDeclared (names_of consts) (here_at f.scope (length ds))) → (q : Result Opened OpeningError) →
        ReadAnswer o base consts ds ys ports first q → IfOk q (λ r. InReady o base there g ds ports (λ f. IsOpened base first f r))
    opened last (Ok r) a = record {
      at = λ f z. is-opened base consts there g ds first f r (z.frame once) (sound.at f (z.frame once)) (last.at f (z.frame once))
          (a.right f (read-at f z)) (λ k d. sound-faultless f ds k d (sound.at f (z.frame once)));
    }
    opened last (Err e) a = tt

    not-read : (z : OpeningError) (f : Frame) → IsNoReadScope f z → IsNotOpened f z
    not-read (x.Fault a) f h = h
    not-read (x.Own q) f h = absurd h
    not-read (x.Given q) f h = absurd h
    not-read x.NoMemory f h = h

    pub not-opened-by : (q : Result Opened OpeningError) → ReadAnswer o base consts ds ys ports first q →
        IfErr q (λ z. InReady o base there g ds ports (λ f. IsNotOpened f z))
    not-opened-by (Ok r) a = tt
    not-opened-by (Err z) a = record { at = λ f r. not-read z f (a.wrong f (read-at f r)) }

-- ---- as the calls have it

pub base-same : (base es : List Entry) → es ≡ take (length base) base → es ≡ base
base-same base es h = h ∙ take-length base

pub moved : (base es there : List Entry) (g : Givens) (ds : List Declaration) (H : Frame → Type 0) → es ≡ base → InEach es there g ds H → InEach base there g ds H
moved base es there g ds H e h = subst (λ xs. InEach xs there g ds H) e h
