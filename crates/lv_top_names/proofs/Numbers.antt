-- The first signal with a path, by its number.
use Rattle.std.proofs.Common.{◌≡◌, ℕ, zero, suc, ◌+◌, ◌<◌, Bool, true, false, ◌&&◌, List, [], ◌∷◌, ◌++◌, length, drop, get_or, map, refl, sym, ap, ◌∙◌, arith, subst, Option, Some, None, drop-cons, Ok, Err, Result}
use Rattle.std.specs.Prelude.{bytes_eq, find, filter, cond, flat_map, if◌then◌else◌, Contains, IfOk, IfErr}
use Rattle.lv_ast.specs.declared.expr.Path.{Path}
use Rattle.lv_ast.specs.Names.{Name, path_text, has_no_steps}
use Rattle.lv_source.specs.Names.{Declared, Sort, Input, Net, Variable, Clock, Constant, Index, Other, no_declaration, known, is_signal_sort, is_constant_sort}
use Rattle.lv_source.specs.Constants.{early_constants, early_or_none}
use Rattle.lv_source.specs.Parts.{is_signal, is_declared_sort}
use Rattle.lv_source.specs.Sites.{Site, Spot, spots}
use Rattle.lv_source.proofs.Facts.{some_same}
use Rattle.lv_source.proofs.Tests.{or-left}
use Rattle.lv_flat.specs.Signals.{Signals, signal_at}
use Rattle.lv_ast.specs.declared.expr.Expr.{Expr}
use Rattle.lv_const.specs.declared.consts.Entry.{Entry}
use Rattle.lv_source.specs.NodeRules.{unknown_name, zero_divisor, out_of_range}
use Rattle.lv_resolve.specs.declared.error.ResolveError.{ResolveError}
use Rattle.lv_resolve.specs.declared.error.ResolveError.TheVariants as v
use Rattle.lv_resolve.specs.declared.resolved.Resolved.{Resolved}
use Rattle.lv_resolve.specs.Resolved.{ResolveAnswer, IsToldOf}
use Rattle.lv_resolve.specs.Places.{AreNames}
use Rattle.lv_top_names.specs.Resolved.{IsInTop, IsFaultInTop}
use Rattle.lv_settles.specs.Rules.{signals_in}
use Rattle.lv_top_names.specs.TopNames.{number_from, number_of, here_in, sites_in}

module _ (t : Name) where
  abbrev named : Declared → Bool
  named x = bytes_eq x.path t

  -- the signal with this number is the first that is named so
  pub record IsFirst (S : Signals) (j k : ℕ) : Type 0 where
    pub at : ℕ
    pub number : k ≡ j + at
    pub found : find named (filter is_signal S) ≡ Some (signal_at S at)
    pub signal : is_signal (signal_at S at) ≡ true

  first-later : (x : Declared) (S : Signals) (j k : ℕ) → IsFirst S (suc j) k → find named (filter is_signal (x ∷ S)) ≡ find named (filter is_signal S) → IsFirst (x ∷ S) j k
  first-later x S j k f e = record { at = suc f.at; number = (let n : k ≡ suc j + f.at = f.number in omega arith); found = e ∙ f.found; signal = f.signal }

  first-here : (x : Declared) (S : Signals) (j k : ℕ) → j ≡ k → find named (filter is_signal (x ∷ S)) ≡ Some x → is_signal x ≡ true → IsFirst (x ∷ S) j k
  first-here x S j k e f s = record { at = 0; number = omega arith; found = f; signal = s }

  first-of : (S : Signals) (j k : ℕ) → number_from j S t ≡ Some k → IsFirst S j k
  first-of [] j k h = cc
  first-of (x ∷ S) j k h = elim (is_signal x) as (λ b. is_signal x ≡ b → (if b && named x then Some j else number_from (suc j) S t) ≡ Some k → IsFirst (x ∷ S) j k) [
    | false ↦ λ e g. first-later x S j k (first-of S (suc j) k g) (ap (λ b. find named (cond b (x ∷ filter is_signal S) (filter is_signal S))) e)
    | true ↦ λ e g. elim (named x) as (λ b. named x ≡ b → (if b then Some j else number_from (suc j) S t) ≡ Some k → IsFirst (x ∷ S) j k) [
      | true ↦ λ d y. first-here x S j k (some_same j k y) (ap (λ b. find named (cond b (x ∷ filter is_signal S) (filter is_signal S))) e ∙ ap (λ b. cond b (Some x) (find named (filter is_signal S))) d) e
      | false ↦ λ d y. first-later x S j k (first-of S (suc j) k y)
          (ap (λ b. find named (cond b (x ∷ filter is_signal S) (filter is_signal S))) e ∙ ap (λ b. cond b (Some x) (find named (filter is_signal S))) d)
    ] refl g
  ] refl h

  none-of : (S : Signals) (j : ℕ) → number_from j S t ≡ None → find named (filter is_signal S) ≡ None
  none-of [] j h = refl
  none-of (x ∷ S) j h = elim (is_signal x) as (λ b. (if b && named x then Some j else number_from (suc j) S t) ≡ None → find named (cond b (x ∷ filter is_signal S) (filter is_signal S)) ≡ None) [
    | false ↦ λ g. none-of S (suc j) g
    | true ↦ λ g. elim (named x) as (λ b. (if b then Some j else number_from (suc j) S t) ≡ None → cond b (Some x) (find named (filter is_signal S)) ≡ None) [
      | true ↦ λ y. cc
      | false ↦ λ y. none-of S (suc j) y
    ] g
  ] h

  -- ---- signal by signal

  pub number-step : (S : Signals) (k : ℕ) (x : Declared) → k < length S → signal_at S k ≡ x →
      number_from k (drop k S) t ≡ (if is_signal x && bytes_eq x.path t then Some k else number_from (k + 1) (drop (k + 1) S) t)
  number-step S k x l e =
      let n : suc k ≡ k + 1 = omega arith in
      ap (λ xs. number_from k xs t) (drop-cons S k no_declaration l) ∙
      (ap (λ y. if is_signal y && bytes_eq y.path t then Some k else number_from (suc k) (drop (suc k) S) t) e ∙
      ap (λ m. if is_signal x && bytes_eq x.path t then Some k else number_from m (drop m S) t) n)

-- ---- the names at the top

no-constant : (s : Sort) (d : Declared) → d.sort ≡ s → is_signal_sort s ≡ true → (early : Bool) → early_or_none early (Some d) ≡ None
no-constant Input d e h early = ap (λ z. if is_constant_sort z && early then Some d else None) e
no-constant Net d e h early = ap (λ z. if is_constant_sort z && early then Some d else None) e
no-constant Variable d e h early = ap (λ z. if is_constant_sort z && early then Some d else None) e
no-constant Clock d e h early = cc
no-constant (Constant x) d e h early = cc
no-constant (Index g) d e h early = cc
no-constant Other d e h early = cc

no-early : (ds : List Declared) (q : Declared → Bool) (early : Bool) → early_or_none early (find q (filter is_signal ds)) ≡ None
no-early [] q early = refl
no-early (x ∷ xs) q early = elim (is_signal x) as (λ b. is_signal x ≡ b → early_or_none early (find q (cond b (x ∷ filter is_signal xs) (filter is_signal xs))) ≡ None) [
  | false ↦ λ e. no-early xs q early
  | true ↦ λ e. elim (q x) as (λ b. early_or_none early (cond b (Some x) (find q (filter is_signal xs))) ≡ None) [
    | true ↦ no-constant x.sort x refl e early
    | false ↦ no-early xs q early
  ]
] refl

same-if : (b : Bool) → (if b then None else None) ≡ (let none : Option Declared = None in none)
same-if true = refl
same-if false = refl

pub are-names : (S : Signals) → AreNames S (number_of S) [] [] (here_in (signals_in S))
are-names S = record {
  found = λ p k h. (let f : IsFirst (path_text p) S 0 k = first-of (path_text p) S 0 k h in
      f.found ∙ ap (λ i. Some (signal_at S i)) (let n : k ≡ 0 + f.at = f.number in let m : f.at ≡ k = omega arith in m));
  declared = λ p k h. (let f : IsFirst (path_text p) S 0 k = first-of (path_text p) S 0 k h in
      let m : f.at ≡ k = (let n : k ≡ 0 + f.at = f.number in omega arith) in
      or-left _ _ (ap (λ i. is_signal (signal_at S i)) (sym m) ∙ f.signal));
  absent = λ p h. ap (λ o. is_declared_sort (known o).sort) (none-of (path_text p) S 0 h);
  constants = record { same = λ p. same-if (has_no_steps p) ∙ sym (no-early S (λ x. bytes_eq x.path (path_text p)) true) };
  ahead = record { same = λ p. same-if (has_no_steps p) ∙ sym (no-early S (λ x. bytes_eq x.path (path_text p)) false) };
}

-- ---- faults of nodes

pub over-spots : (early : Path → Bool) (f : Site → List ℕ) (xs : List Site) → flat_map (λ (x : Spot). f x.site) (map (λ (x : Site). let s : Spot = record { early = early; site = x } in s) xs) ≡ flat_map f xs
over-spots early f [] = refl
over-spots early f (x ∷ xs) = ap (λ ys. f x ++ ys) (over-spots early f xs)

-- ---- the answer on an expression

pub are-names-of : (S : Signals) (es : List Entry) → es ≡ [] → AreNames S (number_of S) es es (here_in (signals_in S))
are-names-of S es e = subst (λ (xs : List Entry). AreNames S (number_of S) xs xs (here_in (signals_in S))) (sym e) (are-names S)

module _ (S : Signals) (x : Expr) where
  abbrev early : Path → Bool
  early p = false

  abbrev sites : List Site
  sites = sites_in (signals_in S) x

  pub in-top : (r : Result Resolved ResolveError) → ResolveAnswer S (here_in (signals_in S)) 0 x r → IfOk r (λ (z : Resolved). IsInTop S x z.expr)
  in-top (Ok z) h = record {
    same = h.right.same;
    good = h.right.good;
    unknown = sym (over-spots early unknown_name sites) ∙ h.right.faultless.unknown;
    unfixed = h.right.faultless.unfixed;
    zero = sym (over-spots early zero_divisor sites) ∙ h.right.faultless.zero;
    range = sym (over-spots early out_of_range sites) ∙ h.right.faultless.range;
  }
  in-top (Err e) h = tt

  told-in : (e : ResolveError) → IsToldOf (spots (here_in (signals_in S)) sites) e → IsFaultInTop S x e
  told-in (v.UnknownName p) h = subst (λ (xs : List ℕ). Contains xs p) (over-spots early unknown_name sites) h
  told-in (v.NotConstant p) h = h
  told-in (v.ZeroDivisor p) h = subst (λ (xs : List ℕ). Contains xs p) (over-spots early zero_divisor sites) h
  told-in (v.Range p) h = subst (λ (xs : List ℕ). Contains xs p) (over-spots early out_of_range sites) h
  told-in v.NoMemory h = tt

  pub told-top : (r : Result Resolved ResolveError) → ResolveAnswer S (here_in (signals_in S)) 0 x r → IfErr r (IsFaultInTop S x)
  told-top (Ok z) h = tt
  told-top (Err e) h = told-in e h.wrong
