-- A number in a constant position: what is answered of it, from the answer on the constants that are declared before.
use Rattle.std.proofs.Common.{◌≡◌, ℕ, max, Bool, true, false, List, [], ◌∷◌, ◌++◌, ap, ◌∙◌, sym, subst, refl, flat_map, map, arith, inl, inr, ◌⊎◌, Ok, Err, None, Some, Option}
use Rattle.std.specs.List.{Contains, All}
use Rattle.std.proofs.lemmas.List.Elements.{All-contains, Contains-append_right, Contains-append_cases}
use Rattle.lv_ast.specs.declared.expr.Path.{Path}
use Rattle.lv_ast.specs.declared.expr.Expr.{Expr}
use Rattle.lv_ast.specs.declared.expr.Expr.TheOpen.{Expr-F}
use Rattle.lv_source.specs.Names.{Here, Declared, Sort, known, is_constant_sort, Input, Net, Variable, Clock, Constant, Index, Other}
use Rattle.lv_source.specs.Values.{nowhere, own_value}
use Rattle.lv_source.specs.Meaning.{Reading, read_expr, own_width, value_of}
use Rattle.lv_source.specs.Sites.{Site, Spot, Step, Value, Walk, walk, spots, expr_sites, fixed_sites, first_place}
use Rattle.lv_source.specs.NodeRules.{unknown_name, zero_divisor, out_of_range, is_early, is_unreadable, can_be_read}
use Rattle.lv_source.specs.Faults.{site_faults}
use Rattle.lv_source.specs.Legal.{UnknownName, NotConstant, ClockUse}
use Rattle.lv_source.specs.Legal as kind
use Rattle.lv_source.specs.Constants.{early_or_none}
use Rattle.lv_source.specs.Parts.{is_declared_sort}
use Rattle.lv_const.specs.declared.consts.Entry.{Entry}
use Rattle.lv_const.specs.declared.error.ConstError.{ConstError}
use Rattle.lv_const.specs.declared.error.ConstError.TheVariants as y
use Rattle.lv_const.specs.Constants.{names_of}
use Rattle.lv_const.specs.Faults.{no_value, all_faults, told_faults}
use Rattle.lv_const.specs.Answers as const
use Rattle.lv_const.specs.Refusals.{IsFault, IsFormed}
use Rattle.lv_const.specs.Refusals as refused
use Rattle.lv_const.proofs.Numbers.{split}
use Rattle.lv_const.proofs.Refusals.{found, Found, gathered, told-fault, sound-formed}
use Rattle.lv_const.proofs.Stands.{Stands, walk-stands}
use Rattle.lv_const.proofs.WalkReads.{walk-reads}
use Rattle.lv_scopes.specs.declared.number.Number.{Number}
use Rattle.lv_scopes.specs.Numbers.{IsNumber}
use Rattle.lv_flat.specs.Signals.{Signals}
use Rattle.lv_resolve.specs.Places.{AreNames}
use Rattle.lv_resolve.specs.Late.{late_name, late_by, first_late, or_else, paths_in}
use Rattle.lv_resolve.specs.Forms.{flaws, unfixed_at, Told, FixedAnswer}
use Rattle.lv_resolve.specs.declared.error.ResolveError.{ResolveError}
use Rattle.lv_resolve.specs.declared.error.ResolveError.TheVariants as x
use Rattle.lv_resolve.proofs.Covers.{no-divisors, nowhere-in, in-same}
use Rattle.lv_resolve.proofs.Zeros.{single, each-empty, all-empty, made}
use Rattle.lv_resolve.proofs.Steady.{constant-reads}
use Rattle.lv_resolve.proofs.LateLaws.{are-bound, late-told, late-never}

-- ---- from spots to sites

pub spotted : (here : Here) (f : Spot → List ℕ) (ss : List Site) → flat_map f (spots here ss) ≡ flat_map (λ s. f (record { early = here.early; site = s })) ss
spotted here f [] = refl
spotted here f (s ∷ ss) = ap (λ ns. f (record { early = here.early; site = s }) ++ ns) (spotted here f ss)

flaw-free : (here : Here) (s : Site) → unknown_name s ≡ [] → unfixed_at here s ≡ [] → out_of_range s ≡ [] → flaws here s ≡ []
flaw-free here s h i j = ap (λ z. (z ++ unfixed_at here s) ++ out_of_range s) h ∙ (ap (λ z. z ++ out_of_range s) i ∙ j)

pub formed-clean : (here : Here) (sites : List Site) → IsFormed (spots here sites) → flat_map (flaws here) sites ≡ []
formed-clean here sites h = all-empty (flaws here) sites (λ s c. flaw-free here s
    (each-empty unknown_name sites s (sym (spotted here (site_faults UnknownName) sites) ∙ h.unknown) c)
    (each-empty (unfixed_at here) sites s (sym (spotted here (site_faults NotConstant) sites) ∙ h.unfixed) c)
    (each-empty out_of_range sites s (sym (spotted here (site_faults kind.Range) sites) ∙ h.range) c))

-- ---- a number

module _ (here : Here) (e : Expr) where
  abbrev w : Walk
  w = walk here.names e

  same : w.shown.reading ≡ read_expr here.names e
  same = walk-reads here.names e

  at-zero : (n : ℕ) → max 0 n ≡ n
  at-zero n = omega arith

  same-sites : expr_sites true here.names 0 e ≡ fixed_sites w
  same-sites = ap (λ n. w.sites Value (Some (first_place w.shown)) n w.shown.reading.meaning.signed) (at-zero w.shown.reading.meaning.width)

  pub fixed-right : (n : Number) → IsNumber here 0 e n → FixedAnswer here w (Ok n)
  fixed-right n h =
      let c : w.shown.reading.constant ≡ true = ap (λ (r : Reading). r.constant) same ∙ h.constant in
      let f : IsFormed (spots here (fixed_sites w)) = subst (λ ss. IsFormed (spots here ss)) same-sites (sound-formed here (expr_sites true here.names 0 e) h.clean.sound) in
      let g : n.word.width ≡ own_width here.names e = h.width ∙ at-zero (own_width here.names e) in record {
        right = record {
          value = h.value nowhere ∙ (ap (λ k. value_of here.names e k n.signed nowhere) g ∙ (ap (λ b. value_of here.names e (own_width here.names e) b nowhere) h.signed ∙
              ap (λ (r : Reading). own_value r.meaning nowhere) (sym same)));
          width = g ∙ ap (λ (r : Reading). r.meaning.width) (sym same);
          signed = h.signed ∙ ap (λ (r : Reading). r.meaning.signed) (sym same);
          constant = c;
          reads = constant-reads here.names e c;
          cover = record {
            clean = λ W T. formed-clean here (fixed_sites w) f;
            clocks = λ W T. sym (spotted here (site_faults ClockUse) (fixed_sites w)) ∙ f.clock;
            divisors = no-divisors here.names 0;
            waiting = λ k. refl;
            none = λ W T k. subst (λ ss. flat_map zero_divisor ss ≡ []) same-sites h.clean.divides.none;
            some = λ W T p k. absurd (nowhere-in p k);
          };
        };
        wrong = tt;
      }

  told-sites : (q : ConstError) → const.Told here.early (expr_sites true here.names 0 e) q → const.Told here.early (fixed_sites w) q
  told-sites q h = subst (λ ss. const.Told here.early ss q) same-sites h

  stands : All (Stands here.names) (fixed_sites w)
  stands = walk-stands here.names e (first_place w.shown) w.shown.reading.meaning.width w.shown.reading.meaning.signed

  fault : (q : ConstError) → const.Told here.early (expr_sites true here.names 0 e) q → IsFault here (spots here (fixed_sites w)) q
  fault q h = told-fault here (fixed_sites w) q stands (told-sites q h)

  of-range : (p : ℕ) → IsFault here (spots here (fixed_sites w)) (y.Range p) → Contains (flat_map out_of_range (fixed_sites w)) p
  of-range p (refused.range h) = in-same _ _ p (spotted here (site_faults kind.Range) (fixed_sites w)) h

  of-zero : (p : ℕ) → IsFault here (spots here (fixed_sites w)) (y.ZeroDivisor p) → Contains (flat_map zero_divisor (fixed_sites w)) p
  of-zero p (refused.zero h) = in-same _ _ p (spotted here (site_faults kind.ZeroDivisor) (fixed_sites w)) h

  pub fixed-range : (p : ℕ) (q : ConstError) → q ≡ y.Range p → const.Told here.early (expr_sites true here.names 0 e) q → FixedAnswer here w (Err (x.Range p))
  fixed-range p q k t = let h = subst (const.Told here.early (expr_sites true here.names 0 e)) k t in record { right = tt; wrong = record { found = of-range p (fault (y.Range p) h) } }

  pub fixed-zero : (p : ℕ) (q : ConstError) → q ≡ y.ZeroDivisor p → const.Told here.early (expr_sites true here.names 0 e) q → FixedAnswer here w (Err (x.ZeroDivisor p))
  fixed-zero p q k t = let h = subst (const.Told here.early (expr_sites true here.names 0 e)) k t in record { right = tt; wrong = record { found = of-zero p (fault (y.ZeroDivisor p) h) } }

-- ---- an error on a name

module _ (S : Signals) (find : Path → Option ℕ) (all early : List Entry) (here : Here) (ok : AreNames S find all early here) (e : Expr) where
  pub fixed-late : (q : ResolveError) → Some q ≡ first_late (late_name find all early) (paths_in e) → FixedAnswer here (walk here.names e) (Err q)
  fixed-late q h =
      let w : Walk = walk here.names e in record {
        right = tt;
        wrong = late-told S find (names_of all) (names_of early) here (are-bound S find all early here ok) e (first_place w.shown) w.shown.reading.meaning.width
            w.shown.reading.meaning.signed q h;
      }

  pub fixed-never : (p : ℕ) (q : ConstError) (r : ResolveError) → None ≡ first_late (late_name find all early) (paths_in e) → q ≡ y.NoValue p →
      const.Told here.early (expr_sites true here.names 0 e) q → FixedAnswer here (walk here.names e) (Err r)
  fixed-never p q r h k u =
      let w : Walk = walk here.names e in
      let t : const.Told here.early (expr_sites true here.names 0 e) (y.NoValue p) = subst (const.Told here.early (expr_sites true here.names 0 e)) k u in
      absurd (late-never S find (names_of all) (names_of early) here (are-bound S find all early here ok) e (first_place w.shown) w.shown.reading.meaning.width
      w.shown.reading.meaning.signed p h (told-sites here e (y.NoValue p) t))
