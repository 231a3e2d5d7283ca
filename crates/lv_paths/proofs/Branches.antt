-- Ways through an `if` or a `case`, each of which is walked and undone.
use Rattle.std.proofs.Common.{◌≡◌, ℕ, Bool, true, false, not, ◌&&◌, ◌||◌, List, [], ◌∷◌, ◌++◌, Option, Some, None, unwrap_or, refl, sym, ◌∙◌, ap, subst, inl, inr}
use Rattle.std.specs.List.{list_any, list_all}
use Rattle.std.proofs.lemmas.List.Elements.{filter-append}
use Rattle.lv_source.specs.Places.{Bit, has_bit}
use Rattle.lv_source.specs.Summary.{Summary, without, nothing_done, any_summary, no_match_summary}
use Rattle.lv_source.proofs.Tests.{or-split, or-left, and-left, and-right}
use Rattle.lv_source.proofs.Summaries.{any-join, all-join, filter-has}
use Rattle.lv_flat.specs.Signals.{Signals}
use Rattle.lv_spans.specs.declared.span.Span.{Span}
use Rattle.lv_spans.specs.Sets.{Cell, Masks}
use Rattle.lv_spans.specs.Domain.{is_bit, bit_of}
use Rattle.lv_paths.specs.Bits.{holds, cells_have, IsLogged, remains, exposes}
use Rattle.lv_paths.specs.Ways.{Walks, AreShared, IsFork, first_shared}
use Rattle.lv_paths.proofs.Lists.{or-false, or-shift, and-true, and-false, no-way}
use Rattle.lv_paths.proofs.Sequences.{set-same}

-- ---- one of some summaries

and-turn : (a b : Bool) → (a && b) ≡ (b && a)
and-turn true true = refl
and-turn true false = refl
and-turn false true = refl
and-turn false false = refl

any-sure : (p : Summary) (ps : List Summary) (b : Bit) → has_bit (any_summary (p ∷ ps)).sure b ≡ list_all (λ (s : Summary). has_bit s.sure b) (p ∷ ps)
any-sure p [] b = sym (and-true (has_bit p.sure b))
any-sure p (r ∷ ps) b = filter-has (has_bit p.sure) (any_summary (r ∷ ps)).sure b ∙ ap (λ u. has_bit p.sure b && u) (any-sure r ps b)

any-exposed : (W D : List Bit) (ps : List Summary) → exposes W D (any_summary ps).exposed ≡ list_any (λ (s : Summary). exposes W D s.exposed) ps
any-exposed W D [] = refl
any-exposed W D (p ∷ []) = sym (or-false (exposes W D p.exposed))
any-exposed W D (p ∷ r ∷ ps) =
    ap (list_any (has_bit W)) (filter-append (λ x. not (has_bit D x)) p.exposed (any_summary (r ∷ ps)).exposed) ∙
    (any-join (has_bit W) (without D p.exposed) (without D (any_summary (r ∷ ps)).exposed) ∙ ap (λ u. exposes W D p.exposed || u) (any-exposed W D (r ∷ ps)))

-- with the way that does nothing
with-none : (can : Bool) (W D : List Bit) (ps : List Summary) →
    list_any (λ (s : Summary). exposes W D s.exposed) (ps ++ no_match_summary can) ≡ list_any (λ (s : Summary). exposes W D s.exposed) ps
with-none true W D ps = any-join (λ (s : Summary). exposes W D s.exposed) ps (nothing_done ∷ []) ∙ or-false (list_any (λ (s : Summary). exposes W D s.exposed) ps)
with-none false W D ps = any-join (λ (s : Summary). exposes W D s.exposed) ps [] ∙ or-false (list_any (λ (s : Summary). exposes W D s.exposed) ps)

sure-all : (can : Bool) (ps : List Summary) (b : Bit) →
    list_all (λ (s : Summary). has_bit s.sure b) (ps ++ no_match_summary can) ≡ (not can && list_all (λ (s : Summary). has_bit s.sure b) ps)
sure-all true ps b = all-join (λ (s : Summary). has_bit s.sure b) ps (nothing_done ∷ []) ∙ and-false (list_all (λ (s : Summary). has_bit s.sure b) ps)
sure-all false ps b = all-join (λ (s : Summary). has_bit s.sure b) ps [] ∙ and-true (list_all (λ (s : Summary). has_bit s.sure b) ps)

-- the bits that all ways do
abbrev all_sure : Bool → List Summary → Bit → Bool
all_sure can ps b = not can && list_all (λ (s : Summary). has_bit s.sure b) ps

shared-sure : (can : Bool) (p : Summary) (ps : List Summary) (b : Bit) → has_bit (any_summary ((p ∷ ps) ++ no_match_summary can)).sure b ≡ all_sure can (p ∷ ps) b
shared-sure can p ps b = any-sure p (ps ++ no_match_summary can) b ∙ sure-all can (p ∷ ps) b

-- ---- Booleans

undone-same : (h m g i : Bool) → m ≡ (h || i) → (h && i) ≡ false → g ≡ (m && not i) → g ≡ h
undone-same true m g true e f k = cc
undone-same true m g false e f k = k ∙ (ap (λ u. u && true) e)
undone-same false m g true e f k = k ∙ and-false m
undone-same false m g false e f k = k ∙ (ap (λ u. u && true) e)

-- what is new of the first way
first-new : (h m i s : Bool) → m ≡ (h || i) → (h && i) ≡ false → m ≡ (h || s) → i ≡ (not h && (true && (s && true)))
first-new true m true s e f g = cc
first-new true m false s e f g = refl
first-new false m i true e f g = sym e ∙ g
first-new false m i false e f g = sym e ∙ g

-- what is shared with one more
next-new : (x h m s c a : Bool) → m ≡ (h || s) → x ≡ (not h && (c && a)) → (x && m) ≡ (not h && (c && (a && s)))
next-new x true m s c a e f = ap (λ u. u && m) f
next-new x false m s true true e f = ap (λ u. u && m) f ∙ e
next-new x false m s true false e f = ap (λ u. u && m) f
next-new x false m s false a e f = ap (λ u. u && m) f

settled : (h x c : Bool) → x ≡ (not h && c) → (h || x) ≡ (h || c)
settled true x c e = refl
settled false x c e = e

not-empty : (ps : List Summary) (p : Summary) → ps ++ p ∷ [] ≡ [] → ⊥
not-empty [] p h = cc
not-empty (r ∷ ps) p h = cc

-- ---- a way more

module _ (S : Signals) (w before : Masks) (already : Bool) (can : Bool) where
  pub fork-start : (now : Masks) (exposed : Bool) → now ≡ before → exposed ≡ already → IsFork S w before now already exposed (first_shared can) can []
  fork-start now exposed e f = record {
    kept = λ q i. ap (λ m. holds m q i) e;
    exposed = λ W D hw hd. f ∙ sym (or-false already);
    inside = λ b t. cc;
    shared = by can;
  }
    where
      by : (c : Bool) → AreShared S before (first_shared c) c []
      by true = (λ e. refl, λ q i t. sym (and-false (not (holds before q i))))
      by false = (refl, refl)

  module _ (now mid left : Masks) (log rest : List Span) (exposed v : Bool) (shared : Option (List Span)) (ps : List Summary) (p : Summary)
      (f : IsFork S w before now already exposed shared can ps) (start : List Span) (none : start ≡ []) (g : Walks S w now mid start log exposed v p)
      (undone : (q : Cell) (i : ℕ) → holds left q i ≡ (holds mid q i && not (cells_have log q i)))
      (stays : (q : Cell) (i : ℕ) → cells_have rest q i ≡ remains mid log shared q i) where
    log-is : log ≡ g.logged.more
    log-is = g.logged.same ∙ ap (λ xs. xs ++ g.logged.more) none

    whole : (q : Cell) (i : ℕ) → holds mid q i ≡ (holds before q i || cells_have log q i)
    whole q i = g.logged.all q i ∙ (ap (λ u. u || cells_have g.logged.more q i) (f.kept q i) ∙ ap (λ xs. holds before q i || cells_have xs q i) (sym log-is))

    apart : (q : Cell) (i : ℕ) → (holds before q i && cells_have log q i) ≡ false
    apart q i = ap (λ u. u && cells_have log q i) (sym (f.kept q i)) ∙ (ap (λ xs. holds now q i && cells_have xs q i) log-is ∙ g.logged.apart q i)

    sure : (q : Cell) (i : ℕ) → is_bit S q i ≡ true → holds mid q i ≡ (holds before q i || has_bit p.sure (bit_of S q i))
    sure q i t = g.done q i t ∙ ap (λ u. u || has_bit p.sure (bit_of S q i)) (f.kept q i)

    shares : (o : Option (List Span)) → shared ≡ o → AreShared S before (Some rest) can (ps ++ p ∷ [])
    shares None e = (
      λ h. absurd (not-empty ps p h),
      λ q i t.
          let k : AreShared S before None can ps = subst (λ (o : Option (List Span)). AreShared S before o can ps) e f.shared in
          let i_new : cells_have rest q i ≡ cells_have log q i = stays q i ∙ ap (λ (o : Option (List Span)). remains mid log o q i) e in
          i_new ∙ (first-new (holds before q i) (holds mid q i) (cells_have log q i) (has_bit p.sure (bit_of S q i)) (whole q i) (apart q i) (sure q i t) ∙
          (ap (λ u. not (holds before q i) && (not u && (has_bit p.sure (bit_of S q i) && true))) (sym k.1) ∙
          ap (λ (ls : List Summary). not (holds before q i) && (not can && list_all (λ (s : Summary). has_bit s.sure (bit_of S q i)) (ls ++ p ∷ []))) (sym k.0))),
    )
    shares (Some xs) e = (
      λ h. absurd (not-empty ps p h),
      λ q i t.
          let k : AreShared S before (Some xs) can ps = subst (λ (o : Option (List Span)). AreShared S before o can ps) e f.shared in
          let b : Bit = bit_of S q i in
          let i_new : cells_have rest q i ≡ (cells_have xs q i && holds mid q i) = stays q i ∙ ap (λ (o : Option (List Span)). remains mid log o q i) e in
          i_new ∙ (next-new (cells_have xs q i) (holds before q i) (holds mid q i) (has_bit p.sure b) (not can) (list_all (λ (s : Summary). has_bit s.sure b) ps) (sure q i t) (k.1 q i t) ∙
          ap (λ u. not (holds before q i) && (not can && u)) (sym (all-join (λ (s : Summary). has_bit s.sure b) ps (p ∷ []) ∙
          ap (λ u. list_all (λ (s : Summary). has_bit s.sure b) ps && u) (and-true (has_bit p.sure b))))),
    )

    pub fork-more : IsFork S w before left already v (Some rest) can (ps ++ p ∷ [])
    fork-more = record {
      kept = λ q i. undone-same (holds before q i) (holds mid q i) (holds left q i) (cells_have log q i) (whole q i) (apart q i) (undone q i);
      exposed = λ W D hw hd.
          let E = λ (s : Summary). exposes W D s.exposed in
          g.exposed W D hw (set-same S D (holds before) (holds now) (λ q i t. f.kept q i) hd) ∙
          (ap (λ u. u || E p) (f.exposed W D hw hd) ∙ (or-shift already (list_any E ps) (E p) ∙
          ap (λ u. already || u) (sym (any-join E ps (p ∷ []) ∙ ap (λ u. list_any E ps || u) (or-false (E p))))));
      inside = λ b t. elim (or-split (list_any (λ (s : Summary). has_bit s.sure b) ps) (has_bit p.sure b)
          (sym (any-join (λ (s : Summary). has_bit s.sure b) ps (p ∷ []) ∙ ap (λ u. list_any (λ (s : Summary). has_bit s.sure b) ps || u) (or-false (has_bit p.sure b))) ∙ t)) [
            | inl h ↦ f.inside b h
            | inr h ↦ g.inside b h
          ];
      shared = shares shared refl;
    }

  pub fork-as : {now : Masks} {exposed : Bool} {shared : Option (List Span)} (ps qs : List Summary) → ps ≡ qs → IsFork S w before now already exposed shared can qs →
      IsFork S w before now already exposed shared can ps
  fork-as {now} {exposed} {shared} ps qs e h = subst (λ (ls : List Summary). IsFork S w before now already exposed shared can ls) (sym e) h

  -- ---- behind all ways

  module _ (now after : Masks) (old new : List Span) (exposed : Bool) (shared : Option (List Span)) (ps : List Summary) (r : Summary)
      (f : IsFork S w before now already exposed shared can ps) (sure : r.sure ≡ (any_summary (ps ++ no_match_summary can)).sure)
      (shown : r.exposed ≡ (any_summary (ps ++ no_match_summary can)).exposed)
      (done : (q : Cell) (i : ℕ) → holds after q i ≡ (holds now q i || cells_have (unwrap_or shared []) q i)) (logged : IsLogged now after old new) where
    none-sure : (c : Bool) (b : Bit) → has_bit (any_summary ([] ++ no_match_summary c)).sure b ≡ false
    none-sure true b = refl
    none-sure false b = refl

    all-of : (b : Bit) (p : Summary) (qs : List Summary) → ps ≡ p ∷ qs → has_bit (any_summary (ps ++ no_match_summary can)).sure b ≡ all_sure can ps b
    all-of b p qs e = subst (λ (ls : List Summary). has_bit (any_summary (ls ++ no_match_summary can)).sure b ≡ all_sure can ls b) (sym e) (shared-sure can p qs b)

    -- without any way nothing is sure, and nothing is shared
    by-none : (o : Option (List Span)) → shared ≡ o → (q : Cell) (i : ℕ) → is_bit S q i ≡ true → (ls : List Summary) → ps ≡ ls →
        (holds before q i || cells_have (unwrap_or o []) q i) ≡ (holds before q i || has_bit (any_summary (ps ++ no_match_summary can)).sure (bit_of S q i))
    by-none None e q i t [] h = ap (λ u. holds before q i || u) (sym (ap (λ (ls : List Summary). has_bit (any_summary (ls ++ no_match_summary can)).sure (bit_of S q i)) h ∙ none-sure can (bit_of S q i)))
    by-none None e q i t (p ∷ qs) h =
        let k : AreShared S before None can ps = subst (λ (o : Option (List Span)). AreShared S before o can ps) e f.shared in
        absurd (let z : p ∷ qs ≡ [] = sym h ∙ k.0 in cc)
    by-none (Some xs) e q i t [] h =
        let k : AreShared S before (Some xs) can ps = subst (λ (o : Option (List Span)). AreShared S before o can ps) e f.shared in
        let b : Bit = bit_of S q i in
        let none : cells_have xs q i ≡ (not (holds before q i) && false) =
        k.1 q i t ∙ ap (λ u. not (holds before q i) && (not u && list_all (λ (s : Summary). has_bit s.sure b) ps)) (k.0 h) in
        settled (holds before q i) (cells_have xs q i) false none ∙
        ap (λ u. holds before q i || u) (sym (ap (λ (ls : List Summary). has_bit (any_summary (ls ++ no_match_summary can)).sure b) h ∙ none-sure can b))
    by-none (Some xs) e q i t (p ∷ qs) h =
        let k : AreShared S before (Some xs) can ps = subst (λ (o : Option (List Span)). AreShared S before o can ps) e f.shared in
        settled (holds before q i) (cells_have xs q i) (all_sure can ps (bit_of S q i)) (k.1 q i t) ∙ ap (λ u. holds before q i || u) (sym (all-of (bit_of S q i) p qs h))

    first-sure : (b : Bit) (ls : List Summary) → ps ≡ ls → has_bit (any_summary (ps ++ no_match_summary can)).sure b ≡ true → list_any (λ (s : Summary). has_bit s.sure b) ps ≡ true
    first-sure b [] h t = absurd (no-way (has_bit (any_summary (ps ++ no_match_summary can)).sure b) t
        (ap (λ (ls : List Summary). has_bit (any_summary (ls ++ no_match_summary can)).sure b) h ∙ none-sure can b))
    first-sure b (p ∷ qs) h t =
        let all : all_sure can ps b ≡ true = sym (all-of b p qs h) ∙ t in
        let every : list_all (λ (s : Summary). has_bit s.sure b) (p ∷ qs) ≡ true =
        ap (list_all (λ (s : Summary). has_bit s.sure b)) (sym h) ∙ and-right (not can) (list_all (λ (s : Summary). has_bit s.sure b) ps) all in
        ap (list_any (λ (s : Summary). has_bit s.sure b)) h ∙
        or-left (has_bit p.sure b) (list_any (λ (s : Summary). has_bit s.sure b) qs) (and-left (has_bit p.sure b) (list_all (λ (s : Summary). has_bit s.sure b) qs) every)

    pub fork-walks : Walks S w before after old new already exposed r
    fork-walks = record {
      done = λ q i t.
          done q i ∙ (ap (λ u. u || cells_have (unwrap_or shared []) q i) (f.kept q i) ∙ (by-none shared refl q i t ps refl ∙
          ap (λ bs. holds before q i || has_bit bs (bit_of S q i)) (sym sure)));
      inside = λ b t. f.inside b (first-sure b ps refl (ap (λ bs. has_bit bs b) (sym sure) ∙ t));
      exposed = λ W D hw hd.
          f.exposed W D hw hd ∙ ap (λ u. already || u) (sym (ap (exposes W D) shown ∙ (any-exposed W D (ps ++ no_match_summary can) ∙ with-none can W D ps)));
      logged = record {
        more = logged.more;
        same = logged.same;
        all = λ q i. logged.all q i ∙ ap (λ u. u || cells_have logged.more q i) (f.kept q i);
        apart = λ q i. ap (λ u. u && cells_have logged.more q i) (sym (f.kept q i)) ∙ logged.apart q i;
      };
    }
