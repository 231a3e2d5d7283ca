-- Walks that follow one another.
use Rattle.std.proofs.Common.{◌≡◌, ℕ, Bool, true, false, not, ◌||◌, List, [], ◌∷◌, ◌++◌, append_assoc, refl, sym, ◌∙◌, ap, subst, inl, inr}
use Rattle.std.specs.Prelude.{cond}
use Rattle.std.specs.List.{list_any}
use Rattle.std.proofs.lemmas.List.Elements.{filter-append}
use Rattle.lv_source.specs.Places.{Bit, same_bit, has_bit}
use Rattle.lv_source.specs.Summary.{Summary, without, nothing_done, looked_at, then_summary, all_summaries}
use Rattle.lv_source.proofs.Tests.{or-split}
use Rattle.lv_source.proofs.Summaries.{any-join, append-none}
use Rattle.lv_flat.specs.Signals.{Signals}
use Rattle.lv_spans.specs.declared.span.Span.{Span}
use Rattle.lv_spans.specs.Sets.{Cell, Masks}
use Rattle.lv_spans.specs.Domain.{is_bit, bit_of, IsSetOf}
use Rattle.lv_paths.specs.Bits.{holds, exposes, IsExposed}
use Rattle.lv_paths.specs.Ways.{IsThere, Walks}
use Rattle.lv_paths.proofs.Lists.{or-false, or-shift, filter-all}
use Rattle.lv_paths.proofs.Masks.{logged-none, logged-then}

-- ---- sets of bits

pub set-same : (S : Signals) (bits : List Bit) (f g : Cell → ℕ → Bool) → ((q : Cell) (i : ℕ) → is_bit S q i ≡ true → g q i ≡ f q i) → IsSetOf S bits f → IsSetOf S bits g
set-same S bits f g e h = record { same = λ q i t. e q i t ∙ h.same q i t; inside = h.inside }

-- with more bits
pub set-more : (S : Signals) (D more : List Bit) (f g : Cell → ℕ → Bool) → ((q : Cell) (i : ℕ) → is_bit S q i ≡ true → g q i ≡ (f q i || has_bit more (bit_of S q i))) →
    ((b : Bit) → has_bit more b ≡ true → IsThere S b) → IsSetOf S D f → IsSetOf S (D ++ more) g
set-more S D more f g e there h = record {
  same = λ q i t. e q i t ∙ (ap (λ u. u || has_bit more (bit_of S q i)) (h.same q i t) ∙ sym (any-join (same_bit (bit_of S q i)) D more));
  inside = λ b t. elim (or-split (has_bit D b) (has_bit more b) (sym (any-join (same_bit b) D more) ∙ t)) [ inl a ↦ h.inside b a | inr a ↦ there b a ];
}

-- ---- what is not of two lists

-- one bit more, where the lists behind it are the same
with-bit : (as' bs : List Bit) (c : Bit) (xs ys zs : List Bit) (u v : Bool) → has_bit as' c ≡ u → xs ≡ ys → ys ≡ without as' zs →
    cond (not (u || v)) (c ∷ xs) xs ≡ without as' (cond (not v) (c ∷ zs) zs)
with-bit as' bs c xs ys zs true true h e f = e ∙ f
with-bit as' bs c xs ys zs false true h e f = e ∙ f
with-bit as' bs c xs ys zs true false h e f = e ∙ (f ∙ sym (ap (λ u. cond (not u) (c ∷ without as' zs) (without as' zs)) h))
with-bit as' bs c xs ys zs false false h e f = ap (λ ls. c ∷ ls) (e ∙ f) ∙ sym (ap (λ u. cond (not u) (c ∷ without as' zs) (without as' zs)) h)

pub without-both : (as' bs cs : List Bit) → without (as' ++ bs) cs ≡ without as' (without bs cs)
without-both as' bs [] = refl
without-both as' bs (c ∷ cs) =
    ap (λ u. cond (not u) (c ∷ without (as' ++ bs) cs) (without (as' ++ bs) cs)) (any-join (same_bit c) as' bs) ∙
    with-bit as' bs c (without (as' ++ bs) cs) (without as' (without bs cs)) (without bs cs) (has_bit as' c) (has_bit bs c) refl (without-both as' bs cs) refl

-- what is exposed of two lists, the second behind some bits
pub exposes-both : (W D a b c : List Bit) → exposes W D (a ++ without b c) ≡ (exposes W D a || exposes W (D ++ b) c)
exposes-both W D a b c =
    ap (list_any (has_bit W)) (filter-append (λ x. not (has_bit D x)) a (without b c)) ∙
    (any-join (has_bit W) (without D a) (without D (without b c)) ∙ ap (λ xs. list_any (has_bit W) (without D a) || list_any (has_bit W) xs) (sym (without-both D b c)))

-- ---- walks

module _ (S : Signals) (w : Masks) where
  pub walks-is : {before after : Masks} {old new : List Span} {already exposed : Bool} (p r : Summary) → p ≡ r → Walks S w before after old new already exposed r →
      Walks S w before after old new already exposed p
  walks-is {before} {after} {old} {new} {already} {exposed} p r e h = subst (λ (s : Summary). Walks S w before after old new already exposed s) (sym e) h

  -- a summary with the same bits
  pub walks-as : {before after : Masks} {old new : List Span} {already exposed : Bool} (p r : Summary) → r.sure ≡ p.sure → r.exposed ≡ p.exposed →
      Walks S w before after old new already exposed p → Walks S w before after old new already exposed r
  walks-as {before} {after} {old} {new} {already} {exposed} p r e f h = record {
    done = λ q i t. h.done q i t ∙ ap (λ bs. holds before q i || has_bit bs (bit_of S q i)) (sym e);
    inside = λ b t. h.inside b (ap (λ bs. has_bit bs b) (sym e) ∙ t);
    exposed = subst (λ bs. IsExposed S w before already exposed bs) (sym f) h.exposed;
    logged = h.logged;
  }

  pub walks-none : (m : Masks) (x : List Span) (already : Bool) → Walks S w m m x x already already nothing_done
  walks-none m x already = record {
    done = λ q i t. sym (or-false (holds m q i));
    inside = λ b t. cc;
    exposed = λ W D hw hd. sym (or-false already);
    logged = logged-none m x;
  }

  pub walks-look : (m : Masks) (x : List Span) (already exposed : Bool) (bits : List Bit) → IsExposed S w m already exposed bits → Walks S w m m x x already exposed (looked_at bits)
  walks-look m x already exposed bits h = record {
    done = λ q i t. sym (or-false (holds m q i));
    inside = λ b t. cc;
    exposed = h;
    logged = logged-none m x;
  }

  pub walks-then : {a b c : Masks} {x y z : List Span} {u v t : Bool} (p r : Summary) → Walks S w a b x y u v p → Walks S w b c y z v t r → Walks S w a c x z u t (then_summary p r)
  walks-then {a} {b} {c} {x} {y} {z} {u} {v} {t} p r g h = record {
    done = λ q i k.
        h.done q i k ∙ (ap (λ s. s || has_bit r.sure (bit_of S q i)) (g.done q i k) ∙
        (or-shift (holds a q i) (has_bit p.sure (bit_of S q i)) (has_bit r.sure (bit_of S q i)) ∙ ap (λ s. holds a q i || s) (sym (any-join (same_bit (bit_of S q i)) p.sure r.sure))));
    inside = λ d k. elim (or-split (has_bit p.sure d) (has_bit r.sure d) (sym (any-join (same_bit d) p.sure r.sure) ∙ k)) [ inl e ↦ g.inside d e | inr e ↦ h.inside d e ];
    exposed = λ W D hw hd.
        h.exposed W (D ++ p.sure) hw (set-more S D p.sure (holds a) (holds b) g.done g.inside hd) ∙
        (ap (λ s. s || exposes W (D ++ p.sure) r.exposed) (g.exposed W D hw hd) ∙
        (or-shift u (exposes W D p.exposed) (exposes W (D ++ p.sure) r.exposed) ∙ ap (λ s. u || s) (sym (exposes-both W D p.exposed p.sure r.exposed))));
    logged = logged-then g.logged h.logged;
  }

  -- a look and then a walk
  pub walks-behind : {a b : Masks} {x y : List Span} {u v t : Bool} (bits : List Bit) (p : Summary) → IsExposed S w a u v bits → Walks S w a b x y v t p →
      Walks S w a b x y u t (then_summary (looked_at bits) p)
  walks-behind {a} {b} {x} {y} {u} {v} {t} bits p e h = walks-then (looked_at bits) p (walks-look a x u v bits e) h

-- ---- statements of a block

record Ends (ps : List Summary) (p : Summary) : Type 0 where
  sure : (all_summaries (ps ++ p ∷ [])).sure ≡ (all_summaries ps).sure ++ p.sure
  exposed : (all_summaries (ps ++ p ∷ [])).exposed ≡ (all_summaries ps).exposed ++ without (all_summaries ps).sure p.exposed

ends : (ps : List Summary) (p : Summary) → Ends ps p
ends [] p = record { sure = append-none p.sure; exposed = append-none p.exposed ∙ sym (filter-all p.exposed) }
ends (a ∷ ps) p =
    let r : Ends ps p = ends ps p in
    let rest : Summary = all_summaries ps in
    record {
      sure = ap (λ bs. a.sure ++ bs) r.sure ∙ sym (append_assoc a.sure rest.sure p.sure);
      exposed = ap (λ bs. a.exposed ++ without a.sure bs) r.exposed ∙
          (ap (λ bs. a.exposed ++ bs) (filter-append (λ x. not (has_bit a.sure x)) rest.exposed (without rest.sure p.exposed)) ∙
          (ap (λ bs. a.exposed ++ (without a.sure rest.exposed ++ bs)) (sym (without-both a.sure rest.sure p.exposed)) ∙
          sym (append_assoc a.exposed (without a.sure rest.exposed) (without (a.sure ++ rest.sure) p.exposed))));
    }

-- one statement more
pub walks-next : (S : Signals) (w : Masks) {a b c : Masks} {x y z : List Span} {u v t : Bool} (ps qs : List Summary) (p : Summary) → qs ≡ ps ++ p ∷ [] →
    Walks S w a b x y u v (all_summaries ps) → Walks S w b c y z v t p → Walks S w a c x z u t (all_summaries qs)
walks-next S w {a} {b} {c} {x} {y} {z} {u} {v} {t} ps qs p e g h =
    let r : Ends ps p = ends ps p in
    subst (λ (ls : List Summary). Walks S w a c x z u t (all_summaries ls)) (sym e)
    (walks-as S w (then_summary (all_summaries ps) p) (all_summaries (ps ++ p ∷ [])) r.sure r.exposed (walks-then S w (all_summaries ps) p g h))
