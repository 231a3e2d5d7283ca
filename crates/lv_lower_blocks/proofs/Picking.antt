-- Tables of which a value chooses.
use Rattle.std.proofs.Common.{◌≡◌, ℕ, ◌==◌, Bool, true, false, not, List, length, refl, sym, ◌∙◌, ap, arith}
use Rattle.std.specs.Prelude.{if◌then◌else◌, slice_index}
use Rattle.std.proofs.lemmas.Bool.Decides.{nat_tests}
use Rattle.lv_bits.specs.Words.{Bits}
use Rattle.lv_netlist.specs.Net.{Net}
use Rattle.lv_source.specs.Names.{Valuation}
use Rattle.lv_flat.specs.Cells.{Cell, cell_at}
use Rattle.lv_values.specs.declared.value.Value.{Value}
use Rattle.lv_values.specs.declared.value.Value.TheVariants.{Known, Node}
use Rattle.lv_values.specs.Worlds.{World, Obeys, Grows, number}
use Rattle.lv_values.proofs.Growth.{grows-refl, grows-trans, obeys-before}
use Rattle.lv_lower_exprs.specs.Tables.{IsTable, Shows, value_at}
use Rattle.lv_lower_blocks.specs.Rewritten.{AreAlike, Merges, MayBeTable, Picks}
use Rattle.lv_lower_blocks.specs.Cased.{Chosen}
use Rattle.lv_lower_blocks.proofs.Rewriting.{width-later}

pub picks-other : (net : Net) (t : Value) (x : Bits) (a b : List ℕ) → AreAlike net a b → t ≡ Known x → x.value ≡ 0 → Picks net net t a b b
picks-other net t x a b h e z = record {
  grows = grows-refl net;
  count = sym h.count;
  within = λ i lt. h.right i lt;
  widths = λ i lt. sym (h.widths i lt);
  is = λ w o i lt.
      let n : number w t ≡ 0 = ap (number w) e ∙ z in
      sym (ap (λ m. if m == 0 then value_at w (slice_index b i) else value_at w (slice_index a i)) n);
}

nonzero : {A : Type 0} (n : ℕ) (p q : A) → (n ≡ 0 → ⊥) → q ≡ (if n == 0 then p else q)
nonzero n p q ne = elim (n == 0) as (λ c. (n == 0) ≡ c → q ≡ (if c then p else q)) [ true ↦ λ h. absurd (ne (grind (arith, nat_tests))) | false ↦ λ h. refl ] refl

pub picks-same : (net : Net) (t : Value) (x : Bits) (a b : List ℕ) → AreAlike net a b → t ≡ Known x → (x.value ≡ 0 → ⊥) → Picks net net t a b a
picks-same net t x a b h e z = record {
  grows = grows-refl net;
  count = refl;
  within = λ i lt. h.left i lt;
  widths = λ i lt. refl;
  is = λ w o i lt. nonzero (number w t) (value_at w (slice_index b i)) (value_at w (slice_index a i)) (λ k. z (sym (ap (number w) e) ∙ k));
}

-- chosen by a node, in a graph that is longer before and behind
pub picks-merged : (old mid last new : Net) (t : Value) (k V : ℕ) (a b c : List ℕ) → AreAlike old a b → t ≡ Node k V → Grows old mid → Merges mid last k a b c → Grows last new → Picks old new t a b c
picks-merged old mid last new t k V a b c h e g j l = record {
  grows = grows-trans old mid new g (grows-trans mid last new j.grows l);
  count = j.count;
  within = λ i lt. omega (arith, j.within i (omega arith) lt, l.more);
  widths = λ i lt.
      width-later last new (slice_index c i) l (j.within i (omega arith) lt) ∙ (j.widths i (omega arith) lt ∙ width-later old mid (slice_index a i) g (h.left i lt));
  is = λ w o i lt.
      j.is w (obeys-before last new w l o) i (omega arith) lt ∙ ap (λ n. if n == 0 then value_at w (slice_index b i) else value_at w (slice_index a i)) (sym (ap (number w) e));
}

if-shown : (u : Bool) (p q : Valuation) (name : List ℕ) (z x y : ℕ) → z ≡ (if u then y else x) → x ≡ p name → y ≡ q name → z ≡ (if not u then p else q) name
if-shown true p q name z x y h i j = h ∙ j
if-shown false p q name z x y h i j = h ∙ i

module _ {cells : List Cell} where
  picked-table : {old new : Net} {t : Value} {a b c : List ℕ} → Picks old new t a b c → IsTable old cells a → IsTable new cells c
  picked-table p h = record {
    count = p.count ∙ h.count;
    within = λ i lt. p.within i (omega (arith, h.count, lt));
    widths = λ i lt. p.widths i (omega (arith, h.count, lt)) ∙ h.widths i lt;
  }

  picked-shows : {old new : Net} {t : Value} {a b c : List ℕ} (w : World) (p q : Valuation) → Picks old new t a b c → length a ≡ length cells → Obeys new w → Shows w cells a p → Shows w cells b q →
      Shows w cells c (if not (number w t == 0) then p else q)
  picked-shows {t = t} {a = a} {b = b} {c = c} w p q k len o s r = record {
    is = λ i lt.
        if-shown (number w t == 0) p q (cell_at cells i).name (value_at w (slice_index c i)) (value_at w (slice_index a i)) (value_at w (slice_index b i))
        (k.is w o i (omega (arith, len, lt))) (s.is i lt) (r.is i lt);
  }

  pub chosen-of : {old new : Net} {t : Value} {xn xd yn yd rn rd : List ℕ} → IsTable old cells xn → MayBeTable old cells xd → Picks old new t xn yn rn → Picks old new t xd yd rd →
      Chosen old new cells xn xd yn yd rn rd t
  chosen-of h m p q = record {
    grows = p.grows;
    table = picked-table p h;
    count = q.count;
    rest = record { is = λ l. picked-table q (m.is (omega (arith, q.count, l))) };
    shows = λ w a c o s r. picked-shows w a c p h.count o s r;
    leaves = λ w a c o l s r. picked-shows w a c q (m.is l).count o s r;
  }
