-- Loops that make a word from its lowest bit on: what is done, and then what is left, are the whole.
use Rattle.std.proofs.Common.{◌≡◌, ℕ, ◌+◌, ◌<◌, ◌≤◌, inl, inr, Bool, if◌then◌else◌, List, [], ◌∷◌, ◌++◌, length, map, drop, refl, sym, ◌∙◌, ap, subst, arith, add-one, suc, append-nil, length-append, append_assoc, get_or}
use Rattle.std.proofs.Math.Seq.{drop-cons, get_or-append_seam}
use Rattle.std.proofs.Math.ListN.{get_or-append, get_or-map}
use Rattle.std.proofs.lemmas.List.{map-append, length-map, drop_all}
use Rattle.std.proofs.lemmas.Bool.{cases_lt}
use Rattle.lv_aig.specs.declared.edge.Edge.{Edge}
use Rattle.lv_aig.specs.Edges.{Nodes, edge_bit, IsValuation, Grows, Gives, zero_edge}
use Rattle.lv_aig.proofs.Graphs.{grows_refl, grows_trans, valuation_back}
use Rattle.lv_circuits.specs.Words.{edge_at, edge_bits, AllBelow, GivesBits, zip_bits, fold_bits, xor, sum_bits, carry_out}

pub below_more : (n m : ℕ) (es : List Edge) → n ≤ m → AllBelow n es → AllBelow m es
below_more n m es h p = λ i lt. omega (arith, p i lt)

pub below_end : (n : ℕ) (es : List Edge) (e : Edge) → AllBelow n es → e.node < n → AllBelow n (es ++ e ∷ [])
below_end n es e p h i lt =
    elim (cases_lt i (length es)) [
      | inl less ↦ subst (λ (x : Edge). x.node < n) (sym (get_or-append es (e ∷ []) zero_edge i less)) (p i less)
      | inr ge ↦
          let q : length es ≡ i = omega (arith, length-append es (e ∷ [])) in
          subst (λ (j : ℕ). (edge_at (es ++ e ∷ []) j).node < n) q (subst (λ (x : Edge). x.node < n) (sym (get_or-append_seam es e [] zero_edge)) h)
    ]

-- so far: the edges made, and what is left
pub record Partly (old now : Nodes) (out : List Edge) (rest whole : (ℕ → Bool) → List Bool) : Type 0 where
  pub grows : Grows old now
  pub edges : AllBelow (length now) out
  pub is : (v : ℕ → Bool) → IsValuation now v → edge_bits v out ++ rest v ≡ whole v

pub partly_first : (old : Nodes) (whole : (ℕ → Bool) → List Bool) → Partly old old [] whole whole
partly_first old whole = record { grows = grows_refl old; edges = λ i lt. absurd (omega arith); is = λ v h. refl }

pub partly_step : (old now new : Nodes) (out : List Edge) (e : Edge) (rest whole rest' : (ℕ → Bool) → List Bool) (f : (ℕ → Bool) → Bool) → Partly old now out rest whole → Gives now new e f → ((v : ℕ → Bool) → IsValuation new v → rest v ≡ f v ∷ rest' v) → Partly old new (out ++ e ∷ []) rest' whole
partly_step old now new out e rest whole rest' f p g next = record {
  grows = grows_trans old now new p.grows g.grows;
  edges = below_end (length new) out e (below_more (length now) (length new) out g.grows.more p.edges) g.edge;
  is = λ v h.
      let a : edge_bits v (out ++ e ∷ []) ++ rest' v ≡ (edge_bits v out ++ edge_bit v e ∷ []) ++ rest' v = ap (λ (bs : List Bool). bs ++ rest' v) (map-append (edge_bit v) out (e ∷ [])) in
      let b : (edge_bits v out ++ edge_bit v e ∷ []) ++ rest' v ≡ edge_bits v out ++ (edge_bit v e ∷ rest' v) = append_assoc (edge_bits v out) (edge_bit v e ∷ []) (rest' v) in
      let c : edge_bit v e ∷ rest' v ≡ rest v = ap (λ (b : Bool). b ∷ rest' v) (g.is v h) ∙ sym (next v h) in
      a ∙ (b ∙ (ap (λ (bs : List Bool). edge_bits v out ++ bs) c ∙ p.is v (valuation_back now new v g.grows h)));
}

pub partly_last : (old now : Nodes) (out : List Edge) (rest whole : (ℕ → Bool) → List Bool) → Partly old now out rest whole → ((v : ℕ → Bool) → rest v ≡ []) → GivesBits old now out whole
partly_last old now out rest whole p none = record {
  grows = p.grows;
  edges = p.edges;
  is = λ v h. sym (append-nil (edge_bits v out)) ∙ (ap (λ (bs : List Bool). edge_bits v out ++ bs) (sym (none v)) ∙ p.is v h);
}

-- the bits from i on: the bit of the edge at i, and those after it
pub bits_drop : (v : ℕ → Bool) (es : List Edge) (i : ℕ) → i < length es → drop i (edge_bits v es) ≡ edge_bit v (edge_at es i) ∷ drop (i + 1) (edge_bits v es)
bits_drop v es i h =
    let lt : i < length (edge_bits v es) = omega (arith, length-map es (edge_bit v)) in
    let at : get_or (edge_bits v es) i (edge_bit v zero_edge) ≡ edge_bit v (edge_at es i) = get_or-map (edge_bit v) es i zero_edge in
    rw add-one (drop-cons (edge_bits v es) i (edge_bit v zero_edge) lt ∙ ap (λ (b : Bool). b ∷ drop (suc i) (edge_bits v es)) at)

pub bits_drop_end : (v : ℕ → Bool) (es : List Edge) (i : ℕ) → length es ≤ i → drop i (edge_bits v es) ≡ []
bits_drop_end v es i h = drop_all i (edge_bits v es) (omega (arith, length-map es (edge_bit v)))

pub zip_step : (f : Bool → Bool → Bool) (v : ℕ → Bool) (a b : List Edge) (i : ℕ) (x y : Edge) → i < length a → i < length b → x ≡ edge_at a i → y ≡ edge_at b i → zip_bits f (drop i (edge_bits v a)) (drop i (edge_bits v b)) ≡ f (edge_bit v x) (edge_bit v y) ∷ zip_bits f (drop (i + 1) (edge_bits v a)) (drop (i + 1) (edge_bits v b))
zip_step f v a b i x y ha hb p q = rw (bits_drop v a i ha, bits_drop v b i hb, p, q) refl

pub map_step : (f : Bool → Bool) (v : ℕ → Bool) (a : List Edge) (i : ℕ) (x : Edge) → i < length a → x ≡ edge_at a i → map f (drop i (edge_bits v a)) ≡ f (edge_bit v x) ∷ map f (drop (i + 1) (edge_bits v a))
map_step f v a i x h p = rw (bits_drop v a i h, p) refl

pub fold_step : (f : Bool → Bool → Bool) (b : Bool) (v : ℕ → Bool) (a : List Edge) (i : ℕ) (x : Edge) → i < length a → x ≡ edge_at a i → fold_bits f b (drop i (edge_bits v a)) ≡ fold_bits f (f b (edge_bit v x)) (drop (i + 1) (edge_bits v a))
fold_step f b v a i x h p = rw (bits_drop v a i h, p) refl

pub sum_step : (c : Bool) (v : ℕ → Bool) (a b : List Edge) (i : ℕ) (x y : Edge) → i < length a → i < length b → x ≡ edge_at a i → y ≡ edge_at b i → sum_bits c (drop i (edge_bits v a)) (drop i (edge_bits v b)) ≡ xor (xor (edge_bit v x) (edge_bit v y)) c ∷ sum_bits (if xor (edge_bit v x) (edge_bit v y) then c else edge_bit v x) (drop (i + 1) (edge_bits v a)) (drop (i + 1) (edge_bits v b))
sum_step c v a b i x y ha hb p q = rw (bits_drop v a i ha, bits_drop v b i hb, p, q) refl

pub carry_step : (c : Bool) (v : ℕ → Bool) (a b : List Edge) (i : ℕ) (x y : Edge) → i < length a → i < length b → x ≡ edge_at a i → y ≡ edge_at b i → carry_out c (drop i (edge_bits v a)) (drop i (edge_bits v b)) ≡ carry_out (if xor (edge_bit v x) (edge_bit v y) then c else edge_bit v x) (drop (i + 1) (edge_bits v a)) (drop (i + 1) (edge_bits v b))
carry_step c v a b i x y ha hb p q = rw (bits_drop v a i ha, bits_drop v b i hb, p, q) refl
