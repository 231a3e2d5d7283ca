-- A copy of a graph, node by node.
use Rattle.std.proofs.Common.{◌≡◌, ℕ, suc, ◌+◌, ◌<◌, inl, inr, List, [], ◌∷◌, ◌++◌, length, map, take, get_or, slice_index, refl, sym, ◌∙◌, ap, subst}
use Rattle.std.proofs.Common.{arith, add-one, length-append}
use Rattle.std.proofs.Math.ListN.{get_or-append}
use Rattle.std.proofs.Math.Seq.{get_or-append_seam, take-suc}
use Rattle.std.proofs.lemmas.Bool.{cases_lt}
use Rattle.std.proofs.lemmas.List.{get_or-map, map-append}
use Rattle.lv_bits.specs.Words.{Bits}
use Rattle.lv_bits.specs.Values.{result_width}
use Rattle.lv_netlist.specs.declared.node.Node.{Node}
use Rattle.lv_netlist.specs.declared.node.Node.TheVariants.{Input, Reg, Const, Un, Bin, Mux, Slice, Cat, Ext}
use Rattle.lv_netlist.specs.Net.{Net, node_at, width_at, node_width, IsNode, IsRight, IsInner}
use Rattle.lv_netlist.specs.Run.{values_of, values_from, node_bits, bits_at}
use Rattle.lv_netlist.proofs.Words.{values_from-snoc}
use Rattle.lv_unroll.specs.Wires.{word_in, Extends, GivesWord, AreLike}
use Rattle.lv_unroll.specs.Copies.{moved_node, AreStates, AreInputs, Copies}
use Rattle.lv_unroll.proofs.Growing.{extends_trans}

pub is_inner : (n : Node) → ((i : ℕ) → n ≡ Input i → ⊥) → ((i : ℕ) → n ≡ Reg i → ⊥) → IsInner n
is_inner (Input i) p q = p i refl
is_inner (Reg i) p q = q i refl
is_inner (Const x) p q = tt
is_inner (Un op a) p q = tt
is_inner (Bin op a b signed) p q = tt
is_inner (Mux c a b) p q = tt
is_inner (Slice a low width) p q = tt
is_inner (Cat a b) p q = tt
is_inner (Ext a width signed) p q = tt

module _ (graph old : Net) (k : ℕ) (table : List ℕ) (h : AreLike old k (width_at graph.nodes) table) where
  moved_width : (n : Node) → IsInner n → IsRight graph k n → node_width old (moved_node table n) ≡ node_width graph n
  moved_width (Input i) x r = absurd x
  moved_width (Reg i) x r = absurd x
  moved_width (Const w) x r = refl
  moved_width (Un op a) x r = ap (result_width op) (h.widths a r.1)
  moved_width (Bin op a b signed) x r = ap (result_width op) (h.widths a r.1)
  moved_width (Mux c a b) x r = h.widths a r.1
  moved_width (Slice a low width) x r = refl
  moved_width (Cat a b) x r = omega (arith, h.widths a r.0, h.widths b r.1)
  moved_width (Ext a width signed) x r = refl

  module _ (ws state inputs : List Bits) where
    at : (a : ℕ) → a < k → bits_at (map (word_in old ws) table) a ≡ bits_at (values_of old [] ws) (slice_index table a)
    unfolding word_in
    at a lt = get_or-map (word_in old ws) table a _ _ (omega (arith, h.count))

    moved_bits :
        (n : Node) → IsInner n → IsRight graph k n → node_bits [] ws (values_of old [] ws) (moved_node table n) ≡ node_bits state inputs
        (map (word_in old ws) table) n
    moved_bits (Input i) x r = absurd x
    moved_bits (Reg i) x r = absurd x
    moved_bits (Const w) x r = refl
    moved_bits (Un op a) x r = rw (at a r.1) refl
    moved_bits (Bin op a b signed) x r = rw (at a r.1, at b r.2) refl
    moved_bits (Mux c a b) x r = rw (at c r.0, at a r.1, at b r.2) refl
    moved_bits (Slice a low width) x r = rw (at a r.0) refl
    moved_bits (Cat a b) x r = rw (at a r.0, at b r.1) refl
    moved_bits (Ext a width signed) x r = rw (at a r.0) refl

-- what a moved node gives
pub moved_gives :
    (graph old new : Net) (k at : ℕ) (state inputs table : List ℕ) (n copy : Node) → copy ≡ moved_node table n → n ≡ (node_at graph.nodes k).node →
    IsInner n → IsNode graph k (node_at graph.nodes k) → AreLike old k (width_at graph.nodes) table →
    GivesWord old new at (node_width old copy) (λ ws. node_bits [] ws (values_of old [] ws) copy) →
    GivesWord old new at (width_at graph.nodes k) (λ ws. node_bits (map (word_in old ws) state) (map (word_in old ws) inputs) (map (word_in old ws) table)
    (node_at graph.nodes k).node)
moved_gives graph old new k at state inputs table n copy e f inner node like g =
    let right : IsRight graph k n = subst (IsRight graph k) (sym f) node.right in
    record {
      extends = g.extends;
      within = g.within;
      width = g.width ∙ (ap (node_width old) e ∙ (moved_width graph old k table like n inner right ∙ (ap (node_width graph) f ∙ sym node.same)));
      is = λ ws.
          let st : List Bits = map (word_in old ws) state in
          let ins : List Bits = map (word_in old ws) inputs in
          g.is ws ∙ (ap (node_bits [] ws (values_of old [] ws)) e ∙ (moved_bits graph old k table like ws st ins n inner right ∙
          ap (node_bits st ins (map (word_in old ws) table)) f));
    }

-- what holds of each place of a list holds of each place of the longer one
pub at_end :
    {A : Type 0} (xs : List A) (x d : A) (P : ℕ → A → Type 0) → ((k : ℕ) → k < length xs → P k (get_or xs k d)) → P (length xs) x → (k : ℕ) →
    k < length (xs ++ x ∷ []) → P k (get_or (xs ++ x ∷ []) k d)
at_end {A} xs x d P old last k h =
    elim (cases_lt k (length xs)) [
      | inl lt ↦ subst (P k) (sym (get_or-append xs (x ∷ []) d k lt)) (old k lt)
      | inr ge ↦
          let e : length xs ≡ k = omega (arith, length-append xs (x ∷ [])) in
          subst (λ (j : ℕ). P j (get_or (xs ++ x ∷ []) j d)) e (subst (P (length xs)) (sym (get_or-append_seam xs x [] d)) last)
    ]

-- nodes stay what they are
pub alike_kept : (old new : Net) (n : ℕ) (w : ℕ → ℕ) (ks : List ℕ) → Extends old new → AreLike old n w ks → AreLike new n w ks
alike_kept old new n w ks s h = record {
  count = h.count;
  within = λ i lt. omega (arith, h.within i lt, s.more);
  widths = λ i lt. s.widths (slice_index ks i) (h.within i lt) ∙ h.widths i lt;
}

pub alike_more :
    (net : Net) (n at : ℕ) (w : ℕ → ℕ) (ks : List ℕ) → AreLike net n w ks → at < length net.nodes → width_at net.nodes at ≡ w n →
    AreLike net (n + 1) w (ks ++ at ∷ [])
alike_more net n at w ks h within width = record {
  count = omega (arith, h.count, length-append ks (at ∷ []));
  within = λ i lt. at_end ks at 0 (λ (i x : ℕ). x < length net.nodes) (λ i lt. h.within i (omega (arith, h.count))) within i
      (omega (arith, h.count, length-append ks (at ∷ [])));
  widths = λ i lt. at_end ks at 0 (λ (i x : ℕ). width_at net.nodes x ≡ w i) (λ i lt. h.widths i (omega (arith, h.count))) (width ∙
      ap w (sym h.count)) i (omega (arith, h.count, length-append ks (at ∷ [])));
}

-- and keep their words
pub same_words :
    (old new : Net) (ws : List Bits) (ks : List ℕ) → Extends old new → ((i : ℕ) → i < length ks → slice_index ks i < length old.nodes) →
    map (word_in new ws) ks ≡ map (word_in old ws) ks
same_words old new ws [] s h = refl
same_words old new ws (k ∷ ks) s h =
    let first : k < length old.nodes = h 0 (omega arith) in
    rw (s.words ws k first, same_words old new ws ks s (λ i lt. h (suc i) (omega arith))) refl

pub alike_words :
    (old new : Net) (ws : List Bits) (n : ℕ) (w : ℕ → ℕ) (ks : List ℕ) → Extends old new → AreLike old n w ks →
    map (word_in new ws) ks ≡ map (word_in old ws) ks
alike_words old new ws n w ks s h = same_words old new ws ks s (λ i lt. h.within i (omega (arith, h.count)))

pub copies_step :
    (graph old now new : Net) (state inputs : List ℕ) (k at : ℕ) (before table table' : List ℕ) → before ≡ table → table' ≡ table ++ at ∷ [] →
    k < length graph.nodes → AreStates old graph state → AreInputs old graph inputs → Copies graph old now state inputs k table →
    GivesWord now new at (width_at graph.nodes k) (λ ws. node_bits (map (word_in now ws) state) (map (word_in now ws) inputs) (map (word_in now ws) before)
    (node_at graph.nodes k).node) → Copies graph old new state inputs (k + 1) table'
copies_step graph old now new state inputs k at before table table' p q lt st ins h g =
    subst (Copies graph old new state inputs (k + 1)) (sym q) (record {
      extends = extends_trans old now new h.extends g.extends;
      alike = alike_more new k at (width_at graph.nodes) table (alike_kept now new k (width_at graph.nodes) table g.extends h.alike) g.within g.width;
      is = λ ws.
          let n : Node = (node_at graph.nodes k).node in
          let s : List Bits = map (word_in old ws) state in
          let i : List Bits = map (word_in old ws) inputs in
          let before_is : map (word_in now ws) before ≡ values_from s i [] (take k graph.nodes) = ap (map (word_in now ws)) p ∙ h.is ws in
          let last : word_in new ws at ≡ node_bits s i (values_from s i [] (take k graph.nodes)) n =
          g.is ws ∙
          (ap (λ (x : List Bits). node_bits x (map (word_in now ws) inputs) (map (word_in now ws) before) n) (alike_words old now ws _ _ state h.extends st) ∙
          (ap (λ (x : List Bits). node_bits s x (map (word_in now ws) before) n) (alike_words old now ws _ _ inputs h.extends ins) ∙
          ap (λ (x : List Bits). node_bits s i x n) before_is)) in
          let e : take (k + 1) graph.nodes ≡ take k graph.nodes ++ node_at graph.nodes k ∷ [] = rw add-one (take-suc graph.nodes k _ lt) in
          map-append (word_in new ws) table (at ∷ []) ∙
          (ap (λ (x : List Bits). x ++ word_in new ws at ∷ []) (alike_words now new ws _ _ table g.extends h.alike ∙ h.is ws) ∙
          (ap (λ (x : Bits). values_from s i [] (take k graph.nodes) ++ x ∷ []) last ∙
          (sym (values_from-snoc s i [] (take k graph.nodes) (node_at graph.nodes k)) ∙ ap (values_from s i []) (sym e))));
    })
