-- Copies of some nodes of a net.
use Rattle.std.proofs.Common.{◌≡◌, ◌≢◌, ℕ, suc, ◌+◌, ◌<◌, ◌≤◌, ◌==◌, Bool, true, false, ◌&&◌, List, [], ◌∷◌, ◌++◌, length, map, take, drop, get_or, slice_index, refl, sym, ◌∙◌, ap, subst, arith, length-append, length-take, take-suc, take-append-drop, eqb-true, eq-eqb, true≢false}
use Rattle.std.proofs.Math.ListN.{get_or-append}
use Rattle.std.proofs.Math.Seq.{get_or-append_seam, take-length}
use Rattle.std.proofs.lemmas.List.{length-map, get_or-map}
use Rattle.std.proofs.lemmas.Bool.Decides.{Decides-not}
use Rattle.lv_bits.specs.Words.{Bits}
use Rattle.lv_bits.specs.Values.{result_width}
use Rattle.lv_model.specs.Machine.{Query as Asked}
use Rattle.lv_model.specs.Design.{Observers}
use Rattle.lv_netlist.specs.declared.node.Node.{Node}
use Rattle.lv_netlist.specs.declared.node.Node.TheVariants.{Input, Reg, Const, Un, Bin, Mux, Slice, Cat, Ext}
use Rattle.lv_netlist.specs.declared.node.Typed.{Typed}
use Rattle.lv_netlist.specs.Net.{Net, node_at, input_width, node_width, IsNode, IsRight, IsInner}
use Rattle.lv_netlist.specs.Run.{values_of, values_from, node_bits, bits_at, no_bits}
use Rattle.lv_netlist.specs.Fits.{FitsInputs}
use Rattle.lv_netlist.specs.Stepping.{GraphCycle}
use Rattle.lv_netlist.specs.Queries.{port_widths, IsGoalOf}
use Rattle.lv_netlist.proofs.Words.{values_from-snoc}
use Rattle.lv_unroll.specs.Wires.{word_in, node_word, Extends, GivesWord}
use Rattle.lv_unroll.specs.Copies.{moved_node}
use Rattle.lv_unroll.proofs.Growing.{extends_refl}
use Rattle.lv_unroll.proofs.Copying.{at_end}
use Rattle.lv_product.specs.Opening.{Opens}
use Rattle.lv_product.specs.Trimming.{no_copy, is_there, is_ready, IsCopyOf, AreCopies, AreOpen, GivesCopy, IsTrimmed}

-- ---- the value of a node, by those before it

long : (state inputs before : List Bits) (ns : List Typed) → length (values_from state inputs before ns) ≡ length before + length ns
long state inputs before [] = omega arith
long state inputs before (n ∷ ns) =
    omega (
      arith,
      long state inputs (before ++ node_bits state inputs before n.node ∷ []) ns,
      length-append before
          (node_bits state inputs before n.node ∷ []),
    )

prefix_kept : (state inputs before : List Bits) (ns : List Typed) (a : ℕ) → a < length before →
    bits_at (values_from state inputs before ns) a ≡ bits_at before a
prefix_kept state inputs before [] a lt = refl
prefix_kept state inputs before (n ∷ ns) a lt =
    let x : Bits = node_bits state inputs before n.node in
    prefix_kept state inputs (before ++ x ∷ []) ns a (omega (arith, length-append before (x ∷ []))) ∙ get_or-append before (x ∷ []) no_bits a lt

in_parts : (state inputs before : List Bits) (xs ys : List Typed) →
    values_from state inputs before (xs ++ ys) ≡ values_from state inputs (values_from state inputs before xs) ys
in_parts state inputs before [] ys = refl
in_parts state inputs before (x ∷ xs) ys = in_parts state inputs (before ++ node_bits state inputs before x.node ∷ []) xs ys

abbrev pub earlier : Net → List Bits → List Bits → ℕ → List Bits
earlier net state ws k = values_from state ws [] (take k net.nodes)

length_earlier : (net : Net) (state ws : List Bits) (k : ℕ) → k ≤ length net.nodes → length (earlier net state ws k) ≡ k
length_earlier net state ws k le = omega (arith, long state ws [] (take k net.nodes), length-take k net.nodes)

pub value_before : (net : Net) (state ws : List Bits) (a k : ℕ) → a < k → k ≤ length net.nodes →
    bits_at (values_of net state ws) a ≡ bits_at (earlier net state ws k) a
value_before net state ws a k lt le =
    ap (λ (ns : List Typed). bits_at (values_from state ws [] ns) a) (sym (take-append-drop k net.nodes)) ∙
    (ap (λ (vs : List Bits). bits_at vs a) (in_parts state ws [] (take k net.nodes) (drop k net.nodes)) ∙
    prefix_kept state ws (earlier net state ws k) (drop k net.nodes) a (omega (arith, length_earlier net state ws k le)))

pub value_of : (net : Net) (state ws : List Bits) (k : ℕ) → k < length net.nodes →
    bits_at (values_of net state ws) k ≡ node_bits state ws (earlier net state ws k) (node_at net.nodes k).node
value_of net state ws k lt =
    let n : Typed = node_at net.nodes k in
    let x : Bits = node_bits state ws (earlier net state ws k) n.node in
    let all : earlier net state ws (suc k) ≡ earlier net state ws k ++ x ∷ [] =
    ap (values_from state ws []) (take-suc net.nodes k _ lt) ∙ values_from-snoc state ws [] (take k net.nodes) n in
    value_before net state ws k (suc k) (omega arith) (omega arith) ∙
    (ap (λ (vs : List Bits). bits_at vs k) all ∙
    (ap (bits_at (earlier net state ws k ++ x ∷ [])) (sym (length_earlier net state ws k (omega arith))) ∙
    get_or-append_seam (earlier net state ws k) x [] no_bits))

abbrev before : Net → List Bits → ℕ → List Bits
before net ws k = earlier net [] ws k

pub word_before : (net : Net) (ws : List Bits) (a k : ℕ) → a < k → k ≤ length net.nodes → word_in net ws a ≡ bits_at (before net ws k) a
unfolding word_in
word_before net ws a k lt le = value_before net [] ws a k lt le

pub word_of : (net : Net) (ws : List Bits) (k : ℕ) → k < length net.nodes → word_in net ws k ≡ node_bits [] ws (before net ws k) (node_at net.nodes k).node
unfolding word_in
word_of net ws k lt = value_of net [] ws k lt

-- ---- a node with its operands by the table

pub ready_inner : (table : List ℕ) (n : Node) → is_ready table n ≡ true → IsInner n
ready_inner table (Input i) h = absurd (true≢false (sym h))
ready_inner table (Reg i) h = absurd (true≢false (sym h))
ready_inner table (Const w) h = tt
ready_inner table (Un op a) h = tt
ready_inner table (Bin op a b signed) h = tt
ready_inner table (Mux c a b) h = tt
ready_inner table (Slice a low width) h = tt
ready_inner table (Cat a b) h = tt
ready_inner table (Ext a width signed) h = tt

pub inner_moved : (table : List ℕ) (n : Node) → IsInner n → IsInner (moved_node table n)
inner_moved table (Input i) h = h
inner_moved table (Reg i) h = h
inner_moved table (Const w) h = tt
inner_moved table (Un op a) h = tt
inner_moved table (Bin op a b signed) h = tt
inner_moved table (Mux c a b) h = tt
inner_moved table (Slice a low width) h = tt
inner_moved table (Cat a b) h = tt
inner_moved table (Ext a width signed) h = tt

first_true : (x y : Bool) → (x && y) ≡ true → x ≡ true
first_true true y e = refl
first_true false y e = e

second_true : (x y : Bool) → (x && y) ≡ true → y ≡ true
second_true true y e = e
second_true false y e = cc

module _ (whole old : Net) (k : ℕ) (table : List ℕ) (h : AreCopies whole old k table) (le : k ≤ length whole.nodes) where
  its_copy : (a : ℕ) → a < k → is_there table a ≡ true → IsCopyOf whole old a (slice_index table a)
  its_copy a lt t = h.are a lt ((Decides-not (slice_index table a ==
      no_copy) (eqb-true (slice_index table a) no_copy, eq-eqb (slice_index table a) no_copy)).0 t)

  pub ready_right : (n : Node) → IsRight whole k n → is_ready table n ≡ true → IsRight old (length old.nodes) (moved_node table n)
  ready_right (Input i) r t = absurd (true≢false (sym t))
  ready_right (Reg i) r t = absurd (true≢false (sym t))
  ready_right (Const w) r t = tt
  ready_right (Un op a) r t = (r.0, (its_copy a r.1 t).within)
  ready_right (Bin op a b signed) r t =
      let ca : IsCopyOf whole old a (slice_index table a) = its_copy a r.1 (first_true (is_there table a) (is_there table b) t) in
      let cb : IsCopyOf whole old b (slice_index table b) = its_copy b r.2 (second_true (is_there table a) (is_there table b) t) in
      (r.0, ca.within, cb.within, λ p. ca.width ∙ (r.3 p ∙ sym cb.width))
  ready_right (Mux c a b) r t =
      let two : (is_there table c && is_there table a) ≡ true = first_true (is_there table c && is_there table a) (is_there table b) t in
      let kc : IsCopyOf whole old c (slice_index table c) = its_copy c r.0 (first_true (is_there table c) (is_there table a) two) in
      let ka : IsCopyOf whole old a (slice_index table a) = its_copy a r.1 (second_true (is_there table c) (is_there table a) two) in
      let kb : IsCopyOf whole old b (slice_index table b) = its_copy b r.2 (second_true (is_there table c && is_there table a) (is_there table b) t) in
      (kc.within, ka.within, kb.within, ka.width ∙ (r.3 ∙ sym kb.width))
  ready_right (Slice a low width) r t =
      let ca : IsCopyOf whole old a (slice_index table a) = its_copy a r.0 t in
      (ca.within, r.1, omega (arith, r.2, ca.width))
  ready_right (Cat a b) r t =
      let ca : IsCopyOf whole old a (slice_index table a) = its_copy a r.0 (first_true (is_there table a) (is_there table b) t) in
      let cb : IsCopyOf whole old b (slice_index table b) = its_copy b r.1 (second_true (is_there table a) (is_there table b) t) in
      (ca.within, cb.within, omega (arith, r.2, ca.width, cb.width))
  ready_right (Ext a width signed) r t =
      let ca : IsCopyOf whole old a (slice_index table a) = its_copy a r.0 t in
      (ca.within, omega (arith, r.1, ca.width), r.2)

  ready_width : (n : Node) → IsRight whole k n → is_ready table n ≡ true → node_width old (moved_node table n) ≡ node_width whole n
  ready_width (Input i) r t = absurd (true≢false (sym t))
  ready_width (Reg i) r t = absurd (true≢false (sym t))
  ready_width (Const w) r t = refl
  ready_width (Un op a) r t = ap (result_width op) (its_copy a r.1 t).width
  ready_width (Bin op a b signed) r t = ap (result_width op) (its_copy a r.1 (first_true (is_there table a) (is_there table b) t)).width
  ready_width (Mux c a b) r t =
      (its_copy a r.1 (second_true (is_there table c) (is_there table a) (first_true (is_there table c && is_there table a) (is_there table b) t))).width
  ready_width (Slice a low width) r t = refl
  ready_width (Cat a b) r t =
      let ca : IsCopyOf whole old a (slice_index table a) = its_copy a r.0 (first_true (is_there table a) (is_there table b) t) in
      let cb : IsCopyOf whole old b (slice_index table b) = its_copy b r.1 (second_true (is_there table a) (is_there table b) t) in
      omega (arith, ca.width, cb.width)
  ready_width (Ext a width signed) r t = refl

  module _ (ws : List Bits) where
    its_word : (a : ℕ) → a < k → is_there table a ≡ true → bits_at (values_of old [] ws) (slice_index table a) ≡ bits_at (before whole ws k) a
    unfolding word_in
    its_word a lt t = (its_copy a lt t).word ws ∙ word_before whole ws a k lt le

    ready_bits : (n : Node) → IsRight whole k n → is_ready table n ≡ true →
        node_bits [] ws (values_of old [] ws) (moved_node table n) ≡ node_bits [] ws (before whole ws k) n
    ready_bits (Input i) r t = absurd (true≢false (sym t))
    ready_bits (Reg i) r t = absurd (true≢false (sym t))
    ready_bits (Const w) r t = refl
    ready_bits (Un op a) r t = rw (its_word a r.1 t) refl
    ready_bits (Bin op a b signed) r t =
        rw (its_word a r.1 (first_true (is_there table a) (is_there table b) t), its_word b r.2 (second_true (is_there table a) (is_there table b) t)) refl
    ready_bits (Mux c a b) r t =
        let two : (is_there table c && is_there table a) ≡ true = first_true (is_there table c && is_there table a) (is_there table b) t in
        rw (
          its_word c r.0 (first_true (is_there table c) (is_there table a) two),
          its_word a r.1 (second_true (is_there table c) (is_there table a) two),
          its_word b r.2 (second_true (is_there table c && is_there table a) (is_there table b) t),
        ) refl
    ready_bits (Slice a low width) r t = rw (its_word a r.0 t) refl
    ready_bits (Cat a b) r t =
        rw (its_word a r.0 (first_true (is_there table a) (is_there table b) t), its_word b r.1 (second_true (is_there table a) (is_there table b) t)) refl
    ready_bits (Ext a width signed) r t = rw (its_word a r.0 t) refl

pub node_copied : (whole old new : Net) (k at : ℕ) (table : List ℕ) (n copy : Node) → k < length whole.nodes → AreCopies whole old k table →
    copy ≡ moved_node table n → n ≡ (node_at whole.nodes k).node → IsNode whole k (node_at whole.nodes k) → is_ready table n ≡ true →
    GivesWord old new at (node_width old copy) (node_word old copy) → GivesCopy whole old new k at
node_copied whole old new k at table n copy lt h e f node ready g =
    let le : k ≤ length whole.nodes = omega arith in
    let right : IsRight whole k n = subst (IsRight whole k) (sym f) node.right in
    record {
      extends = g.extends;
      is = λ some. record {
        within = g.within;
        width = g.width ∙ (ap (node_width old) e ∙ (ready_width whole old k table h le n right ready ∙ (ap (node_width whole) f ∙ sym node.same)));
        word = λ ws. g.is ws ∙ (ap (node_bits [] ws (values_of old [] ws)) e ∙
            (ready_bits whole old k table h le ws n right ready ∙ (ap (node_bits [] ws (before whole ws k)) f ∙ sym (word_of whole ws k lt))));
      };
    }

pub input_copied : (whole old : Net) (k i : ℕ) (n : Node) → k < length whole.nodes → AreOpen whole old → n ≡ Input i → n ≡ (node_at whole.nodes k).node →
    IsNode whole k (node_at whole.nodes k) → GivesCopy whole old old k i
input_copied whole old k i n lt o e f node =
    let is : (node_at whole.nodes k).node ≡ Input i = sym f ∙ e in
    let less : i < length whole.inputs = subst (IsRight whole k) is node.right in
    record {
      extends = extends_refl old;
      is = λ some. record {
        within = o.within i less;
        width = o.widths i less ∙ sym (node.same ∙ ap (node_width whole) is);
        word = λ ws. o.words ws i less ∙ sym (word_of whole ws k lt ∙ ap (node_bits [] ws (before whole ws k)) is);
      };
    }

pub none_copied : (whole old : Net) (k at : ℕ) → at ≡ no_copy → GivesCopy whole old old k at
none_copied whole old k at e = record { extends = extends_refl old; is = λ some. absurd (some e) }

-- ---- all nodes

copy_kept : (whole old new : Net) (k at : ℕ) → Extends old new → IsCopyOf whole old k at → IsCopyOf whole new k at
copy_kept whole old new k at s h = record {
  within = omega (arith, h.within, s.more);
  width = s.widths at h.within ∙ h.width;
  word = λ ws. s.words ws at h.within ∙ h.word ws;
}

pub record TrimmedTo (whole net : Net) (k : ℕ) (table : List ℕ) : Type 0 where
  pub opening : AreOpen whole net
  pub registers : net.registers ≡ []
  pub ports : port_widths net ≡ port_widths whole
  pub copies : AreCopies whole net k table

pub trimmed_none : (whole net : Net) (widths widths' table : List ℕ) → widths ≡ port_widths whole → widths' ≡ widths → Opens widths' net → table ≡ [] →
    TrimmedTo whole net 0 table
trimmed_none whole net widths widths' table e e' o et =
    let all : widths' ≡ port_widths whole = e' ∙ e in
    let count : length widths' ≡ length whole.inputs = ap length all ∙ length-map whole.inputs (λ (p : List ℕ × ℕ). p.1) in
    subst (TrimmedTo whole net 0) (sym et) (record {
      opening = record {
        within = λ i lt. omega (arith, o.count, count);
        widths = λ i lt. o.widths_are i (omega (arith, count)) ∙
            (ap (λ (l : List ℕ). slice_index l i) all ∙ get_or-map (λ (p : List ℕ × ℕ). p.1) whole.inputs i ([], 0) 0 lt);
        words = λ ws i lt. o.words ws i (omega (arith, count));
      };
      registers = o.registers;
      ports = o.ports ∙ (take-length widths' ∙ all);
      copies = record { count = refl; are = λ a lt. absurd (omega arith) };
    })

pub trimmed_step : (whole old new : Net) (k at : ℕ) (table table' : List ℕ) → table' ≡ table ++ at ∷ [] → TrimmedTo whole old k table →
    GivesCopy whole old new k at → TrimmedTo whole new (k + 1) table'
trimmed_step whole old new k at table table' e h g =
    let s : Extends old new = g.extends in
    let more : length (table ++ at ∷ []) ≡ k + 1 = omega (arith, length-append table (at ∷ []), h.copies.count) in
    subst (TrimmedTo whole new (k + 1)) (sym e) (record {
      opening = record {
        within = λ i lt. omega (arith, h.opening.within i lt, s.more);
        widths = λ i lt. s.widths i (h.opening.within i lt) ∙ h.opening.widths i lt;
        words = λ ws i lt. s.words ws i (h.opening.within i lt) ∙ h.opening.words ws i lt;
      };
      registers = s.registers ∙ h.registers;
      ports = ap (map (λ (p : List ℕ × ℕ). p.1)) s.inputs ∙ h.ports;
      copies = record {
        count = more;
        are = λ a lt.
            at_end table at 0 (λ (a x : ℕ). x ≢ no_copy → IsCopyOf whole new a x)
            (λ a l some. copy_kept whole old new a (slice_index table a) s (h.copies.are a (omega (arith, h.copies.count)) some))
            (subst (λ (j : ℕ). at ≢ no_copy → IsCopyOf whole new j at) (sym h.copies.count) g.is) a (omega (arith, more));
      };
    })

pub trimmed_goal : (whole net : Net) (k goal at : ℕ) (table table' : List ℕ) → goal < k → table' ≡ table → at ≡ slice_index table' goal →
    TrimmedTo whole net k table → at ≢ no_copy → IsTrimmed whole net goal at
trimmed_goal whole net k goal at table table' lt e ea h some =
    let is : at ≡ slice_index table goal = ea ∙ ap (λ (l : List ℕ). slice_index l goal) e in
    record {
      registers = h.registers;
      ports = h.ports;
      goal_is = subst (IsCopyOf whole net goal) (sym is) (h.copies.are goal lt (λ f. some (is ∙ f)));
    }

pub itself : (whole : Net) (goal : ℕ) → whole.registers ≡ [] → goal < length whole.nodes → IsTrimmed whole whole goal goal
itself whole goal e lt = record { registers = e; ports = refl; goal_is = record { within = lt; width = refl; word = λ ws. refl } }

-- the goal of a trimmed net is that of the query
pub still_goal : (graph : Net) (o : Observers GraphCycle) (b : ℕ) (s : List ℕ) (q : Asked) (whole net : Net) (goal at : ℕ) →
    IsGoalOf graph o b s q whole goal → IsTrimmed whole net goal at → IsGoalOf graph o b s q net at
unfolding word_in
still_goal graph o b s q whole net goal at h t =
    let count : length net.inputs ≡ length whole.inputs = sym (length-map net.inputs (λ (p : List ℕ × ℕ). p.1)) ∙
    (ap length t.ports ∙ length-map whole.inputs (λ (p : List ℕ × ℕ). p.1)) in
    let width : (i : ℕ) → i < length whole.inputs → input_width net i ≡ input_width whole i = λ i lt.
    sym (get_or-map (λ (p : List ℕ × ℕ). p.1) net.inputs i ([], 0) 0 (omega (arith, count))) ∙
    (ap (λ (l : List ℕ). get_or l i 0) t.ports ∙ get_or-map (λ (p : List ℕ × ℕ). p.1) whole.inputs i ([], 0) 0 lt) in
    let fits : (ws : List Bits) → FitsInputs net ws → FitsInputs whole ws = λ ws f. record {
      count = f.count ∙ count;
      widths = λ i lt. f.widths i (omega (arith, count)) ∙ width i lt;
    } in
    record {
      closed = t.registers;
      within = t.goal_is.within;
      one = t.goal_is.width ∙ h.one;
      widths = t.ports ∙ h.widths;
      meets = λ ws f w e. h.meets ws (fits ws f) w (sym (ap (λ (x : Bits). x.value) (t.goal_is.word ws)) ∙ e);
      met = λ ws f w m. ap (λ (x : Bits). x.value) (t.goal_is.word ws) ∙ h.met ws (fits ws f) w m;
    }
