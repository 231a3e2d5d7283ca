-- The goal over both copies is that of the query.
use Rattle.std.proofs.Common.{◌≡◌, ℕ, zero, suc, ◌+◌, ◌*◌, ◌<◌, ◌≤◌, ◌==◌, Bool, true, false, not, ◌&&◌, inl, inr, Some, slice_get, slice_index, List, [], ◌∷◌, length, map, take, drop, get_or, refl, sym, ◌∙◌, ap, subst, arith, suc-mul, zero-mul, ext_get_or}
use Rattle.std.proofs.Math.Seq.{take-length}
use Rattle.std.proofs.lemmas.List.{length-map, get_or-map}
use Rattle.std.specs.List.{AllByRecursion, range_with_len}
use Rattle.lv_bits.specs.Words.{Bits}
use Rattle.lv_bits.specs.Values.{bit}
use Rattle.lv_model.specs.Machine.{IsRun, AllHold, Query as Asked}
use Rattle.lv_model.specs.Meeting.{IsMetBy, cycles_of}
use Rattle.lv_model.specs.Design.{Observers, CandidateHolds, MaybeHolds}
use Rattle.lv_model.specs.Stepper.{Stepper, unrolled}
use Rattle.lv_model.proofs.Unrolled.{one_input_is_same}
use Rattle.lv_netlist.specs.declared.node.Node.TheVariants.{Reg}
use Rattle.lv_netlist.specs.Net.{Net, node_at, input_width, register_width, HasNexts}
use Rattle.lv_netlist.specs.Run.{values_of, values_from, node_bits, bits_at, no_bits}
use Rattle.lv_netlist.specs.Fits.{FitsInputs, AreWords}
use Rattle.lv_netlist.specs.Stepping.{GraphCycle, stepper_of, graph_machine, run_of}
use Rattle.lv_netlist.specs.Queries.{port_widths, product_widths, left_of, right_of, cycles_in, aligned_in, IsGoalOf}
use Rattle.lv_unroll.specs.declared.copies.Nodes.{Nodes}
use Rattle.lv_unroll.specs.Wires.{word_in, number_in, is_on, Extends, GivesTest}
use Rattle.lv_unroll.specs.Copies.{AreStates}
use Rattle.lv_unroll.specs.Unrolls.{words_in, IsCycle, Unrolls}
use Rattle.lv_unroll.specs.Agreements.{GivesFact}
use Rattle.lv_unroll.proofs.Growing.{extends_trans}
use Rattle.lv_unroll.proofs.Copying.{alike_kept, alike_words}
use Rattle.lv_unroll.proofs.Slotting.{on_kept}
use Rattle.lv_product.specs.declared.task.Task.{Task}
use Rattle.lv_product.specs.declared.task.Query.{Query}
use Rattle.lv_product.specs.declared.task.Query.TheVariants.{Initial, Allowed, Base, Step, Imply}
use Rattle.lv_product.specs.declared.task.Candidate.{Candidate}
use Rattle.lv_product.specs.Queries.{observers_of, task_machine, asked, candidate_by}
use Rattle.lv_product.specs.Values.{value_at, value_machine}
use Rattle.lv_product.specs.Meets.{Cycles, cycle_at, cycles_by, Meets, CopiesMeet}
use Rattle.lv_product.specs.Sharing.{IsEqualityOf, IsKeptEqual, Shares, held_first}
use Rattle.lv_product.specs.Opening.{Opens, ranges, lists_of}
use Rattle.lv_product.proofs.Telling.{cycles_kept}
use Rattle.lv_product.proofs.Carrying.{AreRuns, meets_met, met_meets, of_cycle}
use Rattle.lv_product.proofs.Shared.{shared_states}
use Rattle.lv_product.proofs.Trimmed.{value_of}
use Rattle.lv_product.proofs.Parts.{HaveWidths, length_product, left_width, right_width, cycle_width, nodes_like, words_range, words_ranges, cycles_like, left_fits, right_fits, cycles_fit, length_pieces}

pub cycles_are_kept : (old new graph : Net) (is : List Nodes) → Extends old new → AllByRecursion (IsCycle old graph) is →
    AllByRecursion (IsCycle new graph) is
cycles_are_kept old new graph [] s h = tt
cycles_are_kept old new graph (i ∷ is) s h = (
  alike_kept old new (length graph.inputs) (input_width graph) i.list.items s h.0,
  cycles_are_kept old new graph
      is s h.1,
)

cycle_words : (old new graph : Net) (ws : List Bits) (is : List Nodes) → Extends old new → AllByRecursion (IsCycle old graph) is →
    map (words_in new ws) is ≡ map (words_in old ws) is
cycle_words old new graph ws [] s h = refl
cycle_words old new graph ws (i ∷ is) s h =
    ap (λ (x : List Bits). x ∷ map (words_in new ws) is) (alike_words old new ws (length graph.inputs) (input_width graph) i.list.items s h.0) ∙
    ap (λ (xs : List (List Bits)). words_in old ws i ∷ xs) (cycle_words old new graph ws is s h.1)

length_unrolled : (t : Stepper (List Bits) (List Bits)) (s : List Bits) (is : List (List Bits)) → length (unrolled t s is) ≡ length is
length_unrolled t s [] = refl
length_unrolled t s (i ∷ is) = ap suc (length_unrolled t (t.next s i) is)

product_room : (k n m : ℕ) → k < n → k * m + m ≤ n * m
product_room k zero m lt = absurd (omega arith)
product_room zero (suc n) m lt = omega (arith, suc-mul n m, zero-mul m)
product_room (suc k) (suc n) m lt = omega (arith, suc-mul n m, suc-mul k m, product_room k n m (omega arith))

-- the nodes of a query's words
pub record AreOpened (graph net : Net) (n aligned : ℕ) (left right : List ℕ) (inputs : List Nodes) : Type 0 where
  pub opens : Opens (product_widths graph n) net
  pub left_is : left ≡ range_with_len 0 (length graph.registers)
  pub right_is : right ≡ range_with_len (length graph.registers) (length graph.registers)
  pub inputs_are : lists_of inputs ≡ ranges (length graph.registers + length graph.registers) (length graph.inputs) n
  pub aligned_is : aligned + 1 ≡ length (product_widths graph n)

module _ (graph net : Net) (n aligned : ℕ) (left right : List ℕ) (inputs : List Nodes) (o : AreOpened graph net n aligned left right inputs) where
  abbrev r : ℕ
  r = length graph.registers

  pub left_states : AreStates net graph left
  left_states = subst (AreStates net graph) (sym o.left_is) (nodes_like (product_widths graph n) net 0 r (register_width graph) o.opens
      (omega (arith, length_product graph n)) (left_width graph n))

  pub right_states : AreStates net graph right
  right_states = subst (AreStates net graph) (sym o.right_is) (nodes_like (product_widths graph n) net r r (register_width graph) o.opens
      (omega (arith, length_product graph n)) (right_width graph n))

  room : (k : ℕ) → k < n → (r + r + k * length graph.inputs) + length graph.inputs ≤ length (product_widths graph n)
  room k lt = omega (arith, length_product graph n, product_room k n (length graph.inputs) lt)

  pub inputs_cycles : AllByRecursion (IsCycle net graph) inputs
  inputs_cycles =
      cycles_like net graph (r + r) n inputs o.inputs_are (λ k lt.
      nodes_like (product_widths graph n) net (r + r + k * length graph.inputs) (length graph.inputs) (input_width graph) o.opens (room k lt)
      (λ i less. cycle_width graph n k i lt less))

  pub aligned_within : aligned < length net.nodes
  aligned_within = omega (arith, o.aligned_is, o.opens.count)

  module _ (ws : List Bits) (len : length ws ≡ length (product_widths graph n)) where
    pub left_words : map (word_in net ws) left ≡ left_of graph ws
    left_words = ap (map (word_in net ws)) o.left_is ∙ words_range (product_widths graph n) net ws 0 r o.opens len (omega (arith, length_product graph n))

    pub right_words : map (word_in net ws) right ≡ right_of graph ws
    right_words = ap (map (word_in net ws)) o.right_is ∙ words_range (product_widths graph n) net ws r r o.opens len (omega (arith, length_product graph n))

    pub input_words : map (words_in net ws) inputs ≡ cycles_in graph n ws
    input_words = words_ranges (product_widths graph n) net ws (r + r) (length graph.inputs) n inputs o.opens len (omega (arith, length_product graph n))
        o.inputs_are

    pub aligned_word : is_on net ws aligned ≡ aligned_in graph n ws
    unfolding is_on number_in
    aligned_word =
        let at : aligned ≡ r + r + n * length graph.inputs = omega (arith, o.aligned_is, length_product graph n) in
        ap (λ (b : Bits). not (b.value == 0)) (o.opens.words ws aligned (omega (arith, o.aligned_is)) ∙ ap (bits_at ws) at)

-- words that fit the inputs of a net
pub fitting : (widths : List ℕ) (net : Net) (ws : List Bits) → port_widths net ≡ widths → FitsInputs net ws → AreWords ws → HaveWidths widths ws
fitting widths net ws e f w =
    let count : length net.inputs ≡ length widths = sym (length-map net.inputs (λ (p : List ℕ × ℕ). p.1)) ∙ ap length e in
    record {
      count = f.count ∙ count;
      are = λ i lt.
          let less : i < length net.inputs = omega arith in
          f.widths i less ∙ (sym (get_or-map (λ (p : List ℕ × ℕ). p.1) net.inputs i ([], 0) 0 less) ∙ ap (λ (l : List ℕ). get_or l i 0) e);
      words = w;
    }

on_one : (t : Bool) → bit t ≡ 1 → t ≡ true
on_one true e = refl
on_one false e = cc

first_on : (x y : Bool) → (x && y) ≡ true → x ≡ true
first_on true y e = refl
first_on false y e = e

second_on : (x y : Bool) → (x && y) ≡ true → y ≡ true
second_on true y e = e
second_on false y e = cc

both_on : (x y : Bool) → x ≡ true → y ≡ true → (x && y) ≡ true
both_on true y e f = f
both_on false y e f = e

one_on : (t : Bool) → t ≡ true → bit t ≡ 1
one_on t e = ap bit e

-- what is to be shown of a graph: its runs are what it unrolls to
abbrev pub HasRuns : Net → Type 0
HasRuns graph = (o : Observers GraphCycle) (s : List Bits) (is : List (List Bits)) → (stepper_of graph).IsState s →
    AllByRecursion (stepper_of graph).IsInput is → IsRun (graph_machine graph o) (unrolled (stepper_of graph) s is)

same_bits : (x y : Bits) → x.width ≡ y.width → x.value ≡ y.value → x ≡ y
same_bits x y p q = λ i. record { width = p i; value = q i }

first_state : (t : Stepper (List Bits) (List Bits)) (s : List Bits) (is : List (List Bits)) (d : GraphCycle) → 0 < length is →
    (get_or (unrolled t s is) 0 d).state ≡ s
first_state t s [] d lt = absurd (omega arith)
first_state t s (i ∷ is) d lt = refl

held_candidate : (cs : List Candidate) (k : ℕ) (c : Candidate) (l r : List Bits) (a : Bool) → slice_get cs k ≡ Some c →
    MaybeHolds (slice_get (map (candidate_by value_at) cs) k) l r a → CandidateHolds (candidate_by value_at c) l r a
held_candidate [] k c l r a e h = absurd h
held_candidate (x ∷ cs) zero c l r a e h = let f : x ≡ c = cc in subst (λ (z : Candidate). CandidateHolds (candidate_by value_at z) l r a) f h
held_candidate (x ∷ cs) (suc k) c l r a e h = held_candidate cs k c l r a e h

register_value : (graph : Net) (state inputs : List Bits) (e i : ℕ) → e < length graph.nodes → (node_at graph.nodes e).node ≡ Reg i →
    value_at e (values_of graph state inputs) ≡ (bits_at state i).value
register_value graph state inputs e i lt is = ap (λ (b : Bits). b.value) (value_of graph state inputs e lt ∙
    ap (node_bits state inputs (values_from state inputs [] (take e graph.nodes))) is)

module _ (task : Task) (s : List ℕ) (q : Query) (n : ℕ) (is_n : n ≡ cycles_of (asked q) task.lookahead) (runs : HasRuns task.graph)
    (b0 bs b1 b2 b3 b4 : Net) (aligned alike at whole : ℕ) (left right first : List ℕ) (inputs ls rs : List Nodes)
    (o : AreOpened task.graph b0 n aligned left right inputs) (sh : Shares task.graph b0 bs task.candidates.items (held_first q s) left right
    (length (held_first q s)) first alike) (ul : Unrolls task.graph bs b1 left inputs ls) (ur : Unrolls task.graph b1 b2 first inputs rs) (g : GivesFact b2
    b3 at (CopiesMeet b2 task s q ls rs aligned)) (w : GivesTest b3 b4 whole (λ ws. is_on b3 ws alike && is_on b3 ws at)) where
  abbrev graph : Net
  graph = task.graph

  s1 : Extends b0 b1
  s1 = extends_trans b0 bs b1 sh.extends ul.extends

  s2 : Extends b0 b2
  s2 = extends_trans b0 b1 b2 s1 ur.extends

  s3 : Extends bs b3
  s3 = extends_trans bs b2 b3 (extends_trans bs b1 b2 ul.extends ur.extends) g.extends

  widths : port_widths b4 ≡ product_widths graph n
  widths = ap (map (λ (p : List ℕ × ℕ). p.1)) (w.extends.inputs ∙ (g.extends.inputs ∙ s2.inputs)) ∙ (o.opens.ports ∙ take-length (product_widths graph n))

  lefts : AreStates b0 graph left
  lefts = left_states graph b0 n aligned left right inputs o

  rights : AreStates b0 graph right
  rights = right_states graph b0 n aligned left right inputs o

  module _ (ws : List Bits) (h : HaveWidths (product_widths graph n) ws) where
    abbrev t : Stepper (List Bits) (List Bits)
    t = stepper_of graph

    abbrev is : List (List Bits)
    is = cycles_in graph n ws

    abbrev lcs : List GraphCycle
    lcs = unrolled t (left_of graph ws) is

    abbrev rcs : List GraphCycle
    rcs = unrolled t (right_of graph ws) is

    l_words : map (word_in b0 ws) left ≡ left_of graph ws
    l_words = left_words graph b0 n aligned left right inputs o ws h.count

    r_words : map (word_in b0 ws) right ≡ right_of graph ws
    r_words = right_words graph b0 n aligned left right inputs o ws h.count

    i_words : map (words_in b0 ws) inputs ≡ is
    i_words = input_words graph b0 n aligned left right inputs o ws h.count

    -- the word of a register's node
    l_word : (i : ℕ) → i < length graph.registers → word_in b0 ws (slice_index left i) ≡ bits_at (left_of graph ws) i
    l_word i lt = sym (get_or-map (word_in b0 ws) left i 0 no_bits (omega (arith, lefts.count))) ∙ ap (λ (l : List Bits). bits_at l i) l_words

    r_word : (i : ℕ) → i < length graph.registers → word_in b0 ws (slice_index right i) ≡ bits_at (right_of graph ws) i
    r_word i lt = sym (get_or-map (word_in b0 ws) right i 0 no_bits (omega (arith, rights.count))) ∙ ap (λ (l : List Bits). bits_at l i) r_words

    left_is : cycles_by b2 ls ws ≡ map (of_cycle task) lcs
    left_is =
        cycles_kept b1 b2 graph ws ls ur.extends ul.copies ∙
        (ul.are ws ∙
        (ap (λ (x : List Bits). run_of graph x (map (words_in bs ws) inputs)) (alike_words b0 bs ws (length graph.registers) (register_width graph) left
        sh.extends lefts ∙ l_words) ∙
        ap (run_of graph (left_of graph ws)) (cycle_words b0 bs graph ws inputs sh.extends (inputs_cycles graph b0 n aligned left right inputs o) ∙
        i_words)))

    first_word : is_on bs ws alike ≡ true → (i : ℕ) → i < length graph.registers → word_in bs ws (slice_index first i) ≡ word_in b0 ws (slice_index right i)
    unfolding number_in
    first_word on i lt =
        elim (sh.each i (omega (arith, rights.count))) [
          | inl a ↦ ap (word_in bs ws) a ∙ sh.extends.words ws (slice_index right i) (rights.within i lt)
          | inr a ↦
              let lw : (word_in b0 ws (slice_index left i)).width ≡ register_width graph i = ap (λ (b : Bits). b.width) (l_word i lt) ∙
              (left_fits graph n ws h).0.widths i lt in
              let rw : (word_in b0 ws (slice_index right i)).width ≡ register_width graph i = ap (λ (b : Bits). b.width) (r_word i lt) ∙
              (right_fits graph n ws h).0.widths i lt in
              ap (word_in bs ws) a.0 ∙
              (sh.extends.words ws (slice_index left i) (lefts.within i lt) ∙
              same_bits (word_in b0 ws (slice_index left i)) (word_in b0 ws (slice_index right i)) (lw ∙ sym rw) (a.1 ws on))
        ]

    first_words : is_on bs ws alike ≡ true → map (word_in bs ws) first ≡ map (word_in b0 ws) right
    first_words on =
        ext_get_or no_bits (map (word_in bs ws) first) (map (word_in b0 ws) right) (length-map first (word_in bs ws) ∙
        (sh.count ∙ sym (length-map right (word_in b0 ws))))
        (λ i lt.
        let less : i < length first = omega (arith, length-map first (word_in bs ws)) in
        get_or-map (word_in bs ws) first i 0 no_bits less ∙
        (first_word on i (omega (arith, sh.count, rights.count)) ∙ sym (get_or-map (word_in b0 ws) right i 0 no_bits (omega (arith, sh.count)))))

    firsts : AreStates bs graph first
    firsts = shared_states graph b0 bs task.candidates.items (held_first q s) left right first (length (held_first q s)) alike lefts rights sh

    right_is : is_on bs ws alike ≡ true → cycles_by b2 rs ws ≡ map (of_cycle task) rcs
    right_is on =
        ur.are ws ∙
        (ap (λ (x : List Bits). run_of graph x (map (words_in b1 ws) inputs))
        (alike_words bs b1 ws (length graph.registers) (register_width graph) first ul.extends firsts ∙ (first_words on ∙ r_words)) ∙
        ap (run_of graph (right_of graph ws)) (cycle_words b0 b1 graph ws inputs s1 (inputs_cycles graph b0 n aligned left right inputs o) ∙ i_words))

    aligned_is : is_on b2 ws aligned ≡ aligned_in graph n ws
    aligned_is = on_kept b0 b2 ws aligned s2 (aligned_within graph b0 n aligned left right inputs o) ∙
        aligned_word graph b0 n aligned left right inputs o ws h.count

    are_runs : AreRuns task lcs rcs
    are_runs = record {
      left = runs (observers_of task) (left_of graph ws) is (left_fits graph n ws h) (cycles_fit graph n ws h);
      right = runs (observers_of task) (right_of graph ws) is (right_fits graph n ws h) (cycles_fit graph n ws h);
      same = one_input_is_same t (observers_of task) (left_of graph ws) (right_of graph ws) is;
    }

    many : (st : List Bits) → length (unrolled t st is) ≡ n
    many st = length_unrolled t st is ∙ length_pieces (length graph.inputs) n _

    abbrev FromCopies : Type 0
    FromCopies = CopiesMeet b2 task s q ls rs aligned ws

    abbrev FromRuns : Type 0
    FromRuns = Meets task s q (map (of_cycle task) lcs) (map (of_cycle task) rcs) (aligned_in graph n ws)

    there : is_on bs ws alike ≡ true → FromCopies → FromRuns
    there on m =
        subst (λ (x : Cycles). Meets task s q x (map (of_cycle task) rcs) (aligned_in graph n ws)) left_is
        (subst (λ (x : Cycles). Meets task s q (cycles_by b2 ls ws) x (aligned_in graph n ws)) (right_is on)
        (subst (Meets task s q (cycles_by b2 ls ws) (cycles_by b2 rs ws)) aligned_is m))

    back : is_on bs ws alike ≡ true → FromRuns → FromCopies
    back on m =
        subst (Meets task s q (cycles_by b2 ls ws) (cycles_by b2 rs ws)) (sym aligned_is)
        (subst (λ (x : Cycles). Meets task s q (cycles_by b2 ls ws) x (aligned_in graph n ws)) (sym (right_is on))
        (subst (λ (x : Cycles). Meets task s q x (map (of_cycle task) rcs) (aligned_in graph n ws)) (sym left_is) m))

    -- the values of the first cycle are those of a state
    first_values : (st : List Bits) (e i : ℕ) → 0 < n → e < length graph.nodes → (node_at graph.nodes e).node ≡ Reg i →
        value_at e (cycle_at (map (of_cycle task) (unrolled t st is)) 0) ≡ (bits_at st i).value
    first_values st e i some lt node =
        let d : GraphCycle = record { state = []; input = [] } in
        let c : GraphCycle = get_or (unrolled t st is) 0 d in
        ap (value_at e) (get_or-map (of_cycle task) (unrolled t st is) 0 d [] (omega (arith, many st))) ∙
        (register_value graph c.state c.input e i lt node ∙ ap (λ (x : List Bits). (bits_at x i).value)
        (first_state t st is d (omega (arith, length_pieces (length graph.inputs) n (drop (length graph.registers + length graph.registers) ws)))))

    held_number : AllHold (value_machine task) s (cycle_at (map (of_cycle task) lcs) 0) (cycle_at (map (of_cycle task) rcs) 0) (aligned_in graph n ws) →
        0 < n → (i : ℕ) → IsKeptEqual graph task.candidates.items s (length s) i →
        number_in b0 ws (slice_index left i) ≡ number_in b0 ws (slice_index right i)
    unfolding number_in
    held_number all some i e =
        let lv : List Bits = cycle_at (map (of_cycle task) lcs) 0 in
        let rv : List Bits = cycle_at (map (of_cycle task) rcs) 0 in
        let x : IsEqualityOf graph e.candidate i = e.equality in
        let holds : CandidateHolds (candidate_by value_at e.candidate) lv rv (aligned_in graph n ws) =
        held_candidate task.candidates.items (slice_index s e.place) e.candidate lv rv (aligned_in graph n ws) e.candidate_is (all e.place 0 e.before)
        in
        let one : value_at x.node lv ≡ value_at x.node rv = subst (λ (z : Candidate). CandidateHolds (candidate_by value_at z) lv rv
        (aligned_in graph n ws)) x.candidate_is holds in
        ap (λ (b : Bits). b.value) (l_word i x.register) ∙
        (sym (first_values (left_of graph ws) x.node i some x.within x.node_is) ∙
        (one ∙ (first_values (right_of graph ws) x.node i some x.within x.node_is ∙ sym (ap (λ (b : Bits). b.value) (r_word i x.register)))))

    abbrev SameNumbers : List ℕ → Type 0
    SameNumbers l = (i : ℕ) → IsKeptEqual graph task.candidates.items l (length l) i →
        number_in b0 ws (slice_index left i) ≡ number_in b0 ws (slice_index right i)

    none_kept : SameNumbers []
    none_kept i e = absurd (omega (arith, e.before))

    kept_same : (p : Query) → n ≡ cycles_of (asked p) task.lookahead →
        Meets task s p (map (of_cycle task) lcs) (map (of_cycle task) rcs) (aligned_in graph n ws) → SameNumbers (held_first p s)
    kept_same Initial e m = none_kept
    kept_same Allowed e m = none_kept
    kept_same Base e m = none_kept
    kept_same Step e m = held_number m.0.1 (omega arith)
    kept_same Imply e m = held_number m.0.1 (omega arith)

    meets_here : number_in b4 ws whole ≡ 1 → IsMetBy (task_machine task) task.lookahead s (asked q) lcs rcs (aligned_in graph n ws)
    meets_here e =
        let on : (is_on b3 ws alike && is_on b3 ws at) ≡ true = on_one (is_on b3 ws alike && is_on b3 ws at) (sym (w.is ws) ∙ e) in
        let same : is_on bs ws alike ≡ true = sym (on_kept bs b3 ws alike s3 sh.within) ∙ first_on (is_on b3 ws alike) (is_on b3 ws at) on in
        meets_met task s q lcs rcs (aligned_in graph n ws) are_runs (many (left_of graph ws) ∙
        is_n) (there same (g.holds ws (second_on (is_on b3 ws alike) (is_on b3 ws at) on)))

    met_here : IsMetBy (task_machine task) task.lookahead s (asked q) lcs rcs (aligned_in graph n ws) → number_in b4 ws whole ≡ 1
    met_here m =
        let r : FromRuns = met_meets task s q lcs rcs (aligned_in graph n ws) m in
        let same : is_on bs ws alike ≡ true = sh.met ws (kept_same q is_n r) in
        w.is ws ∙ one_on (is_on b3 ws alike && is_on b3 ws at) (both_on (is_on b3 ws alike) (is_on b3 ws at) (on_kept bs b3 ws alike s3 sh.within ∙
        same) (g.back ws (back same r)))

  abbrev Met : ℕ → List Bits → Type 0
  Met c ws = IsMetBy (task_machine task) task.lookahead s (asked q) (unrolled (stepper_of graph) (left_of graph ws) (cycles_in graph c ws))
      (unrolled (stepper_of graph) (right_of graph ws) (cycles_in graph c ws)) (aligned_in graph c ws)

  pub goal_is : IsGoalOf graph (observers_of task) task.lookahead s (asked q) b4 whole
  unfolding number_in word_in
  goal_is = record {
    closed = w.extends.registers ∙ (g.extends.registers ∙ (s2.registers ∙ o.opens.registers));
    within = w.within;
    one = w.width;
    widths = widths ∙ ap (product_widths graph) is_n;
    meets = λ ws f v e. subst (λ (c : ℕ). Met c ws) is_n (meets_here ws (fitting (product_widths graph n) b4 ws widths f v) e);
    met = λ ws f v m. met_here ws (fitting (product_widths graph n) b4 ws widths f v) (subst (λ (c : ℕ). Met c ws) (sym is_n) m);
  }

pub no_nexts : (net : Net) → net.registers ≡ [] → HasNexts net
no_nexts net e = λ i lt. absurd (let none : length net.registers ≡ 0 = ap length e in omega arith)

pub inputs_count : (graph : Net) (o : Observers GraphCycle) (b n : ℕ) (s : List ℕ) (q : Asked) (net : Net) (goal : ℕ) → n ≡ cycles_of q b →
    IsGoalOf graph o b s q net goal → length net.inputs ≡ length graph.registers + length graph.registers + n * length graph.inputs + 1
inputs_count graph o b n s q net goal e h =
    sym (length-map net.inputs (λ (p : List ℕ × ℕ). p.1)) ∙ (ap length h.widths ∙
    (ap (λ (c : ℕ). length (product_widths graph c)) (sym e) ∙ length_product graph n))
