-- The goal over both copies is that of the query, for the candidates whose switches aren't 0.
use Rattle.std.proofs.Common.{◌≡◌, ℕ, suc, ◌+◌, ◌*◌, ◌<◌, Bool, true, false, List, [], ◌∷◌, length, map, get_or, refl, sym, ◌∙◌, ap, subst, arith}
use Rattle.std.proofs.Math.Seq.{take-length}
use Rattle.std.proofs.lemmas.List.{length-map, get_or-map}
use Rattle.std.specs.List.{AllByRecursion}
use Rattle.lv_bits.specs.Words.{Bits}
use Rattle.lv_bits.specs.Values.{bit}
use Rattle.lv_model.specs.Machine.{Query as Asked}
use Rattle.lv_model.specs.Meeting.{IsMetBy, cycles_of}
use Rattle.lv_model.specs.Design.{Observers}
use Rattle.lv_model.specs.Stepper.{Stepper, unrolled}
use Rattle.lv_model.proofs.Unrolled.{one_input_is_same}
use Rattle.lv_netlist.specs.Net.{Net, register_width, input_width}
use Rattle.lv_netlist.specs.Fits.{FitsInputs}
use Rattle.lv_netlist.specs.Stepping.{GraphCycle, stepper_of, run_of}
use Rattle.lv_netlist.specs.Queries.{port_widths, product_widths, left_of, right_of, cycles_in, aligned_in}
use Rattle.lv_unroll.specs.declared.copies.Nodes.{Nodes}
use Rattle.lv_unroll.specs.Wires.{word_in, number_in, is_on, Extends}
use Rattle.lv_unroll.specs.Unrolls.{words_in, IsCycle, Unrolls}
use Rattle.lv_unroll.specs.Agreements.{GivesFact}
use Rattle.lv_unroll.proofs.Growing.{extends_trans}
use Rattle.lv_unroll.proofs.Copying.{alike_words}
use Rattle.lv_unroll.proofs.Slotting.{on_kept}
use Rattle.lv_product.specs.declared.task.Task.{Task}
use Rattle.lv_product.specs.declared.task.Query.{Query}
use Rattle.lv_product.specs.Queries.{observers_of, task_machine, asked}
use Rattle.lv_product.specs.Meets.{Cycles, cycles_by, Meets, CopiesMeet}
use Rattle.lv_product.specs.Trimming.{IsTrimmed}
use Rattle.lv_product.proofs.Telling.{cycles_kept}
use Rattle.lv_product.proofs.Carrying.{AreRuns, meets_met, met_meets, of_cycle}
use Rattle.lv_product.proofs.Concluding.{HasRuns, fitting}
use Rattle.lv_product.proofs.Parts.{HaveWidths, length_product, length_pieces}
use Rattle.lv_switched.specs.Switches.{switched_on, switched_widths, IsSwitchedGoalOf}
use Rattle.lv_switched.specs.Opened.{AreOpened}
use Rattle.lv_switched.proofs.Places.{length_switched, right_states, inputs_cycles, aligned_within, left_words, right_words, input_words, aligned_word, left_state, right_state, cycle_inputs}

cycle_words : (old new graph : Net) (ws : List Bits) (is : List Nodes) → Extends old new → AllByRecursion (IsCycle old graph) is →
    map (words_in new ws) is ≡ map (words_in old ws) is
cycle_words old new graph ws [] s h = refl
cycle_words old new graph ws (i ∷ is) s h =
    ap (λ (x : List Bits). x ∷ map (words_in new ws) is) (alike_words old new ws (length graph.inputs) (input_width graph) i.list.items s h.0) ∙
    ap (λ (xs : List (List Bits)). words_in old ws i ∷ xs) (cycle_words old new graph ws is s h.1)

length_unrolled : (t : Stepper (List Bits) (List Bits)) (s : List Bits) (is : List (List Bits)) → length (unrolled t s is) ≡ length is
length_unrolled t s [] = refl
length_unrolled t s (i ∷ is) = ap suc (length_unrolled t (t.next s i) is)

on_one : (t : Bool) → bit t ≡ 1 → t ≡ true
on_one true e = refl
on_one false e = cc

module _ (task : Task) (q : Query) (n count : ℕ) (is_n : n ≡ cycles_of (asked q) task.lookahead) (runs : HasRuns task.graph)
    (b0 b1 b2 b3 : Net) (aligned at : ℕ) (left right : List ℕ) (inputs ls rs : List Nodes)
    (o : AreOpened task.graph b0 n count aligned left right inputs) (ul : Unrolls task.graph b0 b1 left inputs ls) (ur : Unrolls task.graph b1 b2 right inputs rs)
    (g : GivesFact b2 b3 at (λ ws. CopiesMeet b2 task (switched_on (length (product_widths task.graph n)) count ws) q ls rs aligned ws)) where
  abbrev graph : Net
  graph = task.graph

  abbrev numbers : ℕ → List Bits → List ℕ
  numbers c ws = switched_on (length (product_widths graph c)) count ws

  s2 : Extends b0 b2
  s2 = extends_trans b0 b1 b2 ul.extends ur.extends

  widths : port_widths b3 ≡ switched_widths graph n count
  widths = ap (map (λ (p : List ℕ × ℕ). p.1)) (g.extends.inputs ∙ s2.inputs) ∙ (o.opens.ports ∙ take-length (switched_widths graph n count))

  module _ (ws : List Bits) (h : HaveWidths (switched_widths graph n count) ws) where
    abbrev t : Stepper (List Bits) (List Bits)
    t = stepper_of graph

    abbrev is : List (List Bits)
    is = cycles_in graph n ws

    abbrev lcs : List GraphCycle
    lcs = unrolled t (left_of graph ws) is

    abbrev rcs : List GraphCycle
    rcs = unrolled t (right_of graph ws) is

    i_words : map (words_in b0 ws) inputs ≡ is
    i_words = input_words graph b0 n count aligned left right inputs o ws h.count

    left_is : cycles_by b2 ls ws ≡ map (of_cycle task) lcs
    left_is =
        cycles_kept b1 b2 graph ws ls ur.extends ul.copies ∙
        (ul.are ws ∙
        (ap (λ (x : List Bits). run_of graph x (map (words_in b0 ws) inputs)) (left_words graph b0 n count aligned left right inputs o ws h.count) ∙
        ap (run_of graph (left_of graph ws)) i_words))

    right_is : cycles_by b2 rs ws ≡ map (of_cycle task) rcs
    right_is =
        ur.are ws ∙
        (ap (λ (x : List Bits). run_of graph x (map (words_in b1 ws) inputs))
        (alike_words b0 b1 ws (length graph.registers) (register_width graph) right ul.extends (right_states graph b0 n count aligned left right inputs o) ∙
        right_words graph b0 n count aligned left right inputs o ws h.count) ∙
        ap (run_of graph (right_of graph ws)) (cycle_words b0 b1 graph ws inputs ul.extends (inputs_cycles graph b0 n count aligned left right inputs o) ∙
        i_words))

    aligned_is : is_on b2 ws aligned ≡ aligned_in graph n ws
    aligned_is = on_kept b0 b2 ws aligned s2 (aligned_within graph b0 n count aligned left right inputs o) ∙
        aligned_word graph b0 n count aligned left right inputs o ws h.count

    are_runs : AreRuns task lcs rcs
    are_runs = record {
      left = runs (observers_of task) (left_of graph ws) is (left_state graph n count ws h) (cycle_inputs graph n count ws h);
      right = runs (observers_of task) (right_of graph ws) is (right_state graph n count ws h) (cycle_inputs graph n count ws h);
      same = one_input_is_same t (observers_of task) (left_of graph ws) (right_of graph ws) is;
    }

    many : length lcs ≡ n
    many = length_unrolled t (left_of graph ws) is ∙ length_pieces (length graph.inputs) n _

    there : CopiesMeet b2 task (numbers n ws) q ls rs aligned ws → Meets task (numbers n ws) q (map (of_cycle task) lcs) (map (of_cycle task) rcs) (aligned_in graph n ws)
    there m =
        subst (λ (x : Cycles). Meets task (numbers n ws) q x (map (of_cycle task) rcs) (aligned_in graph n ws)) left_is
        (subst (λ (x : Cycles). Meets task (numbers n ws) q (cycles_by b2 ls ws) x (aligned_in graph n ws)) right_is
        (subst (Meets task (numbers n ws) q (cycles_by b2 ls ws) (cycles_by b2 rs ws)) aligned_is m))

    back : Meets task (numbers n ws) q (map (of_cycle task) lcs) (map (of_cycle task) rcs) (aligned_in graph n ws) → CopiesMeet b2 task (numbers n ws) q ls rs aligned ws
    back m =
        subst (Meets task (numbers n ws) q (cycles_by b2 ls ws) (cycles_by b2 rs ws)) (sym aligned_is)
        (subst (λ (x : Cycles). Meets task (numbers n ws) q (cycles_by b2 ls ws) x (aligned_in graph n ws)) (sym right_is)
        (subst (λ (x : Cycles). Meets task (numbers n ws) q x (map (of_cycle task) rcs) (aligned_in graph n ws)) (sym left_is) m))

    meets_here : number_in b3 ws at ≡ 1 → IsMetBy (task_machine task) task.lookahead (numbers n ws) (asked q) lcs rcs (aligned_in graph n ws)
    meets_here e =
        let on : is_on b3 ws at ≡ true = on_one (is_on b3 ws at) (sym (g.is ws) ∙ e) in
        meets_met task (numbers n ws) q lcs rcs (aligned_in graph n ws) are_runs (many ∙ is_n) (there (g.holds ws on))

    met_here : IsMetBy (task_machine task) task.lookahead (numbers n ws) (asked q) lcs rcs (aligned_in graph n ws) → number_in b3 ws at ≡ 1
    met_here m = g.is ws ∙ ap bit (g.back ws (back (met_meets task (numbers n ws) q lcs rcs (aligned_in graph n ws) m)))

  abbrev Met : ℕ → List Bits → Type 0
  Met c ws = IsMetBy (task_machine task) task.lookahead (numbers c ws) (asked q) (unrolled (stepper_of graph) (left_of graph ws) (cycles_in graph c ws))
      (unrolled (stepper_of graph) (right_of graph ws) (cycles_in graph c ws)) (aligned_in graph c ws)

  pub goal_is : IsSwitchedGoalOf graph (observers_of task) task.lookahead count (asked q) b3 at
  unfolding number_in word_in
  goal_is = record {
    closed = g.extends.registers ∙ (s2.registers ∙ o.opens.registers);
    within = g.within;
    one = g.width;
    widths = widths ∙ ap (λ (c : ℕ). switched_widths graph c count) is_n;
    meets = λ ws f v e. subst (λ (c : ℕ). Met c ws) is_n (meets_here ws (fitting (switched_widths graph n count) b3 ws widths f v) e);
    met = λ ws f v m. met_here ws (fitting (switched_widths graph n count) b3 ws widths f v) (subst (λ (c : ℕ). Met c ws) (sym is_n) m);
  }

pub inputs_count : (graph : Net) (o : Observers GraphCycle) (b n count : ℕ) (q : Asked) (net : Net) (goal : ℕ) → n ≡ cycles_of q b →
    IsSwitchedGoalOf graph o b count q net goal → length net.inputs ≡ length graph.registers + length graph.registers + n * length graph.inputs + 1 + count
inputs_count graph o b n count q net goal e h =
    sym (length-map net.inputs (λ (p : List ℕ × ℕ). p.1)) ∙ (ap length h.widths ∙
    (ap (λ (c : ℕ). length (switched_widths graph c count)) (sym e) ∙
    (length_switched graph n count ∙ ap (λ (c : ℕ). c + count) (length_product graph n))))

-- the same goal where only what it rests on is left
pub still_goal : (graph : Net) (o : Observers GraphCycle) (b count : ℕ) (q : Asked) (whole net : Net) (goal at : ℕ) →
    IsSwitchedGoalOf graph o b count q whole goal → IsTrimmed whole net goal at → IsSwitchedGoalOf graph o b count q net at
unfolding word_in
still_goal graph o b c q whole net goal at h t =
    let count : length net.inputs ≡ length whole.inputs = sym (length-map net.inputs (λ (p : List ℕ × ℕ). p.1)) ∙
    (ap length t.ports ∙ length-map whole.inputs (λ (p : List ℕ × ℕ). p.1)) in
    let width : (i : ℕ) → i < length whole.inputs → input_width net i ≡ input_width whole i = λ i lt.
    sym (get_or-map (λ (p : List ℕ × ℕ). p.1) net.inputs i ([], 0) 0 (omega (arith, count))) ∙
    (ap (λ (l : List ℕ). get_or l i 0) t.ports ∙ get_or-map (λ (p : List ℕ × ℕ). p.1) whole.inputs i ([], 0) 0 lt) in
    let fits : (ws : List Bits) → FitsInputs net ws → FitsInputs whole ws = λ ws f. record {
      count = f.count ∙ count;
      widths = λ i lt. f.widths i (omega (arith, count)) ∙ width i lt;
    } in
    record {
      closed = t.registers;
      within = t.goal_is.within;
      one = t.goal_is.width ∙ h.one;
      widths = t.ports ∙ h.widths;
      meets = λ ws f w e. h.meets ws (fits ws f) w (sym (ap (λ (x : Bits). x.value) (t.goal_is.word ws)) ∙ e);
      met = λ ws f w m. ap (λ (x : Bits). x.value) (t.goal_is.word ws) ∙ h.met ws (fits ws f) w m;
    }
