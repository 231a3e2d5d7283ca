-- Initial pairs and allowed inputs: with whatever list, input and state.
use Rattle.std.proofs.Common.{◌≡◌, ◌≢◌, ℕ, ◌<◌, Bool, List, [], ◌∷◌, length, map, get_or, refl, sym, ◌∙◌, subst, arith}
use Rattle.std.specs.Prelude.{All}
use Rattle.std.proofs.lemmas.List.{length-map, get_or-map}
use Rattle.std.proofs.lemmas.List.Elements.{All-map}
use Rattle.lv_bits.specs.Words.{Bits}
use Rattle.lv_clauses.specs.Sets.{SetValue}
use Rattle.lv_model.specs.Machine.{Machine, Initial as AskedInitial, Allowed as AskedAllowed, IsInitial}
use Rattle.lv_model.specs.Meeting.{IsMetBy}
use Rattle.lv_model.specs.Stepper.{unrolled}
use Rattle.lv_netlist.specs.Net.{Net}
use Rattle.lv_netlist.specs.Queries.{AreMeeting, left_of, right_of, cycles_in, aligned_in, register_widths, port_widths}
use Rattle.lv_netlist.specs.Stepping.{GraphCycle, stepper_of, node_value}
use Rattle.lv_netlist.specs.declared.graph.Inputs.{Inputs}
use Rattle.lv_product.specs.declared.task.Task.{Task}
use Rattle.lv_product.specs.declared.task.Pair.{Pair}
use Rattle.lv_product.specs.declared.task.Query.{Query}
use Rattle.lv_product.specs.declared.task.Query.TheVariants.{Initial, Allowed}
use Rattle.lv_product.specs.Tasks.{IsStateNode, IsInputNode}
use Rattle.lv_product.specs.Pairs.{words_of}
use Rattle.lv_product.specs.Queries.{task_machine, observers_of, asked}
use Rattle.lv_stands.specs.Stands.{query_words}
use Rattle.lv_learner.specs.Meeting.{Meets, Stands, run_from}
use Rattle.lv_learner.specs.Cuts.{IsStateOf, IsInputOf, cut, cycle, AreInitialValues, AreAllowedValues}
use Rattle.lv_learner.proofs.Words.{values_in, state_back, input_back}

-- ---- with whatever list

met_by_any : {V : Type 0} (m : Machine V) (b : ℕ) (s t : List ℕ) (ls rs : List V) (a : Bool) → IsMetBy m b s AskedInitial ls rs a → IsMetBy m b t AskedInitial ls rs a
met_by_any m b s t [] rs a h = absurd h
met_by_any m b s t (l ∷ ls) [] a h = absurd h
met_by_any m b s t (l ∷ ls) (r ∷ rs) a h = h

allowed_by_any : {V : Type 0} (m : Machine V) (b : ℕ) (s t : List ℕ) (ls rs : List V) (a : Bool) → IsMetBy m b s AskedAllowed ls rs a → IsMetBy m b t AskedAllowed ls rs a
allowed_by_any m b s t [] rs a h = absurd h
allowed_by_any m b s t (l ∷ ls) [] a h = absurd h
allowed_by_any m b s t (l ∷ ls) (r ∷ rs) a h = h

pub initial_any : (task : Task) (s t : List ℕ) (pair : Pair) → Meets task s Initial pair → Meets task t Initial pair
initial_any task s t pair h =
    met_by_any (task_machine task) task.lookahead s t (run_from task pair.left.items pair) (run_from task pair.right.items pair) pair.aligned h

pub allowed_any : (task : Task) (s t : List ℕ) (pair : Pair) → Meets task s Allowed pair → Meets task t Allowed pair
allowed_any task s t pair h =
    allowed_by_any (task_machine task) task.lookahead s t (run_from task pair.left.items pair) (run_from task pair.right.items pair) pair.aligned h

abbrev Meeting : Task → List ℕ → Query → List Bits → Type 0
Meeting task s q words = AreMeeting task.graph (observers_of task) task.lookahead s (asked q) words

initial_meeting : (task : Task) (s t : List ℕ) (words : List Bits) → Meeting task s Initial words → Meeting task t Initial words
initial_meeting task s t words h =
    let net : Net = task.graph in
    let is : List (List Bits) = cycles_in net 1 words in
    met_by_any (task_machine task) task.lookahead s t (unrolled (stepper_of net) (left_of net words) is) (unrolled (stepper_of net) (right_of net words) is)
    (aligned_in net 1 words) h

allowed_meeting : (task : Task) (s t : List ℕ) (words : List Bits) → Meeting task s Allowed words → Meeting task t Allowed words
allowed_meeting task s t words h =
    let net : Net = task.graph in
    let is : List (List Bits) = cycles_in net 1 words in
    allowed_by_any (task_machine task) task.lookahead s t (unrolled (stepper_of net) (left_of net words) is) (unrolled (stepper_of net) (right_of net words) is)
    (aligned_in net 1 words) h

pub initial_stands : (set : SetValue) (task : Task) (s t : List ℕ) → Stands set task s Initial → Stands set task t Initial
initial_stands set task s t st = record {
  vars = st.vars;
  decided = st.decided;
  meets = λ v sat. initial_meeting task s t (query_words task.graph task.lookahead AskedInitial v) (st.meets v sat);
  met = λ v m. st.met v (initial_meeting task t s (query_words task.graph task.lookahead AskedInitial v) m);
}

pub allowed_stands : (set : SetValue) (task : Task) (s t : List ℕ) → Stands set task s Allowed → Stands set task t Allowed
allowed_stands set task s t st = record {
  vars = st.vars;
  decided = st.decided;
  meets = λ v sat. allowed_meeting task s t (query_words task.graph task.lookahead AskedAllowed v) (st.meets v sat);
  met = λ v m. st.met v (allowed_meeting task t s (query_words task.graph task.lookahead AskedAllowed v) m);
}

-- ---- with whatever input and state

-- what holds of each mapped element
from_mapped : {X Y : Type 0} (P : Y → Type 0) (f : X → Y) (xs : List X) → All P (map f xs) → All (λ x. P (f x)) xs
from_mapped P f xs h = λ i d lt. subst P (get_or-map f xs i d (f d) lt) (h i (f d) (omega (arith, length-map xs f)))

initial_at : (task : Task) (l r i j : List Bits) → All (IsStateNode task.graph) task.equal.items → All (IsStateNode task.graph) task.each.items →
    IsInputOf task.graph j → IsInitial (task_machine task) (cycle l i) (cycle r i) → IsInitial (task_machine task) (cycle l j) (cycle r j)
initial_at task l r i j equal each jfits h =
    let net : Net = task.graph in
    let sl : IsStateOf net l = h.left.0 in
    let sr : IsStateOf net r = h.right.0 in
    let fi : IsInputOf net i = h.left.1 in
    let eq_i : All (λ (k : ℕ). node_value net k (cycle l i) ≡ node_value net k (cycle r i)) task.equal.items =
    from_mapped (λ (e : GraphCycle → ℕ). e (cycle l i) ≡ e (cycle r i)) (node_value net) task.equal.items h.initial.0 in
    let ea_i : All (λ (k : ℕ). (node_value net k (cycle l i) ≢ 0) × (node_value net k (cycle r i) ≢ 0)) task.each.items =
    from_mapped (λ (e : GraphCycle → ℕ). (e (cycle l i) ≢ 0) × (e (cycle r i) ≢ 0)) (node_value net) task.each.items h.initial.1 in
    let eq_j : All (λ (k : ℕ). node_value net k (cycle l j) ≡ node_value net k (cycle r j)) task.equal.items = λ n d lt.
    let node = equal n d lt in sym (node.1 l i j sl fi jfits) ∙ (eq_i n d lt ∙ node.1 r i j sr fi jfits) in
    let ea_j : All (λ (k : ℕ). (node_value net k (cycle l j) ≢ 0) × (node_value net k (cycle r j) ≢ 0)) task.each.items = λ n d lt.
    let node = each n d lt in
    (λ e. (ea_i n d lt).0 (node.1 l i j sl fi jfits ∙ e), λ e. (ea_i n d lt).1 (node.1 r i j sr fi jfits ∙ e)) in
    record {
      left = (sl, jfits);
      right = (sr, jfits);
      same_inputs = refl;
      initial = (
        All-map (λ (e : GraphCycle → ℕ). e (cycle l j) ≡ e (cycle r j)) (node_value net) task.equal.items eq_j,
        All-map (λ (e : GraphCycle → ℕ). (e (cycle l j) ≢ 0) × (e (cycle r j) ≢ 0)) (node_value net) task.each.items ea_j,
      );
    }

initial_from : (task : Task) (s : List ℕ) (left right : List Bits) (inputs : List Inputs) (a : Bool) →
    All (IsStateNode task.graph) task.equal.items → All (IsStateNode task.graph) task.each.items →
    IsMetBy (task_machine task) task.lookahead s AskedInitial (unrolled (stepper_of task.graph) left (words_of inputs))
    (unrolled (stepper_of task.graph) right (words_of inputs)) a →
    AreInitialValues task (values_in left) (values_in right)
initial_from task s left right [] a equal each h = absurd h
initial_from task s left right (i ∷ is) a equal each h =
    let net : Net = task.graph in
    let sl : IsStateOf net left = h.left.0 in
    let sr : IsStateOf net right = h.right.0 in
    let m : Machine GraphCycle = task_machine task in
    record {
      left_count = length-map left (λ (w : Bits). w.value) ∙ sl.0.count;
      right_count = length-map right (λ (w : Bits). w.value) ∙ sr.0.count;
      initial = λ j jfits.
          subst (λ (x : List Bits). IsInitial m (cycle x j) (cycle (cut (register_widths net) (values_in right)) j)) (sym (state_back net left sl))
          (subst (λ (x : List Bits). IsInitial m (cycle left j) (cycle x j)) (sym (state_back net right sr))
          (initial_at task left right i.words.items j equal each jfits h));
    }

pub initial_values : (task : Task) (s : List ℕ) (pair : Pair) → All (IsStateNode task.graph) task.equal.items → All (IsStateNode task.graph) task.each.items →
    Meets task s Initial pair → AreInitialValues task (values_in pair.left.items) (values_in pair.right.items)
initial_values task s pair equal each h = initial_from task s pair.left.items pair.right.items pair.inputs.items pair.aligned equal each h

allowed_at : (task : Task) (s t i : List Bits) → All (IsInputNode task.graph) task.assume.items → IsStateOf task.graph s → IsStateOf task.graph t → IsInputOf task.graph i →
    (task_machine task).IsAllowed (cycle s i) → (task_machine task).IsAllowed (cycle t i)
allowed_at task s t i assume fs ft fi h =
    let net : Net = task.graph in
    let at_s : All (λ (k : ℕ). node_value net k (cycle s i) ≢ 0) task.assume.items =
    from_mapped (λ (e : GraphCycle → ℕ). e (cycle s i) ≢ 0) (node_value net) task.assume.items h in
    let at_t : All (λ (k : ℕ). node_value net k (cycle t i) ≢ 0) task.assume.items = λ n d lt. λ e. at_s n d lt ((assume n d lt).1 s t i fs ft fi ∙ e) in
    All-map (λ (e : GraphCycle → ℕ). e (cycle t i) ≢ 0) (node_value net) task.assume.items at_t

pub allowed_values : (task : Task) (s : List ℕ) (left right : List Bits) (inputs : List Inputs) (a : Bool) (x : Inputs) → All (IsInputNode task.graph) task.assume.items →
    IsMetBy (task_machine task) task.lookahead s AskedAllowed (unrolled (stepper_of task.graph) left (words_of inputs))
    (unrolled (stepper_of task.graph) right (words_of inputs)) a →
    x ≡ get_or inputs 0 x → AreAllowedValues task (values_in x.words.items)
allowed_values task s left right [] a x assume h e = absurd h
allowed_values task s left right (i ∷ is) a x assume h e =
    let net : Net = task.graph in
    let fi : IsInputOf net i.words.items = h.0.1 in
    let c : cut (port_widths net) (values_in i.words.items) ≡ i.words.items = input_back net i.words.items fi in
    let here : AreAllowedValues task (values_in i.words.items) = record {
      count = length-map i.words.items (λ (w : Bits). w.value) ∙ fi.0.count;
      fits = subst (IsInputOf net) (sym c) fi;
      allowed = λ t ft. subst (λ (y : List Bits). (task_machine task).IsAllowed (cycle t y)) (sym c) (allowed_at task left t i.words.items assume h.0.0 ft fi h.1);
    } in
    subst (λ (y : Inputs). AreAllowedValues task (values_in y.words.items)) (sym e) here

pub has_input : (task : Task) (s : List ℕ) (left right : List Bits) (inputs : List Inputs) (a : Bool) →
    IsMetBy (task_machine task) task.lookahead s AskedAllowed (unrolled (stepper_of task.graph) left (words_of inputs))
    (unrolled (stepper_of task.graph) right (words_of inputs)) a → 0 < length inputs
has_input task s left right [] a h = absurd h
has_input task s left right (i ∷ is) a h = omega arith
