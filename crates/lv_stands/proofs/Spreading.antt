-- From two runs that meet a query to words that do, and back.
use Rattle.std.proofs.Common.{◌≡◌, ℕ, suc, Bool, true, List, [], ◌∷◌, length, map, refl, sym, ◌∙◌, ap, subst}
use Rattle.std.specs.List.{AllByRecursion, AllZip}
use Rattle.std.proofs.lemmas.List.{length-map}
use Rattle.lv_bits.specs.Words.{Bits}
use Rattle.lv_bits.proofs.Digits.{values_have_words, at_place, all_digits}
use Rattle.lv_model.specs.Machine.{Machine, Query, Initial, Allowed, Base, Step, Imply, IsRun, IsMet}
use Rattle.lv_model.specs.Meeting.{IsMetBy, cycles_of}
use Rattle.lv_model.specs.Stepper.{Stepper, unrolled}
use Rattle.lv_model.specs.Design.{Observers}
use Rattle.lv_model.proofs.Unrolled.{run_is_unrolled, same_inputs_are_one}
use Rattle.lv_model.proofs.Meets.{met_from}
use Rattle.lv_netlist.specs.Net.{Net}
use Rattle.lv_netlist.specs.Stepping.{GraphCycle, stepper_of, graph_machine}
use Rattle.lv_netlist.specs.Queries.{AreMeeting, product_widths, left_of, right_of, cycles_in, aligned_in}
use Rattle.lv_stands.specs.Stands.{query_words}
use Rattle.lv_stands.proofs.Joining.{IsInputOf, joined, joined_holds, joined_widths, left_part, right_part, cycles_part, aligned_part}

module _ (net : Net) (o : Observers GraphCycle) (b : ℕ) (s : List ℕ) (q : Query) where
  -- two runs of as many cycles as the query has, under the same inputs, that meet it
  record Spread : Type 0 where
    l : GraphCycle
    ls : List GraphCycle
    r : GraphCycle
    rs : List GraphCycle
    a : Bool
    left : IsRun (graph_machine net o) (l ∷ ls)
    right : IsRun (graph_machine net o) (r ∷ rs)
    same : AllZip (graph_machine net o).SameInputs (l ∷ ls) (r ∷ rs)
    count : length (l ∷ ls) ≡ cycles_of q b
    meets : IsMetBy (graph_machine net o) b s q (l ∷ ls) (r ∷ rs) a

  -- the parts of words meet a query where the words do
  by_parts :
      (words l r : List Bits) (is : List (List Bits)) (a : Bool) →
      let n = cycles_of q b in
      left_of net words ≡ l → right_of net words ≡ r → cycles_in net n words ≡ is → aligned_in net n words ≡ a →
      IsMetBy (graph_machine net o) b s q (unrolled (stepper_of net) l is) (unrolled (stepper_of net) r is) a → AreMeeting net o b s q words
  by_parts words l r is a el er ei ea h =
      let n : ℕ = cycles_of q b in
      let t : Stepper (List Bits) (List Bits) = stepper_of net in
      let P : List Bits → List Bits → List (List Bits) → Bool → Type 0 = λ l r is a. IsMetBy (graph_machine net o) b s q (unrolled t l is) (unrolled t r is) a in
      subst (λ (x : List Bits). P x (right_of net words) (cycles_in net n words) (aligned_in net n words)) (sym el)
      (subst (λ (x : List Bits). P l x (cycles_in net n words) (aligned_in net n words)) (sym er)
      (subst (λ (x : List (List Bits)). P l r x (aligned_in net n words)) (sym ei)
      (subst (λ (x : Bool). P l r is x) (sym ea) h)))

  -- words that meet a query are two runs that do
  pub meeting_met : (words : List Bits) → AreMeeting net o b s q words → IsMet (graph_machine net o) b s q
  meeting_met words h =
      let n : ℕ = cycles_of q b in
      let t : Stepper (List Bits) (List Bits) = stepper_of net in
      met_from (graph_machine net o) b s q (unrolled t (left_of net words) (cycles_in net n words)) (unrolled t (right_of net words) (cycles_in net n words)) (aligned_in net n words) h

spread : (net : Net) (o : Observers GraphCycle) (b : ℕ) (s : List ℕ) (q : Query) → IsMet (graph_machine net o) b s q → Spread net o b s q
spread net o b s Initial (l, r, h) = record { l = l; ls = []; r = r; rs = []; a = true; left = (h.left, tt, tt); right = (h.right, tt, tt); same = (h.same_inputs, tt); count = refl; meets = h }
spread net o b s Allowed (v, settled, allowed) =
    record { l = v; ls = []; r = v; rs = []; a = true; left = (settled, tt, tt); right = (settled, tt, tt); same = (refl, tt); count = refl; meets = (settled, allowed) }
spread net o b s Base (l, r, h, fails) =
    record { l = l; ls = []; r = r; rs = []; a = true; left = (h.left, tt, tt); right = (h.right, tt, tt); same = (h.same_inputs, tt); count = refl; meets = (h, refl, fails) }
spread net o b s Step (l, l', ls, r, r', rs, a, w, all, fails) =
    record { l = l; ls = l' ∷ ls; r = r; rs = r' ∷ rs; a = a; left = w.left; right = w.right; same = w.same_inputs; count = w.count; meets = (w, all, fails) }
spread net o b s Imply (l, ls, r, rs, a, w, all, differ) =
    record { l = l; ls = ls; r = r; rs = rs; a = a; left = w.left; right = w.right; same = w.same_inputs; count = w.count; meets = (w, all, differ) }

run_inputs : (net : Net) (o : Observers GraphCycle) (vs : List GraphCycle) → IsRun (graph_machine net o) vs → AllByRecursion (IsInputOf net) (map (λ (c : GraphCycle). c.input) vs)
run_inputs net o [] h = tt
run_inputs net o (v ∷ vs) h = (h.0.1, run_inputs net o vs h.2)

-- where a query can be met, some values of its bits meet it
pub met_by_bits :
    (net : Net) (o : Observers GraphCycle) (b : ℕ) (s : List ℕ) (q : Query) → IsMet (graph_machine net o) b s q →
    (values : ℕ → Bool) × AreMeeting net o b s q (query_words net b q values)
met_by_bits net o b s q can =
    let x : Spread net o b s q = spread net o b s q can in
    let m : Machine GraphCycle = graph_machine net o in
    let n : ℕ = cycles_of q b in
    let t : Stepper (List Bits) (List Bits) = stepper_of net in
    let is : List (List Bits) = map (λ (c : GraphCycle). c.input) (x.l ∷ x.ls) in
    let js : List (List Bits) = map (λ (c : GraphCycle). c.input) (x.r ∷ x.rs) in
    let el : x.l ∷ x.ls ≡ unrolled t x.l.state is = run_is_unrolled t o x.l x.ls x.left in
    let er : x.r ∷ x.rs ≡ unrolled t x.r.state js = run_is_unrolled t o x.r x.rs x.right in
    let ij : is ≡ js = same_inputs_are_one t o (x.l ∷ x.ls) (x.r ∷ x.rs) x.same in
    let er' : x.r ∷ x.rs ≡ unrolled t x.r.state is = er ∙ ap (unrolled t x.r.state) (sym ij) in
    let hi : AllByRecursion (IsInputOf net) is = run_inputs net o (x.l ∷ x.ls) x.left in
    let count : length is ≡ n = length-map (x.l ∷ x.ls) (λ (c : GraphCycle). c.input) ∙ x.count in
    let met : IsMetBy m b s q (unrolled t x.l.state is) (unrolled t x.r.state is) x.a =
    subst (λ (y : List GraphCycle). IsMetBy m b s q y (unrolled t x.r.state is) x.a) el
    (subst (λ (y : List GraphCycle). IsMetBy m b s q (x.l ∷ x.ls) y x.a) er' x.meets) in
    let words : List Bits = joined x.l.state x.r.state is x.a in
    let hl = x.left.0.0 in
    let hr = x.right.0.0 in
    let are : AreMeeting net o b s q words =
    by_parts net o b s q words x.l.state x.r.state is x.a
    (left_part net x.l.state _ hl.0.count)
    (right_part net x.l.state x.r.state _ hl.0.count hr.0.count)
    (cycles_part net x.l.state x.r.state is x.a n hl hr hi count)
    (aligned_part net x.l.state x.r.state is x.a n hl hr hi count)
    met in
    let same : query_words net b q (at_place (all_digits words)) ≡ words =
    values_have_words (product_widths net n) words (joined_widths net x.l.state x.r.state is x.a n hl hr hi count) (joined_holds net x.l.state x.r.state is x.a hl hr hi) in
    (at_place (all_digits words), subst (AreMeeting net o b s q) (sym same) are)
