-- What is tested of a moment, gate by gate.
use Rattle.std.proofs.Common.{◌≡◌, ℕ, ◌+◌, ◌<◌, ◌==◌, Bool, true, false, not, ◌&&◌, ◌||◌, List, length, take, get_or, slice_index, slice_get, Some, Option, refl, sym, ◌∙◌, ap, subst, arith}
use Rattle.std.proofs.lemmas.List.{get_or-map}
use Rattle.std.proofs.lemmas.List.Folds.{list_all_more}
use Rattle.std.specs.List.{list_all}
use Rattle.lv_bits.specs.Words.{Bits}
use Rattle.lv_bits.specs.Values.{bit}
use Rattle.lv_model.specs.Design.{holds_test}
use Rattle.lv_netlist.specs.Net.{Net, width_at}
use Rattle.lv_netlist.specs.Run.{no_bits}
use Rattle.lv_unroll.specs.Wires.{word_in, number_in, is_on, Extends, GivesTest}
use Rattle.lv_unroll.proofs.Growing.{extends_refl, extends_trans}
use Rattle.lv_unroll.proofs.Copying.{alike_kept, alike_words}
use Rattle.lv_unroll.proofs.Slotting.{on_kept}
use Rattle.lv_product.specs.declared.task.Candidate.{Candidate}
use Rattle.lv_product.specs.Queries.{candidate_by}
use Rattle.lv_product.specs.Values.{value_at, values_in, IsTableOf, AreNodes, is_met, is_same, holds_at, maybe_test, GivesTruth}

-- the number of a copy is that of the node
pub value_is : (net graph : Net) (ws : List Bits) (k x : ℕ) (table : List ℕ) → IsTableOf net graph table → k < length graph.nodes →
    x ≡ slice_index table k → number_in net ws x ≡ value_at k (values_in net table ws)
unfolding number_in
value_is net graph ws k x table h lt e =
    ap (number_in net ws) e ∙ ap (λ (b : Bits). b.value) (sym (get_or-map (word_in net ws) table k 0 no_bits (omega (arith, h.count))))

pub on_is : (net graph : Net) (ws : List Bits) (k x : ℕ) (table : List ℕ) → IsTableOf net graph table → k < length graph.nodes → x ≡ slice_index table k →
    is_on net ws x ≡ is_met (values_in net table ws) k
unfolding is_on
on_is net graph ws k x table h lt e = ap (λ (n : ℕ). not (n == 0)) (value_is net graph ws k x table h lt e)

-- values stay what they are
pub values_kept : (old new graph : Net) (ws : List Bits) (table : List ℕ) → Extends old new → IsTableOf old graph table →
    values_in new table ws ≡ values_in old table ws
values_kept old new graph ws table s h = alike_words old new ws (length graph.nodes) (width_at graph.nodes) table s h

pub table_kept : (old new graph : Net) (table : List ℕ) → Extends old new → IsTableOf old graph table → IsTableOf new graph table
table_kept old new graph table s h = alike_kept old new (length graph.nodes) (width_at graph.nodes) table s h

-- a test that is another one
pub test_like : (old new : Net) (at : ℕ) (f g : List Bits → Bool) → ((ws : List Bits) → f ws ≡ g ws) → GivesTest old new at f → GivesTest old new at g
test_like old new at f g e h = record {
  extends = h.extends;
  within = h.within;
  width = h.width;
  is = λ ws. h.is ws ∙ ap bit (e ws);
  on = λ ws. h.on ws ∙ e ws;
}

pub same_gives : (old new graph : Net) (at k x y : ℕ) (left right : List ℕ) → k < length graph.nodes → IsTableOf old graph left →
    IsTableOf old graph right → x ≡ slice_index left k → y ≡ slice_index right k → GivesTest old new at (λ ws. number_in old ws x == number_in old ws y) →
    GivesTest old new at (λ ws. is_same (values_in old left ws) (values_in old right ws) k)
same_gives old new graph at k x y left right lt hl hr ex ey g =
    test_like old new at (λ ws. number_in old ws x == number_in old ws y) (λ ws. is_same (values_in old left ws) (values_in old right ws) k)
    (λ ws. ap (λ (m : ℕ). m == number_in old ws y) (value_is old graph ws k x left hl lt ex) ∙
    ap (λ (m : ℕ). value_at k (values_in old left ws) == m) (value_is old graph ws k y right hr lt ey)) g

twice : (b : Bool) → not (not b) ≡ b
twice true = refl
twice false = refl

pub off_gives : (old new graph : Net) (at k x : ℕ) (table : List ℕ) → k < length graph.nodes → IsTableOf old graph table → x ≡ slice_index table k →
    GivesTest old new at (λ ws. not (is_on old ws x)) → GivesTest old new at (λ ws. value_at k (values_in old table ws) == 0)
off_gives old new graph at k x table lt h e g =
    test_like old new at (λ ws. not (is_on old ws x)) (λ ws. value_at k (values_in old table ws) == 0)
    (λ ws. ap not (on_is old graph ws k x table h lt e) ∙ twice (value_at k (values_in old table ws) == 0)) g

pub met_gives : (old new graph : Net) (at k x y : ℕ) (left right : List ℕ) → k < length graph.nodes → IsTableOf old graph left → IsTableOf old graph right →
    x ≡ slice_index left k → y ≡ slice_index right k → GivesTest old new at (λ ws. is_on old ws x && is_on old ws y) →
    GivesTest old new at (λ ws. is_met (values_in old left ws) k && is_met (values_in old right ws) k)
met_gives old new graph at k x y left right lt hl hr ex ey g =
    test_like old new at (λ ws. is_on old ws x && is_on old ws y) (λ ws. is_met (values_in old left ws) k && is_met (values_in old right ws) k)
    (λ ws. ap (λ (t : Bool). t && is_on old ws y) (on_is old graph ws k x left hl lt ex) ∙
    ap (λ (t : Bool). is_met (values_in old left ws) k && t) (on_is old graph ws k y right hr lt ey)) g

-- a test made of an earlier one
pub later_on : (a b c : Net) (at : ℕ) (f : List Bits → Bool) → GivesTest a b at f → Extends b c → (ws : List Bits) → is_on c ws at ≡ f ws
later_on a b c at f g s ws = on_kept b c ws at s g.within ∙ g.on ws

pub guarded_gives : (old b1 b2 b3 b4 new graph : Net) (same first second some at e guard : ℕ) (left right : List ℕ) → IsTableOf old graph left →
    IsTableOf old graph right → GivesTest old b1 same (λ ws. is_same (values_in old left ws) (values_in old right ws) e) →
    GivesTest b1 b2 first (λ ws. value_at guard (values_in b1 left ws) == 0) → GivesTest b2 b3 second (λ ws. value_at guard (values_in b2 right ws) == 0) →
    GivesTest b3 b4 some (λ ws. is_on b3 ws same || is_on b3 ws first) → GivesTest b4 new at (λ ws. is_on b4 ws some || is_on b4 ws second) →
    GivesTruth old new at (λ ws. (is_same (values_in old left ws) (values_in old right ws) e || (value_at guard (values_in old left ws) ==
    0)) || (value_at guard (values_in old right ws) == 0))
guarded_gives old b1 b2 b3 b4 new graph same first second some at e guard left right hl hr s f g o p =
    let e2 : Extends old b2 = extends_trans old b1 b2 s.extends f.extends in
    let e13 : Extends b1 b3 = extends_trans b1 b2 b3 f.extends g.extends in
    record {
      extends = extends_trans old b3 new (extends_trans old b2 b3 e2 g.extends) (extends_trans b3 b4 new o.extends p.extends);
      within = p.within;
      on = λ ws.
          let l : List Bits = values_in old left ws in
          let r : List Bits = values_in old right ws in
          let sx : is_on b3 ws same ≡ is_same l r e = later_on old b1 b3 same _ s e13 ws in
          let fx : is_on b3 ws first ≡ (value_at guard l == 0) = later_on b1 b2 b3 first _ f g.extends ws ∙
          ap (λ (v : List Bits). value_at guard v == 0) (values_kept old b1 graph ws left s.extends hl) in
          let gx : is_on b4 ws second ≡ (value_at guard r == 0) = later_on b2 b3 b4 second _ g o.extends ws ∙
          ap (λ (v : List Bits). value_at guard v == 0) (values_kept old b2 graph ws right e2 hr) in
          let ox : is_on b4 ws some ≡ (is_same l r e || (value_at guard l == 0)) = o.on ws ∙
          (ap (λ (t : Bool). t || is_on b3 ws first) sx ∙ ap (λ (t : Bool). is_same l r e || t) fx) in
          p.on ws ∙ (ap (λ (t : Bool). t || is_on b4 ws second) ox ∙ ap (λ (t : Bool). (is_same l r e || (value_at guard l == 0)) || t) gx);
    }

pub truth_of : (old new : Net) (at : ℕ) (f : List Bits → Bool) → GivesTest old new at f → GivesTruth old new at f
truth_of old new at f g = record { extends = g.extends; within = g.within; on = g.on }

-- ---- conjunctions over a list

-- one element more: it passes where the node `one` isn't 0
pub all_step : {X : Type 0} (old now mid new : Net) (k all one at : ℕ) (p : List Bits → X → Bool) (xs : List X) (d : X) → k < length xs →
    GivesTest old now all (λ ws. list_all (p ws) (take k xs)) → Extends now mid → ((ws : List Bits) → is_on mid ws one ≡ p ws (get_or xs k d)) →
    GivesTest mid new at (λ ws. is_on mid ws all && is_on mid ws one) → GivesTest old new at (λ ws. list_all (p ws) (take (k + 1) xs))
all_step old now mid new k all one at p xs d lt a s is g =
    let e : (ws : List Bits) → (is_on mid ws all && is_on mid ws one) ≡ list_all (p ws) (take (k + 1) xs) = λ ws.
    ap (λ (t : Bool). t && is_on mid ws one) (on_kept now mid ws all s a.within ∙ a.on ws) ∙
    (ap (λ (t : Bool). list_all (p ws) (take k xs) && t) (is ws) ∙ sym (list_all_more (p ws) xs k d lt)) in
    record {
      extends = extends_trans old mid new (extends_trans old now mid a.extends s) g.extends;
      within = g.within;
      width = g.width;
      is = λ ws. g.is ws ∙ ap bit (e ws);
      on = λ ws. g.on ws ∙ e ws;
    }

pub met_step : (old now new graph : Net) (k all at node x : ℕ) (nodes table : List ℕ) → IsTableOf old graph table → AreNodes graph nodes →
    k < length nodes → node ≡ slice_index nodes k → x ≡ slice_index table node →
    GivesTest old now all (λ ws. list_all (is_met (values_in old table ws)) (take k nodes)) →
    GivesTest now new at (λ ws. is_on now ws all && is_on now ws x) →
    GivesTest old new at (λ ws. list_all (is_met (values_in old table ws)) (take (k + 1) nodes))
met_step old now new graph k all at node x nodes table ht hn lt en ex a g =
    let within : node < length graph.nodes = subst (λ (j : ℕ). j < length graph.nodes) (sym en) (hn k lt) in
    all_step old now now new k all x at (λ ws. is_met (values_in old table ws)) nodes 0 lt a (extends_refl now)
    (λ ws.
    on_is now graph ws node x table (table_kept old now graph table a.extends ht) within ex ∙
    (ap (λ (v : List Bits). is_met v node) (values_kept old now graph ws table a.extends ht) ∙ ap (is_met (values_in old table ws)) en)) g

pub same_step : (old now mid new graph : Net) (k all one at node : ℕ) (nodes left right : List ℕ) → IsTableOf old graph left → IsTableOf old graph right →
    k < length nodes → node ≡ slice_index nodes k →
    GivesTest old now all (λ ws. list_all (is_same (values_in old left ws) (values_in old right ws)) (take k nodes)) →
    GivesTest now mid one (λ ws. is_same (values_in now left ws) (values_in now right ws) node) →
    GivesTest mid new at (λ ws. is_on mid ws all && is_on mid ws one) →
    GivesTest old new at (λ ws. list_all (is_same (values_in old left ws) (values_in old right ws)) (take (k + 1) nodes))
same_step old now mid new graph k all one at node nodes left right hl hr lt en a o g =
    all_step old now mid new k all one at (λ ws. is_same (values_in old left ws) (values_in old right ws)) nodes 0 lt a o.extends
    (λ ws.
    o.on ws ∙
    (ap (λ (v : List Bits). is_same v (values_in now right ws) node) (values_kept old now graph ws left a.extends hl) ∙
    (ap (λ (v : List Bits). is_same (values_in old left ws) v node) (values_kept old now graph ws right a.extends hr) ∙
    ap (is_same (values_in old left ws) (values_in old right ws)) en))) g

abbrev held : List Candidate → Net → List ℕ → List ℕ → ℕ → List Bits → ℕ → Bool
held candidates net left right aligned ws = holds_at candidates (values_in net left ws) (values_in net right ws) (is_on net ws aligned)

pub hold_step :
    (old now mid new graph : Net) (k all one at number aligned : ℕ) (candidates : List Candidate) (c : Candidate) (numbers left right : List ℕ) →
    IsTableOf old graph left → IsTableOf old graph right → aligned < length old.nodes → k < length numbers → number ≡ slice_index numbers k →
    number < length candidates → slice_get candidates number ≡ Some c →
    GivesTest old now all (λ ws. list_all (held candidates old left right aligned ws) (take k numbers)) →
    GivesTruth now mid one (λ ws. holds_test (candidate_by value_at c) (values_in now left ws) (values_in now right ws) (is_on now ws aligned)) →
    GivesTest mid new at (λ ws. is_on mid ws all && is_on mid ws one) →
    GivesTest old new at (λ ws. list_all (held candidates old left right aligned ws) (take (k + 1) numbers))
hold_step old now mid new graph k all one at number aligned candidates c numbers left right hl hr ha lt en within ec a o g =
    all_step old now mid new k all one at (held candidates old left right aligned) numbers 0 lt a o.extends
    (λ ws.
    let f : List Bits → List Bits → Bool → Bool = holds_test (candidate_by value_at c) in
    let l : List Bits = values_in old left ws in
    let r : List Bits = values_in old right ws in
    o.on ws ∙
    (ap (λ (v : List Bits). f v (values_in now right ws) (is_on now ws aligned)) (values_kept old now graph ws left a.extends hl) ∙
    (ap (λ (v : List Bits). f l v (is_on now ws aligned)) (values_kept old now graph ws right a.extends hr) ∙
    (ap (f l r) (on_kept old now ws aligned a.extends ha) ∙
    (ap (λ (m : Option Candidate). maybe_test m l r (is_on old ws aligned)) (sym ec) ∙ ap (held candidates old left right aligned ws) en))))) g
