-- From the tests of nodes to the facts that they tell.
use Rattle.std.proofs.Common.{◌≡◌, ◌≢◌, ℕ, zero, suc, ◌+◌, ◌<◌, ◌==◌, Bool, true, false, not, ◌&&◌, ◌||◌, nat_eq, if◌then◌else◌, List, [], ◌∷◌, ◌++◌, length, map, take, get_or, slice_index, slice_get, All, refl, sym, ◌∙◌, ap, subst, arith, eqb-true, eq-eqb, true≢false}
use Rattle.std.proofs.lemmas.List.{get_or-map, length-map}
use Rattle.std.proofs.lemmas.List.Elements.{All-map, recursion_from_All}
use Rattle.std.proofs.lemmas.Bool.Decides.{Decides-at, Decides-like, Decides-not, Decides-and, Decides-by_and}
use Rattle.std.specs.Prelude.{Decides}
use Rattle.std.specs.List.{list_all, AllByRecursion}
use Rattle.lv_bits.specs.Words.{Bits}
use Rattle.lv_bits.specs.Values.{bit}
use Rattle.lv_model.specs.Machine.{Machine, Agree, observations, AllHold, aligned_after}
use Rattle.lv_model.specs.Design.{MaybeHolds, values, row_of, entry}
use Rattle.lv_model.proofs.Tests.{test_from, from_test}
use Rattle.lv_netlist.specs.Net.{Net}
use Rattle.lv_netlist.specs.Run.{no_bits}
use Rattle.lv_unroll.specs.declared.copies.Nodes.{Nodes}
use Rattle.lv_unroll.specs.declared.rows.Port.{Port}
use Rattle.lv_unroll.specs.Wires.{word_in, number_in, is_on, Extends, GivesTest}
use Rattle.lv_unroll.specs.Entries.{IsPort, ArePorts, IsTable, row_at, entry_at, numbers_by, entry_length}
use Rattle.lv_unroll.specs.Unrolls.{words_in, IsCopy}
use Rattle.lv_unroll.specs.Agreements.{GivesFact, RowsAgree, rows_in, rows_match}
use Rattle.lv_unroll.proofs.Growing.{extends_refl, extends_trans}
use Rattle.lv_unroll.proofs.Slotting.{on_kept}
use Rattle.lv_unroll.proofs.Agreeing.{copy_at}
use Rattle.lv_product.specs.declared.task.Candidate.{Candidate}
use Rattle.lv_product.specs.declared.task.Candidate.TheVariants.{Eq, When, Each, Aligned}
use Rattle.lv_product.specs.declared.task.Task.{Task}
use Rattle.lv_product.specs.Tasks.{IsCandidate, IsStateNode, IsInputNode}
use Rattle.lv_product.specs.Queries.{candidate_by, port_by}
use Rattle.lv_product.specs.Values.{value_at, value_machine, values_in, IsTableOf, AreNodes, is_met, is_same, holds_at, ReadsNodes}
use Rattle.lv_product.specs.Meets.{Cycles, cycle_at, cycles_by, AreAlike}
use Rattle.lv_product.proofs.Holding.{values_kept, table_kept, later_on, all_step}

pub fact_of : (old mid new : Net) (at : ℕ) (test : List Bits → Bool) (fact : List Bits → Type 0) → Extends old mid → GivesTest mid new at test →
    ((ws : List Bits) → Decides (test ws) (fact ws)) → GivesFact old new at fact
fact_of old mid new at test fact s g d = record {
  extends = extends_trans old mid new s g.extends;
  within = g.within;
  width = g.width;
  is = λ ws. g.is ws ∙ ap bit (sym (g.on ws));
  holds = λ ws e. (d ws).0 (sym (g.on ws) ∙ e);
  back = λ ws f. g.on ws ∙ (d ws).1 f;
}

pub told : (a b c : Net) (at : ℕ) (fact : List Bits → Type 0) → GivesFact a b at fact → Extends b c → (ws : List Bits) → Decides (is_on c ws at) (fact ws)
told a b c at fact g s ws = Decides-at (is_on c ws at) (is_on b ws at) (on_kept b c ws at s g.within) (g.holds ws, g.back ws)

pub along_two : {A : Type 0} (F : A → A → Type 0) (t : Bool) (x x' y y' : A) → x ≡ x' → y ≡ y' → Decides t (F x y) → Decides t (F x' y')
along_two {A} F t x x' y y' p q d = subst (λ (z : A). Decides t (F x' z)) q (subst (λ (z : A). Decides t (F z y)) p d)

-- ---- lists of nodes

unmap : (P : (List Bits → ℕ) → Type 0) (ks : List ℕ) → All P (map value_at ks) → All (λ k. P (value_at k)) ks
unmap P ks h = λ i d lt. subst P (get_or-map value_at ks i d (value_at d) lt) (h i (value_at d) (omega (arith, length-map ks value_at)))

pub all_decides : (p : ℕ → Bool) (P : (List Bits → ℕ) → Type 0) → ((k : ℕ) → Decides (p k) (P (value_at k))) → (ks : List ℕ) →
    Decides (list_all p ks) (All P (map value_at ks))
all_decides p P each ks =
    Decides-like (list_all p ks) (All-map P value_at ks) (unmap P ks) (Decides-by_and p (λ k. P (value_at k)) (list_all p) each refl (λ x xs. refl) ks)

pub same_decides : (l r : List Bits) (ks : List ℕ) → Decides (list_all (is_same l r) ks) (All (λ (e : List Bits → ℕ). e l ≡ e r) (map value_at ks))
same_decides l r ks = all_decides (is_same l r) (λ e. e l ≡ e r) (λ k. (eqb-true (value_at k l) (value_at k r), eq-eqb (value_at k l) (value_at k r))) ks

pub met_decides : (l : List Bits) (ks : List ℕ) → Decides (list_all (is_met l) ks) (All (λ (e : List Bits → ℕ). e l ≢ 0) (map value_at ks))
met_decides l ks = all_decides (is_met l) (λ e. e l ≢ 0) (λ k. Decides-not (value_at k l == 0) (eqb-true (value_at k l) 0, eq-eqb (value_at k l) 0)) ks

pub seen_decides : (l r : List Bits) (ks : List ℕ) → Decides (list_all (is_same l r) ks) (values (map value_at ks) l ≡ values (map value_at ks) r)
seen_decides l r [] = (λ e. refl, λ e. refl)
seen_decides l r (k ∷ ks) =
    Decides-like (is_same l r k && list_all (is_same l r) ks) (λ h. let p = h.0 in let q = h.1 in cc) (λ e. (cc, cc))
    (Decides-and (is_same l r k) (list_all (is_same l r) ks) (eqb-true (value_at k l) (value_at k r), eq-eqb (value_at k l) (value_at k r))
    (seen_decides l r ks))

-- ---- candidates

held_decides : (cs : List Candidate) (k : ℕ) (l r : List Bits) (a : Bool) →
    Decides (holds_at cs l r a k) (MaybeHolds (slice_get (map (candidate_by value_at) cs) k) l r a)
held_decides [] k l r a = (λ e. absurd (true≢false (sym e)), λ h. absurd h)
held_decides (c ∷ cs) zero l r a = (from_test (candidate_by value_at c) l r a, test_from (candidate_by value_at c) l r a)
held_decides (c ∷ cs) (suc k) l r a = held_decides cs k l r a

pub hold_decides : (task : Task) (s : List ℕ) (l r : List Bits) (a : Bool) →
    Decides (list_all (holds_at task.candidates.items l r a) s) (AllHold (value_machine task) s l r a)
hold_decides task s l r a =
    Decides-by_and (holds_at task.candidates.items l r a) (λ k. (value_machine task).Holds k l r a) (list_all (holds_at task.candidates.items l r a))
    (λ k. held_decides task.candidates.items k l r a) refl (λ x xs. refl) s

pub candidate_reads : (graph : Net) (c : Candidate) → IsCandidate graph c → ReadsNodes graph c
candidate_reads graph (Eq e) h = (h 0 0 (omega arith)).0
candidate_reads graph (When guard e) h = ((h 0 0 (omega arith)).0, (h 1 0 (omega arith)).0)
candidate_reads graph (Each p) h = (h 0 0 (omega arith)).0
candidate_reads graph Aligned h = tt

pub state_nodes : (graph : Net) (xs ys : List ℕ) → ys ≡ xs → All (IsStateNode graph) xs → AreNodes graph ys
state_nodes graph xs ys e h = subst (AreNodes graph) (sym e) (λ i lt. (h i 0 lt).0)

pub input_nodes : (graph : Net) (xs ys : List ℕ) → ys ≡ xs → All (IsInputNode graph) xs → AreNodes graph ys
input_nodes graph xs ys e h = subst (AreNodes graph) (sym e) (λ i lt. (h i 0 lt).0)

pub seen_nodes : (graph : Net) (xs ys : List ℕ) → ys ≡ xs → All (λ k. k < length graph.nodes) xs → AreNodes graph ys
seen_nodes graph xs ys e h = subst (AreNodes graph) (sym e) (λ i lt. h i 0 lt)

pub candidates_read : (graph : Net) (xs ys : List Candidate) → ys ≡ xs → All (IsCandidate graph) xs → All (ReadsNodes graph) ys
candidates_read graph xs ys e h = subst (All (ReadsNodes graph)) (sym e) (λ i d lt. candidate_reads graph (get_or xs i d) (h i d lt))

pub numbers_within : (cs cs' : List Candidate) (s s' : List ℕ) → cs' ≡ cs → s' ≡ s → All (λ k. k < length cs) s → All (λ k. k < length cs') s'
numbers_within cs cs' s s' e e' h = subst (λ (xs : List Candidate). All (λ k. k < length xs) s') (sym e) (subst (All (λ k. k < length cs)) (sym e') h)

-- ---- copies, cycle by cycle

pub copies_kept : (old new graph : Net) (ts : List Nodes) → Extends old new → AllByRecursion (IsCopy old graph) ts → AllByRecursion (IsCopy new graph) ts
copies_kept old new graph [] s h = tt
copies_kept old new graph (t ∷ ts) s h = (table_kept old new graph t.list.items s h.0, copies_kept old new graph ts s h.1)

pub cycles_kept : (old new graph : Net) (ws : List Bits) (ts : List Nodes) → Extends old new → AllByRecursion (IsCopy old graph) ts →
    cycles_by new ts ws ≡ cycles_by old ts ws
cycles_kept old new graph ws [] s h = refl
cycles_kept old new graph ws (t ∷ ts) s h =
    ap (λ (x : List Bits). x ∷ cycles_by new ts ws) (values_kept old new graph ws t.list.items s h.0) ∙
    ap (λ (xs : Cycles). words_in old ws t ∷ xs) (cycles_kept old new graph ws ts s h.1)

pub table_at : (net graph : Net) (ts : List Nodes) (k : ℕ) (t : Nodes) (items : List ℕ) → items ≡ t.list.items → t ≡ get_or ts k t → k < length ts →
    AllByRecursion (IsCopy net graph) ts → IsTableOf net graph items
table_at net graph ts k t items ei et lt h = subst (IsTableOf net graph) (sym ei) (copy_at net graph ts k t h lt et)

-- the values of the copy in cycle k, at any later time
pub place_is : (old now graph : Net) (ws : List Bits) (ts : List Nodes) (k : ℕ) (t : Nodes) (items : List ℕ) → items ≡ t.list.items → t ≡ get_or ts k t →
    k < length ts → AllByRecursion (IsCopy old graph) ts → Extends old now → values_in now items ws ≡ cycle_at (cycles_by old ts ws) k
place_is old now graph ws ts k t items ei et lt h s =
    ap (λ (x : List ℕ). values_in now x ws) ei ∙
    (values_kept old now graph ws t.list.items s (copy_at old graph ts k t h lt et) ∙
    (ap (words_in old ws) et ∙ sym (get_or-map (words_in old ws) ts k t [] lt)))

-- ---- rows

pub nodes_in : (net graph : Net) (table : List ℕ) → IsTableOf net graph table → IsTable net table
nodes_in net graph table h = λ k lt. h.within k (omega (arith, h.count))

pub all_ports : (n : ℕ) (ports : List Port) → All (IsPort n (entry_length ports)) ports → ArePorts n ports
all_ports n ports h = recursion_from_All (IsPort n (entry_length ports)) ports h

pub ports_same : (n : ℕ) (ps ports : List Port) → ps ≡ ports → All (IsPort n (entry_length ports)) ports → ArePorts n ps
ports_same n ps ports e h = subst (ArePorts n) (sym e) (all_ports n ports h)

pub ports_in : (net graph : Net) (table : List ℕ) (ps ports : List Port) → ps ≡ ports → IsTableOf net graph table → ArePorts (length graph.nodes) ports →
    ArePorts (length table) ps
ports_in net graph table ps ports e h g = subst (ArePorts (length table)) (sym e) (subst (λ (n : ℕ). ArePorts n ports) (sym h.count) g)

number_by : (net : Net) (ws : List Bits) (table : List ℕ) (k : ℕ) → k < length table → numbers_by net ws table k ≡ value_at k (values_in net table ws)
unfolding number_in
number_by net ws table k lt = ap (λ (b : Bits). b.value) (sym (get_or-map (word_in net ws) table k 0 no_bits lt))

numbers_are : (net : Net) (ws : List Bits) (table ks : List ℕ) → ((i : ℕ) → i < length ks → slice_index ks i < length table) →
    map (numbers_by net ws table) ks ≡ values (map value_at ks) (values_in net table ws)
numbers_are net ws table [] h = refl
numbers_are net ws table (k ∷ ks) h =
    ap (λ (n : ℕ). n ∷ map (numbers_by net ws table) ks) (number_by net ws table k (h 0 (omega arith))) ∙
    ap (λ (ns : List ℕ). value_at k (values_in net table ws) ∷ ns) (numbers_are net ws table ks (λ i lt. h (suc i) (omega arith)))

entry_is : (net : Net) (ws : List Bits) (table : List ℕ) (count : ℕ) (p : Port) → IsPort (length table) count p →
    entry_at (numbers_by net ws table) p ≡ entry (port_by value_at p) (values_in net table ws)
entry_is net ws table count p h =
    ap (λ (n : ℕ). if nat_eq n 0 then [] else map (numbers_by net ws table) p.contract.items ∷ []) (number_by net ws table p.retire h.retire) ∙
    ap (λ (ns : List ℕ). if nat_eq (value_at p.retire (values_in net table ws)) 0 then [] else ns ∷ [])
    (numbers_are net ws table p.contract.items (λ i lt. h.contract i (omega (arith, h.count_is))))

pub row_is : (net : Net) (ws : List Bits) (table : List ℕ) (count : ℕ) (ps : List Port) → AllByRecursion (IsPort (length table) count) ps →
    row_at (numbers_by net ws table) ps ≡ row_of (map (port_by value_at) ps) (values_in net table ws)
row_is net ws table count [] h = refl
row_is net ws table count (p ∷ ps) h =
    ap (λ (x : List (List ℕ)). x ++ row_at (numbers_by net ws table) ps) (entry_is net ws table count p h.0) ∙
    ap (λ (x : List (List ℕ)). entry (port_by value_at p) (values_in net table ws) ++ x) (row_is net ws table count ps h.1)

pub rows_are : (task : Task) (net : Net) (ws : List Bits) (count : ℕ) (ts : List Nodes) →
    AllByRecursion (IsPort (length task.graph.nodes) count) task.ports.items → AllByRecursion (IsCopy net task.graph) ts →
    rows_in net ws task.ports.items ts ≡ observations (value_machine task) (cycles_by net ts ws)
rows_are task net ws count [] hp h = refl
rows_are task net ws count (t ∷ ts) hp h =
    let mine : AllByRecursion (IsPort (length t.list.items) count) task.ports.items =
    subst (λ (n : ℕ). AllByRecursion (IsPort n count) task.ports.items) (sym h.0.count) hp in
    ap (λ (x : List (List ℕ)). x ++ rows_in net ws task.ports.items ts) (row_is net ws t.list.items count task.ports.items mine) ∙
    ap (λ (x : List (List ℕ)). (value_machine task).row (words_in net ws t) ++ x) (rows_are task net ws count ts hp h.1)

-- ---- the parts of the goals

pub unless_gives : (old mid new : Net) (x y off at : ℕ) → x < length old.nodes → GivesTest old mid off (λ ws. not (is_on old ws y)) →
    GivesTest mid new at (λ ws. is_on mid ws x && is_on mid ws off) → GivesTest old new at (λ ws. is_on old ws x && not (is_on old ws y))
unless_gives old mid new x y off at hx o g =
    let e : (ws : List Bits) → (is_on mid ws x && is_on mid ws off) ≡ (is_on old ws x && not (is_on old ws y)) = λ ws.
    ap (λ (t : Bool). t && is_on mid ws off) (on_kept old mid ws x o.extends hx) ∙ ap (λ (t : Bool). is_on old ws x && t) (o.on ws) in
    record {
      extends = extends_trans old mid new o.extends g.extends;
      within = g.within;
      width = g.width;
      is = λ ws. g.is ws ∙ ap bit (e ws);
      on = λ ws. g.on ws ∙ e ws;
    }

abbrev Functions : Type 0
Functions = List (List Bits → ℕ)

zipped : (P Q : (List Bits → ℕ) → Type 0) (es : Functions) → All P es × All Q es → All (λ e. P e × Q e) es
zipped P Q es h = λ k d lt. (h.0 k d lt, h.1 k d lt)

unzipped : (P Q : (List Bits → ℕ) → Type 0) (es : Functions) → All (λ e. P e × Q e) es → All P es × All Q es
unzipped P Q es h = (λ k d lt. (h k d lt).0, λ k d lt. (h k d lt).1)

pub initial_gives : (task : Task) (old b1 b2 b3 b4 new : Net) (same first second each at : ℕ) (xs ys zs left right : List ℕ) → xs ≡ task.equal.items →
    ys ≡ task.each.items → zs ≡ task.each.items → IsTableOf old task.graph left → IsTableOf old task.graph right →
    GivesTest old b1 same (λ ws. list_all (is_same (values_in old left ws) (values_in old right ws)) xs) →
    GivesTest b1 b2 first (λ ws. list_all (is_met (values_in b1 left ws)) ys) →
    GivesTest b2 b3 second (λ ws. list_all (is_met (values_in b2 right ws)) zs) → GivesTest b3 b4 each (λ ws. is_on b3 ws first && is_on b3 ws second) →
    GivesTest b4 new at (λ ws. is_on b4 ws same && is_on b4 ws each) →
    GivesFact old new at (λ ws. (value_machine task).IsInitialPair (values_in old left ws) (values_in old right ws))
initial_gives task old b1 b2 b3 b4 new same first second each at xs ys zs left right ex ey ez hl hr s f g e h =
    let s2 : Extends old b2 = extends_trans old b1 b2 s.extends f.extends in
    let s14 : Extends b1 b4 = extends_trans b1 b3 b4 (extends_trans b1 b2 b3 f.extends g.extends) e.extends in
    fact_of old b4 new at _ _ (extends_trans old b1 b4 s.extends s14) h (λ ws.
    let l : List Bits = values_in old left ws in
    let r : List Bits = values_in old right ws in
    let fs : Functions = map value_at task.each.items in
    let ds : Decides (is_on b4 ws same) (All (λ (e : List Bits → ℕ). e l ≡ e r) (map value_at task.equal.items)) =
    Decides-at (is_on b4 ws same) (list_all (is_same l r) task.equal.items) (later_on old b1 b4 same _ s s14 ws ∙
    ap (list_all (is_same l r)) ex) (same_decides l r task.equal.items) in
    let df : Decides (is_on b3 ws first) (All (λ (e : List Bits → ℕ). e l ≢ 0) fs) =
    Decides-at (is_on b3 ws first) (list_all (is_met l) task.each.items)
    (later_on b1 b2 b3 first _ f g.extends ws ∙ (ap (λ (v : List Bits). list_all (is_met v) ys) (values_kept old b1 task.graph ws left s.extends hl) ∙
    ap (list_all (is_met l)) ey)) (met_decides l task.each.items) in
    let dg : Decides (is_on b3 ws second) (All (λ (e : List Bits → ℕ). e r ≢ 0) fs) =
    Decides-at (is_on b3 ws second) (list_all (is_met r) task.each.items)
    (g.on ws ∙ (ap (λ (v : List Bits). list_all (is_met v) zs) (values_kept old b2 task.graph ws right s2 hr) ∙
    ap (list_all (is_met r)) ez)) (met_decides r task.each.items) in
    let de : Decides (is_on b4 ws each) (All (λ (e : List Bits → ℕ). (e l ≢ 0) × (e r ≢ 0)) fs) =
    Decides-at (is_on b4 ws each) (is_on b3 ws first && is_on b3 ws second) (e.on ws)
    (Decides-like (is_on b3 ws first && is_on b3 ws second) (zipped (λ e. e l ≢ 0) (λ e. e r ≢ 0) fs) (unzipped (λ e. e l ≢ 0) (λ e. e r ≢ 0) fs)
    (Decides-and (is_on b3 ws first) (is_on b3 ws second) df dg)) in
    Decides-and (is_on b4 ws same) (is_on b4 ws each) ds de)

pub allowed_gives : (task : Task) (old new : Net) (at : ℕ) (xs table : List ℕ) → xs ≡ task.assume.items →
    GivesTest old new at (λ ws. list_all (is_met (values_in old table ws)) xs) →
    GivesFact old new at (λ ws. (value_machine task).IsAllowed (values_in old table ws))
allowed_gives task old new at xs table ex g =
    fact_of old old new at _ _ (extends_refl old) g (λ ws.
    Decides-at (list_all (is_met (values_in old table ws)) xs) (list_all (is_met (values_in old table ws)) task.assume.items)
    (ap (list_all (is_met (values_in old table ws))) ex) (met_decides (values_in old table ws) task.assume.items))

abbrev allowed_test : Net → List ℕ → List Bits → Nodes → Bool
allowed_test net assume ws t = list_all (is_met (words_in net ws t)) assume

pub allowed_step : (old now mid new graph : Net) (k all one at : ℕ) (assume items : List ℕ) (ts : List Nodes) (t : Nodes) → items ≡ t.list.items →
    t ≡ get_or ts k t → k < length ts → AllByRecursion (IsCopy old graph) ts →
    GivesTest old now all (λ ws. list_all (allowed_test old assume ws) (take k ts)) →
    GivesTest now mid one (λ ws. list_all (is_met (values_in now items ws)) assume) → GivesTest mid new at (λ ws. is_on mid ws all && is_on mid ws one) →
    GivesTest old new at (λ ws. list_all (allowed_test old assume ws) (take (k + 1) ts))
allowed_step old now mid new graph k all one at assume items ts t ei et lt h a o g =
    all_step old now mid new k all one at (allowed_test old assume) ts t lt a o.extends
    (λ ws.
    o.on ws ∙
    (ap (λ (x : List ℕ). list_all (is_met (values_in now x ws)) assume) ei ∙
    (ap (λ (v : List Bits). list_all (is_met v) assume) (values_kept old now graph ws t.list.items a.extends (copy_at old graph ts k t h lt et)) ∙
    ap (allowed_test old assume ws) et))) g

pub allowed_decides : (task : Task) (net : Net) (ws : List Bits) (ts : List Nodes) →
    Decides (list_all (allowed_test net task.assume.items ws) ts) (AllByRecursion (value_machine task).IsAllowed (cycles_by net ts ws))
allowed_decides task net ws [] = (λ e. tt, λ e. refl)
allowed_decides task net ws (t ∷ ts) =
    Decides-and (allowed_test net task.assume.items ws t) (list_all (allowed_test net task.assume.items ws) ts)
    (met_decides (words_in net ws t) task.assume.items) (allowed_decides task net ws ts)

decides_if : {P : Type 0} (t x : Bool) → Decides x P → Decides (not t || x) (t ≡ true → P)
decides_if true x d = (λ e h. d.0 e, λ f. d.1 (f refl))
decides_if false x d = (λ e h. absurd (true≢false (sym h)), λ f. refl)

pub alike_gives :
    (task : Task) (old b1 b2 b3 b4 b5 b6 new : Net) (agree loose kept first second allowed at aligned count : ℕ) (ps : List Port) (xs ys : List ℕ)
    (ls rs : List Nodes) → ps ≡ task.ports.items → xs ≡ task.assume.items → ys ≡ task.assume.items →
    AllByRecursion (IsPort (length task.graph.nodes) count) task.ports.items → AllByRecursion (IsCopy old task.graph) ls →
    AllByRecursion (IsCopy old task.graph) rs → aligned < length old.nodes → GivesFact old b1 agree (RowsAgree old ps ls rs) →
    GivesTest b1 b2 loose (λ ws. not (is_on b1 ws aligned)) → GivesTest b2 b3 kept (λ ws. is_on b2 ws loose || is_on b2 ws agree) →
    GivesTest b3 b4 first (λ ws. list_all (allowed_test b3 xs ws) ls) → GivesTest b4 b5 second (λ ws. list_all (allowed_test b4 ys ws) rs) →
    GivesTest b5 b6 allowed (λ ws. is_on b5 ws first && is_on b5 ws second) → GivesTest b6 new at (λ ws. is_on b6 ws kept && is_on b6 ws allowed) →
    GivesFact old new at (λ ws. AreAlike task (cycles_by old ls ws) (cycles_by old rs ws) (is_on old ws aligned))
alike_gives task old b1 b2 b3 b4 b5 b6 new agree loose kept first second allowed at aligned count ps xs ys ls rs ep ex ey hp hl hr ha g o k f s w h =
    let s3 : Extends old b3 = extends_trans old b1 b3 g.extends (extends_trans b1 b2 b3 o.extends k.extends) in
    let s4 : Extends old b4 = extends_trans old b3 b4 s3 f.extends in
    let s36 : Extends b3 b6 = extends_trans b3 b5 b6 (extends_trans b3 b4 b5 f.extends s.extends) w.extends in
    fact_of old b6 new at _ _ (extends_trans old b3 b6 s3 s36) h (λ ws.
    let m : Machine (List Bits) = value_machine task in
    let a : Bool = is_on old ws aligned in
    let lv : Cycles = cycles_by old ls ws in
    let rv : Cycles = cycles_by old rs ws in
    let rows : (ts : List Nodes) → AllByRecursion (IsCopy old task.graph) ts → rows_in old ws ps ts ≡ observations m (cycles_by old ts ws) = λ ts hs.
    ap (λ (p : List Port). rows_in old ws p ts) ep ∙ rows_are task old ws count ts hp hs in
    let da : Decides (is_on b2 ws agree) (Agree (observations m lv) (observations m rv)) =
    along_two (λ (x y : List (List ℕ)). Agree x y) (is_on b2 ws agree) (rows_in old ws ps ls) (observations m lv) (rows_in old ws ps rs) (observations m rv)
    (rows ls hl) (rows rs hr) (told old b1 b2 agree _ g o.extends ws) in
    let dk : Decides (is_on b6 ws kept) (a ≡ true → Agree (observations m lv) (observations m rv)) =
    Decides-at (is_on b6 ws kept) (not a || is_on b2 ws agree) (later_on b2 b3 b6 kept _ k s36 ws ∙
    ap (λ (t : Bool). t || is_on b2 ws agree) (o.on ws ∙ ap not (on_kept old b1 ws aligned g.extends ha))) (decides_if a (is_on b2 ws agree) da) in
    let side : (now : Net) (zs : List ℕ) (ts : List Nodes) → Extends old now → zs ≡ task.assume.items → AllByRecursion (IsCopy old task.graph) ts →
    Decides (list_all (allowed_test now zs ws) ts) (AllByRecursion m.IsAllowed (cycles_by old ts ws)) = λ now zs ts x ez hs.
    subst (λ (c : Cycles). Decides (list_all (allowed_test now zs ws) ts) (AllByRecursion m.IsAllowed c)) (cycles_kept old now task.graph ws ts x hs)
    (Decides-at (list_all (allowed_test now zs ws) ts) (list_all (allowed_test now task.assume.items ws) ts)
    (ap (λ (z : List ℕ). list_all (allowed_test now z ws) ts) ez) (allowed_decides task now ws ts)) in
    let df : Decides (is_on b5 ws first) (AllByRecursion m.IsAllowed lv) =
    Decides-at (is_on b5 ws first) (list_all (allowed_test b3 xs ws) ls) (later_on b3 b4 b5 first _ f s.extends ws) (side b3 xs ls s3 ex hl) in
    let ds : Decides (is_on b5 ws second) (AllByRecursion m.IsAllowed rv) =
    Decides-at (is_on b5 ws second) (list_all (allowed_test b4 ys ws) rs) (s.on ws) (side b4 ys rs s4 ey hr) in
    let dw : Decides (is_on b6 ws allowed) (AllByRecursion m.IsAllowed lv × AllByRecursion m.IsAllowed rv) =
    Decides-at (is_on b6 ws allowed) (is_on b5 ws first && is_on b5 ws second) (w.on ws) (Decides-and (is_on b5 ws first) (is_on b5 ws second) df ds) in
    Decides-like (is_on b6 ws kept && is_on b6 ws allowed) (λ x. (x.0, x.1.0, x.1.1)) (λ x. (x.0, (x.1, x.2)))
    (Decides-and (is_on b6 ws kept) (is_on b6 ws allowed) dk dw))

pub next_gives : (task : Task) (old mid new : Net) (same at aligned count : ℕ) (ps : List Port) (left right : List ℕ) → ps ≡ task.ports.items →
    AllByRecursion (IsPort (length task.graph.nodes) count) task.ports.items → IsTableOf old task.graph left → IsTableOf old task.graph right →
    aligned < length old.nodes → GivesTest old mid same (rows_match old ps left right) →
    GivesTest mid new at (λ ws. is_on mid ws aligned && is_on mid ws same) →
    GivesTest old new at (λ ws. aligned_after (value_machine task) (values_in old left ws) (values_in old right ws) (is_on old ws aligned))
next_gives task old mid new same at aligned count ps left right ep hp hl hr ha s g =
    let m : Machine (List Bits) = value_machine task in
    let row : (ws : List Bits) (table : List ℕ) → IsTableOf old task.graph table → row_at (numbers_by old ws table) ps ≡ m.row (values_in old table ws) =
    λ ws table h.
    ap (row_at (numbers_by old ws table)) ep ∙ row_is old ws table count task.ports.items
    (subst (λ (n : ℕ). AllByRecursion (IsPort n count) task.ports.items) (sym h.count) hp) in
    let e : (ws : List Bits) → (is_on mid ws aligned && is_on mid ws same) ≡ aligned_after m (values_in old left ws) (values_in old right ws)
    (is_on old ws aligned) = λ ws.
    ap (λ (t : Bool). t && is_on mid ws same) (on_kept old mid ws aligned s.extends ha) ∙
    ap (λ (t : Bool). is_on old ws aligned && t)
    (s.on ws ∙
    (ap (λ (r : List (List ℕ)). nat_eq (length r) (length (row_at (numbers_by old ws right) ps))) (row ws left hl) ∙
    ap (λ (r : List (List ℕ)). nat_eq (length (m.row (values_in old left ws))) (length r)) (row ws right hr))) in
    record {
      extends = extends_trans old mid new s.extends g.extends;
      within = g.within;
      width = g.width;
      is = λ ws. g.is ws ∙ ap bit (e ws);
      on = λ ws. g.on ws ∙ e ws;
    }
