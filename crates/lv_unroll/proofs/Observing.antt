-- The rows of the tables are what the machine of the graph observes.
use Rattle.std.proofs.Common.{◌≡◌, ℕ, suc, ◌<◌, nat_eq, if◌then◌else◌, List, [], ◌∷◌, ◌++◌, length, map, slice_index, get_or, refl, sym, ◌∙◌, ap, subst, arith}
use Rattle.std.proofs.lemmas.List.{get_or-map}
use Rattle.std.specs.List.{AllByRecursion}
use Rattle.lv_bits.specs.Words.{Bits}
use Rattle.lv_model.specs.Machine.{observations}
use Rattle.lv_model.specs.Design.{Observers, entry, row_of, values}
use Rattle.lv_netlist.specs.Net.{Net}
use Rattle.lv_netlist.specs.Run.{values_of, bits_at}
use Rattle.lv_netlist.specs.Stepping.{GraphCycle, stepper_of, graph_machine, node_value}
use Rattle.lv_model.specs.Stepper.{unrolled}
use Rattle.lv_unroll.specs.declared.copies.Nodes.{Nodes}
use Rattle.lv_unroll.specs.declared.rows.Port.{Port}
use Rattle.lv_unroll.specs.Wires.{word_in, number_in}
use Rattle.lv_unroll.specs.Entries.{entry_at, row_at, numbers_by, IsPort}
use Rattle.lv_unroll.specs.Unrolls.{words_in, IsCopy, Unrolls}
use Rattle.lv_unroll.specs.Agreements.{rows_in, port_of}

abbrev cycle_values : Net → GraphCycle → List Bits
cycle_values graph c = values_of graph c.state c.input

first_is : {A : Type 0} (x y : A) (xs ys : List A) → x ∷ xs ≡ y ∷ ys → x ≡ y
first_is x y xs ys e = ap (λ l. get_or l 0 x) e

rest_of : {A : Type 0} → List A → List A
rest_of [] = []
rest_of (x ∷ xs) = xs

rest_is : {A : Type 0} (x y : A) (xs ys : List A) → x ∷ xs ≡ y ∷ ys → xs ≡ ys
unfolding rest_of
rest_is x y xs ys e = ap rest_of e

-- the number of a copy is that of the node in its cycle
pub number_is :
    (net graph : Net) (ws : List Bits) (t : Nodes) (c : GraphCycle) → words_in net ws t ≡ cycle_values graph c → (k : ℕ) → k < length t.list.items →
    numbers_by net ws t.list.items k ≡ node_value graph k c
unfolding number_in
number_is net graph ws t c e k lt =
    ap (λ (b : Bits). b.value) (sym (get_or-map (word_in net ws) t.list.items k _ _ lt) ∙ ap (λ (vs : List Bits). bits_at vs k) e)

numbers_are :
    (net graph : Net) (ws : List Bits) (t : Nodes) (c : GraphCycle) → words_in net ws t ≡ cycle_values graph c → (ks : List ℕ) → ((i : ℕ) → i < length ks →
    slice_index ks i < length t.list.items) → map (numbers_by net ws t.list.items) ks ≡ values (map (node_value graph) ks) c
numbers_are net graph ws t c e [] h = refl
numbers_are net graph ws t c e (k ∷ ks) h =
    ap (λ (n : ℕ). n ∷ map (numbers_by net ws t.list.items) ks) (number_is net graph ws t c e k (h 0 (omega arith))) ∙
    ap (λ (ns : List ℕ). node_value graph k c ∷ ns) (numbers_are net graph ws t c e ks (λ i lt. h (suc i) (omega arith)))

entry_is :
    (net graph : Net) (ws : List Bits) (t : Nodes) (c : GraphCycle) (count : ℕ) (p : Port) → words_in net ws t ≡ cycle_values graph c →
    IsPort (length t.list.items) count p → entry_at (numbers_by net ws t.list.items) p ≡ entry (port_of graph p) c
entry_is net graph ws t c count p e h =
    ap (λ (n : ℕ). if nat_eq n 0 then [] else map (numbers_by net ws t.list.items) p.contract.items ∷ []) (number_is net graph ws t c e p.retire h.retire) ∙
    ap (λ (ns : List ℕ). if nat_eq (node_value graph p.retire c) 0 then [] else ns ∷ []) (numbers_are net graph ws t c e p.contract.items
    (λ i lt. h.contract i (omega (arith, h.count_is))))

pub row_is :
    (net graph : Net) (ws : List Bits) (t : Nodes) (c : GraphCycle) (count : ℕ) (ps : List Port) → words_in net ws t ≡ cycle_values graph c →
    AllByRecursion (IsPort (length t.list.items) count) ps → row_at (numbers_by net ws t.list.items) ps ≡ row_of (map (port_of graph) ps) c
row_is net graph ws t c count [] e h = refl
row_is net graph ws t c count (p ∷ ps) e h =
    ap (λ (x : List (List ℕ)). x ++ row_at (numbers_by net ws t.list.items) ps) (entry_is net graph ws t c count p e h.0) ∙
    ap (λ (x : List (List ℕ)). entry (port_of graph p) c ++ x) (row_is net graph ws t c count ps e h.1)

-- the ports of the observers are these
pub rows_are :
    (graph net : Net) (o : Observers GraphCycle) (ports : List Port) (ws : List Bits) (count : ℕ) (ts : List Nodes) (cs : List GraphCycle) →
    o.ports ≡ map (port_of graph) ports → AllByRecursion (IsPort (length graph.nodes) count) ports → AllByRecursion (IsCopy net graph) ts →
    map (words_in net ws) ts ≡ map (cycle_values graph) cs → rows_in net ws ports ts ≡ observations (graph_machine graph o) cs
rows_are graph net o ports ws count [] [] eo hp h e = refl
rows_are graph net o ports ws count [] (c ∷ cs) eo hp h e =
    absurd (let l : 0 ≡ suc (length (map (cycle_values graph) cs)) = ap length e in omega arith)
rows_are graph net o ports ws count (t ∷ ts) [] eo hp h e =
    absurd (let l : suc (length (map (words_in net ws) ts)) ≡ 0 = ap length e in omega arith)
rows_are graph net o ports ws count (t ∷ ts) (c ∷ cs) eo hp h e =
    let first : words_in net ws t ≡ cycle_values graph c =
    first_is (words_in net ws t) (cycle_values graph c) (map (words_in net ws) ts) (map (cycle_values graph) cs) e in
    let rest : map (words_in net ws) ts ≡ map (cycle_values graph) cs =
    rest_is (words_in net ws t) (cycle_values graph c) (map (words_in net ws) ts) (map (cycle_values graph) cs) e in
    let mine : AllByRecursion (IsPort (length t.list.items) count) ports =
    subst (λ (n : ℕ). AllByRecursion (IsPort n count) ports) (sym h.0.count) hp in
    let row : row_at (numbers_by net ws t.list.items) ports ≡ row_of o.ports c =
    row_is net graph ws t c count ports first mine ∙ ap (λ ps. row_of ps c) (sym eo) in
    ap (λ (x : List (List ℕ)). x ++ rows_in net ws ports ts) row ∙
    ap (λ (x : List (List ℕ)). row_of o.ports c ++ x) (rows_are graph net o ports ws count ts cs eo hp h.1 rest)

-- what is unrolled shows what the machine observes in its run
pub unrolled_rows :
    (graph old new : Net) (o : Observers GraphCycle) (ports : List Port) (count : ℕ) (state : List ℕ) (inputs tables : List Nodes) (ws : List Bits) →
    o.ports ≡ map (port_of graph) ports → AllByRecursion (IsPort (length graph.nodes) count) ports →
    Unrolls graph old new state inputs tables →
    rows_in new ws ports tables ≡
    observations (graph_machine graph o) (unrolled (stepper_of graph) (map (word_in old ws) state) (map (words_in old ws) inputs))
unrolled_rows graph old new o ports count state inputs tables ws eo hp u =
    rows_are graph new o ports ws count tables (unrolled (stepper_of graph) (map (word_in old ws) state) (map (words_in old ws) inputs)) eo hp u.copies
    (u.are ws)
