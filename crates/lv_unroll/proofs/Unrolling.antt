-- A graph unrolled, cycle by cycle.
use Rattle.std.proofs.Common.{◌≡◌, ◌≢◌, ℕ, zero, suc, ◌+◌, ◌<◌, List, [], ◌∷◌, ◌++◌, length, map, take, drop, slice_index, get_or, refl, sym, ◌∙◌, ap}
use Rattle.std.proofs.Common.{subst, arith, add-one, append_assoc, length-append, Option, Some, None}
use Rattle.std.proofs.Math.Seq.{take-suc, drop-cons, take-length}
use Rattle.std.proofs.lemmas.List.{map-append, length-map, get_or-map, at_drop_all}
use Rattle.std.proofs.lemmas.List.{append-nil}
use Rattle.std.specs.List.{AllByRecursion}
use Rattle.lv_bits.specs.Words.{Bits}
use Rattle.lv_netlist.specs.declared.node.Register.{Register}
use Rattle.lv_netlist.specs.Net.{Net, width_at, register_at, register_next, register_width, IsNet, HasNexts}
use Rattle.lv_netlist.specs.Run.{values_of, values_from, next_state, next_bits, bits_at, no_bits}
use Rattle.lv_netlist.specs.Stepping.{run_of}
use Rattle.lv_unroll.specs.declared.copies.Nodes.{Nodes}
use Rattle.lv_unroll.specs.Wires.{word_in, Extends, AreLike}
use Rattle.lv_unroll.specs.Copies.{AreStates, Copies}
use Rattle.lv_unroll.specs.Unrolls.{next_node, next_nodes, words_in, IsCycle, IsCopy, Unrolls}
use Rattle.lv_unroll.proofs.Growing.{extends_refl, extends_trans}
use Rattle.lv_unroll.proofs.Copying.{alike_kept, alike_words}

abbrev Held : Type 0
Held = List ℕ × Register

-- ---- the next nodes

module _ (net graph : Net) (table : List ℕ) (h : AreLike net (length graph.nodes) (width_at graph.nodes) table) (n : IsNet graph) (nexts : HasNexts graph) where
  one_next :
      (ws : List Bits) (next : Option ℕ) → next ≢ None → ((m : ℕ) → next ≡ Some m → m < length table) →
      word_in net ws (elim next [ Some m ↦ slice_index table m | None ↦ 0 ]) ≡ (elim next [
        | Some m ↦ bits_at (map (word_in net ws) table) m
        | None ↦ no_bits
      ])
  one_next ws None some lt = absurd (some refl)
  one_next ws (Some m) some lt = sym (get_or-map (word_in net ws) table m _ _ (lt m refl))

  words_next :
      (ws : List Bits) (rs : List Held) → ((i : ℕ) → i < length rs → ((register_at rs i).1.next ≢ None) × ((m : ℕ) → (register_at rs i).1.next ≡ Some m →
      m < length table)) → map (word_in net ws) (map (next_node table) rs) ≡ map (next_bits (map (word_in net ws) table)) rs
  words_next ws [] each = refl
  words_next ws (r ∷ rs) each =
      let first = each 0 (omega arith) in
      rw (one_next ws r.1.next first.0 first.1, words_next ws rs (λ i lt. each (suc i) (omega arith))) refl

  pub next_words : (ws : List Bits) → map (word_in net ws) (next_nodes graph table) ≡ next_state graph (map (word_in net ws) table)
  next_words ws = words_next ws graph.registers (λ i lt. (nexts i lt, λ m e. omega (arith, ((n.registers i lt).next m e).0, h.count)))

  one_is :
      (P : ℕ → Type 0) (next : Option ℕ) → next ≢ None → ((m : ℕ) → next ≡ Some m → P (slice_index table m)) →
      P (elim next [ Some m ↦ slice_index table m | None ↦ 0 ])
  one_is P None some each = absurd (some refl)
  one_is P (Some m) some each = each m refl

  at_next : (i : ℕ) → i < length graph.registers → slice_index (next_nodes graph table) i ≡ next_node table (register_at graph.registers i)
  at_next i lt = get_or-map (next_node table) graph.registers i _ _ lt

  pub next_states : AreStates net graph (next_nodes graph table)
  next_states = record {
    count = length-map graph.registers (next_node table);
    within = λ i lt. subst (λ (k : ℕ). k < length net.nodes) (sym (at_next i lt)) (one_is (λ k. k < length net.nodes) (register_next graph i) (nexts i lt)
        (λ m e. h.within m ((n.registers i lt).next m e).0));
    widths = λ i lt. subst (λ (k : ℕ). width_at net.nodes k ≡ register_width graph i) (sym (at_next i lt))
        (one_is (λ k. width_at net.nodes k ≡ register_width graph i) (register_next graph i) (nexts i lt) (λ m e. let next =
        (n.registers i lt).next m e in h.widths m next.0 ∙ next.1));
  }

pub next_step :
    (graph : Net) (table nodes nodes' : List ℕ) (k m at : ℕ) → k < length graph.registers → register_next graph k ≡ Some m → at ≡ slice_index table m →
    nodes' ≡ nodes ++ at ∷ [] → nodes ≡ map (next_node table) (take k graph.registers) → nodes' ≡ map (next_node table) (take (k + 1) graph.registers)
next_step graph table nodes nodes' k m at lt em ea e h =
    let is : at ≡ next_node table (register_at graph.registers k) = ea ∙ sym (ap (λ (o : Option ℕ). elim o [ Some m ↦ slice_index table m | None ↦ 0 ]) em) in
    rw add-one (e ∙ (ap (λ (l : List ℕ). l ++ at ∷ []) h ∙ (ap (λ (x : ℕ). map (next_node table) (take k graph.registers) ++ x ∷ []) is ∙
    (sym (map-append (next_node table) (take k graph.registers) (register_at graph.registers k ∷ [])) ∙
    ap (map (next_node table)) (sym (take-suc graph.registers k _ lt))))))

-- ---- the cycles

-- so far: the tables made, and the cycles that are left
pub record CyclesSoFar (graph old now : Net) (first state : List ℕ) (inputs tables : List Nodes) (i : ℕ) : Type 0 where
  pub extends : Extends old now
  pub many : length tables ≡ i
  pub copies : AllByRecursion (IsCopy now graph) tables
  pub states : AreStates now graph state
  pub whole :
      (ws : List Bits) → map (words_in now ws) tables ++ run_of graph (map (word_in now ws) state) (map (words_in old ws) (drop i inputs)) ≡ run_of graph
      (map (word_in old ws) first) (map (words_in old ws) inputs)

pub cycles_none :
    (graph old : Net) (first state : List ℕ) (inputs tables : List Nodes) → tables ≡ [] → state ≡ first → AreStates old graph first →
    CyclesSoFar graph old old first state inputs tables 0
cycles_none graph old first state inputs tables e s h =
    subst (λ (t : List Nodes). CyclesSoFar graph old old first state inputs t 0) (sym e) (subst (λ (st : List ℕ). CyclesSoFar graph old old first st inputs []
    0) (sym s) (record { extends = extends_refl old; many = refl; copies = tt; states = h; whole = λ ws. refl }))

copies_kept : (old new graph : Net) (ts : List Nodes) → Extends old new → AllByRecursion (IsCopy old graph) ts → AllByRecursion (IsCopy new graph) ts
copies_kept old new graph [] s h = tt
copies_kept old new graph (t ∷ ts) s h = (alike_kept old new (length graph.nodes) (width_at graph.nodes) t.list.items s h.0, copies_kept old new graph ts s h.1)

copies_words :
    (old new graph : Net) (ws : List Bits) (ts : List Nodes) → Extends old new → AllByRecursion (IsCopy old graph) ts →
    map (words_in new ws) ts ≡ map (words_in old ws) ts
copies_words old new graph ws [] s h = refl
copies_words old new graph ws (t ∷ ts) s h =
    ap (λ (x : List Bits). x ∷ map (words_in new ws) ts) (alike_words old new ws (length graph.nodes) (width_at graph.nodes) t.list.items s h.0) ∙
    ap (λ (xs : List (List Bits)). words_in old ws t ∷ xs) (copies_words old new graph ws ts s h.1)

copies_more :
    (net graph : Net) (ts : List Nodes) (t : Nodes) → AllByRecursion (IsCopy net graph) ts → IsCopy net graph t →
    AllByRecursion (IsCopy net graph) (ts ++ t ∷ [])
copies_more net graph [] t h g = (g, tt)
copies_more net graph (u ∷ ts) t h g = (h.0, copies_more net graph ts t h.1 g)

cycle_in : (net graph : Net) (cs : List Nodes) (i : ℕ) (d : Nodes) → AllByRecursion (IsCycle net graph) cs → i < length cs → IsCycle net graph (get_or cs i d)
cycle_in net graph [] i d h lt = absurd (omega arith)
cycle_in net graph (c ∷ cs) zero d h lt = h.0
cycle_in net graph (c ∷ cs) (suc i) d h lt = cycle_in net graph cs i d h.1 (omega arith)

pub cycle_at :
    (net graph : Net) (cs : List Nodes) (i : ℕ) (c : Nodes) → AllByRecursion (IsCycle net graph) cs → i < length cs → c ≡ get_or cs i c → IsCycle net graph c
cycle_at net graph cs i c h lt e = subst (IsCycle net graph) (sym e) (cycle_in net graph cs i c h lt)

pub cycles_step :
    (graph old now new : Net) (first state state' state'' cycle' : List ℕ) (inputs tables tables' : List Nodes) (i : ℕ) (cycle table : Nodes) → IsNet graph →
    HasNexts graph → cycle ≡ get_or inputs i cycle → i < length inputs → AllByRecursion (IsCycle old graph) inputs → state' ≡ state →
    cycle' ≡ cycle.list.items → state'' ≡ next_nodes graph table.list.items → tables' ≡ tables ++ table ∷ [] →
    CyclesSoFar graph old now first state inputs tables i → Copies graph now new state' cycle' (length graph.nodes) table.list.items →
    CyclesSoFar graph old new first state'' inputs tables' (i + 1)
cycles_step graph old now new first state state' state'' cycle' inputs tables tables' i cycle table net nexts is lt hi es ec en et h g =
    let cycle_is : IsCycle old graph cycle = cycle_at old graph inputs i cycle hi lt is in
    let like : AreLike new (length graph.nodes) (width_at graph.nodes) table.list.items = g.alike in
    subst (λ (ts : List Nodes). CyclesSoFar graph old new first state'' inputs ts (i + 1)) (sym et) (record {
      extends = extends_trans old now new h.extends g.extends;
      many = omega (arith, h.many, length-append tables (table ∷ []));
      copies = copies_more new graph tables table (copies_kept now new graph tables g.extends h.copies) like;
      states = subst (AreStates new graph) (sym en) (next_states new graph table.list.items like net nexts);
      whole = λ ws.
          let s : List Bits = map (word_in now ws) state in
          let c : List Bits = words_in old ws cycle in
          let rest : List (List Bits) = map (words_in old ws) (drop (i + 1) inputs) in
          let values : words_in new ws table ≡ values_of graph s c =
          g.is ws ∙
          (ap (λ (st : List ℕ). values_from (map (word_in now ws) st) (map (word_in now ws) cycle') [] (take (length graph.nodes) graph.nodes)) es ∙
          (ap (λ (cs : List ℕ). values_from s (map (word_in now ws) cs) [] (take (length graph.nodes) graph.nodes)) ec ∙
          (ap (λ (cs : List Bits). values_from s cs [] (take (length graph.nodes) graph.nodes)) (alike_words old now ws _ _ cycle.list.items h.extends
          cycle_is) ∙
          ap (values_from s c []) (take-length graph.nodes)))) in
          let after : map (word_in new ws) state'' ≡ next_state graph (values_of graph s c) =
          ap (map (word_in new ws)) en ∙ (next_words new graph table.list.items like net nexts ws ∙ ap (next_state graph) values) in
          let cut : drop i inputs ≡ cycle ∷ drop (i + 1) inputs = rw add-one (drop-cons inputs i cycle lt ∙
          ap (λ (x : Nodes). x ∷ drop (suc i) inputs) (sym is)) in
          let left : map (words_in new ws) (tables ++ table ∷ []) ≡ map (words_in now ws) tables ++ values_of graph s c ∷ [] =
          map-append (words_in new ws) tables (table ∷ []) ∙
          (ap (λ (xs : List (List Bits)). xs ++ words_in new ws table ∷ []) (copies_words now new graph ws tables g.extends h.copies) ∙
          ap (λ (x : List Bits). map (words_in now ws) tables ++ x ∷ []) values) in
          ap (λ (xs : List (List Bits)). xs ++ run_of graph (map (word_in new ws) state'') rest) left ∙
          (ap (λ (x : List Bits). (map (words_in now ws) tables ++ values_of graph s c ∷ []) ++ run_of graph x rest) after ∙
          (append_assoc (map (words_in now ws) tables) (values_of graph s c ∷ []) (run_of graph (next_state graph (values_of graph s c)) rest) ∙
          (ap (λ (cs : List Nodes). map (words_in now ws) tables ++ run_of graph s (map (words_in old ws) cs)) (sym cut) ∙ h.whole ws)));
    })

pub cycles_done :
    (graph old now : Net) (first state : List ℕ) (inputs tables : List Nodes) (i : ℕ) → i ≡ length inputs →
    CyclesSoFar graph old now first state inputs tables i → Unrolls graph old now first inputs tables
cycles_done graph old now first state inputs tables i e h = record {
  extends = h.extends;
  many = h.many ∙ e;
  copies = h.copies;
  are = λ ws.
      sym (append-nil (map (words_in now ws) tables)) ∙
      (sym (at_drop_all (λ (cs : List Nodes). map (words_in now ws) tables ++ run_of graph (map (word_in now ws) state) (map (words_in old ws) cs)) inputs i
      (omega arith)) ∙ h.whole ws);
}
