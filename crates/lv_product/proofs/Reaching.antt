-- The goals of the queries, from their parts.
use Rattle.std.proofs.Common.{◌≡◌, ℕ, suc, ◌<◌, Bool, true, not, ◌&&◌, List, length, take, get_or, sym, ◌∙◌, ap, subst}
use Rattle.std.proofs.lemmas.List.{take-map}
use Rattle.std.proofs.lemmas.Bool.Decides.{Decides-at, Decides-not, Decides-and}
use Rattle.std.specs.Prelude.{Decides}
use Rattle.std.specs.List.{list_all, AllByRecursion}
use Rattle.lv_bits.specs.Words.{Bits}
use Rattle.lv_model.specs.Machine.{Machine, AllHold, aligned_after}
use Rattle.lv_netlist.specs.Net.{Net}
use Rattle.lv_unroll.specs.declared.copies.Nodes.{Nodes}
use Rattle.lv_unroll.specs.Wires.{is_on, Extends, GivesTest}
use Rattle.lv_unroll.specs.Unrolls.{words_in, IsCopy}
use Rattle.lv_unroll.specs.Agreements.{GivesFact}
use Rattle.lv_unroll.proofs.Growing.{extends_refl, extends_trans}
use Rattle.lv_unroll.proofs.Slotting.{on_kept}
use Rattle.lv_product.specs.declared.task.Candidate.{Candidate}
use Rattle.lv_product.specs.declared.task.Task.{Task}
use Rattle.lv_product.specs.declared.task.Query.TheVariants.{Base, Step, Imply}
use Rattle.lv_product.specs.Values.{value_machine, values_in, is_same, holds_at}
use Rattle.lv_product.specs.Meets.{Cycles, cycle_at, cycles_by, AreAlike, AreHolding, CopiesMeet}
use Rattle.lv_product.proofs.Holding.{later_on}
use Rattle.lv_product.proofs.Telling.{fact_of, told, along_two, hold_decides, seen_decides, place_is}

-- the node says whether the list holds, in terms of earlier values
pub hold_told :
    (task : Task) (s : List ℕ) (now mid later : Net) (hold aligned : ℕ) (cs : List Candidate) (numbers li ri : List ℕ) (ws l r : List Bits) (a : Bool) →
    cs ≡ task.candidates.items → numbers ≡ s → values_in now li ws ≡ l → values_in now ri ws ≡ r → is_on now ws aligned ≡ a →
    GivesTest now mid hold (λ ws. list_all (holds_at cs (values_in now li ws) (values_in now ri ws) (is_on now ws aligned)) numbers) → Extends mid later →
    Decides (is_on later ws hold) (AllHold (value_machine task) s l r a)
hold_told task s now mid later hold aligned cs numbers li ri ws l r a ec en el er ea g x =
    Decides-at (is_on later ws hold) (list_all (holds_at task.candidates.items l r a) s)
    (later_on now mid later hold _ g x ws ∙
    (ap (λ (c : List Candidate). list_all (holds_at c (values_in now li ws) (values_in now ri ws) (is_on now ws aligned)) numbers) ec ∙
    (ap (λ (v : List Bits). list_all (holds_at task.candidates.items v (values_in now ri ws) (is_on now ws aligned)) numbers) el ∙
    (ap (λ (v : List Bits). list_all (holds_at task.candidates.items l v (is_on now ws aligned)) numbers) er ∙
    (ap (λ (t : Bool). list_all (holds_at task.candidates.items l r t) numbers) ea ∙ ap (list_all (holds_at task.candidates.items l r a)) en)))))
    (hold_decides task s l r a)

-- a table of a cycle
pub record IsTableAt (old graph : Net) (ts : List Nodes) (k : ℕ) (items : List ℕ) : Type 0 where
  pub table : Nodes
  pub items_are : items ≡ table.list.items
  pub is : table ≡ get_or ts k table
  pub within : k < length ts
  pub copies : AllByRecursion (IsCopy old graph) ts

pub its_values : (old now graph : Net) (ws : List Bits) (ts : List Nodes) (k : ℕ) (items : List ℕ) → IsTableAt old graph ts k items → Extends old now →
    values_in now items ws ≡ cycle_at (cycles_by old ts ws) k
its_values old now graph ws ts k items h s = place_is old now graph ws ts k h.table items h.items_are h.is h.within h.copies s

module _ (task : Task) (s : List ℕ) (old : Net) (left right : List Nodes) where
  pub first_gives : (new : Net) (at : ℕ) (li ri : List ℕ) → IsTableAt old task.graph left 0 li → IsTableAt old task.graph right 0 ri →
      GivesFact old new at (λ ws. (value_machine task).IsInitialPair (values_in old li ws) (values_in old ri ws)) →
      GivesFact old new at (λ ws. (value_machine task).IsInitialPair (cycle_at (cycles_by old left ws) 0) (cycle_at (cycles_by old right ws) 0))
  first_gives new at li ri hl hr g =
      let el : (ws : List Bits) → values_in old li ws ≡ cycle_at (cycles_by old left ws) 0 =
      λ ws. its_values old old task.graph ws left 0 li hl (extends_refl old) in
      let er : (ws : List Bits) → values_in old ri ws ≡ cycle_at (cycles_by old right ws) 0 =
      λ ws. its_values old old task.graph ws right 0 ri hr (extends_refl old) in
      let d : (ws : List Bits) → Decides (is_on new ws at) ((value_machine task).IsInitialPair (cycle_at (cycles_by old left ws) 0)
      (cycle_at (cycles_by old right ws) 0)) = λ ws.
      along_two (value_machine task).IsInitialPair (is_on new ws at) _ _ _ _ (el ws) (er ws) (g.holds ws, g.back ws) in
      record {
        extends = g.extends;
        within = g.within;
        width = g.width;
        is = g.is;
        holds = λ ws. (d ws).0;
        back = λ ws. (d ws).1;
      }

  pub first_allowed : (new : Net) (at : ℕ) (li : List ℕ) → IsTableAt old task.graph left 0 li →
      GivesFact old new at (λ ws. (value_machine task).IsAllowed (values_in old li ws)) →
      GivesFact old new at (λ ws. (value_machine task).IsAllowed (cycle_at (cycles_by old left ws) 0))
  first_allowed new at li hl g =
      let el : (ws : List Bits) → values_in old li ws ≡ cycle_at (cycles_by old left ws) 0 =
      λ ws. its_values old old task.graph ws left 0 li hl (extends_refl old) in
      record {
        extends = g.extends;
        within = g.within;
        width = g.width;
        is = g.is;
        holds = λ ws e. subst (value_machine task).IsAllowed (el ws) (g.holds ws e);
        back = λ ws e. g.back ws (subst (value_machine task).IsAllowed (sym (el ws)) e);
      }

  pub holding_gives : (b1 b2 new : Net) (alike hold at aligned : ℕ) (ls rs : List Nodes) (cs : List Candidate) (numbers li ri : List ℕ) →
      ls ≡ take (suc task.lookahead) left → rs ≡ take (suc task.lookahead) right → cs ≡ task.candidates.items → numbers ≡ s →
      IsTableAt old task.graph left 0 li → IsTableAt old task.graph right 0 ri → aligned < length old.nodes →
      GivesFact old b1 alike (λ ws. AreAlike task (cycles_by old ls ws) (cycles_by old rs ws) (is_on old ws aligned)) →
      GivesTest b1 b2 hold (λ ws. list_all (holds_at cs (values_in b1 li ws) (values_in b1 ri ws) (is_on b1 ws aligned)) numbers) →
      GivesTest b2 new at (λ ws. is_on b2 ws alike && is_on b2 ws hold) →
      GivesFact old new at (λ ws. AreHolding task s (cycles_by old left ws) (cycles_by old right ws) (is_on old ws aligned))
  holding_gives b1 b2 new alike hold at aligned ls rs cs numbers li ri el er ec en hl hr ha a h g =
      fact_of old b2 new at _ _ (extends_trans old b1 b2 a.extends h.extends) g (λ ws.
      let t : Bool = is_on old ws aligned in
      let n : ℕ = suc task.lookahead in
      let cut : (ts us : List Nodes) → us ≡ take n ts → cycles_by old us ws ≡ take n (cycles_by old ts ws) =
      λ ts us e. ap (λ (x : List Nodes). cycles_by old x ws) e ∙ sym (take-map (words_in old ws) n ts) in
      let da : Decides (is_on b2 ws alike) (AreAlike task (take n (cycles_by old left ws)) (take n (cycles_by old right ws)) t) =
      along_two (λ (x y : Cycles). AreAlike task x y t) (is_on b2 ws alike) _ _ _ _ (cut left ls el) (cut right rs er)
      (told old b1 b2 alike _ a h.extends ws) in
      let dh : Decides (is_on b2 ws hold) (AllHold (value_machine task) s (cycle_at (cycles_by old left ws) 0) (cycle_at (cycles_by old right ws) 0) t) =
      hold_told task s b1 b2 b2 hold aligned cs numbers li ri ws _ _ t ec en (its_values old b1 task.graph ws left 0 li hl a.extends)
      (its_values old b1 task.graph ws right 0 ri hr a.extends) (on_kept old b1 ws aligned a.extends ha) h (extends_refl b2) in
      Decides-and (is_on b2 ws alike) (is_on b2 ws hold) da dh)

  pub base_gives : (b1 b2 b3 new : Net) (initial hold start at aligned : ℕ) (cs : List Candidate) (numbers li ri mi ni : List ℕ) →
      cs ≡ task.candidates.items → numbers ≡ s → IsTableAt old task.graph left 0 li → IsTableAt old task.graph right 0 ri →
      IsTableAt old task.graph left 0 mi → IsTableAt old task.graph right 0 ni → aligned < length old.nodes →
      GivesFact old b1 initial (λ ws. (value_machine task).IsInitialPair (values_in old li ws) (values_in old ri ws)) →
      GivesTest b1 b2 hold (λ ws. list_all (holds_at cs (values_in b1 mi ws) (values_in b1 ni ws) (is_on b1 ws aligned)) numbers) →
      GivesTest b2 b3 start (λ ws. is_on b2 ws initial && is_on b2 ws aligned) → GivesTest b3 new at (λ ws. is_on b3 ws start && not (is_on b3 ws hold)) →
      GivesFact old new at (CopiesMeet old task s Base left right aligned)
  base_gives b1 b2 b3 new initial hold start at aligned cs numbers li ri mi ni ec en hl hr hm hn ha i h b g =
      let e2 : Extends old b2 = extends_trans old b1 b2 i.extends h.extends in
      fact_of old b3 new at _ _ (extends_trans old b2 b3 e2 b.extends) g (λ ws.
      let t : Bool = is_on old ws aligned in
      let m : Machine (List Bits) = value_machine task in
      let l : List Bits = cycle_at (cycles_by old left ws) 0 in
      let r : List Bits = cycle_at (cycles_by old right ws) 0 in
      let di : Decides (is_on b2 ws initial) (m.IsInitialPair l r) =
      along_two m.IsInitialPair (is_on b2 ws initial) _ _ _ _ (its_values old old task.graph ws left 0 li hl (extends_refl old))
      (its_values old old task.graph ws right 0 ri hr (extends_refl old)) (told old b1 b2 initial _ i h.extends ws) in
      let dt : Decides (is_on b2 ws aligned) (t ≡ true) = Decides-at (is_on b2 ws aligned) t (on_kept old b2 ws aligned e2 ha) (λ e. e, λ e. e) in
      let db : Decides (is_on b3 ws start) (m.IsInitialPair l r × (t ≡ true)) =
      Decides-at (is_on b3 ws start) (is_on b2 ws initial && is_on b2 ws aligned) (b.on ws)
      (Decides-and (is_on b2 ws initial) (is_on b2 ws aligned) di dt) in
      let dh : Decides (is_on b3 ws hold) (AllHold m s l r t) =
      hold_told task s b1 b2 b3 hold aligned cs numbers mi ni ws l r t ec en (its_values old b1 task.graph ws left 0 mi hm i.extends)
      (its_values old b1 task.graph ws right 0 ni hn i.extends) (on_kept old b1 ws aligned i.extends ha) h b.extends in
      Decides-and (is_on b3 ws start) (not (is_on b3 ws hold)) db (Decides-not (is_on b3 ws hold) dh))

  pub step_gives : (b1 b2 b3 new : Net) (holding after hold at aligned : ℕ) (cs : List Candidate) (numbers li ri mi ni : List ℕ) →
      cs ≡ task.candidates.items → numbers ≡ s → IsTableAt old task.graph left 0 li → IsTableAt old task.graph right 0 ri →
      IsTableAt old task.graph left 1 mi → IsTableAt old task.graph right 1 ni → aligned < length old.nodes →
      GivesFact old b1 holding (λ ws. AreHolding task s (cycles_by old left ws) (cycles_by old right ws) (is_on old ws aligned)) →
      GivesTest b1 b2 after (λ ws. aligned_after (value_machine task) (values_in b1 li ws) (values_in b1 ri ws) (is_on b1 ws aligned)) →
      GivesTest b2 b3 hold (λ ws. list_all (holds_at cs (values_in b2 mi ws) (values_in b2 ni ws) (is_on b2 ws after)) numbers) →
      GivesTest b3 new at (λ ws. is_on b3 ws holding && not (is_on b3 ws hold)) → GivesFact old new at (CopiesMeet old task s Step left right aligned)
  step_gives b1 b2 b3 new holding after hold at aligned cs numbers li ri mi ni ec en hl hr hm hn ha x f h g =
      let e2 : Extends old b2 = extends_trans old b1 b2 x.extends f.extends in
      let s13 : Extends b1 b3 = extends_trans b1 b2 b3 f.extends h.extends in
      fact_of old b3 new at _ _ (extends_trans old b2 b3 e2 h.extends) g (λ ws.
      let t : Bool = is_on old ws aligned in
      let m : Machine (List Bits) = value_machine task in
      let l : List Bits = cycle_at (cycles_by old left ws) 0 in
      let r : List Bits = cycle_at (cycles_by old right ws) 0 in
      let after_is : is_on b2 ws after ≡ aligned_after m l r t =
      f.on ws ∙
      (ap (λ (v : List Bits). aligned_after m v (values_in b1 ri ws) (is_on b1 ws aligned)) (its_values old b1 task.graph ws left 0 li hl x.extends) ∙
      (ap (λ (v : List Bits). aligned_after m l v (is_on b1 ws aligned)) (its_values old b1 task.graph ws right 0 ri hr x.extends) ∙
      ap (aligned_after m l r) (on_kept old b1 ws aligned x.extends ha))) in
      let dx : Decides (is_on b3 ws holding) (AreHolding task s (cycles_by old left ws) (cycles_by old right ws) t) = told old b1 b3 holding _ x s13 ws in
      let dh : Decides (is_on b3 ws hold) (AllHold m s (cycle_at (cycles_by old left ws) 1) (cycle_at (cycles_by old right ws) 1) (aligned_after m l r t)) =
      hold_told task s b2 b3 b3 hold after cs numbers mi ni ws _ _ _ ec en (its_values old b2 task.graph ws left 1 mi hm e2)
      (its_values old b2 task.graph ws right 1 ni hn e2) after_is h (extends_refl b3) in
      Decides-and (is_on b3 ws holding) (not (is_on b3 ws hold)) dx (Decides-not (is_on b3 ws hold) dh))

  pub imply_gives : (b1 b2 new : Net) (holding same at aligned : ℕ) (xs li ri : List ℕ) → xs ≡ task.attacker.items → IsTableAt old task.graph left 0 li →
      IsTableAt old task.graph right 0 ri →
      GivesFact old b1 holding (λ ws. AreHolding task s (cycles_by old left ws) (cycles_by old right ws) (is_on old ws aligned)) →
      GivesTest b1 b2 same (λ ws. list_all (is_same (values_in b1 li ws) (values_in b1 ri ws)) xs) →
      GivesTest b2 new at (λ ws. is_on b2 ws holding && not (is_on b2 ws same)) → GivesFact old new at (CopiesMeet old task s Imply left right aligned)
  imply_gives b1 b2 new holding same at aligned xs li ri ex hl hr x f g =
      fact_of old b2 new at _ _ (extends_trans old b1 b2 x.extends f.extends) g (λ ws.
      let m : Machine (List Bits) = value_machine task in
      let l : List Bits = cycle_at (cycles_by old left ws) 0 in
      let r : List Bits = cycle_at (cycles_by old right ws) 0 in
      let dx : Decides (is_on b2 ws holding) (AreHolding task s (cycles_by old left ws) (cycles_by old right ws) (is_on old ws aligned)) =
      told old b1 b2 holding _ x f.extends ws in
      let df : Decides (is_on b2 ws same) (m.attacker l ≡ m.attacker r) =
      Decides-at (is_on b2 ws same) (list_all (is_same l r) task.attacker.items)
      (f.on ws ∙
      (ap (λ (v : List Bits). list_all (is_same v (values_in b1 ri ws)) xs) (its_values old b1 task.graph ws left 0 li hl x.extends) ∙
      (ap (λ (v : List Bits). list_all (is_same l v) xs) (its_values old b1 task.graph ws right 0 ri hr x.extends) ∙ ap (list_all (is_same l r)) ex)))
      (seen_decides l r task.attacker.items) in
      Decides-and (is_on b2 ws holding) (not (is_on b2 ws same)) dx (Decides-not (is_on b2 ws same) df))
