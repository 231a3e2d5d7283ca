-- The goals of the queries, from their parts.
use Rattle.std.proofs.Common.{◌≡◌, ℕ, suc, ◌<◌, Bool, true, not, ◌&&◌, List, length, take, sym, ◌∙◌, ap}
use Rattle.std.proofs.lemmas.List.{take-map}
use Rattle.std.proofs.lemmas.Bool.Decides.{Decides-at, Decides-not, Decides-and}
use Rattle.std.specs.Prelude.{Decides}
use Rattle.std.specs.List.{list_all}
use Rattle.lv_bits.specs.Words.{Bits}
use Rattle.lv_model.specs.Machine.{Machine, AllHold, aligned_after}
use Rattle.lv_netlist.specs.Net.{Net}
use Rattle.lv_unroll.specs.declared.copies.Nodes.{Nodes}
use Rattle.lv_unroll.specs.Wires.{is_on, Extends, GivesTest}
use Rattle.lv_unroll.specs.Unrolls.{words_in}
use Rattle.lv_unroll.specs.Agreements.{GivesFact}
use Rattle.lv_unroll.proofs.Growing.{extends_refl, extends_trans}
use Rattle.lv_unroll.proofs.Slotting.{on_kept}
use Rattle.lv_product.specs.declared.task.Candidate.{Candidate}
use Rattle.lv_product.specs.declared.task.Task.{Task}
use Rattle.lv_product.specs.declared.task.Query.TheVariants.{Base, Step}
use Rattle.lv_product.specs.Values.{value_machine, values_in, holds_at}
use Rattle.lv_product.specs.Meets.{Cycles, cycle_at, cycles_by, AreAlike, AreHolding, CopiesMeet}
use Rattle.lv_product.proofs.Holding.{later_on}
use Rattle.lv_product.proofs.Telling.{fact_of, told, along_two, hold_decides}
use Rattle.lv_product.proofs.Reaching.{IsTableAt, its_values}

-- the node says whether the list that these words tell holds, in terms of earlier values
hold_told :
    (task : Task) (s : List Bits → List ℕ) (now mid later : Net) (hold aligned : ℕ) (cs : List Candidate) (li ri : List ℕ) (ws l r : List Bits) (a : Bool) →
    cs ≡ task.candidates.items → values_in now li ws ≡ l → values_in now ri ws ≡ r → is_on now ws aligned ≡ a →
    GivesTest now mid hold (λ ws. list_all (holds_at cs (values_in now li ws) (values_in now ri ws) (is_on now ws aligned)) (s ws)) → Extends mid later →
    Decides (is_on later ws hold) (AllHold (value_machine task) (s ws) l r a)
hold_told task s now mid later hold aligned cs li ri ws l r a ec el er ea g x =
    Decides-at (is_on later ws hold) (list_all (holds_at task.candidates.items l r a) (s ws))
    (later_on now mid later hold _ g x ws ∙
    (ap (λ (c : List Candidate). list_all (holds_at c (values_in now li ws) (values_in now ri ws) (is_on now ws aligned)) (s ws)) ec ∙
    (ap (λ (v : List Bits). list_all (holds_at task.candidates.items v (values_in now ri ws) (is_on now ws aligned)) (s ws)) el ∙
    (ap (λ (v : List Bits). list_all (holds_at task.candidates.items l v (is_on now ws aligned)) (s ws)) er ∙
    ap (λ (t : Bool). list_all (holds_at task.candidates.items l r t) (s ws)) ea))))
    (hold_decides task (s ws) l r a)

module _ (task : Task) (s : List Bits → List ℕ) (old : Net) (left right : List Nodes) where
  pub holding_gives : (b1 b2 new : Net) (alike hold at aligned : ℕ) (ls rs : List Nodes) (cs : List Candidate) (li ri : List ℕ) →
      ls ≡ take (suc task.lookahead) left → rs ≡ take (suc task.lookahead) right → cs ≡ task.candidates.items →
      IsTableAt old task.graph left 0 li → IsTableAt old task.graph right 0 ri → aligned < length old.nodes →
      GivesFact old b1 alike (λ ws. AreAlike task (cycles_by old ls ws) (cycles_by old rs ws) (is_on old ws aligned)) →
      GivesTest b1 b2 hold (λ ws. list_all (holds_at cs (values_in b1 li ws) (values_in b1 ri ws) (is_on b1 ws aligned)) (s ws)) →
      GivesTest b2 new at (λ ws. is_on b2 ws alike && is_on b2 ws hold) →
      GivesFact old new at (λ ws. AreHolding task (s ws) (cycles_by old left ws) (cycles_by old right ws) (is_on old ws aligned))
  holding_gives b1 b2 new alike hold at aligned ls rs cs li ri el er ec hl hr ha a h g =
      fact_of old b2 new at _ _ (extends_trans old b1 b2 a.extends h.extends) g (λ ws.
      let t : Bool = is_on old ws aligned in
      let n : ℕ = suc task.lookahead in
      let cut : (ts us : List Nodes) → us ≡ take n ts → cycles_by old us ws ≡ take n (cycles_by old ts ws) =
      λ ts us e. ap (λ (x : List Nodes). cycles_by old x ws) e ∙ sym (take-map (words_in old ws) n ts) in
      let da : Decides (is_on b2 ws alike) (AreAlike task (take n (cycles_by old left ws)) (take n (cycles_by old right ws)) t) =
      along_two (λ (x y : Cycles). AreAlike task x y t) (is_on b2 ws alike) _ _ _ _ (cut left ls el) (cut right rs er)
      (told old b1 b2 alike _ a h.extends ws) in
      let dh : Decides (is_on b2 ws hold) (AllHold (value_machine task) (s ws) (cycle_at (cycles_by old left ws) 0) (cycle_at (cycles_by old right ws) 0) t) =
      hold_told task s b1 b2 b2 hold aligned cs li ri ws _ _ t ec (its_values old b1 task.graph ws left 0 li hl a.extends)
      (its_values old b1 task.graph ws right 0 ri hr a.extends) (on_kept old b1 ws aligned a.extends ha) h (extends_refl b2) in
      Decides-and (is_on b2 ws alike) (is_on b2 ws hold) da dh)

  pub base_gives : (b1 b2 b3 new : Net) (initial hold start at aligned : ℕ) (cs : List Candidate) (li ri : List ℕ) →
      cs ≡ task.candidates.items → IsTableAt old task.graph left 0 li → IsTableAt old task.graph right 0 ri → aligned < length old.nodes →
      GivesFact old b1 initial (λ ws. (value_machine task).IsInitialPair (values_in old li ws) (values_in old ri ws)) →
      GivesTest b1 b2 hold (λ ws. list_all (holds_at cs (values_in b1 li ws) (values_in b1 ri ws) (is_on b1 ws aligned)) (s ws)) →
      GivesTest b2 b3 start (λ ws. is_on b2 ws initial && is_on b2 ws aligned) → GivesTest b3 new at (λ ws. is_on b3 ws start && not (is_on b3 ws hold)) →
      GivesFact old new at (λ ws. CopiesMeet old task (s ws) Base left right aligned ws)
  base_gives b1 b2 b3 new initial hold start at aligned cs li ri ec hl hr ha i h b g =
      let e2 : Extends old b2 = extends_trans old b1 b2 i.extends h.extends in
      fact_of old b3 new at _ _ (extends_trans old b2 b3 e2 b.extends) g (λ ws.
      let t : Bool = is_on old ws aligned in
      let m : Machine (List Bits) = value_machine task in
      let l : List Bits = cycle_at (cycles_by old left ws) 0 in
      let r : List Bits = cycle_at (cycles_by old right ws) 0 in
      let di : Decides (is_on b2 ws initial) (m.IsInitialPair l r) =
      along_two m.IsInitialPair (is_on b2 ws initial) _ _ _ _ (its_values old old task.graph ws left 0 li hl (extends_refl old))
      (its_values old old task.graph ws right 0 ri hr (extends_refl old)) (told old b1 b2 initial _ i h.extends ws) in
      let dt : Decides (is_on b2 ws aligned) (t ≡ true) = Decides-at (is_on b2 ws aligned) t (on_kept old b2 ws aligned e2 ha) (λ e. e, λ e. e) in
      let db : Decides (is_on b3 ws start) (m.IsInitialPair l r × (t ≡ true)) =
      Decides-at (is_on b3 ws start) (is_on b2 ws initial && is_on b2 ws aligned) (b.on ws)
      (Decides-and (is_on b2 ws initial) (is_on b2 ws aligned) di dt) in
      let dh : Decides (is_on b3 ws hold) (AllHold m (s ws) l r t) =
      hold_told task s b1 b2 b3 hold aligned cs li ri ws l r t ec (its_values old b1 task.graph ws left 0 li hl i.extends)
      (its_values old b1 task.graph ws right 0 ri hr i.extends) (on_kept old b1 ws aligned i.extends ha) h b.extends in
      Decides-and (is_on b3 ws start) (not (is_on b3 ws hold)) db (Decides-not (is_on b3 ws hold) dh))

  pub step_gives : (b1 b2 b3 new : Net) (holding after hold at aligned : ℕ) (cs : List Candidate) (li ri mi ni : List ℕ) →
      cs ≡ task.candidates.items → IsTableAt old task.graph left 0 li → IsTableAt old task.graph right 0 ri →
      IsTableAt old task.graph left 1 mi → IsTableAt old task.graph right 1 ni → aligned < length old.nodes →
      GivesFact old b1 holding (λ ws. AreHolding task (s ws) (cycles_by old left ws) (cycles_by old right ws) (is_on old ws aligned)) →
      GivesTest b1 b2 after (λ ws. aligned_after (value_machine task) (values_in b1 li ws) (values_in b1 ri ws) (is_on b1 ws aligned)) →
      GivesTest b2 b3 hold (λ ws. list_all (holds_at cs (values_in b2 mi ws) (values_in b2 ni ws) (is_on b2 ws after)) (s ws)) →
      GivesTest b3 new at (λ ws. is_on b3 ws holding && not (is_on b3 ws hold)) →
      GivesFact old new at (λ ws. CopiesMeet old task (s ws) Step left right aligned ws)
  step_gives b1 b2 b3 new holding after hold at aligned cs li ri mi ni ec hl hr hm hn ha x f h g =
      let e2 : Extends old b2 = extends_trans old b1 b2 x.extends f.extends in
      let s13 : Extends b1 b3 = extends_trans b1 b2 b3 f.extends h.extends in
      fact_of old b3 new at _ _ (extends_trans old b2 b3 e2 h.extends) g (λ ws.
      let t : Bool = is_on old ws aligned in
      let m : Machine (List Bits) = value_machine task in
      let l : List Bits = cycle_at (cycles_by old left ws) 0 in
      let r : List Bits = cycle_at (cycles_by old right ws) 0 in
      let after_is : is_on b2 ws after ≡ aligned_after m l r t =
      f.on ws ∙
      (ap (λ (v : List Bits). aligned_after m v (values_in b1 ri ws) (is_on b1 ws aligned)) (its_values old b1 task.graph ws left 0 li hl x.extends) ∙
      (ap (λ (v : List Bits). aligned_after m l v (is_on b1 ws aligned)) (its_values old b1 task.graph ws right 0 ri hr x.extends) ∙
      ap (aligned_after m l r) (on_kept old b1 ws aligned x.extends ha))) in
      let dx : Decides (is_on b3 ws holding) (AreHolding task (s ws) (cycles_by old left ws) (cycles_by old right ws) t) =
      told old b1 b3 holding _ x s13 ws in
      let dh : Decides (is_on b3 ws hold) (AllHold m (s ws) (cycle_at (cycles_by old left ws) 1) (cycle_at (cycles_by old right ws) 1) (aligned_after m l r t)) =
      hold_told task s b2 b3 b3 hold after cs mi ni ws _ _ _ ec (its_values old b2 task.graph ws left 1 mi hm e2)
      (its_values old b2 task.graph ws right 1 ni hn e2) after_is h (extends_refl b3) in
      Decides-and (is_on b3 ws holding) (not (is_on b3 ws hold)) dx (Decides-not (is_on b3 ws hold) dh))
