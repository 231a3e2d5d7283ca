-- The rows of both copies, cycle by cycle, and whether they agree.
use Rattle.std.proofs.Common.{◌≡◌, ℕ, zero, suc, ◌+◌, ◌<◌, ◌≤◌, true, nat_eq, if◌then◌else◌, List, [], ◌∷◌, ◌++◌, length, map, drop, slice_index, get_or}
use Rattle.std.proofs.Common.{refl, sym, ◌∙◌, ap, subst, arith, add-one, append_assoc}
use Rattle.std.proofs.Math.Seq.{drop-cons}
use Rattle.std.proofs.lemmas.List.{length-map, at_drop_all, append-nil}
use Rattle.std.specs.List.{AllByRecursion}
use Rattle.lv_model.specs.Machine.{Agree}
use Rattle.lv_bits.specs.Words.{Bits}
use Rattle.lv_bits.specs.Values.{bit}
use Rattle.lv_netlist.specs.Net.{Net}
use Rattle.lv_unroll.specs.declared.slots.Slot.{Slot}
use Rattle.lv_unroll.specs.declared.copies.Nodes.{Nodes}
use Rattle.lv_unroll.specs.declared.rows.Port.{Port}
use Rattle.lv_unroll.specs.Wires.{number_in, is_on, Extends, GivesTest}
use Rattle.lv_unroll.specs.Slots.{Place, place_in, places_in, AreSlots, AreBeside, same_places}
use Rattle.lv_unroll.specs.Entries.{entries_of, entries_with, equally_many, IsPacked, ArePacked, entry_at, row_at, numbers_by, IsPort, IsTable, GivesEntries}
use Rattle.lv_unroll.specs.Unrolls.{IsCopy}
use Rattle.lv_unroll.specs.Agreements.{rows_in, rows_match, GivesFact}
use Rattle.lv_unroll.proofs.Growing.{extends_refl, extends_trans}
use Rattle.lv_unroll.proofs.Slotting.{number_kept, slots_kept, places_kept}
use Rattle.lv_unroll.proofs.Rowing.{by_kept}
use Rattle.lv_unroll.proofs.Packing.{same_agree, agree_same, HaveValues}

-- so far: the entries of one copy, and its cycles that are left
pub record OneSoFar (old now : Net) (count : ℕ) (ports : List Port) (tables : List Nodes) (slots : List Slot) (i : ℕ) : Type 0 where
  pub slots_are : AreSlots now count slots
  pub packed : (ws : List Bits) → IsPacked true (places_in now ws slots)
  pub whole : (ws : List Bits) → entries_of (places_in now ws slots) ++ rows_in old ws ports (drop i tables) ≡ rows_in old ws ports tables

pub record BothSoFar (old now : Net) (count : ℕ) (ports : List Port) (left right : List Nodes) (ls rs : List Slot) (i : ℕ) : Type 0 where
  pub extends : Extends old now
  pub lefts : OneSoFar old now count ports left ls i
  pub rights : OneSoFar old now count ports right rs i
  pub same : length ls ≡ length rs

none_yet : (old : Net) (count : ℕ) (ports : List Port) (tables : List Nodes) → OneSoFar old old count ports tables [] 0
none_yet old count ports tables = record { slots_are = tt; packed = λ ws. tt; whole = λ ws. refl }

pub both_none :
    (old : Net) (count : ℕ) (ports : List Port) (left right : List Nodes) (ls rs : List Slot) → ls ≡ [] → rs ≡ [] →
    BothSoFar old old count ports left right ls rs 0
both_none old count ports left right ls rs p q =
    subst (λ (l : List Slot). BothSoFar old old count ports left right l rs 0) (sym p) (subst (λ (r : List Slot). BothSoFar old old count ports left right []
    r 0) (sym q)
    (record { extends = extends_refl old; lefts = none_yet old count ports left; rights = none_yet old count ports right; same = refl }))

-- a copy that grows stays
pub one_kept :
    (old now new : Net) (count : ℕ) (ports : List Port) (tables : List Nodes) (slots : List Slot) (i : ℕ) → Extends now new →
    OneSoFar old now count ports tables slots i → OneSoFar old new count ports tables slots i
one_kept old now new count ports tables slots i s h =
    let same : (ws : List Bits) → places_in new ws slots ≡ places_in now ws slots = λ ws. places_kept now new ws count slots s h.slots_are in
    record {
      slots_are = slots_kept now new count slots s h.slots_are;
      packed = λ ws. subst (IsPacked true) (sym (same ws)) (h.packed ws);
      whole = λ ws. ap (λ (ps : List Place). entries_of ps ++ rows_in old ws ports (drop i tables)) (same ws) ∙ h.whole ws;
    }

copy_in : (net graph : Net) (ts : List Nodes) (i : ℕ) (d : Nodes) → AllByRecursion (IsCopy net graph) ts → i < length ts → IsCopy net graph (get_or ts i d)
copy_in net graph [] i d h lt = absurd (omega arith)
copy_in net graph (c ∷ cs) zero d h lt = h.0
copy_in net graph (c ∷ cs) (suc i) d h lt = copy_in net graph cs i d h.1 (omega arith)

pub copy_at :
    (net graph : Net) (ts : List Nodes) (i : ℕ) (t : Nodes) → AllByRecursion (IsCopy net graph) ts → i < length ts → t ≡ get_or ts i t → IsCopy net graph t
copy_at net graph ts i t h lt e = subst (IsCopy net graph) (sym e) (copy_in net graph ts i t h lt)

pub table_of : (net graph : Net) (table : List ℕ) (t : Nodes) → table ≡ t.list.items → IsCopy net graph t → IsTable net table
table_of net graph table t e h = subst (IsTable net) (sym e) (λ k lt. h.within k (omega (arith, h.count)))

pub ports_of :
    (net graph : Net) (count : ℕ) (ports : List Port) (table : List ℕ) (t : Nodes) → table ≡ t.list.items → IsCopy net graph t →
    AllByRecursion (IsPort (length graph.nodes) count) ports → AllByRecursion (IsPort (length table) count) ports
ports_of net graph count ports table t e h g = subst (λ (n : ℕ). AllByRecursion (IsPort n count) ports) (sym (ap length e ∙ h.count)) g

-- a row over nodes that were there before
entry_kept :
    (old now : Net) (ws : List Bits) (table : List ℕ) (p : Port) → Extends old now → IsTable old table → (count : ℕ) → IsPort (length table) count p →
    entry_at (numbers_by now ws table) p ≡ entry_at (numbers_by old ws table) p
entry_kept old now ws table p s ht count port =
    ap (λ (m : ℕ). if nat_eq m 0 then [] else map (numbers_by now ws table) p.contract.items ∷ []) (number_kept old now ws (slice_index table p.retire) s
    (ht p.retire port.retire)) ∙
    ap (λ (vs : List ℕ). if nat_eq (numbers_by old ws table p.retire) 0 then [] else vs ∷ []) (by_kept old now ws table p.contract.items s ht
    (λ j l. port.contract j (omega (arith, port.count_is))))

row_kept :
    (old now : Net) (ws : List Bits) (table : List ℕ) (ps : List Port) → Extends old now → IsTable old table → (count : ℕ) →
    AllByRecursion (IsPort (length table) count) ps → row_at (numbers_by now ws table) ps ≡ row_at (numbers_by old ws table) ps
row_kept old now ws table [] s ht count h = refl
row_kept old now ws table (p ∷ ps) s ht count h =
    ap (λ (e : List (List ℕ)). e ++ row_at (numbers_by now ws table) ps) (entry_kept old now ws table p s ht count h.0) ∙
    ap (λ (r : List (List ℕ)). entry_at (numbers_by old ws table) p ++ r) (row_kept old now ws table ps s ht count h.1)

one_step :
    (old now new : Net) (count places i : ℕ) (ports : List Port) (tables : List Nodes) (slots out : List Slot) (table : List ℕ) (t : Nodes) →
    t ≡ get_or tables i t → i < length tables → table ≡ t.list.items → Extends old now → IsTable old table →
    AllByRecursion (IsPort (length table) count) ports → OneSoFar old now count ports tables slots i →
    GivesEntries now new count places out (λ ws. entries_of (places_in now ws slots) ++ row_at (numbers_by now ws table) ports) →
    OneSoFar old new count ports tables out (i + 1)
one_step old now new count places i ports tables slots out table t is lt et s ht hp h g = record {
  slots_are = g.slots_are;
  packed = g.packed;
  whole = λ ws.
      let rest : List (List ℕ) = rows_in old ws ports (drop (i + 1) tables) in
      let cut : drop i tables ≡ t ∷ drop (i + 1) tables = rw add-one (drop-cons tables i t lt ∙ ap (λ (x : Nodes). x ∷ drop (suc i) tables) (sym is)) in
      let row : row_at (numbers_by now ws table) ports ≡ row_at (numbers_by old ws t.list.items) ports = row_kept old now ws table ports s ht count hp ∙
      ap (λ (x : List ℕ). row_at (numbers_by old ws x) ports) et in
      ap (λ (es : List (List ℕ)). es ++ rest) (g.are ws) ∙
      (ap (λ (r : List (List ℕ)). (entries_of (places_in now ws slots) ++ r) ++ rest) row ∙
      (append_assoc (entries_of (places_in now ws slots)) (row_at (numbers_by old ws t.list.items) ports) rest ∙
      (ap (λ (ts : List Nodes). entries_of (places_in now ws slots) ++ rows_in old ws ports ts) (sym cut) ∙ h.whole ws)));
}

pub both_step :
    (old now mid new : Net) (count i : ℕ) (ports : List Port) (left right : List Nodes) (ls ls' rs rs' : List Slot) (graph : Net) (lt rt : List ℕ)
    (l r : Nodes) → l ≡ get_or left i l → r ≡ get_or right i r → i < length left → length left ≡ length right → lt ≡ l.list.items → rt ≡ r.list.items →
    AllByRecursion (IsPort (length graph.nodes) count) ports → AllByRecursion (IsCopy old graph) left → AllByRecursion (IsCopy old graph) right →
    BothSoFar old now count ports left right ls rs i → GivesEntries now mid count (length ls + length ports) ls' (λ ws. entries_of (places_in now ws ls) ++
    row_at (numbers_by now ws lt) ports) → GivesEntries mid new count (length rs + length ports) rs' (λ ws. entries_of (places_in mid ws rs) ++ row_at
    (numbers_by mid ws rt) ports) → BothSoFar old new count ports left right ls' rs' (i + 1)
both_step old now mid new count i ports left right ls ls' rs rs' graph lt rt l r el er less len et eu hp hl hr h g k =
    let less' : i < length right = omega arith in
    let cl : IsCopy old graph l = copy_at old graph left i l hl less el in
    let cr : IsCopy old graph r = copy_at old graph right i r hr less' er in
    let e1 : Extends old mid = extends_trans old now mid h.extends g.extends in
    record {
      extends = extends_trans old mid new e1 k.extends;
      lefts = one_kept old mid new count ports left ls' (i + 1) k.extends (one_step old now mid count (length ls + length ports) i ports left ls ls' lt l el
          less et h.extends (table_of old graph lt l et cl) (ports_of old graph count ports lt l et cl hp) h.lefts g);
      rights = one_step old mid new count (length rs + length ports) i ports right rs rs' rt r er less' eu e1 (table_of old graph rt r eu cr)
          (ports_of old graph count ports rt r eu cr hp) (one_kept old now mid count ports right rs i g.extends h.rights) k;
      same = omega (arith, h.same, g.many, k.many);
    }

have_values : (net : Net) (ws : List Bits) (n : ℕ) (ss : List Slot) → AreSlots net n ss → HaveValues n (places_in net ws ss)
have_values net ws n [] h = tt
have_values net ws n (s ∷ ss) h = (length-map s.values.items (number_in net ws) ∙ h.0.values.count, have_values net ws n ss h.1)

pub both_agree :
    (old now new : Net) (count i at : ℕ) (ports : List Port) (left right : List Nodes) (ls ls' rs rs' : List Slot) → length left ≤ i → length right ≤ i →
    ls' ≡ ls → rs' ≡ rs → BothSoFar old now count ports left right ls rs i →
    GivesTest now new at (λ ws. same_places (places_in now ws ls') (places_in now ws rs')) →
    GivesFact old new at (λ ws. Agree (rows_in old ws ports left) (rows_in old ws ports right))
both_agree old now new count i at ports left right ls ls' rs rs' hl hr el er h g =
    let lefts : (ws : List Bits) → entries_of (places_in now ws ls) ≡ rows_in old ws ports left = λ ws.
    sym (append-nil (entries_of (places_in now ws ls))) ∙ (sym (at_drop_all (λ (ts : List Nodes). entries_of (places_in now ws ls) ++ rows_in old ws ports ts)
    left i hl) ∙ h.lefts.whole ws) in
    let rights : (ws : List Bits) → entries_of (places_in now ws rs) ≡ rows_in old ws ports right = λ ws.
    sym (append-nil (entries_of (places_in now ws rs))) ∙ (sym (at_drop_all (λ (ts : List Nodes). entries_of (places_in now ws rs) ++ rows_in old ws ports ts)
    right i hr) ∙ h.rights.whole ws) in
    let on : (ws : List Bits) → is_on new ws at ≡ same_places (places_in now ws ls) (places_in now ws rs) = λ ws.
    g.on ws ∙ (ap (λ (s : List Slot). same_places (places_in now ws s) (places_in now ws rs')) el ∙
    ap (λ (s : List Slot). same_places (places_in now ws ls) (places_in now ws s)) er) in
    let len : (ws : List Bits) → length (places_in now ws ls) ≡ length (places_in now ws rs) =
    λ ws. omega (arith, length-map ls (place_in now ws), length-map rs (place_in now ws), h.same) in
    record {
      extends = extends_trans old now new h.extends g.extends;
      within = g.within;
      width = g.width;
      is = λ ws. g.is ws ∙ ap bit (sym (g.on ws));
      holds = λ ws e.
          let agree : Agree (entries_of (places_in now ws ls)) (entries_of (places_in now ws rs)) =
          same_agree count (places_in now ws ls) (places_in now ws rs) (h.lefts.packed ws) (h.rights.packed ws)
          (have_values now ws count ls h.lefts.slots_are) (have_values now ws count rs h.rights.slots_are) (len ws) (sym (on ws) ∙ e) in
          subst (λ (x : List (List ℕ)). Agree x (rows_in old ws ports right)) (lefts ws) (subst (Agree (entries_of (places_in now ws ls))) (rights ws) agree);
      back = λ ws e.
          let agree : Agree (entries_of (places_in now ws ls)) (entries_of (places_in now ws rs)) =
          subst (λ (x : List (List ℕ)). Agree x (entries_of (places_in now ws rs))) (sym (lefts ws)) (subst (Agree (rows_in old ws ports left))
          (sym (rights ws)) e) in
          on ws ∙ agree_same (places_in now ws ls) (places_in now ws rs) (h.lefts.packed ws) (h.rights.packed ws) (len ws) agree;
    }

pub both_beside :
    (old now : Net) (count i : ℕ) (ports : List Port) (left right : List Nodes) (ls ls' rs rs' : List Slot) → ls' ≡ ls → rs' ≡ rs →
    BothSoFar old now count ports left right ls rs i → AreBeside now ls' rs'
both_beside old now count i ports left right ls ls' rs rs' el er h = record {
  count = count;
  lefts = subst (AreSlots now count) (sym el) h.lefts.slots_are;
  rights = subst (AreSlots now count) (sym er) h.rights.slots_are;
}

-- ---- whether equally many retire

pub no_slots : (net : Net) (n : ℕ) (ss : List Slot) → ss ≡ [] → AreSlots net n ss
no_slots net n ss e = subst (AreSlots net n) (sym e) tt

pub none_packed : (net : Net) (ss : List Slot) → ss ≡ [] → ArePacked net ss
none_packed net ss e = subst (ArePacked net) (sym e) (λ ws. tt)

pub table_kept : (old new : Net) (table : List ℕ) → Extends old new → IsTable old table → IsTable new table
table_kept old new table s h = λ k lt. omega (arith, h k lt, s.more)

pub packed_kept : (old new : Net) (n : ℕ) (ss ss' : List Slot) → ss' ≡ ss → Extends old new → AreSlots old n ss → ArePacked old ss → ArePacked new ss'
packed_kept old new n ss ss' e s h p = λ ws. subst (IsPacked true) (sym (ap (places_in new ws) e ∙ places_kept old new ws n ss s h)) (p ws)

pub matching_gives :
    (old b1 b2 new : Net) (n many many' at : ℕ) (ports : List Port) (left right : List ℕ) (none none' ls ls' rs rs' : List Slot) →
    none ≡ [] → none' ≡ [] → ls' ≡ ls → rs' ≡ rs → length left ≡ length right →
    AllByRecursion (IsPort (length left) n) ports → IsTable old right →
    GivesEntries old b1 n many ls (entries_with old none ports left) → GivesEntries b1 b2 n many' rs (entries_with b1 none' ports right) →
    GivesTest b2 new at (equally_many b2 ls' rs') → GivesTest old new at (rows_match old ports left right)
matching_gives old b1 b2 new n many many' at ports left right none none' ls ls' rs rs' e e' el er same hp ht l r g =
    let mine : AllByRecursion (IsPort (length right) n) ports = subst (λ (m : ℕ). AllByRecursion (IsPort m n) ports) same hp in
    let lefts : (ws : List Bits) → entries_of (places_in b2 ws ls') ≡ row_at (numbers_by old ws left) ports = λ ws.
    ap (λ (ss : List Slot). entries_of (places_in b2 ws ss)) el ∙
    (ap entries_of (places_kept b1 b2 ws n ls r.extends l.slots_are) ∙
    (l.are ws ∙ ap (λ (ss : List Slot). entries_of (places_in old ws ss) ++ row_at (numbers_by old ws left) ports) e)) in
    let rights : (ws : List Bits) → entries_of (places_in b2 ws rs') ≡ row_at (numbers_by old ws right) ports = λ ws.
    ap (λ (ss : List Slot). entries_of (places_in b2 ws ss)) er ∙
    (r.are ws ∙
    (ap (λ (ss : List Slot). entries_of (places_in b1 ws ss) ++ row_at (numbers_by b1 ws right) ports) e' ∙ row_kept old b1 ws right ports l.extends ht n mine))
    in
    let is : (ws : List Bits) → equally_many b2 ls' rs' ws ≡ rows_match old ports left right ws = λ ws.
    ap (λ (es : List (List ℕ)). nat_eq (length es) (length (entries_of (places_in b2 ws rs')))) (lefts ws) ∙
    ap (λ (es : List (List ℕ)). nat_eq (length (row_at (numbers_by old ws left) ports)) (length es)) (rights ws) in
    record {
      extends = extends_trans old b2 new (extends_trans old b1 b2 l.extends r.extends) g.extends;
      within = g.within;
      width = g.width;
      is = λ ws. g.is ws ∙ ap bit (is ws);
      on = λ ws. g.on ws ∙ is ws;
    }

pub rows_beside :
    (old b1 b2 : Net) (n many many' : ℕ) (ports : List Port) (left right : List ℕ) (none none' ls ls' rs rs' : List Slot) → ls' ≡ ls → rs' ≡ rs →
    GivesEntries old b1 n many ls (entries_with old none ports left) → GivesEntries b1 b2 n many' rs (entries_with b1 none' ports right) →
    AreBeside b2 ls' rs'
rows_beside old b1 b2 n many many' ports left right none none' ls ls' rs rs' el er l r = record {
  count = n;
  lefts = subst (AreSlots b2 n) (sym el) (slots_kept b1 b2 n ls r.extends l.slots_are);
  rights = subst (AreSlots b2 n) (sym er) r.slots_are;
}
