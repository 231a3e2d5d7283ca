-- The rows of cycles, port by port.
use Rattle.std.proofs.Common.{◌≡◌, ℕ, zero, suc, ◌+◌, ◌<◌, ◌==◌, Bool, true, false, not, if◌then◌else◌, List, [], ◌∷◌, ◌++◌, length, map, take, drop}
use Rattle.std.proofs.Common.{slice_index, get_or, refl, sym, ◌∙◌, ap, subst, arith, add-one, append_assoc}
use Rattle.std.proofs.Math.Seq.{drop-cons}
use Rattle.std.proofs.lemmas.List.{map-append, length-map}
use Rattle.std.specs.List.{AllByRecursion}
use Rattle.lv_bits.specs.Words.{Bits}
use Rattle.lv_netlist.specs.Net.{Net}
use Rattle.lv_unroll.specs.declared.slots.Slot.{Slot}
use Rattle.lv_unroll.specs.declared.rows.Port.{Port}
use Rattle.lv_unroll.specs.Wires.{number_in, is_on, Extends, GivesNumber}
use Rattle.lv_unroll.specs.Slots.{Place, place_in, places_in, AreSlots, GivesSlots, GivesNumbers, appended}
use Rattle.lv_unroll.specs.Entries.{entries_of, IsPacked, entry_at, row_at, numbers_by, IsPort, IsTable}
use Rattle.lv_unroll.proofs.Growing.{extends_refl, extends_trans}
use Rattle.lv_unroll.proofs.Copying.{alike_kept, alike_more}
use Rattle.lv_unroll.proofs.Slotting.{number_kept, wide_kept, places_kept, map_more}
use Rattle.lv_unroll.proofs.Packing.{packed_appended, entries_appended, length_appended, one_if}

pub wide_step :
    (old now new : Net) (k at x y : ℕ) (nodes table vs vs' : List ℕ) → IsTable old table → ((i : ℕ) → i < length nodes → slice_index nodes i < length table) →
    k < length nodes → y ≡ slice_index nodes k → x ≡ slice_index table y → vs' ≡ vs ++ at ∷ [] →
    GivesNumbers old now k vs (λ ws. map (numbers_by old ws table) (take k nodes)) → GivesNumber now new at 128 (λ ws. number_in now ws x) →
    GivesNumbers old new (k + 1) vs' (λ ws. map (numbers_by old ws table) (take (k + 1) nodes))
wide_step old now new k at x y nodes table vs vs' ht hn lt ey ex e h g =
    let is : x ≡ slice_index table (slice_index nodes k) = ex ∙ ap (slice_index table) ey in
    let within : slice_index table (slice_index nodes k) < length old.nodes = ht (slice_index nodes k) (hn k lt) in
    subst (λ (l : List ℕ). GivesNumbers old new (k + 1) l (λ ws. map (numbers_by old ws table) (take (k + 1) nodes))) (sym e) (record {
      extends = extends_trans old now new h.extends g.extends;
      alike = alike_more new k at (λ i. 128) vs (alike_kept now new k (λ i. 128) vs g.extends h.alike) g.within g.width;
      are = λ ws.
          let f : ℕ → ℕ = numbers_by old ws table in
          map-append (number_in new ws) vs (at ∷ []) ∙
          (ap (λ (l : List ℕ). l ++ number_in new ws at ∷ []) (wide_kept now new ws k vs g.extends h.alike ∙ h.are ws) ∙
          (ap (λ (m : ℕ). map f (take k nodes) ++ m ∷ []) (g.is ws ∙ (ap (number_in now ws) is ∙
          number_kept old now ws (slice_index table (slice_index nodes k)) h.extends within)) ∙ sym (map_more f nodes k lt)));
    })

-- so far: the entries made, and the ports that are left
pub record RowsSoFar (old now : Net) (count : ℕ) (table : List ℕ) (ports : List Port) (first slots : List Slot) (i : ℕ) : Type 0 where
  pub extends : Extends old now
  pub slots_are : AreSlots now count slots
  pub many : length slots ≡ length first + i
  pub packed : (ws : List Bits) → IsPacked true (places_in now ws slots)
  pub whole :
      (ws : List Bits) → entries_of (places_in now ws slots) ++ row_at (numbers_by old ws table) (drop i ports) ≡ entries_of (places_in old ws first) ++
      row_at (numbers_by old ws table) ports

pub rowing_none :
    (old : Net) (count : ℕ) (table : List ℕ) (ports : List Port) (slots : List Slot) → AreSlots old count slots → ((ws : List Bits) →
    IsPacked true (places_in old ws slots)) → RowsSoFar old old count table ports slots slots 0
rowing_none old count table ports slots h g = record { extends = extends_refl old; slots_are = h; many = omega arith; packed = g; whole = λ ws. refl }

entry_if : (t : Bool) (vs : List ℕ) → one_if (not t) vs ≡ (if t then [] else vs ∷ [])
entry_if true vs = refl
entry_if false vs = refl

port_in : (n count : ℕ) (ps : List Port) (i : ℕ) (d : Port) → AllByRecursion (IsPort n count) ps → i < length ps → IsPort n count (get_or ps i d)
port_in n count [] i d h lt = absurd (omega arith)
port_in n count (p ∷ ps) zero d h lt = h.0
port_in n count (p ∷ ps) (suc i) d h lt = port_in n count ps i d h.1 (omega arith)

pub port_at : (n count : ℕ) (ps : List Port) (i : ℕ) (p : Port) → AllByRecursion (IsPort n count) ps → i < length ps → p ≡ get_or ps i p → IsPort n count p
port_at n count ps i p h lt e = subst (IsPort n count) (sym e) (port_in n count ps i p h lt)

-- numbers by the table stay
pub by_kept :
    (old now : Net) (ws : List Bits) (table ks : List ℕ) → Extends old now → IsTable old table → ((i : ℕ) → i < length ks → slice_index ks i < length table) →
    map (numbers_by now ws table) ks ≡ map (numbers_by old ws table) ks
by_kept old now ws table [] s ht h = refl
by_kept old now ws table (k ∷ ks) s ht h =
    let first : k < length table = h 0 (omega arith) in
    rw (number_kept old now ws (slice_index table k) s (ht k first), by_kept old now ws table ks s ht (λ i lt. h (suc i) (omega arith))) refl

pub rowing_step :
    (old now b1 new : Net) (count i on : ℕ) (table vs vs' xs : List ℕ) (ports : List Port) (first slots slots' out : List Slot) (p : Port) →
    p ≡ get_or ports i p → i < length ports → IsPort (length table) count p → IsTable old table → on ≡ slice_index table p.retire → xs ≡ p.contract.items →
    slots' ≡ slots → vs' ≡ vs → RowsSoFar old now count table ports first slots i →
    GivesNumbers now b1 (length xs) vs (λ ws. map (numbers_by now ws table) xs) → GivesSlots b1 new (length vs') out (λ ws. appended true (is_on b1 ws on)
    (map (number_in b1 ws) vs') (places_in b1 ws slots')) → RowsSoFar old new count table ports first out (i + 1)
unfolding is_on
rowing_step old now b1 new count i on table vs vs' xs ports first slots slots' out p is lt port ht eo ex es ev h v g =
    let e1 : Extends old b1 = extends_trans old now b1 h.extends v.extends in
    let places : (ws : List Bits) → places_in new ws out ≡ appended true (is_on b1 ws on) (map (number_in b1 ws) vs) (places_in now ws slots) = λ ws.
    g.are ws ∙ (ap (λ (l : List ℕ). appended true (is_on b1 ws on) (map (number_in b1 ws) l) (places_in b1 ws slots')) ev ∙
    ap (appended true (is_on b1 ws on) (map (number_in b1 ws) vs)) (ap (places_in b1 ws) es ∙ places_kept now b1 ws count slots v.extends h.slots_are)) in
    record {
      extends = extends_trans old b1 new e1 g.extends;
      slots_are = subst (λ (m : ℕ). AreSlots new m out) (ap length ev ∙ (v.alike.count ∙ (ap length ex ∙ port.count_is))) g.slots_are;
      many =
          let ws : List Bits = [] in
          omega (
            arith,
            h.many,
            ap length (places ws),
            length-map out (place_in new ws),
            length-map slots (place_in now ws),
            length_appended true
                (is_on b1 ws on) (map (number_in b1 ws) vs) (places_in now ws slots),
          );
      packed = λ ws. subst (IsPacked true) (sym (places ws)) (packed_appended true (is_on b1 ws on) (map (number_in b1 ws) vs) (places_in now ws slots)
          (h.packed ws));
      whole = λ ws.
          let f : ℕ → ℕ = numbers_by old ws table in
          let at_on : number_in b1 ws on ≡ f p.retire = ap (number_in b1 ws) eo ∙ number_kept old b1 ws (slice_index table p.retire) e1
          (ht p.retire port.retire) in
          let values : map (number_in b1 ws) vs ≡ map f p.contract.items = v.are ws ∙ (ap (map (numbers_by now ws table)) ex ∙
          by_kept old now ws table p.contract.items h.extends ht (λ j l. port.contract j (omega (arith, port.count_is)))) in
          let entry : one_if (is_on b1 ws on) (map (number_in b1 ws) vs) ≡ entry_at f p =
          ap (λ (m : ℕ). one_if (not (m == 0)) (map (number_in b1 ws) vs)) at_on ∙
          (ap (one_if (not (f p.retire == 0))) values ∙ entry_if (f p.retire == 0) (map f p.contract.items)) in
          let cut : drop i ports ≡ p ∷ drop (i + 1) ports = rw add-one (drop-cons ports i p lt ∙ ap (λ (x : Port). x ∷ drop (suc i) ports) (sym is)) in
          ap (λ (ps : List Place). entries_of ps ++ row_at f (drop (i + 1) ports)) (places ws) ∙
          (ap (λ (es : List (List ℕ)). es ++ row_at f (drop (i + 1) ports)) (entries_appended (is_on b1 ws on) (map (number_in b1 ws) vs)
          (places_in now ws slots) (h.packed ws)) ∙
          (ap (λ (e : List (List ℕ)). (entries_of (places_in now ws slots) ++ e) ++ row_at f (drop (i + 1) ports)) entry ∙
          (append_assoc (entries_of (places_in now ws slots)) (entry_at f p) (row_at f (drop (i + 1) ports)) ∙
          (ap (λ (ps : List Port). entries_of (places_in now ws slots) ++ row_at f ps) (sym cut) ∙ h.whole ws))));
    }
