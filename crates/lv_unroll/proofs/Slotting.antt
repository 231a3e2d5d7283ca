-- Slots, one after another.
use Rattle.std.proofs.Common.{◌≡◌, ℕ, suc, ◌+◌, ◌<◌, ◌≤◌, ◌==◌, Bool, true, false, not, ◌&&◌, ◌||◌, if◌then◌else◌, List, [], ◌∷◌, zero, length-take, ◌++◌}
use Rattle.std.proofs.Common.{length, map, take, drop, slice_index, refl, sym, ◌∙◌, ap, subst, arith, add-one, append_assoc, get_or}
use Rattle.std.proofs.Math.Seq.{take-suc, drop-cons}
use Rattle.std.proofs.lemmas.List.{map-append, length-map, at_drop_all}
use Rattle.lv_bits.specs.Words.{Bits}
use Rattle.lv_bits.specs.Values.{bit}
use Rattle.lv_netlist.specs.Net.{Net, width_at}
use Rattle.lv_unroll.specs.declared.slots.Slot.{Slot}
use Rattle.lv_unroll.specs.Wires.{number_in, is_on, Extends, GivesNumber, GivesTest}
use Rattle.lv_unroll.specs.Slots.{Place, place_in, places_in, AreWide, IsSlot, AreSlots, GivesSlot, GivesSlots, GivesNumbers, chosen_numbers, filled_place}
use Rattle.lv_unroll.specs.Slots.{appended, same_values, same_flag, same_place, same_places}
use Rattle.lv_unroll.proofs.Growing.{extends_trans}
use Rattle.lv_unroll.proofs.Copying.{alike_kept, alike_more}

-- ---- what stays

pub number_kept : (old new : Net) (ws : List Bits) (k : ℕ) → Extends old new → k < length old.nodes → number_in new ws k ≡ number_in old ws k
unfolding number_in
number_kept old new ws k s h = ap (λ (b : Bits). b.value) (s.words ws k h)

pub on_kept : (old new : Net) (ws : List Bits) (k : ℕ) → Extends old new → k < length old.nodes → is_on new ws k ≡ is_on old ws k
unfolding is_on
on_kept old new ws k s h = ap (λ (n : ℕ). not (n == 0)) (number_kept old new ws k s h)

pub numbers_kept :
    (old new : Net) (ws : List Bits) (ks : List ℕ) → Extends old new → ((i : ℕ) → i < length ks → slice_index ks i < length old.nodes) →
    map (number_in new ws) ks ≡ map (number_in old ws) ks
numbers_kept old new ws [] s h = refl
numbers_kept old new ws (k ∷ ks) s h =
    let first : k < length old.nodes = h 0 (omega arith) in
    rw (number_kept old new ws k s first, numbers_kept old new ws ks s (λ i lt. h (suc i) (omega arith))) refl

pub wide_kept :
    (old new : Net) (ws : List Bits) (n : ℕ) (ks : List ℕ) → Extends old new → AreWide old n ks → map (number_in new ws) ks ≡ map (number_in old ws) ks
wide_kept old new ws n ks s h = numbers_kept old new ws ks s (λ i lt. h.within i (omega (arith, h.count)))

pub slot_kept : (old new : Net) (n : ℕ) (s : Slot) → Extends old new → IsSlot old n s → IsSlot new n s
slot_kept old new n s e h = record { on = omega (arith, h.on, e.more); values = alike_kept old new n (λ i. 128) s.values.items e h.values }

pub slots_kept : (old new : Net) (n : ℕ) (ss : List Slot) → Extends old new → AreSlots old n ss → AreSlots new n ss
slots_kept old new n [] e h = tt
slots_kept old new n (s ∷ ss) e h = (slot_kept old new n s e h.0, slots_kept old new n ss e h.1)

abbrev place : Bool → List ℕ → Place
place t vs = record { there = t; values = vs }

pub place_kept : (old new : Net) (ws : List Bits) (n : ℕ) (s : Slot) → Extends old new → IsSlot old n s → place_in new ws s ≡ place_in old ws s
place_kept old new ws n s e h =
    ap (λ (t : Bool). place t (map (number_in new ws) s.values.items)) (on_kept old new ws s.on e h.on) ∙
    ap (place (is_on old ws s.on)) (wide_kept old new ws n s.values.items e h.values)

pub places_kept : (old new : Net) (ws : List Bits) (n : ℕ) (ss : List Slot) → Extends old new → AreSlots old n ss → places_in new ws ss ≡ places_in old ws ss
places_kept old new ws n [] e h = refl
places_kept old new ws n (s ∷ ss) e h =
    ap (λ (p : Place). p ∷ places_in new ws ss) (place_kept old new ws n s e h.0) ∙ ap (λ (ps : List Place). place_in old ws s ∷ ps)
    (places_kept old new ws n ss e h.1)

-- ---- values

if_snoc : (t : Bool) (xs ys : List ℕ) (x y : ℕ) → (if t then xs else ys) ++ (if t then x else y) ∷ [] ≡ (if t then xs ++ x ∷ [] else ys ++ y ∷ [])
if_snoc true xs ys x y = refl
if_snoc false xs ys x y = refl

-- the first k + 1 numbers
pub map_more : (f : ℕ → ℕ) (xs : List ℕ) (k : ℕ) → k < length xs → map f (take (k + 1) xs) ≡ map f (take k xs) ++ f (slice_index xs k) ∷ []
map_more f xs k lt = rw add-one (ap (map f) (take-suc xs k 0 lt) ∙ map-append f (take k xs) (slice_index xs k ∷ []))

pub chosen_step :
    (old now new : Net) (c k n at x y : ℕ) (xs ys vs vs' : List ℕ) → AreWide old n xs → AreWide old n ys → k < n → c < length old.nodes →
    x ≡ slice_index xs k → y ≡ slice_index ys k → vs' ≡ vs ++ at ∷ [] → GivesNumbers old now k vs (chosen_numbers old c (take k xs) (take k ys)) →
    GivesNumber now new at (width_at now.nodes x) (λ ws. if is_on now ws c then number_in now ws x else number_in now ws y) →
    GivesNumbers old new (k + 1) vs' (chosen_numbers old c (take (k + 1) xs) (take (k + 1) ys))
chosen_step old now new c k n at x y xs ys vs vs' hx hy lt hc ex ey e h g =
    subst (λ (l : List ℕ). GivesNumbers old new (k + 1) l (chosen_numbers old c (take (k + 1) xs) (take (k + 1) ys))) (sym e) (record {
      extends = extends_trans old now new h.extends g.extends;
      alike = alike_more new k at (λ i. 128) vs (alike_kept now new k (λ i. 128) vs g.extends h.alike) g.within (g.width ∙ (ap (width_at now.nodes) ex ∙
          (h.extends.widths (slice_index xs k) (hx.within k lt) ∙ hx.widths k lt)));
      are = λ ws.
          let t : Bool = is_on old ws c in
          let f : ℕ → ℕ = number_in old ws in
          let fx : number_in now ws x ≡ f (slice_index xs k) = ap (number_in now ws) ex ∙ number_kept old now ws (slice_index xs k) h.extends
          (hx.within k lt) in
          let fy : number_in now ws y ≡ f (slice_index ys k) = ap (number_in now ws) ey ∙ number_kept old now ws (slice_index ys k) h.extends
          (hy.within k lt) in
          let last : number_in new ws at ≡ (if t then f (slice_index xs k) else f (slice_index ys k)) =
          g.is ws ∙
          (ap (λ (s : Bool). if s then number_in now ws x else number_in now ws y) (on_kept old now ws c h.extends hc) ∙
          (ap (λ (m : ℕ). if t then m else number_in now ws y) fx ∙ ap (λ (m : ℕ). if t then f (slice_index xs k) else m) fy)) in
          map-append (number_in new ws) vs (at ∷ []) ∙
          (ap (λ (l : List ℕ). l ++ number_in new ws at ∷ []) (wide_kept now new ws k vs g.extends h.alike ∙ h.are ws) ∙
          (ap (λ (m : ℕ). chosen_numbers old c (take k xs) (take k ys) ws ++ m ∷ []) last ∙
          (if_snoc t (map f (take k xs)) (map f (take k ys)) (f (slice_index xs k)) (f (slice_index ys k)) ∙
          (ap (λ (l : List ℕ). if t then l else map f (take k ys) ++ f (slice_index ys k) ∷ []) (sym (map_more f xs k (omega (arith, hx.count)))) ∙
          ap (λ (l : List ℕ). if t then map f (take (k + 1) xs) else l) (sym (map_more f ys k (omega (arith, hy.count))))))));
    })

-- ---- one entry

pub filled_gives :
    (old b1 b2 new : Net) (n before on free : ℕ) (slot out : Slot) (xs values : List ℕ) → xs ≡ slot.values.items → before < length old.nodes →
    on < length old.nodes → AreWide old n values → IsSlot old n slot → GivesTest old b1 free (λ ws. is_on old ws before && is_on old ws on) →
    GivesTest b1 b2 out.on (λ ws. is_on b1 ws slot.on || is_on b1 ws free) → GivesNumbers b2 new n out.values.items (λ ws. if is_on b2 ws slot.on then map
    (number_in b2 ws) xs else map (number_in b2 ws) values) → GivesSlot old new n out (λ ws. filled_place (is_on old ws before) (is_on old ws on)
    (map (number_in old ws) values) (place_in old ws slot))
filled_gives old b1 b2 new n before on free slot out xs values ex hb ho hv hs f t v =
    let e2 : Extends old b2 = extends_trans old b1 b2 f.extends t.extends in
    record {
      extends = extends_trans old b2 new e2 v.extends;
      slot_is = record { on = omega (arith, t.within, v.extends.more); values = v.alike };
      is = λ ws.
          let there : is_on new ws out.on ≡ (is_on old ws slot.on || (is_on old ws before && is_on old ws on)) =
          on_kept b2 new ws out.on v.extends t.within ∙
          (t.on ws ∙
          (ap (λ (x : Bool). x || is_on b1 ws free) (on_kept old b1 ws slot.on f.extends hs.on) ∙ ap (λ (x : Bool). is_on old ws slot.on || x) (f.on ws))) in
          let left : map (number_in b2 ws) xs ≡ map (number_in old ws) slot.values.items = ap (map (number_in b2 ws)) ex ∙
          wide_kept old b2 ws n slot.values.items e2 hs.values in
          let right : map (number_in b2 ws) values ≡ map (number_in old ws) values = wide_kept old b2 ws n values e2 hv in
          let vals : map (number_in new ws) out.values.items ≡ (if is_on old ws slot.on then map (number_in old ws) slot.values.items else map
          (number_in old ws) values) =
          v.are ws ∙
          (ap (λ (x : Bool). if x then map (number_in b2 ws) xs else map (number_in b2 ws) values) (on_kept old b2 ws slot.on e2 hs.on) ∙
          (ap (λ (l : List ℕ). if is_on old ws slot.on then l else map (number_in b2 ws) values) left ∙
          ap (λ (l : List ℕ). if is_on old ws slot.on then map (number_in old ws) slot.values.items else l) right)) in
          ap (λ (x : Bool). place x (map (number_in new ws) out.values.items)) there ∙
          ap (place (is_on old ws slot.on || (is_on old ws before && is_on old ws on))) vals;
    }

abbrev appended_from : Net → ℕ → List ℕ → List Bits → Bool → List Place → List Place
appended_from old on values ws before ps = appended before (is_on old ws on) (map (number_in old ws) values) ps

-- so far: the entries made, and those that are left
pub record Appending (old now : Net) (n on before : ℕ) (values : List ℕ) (slots out : List Slot) (i : ℕ) : Type 0 where
  pub extends : Extends old now
  pub slots_are : AreSlots now n out
  pub last : before < length now.nodes
  pub whole :
      (ws : List Bits) → places_in now ws out ++ appended_from old on values ws (is_on now ws before) (places_in old ws (drop i slots)) ≡ appended_from old on
      values ws true (places_in old ws slots)

pub appending_none :
    (old now : Net) (n on before : ℕ) (values : List ℕ) (slots out : List Slot) → out ≡ [] → GivesTest old now before (λ ws. true) →
    Appending old now n on before values slots out 0
appending_none old now n on before values slots out e g = subst (λ (o : List Slot). Appending old now n on before values slots o 0) (sym e) (record {
  extends = g.extends;
  slots_are = tt;
  last = g.within;
  whole = λ ws. ap (λ (t : Bool). appended_from old on values ws t (places_in old ws slots)) (g.on ws);
})

slots_more : (net : Net) (n : ℕ) (ss : List Slot) (s : Slot) → AreSlots net n ss → IsSlot net n s → AreSlots net n (ss ++ s ∷ [])
slots_more net n [] s h g = (g, tt)
slots_more net n (t ∷ ss) s h g = (h.0, slots_more net n ss s h.1 g)

pub slot_in : (net : Net) (n : ℕ) (ss : List Slot) (i : ℕ) (d : Slot) → AreSlots net n ss → i < length ss → IsSlot net n (get_or ss i d)
slot_in net n [] i d h lt = absurd (omega arith)
slot_in net n (s ∷ ss) zero d h lt = h.0
slot_in net n (s ∷ ss) (suc i) d h lt = slot_in net n ss i d h.1 (omega arith)

pub appending_step :
    (old now new : Net) (n on before i : ℕ) (values : List ℕ) (slots out out' : List Slot) (s next : Slot) → s ≡ get_or slots i s → i < length slots →
    on < length old.nodes → AreWide old n values → AreSlots old n slots → out' ≡ out ++ next ∷ [] → Appending old now n on before values slots out i →
    GivesSlot now new n next (λ ws. filled_place (is_on now ws before) (is_on now ws on) (map (number_in now ws) values) (place_in now ws s)) →
    Appending old new n on s.on values slots out' (i + 1)
appending_step old now new n on before i values slots out out' s next is lt ho hv hs e h g =
    let slot_is : IsSlot old n s = subst (IsSlot old n) (sym is) (slot_in old n slots i s hs lt) in
    let all : Extends old new = extends_trans old now new h.extends g.extends in
    subst (λ (o : List Slot). Appending old new n on s.on values slots o (i + 1)) (sym e) (record {
      extends = all;
      slots_are = slots_more new n out next (slots_kept now new n out g.extends h.slots_are) g.slot_is;
      last = omega (arith, slot_is.on, all.more);
      whole = λ ws.
          let vs : List ℕ = map (number_in old ws) values in
          let o : Bool = is_on old ws on in
          let rest : List Place = places_in old ws (drop (i + 1) slots) in
          let p : place_in new ws next ≡ filled_place (is_on now ws before) o vs (place_in old ws s) =
          g.is ws ∙
          (ap (λ (x : Bool). filled_place (is_on now ws before) x (map (number_in now ws) values) (place_in now ws s)) (on_kept old now ws on h.extends ho) ∙
          (ap (λ (l : List ℕ). filled_place (is_on now ws before) o l (place_in now ws s)) (wide_kept old now ws n values h.extends hv) ∙
          ap (filled_place (is_on now ws before) o vs) (place_kept old now ws n s h.extends slot_is))) in
          let left : places_in new ws (out ++ next ∷ []) ≡ places_in now ws out ++ filled_place (is_on now ws before) o vs (place_in old ws s) ∷ [] =
          map-append (place_in new ws) out (next ∷ []) ∙
          (ap (λ (ps : List Place). ps ++ place_in new ws next ∷ []) (places_kept now new ws n out g.extends h.slots_are) ∙
          ap (λ (q : Place). places_in now ws out ++ q ∷ []) p) in
          let cut : drop i slots ≡ s ∷ drop (i + 1) slots = rw add-one (drop-cons slots i s lt ∙ ap (λ (x : Slot). x ∷ drop (suc i) slots) (sym is)) in
          ap (λ (ps : List Place). ps ++ appended (is_on new ws s.on) o vs rest) left ∙
          (ap (λ (t : Bool). (places_in now ws out ++ filled_place (is_on now ws before) o vs (place_in old ws s) ∷ []) ++ appended t o vs rest)
          (on_kept old new ws s.on all slot_is.on) ∙
          (append_assoc (places_in now ws out) (filled_place (is_on now ws before) o vs (place_in old ws s) ∷ []) (appended (is_on old ws s.on) o vs rest) ∙
          (ap (λ (ss : List Slot). places_in now ws out ++ appended (is_on now ws before) o vs (places_in old ws ss)) (sym cut) ∙ h.whole ws)));
    })

pub appended_gives :
    (old now new : Net) (n on before i : ℕ) (values : List ℕ) (slots out out' : List Slot) (next : Slot) → length slots ≤ i → on < length old.nodes →
    AreWide old n values → next.values.items ≡ values → out' ≡ out ++ next ∷ [] → Appending old now n on before values slots out i →
    GivesTest now new next.on (λ ws. is_on now ws before && is_on now ws on) → GivesSlots old new n out' (λ ws. appended_from old on values ws true
    (places_in old ws slots))
appended_gives old now new n on before i values slots out out' next le ho hv ev e h g =
    let all : Extends old new = extends_trans old now new h.extends g.extends in
    subst (λ (o : List Slot). GivesSlots old new n o (λ ws. appended_from old on values ws true (places_in old ws slots))) (sym e) (record {
      extends = all;
      slots_are = slots_more new n out next (slots_kept now new n out g.extends h.slots_are) (record {
        on = g.within;
        values =
            subst (AreWide new n) (sym ev) (alike_kept old new n (λ i. 128) values all hv);
      });
      are = λ ws.
          let vs : List ℕ = map (number_in old ws) values in
          let o : Bool = is_on old ws on in
          let p : place_in new ws next ≡ place (is_on now ws before && o) vs =
          ap (λ (x : Bool). place x (map (number_in new ws) next.values.items)) (g.on ws ∙
          ap (λ (x : Bool). is_on now ws before && x) (on_kept old now ws on h.extends ho)) ∙
          ap (place (is_on now ws before && o)) (ap (map (number_in new ws)) ev ∙ wide_kept old new ws n values all hv) in
          map-append (place_in new ws) out (next ∷ []) ∙
          (ap (λ (ps : List Place). ps ++ place_in new ws next ∷ []) (places_kept now new ws n out g.extends h.slots_are) ∙
          (ap (λ (q : Place). places_in now ws out ++ q ∷ []) p ∙
          (sym (at_drop_all (λ (ss : List Slot). places_in now ws out ++ appended (is_on now ws before) o vs (places_in old ws ss)) slots i le) ∙ h.whole ws)));
    })

-- ---- whether two lists are the same

and_true : (t : Bool) → (t && true) ≡ (true && t)
and_true true = refl
and_true false = refl

pub and_assoc : (a b c : Bool) → (a && b) && c ≡ a && (b && c)
and_assoc true b c = refl
and_assoc false b c = refl

-- a conjunction of one more
pub and_step :
    (old now mid new : Net) (all one at : ℕ) (f g h : List Bits → Bool) → GivesTest old now all f → GivesTest now mid one g →
    GivesTest mid new at (λ ws. is_on mid ws all && is_on mid ws one) → ((ws : List Bits) → f ws && g ws ≡ h ws) → GivesTest old new at h
and_step old now mid new all one at f g h a o t e =
    let is : (ws : List Bits) → (is_on mid ws all && is_on mid ws one) ≡ h ws = λ ws.
    ap (λ (x : Bool). x && is_on mid ws one) (on_kept now mid ws all o.extends a.within ∙ a.on ws) ∙ (ap (λ (x : Bool). f ws && x) (o.on ws) ∙ e ws) in
    record {
      extends = extends_trans old mid new (extends_trans old now mid a.extends o.extends) t.extends;
      within = t.within;
      width = t.width;
      is = λ ws. t.is ws ∙ ap bit (is ws);
      on = λ ws. t.on ws ∙ is ws;
    }

same_values_more : (xs ys : List ℕ) (x y : ℕ) → length xs ≡ length ys → same_values (xs ++ x ∷ []) (ys ++ y ∷ []) ≡ (same_values xs ys && (x == y))
same_values_more [] [] x y h = and_true (x == y)
same_values_more [] (b ∷ ys) x y h = absurd (omega arith)
same_values_more (a ∷ xs) [] x y h = absurd (omega arith)
same_values_more (a ∷ xs) (b ∷ ys) x y h = ap (λ (t : Bool). (a == b) && t) (same_values_more xs ys x y (omega arith)) ∙
    sym (and_assoc (a == b) (same_values xs ys) (x == y))

abbrev same_so_far : Net → List ℕ → List ℕ → ℕ → List Bits → Bool
same_so_far old xs ys k ws = same_values (map (number_in old ws) (take k xs)) (map (number_in old ws) (take k ys))

pub same_step :
    (old now mid new : Net) (n k all one at x y : ℕ) (xs ys : List ℕ) → AreWide old n xs → AreWide old n ys → k < n → x ≡ slice_index xs k →
    y ≡ slice_index ys k → GivesTest old now all (same_so_far old xs ys k) → GivesTest now mid one (λ ws. number_in now ws x == number_in now ws y) →
    GivesTest mid new at (λ ws. is_on mid ws all && is_on mid ws one) → GivesTest old new at (same_so_far old xs ys (k + 1))
same_step old now mid new n k all one at x y xs ys hx hy lt ex ey a o t =
    and_step old now mid new all one at (same_so_far old xs ys k) (λ ws. number_in now ws x == number_in now ws y) (same_so_far old xs ys (k + 1)) a o t (λ ws.
    let f : ℕ → ℕ = number_in old ws in
    let fx : number_in now ws x ≡ f (slice_index xs k) = ap (number_in now ws) ex ∙ number_kept old now ws (slice_index xs k) a.extends (hx.within k lt) in
    let fy : number_in now ws y ≡ f (slice_index ys k) = ap (number_in now ws) ey ∙ number_kept old now ws (slice_index ys k) a.extends (hy.within k lt) in
    ap (λ (m : ℕ). same_so_far old xs ys k ws && (m == number_in now ws y)) fx ∙
    (ap (λ (m : ℕ). same_so_far old xs ys k ws && (f (slice_index xs k) == m)) fy ∙
    (sym (same_values_more (map f (take k xs)) (map f (take k ys)) (f (slice_index xs k)) (f (slice_index ys k))
    (omega (arith, length-map (take k xs) f, length-map (take k ys) f, length-take k xs, length-take k ys, hx.count, hy.count))) ∙
    (ap (λ (l : List ℕ). same_values l (map f (take k ys) ++ f (slice_index ys k) ∷ [])) (sym (map_more f xs k (omega (arith, hx.count)))) ∙
    ap (same_values (map f (take (k + 1) xs))) (sym (map_more f ys k (omega (arith, hy.count))))))))

-- one entry beside another
pub same_slot_gives :
    (old b1 b2 b3 new : Net) (n two apart same at : ℕ) (left right : Slot) (xs ys : List ℕ) → xs ≡ left.values.items → ys ≡ right.values.items →
    IsSlot old n left → IsSlot old n right → GivesTest old b1 two (λ ws. is_on old ws left.on && is_on old ws right.on) →
    GivesTest b1 b2 apart (λ ws. not (is_on b1 ws two)) → GivesTest b2 b3 same (λ ws. same_values (map (number_in b2 ws) xs) (map (number_in b2 ws) ys)) →
    GivesTest b3 new at (λ ws. is_on b3 ws apart || is_on b3 ws same) → GivesTest old new at (λ ws. same_place (place_in old ws left) (place_in old ws right))
same_slot_gives old b1 b2 b3 new n two apart same at left right xs ys ex ey hl hr t a s e =
    let e2 : Extends old b2 = extends_trans old b1 b2 t.extends a.extends in
    let is : (ws : List Bits) → (is_on b3 ws apart || is_on b3 ws same) ≡ same_place (place_in old ws left) (place_in old ws right) = λ ws.
    let f : ℕ → ℕ = number_in old ws in
    let first : is_on b3 ws apart ≡ not (is_on old ws left.on && is_on old ws right.on) = on_kept b2 b3 ws apart s.extends a.within ∙
    (a.on ws ∙ ap not (t.on ws)) in
    let second : is_on b3 ws same ≡ same_values (map f left.values.items) (map f right.values.items) =
    s.on ws ∙
    (ap (λ (l : List ℕ). same_values l (map (number_in b2 ws) ys)) (ap (map (number_in b2 ws)) ex ∙ wide_kept old b2 ws n left.values.items e2 hl.values) ∙
    ap (same_values (map f left.values.items)) (ap (map (number_in b2 ws)) ey ∙ wide_kept old b2 ws n right.values.items e2 hr.values)) in
    ap (λ (x : Bool). x || is_on b3 ws same) first ∙ ap (λ (x : Bool). not (is_on old ws left.on && is_on old ws right.on) || x) second in
    record {
      extends = extends_trans old b2 new e2 (extends_trans b2 b3 new s.extends e.extends);
      within = e.within;
      width = e.width;
      is = λ ws. e.is ws ∙ ap bit (is ws);
      on = λ ws. e.on ws ∙ is ws;
    }

same_places_more :
    (ps qs : List Place) (p q : Place) → length ps ≡ length qs → same_places (ps ++ p ∷ []) (qs ++ q ∷ []) ≡ (same_places ps qs && same_place p q)
same_places_more [] [] p q h = and_true (same_place p q)
same_places_more [] (b ∷ ys) x y h = absurd (omega arith)
same_places_more (a ∷ xs) [] x y h = absurd (omega arith)
same_places_more (a ∷ xs) (b ∷ ys) x y h = ap (λ (t : Bool). same_place a b && t) (same_places_more xs ys x y (omega arith)) ∙
    sym (and_assoc (same_place a b) (same_places xs ys) (same_place x y))

abbrev alike_so_far : Net → List Slot → List Slot → ℕ → List Bits → Bool
alike_so_far old xs ys k ws = same_places (places_in old ws (take k xs)) (places_in old ws (take k ys))

places_more :
    (net : Net) (ws : List Bits) (ss : List Slot) (k : ℕ) (s : Slot) → k < length ss → s ≡ get_or ss k s →
    places_in net ws (take (k + 1) ss) ≡ places_in net ws (take k ss) ++ place_in net ws s ∷ []
places_more net ws ss k s lt is = rw add-one (ap (places_in net ws) (take-suc ss k s lt) ∙ (map-append (place_in net ws) (take k ss) (get_or ss k s ∷ []) ∙
    ap (λ (x : Slot). places_in net ws (take k ss) ++ place_in net ws x ∷ []) (sym is)))

pub agree_step :
    (old now mid new : Net) (n k all one at : ℕ) (xs ys : List Slot) (x y : Slot) → AreSlots old n xs → AreSlots old n ys → k < length xs →
    length xs ≡ length ys → x ≡ get_or xs k x → y ≡ get_or ys k y → GivesTest old now all (alike_so_far old xs ys k) →
    GivesTest now mid one (λ ws. same_place (place_in now ws x) (place_in now ws y)) → GivesTest mid new at (λ ws. is_on mid ws all && is_on mid ws one) →
    GivesTest old new at (alike_so_far old xs ys (k + 1))
agree_step old now mid new n k all one at xs ys x y hx hy lt len ex ey a o t =
    let lt' : k < length ys = omega arith in
    let sx : IsSlot old n x = subst (IsSlot old n) (sym ex) (slot_in old n xs k x hx lt) in
    let sy : IsSlot old n y = subst (IsSlot old n) (sym ey) (slot_in old n ys k y hy lt') in
    and_step old now mid new all one at (alike_so_far old xs ys k) (λ ws. same_place (place_in now ws x) (place_in now ws y)) (alike_so_far old xs ys (k + 1))
    a o t (λ ws.
    let lengths : length (places_in old ws (take k xs)) ≡ length (places_in old ws (take k ys)) =
    omega (arith, length-map (take k xs) (place_in old ws), length-map (take k ys) (place_in old ws), length-take k xs, length-take k ys) in
    ap (λ (p : Place). alike_so_far old xs ys k ws && same_place p (place_in now ws y)) (place_kept old now ws n x a.extends sx) ∙
    (ap (λ (p : Place). alike_so_far old xs ys k ws && same_place (place_in old ws x) p) (place_kept old now ws n y a.extends sy) ∙
    (sym (same_places_more (places_in old ws (take k xs)) (places_in old ws (take k ys)) (place_in old ws x) (place_in old ws y) lengths) ∙
    (ap (λ (l : List Place). same_places l (places_in old ws (take k ys) ++ place_in old ws y ∷ [])) (sym (places_more old ws xs k x lt ex)) ∙
    ap (same_places (places_in old ws (take (k + 1) xs))) (sym (places_more old ws ys k y lt' ey))))))

-- ---- whether equally many entries are there

-- at each place both entries are there, or neither is
abbrev pub same_flags : List Place → List Place → Bool
same_flags [] qs = true
same_flags (p ∷ ps) [] = true
same_flags (p ∷ ps) (q ∷ qs) = same_flag p.there q.there && same_flags ps qs

flag_bits : (t u : Bool) → (bit (not t) == bit (not u)) ≡ same_flag t u
flag_bits true true = refl
flag_bits true false = refl
flag_bits false true = refl
flag_bits false false = refl

pub same_on_gives :
    (old b1 b2 new : Net) (x y free other at : ℕ) → y < length old.nodes → GivesTest old b1 free (λ ws. not (is_on old ws x)) →
    GivesTest b1 b2 other (λ ws. not (is_on b1 ws y)) → GivesTest b2 new at (λ ws. number_in b2 ws free == number_in b2 ws other) →
    GivesTest old new at (λ ws. same_flag (is_on old ws x) (is_on old ws y))
same_on_gives old b1 b2 new x y free other at hy f o e =
    let is : (ws : List Bits) → (number_in b2 ws free == number_in b2 ws other) ≡ same_flag (is_on old ws x) (is_on old ws y) = λ ws.
    let first : number_in b2 ws free ≡ bit (not (is_on old ws x)) = number_kept b1 b2 ws free o.extends f.within ∙ f.is ws in
    let second : number_in b2 ws other ≡ bit (not (is_on old ws y)) = o.is ws ∙ ap (λ (t : Bool). bit (not t)) (on_kept old b1 ws y f.extends hy) in
    ap (λ (n : ℕ). n == number_in b2 ws other) first ∙
    (ap (λ (n : ℕ). bit (not (is_on old ws x)) == n) second ∙ flag_bits (is_on old ws x) (is_on old ws y)) in
    record {
      extends = extends_trans old b1 new f.extends (extends_trans b1 b2 new o.extends e.extends);
      within = e.within;
      width = e.width;
      is = λ ws. e.is ws ∙ ap bit (is ws);
      on = λ ws. e.on ws ∙ is ws;
    }

same_flags_more :
    (ps qs : List Place) (p q : Place) → length ps ≡ length qs → same_flags (ps ++ p ∷ []) (qs ++ q ∷ []) ≡ (same_flags ps qs && same_flag p.there q.there)
same_flags_more [] [] p q h = and_true (same_flag p.there q.there)
same_flags_more [] (b ∷ ys) x y h = absurd (omega arith)
same_flags_more (a ∷ xs) [] x y h = absurd (omega arith)
same_flags_more (a ∷ xs) (b ∷ ys) x y h = ap (λ (t : Bool). same_flag a.there b.there && t) (same_flags_more xs ys x y (omega arith)) ∙
    sym (and_assoc (same_flag a.there b.there) (same_flags xs ys) (same_flag x.there y.there))

abbrev pub flags_so_far : Net → List Slot → List Slot → ℕ → List Bits → Bool
flags_so_far old xs ys k ws = same_flags (places_in old ws (take k xs)) (places_in old ws (take k ys))

pub flags_step :
    (old now mid new : Net) (n k all one at : ℕ) (xs ys : List Slot) (x y : Slot) → AreSlots old n xs → AreSlots old n ys → k < length xs →
    length xs ≡ length ys → x ≡ get_or xs k x → y ≡ get_or ys k y → GivesTest old now all (flags_so_far old xs ys k) →
    GivesTest now mid one (λ ws. same_flag (is_on now ws x.on) (is_on now ws y.on)) → GivesTest mid new at (λ ws. is_on mid ws all && is_on mid ws one) →
    GivesTest old new at (flags_so_far old xs ys (k + 1))
flags_step old now mid new n k all one at xs ys x y hx hy lt len ex ey a o t =
    let lt' : k < length ys = omega arith in
    let sx : IsSlot old n x = subst (IsSlot old n) (sym ex) (slot_in old n xs k x hx lt) in
    let sy : IsSlot old n y = subst (IsSlot old n) (sym ey) (slot_in old n ys k y hy lt') in
    and_step old now mid new all one at (flags_so_far old xs ys k) (λ ws. same_flag (is_on now ws x.on) (is_on now ws y.on)) (flags_so_far old xs ys (k + 1))
    a o t (λ ws.
    let lengths : length (places_in old ws (take k xs)) ≡ length (places_in old ws (take k ys)) =
    omega (arith, length-map (take k xs) (place_in old ws), length-map (take k ys) (place_in old ws), length-take k xs, length-take k ys) in
    ap (λ (u : Bool). flags_so_far old xs ys k ws && same_flag u (is_on now ws y.on)) (on_kept old now ws x.on a.extends sx.on) ∙
    (ap (λ (u : Bool). flags_so_far old xs ys k ws && same_flag (is_on old ws x.on) u) (on_kept old now ws y.on a.extends sy.on) ∙
    (sym (same_flags_more (places_in old ws (take k xs)) (places_in old ws (take k ys)) (place_in old ws x) (place_in old ws y) lengths) ∙
    (ap (λ (l : List Place). same_flags l (places_in old ws (take k ys) ++ place_in old ws y ∷ [])) (sym (places_more old ws xs k x lt ex)) ∙
    ap (same_flags (places_in old ws (take (k + 1) xs))) (sym (places_more old ws ys k y lt' ey))))))
