-- What depends on signals by the views of the parts of a source does so in the source.
use Rattle.std.proofs.Common.{◌≡◌, ℕ, zero, suc, Bool, List, [], ◌∷◌, map, refl, sym, ap, ◌∙◌, Some}
use Rattle.std.specs.Prelude.{slice_get, Contains, IsTrue}
use Rattle.lv_source.specs.Names.{Declared}
use Rattle.lv_source.specs.Places.{Bit, has_bit, whole}
use Rattle.lv_source.specs.Parts.{Design, Part, Body, Assign, Comb, Clocked, At, parts, signals_of, is_clocked, drives, reads}
use Rattle.lv_source.specs.Views.{View, is_edge, view_of, views_of}
use Rattle.lv_source.specs.Observe as source
use Rattle.lv_source.proofs.Facts.{some_same}
use Rattle.lv_source.proofs.Kids.{in_index}
use Rattle.lv_source.proofs.Refused.{in_contains, contains_in}
use Rattle.lv_settles.proofs.Settling.{index_of}
use Rattle.lv_reach.specs.Fanout.{Reaches, direct, through, DependsOn}

clocked-is : (p : Part) → is_edge (view_of p).way ≡ is_clocked p
clocked-is p = by-body p.at p.clocks p.body
  where
    by-body : (a : At) (cs : List ℕ) (x : Body) → (let p : Part = record { at = a; clocks = cs; body = x } in is_edge (view_of p).way ≡ is_clocked p)
    by-body a cs (Assign ps value) = refl
    by-body a cs (Comb names s) = refl
    by-body a cs (Clocked names c s) = refl

-- ---- views and their parts

get-map : (ps : List Part) (k : ℕ) (p : Part) → slice_get ps k ≡ Some p → slice_get (map view_of ps) k ≡ Some (view_of p)
get-map [] k p e = cc
get-map (x ∷ xs) zero p e = ap (λ (z : Part). Some (view_of z)) (some_same x p e)
get-map (x ∷ xs) (suc k) p e = get-map xs k p e

abbrev IsViewOf : List Part → ℕ → View → Type 0
IsViewOf ps k v = (p : Part) × (slice_get ps k ≡ Some p) × (view_of p ≡ v)

map-get : (ps : List Part) (k : ℕ) (v : View) → slice_get (map view_of ps) k ≡ Some v → IsViewOf ps k v
map-get [] k v e = cc
map-get (x ∷ xs) zero v e = (x, refl, some_same (view_of x) v e)
map-get (x ∷ xs) (suc k) v e = map-get xs k v e

module _ (d : Design) (bs : List Bit) where
  there : {b : Bit} → Reaches (views_of d) bs b → source.Reaches d bs b
  there (direct h) = source.direct h
  there {b = b} (through {c = c} k v e way more x y) =
      let p : IsViewOf (parts d) k v = map-get (parts d) k v e in
      source.through p.0 (in_contains p.0 (parts d) (in_index p.0 (parts d) k p.1))
      (sym (clocked-is p.0) ∙ (ap (λ (z : View). is_edge z.way) p.2 ∙ way)) (there more)
      (ap (λ (z : View). has_bit z.drives c) p.2 ∙ x) (ap (λ (z : View). has_bit z.reads b) p.2 ∙ y)

  back : {b : Bit} → source.Reaches d bs b → Reaches (views_of d) bs b
  back (source.direct h) = direct h
  back (source.through p listed clock more x y) =
      let k : (k : ℕ) × (slice_get (parts d) k ≡ Some p) = index_of p (parts d) (contains_in p (parts d) listed) in
      through k.0 (view_of p) (get-map (parts d) k.0 p k.1) (clocked-is p ∙ clock) (back more) x y

pub depends-there : (d : Design) (is : Declared → Bool) (bs : List Bit) → DependsOn (signals_of d) (views_of d) is bs →
    (x : Declared) × (b : Bit) × Contains (signals_of d) x × IsTrue (is x) × IsTrue (has_bit (whole x) b) × source.Reaches d bs b
depends-there d is bs h = (h.0, h.1, h.2, h.3, h.4, there d bs h.5)

pub depends-back : (d : Design) (is : Declared → Bool) (bs : List Bit) →
    ((x : Declared) × (b : Bit) × Contains (signals_of d) x × IsTrue (is x) × IsTrue (has_bit (whole x) b) × source.Reaches d bs b) →
    DependsOn (signals_of d) (views_of d) is bs
depends-back d is bs h = (h.0, h.1, h.2, h.3, h.4, back d bs h.5)
