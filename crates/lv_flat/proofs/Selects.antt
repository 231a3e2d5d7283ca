-- Selects whose bounds and widths are the same numbers name the same bits.
use Rattle.std.proofs.Common.{◌≡◌, ℕ, ◌+◌, ◌-◌, Bool, true, ◌&&◌, List, [], ◌∷◌, ◌++◌, length, map, refl, ap, ◌∙◌, Option, Some, None}
use Rattle.std.specs.Prelude.{max, min, if◌then◌else◌, flat_map, ℤ, pos, negsuc, ◌-ℤ◌}
use Rattle.std.specs.List.{list_all, AllZip}
use mathlib.Core.Path.{fun_ext}
use Rattle.lv_ast.specs.declared.expr.Expr.TheOpen.{Select-F}
use Rattle.lv_source.specs.Names.{Bounds, Declared, Valuation, low, high, is_constant_sort, is_signal_sort}
use Rattle.lv_source.specs.Values.{own_value, number_of, nowhere, plain}
use Rattle.lv_source.specs.Places.{Bit, Place, count_of, lowest, bits_from, bits_of, nowhere_place, element, place_by, place_of, bit_selects, within, held, read, place_bits, whole}
use Rattle.lv_ast.specs.Names.{at_index}
use Rattle.std.specs.Prelude.{decimal}
use Rattle.lv_source.specs.Meaning.{Reading, Choice, parts_of, meant, all_constant, index_reads, bits_named, is_nil, named}
use Rattle.lv_source.proofs.Bridges.{two}

-- two readings of one number
pub record Same (a b : Reading) : Type 0 where
  pub value : own_value a.meaning nowhere ≡ own_value b.meaning nowhere
  pub constant : a.constant ≡ b.constant
  pub reads : a.reads ≡ b.reads

abbrev pub Alike : Choice → Choice → Type 0
Alike (Select-F.Bit a) (Select-F.Bit b) = a ≡ b
Alike (Select-F.Part a b) (Select-F.Part c d) = Same a c × Same b d
Alike (Select-F.Up a b) (Select-F.Up c d) = (a ≡ c) × Same b d
Alike (Select-F.Down a b) (Select-F.Down c d) = (a ≡ c) × Same b d
Alike _ _ = ⊥

-- ---- one select

counts : (c d : Choice) → Alike c d → count_of (meant c) ≡ count_of (meant d)
counts (Select-F.Bit a) (Select-F.Bit b) h = refl
counts (Select-F.Part a b) (Select-F.Part c d) h = two (λ (l r : ℕ). max l r - min l r + 1) _ _ _ _ h.0.value h.1.value
counts (Select-F.Up a b) (Select-F.Up c d) h = h.1.value
counts (Select-F.Down a b) (Select-F.Down c d) h = h.1.value
counts _ _ h = absurd h

lowests : (c d : Choice) → Alike c d → (v : Valuation) → lowest (meant c) v ≡ lowest (meant d) v
lowests (Select-F.Bit a) (Select-F.Bit b) h v = ap (λ (r : Reading). number_of r.meaning v) h
lowests (Select-F.Part a b) (Select-F.Part c d) h v = two (λ (l r : ℕ). pos (min l r)) _ _ _ _ h.0.value h.1.value
lowests (Select-F.Up a b) (Select-F.Up c d) h v = ap (λ (r : Reading). number_of r.meaning v) h.0
lowests (Select-F.Down a b) (Select-F.Down c d) h v = two (λ (r : Reading) (w : ℕ). number_of r.meaning v -ℤ pos (w - 1)) _ _ _ _ h.0 h.1.value
lowests _ _ h v = absurd h

constants : (c d : Choice) → Alike c d → list_all (λ r. r.constant) (parts_of c) ≡ list_all (λ r. r.constant) (parts_of d)
constants (Select-F.Bit a) (Select-F.Bit b) h = ap (λ (r : Reading). r.constant && true) h
constants (Select-F.Part a b) (Select-F.Part c d) h = two (λ (x y : Bool). x && (y && true)) _ _ _ _ h.0.constant h.1.constant
constants (Select-F.Up a b) (Select-F.Up c d) h = two (λ (r : Reading) (y : Bool). r.constant && (y && true)) _ _ _ _ h.0 h.1.constant
constants (Select-F.Down a b) (Select-F.Down c d) h = two (λ (r : Reading) (y : Bool). r.constant && (y && true)) _ _ _ _ h.0 h.1.constant
constants _ _ h = absurd h

read_bits_of : (c d : Choice) → Alike c d → flat_map (λ r. r.reads) (parts_of c) ≡ flat_map (λ r. r.reads) (parts_of d)
read_bits_of (Select-F.Bit a) (Select-F.Bit b) h = ap (λ (r : Reading). r.reads ++ []) h
read_bits_of (Select-F.Part a b) (Select-F.Part c d) h = two (λ (x y : List Bit). x ++ (y ++ [])) _ _ _ _ h.0.reads h.1.reads
read_bits_of (Select-F.Up a b) (Select-F.Up c d) h = two (λ (r : Reading) (y : List Bit). r.reads ++ (y ++ [])) _ _ _ _ h.0 h.1.reads
read_bits_of (Select-F.Down a b) (Select-F.Down c d) h = two (λ (r : Reading) (y : List Bit). r.reads ++ (y ++ [])) _ _ _ _ h.0 h.1.reads
read_bits_of _ _ h = absurd h

-- ---- lists of selects

abbrev pub AllAlike : List Choice → List Choice → Type 0
AllAlike cs ds = AllZip Alike cs ds

pub constant_same : (cs ds : List Choice) → AllAlike cs ds → all_constant cs ≡ all_constant ds
constant_same [] [] h = refl
constant_same [] (d ∷ ds) h = absurd h
constant_same (c ∷ cs) [] h = absurd h
constant_same (c ∷ cs) (d ∷ ds) h = two (λ (x y : Bool). x && y) _ _ _ _ (constants c d h.0) (constant_same cs ds h.1)

pub index_same : (cs ds : List Choice) → AllAlike cs ds → index_reads cs ≡ index_reads ds
index_same [] [] h = refl
index_same [] (d ∷ ds) h = absurd h
index_same (c ∷ cs) [] h = absurd h
index_same (c ∷ cs) (d ∷ ds) h = two (λ (x y : List Bit). x ++ y) _ _ _ _ (read_bits_of c d h.0) (index_same cs ds h.1)

module _ (D : Declared) where
  bits_same : (cs ds : List Choice) → AllAlike cs ds → (v : Valuation) → bits_of D (map meant cs) v ≡ bits_of D (map meant ds) v
  bits_same [] [] h v = refl
  bits_same [] (d ∷ ds) h v = absurd h
  bits_same (c ∷ cs) [] h v = absurd h
  bits_same (c ∷ cs) (d ∷ ds) h v = two (λ (z : ℤ) (n : ℕ). bits_from D.bounds z n) _ _ _ _ (lowests c d h.0 v) (counts c d h.0)

  element_same : (b : Bounds) (z : ℤ) (cs ds : List Choice) → AllAlike cs ds → (v : Valuation) → element D b z (map meant cs) v ≡ element D b z (map meant ds) v
  element_same b (negsuc i) cs ds h v = ap nowhere_place (bits_same cs ds h v)
  element_same b (pos i) cs ds h v =
      ap (λ (bs : List (Option ℕ)). if within (low b)
      (high b) i then (let p : Place = record { name = at_index D.path (decimal i); bits = bs } in p) else nowhere_place bs) (bits_same cs ds h v)

  placed : (b : Option Bounds) (cs ds : List Choice) → AllAlike cs ds → (v : Valuation) → place_by b D (map meant cs) v ≡ place_by b D (map meant ds) v
  placed None cs ds h v = ap (λ (bs : List (Option ℕ)). let p : Place = record { name = D.path; bits = bs } in p) (bits_same cs ds h v)
  placed (Some b) [] [] h v = refl
  placed (Some b) [] (d ∷ ds) h v = absurd h
  placed (Some b) (c ∷ cs) [] h v = absurd h
  placed (Some b) (c ∷ cs) (d ∷ ds) h v = ap (λ (z : ℤ). element D b z (map meant cs) v) (lowests c d h.0 v) ∙ element_same b (lowest (meant d) v) cs ds h.1 v

  pub place_same : (cs ds : List Choice) → AllAlike cs ds → (v : Valuation) → place_of D (map meant cs) v ≡ place_of D (map meant ds) v
  place_same cs ds h v = placed D.array cs ds h v

  rest_same : (b : Option Bounds) (cs ds : List Choice) → AllAlike cs ds → (v : Valuation) →
      bits_of D (bit_selects b (map meant cs)) v ≡ bits_of D (bit_selects b (map meant ds)) v
  rest_same None cs ds h v = bits_same cs ds h v
  rest_same (Some b) [] [] h v = refl
  rest_same (Some b) [] (d ∷ ds) h v = absurd h
  rest_same (Some b) (c ∷ cs) [] h v = absurd h
  rest_same (Some b) (c ∷ cs) (d ∷ ds) h v = bits_same cs ds h.1 v

  nil_map : (cs ds : List Choice) → AllAlike cs ds → is_nil (map meant cs) ≡ is_nil (map meant ds)
  nil_map [] [] h = refl
  nil_map [] (d ∷ ds) h = absurd h
  nil_map (c ∷ cs) [] h = absurd h
  nil_map (c ∷ cs) (d ∷ ds) h = refl

  nil_same : (b : Option Bounds) (cs ds : List Choice) → AllAlike cs ds → is_nil (bit_selects b (map meant cs)) ≡ is_nil (bit_selects b (map meant ds))
  nil_same None cs ds h = nil_map cs ds h
  nil_same (Some b) [] [] h = refl
  nil_same (Some b) [] (d ∷ ds) h = absurd h
  nil_same (Some b) (c ∷ cs) [] h = absurd h
  nil_same (Some b) (c ∷ cs) (d ∷ ds) h = nil_map cs ds h.1

  pub named_bits_same : (cs ds : List Choice) → AllAlike cs ds → bits_named D cs ≡ bits_named D ds
  named_bits_same cs ds h =
      two (λ (k : Bool) (p : Place). if is_signal_sort D.sort then (if k then place_bits p else whole D) else []) _ _ _ _
      (constant_same cs ds h) (place_same cs ds h nowhere)

  -- a name by what its selects give
  abbrev named_by : List (Option ℕ) → Bool → (Valuation → Place) → Bool → List Bit → Reading
  named_by bits nil place constant reads =
      record {
        meaning = plain (length bits) (nil && D.signed) (λ v. read (held D.sort v) (place v));
        constant = is_constant_sort D.sort && constant;
        reads = reads;
      }

  five : (a b : List (Option ℕ)) (k l : Bool) (p q : Valuation → Place) (m n : Bool) (r s : List Bit) → a ≡ b → k ≡ l → p ≡ q → m ≡ n → r ≡ s →
      named_by a k p m r ≡ named_by b l q n s
  five a b k l p q m n r s e f g h i =
      ap (λ z. named_by z k p m r) e ∙ ap (λ z. named_by b z p m r) f ∙ ap (λ z. named_by b l z m r) g ∙ ap (λ z. named_by b l q z r) h ∙
      ap (λ z. named_by b l q n z) i

  pub named_same : (cs ds : List Choice) → AllAlike cs ds → named D cs ≡ named D ds
  named_same cs ds h =
      five _ _ _ _ (λ v. place_of D (map meant cs) v) (λ v. place_of D (map meant ds) v) _ _ _ _
      (rest_same D.array cs ds h nowhere) (nil_same D.array cs ds h) (fun_ext (λ v. place_same cs ds h v)) (constant_same cs ds h)
      (two (λ (x y : List Bit). x ++ y) _ _ _ _ (named_bits_same cs ds h) (index_same cs ds h))
