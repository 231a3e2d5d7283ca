-- The number that a word of edges means.
use Rattle.std.specs.Prelude.{◌≡◌, ℕ, ◌+◌, ◌*◌, ◌<◌, Bool, not, ◌&&◌, ◌||◌, if◌then◌else◌, List, [], ◌∷◌, length, map}
use Rattle.std.proofs.Common.{get_or}
use Rattle.lv_bits.specs.Words.{Bits}
use Rattle.lv_bits.specs.Digits.{number}
use Rattle.lv_aig.specs.declared.edge.Edge.{Edge}
use Rattle.lv_aig.specs.Edges.{Nodes, edge_bit, IsValuation, Grows, zero_edge}
use Rattle.lv_circuits.specs.declared.gates.Kind.{Kind}
use Rattle.lv_circuits.specs.declared.gates.Kind.TheVariants.{Both, Either, Differ}

abbrev pub edge_at : List Edge → ℕ → Edge
edge_at es i = get_or es i zero_edge

abbrev pub edge_bits : (ℕ → Bool) → List Edge → List Bool
edge_bits values es = map (edge_bit values) es

abbrev pub word_of : (ℕ → Bool) → List Edge → Bits
word_of values es = record { width = length es; value = number (edge_bits values es) }

abbrev pub AllBelow : ℕ → List Edge → Type 0
AllBelow n es = (i : ℕ) → i < length es → (edge_at es i).node < n

-- two words of one width, with edges of a graph of n nodes
pub record AreEven (n : ℕ) (x y : List Edge) : Type 0 where
  pub a : AllBelow n x
  pub b : AllBelow n y
  pub same : length x ≡ length y
  pub some : 0 < length x

abbrev pub xor : Bool → Bool → Bool
xor a b = if a then not b else b

abbrev pub kind_bit : Kind → Bool → Bool → Bool
kind_bit Both a b = a && b
kind_bit Either a b = a || b
kind_bit Differ a b = xor a b

-- edges of the graph with those bits at each valuation
pub record GivesBits (old new : Nodes) (es : List Edge) (bits : (ℕ → Bool) → List Bool) : Type 0 where
  pub grows : Grows old new
  pub edges : AllBelow (length new) es
  pub is : (values : ℕ → Bool) → IsValuation new values → edge_bits values es ≡ bits values

-- a word of edges of the graph with that width and value at each valuation
pub record GivesWord (old new : Nodes) (es : List Edge) (word : (ℕ → Bool) → Bits) : Type 0 where
  pub grows : Grows old new
  pub edges : AllBelow (length new) es
  pub is : (values : ℕ → Bool) → IsValuation new values → word_of values es ≡ word values

abbrev pub zip_bits : (Bool → Bool → Bool) → List Bool → List Bool → List Bool
zip_bits f [] bs = []
zip_bits f (a ∷ rest) [] = []
zip_bits f (a ∷ rest) (b ∷ bs) = f a b ∷ zip_bits f rest bs

abbrev pub fold_bits : (Bool → Bool → Bool) → Bool → List Bool → Bool
fold_bits f a [] = a
fold_bits f a (b ∷ bs) = fold_bits f (f a b) bs

-- digit by digit, with the carry into the lowest
abbrev pub sum_bits : Bool → List Bool → List Bool → List Bool
sum_bits c [] ys = []
sum_bits c (x ∷ xs) [] = []
sum_bits c (x ∷ xs) (y ∷ ys) = xor (xor x y) c ∷ sum_bits (if xor x y then c else x) xs ys

abbrev pub carry_out : Bool → List Bool → List Bool → Bool
carry_out c [] ys = c
carry_out c (x ∷ xs) [] = c
carry_out c (x ∷ xs) (y ∷ ys) = carry_out (if xor x y then c else x) xs ys
