-- What is chosen by an index, and of a word, over a table.
use Rattle.std.proofs.Common.{◌≡◌, ℕ, ◌<◌, ◌^◌, Bool, List, ◌∙◌, ap, subst, ℤ, pos}
use Rattle.std.specs.Prelude.{◌-ℤ◌}
use Rattle.lv_bits.specs.Values.{extended}
use Rattle.lv_netlist.specs.Net.{Net}
use Rattle.lv_source.specs.Names.{Valuation}
use Rattle.lv_source.specs.Values.{Meaning, own_value, number_of}
use Rattle.lv_flat.specs.Cells.{Cell}
use Rattle.lv_values.specs.declared.value.Value.{Value}
use Rattle.lv_values.specs.declared.index.Choices.{Choices}
use Rattle.lv_values.specs.Worlds.{Obeys, Gives, width_of, number}
use Rattle.lv_values.specs.Picked.{code_number, item_value, item_width}
use Rattle.lv_values.proofs.Growth.{grows-trans, obeys-before, number-lt}
use Rattle.lv_lower_exprs.specs.Tables.{Means}
use Rattle.lv_lower_exprs.specs.Named.{Selects, Stands}

module _ {cells : List Cell} {table : List ℕ} where
  pub stands-at : {old mid new : Net} {x r : Value} {nodes : List ℕ} {choices : Choices} {signed : Bool} {of : ℕ} (down : ℕ) (m : Meaning) → of ≡ m.width → signed ≡ m.signed →
      Means old mid x cells table of (λ v. m.value of signed v) → Gives mid new r (item_width choices) (λ w. item_value w nodes choices (code_number signed (width_of x) (number w x) -ℤ pos down)) →
      Stands old new r cells table nodes choices (λ v. number_of m v -ℤ pos down)
  stands-at {old} {mid} {new} {x} {r} {nodes} {choices} {signed} {of} down m e f a g = record {
    grows = grows-trans old mid new a.grows g.grows;
    in_new = g.in_new;
    width = g.width;
    is = λ w v o s.
        let o0 = obeys-before mid new w g.grows o in
        let n : number w x ≡ own_value m v = a.is w v o0 s ∙ (ap (λ (k : ℕ). m.value k signed v) e ∙ ap (λ (k : Bool). m.value m.width k v) f) in
        g.is w o ∙ ap (λ z. item_value w nodes choices (z -ℤ pos down))
        (ap (λ (k : Bool). code_number k (width_of x) (number w x)) f ∙ (ap (λ k. code_number m.signed k (number w x)) (a.width ∙ e) ∙ ap (code_number m.signed m.width) n));
  }

  pub stands-same : {old new : Net} {r : Value} {nodes : List ℕ} {choices : Choices} {y z : Valuation → ℤ} → Stands old new r cells table nodes choices y → ((v : Valuation) → y v ≡ z v) → Stands old new r cells table nodes choices z
  stands-same {nodes = nodes} {choices = choices} a e = record { grows = a.grows; in_new = a.in_new; width = a.width; is = λ w v o s. a.is w v o s ∙ ap (item_value w nodes choices) (e v) }

  pub stands-given : {old new : Net} {r : Value} {nodes : List ℕ} {choices : Choices} {y : ℤ} {z : Valuation → ℤ} → Gives old new r (item_width choices) (λ w. item_value w nodes choices y) → ((v : Valuation) → y ≡ z v) → Stands old new r cells table nodes choices z
  stands-given {nodes = nodes} {choices = choices} g e = record { grows = g.grows; in_new = g.in_new; width = g.width; is = λ w v o s. g.is w o ∙ ap (item_value w nodes choices) (e v) }

  -- bits of a word, at a width
  pub means-chosen : {old mid last new : Net} {word x r : Value} {V n of W : ℕ} (T : Bool) {g F : Valuation → ℕ} (f : ℕ → Valuation → ℕ) →
      Means old mid word cells table V g → Selects mid last word x cells table n f → Gives last new r W (λ w. extended T of W (number w x)) → of ≡ n →
      ((v : Valuation) → g v < 2 ^ V → extended T n W (f (g v) v) ≡ F v) → Means old new r cells table W F
  means-chosen {old} {mid} {last} {new} {word} {x} {r} {V} {n} {of} {W} T {g} {F} f m c e h i = record {
    grows = grows-trans old mid new m.grows (grows-trans mid last new c.grows e.grows);
    in_new = e.in_new;
    width = e.width;
    is = λ w v o s.
        let o1 : Obeys last w = obeys-before last new w e.grows o in
        let o0 : Obeys mid w = obeys-before mid last w c.grows o1 in
        let p : number w word ≡ g v = m.is w v o0 s in
        let lt : g v < 2 ^ V = subst (λ (k : ℕ). k < 2 ^ V) p (subst (λ (k : ℕ). number w word < 2 ^ k) m.width (number-lt mid word w m.in_new o0)) in
        e.is w o ∙ (ap (λ k. extended T k W (number w x)) h ∙ (ap (extended T n W) (c.is w v o1 s ∙ ap (λ k. f k v) p) ∙ i v lt));
  }
