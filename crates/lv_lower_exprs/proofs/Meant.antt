-- What a value means over a table, from what the last call gives.
use Rattle.std.proofs.Common.{◌≡◌, ℕ, List, ◌∙◌, ap, arith}
use Rattle.lv_source.specs.Names.{Valuation}
use Rattle.lv_netlist.specs.declared.node.Typed.{Typed}
use Rattle.lv_netlist.specs.Net.{Net}
use Rattle.lv_flat.specs.Cells.{Cell}
use Rattle.lv_values.specs.declared.value.Value.{Value}
use Rattle.lv_values.specs.Worlds.{World, Grows, Gives, number}
use Rattle.lv_lower_exprs.specs.Tables.{IsTable, Means}
use Rattle.lv_values.proofs.Growth.{grows-trans, obeys-before, in-later}

module _ {cells : List Cell} {table : List ℕ} where
  pub table-later : {old new : Net} → Grows old new → IsTable old cells table → IsTable new cells table
  table-later g t = record {
    count = t.count;
    within = λ i h. omega (arith, t.within i h, g.more);
    widths = λ i h. ap (λ (x : Typed). x.width) (g.same _ (t.within i h)) ∙ t.widths i h;
  }

  -- the same value
  pub means-same : {old new : Net} {r : Value} {W V : ℕ} {f h : Valuation → ℕ} → Means old new r cells table W f → W ≡ V → ((v : Valuation) → f v ≡ h v) → Means old new r cells table V h
  means-same m e i = record { grows = m.grows; in_new = m.in_new; width = m.width ∙ e; is = λ w v o s. m.is w v o s ∙ i v }

  pub means-later : {old mid new : Net} {r : Value} {W : ℕ} {f : Valuation → ℕ} → Means old mid r cells table W f → Grows mid new → Means old new r cells table W f
  means-later {mid = mid} {new = new} {r = r} m g = record {
    grows = grows-trans _ _ _ m.grows g;
    in_new = in-later _ _ r g m.in_new;
    width = m.width;
    is = λ w v o s. m.is w v (obeys-before mid new w g o) s;
  }

  -- a further call on one value
  pub means-one : {old mid new : Net} {a r : Value} {W V : ℕ} {f : Valuation → ℕ} (h : ℕ → ℕ) → Means old mid a cells table W f → Gives mid new r V (λ w. h (number w a)) → Means old new r cells table V (λ v. h (f v))
  means-one {mid = mid} {new = new} h m g = record {
    grows = grows-trans _ _ _ m.grows g.grows;
    in_new = g.in_new;
    width = g.width;
    is = λ w v o s. g.is w o ∙ ap h (m.is w v (obeys-before mid new w g.grows o) s);
  }

  -- on two
  pub means-two : {old mid after new : Net} {a b r : Value} {W X V : ℕ} {f k : Valuation → ℕ} (h : ℕ → ℕ → ℕ) →
      Means old mid a cells table W f → Means mid after b cells table X k → Gives after new r V (λ w. h (number w a) (number w b)) → Means old new r cells table V (λ v. h (f v) (k v))
  means-two {mid = mid} {after = after} {new = new} {a = a} {b = b} {f = f} {k = k} h m n g = record {
    grows = grows-trans _ _ _ m.grows (grows-trans _ _ _ n.grows g.grows);
    in_new = g.in_new;
    width = g.width;
    is = λ w v o s.
        let o' = obeys-before after new w g.grows o in
        g.is w o ∙ (ap (λ x. h x (number w b)) (m.is w v (obeys-before mid after w n.grows o') s) ∙ ap (λ y. h (f v) y) (n.is w v o' s));
  }

  -- on three
  pub means-three : {old mid after last new : Net} {a b c r : Value} {W X Y V : ℕ} {f k l : Valuation → ℕ} (h : ℕ → ℕ → ℕ → ℕ) →
      Means old mid a cells table W f → Means mid after b cells table X k → Means after last c cells table Y l → Gives last new r V (λ w. h (number w a) (number w b) (number w c)) →
      Means old new r cells table V (λ v. h (f v) (k v) (l v))
  means-three {mid = mid} {after = after} {last = last} {new = new} {a = a} {b = b} {c = c} {f = f} {k = k} {l = l} h m n p g = record {
    grows = grows-trans _ _ _ m.grows (grows-trans _ _ _ n.grows (grows-trans _ _ _ p.grows g.grows));
    in_new = g.in_new;
    width = g.width;
    is = λ w v o s.
        let o' = obeys-before last new w g.grows o in
        let o'' = obeys-before after last w p.grows o' in
        g.is w o ∙ (ap (λ x. h x (number w b) (number w c)) (m.is w v (obeys-before mid after w n.grows o'') s) ∙
        (ap (λ y. h (f v) y (number w c)) (n.is w v o'' s) ∙ ap (λ z. h (f v) (k v) z) (p.is w v o' s)));
  }

  -- a value of no cells
  pub means-given : {old new : Net} {r : Value} {V : ℕ} {f : World → ℕ} (x : ℕ) → Gives old new r V f → ((w : World) → f w ≡ x) → Means old new r cells table V (λ v. x)
  means-given x g i = record { grows = g.grows; in_new = g.in_new; width = g.width; is = λ w v o s. g.is w o ∙ i w }
