-- What parts leave that are carried out one after another, none reading what a later one drives.
use Rattle.std.proofs.Common.{◌≡◌, inl, inr, ◌/◌, ◌%◌, ◌^◌, Bool, true, false, ◌||◌, List, [], ◌∷◌, refl, sym, ap, ◌∙◌}
use Rattle.std.proofs.lemmas.Nat.Bits.{same_from_bits}
use Rattle.std.specs.List.{list_any}
use Rattle.lv_ast.specs.Names.{Name}
use Rattle.lv_source.specs.Names.{Declared, Valuation}
use Rattle.lv_source.specs.Places.{Bit, bit_at, has_bit}
use Rattle.lv_source.specs.Views.{View, is_edge}
use Rattle.lv_source.proofs.Tests.{decide, or-none_left, or-none_right}
use Rattle.lv_source.proofs.Each.{Each}
use Rattle.lv_settles.specs.Lawful.{is_outside, IsLawful}

abbrev pub driven : List View → Bit → Bool
driven ws b = list_any (λ w. has_bit w.drives b) ws

abbrev pub run : List View → Valuation → Valuation
run [] v = v
run (w ∷ ws) v = run ws (w.after v)

-- what a part reads from outside no later part drives, nor itself; what it drives no later one does
pub record Before (w : View) (ws : List View) : Type 0 where
  pub reads : (b : Bit) → is_outside w b ≡ true → driven (w ∷ ws) b ≡ false
  pub drives : (b : Bit) → has_bit w.drives b ≡ true → driven ws b ≡ false

abbrev pub Ordered : List View → Type 0
Ordered [] = Unit {0}
Ordered (w ∷ ws) = Before w ws × Ordered ws

module _ (ds : List Declared) where
  -- a part without a clock
  pub record Plain (w : View) : Type 0 where
    pub law : IsLawful ds w
    pub way : is_edge w.way ≡ false

  pub run_keeps : (ws : List View) → Each Plain ws → (v : Valuation) (b : Bit) → driven ws b ≡ false → bit_at (run ws v) b ≡ bit_at v b
  run_keeps [] h v b n = refl
  run_keeps (w ∷ ws) h v b n =
      run_keeps ws h.1 (w.after v) b (or-none_right (has_bit w.drives b) (driven ws b) n) ∙
      h.0.law.keeps h.0.way v b (or-none_left (has_bit w.drives b) (driven ws b) n)

  -- the first of the parts leaves what all of them leave
  first_bits : (w : View) (ws : List View) → Plain w → Each Plain ws → Before w ws → (v : Valuation) (b : Bit) →
      bit_at (w.after (run ws (w.after v))) b ≡ bit_at (run ws (w.after v)) b
  first_bits w ws p h o v b = elim (decide (has_bit w.drives b)) [
    | inr free ↦ p.law.keeps p.way (run ws (w.after v)) b free
    | inl own ↦
        p.law.follows p.way (run ws (w.after v)) v (λ x out.
        run_keeps ws h (w.after v) x (or-none_right (has_bit w.drives x) (driven ws x) (o.reads x out)) ∙
        p.law.keeps p.way v x (or-none_left (has_bit w.drives x) (driven ws x) (o.reads x out))) b own ∙
        sym (run_keeps ws h (w.after v) b (o.drives b own))
  ]

  -- each of them leaves what all leave
  pub run_settles : (ws : List View) → Each Plain ws → Ordered ws → (v : Valuation) →
      Each (λ w. (name : Name) → w.after (run ws v) name ≡ run ws v name) ws
  run_settles [] h o v = tt
  run_settles (w ∷ ws) h o v = (
    (λ name. same_from_bits (w.after (run ws (w.after v)) name) (run ws (w.after v) name)
        (λ i. first_bits w ws h.0 h.1 o.0 v (record { name = name; place = i }))),
    run_settles ws h.1 o.1 (w.after v),
  )

  -- a valuation that each leaves as it is comes out, where they begin with its bits that none drives
  pub run_meets : (ws : List View) → Each Plain ws → Ordered ws → (u v : Valuation) → Each (λ w. (name : Name) → w.after v name ≡ v name) ws →
      ((b : Bit) → driven ws b ≡ false → bit_at u b ≡ bit_at v b) → (name : Name) → run ws u name ≡ v name
  run_meets [] h o u v s a name = same_from_bits (u name) (v name) (λ i. a (record { name = name; place = i }) refl)
  run_meets (w ∷ ws) h o u v s a name = run_meets ws h.1 o.1 (w.after u) v s.1 (λ b n.
      elim (decide (has_bit w.drives b)) [
        | inr free ↦ h.0.law.keeps h.0.way u b free ∙ a b (ap (λ c. c || driven ws b) free ∙ n)
        | inl own ↦
            h.0.law.follows h.0.way u v (λ x out. a x (o.0.reads x out)) b own ∙
            ap (λ n. n / 2 ^ b.place % 2) (s.0 b.name)
      ]) name
