-- What statements leave of tables, one after another and by a choice.
use Rattle.std.proofs.Common.{◌≡◌, ℕ, ◌≤◌, ◌==◌, Bool, true, false, not, List, [], ◌∷◌, ◌++◌, length, map, take, refl, sym, ◌∙◌, ap, subst, arith}
use Rattle.std.specs.Prelude.{if◌then◌else◌, slice_index, Result, Ok, Err, OnOk}
use Rattle.std.proofs.lemmas.Bool.Decides.{nat_tests}
use Rattle.lv_netlist.specs.Net.{Net}
use Rattle.lv_source.specs.Names.{Valuation}
use Rattle.lv_source.specs.Places.{Place}
use Rattle.lv_source.specs.Effect.{State, Update, places, bits_in, write_all, assigned, applied}
use Rattle.lv_flat.specs.Cells.{Cell, cell_at}
use Rattle.lv_flat.specs.declared.expr.FlatExpr.{FlatExpr}
use Rattle.lv_flat.specs.declared.stmt.FlatTarget.{FlatTarget}
use Rattle.lv_flat.specs.Signals.{Signals}
use Rattle.lv_flat.specs.Judged.{reading}
use Rattle.lv_flat.specs.Executing.{pieces}
use Rattle.lv_values.specs.declared.value.Value.{Value}
use Rattle.lv_values.specs.declared.value.Value.TheVariants.{Known, Node}
use Rattle.lv_values.specs.Worlds.{World, Obeys, number}
use Rattle.lv_values.proofs.Growth.{grows-refl, grows-trans, obeys-before}
use Rattle.lv_lower_exprs.specs.Tables.{IsTable, Shows, Means, value_at}
use Rattle.lv_lower_exprs.proofs.Meant.{table-later}
use Rattle.lv_lower_blocks.specs.declared.aims.Aim.{Aim}
use Rattle.lv_lower_blocks.specs.Rewritten.{Merges, MayBeTable}
use Rattle.lv_lower_blocks.specs.Aimed.{aim_place, Writes, MayWrite, Prepares}
use Rattle.lv_lower_blocks.specs.Running.{Runs, keeps_now, keeps_later}
use Rattle.lv_lower_blocks.proofs.Rewriting.{rewritten-table}
use Rattle.lv_lower_blocks.proofs.Merging.{may-be-later}
use Rattle.lv_lower_blocks.proofs.Keeping.{applied-more}

pub on_ok : {A B : Type 0} {P Q : Type 0} (r : Result A B) → (P → Q) → OnOk r P → OnOk r Q
on_ok (Ok x) f h = f h
on_ok (Err e) f h = h

pub taken : (n : ℕ) (xs ys : List ℕ) → n ≡ length xs → take n (xs ++ ys) ≡ xs
taken n [] ys e = ap (λ k. take k ys) e ∙ refl
taken n (x ∷ xs) ys e = ap (λ k. take k ((x ∷ xs) ++ ys)) e ∙ ap (λ zs. x ∷ zs) (taken (length xs) xs ys refl)

pub if-out : (u : Bool) (f : State → Valuation) (p q : State) → (if u then f p else f q) ≡ f (if u then p else q)
if-out true f p q = refl
if-out false f p q = refl

if-name : (u : Bool) (p q : Valuation) (name : List ℕ) (z x y : ℕ) → z ≡ (if u then y else x) → x ≡ p name → y ≡ q name → z ≡ (if not u then p else q) name
if-name true p q name z x y h i j = h ∙ j
if-name false p q name z x y h i j = h ∙ i

chosen : {A : Type 0} (n : ℕ) (x y : A) → n ≡ 0 → y ≡ (if not (n == 0) then x else y)
chosen n x y e = rw e refl

zero-is : (n : ℕ) → (n == 0) ≡ true → n ≡ 0
zero-is n h = grind (arith, nat_tests)

chosen-other : {A : Type 0} (n : ℕ) (x y : A) → (n ≡ 0 → ⊥) → x ≡ (if not (n == 0) then x else y)
chosen-other n x y ne = elim (n == 0) as (λ c. (n == 0) ≡ c → x ≡ (if not c then x else y)) [ true ↦ λ h. absurd (ne (zero-is n h)) | false ↦ λ h. refl ] refl

module _ {cells : List Cell} where
  -- ---- what a choice shows

  merged-shows : {old new : Net} (k : ℕ) {n : ℕ} {a b c : List ℕ} {p q : Valuation} {w : World} → Merges old new k a b c → length a ≡ length cells → Obeys new w → value_at w k ≡ n →
      Shows w cells a p → Shows w cells b q →
      Shows w cells c (if not (n == 0) then p else q)
  merged-shows k {n = n} {a = a} {b = b} {c = c} {p = p} {q = q} {w = w} j len o e s t = record {
    is = λ i lt.
        if-name (n == 0) p q (cell_at cells i).name (value_at w (slice_index c i)) (value_at w (slice_index a i)) (value_at w (slice_index b i))
        (j.is w o i (omega arith) (omega (arith, len)) ∙ ap (λ (y : ℕ). if y == 0 then value_at w (slice_index b i) else value_at w (slice_index a i)) e) (s.is i lt) (t.is i lt);
  }

  -- ---- one after another

  pub runs-none : {net : Net} {t d : List ℕ} → IsTable net cells t → MayBeTable net cells d → Runs net net cells t d t d (λ s. s)
  runs-none {net} h m = record { grows = grows-refl net; table = h; count = refl; rest = m; shows = λ w s o x. x; leaves = λ w s u o x l y. y }

  pub runs-same : {old new : Net} {a d b e : List ℕ} {g h : State → State} → Runs old new cells a d b e g → ((s : State) → g s ≡ h s) → Runs old new cells a d b e h
  runs-same {b = b} {e = e} r i = record {
    grows = r.grows;
    table = r.table;
    count = r.count;
    rest = r.rest;
    shows = λ w s o x. subst (λ (y : State). Shows w cells b y.valuation) (i s) (r.shows w s o x);
    leaves = λ w s u o x l y. subst (λ (z : State). Shows w cells e (applied u z.pending)) (i s) (r.leaves w s u o x l y);
  }

  -- the same tables
  pub runs-written : {old new : Net} {now done a d x y : List ℕ} {g : State → State} → Runs old new cells now done a d g → x ≡ a → y ≡ d → Runs old new cells now done x y g
  runs-written {old} {new} {now} {done} {a} {d} {x} {y} {g} r e f =
      subst (λ (z : List ℕ). Runs old new cells now done z y g) (sym e) (subst (λ (z : List ℕ). Runs old new cells now done a z g) (sym f) r)

  pub runs-then : {old mid new : Net} {a b c d e f : List ℕ} {g h : State → State} → Runs old mid cells a d b e g → Runs mid new cells b e c f h → Runs old new cells a d c f (λ s. h (g s))
  runs-then {old} {mid} {new} {g = g} r q = record {
    grows = grows-trans old mid new r.grows q.grows;
    table = q.table;
    count = q.count ∙ r.count;
    rest = q.rest;
    shows = λ w s o x. q.shows w (g s) o (r.shows w s (obeys-before mid new w q.grows o) x);
    leaves = λ w s u o x l y.
        let o0 = obeys-before mid new w q.grows o in
        q.leaves w (g s) u o (r.shows w s o0 x) (omega (arith, r.count, l)) (r.leaves w s u o0 x l y);
  }

  -- ---- a choice

  node-is : {old new : Net} {t : Value} {k W V : ℕ} {table : List ℕ} {f : Valuation → ℕ} → Means old new t cells table W f → t ≡ Node k V → (w : World) (v : Valuation) → Obeys new w →
      Shows w cells table v → value_at w k ≡ f v
  node-is m e w v o s = sym (ap (number w) e) ∙ m.is w v o s

  pub runs-if : {old first one both mid new : Net} {t : Value} {k W V : ℕ} {f : Valuation → ℕ} {now done a1 a2 b1 b2 c1 c2 : List ℕ} {g h : State → State} →
      Means old first t cells now W f → t ≡ Node k V → Runs first one cells now done a1 a2 g → Runs one both cells now done b1 b2 h → Merges both mid k a1 b1 c1 → Merges mid new k a2 b2 c2 →
      Runs old new cells now done c1 c2 (λ s. if not (f s.valuation == 0) then g s else h s)
  runs-if {old} {first} {one} {both} {mid} {new} {t} {k} {f = f} {now} {done} {a1} {a2} {b1} {b2} {c1} {c2} {g} {h} m e p q j i =
      let ta : IsTable both cells a1 = table-later q.grows p.table in
      let tc : IsTable mid cells c1 = rewritten-table j ta in
      let ma : MayBeTable mid cells a2 = may-be-later j.grows (may-be-later q.grows p.rest) in
      record {
        grows = grows-trans old first new m.grows (grows-trans first one new p.grows (grows-trans one both new q.grows (grows-trans both mid new j.grows i.grows)));
        table = table-later i.grows tc;
        count = i.count ∙ p.count;
        rest = record { is = λ l. rewritten-table i (ma.is (omega (arith, i.count, l))) };
        shows = λ w s o x.
            let o4 : Obeys mid w = obeys-before mid new w i.grows o in
            let o3 : Obeys both w = obeys-before both mid w j.grows o4 in
            let o2 : Obeys one w = obeys-before one both w q.grows o3 in
            let o1 : Obeys first w = obeys-before first one w p.grows o2 in
            subst (λ (y : Valuation). Shows w cells c1 y) (if-out (not (f s.valuation == 0)) (λ y. y.valuation) (g s) (h s))
            (merged-shows k j ta.count o4 (node-is m e w s.valuation o1 x) (p.shows w s o2 x) (q.shows w s o3 x));
        leaves = λ w s u o x l y.
            let o4 : Obeys mid w = obeys-before mid new w i.grows o in
            let o3 : Obeys both w = obeys-before both mid w j.grows o4 in
            let o2 : Obeys one w = obeys-before one both w q.grows o3 in
            let o1 : Obeys first w = obeys-before first one w p.grows o2 in
            let len : length a2 ≡ length cells = (ma.is (omega (arith, p.count, l))).count in
            subst (λ (r : Valuation). Shows w cells c2 r) (if-out (not (f s.valuation == 0)) (λ r. applied u r.pending) (g s) (h s))
            (merged-shows k i len o (node-is m e w s.valuation o1 x) (p.leaves w s u o2 x l y) (q.leaves w s u o3 x l y));
      }

  known-is : {old new : Net} {t : Value} {x : _} {W : ℕ} {table : List ℕ} {f : Valuation → ℕ} → Means old new t cells table W f → t ≡ Known x → (w : World) (v : Valuation) → Obeys new w →
      Shows w cells table v → x.value ≡ f v
  known-is m e w v o s = sym (ap (number w) e) ∙ m.is w v o s

  -- a condition that is known to be 0
  pub runs-known : {old first new : Net} {t : Value} {x : _} {W : ℕ} {f : Valuation → ℕ} {now done b1 b2 : List ℕ} {h : State → State} (g : State → State) → Means old first t cells now W f →
      t ≡ Known x → x.value ≡ 0 →
      Runs first new cells now done b1 b2 h → Runs old new cells now done b1 b2 (λ s. if not (f s.valuation == 0) then g s else h s)
  runs-known {old} {first} {new} {f = f} {b1 = b1} {b2 = b2} {h = h} g m e z q = record {
    grows = grows-trans old first new m.grows q.grows;
    table = q.table;
    count = q.count;
    rest = q.rest;
    shows = λ w s o x.
        let n : f s.valuation ≡ 0 = sym (known-is m e w s.valuation (obeys-before first new w q.grows o) x) ∙ z in
        subst (λ (y : State). Shows w cells b1 y.valuation) (chosen (f s.valuation) (g s) (h s) n) (q.shows w s o x);
    leaves = λ w s u o x l y.
        let n : f s.valuation ≡ 0 = sym (known-is m e w s.valuation (obeys-before first new w q.grows o) x) ∙ z in
        subst (λ (r : State). Shows w cells b2 (applied u r.pending)) (chosen (f s.valuation) (g s) (h s) n) (q.leaves w s u o x l y);
  }

  -- one that is known not to be 0
  pub runs-known-other : {old first new : Net} {t : Value} {x : _} {W : ℕ} {f : Valuation → ℕ} {now done b1 b2 : List ℕ} {g : State → State} (h : State → State) →
      Means old first t cells now W f → t ≡ Known x → (x.value ≡ 0 → ⊥) →
      Runs first new cells now done b1 b2 g → Runs old new cells now done b1 b2 (λ s. if not (f s.valuation == 0) then g s else h s)
  runs-known-other {old} {first} {new} {f = f} {b1 = b1} {b2 = b2} {g = g} h m e z q = record {
    grows = grows-trans old first new m.grows q.grows;
    table = q.table;
    count = q.count;
    rest = q.rest;
    shows = λ w s o x.
        let n : f s.valuation ≡ 0 → ⊥ = λ y. z (known-is m e w s.valuation (obeys-before first new w q.grows o) x ∙ y) in
        subst (λ (y : State). Shows w cells b1 y.valuation) (chosen-other (f s.valuation) (g s) (h s) n) (q.shows w s o x);
    leaves = λ w s u o x l y.
        let n : f s.valuation ≡ 0 → ⊥ = λ r. z (known-is m e w s.valuation (obeys-before first new w q.grows o) x ∙ r) in
        subst (λ (r : State). Shows w cells b2 (applied u r.pending)) (chosen-other (f s.valuation) (g s) (h s) n) (q.leaves w s u o x l y);
  }

  -- ---- assignments

  module _ (S : Signals) (target : FlatTarget) (e : FlatExpr) {old mid : Net} {now : List ℕ} {as' : List Aim} {x : Value} (p : Prepares old mid S cells now target e as' x) where
    -- what is written, by the meaning
    written-is : {A : Type 0} (w : World) (v : Valuation) → Obeys mid w → Shows w cells now v → (F : List Place → ℕ → A) →
        F (map (aim_place w S) as') (number w x) ≡ F (places v (pieces S target)) (assigned v (bits_in (places v (pieces S target))) (reading S e).meaning)
    written-is w v o s F = ap (λ ps. F ps (number w x)) (p.aims w v o s) ∙ ap (F (places v (pieces S target))) (p.is w v o s)

    kept : {new : Net} {done done' : List ℕ} (w : World) (s : State) (u : Valuation) → MayWrite mid new S cells done done' as' x → Obeys new w → Shows w cells now s.valuation → 1 ≤ length done →
        Shows w cells done (applied u s.pending) →
        Shows w cells done' (applied u (keeps_later S target e s).pending)
    kept {new} {done} {done'} w s u d o t l y =
        let v : Valuation = s.valuation in
        let us : Update = record { places = places v (pieces S target); value = assigned v (bits_in (places v (pieces S target))) (reading S e).meaning } in
        subst (λ (r : Valuation). Shows w cells done' r) (written-is w v (obeys-before mid new w d.grows o) t (λ ps n. write_all (applied u s.pending) ps n) ∙ sym (applied-more s.pending us u))
        (d.is w (applied u s.pending) o l y)

    pub runs-later : {new : Net} {done done' : List ℕ} → IsTable old cells now → MayWrite mid new S cells done done' as' x → Runs old new cells now done now done' (keeps_later S target e)
    runs-later {new} h d = record {
      grows = grows-trans old mid new p.grows d.grows;
      table = table-later d.grows (table-later p.grows h);
      count = d.count;
      rest = d.rest;
      shows = λ w s o t. t;
      leaves = λ w s u o t l y. kept w s u d o t l y;
    }

    pub runs-now : {last new : Net} {done done' now' : List ℕ} → MayWrite mid last S cells done done' as' x → Writes last new S cells now now' as' x →
        Runs old new cells now done now' done' (keeps_now S target e)
    runs-now {last} {new} {now' = now'} d r = record {
      grows = grows-trans old mid new p.grows (grows-trans mid last new d.grows r.grows);
      table = r.table;
      count = d.count;
      rest = may-be-later r.grows d.rest;
      shows = λ w s o t.
          let v : Valuation = s.valuation in
          let o0 : Obeys mid w = obeys-before mid last w d.grows (obeys-before last new w r.grows o) in
          subst (λ (q : Valuation). Shows w cells now' q) (written-is w v o0 t (λ ps n. write_all v ps n)) (r.is w v o t);
      leaves = λ w s u o t l y. kept w s u d (obeys-before last new w r.grows o) t l y;
    }

  -- without a table of what is left
  pub runs-no-later : {net : Net} {now done : List ℕ} (S : Signals) (target : FlatTarget) (e : FlatExpr) → IsTable net cells now → length done ≡ 0 →
      Runs net net cells now done now done (keeps_later S target e)
  runs-no-later {net} S target e h z = record {
    grows = grows-refl net;
    table = h;
    count = refl;
    rest = record { is = λ l. absurd (omega (arith, z, l)) };
    shows = λ w s o t. t;
    leaves = λ w s u o t l y. absurd (omega (arith, z, l));
  }

  -- a write to a table that is there, or to none
  pub writes-some : {old new : Net} {S : Signals} {t u : List ℕ} {as' : List Aim} {x : Value} → MayBeTable old cells t → 1 ≤ length t → Writes old new S cells t u as' x →
      MayWrite old new S cells t u as' x
  writes-some m l r = record { grows = r.grows; count = r.table.count ∙ sym (m.is l).count; rest = record { is = λ i. r.table }; is = λ w v o i s. r.is w v o s }

  pub writes-none : {net : Net} (S : Signals) (t : List ℕ) (as' : List Aim) (x : Value) → length t ≡ 0 → MayWrite net net S cells t t as' x
  writes-none {net} S t as' x z = record { grows = grows-refl net; count = refl; rest = record { is = λ l. absurd (omega (arith, z, l)) }; is = λ w v o l s. absurd (omega (arith, z, l)) }

  pub may-write-same : {old new : Net} {S : Signals} {t u : List ℕ} {as' bs : List Aim} {x y : Value} → MayWrite old new S cells t u as' x → as' ≡ bs → x ≡ y → MayWrite old new S cells t u bs y
  may-write-same {old} {new} {S} {t} {u} {as'} {bs} {x} {y} r e f =
      subst (λ (z : Value). MayWrite old new S cells t u bs z) f (subst (λ (z : List Aim). MayWrite old new S cells t u z x) e r)

  pub writes-same : {old new : Net} {S : Signals} {t u : List ℕ} {as' bs : List Aim} {x y : Value} → Writes old new S cells t u as' x → as' ≡ bs → x ≡ y → Writes old new S cells t u bs y
  writes-same {old} {new} {S} {t} {u} {as'} {bs} {x} {y} r e f =
      subst (λ (z : Value). Writes old new S cells t u bs z) f (subst (λ (z : List Aim). Writes old new S cells t u z x) e r)
