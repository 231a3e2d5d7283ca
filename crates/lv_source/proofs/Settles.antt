-- A combinational block leaves, on the bits that it drives, what the bits that it reads and doesn't drive determine.
use Rattle.std.proofs.Common.{◌≡◌, inl, inr, Bool, true, false, ◌&&◌, ◌||◌, not, List, [], ◌∷◌, ◌++◌, refl, sym, ap, ◌∙◌}
use Rattle.std.specs.Prelude.{flat_map}
use Rattle.std.specs.List.{list_any}
use Rattle.lv_ast.specs.declared.stmt.Stmt.{Stmt}
use Rattle.lv_source.specs.Names.{Names, Valuation}
use Rattle.lv_source.specs.Places.{Bit, bit_at, has_bit, same_bit}
use Rattle.lv_source.specs.Effect.{State, Update, executes, applied, left_by}
use Rattle.lv_source.specs.Flow.{Event, event_surely, Flow, flow, block_writes, block_reads, surely, is_latch, reads_first, is_read_first}
use Rattle.lv_source.proofs.Each.{Each, Some'}
use Rattle.lv_source.proofs.Tests.{and-both, or-split, or-left, or-right, or-none_left, or-none_right, any-split, decide, same_bits, not-false}
use Rattle.lv_source.proofs.Faithful.{Same}
use Rattle.lv_source.proofs.Runs.{Covered, After, NoneOf, Outcome, after-surely, none-left, none-right}
use Rattle.lv_source.proofs.Follows.{follows}

-- ---- lists

pub none_has : (p : Bit → Bool) (bs : List Bit) (b : Bit) → list_any p bs ≡ false → has_bit bs b ≡ true → p b ≡ false
none_has p [] b h k = cc
none_has p (c ∷ cs) b h k = elim (or-split (same_bit b c) (has_bit cs b) k) [
  | inl e ↦ ap p (same_bits b c e) ∙ or-none_left (p c) (list_any p cs) h
  | inr e ↦ none_has p cs b (or-none_right (p c) (list_any p cs) h) e
]

pub none_each : {A : Type 0} (p : A → Bool) (xs : List A) → list_any p xs ≡ false → Each (λ x. p x ≡ false) xs
none_each p [] h = tt
none_each p (x ∷ xs) h = (or-none_left (p x) (list_any p xs) h, none_each p xs (or-none_right (p x) (list_any p xs) h))

swap_all : {A : Type 0} (C : Bit → Type 0) (P : Bit → A → Type 0) (xs : List A) → ((b : Bit) → C b → Each (P b) xs) → Each (λ x. (b : Bit) → C b → P b x) xs
swap_all C P [] h = tt
swap_all C P (x ∷ xs) h = ((λ b c. (h b c).0), swap_all C P xs (λ b c. (h b c).1))

each_both : {A : Type 0} (P Q : A → Type 0) (xs : List A) → Each P xs → Each Q xs → Each (λ x. P x × Q x) xs
each_both P Q [] h k = tt
each_both P Q (x ∷ xs) h k = ((h.0, k.0), each_both P Q xs h.1 k.1)

each_to : {A : Type 0} (P Q : A → Type 0) (xs : List A) → ((x : A) → P x → Q x) → Each P xs → Each Q xs
each_to P Q [] f h = tt
each_to P Q (x ∷ xs) f h = (f x h.0, each_to P Q xs f h.1)

some_with : {A : Type 0} (P Q : A → Type 0) (X : Type 0) (xs : List A) → Some' P xs → Each Q xs → ((x : A) → P x → Q x → X) → X
some_with P Q X [] h k f = absurd h
some_with P Q X (x ∷ xs) (inl h) k f = f x h k.0
some_with P Q X (x ∷ xs) (inr h) k f = some_with P Q X xs h k.1 f

-- ---- what a block reads

no_reads : (es : List Event) (b : Bit) → has_bit (flat_map (λ (e : Event). e.reads) es) b ≡ false → list_any (λ (e : Event). has_bit e.reads b) es ≡ false
no_reads [] b h = refl
no_reads (e ∷ es) b h =
    ap (λ c. c || list_any (λ (e : Event). has_bit e.reads b) es) (none-left (same_bit b) e.reads (flat_map (λ (e : Event). e.reads) es) h) ∙
    no_reads es b (none-right (same_bit b) e.reads (flat_map (λ (e : Event). e.reads) es) h)

-- what a path reads, the block reads
abbrev ReadsOf : List Bit → List Event → Type 0
ReadsOf all p = (b : Bit) → has_bit all b ≡ false → list_any (λ (e : Event). has_bit e.reads b) p ≡ false

covered_by : (driven all : List Bit) (A : Bit → Bool) (done : List Bit) (p : List Event) → ((b : Bit) → has_bit done b ≡ true → A b ≡ true) →
    ((b : Bit) → has_bit all b ≡ true → has_bit driven b ≡ false → A b ≡ true) → reads_first driven done p ≡ false → ReadsOf all p → list_any (λ (e : Event). not e.at_once) p ≡ false → Covered A p
covered_by driven all A done [] f g h r o = tt
covered_by driven all A done (e ∷ es) f g h r o =
    let first : list_any (λ b. has_bit driven b && not (has_bit done b)) e.reads ≡ false =
    or-none_left (list_any (λ b. has_bit driven b && not (has_bit done b)) e.reads) (reads_first driven (event_surely e ++ done) es) h in
    let rest : reads_first driven (event_surely e ++ done) es ≡ false =
    or-none_right (list_any (λ b. has_bit driven b && not (has_bit done b)) e.reads) (reads_first driven (event_surely e ++ done) es) h in (
      (λ b x. elim (decide (has_bit driven b)) [
        | inl k ↦ elim (decide (has_bit done b)) [
          | inl j ↦ f b j
          | inr j ↦ absurd (
              let yes : (has_bit driven b && not (has_bit done b)) ≡ true = and-both (has_bit driven b) (not (has_bit done b)) k (ap not j) in
              let no : (has_bit driven b && not (has_bit done b)) ≡ false = none_has (λ b. has_bit driven b && not (has_bit done b)) e.reads b first x in cc)
        ]
        | inr k ↦ elim (decide (has_bit all b)) [
          | inl j ↦ g b j k
          | inr j ↦ absurd (let no : has_bit e.reads b ≡ false = or-none_left (has_bit e.reads b) (list_any (λ (e : Event). has_bit e.reads b) es) (r b j) in cc)
        ]
      ]),
      not-false e.at_once (or-none_left (not e.at_once) (list_any (λ (e : Event). not e.at_once) es) o),
      covered_by driven all (λ b. A b || has_bit (event_surely e) b) (event_surely e ++ done) es
          (λ b x. elim (any-split (same_bit b) (event_surely e) done x) [ inl k ↦ or-right (A b) (has_bit (event_surely e) b) k | inr k ↦ or-left (A b) (has_bit (event_surely e) b) (f b k) ])
          (λ b x y. or-left (A b) (has_bit (event_surely e) b) (g b x y)) rest
          (λ b x. or-none_right (has_bit e.reads b) (list_any (λ (e : Event). has_bit e.reads b) es) (r b x))
          (or-none_right (not e.at_once) (list_any (λ (e : Event). not e.at_once) es) o),
    )

-- ---- blocks

applied_none : (v : Valuation) (us : List Update) → us ≡ [] → (b : Bit) → bit_at (applied v us) b ≡ bit_at v b
applied_none v us h b = ap (λ (us : List Update). bit_at (applied v us) b) h

module _ (names : Names) (s : Stmt) where
  abbrev f : Flow
  f = flow names s

  abbrev driven : List Bit
  driven = block_writes f

  abbrev all : List Bit
  all = block_reads f

  abbrev pub outer : Bit → Bool
  outer b = has_bit all b && not (has_bit driven b)

  abbrev once : Event → Bool
  once e = not e.at_once

  covered : is_read_first f ≡ false → list_any once f.events ≡ false → Each (Covered outer) f.paths
  covered h o =
      let reads : Each (ReadsOf all) f.paths =
      swap_all (λ b. has_bit all b ≡ false) (λ b p. list_any (λ (e : Event). has_bit e.reads b) p ≡ false) f.paths
      (λ b k. (follows names s).inside (λ (e : Event). has_bit e.reads b) (no_reads f.events b k)) in
      let firsts : Each (λ p. reads_first driven [] p ≡ false) f.paths = none_each (reads_first driven []) f.paths h in
      let onces : Each (NoneOf once) f.paths = (follows names s).inside once o in
      each_to (λ p. (reads_first driven [] p ≡ false) × (ReadsOf all p × NoneOf once p)) (Covered outer) f.paths
      (λ p x. covered_by driven all outer [] p (λ b y. cc) (λ b y z. and-both (has_bit all b) (not (has_bit driven b)) y (ap not z)) x.0 x.1.0 x.1.1)
      (each_both (λ p. reads_first driven [] p ≡ false) (λ p. ReadsOf all p × NoneOf once p) f.paths firsts (each_both (ReadsOf all) (NoneOf once) f.paths reads onces))

  pub block_settles : is_latch f ≡ false → is_read_first f ≡ false → list_any once f.events ≡ false → (v w : Valuation) → Same outer v w →
      (b : Bit) → has_bit driven b ≡ true → bit_at (left_by names s v) b ≡ bit_at (left_by names s w) b
  block_settles l r o v w same b h =
      let s0 : State = record { valuation = v; pending = [] } in
      let t0 : State = record { valuation = w; pending = [] } in
      let out : Outcome outer f.paths s0 t0 (executes names s s0) (executes names s t0) = (follows names s).run outer s0 t0 same (covered r o) in
      let latched : Each (λ p. list_any (λ b. not (has_bit (surely p) b)) driven ≡ false) f.paths = none_each (λ p. list_any (λ b. not (has_bit (surely p) b)) driven) f.paths l in
      let middle : bit_at (executes names s s0).valuation b ≡ bit_at (executes names s t0).valuation b =
      some_with (λ p. Same (After outer p) (executes names s s0).valuation (executes names s t0).valuation) (λ p. list_any (λ b. not (has_bit (surely p) b)) driven ≡ false)
      (bit_at (executes names s s0).valuation b ≡ bit_at (executes names s t0).valuation b) f.paths out.0 latched
      (λ p known n. known b (after-surely outer p b (not-false (has_bit (surely p) b) (none_has (λ b. not (has_bit (surely p) b)) driven b n h)))) in
      applied_none (executes names s s0).valuation (executes names s s0).pending out.1 b ∙ (middle ∙ sym (applied_none (executes names s t0).valuation (executes names s t0).pending out.2 b))
