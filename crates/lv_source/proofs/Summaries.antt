-- The summary of a block tells what its paths have in common.
use Rattle.std.proofs.Common.{◌≡◌, inl, inr, ℕ, Bool, true, false, ◌&&◌, ◌||◌, not, List, [], ◌∷◌, ◌++◌, map, append_assoc, refl, sym, ap, ◌∙◌, subst, Option, Some, None}
use Rattle.std.specs.Prelude.{flat_map, filter, cond, if◌then◌else◌}
use Rattle.std.specs.List.{list_any, list_all}
use mathlib.Core.Path.{fun_ext}
use Rattle.lv_ast.specs.declared.stmt.Stmt.{Stmt, Row_of-Stmt, end_of-Stmt, more_of-Stmt, Row_of-Arm, end_of-Arm, more_of-Arm, Held-Stmt-If-2, None', Some'}
use Rattle.lv_ast.specs.declared.stmt.Stmt.TheVariants as b
use Rattle.lv_ast.specs.Trees.{fold_stmt, fold_stmts, fold_one_stmt, fold_held, fold_arms}
use Rattle.lv_source.specs.Names.{Names}
use Rattle.lv_source.specs.Values.{nowhere}
use Rattle.lv_source.specs.Places.{Bit, has_bit, same_bit}
use Rattle.lv_source.specs.Meaning.{Reading, read_expr, index_reads}
use Rattle.lv_source.specs.Effect.{ArmOf, Arm, Label, Piece, pieces, arm_step, arm_labels, is_default, is_met, read_arm, label_of, with_index, turns}
use Rattle.lv_source.specs.Flow.{Event, event_writes, event_surely, Flow, Flows, one, still, looks, then_flow, either_flow, all_flows, branches, flow_or, flow_step, flow, if_flow, no_match, is_full_of, is_extended, case_flow_of, write_flow, block_writes, surely, is_latch, reads_first, is_read_first}
use Rattle.lv_source.specs.Summary.{Summary, without, nothing_done, looked_at, then_summary, either_summary, all_summaries, any_summary, write_summary, branch_summary, if_summary, no_match_summary, case_summary_of, Summaries, summary_or, summary_step, summary, leaves_latch, exposes_own}
use Rattle.lv_source.proofs.Each.{Pairs, some-left}
use Rattle.lv_source.proofs.Each.{Some' as Somewhere}
use Rattle.lv_source.proofs.Runs.{Any}
use Rattle.lv_source.proofs.CaseTrees.{flat-map}
use Rattle.lv_source.proofs.Follows.{follows}
use Rattle.lv_source.proofs.Tests.{or-left, or-right, or-split, and-left, and-right, and-both, same_bits, has-head}

-- ---- Booleans

or-false : (a : Bool) → (a || false) ≡ a
or-false true = refl
or-false false = refl

or-same : (a b c : Bool) → ((a || b) || c) ≡ (a || (b || c))
or-same true b c = refl
or-same false b c = refl

and-same : (a b c : Bool) → ((a && b) && c) ≡ (a && (b && c))
and-same true b c = refl
and-same false b c = refl

and-swap : (a b : Bool) → (a && b) ≡ (b && a)
and-swap true true = refl
and-swap true false = refl
and-swap false true = refl
and-swap false false = refl

and-true : (a : Bool) → (a && true) ≡ a
and-true true = refl
and-true false = refl

-- equal where each follows from the other
pub both : (a b : Bool) → (a ≡ true → b ≡ true) → (b ≡ true → a ≡ true) → a ≡ b
both true true f g = refl
both true false f g = sym (f refl)
both false true f g = g refl
both false false f g = refl

-- ---- lists

pub any-join : {A : Type 0} (p : A → Bool) (xs ys : List A) → list_any p (xs ++ ys) ≡ (list_any p xs || list_any p ys)
any-join p [] ys = refl
any-join p (x ∷ xs) ys = ap (λ b. p x || b) (any-join p xs ys) ∙ sym (or-same (p x) (list_any p xs) (list_any p ys))

pub all-join : {A : Type 0} (p : A → Bool) (xs ys : List A) → list_all p (xs ++ ys) ≡ (list_all p xs && list_all p ys)
all-join p [] ys = refl
all-join p (x ∷ xs) ys = ap (λ b. p x && b) (all-join p xs ys) ∙ sym (and-same (p x) (list_all p xs) (list_all p ys))

pub flat-join : {A B : Type 0} (f : A → List B) (xs ys : List A) → flat_map f (xs ++ ys) ≡ flat_map f xs ++ flat_map f ys
flat-join f [] ys = refl
flat-join f (x ∷ xs) ys = ap (λ zs. f x ++ zs) (flat-join f xs ys) ∙ sym (append_assoc (f x) (flat_map f xs) (flat_map f ys))

pub append-none : {A : Type 0} (xs : List A) → xs ++ [] ≡ xs
append-none [] = refl
append-none (x ∷ xs) = ap (λ zs. x ∷ zs) (append-none xs)

any-never : {A : Type 0} (xs : List A) → list_any (λ x. false) xs ≡ false
any-never [] = refl
any-never (x ∷ xs) = any-never xs

or_move : (a b c e : Bool) → ((a || b) || (c || e)) ≡ ((a || c) || (b || e))
or_move true b c e = refl
or_move false true true e = refl
or_move false true false e = refl
or_move false false c e = refl

any-or : {A : Type 0} (p q : A → Bool) (xs : List A) → list_any (λ x. p x || q x) xs ≡ (list_any p xs || list_any q xs)
any-or p q [] = refl
any-or p q (x ∷ xs) = ap (λ b. (p x || q x) || b) (any-or p q xs) ∙ or_move (p x) (q x) (list_any p xs) (list_any q xs)

any-swap : {A B : Type 0} (p : A → B → Bool) (xs : List A) (ys : List B) → list_any (λ x. list_any (p x) ys) xs ≡ list_any (λ y. list_any (λ x. p x y) xs) ys
any-swap p [] ys = sym (any-never ys)
any-swap p (x ∷ xs) ys = ap (λ b. list_any (p x) ys || b) (any-swap p xs ys) ∙ sym (any-or (p x) (λ y. list_any (λ x. p x y) xs) ys)

not_both : (a b : Bool) → (not a || not b) ≡ not (a && b)
not_both true b = refl
not_both false b = refl

any-not : {A : Type 0} (p : A → Bool) (xs : List A) → list_any (λ x. not (p x)) xs ≡ not (list_all p xs)
any-not p [] = refl
any-not p (x ∷ xs) = ap (λ b. not (p x) || b) (any-not p xs) ∙ not_both (p x) (list_all p xs)

-- ---- bits of a list

pub some_bit_of : (p : Bit → Bool) (xs : List Bit) → list_any p xs ≡ true → (b : Bit) × (has_bit xs b ≡ true) × (p b ≡ true)
some_bit_of p [] h = cc
some_bit_of p (x ∷ xs) h = elim (or-split (p x) (list_any p xs) h) [
  | inl e ↦ (x, has-head x xs, e)
  | inr e ↦ (let r : (b : Bit) × (has_bit xs b ≡ true) × (p b ≡ true) = some_bit_of p xs e in (r.0, or-right (same_bit r.0 x) (has_bit xs r.0) r.1, r.2))
]

pub bit_is_some : (p : Bit → Bool) (xs : List Bit) (b : Bit) → has_bit xs b ≡ true → p b ≡ true → list_any p xs ≡ true
bit_is_some p [] b h k = cc
bit_is_some p (x ∷ xs) b h k = elim (or-split (same_bit b x) (has_bit xs b) h) [
  | inl e ↦ or-left (p x) (list_any p xs) (ap p (sym (same_bits b x e)) ∙ k)
  | inr e ↦ or-right (p x) (list_any p xs) (bit_is_some p xs b e k)
]

any-meet : (q : Bit → Bool) (xs ys : List Bit) → list_any (λ b. has_bit ys b && q b) xs ≡ list_any (λ b. q b && has_bit xs b) ys
any-meet q xs ys = both _ _
    (λ h. (let r : (b : Bit) × (has_bit xs b ≡ true) × ((has_bit ys b && q b) ≡ true) = some_bit_of (λ b. has_bit ys b && q b) xs h in
    bit_is_some (λ b. q b && has_bit xs b) ys r.0 (and-left (has_bit ys r.0) (q r.0) r.2) (and-both (q r.0) (has_bit xs r.0) (and-right (has_bit ys r.0) (q r.0) r.2) r.1)))
    (λ h. (let r : (b : Bit) × (has_bit ys b ≡ true) × ((q b && has_bit xs b) ≡ true) = some_bit_of (λ b. q b && has_bit xs b) ys h in
    bit_is_some (λ b. has_bit ys b && q b) xs r.0 (and-right (q r.0) (has_bit xs r.0) r.2) (and-both (has_bit ys r.0) (q r.0) r.1 (and-left (q r.0) (has_bit xs r.0) r.2))))

has_if : (x : Bool) (c : Bit) (zs : List Bit) (b : Bit) → has_bit (cond x (c ∷ zs) zs) b ≡ (if x then same_bit b c || has_bit zs b else has_bit zs b)
has_if true c zs b = refl
has_if false c zs b = refl

filter_step : (x y s h r : Bool) → (s ≡ true → x ≡ y) → r ≡ (y && h) → (if x then s || r else r) ≡ (y && (s || h))
filter_step true true s h r f k = ap (λ z. s || z) k
filter_step false false s h r f k = k
filter_step true false true h r f k = absurd (let e : true ≡ false = f refl in cc)
filter_step true false false h r f k = k
filter_step false true true h r f k = absurd (let e : false ≡ true = f refl in cc)
filter_step false true false h r f k = k

pub filter-has : (q : Bit → Bool) (cs : List Bit) (b : Bit) → has_bit (filter q cs) b ≡ (q b && has_bit cs b)
filter-has q [] b = and-swap false (q b)
filter-has q (c ∷ cs) b =
    has_if (q c) c (filter q cs) b ∙
    filter_step (q c) (q b) (same_bit b c) (has_bit cs b) (has_bit (filter q cs) b) (λ h. ap q (sym (same_bits b c h))) (filter-has q cs b)

-- ---- paths and a bit

-- the path reads the bit before it has written it for sure
abbrev pub exposed_in : List Event → Bit → Bool
exposed_in [] b = false
exposed_in (e ∷ es) b = has_bit e.reads b || (not (has_bit (event_surely e) b) && exposed_in es b)

abbrev pub SureAt : Flow → Bit → Bool
SureAt f b = list_all (λ p. has_bit (surely p) b) f.paths

abbrev pub ExposedAt : Flow → Bit → Bool
ExposedAt f b = list_any (λ p. exposed_in p b) f.paths

sure-join : (p q : List Event) (b : Bit) → has_bit (surely (p ++ q)) b ≡ (has_bit (surely p) b || has_bit (surely q) b)
sure-join p q b = ap (λ bs. has_bit bs b) (flat-join event_surely p q) ∙ any-join (same_bit b) (surely p) (surely q)

expose_step : (r s x t y : Bool) → (r || (not s && (x || (not t && y)))) ≡ ((r || (not s && x)) || (not (s || t) && y))
expose_step true s x t y = refl
expose_step false true x t y = refl
expose_step false false x t y = refl

exposed-join : (p q : List Event) (b : Bit) → exposed_in (p ++ q) b ≡ (exposed_in p b || (not (has_bit (surely p) b) && exposed_in q b))
exposed-join [] q b = refl
exposed-join (e ∷ p) q b =
    ap (λ c. has_bit e.reads b || (not (has_bit (event_surely e) b) && c)) (exposed-join p q b) ∙
    (expose_step (has_bit e.reads b) (has_bit (event_surely e) b) (exposed_in p b) (has_bit (surely p) b) (exposed_in q b) ∙
    ap (λ c. (has_bit e.reads b || (not (has_bit (event_surely e) b) && exposed_in p b)) || (not c && exposed_in q b)) (sym (any-join (same_bit b) (event_surely e) (surely p))))

abbrev product : List (List Event) → List (List Event) → List (List Event)
product ps qs = flat_map (λ p. map (λ q. p ++ q) qs) ps

some_map : (p : List Event) (qs rest : List (List Event)) → Somewhere Any qs → Somewhere Any (map (λ q. p ++ q) qs ++ rest)
some_map p [] rest h = absurd h
some_map p (q ∷ qs) rest h = inl tt

some_product : (ps qs : List (List Event)) → Somewhere Any ps → Somewhere Any qs → Somewhere Any (product ps qs)
some_product [] qs h k = absurd h
some_product (p ∷ ps) qs h k = some_map p qs (product ps qs) k

module _ (b : Bit) where
  S : List Event → Bool
  S p = has_bit (surely p) b

  X : List Event → Bool
  X p = exposed_in p b

  and_or : (s t u : Bool) → ((s || t) && (s || u)) ≡ (s || (t && u))
  and_or true t u = refl
  and_or false t u = refl

  or_true : (s : Bool) → true ≡ (s || true)
  or_true true = refl
  or_true false = refl

  sure_one : (p : List Event) (qs : List (List Event)) → list_all S (map (λ q. p ++ q) qs) ≡ (S p || list_all S qs)
  unfolding S
  sure_one p [] = or_true (S p)
  sure_one p (q ∷ qs) = ap (λ c. c && list_all S (map (λ q. p ++ q) qs)) (sure-join p q b) ∙ (ap (λ c. (S p || S q) && c) (sure_one p qs) ∙ and_or (S p) (S q) (list_all S qs))

  or_and : (s t u : Bool) → ((s || u) && (t || u)) ≡ ((s && t) || u)
  or_and true true u = refl
  or_and true false u = refl
  or_and false true true = refl
  or_and false true false = refl
  or_and false false true = refl
  or_and false false false = refl

  sure_product : (ps qs : List (List Event)) → list_all S (product ps qs) ≡ (list_all S ps || list_all S qs)
  sure_product [] qs = refl
  sure_product (p ∷ ps) qs =
      all-join S (map (λ q. p ++ q) qs) (product ps qs) ∙
      (ap (λ c. c && list_all S (product ps qs)) (sure_one p qs) ∙ (ap (λ c. (S p || list_all S qs) && c) (sure_product ps qs) ∙ or_and (S p) (list_all S ps) (list_all S qs)))

  expose_more : (x n q a : Bool) → ((x || (n && q)) || (x || (n && a))) ≡ (x || (n && (q || a)))
  expose_more true n q a = refl
  expose_more false true q a = refl
  expose_more false false q a = refl

  expose_last : (x n q : Bool) → ((x || (n && q)) || false) ≡ (x || (n && (q || false)))
  expose_last true n q = refl
  expose_last false true q = refl
  expose_last false false q = refl

  exposed_one : (p q : List Event) (qs : List (List Event)) → list_any X (map (λ q. p ++ q) (q ∷ qs)) ≡ (X p || (not (S p) && list_any X (q ∷ qs)))
  unfolding S X
  exposed_one p q [] = ap (λ c. c || false) (exposed-join p q b) ∙ expose_last (X p) (not (S p)) (X q)
  exposed_one p q (r ∷ qs) =
      ap (λ c. c || list_any X (map (λ q. p ++ q) (r ∷ qs))) (exposed-join p q b) ∙
      (ap (λ c. (X p || (not (S p) && X q)) || c) (exposed_one p r qs) ∙ expose_more (X p) (not (S p)) (X q) (list_any X (r ∷ qs)))

  expose_join : (x s a y t : Bool) → ((x || (not s && a)) || (y || (not t && a))) ≡ ((x || y) || (not (s && t) && a))
  expose_join true s a y t = refl
  expose_join false true a y t = refl
  expose_join false false true true t = refl
  expose_join false false true false t = refl
  expose_join false false false true t = refl
  expose_join false false false false true = refl
  expose_join false false false false false = refl

  exposed_product : (ps : List (List Event)) (q : List Event) (qs : List (List Event)) →
      list_any X (product ps (q ∷ qs)) ≡ (list_any X ps || (not (list_all S ps) && list_any X (q ∷ qs)))
  exposed_product [] q qs = refl
  exposed_product (p ∷ ps) q qs =
      any-join X (map (λ q. p ++ q) (q ∷ qs)) (product ps (q ∷ qs)) ∙
      (ap (λ c. c || list_any X (product ps (q ∷ qs))) (exposed_one p q qs) ∙
      (ap (λ c. (X p || (not (S p) && list_any X (q ∷ qs))) || c) (exposed_product ps q qs) ∙ expose_join (X p) (S p) (list_any X (q ∷ qs)) (list_any X ps) (list_all S ps)))

  pub sure_all : (ps qs : List (List Event)) →
      list_all (λ p. has_bit (surely p) b) (product ps qs) ≡ (list_all (λ p. has_bit (surely p) b) ps || list_all (λ p. has_bit (surely p) b) qs)
  unfolding S
  sure_all ps qs = sure_product ps qs

  pub exposed_all : (ps qs : List (List Event)) → Somewhere Any qs →
      list_any (λ p. exposed_in p b) (product ps qs) ≡ (list_any (λ p. exposed_in p b) ps || (not (list_all (λ p. has_bit (surely p) b) ps) && list_any (λ p. exposed_in p b) qs))
  unfolding S X
  exposed_all ps [] h = absurd h
  exposed_all ps (q ∷ qs) h = exposed_product ps q qs

-- ---- summaries

pub record IsSummary (f : Flow) (s : Summary) : Type 0 where
  pub some : Somewhere Any f.paths
  pub written : block_writes f ≡ s.written
  pub sure : (b : Bit) → SureAt f b ≡ has_bit s.sure b
  pub exposed : (b : Bit) → ExposedAt f b ≡ has_bit s.exposed b

still_sums : IsSummary still nothing_done
still_sums = record { some = inl tt; written = refl; sure = λ b. refl; exposed = λ b. refl }

one_sure : (e : Event) (b : Bit) → SureAt (one e) b ≡ has_bit (event_surely e) b
one_sure e b = and-true (has_bit (surely (e ∷ [])) b) ∙ ap (λ bs. has_bit bs b) (append-none (event_surely e))

and_none : (a r : Bool) → (r || (a && false)) ≡ r
and_none true true = refl
and_none true false = refl
and_none false true = refl
and_none false false = refl

one_exposed : (e : Event) (b : Bit) → ExposedAt (one e) b ≡ has_bit e.reads b
one_exposed e b = or-false (exposed_in (e ∷ []) b) ∙ and_none (not (has_bit (event_surely e) b)) (has_bit e.reads b)

look_sums : (bs : List Bit) → IsSummary (looks bs) (looked_at bs)
look_sums bs = record { some = inl tt; written = refl; sure = λ b. refl; exposed = one_exposed (record { reads = bs; targets = []; at_once = true; place = 0 }) }

write_sums : (at_once : Bool) (ps : List Piece) (x : Reading) (place : ℕ) → IsSummary (write_flow at_once ps x place) (write_summary ps x)
write_sums at_once ps x place =
    let e : Event = record { reads = x.reads ++ flat_map (λ (p : Piece). index_reads p.choices) ps; targets = ps; at_once = at_once; place = place } in
    record { some = inl tt; written = append-none (event_writes e); sure = one_sure e; exposed = one_exposed e }

two : {A B C : Type 0} (f : A → B → C) (x y : A) (u v : B) → x ≡ y → u ≡ v → f x u ≡ f y v
two f x y u v h k = ap (λ z. f z u) h ∙ ap (λ z. f y z) k

writes-join : (xs ys : List Event) (ws vs : List Bit) → flat_map event_writes xs ≡ ws → flat_map event_writes ys ≡ vs → flat_map event_writes (xs ++ ys) ≡ ws ++ vs
writes-join xs ys ws vs h k = flat-join event_writes xs ys ∙ two (λ (a b : List Bit). a ++ b) _ _ _ _ h k

then_sums : (f g : Flow) (s t : Summary) → IsSummary f s → IsSummary g t → IsSummary (then_flow f g) (then_summary s t)
then_sums f g s t h k = record {
  some = some_product f.paths g.paths h.some k.some;
  written = writes-join f.events g.events s.written t.written h.written k.written;
  sure = λ b. sure_all b f.paths g.paths ∙ (two (λ x y. x || y) _ _ _ _ (h.sure b) (k.sure b) ∙ sym (any-join (same_bit b) s.sure t.sure));
  exposed = λ b.
      exposed_all b f.paths g.paths k.some ∙
      (two (λ x y. x || y) _ _ _ _ (h.exposed b) (two (λ x y. not x && y) _ _ _ _ (h.sure b) (k.exposed b)) ∙
      (ap (λ c. has_bit s.exposed b || c) (sym (filter-has (λ c. not (has_bit s.sure c)) t.exposed b)) ∙ sym (any-join (same_bit b) s.exposed (without s.sure t.exposed))));
}

either_sums : (f g : Flow) (s t : Summary) → IsSummary f s → IsSummary g t → IsSummary (either_flow f g) (either_summary s t)
either_sums f g s t h k = record {
  some = some-left Any f.paths g.paths h.some;
  written = writes-join f.events g.events s.written t.written h.written k.written;
  sure = λ b. all-join (λ p. has_bit (surely p) b) f.paths g.paths ∙ (two (λ x y. x && y) _ _ _ _ (h.sure b) (k.sure b) ∙ sym (filter-has (has_bit s.sure) t.sure b));
  exposed = λ b. any-join (λ p. exposed_in p b) f.paths g.paths ∙ (two (λ x y. x || y) _ _ _ _ (h.exposed b) (k.exposed b) ∙ sym (any-join (same_bit b) s.exposed t.exposed));
}

all_sums : (fs : List Flow) (ss : List Summary) → Pairs IsSummary fs ss → IsSummary (all_flows fs) (all_summaries ss)
all_sums [] [] h = still_sums
all_sums [] (s ∷ ss) h = absurd h
all_sums (f ∷ fs) [] h = absurd h
all_sums (f ∷ fs) (s ∷ ss) h = then_sums f (all_flows fs) s (all_summaries ss) h.0 (all_sums fs ss h.1)

branch_by : (c h : Bool) (f g : Flow) (s t : Summary) → IsSummary f s → IsSummary g t →
    IsSummary (if c then (let x : Flow = record { events = f.events ++ g.events; paths = if h then f.paths else g.paths } in x) else either_flow f g)
    (if c then (if h then record s { written = s.written ++ t.written } else record t { written = s.written ++ t.written }) else either_summary s t)
branch_by true true f g s t j k = record { some = j.some; written = writes-join f.events g.events s.written t.written j.written k.written; sure = j.sure; exposed = j.exposed }
branch_by true false f g s t j k = record { some = k.some; written = writes-join f.events g.events s.written t.written j.written k.written; sure = k.sure; exposed = k.exposed }
branch_by false h f g s t j k = either_sums f g s t j k

if_sums : (c : Reading) (f g : Flow) (s t : Summary) → IsSummary f s → IsSummary g t → IsSummary (if_flow c f g) (if_summary c s t)
if_sums c f g s t j k =
    then_sums (looks c.reads) (branches c (is_met nowhere c) f g) (looked_at c.reads) (branch_summary c s t) (look_sums c.reads) (branch_by c.constant (is_met nowhere c) f g s t j k)

-- ---- `case`

abbrev alternatives : List Flow → Flow
alternatives fs = record { events = flat_map (λ (f : Flow). f.events) fs; paths = flat_map (λ (f : Flow). f.paths) fs }

any_sums : (f : Flow) (fs : List Flow) (ss : List Summary) → Pairs IsSummary (f ∷ fs) ss → IsSummary (alternatives (f ∷ fs)) (any_summary ss)
any_sums f fs [] h = absurd h
any_sums f [] (s ∷ []) h =
    subst (λ (x : Flow). IsSummary x s) (two (λ (es : List Event) (ps : List (List Event)). let x : Flow = record { events = es; paths = ps } in x) _ _ _ _ (sym (append-none f.events)) (sym (append-none f.paths))) h.0
any_sums f [] (s ∷ t ∷ ss) h = absurd h.1
any_sums f (g ∷ fs) (s ∷ []) h = absurd h.1
any_sums f (g ∷ fs) (s ∷ t ∷ ss) h = either_sums f (alternatives (g ∷ fs)) s (any_summary (t ∷ ss)) h.0 (any_sums g fs (t ∷ ss) h.1)

abbrev no_match_flows : Bool → List Flow
no_match_flows can = if can then still ∷ [] else []

no_match_events : (can : Bool) → flat_map (λ (f : Flow). f.events) (no_match_flows can) ≡ []
no_match_events true = refl
no_match_events false = refl

no_match_paths : (can : Bool) → flat_map (λ (f : Flow). f.paths) (no_match_flows can) ≡ (no_match can).paths
no_match_paths true = refl
no_match_paths false = refl

arms_are : (arms : List (Arm Flow)) (can : Bool) →
    alternatives (map (λ (a : Arm Flow). a.body) arms ++ no_match_flows can) ≡
    record { events = flat_map (λ (a : Arm Flow). a.body.events) arms; paths = flat_map (λ (a : Arm Flow). a.body.paths) arms ++ (no_match can).paths }
arms_are arms can =
    two (λ (es : List Event) (ps : List (List Event)). let x : Flow = record { events = es; paths = ps } in x) _ _ _ _
    (flat-join (λ (f : Flow). f.events) (map (λ (a : Arm Flow). a.body) arms) (no_match_flows can) ∙
    (two (λ (a b : List Event). a ++ b) _ _ _ _ (flat-map (λ (f : Flow). f.events) (λ (a : Arm Flow). a.body) arms) (no_match_events can) ∙ append-none _))
    (flat-join (λ (f : Flow). f.paths) (map (λ (a : Arm Flow). a.body) arms) (no_match_flows can) ∙
    two (λ (a b : List (List Event)). a ++ b) _ _ _ _ (flat-map (λ (f : Flow). f.paths) (λ (a : Arm Flow). a.body) arms) (no_match_paths can))

-- arms with the same labels
pub record SumArm (a : Arm Flow) (c : Arm Summary) : Type 0 where
  pub labels : a.labels ≡ c.labels
  pub body : IsSummary a.body c.body

arm_labels_same : (fs : List (Arm Flow)) (ss : List (Arm Summary)) → Pairs SumArm fs ss → arm_labels fs ≡ arm_labels ss
arm_labels_same [] [] h = refl
arm_labels_same [] (s ∷ ss) h = absurd h
arm_labels_same (f ∷ fs) [] h = absurd h
arm_labels_same (f ∷ fs) (s ∷ ss) h = two (λ (a b : List Label). a ++ b) _ _ _ _ h.0.labels (arm_labels_same fs ss h.1)

defaults_same : (fs : List (Arm Flow)) (ss : List (Arm Summary)) → Pairs SumArm fs ss →
    list_any (λ (a : Arm Flow). is_default a.labels) fs ≡ list_any (λ (a : Arm Summary). is_default a.labels) ss
defaults_same [] [] h = refl
defaults_same [] (s ∷ ss) h = absurd h
defaults_same (f ∷ fs) [] h = absurd h
defaults_same (f ∷ fs) (s ∷ ss) h = two (λ a b. a || b) _ _ _ _ (ap (λ (ls : List Label). is_default ls) h.0.labels) (defaults_same fs ss h.1)

no_match_sums : (can : Bool) → Pairs IsSummary (no_match_flows can) (no_match_summary can)
no_match_sums true = (still_sums, tt)
no_match_sums false = tt

bodies_sum : (fs : List (Arm Flow)) (ss : List (Arm Summary)) (can : Bool) → Pairs SumArm fs ss →
    Pairs IsSummary (map (λ (a : Arm Flow). a.body) fs ++ no_match_flows can) (map (λ (a : Arm Summary). a.body) ss ++ no_match_summary can)
bodies_sum [] [] can h = no_match_sums can
bodies_sum [] (s ∷ ss) can h = absurd h
bodies_sum (f ∷ fs) [] can h = absurd h
bodies_sum (f ∷ fs) (s ∷ ss) can h = (h.0.body, bodies_sum fs ss can h.1)

some_sums : (bs : List Bit) (fs : List Flow) (ss : List Summary) → Pairs IsSummary fs ss → Somewhere Any (then_flow (looks bs) (alternatives fs)).paths →
    IsSummary (then_flow (looks bs) (alternatives fs)) (then_summary (looked_at bs) (any_summary ss))
some_sums bs [] ss h n = absurd n
some_sums bs (f ∷ fs) ss h n = then_sums (looks bs) (alternatives (f ∷ fs)) (looked_at bs) (any_summary ss) (look_sums bs) (any_sums f fs ss h)

case_sums : (wild own : Bool) (x : Reading) (fs : List (Arm Flow)) (ss : List (Arm Summary)) → Pairs SumArm fs ss → Somewhere Any (case_flow_of wild own x fs).paths →
    IsSummary (case_flow_of wild own x fs) (case_summary_of wild own x ss)
case_sums wild own x fs ss h n =
    let can : Bool = not (list_any (λ (a : Arm Flow). is_default a.labels) fs) && not (is_full_of wild own x (arm_labels fs)) in
    let seen : List Bit = x.reads ++ flat_map (λ (l : Label). l.reading.reads) (arm_labels fs) in
    let same : alternatives (map (λ (a : Arm Flow). a.body) fs ++ no_match_flows can) ≡
    record { events = flat_map (λ (a : Arm Flow). a.body.events) fs; paths = flat_map (λ (a : Arm Flow). a.body.paths) fs ++ (no_match can).paths } = arms_are fs can in
    let here : IsSummary (then_flow (looks seen) (alternatives (map (λ (a : Arm Flow). a.body) fs ++ no_match_flows can)))
    (then_summary (looked_at seen) (any_summary (map (λ (a : Arm Summary). a.body) ss ++ no_match_summary can))) =
    some_sums seen (map (λ (a : Arm Flow). a.body) fs ++ no_match_flows can) (map (λ (a : Arm Summary). a.body) ss ++ no_match_summary can) (bodies_sum fs ss can h)
    (subst (λ (f : Flow). Somewhere Any (then_flow (looks seen) f).paths) (sym same) n) in
    subst (λ (s : Summary). IsSummary (case_flow_of wild own x fs) s)
    (two (λ (ls : List Label) (d : Bool). then_summary (looked_at (x.reads ++ flat_map (λ (l : Label). l.reading.reads) ls))
    (any_summary (map (λ (a : Arm Summary). a.body) ss ++ no_match_summary (not d && not (is_full_of wild own x ls))))) _ _ _ _ (arm_labels_same fs ss h) (defaults_same fs ss h))
    (subst (λ (f : Flow). IsSummary (then_flow (looks seen) f) (then_summary (looked_at seen) (any_summary (map (λ (a : Arm Summary). a.body) ss ++ no_match_summary can)))) same here)

-- ---- statements

abbrev Sums : Flows → Summaries → Type 0
Sums f s = (names : Names) → IsSummary (f names) (s names)

abbrev MaybeSums : Option Flows → Option Summaries → Type 0
MaybeSums None None = Unit {0}
MaybeSums (Some f) (Some s) = Sums f s
MaybeSums _ _ = ⊥

else_sums : (f : Option Flows) (s : Option Summaries) → MaybeSums f s → Sums (flow_or f) (summary_or s)
else_sums None None h names = still_sums
else_sums None (Some s) h names = absurd h
else_sums (Some f) None h names = absurd h
else_sums (Some f) (Some s) h names = h names

block_sums : (fs : List Flows) (ss : List Summaries) → Pairs Sums fs ss → (names : Names) → IsSummary (all_flows (map (λ f. f names) fs)) (all_summaries (map (λ s. s names) ss))
block_sums [] [] h names = still_sums
block_sums [] (s ∷ ss) h names = absurd h
block_sums (f ∷ fs) [] h names = absurd h
block_sums (f ∷ fs) (s ∷ ss) h names = then_sums _ _ _ _ (h.0 names) (block_sums fs ss h.1 names)

loop_sums : (f : Flows) (s : Summaries) → Sums f s → (at : ℕ → Names) (ks : List ℕ) → IsSummary (all_flows (map (λ k. f (at k)) ks)) (all_summaries (map (λ k. s (at k)) ks))
loop_sums f s h at [] = still_sums
loop_sums f s h at (k ∷ ks) = then_sums _ _ _ _ (h (at k)) (loop_sums f s h at ks)

pub record TreeArm (a : ArmOf Flows) (c : ArmOf Summaries) : Type 0 where
  pub labels : a.labels ≡ c.labels
  pub body : Sums a.body c.body

arms_sum : (names : Names) (fs : List (ArmOf Flows)) (ss : List (ArmOf Summaries)) → Pairs TreeArm fs ss → Pairs SumArm (map (read_arm names) fs) (map (read_arm names) ss)
arms_sum names [] [] h = tt
arms_sum names [] (s ∷ ss) h = absurd h
arms_sum names (f ∷ fs) [] h = absurd h
arms_sum names (f ∷ fs) (s ∷ ss) h = (record { labels = ap (map (label_of names)) h.0.labels; body = h.0.body names }, arms_sum names fs ss h.1)

abbrev FlowOf : Stmt → Flows
FlowOf s = fold_stmt Flows (ArmOf Flows) flow_step arm_step s

abbrev SummaryOf : Stmt → Summaries
SummaryOf s = fold_stmt Summaries (ArmOf Summaries) summary_step arm_step s

-- each block has a path
some_path : (names : Names) (s : Stmt) → Somewhere Any (FlowOf s names).paths
unfolding flow
some_path names s = (follows names s).some

mutual
  sums_by : (s : Stmt) → Sums (FlowOf s) (SummaryOf s)
  sums_by b.Null = λ names. still_sums
  sums_by (b.Block' name n ss) = block_sums _ _ (all_sum ss)
  sums_by (b.If' c n s other) = λ names. if_sums (read_expr names c) _ _ _ _ (one_sums s names) (else_sums _ _ (held_sums other) names)
  sums_by (b.Case' wild x n arms) = λ names.
      case_sums wild (is_extended x) (read_expr names x) _ _ (arms_sum names _ _ (row_sums arms)) (some_path names (b.Case' wild x n arms))
  sums_by (b.Loop' index start test again next n s) =
      λ names. loop_sums _ _ (one_sums s) (with_index names index.name) (turns names index.name start test next)
  sums_by (b.Now target x place) = λ names. write_sums true (pieces names target) (read_expr names x) place
  sums_by (b.Later target x place) = λ names. write_sums false (pieces names target) (read_expr names x) place

  all_sum : {n : _} (r : Row_of-Stmt n) → Pairs Sums (fold_stmts Flows (ArmOf Flows) flow_step arm_step r) (fold_stmts Summaries (ArmOf Summaries) summary_step arm_step r)
  all_sum end_of-Stmt = tt
  all_sum (more_of-Stmt x xs) = (sums_by x, all_sum xs)

  one_sums : {n : _} (r : Row_of-Stmt n) → Sums (fold_one_stmt Flows (ArmOf Flows) flow_step arm_step r) (fold_one_stmt Summaries (ArmOf Summaries) summary_step arm_step r)
  one_sums end_of-Stmt = λ names. still_sums
  one_sums (more_of-Stmt x xs) = sums_by x

  held_sums : (r : Held-Stmt-If-2) → MaybeSums (fold_held Flows (ArmOf Flows) flow_step arm_step r) (fold_held Summaries (ArmOf Summaries) summary_step arm_step r)
  held_sums None' = tt
  held_sums (Some' n s) = one_sums s

  row_sums : {n : _} (r : Row_of-Arm n) → Pairs TreeArm (fold_arms Flows (ArmOf Flows) flow_step arm_step r) (fold_arms Summaries (ArmOf Summaries) summary_step arm_step r)
  row_sums end_of-Arm = tt
  row_sums (more_of-Arm ls body xs) = (record { labels = refl; body = sums_by body }, row_sums xs)

pub sums : (names : Names) (s : Stmt) → IsSummary (flow names s) (summary names s)
unfolding flow summary
sums names s = sums_by s names

-- ---- latches and reads before

latch_by : (f : Flow) (s : Summary) → IsSummary f s → is_latch f ≡ leaves_latch s
latch_by f s h =
    any-swap (λ (p : List Event) (b : Bit). not (has_bit (surely p) b)) f.paths (block_writes f) ∙
    (ap (λ (q : Bit → Bool). list_any q (block_writes f)) (fun_ext (λ b. any-not (λ p. has_bit (surely p) b) f.paths ∙ ap not (h.sure b))) ∙
    ap (list_any (λ b. not (has_bit s.sure b))) h.written)

first_step : (d r s x : Bool) → ((not d && r) || (not (s || d) && x)) ≡ (not d && (r || (not s && x)))
first_step true r true x = refl
first_step true r false x = refl
first_step false r true x = refl
first_step false r false x = refl

and_never : {A : Type 0} (q : A → Bool) (xs : List A) → false ≡ list_any (λ x. q x && false) xs
and_never q [] = refl
and_never q (x ∷ xs) = and_never q xs ∙ ap (λ b. b || list_any (λ x. q x && false) xs) (and-swap false (q x))

reads_first_is : (driven done : List Bit) (p : List Event) → reads_first driven done p ≡ list_any (λ b. not (has_bit done b) && exposed_in p b) driven
reads_first_is driven done [] = and_never (λ b. not (has_bit done b)) driven
reads_first_is driven done (e ∷ es) =
    two (λ x y. x || y) _ _ _ _ (any-meet (λ b. not (has_bit done b)) e.reads driven) (reads_first_is driven (event_surely e ++ done) es) ∙
    (sym (any-or (λ b. not (has_bit done b) && has_bit e.reads b) (λ b. not (has_bit (event_surely e ++ done) b) && exposed_in es b) driven) ∙
    ap (λ (q : Bit → Bool). list_any q driven) (fun_ext (λ b.
    ap (λ c. (not (has_bit done b) && has_bit e.reads b) || (not c && exposed_in es b)) (any-join (same_bit b) (event_surely e) done) ∙
    first_step (has_bit done b) (has_bit e.reads b) (has_bit (event_surely e) b) (exposed_in es b))))

first_by : (f : Flow) (s : Summary) → IsSummary f s → is_read_first f ≡ exposes_own s
first_by f s h =
    ap (λ (q : List Event → Bool). list_any q f.paths) (fun_ext (reads_first_is (block_writes f) [])) ∙
    (any-swap (λ (p : List Event) (b : Bit). exposed_in p b) f.paths (block_writes f) ∙
    (ap (λ (q : Bit → Bool). list_any q (block_writes f)) (fun_ext h.exposed) ∙ ap (list_any (has_bit s.exposed)) h.written))

-- a latch exactly where some bit is written and not for sure
pub latch_is : (names : Names) (s : Stmt) → is_latch (flow names s) ≡ leaves_latch (summary names s)
latch_is names s = latch_by (flow names s) (summary names s) (sums names s)

-- a read before exactly where some bit that is written is exposed
pub read_first_is : (names : Names) (s : Stmt) → is_read_first (flow names s) ≡ exposes_own (summary names s)
read_first_is names s = first_by (flow names s) (summary names s) (sums names s)
