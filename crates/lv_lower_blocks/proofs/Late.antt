-- The writes of a block leave the bits that the block leaves, where no bit is written by both `=` and `<=`.
use Rattle.std.proofs.Common.{◌≡◌, ◌⊎◌, inl, inr, ℕ, ◌/◌, ◌%◌, ◌^◌, ◌<◌, ◌==◌, Bool, true, false, List, [], ◌∷◌, ◌++◌, map, length, refl, sym, ◌∙◌, ap, subst, arith, All, Option, Some, None}
use Rattle.std.specs.Prelude.{if◌then◌else◌, flat_map, bytes_eq}
use Rattle.std.specs.List.{list_any}
use Rattle.std.proofs.lemmas.Bool.{eq-eqb}
use Rattle.std.proofs.lemmas.List.Elements.{All-head, All-tail}
use Rattle.lv_ast.specs.Names.{Name}
use Rattle.lv_source.specs.Names.{Valuation}
use Rattle.lv_source.specs.Values.{nowhere}
use Rattle.lv_source.specs.Places.{Bit, Place, bit_at, has_bit, same_bit, some_bit, place_bits, set_bit, write_bits, write}
use Rattle.lv_source.specs.Meaning.{Reading}
use Rattle.lv_source.specs.Effect.{State, Update, Piece, Label, Arm, Width, is_met, places, bits_in, write_all, assigned, is_default, arm_labels, taken_of, common_of, fits_label, selected_of}
use Rattle.lv_source.specs.Effect.{one_by_one, now_of, later_of, applied, left_of}
use Rattle.lv_source.specs.Flow.{Event, Flow, branches, all_flows}
use Rattle.lv_source.proofs.Each.{Each, each-left, each-right}
use Rattle.lv_source.proofs.Tests.{or-none_left, or-none_right, and-both, same_name, name-itself}
use Rattle.lv_source.proofs.Runs.{none-left, none-right}
use Rattle.lv_source.proofs.Writes.{bit_of, set_other, apart, all_bits_of, writes_settle}
use Rattle.lv_flat.specs.declared.stmt.FlatStmt.{FlatStmt, Row_of-FlatStmt, end_of-FlatStmt, more_of-FlatStmt, Row_of-FlatArm, end_of-FlatArm, more_of-FlatArm, Held-FlatStmt-If-2, None', Some'}
use Rattle.lv_flat.specs.declared.stmt.FlatStmt.TheVariants as b
use Rattle.lv_flat.specs.Signals.{Signals}
use Rattle.lv_flat.specs.Judged.{reading}
use Rattle.lv_flat.specs.Executing.{Effect, pieces, label_of, arm_step, effect_step, otherwise, executes}
use Rattle.lv_flat.specs.Flows.{flow_or, flow_step, flow}
use Rattle.lv_flat.specs.Trees.{fold_stmt, fold_stmts, fold_one_stmt, fold_held, fold_arms}
use Rattle.lv_lower_blocks.specs.Running.{kept_now, write_step, keeps_writes, writes_from, OnceSpares, LaterSpares, IsUnmixed}
use Rattle.lv_lower_blocks.proofs.Keeping.{applied-more}
use Rattle.lv_lower_blocks.proofs.Leaving.{kept, done, flows, labels-alike, branch-events}

-- ---- bits that are not written

bits-kept : (name : Name) (j : ℕ) (bits : List (Option ℕ)) (x a : ℕ) → has_bit (flat_map (some_bit name) bits) (record { name = name; place = j }) ≡ false → bit_of (write_bits a bits x) j ≡ bit_of a j
bits-kept name j [] x a h = refl
bits-kept name j (None ∷ ks) x a h = bits-kept name j ks (x / 2) a h
bits-kept name j (Some k ∷ ks) x a h =
    let b : Bit = record { name = name; place = j } in
    let c : Bit = record { name = name; place = k } in
    let y : x % 2 < 2 = omega arith in
    let other : same_bit b c ≡ false = or-none_left (same_bit b c) (has_bit (flat_map (some_bit name) ks) b) h in
    bits-kept name j ks (x / 2) (set_bit a k (x % 2)) (or-none_right (same_bit b c) (has_bit (flat_map (some_bit name) ks) b) h) ∙
    elim (apart j k) [
      | inl e ↦ absurd (let t : same_bit b c ≡ true = and-both (j == k) (bytes_eq name name) (eq-eqb j k e) (name-itself name) in cc)
      | inr o ↦ set_other a k (x % 2) j y o
    ]

write-kept : (v : Valuation) (p : Place) (x : ℕ) (b : Bit) → has_bit (place_bits p) b ≡ false → bit_at (write v p x) b ≡ bit_at v b
write-kept v p x b h =
    elim (bytes_eq b.name p.name) as (λ c. bytes_eq b.name p.name ≡ c → bit_of (if c then write_bits (v b.name) p.bits x else v b.name) b.place ≡ bit_at v b) [
      | true ↦ λ e. bits-kept b.name b.place p.bits x (v b.name) (ap (λ n. has_bit (flat_map (some_bit n) p.bits) b) (same_name b.name p.name e) ∙ h)
      | false ↦ λ e. refl
    ] refl

writes-kept : (ps : List Place) (x : ℕ) (v : Valuation) (b : Bit) → has_bit (all_bits_of ps) b ≡ false → bit_at (write_all v ps x) b ≡ bit_at v b
writes-kept [] x v b h = refl
writes-kept (p ∷ ps) x v b h =
    let y : ℕ = x / 2 ^ bits_in ps % 2 ^ length p.bits in
    writes-kept ps x (write v p y) b (none-right (same_bit b) (place_bits p) (all_bits_of ps) h) ∙ write-kept v p y b (none-left (same_bit b) (place_bits p) (all_bits_of ps) h)

pub applied-settles : (us : List Update) (v w : Valuation) (b : Bit) → bit_at v b ≡ bit_at w b → bit_at (applied v us) b ≡ bit_at (applied w us) b
applied-settles [] v w b h = h
applied-settles (u ∷ us) v w b h = applied-settles us (write_all v u.places u.value) (write_all w u.places u.value) b (writes_settle u.places u.value v w b (inl h))

-- ---- two states that a statement keeps alike

module _ (S : Signals) (R : State → State → Type 0) (P : Event → Type 0) (same : (s t : State) → R s t → s.valuation ≡ t.valuation)
    (now : (ps : List Piece) (r : Reading) (e : Event) → e.at_once ≡ true → e.targets ≡ ps → P e → (s t : State) → R s t → R (kept_now ps r s) (now_of ps r t))
    (later : (ps : List Piece) (r : Reading) (e : Event) → e.at_once ≡ false → e.targets ≡ ps → P e → (s t : State) → R s t → R (later_of ps r s) (later_of ps r t)) where
  abbrev Moves : Effect → Effect → Type 0
  Moves f g = (s t : State) → R s t → R (f s) (g t)

  either-moves : (u : Bool) (f g h k : Effect) → Moves f h → Moves g k → (s t : State) → R s t → R (if u then f s else g s) (if u then h t else k t)
  either-moves true f g h k a c s t r = a s t r
  either-moves false f g h k a c s t r = c s t r

  taken-moves : (u : Bool) (f g h k : Effect) → Moves f h → Moves g k → (s t : State) → R s t → R ((if u then f else g) s) ((if u then h else k) t)
  taken-moves true f g h k a c s t r = a s t r
  taken-moves false f g h k a c s t r = c s t r

  default-moves : (u : Bool) (f g h k : Effect) → Moves f h → Moves g k → Moves (if u then f else g) (if u then h else k)
  default-moves true f g h k a c = a
  default-moves false f g h k a c = c

  mutual
    moves : (x : FlatStmt) → Each P (flows S x).events → Moves (kept S x) (done S x)
    moves b.Null h s t r = r
    moves (b.Block' n ss) h s t r = rows-move ss h s t r
    moves (b.If' c n x other) h s t r =
        let f : Flow = fold_one_stmt Flow (Arm Flow) (flow_step S) (arm_step S) x in
        let g : Flow = flow_or (fold_held Flow (Arm Flow) (flow_step S) (arm_step S) other) in
        let k : Each P (f.events ++ g.events) = subst (λ (es : List Event). Each P es) (branch-events (reading S c) (is_met nowhere (reading S c)) f g) h.1 in
        let K : Effect = fold_one_stmt Effect (Arm Effect) (write_step S) (arm_step S) x in
        let L : Effect = otherwise (fold_held Effect (Arm Effect) (write_step S) (arm_step S) other) in
        let D : Effect = fold_one_stmt Effect (Arm Effect) (effect_step S) (arm_step S) x in
        let E : Effect = otherwise (fold_held Effect (Arm Effect) (effect_step S) (arm_step S) other) in
        subst (λ (v : Valuation). R (if is_met v (reading S c) then K s else L s) (if is_met t.valuation (reading S c) then D t else E t)) (sym (same s t r))
        (either-moves (is_met t.valuation (reading S c)) K L D E (one-moves x (each-left P f.events g.events k)) (held-moves other (each-right P f.events g.events k)) s t r)
    moves (b.Case' wild x n arms) h s t r =
        let K : List (Arm Effect) = fold_arms Effect (Arm Effect) (write_step S) (arm_step S) arms in
        let D : List (Arm Effect) = fold_arms Effect (Arm Effect) (effect_step S) (arm_step S) arms in
        let c : Width = common_of (reading S x) (arm_labels K) in
        let d : Width = common_of (reading S x) (arm_labels D) in
        let e : c ≡ d = ap (common_of (reading S x)) (labels-alike S arms) in
        subst (λ (v : Valuation). R (taken_of (fits_label v wild c (selected_of (reading S x) c v)) K (λ (z : State). z) s)
        (taken_of (fits_label t.valuation wild d (selected_of (reading S x) d t.valuation)) D (λ (z : State). z) t))
        (sym (same s t r))
        (subst (λ (k : Width). R (taken_of (fits_label t.valuation wild k (selected_of (reading S x) k t.valuation)) K (λ (z : State). z) s)
        (taken_of (fits_label t.valuation wild d (selected_of (reading S x) d t.valuation)) D (λ (z : State). z) t)) (sym e)
        (arms-move arms h.1 (fits_label t.valuation wild d (selected_of (reading S x) d t.valuation)) (λ z. z) (λ z. z) (λ s t r. r) s t r))
    moves (b.Now target x place) h s t r = now (pieces S target) (reading S x) _ refl refl h.0 s t r
    moves (b.Later target x place) h s t r = later (pieces S target) (reading S x) _ refl refl h.0 s t r

    rows-move : {n : _} (q : Row_of-FlatStmt n) → Each P (all_flows (fold_stmts Flow (Arm Flow) (flow_step S) (arm_step S) q)).events →
        Moves (one_by_one (fold_stmts Effect (Arm Effect) (write_step S) (arm_step S) q)) (one_by_one (fold_stmts Effect (Arm Effect) (effect_step S) (arm_step S) q))
    rows-move end_of-FlatStmt h s t r = r
    rows-move (more_of-FlatStmt x xs) h s t r =
        let rest : List Event = (all_flows (fold_stmts Flow (Arm Flow) (flow_step S) (arm_step S) xs)).events in
        rows-move xs (each-right P (flows S x).events rest h) (kept S x s) (done S x t) (moves x (each-left P (flows S x).events rest h) s t r)

    one-moves : {n : _} (q : Row_of-FlatStmt n) → Each P (fold_one_stmt Flow (Arm Flow) (flow_step S) (arm_step S) q).events →
        Moves (fold_one_stmt Effect (Arm Effect) (write_step S) (arm_step S) q) (fold_one_stmt Effect (Arm Effect) (effect_step S) (arm_step S) q)
    one-moves end_of-FlatStmt h s t r = r
    one-moves (more_of-FlatStmt x xs) h s t r = moves x h s t r

    held-moves : (q : Held-FlatStmt-If-2) → Each P (flow_or (fold_held Flow (Arm Flow) (flow_step S) (arm_step S) q)).events →
        Moves (otherwise (fold_held Effect (Arm Effect) (write_step S) (arm_step S) q)) (otherwise (fold_held Effect (Arm Effect) (effect_step S) (arm_step S) q))
    held-moves None' h s t r = r
    held-moves (Some' n x) h s t r = one-moves x h s t r

    arms-move : {n : _} (q : Row_of-FlatArm n) → Each P (flat_map (λ (a : Arm Flow). a.body.events) (fold_arms Flow (Arm Flow) (flow_step S) (arm_step S) q)) → (fits : Label →
        Bool) (f g : Effect) → Moves f g →
        Moves (taken_of fits (fold_arms Effect (Arm Effect) (write_step S) (arm_step S) q) f) (taken_of fits (fold_arms Effect (Arm Effect) (effect_step S) (arm_step S) q) g)
    arms-move end_of-FlatArm h fits f g m s t r = m s t r
    arms-move (more_of-FlatArm labels body xs) h fits f g m s t r =
        let ls : List Label = map (label_of S) labels in
        let u : Bool = is_default ls in
        let rest : List Event = flat_map (λ (a : Arm Flow). a.body.events) (fold_arms Flow (Arm Flow) (flow_step S) (arm_step S) xs) in
        let k : Moves (kept S body) (done S body) = moves body (each-left P (flows S body).events rest h) in
        taken-moves (list_any fits ls) (kept S body) (taken_of fits (fold_arms Effect (Arm Effect) (write_step S) (arm_step S) xs) (if u then kept S body else f)) (done S body)
        (taken_of fits (fold_arms Effect (Arm Effect) (effect_step S) (arm_step S) xs) (if u then done S body else g)) k
        (arms-move xs (each-right P (flows S body).events rest h) fits (if u then kept S body else f) (if u then done S body else g) (default-moves u (kept S body) f (done S body) g k m)) s t r

-- ---- one bit

-- an assignment's update, with what is read in a valuation
abbrev update_in : List Piece → Reading → Valuation → Update
update_in ps r v = record { places = places v ps; value = assigned v (bits_in (places v ps)) r.meaning }

abbrev put_in : List Piece → Reading → Valuation → Valuation → Valuation
put_in ps r v w = write_all w (places v ps) (assigned v (bits_in (places v ps)) r.meaning)

spared : (ps : List Piece) (e : Event) (v : Valuation) (b : Bit) → e.targets ≡ ps → ((v : Valuation) → has_bit (all_bits_of (places v e.targets)) b ≡ false) →
    has_bit (all_bits_of (places v ps)) b ≡ false
spared ps e v b i h = ap (λ (qs : List Piece). has_bit (all_bits_of (places v qs)) b) (sym i) ∙ h v

-- no `=` writes it
record Free (u : Valuation) (b : Bit) (s t : State) : Type 0 where
  val : s.valuation ≡ t.valuation
  bit : bit_at (applied u s.pending) b ≡ bit_at (applied t.valuation t.pending) b

-- no `<=` writes it
record Fast (u : Valuation) (b : Bit) (s t : State) : Type 0 where
  val : s.valuation ≡ t.valuation
  bit : bit_at (applied u s.pending) b ≡ bit_at t.valuation b
  still : (w : Valuation) → bit_at (applied w t.pending) b ≡ bit_at w b

module _ (u : Valuation) (b : Bit) where
  free-now : (ps : List Piece) (r : Reading) (e : Event) → e.at_once ≡ true → e.targets ≡ ps → OnceSpares b e → (s t : State) → Free u b s t → Free u b (kept_now ps r s) (now_of ps r t)
  free-now ps r e i j p s t f = record {
    val = ap (λ (v : Valuation). put_in ps r v v) f.val;
    bit = ap (λ (v : Valuation). bit_at v b) (applied-more s.pending (update_in ps r s.valuation) u) ∙
        (writes-kept (places s.valuation ps) _ (applied u s.pending) b (spared ps e s.valuation b j (p i)) ∙ (f.bit ∙
        sym (applied-settles t.pending (put_in ps r t.valuation t.valuation) t.valuation b (writes-kept (places t.valuation ps) _ t.valuation b (spared ps e t.valuation b j (p i))))));
  }

  free-later : (ps : List Piece) (r : Reading) (e : Event) → e.at_once ≡ false → e.targets ≡ ps → OnceSpares b e → (s t : State) → Free u b s t → Free u b (later_of ps r s) (later_of ps r t)
  free-later ps r e i j p s t f = record {
    val = f.val;
    bit = ap (λ (v : Valuation). bit_at v b) (applied-more s.pending (update_in ps r s.valuation) u) ∙ (ap (λ (v : Valuation). bit_at (put_in ps r v (applied u s.pending)) b) f.val ∙
        (writes_settle (places t.valuation ps) _ (applied u s.pending) (applied t.valuation t.pending) b (inl f.bit) ∙
        sym (ap (λ (v : Valuation). bit_at v b) (applied-more t.pending (update_in ps r t.valuation) t.valuation))));
  }

  fast-now : (ps : List Piece) (r : Reading) (e : Event) → e.at_once ≡ true → e.targets ≡ ps → LaterSpares b e → (s t : State) → Fast u b s t → Fast u b (kept_now ps r s) (now_of ps r t)
  fast-now ps r e i j p s t f = record {
    val = ap (λ (v : Valuation). put_in ps r v v) f.val;
    bit = ap (λ (v : Valuation). bit_at v b) (applied-more s.pending (update_in ps r s.valuation) u) ∙ (ap (λ (v : Valuation). bit_at (put_in ps r v (applied u s.pending)) b) f.val ∙
        writes_settle (places t.valuation ps) _ (applied u s.pending) t.valuation b (inl f.bit));
    still = f.still;
  }

  fast-later : (ps : List Piece) (r : Reading) (e : Event) → e.at_once ≡ false → e.targets ≡ ps → LaterSpares b e → (s t : State) → Fast u b s t → Fast u b (later_of ps r s) (later_of ps r t)
  fast-later ps r e i j p s t f = record {
    val = f.val;
    bit = ap (λ (v : Valuation). bit_at v b) (applied-more s.pending (update_in ps r s.valuation) u) ∙
        (writes-kept (places s.valuation ps) _ (applied u s.pending) b (spared ps e s.valuation b j (p i)) ∙ f.bit);
    still = λ w. ap (λ (v : Valuation). bit_at v b) (applied-more t.pending (update_in ps r t.valuation) w) ∙
        (writes-kept (places t.valuation ps) _ (applied w t.pending) b (spared ps e t.valuation b j (p i)) ∙ f.still w);
  }

each-of : {A : Type 0} (P : A → Type 0) (xs : List A) → All P xs → Each P xs
each-of P [] h = tt
each-of P (x ∷ xs) h = (All-head P x xs h, each-of P xs (All-tail P x xs h))

pub writes-leave : (S : Signals) (x : FlatStmt) (v u : Valuation) (b : Bit) → IsUnmixed S x b → bit_at u b ≡ bit_at v b → bit_at (applied u (writes_from S x v)) b ≡ bit_at (left_of (executes S x) v) b
unfolding keeps_writes executes flow
writes-leave S x v u b (inl h) e =
    let s : State = record { valuation = v; pending = [] } in
    (moves S (Free u b) (OnceSpares b) (λ s t f. f.val) (free-now u b) (free-later u b) x (each-of (OnceSpares b) (flows S x).events h) s s (record { val = refl; bit = e })).bit
writes-leave S x v u b (inr h) e =
    let s : State = record { valuation = v; pending = [] } in
    let f = moves S (Fast u b) (LaterSpares b) (λ s t f. f.val) (fast-now u b) (fast-later u b) x (each-of (LaterSpares b)
    (flows S x).events h) s s (record { val = refl; bit = e; still = λ w. refl }) in
    f.bit ∙ sym (f.still (done S x s).valuation)

-- ---- a bit that is not written

-- no assignment writes it
abbrev pub Spares : Bit → Event → Type 0
Spares b e = (v : Valuation) → has_bit (all_bits_of (places v e.targets)) b ≡ false

record Spared (b : Bit) (s t : State) : Type 0 where
  val : s.valuation ≡ t.valuation
  still : (w : Valuation) → bit_at (applied w s.pending) b ≡ bit_at w b

module _ (b : Bit) where
  spared-update : (ps : List Piece) (r : Reading) (e : Event) → e.targets ≡ ps → Spares b e → (s t : State) → Spared b s t → (w : Valuation) →
      bit_at (applied w (s.pending ++ update_in ps r s.valuation ∷ [])) b ≡ bit_at w b
  spared-update ps r e j p s t f w = ap (λ (v : Valuation). bit_at v b) (applied-more s.pending (update_in ps r s.valuation) w) ∙
      (writes-kept (places s.valuation ps) _ (applied w s.pending) b (spared ps e s.valuation b j p) ∙ f.still w)

  spared-now : (ps : List Piece) (r : Reading) (e : Event) → e.at_once ≡ true → e.targets ≡ ps → Spares b e → (s t : State) → Spared b s t → Spared b (kept_now ps r s) (now_of ps r t)
  spared-now ps r e i j p s t f = record { val = ap (λ (v : Valuation). put_in ps r v v) f.val; still = spared-update ps r e j p s t f }

  spared-later : (ps : List Piece) (r : Reading) (e : Event) → e.at_once ≡ false → e.targets ≡ ps → Spares b e → (s t : State) → Spared b s t → Spared b (later_of ps r s) (later_of ps r t)
  spared-later ps r e i j p s t f = record { val = f.val; still = spared-update ps r e j p s t f }

-- the writes of a block leave it
pub writes-spare : (S : Signals) (x : FlatStmt) (v u : Valuation) (b : Bit) → Each (Spares b) (flow S x).events → bit_at (applied u (writes_from S x v)) b ≡ bit_at u b
unfolding keeps_writes executes flow
writes-spare S x v u b h =
    let s : State = record { valuation = v; pending = [] } in
    (moves S (Spared b) (Spares b) (λ s t f. f.val) (spared-now b) (spared-later b) x h s s (record { val = refl; still = λ w. refl })).still u
