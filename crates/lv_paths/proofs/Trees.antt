-- Statements and targets by the form of the tree.
use Rattle.std.proofs.Common.{◌≡◌, ℕ, ◌==◌, Bool, true, false, not, ◌&&◌, ◌||◌, List, [], ◌∷◌, ◌++◌, map, flat_map, Option, Some, None, refl, sym, ◌∙◌, ap, subst, inl, inr, arith}
use Rattle.std.proofs.lemmas.Bool.Decides.{nat_tests}
use Rattle.std.specs.Prelude.{filter, cond}
use Rattle.std.specs.List.{list_any}
use Rattle.std.proofs.lemmas.List.Elements.{All-head, All-tail}
use Rattle.std.proofs.lemmas.Grind.{flat_map-append}
use Rattle.lv_source.specs.Values.{nowhere}
use Rattle.lv_source.specs.Names.{Bounds, known, is_signal_sort}
use Rattle.lv_source.specs.Places.{Bit, same_bit, has_bit}
use Rattle.lv_source.specs.Meaning.{Reading, bits_named, all_constant, index_reads}
use Rattle.lv_source.specs.Effect.{Piece, Label, Arm, arm_labels, is_default, is_met}
use Rattle.lv_source.specs.Flow.{writes_of, is_full_of}
use Rattle.lv_source.specs.Summary.{Summary, nothing_done, looked_at, then_summary, either_summary, all_summaries, any_summary, branch_summary, if_summary, no_match_summary, write_summary}
use Rattle.lv_source.specs.Views.{aim_of}
use Rattle.lv_source.proofs.Tests.{and-left, and-right, or-split}
use Rattle.lv_source.proofs.Summaries.{any-join, append-none, both}
use Rattle.lv_flat.specs.declared.expr.FlatExpr.{FlatExpr}
use Rattle.lv_flat.specs.declared.stmt.FlatTarget.{FlatTarget}
use Rattle.lv_flat.specs.declared.stmt.FlatArm.{FlatArm}
use Rattle.lv_flat.specs.declared.stmt.FlatStmt.{FlatStmt}
use Rattle.lv_flat.specs.declared.stmt.FlatStmt.TheVariants as b
use Rattle.lv_flat.specs.Signals.{Signals, signal_at}
use Rattle.lv_flat.specs.Judged.{judge, reading}
use Rattle.lv_flat.specs.Executing.{pieces, label_of}
use Rattle.lv_flat.specs.Flows.{summary}
use Rattle.lv_flat.proofs.Effects.{read_arm, summary-Null, summary-Block, summary-If, summary-If_else, summary-Case, summary-Now, summary-Later}
use Rattle.lv_spans.specs.declared.span.Span.{Span}
use Rattle.lv_spans.specs.Sets.{Cell, Masks, is_set, is_under}
use Rattle.lv_spans.specs.Domain.{is_element_in, is_cell, is_bit, bit_of, spans_have}
use Rattle.lv_spans.proofs.Cells.{same-cell}
use Rattle.lv_spans.proofs.Added.{hits, under-self, same-of, hit-key}
use Rattle.lv_extents.specs.declared.extent.Aim.{Aim}
use Rattle.lv_extents.specs.Extents.{Each, AreExact, IsAim}
use Rattle.lv_extents.specs.Blocks.{label_reads}
use Rattle.lv_paths.specs.Bits.{holds, cells_have, surely_have, IsLogged, IsExposed}
use Rattle.lv_paths.specs.Fits.{labels_of, all_labels, has_default}
use Rattle.lv_paths.specs.Ways.{IsThere, Walks, arm_summary, IsFork}
use Rattle.lv_paths.proofs.Lists.{or-false}
use Rattle.lv_paths.proofs.Sequences.{walks-as, walks-behind}

-- ---- the forms

module _ (S : Signals) where
  of-form : (x y : FlatStmt) (p : Summary) → x ≡ y → summary S y ≡ p → summary S x ≡ p
  of-form x y p e f = ap (summary S) e ∙ f

  pub sum-Null : (x : FlatStmt) → x ≡ b.Null → summary S x ≡ nothing_done
  sum-Null x e = of-form x b.Null _ e (summary-Null S)

  pub sum-Block : (x : FlatStmt) (body : List FlatStmt) → x ≡ b.Block body → summary S x ≡ all_summaries (map (summary S) body)
  sum-Block x body e = of-form x (b.Block body) _ e (summary-Block S body)

  pub sum-If : (x : FlatStmt) (c : FlatExpr) (s : FlatStmt) → x ≡ b.If c s None → summary S x ≡ if_summary (reading S c) (summary S s) nothing_done
  sum-If x c s e = of-form x (b.If c s None) _ e (summary-If S c s)

  pub sum-If_else : (x : FlatStmt) (c : FlatExpr) (s t : FlatStmt) → x ≡ b.If c s (Some t) → summary S x ≡ if_summary (reading S c) (summary S s) (summary S t)
  sum-If_else x c s t e = of-form x (b.If c s (Some t)) _ e (summary-If_else S c s t)

  abbrev pub summary_of : Option FlatStmt → Summary
  summary_of None = nothing_done
  summary_of (Some t) = summary S t

  pub sum-If-any : (x : FlatStmt) (c : FlatExpr) (s : FlatStmt) (o : Option FlatStmt) → x ≡ b.If c s o → summary S x ≡ if_summary (reading S c) (summary S s) (summary_of o)
  sum-If-any x c s None e = sum-If x c s e
  sum-If-any x c s (Some t) e = sum-If_else x c s t e

  -- by equal conditions and branches
  pub sum-branches : (x : FlatStmt) (c d : FlatExpr) (s r : FlatStmt) (o q : Option FlatStmt) → x ≡ b.If c s o → d ≡ c → r ≡ s → o ≡ q →
      summary S x ≡ if_summary (reading S d) (summary S r) (summary_of q)
  sum-branches x c d s r o q e f g h =
      sum-If-any x c s o e ∙ (ap (λ (z : FlatExpr). if_summary (reading S z) (summary S s) (summary_of o)) (sym f) ∙
      (ap (λ (z : FlatStmt). if_summary (reading S d) (summary S z) (summary_of o)) (sym g) ∙ ap (λ (z : Option FlatStmt). if_summary (reading S d) (summary S r) (summary_of z)) h))

  pub sum-Now : (x : FlatStmt) (t : FlatTarget) (v : FlatExpr) (place : ℕ) → x ≡ b.Now t v place → summary S x ≡ write_summary (pieces S t) (reading S v)
  sum-Now x t v place e = of-form x (b.Now t v place) _ e (summary-Now S t v place)

  pub sum-Later : (x : FlatStmt) (t : FlatTarget) (v : FlatExpr) (place : ℕ) → x ≡ b.Later t v place → summary S x ≡ write_summary (pieces S t) (reading S v)
  sum-Later x t v place e = of-form x (b.Later t v place) _ e (summary-Later S t v place)

  -- ---- a `case`

  reads-labels : (ls : List FlatExpr) → flat_map (λ (l : Label). l.reading.reads) (map (label_of S) ls) ≡ flat_map (λ (r : Reading). r.reads) (map (reading S) ls)
  reads-labels [] = refl
  reads-labels (l ∷ ls) = ap (λ bs. (reading S l).reads ++ bs) (reads-labels ls)

  reads-arms : (arms : List FlatArm) → flat_map (λ (l : Label). l.reading.reads) (all_labels S arms) ≡ label_reads S arms
  reads-arms [] = refl
  reads-arms (a ∷ as') =
      flat_map-append (λ (l : Label). l.reading.reads) (labels_of S a) (all_labels S as') ∙
      (ap (λ bs. bs ++ flat_map (λ (l : Label). l.reading.reads) (all_labels S as')) (reads-labels a.labels) ∙
      ap (λ bs. flat_map (λ (r : Reading). r.reads) (map (reading S) a.labels) ++ bs) (reads-arms as'))

  arms-labels : (arms : List FlatArm) → arm_labels (map (read_arm S (summary S)) arms) ≡ all_labels S arms
  arms-labels [] = refl
  arms-labels (a ∷ as') = ap (λ ls. labels_of S a ++ ls) (arms-labels as')

  arms-bodies : (arms : List FlatArm) → map (λ (a : Arm Summary). a.body) (map (read_arm S (summary S)) arms) ≡ map (arm_summary S) arms
  arms-bodies [] = refl
  arms-bodies (a ∷ as') = ap (λ ps. arm_summary S a ∷ ps) (arms-bodies as')

  default-same : (ls : List FlatExpr) → is_default (map (label_of S) ls) ≡ is_default ls
  default-same [] = refl
  default-same (l ∷ ls) = refl

  arms-default : (arms : List FlatArm) → list_any (λ (a : Arm Summary). is_default a.labels) (map (read_arm S (summary S)) arms) ≡ has_default arms
  arms-default [] = refl
  arms-default (a ∷ as') =
      ap (λ u. u || list_any (λ (a : Arm Summary). is_default a.labels) (map (read_arm S (summary S)) as')) (default-same a.labels) ∙ ap (λ u. is_default a.labels || u) (arms-default as')

  abbrev pub can_miss : Bool → FlatExpr → List FlatArm → Bool
  can_miss wild x arms = not (has_default arms) && not (is_full_of wild (judge S x).extends (reading S x) (all_labels S arms))

  abbrev pub of_arms : Bool → FlatExpr → List FlatArm → Summary
  of_arms wild x arms = any_summary (map (arm_summary S) arms ++ no_match_summary (can_miss wild x arms))

  pub sum-Case : (x : FlatStmt) (wild : Bool) (c : FlatExpr) (arms : List FlatArm) → x ≡ b.Case wild c arms →
      summary S x ≡ then_summary (looked_at ((reading S c).reads ++ label_reads S arms)) (of_arms wild c arms)
  sum-Case x wild c arms e =
      let own : Bool = (judge S c).extends in
      let r : Reading = reading S c in
      let f : List Label → Bool → List Summary → Summary = λ ls d ps.
      then_summary (looked_at (r.reads ++ flat_map (λ (l : Label). l.reading.reads) ls)) (any_summary (ps ++ no_match_summary (not d && not (is_full_of wild own r ls)))) in
      of-form x (b.Case wild c arms) _ e (summary-Case S wild c arms) ∙
      (ap (λ ls. f ls (list_any (λ (a : Arm Summary). is_default a.labels) (map (read_arm S (summary S)) arms)) (map (λ (a : Arm Summary). a.body) (map (read_arm S (summary S)) arms)))
      (arms-labels arms) ∙
      (ap (λ d. f (all_labels S arms) d (map (λ (a : Arm Summary). a.body) (map (read_arm S (summary S)) arms))) (arms-default arms) ∙
      (ap (f (all_labels S arms) (has_default arms)) (arms-bodies arms) ∙ ap (λ bs. then_summary (looked_at (r.reads ++ bs)) (of_arms wild c arms)) (reads-arms arms))))

  -- by an equal selector and equal arms
  pub sum-arms : (x : FlatStmt) (wild : Bool) (c d : FlatExpr) (arms as' : List FlatArm) → x ≡ b.Case wild c arms → d ≡ c → as' ≡ arms →
      summary S x ≡ then_summary (looked_at ((reading S d).reads ++ label_reads S as')) (of_arms wild d as')
  sum-arms x wild c d arms as' e f g =
      sum-Case x wild c arms e ∙ (ap (λ (z : FlatExpr). then_summary (looked_at ((reading S z).reads ++ label_reads S arms)) (of_arms wild z arms)) (sym f) ∙
      ap (λ (z : List FlatArm). then_summary (looked_at ((reading S d).reads ++ label_reads S z)) (of_arms wild d z)) (sym g))

-- ---- the branches of an `if`

pub record Branch (p r : Summary) : Type 0 where
  pub sure : p.sure ≡ r.sure
  pub exposed : p.exposed ≡ r.exposed

pub branch-then : (c : Reading) (p r : Summary) → c.constant ≡ true → true ≡ is_met nowhere c → Branch (branch_summary c p r) p
branch-then c p r e f = let g = sym f in record { sure = rw e (rw g refl); exposed = rw e (rw g refl) }

pub branch-else : (c : Reading) (p r : Summary) → c.constant ≡ true → false ≡ is_met nowhere c → Branch (branch_summary c p r) r
branch-else c p r e f = let g = sym f in record { sure = rw e (rw g refl); exposed = rw e (rw g refl) }

pub branch-either : (c : Reading) (p r : Summary) → c.constant ≡ false → Branch (branch_summary c p r) (either_summary p r)
branch-either c p r e = record { sure = rw e refl; exposed = rw e refl }

pub branch-written : (c : Reading) (p r : Summary) → (branch_summary c p r).written ≡ p.written ++ r.written
branch-written c p r = by c.constant (is_met nowhere c) refl refl
  where
    by : (u v : Bool) → c.constant ≡ u → is_met nowhere c ≡ v → (branch_summary c p r).written ≡ p.written ++ r.written
    by true true e f = rw e (rw f refl)
    by true false e f = rw e (rw f refl)
    by false v e f = rw e refl

module _ (S : Signals) (w : Masks) where
  -- a condition, and then a branch
  pub walks-branch : {m n : Masks} {x y : List Span} {u v t : Bool} (z : FlatStmt) (c : Reading) (p r k : Summary) → summary S z ≡ if_summary c p r → Branch (branch_summary c p r) k →
      IsExposed S w m u v c.reads → Walks S w m n x y v t k → Walks S w m n x y u t (summary S z)
  walks-branch {m} {n} {x} {y} {u} {v} {t} z c p r k e h f g =
      subst (λ (s : Summary). Walks S w m n x y u t s) (sym e)
      (walks-behind S w c.reads (branch_summary c p r) f (walks-as S w k (branch_summary c p r) h.sure h.exposed g))

  -- a branch, and nothing in place of the other
  pub fork-one : {before now : Masks} {already v : Bool} {shared : Option (List Span)} (x : List Span) (p : Summary) → IsFork S w before now already v shared false (p ∷ []) →
      Walks S w before now x x already v (either_summary p nothing_done)
  fork-one {before} {now} {already} {v} x p f = record {
    done = λ q i t. f.kept q i ∙ sym (or-false (holds before q i));
    inside = λ d t. cc;
    exposed = λ W D hw hd. f.exposed W D hw hd ∙ ap (λ o. already || o) (or-false _ ∙ ap (λ bs. list_any (has_bit W) (filter (λ d. not (has_bit D d)) bs)) (sym (append-none p.exposed)));
    logged = record {
      more = [];
      same = sym (append-none x);
      all = λ q i. f.kept q i ∙ sym (or-false (holds before q i));
      apart = λ q i. never (holds before q i);
    };
  }
    where
      never : (h : Bool) → (h && false) ≡ false
      never true = refl
      never false = refl

-- ---- what is written

pub all-written : (ps : List Summary) → (all_summaries ps).written ≡ flat_map (λ (p : Summary). p.written) ps
all-written [] = refl
all-written (p ∷ ps) = ap (λ bs. p.written ++ bs) (all-written ps)

any-written : (ps : List Summary) → (any_summary ps).written ≡ flat_map (λ (p : Summary). p.written) ps
any-written [] = refl
any-written (p ∷ []) = sym (append-none p.written)
any-written (p ∷ r ∷ ps) = ap (λ bs. p.written ++ bs) (any-written (r ∷ ps))

none-written : (can : Bool) → flat_map (λ (p : Summary). p.written) (no_match_summary can) ≡ []
none-written true = refl
none-written false = refl

pub arms-written : (can : Bool) (ps : List Summary) → (any_summary (ps ++ no_match_summary can)).written ≡ flat_map (λ (p : Summary). p.written) ps
arms-written can ps =
    any-written (ps ++ no_match_summary can) ∙ (flat_map-append (λ (p : Summary). p.written) ps (no_match_summary can) ∙
    (ap (λ bs. flat_map (λ (p : Summary). p.written) ps ++ bs) (none-written can) ∙ append-none (flat_map (λ (p : Summary). p.written) ps)))

-- ---- single cells

module _ (S : Signals) where
  cell-none : (q : Cell) (k : ℕ) → q.0 ≡ k → is_cell S q ≡ true → is_cell S (k, None) ≡ true → q.1 ≡ None
  cell-none q k e hq hk = by (signal_at S k).array q.1
      (and-right (is_signal_sort (signal_at S k).sort) (is_element_in (signal_at S k).array None) hk)
      (ap (λ j. is_element_in (signal_at S j).array q.1) (sym e) ∙ and-right (is_signal_sort (signal_at S q.0).sort) (is_element_in (signal_at S q.0).array q.1) hq)
    where
      by : (o : Option Bounds) (el : Option ℕ) → is_element_in o None ≡ true → is_element_in o el ≡ true → el ≡ None
      by None None h g = refl
      by None (Some j) h g = cc
      by (Some d) el h g = cc

  pair : (q : Cell) (k : ℕ) (el : Option ℕ) → q.0 ≡ k → q.1 ≡ el → (k, el) ≡ q
  pair q k el e f = sym (ap (λ j. (j, q.1)) e ∙ ap (λ x. (k, x)) f)

  hit-same : (k : ℕ) (el : Option ℕ) (q : Cell) → (k, el) ≡ q → hits (k, el) q ≡ true
  hit-same k el q e = subst (λ (x : Cell). hits (k, el) x ≡ true) e (hit-key k el k refl)

  of-eq : (a c : ℕ) → (a == c) ≡ true → a ≡ c
  of-eq a c h = grind (arith, nat_tests)

  under-hit : (k : ℕ) (el : Option ℕ) (q : Cell) → is_cell S q ≡ true → is_cell S (k, el) ≡ true → is_under k el q ≡ true → hits (k, el) q ≡ true
  under-hit k None q hq hk u = let e : q.0 ≡ k = of-eq q.0 k u in hit-same k None q (pair q k None e (cell-none q k e hq hk))
  under-hit k (Some j) q hq hk u = hit-same k (Some j) q (same-of k j q u)

  hit-is : (k : ℕ) (el : Option ℕ) (q : Cell) → is_cell S q ≡ true → is_cell S (k, el) ≡ true → hits (k, el) q ≡ is_under k el q
  hit-is k el q hq hk = both _ _ (λ h. subst (λ (x : Cell). is_under k el x ≡ true) (same-cell (k, el) q h) (under-self k el)) (under-hit k el q hq hk)

  -- spans of single cells have the same bits as spans
  pub exact-same : (xs : List Span) → AreExact S xs → (q : Cell) (i : ℕ) → is_bit S q i ≡ true → cells_have xs q i ≡ spans_have xs q i
  exact-same [] h q i t = refl
  exact-same (s ∷ xs) h q i t =
      let P = λ (s : Span). is_cell S (s.signal, s.element) ≡ true in
      ap (λ u. (u && is_set s.mask i) || cells_have xs q i) (hit-is s.signal s.element q (and-left (is_cell S q) _ t) (All-head P s xs h)) ∙
      ap (λ u. (is_under s.signal s.element q && is_set s.mask i) || u) (exact-same xs (All-tail P s xs h) q i t)

  -- ---- what a target writes for sure

  abbrev sure_writes : List Piece → List Bit
  sure_writes ps = writes_of (filter (λ p. all_constant p.choices) ps)

  writes-more : (c : Bool) (p : Piece) (ps : List Piece) → all_constant p.choices ≡ c → (b : Bit) →
      has_bit (sure_writes (p ∷ ps)) b ≡ ((c && has_bit (bits_named (known p.declared) p.choices) b) || has_bit (sure_writes ps) b)
  writes-more true p ps e b = ap (λ u. has_bit (writes_of (cond u (p ∷ filter (λ p. all_constant p.choices) ps) (filter (λ p. all_constant p.choices) ps))) b) e ∙
      any-join (same_bit b) (bits_named (known p.declared) p.choices) (sure_writes ps)
  writes-more false p ps e b = ap (λ u. has_bit (writes_of (cond u (p ∷ filter (λ p. all_constant p.choices) ps) (filter (λ p. all_constant p.choices) ps))) b) e

  one-aim : (c : Bool) (p : Piece) (x : Aim) → x.sure ≡ c → IsAim S (aim_of p) x → (q : Cell) (i : ℕ) → is_bit S q i ≡ true →
      (x.sure && cells_have x.bits q i) ≡ (c && has_bit (bits_named (known p.declared) p.choices) (bit_of S q i))
  one-aim true p x e h q i t = ap (λ u. u && cells_have x.bits q i) e ∙ (exact-same x.bits (h.exact e) q i t ∙ h.bits.set.same q i t)
  one-aim false p x e h q i t = ap (λ u. u && cells_have x.bits q i) e

  pub aims-sure : (ps : List Piece) (xs : List Aim) → Each (IsAim S) (map aim_of ps) xs → (q : Cell) (i : ℕ) → is_bit S q i ≡ true →
      surely_have xs q i ≡ has_bit (sure_writes ps) (bit_of S q i)
  aims-sure [] [] h q i t = refl
  aims-sure [] (x ∷ xs) h q i t = absurd h
  aims-sure (p ∷ ps) [] h q i t = absurd h
  aims-sure (p ∷ ps) (x ∷ xs) h q i t =
      ap (λ u. u || surely_have xs q i) (one-aim (all_constant p.choices) p x h.0.sure h.0 q i t) ∙
      (ap (λ u. (all_constant p.choices && has_bit (bits_named (known p.declared) p.choices) (bit_of S q i)) || u) (aims-sure ps xs h.1 q i t) ∙
      sym (writes-more (all_constant p.choices) p ps refl (bit_of S q i)))

  pub aims-there : (ps : List Piece) (xs : List Aim) → Each (IsAim S) (map aim_of ps) xs → (b : Bit) → has_bit (sure_writes ps) b ≡ true → IsThere S b
  aims-there [] xs h b t = cc
  aims-there (p ∷ ps) [] h b t = absurd h
  aims-there (p ∷ ps) (x ∷ xs) h b t =
      elim (or-split (all_constant p.choices && has_bit (bits_named (known p.declared) p.choices) b) (has_bit (sure_writes ps) b) (sym (writes-more (all_constant p.choices) p ps refl b) ∙ t)) [
        | inl e ↦ h.0.bits.set.inside b (and-right (all_constant p.choices) (has_bit (bits_named (known p.declared) p.choices) b) e)
        | inr e ↦ aims-there ps xs h.1 b e
      ]

  pub write-walks : (w before after : Masks) (old new : List Span) (already v : Bool) (ps : List Piece) (x : Reading) (xs : List Aim) → Each (IsAim S) (map aim_of ps) xs →
      IsExposed S w before already v (x.reads ++ flat_map (λ (p : Piece). index_reads p.choices) ps) →
      ((q : Cell) (i : ℕ) → holds after q i ≡ (holds before q i || surely_have xs q i)) → IsLogged before after old new →
      Walks S w before after old new already v (write_summary ps x)
  write-walks w before after old new already v ps x xs h e d l = record {
    done = λ q i t. d q i ∙ ap (λ u. holds before q i || u) (aims-sure ps xs h q i t);
    inside = aims-there ps xs h;
    exposed = e;
    logged = l;
  }
