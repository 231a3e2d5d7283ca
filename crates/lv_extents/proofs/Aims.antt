-- Targets, by the form of the tree, and what is good of them.
use Rattle.std.proofs.Common.{◌≡◌, ℕ, zero, suc, ◌+◌, ◌<◌, Bool, true, List, [], ◌∷◌, ◌++◌, map, flat_map, take, length, get_or, sym, ◌∙◌, ap, arith}
use Rattle.std.specs.List.{list_all}
use Rattle.std.proofs.lemmas.List.{map-append}
use Rattle.std.proofs.lemmas.Grind.{flat_map-append}
use Rattle.lv_source.specs.Places.{Bit}
use Rattle.lv_source.specs.Meaning.{index_reads}
use Rattle.lv_source.specs.Effect.{Piece}
use Rattle.lv_source.specs.Views.{aim_of}
use Rattle.lv_source.specs.Parts.{is_declared_sort}
use Rattle.lv_source.proofs.Tests.{and-left, and-right}
use Rattle.lv_flat.specs.declared.expr.FlatSelect.{FlatSelect}
use Rattle.lv_flat.specs.declared.stmt.FlatName.{FlatName}
use Rattle.lv_flat.specs.declared.stmt.FlatTarget.{FlatTarget}
use Rattle.lv_flat.specs.declared.stmt.FlatTarget.TheVariants as t
use Rattle.lv_flat.specs.Signals.{Signals, signal_at}
use Rattle.lv_flat.specs.Judged.{good_selects, judge_select}
use Rattle.lv_flat.specs.Executing.{pieces}
use Rattle.lv_flat.specs.Good.{are_targets}
use Rattle.lv_flat.proofs.Targets.{pieces-Signal, pieces-Cat}
use Rattle.lv_flat.proofs.GoodParts.{targets-Signal, targets-Cat}
use Rattle.lv_extents.specs.Adds.{piece_of}
use Rattle.lv_extents.proofs.Lists.{flat-map-more}

pub good-all-at : {A : Type 0} (p : A → Bool) (xs : List A) (i : ℕ) (x : A) → i < length xs → x ≡ get_or xs i x → list_all (λ (b : Bool). b) (map p xs) ≡ true → p x ≡ true
good-all-at p [] i x lt h g = absurd (omega (arith, lt))
good-all-at p (y ∷ ys) zero x lt h g = ap p h ∙ and-left (p y) (list_all (λ (b : Bool). b) (map p ys)) g
good-all-at p (y ∷ ys) (suc i) x lt h g = good-all-at p ys i x (omega (arith, lt)) h (and-right (p y) (list_all (λ (b : Bool). b) (map p ys)) g)

module _ (S : Signals) where
  pub signal-target : (x : FlatTarget) (name : FlatName) (ss : List FlatSelect) → x ≡ t.Signal name ss → are_targets S x ≡ true →
      (is_declared_sort (signal_at S name.signal).sort ≡ true) × (good_selects (signal_at S name.signal) (map (judge_select S) ss) ≡ true)
  signal-target x name ss h g =
      let k = sym (ap (are_targets S) h ∙ targets-Signal S name ss) ∙ g in (
        and-left (is_declared_sort (signal_at S name.signal).sort) (good_selects (signal_at S name.signal) (map (judge_select S) ss)) k,
        and-right (is_declared_sort (signal_at S name.signal).sort) (good_selects (signal_at S name.signal) (map (judge_select S) ss)) k,
      )

  pub cat-target : (x : FlatTarget) (ts : List FlatTarget) → x ≡ t.Cat ts → are_targets S x ≡ true → list_all (λ (b : Bool). b) (map (are_targets S) ts) ≡ true
  cat-target x ts h g = sym (ap (are_targets S) h ∙ targets-Cat S ts) ∙ g

  pub signal-pieces : (x : FlatTarget) (name : FlatName) (ss : List FlatSelect) → x ≡ t.Signal name ss → pieces S x ≡ piece_of S name ss ∷ []
  signal-pieces x name ss h = ap (pieces S) h ∙ pieces-Signal S name ss

  pub cat-pieces : (x : FlatTarget) (ts : List FlatTarget) → x ≡ t.Cat ts → pieces S x ≡ flat_map (λ (ps : List Piece). ps) (map (pieces S) ts)
  cat-pieces x ts h = ap (pieces S) h ∙ pieces-Cat S ts

  abbrev all_pieces : List FlatTarget → List Piece
  all_pieces ts = flat_map (λ (ps : List Piece). ps) (map (pieces S) ts)

  pub aims-more : (ts : List FlatTarget) (i : ℕ) (x : FlatTarget) → i < length ts → x ≡ get_or ts i x →
      map aim_of (all_pieces (take (i + 1) ts)) ≡ map aim_of (all_pieces (take i ts)) ++ map aim_of (pieces S x)
  aims-more ts i x lt h = ap (map aim_of) (flat-map-more (λ (ps : List Piece). ps) (pieces S) ts i x lt h) ∙ map-append aim_of (all_pieces (take i ts)) (pieces S x)

  abbrev reads_of : List Piece → List Bit
  reads_of ps = flat_map (λ (p : Piece). index_reads p.choices) ps

  pub aim-reads-more : (ts : List FlatTarget) (i : ℕ) (x : FlatTarget) → i < length ts → x ≡ get_or ts i x →
      reads_of (all_pieces (take (i + 1) ts)) ≡ reads_of (all_pieces (take i ts)) ++ reads_of (pieces S x)
  aim-reads-more ts i x lt h = ap reads_of (flat-map-more (λ (ps : List Piece). ps) (pieces S) ts i x lt h) ∙ flat_map-append (λ (p : Piece). index_reads p.choices)
      (all_pieces (take i ts)) (pieces S x)
