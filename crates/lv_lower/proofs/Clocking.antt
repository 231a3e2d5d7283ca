-- Parts with a clock on a second table, one more at a time.
use Rattle.std.proofs.Common.{◌≡◌, ℕ, ◌+◌, ◌<◌, List, [], ◌∷◌, ◌++◌, length, take, refl, sym, ap, ◌∙◌, subst, get_or}
use Rattle.std.proofs.lemmas.List.{take_more}
use Rattle.lv_source.specs.Names.{Valuation}
use Rattle.lv_netlist.specs.Net.{Net}
use Rattle.lv_flat.specs.declared.part.FlatBody.{FlatBody}
use Rattle.lv_flat.specs.declared.part.FlatBody.TheVariants as b
use Rattle.lv_flat.specs.declared.part.FlatPart.{FlatPart}
use Rattle.lv_flat.specs.declared.stmt.FlatName.{FlatName}
use Rattle.lv_flat.specs.declared.stmt.FlatStmt.{FlatStmt}
use Rattle.lv_flat.specs.declared.stmt.FlatTarget.{FlatTarget}
use Rattle.lv_flat.specs.declared.expr.FlatExpr.{FlatExpr}
use Rattle.lv_flat.specs.Cells.{all_cells, AreDistinct}
use Rattle.lv_flat.specs.FlatViews.{flat_views}
use Rattle.lv_flat.specs.Signals.{Signals}
use Rattle.lv_values.proofs.Growth.{grows-refl, grows-trans, obeys-before}
use Rattle.lv_lower_exprs.specs.Tables.{IsTable, Shows}
use Rattle.lv_lower_blocks.specs.Running.{Clocks}
use Rattle.lv_settles.specs.Rules.{AreRight, signals_in}
use Rattle.lv_overlays.specs.Writes.{writes_on, all_writes_on}
use Rattle.lv_overlays.proofs.Overlays.{writes_next}
use Rattle.lv_lower.specs.Started.{valuation_of}
use Rattle.lv_lower.specs.Clocking.{Overwrites, Follows}
use Rattle.lv_lower.specs.Lowered.{LeavesNext}
use Rattle.lv_lower.proofs.Valuations.{shows-own}

pub overwrites-none : (net : Net) (S : Signals) (table done : List ℕ) → IsTable net (all_cells S) done → Overwrites net net S table done done (λ v u. u)
overwrites-none net S table done t = record { grows = grows-refl net; table_is = t; is = λ w v u o s d. d }

pub overwrites-assign : (net : Net) (S : Signals) (table done : List ℕ) (body : FlatBody) (t : FlatTarget) (x : FlatExpr) → body ≡ b.Assign t x → IsTable net (all_cells S) done →
    Overwrites net net S table done done (writes_on S body)
overwrites-assign net S table done body t x e d = subst (λ (y : FlatBody). Overwrites net net S table done done (writes_on S y)) (sym e) (overwrites-none net S table done d)

pub overwrites-combinational : (net : Net) (S : Signals) (table done : List ℕ) (body : FlatBody) (s : FlatStmt) → body ≡ b.Combinational s → IsTable net (all_cells S) done →
    Overwrites net net S table done done (writes_on S body)
overwrites-combinational net S table done body s e d = subst (λ (y : FlatBody). Overwrites net net S table done done (writes_on S y)) (sym e) (overwrites-none net S table done d)

pub overwrites-clocked : (old new : Net) (S : Signals) (table before after' : List ℕ) (body : FlatBody) (c : FlatName) (s : FlatStmt) → body ≡ b.Clocked c s →
    Clocks old new S (all_cells S) table before after' s → Overwrites old new S table before after' (writes_on S body)
overwrites-clocked old new S table before after' body c s e h =
    subst (λ (y : FlatBody). Overwrites old new S table before after' (writes_on S y)) (sym e) (record { grows = h.grows; table_is = h.table; is = h.is })

writes-join : (S : Signals) (xs ys : List FlatPart) (v u : Valuation) → all_writes_on S (xs ++ ys) v u ≡ all_writes_on S ys v (all_writes_on S xs v u)
writes-join S [] ys v u = refl
writes-join S (x ∷ xs) ys v u = writes-join S xs ys v (writes_on S x.body v u)

pub overwrites-more : (old mid new : Net) (S : Signals) (table before between after' : List ℕ) (ps : List FlatPart) (i : ℕ) (p : FlatPart) → i < length ps → p ≡ get_or ps i p →
    Overwrites old mid S table before between (all_writes_on S (take i ps)) → Overwrites mid new S table between after' (writes_on S p.body) →
    Overwrites old new S table before after' (all_writes_on S (take (i + 1) ps))
overwrites-more old mid new S table before between after' ps i p h e x y = record {
  grows = grows-trans old mid new x.grows y.grows;
  table_is = y.table_is;
  is = λ w v u o s d.
      (let all : all_writes_on S (take (i + 1) ps) v u ≡ writes_on S p.body v (all_writes_on S (take i ps) v u) =
      ap (λ (qs : List FlatPart). all_writes_on S qs v u) (take_more ps i p h ∙ ap (λ z. take i ps ++ z ∷ []) (sym e)) ∙ writes-join S (take i ps) (p ∷ []) v u in
      subst (λ (t : Valuation). Shows w (all_cells S) after' t) (sym all) (y.is w v (all_writes_on S (take i ps) v u) o s (x.is w v u (obeys-before mid new w y.grows o) s d)));
}

-- a table that begins as the one that is read
pub follows : (old new : Net) (S : Signals) (table done : List ℕ) (f : Valuation → Valuation → Valuation) → Overwrites old new S table table done f → Follows old new S table done (λ v. f v v)
follows old new S table done f h = record { grows = h.grows; table_is = h.table_is; is = λ w v o s. h.is w v v o s s }

-- it is the next state
pub leaves-next : (old new : Net) (S : Signals) (ps : List FlatPart) (table done : List ℕ) → AreDistinct (all_cells S) → AreRight (signals_in S) (flat_views S ps) → IsTable new (all_cells S) table →
    Follows old new S table done (λ v. all_writes_on S ps v v) → LeavesNext S (flat_views S ps) new table done
leaves-next old new S ps table done distinct right t h = record {
  is = λ w o.
      (let v : Valuation = valuation_of w (all_cells S) table in
      (all_writes_on S ps v v, h.is w v o (shows-own w (all_cells S) table distinct t.count), writes_next S v ps distinct right));
}
