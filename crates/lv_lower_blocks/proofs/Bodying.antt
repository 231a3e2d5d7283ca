-- What blocks leave, from what their statements leave of two tables.
use Rattle.std.proofs.Common.{◌≡◌, ℕ, inl, inr, true, List, [], length, sym, ◌∙◌, ap, subst, arith}
use Rattle.std.specs.List.{list_all}
use Rattle.std.proofs.lemmas.Bool.{cases_lt}
use Rattle.lv_netlist.specs.Net.{Net}
use Rattle.lv_source.specs.Names.{Valuation}
use Rattle.lv_source.specs.Effect.{State}
use Rattle.lv_source.specs.Flow.{Event}
use Rattle.lv_flat.specs.declared.stmt.FlatStmt.{FlatStmt}
use Rattle.lv_flat.specs.Cells.{Cell}
use Rattle.lv_flat.specs.Signals.{Signals}
use Rattle.lv_flat.specs.Flows.{flow}
use Rattle.lv_lower_exprs.specs.Tables.{IsTable, Shows}
use Rattle.lv_lower_blocks.specs.Rewritten.{MayBeTable}
use Rattle.lv_lower_blocks.specs.Running.{Runs, keeps_writes, Settles, Clocks}
use Rattle.lv_lower_blocks.proofs.Leaving.{keeps-valuation, left-at-once}

pub no-table : {net : Net} {cells : List Cell} (t : List ℕ) → t ≡ [] → MayBeTable net cells t
no-table t e = record { is = λ l. absurd (let n = ap length e in omega (arith, n, l)) }

pub is-table : {net : Net} {cells : List Cell} {t : List ℕ} → IsTable net cells t → MayBeTable net cells t
is-table h = record { is = λ l. h }

module _ {cells : List Cell} (S : Signals) (s : FlatStmt) where
  pub settles : {old new : Net} {now done now' done' : List ℕ} → list_all (λ (e : Event). e.at_once) (flow S s).events ≡ true →
      Runs old new cells now done now' done' (λ st. keeps_writes S s st) → Settles old new S cells now now' s
  settles {now' = now'} h r = record {
    grows = r.grows;
    table = r.table;
    is = λ w v o x.
        let st : State = record { valuation = v; pending = [] } in
        subst (λ (z : Valuation). Shows w cells now' z) (keeps-valuation S s st ∙ sym (left-at-once S s v h)) (r.shows w st o x);
  }

  pub clocks : {old new : Net} {now done now' done' : List ℕ} → IsTable old cells done → Runs old new cells now done now' done' (λ st. keeps_writes S s st) → Clocks old new S cells now done done' s
  clocks {old} {new} {now} {done} {now'} {done'} t r = record {
    grows = r.grows;
    table = elim (cases_lt 0 (length done)) [
      | inl l ↦ r.rest.is (omega (arith, r.count, l))
      | inr e ↦ record {
        count = r.count ∙ t.count;
        within = λ i lt. absurd (omega (arith, t.count, e, lt));
        widths = λ i lt. absurd (omega (arith, t.count, e, lt));
      }
    ];
    is = λ w v u o x y. elim (cases_lt 0 (length done)) [
      | inl l ↦ r.leaves w (record { valuation = v; pending = [] }) u o x (omega (arith, l)) y
      | inr e ↦ record { is = λ i lt. absurd (omega (arith, t.count, e, lt)) }
    ];
  }
