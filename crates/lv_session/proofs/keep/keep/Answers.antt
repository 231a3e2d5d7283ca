use Rattle.std.proofs.Common.{ℕ, ◌≡◌, ◌+◌, [], ◌∷◌, ◌++◌, List, length, arith, sym, ◌∙◌, ap, subst, length-append}
use Rattle.std.specs.Prelude.{Bool, IsTrue}
use Rattle.lv_clauses.specs.Literals.{has}
use Rattle.lv_clauses.specs.Derivations.{Step}
use Rattle.lv_session.specs.Keeping.{RestsOn, AreRows, AreResting}
use Rattle.lv_session.proofs.Keeping.{line-rests-by, rests-wider, rows-push, resting-push, wider-both}
use Rattle.lv_session.proofs.keep.keep.Goals as goal

pub add_line-requires-clause-line : goal.add_line-requires-clause-line
add_line-requires-clause-line c = λ l i.
    let s : Step = c.line-line.result.now in
    let w = (c.requires.derivation c.loop-k.k s c.line-line.ensures).within l (subst (λ z. IsTrue (has z l)) (c.lits-lits.ensures.value ∙ c.clause.ensures) i) in
    (w.0, omega (arith, w.1, c.loop-k.invariant.wider.vars))

pub add_line-requires-clause-rests : goal.add_line-requires-clause-rests
add_line-requires-clause-rests c =
    let set = c.args.set.now in
    let lits = c.args.assumed.now in
    let s : Step = c.line-line.result.now in
    let inv = c.loop-k.invariant in
    let r = line-rests-by set lits c.args.log.now c.loop-k.rows.items c.as_slice.result.now c.loop-k.k c.len-n.result s c.hints.result.now c.in_ok-row.row
    inv.count c.line-line.ensures c.requires.derivation inv.resting c.len-n.ensures c.as_slice.ensures.value c.hints.ensures c.in_ok-row.ensures.uses in
    rests-wider set c.loop-k.set lits c.lits-lits.result.now c.in_ok-row.row inv.wider (subst (λ z. RestsOn set lits z c.in_ok-row.row) (sym (c.lits-lits.ensures.value ∙ c.clause.ensures)) r)

pub loop-k-preserved : goal.loop-k-preserved
loop-k-preserved c =
    let set = c.args.set.now in
    let lits = c.args.assumed.now in
    let log = c.args.log.now in
    let k : ℕ = c.loop-k.k in
    let s : Step = c.line-line.result.now in
    let row : List Bool = c.in_ok-row.row in
    let rows : List (List Bool) = c.loop-k.rows.items in
    let inv = c.loop-k.invariant in
    let r = line-rests-by set lits log rows c.as_slice.result.now k c.len-n.result s c.hints.result.now row
    inv.count c.line-line.ensures c.requires.derivation inv.resting c.len-n.ensures c.as_slice.ensures.value c.hints.ensures c.in_ok-row.ensures.uses in
    let items : c.push_reserved.new.self.items ≡ rows ++ row ∷ [] = c.push_reserved.ensures.items ∙ ap (λ z. z ++ row ∷ []) c.reserve.ensures.items in
    record {
      wider = wider-both set c.loop-k.set c.add_line.new.set inv.wider c.add_line.ensures;
      rows = subst (λ z. AreRows (length lits) z) (sym items) (rows-push (length lits) rows row inv.rows c.in_ok-row.ensures.len);
      count = ap length items ∙ (length-append rows (row ∷ []) ∙ ap (λ z. z + 1) inv.count);
      resting = subst (λ z. AreResting set lits log z) (sym items) (resting-push set lits log rows k s row inv.count c.line-line.ensures inv.resting r);
    }

pub returns-clause-rows : goal.returns-clause-rows
returns-clause-rows c =
    let end : c.loop-k.k ≡ length c.args.log.now = omega arith in
    record { count = c.loop-k.invariant.count ∙ end; long = c.loop-k.invariant.rows; resting = c.loop-k.invariant.resting }
