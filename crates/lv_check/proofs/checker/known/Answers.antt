use Rattle.std.proofs.Common.{◌≡◌, ℕ, ◌+◌, ◌-◌, List, length, sym, arith, ap, ◌∙◌}
use Rattle.std.specs.Prelude.{slice_get}
use Rattle.lv_clauses.specs.Derivations.{Step, known_at}
use Rattle.lv_check.proofs.Known.{known-line, known-past, number}
use Rattle.lv_check.proofs.checker.known.Goals as goal
use Rattle.lv_clauses.specs.Literals.{Lit}

pub returns-then-at-k : goal.returns-then-at-k
returns-then-at-k c =
    let cs : List (List Lit) = c.args.set.now.clauses in
    let lines : List Step = c.args.derivation.now in
    let at : ℕ = c.args.id - c.len-2.result - 1 in
    let s : Step = c.line.result.now in
    let is : c.lits-then-at-k.result.now ≡ s.clause = c.lits-then-at-k.ensures.value ∙ c.clause-then-at-k.ensures in
    let sum : length cs + at ≡ c.args.id - 1 = omega (arith, c.len.ensures, c.len-2.ensures) in
    let a = known-line cs lines c.args.k at s (omega arith) c.line.ensures in
    rw is (number (known_at cs lines c.args.k) c.args.id (omega arith) ∙ (ap (slice_get (known_at cs lines c.args.k)) (sym sum) ∙ a), c.requires.earlier at s (omega arith) c.line.ensures)

pub returns : goal.returns
returns c =
    let cs : List (List Lit) = c.args.set.now.clauses in
    let lines : List Step = c.args.derivation.now in
    number (known_at cs lines c.args.k) c.args.id (omega arith) ∙ known-past cs lines c.args.k (c.args.id - 1) (omega arith) (omega (arith, c.len.ensures, c.len-2.ensures))
