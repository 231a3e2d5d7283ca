use Rattle.std.proofs.Common.{◌≡◌, ℕ, List, [], refl, ap, ◌∙◌}
use Rattle.lv_ast.specs.declared.expr.Path.{Path}
use Rattle.lv_ast.specs.declared.expr.PathStep.{PathStep}
use Rattle.lv_ast.specs.declared.expr.Select.{Select}
use Rattle.lv_ast.specs.declared.stmt.Ident.{Ident}
use Rattle.lv_grammar.specs.Rules as rules
use Rattle.lv_parser.proofs.Paths.{begin, through, then, last, refuse, refuse_last}
use Rattle.lv_parser.proofs.Fronts.{exit}
use Rattle.lv_parser.proofs.Instead.{instead}
use Rattle.lv_parser.proofs.exprs.named.Goals as goal

-- a name without steps
abbrev path_at : List PathStep → List ℕ × ℕ → Path
path_at steps parts = record { steps = steps; name = parts.0; place = parts.1 }

path_is : (i : Ident) (steps : List PathStep) (parts : List ℕ × ℕ) (ss : List Select) → steps ≡ [] → parts ≡ (i.name, i.place) → ◌≡◌ {A = Path × List Select} (path_at steps parts, ss) (rules.path_of i, ss)
path_is i steps parts ss e f = ap (λ t. (path_at t parts, ss)) e ∙ ap (λ q. (path_at [] q, ss)) f

pub returns-in_err-name-clause-answer : goal.returns-in_err-name-clause-answer
returns-in_err-name-clause-answer c = λ d. exit _ c.from_residual.ensures.1 (refuse (through (begin rules.named c.args.at refl)) (c.in_err-name.ensures.answer d) refl)

pub returns-in_err-selects-clause-answer : goal.returns-in_err-selects-clause-answer
returns-in_err-selects-clause-answer c = λ d.
    let w1 = then (through (begin rules.named c.args.at refl)) (c.in_ok-name.ensures.answer d) in
    exit _ c.from_residual-in_err-selects.ensures.1 (refuse_last w1 (c.in_err-selects.ensures.answer d))

pub returns-clause-answer : goal.returns-clause-answer
returns-clause-answer c = λ d.
    let w1 = then (through (begin rules.named c.args.at refl)) (c.in_ok-name.ensures.answer d) in
    instead (path_is c.in_ok-name.name c.new-steps.result c.into_parts-name.result c.in_ok-selects.selects c.new-steps.ensures c.into_parts-name.ensures)
    (last w1 (c.in_ok-selects.ensures.answer d))
