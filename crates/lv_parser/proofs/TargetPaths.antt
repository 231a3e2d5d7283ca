-- How targets are read.
use Rattle.std.proofs.Common.{◌≡◌, ℕ, suc, ◌-◌, ◌<◌, List, Bool, true, false, Result, Err, refl, ◌∙◌, ap, subst, codes, arith}
use Rattle.lv_ast.specs.declared.tokens.Token.{Token}
use Rattle.lv_ast.specs.declared.expr.Path.{Path as ExprPath}
use Rattle.lv_ast.specs.declared.expr.Select.{Select}
use Rattle.lv_ast.specs.declared.stmt.Target.{Target}
use Rattle.lv_ast.specs.declared.stmt.Target.TheVariants as target
use Rattle.lv_exprs.specs.declared.error.SyntaxError.{SyntaxError}
use Rattle.lv_exprs.specs.declared.error.SyntaxError.TheVariants as error
use Rattle.lv_grammars.specs.Grammar.{call, act}
use Rattle.lv_grammars.specs.Spelling.{Limit, most, allows, lowered, inside}
use Rattle.lv_grammars.proofs.Lists.{true_false}
use Rattle.lv_grammars.proofs.Readers.{Spelled}
use Rattle.lv_grammars.proofs.Rules.{call_none}
use Rattle.lv_grammar.specs.Lexemes.{Lexeme}
use Rattle.lv_grammar.specs.Leaves.{within}
use Rattle.lv_grammar.proofs.Settings.{setting}
use Rattle.lv_grammar.specs.Shapes.{Placed, Rule, base, stands}
use Rattle.lv_grammar.specs.Shapes as shapes
use Rattle.lv_grammar.specs.Rules as rules
use Rattle.lv_parser.specs.Answers.{from, placed, IsRead, AnswersTargets}
use Rattle.lv_parser.specs.Paths.{Path}
use Rattle.lv_parser.proofs.Paths.{begin, through, last, opens, other, absent}
use Rattle.lv_parser.proofs.Selects.{named_place}
use Rattle.lv_parser.proofs.StatementPaths.{ruled, none_inside, to_first, to_other}

suc_of : (n : ℕ) → 0 < n → n ≡ suc (n - 1)
suc_of n h = omega arith

-- one target more may nest
pub target_within : (text : List ℕ) (tokens : List Token) (n : ℕ) (at : ℕ) (v : Result (Placed Target × ℕ) SyntaxError) → 0 < n → AnswersTargets (n - 1) text tokens rules.target_rule at v →
    AnswersTargets n text tokens (call shapes.target) at v
target_within text tokens n at v h q = λ d e.
    let g : d 0 ≡ most (suc (n - 1)) = e ∙ ap most (suc_of n h) in
    ruled text tokens d shapes.target at (ap allows g) v (q (inside 0 d) (ap lowered g))

module _ (text : List ℕ) (tokens : List Token) (d : ℕ → Limit) (at : ℕ) where
  pub joined_next : stands (shapes.mark (codes "{")) (from text tokens at) ≡ true → Path text tokens d rules.target_rule at rules.joined at (λ y. y)
  joined_next e = to_first (begin rules.target_rule at refl) (other text tokens (act rules.named_target rules.named) at (shapes.mark (codes "{")) refl e)

  pub named_next : stands (shapes.mark (codes "{")) (from text tokens at) ≡ false → Path text tokens d rules.target_rule at rules.named at rules.named_target
  named_next e = through (to_other (begin rules.target_rule at refl) (absent text tokens rules.joined at (shapes.mark (codes "{")) refl e))

  pub named_target_read : {p : ExprPath} {ss : List Select} {end : ℕ} → stands (shapes.mark (codes "{")) (from text tokens at) ≡ false → IsRead text tokens d rules.named at (p, ss) end →
      IsRead text tokens d rules.target_rule at (placed text tokens at (target.Name p ss)) end
  named_target_read {p} {ss} {end} e r =
      subst (λ n. IsRead text tokens d rules.target_rule at (record { tree = target.Name p ss; place = n }) end) (named_place r) (last (named_next e) r)

-- no other may nest in it
abbrev not_target : Rule → Bool
not_target shapes.target = false
not_target _ = true

pub target_last : (text : List ℕ) (tokens : List Token) (n : ℕ) (at : ℕ) → n ≡ 1 → stands (shapes.mark (codes "{")) (from text tokens at) ≡ true → AnswersTargets n text tokens (call shapes.target) at (Err (error.Depth at))
target_last text tokens n at z e = λ d f.
    let one_left : d 0 ≡ most 1 = f ∙ ap most z in
    none_inside shapes.target rules.joined not_target at (ap allows one_left) (joined_next text tokens (inside 0 d) at e) (opens text tokens rules.joined at 0 (shapes.mark (codes "{")) refl e)
    (no_target text d one_left) refl
  where
    no_target : (text : List ℕ) (d : ℕ → Limit) → d 0 ≡ most 1 → (q : Rule) → not_target q ≡ false → (us : List Lexeme) → Spelled base (within text (inside 0 d)) (call q) us → ⊥
    no_target text d o shapes.target e us c = call_none (setting text (inside 0 d)).within shapes.target (ap (λ l. allows (lowered l)) o) us c
    no_target text d o shapes.stmt e us c = true_false true refl e
    no_target text d o shapes.item e us c = true_false true refl e
    no_target text d o shapes.block_item e us c = true_false true refl e
