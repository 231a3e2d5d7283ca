use Rattle.std.proofs.Common.{sym, ◌∙◌, ap, if◌then◌else◌}
use Rattle.lv_ast.specs.Names.{is_keyword}
use Rattle.lv_ast.specs.declared.tokens.Kind.TheVariants.{Name, Word}
use Rattle.lv_lexer.proofs.scan.named.Goals as goal

pub returns-then-is_keyword : goal.returns-then-is_keyword
returns-then-is_keyword c = record {
  longest = c.in_ok-length.ensures;
  kind = sym (ap (λ b. if b then Word else Name) (ap is_keyword (sym c.prefix.ensures) ∙ (sym c.is_keyword.ensures ∙ c.if-is_keyword.true)));
}

pub returns-else-is_keyword : goal.returns-else-is_keyword
returns-else-is_keyword c = record {
  longest = c.in_ok-length.ensures;
  kind = sym (ap (λ b. if b then Word else Name) (ap is_keyword (sym c.prefix.ensures) ∙ (sym c.is_keyword.ensures ∙ c.if-is_keyword.false)));
}
