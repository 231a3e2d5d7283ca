use Rattle.lv_source.specs.Scopes.{here_at}
use Rattle.lv_source.specs.ScopeRules.{declaration_sites}
use Rattle.lv_late.proofs.CleanLaws.{clean-faultless}
use Rattle.lv_late.proofs.laws.sound_declarations_are_faultless.Goals as goal

pub returns : goal.returns
returns c = λ f ds k d h e. record {
  nodes = clean-faultless (here_at f.scope k) (declaration_sites f.scope.names d) (h.each k d e).own.clean;
  allowed = (h.each k d e).own.allowed;
}
