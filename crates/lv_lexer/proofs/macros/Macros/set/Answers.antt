use Rattle.std.proofs.Common.{ap, ◌∙◌, if◌then◌else◌}
use Rattle.std.specs.Str.{bytes_eq}
use Rattle.lv_lexer.specs.Tables.{flat, body_in}
use Rattle.lv_lexer.proofs.Tables.{found-set, found, flat_if}
use Rattle.lv_lexer.proofs.macros.Macros.set.Goals as goal

pub returns-in-Ok-insert-clause-ok : goal.returns-in-Ok-insert-clause-ok
returns-in-Ok-insert-clause-ok c = λ q.
    ap (λ es. flat (found (λ k. k.items) q es)) c.in-Ok-insert.ensures.entries
    ∙ (ap flat (found-set (λ k. k.items) c.args.self.now.bodies.entries c.in-Ok.key c.args.body q)
    ∙ (flat_if (bytes_eq c.in-Ok.key.items q) c.args.body _ ∙ ap (λ n. if bytes_eq n q then c.args.body else body_in c.args.self.now q) c.in-Ok.ensures.items))
