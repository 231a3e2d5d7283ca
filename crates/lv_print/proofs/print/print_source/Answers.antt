use Rattle.std.proofs.Common.{ap, ◌∙◌, map}
use Rattle.lv_print.specs.Written.{joined}
use Rattle.lv_print.specs.Sources.{module_tokens}
use Rattle.lv_print.specs.Paper.{with_tokens}
use Rattle.lv_print.proofs.SourceLaw.{printed_source}
use Rattle.lv_print.proofs.print.print_source.Goals as goal

pub returns-clause-reads_back : goal.returns-clause-reads_back
returns-clause-reads_back c =
    printed_source c.args.source.now c.text.result c.new-paper.result c.modules.new.paper c.new-paper.ensures
    (c.in_ok-modules.ensures ∙ ap (λ z. with_tokens c.new-paper.result (joined (map module_tokens z))) c.as_slice.ensures) c.text.ensures.bytes c.text.ensures.bound
