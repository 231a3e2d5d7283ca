use Rattle.lv_print.proofs.ExprLaw.{printed_expr}
use Rattle.lv_print.proofs.print.print_expr.Goals as goal

pub returns-clause-reads_back : goal.returns-clause-reads_back
returns-clause-reads_back c = printed_expr c.args.tree.now c.text.result c.new-paper.result c.expr.new.paper c.new-paper.ensures c.in_ok-expr.ensures c.text.ensures.bytes c.text.ensures.bound
