use Rattle.std.proofs.Common.{◌≡◌, true}
use Rattle.lv_product.specs.Trimming.{is_ready}
use Rattle.lv_product.proofs.Trimmed.{node_copied}
use Rattle.lv_product.proofs.trim.copied_inner.Goals as goal

pub returns : goal.returns
returns c =
    let ready : is_ready c.args.table.now c.args.node ≡ true = cc (c.is_ready.ensures, c.if-not-is_ready.false) in
    node_copied c.args.whole.now c.args.b.now c.add.new.b c.args.k c.in_ok-at.at c.args.table.now c.args.node c.moved-copy.result
    c.requires.within c.requires.table c.moved-copy.ensures c.requires.node c.requires.typed ready c.in_ok-at.ensures
