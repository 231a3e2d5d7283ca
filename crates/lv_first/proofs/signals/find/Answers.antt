use Rattle.std.proofs.Common.{refl, sym, ◌∙◌, ap, Some, length}
use Rattle.std.proofs.lemmas.Option.{slice_get_read}
use Rattle.lv_first.proofs.Numbering.{bytes_same}
use Rattle.lv_first.proofs.signals.find.Goals as goal

pub returns-then-eq : goal.returns-then-eq
returns-then-eq c =
    slice_get_read c.args.names.now (length c.args.names.now) c.loop-k.k c.index-names-k.result refl c.loop-k-test.true c.index-names-k.is ∙
    ap Some (sym (bytes_same c.args.name.now c.index-names-k.result (sym c.if-eq.ensures)))
