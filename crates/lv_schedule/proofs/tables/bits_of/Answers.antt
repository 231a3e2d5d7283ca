use Rattle.std.proofs.Common.{◌<◌, ◌^◌, None, not, false, length, get_or, ap, sym, arith}
use Rattle.std.proofs.lemmas.Bool.{lt-ltb}
use Rattle.std.proofs.lemmas.List.{get_or_default}
use Rattle.lv_spans.specs.Sets.{has}
use Rattle.lv_schedule.specs.declared.drivers.Driver.{Driver}
use Rattle.lv_schedule.specs.Tables.{drives_bit, is_wide}
use Rattle.lv_schedule.proofs.Lists.{any_step}
use Rattle.lv_schedule.proofs.tables.bits_of.Goals as goal

pub loop-d-preserved : goal.loop-d-preserved
loop-d-preserved c =
    let l : c.loop-d.d-index < length c.args.drivers.now = omega arith in
    let none : Driver = record { part = 0; span = record { signal = 0; element = None; mask = 0 } } in
    let d : Driver = get_or c.args.drivers.now c.loop-d.d-index none in
    let m : d.span.mask < 2 ^ 128 = c.with_places.ensures.narrow in
    record {
      bits = λ q i. any_step (drives_bit q i) c.args.drivers.now c.loop-d.d-index d false (has c.loop-d.set q i) (has c.in_ok-set.set q i) l
          (get_or_default c.args.drivers.now c.loop-d.d-index none d l) (c.loop-d.invariant.bits q i) (c.in_ok-set.ensures.added q i);
      narrow = sym (any_step is_wide c.args.drivers.now c.loop-d.d-index d false false false l (get_or_default c.args.drivers.now c.loop-d.d-index none d l)
          (sym c.loop-d.invariant.narrow) (sym (ap not (lt-ltb d.span.mask (2 ^ 128) m))));
    }
