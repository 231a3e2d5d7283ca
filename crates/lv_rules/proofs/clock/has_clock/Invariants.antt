use Rattle.std.proofs.Common.{◌≡◌, ◌&&◌, false, take}
use Rattle.std.specs.Prelude.{bytes_eq}
use Rattle.std.specs.List.{list_any}
use Rattle.lv_source.specs.Names.{is_clock_sort}
use Rattle.lv_flat.specs.Signals.{sort_of}
use Rattle.lv_rules.proofs.clock.has_clock.Given as goal

abbrev pub invariant-loop-s : goal.invariant-loop-s
invariant-loop-s l = list_any (λ s. is_clock_sort (sort_of s.sort) && bytes_eq s.path l.path) (take l.s-index l.signals) ≡ false
