use Rattle.std.proofs.Common.{◌≡◌, ℕ, ◌<◌, ◌&&◌, take, length}
use Rattle.std.specs.List.{list_any}
use Rattle.lv_extents.specs.Extents.{way_of}
use Rattle.lv_rules.specs.Drives.{is_marked, names, is_of}
use Rattle.lv_rules.proofs.marks.driven_by.Given as goal

abbrev pub invariant-loop-x : goal.invariant-loop-x
invariant-loop-x l = record {
  len : length l.marks.items ≡ l.count;
  marked : (s : ℕ) → s < l.count → is_marked l.marks.items s ≡ list_any (λ x. is_of l.class (way_of x.way) && names s x.drives) (take l.x-index l.extents);
}
