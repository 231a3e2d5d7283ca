-- Words moved to the left or to the right.
use Rattle.std.specs.Prelude.{ℕ, ◌-◌, min, List, ◌++◌, length, take, drop, replicate}
use Rattle.lv_circuits.specs.declared.shifts.Way.{Way}
use Rattle.lv_circuits.specs.declared.shifts.Way.TheVariants.{Left, Right}

-- the list, lowest bit first, moved by n places, with f in the places that become free
abbrev pub moved : {A : Type 0} → Way → A → ℕ → List A → List A
moved Left f n xs = replicate (min n (length xs)) f ++ take (length xs - n) xs
moved Right f n xs = drop n xs ++ replicate (min n (length xs)) f
