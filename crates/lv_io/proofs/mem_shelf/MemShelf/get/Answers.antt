use Rattle.std.proofs.Common.{◌∙◌, arith}
use Rattle.lv_io.specs.MemFiles.{StandsAt}
use Rattle.lv_io.proofs.Lookup.{lookup_at, stands_within}
use Rattle.lv_io.proofs.mem_shelf.MemShelf.get.Goals as goal

pub index-requires : goal.index-requires
index-requires c = omega (arith, stands_within _ _ _ c.in_ok-place.ensures)

pub returns : goal.returns
returns c =
    let stands : StandsAt c.args.self.now.files.items c.args.name.now c.in_ok-place.place =
    rw (← c.deref.ensures.value, ← c.bytes.ensures) c.in_ok-place.ensures in
    lookup_at c.args.self.now.files.items _ _ c.index.result.now stands c.index.ensures ∙ rw c.bytes-2.ensures
