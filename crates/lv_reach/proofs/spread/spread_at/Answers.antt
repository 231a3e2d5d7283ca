use Rattle.std.proofs.Common.{◌≡◌, sym, ap, ◌∙◌, Some}
use Rattle.std.specs.Prelude.{slice_get}
use Rattle.std.proofs.lemmas.Option.{slice_get_past, slice_get-get_or}
use Rattle.lv_extents.specs.declared.extent.Extent.{Extent}
use Rattle.lv_reach.proofs.Spreading.{FoundView, spread-none, spread-some, found-view}
use Rattle.lv_reach.proofs.spread.spread_at.Goals as goal

pub returns-in-None : goal.returns-in-None
returns-in-None c = λ S vs h w.
    spread-none S vs c.args.k c.args.set c.args.extents.now h (slice_get_past c.args.extents.now c.args.k c.in-None.ensures.lookup.3) w

pub returns-in_ok-made-in-Some : goal.returns-in_ok-made-in-Some
returns-in_ok-made-in-Some c = λ S vs h w.
    let x : Extent = c.in-Some.x.now in
    let e : slice_get c.args.extents.now c.args.k ≡ Some x =
    slice_get-get_or c.args.extents.now c.args.k x c.in-Some.ensures.lookup.3.0 ∙ ap (λ (z : Extent). Some z) (sym c.in-Some.ensures.lookup.1) in
    let v : FoundView S vs x c.args.k = found-view S vs c.args.extents.now h c.args.k x e in
    spread-some S vs c.args.k c.args.set c.args.extents.now x c.in_ok-made-in-Some.made h e (c.in_ok-made-in-Some.ensures S w v.2.reads.each v.2.drives.each)
