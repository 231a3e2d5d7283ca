use Rattle.std.proofs.Common.{◌≡◌, ◌≢◌, ◌∙◌, bytes_eq, true, false, sym, arith}
use Rattle.lv_io.proofs.Lookup.{found_here, passed_more, same_from_eq, differ_from_eq}
use Rattle.lv_io.proofs.mem_shelf.place_of.Goals as goal

pub returns-then-eq : goal.returns-then-eq
returns-then-eq c =
    let e : bytes_eq c.bytes.result.now c.args.name.now ≡ true = sym c.eq.ensures ∙ c.if-eq.true in
    found_here _ _ _ c.index-files-place.result (omega arith) c.index-files-place.is
    (sym c.bytes.ensures ∙ same_from_eq _ _ e) c.loop-place.invariant

pub loop-place-preserved : goal.loop-place-preserved
loop-place-preserved c =
    let e : bytes_eq c.bytes.result.now c.args.name.now ≡ false = sym c.eq.ensures ∙ c.if-eq.false in
    let ne : c.bytes.result.now ≢ c.args.name.now = differ_from_eq _ _ e in
    passed_more _ _ _ c.index-files-place.result (omega arith) c.index-files-place.is
    (λ same. ne (c.bytes.ensures ∙ same)) c.loop-place.invariant
