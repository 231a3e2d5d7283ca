use Rattle.std.proofs.Common.{◌≡◌, ℕ, ◌+◌, ◌*◌, ◌<◌, ◌≤◌, Bool, false, List, length, take, get_or, ap, sym, ◌∙◌, arith}
use Rattle.std.proofs.lemmas.List.{length-map, get_or-map, get_or_default}
use Rattle.lv_source.specs.Names.{Declared}
use Rattle.lv_flat.specs.Signals.{Signals, declared, declared_all}
use Rattle.lv_lower.specs.Bits.{bits_if, bits_of}
use Rattle.lv_lower.proofs.Counting.{bits-more}
use Rattle.lv_lower.proofs.state.state_bits.Goals as goal

pub loop-k-preserved : goal.loop-k-preserved
loop-k-preserved c =
    let S : Signals = declared_all c.args.signals.now in
    let fs : List Bool = c.args.registers.now in
    let k : ℕ = c.loop-k.k in
    let d : Declared = declared c.index-signals-k.result in
    let below : k < length c.args.signals.now = c.loop-k-test.true in
    let many : length fs ≡ length c.args.signals.now = c.requires in
    let count : length S ≡ length c.args.signals.now = length-map c.args.signals.now declared in
    let h : k < length fs = omega arith in
    let l : k < length S = omega arith in
    let f : Bool = get_or fs k false in
    let m : bits_of (take (k + 1) fs) (take (k + 1) S) ≡ bits_of (take k fs) (take k S) + bits_if f d =
    bits-more fs S k f d h l (get_or_default fs k false f h) (ap declared c.index-signals-k.is ∙ sym (get_or-map declared c.args.signals.now k c.index-signals-k.result d below)) in
    record {
      is = ap (λ n. n + c.bits_if-sum.result) c.loop-k.invariant.is ∙ (ap (λ n. bits_of (take k fs) (take k S) + n) c.bits_if-sum.ensures.is ∙ sym m);
      most = (let a : c.loop-k.sum ≤ 549755813888 * c.loop-k.k = c.loop-k.invariant.most in let b : c.bits_if-sum.result ≤ 549755813888 = c.bits_if-sum.ensures.most in omega arith);
    }
