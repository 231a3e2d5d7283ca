use Rattle.std.proofs.Common.{rules, bit_or, bit_xor, ap, ℕ}
use Rattle.lv_spans.proofs.Added.{bit-added}
use Rattle.lv_paths.proofs.Masks.{logged-one}
use Rattle.lv_paths.proofs.done.add_span.Goals as goal

pub returns-clause-done : goal.returns-clause-done
returns-clause-done c = λ q i.
    bit-added c.args.done.now.entries c.insert.new.self.entries c.args.span.signal c.args.span.element c.args.span.mask _ (search rules) c.in_ok-insert.ensures.updates.0 q i

pub returns-clause-logged : goal.returns-clause-logged
returns-clause-logged c =
    logged-one c.args.done.now.entries c.args.span _ (ap (λ (x : ℕ). bit_xor (bit_or x c.args.span.mask) x) c.mask_of-own.ensures) c.insert.new.self.entries c.args.log.now c.push_some.new.into
    (bit-added c.args.done.now.entries c.insert.new.self.entries c.args.span.signal c.args.span.element c.args.span.mask _ (search rules) c.in_ok-insert.ensures.updates.0) c.in_ok-push_some.ensures
