use Rattle.std.proofs.Common.{get_or, take, sym, ◌∙◌, ap, arith, inl, inr}
use Rattle.std.proofs.lemmas.Bool.{cases_eq}
use Rattle.std.proofs.lemmas.List.{take-take}
use Rattle.lv_trail.specs.Trail.{no_entry}
use Rattle.lv_trail.proofs.store.Store.back.Goals as goal

pub loop-self-preserved : goal.loop-self-preserved
loop-self-preserved c =
    let inv = c.loop-self.invariant in
    let p = c.pop.ensures in
    let t = c.loop-self.self in
    record {
      sound = p.sound;
      same = (p.vars ∙ inv.same.0, p.clauses ∙ inv.same.1);
      slots = p.slots ∙ inv.slots;
      len = omega (arith, p.len, inv.len);
      level = omega (arith, p.fall);
      last = p.sound.below;
      gone = λ k h b.
          elim (cases_eq k c.pop.new.self.len) [
            | inr ne ↦ inv.gone k (omega (arith, p.len)) b
            | inl is ↦
                let top = inv.sound.top k (omega (arith, p.len)) in
                omega (arith, ap (λ z. (get_or z k no_entry).level) inv.slots, top)
          ];
    }

pub returns : goal.returns
returns c =
    let inv = c.loop-self.invariant in
    record {
      sound = inv.sound;
      same = inv.same;
      len = inv.len;
      prefix = ap (take c.loop-self.self.len) inv.slots ∙ sym (take-take c.loop-self.self.len c.args.self.now.len c.args.self.now.slots.items inv.len);
      level = omega (arith, inv.level);
      kept = λ k h. omega (arith, inv.last k h, ap (λ z. (get_or z k no_entry).level) inv.slots);
      gone = inv.gone;
    }
