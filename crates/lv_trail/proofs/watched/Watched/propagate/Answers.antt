use Rattle.std.proofs.Common.{◌∙◌, sym, ap, length}
use Rattle.lv_trail.proofs.Growing.{grown-more}
use Rattle.lv_trail.proofs.Turning.{all-closed}
use Rattle.lv_trail.proofs.watched.Watched.propagate.Goals as goal

pub returns-in-Falsified-follow-clause-grown : goal.returns-in-Falsified-follow-clause-grown
returns-in-Falsified-follow-clause-grown c = grown-more c.args.self.now.store c.loop-self.self.store c.follow.new.self.store c.loop-self.invariant.grown c.follow.ensures.grown

pub loop-self-preserved : goal.loop-self-preserved
loop-self-preserved c =
    let inv = c.loop-self.invariant in
    let e = c.follow.ensures in
    record {
      watched = e.watched;
      grown = grown-more c.args.self.now.store c.loop-self.self.store c.follow.new.self.store inv.grown e.grown;
      all = e.checked ∙ (inv.all ∙ ap length (sym e.grown.same.1));
    }

pub returns-clause-reached : goal.returns-clause-reached
returns-clause-reached c = all-closed c.loop-self.self c.loop-self.invariant.watched c.loop-self.invariant.all c.loop-self-test.false
