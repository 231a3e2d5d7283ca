use Rattle.lv_trail.proofs.Growing.{grown-more}
use Rattle.lv_trail.proofs.watched.Watched.look_at_rest.Goals as goal

pub returns-in-Falsified-clause-grown : goal.returns-in-Falsified-clause-grown
returns-in-Falsified-clause-grown c = grown-more c.args.self.now.store c.loop-self.self.store c.look_at_next.new.self.store c.loop-self.invariant.grown c.look_at_next.ensures.grown

pub loop-self-preserved : goal.loop-self-preserved
loop-self-preserved c = record {
  watched = c.look_at_next.ensures.watched;
  grown = grown-more c.args.self.now.store c.loop-self.self.store c.look_at_next.new.self.store c.loop-self.invariant.grown c.look_at_next.ensures.grown;
}
