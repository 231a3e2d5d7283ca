use Rattle.std.proofs.Common.{refl, sym, ◌∙◌, subst}
use Rattle.lv_trail.specs.Store.{IsGrown}
use Rattle.lv_trail.proofs.Growing.{grown-more}
use Rattle.lv_trail.proofs.Visiting.{advanced}
use Rattle.lv_trail.proofs.watched.Watched.follow.Goals as goal

pub returns-in-Falsified-clause-grown : goal.returns-in-Falsified-clause-grown
returns-in-Falsified-clause-grown c =
    let t = c.args.self.now in
    subst (λ z. IsGrown t.store z) (sym c.restore.ensures.store) (grown-more t.store c.loop-self.self.store c.look.new.self.store c.loop-self.invariant.grown c.look.ensures.grown)

pub loop-self-preserved : goal.loop-self-preserved
loop-self-preserved c =
    let inv = c.loop-self.invariant in
    record {
      visit = c.look.ensures.visit;
      grown = grown-more c.args.self.now.store c.loop-self.self.store c.look.new.self.store inv.grown c.look.ensures.grown;
      checked = c.look.ensures.checked ∙ inv.checked;
      head = c.look.ensures.head ∙ inv.head;
    }

pub returns-clause-watched : goal.returns-clause-watched
returns-clause-watched c = advanced c.loop-self.self _ c.detach-list.result c.loop-self.invariant.visit c.loop-self-test.false refl refl refl refl refl
