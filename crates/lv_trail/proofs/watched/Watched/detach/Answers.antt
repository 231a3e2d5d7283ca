use Rattle.std.proofs.Common.{◌<◌, length, refl, sym, ◌∙◌, ap, arith}
use Rattle.lv_clauses.specs.Literals.{negated}
use Rattle.lv_trail.specs.Store.{entries}
use Rattle.lv_trail.specs.Chains.{code}
use Rattle.lv_trail.proofs.Placing.{entries-length}
use Rattle.lv_trail.proofs.Visiting.{detached-visit}
use Rattle.lv_trail.proofs.watched.Watched.detach.Goals as goal

pub returns-clause-visit : goal.returns-clause-visit
returns-clause-visit c =
    let t = c.args.self.now in
    let w = c.requires.watched in
    let within : t.head < length (entries t.store) = omega (arith, c.requires.more, entries-length t.store w.sound) in
    let lit-is = c.negated-lit.ensures ∙ ap negated c.at.ensures in
    let at-level = c.level.ensures t.head within (sym (c.var.ensures.is ∙ ap (λ z. z.var) lit-is)) in
    detached-visit t _ c.list_of-list.result w c.requires.more (c.list_of-list.ensures ∙ ap code lit-is) refl
    (λ f. let p = c.is_loose-self.ensures f in (p.0, omega (arith, p.1, at-level))) refl refl c.detach-self.ensures.first c.detach-self.ensures.heads c.detach-self.ensures.slots
