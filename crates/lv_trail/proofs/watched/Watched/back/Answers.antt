use Rattle.std.proofs.Common.{◌≡◌, false, refl, sym, ◌∙◌, ap, subst, arith}
use Rattle.lv_trail.specs.declared.watched.Watched.{Watched}
use Rattle.lv_trail.specs.Watches.{IsWatched}
use Rattle.lv_trail.proofs.Turning.{cut-watched}
use Rattle.lv_trail.proofs.watched.Watched.back.Goals as goal
use Rattle.lv_trail.proofs.watched.Watched.back.Goals.{then-self, else-self}

pub returns-else-self-2-clause-watched : goal.returns-else-self-2-clause-watched
returns-else-self-2-clause-watched c =
    let t = c.args.self.now in
    let w = c.requires.watched in
    elim c.if-self.branch [
      | then-self b ↦
          let u : Watched = record t { store = c.back.new.self; head = c.back.new.self.len } in
          let tight : t.loose ≡ false = ap (λ z. z.loose) (sym b.self-is) ∙ c.if-self-2.false in
          subst IsWatched (sym b.self-is) (cut-watched t u c.args.level w c.back.ensures tight refl refl (omega (arith, b.if-self.true)) (omega arith))
      | else-self b ↦
          let u : Watched = record t { store = c.back.new.self } in
          let tight : t.loose ≡ false = ap (λ z. z.loose) (sym b.self-is) ∙ c.if-self-2.false in
          subst IsWatched (sym b.self-is) (cut-watched t u c.args.level w c.back.ensures tight refl refl (omega arith) (omega (arith, b.if-self.false)))
    ]
