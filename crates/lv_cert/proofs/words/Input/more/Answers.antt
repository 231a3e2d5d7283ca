use Rattle.std.proofs.Common.{◌≡◌, [], sym, ap, subst, arith}
use Rattle.std.proofs.lemmas.Grind.{common_steps}
use Rattle.lv_cert.specs.Inputs.{state_of, IsAtEnd}
use Rattle.lv_cert.proofs.Finding.{nothing_left}
use Rattle.lv_cert.proofs.words.Input.more.Goals as goal

pub returns-else-is_empty : goal.returns-else-is_empty
returns-else-is_empty c =
    let v : c.args.self.now ≡ state_of c.self.inside.rest.now c.self.inside.line = cc in (
      λ h. (let e : c.self.inside.rest.now ≡ [] = nothing_left c.self.inside.rest.now c.self.inside.line (subst IsAtEnd v h) in grind (arith, common_steps)),
      ap (λ s. s.line) (sym v),
    )
