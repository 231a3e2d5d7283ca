use Rattle.std.proofs.Common.{sym, subst}
use Rattle.lv_session.specs.Keeping.{IsLifted}
use Rattle.lv_session.proofs.Keeping.{lifted-within, lifted-true, wider-added, wider-refl}
use Rattle.lv_session.proofs.keep.add_line.Goals as goal
use Rattle.lv_session.proofs.keep.add_line.Goals.{then-is_worth+then-not-is_there+in_ok-add, else-is_worth}

pub add-requires : goal.add-requires
add-requires c =
    let new = c.as_slice-then-not-is_there.result.now in
    let is = subst (λ z. IsLifted c.args.assumed.now c.args.line.now c.args.row.now z) (sym c.as_slice-then-not-is_there.ensures.value) c.in_ok-lits.ensures in
    lifted-within c.args.assumed.now c.args.line.now new c.args.row.now c.args.set.now.vars c.requires.within c.requires.line is

pub returns : goal.returns
returns c =
    let set = c.args.set.now in
    let lits = c.args.assumed.now in
    let line = c.args.line.now in
    let row = c.args.row.now in
    elim c.if-is_worth.branch [
      | then-is_worth+then-not-is_there+in_ok-add w ↦
          let new = w.as_slice-then-not-is_there.result.now in
          let is = subst (λ z. IsLifted lits line row z) (sym w.as_slice-then-not-is_there.ensures.value) c.in_ok-lits.ensures in
          rw w.set-is (wider-added set w.add.new.self new w.in_ok-add.field-0 w.in_ok-add.ensures.ok (λ d of. lifted-true set lits line new d row c.requires.rests is of))
      | else-is_worth w ↦ rw w.set-is (wider-refl set)
    ]
