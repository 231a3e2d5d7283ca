use Rattle.std.proofs.Common.{◌≡◌, ◌≤◌, ◌+◌, ◌++◌, ◌∷◌, [], length, refl, sym, ap, ◌∙◌, subst, arith, length-append, inl, Ok, Err}
use Rattle.lv_source.specs.Standing.{at_turn}
use Rattle.lv_scopes.specs.Headers.{IsSoFar, IsStep}
use Rattle.lv_scopes.proofs.TurnLaws.{begin, more, ends, no_turns, turn_made}
use Rattle.lv_scopes.proofs.turns.turns_of.Goals as goal

pub returns-in-Err-clause-right : goal.returns-in-Err-clause-right
returns-in-Err-clause-right c = record { at = λ here ok. record { right = tt; wrong = inl (c.in-Err.ensures.at here ok).wrong } }

pub loop-init : goal.loop-init
loop-init c = (
  ap length c.new-turns.ensures,
  refl,
  record {
    at = λ here ok. subst (λ ts. IsSoFar here c.args.index.now c.args.start.now c.args.test.now c.args.next.now ts c.in-Ok.value) (sym c.new-turns.ensures)
        (begin here c.args.index.now c.args.start.now c.args.test.now c.args.next.now c.in-Ok.value (c.in-Ok.ensures.at here ok).right);
  },
)

pub returns-in-Err-turn-clause-right : goal.returns-in-Err-turn-clause-right
returns-in-Err-turn-clause-right c =
    let few : length c.loop.turns ≤ 1000000 = omega arith in record {
      at = λ here ok. record {
        right = tt;
        wrong = no_turns here c.args.index.now c.args.start.now c.args.test.now c.args.next.now c.args.most c.loop.turns c.loop.value c.in-Err-turn.error
            (c.loop.invariant.2.at here ok) few
            (turn_made c.loop.consts c.args.consts.now c.loop.invariant.1 c.args.index.now c.loop.value c.args.test.now c.args.next.now
            (Err c.in-Err-turn.error) c.in-Err-turn.ensures.right here ok).wrong;
      };
    }

pub returns-in-Ok-None-clause-right : goal.returns-in-Ok-None-clause-right
returns-in-Ok-None-clause-right c =
    let few : length c.loop.turns ≤ 1000000 = omega arith in
    let most : length c.loop.turns ≤ c.args.most = omega arith in record {
      at = λ here ok. record {
        right = ends here c.args.index.now c.args.start.now c.args.test.now c.args.next.now c.args.most c.loop.turns c.loop.value
            (c.loop.invariant.2.at here ok) few most
            (subst (λ o. IsStep (at_turn here c.args.index.now c.loop.value) c.args.test.now c.args.next.now o) c.in-Ok-None.field-0-is
            (turn_made c.loop.consts c.args.consts.now c.loop.invariant.1 c.args.index.now c.loop.value c.args.test.now c.args.next.now
            (Ok c.in-Ok-None.field-0) c.in-Ok-None.ensures.right here ok).right);
        wrong = tt;
      };
    }

pub loop-preserved : goal.loop-preserved
loop-preserved c =
    let few : length c.loop.turns ≤ 1000000 = omega arith in
    let p : c.push.new.self ≡ c.loop.turns ++ c.loop.value ∷ [] = c.in-Ok-push.ensures.ok in (
      ap length p ∙ length-append c.loop.turns (c.loop.value ∷ []) ∙ ap (λ n. n + 1) c.loop.invariant.0,
      c.turn.ensures.same ∙ c.loop.invariant.1,
      record {
        at = λ here ok. subst (λ ts. IsSoFar here c.args.index.now c.args.start.now c.args.test.now c.args.next.now ts c.in-Ok-Some.after) (sym p)
            (more here c.args.index.now c.args.start.now c.args.test.now c.args.next.now c.loop.turns c.loop.value c.in-Ok-Some.after
            (c.loop.invariant.2.at here ok) few
            (subst (λ o. IsStep (at_turn here c.args.index.now c.loop.value) c.args.test.now c.args.next.now o) c.in-Ok-Some.field-0-is
            (turn_made c.loop.consts c.args.consts.now c.loop.invariant.1 c.args.index.now c.loop.value c.args.test.now c.args.next.now
            (Ok c.in-Ok-Some.field-0) c.in-Ok-Some.ensures.right here ok).right));
      },
    )
