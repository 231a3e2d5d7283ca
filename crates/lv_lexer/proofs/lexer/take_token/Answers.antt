use Rattle.std.proofs.Common.{◌≤◌, arith, refl, subst, sym, length}
use Rattle.lv_lexer.specs.Refusals.{Stand}
use Rattle.lv_lexer.proofs.Stands.{stand_token, begins_more}
use Rattle.lv_lexer.proofs.lexer.take_token.Goals as goal

pub returns-then-len-eq-MOST_TOKENS-clause-err : goal.returns-then-len-eq-MOST_TOKENS-clause-err
returns-then-len-eq-MOST_TOKENS-clause-err c = (refl, begins_more c.args.bytes.now c.args.list.now c.args.token c.requires.stand c.requires.token (omega arith))

pub returns-in-Ok : goal.returns-in-Ok
returns-in-Ok c =
    let few : length c.args.list.now ≤ 500000 = c.requires.stand.few in
    record {
      ok = subst (λ l. Stand c.args.bytes.now l c.args.token.end) (sym c.in-Ok.ensures.ok) (stand_token c.args.bytes.now c.args.list.now c.args.token c.requires.stand c.requires.token c.requires.within c.requires.fits (omega (arith, few)));
      err = tt;
      many = λ _. tt;
    }
