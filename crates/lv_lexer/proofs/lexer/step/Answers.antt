use Rattle.std.proofs.Common.{◌≡◌, ◌≤◌, ◌+◌, length, Some, arith, subst}
use Rattle.lv_ast.specs.TokenLists.{gap_length, opening, IsFirstToken, Endless, IsBadByte, IsUnclosed}
use Rattle.lv_lexer.specs.Pieces.{IsBadLiteralFront, IsBadFront}
use Rattle.lv_lexer.proofs.Refused.{many_no_bad_byte, many_not_unclosed}
use Rattle.lv_lexer.proofs.Stands.{stand_gap, bad_literal, bad_byte, unclosed, gap_step, token_step, token_at, token_fits}
use Rattle.lv_lexer.proofs.lexer.step.Goals as goal

pub overflow_add-result : goal.overflow_add-result
overflow_add-result c = let w = gap_step c.args.bytes.now _ c.args.place c.in-Gap.length c.skip.ensures c.requires.within c.in-Gap.ensures in let n : c.args.place + c.in-Gap.length ≤ length c.args.bytes.now = w.1 in omega (arith, n)

pub returns-in-Gap : goal.returns-in-Gap
returns-in-Gap c = record {
  ok = gap_step c.args.bytes.now _ c.args.place c.in-Gap.length c.skip.ensures c.requires.within c.in-Gap.ensures;
  stand = stand_gap c.args.bytes.now _ c.args.place c.in-Gap.length c.requires.stand (subst (λ t. gap_length t ≡ Some c.in-Gap.length) c.skip.ensures c.in-Gap.ensures);
  err = tt;
  many = λ _. tt;
}

pub returns-in-BadLiteral : goal.returns-in-BadLiteral
returns-in-BadLiteral c = record { ok = tt; stand = tt; err = bad_literal c.args.bytes.now _ c.args.place c.requires.stand (subst IsBadLiteralFront c.skip.ensures c.in-BadLiteral.ensures); many = λ _. tt }

pub returns-in-BadByte : goal.returns-in-BadByte
returns-in-BadByte c =
    let bad : IsBadByte c.args.bytes.now c.args.place = bad_byte c.args.bytes.now _ c.args.place c.requires.stand c.requires.within (subst IsBadFront c.skip.ensures c.in-BadByte.ensures) in
    record { ok = tt; stand = tt; err = bad; many = λ m. many_no_bad_byte c.args.bytes.now _ c.args.place c.requires.stand bad m }

pub returns-in-Unclosed : goal.returns-in-Unclosed
returns-in-Unclosed c =
    let bad : IsUnclosed c.args.bytes.now c.args.place = unclosed c.args.bytes.now _ c.args.place c.requires.stand (subst (λ t. opening t ≡ Endless) c.skip.ensures c.in-Unclosed.ensures) in
    record { ok = tt; stand = tt; err = bad; many = λ m. many_not_unclosed c.args.bytes.now _ c.args.place c.requires.stand bad m }

pub returns-in_ok-take_token-in-Token-clause-ok : goal.returns-in_ok-take_token-in-Token-clause-ok
returns-in_ok-take_token-in-Token-clause-ok c = token_step c.args.bytes.now _ c.in-Token.kind c.args.place c.in-Token.length c.skip.ensures c.requires.within c.in-Token.ensures.0

pub take_token-requires : goal.take_token-requires
take_token-requires c = record {
  stand = c.requires.stand;
  token = token_at c.args.bytes.now c.in-Token.kind c.args.place c.in-Token.length (subst (λ t. IsFirstToken t c.in-Token.kind c.in-Token.length) c.skip.ensures c.in-Token.ensures.0);
  within = omega arith;
  fits = token_fits c.args.bytes.now _ c.in-Token.kind c.args.place c.in-Token.length c.skip.ensures c.in-Token.ensures.1;
}
