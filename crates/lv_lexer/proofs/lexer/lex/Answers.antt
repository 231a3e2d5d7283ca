use Rattle.std.proofs.Common.{arith, refl, subst, sym, length, ◌≡◌, ◌≤◌}
use Rattle.lv_lexer.specs.Refusals.{Stand}
use Rattle.lv_lexer.proofs.Refused.{no_refusal, many_not_whole}
use Rattle.lv_lexer.proofs.Stands.{stand_start}
use Rattle.lv_lexer.proofs.Unique.{one_token_list}
use Rattle.lv_lexer.proofs.lexer.lex.Goals as goal

pub loop-place-init : goal.loop-place-init
loop-place-init c = record { stand = subst (λ l. Stand c.args.bytes.now l 0) (sym c.new-list.ensures) (stand_start c.args.bytes.now); within = omega arith }

pub returns : goal.returns
returns c =
    let text = c.args.bytes.now in
    let w : c.loop-place.place ≤ length text = c.loop-place.invariant.within in
    let end : c.loop-place.place ≡ length text = omega (arith, w) in
    let stand : Stand text c.loop-place.list (length text) = subst (Stand text c.loop-place.list) end c.loop-place.invariant.stand in
    record {
      text = c.in-Ok.ensures;
      list = stand.list;
      only = λ other h. one_token_list text other c.loop-place.list h stand.list;
      few = stand.few;
      refused = tt;
      unrefused = no_refusal text c.loop-place.list stand;
      many = λ m. many_not_whole text c.loop-place.list (length text) stand refl m;
    }
