use Rattle.std.proofs.Common.{ap, sym, ◌∙◌}
use Rattle.lv_ast.specs.Tokens.{fits}
use Rattle.lv_lexer.proofs.Comments.{gap_of_blank, gap_of_none}
use Rattle.lv_lexer.proofs.scan.uncommented.Goals as goal

pub returns-then-begins_blank : goal.returns-then-begins_blank
returns-then-begins_blank c = gap_of_blank c.args.rest.now c.requires (sym c.begins_blank.ensures ∙ c.if-begins_blank.true)

pub returns-then-fits : goal.returns-then-fits
returns-then-fits c =
    let t = c.in-Some.ensures in
    (record { no_comment = c.requires; within = t.within; whole = t.whole; longest = t.longest }, ap (fits c.in-Some.kind) (sym c.prefix.ensures) ∙ (sym c.fits.ensures ∙ c.if-fits.true))

pub returns-else-fits : goal.returns-else-fits
returns-else-fits c =
    let t = c.in-Some.ensures in
    record {
      kind = c.in-Some.kind;
      length = c.in-Some.length;
      first = record { no_comment = c.requires; within = t.within; whole = t.whole; longest = t.longest };
      high = ap (fits c.in-Some.kind) (sym c.prefix.ensures) ∙ (sym c.fits.ensures ∙ c.if-fits.false);
    }

pub returns-in-None : goal.returns-in-None
returns-in-None c = record {
  no_comment = c.requires;
  no_gap = gap_of_none c.args.rest.now c.requires (sym c.begins_blank.ensures ∙ c.if-begins_blank.false);
  no_token = c.in-None.ensures;
}
