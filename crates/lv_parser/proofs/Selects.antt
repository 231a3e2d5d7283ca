-- Selects, names with selects, and targets.
use Rattle.std.proofs.Common.{◌≡◌, ℕ, ◌+◌, List, [], ◌∷◌, ◌++◌, true, false, refl, sym, ◌∙◌, ap, subst, append_assoc, codes}
use Rattle.lv_ast.specs.declared.tokens.Token.{Token}
use Rattle.lv_ast.specs.declared.expr.Expr.{Expr}
use Rattle.lv_ast.specs.declared.expr.Path.{Path as ExprPath}
use Rattle.lv_ast.specs.declared.expr.Select.{Select}
use Rattle.lv_grammar.specs.declared.parts.Span.TheVariants as span
use Rattle.lv_exprs.specs.declared.error.SyntaxError.{SyntaxError}
use Rattle.lv_exprs.specs.declared.error.SyntaxError.TheVariants as error
use Rattle.lv_grammars.specs.Grammar.{Gram, OneOf, right, either, many}
use Rattle.lv_grammars.specs.Spelling.{Limit}
use Rattle.lv_grammars.specs.Nexts.{Opens}
use Rattle.lv_grammars.specs.At.{Standing}
use Rattle.lv_grammars.proofs.Loops as loops
use Rattle.lv_grammars.proofs.Rounds as rounds
use Rattle.lv_grammar.specs.Lexemes.{Lexeme, place_of}
use Rattle.lv_grammar.specs.Shapes.{base, table, stands}
use Rattle.lv_grammar.specs.Shapes as shapes
use Rattle.lv_grammar.specs.Leaves.{all, within}
use Rattle.lv_grammar.specs.Rules as rules
use Rattle.lv_parser.specs.Answers.{from, IsRead, Refuses, IsRefused}
use Rattle.lv_parser.specs.Paths.{Path, Counted}
use Rattle.lv_grammar.proofs.Settings.{setting}
use Rattle.lv_parser.proofs.Paths.{begin, through, last, to_left, to_right, opens, other, absent, token_read}

-- ---- the end of a select

module _ (text : List ℕ) (tokens : List Token) (d : ℕ → Limit) (at : ℕ) where
  abbrev bounds : Gram base (OneOf Expr (OneOf Expr Expr))
  bounds = either (rules.bound (codes ":")) (either (rules.bound (codes "+:")) (rules.bound (codes "-:")))

  spans_next : Path text tokens d rules.select_end at rules.spans at rules.span_by
  spans_next = through (begin rules.select_end at refl)

  pub bit_read : stands (shapes.mark (codes "]")) (from text tokens at) ≡ true → IsRead text tokens d rules.select_end at span.Bit (at + 1)
  bit_read e = last (to_left spans_next (other text tokens bounds at (shapes.mark (codes "]")) refl e)) (token_read d (shapes.mark (codes "]")) at e)

  bounds_next : stands (shapes.mark (codes "]")) (from text tokens at) ≡ false → Path text tokens d rules.select_end at bounds at (λ y. rules.span_by (right y))
  bounds_next e = to_right spans_next (absent text tokens (rules.mark (codes "]")) at (shapes.mark (codes "]")) refl e)

  pub part_next : stands (shapes.mark (codes "]")) (from text tokens at) ≡ false → stands (shapes.mark (codes ":")) (from text tokens at) ≡ true →
      Path text tokens d rules.select_end at (rules.bound (codes ":")) at span.Part
  part_next e f = to_left (bounds_next e) (other text tokens (either (rules.bound (codes "+:")) (rules.bound (codes "-:"))) at (shapes.mark (codes ":")) refl f)

  behind_colon : stands (shapes.mark (codes "]")) (from text tokens at) ≡ false → stands (shapes.mark (codes ":")) (from text tokens at) ≡ false →
      Path text tokens d rules.select_end at (either (rules.bound (codes "+:")) (rules.bound (codes "-:"))) at (λ y. rules.span_by (right (right y)))
  behind_colon e f = to_right (bounds_next e) (absent text tokens (rules.bound (codes ":")) at (shapes.mark (codes ":")) refl f)

  pub up_next : stands (shapes.mark (codes "]")) (from text tokens at) ≡ false → stands (shapes.mark (codes ":")) (from text tokens at) ≡ false → stands (shapes.mark (codes "+:")) (from text tokens at) ≡ true →
      Path text tokens d rules.select_end at (rules.bound (codes "+:")) at span.Up
  up_next e f g = to_left (behind_colon e f) (other text tokens (rules.bound (codes "-:")) at (shapes.mark (codes "+:")) refl g)

  pub down_next : stands (shapes.mark (codes "]")) (from text tokens at) ≡ false → stands (shapes.mark (codes ":")) (from text tokens at) ≡ false → stands (shapes.mark (codes "+:")) (from text tokens at) ≡ false →
      Path text tokens d rules.select_end at (rules.bound (codes "-:")) at span.Down
  down_next e f g = to_right (behind_colon e f) (absent text tokens (rules.bound (codes "+:")) at (shapes.mark (codes "+:")) refl g)

-- ---- any number of selects

module _ {text : List ℕ} {tokens : List Token} {d : ℕ → Limit} where
  pub counted : (at : ℕ) {none : List Select} → none ≡ [] → Counted text tokens d rules.selected at at none
  counted at n = record {
    standing = subst (λ xs. Standing base (all text) (within text d) rules.selected (from text tokens at) (from text tokens at) xs) (sym n)
        (loops.stand (all text) (within text d) rules.selected (from text tokens at));
  }

  pub count_more : {at us vs : ℕ} {xs zs : List Select} {x : Select} → Counted text tokens d rules.selected at us xs → stands (shapes.mark (codes "[")) (from text tokens us) ≡ true → zs ≡ xs ++ (x ∷ []) → IsRead text tokens d rules.selected us x vs →
      Counted text tokens d rules.selected at vs zs
  count_more {at} {us} {vs} w c e r = record {
    standing = subst (λ ys. Standing base (all text) (within text d) rules.selected (from text tokens at) (from text tokens vs) ys) (sym e)
        (rounds.more (setting text d) refl w.standing (opens text tokens rules.selected us 0 (shapes.mark (codes "[")) refl c) r.reads);
  }

  pub count_stops : {at us : ℕ} {xs : List Select} {e : SyntaxError} → Counted text tokens d rules.selected at us xs → stands (shapes.mark (codes "[")) (from text tokens us) ≡ true → IsRefused text tokens d rules.selected us e → IsRefused text tokens d (many rules.selected) at e
  count_stops {at} {us} {e = e} w c r = record { why = why e r.why }
    where
      o : Opens base (all text) rules.selected (from text tokens us)
      o = opens text tokens rules.selected us 0 (shapes.mark (codes "[")) refl c

      why : (e : SyntaxError) → Refuses text tokens d rules.selected us e → Refuses text tokens d (many rules.selected) at e
      why error.NoMemory q = tt
      why (error.Syntax k) q = (q.0, rounds.more_stops (setting text d) refl w.standing o q.1)
      why (error.Depth k) q = rounds.more_high (setting text d) refl w.standing o q

  pub count_ends : {at us : ℕ} {xs : List Select} → Counted text tokens d rules.selected at us xs → stands (shapes.mark (codes "[")) (from text tokens us) ≡ false → IsRead text tokens d (many rules.selected) at xs us
  count_ends {us = us} w c = record { reads = rounds.no_more (setting text d) refl w.standing (absent text tokens rules.selected us (shapes.mark (codes "[")) refl c) }

-- ---- names

place_front : (ts us vs : List Lexeme) (t : Lexeme) → us ≡ t ∷ [] → ts ≡ us ++ vs → place_of ts ≡ t.start
place_front ts us vs t e f = ap place_of (f ∙ ap (λ xs. xs ++ vs) e)

pub named_place : {text : List ℕ} {tokens : List Token} {d : ℕ → Limit} {at end : ℕ} {p : ExprPath × List Select} → IsRead text tokens d rules.named at p end → p.0.place ≡ place_of (from text tokens at)
named_place {text} {tokens} {d} {at} {end} {p} r =
    let q = r.reads.spelled in
    let b = q.1 in
    let i = b.5 in
    let front_is : from text tokens at ≡ b.0 ++ (b.1 ++ from text tokens end) = r.reads.cut ∙ ap (λ xs. xs ++ from text tokens end) b.4 ∙ append_assoc b.0 b.1 (from text tokens end) in
    sym (ap (λ x. x.0.place) q.2) ∙ sym (ap (λ x. x.place) i.2) ∙ sym (place_front (from text tokens at) b.0 (b.1 ++ from text tokens end) i.0 i.1.0 front_is)
