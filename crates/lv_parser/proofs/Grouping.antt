-- How a reader of a list goes on whose entries form groups.
use Rattle.std.proofs.Common.{◌≡◌, ℕ, ◌+◌, List, [], ◌∷◌, ◌++◌, true, false, not, Option, Some, None, refl, sym, ◌∙◌, ap, subst, append_assoc, append-nil, codes}
use Rattle.lv_ast.specs.declared.tokens.Token.{Token}
use Rattle.lv_exprs.specs.declared.error.SyntaxError.{SyntaxError}
use Rattle.lv_exprs.specs.declared.error.SyntaxError.TheVariants as error
use Rattle.lv_grammars.specs.Grammar.{Gram, both, perhaps, many}
use Rattle.lv_grammars.specs.Spelling.{Limit}
use Rattle.lv_grammars.specs.Sets.{these, apart, may_be_empty, first, next, is_good}
use Rattle.lv_grammars.specs.Nexts.{Opens}
use Rattle.lv_grammars.proofs.Loops as loops
use Rattle.lv_grammars.proofs.Rounds as rounds
use Rattle.lv_grammars.proofs.Ways as ways
use Rattle.lv_grammars.proofs.Grammars.{four_true}
use Rattle.lv_grammar.specs.Lexemes.{Lexeme, head}
use Rattle.lv_grammar.specs.Shapes.{base, table, stands}
use Rattle.lv_grammar.specs.Shapes as shapes
use Rattle.lv_grammar.specs.Leaves.{all, within}
use Rattle.lv_grammar.specs.Rules.{comma, grouped, groups, all_groups}
use Rattle.lv_parser.specs.Answers.{from, IsRead, Refuses, IsRefused}
use Rattle.lv_parser.specs.Paths.{Path}
use Rattle.lv_parser.specs.Steps.{closed, grown}
use Rattle.lv_parser.specs.Grouping.{Grouped}
use Rattle.lv_grammar.proofs.Settings.{setting}
use Rattle.lv_parser.proofs.Paths.{begin, through, then, last, refuse_last, token_read, opens, absent}

-- an entry with its comma
abbrev more : {H X : Type 0} → Gram base H → Gram base X → Gram base (Lexeme × (Option H × X))
more h x = both comma (both (perhaps h) x)

many_good : {A : Type 0} (g : Gram base A) → is_good base table (many g) ≡ true → is_good base table g ≡ true
many_good g z =
    let w : (is_good base table g ≡ true) × (not (may_be_empty base g) ≡ true) × (apart base (next base table g) (first base table g) ≡ true) ×
    (apart base (these (table.tail_mark ∷ [])) (first base table g) ≡ true) = four_true _ _ _ _ z in
    w.0

-- one entry more, with a header or without
grows : {H X P : Type 0} (f : H → List X → P) (parts : P → H × List X) → ((g : H) (xs : List X) → parts (f g xs) ≡ (g, xs)) → ((l : P) → f (parts l).0 (parts l).1 ≡ l) →
    (done : List P) (l : P) (m : Lexeme) (o : Option H) (e : X) (es : List (Lexeme × (Option H × X))) →
    done ++ groups f (parts l).0 (parts l).1 ((m, (o, e)) ∷ es) ≡ (done ++ closed l o) ++ groups f (parts (grown f parts l (o, e))).0 (parts (grown f parts l (o, e))).1 es
grows {H} {X} {P} f parts p q done l m None e es =
    ap (λ (g : H × List X). done ++ groups f g.0 g.1 es) (sym (p (parts l).0 ((parts l).1 ++ (e ∷ [])))) ∙
    ap (λ ds. ds ++ groups f (parts (grown f parts l (None, e))).0 (parts (grown f parts l (None, e))).1 es) (sym (append-nil done))
grows {H} {X} {P} f parts p q done l m (Some g) e es =
    ap (λ (a : P). done ++ (a ∷ groups f g (e ∷ []) es)) (q l) ∙ sym (append_assoc done (l ∷ []) (groups f g (e ∷ []) es)) ∙
    ap (λ (k : H × List X). (done ++ (l ∷ [])) ++ groups f k.0 k.1 es) (sym (p g (e ∷ [])))

module _ {text : List ℕ} {tokens : List Token} {d : ℕ → Limit} {H X P : Type 0} {f : H → List X → P} {parts : P → H × List X} {h : Gram base H} {x : Gram base X} where
  pub groups_begin : {at us vs : ℕ} {y : H} {e : X} {done : List P} {l : P} → is_good base table (grouped f h x) ≡ true → ((g : H) (xs : List X) → parts (f g xs) ≡ (g, xs)) → done ≡ [] → l ≡ f y (e ∷ []) →
      IsRead text tokens d h at y us → IsRead text tokens d x us e vs → Grouped text tokens d f parts h x at vs done l
  groups_begin {at} {us} {vs} {y} {e} {done} {l} z p n k r q = record {
    header = y;
    first = e;
    behind_first = vs;
    others = [];
    begun = then (then (through (begin (grouped f h x) at z)) r) q;
    standing = loops.stand (all text) (within text d) (more h x) (from text tokens vs);
    are = λ es. ap (λ (g : H × List X). groups f g.0 g.1 es) (sym (ap parts k ∙ p y (e ∷ []))) ∙ ap (λ ds. ds ++ groups f (parts l).0 (parts l).1 es) (sym n);
  }

  entry_begins : {at us : ℕ} {done : List P} {l : P} → Grouped text tokens d f parts h x at us done l → stands (shapes.mark (codes ",")) (from text tokens us) ≡ true →
      Path text tokens d (more h x) us (both (perhaps h) x) (us + 1) (λ y. (head (from text tokens us), y))
  entry_begins {us = us} w c = then (begin (more h x) us (many_good (more h x) w.begun.way.good)) (token_read d (shapes.mark (codes ",")) us c)

  pub groups_more : {at us vs : ℕ} {done ds : List P} {l k : P} {e : Option H × X} → ((g : H) (xs : List X) → parts (f g xs) ≡ (g, xs)) → ((l : P) → f (parts l).0 (parts l).1 ≡ l) →
      Grouped text tokens d f parts h x at us done l → stands (shapes.mark (codes ",")) (from text tokens us) ≡ true → ds ≡ done ++ closed l e.0 → k ≡ grown f parts l e →
      IsRead text tokens d (both (perhaps h) x) (us + 1) e vs → Grouped text tokens d f parts h x at vs ds k
  groups_more {at} {us} {vs} {done} {ds} {l} {k} {e} p q w c n i r = record {
    header = w.header;
    first = w.first;
    behind_first = w.behind_first;
    others = w.others ++ ((head (from text tokens us), e) ∷ []);
    begun = w.begun;
    standing = rounds.more (setting text d) w.begun.way.good w.standing (opens text tokens (more h x) us 0 (shapes.mark (codes ",")) refl c) (last (entry_begins w c) r).reads;
    are = λ es. ap (λ ys. all_groups f (w.header, (w.first, ys))) (append_assoc w.others ((head (from text tokens us), e) ∷ []) es) ∙ w.are ((head (from text tokens us), e) ∷ es) ∙
        grows f parts p q done l (head (from text tokens us)) e.0 e.1 es ∙ ap (λ ys. ys ++ groups f (parts (grown f parts l e)).0 (parts (grown f parts l e)).1 es) (sym n) ∙
        ap (λ (a : P). ds ++ groups f (parts a).0 (parts a).1 es) (sym i);
  }

  pub groups_stop : {at us : ℕ} {done : List P} {l : P} {e : SyntaxError} →
      Grouped text tokens d f parts h x at us done l → stands (shapes.mark (codes ",")) (from text tokens us) ≡ true → IsRefused text tokens d (both (perhaps h) x) (us + 1) e →
      IsRefused text tokens d (grouped f h x) at e
  groups_stop {at} {us} {done} {l} {e} w c r = record { why = why e (refuse_last (entry_begins w c) r).why }
    where
      o : Opens base (all text) (more h x) (from text tokens us)
      o = opens text tokens (more h x) us 0 (shapes.mark (codes ",")) refl c

      why : (e : SyntaxError) → Refuses text tokens d (more h x) us e → Refuses text tokens d (grouped f h x) at e
      why error.NoMemory r = tt
      why (error.Syntax k) r = (r.0, ways.last_stops w.begun.way (rounds.more_stops (setting text d) w.begun.way.good w.standing o r.1))
      why (error.Depth k) r = ways.last_high w.begun.way (rounds.more_high (setting text d) w.begun.way.good w.standing o r)

  pub groups_end : {at us : ℕ} {done ds : List P} {l : P} → ((l : P) → f (parts l).0 (parts l).1 ≡ l) →
      Grouped text tokens d f parts h x at us done l → stands (shapes.mark (codes ",")) (from text tokens us) ≡ false → ds ≡ done ++ (l ∷ []) → IsRead text tokens d (grouped f h x) at ds us
  groups_end {at} {us} {done} {ds} {l} q w c n =
      subst (λ ys. IsRead text tokens d (grouped f h x) at ys us) e
      (record { reads = ways.last w.begun.way (rounds.no_more (setting text d) w.begun.way.good w.standing (absent text tokens (more h x) us (shapes.mark (codes ",")) refl c)) })
    where
      e : all_groups f (w.header, (w.first, w.others)) ≡ ds
      e = ap (λ es. all_groups f (w.header, (w.first, es))) (sym (append-nil w.others)) ∙ w.are [] ∙ ap (λ (a : P). done ++ (a ∷ [])) (q l) ∙ sym n
