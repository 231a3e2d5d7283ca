-- The whole source: what its reader's answers say of all tokens.
use Rattle.std.proofs.Common.{◌≡◌, ℕ, zero, suc, ◌-◌, ◌≤◌, ◌<◌, List, [], ◌∷◌, ◌++◌, take, drop, length, Bool, true, false, Result, Ok, Err, MatchResult, refl, sym, ◌∙◌, ap, subst, append-nil, codes, arith, length-drop}
use Rattle.std.proofs.lemmas.List.{take-append-drop, append_cancel_right, drop_all, length-map}
use Rattle.std.specs.Result.{IsErrAnd}
use Rattle.lv_ast.specs.declared.tokens.Token.{Token}
use Rattle.lv_ast.specs.declared.item.Module.{Module}
use Rattle.lv_ast.specs.declared.item.Source.{Source}
use Rattle.lv_exprs.specs.declared.error.SyntaxError.{SyntaxError}
use Rattle.lv_exprs.specs.declared.error.SyntaxError.TheVariants as error
use Rattle.lv_grammars.specs.Spelling.{IsSpelled}
use Rattle.lv_grammars.specs.Reading.{Begins, Reads, Fails, Passes, PassesLimit}
use Rattle.lv_grammars.specs.Nexts.{Outside, Opens}
use Rattle.lv_grammars.proofs.Lists.{nil_cons, true_false}
use Rattle.lv_grammars.proofs.Calls.{is_within}
use Rattle.lv_grammars.proofs.FactsOf.{facts_of}
use Rattle.lv_grammars.proofs.Pairs.{past, whole}
use Rattle.lv_grammars.proofs.OneAnswer.{reads_not_fails}
use Rattle.lv_grammars.proofs.Good.{fails_outside, outside_nothing}
use Rattle.lv_grammars.proofs.Loops as loops
use Rattle.lv_grammars.proofs.Rounds as rounds
use Rattle.lv_grammars.proofs.Ways as ways
use Rattle.lv_grammar.specs.Lexemes.{Lexeme, lexeme, lexemes}
use Rattle.lv_grammar.specs.Shapes.{base, table, stands}
use Rattle.lv_grammar.specs.Shapes as shapes
use Rattle.lv_grammar.specs.Leaves.{all, low, limits}
use Rattle.lv_grammar.specs.Rules.{module_rule, source_rule}
use Rattle.lv_parser.specs.Answers.{from, front, IsRead, IsRefused, IsSource, IsWrong, IsDeep, RefusesSource}
use Rattle.lv_parser.specs.Sources.{Sourced}
use Rattle.lv_grammar.proofs.Settings.{setting}
use Rattle.lv_parser.proofs.Paths.{begin, through, then, refuse, opens, absent}

-- ---- lists cut at a number

-- what stands before the tokens from a number on
before_drop : {T : Type 0} (k : ℕ) (xs f : List T) → xs ≡ f ++ drop k xs → f ≡ take k xs
before_drop k xs f e = append_cancel_right f (take k xs) (drop k xs) (sym e ∙ sym (take-append-drop k xs))

-- the first of them, and all before it
take_next : {T : Type 0} (k : ℕ) (xs us : List T) (t : T) → drop k xs ≡ t ∷ us → take (suc k) xs ≡ take k xs ++ (t ∷ [])
take_next zero (x ∷ xs) us t e = cc
take_next (suc k) (x ∷ xs) us t e = ap (λ ys. x ∷ ys) (take_next k xs us t e)
take_next zero [] us t e = absurd (nil_cons t us (sym e))
take_next (suc k) [] us t e = absurd (nil_cons t us (sym e))

drop_some : {T : Type 0} (k : ℕ) (xs : List T) → k < length xs → (t : T) × (drop k xs ≡ t ∷ drop (suc k) xs)
drop_some k [] l = absurd (omega (arith, l))
drop_some zero (x ∷ xs) l = (x, refl)
drop_some (suc k) (x ∷ xs) l = drop_some k xs (omega (arith, l))

drop_is_some : {T : Type 0} (k : ℕ) (xs us : List T) (t : T) → drop k xs ≡ t ∷ us → k < length xs
drop_is_some zero (x ∷ xs) us t e = omega arith
drop_is_some (suc k) (x ∷ xs) us t e = let i : k < length xs = drop_is_some k xs us t e in omega (arith, i)
drop_is_some zero [] us t e = absurd (nil_cons t us (sym e))
drop_is_some (suc k) [] us t e = absurd (nil_cons t us (sym e))

-- ---- of one answer for the whole

module _ (text : List ℕ) (tokens : List Token) where
  count : length (lexemes text tokens) ≡ length tokens
  count = length-map tokens (lexeme text)

  -- nothing is spelled that begins so
  wrong : (k : ℕ) → k ≤ length tokens → Fails base (all text) source_rule (lexemes text tokens) (from text tokens k) → IsWrong text tokens k
  wrong k w f = record {
    place = w;
    alive = subst (λ ts. Begins base (all text) source_rule ts) (before_drop k (lexemes text tokens) f.front f.cut) f.alive;
    dead = λ l b.
        let n : (t : Lexeme) × (drop k (lexemes text tokens) ≡ t ∷ drop (suc k) (lexemes text tokens)) = drop_some k (lexemes text tokens) (subst (λ m. k < m) (sym count) l) in
        f.dead n.0 _ n.1 (subst (λ ts. Begins base (all text) source_rule ts) (take_next k (lexemes text tokens) _ n.0 n.1 ∙ ap (λ ts. ts ++ (n.0 ∷ [])) (sym (before_drop k (lexemes text tokens) f.front f.cut))) b);
    none = λ o s d. f.none s [] (record { front = lexemes text tokens; ending = o; cut = sym (append-nil (lexemes text tokens)); spelled = d; ends = λ t us e b. nil_cons t us (sym e) });
  }

  deep : (k : ℕ) → PassesLimit base (all text) (low text) source_rule (lexemes text tokens) (from text tokens k) → IsDeep text tokens k
  deep k p =
      let q : Passes base (all text) (low text) source_rule (lexemes text tokens) (from text tokens k) = p.passes in
      let e : front text tokens (suc k) ≡ q.front ++ (q.token ∷ []) =
      take_next k (lexemes text tokens) q.others q.token q.at ∙ ap (λ ts. ts ++ (q.token ∷ [])) (sym (before_drop k (lexemes text tokens) q.front (q.cut ∙ ap (λ ts. q.front ++ ts) (sym q.at)))) in
      record {
        place = subst (λ m. k < m) count (drop_is_some k (lexemes text tokens) q.others q.token q.at);
        alive = subst (λ ts. Begins base (all text) source_rule ts) (sym e) q.alive;
        high = λ b. q.high (subst (λ ts. Begins base (low text) source_rule ts) e b);
        before = subst (λ ts. Begins base (low text) source_rule ts) (before_drop k (lexemes text tokens) p.within.front p.within.cut) p.within.alive;
      }

  pub refused : (e : SyntaxError) → IsRefused text tokens limits source_rule 0 e → RefusesSource text tokens e
  refused error.NoMemory r = tt
  refused (error.Syntax k) r = wrong k r.why.0 r.why.1
  refused (error.Depth k) r = deep k r.why

  -- a source ends where another token stands
  ended : (k : ℕ) (s : Source) → Reads base (all text) (low text) source_rule (lexemes text tokens) s (from text tokens k) → k < length tokens → IsWrong text tokens k
  ended k s r w = record {
    place = omega (arith, w);
    alive = subst (λ ts. Begins base (all text) source_rule ts) (before_drop k (lexemes text tokens) r.front r.cut)
        (whole r.front (r.ending, s, is_within base (low text) (all text) (setting text limits).within source_rule r.front r.ending s r.spelled));
    dead = λ l b. r.ends n.0 _ n.1 (subst (λ ts. Begins base (all text) source_rule ts)
        (take_next k (lexemes text tokens) _ n.0 n.1 ∙ ap (λ ts. ts ++ (n.0 ∷ [])) (sym (before_drop k (lexemes text tokens) r.front r.cut))) b);
    none = λ o x d. r.ends n.0 _ n.1 (past (lexemes text tokens) r.front _ n.0 (r.cut ∙ ap (λ ts. r.front ++ ts) n.1) (whole (lexemes text tokens) (o, x, d)));
  }
    where
      n : (t : Lexeme) × (drop k (lexemes text tokens) ≡ t ∷ drop (suc k) (lexemes text tokens))
      n = drop_some k (lexemes text tokens) (subst (λ v. k < v) (sym count) w)

  -- ---- modules one after the other

  -- whether a module begins there
  data Next (us : ℕ) : Type 0 where
    begins : Opens base (all text) module_rule (from text tokens us) → Next us
    stops : Outside base table module_rule (from text tokens us) → Next us

  next : (us : ℕ) → Next us
  next us = go (stands (shapes.word (codes "module")) (from text tokens us)) refl
    where
      go : (v : Bool) → stands (shapes.word (codes "module")) (from text tokens us) ≡ v → Next us
      go true e = begins (opens text tokens module_rule us 0 (shapes.word (codes "module")) refl e)
      go false e = stops (absent text tokens module_rule us (shapes.word (codes "module")) refl e)

  read_opens : (us end : ℕ) (x : Module) → IsRead text tokens limits module_rule us x end → Opens base (all text) module_rule (from text tokens us)
  read_opens us end x r = elim (next us) [
    | begins o ↦ o
    | stops o ↦ absurd (reads_not_fails base (all text) (low text) (setting text limits).within module_rule _ _ _ x r.reads (fails_outside (setting text limits) refl refl o))
  ]

  -- where none begins, the next token is the one that is told
  at_once : (us k : ℕ) → us < length tokens → k ≤ length tokens → Outside base table module_rule (from text tokens us) → Fails base (all text) module_rule (from text tokens us) (from text tokens k) → k ≡ us
  at_once us k l i o f = go f.front f.cut f.alive
    where
      go : (front : List Lexeme) → from text tokens us ≡ front ++ from text tokens k → Begins base (all text) module_rule front → k ≡ us
      go [] e b =
          let n : length tokens - us ≡ length tokens - k =
          ap (λ m. m - us) (sym count) ∙ sym (length-drop us (lexemes text tokens)) ∙ ap length e ∙ length-drop k (lexemes text tokens) ∙ ap (λ m. m - k) count in
          omega (arith, n, l, i)
      go (t ∷ front) e b =
          absurd (true_false _ ((facts_of base table (all text) (setting text limits).base (setting text limits).language module_rule refl).starts t (front ++ b.more) b.ending b.tree b.spelled) (o.out t _ e))

  -- what begins a tree has a first token
  high_opens : (us : ℕ) {ts : List Lexeme} → PassesLimit base (all text) (low text) module_rule (from text tokens us) ts → Opens base (all text) module_rule (from text tokens us)
  high_opens us {ts} q = go p.front p.cut p.alive
    where
      p : Passes base (all text) (low text) module_rule (from text tokens us) ts
      p = q.passes

      go : (f : List Lexeme) → from text tokens us ≡ f ++ (p.token ∷ p.others) → Begins base (all text) module_rule (f ++ (p.token ∷ [])) → Opens base (all text) module_rule (from text tokens us)
      go [] e b = record { token = p.token; others = p.others; cut = e; alive = b }
      go (t ∷ f) e b = record { token = t; others = f ++ (p.token ∷ p.others); cut = e; alive = past (t ∷ (f ++ (p.token ∷ []))) [] (f ++ (p.token ∷ [])) t refl b }

  pub sourced : {us : ℕ} {y : Module} {none zs : List Module} → none ≡ [] → zs ≡ none ++ (y ∷ []) → IsRead text tokens limits module_rule 0 y us → Sourced text tokens us zs
  sourced {us} {y} n e r = record {
    first = y;
    behind_first = us;
    others = [];
    begun = then (through (begin source_rule 0 refl)) r;
    standing = loops.stand (all text) (low text) module_rule (from text tokens us);
    are = e ∙ ap (λ xs. xs ++ (y ∷ [])) n;
  }

  pub first_refused : {e : SyntaxError} → IsRefused text tokens limits module_rule 0 e → RefusesSource text tokens e
  first_refused {e} r = refused e (refuse (through (begin source_rule 0 refl)) r refl)

  pub source_more : {us vs : ℕ} {xs zs : List Module} {y : Module} → Sourced text tokens us xs → zs ≡ xs ++ (y ∷ []) → IsRead text tokens limits module_rule us y vs → Sourced text tokens vs zs
  source_more {us} {vs} {xs} {zs} {y} w e r = record {
    first = w.first;
    behind_first = w.behind_first;
    others = w.others ++ (y ∷ []);
    begun = w.begun;
    standing = rounds.more (setting text limits) w.begun.way.good w.standing (read_opens us vs y r) r.reads;
    are = e ∙ ap (λ ys. ys ++ (y ∷ [])) w.are;
  }

  -- the modules that are read, where no other begins
  all_read : {us : ℕ} {xs : List Module} (w : Sourced text tokens us xs) → Outside base table module_rule (from text tokens us) →
      Reads base (all text) (low text) source_rule (lexemes text tokens) (record { modules = xs }) (from text tokens us)
  all_read {us} {xs} w o = subst (λ ys. Reads base (all text) (low text) source_rule (lexemes text tokens) (record { modules = ys }) (from text tokens us)) (sym w.are)
      (ways.last w.begun.way (rounds.no_more (setting text limits) w.begun.way.good w.standing o))

  pub source_stops : {us : ℕ} {xs : List Module} (e : SyntaxError) → Sourced text tokens us xs → us < length tokens → IsRefused text tokens limits module_rule us e → RefusesSource text tokens e
  source_stops error.NoMemory w l r = tt
  source_stops {us} (error.Syntax k) w l r = elim (next us) [
    | begins o ↦ wrong k r.why.0 (ways.last_stops w.begun.way (rounds.more_stops (setting text limits) w.begun.way.good w.standing o r.why.1))
    | stops o ↦ subst (λ v. IsWrong text tokens v) (sym (at_once us k l r.why.0 o r.why.1)) (ended us _ (all_read w o) l)
  ]
  source_stops {us} (error.Depth k) w l r = deep k (ways.last_high w.begun.way (rounds.more_high (setting text limits) w.begun.way.good w.standing (high_opens us r.why) r.why))

  pub source_ends : {us : ℕ} {xs : List Module} → Sourced text tokens us xs → length tokens ≤ us → IsSource text tokens (record { modules = xs })
  source_ends {us} {xs} w l =
      let n : from text tokens us ≡ [] = drop_all us (lexemes text tokens) (subst (λ v. v ≤ us) (sym count) l) in
      let r : Reads base (all text) (low text) source_rule (lexemes text tokens) (record { modules = xs }) (from text tokens us) =
      all_read w (subst (λ ts. Outside base table module_rule ts) (sym n) outside_nothing) in
      (r.ending, subst (λ ts. IsSpelled base (low text) source_rule ts r.ending (record { modules = xs })) (sym (r.cut ∙ ap (λ ts. r.front ++ ts) n ∙ append-nil r.front)) r.spelled)

  -- the exit of a `?`
  pub exit_source : (r : Result Source SyntaxError) (e : SyntaxError) → IsErrAnd r (λ y. y ≡ e) → RefusesSource text tokens e → MatchResult r (λ s. IsSource text tokens s) (λ y. RefusesSource text tokens y)
  exit_source (Err y) e i w = subst (λ z. RefusesSource text tokens z) (sym i) w
  exit_source (Ok x) e i w = absurd i
