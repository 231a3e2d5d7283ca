-- What was read, and what reading the rest gives.
use Rattle.std.proofs.Common.{◌≡◌, ℕ, zero, suc, List, [], ◌∷◌, ◌++◌, length, drop, None, refl, sym, ap, ◌∙◌, subst}
use Rattle.lv_ast.specs.Folds.{Reading, Step, Macro, Unbalanced, followed, stopped, nothing, reading_of, reading_from, step_of, body_of}
use Rattle.lv_ast.specs.Folds as folds
use Rattle.lv_ast.specs.declared.tokens.Token.{Token}
use Rattle.lv_lexer.specs.declared.error.DirectiveError.{DirectiveError}
use Rattle.lv_lexer.specs.declared.folds.Branch.{Branch}
use Rattle.lv_lexer.specs.declared.folds.Fold.{Fold}
use Rattle.lv_lexer.specs.Readings.{done, Stops, IsFoldAnswer}
use Rattle.lv_lexer.specs.Shown.{top_first, branch_shown}
use Rattle.lv_lexer.specs.Steps.{Stepped, Folding}
use Rattle.lv_lexer.specs.Tables.{body_in}
use Rattle.lv_lexer.proofs.Followed.{so_far, followed_assoc, nothing_followed, followed_nothing, refused_first}
use Rattle.lv_lexer.proofs.Expansions.{stops}

none-known : (q : List ℕ) → None ≡ body_of [] q
unfolding body_of
none-known q = refl

whole : (text : List ℕ) (ts : List Token) → reading_of text ts ≡ reading_from text 0 [] [] ts
unfolding reading_of
whole text ts = refl

pub fold_start : (text : List ℕ) (list : List Token) (f : Fold) → ((q : List ℕ) → body_in f.macros q ≡ None) → f.branches ≡ [] → f.out.list ≡ [] → f.out.uses ≡ 0 → Folding text list f list
fold_start text list f m b l u = record {
  macros = [];
  keeps = λ q. m q ∙ none-known q;
  same = whole text list ∙ (sym (nothing_followed (reading_from text 0 [] [] list)) ∙ sym (λ i. followed (so_far (l i) (u i)) (reading_from text 0 [] (top_first (b i)) list)));
}

-- tokens that a directive has taken
past : (text : List ℕ) (n : ℕ) (ms : List Macro) (bs : List folds.Branch) (ts : List Token) → reading_from text n ms bs ts ≡ reading_from text 0 ms bs (drop n ts)
unfolding reading_from
past text zero ms bs ts = refl
past text (suc n) ms bs [] = refl
past text (suc n) ms bs (t ∷ ts) = past text n ms bs ts

one-more : (text : List ℕ) (ms : List Macro) (bs : List folds.Branch) (t : Token) (ts : List Token) →
    reading_from text 0 ms bs (t ∷ ts) ≡ followed (step_of text ms bs t ts).reading (reading_from text (step_of text ms bs t ts).taken (step_of text ms bs t ts).macros (step_of text ms bs t ts).branches ts)
unfolding reading_from
one-more text ms bs t ts = refl

pub fold_more : (text : List ℕ) (list rest after left : List Token) (old new : Fold) (t : Token) (n : ℕ) (f : Folding text list old rest) → rest ≡ (t ∷ after) → left ≡ drop n after → Stepped old new (step_of text f.macros (top_first old.branches) t after) n → Folding text list new left
fold_more text list rest after left old new t n f e d s =
    let st : Step = step_of text f.macros (top_first old.branches) t after in
    record {
      macros = st.macros;
      keeps = s.macros;
      same =
          f.same
          ∙ (ap (λ l. followed (done old.out) (reading_from text 0 f.macros (top_first old.branches) l)) e
          ∙ (ap (followed (done old.out)) (one-more text f.macros (top_first old.branches) t after)
          ∙ (sym (followed_assoc (done old.out) st.reading (reading_from text st.taken st.macros st.branches after))
          ∙ (ap (λ r. followed r (reading_from text st.taken st.macros st.branches after)) s.reading
          ∙ ap (followed (done new.out)) (past text st.taken st.macros st.branches after
          ∙ (ap (λ k. reading_from text 0 st.macros st.branches (drop k after)) (sym s.taken)
          ∙ (ap (λ b. reading_from text 0 st.macros b (drop n after)) (sym s.branches) ∙ ap (reading_from text 0 st.macros (top_first new.branches)) (sym d))))))));
    }

pub fold_refused : (text : List ℕ) (list rest after : List Token) (old : Fold) (t : Token) (e : DirectiveError) (f : Folding text list old rest) → rest ≡ (t ∷ after) → IsFoldAnswer (followed (done old.out) (step_of text f.macros (top_first old.branches) t after).reading) e → IsFoldAnswer (reading_of text list) e
fold_refused text list rest after old t e f h r =
    let st : Step = step_of text f.macros (top_first old.branches) t after in
    subst (λ x. IsFoldAnswer x e)
    (sym (f.same ∙ (ap (λ l. followed (done old.out) (reading_from text 0 f.macros (top_first old.branches) l)) h ∙ ap (followed (done old.out)) (one-more text f.macros (top_first old.branches) t after))))
    (refused_first old.out st.reading (reading_from text st.taken st.macros st.branches after) e r)

-- ---- the end

at-end : (text : List ℕ) (ms : List Macro) → reading_from text 0 ms [] [] ≡ nothing
unfolding reading_from
at-end text ms = refl

open-end : (text : List ℕ) (ms : List Macro) (b : folds.Branch) (bs : List folds.Branch) → reading_from text 0 ms (b ∷ bs) [] ≡ stopped (Unbalanced (length text))
unfolding reading_from
open-end text ms b bs = refl

pub fold_end : (text : List ℕ) (list rest : List Token) (fold : Fold) → Folding text list fold rest → rest ≡ [] → fold.branches ≡ [] → reading_of text list ≡ done fold.out
fold_end text list rest fold f e b =
    f.same ∙ (λ i. followed (done fold.out) (reading_from text 0 f.macros (top_first (b i)) (e i))) ∙ (ap (followed (done fold.out)) (at-end text f.macros) ∙ followed_nothing (done fold.out))

open-bs : (text : List ℕ) (ms : List Macro) (l : List folds.Branch) (b : folds.Branch) → reading_from text 0 ms (l ++ b ∷ []) [] ≡ stopped (Unbalanced (length text))
open-bs text ms [] b = open-end text ms b []
open-bs text ms (c ∷ cs) b = open-end text ms c (cs ++ b ∷ [])

still-open : (text : List ℕ) (ms : List Macro) (bs : List Branch) → (bs ≡ [] → ⊥) → reading_from text 0 ms (top_first bs) [] ≡ stopped (Unbalanced (length text))
still-open text ms [] h = absurd (h refl)
still-open text ms (b ∷ bs) h = open-bs text ms (top_first bs) (branch_shown b)

pub fold_open : (text : List ℕ) (list rest : List Token) (fold : Fold) → Folding text list fold rest → rest ≡ [] → (fold.branches ≡ [] → ⊥) → Stops (reading_of text list) (Unbalanced (length text))
fold_open text list rest fold f e b =
    subst (λ r. Stops r (Unbalanced (length text)))
    (sym (f.same ∙ (ap (λ l. followed (done fold.out) (reading_from text 0 f.macros (top_first fold.branches) l)) e ∙ ap (followed (done fold.out)) (still-open text f.macros fold.branches b))))
    (stops fold.out (Unbalanced (length text)))
