-- The steps of single directives.
use Rattle.std.proofs.Common.{◌≡◌, ℕ, Bool, not, ◌||◌, if◌then◌else◌, List, [], ◌∷◌, ◌++◌, Some, None, is_some, refl, sym, ap, ◌∙◌, subst}
use Rattle.std.specs.Str.{bytes_eq}
use Rattle.lv_ast.specs.Folds.{is_tick, is_line, is_join, is_read, step_of, tick_step, directive_of, word_of, one, Reading, Stop, Step, Macro, Malformed, Unbalanced, followed, stopped, nothing, can_define, defined, undefined, begun, elsif_step, else_step, endif_step, refused, passed, gives, line_of, rest, line_count, name_count, body_of, without, opened, elsif_branch, else_branch}
use Rattle.lv_ast.specs.Folds as folds
use Rattle.lv_ast.specs.declared.tokens.Token.{Token}
use Rattle.lv_lexer.specs.declared.folds.Branch.{Branch}
use Rattle.lv_lexer.specs.declared.folds.Fold.{Fold}
use Rattle.lv_lexer.specs.declared.macros.Macros.{Macros}
use Rattle.lv_lexer.specs.declared.output.Output.{Output}
use Rattle.lv_lexer.specs.Readings.{done, Stops}
use Rattle.lv_lexer.specs.Shown.{top_first, branch_shown}
use Rattle.lv_lexer.specs.Steps.{Stepped}
use Rattle.lv_lexer.specs.Tables.{Keeps, body_in}
use Rattle.lv_lexer.proofs.Branches.{top_push}
use Rattle.lv_lexer.proofs.Expansions.{stops}
use Rattle.lv_lexer.proofs.Followed.{followed_nothing}
use Rattle.lv_lexer.proofs.Tables.{body-cons, body_without}

pub stops_at : (o : Output) (r : Reading) (s : Stop) → r ≡ stopped s → Stops (followed (done o) r) s
stops_at o r s h = subst (λ r. Stops (followed (done o) r) s) (sym h) (stops o s)

pub keeps_define : (old new : Macros) (ms : List Macro) (name : List ℕ) (a b : List Token) → ((q : List ℕ) → body_in new q ≡ (if bytes_eq name q then Some a else body_in old q)) → a ≡ b → Keeps old ms → Keeps new (record { name = name; body = b } ∷ ms)
keeps_define old new ms name a b h e k q =
    h q ∙ (ap (λ x. if bytes_eq name q then Some x else body_in old q) e
    ∙ (ap (λ x. if bytes_eq name q then Some b else x) (k q) ∙ sym (body-cons (record { name = name; body = b }) ms q)))

pub keeps_undefine : (old new : Macros) (ms : List Macro) (name : List ℕ) → ((q : List ℕ) → body_in new q ≡ (if bytes_eq name q then None else body_in old q)) → Keeps old ms → Keeps new (without ms name)
keeps_undefine old new ms name h k q = h q ∙ (ap (λ x. if bytes_eq name q then None else x) (k q) ∙ sym (body_without ms name q))

-- nothing is given: the output stays
pub stepped_still : (old new : Fold) (s : Step) (n : ℕ) → s.reading ≡ nothing → done old.out ≡ done new.out → Keeps new.macros s.macros → top_first new.branches ≡ s.branches → n ≡ s.taken → Stepped old new s n
stepped_still old new s n r o k b t = record { reading = ap (followed (done old.out)) r ∙ (followed_nothing (done old.out) ∙ o); macros = k; branches = b; taken = t }

-- the innermost conditional is another
pub stepped_branch : (old new : Fold) (s : Step) (n : ℕ) (bs : List Branch) (b : Branch) → new ≡ record old { branches = bs ++ b ∷ [] } → s.reading ≡ nothing → Keeps old.macros s.macros → (branch_shown b ∷ top_first bs) ≡ s.branches → n ≡ s.taken → Stepped old new s n
stepped_branch old new s n bs b e r k h t =
    subst (λ f. Stepped old f s n) (sym e) (stepped_still old (record old { branches = bs ++ b ∷ [] }) s n r refl k (top_push bs b ∙ h) t)

module _ (text : List ℕ) (ms : List Macro) (bs : List folds.Branch) (t : Token) (ts : List Token) where
  pub defined_if : (name : List ℕ) (b : Bool) → can_define text name (line_of ts) ≡ b →
      defined text ms bs t ts name ≡ (if b then record { reading = nothing; macros = record { name = name; body = rest (line_of ts) } ∷ ms; branches = bs; taken = line_count ts } else refused text ms bs t ts (Malformed t.start))
  defined_if name b h = ap (λ b. if b then record { reading = nothing; macros = record { name = name; body = rest (line_of ts) } ∷ ms; branches = bs; taken = line_count ts } else refused text ms bs t ts (Malformed t.start)) h

  pub elsif_if : (c : folds.Branch) (cs : List folds.Branch) (name : List ℕ) (b : Bool) → c.last ≡ b →
      elsif_step text ms bs t ts (c ∷ cs) name ≡ (if b then refused text ms bs t ts (Unbalanced t.start) else passed text ms bs t ts (name_count ts) (elsif_branch (is_some (body_of ms name)) c ∷ cs))
  elsif_if c cs name b h = ap (λ b. if b then refused text ms bs t ts (Unbalanced t.start) else passed text ms bs t ts (name_count ts) (elsif_branch (is_some (body_of ms name)) c ∷ cs)) h

  pub else_if : (c : folds.Branch) (cs : List folds.Branch) (b : Bool) → c.last ≡ b →
      else_step text ms bs t ts (c ∷ cs) ≡ (if b then refused text ms bs t ts (Unbalanced t.start) else passed text ms bs t ts 0 (else_branch c ∷ cs))
  else_if c cs b h = ap (λ b. if b then refused text ms bs t ts (Unbalanced t.start) else passed text ms bs t ts 0 (else_branch c ∷ cs)) h

  pub step_if : (b p : Bool) → is_tick t.kind ≡ b → (is_line t.kind || is_join t.kind || not (is_read bs)) ≡ p →
      step_of text ms bs t ts ≡ (if b then tick_step text ms bs t ts (directive_of (word_of text t)) else (if p then passed text ms bs t ts 0 bs else gives text ms bs t ts (one t)))
  unfolding step_of
  step_if b p h j =
      ap (λ b. if b then tick_step text ms bs t ts (directive_of (word_of text t)) else (if is_line t.kind || is_join t.kind || not (is_read bs) then passed text ms bs t ts 0 bs else gives text ms bs t ts (one t))) h
      ∙ ap (λ p. if b then tick_step text ms bs t ts (directive_of (word_of text t)) else (if p then passed text ms bs t ts 0 bs else gives text ms bs t ts (one t))) j
