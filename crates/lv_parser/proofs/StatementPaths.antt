-- How statements are read.
use Rattle.std.proofs.Common.{◌≡◌, ℕ, suc, ◌+◌, ◌-◌, ◌<◌, ◌≤◌, List, [], ◌∷◌, ◌++◌, length, Bool, true, false, ◌||◌, cond, Option, Some, None, Result, Ok, Err, MatchResult, ◌⊎◌, inl, inr, refl, sym, ◌∙◌, ap, subst, arith, codes}
use Rattle.std.specs.Result.{IsErrAnd}
use Rattle.lv_ast.specs.declared.tokens.Token.{Token}
use Rattle.lv_ast.specs.declared.expr.Expr.{Expr}
use Rattle.lv_ast.specs.declared.stmt.Target.{Target}
use Rattle.lv_ast.specs.declared.stmt.Stmt.{Stmt}
use Rattle.lv_ast.specs.declared.stmt.Stmt.TheVariants as stmt
use Rattle.lv_ast.specs.declared.stmt.Arm.{Arm}
use Rattle.lv_exprs.specs.declared.error.SyntaxError.{SyntaxError}
use Rattle.lv_exprs.specs.declared.error.SyntaxError.TheVariants as error
use Rattle.lv_grammars.specs.Grammar.{Gram, one, call, until, tail}
use Rattle.lv_grammars.specs.Spelling.{Limit, most, allows, lowered, inside}
use Rattle.lv_grammars.specs.Sets as viable
use Rattle.lv_grammars.specs.Sets.{some_of, all_of, among, is_in, is_good, these, first, apart, has_tree_in}
use Rattle.lv_grammars.specs.Nexts.{Outside, Opens}
use Rattle.lv_grammars.proofs.Good as good
use Rattle.lv_grammars.proofs.Rounds as rounds
use Rattle.lv_grammars.proofs.Readers.{Spelled, begun}
use Rattle.lv_grammars.proofs.Starved.{starved, no_tree}
use Rattle.lv_grammars.proofs.Rules.{call_none}
use Rattle.lv_grammars.proofs.Ways as ways
use Rattle.lv_grammars.proofs.Lists.{true_false, and_left, and_right}
use Rattle.lv_grammar.specs.Lexemes.{Lexeme, place_of}
use Rattle.lv_grammar.specs.Shapes.{Shape, Rule, base, table, stands, rule_leads}
use Rattle.lv_grammar.specs.Shapes as shapes
use Rattle.lv_grammar.specs.Leaves.{all, within}
use Rattle.lv_grammar.specs.Rules as rules
use Rattle.lv_parser.specs.Answers.{from, leads, nests, placed, IsRead, Refuses, IsRefused, Answer, AnswersStmts}
use Rattle.lv_parser.specs.Paths.{Path, Taken}
use Rattle.lv_grammar.proofs.Settings.{setting, room}
use Rattle.lv_parser.proofs.Paths.{next_of, lacks_of, begin, through, then, last, refuse, refuse_last, to_left, to_right, opens, other, absent, one_tree, taken, take_more, take_stops, take_ends}
use Rattle.lv_parser.proofs.Fronts.{leads_is}

-- ---- answers that are handed on

module _ {text : List ℕ} {tokens : List Token} {d : ℕ → Limit} where
  -- what a part at the place where reading began gives, unchanged
  pub carried : {A : Type 0} {g h : Gram base A} {at : ℕ} (r : Result (A × ℕ) SyntaxError) → Path text tokens d g at h at (λ y. y) → Answer text tokens d h at r → Answer text tokens d g at r
  carried (Ok x) w a = last w a
  carried (Err e) w a = refuse_last w a

  -- ---- choices

  pub to_first : {A C : Type 0} {f : Gram base C} {at : ℕ} {g h : Gram base A} {us : ℕ} {build : A → C} →
      Path text tokens d f at (rules.or_else g h) us build → Outside base table h (from text tokens us) → Path text tokens d f at g us build
  to_first w o = to_left (through w) o

  pub to_other : {A C : Type 0} {f : Gram base C} {at : ℕ} {g h : Gram base A} {us : ℕ} {build : A → C} →
      Path text tokens d f at (rules.or_else g h) us build → Outside base table g (from text tokens us) → Path text tokens d f at h us build
  to_other w o = to_right (through w) o

  -- ---- a rule's tree and perhaps a tail

  pub to_tail : {A B : Type 0} {g : Gram base A} {at : ℕ} {r : Rule} {p : Shape} {h : Gram base B} {us vs : ℕ} {build : base.RuleTree r × Option B → A} {x : base.RuleTree r} →
      Path text tokens d g at (tail r p h) us build → IsRead text tokens d (call r) us x vs → stands p (from text tokens vs) ≡ true → Path text tokens d g at h (vs + 1) (λ y. build (x, Some y))
  to_tail {r = r} {p = p} {vs = vs} w q e = record { way = ways.to_tail r (setting text d) w.way q.reads (next_of p text tokens vs e) }

  pub no_tail : {A B : Type 0} {g : Gram base A} {at : ℕ} {r : Rule} {p : Shape} {h : Gram base B} {us vs : ℕ} {build : base.RuleTree r × Option B → A} {x : base.RuleTree r} →
      Path text tokens d g at (tail r p h) us build → IsRead text tokens d (call r) us x vs → stands p (from text tokens vs) ≡ false → IsRead text tokens d g at (build (x, None)) vs
  no_tail {r = r} {p = p} {vs = vs} w q e = record { reads = ways.no_tail r (setting text d) w.way q.reads (lacks_of p (from text tokens vs) e) }

  pub tail_refused : {A B : Type 0} {g : Gram base A} {at : ℕ} {r : Rule} {p : Shape} {h : Gram base B} {us : ℕ} {build : base.RuleTree r × Option B → A} {e : SyntaxError} →
      Path text tokens d g at (tail r p h) us build → IsRefused text tokens d (call r) us e → IsRefused text tokens d g at e
  tail_refused {g = g} {at} {r} {p = p} {h} {us} {build} {e} w q = record { why = why e q.why }
    where
      why : (e : SyntaxError) → Refuses text tokens d (call r) us e → Refuses text tokens d g at e
      why error.NoMemory q = tt
      why (error.Syntax k) q = (q.0, ways.tail_stops r (setting text d) w.way q.1)
      why (error.Depth k) q = ways.tail_high r (setting text d) w.way q

-- ---- a rule

in_rule : (text : List ℕ) (tokens : List Token) (d : ℕ → Limit) (r : Rule) (at : ℕ) → allows (d (shapes.count_of r)) ≡ true → (e : SyntaxError) → Refuses text tokens (inside (shapes.count_of r) d) (rules.rules r) at e → Refuses text tokens d (call r) at e
in_rule text tokens d r at a error.NoMemory q = tt
in_rule text tokens d r at a (error.Syntax k) q = (q.0, ways.last_stops (ways.begin_rule (setting text d) r (from text tokens at) a) q.1)
in_rule text tokens d r at a (error.Depth k) q = ways.last_high (ways.begin_rule (setting text d) r (from text tokens at) a) q

-- what its grammar gives within the limits inside
pub ruled : (text : List ℕ) (tokens : List Token) (d : ℕ → Limit) (r : Rule) (at : ℕ) → allows (d (shapes.count_of r)) ≡ true → (v : Result (base.RuleTree r × ℕ) SyntaxError) → Answer text tokens (inside (shapes.count_of r) d) (rules.rules r) at v →
    Answer text tokens d (call r) at v
ruled text tokens d r at a (Ok x) q = record { reads = ways.last (ways.begin_rule (setting text d) r (from text tokens at) a) q.reads }
ruled text tokens d r at a (Err e) q = record { why = in_rule text tokens d r at a e q.why }

-- ---- where no more may nest

or_cases : (a b : Bool) → a || b ≡ true → (a ≡ true) ⊎ (b ≡ true)
or_cases true b e = inl refl
or_cases false b e = inr e

-- a token of one of these shapes, of which it is computed that trees of the rule begin with them
opens_one : (text : List ℕ) (tokens : List Token) (r : Rule) (n : ℕ) (at : ℕ) (ps : List Shape) → all_of (among base (viable.shapes base rules.rules n (call r))) ps ≡ true → some_of (λ p. stands p (from text tokens at)) ps ≡ true →
    Opens base (all text) (call r) (from text tokens at)
opens_one text tokens r n at [] z e = true_false _ e refl
opens_one text tokens r n at (p ∷ ps) z e = elim (or_cases (stands p (from text tokens at)) (some_of (λ q. stands q (from text tokens at)) ps) e) [
  | inl f ↦ opens text tokens (call r) at n p (and_left _ _ z) f
  | inr f ↦ opens_one text tokens r n at ps (and_right _ _ z) f
]

leads_not : (r : Rule) (ts : List Lexeme) → leads r ts ≡ false → Outside base table (call r) ts
leads_not r ts e = record { out = λ m us q. sym (ap (leads r) q) ∙ e }

-- of any number up to a token one begins, where no more may nest
pub none_taken : {text : List ℕ} {tokens : List Token} {d : ℕ → Limit} (r : Rule) (p : Shape) (n : ℕ) (at : ℕ) → is_good base table (until (call r) (one p)) ≡ true →
    all_of (among base (viable.shapes base rules.rules n (call r))) (rule_leads r) ≡ true → at ≤ length tokens → allows (d (shapes.count_of r)) ≡ false → stands p (from text tokens at) ≡ false →
    (b : Bool) → b ≡ leads r (from text tokens at) → IsRefused text tokens d (until (call r) (one p)) at (cond b (error.Depth at) (error.Syntax at))
none_taken {text} {tokens} {d} r p n at g z w a c true e = record {
  why = rounds.none_within (setting text d) g (absent text tokens (one p) at p refl c) (opens_one text tokens r n at (rule_leads r) z (sym (leads_is r (from text tokens at)) ∙ sym e))
      (call_none (setting text d).within r a) (one_tree text d p);
}
none_taken {text} {tokens} {d} r p n at g z w a c false e =
    take_stops g (taken (call r) p at refl) c (record { why = (w, good.call_outside (setting text d) r (leads_not r (from text tokens at) (sym e))) })

-- of a rule that may nest once more, what begins has another one in it
pub none_inside : {text : List ℕ} {tokens : List Token} {d : ℕ → Limit} (r : Rule) (g : Gram base (base.RuleTree r)) (f : Rule → Bool) (at : ℕ) → allows (d (shapes.count_of r)) ≡ true →
    Path text tokens (inside (shapes.count_of r) d) (rules.rules r) at g at (λ y. y) → Opens base (all text) g (from text tokens at) →
    ((q : Rule) → f q ≡ false → (us : List Lexeme) → Spelled base (within text (inside (shapes.count_of r) d)) (call q) us → ⊥) → has_tree_in base f g ≡ false →
    IsRefused text tokens d (call r) at (error.Depth at)
none_inside {text} {tokens} {d} r g f at a w o k z = record {
  why = record {
    passes = (ways.begin_rule (setting text d) r (from text tokens at) a).at.passes (from text tokens at)
        (w.way.at.passes (from text tokens at) (starved o (no_tree base (within text (inside (shapes.count_of r) d)) f k g z)));
    within = record { front = []; cut = refl; alive = begun [] (room text d r a).0 (room text d r a).1 };
  };
}

-- ---- statements

suc_of : (n : ℕ) → 0 < n → n ≡ suc (n - 1)
suc_of n h = omega arith

pub or_first : {v r : Bool} (a b : Bool) → v ≡ r → r ≡ true → r ≡ a → v ≡ (a || b)
or_first true b e f g = e ∙ f
or_first false b e f g = true_false _ f g

pub or_second : {v r s : Bool} (a b : Bool) → v ≡ s → r ≡ false → r ≡ a → s ≡ b → v ≡ (a || b)
or_second true b e f g h = true_false _ g f
or_second false b e f g h = e ∙ h

regrouped : (a b c d e f l : Bool) → (((a || (b || c)) || (d || e)) || (f || l)) ≡ (a || (b || (c || (d || (e || (f || l))))))
regrouped true b c d e f l = refl
regrouped false true c d e f l = refl
regrouped false false true d e f l = refl
regrouped false false false true e f l = refl
regrouped false false false false e f l = refl

-- what statements begin with, in groups
pub stmt_leads_by : (ts : List Lexeme) (u v w : Bool) → u ≡ (stands (shapes.mark (codes ";")) ts || (stands (shapes.word (codes "begin")) ts || stands (shapes.word (codes "if")) ts)) →
    v ≡ (u || (stands (shapes.word (codes "case")) ts || stands (shapes.word (codes "casez")) ts)) → w ≡ (v || (stands (shapes.word (codes "for")) ts || leads shapes.target ts)) → w ≡ leads shapes.stmt ts
stmt_leads_by ts u v w x y z = z ∙ ap (λ b. b || (stands (shapes.word (codes "for")) ts || leads shapes.target ts)) (y ∙ ap (λ b. b || (stands (shapes.word (codes "case")) ts || stands (shapes.word (codes "casez")) ts)) x) ∙ same ts
  where
    same : (ts : List Lexeme) → (((stands (shapes.mark (codes ";")) ts || (stands (shapes.word (codes "begin")) ts || stands (shapes.word (codes "if")) ts)) || (stands (shapes.word (codes "case")) ts || stands (shapes.word (codes "casez")) ts)) ||
        (stands (shapes.word (codes "for")) ts || leads shapes.target ts)) ≡ leads shapes.stmt ts
    same [] = refl
    same (t ∷ ts) =
        regrouped (shapes.fits (shapes.mark (codes ";")) t) (shapes.fits (shapes.word (codes "begin")) t) (shapes.fits (shapes.word (codes "if")) t) (shapes.fits (shapes.word (codes "case")) t) (shapes.fits (shapes.word (codes "casez")) t)
        (shapes.fits (shapes.word (codes "for")) t) (leads shapes.target (t ∷ ts))

-- one statement more may nest
pub stmt_within : (text : List ℕ) (tokens : List Token) (n : ℕ) (at : ℕ) (v : Result (Stmt × ℕ) SyntaxError) → 0 < n → AnswersStmts (n - 1) text tokens rules.stmt_rule at v → AnswersStmts n text tokens (call shapes.stmt) at v
stmt_within text tokens n at v h q = λ d e f.
    let g : d 1 ≡ most (suc (n - 1)) = f ∙ ap most (suc_of n h) in
    ruled text tokens d shapes.stmt at (ap allows g) v (q (inside 1 d) e (ap lowered g))

abbrev from_loop : Gram base Stmt
from_loop = rules.or_else rules.loop rules.assignment

abbrev from_casez : Gram base Stmt
from_casez = rules.or_else (rules.cases true) from_loop

abbrev from_case : Gram base Stmt
from_case = rules.or_else (rules.cases false) from_casez

abbrev from_choice : Gram base Stmt
from_choice = rules.or_else rules.choice from_case

abbrev from_block : Gram base Stmt
from_block = rules.or_else rules.block from_choice

module _ {text : List ℕ} {tokens : List Token} {d : ℕ → Limit} (at : ℕ) where
  pub empty_first : stands (shapes.mark (codes ";")) (from text tokens at) ≡ true → Path text tokens d rules.stmt_rule at rules.empty at (λ y. y)
  empty_first e = to_first (begin rules.stmt_rule at refl) (other text tokens from_block at (shapes.mark (codes ";")) refl e)

  pub not_empty : stands (shapes.mark (codes ";")) (from text tokens at) ≡ false → Path text tokens d rules.stmt_rule at from_block at (λ y. y)
  not_empty e = to_other (begin rules.stmt_rule at refl) (absent text tokens rules.empty at (shapes.mark (codes ";")) refl e)

  pub block_first : Path text tokens d rules.stmt_rule at from_block at (λ y. y) → stands (shapes.word (codes "begin")) (from text tokens at) ≡ true → Path text tokens d rules.stmt_rule at rules.block at (λ y. y)
  block_first w e = to_first w (other text tokens from_choice at (shapes.word (codes "begin")) refl e)

  pub not_block : Path text tokens d rules.stmt_rule at from_block at (λ y. y) → stands (shapes.word (codes "begin")) (from text tokens at) ≡ false → Path text tokens d rules.stmt_rule at from_choice at (λ y. y)
  not_block w e = to_other w (absent text tokens rules.block at (shapes.word (codes "begin")) refl e)

  pub choice_first : Path text tokens d rules.stmt_rule at from_choice at (λ y. y) → stands (shapes.word (codes "if")) (from text tokens at) ≡ true → Path text tokens d rules.stmt_rule at rules.choice at (λ y. y)
  choice_first w e = to_first w (other text tokens from_case at (shapes.word (codes "if")) refl e)

  pub not_choice : Path text tokens d rules.stmt_rule at from_choice at (λ y. y) → stands (shapes.word (codes "if")) (from text tokens at) ≡ false → Path text tokens d rules.stmt_rule at from_case at (λ y. y)
  not_choice w e = to_other w (absent text tokens rules.choice at (shapes.word (codes "if")) refl e)

  pub case_first : Path text tokens d rules.stmt_rule at from_case at (λ y. y) → stands (shapes.word (codes "case")) (from text tokens at) ≡ true → Path text tokens d rules.stmt_rule at (rules.cases false) at (λ y. y)
  case_first w e = to_first w (other text tokens from_casez at (shapes.word (codes "case")) refl e)

  pub not_case : Path text tokens d rules.stmt_rule at from_case at (λ y. y) → stands (shapes.word (codes "case")) (from text tokens at) ≡ false → Path text tokens d rules.stmt_rule at from_casez at (λ y. y)
  not_case w e = to_other w (absent text tokens (rules.cases false) at (shapes.word (codes "case")) refl e)

  pub casez_first : Path text tokens d rules.stmt_rule at from_casez at (λ y. y) → stands (shapes.word (codes "casez")) (from text tokens at) ≡ true → Path text tokens d rules.stmt_rule at (rules.cases true) at (λ y. y)
  casez_first w e = to_first w (other text tokens from_loop at (shapes.word (codes "casez")) refl e)

  pub not_casez : Path text tokens d rules.stmt_rule at from_casez at (λ y. y) → stands (shapes.word (codes "casez")) (from text tokens at) ≡ false → Path text tokens d rules.stmt_rule at from_loop at (λ y. y)
  not_casez w e = to_other w (absent text tokens (rules.cases true) at (shapes.word (codes "casez")) refl e)

  pub loop_first : Path text tokens d rules.stmt_rule at from_loop at (λ y. y) → stands (shapes.word (codes "for")) (from text tokens at) ≡ true → Path text tokens d rules.stmt_rule at rules.loop at (λ y. y)
  loop_first w e = to_first w (other text tokens rules.assignment at (shapes.word (codes "for")) refl e)

  pub not_loop : Path text tokens d rules.stmt_rule at from_loop at (λ y. y) → stands (shapes.word (codes "for")) (from text tokens at) ≡ false → Path text tokens d rules.stmt_rule at rules.assignment at (λ y. y)
  not_loop w e = to_other w (absent text tokens rules.loop at (shapes.word (codes "for")) refl e)

-- ---- where no other may nest in it

abbrev not_stmt : Rule → Bool
not_stmt shapes.stmt = false
not_stmt _ = true

module _ {text : List ℕ} {tokens : List Token} {d : ℕ → Limit} (at : ℕ) where
  choice_here : stands (shapes.word (codes "if")) (from text tokens at) ≡ true → Path text tokens d rules.stmt_rule at rules.choice at (λ y. y)
  choice_here e =
      let w1 = to_other (begin rules.stmt_rule at refl) (other text tokens rules.empty at (shapes.word (codes "if")) refl e) in
      let w2 = to_other w1 (other text tokens rules.block at (shapes.word (codes "if")) refl e) in
      to_first w2 (other text tokens from_case at (shapes.word (codes "if")) refl e)

  case_here : stands (shapes.word (codes "case")) (from text tokens at) ≡ true → Path text tokens d rules.stmt_rule at (rules.cases false) at (λ y. y)
  case_here e =
      let w1 = to_other (begin rules.stmt_rule at refl) (other text tokens rules.empty at (shapes.word (codes "case")) refl e) in
      let w2 = to_other w1 (other text tokens rules.block at (shapes.word (codes "case")) refl e) in
      let w3 = to_other w2 (other text tokens rules.choice at (shapes.word (codes "case")) refl e) in
      to_first w3 (other text tokens from_casez at (shapes.word (codes "case")) refl e)

  casez_here : stands (shapes.word (codes "casez")) (from text tokens at) ≡ true → Path text tokens d rules.stmt_rule at (rules.cases true) at (λ y. y)
  casez_here e =
      let w1 = to_other (begin rules.stmt_rule at refl) (other text tokens rules.empty at (shapes.word (codes "casez")) refl e) in
      let w2 = to_other w1 (other text tokens rules.block at (shapes.word (codes "casez")) refl e) in
      let w3 = to_other w2 (other text tokens rules.choice at (shapes.word (codes "casez")) refl e) in
      let w4 = to_other w3 (other text tokens (rules.cases false) at (shapes.word (codes "casez")) refl e) in
      to_first w4 (other text tokens from_loop at (shapes.word (codes "casez")) refl e)

  loop_here : stands (shapes.word (codes "for")) (from text tokens at) ≡ true → Path text tokens d rules.stmt_rule at rules.loop at (λ y. y)
  loop_here e =
      let w1 = to_other (begin rules.stmt_rule at refl) (other text tokens rules.empty at (shapes.word (codes "for")) refl e) in
      let w2 = to_other w1 (other text tokens rules.block at (shapes.word (codes "for")) refl e) in
      let w3 = to_other w2 (other text tokens rules.choice at (shapes.word (codes "for")) refl e) in
      let w4 = to_other w3 (other text tokens (rules.cases false) at (shapes.word (codes "for")) refl e) in
      let w5 = to_other w4 (other text tokens (rules.cases true) at (shapes.word (codes "for")) refl e) in
      to_first w5 (other text tokens rules.assignment at (shapes.word (codes "for")) refl e)

module _ (text : List ℕ) (tokens : List Token) (n : ℕ) (at : ℕ) (z : n ≡ 1) (d : ℕ → Limit) (f : d 1 ≡ most n) where
  one_left : d 1 ≡ most 1
  one_left = f ∙ ap most z

  no_stmt : (q : Rule) → not_stmt q ≡ false → (us : List Lexeme) → Spelled base (within text (inside 1 d)) (call q) us → ⊥
  no_stmt shapes.stmt e us c = call_none (setting text (inside 1 d)).within shapes.stmt (ap (λ l. allows (lowered l)) one_left) us c
  no_stmt shapes.target e us c = true_false true refl e
  no_stmt shapes.item e us c = true_false true refl e
  no_stmt shapes.block_item e us c = true_false true refl e

  nested : (p : Shape) (g : Gram base Stmt) → Path text tokens (inside 1 d) rules.stmt_rule at g at (λ y. y) → among base (viable.shapes base rules.rules 0 g) p ≡ true → has_tree_in base not_stmt g ≡ false →
      stands p (from text tokens at) ≡ true → IsRefused text tokens d (call shapes.stmt) at (error.Depth at)
  nested p g w i j e = none_inside shapes.stmt g not_stmt at (ap allows one_left) w (opens text tokens g at 0 p i e) no_stmt j

  deep_stmt : nests (from text tokens at) ≡ true → IsRefused text tokens d (call shapes.stmt) at (error.Depth at)
  deep_stmt e = elim (or_cases (stands (shapes.word (codes "case")) ts || stands (shapes.word (codes "casez")) ts) (stands (shapes.word (codes "if")) ts || stands (shapes.word (codes "for")) ts) e) [
    | inl i ↦ elim (or_cases (stands (shapes.word (codes "case")) ts) (stands (shapes.word (codes "casez")) ts) i) [
      | inl j ↦ nested (shapes.word (codes "case")) (rules.cases false) (case_here at j) refl refl j
      | inr j ↦ nested (shapes.word (codes "casez")) (rules.cases true) (casez_here at j) refl refl j
    ]
    | inr i ↦ elim (or_cases (stands (shapes.word (codes "if")) ts) (stands (shapes.word (codes "for")) ts) i) [
      | inl j ↦ nested (shapes.word (codes "if")) rules.choice (choice_here at j) refl refl j
      | inr j ↦ nested (shapes.word (codes "for")) rules.loop (loop_here at j) refl refl j
    ]
  ]
    where
      ts : List Lexeme
      ts = from text tokens at

pub stmt_last : (text : List ℕ) (tokens : List Token) (n : ℕ) (at : ℕ) → n ≡ 1 → nests (from text tokens at) ≡ true → AnswersStmts n text tokens (call shapes.stmt) at (Err (error.Depth at))
stmt_last text tokens n at z e = λ d h f. deep_stmt text tokens n at z d f e

-- none may nest: only the keyword that ends them may follow
pub stmts_none : {text : List ℕ} {tokens : List Token} {d : ℕ → Limit} (at : ℕ) (b : Bool) (e : SyntaxError) → d 1 ≡ most 0 → at ≤ length tokens → stands (shapes.word (codes "end")) (from text tokens at) ≡ false →
    b ≡ leads shapes.stmt (from text tokens at) → e ≡ cond b (error.Depth at) (error.Syntax at) → IsRefused text tokens d rules.stmts_to_end at e
stmts_none {text} {tokens} {d} at b e z w c l q =
    refuse_last (through (begin rules.stmts_to_end at refl))
    (subst (λ x. IsRefused text tokens d (until (call shapes.stmt) (rules.word (codes "end"))) at x) (sym q) (none_taken shapes.stmt (shapes.word (codes "end")) 2 at refl refl w (ap allows z) c b l))

-- ---- an if, and perhaps its else

module _ {text : List ℕ} {tokens : List Token} {d : ℕ → Limit} where
  pub branches_refused : {at : ℕ} {e : SyntaxError} → IsRefused text tokens d (call shapes.stmt) at e → IsRefused text tokens d rules.branches at e
  branches_refused {at} q = tail_refused {r = shapes.stmt} {p = shapes.word (codes "else")} {h = call shapes.stmt} {us = at} {build = λ y. y} (begin rules.branches at refl) q

  pub else_next : {at us : ℕ} {x : Stmt} → IsRead text tokens d (call shapes.stmt) at x us → stands (shapes.word (codes "else")) (from text tokens us) ≡ true → Path text tokens d rules.branches at (call shapes.stmt) (us + 1) (λ y. (x, Some y))
  else_next {at} {us} {x} q e = to_tail {r = shapes.stmt} {p = shapes.word (codes "else")} {h = call shapes.stmt} {us = at} {build = λ y. y} {x = x} (begin rules.branches at refl) q e

  pub no_else : {at us : ℕ} {x : Stmt} → IsRead text tokens d (call shapes.stmt) at x us → stands (shapes.word (codes "else")) (from text tokens us) ≡ false → IsRead text tokens d rules.branches at (x, None) us
  no_else {at} {us} {x} q e = no_tail {r = shapes.stmt} {p = shapes.word (codes "else")} {h = call shapes.stmt} {us = at} {build = λ y. y} {x = x} (begin rules.branches at refl) q e

-- ---- assignments

pub later_by : (text : List ℕ) (tokens : List Token) (at : ℕ) {t : Target} {x : Expr} {later : Bool} {place : ℕ} → later ≡ true → place ≡ place_of (from text tokens at) → rules.assigned_by later (placed text tokens at t) x ≡ stmt.Later t x place
later_by text tokens at {t} {x} e p = ap (λ b. rules.assigned_by b (placed text tokens at t) x) e ∙ ap (stmt.Later t x) (sym p)

pub now_by : (text : List ℕ) (tokens : List Token) (at : ℕ) {t : Target} {x : Expr} {later : Bool} {place : ℕ} → later ≡ false → place ≡ place_of (from text tokens at) → rules.assigned_by later (placed text tokens at t) x ≡ stmt.Now t x place
now_by text tokens at {t} {x} e p = ap (λ b. rules.assigned_by b (placed text tokens at t) x) e ∙ ap (stmt.Now t x) (sym p)

-- ---- the words before a default arm

pub exit_some : {text : List ℕ} {tokens : List Token} {d : ℕ → Limit} {A : Type 0} {g : Gram base A} {at : ℕ} (r : Result ℕ SyntaxError) {e : SyntaxError} →
    IsErrAnd r (λ y. y ≡ e) → IsRefused text tokens d g at e → MatchResult r (λ end. (x : A) × IsRead text tokens d g at x end) (λ y. IsRefused text tokens d g at y)
exit_some {text} {tokens} {d} {g = g} {at} (Err y) i w = subst (λ z. IsRefused text tokens d g at z) (sym i) w
exit_some (Ok x) i w = absurd i

-- ---- arms

-- of the arms of a case statement, from token `at` to `us`, these are read
pub record Armed (text : List ℕ) (tokens : List Token) (d : ℕ → Limit) (wild : Bool) (at us : ℕ) (xs : List Arm) : Type 0 where
  pub first : Arm
  pub behind_first : ℕ
  pub others : List Arm
  pub begun : Path text tokens d (rules.arms wild) at (until (rules.arm wild) (rules.word (codes "endcase"))) behind_first (λ ys. rules.arms_of (first, ys))
  pub taken : Taken text tokens d (rules.arm wild) (shapes.word (codes "endcase")) behind_first us others
  pub are : xs ≡ first ∷ others

pub first_refused : {text : List ℕ} {tokens : List Token} {d : ℕ → Limit} (wild : Bool) {at : ℕ} {e : SyntaxError} → IsRefused text tokens d (rules.arm wild) at e → IsRefused text tokens d (rules.arms wild) at e
first_refused wild {at} r = refuse (through (begin (rules.arms wild) at refl)) r refl

module _ {text : List ℕ} {tokens : List Token} {d : ℕ → Limit} {wild : Bool} {at : ℕ} where
  pub arms_first : {us : ℕ} {x : Arm} {none xs : List Arm} → none ≡ [] → xs ≡ none ++ (x ∷ []) → IsRead text tokens d (rules.arm wild) at x us → Armed text tokens d wild at us xs
  arms_first {us} {x} n e r = record {
    first = x;
    behind_first = us;
    others = [];
    begun = then (through (begin (rules.arms wild) at refl)) r;
    taken = taken (rules.arm wild) (shapes.word (codes "endcase")) us refl;
    are = e ∙ ap (λ ys. ys ++ (x ∷ [])) n;
  }

  pub arms_more : {us vs : ℕ} {xs zs : List Arm} {x : Arm} → Armed text tokens d wild at us xs → stands (shapes.word (codes "endcase")) (from text tokens us) ≡ false → zs ≡ xs ++ (x ∷ []) →
      IsRead text tokens d (rules.arm wild) us x vs → Armed text tokens d wild at vs zs
  arms_more {us} {vs} {xs} {zs} {x} w c e r = record {
    first = w.first;
    behind_first = w.behind_first;
    others = w.others ++ (x ∷ []);
    begun = w.begun;
    taken = take_more refl w.taken c refl r;
    are = e ∙ ap (λ ys. ys ++ (x ∷ [])) w.are;
  }

  pub arms_stop : {us : ℕ} {xs : List Arm} {e : SyntaxError} → Armed text tokens d wild at us xs → stands (shapes.word (codes "endcase")) (from text tokens us) ≡ false →
      IsRefused text tokens d (rules.arm wild) us e → IsRefused text tokens d (rules.arms wild) at e
  arms_stop w c r = refuse_last w.begun (take_stops refl w.taken c r)

  pub arms_end : {us : ℕ} {xs : List Arm} → Armed text tokens d wild at us xs → stands (shapes.word (codes "endcase")) (from text tokens us) ≡ true → IsRead text tokens d (rules.arms wild) at xs (us + 1)
  arms_end {us} w c = subst (λ ys. IsRead text tokens d (rules.arms wild) at ys (us + 1)) (sym w.are) (last w.begun (take_ends refl refl w.taken c))
