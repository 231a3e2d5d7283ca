-- How a reader goes on, part by part.
use Rattle.std.proofs.Common.{◌≡◌, ℕ, zero, suc, ◌+◌, List, [], ◌∷◌, ◌++◌, drop, Bool, true, false, not, Option, Some, None, refl, sym, ◌∙◌, ap, subst, add-one, codes}
use Rattle.std.proofs.lemmas.List.{map-append}
use Rattle.lv_ast.specs.declared.tokens.Token.{Token}
use Rattle.lv_exprs.specs.declared.error.SyntaxError.{SyntaxError}
use Rattle.lv_exprs.specs.declared.error.SyntaxError.TheVariants as error
use Rattle.lv_grammars.specs.Grammar.{Gram, OneOf, left, right, one, act, both, either, perhaps, many, until}
use Rattle.lv_grammars.specs.Spelling.{Limit}
use Rattle.lv_grammars.specs.Sets.{these, apart, shapes, among, may_be_empty, first, next, is_good}
use Rattle.lv_grammars.specs.Nexts.{Next, Lacks, Outside, Opens}
use Rattle.lv_grammars.specs.At.{StandingUntil}
use Rattle.lv_grammars.proofs.Readers.{next_read}
use Rattle.lv_grammars.proofs.Loops as loops
use Rattle.lv_grammars.proofs.Rounds as rounds
use Rattle.lv_grammars.proofs.Good as good
use Rattle.lv_grammars.proofs.Ways as ways
use Rattle.lv_grammars.proofs.Grammars.{four_true}
use Rattle.lv_grammars.proofs.Lists.{true_false, nil_cons, same_tail}
use Rattle.lv_grammar.specs.Lexemes.{Lexeme, lexemes, head}
use Rattle.lv_grammar.specs.Shapes.{Shape, Rule, base, table, fits, stands}
use Rattle.lv_grammar.specs.Shapes as shapes
use Rattle.lv_grammar.specs.Leaves.{all, within, limits}
use Rattle.lv_grammar.specs.Rules.{rules, comma, list, behind}
use Rattle.lv_parser.specs.Answers.{from, IsRead, Refuses, IsRefused}
use Rattle.lv_parser.specs.Paths.{Path, Listed, Taken}
use Rattle.lv_grammar.proofs.Settings.{setting, Rooms, tree_within}
use Rattle.lv_grammar.proofs.Shaped.{shaped}
use Rattle.lv_grammars.proofs.Readers.{Spelled}
use Rattle.lv_grammars.specs.Sets.{has_tree_in}
use Rattle.lv_parser.proofs.Rooms.{no_rule, none}

-- ---- tokens

pub drop_next : {T : Type 0} (n : ℕ) (xs : List T) (t : T) (ys : List T) → drop n xs ≡ t ∷ ys → drop (suc n) xs ≡ ys
drop_next zero (x ∷ xs) t ys e = same_tail _ _ _ _ e
drop_next (suc n) (x ∷ xs) t ys e = drop_next n xs t ys e
drop_next zero [] t ys e = absurd (nil_cons _ _ (sym e))
drop_next (suc n) [] t ys e = absurd (nil_cons _ _ (sym e))

stands_cut : (p : Shape) (ts : List Lexeme) → stands p ts ≡ true → (us : List Lexeme) × (ts ≡ head ts ∷ us) × (fits p (head ts) ≡ true)
stands_cut p [] e = true_false _ e refl
stands_cut p (t ∷ ts) e = (ts, refl, e)

pub next_of : (p : Shape) (text : List ℕ) (tokens : List Token) (at : ℕ) → stands p (from text tokens at) ≡ true → Next base p (from text tokens at) (head (from text tokens at)) (from text tokens (at + 1))
next_of p text tokens at e =
    let c : (us : List Lexeme) × (from text tokens at ≡ head (from text tokens at) ∷ us) × (fits p (head (from text tokens at)) ≡ true) = stands_cut p (from text tokens at) e in
    let f : drop (at + 1) (lexemes text tokens) ≡ c.0 = ap (λ n. drop n (lexemes text tokens)) (add-one at) ∙ drop_next at (lexemes text tokens) _ c.0 c.1 in
    record { cut = c.1 ∙ ap (λ us. head (from text tokens at) ∷ us) (sym f); fits = c.2 }

pub lacks_of : (p : Shape) (ts : List Lexeme) → stands p ts ≡ false → Lacks base p ts
lacks_of p ts e = record { out = λ m us f. sym (ap (stands p) f) ∙ e }

-- the token itself
pub token_read : {text : List ℕ} {tokens : List Token} (d : ℕ → Limit) (p : Shape) (at : ℕ) → stands p (from text tokens at) ≡ true → IsRead text tokens d (one p) at (head (from text tokens at)) (at + 1)
token_read {text} {tokens} d p at e = record { reads = next_read (next_of p text tokens at e) }

many_good : {A : Type 0} (g : Gram base A) → is_good base table (many g) ≡ true → is_good base table g ≡ true
many_good g z =
    let w : (is_good base table g ≡ true) × (not (may_be_empty base g) ≡ true) × (apart base (next base table g) (first base table g) ≡ true) ×
    (apart base (these (table.tail_mark ∷ [])) (first base table g) ≡ true) = four_true _ _ _ _ z in
    w.0

-- ---- what the next token says

pub opens : {A : Type 0} (text : List ℕ) (tokens : List Token) (h : Gram base A) (us : ℕ) (n : ℕ) (p : Shape) → among base (shapes base rules n h) p ≡ true → stands p (from text tokens us) ≡ true →
    Opens base (all text) h (from text tokens us)
opens text tokens h us n p z e = good.opens (setting text limits) n {p = p} z (next_of p text tokens us e)

-- a token that begins something else
pub other : {A : Type 0} (text : List ℕ) (tokens : List Token) (h : Gram base A) (us : ℕ) (p : Shape) → apart base (these (p ∷ [])) (first base table h) ≡ true → stands p (from text tokens us) ≡ true →
    Outside base table h (from text tokens us)
other text tokens h us p z e = good.outside_next (setting text limits) {p = p} z (next_of p text tokens us e)

-- none that begins this
pub absent : {A : Type 0} (text : List ℕ) (tokens : List Token) (h : Gram base A) (us : ℕ) (p : Shape) → first base table h ≡ these (p ∷ []) → stands p (from text tokens us) ≡ false →
    Outside base table h (from text tokens us)
absent text tokens h us p z e = good.outside_one z (lacks_of p (from text tokens us) e)

-- some token is of the shape
pub one_tree : (text : List ℕ) (d : ℕ → Limit) (p : Shape) → (us : List Lexeme) × Spelled base (within text d) (one p) us
one_tree text d p = let w : (t : Lexeme) × (fits p t ≡ true) = shaped.witness p in (w.0 ∷ [], (false, w.0, (refl, w.1, refl)))

-- ---- one part after the other

module _ {text : List ℕ} {tokens : List Token} {d : ℕ → Limit} where
  pub begin : {A : Type 0} (g : Gram base A) (at : ℕ) → is_good base table g ≡ true → Path text tokens d g at g at (λ x. x)
  begin g at z = record { way = ways.begin table (all text) (within text d) g (from text tokens at) z }

  pub through : {A B C : Type 0} {g : Gram base A} {at : ℕ} {h : Gram base B} {us : ℕ} {f : B → C} {build : C → A} → Path text tokens d g at (act f h) us build → Path text tokens d g at h us (λ y. build (f y))
  through w = record { way = ways.through w.way }

  pub then : {A B C : Type 0} {g : Gram base A} {at : ℕ} {p : Gram base B} {h : Gram base C} {us vs : ℕ} {build : B × C → A} {x : B} →
      Path text tokens d g at (both p h) us build → IsRead text tokens d p us x vs → Path text tokens d g at h vs (λ y. build (x, y))
  then w r = record { way = ways.then (setting text d) w.way r.reads }

  pub last : {A B : Type 0} {g : Gram base A} {at : ℕ} {h : Gram base B} {us end : ℕ} {build : B → A} {y : B} →
      Path text tokens d g at h us build → IsRead text tokens d h us y end → IsRead text tokens d g at (build y) end
  last w r = record { reads = ways.last w.way r.reads }

  -- what is left has a tree, of rules that have trees
  pub refuse_in : (f : Rule → Bool) → Rooms text d f → {A B C : Type 0} {g : Gram base A} {at : ℕ} {p : Gram base B} {h : Gram base C} {us : ℕ} {build : B × C → A} {e : SyntaxError} →
      Path text tokens d g at (both p h) us build → IsRefused text tokens d p us e → has_tree_in base f h ≡ true → IsRefused text tokens d g at e
  refuse_in f m {g = g} {at} {p = p} {h} {us} {build} {e} w r z = record { why = why e w r.why }
    where
      why : (e : SyntaxError) → Path text tokens d g at (both p h) us build → Refuses text tokens d p us e → Refuses text tokens d g at e
      why error.NoMemory w r = tt
      why (error.Syntax k) w r = (r.0, ways.stop (setting text d) w.way r.1)
      why (error.Depth k) w r = ways.high (setting text d) w.way (tree_within text d f m h z) r

  pub refuse : {A B C : Type 0} {g : Gram base A} {at : ℕ} {p : Gram base B} {h : Gram base C} {us : ℕ} {build : B × C → A} {e : SyntaxError} →
      Path text tokens d g at (both p h) us build → IsRefused text tokens d p us e → has_tree_in base no_rule h ≡ true → IsRefused text tokens d g at e
  refuse w r z = refuse_in no_rule none w r z

  pub refuse_last : {A B : Type 0} {g : Gram base A} {at : ℕ} {h : Gram base B} {us : ℕ} {build : B → A} {e : SyntaxError} →
      Path text tokens d g at h us build → IsRefused text tokens d h us e → IsRefused text tokens d g at e
  refuse_last {g = g} {at} {h = h} {us} {build} {e} w r = record { why = why e w r.why }
    where
      why : (e : SyntaxError) → Path text tokens d g at h us build → Refuses text tokens d h us e → Refuses text tokens d g at e
      why error.NoMemory w r = tt
      why (error.Syntax k) w r = (r.0, ways.last_stops w.way r.1)
      why (error.Depth k) w r = ways.last_high w.way r

  pub no_room : {A : Type 0} {g : Gram base A} {at : ℕ} → IsRefused text tokens d g at error.NoMemory
  no_room = record { why = tt }

  -- ---- choices

  pub to_left : {A B C : Type 0} {g : Gram base A} {at : ℕ} {h : Gram base B} {k : Gram base C} {us : ℕ} {build : OneOf B C → A} →
      Path text tokens d g at (either h k) us build → Outside base table k (from text tokens us) → Path text tokens d g at h us (λ y. build (left y))
  to_left w o = record { way = ways.to_left (setting text d) w.way o }

  pub to_right : {A B C : Type 0} {g : Gram base A} {at : ℕ} {h : Gram base B} {k : Gram base C} {us : ℕ} {build : OneOf B C → A} →
      Path text tokens d g at (either h k) us build → Outside base table h (from text tokens us) → Path text tokens d g at k us (λ y. build (right y))
  to_right w o = record { way = ways.to_right (setting text d) w.way o }

  pub to_some : {A B : Type 0} {g : Gram base A} {at : ℕ} {h : Gram base B} {us : ℕ} {build : Option B → A} →
      Path text tokens d g at (perhaps h) us build → Opens base (all text) h (from text tokens us) → Path text tokens d g at h us (λ y. build (Some y))
  to_some w o = record { way = ways.to_some w.way o }

  pub to_none : {A B : Type 0} {g : Gram base A} {at : ℕ} {h : Gram base B} {us : ℕ} {build : Option B → A} →
      Path text tokens d g at (perhaps h) us build → Outside base table h (from text tokens us) → IsRead text tokens d g at (build None) us
  to_none w o = record { reads = ways.to_none (setting text d) w.way o }

  -- ---- lists with commas

  pub listed : {A : Type 0} {x : Gram base A} {at us : ℕ} {y : A} {none zs : List A} → is_good base table (list x) ≡ true → none ≡ [] → zs ≡ none ++ (y ∷ []) → IsRead text tokens d x at y us →
      Listed text tokens d x at us zs
  listed {x = x} {at} {us} {y} z n e r = record {
    first = y;
    behind_first = us;
    others = [];
    begun = then (through (begin (list x) at z)) r;
    standing = loops.stand (all text) (within text d) (both comma x) (from text tokens us);
    are = e ∙ ap (λ xs. xs ++ (y ∷ [])) n;
  }

  pub list_refused : {A : Type 0} {x : Gram base A} {at : ℕ} {e : SyntaxError} → is_good base table (list x) ≡ true → IsRefused text tokens d x at e → IsRefused text tokens d (list x) at e
  list_refused {x = x} {at} z r = refuse (through (begin (list x) at z)) r refl

  -- an entry with its comma
  entry_begins : {A : Type 0} {x : Gram base A} {at us : ℕ} {xs : List A} → Listed text tokens d x at us xs → stands (shapes.mark (codes ",")) (from text tokens us) ≡ true →
      Path text tokens d (both comma x) us x (us + 1) (λ y. (head (from text tokens us), y))
  entry_begins {x = x} {us = us} w c = then (begin (both comma x) us (many_good (both comma x) w.begun.way.good)) (token_read d (shapes.mark (codes ",")) us c)

  pub list_more : {A : Type 0} {x : Gram base A} {at us vs : ℕ} {xs zs : List A} {y : A} → Listed text tokens d x at us xs → stands (shapes.mark (codes ",")) (from text tokens us) ≡ true →
      zs ≡ xs ++ (y ∷ []) → IsRead text tokens d x (us + 1) y vs → Listed text tokens d x at vs zs
  list_more {x = x} {at} {us} {vs} {xs} {zs} {y} w c e r = record {
    first = w.first;
    behind_first = w.behind_first;
    others = w.others ++ ((head (from text tokens us), y) ∷ []);
    begun = w.begun;
    standing = rounds.more (setting text d) w.begun.way.good w.standing (opens text tokens (both comma x) us 0 (shapes.mark (codes ",")) refl c) (last (entry_begins w c) r).reads;
    are = e ∙ ap (λ ys. ys ++ (y ∷ [])) w.are ∙ ap (λ ys. w.first ∷ ys) (sym (map-append behind w.others ((head (from text tokens us), y) ∷ [])));
  }

  pub list_stops : {A : Type 0} {x : Gram base A} {at us : ℕ} {xs : List A} {e : SyntaxError} →
      Listed text tokens d x at us xs → stands (shapes.mark (codes ",")) (from text tokens us) ≡ true → IsRefused text tokens d x (us + 1) e → IsRefused text tokens d (list x) at e
  list_stops {x = x} {at} {us} {xs} {e} w c r = record { why = why e (refuse_last (entry_begins w c) r).why }
    where
      o : Opens base (all text) (both comma x) (from text tokens us)
      o = opens text tokens (both comma x) us 0 (shapes.mark (codes ",")) refl c

      why : (e : SyntaxError) → Refuses text tokens d (both comma x) us e → Refuses text tokens d (list x) at e
      why error.NoMemory r = tt
      why (error.Syntax k) r = (r.0, ways.last_stops w.begun.way (rounds.more_stops (setting text d) w.begun.way.good w.standing o r.1))
      why (error.Depth k) r = ways.last_high w.begun.way (rounds.more_high (setting text d) w.begun.way.good w.standing o r)

  pub list_ends : {A : Type 0} {x : Gram base A} {at us : ℕ} {xs : List A} →
      Listed text tokens d x at us xs → stands (shapes.mark (codes ",")) (from text tokens us) ≡ false → IsRead text tokens d (list x) at xs us
  list_ends {x = x} {at} {us} {xs} w c =
      subst (λ zs. IsRead text tokens d (list x) at zs us) (sym w.are)
      (record { reads = ways.last w.begun.way (rounds.no_more (setting text d) w.begun.way.good w.standing (absent text tokens (both comma x) us (shapes.mark (codes ",")) refl c)) })

  -- ---- any number up to a token

  pub taken : {A : Type 0} (x : Gram base A) (p : Shape) (at : ℕ) {none : List A} → none ≡ [] → Taken text tokens d x p at at none
  taken x p at n = record {
    standing = subst (λ zs. StandingUntil base (all text) (within text d) x (one p) (from text tokens at) (from text tokens at) zs) (sym n)
        (loops.stand_until (all text) (within text d) x (one p) (from text tokens at));
  }

  pub take_more : {A : Type 0} {x : Gram base A} {p : Shape} {at us vs : ℕ} {xs zs : List A} {y : A} → is_good base table (until x (one p)) ≡ true →
      Taken text tokens d x p at us xs → stands p (from text tokens us) ≡ false → zs ≡ xs ++ (y ∷ []) → IsRead text tokens d x us y vs → Taken text tokens d x p at vs zs
  take_more {x = x} {p} {at} {us} {vs} z w c e r =
      record {
        standing = subst (λ ys. StandingUntil base (all text) (within text d) x (one p) (from text tokens at) (from text tokens vs) ys) (sym e)
            (rounds.one_more (setting text d) z w.standing (absent text tokens (one p) us p refl c) r.reads);
      }

  pub take_stops : {A : Type 0} {x : Gram base A} {p : Shape} {at us : ℕ} {xs : List A} {e : SyntaxError} →
      is_good base table (until x (one p)) ≡ true → Taken text tokens d x p at us xs → stands p (from text tokens us) ≡ false → IsRefused text tokens d x us e → IsRefused text tokens d (until x (one p)) at e
  take_stops {x = x} {p} {at} {us} {e = e} z w c r = record { why = why e r.why }
    where
      o : Outside base table (one p) (from text tokens us)
      o = absent text tokens (one p) us p refl c

      why : (e : SyntaxError) → Refuses text tokens d x us e → Refuses text tokens d (until x (one p)) at e
      why error.NoMemory r = tt
      why (error.Syntax k) r = (r.0, rounds.one_stops (setting text d) z w.standing o r.1)
      why (error.Depth k) r = rounds.one_high (setting text d) z w.standing o (one_tree text d p) r

  pub take_ends : {A : Type 0} {x : Gram base A} {p : Shape} {at us : ℕ} {xs : List A} →
      is_good base table (until x (one p)) ≡ true → apart base (these (p ∷ [])) (first base table x) ≡ true → Taken text tokens d x p at us xs → stands p (from text tokens us) ≡ true →
      IsRead text tokens d (until x (one p)) at (xs, head (from text tokens us)) (us + 1)
  take_ends {x = x} {p} {at} {us} z a w c = record { reads = ways.last (rounds.ending (setting text d) z w.standing (other text tokens x us p a c)) (token_read d p us c).reads }
