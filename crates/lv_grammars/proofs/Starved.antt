-- Where limits leave a grammar no tree.
use Rattle.std.proofs.Common.{◌≡◌, List, [], ◌∷◌, ◌++◌, Bool, true, false, ◌&&◌, Some, None, refl, ◌⊎◌, inl, inr}
use Rattle.lv_grammars.specs.Grammar.{Base, Gram, left, right, none, one, leaf, call, act, both, either, perhaps, many, until, tail}
use Rattle.lv_grammars.specs.Spelling.{Leaves, Calls, Spells, Language, called}
use Rattle.lv_grammars.specs.Sets.{has_tree_in}
use Rattle.lv_grammars.specs.Nexts.{Opens}
use Rattle.lv_grammars.specs.Reading.{Passes, PassesLimit}
use Rattle.lv_grammars.proofs.Lists.{true_false, not_or_left, not_or_right}
use Rattle.lv_grammars.proofs.Readers.{Spelled, Absent, begun}
use Rattle.lv_grammars.proofs.Repeats.{Turn, turn, last, more, begins_more}

one_false : (a c : Bool) → a && c ≡ false → (a ≡ false) ⊎ (c ≡ false)
one_false false c e = inl refl
one_false true c e = inr e

-- ---- a grammar of which it is computed, from the rules that have trees

module _ (b : Base) (l : Leaves b) (c : Calls b) (f : b.Rule → Bool) (k : (r : b.Rule) → f r ≡ false → (ts : List b.Token) (o : Bool) (x : b.RuleTree r) → c r ts o x → ⊥) where
  pub no_tree_in : {A : Type 0} (g : Gram b A) → has_tree_in b f g ≡ false → (ts : List b.Token) (o : Bool) (x : A) → Spells b l c g ts o x → ⊥
  no_tree_in none e ts o x s = true_false true refl e
  no_tree_in (one p) e ts o x s = true_false true refl e
  no_tree_in (leaf j) e ts o x s = true_false true refl e
  no_tree_in (call r) e ts o x s = k r e ts o x s
  no_tree_in (act v g) e ts o x s = no_tree_in g e ts o s.0 s.1
  no_tree_in (both g h) e ts o x s = elim (one_false (has_tree_in b f g) (has_tree_in b f h) e) [
    | inl d ↦ no_tree_in g d s.0 s.2 x.0 s.5
    | inr d ↦ no_tree_in h d s.1 s.3 x.1 s.6
  ]
  no_tree_in (either g h) e ts o (left x) s = no_tree_in g (not_or_left (has_tree_in b f g) (has_tree_in b f h) e) ts o x s
  no_tree_in (either g h) e ts o (right x) s = no_tree_in h (not_or_right (has_tree_in b f g) (has_tree_in b f h) e) ts o x s
  no_tree_in (perhaps g) e ts o x s = true_false true refl e
  no_tree_in (many g) e ts o x s = true_false true refl e
  no_tree_in (until g h) e ts o x s = no_tree_in h e s.1 o x.1 s.5
  no_tree_in (tail r p h) e ts o (x, None) s = k r e ts s.0 x s.1
  no_tree_in (tail r p h) e ts o (x, Some y) s = k r e s.0 false x s.4

pub no_tree : (b : Base) (l : Language b) (f : b.Rule → Bool) → ((r : b.Rule) → f r ≡ false → (us : List b.Token) → Spelled b l (call r) us → ⊥) →
    {A : Type 0} (g : Gram b A) → has_tree_in b f g ≡ false → (us : List b.Token) → Spelled b l g us → ⊥
no_tree b l f k g e us c = no_tree_in b l.leaves (called b l) f (λ r z ts o x s. k r z ts (o, x, s)) g e us c.0 c.1 c.2

-- ---- what a reader tells there

-- where a tree begins, and none is within the limits
pub starved : {b : Base} {all low : Language b} {A : Type 0} {g : Gram b A} {ts : List b.Token} → Opens b all g ts → ((us : List b.Token) → Spelled b low g us → ⊥) → Passes b all low g ts ts
starved o n = record {
  front = [];
  token = o.token;
  others = o.others;
  cut = o.cut;
  at = o.cut;
  alive = o.alive;
  high = λ c. n ((o.token ∷ []) ++ c.more) (c.ending, c.tree, c.spelled);
}

-- one of any number begins, and none is within the limits
pub until_starved : {b : Base} {all low : Language b} {A B : Type 0} {g : Gram b A} {h : Gram b B} {ts : List b.Token} → Absent b all low h ts → Opens b all g ts → ((us : List b.Token) → Spelled b low g us → ⊥) →
    (us : List b.Token) × Spelled b all h us → (us : List b.Token) × Spelled b low h us → PassesLimit b all low (until g h) ts ts
until_starved {b} {all} {low} {A} {B} {g} {h} {ts} k o n v w = record {
  passes = record {
    front = [];
    token = o.token;
    others = o.others;
    cut = o.cut;
    at = o.cut;
    alive = begins_more b all g h (o.token ∷ []) v.0 v.1 o.alive;
    high = λ c. stuck c.more (turn b low g h ((o.token ∷ []) ++ c.more) (c.ending, c.tree, c.spelled));
  };
  within = record { front = []; cut = refl; alive = begun [] w.0 (w.1.0, ([], w.1.1), ([], w.0, false, refl, (refl, refl), w.1.2)) };
}
  where
    stuck : (us : List b.Token) → Turn b low g h ((o.token ∷ []) ++ us) → ⊥
    stuck us (last d) = k.off o.token o.others us o.cut (k.within (o.token ∷ us) d)
    stuck us (more d) = n d.2.0 (d.2.2, d.1.0, d.2.5)
