-- Readers of good grammars, part by part.
use Rattle.std.proofs.Common.{◌≡◌, List, [], ◌∷◌, true, false, not, Option, Some, None}
use Rattle.lv_grammars.specs.Grammar.{Base, Gram, OneOf, left, right, one, call, act, both, either, perhaps, tail}
use Rattle.lv_grammars.specs.Spelling.{Language, allows, inner}
use Rattle.lv_grammars.specs.Sets.{Table, these, apart, may_be_empty, first, next, is_good}
use Rattle.lv_grammars.specs.Nexts.{Next, Lacks, Opens, Outside}
use Rattle.lv_grammars.specs.Reading.{Reads, Fails, PassesLimit}
use Rattle.lv_grammars.specs.At.{Way}
use Rattle.lv_grammars.proofs.Lists.{and_left, and_right, of_not}
use Rattle.lv_grammars.proofs.Grammars.{four_true, five_true}
use Rattle.lv_grammars.proofs.Readers.{Spelled, next_read, one_fails}
use Rattle.lv_grammars.proofs.Straight.{start, onward, step, stops, all_high, is_high, seen}
use Rattle.lv_grammars.proofs.Choices.{left_at, right_at, perhaps_at, perhaps_none}
use Rattle.lv_grammars.proofs.Tails
use Rattle.lv_grammars.proofs.Rules.{call_at}
use Rattle.lv_grammars.proofs.Good.{Setting, absent_of, both_of, tail_of, rule_good}

-- ---- where reading begins

pub begin : {b : Base} (t : Table b) (all low : Language b) {A : Type 0} (g : Gram b A) (ts : List b.Token) → is_good b t g ≡ true → Way b t all low g ts low g ts (λ x. x)
begin t all low g ts z = record { at = start g ts; good = z }

-- a rule's grammar, where the limits allow it
pub begin_rule : {b : Base} {t : Table b} {all low : Language b} → Setting b t all low → (r : b.Rule) (ts : List b.Token) → allows (low.limits (b.count r)) ≡ true →
    Way b t all low (call r) ts (inner b low r) (low.rules r) ts (λ x. x)
begin_rule s r ts a = record { at = call_at s.within r ts a; good = rule_good s r }

-- ---- one part after the other

both_good : (b : Base) (t : Table b) {A B : Type 0} (g : Gram b A) (h : Gram b B) → is_good b t (both g h) ≡ true → (is_good b t g ≡ true) × (is_good b t h ≡ true)
both_good b t g h z =
    let w : (is_good b t g ≡ true) × (is_good b t h ≡ true) × (apart b (next b t g) (first b t h) ≡ true) × (apart b (these (t.tail_mark ∷ [])) (first b t h) ≡ true) = four_true _ _ _ _ z in
    (w.0, w.1)

-- the next part is read
pub then : {b : Base} {t : Table b} {all low inner : Language b} {A B C : Type 0} {g : Gram b A} {p : Gram b B} {h : Gram b C} {ts us vs : List b.Token} {build : B × C → A} {x : B} →
    Setting b t all inner → Way b t all low g ts inner (both p h) us build → Reads b all inner p us x vs → Way b t all low g ts inner h vs (λ y. build (x, y))
then {b} {t} {p = p} {h = h} s w r = record { at = step w.at (both_of s w.good) r; good = (both_good b t p h w.good).1 }

-- nothing is read of it
pub stop : {b : Base} {t : Table b} {all low inner : Language b} {A B C : Type 0} {g : Gram b A} {p : Gram b B} {h : Gram b C} {ts us rest : List b.Token} {build : B × C → A} →
    Setting b t all inner → Way b t all low g ts inner (both p h) us build → Fails b all p us rest → Fails b all g ts rest
stop s w r = stops w.at (both_of s w.good) r

-- it passes a limit, and what is behind it has a tree within the limits
pub high : {b : Base} {t : Table b} {all low inner : Language b} {A B C : Type 0} {g : Gram b A} {p : Gram b B} {h : Gram b C} {ts us rest : List b.Token} {build : B × C → A} →
    Setting b t all inner → Way b t all low g ts inner (both p h) us build → (vs : List b.Token) × Spelled b inner h vs → PassesLimit b all inner p us rest → PassesLimit b all low g ts rest
high s w v r = is_high w.at (both_of s w.good) v r

-- the next part by itself
pub part : {b : Base} {t : Table b} {all low inner : Language b} {A B C : Type 0} {g : Gram b A} {p : Gram b B} {h : Gram b C} {ts us : List b.Token} {build : B × C → A} →
    Way b t all low g ts inner (both p h) us build → Way b t all inner p us inner p us (λ x. x)
part {b} {t} {p = p} {h = h} {us = us} w = record { at = start p us; good = (both_good b t p h w.good).0 }

-- the next token is of the shape
pub then_one : {b : Base} {t : Table b} {all low inner : Language b} {A C : Type 0} {g : Gram b A} {p : b.Shape} {h : Gram b C} {ts us vs : List b.Token} {m : b.Token} {build : b.Token × C → A} →
    Setting b t all inner → Way b t all low g ts inner (both (one p) h) us build → Next b p us m vs → Way b t all low g ts inner h vs (λ y. build (m, y))
then_one s w n = then s w (next_read n)

-- it is not
pub stop_one : {b : Base} {t : Table b} {all low inner : Language b} {A C : Type 0} {g : Gram b A} {p : b.Shape} {h : Gram b C} {ts us : List b.Token} {build : b.Token × C → A} →
    Setting b t all inner → Way b t all low g ts inner (both (one p) h) us build → Lacks b p us → Fails b all g ts us
stop_one s w f = stop s w (one_fails s.base f)

-- the last part
pub last_one : {b : Base} {t : Table b} {all low inner : Language b} {A : Type 0} {g : Gram b A} {p : b.Shape} {ts us vs : List b.Token} {m : b.Token} {build : b.Token → A} →
    Way b t all low g ts inner (one p) us build → Next b p us m vs → Reads b all low g ts (build m) vs
last_one {vs = vs} {m = m} w n = w.at.reads m vs (next_read n)

pub last_not : {b : Base} {t : Table b} {all low inner : Language b} {A : Type 0} {g : Gram b A} {p : b.Shape} {ts us : List b.Token} {build : b.Token → A} →
    Setting b t all inner → Way b t all low g ts inner (one p) us build → Lacks b p us → Fails b all g ts us
last_not {us = us} s w f = w.at.fails us (one_fails s.base f)

pub last : {b : Base} {t : Table b} {all low inner : Language b} {A B : Type 0} {g : Gram b A} {h : Gram b B} {ts us rest : List b.Token} {build : B → A} {y : B} →
    Way b t all low g ts inner h us build → Reads b all inner h us y rest → Reads b all low g ts (build y) rest
last {rest = rest} {y = y} w r = w.at.reads y rest r

pub last_stops : {b : Base} {t : Table b} {all low inner : Language b} {A B : Type 0} {g : Gram b A} {h : Gram b B} {ts us rest : List b.Token} {build : B → A} →
    Way b t all low g ts inner h us build → Fails b all h us rest → Fails b all g ts rest
last_stops {rest = rest} w r = w.at.fails rest r

pub last_high : {b : Base} {t : Table b} {all low inner : Language b} {A B : Type 0} {g : Gram b A} {h : Gram b B} {ts us rest : List b.Token} {build : B → A} →
    Way b t all low g ts inner h us build → PassesLimit b all inner h us rest → PassesLimit b all low g ts rest
last_high w r = all_high w.at r

-- ---- into a grammar

pub through : {b : Base} {t : Table b} {all low inner : Language b} {A B C : Type 0} {g : Gram b A} {h : Gram b B} {ts us : List b.Token} {f : B → C} {build : C → A} →
    Way b t all low g ts inner (act f h) us build → Way b t all low g ts inner h us (λ y. build (f y))
through w = record { at = seen w.at; good = w.good }

either_good : (b : Base) (t : Table b) {A B : Type 0} (g : Gram b A) (h : Gram b B) → is_good b t (either g h) ≡ true →
    (is_good b t g ≡ true) × (is_good b t h ≡ true) × (may_be_empty b g ≡ false) × (may_be_empty b h ≡ false)
either_good b t g h z =
    let w : (is_good b t g ≡ true) × (is_good b t h ≡ true) × (not (may_be_empty b g) ≡ true) × (not (may_be_empty b h) ≡ true) × (apart b (first b t g) (first b t h) ≡ true) = five_true _ _ _ _ _ z in
    (w.0, w.1, of_not _ w.2, of_not _ w.3)

-- the next token, if there is one, begins no tree of the second
pub to_left : {b : Base} {t : Table b} {all low inner : Language b} {A B C : Type 0} {g : Gram b A} {h : Gram b B} {k : Gram b C} {ts us : List b.Token} {build : OneOf B C → A} →
    Setting b t all inner → Way b t all low g ts inner (either h k) us build → Outside b t k us → Way b t all low g ts inner h us (λ y. build (left y))
to_left {b} {t} {h = h} {k = k} s w f =
    let z : (is_good b t h ≡ true) × (is_good b t k ≡ true) × (may_be_empty b h ≡ false) × (may_be_empty b k ≡ false) = either_good b t h k w.good in
    record { at = onward w.at (left_at h (absent_of s z.1 z.3 f)); good = z.0 }

-- it begins no tree of the first
pub to_right : {b : Base} {t : Table b} {all low inner : Language b} {A B C : Type 0} {g : Gram b A} {h : Gram b B} {k : Gram b C} {ts us : List b.Token} {build : OneOf B C → A} →
    Setting b t all inner → Way b t all low g ts inner (either h k) us build → Outside b t h us → Way b t all low g ts inner k us (λ y. build (right y))
to_right {b} {t} {h = h} {k = k} s w f =
    let z : (is_good b t h ≡ true) × (is_good b t k ≡ true) × (may_be_empty b h ≡ false) × (may_be_empty b k ≡ false) = either_good b t h k w.good in
    record { at = onward w.at (right_at k (absent_of s z.0 z.2 f)); good = z.1 }

-- it begins a tree
pub to_some : {b : Base} {t : Table b} {all low inner : Language b} {A B : Type 0} {g : Gram b A} {h : Gram b B} {ts us : List b.Token} {build : Option B → A} →
    Way b t all low g ts inner (perhaps h) us build → Opens b all h us → Way b t all low g ts inner h us (λ y. build (Some y))
to_some {b} {t} {inner = inner} {h = h} w o = record { at = onward w.at (perhaps_at inner o); good = and_left (is_good b t h) (not (may_be_empty b h)) w.good }

-- it begins none
pub to_none : {b : Base} {t : Table b} {all low inner : Language b} {A B : Type 0} {g : Gram b A} {h : Gram b B} {ts us : List b.Token} {build : Option B → A} →
    Setting b t all inner → Way b t all low g ts inner (perhaps h) us build → Outside b t h us → Reads b all low g ts (build None) us
to_none {b} {t} {h = h} {us = us} s w f = w.at.reads None us
    (perhaps_none (absent_of s (and_left (is_good b t h) (not (may_be_empty b h)) w.good) (of_not (may_be_empty b h) (and_right (is_good b t h) (not (may_be_empty b h)) w.good)) f))

-- ---- a rule's tree and perhaps a tail

pub to_tail : {b : Base} {t : Table b} {all low inner : Language b} {A B : Type 0} {g : Gram b A} (r : b.Rule) {p : b.Shape} {h : Gram b B} {ts us vs ws : List b.Token} {m : b.Token} {build : b.RuleTree r × Option B → A} {x : b.RuleTree r} →
    Setting b t all inner → Way b t all low g ts inner (tail r p h) us build → Reads b all inner (call r) us x vs → Next b p vs m ws → Way b t all low g ts inner h ws (λ y. build (x, Some y))
to_tail {b} {t} {all} {inner = inner} r {p = p} {h = h} {us = us} {vs = vs} {ws = ws} {m = m} {x = x} s w q f = record {
  at = onward w.at (Tails.behind_next b all inner r p h (tail_of s w.good) us vs ws m x q f);
  good = tail_good;
}
  where
    tail_good : is_good b t h ≡ true
    tail_good = let z : (is_good b t h ≡ true) × (not (may_be_empty b h) ≡ true) × (b.same p t.tail_mark ≡ true) × (apart b (t.rule_next r) (these (t.tail_mark ∷ [])) ≡ true) = four_true _ _ _ _ w.good in z.0

pub no_tail : {b : Base} {t : Table b} {all low inner : Language b} {A B : Type 0} {g : Gram b A} (r : b.Rule) {p : b.Shape} {h : Gram b B} {ts us vs : List b.Token} {build : b.RuleTree r × Option B → A} {x : b.RuleTree r} →
    Setting b t all inner → Way b t all low g ts inner (tail r p h) us build → Reads b all inner (call r) us x vs → Lacks b p vs → Reads b all low g ts (build (x, None)) vs
no_tail {b} {all = all} {inner = inner} r {p = p} {h = h} {us = us} {vs = vs} {x = x} s w q f = w.at.reads (x, None) vs (Tails.without b all inner r p h (tail_of s w.good) us vs x q f)

pub tail_stops : {b : Base} {t : Table b} {all low inner : Language b} {A B : Type 0} {g : Gram b A} (r : b.Rule) {p : b.Shape} {h : Gram b B} {ts us rest : List b.Token} {build : b.RuleTree r × Option B → A} →
    Setting b t all inner → Way b t all low g ts inner (tail r p h) us build → Fails b all (call r) us rest → Fails b all g ts rest
tail_stops {b} {all = all} {inner = inner} r {p = p} {h = h} {us = us} {rest = rest} s w q = w.at.fails rest (Tails.fails b all inner r p h (tail_of s w.good) us rest q)

pub tail_high : {b : Base} {t : Table b} {all low inner : Language b} {A B : Type 0} {g : Gram b A} (r : b.Rule) {p : b.Shape} {h : Gram b B} {ts us rest : List b.Token} {build : b.RuleTree r × Option B → A} →
    Setting b t all inner → Way b t all low g ts inner (tail r p h) us build → PassesLimit b all inner (call r) us rest → PassesLimit b all low g ts rest
tail_high {b} {all = all} {inner = inner} r {p = p} {h = h} {us = us} {rest = rest} s w q =
    all_high w.at (record { passes = Tails.passes b all inner r p h (tail_of s w.good) us rest q.passes; within = Tails.within_tail q.within })
