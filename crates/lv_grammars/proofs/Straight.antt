-- Readers that read one part after the other.
use Rattle.std.proofs.Common.{◌≡◌, List, subst}
use Rattle.lv_grammars.specs.Grammar.{Base, Gram, both, act}
use Rattle.lv_grammars.specs.Spelling.{Language}
use Rattle.lv_grammars.specs.Reading.{Reads, Fails, PassesLimit}
use Rattle.lv_grammars.specs.At.{At}
use Rattle.lv_grammars.proofs.Readers.{Spelled, act_at}
use Rattle.lv_grammars.proofs.Pairs
use Rattle.lv_grammars.proofs.Pairs.{Both, within_both}

pub start : {b : Base} {all low : Language b} {A : Type 0} (g : Gram b A) (ts : List b.Token) → At b all low g ts low g ts (λ x. x)
start g ts = record { reads = λ y rest r. r; fails = λ rest r. r; passes = λ rest r. r; within = λ rest r. r }

-- one way behind the other
pub onward : {b : Base} {all low inner innermost : Language b} {A B C : Type 0} {g : Gram b A} {h : Gram b B} {i : Gram b C} {ts us vs : List b.Token} {build : B → A} {make : C → B} →
    At b all low g ts inner h us build → At b all inner h us innermost i vs make → At b all low g ts innermost i vs (λ z. build (make z))
onward {make = make} a c = record {
  reads = λ y rest r. a.reads (make y) rest (c.reads y rest r);
  fails = λ rest r. a.fails rest (c.fails rest r);
  passes = λ rest r. a.passes rest (c.passes rest r);
  within = λ rest r. a.within rest (c.within rest r);
}

-- the same trees, said otherwise
pub rebuilt : {b : Base} {all low inner : Language b} {A B : Type 0} {g : Gram b A} {h : Gram b B} {ts us : List b.Token} {build : B → A} (again : B → A) →
    ((y : B) → build y ≡ again y) → At b all low g ts inner h us build → At b all low g ts inner h us again
rebuilt {b} {all} {low} {g = g} {ts = ts} again e a = record {
  reads = λ y rest r. subst (λ x. Reads b all low g ts x rest) (e y) (a.reads y rest r);
  fails = λ rest r. a.fails rest r;
  passes = λ rest r. a.passes rest r;
  within = λ rest r. a.within rest r;
}

-- the next part is read
pub step : {b : Base} {all low inner : Language b} {A B C : Type 0} {g : Gram b A} {p : Gram b B} {h : Gram b C} {ts us vs : List b.Token} {build : B × C → A} {x : B} →
    At b all low g ts inner (both p h) us build → Both b all inner p h → Reads b all inner p us x vs → At b all low g ts inner h vs (λ y. build (x, y))
step {b} {all} {low} {inner} {A} {B} {C} {g} {p} {h} {ts} {us} {vs} {build} {x} a k r = onward {make = λ y. (x, y)} a (Pairs.after b all inner p h k us vs x r)

-- nothing is read of the next part
pub stops : {b : Base} {all low inner : Language b} {A B C : Type 0} {g : Gram b A} {p : Gram b B} {h : Gram b C} {ts us rest : List b.Token} {build : B × C → A} →
    At b all low g ts inner (both p h) us build → Both b all inner p h → Fails b all p us rest → Fails b all g ts rest
stops {b} {all} {low} {inner} {A} {B} {C} {g} {p} {h} {ts} {us} {rest} a k r = a.fails rest (Pairs.fails b all inner p h k us rest r)

-- what is left passes a limit
pub all_high : {b : Base} {all low inner : Language b} {A B : Type 0} {g : Gram b A} {h : Gram b B} {ts us rest : List b.Token} {build : B → A} →
    At b all low g ts inner h us build → PassesLimit b all inner h us rest → PassesLimit b all low g ts rest
all_high {rest = rest} a r = record { passes = a.passes rest r.passes; within = a.within rest r.within }

-- the next part passes a limit, and what is behind it has a tree within the limits
pub is_high : {b : Base} {all low inner : Language b} {A B C : Type 0} {g : Gram b A} {p : Gram b B} {h : Gram b C} {ts us rest : List b.Token} {build : B × C → A} →
    At b all low g ts inner (both p h) us build → Both b all inner p h → (vs : List b.Token) × Spelled b inner h vs → PassesLimit b all inner p us rest → PassesLimit b all low g ts rest
is_high {b} {all} {low} {inner} {A} {B} {C} {g} {p} {h} {ts} {us} {rest} a k w r =
    all_high a (record { passes = Pairs.passes b all inner p h k us rest r.passes; within = within_both w r.within })

-- the part is another's trees, seen by f
pub seen : {b : Base} {all low inner : Language b} {A B C : Type 0} {g : Gram b A} {h : Gram b B} {ts us : List b.Token} {f : B → C} {build : C → A} →
    At b all low g ts inner (act f h) us build → At b all low g ts inner h us (λ y. build (f y))
seen {h = h} {us = us} {f = f} a = onward {make = f} a (act_at f h us)
