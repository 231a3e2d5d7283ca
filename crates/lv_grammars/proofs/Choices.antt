-- Readers of one of two grammars, and of a grammar or nothing.
use Rattle.std.proofs.Common.{◌≡◌, List, [], ◌∷◌, Bool, false, Option, Some, None, refl}
use Rattle.lv_grammars.specs.Grammar.{Base, Gram, OneOf, left, right, either, perhaps}
use Rattle.lv_grammars.specs.Spelling.{Language, IsSpelled}
use Rattle.lv_grammars.specs.Nexts.{Opens}
use Rattle.lv_grammars.specs.Reading.{Begins, Reads}
use Rattle.lv_grammars.specs.At.{At}
use Rattle.lv_grammars.proofs.Lists.{nil_cons}
use Rattle.lv_grammars.proofs.Readers.{Spelled, Absent, at_case, begun}

-- a choice is the one where it isn't the other
first_one : (b : Base) (l : Language b) {A B : Type 0} (g : Gram b A) (h : Gram b B) (ts : List b.Token) → (Spelled b l h ts → ⊥) → Spelled b l (either g h) ts → Spelled b l g ts
first_one b l {A} {B} g h ts f c = go c.0 c.1 c.2
  where
    go : (o : Bool) (z : OneOf A B) → IsSpelled b l (either g h) ts o z → Spelled b l g ts
    go o (left x) s = (o, x, s)
    go o (right y) s = absurd (f (o, y, s))

second_one : (b : Base) (l : Language b) {A B : Type 0} (g : Gram b A) (h : Gram b B) (ts : List b.Token) → (Spelled b l g ts → ⊥) → Spelled b l (either g h) ts → Spelled b l h ts
second_one b l {A} {B} g h ts f c = go c.0 c.1 c.2
  where
    go : (o : Bool) (z : OneOf A B) → IsSpelled b l (either g h) ts o z → Spelled b l h ts
    go o (left x) s = absurd (f (o, x, s))
    go o (right y) s = (o, y, s)

-- the second is not there
pub left_at : {b : Base} {all low : Language b} {A B : Type 0} {h : Gram b B} {ts : List b.Token} (g : Gram b A) → Absent b all low h ts → At b all low (either g h) ts low g ts left
left_at {b} {all} {low} {A} {B} {h} {ts} g k = at_case (record {
  into_all = λ us c. (c.0, left c.1, c.2);
  into_low = λ us o x s. (o, s);
  back_all = λ m us vs e c. first_one b all g h (m ∷ vs) (k.off m us vs e) c;
  back_low = λ m us vs e c. first_one b low g h (m ∷ vs) (λ d. k.off m us vs e (k.within (m ∷ vs) d)) c;
  back_none = λ c e. first_one b all g h [] k.some c;
})

-- the first is not there
pub right_at : {b : Base} {all low : Language b} {A B : Type 0} {g : Gram b A} {ts : List b.Token} (h : Gram b B) → Absent b all low g ts → At b all low (either g h) ts low h ts right
right_at {b} {all} {low} {A} {B} {g} {ts} h k = at_case (record {
  into_all = λ us c. (c.0, right c.1, c.2);
  into_low = λ us o x s. (o, s);
  back_all = λ m us vs e c. second_one b all g h (m ∷ vs) (k.off m us vs e) c;
  back_low = λ m us vs e c. second_one b low g h (m ∷ vs) (λ d. k.off m us vs e (k.within (m ∷ vs) d)) c;
  back_none = λ c e. second_one b all g h [] k.some c;
})

-- a grammar or nothing is the grammar, where there is some token
given : (b : Base) (l : Language b) {A : Type 0} (g : Gram b A) (m : b.Token) (ts : List b.Token) → Spelled b l (perhaps g) (m ∷ ts) → Spelled b l g (m ∷ ts)
given b l {A} g m ts c = go c.0 c.1 c.2
  where
    go : (o : Bool) (z : Option A) → IsSpelled b l (perhaps g) (m ∷ ts) o z → Spelled b l g (m ∷ ts)
    go o None s = absurd (nil_cons m ts s.0)
    go o (Some x) s = (o, x, s)

-- it is there
pub perhaps_at : {b : Base} {all : Language b} {A : Type 0} {g : Gram b A} {ts : List b.Token} (low : Language b) → Opens b all g ts → At b all low (perhaps g) ts low g ts Some
perhaps_at {b} {all} {A} {g} {ts} low k = at_case (record {
  into_all = λ us c. (c.0, Some c.1, c.2);
  into_low = λ us o x s. (o, s);
  back_all = λ m us vs e c. given b all g m vs c;
  back_low = λ m us vs e c. given b low g m vs c;
  back_none = λ c e. nothing c.0 c.1 c.2 e;
})
  where
    nothing : (o : Bool) (z : Option A) → IsSpelled b all (perhaps g) [] o z → ((m : b.Token) (us : List b.Token) → ts ≡ m ∷ us → Begins b all (perhaps g) (m ∷ []) → ⊥) → Spelled b all g []
    nothing o None s e = absurd (e k.token k.others k.cut (begun (k.token ∷ []) k.alive.more (k.alive.ending, Some k.alive.tree, k.alive.spelled)))
    nothing o (Some x) s e = (o, x, s)

-- it is not there
pub perhaps_none : {b : Base} {all low : Language b} {A : Type 0} {g : Gram b A} {ts : List b.Token} → Absent b all low g ts → Reads b all low (perhaps g) ts None ts
perhaps_none {b} {all} {low} {A} {g} {ts} k = record {
  front = [];
  ending = false;
  cut = refl;
  spelled = (refl, refl);
  ends = λ t us e c. k.off t us c.more e (given b all g t c.more (c.ending, c.tree, c.spelled));
}
