-- Readers of good grammars that append each tree that they read to a list.
use Rattle.std.proofs.Common.{◌≡◌, List, [], ◌∷◌, ◌++◌, true, false, not}
use Rattle.lv_grammars.specs.Grammar.{Base, Gram, many, until}
use Rattle.lv_grammars.specs.Spelling.{Language}
use Rattle.lv_grammars.specs.Sets.{Table, these, apart, may_be_empty, first, next, is_good}
use Rattle.lv_grammars.specs.Nexts.{Opens, Outside}
use Rattle.lv_grammars.specs.Reading.{Reads, Fails, PassesLimit}
use Rattle.lv_grammars.specs.At.{Way, Standing, StandingUntil}
use Rattle.lv_grammars.proofs.Lists.{of_not}
use Rattle.lv_grammars.proofs.Readers.{Spelled}
use Rattle.lv_grammars.proofs.Starved.{until_starved}
use Rattle.lv_grammars.proofs.Opening.{tree}
use Rattle.lv_grammars.proofs.Grammars.{four_true, nine_true}
use Rattle.lv_grammars.proofs.Loops.{stand_more, stand_fails, stand_high, stand_done, until_next, until_fails, until_high, until_done}
use Rattle.lv_grammars.proofs.Good.{Setting, absent_of, many_both, until_both}

-- ---- any number

many_good : (b : Base) (t : Table b) {A : Type 0} (g : Gram b A) → is_good b t (many g) ≡ true → (is_good b t g ≡ true) × (may_be_empty b g ≡ false)
many_good b t g z =
    let w : (is_good b t g ≡ true) × (not (may_be_empty b g) ≡ true) × (apart b (next b t g) (first b t g) ≡ true) × (apart b (these (t.tail_mark ∷ [])) (first b t g) ≡ true) = four_true _ _ _ _ z in
    (w.0, of_not _ w.1)

-- one more is read
pub more : {b : Base} {t : Table b} {all low : Language b} {A : Type 0} {g : Gram b A} {ts us vs : List b.Token} {xs : List A} {x : A} →
    Setting b t all low → is_good b t (many g) ≡ true → Standing b all low g ts us xs → Opens b all g us → Reads b all low g us x vs → Standing b all low g ts vs (xs ++ (x ∷ []))
more s z w o r = stand_more w o (many_both s z) r

-- one more begins, and is not read
pub more_stops : {b : Base} {t : Table b} {all low : Language b} {A : Type 0} {g : Gram b A} {ts us rest : List b.Token} {xs : List A} →
    Setting b t all low → is_good b t (many g) ≡ true → Standing b all low g ts us xs → Opens b all g us → Fails b all g us rest → Fails b all (many g) ts rest
more_stops s z w o r = stand_fails w o (many_both s z) r

-- one more passes a limit
pub more_high : {b : Base} {t : Table b} {all low : Language b} {A : Type 0} {g : Gram b A} {ts us rest : List b.Token} {xs : List A} →
    Setting b t all low → is_good b t (many g) ≡ true → Standing b all low g ts us xs → Opens b all g us → PassesLimit b all low g us rest → PassesLimit b all low (many g) ts rest
more_high s z w o r = stand_high w o (many_both s z) r

-- none begins
pub no_more : {b : Base} {t : Table b} {all low : Language b} {A : Type 0} {g : Gram b A} {ts us : List b.Token} {xs : List A} →
    Setting b t all low → is_good b t (many g) ≡ true → Standing b all low g ts us xs → Outside b t g us → Reads b all low (many g) ts xs us
no_more {b} {t} {g = g} s z w f = let k : (is_good b t g ≡ true) × (may_be_empty b g ≡ false) = many_good b t g z in stand_done w (absent_of s k.0 k.1 f)

-- ---- any number, up to what ends them

until_good : (b : Base) (t : Table b) {A B : Type 0} (g : Gram b A) (h : Gram b B) → is_good b t (until g h) ≡ true →
    (is_good b t g ≡ true) × (is_good b t h ≡ true) × (may_be_empty b g ≡ false) × (may_be_empty b h ≡ false)
until_good b t g h z =
    let w : (is_good b t g ≡ true) × (is_good b t h ≡ true) × (not (may_be_empty b g) ≡ true) × (not (may_be_empty b h) ≡ true) × (apart b (next b t g) (first b t g) ≡ true) ×
    (apart b (next b t g) (first b t h) ≡ true) × (apart b (first b t g) (first b t h) ≡ true) × (apart b (these (t.tail_mark ∷ [])) (first b t g) ≡ true) × (apart b (these (t.tail_mark ∷ [])) (first b t h) ≡ true) =
    nine_true _ _ _ _ _ _ _ _ _ z in
    (w.0, w.1, of_not _ w.2, of_not _ w.3)

-- what ends them does not begin, and one more is read
pub one_more : {b : Base} {t : Table b} {all low : Language b} {A B : Type 0} {g : Gram b A} {h : Gram b B} {ts us vs : List b.Token} {xs : List A} {x : A} →
    Setting b t all low → is_good b t (until g h) ≡ true → StandingUntil b all low g h ts us xs → Outside b t h us → Reads b all low g us x vs → StandingUntil b all low g h ts vs (xs ++ (x ∷ []))
one_more {b} {t} {g = g} {h = h} s z w f r =
    let k : (is_good b t g ≡ true) × (is_good b t h ≡ true) × (may_be_empty b g ≡ false) × (may_be_empty b h ≡ false) = until_good b t g h z in
    until_next w (absent_of s k.1 k.3 f) (until_both s z) r

-- neither is read
pub one_stops : {b : Base} {t : Table b} {all low : Language b} {A B : Type 0} {g : Gram b A} {h : Gram b B} {ts us rest : List b.Token} {xs : List A} →
    Setting b t all low → is_good b t (until g h) ≡ true → StandingUntil b all low g h ts us xs → Outside b t h us → Fails b all g us rest → Fails b all (until g h) ts rest
one_stops {b} {t} {g = g} {h = h} s z w f r =
    let k : (is_good b t g ≡ true) × (is_good b t h ≡ true) × (may_be_empty b g ≡ false) × (may_be_empty b h ≡ false) = until_good b t g h z in
    until_fails w (absent_of s k.1 k.3 f) (until_both s z) r

-- one more passes a limit
pub one_high : {b : Base} {t : Table b} {all low : Language b} {A B : Type 0} {g : Gram b A} {h : Gram b B} {ts us rest : List b.Token} {xs : List A} →
    Setting b t all low → is_good b t (until g h) ≡ true → StandingUntil b all low g h ts us xs → Outside b t h us → (vs : List b.Token) × Spelled b low h vs → PassesLimit b all low g us rest → PassesLimit b all low (until g h) ts rest
one_high {b} {t} {g = g} {h = h} s z w f v r =
    let k : (is_good b t g ≡ true) × (is_good b t h ≡ true) × (may_be_empty b g ≡ false) × (may_be_empty b h ≡ false) = until_good b t g h z in
    until_high w (absent_of s k.1 k.3 f) (until_both s z) v r

-- no more begins: what ends them is left
pub ending : {b : Base} {t : Table b} {all low : Language b} {A B : Type 0} {g : Gram b A} {h : Gram b B} {ts us : List b.Token} {xs : List A} →
    Setting b t all low → is_good b t (until g h) ≡ true → StandingUntil b all low g h ts us xs → Outside b t g us → Way b t all low (until g h) ts low h us (λ y. (xs, y))
ending {b} {t} {g = g} {h = h} s z w f =
    let k : (is_good b t g ≡ true) × (is_good b t h ≡ true) × (may_be_empty b g ≡ false) × (may_be_empty b h ≡ false) = until_good b t g h z in
    record { at = until_done w (absent_of s k.0 k.2 f); good = k.1 }

-- one begins, and none is within the limits
pub none_within : {b : Base} {t : Table b} {all low : Language b} {A B : Type 0} {g : Gram b A} {h : Gram b B} {ts : List b.Token} →
    Setting b t all low → is_good b t (until g h) ≡ true → Outside b t h ts → Opens b all g ts → ((us : List b.Token) → Spelled b low g us → ⊥) → (us : List b.Token) × Spelled b low h us → PassesLimit b all low (until g h) ts ts
none_within {b} {t} {all} {g = g} {h = h} s z f o n w =
    let k : (is_good b t g ≡ true) × (is_good b t h ≡ true) × (may_be_empty b g ≡ false) × (may_be_empty b h ≡ false) = until_good b t g h z in
    until_starved (absent_of s k.1 k.3 f) o n (tree b t all s.base s.language h) w
