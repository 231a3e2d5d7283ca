-- Readers that append each tree that they read to a list.
use Rattle.std.proofs.Common.{List, [], ◌∷◌, ◌++◌, false, refl, ap, sym, subst, append_assoc, append-nil}
use Rattle.lv_grammars.specs.Grammar.{Base, Gram, many, until}
use Rattle.lv_grammars.specs.Spelling.{Language}
use Rattle.lv_grammars.specs.Nexts.{Opens}
use Rattle.lv_grammars.specs.Reading.{Reads, Fails, PassesLimit}
use Rattle.lv_grammars.specs.At.{At, Standing, StandingUntil}
use Rattle.lv_grammars.proofs.Readers.{Spelled, Absent}
use Rattle.lv_grammars.proofs.Pairs.{Both}
use Rattle.lv_grammars.proofs.Straight.{start, onward, rebuilt, step, stops, is_high}
use Rattle.lv_grammars.proofs.Repeats.{many_more, many_none, until_more, until_end}

-- ---- any number

pub stand : {b : Base} (all low : Language b) {A : Type 0} (g : Gram b A) (ts : List b.Token) → Standing b all low g ts ts []
stand all low g ts = record { at = start (many g) ts }

pub stand_more : {b : Base} {all low : Language b} {A : Type 0} {g : Gram b A} {ts us vs : List b.Token} {xs : List A} {x : A} →
    Standing b all low g ts us xs → Opens b all g us → Both b all low g (many g) → Reads b all low g us x vs → Standing b all low g ts vs (xs ++ (x ∷ []))
stand_more {low = low} {xs = xs} {x = x} s o k r =
    record { at = rebuilt (λ ys. (xs ++ (x ∷ [])) ++ ys) (λ ys. sym (append_assoc xs (x ∷ []) ys)) (step (onward s.at (many_more low o)) k r) }

pub stand_fails : {b : Base} {all low : Language b} {A : Type 0} {g : Gram b A} {ts us rest : List b.Token} {xs : List A} →
    Standing b all low g ts us xs → Opens b all g us → Both b all low g (many g) → Fails b all g us rest → Fails b all (many g) ts rest
stand_fails {low = low} s o k r = stops (onward s.at (many_more low o)) k r

pub stand_high : {b : Base} {all low : Language b} {A : Type 0} {g : Gram b A} {ts us rest : List b.Token} {xs : List A} →
    Standing b all low g ts us xs → Opens b all g us → Both b all low g (many g) → PassesLimit b all low g us rest → PassesLimit b all low (many g) ts rest
stand_high {low = low} s o k r = is_high (onward s.at (many_more low o)) k ([], (false, [], (refl, refl))) r

pub stand_done : {b : Base} {all low : Language b} {A : Type 0} {g : Gram b A} {ts us : List b.Token} {xs : List A} →
    Standing b all low g ts us xs → Absent b all low g us → Reads b all low (many g) ts xs us
stand_done {b} {all} {low} {g = g} {ts = ts} {us = us} {xs = xs} s k = subst (λ ys. Reads b all low (many g) ts ys us) (append-nil xs) (s.at.reads [] us (many_none k))

-- ---- any number, up to what ends them

pub stand_until : {b : Base} (all low : Language b) {A B : Type 0} (g : Gram b A) (h : Gram b B) (ts : List b.Token) → StandingUntil b all low g h ts ts []
stand_until all low g h ts = record { at = start (until g h) ts }

pub until_next : {b : Base} {all low : Language b} {A B : Type 0} {g : Gram b A} {h : Gram b B} {ts us vs : List b.Token} {xs : List A} {x : A} →
    StandingUntil b all low g h ts us xs → Absent b all low h us → Both b all low g (until g h) → Reads b all low g us x vs → StandingUntil b all low g h ts vs (xs ++ (x ∷ []))
until_next {g = g} {xs = xs} {x = x} s o k r =
    record { at = rebuilt (λ p. ((xs ++ (x ∷ [])) ++ p.0, p.1)) (λ p. ap (λ ys. (ys, p.1)) (sym (append_assoc xs (x ∷ []) p.0))) (step (onward s.at (until_more g o)) k r) }

pub until_fails : {b : Base} {all low : Language b} {A B : Type 0} {g : Gram b A} {h : Gram b B} {ts us rest : List b.Token} {xs : List A} →
    StandingUntil b all low g h ts us xs → Absent b all low h us → Both b all low g (until g h) → Fails b all g us rest → Fails b all (until g h) ts rest
until_fails {g = g} s o k r = stops (onward s.at (until_more g o)) k r

pub until_high : {b : Base} {all low : Language b} {A B : Type 0} {g : Gram b A} {h : Gram b B} {ts us rest : List b.Token} {xs : List A} →
    StandingUntil b all low g h ts us xs → Absent b all low h us → Both b all low g (until g h) → (vs : List b.Token) × Spelled b low h vs → PassesLimit b all low g us rest → PassesLimit b all low (until g h) ts rest
until_high {g = g} s o k w r = is_high (onward s.at (until_more g o)) k (w.0, (w.1.0, ([], w.1.1), ([], w.0, false, refl, (refl, refl), w.1.2))) r

pub until_done : {b : Base} {all low : Language b} {A B : Type 0} {g : Gram b A} {h : Gram b B} {ts us : List b.Token} {xs : List A} →
    StandingUntil b all low g h ts us xs → Absent b all low g us → At b all low (until g h) ts low h us (λ y. (xs, y))
until_done {h = h} {xs = xs} s k = rebuilt (λ y. (xs, y)) (λ y. ap (λ ys. (ys, y)) (append-nil xs)) (onward s.at (until_end h k))
