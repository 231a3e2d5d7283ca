use Rattle.std.proofs.Common.{◌≡◌, [], ◌∷◌, Some, None, Bool, true, false, nat_lt, not, refl, ap, ◌∙◌}
use Rattle.lv_exprs.specs.declared.symbol.Divider.TheVariants as d
use Rattle.lv_exprs.specs.declared.symbol.Symbol.{Symbol}
use Rattle.lv_exprs.specs.declared.symbol.Symbol.TheVariants as t
use Rattle.lv_exprs.specs.Levels.{level}
use Rattle.lv_exprs.specs.Forms.{Form, text}
use Rattle.lv_exprs.specs.Machine.{State, want, have, casts, shut, dotted, alone, settle, pull, have_shift, shift, done, stop, finish, step, start, run}
use Rattle.lv_exprs.specs.Laws.{goes_on, NothingGoesOn, HasOneForm}
use Rattle.lv_exprs.proofs.Unique.{found, one_form}
use Rattle.lv_exprs.proofs.Ends.{whole_run, dead}

low_sign : (b : Bool) → not b ≡ false → b ≡ true
low_sign true e = refl
low_sign false e = let q : true ≡ false = e in absurd (differ q)
  where
    differ : true ≡ false → ⊥
    differ q = cc

none_taken : (p : Bool) (x : Form) (k : Symbol) → goes_on k ≡ false → have_shift p [] x k ≡ None
none_taken p x (t.Sign s) e = rw (low_sign (nat_lt (level s) 2) e) refl
none_taken p x t.Question e = absurd (let q : true ≡ false = e in cc)
none_taken p x t.LeftBracket e = absurd (let q : true ≡ false = e in cc)
none_taken p x t.Dot e = absurd (let q : true ≡ false = e in cc)
none_taken p x (t.Based b) e = absurd (let q : true ≡ false = e in cc)
none_taken p x (t.Divider d.Colon) e = refl
none_taken p x (t.Divider _) e = refl
none_taken p x _ e = refl

none_shifted : (p : Bool) (m : State) (x : Form) (k : Symbol) → finish m [] ≡ done x [] → goes_on k ≡ false → shift p m k ≡ None
none_shifted p (have [] y) x k f e = none_taken p y k e
none_shifted p (alone y) x k f e = refl
none_shifted p (have (g ∷ s) y) x k f e = absurd (let q : stop [] ≡ done x [] = f in cc)
none_shifted p (want s) x k f e = absurd (let q : stop [] ≡ done x [] = f in cc)
none_shifted p (casts s b) x k f e = absurd (let q : stop [] ≡ done x [] = f in cc)
none_shifted p (shut s v w) x k f e = absurd (let q : stop [] ≡ done x [] = f in cc)
none_shifted p (dotted s y) x k f e = absurd (let q : stop [] ≡ done x [] = f in cc)

one_pull : (k : Symbol) → goes_on k ≡ false → pull k ≡ 1
one_pull (t.Sign s) e = rw (low_sign (nat_lt (level s) 2) e) refl
one_pull t.Question e = absurd (let q : true ≡ false = e in cc)
one_pull t.LeftBracket e = absurd (let q : true ≡ false = e in cc)
one_pull t.Dot e = absurd (let q : true ≡ false = e in cc)
one_pull (t.Based b) e = absurd (let q : true ≡ false = e in cc)
one_pull _ e = refl

pub nothing_goes_on : NothingGoesOn
nothing_goes_on p x k e v b =
    let h : (s : State) × (run p start (text x) ≡ Some s) × (finish (settle 1 s) [] ≡ done x []) = whole_run p (text x) start x (found p x v) in
    let n : step p h.0 k ≡ None = ap (λ q. shift p (settle q h.0) k) (one_pull k e) ∙ none_shifted p (settle 1 h.0) x k h.2 e in
    dead p (text x) h.0 k h.1 n b

pub has_one_form : HasOneForm
has_one_form p x y v w e = one_form p x y v w e
