-- The three answers, from where a run stands.
use Rattle.std.proofs.Common.{◌≡◌, ℕ, ◌+◌, ◌≤◌, ◌<◌, List, [], ◌∷◌, ◌++◌, Some, None, Bool, cond, refl, ap, sym, subst, ◌∙◌, arith, length, take, drop, get_or, inl, inr}
use Rattle.std.proofs.lemmas.List.{take_more, take-take, take-append-drop}
use Rattle.std.proofs.lemmas.Bool.{cases_order}
use Rattle.lv_exprs.specs.declared.symbol.Symbol.{Symbol}
use Rattle.lv_exprs.specs.declared.symbol.Symbol.TheVariants as t
use Rattle.lv_exprs.specs.Forms.{Form, text, Begins}
use Rattle.lv_exprs.specs.Heights.{height}
use Rattle.lv_exprs.specs.Lows.{low, base}
use Rattle.lv_exprs.specs.Machine.{State, have, alone, settle, done, finish, step, start, run, then_run, told, Sound}
use Rattle.lv_exprs.specs.Reading.{Reads, Fails, IsTooHigh}
use Rattle.lv_exprs.proofs.Unique.{found}
use Rattle.lv_exprs.proofs.Kept.{Spells, Kept, settled}
use Rattle.lv_exprs.proofs.Ends.{of_some, ran, started, whole_run, alive, alive_low, dead}
use Rattle.lv_exprs.proofs.Heights.{as_high}

-- nothing begins with the next token
dead_at : (p : Bool) (ts : List Symbol) (n : ℕ) (s : State) → run p start (take n ts) ≡ Some s → (n < length ts → step p s (get_or ts n t.Other) ≡ None) →
    n < length ts → Begins p (take (n + 1) ts) → ⊥
dead_at p ts n s e d l b = dead p (take n ts) s (get_or ts n t.Other) e (d l) (subst (λ (us : List Symbol). Begins p us) (take_more ts n t.Other l) b)

pub spelled_by : (p : Bool) (ts : List Symbol) (n : ℕ) (s : State) → run p start (take n ts) ≡ Some s → Spells p (take n ts) s
spelled_by p ts n s e = of_some (λ z. Spells p (take n ts) z) (run p start (take n ts)) s e (ran p (take n ts) [] start (started p))

pub reads : (p : Bool) (ts : List Symbol) (n : ℕ) (s : State) (x : Form) → n ≤ length ts → run p start (take n ts) ≡ Some s → settle 1 s ≡ have [] x →
    (n < length ts → step p s (get_or ts n t.Other) ≡ None) → Reads p ts n x
reads p ts n s x w e f d =
    let h : Spells p (take n ts) s = spelled_by p ts n s e in
    let k : Kept p 1 (told s) (settle 1 s) = settled p 1 s (omega arith) h.sound h.fresh in
    let v : Sound p (have [] x) = subst (λ (z : State). Sound p z) f k.sound in
    record { within = w; expr = inl (v.1, v.2); spells = sym (ap told f) ∙ k.spells ∙ h.spells; ends = dead_at p ts n s e d }

-- a literal with free bits, after which nothing comes
pub reads_alone : (p : Bool) (ts : List Symbol) (n : ℕ) (x : Form) → n ≤ length ts → run p start (take n ts) ≡ Some (alone x) → Reads p ts n x
reads_alone p ts n x w e =
    let h : Spells p (take n ts) (alone x) = spelled_by p ts n (alone x) e in
    record { within = w; expr = inr h.sound; spells = h.spells; ends = dead_at p ts n (alone x) e (λ l. refl) }

-- a run's beginning is a run
begun : (p : Bool) (ts us : List Symbol) (s z : State) → run p s (ts ++ us) ≡ Some z → (y : State) × (run p s ts ≡ Some y)
begun p [] us s z e = (s, refl)
begun p (k ∷ ks) us s z e =
    (elim (step p s k) as (λ o. then_run o (λ s'. run p s' (ks ++ us)) ≡ Some z → (y : State) × (then_run o (λ s'. run p s' ks) ≡ Some y))
    [ None ↦ (λ h. absurd (let q : None ≡ Some z = h in cc)) | Some s' ↦ (λ h. begun p ks us s' z h) ]) e

-- a longer beginning, cut
cut : (ts : List Symbol) (m n : ℕ) → m ≤ n → n ≤ length ts → take m ts ++ drop m (take n ts) ≡ take n ts
cut ts m n h l = ap (λ us. us ++ drop m (take n ts)) (sym (take-take m n ts h)) ∙ take-append-drop m (take n ts)

-- a run goes on by a token
pub run_more : (p : Bool) (ts : List Symbol) (k : Symbol) (s z z' : State) → run p s ts ≡ Some z → step p z k ≡ Some z' → run p s (ts ++ (k ∷ [])) ≡ Some z'
run_more p [] k s z z' e f = let q : s ≡ z = cc in ap (λ o. then_run o (λ s'. Some s')) (ap (λ y. step p y k) q ∙ f)
run_more p (j ∷ ks) k s z z' e f =
    (elim (step p s j) as (λ o. then_run o (λ s'. run p s' ks) ≡ Some z → then_run o (λ s'. run p s' (ks ++ (k ∷ []))) ≡ Some z')
    [ None ↦ (λ h. absurd (let q : None ≡ Some z = h in cc)) | Some s' ↦ (λ h. run_more p ks k s' z z' h f) ]) e

pub fails : (p : Bool) (ts : List Symbol) (n : ℕ) (s : State) → n ≤ length ts → run p start (take n ts) ≡ Some s → ((x : Form) → finish (settle 1 s) [] ≡ done x [] → ⊥) →
    (n < length ts → step p s (get_or ts n t.Other) ≡ None) → Fails p ts n
fails p ts n s w e f d = record { within = w; alive = alive p (take n ts) s e; dead = dead_at p ts n s e d; none = none }
  where
    none : (m : ℕ) (x : Form) → Reads p ts m x → ⊥
    none m x r = elim (cases_order m n) [
      | inl q ↦
          let h : (z : State) × (run p start (text x) ≡ Some z) × (finish (settle 1 z) [] ≡ done x []) = whole_run p (text x) start x (found p x r.expr) in
          let same : h.0 ≡ s = (let a : run p start (text x) ≡ run p start (take n ts) = ap (run p start) (r.spells ∙ ap (λ i. take i ts) q) in let b : run p start (text x) ≡ Some h.0 = h.1 in cc) in
          f x (ap (λ y. finish (settle 1 y) []) (sym same) ∙ h.2)
      | inr (inl l) ↦
          let g : (y : State) × (run p start (take (m + 1) ts) ≡ Some y) = begun p (take (m + 1) ts) (drop (m + 1) (take n ts)) start s (ap (run p start) (cut ts (m + 1) n (omega arith) w) ∙ e) in
          r.ends (omega arith) (alive p (take (m + 1) ts) g.0 g.1)
      | inr (inr l) ↦
          let w' : m ≤ length ts = r.within in
          dead_at p ts n s e d (omega arith) (drop (n + 1) (take m ts), x, r.expr, r.spells ∙ sym (cut ts (n + 1) m (omega arith) r.within))
    ]

pub too_high : (limit : ℕ) (p : Bool) (ts : List Symbol) (n : ℕ) (s s' : State) → n < length ts → run p start (take n ts) ≡ Some s → step p s (get_or ts n t.Other) ≡ Some s' →
    low s ≤ cond p (limit + 1) limit → limit < base p s' → IsTooHigh limit p ts n
too_high limit p ts n s s' l e f b h =
    let r : run p start (take (n + 1) ts) ≡ Some s' = ap (run p start) (take_more ts n t.Other l) ∙ run_more p (take n ts) (get_or ts n t.Other) start s s' e f in
    record {
      within = l;
      alive = alive p (take (n + 1) ts) s' r;
      high = λ more x v w. let q : base p s' ≤ height x = as_high p (take (n + 1) ts) more s' x r v w in omega arith;
      before = alive_low p (take n ts) (get_or ts n t.Other) s s' (cond p (limit + 1) limit) e f b;
    }
