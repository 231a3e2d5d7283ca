-- Candidates that are guarded by switches.
use Rattle.std.proofs.Common.{◌≡◌, ℕ, ◌+◌, ◌<◌, ◌==◌, Bool, true, false, not, ◌&&◌, ◌||◌, List, [], ◌∷◌, length, take, get_or, slice_get, Some, Option, refl, sym, ◌∙◌, ap, subst, arith}
use Rattle.std.proofs.Math.Seq.{take-length}
use Rattle.std.proofs.lemmas.List.FromFn.{length-range_with_len, get_or-range_with_len}
use Rattle.std.specs.Prelude.{filter, cond}
use Rattle.std.specs.List.{list_all, range_with_len}
use Rattle.lv_bits.specs.Words.{Bits}
use Rattle.lv_bits.specs.Values.{bit}
use Rattle.lv_model.specs.Design.{holds_test}
use Rattle.lv_netlist.specs.Net.{Net}
use Rattle.lv_netlist.specs.Run.{bits_at}
use Rattle.lv_unroll.specs.Wires.{number_in, is_on, Extends, GivesTest}
use Rattle.lv_unroll.proofs.Growing.{extends_trans}
use Rattle.lv_unroll.proofs.Slotting.{on_kept}
use Rattle.lv_product.specs.declared.task.Candidate.{Candidate}
use Rattle.lv_product.specs.Queries.{candidate_by}
use Rattle.lv_product.specs.Values.{value_at, values_in, IsTableOf, maybe_test, holds_at, GivesTruth}
use Rattle.lv_product.proofs.Holding.{values_kept, all_step, test_like}
use Rattle.lv_switched.specs.Switches.{switched_on, AreSwitches}

-- the switch of this number isn't 0
abbrev pub is_switched : ℕ → List Bits → ℕ → Bool
is_switched from ws k = not ((bits_at ws (from + k)).value == 0)

-- a test that is asked only where the switch isn't 0
abbrev pub unless_off : ℕ → (List Bits → ℕ → Bool) → List Bits → ℕ → Bool
unless_off from test ws k = not (is_switched from ws k) || test ws k

abbrev pub held : List Candidate → Net → List ℕ → List ℕ → ℕ → List Bits → ℕ → Bool
held candidates net left right aligned ws = holds_at candidates (values_in net left ws) (values_in net right ws) (is_on net ws aligned)

pub guarded_gives : (old b1 b2 new : Net) (one off at switch : ℕ) (test : List Bits → Bool) → switch < length old.nodes → GivesTruth old b1 one test →
    GivesTest b1 b2 off (λ ws. not (is_on b1 ws switch)) → GivesTest b2 new at (λ ws. is_on b2 ws off || is_on b2 ws one) →
    GivesTest old new at (λ ws. not (is_on old ws switch) || test ws)
guarded_gives old b1 b2 new one off at switch test lt o f g =
    let e : (ws : List Bits) → (is_on b2 ws off || is_on b2 ws one) ≡ (not (is_on old ws switch) || test ws) = λ ws.
    ap (λ (t : Bool). t || is_on b2 ws one) (f.on ws ∙ ap not (on_kept old b1 ws switch o.extends lt)) ∙
    ap (λ (t : Bool). not (is_on old ws switch) || t) (on_kept b1 b2 ws one f.extends o.within ∙ o.on ws) in
    record {
      extends = extends_trans old b2 new (extends_trans old b1 b2 o.extends f.extends) g.extends;
      within = g.within;
      width = g.width;
      is = λ ws. g.is ws ∙ ap bit (e ws);
      on = λ ws. g.on ws ∙ e ws;
    }

pub switches_kept : (old new : Net) (from count : ℕ) → Extends old new → AreSwitches old from count → AreSwitches new from count
switches_kept old new from count s h = record {
  within = omega (arith, h.within, s.more);
  words = λ ws k lt. s.words ws (from + k) (omega (arith, h.within, lt)) ∙ h.words ws k lt;
}

pub switch_is : (net : Net) (from count : ℕ) (ws : List Bits) (k : ℕ) → AreSwitches net from count → k < count → is_on net ws (from + k) ≡ is_switched from ws k
unfolding is_on number_in
switch_is net from count ws k h lt = ap (λ (b : Bits). not (b.value == 0)) (h.words ws k lt)

pub guard_step :
    (old now mid new graph : Net) (k all one at from n aligned : ℕ) (candidates : List Candidate) (c : Candidate) (left right : List ℕ) →
    IsTableOf old graph left → IsTableOf old graph right → aligned < length old.nodes → k < n → AreSwitches old from n → slice_get candidates k ≡ Some c →
    GivesTest old now all (λ ws. list_all (unless_off from (held candidates old left right aligned) ws) (take k (range_with_len 0 n))) →
    GivesTest now mid one (λ ws. not (is_on now ws (from + k)) || holds_test (candidate_by value_at c) (values_in now left ws) (values_in now right ws) (is_on now ws aligned)) →
    GivesTest mid new at (λ ws. is_on mid ws all && is_on mid ws one) →
    GivesTest old new at (λ ws. list_all (unless_off from (held candidates old left right aligned) ws) (take (k + 1) (range_with_len 0 n)))
guard_step old now mid new graph k all one at from n aligned candidates c left right hl hr ha lt hs ec a o g =
    all_step old now mid new k all one at (unless_off from (held candidates old left right aligned)) (range_with_len 0 n) 0
    (omega (arith, length-range_with_len 0 n, lt)) a o.extends
    (λ ws.
    let f : List Bits → List Bits → Bool → Bool = holds_test (candidate_by value_at c) in
    let l : List Bits = values_in old left ws in
    let r : List Bits = values_in old right ws in
    let t : Bool = is_on old ws aligned in
    let zero_k : 0 + k ≡ k = omega arith in
    let number : get_or (range_with_len 0 n) k 0 ≡ k = get_or-range_with_len 0 n k 0 lt ∙ zero_k in
    o.on ws ∙
    (ap (λ (x : Bool). not x || f (values_in now left ws) (values_in now right ws) (is_on now ws aligned))
    (switch_is now from n ws k (switches_kept old now from n a.extends hs) lt) ∙
    (ap (λ (v : List Bits). not (is_switched from ws k) || f v (values_in now right ws) (is_on now ws aligned)) (values_kept old now graph ws left a.extends hl) ∙
    (ap (λ (v : List Bits). not (is_switched from ws k) || f l v (is_on now ws aligned)) (values_kept old now graph ws right a.extends hr) ∙
    (ap (λ (x : Bool). not (is_switched from ws k) || f l r x) (on_kept old now ws aligned a.extends ha) ∙
    (ap (λ (m : Option Candidate). not (is_switched from ws k) || maybe_test m l r t) (sym ec) ∙
    ap (unless_off from (held candidates old left right aligned) ws) (sym number))))))) g

filter_step : (on h rest : Bool) (p : ℕ → Bool) (x : ℕ) (ys : List ℕ) → h ≡ p x → rest ≡ list_all p ys → ((not on || h) && rest) ≡ list_all p (cond on (x ∷ ys) ys)
filter_step true h rest p x ys e f = ap (λ (t : Bool). t && rest) e ∙ ap (λ (t : Bool). p x && t) f
filter_step false h rest p x ys e f = f

-- what is asked only where it is on is asked of all that are on
pub filter_all : (on p : ℕ → Bool) (xs : List ℕ) → list_all (λ k. not (on k) || p k) xs ≡ list_all p (filter on xs)
filter_all on p [] = refl
filter_all on p (x ∷ xs) = filter_step (on x) (p x) (list_all (λ k. not (on k) || p k) xs) p x (filter on xs) refl (filter_all on p xs)

pub guard_all : (old new : Net) (at from n k : ℕ) (test : List Bits → ℕ → Bool) → k ≡ n →
    GivesTest old new at (λ ws. list_all (unless_off from test ws) (take k (range_with_len 0 n))) →
    GivesTest old new at (λ ws. list_all (test ws) (switched_on from n ws))
guard_all old new at from n k test e g =
    let whole : take k (range_with_len 0 n) ≡ range_with_len 0 n =
    ap (λ (m : ℕ). take m (range_with_len 0 n)) (e ∙ sym (length-range_with_len 0 n)) ∙ take-length (range_with_len 0 n) in
    test_like old new at (λ ws. list_all (unless_off from test ws) (take k (range_with_len 0 n))) (λ ws. list_all (test ws) (switched_on from n ws))
    (λ ws. ap (list_all (unless_off from test ws)) whole ∙ filter_all (is_switched from ws) (test ws) (range_with_len 0 n)) g

-- the number of switches, told by an equal list
pub counted : (old new : Net) (at from : ℕ) (test : List Bits → ℕ → Bool) (cs ds : List Candidate) → cs ≡ ds →
    GivesTest old new at (λ ws. list_all (test ws) (switched_on from (length cs) ws)) → GivesTest old new at (λ ws. list_all (test ws) (switched_on from (length ds) ws))
counted old new at from test cs ds e g = subst (λ (z : List Candidate). GivesTest old new at (λ ws. list_all (test ws) (switched_on from (length z) ws))) e g

pub switches_like : (old new : Net) (from : ℕ) (cs ds : List Candidate) → cs ≡ ds → Extends old new → AreSwitches old from (length ds) → AreSwitches new from (length cs)
switches_like old new from cs ds e s h = subst (λ (z : List Candidate). AreSwitches new from (length z)) (sym e) (switches_kept old new from (length ds) s h)
