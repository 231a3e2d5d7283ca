-- Turns of a walk.
use Rattle.std.proofs.Common.{◌≡◌, ℕ, ◌+◌, ◌-◌, ◌<◌, ◌≤◌, true, List, [], ◌∷◌, ◌++◌, take, length, get_or, set, refl, ap, sym, subst, ◌∙◌, arith, Vec}
use Rattle.std.proofs.lemmas.Bool.{true≢false}
use Rattle.std.proofs.lemmas.List.{get_or_read, get_or-map, same_from_push}
use Rattle.lv_order.specs.declared.walk.State.{State}
use Rattle.lv_order.specs.declared.walk.State.TheVariants.{New, Open, Done}
use Rattle.lv_order.specs.declared.walk.Turn.TheVariants.{Goes}
use Rattle.lv_order.specs.declared.walk.Walk.{Walk}
use Rattle.lv_order.specs.Graphs.{Graph, graph, has, edges_of, goes, leads}
use Rattle.lv_order.specs.Walks.{state_at, is_new, is_open, looked, left, work, rest, walks, IsWalk, IsTurn, IsMet}
use Rattle.lv_order.proofs.Lists.{has_get, has_pushed, last_is}
use Rattle.lv_order.proofs.Chains.{leads_push}
use Rattle.lv_order.proofs.Works.{work-set}
use Rattle.lv_order.proofs.Steps.{known_within, open-known, opened-walk, closed-walk, followed-walk, empty-pushed}

-- ---- what is read

pub edges-row : {Z : Type 0} (rows : List (Vec ℕ Z)) (v : ℕ) (row : Vec ℕ Z) → v < length rows → row ≡ get_or rows v row → edges_of (graph rows) v ≡ row.items
edges-row rows v row l e = get_or-map (λ r. r.items) rows v row [] l ∙ ap (λ r. r.items) (sym e)

pub state-read : (ss : List State) (v : ℕ) (s : State) → v < length ss → s ≡ get_or ss v s → state_at ss v ≡ s
state-read ss v s l e = sym (get_or_read ss v s l e New)

pub goes-read : (E : Graph) (v at w : ℕ) (row : List ℕ) → edges_of E v ≡ row → at < length row → w ≡ get_or row at w → goes E v w ≡ true
goes-read E v at w row e l r = ap (λ z. has z w) e ∙ (ap (has row) r ∙ has_get row at w l)

-- the last vertex of the path
pub record IsTop (ss : List State) (path : List ℕ) (v : ℕ) : Type 0 where
  pub last : path ≡ take (length path - 1) path ++ v ∷ []
  pub opened : is_open (state_at ss v) ≡ true
  pub within : v < length ss

pub top-read : (E : Graph) (w : Walk) (n v : ℕ) → walks E w → n ≡ length w.path.items → 0 < length w.path.items → v ≡ get_or w.path.items (n - 1) v
    → IsTop w.states.items w.path.items v
top-read E w n v h e l r =
    let path : List ℕ = w.path.items in
    let q : path ≡ take (length path - 1) path ++ get_or path (length path - 1) v ∷ [] = last_is path (length path - 1) v (omega arith) in
    let s : get_or path (length path - 1) v ≡ v = ap (λ k. get_or path (k - 1) v) (sym e) ∙ sym r in
    let t : path ≡ take (length path - 1) path ++ v ∷ [] = q ∙ ap (λ z. take (length path - 1) path ++ z ∷ []) s in
    let o : is_open (state_at w.states.items v) ≡ true = sym (h.opened v) ∙ (ap (λ z. has z v) t ∙ has_pushed (take (length path - 1) path) v) in
    record { last = t; opened = o; within = known_within w.states.items v (open-known (state_at w.states.items v) o) }

-- ---- what is left

pub less : (E : Graph) (old new : Walk) (v : ℕ) (x : State) → walks E old → v < length old.states.items → new.states.items ≡ set old.states.items v x
    → new.root ≡ old.root → left (length (edges_of E v)) x < left (length (edges_of E v)) (state_at old.states.items v) → rest E new < rest E old
less E old new v x h l e r k =
    let a : work E (set old.states.items v x) + left (length (edges_of E v)) (state_at old.states.items v) ≡ work E old.states.items + left (length (edges_of E v)) x =
    work-set E old.states.items v x l h.size in
    let b : work E new.states.items ≡ work E (set old.states.items v x) = ap (work E) e in
    let c : new.root ≡ old.root = r in
    omega arith

moved : (E : Graph) (ss ss' : List State) (path path' list list' : List ℕ) (root root' : ℕ) → ss' ≡ ss → path' ≡ path → list' ≡ list → root' ≡ root
    → IsWalk E ss path list root → IsWalk E ss' path' list' root'
moved E ss ss' path path' list list' root root' a b c d h =
    subst (λ z. IsWalk E z path' list' root') (sym a)
    (subst (λ z. IsWalk E ss z list' root') (sym b) (subst (λ z. IsWalk E ss path z root') (sym c) (subst (λ z. IsWalk E ss path list z) (sym d) h)))

open-more : (n : ℕ) (s : State) → is_open s ≡ true → 0 < left n s
open-more n New h = omega arith
open-more n (Open i) h = omega arith
open-more n Done h = absurd (true≢false (sym h))

open-left : (n : ℕ) (s : State) → is_open s ≡ true → looked s < n → left n (Open (looked s + 1)) < left n s
open-left n New h l = absurd (true≢false (sym h))
open-left n (Open i) h l = omega arith
open-left n Done h l = absurd (true≢false (sym h))

-- ---- turns

pub opened-turn : (E : Graph) (old new : Walk) (v : ℕ) → walks E old → v < length old.states.items → state_at old.states.items v ≡ New
    → ((front : List ℕ) (u : ℕ) → old.path.items ≡ front ++ u ∷ [] → goes E u v ≡ true)
    → new.states.items ≡ set old.states.items v (Open 0) → new.path.items ≡ old.path.items ++ v ∷ [] → new.list.items ≡ old.list.items → new.root ≡ old.root
    → IsTurn E old new Goes
opened-turn E old new v h l n g a b c d = (
  moved E (set old.states.items v (Open 0)) new.states.items (old.path.items ++ v ∷ []) new.path.items old.list.items new.list.items old.root new.root a b c d
      (opened-walk E old.states.items old.path.items old.list.items old.root v l n g h),
  less E old new v (Open 0) h l a d
      (subst (λ s. left (length (edges_of E v)) (Open 0) < left (length (edges_of E v)) s) (sym n) (omega arith)),
)

pub closed-turn : (E : Graph) (old new : Walk) (v : ℕ) → walks E old → IsTop old.states.items old.path.items v
    → length (edges_of E v) ≤ looked (state_at old.states.items v)
    → new.states.items ≡ set old.states.items v Done → new.path.items ≡ take (length old.path.items - 1) old.path.items
    → new.list.items ≡ old.list.items ++ v ∷ [] → new.root ≡ old.root
    → IsTurn E old new Goes
closed-turn E old new v h t n a b c d = (
  moved E (set old.states.items v Done) new.states.items (take (length old.path.items - 1) old.path.items) new.path.items (old.list.items ++ v ∷ []) new.list.items
      old.root new.root a b c d
      (closed-walk E old.states.items old.path.items old.list.items old.root v (take (length old.path.items - 1) old.path.items) t.within t.last n h),
  less E old new v Done h t.within a d (open-more (length (edges_of E v)) (state_at old.states.items v) t.opened),
)

pub followed-turn : (E : Graph) (old new : Walk) (v at : ℕ) → walks E old → IsTop old.states.items old.path.items v
    → at ≡ looked (state_at old.states.items v) → at < length (edges_of E v) → has old.list.items (get_or (edges_of E v) at 0) ≡ true
    → new.states.items ≡ set old.states.items v (Open (at + 1)) → new.path.items ≡ old.path.items → new.list.items ≡ old.list.items → new.root ≡ old.root
    → IsTurn E old new Goes
followed-turn E old new v at h t n l g a b c d = (
  moved E (set old.states.items v (Open (at + 1))) new.states.items old.path.items new.path.items old.list.items new.list.items old.root new.root a b c d
      (followed-walk E old.states.items old.path.items old.list.items old.root v at t.within (sym n) t.opened g h),
  less E old new v (Open (at + 1)) h t.within a d
      (subst (λ k. left (length (edges_of E v)) (Open (k + 1)) < left (length (edges_of E v)) (state_at old.states.items v)) (sym n)
      (open-left (length (edges_of E v)) (state_at old.states.items v) t.opened (let p : at ≡ looked (state_at old.states.items v) = n in omega arith))),
)

pub met-turn : (E : Graph) (old : Walk) (v w : ℕ) → walks E old → IsTop old.states.items old.path.items v → goes E v w ≡ true
    → is_open (state_at old.states.items w) ≡ true → IsMet E old.path.items w
met-turn E old v w h t g o = record {
  on = h.opened w ∙ o;
  joined = ap (leads E w) t.last ∙
      leads_push E v w (take (length old.path.items - 1) old.path.items) (h.joined (take (length old.path.items - 1) old.path.items) v t.last) g;
  apart = h.apart;
}

-- by what stands at the end of the path
pub pushed-goes : (E : Graph) (path front : List ℕ) (v w : ℕ) → path ≡ front ++ v ∷ [] → goes E v w ≡ true
    → (start : List ℕ) (u : ℕ) → path ≡ start ++ u ∷ [] → goes E u w ≡ true
pushed-goes E path front v w e g start u k = let s : (front ≡ start) × (v ≡ u) = same_from_push front start v u (sym e ∙ k) in subst (λ z. goes E z w ≡ true) s.1 g

pub nothing-goes : (E : Graph) (path : List ℕ) (w : ℕ) → path ≡ [] → (start : List ℕ) (u : ℕ) → path ≡ start ++ u ∷ [] → goes E u w ≡ true
nothing-goes E path w e start u k = absurd (empty-pushed start u (sym e ∙ k))

pub new-state : (s : State) → is_new s ≡ true → s ≡ New
new-state New h = refl
new-state (Open i) h = absurd (true≢false (sym h))
new-state Done h = absurd (true≢false (sym h))
