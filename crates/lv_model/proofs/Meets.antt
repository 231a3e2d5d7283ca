-- A query is met exactly where some two lists of valuations and a truth value meet it.
use Rattle.std.proofs.Common.{ℕ, suc, Bool, true, List, [], ◌∷◌, map, refl, subst, sym}
use Rattle.lv_model.specs.Machine.{Machine, SomeFails, IsMet, IsWithin, Carries, Query, Initial, Allowed, Base, Step, Imply, aligned_after}
use Rattle.lv_model.specs.Meeting.{IsMetBy}
use Rattle.lv_model.proofs.Transfer.{initial-map, window-map, hold-map, after-map}

pub met_from : {V : Type 0} (m : Machine V) (b : ℕ) (s : List ℕ) (q : Query) (ls rs : List V) (a : Bool) → IsMetBy m b s q ls rs a → IsMet m b s q
met_from m b s q [] rs a h = absurd h
met_from m b s q (l ∷ ls) [] a h = absurd h
met_from m b s Initial (l ∷ ls) (r ∷ rs) a h = (l, r, h)
met_from m b s Allowed (l ∷ ls) (r ∷ rs) a h = (l, h.0, h.1)
met_from m b s Base (l ∷ ls) (r ∷ rs) a h = (l, r, h.0, h.2)
met_from m b s Step (l ∷ []) (r ∷ rs) a h = absurd h
met_from m b s Step (l ∷ l' ∷ ls) (r ∷ []) a h = absurd h
met_from m b s Step (l ∷ l' ∷ ls) (r ∷ r' ∷ rs) a h = (l, l', ls, r, r', rs, a, h.0, h.1, h.2)
met_from m b s Imply (l ∷ ls) (r ∷ rs) a h = (l, ls, r, rs, a, h.0, h.1, h.2)

pub met_by : {V : Type 0} (m : Machine V) (b : ℕ) (s : List ℕ) (q : Query) → IsMet m b s q → (ls : List V) × (rs : List V) × (a : Bool) × IsMetBy m b s q ls rs a
met_by m b s Initial (l, r, h) = (l ∷ [], r ∷ [], true, h)
met_by m b s Allowed (v, settled, allowed) = (v ∷ [], v ∷ [], true, (settled, allowed))
met_by m b s Base (l, r, h, fails) = (l ∷ [], r ∷ [], true, (h, refl, fails))
met_by m b s Step (l, l', ls, r, r', rs, a, w, all, fails) = (l ∷ l' ∷ ls, r ∷ r' ∷ rs, a, (w, all, fails))
met_by m b s Imply (l, ls, r, rs, a, w, all, differ) = (l ∷ ls, r ∷ rs, a, (w, all, differ))

-- of fewer members none fails at an initial pair if of more none does
pub base_grows : {V : Type 0} (m : Machine V) (b : ℕ) (s t : List ℕ) → IsWithin t s → IsMet m b t Base → IsMet m b s Base
base_grows m b s t within (l, r, h, (k, inside, fails)) = (l, r, h, (k, within k inside, fails))

pub initial_of_any : {V : Type 0} (m : Machine V) (b : ℕ) (s t : List ℕ) → IsMet m b s Initial → IsMet m b t Initial
initial_of_any m b s t h = h

pub allowed_of_any : {V : Type 0} (m : Machine V) (b : ℕ) (s t : List ℕ) → IsMet m b s Allowed → IsMet m b t Allowed
allowed_of_any m b s t h = h

module _ {V W : Type 0} (m : Machine V) (n : Machine W) (f : V → W) (c : Carries m n f) where
  fails-map : (s : List ℕ) (l r : V) (a : Bool) → m.IsSettled l → m.IsSettled r → SomeFails m s l r a → SomeFails n s (f l) (f r) a
  fails-map s l r a sl sr (k, inside, fails) = (k, inside, λ h. fails (c.held k l r a sl sr h))

  -- what meets a query of the one machine is carried to what meets it of the other
  pub met-map : (b : ℕ) (s : List ℕ) (q : Query) (ls rs : List V) (a : Bool) → IsMetBy m b s q ls rs a → IsMetBy n b s q (map f ls) (map f rs) a
  met-map b s q [] rs a h = absurd h
  met-map b s q (l ∷ ls) [] a h = absurd h
  met-map b s Initial (l ∷ ls) (r ∷ rs) a h = initial-map m n f c l r h
  met-map b s Allowed (l ∷ ls) (r ∷ rs) a h = (c.settled l h.0, c.allowed l h.0 h.1)
  met-map b s Base (l ∷ ls) (r ∷ rs) a h = (initial-map m n f c l r h.0, h.1, fails-map s l r true h.0.left h.0.right h.2)
  met-map b s Step (l ∷ []) (r ∷ rs) a h = absurd h
  met-map b s Step (l ∷ l' ∷ ls) (r ∷ []) a h = absurd h
  met-map b s Step (l ∷ l' ∷ ls) (r ∷ r' ∷ rs) a (w, all, fails) = (
    window-map m n f c b (suc (suc b)) (l ∷ l' ∷ ls) (r ∷ r' ∷ rs) a w,
    hold-map m n f c s l r a w.left.0 w.right.0 all,
    subst (SomeFails n s (f l') (f r')) (sym (after-map m n f c l r a w.left.0 w.right.0))
        (fails-map s l' r' (aligned_after m l r a) w.left.2.0 w.right.2.0 fails),
  )
  met-map b s Imply (l ∷ ls) (r ∷ rs) a (w, all, differ) = (
    window-map m n f c b (suc b) (l ∷ ls) (r ∷ rs) a w,
    hold-map m n f c s l r a w.left.0 w.right.0 all,
    λ e. differ (let e' = c.attacker l w.left.0 in let e'' = c.attacker r w.right.0 in cc),
  )

  pub is_met-map : (b : ℕ) (s : List ℕ) (q : Query) → IsMet m b s q → IsMet n b s q
  is_met-map b s q h = let by = met_by m b s q h in met_from n b s q (map f by.0) (map f by.1) by.2 (met-map b s q by.0 by.1 by.2 by.3)
