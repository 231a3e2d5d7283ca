-- One step of the walk.
use Rattle.std.proofs.Common.{◌≡◌, ℕ, suc, ◌+◌, ◌<◌, ◌≤◌, arith, Bool, true, false, List, [], ◌∷◌, ◌++◌, map, length, refl, sym, ap, ◌∙◌, subst, Some, ◌⊎◌, inl, inr}
use Rattle.std.specs.Prelude.{if◌then◌else◌, ◌==◌}
use Rattle.std.proofs.lemmas.List.{map-append}
use Rattle.std.proofs.lemmas.List.Elements.{filter-append}
use Rattle.lv_ast.specs.declared.item.Source.{Source}
use Rattle.lv_ast.specs.declared.item.Module.{Module}
use Rattle.lv_source.specs.Scopes.{Scope, children, module_named}
use Rattle.lv_source.specs.Parts.{Design, scopes_of, top_scope}
use Rattle.lv_source.specs.Preorder.{AreScopes, none, next}
use Rattle.lv_source.proofs.Walks.{walk_is}
use Rattle.lv_preorder.specs.Origins.{Below, scope_at, scope_below, built, kids_from, kids, Earlier, Within, AllIn, waiting_in, IsTracked, AreBelow}
use Rattle.lv_preorder.proofs.Building.{built-snoc, built-length, at-old, at-new, belows-old, earlier-snoc, within-more, within-both, all-within}

equal : (n : ℕ) → (n == n) ≡ true
equal n = grind arith

differs : (m n : ℕ) → m < n → (m == n) ≡ false
differs m n h = grind arith

-- ---- who waits where

all-wait : (n : ℕ) (cs : List Below) → AllIn n cs → waiting_in n cs ≡ cs
all-wait n [] h = refl
all-wait n (c ∷ cs) h = let e : (c.parent == n) ≡ true = ap (λ k. k == n) h.0 ∙ equal n in rw e (ap (λ xs. c ∷ xs) (all-wait n cs h.1))

none-wait : (n at : ℕ) (cs : List Below) → at < n → AllIn n cs → waiting_in at cs ≡ []
none-wait n at [] l h = refl
none-wait n at (c ∷ cs) l h =
    let p : c.parent ≡ n = h.0 in
    let e : (c.parent == at) ≡ false = grind arith in
    rw e (none-wait n at cs l h.1)

none-within : (n : ℕ) (ws : List Below) → Within n ws → waiting_in n ws ≡ []
none-within n [] h = refl
none-within n (b ∷ ws) h = let e : (b.parent == n) ≡ false = differs b.parent n h.0 in rw e (none-within n ws h.1)

filter-within : (n at : ℕ) (ws : List Below) → Within n ws → Within n (waiting_in at ws)
filter-within n at [] h = tt
filter-within n at (b ∷ ws) h = elim (b.parent == at) as (λ c. Within n (if c then b ∷ waiting_in at ws else waiting_in at ws)) [
  | true ↦ (h.0, filter-within n at ws h.1)
  | false ↦ filter-within n at ws h.1
]

-- ---- kids

kids-snoc : (n : ℕ) (bs : List Below) (b : Below) (at : ℕ) →
    kids_from n (bs ++ b ∷ []) at ≡ kids_from n bs at ++ (if b.parent == at then (n + length bs) ∷ [] else [])
kids-snoc n [] b at = let e : n + 0 ≡ n = omega arith in rw e refl
kids-snoc n (c ∷ bs) b at =
    let e : suc n + length bs ≡ n + suc (length bs) = omega arith in
    let h : kids_from (suc n) (bs ++ b ∷ []) at ≡ kids_from (suc n) bs at ++ (if b.parent == at then (n + suc (length bs)) ∷ [] else []) =
    kids-snoc (suc n) bs b at ∙ ap (λ k. kids_from (suc n) bs at ++ (if b.parent == at then k ∷ [] else [])) e in
    elim (c.parent == at) as (λ t. (if t then n ∷ kids_from (suc n) (bs ++ b ∷ []) at else kids_from (suc n) (bs ++ b ∷ []) at) ≡
    (if t then n ∷ kids_from (suc n) bs at else kids_from (suc n) bs at) ++ (if b.parent == at then (n + suc (length bs)) ∷ [] else [])) [
      | true ↦ ap (λ xs. n ∷ xs) h
      | false ↦ h
    ]

no-kids : (n m : ℕ) (bs : List Below) → Earlier n bs → n + length bs ≤ m → kids_from n bs m ≡ []
no-kids n m [] e h = refl
no-kids n m (b ∷ bs) e h =
    let l : b.parent < n = e.0 in
    let f : (b.parent == m) ≡ false = differs b.parent m (omega arith) in
    rw f (no-kids (suc n) m bs e.1 (omega arith))

-- their scopes stay
kids-old : (top : Scope) (ss more : List Scope) (n at : ℕ) (bs : List Below) → n + length bs ≤ length ss →
    map (scope_at top (ss ++ more)) (kids_from n bs at) ≡ map (scope_at top ss) (kids_from n bs at)
kids-old top ss more n at [] h = refl
kids-old top ss more n at (b ∷ bs) h =
    let t : map (scope_at top (ss ++ more)) (kids_from (suc n) bs at) ≡ map (scope_at top ss) (kids_from (suc n) bs at) =
    kids-old top ss more (suc n) at bs (omega arith) in
    elim (b.parent == at) as (λ c. map (scope_at top (ss ++ more)) (if c then n ∷ kids_from (suc n) bs at else kids_from (suc n) bs at) ≡
    map (scope_at top ss) (if c then n ∷ kids_from (suc n) bs at else kids_from (suc n) bs at)) [
      | true ↦ ap (λ s. s ∷ map (scope_at top (ss ++ more)) (kids_from (suc n) bs at)) (at-old top ss more n (omega arith)) ∙ ap (λ xs. scope_at top ss n ∷ xs) t
      | false ↦ t
    ]

-- ---- the walk

pub record Next (source : Source) (s : Scope) (ws rest : List Scope) : Type 0 where
  pub us : List Scope
  pub is : rest ≡ s ∷ us
  pub walk : AreScopes source (children source s ++ ws) us

pub next-is : (source : Source) (s : Scope) (ws rest : List Scope) → AreScopes source (s ∷ ws) rest → Next source s ws rest
next-is source s ws _ (next {us = us} a) = record { us = us; is = refl; walk = a }

none-is : (source : Source) (rest : List Scope) → AreScopes source [] rest → rest ≡ []
none-is source _ none = refl

assoc-one : (xs : List Scope) (s : Scope) (ys : List Scope) → (xs ++ s ∷ []) ++ ys ≡ xs ++ s ∷ ys
assoc-one [] s ys = refl
assoc-one (x ∷ xs) s ys = ap (λ zs. x ∷ zs) (assoc-one xs s ys)

assoc : (xs ys zs : List Scope) → (xs ++ ys) ++ zs ≡ xs ++ ys ++ zs
assoc [] ys zs = refl
assoc (x ∷ xs) ys zs = ap (λ us. x ∷ us) (assoc xs ys zs)

no-more : (xs : List Scope) → xs ++ [] ≡ xs
no-more [] = refl
no-more (x ∷ xs) = ap (λ us. x ∷ us) (no-more xs)

module _ (d : Design) (top : Scope) (bs ws : List Below) (b : Below) (cs : List Below) (t : IsTracked d top bs (b ∷ ws)) (a : AreBelow d top (bs ++ b ∷ []) cs) where
  abbrev ss : List Scope
  ss = built top bs

  abbrev s : Scope
  s = scope_below top ss b

  abbrev all : List Scope
  all = built top (bs ++ b ∷ [])

  grown : all ≡ ss ++ s ∷ []
  grown = built-snoc top (top ∷ []) bs b

  count : length ss ≡ suc (length bs)
  count = let h : length ss ≡ 1 + length bs = built-length top (top ∷ []) bs in omega arith

  more : length (bs ++ b ∷ []) ≡ suc (length bs)
  more = snoc bs where
    snoc : (xs : List Below) → length (xs ++ b ∷ []) ≡ suc (length xs)
    snoc [] = refl
    snoc (x ∷ xs) = ap suc (snoc xs)

  last : scope_at top all (suc (length bs)) ≡ s
  last = ap (λ xs. scope_at top xs (suc (length bs))) grown ∙ at-new top ss [] s (suc (length bs)) (sym count)

  waiting-old : (vs : List Below) → Within (suc (length bs)) vs → map (scope_below top all) vs ≡ map (scope_below top ss) vs
  waiting-old vs h = ap (λ xs. map (scope_below top xs) vs) grown ∙ belows-old top ss (s ∷ []) vs (suc (length bs)) (omega (arith, count)) h

  children-are : map (scope_below top all) cs ≡ children d.source s
  children-are = a.scopes ∙ ap (λ n. children d.source (scope_at top all n)) more ∙ ap (children d.source) last

  in-last : AllIn (suc (length bs)) cs
  in-last = subst (λ n. AllIn n cs) more a.all

  step : Next d.source s (map (scope_below top ss) ws) t.rest
  step = next-is d.source s (map (scope_below top ss) ws) t.rest t.walk

  both : map (scope_below top all) (cs ++ ws) ≡ children d.source s ++ map (scope_below top ss) ws
  both = map-append (scope_below top all) cs ws ∙ ap (λ xs. xs ++ map (scope_below top all) ws) children-are ∙
      ap (λ xs. children d.source s ++ xs) (waiting-old ws t.within.1)

  apart : (at : ℕ) → waiting_in at (cs ++ ws) ≡ waiting_in at cs ++ waiting_in at ws
  apart at = filter-append (λ (x : Below). x.parent == at) cs ws

  shown : (at : ℕ) → map (scope_below top all) (waiting_in at (cs ++ ws)) ≡
      map (scope_below top all) (waiting_in at cs) ++ map (scope_below top all) (waiting_in at ws)
  shown at = ap (map (scope_below top all)) (apart at) ∙ map-append (scope_below top all) (waiting_in at cs) (waiting_in at ws)

  kids-one : (at : ℕ) → kids (bs ++ b ∷ []) at ≡ kids bs at ++ (if b.parent == at then suc (length bs) ∷ [] else [])
  kids-one at = let e : 1 + length bs ≡ suc (length bs) = omega arith in
      kids-snoc 1 bs b at ∙ ap (λ k. kids bs at ++ (if b.parent == at then k ∷ [] else [])) e

  -- of the scope that came last
  last-kids : map (scope_at top all) (kids (bs ++ b ∷ []) (suc (length bs))) ++ map (scope_below top all) (waiting_in (suc (length bs)) (cs ++ ws)) ≡
      children d.source (scope_at top all (suc (length bs)))
  last-kids =
      let n : ℕ = suc (length bs) in
      let e : (b.parent == n) ≡ false = differs b.parent n t.within.0 in
      let k : kids (bs ++ b ∷ []) n ≡ [] =
      kids-one n ∙ ap (λ xs. xs ++ (if b.parent == n then n ∷ [] else [])) (no-kids 1 n bs t.earlier (omega arith)) ∙ rw e refl in
      ap (λ ks. map (scope_at top all) ks ++ map (scope_below top all) (waiting_in n (cs ++ ws))) k ∙ shown n ∙
      ap (λ xs. map (scope_below top all) xs ++ map (scope_below top all) (waiting_in n ws)) (all-wait n cs in-last) ∙
      ap (λ xs. map (scope_below top all) cs ++ map (scope_below top all) xs) (none-within n ws t.within.1) ∙
      no-more (map (scope_below top all) cs) ∙ children-are ∙ ap (children d.source) (sym last)

  old-scopes : (at : ℕ) → map (scope_at top all) (kids bs at) ≡ map (scope_at top ss) (kids bs at)
  old-scopes at = ap (λ xs. map (scope_at top xs) (kids bs at)) grown ∙ kids-old top ss (s ∷ []) 1 at bs (omega (arith, count))

  old-waiting : (at : ℕ) → at ≤ length bs → map (scope_below top all) (waiting_in at (cs ++ ws)) ≡ map (scope_below top ss) (waiting_in at ws)
  old-waiting at h = shown at ∙
      ap (λ xs. map (scope_below top all) xs ++ map (scope_below top all) (waiting_in at ws)) (none-wait (suc (length bs)) at cs (omega arith) in-last) ∙
      waiting-old (waiting_in at ws) (filter-within (suc (length bs)) at ws t.within.1)

  joined : (at : ℕ) (c : Bool) → (b.parent == at) ≡ c →
      map (scope_at top all) (kids bs at ++ (if c then suc (length bs) ∷ [] else [])) ++ map (scope_below top ss) (waiting_in at ws) ≡
      map (scope_at top ss) (kids bs at) ++ map (scope_below top ss) (if c then b ∷ waiting_in at ws else waiting_in at ws)
  joined at true e =
      ap (λ xs. xs ++ map (scope_below top ss) (waiting_in at ws)) (map-append (scope_at top all) (kids bs at) (suc (length bs) ∷ []) ∙
      ap (λ xs. xs ++ scope_at top all (suc (length bs)) ∷ []) (old-scopes at) ∙ ap (λ x. map (scope_at top ss) (kids bs at) ++ x ∷ []) last) ∙
      assoc-one (map (scope_at top ss) (kids bs at)) s (map (scope_below top ss) (waiting_in at ws))
  joined at false e =
      ap (λ xs. xs ++ map (scope_below top ss) (waiting_in at ws)) (ap (map (scope_at top all)) (no-numbers (kids bs at)) ∙ old-scopes at) where
        no-numbers : (ns : List ℕ) → ns ++ [] ≡ ns
        no-numbers [] = refl
        no-numbers (n ∷ ns) = ap (λ us. n ∷ us) (no-numbers ns)

  -- of one before it
  old-kids : (at : ℕ) → at ≤ length bs → map (scope_at top all) (kids (bs ++ b ∷ []) at) ++ map (scope_below top all) (waiting_in at (cs ++ ws)) ≡
      children d.source (scope_at top all at)
  old-kids at h =
      ap (λ xs. map (scope_at top all) (kids (bs ++ b ∷ []) at) ++ xs) (old-waiting at h) ∙
      ap (λ ks. map (scope_at top all) ks ++ map (scope_below top ss) (waiting_in at ws)) (kids-one at) ∙
      joined at (b.parent == at) refl ∙ t.kids at h ∙
      ap (children d.source) (sym (ap (λ xs. scope_at top xs at) grown ∙ at-old top ss (s ∷ []) at (omega (arith, count))))

  all-kids : (at : ℕ) → at ≤ length (bs ++ b ∷ []) → map (scope_at top all) (kids (bs ++ b ∷ []) at) ++ map (scope_below top all) (waiting_in at (cs ++ ws)) ≡
      children d.source (scope_at top all at)
  all-kids at h = elim (either at (length bs) (omega (arith, more))) [
    | inl k ↦ old-kids at k
    | inr e ↦ subst (λ n. map (scope_at top all) (kids (bs ++ b ∷ []) n) ++ map (scope_below top all) (waiting_in n (cs ++ ws)) ≡
        children d.source (scope_at top all n)) (sym e) last-kids
  ] where
    either : (m n : ℕ) → m ≤ suc n → (m ≤ n) ⊎ (m ≡ suc n)
    either m n h = grind arith

  pub goes-on : IsTracked d top (bs ++ b ∷ []) (cs ++ ws)
  goes-on = record {
    rest = step.us;
    all = ap (λ xs. xs ++ step.us) grown ∙ assoc-one ss s step.us ∙ ap (λ xs. ss ++ xs) (sym step.is) ∙ t.all;
    walk = subst (λ xs. AreScopes d.source xs step.us) (sym both) step.walk;
    earlier = earlier-snoc 1 bs b t.earlier (let l : b.parent < suc (length bs) = t.within.0 in omega arith);
    within = subst (λ n. Within (suc n) (cs ++ ws)) (sym more) (within-both (suc (suc (length bs))) cs ws
        (all-within (suc (length bs)) (suc (suc (length bs))) cs (omega arith) in-last)
        (within-more (suc (length bs)) (suc (suc (length bs))) ws (omega arith) t.within.1));
    kids = all-kids;
  }

-- ---- begin and end

pub begins : (d : Design) (m : Module) (cs : List Below) → module_named d.source d.top ≡ Some m → AreBelow d (top_scope d m) [] cs → IsTracked d (top_scope d m) [] cs
begins d m cs e a =
    let top : Scope = top_scope d m in
    let w : AreScopes d.source (top ∷ []) (scopes_of d) = (walk_is d m (scopes_of d) e).1 refl in
    let n : Next d.source top [] (scopes_of d) = next-is d.source top [] (scopes_of d) w in
    record {
      rest = n.us;
      all = sym n.is;
      walk = subst (λ xs. AreScopes d.source xs n.us) (no-more (children d.source top) ∙ sym a.scopes) n.walk;
      earlier = tt;
      within = all-within 0 1 cs (omega arith) a.all;
      kids = λ at h. subst (λ i. map (scope_below top (top ∷ [])) (waiting_in i cs) ≡ children d.source (scope_at top (top ∷ []) i)) (zero-is at h)
          (ap (map (scope_below top (top ∷ []))) (all-wait 0 cs a.all) ∙ a.scopes);
    } where
      zero-is : (at : ℕ) → at ≤ 0 → 0 ≡ at
      zero-is at h = omega arith

pub ends : (d : Design) (top : Scope) (bs : List Below) → IsTracked d top bs [] → built top bs ≡ scopes_of d
ends d top bs t = sym (no-more (built top bs)) ∙ ap (λ xs. built top bs ++ xs) (sym (none-is d.source t.rest t.walk)) ∙ t.all
