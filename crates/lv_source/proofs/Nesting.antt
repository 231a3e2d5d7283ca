-- Each child of a scope of a design is one of its scopes: a step down leaves fewer modules that aren't around yet, or fewer items that aren't nested yet.
use Rattle.std.proofs.Common.{◌≡◌, inl, inr, ℕ, zero, suc, ◌+◌, ◌<◌, ◌≤◌, arith, Bool, true, false, ◌||◌, List, [], ◌∷◌, ◌++◌, map, length, refl, sym, ap, ◌∙◌, subst, Option, Some, None}
use Rattle.std.specs.Prelude.{bytes_eq, flat_map, sum, if◌then◌else◌, Contains}
use Rattle.std.proofs.lemmas.List.Sums.{sum_by-cons}
use Rattle.lv_ast.specs.declared.stmt.Ident.{Ident}
use Rattle.lv_ast.specs.declared.item.Item.{Item, Row_of-Item, end_of-Item, more_of-Item}
use Rattle.lv_ast.specs.declared.item.Item.TheVariants as i
use Rattle.lv_ast.specs.declared.item.Conn.{Conn}
use Rattle.lv_ast.specs.declared.item.Inst.{Inst}
use Rattle.lv_ast.specs.declared.item.Module.{Module}
use Rattle.lv_ast.specs.declared.item.Source.{Source}
use Rattle.lv_ast.specs.Trees.{spread, spread_all, count_items, count_all}
use Rattle.lv_ast.specs.Names.{Name}
use Rattle.lv_source.specs.Effect.{turns}
use Rattle.lv_source.specs.Declarations.{of_item, module_items}
use Rattle.lv_source.specs.Scopes.{Scope, module_named, instance_scope, instance_scopes, turn_scope, is_among, children, children_by, counted_from, scopes_within}
use Rattle.lv_source.specs.Parts.{Design, depth, top_scope, scopes_from, scopes_of}
use Rattle.lv_source.proofs.Tests.{name-itself}
use Rattle.lv_source.proofs.Refused.{In, in-split, in_contains, contains_in}
use Rattle.lv_source.proofs.FaultLaws.{in-flat}
use Rattle.lv_source.proofs.Trees.{in-from}
use Rattle.lv_source.proofs.Kids.{mapped-from}
use Rattle.lv_source.proofs.Shaped.{found_in}

-- ---- items

sum-cons : (n : ℕ) (ns : List ℕ) → sum (n ∷ ns) ≡ n + sum ns
sum-cons n ns = sum_by-cons (λ k. k) n ns

abbrev counted : List Item → ℕ
counted xs = sum (map count_items xs)

counted-cons : (x : Item) (xs : List Item) → counted (x ∷ xs) ≡ count_items x + counted xs
counted-cons x xs = sum-cons (count_items x) (map count_items xs)

counted-append : (xs ys : List Item) → counted (xs ++ ys) ≡ counted xs + counted ys
counted-append [] ys = (let e : counted ys ≡ 0 + counted ys = omega arith in e)
counted-append (x ∷ xs) ys =
    let a : counted (x ∷ (xs ++ ys)) ≡ count_items x + counted (xs ++ ys) = counted-cons x (xs ++ ys) in
    let b : counted (x ∷ xs) ≡ count_items x + counted xs = counted-cons x xs in
    let e : counted (xs ++ ys) ≡ counted xs + counted ys = counted-append xs ys in
    omega arith

mutual
  spread_fewer : (x : Item) → counted (spread x) ≤ count_items x
  spread_fewer (i.Generate' n items) = let h : counted (spread_all items) ≤ count_all items = all_fewer items in omega arith
  spread_fewer (i.Loop' index start test again next label n items) = omega arith
  spread_fewer (i.Port a) = omega arith
  spread_fewer (i.Wire signed range names) = omega arith
  spread_fewer (i.Reg signed range names) = omega arith
  spread_fewer (i.Index genvar names) = omega arith
  spread_fewer (i.Params local ps) = omega arith
  spread_fewer (i.Assign list) = omega arith
  spread_fewer (i.Always watch stmt place) = omega arith
  spread_fewer (i.Instance kind settings insts) = omega arith

  all_fewer : {n : _} (r : Row_of-Item n) → counted (spread_all r) ≤ count_all r
  all_fewer end_of-Item = omega arith
  all_fewer (more_of-Item x xs) =
      let a : counted (spread x) ≤ count_items x = spread_fewer x in
      let b : counted (spread_all xs) ≤ count_all xs = all_fewer xs in
      let e : counted (spread x ++ spread_all xs) ≡ counted (spread x) + counted (spread_all xs) = counted-append (spread x) (spread_all xs) in
      omega arith

module_fewer : (xs : List Item) → counted (flat_map spread xs) ≤ counted xs
module_fewer [] = omega arith
module_fewer (x ∷ xs) =
    let c : counted (x ∷ xs) ≡ count_items x + counted xs = counted-cons x xs in
    let a : counted (spread x) ≤ count_items x = spread_fewer x in
    let b : counted (flat_map spread xs) ≤ counted xs = module_fewer xs in
    let e : counted (spread x ++ flat_map spread xs) ≡ counted (spread x) + counted (flat_map spread xs) = counted-append (spread x) (flat_map spread xs) in
    omega arith

one_of : (x : Item) (xs : List Item) → In x xs → count_items x ≤ counted xs
one_of x [] h = absurd h
one_of x (y ∷ ys) (inl e) = let c : counted (y ∷ ys) ≡ count_items y + counted ys = counted-cons y ys in let f : count_items y ≡ count_items x = ap count_items e in omega arith
one_of x (y ∷ ys) (inr h) = let c : counted (y ∷ ys) ≡ count_items y + counted ys = counted-cons y ys in let f : count_items x ≤ counted ys = one_of x ys h in omega arith

-- ---- modules

abbrev weight : Module → ℕ
weight m = suc (counted m.items)

abbrev weight_if : Bool → Module → ℕ
weight_if around m = if around then 0 else weight m

-- of the modules that aren't around
abbrev not_around : List Name → List Module → ℕ
not_around around [] = 0
not_around around (m ∷ ms) = weight_if (is_among around m.name.name) m + not_around around ms

all_modules : (ms : List Module) → not_around [] ms ≡ sum (map weight ms)
all_modules [] = refl
all_modules (m ∷ ms) = ap (λ k. weight m + k) (all_modules ms) ∙ sym (sum-cons (weight m) (map weight ms))

weight_less : (b c : Bool) (m : Module) → weight_if (b || c) m ≤ weight_if c m
weight_less true true m = omega arith
weight_less true false m = omega arith
weight_less false c m = omega arith

more_around : (around : List Name) (name : Name) (ms : List Module) → not_around (name ∷ around) ms ≤ not_around around ms
more_around around name [] = omega arith
more_around around name (m ∷ ms) =
    let a : weight_if (bytes_eq m.name.name name || is_among around m.name.name) m ≤ weight_if (is_among around m.name.name) m = weight_less (bytes_eq m.name.name name) (is_among around m.name.name) m in
    let b : not_around (name ∷ around) ms ≤ not_around around ms = more_around around name ms in
    omega arith

weight_gone : (b c : Bool) (m : Module) → b ≡ true → c ≡ false → weight_if (b || c) m + weight m ≤ weight_if c m
weight_gone true true m h k = cc
weight_gone true false m h k = omega arith
weight_gone false c m h k = cc

gone : (around : List Name) (m : Module) (ms : List Module) → In m ms → is_among around m.name.name ≡ false → not_around (m.name.name ∷ around) ms + weight m ≤ not_around around ms
gone around m [] h k = absurd h
gone around m (x ∷ xs) (inl e) k =
    subst (λ (z : Module). not_around (z.name.name ∷ around) (x ∷ xs) + weight z ≤ not_around around (x ∷ xs)) e
    (let a : weight_if (bytes_eq x.name.name x.name.name || is_among around x.name.name) x + weight x ≤ weight_if (is_among around x.name.name) x =
    weight_gone (bytes_eq x.name.name x.name.name) (is_among around x.name.name) x (name-itself x.name.name) (ap (λ (z : Module). is_among around z.name.name) e ∙ k) in
    let b : not_around (x.name.name ∷ around) xs ≤ not_around around xs = more_around around x.name.name xs in
    omega arith)
gone around m (x ∷ xs) (inr h) k =
    let a : weight_if (bytes_eq x.name.name m.name.name || is_among around x.name.name) x ≤ weight_if (is_among around x.name.name) x =
    weight_less (bytes_eq x.name.name m.name.name) (is_among around x.name.name) x in
    let b : not_around (m.name.name ∷ around) xs + weight m ≤ not_around around xs = gone around m xs h k in
    omega arith

-- ---- children

abbrev pub height : Source → Scope → ℕ
height source s = not_around s.around source.modules + counted s.items

instance_both : (b : Bool) (x c : Scope) → In c (if b then [] else x ∷ []) → (b ≡ false) × (x ≡ c)
instance_both true x c h = absurd h
instance_both false x c (inl e) = (refl, e)
instance_both false x c (inr e) = absurd e

module _ (source : Source) (s : Scope) where
  inst_lower : (settings : List Conn) (inst : Inst) (o : Option Module) → ((m : Module) → o ≡ Some m → In m source.modules) → (c : Scope) → In c (instance_scopes s settings inst o) →
      height source c < height source s
  inst_lower settings inst None f c h = absurd h
  inst_lower settings inst (Some m) f c h =
      let r : (is_among s.around m.name.name ≡ false) × (instance_scope s settings inst m ≡ c) = instance_both (is_among s.around m.name.name) (instance_scope s settings inst m) c h in
      subst (λ (z : Scope). height source z < height source s) r.1
      (let a : not_around (m.name.name ∷ s.around) source.modules + weight m ≤ not_around s.around source.modules = gone s.around m source.modules (f m refl) r.0 in
      let b : counted (module_items m) ≤ counted m.items = module_fewer m.items in
      omega arith)

  loop_lower : (before : ℕ) (index label : Ident) {n : _} (items : Row_of-Item n) (ks : List ℕ) → suc (count_all items) ≤ counted s.items → (c : Scope) →
      In c (map (turn_scope s before index label (spread_all items)) ks) → height source c < height source s
  loop_lower before index label items ks a c h =
      let r : (v : ℕ) × In v ks × (turn_scope s before index label (spread_all items) v ≡ c) = mapped-from (turn_scope s before index label (spread_all items)) c ks h in
      subst (λ (z : Scope). height source z < height source s) r.2 (let b : counted (spread_all items) ≤ count_all items = all_fewer items in omega arith)

  item_lower : (k : ℕ) (x : Item) → count_items x ≤ counted s.items → (c : Scope) → In c (children_by source s (k, x)) → height source c < height source s
  item_lower k (i.Instance kind settings insts) a c h =
      (let r : (n : Inst) × In n insts × In c (instance_scopes s settings n (module_named source kind.name)) = in-from (λ n. instance_scopes s settings n (module_named source kind.name)) c insts h in
      inst_lower settings r.0 (module_named source kind.name) (λ m e. found_in (λ m. bytes_eq m.name.name kind.name) source.modules m e) c r.2)
  item_lower k (i.Loop' index start test again next label n items) a c h =
      loop_lower k index label items (turns s.names index.name start test next) a c h
  item_lower k (i.Port x) a c h = absurd h
  item_lower k (i.Wire signed range names) a c h = absurd h
  item_lower k (i.Reg signed range names) a c h = absurd h
  item_lower k (i.Index genvar names) a c h = absurd h
  item_lower k (i.Params local ps) a c h = absurd h
  item_lower k (i.Assign list) a c h = absurd h
  item_lower k (i.Always watch stmt place) a c h = absurd h
  item_lower k (i.Generate' n items) a c h = absurd h

  items_lower : (k : ℕ) (xs : List Item) → ((x : Item) → In x xs → count_items x ≤ counted s.items) → (c : Scope) → In c (flat_map (children_by source s) (counted_from k xs)) →
      height source c < height source s
  items_lower k [] f c h = absurd h
  items_lower k (x ∷ xs) f c h = elim (in-split c (children_by source s (k, x)) _ h) [
    | inl a ↦ item_lower k x (f x (inl refl)) c a
    | inr a ↦ items_lower (k + length (of_item x)) xs (λ y j. f y (inr j)) c a
  ]

  pub lower : (c : Scope) → In c (children source s) → height source c < height source s
  lower c h = items_lower s.header s.items (λ x j. one_of x s.items j) c h

-- ---- scopes

module _ (source : Source) where
  root_in : (n : ℕ) (c : Scope) → height source c < n → In c (scopes_within n source c)
  root_in zero c h = absurd (omega arith)
  root_in (suc n) c h = inl refl

  within_closed : (n : ℕ) (s : Scope) → height source s < n → (u c : Scope) → In u (scopes_within n source s) → In c (children source u) → In c (scopes_within n source s)
  within_closed zero s h u c i j = absurd i
  within_closed (suc n) s h u c (inl e) j =
      let k : In c (children source s) = subst (λ (t : Scope). In c (children source t)) (sym e) j in
      let l : height source c < height source s = lower source s c k in
      inr (in-flat (scopes_within n source) c c (children source s) k (root_in n c (omega arith)))
  within_closed (suc n) s h u c (inr i) j =
      let r : (t : Scope) × In t (children source s) × In u (scopes_within n source t) = in-from (scopes_within n source) u (children source s) i in
      let l : height source r.0 < height source s = lower source s r.0 r.1 in
      inr (in-flat (scopes_within n source) r.0 c (children source s) r.1 (within_closed n r.0 (omega arith) u c r.2 j))

pub top_lower : (d : Design) (m : Module) → In m d.source.modules → height d.source (top_scope d m) < suc (depth d.source)
top_lower d m i =
    let a : not_around (m.name.name ∷ []) d.source.modules + weight m ≤ not_around [] d.source.modules = gone [] m d.source.modules i refl in
    let b : counted (module_items m) ≤ counted m.items = module_fewer m.items in
    let e : not_around [] d.source.modules ≡ depth d.source = all_modules d.source.modules in
    omega arith

from_closed : (d : Design) (o : Option Module) → ((m : Module) → o ≡ Some m → In m d.source.modules) → (u c : Scope) → In u (scopes_from d o) → In c (children d.source u) → In c (scopes_from d o)
from_closed d None f u c i j = absurd i
from_closed d (Some m) f u c i j = within_closed d.source (suc (depth d.source)) (top_scope d m) (top_lower d m (f m refl)) u c i j

-- a child of a scope of the design is one of its scopes
pub closed : (d : Design) (u c : Scope) → In u (scopes_of d) → In c (children d.source u) → In c (scopes_of d)
unfolding scopes_of
closed d u c i j = from_closed d (module_named d.source d.top) (λ m e. found_in (λ m. bytes_eq m.name.name d.top) d.source.modules m e) u c i j

pub children_in : (d : Design) (u c : Scope) → Contains (scopes_of d) u → Contains (children d.source u) c → Contains (scopes_of d) c
children_in d u c i j = in_contains c (scopes_of d) (closed d u c (contains_in u (scopes_of d) i) (contains_in c (children d.source u) j))
