-- The children of a scope without a Duplicate: each has the path of a declared instance or label, and those of one path are one.
use Rattle.std.proofs.Common.{◌≡◌, ◌⊎◌, inl, inr, ℕ, ◌+◌, ◌-◌, ◌%◌, ◌^◌, ◌<◌, arith, zero, suc, Bool, true, false, ◌&&◌, ◌||◌, not, List, [], ◌∷◌, ◌++◌, map, length, refl, sym, ap, ◌∙◌, subst, Option, Some, None}
use Rattle.std.specs.Prelude.{bytes_eq, flat_map, cond, take, decimal, slice_get, pos, negsuc, ℤ, if◌then◌else◌, nat_lt}
use Rattle.std.proofs.lemmas.Fmt.{signed_decimal_injective}
use Rattle.std.specs.Fmt as std
use lib.Signed.{mag}
use Rattle.lv_bits.specs.Values.{signed_of}
use Rattle.lv_ast.specs.declared.expr.Expr.{Expr}
use Rattle.lv_ast.specs.declared.stmt.Ident.{Ident}
use Rattle.lv_ast.specs.declared.item.Item.{Item}
use Rattle.lv_ast.specs.declared.item.Item.TheVariants as i
use Rattle.lv_ast.specs.declared.item.Conn.{Conn}
use Rattle.lv_ast.specs.declared.item.Inst.{Inst}
use Rattle.lv_ast.specs.declared.item.Module.{Module}
use Rattle.lv_ast.specs.declared.item.Source.{Source}
use Rattle.lv_ast.specs.declared.item.PortWord.TheVariants as w
use Rattle.lv_ast.specs.Trees.{spread_all}
use Rattle.lv_ast.specs.Names.{Name, spelled, below, signed_decimal}
use Rattle.lv_source.specs.Names.{Names}
use Rattle.lv_source.specs.Effect.{turns, turns_from, index_value, with_index}
use Rattle.lv_source.specs.Declarations.{Thing, Direction, Wire, Reg, Parameter, Index, Instance, Label, Declaration, declare, of_item, of_items, declared_as}
use Rattle.lv_source.specs.Scopes.{Scope, module_named, instance_scopes, instance_scope, turn_scope, children_by, counted_from, is_among}
use Rattle.lv_source.specs.ScopeRules.{completes, is_pair, is_nil, place_if, declared_again, listed_ports, duplicates}
use Rattle.lv_source.proofs.Tests.{name-itself}
use Rattle.lv_source.proofs.Facts.{some_same, numbered_at}
use Rattle.lv_source.proofs.FaultLaws.{append-left}
use Rattle.lv_source.proofs.Refused.{In, in-left, in-right, in-split}
use Rattle.lv_source.proofs.Paths.{IsPlain, IsIndex, none, one, ends, split_step, split_index, same_rest, below_same}
use Rattle.lv_source.proofs.Trees.{indexed, signed_plain}

-- ---- instances and labels

abbrev pub is_head : Declaration → Bool
is_head d = elim d.thing [ Direction o w s r ↦ false | Wire s r ↦ false | Reg s r b ↦ false | Parameter l s r v ↦ false | Index g ↦ false | Instance ↦ true | Label ↦ true ]

-- no instance or label has the name of a later one
abbrev pub Once : List Declaration → Type 0
Once [] = Unit {0}
Once (d ∷ ds) = ((e : Declaration) → In e ds → d.name.name ≡ e.name.name → is_head d ≡ true → is_head e ≡ true → ⊥) × Once ds

pub once-left : (xs ys : List Declaration) → Once (xs ++ ys) → Once xs
once-left [] ys h = tt
once-left (x ∷ xs) ys h = ((λ e i. h.0 e (in-left e xs ys i)), once-left xs ys h.1)

pub once-right : (xs ys : List Declaration) → Once (xs ++ ys) → Once ys
once-right [] ys h = h
once-right (x ∷ xs) ys h = once-right xs ys h.1

once-cross : (xs ys : List Declaration) → Once (xs ++ ys) → (d e : Declaration) → In d xs → In e ys → d.name.name ≡ e.name.name → is_head d ≡ true → is_head e ≡ true → ⊥
once-cross [] ys h d e i j n k l = absurd i
once-cross (x ∷ xs) ys h d e (inl i) j n k l = h.0 e (in-right e xs ys j) (ap (λ (z : Declaration). z.name.name) i ∙ n) (ap is_head i ∙ k) l
once-cross (x ∷ xs) ys h d e (inr i) j n k l = once-cross xs ys h.1 d e i j n k l

-- ---- what a child is

-- from a declaration, with an index
pub record Headed (s : Scope) (ds : List Declaration) (c : Scope) : Type 0 where
  pub from : Declaration
  pub among : In from ds
  pub head : is_head from ≡ true
  pub index : List ℕ
  pub is_index : IsIndex index
  pub path : c.path ≡ below s.path (spelled from.name.name ++ index)

no_index : (n : List ℕ) → n ≡ n ++ []
no_index [] = refl
no_index (x ∷ xs) = ap (λ ys. x ∷ ys) (no_index xs)

-- ---- instances

pub instance_if : (b : Bool) (x c : Scope) → In c (if b then [] else x ∷ []) → x ≡ c
instance_if true x c h = absurd h
instance_if false x c (inl e) = e
instance_if false x c (inr e) = absurd e

instance_path : (s : Scope) (settings : List Conn) (inst : Inst) (m : Option Module) (c : Scope) → In c (instance_scopes s settings inst m) →
    c.path ≡ below s.path (spelled inst.name.name)
instance_path s settings inst None c h = absurd h
instance_path s settings inst (Some m) c h = ap (λ (z : Scope). z.path) (sym (instance_if (is_among s.around m.name.name) (instance_scope s settings inst m) c h))

instance_one : (s : Scope) (settings : List Conn) (inst : Inst) (m : Option Module) (c e : Scope) → In c (instance_scopes s settings inst m) → In e (instance_scopes s settings inst m) → c ≡ e
instance_one s settings inst None c e h k = absurd h
instance_one s settings inst (Some m) c e h k =
    sym (instance_if (is_among s.around m.name.name) (instance_scope s settings inst m) c h) ∙ instance_if (is_among s.around m.name.name) (instance_scope s settings inst m) e k

abbrev pub of_inst : Inst → Declaration
of_inst n = declare Instance n.name

headed_more : (s : Scope) (xs ys : List Declaration) (c : Scope) → Headed s xs c → Headed s (xs ++ ys) c
headed_more s xs ys c h = record { from = h.from; among = in-left h.from xs ys h.among; head = h.head; index = h.index; is_index = h.is_index; path = h.path }

headed_after : (s : Scope) (xs ys : List Declaration) (c : Scope) → Headed s ys c → Headed s (xs ++ ys) c
headed_after s xs ys c h = record { from = h.from; among = in-right h.from xs ys h.among; head = h.head; index = h.index; is_index = h.is_index; path = h.path }

pub inst_headed : (s : Scope) (settings : List Conn) (inst : Inst) (m : Option Module) (c : Scope) → In c (instance_scopes s settings inst m) → Headed s (of_inst inst ∷ []) c
inst_headed s settings inst m c h = record {
  from = of_inst inst;
  among = inl refl;
  head = refl;
  index = [];
  is_index = none;
  path = instance_path s settings inst m c h ∙ ap (below s.path) (no_index (spelled inst.name.name));
}

abbrev pub AllPlain : List Declaration → Type 0
AllPlain ds = (d : Declaration) → In d ds → IsPlain d.name.name

-- equal paths have equal names and indices
pub same_head : (path : Name) (m n i j : List ℕ) (p q : Name) → IsPlain m → IsPlain n → IsIndex i → IsIndex j → p ≡ below path (spelled m ++ i) → q ≡ below path (spelled n ++ j) → p ≡ q → (m ≡ n) × (i ≡ j)
same_head path m n i j p q pm pn a b h k e =
    let t : (m ≡ n) × (i ≡ j) × ([] ≡ []) = split_step m n i j [] [] pm pn a b ends ends
    (ap (λ x. spelled m ++ x) (sym (no_index i)) ∙ (below_same path _ _ (sym h ∙ (e ∙ k)) ∙ ap (λ x. spelled n ++ x) (no_index j))) in (t.0, t.1)

-- two children of one path have no distinct heads
pub cross_heads : (s : Scope) (xs ys : List Declaration) (c e : Scope) → Once (xs ++ ys) → AllPlain xs → AllPlain ys → Headed s xs c → Headed s ys e → c.path ≡ e.path → ⊥
cross_heads s xs ys c e h p q a b k =
    let t : (a.from.name.name ≡ b.from.name.name) × (a.index ≡ b.index) =
    same_head s.path a.from.name.name b.from.name.name a.index b.index c.path e.path (p a.from a.among) (q b.from b.among) a.is_index b.is_index a.path b.path k in
    once-cross xs ys h a.from b.from a.among b.among t.0 a.head b.head

pub plain_left : (xs ys : List Declaration) → AllPlain (xs ++ ys) → AllPlain xs
plain_left xs ys h d i = h d (in-left d xs ys i)

pub plain_right : (xs ys : List Declaration) → AllPlain (xs ++ ys) → AllPlain ys
plain_right xs ys h d i = h d (in-right d xs ys i)

module _ (s : Scope) (settings : List Conn) (m : Option Module) where
  pub insts_headed : (insts : List Inst) (c : Scope) → In c (flat_map (λ inst. instance_scopes s settings inst m) insts) → Headed s (map of_inst insts) c
  insts_headed [] c h = absurd h
  insts_headed (x ∷ xs) c h = elim (in-split c (instance_scopes s settings x m) (flat_map (λ inst. instance_scopes s settings inst m) xs) h) [
    | inl k ↦ headed_more s (of_inst x ∷ []) (map of_inst xs) c (inst_headed s settings x m c k)
    | inr k ↦ headed_after s (of_inst x ∷ []) (map of_inst xs) c (insts_headed xs c k)
  ]

  insts_differ : (insts : List Inst) (c e : Scope) → Once (map of_inst insts) → AllPlain (map of_inst insts) → In c (flat_map (λ inst. instance_scopes s settings inst m) insts) →
      In e (flat_map (λ inst. instance_scopes s settings inst m) insts) → c.path ≡ e.path → c ≡ e
  insts_differ [] c e o p h k q = absurd h
  insts_differ (x ∷ xs) c e o p h k q =
      let ps : AllPlain (of_inst x ∷ []) = plain_left (of_inst x ∷ []) (map of_inst xs) p in
      let qs : AllPlain (map of_inst xs) = plain_right (of_inst x ∷ []) (map of_inst xs) p in
      elim (in-split c (instance_scopes s settings x m) (flat_map (λ inst. instance_scopes s settings inst m) xs) h) [
        | inl a ↦ elim (in-split e (instance_scopes s settings x m) (flat_map (λ inst. instance_scopes s settings inst m) xs) k) [
          | inl b ↦ instance_one s settings x m c e a b
          | inr b ↦ absurd (cross_heads s (of_inst x ∷ []) (map of_inst xs) c e o ps qs (inst_headed s settings x m c a) (insts_headed xs e b) q)
        ]
        | inr a ↦ elim (in-split e (instance_scopes s settings x m) (flat_map (λ inst. instance_scopes s settings inst m) xs) k) [
          | inl b ↦ absurd (cross_heads s (of_inst x ∷ []) (map of_inst xs) e c o ps qs (inst_headed s settings x m e b) (insts_headed xs c a) (sym q))
          | inr b ↦ insts_differ xs c e o.1 qs a b q
        ]
      ]

-- ---- turns

below_limit : (n : ℕ) → n % 2 ^ 32 < 2 ^ 32
below_limit n = omega arith

turn_if : (b : Bool) (v value : ℕ) (rest : List ℕ) → In v (elim b as (λ _. List ℕ) [ true ↦ [] | false ↦ value ∷ rest ]) → (value ≡ v) ⊎ In v rest
turn_if true v value rest h = absurd h
turn_if false v value rest h = h

turn_small : (n : ℕ) (names : Names) (index : Name) (test next : Expr) (value v : ℕ) → value < 2 ^ 32 → In v (turns_from n names index test next value) → v < 2 ^ 32
unfolding turns_from
turn_small zero names index test next value v small h = absurd h
turn_small (suc n) names index test next value v small h =
    elim (turn_if _ v value (turns_from n names index test next (index_value (with_index names index value) next)) h) [
      | inl e ↦ subst (λ (k : ℕ). k < 2 ^ 32) e small
      | inr i ↦ turn_small n names index test next (index_value (with_index names index value) next) v (below_limit _) i
    ]

pub turns_small : (names : Names) (index : Name) (start test next : Expr) (v : ℕ) → In v (turns names index start test next) → v < 2 ^ 32
unfolding turns
turns_small names index start test next v h = turn_small 1000001 names index test next (index_value names start) v (below_limit _) h

unsign : ℤ → ℕ
unsign (pos n) = n
unsign (negsuc n) = n

is_pos : ℤ → Bool
is_pos (pos n) = true
is_pos (negsuc n) = false

signed_by : (b c : Bool) (v w : ℕ) → v < 2 ^ 32 → w < 2 ^ 32 → (if b then pos v else negsuc (2 ^ 32 - suc v)) ≡ (if c then pos w else negsuc (2 ^ 32 - suc w)) → v ≡ w
unfolding unsign is_pos
signed_by true true v w h k e = ap unsign e
signed_by true false v w h k e = absurd (let x : true ≡ false = ap is_pos e in cc)
signed_by false true v w h k e = absurd (let x : false ≡ true = ap is_pos e in cc)
signed_by false false v w h k e = (let x : 2 ^ 32 - suc v ≡ 2 ^ 32 - suc w = ap unsign e in omega arith)

signed_same : (v w : ℕ) → v < 2 ^ 32 → w < 2 ^ 32 → signed_of 32 v ≡ signed_of 32 w → v ≡ w
signed_same v w h k e = signed_by (nat_lt v (2 ^ 31)) (nat_lt w (2 ^ 31)) v w h k e

std_signed : (z : ℤ) → signed_decimal z ≡ std.signed_decimal z
std_signed (pos n) = refl
std_signed (negsuc n) = ap (λ k. 45 ∷ decimal k) (let e : n + 1 ≡ suc n = omega arith in e)

mag_by : (b : Bool) (v : ℕ) → v < 2 ^ 32 → mag (if b then pos v else negsuc (2 ^ 32 - suc v)) < 2 ^ 63
mag_by true v h = omega arith
mag_by false v h = omega arith

signed_small : (v : ℕ) → v < 2 ^ 32 → mag (signed_of 32 v) < 2 ^ 63
signed_small v h = mag_by (nat_lt v (2 ^ 31)) v h

turn_text : ℕ → List ℕ
turn_text v = signed_decimal (signed_of 32 v)

text_same : (v w : ℕ) → v < 2 ^ 32 → w < 2 ^ 32 → turn_text v ≡ turn_text w → v ≡ w
unfolding turn_text
text_same v w h k e =
    signed_same v w h k (signed_decimal_injective (signed_of 32 v) (signed_of 32 w) (signed_small v h) (signed_small w k) (sym (std_signed (signed_of 32 v)) ∙ (e ∙ std_signed (signed_of 32 w))))

pub mapped-from : {A B : Type 0} (f : A → B) (y : B) (xs : List A) → In y (map f xs) → (x : A) × In x xs × (f x ≡ y)
mapped-from f y [] h = absurd h
mapped-from f y (x ∷ xs) (inl e) = (x, inl refl, e)
mapped-from f y (x ∷ xs) (inr h) = (let r : (z : _) × In z xs × (f z ≡ y) = mapped-from f y xs h in (r.0, inr r.1, r.2))

pub index_text : ℕ → List ℕ
index_text v = 91 ∷ (turn_text v ++ 93 ∷ [])

pub index_text_is : (v : ℕ) → IsIndex (index_text v)
unfolding index_text turn_text
index_text_is v = one (signed_decimal (signed_of 32 v)) (signed_plain (signed_of 32 v))

pub index_text_same : (v w : ℕ) → v < 2 ^ 32 → w < 2 ^ 32 → index_text v ≡ index_text w → v ≡ w
unfolding index_text turn_text
index_text_same v w h k e =
    text_same v w h k (split_index (turn_text v) (turn_text w) [] [] (signed_plain (signed_of 32 v)) (signed_plain (signed_of 32 w))
    (sym (no_index _) ∙ (same_rest 91 91 _ _ e ∙ no_index _))).0

module _ (s : Scope) (before : ℕ) (index label : Ident) (items : List Item) (ks : List ℕ) (small : (v : ℕ) → In v ks → v < 2 ^ 32) where
  pub turn_path : (v : ℕ) → (turn_scope s before index label items v).path ≡ below s.path (spelled label.name ++ index_text v)
  unfolding index_text turn_text
  turn_path v = ap (below s.path) (indexed (spelled label.name) (signed_decimal (signed_of 32 v)))

  turns_headed : (c : Scope) → In c (map (turn_scope s before index label items) ks) → Headed s (declare Label label ∷ []) c
  turns_headed c h =
      let v : (v : ℕ) × In v ks × (turn_scope s before index label items v ≡ c) = mapped-from (turn_scope s before index label items) c ks h in
      record { from = declare Label label; among = inl refl; head = refl; index = index_text v.0; is_index = index_text_is v.0; path = ap (λ (z : Scope). z.path) (sym v.2) ∙ turn_path v.0 }

  turns_differ : (c e : Scope) → IsPlain label.name → In c (map (turn_scope s before index label items) ks) → In e (map (turn_scope s before index label items) ks) → c.path ≡ e.path → c ≡ e
  turns_differ c e p h k q =
      let v : (v : ℕ) × In v ks × (turn_scope s before index label items v ≡ c) = mapped-from (turn_scope s before index label items) c ks h in
      let w : (v : ℕ) × In v ks × (turn_scope s before index label items v ≡ e) = mapped-from (turn_scope s before index label items) e ks k in
      let t : (label.name ≡ label.name) × (index_text v.0 ≡ index_text w.0) =
      same_head s.path label.name label.name (index_text v.0) (index_text w.0) c.path e.path p p (index_text_is v.0) (index_text_is w.0)
      (ap (λ (z : Scope). z.path) (sym v.2) ∙ turn_path v.0) (ap (λ (z : Scope). z.path) (sym w.2) ∙ turn_path w.0) q in
      sym v.2 ∙ (ap (turn_scope s before index label items) (index_text_same v.0 w.0 (small v.0 v.1) (small w.0 w.1) t.1) ∙ w.2)

-- ---- items

module _ (source : Source) (s : Scope) where
  pub item_headed : (k : ℕ) (x : Item) (c : Scope) → In c (children_by source s (k, x)) → Headed s (of_item x) c
  item_headed k (i.Instance kind settings insts) c h = insts_headed s settings (module_named source kind.name) insts c h
  item_headed k (i.Loop' index start test again next label n items) c h =
      turns_headed s k index label (spread_all items) (turns s.names index.name start test next) (turns_small s.names index.name start test next) c h
  item_headed k (i.Port a) c h = absurd h
  item_headed k (i.Wire signed range names) c h = absurd h
  item_headed k (i.Reg signed range names) c h = absurd h
  item_headed k (i.Index genvar names) c h = absurd h
  item_headed k (i.Params local ps) c h = absurd h
  item_headed k (i.Assign list) c h = absurd h
  item_headed k (i.Always watch stmt place) c h = absurd h
  item_headed k (i.Generate' n items) c h = absurd h

  item_differ : (k : ℕ) (x : Item) (c e : Scope) → Once (of_item x) → AllPlain (of_item x) → In c (children_by source s (k, x)) → In e (children_by source s (k, x)) → c.path ≡ e.path → c ≡ e
  item_differ k (i.Instance kind settings insts) c e o p a b q = insts_differ s settings (module_named source kind.name) insts c e o p a b q
  item_differ k (i.Loop' index start test again next label n items) c e o p a b q =
      turns_differ s k index label (spread_all items) (turns s.names index.name start test next) (turns_small s.names index.name start test next) c e (p (declare Label label) (inl refl)) a b q
  item_differ k (i.Port x) c e o p a b q = absurd a
  item_differ k (i.Wire signed range names) c e o p a b q = absurd a
  item_differ k (i.Reg signed range names) c e o p a b q = absurd a
  item_differ k (i.Index genvar names) c e o p a b q = absurd a
  item_differ k (i.Params local ps) c e o p a b q = absurd a
  item_differ k (i.Assign list) c e o p a b q = absurd a
  item_differ k (i.Always watch stmt place) c e o p a b q = absurd a
  item_differ k (i.Generate' n items) c e o p a b q = absurd a

  pub items_headed : (k : ℕ) (xs : List Item) (c : Scope) → In c (flat_map (children_by source s) (counted_from k xs)) → Headed s (of_items xs) c
  items_headed k [] c h = absurd h
  items_headed k (x ∷ xs) c h = elim (in-split c (children_by source s (k, x)) _ h) [
    | inl a ↦ headed_more s (of_item x) (of_items xs) c (item_headed k x c a)
    | inr a ↦ headed_after s (of_item x) (of_items xs) c (items_headed (k + length (of_item x)) xs c a)
  ]

  pub items_differ : (k : ℕ) (xs : List Item) (c e : Scope) → Once (of_items xs) → AllPlain (of_items xs) → In c (flat_map (children_by source s) (counted_from k xs)) →
      In e (flat_map (children_by source s) (counted_from k xs)) → c.path ≡ e.path → c ≡ e
  items_differ k [] c e o p h j q = absurd h
  items_differ k (x ∷ xs) c e o p h j q =
      let ps : AllPlain (of_item x) = plain_left (of_item x) (of_items xs) p in
      let qs : AllPlain (of_items xs) = plain_right (of_item x) (of_items xs) p in
      elim (in-split c (children_by source s (k, x)) _ h) [
        | inl a ↦ elim (in-split e (children_by source s (k, x)) _ j) [
          | inl b ↦ item_differ k x c e (once-left (of_item x) (of_items xs) o) ps a b q
          | inr b ↦ absurd (cross_heads s (of_item x) (of_items xs) c e o ps qs (item_headed k x c a) (items_headed (k + length (of_item x)) xs e b) q)
        ]
        | inr a ↦ elim (in-split e (children_by source s (k, x)) _ j) [
          | inl b ↦ absurd (cross_heads s (of_item x) (of_items xs) e c o ps qs (item_headed k x e b) (items_headed (k + length (of_item x)) xs c a) (sym q))
          | inr b ↦ items_differ (k + length (of_item x)) xs c e (once-right (of_item x) (of_items xs) o) qs a b q
        ]
      ]

-- ---- without a Duplicate

named_if : (b : Bool) (x : Declaration) (xs : List Declaration) (d : Declaration) → x ≡ d → b ≡ true → In d (cond b (x ∷ xs) xs)
named_if true x xs d e h = inl e
named_if false x xs d e h = cc

named_else : (b : Bool) (x : Declaration) (xs : List Declaration) (d : Declaration) → In d xs → In d (cond b (x ∷ xs) xs)
named_else true x xs d h = inr h
named_else false x xs d h = h

pub named_any : (n : Name) (ds : List Declaration) (d : Declaration) → In d ds → d.name.name ≡ n → In d (declared_as n ds)
named_any n [] d h e = absurd h
named_any n (x ∷ xs) d (inl k) e = named_if (bytes_eq x.name.name n) x (declared_as n xs) d k (ap (λ m. bytes_eq m n) (ap (λ (z : Declaration). z.name.name) k ∙ e) ∙ name-itself n)
named_any n (x ∷ xs) d (inr k) e = named_else (bytes_eq x.name.name n) x (declared_as n xs) d (named_any n xs d k e)

-- a pair that is no duplicate has no instance and no label
no_pair : (names : Names) (a b : Thing) → (elim a [ Direction o w s r ↦ false | Wire s r ↦ false | Reg s r c ↦ false | Parameter l s r v ↦ false | Index g ↦ false | Instance ↦ true | Label ↦ true ]) ≡ true →
    completes names a b ≡ false
no_pair names (Direction o w s r) b h = cc
no_pair names (Wire s r) b h = cc
no_pair names (Reg s r c) b h = cc
no_pair names (Parameter l s r v) b h = cc
no_pair names (Index g) b h = cc
no_pair names Instance b h = refl
no_pair names Label b h = refl

pair_instance : (names : Names) (a : Thing) → completes names a Instance ≡ false
pair_instance names (Direction o w.Absent s r) = refl
pair_instance names (Direction o w.Wire s r) = refl
pair_instance names (Direction o w.Reg s r) = refl
pair_instance names (Wire s r) = refl
pair_instance names (Reg s r c) = refl
pair_instance names (Parameter l s r v) = refl
pair_instance names (Index g) = refl
pair_instance names Instance = refl
pair_instance names Label = refl

pair_label : (names : Names) (a : Thing) → completes names a Label ≡ false
pair_label names (Direction o w.Absent s r) = refl
pair_label names (Direction o w.Wire s r) = refl
pair_label names (Direction o w.Reg s r) = refl
pair_label names (Wire s r) = refl
pair_label names (Reg s r c) = refl
pair_label names (Parameter l s r v) = refl
pair_label names (Index g) = refl
pair_label names Instance = refl
pair_label names Label = refl

no_pair_after : (names : Names) (a b : Thing) → (elim b [ Direction o w s r ↦ false | Wire s r ↦ false | Reg s r c ↦ false | Parameter l s r v ↦ false | Index g ↦ false | Instance ↦ true | Label ↦ true ]) ≡ true →
    completes names a b ≡ false
no_pair_after names a (Direction o w s r) h = cc
no_pair_after names a (Wire s r) h = cc
no_pair_after names a (Reg s r c) h = cc
no_pair_after names a (Parameter l s r v) h = cc
no_pair_after names a (Index g) h = cc
no_pair_after names a Instance h = pair_instance names a
no_pair_after names a Label h = pair_label names a

pair_none : (listed x y : Bool) → x ≡ false → y ≡ false → (listed && (x || y)) ≡ false
pair_none true x y h k = ap (λ b. b || y) h ∙ k
pair_none false x y h k = refl

no_pair_in : (names : Names) (listed : Bool) (xs : List Declaration) (d : Declaration) → In d xs → is_head d ≡ true → is_pair names listed xs ≡ false
no_pair_in names listed [] d h k = absurd h
no_pair_in names listed (a ∷ []) d h k = refl
no_pair_in names listed (a ∷ b ∷ []) d (inl e) k =
    let x : is_head a ≡ true = ap is_head e ∙ k in pair_none listed _ _ (no_pair names a.thing b.thing x) (no_pair_after names b.thing a.thing x)
no_pair_in names listed (a ∷ b ∷ []) d (inr (inl e)) k =
    let x : is_head b ≡ true = ap is_head e ∙ k in pair_none listed _ _ (no_pair_after names a.thing b.thing x) (no_pair names b.thing a.thing x)
no_pair_in names listed (a ∷ b ∷ []) d (inr (inr e)) k = absurd e
no_pair_in names listed (a ∷ b ∷ c ∷ xs) d h k = refl

pub in_take : (ds : List Declaration) (j k : ℕ) (d : Declaration) → slice_get ds j ≡ Some d → j < k → In d (take k ds)
in_take [] j k d e h = cc
in_take (x ∷ xs) j zero d e h = absurd (omega arith)
in_take (x ∷ xs) zero (suc k) d e h = inl (some_same x d e)
in_take (x ∷ xs) (suc j) (suc k) d e h = inr (in_take xs j k d e (omega arith))

told_again : (b : Bool) (xs : List Declaration) (place : ℕ) (d : Declaration) → b ≡ false → In d xs → (if b then [] else place_if (not (is_nil xs)) place) ≡ [] → ⊥
told_again true xs place d h i e = cc
told_again false [] place d h i e = i
told_again false (x ∷ xs) place d h i e = cc

again : (s : Scope) (j k : ℕ) (d e : Declaration) → declared_again s (k, e) ≡ [] → slice_get s.declarations j ≡ Some d → In e s.declarations → j < k → d.name.name ≡ e.name.name →
    is_head e ≡ true → ⊥
again s j k d e h i l m n o =
    told_again (is_pair s.names (is_among (listed_ports s.ports) e.name.name) (declared_as e.name.name s.declarations)) (declared_as e.name.name (take k s.declarations)) e.name.place d
    (no_pair_in s.names (is_among (listed_ports s.ports) e.name.name) (declared_as e.name.name s.declarations) e (named_any e.name.name s.declarations e l refl) o)
    (named_any e.name.name (take k s.declarations) d (in_take s.declarations j k d i m) n) h

pub index_in : {A : Type 0} (x : A) (xs : List A) → In x xs → (k : ℕ) × (slice_get xs k ≡ Some x)
index_in x [] h = absurd h
index_in x (y ∷ ys) (inl e) = (0, ap (λ z. Some z) e)
index_in x (y ∷ ys) (inr h) = let r : (k : ℕ) × (slice_get ys k ≡ Some x) = index_in x ys h in (suc r.0, r.1)

pub in_index : {A : Type 0} (x : A) (xs : List A) (k : ℕ) → slice_get xs k ≡ Some x → In x xs
in_index x [] k e = cc
in_index x (y ∷ ys) zero e = inl (some_same y x e)
in_index x (y ∷ ys) (suc k) e = inr (in_index x ys k e)

once_from : (ds : List Declaration) → ((j k : ℕ) (d e : Declaration) → slice_get ds j ≡ Some d → slice_get ds k ≡ Some e → j < k → d.name.name ≡ e.name.name → is_head d ≡ true → is_head e ≡ true → ⊥) → Once ds
once_from [] h = tt
once_from (d ∷ ds) h = (
  (λ e i n k l. (let r : (k : ℕ) × (slice_get ds k ≡ Some e) = index_in e ds i in h 0 (suc r.0) d e refl r.1 (omega arith) n k l)),
  once_from ds (λ j k x y a b c n p q. h (suc j) (suc k) x y a b (omega arith) n p q),
)

pub once : (s : Scope) → duplicates s ≡ [] → Once s.declarations
once s h = once_from s.declarations (λ j k d e a b c n p q.
    (let z : 0 + k ≡ k = omega arith in
    again s j k d e (ap (λ m. declared_again s (m, e)) (sym z) ∙ numbered_at (declared_again s) s.declarations 0 (append-left _ _ h) k e b) a (in_index e s.declarations k b) c n q))
