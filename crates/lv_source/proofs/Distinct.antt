-- The cells of all signals of a legal source are distinct, one by one as they are listed, where its loops end within the limit.
use Rattle.std.proofs.Common.{◌≡◌, ◌⊎◌, inl, inr, ℕ, zero, suc, ◌+◌, ◌<◌, ◌≤◌, ◌^◌, arith, Bool, true, false, ◌&&◌, not, List, [], ◌∷◌, ◌++◌, map, length, refl, sym, ap, ◌∙◌, subst, Option, Some, None}
use Rattle.std.specs.Prelude.{bytes_eq, flat_map, filter, take, sum, decimal, slice_get, pos, nat_le, if◌then◌else◌}
use Rattle.std.specs.List.{list_any, range_with_len, IsDistinct, AllByRecursion}
use Rattle.std.proofs.lemmas.Fmt.{decimal_injective}
use Rattle.std.proofs.lemmas.List.Sums.{sum_by-cons}
use Rattle.lv_ast.specs.declared.stmt.Ident.{Ident}
use Rattle.lv_ast.specs.declared.item.Item.{Item}
use Rattle.lv_ast.specs.declared.item.Item.TheVariants as i
use Rattle.lv_ast.specs.declared.item.Conn.{Conn}
use Rattle.lv_ast.specs.declared.item.Inst.{Inst}
use Rattle.lv_ast.specs.declared.item.Module.{Module}
use Rattle.lv_ast.specs.declared.item.Source.{Source}
use Rattle.lv_ast.specs.Trees.{spread_all}
use Rattle.lv_ast.specs.PlainNames.{plain_module, HasPlainNames}
use Rattle.lv_ast.specs.Names.{Name, alone, spelled, below, at_index}
use Rattle.lv_source.specs.Names.{Bounds, Declared, Sort, Input, Net, Variable, Clock, Constant, Index, Other, known, low, high, size, is_signal_sort, is_clock_sort, is_variable_sort, is_input_sort}
use Rattle.lv_source.specs.Places.{cells, cells_by}
use Rattle.lv_source.specs.Effect.{turns}
use Rattle.lv_source.specs.Declarations.{Label, Declaration, declare, of_item, of_items, declared_as}
use Rattle.lv_source.specs.Meaning.{is_nil}
use Rattle.lv_source.specs.Scopes.{Scope, module_named, instance_scope, instance_scopes, turn_scope, is_among, is_direction, children, children_by, counted_from, scopes_within}
use Rattle.lv_source.specs.Parts.{Design, numbered_from, is_first, stands_here, put_by_place, by_place, scope_signals, signals_of, scopes_from, scopes_of, depth, top_scope, parts, is_register, registers_of, inputs_of}
use Rattle.lv_source.specs.Limits.{Size, nodes_alone, params_nodes, ports_nodes, item_size, scope_size, design_size, IsWithinLimits}
use Rattle.lv_source.specs.ScopeRules.{duplicates}
use Rattle.lv_source.specs.Legal.{IsLegal, Duplicate, modules_again, places_of}
use Rattle.lv_source.proofs.Tests.{and-left, and-right, same_name, name-itself, decide, not-true, or-left, or-right}
use Rattle.lv_source.proofs.Refused.{In, in-right}
use Rattle.lv_source.proofs.FaultLaws.{in-flat, append-right, scopes_clean}
use Rattle.lv_source.proofs.Paths.{IsPlain, IsIndex, ends, split_step, split_index, same_rest, left_same, below_same}
use Rattle.lv_source.proofs.Trees.{HasCell, AllTold, in-from, indexed, signed_plain, cell_index, own_cell, own_kid, kid_cell, one_path}
use Rattle.lv_source.proofs.Kids.{Once, once, once-left, once-right, AllPlain, plain_left, plain_right, of_inst, cross_heads, inst_headed, insts_headed, item_headed, items_headed, turn_path, index_text, index_text_is, index_text_same, turns_small, same_head, named_any, in_index, in_take}
use Rattle.lv_source.proofs.Shaped.{IsShaped, in_put, in_if, in_sorted, own_path, module_shaped, all_shaped, all_in, found_in, told}
use Rattle.lv_source.proofs.Given.{any_in, mapped_in}
use Rattle.lv_source.proofs.Drives.{cell_one}
use Rattle.lv_source.proofs.Bounds.{arrays_small}
use Rattle.lv_source.proofs.Apart.{Apart, apart-join, apart-imp, apart-map, apart-flat, apart-filter, in-filter}
use Rattle.lv_source.proofs.Turns.{Differ, turns_differ}

abbrev PathsDiffer : Scope → Scope → Type 0
PathsDiffer c e = c.path ≡ e.path → ⊥

abbrev CellsDiffer : Declared → Declared → Type 0
CellsDiffer x y = (name : Name) → HasCell x name → HasCell y name → ⊥

-- ---- sums

in_sum : (ns : List ℕ) (n : ℕ) → In n ns → n ≤ sum ns
in_sum [] n h = absurd h
in_sum (m ∷ ms) n (inl e) = let c : sum (m ∷ ms) ≡ m + sum ms = sum_by-cons (λ k. k) m ms in omega arith
in_sum (m ∷ ms) n (inr h) = let c : sum (m ∷ ms) ≡ m + sum ms = sum_by-cons (λ k. k) m ms in let f : n ≤ sum ms = in_sum ms n h in omega arith

-- no loop of the scope goes beyond the limit
abbrev Ends : Scope → Type 0
Ends s = (x : Item) → In x s.items → (item_size s x).turns ≤ 1000000

abbrev turns_in : Size → ℕ
turns_in z = z.turns

scope_turns : (s : Scope) (x : Item) → In x s.items → (item_size s x).turns ≤ (scope_size s).turns
scope_turns s x h = in_sum (map turns_in (nodes_alone (sum (map params_nodes s.params) + ports_nodes s.ports) ∷ map (item_size s) s.items)) (item_size s x).turns (inr (mapped_in turns_in (item_size s x) (map (item_size s) s.items) (mapped_in (item_size s) x s.items h)))

scopes_end : (d : Design) → IsWithinLimits d → (s : Scope) → In s (scopes_of d) → Ends s
scopes_end d limits s h x k =
    let a : (item_size s x).turns ≤ (scope_size s).turns = scope_turns s x k in
    let b : (scope_size s).turns ≤ (design_size d).turns = in_sum (map turns_in (map scope_size (scopes_of d))) (scope_size s).turns (mapped_in turns_in (scope_size s) (map scope_size (scopes_of d)) (mapped_in scope_size s (scopes_of d) h)) in
    let c : (design_size d).turns ≤ 1000000 = limits.turns in
    omega arith

-- ---- children

module _ (source : Source) (s : Scope) where
  one_apart : (b : Bool) (x : Scope) → Apart PathsDiffer (if b then [] else x ∷ [])
  one_apart true x = tt
  one_apart false x = ((λ y h. absurd h), tt)

  inst_apart : (settings : List Conn) (inst : Inst) (m : Option Module) → Apart PathsDiffer (instance_scopes s settings inst m)
  inst_apart settings inst None = tt
  inst_apart settings inst (Some m) = one_apart (is_among s.around m.name.name) (instance_scope s settings inst m)

  insts_apart : (settings : List Conn) (m : Option Module) (insts : List Inst) → Once (map of_inst insts) → AllPlain (map of_inst insts) → Apart PathsDiffer (flat_map (λ inst. instance_scopes s settings inst m) insts)
  insts_apart settings m [] o p = tt
  insts_apart settings m (x ∷ xs) o p =
      let ps : AllPlain (of_inst x ∷ []) = plain_left (of_inst x ∷ []) (map of_inst xs) p in
      let qs : AllPlain (map of_inst xs) = plain_right (of_inst x ∷ []) (map of_inst xs) p in
      apart-join PathsDiffer (instance_scopes s settings x m) (flat_map (λ inst. instance_scopes s settings inst m) xs) (inst_apart settings x m) (insts_apart settings m xs o.1 qs)
      (λ c e h k q. cross_heads s (of_inst x ∷ []) (map of_inst xs) c e o ps qs (inst_headed s settings x m c h) (insts_headed s settings m xs e k) q)

  turns_apart : (k : ℕ) (index label : Ident) (items : List Item) (ks : List ℕ) (small : (v : ℕ) → In v ks → v < 2 ^ 32) → IsPlain label.name → Apart Differ ks →
      Apart PathsDiffer (map (turn_scope s k index label items) ks)
  turns_apart k index label items ks small p h =
      apart-map PathsDiffer (turn_scope s k index label items) ks
      (apart-imp Differ (λ v w. PathsDiffer (turn_scope s k index label items v) (turn_scope s k index label items w)) ks
      (λ v w a b d q. (
      let t : (label.name ≡ label.name) × (index_text v ≡ index_text w) =
      same_head s.path label.name label.name (index_text v) (index_text w) _ _ p p (index_text_is v) (index_text_is w)
      (turn_path s k index label items ks small v) (turn_path s k index label items ks small w) q in
      d (index_text_same v w (small v a) (small w b) t.1))) h)

  item_apart : (k : ℕ) (x : Item) → Once (of_item x) → AllPlain (of_item x) → (item_size s x).turns ≤ 1000000 → Apart PathsDiffer (children_by source s (k, x))
  item_apart k (i.Instance kind settings insts) o p h = insts_apart settings (module_named source kind.name) insts o p
  item_apart k (i.Loop' index start test again next label n items) o p h =
      turns_apart k index label (spread_all items) (turns s.names index.name start test next) (turns_small s.names index.name start test next) (p (declare Label label) (inl refl))
      (turns_differ s.names index.name start test next h)
  item_apart k (i.Port a) o p h = tt
  item_apart k (i.Wire signed range names) o p h = tt
  item_apart k (i.Reg signed range names) o p h = tt
  item_apart k (i.Index genvar names) o p h = tt
  item_apart k (i.Params local ps) o p h = tt
  item_apart k (i.Assign list) o p h = tt
  item_apart k (i.Always watch stmt place) o p h = tt
  item_apart k (i.Generate' n items) o p h = tt

  items_apart : (k : ℕ) (xs : List Item) → Once (of_items xs) → AllPlain (of_items xs) → ((x : Item) → In x xs → (item_size s x).turns ≤ 1000000) →
      Apart PathsDiffer (flat_map (children_by source s) (counted_from k xs))
  items_apart k [] o p h = tt
  items_apart k (x ∷ xs) o p h =
      let ps : AllPlain (of_item x) = plain_left (of_item x) (of_items xs) p in
      let qs : AllPlain (of_items xs) = plain_right (of_item x) (of_items xs) p in
      apart-join PathsDiffer (children_by source s (k, x)) (flat_map (children_by source s) (counted_from (k + length (of_item x)) xs))
      (item_apart k x (once-left (of_item x) (of_items xs) o) ps (h x (inl refl)))
      (items_apart (k + length (of_item x)) xs (once-right (of_item x) (of_items xs) o) qs (λ y j. h y (inr j)))
      (λ c e a b q. cross_heads s (of_item x) (of_items xs) c e o ps qs (item_headed source s k x c a) (items_headed source s (k + length (of_item x)) xs e b) q)

  children_apart : IsShaped s → duplicates s ≡ [] → Ends s → Apart PathsDiffer (children source s)
  children_apart h e f = items_apart s.header s.items (once-right h.front (of_items s.items) (subst Once h.whole (once s e)))
      (λ d i. h.plain d (subst (λ (ds : List Declaration). In d ds) (sym h.whole) (in-right d h.front (of_items s.items) i))) f

-- ---- own signals

PairsDiffer : ℕ × Declared → ℕ × Declared → Type 0
PairsDiffer p q = CellsDiffer p.1 q.1

turned : (p q : ℕ × Declared) → PairsDiffer p q → PairsDiffer q p
unfolding PairsDiffer
turned p q f name h k = f name k h

put_apart : (b : Bool) (d e : ℕ × Declared) (es : List (ℕ × Declared)) → Apart PairsDiffer (e ∷ es) → ((x : ℕ × Declared) → In x (e ∷ es) → PairsDiffer d x) → Apart PairsDiffer (put_by_place d es) →
    Apart PairsDiffer (if b then d ∷ e ∷ es else e ∷ put_by_place d es)
put_apart true d e es h f k = (f, h)
put_apart false d e es h f k = (
  (λ x j. elim (in_put x d es j) [
    | inl a ↦ subst (λ (y : ℕ × Declared). PairsDiffer e y) a (turned d e (f e (inl refl)))
    | inr a ↦ h.0 x a
  ]),
  k,
)

in_place : (d : ℕ × Declared) (es : List (ℕ × Declared)) → Apart PairsDiffer es → ((x : ℕ × Declared) → In x es → PairsDiffer d x) → Apart PairsDiffer (put_by_place d es)
in_place d [] h f = ((λ x j. absurd j), tt)
in_place d (e ∷ es) h f = put_apart (nat_le d.0 e.0) d e es h f (in_place d es h.1 (λ x j. f x (inr j)))

sorted_apart : (ds : List (ℕ × Declared)) → Apart PairsDiffer ds → Apart PairsDiffer (by_place ds)
sorted_apart [] h = tt
sorted_apart (d ∷ ds) h = in_place d (by_place ds) (sorted_apart ds h.1) (λ x j. h.0 x (in_sorted x ds j))

abbrev Before : ℕ × Declaration → ℕ × Declaration → Type 0
Before p q = p.0 < q.0

numbered_in : (j : ℕ) (xs : List Declaration) (p : ℕ × Declaration) → In p (numbered_from j xs) → (k : ℕ) × (p.0 ≡ j + k) × (slice_get xs k ≡ Some p.1)
numbered_in j [] p h = absurd h
numbered_in j (x ∷ xs) p (inl e) = (0, (ap (λ (z : ℕ × Declaration). z.0) (sym e) ∙ (let f : j ≡ j + 0 = omega arith in f)), ap (λ (z : ℕ × Declaration). Some z.1) e)
numbered_in j (x ∷ xs) p (inr h) =
    (let r : (k : ℕ) × (p.0 ≡ suc j + k) × (slice_get xs k ≡ Some p.1) = numbered_in (suc j) xs p h in
    let e : p.0 ≡ suc j + r.0 = r.1 in
    (suc r.0, (let f : p.0 ≡ j + suc r.0 = omega arith in f), r.2))

numbered_apart : (j : ℕ) (xs : List Declaration) → Apart Before (numbered_from j xs)
numbered_apart j [] = tt
numbered_apart j (x ∷ xs) = (
  (λ p h. (let r : (k : ℕ) × (p.0 ≡ suc j + k) × (slice_get xs k ≡ Some p.1) = numbered_in (suc j) xs p h in let e : p.0 ≡ suc j + r.0 = r.1 in let f : j < p.0 = omega arith in f)),
  numbered_apart (suc j) xs,
)

clash : (b : Bool) → b ≡ true → b ≡ false → ⊥
clash b h k = (let e : true ≡ false = sym h ∙ k in cc)

nil_in : (xs : List Declaration) (d : Declaration) → In d xs → is_nil xs ≡ true → ⊥
nil_in [] d h e = h
nil_in (x ∷ xs) d h e = (let f : false ≡ true = e in cc)

first_by : (b x y : Bool) → (if b then x else y) ≡ true → ((b ≡ true) × (x ≡ true)) ⊎ ((b ≡ false) × (y ≡ true))
first_by true x y h = inl (refl, h)
first_by false x y h = inr (refl, h)

-- of two declarations of a name, the later isn't the one with which its signal stands, where the earlier is
one_first : (all before : List Declaration) (p q : Declaration) (earlier : List Declaration) → In p before → is_first (is_direction p) earlier all ≡ true → is_first (is_direction q) before all ≡ true → ⊥
one_first all before p q earlier i h k =
    elim (first_by (list_any is_direction all) (is_direction q && not (list_any is_direction before)) (is_nil before) k) [
      | inl a ↦ elim (first_by (list_any is_direction all) (is_direction p && not (list_any is_direction earlier)) (is_nil earlier) h) [
        | inl c ↦ clash (list_any is_direction before) (any_in is_direction p before i (and-left (is_direction p) (not (list_any is_direction earlier)) c.1))
            (not-true (list_any is_direction before) (and-right (is_direction q) (not (list_any is_direction before)) a.1))
        | inr c ↦ clash (list_any is_direction all) a.0 c.0
      ]
      | inr a ↦ nil_in before p i a.1
    ]

module _ (s : Scope) (h : IsShaped s) where
  abbrev given : Declaration → Declared
  given d = known (s.names (alone d.name.name))

  -- the declaration of an entry, and with which it stands
  record Entry (kx : ℕ × Declaration) (a : ℕ × Declared) : Type 0 where
    pub among : In kx.1 s.declarations
    pub at : slice_get s.declarations kx.0 ≡ Some kx.1
    pub is : given kx.1 ≡ a.1
    pub path : a.1.path ≡ below s.path (spelled kx.1.name.name)
    pub first : is_first (is_direction kx.1) (declared_as kx.1.name.name (take kx.0 s.declarations)) (declared_as kx.1.name.name s.declarations) ≡ true

  entry : (kx : ℕ × Declaration) (a : ℕ × Declared) → In kx (numbered_from 0 s.declarations) → In a (stands_here s kx) → Entry kx a
  entry kx a i j =
      let n : (k : ℕ) × (kx.0 ≡ 0 + k) × (slice_get s.declarations k ≡ Some kx.1) = numbered_in 0 s.declarations kx i in
      let z : kx.0 ≡ n.0 = n.1 ∙ (let f : 0 + n.0 ≡ n.0 = omega arith in f) in
      let at : slice_get s.declarations kx.0 ≡ Some kx.1 = ap (λ k. slice_get s.declarations k) z ∙ n.2 in
      let among : In kx.1 s.declarations = in_index kx.1 s.declarations n.0 n.2 in
      let here : (_ ≡ true) × ((kx.1.name.place, given kx.1) ≡ a) = in_if _ (kx.1.name.place, given kx.1) a j in
      let is : given kx.1 ≡ a.1 = ap (λ (p : ℕ × Declared). p.1) here.1 in
      let sort : is_signal_sort (given kx.1).sort ≡ true = and-left (is_signal_sort (given kx.1).sort) _ here.0 in
      record {
        among = among;
        at = at;
        is = is;
        path = ap (λ (x : Declared). x.path) (sym is) ∙ own_path s h kx.1 among (or-left (is_signal_sort (given kx.1).sort) (is_clock_sort (given kx.1).sort) sort);
        first = and-right (is_signal_sort (given kx.1).sort) _ here.0;
      }

  entries_differ : (kx ky : ℕ × Declaration) (a b : ℕ × Declared) → Entry kx a → Entry ky b → Before kx ky → PairsDiffer a b
  unfolding PairsDiffer
  entries_differ kx ky a b e f l name u v =
      let c : (i : List ℕ) × IsIndex i × (name ≡ below s.path (spelled kx.1.name.name ++ (i ++ []))) = cell_index a.1 s.path kx.1.name.name name e.path u in
      let g : (i : List ℕ) × IsIndex i × (name ≡ below s.path (spelled ky.1.name.name ++ (i ++ []))) = cell_index b.1 s.path ky.1.name.name name f.path v in
      let t : (kx.1.name.name ≡ ky.1.name.name) × (c.0 ≡ g.0) × ([] ≡ []) =
      split_step kx.1.name.name ky.1.name.name c.0 g.0 [] [] (h.plain kx.1 e.among) (h.plain ky.1 f.among) c.1 g.1 ends ends (below_same s.path _ _ (sym c.2 ∙ g.2)) in
      let m : Name = ky.1.name.name in
      let before : In kx.1 (declared_as m (take ky.0 s.declarations)) = named_any m (take ky.0 s.declarations) kx.1 (in_take s.declarations kx.0 ky.0 kx.1 e.at l) t.0 in
      one_first (declared_as m s.declarations) (declared_as m (take ky.0 s.declarations)) kx.1 ky.1 (declared_as m (take kx.0 s.declarations)) before
      (ap (λ (n : Name). is_first (is_direction kx.1) (declared_as n (take kx.0 s.declarations)) (declared_as n s.declarations)) (sym t.0) ∙ e.first) f.first

  if_apart : (b : Bool) (x : ℕ × Declared) → Apart PairsDiffer (if b then x ∷ [] else [])
  if_apart true x = ((λ y j. absurd j), tt)
  if_apart false x = tt

  pub own_apart : Apart CellsDiffer (scope_signals s)
  unfolding PairsDiffer
  own_apart =
      apart-map CellsDiffer (λ (p : ℕ × Declared). p.1) (by_place (flat_map (stands_here s) (numbered_from 0 s.declarations)))
      (sorted_apart (flat_map (stands_here s) (numbered_from 0 s.declarations))
      (apart-flat PairsDiffer (stands_here s) (numbered_from 0 s.declarations) (λ kx j. if_apart _ (kx.1.name.place, given kx.1))
      (apart-imp Before (λ kx ky. (a b : ℕ × Declared) → In a (stands_here s kx) → In b (stands_here s ky) → PairsDiffer a b) (numbered_from 0 s.declarations)
      (λ kx ky i j l a b u v. entries_differ kx ky a b (entry kx a i u) (entry ky b j v) l) (numbered_apart 0 s.declarations))))

-- ---- scopes

abbrev ScopesDiffer : Scope → Scope → Type 0
ScopesDiffer u v = (x y : Declared) → In x (scope_signals u) → In y (scope_signals v) → CellsDiffer x y

module _ (source : Source) where
  abbrev Fine : ℕ → Scope → Type 0
  Fine n s = (u : Scope) → In u (scopes_within n source s) → IsShaped u × (duplicates u ≡ []) × Ends u

  fine_child : (n : ℕ) (s c : Scope) → Fine (suc n) s → In c (children source s) → Fine n c
  fine_child n s c f i u j = f u (inr (in-flat (scopes_within n source) c u (children source s) i j))

  all_told : (n : ℕ) (s : Scope) → Fine n s → AllTold n source s
  all_told n s f u i = (let r : IsShaped u × (duplicates u ≡ []) × Ends u = f u i in told source u r.0 r.1)

  scopes_apart : (n : ℕ) (s : Scope) → Fine n s → Apart ScopesDiffer (scopes_within n source s)
  scopes_apart zero s f = tt
  scopes_apart (suc n) s f =
      let here : IsShaped s × (duplicates s ≡ []) × Ends s = f s (inl refl) in
      let tells : AllTold (suc n) source s = all_told (suc n) s f in (
        (λ v i x y a b name c e. own_kid source n s v x name (own_cell source n s s x name tells refl a c) (kid_cell source n s v y name tells i b e)),
        apart-flat ScopesDiffer (scopes_within n source) (children source s) (λ c i. scopes_apart n c (fine_child n s c f i))
            (apart-imp PathsDiffer (λ c e. (u v : Scope) → In u (scopes_within n source c) → In v (scopes_within n source e) → ScopesDiffer u v) (children source s)
            (λ c e i j d u v k l x y a b name g h. d (one_path source n s c e u v x y name tells i j k l a b g h))
            (children_apart source s here.0 here.1 here.2)),
      )

  pub signals_differ : (n : ℕ) (s : Scope) → Fine n s → Apart CellsDiffer (flat_map scope_signals (scopes_within n source s))
  signals_differ n s f =
      apart-flat CellsDiffer scope_signals (scopes_within n source s) (λ u i. own_apart u (f u i).0)
      (apart-imp ScopesDiffer (λ u v. (x y : Declared) → In x (scope_signals u) → In y (scope_signals v) → CellsDiffer x y) (scopes_within n source s) (λ u v i j d. d) (scopes_apart n s f))

from_differ : (d : Design) → HasPlainNames d.source → (o : Option Module) → ((m : Module) → o ≡ Some m → plain_module m ≡ true) → ((u : Scope) → In u (scopes_from d o) → (duplicates u ≡ []) × Ends u) →
    Apart CellsDiffer (flat_map scope_signals (scopes_from d o))
from_differ d plain None f e = tt
from_differ d plain (Some m) f e =
    signals_differ d.source (suc (depth d.source)) (top_scope d m)
    (λ u i. (all_shaped d.source plain (suc (depth d.source)) (top_scope d m) (module_shaped [] true [] [] (λ constants. d.clock ∷ []) m (f m refl)) u i, (e u i).0, (e u i).1))

all_signals_differ : (d : Design) → IsLegal d → HasPlainNames d.source → IsWithinLimits d → Apart CellsDiffer (signals_of d)
unfolding scopes_of signals_of places_of
all_signals_differ d legal plain limits =
    from_differ d plain (module_named d.source d.top)
    (λ m k. all_in plain_module d.source.modules m plain.plain (found_in (λ m. bytes_eq m.name.name d.top) d.source.modules m k))
    (λ u k. (scopes_clean duplicates (scopes_of d) (append-right (modules_again d.source.modules) _ (legal.nothing Duplicate)) u k, scopes_end d limits u k))

-- ---- cells of one signal

range_in : (a n k : ℕ) → In k (range_with_len a n) → (a ≤ k) × (k < a + n)
range_in a zero k h = absurd h
range_in a (suc n) k (inl e) = (let f : a ≤ k = omega arith in f, let g : k < a + suc n = omega arith in g)
range_in a (suc n) k (inr h) =
    (let r : (a + 1 ≤ k) × (k < a + 1 + n) = range_in (a + 1) n k h in let p : a + 1 ≤ k = r.0 in let q : k < a + 1 + n = r.1 in (let f : a ≤ k = omega arith in f, let g : k < a + suc n = omega arith in g))

range_apart : (a n : ℕ) → Apart Differ (range_with_len a n)
range_apart a zero = tt
range_apart a (suc n) =
    ((λ k i e. (let r : (a + 1 ≤ k) × (k < a + 1 + n) = range_in (a + 1) n k i in let p : a + 1 ≤ k = r.0 in let no : ⊥ = omega arith in no)), range_apart (a + 1) n)

index_same : (n : Name) (j k : ℕ) → j < 2 ^ 64 → k < 2 ^ 64 → at_index n (decimal j) ≡ at_index n (decimal k) → j ≡ k
index_same n j k a b e =
    let t : 91 ∷ (decimal j ++ 93 ∷ []) ≡ 91 ∷ (decimal k ++ 93 ∷ []) = left_same n _ _ (sym (indexed n (decimal j)) ∙ (e ∙ indexed n (decimal k))) in
    decimal_injective j k a b (split_index (decimal j) (decimal k) [] [] (signed_plain (pos j)) (signed_plain (pos k)) (ap (λ (xs : List ℕ). xs ++ []) (same_rest 91 91 _ _ t))).0

below_top : (b : Bounds) (k : ℕ) → high b < 2 ^ 64 → In k (range_with_len (low b) (size b)) → k < 2 ^ 64
below_top b k top h =
    let r : (low b ≤ k) × (k < low b + size b) = range_in (low b) (size b) k h in
    let p : k < low b + size b = r.1 in
    omega arith

cells_apart : (a : Option Bounds) (path : Name) → ((b : Bounds) → a ≡ Some b → high b < 2 ^ 64) → Apart Differ (cells_by a path)
cells_apart None path f = ((λ y h. absurd h), tt)
cells_apart (Some b) path f =
    let top : high b < 2 ^ 64 = f b refl in
    apart-map Differ (λ k. at_index path (decimal k)) (range_with_len (low b) (size b))
    (apart-imp Differ (λ j k. Differ (at_index path (decimal j)) (at_index path (decimal k))) (range_with_len (low b) (size b))
    (λ j k u v d e. d (index_same path j k (below_top b j top u) (below_top b k top v) e)) (range_apart (low b) (size b)))

-- ---- registers and inputs

cell_in : (name : Name) (ns : List Name) → In name ns → list_any (bytes_eq name) ns ≡ true
cell_in name [] h = absurd h
cell_in name (n ∷ ns) (inl e) = or-left (bytes_eq name n) (list_any (bytes_eq name) ns) (ap (bytes_eq name) e ∙ name-itself name)
cell_in name (n ∷ ns) (inr h) = or-right (bytes_eq name n) (list_any (bytes_eq name) ns) (cell_in name ns h)

no_input : (s : Sort) → is_variable_sort s ≡ true → is_input_sort s ≡ true → ⊥
no_input Input h k = cc
no_input Net h k = cc
no_input Variable h k = cc
no_input Clock h k = cc
no_input (Constant x) h k = cc
no_input (Index g) h k = cc
no_input Other h k = cc

listed_apart : (d : Design) → ((x : Declared) → In x (signals_of d) → (b : Bounds) → x.array ≡ Some b → high b < 2 ^ 64) → (q : Declared → Bool) → Apart CellsDiffer (signals_of d) → Apart Differ (flat_map cells (filter q (signals_of d)))
listed_apart d small q h =
    apart-flat Differ cells (filter q (signals_of d)) (λ x i. cells_apart x.array x.path (λ b e. small x (in-filter q x (signals_of d) i).0 b e))
    (apart-imp CellsDiffer (λ x y. (m n : Name) → In m (cells x) → In n (cells y) → Differ m n) (filter q (signals_of d))
    (λ x y i j f m n a b e. f m (cell_in m (cells x) a) (cell_in m (cells y) (subst (λ (k : Name). In k (cells y)) (sym e) b))) (apart-filter CellsDiffer q (signals_of d) h))

all_differ : (n : Name) (ns : List Name) → ((m : Name) → In m ns → Differ n m) → AllByRecursion (λ m. bytes_eq n m ≡ false) ns
all_differ n [] f = tt
all_differ n (m ∷ ms) f = ((elim (decide (bytes_eq n m)) [ inl e ↦ absurd (f m (inl refl) (same_name n m e)) | inr e ↦ e ]), all_differ n ms (λ k i. f k (inr i)))

is_distinct : (ns : List Name) → Apart Differ ns → IsDistinct bytes_eq ns
unfolding IsDistinct
is_distinct [] h = tt
is_distinct (n ∷ ns) h = (all_differ n ns h.0, is_distinct ns h.1)

pub paths_distinct : (d : Design) → IsLegal d → HasPlainNames d.source → IsWithinLimits d → IsDistinct bytes_eq (registers_of d ++ inputs_of d)
paths_distinct d legal plain limits =
    let small : (x : Declared) → In x (signals_of d) → (b : Bounds) → x.array ≡ Some b → high b < 2 ^ 64 = arrays_small d legal plain in
    let differ : Apart CellsDiffer (signals_of d) = all_signals_differ d legal plain limits in
    is_distinct (registers_of d ++ inputs_of d)
    (apart-join Differ (registers_of d) (inputs_of d) (listed_apart d small (is_register (parts d)) differ) (listed_apart d small (λ x. is_input_sort x.sort) differ)
    (λ m n i j e. (
    let x : (x : Declared) × In x (filter (is_register (parts d)) (signals_of d)) × In m (cells x) = in-from cells m (filter (is_register (parts d)) (signals_of d)) i in
    let y : (x : Declared) × In x (filter (λ x. is_input_sort x.sort) (signals_of d)) × In n (cells x) = in-from cells n (filter (λ x. is_input_sort x.sort) (signals_of d)) j in
    let a : In x.0 (signals_of d) × (is_register (parts d) x.0 ≡ true) = in-filter (is_register (parts d)) x.0 (signals_of d) x.1 in
    let b : In y.0 (signals_of d) × (is_input_sort y.0.sort ≡ true) = in-filter (λ (x : Declared). is_input_sort x.sort) y.0 (signals_of d) y.1 in
    let same : x.0 ≡ y.0 = cell_one d legal plain x.0 y.0 m a.0 b.0 (cell_in m (cells x.0) x.2) (cell_in m (cells y.0) (subst (λ (k : Name). In k (cells y.0)) (sym e) y.2)) in
    no_input y.0.sort (ap (λ (z : Declared). is_variable_sort z.sort) (sym same) ∙ and-left (is_variable_sort x.0.sort) _ a.1) b.1)))
