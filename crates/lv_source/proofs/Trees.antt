-- No two signals of a tree of scopes share a cell, where each scope is one of which names and children tell its paths.
use Rattle.std.proofs.Common.{◌≡◌, inl, inr, ℕ, ◌+◌, ◌/◌, ◌%◌, ◌<◌, arith, zero, suc, Bool, true, false, ◌||◌, ◌==◌, List, [], ◌∷◌, ◌++◌, map, append_assoc, refl, sym, ap, ◌∙◌, subst, Option, Some, None}
use Rattle.std.specs.Prelude.{codes, bytes_eq, flat_map, decimal}
use Rattle.std.specs.List.{list_any}
use Rattle.lv_ast.specs.declared.item.Source.{Source}
use Rattle.std.specs.Prelude.{pos, negsuc, ℤ, if◌then◌else◌}
use Rattle.std.specs.Fmt.{digits, digits_onto, digit_glyph}
use Rattle.std.proofs.lemmas.Bool.{eqb-true}
use Rattle.std.proofs.lemmas.Bool.Decides.{nat_tests}
use Rattle.lv_ast.specs.Names.{Name, alone, is_simple, spelled, below, at_index, signed_decimal}
use Rattle.lv_source.specs.Names.{Bounds, Declared, known}
use Rattle.lv_source.specs.Places.{cells, cells_by}
use Rattle.lv_source.specs.Scopes.{Scope, children, scopes_within}
use Rattle.lv_source.specs.Parts.{scope_signals}
use Rattle.lv_source.proofs.Tests.{or-split, same_name, decide}
use Rattle.lv_source.proofs.FaultLaws.{in-flat}
use Rattle.lv_source.proofs.Refused.{In, in-split}
use Rattle.lv_source.proofs.Summaries.{append-none}
use Rattle.lv_source.proofs.Paths.{no_list, IsPlain, IsIndex, none, one, ends, more, split_step, below_same, below_below}

abbrev pub HasCell : Declared → Name → Type 0
HasCell x name = list_any (bytes_eq name) (cells x) ≡ true

-- a scope whose signals and children are told by plain names, and whose children of one path are one
pub record IsTold (source : Source) (s : Scope) : Type 0 where
  pub own : (x : Declared) → In x (scope_signals s) → (m : Name) × IsPlain m × (x ≡ known (s.names (alone m))) × (x.path ≡ below s.path (spelled m))
  pub kids : (c : Scope) → In c (children source s) → (m : Name) × (i : List ℕ) × IsPlain m × IsIndex i × (c.path ≡ below s.path (spelled m ++ i))
  pub differ : (c e : Scope) → In c (children source s) → In e (children source s) → c.path ≡ e.path → c ≡ e

pub in-from : {A B : Type 0} (f : A → List B) (y : B) (xs : List A) → In y (flat_map f xs) → (x : A) × In x xs × In y (f x)
in-from f y [] h = absurd h
in-from f y (x ∷ xs) h = elim (in-split y (f x) (flat_map f xs) h) [
  | inl k ↦ (x, inl refl, k)
  | inr k ↦ (let r : (z : _) × In z xs × In y (f z) = in-from f y xs k in (r.0, inr r.1, r.2))
]

-- ---- digits

glyph_is : (d : ℕ) → d < 10 → digit_glyph false d ≡ 48 + d
glyph_is d h = grind (arith, nat_tests)

other_digit : (d : ℕ) → d < 10 → (digit_glyph false d == 93) ≡ false
other_digit d h = elim (decide (digit_glyph false d == 93)) [
  | inl e ↦ absurd (let x : digit_glyph false d ≡ 93 = eqb-true (digit_glyph false d) 93 e in let y : digit_glyph false d ≡ 48 + d = glyph_is d h in omega arith)
  | inr e ↦ e
]

abbrev bracket : ℕ → Bool
bracket c = c == 93

digits_step : (b : Bool) (xs ys : List ℕ) → list_any bracket xs ≡ false → list_any bracket ys ≡ false → list_any bracket (if b then xs else ys) ≡ false
digits_step true xs ys h k = h
digits_step false xs ys h k = k

no_bracket : (k n : ℕ) (acc : List ℕ) → list_any bracket acc ≡ false → list_any bracket (digits_onto k 10 false n acc) ≡ false
no_bracket zero n acc h = h
no_bracket (suc k) n acc h =
    let d : n % 10 < 10 = omega arith in
    let more : list_any bracket (digit_glyph false (n % 10) ∷ acc) ≡ false = ap (λ b. b || list_any bracket acc) (other_digit (n % 10) d) ∙ h in
    digits_step (n / 10 == 0) (digit_glyph false (n % 10) ∷ acc) (digits_onto k 10 false (n / 10) (digit_glyph false (n % 10) ∷ acc)) more
    (no_bracket k (n / 10) (digit_glyph false (n % 10) ∷ acc) more)

decimal_plain : (n : ℕ) → list_any bracket (decimal n) ≡ false
unfolding digits
decimal_plain n = no_bracket 64 n [] refl

pub signed_plain : (z : ℤ) → list_any bracket (signed_decimal z) ≡ false
signed_plain (pos n) = decimal_plain n
signed_plain (negsuc n) = decimal_plain (n + 1)

-- ---- cells

pub indexed : (n t : Name) → at_index n t ≡ n ++ (91 ∷ (t ++ 93 ∷ []))
indexed n t = append_assoc (n ++ 91 ∷ []) t (93 ∷ []) ∙ append_assoc n (91 ∷ []) (t ++ 93 ∷ [])

pub below_more : (path n t : Name) → below path n ++ t ≡ below path (n ++ t)
below_more [] n t = refl
below_more (c ∷ cs) n t = append_assoc ((c ∷ cs) ++ codes ".") n t

mapped_some : (f : ℕ → Name) (xs : List ℕ) (name : Name) → list_any (bytes_eq name) (map f xs) ≡ true → (k : ℕ) × (name ≡ f k)
mapped_some f [] name h = cc
mapped_some f (x ∷ xs) name h = elim (or-split (bytes_eq name (f x)) (list_any (bytes_eq name) (map f xs)) h) [
  | inl e ↦ (x, same_name name (f x) e)
  | inr e ↦ mapped_some f xs name e
]

cell_by : (a : Option Bounds) (p path : Name) (m name : Name) → p ≡ below path (spelled m) → list_any (bytes_eq name) (cells_by a p) ≡ true →
    (i : List ℕ) × IsIndex i × (name ≡ below path (spelled m ++ (i ++ [])))
cell_by None p path m name e h = elim (or-split (bytes_eq name p) false h) [
  | inl k ↦ ([], none, same_name name p k ∙ (e ∙ ap (below path) (sym (append-none (spelled m)))))
  | inr k ↦ cc
]
cell_by (Some b) p path m name e h =
    let k : (k : ℕ) × (name ≡ at_index p (decimal k)) = mapped_some (λ i. at_index p (decimal i)) _ name h in
    let t : List ℕ = 91 ∷ (decimal k.0 ++ 93 ∷ []) in (
      t,
      one (decimal k.0) (decimal_plain k.0),
      k.1 ∙ (indexed p (decimal k.0) ∙ (ap (λ q. q ++ t) e ∙ (below_more path (spelled m) t ∙ ap (λ u. below path (spelled m ++ u)) (sym (append-none t))))),
    )

-- the name of a cell of a signal, from its scope
pub cell_index : (x : Declared) (path m name : Name) → x.path ≡ below path (spelled m) → HasCell x name → (i : List ℕ) × IsIndex i × (name ≡ below path (spelled m ++ (i ++ [])))
cell_index x path m name e h = cell_by x.array x.path path m name e h

-- ---- below a child

spelled_some : (b : Bool) (m j : Name) → is_simple m ≡ b → (if b then m else codes "\\" ++ m ++ codes " ") ++ j ≡ [] → ⊥
spelled_some true [] j h e = cc
spelled_some true (c ∷ m) j h e = cc
spelled_some false m j h e = cc

below_two : (path seg n : Name) → (seg ≡ [] → ⊥) → below (below path seg) n ≡ below path ((seg ++ codes ".") ++ n)
below_two path [] n h = absurd (h refl)
below_two path (c ∷ cs) n h = below_below path c cs n

dotted : (m j w : List ℕ) → ((m ++ j) ++ 46 ∷ []) ++ w ≡ m ++ (j ++ 46 ∷ w)
dotted m j w = append_assoc (m ++ j) (46 ∷ []) w ∙ append_assoc m j (46 ∷ w)

pub kid_text : (path child m j w name : Name) → child ≡ below path (spelled m ++ j) → name ≡ below child w → name ≡ below path (spelled m ++ (j ++ 46 ∷ w))
kid_text path child m j w name e h =
    h ∙ (ap (λ c. below c w) e ∙ (below_two path (spelled m ++ j) w (spelled_some (is_simple m) m j refl) ∙ ap (below path) (dotted (spelled m) j w)))

-- ---- trees

abbrev pub AllTold : ℕ → Source → Scope → Type 0
AllTold n source s = (u : Scope) → In u (scopes_within n source s) → IsTold source u

module _ (source : Source) where
  pub told_child : (n : ℕ) (s c : Scope) → AllTold (suc n) source s → In c (children source s) → AllTold n source c
  told_child n s c h i u k = h u (inr (in-flat (scopes_within n source) c u (children source s) i k))

  -- the name of each cell in the tree begins with the path of its root
  pub under : (n : ℕ) (s u : Scope) (x : Declared) (name : Name) → AllTold n source s → In u (scopes_within n source s) → In x (scope_signals u) → HasCell x name →
      (w : Name) × (name ≡ below s.path w)
  under zero s u x name h i j k = absurd i
  under (suc n) s u x name h (inl e) j k =
      let x' : In x (scope_signals s) = subst (λ (t : Scope). In x (scope_signals t)) (sym e) j in
      let own : (m : Name) × IsPlain m × (x ≡ known (s.names (alone m))) × (x.path ≡ below s.path (spelled m)) = (h s (inl refl)).own x x' in
      let cell : (i : List ℕ) × IsIndex i × (name ≡ below s.path (spelled own.0 ++ (i ++ []))) = cell_index x s.path own.0 name own.3 k in
      (spelled own.0 ++ (cell.0 ++ []), cell.2)
  under (suc n) s u x name h (inr i) j k =
      let c : (c : Scope) × In c (children source s) × In u (scopes_within n source c) = in-from (scopes_within n source) u (children source s) i in
      let kid : (m : Name) × (i : List ℕ) × IsPlain m × IsIndex i × (c.0.path ≡ below s.path (spelled m ++ i)) = (h s (inl refl)).kids c.0 c.1 in
      let rest : (w : Name) × (name ≡ below c.0.path w) = under n c.0 u x name (told_child n s c.0 h c.1) c.2 j k in
      (spelled kid.0 ++ (kid.1 ++ 46 ∷ rest.0), kid_text s.path c.0.path kid.0 kid.1 rest.0 name kid.4 rest.1)

  -- where a cell stands, seen from the root
  pub record OwnCell (s : Scope) (x : Declared) (name : Name) : Type 0 where
    pub m : Name
    pub i : List ℕ
    pub plain : IsPlain m
    pub index : IsIndex i
    pub is : x ≡ known (s.names (alone m))
    pub text : name ≡ below s.path (spelled m ++ (i ++ []))

  pub record KidCell (n : ℕ) (s u : Scope) (name : Name) : Type 0 where
    pub child : Scope
    pub among : In child (children source s)
    pub inside : In u (scopes_within n source child)
    pub m : Name
    pub i : List ℕ
    pub w : List ℕ
    pub plain : IsPlain m
    pub index : IsIndex i
    pub path : child.path ≡ below s.path (spelled m ++ i)
    pub text : name ≡ below s.path (spelled m ++ (i ++ 46 ∷ w))

  pub own_cell : (n : ℕ) (s u : Scope) (x : Declared) (name : Name) → AllTold (suc n) source s → s ≡ u → In x (scope_signals u) → HasCell x name → OwnCell s x name
  own_cell n s u x name h e j k =
      let x' : In x (scope_signals s) = subst (λ (t : Scope). In x (scope_signals t)) (sym e) j in
      let own : (m : Name) × IsPlain m × (x ≡ known (s.names (alone m))) × (x.path ≡ below s.path (spelled m)) = (h s (inl refl)).own x x' in
      let cell : (i : List ℕ) × IsIndex i × (name ≡ below s.path (spelled own.0 ++ (i ++ []))) = cell_index x s.path own.0 name own.3 k in
      record { m = own.0; i = cell.0; plain = own.1; index = cell.1; is = own.2; text = cell.2 }

  pub kid_of : (n : ℕ) (s c u : Scope) (x : Declared) (name : Name) → AllTold (suc n) source s → In c (children source s) → In u (scopes_within n source c) → In x (scope_signals u) → HasCell x name →
      KidCell n s u name
  kid_of n s c u x name h i l j k =
      let kid : (m : Name) × (i : List ℕ) × IsPlain m × IsIndex i × (c.path ≡ below s.path (spelled m ++ i)) = (h s (inl refl)).kids c i in
      let rest : (w : Name) × (name ≡ below c.path w) = under n c u x name (told_child n s c h i) l j k in
      record {
        child = c;
        among = i;
        inside = l;
        m = kid.0;
        i = kid.1;
        w = rest.0;
        plain = kid.2;
        index = kid.3;
        path = kid.4;
        text = kid_text s.path c.path kid.0 kid.1 rest.0 name kid.4 rest.1;
      }

  pub kid_cell : (n : ℕ) (s u : Scope) (x : Declared) (name : Name) → AllTold (suc n) source s → In u (flat_map (scopes_within n source) (children source s)) → In x (scope_signals u) → HasCell x name →
      KidCell n s u name
  kid_cell n s u x name h i j k =
      let c : (c : Scope) × In c (children source s) × In u (scopes_within n source c) = in-from (scopes_within n source) u (children source s) i in
      kid_of n s c.0 u x name h c.1 c.2 j k

  -- two names below a scope that are equal stand below children of one path
  pub same_kid : (n : ℕ) (s u v : Scope) (name : Name) (f : KidCell n s u name) (g : KidCell n s v name) → f.child.path ≡ g.child.path
  same_kid n s u v name f g =
      let t : (f.m ≡ g.m) × (f.i ≡ g.i) × (46 ∷ f.w ≡ 46 ∷ g.w) =
      split_step f.m g.m f.i g.i (46 ∷ f.w) (46 ∷ g.w) f.plain g.plain f.index g.index (more f.w) (more g.w) (below_same s.path _ _ (sym f.text ∙ g.text)) in
      f.path ∙ (ap (λ m. below s.path (spelled m ++ f.i)) t.0 ∙ (ap (λ i. below s.path (spelled g.m ++ i)) t.1 ∙ sym g.path))

  -- children in which signals share a cell have one path
  pub one_path : (n : ℕ) (s c e u v : Scope) (x y : Declared) (name : Name) → AllTold (suc n) source s → In c (children source s) → In e (children source s) →
      In u (scopes_within n source c) → In v (scopes_within n source e) → In x (scope_signals u) → In y (scope_signals v) → HasCell x name → HasCell y name → c.path ≡ e.path
  unfolding kid_of
  one_path n s c e u v x y name h i j k l a b f g = same_kid n s u v name (kid_of n s c u x name h i k a f) (kid_of n s e v y name h j l b g)

  own_own : (s : Scope) (x y : Declared) (name : Name) → OwnCell s x name → OwnCell s y name → x ≡ y
  own_own s x y name a b =
      let t : (a.m ≡ b.m) × (a.i ≡ b.i) × ([] ≡ []) = split_step a.m b.m a.i b.i [] [] a.plain b.plain a.index b.index ends ends (below_same s.path _ _ (sym a.text ∙ b.text)) in
      a.is ∙ (ap (λ m. known (s.names (alone m))) t.0 ∙ sym b.is)

  pub own_kid : (n : ℕ) (s v : Scope) (x : Declared) (name : Name) → OwnCell s x name → KidCell n s v name → ⊥
  own_kid n s v x name a b =
      let t : (a.m ≡ b.m) × (a.i ≡ b.i) × ([] ≡ 46 ∷ b.w) = split_step a.m b.m a.i b.i [] (46 ∷ b.w) a.plain b.plain a.index b.index ends (more b.w) (below_same s.path _ _ (sym a.text ∙ b.text)) in
      no_list 46 b.w t.2

  pub tree_apart : (n : ℕ) (s u v : Scope) (x y : Declared) (name : Name) → AllTold n source s → In u (scopes_within n source s) → In v (scopes_within n source s) →
      In x (scope_signals u) → In y (scope_signals v) → HasCell x name → HasCell y name → x ≡ y
  tree_apart zero s u v x y name h i j a b c e = absurd i
  tree_apart (suc n) s u v x y name h (inl i) (inl j) a b c e = own_own s x y name (own_cell n s u x name h i a c) (own_cell n s v y name h j b e)
  tree_apart (suc n) s u v x y name h (inl i) (inr j) a b c e = absurd (own_kid n s v x name (own_cell n s u x name h i a c) (kid_cell n s v y name h j b e))
  tree_apart (suc n) s u v x y name h (inr i) (inl j) a b c e = absurd (own_kid n s u y name (own_cell n s v y name h j b e) (kid_cell n s u x name h i a c))
  tree_apart (suc n) s u v x y name h (inr i) (inr j) a b c e =
      let f : KidCell n s u name = kid_cell n s u x name h i a c in
      let g : KidCell n s v name = kid_cell n s v y name h j b e in
      let same : f.child.path ≡ g.child.path = same_kid n s u v name f g in
      let one_child : f.child ≡ g.child = (h s (inl refl)).differ f.child g.child f.among g.among same in
      tree_apart n g.child u v x y name (told_child n s g.child h g.among) (subst (λ (t : Scope). In u (scopes_within n source t)) one_child f.inside) g.inside a b c e
