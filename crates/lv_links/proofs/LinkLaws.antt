-- Connections and their ports.
use Rattle.std.proofs.Common.{◌≡◌, inl, inr, ℕ, zero, suc, ◌+◌, ◌<◌, arith, Bool, true, false, not, ◌||◌, List, [], ◌∷◌, ◌++◌, length, get_or, drop, refl, sym, ap, ◌∙◌, subst, flat_map, Option, Some, None}
use Rattle.std.specs.Prelude.{bytes_eq, cond, nat_lt, if◌then◌else◌}
use Rattle.std.specs.Option.{is_some}
use Rattle.std.specs.List.{Contains, list_any, position, position_or_len}
use Rattle.std.proofs.lemmas.Bool.Decides.{nat_tests}
use Rattle.std.proofs.lemmas.List.Folds.{list_any-append}
use Rattle.std.proofs.lemmas.Grind.{flat_map-append}
use Rattle.std.proofs.lemmas.List.Elements.{Contains-append_left, Contains-append_right}
use Rattle.lv_ast.specs.declared.stmt.Ident.{Ident}
use Rattle.lv_ast.specs.declared.item.Conn.{Conn}
use Rattle.lv_ast.specs.Names.{Name}
use Rattle.lv_source.specs.Names.{Names}
use Rattle.lv_source.specs.Scopes.{Link, links}
use Rattle.lv_source.specs.ScopeRules.{place_if, unlisted_names, unknown_ports, extra_settings, twice_linked, is_ordered, is_listed, is_none, conn_if, conn_places, first_in}
use Rattle.lv_source.proofs.Bridges.{two}
use Rattle.lv_source.proofs.Tests.{decide, same_name}
use Rattle.lv_const.proofs.Told.{none-joined, first-empty, second-empty, both-empty, here}
use Rattle.lv_scopes.proofs.Indexed.{turned}
use Rattle.lv_links.specs.Linking.{ordered_places}
use Rattle.lv_links.proofs.Lists.{rest-cons, none-of, some-of}

-- ---- options

pub is-absent : {A : Type 0} (o : Option A) (b : Bool) → is_some o ≡ not b → b ≡ true → o ≡ None
is-absent None b h k = refl
is-absent (Some z) true h k = absurd (cc)
is-absent (Some z) false h k = absurd (cc)

pub is-present : {A : Type 0} (o : Option A) (b : Bool) → is_some o ≡ not b → b ≡ false → (z : A) × (o ≡ Some z)
is-present None true h k = absurd (cc)
is-present None false h k = absurd (cc)
is-present (Some z) b h k = (z, refl)

-- ---- names in a table

abbrev pub is_in : Name → List Name → Bool
is_in name ns = list_any (bytes_eq name) ns

abbrev pub is_of : Name → List Ident → Bool
is_of name qs = list_any (λ q. bytes_eq q.name name) qs

abbrev pub Same : List Name → List Ident → Type 0
Same ns qs = (name : Name) → is_in name ns ≡ is_of name qs

or-more : (a b : Bool) → (b ≡ true → a ≡ true) → a ≡ (a || b)
or-more true b h = refl
or-more false true h = absurd (let k : false ≡ true = h refl in cc)
or-more false false h = refl

or-nothing : (a b : Bool) → (a || b) ≡ (a || (b || false))
or-nothing true b = refl
or-nothing false true = refl
or-nothing false false = refl

or-one : (ns : List Name) (n name : Name) → is_in name (ns ++ n ∷ []) ≡ (is_in name ns || bytes_eq name n)
or-one ns n name = list_any-append (bytes_eq name) ns (n ∷ []) ∙ sym (or-nothing (is_in name ns) (bytes_eq name n))

added : (ns new : List Name) (n name : Name) (b : Bool) → is_in n ns ≡ b → new ≡ (if b then ns else ns ++ n ∷ []) → is_in name new ≡ (is_in name ns || bytes_eq name n)
added ns new n name true k e =
    ap (is_in name) e ∙ or-more (is_in name ns) (bytes_eq name n) (λ t. subst (λ m. is_in m ns ≡ true) (sym (same_name name n t)) k)
added ns new n name false k e = ap (is_in name) e ∙ or-one ns n name

pub same-more : (ns new : List Name) (qs : List Ident) (q : Ident) → Same ns qs → new ≡ (if is_in q.name ns then ns else ns ++ q.name ∷ []) → Same new (qs ++ q ∷ [])
same-more ns new qs q h e name =
    added ns new q.name name (is_in q.name ns) refl e ∙
    (two (λ (a b : Bool). a || b) _ _ _ _ (h name) (turned name q.name) ∙
    (or-nothing (is_of name qs) (bytes_eq q.name name) ∙ sym (list_any-append (λ q. bytes_eq q.name name) qs (q ∷ []))))

shifted : (m n : ℕ) → nat_lt (1 + m) (suc n) ≡ nat_lt m n
shifted m n = grind (arith, nat_tests)

none-below : (n : ℕ) → nat_lt 0 (suc n) ≡ true
none-below n = grind (arith, nat_tests)

any-len : {A : Type 0} (p : A → Bool) (xs : List A) → nat_lt (position_or_len p xs) (length xs) ≡ list_any p xs
any-len p [] = refl
any-len p (x ∷ xs) = elim (decide (p x)) [
  | inl k ↦
      ap (λ b. nat_lt (cond (not b) (1 + position_or_len p xs) 0) (length (x ∷ xs))) k ∙
      none-below (length xs) ∙ sym (ap (λ b. b || list_any p xs) k)
  | inr k ↦
      ap (λ b. nat_lt (cond (not b) (1 + position_or_len p xs) 0) (length (x ∷ xs))) k ∙ (shifted (position_or_len p xs) (length xs) ∙ (any-len p xs ∙ sym (ap (λ b. b || list_any p xs) k)))
]

missed : (k : Bool) (i : ℕ) → cond k (Some i) None ≡ None → k ≡ false
missed true i e = absurd (cc)
missed false i e = refl

met : (k : Bool) (i j : ℕ) → cond k (Some i) None ≡ Some j → k ≡ true
met true i j e = refl
met false i j e = absurd (cc)

pub absent : (ns : List Name) (qs : List Ident) (name : Name) → Same ns qs → position (bytes_eq name) ns ≡ None → is_of name qs ≡ false
absent ns qs name h e = sym (h name) ∙ (sym (any-len (bytes_eq name) ns) ∙ missed _ (position_or_len (bytes_eq name) ns) e)

pub present : (ns : List Name) (qs : List Ident) (name : Name) (i : ℕ) → Same ns qs → position (bytes_eq name) ns ≡ Some i → is_of name qs ≡ true
present ns qs name i h e = sym (h name) ∙ (sym (any-len (bytes_eq name) ns) ∙ met _ (position_or_len (bytes_eq name) ns) i e)

-- ---- names that are not listed

abbrev pub unlisted_one : List Ident → Conn → List ℕ
unlisted_one qs c = elim c.name [ None ↦ [] | Some n ↦ place_if (not (list_any (λ q. bytes_eq q.name n.name) qs)) n.place ]

abbrev unlisted_by : List Ident → Option Ident → List ℕ
unlisted_by qs o = elim o [ None ↦ [] | Some n ↦ place_if (not (list_any (λ q. bytes_eq q.name n.name) qs)) n.place ]

pub unnamed : (qs : List Ident) (c : Conn) → c.name ≡ None → unlisted_one qs c ≡ []
unnamed qs c e = ap (unlisted_by qs) e

pub named-listed : (qs : List Ident) (c : Conn) (n : Ident) → c.name ≡ Some n → is_of n.name qs ≡ true → unlisted_one qs c ≡ []
named-listed qs c n e k = ap (unlisted_by qs) e ∙ ap (λ b. place_if (not b) n.place) k

pub named-unlisted : (qs : List Ident) (c : Conn) (n : Ident) → c.name ≡ Some n → is_of n.name qs ≡ false → Contains (unlisted_one qs c) n.place
named-unlisted qs c n e k =
    subst (λ xs. Contains xs n.place) (sym (ap (unlisted_by qs) e ∙ ap (λ b. place_if (not b) n.place) k)) (here n.place [])

-- ---- the same of ports

pub place-told : (names : Names) (c : Conn) → Contains (conn_places names c) c.place
place-told names c = Contains-append_right (elim c.name [ None ↦ [] | Some n ↦ n.place ∷ [] ]) (c.place ∷ elim c.value [ None ↦ [] | Some x ↦ first_in names x ∷ [] ]) c.place
    (here c.place (elim c.value [ None ↦ [] | Some x ↦ first_in names x ∷ [] ]))

only : (x y : ℕ) → Contains (x ∷ []) y → x ≡ y
only x y (zero, l, e) = e
only x y (suc k, l, e) = absurd (omega (arith, l))

nothing : (p : ℕ) → Contains [] p → ⊥
nothing p (k, l, e) = omega (arith, l)

pub told-if : (b : Bool) (names : Names) (c : Conn) (p : ℕ) → Contains (if b then c.place ∷ [] else []) p → Contains (conn_if b names c) p
told-if true names c p k = subst (λ z. Contains (conn_places names c) z) (only c.place p k) (place-told names c)
told-if false names c p k = k

empty-if : (b : Bool) (x : ℕ) (xs : List ℕ) → (if b then x ∷ [] else []) ≡ [] → (if b then xs else []) ≡ []
empty-if true x xs h = absurd (cc)
empty-if false x xs h = refl

listed-by : (names : Names) (qs : List Ident) (c : Conn) (o : Option Ident) → unlisted_by qs o ≡ [] →
    conn_if (not (elim o as (λ _. Bool) [ None ↦ true | Some n ↦ list_any (λ q. bytes_eq q.name n.name) qs ])) names c ≡ []
listed-by names qs c None h = refl
listed-by names qs c (Some n) h = empty-if (not (is_of n.name qs)) n.place (conn_places names c) h

named-if : (b : Bool) (n : ℕ) (rest : List ℕ) (p : ℕ) → Contains (place_if b n) p → Contains (if b then n ∷ rest else []) p
named-if true n rest p k = Contains-append_left (n ∷ []) rest p k
named-if false n rest p k = k

unlisted-by : (names : Names) (qs : List Ident) (place : ℕ) (value : List ℕ) (o : Option Ident) (p : ℕ) → Contains (unlisted_by qs o) p →
    Contains (if not (elim o as (λ _. Bool) [ None ↦ true | Some n ↦ list_any (λ q. bytes_eq q.name n.name) qs ])
    then elim o as (λ _. List ℕ) [ None ↦ [] | Some n ↦ n.place ∷ [] ] ++ place ∷ value else []) p
unlisted-by names qs place value None p k = absurd (nothing p k)
unlisted-by names qs place value (Some n) p k = named-if (not (is_of n.name qs)) n.place (place ∷ value) p k

pub extra-none : (names : Names) (qs : List Ident) (cs : List Conn) → ordered_places (drop (length qs) cs) ≡ [] → extra_settings names qs cs ≡ []
extra-none names qs cs k = none-of (λ c. if is_ordered c then c.place ∷ [] else []) (λ c. conn_if (is_ordered c) names c)
    (λ c e. empty-if (is_ordered c) c.place (conn_places names c) e) (drop (length qs) cs) k

pub ports-none : (names : Names) (qs : List Ident) (cs : List Conn) → unlisted_names qs cs ≡ [] → ordered_places (drop (length qs) cs) ≡ [] → unknown_ports names qs cs ≡ []
ports-none names qs cs h k = both-empty (flat_map (λ c. conn_if (not (is_listed qs c)) names c) cs) (extra_settings names qs cs)
    (none-of (unlisted_one qs) (λ c. conn_if (not (is_listed qs c)) names c) (λ c e. listed-by names qs c c.name e) cs h) (extra-none names qs cs k)

pub extra-told : (names : Names) (qs : List Ident) (cs : List Conn) (p : ℕ) → Contains (ordered_places (drop (length qs) cs)) p → Contains (extra_settings names qs cs) p
extra-told names qs cs p k = some-of (λ c. if is_ordered c then c.place ∷ [] else []) (λ c. conn_if (is_ordered c) names c) p
    (λ c e. told-if (is_ordered c) names c p e) (drop (length qs) cs) k

pub ports-extra : (names : Names) (qs : List Ident) (cs : List Conn) (p : ℕ) → Contains (ordered_places (drop (length qs) cs)) p → Contains (unknown_ports names qs cs) p
ports-extra names qs cs p k = Contains-append_right (flat_map (λ c. conn_if (not (is_listed qs c)) names c) cs) (extra_settings names qs cs) p (extra-told names qs cs p k)

pub ports-unlisted : (names : Names) (qs : List Ident) (cs : List Conn) (p : ℕ) → Contains (unlisted_names qs cs) p → Contains (unknown_ports names qs cs) p
ports-unlisted names qs cs p k = Contains-append_left (flat_map (λ c. conn_if (not (is_listed qs c)) names c) cs) (extra_settings names qs cs) p
    (some-of (unlisted_one qs) (λ c. conn_if (not (is_listed qs c)) names c) p
    (λ c e. unlisted-by names qs c.place (elim c.value [ None ↦ [] | Some x ↦ first_in names x ∷ [] ]) c.name p e) cs k)

-- ---- ordered connections

pub ordered-one : (c : Conn) → c.name ≡ None → Contains (if is_ordered c then c.place ∷ [] else []) c.place
ordered-one c e = subst (λ b. Contains (if b then c.place ∷ [] else []) c.place) (sym (ap is_none e)) (here c.place [])

pub ordered-not : (c : Conn) (n : Ident) → c.name ≡ Some n → (if is_ordered c then c.place ∷ [] else []) ≡ []
ordered-not c n e = ap (λ b. if b then c.place ∷ [] else []) (ap is_none e)

-- ---- ports

abbrev links_by : List Ident → Conn → List Conn → Option Ident → List Link
links_by qs c cs o = elim o [
  | Some name ↦ record { port = name.name; conn = c } ∷ links qs cs
  | None ↦ elim qs [ [] ↦ [] | ◌∷◌ q rest ↦ record { port = q.name; conn = c } ∷ links rest cs ]
]

module _ (qs : List Ident) (cs : List Conn) (i : ℕ) (c : Conn) (h : i < length cs) (e : c ≡ get_or cs i c) where
  begins : (o : Option Ident) → c.name ≡ o → links qs (drop i cs) ≡ links_by qs c (drop (i + 1) cs) o
  begins o k = ap (links qs) (rest-cons cs i c h e) ∙ ap (links_by qs c (drop (i + 1) cs)) k

  pub link-named : (n : Ident) → c.name ≡ Some n → links qs (drop i cs) ≡ record { port = n.name; conn = c } ∷ links qs (drop (i + 1) cs)
  link-named n k = begins (Some n) k

  pub link-none : c.name ≡ None → qs ≡ [] → links qs (drop i cs) ≡ []
  link-none k z = begins None k ∙ ap (λ rs. links_by rs c (drop (i + 1) cs) None) z

  pub link-ordered : (q : Ident) (rest : List Ident) → c.name ≡ None → qs ≡ q ∷ rest → links qs (drop i cs) ≡ record { port = q.name; conn = c } ∷ links rest (drop (i + 1) cs)
  link-ordered q rest k z = begins None k ∙ ap (λ rs. links_by rs c (drop (i + 1) cs) None) z

-- ---- one port twice

abbrev pub has : List Link → Name → Bool
has ls name = list_any (λ l. bytes_eq name l.port) ls

abbrev told : Names → Link → Link → List ℕ
told names l k = conn_if (bytes_eq k.port l.port) names k.conn

or_left : (a b : Bool) → (a || b) ≡ false → a ≡ false
or_left true b h = h
or_left false b h = refl

or_right : (a b : Bool) → (a || b) ≡ false → b ≡ false
or_right true b h = absurd (cc)
or_right false b h = h

pub once-more : (names : Names) (ls : List Link) (k : Link) → twice_linked names ls ≡ [] → has ls k.port ≡ false → twice_linked names (ls ++ k ∷ []) ≡ []
once-more names [] k h e = refl
once-more names (l ∷ ls) k h e =
    both-empty (flat_map (told names l) (ls ++ k ∷ [])) (twice_linked names (ls ++ k ∷ []))
    (none-joined (told names l) ls (k ∷ []) (first-empty (flat_map (told names l) ls) (twice_linked names ls) h)
    (both-empty (told names l k) [] (ap (λ b. conn_if b names k.conn) (or_left (bytes_eq k.port l.port) (has ls k.port) e)) refl))
    (once-more names ls k (second-empty (flat_map (told names l) ls) (twice_linked names ls) h) (or_right (bytes_eq k.port l.port) (has ls k.port) e))

pub twice-told : (names : Names) (ls rest : List Link) (k : Link) → has ls k.port ≡ true → Contains (twice_linked names (ls ++ k ∷ rest)) k.conn.place
twice-told names [] rest k e = absurd (cc)
twice-told names (l ∷ ls) rest k e = elim (decide (bytes_eq k.port l.port)) [
  | inl t ↦
      Contains-append_left (flat_map (told names l) (ls ++ k ∷ rest)) (twice_linked names (ls ++ k ∷ rest)) k.conn.place
      (subst (λ zs. Contains zs k.conn.place) (sym (flat_map-append (told names l) ls (k ∷ rest)))
      (Contains-append_right (flat_map (told names l) ls) (told names l k ++ flat_map (told names l) rest) k.conn.place
      (Contains-append_left (told names l k) (flat_map (told names l) rest) k.conn.place
      (subst (λ b. Contains (conn_if b names k.conn) k.conn.place) (sym t) (place-told names k.conn)))))
  | inr t ↦
      Contains-append_right (flat_map (told names l) (ls ++ k ∷ rest)) (twice_linked names (ls ++ k ∷ rest)) k.conn.place
      (twice-told names ls rest k (sym (ap (λ b. b || has ls k.port) t) ∙ e))
]

-- the names that were seen are those of the ports
abbrev pub SameSeen : List Name → List Link → Type 0
SameSeen ns ls = (name : Name) → is_in name ns ≡ has ls name

pub seen-more : (ns new : List Name) (ls : List Link) (k : Link) → SameSeen ns ls → new ≡ (if is_in k.port ns then ns else ns ++ k.port ∷ []) → SameSeen new (ls ++ k ∷ [])
seen-more ns new ls k h e name =
    added ns new k.port name (is_in k.port ns) refl e ∙
    (ap (λ b. b || bytes_eq name k.port) (h name) ∙ (or-nothing (has ls name) (bytes_eq name k.port) ∙ sym (list_any-append (λ l. bytes_eq name l.port) ls (k ∷ []))))

pub is-new : (a b : Bool) → a ≡ not b → a ≡ true → b ≡ false
is-new a true h k = absurd (cc)
is-new a false h k = refl

pub is-old : (a b : Bool) → a ≡ not b → a ≡ false → b ≡ true
is-old a true h k = refl
is-old a false h k = absurd (cc)
