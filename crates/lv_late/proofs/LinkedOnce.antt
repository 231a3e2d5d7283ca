-- Settings that are each linked once, to a parameter that can be set.
use Rattle.std.proofs.Common.{◌≡◌, ◌⊎◌, inl, inr, ℕ, suc, Bool, true, false, not, ◌||◌, List, [], ◌∷◌, ◌++◌, ap, ◌∙◌, sym, refl, flat_map, Option, Some, None}
use Rattle.std.specs.Prelude.{bytes_eq, cond, find, slice_get}
use Rattle.std.specs.List.{list_any}
use Rattle.std.specs.Option.{option_map}
use Rattle.lv_ast.specs.declared.expr.Expr.{Expr}
use Rattle.lv_ast.specs.declared.item.Conn.{Conn}
use Rattle.lv_ast.specs.declared.item.Range.{Range}
use Rattle.lv_ast.specs.declared.stmt.Ident.{Ident}
use Rattle.lv_ast.specs.Names.{Name}
use Rattle.lv_source.specs.Names.{Names}
use Rattle.lv_source.specs.Declarations.{Thing, Direction, Wire, Reg, Parameter, Index, Instance, Label, Declaration}
use Rattle.lv_source.specs.Scopes.{Link, links, Override, override_by, settable}
use Rattle.lv_source.specs.ScopeRules.{place_if, unlisted_names, conn_if, twice_linked, first_in}
use Rattle.lv_source.proofs.Refused.{In}
use Rattle.lv_source.proofs.Tests.{decide, name-itself}
use Rattle.lv_const.proofs.Told.{first-empty, second-empty}
use Rattle.lv_scopes.proofs.Indexed.{turned}
use Rattle.lv_symbols.specs.Frames.{given_value}

-- ---- ports

abbrev has : List Ident → Name → Bool
has qs name = list_any (λ q. bytes_eq q.name name) qs

told-none : (b : Bool) (p : ℕ) → place_if (not b) p ≡ [] → b ≡ true
told-none true p h = refl
told-none false p h = cc

-- each port is listed
module _ (all : List Ident) where
  abbrev AllIn : List Ident → Type 0
  AllIn qs = (q : Ident) → In q qs → has all q.name ≡ true

  rest-listed : (o : Option Ident) (c : Conn) (qs : List Ident) (cs : List Conn) (l : Link) → AllIn qs →
      (elim o as (λ _. List ℕ) [ None ↦ [] | Some n ↦ place_if (not (has all n.name)) n.place ]) ++ unlisted_names all cs ≡ [] →
      ((rs : List Ident) → AllIn rs → unlisted_names all cs ≡ [] → In l (links rs cs) → has all l.port ≡ true) →
      In l (elim o as (λ _. List Link) [
        | Some n ↦ record { port = n.name; conn = c } ∷ links qs cs
        | None ↦ elim qs as (λ _. List Link) [ [] ↦ [] | ◌∷◌ q rs ↦ record { port = q.name; conn = c } ∷ links rs cs ]
      ]) → has all l.port ≡ true
  rest-listed (Some n) c qs cs l f u g (inl e) =
      ap (λ (k : Link). has all k.port) (sym e) ∙ told-none (has all n.name) n.place (first-empty (place_if (not (has all n.name)) n.place) (unlisted_names all cs) u)
  rest-listed (Some n) c qs cs l f u g (inr i) = g qs f (second-empty (place_if (not (has all n.name)) n.place) (unlisted_names all cs) u) i
  rest-listed None c [] cs l f u g i = absurd i
  rest-listed None c (q ∷ rs) cs l f u g (inl e) = ap (λ (k : Link). has all k.port) (sym e) ∙ f q (inl refl)
  rest-listed None c (q ∷ rs) cs l f u g (inr i) = g rs (λ r j. f r (inr j)) u i

  pub links-listed : (qs : List Ident) (cs : List Conn) (l : Link) → AllIn qs → unlisted_names all cs ≡ [] → In l (links qs cs) → has all l.port ≡ true
  links-listed qs [] l f u i = absurd i
  links-listed qs (c ∷ cs) l f u i = rest-listed c.name c qs cs l f u (λ rs g v j. links-listed rs cs l g v j) i

has-itself : (all : List Ident) (q : Ident) → In q all → has all q.name ≡ true
has-itself [] q i = absurd i
has-itself (r ∷ rs) q (inl e) = ap (λ (z : Ident). bytes_eq z.name q.name || has rs q.name) e ∙ ap (λ b. b || has rs q.name) (name-itself q.name)
has-itself (r ∷ rs) q (inr i) = elim (bytes_eq r.name q.name) as (λ b. (b || has rs q.name) ≡ true) [ true ↦ refl | false ↦ has-itself rs q i ]

pub port-listed : (all : List Ident) (cs : List Conn) (l : Link) → unlisted_names all cs ≡ [] → In l (links all cs) → has all l.port ≡ true
port-listed all cs l u i = links-listed all all cs l (has-itself all) u i

-- ---- the parameter of a port

any-split : {A : Type 0} (p : A → Bool) (xs ys : List A) → list_any p (xs ++ ys) ≡ true → (list_any p xs ≡ true) ⊎ (list_any p ys ≡ true)
any-split p [] ys h = inr h
any-split p (x ∷ xs) ys h = elim (p x) as (λ b. (b || list_any p (xs ++ ys)) ≡ true → ((b || list_any p xs) ≡ true) ⊎ (list_any p ys ≡ true)) [
  | true ↦ λ k. inl refl
  | false ↦ λ k. any-split p xs ys k
] h

pub record IsSettable (ds : List Declaration) (name : Name) : Type 0 where
  pub at : ℕ
  pub ident : Ident
  pub signed : Bool
  pub range : Option Range
  pub value : Expr
  pub is : slice_get ds at ≡ Some (record { name = ident; thing = Parameter false signed range value })
  pub named : bytes_eq ident.name name ≡ true

or-none : (b : Bool) → (b || false) ≡ true → b ≡ true
or-none true h = refl
or-none false h = h

settable-here : (n : Ident) (t : Thing) (ds : List Declaration) (name : Name) → list_any (λ q. bytes_eq q.name name) (settable (record { name = n; thing = t })) ≡ true →
    IsSettable (record { name = n; thing = t } ∷ ds) name
settable-here n (Parameter true signed range value) ds name h = cc
settable-here n (Parameter false signed range value) ds name h =
    record { at = 0; ident = n; signed = signed; range = range; value = value; is = refl; named = or-none (bytes_eq n.name name) h }
settable-here n (Direction o w s r) ds name h = cc
settable-here n (Wire s r) ds name h = cc
settable-here n (Reg s r b) ds name h = cc
settable-here n (Index g) ds name h = cc
settable-here n Instance ds name h = cc
settable-here n Label ds name h = cc

pub settable-found : (ds : List Declaration) (name : Name) → has (flat_map settable ds) name ≡ true → IsSettable ds name
settable-found [] name h = cc
settable-found (d ∷ ds) name h = elim (any-split (λ q. bytes_eq q.name name) (settable d) (flat_map settable ds) h) [
  | inl k ↦ settable-here d.name d.thing ds name k
  | inr k ↦ let s : IsSettable ds name = settable-found ds name k in
      record { at = suc s.at; ident = s.ident; signed = s.signed; range = s.range; value = s.value; is = s.is; named = s.named }
]

-- ---- the value of a port

some-place : {A : Type 0} (xs ys : List A) (x : A) → xs ++ x ∷ ys ≡ [] → ⊥
some-place [] ys x h = cc
some-place (z ∷ xs) ys x h = cc

pub no-conn : (b : Bool) (names : Names) (c : Conn) → conn_if b names c ≡ [] → b ≡ false
no-conn true names c h = absurd (some-place (elim c.name as (λ _. List ℕ) [ None ↦ [] | Some n ↦ n.place ∷ [] ])
    (elim c.value as (λ _. List ℕ) [ None ↦ [] | Some x ↦ first_in names x ∷ [] ]) c.place h)
no-conn false names c h = refl

apart : (names : Names) (port : Name) (ks : List Link) (l : Link) → flat_map (λ k. conn_if (bytes_eq k.port port) names k.conn) ks ≡ [] → In l ks → bytes_eq l.port port ≡ false
apart names port [] l h i = absurd i
apart names port (k ∷ ks) l h (inl e) =
    ap (λ (z : Link). bytes_eq z.port port) (sym e) ∙
    no-conn (bytes_eq k.port port) names k.conn (first-empty (conn_if (bytes_eq k.port port) names k.conn) (flat_map (λ k. conn_if (bytes_eq k.port port) names k.conn) ks) h)
apart names port (k ∷ ks) l h (inr i) =
    apart names port ks l (second-empty (conn_if (bytes_eq k.port port) names k.conn) (flat_map (λ k. conn_if (bytes_eq k.port port) names k.conn) ks) h) i

module _ (there : Names) where
  abbrev of_name : Name → List Override → Option Override
  of_name name os = find (λ o. bytes_eq o.name name) os

  abbrev by_value : Name → Option Expr → List Override
  by_value name o = elim o as (λ _. List Override) [ None ↦ [] | Some x ↦ record { name = name; there = there; value = x } ∷ [] ]

  skip : (port : Name) (o : Option Expr) (name : Name) (os : List Override) → bytes_eq port name ≡ false → of_name name (by_value port o ++ os) ≡ of_name name os
  skip port None name os h = refl
  skip port (Some x) name os h = ap (λ b. cond b (Some (record { name = port; there = there; value = x })) (of_name name os)) h

  take-it : (port : Name) (o : Option Expr) (x : Expr) (os : List Override) → o ≡ Some x →
      of_name port (by_value port o ++ os) ≡ Some (record { name = port; there = there; value = x })
  take-it port o x os h =
      ap (λ z. of_name port (by_value port z ++ os)) h ∙
      ap (λ b. cond b (Some (record { name = port; there = there; value = x })) (of_name port os)) (name-itself port)

  pub once-found : (names : Names) (ls : List Link) (l : Link) (x : Expr) → twice_linked names ls ≡ [] → In l ls → l.conn.value ≡ Some x →
      of_name l.port (flat_map (override_by there) ls) ≡ Some (record { name = l.port; there = there; value = x })
  once-found names [] l x h i e = absurd i
  once-found names (k ∷ ks) l x h (inl q) e =
      ap (λ (z : Link). of_name l.port (by_value z.port z.conn.value ++ flat_map (override_by there) ks)) q ∙
      take-it l.port l.conn.value x (flat_map (override_by there) ks) e
  once-found names (k ∷ ks) l x h (inr i) e =
      let a : bytes_eq l.port k.port ≡ false = apart names k.port ks l
      (first-empty (flat_map (λ z. conn_if (bytes_eq z.port k.port) names z.conn) ks) (twice_linked names ks) h) i in
      skip k.port k.conn.value l.port (flat_map (override_by there) ks) (turned k.port l.port ∙ a) ∙
      once-found names ks l x (second-empty (flat_map (λ z. conn_if (bytes_eq z.port k.port) names z.conn) ks) (twice_linked names ks) h) i e

  -- the setting that a value comes from
  pub record IsFrom (ls : List Link) (name : Name) (o : Override) : Type 0 where
    pub link : Link
    pub among : In link ls
    pub value : link.conn.value ≡ Some o.value
    pub is : o ≡ record { name = link.port; there = there; value = o.value }
    pub named : bytes_eq link.port name ≡ true

  from-more : (k : Link) (ks : List Link) (name : Name) (o : Override) → IsFrom ks name o → IsFrom (k ∷ ks) name o
  from-more k ks name o r = record { link = r.link; among = inr r.among; value = r.value; is = r.is; named = r.named }

  same-override : (a b : Override) → Some a ≡ Some b → a ≡ b
  same-override a b h = cc

  from-value : (k : Link) (ks : List Link) (v : Option Expr) (name : Name) (o : Override) → k.conn.value ≡ v →
      of_name name (by_value k.port v ++ flat_map (override_by there) ks) ≡ Some o → (of_name name (flat_map (override_by there) ks) ≡ Some o → IsFrom ks name o) →
      IsFrom (k ∷ ks) name o
  from-value k ks None name o e h f = from-more k ks name o (f h)
  from-value k ks (Some x) name o e h f =
      let a : Override = record { name = k.port; there = there; value = x } in
      elim (decide (bytes_eq k.port name)) [
        | inl b ↦
            let q : a ≡ o = same-override a o (sym (ap (λ c. cond c (Some a) (of_name name (flat_map (override_by there) ks))) b) ∙ h) in
            record {
              link = k;
              among = inl refl;
              value = e ∙ ap (λ (z : Override). Some z.value) q;
              is = sym q ∙ ap (λ (z : Override). let w : Override = record { name = k.port; there = there; value = z.value } in w) q;
              named = b;
            }
        | inr b ↦ from-more k ks name o (f (sym (ap (λ c. cond c (Some a) (of_name name (flat_map (override_by there) ks))) b) ∙ h))
      ]

  pub from-found : (ls : List Link) (name : Name) (o : Override) → of_name name (flat_map (override_by there) ls) ≡ Some o → IsFrom ls name o
  from-found [] name o h = cc
  from-found (k ∷ ks) name o h = from-value k ks k.conn.value name o refl h (from-found ks name o)

-- ---- a declaration that an instance gives a value

pub record IsGiven (os : List Override) (d : Declaration) (x : Expr) : Type 0 where
  pub ident : Ident
  pub signed : Bool
  pub range : Option Range
  pub value : Expr
  pub is : d ≡ record { name = ident; thing = Parameter false signed range value }
  pub over : Override
  pub found : find (λ o. bytes_eq o.name ident.name) os ≡ Some over
  pub given : over.value ≡ x

given-by : (n : Ident) (signed : Bool) (range : Option Range) (value : Expr) (os : List Override) (x : Expr) (o : Option Override) →
    find (λ o. bytes_eq o.name n.name) os ≡ o → option_map (λ z. z.value) o ≡ Some x → IsGiven os (record { name = n; thing = Parameter false signed range value }) x
given-by n signed range value os x None e h = cc
given-by n signed range value os x (Some o) e h =
    record { ident = n; signed = signed; range = range; value = value; is = refl; over = o; found = e; given = (let k : Some o.value ≡ Some x = h in cc) }

given-thing : (os : List Override) (n : Ident) (t : Thing) (x : Expr) → given_value os (record { name = n; thing = t }) ≡ Some x → IsGiven os (record { name = n; thing = t }) x
given-thing os n (Parameter true s r v) x h = cc
given-thing os n (Parameter false s r v) x h = given-by n s r v os x (find (λ o. bytes_eq o.name n.name) os) refl h
given-thing os n (Direction o w s r) x h = cc
given-thing os n (Wire s r) x h = cc
given-thing os n (Reg s r b) x h = cc
given-thing os n (Index g) x h = cc
given-thing os n Instance x h = cc
given-thing os n Label x h = cc

pub given-declaration : (os : List Override) (d : Declaration) (x : Expr) → given_value os d ≡ Some x → IsGiven os d x
given-declaration os d x h = given-thing os d.name d.thing x h
