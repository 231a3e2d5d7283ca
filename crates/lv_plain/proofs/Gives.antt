-- What a grammar gives where all tokens are good: a law for each way in which grammars are put together.
use Rattle.std.proofs.Common.{◌≡◌, inl, inr, ℕ, Bool, true, false, List, [], ◌∷◌, ◌++◌, map, refl, sym, ap, ◌∙◌, subst, Option, Some, None}
use Rattle.lv_ast.specs.PlainNames.{is_plain, plain_stmt, plain_item}
use Rattle.lv_ast.specs.declared.stmt.Ident.{Ident}
use Rattle.lv_grammars.specs.Grammar.{Gram, OneOf, left, right, one, call, act, both, either, perhaps, many, until, tail}
use Rattle.lv_grammars.specs.Spelling.{SpellsAll, SpellsEither, SpellsPerhaps, SpellsTail, Spells, Leaves, Calls}
use Rattle.lv_grammar.specs.Lexemes.{Lexeme, ident_of}
use Rattle.lv_grammar.specs.Shapes.{Rule, tree_of, base}
use Rattle.lv_grammar.specs.Shapes as shapes
use Rattle.lv_grammar.specs.Rules.{G, ident, or_else, list, comma, behind, first_and_others, grouped, groups, one_of, same_tree}
use Rattle.lv_plain.proofs.Names.{IsGood, AllGood, good-left, good-right}

abbrev pub Each : {A : Type 0} → (A → Type 0) → List A → Type 0
Each P [] = Unit {0}
Each P (x ∷ xs) = P x × Each P xs

abbrev pub Maybe : {A : Type 0} → (A → Type 0) → Option A → Type 0
Maybe P None = Unit {0}
Maybe P (Some x) = P x

abbrev pub OneBoth : {A B : Type 0} → (A → Type 0) → (B → Type 0) → OneOf A B → Type 0
OneBoth P Q (left x) = P x
OneBoth P Q (right y) = Q y

-- what is shown of the tree of a rule
abbrev pub PlainTree : (r : Rule) → tree_of r → Type 0
PlainTree shapes.target t = Unit {0}
PlainTree shapes.stmt s = plain_stmt s ≡ true
PlainTree shapes.item x = plain_item x ≡ true
PlainTree shapes.block_item x = plain_item x ≡ true

each-map : {A B : Type 0} (f : A → B) (P : B → Type 0) (xs : List A) → Each (λ x. P (f x)) xs → Each P (map f xs)
each-map f P [] h = tt
each-map f P (x ∷ xs) h = (h.0, each-map f P xs h.1)

each-join : {A : Type 0} (P : A → Type 0) (xs ys : List A) → Each P xs → Each P ys → Each P (xs ++ ys)
each-join P [] ys h k = k
each-join P (x ∷ xs) ys h k = (h.0, each-join P xs ys h.1 k)

module _ (l : Leaves base) (c : Calls base) (called : (r : Rule) (ts : List Lexeme) (o : Bool) (x : tree_of r) → AllGood ts → c r ts o x → PlainTree r x) where
  pub record Gives {A : Type 0} (g : G A) (P : A → Type 0) : Type 1 where
    pub by : (ts : List Lexeme) (o : Bool) (x : A) → AllGood ts → Spells base l c g ts o x → P x

  pub all_give : {A : Type 0} (g : G A) (P : A → Type 0) → ((x : A) → P x) → Gives g P
  all_give g P f = record { by = λ ts o x h s. f x }

  pub imp_gives : {A : Type 0} {g : G A} {P : A → Type 0} (Q : A → Type 0) → ((x : A) → P x → Q x) → Gives g P → Gives g Q
  imp_gives Q f g = record { by = λ ts o x h s. f x (g.by ts o x h s) }

  pub act_gives : {A B : Type 0} (f : A → B) {g : G A} (P : B → Type 0) → Gives g (λ y. P (f y)) → Gives (act f g) P
  act_gives f P g = record { by = λ ts o x h s. subst P s.2 (g.by ts o s.0 h s.1) }

  pub call_gives : (r : Rule) → Gives (call r) (PlainTree r)
  call_gives r = record { by = λ ts o x h s. called r ts o x h s }

  pub both_give : {A B : Type 0} {g : G A} {k : G B} {P : A → Type 0} {Q : B → Type 0} → Gives g P → Gives k Q → Gives (both g k) (λ x. P x.0 × Q x.1)
  both_give g k = record {
    by = λ ts o x h s.
        (let all : AllGood (s.0 ++ s.1) = subst AllGood s.4 h in
        (g.by s.0 s.2 x.0 (good-left s.0 s.1 all) s.5, k.by s.1 s.3 x.1 (good-right s.0 s.1 all) s.6));
  }

  pub first_gives : {A B : Type 0} {g : G A} (k : G B) {P : A → Type 0} → Gives g P → Gives (both g k) (λ x. P x.0)
  first_gives k g = record { by = λ ts o x h s. g.by s.0 s.2 x.0 (good-left s.0 s.1 (subst AllGood s.4 h)) s.5 }

  pub second_gives : {A B : Type 0} (g : G A) {k : G B} {Q : B → Type 0} → Gives k Q → Gives (both g k) (λ x. Q x.1)
  second_gives g k = record { by = λ ts o x h s. k.by s.1 s.3 x.1 (good-right s.0 s.1 (subst AllGood s.4 h)) s.6 }

  either_by : {A B : Type 0} {g : G A} {k : G B} {P : A → Type 0} {Q : B → Type 0} → Gives g P → Gives k Q → (ts : List Lexeme) (o : Bool) (x : OneOf A B) → AllGood ts →
      Spells base l c (either g k) ts o x → OneBoth P Q x
  either_by g k ts o (left x) h s = g.by ts o x h s
  either_by g k ts o (right y) h s = k.by ts o y h s

  pub either_gives : {A B : Type 0} {g : G A} {k : G B} {P : A → Type 0} {Q : B → Type 0} → Gives g P → Gives k Q → Gives (either g k) (OneBoth P Q)
  either_gives g k = record { by = either_by g k }

  same_by : {A : Type 0} (P : A → Type 0) (x : OneOf A A) → OneBoth P P x → P (one_of same_tree same_tree x)
  same_by P (left x) h = h
  same_by P (right x) h = h

  pub or_gives : {A : Type 0} {g k : G A} {P : A → Type 0} → Gives g P → Gives k P → Gives (or_else g k) P
  or_gives {P = P} g k = act_gives (one_of same_tree same_tree) P (imp_gives (λ x. P (one_of same_tree same_tree x)) (same_by P) (either_gives g k))

  perhaps_by : {A : Type 0} {g : G A} {P : A → Type 0} → Gives g P → (ts : List Lexeme) (o : Bool) (x : Option A) → AllGood ts → Spells base l c (perhaps g) ts o x → Maybe P x
  perhaps_by g ts o None h s = tt
  perhaps_by g ts o (Some x) h s = g.by ts o x h s

  pub perhaps_gives : {A : Type 0} {g : G A} {P : A → Type 0} → Gives g P → Gives (perhaps g) (Maybe P)
  perhaps_gives g = record { by = perhaps_by g }

  all_by : {A : Type 0} {g : G A} {P : A → Type 0} → Gives g P → (ts : List Lexeme) (o : Bool) (xs : List A) → AllGood ts → SpellsAll (Spells base l c g) ts o xs → Each P xs
  all_by g ts o [] h s = tt
  all_by g ts o (x ∷ xs) h s =
      (let all : AllGood (s.0 ++ s.1) = subst AllGood s.4 h in
      (g.by s.0 s.2 x (good-left s.0 s.1 all) s.5, all_by g s.1 s.3 xs (good-right s.0 s.1 all) s.6))

  pub many_give : {A : Type 0} {g : G A} {P : A → Type 0} → Gives g P → Gives (many g) (Each P)
  many_give g = record { by = all_by g }

  pub until_gives : {A B : Type 0} {g : G A} (k : G B) {P : A → Type 0} → Gives g P → Gives (until g k) (λ x. Each P x.0)
  until_gives k g = record { by = λ ts o x h s. all_by g s.0 s.2 x.0 (good-left s.0 s.1 (subst AllGood s.3 h)) s.4 }

  tail_by : {B : Type 0} (r : Rule) (p : shapes.Shape) {k : G B} {Q : B → Type 0} → Gives k Q → (ts : List Lexeme) (o : Bool) (x : tree_of r) (y : Option B) → AllGood ts →
      Spells base l c (tail r p k) ts o (x, y) → PlainTree r x × Maybe Q y
  tail_by r p k ts o x None h s = (called r ts s.0 x h s.1, tt)
  tail_by r p k ts o x (Some y) h s =
      (let all : AllGood (s.0 ++ (s.1 ∷ s.2)) = subst AllGood s.3 h in
      (called r s.0 false x (good-left s.0 (s.1 ∷ s.2) all) s.4, k.by s.2 o y (good-right s.0 (s.1 ∷ s.2) all).1 s.6))

  pub tail_gives : {B : Type 0} (r : Rule) (p : shapes.Shape) {k : G B} {Q : B → Type 0} → Gives k Q → Gives (tail r p k) (λ x. PlainTree r x.0 × Maybe Q x.1)
  tail_gives r p k = record { by = λ ts o x h s. tail_by r p k ts o x.0 x.1 h s }

  -- ---- names, lists and groups

  name_by : (ts : List Lexeme) (o : Bool) (x : Lexeme) → AllGood ts → Spells base l c (one shapes.name) ts o x → is_plain (ident_of x) ≡ true
  name_by ts o x h s = (let all : AllGood (x ∷ []) = subst AllGood s.0 h in all.0.plain s.1)

  pub ident_gives : Gives ident (λ n. is_plain n ≡ true)
  ident_gives = act_gives ident_of (λ n. is_plain n ≡ true) (record { by = name_by })

  others_by : {A : Type 0} (P : A → Type 0) (x : A × List (Lexeme × A)) → P x.0 × Each (λ (e : Lexeme × A). P e.1) x.1 → Each P (first_and_others x)
  others_by P x h = (h.0, each-map behind P x.1 h.1)

  pub list_gives : {A : Type 0} {g : G A} {P : A → Type 0} → Gives g P → Gives (list g) (Each P)
  list_gives {A} {P = P} g = act_gives first_and_others (Each P) (imp_gives (λ x. Each P (first_and_others x)) (others_by P) (both_give g (many_give (second_gives comma g))))

  groups_by : {H X Y : Type 0} (f : H → List X → Y) (P : X → Type 0) (R : Y → Type 0) → ((h : H) (xs : List X) → Each P xs → R (f h xs)) → (h : H) (xs : List X) (es : List (Lexeme × (Option H × X))) →
      Each P xs → Each (λ (e : Lexeme × (Option H × X)). P e.1.1) es → Each R (groups f h xs es)
  groups_by f P R step h xs [] k j = (step h xs k, tt)
  groups_by f P R step h xs ((t, (None, x)) ∷ es) k j = groups_by f P R step h (xs ++ (x ∷ [])) es (each-join P xs (x ∷ []) k (j.0, tt)) j.1
  groups_by f P R step h xs ((t, (Some g, x)) ∷ es) k j = (step h xs k, groups_by f P R step g (x ∷ []) es (j.0, tt) j.1)

  pub grouped_gives : {H X Y : Type 0} (f : H → List X → Y) (header : G H) {g : G X} (P : X → Type 0) (R : Y → Type 0) → ((h : H) (xs : List X) → Each P xs → R (f h xs)) → Gives g P →
      Gives (grouped f header g) (Each R)
  grouped_gives f header P R step g =
      act_gives _ (Each R) (imp_gives _ (λ p h. groups_by f P R step p.0 (p.1.0 ∷ []) p.1.1 (h.0, tt) h.1)
      (second_gives header (both_give g (many_give (second_gives comma (second_gives (perhaps header) g))))))
