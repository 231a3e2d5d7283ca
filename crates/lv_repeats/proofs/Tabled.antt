-- The names of a table, one by one.
use Rattle.std.proofs.Common.{◌≡◌, inl, inr, ℕ, suc, ◌+◌, arith, Bool, true, false, not, ◌||◌, List, [], ◌∷◌, ◌++◌, length, refl, sym, ap, ◌∙◌, subst, Some, None}
use Rattle.std.specs.Prelude.{bytes_eq, cond, nat_lt, if◌then◌else◌}
use Rattle.std.specs.List.{list_any, position, position_or_len}
use Rattle.std.proofs.lemmas.Bool.Decides.{nat_tests}
use Rattle.std.proofs.lemmas.List.Folds.{list_any-append}
use Rattle.std.proofs.lemmas.List.Elements.{filter-append}
use Rattle.lv_ast.specs.Names.{Name}
use Rattle.lv_source.specs.Declarations.{Declaration, declared_as}
use Rattle.lv_source.specs.Scopes.{is_output, is_among}
use Rattle.lv_source.proofs.Bridges.{two}
use Rattle.lv_source.proofs.Tests.{decide, same_name}
use Rattle.lv_scopes.specs.NameLists.{listed}
use Rattle.lv_scopes.specs.declared.table.NameTable.{NameTable}
use Rattle.lv_scopes.proofs.Indexed.{turned}
use Rattle.lv_repeats.specs.Named.{AreOutputs, AreListed}

or_more : (a b : Bool) → (b ≡ true → a ≡ true) → a ≡ (a || b)
or_more true b h = refl
or_more false true h = absurd (let k : false ≡ true = h refl in cc)
or_more false false h = refl

or_nothing : (a b : Bool) → (a || b) ≡ (a || (b || false))
or_nothing true b = refl
or_nothing false true = refl
or_nothing false false = refl

or_false : (a : Bool) → a ≡ (a || false)
or_false true = refl
or_false false = refl

or_one : (ns : List Name) (n name : Name) → is_among (ns ++ n ∷ []) name ≡ (is_among ns name || bytes_eq name n)
or_one ns n name = list_any-append (bytes_eq name) ns (n ∷ []) ∙ sym (or_nothing (is_among ns name) (bytes_eq name n))

added : (ns new : List Name) (n name : Name) (b : Bool) → is_among ns n ≡ b → new ≡ (if b then ns else ns ++ n ∷ []) →
    is_among new name ≡ (is_among ns name || bytes_eq name n)
added ns new n name true k e =
    ap (λ zs. is_among zs name) e ∙ or_more (is_among ns name) (bytes_eq name n) (λ t. subst (λ m. is_among ns m ≡ true) (sym (same_name name n t)) k)
added ns new n name false k e = ap (λ zs. is_among zs name) e ∙ or_one ns n name

-- ---- of a list

pub none_listed : (t : NameTable) → listed t ≡ [] → AreListed [] t
none_listed t e = record { same = λ name. ap (λ zs. is_among zs name) e }

pub more_listed : (ns : List Name) (old new : NameTable) (n : Name) → AreListed ns old →
    listed new ≡ (if list_any (bytes_eq n) (listed old) then listed old else listed old ++ n ∷ []) → AreListed (ns ++ n ∷ []) new
more_listed ns old new n h e = record {
  same = λ name. added (listed old) (listed new) n name (is_among (listed old) n) refl e ∙
      ap (λ b. b || bytes_eq name n) (h.same name) ∙ sym (or_one ns n name);
}

-- ---- of the outputs

pub no_outputs : (t : NameTable) → listed t ≡ [] → AreOutputs [] t
no_outputs t e = record { same = λ name. ap (λ zs. is_among zs name) e }

one_output : (d : Declaration) (b : Bool) → is_output d ≡ true → list_any is_output (cond b (d ∷ []) []) ≡ b
one_output d true h = ap (λ z. z || false) h
one_output d false h = refl

not_one : (d : Declaration) (b : Bool) → is_output d ≡ false → list_any is_output (cond b (d ∷ []) []) ≡ false
not_one d true h = ap (λ z. z || false) h
not_one d false h = refl

joined : (ds : List Declaration) (d : Declaration) (name : Name) → list_any is_output (declared_as name (ds ++ d ∷ [])) ≡
    (list_any is_output (declared_as name ds) || list_any is_output (cond (bytes_eq d.name.name name) (d ∷ []) []))
joined ds d name =
    ap (list_any is_output) (filter-append (λ x. bytes_eq x.name.name name) ds (d ∷ [])) ∙ list_any-append is_output (declared_as name ds) (declared_as name (d ∷ []))

pub more_outputs : (ds : List Declaration) (old new : NameTable) (d : Declaration) → is_output d ≡ true → AreOutputs ds old →
    listed new ≡ (if list_any (bytes_eq d.name.name) (listed old) then listed old else listed old ++ d.name.name ∷ []) → AreOutputs (ds ++ d ∷ []) new
more_outputs ds old new d o h e = record {
  same = λ name. added (listed old) (listed new) d.name.name name (is_among (listed old) d.name.name) refl e ∙
      two (λ (a b : Bool). a || b) _ _ _ _ (h.same name) (turned name d.name.name ∙ sym (one_output d (bytes_eq d.name.name name) o)) ∙
      sym (joined ds d name);
}

pub same_outputs : (ds : List Declaration) (t : NameTable) (d : Declaration) → is_output d ≡ false → AreOutputs ds t → AreOutputs (ds ++ d ∷ []) t
same_outputs ds t d o h = record {
  same = λ name. h.same name ∙ or_false (list_any is_output (declared_as name ds)) ∙
      ap (λ b. list_any is_output (declared_as name ds) || b) (sym (not_one d (bytes_eq d.name.name name) o)) ∙ sym (joined ds d name);
}

-- ---- found in it

shifted : (m n : ℕ) → nat_lt (1 + m) (suc n) ≡ nat_lt m n
shifted m n = grind (arith, nat_tests)

none_below : (n : ℕ) → nat_lt 0 (suc n) ≡ true
none_below n = grind (arith, nat_tests)

any_len : {A : Type 0} (p : A → Bool) (xs : List A) → nat_lt (position_or_len p xs) (length xs) ≡ list_any p xs
any_len p [] = refl
any_len p (x ∷ xs) = elim (decide (p x)) [
  | inl k ↦
      ap (λ b. nat_lt (cond (not b) (1 + position_or_len p xs) 0) (length (x ∷ xs))) k ∙
      none_below (length xs) ∙ sym (ap (λ b. b || list_any p xs) k)
  | inr k ↦
      ap (λ b. nat_lt (cond (not b) (1 + position_or_len p xs) 0) (length (x ∷ xs))) k ∙
      (shifted (position_or_len p xs) (length xs) ∙ (any_len p xs ∙ sym (ap (λ b. b || list_any p xs) k)))
]

missed : (k : Bool) (i : ℕ) → cond k (Some i) None ≡ None → k ≡ false
missed true i e = absurd (cc)
missed false i e = refl

met : (k : Bool) (i j : ℕ) → cond k (Some i) None ≡ Some j → k ≡ true
met true i j e = refl
met false i j e = absurd (cc)

pub absent : (ns : List Name) (name : Name) → position (bytes_eq name) ns ≡ None → list_any (bytes_eq name) ns ≡ false
absent ns name e = sym (any_len (bytes_eq name) ns) ∙ missed _ (position_or_len (bytes_eq name) ns) e

pub present : (ns : List Name) (name : Name) (i : ℕ) → position (bytes_eq name) ns ≡ Some i → list_any (bytes_eq name) ns ≡ true
present ns name i e = sym (any_len (bytes_eq name) ns) ∙ met _ (position_or_len (bytes_eq name) ns) i e
