-- What is told of an item's size and of its scopes is a fault of the item.
use Rattle.std.proofs.Common.{◌≡◌, inl, inr, ℕ, ◌+◌, ◌<◌, true, List, [], ◌∷◌, ◌++◌, map, length, refl, sym, ap, ◌∙◌, subst, Ok, Err}
use Rattle.std.specs.Prelude.{flat_map, Contains}
use Rattle.std.proofs.lemmas.List.{length-map}
use Rattle.std.proofs.lemmas.List.Elements.{Contains-append_left, Contains-append_right}
use Rattle.lv_ast.specs.declared.expr.Expr.{Expr}
use Rattle.lv_ast.specs.declared.stmt.Ident.{Ident}
use Rattle.lv_ast.specs.declared.item.Conn.{Conn}
use Rattle.lv_ast.specs.declared.item.Inst.{Inst}
use Rattle.lv_ast.specs.declared.item.Item.{Item}
use Rattle.lv_ast.specs.declared.item.Item.TheVariants as i
use Rattle.lv_ast.specs.declared.item.Source.{Source}
use Rattle.lv_source.specs.Faults.{site_faults}
use Rattle.lv_source.specs.Legal.{Kind, UnknownModule, UnknownName, Duplicate, NotConstant, ZeroDivisor, Range, Recursion, Port, WrongKind, ClockUse, Blocking, Nonblocking, TwoDrivers, Undriven, Latch, ReadFirst}
use Rattle.lv_source.specs.Names.{Here}
use Rattle.lv_source.specs.Effect.{turns}
use Rattle.lv_source.specs.Scopes.{Scope, here_at}
use Rattle.lv_source.specs.ScopeRules.{item_spots, header_names, unknown_in_item}
use Rattle.lv_source.specs.Sites.{Spot}
use Rattle.lv_source.specs.Standing.{header_spots}
use Rattle.lv_resolve.specs.declared.error.ResolveError.{ResolveError}
use Rattle.lv_resolve.specs.declared.error.ResolveError.TheVariants as y
use Rattle.lv_resolve.specs.Resolved.{IsToldOf, AreFaultless}
use Rattle.lv_headers.specs.Headers.{IsHeaderFault}
use Rattle.lv_children.specs.declared.child.Child.{Child}
use Rattle.lv_children.specs.declared.child.ChildError.{ChildError}
use Rattle.lv_children.specs.declared.child.ChildError.TheVariants as c
use Rattle.lv_children.specs.Children.{AreInstances, AreNoInstances}
use Rattle.lv_children.specs.Turns.{AreTurns, AreNoTurns}
use Rattle.lv_sizes.specs.declared.error.SizeError.{SizeError}
use Rattle.lv_sizes.specs.declared.error.SizeError.TheVariants as z
use Rattle.lv_sizes.specs.declared.size.Size.{Size}
use Rattle.lv_sizes.specs.Sizes.{ItemAnswer, IsTooMuch}
use Rattle.lv_sizes.specs.Sizes as sizes
use Rattle.lv_source.specs.Limits.{item_size}
use Rattle.lv_faults.specs.Faults.{is_scope_kind, item_rules, item_faults, of_node, IsItemFault}
use Rattle.lv_survey.specs.Errors.{spec_of_node, spec_too_much, spec_told}
use Rattle.lv_survey.specs.Items.{IsTooLarge, SizeAnswer, AreNoKids, AddsKids}

-- ---- faults of an item

module _ (source : Source) (s : Scope) (x : ℕ × Item) where
  node_told : (kind : Kind) (p : ℕ) → Contains (flat_map (site_faults kind) (item_spots source s (here_at s x.0) x.1)) p → Contains (item_faults source kind s x) p
  node_told kind p h = Contains-append_left _ (item_rules source kind s x) p h

  rule_told : (kind : Kind) (p : ℕ) → Contains (item_rules source kind s x) p → Contains (item_faults source kind s x) p
  rule_told kind p h = Contains-append_right (flat_map (site_faults kind) (item_spots source s (here_at s x.0) x.1)) _ p h

  node_fault : (e : ResolveError) → IsToldOf (item_spots source s (here_at s x.0) x.1) e → IsItemFault source s x (of_node e)
  node_fault (y.UnknownName p) h = node_told UnknownName p h
  node_fault (y.NotConstant p) h = node_told NotConstant p h
  node_fault (y.ZeroDivisor p) h = node_told ZeroDivisor p h
  node_fault (y.Range p) h = node_told Range p h
  node_fault y.NoMemory h = tt

  name_fault : (e : ResolveError) (p : ℕ) → e ≡ y.UnknownName p → Contains (item_rules source UnknownName s x) p → IsItemFault source s x (of_node e)
  name_fault e p same h = subst (λ z. IsItemFault source s x (of_node z)) (sym same) (rule_told UnknownName p h)

  too_large_of : (turns nodes : ℕ) (e : ResolveError) → IsItemFault source s x (of_node e) → IsTooLarge turns nodes source s x (spec_of_node e)
  too_large_of turns nodes (y.UnknownName p) h = h
  too_large_of turns nodes (y.NotConstant p) h = h
  too_large_of turns nodes (y.ZeroDivisor p) h = h
  too_large_of turns nodes (y.Range p) h = h
  too_large_of turns nodes y.NoMemory h = tt

  no_kids_of : (most : ℕ) (e : ResolveError) → IsItemFault source s x (of_node e) → AreNoKids most source s x (spec_of_node e)
  no_kids_of most (y.UnknownName p) h = h
  no_kids_of most (y.NotConstant p) h = h
  no_kids_of most (y.ZeroDivisor p) h = h
  no_kids_of most (y.Range p) h = h
  no_kids_of most y.NoMemory h = tt

header_fault : (source : Source) (s : Scope) (k : ℕ) (index : Ident) (start test : Expr) (again : Ident) (next : Expr) (label : Ident) (n : _) (items : _) (e : ResolveError) →
    IsHeaderFault (here_at s k) true index start test again next e →
    IsItemFault source s (k, i.Loop' index start test again next label n items) (of_node e)
header_fault source s k index start test again next label n items e (inl h) = node_fault source s (k, i.Loop' index start test again next label n items) e h
header_fault source s k index start test again next label n items e (inr h) = name_fault source s (k, i.Loop' index start test again next label n items) e h.0 h.2 h.1

size_fault : (source : Source) (s : Scope) (k : ℕ) (item : Item) (e : ResolveError) → sizes.IsItemFault (here_at s k) item e → IsItemFault source s (k, item) (of_node e)
size_fault source s k (i.Always watch stmt place) e (inl h) = node_fault source s (k, i.Always watch stmt place) e h
size_fault source s k (i.Always watch stmt place) e (inr h) =
    name_fault source s (k, i.Always watch stmt place) e h.0 h.2
    (Contains-append_left _ (unknown_in_item source s.names (i.Always watch stmt place)) h.0 h.1)
size_fault source s k (i.Loop' index start test again next label n items) e h = header_fault source s k index start test again next label n items e h
size_fault source s k (i.Port ports) e h = absurd h
size_fault source s k (i.Wire signed range names) e h = absurd h
size_fault source s k (i.Reg signed range names) e h = absurd h
size_fault source s k (i.Index genvar names) e h = absurd h
size_fault source s k (i.Params local ps) e h = absurd h
size_fault source s k (i.Assign list) e h = absurd h
size_fault source s k (i.Instance kind settings insts) e h = absurd h
size_fault source s k (i.Generate' n items) e h = absurd h

-- ---- sizes

module _ (x : ℕ × Item) (turns nodes : ℕ) where
  too_large : (source : Source) (s : Scope) (e : SizeError) →
      IsTooMuch (record { turns = turns; nodes = nodes }) (item_size s x.1) (sizes.IsItemFault (here_at s x.0) x.1) e → IsTooLarge turns nodes source s x (spec_too_much e)
  too_large source s (z.Fault e) h = too_large_of source s x turns nodes e (size_fault source s x.0 x.1 e h)
  too_large source s z.Turns h = h
  too_large source s z.Nodes h = h

  too_large_at : (here : Here) (source : Source) (s : Scope) (e : SizeError) → here_at s x.0 ≡ here →
      IsTooMuch (record { turns = turns; nodes = nodes }) (item_size s x.1) (sizes.IsItemFault here x.1) e → IsTooLarge turns nodes source s x (spec_too_much e)
  too_large_at here source s e same h = too_large source s e
      (subst (λ h. IsTooMuch (record { turns = turns; nodes = nodes }) (item_size s x.1) (sizes.IsItemFault h x.1) e) (sym same) h)

  pub size_refused : (here : Here) (e : SizeError) → ItemAnswer here x.1 turns nodes (Err e) → SizeAnswer here x turns nodes (Err (spec_too_much e))
  size_refused here e a = record {
    right = λ s same. tt;
    wrong = λ source s same. too_large_at here source s e same (a.wrong s (ap (λ (h : Here). h.names) same));
  }

  pub size_told : (here : Here) (all rest : Size) → ItemAnswer here x.1 turns nodes (Ok all) → rest.turns + all.turns ≡ turns → rest.nodes + all.nodes ≡ nodes →
      SizeAnswer here x turns nodes (Ok rest)
  size_told here all rest a t n = record {
    right = λ s same.
        record {
          turns_left = ap (λ m. rest.turns + m) (sym (a.right s (ap (λ (h : Here). h.names) same)).turns_are) ∙ t;
          nodes_left = ap (λ m. rest.nodes + m) (sym (a.right s (ap (λ (h : Here). h.names) same)).nodes_are) ∙ n;
        };
    wrong = λ source s same. tt;
  }

-- ---- instances

module _ (source : Source) (s : Scope) (k : ℕ) (kind : Ident) (settings : List Conn) (insts : List Inst) where
  abbrev inst_item : ℕ × Item
  inst_item = (k, i.Instance kind settings insts)

  adds_instances : (old new : List Child) → AreInstances source s kind settings insts old new → AddsKids source s inst_item old new
  adds_instances old new a = record {
    scopes = a.scopes k;
    surveyed = record { known = a.known; named = a.named; apart = a.apart; few = a.few; once = a.once };
  }

  no_instances : (most : ℕ) (e : ChildError) → AreNoInstances source s kind settings insts e → AreNoKids most source s inst_item (spec_told e)
  no_instances most (c.UnknownModule p) h = rule_told source s inst_item UnknownModule p h
  no_instances most (c.Recursion p) h = rule_told source s inst_item Recursion p h
  no_instances most (c.UnknownSetting p) h = rule_told source s inst_item UnknownName p h
  no_instances most (c.Port p) h = rule_told source s inst_item Port p h
  no_instances most (c.Fault e) h = subst (λ e. AreNoKids most source s inst_item (spec_of_node e)) (sym h) tt
  no_instances most c.Limit h = absurd h

pub instances_added : (source : Source) (s : Scope) (x : ℕ × Item) (kind : Ident) (settings : List Conn) (insts list : List Inst) (old new : List Child) →
    x.1 ≡ i.Instance kind settings insts → list ≡ insts → AreInstances source s kind settings list old new → AddsKids source s x old new
instances_added source s x kind settings insts list old new is same a =
    subst (λ item. AddsKids source s (x.0, item) old new) (sym is ∙ refl)
    (adds_instances source s x.0 kind settings insts old new (subst (λ l. AreInstances source s kind settings l old new) same a))

pub instances_refused : (source : Source) (s : Scope) (x : ℕ × Item) (kind : Ident) (settings : List Conn) (insts list : List Inst) (most : ℕ) (e : ChildError) →
    x.1 ≡ i.Instance kind settings insts → list ≡ insts → AreNoInstances source s kind settings list e → AreNoKids most source s x (spec_told e)
instances_refused source s x kind settings insts list most e is same a =
    subst (λ item. AreNoKids most source s (x.0, item) (spec_told e)) (sym is)
    (no_instances source s x.0 kind settings insts most e (subst (λ l. AreNoInstances source s kind settings l e) same a))

-- ---- turns

none_told : (kind : Kind) → ((x : Spot) → site_faults kind x ≡ []) → (xs : List Spot) → flat_map (site_faults kind) xs ≡ []
none_told kind h [] = refl
none_told kind h (x ∷ xs) = ap (λ ys. ys ++ flat_map (site_faults kind) xs) (h x) ∙ none_told kind h xs

under_map : {A B : Type 0} (f : A → B) (xs : List A) (n : ℕ) → n < length xs → n < length (map f xs)
under_map f xs n h = subst (λ m. n < m) (sym (length-map xs f)) h

both_none : {A : Type 0} (xs ys : List A) → xs ≡ [] → ys ≡ [] → xs ++ ys ≡ []
both_none xs ys h k = ap (λ zs. zs ++ ys) h ∙ k

module _ (source : Source) (s : Scope) (k : ℕ) (index : Ident) (start test : Expr) (again : Ident) (next : Expr) (label : Ident) (items : List Item) where
  abbrev loop_item : ℕ × Item
  loop_item = (k, i.Loop index start test again next label items)

  abbrev header : List Spot
  header = header_spots (here_at s k) index start test next

  faultless_loop : AreFaultless header → header_names true s.names index again ≡ [] → (kind : Kind) → is_scope_kind kind ≡ true → item_faults source kind s loop_item ≡ []
  faultless_loop f h UnknownModule e = both_none _ _ (none_told UnknownModule (λ x. refl) header) refl
  faultless_loop f h UnknownName e = both_none _ _ f.unknown h
  faultless_loop f h Duplicate e = both_none _ _ (none_told Duplicate (λ x. refl) header) refl
  faultless_loop f h NotConstant e = both_none _ _ f.unfixed refl
  faultless_loop f h ZeroDivisor e = both_none _ _ f.zero refl
  faultless_loop f h Range e = both_none _ _ f.range refl
  faultless_loop f h Recursion e = both_none _ _ (none_told Recursion (λ x. refl) header) refl
  faultless_loop f h Port e = both_none _ _ (none_told Port (λ x. refl) header) refl
  faultless_loop f h WrongKind e = absurd (cc)
  faultless_loop f h ClockUse e = absurd (cc)
  faultless_loop f h Blocking e = absurd (cc)
  faultless_loop f h Nonblocking e = absurd (cc)
  faultless_loop f h TwoDrivers e = absurd (cc)
  faultless_loop f h Undriven e = absurd (cc)
  faultless_loop f h Latch e = absurd (cc)
  faultless_loop f h ReadFirst e = absurd (cc)

  adds_turns : (most : ℕ) (old new : List Child) → AreTurns (here_at s k) index start test again next label items most old new → AddsKids source s loop_item old new
  adds_turns most old new a = record {
    scopes = a.scopes source s k refl;
    surveyed = record { none = faultless_loop a.faultless a.named };
  }

  no_turns : (most : ℕ) (e : ChildError) → AreNoTurns (here_at s k) index start test again next most e → AreNoKids most source s loop_item (spec_told e)
  no_turns most (c.UnknownModule p) h = absurd h
  no_turns most (c.Recursion p) h = absurd h
  no_turns most (c.UnknownSetting p) h = absurd h
  no_turns most (c.Port p) h = absurd h
  no_turns most (c.Fault e) h = no_kids_of source s loop_item most e (header_fault source s k index start test again next label _ _ e h)
  no_turns most c.Limit h = under_map _ (turns s.names index.name start test next) most h

module _ (source : Source) (s : Scope) (x : ℕ × Item) (index again label : Ident) (start test next a b d : Expr) (items : List Item)
    (is : x.1 ≡ i.Loop index start test again next label items) (p : a ≡ start) (q : b ≡ test) (u : d ≡ next) where
  loop_is : x.1 ≡ i.Loop index a b again d label items
  loop_is =
      is ∙ (ap (λ m. i.Loop index m test again next label items) (sym p) ∙ (ap (λ m. i.Loop index a m again next label items) (sym q) ∙
      ap (λ m. i.Loop index a b again m label items) (sym u)))

  pub turns_added : (most : ℕ) (old new : List Child) → AreTurns (here_at s x.0) index a b again d label items most old new → AddsKids source s x old new
  turns_added most old new h = subst (λ item. AddsKids source s (x.0, item) old new) (sym loop_is)
      (adds_turns source s x.0 index a b again d label items most old new h)

  pub turns_refused : (most : ℕ) (e : ChildError) → AreNoTurns (here_at s x.0) index a b again d most e → AreNoKids most source s x (spec_told e)
  turns_refused most e h = subst (λ item. AreNoKids most source s (x.0, item) (spec_told e)) (sym loop_is)
      (no_turns source s x.0 index a b again d label items most e h)
