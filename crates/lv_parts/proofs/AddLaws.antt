-- Parts that are added, one by one and element by element.
use Rattle.std.proofs.Common.{◌≡◌, ℕ, ◌+◌, ◌<◌, ◌≤◌, true, List, [], ◌∷◌, ◌++◌, map, length, take, get_or, refl, sym, ap, ◌∙◌, subst, inl, inr, Result, Ok, Err, arith}
use Rattle.std.specs.Prelude.{flat_map}
use Rattle.std.specs.List.{Contains, list_all}
use Rattle.std.proofs.lemmas.Grind.{flat_map-append}
use Rattle.std.proofs.lemmas.List.{append-nil, append_assoc, map-append, take_more}
use Rattle.std.proofs.lemmas.List.Elements.{Contains-append_left, Contains-append_right, Contains-append_cases}
use Rattle.lv_source.specs.Parts.{Part}
use Rattle.lv_source.specs.Views.{View, view_of}
use Rattle.lv_source.proofs.Bridges.{two}
use Rattle.lv_const.proofs.Lists.{take-whole}
use Rattle.lv_flat.specs.declared.part.FlatPart.{FlatPart}
use Rattle.lv_flat.specs.Signals.{Signals}
use Rattle.lv_flat.specs.FlatViews.{flat_view}
use Rattle.lv_flat.specs.Good.{good_body}
use Rattle.lv_resolve.proofs.Nodes.{and-both}
use Rattle.lv_resolve.proofs.Covers.{nowhere-in}
use Rattle.lv_resolve.proofs.Zeros.{single}
use Rattle.lv_resolve_stmts.proofs.Lists.{all-joined}
use Rattle.lv_parts.specs.declared.error.PartsError.{PartsError}
use Rattle.lv_parts.specs.declared.error.PartsError.TheVariants as e
use Rattle.lv_parts.specs.Made.{AreAdded, HasAdded, AddAnswer, IsMade, MadeAnswer, IsPut, AreAll, HasOne}

module _ (S : Signals) where
  -- ---- the views of all that stand then

  pub all-views : (ps : List Part) (Well : Type 0) (old new : List FlatPart) → AreAdded S ps Well old new → map (flat_view S) new ≡ map (flat_view S) old ++ map view_of ps
  all-views ps Well old new a =
      ap (map (flat_view S)) a.kept ∙ (map-append (flat_view S) old a.more ∙ ap (λ (vs : List View). map (flat_view S) old ++ vs) a.views)

  -- ---- none, and one

  pub none-added : (Well : Type 0) (old : List FlatPart) → AreAdded S [] Well old old
  none-added Well old = record { more = []; kept = sym (append-nil old); views = refl; good = λ w. refl }

  module _ (p : Part) (Well Clean : Type 0) (IsTold : PartsError → Type 0) where
    pub put-answer : (m : Result FlatPart PartsError) (old new : List FlatPart) (r : Result (Unit {0}) PartsError) → IsTold e.NoMemory → MadeAnswer S p Well Clean IsTold m →
        IsPut m old new r → AddAnswer S (p ∷ []) Well Clean IsTold old new r
    put-answer (Ok f) old new (Ok u) n a h = record {
      right = record {
        added = record { more = f ∷ []; kept = h; views = ap (λ (v : View). v ∷ []) a.right.view; good = λ w. and-both _ _ (a.right.good w) refl };
        clean = a.right.clean;
      };
      wrong = tt;
    }
    put-answer (Ok f) old new (Err x) n a h = record { right = tt; wrong = subst IsTold (sym h) n }
    put-answer (Err x) old new r n a h = subst (AddAnswer S (p ∷ []) Well Clean IsTold old new) (sym h) (record { right = tt; wrong = a.wrong })

    -- where less is asked for
    pub eased : (Other : Type 0) → (Other → Well) → (m : Result FlatPart PartsError) → MadeAnswer S p Well Clean IsTold m → MadeAnswer S p Other Clean IsTold m
    eased Other f (Ok x) a = record { right = record { view = a.right.view; good = λ w. a.right.good (f w); clean = a.right.clean }; wrong = tt }
    eased Other f (Err x) a = record { right = tt; wrong = a.wrong }

  -- ---- element by element

  module _ {A : Type 0} (parts : A → List Part) (Well Clean : A → Type 0) (IsTold : PartsError → A → Type 0) where
    abbrev pub Added : List A → List FlatPart → List FlatPart → Type 0
    Added xs old new = HasAdded S (flat_map parts xs) (AreAll Well xs) (AreAll Clean xs) old new

    abbrev pub Answer : List A → List FlatPart → List FlatPart → Result (Unit {0}) PartsError → Type 0
    Answer xs old new r = AddAnswer S (flat_map parts xs) (AreAll Well xs) (AreAll Clean xs) (λ x. HasOne (IsTold x) xs) old new r

    pub no-added : (old : List FlatPart) → Added [] old old
    no-added old = record { added = none-added (AreAll Well []) old; clean = record { each = λ x c. absurd (nowhere-in x c) } }

    all-first : (Holds : A → Type 0) (xs ys : List A) → AreAll Holds (xs ++ ys) → AreAll Holds xs
    all-first Holds xs ys h = record { each = λ x c. h.each x (Contains-append_left xs ys x c) }

    last-in : (xs : List A) (x : A) → Contains (xs ++ x ∷ []) x
    last-in xs x = Contains-append_right xs (x ∷ []) x (0, omega arith, refl)

    added-snoc : (xs : List A) (x : A) (old mid new : List FlatPart) → Added xs old mid → HasAdded S (parts x) (Well x) (Clean x) mid new → Added (xs ++ x ∷ []) old new
    added-snoc xs x old mid new a b =
        let same : flat_map parts (xs ++ x ∷ []) ≡ flat_map parts xs ++ parts x =
        flat_map-append parts xs (x ∷ []) ∙ ap (λ (ps : List Part). flat_map parts xs ++ ps) (append-nil (parts x)) in
        record {
          added = record {
            more = a.added.more ++ b.added.more;
            kept = b.added.kept ∙ (ap (λ (fs : List FlatPart). fs ++ b.added.more) a.added.kept ∙ append_assoc old a.added.more b.added.more);
            views = map-append (flat_view S) a.added.more b.added.more ∙ (two (λ (p q : List View). p ++ q) _ _ _ _ a.added.views b.added.views ∙
                (sym (map-append view_of (flat_map parts xs) (parts x)) ∙ ap (map view_of) (sym same)));
            good = λ w. all-joined (λ (f : FlatPart). good_body S f.body) a.added.more b.added.more
                (a.added.good (all-first Well xs (x ∷ []) w)) (b.added.good (w.each x (last-in xs x)));
          };
          clean = record {
            each = λ y c. elim (Contains-append_cases xs (x ∷ []) y c) [
              | inl k ↦ a.clean.each y k
              | inr k ↦ subst Clean (single x y k) b.clean
            ];
          };
        }

    module _ (xs : List A) (i : ℕ) (x : A) (h : i < length xs) (g : get_or xs i x ≡ x) where
      pub added-more : (old mid new : List FlatPart) → Added (take i xs) old mid → HasAdded S (parts x) (Well x) (Clean x) mid new → Added (take (i + 1) xs) old new
      added-more old mid new a b =
          subst (λ us. Added us old new) (sym (take_more xs i x h ∙ ap (λ u. take i xs ++ u ∷ []) g)) (added-snoc (take i xs) x old mid new a b)

      pub told-there : (old new : List FlatPart) (y : PartsError) → IsTold y x → Answer xs old new (Err y)
      told-there old new y k = record { right = tt; wrong = record { one = x; among = (i, h, g); holds = k } }

    pub added-all : (xs : List A) (i : ℕ) (old new : List FlatPart) → length xs ≤ i → Added (take i xs) old new → Answer xs old new (Ok tt)
    added-all xs i old new h a = record { right = subst (λ us. Added us old new) (take-whole xs i h) a; wrong = tt }
