-- Scopes among further levels and signals.
use Rattle.std.proofs.Common.{◌≡◌, ℕ, zero, suc, List, [], ◌∷◌, ◌++◌, Some}
use Rattle.std.specs.Prelude.{slice_get}
use Rattle.lv_source.specs.Names.{Declared}
use Rattle.lv_source.specs.Scopes.{Scope}
use Rattle.lv_symbols.specs.Frames.{Frame}
use Rattle.lv_lookup.specs.declared.level.Level.{Level}
use Rattle.lv_lookup.specs.Nested.{HasNames, IsNested, module_at, turn_at}

older : {A : Type 0} (xs ys : List A) (k : ℕ) (x : A) → slice_get xs k ≡ Some x → slice_get (xs ++ ys) k ≡ Some x
older [] ys k x h = absurd (cc)
older (y ∷ xs) ys zero x h = h
older (y ∷ xs) ys (suc k) x h = older xs ys k x h

module _ (S more : List Declared) where
  names_kept : (l : Level) (f : Frame) → HasNames S l f → HasNames (S ++ more) l f
  names_kept l f h = record {
    first = h.first;
    own = h.own;
    scope = h.scope;
    table = h.table;
    signals = record { each = λ k d e. older S more _ d (h.signals.each k d e) };
  }

  pub kept : (levels others : List Level) (at : ℕ) (s : Scope) → IsNested S levels at s → IsNested (S ++ more) (levels ++ others) at s
  kept levels others _ _ (module_at at l f e a base h) = module_at at l f (older levels others at l e) a base (names_kept l f h)
  kept levels others _ _ (turn_at at l a f s k index label items value e q i less inner is base h) =
      turn_at at l a f s k index label items value (older levels others at l e) q i less (kept levels others a.scope s inner) is base (names_kept l f h)
