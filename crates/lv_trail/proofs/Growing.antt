-- A trail that grows by unit steps.
use Rattle.std.proofs.Common.{ℕ, List, [], ◌∷◌, ◌++◌, refl, sym, ◌∙◌, ap, subst, arith, append_assoc, append-nil}
use Rattle.lv_trail.specs.declared.store.Entry.{Entry}
use Rattle.lv_trail.specs.declared.store.Store.{Store}
use Rattle.lv_trail.specs.Store.{entries, IsSound, IsGrown}
use Rattle.lv_trail.specs.Trail.{AllForced}

all-append : (n : ℕ) (xs ys : List Entry) → AllForced n xs → AllForced n ys → AllForced n (xs ++ ys)
all-append n [] ys a b = b
all-append n (x ∷ xs) ys a b = (a.0, a.1, all-append n xs ys a.2 b)

pub grown-none : (t : Store) → IsSound t → IsGrown t t
grown-none t s = record { sound = s; same = (refl, refl); forced = ([], sym (append-nil (entries t)), refl, tt); more = omega arith }

pub grown-more : (a b c : Store) → IsGrown a b → IsGrown b c → IsGrown a c
grown-more a b c g h =
    let (xs, ex, lx, fx) = g.forced in
    let (ys, ey, ly, fy) = h.forced in
    record {
      sound = h.sound;
      same = (h.same.0 ∙ g.same.0, h.same.1 ∙ g.same.1);
      forced = (xs ++ ys, ey ∙ (ap (λ z. z ++ ys) ex ∙ append_assoc (entries a) xs ys), ly ∙ lx, all-append a.level xs ys fx (subst (λ z. AllForced z ys) lx fy));
      more = omega (arith, g.more, h.more);
    }
