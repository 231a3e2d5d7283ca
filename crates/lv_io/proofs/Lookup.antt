-- The first file that has a name, after a file is set or added.
use Rattle.std.proofs.Common.{◌≡◌, ◌≢◌, ◌<◌, ◌≤◌, ℕ, zero, suc, ◌+◌, List, [], ◌∷◌, ◌++◌, length, set, get_or, drop, bytes_eq, true, false, cond, Some, None, refl, sym, ◌∙◌, ap, subst, add-one, zero-add, drop-cons, arith}
use Rattle.std.proofs.Math.ListN.{drop_of_length-le}
use Rattle.std.proofs.lemmas.Slice.Eq.{bytes_eq-Decides}
use Rattle.lv_io.specs.declared.mem_shelf.NamedFile.{NamedFile}
use Rattle.lv_io.specs.MemFiles.{lookup, StandsAt}

bytes_differ : (xs ys : List ℕ) → xs ≢ ys → bytes_eq xs ys ≡ false
bytes_differ xs ys ne = elim (bytes_eq xs ys) as (λ b. (b ≡ true → xs ≡ ys) → b ≡ false) [ true ↦ λ h. absurd (ne (h refl)) | false ↦ λ h. refl ] (bytes_eq-Decides xs ys).0

pub same_from_eq : (xs ys : List ℕ) → bytes_eq xs ys ≡ true → xs ≡ ys
same_from_eq xs ys e = (bytes_eq-Decides xs ys).0 e

pub differ_from_eq : (xs ys : List ℕ) → bytes_eq xs ys ≡ false → xs ≢ ys
differ_from_eq xs ys e same = let f : bytes_eq xs ys ≡ true = (bytes_eq-Decides xs ys).1 same in cc

same_bytes : (xs : List ℕ) → bytes_eq xs xs ≡ true
same_bytes xs = (bytes_eq-Decides xs xs).1 refl

pub lookup-set_same : (files : List NamedFile) (place : ℕ) (name bytes : List ℕ) → StandsAt files name place → lookup (set files place (record { name = name; bytes = bytes })) name ≡ Some bytes
lookup-set_same [] place name bytes h = absurd h
lookup-set_same (file ∷ files) zero name bytes h = rw (same_bytes name) refl
lookup-set_same (file ∷ files) (suc place) name bytes h = rw (bytes_differ file.name name h.0) (lookup-set_same files place name bytes h.1)

pub lookup-set_other : (files : List NamedFile) (place : ℕ) (name bytes other : List ℕ) → StandsAt files name place → other ≢ name → lookup (set files place (record { name = name; bytes = bytes })) other ≡ lookup files other
lookup-set_other [] place name bytes other h ne = absurd h
lookup-set_other (file ∷ files) zero name bytes other h ne =
    rw (bytes_differ name other (λ e. ne (sym e)), bytes_differ file.name other (λ e. ne (sym e ∙ h))) refl
lookup-set_other (file ∷ files) (suc place) name bytes other h ne =
    ap (λ found. cond (bytes_eq file.name other) (Some file.bytes) found) (lookup-set_other files place name bytes other h.1 ne)

pub lookup-push_same : (files : List NamedFile) (name bytes : List ℕ) → lookup files name ≡ None → lookup (files ++ record { name = name; bytes = bytes } ∷ []) name ≡ Some bytes
lookup-push_same [] name bytes h = rw (same_bytes name) refl
lookup-push_same (file ∷ files) name bytes h =
    elim (bytes_eq file.name name) as (λ b. cond b (Some file.bytes) (lookup files name) ≡ None → cond b (Some file.bytes) (lookup (files ++ record { name = name; bytes = bytes } ∷ []) name) ≡ Some bytes)
    [ true ↦ λ e. (cc) | false ↦ λ e. lookup-push_same files name bytes e ] h

pub lookup-push_other : (files : List NamedFile) (name bytes other : List ℕ) → other ≢ name → lookup (files ++ record { name = name; bytes = bytes } ∷ []) other ≡ lookup files other
lookup-push_other [] name bytes other ne = rw (bytes_differ name other (λ e. ne (sym e))) refl
lookup-push_other (file ∷ files) name bytes other ne =
    ap (λ found. cond (bytes_eq file.name other) (Some file.bytes) found) (lookup-push_other files name bytes other ne)

-- none of the first files has the name
pub record Passed (files : List NamedFile) (name : List ℕ) (place : ℕ) : Type 0 where
  pub same : lookup (drop place files) name ≡ lookup files name
  pub further : (found : ℕ) → StandsAt (drop place files) name found → StandsAt files name (place + found)

pub passed_none : (files : List NamedFile) (name : List ℕ) → Passed files name 0
passed_none files name = record { same = refl; further = λ found h. rw zero-add h }

drop-at : (files : List NamedFile) (place : ℕ) (file : NamedFile) → place < length files → file ≡ get_or files place file → drop place files ≡ file ∷ drop (place + 1) files
drop-at files place file lt is = rw (add-one, drop-cons files place file lt, ← is) refl

pub passed_more : (files : List NamedFile) (name : List ℕ) (place : ℕ) (file : NamedFile) → place < length files → file ≡ get_or files place file → file.name ≢ name → Passed files name place → Passed files name (place + 1)
passed_more files name place file lt is ne passed =
    let e : drop place files ≡ file ∷ drop (place + 1) files = drop-at files place file lt is in
    record {
      same = sym (let P : List NamedFile → Type 0 = λ xs. lookup files name ≡ lookup xs name in
          let h : lookup files name ≡ lookup (file ∷ drop (place + 1) files) name = subst P e (sym passed.same) in
          h ∙ rw (bytes_differ file.name name ne) refl);
      further = λ found h.
          let P : List NamedFile → Type 0 = λ xs. StandsAt xs name (suc found) in
          let s : StandsAt files name (place + suc found) = passed.further (suc found) (subst P (sym e) (ne, h)) in
          let Q : ℕ → Type 0 = λ n. StandsAt files name n in
          let f : place + suc found ≡ (place + 1) + found = omega arith in
          subst Q f s;
    }

pub found_here : (files : List NamedFile) (name : List ℕ) (place : ℕ) (file : NamedFile) → place < length files → file ≡ get_or files place file → file.name ≡ name → Passed files name place → StandsAt files name place
found_here files name place file lt is same passed =
    let P : List NamedFile → Type 0 = λ xs. StandsAt xs name 0 in
    let Q : ℕ → Type 0 = λ n. StandsAt files name n in
    let f : place + 0 ≡ place = omega arith in
    subst Q f (passed.further 0 (subst P (sym (drop-at files place file lt is)) same))

pub found_none : (files : List NamedFile) (name : List ℕ) (place : ℕ) → length files ≤ place → Passed files name place → lookup files name ≡ None
found_none files name place le passed =
    let P : List NamedFile → Type 0 = λ xs. lookup xs name ≡ lookup files name in
    sym (subst P (drop_of_length-le files le) passed.same)

-- a file that stands in the list is the one that is found
pub lookup_at : (files : List NamedFile) (place : ℕ) (name : List ℕ) (file : NamedFile) → StandsAt files name place → file ≡ get_or files place file → lookup files name ≡ Some file.bytes
lookup_at [] place name file h is = absurd h
lookup_at (first ∷ files) zero name file h is = let e : bytes_eq first.name name ≡ true = (bytes_eq-Decides first.name name).1 h in rw (e, is) refl
lookup_at (first ∷ files) (suc place) name file h is = rw (bytes_differ first.name name h.0) (lookup_at files place name file h.1 is)

pub stands_within : (files : List NamedFile) (name : List ℕ) (place : ℕ) → StandsAt files name place → place < length files
stands_within [] name place h = absurd h
stands_within (file ∷ files) name zero h = omega arith
stands_within (file ∷ files) name (suc place) h = let k : place < length files = stands_within files name place h.1 in omega arith
