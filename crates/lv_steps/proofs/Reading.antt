-- Files that are read one after another.
use Rattle.std.proofs.Common.{◌≡◌, ℕ, Bool, true, false, zero, suc, ◌+◌, ◌<◌, ◌≤◌, List, [], ◌∷◌, ◌++◌, length, take, drop, get_or, refl, sym, ◌∙◌, ap, subst, arith, append_assoc}
use Rattle.std.specs.Prelude.{Option, Result, Ok, Err, OnOk, is_err}
use Rattle.lv_io.specs.Causes.{Rose}
use Rattle.lv_io.specs.Files.{Files, IsAbsent, IsLonger}
use Rattle.lv_io.specs.Outside.{ShelfState, Goes}
use Rattle.lv_ast.specs.Sources.{source_text}
use Rattle.lv_steps.specs.declared.ended.Unread.{Unread}
use Rattle.lv_steps.specs.declared.ended.Unread.TheVariants as u
use Rattle.lv_steps.specs.Files.{IsRead, AreRead, IsNext, IsUnread}

pub rose_later : (x y z : ℕ) → x ≤ y → Rose y z → Rose x z
rose_later x y z h rose = omega (arith, rose)

pub goes_on : (first middle last : ShelfState) → Goes first middle → Goes middle last → Goes first last
goes_on first middle last g h = record {
  files = h.files ∙ g.files;
  faults = (let p = g.faults in let q = h.faults in omega (arith, p, q));
  misses = (let p = g.misses in let q = h.misses in omega (arith, p, q));
  overlong = (let p = g.overlong in let q = h.overlong in omega (arith, p, q));
}

-- read after others
pub unread_later : (limit : ℕ) (P Q : List ℕ → Type 0) (first middle last : ShelfState) (unread : Unread) → Goes first middle → ((name : List ℕ) → P name → Q name) →
    IsUnread limit P middle last unread → IsUnread limit Q first last unread
unread_later limit P Q first middle last (u.Missing name) goes named h =
    (named name h.0, rose_later first.misses middle.misses last.misses goes.misses h.1, subst (IsAbsent name) goes.files h.2)
unread_later limit P Q first middle last (u.TooLong name) goes named h =
    (named name h.0, rose_later first.overlong middle.overlong last.overlong goes.overlong h.1, subst (IsLonger name limit) goes.files h.2)
unread_later limit P Q first middle last (u.Failed name) goes named h =
    (named name h.0, rose_later first.faults middle.faults last.faults goes.faults h.1)
unread_later limit P Q first middle last u.NoMemory goes named h = tt

-- one part more
pub joined_more : (part next : List ℕ) (parts : List (List ℕ)) → source_text ((part ∷ parts) ++ next ∷ []) ≡ source_text (part ∷ parts) ++ 10 ∷ next
joined_more part next [] = refl
joined_more part next (more ∷ parts) = ap (λ z. part ++ 10 ∷ z) (joined_more more next parts) ∙ sym (append_assoc part (10 ∷ source_text (more ∷ parts)) (10 ∷ next))

-- the first names are read
pub record Gathered (limit : ℕ) (before now : ShelfState) (names parts : List (List ℕ)) : Type 0 where
  pub held : AreRead limit before.files names parts
  pub goes : Goes before now

pub record Joined (parts : List (List ℕ)) (text : List ℕ) (first : Bool) : Type 0 where
  pub same : text ≡ source_text parts
  pub none : first ≡ true → parts ≡ []
  pub some : first ≡ false → parts ≡ [] → ⊥

-- an element with what stands around it
pub cut_at : {A : Type 0} (xs : List A) (k : ℕ) (x : A) → k < length xs → x ≡ get_or xs k x → xs ≡ take k xs ++ x ∷ drop (suc k) xs
cut_at [] k x within at = absurd (omega arith)
cut_at (y ∷ xs) zero x within at = ap (λ z. z ∷ xs) (sym at)
cut_at (y ∷ xs) (suc k) x within at = ap (λ zs. y ∷ zs) (cut_at xs k x (omega arith) at)

pub next_at : (limit : ℕ) (told : Option Files) (names parts : List (List ℕ)) (k : ℕ) (x : List ℕ) → k < length names → x ≡ get_or names k x → AreRead limit told (take k names) parts →
    (name : List ℕ) → name ≡ x → IsNext limit told names name
next_at limit told names parts k x within at held name e =
    subst (IsNext limit told names) (sym e) (record { front = take k names; rest = drop (suc k) names; stands = cut_at names k x within at; parts = parts; read = held })

-- one element more
pub take_more : {A : Type 0} (xs : List A) (k : ℕ) (x : A) → k < length xs → x ≡ get_or xs k x → take (k + 1) xs ≡ take k xs ++ x ∷ []
take_more [] k x within at = absurd (omega arith)
take_more (y ∷ xs) zero x within at = ap (λ z. z ∷ []) (sym at)
take_more (y ∷ xs) (suc k) x within at =
    let e : suc (k + 1) ≡ suc k + 1 = omega arith in
    subst (λ n. take n (y ∷ xs) ≡ y ∷ (take k xs ++ x ∷ [])) e (ap (λ zs. y ∷ zs) (take_more xs k x (omega arith) at))

pub held_more : (limit : ℕ) (told : Option Files) (names parts : List (List ℕ)) (name part : List ℕ) → AreRead limit told names parts → IsRead limit told name part → AreRead limit told (names ++ name ∷ []) (parts ++ part ∷ [])
held_more limit told [] [] name part h g = (g, tt)
held_more limit told [] (x ∷ xs) name part h g = absurd h
held_more limit told (n ∷ names) [] name part h g = absurd h
held_more limit told (n ∷ names) (x ∷ xs) name part h g = (h.0, held_more limit told names xs name part h.1 g)

pub gathered_more : (limit : ℕ) (before middle now : ShelfState) (names parts : List (List ℕ)) (k : ℕ) (name part : List ℕ) → k < length names → name ≡ get_or names k name →
    Gathered limit before middle (take k names) parts → IsRead limit middle.files name part → Goes middle now → Gathered limit before now (take (k + 1) names) (parts ++ part ∷ [])
gathered_more limit before middle now names parts k name part within at h found goes = record {
  held = subst (λ z. AreRead limit before.files z (parts ++ part ∷ [])) (sym (take_more names k name within at))
      (held_more limit before.files (take k names) parts name part h.held (subst (λ z. IsRead limit z name part) h.goes.files found));
  goes = goes_on before middle now h.goes goes;
}

pub gathered_as : (limit : ℕ) (before now : ShelfState) (names xs ys : List (List ℕ)) → xs ≡ ys → Gathered limit before now names xs → Gathered limit before now names ys
gathered_as limit before now names xs ys e h = subst (Gathered limit before now names) e h

more_than_none : {A : Type 0} (xs : List A) (x : A) → xs ++ x ∷ [] ≡ [] → ⊥
more_than_none [] x e = cc
more_than_none (y ∷ xs) x e = cc

-- the first part
pub joined_first : (parts : List (List ℕ)) (k : ℕ) (part text new : List ℕ) (first : Bool) → k < length parts → part ≡ get_or parts k part →
    Joined (take k parts) text first → first ≡ true → new ≡ text ++ part → Joined (take (k + 1) parts) new false
joined_first parts k part text new first within at h begins e =
    let none : take k parts ≡ [] = h.none begins in
    let more : take (k + 1) parts ≡ part ∷ [] = take_more parts k part within at ∙ ap (λ z. z ++ part ∷ []) none in
    let nothing : text ≡ [] = h.same ∙ ap source_text none in
    record {
      same = e ∙ ap (λ z. z ++ part) nothing ∙ sym (ap source_text more);
      none = λ f. absurd (cc);
      some = λ f g. more_than_none [] part (sym more ∙ g);
    }

joined_rest : (parts : List (List ℕ)) (part text : List ℕ) → (parts ≡ [] → ⊥) → text ≡ source_text parts → (text ++ 10 ∷ []) ++ part ≡ source_text (parts ++ part ∷ [])
joined_rest [] part text some same = absurd (some refl)
joined_rest (x ∷ xs) part text some same = append_assoc text (10 ∷ []) part ∙ ap (λ z. z ++ 10 ∷ part) same ∙ sym (joined_more x part xs)

-- a part behind others
pub joined_next : (parts : List (List ℕ)) (k : ℕ) (part text new : List ℕ) (first : Bool) → k < length parts → part ≡ get_or parts k part →
    Joined (take k parts) text first → first ≡ false → new ≡ (text ++ 10 ∷ []) ++ part → Joined (take (k + 1) parts) new false
joined_next parts k part text new first within at h goes e =
    let more : take (k + 1) parts ≡ take k parts ++ part ∷ [] = take_more parts k part within at in
    record {
      same = e ∙ joined_rest (take k parts) part text (h.some goes) h.same ∙ sym (ap source_text more);
      none = λ f. absurd (cc);
      some = λ f g. more_than_none (take k parts) part (sym more ∙ g);
    }

pub on_ok : {T E : Type 0} (r : Result T E) (P : Type 0) → is_err r ≡ false → OnOk r P → P
on_ok (Ok x) P e h = h
on_ok (Err x) P e h = absurd (cc)
