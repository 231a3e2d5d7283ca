-- What is answered of bytes.
use Rattle.std.proofs.Common.{◌≡◌, ℕ, zero, suc, ◌+◌, ◌-◌, ◌<◌, List, [], ◌∷◌, ◌++◌, take, drop, refl, sym, ap, ◌∙◌, subst, ◌⊎◌, inl, inr, append_assoc, arith}
use Rattle.std.proofs.lemmas.List.{append-nil}
use Rattle.lv_cert.specs.Words.{Word, words_of, spell, text_of}
use Rattle.lv_cert.specs.Values.{Values, Sets}
use Rattle.lv_cert.specs.Lines.{Line, lines_of}
use Rattle.lv_cert.specs.Grammar.{IsFor, IsCertificate, Begins, IsFirstWrong, IsRefusal}
use Rattle.lv_cert.specs.Parts.{State, Moves, IsStuck, Fails, line_count}
use Rattle.lv_cert.specs.Inputs.{cut, rest_of, state_of, IsAtEnd}
use Rattle.lv_cert.specs.Whole.{CertValue, cert_part, values_in, sets_in}
use Rattle.lv_cert.specs.declared.cert.Shape.{Shape}
use Rattle.lv_cert.specs.declared.error.CertError.{CertError}
use Rattle.lv_cert.specs.declared.error.CertError.TheVariants as error
use Rattle.lv_cert.proofs.Leading.{split, cancel, line_count-append, nothing_more}
use Rattle.lv_cert.proofs.Texts.{spell-append, words_of-append, AreClean, are_clean_take, cut_spell, rest_spell, spell_cut, lines-counted, take-filled, front_lines}
use Rattle.std.proofs.lemmas.List.{length-take-le}
use Rattle.lv_cert.proofs.Facts.{IsSmall, unique_cert, clean_cert}
use Rattle.lv_cert.proofs.Wholes.{cert_words, cert_for, words_in, filled}

module _ (shape : Shape) (small : IsSmall shape) (bytes : List ℕ) where
  text-is : bytes ≡ spell (cut [] bytes) ++ rest_of [] bytes
  text-is = sym (spell_cut [] bytes)

  lines-clean : (v : Values) (sets : Sets) → IsFor shape v sets → AreClean (words_of (lines_of v sets))
  lines-clean v sets h = let a = words_in shape v sets h in subst AreClean a.3 (clean_cert shape a.0 a.1)

  taken : (n : ℕ) (ls : List Line) → words_of ls ≡ words_of (take n ls) ++ words_of (drop n ls)
  taken n ls = ap words_of (take-drop n ls) ∙ words_of-append (take n ls) (drop n ls)
    where
      take-drop : (k : ℕ) (xs : List Line) → xs ≡ take k xs ++ drop k xs
      take-drop zero xs = refl
      take-drop (suc k) [] = refl
      take-drop (suc k) (x ∷ xs) = ap (λ z. x ∷ z) (take-drop k xs)

  -- the words that the first lines of a certificate give the bytes
  begun : (n : ℕ) (v : Values) (sets : Sets) (rest : List ℕ) → IsFor shape v sets → bytes ≡ text_of (take n (lines_of v sets)) ++ rest →
      cut [] bytes ≡ words_of (take n (lines_of v sets)) ++ cut [] rest
  begun n v sets rest h e =
      ap (λ b. cut [] b) e ∙ cut_spell (words_of (take n (lines_of v sets))) rest
      (are_clean_take (words_of (take n (lines_of v sets))) (words_of (drop n (lines_of v sets))) (subst AreClean (taken n (lines_of v sets)) (lines-clean v sets h)))

  whole-words : (v : Values) (sets : Sets) → IsFor shape v sets → bytes ≡ text_of (lines_of v sets) → (cut [] bytes ≡ words_of (lines_of v sets)) × (rest_of [] bytes ≡ [])
  whole-words v sets h e =
      let f : bytes ≡ text_of (lines_of v sets) ++ [] = e ∙ sym (append-nil (text_of (lines_of v sets))) in (
        ap (λ b. cut [] b) f ∙ cut_spell (words_of (lines_of v sets)) [] (lines-clean v sets h) ∙ append-nil (words_of (lines_of v sets)),
        ap (λ b. rest_of [] b) f ∙ rest_spell (words_of (lines_of v sets)) [] (lines-clean v sets h),
      )

  -- words of a certificate in front begin so many of its lines
  pub begins_at : (a : CertValue) (front more others : List Word) → (cert_part shape).fits a → (cert_part shape).words a ≡ front ++ more → cut [] bytes ≡ front ++ others →
      Begins shape bytes (line_count front)
  begins_at a front more others f e k =
      let v = values_in a in
      let sets = sets_in a in
      let l = front_lines (lines_of v sets) front more (filled v sets) (sym (cert_words shape a f) ∙ e) in
      let w : List Word = words_of (take (line_count front) (lines_of v sets)) in
      record {
        values = v;
        sets = sets;
        rest = spell l.0 ++ (spell others ++ rest_of [] bytes);
        fits = cert_for shape a f;
        within = l.2;
        is =
            text-is ∙ ap (λ z. spell z ++ rest_of [] bytes) (k ∙ ap (λ z. z ++ others) l.1) ∙
            ap (λ z. z ++ rest_of [] bytes) (spell-append (w ++ l.0) others ∙ ap (λ z. z ++ spell others) (spell-append w l.0)) ∙
            append_assoc (spell w ++ spell l.0) (spell others) (rest_of [] bytes) ∙ append_assoc (spell w) (spell l.0) (spell others ++ rest_of [] bytes);
      }

  -- a certificate with a line more than front ends has front and a word more
  goes-on : (n : ℕ) (front others : List Word) → line_count front < n → cut [] bytes ≡ front ++ others → (b : Begins shape bytes n) →
      (x : Word) × (t : List Word) × (others ≡ x ∷ (t ++ cut [] b.rest)) × (words_of (lines_of b.values b.sets) ≡ front ++ x ∷ (t ++ words_of (drop n (lines_of b.values b.sets))))
  goes-on n front others h k b = by (split front others w (cut [] b.rest) (sym k ∙ begun n b.values b.sets b.rest b.fits b.is))
    where
      ls : List Line
      ls = lines_of b.values b.sets

      w : List Word
      w = words_of (take n (lines_of b.values b.sets))

      count : line_count (words_of (take n (lines_of b.values b.sets))) ≡ n
      count = lines-counted (take n (lines_of b.values b.sets)) (take-filled n (lines_of b.values b.sets) (filled b.values b.sets)) ∙ length-take-le n (lines_of b.values b.sets) b.within

      by : ((t : List Word) × (words_of (take n (lines_of b.values b.sets)) ≡ front ++ t)) ⊎ ((t : List Word) × (front ≡ words_of (take n (lines_of b.values b.sets)) ++ t) × (cut [] b.rest ≡ t ++ others)) →
          (x : Word) × (t : List Word) × (others ≡ x ∷ (t ++ cut [] b.rest)) × (words_of (lines_of b.values b.sets) ≡ front ++ x ∷ (t ++ words_of (drop n (lines_of b.values b.sets))))
      by (inl l) = on l.0 l.1
        where
          on : (t : List Word) → words_of (take n (lines_of b.values b.sets)) ≡ front ++ t →
              (x : Word) × (t : List Word) × (others ≡ x ∷ (t ++ cut [] b.rest)) × (words_of (lines_of b.values b.sets) ≡ front ++ x ∷ (t ++ words_of (drop n (lines_of b.values b.sets))))
          on [] e = absurd (omega (arith, count, h, ap line_count (e ∙ append-nil front)))
          on (x ∷ t) e = (
            x,
            t,
            cancel front others (x ∷ (t ++ cut [] b.rest)) (sym k ∙ begun n b.values b.sets b.rest b.fits b.is ∙ ap (λ z. z ++ cut [] b.rest) e ∙ append_assoc front (x ∷ t) (cut [] b.rest)),
            taken n (lines_of b.values b.sets) ∙ ap (λ z. z ++ words_of (drop n (lines_of b.values b.sets))) e ∙ append_assoc front (x ∷ t) (words_of (drop n (lines_of b.values b.sets))),
          )
      by (inr l) = absurd (omega (arith, count, h, ap line_count l.1, line_count-append (words_of (take n (lines_of b.values b.sets))) l.0))

  -- where no certificate goes on
  pub stuck_wrong : (front : List Word) (line : ℕ) → IsStuck (cert_part shape) (cut [] bytes) front → line ≡ 1 + line_count front → IsFirstWrong shape bytes line
  stuck_wrong front line h n = record {
    some = omega (arith, n);
    before = let e : line_count front ≡ line - 1 = omega (arith, n) in subst (Begins shape bytes) e (begins_at h.value front (h.next ∷ h.more) h.rest h.fits h.begins h.is);
    here = λ b.
        let g = goes-on line front h.rest (omega (arith, n)) h.is b in
        let a = words_in shape b.values b.sets b.fits in
        h.ends g.0 (g.1 ++ cut [] b.rest) g.2 a.0 (g.1 ++ words_of (drop line (lines_of b.values b.sets))) a.1 (a.3 ∙ g.3);
    whole = λ v c.
        let w = whole-words v c.0 c.1 c.2 in
        let a = words_in shape v c.0 c.1 in
        finished h.rest refl a.0 a.1 (a.3 ∙ sym w.0 ∙ h.is);
  }
    where
      finished : (rest : List Word) → h.rest ≡ rest → (a : CertValue) → (cert_part shape).fits a → (cert_part shape).words a ≡ front ++ h.rest → ⊥
      finished [] e a f w =
          let k : (cert_part shape).words a ≡ front = w ∙ ap (λ z. front ++ z) e ∙ append-nil front in
          let whole : (cert_part shape).words h.value ≡ (cert_part shape).words a ++ h.next ∷ h.more = h.begins ∙ ap (λ z. z ++ h.next ∷ h.more) (sym k) in
          let same : h.value ≡ a = unique_cert shape small h.value a [] (h.next ∷ h.more) h.fits f (append-nil ((cert_part shape).words h.value) ∙ whole) in
          nothing_more ((cert_part shape).words a) [] h.next h.more (ap (λ x. (cert_part shape).words x) (sym same) ∙ whole)
      finished (x ∷ behind) e a f w = h.ends x behind e a behind f (w ∙ ap (λ z. front ++ z) e)

  -- the words of a certificate were read, and these are left
  pub read_all : (a : CertValue) (now : State) → (cert_part shape).fits a → Moves (state_of bytes 1) now ((cert_part shape).words a) → IsAtEnd now → IsCertificate shape (values_in a) bytes
  read_all a now f m e = (
    sets_in a,
    cert_for shape a f,
    text-is ∙ (λ i. spell ((m.words ∙ (λ j. (cert_part shape).words a ++ e.0 j) ∙ append-nil ((cert_part shape).words a) ∙ cert_words shape a f) i) ++ (sym m.rest ∙ e.1) i) ∙
        append-nil (text_of (lines_of (values_in a) (sets_in a))),
  )

  pub read_only : (a : CertValue) (now : State) → (cert_part shape).fits a → Moves (state_of bytes 1) now ((cert_part shape).words a) → (v : Values) → IsCertificate shape v bytes →
      (v ≡ values_in a) × IsAtEnd now
  read_only a now f m v c =
      let w = whole-words v c.0 c.1 c.2 in
      let b = words_in shape v c.0 c.1 in
      let e : (cert_part shape).words b.0 ++ [] ≡ (cert_part shape).words a ++ now.words = append-nil ((cert_part shape).words b.0) ∙ b.3 ∙ sym w.0 ∙ m.words in
      let same : b.0 ≡ a = unique_cert shape small b.0 a [] now.words b.1 f e in (
        sym b.2 ∙ ap (λ x. values_in x) same,
        (sym (cancel ((cert_part shape).words a) [] now.words (ap (λ x. (cert_part shape).words x ++ []) (sym same) ∙ e)), m.rest ∙ w.1),
      )

  pub more_wrong : (a : CertValue) (now : State) (line : ℕ) → (cert_part shape).fits a → Moves (state_of bytes 1) now ((cert_part shape).words a) → (IsAtEnd now → ⊥) → line ≡ now.line →
      IsFirstWrong shape bytes line
  more_wrong a now line f m more n =
      let words : List Word = (cert_part shape).words a in
      let at : line ≡ 1 + line_count ((cert_part shape).words a) = omega (arith, n, m.line) in
      record {
        some = omega (arith, at);
        before = let e : line_count ((cert_part shape).words a) ≡ line - 1 = omega (arith, at) in
            subst (Begins shape bytes) e (begins_at a ((cert_part shape).words a) [] now.words f (sym (append-nil ((cert_part shape).words a))) m.words);
        here = λ b.
            let g = goes-on line ((cert_part shape).words a) now.words (omega (arith, at)) m.words b in
            let k = words_in shape b.values b.sets b.fits in
            let whole : (cert_part shape).words k.0 ≡ (cert_part shape).words a ++ g.0 ∷ (g.1 ++ words_of (drop line (lines_of b.values b.sets))) = k.3 ∙ g.3 in
            let same : k.0 ≡ a = unique_cert shape small k.0 a [] (g.0 ∷ (g.1 ++ words_of (drop line (lines_of b.values b.sets)))) k.1 f (append-nil ((cert_part shape).words k.0) ∙ whole) in
            nothing_more ((cert_part shape).words a) [] g.0 (g.1 ++ words_of (drop line (lines_of b.values b.sets))) (ap (λ x. (cert_part shape).words x) (sym same) ∙ whole);
        whole = λ v c. more (read_only a now f m v c).1;
      }

  pub refuse : (e : CertError) → Fails (cert_part shape) (state_of bytes 1) e → IsRefusal shape bytes e
  refuse (error.Line n) h = stuck_wrong h.0 n h.1 h.2
  refuse error.NoMemory h = tt
