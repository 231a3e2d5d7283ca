-- The parts of a certificate and its lines.
use Rattle.std.proofs.Common.{◌≡◌, ℕ, suc, ◌+◌, ◌-◌, ◌≤◌, Bool, true, false, List, [], ◌∷◌, ◌++◌, map, length, codes, decimal, refl, sym, ap, ◌∙◌, subst, append_assoc, arith}
use Rattle.std.proofs.lemmas.List.{append-nil}
use Rattle.lv_clauses.specs.Literals.{Lit}
use Rattle.lv_clauses.specs.Derivations.{Step}
use Rattle.lv_cert.specs.Words.{Word, word, spelled, marked, words_of, spell, text_of}
use Rattle.lv_cert.specs.Lines.{literal, keep_line, pair_lines, input_line, clause_line, step_line, step_lines}
use Rattle.lv_cert.specs.Grammar.{AreRising, AreWide, IsOver, AreOver, AreHints, AreSteps}
use Rattle.lv_cert.specs.Parts.{Part, turns_fit, turns_words, until_fit, until_words, over}
use Rattle.lv_cert.specs.Sections.{keep_part, above, same, pair_part, input_part, next_var, clause_part, hint_part, step_part, one_more, spaced, literal_words}
use Rattle.lv_cert.specs.Whole.{StepValue, step_of}
use Rattle.lv_cert.proofs.Texts.{marked-append, open_word, spell-append}

turns_cons : {A : Type 0} (p : ℕ → ℕ → Part A) (next : ℕ → A → ℕ) (n s : ℕ) (a : A) (xs : List A) → (p n s).fits a → turns_fit p next n (next s a) xs → turns_fit p next (suc n) s (a ∷ xs)
turns_cons {A} p next n s a xs f g =
    let e : n ≡ suc n - 1 = omega arith in
    let Q : ℕ → Type 0 = λ m. (p m s).fits a × turns_fit p next m (next s a) xs in
    let moved : Q (suc n - 1) = subst Q e (f, g) in
    (omega arith, moved.0, moved.1)

-- ---- the list

pub keeps_out : (count total low : ℕ) (ks : List ℕ) → total ≤ count → turns_fit (keep_part count) above total low ks →
    (length ks ≡ total) × AreRising low count ks × (turns_words (keep_part count) above total low ks ≡ words_of (map keep_line ks))
keeps_out count total low [] h f = (sym f, tt, refl)
keeps_out count total low (n ∷ ns) h f =
    let k = keeps_out count (total - 1) (n + 1) ns (omega arith) f.2 in
    (omega (arith, f.0, k.0), (f.1.0, omega (arith, f.0, f.1.1), k.1), ap (λ ws. word (codes "keep") false ∷ word (decimal n) true ∷ ws) k.2)

room : (count low : ℕ) (ks : List ℕ) → low ≤ count → AreRising low count ks → low + length ks ≤ count
room count low [] l h = omega arith
room count low (n ∷ ns) l h = let k : n + 1 + length ns ≤ count = room count (n + 1) ns (omega (arith, h.1)) h.2 in omega (arith, k, h.0)

pub keeps_in : (count low : ℕ) (ks : List ℕ) → AreRising low count ks → turns_fit (keep_part count) above (length ks) low ks
keeps_in count low [] h = refl
keeps_in count low (n ∷ ns) h =
    let k : n + 1 + length ns ≤ count = room count (n + 1) ns (omega (arith, h.1)) h.2 in
    turns_cons (keep_part count) above (length ns) low n ns (h.0, omega (arith, k)) (keeps_in count (n + 1) ns h.2)

pub keeps_few : (count : ℕ) (ks : List ℕ) → AreRising 0 count ks → length ks ≤ count
keeps_few count ks h = let k : 0 + length ks ≤ count = room count 0 ks (omega arith) h in omega (arith, k)

-- ---- states and inputs

pub pairs_out : (count : ℕ) (ps : List (ℕ × ℕ)) → turns_fit pair_part same count 0 ps →
    (length ps ≡ count) × AreWide (map (λ p. p.0) ps) × AreWide (map (λ p. p.1) ps) ×
    (turns_words pair_part same count 0 ps ≡ words_of (pair_lines (map (λ p. p.0) ps) (map (λ p. p.1) ps)))
pairs_out count [] f = (sym f, tt, tt, refl)
pairs_out count (p ∷ ps) f =
    let k = pairs_out (count - 1) ps f.2 in
    (omega (arith, f.0, k.0), (f.1.0, k.1), (f.1.1, k.2), ap (λ ws. word (codes "pair") false ∷ word (decimal p.0) false ∷ word (decimal p.1) true ∷ ws) k.3)

pub pairs_in : (ls rs : List ℕ) → length ls ≡ length rs → AreWide ls → AreWide rs →
    (ps : List (ℕ × ℕ)) × (map (λ p. p.0) ps ≡ ls) × (map (λ p. p.1) ps ≡ rs) × turns_fit pair_part same (length ls) 0 ps
pairs_in [] [] e f g = ([], refl, refl, refl)
pairs_in [] (r ∷ rs) e f g = absurd (omega arith)
pairs_in (l ∷ ls) [] e f g = absurd (omega arith)
pairs_in (l ∷ ls) (r ∷ rs) e f g =
    let k = pairs_in ls rs (omega arith) f.1 g.1 in
    ((l, r) ∷ k.0, ap (λ x. l ∷ x) k.1, ap (λ x. r ∷ x) k.2, turns_cons pair_part same (length ls) 0 (l, r) k.0 (f.0, g.0) k.3)

pub inputs_out : (count : ℕ) (vs : List ℕ) → turns_fit input_part same count 0 vs →
    (length vs ≡ count) × AreWide vs × (turns_words input_part same count 0 vs ≡ words_of (map input_line vs))
inputs_out count [] f = (sym f, tt, refl)
inputs_out count (v ∷ vs) f =
    let k = inputs_out (count - 1) vs f.2 in
    (omega (arith, f.0, k.0), (f.1, k.1), ap (λ ws. word (codes "input") false ∷ word (decimal v) true ∷ ws) k.2)

pub inputs_in : (vs : List ℕ) → AreWide vs → turns_fit input_part same (length vs) 0 vs
inputs_in [] h = refl
inputs_in (v ∷ vs) h = turns_cons input_part same (length vs) 0 v vs h.0 (inputs_in vs h.1)

-- ---- clauses

pub literals_out : (vars low : ℕ) (c : List Lit) → until_fit (λ s. over s vars) next_var low c → IsOver low vars c
literals_out vars low [] f = tt
literals_out vars low (l ∷ c) f = (f.0.0, f.0.1, literals_out vars l.var c f.1)

pub literals_in : (vars low : ℕ) (c : List Lit) → IsOver low vars c → until_fit (λ s. over s vars) next_var low c
literals_in vars low [] h = tt
literals_in vars low (l ∷ c) h = ((h.0, h.1), literals_in vars l.var c h.2)

pub literals_words : (vars low : ℕ) (last : Bool) (c : List Lit) → until_words (λ s. over s vars) next_var last low c ≡ literal_words c ++ word (codes "0") last ∷ []
literals_words vars low last [] = refl
literals_words vars low last (l ∷ c) = ap (λ ws. word (literal l) false ∷ ws) (literals_words vars l.var last c)

opened-literals : (c : List Lit) → map open_word (map literal c) ≡ literal_words c
opened-literals [] = refl
opened-literals (l ∷ c) = ap (λ ws. word (literal l) false ∷ ws) (opened-literals c)

opened-hints : (hs : List ℕ) → map open_word (map decimal hs) ≡ spaced hs
opened-hints [] = refl
opened-hints (h ∷ hs) = ap (λ ws. word (decimal h) false ∷ ws) (opened-hints hs)

pub clause_marked : (c : List Lit) → marked (clause_line c) ≡ literal_words c ++ word (codes "0") true ∷ []
clause_marked c = marked-append (map literal c) (codes "0") [] ∙ ap (λ ws. ws ++ word (codes "0") true ∷ []) (opened-literals c)

pub clause_text : (out : List ℕ) (c : List Lit) → out ++ spell (literal_words c ++ word (codes "0") true ∷ []) ≡ out ++ text_of (clause_line c ∷ [])
clause_text out c = ap (λ ws. out ++ spell ws) (sym (clause_marked c) ∙ sym (append-nil (marked (clause_line c))))

hints_marked : (hs : List ℕ) → marked (map decimal hs ++ codes "0" ∷ []) ≡ spaced hs ++ word (codes "0") true ∷ []
hints_marked hs = marked-append (map decimal hs) (codes "0") [] ∙ ap (λ ws. ws ++ word (codes "0") true ∷ []) (opened-hints hs)

pub clauses_out : (vars count : ℕ) (cs : List (List Lit)) → turns_fit (clause_part vars) same count 0 cs →
    (length cs ≡ count) × AreOver vars cs × (turns_words (clause_part vars) same count 0 cs ≡ words_of (map clause_line cs))
clauses_out vars count [] f = (sym f, tt, refl)
clauses_out vars count (c ∷ cs) f =
    let k = clauses_out vars (count - 1) cs f.2 in (
      omega (arith, f.0, k.0),
      (literals_out vars 0 c f.1, k.1),
      (λ i. (literals_words vars 0 true c ∙ sym (clause_marked c)) i ++ k.2 i),
    )

pub clauses_in : (vars : ℕ) (cs : List (List Lit)) → AreOver vars cs → turns_fit (clause_part vars) same (length cs) 0 cs
clauses_in vars [] h = refl
clauses_in vars (c ∷ cs) h = turns_cons (clause_part vars) same (length cs) 0 c cs (literals_in vars 0 c h.0) (clauses_in vars cs h.1)

-- ---- lines

hints_out : (id s : ℕ) (hs : List ℕ) → until_fit (hint_part id) same s hs → AreHints id hs
hints_out id s [] f = tt
hints_out id s (h ∷ hs) f = (f.0.0, omega (arith, f.0.0, f.0.1), hints_out id s hs f.1)

hints_in : (id s : ℕ) (hs : List ℕ) → AreHints id hs → until_fit (hint_part id) same s hs
hints_in id s [] h = tt
hints_in id s (n ∷ hs) h = ((h.0, omega (arith, h.1)), hints_in id s hs h.2)

hints_words : (id s : ℕ) (hs : List ℕ) → until_words (hint_part id) same true s hs ≡ spaced hs ++ word (codes "0") true ∷ []
hints_words id s [] = refl
hints_words id s (h ∷ hs) = ap (λ ws. word (decimal h) false ∷ ws) (hints_words id s hs)

-- the words of a line behind its number
abbrev pub words_behind : Step → List Word
words_behind s = (literal_words s.clause ++ word (codes "0") false ∷ []) ++ (spaced s.hints ++ word (codes "0") true ∷ [])

rest-marked : (c : List Lit) (hs : List ℕ) → marked (clause_line c ++ (map decimal hs ++ codes "0" ∷ [])) ≡ words_behind (record { clause = c; hints = hs })
rest-marked c hs = by hs (hints_marked hs)
  where
    zero-then : (v : List ℕ) (vs : List (List ℕ)) → marked (clause_line c ++ v ∷ vs) ≡ (literal_words c ++ word (codes "0") false ∷ []) ++ marked (v ∷ vs)
    zero-then v vs =
        ap marked (append_assoc (map literal c) (codes "0" ∷ []) (v ∷ vs)) ∙ marked-append (map literal c) (codes "0") (v ∷ vs) ∙
        ap (λ ws. ws ++ word (codes "0") false ∷ marked (v ∷ vs)) (opened-literals c) ∙
        sym (append_assoc (literal_words c) (word (codes "0") false ∷ []) (marked (v ∷ vs)))

    by : (ks : List ℕ) → marked (map decimal ks ++ codes "0" ∷ []) ≡ spaced ks ++ word (codes "0") true ∷ [] →
        marked (clause_line c ++ (map decimal ks ++ codes "0" ∷ [])) ≡ words_behind (record { clause = c; hints = ks })
    by [] e = zero-then (codes "0") []
    by (k ∷ ks) e = zero-then (decimal k) (map decimal ks ++ codes "0" ∷ []) ∙ ap (λ ws. (literal_words c ++ word (codes "0") false ∷ []) ++ ws) e

pub step_marked : (id : ℕ) (s : Step) → marked (step_line id s) ≡ word (decimal id) false ∷ words_behind s
step_marked id s = by s.clause s.hints (rest-marked s.clause s.hints)
  where
    by : (c : List Lit) (hs : List ℕ) → marked (clause_line c ++ (map decimal hs ++ codes "0" ∷ [])) ≡ words_behind (record { clause = c; hints = hs }) →
        marked (decimal id ∷ (clause_line c ++ (map decimal hs ++ codes "0" ∷ []))) ≡ word (decimal id) false ∷ words_behind (record { clause = c; hints = hs })
    by [] hs e = ap (λ ws. word (decimal id) false ∷ ws) e
    by (l ∷ c) hs e = ap (λ ws. word (decimal id) false ∷ ws) e

-- the text of a line, in three parts
pub step_text : (out : List ℕ) (id : ℕ) (s : Step) → out ++ spelled (word (decimal id) false) ++ spell (literal_words s.clause ++ word (codes "0") false ∷ []) ++ spell (spaced s.hints ++ word (codes "0") true ∷ []) ≡ out ++ text_of (step_line id s ∷ [])
step_text out id s =
    let a : List Word = literal_words s.clause ++ word (codes "0") false ∷ [] in
    let b : List Word = spaced s.hints ++ word (codes "0") true ∷ [] in
    append_assoc (out ++ spelled (word (decimal id) false)) (spell a) (spell b) ∙ append_assoc out (spelled (word (decimal id) false)) (spell a ++ spell b) ∙
    ap (λ t. out ++ (spelled (word (decimal id) false) ++ t)) (sym (spell-append a b)) ∙
    ap (λ ws. out ++ spell ws) (sym (step_marked id s) ∙ sym (append-nil (marked (step_line id s))))

pub steps_out : (vars count id : ℕ) (ss : List StepValue) → turns_fit (step_part vars) one_more count id ss →
    (length ss ≡ count) × AreSteps vars id (map step_of ss) × (turns_words (step_part vars) one_more count id ss ≡ words_of (step_lines id (map step_of ss)))
steps_out vars count id [] f = (sym f, tt, refl)
steps_out vars count id (s ∷ ss) f =
    let k = steps_out vars (count - 1) (id + 1) ss f.2 in
    let e : s.0 ≡ id = omega (arith, f.1.0.0, f.1.0.1) in
    let w : word (decimal s.0) false ∷ (until_words (λ v. over v vars) next_var false 0 s.1.0 ++ until_words (hint_part id) same true 0 s.1.1) ≡ marked (step_line id (step_of s)) =
    (λ i. word (decimal (e i)) false ∷ (literals_words vars 0 false s.1.0 i ++ hints_words id 0 s.1.1 i)) ∙ sym (step_marked id (step_of s)) in
    (omega (arith, f.0, k.0), (literals_out vars 0 s.1.0 f.1.1.0, hints_out id 0 s.1.1 f.1.1.1, k.1), (λ i. w i ++ k.2 i))

pub steps_in : (vars id : ℕ) (lines : List Step) → AreSteps vars id lines →
    (ss : List StepValue) × (map step_of ss ≡ lines) × turns_fit (step_part vars) one_more (length lines) id ss
steps_in vars id [] h = ([], refl, refl)
steps_in vars id (s ∷ lines) h =
    let k = steps_in vars (id + 1) lines h.2 in (
      (id, (s.clause, s.hints)) ∷ k.0,
      ap (λ x. s ∷ x) k.1,
      turns_cons (step_part vars) one_more (length lines) id (id, (s.clause, s.hints)) k.0
          ((omega arith, omega arith), (literals_in vars 0 s.clause h.0, hints_in id 0 s.hints h.1)) k.2,
    )
