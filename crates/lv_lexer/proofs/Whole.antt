-- What is read of tokens that pass a test passes it.
use Rattle.std.proofs.Common.{◌≡◌, ℕ, zero, suc, Bool, true, false, not, ◌&&◌, ◌||◌, if◌then◌else◌, List, [], ◌∷◌, Option, Some, None, is_some, refl, sym, ap, ◌∙◌, subst, true≢false}
use Rattle.std.specs.List.{list_all}
use Rattle.std.specs.Str.{bytes_eq}
use Rattle.std.proofs.lemmas.List.Folds.{list_all-append}
use Rattle.std.proofs.lemmas.Option.{none-some}
use Rattle.lv_ast.specs.Folds.{Reading, Stop, Step, Macro, followed, nothing, stopped, one, once_used, in_order, expansion, expanded_body, body_of, without, line_of, rest, is_tick, is_line, is_join, word_of, Depth, UnknownMacro}
use Rattle.lv_ast.specs.Folds as folds
use Rattle.lv_ast.specs.declared.tokens.Token.{Token}
use Rattle.lv_lexer.proofs.Tables.{body-cons, body_without}

pub both : (a b : Bool) → (a && b) ≡ true → (a ≡ true) × (b ≡ true)
both true b h = (refl, h)
both false b h = absurd (true≢false (sym h))

module _ (p : Token → Bool) where
  abbrev Pass : List Token → Type 0
  Pass ts = list_all p ts ≡ true

  pass-parts : (t : List Token) (u : ℕ) (s : Option Stop) (b : Reading) → Pass t → Pass b.tokens → Pass (followed (record { tokens = t; uses = u; stop = s }) b).tokens
  unfolding followed
  pass-parts t u (Some s) b h k = h
  pass-parts t u None b h k = list_all-append p t b.tokens ∙ (ap (λ x. x && list_all p b.tokens) h ∙ k)

  pass-followed : (a b : Reading) → Pass a.tokens → Pass b.tokens → Pass (followed a b).tokens
  pass-followed a b h k = pass-parts a.tokens a.uses a.stop b h k

  pass-one : (t : Token) → p t ≡ true → Pass (t ∷ [])
  pass-one t h = ap (λ b. b && true) h

  pass-order : (f : Token → Reading) → ((t : Token) → p t ≡ true → Pass (f t).tokens) → (ts : List Token) → Pass ts → Pass (in_order f ts).tokens
  unfolding in_order
  pass-order f each [] h = refl
  pass-order f each (t ∷ ts) h = let parts : (p t ≡ true) × Pass ts = both _ _ h in pass-followed (f t) (in_order f ts) (each t parts.0) (pass-order f each ts parts.1)

  abbrev MacrosPass : List Macro → Type 0
  MacrosPass ms = (q : List ℕ) (b : List Token) → body_of ms q ≡ Some b → Pass b

  pass-body : (f : Token → Reading) → ((t : Token) → p t ≡ true → Pass (f t).tokens) → (t : Token) (b : Option (List Token)) → ((x : List Token) → b ≡ Some x → Pass x) → Pass (expanded_body f t b).tokens
  pass-body f each t None h = refl
  pass-body f each t (Some b) h = pass-order f each b (h b refl)

  pass-expansion : (text : List ℕ) (ms : List Macro) → MacrosPass ms → (n : ℕ) (t : Token) → p t ≡ true → Pass (expansion text ms n t).tokens
  unfolding expansion
  pass-expansion text ms m zero t h =
      elim (is_tick t.kind) as (λ b. Pass (if b then stopped (Depth t.start) else one t).tokens) [ true ↦ refl | false ↦ pass-one t h ]
  pass-expansion text ms m (suc n) t h =
      elim (is_tick t.kind) as (λ b. Pass (if b then expanded_body (expansion text ms n) t (body_of ms (word_of text t)) else one t).tokens) [
        | true ↦ pass-body (expansion text ms n) (pass-expansion text ms m n) t (body_of ms (word_of text t)) (m (word_of text t))
        | false ↦ pass-one t h
      ]

  pass-line : (ts : List Token) → Pass ts → Pass (line_of ts)
  unfolding line_of
  pass-line [] h = refl
  pass-line (t ∷ ts) h =
      let parts : (p t ≡ true) × Pass ts = both _ _ h in
      elim (is_line t.kind) as (λ b. Pass (if b then [] else (if is_join t.kind then line_of ts else t ∷ line_of ts))) [
        | true ↦ refl
        | false ↦ elim (is_join t.kind) as (λ b. Pass (if b then line_of ts else t ∷ line_of ts)) [ true ↦ pass-line ts parts.1 | false ↦ ap (λ b. b && list_all p (line_of ts)) parts.0 ∙ pass-line ts parts.1 ]
      ]

  pass-rest : (ts : List Token) → Pass ts → Pass (rest ts)
  pass-rest [] h = refl
  pass-rest (t ∷ ts) h = (both _ _ h).1

  some-list : (a b : List Token) → Some a ≡ Some b → a ≡ b
  some-list a b h = ap (λ o. elim o as (λ _. List Token) [ None ↦ [] | Some x ↦ x ]) h

  pass-define : (ms : List Macro) (name : List ℕ) (body : List Token) → MacrosPass ms → Pass body → MacrosPass (record { name = name; body = body } ∷ ms)
  pass-define ms name body m h q b e =
      elim (bytes_eq name q) as (λ t. (if t then Some body else body_of ms q) ≡ Some b → Pass b) [
        | true ↦ λ k. subst Pass (some-list body b k) h
        | false ↦ λ k. m q b k
      ] (sym (body-cons (record { name = name; body = body }) ms q) ∙ e)

  pass-undefine : (ms : List Macro) (name : List ℕ) → MacrosPass ms → MacrosPass (without ms name)
  pass-undefine ms name m q b e =
      elim (bytes_eq name q) as (λ t. (if t then None else body_of ms q) ≡ Some b → Pass b) [
        | true ↦ λ k. absurd (none-some b k)
        | false ↦ λ k. m q b k
      ] (sym (body_without ms name q) ∙ e)

  abbrev Good : Step → Type 0
  Good s = Pass s.reading.tokens × MacrosPass s.macros

  module _ (text : List ℕ) (ms : List Macro) (bs : List folds.Branch) (t : Token) (ts : List Token) (m : MacrosPass ms) (ht : p t ≡ true) (hs : Pass ts) where
    good-with-name : (f : List ℕ → Step) → ((name : List ℕ) → Good (f name)) → (o : Option (List ℕ)) → Good (folds.with_name text ms bs t ts f o)
    good-with-name f h None = (refl, m)
    good-with-name f h (Some name) = h name

    good-defined : (name : List ℕ) → Good (folds.defined text ms bs t ts name)
    good-defined name =
        elim (folds.can_define text name (line_of ts)) as (λ b. Good (if b then record { reading = nothing; macros = record { name = name; body = rest (line_of ts) } ∷ ms; branches = bs; taken = folds.line_count ts } else folds.refused text ms bs t ts (folds.Malformed t.start))) [
          | true ↦ (refl, pass-define ms name (rest (line_of ts)) m (pass-rest (line_of ts) (pass-line ts hs)))
          | false ↦ (refl, m)
        ]

    good-undefined : (name : List ℕ) → Good (folds.undefined text ms bs t ts name)
    good-undefined name = (refl, pass-undefine ms name m)

    good-begun : (wanted : Bool) (name : List ℕ) → Good (folds.begun text ms bs t ts wanted name)
    good-begun wanted name = (refl, m)

    good-elsif : (cs : List folds.Branch) (name : List ℕ) → Good (folds.elsif_step text ms bs t ts cs name)
    good-elsif [] name = (refl, m)
    good-elsif (c ∷ cs) name =
        elim c.last as (λ b. Good (if b then folds.refused text ms bs t ts (folds.Unbalanced t.start) else folds.passed text ms bs t ts (folds.name_count ts) (folds.elsif_branch (is_some (body_of ms name)) c ∷ cs))) [ true ↦ (refl, m) | false ↦ (refl, m) ]

    good-else : (cs : List folds.Branch) → Good (folds.else_step text ms bs t ts cs)
    good-else [] = (refl, m)
    good-else (c ∷ cs) =
        elim c.last as (λ b. Good (if b then folds.refused text ms bs t ts (folds.Unbalanced t.start) else folds.passed text ms bs t ts 0 (folds.else_branch c ∷ cs))) [ true ↦ (refl, m) | false ↦ (refl, m) ]

    good-endif : (cs : List folds.Branch) → Good (folds.endif_step text ms bs t ts cs)
    good-endif [] = (refl, m)
    good-endif (c ∷ cs) = (refl, m)

    good-if : (b : Bool) (s : Step) → Good s → Good (if b then s else folds.passed text ms bs t ts 0 bs)
    good-if true s h = h
    good-if false s h = (refl, m)

    good-tick : (d : folds.Directive) → Good (folds.tick_step text ms bs t ts d)
    good-tick folds.Define = good-if (folds.is_read bs) _ (good-with-name (folds.defined text ms bs t ts) good-defined (folds.line_name text ms bs t ts))
    good-tick folds.Undef = good-if (folds.is_read bs) _ (good-with-name (folds.undefined text ms bs t ts) good-undefined (folds.line_name text ms bs t ts))
    good-tick folds.Ifdef = good-with-name (folds.begun text ms bs t ts true) (good-begun true) (folds.line_name text ms bs t ts)
    good-tick folds.Ifndef = good-with-name (folds.begun text ms bs t ts false) (good-begun false) (folds.line_name text ms bs t ts)
    good-tick folds.Elsif = good-with-name (folds.elsif_step text ms bs t ts bs) (good-elsif bs) (folds.line_name text ms bs t ts)
    good-tick folds.Else = good-else bs
    good-tick folds.Endif = good-endif bs
    good-tick folds.Dropped = good-if (folds.is_read bs) (folds.passed text ms bs t ts (folds.line_count ts) bs) (refl, m)
    good-tick folds.Use = good-if (folds.is_read bs) (folds.gives text ms bs t ts (expansion text ms 64 t)) (pass-expansion text ms m 64 t ht, m)

    good-step : Good (folds.step_of text ms bs t ts)
    unfolding folds.step_of
    good-step =
        elim (is_tick t.kind) as (λ b. Good (if b then folds.tick_step text ms bs t ts (folds.directive_of (word_of text t)) else (if is_line t.kind || is_join t.kind || not (folds.is_read bs) then folds.passed text ms bs t ts 0 bs else folds.gives text ms bs t ts (one t)))) [
          | true ↦ good-tick (folds.directive_of (word_of text t))
          | false ↦
              elim (is_line t.kind || is_join t.kind || not (folds.is_read bs)) as (λ b. Good (if b then folds.passed text ms bs t ts 0 bs else folds.gives text ms bs t ts (one t))) [ true ↦ (refl, m) | false ↦ (pass-one t ht, m) ]
        ]

  pass-from : (text : List ℕ) (n : ℕ) (ms : List Macro) (bs : List folds.Branch) (ts : List Token) → MacrosPass ms → Pass ts → Pass (folds.reading_from text n ms bs ts).tokens
  unfolding folds.reading_from
  pass-from text n ms [] [] m h = refl
  pass-from text n ms (b ∷ bs) [] m h = refl
  pass-from text (suc n) ms bs (t ∷ ts) m h = pass-from text n ms bs ts m (both _ _ h).1
  pass-from text zero ms bs (t ∷ ts) m h =
      let parts : (p t ≡ true) × Pass ts = both _ _ h in
      let s : Step = folds.step_of text ms bs t ts in
      let good : Good s = good-step text ms bs t ts m parts.0 parts.1 in
      pass-followed s.reading (folds.reading_from text s.taken s.macros s.branches ts) good.0 (pass-from text s.taken s.macros s.branches ts good.1 parts.1)

  none-pass : MacrosPass []
  unfolding body_of
  none-pass q b h = absurd (none-some b h)

  pub reading_passes : (text : List ℕ) (ts : List Token) → Pass ts → Pass (folds.reading_of text ts).tokens
  unfolding folds.reading_of
  reading_passes text ts h = pass-from text 0 [] [] ts none-pass h
