-- A state spells what was read.
use Rattle.std.proofs.Common.{◌≡◌, ℕ, ◌≤◌, List, [], ◌∷◌, ◌++◌, Some, None, Bool, true, false, cond, nat_lt, refl, ap, sym, subst, ◌∙◌, arith, append_assoc, IfSome, ◌&&◌}
use Rattle.std.proofs.lemmas.Bool.{ltb-true, ltb-false}
use Rattle.lv_exprs.specs.declared.symbol.Sign.{Sign}
use Rattle.lv_exprs.specs.declared.symbol.Divider.{Divider}
use Rattle.lv_exprs.specs.declared.symbol.Divider.TheVariants as d
use Rattle.lv_exprs.specs.declared.symbol.Symbol.{Symbol}
use Rattle.lv_exprs.specs.declared.symbol.Symbol.TheVariants as t
use Rattle.lv_exprs.specs.declared.symbol.Based.{Based}
use Rattle.lv_exprs.specs.Levels.{level, leads}
use Rattle.lv_exprs.specs.Forms.{Form, plain, based, sized, prefix, binary, choice, text, rank, is_step, is_free, Valid}
use Rattle.lv_exprs.specs.Machine.{Open, o_prefix, o_left, o_question, o_colon, o_paren, o_cast, o_brace, o_braces, o_repeat, o_repeats, o_index, o_part, State, want, have, casts, shut, dotted, alone, asks, stops, reduce, settle, pull, put_alone, want_shift, put_comma, put_divider, put_right_paren, put_right_brace, put_right_bracket, put_left_brace, put_based, have_shift, shift, step, before, texts, told, Nested, Sound}
use Rattle.lv_exprs.proofs.Unique.{level_le, asks_le}

-- the top stops a token of that pull
abbrev pub Loose : ℕ → State → Type 0
Loose q (have (g ∷ s) x) = stops q g ≡ true
Loose q _ = Unit {0}

-- the operand binds so tightly
abbrev pub Tight : ℕ → State → Type 0
Tight q (have s x) = q ≤ rank x
Tight q _ = Unit {0}

-- a state that is sound, spells these tokens, and is ready for a token of that pull
pub record Kept (p : Bool) (q : ℕ) (ts : List Symbol) (s : State) : Type 0 where
  pub sound : Sound p s
  pub spells : told s ≡ ts
  pub loose : Loose q s
  pub tight : Tight q s

moved : (p : Bool) (q : ℕ) (ts us : List Symbol) (s : State) → ts ≡ us → Kept p q ts s → Kept p q us s
moved p q ts us s e k = record { sound = k.sound; spells = k.spells ∙ e; loose = k.loose; tight = k.tight }

held : (b : Bool) (p : Bool) (q : ℕ) (ts : List Symbol) (s s' : State) → (b ≡ true → Kept p q ts s) → (b ≡ false → Kept p q ts s') → Kept p q ts (cond b s s')
held true p q ts s s' h h' = h refl
held false p q ts s s' h h' = h' refl

-- what is open and its operand spell once they are one form
shut_text : (g : Open) (s : List Open) (x y : Form) → before g ++ text x ≡ text y → texts s ++ text y ≡ texts (g ∷ s) ++ text x
shut_text g s x y e = sym (append_assoc (texts s) (before g) (text x) ∙ ap (λ u. texts s ++ u) e)

pub kept : (p : Bool) (q : ℕ) (s : List Open) (x : Form) → Nested p s → Valid p x → asks s ≤ rank x → q ≤ rank x → Kept p q (texts s ++ text x) (reduce q s x)
kept p q [] x n v h w = record { sound = (n, v, h); spells = refl; loose = tt; tight = w }
kept p q (o_prefix o ∷ s) x n v h w =
    held (nat_lt 12 q) p q _ _ _ (λ e. record { sound = (n, v, h); spells = refl; loose = e; tight = w })
    (λ e. moved p q _ _ _ (shut_text (o_prefix o) s x (prefix o x) refl) (kept p q s (prefix o x) n.1 (v, h, n.0.1) n.0.0 (ltb-false 12 q e)))
kept p q (o_left o y ∷ s) x n v h w =
    held (nat_lt (level o) q) p q _ _ _ (λ e. record { sound = (n, v, h); spells = refl; loose = e; tight = w })
    (λ e. moved p q _ _ _ (shut_text (o_left o y) s x (binary o y x) (append_assoc (text y) (t.Sign o ∷ []) (text x)))
    (kept p q s (binary o y x) n.1 (n.0.0, v, n.0.1, h, n.0.3) n.0.2 (ltb-false (level o) q e)))
kept p q (o_colon c a ∷ s) x n v h w =
    held (nat_lt 1 q) p q _ _ _ (λ e. record { sound = (n, v, h); spells = refl; loose = e; tight = w })
    (λ e. moved p q _ _ _ (shut_text (o_colon c a) s x (choice c a x) (append_assoc (text c) (t.Question ∷ (text a ++ (t.Divider d.Colon ∷ []))) (text x)
    ∙ ap (λ u. text c ++ (t.Question ∷ u)) (append_assoc (text a) (t.Divider d.Colon ∷ []) (text x))))
    (kept p q s (choice c a x) n.1 (n.0.0, n.0.2, v, n.0.1, n.0.3, h) n.0.4 (ltb-false 1 q e)))
kept p q (_ ∷ s) x n v h w = record { sound = (n, v, h); spells = refl; loose = refl; tight = w }

-- a state that stands after a token: sound, spelling these tokens, its operand a primary
pub record Spells (p : Bool) (ts : List Symbol) (s : State) : Type 0 where
  pub sound : Sound p s
  pub spells : told s ≡ ts
  pub fresh : Tight 13 s

pull_sign_le : (b : Bool) (n : ℕ) → n ≤ 11 → cond b 1 n ≤ 13
pull_sign_le true n h = omega arith
pull_sign_le false n h = omega arith

pub pull_le : (k : Symbol) → pull k ≤ 13
pull_le (t.Sign s) = pull_sign_le (nat_lt (level s) 2) (level s) (level_le s)
pull_le t.Question = omega arith
pull_le t.LeftBracket = omega arith
pull_le t.Dot = omega arith
pull_le (t.Based b) = omega arith
pull_le _ = omega arith

pub settled : (p : Bool) (q : ℕ) (s : State) → q ≤ 13 → Sound p s → Tight 13 s → Kept p q (told s) (settle q s)
settled p q (want s) h n f = record { sound = n; spells = refl; loose = tt; tight = tt }
settled p q (casts s b) h n f = record { sound = n; spells = refl; loose = tt; tight = tt }
settled p q (shut s c x) h n f = record { sound = n; spells = refl; loose = tt; tight = tt }
settled p q (dotted s x) h n f = record { sound = n; spells = refl; loose = tt; tight = tt }
settled p q (alone x) h n f = record { sound = n; spells = refl; loose = tt; tight = tt }
settled p q (have s x) h n f = kept p q s x n.0 n.1 n.2 (omega arith)

asks_infix : (q : ℕ) (s : List Open) (x : Form) → 2 ≤ q → q ≤ 12 → Loose q (have s x) → asks s ≤ q
asks_infix q [] x h b l = omega arith
asks_infix q (o_prefix o ∷ s) x h b l = omega (arith, ltb-true 12 q l)
asks_infix q (o_left o y ∷ s) x h b l = omega (arith, ltb-true (level o) q l)
asks_infix q (_ ∷ s) x h b l = omega arith

asks_question : (p : Bool) (s : List Open) (x : Form) → Nested p s → Loose 2 (have s x) → asks s ≤ 1
asks_question p [] x n l = omega arith
asks_question p (o_prefix o ∷ s) x n l = absurd (omega (arith, ltb-true 12 2 l))
asks_question p (o_left o y ∷ s) x n l = absurd (omega (arith, ltb-true (level o) 2 l, n.0.3))
asks_question p (_ ∷ s) x n l = omega arith

led : (b : Bool) (p : Bool) (s : List Open) (o : Sign) → leads o ≡ b → Nested p s → IfSome (cond b (Some (want (o_prefix o ∷ s))) None) (λ s'. Spells p (texts s ++ (t.Sign o ∷ [])) s')
led true p s o e n = record { sound = ((asks_le s, e), n); spells = refl; fresh = tt }
led false p s o e n = tt

-- a literal that is put, free or not
literal_put : (b : Bool) (p : Bool) (s : List Open) (x : Form) (ts : List Symbol) → is_free x ≡ b → (b ≡ false → Spells p ts (have s x)) → (s ≡ [] → text x ≡ ts) →
    IfSome (cond b (put_alone s x) (Some (have s x))) (λ s'. Spells p ts s')
literal_put true p [] x ts e h w = record { sound = e; spells = w refl; fresh = tt }
literal_put true p (g ∷ s) x ts e h w = tt
literal_put false p s x ts e h w = h refl

want_shifted : (p : Bool) (s : List Open) (k : Symbol) → Nested p s → IfSome (want_shift s k) (λ s'. Spells p (texts s ++ (k ∷ [])) s')
want_shifted p s (t.Name m) n = record { sound = (n, tt, omega (arith, asks_le s)); spells = refl; fresh = omega arith }
want_shifted p s (t.Number m) n = record { sound = (n, tt, omega (arith, asks_le s)); spells = refl; fresh = omega arith }
want_shifted p s (t.Based b) n =
    literal_put (is_free (based b)) p s (based b) (texts s ++ (t.Based b ∷ [])) refl
    (λ e. record { sound = (n, e, omega (arith, asks_le s)); spells = refl; fresh = omega arith }) (λ e. ap (λ v. texts v ++ (t.Based b ∷ [])) (sym e))
want_shifted p s (t.Cast b) n = record { sound = n; spells = refl; fresh = tt }
want_shifted p s (t.Sign o) n = led (leads o) p s o refl n
want_shifted p s t.LeftParen n = record { sound = (tt, n); spells = refl; fresh = tt }
want_shifted p s t.LeftBrace n = record { sound = (tt, n); spells = refl; fresh = tt }
want_shifted p s _ n = tt

comma_put : (p : Bool) (s : List Open) (x : Form) → Sound p (have s x) → IfSome (put_comma s x) (λ s'. Spells p ((texts s ++ text x) ++ (t.Comma ∷ [])) s')
comma_put p (o_brace ∷ s) x n = record { sound = (n.1, n.0.1); spells = simp append_assoc; fresh = tt }
comma_put p (o_braces y ∷ s) x n = record { sound = ((n.0.0, n.1, n.2), n.0.1); spells = simp append_assoc; fresh = tt }
comma_put p (o_repeat c ∷ s) x n = record { sound = ((n.0.0.0, n.0.0.1, n.1), n.0.1); spells = simp append_assoc; fresh = tt }
comma_put p (o_repeats c y ∷ s) x n = record { sound = ((n.0.0.0, n.0.0.1, (n.0.0.2, n.1, n.2)), n.0.1); spells = simp append_assoc; fresh = tt }
comma_put p [] x n = tt
comma_put p (_ ∷ s) x n = tt

divider_put : (p : Bool) (r : Divider) (s : List Open) (x : Form) → Sound p (have s x) → IfSome (put_divider r s x) (λ s'. Spells p ((texts s ++ text x) ++ (t.Divider r ∷ [])) s')
divider_put p r (o_index y ∷ s) x n = record { sound = ((n.0.0.0, n.0.0.1, n.1, n.2), n.0.1); spells = simp append_assoc; fresh = tt }
divider_put p d.Colon (o_question c ∷ s) x n = record { sound = ((n.0.0.0, n.0.0.1, n.1, n.2, n.0.0.2), n.0.1); spells = simp append_assoc; fresh = tt }
divider_put p _ [] x n = tt
divider_put p _ (_ ∷ s) x n = tt

right_paren_put : (p : Bool) (s : List Open) (x : Form) → Sound p (have s x) → IfSome (put_right_paren s x) (λ s'. Spells p ((texts s ++ text x) ++ (t.RightParen ∷ [])) s')
right_paren_put p (o_paren ∷ s) x n = record { sound = (n.0.1, (n.1, n.2), omega (arith, asks_le s)); spells = simp append_assoc; fresh = omega arith }
right_paren_put p (o_cast b ∷ s) x n = record { sound = (n.0.1, (n.1, n.2), omega (arith, asks_le s)); spells = simp append_assoc; fresh = omega arith }
right_paren_put p [] x n = tt
right_paren_put p (_ ∷ s) x n = tt

right_brace_put : (p : Bool) (s : List Open) (x : Form) → Sound p (have s x) → IfSome (put_right_brace s x) (λ s'. Spells p ((texts s ++ text x) ++ (t.RightBrace ∷ [])) s')
right_brace_put p (o_brace ∷ s) x n = record { sound = (n.0.1, n.1, omega (arith, asks_le s)); spells = simp append_assoc; fresh = omega arith }
right_brace_put p (o_braces y ∷ s) x n = record { sound = (n.0.1, (n.0.0, n.1, n.2), omega (arith, asks_le s)); spells = simp append_assoc; fresh = omega arith }
right_brace_put p (o_repeat c ∷ s) x n = record { sound = (n.0.1, n.0.0.0, n.0.0.1, n.1); spells = simp append_assoc; fresh = tt }
right_brace_put p (o_repeats c y ∷ s) x n = record { sound = (n.0.1, n.0.0.0, n.0.0.1, (n.0.0.2, n.1, n.2)); spells = simp append_assoc; fresh = tt }
right_brace_put p [] x n = tt
right_brace_put p (_ ∷ s) x n = tt

right_bracket_put : (p : Bool) (s : List Open) (x : Form) → Sound p (have s x) → IfSome (put_right_bracket s x) (λ s'. Spells p ((texts s ++ text x) ++ (t.RightBracket ∷ [])) s')
right_bracket_put p (o_index y ∷ s) x n = record { sound = (n.0.1, (n.0.0.0, n.0.0.1, n.1, n.2), omega (arith, asks_le s)); spells = simp append_assoc; fresh = omega arith }
right_bracket_put p (o_part r y z ∷ s) x n = record { sound = (n.0.1, (n.0.0.0, n.0.0.1, n.0.0.2, n.0.0.3, n.1, n.2), omega (arith, asks_le s)); spells = simp append_assoc; fresh = omega arith }
right_bracket_put p [] x n = tt
right_bracket_put p (_ ∷ s) x n = tt

left_brace_put : (p : Bool) (s : List Open) (x : Form) → Sound p (have s x) → 1 ≤ rank x → IfSome (put_left_brace s x) (λ s'. Spells p ((texts s ++ text x) ++ (t.LeftBrace ∷ [])) s')
left_brace_put p (o_brace ∷ s) x n w = record { sound = ((n.1, w), n.0.1); spells = simp append_assoc; fresh = tt }
left_brace_put p [] x n w = tt
left_brace_put p (_ ∷ s) x n w = tt

sign_put : (b : Bool) (p : Bool) (s : List Open) (x : Form) (o : Sign) → nat_lt (level o) 2 ≡ b → Sound p (have s x) → Loose (cond b 1 (level o)) (have s x) → cond b 1 (level o) ≤ rank x →
    IfSome (cond b None (Some (want (o_left o x ∷ s)))) (λ s'. Spells p ((texts s ++ text x) ++ (t.Sign o ∷ [])) s')
sign_put true p s x o e n l w = tt
sign_put false p s x o e n l w =
    let h : 2 ≤ level o = ltb-false (level o) 2 e in
    record { sound = ((n.1, w, asks_infix (level o) s x h (omega (arith, level_le o)) l, h), n.0); spells = sym (append_assoc (texts s) (text x) (t.Sign o ∷ [])); fresh = tt }

bracket_put : (b : Bool) (p : Bool) (s : List Open) (x : Form) → nat_lt (rank x) 14 ≡ b → Sound p (have s x) →
    IfSome (cond b None (Some (want (o_index x ∷ s)))) (λ s'. Spells p ((texts s ++ text x) ++ (t.LeftBracket ∷ [])) s')
bracket_put true p s x e n = tt
bracket_put false p s x e n = record { sound = ((n.1, ltb-false (rank x) 14 e), n.0); spells = sym (append_assoc (texts s) (text x) (t.LeftBracket ∷ [])); fresh = tt }

dot_put : (p b : Bool) (s : List Open) (x : Form) → is_step x ≡ b → Sound p (have s x) →
    IfSome (cond (p && b) (Some (dotted s x)) None) (λ s'. Spells p ((texts s ++ text x) ++ (t.Dot ∷ [])) s')
dot_put true true s x e n = record { sound = (n.0, n.1, e, refl); spells = sym (append_assoc (texts s) (text x) (t.Dot ∷ [])); fresh = tt }
dot_put true false s x e n = tt
dot_put false b s x e n = tt

based_put : (p : Bool) (b : Based) (s : List Open) (x : Form) → Sound p (have s x) → IfSome (put_based b s x) (λ s'. Spells p ((texts s ++ text x) ++ (t.Based b ∷ [])) s')
based_put p b s (plain m) n =
    literal_put (is_free (sized m b)) p s (sized m b) ((texts s ++ text (plain m)) ++ (t.Based b ∷ [])) refl
    (λ e. record { sound = (n.0, e, omega (arith, asks_le s)); spells = simp append_assoc; fresh = omega arith }) (λ e. ap (λ v. (texts v ++ (t.Number m ∷ [])) ++ (t.Based b ∷ [])) (sym e))
based_put p b s _ n = tt

have_shifted : (p : Bool) (s : List Open) (x : Form) (k : Symbol) → Sound p (have s x) → Loose (pull k) (have s x) → pull k ≤ rank x →
    IfSome (have_shift p s x k) (λ s'. Spells p ((texts s ++ text x) ++ (k ∷ [])) s')
have_shifted p s x (t.Sign o) n l w = sign_put (nat_lt (level o) 2) p s x o refl n l w
have_shifted p s x t.Question n l w = record { sound = ((n.1, w, asks_question p s x n.0 l), n.0); spells = sym (append_assoc (texts s) (text x) (t.Question ∷ [])); fresh = tt }
have_shifted p s x (t.Divider r) n l w = divider_put p r s x n
have_shifted p s x t.Comma n l w = comma_put p s x n
have_shifted p s x t.RightParen n l w = right_paren_put p s x n
have_shifted p s x t.RightBrace n l w = right_brace_put p s x n
have_shifted p s x t.RightBracket n l w = right_bracket_put p s x n
have_shifted p s x t.LeftBrace n l w = left_brace_put p s x n w
have_shifted p s x t.LeftBracket n l w = bracket_put (nat_lt (rank x) 14) p s x refl n
have_shifted p s x t.Dot n l w = dot_put p (is_step x) s x refl n
have_shifted p s x (t.Based b) n l w = based_put p b s x n
have_shifted p s x _ n l w = tt

pub shifted : (p : Bool) (m : State) (k : Symbol) → Sound p m → Loose (pull k) m → Tight (pull k) m → IfSome (shift p m k) (λ s'. Spells p (told m ++ (k ∷ [])) s')
shifted p (want s) k n l w = want_shifted p s k n
shifted p (have s x) k n l w = have_shifted p s x k n l w
shifted p (casts s b) t.LeftParen n l w = record { sound = (tt, n); spells = simp append_assoc; fresh = tt }
shifted p (casts s b) _ n l w = tt
shifted p (shut s c x) t.RightBrace n l w = record { sound = (n.0, (n.1, n.2, n.3), omega (arith, asks_le s)); spells = simp append_assoc; fresh = omega arith }
shifted p (shut s c x) _ n l w = tt
shifted p (dotted s x) (t.Name m) n l w = record { sound = (n.0, (n.1, n.2, n.3), omega (arith, asks_le s)); spells = simp append_assoc; fresh = omega arith }
shifted p (dotted s x) _ n l w = tt
shifted p (alone x) k n l w = tt

-- a step keeps it
pub stepped : (p : Bool) (s : State) (k : Symbol) (ts : List Symbol) → Spells p ts s → IfSome (step p s k) (λ s'. Spells p (ts ++ (k ∷ [])) s')
stepped p s k ts h =
    let m : Kept p (pull k) (told s) (settle (pull k) s) = settled p (pull k) s (pull_le k) h.sound h.fresh in
    subst (λ (us : List Symbol). IfSome (step p s k) (λ s'. Spells p (us ++ (k ∷ [])) s')) (m.spells ∙ h.spells) (shifted p (settle (pull k) s) k m.sound m.loose m.tight)
