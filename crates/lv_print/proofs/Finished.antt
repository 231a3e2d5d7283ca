-- The text on a paper is the text of its tokens.
use Rattle.std.proofs.Common.{◌≡◌, ℕ, true, false, ◌&&◌, if◌then◌else◌, List, [], ◌∷◌, ◌++◌, refl, sym, ap, ◌∙◌, append_assoc, append-nil}
use Rattle.lv_ast.specs.declared.tokens.Kind.{Kind}
use Rattle.lv_ast.specs.declared.tokens.Kind.TheVariants as k
use Rattle.lv_print.specs.declared.last.Last.TheVariants as last
use Rattle.lv_print.specs.declared.paper.Paper.{Paper}
use Rattle.lv_print.specs.Written.{Written, is_kind, ends_line, between, ending, text_of}
use Rattle.lv_print.specs.Paper.{last_kind, last_of, gap, end_gap, put, with_tokens, empty}

kind-end : (j : Kind) → end_gap (last_kind j) ≡ (if is_kind j k.Escaped then 32 ∷ [] else [])
kind-end k.Name = refl
kind-end k.Escaped = refl
kind-end k.Word = refl
kind-end k.System = refl
kind-end k.Tick = refl
kind-end k.Number = refl
kind-end k.Based = refl
kind-end k.Mark = refl
kind-end k.Line = refl
kind-end k.Join = refl

behind-number : (j : Kind) → gap last.Number j ≡ (if is_kind j k.Based then [] else 32 ∷ [])
behind-number k.Name = refl
behind-number k.Escaped = refl
behind-number k.Word = refl
behind-number k.System = refl
behind-number k.Tick = refl
behind-number k.Number = refl
behind-number k.Based = refl
behind-number k.Mark = refl
behind-number k.Line = refl
behind-number k.Join = refl

kind-gap : (i j : Kind) → gap (last_kind i) j ≡ (if is_kind i k.Number && is_kind j k.Based then [] else 32 ∷ [])
kind-gap k.Name j = refl
kind-gap k.Escaped j = refl
kind-gap k.Word j = refl
kind-gap k.System j = refl
kind-gap k.Tick j = refl
kind-gap k.Number j = behind-number j
kind-gap k.Based j = refl
kind-gap k.Mark j = refl
kind-gap k.Line j = refl
kind-gap k.Join j = refl

ends : (w : Written) → end_gap (last_of w) ≡ ending w
ends w = elim (ends_line w) as (λ b. end_gap (if b then last.Line else last_kind w.kind) ≡ (if b then 10 ∷ [] else (if is_kind w.kind k.Escaped then 32 ∷ [] else []))) [
  | true ↦ refl
  | false
      ↦ kind-end w.kind
]

betweens : (w v : Written) → gap (last_of w) v.kind ≡ between w v
betweens w v =
    elim (ends_line w) as (λ b. gap (if b then last.Line else last_kind w.kind) v.kind ≡ (if b then 10 ∷ [] else (if is_kind w.kind k.Number && is_kind v.kind k.Based then [] else 32 ∷ []))) [
      | true ↦ refl
      | false ↦ kind-gap w.kind v.kind
    ]

abbrev whole : Paper → List ℕ
whole p = p.bytes ++ end_gap p.last

behind : (p : Paper) (w : Written) (ws : List Written) → whole (with_tokens p (w ∷ ws)) ≡ (p.bytes ++ gap p.last w.kind) ++ text_of (w ∷ ws)
unfolding with_tokens put text_of
behind p w [] = append_assoc (p.bytes ++ gap p.last w.kind) w.bytes (end_gap (last_of w)) ∙ ap (λ z. (p.bytes ++ gap p.last w.kind) ++ (w.bytes ++ z)) (ends w ∙ sym (append-nil (ending w)))
behind p w (v ∷ vs) =
    behind (put p w) v vs ∙ ap (λ z. (((p.bytes ++ gap p.last w.kind) ++ w.bytes) ++ z) ++ text_of (v ∷ vs)) (betweens w v) ∙
    append_assoc ((p.bytes ++ gap p.last w.kind) ++ w.bytes) (between w v) (text_of (v ∷ vs)) ∙ append_assoc (p.bytes ++ gap p.last w.kind) w.bytes (between w v ++ text_of (v ∷ vs))

pub whole_text : (ws : List Written) → (with_tokens empty ws).bytes ++ end_gap (with_tokens empty ws).last ≡ text_of ws
unfolding with_tokens text_of
whole_text [] = refl
whole_text (w ∷ ws) = behind empty w ws

pub finished : (ws : List Written) (p q : Paper) (t : List ℕ) → p ≡ empty → q ≡ with_tokens p ws → t ≡ q.bytes ++ end_gap q.last → t ≡ text_of ws
finished ws p q t e f g = g ∙ ap whole f ∙ ap (λ z. whole (with_tokens z ws)) e ∙ whole_text ws
