-- Which rules have trees within the limits.
use Rattle.std.proofs.Common.{◌≡◌, ℕ, suc, ◌-◌, ◌<◌, List, Bool, true, false, refl, ◌∙◌, ap, arith}
use Rattle.lv_grammars.specs.Spelling.{Limit, most, allows}
use Rattle.lv_grammars.proofs.Lists.{true_false}
use Rattle.lv_grammar.specs.Shapes.{Rule}
use Rattle.lv_grammar.specs.Shapes as shapes
use Rattle.lv_grammar.proofs.Settings.{Rooms, room}

abbrev pub is_target : Rule → Bool
is_target shapes.target = true
is_target _ = false

abbrev pub is_inner : Rule → Bool
is_inner shapes.target = true
is_inner shapes.stmt = true
is_inner _ = false

abbrev pub no_rule : Rule → Bool
no_rule r = false

pub none : {text : List ℕ} {d : ℕ → Limit} → Rooms text d no_rule
none r e = true_false false e refl

allowed : {l : Limit} (n : ℕ) → l ≡ most n → 0 < n → allows l ≡ true
allowed n e h = let q : n ≡ suc (n - 1) = omega arith in ap allows (e ∙ ap most q)

pub target_rooms : {text : List ℕ} {d : ℕ → Limit} {n : ℕ} → d 0 ≡ most n → 0 < n → Rooms text d is_target
target_rooms {text} {d} {n} e h shapes.target z = room text d shapes.target (allowed n e h)
target_rooms {text} {d} {n} e h _ z = true_false false z refl

pub stmt_rooms : {text : List ℕ} {d : ℕ → Limit} {n : ℕ} → d 0 ≡ most 200 → d 1 ≡ most n → 0 < n → Rooms text d is_inner
stmt_rooms {text} {d} {n} f e h shapes.target z = room text d shapes.target (allowed 200 f (omega arith))
stmt_rooms {text} {d} {n} f e h shapes.stmt z = room text d shapes.stmt (allowed n e h)
stmt_rooms {text} {d} {n} f e h _ z = true_false false z refl
