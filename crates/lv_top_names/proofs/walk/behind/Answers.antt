use Rattle.std.proofs.Common.{◌≡◌, ℕ, ◌+◌, true, false, List, length, take, drop, Option, Some, None, Bor}
use Rattle.std.specs.Prelude.{bytes_eq}
use Rattle.std.specs.Option.{option_map, MatchOption}
use Rattle.lv_top_names.specs.Walking.{behind}
use Rattle.lv_top_names.proofs.Pieces.{stripped, not-stripped}
use Rattle.lv_top_names.proofs.walk.behind.Goals as goal

answer : (o : Option (Bor (List ℕ))) (p t : List ℕ) →
    MatchOption o (bytes_eq (take (length p) t) p ≡ false) (λ x. (bytes_eq (take (length p) t) p ≡ true) × (x.now ≡ drop (length p) t) × (length x.now + length p ≡ length t)) →
    option_map (λ (x : Bor (List ℕ)). x.now) o ≡ behind p t
answer None p t h = not-stripped p t h
answer (Some x) p t h = stripped p t x.now h.0 h.1

pub returns : goal.returns
returns c = answer c.strip_prefix.result c.args.piece.now c.args.text.now c.strip_prefix.ensures.cases
