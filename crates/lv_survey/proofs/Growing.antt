-- What an item adds to what the items before it come to.
use Rattle.std.proofs.Common.{◌≡◌, ℕ, ◌+◌, ◌-◌, ◌<◌, ◌≤◌, List, [], ◌∷◌, ◌++◌, map, length, refl, sym, ap, ◌∙◌, subst, arith}
use Rattle.std.proofs.lemmas.List.{map-append, length-map, length-append}
use Rattle.lv_ast.specs.declared.item.Item.{Item}
use Rattle.lv_ast.specs.declared.item.Source.{Source}
use Rattle.lv_source.specs.Scopes.{Scope, children_by}
use Rattle.lv_children.specs.declared.child.Child.{Child}
use Rattle.lv_children.specs.Children.{Seen, child_scope, all_seen}
use Rattle.lv_preorder.specs.Origins.{AllIn}
use Rattle.lv_sizes.specs.declared.size.Size.{Size}
use Rattle.lv_survey.specs.declared.below.Below.{Below}
use Rattle.lv_survey.specs.declared.found.Survey.{Survey}
use Rattle.lv_survey.specs.declared.error.SurveyError.{SurveyError}
use Rattle.lv_survey.specs.declared.error.SurveyError.TheVariants as e
use Rattle.lv_survey.specs.Surveys.{below_of, all_below, put_below, scope_in}
use Rattle.lv_survey.specs.Items.{IsSizeLeft, IsTooLarge, AreNoKids, AddsKids, AreKids, Puts, Grows, IsGrown, IsNotGrown}

-- ---- the scopes of an item alone

pub from_none : (source : Source) (s : Scope) (x : ℕ × Item) (old new : List Child) → old ≡ [] → AddsKids source s x old new → AreKids source s x new
from_none source s x old new none a = record {
  scopes = a.scopes ∙ ap (λ cs. map (child_scope s x.0) (all_seen cs) ++ children_by source s x) none;
  surveyed = a.surveyed;
}

-- ---- those below

all_in : (number k : ℕ) (xs : List Seen) → AllIn number (map (put_below number k) xs)
all_in number k [] = tt
all_in number k (x ∷ xs) = (refl, all_in number k xs)

put_scopes : (s : Scope) (number k : ℕ) (xs : List Seen) → map (scope_in s) (map (put_below number k) xs) ≡ map (child_scope s k) xs
put_scopes s number k [] = refl
put_scopes s number k (x ∷ xs) = ap (λ ys. child_scope s k x ∷ ys) (put_scopes s number k xs)

count_put : (number k : ℕ) (kids : List Child) → length (map (put_below number k) (all_seen kids)) ≡ length kids
count_put number k kids = length-map (all_seen kids) (put_below number k) ∙ length-map kids _

count_below : (bs : List Below) → length (all_below bs) ≡ length bs
count_below bs = length-map bs below_of

module _ (number k : ℕ) (kids : List Child) (z : Size) (old new : Survey) (p : Puts number k kids z old new) where
  count_new : length new.children.items ≡ length old.children.items + length kids
  count_new =
      sym (count_below new.children.items) ∙ (ap length p.children ∙
      (length-append (all_below old.children.items) (map (put_below number k) (all_seen kids)) ∙
      (ap (λ n. n + length (map (put_below number k) (all_seen kids))) (count_below old.children.items) ∙ ap (λ n. length old.children.items + n) (count_put number k kids))))

  count_ends : length new.ends.items ≡ length old.ends.items + 1
  count_ends = ap length p.ends ∙ length-append old.ends.items (length new.children.items ∷ [])

  pub grows : (room : ℕ) → length kids ≤ room - length old.children.items → z.turns ≤ old.turns → z.nodes ≤ old.nodes → Grows number room old new
  grows room few t n = record {
    more = map (put_below number k) (all_seen kids);
    children = p.children;
    inside = all_in number k (all_seen kids);
    few = λ h. omega (arith, count_new);
    ends = count_ends;
    turns_few = omega (arith, p.turns);
    nodes_few = omega (arith, p.nodes);
  }

  pub is_grown : (source : Source) (s : Scope) (item : Item) → IsSizeLeft s item old.turns old.nodes z → AreKids source s (k, item) kids →
      IsGrown source s (k, item) old new
  is_grown source s item l a = record {
    scopes =
        ap (map (scope_in s)) p.children ∙ (map-append (scope_in s) (all_below old.children.items) (map (put_below number k) (all_seen kids)) ∙
        ap (λ ys. map (scope_in s) (all_below old.children.items) ++ ys) (put_scopes s number k (all_seen kids) ∙ a.scopes));
    ends = p.ends;
    turns_left = omega (arith, p.turns, l.turns_left);
    nodes_left = omega (arith, p.nodes, l.nodes_left);
    surveyed = a.surveyed;
  }

-- ---- refused

module _ (source : Source) (s : Scope) (x : ℕ × Item) (old : Survey) (room : ℕ) where
  pub size_not_grown : (y : SurveyError) → IsTooLarge old.turns old.nodes source s x y → IsNotGrown room source s x old y
  size_not_grown (e.Fault a) h = h
  size_not_grown e.Instances h = absurd h
  size_not_grown e.Turns h = h
  size_not_grown e.Nodes h = h
  size_not_grown e.NoMemory h = tt

  over : (a b : ℕ) → room - a < b → room < a + b
  over a b h = omega arith

  pub kids_not_grown : (y : SurveyError) → AreNoKids (room - length old.children.items) source s x y → IsNotGrown room source s x old y
  kids_not_grown (e.Fault a) h = h
  kids_not_grown e.Instances h = over (length old.children.items) (length (children_by source s x)) h
  kids_not_grown e.Turns h = absurd h
  kids_not_grown e.Nodes h = absurd h
  kids_not_grown e.NoMemory h = tt

  pub memory_not_grown : (y : SurveyError) → y ≡ e.NoMemory → IsNotGrown room source s x old y
  memory_not_grown y h = subst (IsNotGrown room source s x old) (sym h) tt
