-- Names of clocks.
use Rattle.std.proofs.Common.{◌≡◌, ℕ, ◌+◌, ◌<◌, Bool, true, false, ◌&&◌, if◌then◌else◌, List, [], ◌∷◌, ◌++◌, ap, ◌∙◌, sym, refl, map, flat_map, length, get_or, take, Option, Some, None}
use Rattle.std.specs.Borrow.{Bor}
use Rattle.std.proofs.lemmas.List.{append-nil}
use Rattle.lv_ast.specs.Names.{Name}
use Rattle.lv_ast.specs.declared.stmt.Ident.{Ident}
use Rattle.std.specs.Prelude.{◌↔◌, IsTrue, slice_get}
use Rattle.lv_ast.specs.declared.expr.Path.{Path}
use Rattle.lv_ast.specs.declared.expr.Select.{Select}
use Rattle.lv_ast.specs.declared.expr.Expr.{Expr}
use Rattle.lv_ast.specs.declared.expr.Expr.TheVariants as e
use Rattle.lv_ast.specs.declared.expr.Expr.TheOpen.{Expr-F}
use Rattle.lv_ast.specs.declared.expr.Expr.{roll-Expr}
use Rattle.lv_ast.specs.declared.expr.Expr.TheVariants.{rolls-Name, rolls-Lit, rolls-Un, rolls-Bin, rolls-Div, rolls-Rem, rolls-Cond, rolls-Cat, rolls-Rep, rolls-Cast}
use Rattle.lv_ast.specs.declared.expr.Expr.TheBlock.{shape-the_row-Select-0, hidden-the_row-Select-0, shown-the_row-Select-0, shape-the_row-Expr-1, hidden-the_row-Expr-1}
use Rattle.lv_source.specs.Names.{Names, Here, Sort, Input, Net, Variable, Clock, Constant, Index, Other, known, is_clock_sort}
use Rattle.lv_source.specs.Meaning.{is_nil}
use Rattle.lv_source.specs.Parts.{is_declared_sort}
use Rattle.lv_source.specs.Scopes.{Link, is_clock, is_no_select, clock_by}
use Rattle.lv_source.proofs.Bridges.{map-join}
use Rattle.lv_links.specs.declared.linked.Linked.{Linked}
use Rattle.lv_links.specs.Linking.{link_of, all_links}
use Rattle.lv_links.proofs.Lists.{taken, snoc}
use Rattle.lv_sinks.specs.Clocks.{AreClockPorts}
use Rattle.lv_const.specs.declared.consts.Entry.{Entry}
use Rattle.lv_flat.specs.declared.signal.Signal.{Signal}
use Rattle.lv_flat.specs.Signals.{declared_all, sort_of}
use Rattle.lv_resolve.specs.Places.{AreNames}
use Rattle.lv_resolve.proofs.SelectArms.{no-signal, the-signal}

no-clock : (z : Sort) → is_declared_sort z ≡ false → false ≡ is_clock_sort z
no-clock Input h = refl
no-clock Net h = refl
no-clock Variable h = refl
no-clock Clock h = cc
no-clock (Constant n) h = refl
no-clock (Index g) h = refl
no-clock Other h = refl

module _ (ss : List Signal) (find : Path → Option ℕ) (all early : List Entry) (here : Here) (ok : AreNames (declared_all ss) find all early here) (path : Path) where
  pub clock-absent : None ≡ find path → false ≡ is_clock_sort (known (here.names path)).sort
  clock-absent f = no-clock (known (here.names path)).sort (ok.absent path (sym f))

  pub clock-no_number : (k : ℕ) (b : Bool) → Some k ≡ find path → None ≡ slice_get ss k → b ≡ is_clock_sort (known (here.names path)).sort
  clock-no_number k b f h = absurd (no-signal ss k h (ok.declared path k (sym f)))

  pub clock-signal : (k : ℕ) (s : Signal) → Some k ≡ find path → Some s ≡ slice_get ss k → is_clock_sort (sort_of s.sort) ≡ is_clock_sort (known (here.names path)).sort
  clock-signal k s f h =
      ap (λ d. is_clock_sort d.sort) (sym (the-signal ss k s h)) ∙ ap (λ o. is_clock_sort (known o).sort) (sym (ok.found path k (sym f)))

-- ---- the form of the tree

no-select : (ss : List Select) → is_no_select (hidden-the_row-Select-0 ss) ≡ is_nil ss
unfolding shape-the_row-Select-0 hidden-the_row-Select-0 shown-the_row-Select-0 denote.Hole.Carrier.hidden denote.Hole.Carrier.roll
no-select [] = refl
no-select (z ∷ ss) = refl

abbrev pub layer_clock : Names → Expr-F Expr Select → Bool
layer_clock names (Expr-F.Name path ss) = is_nil ss && is_clock_sort (known (names path)).sort
layer_clock names _ = false

clock-roll : (names : Names) (x : Expr-F Expr Select) → is_clock names (roll-Expr x) ≡ layer_clock names x
unfolding roll-Expr shape-the_row-Select-0 hidden-the_row-Select-0 shown-the_row-Select-0 shape-the_row-Expr-1 hidden-the_row-Expr-1 denote.Hole.Carrier.hidden denote.Hole.Carrier.roll
clock-roll names (Expr-F.Lit l) = refl
clock-roll names (Expr-F.Name path ss) = ap (λ b. b && is_clock_sort (known (names path)).sort) (no-select ss)
clock-roll names (Expr-F.Un op a) = refl
clock-roll names (Expr-F.Bin op a b) = refl
clock-roll names (Expr-F.Div a b) = refl
clock-roll names (Expr-F.Rem a b) = refl
clock-roll names (Expr-F.Cond c a b) = refl
clock-roll names (Expr-F.Cat es) = refl
clock-roll names (Expr-F.Rep n es) = refl
clock-roll names (Expr-F.Cast signed a) = refl

pub clock-Name : (names : Names) (z : Expr) (path : Path) (ss : List Select) → z ≡ e.Name path ss → (is_nil ss && is_clock_sort (known (names path)).sort) ≡ is_clock names z
clock-Name names z path ss h = sym (ap (is_clock names) (h ∙ sym (rolls-Name path ss)) ∙ clock-roll names (Expr-F.Name path ss))

-- ---- ports

abbrev clock_of : Names → Name → Option Expr → List Name
clock_of names port o = elim o [ None ↦ [] | Some x ↦ if is_clock names x then port ∷ [] else [] ]

pub clock-by-none : (names : Names) (l : Link) → l.conn.value ≡ None → clock_by names l ≡ []
clock-by-none names l v = ap (clock_of names l.port) v

pub clock-by-some : (names : Names) (l : Link) (x : Expr) → l.conn.value ≡ Some x → clock_by names l ≡ (if is_clock names x then l.port ∷ [] else [])
clock-by-some names l x v = ap (clock_of names l.port) v

-- one more port, if its expression is a clock
module _ (names : Names) (links : List Linked) (i : ℕ) (l : Linked) (h : i < length links) (e : l ≡ get_or links i l) where
  pub ports-same : (ports : List (Bor Ident)) → clock_by names (link_of l) ≡ [] → AreClockPorts names (all_links (take i links)) ports →
      AreClockPorts names (all_links (take (i + 1) links)) ports
  ports-same ports n k = record {
    are = k.are ∙ sym (ap (λ ls. flat_map (clock_by names) (all_links ls)) (taken links i l h e) ∙
        (ap (flat_map (clock_by names)) (map-join link_of (take i links) (l ∷ [])) ∙
        (snoc (clock_by names) (all_links (take i links)) (link_of l) ∙
        (ap (λ ns. flat_map (clock_by names) (all_links (take i links)) ++ ns) n ∙ append-nil _))));
  }

  pub ports-more : (ports new : List (Bor Ident)) → clock_by names (link_of l) ≡ l.port.now.name ∷ [] → new ≡ ports ++ l.port ∷ [] →
      AreClockPorts names (all_links (take i links)) ports → AreClockPorts names (all_links (take (i + 1) links)) new
  ports-more ports new n m k = record {
    are = ap (map (λ p. p.now.name)) m ∙ (map-join (λ p. p.now.name) ports (l.port ∷ []) ∙ (ap (λ ns. ns ++ l.port.now.name ∷ []) k.are ∙
        sym (ap (λ ls. flat_map (clock_by names) (all_links ls)) (taken links i l h e) ∙
        (ap (flat_map (clock_by names)) (map-join link_of (take i links) (l ∷ [])) ∙
        (snoc (clock_by names) (all_links (take i links)) (link_of l) ∙
        ap (λ ns. flat_map (clock_by names) (all_links (take i links)) ++ ns) n)))));
  }

pub empty-is : (ss : List Select) (b : Bool) → (IsTrue b ↔ (ss ≡ [])) → b ≡ is_nil ss
empty-is [] true h = refl
empty-is [] false h = absurd (let k : IsTrue false = h.1 refl in cc)
empty-is (z ∷ ss) true h = absurd (let e : z ∷ ss ≡ [] = h.0 refl in cc)
empty-is (z ∷ ss) false h = refl
