-- The clock names that stand in the expressions and targets of scopes are those of their parts, where no port is at fault.
use Rattle.std.proofs.Common.{◌≡◌, ℕ, Bool, true, false, ◌&&◌, List, [], ◌∷◌, ◌++◌, map, refl, sym, ap, ◌∙◌, Option, Some, None}
use Rattle.std.specs.Prelude.{max, flat_map, if◌then◌else◌}
use Rattle.std.proofs.lemmas.Grind.{flat_map-append}
use Rattle.lv_bits.specs.Values.{keeps_width, is_apart}
use Rattle.lv_ast.specs.declared.expr.Expr.{Expr}
use Rattle.lv_ast.specs.declared.expr.Expr.TheOpen.{Expr-F, Select-F}
use Rattle.lv_ast.specs.declared.expr.Path.{Path}
use Rattle.lv_ast.specs.declared.stmt.Ident.{Ident}
use Rattle.lv_ast.specs.declared.stmt.Stmt.{Stmt, Row_of-Stmt, end_of-Stmt, more_of-Stmt, Row_of-Arm, end_of-Arm, more_of-Arm, Held-Stmt-If-2, None', Some'}
use Rattle.lv_ast.specs.declared.stmt.Stmt.TheVariants as b
use Rattle.lv_ast.specs.declared.stmt.Stmt.TheOpen.{Stmt-F}
use Rattle.lv_ast.specs.Trees.{fold_stmt, fold_stmts, fold_one_stmt, fold_held, fold_arms}
use Rattle.lv_ast.specs.Names.{Name}
use Rattle.lv_source.specs.Names.{Names, Here, with_early}
use Rattle.lv_source.specs.Effect.{ArmOf, arm_step, turns, index_value, with_index}
use Rattle.lv_source.specs.Sites.{Walk, WalkStep, Site, Spot, Role, Value, Joined, Written, spots, first_place, own_sites, fixed_sites, index_sites, step_sites, below_sites, joined_role, is_driven, greater_sites, node_shown, walk_step, walk_select_step, walk, expr_sites, target_sites}
use Rattle.lv_source.specs.NodeRules.{clock_use}
use Rattle.lv_source.specs.Standing.{Form, Empty, Test, Choose, Repeat, Assign, Standing, Standings, one, standing, standing_step, standing_or, at_turn, target_width, header_spots, case_sites, form_spots, stmt_spots}
use Rattle.lv_source.specs.PartSites.{clocks_in, stmt_sites}
use Rattle.lv_source.proofs.Each.{Each}
use Rattle.lv_source.proofs.Induction.{Below, Inside, of_expr}
use Rattle.lv_source.proofs.Bridges.{two}

-- ---- no node in a constant position is a use of a clock

pub nothing : {A : Type 0} (xs ys : List A) → xs ≡ [] → ys ≡ [] → xs ++ ys ≡ []
nothing xs ys h k = ap (λ zs. zs ++ ys) h ∙ k

pub both_nothing : (xs ys : List Site) → clocks_in xs ≡ [] → clocks_in ys ≡ [] → clocks_in (xs ++ ys) ≡ []
both_nothing xs ys h k = flat_map-append clock_use xs ys ∙ nothing (clocks_in xs) (clocks_in ys) h k

IsSilent : Walk → Type 0
IsSilent w = (role : Role) (f W : ℕ) (T : Bool) → clocks_in (w.sites role (Some f) W T) ≡ []

SilentStep : WalkStep → Type 0
SilentStep (Select-F.Bit a) = IsSilent a
SilentStep (Select-F.Part a c) = IsSilent a × IsSilent c
SilentStep (Select-F.Up a c) = IsSilent a × IsSilent c
SilentStep (Select-F.Down a c) = IsSilent a × IsSilent c

each_nothing : {A : Type 0} (g : A → List Site) (P : A → Type 0) (xs : List A) → ((x : A) → P x → clocks_in (g x) ≡ []) → Each P xs → clocks_in (flat_map g xs) ≡ []
each_nothing g P [] h k = refl
each_nothing g P (x ∷ xs) h k = both_nothing (g x) (flat_map g xs) (h x k.0) (each_nothing g P xs h k.1)

own_silent : (role : Role) (f : ℕ) (w : Walk) → IsSilent w → clocks_in (own_sites role (Some f) w) ≡ []
unfolding IsSilent
own_silent role f w h = h role f w.shown.reading.meaning.width w.shown.reading.meaning.signed

alone_silent : (w : Walk) → IsSilent w → clocks_in (fixed_sites w) ≡ []
alone_silent w h = own_silent Value (first_place w.shown) w h

index_silent : (constant : Bool) (f : ℕ) (w : Walk) → IsSilent w → clocks_in (index_sites constant (Some f) w) ≡ []
index_silent true f w h = alone_silent w h
index_silent false f w h = own_silent Value f w h

step_silent : (constant : Bool) (f : ℕ) (s : WalkStep) → SilentStep s → clocks_in (step_sites constant (Some f) s) ≡ []
unfolding SilentStep
step_silent constant f (Select-F.Bit a) h = index_silent constant f a h
step_silent constant f (Select-F.Part a c) h = both_nothing (fixed_sites a) (fixed_sites c) (alone_silent a h.0) (alone_silent c h.1)
step_silent constant f (Select-F.Up a c) h = both_nothing (index_sites constant (Some f) a) (fixed_sites c) (index_silent constant f a h.0) (alone_silent c h.1)
step_silent constant f (Select-F.Down a c) h = both_nothing (index_sites constant (Some f) a) (fixed_sites c) (index_silent constant f a h.0) (alone_silent c h.1)

if_nothing : (c : Bool) (xs ys : List Site) → clocks_in xs ≡ [] → clocks_in ys ≡ [] → clocks_in (if c then xs else ys) ≡ []
if_nothing true xs ys h k = h
if_nothing false xs ys h k = k

module _ (names : Names) where
  below_silent : (x : Expr-F Walk WalkStep) → Below IsSilent SilentStep x → (role : Role) (f W : ℕ) (T : Bool) → clocks_in (below_sites x role (Some f) W T) ≡ []
  unfolding IsSilent
  below_silent (Expr-F.Lit l) h role f W T = refl
  below_silent (Expr-F.Name path ss) h role f W T = each_nothing (step_sites (is_driven role) (Some f)) SilentStep ss (step_silent (is_driven role) f) h
  below_silent (Expr-F.Un op a) h role f W T = if_nothing (keeps_width op) (a.sites Value (Some f) W T) (own_sites Value (Some f) a) (h Value f W T) (own_silent Value f a h)
  below_silent (Expr-F.Bin op a c) h role f W T =
      let l : List Site = a.sites Value (Some f) W T in
      let r : List Site = if is_apart op then own_sites Value (Some f) c else c.sites Value (Some f) W T in
      let w : ℕ = max a.shown.reading.meaning.width c.shown.reading.meaning.width in
      let t : Bool = a.shown.reading.meaning.signed && c.shown.reading.meaning.signed in
      if_nothing (keeps_width op) (l ++ r) (if is_apart op then own_sites Value (Some f) a ++ own_sites Value (Some f) c else greater_sites (Some f) a c)
      (both_nothing l r (h.0 Value f W T) (if_nothing (is_apart op) (own_sites Value (Some f) c) (c.sites Value (Some f) W T) (own_silent Value f c h.1) (h.1 Value f W T)))
      (if_nothing (is_apart op) (own_sites Value (Some f) a ++ own_sites Value (Some f) c) (greater_sites (Some f) a c)
      (both_nothing (own_sites Value (Some f) a) (own_sites Value (Some f) c) (own_silent Value f a h.0) (own_silent Value f c h.1))
      (both_nothing (a.sites Value (Some f) w t) (c.sites Value (Some f) w t) (h.0 Value f w t) (h.1 Value f w t)))
  below_silent (Expr-F.Div a c) h role f W T = both_nothing (a.sites Value (Some f) W T) (c.sites Value (Some f) W T) (h.0 Value f W T) (h.1 Value f W T)
  below_silent (Expr-F.Rem a c) h role f W T = both_nothing (a.sites Value (Some f) W T) (c.sites Value (Some f) W T) (h.0 Value f W T) (h.1 Value f W T)
  below_silent (Expr-F.Cond k a c) h role f W T =
      both_nothing (own_sites Value (Some f) k ++ a.sites Value (Some f) W T) (c.sites Value (Some f) W T)
      (both_nothing (own_sites Value (Some f) k) (a.sites Value (Some f) W T) (own_silent Value f k h.0) (h.1 Value f W T)) (h.2 Value f W T)
  below_silent (Expr-F.Cat rs) h role f W T = each_nothing (own_sites (joined_role role) (Some f)) IsSilent rs (λ r k. own_silent (joined_role role) f r k) h
  below_silent (Expr-F.Rep n rs) h role f W T =
      both_nothing (fixed_sites n) (flat_map (own_sites Joined (Some f)) rs) (alone_silent n h.0) (each_nothing (own_sites Joined (Some f)) IsSilent rs (λ r k. own_silent Joined f r k) h.1)
  below_silent (Expr-F.Cast signed a) h role f W T = own_silent Value f a h

  site_silent : (x : Expr-F Walk WalkStep) (role : Role) (f W : ℕ) (T : Bool) →
      clock_use (record { names = names; node = node_shown x; shown = (walk_step names x).shown; role = role; fixed = Some f; width = W; signed = T }) ≡ []
  site_silent (Expr-F.Lit l) role f W T = refl
  site_silent (Expr-F.Name path ss) role f W T = refl
  site_silent (Expr-F.Un op a) role f W T = refl
  site_silent (Expr-F.Bin op a c) role f W T = refl
  site_silent (Expr-F.Div a c) role f W T = refl
  site_silent (Expr-F.Rem a c) role f W T = refl
  site_silent (Expr-F.Cond k a c) role f W T = refl
  site_silent (Expr-F.Cat rs) role f W T = refl
  site_silent (Expr-F.Rep n rs) role f W T = refl
  site_silent (Expr-F.Cast signed a) role f W T = refl

  node_silent : (x : Expr-F Walk WalkStep) → Below IsSilent SilentStep x → IsSilent (walk_step names x)
  unfolding IsSilent
  node_silent x h role f W T = nothing _ (clocks_in (below_sites x role (Some f) W T)) (site_silent x role f W T) (below_silent x h role f W T)

  pick_silent : (s : Select-F Walk WalkStep) → Inside IsSilent s → SilentStep (walk_select_step s)
  unfolding SilentStep
  pick_silent (Select-F.Bit a) h = h
  pick_silent (Select-F.Part a c) h = h
  pick_silent (Select-F.Up a c) h = h
  pick_silent (Select-F.Down a c) h = h

  walk_silent : (e : Expr) → IsSilent (walk names e)
  unfolding walk
  walk_silent e = of_expr Walk WalkStep (walk_step names) walk_select_step IsSilent SilentStep node_silent pick_silent e

  pub fixed_silent : (width : ℕ) (e : Expr) → clocks_in (expr_sites true names width e) ≡ []
  unfolding IsSilent
  fixed_silent width e =
      let w : Walk = walk names e in
      walk_silent e Value (first_place w.shown) (max width w.shown.reading.meaning.width) w.shown.reading.meaning.signed

-- ---- spots

abbrev pub uses : List Spot → List ℕ
uses xs = flat_map (λ x. clock_use x.site) xs

pub spots_use : (here : Here) (xs : List Site) → uses (spots here xs) ≡ clocks_in xs
spots_use here [] = refl
spots_use here (x ∷ xs) = ap (λ ns. clock_use x ++ ns) (spots_use here xs)

pub uses_join : (xs ys : List Spot) → uses (xs ++ ys) ≡ uses xs ++ uses ys
uses_join xs ys = flat_map-append (λ x. clock_use x.site) xs ys

pub flat_silent : {A : Type 0} (g : A → List Spot) (xs : List A) → ((x : A) → uses (g x) ≡ []) → uses (flat_map g xs) ≡ []
flat_silent g [] h = refl
flat_silent g (x ∷ xs) h = uses_join (g x) (flat_map g xs) ∙ nothing (uses (g x)) (uses (flat_map g xs)) (h x) (flat_silent g xs h)

spots_silent : (here : Here) (width : ℕ) (e : Expr) → uses (spots here (expr_sites true here.names width e)) ≡ []
spots_silent here width e = spots_use here (expr_sites true here.names width e) ∙ fixed_silent here.names width e

three_nothing : (xs ys zs : List Spot) → uses xs ≡ [] → uses ys ≡ [] → uses zs ≡ [] → uses (xs ++ ys ++ zs) ≡ []
three_nothing xs ys zs h k j =
    uses_join (xs ++ ys) zs ∙ nothing (uses (xs ++ ys)) (uses zs) (uses_join xs ys ∙ nothing (uses xs) (uses ys) h k) j

pub header_silent : (here : Here) (index : Ident) (start test next : Expr) → uses (header_spots here index start test next) ≡ []
header_silent here index start test next =
    let ks : List ℕ = turns here.names index.name start test next in
    let js : List ℕ = index_value here.names start ∷ map (λ k. index_value (at_turn here index.name k).names next) ks in
    three_nothing (spots here (expr_sites true here.names 32 start)) (flat_map (λ k. spots (at_turn here index.name k) (expr_sites true (at_turn here index.name k).names 0 test)) js)
    (flat_map (λ k. spots (at_turn here index.name k) (expr_sites true (at_turn here index.name k).names 32 next)) ks)
    (spots_silent here 32 start)
    (flat_silent (λ k. spots (at_turn here index.name k) (expr_sites true (at_turn here index.name k).names 0 test)) js (λ k. spots_silent (at_turn here index.name k) 0 test))
    (flat_silent (λ k. spots (at_turn here index.name k) (expr_sites true (at_turn here index.name k).names 32 next)) ks (λ k. spots_silent (at_turn here index.name k) 32 next))

-- ---- statements: which constants are declared before makes no difference

form_uses : List Standing → List ℕ
form_uses ks = flat_map (λ k. uses (form_spots k.here k.form)) ks

at_here : Names → (Path → Bool) → Here
at_here names early = record { names = names; early = early }

spots_alike : (names : Names) (e f : Path → Bool) (xs : List Site) → uses (spots (at_here names e) xs) ≡ uses (spots (at_here names f) xs)
spots_alike names e f xs = spots_use (at_here names e) xs ∙ sym (spots_use (at_here names f) xs)

form_alike : (names : Names) (e f : Path → Bool) (x : Form) → uses (form_spots (at_here names e) x) ≡ uses (form_spots (at_here names f) x)
unfolding at_here
form_alike names e f Empty = refl
form_alike names e f (Test x) = spots_alike names e f (expr_sites false names 0 x)
form_alike names e f (Choose x arms) = spots_alike names e f (case_sites names x (flat_map (λ ls. ls) arms))
form_alike names e f (Repeat index start test again next) = header_silent (at_here names e) index start test next ∙ sym (header_silent (at_here names f) index start test next)
form_alike names e f (Assign at_once t x) = spots_alike names e f (target_sites names Written t ++ expr_sites false names (target_width names t) x)

IsAlike : Standings → Type 0
IsAlike g = (names : Names) (e f : Path → Bool) → form_uses (g (at_here names e)) ≡ form_uses (g (at_here names f))

MaybeAlike : Option Standings → Type 0
MaybeAlike None = Unit {0}
MaybeAlike (Some g) = IsAlike g

forms_join : (xs ys : List Standing) → form_uses (xs ++ ys) ≡ form_uses xs ++ form_uses ys
unfolding form_uses
forms_join xs ys = flat_map-append (λ k. uses (form_spots k.here k.form)) xs ys

join_alike : (xs ys zs ws : List Standing) → form_uses xs ≡ form_uses zs → form_uses ys ≡ form_uses ws → form_uses (xs ++ ys) ≡ form_uses (zs ++ ws)
join_alike xs ys zs ws h k = forms_join xs ys ∙ (two (λ (a c : List ℕ). a ++ c) _ _ _ _ h k ∙ sym (forms_join zs ws))

one_alike : (names : Names) (e f : Path → Bool) (x : Form) → form_uses (record { here = at_here names e; form = x } ∷ []) ≡ form_uses (record { here = at_here names f; form = x } ∷ [])
unfolding form_uses
one_alike names e f x = ap (λ (ns : List ℕ). ns ++ []) (form_alike names e f x)

block_alike : (gs : List Standings) → Each IsAlike gs → (names : Names) (e f : Path → Bool) →
    form_uses (flat_map (λ (g : Standings). g (at_here names e)) gs) ≡ form_uses (flat_map (λ (g : Standings). g (at_here names f)) gs)
unfolding IsAlike
block_alike [] h names e f = refl
block_alike (g ∷ gs) h names e f = join_alike (g (at_here names e)) _ (g (at_here names f)) _ (h.0 names e f) (block_alike gs h.1 names e f)

arms_alike : (as' : List (ArmOf Standings)) → Each (λ (a : ArmOf Standings). IsAlike a.body) as' → (names : Names) (e f : Path → Bool) →
    form_uses (flat_map (λ (a : ArmOf Standings). a.body (at_here names e)) as') ≡ form_uses (flat_map (λ (a : ArmOf Standings). a.body (at_here names f)) as')
unfolding IsAlike
arms_alike [] h names e f = refl
arms_alike (a ∷ as') h names e f = join_alike (a.body (at_here names e)) _ (a.body (at_here names f)) _ (h.0 names e f) (arms_alike as' h.1 names e f)

turns_alike : (g : Standings) → IsAlike g → (index : Name) (ks : List ℕ) (names : Names) (e f : Path → Bool) →
    form_uses (flat_map (λ k. g (at_turn (at_here names e) index k)) ks) ≡ form_uses (flat_map (λ k. g (at_turn (at_here names f) index k)) ks)
unfolding IsAlike at_here
turns_alike g h index [] names e f = refl
turns_alike g h index (k ∷ ks) names e f =
    join_alike (g (at_turn (at_here names e) index k)) _ (g (at_turn (at_here names f) index k)) _ (h (with_index names index k) (with_early e index) (with_early f index)) (turns_alike g h index ks names e f)

else_alike : (o : Option Standings) → MaybeAlike o → (names : Names) (e f : Path → Bool) → form_uses (standing_or o (at_here names e)) ≡ form_uses (standing_or o (at_here names f))
unfolding IsAlike MaybeAlike
else_alike None h names e f = refl
else_alike (Some g) h names e f = h names e f

if_alike : (x : Expr) (g : Standings) (o : Option Standings) → IsAlike g → MaybeAlike o → IsAlike (standing_step (Stmt-F.If x g o))
unfolding IsAlike
if_alike x g o h k names e f =
    join_alike (one (at_here names e) (Test x) ++ g (at_here names e)) (standing_or o (at_here names e)) (one (at_here names f) (Test x) ++ g (at_here names f)) (standing_or o (at_here names f))
    (join_alike (one (at_here names e) (Test x)) (g (at_here names e)) (one (at_here names f) (Test x)) (g (at_here names f)) (one_alike names e f (Test x)) (h names e f)) (else_alike o k names e f)

mutual
  unfolding IsAlike MaybeAlike at_here

  by_stmt : (s : Stmt) → IsAlike (fold_stmt Standings (ArmOf Standings) standing_step arm_step s)
  by_stmt b.Null names e f = one_alike names e f Empty
  by_stmt (b.Block' name n rs) names e f =
      let gs : List Standings = fold_stmts Standings (ArmOf Standings) standing_step arm_step rs in
      join_alike (one (at_here names e) Empty) (flat_map (λ (g : Standings). g (at_here names e)) gs) (one (at_here names f) Empty) (flat_map (λ (g : Standings). g (at_here names f)) gs)
      (one_alike names e f Empty) (block_alike gs (by_rows rs) names e f)
  by_stmt (b.If' c n s other) names e f = if_alike c (fold_one_stmt Standings (ArmOf Standings) standing_step arm_step s) (fold_held Standings (ArmOf Standings) standing_step arm_step other) (by_one s) (by_held other) names e f
  by_stmt (b.Case' wild x n arms) names e f =
      let as' : List (ArmOf Standings) = fold_arms Standings (ArmOf Standings) standing_step arm_step arms in
      let form : Form = Choose x (map (λ (a : ArmOf Standings). a.labels) as') in
      join_alike (one (at_here names e) form) (flat_map (λ (a : ArmOf Standings). a.body (at_here names e)) as')
      (one (at_here names f) form) (flat_map (λ (a : ArmOf Standings). a.body (at_here names f)) as') (one_alike names e f form) (arms_alike as' (by_arms arms) names e f)
  by_stmt (b.Loop' index start test again next n s) names e f =
      let g : Standings = fold_one_stmt Standings (ArmOf Standings) standing_step arm_step s in
      let form : Form = Repeat index start test again next in
      let ks : List ℕ = turns names index.name start test next in
      join_alike (one (at_here names e) form) (flat_map (λ k. g (at_turn (at_here names e) index.name k)) ks) (one (at_here names f) form) (flat_map (λ k. g (at_turn (at_here names f) index.name k)) ks)
      (one_alike names e f form) (turns_alike g (by_one s) index.name ks names e f)
  by_stmt (b.Now target x place) names e f = one_alike names e f (Assign true target x)
  by_stmt (b.Later target x place) names e f = one_alike names e f (Assign false target x)

  by_rows : {n : _} (r : Row_of-Stmt n) → Each IsAlike (fold_stmts Standings (ArmOf Standings) standing_step arm_step r)
  by_rows end_of-Stmt = tt
  by_rows (more_of-Stmt x xs) = (by_stmt x, by_rows xs)

  by_one : {n : _} (r : Row_of-Stmt n) → IsAlike (fold_one_stmt Standings (ArmOf Standings) standing_step arm_step r)
  by_one end_of-Stmt = λ names e f. one_alike names e f Empty
  by_one (more_of-Stmt x xs) = by_stmt x

  by_held : (r : Held-Stmt-If-2) → MaybeAlike (fold_held Standings (ArmOf Standings) standing_step arm_step r)
  by_held None' = tt
  by_held (Some' n s) = by_one s

  by_arms : {n : _} (r : Row_of-Arm n) → Each (λ (a : ArmOf Standings). IsAlike a.body) (fold_arms Standings (ArmOf Standings) standing_step arm_step r)
  by_arms end_of-Arm = tt
  by_arms (more_of-Arm ls body xs) = (by_stmt body, by_arms xs)

pub flat-flat : {A B C : Type 0} (f : B → List C) (g : A → List B) (xs : List A) → flat_map f (flat_map g xs) ≡ flat_map (λ x. flat_map f (g x)) xs
flat-flat f g [] = refl
flat-flat f g (x ∷ xs) = flat_map-append f (g x) (flat_map g xs) ∙ ap (λ ys. flat_map f (g x) ++ ys) (flat-flat f g xs)

by_sites : (xs : List Spot) → uses xs ≡ clocks_in (map (λ x. x.site) xs)
by_sites [] = refl
by_sites (x ∷ xs) = ap (λ ns. clock_use x.site ++ ns) (by_sites xs)

-- the clock names of a block are those of its part
pub stmt_use : (here : Here) (s : Stmt) → uses (stmt_spots here s) ≡ clocks_in (stmt_sites here.names s)
unfolding standing IsAlike at_here form_uses
stmt_use here s =
    flat-flat (λ x. clock_use x.site) (λ k. form_spots k.here k.form) (standing here s) ∙
    (by_stmt s here.names here.early (λ p. false) ∙
    (sym (flat-flat (λ x. clock_use x.site) (λ k. form_spots k.here k.form) (standing (at_here here.names (λ p. false)) s)) ∙ by_sites (stmt_spots (at_here here.names (λ p. false)) s)))
