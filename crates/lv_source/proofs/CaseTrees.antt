-- A `case` over trees takes the arm, and has the paths, that its trees say.
use Rattle.std.proofs.Common.{◌≡◌, Bool, true, false, ◌&&◌, ◌||◌, not, List, [], ◌∷◌, ◌++◌, map, refl, sym, ap, ◌∙◌}
use Rattle.std.specs.Prelude.{flat_map, if◌then◌else◌}
use Rattle.std.specs.List.{list_any, list_all}
use Rattle.lv_ast.specs.declared.expr.Expr.{Expr}
use Rattle.lv_source.specs.Names.{Names}
use Rattle.lv_source.specs.Places.{Bit}
use Rattle.lv_source.specs.Meaning.{read_expr}
use Rattle.lv_source.specs.Effect.{State, Effect, Label, Arm, ArmOf, Width, label_of, read_arm, is_default, all_labels, arm_labels, taken_of, common, common_of, selected_of, fits_label, is_match, case_effect}
use Rattle.lv_source.specs.Flow.{Event, Flow, Flows, looks, then_flow, no_match, is_full, is_full_of, is_extended, case_flow}
use Rattle.lv_source.proofs.Tests.{any-map}

-- ---- over trees

abbrev pub unchanged : Effect
unchanged names s = s

-- the first arm with a label that fits, or the default
abbrev pub arm_taken : {A : Type 0} → (Expr → Bool) → List (ArmOf A) → A → A
arm_taken fits [] default = default
arm_taken fits (a ∷ arms) default =
    if list_any fits a.labels then a.body else arm_taken fits arms (if is_default a.labels then a.body else default)

-- ---- lists

pub all-map : {A B : Type 0} (p : B → Bool) (f : A → B) (xs : List A) → list_all (λ x. p (f x)) xs ≡ list_all p (map f xs)
all-map p f [] = refl
all-map p f (x ∷ xs) = ap (λ b. p (f x) && b) (all-map p f xs)

pub map-join : {A B : Type 0} (f : A → B) (xs ys : List A) → map f (xs ++ ys) ≡ map f xs ++ map f ys
map-join f [] ys = refl
map-join f (x ∷ xs) ys = ap (λ zs. f x ∷ zs) (map-join f xs ys)

pub flat-map : {A B C : Type 0} (g : B → List C) (f : A → B) (xs : List A) → flat_map g (map f xs) ≡ flat_map (λ x. g (f x)) xs
flat-map g f [] = refl
flat-map g f (x ∷ xs) = ap (λ zs. g (f x) ++ zs) (flat-map g f xs)

default-map : {A B : Type 0} (f : A → B) (xs : List A) → is_default (map f xs) ≡ is_default xs
default-map f [] = refl
default-map f (x ∷ xs) = refl

-- ---- arms

pub labels_are : {A : Type 0} (names : Names) (es : List (ArmOf (Names → A))) → arm_labels (map (read_arm names) es) ≡ map (label_of names) (all_labels es)
labels_are names [] = refl
labels_are names (e ∷ es) = ap (λ ls. map (label_of names) e.labels ++ ls) (labels_are names es) ∙ sym (map-join (label_of names) e.labels (all_labels es))

pub defaults_are : {A : Type 0} (names : Names) (es : List (ArmOf (Names → A))) →
    list_any (λ (a : Arm A). is_default a.labels) (map (read_arm names) es) ≡ list_any (λ (a : ArmOf (Names → A)). is_default a.labels) es
defaults_are names [] = refl
defaults_are names (e ∷ es) =
    ap (λ b. b || list_any (λ a. is_default a.labels) (map (read_arm names) es)) (default-map (label_of names) e.labels) ∙
    ap (λ b. is_default e.labels || b) (defaults_are names es)

one_step : (names : Names) (x x' y y' : Bool) → x ≡ x' → y ≡ y' → (b d : Effect) (r : (State → State) → State → State) (q : Effect → Effect) →
    ((e : Effect) → r (e names) ≡ q e names) → (if x then b names else r (if y then b names else d names)) ≡ (if x' then b else q (if y' then b else d)) names
one_step names true true y y' h k b d r q f = refl
one_step names true false y y' h k b d r q f = absurd (cc)
one_step names false true y y' h k b d r q f = absurd (cc)
one_step names false false true true h k b d r q f = f b
one_step names false false true false h k b d r q f = absurd (cc)
one_step names false false false true h k b d r q f = absurd (cc)
one_step names false false false false h k b d r q f = f d

taken_is : (names : Names) (fits : Label → Bool) (es : List (ArmOf Effect)) (d : Effect) →
    taken_of fits (map (read_arm names) es) (d names) ≡ arm_taken (λ e. fits (label_of names e)) es d names
taken_is names fits [] d = refl
taken_is names fits (e ∷ es) d =
    one_step names _ _ _ _ (sym (any-map fits (label_of names) e.labels)) (default-map (label_of names) e.labels) e.body d
    (taken_of fits (map (read_arm names) es)) (arm_taken (λ e. fits (label_of names e)) es) (taken_is names fits es)

abbrev pub TreeCase : Bool → Expr → List (ArmOf Effect) → Names → State → State
TreeCase wild x es names s =
    let c : Width = common names x (all_labels es) in
    arm_taken (is_match names s.valuation wild c (selected_of (read_expr names x) c s.valuation)) es unchanged names s

pub case_is : (wild : Bool) (x : Expr) (es : List (ArmOf Effect)) (names : Names) (s : State) → case_effect wild x es names s ≡ TreeCase wild x es names s
case_is wild x es names s =
    ap (λ (ls : List Label). taken_of (fits_label s.valuation wild (common_of (read_expr names x) ls) (selected_of (read_expr names x) (common_of (read_expr names x) ls) s.valuation))
    (map (read_arm names) es) (λ s. s) s) (labels_are names es) ∙
    ap (λ (g : State → State). g s)
    (taken_is names (fits_label s.valuation wild (common names x (all_labels es)) (selected_of (read_expr names x) (common names x (all_labels es)) s.valuation)) es unchanged)

-- ---- flows

abbrev pub TreeFlow : Bool → Expr → List (ArmOf Flows) → Names → Flow
TreeFlow wild x arms names =
    let labels : List Expr = all_labels arms in
    let default : Bool = list_any (λ (a : ArmOf Flows). is_default a.labels) arms in
    let start : Flow = no_match (not default && not (is_full names wild x labels)) in
    let looked : List Bit = (read_expr names x).reads ++ flat_map (λ l. (read_expr names l).reads) labels in
    then_flow (looks looked) (record {
      events = flat_map (λ (a : ArmOf Flows). (a.body names).events) arms;
      paths = flat_map (λ (a : ArmOf Flows). (a.body names).paths) arms ++ start.paths;
    })

-- by its labels, whether it has a default, what the labels read, and what the arms have
flow_by : Bool → Bool → Expr → Names → List Label → Bool → List Bit → List Event → List (List Event) → Flow
flow_by wild own x names labels default looked events paths =
    then_flow (looks ((read_expr names x).reads ++ looked)) (record { events = events; paths = paths ++ (no_match (not default && not (is_full_of wild own (read_expr names x) labels))).paths })

pub flow_is : (wild : Bool) (x : Expr) (bs : List (ArmOf Flows)) (names : Names) → case_flow wild x bs names ≡ TreeFlow wild x bs names
unfolding flow_by
flow_is wild x bs names =
    let arms : List (Arm Flow) = map (read_arm names) bs in
    let own : Bool = is_extended x in
    let d : Bool = list_any (λ (a : Arm Flow). is_default a.labels) arms in
    let e : Bool = list_any (λ (a : ArmOf Flows). is_default a.labels) bs in
    let events : List Event = flat_map (λ (a : ArmOf Flows). (a.body names).events) bs in
    let labels : List Label = map (label_of names) (all_labels bs) in
    let looked : List Bit = flat_map (λ (l : Label). l.reading.reads) labels in
    let paths : List (List Event) = flat_map (λ (a : Arm Flow). a.body.paths) arms in
    ap (λ ls. flow_by wild own x names ls d (flat_map (λ (l : Label). l.reading.reads) ls) (flat_map (λ (a : Arm Flow). a.body.events) arms) paths) (labels_are names bs) ∙
    (ap (λ c. flow_by wild own x names labels c looked (flat_map (λ (a : Arm Flow). a.body.events) arms) paths) (defaults_are names bs) ∙
    (ap (λ ls. flow_by wild own x names labels e ls (flat_map (λ (a : Arm Flow). a.body.events) arms) paths) (flat-map (λ (l : Label). l.reading.reads) (label_of names) (all_labels bs)) ∙
    (ap (λ es. flow_by wild own x names labels e (flat_map (λ l. (read_expr names l).reads) (all_labels bs)) es paths) (flat-map (λ (a : Arm Flow). a.body.events) (read_arm names) bs) ∙
    ap (λ ps. flow_by wild own x names labels e (flat_map (λ l. (read_expr names l).reads) (all_labels bs)) events ps) (flat-map (λ (a : Arm Flow). a.body.paths) (read_arm names) bs))))
