-- An item by its kind.
use Rattle.std.proofs.Common.{◌≡◌, ℕ, Bool, true, false, List, [], ◌∷◌, ◌++◌, map, refl, sym, ap, ◌∙◌, subst, inl, inr, Option, Result, Ok, Err}
use Rattle.std.specs.Prelude.{flat_map}
use Rattle.std.specs.List.{Contains}
use Rattle.std.proofs.lemmas.List.{append-nil, append_assoc}
use Rattle.std.proofs.lemmas.List.Concat.{flat_map_single}
use Rattle.std.proofs.lemmas.List.Elements.{Contains-append_left, Contains-append_right, Contains-append_cases}
use Rattle.lv_ast.specs.declared.stmt.Stmt.{Stmt}
use Rattle.lv_ast.specs.declared.item.Item.{Item}
use Rattle.lv_ast.specs.declared.item.Item.TheVariants as i
use Rattle.lv_ast.specs.declared.item.NetName.{NetName}
use Rattle.lv_ast.specs.declared.item.Continuous.{Continuous}
use Rattle.lv_ast.specs.declared.item.Range.{Range as Bounds}
use Rattle.lv_ast.specs.declared.item.Watch.{Watch}
use Rattle.lv_ast.specs.declared.item.Watch.TheVariants as w
use Rattle.lv_ast.specs.declared.item.Source.{Source}
use Rattle.lv_ast.specs.Names.{Name}
use Rattle.lv_source.specs.Names.{Here}
use Rattle.lv_source.specs.Faults.{site_faults}
use Rattle.lv_source.specs.Legal.{Kind, UnknownModule, UnknownName, Duplicate, NotConstant, ZeroDivisor, Range, Recursion, Port, WrongKind, ClockUse, Blocking, Nonblocking, TwoDrivers, Undriven, Latch, ReadFirst}
use Rattle.lv_source.specs.Parts.{item_parts}
use Rattle.lv_source.specs.Views.{view_of}
use Rattle.lv_source.specs.PartSites.{assign_sites}
use Rattle.lv_source.specs.Scopes.{Scope, here_at}
use Rattle.lv_source.specs.ScopeRules.{item_spots, standing_in, unknown_module_in, unknown_in_form, unknown_in_item, two_defaults, range_in_form, range_in_item, recursion_in, ports_in_item, target_fault}
use Rattle.lv_source.specs.Sites.{Spot}
use Rattle.lv_source.specs.Standing.{Standing, standing, form_spots, stmt_spots}
use Rattle.lv_source.proofs.ClockNames.{flat-flat}
use Rattle.lv_const.proofs.Refusals.{gathered}
use Rattle.lv_const.proofs.Told.{both-empty}
use Rattle.lv_flat.specs.declared.part.FlatPart.{FlatPart}
use Rattle.lv_flat.specs.Signals.{Signals}
use Rattle.lv_resolve.specs.Resolved.{AreFaultless}
use Rattle.lv_resolve.proofs.Covers.{nowhere-in}
use Rattle.lv_resolve.proofs.Zeros.{all-empty}
use Rattle.lv_resolve_stmts.specs.Statements.{AreSound}
use Rattle.lv_faults.specs.declared.fault.Fault.{Fault}
use Rattle.lv_faults.specs.declared.fault.Fault.TheVariants as f
use Rattle.lv_faults.specs.Faults.{kind_of, place_of, is_scope_kind, item_rules, item_faults, IsFaultlessItem}
use Rattle.lv_parts.specs.declared.error.PartsError.{PartsError}
use Rattle.lv_parts.specs.declared.error.PartsError.TheVariants as e
use Rattle.lv_parts.specs.Made.{AreAll, HasOne}
use Rattle.lv_parts.specs.Nets.{NetsAnswer, IsNet, IsToldNet, net_sites, node_faults, has_net_operands}
use Rattle.lv_parts.specs.Assigns.{AssignsAnswer, IsCleanAssign, IsToldAssign, assign_part, assign_rules, has_assign_operands}
use Rattle.lv_parts.specs.Blocks.{AlwaysAnswer, IsCleanAlways, stmt_faults, stmt_rules, edge_faults, watch_rules, always_faults}
use Rattle.lv_parts.specs.Items.{AreNets, PartsAnswer, ItemAnswer}
use Rattle.lv_parts.proofs.Tellings.{passes, node-among, all-faultless}

-- ---- nodes by kind

silent : (xs : List Spot) → flat_map (λ (x : Spot). (let ns : List ℕ = [] in ns)) xs ≡ []
silent [] = refl
silent (x ∷ xs) = silent xs

nodes-none : (xs : List Spot) → AreFaultless xs → (kind : Kind) → is_scope_kind kind ≡ true → flat_map (site_faults kind) xs ≡ []
nodes-none xs h UnknownModule q = silent xs
nodes-none xs h UnknownName q = h.unknown
nodes-none xs h Duplicate q = silent xs
nodes-none xs h NotConstant q = h.unfixed
nodes-none xs h ZeroDivisor q = h.zero
nodes-none xs h Range q = h.range
nodes-none xs h Recursion q = silent xs
nodes-none xs h Port q = silent xs
nodes-none xs h WrongKind q = cc
nodes-none xs h ClockUse q = cc
nodes-none xs h Blocking q = cc
nodes-none xs h Nonblocking q = cc
nodes-none xs h TwoDrivers q = cc
nodes-none xs h Undriven q = cc
nodes-none xs h Latch q = cc
nodes-none xs h ReadFirst q = cc

module _ (source : Source) (s : Scope) (k : ℕ) where
  abbrev here : Here
  here = here_at s k

  faultless-by : (x : Item) → AreFaultless (item_spots source s here x) → ((kind : Kind) → item_rules source kind s (k, x) ≡ []) → IsFaultlessItem source s (k, x)
  faultless-by x h g = record {
    none = λ kind q. both-empty (flat_map (site_faults kind) (item_spots source s here x)) (item_rules source kind s (k, x)) (nodes-none (item_spots source s here x) h kind q) (g kind);
  }

  rules-none : (x : Item) → standing_in here x ≡ [] → unknown_module_in source s.names x ≡ [] → unknown_in_item source s.names x ≡ [] → range_in_item s.names x ≡ [] →
      recursion_in source s s.names x ≡ [] → ports_in_item source s s.names x ≡ [] → (kind : Kind) → item_rules source kind s (k, x) ≡ []
  rules-none x a m u r c p UnknownModule = m
  rules-none x a m u r c p UnknownName = ap (λ ks. flat_map unknown_in_form ks ++ unknown_in_item source s.names x) a ∙ u
  rules-none x a m u r c p Duplicate = ap (flat_map two_defaults) a
  rules-none x a m u r c p NotConstant = refl
  rules-none x a m u r c p ZeroDivisor = refl
  rules-none x a m u r c p Range = ap (λ ks. flat_map range_in_form ks ++ range_in_item s.names x) a ∙ r
  rules-none x a m u r c p Recursion = c
  rules-none x a m u r c p Port = p
  rules-none x a m u r c p WrongKind = refl
  rules-none x a m u r c p ClockUse = refl
  rules-none x a m u r c p Blocking = refl
  rules-none x a m u r c p Nonblocking = refl
  rules-none x a m u r c p TwoDrivers = refl
  rules-none x a m u r c p Undriven = refl
  rules-none x a m u r c p Latch = refl
  rules-none x a m u r c p ReadFirst = refl

  module _ (S : Signals) (old new : List FlatPart) where
    abbrev Answer : Item → Result (Unit {0}) PartsError → Type 0
    Answer x r = PartsAnswer S source s k x old new r

    -- ---- nets

    module _ (signed : Bool) (range : Option Bounds) (ns : List NetName) where
      abbrev wire : Item
      wire = i.Wire signed range ns

      pub wire-answer : (r : Result (Unit {0}) PartsError) → AreAll (IsNet s.names) ns → NetsAnswer S here s.path ns old new r → Answer wire r
      wire-answer (Ok u) n h =
          let a = (h.at n).right in
          record {
            right = record {
              added = record {
                more = a.added.more;
                kept = a.added.kept;
                views = a.added.views;
                good = λ q. a.added.good (record {
                  each = λ m c. record { operands = (passes has_net_operands ns q.operands).each m c; array = q.arrays.each m c };
                });
              };
              faultless = λ l. faultless-by wire (all-faultless here (net_sites s.names) ns a.clean) (rules-none wire refl refl refl refl refl refl);
            };
            wrong = tt;
          }
      wire-answer (Err (e.Fault a)) n h =
          let t : HasOne (IsToldNet here (e.Fault a)) ns = (h.at n).wrong in
          record {
            right = tt;
            wrong = Contains-append_left (node_faults here (flat_map (net_sites s.names) ns) (kind_of a)) (item_rules source (kind_of a) s (k, wire)) (place_of a)
                (node-among here (net_sites s.names) ns t.one (kind_of a) (place_of a) t.among t.holds);
          }
      wire-answer (Err e.Limit) n h = absurd (h.at n).wrong.holds
      wire-answer (Err e.NoMemory) n h = record { right = tt; wrong = tt }

    -- ---- assignments

    module _ (list : List Continuous) where
      abbrev assign : Item
      assign = i.Assign list

      rule-told : (x : Continuous) → Contains list x → (a : Fault) → Contains (assign_rules s.names x (kind_of a)) (place_of a) →
          Contains (item_rules source (kind_of a) s (k, assign)) (place_of a)
      rule-told x c (f.UnknownModule p) h = absurd (nowhere-in p h)
      rule-told x c (f.UnknownName p) h = absurd (nowhere-in p h)
      rule-told x c (f.Duplicate p) h = absurd (nowhere-in p h)
      rule-told x c (f.NotConstant p) h = absurd (nowhere-in p h)
      rule-told x c (f.ZeroDivisor p) h = absurd (nowhere-in p h)
      rule-told x c (f.Range p) h = gathered (λ a. target_fault s.names a.target) list x p c h
      rule-told x c (f.Recursion p) h = absurd (nowhere-in p h)
      rule-told x c (f.Port p) h = absurd (nowhere-in p h)

      pub assign-item : (r : Result (Unit {0}) PartsError) → AssignsAnswer S here s.path list old new r → Answer assign r
      assign-item (Ok u) h =
          let a = h.right in
          record {
            right = record {
              added = record {
                more = a.added.more;
                kept = a.added.kept;
                views = a.added.views ∙ ap (map view_of) (flat_map_single (assign_part s.names s.path) list);
                good = λ q. a.added.good (passes has_assign_operands list q.operands);
              };
              faultless = λ l. faultless-by assign (all-faultless here (assign_sites s.names) list (record { each = λ x c. (a.clean.each x c).nodes }))
                  (rules-none assign refl refl refl (all-empty (λ x. target_fault s.names x.target) list (λ x c. (a.clean.each x c).fits)) refl refl);
            };
            wrong = tt;
          }
      assign-item (Err (e.Fault a)) h =
          let t : HasOne (IsToldAssign here (e.Fault a)) list = h.wrong in
          let nodes : List ℕ = node_faults here (flat_map (assign_sites s.names) list) (kind_of a) in
          let rules : List ℕ = item_rules source (kind_of a) s (k, assign) in
          record {
            right = tt;
            wrong = elim (Contains-append_cases (node_faults here (assign_sites s.names t.one) (kind_of a)) (assign_rules s.names t.one (kind_of a)) (place_of a) t.holds) [
              | inl q ↦ Contains-append_left nodes rules (place_of a) (node-among here (assign_sites s.names) list t.one (kind_of a) (place_of a) t.among q)
              | inr q ↦ Contains-append_right nodes rules (place_of a) (rule-told t.one t.among a q)
            ];
          }
      assign-item (Err e.Limit) h = absurd h.wrong.holds
      assign-item (Err e.NoMemory) h = record { right = tt; wrong = tt }

    -- ---- a block

    module _ (watch : Watch) (stmt : Stmt) (place : ℕ) where
      abbrev always : Item
      always = i.Always watch stmt place

      abbrev ks : List Standing
      ks = standing here stmt

      edge-same : (z : Watch) → unknown_in_item source s.names (i.Always z stmt place) ≡ edge_faults s.names z
      edge-same (w.Posedge clock) = refl
      edge-same w.Star = refl
      edge-same w.Closed = refl

      rules-same : (kind : Kind) → stmt_rules here stmt kind ++ watch_rules s.names watch kind ≡ item_rules source kind s (k, always)
      rules-same UnknownModule = refl
      rules-same UnknownName = ap (λ (ns : List ℕ). flat_map unknown_in_form ks ++ ns) (sym (edge-same watch))
      rules-same Duplicate = append-nil (flat_map two_defaults ks)
      rules-same NotConstant = refl
      rules-same ZeroDivisor = refl
      rules-same Range = refl
      rules-same Recursion = refl
      rules-same Port = refl
      rules-same WrongKind = refl
      rules-same ClockUse = refl
      rules-same Blocking = refl
      rules-same Nonblocking = refl
      rules-same TwoDrivers = refl
      rules-same Undriven = refl
      rules-same Latch = refl
      rules-same ReadFirst = refl

      faults-same : (kind : Kind) → always_faults here watch stmt kind ≡ item_faults source kind s (k, always)
      faults-same kind =
          let nodes : List ℕ = flat_map (site_faults kind) (stmt_spots here stmt) in
          append_assoc nodes (stmt_rules here stmt kind) (watch_rules s.names watch kind) ∙ ap (λ (ns : List ℕ). nodes ++ ns) (rules-same kind)

      module _ (c : IsCleanAlways here watch stmt) where
        nodes-clean : AreFaultless (stmt_spots here stmt)
        nodes-clean = record {
          unknown = flat-flat (site_faults UnknownName) (λ m. form_spots m.here m.form) ks ∙
              all-empty (λ m. flat_map (site_faults UnknownName) (form_spots m.here m.form)) ks (λ m q. (c.stmts.each m q).nodes.unknown);
          unfixed = flat-flat (site_faults NotConstant) (λ m. form_spots m.here m.form) ks ∙
              all-empty (λ m. flat_map (site_faults NotConstant) (form_spots m.here m.form)) ks (λ m q. (c.stmts.each m q).nodes.unfixed);
          zero = flat-flat (site_faults ZeroDivisor) (λ m. form_spots m.here m.form) ks ∙
              all-empty (λ m. flat_map (site_faults ZeroDivisor) (form_spots m.here m.form)) ks (λ m q. (c.stmts.each m q).nodes.zero);
          range = flat-flat (site_faults Range) (λ m. form_spots m.here m.form) ks ∙
              all-empty (λ m. flat_map (site_faults Range) (form_spots m.here m.form)) ks (λ m q. (c.stmts.each m q).nodes.range);
        }

        rules-clean : (kind : Kind) → item_rules source kind s (k, always) ≡ []
        rules-clean UnknownModule = refl
        rules-clean UnknownName = both-empty (flat_map unknown_in_form ks) _ (all-empty unknown_in_form ks (λ m q. (c.stmts.each m q).names)) (edge-same watch ∙ c.edge)
        rules-clean Duplicate = all-empty two_defaults ks (λ m q. (c.stmts.each m q).defaults)
        rules-clean NotConstant = refl
        rules-clean ZeroDivisor = refl
        rules-clean Range = both-empty (flat_map range_in_form ks) [] (all-empty range_in_form ks (λ m q. (c.stmts.each m q).ranges)) refl
        rules-clean Recursion = refl
        rules-clean Port = refl
        rules-clean WrongKind = refl
        rules-clean ClockUse = refl
        rules-clean Blocking = refl
        rules-clean Nonblocking = refl
        rules-clean TwoDrivers = refl
        rules-clean Undriven = refl
        rules-clean Latch = refl
        rules-clean ReadFirst = refl

      pub always-item : (r : Result (Unit {0}) PartsError) → AlwaysAnswer S here s.path watch stmt place old new r → Answer always r
      always-item (Ok u) h =
          let a = h.right in
          record {
            right = record {
              added = record { more = a.added.more; kept = a.added.kept; views = a.added.views; good = λ q. a.added.good q.operands };
              faultless = λ l. faultless-by always (nodes-clean a.clean) (rules-clean a.clean);
            };
            wrong = tt;
          }
      always-item (Err (e.Fault a)) h = record {
        right = tt;
        wrong = subst (λ ns. Contains ns (place_of a)) (faults-same (kind_of a)) h.wrong;
      }
      always-item (Err e.Limit) h = record { right = tt; wrong = h.wrong }
      always-item (Err e.NoMemory) h = record { right = tt; wrong = tt }

-- ---- in each scope with these names and this path

module _ (S : Signals) (near : Here) (path : Name) (x : Item) (old new : List FlatPart) (r : Result (Unit {0}) PartsError) where
  pub item-Wire : (signed : Bool) (range : Option Bounds) (ns us : List NetName) → x ≡ i.Wire signed range ns → us ≡ ns → NetsAnswer S near path us old new r →
      ItemAnswer S near path x old new r
  item-Wire signed range ns us q v h = record {
    at = λ source s k there p n a. subst (λ z. PartsAnswer S source s k z old new r) (sym q)
        (wire-answer source s k S old new signed range ns r (subst (λ z. AreNets s.names z) q a)
        (subst (λ z. NetsAnswer S z s.path ns old new r) there (subst (λ z. NetsAnswer S near z ns old new r) (sym p) (subst (λ z. NetsAnswer S near path z old new r) v h))));
  }

  pub item-Assign : (list us : List Continuous) → x ≡ i.Assign list → us ≡ list → AssignsAnswer S near path us old new r → ItemAnswer S near path x old new r
  item-Assign list us q v h = record {
    at = λ source s k there p n a. subst (λ z. PartsAnswer S source s k z old new r) (sym q)
        (assign-item source s k S old new list r
        (subst (λ z. AssignsAnswer S z s.path list old new r) there
        (subst (λ z. AssignsAnswer S near z list old new r) (sym p) (subst (λ z. AssignsAnswer S near path z old new r) v h))));
  }

  pub item-Always : (watch : Watch) (stmt : Stmt) (place : ℕ) → x ≡ i.Always watch stmt place → AlwaysAnswer S near path watch stmt place old new r →
      ItemAnswer S near path x old new r
  item-Always watch stmt place q h = record {
    at = λ source s k there p n a. subst (λ z. PartsAnswer S source s k z old new r) (sym q)
        (always-item source s k S old new watch stmt place r
        (subst (λ z. AlwaysAnswer S z s.path watch stmt place old new r) there (subst (λ z. AlwaysAnswer S near z watch stmt place old new r) (sym p) h)));
  }
