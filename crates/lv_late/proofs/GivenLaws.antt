-- What is answered of all settings of an instance, and of a fault that is told of one of them.
use Rattle.std.proofs.Common.{◌≡◌, inl, inr, ℕ, ◌+◌, ◌<◌, ◌≤◌, true, false, List, [], ◌∷◌, ◌++◌, take, drop, length, get_or, ap, ◌∙◌, sym, subst, refl, flat_map, Option, Some, None}
use Rattle.std.specs.Prelude.{bytes_eq, find, if◌then◌else◌}
use Rattle.std.specs.List.{Contains, All}
use Rattle.std.proofs.lemmas.List.{length-map, get_or-map}
use Rattle.std.proofs.lemmas.List.Elements.{Contains-append_left, Contains-append_cases}
use Rattle.lv_ast.specs.declared.expr.Expr.{Expr}
use Rattle.lv_ast.specs.declared.item.Conn.{Conn}
use Rattle.lv_ast.specs.declared.item.Module.{Module}
use Rattle.lv_source.specs.Names.{Here}
use Rattle.lv_source.specs.Meaning.{Reading, own_width}
use Rattle.lv_source.specs.Declarations.{Parameter, Declaration, of_module}
use Rattle.lv_source.specs.Faults.{site_faults}
use Rattle.lv_source.specs.Legal as kind
use Rattle.lv_source.specs.Scopes.{Scope, Link, links, Override, settable_in, setting_width, here_at}
use Rattle.lv_source.specs.ScopeRules.{maybe_sites, setting_sites, parameter_width, is_none}
use Rattle.lv_source.specs.Sites.{Site, Spot, walk, expr_sites, spots}
use Rattle.lv_source.proofs.Bridges.{map-join}
use Rattle.lv_source.proofs.Refused.{in_contains}
use Rattle.lv_source.proofs.Tests.{same_name}
use Rattle.lv_const.specs.declared.error.ConstError.{ConstError}
use Rattle.lv_const.specs.declared.error.ConstError.TheVariants as y
use Rattle.lv_const.specs.Faults.{all_faults}
use Rattle.lv_const.proofs.Refusals.{found, Found, gathered}
use Rattle.lv_const.proofs.Stands.{Stands, walk-stands}
use Rattle.lv_const.proofs.WalkReads.{walk-reads}
use Rattle.lv_scopes.specs.Parameters.{value_sites}
use Rattle.lv_symbols.specs.Frames.{Frame, IsToldIn, given_value}
use Rattle.lv_symbols.specs.Making.{given_faults, IsSoundHere}
use Rattle.lv_symbols.specs.declared.symbol.SymbolError.TheVariants.{Given}
use Rattle.lv_links.specs.declared.linked.Linked.{Linked}
use Rattle.lv_links.specs.Linking.{AreLinked, link_of, all_links}
use Rattle.lv_links.proofs.Lists.{taken}
use Rattle.lv_resolve.specs.Resolved.{IsToldOf}
use Rattle.lv_resolve.specs.declared.error.ResolveError.{ResolveError}
use Rattle.lv_resolve.specs.declared.error.ResolveError.TheVariants as x
use Rattle.lv_resolve.proofs.Covers.{nowhere-in, in-same}
use Rattle.lv_resolve.proofs.Zeros.{single}
use Rattle.lv_faults.specs.declared.fault.ScopeError.{ScopeError}
use Rattle.lv_faults.specs.Faults.{of_node}
use Rattle.lv_late.specs.Accepted.{IsInstance}
use Rattle.lv_late.specs.Settings.{IsSettingFault, IsFormedValue, IsFormedMaybe, IsFaultyMaybe, AreFormed, HasFaulty, kind_of}
use Rattle.lv_late.specs.Lates.{is_fault}
use Rattle.lv_late.proofs.ValueLaws.{kind-fault}
use Rattle.lv_late.proofs.LinkedOnce.{IsFrom, from-found, IsGiven, given-declaration}
use Rattle.lv_late.proofs.SettingLaws.{IsSetting, same-sites}
use Rattle.lv_late.proofs.Sited.{range-told, zero-told}

-- ---- one by one

module _ (ls : List Linked) (i : ℕ) (l : Linked) (h : i < length ls) (e : l ≡ get_or ls i l) where
  pub linked-there : Contains (all_links ls) (link_of l)
  linked-there = (i, subst (λ n. i < n) (sym (length-map ls link_of)) h, get_or-map link_of ls i l (link_of l) h ∙ ap link_of (sym e))

  pub formed-more : (here : Here) → AreFormed here (all_links (take i ls)) → IsFormedMaybe here (link_of l).conn.value → AreFormed here (all_links (take (i + 1) ls))
  formed-more here f n =
      subst (AreFormed here) (sym (ap all_links (taken ls i l h e) ∙ map-join link_of (take i ls) (l ∷ []))) (record {
        each = λ k c. elim (Contains-append_cases (all_links (take i ls)) (link_of l ∷ []) k c) [
          | inl d ↦ f.each k d
          | inr d ↦ subst (λ (z : Link). IsFormedMaybe here z.conn.value) (single (link_of l) k d) n
        ];
      })

faulty-kind : (here : Here) (o : Option Expr) (q : ResolveError) → IsFaultyMaybe here o q → is_fault q ≡ true
faulty-kind here None q h = absurd h
faulty-kind here (Some v) q h = h.fault

-- ---- from nodes to more nodes

abbrev spot : Here → Site → Spot
spot here s = record { early = here.early; site = s }

spotted : (here : Here) (f : Spot → List ℕ) (ss : List Site) → flat_map f (spots here ss) ≡ flat_map (λ s. f (spot here s)) ss
spotted here f [] = refl
spotted here f (s ∷ ss) = ap (λ ns. f (spot here s) ++ ns) (spotted here f ss)

raised : (here : Here) (f : Spot → List ℕ) (ss ts : List Site) → ((z : Site) → Contains ss z → Contains ts z) → (p : ℕ) → Contains (flat_map f (spots here ss)) p →
    Contains (flat_map f (spots here ts)) p
raised here f ss ts among p h =
    let g : Found (λ s. f (spot here s)) ss p = found (λ s. f (spot here s)) ss p (in-same _ _ p (spotted here f ss) h) in
    in-same _ _ p (sym (spotted here f ts)) (gathered (λ s. f (spot here s)) ts g.one p (among g.one g.among) g.holds)

told-among : (here : Here) (ss ts : List Site) → ((z : Site) → Contains ss z → Contains ts z) → (q : ResolveError) → IsToldOf (spots here ss) q → IsToldOf (spots here ts) q
told-among here ss ts among (x.UnknownName p) h = raised here (site_faults kind.UnknownName) ss ts among p h
told-among here ss ts among (x.NotConstant p) h = raised here (site_faults kind.NotConstant) ss ts among p h
told-among here ss ts among (x.ZeroDivisor p) h = raised here (site_faults kind.ZeroDivisor) ss ts among p h
told-among here ss ts among (x.Range p) h = raised here (site_faults kind.Range) ss ts among p h
told-among here ss ts among x.NoMemory h = tt

-- ---- an instance

module _ (here : Here) (s : Scope) (settings : List Conn) (m : Module) (f : Frame) (i : IsInstance here s settings m f)
    (ls : List Linked) (l : AreLinked (settable_in m) settings ls) where
  abbrev ks : List Link
  ks = links (settable_in m) settings

  abbrev sites_of : Link → List Site
  sites_of k = maybe_sites true s.names (setting_width s.names settings m k.port) k.conn.value

  abbrev all : List Site
  all = setting_sites s s.names settings (Some m)

  abbrev rest : List Site
  rest = flat_map (λ c. if is_none c.name then maybe_sites true s.names 0 c.value else []) (drop (length (settable_in m)) settings)

  link-among : (k : Link) → Contains ks k → (z : Site) → Contains (sites_of k) z → Contains all z
  link-among k c z h = Contains-append_left (flat_map sites_of ks) rest z (gathered sites_of ks k z c h)

  -- a fault of the value of a setting is one of them
  value-told : (k : Link) (v : Expr) (q : ResolveError) → Contains ks k → k.conn.value ≡ Some v →
      IsToldOf (spots here (expr_sites true s.names (setting_width s.names settings m k.port) v)) q → IsToldOf (spots here all) q
  value-told k v q c e h =
      told-among here (sites_of k) all (link-among k c) q
      (subst (λ o. IsToldOf (spots here (maybe_sites true s.names (setting_width s.names settings m k.port) o)) q) (sym e) h)

  faulty-told : (k : Link) (o : Option Expr) (q : ResolveError) → Contains ks k → k.conn.value ≡ o → IsFaultyMaybe here o q → IsToldOf (spots here all) q
  faulty-told k None q c e h = absurd h
  faulty-told k (Some v) q c e h =
      value-told k v q c e (subst (λ ns. IsToldOf (spots here (expr_sites true ns (setting_width s.names settings m k.port) v)) q) i.names
      (h.told (setting_width s.names settings m k.port)))

  -- whatever is told of a declaration
  pub faulty-fault : (q : ResolveError) (z : ScopeError) → z ≡ of_node q → HasFaulty here (all_links ls) q → IsSettingFault here s settings m z
  faulty-fault q z e h = record {
    node = q;
    fault = faulty-kind here h.link.conn.value q h.faulty;
    is = e;
    told = faulty-told h.link h.link.conn.value q (subst (λ zs. Contains zs h.link) l.are h.among) refl h.faulty;
  }

  -- ---- where each value has a width, and each name in it is a constant that is declared before

  module _ (formed : AreFormed here (all_links ls)) (z : ConstError) (t : IsToldIn f (of_module m) (Given z)) where
    abbrev d : Declaration
    d = t.declaration

    abbrev there : Here
    there = here_at f.scope t.at

    module _ (v : Expr) (g : IsGiven f.overrides d v) where
      from : IsFrom s.names ks g.ident.name g.over
      from = from-found s.names ks g.ident.name g.over (ap (find (λ o. bytes_eq o.name g.ident.name)) (sym i.overrides) ∙ g.found)

      abbrev k : Link
      k = from.link

      has-value : k.conn.value ≡ Some v
      has-value = from.value ∙ ap (λ w. Some w) g.given

      among : Contains ks k
      among = in_contains k ks from.among

      q : IsSetting here s settings m f i ls l k v
      q = record {
        at = t.at;
        ident = g.ident;
        signed = g.signed;
        range = g.range;
        value = g.value;
        is = t.is ∙ ap (λ w. Some w) g.is;
        named = sym (same_name k.port g.ident.name from.named);
        given = g.found ∙ (ap (λ w. Some w) from.is ∙ ap (λ w. Some (let o : Override = record { name = k.port; there = s.names; value = w } in o)) g.given);
      }

      is-formed : IsFormedValue here v
      is-formed = subst (IsFormedMaybe here) has-value (formed.each k (subst (λ zs. Contains zs k) (sym l.are) among))

      wide : 1 ≤ (walk s.names v).shown.reading.meaning.width
      wide = subst (λ (r : Reading). 1 ≤ r.meaning.width) (sym (walk-reads s.names v)) (subst (λ ns. 1 ≤ own_width ns v) i.names is-formed.some)

      abbrev width : ℕ
      width = parameter_width f.scope.names g.range

      abbrev Told-at : List Site → Type 0
      Told-at ss = Contains (flat_map (all_faults here.early) ss) z

      sound : IsSoundHere there (record { name = g.ident; thing = Parameter false g.signed g.range g.value })
      sound = subst (IsSoundHere there) g.is t.told.1

      same : expr_sites true s.names (setting_width s.names settings m k.port) v ≡ expr_sites true s.names width v
      unfolding q
      same = same-sites here s settings m f i ls l k v q sound wide

      told-outside : given_value f.overrides d ≡ Some v → Contains (flat_map (all_faults f.outside.early) (value_sites there f.outside g.range v)) z
      told-outside e =
          let a : Contains (given_faults there f.outside (Some v) d) z = subst (λ o. Contains (given_faults there f.outside o d) z) e t.told.0 in
          subst (λ (w : Declaration). Contains (given_faults there f.outside (Some v) w) z) g.is a

      told-here : given_value f.overrides d ≡ Some v → Told-at (expr_sites true here.names width v)
      told-here e = subst (λ (o : Here). Contains (flat_map (all_faults o.early) (expr_sites true o.names width v)) z) i.outside (told-outside e)

      stand : All (Stands here.names) (expr_sites true here.names width v)
      stand = walk-stands here.names v _ _ _

      of-kind : (w : ConstError) → z ≡ w → Told-at (expr_sites true here.names width v) → IsToldOf (spots here (expr_sites true here.names width v)) (kind_of w)
      of-kind (y.NoValue p) e h = absurd (is-formed.named width p (record { found = subst (Contains (flat_map (all_faults here.early) (expr_sites true here.names width v))) e h }))
      of-kind (y.Range p) e h =
          range-told here (expr_sites true here.names width v) stand p (subst (Contains (flat_map (all_faults here.early) (expr_sites true here.names width v))) e h)
      of-kind (y.ZeroDivisor p) e h =
          zero-told here (expr_sites true here.names width v) stand p (subst (Contains (flat_map (all_faults here.early) (expr_sites true here.names width v))) e h)

      given-told : given_value f.overrides d ≡ Some v → IsToldOf (spots here all) (kind_of z)
      given-told e =
          value-told k v (kind_of z) among has-value
          (subst (λ ss. IsToldOf (spots here ss) (kind_of z)) (sym same)
          (subst (λ ns. IsToldOf (spots here (expr_sites true ns width v)) (kind_of z)) i.names (of-kind z refl (told-here e))))

    by-value : (o : Option Expr) → given_value f.overrides d ≡ o → IsToldOf (spots here all) (kind_of z)
    by-value None e = absurd (nowhere-in z (subst (λ o. Contains (given_faults there f.outside o d) z) e t.told.0))
    by-value (Some v) e = given-told v (given-declaration f.overrides d v e) e

    pub given-fault : (a : ScopeError) (b : ResolveError) → a ≡ of_node b → b ≡ kind_of z → IsSettingFault here s settings m a
    given-fault a b e h = record { node = kind_of z; fault = kind-fault z; is = e ∙ ap of_node h; told = by-value (given_value f.overrides d) refl }
