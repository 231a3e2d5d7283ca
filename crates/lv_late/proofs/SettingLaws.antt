-- The settings of an instance of which nothing is told have no fault.
use Rattle.std.proofs.Common.{◌≡◌, ℕ, ◌-◌, ◌≤◌, max, arith, Bool, true, false, List, [], ◌∷◌, ◌++◌, length, drop, ap, ◌∙◌, sym, subst, refl, flat_map, Option, Some, None, inl, inr}
use Rattle.std.specs.Prelude.{if◌then◌else◌, bytes_eq, slice_get, find}
use Rattle.std.specs.Option.{option_map}
use Rattle.lv_ast.specs.declared.expr.Path.{Path}
use Rattle.lv_ast.specs.declared.expr.Expr.{Expr}
use Rattle.lv_ast.specs.declared.item.Conn.{Conn}
use Rattle.lv_ast.specs.declared.item.Module.{Module}
use Rattle.lv_ast.specs.declared.item.Range.{Range}
use Rattle.lv_ast.specs.declared.stmt.Ident.{Ident}
use Rattle.lv_ast.specs.Names.{alone}
use Rattle.lv_source.specs.Names.{Names, Here, Declared, known, size, width_of}
use Rattle.lv_source.specs.Meaning.{meaning, read_expr}
use Rattle.lv_source.specs.Declarations.{Parameter, Declaration, of_module}
use Rattle.lv_source.specs.Scopes.{Scope, Link, links, overrides, overridden, parameter, with_parameters, no_names, settable_in, setting_width, here_at, bounds_of}
use Rattle.lv_source.specs.ScopeRules.{maybe_sites, setting_sites, parameter_width, range_sites, is_none, is_ordered, conn_if}
use Rattle.lv_source.specs.Sites.{Site, Walk, Value, walk, expr_sites, position, spots}
use Rattle.lv_source.proofs.Refused.{In}
use Rattle.lv_source.proofs.Tests.{same_name}
use Rattle.lv_const.specs.Answers.{Sound}
use Rattle.lv_const.proofs.Told.{first-empty, second-empty, sound-none, divides-none}
use Rattle.lv_const.proofs.WalkReads.{walk-reads}
use Rattle.lv_scopes.specs.Numbers.{AreClean}
use Rattle.lv_scopes.proofs.TurnLaws.{join_clean}
use Rattle.lv_symbols.specs.Frames.{Frame, constants_in, AreSoundIn, IsSoundIn, given_value}
use Rattle.lv_symbols.specs.Making.{IsGivenClean, IsSoundHere}
use Rattle.lv_links.specs.declared.linked.Linked.{Linked}
use Rattle.lv_links.specs.Linking.{AreLinked}
use Rattle.lv_resolve.specs.Resolved.{AreFaultless}
use Rattle.lv_late.specs.Accepted.{IsInstance}
use Rattle.lv_late.proofs.CleanLaws.{clean-faultless}
use Rattle.lv_late.proofs.Roots.{has-width}
use Rattle.lv_late.proofs.LinkedOnce.{IsSettable, settable-found, port-listed, once-found, no-conn}
use Rattle.lv_late.proofs.ScopeNames.{constant-is}
use Rattle.lv_late.proofs.Behind.{behind, sound-left, same-bounds}

-- ---- at one width or another

module _ (names : Names) (x : Expr) where
  abbrev w : Walk
  w = walk names x

  abbrev own : ℕ
  own = w.shown.reading.meaning.width

  same-width : (a b : ℕ) → max a own ≡ max b own → expr_sites true names a x ≡ expr_sites true names b x
  same-width a b e = ap (λ z. w.sites Value (position true w) z w.shown.reading.meaning.signed) e

  plain : (o : ℕ) → 1 ≤ o → max (size (record { left = o - 1; right = 0 })) o ≡ max 0 o
  plain o h = omega arith

  -- the width of a parameter with this value
  pub by-parameter : (names' : Names) (n : Ident) (signed : Bool) (range : Option Range) (here : Names) →
      ((r : Range) → range ≡ Some r → size (bounds_of names' r) ≡ size (bounds_of here r)) → 1 ≤ own →
      expr_sites true names (width_of (parameter names' n signed range names x)) x ≡ expr_sites true names (parameter_width here range) x
  by-parameter names' n signed None here f o =
      let r : w.shown.reading ≡ read_expr names x = walk-reads names x in
      same-width (size (record { left = (meaning names x).width - 1; right = 0 })) 0
      (ap (λ z. max (size (record { left = z.meaning.width - 1; right = 0 })) own) (sym r) ∙ plain own o)
  by-parameter names' n signed (Some r) here f o = same-width (size (bounds_of names' r)) (size (bounds_of here r)) (ap (λ z. max z own) (f r refl))

  pub clean-width : (early : Path → Bool) (width : ℕ) → AreClean early (expr_sites true names width x) → 1 ≤ own
  clean-width early width c = has-width early names x (position true w) (max width own) w.shown.reading.meaning.signed c.sound.none

-- ---- lists

module _ (early : Path → Bool) where
  none-clean : AreClean early []
  none-clean = record { sound = sound-none early; divides = divides-none }

  flat-clean : {A : Type 0} (g : A → List Site) (xs : List A) → ((x : A) → In x xs → AreClean early (g x)) → AreClean early (flat_map g xs)
  flat-clean g [] f = none-clean
  flat-clean g (x ∷ xs) f = join_clean early (g x) (flat_map g xs) (f x (inl refl)) (flat-clean g xs (λ y i. f y (inr i)))

ordered-none : (names : Names) (cs : List Conn) → flat_map (λ c. conn_if (is_ordered c) names c) cs ≡ [] →
    flat_map (λ c. if is_none c.name then maybe_sites true names 0 c.value else []) cs ≡ []
ordered-none names [] h = refl
ordered-none names (c ∷ cs) h =
    ap (λ b. (if b then maybe_sites true names 0 c.value else []) ++ flat_map (λ c. if is_none c.name then maybe_sites true names 0 c.value else []) cs)
    (no-conn (is_ordered c) names c (first-empty (conn_if (is_ordered c) names c) (flat_map (λ c. conn_if (is_ordered c) names c) cs) h)) ∙
    ordered-none names cs (second-empty (conn_if (is_ordered c) names c) (flat_map (λ c. conn_if (is_ordered c) names c) cs) h)

-- ---- an instance

module _ (here : Here) (s : Scope) (settings : List Conn) (m : Module) (f : Frame) (i : IsInstance here s settings m f)
    (ls : List Linked) (l : AreLinked (settable_in m) settings ls) where
  abbrev ks : List Link
  ks = links (settable_in m) settings

  -- the parameter that a setting gives its value
  pub record IsSetting (k : Link) (x : Expr) : Type 0 where
    pub at : ℕ
    pub ident : Ident
    pub signed : Bool
    pub range : Option Range
    pub value : Expr
    pub is : slice_get (of_module m) at ≡ Some (record { name = ident; thing = Parameter false signed range value })
    pub named : ident.name ≡ k.port
    pub given : find (λ o. bytes_eq o.name ident.name) f.overrides ≡ Some (record { name = k.port; there = s.names; value = x })

  pub setting : (k : Link) (x : Expr) → In k ks → k.conn.value ≡ Some x → IsSetting k x
  setting k x j e =
      let a : IsSettable (of_module m) k.port = settable-found (of_module m) k.port (port-listed (settable_in m) settings k l.listed j) in
      let n : a.ident.name ≡ k.port = same_name a.ident.name k.port a.named in record {
        at = a.at;
        ident = a.ident;
        signed = a.signed;
        range = a.range;
        value = a.value;
        is = a.is;
        named = n;
        given = ap (λ z. find (λ o. bytes_eq o.name z) f.overrides) n ∙ (ap (find (λ o. bytes_eq o.name k.port)) i.overrides ∙
            once-found s.names s.names ks k x (l.once s.names) j e);
      }

  module _ (k : Link) (x : Expr) (q : IsSetting k x) where
    d-is : slice_get f.scope.declarations q.at ≡ Some (record { name = q.ident; thing = Parameter false q.signed q.range q.value })
    d-is = ap (λ ds. slice_get ds q.at) i.declarations ∙ q.is

    all-constants : constants_in f ≡ with_parameters (overrides s.names settings m) no_names (of_module m)
    all-constants = ap (λ os. with_parameters os f.base f.scope.declarations) i.overrides ∙
        (ap (λ b. with_parameters (overrides s.names settings m) b f.scope.declarations) i.base ∙ ap (with_parameters (overrides s.names settings m) no_names) i.declarations)

    abbrev set : Declared
    set = parameter (behind f i.scope q.at) q.ident q.signed q.range s.names x

    constant : constants_in f (alone q.ident.name) ≡ Some set
    constant = constant-is f i.scope q.at q.ident false q.signed q.range q.value d-is (alone q.ident.name) refl refl ∙
        ap (λ o. Some (overridden (behind f i.scope q.at) q.ident q.signed q.range q.value o)) q.given

    -- a setting is taken at the width of its parameter
    pub taken-at : setting_width s.names settings m k.port ≡ width_of set
    taken-at = ap (λ z. width_of (known (with_parameters (overrides s.names settings m) no_names (of_module m) (alone z)))) (sym q.named) ∙
        ap (λ z. width_of (known z)) (ap (λ (z : Names). z (alone q.ident.name)) (sym all-constants) ∙ constant)

    abbrev q-declaration : Declaration
    q-declaration = record { name = q.ident; thing = Parameter false q.signed q.range q.value }

    pub given-is : given_value f.overrides q-declaration ≡ Some x
    given-is = ap (option_map (λ o. o.value)) q.given

    module _ (own : IsSoundHere (here_at f.scope q.at) q-declaration) (some : 1 ≤ (walk s.names x).shown.reading.meaning.width) where
      range-sound : Sound (here_at f.scope q.at).early (range_sites f.scope.names q.range)
      range-sound = sound-left (here_at f.scope q.at).early (range_sites f.scope.names q.range)
          (expr_sites true f.scope.names (parameter_width f.scope.names q.range) q.value) own.clean.sound

      same-size : (r : Range) → q.range ≡ Some r → size (bounds_of (behind f i.scope q.at) r) ≡ size (bounds_of f.scope.names r)
      same-size r e = ap size (same-bounds f i.scope q.at r (subst (λ z. Sound (here_at f.scope q.at).early (range_sites f.scope.names z)) e range-sound))

      -- its nodes as `declare` takes them
      pub same-sites : expr_sites true s.names (setting_width s.names settings m k.port) x ≡ expr_sites true s.names (parameter_width f.scope.names q.range) x
      same-sites = ap (λ z. expr_sites true s.names z x) taken-at ∙
          by-parameter s.names x (behind f i.scope q.at) q.ident q.signed q.range f.scope.names same-size some

    module _ (sound : IsSoundIn f q.at q-declaration) where
      outside-clean : AreClean f.outside.early (expr_sites true f.outside.names (parameter_width f.scope.names q.range) x)
      outside-clean = subst (IsGivenClean (here_at f.scope q.at) f.outside q.range) given-is sound.given

      here-clean : AreClean here.early (expr_sites true here.names (parameter_width f.scope.names q.range) x)
      here-clean = subst (λ (z : Here). AreClean z.early (expr_sites true z.names (parameter_width f.scope.names q.range) x)) i.outside outside-clean

      value-clean : AreClean here.early (expr_sites true s.names (parameter_width f.scope.names q.range) x)
      value-clean = subst (λ z. AreClean here.early (expr_sites true z (parameter_width f.scope.names q.range) x)) i.names here-clean

      pub setting-clean : AreClean here.early (expr_sites true s.names (setting_width s.names settings m k.port) x)
      setting-clean = subst (AreClean here.early)
          (sym (same-sites sound.own (clean-width s.names x here.early (parameter_width f.scope.names q.range) value-clean))) value-clean

  module _ (sound : AreSoundIn f (of_module m)) where
    link-clean : (k : Link) (o : Option Expr) → In k ks → k.conn.value ≡ o → AreClean here.early (maybe_sites true s.names (setting_width s.names settings m k.port) o)
    link-clean k None j e = none-clean here.early
    link-clean k (Some x) j e = let q : IsSetting k x = setting k x j e in setting-clean k x q (sound.each q.at _ q.is)

    links-clean : AreClean here.early (flat_map (λ k. maybe_sites true s.names (setting_width s.names settings m k.port) k.conn.value) ks)
    links-clean = flat-clean here.early (λ k. maybe_sites true s.names (setting_width s.names settings m k.port) k.conn.value) ks (λ k j. link-clean k k.conn.value j refl)

    all-clean : AreClean here.early (setting_sites s s.names settings (Some m))
    all-clean = subst (λ zs. AreClean here.early (flat_map (λ k. maybe_sites true s.names (setting_width s.names settings m k.port) k.conn.value) ks ++ zs))
        (sym (ordered-none s.names (drop (length (settable_in m)) settings) (l.few s.names)))
        (join_clean here.early (flat_map (λ k. maybe_sites true s.names (setting_width s.names settings m k.port) k.conn.value) ks) [] links-clean (none-clean here.early))

    pub settings-faultless : AreFaultless (spots here (setting_sites s s.names settings (Some m)))
    settings-faultless = clean-faultless here (setting_sites s s.names settings (Some m)) all-clean
