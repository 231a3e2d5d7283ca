-- The scopes of an item of instances, by its module.
use Rattle.std.proofs.Common.{◌≡◌, true, false, if◌then◌else◌, List, [], ◌∷◌, ◌++◌, map, refl, sym, ap, ◌∙◌, subst, Some, None, ℕ, inl}
use Rattle.std.specs.Prelude.{flat_map, Contains}
use Rattle.lv_ast.specs.declared.stmt.Ident.{Ident}
use Rattle.lv_ast.specs.declared.item.Item.TheVariants as i
use Rattle.lv_ast.specs.declared.item.Module.{Module}
use Rattle.lv_ast.specs.declared.item.Source.{Source}
use Rattle.lv_ast.specs.declared.item.Conn.{Conn}
use Rattle.lv_ast.specs.declared.item.Inst.{Inst}
use Rattle.lv_source.specs.Scopes.{Scope, instance_scope, instance_scopes, is_among, module_named, settable_in, links}
use Rattle.lv_source.specs.ScopeRules.{unknown_module_in, extra_settings, twice_linked, settable_of, ports_by, recursive, unknown_setting, inst_ports, place_if, is_none}
use Rattle.lv_links.specs.Linking.{AreLinked, IsLinkError}
use Rattle.lv_links.specs.declared.linked.Linked.{Linked}
use Rattle.lv_links.specs.declared.linked.LinkError.{LinkError}
use Rattle.lv_links.specs.declared.linked.LinkError.TheVariants as l
use Rattle.std.proofs.lemmas.List.{map-append}
use Rattle.std.proofs.lemmas.List.Elements.{Contains-append_left, Contains-append_right}
use Rattle.lv_source.proofs.Refused.{in_contains}
use Rattle.lv_children.specs.declared.child.Child.{Child}
use Rattle.lv_children.specs.declared.child.ChildError.TheVariants as e
use Rattle.lv_children.specs.Children.{child_scope, all_seen, instance_of, AreInstances, AreNoInstances, spec_told}

module _ (source : Source) (s : Scope) (kind : Ident) (settings : List Conn) (insts : List Inst) where
  scopes_of_seen : (k : ℕ) (m : Module) (xs : List Inst) → map (child_scope s k) (map (instance_of m settings) xs) ≡ map (λ inst. instance_scope s settings inst m) xs
  scopes_of_seen k m [] = refl
  scopes_of_seen k m (x ∷ xs) = ap (λ ys. instance_scope s settings x m ∷ ys) (scopes_of_seen k m xs)

  all_scopes : (m : Module) → is_among s.around m.name.name ≡ false → (xs : List Inst) → flat_map (λ inst. instance_scopes s settings inst (Some m)) xs ≡ map (λ inst. instance_scope s settings inst m) xs
  all_scopes m out [] = refl
  all_scopes m out (x ∷ xs) =
      ap (λ b. (if b then [] else instance_scope s settings x m ∷ []) ++ flat_map (λ inst. instance_scopes s settings inst (Some m)) xs) out ∙
      ap (λ ys. instance_scope s settings x m ∷ ys) (all_scopes m out xs)

  module _ (m : Module) (found : module_named source kind.name ≡ Some m) where
    unnamed_module : unknown_module_in source s.names (i.Instance kind settings insts) ≡ []
    unnamed_module = ap (λ o. place_if (is_none o) kind.place) found

    pub are_instances : is_among s.around m.name.name ≡ false → (ls : List Linked) → AreLinked (settable_in m) settings ls → (old new : List Child) →
        all_seen new ≡ all_seen old ++ map (instance_of m settings) insts → AreInstances source s kind settings insts old new
    are_instances out ls linked old new adds = record {
      scopes = λ k. ap (map (child_scope s k)) adds ∙ (map-append (child_scope s k) (all_seen old) (map (instance_of m settings) insts) ∙ ap (λ ys. map (child_scope s k) (all_seen old) ++ ys) (scopes_of_seen k m insts ∙ sym (ap (λ o. flat_map (λ inst. instance_scopes s settings inst o) insts) found ∙ all_scopes m out insts)));
      known = unnamed_module;
      named = ap (λ o. unknown_setting o settings) found ∙ linked.listed;
      apart = ap (λ o. recursive s kind insts o) found ∙ ap (λ b. if b then kind.place ∷ map (λ inst. inst.name.place) insts else []) out;
      few = ap (λ o. extra_settings s.names (settable_of o) settings) found ∙ linked.few s.names;
      once = ap (λ o. twice_linked s.names (links (settable_of o) settings)) found ∙ linked.once s.names;
    }

    ports_are : ports_by source s s.names settings insts (Some m) ≡
        (extra_settings s.names (settable_in m) settings ++ twice_linked s.names (links (settable_in m) settings)) ++ flat_map (inst_ports source s s.names settings m) insts
    ports_are = refl

    pub are_none : (y : LinkError) → IsLinkError (settable_in m) settings y → AreNoInstances source s kind settings insts (spec_told y)
    are_none (l.Unlisted place) h = subst (λ o. Contains (unknown_setting o settings) place) (sym found) h.0
    are_none (l.Extra place) h =
        subst (λ o. Contains (ports_by source s s.names settings insts o) place) (sym found)
        (Contains-append_left _ (flat_map (inst_ports source s s.names settings m) insts) place (Contains-append_left _ _ place (h s.names).0))
    are_none (l.Twice place) h =
        subst (λ o. Contains (ports_by source s s.names settings insts o) place) (sym found)
        (Contains-append_left _ (flat_map (inst_ports source s s.names settings m) insts) place (Contains-append_right _ _ place (h s.names)))
    are_none l.NoMemory h = refl

    pub recurs : is_among s.around m.name.name ≡ true → AreNoInstances source s kind settings insts (e.Recursion kind.place)
    recurs among = subst (λ o. Contains (recursive s kind insts o) kind.place) (sym found)
        (subst (λ b. Contains (if b then kind.place ∷ map (λ inst. inst.name.place) insts else []) kind.place) (sym among) (in_contains kind.place (kind.place ∷ map (λ (inst : Inst). inst.name.place) insts) (inl refl)))

  pub unknown : module_named source kind.name ≡ None → AreNoInstances source s kind settings insts (e.UnknownModule kind.place)
  unknown absent = subst (λ o. Contains (place_if (is_none o) kind.place) kind.place) (sym absent) (in_contains kind.place (kind.place ∷ []) (inl refl))
