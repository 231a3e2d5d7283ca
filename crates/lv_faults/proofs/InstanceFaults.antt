-- An item of instances has the faults of its settings and of each of its instances, and those of its module.
use Rattle.std.proofs.Common.{◌≡◌, ℕ, true, List, [], ◌∷◌, ◌++◌, refl, sym, ap, subst, ◌∙◌, Option, Some, None}
use Rattle.std.specs.Prelude.{flat_map, Contains}
use Rattle.std.proofs.lemmas.Grind.{flat_map-append}
use Rattle.lv_ast.specs.declared.stmt.Ident.{Ident}
use Rattle.lv_ast.specs.declared.item.Conn.{Conn}
use Rattle.lv_ast.specs.declared.item.Inst.{Inst}
use Rattle.lv_ast.specs.declared.item.Item.{Item}
use Rattle.lv_ast.specs.declared.item.Item.TheVariants as i
use Rattle.lv_ast.specs.declared.item.Module.{Module}
use Rattle.lv_ast.specs.declared.item.Source.{Source}
use Rattle.lv_source.specs.Faults.{site_faults}
use Rattle.lv_source.specs.Legal.{Kind, UnknownModule, UnknownName, Duplicate, NotConstant, ZeroDivisor, Range, Recursion, Port, WrongKind, ClockUse, Blocking, Nonblocking, TwoDrivers, Undriven, Latch, ReadFirst}
use Rattle.lv_source.specs.Names.{Here}
use Rattle.lv_source.specs.Scopes.{Scope, here_at, module_named, links}
use Rattle.lv_source.specs.ScopeRules.{setting_sites, inst_sites, item_spots, extra_settings, twice_linked, settable_of, inst_ports, ports_by}
use Rattle.lv_source.specs.Sites.{Site, Spot, spots}
use Rattle.lv_source.proofs.Refused.{In, in_contains, contains_in, in-left, in-right}
use Rattle.lv_source.proofs.FaultLaws.{in-flat}
use Rattle.lv_resolve.specs.Resolved.{AreFaultless, IsToldOf}
use Rattle.lv_resolve.specs.declared.error.ResolveError.{ResolveError}
use Rattle.lv_resolve.specs.declared.error.ResolveError.TheVariants as y
use Rattle.lv_faults.specs.declared.fault.Fault.TheVariants as f
use Rattle.lv_faults.specs.declared.fault.ScopeError.TheVariants as e
use Rattle.lv_faults.specs.Faults.{is_scope_kind, item_rules, item_faults, of_node, IsItemFault, IsFaultlessItem}
use Rattle.lv_faults.specs.Instances.{AreFaultlessSettings, IsFaultlessInst}
use Rattle.lv_faults.proofs.ScopeFaults.{flat_empty, both_empty, flat_over, over_empty}

spots_both : (here : Here) (xs ys : List Site) → spots here (xs ++ ys) ≡ spots here xs ++ spots here ys
spots_both here [] ys = refl
spots_both here (x ∷ xs) ys = ap (λ zs. (record { early = here.early; site = x }) ∷ zs) (spots_both here xs ys)

spots_over : {A : Type 0} (here : Here) (g : A → List Site) (xs : List A) → spots here (flat_map g xs) ≡ flat_map (λ x. spots here (g x)) xs
spots_over here g [] = refl
spots_over here g (x ∷ xs) = spots_both here (g x) (flat_map g xs) ∙ ap (λ zs. spots here (g x) ++ zs) (spots_over here g xs)

module _ (source : Source) (s : Scope) (k : ℕ) (kind : Ident) (settings : List Conn) (insts : List Inst) where
  abbrev item : ℕ × Item
  item = (k, i.Instance kind settings insts)

  abbrev of_settings : List Spot
  of_settings = spots (here_at s k) (setting_sites s s.names settings (module_named source kind.name))

  abbrev of_inst : Inst → List Spot
  of_inst inst = spots (here_at s k) (inst_sites source s s.names settings inst (module_named source kind.name))

  abbrev nodes : List Spot
  nodes = item_spots source s (here_at s k) (i.Instance kind settings insts)

  nodes_are : nodes ≡ of_settings ++ flat_map of_inst insts
  nodes_are =
      spots_both (here_at s k) (setting_sites s s.names settings (module_named source kind.name)) _ ∙
      ap (λ zs. of_settings ++ zs) (spots_over (here_at s k) (λ inst. inst_sites source s s.names settings inst (module_named source kind.name)) insts)

  told_are : (of : Kind) → flat_map (site_faults of) nodes ≡
      flat_map (site_faults of) of_settings ++ flat_map (site_faults of) (flat_map of_inst insts)
  told_are of = ap (flat_map (site_faults of)) nodes_are ∙ flat_map-append (site_faults of) of_settings (flat_map of_inst insts)

  -- ---- told

  setting_node : (of : Kind) (place : ℕ) → Contains (flat_map (site_faults of) of_settings) place → Contains (item_faults source of s item) place
  setting_node of place h =
      in_contains place (item_faults source of s item) (in-left place _ (item_rules source of s item)
      (subst (λ zs. In place zs) (sym (told_are of)) (in-left place _ (flat_map (site_faults of) (flat_map of_inst insts)) (contains_in place _ h))))

  inst_node : (of : Kind) (inst : Inst) (place : ℕ) → Contains insts inst → Contains (flat_map (site_faults of) (of_inst inst)) place →
      Contains (item_faults source of s item) place
  inst_node of inst place i h =
      in_contains place (item_faults source of s item) (in-left place _ (item_rules source of s item)
      (subst (λ zs. In place zs) (sym (told_are of)) (in-right place (flat_map (site_faults of) of_settings) _
      (flat_over (site_faults of) of_inst inst place insts (contains_in inst insts i) (contains_in place _ h)))))

  setting_by : (error : ResolveError) → IsToldOf of_settings error → IsItemFault source s item (of_node error)
  setting_by (y.UnknownName p) h = setting_node UnknownName p h
  setting_by (y.NotConstant p) h = setting_node NotConstant p h
  setting_by (y.ZeroDivisor p) h = setting_node ZeroDivisor p h
  setting_by (y.Range p) h = setting_node Range p h
  setting_by y.NoMemory h = h

  inst_by : (inst : Inst) (error : ResolveError) → Contains insts inst → IsToldOf (of_inst inst) error → IsItemFault source s item (of_node error)
  inst_by inst (y.UnknownName p) i h = inst_node UnknownName inst p i h
  inst_by inst (y.NotConstant p) i h = inst_node NotConstant inst p i h
  inst_by inst (y.ZeroDivisor p) i h = inst_node ZeroDivisor inst p i h
  inst_by inst (y.Range p) i h = inst_node Range inst p i h
  inst_by inst y.NoMemory i h = h

  port_in : (m : Module) (inst : Inst) (place : ℕ) → In inst insts → In place (inst_ports source s s.names settings m inst) →
      In place (ports_by source s s.names settings insts (Some m))
  port_in m inst place i h =
      in-right place (extra_settings s.names (settable_of (Some m)) settings ++ twice_linked s.names (links (settable_of (Some m)) settings)) _
      (in-flat (inst_ports source s s.names settings m) inst place insts i h)

  port_by : (m : Module) (inst : Inst) (place : ℕ) → module_named source kind.name ≡ Some m → Contains insts inst →
      Contains (inst_ports source s s.names settings m inst) place → IsItemFault source s item (e.Fault (f.Port place))
  port_by m inst place known among h =
      in_contains place (item_faults source Port s item) (in-right place (flat_map (site_faults Port) nodes) _
      (subst (λ found. In place (ports_by source s s.names settings insts found)) (sym known)
      (port_in m inst place (contains_in inst insts among) (contains_in place _ h))))

  -- ---- nothing is told

  module _ (whole : AreFaultlessSettings source s k kind settings insts) (each : (inst : Inst) → Contains insts inst → IsFaultlessInst source s k kind settings inst) where
    nodes_none : (of : Kind) → (((xs : List Spot) → AreFaultless xs → flat_map (site_faults of) xs ≡ [])) →
        flat_map (site_faults of) nodes ≡ []
    nodes_none of clean = told_are of ∙ both_empty _ _ (clean of_settings whole.nodes)
        (over_empty (site_faults of) of_inst insts (λ inst i. clean (of_inst inst) (each inst (in_contains inst insts i)).nodes))

    no_sites : (xs : List Spot) → flat_map {X = Spot} {A = ℕ} (λ x. []) xs ≡ []
    no_sites xs = flat_empty (λ x. []) xs (λ x i. refl)

    ports_none : (found : Option Module) → module_named source kind.name ≡ found → ports_by source s s.names settings insts found ≡ []
    ports_none None e = refl
    ports_none (Some m) e =
        both_empty _ _ (both_empty _ _
        (subst (λ (found : Option Module). extra_settings s.names (settable_of found) settings ≡ []) e whole.few)
        (subst (λ (found : Option Module). twice_linked s.names (links (settable_of found) settings) ≡ []) e whole.once))
        (flat_empty (inst_ports source s s.names settings m) insts (λ inst i. (each inst (in_contains inst insts i)).ports m e))

    none_by : (of : Kind) → is_scope_kind of ≡ true → item_faults source of s item ≡ []
    none_by UnknownModule e = both_empty _ _ (no_sites nodes) whole.known
    none_by UnknownName e = both_empty _ _ (nodes_none UnknownName (λ xs h. h.unknown)) whole.named
    none_by Duplicate e = both_empty _ _ (no_sites nodes) refl
    none_by NotConstant e = both_empty _ _ (nodes_none NotConstant (λ xs h. h.unfixed)) refl
    none_by ZeroDivisor e = both_empty _ _ (nodes_none ZeroDivisor (λ xs h. h.zero)) refl
    none_by Range e = both_empty _ _ (nodes_none Range (λ xs h. h.range)) refl
    none_by Recursion e = both_empty _ _ (no_sites nodes) whole.apart
    none_by Port e = both_empty _ _ (no_sites nodes) (ports_none (module_named source kind.name) refl)
    none_by WrongKind e = cc
    none_by ClockUse e = cc
    none_by Blocking e = cc
    none_by Nonblocking e = cc
    none_by TwoDrivers e = cc
    none_by Undriven e = cc
    none_by Latch e = cc
    none_by ReadFirst e = cc

    item_by : IsFaultlessItem source s item
    item_by = record { none = none_by }

pub setting_told : (source : Source) (s : Scope) (k : ℕ) (kind : Ident) (settings : List Conn) (insts : List Inst) (error : ResolveError) →
    IsToldOf (spots (here_at s k) (setting_sites s s.names settings (module_named source kind.name))) error →
    IsItemFault source s (k, i.Instance kind settings insts) (of_node error)
setting_told source s k kind settings insts error h = setting_by source s k kind settings insts error h

pub inst_told : (source : Source) (s : Scope) (k : ℕ) (kind : Ident) (settings : List Conn) (insts : List Inst) (inst : Inst) (error : ResolveError) →
    Contains insts inst → IsToldOf (spots (here_at s k) (inst_sites source s s.names settings inst (module_named source kind.name))) error →
    IsItemFault source s (k, i.Instance kind settings insts) (of_node error)
inst_told source s k kind settings insts inst error i h = inst_by source s k kind settings insts inst error i h

pub port_told : (source : Source) (s : Scope) (k : ℕ) (kind : Ident) (settings : List Conn) (insts : List Inst) (m : Module) (inst : Inst) (place : ℕ) →
    module_named source kind.name ≡ Some m → Contains insts inst → Contains (inst_ports source s s.names settings m inst) place →
    IsItemFault source s (k, i.Instance kind settings insts) (e.Fault (f.Port place))
port_told source s k kind settings insts m inst place known i h = port_by source s k kind settings insts m inst place known i h

pub faultless_item : (source : Source) (s : Scope) (k : ℕ) (kind : Ident) (settings : List Conn) (insts : List Inst) →
    AreFaultlessSettings source s k kind settings insts → ((inst : Inst) → Contains insts inst → IsFaultlessInst source s k kind settings inst) →
    IsFaultlessItem source s (k, i.Instance kind settings insts)
faultless_item source s k kind settings insts whole each = item_by source s k kind settings insts whole each
