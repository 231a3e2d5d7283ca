-- Each scope of the design has a list of the constants around it.
use Rattle.std.proofs.Common.{◌≡◌, inl, inr, ℕ, zero, suc, true, false, List, [], ◌∷◌, map, subst, Option, Some, None}
use Rattle.std.specs.Prelude.{flat_map, Contains}
use Rattle.lv_ast.specs.declared.stmt.Ident.{Ident}
use Rattle.lv_ast.specs.declared.item.Item.{Item}
use Rattle.lv_ast.specs.declared.item.Item.TheVariants as i
use Rattle.lv_ast.specs.declared.item.Conn.{Conn}
use Rattle.lv_ast.specs.declared.item.Inst.{Inst}
use Rattle.lv_ast.specs.declared.item.Module.{Module}
use Rattle.lv_ast.specs.declared.item.Source.{Source}
use Rattle.lv_ast.specs.Trees.{spread_all}
use Rattle.lv_source.specs.Effect.{turns}
use Rattle.lv_source.specs.Declarations.{port_names}
use Rattle.lv_source.specs.Scopes.{Scope, is_among, turn_scope, module_named, overrides, clock_by, links, instance_scope, instance_scopes, children, children_by, counted_from, scopes_within}
use Rattle.lv_source.specs.Parts.{Design, scopes_from, scopes_of, depth, top_scope}
use Rattle.lv_source.specs.Constants.{Entry, Around, in_module, in_turn}
use Rattle.lv_source.proofs.Refused.{In, contains_in}
use Rattle.lv_source.proofs.Trees.{in-from}
use Rattle.lv_source.proofs.Kids.{mapped-from, instance_if}

abbrev pub IsSurrounded : Scope → Type 0
IsSurrounded s = (es : List Entry) × Around s es

module _ (source : Source) (s : Scope) (around : IsSurrounded s) where
  inst_surrounded : (settings : List Conn) (inst : Inst) (o : Option Module) (c : Scope) → In c (instance_scopes s settings inst o) → IsSurrounded c
  inst_surrounded settings inst None c h = absurd h
  inst_surrounded settings inst (Some m) c h =
      subst (λ (z : Scope). IsSurrounded z) (instance_if (is_among s.around m.name.name) (instance_scope s settings inst m) c h)
      ([], in_module (instance_scope s settings inst m).path false s.around (overrides s.names settings m) (λ constants. flat_map (clock_by s.names) (links (port_names m.ports) inst.conns)) m)

  turn_surrounded : (k : ℕ) (index label : Ident) (items : List Item) (ks : List ℕ) (c : Scope) → In c (map (turn_scope s k index label items) ks) → IsSurrounded c
  turn_surrounded k index label items ks c h =
      let r : (v : ℕ) × In v ks × (turn_scope s k index label items v ≡ c) = mapped-from (turn_scope s k index label items) c ks h in
      subst (λ (z : Scope). IsSurrounded z) r.2 (_, in_turn s around.0 k index label items r.0 around.1)

  item_surrounded : (k : ℕ) (x : Item) (c : Scope) → In c (children_by source s (k, x)) → IsSurrounded c
  item_surrounded k (i.Instance kind settings insts) c h =
      (let r : (n : Inst) × In n insts × In c (instance_scopes s settings n (module_named source kind.name)) = in-from (λ n. instance_scopes s settings n (module_named source kind.name)) c insts h in
      inst_surrounded settings r.0 (module_named source kind.name) c r.2)
  item_surrounded k (i.Loop' index start test again next label n items) c h = turn_surrounded k index label (spread_all items) (turns s.names index.name start test next) c h
  item_surrounded k (i.Port a) c h = absurd h
  item_surrounded k (i.Wire signed range names) c h = absurd h
  item_surrounded k (i.Reg signed range names) c h = absurd h
  item_surrounded k (i.Index genvar names) c h = absurd h
  item_surrounded k (i.Params local ps) c h = absurd h
  item_surrounded k (i.Assign list) c h = absurd h
  item_surrounded k (i.Always watch stmt place) c h = absurd h
  item_surrounded k (i.Generate' n items) c h = absurd h

  child_surrounded : (c : Scope) → In c (children source s) → IsSurrounded c
  child_surrounded c h =
      (let r : (kx : ℕ × Item) × In kx (counted_from s.header s.items) × In c (children_by source s kx) = in-from (children_by source s) c (counted_from s.header s.items) h in
      item_surrounded r.0.0 r.0.1 c r.2)

within_surrounded : (source : Source) (n : ℕ) (s : Scope) → IsSurrounded s → (u : Scope) → In u (scopes_within n source s) → IsSurrounded u
within_surrounded source zero s a u h = absurd h
within_surrounded source (suc n) s a u (inl e) = subst (λ (z : Scope). IsSurrounded z) e a
within_surrounded source (suc n) s a u (inr h) =
    let r : (c : Scope) × In c (children source s) × In u (scopes_within n source c) = in-from (scopes_within n source) u (children source s) h in
    within_surrounded source n r.0 (child_surrounded source s a r.0 r.1) u r.2

from_surrounded : (d : Design) (o : Option Module) (u : Scope) → In u (scopes_from d o) → IsSurrounded u
from_surrounded d None u h = absurd h
from_surrounded d (Some m) u h =
    within_surrounded d.source (suc (depth d.source)) (top_scope d m) ([], in_module [] true [] [] (λ constants. d.clock ∷ []) m) u h

pub scopes_surrounded : (d : Design) (s : Scope) → Contains (scopes_of d) s → IsSurrounded s
unfolding scopes_of
scopes_surrounded d s h = from_surrounded d (module_named d.source d.top) s (contains_in s (scopes_of d) h)
