use Rattle.std.proofs.Common.{◌≡◌, ◌+◌, not, List, [], ◌∷◌, ◌++◌, map, take, refl, sym, ap, ◌∙◌, subst}
use Rattle.std.specs.Prelude.{bytes_eq, if◌then◌else◌}
use Rattle.std.specs.List.{list_any}
use Rattle.std.proofs.lemmas.List.{take_more}
use Rattle.lv_ast.specs.declared.expr.Expr.{Expr}
use Rattle.lv_ast.specs.Names.{Name}
use Rattle.lv_source.proofs.Bridges.{map-join}
use Rattle.lv_scopes.specs.NameLists.{listed}
use Rattle.lv_symbols.specs.declared.givens.Given.{Given}
use Rattle.lv_symbols.proofs.GivenLaws.{Grown, grown}
use Rattle.lv_symbols.proofs.givens.Givens.new.Goals as goal
use Rattle.lv_symbols.proofs.givens.Givens.new.Goals.{then-added+in_ok-push-in-Ok, else-added}

pub loop-given-preserved : goal.loop-given-preserved
loop-given-preserved c =
    let x : Given = c.given-item.result in
    let ns : List Name = listed c.loop-given.names in
    let vs : List Expr = map (λ v. v.now) c.loop-given.values.items in
    let m : listed c.add.new.self ≡ (if list_any (bytes_eq x.name.now.name) ns then ns else ns ++ x.name.now.name ∷ []) =
    subst (λ n. listed c.add.new.self ≡ (if list_any (bytes_eq n) ns then ns else ns ++ n ∷ [])) c.bytes.ensures c.in-Ok.ensures.names in
    let a : c.in-Ok.added ≡ not (list_any (bytes_eq x.name.now.name) ns) =
    c.in-Ok.ensures.added ∙ ap (λ n. not (list_any (bytes_eq n) ns)) c.bytes.ensures in
    let v : map (λ v. v.now) c.if-added.values.items ≡ (if c.in-Ok.added then vs ++ x.value.now ∷ [] else vs) =
    elim c.if-added.branch [
      | then-added+in_ok-push-in-Ok w ↦ rw w.values-is
          (ap (map (λ v. v.now)) w.in_ok-push-in-Ok.ensures.items ∙ map-join (λ v. v.now) c.loop-given.values.items (x.value ∷ []) ∙
          sym (ap (λ b. if b then vs ++ x.value.now ∷ [] else vs) w.if-added.true))
      | else-added w ↦ rw w.values-is (sym (ap (λ b. if b then vs ++ x.value.now ∷ [] else vs) w.if-added.false))
    ] in
    let e : take (c.loop-given.given-index + 1) c.args.list.now ≡ take c.loop-given.given-index c.args.list.now ++ x ∷ [] =
    take_more c.args.list.now c.loop-given.given-index x c.loop-given-test.true ∙
    ap (λ z. take c.loop-given.given-index c.args.list.now ++ z ∷ []) (sym c.given-item.is) in
    subst (λ zs. Grown (listed c.add.new.self) (map (λ v. v.now) c.if-added.values.items) zs) (sym e)
    (grown ns (listed c.add.new.self) vs (map (λ v. v.now) c.if-added.values.items) (take c.loop-given.given-index c.args.list.now) x
    (list_any (bytes_eq x.name.now.name) ns) c.in-Ok.added c.loop-given.invariant refl a m v)
