use Rattle.std.proofs.Common.{◌≡◌, ◌+◌, [], ◌∷◌, ◌++◌, take, sym, ap, ◌∙◌, subst}
use Rattle.std.specs.Prelude.{bytes_eq, if◌then◌else◌}
use Rattle.std.specs.List.{list_any}
use Rattle.lv_ast.specs.declared.stmt.Ident.{Ident}
use Rattle.lv_source.proofs.Bridges.{map-join}
use Rattle.lv_scopes.specs.NameLists.{listed}
use Rattle.lv_links.specs.Linking.{idents}
use Rattle.lv_links.proofs.Lists.{taken}
use Rattle.lv_links.proofs.LinkLaws.{Same, same-more}
use Rattle.lv_links.proofs.connect.table.Goals as goal

pub loop-name-preserved : goal.loop-name-preserved
loop-name-preserved c =
    let q : Ident = c.name-item.result.now in
    let e : idents (take (c.loop-name.name-index + 1) c.args.listed.now) ≡ idents (take c.loop-name.name-index c.args.listed.now) ++ q ∷ [] =
    ap idents (taken c.args.listed.now c.loop-name.name-index c.name-item.result c.loop-name-test.true c.name-item.is) ∙
    map-join (λ x. x.now) (take c.loop-name.name-index c.args.listed.now) (c.name-item.result ∷ []) in
    let m : listed c.add.new.self ≡ (if list_any (bytes_eq q.name) (listed c.loop-name.table) then listed c.loop-name.table else listed c.loop-name.table ++ q.name ∷ []) =
    subst (λ n. listed c.add.new.self ≡ (if list_any (bytes_eq n) (listed c.loop-name.table) then listed c.loop-name.table else listed c.loop-name.table ++ n ∷ []))
    c.bytes.ensures c.in_ok-add.ensures.names in
    subst (Same (listed c.add.new.self)) (sym e) (same-more (listed c.loop-name.table) (listed c.add.new.self) (idents (take c.loop-name.name-index c.args.listed.now)) q c.loop-name.invariant m)
