use Rattle.std.proofs.Common.{◌≡◌, ◌+◌, true, false, List, [], ◌∷◌, ◌++◌, take, drop, sym, ap, ◌∙◌, subst, arith}
use Rattle.std.specs.Prelude.{bytes_eq, Contains, if◌then◌else◌}
use Rattle.std.specs.List.{list_any}
use Rattle.lv_source.specs.Scopes.{Link}
use Rattle.lv_source.specs.ScopeRules.{twice_linked}
use Rattle.lv_source.proofs.Bridges.{map-join}
use Rattle.lv_const.proofs.Lists.{take-whole}
use Rattle.lv_scopes.specs.NameLists.{listed}
use Rattle.lv_links.specs.Linking.{link_of, all_links}
use Rattle.lv_links.proofs.Lists.{taken, parted}
use Rattle.lv_links.proofs.LinkLaws.{SameSeen, once-more, twice-told, seen-more, is-new, is-old}
use Rattle.lv_links.proofs.once.again.Goals as goal

pub returns-then-not-added : goal.returns-then-not-added
returns-then-not-added c = λ names.
    let k : Link = link_of c.link-item.result in
    let ls : List Link = all_links (take c.loop-link.link-index c.args.links.now) in
    let e : all_links c.args.links.now ≡ ls ++ k ∷ all_links (drop (c.loop-link.link-index + 1) c.args.links.now) =
    ap all_links (parted c.args.links.now c.loop-link.link-index c.link-item.result c.loop-link-test.true c.link-item.is) ∙
    map-join link_of (take c.loop-link.link-index c.args.links.now) (c.link-item.result ∷ drop (c.loop-link.link-index + 1) c.args.links.now) in
    let b : list_any (bytes_eq k.port) (listed c.loop-link.seen) ≡ true =
    ap (λ n. list_any (bytes_eq n) (listed c.loop-link.seen)) (sym c.bytes.ensures) ∙ is-old c.in_ok-added.added _ c.in_ok-added.ensures.added c.if-not-added.true in
    subst (λ xs. Contains (twice_linked names xs) k.conn.place) (sym e)
    (twice-told names ls (all_links (drop (c.loop-link.link-index + 1) c.args.links.now)) k (sym (c.loop-link.invariant.0 k.port) ∙ b))

pub loop-link-preserved : goal.loop-link-preserved
loop-link-preserved c =
    let k : Link = link_of c.link-item.result in
    let ls : List Link = all_links (take c.loop-link.link-index c.args.links.now) in
    let ns = listed c.loop-link.seen in
    let e : all_links (take (c.loop-link.link-index + 1) c.args.links.now) ≡ ls ++ k ∷ [] =
    ap all_links (taken c.args.links.now c.loop-link.link-index c.link-item.result c.loop-link-test.true c.link-item.is) ∙
    map-join link_of (take c.loop-link.link-index c.args.links.now) (c.link-item.result ∷ []) in
    let b : list_any (bytes_eq k.port) ns ≡ false =
    ap (λ n. list_any (bytes_eq n) ns) (sym c.bytes.ensures) ∙ is-new c.in_ok-added.added _ c.in_ok-added.ensures.added c.if-not-added.false in
    let m : listed c.add.new.self ≡ (if list_any (bytes_eq k.port) ns then ns else ns ++ k.port ∷ []) =
    subst (λ n. listed c.add.new.self ≡ (if list_any (bytes_eq n) ns then ns else ns ++ n ∷ [])) c.bytes.ensures c.in_ok-added.ensures.names in (
      subst (SameSeen (listed c.add.new.self)) (sym e) (seen-more ns (listed c.add.new.self) ls k c.loop-link.invariant.0 m),
      λ names. subst (λ xs. twice_linked names xs ≡ []) (sym e) (once-more names ls k (c.loop-link.invariant.1 names) (sym (c.loop-link.invariant.0 k.port) ∙ b)),
    )

pub returns : goal.returns
returns c = λ names.
    ap (λ xs. twice_linked names (all_links xs)) (sym (take-whole c.args.links.now c.loop-link.link-index (omega arith))) ∙ c.loop-link.invariant.1 names
