use Rattle.std.proofs.Common.{◌≡◌, [], take}
use Rattle.lv_source.specs.Names.{Names}
use Rattle.lv_source.specs.ScopeRules.{twice_linked}
use Rattle.lv_scopes.specs.NameLists.{listed}
use Rattle.lv_links.specs.Linking.{all_links}
use Rattle.lv_links.proofs.LinkLaws.{SameSeen}
use Rattle.lv_links.proofs.once.again.Given as goal

abbrev pub invariant-loop-link : goal.invariant-loop-link
invariant-loop-link l =
    SameSeen (listed l.seen) (all_links (take l.link-index l.links)) × ((names : Names) → twice_linked names (all_links (take l.link-index l.links)) ≡ [])
