use Rattle.std.proofs.Common.{◌≡◌, map, flat_map, take}
use Rattle.lv_source.specs.Names.{Names}
use Rattle.lv_source.specs.Scopes.{override_by}
use Rattle.lv_links.specs.Linking.{all_links}
use Rattle.lv_links.proofs.GivenLaws.{as_override}
use Rattle.lv_links.proofs.given.givens_of.Given as goal

abbrev pub invariant-loop-setting : goal.invariant-loop-setting
invariant-loop-setting l =
    (there : Names) → map (as_override there) l.list.items ≡ flat_map (override_by there) (all_links (take l.setting-index l.settings))
