use Rattle.std.proofs.Common.{option_map, ap, ◌∙◌}
use Rattle.toml.specs.Data.{get_member}
use Rattle.toml.specs.View.{view, members_view}
use Rattle.toml.proofs.Views.{view_of_ref, view-lookup}
use Rattle.lv_contract.proofs.values.find.Goals as goal

pub returns : goal.returns
returns c =
    view_of_ref c.get.result ∙ ap (option_map view) c.get.ensures.value ∙ view-lookup _ c.args.table.now.entries
    ∙ ap (λ w. get_member w (members_view c.args.table.now.entries)) c.name-name.ensures
