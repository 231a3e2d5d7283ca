use Rattle.std.proofs.Common.{◌≡◌, [], ◌∷◌, ◌++◌, subst}
use Rattle.std.specs.Prelude.{bytes_eq, if◌then◌else◌}
use Rattle.std.specs.List.{list_any}
use Rattle.lv_scopes.specs.NameLists.{listed}
use Rattle.lv_repeats.proofs.Tabled.{more_listed}
use Rattle.lv_repeats.proofs.names.add_name.Goals as goal

pub returns-in-Ok : goal.returns-in-Ok
returns-in-Ok c = λ ns h. more_listed ns c.args.names.now c.add.new.self c.args.name.now.name h
    (subst (λ n. listed c.add.new.self ≡ (if list_any (bytes_eq n) (listed c.args.names.now) then listed c.args.names.now else listed c.args.names.now ++ n ∷ []))
    c.bytes.ensures c.in-Ok.ensures.names)
