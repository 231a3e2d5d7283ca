use Rattle.std.proofs.Common.{◌≡◌, [], ◌∷◌, ◌++◌, sym, ◌∙◌, subst}
use Rattle.std.specs.Prelude.{bytes_eq, if◌then◌else◌}
use Rattle.std.specs.List.{list_any}
use Rattle.lv_scopes.specs.NameLists.{listed}
use Rattle.lv_declared.specs.Listing.{declared}
use Rattle.lv_repeats.proofs.Tabled.{more_outputs}
use Rattle.lv_repeats.proofs.names.add_output.Goals as goal

pub returns-in-Ok : goal.returns-in-Ok
returns-in-Ok c = λ ds h. more_outputs ds c.args.names.now c.add.new.self (declared c.args.declaration.now)
    (sym c.is_output.ensures ∙ c.if-not-is_output.false) h
    (subst (λ n. listed c.add.new.self ≡ (if list_any (bytes_eq n) (listed c.args.names.now) then listed c.args.names.now else listed c.args.names.now ++ n ∷ []))
    c.bytes.ensures c.in-Ok.ensures.names)
