use Rattle.std.proofs.Common.{rules, ◌≡◌, ◌∷◌, [], ◌++◌, List, length, ℕ, subst, ◌∙◌, ap}
use Rattle.std.specs.Prelude.{bytes_eq, if◌then◌else◌}
use Rattle.std.specs.List.{list_any}
use Rattle.lv_scopes.specs.NameLists.{listed}
use Rattle.lv_declared.specs.Listing.{declared}
use Rattle.lv_source.specs.Declarations.{Declaration}
use Rattle.lv_bindings.specs.declared.groups.Groups.{Groups}
use Rattle.lv_bindings.proofs.Lists.{number_in}
use Rattle.lv_bindings.proofs.GroupLaws.{ok_both, more_grouped}
use Rattle.lv_bindings.proofs.groups.Groups.add.Goals as goal

pub returns : goal.returns
returns c =
    let old : Groups = c.args.self.now in
    let new : Groups = record { names = c.add.new.self; numbers = c.push.new.self; groups = c.put.new.groups } in
    let d : Declaration = declared c.args.declaration.now in
    let n : c.in_ok-number.number ≡ number_in (listed old.names) d.name.name = c.in_ok-number.ensures.number ∙ ap (number_in (listed old.names)) c.bytes.ensures in
    let names : listed new.names ≡ (if list_any (bytes_eq d.name.name) (listed old.names) then listed old.names else listed old.names ++ d.name.name ∷ []) =
    subst (λ m. listed new.names ≡ (if list_any (bytes_eq m) (listed old.names) then listed old.names else listed old.names ++ m ∷ [])) c.bytes.ensures
    c.in_ok-number.ensures.names in
    let i : c.len-index.result ≡ length old.numbers.items = search rules in
    ok_both c.put.result _ _ _
    (λ known fresh ds h. more_grouped ds d old new h c.in_ok-number.number c.len-index.result n names c.in_ok-push.ensures.items i known fresh)
    c.put.ensures.known c.put.ensures.fresh
