use Rattle.std.proofs.Common.{◌≡◌, ℕ, List, [], ◌∷◌, ◌++◌, Option, Some, None, map, sym, ap, ◌∙◌}
use Rattle.std.specs.Option.{option_map}
use Rattle.lv_source.specs.Names as n
use Rattle.lv_source.specs.Declarations.{Declaration}
use Rattle.lv_source.proofs.Bridges.{map-join}
use Rattle.lv_source.proofs.Summaries.{append-none}
use Rattle.lv_scopes.specs.NameLists.{listed}
use Rattle.lv_declared.specs.Listing.{declared}
use Rattle.lv_flat.specs.Signals as f
use Rattle.lv_bindings.specs.Grouping.{group_for}
use Rattle.lv_bindings.specs.Order.{Seen, seen, seen_if, signal_by, group_standing, outside}
use Rattle.lv_bindings.proofs.Lists.{number_in}
use Rattle.lv_bindings.proofs.order.add.Goals as goal

same_Some : (a b : ℕ) → Some a ≡ Some b → a ≡ b
same_Some a b h = cc

none_added : (zs : List Seen) (place number : ℕ) (o : Option n.Declared) → None ≡ o → zs ≡ zs ++ seen_if place number o
none_added zs place number o h = sym (append-none zs) ∙ ap (λ q. zs ++ seen_if place number q) h

one_added : (zs : List Seen) (place number k : ℕ) (d : n.Declared) (o : Option n.Declared) → number ≡ k → Some d ≡ o →
    zs ++ record { place = place; number = number; signal = d } ∷ [] ≡ zs ++ seen_if place k o
one_added zs place number k d o h e = ap (λ i. zs ++ seen_if place i (Some d)) h ∙ ap (λ q. zs ++ seen_if place k q) e

pub returns-in-None : goal.returns-in-None
returns-in-None c = λ ds h r.
    (let d : Declaration = declared c.args.declaration.now in
    none_added (map seen c.args.list.now.items) d.name.place (number_in (listed c.args.groups.now.names) d.name.name) _
    (sym (ap (option_map f.declared) c.in-None.is) ∙ c.in_ok-signal_at.ensures ∙
    ap (signal_by (outside c.args.around.now) d.name.name c.args.symbols.now) (c.group_at-group.ensures ds d h r)))

pub returns-in_ok-push-in-Some-number : goal.returns-in_ok-push-in-Some-number
returns-in_ok-push-in-Some-number c = λ ds h r.
    (let d : Declaration = declared c.args.declaration.now in
    ap (map seen) c.in_ok-push-in-Some-number.ensures.items ∙ map-join seen c.args.list.now.items (_ ∷ []) ∙
    one_added (map seen c.args.list.now.items) d.name.place c.in-Some-number.number (number_in (listed c.args.groups.now.names) d.name.name) _ _
    (same_Some _ _ (sym c.in-Some-number.is ∙ c.number.ensures ds d h r))
    (sym (ap (option_map f.declared) c.in-Some.is) ∙ c.in_ok-signal_at.ensures ∙
    ap (signal_by (outside c.args.around.now) d.name.name c.args.symbols.now) (c.group_at-group.ensures ds d h r)))
