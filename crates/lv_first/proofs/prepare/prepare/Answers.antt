use Rattle.std.proofs.Common.{rules, ◌≡◌, [], ℕ, List, sym, ◌∙◌, ap}
use Rattle.std.specs.Prelude.{Option, MatchOption}
use Rattle.lv_ast.specs.declared.item.Ports.TheVariants as p
use Rattle.lv_first.specs.declared.prepare.Prepared.{Prepared}
use Rattle.lv_first.specs.FirstForm.{IsFirstForm}
use Rattle.lv_first.specs.Signals.{IsPrepared}
use Rattle.lv_first.proofs.Others.{by_ok}
use Rattle.lv_first.proofs.prepare.prepare.Goals as goal

pub returns-in-Declared : goal.returns-in-Declared
returns-in-Declared c =
    let m = c.args.design.now in
    let clock = c.args.clock.now in
    let trees = c.args.trees.now in
    let called : m.name.name ≡ c.args.top.now = search rules in
    let no_params : m.params ≡ [] = search rules in
    let declared : m.ports ≡ p.Declared c.as_slice.result.now = c.in-Declared.is ∙ ap p.Declared (sym c.as_slice.ensures) in
    by_ok
    (λ (o : Option Prepared). (top : List ℕ) → m.name.name ≡ top → m.params ≡ [] → m.ports ≡ p.Declared c.as_slice.result.now →
    MatchOption o (IsFirstForm m top clock trees → ⊥) (λ x. IsPrepared m top clock trees x.signals.registers x.problem))
    (λ (o : Option Prepared). MatchOption o (IsFirstForm m c.args.top.now clock trees → ⊥) (λ x. IsPrepared m c.args.top.now clock trees x.signals.registers x.problem))
    (λ o h. h c.args.top.now called no_params declared) c.with_ports.result c.with_ports.ensures
