use Rattle.std.proofs.Common.{◌≡◌, ◌≤◌, ◌<◌, ◌+◌, ◌&&◌, length, drop, ap, sym, ◌∙◌, arith, Some, Option, ℕ, Bool, true, false, get_or}
use Rattle.std.specs.Prelude.{bytes_eq, if◌then◌else◌}
use Rattle.std.proofs.lemmas.List.{length-map, get_or-map, drop_all}
use Rattle.lv_ast.specs.Names.{path_text}
use Rattle.lv_source.specs.Names.{Declared, no_declaration}
use Rattle.lv_source.specs.Parts.{is_signal}
use Rattle.lv_flat.specs.Signals.{Signals, declared, declared_all, signal_at}
use Rattle.lv_top_names.specs.TopNames.{number_from, number_of}
use Rattle.lv_top_names.proofs.Numbers.{number-step}
use Rattle.lv_top_names.proofs.names.number_of.Goals as goal

pub returns-then-is_named : goal.returns-then-is_named
returns-then-is_named c =
    let S : Signals = declared_all c.args.signals.now in
    let l : c.loop-k.k < length c.args.signals.now = omega arith in
    let m : c.loop-k.k < length S = (let z : length S ≡ length c.args.signals.now = length-map c.args.signals.now declared in omega arith) in
    let x : Declared = declared c.index-signals-k.result in
    let at : signal_at S c.loop-k.k ≡ x = get_or-map declared c.args.signals.now c.loop-k.k c.index-signals-k.result no_declaration l ∙ ap declared (sym c.index-signals-k.is) in
    sym (c.loop-k.invariant ∙ (number-step (path_text c.args.path.now) S c.loop-k.k x m at ∙
    ap (λ b. if b then Some c.loop-k.k else number_from (c.loop-k.k + 1) (drop (c.loop-k.k + 1) S) (path_text c.args.path.now)) (sym c.is_named.ensures ∙ c.if-is_named.true)))

pub loop-k-preserved : goal.loop-k-preserved
loop-k-preserved c =
    let S : Signals = declared_all c.args.signals.now in
    let l : c.loop-k.k < length c.args.signals.now = omega arith in
    let m : c.loop-k.k < length S = (let z : length S ≡ length c.args.signals.now = length-map c.args.signals.now declared in omega arith) in
    let x : Declared = declared c.index-signals-k.result in
    let at : signal_at S c.loop-k.k ≡ x = get_or-map declared c.args.signals.now c.loop-k.k c.index-signals-k.result no_declaration l ∙ ap declared (sym c.index-signals-k.is) in
    c.loop-k.invariant ∙ (number-step (path_text c.args.path.now) S c.loop-k.k x m at ∙
    ap (λ b. if b then Some c.loop-k.k else number_from (c.loop-k.k + 1) (drop (c.loop-k.k + 1) S) (path_text c.args.path.now)) (sym c.is_named.ensures ∙ c.if-is_named.false))

pub returns : goal.returns
returns c =
    let S : Signals = declared_all c.args.signals.now in
    let z : length S ≤ c.loop-k.k = (let e : length S ≡ length c.args.signals.now = length-map c.args.signals.now declared in omega arith) in
    sym (c.loop-k.invariant ∙ ap (λ xs. number_from c.loop-k.k xs (path_text c.args.path.now)) (drop_all c.loop-k.k S z))
