use Rattle.std.proofs.Common.{◌≡◌, sym, subst, refl, map, length}
use Rattle.std.proofs.lemmas.List.{length-map}
use Rattle.lv_source.specs.Scopes.{here_at}
use Rattle.lv_const.specs.Constants.{names_of}
use Rattle.lv_const.specs.Wherever.{AreDeclared}
use Rattle.lv_bindings.specs.Order.{outside}
use Rattle.lv_bindings.specs.Made.{AreNarrow}
use Rattle.lv_declared.specs.Listing.{declared, all_declared}
use Rattle.lv_symbols.specs.Frames.{InEach, AreSoundIn, IsToldIn, constants_in}
use Rattle.lv_symbols.specs.Making.{symbol_of}
use Rattle.lv_opening.specs.Ready.{InReady, IsNotOpened, ReadAnswer}
use Rattle.lv_opening.proofs.Openings.{twice, told, narrow, opened, not-opened-by, base-same, moved}
use Rattle.lv_opening.proofs.opening.open_scope.Goals as goal

pub returns-in-Some-clause-wrong : goal.returns-in-Some-clause-wrong
returns-in-Some-clause-wrong c =
    twice (outside c.args.around.now) c.args.base.now c.args.there.now c.args.givens.now (all_declared c.args.declarations.now) c.args.ports.now c.args.first c.in-Some.place c.in-Some.ensures.some

pub read-requires-clause-narrow : goal.read-requires-clause-narrow
read-requires-clause-narrow c =
    subst AreNarrow (sym c.as_slice.ensures.value)
    (narrow (outside c.args.around.now) c.args.base.now c.args.there.now c.args.givens.now (all_declared c.args.declarations.now) c.args.ports.now c.args.first
    (c.in_default-once.ensures.none refl) c.declare.new.consts c.in-Ok-declare.symbols.items
    (moved c.args.base.now c.in-Ok-constants_of.consts c.args.there.now c.args.givens.now (all_declared c.args.declarations.now)
    (λ f. c.in-Ok-declare.symbols.items ≡ map (symbol_of (constants_in f)) (all_declared c.args.declarations.now))
    (base-same c.args.base.now c.in-Ok-constants_of.consts c.in-Ok-constants_of.ensures) c.in-Ok-declare.ensures.symbols)
    (moved c.args.base.now c.in-Ok-constants_of.consts c.args.there.now c.args.givens.now (all_declared c.args.declarations.now)
    (λ f. c.in-Ok-declare.symbols.items ≡ map (symbol_of f.scope.names) (all_declared c.args.declarations.now))
    (base-same c.args.base.now c.in-Ok-constants_of.consts c.in-Ok-constants_of.ensures) c.in-Ok-declare.ensures.here)
    (moved c.args.base.now c.in-Ok-constants_of.consts c.args.there.now c.args.givens.now (all_declared c.args.declarations.now)
    (λ f. AreSoundIn f (all_declared c.args.declarations.now))
    (base-same c.args.base.now c.in-Ok-constants_of.consts c.in-Ok-constants_of.ensures) c.in-Ok-declare.ensures.sound)
    c.requires)

pub returns-in-Err-clause-wrong : goal.returns-in-Err-clause-wrong
returns-in-Err-clause-wrong c =
    subst (λ y. InReady (outside c.args.around.now) c.args.base.now c.args.there.now c.args.givens.now (all_declared c.args.declarations.now) c.args.ports.now (λ f. IsNotOpened f y))
    (sym c.of_symbol.ensures)
    (told (outside c.args.around.now) c.args.base.now c.args.there.now c.args.givens.now (all_declared c.args.declarations.now) c.args.ports.now c.args.first
    (c.in_default-once.ensures.none refl) c.in-Err.error
    (moved c.args.base.now c.in-Ok-constants_of.consts c.args.there.now c.args.givens.now (all_declared c.args.declarations.now)
    (λ f. IsToldIn f (all_declared c.args.declarations.now) c.in-Err.error)
    (base-same c.args.base.now c.in-Ok-constants_of.consts c.in-Ok-constants_of.ensures) c.in-Err.ensures.wrong))

pub returns-in-Ok-declare-clause-right : goal.returns-in-Ok-declare-clause-right
returns-in-Ok-declare-clause-right c =
    opened (outside c.args.around.now) c.args.base.now c.args.there.now c.args.givens.now (all_declared c.args.declarations.now) c.args.ports.now c.args.first
    (c.in_default-once.ensures.none refl) c.declare.new.consts c.in-Ok-declare.symbols.items
    (moved c.args.base.now c.in-Ok-constants_of.consts c.args.there.now c.args.givens.now (all_declared c.args.declarations.now)
    (λ f. c.in-Ok-declare.symbols.items ≡ map (symbol_of (constants_in f)) (all_declared c.args.declarations.now))
    (base-same c.args.base.now c.in-Ok-constants_of.consts c.in-Ok-constants_of.ensures) c.in-Ok-declare.ensures.symbols)
    (moved c.args.base.now c.in-Ok-constants_of.consts c.args.there.now c.args.givens.now (all_declared c.args.declarations.now)
    (λ f. c.in-Ok-declare.symbols.items ≡ map (symbol_of f.scope.names) (all_declared c.args.declarations.now))
    (base-same c.args.base.now c.in-Ok-constants_of.consts c.in-Ok-constants_of.ensures) c.in-Ok-declare.ensures.here)
    (moved c.args.base.now c.in-Ok-constants_of.consts c.args.there.now c.args.givens.now (all_declared c.args.declarations.now)
    (λ f. AreSoundIn f (all_declared c.args.declarations.now))
    (base-same c.args.base.now c.in-Ok-constants_of.consts c.in-Ok-constants_of.ensures) c.in-Ok-declare.ensures.sound)
    (moved c.args.base.now c.in-Ok-constants_of.consts c.args.there.now c.args.givens.now (all_declared c.args.declarations.now)
    (λ f. AreDeclared (names_of c.declare.new.consts) (here_at f.scope (length (all_declared c.args.declarations.now))))
    (base-same c.args.base.now c.in-Ok-constants_of.consts c.in-Ok-constants_of.ensures) (subst (λ n. InEach c.in-Ok-constants_of.consts c.args.there.now c.args.givens.now (all_declared c.args.declarations.now)
    (λ f. AreDeclared (names_of c.declare.new.consts) (here_at f.scope n))) (sym (length-map c.args.declarations.now declared)) c.in-Ok-declare.ensures.constants))
    c.read.result (subst (λ ys. ReadAnswer (outside c.args.around.now) c.args.base.now c.declare.new.consts (all_declared c.args.declarations.now) ys c.args.ports.now
    c.args.first c.read.result) c.as_slice.ensures.value c.read.ensures)

pub returns-in-Ok-declare-clause-wrong : goal.returns-in-Ok-declare-clause-wrong
returns-in-Ok-declare-clause-wrong c =
    not-opened-by (outside c.args.around.now) c.args.base.now c.args.there.now c.args.givens.now (all_declared c.args.declarations.now) c.args.ports.now c.args.first
    (c.in_default-once.ensures.none refl) c.declare.new.consts c.in-Ok-declare.symbols.items
    (moved c.args.base.now c.in-Ok-constants_of.consts c.args.there.now c.args.givens.now (all_declared c.args.declarations.now)
    (λ f. c.in-Ok-declare.symbols.items ≡ map (symbol_of (constants_in f)) (all_declared c.args.declarations.now))
    (base-same c.args.base.now c.in-Ok-constants_of.consts c.in-Ok-constants_of.ensures) c.in-Ok-declare.ensures.symbols)
    (moved c.args.base.now c.in-Ok-constants_of.consts c.args.there.now c.args.givens.now (all_declared c.args.declarations.now)
    (λ f. c.in-Ok-declare.symbols.items ≡ map (symbol_of f.scope.names) (all_declared c.args.declarations.now))
    (base-same c.args.base.now c.in-Ok-constants_of.consts c.in-Ok-constants_of.ensures) c.in-Ok-declare.ensures.here)
    (moved c.args.base.now c.in-Ok-constants_of.consts c.args.there.now c.args.givens.now (all_declared c.args.declarations.now)
    (λ f. AreSoundIn f (all_declared c.args.declarations.now))
    (base-same c.args.base.now c.in-Ok-constants_of.consts c.in-Ok-constants_of.ensures) c.in-Ok-declare.ensures.sound)
    c.read.result (subst (λ ys. ReadAnswer (outside c.args.around.now) c.args.base.now c.declare.new.consts (all_declared c.args.declarations.now) ys c.args.ports.now
    c.args.first c.read.result) c.as_slice.ensures.value c.read.ensures)
