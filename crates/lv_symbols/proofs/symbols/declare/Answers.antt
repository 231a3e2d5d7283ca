use Rattle.std.proofs.Common.{◌+◌, ◌≤◌, map, length, take, sym, ap, ◌∙◌, subst}
use Rattle.lv_declared.specs.Listing.{declared}
use Rattle.lv_symbols.specs.Frames.{AreSoFar}
use Rattle.lv_symbols.proofs.LoopLaws.{made_first, made_more, made_told, cut_back, cut_in, all_symbols, all_here, all_sound, all_prefixes, all_added, all_constants}
use Rattle.lv_symbols.proofs.symbols.declare.Goals as goal

pub loop-declaration-init : goal.loop-declaration-init
loop-declaration-init c =
    subst (λ zs. AreSoFar c.args.consts.now c.args.there.now c.args.givens.now (map declared c.args.declarations.now) 0 c.args.consts.now zs)
    (sym c.new-symbols.ensures.items) (made_first c.args.consts.now c.args.there.now c.args.givens.now (map declared c.args.declarations.now))

pub loop-declaration-preserved : goal.loop-declaration-preserved
loop-declaration-preserved c =
    let r = c.in-Ok.ensures.right in
    subst (λ zs. AreSoFar c.args.consts.now c.args.there.now c.args.givens.now (map declared c.args.declarations.now)
    (c.loop-declaration.declaration-index + 1) c.add.new.consts zs) (sym r.1)
    (made_more c.args.consts.now c.args.there.now c.loop-declaration.consts c.args.givens.now c.args.declarations.now c.loop-declaration.declaration-index
    c.declaration-item.result c.loop-declaration.symbols.items c.loop-declaration.invariant c.loop-declaration-test.true c.declaration-item.is c.add.new.consts
    r.0 r.2)

pub cut-requires : goal.cut-requires
cut-requires c =
    subst (λ es. c.len-len.result ≤ length es) (sym c.in-Err.ensures.kept)
    (cut_in c.args.consts.now c.args.there.now c.loop-declaration.consts c.args.givens.now (map declared c.args.declarations.now)
    c.loop-declaration.declaration-index c.len-len.result c.loop-declaration.symbols.items c.loop-declaration.invariant c.len-len.ensures)

pub returns-in-Err-clause-wrong : goal.returns-in-Err-clause-wrong
returns-in-Err-clause-wrong c =
    made_told c.args.consts.now c.args.there.now c.loop-declaration.consts c.args.givens.now c.args.declarations.now c.loop-declaration.declaration-index
    c.declaration-item.result c.loop-declaration.symbols.items c.loop-declaration.invariant c.loop-declaration-test.true c.declaration-item.is c.in-Err.error
    c.in-Err.ensures.wrong

pub returns-in-Err-clause-kept : goal.returns-in-Err-clause-kept
returns-in-Err-clause-kept c =
    c.cut.ensures ∙ ap (λ es. take c.len-len.result es) c.in-Err.ensures.kept ∙
    cut_back c.args.consts.now c.args.there.now c.loop-declaration.consts c.args.givens.now (map declared c.args.declarations.now)
    c.loop-declaration.declaration-index c.len-len.result c.loop-declaration.symbols.items c.loop-declaration.invariant c.len-len.ensures

pub returns-clause-symbols : goal.returns-clause-symbols
returns-clause-symbols c =
    all_symbols c.args.consts.now c.args.there.now c.loop-declaration.consts c.args.givens.now c.args.declarations.now c.loop-declaration.declaration-index
    c.loop-declaration.symbols.items c.loop-declaration.invariant c.loop-declaration-test.false

pub returns-clause-here : goal.returns-clause-here
returns-clause-here c =
    all_here c.args.consts.now c.args.there.now c.loop-declaration.consts c.args.givens.now c.args.declarations.now c.loop-declaration.declaration-index
    c.loop-declaration.symbols.items c.loop-declaration.invariant c.loop-declaration-test.false

pub returns-clause-sound : goal.returns-clause-sound
returns-clause-sound c =
    all_sound c.args.consts.now c.args.there.now c.loop-declaration.consts c.args.givens.now c.args.declarations.now c.loop-declaration.declaration-index
    c.loop-declaration.symbols.items c.loop-declaration.invariant c.loop-declaration-test.false

pub returns-clause-constants : goal.returns-clause-constants
returns-clause-constants c =
    all_constants c.args.consts.now c.args.there.now c.loop-declaration.consts c.args.givens.now c.args.declarations.now c.loop-declaration.declaration-index
    c.loop-declaration.symbols.items c.loop-declaration.invariant c.loop-declaration-test.false

pub returns-clause-prefixes : goal.returns-clause-prefixes
returns-clause-prefixes c =
    all_prefixes c.args.consts.now c.args.there.now c.loop-declaration.consts c.args.givens.now c.args.declarations.now c.loop-declaration.declaration-index
    c.loop-declaration.symbols.items c.loop-declaration.invariant c.loop-declaration-test.false

pub returns-clause-added : goal.returns-clause-added
returns-clause-added c =
    all_added c.args.consts.now c.args.there.now c.loop-declaration.consts c.args.givens.now c.args.declarations.now c.loop-declaration.declaration-index
    c.loop-declaration.symbols.items c.loop-declaration.invariant c.loop-declaration-test.false
