use Rattle.std.proofs.Common.{rules, ◌≡◌, ℕ, ◌*◌, ◌≤◌, max, Bool, true, false, ◌&&◌, List, map, sym, ◌∙◌, ap, subst, arith}
use Rattle.std.specs.List.{list_all}
use Rattle.std.proofs.lemmas.List.{length-map}
use Rattle.lv_source.specs.Values.{Meaning, widths}
use Rattle.lv_flat.specs.declared.expr.FlatExpr.{FlatExpr}
use Rattle.lv_flat.specs.declared.expr.FlatExpr.TheViews.{the_lemmas}
use Rattle.lv_flat.specs.Signals.{declared, declared_all}
use Rattle.lv_flat.specs.Judged.{is_good, meaning}
use Rattle.lv_lower_exprs.specs.Reached.{own_of_unary, own_of_binary}
use Rattle.lv_lower_exprs.proofs.Parts.{signal-good, good-width, un-good, bin-good, cond-good, cast-good, div-good, rem-good, cat-good, rep-good, lit-means, cat-means, rep-means}
use Rattle.lv_lower_exprs.proofs.Owns.{const-own, signal-own, own_pair, un-own, bin-own, cond-own, cast-own, div-own, rem-own, cat-own, rep-own, two-own}
use Rattle.lv_source.specs.Names.{size}
use Rattle.lv_source.specs.Meaning.{is_nil}
use Rattle.lv_flat.specs.declared.expr.FlatSelect.{FlatSelect}
use Rattle.lv_lower_exprs.specs.Named.{name_width}
use Rattle.lv_lower_exprs.proofs.Owns.{two-parts, own-signal-wide, own-signal-signed}
use Rattle.lv_lower_exprs.proofs.Wholes.{declared-in}
use Rattle.lv_lower_exprs.proofs.Joining.{widths-more, widths-most, good-at, part_below}
use Rattle.lv_lower_exprs.proofs.sizes.+own.Goals as goal

pub own-own-a-requires : goal.own-own-a-requires
own-own-a-requires t c =
    let S = declared_all c.args.signals.now in
    (search (rules, the_lemmas), subst (λ (z : FlatExpr). is_good S z ≡ true) (sym c.get.ensures) (un-good S c.args.e.now c.requires c.in-Un.op c.in-Un.a c.in-Un.is).1)

pub own-own-x-requires : goal.own-own-x-requires
own-own-x-requires t c =
    let S = declared_all c.args.signals.now in
    (search (rules, the_lemmas), subst (λ (z : FlatExpr). is_good S z ≡ true) (sym c.get-in-Bin.ensures) (bin-good S c.args.e.now c.requires c.in-Bin.op c.in-Bin.x c.in-Bin.y c.in-Bin.is).1)

pub own-own-y-requires : goal.own-own-y-requires
own-own-y-requires t c =
    let S = declared_all c.args.signals.now in
    (search (rules, the_lemmas), subst (λ (z : FlatExpr). is_good S z ≡ true) (sym c.get-in-Bin-2.ensures) (bin-good S c.args.e.now c.requires c.in-Bin.op c.in-Bin.x c.in-Bin.y c.in-Bin.is).2)

pub own-own-x-requires-in-Cond : goal.own-own-x-requires-in-Cond
own-own-x-requires-in-Cond t c =
    let S = declared_all c.args.signals.now in
    (search (rules, the_lemmas), subst (λ (z : FlatExpr). is_good S z ≡ true) (sym c.get-in-Cond.ensures) (cond-good S c.args.e.now c.requires c.in-Cond.field-0 c.in-Cond.x c.in-Cond.y c.in-Cond.is).1)

pub own-own-y-requires-in-Cond : goal.own-own-y-requires-in-Cond
own-own-y-requires-in-Cond t c =
    let S = declared_all c.args.signals.now in
    (search (rules, the_lemmas), subst (λ (z : FlatExpr). is_good S z ≡ true) (sym c.get-in-Cond-2.ensures) (cond-good S c.args.e.now c.requires c.in-Cond.field-0 c.in-Cond.x c.in-Cond.y c.in-Cond.is).2)

pub own-own-a-requires-in-Cast : goal.own-own-a-requires-in-Cast
own-own-a-requires-in-Cast t c =
    let S = declared_all c.args.signals.now in
    (search (rules, the_lemmas), subst (λ (z : FlatExpr). is_good S z ≡ true) (sym c.get-in-Cast.ensures) (cast-good S c.args.e.now c.requires c.in-Cast.signed c.in-Cast.a c.in-Cast.is))

pub own-returns-in-Un : goal.own-returns-in-Un
own-returns-in-Un t c =
    let S = declared_all c.args.signals.now in
    c.unary_own.ensures ∙ (ap (λ (p : ℕ × Bool). own_of_unary c.in-Un.op p.0 p.1) (c.own-a.ensures ∙ ap (λ (z : FlatExpr). own_pair (meaning S z)) c.get.ensures) ∙ un-own S c.args.e.now c.in-Un.op c.in-Un.a c.in-Un.is)

pub own-returns-in-Bin : goal.own-returns-in-Bin
own-returns-in-Bin t c =
    let S = declared_all c.args.signals.now in
    c.binary_own.ensures ∙ (two-own (λ p q. own_of_binary c.in-Bin.op p.0 p.1 q.0 q.1) (c.own-x.ensures ∙ ap (λ (z : FlatExpr). own_pair (meaning S z)) c.get-in-Bin.ensures)
    (c.own-y.ensures ∙ ap (λ (z : FlatExpr). own_pair (meaning S z)) c.get-in-Bin-2.ensures) ∙ bin-own S c.args.e.now c.in-Bin.op c.in-Bin.x c.in-Bin.y c.in-Bin.is)

pub own-returns-in-Cond : goal.own-returns-in-Cond
own-returns-in-Cond t c =
    let S = declared_all c.args.signals.now in
    ap (λ (n : ℕ). let p : ℕ × Bool = (n, c.own-x-in-Cond.result.1 && c.own-y-in-Cond.result.1) in p) c.max-in-Cond.ensures ∙
    (two-own (λ p q. let r : ℕ × Bool = (max p.0 q.0, p.1 && q.1) in r) (c.own-x-in-Cond.ensures ∙ ap (λ (z : FlatExpr). own_pair (meaning S z)) c.get-in-Cond.ensures)
    (c.own-y-in-Cond.ensures ∙ ap (λ (z : FlatExpr). own_pair (meaning S z)) c.get-in-Cond-2.ensures) ∙ cond-own S c.args.e.now c.in-Cond.field-0 c.in-Cond.x c.in-Cond.y c.in-Cond.is)

pub own-returns-in-Cast : goal.own-returns-in-Cast
own-returns-in-Cast t c =
    let S = declared_all c.args.signals.now in
    ap (λ (p : ℕ × Bool). let r : ℕ × Bool = (p.0, c.in-Cast.signed) in r) (c.own-a-in-Cast.ensures ∙ ap (λ (z : FlatExpr). own_pair (meaning S z)) c.get-in-Cast.ensures) ∙
    cast-own S c.args.e.now c.in-Cast.signed c.in-Cast.a c.in-Cast.is

pub own-literal_width-width-requires : goal.own-literal_width-width-requires
own-literal_width-width-requires t c =
    let S = declared_all c.args.signals.now in
    let e = ap (λ (m : Meaning). m.width) (lit-means S c.args.e.now c.in-Lit.l c.in-Lit.is) in
    omega (arith, e, (good-width S c.args.e.now c.requires).1)

pub own-returns-in-Lit : goal.own-returns-in-Lit
own-returns-in-Lit t c =
    let S = declared_all c.args.signals.now in
    ap (λ (n : ℕ). let p : ℕ × Bool = (n, c.in-Lit.l.signed) in p) c.literal_width-width.ensures ∙ ap own_pair (sym (lit-means S c.args.e.now c.in-Lit.l c.in-Lit.is))

pub own-own-x-requires-in-Div : goal.own-own-x-requires-in-Div
own-own-x-requires-in-Div t c =
    let S = declared_all c.args.signals.now in
    (search (rules, the_lemmas), subst (λ (z : FlatExpr). is_good S z ≡ true) (sym c.get-in-Div.ensures) (div-good S c.args.e.now c.requires c.in-Div.x c.in-Div.y c.in-Div.is).0)

pub own-own-y-requires-in-Div : goal.own-own-y-requires-in-Div
own-own-y-requires-in-Div t c =
    let S = declared_all c.args.signals.now in
    (search (rules, the_lemmas), subst (λ (z : FlatExpr). is_good S z ≡ true) (sym c.get-in-Div-2.ensures) (div-good S c.args.e.now c.requires c.in-Div.x c.in-Div.y c.in-Div.is).1)

pub own-returns-in-Div : goal.own-returns-in-Div
own-returns-in-Div t c =
    let S = declared_all c.args.signals.now in
    ap (λ (n : ℕ). let p : ℕ × Bool = (n, c.own-x-in-Div.result.1 && c.own-y-in-Div.result.1) in p) c.max.ensures ∙
    (two-own (λ p q. let r : ℕ × Bool = (max p.0 q.0, p.1 && q.1) in r) (c.own-x-in-Div.ensures ∙ ap (λ (z : FlatExpr). own_pair (meaning S z)) c.get-in-Div.ensures)
    (c.own-y-in-Div.ensures ∙ ap (λ (z : FlatExpr). own_pair (meaning S z)) c.get-in-Div-2.ensures) ∙ div-own S c.args.e.now c.in-Div.x c.in-Div.y c.in-Div.is)

pub own-own-x-requires-in-Rem : goal.own-own-x-requires-in-Rem
own-own-x-requires-in-Rem t c =
    let S = declared_all c.args.signals.now in
    (search (rules, the_lemmas), subst (λ (z : FlatExpr). is_good S z ≡ true) (sym c.get-in-Rem.ensures) (rem-good S c.args.e.now c.requires c.in-Rem.x c.in-Rem.y c.in-Rem.is).0)

pub own-own-y-requires-in-Rem : goal.own-own-y-requires-in-Rem
own-own-y-requires-in-Rem t c =
    let S = declared_all c.args.signals.now in
    (search (rules, the_lemmas), subst (λ (z : FlatExpr). is_good S z ≡ true) (sym c.get-in-Rem-2.ensures) (rem-good S c.args.e.now c.requires c.in-Rem.x c.in-Rem.y c.in-Rem.is).1)

pub own-returns-in-Rem : goal.own-returns-in-Rem
own-returns-in-Rem t c =
    let S = declared_all c.args.signals.now in
    ap (λ (n : ℕ). let p : ℕ × Bool = (n, c.own-x-in-Rem.result.1 && c.own-y-in-Rem.result.1) in p) c.max-in-Rem.ensures ∙
    (two-own (λ p q. let r : ℕ × Bool = (max p.0 q.0, p.1 && q.1) in r) (c.own-x-in-Rem.ensures ∙ ap (λ (z : FlatExpr). own_pair (meaning S z)) c.get-in-Rem.ensures)
    (c.own-y-in-Rem.ensures ∙ ap (λ (z : FlatExpr). own_pair (meaning S z)) c.get-in-Rem-2.ensures) ∙ rem-own S c.args.e.now c.in-Rem.x c.in-Rem.y c.in-Rem.is)

pub own-widths-width-requires : goal.own-widths-width-requires
own-widths-width-requires t c =
    let S = declared_all c.args.signals.now in
    let es = c.in-Cat.es in
    let g = cat-good S c.args.e.now c.requires es c.in-Cat.is in
    let w = ap (λ (m : Meaning). m.width) (cat-means S c.args.e.now es c.in-Cat.is) in
    let most : widths (map (meaning S) es) ≤ 128 = omega (arith, w, (good-width S c.args.e.now c.requires).1) in (
      search (rules, the_lemmas),
      (
        subst (λ (z : List FlatExpr). list_all (λ (x : Bool). x) (map (is_good S) z) ≡ true) (sym c.as_slice-es.ensures) g,
        subst (λ (z : List FlatExpr). widths (map (meaning S) z) ≤ 128) (sym c.as_slice-es.ensures) most,
      ),
    )

pub own-returns-in-Cat : goal.own-returns-in-Cat
own-returns-in-Cat t c =
    let S = declared_all c.args.signals.now in
    ap (λ (n : ℕ). let p : ℕ × Bool = (n, false) in p) (c.widths-width.ensures ∙ ap (λ (z : List FlatExpr). widths (map (meaning S) z)) c.as_slice-es.ensures) ∙ cat-own S c.args.e.now c.in-Cat.es c.in-Cat.is

pub own-widths-width-requires-in-Rep : goal.own-widths-width-requires-in-Rep
own-widths-width-requires-in-Rep t c =
    let S = declared_all c.args.signals.now in
    let es = c.in-Rep.es in
    let n = c.in-Rep.count in
    let g = rep-good S c.args.e.now c.requires n es c.in-Rep.is in
    let w : (meaning S c.args.e.now).width ≡ n * widths (map (meaning S) es) = ap (λ (m : Meaning). m.width) (rep-means S c.args.e.now n es c.in-Rep.is) in
    let gw = good-width S c.args.e.now c.requires in
    let most : widths (map (meaning S) es) ≤ 128 = part_below n (widths (map (meaning S) es)) 128 (omega (arith, w, gw.0)) (omega (arith, w, gw.1)) in (
      search (rules, the_lemmas),
      (
        subst (λ (z : List FlatExpr). list_all (λ (x : Bool). x) (map (is_good S) z) ≡ true) (sym c.as_slice-es-in-Rep.ensures) g,
        subst (λ (z : List FlatExpr). widths (map (meaning S) z) ≤ 128) (sym c.as_slice-es-in-Rep.ensures) most,
      ),
    )

pub widths-own-sum-requires : goal.widths-own-sum-requires
widths-own-sum-requires t c =
    let S = declared_all c.args.signals.now in
    let g = good-at S c.args.es.now c.loop-e.e-index c.e-item.result c.loop-e-test.true c.requires.good in
    (search (rules, the_lemmas), subst (λ (z : FlatExpr). is_good S z ≡ true) (sym c.e-item.is) g)

pub widths-loop-e-preserved : goal.widths-loop-e-preserved
widths-loop-e-preserved t c =
    let S = declared_all c.args.signals.now in
    let o = ap (λ (p : ℕ × Bool). p.0) c.own-sum.ensures in
    let m = widths-more S c.args.es.now c.loop-e.e-index c.e-item.result c.loop-e-test.true c.e-item.is in
    omega (arith, o, m, c.loop-e.invariant)

pub widths-overflow_add-sum : goal.widths-overflow_add-sum
widths-overflow_add-sum t c =
    let S = declared_all c.args.signals.now in
    let o = ap (λ (p : ℕ × Bool). p.0) c.own-sum.ensures in
    let m = widths-most S c.args.es.now c.loop-e.e-index c.e-item.result c.loop-e-test.true c.e-item.is in
    omega (arith, o, m, c.loop-e.invariant, c.requires.most)

pub own-name_width-width-requires : goal.own-name_width-width-requires
own-name_width-width-requires t c =
    let S = declared_all c.args.signals.now in
    let k = c.in-Const.c in
    let ss = c.in-Const.ss in
    let o = ap (λ (p : ℕ × Bool). p.0) (const-own S c.args.e.now k ss c.in-Const.is) in
    let of = c.const_width-of.result in
    let a : name_width S of c.as_slice-ss.result.now ≡ name_width S (size (record { left = k.left; right = k.right })) ss =
    ap (λ n. name_width S n c.as_slice-ss.result.now) c.const_width-of.ensures.is ∙ ap (λ z. name_width S (size (record { left = k.left; right = k.right })) z) c.as_slice-ss.ensures in
    omega (arith, a, o, (good-width S c.args.e.now c.requires).1)

pub own-returns-in-Const : goal.own-returns-in-Const
own-returns-in-Const t c =
    let S = declared_all c.args.signals.now in
    let k = c.in-Const.c in
    let ss = c.in-Const.ss in
    let a = c.name_width-width.ensures ∙ (ap (λ n. name_width S n c.as_slice-ss.result.now) c.const_width-of.ensures.is ∙ ap (λ z. name_width S (size (record { left = k.left; right = k.right })) z) c.as_slice-ss.ensures) in
    let b = c.name_signed-signed.ensures ∙ ap (λ (z : List FlatSelect). is_nil z && k.signed) c.as_slice-ss.ensures in
    two-parts a b ∙ const-own S c.args.e.now k ss c.in-Const.is

pub own-signal_of-signal-requires : goal.own-signal_of-signal-requires
own-signal_of-signal-requires t c =
    let S = declared_all c.args.signals.now in
    let g = (signal-good S c.args.e.now c.requires c.in-Signal.k c.in-Signal.ss c.in-Signal.is).0 in
    omega (arith, declared-in S c.in-Signal.k g, length-map c.args.signals.now declared)

pub own-name_width-width-requires-in-Signal : goal.own-name_width-width-requires-in-Signal
own-name_width-width-requires-in-Signal t c =
    let S = declared_all c.args.signals.now in
    let k = c.in-Signal.k in
    let ss = c.in-Signal.ss in
    let s = c.signal_of-signal.result.now in
    let d = c.signal_of-signal.ensures in
    let o = ap (λ (p : ℕ × Bool). p.0) (signal-own S c.args.e.now k ss c.in-Signal.is) in
    let a = own-signal-wide S k ss s c.signal_width-of.result c.bit_selects-rest.result.now c.as_slice-ss-in-Signal.result.now d c.signal_width-of.ensures.is c.bit_selects-rest.ensures c.as_slice-ss-in-Signal.ensures in
    omega (arith, a, o, (good-width S c.args.e.now c.requires).1)

pub own-returns-in-Signal : goal.own-returns-in-Signal
own-returns-in-Signal t c =
    let S = declared_all c.args.signals.now in
    let k = c.in-Signal.k in
    let ss = c.in-Signal.ss in
    let s = c.signal_of-signal.result.now in
    let d = c.signal_of-signal.ensures in
    let a = own-signal-wide S k ss s c.signal_width-of.result c.bit_selects-rest.result.now c.as_slice-ss-in-Signal.result.now d c.signal_width-of.ensures.is c.bit_selects-rest.ensures c.as_slice-ss-in-Signal.ensures in
    let b = own-signal-signed S k ss s c.bit_selects-rest.result.now c.as_slice-ss-in-Signal.result.now d c.bit_selects-rest.ensures c.as_slice-ss-in-Signal.ensures in
    two-parts (c.name_width-width-in-Signal.ensures ∙ a) (c.name_signed-signed-in-Signal.ensures ∙ b) ∙ signal-own S c.args.e.now k ss c.in-Signal.is

pub own-overflow_mul-result : goal.own-overflow_mul-result
own-overflow_mul-result t c =
    let S = declared_all c.args.signals.now in
    let n = c.in-Rep.count in
    let w : (meaning S c.args.e.now).width ≡ n * widths (map (meaning S) c.in-Rep.es) = ap (λ (m : Meaning). m.width) (rep-means S c.args.e.now n c.in-Rep.es c.in-Rep.is) in
    let p : n * c.widths-width-in-Rep.result ≡ n * widths (map (meaning S) c.in-Rep.es) = ap (λ k. n * k) (c.widths-width-in-Rep.ensures ∙ ap (λ (z : List FlatExpr). widths (map (meaning S) z)) c.as_slice-es-in-Rep.ensures) in
    omega (arith, p, w, (good-width S c.args.e.now c.requires).1)

pub own-returns-in-Rep : goal.own-returns-in-Rep
own-returns-in-Rep t c =
    let S = declared_all c.args.signals.now in
    let n = c.in-Rep.count in
    ap (λ (k : ℕ). let p : ℕ × Bool = (n * k, false) in p) (c.widths-width-in-Rep.ensures ∙ ap (λ (z : List FlatExpr). widths (map (meaning S) z)) c.as_slice-es-in-Rep.ensures) ∙ rep-own S c.args.e.now n c.in-Rep.es c.in-Rep.is
