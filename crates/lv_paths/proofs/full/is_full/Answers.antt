use Rattle.std.proofs.Common.{ℕ, ◌^◌, List, sym, ap, ◌∙◌}
use Rattle.std.specs.Prelude.{nat_le}
use Rattle.std.specs.List.{list_all, list_any, range_with_len}
use Rattle.lv_bits.specs.Values.{extended}
use Rattle.lv_source.proofs.Tests.{and-left, and-right}
use Rattle.lv_flat.specs.Signals.{declared_all}
use Rattle.lv_flat.specs.Judged.{judge, reading}
use Rattle.lv_paths.specs.declared.full.Fit.{Fit}
use Rattle.lv_paths.specs.Fits.{common_width, all_labels, is_fit}
use Rattle.lv_paths.proofs.Labels.{selector-within, arms-fixed, never-full, full-is, few-of}
use Rattle.lv_paths.proofs.full.is_full.Goals as goal

pub selector_width-width-requires-clause-wide : goal.selector_width-width-requires-clause-wide
selector_width-width-requires-clause-wide c =
    let S = declared_all c.args.signals.now in
    selector-within (reading S c.args.x.now) (all_labels S c.args.arms.now) (common_width c.common_case-c.result) c.common_case-c.ensures.is

pub all_fits-requires-clause-labels : goal.all_fits-requires-clause-labels
all_fits-requires-clause-labels c =
    let S = declared_all c.args.signals.now in
    arms-fixed S (reading S c.args.x.now) c.args.arms.now (common_width c.common_case-c.result) c.common_case-c.ensures.is c.requires.labels
    (sym c.requires.constant ∙ and-right (nat_le c.selector_width-width.result 8) c.args.constant c.if-not-few-constant.false)

pub returns-then-not-few-constant : goal.returns-then-not-few-constant
returns-then-not-few-constant c =
    let S = declared_all c.args.signals.now in
    never-full S c.args.wild (judge S c.args.x.now).extends (reading S c.args.x.now) (all_labels S c.args.arms.now) (common_width c.common_case-c.result) c.selector_width-width.result c.args.constant
    c.common_case-c.ensures.is c.selector_width-width.ensures.is c.requires.constant c.if-not-few-constant.true

pub returns : goal.returns
returns c =
    let S = declared_all c.args.signals.now in
    let few = and-left (nat_le c.selector_width-width.result 8) c.args.constant c.if-not-few-constant.false in
    let all = and-right (nat_le c.selector_width-width.result 8) c.args.constant c.if-not-few-constant.false in
    let C = common_width c.common_case-c.result in
    full-is S c.args.wild (judge S c.args.x.now).extends (reading S c.args.x.now) c.args.arms.now C c.selector_width-width.result c.covers.result
    c.common_case-c.ensures.is c.selector_width-width.ensures.is (few-of c.selector_width-width.result few) (sym c.requires.constant ∙ all)
    (c.covers.ensures ∙ ap (λ (fs : List Fit). list_all (λ (y : ℕ). list_any (is_fit (extended C.signed c.selector_width-width.result C.width y)) fs) (range_with_len 0 (2 ^ c.selector_width-width.result)))
    (c.as_slice.ensures ∙ c.in_ok-fits.ensures))
