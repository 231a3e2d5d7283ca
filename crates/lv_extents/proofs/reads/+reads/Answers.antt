use Rattle.std.proofs.Common.{rules, ◌≡◌, ◌++◌, Bool, true, List, map, sym, subst, ap, ◌∙◌}
use Rattle.std.specs.List.{list_all}
use Rattle.lv_source.specs.Meaning.{bits_named, index_reads, all_constant}
use Rattle.lv_flat.specs.declared.expr.FlatExpr.{FlatExpr}
use Rattle.lv_flat.specs.declared.expr.FlatExpr.TheViews.{the_lemmas}
use Rattle.lv_flat.specs.declared.expr.FlatSelect.{FlatSelect}
use Rattle.lv_flat.specs.Signals.{declared_all, signal_at}
use Rattle.lv_flat.specs.Judged.{is_good, reading, judge_select, good_selects}
use Rattle.lv_lower_exprs.specs.Named.{are_good_selects}
use Rattle.lv_lower_exprs.proofs.Parts.{un-good, bin-good, cond-good, cast-good, div-good, rem-good, cat-good, rep-good, const-good, signal-good}
use Rattle.lv_lower_exprs.proofs.Naming.{good-Bit, good-Up, good-Down}
use Rattle.lv_lower_exprs.proofs.Joining.{good-at}
use Rattle.lv_extents.specs.Adds.{taken}
use Rattle.lv_extents.proofs.Spans.{adds-then, adds-none, adds-swap}
use Rattle.lv_extents.proofs.Readings.{lit-same, const-same, signal-same, un-same, cast-same, bin-same, div-same, rem-same, cond-same, cat-same, rep-same, bit-same, part-same, up-same, down-same, adds-as, all_reads, are_constant, signal-selects, both-constant, all-three}
use Rattle.lv_extents.proofs.reads.+reads.Goals as goal

pub add_reads-add_index_reads-requires : goal.add_reads-add_index_reads-requires
add_reads-add_index_reads-requires t c =
    let S = declared_all c.args.signals.now in (
      search (rules, the_lemmas),
      (
        subst (λ (z : List FlatSelect). are_good_selects S z ≡ true) (sym c.as_slice.ensures)
            (const-good S c.args.e.now c.requires.good c.in-Const.field-0 c.in-Const.ss c.in-Const.is),
        c.requires.distinct,
      ),
    )

pub add_reads-add_index_reads-requires-in-Signal : goal.add_reads-add_index_reads-requires-in-Signal
add_reads-add_index_reads-requires-in-Signal t c =
    let S = declared_all c.args.signals.now in (
      search (rules, the_lemmas),
      (
        subst (λ (z : List FlatSelect). are_good_selects S z ≡ true) (sym c.as_slice-ss.ensures)
            (signal-good S c.args.e.now c.requires.good c.in-Signal.k c.in-Signal.ss c.in-Signal.is).2,
        c.requires.distinct,
      ),
    )

pub add_reads-add_named-requires-clause-sort : goal.add_reads-add_named-requires-clause-sort
add_reads-add_named-requires-clause-sort t c =
    let S = declared_all c.args.signals.now in
    (signal-good S c.args.e.now c.requires.good c.in-Signal.k c.in-Signal.ss c.in-Signal.is).0

pub add_reads-add_named-requires-clause-good : goal.add_reads-add_named-requires-clause-good
add_reads-add_named-requires-clause-good t c =
    let S = declared_all c.args.signals.now in
    subst (λ (z : List FlatSelect). good_selects (signal_at S c.in-Signal.k) (map (judge_select S) z) ≡ true) (sym c.as_slice-ss.ensures)
    (signal-selects S c.args.e.now c.requires.good c.in-Signal.k c.in-Signal.ss c.in-Signal.is)

pub add_reads-add_reads-requires : goal.add_reads-add_reads-requires
add_reads-add_reads-requires t c =
    let S = declared_all c.args.signals.now in (
      search (rules, the_lemmas),
      (
        subst (λ (z : FlatExpr). is_good S z ≡ true) (sym c.get.ensures)
            (un-good S c.args.e.now c.requires.good c.in-Un.field-0 c.in-Un.a c.in-Un.is).1,
        c.requires.distinct,
      ),
    )

pub add_reads-add_reads-requires-in-Cond : goal.add_reads-add_reads-requires-in-Cond
add_reads-add_reads-requires-in-Cond t c =
    let S = declared_all c.args.signals.now in (
      search (rules, the_lemmas),
      (
        subst (λ (z : FlatExpr). is_good S z ≡ true) (sym c.get-in-Cond.ensures)
            (cond-good S c.args.e.now c.requires.good c.in-Cond.c c.in-Cond.a c.in-Cond.b c.in-Cond.is).0,
        c.requires.distinct,
      ),
    )

pub add_reads-add_reads-requires-in-Cond-2 : goal.add_reads-add_reads-requires-in-Cond-2
add_reads-add_reads-requires-in-Cond-2 t c =
    let S = declared_all c.args.signals.now in (
      search (rules, the_lemmas),
      (
        subst (λ (z : FlatExpr). is_good S z ≡ true) (sym c.get-in-Cond-2.ensures)
            (cond-good S c.args.e.now c.requires.good c.in-Cond.c c.in-Cond.a c.in-Cond.b c.in-Cond.is).1,
        c.requires.distinct,
      ),
    )

pub add_reads-add_reads-requires-in-Cond-3 : goal.add_reads-add_reads-requires-in-Cond-3
add_reads-add_reads-requires-in-Cond-3 t c =
    let S = declared_all c.args.signals.now in (
      search (rules, the_lemmas),
      (
        subst (λ (z : FlatExpr). is_good S z ≡ true) (sym c.get-in-Cond-3.ensures)
            (cond-good S c.args.e.now c.requires.good c.in-Cond.c c.in-Cond.a c.in-Cond.b c.in-Cond.is).2,
        c.requires.distinct,
      ),
    )

pub add_reads-add_reads-requires-in-Bin : goal.add_reads-add_reads-requires-in-Bin
add_reads-add_reads-requires-in-Bin t c =
    let S = declared_all c.args.signals.now in (
      search (rules, the_lemmas),
      (
        subst (λ (z : FlatExpr). is_good S z ≡ true) (sym c.get-in-Bin.ensures)
            (bin-good S c.args.e.now c.requires.good c.in-Bin.field-0 c.in-Bin.a c.in-Bin.b c.in-Bin.is).1,
        c.requires.distinct,
      ),
    )

pub add_reads-add_reads-requires-in-Bin-2 : goal.add_reads-add_reads-requires-in-Bin-2
add_reads-add_reads-requires-in-Bin-2 t c =
    let S = declared_all c.args.signals.now in (
      search (rules, the_lemmas),
      (
        subst (λ (z : FlatExpr). is_good S z ≡ true) (sym c.get-in-Bin-2.ensures)
            (bin-good S c.args.e.now c.requires.good c.in-Bin.field-0 c.in-Bin.a c.in-Bin.b c.in-Bin.is).2,
        c.requires.distinct,
      ),
    )

pub add_reads-add_reads-requires-in-Div : goal.add_reads-add_reads-requires-in-Div
add_reads-add_reads-requires-in-Div t c =
    let S = declared_all c.args.signals.now in (
      search (rules, the_lemmas),
      (
        subst (λ (z : FlatExpr). is_good S z ≡ true) (sym c.get-in-Div.ensures)
            (div-good S c.args.e.now c.requires.good c.in-Div.a c.in-Div.b c.in-Div.is).0,
        c.requires.distinct,
      ),
    )

pub add_reads-add_reads-requires-in-Div-2 : goal.add_reads-add_reads-requires-in-Div-2
add_reads-add_reads-requires-in-Div-2 t c =
    let S = declared_all c.args.signals.now in (
      search (rules, the_lemmas),
      (
        subst (λ (z : FlatExpr). is_good S z ≡ true) (sym c.get-in-Div-2.ensures)
            (div-good S c.args.e.now c.requires.good c.in-Div.a c.in-Div.b c.in-Div.is).1,
        c.requires.distinct,
      ),
    )

pub add_reads-add_reads-requires-in-Rem : goal.add_reads-add_reads-requires-in-Rem
add_reads-add_reads-requires-in-Rem t c =
    let S = declared_all c.args.signals.now in (
      search (rules, the_lemmas),
      (
        subst (λ (z : FlatExpr). is_good S z ≡ true) (sym c.get-in-Rem.ensures)
            (rem-good S c.args.e.now c.requires.good c.in-Rem.a c.in-Rem.b c.in-Rem.is).0,
        c.requires.distinct,
      ),
    )

pub add_reads-add_reads-requires-in-Rem-2 : goal.add_reads-add_reads-requires-in-Rem-2
add_reads-add_reads-requires-in-Rem-2 t c =
    let S = declared_all c.args.signals.now in (
      search (rules, the_lemmas),
      (
        subst (λ (z : FlatExpr). is_good S z ≡ true) (sym c.get-in-Rem-2.ensures)
            (rem-good S c.args.e.now c.requires.good c.in-Rem.a c.in-Rem.b c.in-Rem.is).1,
        c.requires.distinct,
      ),
    )

pub add_reads-add_reads-requires-in-Cast : goal.add_reads-add_reads-requires-in-Cast
add_reads-add_reads-requires-in-Cast t c =
    let S = declared_all c.args.signals.now in (
      search (rules, the_lemmas),
      (
        subst (λ (z : FlatExpr). is_good S z ≡ true) (sym c.get-in-Cast.ensures)
            (cast-good S c.args.e.now c.requires.good c.in-Cast.field-0 c.in-Cast.a c.in-Cast.is),
        c.requires.distinct,
      ),
    )

pub add_reads-add_all-requires : goal.add_reads-add_all-requires
add_reads-add_all-requires t c =
    let S = declared_all c.args.signals.now in (
      search (rules, the_lemmas),
      (
        subst (λ (z : List FlatExpr). list_all (λ (x : Bool). x) (map (is_good S) z) ≡ true) (sym c.as_slice-in-Cat.ensures)
            (cat-good S c.args.e.now c.requires.good c.in-Cat.es c.in-Cat.is),
        c.requires.distinct,
      ),
    )

pub add_reads-add_all-requires-in-Rep : goal.add_reads-add_all-requires-in-Rep
add_reads-add_all-requires-in-Rep t c =
    let S = declared_all c.args.signals.now in (
      search (rules, the_lemmas),
      (
        subst (λ (z : List FlatExpr). list_all (λ (x : Bool). x) (map (is_good S) z) ≡ true) (sym c.as_slice-in-Rep.ensures)
            (rep-good S c.args.e.now c.requires.good c.in-Rep.field-0 c.in-Rep.es c.in-Rep.is),
        c.requires.distinct,
      ),
    )

pub add_reads-returns-in-Lit-clause-reads : goal.add_reads-returns-in-Lit-clause-reads
add_reads-returns-in-Lit-clause-reads t c =
    let S = declared_all c.args.signals.now in
    let s = lit-same S c.args.e.now c.in-Lit.field-0 c.in-Lit.is in adds-as S _ _ _ _ s.reads (adds-none S c.args.into.now)

pub add_reads-returns-in-Lit-clause-constant : goal.add_reads-returns-in-Lit-clause-constant
add_reads-returns-in-Lit-clause-constant t c =
    let S = declared_all c.args.signals.now in
    let s = lit-same S c.args.e.now c.in-Lit.field-0 c.in-Lit.is in sym s.constant

pub add_reads-returns-in_ok-fixed-in-Const-clause-reads : goal.add_reads-returns-in_ok-fixed-in-Const-clause-reads
add_reads-returns-in_ok-fixed-in-Const-clause-reads t c =
    let S = declared_all c.args.signals.now in
    let s = const-same S c.args.e.now c.in-Const.field-0 c.in-Const.ss c.in-Const.is in adds-as S _ _ _ _ (s.reads ∙ sym (ap (λ (z :
    List FlatSelect). index_reads (taken S z)) c.as_slice.ensures)) c.in_ok-fixed-in-Const.ensures.reads

pub add_reads-returns-in_ok-fixed-in-Const-clause-constant : goal.add_reads-returns-in_ok-fixed-in-Const-clause-constant
add_reads-returns-in_ok-fixed-in-Const-clause-constant t c =
    let S = declared_all c.args.signals.now in
    let s = const-same S c.args.e.now c.in-Const.field-0 c.in-Const.ss c.in-Const.is in c.in_ok-fixed-in-Const.ensures.constant ∙ ap (λ (z :
    List FlatSelect). all_constant (taken S z)) c.as_slice.ensures ∙ sym s.constant

pub add_reads-returns-in_ok-x-in-Un-clause-reads : goal.add_reads-returns-in_ok-x-in-Un-clause-reads
add_reads-returns-in_ok-x-in-Un-clause-reads t c =
    let S = declared_all c.args.signals.now in
    let s = un-same S c.args.e.now c.in-Un.field-0 c.in-Un.a c.in-Un.is in adds-as S _ _ _ _ (s.reads ∙ sym (ap (λ (z :
    FlatExpr). (reading S z).reads) c.get.ensures)) c.in_ok-x-in-Un.ensures.reads

pub add_reads-returns-in_ok-x-in-Un-clause-constant : goal.add_reads-returns-in_ok-x-in-Un-clause-constant
add_reads-returns-in_ok-x-in-Un-clause-constant t c =
    let S = declared_all c.args.signals.now in
    let s = un-same S c.args.e.now c.in-Un.field-0 c.in-Un.a c.in-Un.is in c.in_ok-x-in-Un.ensures.constant ∙ ap (λ (z : FlatExpr). (reading S z).constant) c.get.ensures ∙ sym s.constant

pub add_reads-returns-in_ok-x-in-Cast-clause-reads : goal.add_reads-returns-in_ok-x-in-Cast-clause-reads
add_reads-returns-in_ok-x-in-Cast-clause-reads t c =
    let S = declared_all c.args.signals.now in
    let s = cast-same S c.args.e.now c.in-Cast.field-0 c.in-Cast.a c.in-Cast.is in adds-as S _ _ _ _ (s.reads ∙ sym (ap (λ (z :
    FlatExpr). (reading S z).reads) c.get-in-Cast.ensures)) c.in_ok-x-in-Cast.ensures.reads

pub add_reads-returns-in_ok-x-in-Cast-clause-constant : goal.add_reads-returns-in_ok-x-in-Cast-clause-constant
add_reads-returns-in_ok-x-in-Cast-clause-constant t c =
    let S = declared_all c.args.signals.now in
    let s = cast-same S c.args.e.now c.in-Cast.field-0 c.in-Cast.a c.in-Cast.is in c.in_ok-x-in-Cast.ensures.constant ∙ ap (λ (z : FlatExpr). (reading S z).constant) c.get-in-Cast.ensures ∙
    sym s.constant

pub add_reads-returns-in_ok-x-in-Cat-clause-reads : goal.add_reads-returns-in_ok-x-in-Cat-clause-reads
add_reads-returns-in_ok-x-in-Cat-clause-reads t c =
    let S = declared_all c.args.signals.now in
    let s = cat-same S c.args.e.now c.in-Cat.es c.in-Cat.is in adds-as S _ _ _ _ (s.reads ∙ sym (ap (all_reads S) c.as_slice-in-Cat.ensures)) c.in_ok-x-in-Cat.ensures.reads

pub add_reads-returns-in_ok-x-in-Cat-clause-constant : goal.add_reads-returns-in_ok-x-in-Cat-clause-constant
add_reads-returns-in_ok-x-in-Cat-clause-constant t c =
    let S = declared_all c.args.signals.now in
    let s = cat-same S c.args.e.now c.in-Cat.es c.in-Cat.is in c.in_ok-x-in-Cat.ensures.constant ∙ ap (are_constant S) c.as_slice-in-Cat.ensures ∙ sym s.constant

pub add_reads-returns-in_ok-x-in-Rep-clause-reads : goal.add_reads-returns-in_ok-x-in-Rep-clause-reads
add_reads-returns-in_ok-x-in-Rep-clause-reads t c =
    let S = declared_all c.args.signals.now in
    let s = rep-same S c.args.e.now c.in-Rep.field-0 c.in-Rep.es c.in-Rep.is in adds-as S _ _ _ _ (s.reads ∙ sym (ap (all_reads S) c.as_slice-in-Rep.ensures)) c.in_ok-x-in-Rep.ensures.reads

pub add_reads-returns-in_ok-x-in-Rep-clause-constant : goal.add_reads-returns-in_ok-x-in-Rep-clause-constant
add_reads-returns-in_ok-x-in-Rep-clause-constant t c =
    let S = declared_all c.args.signals.now in
    let s = rep-same S c.args.e.now c.in-Rep.field-0 c.in-Rep.es c.in-Rep.is in c.in_ok-x-in-Rep.ensures.constant ∙ ap (are_constant S) c.as_slice-in-Rep.ensures ∙ sym s.constant

pub add_reads-returns-in_ok-add_named-in-Signal-clause-reads : goal.add_reads-returns-in_ok-add_named-in-Signal-clause-reads
add_reads-returns-in_ok-add_named-in-Signal-clause-reads t c =
    let S = declared_all c.args.signals.now in
    let s = signal-same S c.args.e.now c.in-Signal.k c.in-Signal.ss c.in-Signal.is (signal-good S c.args.e.now c.requires.good c.in-Signal.k c.in-Signal.ss c.in-Signal.is).0 in
    let z = c.as_slice-ss.result.now in
    adds-as S _ _ _ _ (s.reads ∙ sym (ap (λ (y : List FlatSelect). bits_named (signal_at S c.in-Signal.k) (taken S y) ++ index_reads (taken S y)) c.as_slice-ss.ensures))
    (adds-swap S (index_reads (taken S z)) (bits_named (signal_at S c.in-Signal.k) (taken S z)) (adds-then S c.in_ok-fixed-in-Signal.ensures.reads c.in_ok-add_named-in-Signal.ensures.adds))

pub add_reads-returns-in_ok-add_named-in-Signal-clause-constant : goal.add_reads-returns-in_ok-add_named-in-Signal-clause-constant
add_reads-returns-in_ok-add_named-in-Signal-clause-constant t c =
    let S = declared_all c.args.signals.now in
    let s = signal-same S c.args.e.now c.in-Signal.k c.in-Signal.ss c.in-Signal.is (signal-good S c.args.e.now c.requires.good c.in-Signal.k c.in-Signal.ss c.in-Signal.is).0 in sym s.constant

pub add_reads-returns-in_ok-y-in-Bin-clause-reads : goal.add_reads-returns-in_ok-y-in-Bin-clause-reads
add_reads-returns-in_ok-y-in-Bin-clause-reads t c =
    let S = declared_all c.args.signals.now in
    let s = bin-same S c.args.e.now c.in-Bin.field-0 c.in-Bin.a c.in-Bin.b c.in-Bin.is in
    adds-as S _ _ _ _ (s.reads ∙ (sym (ap (λ (z : FlatExpr). (reading S z).reads ++ (reading S c.in-Bin.b).reads) c.get-in-Bin.ensures) ∙ sym (ap (λ (z :
    FlatExpr). (reading S c.get-in-Bin.result.now).reads ++ (reading S z).reads) c.get-in-Bin-2.ensures)))
    (adds-then S c.in_ok-x-in-Bin.ensures.reads c.in_ok-y-in-Bin.ensures.reads)

pub add_reads-returns-in_ok-y-in-Bin-clause-constant : goal.add_reads-returns-in_ok-y-in-Bin-clause-constant
add_reads-returns-in_ok-y-in-Bin-clause-constant t c =
    let S = declared_all c.args.signals.now in
    let s = bin-same S c.args.e.now c.in-Bin.field-0 c.in-Bin.a c.in-Bin.b c.in-Bin.is in
    both-constant (c.in_ok-x-in-Bin.ensures.constant ∙ ap (λ (z : FlatExpr). (reading S z).constant) c.get-in-Bin.ensures) (c.in_ok-y-in-Bin.ensures.constant ∙ ap (λ (z :
    FlatExpr). (reading S z).constant) c.get-in-Bin-2.ensures) s.constant

pub add_reads-returns-in_ok-y-in-Div-clause-reads : goal.add_reads-returns-in_ok-y-in-Div-clause-reads
add_reads-returns-in_ok-y-in-Div-clause-reads t c =
    let S = declared_all c.args.signals.now in
    let s = div-same S c.args.e.now c.in-Div.a c.in-Div.b c.in-Div.is in
    adds-as S _ _ _ _ (s.reads ∙ (sym (ap (λ (z : FlatExpr). (reading S z).reads ++ (reading S c.in-Div.b).reads) c.get-in-Div.ensures) ∙ sym (ap (λ (z :
    FlatExpr). (reading S c.get-in-Div.result.now).reads ++ (reading S z).reads) c.get-in-Div-2.ensures)))
    (adds-then S c.in_ok-x-in-Div.ensures.reads c.in_ok-y-in-Div.ensures.reads)

pub add_reads-returns-in_ok-y-in-Div-clause-constant : goal.add_reads-returns-in_ok-y-in-Div-clause-constant
add_reads-returns-in_ok-y-in-Div-clause-constant t c =
    let S = declared_all c.args.signals.now in
    let s = div-same S c.args.e.now c.in-Div.a c.in-Div.b c.in-Div.is in
    both-constant (c.in_ok-x-in-Div.ensures.constant ∙ ap (λ (z : FlatExpr). (reading S z).constant) c.get-in-Div.ensures) (c.in_ok-y-in-Div.ensures.constant ∙ ap (λ (z :
    FlatExpr). (reading S z).constant) c.get-in-Div-2.ensures) s.constant

pub add_reads-returns-in_ok-y-in-Rem-clause-reads : goal.add_reads-returns-in_ok-y-in-Rem-clause-reads
add_reads-returns-in_ok-y-in-Rem-clause-reads t c =
    let S = declared_all c.args.signals.now in
    let s = rem-same S c.args.e.now c.in-Rem.a c.in-Rem.b c.in-Rem.is in
    adds-as S _ _ _ _ (s.reads ∙ (sym (ap (λ (z : FlatExpr). (reading S z).reads ++ (reading S c.in-Rem.b).reads) c.get-in-Rem.ensures) ∙ sym (ap (λ (z :
    FlatExpr). (reading S c.get-in-Rem.result.now).reads ++ (reading S z).reads) c.get-in-Rem-2.ensures)))
    (adds-then S c.in_ok-x-in-Rem.ensures.reads c.in_ok-y-in-Rem.ensures.reads)

pub add_reads-returns-in_ok-y-in-Rem-clause-constant : goal.add_reads-returns-in_ok-y-in-Rem-clause-constant
add_reads-returns-in_ok-y-in-Rem-clause-constant t c =
    let S = declared_all c.args.signals.now in
    let s = rem-same S c.args.e.now c.in-Rem.a c.in-Rem.b c.in-Rem.is in
    both-constant (c.in_ok-x-in-Rem.ensures.constant ∙ ap (λ (z : FlatExpr). (reading S z).constant) c.get-in-Rem.ensures) (c.in_ok-y-in-Rem.ensures.constant ∙ ap (λ (z :
    FlatExpr). (reading S z).constant) c.get-in-Rem-2.ensures) s.constant

pub add_reads-returns-in_ok-z-in-Cond-clause-reads : goal.add_reads-returns-in_ok-z-in-Cond-clause-reads
add_reads-returns-in_ok-z-in-Cond-clause-reads t c =
    let S = declared_all c.args.signals.now in
    let s = cond-same S c.args.e.now c.in-Cond.c c.in-Cond.a c.in-Cond.b c.in-Cond.is in
    adds-as S _ _ _ _ (s.reads ∙ (sym (ap (λ (z : FlatExpr). (reading S z).reads ++ ((reading S c.in-Cond.a).reads ++ (reading S c.in-Cond.b).reads)) c.get-in-Cond.ensures) ∙
    (sym (ap (λ (z : FlatExpr). (reading S c.get-in-Cond.result.now).reads ++ ((reading S z).reads ++ (reading S c.in-Cond.b).reads)) c.get-in-Cond-2.ensures) ∙
    sym (ap (λ (z : FlatExpr). (reading S c.get-in-Cond.result.now).reads ++ ((reading S c.get-in-Cond-2.result.now).reads ++ (reading S z).reads)) c.get-in-Cond-3.ensures))))
    (adds-then S c.in_ok-x-in-Cond.ensures.reads (adds-then S c.in_ok-y-in-Cond.ensures.reads c.in_ok-z-in-Cond.ensures.reads))

pub add_reads-returns-in_ok-z-in-Cond-clause-constant : goal.add_reads-returns-in_ok-z-in-Cond-clause-constant
add_reads-returns-in_ok-z-in-Cond-clause-constant t c =
    let S = declared_all c.args.signals.now in
    let s = cond-same S c.args.e.now c.in-Cond.c c.in-Cond.a c.in-Cond.b c.in-Cond.is in
    all-three (c.in_ok-x-in-Cond.ensures.constant ∙ ap (λ (z : FlatExpr). (reading S z).constant) c.get-in-Cond.ensures) (c.in_ok-y-in-Cond.ensures.constant ∙ ap (λ (z :
    FlatExpr). (reading S z).constant) c.get-in-Cond-2.ensures)
    (c.in_ok-z-in-Cond.ensures.constant ∙ ap (λ (z : FlatExpr). (reading S z).constant) c.get-in-Cond-3.ensures) s.constant

pub add_select_reads-add_reads-requires : goal.add_select_reads-add_reads-requires
add_select_reads-add_reads-requires t c =
    let S = declared_all c.args.signals.now in
    (search (rules, the_lemmas), (subst (λ (z : FlatExpr). is_good S z ≡ true) (sym c.get.ensures) (good-Bit S c.args.s.now c.in-Bit.e c.in-Bit.is c.requires.good), c.requires.distinct))

pub add_select_reads-returns-in_ok-x-in-Bit-clause-reads : goal.add_select_reads-returns-in_ok-x-in-Bit-clause-reads
add_select_reads-returns-in_ok-x-in-Bit-clause-reads t c =
    let S = declared_all c.args.signals.now in
    let s = bit-same S c.args.s.now c.in-Bit.e c.in-Bit.is in adds-as S _ _ _ _ (s.reads ∙ sym (ap (λ (z : FlatExpr). (reading S z).reads) c.get.ensures)) c.in_ok-x-in-Bit.ensures.reads

pub add_select_reads-returns-in_ok-x-in-Bit-clause-constant : goal.add_select_reads-returns-in_ok-x-in-Bit-clause-constant
add_select_reads-returns-in_ok-x-in-Bit-clause-constant t c =
    let S = declared_all c.args.signals.now in
    let s = bit-same S c.args.s.now c.in-Bit.e c.in-Bit.is in c.in_ok-x-in-Bit.ensures.constant ∙ (ap (λ (z : FlatExpr). (reading S z).constant) c.get.ensures ∙ sym s.constant)

pub add_select_reads-add_reads-requires-in-Up : goal.add_select_reads-add_reads-requires-in-Up
add_select_reads-add_reads-requires-in-Up t c =
    let S = declared_all c.args.signals.now in (
      search (rules, the_lemmas),
      (
        subst (λ (z : FlatExpr). is_good S z ≡ true) (sym c.get-in-Up.ensures)
            (good-Up S c.args.s.now c.in-Up.e c.in-Up.field-1 c.in-Up.is c.requires.good),
        c.requires.distinct,
      ),
    )

pub add_select_reads-returns-in_ok-x-in-Up-clause-reads : goal.add_select_reads-returns-in_ok-x-in-Up-clause-reads
add_select_reads-returns-in_ok-x-in-Up-clause-reads t c =
    let S = declared_all c.args.signals.now in
    let s = up-same S c.args.s.now c.in-Up.e c.in-Up.field-1 c.in-Up.is in adds-as S _ _ _ _ (s.reads ∙ sym (ap (λ (z :
    FlatExpr). (reading S z).reads) c.get-in-Up.ensures)) c.in_ok-x-in-Up.ensures.reads

pub add_select_reads-returns-in_ok-x-in-Up-clause-constant : goal.add_select_reads-returns-in_ok-x-in-Up-clause-constant
add_select_reads-returns-in_ok-x-in-Up-clause-constant t c =
    let S = declared_all c.args.signals.now in
    let s = up-same S c.args.s.now c.in-Up.e c.in-Up.field-1 c.in-Up.is in c.in_ok-x-in-Up.ensures.constant ∙ (ap (λ (z : FlatExpr). (reading S z).constant) c.get-in-Up.ensures ∙ sym s.constant)

pub add_select_reads-add_reads-requires-in-Down : goal.add_select_reads-add_reads-requires-in-Down
add_select_reads-add_reads-requires-in-Down t c =
    let S = declared_all c.args.signals.now in (
      search (rules, the_lemmas),
      (
        subst (λ (z : FlatExpr). is_good S z ≡ true) (sym c.get-in-Down.ensures)
            (good-Down S c.args.s.now c.in-Down.e c.in-Down.field-1 c.in-Down.is c.requires.good),
        c.requires.distinct,
      ),
    )

pub add_select_reads-returns-in_ok-x-in-Down-clause-reads : goal.add_select_reads-returns-in_ok-x-in-Down-clause-reads
add_select_reads-returns-in_ok-x-in-Down-clause-reads t c =
    let S = declared_all c.args.signals.now in
    let s = down-same S c.args.s.now c.in-Down.e c.in-Down.field-1 c.in-Down.is in adds-as S _ _ _ _ (s.reads ∙ sym (ap (λ (z :
    FlatExpr). (reading S z).reads) c.get-in-Down.ensures)) c.in_ok-x-in-Down.ensures.reads

pub add_select_reads-returns-in_ok-x-in-Down-clause-constant : goal.add_select_reads-returns-in_ok-x-in-Down-clause-constant
add_select_reads-returns-in_ok-x-in-Down-clause-constant t c =
    let S = declared_all c.args.signals.now in
    let s = down-same S c.args.s.now c.in-Down.e c.in-Down.field-1 c.in-Down.is in c.in_ok-x-in-Down.ensures.constant ∙ (ap (λ (z :
    FlatExpr). (reading S z).constant) c.get-in-Down.ensures ∙ sym s.constant)

pub add_select_reads-returns-in-Part-clause-reads : goal.add_select_reads-returns-in-Part-clause-reads
add_select_reads-returns-in-Part-clause-reads t c =
    let S = declared_all c.args.signals.now in
    let s = part-same S c.args.s.now c.in-Part.field-0 c.in-Part.field-1 c.in-Part.is in adds-as S _ _ _ _ s.reads (adds-none S c.args.into.now)

pub add_select_reads-returns-in-Part-clause-constant : goal.add_select_reads-returns-in-Part-clause-constant
add_select_reads-returns-in-Part-clause-constant t c =
    let S = declared_all c.args.signals.now in
    let s = part-same S c.args.s.now c.in-Part.field-0 c.in-Part.field-1 c.in-Part.is in sym s.constant

pub add_all-add_reads-requires : goal.add_all-add_reads-requires
add_all-add_reads-requires t c =
    let S = declared_all c.args.signals.now in
    let g = good-at S c.args.es.now c.loop-e.e-index c.e-item.result c.loop-e-test.true c.requires.good in
    (search (rules, the_lemmas), (subst (λ (z : FlatExpr). is_good S z ≡ true) (sym c.e-item.is) g, c.requires.distinct))
