use Rattle.lv_declared.proofs.Labelled as l
use Rattle.lv_declared.proofs.labels.+labels.Goals as goal

pub add_labels-returns-in-Null : goal.add_labels-returns-in-Null
add_labels-returns-in-Null t c = l.null_labels _ _ c.in-Null.is

pub add_labels-returns-in_ok-add_label-in-Block : goal.add_labels-returns-in_ok-add_label-in-Block
add_labels-returns-in_ok-add_label-in-Block t c =
    l.ok_to _ _ _ (l.block_labels _ c.args.stmt.now _ _ c.in-Block.name c.in-Block.body _ c.in-Block.is c.as_slice.ensures c.in_ok-add_label-in-Block.ensures)
    c.add_all_labels.ensures

pub add_labels-returns-in_ok-add_labels-in-If : goal.add_labels-returns-in_ok-add_labels-in-If
add_labels-returns-in_ok-add_labels-in-If t c =
    l.ok_to _ _ _ (l.if_labels _ c.args.stmt.now _ _ _ c.in-If.body _ c.in-If.other c.in-If.is c.get.ensures c.in_ok-add_labels-in-If.ensures)
    c.add_other_labels.ensures

pub add_labels-returns-in-Case : goal.add_labels-returns-in-Case
add_labels-returns-in-Case t c =
    l.ok_to _ _ _ (l.case_labels _ c.args.stmt.now _ _ _ c.in-Case.arms _ c.in-Case.is c.as_slice-in-Case.ensures) c.add_arm_labels.ensures

pub add_labels-returns-in-Loop : goal.add_labels-returns-in-Loop
add_labels-returns-in-Loop t c =
    l.ok_to _ _ _ (l.loop_labels _ c.args.stmt.now _ _ _ _ _ _ c.in-Loop.body _ c.in-Loop.is c.get-in-Loop.ensures) c.add_labels-in-Loop.ensures

pub add_labels-returns-in-Now : goal.add_labels-returns-in-Now
add_labels-returns-in-Now t c = l.now_labels _ c.args.stmt.now _ _ _ c.in-Now.is

pub add_labels-returns-in-Later : goal.add_labels-returns-in-Later
add_labels-returns-in-Later t c = l.later_labels _ c.args.stmt.now _ _ _ c.in-Later.is
