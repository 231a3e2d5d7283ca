use Rattle.std.proofs.Common.{refl}
use Rattle.lv_parser.specs.Answers.{from}
use Rattle.lv_parser.proofs.StatementPaths.{or_first, or_second, stmt_leads_by}
use Rattle.lv_parser.proofs.statements.begins_stmt.Goals as goal
use Rattle.lv_parser.proofs.statements.begins_stmt.Goals.{then-is_mark, else-is_mark, then-begins_group, else-begins_group}

pub returns-then-begins_cases : goal.returns-then-begins_cases
returns-then-begins_cases c = stmt_leads_by (from c.args.tokens.now.text c.args.tokens.now.list c.args.at) c.if-is_mark.value c.if-begins_group.value c.if-begins_group.value
    (elim c.if-is_mark.branch [
      | then-is_mark w ↦ or_first _ _ w.value-is w.if-is_mark.true c.is_mark.ensures.answer
      | else-is_mark w ↦ or_second _ _ w.value-is w.if-is_mark.false c.is_mark.ensures.answer w.begins_group.ensures
    ])
    (elim c.if-begins_group.branch [
      | then-begins_group w ↦ or_first _ _ w.value-is w.if-begins_group.true refl
      | else-begins_group w ↦ or_second _ _ w.value-is w.if-begins_group.false refl w.begins_cases.ensures
    ])
    (or_first _ _ refl c.if-begins_cases.true refl)

pub returns-else-begins_cases : goal.returns-else-begins_cases
returns-else-begins_cases c = stmt_leads_by (from c.args.tokens.now.text c.args.tokens.now.list c.args.at) c.if-is_mark.value c.if-begins_group.value c.begins_simple.result
    (elim c.if-is_mark.branch [
      | then-is_mark w ↦ or_first _ _ w.value-is w.if-is_mark.true c.is_mark.ensures.answer
      | else-is_mark w ↦ or_second _ _ w.value-is w.if-is_mark.false c.is_mark.ensures.answer w.begins_group.ensures
    ])
    (elim c.if-begins_group.branch [
      | then-begins_group w ↦ or_first _ _ w.value-is w.if-begins_group.true refl
      | else-begins_group w ↦ or_second _ _ w.value-is w.if-begins_group.false refl w.begins_cases.ensures
    ])
    (or_second _ _ refl c.if-begins_cases.false refl c.begins_simple.ensures)
