use Rattle.lv_lower.proofs.Finishing.{lowered, has_nexts}
use Rattle.lv_lower.proofs.lowered.table_with_nexts_is_lowered.Goals as goal

pub returns-clause-lowered : goal.returns-clause-lowered
returns-clause-lowered c = λ S vs order old table done first carries settling firsts done_is leaves. lowered S vs order old table done carries done_is first settling firsts leaves

pub returns-clause-whole : goal.returns-clause-whole
returns-clause-whole c = λ S vs order old table done carries done_is. has_nexts S vs order old table done carries done_is
