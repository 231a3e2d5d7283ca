use Rattle.lv_source.proofs.Summaries.{read_first_is}
use Rattle.lv_source.proofs.summary_tells_reads.Goals as goal

pub returns : goal.returns
returns c = read_first_is
