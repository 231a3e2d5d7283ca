use Rattle.lv_late.proofs.GivenLaws.{faulty-fault, given-fault}
use Rattle.lv_late.proofs.settings.setting_fault.Goals as goal

pub returns-in-Some : goal.returns-in-Some
returns-in-Some g c = record {
  at = λ here ok s settings m f i l t. faulty-fault here s settings m f i c.args.links.now l c.in-Some.error c.of_node.result c.of_node.ensures (c.in-Some.ensures.at here ok);
}

pub returns-in-None : goal.returns-in-None
returns-in-None g c = record {
  at = λ here ok s settings m f i l t. given-fault here s settings m f i c.args.links.now l (c.in-None.ensures.at here ok) c.args.error t
      c.of_node-in-None.result c.kind.result c.of_node-in-None.ensures c.kind.ensures;
}
