use Rattle.lv_links.specs.Linking.{link_of}
use Rattle.lv_late.proofs.GivenLaws.{linked-there, formed-more}
use Rattle.lv_late.proofs.settings.any_fault.Goals as goal

pub returns-in-Some : goal.returns-in-Some
returns-in-Some g c = record {
  at = λ here ok. record {
    link = link_of c.link-item.result;
    among = linked-there c.args.links.now c.loop-link.link-index c.link-item.result c.loop-link-test.true c.link-item.is;
    faulty = c.in-Some.ensures.at here ok;
  };
}

pub loop-link-preserved : goal.loop-link-preserved
loop-link-preserved g c = record {
  at = λ here ok. formed-more c.args.links.now c.loop-link.link-index c.link-item.result c.loop-link-test.true c.link-item.is here
      (c.loop-link.invariant.at here ok) (c.in_default.ensures.at here ok);
}
