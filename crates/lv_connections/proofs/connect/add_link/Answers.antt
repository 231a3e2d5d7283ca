use Rattle.std.proofs.Common.{None, Some, Ok, sym, subst}
use Rattle.std.proofs.lemmas.List.{append-nil}
use Rattle.lv_source.specs.ScopeRules.{no_target}
use Rattle.lv_source.specs.Sites.{spots}
use Rattle.lv_source.specs.PartSites.{link_sites}
use Rattle.lv_flat.specs.Signals.{declared_all}
use Rattle.lv_links.specs.Linking.{link_of}
use Rattle.lv_sinks.specs.Connected.{LinkAnswer}
use Rattle.lv_connections.specs.Joined.{IsFaultOf}
use Rattle.lv_connections.proofs.JoinLaws.{part-fault, one-part}
use Rattle.lv_connections.proofs.connect.add_link.Goals as goal

pub returns-in-Err-clause-wrong : goal.returns-in-Err-clause-wrong
returns-in-Err-clause-wrong g c = record {
  at = λ here ok. record {
    at = λ s child n q p.
        subst (IsFaultOf (spots here (link_sites s.names child (link_of c.args.link.now))) (no_target s.names child (link_of c.args.link.now))) (sym c.of_part.ensures)
        (part-fault here s child (link_of c.args.link.now) c.in-Err.error (c.in-Err.ensures.at here ok s child n q p).wrong);
  };
}

pub returns-in-Ok-None-clause-right : goal.returns-in-Ok-None-clause-right
returns-in-Ok-None-clause-right g c = record {
  at = λ here ok. record {
    at = λ s child n q p.
        one-part (declared_all c.args.place.now.signals.now) here s child (link_of c.args.link.now) None
        (subst (λ o. LinkAnswer (declared_all c.args.place.now.signals.now) here s child (link_of c.args.link.now) (Ok o)) c.in-Ok-None.field-0-is
        (c.in-Ok-None.ensures.at here ok s child n q p))
        c.args.into.now.items c.args.into.now.items (sym (append-nil c.args.into.now.items));
  };
}

pub returns-in-Ok-clause-right : goal.returns-in-Ok-clause-right
returns-in-Ok-clause-right g c = record {
  at = λ here ok. record {
    at = λ s child n q p.
        one-part (declared_all c.args.place.now.signals.now) here s child (link_of c.args.link.now) (Some c.in-Ok-Some.part)
        (subst (λ o. LinkAnswer (declared_all c.args.place.now.signals.now) here s child (link_of c.args.link.now) (Ok o)) c.in-Ok-Some.field-0-is
        (c.in-Ok-Some.ensures.at here ok s child n q p))
        c.args.into.now.items c.push.new.self.items c.in-Ok.ensures.items;
  };
}
