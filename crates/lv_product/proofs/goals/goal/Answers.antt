use Rattle.std.proofs.Common.{sym, ap, subst, arith}
use Rattle.lv_model.specs.Meeting.{cycles_of}
use Rattle.lv_unroll.specs.Agreements.{GivesFact}
use Rattle.lv_product.specs.declared.task.Query.{Query}
use Rattle.lv_product.specs.Queries.{asked}
use Rattle.lv_product.specs.Meets.{CopiesMeet}
use Rattle.lv_product.proofs.Reaching.{first_gives, first_allowed}
use Rattle.lv_product.proofs.goals.goal.Goals as goal

pub returns-in_ok-at-in-Initial : goal.returns-in_ok-at-in-Initial
returns-in_ok-at-in-Initial c =
    subst (λ (q : Query). GivesFact c.args.b.now c.initial_pair.new.b c.in_ok-at-in-Initial.at
    (CopiesMeet c.args.b.now c.args.task.now c.args.kept.now.numbers.items q c.args.left.now c.args.right.now c.args.aligned)) (sym c.in-Initial.is)
    (first_gives c.args.task.now c.args.kept.now.numbers.items c.args.b.now c.args.left.now c.args.right.now c.initial_pair.new.b c.in_ok-at-in-Initial.at
    c.as_slice-l.result.now c.as_slice-r.result.now
    (record {
      table = c.index-left-0.result;
      items_are = c.as_slice-l.ensures.value;
      is = c.index-left-0.is;
      within = omega (arith, c.requires.many, ap (λ (q : Query). cycles_of (asked q) c.args.task.now.lookahead) c.in-Initial.is);
      copies = c.requires.left;
    })
    (record {
      table = c.index-right-0.result;
      items_are = c.as_slice-r.ensures.value;
      is = c.index-right-0.is;
      within = omega (arith, c.requires.many, c.requires.same, ap (λ (q : Query). cycles_of (asked q) c.args.task.now.lookahead) c.in-Initial.is);
      copies = c.requires.right;
    })
    c.in_ok-at-in-Initial.ensures)

pub returns-in_ok-at-in-Allowed : goal.returns-in_ok-at-in-Allowed
returns-in_ok-at-in-Allowed c =
    subst (λ (q : Query). GivesFact c.args.b.now c.allowed.new.b c.in_ok-at-in-Allowed.at
    (CopiesMeet c.args.b.now c.args.task.now c.args.kept.now.numbers.items q c.args.left.now c.args.right.now c.args.aligned)) (sym c.in-Allowed.is)
    (first_allowed c.args.task.now c.args.kept.now.numbers.items c.args.b.now c.args.left.now c.args.right.now c.allowed.new.b c.in_ok-at-in-Allowed.at
    c.as_slice-l-in-Allowed.result.now
    (record {
      table = c.index-left-0-in-Allowed.result;
      items_are = c.as_slice-l-in-Allowed.ensures.value;
      is = c.index-left-0-in-Allowed.is;
      within = omega (arith, c.requires.many, ap (λ (q : Query). cycles_of (asked q) c.args.task.now.lookahead) c.in-Allowed.is);
      copies = c.requires.left;
    })
    c.in_ok-at-in-Allowed.ensures)
