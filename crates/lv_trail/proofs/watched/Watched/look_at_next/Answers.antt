use Rattle.std.proofs.Common.{◌≡◌, ◌≤◌, true, length, sym, ◌∙◌, subst, arith}
use Rattle.lv_clauses.specs.Literals.{has}
use Rattle.lv_trail.specs.Store.{entries}
use Rattle.lv_trail.proofs.Placing.{entries-length}
use Rattle.lv_trail.proofs.Adding.{number}
use Rattle.lv_trail.proofs.Watching.{guards-open}
use Rattle.lv_trail.proofs.Lasting.{clause-same}
use Rattle.lv_trail.proofs.watched.Watched.look_at_next.Goals as goal

pub watch-requires-clause-pair : goal.watch-requires-clause-pair
watch-requires-clause-pair c =
    let t = c.args.self.now in
    let at = number t.store.clauses t.checked ∙ c.clause.ensures.value in
    let same = clause-same t.store.clauses t.checked c.clause.result.now c.clause-2.result.now at c.clause-2.ensures.value in
    let known : t.head ≤ length (entries t.store) = omega (arith, c.requires.watched.head, entries-length t.store c.requires.watched.sound) in
    let a = c.in-Some.ensures in
    let b = c.in-Some-find_open.ensures in
    record {
      clause = c.clause.result.now;
      at = at;
      inside_first = a.0;
      inside_second = subst (λ z. has z c.in-Some-find_open.second ≡ true) same b.0;
      differ = λ e. b.1 (e ∙ sym c.list_of.ensures);
      guard_first = guards-open (entries t.store) t.loose t.head c.in-Some.first c.in-Some-find_open.second known a.2;
      guard_second = guards-open (entries t.store) t.loose t.head c.in-Some-find_open.second c.in-Some.first known b.2;
    }
