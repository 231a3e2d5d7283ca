use Rattle.std.proofs.Common.{◌≡◌, true, [], refl, sym, ◌∙◌, ap, subst}
use Rattle.std.specs.Prelude.{slice_get}
use Rattle.lv_clauses.specs.Literals.{has}
use Rattle.lv_trail.proofs.Lasting.{clause-same, last-pair, short-watched}
use Rattle.lv_trail.proofs.Nexting.{inside-within, grown-watched}
use Rattle.lv_trail.proofs.watched.Watched.watch_last.Goals as goal

pub force-requires-clause-within : goal.force-requires-clause-within
force-requires-clause-within c =
    let t = c.args.self.now in
    let l = c.requires.last in
    inside-within t.store c.requires.watched.sound t.checked l.clause c.args.first l.at l.inside

pub watch-requires-clause-watched : goal.watch-requires-clause-watched
watch-requires-clause-watched c =
    let t = c.args.self.now in
    grown-watched t _ (λ x. t.head) [] c.requires.watched (λ x. c.requires.watched.head) c.force.ensures.grown refl refl refl (λ f. (c.is_loose-self.ensures f).0)

pub watch-requires-clause-pair : goal.watch-requires-clause-pair
watch-requires-clause-pair c =
    let t = c.args.self.now in
    let found = c.in-Some.ensures in
    last-pair t _ c.args.first c.in-Some.second c.level.result c.requires.watched c.requires.last c.force.ensures.grown refl refl c.force.ensures.is
    (λ d at. subst (λ z. has z c.in-Some.second ≡ true) (clause-same c.force.new.self.clauses t.checked d c.clause.result.now at c.clause.ensures.value) found.0)
    (λ e. found.1 (e ∙ sym c.list_of.ensures)) (rw (← c.var.ensures.is) c.level.ensures) (λ f. (c.is_loose-self.ensures f).1)

pub returns-in-None-clause-watched : goal.returns-in-None-clause-watched
returns-in-None-clause-watched c =
    let t = c.args.self.now in
    let l = c.requires.last in
    let g = c.force.ensures.grown in
    let at = ap (λ z. slice_get z t.checked) g.same.1 ∙ l.at in
    let is = clause-same c.force.new.self.clauses t.checked l.clause c.clause.result.now at c.clause.ensures.value in
    let w = grown-watched t (record t { store = c.force.new.self }) (λ x. t.head) [] c.requires.watched (λ x. c.requires.watched.head) g refl refl refl (λ f. f) in
    short-watched (record t { store = c.force.new.self }) _ c.args.first l.clause w at l.inside
    (λ m i. c.in-None.ensures m (subst (λ z. has z m ≡ true) (sym is) i) ∙ c.list_of.ensures) c.force.ensures.is refl refl refl refl c.is_loose-self-in-None.ensures
