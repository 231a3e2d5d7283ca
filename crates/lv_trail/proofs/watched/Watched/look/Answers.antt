use Rattle.std.proofs.Common.{◌≡◌, ℕ, ◌-◌, ◌/◌, ◌≤◌, true, get_or, refl, sym, ◌∙◌, ap, subst, arith, inl}
use Rattle.lv_clauses.specs.Literals.{Lit, has}
use Rattle.lv_trail.specs.declared.watched.Watched.{Watched}
use Rattle.lv_trail.specs.Trail.{no_entry, truths}
use Rattle.lv_trail.specs.Store.{entries}
use Rattle.lv_trail.proofs.Adding.{number}
use Rattle.lv_trail.proofs.Watching.{code-same, code-some}
use Rattle.lv_trail.proofs.Nexting.{inside-within}
use Rattle.lv_trail.proofs.Lasting.{clause-same, true-at}
use Rattle.lv_trail.proofs.Visiting.{first-of, grown-visit, none-found}
use Rattle.lv_trail.proofs.watched.Watched.look.Goals as goal

pub other-mate-requires-clause-high : goal.other-mate-requires-clause-high
other-mate-requires-clause-high c = (first-of c.args.self.now c.args.list c.requires.visit c.requires.some).turn.mate_slot.1

pub lit_of-other-requires : goal.lit_of-other-requires
lit_of-other-requires c =
    let t = c.args.self.now in
    let u = (first-of t c.args.list c.requires.visit c.requires.some).turn in
    let i = inside-within t.store c.requires.visit.watched.sound _ u.clause u.other u.at u.inside_other in
    omega (arith, c.other-mate.ensures, u.list_other, code-some u.other i.0)

pub is_true-requires-clause-within : goal.is_true-requires-clause-within
is_true-requires-clause-within c =
    let t = c.args.self.now in
    let u = (first-of t c.args.list c.requires.visit c.requires.some).turn in
    let is : c.lit_of-other.result ≡ u.other = code-same c.lit_of-other.result u.other (c.lit_of-other.ensures ∙ (c.other-mate.ensures ∙ u.list_other)) in
    subst (λ (z : Lit). (1 ≤ z.var) × (z.var ≤ t.store.vars)) (sym is) (inside-within t.store c.requires.visit.watched.sound _ u.clause u.other u.at u.inside_other)

pub is_true-requires-2-clause-within : goal.is_true-requires-2-clause-within
is_true-requires-2-clause-within c =
    let t = c.args.self.now in
    let u = (first-of t c.args.list c.requires.visit c.requires.some).turn in
    let is : c.lit_of-other.result ≡ u.other = code-same c.lit_of-other.result u.other (c.lit_of-other.ensures ∙ (c.other-mate.ensures ∙ u.list_other)) in
    rw c.negated.ensures (subst (λ (z : Lit). (1 ≤ z.var) × (z.var ≤ t.store.vars)) (sym is) (inside-within t.store c.requires.visit.watched.sound _ u.clause u.other u.at u.inside_other))

pub force-requires-clause-within : goal.force-requires-clause-within
force-requires-clause-within c =
    let t = c.args.self.now in
    let u = (first-of t c.args.list c.requires.visit c.requires.some).turn in
    let is : c.lit_of-other.result ≡ u.other = code-same c.lit_of-other.result u.other (c.lit_of-other.ensures ∙ (c.other-mate.ensures ∙ u.list_other)) in
    subst (λ (z : Lit). (1 ≤ z.var) × (z.var ≤ t.store.vars)) (sym is) (inside-within t.store c.requires.visit.watched.sound _ u.clause u.other u.at u.inside_other)

pub settle-requires-clause-settled : goal.settle-requires-clause-settled
settle-requires-clause-settled c =
    let t = c.args.self.now in
    let v = c.requires.visit in
    inl (
      refl,
      record {
        other = c.lit_of-other.result;
        list = sym (c.lit_of-other.ensures ∙ c.other-mate.ensures);
        is = true-at t.store v.watched.sound c.lit_of-other.result t.loose (get_or (entries t.store) t.head no_entry).level (sym c.is_true.ensures ∙ c.if-is_true.true) v.level;
      },
    )

pub force-requires-clause-reason : goal.force-requires-clause-reason
force-requires-clause-reason c = λ f.
    let t = c.args.self.now in
    let k : ℕ = (t.apart - 1) / 2 in
    let u = (first-of t c.args.list c.requires.visit c.requires.some).turn in
    let is : u.other ≡ c.lit_of-other.result = sym (code-same c.lit_of-other.result u.other (c.lit_of-other.ensures ∙ (c.other-mate.ensures ∙ u.list_other))) in
    let same = clause-same t.store.clauses k u.clause c.clause.result.now u.at c.clause.ensures.value in
    let none = none-found (truths (entries t.store)) c.clause.result.now c.other-mate.result c.find_open.result c.in_default.not-Some c.find_open.ensures in (
      u.clause,
      sym (number t.store.clauses k) ∙ u.at,
      record {
        inside = subst (λ z. has u.clause z ≡ true) is u.inside_other;
        unset = f;
        free = ap (has (truths (entries t.store))) (sym c.negated.ensures) ∙ (sym c.is_true-2.ensures ∙ c.if-is_true-2.false);
        others = λ m i ne. none m (subst (λ z. has z m ≡ true) (sym same) i) (λ e. ne (code-same m c.lit_of-other.result (e ∙ sym c.lit_of-other.ensures)));
      },
    )

pub settle-requires-2-clause-visit : goal.settle-requires-2-clause-visit
settle-requires-2-clause-visit c = grown-visit c.args.self.now _ c.args.list c.requires.visit c.force.ensures.grown refl refl refl refl refl

pub settle-requires-2-clause-settled : goal.settle-requires-2-clause-settled
settle-requires-2-clause-settled c =
    let t = c.args.self.now in
    let u : Watched = record t { store = c.force.new.self; looked = c.saturating_add-self.result } in
    let v = grown-visit t u c.args.list c.requires.visit c.force.ensures.grown refl refl refl refl refl in
    inl (
      refl,
      record {
        other = c.lit_of-other.result;
        list = sym (c.lit_of-other.ensures ∙ c.other-mate.ensures);
        is = true-at u.store v.watched.sound c.lit_of-other.result u.loose (get_or (entries u.store) u.head no_entry).level c.force.ensures.is v.level;
      },
    )
