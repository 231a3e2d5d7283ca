use Rattle.std.proofs.Common.{◌≡◌, [], ap, sym, ◌∙◌, subst, length, drop}
use Rattle.std.specs.Prelude.{Contains, MatchOption}
use Rattle.std.proofs.lemmas.List.{length-map}
use Rattle.lv_source.specs.Scopes.{links}
use Rattle.lv_source.specs.ScopeRules.{twice_linked, unlisted_names}
use Rattle.lv_links.specs.Linking.{idents, all_links, ordered_places}
use Rattle.lv_links.proofs.LinkLaws.{ports-unlisted, ports-extra, extra-told, ports-none, extra-none}
use Rattle.lv_links.proofs.connect.link.Goals as goal

pub returns-in-Some-clause-wrong : goal.returns-in-Some-clause-wrong
returns-in-Some-clause-wrong c =
    let h = c.in-Some.ensures (idents c.args.listed.now) c.in-Ok.ensures in
    (h, λ here. ports-unlisted here (idents c.args.listed.now) c.args.conns.now c.in-Some.place h)

pub returns-in-Some-extra-clause-wrong : goal.returns-in-Some-extra-clause-wrong
returns-in-Some-extra-clause-wrong c =
    let h : Contains (ordered_places (drop (length (idents c.args.listed.now)) c.args.conns.now)) c.in-Some-extra.place =
    subst (λ n. Contains (ordered_places (drop n c.args.conns.now)) c.in-Some-extra.place) (sym (length-map c.args.listed.now (λ x. x.now))) c.in-Some-extra.ensures in
    λ here. (extra-told here (idents c.args.listed.now) c.args.conns.now c.in-Some-extra.place h, ports-extra here (idents c.args.listed.now) c.args.conns.now c.in-Some-extra.place h)

pub returns-in-Ok-Some-clause-wrong : goal.returns-in-Ok-Some-clause-wrong
returns-in-Ok-Some-clause-wrong c = λ here.
    let e : all_links c.deref.result.now ≡ links (idents c.args.listed.now) c.args.conns.now = ap all_links c.deref.ensures.value ∙ c.in-Ok-pairs.ensures in
    subst (λ xs. Contains (twice_linked here xs) c.in-Ok-Some.place) e
    (subst (λ o. MatchOption o (twice_linked here (all_links c.deref.result.now) ≡ []) (Contains (twice_linked here (all_links c.deref.result.now)))) c.in-Ok-Some.field-0-is
    (c.in-Ok-Some.ensures here))

pub returns-clause-right : goal.returns-clause-right
returns-clause-right c =
    let e : all_links c.deref.result.now ≡ links (idents c.args.listed.now) c.args.conns.now = ap all_links c.deref.ensures.value ∙ c.in-Ok-pairs.ensures in
    let n : ordered_places (drop (length (idents c.args.listed.now)) c.args.conns.now) ≡ [] =
    ap (λ k. ordered_places (drop k c.args.conns.now)) (length-map c.args.listed.now (λ x. x.now)) ∙ c.in_default-extra.ensures in
    let u : unlisted_names (idents c.args.listed.now) c.args.conns.now ≡ [] = c.in_default-unlisted.ensures (idents c.args.listed.now) c.in-Ok.ensures in
    record {
      are = c.in-Ok-pairs.ensures;
      listed = u;
      ports = λ here. ports-none here (idents c.args.listed.now) c.args.conns.now u n;
      few = λ here. extra-none here (idents c.args.listed.now) c.args.conns.now n;
      once = λ here. ap (twice_linked here) (sym e) ∙
          subst (λ o. MatchOption o (twice_linked here (all_links c.deref.result.now) ≡ []) (Contains (twice_linked here (all_links c.deref.result.now)))) c.in-Ok-None.field-0-is
          (c.in-Ok-None.ensures here);
    }
