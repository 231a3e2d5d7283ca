use Rattle.std.proofs.Common.{◌≡◌, ℕ, List, [], ◌++◌, codes, ◌∙◌}
use Rattle.lv_cert.specs.Values.{values_of, sets_of}
use Rattle.lv_cert.specs.Lines.{kept_lines, first_lines, inputs_lines, query_lines}
use Rattle.lv_cert.proofs.Writing.{whole_text}
use Rattle.lv_cert.proofs.Orders.{for_written}
use Rattle.lv_cert.proofs.write.write_cert.Goals as goal

text_chain : (r a b d e f g h z p q k m n o w : List ℕ) → z ≡ [] → a ≡ z ++ p → b ≡ a ++ q → d ≡ b ++ k → e ≡ d ++ m → f ≡ e ++ n → g ≡ f ++ o → h ≡ g ++ w → r ≡ h →
    r ≡ ([] ++ p) ++ q ++ k ++ m ++ n ++ o ++ w
text_chain r a b d e f g h z p q k m n o w he0 ha hb hd he hf hg hh hr = cc

pub returns-clause-text : goal.returns-clause-text
returns-clause-text c =
    let v = values_of c.args.cert.now in
    let t = whole_text (kept_lines v.kept) (first_lines v.left v.right) (inputs_lines v.input) (query_lines (codes "base") c.args.base.now v.base) (query_lines (codes "step") c.args.step.now v.step) (query_lines (codes "imply") c.args.imply.now v.imply) in
    text_chain c.from.result c.push_word.new.out.items c.push_word-2.new.out.items c.push_found.new.out.items c.push_query.new.out.items c.push_query-2.new.out.items c.push_query-3.new.out.items c.push_word-3.new.out.items _ _ _ _ _ _ _ _
    c.new-out.ensures.items c.in_ok-push_word.ensures c.in_ok-push_word-2.ensures c.in_ok-push_found.ensures c.in_ok-push_query.ensures c.in_ok-push_query-2.ensures c.in_ok-push_query-3.ensures c.in_ok-push_word-3.ensures c.from.ensures ∙ t

pub returns-clause-certificate : goal.returns-clause-certificate
returns-clause-certificate c = λ candidates rising. (
  sets_of c.args.base.now c.args.step.now c.args.imply.now,
  for_written candidates (values_of c.args.cert.now) c.args.base.now c.args.step.now c.args.imply.now c.requires rising c.are_wide.ensures c.are_wide-2.ensures c.are_wide-3.ensures c.kept.ensures.clauses c.kept-2.ensures.clauses c.kept-3.ensures.clauses c.kept.ensures.few c.kept-2.ensures.few c.kept-3.ensures.few,
  returns-clause-text c,
)
