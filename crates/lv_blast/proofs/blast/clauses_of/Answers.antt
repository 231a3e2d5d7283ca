use Rattle.std.proofs.Common.{◌≡◌, ◌-◌, List, length, arith, sym, ◌∙◌, ap, subst}
use Rattle.lv_aig.specs.declared.edge.Edge.{Edge}
use Rattle.lv_circuits.specs.Words.{AllBelow, edge_at}
use Rattle.lv_blast.specs.Encoding.{FitsPorts, edge_words, word_at}
use Rattle.lv_clauses.specs.Sets.{SetValue}
use Rattle.lv_clauses.specs.Sizes.{IsFew}
use Rattle.lv_gates.specs.Encodes.{CountsGates}
use Rattle.lv_blast.specs.Encoding.{IsEncoding}
use Rattle.lv_blast.specs.Encoded.{EncodedGoal}
use Rattle.lv_blast.proofs.Assigned.{has_bits}
use Rattle.lv_blast.proofs.Blasting.{fits_ports, words_below, encoding}
use Rattle.lv_blast.proofs.blast.clauses_of.Goals as goal

pub all_words-requires-clause-inputs : goal.all_words-requires-clause-inputs
all_words-requires-clause-inputs c =
    subst (FitsPorts c.args.graph.now.inputs) (sym (c.as_slice.ensures.value ∙ c.in_ok-inputs.ensures.words)) (fits_ports 1 c.args.graph.now.inputs)

pub all_words-requires-clause-inputs_below : goal.all_words-requires-clause-inputs_below
all_words-requires-clause-inputs_below c i lt =
    let e : c.as_slice.result.now ≡ edge_words 1 c.args.graph.now.inputs = c.as_slice.ensures.value ∙ c.in_ok-inputs.ensures.words in
    subst (λ (ws : List (List Edge)). AllBelow (length c.open_words.new.and) (word_at ws i)) (sym e)
    (words_below 1 c.args.graph.now.inputs (length c.open_words.new.and) (omega (arith, c.in_ok-inputs.ensures.more)) i)

pub new-requires : goal.new-requires
new-requires c =
    let e =
    encoding c.args.graph.now c.args.goal c.open_words.new.and c.all_words.new.and c.as_slice.result.now c.in_ok-words.words.items c.first-edge.result (c.nodes-bits.result - 1) c.in_ok-set.set c.kept.ensures.clauses
    c.in_ok-inputs.ensures.more c.in_ok-inputs.ensures.open_new c.in_ok-words.ensures.grows c.nodes.ensures.graph (c.as_slice.ensures.value ∙ c.in_ok-inputs.ensures.words) c.in_ok-words.ensures.words c.in_ok-words.ensures.is c.requires.within c.requires.one
    (c.first-edge.ensures ∙ ap (λ (es : List Edge). edge_at es 0) (c.word.ensures ∙ ap (λ (ws : List (List Edge)). word_at ws c.args.goal) c.as_slice-2.ensures.value))
    (omega (arith, c.in_ok-inputs.ensures.more, c.nodes-bits.ensures.is)) c.in_ok-set.ensures.encodes ((c.decided_sets_are_at_rest.ensures c.in_ok-set.set (c.nodes-bits.result - 1)).1) in
    has_bits c.args.graph.now c.in_ok-set.set c.in_ok-widths.widths.items c.in_ok-widths.ensures.widths c.in_ok-widths.ensures.net e.vars

pub returns-clause-encodes : goal.returns-clause-encodes
returns-clause-encodes c =
    let e : c.in_ok-set.set ≡ c.new.result.set = sym (ap (λ (x : EncodedGoal). x.set) c.new.ensures) in
    subst (λ (s : SetValue). IsEncoding c.args.graph.now c.args.goal s) e
    (encoding c.args.graph.now c.args.goal c.open_words.new.and c.all_words.new.and c.as_slice.result.now c.in_ok-words.words.items c.first-edge.result (c.nodes-bits.result - 1) c.in_ok-set.set c.kept.ensures.clauses
    c.in_ok-inputs.ensures.more c.in_ok-inputs.ensures.open_new c.in_ok-words.ensures.grows c.nodes.ensures.graph (c.as_slice.ensures.value ∙ c.in_ok-inputs.ensures.words) c.in_ok-words.ensures.words c.in_ok-words.ensures.is c.requires.within c.requires.one
    (c.first-edge.ensures ∙ ap (λ (es : List Edge). edge_at es 0) (c.word.ensures ∙ ap (λ (ws : List (List Edge)). word_at ws c.args.goal) c.as_slice-2.ensures.value))
    (omega (arith, c.in_ok-inputs.ensures.more, c.nodes-bits.ensures.is)) c.in_ok-set.ensures.encodes ((c.decided_sets_are_at_rest.ensures c.in_ok-set.set (c.nodes-bits.result - 1)).1))

pub returns-clause-widths : goal.returns-clause-widths
returns-clause-widths c = ap (λ (x : EncodedGoal). x.widths) c.new.ensures ∙ c.in_ok-widths.ensures.widths

pub returns-clause-gates : goal.returns-clause-gates
returns-clause-gates c =
    subst (λ (x : EncodedGoal). CountsGates x.set x.gates) (sym c.new.ensures)
    (subst (CountsGates c.in_ok-set.set) (sym c.len-gates.ensures) c.in_ok-set.ensures.gates)

pub returns-clause-few : goal.returns-clause-few
returns-clause-few c = subst IsFew (sym (ap (λ (x : EncodedGoal). x.set) c.new.ensures)) c.in_ok-set.ensures.few
