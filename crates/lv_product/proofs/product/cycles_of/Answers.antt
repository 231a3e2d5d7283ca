use Rattle.std.proofs.Common.{◌≡◌, ◌∙◌, ◌++◌, ◌∷◌, [], List, ap, sym, subst, arith}
use Rattle.std.proofs.lemmas.List.{map-append}
use Rattle.lv_netlist.specs.Queries.{pieces}
use Rattle.lv_netlist.specs.declared.graph.Inputs.{Inputs}
use Rattle.lv_product.specs.Pairs.{words_of}
use Rattle.lv_product.proofs.Opened.{PiecesSoFar, pieces_none, pieces_step, piece_room}
use Rattle.lv_product.proofs.product.cycles_of.Goals as goal

pub loop-k-init : goal.loop-k-init
loop-k-init c =
    subst (λ (l : List Inputs). PiecesSoFar c.args.count 0 c.args.words.now c.args.words.now (words_of l)) (sym c.new-inputs.ensures.items)
    (pieces_none c.args.count c.args.words.now)

pub first-part-requires : goal.first-part-requires
first-part-requires c = piece_room c.args.count c.loop-k._k c.args.cycles c.args.words.now c.loop-k.rest.now (words_of c.loop-k.inputs.items) c.requires
    (omega arith) c.loop-k.invariant

pub after-more-requires : goal.after-more-requires
after-more-requires c = piece_room c.args.count c.loop-k._k c.args.cycles c.args.words.now c.loop-k.rest.now (words_of c.loop-k.inputs.items) c.requires
    (omega arith) c.loop-k.invariant

pub loop-k-preserved : goal.loop-k-preserved
loop-k-preserved c =
    let one : Inputs = record { words = c.in_ok-piece.piece } in
    let is : c.push_reserved.new.self.items ≡ c.loop-k.inputs.items ++ one ∷ [] = c.push_reserved.ensures.items ∙
    ap (λ (xs : List Inputs). xs ++ one ∷ []) c.reserve.ensures.items in
    pieces_step c.args.count c.loop-k._k c.args.words.now c.loop-k.rest.now c.after-more.result.now c.in_ok-piece.piece.items
    (words_of c.loop-k.inputs.items) (words_of c.push_reserved.new.self.items)
    (c.in_ok-piece.ensures.items ∙ c.first-part.ensures) c.after-more.ensures
    (ap words_of is ∙ map-append (λ (i : Inputs). i.words.items) c.loop-k.inputs.items (one ∷ [])) c.loop-k.invariant

pub returns : goal.returns
returns c =
    let e : c.loop-k._k ≡ c.args.cycles = omega arith in
    subst (λ k. words_of c.loop-k.inputs.items ≡ pieces c.args.count k c.args.words.now) e c.loop-k.invariant.are
