-- First nodes of the right copy that are shared with the left one.
use Rattle.std.proofs.Common.{◌≡◌, ℕ, ◌+◌, ◌<◌, ◌==◌, Bool, true, false, ◌&&◌, inl, inr, List, length, set, slice_index, slice_get, Some, refl, sym, ◌∙◌, ap, subst, arith, eqb-true, eq-eqb}
use Rattle.std.proofs.lemmas.List.{length-set, get_or-set_same, get_or-set_other}
use Rattle.std.proofs.lemmas.Bool.{cases_eq}
use Rattle.lv_bits.specs.Words.{Bits}
use Rattle.lv_bits.specs.Values.{bit}
use Rattle.lv_netlist.specs.Net.{Net, width_at}
use Rattle.lv_unroll.specs.Wires.{number_in, is_on, Extends, GivesTest}
use Rattle.lv_unroll.specs.Copies.{AreStates}
use Rattle.lv_unroll.proofs.Growing.{extends_trans}
use Rattle.lv_unroll.proofs.Slotting.{number_kept, on_kept}
use Rattle.lv_product.specs.declared.task.Candidate.{Candidate}
use Rattle.lv_product.specs.Sharing.{IsEqualityOf, Shares}

pub sharing_none : (graph old new : Net) (cs : List Candidate) (numbers left right nodes : List ℕ) (test : ℕ) → nodes ≡ right →
    GivesTest old new test (λ ws. true) → Shares graph old new cs numbers left right 0 nodes test
sharing_none graph old new cs numbers left right nodes test e g = record {
  extends = g.extends;
  within = g.within;
  width = g.width;
  is = λ ws. g.is ws ∙ ap bit (sym (g.on ws));
  count = ap length e;
  each = λ i lt. inl (ap (λ (l : List ℕ). slice_index l i) e);
  met = λ ws all. g.on ws;
}

-- a candidate that is no equality of a register
pub sharing_on : (graph old new : Net) (cs : List Candidate) (numbers left right nodes : List ℕ) (k test : ℕ) →
    Shares graph old new cs numbers left right k nodes test → Shares graph old new cs numbers left right (k + 1) nodes test
sharing_on graph old new cs numbers left right nodes k test h = record {
  extends = h.extends;
  within = h.within;
  width = h.width;
  is = h.is;
  count = h.count;
  each = h.each;
  met = λ ws all. h.met ws (λ i e. all i (record {
    place = e.place;
    before = omega (arith, e.before);
    candidate = e.candidate;
    candidate_is =
        e.candidate_is;
    equality = e.equality;
  }));
}

pub sharing_kept : (graph old now new : Net) (cs : List Candidate) (numbers left right nodes nodes' : List ℕ) (k test test' : ℕ) → new ≡ now →
    nodes' ≡ nodes → test' ≡ test → Shares graph old now cs numbers left right k nodes test →
    Shares graph old new cs numbers left right (k + 1) nodes' test'
sharing_kept graph old now new cs numbers left right nodes nodes' k test test' eb en et h =
    subst (λ (b : Net). Shares graph old b cs numbers left right (k + 1) nodes' test') (sym eb)
    (subst (λ (l : List ℕ). Shares graph old now cs numbers left right (k + 1) l test') (sym en)
    (subst (λ (t : ℕ). Shares graph old now cs numbers left right (k + 1) nodes t) (sym et)
    (sharing_on graph old now cs numbers left right nodes k test h)))

pub sharing_moved : (graph old now new : Net) (cs : List Candidate) (numbers left right nodes nodes' : List ℕ) (k test test' : ℕ) → new ≡ now →
    nodes' ≡ nodes → test' ≡ test → Shares graph old now cs numbers left right k nodes test → Shares graph old new cs numbers left right k nodes' test'
sharing_moved graph old now new cs numbers left right nodes nodes' k test test' eb en et h =
    subst (λ (b : Net). Shares graph old b cs numbers left right k nodes' test') (sym eb)
    (subst (λ (l : List ℕ). Shares graph old now cs numbers left right k l test') (sym en)
    (subst (λ (t : ℕ). Shares graph old now cs numbers left right k nodes t) (sym et) h))

first_true : (x y : Bool) → (x && y) ≡ true → x ≡ true
first_true true y e = refl
first_true false y e = e

second_true : (x y : Bool) → (x && y) ≡ true → y ≡ true
second_true true y e = e
second_true false y e = cc

both_true : (x y : Bool) → x ≡ true → y ≡ true → (x && y) ≡ true
both_true true y e f = f
both_true false y e f = e

pub sharing_step :
    (graph old now mid new : Net) (cs : List Candidate) (numbers left right nodes nodes' : List ℕ) (k test number i x y same test' : ℕ) (c : Candidate) →
    AreStates old graph left → AreStates old graph right → k < length numbers → number ≡ slice_index numbers k → slice_get cs number ≡ Some c →
    IsEqualityOf graph c i → x ≡ slice_index left i → y ≡ slice_index right i → nodes' ≡ set nodes i x →
    Shares graph old now cs numbers left right k nodes test → GivesTest now mid same (λ ws. number_in now ws x == number_in now ws y) →
    GivesTest mid new test' (λ ws. is_on mid ws test && is_on mid ws same) → Shares graph old new cs numbers left right (k + 1) nodes' test'
sharing_step graph old now mid new cs numbers left right nodes nodes' k test number i x y same test' c hl hr lt en ec eq ex ey e h s g =
    let less : i < length right = omega (arith, eq.register, hr.count) in
    let all : Extends old mid = extends_trans old now mid h.extends s.extends in
    let tx : (ws : List Bits) → number_in now ws x ≡ number_in old ws (slice_index left i) = λ ws. ap (number_in now ws) ex ∙
    number_kept old now ws (slice_index left i) h.extends (hl.within i eq.register) in
    let ty : (ws : List Bits) → number_in now ws y ≡ number_in old ws (slice_index right i) = λ ws. ap (number_in now ws) ey ∙
    number_kept old now ws (slice_index right i) h.extends (hr.within i eq.register) in
    let on : (ws : List Bits) → is_on new ws test' ≡ (is_on now ws test && (number_in now ws x == number_in now ws y)) = λ ws.
    g.on ws ∙ (ap (λ (t : Bool). t && is_on mid ws same) (on_kept now mid ws test s.extends h.within) ∙
    ap (λ (t : Bool). is_on now ws test && t) (s.on ws)) in
    let earlier_on : (ws : List Bits) → is_on new ws test' ≡ true → is_on now ws test ≡ true =
    λ ws t. first_true (is_on now ws test) (number_in now ws x == number_in now ws y) (sym (on ws) ∙ t) in
    subst (λ (l : List ℕ). Shares graph old new cs numbers left right (k + 1) l test') (sym e) (record {
      extends = extends_trans old mid new all g.extends;
      within = g.within;
      width = g.width;
      is = λ ws. g.is ws ∙ ap bit (sym (g.on ws));
      count = length-set nodes i x ∙ h.count;
      each = λ j l. elim (cases_eq j i) [
        | inl is ↦
            let at : slice_index (set nodes i x) j ≡ x = ap (slice_index (set nodes i x)) is ∙ get_or-set_same nodes i x 0 (omega (arith, h.count)) in
            inr (
              at ∙ (ex ∙ ap (slice_index left) (sym is)),
              λ ws t.
                  let one : number_in now ws x ≡ number_in now ws y =
                  eqb-true (number_in now ws x) (number_in now ws y) (second_true (is_on now ws test) (number_in now ws x ==
                  number_in now ws y) (sym (on ws) ∙ t)) in
                  ap (λ (m : ℕ). number_in old ws (slice_index left m)) is ∙
                  (sym (tx ws) ∙ (one ∙ (ty ws ∙ ap (λ (m : ℕ). number_in old ws (slice_index right m)) (sym is)))),
            )
        | inr other ↦
            let at : slice_index (set nodes i x) j ≡ slice_index nodes j = get_or-set_other nodes i j x 0 other in
            elim (h.each j l) [
              | inl a ↦ inl (at ∙ a)
              | inr a ↦ inr (at ∙ a.0, λ ws t. a.1 ws (earlier_on ws t))
            ]
      ];
      met = λ ws each.
          let before : is_on now ws test ≡ true = h.met ws (λ j q. each j (record {
            place = q.place;
            before = omega (arith, q.before);
            candidate =
                q.candidate;
            candidate_is = q.candidate_is;
            equality = q.equality;
          })) in
          let mine : number_in old ws (slice_index left i) ≡ number_in old ws (slice_index right i) =
          each i (record { place = k; before = omega arith; candidate = c; candidate_is = ap (slice_get cs) (sym en) ∙ ec; equality = eq }) in
          on ws ∙ both_true (is_on now ws test) (number_in now ws x ==
          number_in now ws y) before (eq-eqb (number_in now ws x) (number_in now ws y) (tx ws ∙ (mine ∙ sym (ty ws))));
    })

-- the nodes are nodes of the registers' widths
pub shared_states : (graph old new : Net) (cs : List Candidate) (numbers left right nodes : List ℕ) (k test : ℕ) → AreStates old graph left →
    AreStates old graph right → Shares graph old new cs numbers left right k nodes test → AreStates new graph nodes
shared_states graph old new cs numbers left right nodes k test hl hr h = record {
  count = h.count ∙ hr.count;
  within = λ i lt. elim (h.each i (omega (arith, hr.count))) [
    | inl a ↦ omega (arith, a, hr.within i lt, h.extends.more)
    | inr a ↦ omega (arith, a.0, hl.within i lt, h.extends.more)
  ];
  widths = λ i lt. elim (h.each i (omega (arith, hr.count))) [
    | inl a ↦ ap (width_at new.nodes) a ∙ (h.extends.widths (slice_index right i) (hr.within i lt) ∙ hr.widths i lt)
    | inr a ↦ ap (width_at new.nodes) a.0 ∙ (h.extends.widths (slice_index left i) (hl.within i lt) ∙ hl.widths i lt)
  ];
}
