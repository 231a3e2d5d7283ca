-- Edges made of edges.
use Rattle.std.proofs.Common.{◌≡◌, ℕ, ◌<◌, Bool, true, false, not, ◌&&◌, ◌||◌, if◌then◌else◌, length, refl, sym, ◌∙◌, ap, subst, arith}
use Rattle.lv_aig.specs.declared.edge.Edge.{Edge}
use Rattle.lv_aig.specs.Edges.{Nodes, edge_bit, IsValuation, Gives}
use Rattle.lv_circuits.specs.Words.{xor}
use Rattle.lv_aig.proofs.Graphs.{grows_trans, valuation_back}

abbrev pub turn : Edge → Edge
turn e = record { node = e.node; neg = not e.neg }

turned : (neg b : Bool) → (if not neg then not b else b) ≡ not (if neg then not b else b)
turned true true = refl
turned true false = refl
turned false true = refl
turned false false = refl

pub turn_bit : (v : ℕ → Bool) (e : Edge) → edge_bit v (turn e) ≡ not (edge_bit v e)
turn_bit v e = turned e.neg (v e.node)

or_by : (a b : Bool) → not (not a && not b) ≡ (a || b)
or_by true true = refl
or_by true false = refl
or_by false true = refl
or_by false false = refl

xor_by : (a b : Bool) → (not (a && b) && not (not a && not b)) ≡ xor a b
xor_by true true = refl
xor_by true false = refl
xor_by false true = refl
xor_by false false = refl

carry_by : (x y c : Bool) → ((x && y) || (xor x y && c)) ≡ (if xor x y then c else x)
carry_by true true c = refl
carry_by true false true = refl
carry_by true false false = refl
carry_by false true true = refl
carry_by false true false = refl
carry_by false false c = refl

mux_by : (c a b : Bool) → ((c && a) || (not c && b)) ≡ (if c then a else b)
mux_by true true b = refl
mux_by true false b = refl
mux_by false a b = refl

pub gives_either : (old new : Nodes) (a b a' b' e e' : Edge) → a' ≡ turn a → b' ≡ turn b → e' ≡ turn e → Gives old new e (λ v. edge_bit v a' && edge_bit v b') → Gives old new e' (λ v. edge_bit v a || edge_bit v b)
gives_either old new a b a' b' e e' pa pb pe g = record {
  grows = g.grows;
  edge = subst (λ (x : Edge). x.node < length new) (sym pe) g.edge;
  is = λ v h.
      let qa : edge_bit v a' ≡ not (edge_bit v a) = ap (edge_bit v) pa ∙ turn_bit v a in
      let qb : edge_bit v b' ≡ not (edge_bit v b) = ap (edge_bit v) pb ∙ turn_bit v b in
      let q : edge_bit v e ≡ (not (edge_bit v a) && not (edge_bit v b)) = g.is v h ∙ (ap (λ (x : Bool). x && edge_bit v b') qa ∙ ap (λ (x : Bool). not (edge_bit v a) && x) qb) in
      ap (edge_bit v) pe ∙ (turn_bit v e ∙ (ap not q ∙ or_by (edge_bit v a) (edge_bit v b)));
}

-- two gates joined by `or`
gives_two : (old m n new : Nodes) (l r e : Edge) (f g h : (ℕ → Bool) → Bool) → Gives old m l f → Gives m n r g → Gives n new e (λ v. edge_bit v l || edge_bit v r) → ((v : ℕ → Bool) → (f v || g v) ≡ h v) → Gives old new e h
gives_two old m n new l r e f g h p q s is = record {
  grows = grows_trans old m new p.grows (grows_trans m n new q.grows s.grows);
  edge = s.edge;
  is = λ v val.
      let at_n : IsValuation n v = valuation_back n new v s.grows val in
      let at_m : IsValuation m v = valuation_back m n v q.grows at_n in
      s.is v val ∙ (ap (λ (x : Bool). x || edge_bit v r) (p.is v at_m) ∙ (ap (λ (x : Bool). f v || x) (q.is v at_n) ∙ is v));
}

pub gives_differ : (old m n new : Nodes) (a b a' b' one none one' none' e : Edge) → a' ≡ turn a → b' ≡ turn b → one' ≡ turn one → none' ≡ turn none → Gives old m one (λ v. edge_bit v a && edge_bit v b) → Gives m n none (λ v. edge_bit v a' && edge_bit v b') → Gives n new e (λ v. edge_bit v one' && edge_bit v none') → Gives old new e (λ v. xor (edge_bit v a) (edge_bit v b))
gives_differ old m n new a b a' b' one none one' none' e pa pb p1 p0 p q s = record {
  grows = grows_trans old m new p.grows (grows_trans m n new q.grows s.grows);
  edge = s.edge;
  is = λ v val.
      let at_n : IsValuation n v = valuation_back n new v s.grows val in
      let at_m : IsValuation m v = valuation_back m n v q.grows at_n in
      let qa : edge_bit v a' ≡ not (edge_bit v a) = ap (edge_bit v) pa ∙ turn_bit v a in
      let qb : edge_bit v b' ≡ not (edge_bit v b) = ap (edge_bit v) pb ∙ turn_bit v b in
      let q1 : edge_bit v one' ≡ not (edge_bit v a && edge_bit v b) = ap (edge_bit v) p1 ∙ (turn_bit v one ∙ ap not (p.is v at_m)) in
      let q0 : edge_bit v none' ≡ not (not (edge_bit v a) && not (edge_bit v b)) = ap (edge_bit v) p0 ∙ (turn_bit v none ∙ ap not (q.is v at_n ∙ (ap (λ (x : Bool). x && edge_bit v b') qa ∙ ap (λ (x : Bool). not (edge_bit v a) && x) qb))) in
      s.is v val ∙ (ap (λ (x : Bool). x && edge_bit v none') q1 ∙ (ap (λ (x : Bool). not (edge_bit v a && edge_bit v b) && x) q0 ∙ xor_by (edge_bit v a) (edge_bit v b)));
}

pub gives_mux : (old m n new : Nodes) (c a b c' l r e : Edge) → c' ≡ turn c → Gives old m l (λ v. edge_bit v c && edge_bit v a) → Gives m n r (λ v. edge_bit v c' && edge_bit v b) → Gives n new e (λ v. edge_bit v l || edge_bit v r) → Gives old new e (λ v. if edge_bit v c then edge_bit v a else edge_bit v b)
gives_mux old m n new c a b c' l r e pc p q s =
    gives_two old m n new l r e (λ v. edge_bit v c && edge_bit v a) (λ v. edge_bit v c' && edge_bit v b) (λ v. if edge_bit v c then edge_bit v a else edge_bit v b) p q s (λ v.
    ap (λ (x : Bool). (edge_bit v c && edge_bit v a) || (x && edge_bit v b)) (ap (edge_bit v) pc ∙ turn_bit v c) ∙ mux_by (edge_bit v c) (edge_bit v a) (edge_bit v b))

pub gives_sum : (old m n new : Nodes) (x y c t s k : Edge) (f : (ℕ → Bool) → Bool) → Gives old m t (λ v. xor (edge_bit v x) (edge_bit v y)) → Gives m n s (λ v. xor (edge_bit v t) (edge_bit v c)) → Gives n new k f → Gives old new s (λ v. xor (xor (edge_bit v x) (edge_bit v y)) (edge_bit v c))
gives_sum old m n new x y c t s k f p q r = record {
  grows = grows_trans old m new p.grows (grows_trans m n new q.grows r.grows);
  edge = omega (arith, q.edge, r.grows.more);
  is = λ v h.
      let at_n : IsValuation n v = valuation_back n new v r.grows h in
      let at_m : IsValuation m v = valuation_back m n v q.grows at_n in
      q.is v at_n ∙ ap (λ (b : Bool). xor b (edge_bit v c)) (p.is v at_m);
}

pub gives_earlier : (old m n new : Nodes) (t s k : Edge) (e f g : (ℕ → Bool) → Bool) → Gives old m t e → Gives m n s f → Gives n new k g → Gives old new k g
gives_earlier old m n new t s k e f g p q r = record {
  grows = grows_trans old m new p.grows (grows_trans m n new q.grows r.grows);
  edge = r.edge;
  is = r.is;
}

pub gives_carry : (old m n o new : Nodes) (x y c t first second k : Edge) → Gives old m t (λ v. xor (edge_bit v x) (edge_bit v y)) → Gives m n first (λ v. edge_bit v x && edge_bit v y) → Gives n o second (λ v. edge_bit v t && edge_bit v c) → Gives o new k (λ v. edge_bit v first || edge_bit v second) → Gives old new k (λ v. if xor (edge_bit v x) (edge_bit v y) then edge_bit v c else edge_bit v x)
gives_carry old m n o new x y c t first second k p q r s = record {
  grows = grows_trans old m new p.grows (grows_trans m n new q.grows (grows_trans n o new r.grows s.grows));
  edge = s.edge;
  is = λ v h.
      let at_o : IsValuation o v = valuation_back o new v s.grows h in
      let at_n : IsValuation n v = valuation_back n o v r.grows at_o in
      let at_m : IsValuation m v = valuation_back m n v q.grows at_n in
      s.is v h ∙
      (ap (λ (b : Bool). b || edge_bit v second) (q.is v at_n) ∙
      (ap (λ (b : Bool). (edge_bit v x && edge_bit v y) || b) (r.is v at_o) ∙
      (ap (λ (b : Bool). (edge_bit v x && edge_bit v y) || (b && edge_bit v c)) (p.is v at_m) ∙
      carry_by (edge_bit v x) (edge_bit v y) (edge_bit v c))));
}
