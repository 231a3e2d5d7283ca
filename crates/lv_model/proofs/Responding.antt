-- A machine that goes on under all inputs has the two runs of each initial pair.
use Rattle.std.proofs.Common.{◌≡◌, ◌≢◌, ℕ, List, [], ◌∷◌, refl, ap}
use Rattle.std.specs.List.{All, AllByRecursion, AllZip}
use Rattle.std.specs.List.{Contains}
use Rattle.std.proofs.lemmas.List.Elements.{All-contains, All-contains_itself, All-weaker}
use Rattle.lv_model.specs.Machine.{Machine, IsRun, Continues, IsInitial}
use Rattle.lv_model.specs.Design.{Observers, machine_of}
use Rattle.lv_model.specs.Stepper.{Cycle, Stepper, stepped, IsOfState, IsOfInput, ArePure}
use Rattle.lv_model.specs.Meeting.{IsResponsive, AreRuns, AreAllowed}

module _ {V : Type 0} (m : Machine V) (SameState : V → V → Type 0) (respond : IsResponsive m SameState) where
  -- a run from v on, with the inputs of these valuations
  record Goes (v : V) (us : List V) : Type 0 where
    run : List V
    is_run : IsRun m run
    follows : Continues m v run
    inputs : AllZip m.SameInputs run us

  goes : (v : V) (us : List V) → m.IsSettled v → AreAllowed m us → Goes v us
  goes v [] settled all = record { run = []; is_run = tt; follows = tt; inputs = tt }
  goes v (u ∷ us) settled all =
      let w = respond.next v u settled all.0.0 in
      let rest : Goes w.0 us = goes w.0 us w.1 all.1 in
      record { run = w.0 ∷ rest.run; is_run = (w.1, rest.follows, rest.is_run); follows = w.2; inputs = (w.3, rest.inputs) }

  same : (ls rs us : List V) → AllZip m.SameInputs ls us → AllZip m.SameInputs rs us → AllZip m.SameInputs ls rs
  same [] [] [] h g = tt
  same [] [] (u ∷ us) h g = absurd h
  same [] (r ∷ rs) [] h g = absurd g
  same [] (r ∷ rs) (u ∷ us) h g = absurd h
  same (l ∷ ls) rs [] h g = absurd h
  same (l ∷ ls) [] (u ∷ us) h g = absurd g
  same (l ∷ ls) (r ∷ rs) (u ∷ us) h g = (respond.inputs l r u h.0 g.0, same ls rs us h.1 g.1)

  allowed : (vs us : List V) → IsRun m vs → AllZip m.SameInputs vs us → AreAllowed m us → AllByRecursion m.IsAllowed vs
  allowed [] us run h all = tt
  allowed (v ∷ vs) [] run h all = absurd h
  allowed (v ∷ vs) (u ∷ us) run h all = (respond.allowed v u run.0 all.0.0 h.0 all.0.1, allowed vs us run.2 h.1 all.1)

  pub runs :
      (l r u : V) (us : List V) → IsInitial m l r → AreAllowed m (u ∷ us) →
      (l' : V) × (ls : List V) × (r' : V) × (rs : List V) × SameState l l' × SameState r r' × AreRuns m (u ∷ us) l' ls r' rs
  runs l r u us initial all =
      let x = respond.first l u initial.left all.0.0 in
      let y = respond.first r u initial.right all.0.0 in
      let gl : Goes x.0 us = goes x.0 us x.1 all.1 in
      let gr : Goes y.0 us = goes y.0 us y.1 all.1 in
      let left : IsRun m (x.0 ∷ gl.run) = (x.1, gl.follows, gl.is_run) in
      let right : IsRun m (y.0 ∷ gr.run) = (y.1, gr.follows, gr.is_run) in
      let li : AllZip m.SameInputs (x.0 ∷ gl.run) (u ∷ us) = (x.3, gl.inputs) in
      let ri : AllZip m.SameInputs (y.0 ∷ gr.run) (u ∷ us) = (y.3, gr.inputs) in (
        x.0,
        gl.run,
        y.0,
        gr.run,
        x.2,
        y.2,
        record {
          left = left;
          right = right;
          initial = respond.initial l x.0 r y.0 x.1 y.1 x.2 y.2 initial;
          same_inputs = same (x.0 ∷ gl.run) (y.0 ∷ gr.run) (u ∷ us) li ri;
          left_inputs = li;
          right_inputs = ri;
          left_allowed = allowed (x.0 ∷ gl.run) (u ∷ us) left li all;
          right_allowed = allowed (y.0 ∷ gr.run) (u ∷ us) right ri all;
        },
      )

-- what holds of each member of a list that has a fact besides
both_weaker : {X : Type 0} (P Q R : X → Type 0) (xs : List X) → ((x : X) → P x → Q x → R x) → All P xs → All Q xs → All R xs
both_weaker P Q R xs each ps qs = All-weaker (Contains xs) R (λ x inside. each x (All-contains P xs x ps inside) (All-contains Q xs x qs inside)) xs (All-contains_itself xs)

module _ {S I : Type 0} (t : Stepper S I) (o : Observers (Cycle S I)) (pure : ArePure t o) where
  pub steppers_respond : IsResponsive (machine_of (stepped t) o) (λ c e. c.state ≡ e.state)
  steppers_respond = record {
    first = λ v u hv hu. (record { state = v.state; input = u.input }, (hv.0, hu.1), refl, refl);
    next = λ v u hv hu. (record { state = t.next v.state v.input; input = u.input }, (pure.keeps v.state v.input hv.0 hv.1, hu.1), refl, refl);
    inputs = λ l r u e f. cc;
    allowed = λ v u hv hu e all.
        both_weaker (IsOfInput t) (λ x. x u ≢ 0) (λ x. x v ≢ 0) o.assume (λ x same n z. n (assumed v u hv hu e x same z)) pure.assume all;
    initial = λ l l' r r' hl hr el er h. (
      both_weaker (IsOfState t) (λ x. x l ≡ x r) (λ x. x l' ≡ x r') o.equal
          (λ x same k. let a = begun l l' h.left hl el x same in let b = begun r r' h.right hr er x same in cc) pure.equal h.initial.0,
      both_weaker (IsOfState t) (λ x. (x l ≢ 0) × (x r ≢ 0)) (λ x. (x l' ≢ 0) × (x r' ≢ 0)) o.each
          (λ x same k. (
            λ z. k.0 (let a = begun l l' h.left hl el x same in cc),
            λ z. k.1 (let b = begun r r' h.right hr er x same in cc),
          )) pure.each h.initial.1,
    );
  }
    where
      assumed : (v u : Cycle S I) → t.IsState v.state × t.IsInput v.input → t.IsState u.state × t.IsInput u.input → v.input ≡ u.input →
          (x : Cycle S I → ℕ) → IsOfInput t x → x v ≡ 0 → x u ≡ 0
      assumed v u hv hu e x same z =
          let a : x v ≡ x (record { state = u.state; input = v.input }) = same v.state u.state v.input hv.0 hu.0 hv.1 in
          let b : x (record { state = u.state; input = v.input }) ≡ x u = ap (λ i. x (record { state = u.state; input = i })) e in
          cc

      begun : (v w : Cycle S I) → t.IsState v.state × t.IsInput v.input → t.IsState w.state × t.IsInput w.input → v.state ≡ w.state →
          (x : Cycle S I → ℕ) → IsOfState t x → x v ≡ x w
      begun v w hv hw e x same =
          let a : x v ≡ x (record { state = v.state; input = w.input }) = same v.state v.input w.input hv.0 hv.1 hw.1 in
          let b : x (record { state = v.state; input = w.input }) ≡ x w = ap (λ s. x (record { state = s; input = w.input })) e in
          cc
