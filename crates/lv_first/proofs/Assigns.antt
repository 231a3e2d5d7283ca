-- What the statements of a clocked block leave, one after another.
use Rattle.std.proofs.Common.{◌≡◌, ℕ, zero, suc, ◌/◌, ◌%◌, ◌^◌, inl, inr, Bool, true, false, if◌then◌else◌, List, [], ◌∷◌, ◌++◌, refl, sym, ◌∙◌, ap, subst, arith, get_or}
use Rattle.std.specs.Prelude.{Some, None, slice_get, slice_set, bytes_eq, All, max}
use Rattle.std.specs.List.{IsDistinct}
use Rattle.std.proofs.lemmas.Bool.{cases_eq}
use Rattle.std.proofs.lemmas.List.{length-set}
use Rattle.std.proofs.lemmas.Option.{slice_get_within, slice_get-get_or}
use Rattle.std.proofs.lemmas.List.Elements.{All-head, All-tail, All-push}
use Rattle.std.proofs.lemmas.Map.Keys.{IsDistinct-head, IsDistinct-tail}
use Rattle.lv_bits.specs.Values.{bit}
use Rattle.lv_ast.specs.declared.expr.Path.{Path}
use Rattle.lv_ast.specs.declared.expr.Expr.{Expr}
use Rattle.lv_ast.specs.declared.stmt.Target.TheVariants as t
use Rattle.lv_ast.specs.declared.stmt.Stmt.{Stmt}
use Rattle.lv_ast.specs.declared.stmt.Stmt.TheVariants as b
use Rattle.lv_ast.specs.Names.{Name}
use Rattle.lv_source.specs.Names.{Names, Valuation, Variable, known, is_signal_sort}
use Rattle.lv_source.specs.Places.{Place, place_of, write_bits}
use Rattle.lv_source.specs.Values.{Meaning}
use Rattle.lv_source.specs.Meaning.{meaning}
use Rattle.lv_source.specs.Effect.{pieces, aimed, places, bits_in, write_all, assigned, State, Update, executes, applied, left_by}
use Rattle.lv_source.proofs.Effects.{pieces-Name, run_all, executes-Later, executes-Block}
use Rattle.lv_first.specs.declared.formula.Formula.{Formula}
use Rattle.lv_first.specs.declared.formula.Formula.TheVariants.{Constant}
use Rattle.lv_first.specs.FirstForm.{scope_of, one_bit, IsBitExpr, IsAssignment, assigns}
use Rattle.lv_first.specs.Formulas.{truth}
use Rattle.lv_first.specs.Signals.{env_of, AreBits, IsBitOf, IsNext}
use Rattle.lv_first.proofs.Numbering.{bytes_same, same_bytes, distinct-later}
use Rattle.lv_first.proofs.Joins.{in-at, plain_steps}

-- ---- lists

set_here : {A : Type 0} (xs : List A) (k : ℕ) (f g : A) → slice_get (slice_set xs k f) k ≡ Some g → g ≡ f
set_here [] k f g h = absurd (cc)
set_here (x ∷ xs) zero f g h = cc
set_here (x ∷ xs) (suc k) f g h = set_here xs k f g h

set_there : {A : Type 0} (xs : List A) (k j : ℕ) (f g : A) → (j ≡ k → ⊥) → slice_get (slice_set xs k f) j ≡ Some g → slice_get xs j ≡ Some g
set_there [] k j f g n h = h
set_there (x ∷ xs) zero zero f g n h = absurd (n refl)
set_there (x ∷ xs) zero (suc j) f g n h = h
set_there (x ∷ xs) (suc k) zero f g n h = h
set_there (x ∷ xs) (suc k) (suc j) f g n h = set_there xs k j f g (λ e. n (ap suc e)) h

-- a name of a distinct list has one number
pub one_number : (xs : List Name) (j k : ℕ) (x : Name) → IsDistinct bytes_eq xs → slice_get xs j ≡ Some x → slice_get xs k ≡ Some x → j ≡ k
one_number [] j k x d h g = absurd (cc)
one_number (y ∷ xs) zero zero x d h g = refl
one_number (y ∷ xs) zero (suc k) x d h g =
    let e : y ≡ x = cc in
    absurd (let f = distinct-later y xs (IsDistinct-head bytes_eq y xs d) k x g in let s : bytes_eq y x ≡ true = ap (bytes_eq y) (sym e) ∙ same_bytes y in cc)
one_number (y ∷ xs) (suc j) zero x d h g =
    let e : y ≡ x = cc in
    absurd (let f = distinct-later y xs (IsDistinct-head bytes_eq y xs d) j x h in let s : bytes_eq y x ≡ true = ap (bytes_eq y) (sym e) ∙ same_bytes y in cc)
one_number (y ∷ xs) (suc j) (suc k) x d h g = ap suc (one_number xs j k x (IsDistinct-tail bytes_eq y xs d) h g)

-- ---- effects

run_all-push : (names : Names) (xs : List Stmt) (s : Stmt) (st : State) → run_all names (xs ++ s ∷ []) st ≡ executes names s (run_all names xs st)
run_all-push names [] s st = refl
run_all-push names (x ∷ xs) s st = run_all-push names xs s (executes names x st)

applied-push : (v : Valuation) (us : List Update) (u : Update) → applied v (us ++ u ∷ []) ≡ write_all (applied v us) u.places u.value
applied-push v [] u = refl
applied-push v (w ∷ us) u = applied-push (write_all v w.places w.value) us u

abbrev pub begun : Valuation → State
begun v = record { valuation = v; pending = [] }

abbrev finished : State → Valuation
finished st = applied st.valuation st.pending

abbrev update : Names → Valuation → Path → Expr → Update
update names v path x =
    let ps : List Place = places v (pieces names (t.Name path [])) in
    record { places = ps; value = assigned v (bits_in ps) (meaning names x) }

-- a bit, written over a bit
bit_written : (a x : Bool) → write_bits (bit a) (Some 0 ∷ []) (bit x / 2 ^ 0 % 2 ^ 1) ≡ bit x
bit_written true true = refl
bit_written true false = refl
bit_written false true = refl
bit_written false false = refl

bit_kept : (x : Bool) → bit x % 2 ^ 1 ≡ bit x
bit_kept true = refl
bit_kept false = refl

module _ (Rs Is : List Name) where
  abbrev S : List Name
  S = Rs ++ Is

  abbrev names : Names
  names = scope_of Rs Is

  abbrev left : List Stmt → Valuation → Valuation
  left body v = finished (run_all names body (begun v))

  pub left_block : (body : List Stmt) (v : Valuation) (q : Name) → left_by names (b.Block None body) v q ≡ left body v q
  left_block body v q = ap (λ (st : State). finished st q) (executes-Block names (begun v) None body)

  -- nonblocking assignments keep the valuation until the end
  kept_one : (s : Stmt) (st : State) → IsAssignment Rs S s → (executes names s st).valuation ≡ st.valuation
  kept_one _ st (assigns path x place plain known legal) = ap (λ (z : State). z.valuation) (executes-Later names st (t.Name path []) x place)

  kept_all : (body : List Stmt) (st : State) → All (IsAssignment Rs S) body → (run_all names body st).valuation ≡ st.valuation
  kept_all [] st all = refl
  kept_all (s ∷ body) st all =
      kept_all body (executes names s st) (All-tail (IsAssignment Rs S) s body all) ∙ kept_one s st (All-head (IsAssignment Rs S) s body all)

  -- the update of an assignment writes one bit
  one_place : (path : Path) (v : Valuation) (k : ℕ) → path.steps ≡ [] → slice_get Rs k ≡ Some path.name → places v (pieces names (t.Name path [])) ≡ record { name = path.name; bits = Some 0 ∷ [] } ∷ []
  one_place path v k plain at =
      let sort : names path ≡ Some (one_bit Variable path.name) = rw (plain_steps path plain, in-at Rs k path.name at) in
      ap (places v) (pieces-Name names path []) ∙ ap (λ d. aimed (is_signal_sort (known d).sort) (place_of (known d) [] v) ∷ []) sort

  one_value : (x : Expr) (f : Formula) (v : Valuation) → IsBitOf names S x (truth f) → AreBits S v → assigned v 1 (meaning names x) ≡ bit (truth f (env_of S v))
  one_value x f v h bits =
      let m : Meaning = meaning names x in
      ap (λ w. m.value (max 1 w) m.signed v % 2 ^ 1) h.width ∙ ap (λ s. m.value 1 s v % 2 ^ 1) h.signed ∙ ap (λ n. n % 2 ^ 1) (h.value v bits) ∙ bit_kept (truth f (env_of S v))

  update_is : (path : Path) (x : Expr) (k : ℕ) (f : Formula) (v : Valuation) → path.steps ≡ [] → slice_get Rs k ≡ Some path.name → IsBitOf names S x (truth f) → AreBits S v →
      update names v path x ≡ record { places = record { name = path.name; bits = Some 0 ∷ [] } ∷ []; value = bit (truth f (env_of S v)) }
  update_is path x k f v plain at h bits =
      ap (λ ps. record { places = ps; value = assigned v (bits_in ps) (meaning names x) }) (one_place path v k plain at) ∙
      ap (λ n. record { places = record { name = path.name; bits = Some 0 ∷ [] } ∷ []; value = n }) (one_value x f v h bits)

  left_push : (body : List Stmt) (path : Path) (x : Expr) (place k : ℕ) (f : Formula) (v : Valuation) →
      All (IsAssignment Rs S) body → path.steps ≡ [] → slice_get Rs k ≡ Some path.name → IsBitOf names S x (truth f) → AreBits S v →
      left (body ++ b.Later (t.Name path []) x place ∷ []) v ≡ write_all (left body v) (record { name = path.name; bits = Some 0 ∷ [] } ∷ []) (bit (truth f (env_of S v)))
  left_push body path x place k f v all plain at h bits =
      let st : State = run_all names body (begun v) in
      let kept : st.valuation ≡ v = kept_all body (begun v) all in
      let s : Stmt = b.Later (t.Name path []) x place in
      let ran : run_all names (body ++ s ∷ []) (begun v) ≡ record st { pending = st.pending ++ update names st.valuation path x ∷ [] } =
      run_all-push names body s (begun v) ∙ executes-Later names st (t.Name path []) x place in
      ap finished ran ∙ applied-push st.valuation st.pending (update names st.valuation path x) ∙
      ap (λ (u : Update). write_all (finished st) u.places u.value) (update_is path x k f st.valuation plain at h (subst (AreBits S) (sym kept) bits)) ∙
      ap (λ z. write_all (finished st) (record { name = path.name; bits = Some 0 ∷ [] } ∷ []) (bit (truth f (env_of S z)))) kept

  some_same : {A : Type 0} {x y : A} → Some x ≡ Some y → x ≡ y
  some_same h = cc

  names_apart : (j k : ℕ) (q r : Name) → IsDistinct bytes_eq Rs → (j ≡ k → ⊥) → slice_get Rs j ≡ Some q → slice_get Rs k ≡ Some r → bytes_eq q r ≡ false
  names_apart j k q r d other named at = (elim (bytes_eq q r) as (λ c. bytes_eq q r ≡ c → c ≡ false) [
    | true ↦ λ e. absurd (other (one_number Rs j k q d named (at ∙ ap Some (sym (bytes_same q r e)))))
    | false ↦ λ e. refl
  ]) refl

  -- before the write, the register holds a bit
  old_bit : (next : List Formula) (v : Valuation) (body : List Stmt) → IsNext Rs Is body next → AreBits S v → (j : ℕ) (q : Name) → slice_get Rs j ≡ Some q →
      ((i : ℕ) (r : Name) (o : Formula) → slice_get Rs i ≡ Some r → slice_get next i ≡ Some o → left body v r ≡ bit (truth o (env_of S v))) →
      (o : Bool) × (left body v q ≡ bit o)
  old_bit next v body now bits j q named before =
      let g : Formula = get_or next j (Constant true) in
      let at : slice_get next j ≡ Some g = slice_get-get_or next j (Constant true) (omega (arith, slice_get_within Rs j q named, now.count)) in
      (truth g (env_of S v), before j q g named at)

  written : (v : Valuation) (q r : Name) (g f : Formula) (w : Valuation) → q ≡ r → g ≡ f → (o : Bool) × (w q ≡ bit o) →
      write_all w (record { name = r; bits = Some 0 ∷ [] } ∷ []) (bit (truth f (env_of S v))) q ≡ bit (truth g (env_of S v))
  written v q r g f w same is (o, old) =
      let here : bytes_eq q r ≡ true = ap (bytes_eq q) (sym same) ∙ same_bytes q in
      ap (λ b. if b then write_bits (w q) (Some 0 ∷ []) (bit (truth f (env_of S v)) / 2 ^ 0 % 2 ^ 1) else w q) here ∙
      ap (λ n. write_bits n (Some 0 ∷ []) (bit (truth f (env_of S v)) / 2 ^ 0 % 2 ^ 1)) old ∙
      bit_written o (truth f (env_of S v)) ∙ ap (λ z. bit (truth z (env_of S v))) (sym is)

  pub next_after : (body : List Stmt) (next : List Formula) (path : Path) (x : Expr) (place k : ℕ) (f : Formula) →
      path.steps ≡ [] → slice_get Rs k ≡ Some path.name → IsBitExpr S x → IsBitOf names S x (truth f) →
      IsNext Rs Is body next → IsNext Rs Is (body ++ b.Later (t.Name path []) x place ∷ []) (slice_set next k f)
  next_after body next path x place k f plain at legal h now = record {
    distinct = now.distinct;
    count = length-set next k f ∙ now.count;
    assigns = All-push (IsAssignment Rs S) body (b.Later (t.Name path []) x place) now.assigns (assigns path x place plain (in-at Rs k path.name at) legal);
    values = λ v bits j q g named found.
        let whole : List Stmt = body ++ b.Later (t.Name path []) x place ∷ [] in
        let before : (i : ℕ) (r : Name) (o : Formula) → slice_get Rs i ≡ Some r → slice_get next i ≡ Some o → left body v r ≡ bit (truth o (env_of S v)) =
        λ i r o named found. sym (left_block body v r) ∙ now.values v bits i r o named found in
        left_block whole v q ∙ ap (λ (w : Valuation). w q) (left_push body path x place k f v now.assigns plain at h bits) ∙
        elim (cases_eq j k) [
          | inl e ↦
              let same : q ≡ path.name = some_same (sym named ∙ ap (slice_get Rs) e ∙ at) in
              let is : g ≡ f = set_here next k f g (subst (λ i. slice_get (slice_set next k f) i ≡ Some g) e found) in
              written v q path.name g f (left body v) same is (old_bit next v body now bits j q named before)
          | inr other ↦
              let apart : bytes_eq q path.name ≡ false = names_apart j k q path.name now.distinct other named at in
              ap (λ b. if b then write_bits (left body v q) (Some 0 ∷ []) (bit (truth f (env_of S v)) / 2 ^ 0 % 2 ^ 1) else left body v q) apart ∙
              before j q g named (set_there next k j f g other found)
        ];
  }
