-- A net that grows.
use Rattle.std.proofs.Common.{◌≡◌, ◌≢◌, ℕ, suc, ◌+◌, ◌<◌, ◌≤◌, inl, inr, List, [], ◌∷◌, ◌++◌, length, refl, sym, ◌∙◌, ap, subst, arith, length-append, get_or, set, Option, Some, None, zero}
use Rattle.std.proofs.Math.ListN.{get_or-append}
use Rattle.std.proofs.Math.Seq.{get_or-append_seam}
use Rattle.std.proofs.lemmas.Bool.{cases_lt, cases_eq}
use Rattle.std.proofs.lemmas.List.{get_or-set_same, get_or-set_other, length-set}
use Rattle.std.proofs.lemmas.List.Elements.{filter_map-append}
use Rattle.std.proofs.lemmas.List.{append-nil}
use Rattle.std.specs.List.{filter_map, range_with_len, cons_option}
use Rattle.lv_netlist.specs.declared.node.Node.{Node}
use Rattle.lv_netlist.specs.declared.node.Node.TheVariants.{Input, Reg, Const, Un, Bin, Mux, Slice, Cat, Ext}
use Rattle.lv_netlist.specs.declared.node.Typed.{Typed}
use Rattle.lv_netlist.specs.declared.node.Register.{Register}
use Rattle.lv_netlist.specs.Net.{Net, width_at, input_name, input_width, register_at, register_name, register_width, node_width, IsRight, IsInner, IsWidth, IsNew, IsNode, IsRegister, IsNet, input_of_typed, register_of_typed, with_node, with_input, with_register, with_next}

abbrev Port : Type 0
Port = List ℕ × ℕ

abbrev Held : Type 0
Held = List ℕ × Register

-- the same widths, and more nodes, inputs and registers
pub record Keeps (old new : Net) : Type 0 where
  pub more : length old.nodes ≤ length new.nodes
  pub nodes : (k : ℕ) → k < length old.nodes → width_at new.nodes k ≡ width_at old.nodes k
  pub inputs_more : length old.inputs ≤ length new.inputs
  pub inputs : (i : ℕ) → i < length old.inputs → input_width new i ≡ input_width old i
  pub registers_more : length old.registers ≤ length new.registers
  pub registers : (i : ℕ) → i < length old.registers → register_width new i ≡ register_width old i

pub right_kept : (old new : Net) (k : ℕ) (n : Node) → Keeps old new → k ≤ length old.nodes → IsRight old k n → IsRight new k n
right_kept old new k (Input i) s h r = omega (arith, s.inputs_more)
right_kept old new k (Reg i) s h r = omega (arith, s.registers_more)
right_kept old new k (Const w) s h r = tt
right_kept old new k (Un op a) s h r = r
right_kept old new k (Bin op a b signed) s h r =
    (r.0, r.1, r.2, λ p. s.nodes a (omega (arith, r.1)) ∙ (r.3 p ∙ sym (s.nodes b (omega (arith, r.2)))))
right_kept old new k (Mux c a b) s h r =
    (r.0, r.1, r.2, s.nodes a (omega (arith, r.1)) ∙ (r.3 ∙ sym (s.nodes b (omega (arith, r.2)))))
right_kept old new k (Slice a low width) s h r =
    (r.0, r.1, omega (arith, r.2, s.nodes a (omega (arith, r.0))))
right_kept old new k (Cat a b) s h r =
    (r.0, r.1, omega (arith, r.2, s.nodes a (omega (arith, r.0)), s.nodes b (omega (arith, r.1))))
right_kept old new k (Ext a width signed) s h r =
    (r.0, omega (arith, r.1, s.nodes a (omega (arith, r.0))), r.2)

pub width_kept : (old new : Net) (k : ℕ) (n : Node) → Keeps old new → k ≤ length old.nodes → IsRight old k n → node_width new n ≡ node_width old n
width_kept old new k (Input i) s h r = s.inputs i r
width_kept old new k (Reg i) s h r = s.registers i r
width_kept old new k (Const w) s h r = refl
width_kept old new k (Un op a) s h r = rw (s.nodes a (omega (arith, r.1))) refl
width_kept old new k (Bin op a b signed) s h r = rw (s.nodes a (omega (arith, r.1))) refl
width_kept old new k (Mux c a b) s h r = s.nodes a (omega (arith, r.1))
width_kept old new k (Slice a low width) s h r = refl
width_kept old new k (Cat a b) s h r = omega (arith, s.nodes a (omega (arith, r.0)), s.nodes b (omega (arith, r.1)))
width_kept old new k (Ext a width signed) s h r = refl

pub node_kept : (old new : Net) (k : ℕ) (typed : Typed) → Keeps old new → k ≤ length old.nodes → IsNode old k typed → IsNode new k typed
node_kept old new k typed s h n = record {
  right = right_kept old new k typed.node s h n.right;
  word = n.word;
  same = n.same ∙ sym (width_kept old new k typed.node s h n.right);
  width = n.width;
}

pub register_kept : (old new : Net) (r : Register) → Keeps old new → IsRegister old r → IsRegister new r
register_kept old new r s h = record {
  width = h.width;
  next = λ m e. let p = h.next m e in (omega (arith, p.0, s.more), s.nodes m p.0 ∙ p.1);
}

-- what holds of each place of a list holds of each place of the longer one
pub at_end : {A : Type 0} (xs : List A) (x d : A) (P : ℕ → A → Type 0) → ((k : ℕ) → k < length xs → P k (get_or xs k d)) → P (length xs) x → (k : ℕ) → k < length (xs ++ x ∷ []) → P k (get_or (xs ++ x ∷ []) k d)
at_end {A} xs x d P old last k h =
    elim (cases_lt k (length xs)) [
      | inl lt ↦ subst (P k) (sym (get_or-append xs (x ∷ []) d k lt)) (old k lt)
      | inr ge ↦
          let e : length xs ≡ k = omega (arith, length-append xs (x ∷ [])) in
          subst (λ (j : ℕ). P j (get_or (xs ++ x ∷ []) j d)) e (subst (P (length xs)) (sym (get_or-append_seam xs x [] d)) last)
    ]

counting : (a n : ℕ) → range_with_len a (suc n) ≡ range_with_len a n ++ (a + n) ∷ []
counting a zero = let e : a ≡ a + 0 = omega arith in ap (λ (k : ℕ). k ∷ []) e
counting a (suc n) =
    let e : (a + 1) + n ≡ a + suc n = omega arith in
    ap (λ (l : List ℕ). a ∷ l) (counting (a + 1) n ∙ ap (λ (k : ℕ). range_with_len (a + 1) n ++ k ∷ []) e)

counting_up : (n : ℕ) → range_with_len 0 (n + 1) ≡ range_with_len 0 n ++ n ∷ []
counting_up n =
    let e : n + 1 ≡ suc n = omega arith in
    let z : 0 + n ≡ n = omega arith in
    ap (range_with_len 0) e ∙ (counting 0 n ∙ ap (λ (k : ℕ). range_with_len 0 n ++ k ∷ []) z)

-- one number more
pub numbers_more : (h : Typed → Option ℕ) (ns : List Typed) (t : Typed) (n : ℕ) → filter_map h ns ≡ range_with_len 0 n → h t ≡ Some n → filter_map h (ns ++ t ∷ []) ≡ range_with_len 0 (n + 1)
numbers_more h ns t n e some =
    let last : filter_map h (t ∷ []) ≡ n ∷ [] = ap (λ (o : Option ℕ). cons_option o []) some in
    filter_map-append h ns (t ∷ []) ∙ (ap (λ (l : List ℕ). filter_map h ns ++ l) last ∙ (ap (λ (l : List ℕ). l ++ n ∷ []) e ∙ sym (counting_up n)))

pub numbers_same : (h : Typed → Option ℕ) (ns : List Typed) (t : Typed) (n : ℕ) → filter_map h ns ≡ range_with_len 0 n → h t ≡ None → filter_map h (ns ++ t ∷ []) ≡ range_with_len 0 n
numbers_same h ns t n e none =
    let last : filter_map h (t ∷ []) ≡ [] = ap (λ (o : Option ℕ). cons_option o []) none in
    filter_map-append h ns (t ∷ []) ∙ (ap (λ (l : List ℕ). filter_map h ns ++ l) last ∙ (append-nil (filter_map h ns) ∙ e))

-- a net with more at its ends
pub keeps_node : (old : Net) (t : Typed) → Keeps old (with_node old t)
keeps_node old t = record {
  more = omega (arith, length-append old.nodes (t ∷ []));
  nodes = λ k h. ap (λ (x : Typed). x.width) (get_or-append old.nodes (t ∷ []) _ k h);
  inputs_more = omega arith;
  inputs = λ i h. refl;
  registers_more = omega arith;
  registers = λ i h. refl;
}

pub keeps_input : (old : Net) (name : List ℕ) (w : ℕ) → Keeps old (with_input old name w)
keeps_input old name w = record {
  more = omega (arith, length-append old.nodes (record { node = Input (length old.inputs); width = w } ∷ []));
  nodes = λ k h. ap (λ (x : Typed). x.width) (get_or-append old.nodes (record { node = Input (length old.inputs); width = w } ∷ []) _ k h);
  inputs_more = omega (arith, length-append {A = Port} old.inputs ((name, w) ∷ []));
  inputs = λ i h. ap (λ (x : Port). x.1) (get_or-append {A = Port} old.inputs ((name, w) ∷ []) _ i h);
  registers_more = omega arith;
  registers = λ i h. refl;
}

abbrev fresh : List ℕ → ℕ → Held
fresh name w = (name, record { width = w; next = None })

pub keeps_register : (old : Net) (name : List ℕ) (w : ℕ) → Keeps old (with_register old name w)
keeps_register old name w = record {
  more = omega (arith, length-append old.nodes (record { node = Reg (length old.registers); width = w } ∷ []));
  nodes = λ k h. ap (λ (x : Typed). x.width) (get_or-append old.nodes (record { node = Reg (length old.registers); width = w } ∷ []) _ k h);
  inputs_more = omega arith;
  inputs = λ i h. refl;
  registers_more = omega (arith, length-append old.registers (fresh name w ∷ []));
  registers = λ i h. ap (λ (x : Held). x.1.width) (get_or-append old.registers (fresh name w ∷ []) _ i h);
}

-- a further inner node has no number of an input or a register
inner_is_no_input : (n : Node) (w : ℕ) → IsInner n → input_of_typed (record { node = n; width = w }) ≡ None
inner_is_no_input (Input i) w h = absurd h
inner_is_no_input (Reg i) w h = absurd h
inner_is_no_input (Const x) w h = refl
inner_is_no_input (Un op a) w h = refl
inner_is_no_input (Bin op a b signed) w h = refl
inner_is_no_input (Mux c a b) w h = refl
inner_is_no_input (Slice a low width) w h = refl
inner_is_no_input (Cat a b) w h = refl
inner_is_no_input (Ext a width signed) w h = refl

inner_is_no_register : (n : Node) (w : ℕ) → IsInner n → register_of_typed (record { node = n; width = w }) ≡ None
inner_is_no_register (Input i) w h = absurd h
inner_is_no_register (Reg i) w h = absurd h
inner_is_no_register (Const x) w h = refl
inner_is_no_register (Un op a) w h = refl
inner_is_no_register (Bin op a b signed) w h = refl
inner_is_no_register (Mux c a b) w h = refl
inner_is_no_register (Slice a low width) w h = refl
inner_is_no_register (Cat a b) w h = refl
inner_is_no_register (Ext a width signed) w h = refl

pub node_added : (old : Net) (n : Node) (w : ℕ) → IsNet old → IsInner n → IsNode old (length old.nodes) (record { node = n; width = w }) → IsNet (with_node old (record { node = n; width = w }))
node_added old node w n inner h =
    let t : Typed = record { node = node; width = w } in
    let new : Net = with_node old t in
    let s : Keeps old new = keeps_node old t in
    record {
      nodes = at_end old.nodes t _ (IsNode new) (λ k lt. node_kept old new k _ s (omega arith) (n.nodes k lt)) (node_kept old new (length old.nodes) t s (omega arith) h);
      inputs = n.inputs;
      registers = λ i lt. register_kept old new _ s (n.registers i lt);
      names = record { inputs = n.names.inputs; registers = n.names.registers; apart = n.names.apart };
      input_nodes = numbers_same input_of_typed old.nodes t (length old.inputs) n.input_nodes (inner_is_no_input node w inner);
      register_nodes = numbers_same register_of_typed old.nodes t (length old.registers) n.register_nodes (inner_is_no_register node w inner);
    }

-- in a longer list of named things a new name is still apart
named_apart : {A : Type 0} (name_of : A → List ℕ) (xs : List A) (x d : A) → ((i j : ℕ) → i < j → j < length xs → name_of (get_or xs i d) ≢ name_of (get_or xs j d)) → ((i : ℕ) → i < length xs → name_of (get_or xs i d) ≢ name_of x) → (j : ℕ) → j < length (xs ++ x ∷ []) → (i : ℕ) → i < j → name_of (get_or (xs ++ x ∷ []) i d) ≢ name_of (get_or (xs ++ x ∷ []) j d)
named_apart {A} name_of xs x d old new =
    at_end xs x d (λ (j : ℕ) (y : A). (i : ℕ) → i < j → name_of (get_or (xs ++ x ∷ []) i d) ≢ name_of y)
    (λ j lt i less e. old i j less lt (sym (ap name_of (get_or-append xs (x ∷ []) d i (omega arith))) ∙ e))
    (λ i less e. new i less (sym (ap name_of (get_or-append xs (x ∷ []) d i less)) ∙ e))

pub input_added : (old : Net) (name : List ℕ) (w : ℕ) → IsNet old → IsNew old name → IsWidth w → IsNet (with_input old name w)
input_added old name w n new_name width =
    let t : Typed = record { node = Input (length old.inputs); width = w } in
    let p : Port = (name, w) in
    let new : Net = with_input old name w in
    let s : Keeps old new = keeps_input old name w in
    record {
      nodes = at_end old.nodes t _ (IsNode new) (λ k lt. node_kept old new k _ s (omega arith) (n.nodes k lt)) (record { right = omega (arith, length-append {A = Port} old.inputs (p ∷ [])); word = tt; same = sym (ap (λ (x : Port). x.1) (get_or-append_seam {A = Port} old.inputs p [] _)); width = width });
      inputs = at_end {A = Port} old.inputs p _ (λ (i : ℕ) (x : Port). IsWidth x.1) n.inputs width;
      registers = λ i lt. register_kept old new _ s (n.registers i lt);
      names = record {
        inputs = λ i j less lt. named_apart {A = Port} (λ (x : Port). x.0) old.inputs p _ n.names.inputs new_name.among_inputs j lt i less;
        registers = n.names.registers;
        apart = λ i j lt lt'. at_end {A = Port} old.inputs p _ (λ (i : ℕ) (x : Port). x.0 ≢ register_name old j) (λ i h. n.names.apart i j h lt') (λ e. new_name.among_registers j lt' (sym e)) i lt;
      };
      input_nodes = subst (λ (k : ℕ). filter_map input_of_typed (old.nodes ++ t ∷ []) ≡ range_with_len 0 k) (sym (length-append {A = Port} old.inputs (p ∷ []))) (numbers_more input_of_typed old.nodes t (length old.inputs) n.input_nodes refl);
      register_nodes = numbers_same register_of_typed old.nodes t (length old.registers) n.register_nodes refl;
    }

pub register_added : (old : Net) (name : List ℕ) (w : ℕ) → IsNet old → IsNew old name → IsWidth w → IsNet (with_register old name w)
register_added old name w n new_name width =
    let t : Typed = record { node = Reg (length old.registers); width = w } in
    let p : Held = fresh name w in
    let new : Net = with_register old name w in
    let s : Keeps old new = keeps_register old name w in
    record {
      nodes = at_end old.nodes t _ (IsNode new) (λ k lt. node_kept old new k _ s (omega arith) (n.nodes k lt)) (record { right = omega (arith, length-append old.registers (p ∷ [])); word = tt; same = sym (ap (λ (x : Held). x.1.width) (get_or-append_seam old.registers p [] _)); width = width });
      inputs = n.inputs;
      registers = at_end old.registers p _ (λ (i : ℕ) (x : Held). IsRegister new x.1) (λ i lt. register_kept old new _ s (n.registers i lt)) (record { width = width; next = λ m e. cc });
      names = record {
        inputs = n.names.inputs;
        registers = λ i j less lt. named_apart (λ (x : Held). x.0) old.registers p _ n.names.registers new_name.among_registers j lt i less;
        apart = λ i j lt lt'. at_end old.registers p _ (λ (j : ℕ) (x : Held). input_name old i ≢ x.0) (λ j h. n.names.apart i j lt h) (λ e. new_name.among_inputs i lt e) j lt';
      };
      input_nodes = numbers_same input_of_typed old.nodes t (length old.inputs) n.input_nodes refl;
      register_nodes = subst (λ (k : ℕ). filter_map register_of_typed (old.nodes ++ t ∷ []) ≡ range_with_len 0 k) (sym (length-append old.registers (p ∷ []))) (numbers_more register_of_typed old.nodes t (length old.registers) n.register_nodes refl);
    }

-- the register that is changed keeps what f sees of it
register_field : {A : Type 0} (f : Held → A) (rs : List Held) (i : ℕ) (x : Held) → i < length rs → f x ≡ f (register_at rs i) → (j : ℕ) → f (register_at (set rs i x) j) ≡ f (register_at rs j)
register_field f rs i x h e j =
    elim (cases_eq j i) [
      | inl same ↦
          let p : f (register_at (set rs i x) i) ≡ f (register_at rs i) = ap f (get_or-set_same rs i x _ h) ∙ e in
          subst (λ (k : ℕ). f (register_at (set rs i x) k) ≡ f (register_at rs k)) (sym same) p
      | inr other ↦ ap f (get_or-set_other rs i j x _ other)
    ]

registers_set : (P : Held → Type 0) (rs : List Held) (i : ℕ) (x : Held) → ((j : ℕ) → j < length rs → P (register_at rs j)) → P x → (j : ℕ) → j < length rs → P (register_at (set rs i x) j)
registers_set P rs i x old new j h =
    elim (cases_eq j i) [
      | inl same ↦
          let lt : i < length rs = omega arith in
          subst (λ (k : ℕ). P (register_at (set rs i x) k)) (sym same) (subst P (sym (get_or-set_same rs i x _ lt)) new)
      | inr other ↦ subst P (sym (get_or-set_other rs i j x _ other)) (old j h)
    ]

pub next_made : (old : Net) (i m : ℕ) → IsNet old → i < length old.registers → m < length old.nodes → width_at old.nodes m ≡ register_width old i → IsNet (with_next old i m)
next_made old i m n h within same =
    let r : Held = register_at old.registers i in
    let x : Held = (r.0, record r.1 { next = Some m }) in
    let new : Net = with_next old i m in
    let count : length (set old.registers i x) ≡ length old.registers = length-set old.registers i x in
    let name = λ (j : ℕ). register_field (λ (r : Held). r.0) old.registers i x h refl j in
    let s : Keeps old new = record {
      more = omega arith;
      nodes = λ k lt. refl;
      inputs_more = omega arith;
      inputs = λ k lt. refl;
      registers_more = omega arith;
      registers = λ j lt. register_field (λ (r : Held). r.1.width) old.registers i x h refl j;
    } in
    record {
      nodes = λ k lt. node_kept old new k _ s (omega arith) (n.nodes k lt);
      inputs = n.inputs;
      registers = λ j lt. registers_set (λ (r : Held). IsRegister new r.1) old.registers i x (λ k less. register_kept old new _ s (n.registers k less)) (record {
        width = (n.registers i h).width;
        next = λ k e.
            let p : m ≡ k = cc in
            subst (λ (z : ℕ). (z < length old.nodes) × (width_at old.nodes z ≡ register_width old i)) p (within, same);
      }) j (omega arith);
      names = record {
        inputs = n.names.inputs;
        registers = λ j k less lt e. n.names.registers j k less (omega arith) (sym (name j) ∙ (e ∙ name k));
        apart = λ j k lt lt' e. n.names.apart j k lt (omega arith) (e ∙ name k);
      };
      input_nodes = n.input_nodes;
      register_nodes = subst (λ (k : ℕ). filter_map register_of_typed old.nodes ≡ range_with_len 0 k) (sym count) n.register_nodes;
    }
