-- Bytes say at most one contract. A text's tree is there without a choice of its spelling, so the two are merely equal.
use Rattle.std.proofs.Common.{◌≡◌, ℕ, true, Bool, ◌&&◌, List, [], ◌∷◌, length, map, Option, Some, None, refl, sym, ap, ◌∙◌, subst}
use Rattle.std.specs.Prelude.{nat_le}
use Rattle.std.specs.List.{list_all}
use Rattle.std.proofs.Math.Logic.{∥∥₁_elim}
use mathlib.Core.Path.{PathP}
use mathlib.Core.Bool.{Bool-set}
use mathlib.Core.HLevel.{is_prop→PathP}
use Rattle.toml.specs.Data.{Members}
use Rattle.lv_ast.specs.declared.expr.Expr.{Expr}
use Rattle.lv_exprs.specs.Trees.{tree}
use Rattle.lv_contract.specs.declared.key.Key.TheVariants as k
use Rattle.lv_contract.specs.declared.need.Need.{Need}
use Rattle.lv_contract.specs.declared.named.Named.{Named}
use Rattle.lv_contract.specs.declared.named.Guarded.{Guarded}
use Rattle.lv_contract.specs.declared.named.PortText.{PortText}
use Rattle.lv_contract.specs.declared.named.SimState.{SimState}
use Rattle.lv_contract.specs.declared.named.SimInput.{SimInput}
use Rattle.lv_contract.specs.declared.contract.SimTable.{SimTable}
use Rattle.lv_contract.specs.declared.contract.Contract.{Contract}
use Rattle.lv_contract.specs.Expressions.{IsExpression}
use Rattle.lv_contract.specs.Named.{texts, port_texts, guarded_pair, state_pair, input_texts, contract_counts}
use Rattle.lv_contract.specs.Parts.{format_of}
use Rattle.lv_contract.specs.Ranges.{in_range, in_count, is_name_or_none, is_port_count, are_same}
use Rattle.lv_contract.specs.Says.{ports_at, Says, SaysSimulation, SaysTable, IsContractIn, IsContractFile}
use Rattle.lv_contract.specs.Values.{is_printable, is_name, table_at}
use Rattle.lv_contract.proofs.Expressions.{same-form, spelled}

-- ---- what merely holds

also : {A B : Type 0} → ∥ A ∥₁ → ∥ B ∥₁ → ∥ A × B ∥₁
also a b = ∥∥₁_elim a squash₁ (λ x. ∥∥₁_elim b squash₁ (λ y. ∣ (x, y) ∣₁))

then : {A B : Type 0} → ∥ A ∥₁ → (A → B) → ∥ B ∥₁
then a f = ∥∥₁_elim a squash₁ (λ x. ∣ f x ∣₁)

-- a test that holds at both ends of a path holds along it
along : {X : Type 0} (p : X → Bool) {x y : X} (e : x ≡ y) (a : p x ≡ true) (b : p y ≡ true) → PathP (λ j. p (e j) ≡ true) a b
along p e a b = is_prop→PathP (λ j. p (e j) ≡ true) (λ j. Bool-set (p (e j)) true) a b

nil-cons : {Y : Type 0} (y : Y) (ys : List Y) → [] ≡ y ∷ ys → ⊥
nil-cons y ys h = cc

same-head : {Y : Type 0} (x y : Y) (xs ys : List Y) → x ∷ xs ≡ y ∷ ys → x ≡ y
same-head x y xs ys h = cc

same-tail : {Y : Type 0} (x y : Y) (xs ys : List Y) → x ∷ xs ≡ y ∷ ys → xs ≡ ys
same-tail x y xs ys h = cc

some-is : {X : Type 0} (x y : X) → Some x ≡ Some y → x ≡ y
some-is x y h = cc

same-list : {X Y : Type 0} (f : X → Y) → ((x z : X) → f x ≡ f z → ∥ x ≡ z ∥₁) → (xs zs : List X) → map f xs ≡ map f zs → ∥ xs ≡ zs ∥₁
same-list f g [] [] h = ∣ refl ∣₁
same-list f g [] (z ∷ zs) h = absurd (nil-cons (f z) (map f zs) h)
same-list f g (x ∷ xs) [] h = absurd (nil-cons (f x) (map f xs) (sym h))
same-list f g (x ∷ xs) (z ∷ zs) h =
    then (also (g x z (same-head _ _ _ _ h)) (same-list f g xs zs (same-tail _ _ _ _ h))) (λ e i. e.0 i ∷ e.1 i)

-- ---- expressions

one-tree : (text : List ℕ) (x y : Expr) → IsExpression text x → IsExpression text y → x ≡ y
one-tree text x y a b =
    sym a.tree ∙ ap (tree text) (same-form text a.tokens a.spelled.lexed y b a.form a.spelled.expr (spelled text a.tokens a.spelled.lexed x a)) ∙ b.tree

named-path : (a b : Named) → a.text ≡ b.text → a.expr ≡ b.expr → a ≡ b
named-path a b t e = λ i. record {
  text = t i;
  expr = e i;
  printable = along is_printable t a.printable b.printable i;
  spelled = is_prop→PathP (λ j. ∥ IsExpression (t j) (e j) ∥₁) (λ j. squash₁) a.spelled b.spelled i;
}

same-named : (a b : Named) → a.text ≡ b.text → ∥ a ≡ b ∥₁
same-named a b t =
    then (also a.spelled b.spelled) (λ h. named-path a b t (one-tree b.text a.expr b.expr (subst (λ s. IsExpression s a.expr) t h.0) h.1))

same-all : (xs zs : List Named) → texts xs ≡ texts zs → ∥ xs ≡ zs ∥₁
same-all xs zs h = same-list (λ (x : Named). x.text) same-named xs zs h

-- ---- the parts of a contract

same-guarded : (a b : Guarded) → guarded_pair a ≡ guarded_pair b → ∥ a ≡ b ∥₁
same-guarded a b h =
    then (also (same-named a.guard b.guard (ap (λ p. p.first) h)) (same-named a.expr b.expr (ap (λ p. p.second) h)))
    (λ e i. record { guard = e.0 i; expr = e.1 i })

same-port : (a b : PortText) → port_texts a ≡ port_texts b → ∥ a ≡ b ∥₁
same-port a b h =
    then (also (same-named a.retire b.retire (ap (λ p. p.retire) h)) (same-all a.contract b.contract (ap (λ p. p.contract) h)))
    (λ e i. record { retire = e.0 i; contract = e.1 i; counted = along (λ xs. in_count k.Contract (length xs)) e.1 a.counted b.counted i })

same-state : (a b : SimState) → state_pair a ≡ state_pair b → ∥ a ≡ b ∥₁
same-state a b h =
    let t : a.register ≡ b.register = ap (λ p. p.first) h in
    then (same-named a.value b.value (ap (λ p. p.second) h)) (λ e i. record { register = t i; value = e i; printable = along is_printable t a.printable b.printable i })

same-input : (a b : SimInput) → input_texts a ≡ input_texts b → ∥ a ≡ b ∥₁
same-input a b h =
    let t : a.input ≡ b.input = ap (λ p. p.input) h in
    then (same-all a.values b.values (ap (λ p. p.values) h)) (λ e i. record {
      input = t i;
      values = e i;
      printable = along is_printable t a.printable b.printable i;
      few = along (λ xs. nat_le (length xs) 10000) e a.few b.few i;
    })

abbrev shown-in : List Named × List SimState × List SimInput → Bool
shown-in (x, s, i) = in_count k.Show (length x) && in_count k.State (length s) && in_count k.Input (length i)

same-table : (ms : Members) (a b : SimTable) → SaysSimulation ms a → SaysSimulation ms b → ∥ a ≡ b ∥₁
same-table ms a b g h =
    let c : a.cycles ≡ b.cycles = g.cycles ∙ sym h.cycles in
    let lists =
    also (same-all a.show b.show (g.show ∙ sym h.show))
    (also (same-list state_pair same-state a.state b.state (g.state ∙ sym h.state)) (same-list input_texts same-input a.input b.input (g.input ∙ sym h.input))) in
    then lists (λ e i. record {
      cycles = c i;
      show = e.0 i;
      state = e.1.0 i;
      input = e.1.1 i;
      cycles_range = along (in_range k.SimulatedCycles) c a.cycles_range b.cycles_range i;
      counted = along shown-in (λ j. (e.0 j, e.1.0 j, e.1.1 j)) a.counted b.counted i;
    })

same-sim : (o : Option Members) (a b : Option SimTable) → SaysTable o a → SaysTable o b → ∥ a ≡ b ∥₁
same-sim None None None g h = ∣ refl ∣₁
same-sim None None (Some b) g h = absurd h
same-sim None (Some a) b g h = absurd g
same-sim (Some ms) None b g h = absurd g
same-sim (Some ms) (Some a) None g h = absurd h
same-sim (Some ms) (Some a) (Some b) g h = then (same-table ms a b g h) (λ e i. Some (e i))

-- ---- the contract

-- what stands in lists of expressions
abbrev Lists : Type 0
Lists = List PortText × List Named × List Named × List Named × List Named × List Named × List Guarded × List Named × Option SimTable

abbrev lists-of : Contract → Lists
lists-of c = (c.ports, c.attacker, c.assume, c.initial_equal, c.initial_each, c.equal, c.guarded, c.each, c.sim)

same-lists : (ms : Members) (c d : Contract) → c.format ≡ d.format → Says ms c → Says ms d → ∥ lists-of c ≡ lists-of d ∥₁
same-lists ms c d f g h =
    then (also (same-list port_texts same-port c.ports d.ports (g.ports ∙ ap (λ n. ports_at n ms) f ∙ sym h.ports))
    (also (same-all c.attacker d.attacker (g.attacker ∙ sym h.attacker))
    (also (same-all c.assume d.assume (g.assume ∙ sym h.assume))
    (also (same-all c.initial_equal d.initial_equal (g.initial_equal ∙ sym h.initial_equal))
    (also (same-all c.initial_each d.initial_each (g.initial_each ∙ sym h.initial_each))
    (also (same-all c.equal d.equal (g.equal ∙ sym h.equal))
    (also (same-list guarded_pair same-guarded c.guarded d.guarded (g.guarded ∙ sym h.guarded))
    (also (same-all c.each d.each (g.each ∙ sym h.each)) (same-sim (table_at k.Simulation ms) c.sim d.sim g.sim h.sim)))))))))
    (λ e i. (e.0 i, e.1.0 i, e.1.1.0 i, e.1.1.1.0 i, e.1.1.1.1.0 i, e.1.1.1.1.1.0 i, e.1.1.1.1.1.1.0 i, e.1.1.1.1.1.1.1.0 i, e.1.1.1.1.1.1.1.1 i))

-- the rest of a contract
record SameRest (c d : Contract) : Type 0 where
  format : c.format ≡ d.format
  files : c.files ≡ d.files
  top : c.top ≡ d.top
  clock : c.clock ≡ d.clock
  lookahead : c.lookahead ≡ d.lookahead
  budget : c.budget ≡ d.budget
  certificate : c.certificate ≡ d.certificate
  cycles : c.cycles ≡ d.cycles
  registers : c.registers ≡ d.registers
  aligned : c.aligned ≡ d.aligned

same-rest : (ms : Members) (c d : Contract) → c.format ≡ d.format → Says ms c → Says ms d → SameRest c d
same-rest ms c d f g h = record {
  format = f;
  files = g.files ∙ sym h.files;
  top = g.top ∙ sym h.top;
  clock = g.clock ∙ sym h.clock;
  lookahead = g.lookahead ∙ sym h.lookahead;
  budget = g.budget ∙ sym h.budget;
  certificate = g.certificate ∙ sym h.certificate;
  cycles = g.cycles ∙ sym h.cycles;
  registers = g.registers ∙ sym h.registers;
  aligned = g.aligned ∙ sym h.aligned;
}

abbrev numbers-in : ℕ × ℕ × ℕ × ℕ → Bool
numbers-in (f, l, b, c) = in_range k.Format f && in_range k.Lookahead l && in_range k.Budget b && in_range k.Cycles c

abbrev names-in : List ℕ × List ℕ × Option (List ℕ) → Bool
names-in (t, c, o) = is_name t && is_name c && is_name_or_none o

abbrev files-in : List (List ℕ) → Bool
files-in fs = in_count k.Files (length fs) && list_all is_printable fs

abbrev observed-in : List Named × List Named → Bool
observed-in (a, s) = in_count k.Attacker (length a) && in_count k.Assume (length s)

abbrev started-in : List Named × List Named → Bool
started-in (q, e) = in_count k.Equal (length q) && in_count k.Each (length e)

abbrev listed-in : List Named × List Guarded × List Named → Bool
listed-in (q, g, e) = in_count k.Equal (length q) && in_count k.When (length g) && in_count k.Each (length e)

contract-path : (c d : Contract) → SameRest c d → lists-of c ≡ lists-of d → c ≡ d
contract-path c d r e = λ i. record {
  format = r.format i;
  files = r.files i;
  top = r.top i;
  clock = r.clock i;
  lookahead = r.lookahead i;
  budget = r.budget i;
  certificate = r.certificate i;
  cycles = r.cycles i;
  ports = (e i).0;
  attacker = (e i).1;
  assume = (e i).2;
  initial_equal = (e i).3;
  initial_each = (e i).4;
  registers = r.registers i;
  equal = (e i).5;
  guarded = (e i).6;
  each = (e i).7;
  aligned = r.aligned i;
  sim = (e i).8;
  numbers = along numbers-in (λ j. (r.format j, r.lookahead j, r.budget j, r.cycles j)) c.numbers d.numbers i;
  names = along names-in (λ j. (r.top j, r.clock j, r.certificate j)) c.names d.names i;
  filed = along files-in r.files c.filed d.filed i;
  port_count = along (λ (p : ℕ × List PortText). is_port_count p.0 (length p.1)) (λ j. (r.format j, (e j).0)) c.port_count d.port_count i;
  port_shape = along (λ ps. are_same (contract_counts ps)) (λ j. (e j).0) c.port_shape d.port_shape i;
  observed = along observed-in (λ j. ((e j).1, (e j).2)) c.observed d.observed i;
  started = along started-in (λ j. ((e j).3, (e j).4)) c.started d.started i;
  listed = along listed-in (λ j. ((e j).5, (e j).6, (e j).7)) c.listed d.listed i;
}

one-format : (ms : Members) (m n : ℕ) → format_of ms ≡ Some m → format_of ms ≡ Some n → m ≡ n
one-format ms m n g h = some-is m n (sym g ∙ h)

pub one_contract : (bytes : List ℕ) (need other : Need) (c d : Contract) → IsContractFile bytes need c → IsContractFile bytes other d → ∥ c ≡ d ∥₁
one_contract bytes need other c d g h =
    let ms : h.members ≡ g.members = some-is _ _ (sym h.document.parsed ∙ g.document.parsed) in
    let in-g : IsContractIn other g.members d = subst (λ z. IsContractIn other z d) ms h.contract in
    let f : c.format ≡ d.format = one-format g.members c.format d.format g.contract.format in-g.format in
    then (same-lists g.members c d f g.contract.says in-g.says) (contract-path c d (same-rest g.members c d f g.contract.says in-g.says))
