-- The parts of a prepared problem, put together.
use Rattle.std.proofs.Common.{◌≡◌, suc, ◌+◌, ◌*◌, ◌≤◌, true, false, List, [], ◌++◌, length, sym, ◌∙◌, ap, subst, arith}
use Rattle.std.specs.Prelude.{bytes_eq, filter, not}
use Rattle.std.specs.List.{IsDistinct, list_all}
use Rattle.lv_ast.specs.declared.item.Aport.{Aport}
use Rattle.lv_ast.specs.declared.item.Ports.TheVariants as p
use Rattle.lv_ast.specs.declared.item.Item.{Item}
use Rattle.lv_ast.specs.declared.item.Module.{Module}
use Rattle.lv_ast.specs.Names.{Name}
use Rattle.lv_first.specs.declared.observed.ObserverTrees.{ObserverTrees}
use Rattle.lv_first.specs.declared.problem.Problem.{Problem}
use Rattle.lv_first.specs.FirstForm.{port_list, port_names, register_items, registers_of, inputs_of, is_in, is_bit_port, free_bits, IsFirstForm}
use Rattle.lv_first.specs.Signals.{HasSignals, IsBitForm, IsBuilt, IsPrepared}
use Rattle.lv_first.proofs.Gathers.{distinct_filter, distinct_right, kept_count}

pub distinct_signals : (ports : List Aport) (items : List Item) (clock : Name) (Rs Is : List Name) → HasSignals ports items clock Rs Is → IsDistinct bytes_eq (Rs ++ Is)
distinct_signals ports items clock Rs Is h =
    subst (λ z. IsDistinct bytes_eq (Rs ++ z)) (sym h.inputs_are) (distinct_filter (λ x. not (bytes_eq x clock)) Rs (port_names false ports) h.distinct)

-- few signals come from few ports
pub few_names : (ports : List Aport) (items : List Item) (clock : Name) (Rs Is : List Name) → HasSignals ports items clock Rs Is → free_bits Rs Is ≤ 16 →
    (length Rs ≤ 32) × (length (port_names false ports) ≤ 32)
few_names ports items clock Rs Is h few =
    let d : IsDistinct bytes_eq (port_names false ports) = distinct_right Rs (port_names false ports) h.distinct in
    let most : length (port_names false ports) ≤ suc (length Is) = subst (λ z. length (port_names false ports) ≤ suc (length z)) (sym h.inputs_are) (kept_count clock (port_names false ports) d) in
    let few' : 2 * length Rs + 2 * length Is + 1 ≤ 16 = few in
    (omega arith, omega arith)

module _ (m : Module) (top clock : Name) (c : ObserverTrees) (ports : List Aport) (declared : m.ports ≡ p.Declared ports) where
  abbrev list : port_list m.ports ≡ ports
  list = ap port_list declared

  -- ---- a module of the form

  pub signals_of_form : IsFirstForm m top clock c → HasSignals ports m.items clock (registers_of m) (inputs_of m clock)
  signals_of_form f = record {
    registers_are = ap (λ (z : List Aport). port_names true z ++ register_items m.items) list;
    inputs_are = ap (λ (z : List Aport). filter (λ x. not (bytes_eq x clock)) (port_names false z)) list;
    distinct = subst (λ (z : List Aport). IsDistinct bytes_eq (registers_of m ++ port_names false z)) list f.legal.distinct;
    clock_is_input = subst (λ (z : List Aport). is_in (port_names false z) clock ≡ true) list f.legal.clock_is_input;
  }

  pub bits_of_form : IsFirstForm m top clock c → list_all is_bit_port ports ≡ true
  bits_of_form f = subst (λ (z : List Aport). list_all is_bit_port z ≡ true) list f.legal.one_bit

  module _ (Rs Is : List Name) (signals : HasSignals ports m.items clock Rs Is) where
    regs : Rs ≡ registers_of m
    regs = signals.registers_are ∙ ap (λ (z : List Aport). port_names true z ++ register_items m.items) (sym list)

    ins : Is ≡ inputs_of m clock
    ins = signals.inputs_are ∙ ap (λ (z : List Aport). filter (λ x. not (bytes_eq x clock)) (port_names false z)) (sym list)

    pub form_over : IsFirstForm m top clock c → IsBitForm clock Rs Is m.items c
    form_over f =
        subst (λ z. IsBitForm clock z Is m.items c) (sym regs) (subst (λ z. IsBitForm clock (registers_of m) z m.items c) (sym ins)
        (record { legal = f.legal.items; one_block = f.legal.one_block; observers = f.observers; few = f.few }))

    pub prepared : (problem : Problem) → m.name.name ≡ top → m.params ≡ [] → list_all is_bit_port ports ≡ true → IsBuilt clock Rs Is m.items c problem → IsPrepared m top clock c Rs problem
    prepared problem called no_params one_bit build =
        let built : IsBuilt clock (registers_of m) (inputs_of m clock) m.items c problem =
        subst (λ z. IsBuilt clock z (inputs_of m clock) m.items c problem) regs (subst (λ z. IsBuilt clock Rs z m.items c problem) ins build) in
        record {
          form = record {
            legal = record {
              called = called;
              no_params = no_params;
              ports = declared ∙ ap p.Declared (sym list);
              one_bit = ap (list_all is_bit_port) list ∙ one_bit;
              items = built.form.legal;
              one_block = built.form.one_block;
              clock_is_input = ap (λ (z : List Aport). is_in (port_names false z) clock) list ∙ signals.clock_is_input;
              distinct = subst (λ z. IsDistinct bytes_eq (z ++ port_names false (port_list m.ports))) regs (subst (λ (z : List Aport). IsDistinct bytes_eq (Rs ++ port_names false z)) (sym list) signals.distinct);
            };
            observers = built.form.observers;
            few = built.form.few;
          };
          registers_are = regs;
          problem = built.problem;
        }
