use Rattle.std.proofs.Common.{◌∙◌, ◌+◌, ◌*◌, List, take, drop, length, ap, arith, length-drop, drop-drop}
use Rattle.lv_bits.specs.Words.{Bits}
use Rattle.lv_netlist.specs.Queries.{pieces}
use Rattle.lv_product.proofs.product.pair_of.Goals as goal

pub first-r-requires : goal.first-r-requires
first-r-requires c = omega (arith, c.requires, ap length c.after-others.ensures, length-drop c.args.registers c.args.words.now)

pub after-rest-requires : goal.after-rest-requires
after-rest-requires c = omega (arith, c.requires, ap length c.after-others.ensures, length-drop c.args.registers c.args.words.now)

pub cycles_of-requires : goal.cycles_of-requires
cycles_of-requires c =
    omega (
      arith,
      c.requires,
      ap length c.after-others.ensures,
      length-drop c.args.registers c.args.words.now,
      ap length c.after-rest.ensures,
      length-drop
          c.args.registers c.after-others.result.now,
    )

pub returns : goal.returns
returns c = record {
  left = c.in_ok-left.ensures.items ∙ c.first-l.ensures;
  right = c.in_ok-right.ensures.items ∙ (c.first-r.ensures ∙ ap (λ (l : List Bits). take c.args.registers l) c.after-others.ensures);
  each = c.in_ok-inputs.ensures ∙ ap (λ (l : List Bits). pieces c.args.inputs c.args.cycles l) (c.after-rest.ensures ∙
      (ap (λ (l : List Bits). drop c.args.registers l) c.after-others.ensures ∙ drop-drop c.args.registers c.args.registers c.args.words.now));
  aligned = c.is_last_on-aligned.ensures (c.args.registers + c.args.registers + c.args.cycles * c.args.inputs) (omega (arith, c.requires));
}
