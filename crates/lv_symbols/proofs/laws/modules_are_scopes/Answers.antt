use Rattle.std.proofs.Common.{refl}
use Rattle.std.specs.Prelude.{filter}
use Rattle.lv_source.specs.Names.{Names}
use Rattle.lv_source.specs.Declarations.{of_module}
use Rattle.lv_source.specs.Scopes.{is_one_bit_input, no_names, with_parameters}
use Rattle.lv_symbols.proofs.laws.modules_are_scopes.Goals as goal

pub returns : goal.returns
returns c = λ path top around os clocks m outside once.
    (let constants : Names = with_parameters os no_names (of_module m) in
    record {
      top = top;
      clocks = filter (is_one_bit_input constants (of_module m)) (clocks constants);
      names = refl;
      around = λ p h. refl;
      once = once;
    })
