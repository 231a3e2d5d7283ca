use Rattle.std.proofs.Common.{ap, ◌∙◌, None}
use Rattle.std.specs.Prelude.{ℕ, true}
use Rattle.lv_ast.specs.Names.{Name}
use Rattle.lv_bits.specs.Words.{Bits}
use Rattle.lv_source.specs.Names.{Declared, Constant}
use Rattle.lv_scopes.proofs.Indexed.{indexed}
use Rattle.lv_scopes.proofs.turns.index_const.Goals as goal

abbrev stands : Name → ℕ → Declared
stands name value = record { path = name; bounds = record { left = 31; right = 0 }; ranged = true; signed = true; array = None; sort = Constant value }

pub returns : goal.returns
returns c = λ es name. indexed es name _ (stands name c.args.value) (ap (stands name) (ap (λ (w : Bits). w.value) c.new.ensures ∙ c.from.ensures))
