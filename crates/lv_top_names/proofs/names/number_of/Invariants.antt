use Rattle.std.proofs.Common.{◌≡◌, drop}
use Rattle.lv_ast.specs.Names.{path_text}
use Rattle.lv_flat.specs.Signals.{declared_all}
use Rattle.lv_top_names.specs.TopNames.{number_from, number_of}
use Rattle.lv_top_names.proofs.names.number_of.Given as goal

abbrev pub invariant-loop-k : goal.invariant-loop-k
invariant-loop-k l = number_of (declared_all l.signals) l.path ≡ number_from l.k (drop l.k (declared_all l.signals)) (path_text l.path)
