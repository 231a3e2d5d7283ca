-- The form of contract that is decided: one file, one port, no lookahead, all candidates, and nothing besides.
use Rattle.std.specs.Prelude.{◌≡◌, Bool, true, false, ◌&&◌, ◌==◌, List, [], ◌∷◌, map, length, Option, Some, None}
use Rattle.lv_ast.specs.declared.expr.Expr.{Expr}
use Rattle.lv_contract.specs.declared.named.Named.{Named}
use Rattle.lv_contract.specs.declared.named.PortText.{PortText}
use Rattle.lv_contract.specs.declared.contract.Contract.{Contract}
use Rattle.lv_first.specs.declared.observed.ObserverTrees.{ObserverTrees}

abbrev pub exprs : List Named → List Expr
exprs xs = map (λ (x : Named). x.expr) xs

-- what is watched at a port
abbrev pub trees_of : Contract → PortText → ObserverTrees
trees_of c port = record { retire = port.retire.expr; contract = exprs port.contract; attacker = exprs c.attacker; equal = exprs c.initial_equal }

abbrev pub is_empty : {A : Type 0} → List A → Bool
is_empty xs = length xs == 0

abbrev pub is_absent : {A : Type 0} → Option A → Bool
is_absent None = true
is_absent (Some x) = false

-- nothing is assumed, an initial pair has nothing in common but what is equal, and no candidate is listed
abbrev pub lists_nothing : Contract → Bool
lists_nothing c = is_empty c.assume && is_empty c.initial_each && is_empty c.equal && is_empty c.guarded && is_empty c.each

-- the keys that change no verdict say what their absence says
abbrev pub sets_nothing : Contract → Bool
sets_nothing c = (c.budget == 200000) && (c.cycles == 16) && is_absent c.certificate && is_absent c.sim

-- format 1, one file, lookahead 0, and the candidates `eq` of each register and `aligned`
abbrev pub has_first_keys : Contract → Bool
has_first_keys c = (c.format == 1) && (length c.files == 1) && (c.lookahead == 0) && c.registers && c.aligned

abbrev pub is_plain : Contract → Bool
is_plain c = has_first_keys c && sets_nothing c && lists_nothing c

pub record IsFirstContract (c : Contract) (port : PortText) : Type 0 where
  pub plain : is_plain c ≡ true
  pub one_port : c.ports ≡ port ∷ []
