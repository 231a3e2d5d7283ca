-- The form that is decided has no lookahead.
use Rattle.std.proofs.Common.{◌≡◌, ℕ, true, ◌&&◌, ◌==◌, List, length, sym, subst, arith}
use Rattle.std.proofs.lemmas.Bool.{and_parts}
use Rattle.std.proofs.lemmas.Bool.Decides.{nat_tests}
use Rattle.lv_ast.specs.declared.item.Module.{Module}
use Rattle.lv_ast.specs.Names.{Name}
use Rattle.lv_contract.specs.declared.contract.Contract.{Contract}
use Rattle.lv_contract.specs.declared.named.PortText.{PortText}
use Rattle.lv_first.specs.declared.judging.Verdict.TheVariants as v
use Rattle.lv_first.specs.declared.observed.ObserverTrees.{ObserverTrees}
use Rattle.lv_first.specs.FirstContract.{IsFirstContract, has_first_keys, sets_nothing, lists_nothing}
use Rattle.lv_first.specs.Verdicts.{IsVerdict}

is_none : (n : ℕ) → (n == 0) ≡ true → n ≡ 0
is_none n e = grind (arith, nat_tests)

pub no_lookahead : (c : Contract) (port : PortText) → IsFirstContract c port → c.lookahead ≡ 0
no_lookahead c port h =
    let p = and_parts (has_first_keys c && sets_nothing c) (lists_nothing c) h.plain in
    let k = and_parts (has_first_keys c) (sets_nothing c) p.0 in
    let a = and_parts ((c.format == 1) && (length c.files == 1) && (c.lookahead == 0) && c.registers) c.aligned k.0 in
    let b = and_parts ((c.format == 1) && (length c.files == 1) && (c.lookahead == 0)) c.registers a.0 in
    let d = and_parts ((c.format == 1) && (length c.files == 1)) (c.lookahead == 0) b.0 in
    is_none c.lookahead d.1

pub proved_at : (top clock : Name) (b : ℕ) (m : Module) (t : ObserverTrees) (registers : List Name) → b ≡ 0 → IsVerdict top clock 0 m t (v.Proved 0 registers) → IsVerdict top clock b m t (v.Proved b registers)
proved_at top clock b m t registers e h = subst (λ z. IsVerdict top clock z m t (v.Proved z registers)) (sym e) h

pub unproved_at : (top clock : Name) (b : ℕ) (m : Module) (t : ObserverTrees) → b ≡ 0 → IsVerdict top clock 0 m t v.Unproved → IsVerdict top clock b m t v.Unproved
unproved_at top clock b m t e h = subst (λ z. IsVerdict top clock z m t v.Unproved) (sym e) h
