-- Readers of a rule, from readers of its grammar.
use Rattle.std.proofs.Common.{◌≡◌, List, [], ◌∷◌, true, false, sym, subst}
use Rattle.lv_grammars.specs.Grammar.{Base, call}
use Rattle.lv_grammars.specs.Spelling.{Rules, Language, IsSpelled, allows, inner}
use Rattle.lv_grammars.specs.Nexts.{Opens}
use Rattle.lv_grammars.specs.Reading.{Passes}
use Rattle.lv_grammars.specs.Facts.{IsWithin}
use Rattle.lv_grammars.specs.At.{At}
use Rattle.lv_grammars.proofs.Lists.{true_false}
use Rattle.lv_grammars.proofs.Calls.{called_is, is_called, free_called_is, free_is_called}
use Rattle.lv_grammars.proofs.Readers.{Spelled, at_case}
use Rattle.lv_grammars.proofs.Starved.{starved}

module _ {b : Base} {all low : Language b} (w : IsWithin b low all) (r : b.Rule) where
  -- a rule is its grammar, without limits
  pub ruled : (us : List b.Token) → Spelled b all (low.rules r) us → Spelled b all (call r) us
  ruled us c = (c.0, c.1, free_is_called b all w.free r us c.0 c.1 (subst (λ (rs : Rules b). IsSpelled b all (rs r) us c.0 c.1) w.rules c.2))

  pub unruled : (us : List b.Token) → Spelled b all (call r) us → Spelled b all (low.rules r) us
  unruled us c = (c.0, c.1, subst (λ (rs : Rules b). IsSpelled b all (rs r) us c.0 c.1) (sym w.rules) (free_called_is b all w.free r us c.0 c.1 c.2))

  -- the limits allow it
  pub call_at : (ts : List b.Token) → allows (low.limits (b.count r)) ≡ true → At b all low (call r) ts (inner b low r) (low.rules r) ts (λ x. x)
  call_at ts a = at_case (record {
    into_all = λ us c. ruled us c;
    into_low = λ us o x s. (o, is_called b low r us o x a s);
    back_all = λ m us vs e c. unruled (m ∷ vs) c;
    back_low = λ m us vs e c. (c.0, c.1, (called_is b low r (m ∷ vs) c.0 c.1 c.2).1);
    back_none = λ c e. unruled [] c;
  })

  -- they don't
  pub call_none : allows (low.limits (b.count r)) ≡ false → (us : List b.Token) → Spelled b low (call r) us → ⊥
  call_none a us c = true_false (allows (low.limits (b.count r))) (called_is b low r us c.0 c.1 c.2).0 a

  pub call_high : (ts : List b.Token) → allows (low.limits (b.count r)) ≡ false → Opens b all (call r) ts → Passes b all low (call r) ts ts
  call_high ts a o = starved o (call_none a)
