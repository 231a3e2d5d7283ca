-- A port by the table of its scope.
use Rattle.std.proofs.Common.{◌≡◌, inl, inr, arith, ℕ, suc, ◌+◌, Bool, true, false, not, ◌||◌, cond, nat_lt, List, [], ◌∷◌, length, refl, sym, ap, ◌∙◌, subst, Option, Some, None}
use Rattle.std.proofs.lemmas.Bool.Decides.{nat_tests}
use Rattle.std.specs.Prelude.{bytes_eq, is_some}
use Rattle.std.specs.List.{list_any, position, position_or_len}
use Rattle.lv_ast.specs.Names.{Name, alone}
use Rattle.lv_source.specs.Scopes.{Scope}
use Rattle.lv_source.proofs.Tests.{decide}
use Rattle.lv_scopes.specs.declared.table.NameTable.{NameTable}
use Rattle.lv_scopes.specs.NameLists.{listed}
use Rattle.lv_bindings.specs.declared.table.Binding.{Binding}
use Rattle.lv_bindings.specs.declared.table.Binding.TheVariants as b
use Rattle.lv_bindings.specs.declared.table.Table.{Table}
use Rattle.lv_bindings.specs.Tables.{bound_in}
use Rattle.lv_bindings.specs.Standing.{Says}
use Rattle.lv_source.specs.Names.{Declared}
use Rattle.lv_source.specs.Parts.{is_declared_sort}
use Rattle.lv_flat.specs.Signals.{Signals, signal_at}
use Rattle.lv_sinks.specs.declared.port.Port.{Port}
use Rattle.lv_sinks.specs.Connected.{IsPort}
use Rattle.lv_connections.specs.Joined.{HasNames, port_by, bound_port}

pub some-is : {X : Type 0} (x y : X) → Some x ≡ Some y → x ≡ y
some-is x y h = cc

shifted : (m n : ℕ) → nat_lt (1 + m) (suc n) ≡ nat_lt m n
shifted m n = grind (arith, nat_tests)

none-below : (n : ℕ) → nat_lt 0 (suc n) ≡ true
none-below n = grind (arith, nat_tests)

any-len : (p : Name → Bool) (xs : List Name) → nat_lt (position_or_len p xs) (length xs) ≡ list_any p xs
any-len p [] = refl
any-len p (x ∷ xs) = elim (decide (p x)) [
  | inl k ↦ ap (λ b. nat_lt (cond (not b) (1 + position_or_len p xs) 0) (length (x ∷ xs))) k ∙
      none-below (length xs) ∙ sym (ap (λ b. b || list_any p xs) k)
  | inr k ↦ ap (λ b. nat_lt (cond (not b) (1 + position_or_len p xs) 0) (length (x ∷ xs))) k ∙
      (shifted (position_or_len p xs) (length xs) ∙ (any-len p xs ∙ sym (ap (λ b. b || list_any p xs) k)))
]

some-if : (b : Bool) (n : ℕ) → is_some (cond b (Some n) None) ≡ b
some-if true n = refl
some-if false n = refl

-- a name has a number exactly where it is listed
pub is-listed : (names : List Name) (name : Name) → is_some (position (bytes_eq name) names) ≡ list_any (bytes_eq name) names
is-listed names name = some-if _ (position_or_len (bytes_eq name) names) ∙ any-len (bytes_eq name) names

module _ (S : Signals) (t : Table) (outputs : NameTable) (child : Scope) (h : HasNames S t outputs child) (name : Name) where
  abbrev output : Bool
  output = list_any (bytes_eq name) (listed outputs)

  signal-port : (k : ℕ) → Says h.first h.own h.frame name (Some (b.Signal k)) → IsPort S child name (record { signal = k; output = output })
  signal-port k says =
      let d : Declared = says.0 in
      let at : signal_at S k ≡ d = ap (signal_at S) says.2.number ∙ h.signals.each says.2.at d says.2.is in record {
        there = ap (λ (s : Scope). s.names (alone name)) (sym h.scope) ∙ (says.1 ∙ ap (λ (d : Declared). Some d) (sym at));
        sort = ap (λ (d : Declared). is_declared_sort d.sort) at ∙ says.2.sort;
        output = sym (h.outputs_are name);
      }

  bound-is : (o : Option Binding) → Says h.first h.own h.frame name o → (port : Port) → Some port ≡ port_by o output → IsPort S child name port
  bound-is None says port e = cc
  bound-is (Some (b.Signal k)) says port e = subst (IsPort S child name) (sym (some-is port (record { signal = k; output = output }) e)) (signal-port k says)
  bound-is (Some b.Constant) says port e = cc
  bound-is (Some (b.Index genvar)) says port e = cc
  bound-is (Some b.Other) says port e = cc

  pub bound-port : (port : Port) → Some port ≡ bound_port t outputs name → IsPort S child name port
  bound-port port e = bound-is (bound_in t name) (h.table.says name) port e
