-- What one-bit expressions mean.
use Rattle.std.proofs.Common.{◌≡◌, ℕ, zero, suc, ◌+◌, ◌*◌, ◌/◌, ◌%◌, ◌^◌, ◌<◌, Bool, true, false, not, ◌&&◌, ◌||◌, List, [], ◌∷◌, refl, sym, ◌∙◌, ap, arith}
use Rattle.std.specs.Prelude.{Some, slice_get, max}
use Rattle.lv_bits.specs.declared.op.Op.{Op}
use Rattle.lv_bits.specs.declared.op.Op.TheVariants as o
use Rattle.lv_bits.specs.Values.{bit, unary_value, binary_value}
use Rattle.lv_ast.specs.declared.expr.Path.{Path}
use Rattle.lv_ast.specs.declared.expr.Expr.{Expr}
use Rattle.lv_ast.specs.declared.expr.Expr.TheVariants as e
use Rattle.lv_ast.specs.Names.{Name}
use Rattle.lv_source.specs.Names.{Names, Valuation, Sort, Input, Net, Variable, Clock, Constant, Index, Other, is_signal_sort, known}
use Rattle.lv_source.specs.Values.{Meaning, binary, arithmetic}
use Rattle.lv_source.specs.Meaning.{reading, meaning, read_expr, own, named}
use Rattle.lv_source.proofs.ReadingRules.{read-Name, read-Un, read-Bin}
use Rattle.lv_first.specs.FirstForm.{one_bit}
use Rattle.lv_first.specs.Formulas.{Truth, same_bit, variable, negated, both, either, differ}
use Rattle.lv_first.specs.Signals.{env_of, AreBits, IsBitOf}
use Rattle.lv_first.proofs.Numbering.{env-bit, bits-at}

-- the bit at the bottom of a number below two is the number
low_bit : (n : ℕ) → n < 2 → n / 2 ^ 0 % 2 + 2 * 0 ≡ n
low_bit zero h = refl
low_bit (suc zero) h = refl
low_bit (suc (suc n)) h = absurd (omega arith)

pub name_value : (sort : Sort) (x : Name) (v : Valuation) → is_signal_sort sort ≡ true → v x < 2 → (named (one_bit sort x) []).meaning.value 1 false v ≡ v x
name_value Input x v kept h = low_bit (v x) h
name_value Net x v kept h = low_bit (v x) h
name_value Variable x v kept h = low_bit (v x) h
name_value Clock x v kept h = absurd (cc)
name_value (Constant c) x v kept h = absurd (cc)
name_value (Index g) x v kept h = absurd (cc)
name_value Other x v kept h = absurd (cc)

not_value : (b : Bool) → unary_value o.Not 1 (bit b) ≡ bit (not b)
not_value true = refl
not_value false = refl

module _ (names : Names) (signals : List Name) where
  pub own-bit : (x : Expr) (t : Truth) → IsBitOf names signals x t → (v : Valuation) → AreBits signals v → own names x v ≡ bit (t (env_of signals v))
  own-bit x t h v bits =
      let m : Meaning = meaning names x in
      ap (λ w. m.value w m.signed v) h.width ∙ ap (λ s. m.value 1 s v) h.signed ∙ h.value v bits

  -- a name that stands for a signal
  pub bit-Name : (path : Path) (sort : Sort) (k : ℕ) → is_signal_sort sort ≡ true → names path ≡ Some (one_bit sort path.name) → slice_get signals k ≡ Some path.name → IsBitOf names signals (e.Name path []) (variable k)
  unfolding variable
  bit-Name path sort k kept h at =
      let r : read_expr names (e.Name path []) ≡ named (one_bit sort path.name) [] = read-Name names path [] ∙ ap (λ d. named (known d) []) h in
      record {
        width = ap (λ r. r.meaning.width) r;
        signed = ap (λ r. r.meaning.signed) r;
        value = λ v bits.
            let n : bit (env_of signals v k) ≡ v path.name = env-bit signals v bits k path.name at in
            ap (λ r. r.meaning.value 1 false v) r ∙ name_value sort path.name v kept (bits-at signals v bits k path.name at) ∙ sym n;
      }

  pub bit-Not : (a : Expr) (t : Truth) → IsBitOf names signals a t → IsBitOf names signals (e.Un o.Not a) (negated t)
  unfolding negated
  bit-Not a t h = record {
    width = ap (λ r. r.meaning.width) (read-Un names o.Not a) ∙ h.width;
    signed = ap (λ r. r.meaning.signed) (read-Un names o.Not a) ∙ h.signed;
    value = λ v bits. ap (λ r. r.meaning.value 1 false v) (read-Un names o.Not a) ∙ ap (λ n. unary_value o.Not 1 n) (h.value v bits) ∙ not_value (t (env_of signals v));
  }

  module _ (op : Op) (f : Bool → Bool → Bool) (arithmetic_op : binary op ≡ arithmetic op) (table : (a b : Bool) → binary_value op false 1 (bit a) (bit b) ≡ bit (f a b)) where
    pub bit-Bin : (a b : Expr) (s t : Truth) → IsBitOf names signals a s → IsBitOf names signals b t → IsBitOf names signals (e.Bin op a b) (λ env. f (s env) (t env))
    bit-Bin a b s t h g =
        let r : read_expr names (e.Bin op a b) ≡ reading (arithmetic op (meaning names a) (meaning names b)) (read_expr names a ∷ read_expr names b ∷ []) =
        read-Bin names op a b ∙ ap (λ f. reading (f (meaning names a) (meaning names b)) (read_expr names a ∷ read_expr names b ∷ [])) arithmetic_op in
        record {
          width = ap (λ r. r.meaning.width) r ∙ ap (λ n. max n (meaning names b).width) h.width ∙ ap (λ n. max 1 n) g.width;
          signed = ap (λ r. r.meaning.signed) r ∙ ap (λ n. n && (meaning names b).signed) h.signed;
          value = λ v bits.
              ap (λ r. r.meaning.value 1 false v) r ∙ ap (λ n. binary_value op false 1 n ((meaning names b).value 1 false v)) (h.value v bits) ∙
              ap (λ n. binary_value op false 1 (bit (s (env_of signals v))) n) (g.value v bits) ∙ table (s (env_of signals v)) (t (env_of signals v));
        }

and_table : (a b : Bool) → binary_value o.And false 1 (bit a) (bit b) ≡ bit (a && b)
and_table true true = refl
and_table true false = refl
and_table false true = refl
and_table false false = refl

or_table : (a b : Bool) → binary_value o.Or false 1 (bit a) (bit b) ≡ bit (a || b)
or_table true true = refl
or_table true false = refl
or_table false true = refl
or_table false false = refl

xor_table : (a b : Bool) → binary_value o.Xor false 1 (bit a) (bit b) ≡ bit (not (same_bit a b))
xor_table true true = refl
xor_table true false = refl
xor_table false true = refl
xor_table false false = refl

module _ (names : Names) (signals : List Name) (a b : Expr) (s t : Truth) where
  pub bit-And : IsBitOf names signals a s → IsBitOf names signals b t → IsBitOf names signals (e.Bin o.And a b) (both s t)
  unfolding both
  bit-And h g = bit-Bin names signals o.And (λ x y. x && y) refl and_table a b s t h g

  pub bit-Or : IsBitOf names signals a s → IsBitOf names signals b t → IsBitOf names signals (e.Bin o.Or a b) (either s t)
  unfolding either
  bit-Or h g = bit-Bin names signals o.Or (λ x y. x || y) refl or_table a b s t h g

  pub bit-Xor : IsBitOf names signals a s → IsBitOf names signals b t → IsBitOf names signals (e.Bin o.Xor a b) (differ s t)
  unfolding differ
  bit-Xor h g = bit-Bin names signals o.Xor (λ x y. not (same_bit x y)) refl xor_table a b s t h g
