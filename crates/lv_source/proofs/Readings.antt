-- The value of an expression depends on the bits that it reads alone, and that of a constant one on nothing.
use Rattle.std.proofs.Common.{◌≡◌, Bool, true, false, ◌&&◌, List, [], ◌∷◌, ◌++◌, map, refl, ap, ◌∙◌}
use Rattle.std.specs.Prelude.{if◌then◌else◌}
use Rattle.lv_bits.specs.Values.{keeps_width, is_apart}
use Rattle.lv_ast.specs.declared.expr.Expr.{Expr}
use Rattle.lv_ast.specs.declared.expr.Expr.TheOpen.{Expr-F, Select-F}
use Rattle.lv_ast.specs.declared.expr.Select.{Select}
use Rattle.lv_source.specs.Names.{Names, Declared, Valuation, Sort, Input, Net, Variable, Clock, Constant, Index, Other, known, is_constant_sort, is_signal_sort}
use Rattle.lv_source.specs.Values.{nowhere, literal, unary, binary, chosen, concatenated, replicated, cast, divided, quotient, remainder, own_value, joined, widths}
use Rattle.lv_source.specs.Places.{Bit, Place, has_bit, place_bits, place_of, held, read, whole}
use Rattle.lv_source.specs.Meaning.{Reading, Choice, meanings, named, bits_named, index_reads, all_constant, meant, read_step, choice, read_expr, read_select}
use Rattle.lv_source.proofs.Each.{Each}
use Rattle.lv_source.proofs.Tests.{and-left, and-right}
use Rattle.lv_source.proofs.Induction.{Below, Inside, of_expr, of_select}
use Rattle.lv_source.proofs.Within.{place_within}
use Rattle.lv_source.proofs.Faithful.{Same, same-left, same-right, Equal, Faithful, FaithfulChoice, EqualChoice, unary_equal, binary_equal, divided_equal, chosen_equal, joined_equal, replicated_equal, plain_equal, reading_faithful, place_equal, choices_fixed, choices_equal, read_equal}

-- ---- names

held_fixed : (s : Sort) (v w : Valuation) (p : Place) → is_constant_sort s ≡ true → read (held s v) p ≡ read (held s w) p
held_fixed Input v w p h = cc
held_fixed Net v w p h = cc
held_fixed Variable v w p h = cc
held_fixed Clock v w p h = cc
held_fixed (Constant x) v w p h = refl
held_fixed (Index g) v w p h = cc
held_fixed Other v w p h = cc

held_equal : (s : Sort) (v w : Valuation) (p : Place) (bs : List Bit) → Same (has_bit (if is_signal_sort s then bs else [])) v w →
    (Same (has_bit bs) v w → Same (has_bit (place_bits p)) v w) → read (held s v) p ≡ read (held s w) p
held_equal Input v w p bs h f = read_equal v w p (f h)
held_equal Net v w p bs h f = read_equal v w p (f h)
held_equal Variable v w p bs h f = read_equal v w p (f h)
held_equal Clock v w p bs h f = refl
held_equal (Constant x) v w p bs h f = refl
held_equal (Index g) v w p bs h f = refl
held_equal Other v w p bs h f = refl

-- the bits of the place are among those that the name reads
named_bits : (v w : Valuation) (d : Declared) (cs : List Choice) → Each FaithfulChoice cs → (k : Bool) → all_constant cs ≡ k →
    Same (has_bit (if k then place_bits (place_of d (map meant cs) nowhere) else whole d)) v w → Same (has_bit (place_bits (place_of d (map meant cs) w))) v w
named_bits v w d cs h true e s b x =
    s b (ap (λ (p : Place). has_bit (place_bits p) b) (place_equal nowhere w d cs (choices_fixed nowhere w cs h e)) ∙ x)
named_bits v w d cs h false e s b x = s b (place_within d (map meant cs) w b x)

named_same : (d : Declared) (cs : List Choice) → Each FaithfulChoice cs → (v w : Valuation) → Same (has_bit (bits_named d cs ++ index_reads cs)) v w →
    read (held d.sort v) (place_of d (map meant cs) v) ≡ read (held d.sort w) (place_of d (map meant cs) w)
named_same d cs h v w s =
    let equal : Each (EqualChoice v w) cs = choices_equal v w cs h (same-right (bits_named d cs) (index_reads cs) v w s) in
    let bits : List Bit = if all_constant cs then place_bits (place_of d (map meant cs) nowhere) else whole d in
    ap (λ (p : Place). read (held d.sort v) p) (place_equal v w d cs equal) ∙
    held_equal d.sort v w (place_of d (map meant cs) w) bits (same-left (bits_named d cs) (index_reads cs) v w s) (named_bits v w d cs h (all_constant cs) refl)

named_fixed : (d : Declared) (cs : List Choice) → Each FaithfulChoice cs → (is_constant_sort d.sort && all_constant cs) ≡ true → (v w : Valuation) →
    read (held d.sort v) (place_of d (map meant cs) v) ≡ read (held d.sort w) (place_of d (map meant cs) w)
named_fixed d cs h k v w =
    ap (λ (p : Place). read (held d.sort v) p) (place_equal v w d cs (choices_fixed v w cs h (and-right (is_constant_sort d.sort) (all_constant cs) k))) ∙
    held_fixed d.sort v w (place_of d (map meant cs) w) (and-left (is_constant_sort d.sort) (all_constant cs) k)

named_faithful : (d : Declared) (cs : List Choice) → Each FaithfulChoice cs → Faithful (named d cs)
named_faithful d cs h = record {
  same = λ v w s. plain_equal v w (named d cs).meaning.width (named d cs).meaning.signed (λ v. read (held d.sort v) (place_of d (map meant cs) v)) (named_same d cs h v w s);
  fixed = λ k v w. plain_equal v w (named d cs).meaning.width (named d cs).meaning.signed (λ v. read (held d.sort v) (place_of d (map meant cs) v)) (named_fixed d cs h k v w);
}

-- ---- nodes

abbrev EqualReading : Valuation → Valuation → Reading → Type 0
EqualReading v w r = Equal v w r.meaning

meanings_equal : (v w : Valuation) (rs : List Reading) → Each (EqualReading v w) rs → Each (Equal v w) (meanings rs)
meanings_equal v w [] h = tt
meanings_equal v w (r ∷ rs) h = (h.0, meanings_equal v w rs h.1)

pub node : (names : Names) (x : Expr-F Reading Choice) → Below Faithful FaithfulChoice x → Faithful (read_step names x)
node names (Expr-F.Lit l) h = reading_faithful (literal l) [] tt (λ v w e W T. refl)
node names (Expr-F.Name path cs) h = named_faithful (known (names path)) cs h
node names (Expr-F.Un op a) h = reading_faithful (unary op a.meaning) (a ∷ []) (h, tt) (λ v w e. unary_equal v w op a.meaning (keeps_width op) e.0)
node names (Expr-F.Bin op a b) h =
    reading_faithful (binary op a.meaning b.meaning) (a ∷ b ∷ []) (h.0, (h.1, tt)) (λ v w e. binary_equal v w op a.meaning b.meaning (keeps_width op) (is_apart op) e.0 e.1.0)
node names (Expr-F.Div a b) h =
    reading_faithful (divided quotient a.meaning b.meaning) (a ∷ b ∷ []) (h.0, (h.1, tt)) (λ v w e. divided_equal v w quotient a.meaning b.meaning e.0 e.1.0)
node names (Expr-F.Rem a b) h =
    reading_faithful (divided remainder a.meaning b.meaning) (a ∷ b ∷ []) (h.0, (h.1, tt)) (λ v w e. divided_equal v w remainder a.meaning b.meaning e.0 e.1.0)
node names (Expr-F.Cond c a b) h =
    reading_faithful (chosen c.meaning a.meaning b.meaning) (c ∷ a ∷ b ∷ []) (h.0, (h.1, (h.2, tt))) (λ v w e. chosen_equal v w c.meaning a.meaning b.meaning e.0 e.1.0 e.1.1.0)
node names (Expr-F.Cat rs) h =
    reading_faithful (concatenated (meanings rs)) rs h (λ v w e. plain_equal v w (widths (meanings rs)) false (λ v. joined v (meanings rs)) (joined_equal v w (meanings rs) (meanings_equal v w rs e)))
node names (Expr-F.Rep n rs) h =
    reading_faithful (replicated n.meaning (meanings rs)) (n ∷ rs) (h.0, h.1) (λ v w e. replicated_equal v w n.meaning (meanings rs) (meanings_equal v w rs e.1))
node names (Expr-F.Cast signed a) h =
    reading_faithful (cast signed a.meaning) (a ∷ []) (h, tt) (λ v w e. plain_equal v w a.meaning.width signed (own_value a.meaning) (e.0 a.meaning.width a.meaning.signed))

pick : (s : Select-F Reading Choice) → Inside Faithful s → FaithfulChoice (choice s)
pick (Select-F.Bit a) h = (h, tt)
pick (Select-F.Part a b) h = (h.0, (h.1, tt))
pick (Select-F.Up a b) h = (h.0, (h.1, tt))
pick (Select-F.Down a b) h = (h.0, (h.1, tt))

pub faithful : (names : Names) (e : Expr) → Faithful (read_expr names e)
unfolding read_expr
faithful names e = of_expr Reading Choice (read_step names) choice Faithful FaithfulChoice (node names) pick e

pub faithful_choice : (names : Names) (s : Select) → FaithfulChoice (read_select names s)
unfolding read_select
faithful_choice names s = of_select Reading Choice (read_step names) choice Faithful FaithfulChoice (node names) pick s
