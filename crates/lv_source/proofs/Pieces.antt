-- Targets: what they name depends on the bits that their indices read, and an assignment settles what it writes for sure.
use Rattle.std.proofs.Common.{◌≡◌, inl, inr, ℕ, max, ◌%◌, ◌^◌, Bool, true, false, List, [], ◌∷◌, ◌++◌, map, refl, sym, ap, ◌∙◌, Option, Some, None}
use Rattle.std.specs.Prelude.{flat_map, if◌then◌else◌, filter, cond}
use Rattle.lv_ast.specs.declared.expr.Expr.{Expr}
use Rattle.lv_ast.specs.declared.expr.Expr.TheOpen.{Expr-F, Select-F}
use Rattle.lv_ast.specs.declared.expr.Select.{Select}
use Rattle.lv_ast.specs.declared.stmt.Target.{Target, Row_of-Target, end_of-Target, more_of-Target}
use Rattle.lv_ast.specs.declared.stmt.Target.TheVariants as t
use Rattle.lv_ast.specs.Trees.{fold_targets}
use Rattle.lv_source.specs.Names.{Names, Declared, Valuation, known, is_signal_sort}
use Rattle.lv_source.specs.Values.{nowhere}
use Rattle.lv_source.specs.Places.{Bit, Place, bit_at, has_bit, same_bit, place_bits, place_of, whole}
use Rattle.lv_source.specs.Meaning.{Reading, Choice, bits_named, index_reads, all_constant, meant, read_select}
use Rattle.lv_source.specs.Effect.{Piece, pieces, piece_step, piece_place, aimed, places, bits_in, write_all, assigned}
use Rattle.lv_source.specs.Flow.{writes_of}
use Rattle.lv_source.specs.Parts.{Sink, sink_step, read_choice, read_layer, join_targets, as_target}
use Rattle.lv_source.proofs.Each.{Each, each-join}
use Rattle.lv_source.proofs.Tests.{any-left, any-right, any-split}
use Rattle.lv_source.proofs.Induction.{Below, Inside, of_expr}
use Rattle.lv_source.proofs.Faithful.{Same, same-left, same-right, Faithful, FaithfulChoice, place_equal, choices_fixed, choices_equal}
use Rattle.lv_source.proofs.Readings.{faithful_choice, node}
use Rattle.lv_source.proofs.Writes.{Settles, all_bits_of, writes_settle}

abbrev pub FaithfulPiece : Piece → Type 0
FaithfulPiece p = Each FaithfulChoice p.choices

-- ---- the pieces of a target and of an expression

choices_of : (names : Names) (ss : List Select) → Each FaithfulChoice (map (read_select names) ss)
choices_of names [] = tt
choices_of names (s ∷ ss) = (faithful_choice names s, choices_of names ss)

mutual
  unfolding pieces

  pub pieces_faithful : (names : Names) (t : Target) → Each FaithfulPiece (pieces names t)
  pieces_faithful names (t.Name path ss) = (choices_of names ss, tt)
  pieces_faithful names (t.Cat' n ts) = all_faithful names ts

  all_faithful : (names : Names) {n : _} (ts : Row_of-Target n) → Each FaithfulPiece (flat_map (λ ps. ps) (fold_targets (List Piece) (piece_step names) ts))
  all_faithful names end_of-Target = tt
  all_faithful names (more_of-Target t ts) =
      each-join FaithfulPiece (pieces names t) (flat_map (λ ps. ps) (fold_targets (List Piece) (piece_step names) ts)) (pieces_faithful names t) (all_faithful names ts)

abbrev pub MaybeFaithful : Option (List Piece) → Type 0
MaybeFaithful None = Unit {0}
MaybeFaithful (Some ps) = Each FaithfulPiece ps

pub record FaithfulSink (s : Sink) : Type 0 where
  pub reading : Faithful s.reading
  pub target : MaybeFaithful s.target

sink_readings : (rs : List Sink) → Each FaithfulSink rs → Each Faithful (map (λ (r : Sink). r.reading) rs)
sink_readings [] h = tt
sink_readings (r ∷ rs) h = (h.0.reading, sink_readings rs h.1)

sinks_below : (x : Expr-F Sink Choice) → Below FaithfulSink FaithfulChoice x → Below Faithful FaithfulChoice (read_layer x)
sinks_below (Expr-F.Lit l) h = tt
sinks_below (Expr-F.Name path cs) h = h
sinks_below (Expr-F.Un op a) h = h.reading
sinks_below (Expr-F.Bin op a b) h = (h.0.reading, h.1.reading)
sinks_below (Expr-F.Div a b) h = (h.0.reading, h.1.reading)
sinks_below (Expr-F.Rem a b) h = (h.0.reading, h.1.reading)
sinks_below (Expr-F.Cond c a b) h = (h.0.reading, h.1.reading, h.2.reading)
sinks_below (Expr-F.Cat rs) h = sink_readings rs h
sinks_below (Expr-F.Rep n rs) h = (h.0.reading, sink_readings rs h.1)
sinks_below (Expr-F.Cast signed a) h = h.reading

join_rest : (ps : List Piece) → Each FaithfulPiece ps → (o : Option (List Piece)) → MaybeFaithful o →
    MaybeFaithful (elim o [ None ↦ None | Some qs ↦ Some (ps ++ qs) ])
join_rest ps h None k = tt
join_rest ps h (Some qs) k = each-join FaithfulPiece ps qs h k

join_first : (o r : Option (List Piece)) → MaybeFaithful o → MaybeFaithful r →
    MaybeFaithful (elim o [ None ↦ None | Some ps ↦ elim r [ None ↦ None | Some qs ↦ Some (ps ++ qs) ] ])
join_first None r h k = tt
join_first (Some ps) r h k = join_rest ps h r k

joined_targets : (rs : List Sink) → Each FaithfulSink rs → MaybeFaithful (join_targets rs)
joined_targets [] h = tt
joined_targets (r ∷ rs) h = join_first r.target (join_targets rs) h.0.target (joined_targets rs h.1)

sink_target : (names : Names) (x : Expr-F Sink Choice) → Below FaithfulSink FaithfulChoice x → MaybeFaithful (sink_step names x).target
sink_target names (Expr-F.Lit l) h = tt
sink_target names (Expr-F.Name path cs) h = (h, tt)
sink_target names (Expr-F.Un op a) h = tt
sink_target names (Expr-F.Bin op a b) h = tt
sink_target names (Expr-F.Div a b) h = tt
sink_target names (Expr-F.Rem a b) h = tt
sink_target names (Expr-F.Cond c a b) h = tt
sink_target names (Expr-F.Cat rs) h = joined_targets rs h
sink_target names (Expr-F.Rep n rs) h = tt
sink_target names (Expr-F.Cast signed a) h = tt

sink_node : (names : Names) (x : Expr-F Sink Choice) → Below FaithfulSink FaithfulChoice x → FaithfulSink (sink_step names x)
sink_node names x h = record { reading = node names (read_layer x) (sinks_below x h); target = sink_target names x h }

sink_pick : (s : Select-F Sink Choice) → Inside FaithfulSink s → FaithfulChoice (read_choice s)
sink_pick (Select-F.Bit a) h = (h.reading, tt)
sink_pick (Select-F.Part a b) h = (h.0.reading, (h.1.reading, tt))
sink_pick (Select-F.Up a b) h = (h.0.reading, (h.1.reading, tt))
sink_pick (Select-F.Down a b) h = (h.0.reading, (h.1.reading, tt))

pub target_faithful : (names : Names) (e : Expr) → MaybeFaithful (as_target names e)
unfolding as_target
target_faithful names e = (of_expr Sink Choice (sink_step names) read_choice FaithfulSink FaithfulChoice (sink_node names) sink_pick e).target

-- ---- places

abbrev pub target_reads : List Piece → List Bit
target_reads ps = flat_map (λ p. index_reads p.choices) ps

pub places_equal : (v w : Valuation) (ps : List Piece) → Each FaithfulPiece ps → Same (has_bit (target_reads ps)) v w → places v ps ≡ places w ps
places_equal v w [] h s = refl
places_equal v w (p ∷ ps) h s =
    let first : piece_place v p ≡ piece_place w p =
    ap (aimed (is_signal_sort (known p.declared).sort)) (place_equal v w (known p.declared) p.choices (choices_equal v w p.choices h.0 (same-left (index_reads p.choices) (target_reads ps) v w s))) in
    let rest : places v ps ≡ places w ps = places_equal v w ps h.1 (same-right (index_reads p.choices) (target_reads ps) v w s) in
    ap (λ (q : Place). q ∷ places v ps) first ∙ ap (λ (qs : List Place). piece_place w p ∷ qs) rest

constant_bits : (v : Valuation) (d : Declared) (cs : List Choice) → Each FaithfulChoice cs → all_constant cs ≡ true → (s k : Bool) → all_constant cs ≡ k → (b : Bit) →
    has_bit (if s then (if k then place_bits (place_of d (map meant cs) nowhere) else whole d) else []) b ≡ true → has_bit (place_bits (aimed s (place_of d (map meant cs) v))) b ≡ true
constant_bits v d cs h c true true e b x = ap (λ (p : Place). has_bit (place_bits p) b) (place_equal v nowhere d cs (choices_fixed v nowhere cs h c)) ∙ x
constant_bits v d cs h c true false e b x = cc
constant_bits v d cs h c false k e b x = cc

-- the bits that are written for sure are bits of the places
pub surely_places : (v : Valuation) (ps : List Piece) → Each FaithfulPiece ps → (b : Bit) →
    has_bit (writes_of (filter (λ p. all_constant p.choices) ps)) b ≡ true → has_bit (all_bits_of (places v ps)) b ≡ true
surely_places v [] h b x = cc
surely_places v (p ∷ ps) h b x =
    elim (all_constant p.choices) as (λ c. all_constant p.choices ≡ c → has_bit (writes_of (cond c (p ∷ filter (λ q. all_constant q.choices) ps) (filter (λ q. all_constant q.choices) ps))) b ≡ true →
    has_bit (all_bits_of (places v (p ∷ ps))) b ≡ true) [
      | true ↦ λ e y. elim (any-split (same_bit b) (bits_named (known p.declared) p.choices) (writes_of (filter (λ q. all_constant q.choices) ps)) y) [
        | inl z ↦ any-left (same_bit b) (place_bits (piece_place v p)) (all_bits_of (places v ps))
            (constant_bits v (known p.declared) p.choices h.0 e (is_signal_sort (known p.declared).sort) (all_constant p.choices) refl b z)
        | inr z ↦ any-right (same_bit b) (place_bits (piece_place v p)) (all_bits_of (places v ps)) (surely_places v ps h.1 b z)
      ]
      | false ↦ λ e y. any-right (same_bit b) (place_bits (piece_place v p)) (all_bits_of (places v ps)) (surely_places v ps h.1 b y)
    ] refl x

-- ---- assignments

-- what an assignment leaves of a valuation
abbrev pub put : List Piece → Reading → Valuation → Valuation
put ps value v = write_all v (places v ps) (assigned v (bits_in (places v ps)) value.meaning)

put_at : (ps : List Piece) (value : Reading) (v w : Valuation) → Faithful value → Each FaithfulPiece ps → Same (has_bit (value.reads ++ target_reads ps)) v w →
    put ps value w ≡ write_all w (places v ps) (assigned v (bits_in (places v ps)) value.meaning)
put_at ps value v w f h s =
    let qs : places w ps ≡ places v ps = sym (places_equal v w ps h (same-right value.reads (target_reads ps) v w s)) in
    let n : ℕ = bits_in (places v ps) in
    let x : assigned w n value.meaning ≡ assigned v n value.meaning =
    ap (λ y. y % 2 ^ n) (sym (f.same v w (same-left value.reads (target_reads ps) v w s) (max n value.meaning.width) value.meaning.signed)) in
    ap (λ (ps : List Place). write_all w ps (assigned w (bits_in ps) value.meaning)) qs ∙ ap (λ y. write_all w (places v ps) y) x

pub put_settles : (ps : List Piece) (value : Reading) (v w : Valuation) → Faithful value → Each FaithfulPiece ps → Same (has_bit (value.reads ++ target_reads ps)) v w →
    (b : Bit) → Settles (writes_of (filter (λ p. all_constant p.choices) ps)) b (bit_at v b) (bit_at w b) → bit_at (put ps value v) b ≡ bit_at (put ps value w) b
put_settles ps value v w f h s b k =
    writes_settle (places v ps) (assigned v (bits_in (places v ps)) value.meaning) v w b (elim k [ inl e ↦ inl e | inr x ↦ inr (surely_places v ps h b x) ]) ∙
    ap (λ (u : Valuation). bit_at u b) (sym (put_at ps value v w f h s))
