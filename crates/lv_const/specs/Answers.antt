-- What is answered of a constant expression where it stands.
use Rattle.std.specs.Prelude.{◌+◌, ◌*◌, ◌∷◌, ◌++◌, length, map, max, ◌&&◌, ◌≡◌, ℕ, ◌≤◌, ◌<◌, ◌^◌, Bool, true, false, if◌then◌else◌, List, [], Option, Some, None, Contains, Result, IfOk, IfErr, flat_map}
use Rattle.std.specs.List.{list_all}
use Rattle.lv_bits.specs.Words.{Bits}
use Rattle.lv_bits.specs.Values.{extended}
use Rattle.lv_ast.specs.declared.expr.Path.{Path}
use Rattle.lv_ast.specs.declared.expr.Expr.TheOpen.{Expr-F}
use Rattle.lv_source.specs.Names.{Names, Valuation}
use Rattle.lv_source.specs.Values.{joined as joined_words}
use Rattle.lv_source.specs.Sites.{Site, Role, Value, Joined, Walk, WalkStep, walk_step, own_sites, is_absent}
use Rattle.lv_source.specs.NodeRules.{is_width, zero_divisor}
use Rattle.lv_const.specs.declared.constant.Const.{Const}
use Rattle.lv_const.specs.declared.error.ConstError.{ConstError}
use Rattle.lv_const.specs.declared.error.ConstError.TheVariants.{Range}
use Rattle.lv_const.specs.declared.own.Own.{Own}
use Rattle.lv_const.specs.declared.full.Full.{Full}
use Rattle.lv_const.specs.declared.full.Reach.{Reach}
use Rattle.lv_const.specs.declared.pair.Pair.{Pair}
use Rattle.lv_const.specs.Constants.{constant_of}
use Rattle.lv_const.specs.Faults.{form_faults, counted_zero, faults_of}

-- read, or joined by a concatenation or a replication
abbrev pub read_role : Bool → Role
read_role joined = if joined then Joined else Value

abbrev pub sites_at : Walk → Bool → Option ℕ → ℕ → Bool → List Site
sites_at w joined fixed W T = w.sites (read_role joined) fixed W T

-- some fault is told of one of them, where these constants are declared before
pub record ToldOf (each : Bool) (early : Path → Bool) (sites : List Site) (x : ConstError) : Type 0 where
  pub found : Contains (flat_map (faults_of each early) sites) x

-- of a value
abbrev pub Told : (Path → Bool) → List Site → ConstError → Type 0
Told early sites x = ToldOf true early sites x

-- of an own width: no division by 0 outside of constant positions
abbrev pub ToldOwn : (Path → Bool) → List Site → ConstError → Type 0
ToldOwn early sites x = ToldOf false early sites x

-- each name is a constant that is declared before, no division reads a signal, and nothing is out of range
pub record Sound (early : Path → Bool) (sites : List Site) : Type 0 where
  pub none : flat_map (form_faults early) sites ≡ []

-- no division by 0
pub record Divides (sites : List Site) : Type 0 where
  pub none : flat_map zero_divisor sites ≡ []

-- no division by 0 in a constant position
pub record Counted (sites : List Site) : Type 0 where
  pub none : flat_map counted_zero sites ≡ []

-- sound, and what is counted has a value where the expression itself stands in no constant position
pub record SoundAt (fixed : Option ℕ) (early : Path → Bool) (sites : List Site) : Type 0 where
  pub sound : Sound early sites
  pub counted : fixed ≡ None → Counted sites

-- its width and type, and that all in it is sound
pub record HasOwn (early : Path → Bool) (w : Walk) (joined : Bool) (o : Own) : Type 0 where
  pub width : o.width ≡ w.shown.reading.meaning.width
  pub signed : o.signed ≡ w.shown.reading.meaning.signed
  pub some : 1 ≤ o.width
  pub most : o.width ≤ 128
  pub constant : w.shown.reading.constant ≡ true
  pub sound : (fixed : Option ℕ) (W : ℕ) (T : Bool) → SoundAt fixed early (sites_at w joined fixed W T)

-- at whatever width and sign the expression is taken: of its value, or of its own width
pub record HasNone (valued : Bool) (early : Path → Bool) (w : Walk) (joined : Bool) (x : ConstError) : Type 0 where
  pub told : (fixed : Option ℕ) (W : ℕ) (T : Bool) → ToldOf (valued && is_absent fixed) early (sites_at w joined fixed W T) x

abbrev pub HasNoOwn : (Path → Bool) → Walk → Bool → ConstError → Type 0
HasNoOwn early w joined x = HasNone false early w joined x

abbrev pub HasNoPlain : (Path → Bool) → Walk → Bool → ConstError → Type 0
HasNoPlain early w joined x = HasNone true early w joined x

pub record IsOwn (early : Path → Bool) (w : Walk) (joined : Bool) (r : Result Own ConstError) : Type 0 where
  pub right : IfOk r (HasOwn early w joined)
  pub wrong : IfErr r (HasNoOwn early w joined)

-- the value at a width and a sign
pub record HasValue (w : Walk) (W : ℕ) (T : Bool) (x : ℕ) : Type 0 where
  pub is : (v : Valuation) → x ≡ w.shown.reading.meaning.value W T v
  pub fits : x < 2 ^ W
  pub constant : w.shown.reading.constant ≡ true
  pub divides : (joined : Bool) (fixed : Option ℕ) → Divides (sites_at w joined fixed W T)

-- with its value at them, as an operand that keeps its own
pub record HasFull (early : Path → Bool) (w : Walk) (joined : Bool) (f : Full) : Type 0 where
  pub own : HasOwn early w joined (record { width = f.word.width; signed = f.signed })
  pub value : HasValue w f.word.width f.signed f.word.value

-- at its own width and sign
pub record HasNoFull (early : Path → Bool) (w : Walk) (joined : Bool) (x : ConstError) : Type 0 where
  pub told : (fixed : Option ℕ) →
      ToldOf (is_absent fixed) early (sites_at w joined fixed w.shown.reading.meaning.width w.shown.reading.meaning.signed) x

pub record IsFull (early : Path → Bool) (w : Walk) (joined : Bool) (r : Result Full ConstError) : Type 0 where
  pub right : IfOk r (HasFull early w joined)
  pub wrong : IfErr r (HasNoFull early w joined)

-- ---- at a width and a sign that reach it

abbrev pub own_of_walk : Walk → Own
own_of_walk w = record { width = w.shown.reading.meaning.width; signed = w.shown.reading.meaning.signed }

pub record HasReached (early : Path → Bool) (w : Walk) (joined : Bool) (r : Reach) (f : Full) : Type 0 where
  pub own : HasOwn early w joined (own_of_walk w)
  pub width : f.word.width ≡ max w.shown.reading.meaning.width r.least
  pub signed : f.signed ≡ (if r.fixed then r.signed else w.shown.reading.meaning.signed && r.signed)
  pub most : f.word.width ≤ 128
  pub value : HasValue w f.word.width f.signed f.word.value

pub record HasNoReached (early : Path → Bool) (w : Walk) (joined : Bool) (r : Reach) (x : ConstError) : Type 0 where
  pub told : (fixed : Option ℕ) →
      ToldOf (is_absent fixed) early (sites_at w joined fixed (max w.shown.reading.meaning.width r.least)
      (if r.fixed then r.signed else w.shown.reading.meaning.signed && r.signed)) x

pub record IsReached (early : Path → Bool) (w : Walk) (joined : Bool) (r : Reach) (y : Result Full ConstError) : Type 0 where
  pub right : IfOk y (HasReached early w joined r)
  pub wrong : IfErr y (HasNoReached early w joined r)

-- a node that has a value of its own, which is extended to what reaches it
pub record HasPlain (early : Path → Bool) (w : Walk) (joined : Bool) (f : Full) : Type 0 where
  pub own : HasOwn early w joined (record { width = f.word.width; signed = f.signed })
  pub is : (W : ℕ) (T : Bool) (v : Valuation) → w.shown.reading.meaning.value W T v ≡ extended T f.word.width W f.word.value
  pub fits : f.word.value < 2 ^ f.word.width
  pub divides : (j : Bool) (fixed : Option ℕ) (W : ℕ) (T : Bool) → Divides (sites_at w j fixed W T)

pub record IsPlain (early : Path → Bool) (w : Walk) (joined : Bool) (r : Result Full ConstError) : Type 0 where
  pub right : IfOk r (HasPlain early w joined)
  pub wrong : IfErr r (HasNoPlain early w joined)

-- two operands at the greater of their widths and of what reaches them
abbrev pub pair_width : Walk → Walk → Reach → ℕ
pair_width a b r = max (max a.shown.reading.meaning.width b.shown.reading.meaning.width) r.least

abbrev pub pair_signed : Walk → Walk → Reach → Bool
pair_signed a b r = if r.fixed then r.signed else (a.shown.reading.meaning.signed && b.shown.reading.meaning.signed) && r.signed

pub record HasPair (early : Path → Bool) (a b : Walk) (r : Reach) (p : Pair) : Type 0 where
  pub left_own : HasOwn early a false (own_of_walk a)
  pub right_own : HasOwn early b false (own_of_walk b)
  pub width : p.left.width ≡ pair_width a b r
  pub signed : p.signed ≡ pair_signed a b r
  pub same : p.left.width ≡ p.right.width
  pub most : p.left.width ≤ 128
  pub left : HasValue a p.left.width p.signed p.left.value
  pub right : HasValue b p.left.width p.signed p.right.value

pub record HasNoPair (early : Path → Bool) (a b : Walk) (r : Reach) (x : ConstError) : Type 0 where
  pub told : (fixed : Option ℕ) → ToldOf (is_absent fixed) early (a.sites Value fixed (pair_width a b r) (pair_signed a b r) ++
      b.sites Value fixed (pair_width a b r) (pair_signed a b r)) x

pub record IsPair (early : Path → Bool) (a b : Walk) (r : Reach) (y : Result Pair ConstError) : Type 0 where
  pub right : IfOk y (HasPair early a b r)
  pub wrong : IfErr y (HasNoPair early a b r)

-- ---- the operands of a concatenation or a replication

abbrev pub joined_sites : Option ℕ → List Walk → List Site
joined_sites fixed ws = flat_map (own_sites Joined fixed) ws

abbrev pub total_width : List Walk → ℕ
total_width [] = 0
total_width (w ∷ ws) = w.shown.reading.meaning.width + total_width ws

pub record HaveWidths (early : Path → Bool) (ws : List Walk) (total : ℕ) : Type 0 where
  pub width : total ≡ total_width ws
  pub most : total ≤ 128 * length ws
  pub constant : list_all (λ w. w.shown.reading.constant) ws ≡ true
  pub sound : (fixed : Option ℕ) → SoundAt fixed early (joined_sites fixed ws)

-- of their words, or of their widths
pub record HaveNone (valued : Bool) (early : Path → Bool) (ws : List Walk) (x : ConstError) : Type 0 where
  pub told : (fixed : Option ℕ) → ToldOf (valued && is_absent fixed) early (joined_sites fixed ws) x

abbrev pub HaveNoWidths : (Path → Bool) → List Walk → ConstError → Type 0
HaveNoWidths early ws x = HaveNone false early ws x

abbrev pub HaveNoWords : (Path → Bool) → List Walk → ConstError → Type 0
HaveNoWords early ws x = HaveNone true early ws x

pub record AreWidths (early : Path → Bool) (ws : List Walk) (r : Result ℕ ConstError) : Type 0 where
  pub right : IfOk r (HaveWidths early ws)
  pub wrong : IfErr r (HaveNoWidths early ws)

abbrev pub joined_places : List Walk → List ℕ
joined_places ws = flat_map (λ w. w.shown.places) ws

-- the words of the operands in one
pub record HasJoint (early : Path → Bool) (ws : List Walk) (word : Bits) : Type 0 where
  pub widths : HaveWidths early ws word.width
  pub some : 1 ≤ word.width
  pub most : word.width ≤ 128
  pub is : (v : Valuation) → word.value ≡ joined_words v (map (λ w. w.shown.reading.meaning) ws)
  pub fits : word.value < 2 ^ word.width
  pub divides : (fixed : Option ℕ) → Divides (joined_sites fixed ws)

-- more than 128 bits, or none
pub data HasNoJoint (early : Path → Bool) (ws : List Walk) (place : ℕ) : ConstError → Type 0 where
  inside : {x : ConstError} → HaveNoWords early ws x → HasNoJoint early ws place x
  wide : is_width (total_width ws) ≡ false → HasNoJoint early ws place (Range place)

pub record IsJoint (early : Path → Bool) (ws : List Walk) (place : ℕ) (r : Result Bits ConstError) : Type 0 where
  pub right : IfOk r (HasJoint early ws)
  pub wrong : IfErr r (HasNoJoint early ws place)

-- ---- names

-- what is answered of a name that stands for this constant, with its selects
pub record IsOwnPick (early : Path → Bool) (names : Names) (path : Path) (c : Const) (ss : List WalkStep) (r : Result Own ConstError) : Type 0 where
  pub told : names path ≡ Some (constant_of path.name c) → early path ≡ true → (joined : Bool) → IsOwn early (walk_step names (Expr-F.Name path ss)) joined r

pub record IsFullPick (early : Path → Bool) (names : Names) (path : Path) (c : Const) (ss : List WalkStep) (r : Result Full ConstError) : Type 0 where
  pub told : names path ≡ Some (constant_of path.name c) → early path ≡ true → (joined : Bool) → IsPlain early (walk_step names (Expr-F.Name path ss)) joined r
