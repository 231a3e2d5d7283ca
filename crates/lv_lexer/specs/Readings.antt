-- What has been read, as the code keeps it.
use Rattle.std.specs.Prelude.{◌≡◌, ◌<◌, ◌≤◌, [], Some, None, Result, MatchResult}
use Rattle.lv_ast.specs.Folds.{Reading, Stop, followed, counted}
use Rattle.lv_ast.specs.Folds as folds
use Rattle.lv_lexer.specs.declared.error.DirectiveError.{DirectiveError}
use Rattle.lv_lexer.specs.declared.error.DirectiveError.TheVariants.{UnknownMacro, Unbalanced, Malformed, Depth, TooMany, NoMemory}
use Rattle.lv_lexer.specs.declared.output.Output.{Output}

-- what was read so far, with no refusal
abbrev pub done : Output → Reading
done o = record { tokens = o.list; uses = o.uses; stop = None }

abbrev pub IsFoldRefusal : Reading → DirectiveError → Type 0
IsFoldRefusal r (UnknownMacro p) = r.stop ≡ Some (folds.UnknownMacro p)
IsFoldRefusal r (Unbalanced p) = r.stop ≡ Some (folds.Unbalanced p)
IsFoldRefusal r (Malformed p) = r.stop ≡ Some (folds.Malformed p)
IsFoldRefusal r (Depth p) = r.stop ≡ Some (folds.Depth p)
IsFoldRefusal r (TooMany n) = (n ≡ 500001) × (500000 < counted r)
IsFoldRefusal r NoMemory = Unit {0}

-- the reading ends with that stop, and no more than the limit was read before
abbrev pub Stops : Reading → Stop → Type 0
Stops r s = (r.stop ≡ Some s) × (counted r ≤ 500000)

-- the one refusal that a reading comes to: its stop, or the limit where that is passed
abbrev pub IsFoldAnswer : Reading → DirectiveError → Type 0
IsFoldAnswer r (UnknownMacro p) = Stops r (folds.UnknownMacro p)
IsFoldAnswer r (Unbalanced p) = Stops r (folds.Unbalanced p)
IsFoldAnswer r (Malformed p) = Stops r (folds.Malformed p)
IsFoldAnswer r (Depth p) = Stops r (folds.Depth p)
IsFoldAnswer r (TooMany n) = (n ≡ 500001) × (500000 < counted r)
IsFoldAnswer r NoMemory = Unit {0}

-- what a list whose reading passes the limit is refused as
abbrev pub IsFoldRefusalOfMany : DirectiveError → Type 0
IsFoldRefusalOfMany (UnknownMacro p) = ⊥
IsFoldRefusalOfMany (Unbalanced p) = ⊥
IsFoldRefusalOfMany (Malformed p) = ⊥
IsFoldRefusalOfMany (Depth p) = ⊥
IsFoldRefusalOfMany (TooMany n) = n ≡ 500001
IsFoldRefusalOfMany NoMemory = Unit {0}

-- what a call adds to what was read, or why it ends there
abbrev pub Reads : {T : Type 0} → Output → Reading → Result T DirectiveError → Output → Type 0
Reads old r result new = MatchResult result (λ _. followed (done old) r ≡ done new) (IsFoldAnswer (followed (done old) r))

abbrev pub used : Reading
used = record { tokens = []; uses = 1; stop = None }
