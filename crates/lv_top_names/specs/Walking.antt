-- A text taken apart piece by piece.
use Rattle.std.specs.Prelude.{◌==◌, Bool, false, if◌then◌else◌, List, [], ◌∷◌, length, Option, Some, None}
use Rattle.lv_ast.specs.Names.{Name}

-- what stands behind a piece that a text begins with
abbrev pub behind : Name → Name → Option Name
behind [] text = Some text
behind (b ∷ bs) [] = None
behind (b ∷ bs) (c ∷ cs) = if b == c then behind bs cs else None

abbrev pub behind_some : Name → Option Name → Option Name
behind_some piece None = None
behind_some piece (Some text) = behind piece text

-- nothing is left
abbrev pub is_end : Option Name → Bool
is_end None = false
is_end (Some text) = length text == 0
