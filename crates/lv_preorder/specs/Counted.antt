-- A scope that is reached, behind those that are done and before those that wait.
use Rattle.std.specs.Prelude.{◌≡◌, List, ◌∷◌, ◌++◌}
use Rattle.lv_source.specs.Scopes.{Scope, children}
use Rattle.lv_source.specs.Parts.{Design, scopes_of}
use Rattle.lv_source.specs.Preorder.{AreScopes}

-- the scopes of the design are those that are done, this one, and what comes from those below it and from those that wait
pub record IsReached (d : Design) (done : List Scope) (s : Scope) (waiting : List Scope) : Type 0 where
  pub others : List Scope
  pub all : done ++ s ∷ others ≡ scopes_of d
  pub walk : AreScopes d.source (children d.source s ++ waiting) others
