-- The parts of targets.
use Rattle.std.specs.Prelude.{◌≡◌, ℕ, ◌+◌, min, Bool, if◌then◌else◌, List, [], ◌∷◌, ◌++◌, map, flat_map, None}
use Rattle.lv_ast.specs.declared.expr.Path.{Path}
use Rattle.lv_ast.specs.declared.expr.Select.{Select}
use Rattle.lv_ast.specs.declared.expr.Expr.TheOpen.{Expr-F}
use Rattle.lv_source.specs.Names.{Names}
use Rattle.lv_source.specs.Meaning.{read_select}
use Rattle.lv_source.specs.Effect.{Piece}
use Rattle.lv_source.specs.Sites.{Site, Role, Written, Driven, walk_select, walk_step, own_sites, first_of}
use Rattle.lv_flat.specs.declared.stmt.FlatTarget.TheVariants as t
use Rattle.lv_resolve.specs.declared.goal.TargetForm.{TargetForm}
use Rattle.lv_resolve.specs.declared.goal.TargetForms.{TargetForms}
use Rattle.lv_resolve.specs.declared.picks.Picks.{Picks}

abbrev pub piece_of : Names → Path → List Select → Piece
piece_of names path ss = record { path = path; declared = names path; choices = map (read_select names) ss }

-- written by a block, or by a continuous assignment or the connection of an output
abbrev pub target_role : Bool → Role
target_role driven = if driven then Driven else Written

-- the nodes of a name that is written
abbrev pub name_sites : Bool → Names → Path → List Select → List Site
name_sites driven names path ss = own_sites (target_role driven) None (walk_step names (Expr-F.Name path (map (walk_select names) ss)))

-- where the first of them stands
abbrev pub site_place : List Site → ℕ
site_place ss = first_of (flat_map (λ s. s.shown.places) ss)

pub record IsAimed (driven : Bool) (k : ℕ) (cs : List ℕ) (at : ℕ) (p : Picks) (f : TargetForm) : Type 0 where
  pub target : f.target ≡ t.Signal (record { signal = k; place = at }) p.selects
  pub width : f.width ≡ p.width
  pub clocks : f.clocks ≡ cs ++ (if driven then [] else p.clocks)

pub record AreMore (g : TargetForms) (f : TargetForm) (h : TargetForms) : Type 0 where
  pub targets : h.targets ≡ g.targets ++ f.target ∷ []
  pub width : h.width ≡ min 129 (g.width + f.width)
  pub clocks : h.clocks ≡ g.clocks ++ f.clocks
