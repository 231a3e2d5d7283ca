-- What a name is bound to, from a scope outward.
use Rattle.std.specs.Prelude.{ℕ, zero, suc, Bool, if◌then◌else◌, List, length, Option, Some, None, slice_get, bytes_eq}
use Rattle.lv_ast.specs.declared.expr.Path.{Path}
use Rattle.lv_ast.specs.Names.{Name, has_no_steps}
use Rattle.lv_bindings.specs.declared.table.Binding.{Binding}
use Rattle.lv_bindings.specs.declared.table.Binding.TheVariants as b
use Rattle.lv_bindings.specs.Tables.{bound_in}
use Rattle.lv_lookup.specs.declared.level.Level.{Level}

-- in the table of this scope, and where it hasn't the name, in those around it; the index of a loop around hides what has its name there
abbrev pub binding_from : ℕ → List Level → ℕ → Name → Option Binding
binding_from zero levels at name = None
binding_from (suc n) levels at name = elim (slice_get levels at) [
  | None ↦ None
  | Some l ↦ elim (bound_in l.table name) [
    | Some b ↦ Some b
    | None ↦ elim l.around [ None ↦ None | Some a ↦ if bytes_eq a.index.now name then None else binding_from n levels a.scope name ]
  ]
]

abbrev pub binding_at : List Level → ℕ → Name → Option Binding
binding_at levels at name = binding_from (length levels) levels at name

abbrev pub number_of : Option Binding → Option ℕ
number_of None = None
number_of (Some (b.Signal k)) = Some k
number_of (Some b.Constant) = None
number_of (Some (b.Index genvar)) = None
number_of (Some b.Other) = None

abbrev pub index_of : Option Binding → Option Bool
index_of None = None
index_of (Some (b.Signal k)) = None
index_of (Some b.Constant) = None
index_of (Some (b.Index genvar)) = Some genvar
index_of (Some b.Other) = None

-- the number of the signal or clock that a name stands for; a name with steps stands for none
abbrev pub numbers_at : List Level → ℕ → Path → Option ℕ
numbers_at levels at p = if has_no_steps p then number_of (binding_at levels at p.name) else None

abbrev pub indices_at : List Level → ℕ → Name → Option Bool
indices_at levels at name = index_of (binding_at levels at name)

-- ---- for the proof

-- the scope around, unless the index of a loop there has the name
abbrev pub scope_around : Level → Name → Option ℕ
scope_around l name = elim l.around [ None ↦ None | Some a ↦ if bytes_eq a.index.now name then None else Some a.scope ]
