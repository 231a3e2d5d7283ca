-- How groups of parameters and of ports grow.
use Rattle.std.specs.Prelude.{List, [], ◌∷◌, ◌++◌, Option, Some, None}
use Rattle.lv_ast.specs.declared.stmt.Ident.{Ident}
use Rattle.lv_ast.specs.declared.item.Setting.{Setting}
use Rattle.lv_ast.specs.declared.item.Params.{Params}
use Rattle.lv_ast.specs.declared.item.Aport.{Aport}
use Rattle.lv_grammar.specs.Rules.{Header, PortHeader}

-- a group is whole where the next entry has a header
abbrev pub closed : {P H : Type 0} → P → Option H → List P
closed p None = []
closed p (Some h) = p ∷ []

abbrev pub params_parts : Params → Header × List Setting
params_parts p = ((p.signed, p.range), p.list)

abbrev pub port_parts : Aport → PortHeader × List Ident
port_parts p = (((p.output, p.word), (p.signed, p.range)), p.names)

abbrev pub grown_by : {H X P : Type 0} → (H → List X → P) → H × List X → Option H → X → P
grown_by f p None x = f p.0 (p.1 ++ (x ∷ []))
grown_by f p (Some h) x = f h (x ∷ [])

-- the last group behind one more entry
abbrev pub grown : {H X P : Type 0} → (H → List X → P) → (P → H × List X) → P → Option H × X → P
grown f parts p entry = grown_by f (parts p) entry.0 entry.1
