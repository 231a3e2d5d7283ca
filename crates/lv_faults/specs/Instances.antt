-- An item of instances, by what is told of its module and its settings, and of each of its instances.
use Rattle.std.specs.Prelude.{◌≡◌, ℕ, List, [], Some}
use Rattle.lv_ast.specs.declared.stmt.Ident.{Ident}
use Rattle.lv_ast.specs.declared.item.Conn.{Conn}
use Rattle.lv_ast.specs.declared.item.Inst.{Inst}
use Rattle.lv_ast.specs.declared.item.Item.TheVariants as i
use Rattle.lv_ast.specs.declared.item.Module.{Module}
use Rattle.lv_ast.specs.declared.item.Source.{Source}
use Rattle.lv_source.specs.Scopes.{Scope, here_at, module_named, links}
use Rattle.lv_source.specs.ScopeRules.{setting_sites, inst_sites, unknown_module_in, unknown_in_item, recursion_in, extra_settings, twice_linked, settable_of, inst_ports}
use Rattle.lv_source.specs.Sites.{spots}
use Rattle.lv_resolve.specs.Resolved.{AreFaultless}

-- nothing is told of the module and the settings
pub record AreFaultlessSettings (source : Source) (s : Scope) (k : ℕ) (kind : Ident) (settings : List Conn) (insts : List Inst) : Type 0 where
  pub known : unknown_module_in source s.names (i.Instance kind settings insts) ≡ []
  pub named : unknown_in_item source s.names (i.Instance kind settings insts) ≡ []
  pub apart : recursion_in source s s.names (i.Instance kind settings insts) ≡ []
  pub few : extra_settings s.names (settable_of (module_named source kind.name)) settings ≡ []
  pub once : twice_linked s.names (links (settable_of (module_named source kind.name)) settings) ≡ []
  pub nodes : AreFaultless (spots (here_at s k) (setting_sites s s.names settings (module_named source kind.name)))

-- nor of an instance
pub record IsFaultlessInst (source : Source) (s : Scope) (k : ℕ) (kind : Ident) (settings : List Conn) (inst : Inst) : Type 0 where
  pub nodes : AreFaultless (spots (here_at s k) (inst_sites source s s.names settings inst (module_named source kind.name)))
  pub ports : (m : Module) → module_named source kind.name ≡ Some m → inst_ports source s s.names settings m inst ≡ []
