-- The parts of some connections, told of each scope with these names.
use Rattle.std.proofs.Common.{◌≡◌, ℕ, ◌+◌, ◌<◌, List, length, get_or, take, sym, subst, Some, Result, Ok, Err}
use Rattle.std.specs.Prelude.{OnOk, IfErr}
use Rattle.lv_ast.specs.Names.{Name}
use Rattle.lv_source.specs.Names.{Here}
use Rattle.lv_scopes.specs.declared.table.NameTable.{NameTable}
use Rattle.lv_bindings.specs.declared.table.Table.{Table}
use Rattle.lv_flat.specs.declared.part.FlatPart.{FlatPart}
use Rattle.lv_flat.specs.Signals.{Signals}
use Rattle.lv_links.specs.declared.linked.Linked.{Linked}
use Rattle.lv_links.specs.Linking.{link_of, all_links}
use Rattle.lv_sinks.specs.declared.port.Port.{Port}
use Rattle.lv_faults.specs.declared.fault.ScopeError.{ScopeError}
use Rattle.lv_connections.specs.Joined.{bound_port, AreJoined, JoinsAll, JoinsNone, JoinsOne, JoinsNotOne}
use Rattle.lv_connections.proofs.PortLaws.{bound-port}
use Rattle.lv_connections.proofs.JoinLaws.{more-parts, links-taken, in-at, fault-there}

pub on-ok : {X Y : Type 0} (A B : Type 0) → (A → B) → (r : Result X Y) → OnOk r A → OnOk r B
on-ok A B f (Ok x) h = f h
on-ok A B f (Err z) h = tt

pub if-err : {X Y : Type 0} (P Q : Y → Type 0) → ((z : Y) → P z → Q z) → (r : Result X Y) → IfErr r P → IfErr r Q
if-err P Q f (Ok x) h = tt
if-err P Q f (Err z) h = f z h

module _ (S : Signals) (here : Here) (path : Name) (t : Table) (outputs : NameTable) (ls : List Linked) (i : ℕ) (x : Linked) (l : i < length ls) (g : x ≡ get_or ls i x)
    (port : Port) (e : Some port ≡ bound_port t outputs x.port.now.name) where
  pub joins-more : (old mid new : List FlatPart) → JoinsAll S here path t outputs (all_links (take i ls)) old mid → JoinsOne S here path port (link_of x) mid new →
      JoinsAll S here path t outputs (all_links (take (i + 1) ls)) old new
  joins-more old mid new a b = record {
    at = λ s child n q h. subst (λ qs. AreJoined S here s child qs old new) (sym (links-taken ls i x l g))
        (more-parts S here s child (all_links (take i ls)) (link_of x) old mid new (a.at s child n q h)
        (b.at s child n q (bound-port S t outputs child h x.port.now.name port e)));
  }

  pub joins-not : (z : ScopeError) → JoinsNotOne S here path port (link_of x) z → JoinsNone S here path t outputs (all_links ls) z
  joins-not z b = record {
    at = λ s child n q h. fault-there here s child (all_links ls) (link_of x) (in-at ls i x l g) z
        (b.at s child n q (bound-port S t outputs child h x.port.now.name port e));
  }
