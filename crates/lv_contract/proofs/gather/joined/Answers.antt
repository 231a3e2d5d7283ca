use Rattle.toml.specs.View.{table_view}
use Rattle.lv_contract.specs.declared.key.Key.TheVariants as k
use Rattle.lv_contract.specs.Values.{members_at}
use Rattle.lv_contract.proofs.Counts.{numbers_fit, names_fit, files_fit, observed_fit, started_fit, listed_fit, ports_counted, ports_same}
use Rattle.lv_contract.proofs.Kept.{format_range}
use Rattle.lv_contract.proofs.gather.joined.Goals as goal

pub invariant_of-result : goal.invariant_of-result
invariant_of-result c =
    let ms = table_view c.args.table.now in
    let fit = c.requires.fit in
    let names = c.requires.parts.names in
    let seen = c.requires.parts.observed in
    let inner = c.requires.parts.inside in
    let o = c.args.parts.observed in
    let i = c.args.parts.inside in
    record {
      numbers = numbers_fit c.args.format _ _ _ ms (format_range ms c.args.format c.requires.format) c.lookahead_of.ensures c.number.ensures c.number-2.ensures fit;
      names = names_fit c.args.format _ _ _ ms names.top names.clock names.certificate fit;
      filed = files_fit c.args.format _ ms names.files fit;
      port_count = ports_counted c.args.format ms o.ports seen.ports fit.ports;
      port_shape = ports_same c.args.format ms o.ports seen.ports fit.ports;
      observed = observed_fit c.args.format ms o.attacker o.assume seen.attacker seen.assume fit;
      started = started_fit (members_at k.Initial ms) i.initial.equal i.initial.each inner.initial.equal inner.initial.each fit.initial;
      listed = listed_fit (members_at k.Candidates ms) i.candidates.equal i.candidates.each i.candidates.guarded inner.candidates.equal inner.candidates.guarded inner.candidates.each fit.candidates;
    }

pub returns-clause-says : goal.returns-clause-says
returns-clause-says c =
    let names = c.requires.parts.names in
    let seen = c.requires.parts.observed in
    let inner = c.requires.parts.inside in
    record {
      files = names.files;
      top = names.top;
      clock = names.clock;
      lookahead = c.lookahead_of.ensures;
      budget = c.number.ensures;
      certificate = names.certificate;
      cycles = c.number-2.ensures;
      ports = seen.ports;
      attacker = seen.attacker;
      assume = seen.assume;
      initial_equal = inner.initial.equal;
      initial_each = inner.initial.each;
      registers = inner.candidates.registers;
      equal = inner.candidates.equal;
      guarded = inner.candidates.guarded;
      each = inner.candidates.each;
      aligned = inner.candidates.aligned;
      sim = inner.sim;
    }
