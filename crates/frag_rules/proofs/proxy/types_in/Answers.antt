use Rattle.std.proofs.Common.{ap, map}
use Rattle.frag_rules.specs.Keys.{key_seen, types_seen}
use Rattle.frag_rules.proofs.Keys.{has-types}
use Rattle.frag_rules.proofs.proxy.types_in.Goals as goal

pub returns : goal.returns
returns c =
    has-types c.args.unit.now (types_seen c.new-types.result) (types_seen c.add_readers.new.types) (types_seen c.add_writers.new.types) c.readers_of.result.now c.writers_of.result.now (ap (map key_seen) c.new-types.ensures.empty) c.readers_of.ensures c.writers_of.ensures
    c.in_ok-add_readers.ensures c.in_ok-add_writers.ensures
