use Rattle.std.proofs.Common.{map}
use Rattle.frag_sem.specs.ProxyTypes.{reader_type}
use Rattle.frag_tree.specs.declared.register.Reader.{Reader}
use Rattle.frag_rules.specs.Keys.{key_of, types_seen}
use Rattle.frag_rules.proofs.ByName.{none-left}
use Rattle.frag_rules.proofs.Keys.{added-all, added-more}
use Rattle.frag_rules.proofs.proxy.add_readers.Goals as goal

pub loop-first-preserved : goal.loop-first-preserved
loop-first-preserved c =
    added-more (λ (reader : Reader). key_of (reader_type reader)) (types_seen c.args.types.now) c.loop-first.types.keys c.insert.new.self.keys c.key_of_reader.result c.loop-first.rest.now c.in-Some.others.now c.args.readers.now c.in-Some.first.now
    c.in-Some.ensures.cases.0 c.key_of_reader.ensures c.in_ok-insert.ensures.keys c.loop-first.invariant

pub returns : goal.returns
returns c = added-all (λ (reader : Reader). key_of (reader_type reader)) (types_seen c.args.types.now) (types_seen c.loop-first.types) c.loop-first.rest.now c.args.readers.now (none-left _ c.in_default.ensures.cases) c.loop-first.invariant
