-- A byte that isn't held is written behind the others.
use Rattle.std.proofs.Common.{rules}
use Rattle.std.specs.BTreeMap as tree
use Rattle.std.specs.Ordering.{nat_cmp}
use Rattle.pac_bus.proofs.Bytes.{put_new}
use Rattle.pac_bus.proofs.store.Store.put.Goals as goal

pub returns-clause-memory : goal.returns-clause-memory
returns-clause-memory c = put_new (tree.get nat_cmp c.args.self.now.held) c.args.self.now.written.items c.push.new.self.items c.args.address c.args.byte (search rules) (search rules)
