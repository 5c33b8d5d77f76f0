-- The next entry goes last, since no two have one key.
use Rattle.std.specs.Vec.Iter.{into_iter_items}
use Rattle.patch_arrays.proofs.Refilled.{refilled-more}
use Rattle.patch_arrays.proofs.shelf.put_back.Goals as goal

pub loop-key-preserved-in_ok-insert : goal.loop-key-preserved-in_ok-insert
loop-key-preserved-in_ok-insert g c =
    refilled-more c.args.entries.items c.loop-key.made.entries (into_iter_items c.loop-key.key-iterator) (c.in-Some.key, c.in-Some.value) (into_iter_items c.next.new.self) c.insert.new.self.entries c.requires c.loop-key.invariant c.in-Some.ensures.steps.0 c.in_ok-insert.ensures.entries

pub loop-key-preserved : goal.loop-key-preserved
loop-key-preserved g c =
    refilled-more c.args.entries.items c.loop-key.made.entries (into_iter_items c.loop-key.key-iterator) (c.in-Some.key, c.in-Some.value) (into_iter_items c.next.new.self) c.insert.new.self.entries c.requires c.loop-key.invariant c.in-Some.ensures.steps.0 c.in_ok-insert.ensures.entries
