use Rattle.std.proofs.Common.{arith}
use Rattle.patch_settings.proofs.Gathering.{gathered-end, gathered-more, gathered-start}
use Rattle.patch_settings.specs.Places.{places}
use Rattle.patch_settings.proofs.settings.Settings.of.Goals as goal

pub loop-entry-init : goal.loop-entry-init
loop-entry-init c = gathered-start c.args.held c.args.keys.now (places c.none-made.result) c.none-made.ensures

pub loop-entry-preserved : goal.loop-entry-preserved
loop-entry-preserved c =
    gathered-more c.args.held c.args.keys.now (places c.loop-entry.made) (places c.put_entry.new.self) c.loop-entry.entry-index c.entry-item.result c.loop-entry-test.true c.entry-item.is c.in_ok-put_entry.ensures c.loop-entry.invariant

pub returns : goal.returns
returns c =
    gathered-end c.args.held c.args.keys.now (places c.loop-entry.made) (places c.put_place.new.self) c.loop-entry.entry-index c.place_in.result (omega arith) c.place_in.ensures c.put_place.ensures c.loop-entry.invariant
