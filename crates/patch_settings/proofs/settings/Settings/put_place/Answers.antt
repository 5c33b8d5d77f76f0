use Rattle.patch_settings.proofs.Putting.{place-put}
use Rattle.patch_settings.proofs.settings.Settings.put_place.Goals as goal

pub returns : goal.returns
returns c = place-put c.args.self.now c.args.place c.put.new.place c.put-2.new.place c.put.ensures c.put-2.ensures
