use Rattle.svd_keys.specs.Forms.{action_of}
use Rattle.svd_keys.proofs.Exactly.{same_by, action-exactly}
use Rattle.patch_settings.proofs.form.action.Goals as goal

pub returns : goal.returns
returns c = same_by c.read_action.result (action_of c.args.text.now) _ c.read_action.ensures (action-exactly c.args.text.now)
