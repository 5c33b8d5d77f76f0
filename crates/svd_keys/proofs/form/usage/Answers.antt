use Rattle.svd_keys.specs.Forms.{usage_of}
use Rattle.svd_keys.proofs.Exactly.{same_by, usage-exactly}
use Rattle.svd_keys.proofs.form.usage.Goals as goal

pub returns : goal.returns
returns c = same_by c.usage_word.result (usage_of c.args.text.now) _ c.usage_word.ensures (usage-exactly c.args.text.now)
