use Rattle.pac_fault.specs.PatchTexts.{patch_text}
use Rattle.pac_fault.proofs.patch_text.push_patch.Goals as goal

pub returns-in-CopyMissing : goal.returns-in-CopyMissing
unfolding patch_text
returns-in-CopyMissing c = rw (c.in-CopyMissing.is, ← c.bytes-in-CopyMissing.ensures.same) c.push_both-in-CopyMissing.ensures

pub returns-in-StripClash : goal.returns-in-StripClash
unfolding patch_text
returns-in-StripClash c = rw (c.in-StripClash.is, ← c.bytes-in-StripClash.ensures.same, ← c.bytes-in-StripClash-2.ensures.same) c.push_names.ensures

pub returns-in-ArrayUneven : goal.returns-in-ArrayUneven
unfolding patch_text
returns-in-ArrayUneven c = rw (c.in-ArrayUneven.is, ← c.bytes-in-ArrayUneven.ensures.same, ← c.bytes-in-ArrayUneven-2.ensures.same) c.push_names-in-ArrayUneven.ensures

pub returns-in-ArrayUnlike : goal.returns-in-ArrayUnlike
unfolding patch_text
returns-in-ArrayUnlike c = rw (c.in-ArrayUnlike.is, ← c.bytes-in-ArrayUnlike.ensures.same, ← c.bytes-in-ArrayUnlike-2.ensures.same) c.push_names-in-ArrayUnlike.ensures
