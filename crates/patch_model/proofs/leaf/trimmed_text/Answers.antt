use Rattle.std.proofs.Common.{Err, ap, subst, sym}
use Rattle.std.specs.Str.{IsUtf8}
use Rattle.patch_model.proofs.TrimmedTexts.{trimmed_utf8}
use Rattle.patch_model.proofs.leaf.trimmed_text.Goals as goal

pub unreachable-requires : goal.unreachable-requires
unreachable-requires c =
    c.in-Err-NotUtf8.ensures.refused.0 (ap Err c.in-Err-NotUtf8.field-0-is) (subst IsUtf8 (sym c.trimmed.ensures) (trimmed_utf8 c.as_bytes.result.now c.as_bytes.ensures.utf8))
