-- The words that a description's elements may hold (CMSIS-SVD 1.3 schema: accessType,
-- modifiedWriteValuesType, readActionType, enumUsageType). Case counts.
use Rattle.std.specs.Prelude.{ℕ, List, codes}
use Rattle.svd_values.specs.declared.schema_word.Access.{Access}
use Rattle.svd_values.specs.declared.schema_word.WriteKind.{WriteKind}
use Rattle.svd_values.specs.declared.schema_word.ReadAction.{ReadAction}
use Rattle.svd_values.specs.declared.schema_word.Usage.{Usage}
use Rattle.svd_values.specs.declared.schema_word.Access.TheVariants as access
use Rattle.svd_values.specs.declared.schema_word.WriteKind.TheVariants as kind
use Rattle.svd_values.specs.declared.schema_word.ReadAction.TheVariants as action
use Rattle.svd_values.specs.declared.schema_word.Usage.TheVariants as usage

abbrev pub access_text : Access → List ℕ
access_text access.ReadOnly = codes "read-only"
access_text access.WriteOnly = codes "write-only"
access_text access.ReadWrite = codes "read-write"
access_text access.WriteOnce = codes "writeOnce"
access_text access.ReadWriteOnce = codes "read-writeOnce"

abbrev pub write_kind_text : WriteKind → List ℕ
write_kind_text kind.OneToClear = codes "oneToClear"
write_kind_text kind.OneToSet = codes "oneToSet"
write_kind_text kind.OneToToggle = codes "oneToToggle"
write_kind_text kind.ZeroToClear = codes "zeroToClear"
write_kind_text kind.ZeroToSet = codes "zeroToSet"
write_kind_text kind.ZeroToToggle = codes "zeroToToggle"
write_kind_text kind.Clear = codes "clear"
write_kind_text kind.Set = codes "set"
write_kind_text kind.Modify = codes "modify"

abbrev pub read_action_text : ReadAction → List ℕ
read_action_text action.Clear = codes "clear"
read_action_text action.Set = codes "set"
read_action_text action.Modify = codes "modify"
read_action_text action.ModifyExternal = codes "modifyExternal"

abbrev pub usage_text : Usage → List ℕ
usage_text usage.Read = codes "read"
usage_text usage.Write = codes "write"
usage_text usage.ReadWrite = codes "read-write"
