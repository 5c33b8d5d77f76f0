-- The words of a patch: its commands, and the keys of elements (svdtools' patch commands and CMSIS-SVD 1.3, narrowed).
use Rattle.std.specs.Prelude.{ℕ, List, [], ◌∷◌, Option, Some, None, codes, ◌==◌, if◌then◌else◌}
use Rattle.std.specs.Map.{lookup}
use Rattle.std.specs.Str.{bytes_eq}
use Rattle.patch_form.specs.declared.form.Form.TheVariants.{Number, Range, Access, WriteKind, ReadAction, Index, Name, NamePath, DeviceName}
use Rattle.patch_form.specs.declared.form.KeyKind.{KeyKind}
use Rattle.patch_form.specs.declared.form.KeyKind.TheVariants.{Used, Children, PassedOver}
use Rattle.patch_form.specs.declared.word.KeyWord.{KeyWord}
use Rattle.patch_form.specs.declared.word.KeyWord.TheVariants.{Command, Ignored, Unknown, Pattern}
use Rattle.patch_form.specs.declared.word.Word.TheVariants.{Delete, Copy, Modify, Add, Strip, Array}

-- a key with `_` at its front is a command, `_svd` or unknown; any other is a pattern
unfoldable pub key_words : List (List ℕ × KeyWord)
key_words =
    (codes "_add", Command Add) ∷ (codes "_array", Command Array) ∷ (codes "_copy", Command Copy) ∷ (codes "_delete", Command Delete)
    ∷ (codes "_modify", Command Modify) ∷ (codes "_strip", Command Strip) ∷ (codes "_svd", Ignored) ∷ []

abbrev pub other_word : List ℕ → KeyWord
other_word [] = Pattern
other_word (first ∷ rest) = if first == 95 then Unknown else Pattern

abbrev pub word_or_other : Option KeyWord → List ℕ → KeyWord
word_or_other (Some word) key = word
word_or_other None key = other_word key

unfoldable pub key_word : List ℕ → KeyWord
key_word key = word_or_other (lookup (bytes_eq key) key_words) key

-- the keys of elements that a patch uses, and those that it passes over, in the order of their bytes
unfoldable pub element_keys : List (List ℕ × KeyKind)
element_keys =
    (codes "access", Used Access) ∷ (codes "addressBlock", PassedOver) ∷ (codes "addressBlocks", PassedOver) ∷ (codes "addressOffset", Used Number)
    ∷ (codes "addressUnitBits", PassedOver) ∷ (codes "alternateCluster", Used Name) ∷ (codes "alternateGroup", Used Name) ∷ (codes "alternatePeripheral", PassedOver)
    ∷ (codes "alternateRegister", Used Name) ∷ (codes "baseAddress", Used Number) ∷ (codes "bitOffset", Used Number) ∷ (codes "bitRange", Used Range)
    ∷ (codes "bitWidth", Used Number) ∷ (codes "cpu", PassedOver) ∷ (codes "derivedFrom", Used NamePath) ∷ (codes "description", PassedOver)
    ∷ (codes "dim", Used Number) ∷ (codes "dimIncrement", Used Number) ∷ (codes "dimIndex", Used Index) ∷ (codes "displayName", PassedOver)
    ∷ (codes "fields", Children) ∷ (codes "from", Used Name) ∷ (codes "groupName", PassedOver) ∷ (codes "interrupts", PassedOver)
    ∷ (codes "lsb", Used Number) ∷ (codes "modifiedWriteValues", Used WriteKind) ∷ (codes "msb", Used Number) ∷ (codes "name", Used Name)
    ∷ (codes "protection", PassedOver) ∷ (codes "readAction", Used ReadAction) ∷ (codes "registers", Children) ∷ (codes "resetMask", Used Number)
    ∷ (codes "resetValue", Used Number) ∷ (codes "size", Used Number) ∷ (codes "vendor", PassedOver) ∷ (codes "version", PassedOver)
    ∷ (codes "width", PassedOver) ∷ (codes "writeConstraint", PassedOver) ∷ []

unfoldable pub key_kind : List ℕ → Option KeyKind
key_kind key = lookup (bytes_eq key) element_keys

-- The keys of the device, by the description's row of `device`: those that a patch uses or passes over, and others that it doesn't know.
unfoldable pub device_keys : List (List ℕ × Option KeyKind)
device_keys =
    (codes "access", Some (Used Access)) ∷ (codes "addressUnitBits", Some PassedOver) ∷ (codes "cpu", Some PassedOver) ∷ (codes "description", Some PassedOver)
    ∷ (codes "headerDefinitionsPrefix", None) ∷ (codes "headerSystemFilename", None) ∷ (codes "licenseText", None) ∷ (codes "name", Some (Used DeviceName))
    ∷ (codes "peripherals", None) ∷ (codes "protection", Some PassedOver) ∷ (codes "resetMask", Some (Used Number)) ∷ (codes "resetValue", Some (Used Number))
    ∷ (codes "series", None) ∷ (codes "size", Some (Used Number)) ∷ (codes "vendor", Some PassedOver) ∷ (codes "vendorExtensions", None)
    ∷ (codes "vendorID", None) ∷ (codes "version", Some PassedOver) ∷ (codes "width", Some PassedOver) ∷ []

unfoldable pub device_key : List ℕ → Option (Option KeyKind)
device_key key = lookup (bytes_eq key) device_keys
