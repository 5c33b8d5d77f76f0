-- The codes of kinds and commands in the tables of words.
use Rattle.std.specs.Prelude.{ℕ, List, map, Option, Some, None, ◌==◌, if◌then◌else◌}
use Rattle.patch_form.specs.declared.form.Form.TheVariants.{Number, Range, Access, WriteKind, ReadAction, Index, Name, NamePath, DeviceName}
use Rattle.patch_form.specs.declared.form.KeyKind.{KeyKind}
use Rattle.patch_form.specs.declared.form.KeyKind.TheVariants.{Used, Children, PassedOver}
use Rattle.patch_form.specs.declared.word.KeyWord.{KeyWord}
use Rattle.patch_form.specs.declared.word.KeyWord.TheVariants.{Command, Ignored, Unknown, Pattern}
use Rattle.patch_form.specs.declared.word.Word.TheVariants.{Delete, Copy, Modify, Add, Strip, Array}

-- the codes of the kinds in the tables
abbrev pub kind_code : KeyKind → ℕ
kind_code (Used Number) = 0
kind_code (Used Range) = 1
kind_code (Used Access) = 2
kind_code (Used WriteKind) = 3
kind_code (Used ReadAction) = 4
kind_code (Used Index) = 5
kind_code (Used Name) = 6
kind_code (Used NamePath) = 7
kind_code (Used DeviceName) = 8
kind_code Children = 9
kind_code PassedOver = 10

abbrev pub device_code : Option KeyKind → ℕ
device_code None = 11
device_code (Some kind) = kind_code kind

abbrev pub kind_at : ℕ → Option KeyKind
kind_at code =
    if code == 0 then Some (Used Number) else if code == 1 then Some (Used Range) else if code == 2 then Some (Used Access)
    else if code == 3 then Some (Used WriteKind) else if code == 4 then Some (Used ReadAction) else if code == 5 then Some (Used Index)
    else if code == 6 then Some (Used Name) else if code == 7 then Some (Used NamePath) else if code == 8 then Some (Used DeviceName)
    else if code == 9 then Some Children else if code == 10 then Some PassedOver else None

abbrev pub word_code : KeyWord → ℕ
word_code (Command Delete) = 0
word_code (Command Copy) = 1
word_code (Command Modify) = 2
word_code (Command Add) = 3
word_code (Command Strip) = 4
word_code (Command Array) = 5
word_code Ignored = 6
word_code Unknown = 6
word_code Pattern = 6

abbrev pub word_at : ℕ → KeyWord
word_at code =
    if code == 0 then Command Delete else if code == 1 then Command Copy else if code == 2 then Command Modify
    else if code == 3 then Command Add else if code == 4 then Command Strip else if code == 5 then Command Array else Ignored

-- the rows of a table of words
abbrev pub coded : {V : Type 0} → (V → ℕ) → List (List ℕ × V) → List (List ℕ × ℕ)
coded code named = map (λ entry. (entry.0, code entry.1)) named
