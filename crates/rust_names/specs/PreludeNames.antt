-- The names that the prelude `crate::generic` of a generated crate takes (this project's own, after the register API that svd2rust documents).
use Rattle.std.specs.Prelude.{ℕ, List, [], ◌∷◌, Bool, codes}
use Rattle.std.specs.List.{list_any}
use Rattle.std.specs.Str.{bytes_eq}

-- those of version 1 of the crate text
abbrev pub first_names : List (List ℕ)
first_names =
    codes "at" ∷ codes "at_index" ∷ codes "bit" ∷ codes "bit_is_clear" ∷ codes "bit_is_set" ∷
    codes "bits" ∷ codes "clear_bit" ∷ codes "clear_bit_by_one" ∷ codes "generic" ∷
    codes "modify" ∷ codes "new" ∷ codes "read" ∷ codes "reset" ∷ codes "set_bit" ∷
    codes "set_bit_by_zero" ∷ codes "toggle_bit" ∷ codes "write" ∷ codes "write_with_zero" ∷ []

-- those of version 2, which has one more
abbrev pub prelude_names : List (List ℕ)
prelude_names = codes "at_bit" ∷ first_names

unfoldable pub is_prelude_name : List ℕ → Bool
is_prelude_name word = list_any (bytes_eq word) prelude_names
