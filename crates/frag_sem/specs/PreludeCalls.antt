-- The calls of the prelude `crate::generic` of a crate text (this project's own, after the register API that svd2rust documents).
use Rattle.std.specs.Prelude.{ℕ, Bool, true, false, List, [], ◌∷◌, codes}
use Rattle.std.specs.List.{list_any}
use Rattle.std.specs.Str.{bytes_eq}
use Rattle.frag_tree.specs.declared.krate.Version.{Version}
use Rattle.frag_tree.specs.declared.krate.Version.TheVariants.{One, Two}
use Rattle.frag_tree.specs.declared.register.BitKind.{BitKind}
use Rattle.frag_tree.specs.declared.register.BitKind.TheVariants as kind
use Rattle.frag_tree.specs.declared.register.TruthCall.{TruthCall}
use Rattle.rust_names.specs.PreludeNames.{first_names, prelude_names}

-- the names that the prelude of a version takes
abbrev pub names_taken : Version → List (List ℕ)
names_taken One = first_names
names_taken Two = prelude_names

unfoldable pub is_prelude_name : Version → List ℕ → Bool
is_prelude_name version name = list_any (bytes_eq name) (names_taken version)

abbrev pub truth_call : List ℕ → Bool → TruthCall
truth_call name value = record { name = name; value = value }

-- the calls of `BitReader` that compare the bit, beside `bit`, which gives it
abbrev pub bit_tests : List TruthCall
bit_tests = truth_call (codes "bit_is_set") true ∷ truth_call (codes "bit_is_clear") false ∷ []

-- the calls of a bit's writer that write what they say, beside `bit`, which takes what it writes
abbrev pub bit_writes : BitKind → List TruthCall
bit_writes kind.Plain = truth_call (codes "set_bit") true ∷ truth_call (codes "clear_bit") false ∷ []
bit_writes kind.OneToSet = truth_call (codes "set_bit") true ∷ []
bit_writes kind.ZeroToClear = truth_call (codes "clear_bit") false ∷ []
bit_writes kind.OneToClear = truth_call (codes "clear_bit_by_one") true ∷ []
bit_writes kind.ZeroToSet = truth_call (codes "set_bit_by_zero") false ∷ []
bit_writes kind.OneToToggle = truth_call (codes "toggle_bit") true ∷ []
bit_writes kind.ZeroToToggle = truth_call (codes "toggle_bit") false ∷ []
