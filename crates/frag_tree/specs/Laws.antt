-- The laws of the words of a crate text.
use Rattle.std.specs.Prelude.{ℕ, ◌≡◌, List, Some, true}
use Rattle.std.specs.List.{flat_map}
use Rattle.frag_words.specs.Words.{words_in}
use Rattle.frag_tree.specs.Crates.{Parses, parts_of, printed, crate_words}
use Rattle.frag_tree.specs.ModuleProductions.{read_crate}
use Rattle.frag_tree.specs.Trees.{CrateTree}
use Rattle.frag_tree.specs.Validity.{valid_crate}

-- The words of the printed form of a valid crate are the words of its productions, one after the other.
abbrev pub WordsOfPrinted : Type 0
WordsOfPrinted = (krate : CrateTree) → valid_crate krate ≡ true → words_in (printed krate) ≡ crate_words krate

-- The parts of a crate, one behind the other, are its printed form.
abbrev pub PartsArePrinted : Type 0
PartsArePrinted = (krate : CrateTree) → flat_map (λ part. part) (parts_of krate) ≡ printed krate

-- At most one valid crate fits a text.
abbrev pub OneCrate : Type 0
OneCrate = (bytes : List ℕ) (one other : CrateTree) → valid_crate one ≡ true → valid_crate other ≡ true → Parses bytes one → Parses bytes other → one ≡ other

-- The reader of crates gives the valid crate that a text parses as.
abbrev pub ReadsParsed : Type 0
ReadsParsed = (bytes : List ℕ) (krate : CrateTree) → valid_crate krate ≡ true → Parses bytes krate → read_crate (words_in bytes) ≡ Some krate

-- What the reader of crates gives is a valid crate that the text parses as.
abbrev pub ParsesRead : Type 0
ParsesRead = (bytes : List ℕ) (krate : CrateTree) → read_crate (words_in bytes) ≡ Some krate → Parses bytes krate × (valid_crate krate ≡ true)
