-- What stands of the text that `generate` writes: it is the text of one crate, which stands for the register table of the description (this project's own).
use Rattle.std.specs.Prelude.{ℕ, ◌≡◌, List, [], ◌∷◌, Option, Some, None, true, ⊤}
use Rattle.std.specs.Io.KnownBytes.{Appends}
use Rattle.crate_form.specs.Forms.{HasForm}
use Rattle.frag_emit.specs.Standing.{StandsFor}
use Rattle.frag_tree.specs.Crates.{Parses, printed}
use Rattle.frag_tree.specs.Trees.{CrateTree}
use Rattle.frag_tree.specs.Validity.{valid_crate}
use Rattle.pac_cli.specs.Inputs.{files_of}
use Rattle.pac_cli.specs.Resolving.{ComeTo, SourceBytes, bytes_of, resolved}
use Rattle.pac_inputs.specs.Gathering.{FileMap, Gathered, inputs_are}
use Rattle.pac_words.specs.declared.command.Command.{Command}
use Rattle.pac_words.specs.declared.command.Command.TheVariants.{Executing, Generating, Listing, Running, Sampling}
use Rattle.svd_model.specs.Keys.{Key}
use Rattle.svd_model.specs.Steps.{Step}
use Rattle.svd_rows.specs.Rows.{Row}

-- The bytes are the printed form of a crate, and parse as no other. The crate has the form that the description's rows ask for, and stands for them: it types; what it offers to scripts is what the register table offers; and each script makes against it, whatever the bus answers are, the accesses that the table gives.
pub record IsTextFor (source : SourceBytes) (bytes : List ℕ) : Type 0 where
  pub rows : List (Row Step Key)
  pub comes : ComeTo source (resolved rows)
  pub krate : CrateTree
  pub valid : valid_crate krate ≡ true
  pub printed_as : bytes ≡ printed krate
  pub parses : Parses bytes krate
  pub only : (other : CrateTree) → valid_crate other ≡ true → Parses bytes other → other ≡ krate
  pub form : HasForm rows krate
  pub stands : StandsFor rows krate

-- an output grew by such bytes
pub record WritesTextFor (source : SourceBytes) (old new : Option (List ℕ)) : Type 0 where
  pub bytes : List ℕ
  pub text : IsTextFor source bytes
  pub appended : Appends old new bytes

-- the same of a command that prints a crate text, with these inputs; of another command nothing is said
abbrev pub WritesText : Command → List (List ℕ) → Option (List ℕ) → Option (List ℕ) → Type 0
WritesText (Listing source) inputs old new = ⊤
WritesText (Executing krate run) inputs old new = ⊤
WritesText (Running source run) inputs old new = ⊤
WritesText (Sampling number count) inputs old new = ⊤
WritesText (Generating source) (svd ∷ []) old new = WritesTextFor (bytes_of source svd None) old new
WritesText (Generating source) (svd ∷ patch ∷ []) old new = WritesTextFor (bytes_of source svd (Some patch)) old new
WritesText (Generating source) _ old new = ⊥

-- the inputs of a command, which told files have, and the text that it writes
pub record HasText (command : Command) (told : Option FileMap) (old new : Option (List ℕ)) : Type 0 where
  pub inputs : List (List ℕ)
  pub gathered : Gathered told (files_of command) (inputs_are inputs)
  pub writes : WritesText command inputs old new

-- the same of the command that words ask for
abbrev pub WordsHaveText : Option Command → Option FileMap → Option (List ℕ) → Option (List ℕ) → Type 0
WordsHaveText None told old new = ⊤
WordsHaveText (Some command) told old new = HasText command told old new
