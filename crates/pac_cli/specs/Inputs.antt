-- The files that a command reads, in order, and how long each may be. This project's own rule.
use Rattle.std.specs.Prelude.{ℕ, List, [], ◌∷◌, ◌++◌, Option, Some, None}
use Rattle.pac_cli.specs.Resolving.{longest}
use Rattle.pac_words.specs.declared.command.Command.{Command}
use Rattle.pac_words.specs.declared.command.Command.TheVariants.{Executing, Generating, Listing, Running, Sampling}
use Rattle.pac_words.specs.declared.command.Run.{Run}
use Rattle.pac_words.specs.declared.command.Source.{Source}
use Rattle.pac_inputs.specs.declared.gathering.Wanted.{Wanted}

-- how many bytes a crate text may have: 256 MiB
abbrev pub longest_crate : ℕ
longest_crate = 268435456

-- the patch, where there is one
abbrev pub patch_files : Option (List ℕ) → List Wanted
patch_files None = []
patch_files (Some name) = record { name = name; limit = longest } ∷ []

-- the files that a description comes from
abbrev pub source_files : Source → List Wanted
source_files source = record { name = source.svd; limit = longest } ∷ patch_files source.patch

-- the script of a run
abbrev pub script_file : Run → Wanted
script_file run = record { name = run.script; limit = longest }

-- a crate text, and the script that is run against it
abbrev pub execution_files : List ℕ → Run → List Wanted
execution_files krate run = record { name = krate; limit = longest_crate } ∷ script_file run ∷ []

-- those of a description, and the script that is run against its crate text
abbrev pub run_files : Source → Run → List Wanted
run_files source run = source_files source ++ script_file run ∷ []

-- the files of a command, in the order in which it reads them
abbrev pub files_of : Command → List Wanted
files_of (Listing source) = source_files source
files_of (Generating source) = source_files source
files_of (Executing krate run) = execution_files krate run
files_of (Running source run) = run_files source run
files_of (Sampling number count) = []

-- those of no command are none
abbrev pub wanted_by : Option Command → List Wanted
wanted_by None = []
wanted_by (Some command) = files_of command
