-- The command table, as `clap` reads it: a subcommand for each command that is built. This project's own command line.
use Rattle.std.specs.Prelude.{List, [], ◌∷◌, ◌++◌, Some, true, false, codes}
use Rattle.clap.specs.Words.{App, Rule, Shape, Text, new_rule}
use Rattle.clap.specs.Simple.{new_shape}
use Rattle.clap.specs.declared.builder.action.ArgAction.TheVariants.{SetTrue}

-- a word that has to be given: a file, or a number
abbrev pub file : Text → Rule
file id = record (new_rule id) { required = true }

-- an option with one value
abbrev pub option : Text → Rule
option id = record (new_rule id) { long = Some id }

-- an option without a value
abbrev pub flag : Text → Rule
flag id = record (new_rule id) { long = Some id; action = Some SetTrue }

-- a command of this name, with these arguments
abbrev pub command : Text → List Rule → Shape
command name rules = record (new_shape name) { rules = rules }

-- the arguments that tell of a description: its file, a patch to it, and whether overlaps are refused
abbrev pub source : List Rule
source = file (codes "svd") ∷ option (codes "patch") ∷ flag (codes "strict") ∷ []

-- a command over a description
abbrev pub described : Text → App
described name = record { top = command name source; subs = [] }

abbrev pub list : Shape
list = command (codes "list") source

abbrev pub generate : Shape
generate = command (codes "generate") source

abbrev pub exec : Shape
exec = command (codes "exec") (file (codes "crate") ∷ file (codes "script") ∷ option (codes "bus") ∷ [])

abbrev pub run : Shape
run = command (codes "run") (source ++ file (codes "script") ∷ option (codes "bus") ∷ [])

abbrev pub sample : Shape
sample = command (codes "sample") (file (codes "number") ∷ file (codes "count") ∷ [])

-- one of these commands has to be chosen, and no word asks for help
abbrev pub commands : List Shape → App
commands subs = record {
  top = record (new_shape (codes "pac")) {
    is_leaf = false;
    no_binary_name = true;
    disable_help_flag = true;
    disable_help_subcommand = true;
    subcommand_required = true;
  };
  subs = subs;
}

-- the commands that print a description
abbrev pub printing : List Shape
printing = list ∷ generate ∷ []

-- these and the commands that run a script
abbrev pub scripted : List Shape
scripted = printing ++ exec ∷ run ∷ []

abbrev pub table : App
table = commands (scripted ++ sample ∷ [])
