-- What the words after the program's name ask for: `clap`'s definition over the command table. This project's own command line.
use Rattle.std.specs.Prelude.{List, [], ◌∷◌, Bool, true, false, not, ◌||◌, Option, Some, None, IsTrue, codes, if◌then◌else◌, is_some, option_map, option_and_then}
use Rattle.std.specs.Option.{option_map_or}
use Rattle.std.specs.Str.{bytes_eq}
use Rattle.clap.specs.Words.{Kinds, Row, Text, fault_of, first_of, subcommand_of}
use Rattle.pac_words.specs.Table.{table}
use Rattle.pac_words.specs.declared.command.Command.{Command}
use Rattle.pac_words.specs.declared.command.Command.TheVariants.{Executing, Generating, Listing, Running, Sampling}
use Rattle.pac_words.specs.declared.command.BusKind.{BusKind}
use Rattle.pac_words.specs.declared.command.BusKind.TheVariants.{Zero, Memory}
use Rattle.pac_words.specs.declared.command.Run.{Run}
use Rattle.pac_words.specs.declared.command.Source.{Source}

-- an option without a value is given
abbrev pub is_set : Text → List Row → Bool
is_set id rows = option_map_or (λ word. bytes_eq word (codes "true")) (first_of id rows) false

-- the files of a description, by what was found for the arguments
abbrev pub source_of : List Row → Option Source
source_of rows = option_map (λ svd. record { svd = svd; patch = first_of (codes "patch") rows; strict = is_set (codes "strict") rows }) (first_of (codes "svd") rows)

abbrev pub listing : List Row → Option Command
listing rows = option_map Listing (source_of rows)

abbrev pub generating : List Row → Option Command
generating rows = option_map Generating (source_of rows)

-- the kind of bus that a word names
abbrev pub kind_of : Text → Option BusKind
kind_of word = if bytes_eq word (codes "zero") then Some Zero else (if bytes_eq word (codes "memory") then Some Memory else None)

-- the kind of bus that is chosen: zeros where no word chooses one
abbrev pub chosen_kind : Option Text → Option BusKind
chosen_kind None = Some Zero
chosen_kind (Some word) = kind_of word

abbrev pub bus_of : List Row → Option BusKind
bus_of rows = chosen_kind (first_of (codes "bus") rows)

-- a script and its bus, by what was found for the arguments
abbrev pub run_of : List Row → Option Run
run_of rows = option_and_then (λ script. option_map (λ bus. record { script = script; bus = bus }) (bus_of rows)) (first_of (codes "script") rows)

abbrev pub executing : List Row → Option Command
executing rows = option_and_then (λ krate. option_map (λ run. Executing krate run) (run_of rows)) (first_of (codes "crate") rows)

abbrev pub running : List Row → Option Command
running rows = option_and_then (λ source. option_map (λ run. Running source run) (run_of rows)) (source_of rows)

abbrev pub sampling : List Row → Option Command
sampling rows = option_and_then (λ number. option_map (λ count. Sampling number count) (first_of (codes "count") rows)) (first_of (codes "number") rows)

-- the command of this name, by what was found for its arguments
abbrev pub told : Text → List Row → Option Command
told name rows = if bytes_eq name (codes "list") then listing rows else (if bytes_eq name (codes "generate") then generating rows else (if bytes_eq name (codes "exec") then executing rows else (if bytes_eq name (codes "run") then running rows else (if bytes_eq name (codes "sample") then sampling rows else None))))

-- the command of the subcommand that was met
abbrev pub chosen : Option (Text × List Row) → Option Command
chosen = option_and_then (λ met. told met.0 met.1)

-- what there is where there is no fault
abbrev pub without_fault : {X : Type 0} → Kinds → Option X → Option X
without_fault [] given = given
without_fault (kind ∷ kinds) given = None

-- a command of this name runs a script
abbrev pub runs_script : Text → Bool
runs_script name = bytes_eq name (codes "exec") || bytes_eq name (codes "run")

-- `--bus` names a bus, where a command that runs a script is given it
abbrev pub NamesBus : List Text → Type 0
NamesBus words = IsTrue (option_map_or (λ met. not (runs_script met.0) || is_some (bus_of met.1)) (subcommand_of table words) true)

-- what the words ask for: nothing exactly where `clap` finds a fault in them, or `--bus` names no bus
unfoldable pub command_of : List Text → Option Command
command_of words = without_fault (fault_of table words) (chosen (subcommand_of table words))
