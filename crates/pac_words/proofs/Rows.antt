-- Worked rows: what words ask for, computed.
use Rattle.std.proofs.Common.{◌≡◌, refl, Option, Some, None, List, [], ◌∷◌, ℕ, codes, true, false}
use Rattle.clap.proofs.OnLiterals.{clap_on_literals}
use Rattle.pac_words.specs.Commands.{command_of}
use Rattle.pac_words.specs.declared.command.Command.{Command}
use Rattle.pac_words.specs.declared.command.Command.TheVariants.{Executing, Generating, Listing, Running, Sampling}
use Rattle.pac_words.specs.declared.command.BusKind.{BusKind}
use Rattle.pac_words.specs.declared.command.BusKind.TheVariants.{Zero, Memory}

listing_of : List ℕ → Option Command
listing_of svd = Some (Listing (record { svd = svd; patch = None; strict = false }))

strictly_listing : Option Command
strictly_listing = Some (Listing (record { svd = codes "x.svd"; patch = None; strict = true }))

one_file : command_of (codes "list" ∷ codes "x.svd" ∷ []) ≡ listing_of (codes "x.svd")
unfolding clap_on_literals command_of listing_of
one_file = refl

-- behind `--` each word is a file
escaped : command_of (codes "list" ∷ codes "--" ∷ codes "--strict" ∷ []) ≡ listing_of (codes "--strict")
unfolding clap_on_literals command_of listing_of
escaped = refl

escaped_first : command_of (codes "list" ∷ codes "--" ∷ codes "x.svd" ∷ []) ≡ listing_of (codes "x.svd")
unfolding clap_on_literals command_of listing_of
escaped_first = refl

no_words : command_of [] ≡ None
unfolding clap_on_literals command_of
no_words = refl

help : command_of (codes "--help" ∷ []) ≡ None
unfolding clap_on_literals command_of
help = refl

help_behind : command_of (codes "list" ∷ codes "--help" ∷ []) ≡ None
unfolding clap_on_literals command_of
help_behind = refl

help_as_command : command_of (codes "help" ∷ []) ≡ None
unfolding clap_on_literals command_of
help_as_command = refl

unknown_option : command_of (codes "list" ∷ codes "--loose" ∷ codes "x.svd" ∷ []) ≡ None
unfolding clap_on_literals command_of
unknown_option = refl

strict_before : command_of (codes "list" ∷ codes "--strict" ∷ codes "x.svd" ∷ []) ≡ strictly_listing
unfolding clap_on_literals command_of strictly_listing
strict_before = refl

strict_behind : command_of (codes "list" ∷ codes "x.svd" ∷ codes "--strict" ∷ []) ≡ strictly_listing
unfolding clap_on_literals command_of strictly_listing
strict_behind = refl

strict_twice : command_of (codes "list" ∷ codes "x.svd" ∷ codes "--strict" ∷ codes "--strict" ∷ []) ≡ None
unfolding clap_on_literals command_of
strict_twice = refl

-- it takes no value, and each word is whole
strict_with_a_value : command_of (codes "list" ∷ codes "x.svd" ∷ codes "--strict=true" ∷ []) ≡ None
unfolding clap_on_literals command_of
strict_with_a_value = refl

part_of_strict : command_of (codes "list" ∷ codes "x.svd" ∷ codes "--str" ∷ []) ≡ None
unfolding clap_on_literals command_of
part_of_strict = refl

missing_file : command_of (codes "list" ∷ []) ≡ None
unfolding clap_on_literals command_of
missing_file = refl

two_files : command_of (codes "list" ∷ codes "x.svd" ∷ codes "y.svd" ∷ []) ≡ None
unfolding clap_on_literals command_of
two_files = refl

generated : command_of (codes "generate" ∷ codes "x.svd" ∷ []) ≡ Some (Generating (record { svd = codes "x.svd"; patch = None; strict = false }))
unfolding clap_on_literals command_of
generated = refl

generated_strictly : command_of (codes "generate" ∷ codes "x.svd" ∷ codes "--strict" ∷ []) ≡ Some (Generating (record { svd = codes "x.svd"; patch = None; strict = true }))
unfolding clap_on_literals command_of
generated_strictly = refl

-- ---- `--patch`

patched_listing : List ℕ → Option Command
patched_listing patch = Some (Listing (record { svd = codes "x.svd"; patch = Some patch; strict = false }))

patched : command_of (codes "list" ∷ codes "x.svd" ∷ codes "--patch" ∷ codes "p.yaml" ∷ []) ≡ patched_listing (codes "p.yaml")
unfolding clap_on_literals command_of patched_listing
patched = refl

patched_before : command_of (codes "list" ∷ codes "--patch=p.yaml" ∷ codes "x.svd" ∷ []) ≡ patched_listing (codes "p.yaml")
unfolding clap_on_literals command_of patched_listing
patched_before = refl

patched_twice : command_of (codes "list" ∷ codes "x.svd" ∷ codes "--patch=p" ∷ codes "--patch=q" ∷ []) ≡ None
unfolding clap_on_literals command_of
patched_twice = refl

no_patch : command_of (codes "list" ∷ codes "x.svd" ∷ codes "--patch" ∷ []) ≡ None
unfolding clap_on_literals command_of
no_patch = refl

patch_to_a_crate_text : command_of (codes "exec" ∷ codes "x.rs" ∷ codes "y" ∷ codes "--patch=p" ∷ []) ≡ None
unfolding clap_on_literals command_of
patch_to_a_crate_text = refl

generated_patched : command_of (codes "generate" ∷ codes "--patch" ∷ codes "p" ∷ codes "--strict" ∷ codes "x.svd" ∷ []) ≡ Some (Generating (record { svd = codes "x.svd"; patch = Some (codes "p"); strict = true }))
unfolding clap_on_literals command_of
generated_patched = refl

-- ---- `exec`

strict_on_a_crate_text : command_of (codes "exec" ∷ codes "x.rs" ∷ codes "y" ∷ codes "--strict" ∷ []) ≡ None
unfolding clap_on_literals command_of
strict_on_a_crate_text = refl

executing_of : BusKind → Option Command
executing_of bus = Some (Executing (codes "x.rs") (record { script = codes "y"; bus = bus }))

executed : command_of (codes "exec" ∷ codes "x.rs" ∷ codes "y" ∷ []) ≡ executing_of Zero
unfolding clap_on_literals command_of executing_of
executed = refl

over_zeros : command_of (codes "exec" ∷ codes "x.rs" ∷ codes "y" ∷ codes "--bus" ∷ codes "zero" ∷ []) ≡ executing_of Zero
unfolding clap_on_literals command_of executing_of
over_zeros = refl

over_memory : command_of (codes "exec" ∷ codes "--bus" ∷ codes "memory" ∷ codes "x.rs" ∷ codes "y" ∷ []) ≡ executing_of Memory
unfolding clap_on_literals command_of executing_of
over_memory = refl

joined_to_its_value : command_of (codes "exec" ∷ codes "x.rs" ∷ codes "--bus=memory" ∷ codes "y" ∷ []) ≡ executing_of Memory
unfolding clap_on_literals command_of executing_of
joined_to_its_value = refl

-- no word chooses a device, and each word is whole
no_device : command_of (codes "exec" ∷ codes "x.rs" ∷ codes "y" ∷ codes "--bus=device" ∷ []) ≡ None
unfolding clap_on_literals command_of
no_device = refl

no_part_of_a_word : command_of (codes "exec" ∷ codes "x.rs" ∷ codes "y" ∷ codes "--bus=mem" ∷ []) ≡ None
unfolding clap_on_literals command_of
no_part_of_a_word = refl

no_value : command_of (codes "exec" ∷ codes "x.rs" ∷ codes "y" ∷ codes "--bus" ∷ []) ≡ None
unfolding clap_on_literals command_of
no_value = refl

two_buses : command_of (codes "exec" ∷ codes "x.rs" ∷ codes "y" ∷ codes "--bus=zero" ∷ codes "--bus=zero" ∷ []) ≡ None
unfolding clap_on_literals command_of
two_buses = refl

no_script : command_of (codes "exec" ∷ codes "x.rs" ∷ []) ≡ None
unfolding clap_on_literals command_of
no_script = refl

a_bus_that_lists : command_of (codes "list" ∷ codes "x.svd" ∷ codes "--bus=zero" ∷ []) ≡ None
unfolding clap_on_literals command_of
a_bus_that_lists = refl

-- ---- `run`

run_over_memory : command_of (codes "run" ∷ codes "x.svd" ∷ codes "--bus" ∷ codes "memory" ∷ codes "y" ∷ []) ≡ Some (Running (record { svd = codes "x.svd"; patch = None; strict = false }) (record { script = codes "y"; bus = Memory }))
unfolding clap_on_literals command_of
run_over_memory = refl

run_strictly : command_of (codes "run" ∷ codes "x.svd" ∷ codes "y" ∷ codes "--strict" ∷ []) ≡ Some (Running (record { svd = codes "x.svd"; patch = None; strict = true }) (record { script = codes "y"; bus = Zero }))
unfolding clap_on_literals command_of
run_strictly = refl

run_without_script : command_of (codes "run" ∷ codes "x.svd" ∷ []) ≡ None
unfolding clap_on_literals command_of
run_without_script = refl

-- ---- `sample`

sampled : command_of (codes "sample" ∷ codes "5" ∷ codes "2" ∷ []) ≡ Some (Sampling (codes "5") (codes "2"))
unfolding clap_on_literals command_of
sampled = refl

-- its words are read as numbers later
no_numbers : command_of (codes "sample" ∷ codes "x" ∷ codes "0" ∷ []) ≡ Some (Sampling (codes "x") (codes "0"))
unfolding clap_on_literals command_of
no_numbers = refl

sample_without_count : command_of (codes "sample" ∷ codes "5" ∷ []) ≡ None
unfolding clap_on_literals command_of
sample_without_count = refl

sample_with_a_bus : command_of (codes "sample" ∷ codes "5" ∷ codes "2" ∷ codes "--bus=zero" ∷ []) ≡ None
unfolding clap_on_literals command_of
sample_with_a_bus = refl

no_command : command_of (codes "simple" ∷ codes "0" ∷ codes "1" ∷ []) ≡ None
unfolding clap_on_literals command_of
no_command = refl
