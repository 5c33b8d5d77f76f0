-- From what `clap` answers to the words to the command that they ask for.
use Rattle.std.proofs.Common.{◌≡◌, ◌⊎◌, inl, inr, ap, ap₂, sym, refl, Option, Some, None, List, [], ◌∷◌, option_map, true, ◌∙◌}
use Rattle.clap.specs.Words.{App, HasMatchesOf, IsAmong, Kinds, Row, Text, fault_of, is_simple, is_simple_and_free, subcommand_name_of, subcommand_of, subcommand_rows_of}
use Rattle.clap.specs.declared.parser.matches.ArgMatches.{ArgMatches}
use Rattle.clap.specs.declared.parser.matches.ArgMatches.TheViews.{out-ArgMatches}
use Rattle.clap.specs.declared.error.kind.ErrorKind.{ErrorKind}
use Rattle.clap.specs.declared.error.kind.ErrorKind.TheVariants.{OutOfMemory}
use Rattle.clap.proofs.OnLiterals.{clap_on_literals}
use Rattle.pac_words.specs.Table.{table}
use Rattle.pac_words.specs.Commands.{chosen, command_of, without_fault}

pub is_ready : is_simple_and_free table ≡ true
unfolding clap_on_literals
is_ready = refl

pub is_plain : is_simple table ≡ true
unfolding clap_on_literals
is_plain = refl

without_fault-some : {X : Type 0} (kind : ErrorKind) (kinds : Kinds) (given : Option X) → IsAmong kind kinds → without_fault kinds given ≡ None
without_fault-some kind [] given among = absurd among
without_fault-some kind (first ∷ kinds) given among = refl

-- a fault that isn't want of memory
pub refused : (app : App) (given words : List Text) (kind : ErrorKind) → app ≡ table → given ≡ words
    → (is_simple_and_free app ≡ true → (kind ≡ OutOfMemory) ⊎ IsAmong kind (fault_of app given)) → (kind ≡ OutOfMemory → ⊥)
    → command_of words ≡ None
unfolding command_of
refused app given words kind is_table same faults other =
    elim (faults (ap is_simple_and_free is_table ∙ is_ready)) [
      | inl memory ↦ absurd (other memory)
      | inr among ↦ ap (λ kinds. without_fault kinds (chosen (subcommand_of table words))) (sym (ap₂ fault_of is_table same))
          ∙ without_fault-some kind (fault_of app given) (chosen (subcommand_of table words)) among
    ]

-- no fault: the command is what the subcommand's name and values tell
pub accepted : (app : App) (given words : List Text) (m : ArgMatches) → app ≡ table → given ≡ words
    → (is_simple_and_free app ≡ true → fault_of app given ≡ []) → HasMatchesOf app given m
    → command_of words ≡ chosen (subcommand_rows_of m)
unfolding command_of
accepted app given words m is_table same faults matches =
    ap₂ without_fault (sym (ap₂ fault_of is_table same) ∙ faults (ap is_simple_and_free is_table ∙ is_ready))
    (ap chosen (sym (ap₂ subcommand_of is_table same) ∙ sym ((matches (ap is_simple is_table ∙ is_plain)).1)))

-- the name and the rows of a subcommand make the pair
module _ {X : Type 0} (name_in : X → Text) (rows_in : X → List Row) where
  pub joined : (o : Option X) (name : Text) (rows : List Row) → Some name ≡ option_map name_in o
      → Some rows ≡ option_map (λ (p : Text × List Row). p.1) (option_map {U = Text × List Row} (λ x. (name_in x, rows_in x)) o)
      → option_map {U = Text × List Row} (λ x. (name_in x, rows_in x)) o ≡ Some (name, rows)
  joined None name rows named held = absurd (cc (named))
  joined (Some x) name rows named held = cc (named, held)

-- what `subcommand` gives, as the rows of the matches
pub met : (m : ArgMatches) (name : Text) (rows : List Row) → Some name ≡ subcommand_name_of m
    → Some rows ≡ option_map (λ (p : Text × List Row). p.1) (subcommand_rows_of m) → subcommand_rows_of m ≡ Some (name, rows)
met m = joined _ _ (out-ArgMatches m).subcommand
