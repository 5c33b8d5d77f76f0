-- Which elements state a source and have none.
use Rattle.std.specs.Prelude.{◌≡◌, ℕ, Bool, ◌&&◌, List, map, Option, Some, option_map, is_some, ⊤}
use Rattle.std.specs.Option.{is_none}
use Rattle.derive_sources.specs.declared.finding.SourceFault.{SourceFault}
use Rattle.derive_sources.specs.declared.finding.SourceFault.TheVariants.{Missing, Memory}
use Rattle.derive_sources.specs.Numbers.{Rows, path_at}
use Rattle.derived_rows.specs.Faults.{first_missing}
use Rattle.derived_rows.specs.Sources.{source_names, source_of}
use Rattle.svd_model.specs.Stating.{paths_of}
use Rattle.svd_model.specs.Steps.{Step}

-- the element of this path states a source, and has none
abbrev pub is_missing : Rows → List Step → Bool
is_missing all path = is_some (source_names all path) && is_none (source_of all path)

-- these are the numbers of the sources of all elements, in document order
abbrev pub TellsSources : Rows → List (Option ℕ) → Type 0
TellsSources all found = map (option_map (path_at all)) found ≡ map (source_of all) (paths_of all)

-- the first element whose source is missing is told
abbrev pub IsMissing : Rows → SourceFault → Type 0
IsMissing all (Missing number) = first_missing all ≡ Some (path_at all number)
IsMissing all Memory = ⊤
