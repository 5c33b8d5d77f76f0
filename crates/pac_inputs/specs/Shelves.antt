-- What files tell at one moment, and which of them were asked for in a call.
use Rattle.std.specs.Prelude.{ℕ, ◌≡◌, List, [], ◌∷◌, ◌++◌, map, Option, Some, IfSome}
use Rattle.pac_inputs.specs.Gathering.{FileMap}
use Rattle.pac_inputs.specs.declared.gathering.Wanted.{Wanted}

-- what files tell
pub record Shelf : Type 0 where
  pub files : Option FileMap
  pub asked : Option (List (List ℕ))
  pub faults : ℕ

abbrev pub shelf : Option FileMap → Option (List (List ℕ)) → ℕ → Shelf
shelf files asked faults = record { files = files; asked = asked; faults = faults }

abbrev pub names_of : List Wanted → List (List ℕ)
names_of files = map (λ file. file.name) files

-- the files stay as they are told, and these were asked for
pub record Asks (old new : Shelf) (asked : List Wanted) : Type 0 where
  pub same_files : new.files ≡ old.files
  pub asked_for : IfSome old.asked (λ before. new.asked ≡ Some (before ++ names_of asked))

-- first files of these were asked for, maybe none, maybe all
pub record AsksSome (wanted : List Wanted) (old new : Shelf) : Type 0 where
  pub before : List Wanted
  pub later : List Wanted
  pub first : before ++ later ≡ wanted
  pub asks : Asks old new before

-- the files of these up to this one were asked for
pub record AsksUpTo (file : Wanted) (wanted : List Wanted) (old new : Shelf) : Type 0 where
  pub before : List Wanted
  pub later : List Wanted
  pub first : before ++ (file ∷ later) ≡ wanted
  pub asks : Asks old new (before ++ file ∷ [])
