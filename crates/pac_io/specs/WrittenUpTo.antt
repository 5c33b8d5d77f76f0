-- How far a run of writes has come.
use Rattle.std.specs.Prelude.{ℕ, ◌≡◌, List, ◌++◌, Option}
use Rattle.std.specs.Io.KnownBytes.{Appends}

-- Of all the bytes that are to be written, those before `rest` were appended to what a sink told, and `rest` is still to come. Where the sink tells nothing, this says nothing of it. A run of writes begins with `rest ≡ all` and is done with `rest ≡ []`. This project's own rule.
pub record WrittenUpTo (old now : Option (List ℕ)) (all rest : List ℕ) : Type 0 where
  pub done : List ℕ
  pub whole : done ++ rest ≡ all
  pub appended : Appends old now done
