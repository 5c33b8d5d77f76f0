-- Real files, of which nothing is told.
use Rattle.std.specs.Prelude.{ℕ}
use Rattle.pac_io.specs.declared.std_files.StdFiles.{StdFiles}

-- how many reads failed
abbrev pub count_of : {R : Type 0} → StdFiles R → ℕ
count_of files = files.faults
