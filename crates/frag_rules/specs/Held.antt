-- The entries of a map by names, and the names of a set.
use Rattle.std.specs.Prelude.{ℕ, List, map}
use Rattle.std.specs.Borrow.{Bor}
use Rattle.std.specs.declared.hash.FoldHasher.{FoldHasher}
use Rattle.std.specs.declared.hash.BuildHasherDefault.{BuildHasherDefault}
use Rattle.indexmap.specs.IndexMap.{IndexMap}
use Rattle.indexmap.specs.IndexSet.{IndexSet}

abbrev pub entries_in : {T : Type 0} → IndexMap (Bor (List ℕ)) T (BuildHasherDefault FoldHasher) → List (List ℕ × T)
entries_in held = map (λ entry. (entry.0.now, entry.1)) held.entries

-- the names of a set of names
abbrev pub names_seen : IndexSet (Bor (List ℕ)) (BuildHasherDefault FoldHasher) → List (List ℕ)
names_seen seen = map (λ name. name.now) seen.keys
