-- The keys that a set has kept, in their order.
use Rattle.std.specs.Prelude.{ℕ, List, map}
use Rattle.std.specs.Borrow.{Bor}
use Rattle.std.specs.declared.hash.FoldHasher.{FoldHasher}
use Rattle.std.specs.declared.hash.BuildHasherDefault.{BuildHasherDefault}
use Rattle.indexmap.specs.IndexSet.{IndexSet}

abbrev pub keys_in : IndexSet (Bor (List ℕ)) (BuildHasherDefault FoldHasher) → List (List ℕ)
keys_in seen = map (λ key. key.now) seen.keys
