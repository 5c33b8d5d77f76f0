-- The indexes of the members of an element (CMSIS-SVD 1.3, `dimIndex`): those of a list of indexes, and where there is
-- none the numbers from 0 on.
use Rattle.std.specs.Prelude.{ℕ, ◌+◌, ◌-◌, List, [], ◌∷◌, length, get_or, decimal, Option, None, Some}
use Rattle.svd_values.specs.declared.index.DimIndex.{DimIndex}
use Rattle.svd_values.specs.declared.index.DimIndex.TheVariants.{Numbers, Letters, Words}

-- how many indexes a list gives: no range falls
abbrev pub indexes_given : DimIndex → ℕ
indexes_given (Numbers first last) = last - first + 1
indexes_given (Letters first last) = last - first + 1
indexes_given (Words words) = length words

-- the index of this place in the list, counted from 0: a number has no leading zeros
abbrev pub index_at : DimIndex → ℕ → List ℕ
index_at (Numbers first last) k = decimal (first + k)
index_at (Letters first last) k = (first + k) ∷ []
index_at (Words words) k = get_or words k []

-- the index of the member of this place
abbrev pub index_of : Option DimIndex → ℕ → List ℕ
index_of None k = decimal k
index_of (Some index) k = index_at index k
