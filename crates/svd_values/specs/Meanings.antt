-- A text has one meaning: no two values, places or indexes are spelled alike.
use Rattle.std.specs.Prelude.{◌≡◌, ℕ, List}
use Rattle.svd_values.specs.declared.place.Place.{Place}
use Rattle.svd_values.specs.declared.index.DimIndex.{DimIndex}
use Rattle.svd_values.specs.Numbers.{IsWholeNumber, IsValueBits}
use Rattle.svd_values.specs.Places.{IsPlace}
use Rattle.svd_values.specs.Indexes.{IsIndex}

abbrev pub HasOneNumber : List ℕ → Type 0
HasOneNumber text = (value other : ℕ) → IsWholeNumber text value → IsWholeNumber text other → value ≡ other

abbrev pub HasOneValue : List ℕ → Type 0
HasOneValue text = (value other : ℕ) → IsValueBits text value → IsValueBits text other → value ≡ other

abbrev pub HasOnePlace : List ℕ → Type 0
HasOnePlace text = (place other : Place) → IsPlace text place → IsPlace text other → place ≡ other

abbrev pub HasOneIndex : List ℕ → Type 0
HasOneIndex text = (index other : DimIndex) → IsIndex text index → IsIndex text other → index ≡ other
