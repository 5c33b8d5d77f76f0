-- What the definitions mean: which fault is the least, and which texts are in the forms of values (CMSIS-SVD 1.3).
use Rattle.std.specs.Prelude.{◌≡◌, ◌↔◌, ℕ, ◌<◌, ◌≤◌, ◌^◌, List, ◌∷◌, ◌++◌, Some}
use Rattle.std.specs.List.{AllByRecursion}
use Rattle.pac_base.specs.Names.{IsName}
use Rattle.svd_values.specs.declared.index.DimIndex.{DimIndex}
use Rattle.svd_values.specs.declared.place.Place.{Place}
use Rattle.svd_values.specs.declared.schema_word.Access.{Access}
use Rattle.svd_values.specs.declared.schema_word.ReadAction.{ReadAction}
use Rattle.svd_values.specs.declared.schema_word.Usage.{Usage}
use Rattle.svd_values.specs.declared.schema_word.WriteKind.{WriteKind}
use Rattle.svd_values.specs.Indexes.{IsIndex}
use Rattle.svd_values.specs.Numbers.{IsWholeNumber, IsValueBits}
use Rattle.svd_values.specs.Places.{IsPlace}
use Rattle.svd_values.specs.SchemaWords.{access_text, write_kind_text, read_action_text, usage_text}
use Rattle.svd_keys.specs.declared.fault.PlacedFault.{PlacedFault}
use Rattle.svd_keys.specs.Earliest.{earlier, least}
use Rattle.svd_keys.specs.Forms.{number_of, bits_of, access_of, kind_of, action_of, usage_of, range_of, name_of, index_of}

-- the fault is one of these, those before it stand at greater places, and those behind it at no lesser one
pub record IsFirstOf (faults : List PlacedFault) (fault : PlacedFault) : Type 0 where
  pub before : List PlacedFault
  pub after : List PlacedFault
  pub whole : faults ≡ before ++ (fault ∷ after)
  pub earlier_than_before : AllByRecursion (λ other. fault.at < other.at) before
  pub not_behind : AllByRecursion (λ other. fault.at ≤ other.at) after

abbrev pub LeastIsFirst : Type 0
LeastIsFirst = (faults : List PlacedFault) (fault : PlacedFault) → least faults ≡ Some fault → IsFirstOf faults fault

abbrev pub LeastJoins : Type 0
LeastJoins = (xs ys : List PlacedFault) → least (xs ++ ys) ≡ earlier (least xs) (least ys)

-- each form gives a value exactly where the text is written so
pub record FormsAreMeant : Type 0 where
  pub numbers : (text : List ℕ) (value : ℕ) → (number_of text ≡ Some value) ↔ (IsWholeNumber text value × (value < 2 ^ 64))
  pub bits : (text : List ℕ) (value : ℕ) → (bits_of text ≡ Some value) ↔ (IsValueBits text value × (value < 2 ^ 64))
  pub accesses : (text : List ℕ) (value : Access) → (access_of text ≡ Some value) ↔ (text ≡ access_text value)
  pub kinds : (text : List ℕ) (value : WriteKind) → (kind_of text ≡ Some value) ↔ (text ≡ write_kind_text value)
  pub actions : (text : List ℕ) (value : ReadAction) → (action_of text ≡ Some value) ↔ (text ≡ read_action_text value)
  pub usages : (text : List ℕ) (value : Usage) → (usage_of text ≡ Some value) ↔ (text ≡ usage_text value)
  pub ranges : (text : List ℕ) (place : Place) → (range_of text ≡ Some place) ↔ IsPlace text place
  pub names : (text name : List ℕ) → (name_of text ≡ Some name) ↔ ((name ≡ text) × IsName text)
  pub indexes : (text : List ℕ) (index : DimIndex) → (index_of text ≡ Some index) ↔ IsIndex text index
