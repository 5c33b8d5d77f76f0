-- The content of a line: a value behind `- `, a key, or a key and its value, with spaces round them and a comment behind.
use Rattle.std.specs.Prelude.{◌≡◌, ℕ, true, List, ◌++◌, Some, codes}
use Rattle.yaml_block.specs.declared.content.Content.{Content}
use Rattle.yaml_block.specs.declared.content.Content.TheVariants.{Item, Key, Entry}
use Rattle.yaml_block.specs.declared.scalar.Place.TheVariants.{Line}
use Rattle.yaml_block.specs.declared.value.Value.{Value}
use Rattle.yaml_block.specs.declared.value.Value.TheVariants.{Scalar, Sequence, Mapping}
use Rattle.text_scan.specs.Fronts.{rest_of}
use Rattle.yaml_block.specs.Spaces.{ends, is_space}
use Rattle.yaml_block.specs.Values.{value_at}
use Rattle.patch_text.specs.Parts.{AreSpaces, IsEnd}
use Rattle.patch_text.specs.Scalars.{IsScalar}
use Rattle.patch_text.specs.FlowCollections.{IsFlowList, IsFlowMapping}

-- the text is the value, a scalar or a flow collection, and then the rest
abbrev pub IsValue : Value → List ℕ → List ℕ → Type 0
IsValue (Scalar scalar) text rest = IsScalar Line scalar text rest
IsValue (Sequence scalars) text rest = (inside : List ℕ) × (text ≡ codes "[" ++ inside) × IsFlowList scalars inside rest
IsValue (Mapping pairs) text rest = (inside : List ℕ) × (text ≡ codes "{" ++ inside) × IsFlowMapping pairs inside rest

-- the text is spaces, the value, and then nothing that counts
pub record IsLastValue (value : Value) (text : List ℕ) : Type 0 where
  pub gap : List ℕ
  pub inside : List ℕ
  pub rest : List ℕ
  pub spaces : AreSpaces gap
  pub opens : text ≡ gap ++ inside
  pub value_there : IsValue value inside rest
  pub end_there : IsEnd rest

-- what the reader of values takes behind spaces is this value, and it leaves nothing that counts
abbrev pub IsReadLast : Value → List ℕ → Type 0
IsReadLast value text = (rest : List ℕ) × (value_at (rest_of is_space text) ≡ Some (value, rest)) × (ends rest ≡ true)

-- the text is the key, spaces, a colon, and then the rest
pub record IsKey (key text rest : List ℕ) : Type 0 where
  pub gap : List ℕ
  pub spaces : AreSpaces gap
  pub key_there : IsScalar Line key text (gap ++ (codes ":" ++ rest))

-- the text, behind the spaces at the front of its line, is `- value`, `key:` or `key: value`
abbrev pub IsContent : Content → List ℕ → Type 0
IsContent (Item value) text = (rest : List ℕ) × (text ≡ codes "- " ++ rest) × IsLastValue value rest
IsContent (Key key) text = (rest : List ℕ) × IsKey key text rest × IsEnd rest
IsContent (Entry key value) text = (rest : List ℕ) × IsKey key text (codes " " ++ rest) × IsLastValue value rest
