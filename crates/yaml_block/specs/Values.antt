-- The values of block text: scalars, and flow collections of scalars (YAML's flow sequences and mappings, not nested).
use Rattle.std.specs.Prelude.{ℕ, List, [], ◌∷◌, Option, Some, None, codes}
use Rattle.text_scan.specs.Fronts.{rest_of, stripped_of}
use Rattle.text_scan.specs.Lists.{items_at}
use Rattle.text_scan.specs.Steps.{◌>>=◌}
use Rattle.yaml_block.specs.declared.scalar.Place.TheVariants.{Line, Flow}
use Rattle.yaml_block.specs.declared.value.Value.{Value}
use Rattle.yaml_block.specs.declared.value.Value.TheVariants.{Scalar, Sequence, Mapping}
use Rattle.yaml_block.specs.Spaces.{is_space, starts}
use Rattle.yaml_block.specs.Scalars.{scalar_at}

-- a scalar in a flow collection, and the spaces behind it
unfoldable pub text_at : List ℕ → Option (List ℕ × List ℕ)
text_at text = do
  scalar ← scalar_at Flow text
  Some (scalar.0, rest_of is_space scalar.1)

-- a scalar behind a comma
unfoldable pub next_text_at : List ℕ → Option (List ℕ × List ℕ)
next_text_at text = do
  rest ← stripped_of (codes ",") text
  text_at (rest_of is_space rest)

abbrev pub more_texts_at : List ℕ → Option (List (List ℕ) × List ℕ)
more_texts_at text = items_at (starts 44) next_text_at text

-- scalars parted by commas, up to the closing bracket
unfoldable pub texts_at : List ℕ → Option (List (List ℕ) × List ℕ)
texts_at text = do
  first ← text_at text
  others ← more_texts_at first.1
  rest ← stripped_of (codes "]") others.1
  Some (first.0 ∷ others.0, rest)

abbrev pub sequence_or_none : Option (List ℕ) → List ℕ → Option (List (List ℕ) × List ℕ)
sequence_or_none (Some rest) text = Some ([], rest)
sequence_or_none None text = texts_at text

-- what stands behind an opening bracket
unfoldable pub sequence_at : List ℕ → Option (List (List ℕ) × List ℕ)
sequence_at text = sequence_or_none (stripped_of (codes "]") (rest_of is_space text)) (rest_of is_space text)

-- a key and its value in a flow mapping, and the spaces behind them
unfoldable pub pair_at : List ℕ → Option ((List ℕ × List ℕ) × List ℕ)
pair_at text = do
  key ← text_at text
  rest ← stripped_of (codes ": ") key.1
  value ← text_at (rest_of is_space rest)
  Some ((key.0, value.0), value.1)

unfoldable pub next_pair_at : List ℕ → Option ((List ℕ × List ℕ) × List ℕ)
next_pair_at text = do
  rest ← stripped_of (codes ",") text
  pair_at (rest_of is_space rest)

abbrev pub more_pairs_at : List ℕ → Option (List (List ℕ × List ℕ) × List ℕ)
more_pairs_at text = items_at (starts 44) next_pair_at text

unfoldable pub pairs_at : List ℕ → Option (List (List ℕ × List ℕ) × List ℕ)
pairs_at text = do
  first ← pair_at text
  others ← more_pairs_at first.1
  rest ← stripped_of (codes "}") others.1
  Some (first.0 ∷ others.0, rest)

abbrev pub mapping_or_none : Option (List ℕ) → List ℕ → Option (List (List ℕ × List ℕ) × List ℕ)
mapping_or_none (Some rest) text = Some ([], rest)
mapping_or_none None text = pairs_at text

-- what stands behind an opening brace
unfoldable pub mapping_at : List ℕ → Option (List (List ℕ × List ℕ) × List ℕ)
mapping_at text = mapping_or_none (stripped_of (codes "}") (rest_of is_space text)) (rest_of is_space text)

abbrev pub of_scalar : Option (List ℕ × List ℕ) → Option (Value × List ℕ)
of_scalar read = read >>= λ x. Some (Scalar x.0, x.1)

abbrev pub of_sequence : Option (List (List ℕ) × List ℕ) → Option (Value × List ℕ)
of_sequence read = read >>= λ x. Some (Sequence x.0, x.1)

abbrev pub of_mapping : Option (List (List ℕ × List ℕ) × List ℕ) → Option (Value × List ℕ)
of_mapping read = read >>= λ x. Some (Mapping x.0, x.1)

abbrev pub mapping_or_scalar : Option (List ℕ) → List ℕ → Option (Value × List ℕ)
mapping_or_scalar (Some inside) text = of_mapping (mapping_at inside)
mapping_or_scalar None text = of_scalar (scalar_at Line text)

abbrev pub sequence_or_other : Option (List ℕ) → List ℕ → Option (Value × List ℕ)
sequence_or_other (Some inside) text = of_sequence (sequence_at inside)
sequence_or_other None text = mapping_or_scalar (stripped_of (codes "{") text) text

-- the value at the front of the text, and what follows it
unfoldable pub value_at : List ℕ → Option (Value × List ℕ)
value_at text = sequence_or_other (stripped_of (codes "[") text) text
