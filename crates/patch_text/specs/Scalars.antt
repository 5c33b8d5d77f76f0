-- Scalars: a plain one, or one within quotes (YAML's flow scalars, narrowed to one line).
use Rattle.std.specs.Prelude.{◌≡◌, ◌⊎◌, ℕ, List, ◌++◌}
use Rattle.yaml_block.specs.declared.quoted.Quote.{Quote}
use Rattle.yaml_block.specs.declared.quoted.Quote.TheVariants.{Single, Double}
use Rattle.yaml_block.specs.declared.scalar.Place.{Place}
use Rattle.yaml_block.specs.Quoting.{IsQuoted}
use Rattle.yaml_block.specs.Scalars.{mark_of}
use Rattle.patch_text.specs.PlainScalars.{IsPlain}

-- the text is a quote, what stands for the bytes, the closing quote, and then the rest
abbrev pub IsWithin : Quote → List ℕ → List ℕ → List ℕ → Type 0
IsWithin quote scalar text rest = (inside : List ℕ) × (text ≡ mark_of quote ++ inside) × IsQuoted quote scalar inside rest

-- the text is the scalar, plain or within quotes, and then the rest
abbrev pub IsScalar : Place → List ℕ → List ℕ → List ℕ → Type 0
IsScalar place scalar text rest =
    (IsPlain place scalar × (text ≡ scalar ++ rest)) ⊎ (IsWithin Single scalar text rest ⊎ IsWithin Double scalar text rest)
