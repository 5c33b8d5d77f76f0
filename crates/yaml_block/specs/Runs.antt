-- Reading lines from the last to the first: runs of items and of entries at one indent each.
use Rattle.std.specs.Prelude.{ℕ, List, [], ◌∷◌, ◌==◌, nat_le, nat_lt, if◌then◌else◌}
use Rattle.yaml_block.specs.declared.value.Value.{Value}
use Rattle.yaml_block.specs.declared.content.Content.{Content}
use Rattle.yaml_block.specs.declared.content.Content.TheVariants.{Item, Key, Entry}
use Rattle.yaml_block.specs.declared.line.Line.{Line}
use Rattle.yaml_block.specs.Blocks.{Forest, ended, valued, keyed, listed, nested}

pub data Run : Type 0 where
  listing : ℕ → ℕ × Value → List (ℕ × Value) → Run
  mapping : ℕ → Forest → Run

-- an item joins the run of items at its indent, or begins one
unfoldable pub with_item : ℕ → ℕ × Value → List Run → List Run
with_item indent item [] = listing indent item [] ∷ []
with_item indent item (listing other first items ∷ runs) = if indent == other then listing indent item (first ∷ items) ∷ runs else listing indent item [] ∷ listing other first items ∷ runs
with_item indent item (mapping other forest ∷ runs) = listing indent item [] ∷ mapping other forest ∷ runs

-- an entry joins the run of entries at its indent, or begins one
unfoldable pub with_entry : ℕ → (Forest → Forest) → List Run → List Run
with_entry indent entry [] = mapping indent (entry ended) ∷ []
with_entry indent entry (listing other first items ∷ runs) = mapping indent (entry ended) ∷ listing other first items ∷ runs
with_entry indent entry (mapping other forest ∷ runs) = if indent == other then mapping indent (entry forest) ∷ runs else mapping indent (entry ended) ∷ mapping other forest ∷ runs

-- a key without a value takes the run behind it, where that belongs to it
unfoldable pub with_key : ℕ → ℕ → List ℕ → List Run → List Run
with_key indent number key [] = with_entry indent (keyed number key) []
with_key indent number key (listing other first items ∷ runs) =
    if nat_le indent other then with_entry indent (listed number key first items) runs else with_entry indent (keyed number key) (listing other first items ∷ runs)
with_key indent number key (mapping other forest ∷ runs) =
    if nat_lt indent other then with_entry indent (nested number key forest) runs else with_entry indent (keyed number key) (mapping other forest ∷ runs)

abbrev pub with_content : ℕ → ℕ → Content → List Run → List Run
with_content number indent (Item value) runs = with_item indent (number, value) runs
with_content number indent (Key key) runs = with_key indent number key runs
with_content number indent (Entry key value) runs = with_entry indent (valued number key value) runs

unfoldable pub grouped : List Line → List Run
grouped [] = []
grouped (line ∷ lines) = with_content line.number line.indent line.content (grouped lines)
