-- A fault at one item is the fault of the list.
use Rattle.std.proofs.Common.{◌≡◌, ℕ, Bool, true, List, Option}
use Rattle.text_scan.specs.Lists.{items_at}
use Rattle.text_scan.proofs.Lists.{Shrinks, with_front, breaks_off}
use Rattle.yaml_block.specs.declared.refusal.Refusal.{Refusal}
use Rattle.yaml_block.specs.declared.refusal.Refusal.TheVariants.{NotInForm, Memory}
use Rattle.yaml_block.specs.Reading.{Fails}

pub ends : {X : Type 0} (begins : List ℕ → Bool) (item_at : List ℕ → Option (X × List ℕ)) → Shrinks item_at → (fault : Refusal) (front : List X) (text : List ℕ) (total : Option (List X × List ℕ))
    → begins text ≡ true → Fails fault (item_at text) → with_front front (items_at begins item_at text) ≡ total → Fails fault total
ends begins item_at shrinks NotInForm front text total starts none so_far = breaks_off begins item_at shrinks front text total starts none so_far
ends begins item_at shrinks Memory front text total starts none so_far = tt
