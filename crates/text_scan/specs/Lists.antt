-- Items of a text, one behind another.
use Rattle.std.specs.Prelude.{◌≡◌, ℕ, zero, suc, Bool, List, [], ◌∷◌, length, Option, Some, None, if◌then◌else◌}
use Rattle.text_scan.specs.Steps.{◌>>=◌}

-- `ReadsAll reads items text rest`: the text is the items in their order, each as `reads` has it, and then the rest.
abbrev pub ReadsAll : {X : Type 0} → (X → List ℕ → List ℕ → Type 0) → List X → List ℕ → List ℕ → Type 0
ReadsAll reads [] text rest = text ≡ rest
ReadsAll reads (item ∷ items) text rest = (middle : List ℕ) × reads item text middle × ReadsAll reads items middle rest

-- the items that a reader of one gives while the text begins with one, at most so many
unfoldable pub items_up_to : {X : Type 0} → (List ℕ → Bool) → (List ℕ → Option (X × List ℕ)) → ℕ → List ℕ → Option (List X × List ℕ)
items_up_to begins item_at zero text = if begins text then None else Some ([], text)
items_up_to begins item_at (suc most) text = if begins text then (item_at text >>= λ item. items_up_to begins item_at most item.1 >>= λ items. Some (item.0 ∷ items.0, items.1)) else Some ([], text)

-- all of them: no item is empty, so a text has no more than bytes
unfoldable pub items_at : {X : Type 0} → (List ℕ → Bool) → (List ℕ → Option (X × List ℕ)) → List ℕ → Option (List X × List ℕ)
items_at begins item_at text = items_up_to begins item_at (length text) text
