-- Runs over elements that make something of each: what was made and what is still to come make the whole.
use Rattle.std.proofs.Common.{◌≡◌, ℕ, ◌+◌, ◌<◌, ◌≤◌, List, ◌++◌, length, map, flat_map, Option, Some, None, slice_index_or, refl, sym, ap, ◌∙◌, append_assoc, append-nil}
use Rattle.std.proofs.lemmas.List.{map-append}
use Rattle.svd_text.specs.declared.element.Element.{Element}
use Rattle.svd_text.specs.Views.{element_of}
use Rattle.svd_keys.specs.Children.{Tree}
use Rattle.svd_keys.proofs.Loops.{left, left-next, left-none}
use Rattle.svd_reader.specs.Walk.{told}

map_told : {X Y : Type 0} (seen : X → Y) (more : Option X) → map seen (told (λ x. x) more) ≡ told seen more
map_told seen None = refl
map_told seen (Some x) = refl

-- one more, or none
pub kept_more : {X Y : Type 0} (seen : X → Y) (at : Tree → List Y) (items : List Element) (i : ℕ) (item : Element) (made new : List X) (more : Option X) (whole : List Y)
    → i < length items → item ≡ slice_index_or items i item
    → new ≡ made ++ told (λ x. x) more → told seen more ≡ at (element_of item)
    → map seen made ++ flat_map at (left items i) ≡ whole → map seen new ++ flat_map at (left items (i + 1)) ≡ whole
kept_more seen at items i item made new more whole inside is grew says before =
    ap (λ all. map seen all ++ flat_map at (left items (i + 1))) grew
    ∙ ap (λ all. all ++ flat_map at (left items (i + 1))) (map-append seen made (told (λ x. x) more) ∙ ap (λ last. map seen made ++ last) (map_told seen more ∙ says))
    ∙ append_assoc (map seen made) (at (element_of item)) (flat_map at (left items (i + 1)))
    ∙ ap (λ trees. map seen made ++ flat_map at trees) (sym (left-next items i item inside is))
    ∙ before

-- nothing is still to come
pub kept_all : {Y : Type 0} (at : Tree → List Y) (items : List Element) (i : ℕ) (made whole : List Y)
    → length items ≤ i → made ++ flat_map at (left items i) ≡ whole → made ≡ whole
kept_all at items i made whole past before = sym (append-nil made) ∙ ap (λ trees. made ++ flat_map at trees) (sym (left-none items i past)) ∙ before

-- what is still to come begins with what the next element is
pub next_part : {Y : Type 0} (at : Tree → List Y) (items : List Element) (i : ℕ) (item : Element) (made whole : List Y)
    → i < length items → item ≡ slice_index_or items i item
    → made ++ flat_map at (left items i) ≡ whole → whole ≡ made ++ (at (element_of item) ++ flat_map at (left items (i + 1)))
next_part at items i item made whole inside is before = sym before ∙ ap (λ trees. made ++ flat_map at trees) (left-next items i item inside is)
