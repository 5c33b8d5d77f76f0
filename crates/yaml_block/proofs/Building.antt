-- Runs as they are taken off and put in front, and lists that are made item by item.
use Rattle.std.proofs.Common.{◌≡◌, ◌<◌, ℕ, ◌+◌, List, [], ◌∷◌, ◌++◌, map, length, take, get_or, refl, sym, ap, ◌∙◌}
use Rattle.std.specs.Prelude.{reverse}
use Rattle.std.proofs.lemmas.List.{take_more, map-append, reverse-append}
use Rattle.yaml_block.specs.declared.build.Run.{Run}
use Rattle.yaml_block.specs.declared.line.Line.{Line}
use Rattle.yaml_block.specs.Building.{Built, built_in, built_of, built_behind, with_line}

pub map_more : {A B : Type 0} (f : A → B) (xs : List A) (i : ℕ) (x : A) → i < length xs → x ≡ get_or xs i x → map f (take (i + 1) xs) ≡ map f (take i xs) ++ f x ∷ []
map_more f xs i x within is =
    ap (map f) (take_more xs i x within) ∙ map-append f (take i xs) (get_or xs i x ∷ []) ∙ ap (λ y. map f (take i xs) ++ f y ∷ []) (sym is)

pub built_in-put : (runs new : List Run) (run : Run) → new ≡ runs ++ run ∷ [] → built_in new ≡ built_of run ∷ built_in runs
unfolding built_in
built_in-put runs new run whole =
    ap (λ (rs : List Run). reverse (map built_of rs)) whole ∙ ap reverse (map-append built_of runs (run ∷ [])) ∙ reverse-append (map built_of runs) (built_of run ∷ [])

pub built_in-none : (runs : List Run) → runs ≡ [] → built_in runs ≡ []
unfolding built_in
built_in-none runs none = ap (λ (rs : List Run). reverse (map built_of rs)) none

pub behind_last : (lines : List Line) (line : Line) (runs : List Built) → built_behind (lines ++ line ∷ []) runs ≡ built_behind lines (with_line line runs)
unfolding built_behind
behind_last [] line runs = refl
behind_last (first ∷ lines) line runs = ap (with_line first) (behind_last lines line runs)
