-- The parts of a crate's text.
use Rattle.std.proofs.Common.{◌≡◌, ◌∷◌, ◌++◌, [], List, ap, sym, ◌∙◌, refl, map, append_assoc}
use Rattle.std.specs.List.{flat_map}
use Rattle.std.proofs.lemmas.Grind.{flat_map-append}
use Rattle.frag_words.specs.Lines.{line_text, lines_text}
use Rattle.frag_tree.specs.Crates.{crate_lines, head_text, parts_of, printed, slots_lines, top_lines, top_text, version_lines}
use Rattle.frag_tree.specs.Trees.{BlockTree, CrateTree}

tops-joined : (blocks : List BlockTree) → flat_map (λ part. part) (map top_text blocks) ≡ lines_text (flat_map top_lines blocks)
tops-joined [] = refl
tops-joined (block ∷ others) = ap (λ xs. top_text block ++ xs) (tops-joined others) ∙ sym (flat_map-append line_text (top_lines block) (flat_map top_lines others))

pub parts-joined : (krate : CrateTree) → flat_map (λ part. part) (parts_of krate) ≡ printed krate
unfolding crate_lines
parts-joined krate =
    ap (λ xs. head_text krate.version krate.slots ++ xs) (tops-joined krate.blocks)
    ∙ (sym (flat_map-append line_text (version_lines krate.version ++ slots_lines krate.slots) (flat_map top_lines krate.blocks))
    ∙ ap lines_text (append_assoc (version_lines krate.version) (slots_lines krate.slots) (flat_map top_lines krate.blocks)))
