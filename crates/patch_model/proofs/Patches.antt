-- What block text spells is a patch: a mapping, or nothing.
use Rattle.std.proofs.Common.{ℕ, List, [], ◌∷◌, subst, sym}
use Rattle.yaml_block.specs.Answers.{IsBlock}
use Rattle.yaml_block.specs.Meanings.{entries_in, file_tree}
use Rattle.yaml_block.specs.Trees.{Tree}
use Rattle.patch_model.specs.Answers.{IsPatch}

file_patch : (named : List (ℕ × List ℕ × Tree)) → IsPatch (file_tree named)
file_patch [] = tt
file_patch (first ∷ others) = tt

pub block_patch : (bytes : List ℕ) (tree : Tree) → IsBlock bytes tree → IsPatch tree
block_patch bytes tree block = subst IsPatch (sym block.fits.blocks.meant) (file_patch (entries_in block.fits.blocks.forest))
