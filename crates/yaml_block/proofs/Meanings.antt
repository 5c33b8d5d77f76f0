-- No lines spell two nodes.
use Rattle.std.proofs.Common.{◌≡◌, List, ap, sym, ◌∙◌}
use Rattle.yaml_block.specs.declared.line.Line.{Line}
use Rattle.yaml_block.specs.Blocks.{Forest}
use Rattle.yaml_block.specs.Meanings.{Blocks, entries_in, file_tree}
use Rattle.yaml_block.specs.Trees.{Tree}
use Rattle.yaml_block.proofs.Blocks.{one_spelled}

pub one_meant : (one other : Tree) (lines : List Line) → Blocks lines one → Blocks lines other → one ≡ other
one_meant one other lines first second =
    first.meant
    ∙ ap (λ (forest : Forest). file_tree (entries_in forest)) (one_spelled first.forest second.forest lines first.spelled second.spelled)
    ∙ sym second.meant
