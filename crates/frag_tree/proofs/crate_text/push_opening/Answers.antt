use Rattle.std.proofs.Common.{◌∷◌, ◌++◌, ◌+◌, ap, sym, subst, ℕ, ◌≡◌}
use Rattle.std.proofs.lemmas.Result.{on_ok_weaker}
use Rattle.frag_words.specs.Lines.{line, lines_text}
use Rattle.frag_tree.specs.declared.block.Block.{out-Block}
use Rattle.frag_tree.specs.Blocks.{module_opening, prelude_line, struct_lines, accessor_lines, opening_lines}
use Rattle.frag_tree.specs.Trees.{BlockHead, BlockTree, block_tree}
use Rattle.frag_tree.proofs.Trees.{block_tree-is}
use Rattle.frag_tree.proofs.Printed.{put_more, put_then}
use Rattle.frag_tree.proofs.crate_text.push_opening.Goals as goal

pub returns : goal.returns
unfolding opening_lines
returns c =
    let depth = c.args.depth in
    let held = out-Block c.args.block.now in
    let fields = struct_lines (depth + 1) held.fields in
    let accessors = accessor_lines (depth + 1) held.accessors in
    let head : BlockHead = record { name = held.name; fields = held.fields; accessors = held.accessors } in
    let is : head ≡ (block_tree c.args.block.now).head = sym (ap (λ (tree : BlockTree). tree.head) (block_tree-is c.args.block.now)) in
    on_ok_weaker c.push_accessors.result
    (λ e. subst (λ (h : BlockHead). c.push_accessors.new.page ≡ c.args.page.now ++ lines_text (opening_lines depth h)) is
    (put_more _ _ _ (line depth (module_opening held.name)) (prelude_line (depth + 1) ∷ (fields ++ accessors)) c.in_ok-push_line.ensures
    (put_more _ _ _ (prelude_line (depth + 1)) (fields ++ accessors) (rw c.in_ok-inner.ensures at c.in_ok-push_fixed.ensures)
    (put_then _ _ _ fields accessors (subst (λ (d : ℕ). c.push_struct.new.page ≡ c.push_fixed.new.page ++ lines_text (struct_lines d held.fields)) c.in_ok-inner.ensures (rw c.as_slice.ensures at c.in_ok-push_struct.ensures))
    (subst (λ (d : ℕ). c.push_accessors.new.page ≡ c.push_struct.new.page ++ lines_text (accessor_lines d held.accessors)) c.in_ok-inner.ensures (rw c.as_slice-2.ensures at e))))))
    c.push_accessors.ensures
