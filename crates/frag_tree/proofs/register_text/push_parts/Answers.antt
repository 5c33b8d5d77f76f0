use Rattle.std.proofs.Common.{◌∷◌, ◌++◌, map}
use Rattle.std.specs.List.{flat_map}
use Rattle.std.proofs.lemmas.Result.{on_ok_weaker}
use Rattle.frag_tree.specs.Registers.{head_lines, readable_lines, writable_lines, reset_line, marker_line, readers_lines, writers_lines, values_lines}
use Rattle.frag_tree.proofs.Printed.{put_more, put_then}
use Rattle.frag_tree.proofs.register_text.push_parts.Goals as goal

pub returns : goal.returns
returns c =
    let depth = c.args.depth in
    let parts = c.args.register.now in
    let values = flat_map (values_lines depth) parts.values in
    let writers = writers_lines depth parts.writers in
    let readers = readers_lines depth parts.readers in
    let markers = map (marker_line depth) parts.markers in
    let writable = writable_lines depth parts.writable in
    let readable = readable_lines depth parts.readable in
    on_ok_weaker c.push_all_values.result
    (λ e. put_then _ _ _ (head_lines depth parts) (readable ++ (writable ++ (reset_line depth parts.reset ∷ (markers ++ (readers ++ (writers ++ values)))))) c.in_ok-push_head.ensures
    (put_then _ _ _ readable (writable ++ (reset_line depth parts.reset ∷ (markers ++ (readers ++ (writers ++ values))))) c.in_ok-push_readable.ensures
    (put_then _ _ _ writable (reset_line depth parts.reset ∷ (markers ++ (readers ++ (writers ++ values)))) c.in_ok-push_writable.ensures
    (put_more _ _ _ (reset_line depth parts.reset) (markers ++ (readers ++ (writers ++ values))) c.in_ok-push_reset.ensures
    (put_then _ _ _ markers (readers ++ (writers ++ values)) (rw (← c.as_slice.ensures) c.in_ok-push_markers.ensures)
    (put_then _ _ _ readers (writers ++ values) c.in_ok-push_readers.ensures
    (put_then _ _ _ writers values c.in_ok-push_writers.ensures (rw (← c.as_slice-2.ensures) e))))))))
    c.push_all_values.ensures
